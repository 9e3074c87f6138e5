-- Letting go: the table lets only a Flushed write go, and the loop that counts those that leave from the head.
use Prim.Native.Nat.{ℕ, zero, suc, ◌+◌, ◌≤◌, ◌<◌}
use mathlib.Core.Path.{◌≡◌, refl, sym, ◌∙◌, ap}
use mathlib.Core.Bool.{Bool, true, false, not}
use mathlib.Core.List.{List, [], ◌∷◌, ◌++◌, map, map-append, append_assoc, append-nil}
use native.Mathlib.Omega.{arith}
use native.Mathlib.Numerals.{add-one}
use lib.ListN.{length, take, drop, get_or, length-append, take-append-drop}
use lib.Seq.{length-take-le, drop-append_seam, drop-cons}
use Rattle.std.proofs.lemmas.List.{drop_all, take_more}
use lib.Dec.{eqb}
use borrow.Author.Tests.{eq-eqb, ne_eqb}
use Rattle.std.specs.List.{list_any}
use Rattle.layout.specs.Sizes.{slots_of}
use Rattle.layout.specs.Bytes.{both}
use Rattle.walk.specs.Walk.{slots_used}
use Rattle.walk.proofs.Chain.{used_append}
use Rattle.state.proofs.Library.{any_list}
use Rattle.state.specs.declared.Pin.{Pin}
use Rattle.state.specs.declared.Held.{Held}
use Rattle.state.specs.Lists.{flushed, gone, no_held, entry_of}
use Rattle.state.specs.Moves.{move_of, let_go}
use Rattle.state.specs.Pins.{keeps, is_due, leaving, staying, slots_left}

-- the column "let go" has one move, from Flushed to Gone
pub let_go_flushed : (p : ℕ) → p < 4 → eqb (move_of p let_go) gone ≡ eqb p flushed
unfolding move_of
let_go_flushed zero h = refl
let_go_flushed (suc zero) h = refl
let_go_flushed (suc (suc zero)) h = refl
let_go_flushed (suc (suc (suc zero))) h = refl
let_go_flushed (suc (suc (suc (suc p)))) h = absurd (omega arith)

abbrev pub slots_in : List Held → ℕ
slots_in hs = slots_used (map entry_of hs)

pub slots_append : (hs ks : List Held) → slots_in (hs ++ ks) ≡ slots_in hs + slots_in ks
slots_append hs ks = rw (map-append) (used_append (map entry_of hs) (map entry_of ks))

-- those before place i are due, and take so many slots
pub record Counting (ps : List Pin) (hs : List Held) (i slots : ℕ) : Type 0 where
  pub rest : leaving ps hs ≡ take i hs ++ leaving ps (drop i hs)
  pub sum : slots ≡ slots_in (take i hs)

module _ (ps : List Pin) (hs : List Held) where
  module _ (i slots : ℕ) (s : Counting ps hs i slots) where
    -- what the loop answers where none of the rest leaves
    count_stop : i ≤ length hs → leaving ps (drop i hs) ≡ [] → (i ≡ length (leaving ps hs)) × (slots ≡ slots_left ps hs)
    count_stop u e =
        let w : leaving ps hs ≡ take i hs = s.rest ∙ ap (take i hs ++◌) e ∙ append-nil (take i hs) in
        (sym (ap length w ∙ length-take-le i hs u), s.sum ∙ ap slots_in (sym w))

    pub count_end : i ≡ length hs → (length hs ≡ length (leaving ps hs)) × (slots ≡ slots_left ps hs)
    unfolding leaving
    count_end k = let w = count_stop (omega arith) (rw (drop_all i hs (omega arith))) in (sym k ∙ w.0, w.1)

    module _ (h : i < length hs) where
      pub count_here : is_due ps (get_or hs i no_held) ≡ false → (i ≡ length (leaving ps hs)) × (slots ≡ slots_left ps hs)
      unfolding leaving
      count_here t = count_stop (omega arith) (rw (drop-cons hs i no_held, t))

      -- one more
      more_slots : slots_in (take (i + 1) hs) ≡ slots + slots_of (get_or hs i no_held).entry.length
      more_slots =
          let a = slots_append (take i hs) (get_or hs i no_held ∷ []) in
          let z = s.sum in
          ap slots_in (take_more hs i no_held h) ∙ omega arith

      -- the slots counted are some of all
      pub count_most : slots + slots_of (get_or hs i no_held).entry.length ≤ slots_in hs
      count_most =
          let w = take-append-drop (i + 1) hs in
          let a = slots_append (take (i + 1) hs) (drop (i + 1) hs) in
          let b = ap slots_in w in
          let z = more_slots in
          omega arith

      pub count_on : is_due ps (get_or hs i no_held) ≡ true → Counting ps hs (i + 1) (slots + slots_of (get_or hs i no_held).entry.length)
      unfolding leaving
      count_on t =
          record {
            rest = s.rest ∙ rw (drop-cons hs i no_held, t, take_more hs i no_held h, append_assoc, add-one);
            sum = sym more_slots;
          }

-- what the code's test of a write comes to
module _ (ps : List Pin) (h : Held) (w : h.phase < 4) where
  pub due_yes : move_of h.phase let_go ≡ gone → is_due ps h ≡ not (list_any (keeps h) ps)
  unfolding is_due both
  due_yes k = rw (sym (let_go_flushed h.phase w) ∙ eq-eqb _ gone k, any_list (keeps h) ps)

  pub due_no : (move_of h.phase let_go ≡ gone → ⊥) → is_due ps h ≡ false
  unfolding is_due both
  due_no k = rw (sym (let_go_flushed h.phase w) ∙ ne_eqb _ gone k)

-- ---- those that leave, and those that stay

module _ (ps : List Pin) where
  split_by : (h : Held) (hs : List Held) (b : Bool) → is_due ps h ≡ b → leaving ps hs ++ staying ps hs ≡ hs → leaving ps (h ∷ hs) ++ staying ps (h ∷ hs) ≡ h ∷ hs
  unfolding leaving staying
  split_by h hs true e k = rw e (ap (◌∷◌ h) k)
  split_by h hs false e k = rw e

  pub leave_split : (hs : List Held) → leaving ps hs ++ staying ps hs ≡ hs
  unfolding leaving staying
  leave_split [] = refl
  leave_split (h ∷ hs) = split_by h hs (is_due ps h) refl (leave_split hs)

  pub leave_drop : (hs : List Held) → drop (length (leaving ps hs)) hs ≡ staying ps hs
  leave_drop hs = ap (drop (length (leaving ps hs))) (sym (leave_split hs)) ∙ drop-append_seam (leaving ps hs) (staying ps hs)

  pub leave_few : (hs : List Held) → length (leaving ps hs) ≤ length hs
  leave_few hs =
      let e = ap length (leave_split hs) in
      let a : length (leaving ps hs ++ staying ps hs) ≡ length (leaving ps hs) + length (staying ps hs) = length-append (leaving ps hs) (staying ps hs) in
      omega arith

  pub leave_slots : (hs : List Held) → slots_left ps hs ≤ slots_in hs
  leave_slots hs =
      let e = ap slots_in (leave_split hs) in
      let a = slots_append (leaving ps hs) (staying ps hs) in
      omega arith
