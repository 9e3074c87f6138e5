-- From a fetch on: a shore file seen while a pin is live, with the node's held writes laid over it, stays the history's file.
use Prim.Native.Nat.{ℕ, ◌≤◌, ◌<◌}
use mathlib.Core.Path.{◌≡◌, refl, sym, ap, ◌∙◌}
use mathlib.Core.Bool.{Bool, true, false, not}
use mathlib.Core.List.{List, [], ◌∷◌, ◌++◌}
use native.Mathlib.Omega.{arith}
use borrow.Author.Tests.{le-leb, leb-true}
use lib.Dec.{eqb, leb}
use Rattle.layout.specs.Bytes.{both}
use Rattle.layout.proofs.Tests.{both_left, both_right, true_not_false}
use Rattle.walk.specs.Walk.{Write}
use Rattle.state.specs.declared.State.{State}
use Rattle.state.specs.declared.Pin.{Pin}
use Rattle.state.specs.Lists.{pick, those}
use Rattle.state.proofs.Bools.{both_yes, both_intro}
use Rattle.state.proofs.Finding.{Each, each_by}
use Rattle.shore.specs.File.{lay, puts_all}
use Rattle.shore.proofs.Files.{lay_append}
use Rattle.shore.proofs.Again.{absorb, has_end}
use Rattle.history.specs.Tale.{Tale, among, in_reach, is_of, leave, is_pinned}
use Rattle.state.proofs.Those.{those_append, those_none, those_all, those_both}
use Rattle.history.proofs.Shores.{puts_append, OnShore, Parted, file_of, of_node, sure, waits, waiting}
use Rattle.history.proofs.Rising.{InOrder, order_above, order_keep}
use Rattle.history.proofs.Changes.{Change, stays, grew, let_go}
use Rattle.history.proofs.Marks.{still_waits}
use Rattle.history.proofs.Pinned.{is_live_in, in_any}

module _ (node m : ℕ) where
  abbrev high : Write → Bool
  high w = leb m w.number

  -- a node's writes from a number on
  abbrev pub from : List Write → List Write
  from ws = those (λ w. both (is_of node w) (leb m w.number)) ws

  -- in number order they stand behind the others
  split_by : (last : ℕ) (ws : List Write) → InOrder last ws → ws ≡ those (λ w. not (high w)) ws ++ those high ws
  split_by last [] o = refl
  split_by last (w ∷ ws) o = at (leb m w.number) refl (split_by w.number ws o.1)
    where
      at : (b : Bool) → leb m w.number ≡ b → ws ≡ those (λ w. not (high w)) ws ++ those high ws
          → w ∷ ws ≡ pick (not b) (w ∷ those (λ w. not (high w)) ws) (those (λ w. not (high w)) ws) ++ pick b (w ∷ those high ws) (those high ws)
      at false e k = ap (◌∷◌ w) k
      at true e k =
          let h = leb-true m w.number e in
          let a : Each (λ v. high v ≡ true) ws = each_by _ _ ws (λ v l. le-leb m v.number (omega arith)) (order_above w.number ws o.1) in
          let n : those (λ w. not (high w)) ws ≡ [] = those_none (λ w. not (high w)) ws (each_by _ _ ws (λ v z. ap not z) a) in
          rw (n, those_all high ws a) refl

  from_is : (ws : List Write) → from ws ≡ those high (of_node node ws)
  from_is ws = those_both (is_of node) high ws

  abbrev pub early : List Write → List Write
  early ws = those (λ w. not (high w)) (of_node node ws)

  pub parted_from : (last : ℕ) (ws : List Write) → InOrder last ws → puts_all (of_node node ws) ≡ puts_all (early ws) ++ puts_all (from ws)
  parted_from last ws o =
      ap puts_all (split_by last (of_node node ws) (order_keep (is_of node) last ws o)) ∙ puts_append (early ws) (those high (of_node node ws))
      ∙ ap (λ xs. puts_all (early ws) ++ puts_all xs) (sym (from_is ws))

  -- ---- at the fetch

  module _ (files shore : ℕ → List ℕ) (accepted held : List Write) (good : List ℕ) (k : OnShore files shore accepted held good) (parted : Parted good held) (order : InOrder 0 held)
      (low : Each (λ w. still_waits good node w ≡ true → m ≤ w.number) held) where
    has_from : lay (file_of files accepted node) (puts_all (from held)) ≡ file_of files accepted node
    has_from = has_end (file_of files accepted node) (puts_all (early held)) (puts_all (from held)) (ap (lay (file_of files accepted node)) (sym (parted_from 0 held order)) ∙ k.has node)

    reach_of : (w : Write) → is_of node w ≡ true → in_reach node w ≡ true
    reach_of w e = at (eqb node 0)
      where
        at : (b : Bool) → pick b true (is_of node w) ≡ true
        at true = refl
        at false = e

    high_waiting : (ws : List Write) → Each (λ w. still_waits good node w ≡ true → m ≤ w.number) ws → Each (λ w. high w ≡ true) (waiting good node ws)
    high_waiting [] o = tt
    high_waiting (w ∷ ws) o = at (waits good node w) refl (high_waiting ws o.1)
      where
        at : (b : Bool) → waits good node w ≡ b → Each (λ w. high w ≡ true) (waiting good node ws) → Each (λ w. high w ≡ true) (pick b (w ∷ waiting good node ws) (waiting good node ws))
        at false e u = u
        at true e u =
            (le-leb m w.number (o.0 (both_intro _ _ (reach_of w (both_left _ _ e)) (both_right (is_of node w) _ e))), u)

    from_waits : from held ≡ those high (sure good node held) ++ waiting good node held
    from_waits =
        from_is held ∙ ap (those high) (parted node) ∙ those_append high (sure good node held) (waiting good node held)
        ∙ ap (◌++◌ (those high (sure good node held))) (those_all high (waiting good node held) (high_waiting held low))

    pub fetched_from : lay (shore node) (puts_all (from held)) ≡ file_of files accepted node
    fetched_from =
        let e : puts_all (from held) ≡ puts_all (those high (sure good node held)) ++ puts_all (waiting good node held) = ap puts_all from_waits ∙ puts_append (those high (sure good node held)) (waiting good node held) in
        ap (lay (shore node)) e
        ∙ absorb (shore node) (file_of files accepted node) (puts_all (those high (sure good node held))) (puts_all (waiting good node held)) (k.sends node)
        (ap (lay (file_of files accepted node)) (sym e) ∙ has_from)

  -- ---- later

  module _ (files : ℕ → List ℕ) (S : List ℕ) (p : Pin) (named : p.node ≡ node) (marked : p.mark ≡ m) where
    abbrev pub Reaches : Tale → Type 0
    Reaches t = lay S (puts_all (from t.held)) ≡ file_of files t.accepted node

    one_by : (w : Write) → m ≤ w.number → from (w ∷ []) ≡ of_node node (w ∷ [])
    one_by w h = ap (λ b. pick b (w ∷ []) []) (ap (both (is_of node w)) (le-leb m w.number h) ∙ both_yes (is_of node w))

    pinned_high : (live : List Pin) → is_live_in p live ≡ true → (w : Write) → both (is_of node w) (high w) ≡ true → is_pinned live w ≡ true
    pinned_high live e w h =
        in_any (λ x. both (in_reach x.node w) (leb x.mark w.number)) p live
        (rw (named, marked) (both_intro _ _ (at (eqb node 0) (both_left _ _ h)) (both_right (is_of node w) _ h))) e
      where
        at : (b : Bool) → is_of node w ≡ true → pick b true (is_of node w) ≡ true
        at true z = refl
        at false z = z

    left_same : (good : List ℕ) (live : List Pin) → is_live_in p live ≡ true → (ws : List Write) → from (leave good live ws) ≡ from ws
    left_same good live e [] = refl
    left_same good live e (w ∷ ws) = at (both (among w.number good) (not (is_pinned live w))) refl (left_same good live e ws) (both (is_of node w) (high w)) refl
      where
        at : (b : Bool) → both (among w.number good) (not (is_pinned live w)) ≡ b → from (leave good live ws) ≡ from ws → (d : Bool) → both (is_of node w) (high w) ≡ d
            → from (pick b (leave good live ws) (w ∷ ws)) ≡ pick d (w ∷ from ws) (from ws)
        at false z k d y = ap (λ x. pick x (w ∷ from ws) (from ws)) y
        at true z k false y = k
        at true z k true y =
            absurd (true_not_false _ (both_right (among w.number good) _ z) (ap not (pinned_high live e w y)))

    pub reaches_by : (s : State) (t u : Tale) → m < s.next → is_live_in p u.live ≡ true → Change s t u → Reaches t → Reaches u
    reaches_by s t u h e (stays a b) k = ap (λ ws. lay S (puts_all (from ws))) b ∙ k ∙ ap (λ ws. file_of files ws node) (sym a)
    reaches_by s t u h e (let_go good a b) k =
        ap (λ ws. lay S (puts_all (from ws))) b ∙ ap (λ ws. lay S (puts_all ws)) (left_same good u.live e t.held) ∙ k ∙ ap (λ ws. file_of files ws node) (sym a)
    reaches_by s t u h e (grew w n a b) k =
        ap (λ ws. lay S (puts_all (from ws))) b
        ∙ ap (λ ws. lay S (puts_all ws)) (those_append (λ w. both (is_of node w) (high w)) t.held (w ∷ []))
        ∙ ap (lay S) (puts_append (from t.held) (from (w ∷ []))) ∙ lay_append (puts_all (from t.held)) (puts_all (from (w ∷ []))) S
        ∙ ap (λ f. lay f (puts_all (from (w ∷ [])))) k ∙ ap (λ ws. lay (file_of files t.accepted node) (puts_all ws)) (one_by w (omega arith))
        ∙ sym (lay_append (puts_all (of_node node t.accepted)) (puts_all (of_node node (w ∷ []))) (files node))
        ∙ ap (lay (files node)) (sym (puts_append (of_node node t.accepted) (of_node node (w ∷ []))))
        ∙ ap (λ ws. lay (files node) (puts_all ws)) (sym (those_append (is_of node) t.accepted (w ∷ []))) ∙ ap (λ ws. file_of files ws node) (sym a)
