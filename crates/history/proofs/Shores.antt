-- The shore's files beside the tale: what waits brings each file to what was accepted, and what is held is in it already.
use Rattle.std.specs.Prelude.{Some}
use Prim.Native.Nat.{ℕ}
use mathlib.Core.Path.{◌≡◌, refl, sym, ap, ◌∙◌}
use mathlib.Core.Bool.{Bool, true, false, not}
use mathlib.Core.List.{List, [], ◌∷◌, ◌++◌, append_assoc, append-nil}
use borrow.Author.Tests.{eqb-true, eqb-false}
use lib.Dec.{eqb}
use Rattle.layout.specs.Bytes.{both}
use Rattle.walk.specs.Walk.{Write}
use Rattle.state.specs.Lists.{pick, those}
use Rattle.state.proofs.Bools.{both_no, no_both, both_yes, yes_both}
use Rattle.state.proofs.Finding.{Each}
use Rattle.shore.specs.File.{Put, put, lay, puts_of, puts_all}
use Rattle.shore.proofs.Files.{touches, lay_append}
use Rattle.shore.proofs.Again.{absorb, has_end, has_more, land_under}
use Rattle.history.specs.World.{put_on}
use Rattle.history.specs.Tale.{among, is_of}
use Rattle.state.proofs.Those.{those_append, those_none, those_same}

-- ---- lists kept, and puts of writes joined

pub puts_append : (xs ys : List Write) → puts_all (xs ++ ys) ≡ puts_all xs ++ puts_all ys
unfolding puts_all
puts_append [] ys = refl
puts_append (x ∷ xs) ys = ap (◌++◌ (puts_of x)) (puts_append xs ys) ∙ sym (append_assoc (puts_of x) (puts_all xs) (puts_all ys))

puts_one : (w : Write) → puts_all (w ∷ []) ≡ puts_of w
unfolding puts_all
puts_one w = append-nil (puts_of w)

-- ---- a node's writes: all that are kept, those reported good, those that wait

abbrev pub of_node : ℕ → List Write → List Write
of_node n ws = those (is_of n) ws

abbrev pub waits : List ℕ → ℕ → Write → Bool
waits good n w = both (is_of n w) (not (among w.number good))

abbrev pub waiting : List ℕ → ℕ → List Write → List Write
waiting good n ws = those (waits good n) ws

abbrev pub sure : List ℕ → ℕ → List Write → List Write
sure good n ws = those (λ w. both (is_of n w) (among w.number good)) ws

-- where none is good, all wait
all_wait : (n : ℕ) (ws : List Write) → waiting [] n ws ≡ of_node n ws
all_wait n ws = those_same (waits [] n) (is_of n) ws (each ws)
  where
    each : (vs : List Write) → Each (λ w. both (is_of n w) true ≡ is_of n w) vs
    each [] = tt
    each (v ∷ vs) = (both_yes (is_of n v), each vs)

-- and of those that are good none does
none_wait : (good : List ℕ) (n : ℕ) (ws : List Write) → Each (λ w. among w.number good ≡ true) ws → waiting good n ws ≡ []
none_wait good n ws o = those_none (waits good n) ws (each ws o)
  where
    each : (vs : List Write) → Each (λ w. among w.number good ≡ true) vs → Each (λ w. waits good n w ≡ false) vs
    each [] o = tt
    each (v ∷ vs) o = (rw o.0 (both_no (is_of n v)), each vs o.1)

-- so what waits is the same when they have left
pub wait_same : (good : List ℕ) (n : ℕ) (gone ws : List Write) → Each (λ w. among w.number good ≡ true) gone → waiting good n (gone ++ ws) ≡ waiting good n ws
wait_same good n gone ws o = those_append (waits good n) gone ws ∙ ap (◌++ waiting good n ws) (none_wait good n gone o)

-- "for no node does a Flushed write follow one that isn't"
abbrev pub Parted : List ℕ → List Write → Type 0
Parted good ws = (n : ℕ) → of_node n ws ≡ sure good n ws ++ waiting good n ws

-- the starting file with a node's accepted writes laid on in order
abbrev pub file_of : (ℕ → List ℕ) → List Write → ℕ → List ℕ
file_of files accepted n = lay (files n) (puts_all (of_node n accepted))

pub record OnShore (files shore : ℕ → List ℕ) (accepted held : List Write) (good : List ℕ) : Type 0 where
  -- what waits brings the shore to the history's file
  pub sends : (n : ℕ) → lay (shore n) (puts_all (waiting good n held)) ≡ file_of files accepted n
  -- which has what is held already
  pub has : (n : ℕ) → lay (file_of files accepted n) (puts_all (of_node n held)) ≡ file_of files accepted n

module _ (files shore : ℕ → List ℕ) (accepted held : List Write) (good : List ℕ) (k : OnShore files shore accepted held good) where
  -- the shore file with the ring laid over it is the starting file with all accepted writes laid on in order
  pub nothing_lost : Parted good held → (n : ℕ) → lay (shore n) (puts_all (of_node n held)) ≡ file_of files accepted n
  nothing_lost p n =
      let a = sure good n held in
      let b = waiting good n held in
      let e : puts_all (of_node n held) ≡ puts_all a ++ puts_all b = ap puts_all (p n) ∙ puts_append a b in
      ap (lay (shore n)) e ∙ absorb (shore n) (file_of files accepted n) (puts_all a) (puts_all b) (k.sends n) (ap (lay (file_of files accepted n)) (sym e) ∙ k.has n)

  -- a restart: everything that is held waits again
  pub shore_restarts : Parted good held → OnShore files shore accepted held []
  shore_restarts p = record { sends = λ n. ap (λ ws. lay (shore n) (puts_all ws)) (all_wait n held) ∙ nothing_lost p n; has = k.has }

  -- a write is accepted
  module _ (w : Write) (new : among w.number good ≡ false) where
    one_by : (n : ℕ) (b : Bool) → is_of n w ≡ b → (f : List ℕ) → lay f (puts_all (of_node n (w ∷ []))) ≡ lay f (puts_all (waiting good n (w ∷ [])))
    one_by n true e f = rw (e, new) (ap (λ x. lay f (puts_all (pick x (w ∷ []) []))) (sym (yes_both true)))
    one_by n false e f = rw e (ap (λ x. lay f (puts_all (pick x (w ∷ []) []))) (sym (no_both (not (among w.number good)))))

    more : (n : ℕ) → file_of files (accepted ++ w ∷ []) n ≡ lay (file_of files accepted n) (puts_all (of_node n (w ∷ [])))
    more n =
        ap (λ ws. lay (files n) (puts_all ws)) (those_append (is_of n) accepted (w ∷ [])) ∙ ap (lay (files n)) (puts_append (of_node n accepted) (of_node n (w ∷ [])))
        ∙ lay_append (puts_all (of_node n accepted)) (puts_all (of_node n (w ∷ []))) (files n)

    pub shore_writes : OnShore files shore (accepted ++ w ∷ []) (held ++ w ∷ []) good
    shore_writes = record {
      sends = λ n.
          ap (λ ws. lay (shore n) (puts_all ws)) (those_append (waits good n) held (w ∷ []))
          ∙ ap (lay (shore n)) (puts_append (waiting good n held) (waiting good n (w ∷ [])))
          ∙ lay_append (puts_all (waiting good n held)) (puts_all (waiting good n (w ∷ []))) (shore n)
          ∙ ap (λ f. lay f (puts_all (waiting good n (w ∷ [])))) (k.sends n)
          ∙ sym (one_by n (is_of n w) refl (file_of files accepted n)) ∙ sym (more n);
      has = λ n.
          ap (λ ws. lay (file_of files (accepted ++ w ∷ []) n) (puts_all ws)) (those_append (is_of n) held (w ∷ []))
          ∙ ap (lay (file_of files (accepted ++ w ∷ []) n)) (puts_append (of_node n held) (of_node n (w ∷ [])))
          ∙ ap (λ f. lay f (puts_all (of_node n held) ++ puts_all (of_node n (w ∷ [])))) (more n)
          ∙ has_more (file_of files accepted n) (puts_all (of_node n held)) (puts_all (of_node n (w ∷ []))) (k.has n) ∙ sym (more n);
    }

  -- a byte lands where what waits will lie
  pub shore_lands : (node : ℕ) (q : Put) → touches q.place (puts_all (waiting good node held)) ≡ true → OnShore files (put_on shore node (Some q)) accepted held good
  shore_lands node q t = record { sends = λ n. at n (eqb node n) refl ∙ k.sends n; has = k.has }
    where
      at : (n : ℕ) (b : Bool) → eqb node n ≡ b → lay (pick b (put (shore n) q.place q.byte) (shore n)) (puts_all (waiting good n held)) ≡ lay (shore n) (puts_all (waiting good n held))
      at n false e = refl
      at n true e = land_under (puts_all (waiting good n held)) (shore n) q.place q.byte (ap (λ m. touches q.place (puts_all (waiting good m held))) (sym (eqb-true node n e)) ∙ t)

  -- writes that are good leave from the front
  module _ (gone held' : List Write) (e : held ≡ gone ++ held') (sure_gone : Each (λ w. among w.number good ≡ true) gone) where
    pub shore_leaves : OnShore files shore accepted held' good
    shore_leaves = record {
      sends = λ n. ap (λ ws. lay (shore n) (puts_all ws)) (sym (ap (waiting good n) e ∙ wait_same good n gone held' sure_gone)) ∙ k.sends n;
      has = λ n.
          has_end (file_of files accepted n) (puts_all (of_node n gone)) (puts_all (of_node n held'))
          (ap (lay (file_of files accepted n)) (sym (ap (λ ws. puts_all (of_node n ws)) e ∙ ap puts_all (those_append (is_of n) gone held') ∙ puts_append (of_node n gone) (of_node n held'))) ∙ k.has n);
    }

  -- a batch that landed whole is reported good
  module _ (node : ℕ) (batch : List Write) (good' : List ℕ) (mine : waiting good node held ≡ batch ++ waiting good' node held)
      (others : (n : ℕ) → (n ≡ node → ⊥) → waiting good' n held ≡ waiting good n held) (whole : lay (shore node) (puts_all batch) ≡ shore node) where
    at_node : lay (shore node) (puts_all (waiting good' node held)) ≡ file_of files accepted node
    at_node =
        ap (λ f. lay f (puts_all (waiting good' node held))) (sym whole) ∙ sym (lay_append (puts_all batch) (puts_all (waiting good' node held)) (shore node))
        ∙ ap (lay (shore node)) (sym (ap puts_all mine ∙ puts_append batch (waiting good' node held))) ∙ k.sends node

    by_node : (n : ℕ) (b : Bool) → eqb n node ≡ b → lay (shore n) (puts_all (waiting good' n held)) ≡ file_of files accepted n
    by_node n true e = rw (eqb-true n node e) at_node
    by_node n false e = ap (λ ws. lay (shore n) (puts_all ws)) (others n (eqb-false n node e)) ∙ k.sends n

    pub shore_good : OnShore files shore accepted held good'
    shore_good = record { sends = λ n. by_node n (eqb n node) refl; has = k.has }
