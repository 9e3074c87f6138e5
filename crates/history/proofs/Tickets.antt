-- A ticket taken since the last restart is done exactly when every write in reach accepted before it was taken has been in a batch reported good since that restart, or has left.
-- Document 01, "Moves", paragraph "Ticket".
use Prim.Native.Nat.{ℕ, ◌<◌}
use mathlib.Core.Path.{◌≡◌, refl, sym, ap, ◌∙◌, subst}
use mathlib.Core.Bool.{Bool, true, false, not}
use mathlib.Core.List.{List, [], ◌∷◌, ◌++◌, append_assoc}
use native.Mathlib.Omega.{arith}
use borrow.Author.Tests.{lt-ltb, le-ltb}
use lib.Dec.{ltb}
use Rattle.layout.specs.Bytes.{both}
use Rattle.layout.proofs.Tests.{never}
use Rattle.walk.specs.Walk.{Write}
use Rattle.state.specs.declared.State.{State}
use Rattle.state.specs.declared.Pin.{Pin}
use Rattle.state.specs.Lists.{pick, any}
use Rattle.state.proofs.Bools.{no_both, yes_both}
use Rattle.state.proofs.Pairs.{any_append}
use Rattle.state.proofs.Finding.{Each, each_join, each_right}
use Rattle.rules.specs.Call.{reopens, is_one}
use Rattle.history.specs.Tale.{Tale, among, leave, is_pinned, tale}
use Rattle.history.specs.World.{World, Move, call, land, world}
use Rattle.history.specs.Fair.{AllFair}
use Rattle.history.proofs.Numbers.{next_up}
use Rattle.history.proofs.Changes.{Change, stays, grew, let_go, change}

-- ---- writes leave from the front

-- of two runs, the second loses none while the first has one
pub record Parts (good : List ℕ) (ps : List Pin) (old new : List Write) : Type 0 where
  pub gone : List Write
  pub old' : List Write
  pub off : List Write
  pub new' : List Write
  pub olds : old ≡ gone ++ old'
  pub news : new ≡ off ++ new'
  pub left : leave good ps (old ++ new) ≡ old' ++ new'

module _ (good : List ℕ) (ps : List Pin) where
  leave_one : (w : Write) (ws : List Write) (b : Bool) → both (among w.number good) (not (is_pinned ps w)) ≡ b → leave good ps (w ∷ ws) ≡ pick b (leave good ps ws) (w ∷ ws)
  leave_one w ws b e = rw e

  -- one run: what left, and the rest
  run : (ws : List Write) → Parts good ps [] ws
  run [] = record { gone = []; old' = []; off = []; new' = []; olds = refl; news = refl; left = refl }
  run (w ∷ ws) = at (both (among w.number good) (not (is_pinned ps w))) refl (run ws)
    where
      at : (b : Bool) → both (among w.number good) (not (is_pinned ps w)) ≡ b → Parts good ps [] ws → Parts good ps [] (w ∷ ws)
      at true e k = record {
        gone = k.gone;
        old' = k.old';
        off = w ∷ k.off;
        new' = k.new';
        olds = k.olds;
        news = ap (◌∷◌ w) k.news;
        left = leave_one w ws true e ∙ k.left;
      }
      at false e k = record { gone = []; old' = []; off = []; new' = w ∷ ws; olds = refl; news = refl; left = leave_one w ws false e }

  pub parts : (old new : List Write) → Parts good ps old new
  parts [] new = run new
  parts (w ∷ old) new = at (both (among w.number good) (not (is_pinned ps w))) refl (parts old new)
    where
      at : (b : Bool) → both (among w.number good) (not (is_pinned ps w)) ≡ b → Parts good ps old new → Parts good ps (w ∷ old) new
      at true e k = record {
        gone = w ∷ k.gone;
        old' = k.old';
        off = k.off;
        new' = k.new';
        olds = ap (◌∷◌ w) k.olds;
        news = k.news;
        left = leave_one w (old ++ new) true e ∙ k.left;
      }
      at false e k = record { gone = []; old' = w ∷ old; off = []; new' = new; olds = refl; news = refl; left = leave_one w (old ++ new) false e }

-- ---- what was accepted before a ticket n, and what has come of it

pub record Since (before : List Write) (n : ℕ) (held : List Write) : Type 0 where
  -- those that have left, those that are still held, and what came later
  pub gone : List Write
  pub old : List Write
  pub new : List Write
  pub then : before ≡ gone ++ old
  pub now : held ≡ old ++ new
  pub below : Each (λ w. w.number < n) old
  pub above : Each (λ w. n < w.number) new

module _ (before : List Write) (n : ℕ) where
  since_leaves : (good : List ℕ) (ps : List Pin) (held : List Write) → Since before n held → Since before n (leave good ps held)
  since_leaves good ps held k =
      let p = parts good ps k.old k.new in
      record {
        gone = k.gone ++ p.gone;
        old = p.old';
        new = p.new';
        then = k.then ∙ ap (◌++◌ k.gone) p.olds ∙ sym (append_assoc k.gone p.gone p.old');
        now = ap (leave good ps) k.now ∙ p.left;
        below = each_right _ p.gone p.old' (subst (Each (λ w. w.number < n)) p.olds k.below);
        above = each_right _ p.off p.new' (subst (Each (λ w. n < w.number)) p.news k.above);
      }

  since_writes : (held : List Write) (w : Write) → n < w.number → Since before n held → Since before n (held ++ w ∷ [])
  since_writes held w h k = record {
    gone = k.gone;
    old = k.old;
    new = k.new ++ w ∷ [];
    then = k.then;
    now = ap (◌++ w ∷ []) k.now ∙ append_assoc k.old k.new (w ∷ []);
    below = k.below;
    above = each_join _ k.new (w ∷ []) k.above (h, tt);
  }

  since_same : (held held' : List Write) → held' ≡ held → Since before n held → Since before n held'
  since_same held held' e k = rw e k

  since_by : (s : State) (t u : Tale) → n < s.next → Change s t u → Since before n t.held → Since before n u.held
  since_by s t u h (stays a b) k = since_same t.held u.held b k
  since_by s t u h (grew w e a b) k = since_same (t.held ++ w ∷ []) u.held b (since_writes t.held w (omega arith) k)
  since_by s t u h (let_go good a b) k = since_same (leave good u.live t.held) u.held b (since_leaves good u.live t.held k)

-- ---- what is held is the end of what was accepted

pub record Suffix (t : Tale) : Type 0 where
  pub gone : List Write
  pub is : t.accepted ≡ gone ++ t.held

suffix_by : (s : State) (t u : Tale) → Change s t u → Suffix t → Suffix u
suffix_by s t u (stays a b) k = record { gone = k.gone; is = a ∙ k.is ∙ ap (◌++◌ k.gone) (sym b) }
suffix_by s t u (grew w e a b) k =
    record { gone = k.gone; is = a ∙ ap (◌++ w ∷ []) k.is ∙ append_assoc k.gone t.held (w ∷ []) ∙ ap (◌++◌ k.gone) (sym b) }
suffix_by s t u (let_go good a b) k =
    let p = parts good u.live [] t.held in
    let e : t.held ≡ p.off ++ leave good u.live t.held = p.news ∙ ap (◌++◌ p.off) (sym (p.left ∙ nothing p.old' p.gone p.olds p.new')) in
    record { gone = k.gone ++ p.off; is = a ∙ k.is ∙ ap (◌++◌ k.gone) (e ∙ ap (◌++◌ p.off) (sym b)) ∙ sym (append_assoc k.gone p.off u.held) }
  where
    nothing : (old gone : List Write) → [] ≡ gone ++ old → (new : List Write) → old ++ new ≡ new
    nothing [] gone e new = refl
    nothing (w ∷ old) [] e new = never (cc)
    nothing (w ∷ old) (v ∷ gone) e new = never (cc)

pub tale_suffix : (W : World) (ms : List Move) → AllFair W ms → Suffix (tale W ms)
tale_suffix W [] f = record { gone = []; is = refl }
tale_suffix W (call c ∷ ms) f = suffix_by (world W ms).state (tale W ms) _ (change c (world W ms).ring (world W ms).state (tale W ms) f.0.not_made) (tale_suffix W ms f.1)
tale_suffix W (land j ∷ ms) f = let k = tale_suffix W ms f.1 in record { gone = k.gone; is = k.is }

-- ---- from the ticket on

-- moves without a restart
abbrev pub NoRestart : List Move → Type 0
NoRestart [] = Unit {0}
NoRestart (call c ∷ ms) = (is_one c (reopens ∷ []) ≡ false) × NoRestart ms
NoRestart (land j ∷ ms) = NoRestart ms

-- numbers given before them are below the next
pub later_next : (W : World) (base : List Move) (n : ℕ) → n < (world W base).state.next → (later : List Move) → AllFair W (later ++ base) → NoRestart later → n < (world W (later ++ base)).state.next
later_next W base n h [] f d = h
later_next W base n h (call c ∷ ms) f d =
    let u = next_up c (world W (ms ++ base)).ring (world W (ms ++ base)).state f.0.not_made d.0 in
    let v = later_next W base n h ms f.1 d.1 in
    omega arith
later_next W base n h (land j ∷ ms) f d = later_next W base n h ms f.1 d

module _ (W : World) (base : List Move) (before : List Write) (n : ℕ) (k : Since before n (tale W base).held) (h : n < (world W base).state.next) where
  pub later_since : (later : List Move) → AllFair W (later ++ base) → NoRestart later → Since before n (tale W (later ++ base)).held
  later_since [] f d = k
  later_since (call c ∷ ms) f d =
      since_by before n (world W (ms ++ base)).state (tale W (ms ++ base)) _ (later_next W base n h ms f.1 d.1)
      (change c (world W (ms ++ base)).ring (world W (ms ++ base)).state (tale W (ms ++ base)) f.0.not_made) (later_since ms f.1 d.1)
  later_since (land j ∷ ms) f d = let z = later_since ms f.1 d in record { gone = z.gone; old = z.old; new = z.new; then = z.then; now = z.now; below = z.below; above = z.above }

-- asked of the writes that are held, a ticket looks at those that were accepted before it
module _ (q : Write → Bool) (n : ℕ) where
  none_above : (ws : List Write) → Each (λ w. n < w.number) ws → any (λ w. both (ltb w.number n) (q w)) ws ≡ false
  none_above [] o = refl
  none_above (w ∷ ws) o = rw (le-ltb w.number n (let l = o.0 in omega arith), no_both (q w)) (none_above ws o.1)

  all_below : (ws : List Write) → Each (λ w. w.number < n) ws → any (λ w. both (ltb w.number n) (q w)) ws ≡ any q ws
  all_below [] o = refl
  all_below (w ∷ ws) o = rw (lt-ltb w.number n o.0, yes_both (q w), all_below ws o.1)

  pub asks_old : (before held : List Write) → (k : Since before n held) → any (λ w. both (ltb w.number n) (q w)) held ≡ any q k.old
  asks_old before held k =
      ap (any (λ w. both (ltb w.number n) (q w))) k.now ∙ any_append (λ w. both (ltb w.number n) (q w)) k.old k.new
      ∙ ap (λ b. pick (any (λ w. both (ltb w.number n) (q w)) k.old) true b) (none_above k.new k.above) ∙ same (any (λ w. both (ltb w.number n) (q w)) k.old)
      ∙ all_below k.old k.below
    where
      same : (b : Bool) → pick b true false ≡ b
      same true = refl
      same false = refl
