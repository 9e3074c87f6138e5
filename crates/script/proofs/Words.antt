-- A line that is split at each space: the word that starts at a place, and the words behind it.
use Rattle.std.proofs.Common.{ℕ, ◌+◌, ◌≤◌, ◌<◌, false, List, [], ◌∷◌, ◌++◌, ◌≡◌, ◌≢◌, sym, ◌∙◌, ap, length, take, drop, slice_index, map, All, Some, Result, Ok, Err, OnOk, OnErr, None, refl, length-append, Bor, append_assoc, arith}
use Rattle.std.specs.List.{slice_split, Contains}
use Rattle.std.specs.Result.{result_ok}
use Rattle.std.proofs.lemmas.Grind.{common_steps}
use Rattle.std.proofs.lemmas.List.{take-append-drop, drop_more, map-append, get_or-drop}
use Rattle.std.proofs.lemmas.List.Elements.{Contains-append_right}
use Rattle.std.proofs.lemmas.List.Splits.{slice_split_at, slice_split_none, slice_split-cons_yes, length-slice_split}
use Rattle.std.proofs.lemmas.Bool.{ne_eqb, eq-eqb}
use Rattle.std.proofs.lemmas.Option.{none-some}
use Rattle.script.specs.Spaces.{is_space}

-- What a call that went well promises.
pub went_well : {T E P : Type 0} (r : Result T E) (x : T) → Some x ≡ result_ok r → OnOk r P → P
went_well (Ok y) x e p = p
went_well (Err y) x e p = absurd (none-some x (sym e))

-- What one that went ill does.
pub went_ill : {T E P : Type 0} (r : Result T E) → None ≡ result_ok r → OnErr r P → P
went_ill (Ok y) e p = absurd (none-some y e)
went_ill (Err y) e p = p

-- The first word is empty at the line's end, and at a space.
starts_empty : (left : List ℕ) → (0 < length left → slice_index left 0 ≡ 32) → Contains (slice_split is_space left) []
starts_empty [] space = (0, omega arith, refl)
starts_empty (byte ∷ left) space = rw (slice_split-cons_yes is_space byte left (eq-eqb _ _ (space (omega arith)))) (0, omega arith, refl)

-- Why a line is refused: a word of it is empty, or there is one more than so many.
module _ (line : List ℕ) (words : List (List ℕ)) (from : ℕ) (so_far : words ++ slice_split is_space (drop from line) ≡ slice_split is_space line) where
  pub an_empty : from ≤ length line → (from < length line → slice_index line from ≡ 32) → Contains (slice_split is_space line) []
  an_empty within space =
      let here : from + 0 ≡ from = omega arith in
      rw (← so_far) (Contains-append_right words _ [] (starts_empty (drop from line)
      (λ some. get_or-drop from line 0 0 ∙ ap (λ (k : ℕ). slice_index line k) here ∙ space (grind (arith, common_steps)))))

  pub too_many : (most : ℕ) → length words ≡ most → most < length (slice_split is_space line)
  too_many most full =
      let all = ap length so_far in
      let left = length-slice_split is_space (drop from line) in
      let both = length-append words (slice_split is_space (drop from line)) in
      omega (arith, all, left, both, full)

-- A word of so many bytes from a place on, with no space in it.
module _ (line : List ℕ) (from count to : ℕ) (at_end : to ≡ from + count) (within : to ≤ length line)
    (first : (k : ℕ) → from + k < to → slice_index line (from + k) ≢ 32) where
  no_space : All (λ byte. is_space byte ≡ false) (take count (drop from line))
  no_space k d small = ne_eqb _ _ (λ e. first k (grind (arith, common_steps)) (grind (arith, common_steps)))

  -- It ends at a space.
  next_word : to < length line → slice_index line to ≡ 32
      → slice_split is_space (drop from line) ≡ take count (drop from line) ∷ slice_split is_space (drop (to + 1) line)
  next_word small space =
      let word = take count (drop from line) in
      let parted : drop from line ≡ word ++ drop to line = grind (arith, common_steps, sym (take-append-drop count (drop from line))) in
      let behind : drop to line ≡ slice_index line to ∷ drop (to + 1) line = drop_more line to 0 small in
      ap (slice_split is_space) (parted ∙ ap (λ (rest : List ℕ). word ++ rest) behind)
      ∙ slice_split_at is_space word _ _ no_space (eq-eqb _ _ space)

  -- It ends at the line's end.
  last_word : to ≡ length line → slice_split is_space (drop from line) ≡ take count (drop from line) ∷ []
  last_word end =
      let whole : take count (drop from line) ≡ drop from line = grind (arith, common_steps) in
      ap (slice_split is_space) (sym whole) ∙ slice_split_none is_space _ no_space

  -- The words so far with this one more: those of what is left behind it are the rest of the line's, and there are none behind the last.
  module _ (words new : List (Bor (List ℕ))) (word : Bor (List ℕ)) (pushed : new ≡ words ++ word ∷ []) (is_part : word.now ≡ take count (drop from line))
      (so_far : map (λ word. word.now) words ++ slice_split is_space (drop from line) ≡ slice_split is_space line) where
    with_word : map (λ word. word.now) new ≡ map (λ word. word.now) words ++ take count (drop from line) ∷ []
    with_word = ap (map (λ (word : Bor (List ℕ)). word.now)) pushed ∙ map-append (λ (word : Bor (List ℕ)). word.now) words (word ∷ [])
        ∙ ap (λ (part : List ℕ). map (λ (word : Bor (List ℕ)). word.now) words ++ part ∷ []) is_part

    pub each_some : 0 < count → All (λ word. 0 < length word.now) words → All (λ word. 0 < length word.now) new
    each_some some so_long =
        let long : length word.now ≡ count = ap length is_part ∙ grind (arith, common_steps) in
        rw pushed (λ k d small. grind (arith, common_steps, so_long k d, long))

    pub one_more : to < length line → slice_index line to ≡ 32
        → map (λ word. word.now) new ++ slice_split is_space (drop (to + 1) line) ≡ slice_split is_space line
    one_more small space =
        let so_long = map (λ (word : Bor (List ℕ)). word.now) words in
        let rest = slice_split is_space (drop (to + 1) line) in
        ap (λ (parts : List (List ℕ)). parts ++ rest) with_word ∙ append_assoc so_long _ rest
        ∙ ap (λ (parts : List (List ℕ)). so_long ++ parts) (sym (next_word small space)) ∙ so_far

    pub the_last : to ≡ length line → map (λ word. word.now) new ≡ slice_split is_space line
    the_last end =
        let so_long = map (λ (word : Bor (List ℕ)). word.now) words in
        with_word ∙ ap (λ (parts : List (List ℕ)). so_long ++ parts) (sym (last_word end)) ∙ so_far
