-- Words of a row that are exchanged, one after the other.
use Rattle.std.proofs.Common.{◌≡◌, ℕ, zero, suc, ◌+◌, ◌≤◌, ◌<◌, Bool, true, false, List, [], ◌∷◌, map, length, drop, Some, refl, sym, ap, ◌∙◌, arith, add-one, if◌then◌else◌}
use Rattle.std.specs.Option.{option_map}
use Rattle.std.specs.Prelude.{slice_get, slice_set, not, ◌&&◌}
use Rattle.std.proofs.lemmas.Option.{slice_get-map, slice_get_within}
use Rattle.ref_heap.specs.declared.word.Word as code_word
use Rattle.ref_heap.specs.Words.{Cell, plain, refer, in_block, in_frame, cell_of, naming}
use Rattle.ref_heap.proofs.Naming.{naming_cons}
use Rattle.dis_meaning.specs.Counts.{in_words}
use Rattle.dis_meaning.specs.Words.{Word, Plain, Refer, Address, Found, Wrong, ◌>>=◌, type_check, or_wrong, fits}
use Rattle.dis_places.specs.Words.{view_cell, view_word, view_words}
use Rattle.dis_stores.specs.Storing.{named}
use Rattle.dis_stores.proofs.Named.{words_set}
use Rattle.dis_copies.specs.Spans.{all_named, is_refer, kinds, meets, none_refers, over}
use Rattle.dis_copies.proofs.Overs.{first_met, meets_past, First}

after_at : {A : Type 0} (ws : List A) (k : ℕ) (w : A) → slice_get ws k ≡ Some w → drop k ws ≡ w ∷ drop (suc k) ws
after_at [] k w e = absurd cc
after_at (v ∷ ws) zero w e = let same : v ≡ w = cc in ap (λ v. v ∷ ws) same
after_at (v ∷ ws) (suc k) w e = after_at ws k w e

after_set : {A : Type 0} (ws : List A) (k : ℕ) (v : A) → drop (suc k) (slice_set ws k v) ≡ drop (suc k) ws
after_set [] k v = refl
after_set (w ∷ ws) zero v = refl
after_set (w ∷ ws) (suc k) v = after_set ws k v

pub drop_at : {A : Type 0} (ws : List A) (k : ℕ) (w : A) → slice_get ws k ≡ Some w → drop k ws ≡ w ∷ drop (k + 1) ws
drop_at ws k w e = after_at ws k w e ∙ ap (λ j. w ∷ drop j ws) (sym (add-one k))

pub drop_set : {A : Type 0} (ws : List A) (k : ℕ) (v : A) → drop (k + 1) (slice_set ws k v) ≡ drop (k + 1) ws
drop_set ws k v = ap (λ j. drop j (slice_set ws k v)) (add-one k) ∙ after_set ws k v ∙ ap (λ j. drop j ws) (sym (add-one k))

-- Where nothing is left.
pub drop_all : {A : Type 0} (ws : List A) (k : ℕ) → length ws ≤ k → drop k ws ≡ []
drop_all [] zero le = refl
drop_all [] (suc k) le = refl
drop_all (w ∷ ws) zero le = absurd (omega (arith, le))
drop_all (w ∷ ws) (suc k) le = drop_all ws k (omega (arith, le))

pub named_set : (ws : List code_word.Word) (k : ℕ) (old new : code_word.Word) (n : ℕ) → slice_get ws k ≡ Some old →
    all_named (slice_set ws k new) n + named old n ≡ all_named ws n + named new n
named_set [] k old new n e = absurd cc
named_set (w ∷ ws) zero old new n e =
    let same : w ≡ old = cc in let a = naming_cons (cell_of new) (map cell_of ws) n in let b = naming_cons (cell_of w) (map cell_of ws) n in
    let c = naming_cons (cell_of new) [] n in let d = naming_cons (cell_of w) [] n in let s = ap (λ w. named w n) same in
    omega (arith, a, b, c, d, s)
named_set (w ∷ ws) (suc k) old new n e =
    let r = named_set ws k old new n e in let a = naming_cons (cell_of w) (map cell_of ws) n in let b = naming_cons (cell_of w) (map cell_of (slice_set ws k new)) n in
    omega (arith, r, a, b)

pub named_has : (ws : List code_word.Word) (k : ℕ) (w : code_word.Word) (n : ℕ) → slice_get ws k ≡ Some w → named w n ≤ all_named ws n
named_has [] k w n e = absurd cc
named_has (v ∷ ws) zero w n e =
    let same : v ≡ w = cc in let a = naming_cons (cell_of v) (map cell_of ws) n in let b = naming_cons (cell_of v) [] n in let c = ap (λ v. named v n) same in
    omega (arith, a, b, c)
named_has (v ∷ ws) (suc k) w n e = let r = named_has ws k w n e in let a = naming_cons (cell_of v) (map cell_of ws) n in omega (arith, r, a)

module _ (row : List Word) (words : List code_word.Word) (from k : ℕ) (was new : code_word.Word) (next : slice_get words k ≡ Some new) where
  abbrev others_then : List Word
  others_then = view_words (drop (k + 1) (slice_set words k was))

  others : view_words (drop k words) ≡ view_word new ∷ others_then
  others = ap view_words (drop_at words k new next) ∙ ap (λ ws. view_word new ∷ view_words ws) (sym (drop_set words k was))

  pub left_step : over row (from + k) (view_words (drop k words)) ≡ over (slice_set row (from + k) (view_word new)) (from + (k + 1)) others_then
  left_step =
      ap (over row (from + k)) others
      ∙ ap (λ j. over (slice_set row (from + k) (view_word new)) j others_then) (omega arith)

  pub meets_step : meets row (from + k) (view_words (drop k words)) ≡ Found tt → meets (slice_set row (from + k) (view_word new)) (from + (k + 1)) others_then ≡ Found tt
  meets_step e =
      let f : First row (from + k) (view_word new) others_then = first_met row (from + k) (view_word new) others_then (ap (meets row (from + k)) (sym others) ∙ e) in
      ap (λ j. meets (slice_set row (from + k) (view_word new)) j others_then) (omega arith)
      ∙ meets_past row (from + k) (suc (from + k)) (view_word new) others_then (omega arith)
      ∙ f.others

  -- The next word meets one of its kind.
  pub next_met : meets row (from + k) (view_words (drop k words)) ≡ Found tt → First row (from + k) (view_word new) others_then
  next_met e = first_met row (from + k) (view_word new) others_then (ap (meets row (from + k)) (sym others) ∙ e)

  pub one_met : meets row (from + k) (view_words (drop k words)) ≡ Found tt → meets row (from + k) (view_word new ∷ []) ≡ Found tt
  one_met e =
      let f = next_met e in
      ap (λ o. or_wrong type_check o >>= λ old. if fits old (view_word new) then Found tt else Wrong type_check) f.there
      ∙ ap (λ b. if b then Found tt else Wrong type_check) f.fits

  pub met_within : meets row (from + k) (view_words (drop k words)) ≡ Found tt → from + k < length row
  met_within e = let f = next_met e in slice_get_within row (from + k) f.old f.there

pub named_step : (row words : List code_word.Word) (j k : ℕ) (was new : code_word.Word) (n : ℕ) → slice_get row j ≡ Some was → slice_get words k ≡ Some new →
    in_words n (view_words (slice_set row j new)) + all_named (slice_set words k was) n ≡ in_words n (view_words row) + all_named words n
named_step row words j k was new n there next =
    let a = words_set row j was new n there in let b = named_set words k new was n next in omega (arith, a, b)

-- ---- which words are references

fits_alike : (old new : Word) → fits old new ≡ true → is_refer old ≡ is_refer new
fits_alike (Refer r) (Refer q) e = refl
fits_alike (Refer r) (Plain n) e = absurd cc
fits_alike (Refer r) (Address q at) e = absurd cc
fits_alike (Plain n) (Refer r) e = absurd cc
fits_alike (Plain n) (Plain m) e = refl
fits_alike (Plain n) (Address q at) e = refl
fits_alike (Address q at) (Refer r) e = absurd cc
fits_alike (Address q at) (Plain n) e = refl
fits_alike (Address q at) (Address p n) e = refl

pub kinds_set : (words : List code_word.Word) (k : ℕ) (was new : code_word.Word) → slice_get words k ≡ Some new → fits (view_word was) (view_word new) ≡ true →
    kinds (view_words (slice_set words k was)) ≡ kinds (view_words words)
kinds_set [] k was new e f = absurd cc
kinds_set (w ∷ ws) zero was new e f =
    let same : w ≡ new = cc in
    ap (λ b. b ∷ kinds (view_words ws)) (fits_alike (view_word was) (view_word new) f ∙ ap (λ w. is_refer (view_word w)) (sym same))
kinds_set (w ∷ ws) (suc k) was new e f = ap (λ bs. is_refer (view_word w) ∷ bs) (kinds_set ws k was new e f)

as_kinds : (ws vs : List Word) → kinds ws ≡ kinds vs → none_refers ws ≡ none_refers vs
as_kinds [] [] e = refl
as_kinds [] (v ∷ vs) e = absurd cc
as_kinds (w ∷ ws) [] e = absurd cc
as_kinds (w ∷ ws) (v ∷ vs) e =
    let one : is_refer w ≡ is_refer v = cc in let more : kinds ws ≡ kinds vs = cc in
    ap (λ b. not b && none_refers ws) one ∙ ap (λ b. not (is_refer v) && b) (as_kinds ws vs more)

plain_cell : (c : Cell) → is_refer (view_cell c) ≡ false → (n : ℕ) → naming (c ∷ []) n ≡ 0
plain_cell (plain v) e n = refl
plain_cell (refer r) e n = absurd cc
plain_cell (in_block s v) e n = refl
plain_cell (in_frame s v) e n = refl

-- Words that are no references name nothing.
pub plain_bare : (ws : List code_word.Word) → none_refers (view_words ws) ≡ true → (n : ℕ) → all_named ws n ≡ 0
plain_bare [] e n = refl
plain_bare (w ∷ ws) e n = go (is_refer (view_word w)) refl e (plain_bare ws)
  where
    go : (b : Bool) → is_refer (view_word w) ≡ b → (not b && none_refers (view_words ws)) ≡ true → (none_refers (view_words ws) ≡ true → (n : ℕ) → all_named ws n ≡ 0) →
        all_named (w ∷ ws) n ≡ 0
    go true is e more = absurd cc
    go false is e more =
        let a = more e n in let b = plain_cell (cell_of w) is n in let c = naming_cons (cell_of w) (map cell_of ws) n in let d = naming_cons (cell_of w) [] n in
        omega (arith, a, b, c, d)

pub bare_as : (ws vs : List code_word.Word) → none_refers (view_words vs) ≡ true → kinds (view_words ws) ≡ kinds (view_words vs) → (n : ℕ) → all_named ws n ≡ 0
bare_as ws vs e same n = plain_bare ws (as_kinds (view_words ws) (view_words vs) same ∙ e) n

-- What stands in a row where a word meets its kind.
pub row_fits : (row words : List code_word.Word) (from k : ℕ) (was new : code_word.Word) → slice_get row (from + k) ≡ Some was → slice_get words k ≡ Some new →
    meets (view_words row) (from + k) (view_words (drop k words)) ≡ Found tt → fits (view_word was) (view_word new) ≡ true
row_fits row words from k was new there next e =
    let f = next_met (view_words row) words from k was new next e in
    let a : Some (view_word was) ≡ Some f.old = sym (ap (option_map view_word) there) ∙ sym (slice_get-map view_word row (from + k)) ∙ f.there in
    let same : view_word was ≡ f.old = cc in
    ap (λ w. fits w (view_word new)) same ∙ f.fits
