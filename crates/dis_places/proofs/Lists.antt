-- What a list has at a place, and one word more of a type.
use Rattle.std.proofs.Common.{◌≡◌, ℕ, zero, suc, ◌+◌, ◌<◌, List, [], ◌∷◌, ◌++◌, map, length, get_or, Some, refl, ap, ◌∙◌, arith}
use Rattle.std.specs.Prelude.{slice_get}
use Rattle.std.specs.Option.{option_map}
use Rattle.std.proofs.lemmas.Option.{slice_get-map, slice_get_read}
use Rattle.dis_file.specs.declared.types.TypeDesc.{TypeDesc}
use Rattle.dis_meaning.specs.Words.{blank_word, blanks}

-- A thing that is seen at a place of a list.
pub seen : {A B : Type 0} (v : A → B) (xs : List A) (k : ℕ) (x : A) → k < length xs → x ≡ get_or xs k x → slice_get (map v xs) k ≡ Some (v x)
seen v xs k x lt is = slice_get-map v xs k ∙ ap (option_map v) (slice_get_read xs (length xs) k x refl lt is)

-- One word more of a type.
pub blanks_more : (desc : TypeDesc) (from n m : ℕ) → from + n ≡ m → blanks desc from (suc n) ≡ blanks desc from n ++ blank_word desc m ∷ []
blanks_more desc from zero m e = let same : from ≡ m = omega (arith, e) in ap (λ k. blank_word desc k ∷ []) same
blanks_more desc from (suc n) m e = ap (λ bs. blank_word desc from ∷ bs) (blanks_more desc (suc from) n m (omega (arith, e)))
