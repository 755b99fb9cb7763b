-- What a format makes of the arguments in words, part by part.
use Rattle.std.proofs.Common.{◌≡◌, ℕ, ℤ, pos, ◌+◌, ◌*◌, ◌/◌, ◌%◌, false, List, [], ◌∷◌, refl, ap, ◌∙◌, arith, if◌then◌else◌}
use Rattle.std.specs.Prelude.{slice_get, ◌==◌, ◌&&◌}
use Rattle.std.specs.Int.{next_multiple_of}
use Rattle.std.specs.Fmt.{signed_decimal}
use Rattle.limbo_values.specs.declared.number.Kind.TheVariants.{Int, Big}
use Rattle.dis_meaning.specs.Words.{Word, Access, Found, Wrong, ◌>>=◌, type_check, or_wrong, number_in, reference, word_number}
use Rattle.dis_meaning.specs.Numbers.{nth_number, number_at}
use Rattle.dis_meaning.specs.Formats.{in_front}
use Rattle.dis_memory.specs.Blocks.{World}
use Rattle.dis_memory.specs.Formats.{bad_format, fitting, taking, taking_text, verb, formatted}
use Rattle.dis_memory.specs.Kinds.{text_at}
use Rattle.dis_formats.specs.Arguments.{nth_big, nth_text}

-- The word that begins at a byte.
word_begins : (k : ℕ) → word_number (pos (4 * k)) ≡ Found k
word_begins k =
    let first : 4 * k % 4 ≡ 0 = omega arith in
    let same : 4 * k / 4 ≡ k = omega arith in
    ap (λ r. if r == 0 then Found (4 * k / 4) else Wrong type_check) first ∙ ap (λ n. Found n) same

module _ (x : World) (words : List Word) where
  -- An int is taken from its word.
  pub int_taken : (text : ℤ → List ℕ) (k : ℕ) (rest : ℕ → Access (List ℕ)) →
      taking x words Int text (4 * k) rest ≡ (fitting (nth_number words k) >>= λ z. in_front (text z) (rest (4 * (k + 1))))
  int_taken text k rest =
      let here : next_multiple_of (4 * k) 4 ≡ 4 * k = omega arith in
      let behind : 4 * k + 4 ≡ 4 * (k + 1) = omega arith in
      ap (λ from. fitting (number_at Int words (pos from)) >>= λ z. in_front (text z) (rest (from + 4))) here
      ∙ ap (λ a. fitting (a >>= (λ k. or_wrong type_check (slice_get words k)) >>= number_in) >>= λ z. in_front (text z) (rest (4 * k + 4))) (word_begins k)
      ∙ ap (λ n. fitting (nth_number words k) >>= λ z. in_front (text z) (rest n)) behind

  -- A big from two, the first of which has an even number.
  pub big_taken : (text : ℤ → List ℕ) (k : ℕ) (rest : ℕ → Access (List ℕ)) → taking x words Big text (4 * k) rest ≡
      (fitting (nth_big words (next_multiple_of k 2)) >>= λ z. in_front (text z) (rest (4 * (next_multiple_of k 2 + 2))))
  big_taken text k rest =
      let j : ℕ = next_multiple_of k 2 in
      let here : next_multiple_of (4 * k) 8 ≡ 4 * j = omega arith in
      let behind : 4 * j + 8 ≡ 4 * (j + 2) = omega arith in
      ap (λ from. fitting (number_at Big words (pos from)) >>= λ z. in_front (text z) (rest (from + 8))) here
      ∙ ap (λ a. fitting (a >>= nth_big words) >>= λ z. in_front (text z) (rest (4 * j + 8))) (word_begins j)
      ∙ ap (λ n. fitting (nth_big words j) >>= λ z. in_front (text z) (rest n)) behind

  -- A string from its word.
  pub text_taken : (k : ℕ) (rest : ℕ → Access (List ℕ)) →
      taking_text x words (4 * k) rest ≡ (fitting (nth_text x words k) >>= λ t. in_front t (rest (4 * (k + 1))))
  text_taken k rest =
      let here : next_multiple_of (4 * k) 4 ≡ 4 * k = omega arith in
      let behind : 4 * k + 4 ≡ 4 * (k + 1) = omega arith in
      ap (λ from. fitting (word_number (pos from) >>= (λ k. or_wrong type_check (slice_get words k)) >>= reference >>= text_at x) >>= λ t. in_front t (rest (from + 4))) here
      ∙ ap (λ a. fitting (a >>= (λ k. or_wrong type_check (slice_get words k)) >>= reference >>= text_at x) >>= λ t. in_front t (rest (4 * k + 4))) (word_begins k)
      ∙ ap (λ n. fitting (nth_text x words k) >>= λ t. in_front t (rest n)) behind

  -- ---- the parts of a format

  -- A character that stands for itself.
  pub character_told : (c : ℕ) (cs : List ℕ) (from : ℕ) → (c == 37) ≡ false → formatted x words (c ∷ cs) from ≡ in_front (c ∷ []) (formatted x words cs from)
  character_told c [] from e = ap (λ b. if b then bad_format else Found (c ∷ [])) e
  character_told c (d ∷ []) from e =
      ap (λ b. if b then verb x words d from (λ from. Found []) else in_front (c ∷ []) (formatted x words (d ∷ []) from)) e
  character_told c (d ∷ f ∷ cs) from e =
      ap (λ b. if b then
      (if d == 98 && f == 100 then taking x words Big signed_decimal from (λ from. formatted x words cs from)
      else verb x words d from (λ from. formatted x words (f ∷ cs) from))
      else in_front (c ∷ []) (formatted x words (d ∷ f ∷ cs) from)) e

  -- A verb of one character.
  pub verb_told : (d : ℕ) (cs : List ℕ) (from : ℕ) → (d == 98) ≡ false → formatted x words (37 ∷ d ∷ cs) from ≡ verb x words d from (formatted x words cs)
  verb_told d [] from e = refl
  verb_told d (f ∷ cs) from e =
      ap (λ b. if b && f == 100 then taking x words Big signed_decimal from (λ from. formatted x words cs from)
      else verb x words d from (λ from. formatted x words (f ∷ cs) from)) e
