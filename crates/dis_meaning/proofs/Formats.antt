-- What a format makes of the numbers in words, part by part.
use Rattle.std.proofs.Common.{◌≡◌, ℕ, suc, ℤ, pos, ◌+◌, ◌*◌, ◌/◌, ◌%◌, false, List, [], ◌∷◌, ◌++◌, refl, sym, ap, ◌∙◌, arith, if◌then◌else◌, append_assoc}
use Rattle.std.specs.Prelude.{slice_get, ◌==◌, ◌&&◌}
use Rattle.std.specs.Int.{next_multiple_of}
use Rattle.std.specs.Fmt.{signed_decimal}
use Rattle.limbo_values.specs.declared.number.Kind.TheVariants.{Int, Big}
use Rattle.dis_meaning.specs.Words.{Word, Access, Found, Wrong, Raises, ◌>>=◌, type_check, or_wrong, number_in, word_number}
use Rattle.dis_meaning.specs.Numbers.{joined, nth_number, number_at}
use Rattle.dis_meaning.specs.Formats.{in_front, taking, verb, formatted}

-- ---- some text in front

pub front_none : (rest : Access (List ℕ)) → in_front [] rest ≡ rest
front_none (Found text) = refl
front_none (Wrong n) = refl
front_none (Raises text) = refl

pub front_more : (a b : List ℕ) (rest : Access (List ℕ)) → in_front a (in_front b rest) ≡ in_front (a ++ b) rest
front_more a b (Found text) = ap (λ l. Found l) (sym (append_assoc a b text))
front_more a b (Wrong n) = refl
front_more a b (Raises text) = refl

-- ---- numbers by their words

-- The word that begins at a byte.
word_begins : (k : ℕ) → word_number (pos (4 * k)) ≡ Found k
word_begins k =
    let first : 4 * k % 4 ≡ 0 = omega arith in
    let same : 4 * k / 4 ≡ k = omega arith in
    ap (λ r. if r == 0 then Found (4 * k / 4) else Wrong type_check) first ∙ ap (λ n. Found n) same

module _ (words : List Word) where
  int_begins : (k : ℕ) → number_at Int words (pos (4 * k)) ≡ nth_number words k
  int_begins k = ap (λ a. a >>= (λ k. or_wrong type_check (slice_get words k)) >>= number_in) (word_begins k)

  big_begins : (k : ℕ) → number_at Big words (pos (4 * k)) ≡ (nth_number words k >>= λ high. nth_number words (suc k) >>= λ low. Found (joined high low))
  big_begins k = ap (λ a. a >>= λ k. nth_number words k >>= λ high. nth_number words (suc k) >>= λ low. Found (joined high low)) (word_begins k)

  -- An int is taken from its word.
  pub int_taken : (text : ℤ → List ℕ) (k : ℕ) (rest : ℕ → Access (List ℕ)) → taking words Int text (4 * k) rest ≡ (nth_number words k >>= λ z. in_front (text z) (rest (4 * (k + 1))))
  int_taken text k rest =
      let here : next_multiple_of (4 * k) 4 ≡ 4 * k = omega arith in
      let behind : 4 * k + 4 ≡ 4 * (k + 1) = omega arith in
      ap (λ from. number_at Int words (pos from) >>= λ z. in_front (text z) (rest (from + 4))) here
      ∙ ap (λ a. a >>= λ z. in_front (text z) (rest (4 * k + 4))) (int_begins k)
      ∙ ap (λ n. nth_number words k >>= λ z. in_front (text z) (rest n)) behind

  -- A big from two, the first of which has an even number.
  pub big_taken : (text : ℤ → List ℕ) (k : ℕ) (rest : ℕ → Access (List ℕ)) → taking words Big text (4 * k) rest ≡
      (nth_number words (next_multiple_of k 2) >>= (λ high. nth_number words (suc (next_multiple_of k 2)) >>= λ low. Found (joined high low)) >>= λ z. in_front (text z) (rest (4 * (next_multiple_of k 2 + 2))))
  big_taken text k rest =
      let j : ℕ = next_multiple_of k 2 in
      let here : next_multiple_of (4 * k) 8 ≡ 4 * j = omega arith in
      let behind : 4 * j + 8 ≡ 4 * (j + 2) = omega arith in
      ap (λ from. number_at Big words (pos from) >>= λ z. in_front (text z) (rest (from + 8))) here
      ∙ ap (λ a. a >>= λ z. in_front (text z) (rest (4 * j + 8))) (big_begins j)
      ∙ ap (λ n. nth_number words j >>= (λ high. nth_number words (suc j) >>= λ low. Found (joined high low)) >>= λ z. in_front (text z) (rest n)) behind

  -- ---- the parts of a format

  -- A character that stands for itself.
  pub character_told : (c : ℕ) (cs : List ℕ) (from : ℕ) → (c == 37) ≡ false → formatted words (c ∷ cs) from ≡ in_front (c ∷ []) (formatted words cs from)
  character_told c [] from e = ap (λ b. if b then Wrong type_check else Found (c ∷ [])) e
  character_told c (d ∷ []) from e = ap (λ b. if b then verb words d from (λ from. Found []) else in_front (c ∷ []) (formatted words (d ∷ []) from)) e
  character_told c (d ∷ f ∷ cs) from e =
      ap (λ b. if b then
      (if d == 98 && f == 100 then taking words Big signed_decimal from (λ from. formatted words cs from) else verb words d from (λ from. formatted words (f ∷ cs) from))
      else in_front (c ∷ []) (formatted words (d ∷ f ∷ cs) from)) e

  -- A verb of one character.
  pub verb_told : (d : ℕ) (cs : List ℕ) (from : ℕ) → (d == 98) ≡ false → formatted words (37 ∷ d ∷ cs) from ≡ verb words d from (formatted words cs)
  verb_told d [] from e = refl
  verb_told d (f ∷ cs) from e = ap (λ b. if b && f == 100 then taking words Big signed_decimal from (λ from. formatted words cs from) else verb words d from (λ from. formatted words (f ∷ cs) from)) e
