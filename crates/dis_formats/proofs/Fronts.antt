-- Verbs at the front of what stands behind a `%`.
use Rattle.std.proofs.Common.{◌≡◌, ℕ, ℤ, ◌+◌, ◌*◌, List, [], ◌∷◌, ◌++◌, false, refl, sym, ap, ◌∙◌, subst}
use Rattle.std.specs.Prelude.{◌==◌}
use Rattle.std.specs.Int.{next_multiple_of}
use Rattle.std.specs.Fmt.{signed_decimal}
use Rattle.limbo_values.specs.declared.number.Kind.TheVariants.{Int, Big}
use Rattle.system_model.specs.Verbs.{character, hexadecimal}
use Rattle.dis_meaning.specs.Words.{Word, Access, Found, ◌>>=◌}
use Rattle.dis_meaning.specs.Formats.{in_front}
use Rattle.dis_memory.specs.Blocks.{World}
use Rattle.dis_meaning.specs.Numbers.{nth_number}
use Rattle.dis_meaning.proofs.Formats.{front_more}
use Rattle.dis_memory.specs.Formats.{fitting, taking, taking_text, verb, formatted}
use Rattle.dis_places.specs.declared.fault.Halt.{Halt}
use Rattle.dis_places.specs.declared.fault.Halt.TheVariants as halt
use Rattle.dis_places.specs.Words.{Halts}
use Rattle.dis_formats.specs.declared.verbs.Verb.{Verb}
use Rattle.dis_formats.specs.declared.verbs.Verb.TheVariants as verbs
use Rattle.dis_formats.specs.Arguments.{nth_big, nth_text}
use Rattle.dis_formats.specs.Formatting.{int_told, told}
use Rattle.dis_formats.proofs.Parts.{verb_told, int_taken, big_taken, text_taken}

module _ (x : World) (words : List Word) (from : ℕ) where
  pub verb_at : (behind rest : List ℕ) (c d : ℕ) → behind ≡ c ∷ rest → c ≡ d → (d == 98) ≡ false →
      formatted x words (37 ∷ behind) from ≡ verb x words d from (formatted x words rest)
  verb_at behind rest c d split is other =
      ap (λ l. formatted x words (37 ∷ l) from) split ∙ ap (λ c. formatted x words (37 ∷ c ∷ rest) from) is ∙ verb_told x words d rest from other

  pub big_at : (behind rest others : List ℕ) (c d : ℕ) → behind ≡ c ∷ rest → c ≡ 98 → rest ≡ d ∷ others → d ≡ 100 →
      formatted x words (37 ∷ behind) from ≡ taking x words Big signed_decimal from (formatted x words others)
  big_at behind rest others c d split is next is_next =
      ap (λ l. formatted x words (37 ∷ l) from) split
      ∙ ap (λ l. formatted x words (37 ∷ c ∷ l) from) next
      ∙ ap (λ c. formatted x words (37 ∷ c ∷ d ∷ others) from) is
      ∙ ap (λ d. formatted x words (37 ∷ 98 ∷ d ∷ others) from) is_next

-- What isn't told isn't told in front of anything.
pub front_halts : (h : Halt) (text : List ℕ) (a : Access (List ℕ)) → Halts h a → Halts h (in_front text a)
front_halts halt.NoMemory text a e = tt
front_halts (halt.Fault f) text a e = ap (in_front text) e
front_halts (halt.Raises raised) text a e = ap (in_front text) e

-- ---- a verb's argument, behind a text

module _ (x : World) (words : List Word) (old new : List ℕ) (k : ℕ) (rest : ℕ → Access (List ℕ)) where
  added : {S : Type 0} (told : Access (List ℕ)) (a : Access S) (text : S → List ℕ) (s : S) (behind : Access (List ℕ)) →
      told ≡ (a >>= λ s. in_front (text s) behind) → a ≡ Found s → new ≡ old ++ text s → in_front old told ≡ in_front new behind
  added told a text s behind is found e =
      ap (in_front old) (is ∙ ap (λ a. a >>= λ s. in_front (text s) behind) found) ∙ front_more old (text s) behind ∙ ap (λ t. in_front t behind) (sym e)

  pub int_added : (text : ℤ → List ℕ) (z : ℤ) → fitting (nth_number words k) ≡ Found z → new ≡ old ++ text z →
      in_front old (taking x words Int text (4 * k) rest) ≡ in_front new (rest (4 * (k + 1)))
  int_added text z found e =
      added (taking x words Int text (4 * k) rest) (fitting (nth_number words k)) text z (rest (4 * (k + 1))) (int_taken x words text k rest) found e

  pub big_added : (text : ℤ → List ℕ) (z : ℤ) (j : ℕ) → j ≡ next_multiple_of k 2 → fitting (nth_big words j) ≡ Found z → new ≡ old ++ text z →
      in_front old (taking x words Big text (4 * k) rest) ≡ in_front new (rest (4 * (j + 2)))
  big_added text z j is found e =
      added (taking x words Big text (4 * k) rest) (fitting (nth_big words j)) text z (rest (4 * (j + 2)))
      (big_taken x words text k rest ∙ ap (λ j. fitting (nth_big words j) >>= λ z. in_front (text z) (rest (4 * (j + 2)))) (sym is)) found e

  pub text_added : (t : List ℕ) → fitting (nth_text x words k) ≡ Found t → new ≡ old ++ t →
      in_front old (taking_text x words (4 * k) rest) ≡ in_front new (rest (4 * (k + 1)))
  text_added t found e =
      added (taking_text x words (4 * k) rest) (fitting (nth_text x words k)) (λ t. t) t (rest (4 * (k + 1))) (text_taken x words k rest) found e

halts_on : {S T : Type 0} (h : Halt) (a : Access S) (f : S → Access T) → Halts h a → Halts h (a >>= f)
halts_on halt.NoMemory a f e = tt
halts_on (halt.Fault n) a f e = ap (λ a. a >>= f) e
halts_on (halt.Raises r) a f e = ap (λ a. a >>= f) e

-- ---- verbs that take an int

pub int_verb_added : (x : World) (words : List Word) (old new : List ℕ) (k : ℕ) (v : Verb) (z : ℤ) →
    (v ≡ verbs.Percent → ⊥) → (v ≡ verbs.BigDecimal → ⊥) → (v ≡ verbs.Characters → ⊥) → fitting (nth_number words k) ≡ Found z → new ≡ old ++ int_told v z →
    (rest : ℕ → Access (List ℕ)) → in_front old (told x words v (4 * k) rest) ≡ in_front new (rest (4 * (k + 1)))
int_verb_added x words old new k verbs.Percent z a b c found e rest = absurd (a refl)
int_verb_added x words old new k verbs.BigDecimal z a b c found e rest = absurd (b refl)
int_verb_added x words old new k verbs.Characters z a b c found e rest = absurd (c refl)
int_verb_added x words old new k verbs.Decimal z a b c found e rest = int_added x words old new k rest signed_decimal z found e
int_verb_added x words old new k verbs.Character z a b c found e rest = int_added x words old new k rest (λ z. character z ∷ []) z found e
int_verb_added x words old new k verbs.Hexadecimal z a b c found e rest = int_added x words old new k rest hexadecimal z found e

pub int_verb_halts : (x : World) (words : List Word) (k : ℕ) (v : Verb) (h : Halt) →
    (v ≡ verbs.Percent → ⊥) → (v ≡ verbs.BigDecimal → ⊥) → (v ≡ verbs.Characters → ⊥) → Halts h (fitting (nth_number words k)) →
    (rest : ℕ → Access (List ℕ)) → Halts h (told x words v (4 * k) rest)
int_verb_halts x words k v h a b c e rest = go v a b c
  where
    on : (text : ℤ → List ℕ) → Halts h (taking x words Int text (4 * k) rest)
    on text =
        subst (Halts h) (sym (int_taken x words text k rest))
        (halts_on h (fitting (nth_number words k)) (λ z. in_front (text z) (rest (4 * (k + 1)))) e)

    go : (v : Verb) → (v ≡ verbs.Percent → ⊥) → (v ≡ verbs.BigDecimal → ⊥) → (v ≡ verbs.Characters → ⊥) → Halts h (told x words v (4 * k) rest)
    go verbs.Percent a b c = absurd (a refl)
    go verbs.BigDecimal a b c = absurd (b refl)
    go verbs.Characters a b c = absurd (c refl)
    go verbs.Decimal a b c = on signed_decimal
    go verbs.Character a b c = on (λ z. character z ∷ [])
    go verbs.Hexadecimal a b c = on hexadecimal
