-- What a format makes of the arguments in words, one part after the other.
use Rattle.std.specs.Prelude.{◌≡◌, ℕ, ℤ, ◌*◌, List, [], ◌∷◌, Option, Some, None, Result, Ok, Err}
use Rattle.std.specs.Borrow.{Bor}
use Rattle.std.specs.Fmt.{signed_decimal}
use Rattle.limbo_values.specs.declared.number.Kind.TheVariants.{Int, Big}
use Rattle.system_model.specs.Verbs.{character, hexadecimal}
use Rattle.dis_meaning.specs.Words.{Word, Access}
use Rattle.dis_meaning.specs.Formats.{in_front}
use Rattle.dis_memory.specs.Blocks.{World}
use Rattle.dis_memory.specs.Formats.{bad_format, taking, taking_text, formatted}
use Rattle.dis_places.specs.declared.fault.Halt.{Halt}
use Rattle.dis_places.specs.Words.{Halts}
use Rattle.dis_formats.specs.declared.verbs.Verb.{Verb}
use Rattle.dis_formats.specs.declared.verbs.Verb.TheVariants as verb

-- What a verb stands for, in front of what follows, which has the arguments behind those that it takes.
abbrev pub told : World → List Word → Verb → (from : ℕ) → (ℕ → Access (List ℕ)) → Access (List ℕ)
told x words verb.Percent from rest = in_front (37 ∷ []) (rest from)
told x words verb.Decimal from rest = taking x words Int signed_decimal from rest
told x words verb.BigDecimal from rest = taking x words Big signed_decimal from rest
told x words verb.Character from rest = taking x words Int (λ z. character z ∷ []) from rest
told x words verb.Hexadecimal from rest = taking x words Int hexadecimal from rest
told x words verb.Characters from rest = taking_text x words from rest

-- What a verb that takes an int makes of it.
abbrev pub int_told : Verb → ℤ → List ℕ
int_told verb.Decimal z = signed_decimal z
int_told verb.Character z = character z ∷ []
int_told verb.Hexadecimal z = hexadecimal z
int_told _ z = []

-- How many characters it has behind the `%`.
abbrev pub width : Verb → ℕ
width verb.BigDecimal = 2
width _ = 1

-- What stands behind a `%` begins with a verb, and this follows; or it begins with none.
abbrev pub IsVerb : Option (Verb × Bor (List ℕ)) → (behind : List ℕ) → Type 0
IsVerb (Some r) behind =
    (x : World) (words : List Word) (from : ℕ)
    → formatted x words (37 ∷ behind) from ≡ told x words r.0 from (formatted x words r.1.now)
IsVerb None behind = (x : World) (words : List Word) (from : ℕ) → formatted x words (37 ∷ behind) from ≡ bad_format

-- A verb and what follows, behind a text: the text with what the verb stands for, and what follows with the arguments from the next word
-- on.
abbrev pub AddsVerb : Result ℕ Halt → (old new : List ℕ) → Verb → World → List Word → (word : ℕ) → Type 0
AddsVerb (Ok next) old new verb x words k =
    (rest : ℕ → Access (List ℕ)) → in_front old (told x words verb (4 * k) rest) ≡ in_front new (rest (4 * next))
AddsVerb (Err h) old new verb x words k = (rest : ℕ → Access (List ℕ)) → Halts h (told x words verb (4 * k) rest)
