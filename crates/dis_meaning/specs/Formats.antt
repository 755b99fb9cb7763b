-- What a format makes of the numbers in the words of a print's frame (Inferno manual, sys-print(2)).
use Rattle.std.specs.Prelude.{ℕ, ℤ, pos, ◌+◌, ◌==◌, ◌&&◌, List, [], ◌∷◌, ◌++◌, if◌then◌else◌}
use Rattle.std.specs.Int.{next_multiple_of}
use Rattle.std.specs.Fmt.{signed_decimal}
use Rattle.limbo_values.specs.declared.number.Kind.{Kind}
use Rattle.limbo_values.specs.declared.number.Kind.TheVariants.{Byte, Int, Big}
use Rattle.system_model.specs.Verbs.{character, hexadecimal}
use Rattle.dis_meaning.specs.Words.{Word, Access, Found, Wrong, ◌>>=◌, type_check}
use Rattle.dis_meaning.specs.Numbers.{number_at}

-- How many bytes a number of a kind takes. It stands at a multiple of them.
abbrev pub bytes_taken : Kind → ℕ
bytes_taken Byte = 1
bytes_taken Int = 4
bytes_taken Big = 8

-- Some text in front of what follows.
abbrev pub in_front : List ℕ → Access (List ℕ) → Access (List ℕ)
in_front front rest = rest >>= λ more. Found (front ++ more)

module _ (words : List Word) where
  -- The next number of a kind, from a place on, is told in front of what follows, which has the numbers behind it.
  abbrev pub taking : Kind → (ℤ → List ℕ) → (from : ℕ) → (ℕ → Access (List ℕ)) → Access (List ℕ)
  taking kind text from rest =
      number_at kind words (pos (next_multiple_of from (bytes_taken kind))) >>= λ z.
      in_front (text z) (rest (next_multiple_of from (bytes_taken kind) + bytes_taken kind))

  -- What stands behind a `%` says what the format does: `%d` takes the next int as a decimal number, `%c` as a character and `%x` to the
  -- base 16; `%%` is the character. Other verbs aren't in this part.
  abbrev pub verb : ℕ → (from : ℕ) → (ℕ → Access (List ℕ)) → Access (List ℕ)
  verb c from rest =
      if c == 37 then in_front (37 ∷ []) (rest from)
      else (if c == 100 then taking Int signed_decimal from rest
      else (if c == 99 then taking Int (λ z. character z ∷ []) from rest
      else (if c == 120 then taking Int hexadecimal from rest else Wrong type_check)))

  -- The text that a format makes of the numbers from a place on. `%bd` takes a big as a decimal number.
  abbrev pub formatted : List ℕ → (from : ℕ) → Access (List ℕ)
  formatted [] from = Found []
  formatted (c ∷ []) from = if c == 37 then Wrong type_check else Found (c ∷ [])
  formatted (c ∷ d ∷ []) from =
      if c == 37 then verb d from (λ from. Found []) else in_front (c ∷ []) (formatted (d ∷ []) from)
  formatted (c ∷ d ∷ e ∷ cs) from =
      if c == 37 then
      (if d == 98 && e == 100 then taking Big signed_decimal from (λ from. formatted cs from)
      else verb d from (λ from. formatted (e ∷ cs) from))
      else in_front (c ∷ []) (formatted (d ∷ e ∷ cs) from)
