-- What a format makes of the arguments in the words of a print's frame (Inferno manual, sys-print(2)). A format that doesn't fit its
-- call's frame raises `bad format`, whatever is wrong.
use Rattle.std.specs.Prelude.{ℕ, ℤ, pos, ◌+◌, ◌==◌, ◌&&◌, List, [], ◌∷◌, codes, if◌then◌else◌}
use Rattle.std.specs.Int.{next_multiple_of}
use Rattle.std.specs.Fmt.{signed_decimal}
use Rattle.limbo_values.specs.declared.number.Kind.{Kind}
use Rattle.limbo_values.specs.declared.number.Kind.TheVariants.{Int, Big}
use Rattle.system_model.specs.Verbs.{character, hexadecimal}
use Rattle.dis_meaning.specs.Words.{Word, Access, Found, Raises, ◌>>=◌, word_at, reference}
use Rattle.dis_meaning.specs.Formats.{bytes_taken, in_front}
use Rattle.dis_meaning.specs.Numbers.{number_at}
use Rattle.dis_memory.specs.Blocks.{World}
use Rattle.dis_memory.specs.Kinds.{text_at}

abbrev pub bad_format : {T : Type 0} → Access T
bad_format = Raises (codes "bad format")

-- What is found, or else that the format is bad.
abbrev pub fitting : {T : Type 0} → Access T → Access T
fitting (Found t) = Found t
fitting _ = bad_format

module _ (x : World) (words : List Word) where
  -- The next number of a kind, from a place on, is told in front of what follows, which has the arguments behind it.
  abbrev pub taking : Kind → (ℤ → List ℕ) → (from : ℕ) → (ℕ → Access (List ℕ)) → Access (List ℕ)
  taking kind text from rest =
      fitting (number_at kind words (pos (next_multiple_of from (bytes_taken kind)))) >>= λ z.
      in_front (text z) (rest (next_multiple_of from (bytes_taken kind) + bytes_taken kind))

  -- The next string.
  abbrev pub taking_text : (from : ℕ) → (ℕ → Access (List ℕ)) → Access (List ℕ)
  taking_text from rest =
      fitting (word_at words (pos (next_multiple_of from 4)) >>= reference >>= text_at x) >>= λ t.
      in_front t (rest (next_multiple_of from 4 + 4))

  -- What stands behind a `%` says what the format does: `%d` takes the next int as a decimal number, `%c` as a character and `%x` to the
  -- base 16, and `%s` the next string; `%%` is the character.
  abbrev pub verb : ℕ → (from : ℕ) → (ℕ → Access (List ℕ)) → Access (List ℕ)
  verb c from rest =
      if c == 37 then in_front (37 ∷ []) (rest from)
      else (if c == 100 then taking Int signed_decimal from rest
      else (if c == 99 then taking Int (λ z. character z ∷ []) from rest
      else (if c == 120 then taking Int hexadecimal from rest
      else (if c == 115 then taking_text from rest else bad_format))))

  -- The text that a format makes of the arguments from a place on. `%bd` takes a big as a decimal number.
  abbrev pub formatted : List ℕ → (from : ℕ) → Access (List ℕ)
  formatted [] from = Found []
  formatted (c ∷ []) from = if c == 37 then bad_format else Found (c ∷ [])
  formatted (c ∷ d ∷ []) from =
      if c == 37 then verb d from (λ from. Found []) else in_front (c ∷ []) (formatted (d ∷ []) from)
  formatted (c ∷ d ∷ e ∷ cs) from =
      if c == 37 then
      (if d == 98 && e == 100 then taking Big signed_decimal from (λ from. formatted cs from)
      else verb d from (λ from. formatted (e ∷ cs) from))
      else in_front (c ∷ []) (formatted (d ∷ e ∷ cs) from)
