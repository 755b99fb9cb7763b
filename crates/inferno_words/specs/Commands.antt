-- The command that the words of the command line ask for.
use Rattle.std.specs.Prelude.{List, [], ◌∷◌, ◌≤◌, ℕ, Bool, false, Option}
use Rattle.std.specs.Prelude.{Some, None, is_some, map, option_map, if◌then◌else◌, codes, encode_utf8_all}
use Rattle.std.specs.Option.{option_map_or}
use Rattle.std.specs.Str.{bytes_eq, chars}
use Rattle.std.specs.Str.Parse.{digits_value, without_leading_plus}
use Rattle.clap.specs.Words.{App, Row, Text, first_of, one_of}
use Rattle.inf_text.specs.Options.{◌>>=◌}
use Rattle.inferno_words.specs.Forms.{go_form, limbo_form, dump_form, rows_by}
use Rattle.inferno_words.specs.declared.command.Command.{Command}
use Rattle.inferno_words.specs.declared.command.Command.TheVariants.{Go, Limbo, Dump}

-- ---- what was read

-- the text under a name
abbrev pub text_under : Text → List Row → Option (List ℕ)
text_under name rows = option_map chars (first_of name rows)

-- the number under a name, or another where there is none
abbrev pub number_under : Text → ℕ → List Row → ℕ
number_under name other rows = option_map_or (λ digits. digits_value 10 (without_leading_plus digits)) (one_of name rows) other

-- whether the flag of a name stands there
abbrev pub flag_under : Text → List Row → Bool
flag_under name rows = option_map_or (λ said. bytes_eq said (codes "true")) (one_of name rows) false

abbrev pub go_in : List Row → Option Command
go_in rows =
    text_under (codes "file") rows
    >>= λ file. Some (Go file (number_under (codes "quanta") 1000000 rows) (flag_under (codes "stats") rows))

abbrev pub limbo_in : List Row → Option Command
limbo_in rows = text_under (codes "file") rows >>= λ file. text_under (codes "out") rows >>= λ out. Some (Limbo file out)

abbrev pub dump_in : List Row → Option Command
dump_in rows = text_under (codes "file") rows >>= λ file. Some (Dump file)

-- ---- the first word names the command

-- the command that words in UTF-8 ask for by one form
abbrev pub asked_by : App → (List Row → Option Command) → List Text → Option Command
asked_by form command words = rows_by form words >>= command

abbrev pub asked_for : List ℕ → List Text → Option Command
asked_for name words =
    if bytes_eq name (codes "go") then asked_by go_form go_in words
    else (if bytes_eq name (codes "limbo") then asked_by limbo_form limbo_in words
    else (if bytes_eq name (codes "dump") then asked_by dump_form dump_in words else None))

-- the command that the words ask for
abbrev pub command_in : List (List ℕ) → Option Command
command_in [] = None
command_in (name ∷ rest) = asked_for name (map encode_utf8_all (name ∷ rest))

-- the form of the command of a name
abbrev pub form_of : List ℕ → Option App
form_of name =
    if bytes_eq name (codes "go") then Some go_form
    else (if bytes_eq name (codes "limbo") then Some limbo_form
    else (if bytes_eq name (codes "dump") then Some dump_form else None))

-- the words are no wrong usage: the first names a command, and its form takes them
abbrev pub is_of_form : List (List ℕ) → Bool
is_of_form [] = false
is_of_form (name ∷ rest) = option_map_or (λ form. is_some (rows_by form (map encode_utf8_all (name ∷ rest)))) (form_of name) false

-- a program may run for 1 to 10,000,000 quanta
abbrev pub IsWithinBounds : Command → Type 0
IsWithinBounds (Go file quanta stats) = (1 ≤ quanta) × (quanta ≤ 10000000)
IsWithinBounds _ = Unit {0}
