-- What the words of the command ask for.
use Rattle.std.specs.Prelude.{ℕ, ◌≡◌, Bool, true, List, Option, Some}
use Rattle.inferno_command.specs.Asked.{asked, run_file, run_quanta, run_stats, listed_file, object_files, is_go_or_none}

-- the file that the words name to be run, where they are of the form of `go`
abbrev pub named_file : List (List ℕ) → Option (List ℕ)
named_file words = run_file (asked words)

-- for how many quanta its program may run
abbrev pub limit_of : List (List ℕ) → ℕ
limit_of words = run_quanta (asked words)

-- the words name this file to be run, for at most so many quanta
pub record IsToRun (words : List (List ℕ)) (file : List ℕ) (limit : ℕ) : Type 0 where
  pub named : named_file words ≡ Some file
  pub limited : limit_of words ≡ limit

-- whether it is to be told what the run took
abbrev pub wants_stats : List (List ℕ) → Bool
wants_stats words = run_stats (asked words)

-- the file that the words name to be listed, where they are of the form of `dump`
abbrev pub dumped_file : List (List ℕ) → Option (List ℕ)
dumped_file words = listed_file (asked words)

-- the file that the words name to be compiled, and the one for its object, where they are of the form of `limbo`
abbrev pub compiled_file : List (List ℕ) → Option (List ℕ × List ℕ)
compiled_file words = object_files (asked words)

-- the words are those of neither `dump` nor `limbo`: they are of the form of `go`, or a wrong usage
abbrev pub IsGoOrNone : List (List ℕ) → Type 0
IsGoOrNone words = is_go_or_none (asked words) ≡ true
