-- The command that the words ask for, as it is carried out.
use Rattle.std.specs.Prelude.{ℕ, Bool, true, false, if◌then◌else◌, List, Option, None, Some}
use Rattle.inf_text.specs.Options.{◌>>=◌}
use Rattle.inferno_words.specs.Commands.{command_in}
use Rattle.inferno_words.specs.declared.command.Command.{Command}
use Rattle.inferno_words.specs.declared.command.Command.TheVariants.{Go, Limbo, Dump}
use Rattle.inferno_command.specs.Base.{has_short_name}

-- the file that a command reads
abbrev pub file_of : Command → List ℕ
file_of (Go file quanta stats) = file
file_of (Limbo file out) = file
file_of (Dump file) = file

abbrev pub if_short : Command → Option Command
if_short command = if has_short_name (file_of command) then Some command else None

-- the command that the words ask for, where its FILE has a base name that isn't too long
unfoldable pub asked : List (List ℕ) → Option Command
asked words = command_in words >>= if_short

-- ---- what is asked for

-- the file that is to be run, where it's `go`
abbrev pub run_file : Option Command → Option (List ℕ)
run_file (Some (Go file quanta stats)) = Some file
run_file _ = None

-- for how many quanta it may run
abbrev pub run_quanta : Option Command → ℕ
run_quanta (Some (Go file quanta stats)) = quanta
run_quanta _ = 0

-- whether it is to be told what the run took
abbrev pub run_stats : Option Command → Bool
run_stats (Some (Go file quanta stats)) = stats
run_stats _ = false

-- the file that is to be listed, where it's `dump`
abbrev pub listed_file : Option Command → Option (List ℕ)
listed_file (Some (Dump file)) = Some file
listed_file _ = None

-- the file that is to be compiled, and the one that its object is to be written to, where it's `limbo`
abbrev pub object_files : Option Command → Option (List ℕ × List ℕ)
object_files (Some (Limbo file out)) = Some (file, out)
object_files _ = None

-- whether nothing is to be listed or written: it's `go`, or no command
abbrev pub is_go_or_none : Option Command → Bool
is_go_or_none (Some (Limbo file out)) = false
is_go_or_none (Some (Dump file)) = false
is_go_or_none _ = true
