-- How a command ends: its status, and the lines that it writes about it.
use Rattle.std.specs.Prelude.{ℕ, Bool, if◌then◌else◌, List, [], ◌∷◌, ◌++◌, map, codes, decimal, encode_utf8_all, ◌⊎◌, Option, None, Some}
use Rattle.std.specs.Io.KnownBytes.{Appends}
use Rattle.inf_ports.specs.Outside.{Rose, AppendsPart}
use Rattle.dis_format.specs.Answers.{refusal_number}
use Rattle.link_sign.specs.declared.found.Clash.{Clash}
use Rattle.dis_machine.specs.Ends.{Breach}
use Rattle.dis_machine.specs.Kept.{view_broken}
use Rattle.dis_machine.specs.declared.event.Journal.{Journal}
use Rattle.inferno_stats.specs.declared.stats.Stats.{Stats}
use Rattle.inferno_stats.specs.Stats.{stats_in, stats_line}
use Rattle.inferno_top.specs.declared.cause.Cause.{Cause}
use Rattle.inferno_top.specs.declared.cause.Cause.TheVariants.{Done, Broke, Usage, BadSource, Clashing, BadObject, Limit, Host, SinkFault}
use Rattle.inferno_top.specs.declared.cause.Cause.TheVariants.{NoMemory}
use Rattle.inferno_top.specs.declared.cause.SourceFault.{SourceFault}
use Rattle.inferno_top.specs.Faults.{number_of, place_of}
use Rattle.inferno_top.specs.Outcome.{lacks_memory}

-- the exit status of each cause
abbrev pub status_of : Cause → ℕ
status_of Done = 0
status_of (Broke broken) = 1
status_of Usage = 2
status_of (BadSource file fault) = 3
status_of (Clashing clash) = 3
status_of (BadObject file fault) = 4
status_of (Limit quanta) = 6
status_of (Host path missing) = 7
status_of (SinkFault out err) = 8
status_of NoMemory = 10

-- a line of the command about its end: its name and the words, with a newline
abbrev pub line : List ℕ → List ℕ
line words = codes "inferno: " ++ words ++ 10 ∷ []

-- what stands behind the file of a refusal: its line and column, and its number
abbrev pub told : SourceFault → List ℕ
told fault =
    codes ":" ++ decimal (place_of fault).line ++ codes ":" ++ decimal (place_of fault).col ++ codes ": fault "
    ++ decimal (number_of fault)

-- what stands behind the file of a refused object: the refusal's number and its place
abbrev pub told_refusal : Option (ℕ × ℕ) → List ℕ
told_refusal None = []
told_refusal (Some (number, at)) = codes ": fault " ++ decimal number ++ codes " at " ++ decimal at

-- the line about a process that broke: its number, and with what text
abbrev pub broken_line : Breach → List ℕ
broken_line b = line (codes "process " ++ decimal b.pid ++ codes " broken: " ++ encode_utf8_all b.text)

abbrev pub broken_lines : List Breach → List ℕ
broken_lines [] = []
broken_lines (b ∷ bs) = broken_line b ++ broken_lines bs

-- the line about texts of functions that clash
abbrev pub clash_line : Clash → List ℕ
clash_line c = line (codes "clash " ++ c.first.items ++ codes " " ++ c.second.items)

-- the bytes of the lines about each cause
abbrev pub closing_line : Cause → List ℕ
closing_line Done = []
closing_line (Broke broken) = broken_lines (map view_broken broken.items)
closing_line (Limit quanta) = line (codes "limit " ++ decimal quanta)
closing_line Usage = line (codes "usage")
closing_line (BadSource file fault) = line (encode_utf8_all file ++ told fault)
closing_line (Clashing clash) = clash_line clash
closing_line (BadObject file fault) = line (encode_utf8_all file ++ told_refusal (refusal_number fault))
closing_line (Host path missing) = line (codes "file " ++ encode_utf8_all path)
closing_line (SinkFault out err) = line (codes "output failed")
closing_line NoMemory = line (codes "no memory")

-- what is told of a run, where one was started and that is wanted
abbrev pub told_stats : Bool → Option Journal → Option Stats
told_stats wanted None = None
told_stats wanted (Some journal) = if wanted then Some (stats_in journal.events) else None

abbrev pub stats_lines : Option Stats → List ℕ
stats_lines None = []
stats_lines (Some stats) = stats_line stats

-- the bytes of all lines: those about the cause, and then what the run took, where that is told; want of memory is told alone
abbrev pub closing_lines : Cause → Option Stats → List ℕ
closing_lines cause stats = closing_line cause ++ (if lacks_memory cause then [] else stats_lines stats)

-- the bytes were written, or a first part of them up to a fault
abbrev pub IsWritten : Option (List ℕ) → Option (List ℕ) → ℕ → ℕ → List ℕ → Type 0
IsWritten old new before now bytes = Appends old new bytes ⊎ (AppendsPart old new bytes × Rose before now)
