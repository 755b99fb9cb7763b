-- What a run took, by its journal.
use Rattle.std.specs.Prelude.{ℕ, suc, List, [], ◌∷◌, ◌++◌, codes, decimal}
use Rattle.dis_machine.specs.declared.event.Event.{Event}
use Rattle.dis_machine.specs.declared.event.Event.TheVariants as event
use Rattle.dis_machine.specs.Journal.{quanta}
use Rattle.inferno_stats.specs.declared.stats.Stats.{Stats}

-- how many replies a journal has
abbrev pub replies : List Event → ℕ
replies [] = 0
replies (event.Quantum pid count ∷ es) = replies es
replies (event.Reply link frame ∷ es) = suc (replies es)
replies (event.Down link why ∷ es) = replies es

-- what a run took whose journal has these events
abbrev pub stats_in : List Event → Stats
stats_in events = record { quanta = quanta events; replies = replies events }

-- the line about it
abbrev pub stats_line : Stats → List ℕ
stats_line stats = codes "stats: quanta " ++ decimal stats.quanta ++ codes " replies " ++ decimal stats.replies ++ 10 ∷ []
