-- That the machine follows three-address code where the row of each instruction leads from where two processes stand alike to where they do
-- again.
use Rattle.std.specs.Prelude.{ℕ}
use Rattle.process_ways.specs.Laws.{FollowsBy}
use Rattle.limbo_typed.specs.Typed as typed
use Rattle.core_code.specs.Machine as code
use Rattle.dis_meaning.specs.Process.{Process}
use Rattle.dis_memory.specs.Blocks.{World}
use Rattle.value_words.specs.Facts.{Facts}
use Rattle.value_follows.specs.Sides.{sides}
use Rattle.value_follows.specs.Rows.{RowGoes, place, bound}

-- Wherever two processes stand alike in front of an instruction, its row leads to where they do again.
abbrev pub RowsLead : typed.Module → Type 0
RowsLead m =
    (k : Facts) (i : ℕ) (x : World) (p : code.Process) (q : Process) → (sides m).ready k i x p q → RowGoes m k i x p q

-- Then the machine with the module's object follows its three-address code, by how far processes are in their rows, and takes at most so
-- many instructions for one.
abbrev pub RowsFollow : Type 0
RowsFollow = (m : typed.Module) → RowsLead m → FollowsBy (sides m) (place m) (bound m)
