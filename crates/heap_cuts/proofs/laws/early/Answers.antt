use Rattle.std.specs.Prelude.{None, slice_set}
use Rattle.heap_model.specs.Heap.{stays}
use Rattle.heap_cuts.proofs.Sooner.{early, twice_early, unnamed_early}
use Rattle.heap_cuts.proofs.laws.early.Goals as goal

pub returns-clause-any : goal.returns-clause-any
returns-clause-any g c inside roots h less l = early inside roots h less l

pub returns-clause-unnamed : goal.returns-clause-unnamed
returns-clause-unnamed g c inside roots h k r i = early inside roots h (slice_set h k None) (unnamed_early inside roots h k r i)

pub returns-clause-twice : goal.returns-clause-twice
returns-clause-twice g c inside roots fewer h l = early inside fewer h (stays inside roots h) (twice_early inside roots fewer h l)
