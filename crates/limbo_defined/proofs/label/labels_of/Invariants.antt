use Rattle.std.proofs.Common.{◌≡◌, ◌++◌, drop}
use Rattle.limbo_top.specs.View.{definitions_of}
use Rattle.limbo_defined.specs.Labels.{labels}
use Rattle.limbo_defined.proofs.label.labels_of.Given as goal

abbrev pub invariant-loop-d : goal.invariant-loop-d
invariant-loop-d l = l.all.items ++ labels (definitions_of (drop l.d-index l.definitions)) ≡ labels (definitions_of l.definitions)
