use Rattle.std.proofs.Common.{◌≡◌, ◌++◌, drop}
use Rattle.limbo_defined.specs.Labels.{wanted_labels}
use Rattle.limbo_defined.specs.View.{wanted_of}
use Rattle.limbo_defined.proofs.label.wanted_labels.Given as goal

abbrev pub invariant-loop-w : goal.invariant-loop-w
invariant-loop-w l = l.all.items ++ wanted_labels (wanted_of (drop l.w-index l.wanted)) ≡ wanted_labels (wanted_of l.wanted)
