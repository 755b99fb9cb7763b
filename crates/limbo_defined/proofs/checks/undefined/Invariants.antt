use Rattle.std.proofs.Common.{◌≡◌, None, take}
use Rattle.std.specs.List.{Contains}
use Rattle.limbo_defined.specs.Labels.{label}
use Rattle.limbo_defined.specs.Sets.{get_label}
use Rattle.limbo_defined.specs.Wanted.{Wanted}
use Rattle.limbo_defined.specs.View.{wanted_of}
use Rattle.limbo_defined.proofs.checks.undefined.Given as goal

abbrev pub invariant-loop-w : goal.invariant-loop-w
invariant-loop-w l = (w : Wanted) → Contains (wanted_of (take l.w-index l.wanted)) w → get_label l.set (label w.name w.part) ≡ None → ⊥
