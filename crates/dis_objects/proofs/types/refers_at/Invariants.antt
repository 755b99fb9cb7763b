use Rattle.std.proofs.Common.{◌≡◌, drop}
use Rattle.slot_code.specs.Layout.{end_of}
use Rattle.dis_objects.specs.Frames.{is_in, reference_places}
use Rattle.dis_objects.proofs.types.refers_at.Given as goal

-- It refers among those that are left.
abbrev pub invariant-loop-variable : goal.invariant-loop-variable
invariant-loop-variable l = record {
  ends : end_of l.at (drop l.variable-index l.variables) ≡ end_of 32 l.variables;
  refers : is_in l.place (reference_places l.at (drop l.variable-index l.variables)) ≡ is_in l.place (reference_places 32 l.variables);
}
