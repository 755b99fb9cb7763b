use Rattle.std.proofs.Common.{◌≡◌, drop, map}
use Rattle.limbo_types.specs.View.{view_ty}
use Rattle.limbo_context.specs.View.{view_body}
use Rattle.limbo_bodies.specs.Bodies.{with_parameters, RepeatsName}
use Rattle.limbo_bodies.specs.View.{names_seen}
use Rattle.limbo_bodies.proofs.parameters.declare_parameters.Given as goal

abbrev pub invariant-loop-place : goal.invariant-loop-place
invariant-loop-place l = record {
  same : with_parameters (names_seen (drop l.place l.names)) (map view_ty (drop l.place l.types)) (view_body l.body)
      ≡ with_parameters (names_seen l.names) (map view_ty l.types) (view_body l.fn.body);
  repeats : RepeatsName (names_seen (drop l.place l.names)) (map view_ty (drop l.place l.types)) (view_body l.body)
      → RepeatsName (names_seen l.names) (map view_ty l.types) (view_body l.fn.body);
}
