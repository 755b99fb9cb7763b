use Rattle.std.proofs.Common.{◌+◌, drop, map, sym, ap, ◌∙◌}
use Rattle.limbo_types.specs.View.{view_ty}
use Rattle.limbo_context.specs.View.{view_body}
use Rattle.limbo_bodies.specs.Bodies.{with_parameters}
use Rattle.limbo_bodies.specs.View.{names_seen}
use Rattle.limbo_bodies.proofs.Steps.{no_types_left, next, repeats_further, repeats_this}
use Rattle.limbo_bodies.proofs.parameters.declare_parameters.Goals as goal

pub returns-then-place-types-clause-declared : goal.returns-then-place-types-clause-declared
returns-then-place-types-clause-declared c =
    let i = c.loop-place.place in
    sym (no_types_left (names_seen (drop i c.args.names.now)) c.args.types.now i (view_body c.loop-place.body) c.if-place-types.true) ∙
    c.loop-place.invariant.same

pub returns-in-Err-clause-twice : goal.returns-in-Err-clause-twice
returns-in-Err-clause-twice c = λ e.
    let r = c.in-Err.ensures.twice e in
    c.loop-place.invariant.repeats
    (repeats_this c.args.names.now c.args.types.now c.loop-place.place c.index-names-place.result c.index-types-place.result (view_ty
    c.in_ok-ty.ty) (view_body c.loop-place.body)
    c.loop-place-test.true c.if-place-types.false c.index-names-place.is c.index-types-place.is c.in_ok-ty.ensures r.0 r.1 r.2 r.3)

pub loop-place-preserved : goal.loop-place-preserved
loop-place-preserved c =
    let names = c.args.names.now in
    let types = c.args.types.now in
    let i = c.loop-place.place in
    let b = view_body c.loop-place.body in
    let d = c.in-Ok.ensures.declared in
    record {
      same = ap (λ z. with_parameters (names_seen (drop (i + 1) names)) (map view_ty (drop (i + 1) types)) z) d
          ∙ sym (next names types i c.index-names-place.result c.index-types-place.result (view_ty c.in_ok-ty.ty) b c.loop-place-test.true
          c.if-place-types.false c.index-names-place.is c.index-types-place.is c.in_ok-ty.ensures)
          ∙ c.loop-place.invariant.same;
      repeats = λ r. c.loop-place.invariant.repeats
          (repeats_further names types i c.index-names-place.result c.index-types-place.result (view_ty c.in_ok-ty.ty) b
          c.loop-place-test.true c.if-place-types.false c.index-names-place.is c.index-types-place.is c.in_ok-ty.ensures
          (rw d at r));
    }
