use Rattle.std.proofs.Common.{◌<◌, ◌≤◌, ◌+◌, List, length, map, refl, sym, ap, subst, ◌∙◌, arith}
use Rattle.std.proofs.lemmas.Result.{IfOk-weaker, IfErr-weaker}
use Rattle.limbo_tree.specs.Exprs as tree
use Rattle.limbo_tree.specs.View.{view_expr, exprs_of}
use Rattle.limbo_types.specs.View.{view_ty, view_tys}
use Rattle.limbo_typed.specs.Typed.{Pattern}
use Rattle.limbo_typed.specs.View.{view_pattern, patterns_of}
use Rattle.limbo_typed.proofs.View.{view_pattern-Nothing}
use Rattle.limbo_refusals.specs.Refusals.{Clash}
use Rattle.limbo_context.specs.View.{view_body}
use Rattle.limbo_defining.specs.Defining.{FailsDefine, FailsDefineSome}
use Rattle.limbo_defining.specs.Parts.{stays, declares, FailsPart}
use Rattle.limbo_defining.proofs.Lefts.{no_place, no_several, several_defined, some_fails, clashes, defined_as, fails_as}
use Rattle.limbo_defining.proofs.Lefts.{name_is, group_is, nil_is, not_nil}
use Rattle.limbo_defining.proofs.Each.{Defined, one_more, one_fails, all_defined}
use Rattle.limbo_defining.proofs.Told.{refused_as, weaker}
use Rattle.limbo_defining.proofs.defining.+defining.Goals as goal

pub define-returns-in-Ok-clause-defined : goal.define-returns-in-Ok-clause-defined
define-returns-in-Ok-clause-defined t c =
    defined_as _ _ _ _ _ _ (name_is c.args.left.now c.in-Name.name c.in-Name.span c.in-Name.is) c.in-Ok.ensures.defined

pub define-returns-in-Err-clause-refused : goal.define-returns-in-Err-clause-refused
define-returns-in-Err-clause-refused t c =
    fails_as c.in-Err.cause (view_body c.args.body.now) (view_expr c.args.left.now) (tree.Name c.in-Name.name) (view_ty c.args.t.now)
    (name_is c.args.left.now c.in-Name.name c.in-Name.span c.in-Name.is)
    c.in-Err.ensures.refused

pub define-returns-in-Group-clause-defined : goal.define-returns-in-Group-clause-defined
define-returns-in-Group-clause-defined t c =
    IfOk-weaker c.define_group.result _ _ (λ p h.
    defined_as _ _ _ _ _ _ (group_is c.args.left.now c.in-Group.items c.in-Group.span c.deref.result.now c.in-Group.is c.deref.ensures.value) h)
    c.define_group.ensures.defined

pub define-returns-in-Group-clause-refused : goal.define-returns-in-Group-clause-refused
define-returns-in-Group-clause-refused t c =
    IfErr-weaker c.define_group.result _ _ (λ f h.
    fails_as f.cause (view_body c.args.body.now) (view_expr c.args.left.now) (tree.Group (exprs_of (map view_expr c.deref.result.now)))
    (view_ty c.args.t.now)
    (group_is c.args.left.now c.in-Group.items c.in-Group.span c.deref.result.now c.in-Group.is c.deref.ensures.value)
    h)
    c.define_group.ensures.refused

pub define-returns-in_default : goal.define-returns-in_default
define-returns-in_default t c = record {
  defined = tt;
  refused = no_place (view_body c.args.body.now) c.args.left.now (view_ty c.args.t.now) c.in_default.not-Name c.in_default.not-Group;
}

pub define_group-returns-then-items-lt2-clause-refused : goal.define_group-returns-then-items-lt2-clause-refused
define_group-returns-then-items-lt2-clause-refused t c =
    no_several (view_body c.args.body.now) c.args.items.now (view_ty c.args.t.now) c.if-items-lt2.true

pub define_group-returns-in-Ok-to_parts-clause-defined : goal.define_group-returns-in-Ok-to_parts-clause-defined
define_group-returns-in-Ok-to_parts-clause-defined t c =
    several_defined (view_body c.args.body.now) (view_body c.define_each.new.body) c.args.items.now (view_ty c.args.t.now)
    (view_tys c.in-Some.types.now)
    (view_pattern c.in-Ok-to_parts.pattern.value)
    (patterns_of (map view_pattern c.in-Ok.parts.items))
    c.if-items-lt2.false
    c.in-Some.ensures.tuple
    c.in-Ok-to_parts.ensures
    c.in-Ok.ensures.defined

pub define_group-returns-in-Err-clause-refused : goal.define_group-returns-in-Err-clause-refused
define_group-returns-in-Err-clause-refused t c =
    let b = view_body c.args.body.now in
    let all = exprs_of (map view_expr c.args.items.now) in
    let u = view_ty c.args.t.now in
    weaker c.in-Err.fault.cause (FailsDefineSome b all (view_tys c.in-Some.types.now)) (FailsDefine b (tree.Group all) u)
    (λ k h. some_fails b c.args.items.now c.in-Some.types.now u k c.if-items-lt2.false c.in-Some.ensures.many c.in-Some.ensures.tuple h)
    c.in-Err.ensures.refused

pub define_group-returns-in-None-clause-refused : goal.define_group-returns-in-None-clause-refused
define_group-returns-in-None-clause-refused t c =
    let b = view_body c.args.body.now in
    let u = view_ty c.args.t.now in
    refused_as c.clash_of.result (Clash u u) (FailsDefine b (tree.Group (exprs_of (map view_expr c.args.items.now))) u)
    (clashes b c.args.items.now u c.if-items-lt2.false c.in-None.ensures.none)
    c.clash_of.ensures

pub define_each-returns-in-Err-clause-refused : goal.define_each-returns-in-Err-clause-refused
define_each-returns-in-Err-clause-refused t c =
    let first = view_body c.args.body.now in
    let b = view_body c.loop-place.body in
    let es = c.args.items.now in
    let ts = c.args.types.now in
    let e = c.index-items-place.result in
    let u = c.index-types-place.result in
    let l : c.loop-place.place < length es = omega arith in
    let m : c.loop-place.place < length ts = omega arith in
    weaker c.in-Err.fault.cause (FailsPart b (view_expr e) (view_ty u)) (FailsDefineSome first (exprs_of (map view_expr es)) (view_tys ts))
    (λ k h.
    one_fails first es ts b c.loop-place.place e u (map view_pattern c.loop-place.parts.items) k l m c.index-items-place.is
    c.index-types-place.is c.loop-place.invariant h)
    c.in-Err.ensures.refused

pub define_each-loop-place-preserved : goal.define_each-loop-place-preserved
define_each-loop-place-preserved t c =
    let first = view_body c.args.body.now in
    let next = view_body c.define_part.new.body in
    let es = c.args.items.now in
    let ts = c.args.types.now in
    let done = map view_pattern c.loop-place.parts.items in
    let l : c.loop-place.place < length es = omega arith in
    let m : c.loop-place.place < length ts = omega arith in
    subst (λ (z : List Pattern). Defined first next es ts (c.loop-place.place + 1) z) (sym c.in-Ok-put.ensures)
    (one_more first es ts (view_body c.loop-place.body) next c.loop-place.place c.index-items-place.result c.index-types-place.result done
    (view_pattern c.in-Ok.part.value)
    l
    m
    c.index-items-place.is
    c.index-types-place.is
    c.loop-place.invariant
    c.in-Ok.ensures.defined)

pub define_each-returns-clause-defined : goal.define_each-returns-clause-defined
define_each-returns-clause-defined t c =
    let es = c.args.items.now in
    let ts = c.args.types.now in
    let l : length es ≤ c.loop-place.place = omega arith in
    let m : length ts ≤ c.loop-place.place = omega arith in
    all_defined (view_body c.args.body.now) es ts (view_body c.loop-place.body) c.loop-place.place
    (map view_pattern c.loop-place.parts.items)
    l
    m
    c.loop-place.invariant

pub define_part-returns-in-Ok-clause-defined : goal.define_part-returns-in-Ok-clause-defined
define_part-returns-in-Ok-clause-defined t c =
    stays (nil_is c.args.item.now c.in-Nil.span c.in-Nil.is) (ap view_pattern c.in-Ok.ensures.ok ∙ view_pattern-Nothing) refl

pub define_part-returns : goal.define_part-returns
define_part-returns t c = record {
  defined = IfOk-weaker c.define.result _ _ (λ p h. declares h) c.define.ensures.defined;
  refused =
      IfErr-weaker c.define.result _ _ (λ f h.
      weaker f.cause (FailsDefine (view_body c.args.body.now) (view_expr c.args.item.now) (view_ty c.args.t.now))
      (FailsPart (view_body c.args.body.now) (view_expr c.args.item.now) (view_ty c.args.t.now))
      (λ k g. record { no_nil = not_nil c.args.item.now c.in_default.not-Nil; fails = g })
      h)
      c.define.ensures.refused;
}
