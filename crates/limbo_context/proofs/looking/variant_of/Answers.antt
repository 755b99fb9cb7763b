use Rattle.std.proofs.Common.{◌≡◌, ◌≤◌, List, length, map, subst, arith}
use Rattle.std.specs.Prelude.{IfSome, IfNone}
use Rattle.std.proofs.lemmas.List.{length-map}
use Rattle.std.proofs.lemmas.Option.{slice_get_past}
use Rattle.limbo_layout.specs.declared.def.Variant as code_variant
use Rattle.limbo_layout.specs.View.{view_def, view_defs, view_variant}
use Rattle.limbo_layout.proofs.Climbing.{seen_at}
use Rattle.limbo_refusals.specs.Refusals.{NoneIs}
use Rattle.limbo_context.specs.Context.{IsFirstNamed}
use Rattle.limbo_context.proofs.Variants.{at_adt, none_of, no_adt}
use Rattle.limbo_context.proofs.looking.variant_of.Goals as goal

pub returns-in-Some-clause-found : goal.returns-in-Some-clause-found
returns-in-Some-clause-found c =
    let there = seen_at c.args.adts.now c.args.adt c.in-Some.def.now c.in-Some.ensures.lookup.3.0 c.in-Some.ensures.lookup.1 in
    at_adt (view_defs c.args.adts.now) c.args.adt (view_def c.in-Some.def.now) c.args.name.now there c.variant_named.result
    (subst (λ (z : List code_variant.Variant). IfSome c.variant_named.result (λ n. IsFirstNamed (map view_variant z) c.args.name.now n))
    c.deref.ensures.value c.variant_named.ensures.found)

pub returns-in-Some-clause-none : goal.returns-in-Some-clause-none
returns-in-Some-clause-none c =
    let there = seen_at c.args.adts.now c.args.adt c.in-Some.def.now c.in-Some.ensures.lookup.3.0 c.in-Some.ensures.lookup.1 in
    none_of (view_defs c.args.adts.now) c.args.adt (view_def c.in-Some.def.now) c.args.name.now there c.variant_named.result
    (subst (λ (z : List code_variant.Variant). IfNone c.variant_named.result (NoneIs (IsFirstNamed (map view_variant z) c.args.name.now)))
    c.deref.ensures.value c.variant_named.ensures.none)

pub returns-in-None-clause-none : goal.returns-in-None-clause-none
returns-in-None-clause-none c =
    let m : length (view_defs c.args.adts.now) ≡ length c.args.adts.now = length-map c.args.adts.now view_def in
    let l : length c.args.adts.now ≤ c.args.adt = c.in-None.ensures.lookup.3 in
    no_adt (view_defs c.args.adts.now) c.args.adt c.args.name.now (slice_get_past (view_defs c.args.adts.now) c.args.adt (omega arith))
