use Rattle.std.proofs.Common.{arith, ◌≡◌, length, map, ap, ◌∙◌}
use Rattle.std.proofs.lemmas.List.{drop_all}
use Rattle.limbo_layout.specs.Adts.{variant_types}
use Rattle.limbo_layout.specs.View.{view_variant}
use Rattle.core_writing.proofs.Numbered.{fields_on}
use Rattle.core_writing.proofs.moves.count_fields.Goals as goal

pub loop-variant-preserved : goal.loop-variant-preserved
loop-variant-preserved c =
    let sum = c.in-Some.ensures {u = tt} in
    let v = c.variant-item.result in
    let long : c.len.result ≡ length v.fields.items = omega (arith, c.len.ensures, v.fields.ok.0) in
    fields_on c.args.picks.now c.loop-variant.variant-index v c.loop-variant.sum c.len.result c.in-Some.more c.loop-variant-test.true
    c.variant-item.is long (omega (arith, sum)) ∙ c.loop-variant.invariant

pub returns : goal.returns
returns c =
    let none = drop_all c.loop-variant.variant-index c.args.picks.now c.loop-variant-test.false in
    let l = ap (λ vs. length (variant_types (map view_variant vs))) none in
    omega (arith, l, c.loop-variant.invariant)
