use Rattle.std.proofs.Common.{rules, tests, ◌≡◌, true, subst, List}
use Rattle.limbo_layout.specs.declared.def.Field as code_field
use Rattle.limbo_layout.specs.Adts.{types_of}
use Rattle.limbo_layout.specs.View.{view_defs, view_fields}
use Rattle.limbo_members.specs.Tables.{AllNameIn}
use Rattle.limbo_members.proofs.Named.{variants_more}
use Rattle.limbo_members.proofs.naming.variants_name.Goals as goal

pub loop-variant-preserved : goal.loop-variant-preserved
loop-variant-preserved c =
    let yes : c.fields_name.result ≡ true = search (rules, tests) in
    variants_more (view_defs c.args.defs.now) c.args.modules c.args.variants.now c.loop-variant.variant-index c.variant-item.result
    c.loop-variant-test.true c.variant-item.is
    (subst (λ (fs : List code_field.Field). AllNameIn (view_defs c.args.defs.now) c.args.modules (types_of (view_fields fs)))
    c.deref.ensures.value (c.fields_name.ensures yes)) c.loop-variant.invariant
