use Rattle.std.proofs.Common.{rules, tests, ◌≡◌, true, sym, ◌∙◌}
use Rattle.limbo_layout.specs.View.{view_defs}
use Rattle.limbo_members.proofs.Named.{fields_more}
use Rattle.limbo_members.proofs.naming.fields_name.Goals as goal

pub loop-field-preserved : goal.loop-field-preserved
loop-field-preserved c =
    let yes : c.names.result ≡ true = search (rules, tests) in
    fields_more (view_defs c.args.defs.now) c.args.modules c.args.fields.now c.loop-field.field-index c.field-item.result
    c.loop-field-test.true c.field-item.is (sym c.names.ensures ∙ yes) c.loop-field.invariant
