use Rattle.std.proofs.Common.{sym, ◌∙◌}
use Rattle.limbo_declarations.specs.View.{view_declared}
use Rattle.limbo_entries.specs.View.{entries_of, view_entry}
use Rattle.limbo_naming.specs.Naming.{of_variant}
use Rattle.limbo_naming.proofs.Parts.{adt_found, adt_absent, variant_found, variant_absent, adt_alone}
use Rattle.limbo_naming.proofs.sight.part_of.Goals as goal

pub returns-then-is_adt-clause-found : goal.returns-then-is_adt-clause-found
returns-then-is_adt-clause-found c =
    adt_found (entries_of c.args.table.now.entries.items) c.args.outer (view_entry c.args.entry.now) c.requires.entry c.args.name.now c.member.result
    (sym c.is_adt.ensures ∙ c.if-is_adt.true) c.member.ensures.found

pub returns-then-is_adt-clause-absent : goal.returns-then-is_adt-clause-absent
returns-then-is_adt-clause-absent c =
    adt_absent (entries_of c.args.table.now.entries.items) c.args.outer (view_entry c.args.entry.now) c.requires.entry c.args.name.now c.member.result
    (adt_alone (view_declared c.args.entry.now.row.declared) (sym c.is_adt.ensures ∙ c.if-is_adt.true)) c.member.ensures.absent

pub returns-in-Some-clause-found : goal.returns-in-Some-clause-found
returns-in-Some-clause-found c = of_variant (view_entry c.args.entry.now) c.requires.entry (sym c.is_variant.ensures ∙ c.if-not-is_variant.false) c.in-Some.ensures.found

pub returns-in-None-clause-found : goal.returns-in-None-clause-found
returns-in-None-clause-found c =
    variant_found (entries_of c.args.table.now.entries.items) c.args.outer (view_entry c.args.entry.now) c.requires.entry c.args.name.now c.member-in-None.result
    (sym c.is_variant.ensures ∙ c.if-not-is_variant.false) c.in-None.ensures.absent c.member-in-None.ensures.found

pub returns-in-None-clause-absent : goal.returns-in-None-clause-absent
returns-in-None-clause-absent c =
    variant_absent (entries_of c.args.table.now.entries.items) c.args.outer (view_entry c.args.entry.now) c.requires.entry c.args.name.now c.member-in-None.result
    c.in-None.ensures.absent c.member-in-None.ensures.absent
