use Rattle.std.proofs.Common.{◌<◌, length, sym, ◌∙◌}
use Rattle.limbo_entries.specs.View.{view_entry}
use Rattle.limbo_naming.proofs.Places.{inside}
use Rattle.limbo_type_names.proofs.Knowing.{number_within, a_variant}
use Rattle.limbo_type_names.proofs.known.Known.variant_at.Goals as goal

pub bounds-self-outer : goal.bounds-self-outer
bounds-self-outer c =
    let t = c.args.self.now.naming.now.table.now in
    let l : c.in-Some.outer < length t.entries.items =
    inside c.in-Some.outer c.len.result (length t.entries.items) (rw c.table-table.ensures at c.len.ensures ∙ t.entries.ok.0) c.if-outer-len.false in
    number_within t.entries.items c.args.self.now.numbers.now c.in-Some.outer c.requires.sees.numbers l

pub bounds-self-number : goal.bounds-self-number
bounds-self-number c = number_within c.args.self.now.naming.now.table.now.entries.items c.args.self.now.numbers.now c.args.number c.requires.sees.numbers c.requires.there

pub returns-else-outer-len-clause-some : goal.returns-else-outer-len-clause-some
returns-else-outer-len-clause-some c =
    let t = c.args.self.now.naming.now.table.now in
    let l : c.in-Some.outer < length t.entries.items =
    inside c.in-Some.outer c.len.result (length t.entries.items) (rw c.table-table.ensures at c.len.ensures ∙ t.entries.ok.0) c.if-outer-len.false in
    a_variant t.entries.items c.args.self.now.numbers.now c.requires.sees.numbers c.args.number c.in-Some.outer (view_entry c.entry-entry.result)
    (rw c.table-table.ensures at c.entry-entry.ensures) (sym c.is_variant.ensures ∙ c.if-not-is_variant.false) c.in-Some.is l
