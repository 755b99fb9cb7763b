use Rattle.std.proofs.Common.{refl, ap}
use Rattle.limbo_declarations.specs.View.{view_declared}
use Rattle.limbo_entries.specs.View.{view_entry}
use Rattle.limbo_naming.specs.Naming.{is_variant}
use Rattle.limbo_type_names.proofs.Rows.{is_plain}
use Rattle.limbo_type_names.proofs.Counting.{none_on}
use Rattle.limbo_type_names.proofs.numbers.next.Goals as goal

pub returns-in-Case-clause-counts : goal.returns-in-Case-clause-counts
returns-in-Case-clause-counts c = c.next_variant.ensures.counts (view_entry c.args.entry) (ap (λ d. is_variant (view_declared d)) c.in-Case.is) refl

pub returns-in_default-clause-counts : goal.returns-in_default-clause-counts
returns-in_default-clause-counts c =
    let p = is_plain c.args.entry.row.declared c.in_default.not-Adt c.in_default.not-Module c.in_default.not-Case in
    none_on (view_entry c.args.entry) c.args.counts.now c.args.counts.now p.0 p.1 p.2 refl
