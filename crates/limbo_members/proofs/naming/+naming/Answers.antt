use Rattle.std.proofs.Common.{ap, sym, ◌∙◌}
use Rattle.std.specs.Prelude.{nat_lt}
use Rattle.std.proofs.lemmas.List.{length-map}
use Rattle.limbo_types.specs.View.{view_ty}
use Rattle.limbo_types.proofs.View.{view_ty-Adt, view_ty-RefAdt}
use Rattle.limbo_layout.specs.View.{view_def, view_defs}
use Rattle.limbo_allowed.specs.Choosing.{is_named}
use Rattle.limbo_members.proofs.naming.+naming.Goals as goal

pub names-returns-in-Adt : goal.names-returns-in-Adt
names-returns-in-Adt t c =
    ap (λ k. nat_lt c.in-Adt.number k) (sym (length-map c.args.defs.now view_def))
    ∙ sym (ap (λ u. is_named (view_defs c.args.defs.now) c.args.modules u) (ap view_ty c.in-Adt.is ∙ view_ty-Adt c.in-Adt.number))

pub names-returns-in-RefAdt : goal.names-returns-in-RefAdt
names-returns-in-RefAdt t c =
    ap (λ k. nat_lt c.in-RefAdt.number k) (sym (length-map c.args.defs.now view_def))
    ∙ sym (ap (λ u. is_named (view_defs c.args.defs.now) c.args.modules u) (ap view_ty c.in-RefAdt.is ∙ view_ty-RefAdt c.in-RefAdt.number))
