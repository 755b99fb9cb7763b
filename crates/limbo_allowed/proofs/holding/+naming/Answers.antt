use Rattle.std.proofs.Common.{arith, ap, sym, ◌∙◌}
use Rattle.std.specs.Prelude.{nat_lt}
use Rattle.std.proofs.lemmas.List.{length-map}
use Rattle.limbo_types.specs.View.{view_ty}
use Rattle.limbo_types.proofs.View.{view_ty-Array, view_ty-List, view_ty-Chan, view_ty-Tuple, view_ty-Adt, view_ty-RefAdt, view_ty-RefPick, view_ty-Module}
use Rattle.limbo_layout.specs.View.{view_def, view_defs}
use Rattle.limbo_allowed.specs.Choosing.{is_named}
use Rattle.limbo_allowed.proofs.Forms.{names_nothing}
use Rattle.limbo_allowed.proofs.holding.+naming.Goals as goal

pub names-returns-in-Adt : goal.names-returns-in-Adt
names-returns-in-Adt t c =
    ap (λ k. nat_lt c.in-Adt.number k) (sym (length-map c.args.defs.now view_def))
    ∙ sym (ap (λ u. is_named (view_defs c.args.defs.now) c.args.modules u) (ap view_ty c.in-Adt.is ∙ view_ty-Adt c.in-Adt.number))

pub names-returns-in-RefAdt : goal.names-returns-in-RefAdt
names-returns-in-RefAdt t c =
    ap (λ k. nat_lt c.in-RefAdt.number k) (sym (length-map c.args.defs.now view_def))
    ∙ sym (ap (λ u. is_named (view_defs c.args.defs.now) c.args.modules u) (ap view_ty c.in-RefAdt.is ∙ view_ty-RefAdt c.in-RefAdt.number))

pub names-returns-in-Array : goal.names-returns-in-Array
names-returns-in-Array t c = grind (arith, view_ty-Array)

pub names-returns-in-List : goal.names-returns-in-List
names-returns-in-List t c = grind (arith, view_ty-List)

pub names-returns-in-Chan : goal.names-returns-in-Chan
names-returns-in-Chan t c = grind (arith, view_ty-Chan)

pub names-returns-in-Tuple : goal.names-returns-in-Tuple
names-returns-in-Tuple t c = grind (arith, view_ty-Tuple)

pub names-returns-in-RefPick : goal.names-returns-in-RefPick
names-returns-in-RefPick t c = grind (arith, view_ty-RefPick)

pub names-returns-in-Module : goal.names-returns-in-Module
names-returns-in-Module t c = grind (arith, view_ty-Module)

pub names-returns-in_default : goal.names-returns-in_default
names-returns-in_default t c =
    let d = c.in_default in
    names_nothing (view_defs c.args.defs.now) c.args.modules c.args.t.now d.not-Array d.not-List d.not-Chan d.not-Tuple d.not-Adt d.not-RefAdt
    d.not-RefPick d.not-Module
