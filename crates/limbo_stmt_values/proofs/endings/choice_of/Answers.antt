use Rattle.std.proofs.Common.{inl, inr, ap, ◌∙◌}
use Rattle.limbo_types.specs.View.{view_ty}
use Rattle.limbo_types.proofs.View.{view_ty-Int, view_ty-Big, view_ty-Chars, view_ty-Nil}
use Rattle.limbo_stmt_values.proofs.Told.{not_cased, not_nil}
use Rattle.limbo_stmt_values.proofs.endings.choice_of.Goals as goal

pub returns-in-Int : goal.returns-in-Int
returns-in-Int c = inl (ap view_ty c.in-Int.is ∙ view_ty-Int)

pub returns-in-Big : goal.returns-in-Big
returns-in-Big c = inr (inl (ap view_ty c.in-Big.is ∙ view_ty-Big))

pub returns-in-Chars : goal.returns-in-Chars
returns-in-Chars c = inr (inr (ap view_ty c.in-Chars.is ∙ view_ty-Chars))

pub returns-in-Nil : goal.returns-in-Nil
returns-in-Nil c = ap view_ty c.in-Nil.is ∙ view_ty-Nil

pub returns-in_default : goal.returns-in_default
returns-in_default c = (
  not_cased c.args.t.now c.in_default.not-Int c.in_default.not-Big c.in_default.not-Chars,
  not_nil c.args.t.now c.in_default.not-Nil,
)
