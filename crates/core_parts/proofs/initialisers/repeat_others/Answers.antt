use Rattle.std.proofs.Common.{[], ◌∷◌, ◌++◌, ap, ◌∙◌}
use Rattle.limbo_types.specs.View.{view_ty}
use Rattle.core_code.specs.Code.{Other}
use Rattle.core_parts.specs.Lowered.{code_of, view_lowered}
use Rattle.core_parts.proofs.Coded.{code_of_none}
use Rattle.core_parts.proofs.Joined.{repeat_is}
use Rattle.core_parts.proofs.initialisers.repeat_others.Goals as goal

pub returns : goal.returns
returns c = λ defs.
    let e = view_lowered c.args.element in
    let put = c.in_ok-put.ensures {u = tt}
    ∙ ap (λ t. e.code ++ Other t c.args.array c.args.turns e.value ∷ []) (c.in_ok-ty.ensures {u = tt}) in
    repeat_is defs (view_ty c.args.item.now) c.args.array c.args.named.items c.args.turns e _ _ _
    (ap code_of c.new.ensures.items ∙ code_of_none) put (c.in_ok-turns_of.ensures {u = tt})
