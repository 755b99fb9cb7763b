use Rattle.std.proofs.Common.{[], ◌∷◌, ◌++◌, ap, ◌∙◌}
use Rattle.limbo_types.specs.View.{view_ty}
use Rattle.core_code.specs.Code.{Other}
use Rattle.core_parts.specs.Lowered.{view_lowered}
use Rattle.core_parts.proofs.Joined.{chain_is}
use Rattle.core_parts.proofs.initialisers.chain_others.Goals as goal

pub returns : goal.returns
returns c = λ defs.
    let e = view_lowered c.args.element in
    let put = c.in_ok-put.ensures {u = tt}
    ∙ ap (λ t. e.code ++ Other t c.args.array c.args.turns e.value ∷ []) (c.in_ok-ty.ensures {u = tt}) in
    chain_is defs (view_ty c.args.item.now) c.args.array c.args.named.items c.args.turns c.saturating_sub-words.result e _ _ _ _
    c.saturating_sub-words.ensures put (c.in_ok-put-2.ensures {u = tt}) (c.in_ok-turns_of.ensures {u = tt})
    (c.in_ok-turned_back.ensures {u = tt})
