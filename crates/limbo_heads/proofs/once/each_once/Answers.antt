use Rattle.std.proofs.Common.{map, ◌∙◌}
use Rattle.limbo_typed.specs.View.{view_pick_arm, heads_of}
use Rattle.limbo_stmt_values.specs.limbo_stating.Picks.{all_variants}
use Rattle.limbo_heads.proofs.Single.{once_found}
use Rattle.limbo_heads.proofs.once.each_once.Goals as goal

pub returns : goal.returns
returns c =
    once_found (all_variants (heads_of (map view_pick_arm c.args.arms.now))) c.deref.result.now c.in_ok-overlap.field-0 c.is_none.result
    (c.deref.ensures.value ∙ c.in_ok-labels.ensures) c.in_ok-overlap.ensures c.is_none.ensures
