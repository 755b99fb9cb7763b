use Rattle.std.proofs.Common.{◌≡◌, ◌++◌, ap, arith, ◌∙◌}
use Rattle.core_code.specs.Terms.{cell_drops}
use Rattle.core_parts.specs.Lowered.{code_of}
use Rattle.core_parts.proofs.Celled.{cell_drops_on}
use Rattle.core_parts.proofs.several.put_cell_drops.Goals as goal

pub loop-i-preserved : goal.loop-i-preserved
loop-i-preserved c = λ defs.
    cell_drops_on defs c.loop-i.i c.args.free (code_of c.args.drops.now.items) (code_of c.loop-i.drops.items) _
    (c.loop-i.invariant defs) (c.in_ok-put.ensures {u = tt})

pub returns : goal.returns
returns c =
    let all : c.loop-i.i ≡ c.args.count = omega arith in
    λ defs. c.loop-i.invariant defs ∙ ap (λ n. code_of c.args.drops.now.items ++ cell_drops defs n c.args.free) all
