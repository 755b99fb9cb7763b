use Rattle.limbo_layout.specs.View.{view_defs}
use Rattle.core_writing.proofs.moves.value_of.Goals as goal

pub returns-clause-exact : goal.returns-clause-exact
returns-clause-exact c =
    let exact = (c.in_ok-whole.ensures {u = tt}).exact in
    rw (c.variant_of-variant.ensures (view_defs c.args.extents.now), c.in_ok-parts.ensures {u = tt}) at exact
