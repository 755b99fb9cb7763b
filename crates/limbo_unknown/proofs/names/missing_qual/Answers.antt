use Rattle.limbo_unknown.proofs.Gaps.{told_one}
use Rattle.limbo_unknown.proofs.names.missing_qual.Goals as goal

pub returns : goal.returns
returns c =
    told_one c.args.naming.now c.args.scope _ c.type_named.result c.unless_known.result c.requires.names c.type_named.ensures.named
    c.unless_known.ensures.some c.unless_known.ensures.none
