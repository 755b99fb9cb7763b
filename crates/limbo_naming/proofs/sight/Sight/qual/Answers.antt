use Rattle.limbo_naming.specs.Qualified.{Simple}
use Rattle.limbo_naming.proofs.sight.Sight.qual.Goals as goal

pub returns : goal.returns
returns c =
    c.with_part.ensures c.args.scope _ (c.with_member-second.ensures c.args.scope (Simple c.args.qual.now.first.text) c.simple-first.ensures)
