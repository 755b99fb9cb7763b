use Rattle.inferno_top.proofs.Dumped.{told_as}
use Rattle.inferno_top.proofs.top.dump.Goals as goal

pub returns-clause-dumped : goal.returns-clause-dumped
returns-clause-dumped g c =
    told_as _ _ _ _ _ _ _ _ c.dump_file-end.result c.nothing.ensures.0 c.nothing.ensures.1 c.dump_file-end.ensures.dumped
    c.dump_cause.ensures
