use Rattle.limbo_stmt_values.proofs.Told.{is_int_of}
use Rattle.limbo_stmt_values.proofs.endings.has_int.Goals as goal

pub returns : goal.returns
returns c = is_int_of c.args.x.now c.is_int.result c.is_int.ensures
