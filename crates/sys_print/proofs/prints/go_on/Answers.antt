use Rattle.std.proofs.Common.{◌<◌, length, rules, tests}
use Rattle.sys_print.specs.Worlds.{view_world}
use Rattle.sys_print.proofs.Pieces.{goes_on}
use Rattle.sys_print.proofs.prints.go_on.Goals as goal

pub returns : goal.returns
returns c =
    let some : 0 < length c.args.left.now = search (rules, tests) in
    rw (goes_on (view_world c.args.world) c.args.total c.args.left.now some) c.ask_piece.ensures
