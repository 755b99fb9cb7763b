use Rattle.dis_generation.proofs.Steps.{to_making}
use Rattle.dis_generation.proofs.emit.emit_move.Goals as goal

pub place_of-requires-clause-making : goal.place_of-requires-clause-making
place_of-requires-clause-making c = to_making c.args.site.now c.args.making.now c.args.pc c.requires.making
