use Rattle.dis_generation.proofs.Steps.{to_making}
use Rattle.dis_generation.proofs.emit.emit_operate.Goals as goal

pub place_of-dst-requires-clause-making : goal.place_of-dst-requires-clause-making
place_of-dst-requires-clause-making c = to_making c.args.site.now c.args.making.now c.args.pc c.requires.making
