use Rattle.dis_text.proofs.Opcodes.{opcode_small}
use Rattle.dis_text.proofs.names.opcode.Goals as goal

pub returns-clause-small : goal.returns-clause-small
returns-clause-small c = opcode_small c.code_of.result c.args.op c.code_of.ensures
