use Rattle.limbo_declare.proofs.meanings.not_constant.Goals as goal

pub returns-in-NotConstant : goal.returns-in-NotConstant
returns-in-NotConstant c = record { fails = (c.in-NotConstant.number, c.requires.bad c.in-NotConstant.number c.in-NotConstant.is) }
