use Rattle.std.proofs.Common.{arith}
use Rattle.dis_generation.proofs.Ready.{code_short}
use Rattle.dis_generation.proofs.emit.emit_jump.Goals as goal

pub overflow_add-pc-2 : goal.overflow_add-pc-2
overflow_add-pc-2 c =
    let w = (c.requires.stands.proper.each _ _ c.requires.there).within in
    let s = code_short _ _ _ _ _ _ _ c.requires.stands in
    omega (arith, w, s)

pub place-requires-clause-within : goal.place-requires-clause-within
place-requires-clause-within c =
    let w = (c.requires.stands.proper.each _ _ c.requires.there).within in
    omega (arith, w)
