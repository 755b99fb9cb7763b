use Rattle.std.proofs.Common.{refl, sym, ◌∙◌}
use Rattle.source_files.proofs.Names.{sys_is, sys_text, draw_is, draw_text}
use Rattle.source_files.proofs.built_in.built_in.Goals as goal

pub returns-then-is_spelled-clause-some : goal.returns-then-is_spelled-clause-some
returns-then-is_spelled-clause-some c =
    let e = sym c.as_slice.ensures ∙ c.if-is_spelled.ensures.0 refl in
    (sys_is c.args.name.now e, sys_text c.args.name.now e)

pub returns-then-is_spelled-2-clause-some : goal.returns-then-is_spelled-2-clause-some
returns-then-is_spelled-2-clause-some c =
    let e = sym c.as_slice-2.ensures ∙ c.if-is_spelled-2.ensures.0 refl in
    (draw_is c.args.name.now e, draw_text c.args.name.now e)
