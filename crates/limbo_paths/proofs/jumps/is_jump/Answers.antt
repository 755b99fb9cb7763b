use Rattle.std.proofs.Common.{not, ap, ◌∙◌}
use Rattle.limbo_paths.proofs.Forms.{no_jump, break_there, break_elsewhere, continue_there, continue_elsewhere}
use Rattle.limbo_paths.proofs.jumps.is_jump.Goals as goal

pub returns-in_default : goal.returns-in_default
returns-in_default c n h = no_jump c.args.jump n c.args.s.now c.in_default.not-Break c.in_default.not-Continue

pub returns-then-is_break : goal.returns-then-is_break
returns-then-is_break c n h =
    break_there c.args.jump n c.in-Break.number c.args.s.now c.is_break.result c.is_at.result c.in-Break.is c.is_break.ensures c.if-is_break.true
    (c.is_at.ensures n h)

pub returns-else-is_break : goal.returns-else-is_break
returns-else-is_break c n h =
    c.if-is_break.false
    ∙ break_elsewhere c.args.jump n c.in-Break.number c.args.s.now c.is_break.result c.in-Break.is c.is_break.ensures c.if-is_break.false

pub returns-then-not-is_break : goal.returns-then-not-is_break
returns-then-not-is_break c n h =
    continue_there c.args.jump n c.in-Continue.number c.args.s.now c.is_break-in-Continue.result c.is_at-then-not-is_break.result c.in-Continue.is
    c.is_break-in-Continue.ensures c.if-not-is_break.true (c.is_at-then-not-is_break.ensures n h)

pub returns-else-not-is_break : goal.returns-else-not-is_break
returns-else-not-is_break c n h =
    ap not c.if-not-is_break.false
    ∙ continue_elsewhere c.args.jump n c.in-Continue.number c.args.s.now c.is_break-in-Continue.result c.in-Continue.is c.is_break-in-Continue.ensures
    c.if-not-is_break.false
