use denote.Enum.Bare.{same_false}
use Rattle.std.proofs.Common.{length, arith, sym, ◌∙◌}
use Rattle.styx_msg.specs.contracts.fault.StyxFault.{the_type}
use Rattle.styx_msg.specs.declared.fault.StyxFault.TheVariants.{NoMemory}
use Rattle.dis_machine.proofs.Replies.{reads_at, no_reply, same_used, ok_not_err}
use Rattle.dis_machine.proofs.reply.decode.Goals as goal

pub returns-then-used-frame : goal.returns-then-used-frame
returns-then-used-frame c = reads_at c.args.frame.now c.in-Ok-Whole.tag c.in-Ok-Whole.used c.in-Ok-Whole.message (rw c.in-Ok-Whole.field-0-is at c.in-Ok-Whole.ensures.answer) c.if-used-frame.true

pub returns-else-used-frame : goal.returns-else-used-frame
returns-else-used-frame c =
    no_reply c.args.frame.now (λ i. let f = c.type_inv.frame i in omega (arith, f)) c.decode_r.result c.decode_r.ensures.whole
    (λ tag m e. c.if-used-frame.false (same_used c.decode_r.result c.in-Ok-Whole.field-0 c.in-Ok-Whole.tag tag c.in-Ok-Whole.used (length c.args.frame.now) c.in-Ok-Whole.message m c.in-Ok-Whole.is c.in-Ok-Whole.field-0-is e))
    (λ e. ok_not_err c.decode_r.result c.in-Ok-Whole.field-0 NoMemory c.in-Ok-Whole.is e)

pub returns-in-Ok-Short : goal.returns-in-Ok-Short
returns-in-Ok-Short c =
    no_reply c.args.frame.now (λ i. let f = c.type_inv.frame i in omega (arith, f)) c.decode_r.result c.decode_r.ensures.whole
    (λ tag m e. let i = c.in-Ok-Short.is in let f = c.in-Ok-Short.field-0-is in absurd cc)
    (λ e. let i = c.in-Ok-Short.is in absurd cc)

pub returns-else-eq : goal.returns-else-eq
returns-else-eq c =
    no_reply c.args.frame.now (λ i. let f = c.type_inv.frame i in omega (arith, f)) c.decode_r.result c.decode_r.ensures.whole
    (λ tag m e. let i = c.in-Err.is in absurd cc)
    (λ e. let i = c.in-Err.is in same_false the_type c.in-Err.fault NoMemory (sym c.eq.ensures ∙ c.if-eq.false) cc)
