use Rattle.std.proofs.Common.{ap}
use Rattle.dis_meaning.specs.Words as words
use Rattle.dis_kinds.proofs.Heaps.{there, gone}
use Rattle.dis_calls.specs.Made.{no_frame}
use Rattle.dis_calls.proofs.calls.no_frame.Goals as goal

pub returns-in-Ok : goal.returns-in-Ok
returns-in-Ok c =
    let h = there c.args.memory.now c.args.block.serial c.in-Ok.field-0 c.stands.ensures (c.in-Ok.ensures {u = tt}) in
    ap (λ b. words.◌>>=◌ b (λ b. no_frame)) h.is

pub returns-in-Err : goal.returns-in-Err
returns-in-Err c =
    ap (λ b. words.◌>>=◌ b (λ b. no_frame)) (gone c.args.memory.now c.args.block.serial c.in-Err.field-0 c.stands.ensures (c.in-Err.ensures {u = tt}))
