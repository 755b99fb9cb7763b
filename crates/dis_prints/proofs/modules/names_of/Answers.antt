use Rattle.std.proofs.Common.{ap, ◌∙◌}
use Rattle.dis_meaning.specs.Words as words
use Rattle.dis_memory.specs.Control.{function_of}
use Rattle.dis_places.specs.Blocks.{block_by}
use Rattle.dis_kinds.proofs.Heaps.{there, gone}
use Rattle.dis_prints.proofs.Chains.{no_function}
use Rattle.dis_prints.proofs.modules.names_of.Goals as goal

pub returns-in-Sys-clause-linked : goal.returns-in-Sys-clause-linked
returns-in-Sys-clause-linked c =
    let m = c.args.memory.now in
    let h = there m c.args.sys.serial c.in-Ok.kind c.stands.ensures (c.in-Ok.ensures {u = tt}) in
    h.is ∙ ap (λ k. words.Found (block_by m.tables k h.live.content)) c.in-Sys.is

pub returns-in_default-clause-wrong : goal.returns-in_default-clause-wrong
returns-in_default-clause-wrong c =
    let m = c.args.memory.now in
    let h = there m c.args.sys.serial c.in-Ok.kind c.stands.ensures (c.in-Ok.ensures {u = tt}) in
    λ k. ap (λ b. words.◌>>=◌ b (λ b. function_of b k)) h.is ∙ no_function m.tables c.in-Ok.kind h.live.content k c.in_default.not-Sys

pub returns-in-Err-clause-wrong : goal.returns-in-Err-clause-wrong
returns-in-Err-clause-wrong c =
    λ k. ap (λ b. words.◌>>=◌ b (λ b. function_of b k))
    (gone c.args.memory.now c.args.sys.serial c.in-Err.field-0 c.stands.ensures (c.in-Err.ensures {u = tt}))
