use Rattle.std.proofs.Common.{ap, sym, ◌∙◌}
use Rattle.ref_heap.specs.Store.{live_numbers}
use Rattle.dis_meaning.specs.Words as words
use Rattle.dis_memory.specs.Kinds.{text_in}
use Rattle.dis_places.specs.Blocks.{is_proper}
use Rattle.dis_kinds.proofs.Heaps.{there, gone, numbers_seen, no_numbers}
use Rattle.dis_kinds.proofs.texts.text_in.Goals as goal

pub returns-in-Some : goal.returns-in-Some
returns-in-Some c =
    let h = there c.args.memory.now c.args.block.serial c.in-Ok.kind c.stands.ensures (c.in-Ok.ensures {u = tt}) in
    ap (λ b. words.◌>>=◌ b text_in) h.is
    ∙ (c.in-Ok-text_kind.ensures {u = tt}).text c.args.memory.now.tables h.live.content
    ∙ ap words.Found (numbers_seen h.live.content c.in-Some.text.now (c.in-Some.ensures {u = tt} ∙ ap live_numbers h.here))

pub returns-in-None : goal.returns-in-None
returns-in-None c =
    let h = there c.args.memory.now c.args.block.serial c.in-Ok.kind c.stands.ensures (c.in-Ok.ensures {u = tt}) in
    absurd
    (no_numbers h.live.content (ap (λ k. is_proper k h.live.content) (sym (c.in-Ok-text_kind.ensures {u = tt}).kind) ∙ h.proper)
    (c.in-None.ensures {u = tt} ∙ ap live_numbers h.here))

pub returns-in-Err-text_kind : goal.returns-in-Err-text_kind
returns-in-Err-text_kind c =
    let h = there c.args.memory.now c.args.block.serial c.in-Ok.kind c.stands.ensures (c.in-Ok.ensures {u = tt}) in
    ap (λ b. words.◌>>=◌ b text_in) h.is ∙ (c.in-Err-text_kind.ensures {u = tt}).text c.args.memory.now.tables h.live.content

pub returns-in-Err : goal.returns-in-Err
returns-in-Err c =
    ap (λ b. words.◌>>=◌ b text_in) (gone c.args.memory.now c.args.block.serial c.in-Err.field-0 c.stands.ensures (c.in-Err.ensures {u = tt}))
