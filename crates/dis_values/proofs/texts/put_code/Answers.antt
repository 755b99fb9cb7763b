use Rattle.std.proofs.Common.{◌≡◌, ℕ, List, Ok, Err, ap, ◌∙◌, sym}
use Rattle.std.specs.Prelude.{slice_set}
use Rattle.dis_values.specs.Texts.{Grown}
use Rattle.dis_values.proofs.Replaced.{put_in_place, can_put, copied_as}
use Rattle.dis_values.proofs.texts.put_code.Goals as goal

pub unreachable-requires : goal.unreachable-requires
unreachable-requires c = (let f : Err c.in-Err.field-0 ≡ Ok tt = sym c.in-Err.is ∙ c.set_word.ensures.answer ∙ can_put c.args.heap.now c.args.r.serial c.args.i c.args.c c.requires.text c.requires.within in cc)

pub returns-then-is_alone-clause-ok : goal.returns-then-is_alone-clause-ok
returns-then-is_alone-clause-ok c =
    let t = c.requires.text in
    Grown (put_in_place c.args.heap.now c.set_word.new.self c.args.r.serial c.args.i c.args.c t (c.is_alone.ensures.yes c.if-is_alone.true t.block t.live) (c.in-Ok.ensures.ok t.block t.live))

pub returns-clause-ok : goal.returns-clause-ok
returns-clause-ok c =
    copied_as c.replace.result c.args.heap.now c.replace.new.heap c.args.r.serial _ _
    (c.in_ok-numbers.ensures ∙ ap (λ (ns : List ℕ). slice_set ns c.args.i c.args.c) c.codes.ensures) c.replace.ensures.ok
