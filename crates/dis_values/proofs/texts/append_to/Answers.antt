use Rattle.std.proofs.Common.{◌++◌, List, ℕ, ap, ◌∙◌}
use Rattle.dis_values.specs.Texts.{Grown}
use Rattle.dis_values.proofs.Replaced.{grown, copied_as}
use Rattle.dis_values.proofs.texts.append_to.Goals as goal

pub returns-then-is_alone-clause-ok : goal.returns-then-is_alone-clause-ok
returns-then-is_alone-clause-ok c =
    let t = c.requires.text in
    Grown (grown c.args.heap.now c.append.new.self c.args.r.serial c.args.more.now t (c.is_alone.ensures.yes c.if-is_alone.true t.block t.live) (c.in_ok-append.ensures.ok t.block t.live))

pub returns-clause-ok : goal.returns-clause-ok
returns-clause-ok c =
    copied_as c.replace.result c.args.heap.now c.replace.new.heap c.args.r.serial _ _
    (c.in_ok-extend_from_slice.ensures.items ∙ ap (λ (ns : List ℕ). ns ++ c.args.more.now) (c.in_ok-numbers.ensures.items ∙ c.codes.ensures)) c.replace.ensures.ok
