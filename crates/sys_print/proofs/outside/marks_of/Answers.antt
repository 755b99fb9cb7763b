use Rattle.std.proofs.Common.{◌+◌, drop, get_or, sym, subst, arith}
use Rattle.sys_print.proofs.Tags.{Marking, marks_one, all_marked, next_tag, no_more}
use Rattle.sys_print.proofs.outside.marks_of.Goals as goal

pub loop-tag-preserved : goal.loop-tag-preserved
loop-tag-preserved c =
    let ws = c.args.waiting.now in
    let i = c.loop-tag.tag-index in
    let here = subst (λ rest. Marking ws rest c.loop-tag.marks.items) (next_tag ws i c.loop-tag-test.true) c.loop-tag.invariant in
    subst (Marking ws (drop (i + 1) ws)) (sym c.mark.ensures) (marks_one ws (drop (i + 1) ws) c.loop-tag.marks.items (get_or ws i 0) here)

pub returns : goal.returns
returns c =
    let ws = c.args.waiting.now in
    let i = c.loop-tag.tag-index in
    let test = c.loop-tag-test.false in
    all_marked ws c.loop-tag.marks.items (subst (λ rest. Marking ws rest c.loop-tag.marks.items) (no_more ws i (omega (arith, test))) c.loop-tag.invariant)
