use Rattle.std.proofs.Common.{◌≡◌, ◌+◌, ◌-◌, ap, sym, ◌∙◌, suc, Some, None, arith}
use Rattle.std.specs.Option.{option_map}
use Rattle.ref_heap.specs.declared.word.Ref.{Ref}
use Rattle.dis_meaning.specs.Words as words
use Rattle.dis_memory.specs.Kinds as meaning
use Rattle.dis_memory.specs.Kinds.{cells_from}
use Rattle.dis_places.specs.Words.{number_of}
use Rattle.dis_places.specs.View.{view_world}
use Rattle.dis_kinds.specs.Views.{view_linked}
use Rattle.dis_kinds.proofs.Chained.{more, more_none, more_more, handed_on, places, one_cell, no_cell, no_list}
use Rattle.dis_kinds.proofs.lists.list_length.Goals as goal

pub loop-count-init : goal.loop-count-init
loop-count-init c = λ k e.
    let x = view_world c.args.memory.now in
    let r = option_map (λ (r : Ref). r.serial) c.args.list in
    let p = places c.args.memory.now in
    let m = c.made-most.ensures in
    ap (λ n. cells_from x n r) (omega (arith, p, m, e)) ∙ more_none (cells_from x k r)

pub returns-in_err-cell : goal.returns-in_err-cell
returns-in_err-cell c =
    let x = view_world c.args.memory.now in
    let n = c.loop-count.count in
    let k = c.made-most.result - n - 1 in
    let r = option_map (λ (r : Ref). r.serial) c.loop-count.left in
    let f = c.in_err-cell.field-0.0 in
    let t = c.loop-count-test.true in
    handed_on (λ n. n) c.from_residual.result f _ c.from_residual.ensures.1
    (c.loop-count.invariant (suc k) (omega (arith, t)) ∙ ap (more n) (no_list x k r (number_of f) (c.in_err-cell.ensures {u = tt}).cell))

pub returns-in-None : goal.returns-in-None
returns-in-None c =
    let x = view_world c.args.memory.now in
    let n = c.loop-count.count in
    let r = option_map (λ (r : Ref). r.serial) c.loop-count.left in
    let t = c.loop-count-test.true in
    let none : meaning.first_cell x r ≡ words.Found None =
    (c.in_ok-cell.ensures {u = tt}).cell ∙ ap (λ o. words.Found (option_map (view_linked c.args.memory.now) o)) c.in-None.is in
    c.loop-count.invariant (c.made-most.result - n) (omega (arith, t)) ∙ ap (more n) (no_cell x (c.made-most.result - n) r none) ∙ ap words.Found (omega arith)

pub loop-count-preserved : goal.loop-count-preserved
loop-count-preserved c = λ k e.
    let x = view_world c.args.memory.now in
    let n = c.loop-count.count in
    let l = view_linked c.args.memory.now c.in-Some.cell in
    let r = option_map (λ (r : Ref). r.serial) c.loop-count.left in
    let some : meaning.first_cell x r ≡ words.Found (Some l) =
    (c.in_ok-cell.ensures {u = tt}).cell ∙ ap (λ o. words.Found (option_map (view_linked c.args.memory.now) o)) c.in-Some.is in
    c.loop-count.invariant (suc k) (omega (arith, e))
    ∙ ap (more n) (one_cell x k r l some)
    ∙ more_more n (cells_from x k l.rest)
    ∙ ap (λ r. more (n + 1) (cells_from x k r)) (sym c.rest_of-left.ensures)

pub returns-in-Some-left : goal.returns-in-Some-left
returns-in-Some-left c =
    let x = view_world c.args.memory.now in
    let e = c.loop-count.auto.count-end in
    let f = c.loop-count-test.false in
    c.loop-count.invariant 0 (omega (arith, e, f)) ∙ ap (λ r. more c.loop-count.count (cells_from x 0 (option_map (λ (r : Ref). r.serial) r))) c.in-Some-left.is

pub returns-in-None-left : goal.returns-in-None-left
returns-in-None-left c =
    let x = view_world c.args.memory.now in
    let e = c.loop-count.auto.count-end in
    let f = c.loop-count-test.false in
    c.loop-count.invariant 0 (omega (arith, e, f))
    ∙ ap (λ r. more c.loop-count.count (cells_from x 0 (option_map (λ (r : Ref). r.serial) r))) c.in-None-left.is
    ∙ ap words.Found (omega (arith, e, f))
