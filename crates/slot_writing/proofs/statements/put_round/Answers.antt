use Rattle.std.proofs.Common.{arith, ◌≡◌, ◌-◌, ◌<◌, ◌∷◌, ◌++◌, length, ap, ◌∙◌, length-append}
use Rattle.slot_code.specs.Code.{Jump}
use Rattle.slot_writing.proofs.Declared.{round_none, round_some}
use Rattle.slot_writing.proofs.Written.{length_written}
use Rattle.slot_writing.proofs.statements.put_round.Goals as goal

pub returns-then-passes-eq0 : goal.returns-then-passes-eq0
returns-then-passes-eq0 c = λ other back e l.
    let n : length other ≡ 0 =
    omega (arith, length_written c.args.code.now.items, ap length e, length-append other back, l, c.len.ensures, c.args.code.now.ok.0) in
    e ∙ ap (λ xs. xs ++ back) (round_none other n)

pub returns : goal.returns
returns c = λ other back e l.
    let by = c.len.result - c.args.mark in
    let n : by ≡ length other =
    omega (arith, length_written c.args.code.now.items, ap length e, length-append other back, l, c.len.ensures, c.args.code.now.ok.0) in
    let some : 0 < by = omega arith in
    let same = ap (λ xs. Jump by ∷ xs) e ∙ round_some other back by n some in
    rw (← same) c.put.ensures
