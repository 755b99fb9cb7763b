use Rattle.std.proofs.Common.{◌≤◌, arith}
use Rattle.inf_text.specs.InFront.{number_after}
use Rattle.limbo_fields.specs.Fields.{AllDigits}
use Rattle.limbo_fields.proofs.Numbers.{at_least_front}
use Rattle.limbo_fields.proofs.place.number_below.Goals as goal

pub returns-in_err-next-clause-none : goal.returns-in_err-next-clause-none
returns-in_err-next-clause-none c =
    let k : AllDigits c.args.digits.now → c.args.bound ≤ number_after 0 c.args.digits.now =
    λ all.
    let m = at_least_front c.loop-rest.number c.c-item.result c.loop-rest.rest.now c.in-len1-up.len_at_least c.c-item.is (c.loop-rest.invariant.forth all) in
    let e = c.loop-rest.invariant.value in
    let l = (c.in_err-next.ensures {u = tt}).none in
    let b = c.ranges.bound.fits in
    omega arith in
    rw c.from_residual.ensures k

pub returns-then-next-bound-clause-none : goal.returns-then-next-bound-clause-none
returns-then-next-bound-clause-none c = λ all.
    let m = at_least_front c.loop-rest.number c.c-item.result c.loop-rest.rest.now c.in-len1-up.len_at_least c.c-item.is (c.loop-rest.invariant.forth all) in
    let e = c.loop-rest.invariant.value in
    let l = (c.in_ok-next.ensures {u = tt}).some in
    let b = c.if-next-bound.true in
    omega arith
