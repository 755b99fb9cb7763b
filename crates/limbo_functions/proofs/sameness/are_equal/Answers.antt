use Rattle.std.proofs.Common.{◌≡◌, ◌<◌, true, false, length, arith}
use Rattle.limbo_bodies.proofs.Types.{differ}
use Rattle.limbo_functions.proofs.sameness.are_equal.Goals as goal

pub returns-then-not-equal-clause-no : goal.returns-then-not-equal-clause-no
returns-then-not-equal-clause-no c = λ _ h.
    let l = c.loop-place-test.true in
    let s = c.if-types-others.false in
    let k : c.loop-place.place < length c.args.others.now = omega arith in
    differ c.args.types.now c.args.others.now c.loop-place.place c.index-types-place.result c.index-others-place.result l k
    c.index-types-place.is c.index-others-place.is
    (λ w. let t = c.equal.ensures.1 w in let f = c.if-not-equal.true in let z : true ≡ false = cc in absurd cc) h
