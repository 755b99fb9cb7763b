use Rattle.std.proofs.Common.{arith, ◌≡◌, ◌+◌, ◌∷◌, [], ◌++◌, ap, ◌∙◌}
use Rattle.core_code.specs.Terms.{numbers_from}
use Rattle.core_writing.proofs.Numbered.{numbers_on}
use Rattle.core_writing.proofs.moves.add_numbers.Goals as goal

pub loop-i-preserved : goal.loop-i-preserved
loop-i-preserved c =
    let items = (c.in_ok-push.ensures {u = tt}).items in
    let first = c.in-Some.ensures {u = tt} in
    let second = c.in-Ok.ensures {u = tt} in
    let number : c.in-Ok.number ≡ c.args.from + c.loop-i.i = omega (arith, first, second) in
    λ defs. numbers_on defs c.args.from c.loop-i.i c.args.numbers.now.items c.loop-i.numbers.items _ (c.loop-i.invariant defs)
    (items ∙ ap (λ n. c.loop-i.numbers.items ++ n ∷ []) number)

pub returns : goal.returns
returns c =
    let all : c.loop-i.i ≡ c.args.count = omega arith in
    λ defs. c.loop-i.invariant defs ∙ ap (λ n. c.args.numbers.now.items ++ numbers_from defs c.args.from n) all
