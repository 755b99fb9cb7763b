use Rattle.std.proofs.Common.{◌≡◌, ℕ, Some, None, List, length, take, get_or, sym, subst, ◌∙◌, arith, rules}
use Rattle.std.specs.Ordering.{nat_cmp}
use Rattle.std.specs.Cmp.Lexicographic.{slice_cmp}
use Rattle.std.specs.BTreeMap.{get_by}
use Rattle.limbo_declarations.specs.Names.{IsRepeated}
use Rattle.limbo_declarations.proofs.Indexes.{one_more, repeated, once_all}
use Rattle.limbo_declarations.proofs.names.index.Goals as goal

pub returns-in-Some-clause-twice : goal.returns-in-Some-clause-twice
returns-in-Some-clause-twice c =
    λ k e.
    let s : c.loop-number.number ≡ k = cc in
    subst (λ (z : ℕ). IsRepeated c.args.all.now z) s
    (repeated c.loop-number.index c.loop-number.number c.args.all.now c.index-all-number.result c.in-Some._before c.loop-number.invariant (omega arith) c.index-all-number.is (search rules))

pub loop-number-preserved : goal.loop-number-preserved
loop-number-preserved c =
    let a : get_by (slice_cmp nat_cmp c.index-all-number.result) c.loop-number.index ≡ None = search rules in
    one_more c.loop-number.index c.insert.new.self c.loop-number.number c.args.all.now c.index-all-number.result c.loop-number.invariant (omega arith) c.index-all-number.is a (search rules)

pub returns-clause-once : goal.returns-clause-once
returns-clause-once c = once_all c.loop-number.index c.args.all.now c.loop-number.number c.loop-number.invariant (omega arith)
