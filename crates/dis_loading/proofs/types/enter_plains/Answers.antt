use Rattle.std.proofs.Common.{below_more, ap, ◌∙◌, arith}
use Rattle.std.proofs.lemmas.Option.{get_or_from_slice_get, slice_get_within}
use Rattle.dis_loading.specs.Growing.{plain_asked}
use Rattle.dis_loading.proofs.Plains.{extended}
use Rattle.dis_loading.proofs.types.enter_plains.Goals as goal

pub loop-inst-preserved : goal.loop-inst-preserved
loop-inst-preserved c =
    let e = c.in_ok-enter_asked.ensures.extends in (
      (λ n desc there. e n desc (c.loop-inst.invariant.0 n desc there)),
      below_more _ _
          (λ k lt i size there asks. extended c.loop-inst.types.items c.enter_asked.new.types.items size e (c.loop-inst.invariant.1 k lt i size there asks))
          (λ i size there asks.
          c.in_ok-enter_asked.ensures.there size (ap plain_asked (get_or_from_slice_get c.args.insts.now c.loop-inst.inst-index i _ there) ∙ asks)),
    )

pub returns-clause-there : goal.returns-clause-there
returns-clause-there c = λ k i size there asks.
    let lt = slice_get_within c.args.insts.now k i there in
    c.loop-inst.invariant.1 k (omega arith) i size there asks
