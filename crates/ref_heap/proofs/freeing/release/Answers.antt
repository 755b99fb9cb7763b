use Rattle.std.proofs.Common.{ℕ, subst, sym}
use Rattle.std.specs.Vec.{vec_capacity}
use Rattle.ref_heap.specs.Chain.{Ready}
use Rattle.ref_heap.proofs.Chain.{ready_start, releases}
use Rattle.ref_heap.proofs.freeing.release.Goals as goal

pub free_chain-requires : goal.free_chain-requires
free_chain-requires c =
    let r = ready_start c.args.slots.now c.drop_names-head.new.slots c.args.words.now c.drop_names-head.result _ c.requires c.drop_names-head.ensures.unique c.drop_names-head.ensures.drops c.drop_names-head.ensures.numbers in
    subst (λ (n : ℕ). Ready c.drop_names-head.new.slots c.drop_names-head.result n (vec_capacity c.clear.new.self)) (sym c.clear.ensures.len)
    (subst (λ (n : ℕ). Ready c.drop_names-head.new.slots c.drop_names-head.result 0 n) (sym c.clear.ensures.capacity) r)

pub returns-clause-frees : goal.returns-clause-frees
returns-clause-frees c =
    releases c.args.slots.now c.drop_names-head.new.slots c.free_chain.new.slots c.args.words.now c.drop_names-head.result c.clear.new.self.items c.free_chain.new.lost.items c.sort_unstable.new.self.items
    c.clear.ensures.items c.drop_names-head.ensures.drops c.drop_names-head.ensures.numbers c.free_chain.ensures.frees c.sort_unstable.ensures.permutation
