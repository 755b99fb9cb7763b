use Rattle.std.proofs.Common.{◌≡◌, ◌≤◌, ℕ, ◌+◌, Bool, true, Option, Some, refl, sym, ◌∙◌, subst, arith}
use Rattle.std.specs.List.{count_by}
use Rattle.std.specs.Vec.{vec_len, vec_capacity}
use Rattle.slab.specs.Slab.{get}
use Rattle.ref_heap.specs.Kinds.{fd_number}
use Rattle.ref_heap.specs.Drops.{tells}
use Rattle.ref_heap.specs.Chain.{Ready, Loose}
use Rattle.ref_heap.proofs.Chain.{bound_at, loose_head, loose_step, loose_end, numbered_step, ready_room, ready_step}
use Rattle.ref_heap.proofs.freeing.free_chain.Goals as goal

pub list_number-requires : goal.list_number-requires
list_number-requires c =
    subst (λ (o : Option ℕ). tells (λ _. true) o + vec_len c.loop-head.lost ≤ vec_capacity c.loop-head.lost) (sym c.fd_number.ensures)
    (ready_room _ _ _ _ c.in-Some.block c.loop-head.invariant.ready (sym c.take.ensures.takes.value ∙ c.in-Some.is))

pub loop-head-preserved : goal.loop-head-preserved
loop-head-preserved c = absurd (loose_head _ _ _ _ c.loop-head.invariant.ready c.loop-head-test.true (sym c.take.ensures.takes.value ∙ c.in-None.is))

pub loop-head-smaller : goal.loop-head-smaller
loop-head-smaller c = absurd (loose_head _ _ _ _ c.loop-head.invariant.ready c.loop-head-test.true (sym c.take.ensures.takes.value ∙ c.in-None.is))

pub loop-head-preserved-in-Some : goal.loop-head-preserved-in-Some
loop-head-preserved-in-Some c =
    let s = c.in-Some.block in
    let is : get c.loop-head.slots c.loop-head.head ≡ Some s = sym c.take.ensures.takes.value ∙ c.in-Some.is in
    let gone = c.take.ensures.takes.gone s c.in-Some.is in
    let m2 = c.drop_names-head.new.slots in
    let refs = c.references.result.now in
    let listed : (p : ℕ → Bool) → count_by p c.list_number.new.lost.items ≡ count_by p c.loop-head.lost.items + tells p (fd_number s.kind) =
    subst (λ (o : Option ℕ). (p : ℕ → Bool) → count_by p c.list_number.new.lost.items ≡ count_by p c.loop-head.lost.items + tells p o) c.fd_number.ensures c.list_number.ensures.listed in
    let len : vec_len c.list_number.new.lost ≡ vec_len c.loop-head.lost + tells (λ _. true) (fd_number s.kind) =
    subst (λ (o : Option ℕ). vec_len c.list_number.new.lost ≡ vec_len c.loop-head.lost + tells (λ _. true) o) c.fd_number.ensures c.list_number.ensures.len in
    record {
      ready = ready_step c.loop-head.slots c.take.new.slots m2 c.loop-head.head _ _ _ _ s refs c.drop_names-head.ensures.unique c.loop-head-test.true is gone.1 c.in-Some.ensures.keeps c.references.ensures
          c.drop_names-head.ensures.drops c.drop_names-head.ensures.numbers len
          (subst (λ (n : ℕ). Ready c.loop-head.slots c.loop-head.head (vec_len c.loop-head.lost) n) (sym c.list_number.ensures.capacity) c.loop-head.invariant.ready);
      drops = λ limit outside before given.
          loose_step limit outside before c.loop-head.slots c.take.new.slots m2 c.loop-head.head _ s refs c.loop-head.invariant.ready.unique c.loop-head-test.true is gone.1 c.in-Some.ensures.keeps c.references.ensures
          c.drop_names-head.ensures.drops (c.loop-head.invariant.drops limit outside before given);
      lists = λ limit outside before given p.
          let l = c.loop-head.invariant.drops limit outside before given in
          let n = numbered_step limit c.loop-head.slots c.take.new.slots m2 s p (bound_at limit outside before c.loop-head.slots c.loop-head.head c.loop-head.head _ s c.loop-head.invariant.ready.unique l is) gone.0 gone.1 c.drop_names-head.ensures.numbers in
          omega (arith, c.loop-head.invariant.lists limit outside before given p, listed p);
      capacity = c.list_number.ensures.capacity ∙ c.loop-head.invariant.capacity;
    }

pub returns-clause-unique : goal.returns-clause-unique
returns-clause-unique c = c.loop-head.invariant.ready.unique

pub returns-clause-frees : goal.returns-clause-frees
returns-clause-frees c limit outside before given =
    (loose_end limit outside before _ (λ _. 0) (subst (λ (h : ℕ). Loose limit outside before c.loop-head.slots h (λ _. 0)) c.loop-head-test.false (c.loop-head.invariant.drops limit outside before given)) (λ n. refl), c.loop-head.invariant.lists limit outside before given)
