use Rattle.std.proofs.Common.{◌≡◌, sym, ap, ◌∙◌, arith, ◌+◌}
use Rattle.std.specs.List.{count_by}
use Rattle.std.proofs.lemmas.List.Sorted.{sum_by-IsPermutation}
use Rattle.ref_heap.specs.Drops.{tells, number_in}
use Rattle.ref_heap.specs.Slots.{kept}
use Rattle.ref_heap.proofs.Places.{kept_absent, kept_of}
use Rattle.ref_heap.proofs.freeing.empty.Goals as goal

pub unreachable-requires-in-None : goal.unreachable-requires-in-None
unreachable-requires-in-None c = c.requires.live (kept_absent c.args.slots.now c.args.r.serial c.in-None.ensures.absent)

pub returns-clause-listed : goal.returns-clause-listed
returns-clause-listed c p =
    let a : count_by p c.sort_unstable.new.self.items ≡ count_by p c.list_number.new.lost.items = sum_by-IsPermutation _ c.list_number.new.lost.items c.sort_unstable.new.self.items c.sort_unstable.ensures.permutation in
    let b : count_by p c.list_number.new.lost.items ≡ count_by p c.clear.new.self.items + tells p c.fd_number.result = c.list_number.ensures.listed p in
    let d : count_by p c.clear.new.self.items ≡ 0 = ap (count_by p) c.clear.ensures.items in
    let e : tells p c.fd_number.result ≡ tells p (number_in (kept c.args.slots.now c.args.r.serial)) =
    ap (tells p) (c.fd_number.ensures ∙ sym (ap number_in (kept_of c.args.slots.now c.in-Some.i c.args.r.serial c.in-Some-take.block c.requires.unique c.in-Some.ensures.found (sym c.take.ensures.takes.value ∙ c.in-Some-take.is)))) in
    omega arith
