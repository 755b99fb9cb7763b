use Rattle.std.proofs.Common.{◌≡◌, ◌+◌, Some, refl, ap, ◌∙◌, arith}
use Rattle.ref_heap.specs.declared.kind.Kind.TheVariants.{Record}
use Rattle.ref_heap.specs.Words.{wide}
use Rattle.ref_heap.specs.Store.{Block, Store, at, count, count_in, outside, one, fresh, with_new, blank_cells}
use Rattle.ref_heap.proofs.Put.{blank_names}
use Rattle.dis_values.proofs.Made.{new_there}
use Rattle.heap_rows.proofs.Beside.{one_itself}
use Rattle.heap_rows.proofs.frame.Frame.renew.Goals as goal

pub reuse-requires : goal.reuse-requires
reuse-requires c =
    let h = c.alloc.new.self in
    let old : Store = c.args.self.now.heap in
    let k = c.in_ok-old.old.serial in
    let b : Block = fresh Record (wide (blank_cells c.args.map.now)) in
    let made : h ≡ with_new old b = c.in_ok-old.ensures.ok in
    let is : at h k ≡ Some b = ap (λ (v : Store). at v k) made ∙ ap (at (with_new old b)) c.in_ok-old.ensures.serial ∙ new_there old b in
    let held : outside h k ≡ outside old k + one k k = c.in_ok-old.ensures.outside k in
    let once : one k k ≡ 1 = one_itself k in
    let all : count (at h) k ≡ 1 = ap count_in is in
    record { block = b; live = is; only = refl; unnamed = omega arith; bare = blank_names c.args.map.now }
