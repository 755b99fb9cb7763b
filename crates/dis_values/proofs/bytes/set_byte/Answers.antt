use Rattle.std.proofs.Common.{◌≡◌, ◌+◌, ℕ, length, Some, refl, sym, ap, ◌∙◌, subst, arith}
use Rattle.ref_heap.specs.Store.{Block}
use Rattle.dis_values.specs.Arrays.{part_of}
use Rattle.dis_values.specs.Bytes.{SetsByte, bytes_of}
use Rattle.dis_values.proofs.Packed.{bytes_count, stored}
use Rattle.dis_values.proofs.Taken.{plain_kept}
use Rattle.dis_values.proofs.bytes.set_byte.Goals as goal

pub returns-then-i-whole-clause-within : goal.returns-then-i-whole-clause-within
returns-then-i-whole-clause-within c =
    let w = c.requires.whole in
    let n : length (bytes_of c.args.heap.now c.args.array.serial) ≡ (part_of c.args.heap.now c.args.array.serial).length =
    bytes_count c.args.heap.now c.args.array.serial w.block w.live in
    (λ e. cc, λ l. absurd (omega (arith, c.part-whole.ensures.length)))

pub returns-clause-within : goal.returns-clause-within
returns-clause-within c =
    let w = c.requires.whole in
    let n : length (bytes_of c.args.heap.now c.args.array.serial) ≡ (part_of c.args.heap.now c.args.array.serial).length =
    bytes_count c.args.heap.now c.args.array.serial w.block w.live in
    (λ e. omega (arith, c.part-whole.ensures.length), λ l. refl)

pub returns-clause-set : goal.returns-clause-set
returns-clause-set c = λ e.
    subst (λ (k : ℕ). SetsByte c.args.heap.now c.put_byte.new.heap k ((part_of c.args.heap.now c.args.array.serial).from + c.args.i)
    c.args.value) c.part-whole.ensures.array
    (subst (λ (f : ℕ). SetsByte c.args.heap.now c.put_byte.new.heap c.part-whole.result.array.serial (f + c.args.i) c.args.value)
    c.part-whole.ensures.from c.put_byte.ensures.set)

pub returns-clause-bytes : goal.returns-clause-bytes
returns-clause-bytes c = λ e. (stored c.args.heap.now c.put_byte.new.heap c.args.array.serial c.args.i c.args.value c.requires
    (returns-clause-set c e)).bytes

pub returns-clause-plain : goal.returns-clause-plain
returns-clause-plain c s size a =
    let d = returns-clause-set c refl in
    let p = part_of c.args.heap.now c.args.array.serial in
    let w = c.requires.whole in
    let one : w.block ≡ d.block = (let f : Some w.block ≡ Some d.block = sym w.live ∙ d.live in cc) in
    plain_kept c.args.heap.now c.put_byte.new.heap p.array d.block d.numbers s size d.live d.changed d.size 1 c.requires.length
    (sym (ap (λ (x : Block). x.kind) one) ∙ w.kind) a
