use Rattle.std.proofs.Common.{ℕ, ◌+◌, Some, refl, subst, ◌∙◌, arith, slice_index}
use Rattle.std.specs.Prelude.{slice_get}
use Rattle.ref_heap.specs.Words.{plain}
use Rattle.dis_values.specs.Copies.{Writes}
use Rattle.dis_values.proofs.Copied.{writes_none, writes_number, writes_has}
use Rattle.dis_values.proofs.copies.put_numbers.Goals as goal

pub loop-number-init : goal.loop-number-init
loop-number-init c = record {
  place = omega arith;
  writes = writes_none slice_get c.args.heap.now c.args.block.serial c.args.from c.requires.kept.0
      (λ q. Some (plain (slice_index c.args.numbers.now q))) c.requires.kept.1;
  held = λ n. refl;
}

pub put_number-requires : goal.put_number-requires
put_number-requires c = (
  c.requires.kept.0,
  writes_has slice_get c.args.heap.now c.loop-number.heap c.args.block.serial c.args.from c.loop-number.number-index c.requires.kept.0
      (λ q. Some (plain (slice_index c.args.numbers.now q))) c.requires.kept.1 c.loop-number.invariant.writes,
  (let k = c.requires.kept.2 in omega arith),
)

pub loop-number-preserved : goal.loop-number-preserved
loop-number-preserved c =
    let v = Some (plain (slice_index c.args.numbers.now c.loop-number.number-index)) in
    let set : Writes slice_get c.loop-number.heap c.put_number.new.heap c.args.block.serial (c.args.from + c.loop-number.number-index) 1
    (λ _. v)
    = subst (λ (i : ℕ). Writes slice_get c.loop-number.heap c.put_number.new.heap c.args.block.serial i 1 (λ _. v))
    c.loop-number.invariant.place c.put_number.ensures.writes in
    record {
      place = omega (arith, c.loop-number.invariant.place);
      writes = writes_number c.args.heap.now c.loop-number.heap c.put_number.new.heap c.args.block.serial c.args.from
          c.loop-number.number-index (λ q. Some (plain (slice_index c.args.numbers.now q)))
          c.loop-number.invariant.writes set;
      held = λ n. c.put_number.ensures.outside n ∙ c.loop-number.invariant.held n;
    }

pub returns-clause-writes : goal.returns-clause-writes
returns-clause-writes c =
    subst (λ (n : ℕ). Writes slice_get c.args.heap.now c.loop-number.heap c.args.block.serial c.args.from n
    (λ q. Some (plain (slice_index c.args.numbers.now q)))) (omega arith) c.loop-number.invariant.writes
