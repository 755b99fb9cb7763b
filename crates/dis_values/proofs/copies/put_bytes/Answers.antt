use Rattle.std.proofs.Common.{ℕ, ◌+◌, refl, subst, ◌∙◌, arith, slice_index}
use Rattle.dis_values.specs.Bytes.{SetsByte, byte_of}
use Rattle.dis_values.specs.Copies.{Writes}
use Rattle.dis_values.proofs.Copied.{writes_none, writes_byte, writes_has}
use Rattle.dis_values.proofs.copies.put_bytes.Goals as goal

pub loop-byte-init : goal.loop-byte-init
loop-byte-init c = record {
  place = omega arith;
  writes = writes_none byte_of c.args.heap.now c.args.block.serial c.args.from c.requires.kept.0
      (λ q. slice_index c.args.bytes.now q) c.requires.kept.1;
  held = λ n. refl;
}

pub put_byte-requires : goal.put_byte-requires
put_byte-requires c = (
  c.requires.kept.0,
  writes_has byte_of c.args.heap.now c.loop-byte.heap c.args.block.serial c.args.from c.loop-byte.byte-index c.requires.kept.0
      (λ q. slice_index c.args.bytes.now q)
      c.requires.kept.1 c.loop-byte.invariant.writes,
  (let k = c.requires.kept.2 in omega arith),
)

pub loop-byte-preserved : goal.loop-byte-preserved
loop-byte-preserved c =
    let set : SetsByte c.loop-byte.heap c.put_byte.new.heap c.args.block.serial (c.args.from + c.loop-byte.byte-index)
    (slice_index c.args.bytes.now c.loop-byte.byte-index)
    = subst (λ (i : ℕ). SetsByte c.loop-byte.heap c.put_byte.new.heap c.args.block.serial i
    (slice_index c.args.bytes.now c.loop-byte.byte-index)) c.loop-byte.invariant.place c.put_byte.ensures.set in
    record {
      place = omega (arith, c.loop-byte.invariant.place);
      writes = writes_byte c.args.heap.now c.loop-byte.heap c.put_byte.new.heap c.args.block.serial c.args.from c.loop-byte.byte-index
          (λ q. slice_index c.args.bytes.now q)
          c.loop-byte.invariant.writes set;
      held = λ n. c.put_byte.ensures.outside n ∙ c.loop-byte.invariant.held n;
    }

pub returns-clause-writes : goal.returns-clause-writes
returns-clause-writes c =
    subst (λ (n : ℕ). Writes byte_of c.args.heap.now c.loop-byte.heap c.args.block.serial c.args.from n
    (λ q. slice_index c.args.bytes.now q)) (omega arith) c.loop-byte.invariant.writes
