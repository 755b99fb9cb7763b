use Rattle.std.proofs.Common.{Option, arith, ap, subst}
use Rattle.ref_heap.specs.declared.word.Ref.{Ref}
use Rattle.dis_values.specs.Making.{serial_of}
use Rattle.dis_values.proofs.Counted.{Left, nil_empty, passes, short}
use Rattle.dis_values.proofs.lists.list_len.Goals as goal

pub returns-in-None : goal.returns-in-None
returns-in-None c xs l =
    let left = c.loop-i.invariant xs l in
    omega (arith, left.passed, nil_empty c.args.heap.now _ left.ys (ap serial_of c.in-None.is) left.list)

pub loop-i-preserved : goal.loop-i-preserved
loop-i-preserved c xs l =
    passes c.args.heap.now c.in-Some.cell.serial c.loop-i.i (serial_of c.tail-rest.result) xs
    (subst (λ (o : Option Ref). Left c.args.heap.now (serial_of o) c.loop-i.i xs) c.in-Some.is (c.loop-i.invariant xs l))
    c.tail-rest.ensures

pub returns : goal.returns
returns c xs l =
    let left = c.loop-i.invariant xs l in
    let all = short c.args.heap.now (serial_of c.args.list) xs c.stands.ensures l in
    omega (arith, left.passed, c.made-made.ensures)
