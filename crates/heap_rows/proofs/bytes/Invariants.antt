use Rattle.dis_values.specs.Bytes.{IsPlain}
use Rattle.heap_rows.proofs.bytes.Given as goal

abbrev pub invariant-loop-i : goal.invariant-loop-i
invariant-loop-i l = IsPlain l.heap l.array.serial 1
