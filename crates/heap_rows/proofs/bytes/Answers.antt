use Rattle.dis_values.specs.Bytes.{as_array}
use Rattle.heap_rows.proofs.bytes.Goals as goal

pub byte_at-last-requires : goal.byte_at-last-requires
byte_at-last-requires c =
    let s = c.in_ok-array.array.serial in
    as_array c.set_byte-past.new.heap s 1 (c.set_byte-past.ensures.plain s 1 (c.set_byte-set.ensures.plain s 1 c.loop-i.invariant))

pub byte_at-none-requires : goal.byte_at-none-requires
byte_at-none-requires c =
    let s = c.in_ok-array.array.serial in
    as_array c.set_byte-past.new.heap s 1 (c.set_byte-past.ensures.plain s 1 (c.set_byte-set.ensures.plain s 1 c.loop-i.invariant))
