-- The number of an operation.
use Rattle.std.specs.Prelude.{ℕ}
use denote.Enum.Declared.{tag_of}
use Rattle.dis_isa.specs.declared.op.Op.{Op}
use Rattle.dis_isa.specs.contracts.op.Op.{the_type}

-- Operations are declared in the order of the table of opcodes, so an operation's number is its place there.
abbrev pub opcode_of : Op → ℕ
opcode_of op = tag_of the_type op
