-- Opcodes are below the length of the table of names.
use Rattle.std.proofs.Common.{◌≡◌, ℕ, ◌<◌, Some, inl, inr}
use Rattle.std.proofs.lemmas.Bool.{cases_lt}
use Rattle.dis_isa.specs.declared.op.Op.{Op}
use Rattle.dis_isa.specs.Opcodes.{opcode_at}
use Rattle.dis_isa.proofs.Table.{none_past_table}

pub opcode_small : (n : ℕ) (op : Op) → opcode_at n ≡ Some op → n < 160
opcode_small n op e =
    elim (cases_lt n 160) [ inl lt ↦ lt | inr ge ↦ (let none = (none_past_table n).1 ge in absurd cc) ]
