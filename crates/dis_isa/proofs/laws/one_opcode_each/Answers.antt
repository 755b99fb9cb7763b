use Rattle.std.proofs.Common.{sym, ◌∙◌}
use denote.Enum.Declared.{tag_of}
use Rattle.dis_isa.specs.contracts.op.Op.{the_type}
use Rattle.dis_isa.proofs.laws.one_opcode_each.Goals as goal
use Rattle.dis_isa.proofs.Table.{stands_at_tag, tag_is_place, none_past_table}

pub returns-clause-every_operation : goal.returns-clause-every_operation
returns-clause-every_operation c = λ op. (tag_of the_type op, stands_at_tag op)

pub returns-clause-one_number : goal.returns-clause-one_number
returns-clause-one_number c = λ m n op p q. sym (tag_is_place m op p) ∙ tag_is_place n op q

pub returns-clause-none_above : goal.returns-clause-none_above
returns-clause-none_above c = none_past_table
