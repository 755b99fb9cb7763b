use Rattle.std.proofs.Common.{◌≡◌, ap, ◌∙◌}
use Rattle.std.specs.Prelude.{slice_get}
use Rattle.dis_isa.specs.Opcodes.{opcode_at, opcodes}
use Rattle.dis_isa.proofs.Table.{copied_item, none_past_table}
use Rattle.dis_isa.proofs.op.op_of.Goals as goal

named : (c : goal.After-copied) → c.copied.result ≡ opcode_at c.args.code
unfolding opcode_at opcodes
named c =
    c.copied.ensures ∙ copied_item opcodes c.from.result c.get.result c.get.ensures.lookup
    ∙ ap (slice_get opcodes) c.from.ensures

pub returns-clause-named : goal.returns-clause-named
returns-clause-named c = named c

pub returns-clause-refused : goal.returns-clause-refused
returns-clause-refused c = rw (named c) (none_past_table c.args.code)
