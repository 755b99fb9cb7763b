use Rattle.std.proofs.Common.{arith}
use Rattle.dis_values.proofs.Replaced.{apart}
use Rattle.dis_values.proofs.texts.replace.Goals as goal

pub drop_ref-requires : goal.drop_ref-requires
drop_ref-requires c b is n = omega (arith, c.requires.held n, c.in_ok-made.ensures.ok.held n)

pub returns-clause-ok : goal.returns-clause-ok
returns-clause-ok c =
    apart c.args.heap.now c.make_text.new.heap c.drop_ref.new.self c.args.r.serial c.in_ok-made.made.serial c.args.numbers.items c.stands.ensures c.requires.text
    (c.requires.shared c.requires.text.block c.requires.text.live) c.in_ok-made.ensures.ok c.drop_ref.ensures.lowered c.drop_ref.ensures.made
