use Rattle.std.proofs.Common.{◌++◌, Option, sym, subst}
use Rattle.std.specs.Prelude.{IfOk}
use Rattle.ref_heap.specs.declared.word.Ref.{Ref}
use Rattle.dis_values.specs.Making.{serial_of}
use Rattle.dis_values.specs.Texts.{Becomes, text_of}
use Rattle.dis_values.proofs.Replaced.{made_as}
use Rattle.dis_values.proofs.texts.append.Goals as goal

pub returns-in_ok-numbers-in-None-clause-ok : goal.returns-in_ok-numbers-in-None-clause-ok
returns-in_ok-numbers-in-None-clause-ok c =
    subst (λ (t : Option Ref). IfOk c.make_text.result (λ (m : Ref). Becomes c.args.heap.now c.make_text.new.heap (serial_of t) m.serial (text_of c.args.heap.now (serial_of t) ++ c.args.more.now))) (sym c.in-None.is)
    (made_as c.make_text.result c.args.heap.now c.make_text.new.heap _ c.args.more.now c.in_ok-numbers-in-None.ensures.items c.make_text.ensures.ok)
