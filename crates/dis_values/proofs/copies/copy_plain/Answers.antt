use Rattle.std.proofs.Common.{[], Option, sym, subst}
use Rattle.ref_heap.specs.declared.word.Ref.{Ref}
use Rattle.dis_values.specs.Making.{serial_of}
use Rattle.dis_values.specs.Copies.{IsPlainOrNil, TakesOrNone, elements_or_none}
use Rattle.dis_values.proofs.Taken.{took_none}
use Rattle.dis_values.proofs.copies.copy_plain.Goals as goal

pub returns-in-None-source-clause-takes : goal.returns-in-None-source-clause-takes
returns-in-None-source-clause-takes c =
    let h = c.args.heap.now in
    let size = c.requires.0 in
    subst (λ (s : Option Ref). TakesOrNone h h (serial_of c.args.target) c.args.from (elements_or_none h (serial_of s)))
    (sym c.in-None-source.is)
    (subst (λ (t : Option Ref). IsPlainOrNil h size (serial_of t) → TakesOrNone h h (serial_of t) c.args.from []) (sym c.in-Some.is)
    (λ a. took_none h c.in-Some.into.serial c.args.from size a) c.requires.1)
