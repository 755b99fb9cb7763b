use Rattle.std.proofs.Common.{refl}
use Rattle.limbo_type_names.proofs.Filling.{all_known}
use Rattle.limbo_type_names.proofs.names.TypeNames.new.Goals as goal

pub fill-requires-clause-behind : goal.fill-requires-clause-behind
fill-requires-clause-behind c = rw c.deref-2.ensures.value c.in-Ok.ensures.behind

pub returns-in-Ok-fill-clause-types : goal.returns-in-Ok-fill-clause-types
returns-in-Ok-fill-clause-types c = record {
  by_naming = refl;
  knows = record {
    names = c.requires.names;
    numbers = rw c.table.ensures at c.in_ok-numbers.ensures;
    types = all_known c.args.naming.now c.fill.new.types.items c.in-Ok.order.items c.in-Ok-fill.ensures.many c.in-Ok.ensures.each
        (rw c.deref-2.ensures.value at c.in-Ok-fill.ensures.done);
  };
}
