use Rattle.std.proofs.Common.{◌∷◌, ◌++◌, [], sym, ap, ◌∙◌, arith}
use Rattle.std.proofs.lemmas.List.{append-nil}
use Rattle.dis_objects.proofs.Spelled.{pushed}
use Rattle.value_tables.proofs.store.put_length.Goals as goal

pub returns-clause-data : goal.returns-clause-data
returns-clause-data c m = record {
  items_are = (c.in_ok-push.ensures {u = tt}).items ∙ ap (λ x. c.args.store.now.items.items ++ x ∷ []) (c.in_ok-item.ensures {u = tt}).item;
  references_are = sym (append-nil _);
  place_is = omega arith;
  spelled = λ s. pushed c.args.store.now.items.items c.push.new.self.items c.in_ok-item.item ((c.in_ok-push.ensures {u = tt}).items) s
      (c.in_ok-item.ensures {u = tt}).spelled;
}
