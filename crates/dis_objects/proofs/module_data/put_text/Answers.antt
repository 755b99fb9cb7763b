use Rattle.std.proofs.Common.{◌∷◌, ◌++◌, [], ap, ◌∙◌, arith}
use Rattle.dis_objects.proofs.Spelled.{pushed}
use Rattle.dis_objects.proofs.module_data.put_text.Goals as goal

pub returns : goal.returns
returns c = record {
  items_are = (c.in_ok-push.ensures {u = tt}).items ∙ ap (λ x. c.args.store.now.items.items ++ x ∷ []) (c.in_ok-item.ensures {u = tt}).item;
  words_are = (c.in_ok-push-2.ensures {u = tt}).items;
  place_is = omega arith;
  spelled = λ s. pushed c.args.store.now.items.items c.push.new.self.items c.in_ok-item.item ((c.in_ok-push.ensures {u = tt}).items) s
      (c.in_ok-item.ensures {u = tt}).spelled;
}
