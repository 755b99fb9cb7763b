use Rattle.std.proofs.Common.{◌≡◌, ◌+◌, ◌∷◌, ◌++◌, [], ap, ◌∙◌, arith}
use Rattle.dis_objects.proofs.Spelled.{pushed}
use Rattle.value_tables.proofs.store.put_text.Goals as goal

pub returns-clause-data : goal.returns-clause-data
returns-clause-data c m =
    let here : c.args.store.now.place ≡ c.args.store.now.place + 0 = omega arith in
    record {
      items_are = (c.in_ok-push.ensures {u = tt}).items ∙ ap (λ x. c.args.store.now.items.items ++ x ∷ []) (c.in_ok-item.ensures {u = tt}).item;
      references_are = (c.in_ok-push-2.ensures {u = tt}).items ∙ ap (λ p. c.args.store.now.references.items ++ p ∷ []) here;
      place_is = omega arith;
      spelled = λ s. pushed c.args.store.now.items.items c.push.new.self.items c.in_ok-item.item ((c.in_ok-push.ensures {u = tt}).items) s
          (c.in_ok-item.ensures {u = tt}).spelled;
    }
