use Rattle.std.proofs.Common.{rules, false, append_assoc, ◌∷◌, ◌++◌, [], ap, ◌∙◌, arith}
use Rattle.std.proofs.lemmas.Int.{to_z-of_z}
use mir.Syntax.{w64}
use mir.Val.{SFits}
use Rattle.dis_objects.specs.Objects.{long_item}
use Rattle.dis_objects.proofs.Spelled.{pushed}
use Rattle.dis_objects.proofs.module_data.put_long.Goals as goal

pub returns : goal.returns
returns c =
    let fits : SFits w64 c.args.number = search rules in
    record {
      items_are = (c.in_ok-push.ensures {u = tt}).items ∙ ap (λ x. c.args.store.now.items.items ++ x ∷ [])
          ((c.in_ok-item.ensures {u = tt}).item ∙ ap (λ z. long_item c.args.store.now.place z) (to_z-of_z w64 c.args.number fits));
      words_are = (c.in_ok-push-3.ensures {u = tt}).items ∙ ap (λ ws. ws ++ false ∷ []) (c.in_ok-push-2.ensures {u = tt}).items
          ∙ append_assoc c.args.store.now.words.items (false ∷ []) (false ∷ []);
      place_is = omega arith;
      spelled = λ s. pushed c.args.store.now.items.items c.push.new.self.items c.in_ok-item.item ((c.in_ok-push.ensures {u = tt}).items) s
          (c.in_ok-item.ensures {u = tt}).spelled;
    }
