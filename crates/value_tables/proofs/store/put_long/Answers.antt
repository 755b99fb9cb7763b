use Rattle.std.proofs.Common.{rules, ◌∷◌, ◌++◌, [], sym, ap, ◌∙◌, arith}
use Rattle.std.proofs.lemmas.List.{append-nil}
use Rattle.std.proofs.lemmas.Int.{to_z-of_z}
use mir.Syntax.{w64}
use mir.Val.{SFits}
use Rattle.dis_objects.specs.Objects.{long_item}
use Rattle.dis_objects.proofs.Spelled.{pushed}
use Rattle.value_tables.proofs.store.put_long.Goals as goal

pub returns-clause-data : goal.returns-clause-data
returns-clause-data c m =
    let fits : SFits w64 c.args.number = search rules in
    record {
      items_are = (c.in_ok-push.ensures {u = tt}).items ∙ ap (λ x. c.args.store.now.items.items ++ x ∷ [])
          ((c.in_ok-item.ensures {u = tt}).item ∙ ap (λ z. long_item c.args.store.now.place z) (to_z-of_z w64 c.args.number fits));
      references_are = sym (append-nil _);
      place_is = omega arith;
      spelled = λ s. pushed c.args.store.now.items.items c.push.new.self.items c.in_ok-item.item ((c.in_ok-push.ensures {u = tt}).items) s
          (c.in_ok-item.ensures {u = tt}).spelled;
    }
