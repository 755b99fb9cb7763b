use Rattle.std.proofs.Common.{◌≡◌, ◌∷◌, ◌++◌, [], List, length, take, Option, sym, ap, ◌∙◌, subst, ◌+◌}
use Rattle.std.proofs.lemmas.List.{map_more, take_all, with_items_is}
use Rattle.limbo_includes.specs.declared.included.Standing as code_standing
use Rattle.limbo_top.specs.Tops.{Placed}
use Rattle.limbo_top.specs.View.{placed, view_standing}
use Rattle.limbo_entries.specs.View.{entries_of}
use Rattle.limbo_modules.specs.declared.finding.Found as code_found
use Rattle.limbo_modules.specs.Found.{AreFound}
use Rattle.limbo_modules.proofs.finding.find_all.Goals as goal

pub loop-standing-preserved : goal.loop-standing-preserved
loop-standing-preserved c =
    let es = entries_of c.args.table.now.entries.items in
    let m = c.args.implemented in
    let i = c.loop-standing.standing-index in
    let all = c.args.tops.now in
    let before = placed (take i all) in
    let s = c.standing-item.result in
    let new = c.note.new.found in
    let written = with_items_is c.loop-standing.found new (c.note.ensures.many ∙ c.deref_mut.ensures.len) in
    let more : before ++ view_standing s ∷ [] ≡ placed (take (i + 1) all) =
    ap (λ (z : code_standing.Standing). before ++ view_standing z ∷ []) c.standing-item.is
    ∙ sym (map_more view_standing all i s c.loop-standing-test.true) in
    let old : AreFound es m before c.deref_mut.result.now =
    subst (λ (z : List (Option code_found.Found)). AreFound es m before z) (sym c.deref_mut.ensures.value)
    c.loop-standing.invariant.found in
    record {
      many = ap length written ∙ c.note.ensures.many ∙ ap length c.deref_mut.ensures.value ∙ c.loop-standing.invariant.many;
      found = subst (λ (z : List (Option code_found.Found)). AreFound es m (placed (take (i + 1) all)) z) (sym written)
          (subst (λ (z : List Placed). AreFound es m z new) more (c.note.ensures.found before old));
    }

pub returns-clause-found : goal.returns-clause-found
returns-clause-found c =
    subst (λ (z : List code_standing.Standing). AreFound (entries_of c.args.table.now.entries.items) c.args.implemented (placed z)
    c.loop-standing.found.items)
    (take_all c.loop-standing.standing-index c.args.tops.now c.loop-standing-test.false) c.loop-standing.invariant.found
