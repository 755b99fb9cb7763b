use Rattle.std.proofs.Common.{arith, rules, length-append, ◌≡◌, ◌∷◌, [], ◌++◌, length, reverse, sym, ap, ◌∙◌}
use Rattle.std.proofs.lemmas.List.{append-nil, nil_from_length, reverse-append}
use Rattle.limbo_types.specs.View.{view_ty}
use Rattle.core_code.specs.Code.{Cell}
use Rattle.core_code.specs.Terms.{cells}
use Rattle.core_parts.specs.Lowered.{code_of}
use Rattle.core_parts.proofs.Celled.{cells_on}
use Rattle.core_parts.proofs.several.put_cells.Goals as goal

pub loop-last-preserved : goal.loop-last-preserved
loop-last-preserved c =
    let t = view_ty c.args.item.now in
    let all = c.loop-last.rest.now in
    let front = c.in-Some.front.now in
    let last = c.in-Some.last.now in
    let split : all ≡ front ++ last ∷ [] = search rules in
    let back = ap reverse split ∙ reverse-append front (last ∷ []) in
    let long = ap length split ∙ length-append front (last ∷ []) in
    let code = code_of c.loop-last.code.items in
    record {
      told = λ defs. cells_on defs t all front last c.loop-last.slot c.loop-last.behind code _ back
          (c.in_ok-put.ensures {u = tt} ∙ ap (λ u. code ++ Cell u c.loop-last.slot last c.loop-last.behind ∷ [])
          (c.in_ok-copy.ensures {u = tt}))
          ∙ c.loop-last.invariant.told defs;
      counted = omega (arith, long, c.loop-last.invariant.counted);
    }

pub returns : goal.returns
returns c =
    let none = nil_from_length c.loop-last.rest.now (c.in_default.ensures {u = tt}).cases in
    let code = code_of c.loop-last.code.items in
    λ defs. sym (append-nil code)
    ∙ ap (λ xs. code ++ cells defs (view_ty c.args.item.now) (reverse xs) c.loop-last.behind c.loop-last.slot) (sym none)
    ∙ c.loop-last.invariant.told defs
