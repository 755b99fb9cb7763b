-- The elements of an initialiser, one after the other.
use Rattle.std.proofs.Common.{◌≡◌, ℕ, ◌+◌, ◌<◌, List, ◌∷◌, length, get_or, drop, map, max, sym, ap, ◌∙◌, arith}
use Rattle.std.proofs.lemmas.List.{at_drop_more}
use Rattle.limbo_layout.specs.Adts.{Def}
use Rattle.limbo_typed.specs.declared.expr.Item as code_item
use Rattle.limbo_typed.specs.View as view
use Rattle.limbo_typed.specs.View.{view_expr, view_item, items_of}
use Rattle.limbo_typed.proofs.View.{view_item-out}
use Rattle.core_frames.specs.Sizes.{greatest, held_size}
use Rattle.core_sizing.specs.Sizes.{alone, held}

pub held-next : (defs : List Def) (items : List code_item.Item) (i : ℕ) (x : code_item.Item) → i < length items → x ≡ get_or items i x
    → held_size defs (items_of (map view_item (drop i items)))
    ≡ held defs (view_expr x.value) + held_size defs (items_of (map view_item (drop (i + 1) items)))
held-next defs items i x l e =
    let rest = drop (i + 1) items in
    at_drop_more (λ is. held_size defs (items_of (map view_item is))) items i x (omega arith)
    ∙ ap (λ (y : code_item.Item). held_size defs (items_of (view_item y ∷ map view_item rest))) (sym e)
    ∙ ap (λ (y : view.Item). held_size defs (items_of (y ∷ map view_item rest))) (view_item-out x)

pub greatest-next : (defs : List Def) (items : List code_item.Item) (i : ℕ) (x : code_item.Item) → i < length items → x ≡ get_or items i x
    → greatest defs (items_of (map view_item (drop i items)))
    ≡ max (alone defs (view_expr x.value)) (greatest defs (items_of (map view_item (drop (i + 1) items))))
greatest-next defs items i x l e =
    let rest = drop (i + 1) items in
    at_drop_more (λ is. greatest defs (items_of (map view_item is))) items i x (omega arith)
    ∙ ap (λ (y : code_item.Item). greatest defs (items_of (view_item y ∷ map view_item rest))) (sym e)
    ∙ ap (λ (y : view.Item). greatest defs (items_of (y ∷ map view_item rest))) (view_item-out x)
