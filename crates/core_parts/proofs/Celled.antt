-- The cells of a list, one by one.
use Rattle.std.proofs.Common.{◌≡◌, ℕ, zero, suc, ◌+◌, ◌-◌, ◌<◌, List, [], ◌∷◌, ◌++◌, Option, Some, None, reverse, length, refl, sym, ap}
use Rattle.std.proofs.Common.{◌∙◌}
use Rattle.std.proofs.Common.{arith, add-zero, add-one, append_assoc}
use Rattle.std.proofs.lemmas.List.{append-nil}
use Rattle.limbo_meaning.specs.Values.{Ref}
use Rattle.limbo_meaning.specs.Operations.{item_of}
use Rattle.limbo_types.specs.Types.{Ty}
use Rattle.limbo_layout.specs.Adts.{Def}
use Rattle.core_code.specs.Code.{Instr, Known, Drop, Cell}
use Rattle.core_code.specs.Terms.{Lowered, cells, cell_drops, links}

cell_drops_more : (defs : List Def) (n free : ℕ) → cell_drops defs (suc n) free ≡ cell_drops defs n free ++ Drop (free + n) 0 ∷ []
cell_drops_more defs zero free = ap (λ s. Drop s 0 ∷ []) (sym (add-zero free))
cell_drops_more defs (suc n) free =
    let e : suc free + n ≡ free + suc n = omega arith in
    ap (λ is. Drop free 0 ∷ is) (cell_drops_more defs n (suc free) ∙ ap (λ s. cell_drops defs n (suc free) ++ Drop s 0 ∷ []) e)

pub cell_drops_on : (defs : List Def) (n free : ℕ) (base code next : List Instr) → code ≡ base ++ cell_drops defs n free
    → next ≡ code ++ Drop (free + n) 0 ∷ [] → next ≡ base ++ cell_drops defs (n + 1) free
cell_drops_on defs n free base code next e f =
    f ∙ ap (λ is. is ++ Drop (free + n) 0 ∷ []) e ∙ append_assoc base (cell_drops defs n free) (Drop (free + n) 0 ∷ [])
    ∙ ap (λ is. base ++ is) (sym (ap (λ k. cell_drops defs k free) (add-one n) ∙ cell_drops_more defs n free))

pub cells_on : (defs : List Def) (t : Ty) (all front : List ℕ) (last slot : ℕ) (b : Option ℕ) (code next : List Instr)
    → reverse all ≡ last ∷ reverse front → next ≡ code ++ Cell t slot last b ∷ []
    → next ++ cells defs t (reverse front) (Some slot) (slot + 1) ≡ code ++ cells defs t (reverse all) b slot
cells_on defs t all front last slot b code next er e =
    rw (e, er, add-one slot) (append_assoc code (Cell t slot last b ∷ []) (cells defs t (reverse front) (Some slot) (suc slot)))

pub link_none : (defs : List Def) (t : Ty) (each : List (List Instr)) (code drops new : List Instr) (vs : List ℕ) (lo : ℕ) → length vs ≡ 0
    → new ≡ code ++ Known (Ref None) lo ∷ []
    → ◌≡◌ {A = Lowered} (record { code = new; drops = drops; value = lo; free = lo + 1 })
    (links defs t (record { each = each; code = code; drops = drops; values = vs; free = lo }))
link_none defs t each code drops new [] lo e en = rw (en, append-nil drops, add-zero lo, add-one lo) refl
link_none defs t each code drops new (v ∷ vs) lo e en = absurd (omega (arith, e))

pub link_some : (defs : List Def) (t : Ty) (each : List (List Instr)) (code drops new gone : List Instr) (vs : List ℕ) (lo n : ℕ)
    → 0 < n → n ≡ length vs
    → new ≡ code ++ cells defs (item_of t) (reverse vs) None lo → gone ≡ drops ++ cell_drops defs n lo
    → ◌≡◌ {A = Lowered} (record { code = new; drops = gone; value = lo + (n - 1); free = lo + n })
    (links defs t (record { each = each; code = code; drops = drops; values = vs; free = lo }))
link_some defs t each code drops new gone [] lo n h e en eg = absurd (omega (arith, e))
link_some defs t each code drops new gone (v ∷ vs) lo n h e en eg =
    let free : lo + n ≡ suc (lo + (n - 1)) = omega arith in
    rw (en, eg, free, e) refl
