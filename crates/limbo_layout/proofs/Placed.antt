-- Where parts stand.
use Rattle.std.proofs.Common.{◌≡◌, ℕ, zero, suc, ◌+◌, ◌-◌, ◌*◌, ◌/◌, ◌%◌, ◌<◌, ◌≤◌, ◌⊎◌, inl, inr, List, [], ◌∷◌, refl, sym, ap, subst, ◌∙◌, arith}
use Rattle.std.proofs.Math.Nat.{mod-lt, mod-eq_of_lt, div-add-mod', mul-mod_left, mod_self, sub-zero}
use Rattle.std.specs.Int.{next_multiple_of}
use Rattle.limbo_types.specs.Types.{Ty}
use Rattle.limbo_layout.specs.Adts.{Def, Has}
use Rattle.limbo_layout.specs.Layout.{Room, AllLaid, none_laid, more_laid, behind, all_behind, rounded, nothing, in_order}
use Rattle.limbo_layout.specs.Laws.{Placed, places, AreApart}
use Rattle.limbo_layout.proofs.Rooms.{aligned, align_grows, rounded_grows}

multiple_of : (a b : ℕ) → 0 < b → next_multiple_of a b % b ≡ 0
multiple_of a b p = go (a % b) refl
  where
    go : (r : ℕ) → a % b ≡ r → next_multiple_of a b % b ≡ 0
    go zero e = let z : (b - a % b) % b ≡ 0 = ap (λ (k : ℕ). (b - k) % b) e ∙ ap (λ (k : ℕ). k % b) (sub-zero b) ∙ mod_self b in let n : next_multiple_of a b ≡ a = omega arith in ap (λ (k : ℕ). k % b) n ∙ e
    go (suc r) e =
        let l : a % b < b = mod-lt a p in
        let s : (b - a % b) % b ≡ b - a % b = mod-eq_of_lt (omega arith) in
        let f : next_multiple_of a b ≡ (a / b + 1) * b = omega (arith, div-add-mod' a b) in
        ap (λ (k : ℕ). k % b) f ∙ mul-mod_left (a / b + 1) b

pub lie_apart : (w : Room) (rs : List Room) (upto : ℕ) → (all_behind w rs).size ≤ upto → AreApart w.size upto (places w rs)
lie_apart w [] upto l = l
lie_apart w (p ∷ ps) upto l = (omega arith, lie_apart (behind w p) ps upto l)

pub parts_apart : (rs : List Room) → AreApart 0 (in_order rs).size (places nothing rs)
parts_apart rs = lie_apart nothing rs (in_order rs).size (rounded_grows (all_behind nothing rs))

pub parts_aligned : (defs : List Def) (ts : List Ty) (rs : List Room) → AllLaid defs ts rs → (w : Room) (p : Placed) → Has (places w rs) p → p.at % p.room.align ≡ 0
parts_aligned defs _ _ none_laid w p h = absurd h
parts_aligned defs _ _ (more_laid t ts r rs a b) w p (inl e) =
    subst (λ (z : Placed). z.at % z.room.align ≡ 0) e (multiple_of w.size r.align (let k = aligned defs t r a in omega arith))
parts_aligned defs _ _ (more_laid t ts r rs a b) w p (inr h) = parts_aligned defs ts rs b (behind w r) p h

pub whole_aligned : (rs : List Room) → (in_order rs).size % (in_order rs).align ≡ 0
whole_aligned rs = multiple_of (all_behind nothing rs).size (all_behind nothing rs).align (let k = align_grows nothing rs in omega arith)
