-- Alignments, and where parts of values lie.
use Rattle.std.proofs.Common.{◌≡◌, ℕ, ◌+◌, ◌≤◌, ◌⊎◌, ◌%◌, List, ◌∷◌, max, Some, refl, sym, ap, subst, ◌∙◌, arith}
use Rattle.std.proofs.Common.{inl, inr}
use Rattle.std.specs.Int.{next_multiple_of}
use Rattle.limbo_types.specs.Types as ty
use Rattle.limbo_types.specs.Types.{Ty, Tys}
use Rattle.limbo_layout.specs.Adts.{Def, parts, listed}
use Rattle.limbo_layout.specs.Layout.{Room, Laid, AllLaid, is_alone, of_tuple, of_adt, none_laid, more_laid, alone, behind, all_behind}
use Rattle.limbo_layout.specs.Layout.{nothing, number, reference}
use Rattle.limbo_layout.proofs.Rooms.{all_grow, align_grows}
use Rattle.limbo_layout.proofs.Placed.{parts_aligned}

-- an alignment of a layout
abbrev pub IsPower : ℕ → Type 0
IsPower a = (a ≡ 1) ⊎ ((a ≡ 4) ⊎ (a ≡ 8))

pub max_power : (a b : ℕ) → IsPower a → IsPower b → IsPower (max a b)
max_power a b (inl e) (inl f) = inl (omega arith)
max_power a b (inl e) (inr (inl f)) = inr (inl (omega arith))
max_power a b (inl e) (inr (inr f)) = inr (inr (omega arith))
max_power a b (inr (inl e)) (inl f) = inr (inl (omega arith))
max_power a b (inr (inl e)) (inr (inl f)) = inr (inl (omega arith))
max_power a b (inr (inl e)) (inr (inr f)) = inr (inr (omega arith))
max_power a b (inr (inr e)) (inl f) = inr (inr (omega arith))
max_power a b (inr (inr e)) (inr (inl f)) = inr (inr (omega arith))
max_power a b (inr (inr e)) (inr (inr f)) = inr (inr (omega arith))

-- a multiple of a greater one, and so many times the smaller one
pub stays_aligned : (at off a b : ℕ) → IsPower a → IsPower b → a ≤ b → at % b ≡ 0 → off % a ≡ 0 → (at + off) % a ≡ 0
stays_aligned at off a b p q l e f = go p q
  where
    fit : (x y : ℕ) → a ≡ x → b ≡ y → (at % y ≡ 0 → off % x ≡ 0 → (at + off) % x ≡ 0) → (at + off) % a ≡ 0
    fit x y i j h =
        ap (λ n. (at + off) % n) i ∙ h (sym (ap (λ n. at % n) j) ∙ e) (sym (ap (λ n. off % n) i) ∙ f)

    go : IsPower a → IsPower b → (at + off) % a ≡ 0
    go (inl i) (inl j) = fit 1 1 i j (λ u v. omega arith)
    go (inl i) (inr (inl j)) = fit 1 4 i j (λ u v. omega arith)
    go (inl i) (inr (inr j)) = fit 1 8 i j (λ u v. omega arith)
    go (inr (inl i)) (inl j) = absurd (omega arith)
    go (inr (inl i)) (inr (inl j)) = fit 4 4 i j (λ u v. omega arith)
    go (inr (inl i)) (inr (inr j)) = fit 4 8 i j (λ u v. omega arith)
    go (inr (inr i)) (inl j) = absurd (omega arith)
    go (inr (inr i)) (inr (inl j)) = absurd (omega arith)
    go (inr (inr i)) (inr (inr j)) = fit 8 8 i j (λ u v. omega arith)

alone_power : (t : Ty) (r : Room) → alone t ≡ Some r → IsPower r.align
alone_power (ty.Tuple ts) r e = absurd cc
alone_power (ty.Adt n) r e = absurd cc
alone_power ty.Byte r e = let f : number 1 ≡ r = cc in subst (λ (z : Room). IsPower z.align) f (inl refl)
alone_power ty.Int r e = let f : number 4 ≡ r = cc in subst (λ (z : Room). IsPower z.align) f (inr (inl refl))
alone_power ty.Big r e = let f : number 8 ≡ r = cc in subst (λ (z : Room). IsPower z.align) f (inr (inr refl))
alone_power ty.Nothing r e = let f : nothing ≡ r = cc in subst (λ (z : Room). IsPower z.align) f (inl refl)
alone_power _ r e = let f : reference ≡ r = cc in subst (λ (z : Room). IsPower z.align) f (inr (inl refl))

module _ (defs : List Def) where
  mutual
    pub laid_power : (t : Ty) (r : Room) → Laid defs t r → IsPower r.align
    laid_power _ _ (is_alone t r e) = alone_power t r e
    laid_power _ _ (of_tuple ts rs l) = all_power nothing (listed ts) rs (inl refl) l
    laid_power _ _ (of_adt n d rs e l) = all_power nothing (parts d) rs (inl refl) l

    pub all_power : (w : Room) (ts : List Ty) (rs : List Room) → IsPower w.align → AllLaid defs ts rs → IsPower (all_behind w rs).align
    all_power w _ _ p none_laid = p
    all_power w _ _ p (more_laid t ts r rs l ls) =
        all_power (behind w r) ts rs (max_power w.align r.align p (laid_power t r l)) ls

  -- a part's offset suits it
  pub suits : (w : Room) (t : Ty) (ts : List Ty) (r : Room) (rs : List Room) → AllLaid defs (t ∷ ts) (r ∷ rs)
      → next_multiple_of w.size r.align % r.align ≡ 0
  suits w t ts r rs l = parts_aligned defs (t ∷ ts) (r ∷ rs) l w (record { at = next_multiple_of w.size r.align; room = r }) (inl refl)

  -- one type more
  more_inside : (us : List Ty) (ss : List Room) → AllLaid defs us ss → (t : Ty) (ts : List Ty) (r : Room) (rs : List Room)
      → us ≡ t ∷ ts → ss ≡ r ∷ rs → Laid defs t r × AllLaid defs ts rs
  more_inside _ _ none_laid t ts r rs e f = absurd cc
  more_inside _ _ (more_laid u us s ss l ls) t ts r rs e f =
      let a : u ≡ t = cc in
      let b : us ≡ ts = cc in
      let c : s ≡ r = cc in
      let d : ss ≡ rs = cc in (
        subst (λ (z : Ty). Laid defs z r) a (subst (λ (z : Room). Laid defs u z) c l),
        subst (λ (z : List Ty). AllLaid defs z rs) b (subst (λ (z : List Room). AllLaid defs us z) d ls),
      )

  pub inside : (t : Ty) (ts : List Ty) (r : Room) (rs : List Room) → AllLaid defs (t ∷ ts) (r ∷ rs) → Laid defs t r × AllLaid defs ts rs
  inside t ts r rs l = more_inside (t ∷ ts) (r ∷ rs) l t ts r rs refl refl

-- where a part ends, and its alignment, within those of all
pub ends_within : (w r : Room) (rs : List Room) → next_multiple_of w.size r.align + r.size ≤ (all_behind w (r ∷ rs)).size
ends_within w r rs = all_grow (behind w r) rs

pub aligned_within : (w r : Room) (rs : List Room) → r.align ≤ (all_behind w (r ∷ rs)).align
aligned_within w r rs = let a = align_grows (behind w r) rs in omega arith
