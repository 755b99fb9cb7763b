-- What a type reaches is a preorder, in which a `ref` of a variant is the `ref` of its adt.
use Rattle.std.proofs.Common.{◌≡◌, ℕ, inl, inr, List, refl, sym, ap, ◌∙◌, subst}
use Rattle.limbo_types.specs.Types.{Ty, Tys, ArrayOf, ListOf, ChanOf, Tuple, Adt, RefAdt, RefPick, NoTys, MoreTys}
use Rattle.limbo_layout.specs.Adts.{Def, Has, listed}
use Rattle.limbo_adts.specs.Reaches.{plain, all_plain, HasField, Part, of_array, of_list, of_chan, of_tuple, of_adt, of_ref, of_variant}
use Rattle.limbo_adts.specs.Reaches.{Reaches, reaches_itself, reaches_through}

-- a part of the one that is the same, but for variants
abbrev pub AlikePart : List Def → (t p : Ty) → Type 0
AlikePart defs t p = (q : Ty) × Part defs t q × (plain q ≡ plain p)

alike_in : (us ts : Tys) (p : Ty) → all_plain ts ≡ all_plain us → Has (listed us) p → (q : Ty) × Has (listed ts) q × (plain q ≡ plain p)
alike_in NoTys ts p e h = absurd h
alike_in (MoreTys u us) NoTys p e h = absurd cc
alike_in (MoreTys u us) (MoreTys t ts) p e (inl f) = (t, inl refl, let g : plain t ≡ plain u = cc in g ∙ ap plain f)
alike_in (MoreTys u us) (MoreTys t ts) p e (inr h) =
    let g : all_plain ts ≡ all_plain us = cc in
    let i = alike_in us ts p g h in
    (i.0, inr i.1, i.2)

module _ (defs : List Def) where
  field_of : (m n : ℕ) (p : Ty) → m ≡ n → HasField defs n p → HasField defs m p
  field_of m n p e f = subst (λ (z : ℕ). HasField defs z p) (sym e) f

  pub alike_part : (u p : Ty) → Part defs u p → (t : Ty) → plain t ≡ plain u → AlikePart defs t p
  alike_part _ _ (of_array p) (ArrayOf q) e = (q, of_array q, cc)
  alike_part _ _ (of_array p) _ e = absurd cc
  alike_part _ _ (of_list p) (ListOf q) e = (q, of_list q, cc)
  alike_part _ _ (of_list p) _ e = absurd cc
  alike_part _ _ (of_chan p) (ChanOf q) e = (q, of_chan q, cc)
  alike_part _ _ (of_chan p) _ e = absurd cc
  alike_part _ _ (of_tuple us p h) (Tuple ts) e =
      let f : all_plain ts ≡ all_plain us = cc in
      let i = alike_in us ts p f h in
      (i.0, of_tuple ts i.0 i.1, i.2)
  alike_part _ _ (of_tuple us p h) _ e = absurd cc
  alike_part _ _ (of_adt n p f) (Adt m) e = (p, of_adt m p (field_of m n p (cc) f), refl)
  alike_part _ _ (of_adt n p f) _ e = absurd cc
  alike_part _ _ (of_ref n p f) (RefAdt m) e = (p, of_ref m p (field_of m n p (cc) f), refl)
  alike_part _ _ (of_ref n p f) (RefPick m w) e = (p, of_variant m w p (field_of m n p (cc) f), refl)
  alike_part _ _ (of_ref n p f) _ e = absurd cc
  alike_part _ _ (of_variant n v p f) (RefAdt m) e = (p, of_ref m p (field_of m n p (cc) f), refl)
  alike_part _ _ (of_variant n v p f) (RefPick m w) e = (p, of_variant m w p (field_of m n p (cc) f), refl)
  alike_part _ _ (of_variant n v p f) _ e = absurd cc

  pub alike_reaches : (t u w : Ty) → plain t ≡ plain u → Reaches defs u w → Reaches defs t w
  alike_reaches t _ _ e (reaches_itself u w f) = reaches_itself t w (e ∙ f)
  alike_reaches t _ _ e (reaches_through u p w a r) =
      let i = alike_part u p a t e in
      reaches_through t i.0 w i.1 (alike_reaches i.0 p w i.2 r)

  pub reaches_on : (t u w : Ty) → Reaches defs t u → Reaches defs u w → Reaches defs t w
  reaches_on _ _ w (reaches_itself t u e) s = alike_reaches t u w e s
  reaches_on _ _ w (reaches_through t p u a r) s = reaches_through t p w a (reaches_on p u w r s)

  -- what is reached up to variants is reached
  pub reaches_alike : (t u w : Ty) → Reaches defs t u → plain u ≡ plain w → Reaches defs t w
  reaches_alike t u w r e = reaches_on t u w r (reaches_itself u w e)
