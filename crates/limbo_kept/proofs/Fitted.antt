-- Values that are brought to their types.
use Rattle.std.proofs.Common.{◌≡◌, ℕ, zero, suc, pos, List, [], ◌∷◌, Option, Some, None, refl, sym, ap, subst, ◌∙◌}
use Rattle.std.proofs.Common.{inl, inr}
use Rattle.std.specs.Prelude.{slice_get}
use Rattle.limbo_types.specs.Types as ty
use Rattle.limbo_types.specs.Types.{Ty, Tys}
use Rattle.limbo_layout.specs.Adts as adts
use Rattle.limbo_layout.specs.Adts.{Def, parts}
use Rattle.limbo_layout.specs.Layout as layout
use Rattle.limbo_layout.specs.Layout.{Room, Laid, AllLaid, none_laid, more_laid, alone}
use Rattle.limbo_values.specs.declared.number.Kind.{Kind}
use Rattle.limbo_values.specs.declared.number.Kind.TheVariants as kind
use Rattle.limbo_values.proofs.Ranges.{always}
use Rattle.limbo_typed.specs.Fitting.{Stands, AllStand, HasPart, of_kind}
use Rattle.limbo_meaning.specs.Values.{Value, Values, Chars, Ref, Array, Parts, NoValues, MoreValues, nothing, row, listed, number_of}
use Rattle.limbo_meaning.specs.Values.{text_of, name_of, part_of, parts_of, array_named, fitted, all_fitted}
use Rattle.limbo_meaning.specs.Places.{value_part}
use Rattle.core_code.specs.Whole.{with_parts}
use Rattle.core_code.proofs.Whole.{values_are_whole}
use Rattle.limbo_kept.specs.Values.{Standing, Items, Cells, Adts, Channels, Store, AreCharacters, IsText}
use Rattle.limbo_kept.specs.Values.{Refers, IsReferenceTo, IsPartOf, IsAlone, IsOf, is_alone, of_tuple, of_adt, AllAreOf, none_of, more_of}
use Rattle.limbo_kept.specs.Values.{Fits, AllFit, EachIsOf}
use Rattle.limbo_kept.specs.Stores.{Grows}
use Rattle.limbo_kept.specs.Operating.{HasRoom}

pub listed_row : (vs : List Value) → listed (row vs) ≡ vs
listed_row [] = refl
listed_row (v ∷ vs) = ap (λ (us : List Value). v ∷ us) (listed_row vs)

-- ---- types that have rooms

abbrev pub HaveRooms : List Def → List Ty → Type 0
HaveRooms defs ts = (rs : List Room) × AllLaid defs ts rs

module _ (defs : List Def) where
  abbrev PartsLaid : Ty → Type 0
  PartsLaid (ty.Tuple ts) = HaveRooms defs (adts.listed ts)
  PartsLaid (ty.Adt n) = (d : Def) × (slice_get defs n ≡ Some d) × HaveRooms defs (parts d)
  PartsLaid t = Unit {0}

  parts_laid : (t : Ty) (r : Room) → Laid defs t r → PartsLaid t
  parts_laid (ty.Tuple ts) r (layout.is_alone u q e) = absurd cc
  parts_laid (ty.Adt n) r (layout.is_alone u q e) = absurd cc
  parts_laid t r (layout.of_tuple ts rs l) = (rs, l)
  parts_laid t r (layout.of_adt n d rs e l) = (d, e, (rs, l))
  parts_laid _ r (layout.is_alone u q e) = tt

  -- the rooms of the first and of the others
  abbrev RoomsIn : List Ty → Type 0
  RoomsIn [] = Unit {0}
  RoomsIn (t ∷ ts) = HasRoom defs t × HaveRooms defs ts

  pub rooms_in : (ts : List Ty) (rs : List Room) → AllLaid defs ts rs → RoomsIn ts
  rooms_in ts rs none_laid = tt
  rooms_in ts rs (more_laid t us r qs l ls) = ((r, l), (qs, ls))

module _ (defs : List Def) where
  pub rooms_of_adt : (n : ℕ) (d : Def) → HasRoom defs (ty.Adt n) → slice_get defs n ≡ Some d → HaveRooms defs (parts d)
  rooms_of_adt n d r at =
      let p = parts_laid defs (ty.Adt n) r.0 r.1 in
      let same : p.0 ≡ d = let f : slice_get defs n ≡ Some p.0 = p.1 in cc in
      subst (λ (x : Def). HaveRooms defs (parts x)) same p.2

-- ---- accessors

pub text_kept : (v : Value) → IsText v → AreCharacters (text_of v)
text_kept (Chars s) a = a
text_kept _ a = absurd a

module _ (store : Store) where
  name_kept : (s : Standing) (v : Value) → IsReferenceTo store s v → Refers store s (name_of v)
  name_kept s (Ref r) a = a
  name_kept s _ a = absurd a

  part_kept : (t : Ty) (v : Value) → IsPartOf store t v → Refers store (Items t) (array_named (part_of v))
  part_kept t (Array p) a = a
  part_kept t _ a = absurd a

module _ (defs : List Def) (store : Store) where
  -- ---- what is inside a value of a type

  abbrev pub Inside : Ty → Value → Type 0
  Inside (ty.Tuple ts) v = (vs : List Value) × (v ≡ Parts (row vs)) × AllAreOf defs store (adts.listed ts) vs
  Inside (ty.Adt n) v =
      (d : Def) × (vs : List Value) × (slice_get defs n ≡ Some d) × (v ≡ Parts (row vs)) × AllAreOf defs store (parts d) vs
  Inside t v = IsAlone store t v

  inside_alone : (t : Ty) (v : Value) → IsAlone store t v → Inside t v
  inside_alone (ty.Tuple ts) v a = absurd a
  inside_alone (ty.Adt n) v a = absurd a
  inside_alone _ v a = a

  pub inside : (t : Ty) (v : Value) → IsOf defs store t v → Inside t v
  inside t v (is_alone u w a) = inside_alone u w a
  inside t v (of_tuple ts w vs e all) = (vs, e, all)
  inside t v (of_adt n d w vs at e all) = (d, vs, at, e, all)

  pub first_and_rest : (t : Ty) (ts : List Ty) (v : Value) (vs : List Value) → AllAreOf defs store (t ∷ ts) (v ∷ vs)
      → IsOf defs store t v × AllAreOf defs store ts vs
  first_and_rest t ts v vs (more_of u us w ws a b) = (a, b)

  -- ---- zero is a value of each type that has a room

  zero_alone : (t : Ty) (r : Room) → alone t ≡ Some r → IsAlone store t (fitted defs t nothing)
  zero_alone ty.Byte r e = always kind.Byte (pos 0)
  zero_alone ty.Int r e = always kind.Int (pos 0)
  zero_alone ty.Big r e = always kind.Big (pos 0)
  zero_alone ty.Chars r e = tt
  zero_alone ty.Nothing r e = tt
  zero_alone ty.Nil r e = refl
  zero_alone (ty.ArrayOf t) r e = tt
  zero_alone (ty.ListOf t) r e = tt
  zero_alone (ty.ChanOf t) r e = tt
  zero_alone (ty.Tuple ts) r e = absurd cc
  zero_alone (ty.Adt n) r e = absurd cc
  zero_alone (ty.RefAdt n) r e = tt
  zero_alone (ty.RefPick n k) r e = tt
  zero_alone (ty.Module n) r e = refl

  mutual
    zero_is : (t : Ty) (r : Room) → Laid defs t r → Fits defs store t nothing
    zero_is t r (layout.is_alone u q e) = is_alone u (fitted defs u nothing) (zero_alone u q e)
    zero_is t r (layout.of_tuple ts rs l) =
        of_tuple ts (fitted defs (ty.Tuple ts) nothing) (all_fitted defs (adts.listed ts) []) (values_are_whole.tuples defs ts nothing)
        (zeros (adts.listed ts) rs l)
    zero_is t r (layout.of_adt n d rs e l) =
        of_adt n d (fitted defs (ty.Adt n) nothing) (all_fitted defs (parts d) []) e
        (values_are_whole.adts defs n d (layout.in_order rs) nothing (layout.of_adt n d rs e l) e) (zeros (parts d) rs l)

    zeros : (ts : List Ty) (rs : List Room) → AllLaid defs ts rs → AllAreOf defs store ts (all_fitted defs ts [])
    zeros ts rs none_laid = none_of
    zeros ts rs (more_laid t us r qs l ls) =
        more_of t us (fitted defs t nothing) (all_fitted defs us []) (zero_is t r l) (zeros us qs ls)

  pub zero_fits : (t : Ty) → HasRoom defs t → Fits defs store t nothing
  zero_fits t r = zero_is t r.0 r.1

  -- ---- a value of a type is one of it again

  again_alone : (t : Ty) (v : Value) → IsAlone store t v → IsAlone store t (fitted defs t v)
  again_alone ty.Byte v a = always kind.Byte (number_of v)
  again_alone ty.Int v a = always kind.Int (number_of v)
  again_alone ty.Big v a = always kind.Big (number_of v)
  again_alone ty.Chars v a = text_kept v a
  again_alone ty.Nothing v a = tt
  again_alone ty.Nil v a = ap (λ (x : Value). Ref (name_of x)) a
  again_alone (ty.ArrayOf t) v a = part_kept store t v a
  again_alone (ty.ListOf t) v a = name_kept store (Cells t) v a
  again_alone (ty.ChanOf t) v a = name_kept store (Channels t) v a
  again_alone (ty.Tuple ts) v a = absurd a
  again_alone (ty.Adt n) v a = absurd a
  again_alone (ty.RefAdt n) v a = name_kept store (Adts n) v a
  again_alone (ty.RefPick n k) v a = name_kept store (Adts n) v a
  again_alone (ty.Module n) v a = ap (λ (x : Value). Ref (name_of x)) a

  -- the parts of a whole value, brought to their types
  whole_parts : (ts : List Ty) (v : Value) (vs : List Value) → v ≡ Parts (row vs)
      → with_parts defs ts v ≡ Parts (row (all_fitted defs ts vs))
  whole_parts ts v vs e =
      ap (λ (us : List Value). Parts (row (all_fitted defs ts us))) (ap (λ (x : Value). listed (parts_of x)) e ∙ listed_row vs)

  mutual
    again : (t : Ty) (v : Value) → IsOf defs store t v → HasRoom defs t → Fits defs store t v
    again t v (is_alone u w a) r = is_alone u (fitted defs u w) (again_alone u w a)
    again t v (of_tuple ts w vs e all) r =
        of_tuple ts (fitted defs (ty.Tuple ts) w) (all_fitted defs (adts.listed ts) vs)
        (values_are_whole.tuples defs ts w ∙ whole_parts (adts.listed ts) w vs e)
        (all_again (adts.listed ts) vs all (parts_laid defs (ty.Tuple ts) r.0 r.1))
    again t v (of_adt n d w vs at e all) r =
        let p = parts_laid defs (ty.Adt n) r.0 r.1 in
        let same : p.0 ≡ d = let f : slice_get defs n ≡ Some p.0 = p.1 in cc in
        of_adt n d (fitted defs (ty.Adt n) w) (all_fitted defs (parts d) vs) at
        (values_are_whole.adts defs n d r.0 w r.1 at ∙ whole_parts (parts d) w vs e)
        (all_again (parts d) vs all (subst (λ (x : Def). HaveRooms defs (parts x)) same p.2))

    all_again : (ts : List Ty) (vs : List Value) → AllAreOf defs store ts vs → HaveRooms defs ts
        → AllAreOf defs store ts (all_fitted defs ts vs)
    all_again ts vs none_of r = none_of
    all_again ts vs (more_of t us v ws a b) r =
        let q = rooms_in defs (t ∷ us) r.0 r.1 in
        more_of t us (fitted defs t v) (all_fitted defs us ws) (again t v a q.0) (all_again us ws b q.1)

  pub is_fit : (t : Ty) (v : Value) → HasRoom defs t → IsOf defs store t v → Fits defs store t v
  is_fit t v r i = again t v i r

  -- ---- numbers, texts and references fit

  pub number_fits : (t : Ty) (k : Kind) (v : Value) → t ≡ of_kind k → Fits defs store t v
  number_fits t kind.Byte v e = subst (λ (x : Ty). Fits defs store x v) (sym e)
      (is_alone ty.Byte (fitted defs ty.Byte v) (always kind.Byte (number_of v)))
  number_fits t kind.Int v e = subst (λ (x : Ty). Fits defs store x v) (sym e)
      (is_alone ty.Int (fitted defs ty.Int v) (always kind.Int (number_of v)))
  number_fits t kind.Big v e = subst (λ (x : Ty). Fits defs store x v) (sym e)
      (is_alone ty.Big (fitted defs ty.Big v) (always kind.Big (number_of v)))

  pub int_fits : (v : Value) → Fits defs store ty.Int v
  int_fits v = number_fits ty.Int kind.Int v refl

  pub text_fits : (s : List ℕ) → AreCharacters s → Fits defs store ty.Chars (Chars s)
  text_fits s a = is_alone ty.Chars (Chars s) a

  -- a type whose values are references to what stands for this
  abbrev pub RefersTo : Ty → Standing → Type 0
  RefersTo (ty.ListOf t) s = s ≡ Cells t
  RefersTo (ty.ChanOf t) s = s ≡ Channels t
  RefersTo (ty.RefAdt n) s = s ≡ Adts n
  RefersTo (ty.RefPick n k) s = s ≡ Adts n
  RefersTo _ s = ⊥

  pub reference_fits : (t : Ty) (s : Standing) (v : Value) → RefersTo t s → Refers store s (name_of v) → Fits defs store t v
  reference_fits (ty.ListOf t) s v e a =
      is_alone (ty.ListOf t) (Ref (name_of v)) (subst (λ (x : Standing). Refers store x (name_of v)) e a)
  reference_fits (ty.ChanOf t) s v e a =
      is_alone (ty.ChanOf t) (Ref (name_of v)) (subst (λ (x : Standing). Refers store x (name_of v)) e a)
  reference_fits (ty.RefAdt n) s v e a =
      is_alone (ty.RefAdt n) (Ref (name_of v)) (subst (λ (x : Standing). Refers store x (name_of v)) e a)
  reference_fits (ty.RefPick n k) s v e a =
      is_alone (ty.RefPick n k) (Ref (name_of v)) (subst (λ (x : Standing). Refers store x (name_of v)) e a)
  reference_fits _ s v e a = absurd e

  pub named_by : (t : Ty) (s : Standing) (v : Value) → RefersTo t s → Fits defs store t v → Refers store s (name_of v)
  named_by (ty.ListOf t) s v e f = subst (λ (x : Standing). Refers store x (name_of v)) (sym e) (inside (ty.ListOf t) (Ref (name_of v)) f)
  named_by (ty.ChanOf t) s v e f = subst (λ (x : Standing). Refers store x (name_of v)) (sym e) (inside (ty.ChanOf t) (Ref (name_of v)) f)
  named_by (ty.RefAdt n) s v e f = subst (λ (x : Standing). Refers store x (name_of v)) (sym e) (inside (ty.RefAdt n) (Ref (name_of v)) f)
  named_by (ty.RefPick n k) s v e f =
      subst (λ (x : Standing). Refers store x (name_of v)) (sym e) (inside (ty.RefPick n k) (Ref (name_of v)) f)
  named_by _ s v e f = absurd e

  pub part_fits : (t : Ty) (v : Value) → Refers store (Items t) (array_named (part_of v)) → Fits defs store (ty.ArrayOf t) v
  part_fits t v a = is_alone (ty.ArrayOf t) (Array (part_of v)) a

  pub part_named : (t : Ty) (v : Value) → Fits defs store (ty.ArrayOf t) v → Refers store (Items t) (array_named (part_of v))
  part_named t v f = inside (ty.ArrayOf t) (Array (part_of v)) f

  pub text_in : (v : Value) → Fits defs store ty.Chars v → AreCharacters (text_of v)
  text_in v f = inside ty.Chars (Chars (text_of v)) f

  -- ---- what stands for another type

  pub stands_fits : (t u : Ty) (v : Value) → Stands t u → Fits defs store t v → Fits defs store u v
  stands_fits t u v (inl e) f = subst (λ (x : Ty). Fits defs store x v) e f
  stands_fits (ty.RefPick n k) u v (inr e) f =
      subst (λ (x : Ty). Fits defs store x v) (sym e)
      (reference_fits (ty.RefAdt n) (Adts n) v refl (named_by (ty.RefPick n k) (Adts n) v refl f))
  stands_fits _ u v (inr e) f = absurd e

  pub all_stand_fit : (ts us : List Ty) (vs : List Value) → AllStand ts us → AllFit defs store ts vs → AllFit defs store us vs
  all_stand_fit [] [] vs s f = f
  all_stand_fit [] (u ∷ us) vs s f = absurd s
  all_stand_fit (t ∷ ts) [] vs s f = absurd s
  all_stand_fit (t ∷ ts) (u ∷ us) [] s f = absurd f
  all_stand_fit (t ∷ ts) (u ∷ us) (v ∷ vs) s f = (stands_fits t u v s.0 f.0, all_stand_fit ts us vs s.1 f.1)

  -- ---- parts

  pub all_fitted_are : (ts : List Ty) (vs : List Value) → AllFit defs store ts vs → AllAreOf defs store ts (all_fitted defs ts vs)
  all_fitted_are [] [] f = none_of
  all_fitted_are [] (v ∷ vs) f = absurd f
  all_fitted_are (t ∷ ts) [] f = absurd f
  all_fitted_are (t ∷ ts) (v ∷ vs) f = more_of t ts (fitted defs t v) (all_fitted defs ts vs) f.0 (all_fitted_are ts vs f.1)

  part_in : (ts : List Ty) (us : Values) (n : ℕ) (t : Ty) → AllAreOf defs store ts (all_fitted defs ts (listed us))
      → slice_get ts n ≡ Some t → Fits defs store t (value_part n us)
  part_in [] us n t a e = absurd cc
  part_in (u ∷ ts) NoValues zero t a e =
      let same : u ≡ t = cc in
      subst (λ (x : Ty). Fits defs store x nothing) same
      (first_and_rest u ts (fitted defs u nothing) (all_fitted defs ts []) a).0
  part_in (u ∷ ts) NoValues (suc n) t a e =
      part_in ts NoValues n t (first_and_rest u ts (fitted defs u nothing) (all_fitted defs ts []) a).1 e
  part_in (u ∷ ts) (MoreValues v us) zero t a e =
      let same : u ≡ t = cc in
      subst (λ (x : Ty). Fits defs store x v) same (first_and_rest u ts (fitted defs u v) (all_fitted defs ts (listed us)) a).0
  part_in (u ∷ ts) (MoreValues v us) (suc n) t a e =
      part_in ts us n t (first_and_rest u ts (fitted defs u v) (all_fitted defs ts (listed us)) a).1 e

  parts_of_whole : (ts : List Ty) (v w : Value) (vs : List Value) → w ≡ with_parts defs ts v → w ≡ Parts (row vs)
      → AllAreOf defs store ts vs → AllAreOf defs store ts (all_fitted defs ts (listed (parts_of v)))
  parts_of_whole ts v w vs e f all =
      let g : all_fitted defs ts (listed (parts_of v)) ≡ vs =
      sym (listed_row (all_fitted defs ts (listed (parts_of v))))
      ∙ ap (λ (x : Value). listed (parts_of x)) (sym e ∙ f) ∙ listed_row vs in
      subst (AllAreOf defs store ts) (sym g) all

  pub tuple_parts : (ts : Tys) (v : Value) → Fits defs store (ty.Tuple ts) v
      → AllAreOf defs store (adts.listed ts) (all_fitted defs (adts.listed ts) (listed (parts_of v)))
  tuple_parts ts v f =
      let i = inside (ty.Tuple ts) (fitted defs (ty.Tuple ts) v) f in
      parts_of_whole (adts.listed ts) v (fitted defs (ty.Tuple ts) v) i.0 (values_are_whole.tuples defs ts v) i.1 i.2

  pub adt_parts : (n : ℕ) (d : Def) (v : Value) → HasRoom defs (ty.Adt n) → slice_get defs n ≡ Some d → Fits defs store (ty.Adt n) v
      → AllAreOf defs store (parts d) (all_fitted defs (parts d) (listed (parts_of v)))
  adt_parts n d v r at f =
      let i = inside (ty.Adt n) (fitted defs (ty.Adt n) v) f in
      let same : i.0 ≡ d = let g : slice_get defs n ≡ Some i.0 = i.2 in cc in
      parts_of_whole (parts d) v (fitted defs (ty.Adt n) v) i.1 (values_are_whole.adts defs n d r.0 v r.1 at) i.3
      (subst (λ (x : Def). AllAreOf defs store (parts x) i.1) same i.4)

  -- a part of a value fits the part's type
  pub taken_fits : (u : Ty) (n : ℕ) (t : Ty) (v : Value) → HasRoom defs u → HasPart defs u n t → Fits defs store u v
      → Fits defs store t (value_part n (parts_of v))
  taken_fits (ty.Tuple ts) n t v r h f = part_in (adts.listed ts) (parts_of v) n t (tuple_parts ts v f) h
  taken_fits (ty.Adt k) n t v r h f = part_in (parts h.0) (parts_of v) n t (adt_parts k h.0 v r h.1 f) h.2
  taken_fits _ n t v r h f = absurd h

  -- and values that fit the parts make one
  pub tuple_made : (ts : Tys) (vs : List Value) → AllFit defs store (adts.listed ts) vs → Fits defs store (ty.Tuple ts) (Parts (row vs))
  tuple_made ts vs f =
      of_tuple ts (fitted defs (ty.Tuple ts) (Parts (row vs))) (all_fitted defs (adts.listed ts) vs)
      (values_are_whole.tuples defs ts (Parts (row vs)) ∙ whole_parts (adts.listed ts) (Parts (row vs)) vs refl)
      (all_fitted_are (adts.listed ts) vs f)

  pub adt_whole : (n : ℕ) (d : Def) (vs : List Value) → HasRoom defs (ty.Adt n) → slice_get defs n ≡ Some d
      → AllAreOf defs store (parts d) (all_fitted defs (parts d) vs) → Fits defs store (ty.Adt n) (Parts (row vs))
  adt_whole n d vs r at f =
      of_adt n d (fitted defs (ty.Adt n) (Parts (row vs))) (all_fitted defs (parts d) vs) at
      (values_are_whole.adts defs n d r.0 (Parts (row vs)) r.1 at ∙ whole_parts (parts d) (Parts (row vs)) vs refl) f

  -- the room of a part
  pub room_of_part : (u : Ty) (n : ℕ) (t : Ty) → HasRoom defs u → HasPart defs u n t → HasRoom defs t
  room_of_part u n t r h = go u h (parts_laid defs u r.0 r.1)
    where
      among : (ts : List Ty) (n : ℕ) → HaveRooms defs ts → slice_get ts n ≡ Some t → HasRoom defs t
      among [] n q e = absurd cc
      among (x ∷ ts) zero q e = let same : x ≡ t = cc in subst (HasRoom defs) same (rooms_in defs (x ∷ ts) q.0 q.1).0
      among (x ∷ ts) (suc n) q e = among ts n (rooms_in defs (x ∷ ts) q.0 q.1).1 e

      go : (u : Ty) → HasPart defs u n t → PartsLaid defs u → HasRoom defs t
      go (ty.Tuple ts) h q = among (adts.listed ts) n q h
      go (ty.Adt k) h q =
          let same : q.0 ≡ h.0 = let f : slice_get defs k ≡ Some q.0 = q.1 in let g : slice_get defs k ≡ Some h.0 = h.1 in cc in
          among (parts h.0) n (subst (λ (x : Def). HaveRooms defs (parts x)) same q.2) h.2
      go _ h q = absurd h

-- ---- a store that grows

module _ (defs : List Def) (store later : Store) (grows : Grows store later) where
  pub refers_later : (s : Standing) (r : Option ℕ) → Refers store s r → Refers later s r
  refers_later s None a = tt
  refers_later s (Some n) a = grows n s a

  reference_later : (s : Standing) (v : Value) → IsReferenceTo store s v → IsReferenceTo later s v
  reference_later s (Ref r) a = refers_later s r a
  reference_later s _ a = absurd a

  part_later : (t : Ty) (v : Value) → IsPartOf store t v → IsPartOf later t v
  part_later t (Array p) a = refers_later (Items t) (array_named p) a
  part_later t _ a = absurd a

  alone_later : (t : Ty) (v : Value) → IsAlone store t v → IsAlone later t v
  alone_later ty.Byte v a = a
  alone_later ty.Int v a = a
  alone_later ty.Big v a = a
  alone_later ty.Chars v a = a
  alone_later ty.Nothing v a = a
  alone_later ty.Nil v a = a
  alone_later (ty.ArrayOf t) v a = part_later t v a
  alone_later (ty.ListOf t) v a = reference_later (Cells t) v a
  alone_later (ty.ChanOf t) v a = reference_later (Channels t) v a
  alone_later (ty.Tuple ts) v a = absurd a
  alone_later (ty.Adt n) v a = absurd a
  alone_later (ty.RefAdt n) v a = reference_later (Adts n) v a
  alone_later (ty.RefPick n k) v a = reference_later (Adts n) v a
  alone_later (ty.Module n) v a = a

  mutual
    pub is_later : (t : Ty) (v : Value) → IsOf defs store t v → IsOf defs later t v
    is_later t v (is_alone u w a) = is_alone u w (alone_later u w a)
    is_later t v (of_tuple ts w vs e all) = of_tuple ts w vs e (all_later (adts.listed ts) vs all)
    is_later t v (of_adt n d w vs at e all) = of_adt n d w vs at e (all_later (parts d) vs all)

    pub all_later : (ts : List Ty) (vs : List Value) → AllAreOf defs store ts vs → AllAreOf defs later ts vs
    all_later ts vs none_of = none_of
    all_later ts vs (more_of t us v ws a b) = more_of t us v ws (is_later t v a) (all_later us ws b)

  pub fits_later : (t : Ty) (v : Value) → Fits defs store t v → Fits defs later t v
  fits_later t v f = is_later t (fitted defs t v) f

  pub all_fit_later : (ts : List Ty) (vs : List Value) → AllFit defs store ts vs → AllFit defs later ts vs
  all_fit_later [] [] f = tt
  all_fit_later [] (v ∷ vs) f = absurd f
  all_fit_later (t ∷ ts) [] f = absurd f
  all_fit_later (t ∷ ts) (v ∷ vs) f = (fits_later t v f.0, all_fit_later ts vs f.1)

  pub each_later : (t : Ty) (vs : List Value) → EachIsOf defs store t vs → EachIsOf defs later t vs
  each_later t [] f = tt
  each_later t (v ∷ vs) f = (is_later t v f.0, each_later t vs f.1)
