-- What is read from the lists is the least relation.
use Rattle.std.proofs.Common.{◌≡◌, ℕ, zero, suc, ◌<◌, Bool, true, false, ◌||◌, ◌⊎◌, inl, inr, List, [], ◌∷◌, ◌++◌, length, Option, Some, None, refl, sym, ap, subst, ◌∙◌, arith}
use Rattle.std.specs.Prelude.{slice_get}
use Rattle.std.proofs.lemmas.Option.{slice_get_within}
use Rattle.limbo_types.specs.Types.{Ty, Tys, ArrayOf, ListOf, ChanOf, Tuple, Adt, RefAdt, RefPick, NoTys, MoreTys}
use Rattle.limbo_layout.specs.Adts.{Def, Has, field_types, listed}
use Rattle.limbo_layout.proofs.Rooms.{has_left, has_right, has_cases}
use Rattle.limbo_adts.specs.Reaches.{plain, HasField, Part, of_array, of_list, of_chan, of_tuple, of_adt, of_ref, of_variant, Reaches, reaches_itself, reaches_through}
use Rattle.limbo_adts.specs.Closed.{named, all_named, named_in, Names, Walk, stays, walks, row_of, AreClosed}
use Rattle.limbo_adts.specs.Reading.{alike, touches, any_touches, any_touch, types_there, fields_at, row_touches, through, any_through, reach}
use Rattle.limbo_adts.proofs.Likeness.{alike_plain, plain_alike}

or_cases : (a b : Bool) → (a || b) ≡ true → (a ≡ true) ⊎ (b ≡ true)
or_cases true b e = inl refl
or_cases false b e = inr e

or_right : (a b : Bool) → b ≡ true → (a || b) ≡ true
or_right true b e = refl
or_right false b e = e

or_left : (a b : Bool) → a ≡ true → (a || b) ≡ true
or_left true b e = refl
or_left false b e = absurd cc

-- ---- touching

module _ (defs : List Def) (u : Ty) where
  alike_reaches : (t : Ty) → alike t u ≡ true → Reaches defs t u
  alike_reaches t e = reaches_itself t u (alike_plain t u e)

  mutual
    touch_reaches : (t : Ty) → touches t u ≡ true → Reaches defs t u
    touch_reaches (ArrayOf t) e = elim (or_cases (alike (ArrayOf t) u) (touches t u) e) [
      | inl h ↦ alike_reaches (ArrayOf t) h
      | inr h ↦ reaches_through (ArrayOf t) t u (of_array t) (touch_reaches t h)
    ]
    touch_reaches (ListOf t) e = elim (or_cases (alike (ListOf t) u) (touches t u) e) [
      | inl h ↦ alike_reaches (ListOf t) h
      | inr h ↦ reaches_through (ListOf t) t u (of_list t) (touch_reaches t h)
    ]
    touch_reaches (ChanOf t) e = elim (or_cases (alike (ChanOf t) u) (touches t u) e) [
      | inl h ↦ alike_reaches (ChanOf t) h
      | inr h ↦ reaches_through (ChanOf t) t u (of_chan t) (touch_reaches t h)
    ]
    touch_reaches (Tuple ts) e = elim (or_cases (alike (Tuple ts) u) (any_touches ts u) e) [
      | inl h ↦ alike_reaches (Tuple ts) h
      | inr h ↦ let i = some_reaches ts h in reaches_through (Tuple ts) i.0 u (of_tuple ts i.0 i.1) i.2
    ]
    touch_reaches t e = alike_reaches t e

    some_reaches : (ts : Tys) → any_touches ts u ≡ true → (t : Ty) × Has (listed ts) t × Reaches defs t u
    some_reaches NoTys e = absurd cc
    some_reaches (MoreTys t ts) e = elim (or_cases (touches t u) (any_touches ts u) e) [
      | inl h ↦ (t, inl refl, touch_reaches t h)
      | inr h ↦ let i = some_reaches ts h in (i.0, inr i.1, i.2)
    ]

  any_has : (ts : List Ty) → any_touch ts u ≡ true → (t : Ty) × Has ts t × (touches t u ≡ true)
  any_has [] e = absurd cc
  any_has (t ∷ ts) e = elim (or_cases (touches t u) (any_touch ts u) e) [
    | inl h ↦ (t, inl refl, h)
    | inr h ↦ let i = any_has ts h in (i.0, inr i.1, i.2)
  ]

  has_any : (ts : List Ty) (t : Ty) → Has ts t → touches t u ≡ true → any_touch ts u ≡ true
  has_any [] t h e = absurd h
  has_any (x ∷ ts) t (inl q) e = or_left (touches x u) (any_touch ts u) (ap (λ z. touches z u) q ∙ e)
  has_any (x ∷ ts) t (inr h) e = or_right (touches x u) (any_touch ts u) (has_any ts t h e)

  tuple_touches : (ts : Tys) (t : Ty) → Has (listed ts) t → touches t u ≡ true → any_touches ts u ≡ true
  tuple_touches NoTys t h e = absurd h
  tuple_touches (MoreTys x ts) t (inl q) e = or_left (touches x u) (any_touches ts u) (ap (λ z. touches z u) q ∙ e)
  tuple_touches (MoreTys x ts) t (inr h) e = or_right (touches x u) (any_touches ts u) (tuple_touches ts t h e)

  plain_touches : (t : Ty) → plain t ≡ plain u → touches t u ≡ true
  plain_touches (ArrayOf t) e = or_left (alike (ArrayOf t) u) (touches t u) (plain_alike (ArrayOf t) u e)
  plain_touches (ListOf t) e = or_left (alike (ListOf t) u) (touches t u) (plain_alike (ListOf t) u e)
  plain_touches (ChanOf t) e = or_left (alike (ChanOf t) u) (touches t u) (plain_alike (ChanOf t) u e)
  plain_touches (Tuple ts) e = or_left (alike (Tuple ts) u) (any_touches ts u) (plain_alike (Tuple ts) u e)
  plain_touches t e = plain_alike t u e

  -- ---- through the adts that a type names

  abbrev From : ℕ → Type 0
  From n = (p : Ty) × HasField defs n p × Reaches defs p u

  mutual
    by_name : (t : Ty) (n : ℕ) → Has (named t) n → From n → Reaches defs t u
    by_name (ArrayOf t) n h f = reaches_through (ArrayOf t) t u (of_array t) (by_name t n h f)
    by_name (ListOf t) n h f = reaches_through (ListOf t) t u (of_list t) (by_name t n h f)
    by_name (ChanOf t) n h f = reaches_through (ChanOf t) t u (of_chan t) (by_name t n h f)
    by_name (Tuple ts) n h f = let i = one_by_name ts n h f in reaches_through (Tuple ts) i.0 u (of_tuple ts i.0 i.1) i.2
    by_name (Adt m) n (inl e) f = reaches_through (Adt m) f.0 u (of_adt m f.0 (subst (λ (z : ℕ). HasField defs z f.0) (sym e) f.1)) f.2
    by_name (Adt m) n (inr h) f = absurd h
    by_name (RefAdt m) n (inl e) f = reaches_through (RefAdt m) f.0 u (of_ref m f.0 (subst (λ (z : ℕ). HasField defs z f.0) (sym e) f.1)) f.2
    by_name (RefAdt m) n (inr h) f = absurd h
    by_name (RefPick m v) n (inl e) f = reaches_through (RefPick m v) f.0 u (of_variant m v f.0 (subst (λ (z : ℕ). HasField defs z f.0) (sym e) f.1)) f.2
    by_name (RefPick m v) n (inr h) f = absurd h
    by_name _ n h f = absurd h

    one_by_name : (ts : Tys) (n : ℕ) → Has (all_named ts) n → From n → (t : Ty) × Has (listed ts) t × Reaches defs t u
    one_by_name NoTys n h f = absurd h
    one_by_name (MoreTys t ts) n h f = elim (has_cases (named t) (all_named ts) n h) [
      | inl i ↦ (t, inl refl, by_name t n i f)
      | inr i ↦ let j = one_by_name ts n i f in (j.0, inr j.1, j.2)
    ]

  -- which of the types names it
  whose_name : (ts : List Ty) (n : ℕ) → Has (named_in ts) n → (t : Ty) × Has ts t × Has (named t) n
  whose_name [] n h = absurd h
  whose_name (t ∷ ts) n h = elim (has_cases (named t) (named_in ts) n h) [
    | inl i ↦ (t, inl refl, i)
    | inr i ↦ let j = whose_name ts n i in (j.0, inr j.1, j.2)
  ]

  its_name : (ts : List Ty) (t : Ty) (n : ℕ) → Has ts t → Has (named t) n → Has (named_in ts) n
  its_name [] t n h i = absurd h
  its_name (x ∷ ts) t n (inl e) i = has_left (named x) (named_in ts) n (subst (λ (z : Ty). Has (named z) n) (sym e) i)
  its_name (x ∷ ts) t n (inr h) i = has_right (named x) (named_in ts) n (its_name ts t n h i)

  by_walk : (n k : ℕ) → Walk defs n k → From k → From n
  by_walk _ _ (stays n) f = f
  by_walk _ _ (walks n m k w h) f =
      let j = whose_name (field_types h.def) k h.has in
      by_walk n m w (j.0, record { def = h.def; there = h.there; has = j.1 }, by_name j.0 k j.2 f)

  -- a walk behind one step
  first_step : (n m k : ℕ) → Names defs n m → Walk defs m k → Walk defs n k
  first_step n _ _ h (stays m) = walks n n m (stays n) h
  first_step n _ _ h (walks m j k w i) = walks n j k (first_step n m j h w) i

  -- what reading the lists says
  record Read (t : Ty) : Type 0 where
    pub start : ℕ
    pub end : ℕ
    pub field : Ty
    pub named_there : Has (named t) start
    pub way : Walk defs start end
    pub its_field : HasField defs end field
    pub touched : touches field u ≡ true

  read_reaches : (t : Ty) → Read t → Reaches defs t u
  read_reaches t r = by_name t r.start r.named_there (by_walk r.start r.end r.way (r.field, r.its_field, touch_reaches r.field r.touched))

  renamed : (t s : Ty) → ((n : ℕ) → Has (named t) n → Has (named s) n) → Read t → Read s
  renamed t s f r = record { start = r.start; end = r.end; field = r.field; named_there = f r.start r.named_there; way = r.way; its_field = r.its_field; touched = r.touched }

  tuple_names : (ts : Tys) (t : Ty) (n : ℕ) → Has (listed ts) t → Has (named t) n → Has (all_named ts) n
  tuple_names NoTys t n h i = absurd h
  tuple_names (MoreTys x ts) t n (inl e) i = has_left (named x) (all_named ts) n (subst (λ (z : Ty). Has (named z) n) (sym e) i)
  tuple_names (MoreTys x ts) t n (inr h) i = has_right (named x) (all_named ts) n (tuple_names ts t n h i)

  -- a field that touches, or leads on
  by_field : (t p : Ty) (n : ℕ) → Has (named t) n → HasField defs n p → (touches p u ≡ true) ⊎ Read p → Read t
  by_field t p n h f (inl e) = record { start = n; end = n; field = p; named_there = h; way = stays n; its_field = f; touched = e }
  by_field t p n h f (inr r) = record {
    start = n;
    end = r.end;
    field = r.field;
    named_there = h;
    way = first_step n r.start r.end (record { def = f.def; there = f.there; has = its_name (field_types f.def) p r.start f.has r.named_there }) r.way;
    its_field = r.its_field;
    touched = r.touched;
  }

  by_part : (t p : Ty) → Part defs t p → (touches p u ≡ true) ⊎ Read p → (touches t u ≡ true) ⊎ Read t
  by_part _ _ (of_array t) (inl e) = inl (or_right (alike (ArrayOf t) u) (touches t u) e)
  by_part _ _ (of_array t) (inr r) = inr (renamed t (ArrayOf t) (λ n h. h) r)
  by_part _ _ (of_list t) (inl e) = inl (or_right (alike (ListOf t) u) (touches t u) e)
  by_part _ _ (of_list t) (inr r) = inr (renamed t (ListOf t) (λ n h. h) r)
  by_part _ _ (of_chan t) (inl e) = inl (or_right (alike (ChanOf t) u) (touches t u) e)
  by_part _ _ (of_chan t) (inr r) = inr (renamed t (ChanOf t) (λ n h. h) r)
  by_part _ _ (of_tuple ts t h) (inl e) = inl (or_right (alike (Tuple ts) u) (any_touches ts u) (tuple_touches ts t h e))
  by_part _ _ (of_tuple ts t h) (inr r) = inr (renamed t (Tuple ts) (λ n i. tuple_names ts t n h i) r)
  by_part _ _ (of_adt n t f) k = inr (by_field (Adt n) t n (inl refl) f k)
  by_part _ _ (of_ref n t f) k = inr (by_field (RefAdt n) t n (inl refl) f k)
  by_part _ _ (of_variant n v t f) k = inr (by_field (RefPick n v) t n (inl refl) f k)

reads_it : (defs : List Def) (t u : Ty) → Reaches defs t u → (touches t u ≡ true) ⊎ Read defs u t
reads_it defs _ _ (reaches_itself t u e) = inl (plain_touches defs u t e)
reads_it defs _ _ (reaches_through t p u a r) = by_part defs u t p a (reads_it defs p u r)

-- ---- by the closed lists

there : (defs : List Def) (n : ℕ) (o : Option Def) → slice_get defs n ≡ o → (t : Ty) → Has (types_there o) t → HasField defs n t
there defs n (Some d) e t h = record { def = d; there = e; has = h }
there defs n None e t h = absurd h

fields_there : (defs : List Def) (n : ℕ) (t : Ty) → HasField defs n t → Has (fields_at defs n) t
fields_there defs n t f = subst (λ (o : Option Def). Has (types_there o) t) (sym f.there) f.has

within : (defs : List Def) (n k : ℕ) → Walk defs n k → k < length defs → n < length defs
within defs _ _ (stays n) l = l
within defs _ _ (walks n m k w h) l = within defs n m w (slice_get_within defs m h.def h.there)

row_some : (defs : List Def) (u : Ty) (ks : List ℕ) → row_touches defs ks u ≡ true → (k : ℕ) × Has ks k × (any_touch (fields_at defs k) u ≡ true)
row_some defs u [] e = absurd cc
row_some defs u (k ∷ ks) e = elim (or_cases (any_touch (fields_at defs k) u) (row_touches defs ks u) e) [
  | inl h ↦ (k, inl refl, h)
  | inr h ↦ let i = row_some defs u ks h in (i.0, inr i.1, i.2)
]

some_row : (defs : List Def) (u : Ty) (ks : List ℕ) (k : ℕ) → Has ks k → any_touch (fields_at defs k) u ≡ true → row_touches defs ks u ≡ true
some_row defs u [] k h e = absurd h
some_row defs u (j ∷ ks) k (inl q) e = or_left (any_touch (fields_at defs j) u) (row_touches defs ks u) (ap (λ z. any_touch (fields_at defs z) u) q ∙ e)
some_row defs u (j ∷ ks) k (inr h) e = or_right (any_touch (fields_at defs j) u) (row_touches defs ks u) (some_row defs u ks k h e)

mutual
  through_some : (f : ℕ → Bool) (t : Ty) → through f t ≡ true → (n : ℕ) × Has (named t) n × (f n ≡ true)
  through_some f (ArrayOf t) e = through_some f t e
  through_some f (ListOf t) e = through_some f t e
  through_some f (ChanOf t) e = through_some f t e
  through_some f (Tuple ts) e = any_through_some f ts e
  through_some f (Adt n) e = (n, inl refl, e)
  through_some f (RefAdt n) e = (n, inl refl, e)
  through_some f (RefPick n v) e = (n, inl refl, e)
  through_some f _ e = absurd cc

  any_through_some : (f : ℕ → Bool) (ts : Tys) → any_through f ts ≡ true → (n : ℕ) × Has (all_named ts) n × (f n ≡ true)
  any_through_some f NoTys e = absurd cc
  any_through_some f (MoreTys t ts) e = elim (or_cases (through f t) (any_through f ts) e) [
    | inl h ↦ let i = through_some f t h in (i.0, has_left (named t) (all_named ts) i.0 i.1, i.2)
    | inr h ↦ let i = any_through_some f ts h in (i.0, has_right (named t) (all_named ts) i.0 i.1, i.2)
  ]

mutual
  some_through : (f : ℕ → Bool) (t : Ty) (n : ℕ) → Has (named t) n → f n ≡ true → through f t ≡ true
  some_through f (ArrayOf t) n h e = some_through f t n h e
  some_through f (ListOf t) n h e = some_through f t n h e
  some_through f (ChanOf t) n h e = some_through f t n h e
  some_through f (Tuple ts) n h e = some_any_through f ts n h e
  some_through f (Adt m) n (inl q) e = ap f q ∙ e
  some_through f (Adt m) n (inr h) e = absurd h
  some_through f (RefAdt m) n (inl q) e = ap f q ∙ e
  some_through f (RefAdt m) n (inr h) e = absurd h
  some_through f (RefPick m v) n (inl q) e = ap f q ∙ e
  some_through f (RefPick m v) n (inr h) e = absurd h
  some_through f _ n h e = absurd h

  some_any_through : (f : ℕ → Bool) (ts : Tys) (n : ℕ) → Has (all_named ts) n → f n ≡ true → any_through f ts ≡ true
  some_any_through f NoTys n h e = absurd h
  some_any_through f (MoreTys t ts) n h e = elim (has_cases (named t) (all_named ts) n h) [
    | inl i ↦ or_left (through f t) (any_through f ts) (some_through f t n i e)
    | inr i ↦ or_right (through f t) (any_through f ts) (some_any_through f ts n i e)
  ]

-- an adt without a list names nothing and has no fields
row_in : (defs : List Def) (closed : List (List ℕ)) → AreClosed defs closed → (n k : ℕ) → Has (row_of closed n) k → n < length closed
row_in defs closed c n k h = inside closed n k h
  where
    inside : (rows : List (List ℕ)) (n k : ℕ) → Has (row_of rows n) k → n < length rows
    inside [] n k h = absurd h
    inside (r ∷ rows) zero k h = omega arith
    inside (r ∷ rows) (suc n) k h = let i = inside rows n k h in omega arith

pub reach_sound : (defs : List Def) (closed : List (List ℕ)) → AreClosed defs closed → (t u : Ty) → reach defs closed t u ≡ true → Reaches defs t u
reach_sound defs closed c t u e = elim (or_cases (touches t u) _ e) [
  | inl h ↦ touch_reaches defs u t h
  | inr h ↦
      let i = through_some (λ n. row_touches defs (row_of closed n) u) t h in
      let j = row_some defs u (row_of closed i.0) i.2 in
      let p = any_has defs u (fields_at defs j.0) j.2 in
      let l = row_in defs closed c i.0 j.0 j.1 in
      let w = (c.each i.0 (let s = c.same_length in omega arith)).sound j.0 j.1 in
      read_reaches defs u t (record { start = i.0; end = j.0; field = p.0; named_there = i.1; way = w; its_field = there defs j.0 (slice_get defs j.0) refl p.0 p.1; touched = p.2 })
]

pub reach_whole : (defs : List Def) (closed : List (List ℕ)) → AreClosed defs closed → (t u : Ty) → Reaches defs t u → reach defs closed t u ≡ true
reach_whole defs closed c t u r = elim (reads_it defs t u r) [
  | inl h ↦ or_left (touches t u) _ h
  | inr d ↦
      let l : d.start < length defs = within defs d.start d.end d.way (slice_get_within defs d.end d.its_field.def d.its_field.there) in
      let h = (c.each d.start l).whole d.end d.way in
      let a = has_any defs u (fields_at defs d.end) d.field (fields_there defs d.end d.field d.its_field) d.touched in
      or_right (touches t u) _ (some_through (λ n. row_touches defs (row_of closed n) u) t d.start d.named_there (some_row defs u (row_of closed d.start) d.end h a))
]

-- ---- one element more

pub any_touch-append : (u : Ty) (ts us : List Ty) → any_touch (ts ++ us) u ≡ (any_touch ts u || any_touch us u)
any_touch-append u [] us = refl
any_touch-append u (t ∷ ts) us = ap (λ b. touches t u || b) (any_touch-append u ts us) ∙ assoc (touches t u) (any_touch ts u) (any_touch us u)
  where
    assoc : (a b c : Bool) → (a || (b || c)) ≡ ((a || b) || c)
    assoc true b c = refl
    assoc false b c = refl
