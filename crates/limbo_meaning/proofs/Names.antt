-- Names in lists of words, in values and in what is made of them.
use Rattle.std.proofs.Common.{◌≡◌, ℕ, zero, suc, ◌+◌, ◌-◌, ◌<◌, Bool, true, false, List, [], ◌∷◌, ◌++◌, length, take, drop, Option, None}
use Rattle.std.proofs.Common.{Some, ◌⊎◌, inl, inr, refl, arith}
use Rattle.std.proofs.lemmas.Bool.{eqb-true}
use Rattle.std.specs.Prelude.{nat_eq, if◌then◌else◌, replicate, slice_set, slice_index_or, slice_range, slice_get}
use Rattle.limbo_types.specs.Types as ty
use Rattle.limbo_types.specs.Types.{Ty, Tys, NoTys, MoreTys}
use Rattle.limbo_types.specs.View.{tys_of}
use Rattle.limbo_layout.specs.Adts.{Def, parts, variant_types}
use Rattle.limbo_meaning.specs.Values.{Value, Num, Chars, Ref, Array, Parts, Values, NoValues, MoreValues, nothing, row, first_in}
use Rattle.limbo_meaning.specs.Values.{rest_in, parts_of, part_of, name_of}
use Rattle.limbo_meaning.specs.Values.{formed, all_formed, by_def, adt_formed, fitted, references, all_references, references_in}
use Rattle.limbo_meaning.specs.Values.{array_named, one}
use Rattle.limbo_meaning.specs.Places.{value_part, part_at, put_part, with_part}
use Rattle.limbo_meaning.specs.Operations.{adt_parts, overwritten}
use Rattle.limbo_meaning.specs.Origins.{Name}

-- all that the first words name the second name
abbrev pub Sub : List (Option ℕ) → List (Option ℕ) → Type 0
Sub rs ss = (n : ℕ) → Name rs n → Name ss n

pub none : {A : Type 0} (n : ℕ) → Name [] n → A
none n h = absurd (let z : 0 < 0 = h in omega arith)

pub nil_names : {A : Type 0} (n : ℕ) → Name (None ∷ []) n → A
nil_names n h = absurd (omega (arith, h))

-- a word that names n is n's
pub is_one : (n k : ℕ) → Name (Some k ∷ []) n → n ≡ k
is_one n k h = go (nat_eq n k) refl h
  where
    go : (b : Bool) → nat_eq n k ≡ b → 0 < (if b then 1 else 0) + 0 → n ≡ k
    go true e h = eqb-true n k e
    go false e h = absurd (omega (arith, h))

pub either : (rs ss : List (Option ℕ)) (n : ℕ) → Name (rs ++ ss) n → Name rs n ⊎ Name ss n
either [] ss n h = inr h
either (r ∷ rs) ss n h = go (one n r) refl (either rs ss n)
  where
    go : (k : ℕ) → one n r ≡ k → (Name (rs ++ ss) n → Name rs n ⊎ Name ss n) → Name (r ∷ rs) n ⊎ Name ss n
    go (suc k) e rest = inl (omega (arith, e))
    go zero e rest = elim (rest (omega (arith, e, h))) [ inl y ↦ inl (omega (arith, y)) | inr y ↦ inr y ]

pub left : (rs ss : List (Option ℕ)) → Sub rs (rs ++ ss)
left [] ss n h = none n h
left (r ∷ rs) ss n h = go (one n r) refl (left rs ss n)
  where
    go : (k : ℕ) → one n r ≡ k → (Name rs n → Name (rs ++ ss) n) → Name (r ∷ rs ++ ss) n
    go (suc k) e rest = omega (arith, e)
    go zero e rest = let z = rest (omega (arith, e, h)) in omega (arith, z)

pub right : (rs ss : List (Option ℕ)) → Sub ss (rs ++ ss)
right [] ss n h = h
right (r ∷ rs) ss n h = let z = right rs ss n h in omega (arith, z)

-- where both of two parts lie in a third
pub join : (rs ss ts : List (Option ℕ)) → Sub rs ts → Sub ss ts → Sub (rs ++ ss) ts
join rs ss ts f g n h = elim (either rs ss n h) [ inl y ↦ f n y | inr y ↦ g n y ]

-- ---- lists of values

pub in_row : (vs : List Value) → Sub (all_references (row vs)) (references_in vs)
in_row [] n h = h
in_row (v ∷ vs) n h = elim (either (references v) (all_references (row vs)) n h) [
  | inl y ↦ left (references v) (references_in vs) n y
  | inr y ↦ right (references v) (references_in vs) n (in_row vs n y)
]

pub in_get : (vs : List Value) (k : ℕ) → Sub (references (slice_index_or vs k nothing)) (references_in vs)
in_get [] k n h = none n h
in_get (v ∷ vs) zero n h = left (references v) (references_in vs) n h
in_get (v ∷ vs) (suc k) n h = right (references v) (references_in vs) n (in_get vs k n h)

pub in_set : (vs : List Value) (k : ℕ) (v : Value) → Sub (references_in (slice_set vs k v)) (references v ++ references_in vs)
in_set [] k v n h = none n h
in_set (u ∷ vs) zero v n h = elim (either (references v) (references_in vs) n h) [
  | inl y ↦ left (references v) (references u ++ references_in vs) n y
  | inr y ↦ right (references v) (references u ++ references_in vs) n (right (references u) (references_in vs) n y)
]
in_set (u ∷ vs) (suc k) v n h = elim (either (references u) (references_in (slice_set vs k v)) n h) [
  | inl y ↦ right (references v) (references u ++ references_in vs) n (left (references u) (references_in vs) n y)
  | inr y ↦ elim (either (references v) (references_in vs) n (in_set vs k v n y)) [
    | inl z ↦ left (references v) (references u ++ references_in vs) n z
    | inr z ↦ right (references v) (references u ++ references_in vs) n (right (references u) (references_in vs) n z)
  ]
]

pub in_take : (k : ℕ) (vs : List Value) → Sub (references_in (take k vs)) (references_in vs)
in_take zero vs n h = none n h
in_take (suc k) [] n h = none n h
in_take (suc k) (v ∷ vs) n h = elim (either (references v) (references_in (take k vs)) n h) [
  | inl y ↦ left (references v) (references_in vs) n y
  | inr y ↦ right (references v) (references_in vs) n (in_take k vs n y)
]

pub in_drop : (k : ℕ) (vs : List Value) → Sub (references_in (drop k vs)) (references_in vs)
in_drop zero vs n h = h
in_drop (suc k) [] n h = none n h
in_drop (suc k) (v ∷ vs) n h = right (references v) (references_in vs) n (in_drop k vs n h)

pub in_both : (vs us : List Value) (n : ℕ) → Name (references_in (vs ++ us)) n → Name (references_in vs) n ⊎ Name (references_in us) n
in_both [] us n h = inr h
in_both (v ∷ vs) us n h = elim (either (references v) (references_in (vs ++ us)) n h) [
  | inl y ↦ inl (left (references v) (references_in vs) n y)
  | inr y ↦ elim (in_both vs us n y) [ inl z ↦ inl (right (references v) (references_in vs) n z) | inr z ↦ inr z ]
]

pub in_copies : (k : ℕ) (v : Value) → Sub (references_in (replicate k v)) (references v)
in_copies zero v n h = none n h
in_copies (suc k) v n h = elim (either (references v) (references_in (replicate k v)) n h) [ inl y ↦ y | inr y ↦ in_copies k v n y ]

pub in_range : (vs : List Value) (from to : ℕ) → Sub (references_in (slice_range vs from to)) (references_in vs)
in_range vs from to n h = in_drop from vs n (in_take (to - from) (drop from vs) n h)

-- ---- a value as one of a type names nothing more

module _ (adt : ℕ → Value → Value) (adts : (k : ℕ) (v : Value) → Sub (references (adt k v)) (references v)) where
  in_parts : (v : Value) → Sub (all_references (parts_of v)) (references v)
  in_parts (Num z) n h = none n h
  in_parts (Chars s) n h = none n h
  in_parts (Ref r) n h = none n h
  in_parts (Array p) n h = none n h
  in_parts (Parts vs) n h = h

  in_first : (vs : Values) → Sub (references (first_in vs)) (all_references vs)
  in_first NoValues n h = none n h
  in_first (MoreValues v vs) n h = left (references v) (all_references vs) n h

  in_rest : (vs : Values) → Sub (all_references (rest_in vs)) (all_references vs)
  in_rest NoValues n h = none n h
  in_rest (MoreValues v vs) n h = right (references v) (all_references vs) n h

  in_ref : (v : Value) → Sub (name_of v ∷ []) (references v)
  in_ref (Num z) n h = nil_names n h
  in_ref (Chars s) n h = nil_names n h
  in_ref (Ref r) n h = h
  in_ref (Array p) n h = nil_names n h
  in_ref (Parts vs) n h = nil_names n h

  in_array : (v : Value) → Sub (array_named (part_of v) ∷ []) (references v)
  in_array (Num z) n h = nil_names n h
  in_array (Chars s) n h = nil_names n h
  in_array (Ref r) n h = nil_names n h
  in_array (Array p) n h = h
  in_array (Parts vs) n h = nil_names n h

  mutual
    pub in_formed : (t : Ty) (v : Value) → Sub (references (formed adt t v)) (references v)
    in_formed ty.Byte v n h = none n h
    in_formed ty.Int v n h = none n h
    in_formed ty.Big v n h = none n h
    in_formed ty.Chars v n h = none n h
    in_formed ty.Nothing v n h = none n h
    in_formed ty.Nil v n h = in_ref v n h
    in_formed (ty.ArrayOf t) v n h = in_array v n h
    in_formed (ty.ListOf t) v n h = in_ref v n h
    in_formed (ty.ChanOf t) v n h = in_ref v n h
    in_formed (ty.Tuple ts) v n h = in_parts v n (in_all_formed ts (parts_of v) n h)
    in_formed (ty.Adt k) v n h = adts k v n h
    in_formed (ty.RefAdt k) v n h = in_ref v n h
    in_formed (ty.RefPick k j) v n h = in_ref v n h
    in_formed (ty.Module k) v n h = in_ref v n h

    pub in_all_formed : (ts : Tys) (vs : Values) → Sub (all_references (all_formed adt ts vs)) (all_references vs)
    in_all_formed NoTys vs n h = none n h
    in_all_formed (MoreTys t ts) vs n h =
        elim (either (references (formed adt t (first_in vs))) (all_references (all_formed adt ts (rest_in vs))) n h) [
          | inl y ↦ in_first vs n (in_formed t (first_in vs) n y)
          | inr y ↦ in_rest vs n (in_all_formed ts (rest_in vs) n y)
        ]

by_some_def : (adt : ℕ → Value → Value) → ((k : ℕ) (v : Value) → Sub (references (adt k v)) (references v)) → (o : Option Def) (v : Value)
    → Sub (references (by_def (formed adt) (all_formed adt) o v)) (references v)
by_some_def adt adts None v n h = none n h
by_some_def adt adts (Some def) v n h = in_parts adt adts v n (in_all_formed adt adts (tys_of (parts def)) (parts_of v) n h)

in_adt : (defs : List Def) (depth k : ℕ) (v : Value) → Sub (references (adt_formed defs depth k v)) (references v)
in_adt defs zero k v n h = none n h
in_adt defs (suc d) k v n h = by_some_def (adt_formed defs d) (in_adt defs d) (slice_get defs k) v n h

pub in_fitted : (defs : List Def) (t : Ty) (v : Value) → Sub (references (fitted defs t v)) (references v)
in_fitted defs t v = in_formed (adt_formed defs (length defs)) (in_adt defs (length defs)) t v

pub zero_names : {A : Type 0} (defs : List Def) (t : Ty) (n : ℕ) → Name (references (fitted defs t nothing)) n → A
zero_names defs t n h = none n (in_fitted defs t nothing n h)

-- ---- parts of values

pub in_value_part : (k : ℕ) (vs : Values) → Sub (references (value_part k vs)) (all_references vs)
in_value_part zero NoValues n h = none n h
in_value_part zero (MoreValues v vs) n h = left (references v) (all_references vs) n h
in_value_part (suc k) NoValues n h = in_value_part k NoValues n h
in_value_part (suc k) (MoreValues v vs) n h = right (references v) (all_references vs) n (in_value_part k vs n h)

pub in_the_parts : (v : Value) → Sub (all_references (parts_of v)) (references v)
in_the_parts v = in_parts (λ k v. nothing) (λ k v n h. none n h) v

pub in_the_array : (v : Value) → Sub (array_named (part_of v) ∷ []) (references v)
in_the_array v = in_array (λ k v. nothing) (λ k v n h. none n h) v

pub in_the_name : (v : Value) → Sub (name_of v ∷ []) (references v)
in_the_name v = in_ref (λ k v. nothing) (λ k v n h. none n h) v

pub in_part : (ns : List ℕ) (v : Value) → Sub (references (part_at ns v)) (references v)
in_part [] v n h = h
in_part (k ∷ ns) v n h = in_the_parts v n (in_value_part k (parts_of v) n (in_part ns (value_part k (parts_of v)) n h))

in_put : (k : ℕ) (v : Value) (us : Values) → Sub (all_references (put_part k v us)) (references v ++ all_references us)
in_put k v NoValues n h = none n h
in_put zero v (MoreValues u us) n h = elim (either (references v) (all_references us) n h) [
  | inl y ↦ left (references v) (references u ++ all_references us) n y
  | inr y ↦ right (references v) (references u ++ all_references us) n (right (references u) (all_references us) n y)
]
in_put (suc k) v (MoreValues u us) n h = elim (either (references u) (all_references (put_part k v us)) n h) [
  | inl y ↦ right (references v) (references u ++ all_references us) n (left (references u) (all_references us) n y)
  | inr y ↦ elim (either (references v) (all_references us) n (in_put k v us n y)) [
    | inl z ↦ left (references v) (references u ++ all_references us) n z
    | inr z ↦ right (references v) (references u ++ all_references us) n (right (references u) (all_references us) n z)
  ]
]

pub in_with_part : (ns : List ℕ) (v u : Value) (n : ℕ) → Name (references (with_part ns v u)) n
    → Name (references v) n ⊎ Name (references u) n
in_with_part [] v u n h = inl h
in_with_part (k ∷ ns) v u n h =
    elim (either (references (with_part ns v (value_part k (parts_of u)))) (all_references (parts_of u)) n
    (in_put k (with_part ns v (value_part k (parts_of u))) (parts_of u) n h)) [
      | inl y ↦ elim (in_with_part ns v (value_part k (parts_of u)) n y) [
        | inl z ↦ inl z
        | inr z ↦ inr (in_the_parts u n (in_value_part k (parts_of u) n z))
      ]
      | inr y ↦ inr (in_the_parts u n y)
    ]

-- ---- adts, and elements over others

blanks : {A : Type 0} (k n : ℕ) → Name (references_in (replicate k nothing)) n → A
blanks k n h = none n (in_copies k nothing n h)

pub in_adt_parts : (d : Option Def) (v : Option ℕ) (vs : List Value) → Sub (references_in (adt_parts d v vs)) (references_in vs)
in_adt_parts (Some d) (Some v) vs n h =
    let k = length d.fields in
    let b = length (variant_types (take v d.picks)) in
    elim (in_both (take k vs) (replicate b nothing ++ drop k vs) n h) [
      | inl y ↦ in_take k vs n y
      | inr y ↦ elim (in_both (replicate b nothing) (drop k vs) n y) [ inl z ↦ blanks b n z | inr z ↦ in_drop k vs n z ]
    ]
in_adt_parts None v vs n h = h
in_adt_parts (Some d) None vs n h = h

pub in_overwritten : (xs : List Value) (i : ℕ) (ys : List Value) (n : ℕ) → Name (references_in (overwritten xs i ys)) n
    → Name (references_in xs) n ⊎ Name (references_in ys) n
in_overwritten xs i ys n h = elim (in_both (take i xs) (ys ++ drop (i + length ys) xs) n h) [
  | inl y ↦ inl (in_take i xs n y)
  | inr y ↦ elim (in_both ys (drop (i + length ys) xs) n y) [ inl z ↦ inr z | inr z ↦ inl (in_drop (i + length ys) xs n z) ]
]
