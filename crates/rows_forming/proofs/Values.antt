-- What is put together of operands and one more: it is as before, with that operand as a part that was zero; so it names what they name.
use Rattle.std.proofs.Common.{◌≡◌, ◌⊎◌, ℕ, zero, suc, ◌+◌, ◌-◌, ◌<◌, ◌≤◌, ◌&&◌, Bool, true, false, List, [], ◌∷◌, ◌++◌, length, take, Option, Some}
use Rattle.std.proofs.Common.{refl, sym, ap, ◌∙◌, subst, arith, inl, inr, if◌then◌else◌, lt-ltb}
use Rattle.std.specs.Prelude.{slice_get, slice_index_or, nat_eq, nat_le, nat_lt}
use Rattle.std.proofs.lemmas.Bool.Decides.{eqb_tells}
use Rattle.std.proofs.lemmas.Bool.{le-leb}
use Rattle.limbo_types.specs.Types as ty
use Rattle.limbo_types.specs.Types.{Ty}
use Rattle.limbo_layout.specs.Adts.{Def, Has}
use Rattle.limbo_meaning.specs.Values.{Value, Values, NoValues, MoreValues, Parts, parts_of, references, all_references, among}
use Rattle.limbo_meaning.specs.Values.{one}
use Rattle.limbo_meaning.specs.Places.{value_part, put_part}
use Rattle.limbo_layout.specs.Adts.{parts, listed}
use Rattle.limbo_layout.specs.Layout.{nothing}
use Rattle.limbo_typed.specs.Fitting.{HasPart}
use Rattle.limbo_values.specs.declared.number.Kind.TheVariants as kind
use Rattle.limbo_meaning.specs.Values.{row, fitted, all_fitted}
use Rattle.core_code.specs.Terms.{Moved, is_moved, part_types, parts_there, count_of, count_all}
use Rattle.core_follows.proofs.Given.{counted}
use Rattle.core_typing.specs.Held as held
use Rattle.dis_meaning.specs.Words.{Word}
use Rattle.value_words.specs.Facts.{Facts}
use Rattle.value_words.specs.Stands.{Stands, a_number, a_text, a_name, an_array, no_words, a_tuple, an_adt}
use Rattle.value_words.proofs.Rows.{below}
use Rattle.value_words.proofs.Wholes.{all_whole}
use Rattle.value_moves.proofs.Changing.{low_or_high}
use Rattle.value_frames.specs.Forming.{formed}
use Rattle.value_follows.proofs.RootedValues.{among_join, one_names}

-- ---- one operand more

pub formed_more : (w : Value) (ks : List ℕ) (vs : List Value) (k : ℕ) (v : Value) → length ks ≡ length vs
    → formed w (ks ++ k ∷ []) (vs ++ v ∷ []) ≡ Parts (put_part k v (parts_of (formed w ks vs)))
formed_more w [] [] k v e = refl
formed_more w [] (u ∷ vs) k v e = absurd (omega (arith, e))
formed_more w (j ∷ ks) [] k v e = absurd (omega (arith, e))
formed_more w (j ∷ ks) (u ∷ vs) k v e = formed_more (Parts (put_part j u (parts_of w))) ks vs k v (omega (arith, e))

-- ---- parts where no operand is are as they were

other_part : (j k : ℕ) (v : Value) (ws : Values) → (j ≡ k → ⊥) → value_part k (put_part j v ws) ≡ value_part k ws
other_part zero zero v ws ne = absurd (ne refl)
other_part zero (suc k) v NoValues ne = refl
other_part zero (suc k) v (MoreValues u us) ne = refl
other_part (suc j) zero v NoValues ne = refl
other_part (suc j) zero v (MoreValues u us) ne = refl
other_part (suc j) (suc k) v NoValues ne = refl
other_part (suc j) (suc k) v (MoreValues u us) ne = other_part j k v us (λ e. ne (ap suc e))

pub still_there : (w : Value) (ks : List ℕ) (vs : List Value) (k : ℕ) → (Has ks k → ⊥)
    → value_part k (parts_of (formed w ks vs)) ≡ value_part k (parts_of w)
still_there w [] vs k new = refl
still_there w (j ∷ ks) [] k new = refl
still_there w (j ∷ ks) (u ∷ vs) k new =
    still_there (Parts (put_part j u (parts_of w))) ks vs k (λ h. new (inr h)) ∙ other_part j k u (parts_of w) (λ e. new (inl e))

-- ---- names

pub part_names : (n k : ℕ) (ws : Values) → among n (references (value_part k ws)) ≤ among n (all_references ws)
part_names n zero NoValues = omega arith
part_names n (suc k) NoValues = part_names n k NoValues
part_names n zero (MoreValues u us) = let a = among_join n (references u) (all_references us) in omega (arith, a)
part_names n (suc k) (MoreValues u us) =
    let a = among_join n (references u) (all_references us) in let h = part_names n k us in omega (arith, a, h)

pub parts_name : (n : ℕ) (v : Value) → among n (all_references (parts_of v)) ≤ among n (references v)
parts_name n (Parts vs) = omega arith
parts_name n v = omega arith

-- a part that is put where one names nothing names what it does
pub put_names : (n k : ℕ) (v : Value) (ws : Values) → among n (references (value_part k ws)) ≡ 0
    → (put : Values) → put ≡ put_part k v ws → among n (all_references put) ≤ among n (all_references ws) + among n (references v)
put_names n k v NoValues none put e = ap_none (put_none k) e
  where
    put_none : (k : ℕ) → put_part k v NoValues ≡ NoValues
    put_none zero = refl
    put_none (suc k) = refl

    ap_none : put_part k v NoValues ≡ NoValues → put ≡ put_part k v NoValues → among n (all_references put) ≤ among n (all_references NoValues) + among n (references v)
    ap_none f g = let h = ap (λ (us : Values). among n (all_references us)) (g ∙ f) in omega (arith, h)
put_names n zero v (MoreValues u us) none put e =
    let h = ap (λ (us : Values). among n (all_references us)) e in
    let a = among_join n (references v) (all_references us) in
    let c = among_join n (references u) (all_references us) in
    omega (arith, h, a, c)
put_names n (suc k) v (MoreValues u us) none put e =
    let h = ap (λ (us : Values). among n (all_references us)) e in
    let a = among_join n (references u) (all_references (put_part k v us)) in
    let c = among_join n (references u) (all_references us) in
    let r = put_names n k v us none (put_part k v us) refl in
    omega (arith, h, a, c, r)

-- there is such a part
abbrev pub HasPartAt : ℕ → Values → Type 0
HasPartAt k NoValues = ⊥
HasPartAt zero (MoreValues v vs) = Unit {0}
HasPartAt (suc k) (MoreValues v vs) = HasPartAt k vs

pub put_named : (n k : ℕ) (v : Value) (ws : Values) → among n (references (value_part k ws)) ≡ 0 → HasPartAt k ws
    → among n (all_references ws) + among n (references v) ≤ among n (all_references (put_part k v ws))
put_named n k v NoValues none h = absurd h
put_named n zero v (MoreValues u us) none h =
    let a = among_join n (references v) (all_references us) in
    let c = among_join n (references u) (all_references us) in
    omega (arith, none, a, c)
put_named n (suc k) v (MoreValues u us) none h =
    let a = among_join n (references u) (all_references (put_part k v us)) in
    let c = among_join n (references u) (all_references us) in
    let r = put_named n k v us none h in
    omega (arith, a, c, r)

-- ---- which references may name something

front_get : {A : Type 0} (xs ys : List A) (j : ℕ) → j < length xs → slice_get (xs ++ ys) j ≡ slice_get xs j
front_get [] ys j l = absurd (omega (arith, l))
front_get (x ∷ xs) ys zero l = refl
front_get (x ∷ xs) ys (suc j) l = front_get xs ys j (omega (arith, l))

back_get : {A : Type 0} (xs ys : List A) (j : ℕ) → slice_get (xs ++ ys) (length xs + j) ≡ slice_get ys j
back_get [] ys j = let e : 0 + j ≡ j = omega arith in ap (λ n. slice_get ys n) e
back_get (x ∷ xs) ys j =
    let e : suc (length xs) + j ≡ suc (length xs + j) = omega arith in
    ap (λ n. slice_get (x ∷ (xs ++ ys)) n) e ∙ back_get xs ys j

-- how many references there are in front of a part
abbrev pub before : ℕ → Values → ℕ
before zero ws = 0
before (suc k) NoValues = 0
before (suc k) (MoreValues u us) = length (references u) + before k us

abbrev pub PutOrOld : (k : ℕ) (v : Value) (ws : Values) (j n : ℕ) → Type 0
PutOrOld k v ws j n =
    (slice_get (all_references ws) j ≡ Some (Some n))
    ⊎ ((i : ℕ) × (j ≡ before k ws + i) × (slice_get (references v) i ≡ Some (Some n)))

-- a reference is one of the part that is put, or was there
pub put_or_old : (k : ℕ) (v : Value) (ws : Values) → length (references v) ≡ length (references (value_part k ws)) → HasPartAt k ws → (j n : ℕ)
    → slice_get (all_references (put_part k v ws)) j ≡ Some (Some n) → PutOrOld k v ws j n
put_or_old k v NoValues e h j n f = absurd h
put_or_old zero v (MoreValues u us) e h j n f = elim (low_or_high j (length (references v))) [
  | inl low ↦ inr (j, omega arith, sym (front_get (references v) (all_references us) j low) ∙ f)
  | inr high ↦
      let d : ℕ = j - length (references v) in
      let at : j ≡ length (references v) + d = omega (arith, high) in
      let too : j ≡ length (references u) + d = omega (arith, high, e) in
      let g : slice_get (all_references us) d ≡ Some (Some n) =
      sym (back_get (references v) (all_references us) d) ∙ (ap (slice_get (references v ++ all_references us)) (sym at) ∙ f) in
      inl (ap (slice_get (references u ++ all_references us)) too ∙ (back_get (references u) (all_references us) d ∙ g))
]
put_or_old (suc k) v (MoreValues u us) e h j n f = elim (low_or_high j (length (references u))) [
  | inl low ↦
      inl (front_get (references u) (all_references us) j low
      ∙ (sym (front_get (references u) (all_references (put_part k v us)) j low) ∙ f))
  | inr high ↦
      let d : ℕ = j - length (references u) in
      let at : j ≡ length (references u) + d = omega (arith, high) in
      let g : slice_get (all_references (put_part k v us)) d ≡ Some (Some n) =
      sym (back_get (references u) (all_references (put_part k v us)) d)
      ∙ (ap (slice_get (references u ++ all_references (put_part k v us))) (sym at) ∙ f) in
      elim (put_or_old k v us e h d n g) [
        | inl o ↦ inl (ap (slice_get (references u ++ all_references us)) at ∙ (back_get (references u) (all_references us) d ∙ o))
        | inr o ↦ let i = o.1 in inr (o.0, omega (arith, at, i), o.2)
      ]
]

-- ---- those that move

all_three : (a b c : Bool) → a ≡ true → b ≡ true → c ≡ true → (a && (b && c)) ≡ true
all_three true true true e f g = refl
all_three true true false e f g = absurd cc
all_three true false c e f g = absurd cc
all_three false b c e f g = absurd cc

same_self : (n : ℕ) → nat_eq n n ≡ true
same_self n = elim (eqb_tells n n) [ inl y ↦ y.0 | inr y ↦ absurd (y.1 refl) ]

module _ (v : Moved) where
  is_in : (k : ℕ) → v.first ≤ k → k < v.first + v.count → is_moved v v.slot k ≡ true
  is_in k a b =
      all_three (nat_eq v.slot v.slot) (nat_le v.first k) (nat_lt k (v.first + v.count)) (same_self v.slot) (le-leb v.first k a)
      (lt-ltb k (v.first + v.count) b)

  pub moved_has : (live : List ℕ) (j : ℕ) → j < v.count → held.Has live (v.first + j) → held.Has (held.moved v live) (v.at + j)
  moved_has [] j l h = absurd h
  moved_has (k ∷ ks) j l (inl e) =
      let is = is_in k (omega (arith, e)) (omega (arith, e, l)) in
      subst (λ (b : Bool). held.Has (if b then (v.at + (k - v.first)) ∷ held.moved v ks else held.moved v ks) (v.at + j)) (sym is)
      (inl (omega (arith, e)))
  moved_has (k ∷ ks) j l (inr h) =
      let next = moved_has ks j l h in go (is_moved v v.slot k) next
    where
      go : (b : Bool) → held.Has (held.moved v ks) (v.at + j)
          → held.Has (if b then (v.at + (k - v.first)) ∷ held.moved v ks else held.moved v ks) (v.at + j)
      go true h = inr h
      go false h = h

pub has_more : (ns ms : List ℕ) (k : ℕ) → held.Has ns k → held.Has (ns ++ ms) k
has_more [] ms k h = absurd h
has_more (n ∷ ns) ms k (inl e) = inl e
has_more (n ∷ ns) ms k (inr h) = inr (has_more ns ms k h)

pub has_last : (ns ms : List ℕ) (k : ℕ) → held.Has ms k → held.Has (ns ++ ms) k
has_last [] ms k h = h
has_last (n ∷ ns) ms k h = inr (has_last ns ms k h)

-- ---- parts of values that are whole

module _ (defs : List Def) where
  count_whole : (t : Ty) (v : Value) → v ≡ fitted defs t v → length (references v) ≡ count_of defs t
  count_whole t v e = ap (λ (u : Value). length (references u)) e ∙ counted defs t v

  part_whole : (ts : List Ty) (vs : List Value) (k : ℕ) → vs ≡ all_fitted defs ts vs → k < length ts
      → HasPartAt k (row vs) × (before k (row vs) ≡ count_all defs (take k ts))
      × (length (references (value_part k (row vs))) ≡ count_of defs (slice_index_or ts k ty.Int))
  part_whole [] vs k e l = absurd (omega (arith, l))
  part_whole (t ∷ ts) [] k e l = absurd cc
  part_whole (t ∷ ts) (v ∷ vs) zero e l = let f : v ≡ fitted defs t v = cc in (tt, refl, count_whole t v f)
  part_whole (t ∷ ts) (v ∷ vs) (suc k) e l =
      let f : v ≡ fitted defs t v = cc in
      let g : vs ≡ all_fitted defs ts vs = cc in
      let r = part_whole ts vs k g (omega (arith, l)) in
      let c = count_whole t v f in
      let d = r.1 in
      (r.0, omega (arith, c, d), r.2)

  module _ (facts : Facts) (words : List Word) where
    -- Of what stands for a value of a type with parts: the part is there, so many references are in front of it, and it has so many.
    pub part_stands : (at : ℕ) (t : Ty) (v : Value) (k : ℕ) (u : Ty) → HasPart defs t k u → Stands defs facts words at t v
        → HasPartAt k (parts_of v) × (before k (parts_of v) ≡ count_all defs (take k (part_types defs t)))
        × (length (references (value_part k (parts_of v))) ≡ count_of defs (slice_index_or (part_types defs t) k ty.Int))
    part_stands _ _ _ k u h (a_number at kind.Byte z f i) = absurd h
    part_stands _ _ _ k u h (a_number at kind.Int z f i) = absurd h
    part_stands _ _ _ k u h (a_number at kind.Big z f i) = absurd h
    part_stands _ _ _ k u h (a_text at s r f i) = absurd h
    part_stands _ _ _ k u h (a_name at ty.Nil s n i f g) = absurd h
    part_stands _ _ _ k u h (a_name at (ty.ListOf y) s n i f g) = absurd h
    part_stands _ _ _ k u h (a_name at (ty.ChanOf y) s n i f g) = absurd h
    part_stands _ _ _ k u h (a_name at (ty.RefAdt y) s n i f g) = absurd h
    part_stands _ _ _ k u h (a_name at (ty.RefPick y z) s n i f g) = absurd h
    part_stands _ _ _ k u h (a_name at (ty.Module y) s n i f g) = absurd h
    part_stands _ _ _ k u h (a_name at y s n i f g) = absurd i
    part_stands _ _ _ k u h (an_array at t s p f i) = absurd h
    part_stands _ _ _ k u h (no_words at) = absurd h
    part_stands _ _ _ k u h (a_tuple at ts rs vs l all) =
        part_whole (listed ts) vs k (all_whole defs facts words at nothing (listed ts) rs vs all) (below (listed ts) k u h)
    part_stands _ _ _ k u h (an_adt at n d rs vs f l all) =
        let same : h.0 ≡ d = let z : Some h.0 ≡ Some d = sym h.1 ∙ f in cc in
        let long = below (parts h.0) k u h.2 in
        subst (λ (ts : List Ty). HasPartAt k (row vs) × (before k (row vs) ≡ count_all defs (take k ts))
        × (length (references (value_part k (row vs))) ≡ count_of defs (slice_index_or ts k ty.Int)))
        (sym (ap (parts_there defs) f))
        (part_whole (parts d) vs k (all_whole defs facts words at nothing (parts d) rs vs all)
        (subst (λ (c : Def). k < length (parts c)) same long))

pub inside : {A : Type 0} (xs : List A) (j : ℕ) (a : A) → slice_get xs j ≡ Some a → j < length xs
inside [] j a e = absurd cc
inside (x ∷ xs) zero a e = omega arith
inside (x ∷ xs) (suc j) a e = let l = inside xs j a e in omega (arith, l)

pub named_some : (rs : List (Option ℕ)) (j n : ℕ) → slice_get rs j ≡ Some (Some n) → 0 < among n rs
named_some [] j n e = absurd cc
named_some (r ∷ rs) zero n e =
    let f : r ≡ Some n = cc in
    let g = subst (λ o. 0 < one n o) (sym f) (one_names n) in
    omega (arith, g)
named_some (r ∷ rs) (suc j) n e = let h = named_some rs j n e in omega (arith, h)
