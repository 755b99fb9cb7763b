-- A table with what stands inside one more declaration.
use Rattle.std.proofs.Common.{◌≡◌, ◌<◌, ◌≤◌, ◌+◌, ◌⊎◌, inl, inr, ℕ, zero, suc, List}
use Rattle.std.proofs.Common.{◌++◌, length, map, Option, Some, None, refl, sym, subst, ◌∙◌, arith}
use Rattle.std.specs.Prelude.{slice_get}
use Rattle.std.specs.List.{Contains}
use Rattle.std.proofs.lemmas.Option.{same_Some, slice_get_within}
use Rattle.limbo_declarations.specs.Rows.{Row}
use Rattle.limbo_entries.specs.Entries.{Entry, IsEntry, Stands, IsTable, IsMember, AreOnce, HasTwice, inside, IsAmong}
use Rattle.limbo_entries.specs.Entries as told
use Rattle.limbo_entries.specs.Growing.{IsTableTo}
use Rattle.limbo_entries.proofs.Ordered.{none_yet, one_more, all_of, one_order, two_inside}
use Rattle.limbo_entries.proofs.Lists.{at_left, at_right, at_cases, mapped, from_mapped, contained, place_of}

-- rows where they stand
abbrev pub stand : Option ℕ → Row → Entry
stand scope r = record { within = scope; row = r }

less_or : (j n : ℕ) → j < n + 1 → (j < n) ⊎ (j ≡ n)
less_or j n h = grind arith

pub start : (top : List Row) → IsTableTo top (map (stand None) top) 0
start top = record {
  first = λ k r h. mapped (stand None) top k r h;
  inner = λ j outer r l i c. absurd (omega arith);
  only = λ k e i.
      let f = from_mapped (stand None) top k e i in
      subst (λ (z : Entry). Stands top (map (stand None) top) k z.within z.row) f.2 (told.at_top f.0 f.1);
  ordered = none_yet (map (stand None) top);
}

stands_more :
    (top : List Row) (es more : List Entry) (k : ℕ) (w : Option ℕ) (r : Row) → Stands top es k w r → Stands top (es ++ more) k w r
stands_more top es more k w r (told.at_top q h) = told.at_top q h
stands_more top es more k w r (told.within_other j outer q i l c) = told.within_other j outer q (at_left es more j outer i) l c

-- what stands inside the declaration of a number
abbrev inside_at : ℕ → Entry → List Entry
inside_at n e = map (stand (Some n)) (inside e.row)

pub more :
    (top : List Row) (es : List Entry) (n : ℕ) (e : Entry) → IsTableTo top es n → IsEntry es n e
    → IsTableTo top (es ++ map (stand (Some n)) (inside e.row)) (n + 1)
more top es n e t there = record {
  first = λ k r h. at_left es (inside_at n e) k (stand None r) (t.first k r h);
  inner = λ j outer r l i c. elim (at_cases es (inside_at n e) j outer i) [
    | inl g ↦ elim (less_or j n l) [
      | inl m ↦ let f = t.inner j outer r m g c in (f.0, at_left es (inside_at n e) f.0 (stand (Some j) r) f.1)
      | inr m ↦
          let s : outer ≡ e = same_Some outer e (sym g ∙ subst (λ (z : ℕ). IsEntry es z e) (sym m) there) in
          let p = place_of (inside e.row) r (subst (λ (z : Entry). Contains (inside z.row) r) s c) in
          let q : IsEntry (es ++ inside_at n e) (length es + p.0) (stand (Some n) r) =
          at_right es (inside_at n e) p.0 (length es + p.0) (stand (Some n) r) refl (mapped (stand (Some n)) (inside e.row) p.0 r p.1) in
          (length es + p.0, subst (λ (z : ℕ). IsEntry (es ++ inside_at n e) (length es + p.0) (stand (Some z) r)) (sym m) q)
    ]
    | inr g ↦ absurd (let b = slice_get_within es n e there in let f = g.1 in omega arith)
  ];
  only = λ k x i. elim (at_cases es (inside_at n e) k x i) [
    | inl g ↦ stands_more top es (inside_at n e) k x.within x.row (t.only k x g)
    | inr g ↦
        let f = from_mapped (stand (Some n)) (inside e.row) g.0 x g.2 in
        let b = slice_get_within es n e there in
        let l : n < k = let z = g.1 in omega arith in
        subst (λ (z : Entry). Stands top (es ++ inside_at n e) k z.within z.row) f.2
        (told.within_other n e f.0 (at_left es (inside_at n e) n e there) l (contained (inside e.row) g.0 f.0 f.1))
  ];
  ordered = one_more top es n e there t.ordered;
}

pub whole : (top : List Row) (es : List Entry) (n : ℕ) → IsTableTo top es n → length es ≤ n → IsTable top es
whole top es n t l = record {
  first = t.first;
  inner = λ j outer r i c. t.inner j outer r (let b = slice_get_within es j outer i in omega arith) i c;
  only = t.only;
  ordered = all_of top es n l t.ordered;
}

-- ---- what follows of what stands where

less_than : (top : List Row) (es : List Entry) (k : ℕ) (w : Option ℕ) (r : Row) → Stands top es k w r → (j : ℕ) → w ≡ Some j → j < k
less_than top es k w r (told.at_top q h) j e = absurd cc
less_than top es k w r (told.within_other i outer q g l c) j e = let s : i ≡ j = same_Some i j e in omega arith

pub within_less :
    (top : List Row) (es : List Entry) (k : ℕ) (e : Entry) → Stands top es k e.within e.row → (j : ℕ) → e.within ≡ Some j → j < k
within_less top es k e s j h = less_than top es k e.within e.row s j h

stands_among :
    (top : List Row) (es : List Entry) (k : ℕ) (w : Option ℕ) (r : Row) → Stands top es k w r
    → ((j : ℕ) (e : Entry) → j < k → IsEntry es j e → IsAmong top e.row) → IsAmong top r
stands_among top es k w r (told.at_top q h) f = told.at_top q (contained top k q h)
stands_among top es k w r (told.within_other j outer q i l c) f = told.within_other outer.row q (f j outer l i) c

among_below :
    (top : List Row) (es : List Entry) → ((k : ℕ) (e : Entry) → IsEntry es k e → Stands top es k e.within e.row)
    → (bound k : ℕ) (e : Entry) → k < bound → IsEntry es k e → IsAmong top e.row
among_below top es only zero k e l i = absurd (omega arith)
among_below top es only (suc bound) k e l i =
    stands_among top es k e.within e.row (only k e i) (λ j o m g. among_below top es only bound j o (omega arith) g)

-- what has a number stands at the top level or inside something that does
pub is_among :
    (top : List Row) (es : List Entry) → ((k : ℕ) (e : Entry) → IsEntry es k e → Stands top es k e.within e.row)
    → (k : ℕ) (e : Entry) → IsEntry es k e → IsAmong top e.row
is_among top es only k e i = among_below top es only (k + 1) k e (omega arith) i

pub is_there :
    (top : List Row) (es : List Entry) (r : Row) → IsTable top es → IsAmong top r → (k : ℕ) × (e : Entry) × IsEntry es k e × (e.row ≡ r)
is_there top es r t (told.at_top q c) = let p = place_of top q c in (p.0, stand None q, t.first p.0 q p.1, refl)
is_there top es r t (told.within_other outer q a c) =
    let f = is_there top es outer t a in
    let g = t.inner f.0 f.1 q f.2 (subst (λ (z : Row). Contains (inside z) q) (sym f.3) c) in
    (g.0, stand (Some f.0) q, g.1, refl)

-- ---- one table

pub one : (top : List Row) (es fs : List Entry) → IsTable top es → IsTable top fs → es ≡ fs
one top es fs t u =
    one_order top es fs t.ordered (λ k e i j w. within_less top es k e (t.only k e i) j w) u.ordered
    (λ k e i j w. within_less top fs k e (u.only k e i) j w)

pub not_twice : (top : List Row) (es : List Entry) → IsTable top es → AreOnce es → HasTwice top → ⊥
not_twice top es t once (told.outermost d) =
    let a : IsMember es None d.one.name d.i = record { entry = stand None d.one; there = t.first d.i d.one d.there; stands = refl; named = refl } in
    let b : IsMember es None d.one.name d.j =
    record { entry = stand None d.other; there = t.first d.j d.other d.and_there; stands = refl; named = sym d.same } in
    let e = once None d.one.name d.i d.j a b in
    let l = d.before in
    omega arith
not_twice top es t once (told.inner r a d) =
    let f = is_there top es r t a in
    let p = two_inside top es f.0 f.1 t.ordered f.2 in
    let g : (i : ℕ) (x : Row) → slice_get (inside r) i ≡ Some x → IsEntry es (p.0 + i) (stand (Some f.0) x) =
    λ i x h. p.1 i x (subst (λ (z : Row). slice_get (inside z) i ≡ Some x) (sym f.3) h) in
    let x : IsMember es (Some f.0) d.one.name (p.0 + d.i) =
    record { entry = stand (Some f.0) d.one; there = g d.i d.one d.there; stands = refl; named = refl } in
    let y : IsMember es (Some f.0) d.one.name (p.0 + d.j) =
    record { entry = stand (Some f.0) d.other; there = g d.j d.other d.and_there; stands = refl; named = sym d.same } in
    let e = once (Some f.0) d.one.name (p.0 + d.i) (p.0 + d.j) x y in
    let l = d.before in
    omega arith
