-- Adts that are found, one after the other.
use Rattle.std.proofs.Common.{◌≡◌, ℕ, zero, suc, ◌+◌, ◌<◌, ◌≤◌, ◌⊎◌, inl, inr, Bool, true, false, List, [], ◌∷◌, ◌++◌, length, get_or, map, replicate, Option, Some, None, Vec, Global, refl, sym, ap, subst, ◌∙◌, arith, append_assoc}
use Rattle.std.proofs.Math.ListN.{set}
use Rattle.std.specs.Prelude.{slice_get}
use Rattle.std.proofs.lemmas.List.{length-set, length-append, length-replicate, append-nil}
use Rattle.std.proofs.lemmas.Option.{slice_get_within}
use Rattle.limbo_types.specs.declared.ty.Ty as code_ty
use Rattle.limbo_types.specs.Types.{Ty}
use Rattle.limbo_types.specs.View.{view_ty, view_tys}
use Rattle.limbo_layout.specs.declared.def.Field as code_field
use Rattle.limbo_layout.specs.declared.def.Variant as code_variant
use Rattle.limbo_layout.specs.Adts.{Def, Has, types_of, variant_types, field_types}
use Rattle.limbo_layout.specs.View.{view_fields, view_variant}
use Rattle.limbo_layout.proofs.Rooms.{has_left, has_right, has_cases}
use Rattle.limbo_adts.specs.Closed.{named, all_named, named_in, NamesOnly, Walk, stays, walks, row_of, rows, IsClosed, IsAt, unmarked, Visited, Searches}

-- ---- marks

none_at : (n k : ℕ) → IsAt (replicate n false) k true → ⊥
none_at zero k h = absurd cc
none_at (suc n) zero h = absurd cc
none_at (suc n) (suc k) h = none_at n k h

none_marked : (n : ℕ) → unmarked (replicate n false) ≡ n
none_marked zero = refl
none_marked (suc n) = let i = none_marked n in omega arith

false_at : (n k : ℕ) → k < n → IsAt (replicate n false) k false
false_at zero k l = absurd (omega arith)
false_at (suc n) zero l = refl
false_at (suc n) (suc k) l = false_at n k (omega arith)

set_same : (ms : List Bool) (a : ℕ) → a < length ms → IsAt (set ms a true) a true
set_same [] a h = absurd (omega arith)
set_same (m ∷ ms) zero h = refl
set_same (m ∷ ms) (suc a) h = set_same ms a (omega arith)

set_keeps : (ms : List Bool) (a k : ℕ) → IsAt ms k true → IsAt (set ms a true) k true
set_keeps [] a k h = absurd cc
set_keeps (m ∷ ms) zero zero h = refl
set_keeps (m ∷ ms) zero (suc k) h = h
set_keeps (m ∷ ms) (suc a) zero h = h
set_keeps (m ∷ ms) (suc a) (suc k) h = set_keeps ms a k h

set_cases : (ms : List Bool) (a k : ℕ) → IsAt (set ms a true) k true → IsAt ms k true ⊎ (k ≡ a)
set_cases [] a k h = absurd cc
set_cases (m ∷ ms) zero zero h = inr refl
set_cases (m ∷ ms) zero (suc k) h = inl h
set_cases (m ∷ ms) (suc a) zero h = inl h
set_cases (m ∷ ms) (suc a) (suc k) h = elim (set_cases ms a k h) [
  | inl e ↦ inl e
  | inr e ↦ inr (ap suc e)
]

set_count : (ms : List Bool) (a : ℕ) → IsAt ms a false → unmarked (set ms a true) + 1 ≡ unmarked ms
set_count [] a h = absurd cc
set_count (m ∷ ms) zero h = let e : m ≡ false = cc in rw e (omega arith)
set_count (m ∷ ms) (suc a) h = let r = set_count ms a h in omega arith

push_old : (q : List ℕ) (x i k : ℕ) → IsAt q i k → IsAt (q ++ (x ∷ [])) i k
push_old [] x i k h = absurd cc
push_old (y ∷ q) x zero k h = h
push_old (y ∷ q) x (suc i) k h = push_old q x i k h

push_new : (q : List ℕ) (x : ℕ) → IsAt (q ++ (x ∷ [])) (length q) x
push_new [] x = refl
push_new (y ∷ q) x = push_new q x

push_cases : (q : List ℕ) (x i k : ℕ) → IsAt (q ++ (x ∷ [])) i k → IsAt q i k ⊎ (k ≡ x)
push_cases [] x zero k h = inr cc
push_cases [] x (suc i) k h = absurd cc
push_cases (y ∷ q) x zero k h = inl h
push_cases (y ∷ q) x (suc i) k h = push_cases q x i k h

at_or : (i j : ℕ) → i < j + 1 → (i < j) ⊎ (i ≡ j)
at_or i j h = grind arith

at_has : (xs : List ℕ) (i k : ℕ) → IsAt xs i k → Has xs k
at_has [] i k h = absurd cc
at_has (x ∷ xs) zero k h = inl cc
at_has (x ∷ xs) (suc i) k h = inr (at_has xs i k h)

has_at : (xs : List ℕ) (k : ℕ) → Has xs k → (i : ℕ) × IsAt xs i k
has_at [] k h = absurd h
has_at (x ∷ xs) k (inl e) = (0, ap Some e)
has_at (x ∷ xs) k (inr h) = let j = has_at xs k h in (suc j.0, j.1)

-- ---- what visiting changes

pub visited_none : (ms : List Bool) (q : List ℕ) → Visited [] ms q ms q
visited_none ms q = record {
  same_length = refl;
  keeps = λ k h. h;
  only = λ k h. inl h;
  all = λ k h l. absurd h;
  stay = λ i k h. h;
  longer = omega arith;
  found = λ k h. inl h;
  marked = λ i k h. inl h;
  count = refl;
}

pub visited_more : (xs ys : List ℕ) (o m n : List Bool) (b q a : List ℕ) → Visited xs o b m q → Visited ys m q n a → Visited (xs ++ ys) o b n a
visited_more xs ys o m n b q a v w = record {
  same_length = w.same_length ∙ v.same_length;
  keeps = λ k h. w.keeps k (v.keeps k h);
  only = λ k h. elim (w.only k h) [
    | inl i ↦ elim (v.only k i) [
      | inl j ↦ inl j
      | inr j ↦ inr (has_left xs ys k j)
    ]
    | inr i ↦ inr (has_right xs ys k i)
  ];
  all = λ k h l. elim (has_cases xs ys k h) [
    | inl i ↦ w.keeps k (v.all k i l)
    | inr i ↦ w.all k i (let s = v.same_length in omega arith)
  ];
  stay = λ i k h. w.stay i k (v.stay i k h);
  longer = let c = v.longer in let d = w.longer in omega arith;
  found = λ k h. elim (w.found k h) [
    | inl i ↦ elim (v.found k i) [
      | inl j ↦ inl j
      | inr j ↦ inr (j.0, w.stay j.0 k j.1)
    ]
    | inr i ↦ inr i
  ];
  marked = λ i k h. elim (w.marked i k h) [
    | inl j ↦ elim (v.marked i k j) [
      | inl e ↦ inl e
      | inr e ↦ inr (w.keeps k e)
    ]
    | inr j ↦ inr j
  ];
  count = w.count ∙ v.count;
}

pub visited_new : (ms : List Bool) (q : List ℕ) (n : ℕ) → IsAt ms n false → Visited (n ∷ []) ms q (set ms n true) (q ++ (n ∷ []))
visited_new ms q n f =
    let l = slice_get_within ms n false f in
    record {
      same_length = length-set ms n true;
      keeps = λ k h. set_keeps ms n k h;
      only = λ k h. elim (set_cases ms n k h) [
        | inl i ↦ inl i
        | inr i ↦ inr (inl (sym i))
      ];
      all = λ k h i. elim h [
        | inl e ↦ subst (λ (z : ℕ). IsAt (set ms n true) z true) e (set_same ms n l)
        | inr e ↦ absurd e
      ];
      stay = λ i k h. push_old q n i k h;
      longer = simp length-append (omega arith);
      found = λ k h. elim (set_cases ms n k h) [
        | inl i ↦ inl i
        | inr i ↦ inr (length q, push_new q n ∙ ap Some (sym i))
      ];
      marked = λ i k h. elim (push_cases q n i k h) [
        | inl j ↦ inl j
        | inr j ↦ inr (subst (λ (z : ℕ). IsAt (set ms n true) z true) (sym j) (set_same ms n l))
      ];
      count = let d = set_count ms n f in simp length-append (omega arith);
    }

pub visited_known : (ms : List Bool) (q : List ℕ) (n : ℕ) → (IsAt ms n false → ⊥) → Visited (n ∷ []) ms q ms q
visited_known ms q n f = record {
  same_length = refl;
  keeps = λ k h. h;
  only = λ k h. inl h;
  all = λ k h l. elim h [
    | inl e ↦ subst (λ (z : ℕ). IsAt ms z true) e (is_true ms n (omega arith) f)
    | inr e ↦ absurd e
  ];
  stay = λ i k h. h;
  longer = omega arith;
  found = λ k h. inl h;
  marked = λ i k h. inl h;
  count = refl;
}
  where
    is_true : (ms : List Bool) (n : ℕ) → n < length ms → (IsAt ms n false → ⊥) → IsAt ms n true
    is_true [] n l f = absurd (omega arith)
    is_true (true ∷ ms) zero l f = refl
    is_true (false ∷ ms) zero l f = absurd (f refl)
    is_true (m ∷ ms) (suc n) l f = is_true ms n (omega arith) f

-- ---- one element more

named_in-append : (ts us : List Ty) → named_in (ts ++ us) ≡ named_in ts ++ named_in us
named_in-append [] us = refl
named_in-append (t ∷ ts) us = ap (λ ns. named t ++ ns) (named_in-append ts us) ∙ sym (append_assoc (named t) (named_in ts) (named_in us))

pub tuple-push : (ts : List code_ty.Ty) (t : code_ty.Ty) → all_named (view_tys (ts ++ (t ∷ []))) ≡ all_named (view_tys ts) ++ named (view_ty t)
tuple-push [] t = append-nil (named (view_ty t))
tuple-push (x ∷ ts) t = ap (λ ns. named (view_ty x) ++ ns) (tuple-push ts t) ∙ sym (append_assoc (named (view_ty x)) (all_named (view_tys ts)) (named (view_ty t)))

pub fields-push : (fs : List code_field.Field) (f : code_field.Field) → named_in (types_of (view_fields (fs ++ (f ∷ [])))) ≡ named_in (types_of (view_fields fs)) ++ named (view_ty f.ty)
fields-push [] f = append-nil (named (view_ty f.ty))
fields-push (x ∷ fs) f = ap (λ ns. named (view_ty x.ty) ++ ns) (fields-push fs f) ∙ sym (append_assoc (named (view_ty x.ty)) (named_in (types_of (view_fields fs))) (named (view_ty f.ty)))

variant_types-push : (vs : List code_variant.Variant) (v : code_variant.Variant) → variant_types (map view_variant (vs ++ (v ∷ []))) ≡ variant_types (map view_variant vs) ++ types_of (view_fields v.fields.items)
variant_types-push [] v = append-nil (types_of (view_fields v.fields.items))
variant_types-push (w ∷ vs) v =
    ap (λ ts. types_of (view_fields w.fields.items) ++ ts) (variant_types-push vs v) ∙ sym (append_assoc (types_of (view_fields w.fields.items)) (variant_types (map view_variant vs)) (types_of (view_fields v.fields.items)))

pub variants-push : (vs : List code_variant.Variant) (v : code_variant.Variant) → named_in (variant_types (map view_variant (vs ++ (v ∷ [])))) ≡ named_in (variant_types (map view_variant vs)) ++ named_in (types_of (view_fields v.fields.items))
variants-push vs v = ap named_in (variant_types-push vs v) ∙ named_in-append (variant_types (map view_variant vs)) (types_of (view_fields v.fields.items))

pub named_fields : (d : Def) → named_in (field_types d) ≡ named_in (types_of d.fields) ++ named_in (variant_types d.picks)
named_fields d = named_in-append (types_of d.fields) (variant_types d.picks)

-- ---- the search from one adt

same_at : (q p : List ℕ) (i k : ℕ) → i < length q → ((j m : ℕ) → IsAt q j m → IsAt p j m) → IsAt p i k → IsAt q i k
same_at q p i k l f h = go (slice_get q i) refl
  where
    there : (xs : List ℕ) (i : ℕ) → i < length xs → slice_get xs i ≡ None → ⊥
    there [] i l e = absurd (omega arith)
    there (x ∷ xs) zero l e = absurd cc
    there (x ∷ xs) (suc i) l e = there xs i (omega arith) e

    go : (o : Option ℕ) → slice_get q i ≡ o → IsAt q i k
    go None e = absurd (there q i l e)
    go (Some m) e = let g : slice_get p i ≡ Some m = f i m e in let w : m ≡ k = cc in e ∙ ap Some w

pub search_more : (defs : List Def) (from : ℕ) (d : Def) (at next : ℕ) (ms ns : List Bool) (q p : List ℕ) → NamesOnly defs → IsAt q next at → slice_get defs at ≡ Some d → Visited (named_in (field_types d)) ms q ns p
    → Searches defs from ms q next → Searches defs from ns p (next + 1)
search_more defs from d at next ms ns q p o h e v w = record {
  same_length = v.same_length ∙ w.same_length;
  first = v.keeps from w.first;
  walks = λ k m. elim (v.only k m) [
    | inl a ↦ w.walks k a
    | inr a ↦ walks from at k (w.walks at (w.marked next at h)) (record { def = d; there = e; has = a })
  ];
  done = λ i k m l a n. elim (at_or i next l) [
    | inl b ↦ let c = w.within in v.keeps m (w.done i k m b (same_at q p i k (omega arith) v.stay a) n)
    | inr b ↦
        let g = v.stay next at h in
        let f : k ≡ at = let u = rw b at a in cc in
        let x : slice_get defs at ≡ Some n.def = subst (λ (z : ℕ). slice_get defs z ≡ Some n.def) f n.there in
        let y : n.def ≡ d = cc in
        v.all m (subst (λ (z : Def). Has (named_in (field_types z)) m) y n.has) (let s = w.same_length in let t = o k m n in omega arith)
  ];
  queued = λ k m. elim (v.found k m) [
    | inl a ↦ let b = w.queued k a in (b.0, v.stay b.0 k b.1)
    | inr a ↦ a
  ];
  marked = λ i k a. elim (v.marked i k a) [
    | inl b ↦ v.keeps k (w.marked i k b)
    | inr b ↦ b
  ];
  within = let a = slice_get_within q next at h in let l = v.longer in omega arith;
  count = v.count ∙ w.count;
}

reached : (defs : List Def) (from : ℕ) (ms : List Bool) (q : List ℕ) (next : ℕ) → length q ≤ next → Searches defs from ms q next → (k : ℕ) → Walk defs from k → IsAt ms k true
reached defs _ ms q next l w _ (stays n) = w.first
reached defs _ ms q next l w _ (walks n m k h e) =
    let i = w.queued m (reached defs n ms q next l w m h) in
    let j = slice_get_within q i.0 m i.1 in
    w.done i.0 m k (omega arith) i.1 e

pub search_done : (defs : List Def) (from : ℕ) (ms : List Bool) (q : List ℕ) (next : ℕ) → length q ≤ next → Searches defs from ms q next → IsClosed defs from q
search_done defs from ms q next l w = record {
  sound = λ k h. let i = has_at q k h in w.walks k (w.marked i.0 k i.1);
  whole = λ k h. let i = w.queued k (reached defs from ms q next l w k h) in at_has q i.0 k i.1;
}

pub search_begun : (defs : List Def) (from : ℕ) (ms : List Bool) (q : List ℕ) → ms ≡ set (replicate (length defs) false) from true → q ≡ from ∷ [] → from < length defs → Searches defs from ms q 0
search_begun defs from ms q e f l = rw (e, f) (record {
  same_length = length-set (replicate (length defs) false) from true ∙ length-replicate (length defs) false;
  first = set_same (replicate (length defs) false) from (simp length-replicate l);
  walks = λ k h. elim (set_cases _ from k h) [
    | inl a ↦ absurd (none_at (length defs) k a)
    | inr a ↦ subst (λ (z : ℕ). Walk defs from z) (sym a) (stays from)
  ];
  done = λ i k m h a n. absurd (omega arith);
  queued = λ k h. elim (set_cases _ from k h) [
    | inl a ↦ absurd (none_at (length defs) k a)
    | inr a ↦ (0, ap Some (sym a))
  ];
  marked = λ i k h. one i k h;
  within = omega arith;
  count = let c = set_count (replicate (length defs) false) from (false_at (length defs) from l) in let n = none_marked (length defs) in omega arith;
})
  where
    one : (i k : ℕ) → IsAt (from ∷ []) i k → IsAt (set (replicate (length defs) false) from true) k true
    one zero k h = let g : from ≡ k = cc in subst (λ (z : ℕ). IsAt (set (replicate (length defs) false) from true) z true) g (set_same (replicate (length defs) false) from (simp length-replicate l))
    one (suc i) k h = absurd cc

-- ---- the rows

pub row_old : (vs : List (Vec ℕ Global)) (v : Vec ℕ Global) (n : ℕ) → n < length vs → row_of (rows (vs ++ (v ∷ []))) n ≡ row_of (rows vs) n
row_old [] v n l = absurd (omega arith)
row_old (w ∷ vs) v zero l = refl
row_old (w ∷ vs) v (suc n) l = row_old vs v n (omega arith)

pub row_new : (vs : List (Vec ℕ Global)) (v : Vec ℕ Global) → row_of (rows (vs ++ (v ∷ []))) (length vs) ≡ v.items
row_new [] v = refl
row_new (w ∷ vs) v = row_new vs v

pub rows-length : (vs : List (Vec ℕ Global)) → length (rows vs) ≡ length vs
rows-length [] = refl
rows-length (v ∷ vs) = let i = rows-length vs in omega arith

pub is_unmarked : (ms : List Bool) (n : ℕ) → get_or ms n true ≡ false → IsAt ms n false
is_unmarked [] n e = absurd cc
is_unmarked (m ∷ ms) zero e = ap Some e
is_unmarked (m ∷ ms) (suc n) e = is_unmarked ms n e

pub not_unmarked : (ms : List Bool) (n : ℕ) → get_or ms n true ≡ true → IsAt ms n false → ⊥
not_unmarked [] n e h = absurd cc
not_unmarked (m ∷ ms) zero e h = let f : m ≡ false = cc in let g : m ≡ true = e in cc
not_unmarked (m ∷ ms) (suc n) e h = not_unmarked ms n e h

pub here : (xs : List ℕ) (i x : ℕ) → i < length xs → x ≡ get_or xs i x → IsAt xs i x
here [] i x l e = absurd (omega arith)
here (y ∷ ys) zero x l e = ap Some (sym e)
here (y ∷ ys) (suc i) x l e = here ys i x (omega arith) e

pub rows_more : (defs : List Def) (vs : List (Vec ℕ Global)) (v : Vec ℕ Global) (number : ℕ) → length vs ≡ number → ((n : ℕ) → n < number → IsClosed defs n (row_of (rows vs) n)) → IsClosed defs number v.items
    → (n : ℕ) → n < number + 1 → IsClosed defs n (row_of (rows (vs ++ (v ∷ []))) n)
rows_more defs vs v number l k c n h = elim (at_or n number h) [
  | inl a ↦ subst (λ (z : List ℕ). IsClosed defs n z) (sym (row_old vs v n (omega arith))) (k n a)
  | inr e ↦
      let f : length vs ≡ n = l ∙ sym e in
      let g : row_of (rows (vs ++ (v ∷ []))) n ≡ v.items = ap (λ z. row_of (rows (vs ++ (v ∷ []))) z) (sym f) ∙ row_new vs v in
      subst (λ (z : List ℕ). IsClosed defs n z) (sym g) (subst (λ (z : ℕ). IsClosed defs z v.items) (sym e) c)
]

pub row_at : (vs : List (Vec ℕ Global)) (n : ℕ) (v : Vec ℕ Global) → n < length vs → v ≡ get_or vs n v → row_of (rows vs) n ≡ v.items
row_at [] n v l e = absurd (omega arith)
row_at (w ∷ vs) zero v l e = ap (λ x. x.items) (sym e)
row_at (w ∷ vs) (suc n) v l e = row_at vs n v (omega arith) e

pub row_past : (vs : List (Vec ℕ Global)) (n : ℕ) → length vs ≤ n → row_of (rows vs) n ≡ []
row_past [] n l = refl
row_past (w ∷ vs) zero l = absurd (omega arith)
row_past (w ∷ vs) (suc n) l = row_past vs n (omega arith)
