-- The names of a scope, and the declarations from which they come.
use Rattle.std.proofs.Common.{◌≡◌, ◌<◌, ◌≤◌, ◌+◌, ◌==◌, ◌⊎◌, inl, inr, ℕ, zero, suc, Bool, true, false, if◌then◌else◌, List, [], ◌∷◌, ◌++◌, Option, Some, None, length, slice_get, get_or, take, refl, sym, ap, subst, ◌∙◌, append_assoc, rules, tests, arith}
use Rattle.std.specs.Prelude.{IsSome, IsTrue}
use Rattle.std.proofs.Math.ListN.{set, replicate}
use Rattle.std.proofs.lemmas.List.{append-nil}
use Rattle.limbo_scope.specs.declared.meaning.Meaning.{Meaning}
use Rattle.limbo_scope.specs.Scopes.{Scope, declared, declared_here, entered}
use Rattle.limbo_scope.specs.Laws.{declared_all}
use Rattle.limbo_entries.specs.Entries.{Entry, IsEntry, AreOnce, IsMember}
use Rattle.limbo_meanings.specs.Names.{same_scope, listed, here, names_in, scope_inside, AreInner, empty_each, with_name, in_row, with_entry, IsRepeated}
use Rattle.limbo_meanings.proofs.Finding.{IsAmong, found, all_push}
use Rattle.limbo_meanings.proofs.Places.{in_front, take_many}
use Rattle.limbo_meanings.proofs.Counting.{itself, other}

pub some_of : (o : Option Meaning) → IsSome o → (x : Meaning) × (o ≡ Some x)
some_of None h = absurd cc
some_of (Some x) h = (x, refl)

pub same_true : (s t : Option ℕ) → same_scope s t ≡ true → t ≡ s
same_true None None h = refl
same_true None (Some b) h = absurd cc
same_true (Some a) None h = absurd cc
same_true (Some a) (Some b) h = let e : a ≡ b = search (rules, tests, h) in ap Some (sym e)

pub same_here : (s : Option ℕ) → same_scope s s ≡ true
same_here None = refl
same_here (Some a) = itself a

-- a name at the front, or behind it
split : (s : Option ℕ) (e : Entry) (o : Option Meaning) (rest : List (List ℕ × Meaning)) (i : ℕ) (name : List ℕ) (x : Meaning)
    → slice_get (here s e o ++ rest) i ≡ Some (name, x)
    → ((e.within ≡ s) × (e.row.name ≡ name) × (o ≡ Some x)) ⊎ ((j : ℕ) × (slice_get rest j ≡ Some (name, x)))
split s e o rest i name x h = go (same_scope s e.within) refl o refl i h
  where
    go : (b : Bool) → same_scope s e.within ≡ b → (p : Option Meaning) → o ≡ p → (n : ℕ) → slice_get ((if b then listed e.row.name p else []) ++ rest) n ≡ Some (name, x)
        → ((e.within ≡ s) × (e.row.name ≡ name) × (o ≡ Some x)) ⊎ ((j : ℕ) × (slice_get rest j ≡ Some (name, x)))
    go true f None g n h = inr (n, h)
    go true f (Some y) g zero h =
        let p : (e.row.name, y) ≡ (name, x) = cc in
        inl (same_true s e.within f, ap (λ (z : List ℕ × Meaning). z.0) p, g ∙ ap (λ (z : List ℕ × Meaning). Some z.1) p)
    go true f (Some y) g (suc n) h = inr (n, h)
    go false f p g n h = inr (n, h)

shifted : (s : Option ℕ) (e : Entry) (o : Option Meaning) (rest : List (List ℕ × Meaning)) (j : ℕ) (d : List ℕ × Meaning) → slice_get rest j ≡ Some d
    → (i : ℕ) × (slice_get (here s e o ++ rest) i ≡ Some d)
shifted s e o rest j d h = go (same_scope s e.within) o
  where
    go : (b : Bool) (p : Option Meaning) → (i : ℕ) × (slice_get ((if b then listed e.row.name p else []) ++ rest) i ≡ Some d)
    go true None = (j, h)
    go true (Some y) = (suc j, h)
    go false p = (j, h)

-- where a name of a scope comes from
pub names_from : (s : Option ℕ) (xs : List (Option Meaning)) (es : List Entry) (name : List ℕ) (x : Meaning) (i : ℕ) → slice_get (names_in s xs es) i ≡ Some (name, x)
    → (k : ℕ) × (e : Entry) × (slice_get es k ≡ Some e) × (e.within ≡ s) × (e.row.name ≡ name) × (slice_get xs k ≡ Some (Some x))
names_from s [] es name x i h = absurd cc
names_from s (o ∷ xs) [] name x i h = absurd cc
names_from s (o ∷ xs) (e ∷ es) name x i h = elim (split s e o (names_in s xs es) i name x h) [
  | inl y ↦ (0, e, refl, y.0, y.1, ap Some y.2)
  | inr y ↦ let r = names_from s xs es name x y.0 y.1 in (suc r.0, r.1, r.2, r.3, r.4, r.5)
]

-- a declaration with a meaning is among the names of its scope
pub names_to : (s : Option ℕ) (xs : List (Option Meaning)) (es : List Entry) (k : ℕ) (e : Entry) (x : Meaning) → slice_get es k ≡ Some e → e.within ≡ s
    → slice_get xs k ≡ Some (Some x) → IsAmong (names_in s xs es) e.row.name x
names_to s [] es k e x f w h = absurd cc
names_to s (o ∷ xs) [] k e x f w h = absurd cc
names_to s (o ∷ xs) (e' ∷ es) zero e x f w h =
    let p : e' ≡ e = cc in
    let q : o ≡ Some x = cc in
    let b : same_scope s e.within ≡ true = ap (same_scope s) w ∙ same_here s in
    record {
      place = 0;
      there = ap (λ (z : Entry). slice_get (here s z o ++ names_in s xs es) 0) p ∙ ap (λ (z : Option Meaning). slice_get (here s e z ++ names_in s xs es) 0) q
          ∙ ap (λ (z : Bool). slice_get ((if z then listed e.row.name (Some x) else []) ++ names_in s xs es) 0) b;
    }
names_to s (o ∷ xs) (e' ∷ es) (suc k) e x f w h =
    let r = names_to s xs es k e x f w h in
    let t = shifted s e' o (names_in s xs es) r.place (e.row.name, x) r.there in
    record { place = t.0; there = t.1 }

-- ---- one declaration more

pub names_push : (s : Option ℕ) (xs : List (Option Meaning)) (es : List Entry) (o : Option Meaning) (e : Entry) → length xs ≡ length es
    → names_in s (xs ++ (o ∷ [])) (es ++ (e ∷ [])) ≡ names_in s xs es ++ here s e o
names_push s [] [] o e h = append-nil (here s e o)
names_push s [] (f ∷ es) o e h = absurd (omega arith)
names_push s (p ∷ xs) [] o e h = absurd (omega arith)
names_push s (p ∷ xs) (f ∷ es) o e h =
    ap (λ ys. here s f p ++ ys) (names_push s xs es o e (omega arith)) ∙ sym (append_assoc (here s f p) (names_in s xs es) (here s e o))

-- a name that stands in the front of its scope already stands there twice
pub again : (es : List Entry) (xs : List (Option Meaning)) (s : Option ℕ) (i : ℕ) (e : Entry) (x : Meaning) → IsEntry es i e → e.within ≡ s
    → IsAmong (names_in s (take i xs) (take i es)) e.row.name x → AreOnce es → ⊥
again es xs s i e x at w a once =
    let r = names_from s (take i xs) (take i es) e.row.name x a.place a.there in
    let t = in_front es i r.0 r.1 r.2 in
    let same = once s e.row.name r.0 i (record { entry = r.1; there = t.1; stands = r.3; named = r.4 }) (record { entry = e; there = at; stands = w; named = refl }) in
    let l : r.0 < i = t.0 in
    absurd (omega arith)

-- ---- rows

with_cases : (rs : List (List Scope)) (a : ℕ) (name : List ℕ) (x : Meaning) (b : ℕ) (row : List Scope) → slice_get (with_name rs a name x) b ≡ Some row
    → ((b ≡ a) × ((r : List Scope) × (slice_get rs a ≡ Some r) × (declared name x r ≡ row))) ⊎ ((b ≡ a → ⊥) × (slice_get rs b ≡ Some row))
with_cases [] a name x b row h = absurd cc
with_cases (r ∷ rs) zero name x zero row h = let e : declared name x r ≡ row = cc in inl (refl, (r, refl, e))
with_cases (r ∷ rs) zero name x (suc b) row h = inr (λ e. absurd (omega arith), h)
with_cases (r ∷ rs) (suc a) name x zero row h = inr (λ e. absurd (omega arith), h)
with_cases (r ∷ rs) (suc a) name x (suc b) row h = elim (with_cases rs a name x b row h) [
  | inl y ↦ inl (ap suc y.0, y.1)
  | inr y ↦ inr (λ e. y.0 (omega arith), y.1)
]

with_many : (rs : List (List Scope)) (a : ℕ) (name : List ℕ) (x : Meaning) → length (with_name rs a name x) ≡ length rs
with_many [] a name x = refl
with_many (r ∷ rs) zero name x = refl
with_many (r ∷ rs) (suc a) name x = ap suc (with_many rs a name x)

pub set_row : (rs : List (List Scope)) (a : ℕ) (name : List ℕ) (x : Meaning) (r d : List Scope) → a < length rs → r ≡ declared name x (get_or rs a d)
    → set rs a r ≡ with_name rs a name x
set_row [] a name x r d l e = absurd (omega arith)
set_row (s ∷ rs) zero name x r d l e = ap (λ z. z ∷ rs) e
set_row (s ∷ rs) (suc a) name x r d l e = ap (λ z. s ∷ z) (set_row rs a name x r d (omega arith) e)

pub many_entry : (e : Entry) (o : Option Meaning) (rs : List (List Scope)) → length (with_entry e o rs) ≡ length rs
many_entry e None rs = refl
many_entry e (Some x) rs = go e.within
  where
    go : (s : Option ℕ) → length (in_row s e.row.name x rs) ≡ length rs
    go None = refl
    go (Some a) = with_many rs a e.row.name x

module _ (xs : List (Option Meaning)) (es : List Entry) (o : Option Meaning) (e : Entry) (rs : List (List Scope)) (many : length xs ≡ length es)
    (each : (a : ℕ) (row : List Scope) → slice_get rs a ≡ Some row → row ≡ scope_inside a xs es) where
  at_end : (a : ℕ) (ds : List (List ℕ × Meaning)) → here (Some a) e o ≡ ds
      → scope_inside a (xs ++ (o ∷ [])) (es ++ (e ∷ [])) ≡ declared_all ds (scope_inside a xs es)
  at_end a ds h =
      ap (λ ns. declared_all ns (entered [])) (names_push (Some a) xs es o e many ∙ ap (λ z. names_in (Some a) xs es ++ z) h)
      ∙ all_push (names_in (Some a) xs es) ds (entered [])

  kept : (a : ℕ) (row : List Scope) → here (Some a) e o ≡ [] → slice_get rs a ≡ Some row → row ≡ scope_inside a (xs ++ (o ∷ [])) (es ++ (e ∷ []))
  kept a row h there = each a row there ∙ sym (at_end a [] h)

  nothing_here : (a : ℕ) → o ≡ None → here (Some a) e o ≡ []
  nothing_here a h = ap (λ z. here (Some a) e z) h ∙ go (same_scope (Some a) e.within)
    where
      go : (b : Bool) → (if b then listed e.row.name None else []) ≡ []
      go true = refl
      go false = refl

  elsewhere : (a : ℕ) → same_scope (Some a) e.within ≡ false → here (Some a) e o ≡ []
  elsewhere a h = ap (λ b. if b then listed e.row.name o else []) h

  pub one_inside : (a : ℕ) (row : List Scope) → slice_get (with_entry e o rs) a ≡ Some row → row ≡ scope_inside a (xs ++ (o ∷ [])) (es ++ (e ∷ []))
  one_inside a row h = go o refl h
    where
      inner : (x : Meaning) (s : Option ℕ) → o ≡ Some x → e.within ≡ s → slice_get (in_row s e.row.name x rs) a ≡ Some row
          → row ≡ scope_inside a (xs ++ (o ∷ [])) (es ++ (e ∷ []))
      inner x None f g h = kept a row (elsewhere a (ap (same_scope (Some a)) g)) h
      inner x (Some b) f g h = elim (with_cases rs b e.row.name x a row h) [
        | inl y ↦
            let w : same_scope (Some a) e.within ≡ true = ap (same_scope (Some a)) g ∙ ap (λ z. z == b) y.0 ∙ itself b in
            let d : here (Some a) e o ≡ (e.row.name, x) ∷ [] = ap (λ z. here (Some a) e z) f ∙ ap (λ z. if z then listed e.row.name (Some x) else []) w in
            let t : slice_get rs a ≡ Some y.1.0 = ap (slice_get rs) y.0 ∙ y.1.1 in
            sym y.1.2 ∙ ap (declared e.row.name x) (each a y.1.0 t) ∙ sym (at_end a ((e.row.name, x) ∷ []) d)
        | inr y ↦ kept a row (elsewhere a (ap (same_scope (Some a)) g ∙ other a b y.0)) y.1
      ]

      go : (p : Option Meaning) → o ≡ p → slice_get (with_entry e p rs) a ≡ Some row → row ≡ scope_inside a (xs ++ (o ∷ [])) (es ++ (e ∷ []))
      go None f h = kept a row (nothing_here a f) h
      go (Some x) f h = inner x e.within f refl h

-- empty rows
pub none_inside : (n a : ℕ) (row : List Scope) → slice_get (empty_each n) a ≡ Some row → row ≡ scope_inside a [] []
none_inside zero a row h = absurd cc
none_inside (suc n) zero row h = cc
none_inside (suc n) (suc a) row h = none_inside n a row h

pub none_push : (n : ℕ) → empty_each n ++ (entered [] ∷ []) ≡ empty_each (suc n)
none_push zero = refl
none_push (suc n) = ap (λ rs. entered [] ∷ rs) (none_push n)

pub none_many : (n : ℕ) → length (empty_each n) ≡ n
none_many zero = refl
none_many (suc n) = ap suc (none_many n)

-- what stands in its row already is declared twice
pub repeated_twice : (es : List Entry) (xs : List (Option Meaning)) (i : ℕ) (e : Entry) (rs : List (List Scope)) → IsEntry es i e
    → ((a : ℕ) (row : List Scope) → slice_get rs a ≡ Some row → row ≡ scope_inside a (take i xs) (take i es)) → IsRepeated e.row.name e.within rs → AreOnce es → ⊥
repeated_twice es xs i e rs at each r once =
    let p = each r.outer r.row r.there in
    let a = found e.row.name (names_in (Some r.outer) (take i xs) (take i es)) [] r.meaning (sym (ap (declared_here e.row.name) p) ∙ r.repeated) in
    again es xs (Some r.outer) i e a.0 at r.within a.1 once

-- the same in scopes of which the innermost declared nothing before
pub said_twice : (es : List Entry) (xs : List (Option Meaning)) (s : Option ℕ) (i : ℕ) (e : Entry) (outer scopes : List Scope) → IsEntry es i e
    → IsTrue (same_scope s e.within) → scopes ≡ declared_all (names_in s (take i xs) (take i es)) (entered outer) → IsSome (declared_here e.row.name scopes) → AreOnce es → ⊥
said_twice es xs s i e outer scopes at same are h once =
    let y = some_of (declared_here e.row.name scopes) h in
    let a = found e.row.name (names_in s (take i xs) (take i es)) outer y.0 (ap (declared_here e.row.name) (sym are) ∙ y.1) in
    again es xs s i e a.0 at (same_true s e.within same) a.1 once
