-- Places in lists, and entries of the code in their order.
use Rattle.std.proofs.Common.{◌≡◌, ◌<◌, ◌≤◌, ◌+◌, ◌++◌, ◌∷◌, ◌⊎◌, [], inl, inr, ℕ, zero, suc, List, Option, Some, length, get_or, slice_get, take, map, refl, sym, ap, ◌∙◌, arith}
use Rattle.std.proofs.Math.ListN.{set}
use Rattle.std.proofs.lemmas.List.{take-map, take_more, map-append}
use Rattle.limbo_entries.specs.declared.entry.Entry as code_entry
use Rattle.limbo_entries.specs.Entries.{IsEntry}
use Rattle.limbo_entries.specs.View.{view_entry, entries_of, key, keys}
use Rattle.limbo_entries.specs.Growing.{LeadsOutwards}

pub as_many : (es : List code_entry.Entry) → length (entries_of es) ≡ length es
as_many [] = refl
as_many (y ∷ es) = let e = as_many es in omega arith

pub entry_at : (es : List code_entry.Entry) (k : ℕ) (x : code_entry.Entry) → k < length es → x ≡ get_or es k x → IsEntry (entries_of es) k (view_entry x)
entry_at [] k x l e = absurd (omega arith)
entry_at (y ∷ es) zero x l e = ap (λ z. Some (view_entry z)) (sym e)
entry_at (y ∷ es) (suc k) x l e = entry_at es k x (omega arith) e

pub one_more : (all : List code_entry.Entry) (i : ℕ) (e : code_entry.Entry) → i < length all → e ≡ get_or all i e
    → take (i + 1) (entries_of all) ≡ take i (entries_of all) ++ (view_entry e ∷ [])
one_more all i e l f =
    take-map view_entry (i + 1) all ∙ ap (map view_entry) (take_more all i e l) ∙ map-append view_entry (take i all) (get_or all i e ∷ [])
    ∙ ap (λ x. map view_entry (take i all) ++ (view_entry x ∷ [])) (sym f) ∙ ap (λ xs. xs ++ (view_entry e ∷ [])) (sym (take-map view_entry i all))

pub item_more : {X : Type 0} → (xs : List X) (i : ℕ) (x : X) → i < length xs → x ≡ get_or xs i x → take (i + 1) xs ≡ take i xs ++ (x ∷ [])
item_more xs i x l f = take_more xs i x l ∙ ap (λ z. take i xs ++ (z ∷ [])) (sym f)

key_at : (all : List code_entry.Entry) (i : ℕ) (e : code_entry.Entry) → i < length all → e ≡ get_or all i e → slice_get (keys all) i ≡ Some (key e)
key_at [] i e l f = absurd (omega arith)
key_at (x ∷ all) zero e l f = ap (λ z. Some (key z)) (sym f)
key_at (x ∷ all) (suc i) e l f = key_at all i e (omega arith) f

-- a declaration stands behind the one inside which it stands
pub outer_before : (all : List code_entry.Entry) → LeadsOutwards (keys all) → (i a : ℕ) (e : code_entry.Entry) → i < length all → e ≡ get_or all i e → e.within ≡ Some a
    → a < i
outer_before all out i a e l f w =
    out a i e.row.name.now.text (key_at all i e l f ∙ ap (λ (o : Option ℕ). let r : Option (Option ℕ × List ℕ) = Some (o, e.row.name.now.text) in r) w)

pub set_cases : {X : Type 0} → (xs : List X) (a : ℕ) (v : X) (p : ℕ) (n : X) → slice_get (set xs a v) p ≡ Some n
    → ((p ≡ a) × (n ≡ v)) ⊎ ((p ≡ a → ⊥) × (slice_get xs p ≡ Some n))
set_cases [] a v p n h = absurd cc
set_cases (x ∷ xs) zero v zero n h = inl (refl, cc)
set_cases (x ∷ xs) zero v (suc p) n h = inr (λ e. absurd (omega arith), h)
set_cases (x ∷ xs) (suc a) v zero n h = inr (λ e. absurd (omega arith), h)
set_cases (x ∷ xs) (suc a) v (suc p) n h = elim (set_cases xs a v p n h) [
  | inl y ↦ inl (ap suc y.0, y.1)
  | inr y ↦ inr (λ e. y.0 (omega arith), y.1)
]

pub take_many : {A : Type 0} → (xs : List A) (i : ℕ) → i ≤ length xs → length (take i xs) ≡ i
take_many xs zero l = refl
take_many [] (suc i) l = absurd (omega arith)
take_many (x ∷ xs) (suc i) l = ap suc (take_many xs i (omega arith))

-- what stands in the front of a list stands in it, before the end of the front
pub in_front : {A : Type 0} → (xs : List A) (i k : ℕ) (x : A) → slice_get (take i xs) k ≡ Some x → (k < i) × (slice_get xs k ≡ Some x)
in_front xs zero k x h = absurd cc
in_front [] (suc i) k x h = absurd cc
in_front (y ∷ xs) (suc i) zero x h = (omega arith, h)
in_front (y ∷ xs) (suc i) (suc k) x h = let r = in_front xs i k x h in let l : k < i = r.0 in (omega arith, r.1)

pub at_front : {A : Type 0} → (xs : List A) (i k : ℕ) (x : A) → k < i → slice_get xs k ≡ Some x → slice_get (take i xs) k ≡ Some x
at_front xs zero k x l h = absurd (omega arith)
at_front [] (suc i) k x l h = absurd cc
at_front (y ∷ xs) (suc i) zero x l h = h
at_front (y ∷ xs) (suc i) (suc k) x l h = at_front xs i k x (omega arith) h
