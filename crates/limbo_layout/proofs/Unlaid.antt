-- The search for what has no room yet, one element on.
use Rattle.std.proofs.Common.{◌≡◌, ℕ, zero, suc, ◌⊎◌, inl, inr, Bool, true, false, List, [], ◌∷◌, ◌++◌, Option, Some, None, refl, sym, ap, subst, ◌∙◌, get_or}
use Rattle.std.specs.Prelude.{IfNone, IfSome}
use Rattle.limbo_types.specs.Types.{Ty}
use Rattle.limbo_layout.specs.Adts.{Has, Def, Variant, held_in, parts, tag, types_of, variant_types}
use Rattle.limbo_layout.specs.Paths.{IsAt}
use Rattle.limbo_layout.proofs.Rooms.{has_left, has_right, has_cases, held_in-append}

pub none_there : {A : Type 0} (o : Option A) (P : Type 0) → IfNone o P → ((x : A) → o ≡ Some x → ⊥) → P
none_there None P p k = p
none_there (Some x) P p k = absurd (k x refl)

pub some_also : {A : Type 0} (o : Option A) (P Q : A → Type 0) → ((x : A) → P x → Q x) → IfSome o P → IfSome o Q
some_also None P Q k p = tt
some_also (Some x) P Q k p = k x p

pub none_also : {A : Type 0} (o : Option A) (P Q : Type 0) → (P → Q) → IfNone o P → IfNone o Q
none_also None P Q k p = k p
none_also (Some x) P Q k p = tt

-- what the parts of an adt hold is what its fields hold, since a tag holds nothing
tag_holds : (vs : List Variant) (ts : List Ty) → held_in (tag vs ++ ts) ≡ held_in ts
tag_holds [] ts = refl
tag_holds (v ∷ vs) ts = refl

pub parts_hold : (d : Def) → held_in (parts d) ≡ held_in (types_of d.fields) ++ held_in (variant_types d.picks)
parts_hold d = tag_holds d.picks (types_of d.fields ++ variant_types d.picks) ∙ held_in-append (types_of d.fields) (variant_types d.picks)

-- where what an element holds is laid, and the rest is looked at
pub unlaid_all : (laid : List Bool) (own rest now all : List ℕ) → now ≡ own ++ rest → ((n : ℕ) → Has own n → IsAt laid n true) → ((n : ℕ) → Has all n → IsAt laid n true ⊎ Has now n) → (n : ℕ) → Has all n → IsAt laid n true ⊎ Has rest n
unlaid_all laid own rest now all e k a n h = elim (a n h) [
  | inl l ↦ inl l
  | inr i ↦ elim (has_cases own rest n (subst (λ (z : List ℕ). Has z n) e i)) [
    | inl o ↦ inl (k n o)
    | inr r ↦ inr r
  ]
]

pub unlaid_only : (own rest now all : List ℕ) → now ≡ own ++ rest → ((n : ℕ) → Has now n → Has all n) → (n : ℕ) → Has rest n → Has all n
unlaid_only own rest now all e a n h = a n (subst (λ (z : List ℕ). Has z n) (sym e) (has_right own rest n h))

pub unlaid_found : (own rest now all : List ℕ) → now ≡ own ++ rest → ((n : ℕ) → Has now n → Has all n) → (n : ℕ) → Has own n → Has all n
unlaid_found own rest now all e a n h = a n (subst (λ (z : List ℕ). Has z n) (sym e) (has_left own rest n h))

pub is_marked : (ms : List Bool) (n : ℕ) → get_or ms n false ≡ true → IsAt ms n true
is_marked [] n e = absurd cc
is_marked (m ∷ ms) zero e = ap Some e
is_marked (m ∷ ms) (suc n) e = is_marked ms n e

pub not_marked : (ms : List Bool) (n : ℕ) → get_or ms n false ≡ false → IsAt ms n true → ⊥
not_marked [] n e h = absurd cc
not_marked (m ∷ ms) zero e h = let f : m ≡ true = cc in let g : m ≡ false = e in cc
not_marked (m ∷ ms) (suc n) e h = not_marked ms n e h
