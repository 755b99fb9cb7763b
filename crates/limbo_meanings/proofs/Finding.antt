-- What a scope says in which names were declared one after the other.
use Rattle.std.proofs.Common.{◌≡◌, ◌⊎◌, inl, inr, ℕ, zero, suc, Bool, true, false, List, [], ◌∷◌, ◌++◌, Option, Some, None, cond, slice_get, refl, sym, ap, subst, ◌∙◌}
use Rattle.std.specs.Option.{option_or}
use Rattle.std.specs.Ordering.{nat_cmp, eq_by_cmp}
use Rattle.std.specs.Cmp.Lexicographic.{slice_cmp, nat_list_cmp_total}
use Rattle.std.specs.FinMap.{get, insert, empty, get-empty, get-insert}
use Rattle.std.specs.Cmp.{eq_by_cmp_equiv, Equal-is}
use Rattle.limbo_scope.specs.declared.meaning.Meaning.{Meaning}
use Rattle.limbo_scope.specs.Scopes.{Scope, seen, declared, declared_here, entered}
use Rattle.limbo_scope.specs.Laws.{declared_all}
use Rattle.limbo_scope.proofs.Maps.{antisymmetric}

-- the names in one scope
pub inserted : List (List ℕ × Meaning) → Scope → Scope
inserted [] s = s
inserted (d ∷ ds) s = inserted ds (insert s d.0 d.1)

pub all_inserted : (ds : List (List ℕ × Meaning)) (s : Scope) (outer : List Scope) → declared_all ds (s ∷ outer) ≡ inserted ds s ∷ outer
unfolding inserted
all_inserted [] s outer = refl
all_inserted (d ∷ ds) s outer = all_inserted ds (insert s d.0 d.1) outer

pub record IsAmong (ds : List (List ℕ × Meaning)) (name : List ℕ) (x : Meaning) : Type 0 where
  pub place : ℕ
  pub there : slice_get ds place ≡ Some (name, x)

same_name : (name : List ℕ) → eq_by_cmp (slice_cmp nat_cmp) name name ≡ true
same_name name = (eq_by_cmp_equiv nat_list_cmp_total).refl name

decide : (a b : List ℕ) → (eq_by_cmp (slice_cmp nat_cmp) a b ≡ true) × (a ≡ b) ⊎ (eq_by_cmp (slice_cmp nat_cmp) a b ≡ false) × (a ≡ b → ⊥)
decide a b = go (eq_by_cmp (slice_cmp nat_cmp) a b) refl
  where
    go : (r : Bool) → eq_by_cmp (slice_cmp nat_cmp) a b ≡ r → (eq_by_cmp (slice_cmp nat_cmp) a b ≡ true) × (a ≡ b) ⊎ (eq_by_cmp (slice_cmp nat_cmp) a b ≡ false) × (a ≡ b → ⊥)
    go true h = inl (h, antisymmetric a b ((Equal-is (slice_cmp nat_cmp a b)).0 h))
    go false h = inr (h, λ e. let x : true ≡ false = sym (subst (λ (z : List ℕ). eq_by_cmp (slice_cmp nat_cmp) a z ≡ true) e (same_name a)) ∙ h in absurd cc)

read : (s : Scope) (n name : List ℕ) (x : Meaning) (b : Bool) → eq_by_cmp (slice_cmp nat_cmp) name n ≡ b → get (insert s n x) name ≡ cond b (Some x) (get s name)
read s n name x b h = get-insert nat_list_cmp_total s n x name ∙ ap (λ b. cond b (Some x) (get s name)) h

-- a scope says of a name what one of its declarations says, or there is none
pub told : (name : List ℕ) (ds : List (List ℕ × Meaning)) (s : Scope)
    → (((x : Meaning) → IsAmong ds name x → ⊥) × (get (inserted ds s) name ≡ get s name))
    ⊎ ((x : Meaning) × IsAmong ds name x × (get (inserted ds s) name ≡ Some x))
unfolding inserted
told name [] s = inl (λ x a. let h = a.there in absurd cc, refl)
told name (d ∷ ds) s = elim (told name ds (insert s d.0 d.1)) [
  | inl t ↦ elim (decide name d.0) [
    | inl e ↦ inr (d.1, record { place = 0; there = ap (λ (n : List ℕ). let r : Option (List ℕ × Meaning) = Some (n, d.1) in r) (sym e.1) }, t.1 ∙ read s d.0 name d.1 true e.0)
    | inr n ↦ inl (λ x a. none x a.place a.there n.1 t.0, t.1 ∙ read s d.0 name d.1 false n.0)
  ]
  | inr t ↦ inr (t.0, record { place = suc t.1.place; there = t.1.there }, t.2)
]
  where
    none : (x : Meaning) (k : ℕ) → slice_get (d ∷ ds) k ≡ Some (name, x) → (name ≡ d.0 → ⊥) → ((x : Meaning) → IsAmong ds name x → ⊥) → ⊥
    none x zero h n t = let p : d ≡ (name, x) = cc in n (ap (λ (z : List ℕ × Meaning). z.0) (sym p))
    none x (suc k) h n t = t x (record { place = k; there = h })

-- the same of scopes of which the innermost declared nothing before
pub answer : (name : List ℕ) (ds : List (List ℕ × Meaning)) (outer : List Scope)
    → (((x : Meaning) → IsAmong ds name x → ⊥) × (seen name (declared_all ds (entered outer)) ≡ seen name outer)
    × (declared_here name (declared_all ds (entered outer)) ≡ None))
    ⊎ ((x : Meaning) × IsAmong ds name x × (seen name (declared_all ds (entered outer)) ≡ Some x))
answer name ds outer = elim (told name ds empty) [
  | inl t ↦ inl (
    t.0,
    ap (λ ss. seen name ss) (all_inserted ds empty outer) ∙ ap (λ m. option_or m (seen name outer)) (t.1 ∙ get-empty (slice_cmp nat_cmp) name),
    ap (λ ss. declared_here name ss) (all_inserted ds empty outer) ∙ t.1 ∙ get-empty (slice_cmp nat_cmp) name,
  )
  | inr t ↦ inr (t.0, t.1, ap (λ ss. seen name ss) (all_inserted ds empty outer) ∙ ap (λ m. option_or m (seen name outer)) t.2)
]

-- what is declared there is among them
pub found : (name : List ℕ) (ds : List (List ℕ × Meaning)) (outer : List Scope) (y : Meaning) → declared_here name (declared_all ds (entered outer)) ≡ Some y
    → (x : Meaning) × IsAmong ds name x
found name ds outer y h = elim (answer name ds outer) [
  | inl t ↦ let p : None ≡ Some y = sym t.2 ∙ h in absurd cc
  | inr t ↦ (t.0, t.1)
]

pub all_push : (ds : List (List ℕ × Meaning)) (es : List (List ℕ × Meaning)) (ss : List Scope) → declared_all (ds ++ es) ss ≡ declared_all es (declared_all ds ss)
all_push [] es ss = refl
all_push (d ∷ ds) es ss = all_push ds es (declared d.0 d.1 ss)
