-- Scopes that are collected one after the other.
use Rattle.std.proofs.Common.{◌≡◌, ◌+◌, ◌++◌, ◌∷◌, [], ℕ, zero, suc, List, Option, true, false, slice_get, refl, ap}
use Rattle.std.proofs.Math.ListN.{set}
use Rattle.limbo_scope.specs.declared.meaning.Meaning.{Meaning}
use Rattle.limbo_scope.specs.Scopes.{Scope}
use Rattle.limbo_entries.specs.Entries.{Entry, IsEntry}
use Rattle.limbo_meanings.specs.declared.kind.Kind.{Kind}
use Rattle.limbo_meanings.specs.Kinds.{place, has_kind}
use Rattle.limbo_meanings.specs.Names.{scope_inside}
use Rattle.limbo_meanings.proofs.Lists.{table_yes, table_no}
use Rattle.limbo_outline.specs.Outline.{ScopesTo, IsScopeOf}

-- the others stay where one is set
pub set_other : {A : Type 0} → (xs : List A) (i : ℕ) (v : A) (a : ℕ) → (a ≡ i → ⊥) → slice_get (set xs i v) a ≡ slice_get xs a
set_other [] i v a n = refl
set_other (x ∷ xs) zero v zero n = absurd (n refl)
set_other (x ∷ xs) zero v (suc a) n = refl
set_other (x ∷ xs) (suc i) v zero n = refl
set_other (x ∷ xs) (suc i) v (suc a) n = set_other xs i v a (λ e. n (ap suc e))

pub scope_yes : (es : List Entry) (m : ℕ) (l : Kind) (means : List (Option Meaning)) (k : ℕ) (e : Entry) (rows : List (List Scope)) (row : List Scope) → IsEntry es k e
    → has_kind es m (place l) e ≡ true → row ≡ scope_inside k means es → ScopesTo es m l means k rows → ScopesTo es m l means (k + 1) (rows ++ (row ∷ []))
scope_yes es m l means k e rows row i t p listed = table_yes (has_kind es m (place l)) (IsScopeOf means es) es k rows e row listed i t p

pub scope_no : (es : List Entry) (m : ℕ) (l : Kind) (means : List (Option Meaning)) (k : ℕ) (e : Entry) (rows : List (List Scope)) → IsEntry es k e
    → has_kind es m (place l) e ≡ false → ScopesTo es m l means k rows → ScopesTo es m l means (k + 1) rows
scope_no es m l means k e rows i t listed = table_no (has_kind es m (place l)) (IsScopeOf means es) es k rows e listed i t
