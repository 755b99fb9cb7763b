-- What holds of scopes and meanings.
use Rattle.std.specs.Prelude.{◌≡◌, ◌↔◌, ℕ, List, None, Some, Option, length, slice_get}
use Rattle.limbo_scope.specs.declared.meaning.Meaning.{Meaning}
use Rattle.limbo_scope.specs.Scopes.{seen}
use Rattle.limbo_entries.specs.Entries.{Entry, IsEntry, AreOnce, IsMember, Finds}
use Rattle.limbo_meanings.specs.Names.{scope_inside, outermost_scopes}

-- The declaration of number k means this.
abbrev pub HasMeaning : List (Option Meaning) → (k : ℕ) → Meaning → Type 0
HasMeaning xs k x = slice_get xs k ≡ Some (Some x)

-- In the scope of what stands inside a declaration a name means what the declaration of the name there means.
abbrev pub NamesInside : Type 0
NamesInside =
    (es : List Entry) (xs : List (Option Meaning)) (a : ℕ) (name : List ℕ) (x : Meaning) → AreOnce es → length xs ≡ length es
    → (seen name (scope_inside a xs es) ≡ Some x) ↔ ((k : ℕ) × IsMember es (Some a) name k × HasMeaning xs k x)

-- Each declaration of the top level means something.
abbrev pub TopHasMeanings : List (Option Meaning) → List Entry → Type 0
TopHasMeanings xs es = (k : ℕ) (e : Entry) → IsEntry es k e → e.within ≡ None → (x : Meaning) × HasMeaning xs k x

-- Where a body begins a name means what the declaration means that the name finds at the top level.
abbrev pub NamesOutermost : Type 0
NamesOutermost =
    (es : List Entry) (xs : List (Option Meaning)) (m : ℕ) (name : List ℕ) (x : Meaning) → AreOnce es → length xs ≡ length es
    → TopHasMeanings xs es
    → (seen name (outermost_scopes m xs es) ≡ Some x) ↔ ((k : ℕ) × Finds es m name None k × HasMeaning xs k x)
