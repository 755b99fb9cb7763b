-- What the name of each declaration means: its kind, and how many of the kind stand before it (Limbo Language Reference, scope).
use Rattle.std.specs.Prelude.{◌≡◌, ℕ, List, Option, Some, option_map, count_by, take, slice_get}
use Rattle.limbo_entries.specs.Entries.{Entry, IsEntry}
use Rattle.limbo_scope.specs.declared.meaning.Meaning.{Meaning}
use Rattle.limbo_scope.specs.declared.meaning.Meaning.TheVariants as meaning
use Rattle.limbo_meanings.specs.declared.kind.Kind.{Kind}
use Rattle.limbo_meanings.specs.declared.kind.Kind.TheVariants as kind
use Rattle.limbo_meanings.specs.Kinds.{place, kind_of, has_kind}

-- a name of the kind with this number
abbrev pub numbered : Kind → ℕ → Meaning
numbered kind.Global n = meaning.Global n
numbered kind.Constant n = meaning.Constant n
numbered kind.Type n = meaning.Type n
numbered kind.Adt n = meaning.Adt n
numbered kind.Module n = meaning.Module n
numbered kind.Function n = meaning.Function n
numbered kind.Import n = meaning.Import n
numbered kind.Exception n = meaning.Exception n

-- How many declarations have the kind.
abbrev pub many_of : List Entry → (m : ℕ) → Kind → (before : List Entry) → ℕ
many_of es m k before = count_by (has_kind es m (place k)) before

-- What the name of a declaration means that stands behind these.
abbrev pub meaning_after : List Entry → (m : ℕ) → (before : List Entry) → Entry → Option Meaning
meaning_after es m before e = option_map (λ k. numbered k (many_of es m k before)) (kind_of es m e)

-- What the name of the declaration of number k means: a name that has a meaning means its kind, and its place among those of its kind,
-- in the order of the table.
abbrev pub meaning_of : List Entry → (m : ℕ) → (k : ℕ) → Entry → Option Meaning
meaning_of es m k e = meaning_after es m (take k es) e

-- These are the meanings of all declarations.
abbrev pub AreMeanings : List Entry → (m : ℕ) → List (Option Meaning) → Type 0
AreMeanings es m all = (k : ℕ) (e : Entry) → IsEntry es k e → slice_get all k ≡ Some (meaning_of es m k e)

-- So many of each kind are among these.
abbrev pub AreCounts : List Entry → (m : ℕ) → (before : List Entry) → List ℕ → Type 0
AreCounts es m before counts = (p n : ℕ) → slice_get counts p ≡ Some n → n ≡ count_by (has_kind es m p) before
