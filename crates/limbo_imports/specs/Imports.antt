-- What names are that a source imports from modules (Limbo Language Reference, import).
use Rattle.std.specs.Prelude.{◌≡◌, ℕ, List, Option, None, Some, slice_get, take}
use Rattle.limbo_declarations.specs.Rows as rows
use Rattle.limbo_entries.specs.Entries.{Entry, IsEntry, IsMember, Finds}
use Rattle.limbo_naming.specs.Qualified.{Simple}
use Rattle.limbo_naming.specs.Naming.{Names}
use Rattle.limbo_scope.specs.declared.meaning.Meaning.{Meaning}
use Rattle.limbo_scope.specs.declared.meaning.Meaning.TheVariants as meaning
use Rattle.limbo_context.specs.declared.context.Imported.{Imported}
use Rattle.limbo_context.specs.declared.context.Origin.{Origin}
use Rattle.limbo_context.specs.declared.context.Origin.TheVariants as origin
use Rattle.limbo_meanings.specs.declared.kind.Kind.TheVariants as kind
use Rattle.limbo_meanings.specs.Kinds.{place, has_kind}
use Rattle.limbo_meanings.specs.Listed.{Listed}
use Rattle.limbo_exports.specs.System.{module_in}

-- what the declaration of number k means, if these are the meanings of all
abbrev pub meaning_at : List (Option Meaning) → ℕ → Option Meaning
meaning_at means k = elim (slice_get means k) [ None ↦ None | Some x ↦ x ]

-- What is imported from a variable of the module comes from its value, anything else from a module type alone.
abbrev pub origin_of : Option Meaning → Origin
origin_of (Some (meaning.Global n)) = origin.Global n
origin_of _ = origin.Type

-- A name that is written in a scope as imported from `source`: `source` leads to a module, which has a member of the name. The meanings
-- of all declarations are `means`, and what they mean to those who come through a module `others`.
pub record IsImported (es : List Entry) (m : ℕ) (means others : List (Option Meaning)) (scope : Option ℕ) (source name : List ℕ)
    (x : Imported) : Type 0 where
  pub from : ℕ
  pub finds : Finds es m source scope from
  pub origin : x.origin ≡ origin_of (meaning_at means from)
  pub outer : ℕ
  pub names : Names es m scope (Simple source) outer
  pub interface : module_in (meaning_at means outer) ≡ Some x.interface
  pub number : ℕ
  pub member : IsMember es (Some outer) name number
  pub exported : meaning_at others number ≡ Some x.member

-- The declaration of number k imports its name so.
pub record IsImport (es : List Entry) (m : ℕ) (means others : List (Option Meaning)) (k : ℕ) (e : Entry) (x : Imported) : Type 0 where
  pub source : List ℕ
  pub is : e.row.means ≡ rows.Imported source
  pub imported : IsImported es m means others e.within source e.row.name x

abbrev pub ImportsTo : List Entry → (m : ℕ) → (means others : List (Option Meaning)) → (n : ℕ) → List Imported → Type 0
ImportsTo es m means others n xs = Listed (has_kind es m (place kind.Import)) (IsImport es m means others) 0 (take n es) xs

abbrev pub ImportsAre : List Entry → (m : ℕ) → (means others : List (Option Meaning)) → List Imported → Type 0
ImportsAre es m means others xs = Listed (has_kind es m (place kind.Import)) (IsImport es m means others) 0 es xs

-- No such name is there to be imported.
abbrev pub HasNoImport : List Entry → (m : ℕ) → (means others : List (Option Meaning)) → Option ℕ → (source name : List ℕ) → Type 0
HasNoImport es m means others scope source name = (x : Imported) → IsImported es m means others scope source name x → ⊥

-- The declaration of this number imports what isn't there.
pub record IsMissing (es : List Entry) (m : ℕ) (means others : List (Option Meaning)) (k : ℕ) : Type 0 where
  pub entry : Entry
  pub source : List ℕ
  pub there : IsEntry es k entry
  pub is : entry.row.means ≡ rows.Imported source
  pub missing : HasNoImport es m means others entry.within source entry.row.name
