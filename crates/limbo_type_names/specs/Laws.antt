-- What holds of types, where each scope has each name once.
use Rattle.std.specs.Prelude.{◌≡◌, ◌≢◌, ℕ, List, Option}
use Rattle.limbo_tree.specs.Types as tree
use Rattle.limbo_types.specs.Types.{Ty}
use Rattle.limbo_declarations.specs.Rows as rows
use Rattle.limbo_entries.specs.Entries.{Entry, IsEntry, AreOnce}
use Rattle.limbo_tree.specs.declared.types.TypeTree as code_type
use Rattle.limbo_tree.specs.View.{view_type}
use Rattle.limbo_type_names.specs.declared.fault.TypeFault.{TypeFault}
use Rattle.limbo_type_names.specs.declared.fault.TypeFault.TheVariants.{NoMemory}
use Rattle.limbo_type_names.specs.Means.{Means, Stands, IsNoType}
use Rattle.limbo_type_names.specs.Writes.{Fails}
use Rattle.limbo_type_names.specs.Needs.{IsCircular}
use Rattle.limbo_type_names.specs.Working.{Types, AreTypes}

-- A written type means at most one type.
abbrev pub OneType : Type 0
OneType =
    (es : List Entry) (m : ℕ) (scope : Option ℕ) (t : tree.Ty) (u v : Ty) → AreOnce es → Means es m scope t u → Means es m scope t v → u ≡ v

-- What is no type stands for none.
abbrev pub NoTypeStands : Type 0
NoTypeStands = (es : List Entry) (m k : ℕ) (u : Ty) → AreOnce es → IsNoType es m k → Stands es m k u → ⊥

-- What goes in a circle stands for nothing.
abbrev pub NoneCircular : Type 0
NoneCircular = (es : List Entry) (m k : ℕ) (u : Ty) → AreOnce es → IsCircular es m k → Stands es m k u → ⊥

-- What fails, by another cause than want of memory, means nothing.
abbrev pub FailsOrMeans : Type 0
FailsOrMeans =
    (es : List Entry) (m : ℕ) (scope : Option ℕ) (t : code_type.TypeTree) (e : TypeFault) (u : Ty)
    → AreOnce es → e ≢ NoMemory → Fails es m scope t e → Means es m scope (view_type t) u → ⊥

-- Where it is known of each declaration what it stands for, each name by `type` stands for a type.
abbrev pub ByTypeStands : Type 0
ByTypeStands =
    (es : List Entry) (m : ℕ) (types : Types) (k : ℕ) (e : Entry) (t : tree.Ty) → AreTypes es m types → IsEntry es k e
    → e.row.means ≡ rows.Alias t → (u : Ty) × Stands es m k u
