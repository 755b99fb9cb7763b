-- Which declarations a declaration needs for the type that it stands for.
use Rattle.std.specs.Prelude.{◌≡◌, ℕ, List}
use Rattle.std.specs.List.{Contains}
use Rattle.limbo_tree.specs.Types as tree
use Rattle.limbo_declarations.specs.Rows as rows
use Rattle.limbo_entries.specs.Entries.{Entry, IsEntry}
use Rattle.limbo_naming.specs.Qualified.{Qualified, Simple, Member}
use Rattle.limbo_naming.specs.Direct.{IsDeclared}
use Rattle.limbo_unknown.specs.Written.{in_type}

-- A name by `type` needs what the names in its type name, an imported name what is imported.
pub data NeedsType (es : List Entry) (m : ℕ) (k j : ℕ) : Type 0 where
  of_type : (e : Entry) (t : tree.Ty) (q : Qualified) → IsEntry es k e → e.row.means ≡ rows.Alias t → Contains (in_type t) q
      → IsDeclared es m e.within q j → NeedsType es m k j
  of_import : (e : Entry) (source : List ℕ) → IsEntry es k e → e.row.means ≡ rows.Imported source
      → IsDeclared es m e.within (Member (Simple source) e.row.name) j → NeedsType es m k j

-- The same through further declarations.
pub data NeedsThrough (es : List Entry) (m : ℕ) : ℕ → ℕ → Type 0 where
  at_once : (k j : ℕ) → NeedsType es m k j → NeedsThrough es m k j
  and_on : (k i j : ℕ) → NeedsType es m k i → NeedsThrough es m i j → NeedsThrough es m k j

-- Refusal 55: the type of the declaration goes in a circle.
abbrev pub IsCircular : List Entry → (m : ℕ) → ℕ → Type 0
IsCircular es m k = NeedsThrough es m k k
