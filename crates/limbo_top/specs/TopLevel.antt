-- The names of the top level (Limbo Language Reference, scope).
use Rattle.std.specs.Prelude.{◌≡◌, ℕ, List, ◌++◌, map}
use Rattle.limbo_tree.specs.Decls.{Members}
use Rattle.limbo_declarations.specs.Names.{AreOnce}
use Rattle.limbo_declarations.specs.Rows.{Row, rows_of_members}
use Rattle.limbo_top.specs.Tops.{Placed, declared, definitions, DeclaresModule, Alone}

abbrev pub row_names : List Row → List (List ℕ)
row_names rs = map (λ r. r.name) rs

-- A source that implements the module of this name, with what stands at its top level, has these names there: those that it declares,
-- the members of the module, and the functions that it defines and that the module doesn't declare. Each is declared once.
pub record IsTopLevel (implements : List ℕ) (tops : List Placed) (rows : List Row) : Type 0 where
  pub path : List ℕ
  pub members : Members
  pub alone : List Row
  pub is_module : DeclaresModule (declared tops) implements path members
  pub are_alone : Alone (rows_of_members path members) (definitions tops) alone
  pub rows_are : rows ≡ declared tops ++ rows_of_members path members ++ alone
  pub once : AreOnce (row_names rows)

-- There is no module of the name.
abbrev pub HasNoModule : (implements : List ℕ) → List Placed → Type 0
HasNoModule implements tops = (path : List ℕ) (members : Members) → DeclaresModule (declared tops) implements path members → ⊥

-- A name is declared twice: among the declarations; among the members of the implemented module; or where these and the functions that
-- declare themselves stand together.
pub data DeclaresTwice (implements : List ℕ) (tops : List Placed) : Type 0 where
  in_source : (AreOnce (row_names (declared tops)) → ⊥) → DeclaresTwice implements tops
  in_module : (path : List ℕ) (members : Members) → DeclaresModule (declared tops) implements path members
      → (AreOnce (row_names (rows_of_members path members)) → ⊥) → DeclaresTwice implements tops
  at_top : (path : List ℕ) (members : Members) (alone : List Row) → DeclaresModule (declared tops) implements path members
      → Alone (rows_of_members path members) (definitions tops) alone
      → (AreOnce (row_names (declared tops ++ rows_of_members path members ++ alone)) → ⊥) → DeclaresTwice implements tops

-- There are no such names.
abbrev pub HasNoTopLevel : (implements : List ℕ) → List Placed → Type 0
HasNoTopLevel implements tops = (rows : List Row) → IsTopLevel implements tops rows → ⊥
