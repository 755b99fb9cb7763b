-- The definitions of a module's functions, among what stands at the top level of its source and of the texts that it includes (Limbo
-- Language Reference, functions, modules and adts).
use Rattle.std.specs.Prelude.{◌≡◌, ◌<◌, ℕ, List, length, Option, Some, slice_get}
use Rattle.limbo_tree.specs.Decls.{FnType}
use Rattle.limbo_tree.specs.Stmts.{Block}
use Rattle.limbo_tree.specs.Sources.{Defined}
use Rattle.limbo_top.specs.Tops.{Placed}
use Rattle.limbo_entries.specs.Entries.{Entry, IsEntry}
use Rattle.limbo_scope.specs.declared.meaning.Meaning.TheVariants as meaning
use Rattle.limbo_meanings.specs.Meanings.{meaning_of}
use Rattle.limbo_functions.specs.limbo_bodies.Definitions.{IsOf}
use Rattle.limbo_stmt_values.specs.limbo_stating.Functions.{Definition}
use Rattle.limbo_functions.specs.View.{own_name}

-- What stands there defines the function of this number, so.
pub record Defines (es : List Entry) (m n : ℕ) (s : Placed) (d : Definition) : Type 0 where
  pub name : List ℕ
  pub part : Option (List ℕ)
  pub of : FnType
  pub block : Block
  pub is : s.top ≡ Defined name part of block
  pub number : ℕ
  pub entry : Entry
  pub is_of : IsOf es m name part number
  pub there : IsEntry es number entry
  pub means : meaning_of es m number entry ≡ Some (meaning.Function n)
  pub gives : d ≡ record { name = own_name name part; of = of; block = block }

-- Nothing defines the function of this number.
abbrev pub HasNone : (es : List Entry) (m : ℕ) (tops : List Placed) (n : ℕ) → Type 0
HasNone es m tops n = (i : ℕ) (s : Placed) (d : Definition) → slice_get tops i ≡ Some s → Defines es m n s d → ⊥

-- The first that defines it.
pub record IsDefinition (es : List Entry) (m : ℕ) (tops : List Placed) (n : ℕ) (d : Definition) : Type 0 where
  pub place : ℕ
  pub standing : Placed
  pub there : slice_get tops place ≡ Some standing
  pub defines : Defines es m n standing d
  pub first : (i : ℕ) (s : Placed) (x : Definition) → i < place → slice_get tops i ≡ Some s → Defines es m n s x → ⊥

-- One for each of so many functions, in the order of their numbers.
pub record AreDefinitions (es : List Entry) (m : ℕ) (tops : List Placed) (many : ℕ) (ds : List Definition) : Type 0 where
  pub as_many : length ds ≡ many
  pub each : (n : ℕ) (d : Definition) → slice_get ds n ≡ Some d → IsDefinition es m tops n d
