-- What a source declares, with the texts that it includes, by what the files tell; and why it declares nothing.
use Rattle.std.specs.Prelude.{◌≡◌, ℕ, List, None, Some}
use Rattle.inf_ports.specs.Outside.{Told}
use Rattle.limbo_tree.specs.Sources.{Source}
use Rattle.limbo_includes.specs.Includes.{most}
use Rattle.limbo_top.specs.Tops.{Placed}
use Rattle.limbo_top.specs.TopLevel.{HasNoModule}
use Rattle.limbo_entries.specs.Entries.{Entry}
use Rattle.limbo_declare.specs.Declares as scope
use Rattle.limbo_declare.specs.Declares.{FailsTwice, FailsUnknown, FailsConstant}
use Rattle.source_names.specs.Included.{Flattens, Lacks, IsTooDeep, IsDoubled, AreTold}
use Rattle.source_names.specs.declared.refusal.Refusal.{Refusal}
use Rattle.source_names.specs.declared.refusal.Refusal.TheVariants.{NoInclude, Twice, Unknown, NotConstant, TooDeep}
use Rattle.source_names.specs.declared.refusal.NamesFault.{NamesFault}
use Rattle.source_names.specs.declared.refusal.NamesFault.TheVariants.{NoMemory, Refused}

-- A source implements the module of this name, and flattens to this row of declarations.
pub record HasRow (told : Told) (path : List ℕ) (tree : Source) (name : List ℕ) (row : List Placed) : Type 0 where
  pub implements : tree.implements ≡ Some name
  pub flat : Flattens told most path tree.tops row

-- The source of a path declares this: `es` are all declarations by number, and `m` is the number of the implemented module.
pub record Declares (told : Told) (path : List ℕ) (tree : Source) (es : List Entry) (m : ℕ) : Type 0 where
  pub name : List ℕ
  pub row : List Placed
  pub has : HasRow told path tree name row
  pub declares : scope.Declares name row es m

-- ---- refusals

-- the numbers under which they are told
abbrev pub number_of : Refusal → ℕ
number_of NoInclude = 40
number_of Twice = 41
number_of Unknown = 42
number_of NotConstant = 43
number_of TooDeep = 44

-- Includes nest too deep. They don't, but one names a path at which no text is. A text that declares something is included twice, or a
-- name is declared twice. A name isn't there, or the implemented module isn't. What must be constant isn't.
pub data Fails (told : Told) (path : List ℕ) (tree : Source) : Refusal → Type 0 where
  too_deep : IsTooDeep told path tree.tops → Fails told path tree TooDeep
  no_include : Lacks told path tree.tops → (AreTold told → IsTooDeep told path tree.tops → ⊥) → Fails told path tree NoInclude
  doubled : (row : List Placed) → Flattens told most path tree.tops row → IsDoubled told row → Fails told path tree Twice
  twice : (name : List ℕ) (row : List Placed) → HasRow told path tree name row → FailsTwice name row → Fails told path tree Twice
  unknown : (name : List ℕ) (row : List Placed) → HasRow told path tree name row → FailsUnknown name row → Fails told path tree Unknown
  no_module : (name : List ℕ) (row : List Placed) → HasRow told path tree name row → HasNoModule name row → Fails told path tree Unknown
  no_name : tree.implements ≡ None → Fails told path tree Unknown
  not_constant : (name : List ℕ) (row : List Placed) → HasRow told path tree name row → FailsConstant name row
      → Fails told path tree NotConstant

-- What a fault says: a refusal, or want of memory.
abbrev pub FailsBy : Told → List ℕ → Source → NamesFault → Type 0
FailsBy told path tree NoMemory = Unit {0}
FailsBy told path tree (Refused refusal file at) = Fails told path tree refusal
