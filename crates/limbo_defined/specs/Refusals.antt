-- What each refusal says.
use Rattle.std.specs.Prelude.{◌≡◌, ◌<◌, ℕ, List, Some, slice_get}
use Rattle.std.specs.Borrow.{Bor}
use Rattle.std.specs.List.{Contains}
use Rattle.inf_text.specs.declared.span.Span.{Span}
use Rattle.limbo_tree.specs.declared.name.Name as code_name
use Rattle.limbo_declarations.specs.declared.row.Row as code_row
use Rattle.limbo_declarations.specs.View.{rows_of}
use Rattle.limbo_top.specs.declared.tops.Definition as code_definition
use Rattle.limbo_top.specs.Tops.{Definition}
use Rattle.limbo_top.specs.View.{view_definition, definitions_of}
use Rattle.limbo_defined.specs.Defined.{IsDeclared, IsNested, IsDefined}
use Rattle.limbo_defined.specs.Places.{Place, places, NamesNested}
use Rattle.limbo_defined.specs.declared.fault.DefinedFault.{DefinedFault}
use Rattle.limbo_defined.specs.declared.fault.DefinedFault.TheVariants.{NoMemory, Twice, Undefined, Undeclared}

-- The definition's name stands there, in the text of this path.
pub record StandsAt (d : code_definition.Definition) (path : Bor (List ℕ)) (at : Span) : Type 0 where
  pub in_text : path ≡ d.path
  pub place : at ≡ d.function.now.name.span

-- What is defined there is defined before it.
pub record IsSecond (ds : List code_definition.Definition) (path : Bor (List ℕ)) (at : Span) : Type 0 where
  pub first : ℕ
  pub second : ℕ
  pub before : first < second
  pub one : code_definition.Definition
  pub other : code_definition.Definition
  pub there : slice_get ds first ≡ Some one
  pub and_there : slice_get ds second ≡ Some other
  pub same_name : (view_definition one).name ≡ (view_definition other).name
  pub same_part : (view_definition one).part ≡ (view_definition other).part
  pub stands : StandsAt other path at

-- What is declared there, in the text of this path, is a function that isn't defined: no definition has its name, or none can have it.
pub data IsLacking (members rows : List code_row.Row) (ds : List Definition) : (path : List ℕ) (at : Span) → Type 0 where
  nowhere : (p : Place) → Contains (places members rows) p
      → IsDeclared (rows_of members) (rows_of rows) p.of.path p.of.name p.of.part
      → (IsDefined ds p.of.name p.of.part → ⊥) → IsLacking members rows ds p.of.path p.at
  no_way : (path : Bor (List ℕ)) (n : code_name.Name) → NamesNested n path rows → IsNested (rows_of rows) path.now n.text
      → IsLacking members rows ds path.now n.span

-- What is defined there is a function of an adt, and no adt of that name declares it.
pub record IsUndeclared (members rows : List code_row.Row) (ds : List code_definition.Definition) (path : Bor (List ℕ)) (at : Span)
    : Type 0 where
  pub definition : code_definition.Definition
  pub there : Contains ds definition
  pub function : List ℕ
  pub of_adt : (view_definition definition).part ≡ Some function
  pub undeclared : (source : List ℕ)
      → IsDeclared (rows_of members) (rows_of rows) source (view_definition definition).name (Some function) → ⊥
  pub stands : StandsAt definition path at

-- What each refusal of a source says, by the rows of the implemented module's members and of the top level, and the definitions.
abbrev pub IsRefused : (members rows : List code_row.Row) → List code_definition.Definition → DefinedFault → Type 0
IsRefused members rows ds NoMemory = Unit {0}
IsRefused members rows ds (Twice path at) = IsSecond ds path at
IsRefused members rows ds (Undefined path at) = IsLacking members rows (definitions_of ds) path.now at
IsRefused members rows ds (Undeclared path at) = IsUndeclared members rows ds path at
