-- Which functions a source must define, and which it may (Limbo Language Reference, modules and adts).
use Rattle.std.specs.Prelude.{◌≡◌, ℕ, List, Option, None, Some, slice_get}
use Rattle.std.specs.List.{Contains}
use Rattle.limbo_tree.specs.Decls.{FnType, Members, Variant}
use Rattle.limbo_declarations.specs.Rows.{Row, Adt, Function, rows_of_members}
use Rattle.limbo_top.specs.Tops.{Definition}

-- An adt of this name, with these members, is declared there in the text of this path.
pub record HasAdt (rows : List Row) (path name : List ℕ) (members : Members) : Type 0 where
  pub pick : Option (List Variant)
  pub there : Contains rows (record { path = path; name = name; means = Adt members pick })

-- A function of this name is declared there in the text of this path.
pub record HasFunction (rows : List Row) (path name : List ℕ) : Type 0 where
  pub of : FnType
  pub there : Contains rows (record { path = path; name = name; means = Function of })

-- What is declared as a function that can be defined: by the implemented module, whose members' rows are these, under its name; by an adt
-- of the top level under the adt's name and its own.
pub data IsDeclared (members rows : List Row) : (path name : List ℕ) (part : Option (List ℕ)) → Type 0 where
  by_module : (path name : List ℕ) → HasFunction members path name → IsDeclared members rows path name None
  by_adt : (path adt name : List ℕ) (ms : Members) → HasAdt rows path adt ms → HasFunction (rows_of_members path ms) path name
      → IsDeclared members rows path adt (Some name)

-- A function of this name is declared there, or in an adt that stands there, however deep.
pub data Holds (name : List ℕ) : (rows : List Row) → Type 0 where
  itself : (rows : List Row) (path : List ℕ) → HasFunction rows path name → Holds name rows
  inside : (rows : List Row) (path adt : List ℕ) (ms : Members) → HasAdt rows path adt ms → Holds name (rows_of_members path ms)
      → Holds name rows

-- A function of this name is declared in an adt that stands there in the text of this path, or deeper.
pub record HasInner (rows : List Row) (path name : List ℕ) : Type 0 where
  pub adt : List ℕ
  pub members : Members
  pub has_adt : HasAdt rows path adt members
  pub holds : Holds name (rows_of_members path members)

-- A function is declared in an adt that stands in an adt of the top level. A definition has no way to name it.
pub record IsNested (rows : List Row) (path name : List ℕ) : Type 0 where
  pub adt : List ℕ
  pub members : Members
  pub has_adt : HasAdt rows path adt members
  pub inner : HasInner (rows_of_members path members) path name

-- A function of this name, or of this adt and name, is defined.
pub record IsDefined (ds : List Definition) (name : List ℕ) (part : Option (List ℕ)) : Type 0 where
  pub definition : Definition
  pub there : Contains ds definition
  pub named : definition.name ≡ name
  pub of_part : definition.part ≡ part

-- No function is defined twice.
abbrev pub AreDefinedOnce : List Definition → Type 0
AreDefinedOnce ds =
    (i j : ℕ) (d e : Definition) → slice_get ds i ≡ Some d → slice_get ds j ≡ Some e → d.name ≡ e.name → d.part ≡ e.part → i ≡ j

-- Each function that is declared is defined.
pub record AllDefined (members rows : List Row) (ds : List Definition) : Type 0 where
  pub named : (path name : List ℕ) (part : Option (List ℕ)) → IsDeclared members rows path name part → IsDefined ds name part
  pub nested : (path name : List ℕ) → IsNested rows path name → ⊥

-- An adt declares each of its functions that is defined.
abbrev pub AllKnown : (members rows : List Row) → List Definition → Type 0
AllKnown members rows ds =
    (adt name : List ℕ) → IsDefined ds adt (Some name) → (path : List ℕ) × IsDeclared members rows path adt (Some name)
