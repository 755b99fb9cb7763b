-- What stands at the top level of a source and of the texts that it includes (Limbo Language Reference, modules and scope).
use Rattle.std.specs.Prelude.{◌≡◌, ℕ, List, [], ◌∷◌, ◌++◌, Option, None, Some}
use Rattle.std.specs.List.{Contains}
use Rattle.limbo_tree.specs.Decls.{FnType, Members}
use Rattle.limbo_tree.specs.Sources.{Top, Include, Declared, Defined}
use Rattle.limbo_declarations.specs.Rows.{Row, rows_of_decl, Function, Module}

-- A declaration or a definition, with the path of the text in which it stands.
pub record Placed : Type 0 where
  pub path : List ℕ
  pub top : Top

-- A function where it is defined: by its name, or by that of its adt and its own.
pub record Definition : Type 0 where
  pub path : List ℕ
  pub name : List ℕ
  pub part : Option (List ℕ)
  pub of : FnType

abbrev pub rows_of_top : (path : List ℕ) → Top → List Row
rows_of_top p (Declared d) = rows_of_decl p d
rows_of_top p _ = []

-- What the declarations declare.
abbrev pub declared : List Placed → List Row
declared [] = []
declared (s ∷ ss) = rows_of_top s.path s.top ++ declared ss

abbrev pub definitions_of : (path : List ℕ) → Top → List Definition
definitions_of p (Defined n part of body) = record { path = p; name = n; part = part; of = of } ∷ []
definitions_of p _ = []

-- The functions that are defined.
abbrev pub definitions : List Placed → List Definition
definitions [] = []
definitions (s ∷ ss) = definitions_of s.path s.top ++ definitions ss

-- ---- the implemented module

-- A module of this name, with these members, is declared in the text of this path.
abbrev pub DeclaresModule : List Row → (name path : List ℕ) → Members → Type 0
DeclaresModule rs name path ms = Contains rs (record { path = path; name = name; means = Module ms })

-- A function of this name is declared there.
pub record HasFunction (rs : List Row) (name : List ℕ) : Type 0 where
  pub path : List ℕ
  pub of : FnType
  pub there : Contains rs (record { path = path; name = name; means = Function of })

abbrev pub row_of : Definition → Row
row_of d = record { path = d.path; name = d.name; means = Function d.of }

-- The functions that their definitions declare: those that no member of the implemented module declares. A function of an adt is
-- declared by the adt.
pub data Alone (members : List Row) : List Definition → List Row → Type 0 where
  none_left : Alone members [] []
  of_adt : (d : Definition) (f : List ℕ) (ds : List Definition) (rs : List Row)
      → d.part ≡ Some f → Alone members ds rs → Alone members (d ∷ ds) rs
  of_module : (d : Definition) (ds : List Definition) (rs : List Row)
      → d.part ≡ None → HasFunction members d.name → Alone members ds rs → Alone members (d ∷ ds) rs
  by_itself : (d : Definition) (ds : List Definition) (rs : List Row)
      → d.part ≡ None → (HasFunction members d.name → ⊥) → Alone members ds rs → Alone members (d ∷ ds) (row_of d ∷ rs)
