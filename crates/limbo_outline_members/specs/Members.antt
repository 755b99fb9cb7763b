-- What module types are to those who come through a module (Limbo Language Reference, modules).
use Rattle.std.specs.Prelude.{◌≡◌, ℕ, List, Option, Some, Bool, take}
use Rattle.limbo_tree.specs.Decls.{FnType}
use Rattle.limbo_typed.specs.Typed.{Interface, Signature}
use Rattle.limbo_declarations.specs.Rows as rows
use Rattle.limbo_entries.specs.Entries.{Entry}
use Rattle.limbo_headers.specs.Headers.{IsHeader}
use Rattle.limbo_meanings.specs.declared.kind.Kind.TheVariants as kind
use Rattle.limbo_meanings.specs.Listed.{Listed}
use Rattle.limbo_exports.specs.Exports.{is_called}
use Rattle.limbo_outline.specs.Outline.{ListedTo}

-- A function as a module type declares it: its name, and what it takes and answers.
pub record IsSignature (es : List Entry) (m : ℕ) (k : ℕ) (e : Entry) (s : Signature) : Type 0 where
  pub of : FnType
  pub is : e.row.means ≡ rows.Function of
  pub named : s.name ≡ e.row.name
  pub self_first : Bool
  pub header : IsHeader es m e.within of s.of self_first

-- The functions that the declaration of number a declares, in order, but for the prints of the built-in module.
abbrev pub SignaturesTo : List Entry → (m : ℕ) → (system : Option ℕ) → (a n : ℕ) → List Signature → Type 0
SignaturesTo es m system a n xs = Listed (is_called system (Some a)) (IsSignature es m) 0 (take n es) xs

abbrev pub SignaturesAre : List Entry → (m : ℕ) → (system : Option ℕ) → (a : ℕ) → List Signature → Type 0
SignaturesAre es m system a xs = Listed (is_called system (Some a)) (IsSignature es m) 0 es xs

pub record IsInterface (es : List Entry) (m : ℕ) (system : Option ℕ) (k : ℕ) (e : Entry) (i : Interface) : Type 0 where
  pub named : i.name ≡ e.row.name
  pub functions : SignaturesAre es m system k i.functions

abbrev pub InterfacesTo : List Entry → (m : ℕ) → (system : Option ℕ) → (n : ℕ) → List Interface → Type 0
InterfacesTo es m system n xs = ListedTo es m kind.Module (IsInterface es m system) (take n es) xs

abbrev pub InterfacesAre : List Entry → (m : ℕ) → (system : Option ℕ) → List Interface → Type 0
InterfacesAre es m system xs = ListedTo es m kind.Module (IsInterface es m system) es xs
