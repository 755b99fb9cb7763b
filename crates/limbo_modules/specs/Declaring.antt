-- What a module declares for others (Limbo Language Reference, modules).
use Rattle.std.specs.Prelude.{◌≡◌, ℕ, List, None, Some, take, slice_get}
use Rattle.limbo_entries.specs.Entries.{Entry}
use Rattle.limbo_scope.specs.declared.meaning.Meaning.TheVariants as meaning
use Rattle.limbo_meanings.specs.Meanings.{meaning_of}
use Rattle.limbo_meanings.specs.Listed.{Listed}
use Rattle.limbo_exports.specs.Exports.{is_called}
use Rattle.limbo_context.specs.Context.{Callee}
use Rattle.limbo_typed.specs.Typed.{Declared}

-- The declaration of number k is a member of the implemented module, and this function of it: it takes and answers what the function does.
pub record IsDeclared (es : List Entry) (m : ℕ) (functions : List Callee) (k : ℕ) (e : Entry) (d : Declared) : Type 0 where
  pub named : d.name ≡ e.row.name
  pub means : meaning_of es m k e ≡ Some (meaning.Function d.function)
  pub callee : Callee
  pub there : slice_get functions d.function ≡ Some callee
  pub of : d.of ≡ callee.of

abbrev pub DeclaredTo : (es : List Entry) (m : ℕ) → List Callee → (n : ℕ) → List Declared → Type 0
DeclaredTo es m functions n ds = Listed (is_called None (Some m)) (IsDeclared es m functions) 0 (take n es) ds

-- The functions among the members of the implemented module, in the order of declaration.
abbrev pub AreDeclared : (es : List Entry) (m : ℕ) → List Callee → List Declared → Type 0
AreDeclared es m functions ds = Listed (is_called None (Some m)) (IsDeclared es m functions) 0 es ds
