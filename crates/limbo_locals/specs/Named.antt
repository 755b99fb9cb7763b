-- Names that are declared one after the other, as the code hands them on.
use Rattle.std.specs.Prelude.{◌≡◌, ◌++◌, ℕ, List, map, length, None}
use Rattle.limbo_types.specs.Types.{Ty}
use Rattle.limbo_typed.specs.Typed.{Var, Exception}
use Rattle.limbo_context.specs.Context.{Body}
use Rattle.limbo_scope.specs.Laws.{declared_all}
use Rattle.limbo_local.specs.Points.{meaning_from}
use Rattle.limbo_scope.specs.declared.meaning.Meaning.{Meaning}
use Rattle.limbo_scope.specs.declared.meaning.Meaning.TheVariants as meaning
use Rattle.limbo_scope.specs.Scopes.{Scope, declared_here}
use Rattle.limbo_declarations.specs.Names.{AreOnce}
use Rattle.limbo_typed.specs.Sound.{Each}
use Rattle.limbo_locals.specs.declared.names.Lead.{Lead}
use Rattle.limbo_locals.specs.declared.names.Lead.TheVariants as lead

abbrev pub means : Lead → ℕ → Meaning
means lead.Variable n = meaning.Variable n
means lead.Constant n = meaning.Constant n
means lead.Type n = meaning.Type n
means lead.Import n = meaning.Import n
means lead.Exception n = meaning.Exception n
means lead.Function n = meaning.Function n

-- The innermost of the scopes declares none of them, and none stands twice.
abbrev pub AreFree : List (List ℕ) → List Scope → Type 0
AreFree names scopes = Each (λ n. declared_here n scopes ≡ None) names × AreOnce names

-- variables of these names, all of one type
abbrev pub variables_of : List (List ℕ) → Ty → List Var
variables_of names t = map (λ n. record { name = n; ty = t }) names

-- a body with them
abbrev pub with_variables_in : List (List ℕ) → Ty → Body → Body
with_variables_in names t b = record {
  scopes = declared_all (meaning_from meaning.Variable (length b.variables) names) b.scopes;
  variables = b.variables ++ variables_of names t;
}

-- the type once more for each name
abbrev pub types_of : List (List ℕ) → Ty → List Ty
types_of names t = map (λ n. t) names

-- exceptions of these names, of the module of this name, with values of these types
abbrev pub exceptions_of : (module_name : List ℕ) → List (List ℕ) → List Ty → List Exception
exceptions_of m names ts = map (λ n. record { module_name = m; name = n; values = ts }) names
