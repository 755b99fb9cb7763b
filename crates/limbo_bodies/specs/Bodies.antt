-- Where the bodies of functions begin (Limbo Language Reference, functions and scope).
use Rattle.std.specs.Prelude.{◌≡◌, ℕ, List, [], ◌∷◌, ◌++◌, Option, None, Some}
use Rattle.limbo_tree.specs.Decls.{Param}
use Rattle.limbo_types.specs.Types.{Ty, FnTy}
use Rattle.limbo_scope.specs.declared.meaning.Meaning.{Meaning}
use Rattle.limbo_scope.specs.Scopes.{Scope, entered, declared_here}
use Rattle.limbo_context.specs.Context.{Body, with_variable}

-- The names of the parameters, in order: none for `nil`.
abbrev pub parameter_names : List Param → List (Option (List ℕ))
parameter_names [] = []
parameter_names (p ∷ ps) = p.names ++ parameter_names ps

-- A parameter is a variable of the function. One that is written as `nil` stands in no scope, and its variable has the empty name.
abbrev pub with_parameter : Option (List ℕ) → Ty → Body → Body
with_parameter None t b = record { scopes = b.scopes; variables = b.variables ++ (record { name = []; ty = t }) ∷ [] }
with_parameter (Some name) t b = with_variable name t b

abbrev pub with_parameters : List (Option (List ℕ)) → List Ty → Body → Body
with_parameters [] ts b = b
with_parameters (n ∷ ns) [] b = b
with_parameters (n ∷ ns) (t ∷ ts) b = with_parameters ns ts (with_parameter n t b)

-- A body begins in the scope of its parameters, which stands in these scopes.
abbrev pub begun : List Scope → List Param → FnTy → Body
begun outermost params of = with_parameters (parameter_names params) of.args (record { scopes = entered outermost; variables = [] })

-- Of parameters that are declared one after the other, one has a name that the scope declares already.
pub data RepeatsName : List (Option (List ℕ)) → List Ty → Body → Type 0 where
  this : (name : List ℕ) (ns : List (Option (List ℕ))) (t : Ty) (ts : List Ty) (b : Body) (x : Meaning)
      → declared_here name b.scopes ≡ Some x → RepeatsName (Some name ∷ ns) (t ∷ ts) b
  further : (n : Option (List ℕ)) (ns : List (Option (List ℕ))) (t : Ty) (ts : List Ty) (b : Body)
      → RepeatsName ns ts (with_parameter n t b) → RepeatsName (n ∷ ns) (t ∷ ts) b
