-- Functions (Limbo Language Reference, functions and modules), and all of a module.
use Rattle.std.specs.Prelude.{◌≡◌, ◌≢◌, ◌⊎◌, ℕ, suc, ◌++◌, List, [], ◌∷◌, Option, None, Some}
use Rattle.limbo_tree.specs.Decls as decls
use Rattle.limbo_tree.specs.Stmts as tree
use Rattle.limbo_types.specs.Types.{Ty, FnTy, Nothing}
use Rattle.limbo_typed.specs.Typed.{Var, Function, Stmt, Stmts, Block}
use Rattle.limbo_scope.specs.declared.meaning.Meaning.{Meaning}
use Rattle.limbo_scope.specs.declared.meaning.Meaning.TheVariants as meaning
use Rattle.limbo_scope.specs.Scopes.{Scope, entered}
use Rattle.limbo_scope.specs.Laws.{declared_all}
use Rattle.limbo_declarations.specs.Scopes.{FnIsOnce}
use Rattle.limbo_context.specs.Context.{Context, Body, Callee}
use Rattle.limbo_paths.specs.Paths.{Answers}
use Rattle.limbo_causes.specs.Causes.{Cause, Twice, nothing}
use Rattle.limbo_local.specs.Points.{Point}
use Rattle.limbo_local.specs.Local.{IsHeader}
use Rattle.limbo_local.specs.Failing.{FailsHeader}
use Rattle.limbo_stating.specs.Reasons.{Reason, ByPart, NoReturn}
use Rattle.limbo_stating.specs.Around.{Around}
use Rattle.limbo_stating.specs.Stating.{StatesBlock, one}
use Rattle.limbo_stating.specs.FailsToState.{FailsBlock}

-- A function where it is defined.
pub record Definition : Type 0 where
  pub name : List ℕ
  pub of : decls.FnType
  pub block : tree.Block

-- ---- parameters

abbrev pub parameter_names : List decls.Param → List (Option (List ℕ))
parameter_names [] = []
parameter_names (p ∷ ps) = p.names ++ parameter_names ps

-- A parameter that is written as `nil` is a variable without a name.
abbrev pub name_in : Option (List ℕ) → List ℕ
name_in None = []
name_in (Some n) = n

abbrev pub parameters : List (Option (List ℕ)) → List Ty → List Var
parameters [] ts = []
parameters (n ∷ ns) [] = []
parameters (n ∷ ns) (t ∷ ts) = (record { name = name_in n; ty = t }) ∷ parameters ns ts

abbrev pub parameter_meanings : ℕ → List (Option (List ℕ)) → List (List ℕ × Meaning)
parameter_meanings k [] = []
parameter_meanings k (None ∷ ns) = parameter_meanings (suc k) ns
parameter_meanings k (Some n ∷ ns) = (n, meaning.Variable k) ∷ parameter_meanings (suc k) ns

-- where the types of a definition are looked up
abbrev pub outside : List Scope → Body
outside scopes = record { scopes = scopes; variables = [] }

-- Where a function's block begins: its parameters stand in a scope of their own around it.
abbrev pub begins : Context → List Scope → Definition → FnTy → Point
begins c scopes d of = record {
  context = c;
  body =
      record {
        scopes = declared_all (parameter_meanings 0 (parameter_names d.of.params)) (entered scopes);
        variables = parameters (parameter_names d.of.params) of.args;
      };
  catches = 0;
}

-- what stands around it: no loop, and no handler
abbrev pub around : (module_name : List ℕ) → FnTy → Around
around m of = record { answer = of.answer; module_name = m; turns = []; caught = None }

-- ---- functions

-- the statements of a block that is a function's
abbrev pub body_of : Stmt → Stmts
body_of (Block zs) = zs
body_of z = one z

-- the function of a block, and of where it leads
abbrev pub function : Callee → Definition → Stmt → Point → Function
function f d block behind = record {
  name = d.name;
  owner = f.owner;
  of = f.of;
  variables = behind.body.variables;
  catches = behind.catches;
  body = body_of block;
}

-- A definition is this function, as it is declared: its parameters have other names each, its types are those of the declaration, and each
-- path of its block ends in an answer, if it has one. It leads to a context.
pub record IsFunction (m : List ℕ) (scopes : List Scope) (f : Callee) (d : Definition) (c : Context) (g : Function) (e : Context)
    : Type 0 where
  pub once : FnIsOnce d.of
  pub header : IsHeader c (outside scopes) d.of f.of
  pub stmt : Stmt
  pub behind : Point
  pub states : StatesBlock (around m f.of) (begins c scopes d f.of) d.block stmt behind
  pub answers : (f.of.answer ≡ Nothing) ⊎ Answers behind.context.adts (body_of stmt)
  pub gives : g ≡ function f d stmt behind
  pub goes_on : e ≡ behind.context

-- A parameter's name stands twice, a type fails, the types are others than the declared ones, the block fails, or a path ends without an
-- answer.
pub data FailsFunction (m : List ℕ) (scopes : List Scope) (f : Callee) (d : Definition) (c : Context) : Reason → Type 0 where
  again : (FnIsOnce d.of → ⊥) → FailsFunction m scopes f d c (ByPart Twice)
  a_type : (k : Cause) → FailsHeader c (outside scopes) d.of k → FailsFunction m scopes f d c (ByPart k)
  unlike : (of : FnTy) → IsHeader c (outside scopes) d.of of → of ≢ f.of → FailsFunction m scopes f d c (ByPart nothing)
  in_block : (k : Reason) → FailsBlock (around m f.of) (begins c scopes d f.of) d.block k → FailsFunction m scopes f d c k
  no_answer : (z : Stmt) (q : Point) → f.of.answer ≢ Nothing → StatesBlock (around m f.of) (begins c scopes d f.of) d.block z q
      → (Answers q.context.adts (body_of z) → ⊥) → FailsFunction m scopes f d c NoReturn

-- ---- all functions of a module, each by its declaration

abbrev pub AreFunctions : List ℕ → List Scope → List Callee → List Definition → Context → List Function → Context → Type 0
AreFunctions m scopes [] [] c [] e = e ≡ c
AreFunctions m scopes (f ∷ fs) (d ∷ ds) c (g ∷ gs) e =
    (b : Context) × IsFunction m scopes f d c g b × AreFunctions m scopes fs ds b gs e
AreFunctions m scopes _ _ c _ e = ⊥

pub data FailsSomeFunction (m : List ℕ) (scopes : List Scope) : List Callee → List Definition → Context → Reason → Type 0 where
  this_function : (f : Callee) (fs : List Callee) (d : Definition) (ds : List Definition) (c : Context) (k : Reason)
      → FailsFunction m scopes f d c k → FailsSomeFunction m scopes (f ∷ fs) (d ∷ ds) c k
  later_function : (f : Callee) (fs : List Callee) (d : Definition) (ds : List Definition) (c b : Context) (g : Function) (k : Reason)
      → IsFunction m scopes f d c g b → FailsSomeFunction m scopes fs ds b k → FailsSomeFunction m scopes (f ∷ fs) (d ∷ ds) c k
