-- What holds of statements and functions.
use Rattle.std.specs.Prelude.{◌≡◌, ℕ, List}
use Rattle.limbo_tree.specs.Stmts as tree
use Rattle.limbo_typed.specs.Typed.{Stmt, Function}
use Rattle.limbo_scope.specs.Scopes.{Scope}
use Rattle.limbo_context.specs.Context.{Context, Callee}
use Rattle.limbo_local.specs.Points.{Point}
use Rattle.limbo_stating.specs.Reasons.{Reason}
use Rattle.limbo_stating.specs.Around.{Around}
use Rattle.limbo_stating.specs.Stating.{States, StatesBlock}
use Rattle.limbo_stating.specs.FailsToState.{FailsToState, FailsBlock}
use Rattle.limbo_stating.specs.Functions.{Definition, AreFunctions, FailsSomeFunction}

-- A statement is one typed statement at most, and leads to one point; so are a block and the functions of a module.
abbrev pub OneStatement : Type 0
OneStatement =
    (v : Around) (s : tree.Stmt) (p q r : Point) (y z : Stmt) → States v p s y q → States v p s z r → (y ≡ z) × (q ≡ r)

abbrev pub OneBlock : Type 0
OneBlock =
    (v : Around) (b : tree.Block) (p q r : Point) (y z : Stmt) → StatesBlock v p b y q → StatesBlock v p b z r → (y ≡ z) × (q ≡ r)

abbrev pub OneModule : Type 0
OneModule =
    (m : List ℕ) (scopes : List Scope) (fs : List Callee) (ds : List Definition) (c d e : Context) (gs hs : List Function)
    → AreFunctions m scopes fs ds c gs d → AreFunctions m scopes fs ds c hs e → (gs ≡ hs) × (d ≡ e)

-- What fails, by whatever reason, is none.
abbrev pub FailsOrStates : Type 0
FailsOrStates = (v : Around) (s : tree.Stmt) (p q : Point) (k : Reason) (z : Stmt) → FailsToState v p s k → States v p s z q → ⊥

abbrev pub FailsOrBlock : Type 0
FailsOrBlock = (v : Around) (b : tree.Block) (p q : Point) (k : Reason) (z : Stmt) → FailsBlock v p b k → StatesBlock v p b z q → ⊥

abbrev pub FailsOrModule : Type 0
FailsOrModule =
    (m : List ℕ) (scopes : List Scope) (fs : List Callee) (ds : List Definition) (c e : Context) (k : Reason) (gs : List Function)
    → FailsSomeFunction m scopes fs ds c k → AreFunctions m scopes fs ds c gs e → ⊥
