-- What holds of the typed trees of expressions.
use Rattle.std.specs.Prelude.{◌≡◌, ℕ, ◌<◌, List, ◌++◌}
use Rattle.limbo_types.specs.Types.{Ty}
use Rattle.limbo_lexer.specs.declared.token.Kind.{Kind}
use Rattle.limbo_lexer.specs.Tokens.{HasTokenList}
use Rattle.limbo_tree.specs.Exprs as tree
use Rattle.limbo_tree.specs.Exprs.{spell}
use Rattle.limbo_typed.specs.Typed.{Expr, Pattern, Var, Module}
use Rattle.limbo_typed.specs.Sound.{Each, IsSettled, type_of, IsNamed, SoundExpr, SoundPattern}
use Rattle.limbo_context.specs.Context.{Context, Body}
use Rattle.limbo_assigning.specs.Assigning.{Takes}
use Rattle.limbo_channels.specs.Laws.{SoundAs}
use Rattle.limbo_typing.specs.Typing.{HasValue, Types, IsPattern}
use Rattle.limbo_typed_sound.specs.Describing.{Begins, HasTypes, Describes, IsWell}
use Rattle.limbo_typed_sound.specs.Proper.{Throughout, IsInRange, TokenInRange}

-- An expression stands where the body of a function of a module has come to.
pub record Placed (m : Module) (c : Context) (b : Body) (e : tree.Expr) : Type 0 where
  pub types : HasTypes m
  pub describes : Describes m c
  pub well : IsWell m c b
  pub numbers : Throughout IsInRange e

-- Its typed tree is sound, once no `nil` in its type is open, in a function whose variables begin with those that there are behind it.
abbrev pub TypedAreSound : Type 0
TypedAreSound =
    (m : Module) (c : Context) (b b' : Body) (e : tree.Expr) (x : Expr) (vs : List Var) → Placed m c b e → Types c b e x b'
    → Begins b'.variables vs → IsSettled (type_of x) → SoundExpr m vs x

abbrev pub ValuesAreSound : Type 0
ValuesAreSound =
    (m : Module) (c : Context) (b b' : Body) (e : tree.Expr) (x : Expr) (vs : List Var) → Placed m c b e → HasValue c b e x b'
    → Begins b'.variables vs → IsSettled (type_of x) → SoundExpr m vs x

-- Open or not, it is sound as what it is where a type of the module is asked for.
abbrev pub TypedAreSoundAs : Type 0
TypedAreSoundAs =
    (m : Module) (c : Context) (b b' : Body) (e : tree.Expr) (x : Expr) (vs : List Var) (t : Ty) → Placed m c b e → Types c b e x b'
    → Begins b'.variables vs → IsNamed m t → SoundAs m vs t x

abbrev pub ValuesAreSoundAs : Type 0
ValuesAreSoundAs =
    (m : Module) (c : Context) (b b' : Body) (e : tree.Expr) (x : Expr) (vs : List Var) (t : Ty) → Placed m c b e → HasValue c b e x b'
    → Begins b'.variables vs → IsNamed m t → SoundAs m vs t x

-- A left side is sound for each type whose values it takes.
abbrev pub PatternsAreSound : Type 0
PatternsAreSound =
    (m : Module) (c : Context) (b b' : Body) (e : tree.Expr) (p : Pattern) (vs : List Var) (t : Ty) → Placed m c b e
    → IsPattern c b e p b' → Begins b'.variables vs → Takes p t → SoundPattern m vs p t

-- ---- numbers

-- The numbers of an expression are in their ranges where those of the tokens are that spell it.
abbrev pub SpelledInRange : Type 0
SpelledInRange = (e : tree.Expr) (behind : List Kind) → Each TokenInRange (spell e behind) → Throughout IsInRange e

-- Those of a text's tokens are, where its characters are code points.
abbrev pub TokensInRange : Type 0
TokensInRange = (text : List ℕ) (tokens : List Kind) → Each (λ c. c < 1114112) text → HasTokenList text tokens → Each TokenInRange tokens

-- ---- bodies

-- Behind an expression a body has the variables that it had before, and maybe more.
abbrev pub Grows : Body → Body → Type 0
Grows b b' = (more : List Var) × (b'.variables ≡ b.variables ++ more)

abbrev pub TypedGrow : Type 0
TypedGrow = (c : Context) (b b' : Body) (e : tree.Expr) (x : Expr) → Types c b e x b' → Grows b b'

abbrev pub ValuesGrow : Type 0
ValuesGrow = (c : Context) (b b' : Body) (e : tree.Expr) (x : Expr) → HasValue c b e x b' → Grows b b'

abbrev pub PatternsGrow : Type 0
PatternsGrow = (c : Context) (b b' : Body) (e : tree.Expr) (p : Pattern) → IsPattern c b e p b' → Grows b b'

-- Where a body is well, it is well behind an expression.
abbrev pub TypedStayWell : Type 0
TypedStayWell =
    (m : Module) (c : Context) (b b' : Body) (e : tree.Expr) (x : Expr) → Describes m c → IsWell m c b → Types c b e x b'
    → IsWell m c b'

abbrev pub ValuesStayWell : Type 0
ValuesStayWell =
    (m : Module) (c : Context) (b b' : Body) (e : tree.Expr) (x : Expr) → Describes m c → IsWell m c b → HasValue c b e x b'
    → IsWell m c b'

abbrev pub PatternsStayWell : Type 0
PatternsStayWell =
    (m : Module) (c : Context) (b b' : Body) (e : tree.Expr) (p : Pattern) → Describes m c → IsWell m c b → IsPattern c b e p b'
    → IsWell m c b'
