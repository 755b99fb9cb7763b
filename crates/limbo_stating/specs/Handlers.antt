-- The arms of a handler (Limbo Language Reference, exceptions).
use Rattle.std.specs.Prelude.{◌≡◌, ℕ, ◌==◌, if◌then◌else◌, List, [], ◌∷◌, length, Option, None, Some, option_map, slice_get}
use Rattle.limbo_tree.specs.Stmts as stmts
use Rattle.limbo_types.specs.Types.{Ty, Chars, Tuple}
use Rattle.limbo_types.specs.View.{tys_of}
use Rattle.limbo_typed.specs.declared.stmt.HandlerPattern.{HandlerPattern}
use Rattle.limbo_typed.specs.declared.stmt.HandlerPattern.TheVariants as handler
use Rattle.limbo_typed.specs.Typed.{Exception, HandlerHead}
use Rattle.limbo_refusals.specs.Refusals.{Refusal, NoneIs}
use Rattle.limbo_causes.specs.Causes.{Cause, Refused}
use Rattle.limbo_context.specs.Context.{Context, Body}
use Rattle.limbo_things.specs.Things.{Thing, AnException, NameIs}
use Rattle.limbo_local.specs.limbo_permits.Permits.{Permits, ForbidsType}
use Rattle.limbo_local.specs.limbo_typing.Failing.{FailsName, unfit}
use Rattle.limbo_local.specs.Points.{Point, with_variables}

-- ---- patterns

-- what stands before a `*` at the end
abbrev pub starred : List ℕ → Option (List ℕ)
starred [] = None
starred (c ∷ []) = if c == 42 then Some [] else None
starred (c ∷ d ∷ cs) = option_map (λ text. c ∷ text) (starred (d ∷ cs))

-- A text that ends in `*` takes the strings that begin so.
abbrev pub text_pattern : List ℕ → HandlerPattern
text_pattern s = elim (starred s) [ None ↦ handler.Chars s | Some t ↦ handler.Prefix t ]

-- A name is that of a declared exception.
abbrev pub IsHandled : Context → Body → stmts.HandlerPattern → HandlerPattern → Type 0
IsHandled c b (stmts.Text s) z = z ≡ text_pattern s
IsHandled c b (stmts.Declared n) z = (i : ℕ) × NameIs c b n (AnException i) × (z ≡ handler.Declared i)
IsHandled c b stmts.AnyException z = z ≡ handler.Any

abbrev pub AreHandled : Context → Body → List stmts.HandlerPattern → List HandlerPattern → Type 0
AreHandled c b [] [] = Unit {0}
AreHandled c b (x ∷ xs) (z ∷ zs) = IsHandled c b x z × AreHandled c b xs zs
AreHandled c b _ _ = ⊥

-- A name is none, or is something else than an exception.
pub data FailsHandled (c : Context) (b : Body) : List stmts.HandlerPattern → Cause → Type 0 where
  no_name : (n : List ℕ) (xs : List stmts.HandlerPattern) (k : Cause) → FailsName c b n k → FailsHandled c b (stmts.Declared n ∷ xs) k
  no_exception : (n : List ℕ) (xs : List stmts.HandlerPattern) (t : Thing) → NameIs c b n t → NoneIs (λ i. t ≡ AnException i)
      → FailsHandled c b (stmts.Declared n ∷ xs) (unfit t)
  later : (x : stmts.HandlerPattern) (xs : List stmts.HandlerPattern) (k : Cause) → FailsHandled c b xs k → FailsHandled c b (x ∷ xs) k

-- ---- what the name has

-- All are declared exceptions with values of these types.
abbrev pub Carries : Context → HandlerPattern → List Ty → Type 0
Carries c (handler.Declared n) ts = (e : Exception) × (slice_get c.exceptions n ≡ Some e) × (e.values ≡ ts)
Carries c _ ts = ⊥

abbrev pub AllCarry : Context → List HandlerPattern → List Ty → Type 0
AllCarry c [] ts = ⊥
AllCarry c (z ∷ []) ts = Carries c z ts
AllCarry c (z ∷ y ∷ zs) ts = Carries c z ts × AllCarry c (y ∷ zs) ts

-- Where all are declared exceptions whose values have equal types, the tuple of these; else the exception's text.
pub data IsCaught (c : Context) (zs : List HandlerPattern) : Ty → Type 0 where
  values : (ts : List Ty) → AllCarry c zs ts → IsCaught c zs (Tuple (tys_of ts))
  text : NoneIs (AllCarry c zs) → IsCaught c zs Chars

-- ---- arms

-- Where the handler has a name, it is a variable of the arm.
abbrev pub HasName : Point → (name : Option (List ℕ)) → List HandlerPattern → HandlerHead → Point → Type 0
HasName p None zs h q = (h ≡ record { patterns = zs; variable = None }) × (q ≡ p)
HasName p (Some n) zs h q =
    (t : Ty) × IsCaught p.context zs t × Permits p.context t
    × (h ≡ record { patterns = zs; variable = Some (length p.body.variables) }) × (q ≡ with_variables (n ∷ []) t p)

abbrev pub IsHandlerHead : (name : Option (List ℕ)) → Point → List stmts.HandlerPattern → HandlerHead → Point → Type 0
IsHandlerHead name p xs h q = (zs : List HandlerPattern) × AreHandled p.context p.body xs zs × HasName p name zs h q

-- A pattern fails, or the tuple of the values is too large.
pub data FailsHandlerHead (p : Point) (xs : List stmts.HandlerPattern) : (name : Option (List ℕ)) → Cause → Type 0 where
  a_pattern : (name : Option (List ℕ)) (k : Cause) → FailsHandled p.context p.body xs k → FailsHandlerHead p xs name k
  the_name : (n : List ℕ) (zs : List HandlerPattern) (t : Ty) (r : Refusal) → AreHandled p.context p.body xs zs
      → IsCaught p.context zs t → ForbidsType p.context t r → FailsHandlerHead p xs (Some n) (Refused r)
