-- Constants, types, imported names and exceptions that a body declares (Limbo Language Reference, declarations and scope).
use Rattle.std.specs.Prelude.{◌≡◌, ℕ, pos, suc, ◌++◌, List, [], ◌∷◌, length, map, Option, None, Some, codes}
use Rattle.limbo_tree.specs.Exprs as tree
use Rattle.limbo_tree.specs.Types as written
use Rattle.limbo_tree.specs.Decls as decls
use Rattle.limbo_types.specs.Types.{Ty, FnTy, Int, Nothing}
use Rattle.limbo_typed.specs.declared.stmt.Constant.TheVariants as constant
use Rattle.limbo_typed.specs.Typed.{Expr}
use Rattle.limbo_typed.specs.Sound.{type_of}
use Rattle.limbo_scope.specs.declared.meaning.Meaning.{Meaning}
use Rattle.limbo_scope.specs.declared.meaning.Meaning.TheVariants as meaning
use Rattle.limbo_scope.specs.Scopes.{seen, entered, declared, left}
use Rattle.limbo_allowed.specs.Allowed.{IsUserModule}
use Rattle.limbo_context.specs.declared.context.Imported.{Imported}
use Rattle.limbo_context.specs.declared.context.Origin.{Origin}
use Rattle.limbo_context.specs.declared.context.Origin.TheVariants as origin
use Rattle.limbo_context.specs.Context.{Context, Body, Valued, named_in}
use Rattle.limbo_typing.specs.limbo_body_types.Means.{module_led}
use Rattle.limbo_typing.specs.limbo_written.Written.{MeansPermitted}
use Rattle.limbo_typing.specs.limbo_folding.Folding.{value_of}
use Rattle.limbo_typing.specs.Typing.{HasValue}
use Rattle.limbo_local.specs.Points.{Point, with_body, leading}

-- ---- constants

-- `iota` in the constant of a declaration that has this place in it: a constant, where nothing else is declared by this name.
abbrev pub iota : List ℕ
iota = codes "iota"

abbrev pub counting : ℕ → Context → Context
counting k c = record c { constants = c.constants ++ (record { ty = Int; value = constant.Number (pos k) }) ∷ [] }

-- and the scopes in which it is seen
abbrev pub seeing : Option Meaning → Context → Body → Body
seeing (Some m) c b = b
seeing None c b =
    record { scopes = declared iota (meaning.Constant (length c.constants)) (entered b.scopes); variables = b.variables }

abbrev pub seeing_iota : Context → Body → Body
seeing_iota c b = seeing (seen iota b.scopes) c b

-- and what is there behind it: the scope of `iota` ends
abbrev pub seen_behind : Option Meaning → Body → Body
seen_behind (Some m) b = b
seen_behind None b = record { scopes = left b.scopes; variables = b.variables }

abbrev pub without_iota : Body → Body → Body
without_iota before b = seen_behind (seen iota before.scopes) b

-- The expression is constant, and its value is that of the name with this place.
pub record IsConstant (p : Point) (e : tree.Expr) (k : ℕ) (v : Valued) (q : Point) : Type 0 where
  pub value : Expr
  pub behind : Body
  pub has : HasValue (counting k p.context) (seeing_iota p.context p.body) e value behind
  pub known : value_of value ≡ Some v.value
  pub of : v.ty ≡ type_of value
  pub goes_on : q ≡ with_body (without_iota p.body behind) p

-- one for each name, from the one with this place on
abbrev pub AreConstants : tree.Expr → ℕ → List (List ℕ) → List Valued → Point → Point → Type 0
AreConstants e k [] [] p q = q ≡ p
AreConstants e k (n ∷ ns) (v ∷ vs) p q = (r : Point) × IsConstant p e k v r × AreConstants e (suc k) ns vs r q
AreConstants e k _ _ p q = ⊥

abbrev pub with_constants : List (List ℕ) → List Valued → Point → Point
with_constants names vs p =
    leading (record p.context { constants = p.context.constants ++ vs }) meaning.Constant (length p.context.constants) names p

-- ---- types

abbrev pub with_types : List (List ℕ) → Ty → Point → Point
with_types names t p =
    leading (record p.context { types = p.context.types ++ map (λ n. t) names }) meaning.Type (length p.context.types) names p

-- ---- imported names

-- what a name is imported from that means this
abbrev pub origin_of : Meaning → Origin
origin_of (meaning.Variable x) = origin.Local x
origin_of (meaning.Global x) = origin.Global x
origin_of _ = origin.Type

-- The name is that of a variable which holds such a module, or of the module itself.
pub record NamesModule (p : Point) (name : List ℕ) (from : Origin) (interface : ℕ) : Type 0 where
  pub means : Meaning
  pub is_seen : seen name p.body.scopes ≡ Some means
  pub leads : module_led p.context p.body means ≡ Some interface
  pub is : from ≡ origin_of means

abbrev pub IsImported : Context → Origin → ℕ → List ℕ → Imported → Type 0
IsImported c from i name x =
    (m : Meaning) × (named_in c.exports i name ≡ Some m) × (x ≡ record { origin = from; interface = i; member = m })

abbrev pub AreImported : Context → Origin → ℕ → List (List ℕ) → List Imported → Type 0
AreImported c from i [] [] = Unit {0}
AreImported c from i (n ∷ ns) (x ∷ xs) = IsImported c from i n x × AreImported c from i ns xs
AreImported c from i _ _ = ⊥

abbrev pub with_imports : List (List ℕ) → List Imported → Point → Point
with_imports names xs p =
    leading (record p.context { imports = p.context.imports ++ xs }) meaning.Import (length p.context.imports) names p

-- ---- exceptions

-- exceptions of the implemented module, which has this name
abbrev pub with_exceptions : (module_name : List ℕ) → List (List ℕ) → List Ty → Point → Point
with_exceptions m names ts p =
    leading
    (record p.context { exceptions = p.context.exceptions ++ map (λ n. record { module_name = m; name = n; values = ts }) names })
    meaning.Exception (length p.context.exceptions) names p

-- ---- functions

-- The types of the arguments, in order: several names may be written before one type.
abbrev pub argument_types : List decls.Param → List written.Ty
argument_types [] = []
argument_types (p ∷ ps) = map (λ n. p.of) p.names ++ argument_types ps

-- Written types mean these, which values may have.
abbrev pub ArePermitted : Context → Body → List written.Ty → List Ty → Type 0
ArePermitted c b [] [] = Unit {0}
ArePermitted c b (t ∷ ts) (u ∷ us) = MeansPermitted c b t u × ArePermitted c b ts us
ArePermitted c b _ _ = ⊥

-- No function answers a value of a user's module.
abbrev pub IsAnswer : Context → Body → Option written.Ty → Ty → Type 0
IsAnswer c b None u = u ≡ Nothing
IsAnswer c b (Some t) u = MeansPermitted c b t u × (IsUserModule c.system u → ⊥)

-- What a function takes and answers.
pub record IsHeader (c : Context) (b : Body) (f : decls.FnType) (of : FnTy) : Type 0 where
  pub args : ArePermitted c b (argument_types f.params) of.args
  pub answer : IsAnswer c b f.answer of.answer
