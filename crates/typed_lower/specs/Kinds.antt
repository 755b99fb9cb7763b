-- Of which kind values are, and what evaluating a tree may write.
use Rattle.std.specs.Prelude.{nat_eq, Bool, true, false, not, ◌||◌, Option, Some, None}
use Rattle.limbo_types.specs.Types.{Ty}
use Rattle.limbo_values.specs.declared.number.Kind.{Kind}
use Rattle.limbo_values.specs.declared.number.Kind.TheVariants.{Int}
use Rattle.limbo_typed.specs.declared.operation.Operation.{Operation}
use Rattle.limbo_typed.specs.declared.operation.Operation.TheVariants as operation
use Rattle.system_model.specs.Values.{Num}
use Rattle.typed_meaning.specs.Values.{kind_of}
use Rattle.typed_meaning.specs.Trees.{PlaceNode, Local, Global, Place, At, Term, Evaluated, Awaiting, Missing, Literal, Read, Apply, Lazy}
use Rattle.typed_meaning.specs.Trees.{Deciding, Store, Change, Put, Call, Print, Terms, NoTerms, MoreTerms}
use Rattle.slot_code.specs.Code.{Spot, Operand, In, Number}
use Rattle.slot_code.specs.Code as code

-- ---- kinds

abbrev pub kind_at : Place → Kind
kind_at (At t n) = kind_of t

-- of what an operation gives
abbrev pub kind_given : Operation → Kind
kind_given (operation.Arithmetic o k) = k
kind_given (operation.Shift s k) = k
kind_given (operation.Alter u k) = k
kind_given (operation.Convert from to) = to
kind_given _ = Int

-- of the value of a tree of which nothing is evaluated
abbrev pub kind_in : Term → Kind
kind_in (Evaluated v) = Int
kind_in (Awaiting t) = kind_of t
kind_in Missing = Int
kind_in (Literal t v) = kind_of t
kind_in (Read p) = kind_at p
kind_in (Apply o ts) = kind_given o
kind_in (Lazy c l r) = Int
kind_in (Deciding r) = Int
kind_in (Store p t) = kind_at p
kind_in (Change o g p ts) = kind_at p
kind_in (Put p v w) = kind_at p
kind_in (Call t f ts) = kind_of t
kind_in (Print ps ts) = Int

-- ---- places and leaves

abbrev pub spot_at : Ty → PlaceNode → Spot
spot_at t (Local x) = code.Variable (kind_of t) x
spot_at t (Global x) = code.Global (kind_of t) x

abbrev pub spot_of : Place → Spot
spot_of (At t n) = spot_at t n

-- A constant or a variable, which an instruction may take as it is.
abbrev pub leaf : Term → Option Operand
leaf (Literal t (Num z)) = Some (Number z)
leaf (Read p) = Some (In (spot_of p))
leaf _ = None

-- ---- what evaluating a tree may change

-- Whether it makes a call.
abbrev mutual
  pub makes_call : Term → Bool
  makes_call (Evaluated v) = false
  makes_call (Awaiting t) = false
  makes_call Missing = false
  makes_call (Literal t v) = false
  makes_call (Read p) = false
  makes_call (Apply o ts) = make_call ts
  makes_call (Lazy c l r) = makes_call l || makes_call r
  makes_call (Deciding r) = makes_call r
  makes_call (Store p t) = makes_call t
  makes_call (Change o g p ts) = make_call ts
  makes_call (Put p v w) = false
  makes_call (Call t f ts) = true
  makes_call (Print ps ts) = true

  pub make_call : Terms → Bool
  make_call NoTerms = false
  make_call (MoreTerms t ts) = makes_call t || make_call ts

abbrev pub is_node : PlaceNode → PlaceNode → Bool
is_node (Local x) (Local y) = nat_eq x y
is_node (Global x) (Global y) = nat_eq x y
is_node _ _ = false

abbrev pub is_at : PlaceNode → Place → Bool
is_at n (At t m) = is_node n m

-- Whether it writes this place itself.
module _ (n : PlaceNode) where
  abbrev mutual
    pub writes : Term → Bool
    writes (Evaluated v) = false
    writes (Awaiting t) = false
    writes Missing = false
    writes (Literal t v) = false
    writes (Read p) = false
    writes (Apply o ts) = write ts
    writes (Lazy c l r) = writes l || writes r
    writes (Deciding r) = writes r
    writes (Store p t) = is_at n p || writes t
    writes (Change o g p ts) = is_at n p || write ts
    writes (Put p v w) = is_at n p
    writes (Call t f ts) = write ts
    writes (Print ps ts) = write ts

    pub write : Terms → Bool
    write NoTerms = false
    write (MoreTerms t ts) = writes t || write ts

-- Whether a leaf can't wait until this tree is evaluated: a variable of the function that it writes; and a variable of the module, which
-- anybody may write meanwhile, unless the tree is a leaf too, so that one instruction reads both.
abbrev pub is_leaf : Option Operand → Bool
is_leaf None = false
is_leaf (Some x) = true

abbrev pub changes_spot : Spot → Term → Bool
changes_spot (code.Variable k x) t = writes (Local x) t
changes_spot (code.Global k x) t = not (is_leaf (leaf t))
changes_spot s t = false

abbrev pub changes : Operand → Term → Bool
changes (In s) t = changes_spot s t
changes (Number z) t = false
