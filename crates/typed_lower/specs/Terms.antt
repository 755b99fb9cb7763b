-- The code of expressions: it evaluates a tree and leaves its value at a place. Temporaries are used from one on; what stands below it is
-- in use.
use Rattle.std.specs.Prelude.{ℕ, suc, ℤ, pos, negsuc, ◌+◌, Bool, true, false, ◌&&◌, int_le, List, [], ◌∷◌, ◌++◌, length, Option, Some, None}
use Rattle.std.specs.Prelude.{if◌then◌else◌}
use Rattle.limbo_values.specs.declared.number.Kind.{Kind}
use Rattle.limbo_values.specs.declared.number.Kind.TheVariants.{Byte, Int, Big}
use Rattle.limbo_values.specs.declared.operator.Comparison.{Comparison}
use Rattle.limbo_values.specs.declared.operator.Comparison.TheVariants as c
use Rattle.limbo_typed.specs.declared.operation.Operation.{Operation}
use Rattle.limbo_typed.specs.declared.operation.Operation.TheVariants as operation
use Rattle.limbo_typed.specs.declared.operation.Connective.{Connective}
use Rattle.limbo_typed.specs.declared.operation.Connective.TheVariants as connective
use Rattle.limbo_typed.specs.declared.operation.Given.{Given}
use Rattle.limbo_typed.specs.declared.operation.Given.TheVariants as given
use Rattle.typed_meaning.specs.Trees.{Place, Term, Evaluated, Awaiting, Missing, Literal, Read, Apply, Lazy, Deciding, Store, Change, Put}
use Rattle.typed_meaning.specs.Trees.{Call, Print, Terms, NoTerms, MoreTerms}
use Rattle.typed_meaning.specs.Values.{kind_of}
use Rattle.slot_code.specs.Code.{Spot, Variable, Temporary, Argument, Operand, In, Number, Inst, Move, Hand, Alter, Operate, Branch, Skip}
use Rattle.slot_code.specs.Code.{Begin}
use Rattle.slot_code.specs.Code.{Format}
use Rattle.slot_code.specs.Code as code
use Rattle.typed_lower.specs.declared.taking.Taking.{Taking}
use Rattle.typed_lower.specs.declared.taking.Taking.TheVariants.{Any, Own, Short}
use Rattle.typed_lower.specs.Kinds.{kind_in, kind_at, kind_given, spot_of, leaf, makes_call, changes}

-- What an operand needs before it is there, and the operand.
pub record Ready : Type 0 where
  pub before : List Inst
  pub operand : Operand

-- The comparison that holds where this one doesn't.
abbrev pub opposite : Comparison → Comparison
opposite c.Equal = c.Unequal
opposite c.Unequal = c.Equal
opposite c.Less = c.AtLeast
opposite c.AtMost = c.Greater
opposite c.Greater = c.AtMost
opposite c.AtLeast = c.Less

-- A branch past so many instructions where a comparison of numbers of a kind holds, or where it doesn't.
abbrev pub branch : (where_true : Bool) → Kind → Comparison → Operand → Operand → (passes : ℕ) → Inst
branch true k c x y n = Branch k c x y n
branch false k c x y n = Branch k (opposite c) x y n

-- A tree as the code around it takes it: of which kind its value is, whether it is a leaf, whether it makes a call, whether it may change
-- what a leaf reads; its code, which leaves the value at a place; and its code as a condition, from where control passes so many
-- instructions where it holds, or where it doesn't.
pub record Part : Type 0 where
  pub kind : Kind
  pub leaf : Option Operand
  pub calls : Bool
  pub changes : Operand → Bool
  pub value : ℕ → Spot → List Inst
  pub branches : (where_true : Bool) → ℕ → (passes : ℕ) → List Inst

abbrev pub two : Ready → Ready → (Operand → Operand → Inst) → List Inst
two x y last = x.before ++ y.before ++ last x.operand y.operand ∷ []

abbrev pub one : Ready → (Operand → Inst) → List Inst
one x last = x.before ++ last x.operand ∷ []

-- An operand that stands in a temporary once this code has run.
abbrev pub kept : ℕ → Kind → (ℕ → Spot → List Inst) → Ready
kept d k value = record { before = value (suc d) (Temporary k d); operand = In (Temporary k d) }

-- A leaf is taken as it is, and what is none stands in a temporary.
abbrev pub ready_of : ℕ → Kind → Option Operand → (ℕ → Spot → List Inst) → Ready
ready_of d k (Some x) value = record { before = []; operand = x }
ready_of d k None value = kept d k value

abbrev pub ready : ℕ → Part → Ready
ready d p = ready_of d p.kind p.leaf p.value

-- So is a leaf in front of an operand that may change what it reads.
abbrev pub unless_changed : ℕ → Part → Option Operand → (Operand → Bool) → Ready
unless_changed d p (Some x) changes = if changes x then kept d p.kind p.value else record { before = []; operand = x }
unless_changed d p None changes = kept d p.kind p.value

abbrev pub ready_before : ℕ → Part → Part → Ready
ready_before d p q = unless_changed d p p.leaf q.changes

-- An operation of which one instruction of a machine reads the operands and a later one writes the result.
abbrev pub takes_long : Operation → Bool
takes_long (operation.Compare x k) = true
takes_long operation.Not = true
takes_long (operation.Convert Byte Big) = true
takes_long (operation.Convert Big Byte) = true
takes_long o = false

-- Such an operation takes what is the function's own: a variable of the module, which anybody may write meanwhile, is read first.
abbrev pub own : Option Operand → Option Operand
own (Some (In (code.Global k x))) = None
own l = l

-- A machine's instruction on three operands holds a number of at most 16 bits as the one in the middle, and reaches no variable far away by
-- it. So that operand is the function's own, or a short number.
abbrev pub is_short : ℤ → Bool
is_short z = int_le (negsuc 32767) z && int_le z (pos 32767)

abbrev pub short : Option Operand → Option Operand
short (Some (In (code.Global k x))) = None
short (Some (Number z)) = if is_short z then Some (Number z) else None
short l = l

-- What an instruction takes as it is, of an operand that is a leaf.
abbrev pub taken_by : Taking → Option Operand → Option Operand
taken_by Any l = l
taken_by Own l = own l
taken_by Short l = short l

abbrev pub long_taking : Bool → Taking
long_taking true = Own
long_taking false = Any

-- How an operation takes its left operand, or its only one, and its right one. The left one stands in the middle, but of a comparison the
-- right one. Where what stands in the middle is read first, so is what is left of it: it is the function's own too.
abbrev pub left_taking : Operation → Taking
left_taking (operation.Arithmetic x k) = Short
left_taking (operation.Shift s k) = Short
left_taking o = long_taking (takes_long o)

abbrev pub right_taking : Operation → Taking
right_taking (operation.Compare x k) = Short
right_taking o = Any

abbrev pub seen_by : Taking → Part → Part
seen_by y p = record p { leaf = taken_by y p.leaf }

-- What an instruction on two operands takes.
abbrev pub two_taken : Operation → ℕ → Part → Part → (Operand → Operand → Inst) → List Inst
two_taken o d p q last =
    two (ready_before d (seen_by (left_taking o) p) (seen_by (right_taking o) q)) (ready (suc d) (seen_by (right_taking o) q)) last

-- What an operation gives.
abbrev pub applied : Operation → List Part → ℕ → Spot → List Inst
applied o (p ∷ []) d s = one (ready d (seen_by (left_taking o) p)) (λ x. Alter o s x)
applied o (p ∷ q ∷ []) d s = two_taken o d p q (λ x y. Operate o s x y)
applied o ps d s = []

-- A value is tested, and so is a comparison, which needs no value.
abbrev pub tested : Bool → Kind → Ready → (passes : ℕ) → List Inst
tested w k x n = one x (λ x. branch w k c.Unequal x (Number (pos 0)) n)

abbrev pub compared : Operation → List Part → Kind → (ℕ → Spot → List Inst) → Bool → ℕ → (passes : ℕ) → List Inst
compared (operation.Compare o j) (p ∷ q ∷ []) k value w d n = two_taken (operation.Compare o j) d p q (λ x y. branch w j o x y n)
compared o ps k value w d n = tested w k (kept d k value) n

-- `&&` passes where the left operand doesn't hold, and `||` where it does: to where control passes if that decides so, and else behind the
-- right operand.
abbrev pub connected : Connective → Part → Part → (where_true : Bool) → ℕ → (passes : ℕ) → List Inst
connected connective.And l r true d n = l.branches false d (length (r.branches true d n)) ++ r.branches true d n
connected connective.Or l r true d n = l.branches true d (length (r.branches true d n) + n) ++ r.branches true d n
connected connective.And l r false d n = l.branches false d (length (r.branches false d n) + n) ++ r.branches false d n
connected connective.Or l r false d n = l.branches true d (length (r.branches false d n)) ++ r.branches false d n

-- The 1 or 0 of a condition.
abbrev pub truth_of : (Bool → ℕ → ℕ → List Inst) → ℕ → Spot → List Inst
truth_of branches d s = branches false d 2 ++ Hand s (Number (pos 1)) ∷ Skip 1 ∷ Hand s (Number (pos 0)) ∷ []

-- An assignment whose value is looked at stands in a temporary first.
abbrev pub assigned_first : Part → Spot → ℕ → Spot → List Inst
assigned_first p to d s =
    p.value (suc d) (Temporary p.kind d) ++ Move to (In (Temporary p.kind d)) ∷ Hand s (In (Temporary p.kind d)) ∷ []

-- So does that of an assignment with an operator, and of `++` and `--`: the value that the place had, or the one that it has then. The
-- operation reads its operands before it writes, so what it gives may stand where one of them stood.
abbrev pub changed : Given → Operation → Kind → Spot → List Part → ℕ → Spot → List Inst
changed given.Old o k to ps d s =
    Move (Temporary k d) (In to) ∷ Alter o to (In (Temporary k d)) ∷ Hand s (In (Temporary k d)) ∷ []
changed given.New o k to ps d s =
    applied o ps d (Temporary k d) ++ Move to (In (Temporary k d)) ∷ Hand s (In (Temporary k d)) ∷ []

-- A call is made ready in front of its first argument; but where that makes a call itself, it comes before. The arguments are put where the
-- call takes them, in their order.
abbrev pub first_put : (calls : Bool) → Part → (begin : Inst) → ℕ → List Inst
first_put true p begin d =
    p.value (suc d) (Temporary p.kind d) ++ begin ∷ Hand (Argument p.kind 0) (In (Temporary p.kind d)) ∷ []
first_put false p begin d = begin ∷ p.value d (Argument p.kind 0)

abbrev pub all_put : (number : ℕ) → List Part → ℕ → List Inst
all_put i [] d = []
all_put i (p ∷ ps) d = p.value d (Argument p.kind i) ++ all_put (suc i) ps d

abbrev pub made_ready : (begin : Inst) → List Part → ℕ → List Inst
made_ready begin [] d = begin ∷ []
made_ready begin (p ∷ ps) d = first_put p.calls p begin d ++ all_put 1 ps d

-- What a print answers comes to a temporary, as a reply may bring it, and is handed on.
abbrev pub answered : (arguments : ℕ) → ℕ → Spot → List Inst
answered n d s = code.Print n (Temporary Int d) ∷ Hand s (In (Temporary Int d)) ∷ []

abbrev pub from_leaf : Option Operand → Spot → List Inst
from_leaf None s = []
from_leaf (Some x) s = Move s x ∷ []

-- A part, by its code and its code as a condition; and one whose value is tested.
abbrev pub part : Term → (ℕ → Spot → List Inst) → (Bool → ℕ → ℕ → List Inst) → Part
part t value branches = record {
  kind = kind_in t;
  leaf = leaf t;
  calls = makes_call t;
  changes = λ x. changes x t;
  value = value;
  branches = branches;
}

abbrev pub plain : Term → (ℕ → Spot → List Inst) → Part
plain t value = part t value (λ w d n. tested w (kind_in t) (ready_of d (kind_in t) (leaf t) value) n)

-- how many trees there are
abbrev pub count : Terms → ℕ
count NoTerms = 0
count (MoreTerms t ts) = suc (count ts)

abbrev mutual
  pub part_of : Term → Part
  part_of (Evaluated v) = plain (Evaluated v) (λ d s. [])
  part_of (Awaiting t) = plain (Awaiting t) (λ d s. [])
  part_of Missing = plain Missing (λ d s. [])
  part_of (Literal t v) = plain (Literal t v) (λ d s. from_leaf (leaf (Literal t v)) s)
  part_of (Read p) = plain (Read p) (λ d s. from_leaf (leaf (Read p)) s)
  part_of (Apply o ts) =
      part (Apply o ts) (applied o (parts_of ts)) (compared o (parts_of ts) (kind_given o) (applied o (parts_of ts)))
  part_of (Lazy c l r) =
      part (Lazy c l r) (truth_of (connected c (part_of l) (part_of r))) (connected c (part_of l) (part_of r))
  part_of (Deciding r) = plain (Deciding r) (λ d s. [])
  part_of (Store p t) = plain (Store p t) (assigned_first (part_of t) (spot_of p))
  part_of (Change o g p ts) = plain (Change o g p ts) (changed g o (kind_at p) (spot_of p) (parts_of ts))
  part_of (Put p v w) = plain (Put p v w) (λ d s. [])
  part_of (Call t f ts) = plain (Call t f ts) (λ d s. made_ready (Begin f) (parts_of ts) d ++ code.Call (kind_of t) f (count ts) s ∷ [])
  part_of (Print ps ts) = plain (Print ps ts) (λ d s. made_ready (Format ps) (parts_of ts) d ++ answered (count ts) d s)

  pub parts_of : Terms → List Part
  parts_of NoTerms = []
  parts_of (MoreTerms t ts) = part_of t ∷ parts_of ts

-- The code of a tree, whose value it leaves there; of a condition; and of an assignment, whose value goes straight to the place.
abbrev pub code_of : ℕ → Term → Spot → List Inst
code_of d t s = (part_of t).value d s

abbrev pub branches : (where_true : Bool) → ℕ → Term → (passes : ℕ) → List Inst
branches w d t n = (part_of t).branches w d n

abbrev pub stored : ℕ → Place → Term → List Inst
stored d p t = (part_of t).value d (spot_of p)
