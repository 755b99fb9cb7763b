-- How a process ends: only as its first function returns, where a call would be one frame too many, or where something is divided by 0.
use Rattle.std.specs.Prelude.{ℕ, ℤ, ◌≡◌, ◌≤◌, ◌⊎◌, List, [], ◌∷◌, Option, None, Some, codes}
use Rattle.styx_msg.specs.declared.message.Rmsg.{Rmsg}
use Rattle.process_model.specs.Process.{Ends}
use Rattle.limbo_values.specs.declared.number.Kind as number
use Rattle.limbo_values.specs.declared.operator.Operator.{Operator}
use Rattle.limbo_values.specs.declared.operator.Operator.TheVariants.{Divide, Remainder}
use Rattle.limbo_typed.specs.declared.operation.Operation.{Operation}
use Rattle.limbo_typed.specs.declared.operation.Operation.TheVariants as operation
use Rattle.system_model.specs.Values.{Value, Num, zero_value}
use Rattle.system_model.specs.Ending.{Ending, Ended, Broken, Faulted}
use Rattle.typed_meaning.specs.Trees.{Place, Term, Apply, Lazy, Deciding, Store, Change, Call, Print, Terms, NoTerms, MoreTerms}
use Rattle.typed_meaning.specs.Trees.{Stm, Eval, Set, If, While, Return, Block, Then}
use Rattle.typed_meaning.specs.World.{World}
use Rattle.typed_meaning.specs.Program.{Routine}
use Rattle.typed_meaning.specs.Evaluation.{Progress, Finished, next, next_all}
use Rattle.typed_meaning.specs.Process.{Process, height, reads}
use Rattle.typed_meaning.specs.Step.{step, answer}
use Rattle.typed_meaning.specs.Heights.{Kind, Calling, Returning, kind_of}

-- ---- the operation that comes next

-- An operation and the values that it is applied to.
pub record Applied : Type 0 where
  pub operation : Operation
  pub operands : List Value

-- An operation comes next where its operands are evaluated; else the one that comes next in them.
abbrev pub applied_to : Operation → Progress (List Value) Terms → (within : Option Applied) → Option Applied
applied_to o (Finished vs) within = Some (record { operation = o; operands = vs })
applied_to o _ within = within

-- The first part that isn't evaluated is the one that is ready.
abbrev pub first_ready : Progress Value Term → (here behind : Option Applied) → Option Applied
first_ready (Finished v) here behind = behind
first_ready _ here behind = here

module _ (reads : Place → Value) where
  abbrev mutual
    pub applied_in : Term → Option Applied
    applied_in (Apply o ts) = applied_to o (next_all reads ts) (applied_among ts)
    applied_in (Lazy c l r) = applied_in l
    applied_in (Deciding r) = applied_in r
    applied_in (Store p t) = applied_in t
    applied_in (Change o g p ts) = applied_to o (next_all reads ts) (applied_among ts)
    applied_in (Call t f ts) = applied_among ts
    applied_in (Print ps ts) = applied_among ts
    applied_in _ = None

    pub applied_among : Terms → Option Applied
    applied_among NoTerms = None
    applied_among (MoreTerms t ts) = first_ready (next reads t) (applied_in t) (applied_among ts)

  abbrev pub applied_by_stm : Stm → Option Applied
  applied_by_stm (Eval t) = applied_in t
  applied_by_stm (Set ps t) = applied_in t
  applied_by_stm (If t a b) = applied_in t
  applied_by_stm (While t l) = applied_in t
  applied_by_stm (Return t) = applied_in t
  applied_by_stm _ = None

  abbrev pub applied_by_block : Block → Option Applied
  applied_by_block (Then s rest) = applied_by_stm s
  applied_by_block _ = None

-- The operation that a process is to do next, if its next step is one.
abbrev pub applied_by : World → Process → Option Applied
applied_by w p = applied_by_block (reads w p.frame) p.frame.todo

-- ---- how a process breaks

-- What comes next is a call, and there are as many frames as there may be.
pub record Overflows (limit : ℕ) (next : Kind) (p : Process) (text : List ℕ) : Type 0 where
  pub calls : next ≡ Calling
  pub full : limit ≤ height p
  pub told : text ≡ codes "stack overflow"

-- What comes next is a division, or a remainder, of a number by 0.
pub record DividesByZero (next : Option Applied) (text : List ℕ) : Type 0 where
  pub operator : Operator
  pub kind : number.Kind
  pub dividend : ℤ
  pub divides : (operator ≡ Divide) ⊎ (operator ≡ Remainder)
  pub is : next ≡ Some (record { operation = operation.Arithmetic operator kind; operands = Num dividend ∷ zero_value ∷ [] })
  pub told : text ≡ codes "zero divide"

pub record EndsOnlySo : Type 0 where
  -- it ended: its only frame returned
  pub ended : (limit : ℕ) (routines : List Routine) (w v : World) (p : Process) →
      step limit routines w p ≡ Ends v Ended → (kind_of w p ≡ Returning) × (p.below ≡ [])
  -- it broke, in one of two ways
  pub broken : (limit : ℕ) (routines : List Routine) (w v : World) (p : Process) (text : List ℕ) →
      step limit routines w p ≡ Ends v (Broken text) → Overflows limit (kind_of w p) p text ⊎ DividesByZero (applied_by w p) text
  -- no instruction is wrong
  pub faulted : (limit : ℕ) (routines : List Routine) (w v : World) (p : Process) (number pc : ℕ) →
      step limit routines w p ≡ Ends v (Faulted number pc) → ⊥
  -- no reply ends it
  pub at_reply : (a : Rmsg) (w v : World) (p : Process) (how : Ending) → answer a w p ≡ Ends v how → ⊥
