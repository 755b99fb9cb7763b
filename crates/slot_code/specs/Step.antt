-- One instruction of a process.
use Rattle.std.specs.Prelude.{ℕ, suc, ◌+◌, ◌-◌, Bool, true, false, List, [], ◌∷◌, Option, Some, None, slice_get, Result, Ok, Err}
use Rattle.styx_msg.specs.declared.message.Rmsg.{Rmsg}
use Rattle.process_model.specs.Process.{Went, Ends}
use Rattle.limbo_values.specs.declared.number.Kind.{Kind}
use Rattle.limbo_values.specs.declared.number.Kind.TheVariants.{Int}
use Rattle.limbo_values.specs.declared.operator.Comparison.{Comparison}
use Rattle.limbo_values.specs.declared.raised.Raised.{Raised}
use Rattle.limbo_values.specs.Operators.{compared, text_of}
use Rattle.limbo_typed.specs.declared.print.Piece.{Piece}
use Rattle.system_model.specs.Values.{Value, Num, zero_value}
use Rattle.system_model.specs.Prints.{Writing, print, hear}
use Rattle.system_model.specs.Ending.{Broken}
use Rattle.typed_meaning.specs.Values.{result_of}
use Rattle.typed_meaning.specs.Formats as formats
use Rattle.typed_meaning.specs.World.{World}
use Rattle.slot_code.specs.Code.{Spot, Inst, Move, Hand, Alter, Operate, Branch, Jump, Skip, Back, Begin, Call, Format}
use Rattle.slot_code.specs.Code.{Print, Return, Leave, Function}
use Rattle.slot_code.specs.Machine.{Process, Does, Made, no_arguments, taken, value_of, with_frames, stands_still, goes, next}
use Rattle.slot_code.specs.Machine.{returns, waiting, calls, prints}

abbrev pub chosen : Bool → ℕ → ℕ → ℕ
chosen true a b = a
chosen false a b = b

-- The instruction at a place, where there is one.
abbrev pub fetch : Option Function → ℕ → Option Inst
fetch None pc = None
fetch (Some f) pc = slice_get f.code pc

abbrev pub compared_values : Comparison → Value → Value → Bool
compared_values c (Num a) (Num b) = compared c a b

-- What an operation gives goes to a place; what it raises breaks the process.
abbrev pub gives : World → Process → Spot → Result Value Raised → Does
gives w p into (Ok v) = next w p into v
gives w p into (Err r) = Ends w (Broken (text_of r))

-- A call or a print is made ready, in front of those that are.
abbrev pub begins : World → Process → List Piece → Does
begins w p ps =
    Went w
    (with_frames p (record p.frame { pc = suc p.frame.pc; made = (record { arguments = no_arguments; format = ps }) ∷ p.frame.made })
    p.below)

module _ (limit : ℕ) (functions : List Function) where
  -- The call, or the print, that was made ready last.
  abbrev pub called : World → Process → Kind → (function arguments : ℕ) → Spot → List Made → Does
  called w p k f n into [] = stands_still w p
  called w p k f n into (m ∷ ms) = calls limit w p (waiting p.frame ms k into) f (slice_get functions f) (taken m.arguments 0 n)

  abbrev pub printed : World → Process → (arguments : ℕ) → Spot → List Made → Does
  printed w p n into [] = stands_still w p
  printed w p n into (m ∷ ms) =
      prints w p (waiting p.frame ms Int into) (print w.outside (formats.text_of m.format (taken m.arguments 0 n)))

  -- What an instruction does.
  abbrev pub obey : World → Process → Inst → Does
  obey w p (Move into from) = next w p into (value_of w p.frame from)
  obey w p (Hand into from) = next w p into (value_of w p.frame from)
  obey w p (Alter o into of) = gives w p into (result_of o (value_of w p.frame of ∷ []))
  obey w p (Operate o into left right) =
      gives w p into (result_of o (value_of w p.frame left ∷ value_of w p.frame right ∷ []))
  obey w p (Branch k c left right n) =
      goes w p
      (chosen (compared_values c (value_of w p.frame left) (value_of w p.frame right)) (suc p.frame.pc + n) (suc p.frame.pc))
  obey w p (Jump n) = goes w p (suc p.frame.pc + n)
  obey w p (Skip n) = goes w p (suc p.frame.pc + n)
  obey w p (Back n) = goes w p (p.frame.pc - n)
  obey w p (Begin f) = begins w p []
  obey w p (Call k f n into) = called w p k f n into p.frame.made
  obey w p (Format ps) = begins w p ps
  obey w p (Print n into) = printed w p n into p.frame.made
  obey w p (Return value) = returns w p p.below (value_of w p.frame value)
  obey w p Leave = returns w p p.below zero_value

  abbrev pub work : World → Process → Option Inst → Does
  work w p None = stands_still w p
  work w p (Some i) = obey w p i

  abbrev pub step : World → Process → Does
  step w p = work w p (fetch (slice_get functions p.frame.function) p.frame.pc)

-- A reply, where one is waited for.
abbrev pub heard : Rmsg → World → Process → Option Writing → Does
heard a w p None = stands_still w p
heard a w p (Some k) = prints w p p.frame (hear a w.outside k)

abbrev pub answer : Rmsg → World → Process → Does
answer a w p = heard a w p p.printing
