-- One step of a process.
use Rattle.std.specs.Prelude.{ℕ, Bool, true, false, List, [], ◌∷◌, Option, Some, None, slice_get}
use Rattle.styx_msg.specs.declared.message.Rmsg.{Rmsg}
use Rattle.process_model.specs.Process.{Ends}
use Rattle.system_model.specs.Values.{Value, zero_value}
use Rattle.system_model.specs.Prints.{Writing, print, hear}
use Rattle.system_model.specs.Ending.{Broken}
use Rattle.typed_meaning.specs.Values.{holds}
use Rattle.typed_meaning.specs.Formats.{text_of}
use Rattle.typed_meaning.specs.Trees.{Place, Evaluated, Term, Stm, Over, Eval, Set, If, While, Enter, Break, Continue, Return, Leave}
use Rattle.typed_meaning.specs.Trees.{Block, Done, Then, Turn, Again, join, tested, entered, turned}
use Rattle.typed_meaning.specs.Trees.{behind, at_turn}
use Rattle.typed_meaning.specs.World.{World}
use Rattle.typed_meaning.specs.Program.{Routine}
use Rattle.typed_meaning.specs.Evaluation.{Progress, Finished, Stepped, Writes, Calls, Prints, Raises, Blocked, next, stored_at}
use Rattle.typed_meaning.specs.Process.{Process, Does, reads, stands_still, goes, written, returns, calls, prints, hears}

abbrev pub chosen : {A : Type 0} → Bool → A → A → A
chosen true a b = a
chosen false a b = b

module _ (limit : ℕ) (routines : List Routine) where
  -- A step in the expression of a statement, or, once that is evaluated, what the statement does with it. An exception breaks the process.
  abbrev pub evaluate : World → Process → (rest : Block) → Progress Value Term → (Term → Stm) → (Value → Does) → Does
  evaluate w p rest (Finished v) within use_it = use_it v
  evaluate w p rest (Stepped t) within use_it = goes w p (Then (within t) rest)
  evaluate w p rest (Writes q v t) within use_it = written w p q v (Then (within t) rest)
  evaluate w p rest (Calls f args t) within use_it = calls limit w p (Then (within t) rest) (slice_get routines f) args
  evaluate w p rest (Prints ps vs t) within use_it = prints w p (Then (within t) rest) (print w.outside (text_of ps vs))
  evaluate w p rest (Raises text) within use_it = Ends w (Broken text)
  evaluate w p rest Blocked within use_it = stands_still w p

  -- The places that a statement still has to give a value: each is a write of its own, and then the statement ends.
  abbrev pub sets : World → Process → (rest : Block) → List Place → Value → Does
  sets w p rest [] v = goes w p rest
  sets w p rest (q ∷ qs) v = written w p q (stored_at q v) (Then (Set qs (Evaluated v)) rest)

  -- A step of a statement, in front of the rest of its frame. The decision of a condition is a step. A condition is a statement of its own,
  -- which ends before what was chosen begins; the whole statement ends behind that.
  abbrev pub act : World → Process → Stm → (rest : Block) → Does
  act w p Over rest = goes w p rest
  act w p (Eval t) rest = evaluate w p rest (next (reads w p.frame) t) Eval (λ v. goes w p rest)
  act w p (Set qs t) rest = evaluate w p rest (next (reads w p.frame) t) (Set qs) (sets w p rest qs)
  act w p (If t a b) rest =
      evaluate w p rest (next (reads w p.frame) t) (λ t. If t a b)
      (λ v. goes w p (Then Over (join (chosen (holds v) a b) (Then Over rest))))
  act w p (While t l) rest =
      evaluate w p rest (next (reads w p.frame) t) (λ t. While t l)
      (λ v. goes w p (Then Over (chosen (holds v) (entered l rest) rest)))
  act w p (Enter l) rest = goes w p (entered l rest)
  act w p (Break n) rest = goes w p (behind n rest)
  act w p (Continue n) rest = goes w p (at_turn n rest)
  act w p (Return t) rest =
      evaluate w p rest (next (reads w p.frame) t) Return (λ v. returns w p p.below v)
  act w p Leave rest = returns w p p.below zero_value

  -- A step of what is left of the body: its end is a return; behind the body of a loop what is done between two turns begins, and then the
  -- next turn.
  abbrev pub work : World → Process → (todo : Block) → Does
  work w p Done = returns w p p.below zero_value
  work w p (Then s rest) = act w p s rest
  work w p (Turn l rest) = goes w p (turned l rest)
  work w p (Again l rest) = goes w p (tested l rest)

  abbrev pub step : World → Process → Does
  step w p = work w p p.frame.todo

-- A reply, where one is waited for.
abbrev pub heard : Rmsg → World → Process → Option Writing → Does
heard a w p None = stands_still w p
heard a w p (Some k) = hears w p (hear a w.outside k)

abbrev pub answer : Rmsg → World → Process → Does
answer a w p = heard a w p p.printing
