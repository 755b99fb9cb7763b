-- One step of a process.
use Rattle.std.specs.Prelude.{ℕ, Bool, true, false, Option, Some, None, slice_get}
use Rattle.styx_msg.specs.declared.message.Rmsg.{Rmsg}
use Rattle.process_model.specs.Process.{Ends}
use Rattle.system_model.specs.Prints.{Writing, print, hear}
use Rattle.system_model.specs.Ending.{Broken}
use Rattle.limbo_meaning.specs.Values.{Value, nothing}
use Rattle.limbo_meaning.specs.Operations.{holds}
use Rattle.limbo_meaning.specs.Trees.{Term, Stm, Over, Eval, If, While, Enter, Break, Continue, Return, Leave}
use Rattle.limbo_meaning.specs.Trees.{Block, Done, Then, Turn, Again, join, tested, entered, turned}
use Rattle.limbo_meaning.specs.Trees.{behind, at_turn}
use Rattle.limbo_meaning.specs.Evaluation.{Progress, Finished, Stepped, Calls, Prints, Raises, Blocked, next}
use Rattle.limbo_meaning.specs.Program.{Program}
use Rattle.limbo_meaning.specs.Process.{Shared, Process, Does, memory_of, stands_still, goes, drops, stepped, returns, calls, prints, hears}

abbrev pub chosen : {A : Type 0} → Bool → A → A → A
chosen true a b = a
chosen false a b = b

module _ (limit : ℕ) (program : Program) where
  -- A step in the expression of a statement, or, once that is evaluated, what the statement does with it. An exception breaks the process.
  abbrev pub evaluate : Shared → Process → (rest : Block) → Progress Value Term → (Term → Stm) → (Value → Does) → Does
  evaluate w p rest (Finished v) within use_it = use_it v
  evaluate w p rest (Stepped m got t) within use_it = stepped w p m got (Then (within t) rest)
  evaluate w p rest (Calls a f args t) within use_it =
      calls program.adts limit w p (Then (within t) rest) a (slice_get program.routines f) args
  evaluate w p rest (Prints text t) within use_it = prints w p (Then (within t) rest) (print w.outside text)
  evaluate w p rest (Raises text) within use_it = Ends w (Broken text)
  evaluate w p rest Blocked within use_it = stands_still w p

  abbrev pub progress : Shared → Process → Term → Progress Value Term
  progress w p t = next program.adts (memory_of w p.frame) t

  -- A step of a statement, in front of the rest of its frame. Once its expression is evaluated it drops what it holds, one reference in
  -- each step; behind that it ends, or a condition is decided. A condition is a statement of its own, which ends before what was chosen
  -- begins; the whole statement ends behind that.
  abbrev pub act : Shared → Process → Stm → (rest : Block) → Does
  act w p Over rest = drops w p p.frame.held (goes w p rest)
  act w p (Eval t) rest = evaluate w p rest (progress w p t) Eval (λ v. drops w p p.frame.held (goes w p rest))
  act w p (If t a b) rest =
      evaluate w p rest (progress w p t) (λ t. If t a b)
      (λ v. drops w p p.frame.held (goes w p (Then Over (join (chosen (holds v) a b) (Then Over rest)))))
  act w p (While t l) rest =
      evaluate w p rest (progress w p t) (λ t. While t l)
      (λ v. drops w p p.frame.held (goes w p (Then Over (chosen (holds v) (entered l rest) rest))))
  act w p (Enter l) rest = goes w p (entered l rest)
  act w p (Break n) rest = goes w p (behind n rest)
  act w p (Continue n) rest = goes w p (at_turn n rest)
  act w p (Return t) rest = evaluate w p rest (progress w p t) Return (λ v. returns program.adts w p p.below v)
  act w p Leave rest = returns program.adts w p p.below nothing

  -- A step of what is left of the body: its end is a return; behind the body of a loop what is done between two turns begins, and then the
  -- next turn.
  abbrev pub work : Shared → Process → (todo : Block) → Does
  work w p Done = returns program.adts w p p.below nothing
  work w p (Then m rest) = act w p m rest
  work w p (Turn l rest) = goes w p (turned l rest)
  work w p (Again l rest) = goes w p (tested l rest)

  abbrev pub step : Shared → Process → Does
  step w p = work w p p.frame.todo

-- A reply, where one is waited for.
abbrev pub heard : Rmsg → Shared → Process → Option Writing → Does
heard a w p None = stands_still w p
heard a w p (Some k) = hears w p (hear a w.outside k)

abbrev pub answer : Rmsg → Shared → Process → Does
answer a w p = heard a w p p.printing
