-- The kinds of steps that a process makes, so that what holds of all steps is shown once for each.
use Rattle.std.proofs.Common.{◌≡◌, ℕ, Bool, true, false, List, [], ◌∷◌, Option, None, Some, refl, nat_lt}
use Rattle.std.specs.Prelude.{if◌then◌else◌, slice_get}
use Rattle.process_model.specs.Process.{Went, Ends}
use Rattle.limbo_types.specs.Types.{Ty}
use Rattle.system_model.specs.Prints.{Printing, print}
use Rattle.system_model.specs.Ending.{Broken}
use Rattle.limbo_meaning.specs.Values.{Value, nothing}
use Rattle.limbo_meaning.specs.Memory.{Memory}
use Rattle.limbo_meaning.specs.Exceptions.{stack_overflow}
use Rattle.limbo_meaning.specs.Trees.{Term}
use Rattle.limbo_meaning.specs.Trees.{Stm, Over, Eval, If, While, Enter, Break, Continue, Return, Leave, Block, Done, Then, Turn, Again}
use Rattle.limbo_meaning.specs.Trees.{tested, entered, turned, behind, at_turn}
use Rattle.limbo_meaning.specs.Evaluation.{Progress, Finished, Stepped, Calls, Prints, Raises, Blocked}
use Rattle.limbo_meaning.specs.Program.{Routine, Program}
use Rattle.limbo_meaning.specs.Process.{Shared, Process, Does, memory_of, framed, frame_of, with_frames, height, stands_still, goes}
use Rattle.limbo_meaning.specs.Process.{drops, stepped, returns, calls, prints}
use Rattle.limbo_meaning.specs.Step.{evaluate, progress, act, work, step}
use Rattle.limbo_meaning.proofs.Busy.{finished}
use Rattle.limbo_meaning.specs.Holding.{is_evaluated, IsAtEnd, holding}

module _ (limit : ℕ) (program : Program) (w : Shared) (p : Process) where
  pub data Made : Does → Type 0 where
    stood : Made (stands_still w p)
    went_on : (todo : Block) → Made (goes w p todo)
    let_one_go : (r : Option ℕ) (rs : List (Option ℕ)) → IsAtEnd p → p.frame.held ≡ r ∷ rs → Made (Went w (holding p rs))
    made_step : (t t' : Term) (m : Memory) (got : List (Option ℕ)) (todo : Block) → progress limit program w p t ≡ Stepped m got t' →
        Made (stepped w p m got todo)
    called : (t : Ty) (r : Routine) (args : List Value) (waits : Block) → nat_lt (height p) limit ≡ true →
        Made (Went w (with_frames p (frame_of program.adts p.frame.instance r t args)
        (framed p.frame p.frame.variables p.frame.held waits ∷ p.below)))
    overflowed : nat_lt (height p) limit ≡ false → Made (Ends w (Broken stack_overflow))
    printed : (waits : Block) (printing : Printing) → Made (prints w p waits printing)
    raised : (t : Term) (text : List ℕ) → progress limit program w p t ≡ Raises text → Made (Ends w (Broken text))
    returned : (v : Value) → Made (returns program.adts w p p.below v)

  made_drops : (held : List (Option ℕ)) → p.frame.held ≡ held → IsAtEnd p → (done : Does) → Made done → Made (drops w p held done)
  made_drops [] e end done m = m
  made_drops (r ∷ rs) e end done m = let_one_go r rs end e

  made_call : (waits : Block) (t : Ty) (r : Option Routine) (args : List Value) → Made (calls program.adts limit w p waits t r args)
  made_call waits t None args = stood
  made_call waits t (Some r) args = go (nat_lt (height p) limit) refl
    where
      go : (b : Bool) → nat_lt (height p) limit ≡ b → Made (if b
          then Went w (with_frames p (frame_of program.adts p.frame.instance r t args)
          (framed p.frame p.frame.variables p.frame.held waits ∷ p.below))
          else Ends w (Broken stack_overflow))
      go true e = called t r args waits e
      go false e = overflowed e

  ready : (t : Term) (v : Value) → progress limit program w p t ≡ Finished v → is_evaluated t ≡ true
  ready t v e = finished program.adts (memory_of w p.frame) t v e

  made_evaluate : (rest : Block) (t : Term) (pr : Progress Value Term) → progress limit program w p t ≡ pr
      → (within : Term → Stm) (use_it : Value → Does)
      → ((v : Value) → pr ≡ Finished v → Made (use_it v)) → Made (evaluate limit program w p rest pr within use_it)
  made_evaluate rest t (Finished v) e within use_it k = k v refl
  made_evaluate rest t (Stepped m got t') e within use_it k = made_step t t' m got _ e
  made_evaluate rest t (Calls a f args t') e within use_it k = made_call _ a (slice_get program.routines f) args
  made_evaluate rest t (Prints text t') e within use_it k = printed (Then (within t') rest) (print w.outside text)
  made_evaluate rest t (Raises text) e within use_it k = raised t text e
  made_evaluate rest t Blocked e within use_it k = stood

  made_act : (s : Stm) (rest : Block) → p.frame.todo ≡ Then s rest → Made (act limit program w p s rest)
  made_act Over rest e = made_drops p.frame.held refl (rw e refl) _ (went_on rest)
  made_act (Eval t) rest e =
      made_evaluate rest t (progress limit program w p t) refl Eval _
      (λ v f. made_drops p.frame.held refl (rw e (ready t v f)) _ (went_on rest))
  made_act (If t a b) rest e =
      made_evaluate rest t (progress limit program w p t) refl (λ t. If t a b) _
      (λ v f. made_drops p.frame.held refl (rw e (ready t v f)) _ (went_on _))
  made_act (While t l) rest e =
      made_evaluate rest t (progress limit program w p t) refl (λ t. While t l) _
      (λ v f. made_drops p.frame.held refl (rw e (ready t v f)) _ (went_on _))
  made_act (Enter l) rest e = went_on (entered l rest)
  made_act (Break n) rest e = went_on (behind n rest)
  made_act (Continue n) rest e = went_on (at_turn n rest)
  made_act (Return t) rest e =
      made_evaluate rest t (progress limit program w p t) refl Return _ (λ v f. returned v)
  made_act Leave rest e = returned nothing

  made_work : (todo : Block) → p.frame.todo ≡ todo → Made (work limit program w p todo)
  made_work Done e = returned nothing
  made_work (Then s rest) e = made_act s rest e
  made_work (Turn l rest) e = went_on (turned l rest)
  made_work (Again l rest) e = went_on (tested l rest)

  -- each step is one of these
  pub made : Made (step limit program w p)
  made = made_work p.frame.todo refl
