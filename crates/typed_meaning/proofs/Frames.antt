-- The height of a process after each step.
use Rattle.std.proofs.Common.{◌≡◌, ℕ, suc, ◌≤◌, ◌<◌, Bool, true, false, List, [], ◌∷◌, length, Option, Some, None, nat_lt}
use Rattle.std.proofs.Common.{if◌then◌else◌, refl, ap, subst, rules, tests, arith}
use Rattle.std.specs.Prelude.{slice_get}
use Rattle.styx_msg.specs.declared.message.Rmsg.{Rmsg}
use Rattle.process_model.specs.Process.{Went, Parks, Polls, Spawns, Asks, Ends}
use Rattle.system_model.specs.Values.{Value, zero_value}
use Rattle.system_model.specs.Prints.{Writing, Printing, Answers, Requests, NoReply, print, hear}
use Rattle.typed_meaning.specs.Trees.{Local, Global, Place, At, Term, Stm, Over, Eval, Set, If, While, Enter, Break}
use Rattle.typed_meaning.specs.Trees.{Continue, Return, Leave, Block, Done, Then, Turn, Again}
use Rattle.typed_meaning.specs.World.{World}
use Rattle.typed_meaning.specs.Formats.{text_of}
use Rattle.typed_meaning.specs.Program.{Routine}
use Rattle.typed_meaning.specs.Evaluation.{Progress, Finished, Stepped, Writes, Calls, Prints, Raises, Blocked, next}
use Rattle.typed_meaning.specs.Process.{Frame, Process, Does, reads, height, written, returns, calls, prints, hears}
use Rattle.typed_meaning.specs.Step.{evaluate, sets, act, work, step, heard, answer}
use Rattle.typed_meaning.specs.Heights.{Kind, Calling, Returning, Other, kind_in, kind_of_stm, kind_of_block, kind_of, HeightAfter}
use Rattle.typed_meaning.specs.Heights.{Heights, NeverHigher}

-- what is so of each effect of a process whose next step is of this kind
abbrev pub Grows : ℕ → Kind → Process → Does → Type 0
Grows limit k p (Went v q) = HeightAfter k (height p) (height q) × (height p ≤ limit → height q ≤ limit)
Grows limit k p (Asks v m q) = height q ≡ height p
Grows limit k p (Parks v bs q) = height q ≡ height p
Grows limit k p (Polls v bs q r) = ⊥
Grows limit k p (Spawns v c q) = ⊥
Grows limit k p (Ends v how) = Unit {0}

below_limit : (a b : ℕ) → nat_lt a b ≡ true → suc a ≤ b
below_limit a b h =
    let lt : a < b = search (rules, tests, h) in
    omega (arith, lt)

module _ (limit : ℕ) (routines : List Routine) (w : World) (p : Process) where
  returns_grows : (v : Value) (below : List Frame) → p.below ≡ below → Grows limit Returning p (returns w p below v)
  returns_grows v [] e = tt
  returns_grows v (f ∷ bs) e =
      let one_less : height p ≡ suc (suc (length bs)) = ap (λ b. suc (length b)) e in
      (one_less, λ h. omega (arith, one_less, h))

  enters_grows : (b : Bool) (x y : Does) → (b ≡ true → Grows limit Calling p x) → Grows limit Calling p y
      → Grows limit Calling p (if b then x else y)
  enters_grows true x y h k = h refl
  enters_grows false x y h k = k

  calls_grows : (waits : Block) (r : Option Routine) (args : List Value) → Grows limit Calling p (calls limit w p waits r args)
  calls_grows waits None args = refl
  calls_grows waits (Some r) args =
      enters_grows (nat_lt (height p) limit) _ _ (λ h. (refl, λ low. below_limit (height p) limit h)) tt

  prints_grows : (waits : Block) (g : Printing) → Grows limit Other p (prints w p waits g)
  prints_grows waits (Answers o v) = (refl, λ h. h)
  prints_grows waits (Requests o m k) = refl
  prints_grows waits NoReply = refl

  written_grows : (q : Place) (v : Value) (todo : Block) → Grows limit Other p (written w p q v todo)
  written_grows (At t (Local x)) v todo = (refl, λ h. h)
  written_grows (At t (Global x)) v todo = (refl, λ h. h)

  evaluate_grows : (k : Kind) (rest : Block) (g : Progress Value Term) (within : Term → Stm) (use_it : Value → Does)
      → ((v : Value) → Grows limit k p (use_it v)) → Grows limit (kind_in g k) p (evaluate limit routines w p rest g within use_it)
  evaluate_grows k rest (Finished v) within use_it h = h v
  evaluate_grows k rest (Stepped t) within use_it h = (refl, λ h. h)
  evaluate_grows k rest (Writes q v t) within use_it h = written_grows q v (Then (within t) rest)
  evaluate_grows k rest (Calls f args t) within use_it h = calls_grows (Then (within t) rest) (slice_get routines f) args
  evaluate_grows k rest (Prints ps vs t) within use_it h = prints_grows (Then (within t) rest) (print w.outside (text_of ps vs))
  evaluate_grows k rest (Raises text) within use_it h = tt
  evaluate_grows k rest Blocked within use_it h = refl

  sets_grows : (rest : Block) (qs : List Place) (v : Value) → Grows limit Other p (sets limit routines w p rest qs v)
  sets_grows rest [] v = (refl, λ h. h)
  sets_grows rest (q ∷ qs) v = written_grows q _ _

  act_grows : (s : Stm) (rest : Block) → Grows limit (kind_of_stm (reads w p.frame) s) p (act limit routines w p s rest)
  act_grows Over rest = (refl, λ h. h)
  act_grows (Eval t) rest = evaluate_grows Other rest (next (reads w p.frame) t) _ _ (λ v. (refl, λ h. h))
  act_grows (Set qs t) rest = evaluate_grows Other rest (next (reads w p.frame) t) _ _ (λ v. sets_grows rest qs v)
  act_grows (If t a b) rest = evaluate_grows Other rest (next (reads w p.frame) t) _ _ (λ v. (refl, λ h. h))
  act_grows (While t l) rest = evaluate_grows Other rest (next (reads w p.frame) t) _ _ (λ v. (refl, λ h. h))
  act_grows (Enter l) rest = (refl, λ h. h)
  act_grows (Break n) rest = (refl, λ h. h)
  act_grows (Continue n) rest = (refl, λ h. h)
  act_grows (Return t) rest = evaluate_grows Returning rest (next (reads w p.frame) t) _ _ (λ v. returns_grows v p.below refl)
  act_grows Leave rest = returns_grows zero_value p.below refl

  work_grows : (todo : Block) → Grows limit (kind_of_block (reads w p.frame) todo) p (work limit routines w p todo)
  work_grows Done = returns_grows zero_value p.below refl
  work_grows (Then s rest) = act_grows s rest
  work_grows (Turn l rest) = (refl, λ h. h)
  work_grows (Again l rest) = (refl, λ h. h)

  pub step_grows : Grows limit (kind_of w p) p (step limit routines w p)
  step_grows = work_grows p.frame.todo

-- a reply leaves the height as it was
abbrev pub Stays : Process → Does → Type 0
Stays p (Went v q) = height q ≡ height p
Stays p (Asks v m q) = height q ≡ height p
Stays p _ = Unit {0}

hears_stays : (w : World) (p : Process) (g : Printing) → Stays p (hears w p g)
hears_stays w p (Answers o v) = refl
hears_stays w p (Requests o m k) = refl
hears_stays w p NoReply = tt

heard_stays : (a : Rmsg) (w : World) (p : Process) (k : Option Writing) → Stays p (heard a w p k)
heard_stays a w p None = tt
heard_stays a w p (Some k) = hears_stays w p (hear a w.outside k)

pub answer_stays : (a : Rmsg) (w : World) (p : Process) → Stays p (answer a w p)
answer_stays a w p = heard_stays a w p p.printing

pub heights : Heights
heights = record {
  goes = λ limit routines w v p q e. (subst (Grows limit (kind_of w p) p) e (step_grows limit routines w p)).0;
  asks = λ limit routines w v p q m e. subst (Grows limit (kind_of w p) p) e (step_grows limit routines w p);
  hears = λ a w v p q e. subst (Stays p) e (answer_stays a w p);
  asks_again = λ a w v p q m e. subst (Stays p) e (answer_stays a w p);
}

pub never_higher : NeverHigher
never_higher limit routines w v p q h e = (subst (Grows limit (kind_of w p) p) e (step_grows limit routines w p)).1 h
