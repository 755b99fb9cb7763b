-- How a process ends.
use Rattle.std.proofs.Common.{◌≡◌, ℕ, ℤ, pos, ◌≤◌, ◌⊎◌, inl, inr, Bool, true, false, List, [], ◌∷◌, Option, Some, None, Ok, Err}
use Rattle.std.proofs.Common.{nat_lt, if◌then◌else◌, refl, ap, subst, rules, tests}
use Rattle.std.specs.Prelude.{slice_get}
use Rattle.std.specs.Ordering.{int_eq}
use Rattle.styx_msg.specs.declared.message.Rmsg.{Rmsg}
use Rattle.process_model.specs.Process.{Ends}
use Rattle.limbo_values.specs.declared.number.Kind as number
use Rattle.limbo_values.specs.declared.operator.Operator.{Operator}
use Rattle.limbo_values.specs.declared.operator.Operator.TheVariants.{Divide, Remainder}
use Rattle.limbo_values.specs.declared.raised.Raised.TheVariants.{ZeroDivide}
use Rattle.limbo_values.specs.Operators.{applied, unless_zero}
use Rattle.limbo_typed.specs.declared.operation.Operation.{Operation}
use Rattle.limbo_typed.specs.declared.operation.Operation.TheVariants as operation
use Rattle.system_model.specs.Values.{Value, Num, zero_value}
use Rattle.system_model.specs.Prints.{Writing, Printing, Answers, Requests, NoReply, print, hear}
use Rattle.system_model.specs.Ending.{Ended, Broken, Faulted}
use Rattle.typed_meaning.specs.Values.{as_value, of_two, of_one, result_of}
use Rattle.typed_meaning.specs.Formats.{text_of}
use Rattle.typed_meaning.specs.Trees.{Local, Global, Place, At, Term, Evaluated, Awaiting, Missing, Literal, Read, Apply, Lazy}
use Rattle.typed_meaning.specs.Trees.{Deciding, Store, Change, Put, Call, Print, Terms, NoTerms, MoreTerms}
use Rattle.typed_meaning.specs.Trees.{Stm, Over, Eval, Set, If, While, Enter, Break, Continue, Return, Leave, Block, Done, Then, Turn}
use Rattle.typed_meaning.specs.Trees.{Again}
use Rattle.typed_meaning.specs.World.{World}
use Rattle.typed_meaning.specs.Program.{Routine}
use Rattle.typed_meaning.specs.Evaluation.{Progress, Finished, Stepped, Writes, Calls, Prints, Raises, Blocked, after, gives, next}
use Rattle.typed_meaning.specs.Evaluation.{next_all}
use Rattle.typed_meaning.specs.Process.{Frame, Process, Does, reads, height, written, returns, calls, prints, hears}
use Rattle.typed_meaning.specs.Step.{evaluate, sets, act, work, heard}
use Rattle.typed_meaning.specs.Heights.{Kind, Calling, Returning, Other, kind_in, kind_of_stm, kind_of_block, kind_of}
use Rattle.typed_meaning.specs.Breaks.{Applied, applied_to, first_ready, applied_in, applied_among, applied_by_stm, applied_by_block}
use Rattle.typed_meaning.specs.Breaks.{applied_by, Overflows, DividesByZero, EndsOnlySo}

-- ---- what raises

-- an exception is raised only where a number is divided by 0
abbrev RaisesSo : {R T : Type 0} → Progress R T → Option Applied → Type 0
RaisesSo (Raises text) a = DividesByZero a text
RaisesSo _ a = Unit {0}

abbrev the_next : Operation → List Value → Option Applied
the_next o vs = Some (record { operation = o; operands = vs })

abbrev of_numbers : Operator → number.Kind → ℤ → ℤ → Option Applied
of_numbers o k a b = the_next (operation.Arithmetic o k) (Num a ∷ Num b ∷ [])

module _ (use_it : Value → Term) where
  unless_zero_raises : (o : Operator) (k : number.Kind) (a b z : ℤ) → (o ≡ Divide) ⊎ (o ≡ Remainder)
      → RaisesSo (gives (as_value (unless_zero b z)) use_it) (of_numbers o k a b)
  unless_zero_raises o k a b z d = go (int_eq b (pos 0)) refl
    where
      go : (c : Bool) → int_eq b (pos 0) ≡ c
          → RaisesSo (gives (as_value (if c then Err ZeroDivide else Ok z)) use_it) (of_numbers o k a b)
      go true e = record {
        operator = o;
        kind = k;
        dividend = a;
        divides = d;
        is = ap (of_numbers o k a) (search (rules, tests, e));
        told = refl;
      }
      go false e = tt

  arithmetic_raises : (o : Operator) (k : number.Kind) (a b : ℤ)
      → RaisesSo (gives (as_value (applied k o a b)) use_it) (of_numbers o k a b)
  arithmetic_raises Divide k a b = unless_zero_raises Divide k a b _ (inl refl)
  arithmetic_raises Remainder k a b = unless_zero_raises Remainder k a b _ (inr refl)
  arithmetic_raises _ k a b = tt

  two_raise : (o : Operation) (a b : ℤ) → RaisesSo (gives (of_two o a b) use_it) (the_next o (Num a ∷ Num b ∷ []))
  two_raise (operation.Arithmetic o k) a b = arithmetic_raises o k a b
  two_raise _ a b = tt

  one_raises : (o : Operation) (a : ℤ) (next : Option Applied) → RaisesSo (gives (of_one o a) use_it) next
  one_raises (operation.Alter u k) a next = tt
  one_raises operation.Not a next = tt
  one_raises (operation.Convert from to) a next = tt
  one_raises _ a next = tt

  operation_raises : (o : Operation) (vs : List Value) → RaisesSo (gives (result_of o vs) use_it) (the_next o vs)
  operation_raises o [] = tt
  operation_raises o (Num a ∷ []) = one_raises o a _
  operation_raises o (Num a ∷ Num b ∷ []) = two_raise o a b
  operation_raises o (Num a ∷ Num b ∷ v ∷ vs) = tt

after_raises : {R S T U : Type 0} (g : Progress R T) (go : R → Progress S U) (within : T → U) (next : Option Applied)
    → RaisesSo g next → ((v : R) → RaisesSo (go v) next) → RaisesSo (after g go within) next
after_raises (Finished v) go within next h k = k v
after_raises (Stepped t) go within next h k = tt
after_raises (Writes q v t) go within next h k = tt
after_raises (Calls f vs t) go within next h k = tt
after_raises (Prints ps vs t) go within next h k = tt
after_raises (Raises text) go within next h k = h
after_raises Blocked go within next h k = tt

-- an operation on what its operands give
applied_raises : (o : Operation) (use_it : List Value → Value → Term) (g : Progress (List Value) Terms) (within : Terms → Term)
    (next : Option Applied) → RaisesSo g next
    → RaisesSo (after g (λ vs. gives (result_of o vs) (use_it vs)) within) (applied_to o g next)
applied_raises o use_it (Finished vs) within next h = operation_raises (use_it vs) o vs
applied_raises o use_it (Stepped t) within next h = tt
applied_raises o use_it (Writes q v t) within next h = tt
applied_raises o use_it (Calls f vs t) within next h = tt
applied_raises o use_it (Prints ps vs t) within next h = tt
applied_raises o use_it (Raises text) within next h = h
applied_raises o use_it Blocked within next h = tt

-- one tree, and those behind it
first_raises : {U : Type 0} (g : Progress Value Term) (go : Value → Progress (List Value) U) (within : Term → U)
    (here behind : Option Applied)
    → RaisesSo g here → ((v : Value) → RaisesSo (go v) behind) → RaisesSo (after g go within) (first_ready g here behind)
first_raises (Finished v) go within here behind h k = k v
first_raises (Stepped t) go within here behind h k = tt
first_raises (Writes q v t) go within here behind h k = tt
first_raises (Calls f vs t) go within here behind h k = tt
first_raises (Prints ps vs t) go within here behind h k = tt
first_raises (Raises text) go within here behind h k = h
first_raises Blocked go within here behind h k = tt

module _ (reads : Place → Value) where
  mutual
    next_raises : (t : Term) → RaisesSo (next reads t) (applied_in reads t)
    next_raises (Evaluated v) = tt
    next_raises (Awaiting t) = tt
    next_raises Missing = tt
    next_raises (Literal t v) = tt
    next_raises (Read p) = tt
    next_raises (Apply o ts) = applied_raises o _ (next_all reads ts) _ (applied_among reads ts) (all_raise ts)
    next_raises (Lazy c l r) = after_raises (next reads l) _ _ (applied_in reads l) (next_raises l) (λ v. tt)
    next_raises (Deciding r) = after_raises (next reads r) _ _ (applied_in reads r) (next_raises r) (λ v. tt)
    next_raises (Store p t) = after_raises (next reads t) _ _ (applied_in reads t) (next_raises t) (λ v. tt)
    next_raises (Change o g p ts) = applied_raises o _ (next_all reads ts) _ (applied_among reads ts) (all_raise ts)
    next_raises (Put p v w) = tt
    next_raises (Call t f ts) = after_raises (next_all reads ts) _ _ (applied_among reads ts) (all_raise ts) (λ vs. tt)
    next_raises (Print ps ts) = after_raises (next_all reads ts) _ _ (applied_among reads ts) (all_raise ts) (λ vs. tt)

    all_raise : (ts : Terms) → RaisesSo (next_all reads ts) (applied_among reads ts)
    all_raise NoTerms = tt
    all_raise (MoreTerms t ts) =
        first_raises (next reads t) _ _ (applied_in reads t) (applied_among reads ts) (next_raises t)
        (λ v. after_raises (next_all reads ts) _ _ (applied_among reads ts) (all_raise ts) (λ vs. tt))

-- ---- how a process ends

-- what is so of each effect of a process whose next step is of this kind, and is this operation
abbrev EndsSo : ℕ → Kind → Option Applied → Process → Does → Type 0
EndsSo limit k a p (Ends v Ended) = (k ≡ Returning) × (p.below ≡ [])
EndsSo limit k a p (Ends v (Broken text)) = Overflows limit k p text ⊎ DividesByZero a text
EndsSo limit k a p (Ends v (Faulted number pc)) = ⊥
EndsSo limit k a p _ = Unit {0}

full : (a b : ℕ) → nat_lt a b ≡ false → b ≤ a
full a b h = search (rules, tests, h)

module _ (limit : ℕ) (routines : List Routine) (w : World) (p : Process) where
  returns_ends : (a : Option Applied) (v : Value) (fs : List Frame) → p.below ≡ fs → EndsSo limit Returning a p (returns w p fs v)
  returns_ends a v [] e = (refl, e)
  returns_ends a v (f ∷ fs) e = tt

  enters_ends : (a : Option Applied) (b : Bool) (x y : Does) → EndsSo limit Calling a p x → (b ≡ false → EndsSo limit Calling a p y)
      → EndsSo limit Calling a p (if b then x else y)
  enters_ends a true x y h k = h
  enters_ends a false x y h k = k refl

  calls_ends : (a : Option Applied) (waits : Block) (r : Option Routine) (args : List Value)
      → EndsSo limit Calling a p (calls limit w p waits r args)
  calls_ends a waits None args = tt
  calls_ends a waits (Some r) args =
      enters_ends a (nat_lt (height p) limit) _ _ tt (λ h. inl (record { calls = refl; full = full (height p) limit h; told = refl }))

  prints_ends : (a : Option Applied) (waits : Block) (g : Printing) → EndsSo limit Other a p (prints w p waits g)
  prints_ends a waits (Answers o v) = tt
  prints_ends a waits (Requests o m k) = tt
  prints_ends a waits NoReply = tt

  written_ends : (k : Kind) (a : Option Applied) (q : Place) (v : Value) (todo : Block) → EndsSo limit k a p (written w p q v todo)
  written_ends k a (At t (Local x)) v todo = tt
  written_ends k a (At t (Global x)) v todo = tt

  evaluate_ends : (k : Kind) (a : Option Applied) (rest : Block) (g : Progress Value Term) (within : Term → Stm) (use_it : Value → Does)
      → RaisesSo g a → ((v : Value) → EndsSo limit k a p (use_it v))
      → EndsSo limit (kind_in g k) a p (evaluate limit routines w p rest g within use_it)
  evaluate_ends k a rest (Finished v) within use_it r h = h v
  evaluate_ends k a rest (Stepped t) within use_it r h = tt
  evaluate_ends k a rest (Writes q v t) within use_it r h = written_ends Other a q v (Then (within t) rest)
  evaluate_ends k a rest (Calls f args t) within use_it r h = calls_ends a (Then (within t) rest) (slice_get routines f) args
  evaluate_ends k a rest (Prints ps vs t) within use_it r h = prints_ends a (Then (within t) rest) (print w.outside (text_of ps vs))
  evaluate_ends k a rest (Raises text) within use_it r h = inr r
  evaluate_ends k a rest Blocked within use_it r h = tt

  sets_ends : (k : Kind) (a : Option Applied) (rest : Block) (qs : List Place) (v : Value)
      → EndsSo limit k a p (sets limit routines w p rest qs v)
  sets_ends k a rest [] v = tt
  sets_ends k a rest (q ∷ qs) v = written_ends k a q _ _

  abbrev now : Place → Value
  now = reads w p.frame

  abbrev evaluated_ends : (k : Kind) (t : Term) (rest : Block) (within : Term → Stm) (use_it : Value → Does)
      → ((v : Value) → EndsSo limit k (applied_in now t) p (use_it v))
      → EndsSo limit (kind_in (next now t) k) (applied_in now t) p (evaluate limit routines w p rest (next now t) within use_it)
  evaluated_ends k t rest within use_it h = evaluate_ends k (applied_in now t) rest (next now t) within use_it (next_raises now t) h

  act_ends : (s : Stm) (rest : Block) → EndsSo limit (kind_of_stm now s) (applied_by_stm now s) p (act limit routines w p s rest)
  act_ends Over rest = tt
  act_ends (Eval t) rest = evaluated_ends Other t rest _ _ (λ v. tt)
  act_ends (Set qs t) rest = evaluated_ends Other t rest _ _ (λ v. sets_ends Other (applied_in now t) rest qs v)
  act_ends (If t a b) rest = evaluated_ends Other t rest _ _ (λ v. tt)
  act_ends (While t l) rest = evaluated_ends Other t rest _ _ (λ v. tt)
  act_ends (Enter l) rest = tt
  act_ends (Break n) rest = tt
  act_ends (Continue n) rest = tt
  act_ends (Return t) rest = evaluated_ends Returning t rest _ _ (λ v. returns_ends (applied_in now t) v p.below refl)
  act_ends Leave rest = returns_ends None zero_value p.below refl

  work_ends : (todo : Block) → EndsSo limit (kind_of_block now todo) (applied_by_block now todo) p (work limit routines w p todo)
  work_ends Done = returns_ends None zero_value p.below refl
  work_ends (Then s rest) = act_ends s rest
  work_ends (Turn l rest) = tt
  work_ends (Again l rest) = tt

abbrev NoEnd : Does → Type 0
NoEnd (Ends v how) = ⊥
NoEnd _ = Unit {0}

hears_on : (w : World) (p : Process) (g : Printing) → NoEnd (hears w p g)
hears_on w p (Answers o v) = tt
hears_on w p (Requests o m k) = tt
hears_on w p NoReply = tt

heard_on : (a : Rmsg) (w : World) (p : Process) (k : Option Writing) → NoEnd (heard a w p k)
heard_on a w p None = tt
heard_on a w p (Some k) = hears_on w p (hear a w.outside k)

abbrev So : ℕ → World → Process → Does → Type 0
So limit w p = EndsSo limit (kind_of w p) (applied_by w p) p

pub ends_only_so : EndsOnlySo
ends_only_so = record {
  ended = λ limit routines w v p e. subst (So limit w p) e (work_ends limit routines w p p.frame.todo);
  broken = λ limit routines w v p text e. subst (So limit w p) e (work_ends limit routines w p p.frame.todo);
  faulted = λ limit routines w v p number pc e. subst (So limit w p) e (work_ends limit routines w p p.frame.todo);
  at_reply = λ a w v p how e. subst NoEnd e (heard_on a w p p.printing);
}
