-- A statement's references go in the order got, each in a step of its own.
use Rattle.std.proofs.Common.{◌≡◌, ℕ, true, List, [], ◌∷◌, ◌++◌, length, Option, None, ◌⊎◌, inl, inr, refl, sym, ap, subst, append-nil}
use Rattle.process_model.specs.Process.{Went}
use Rattle.process_model.specs.Alone.{Goes, here, on}
use Rattle.limbo_layout.specs.Adts.{Def}
use Rattle.system_model.specs.Prints.{Printing, Answers, Requests, NoReply}
use Rattle.limbo_meaning.specs.Values.{Value, fitted}
use Rattle.limbo_meaning.specs.Trees.{Evaluated, Stm, Over, Eval, If, While, Block, Then}
use Rattle.limbo_meaning.specs.Program.{Program}
use Rattle.limbo_meaning.specs.Process.{Shared, Frame, Process, Does, drops, prints, returns}
use Rattle.limbo_meaning.specs.Step.{act, work, step}
use Rattle.limbo_meaning.specs.Rules.{rules}
use Rattle.limbo_meaning.specs.Holding.{is_at_end, IsAtEnd, ends_first, holding, HoldsThen, got_more, let_go, HoldsBelow, HoldsAnswer}
use Rattle.limbo_meaning.specs.Holding.{HeldInOrder}
use Rattle.limbo_meaning.proofs.Steps.{Made, stood, went_on, let_one_go, made_step, called, overflowed, printed, raised, returned, made}

-- the first that is held goes
module _ (limit : ℕ) (program : Program) (w : Shared) (p : Process) (r : Option ℕ) (rs : List (Option ℕ)) (e : p.frame.held ≡ r ∷ rs) where
  dropped : (done : Does) → drops w p p.frame.held done ≡ Went w (holding p rs)
  dropped done = ap (λ held. drops w p held done) e

  first_act : (s : Stm) (rest : Block) → is_at_end s ≡ true → act limit program w p s rest ≡ Went w (holding p rs)
  first_act Over rest x = dropped _
  first_act (Eval (Evaluated v)) rest x = dropped _
  first_act (If (Evaluated v) a b) rest x = dropped _
  first_act (While (Evaluated v) l) rest x = dropped _
  first_act s rest x = absurd cc

  first_work : (todo : Block) → ends_first todo ≡ true → work limit program w p todo ≡ Went w (holding p rs)
  first_work (Then s rest) x = first_act s rest x
  first_work todo x = absurd cc

first : (limit : ℕ) (program : Program) (w : Shared) (p : Process) (r : Option ℕ) (rs : List (Option ℕ)) →
    IsAtEnd p → p.frame.held ≡ r ∷ rs → step limit program w p ≡ Went w (holding p rs)
first limit program w p r rs end e = first_work limit program w p r rs e p.frame.todo end

all_from : (limit : ℕ) (program : Program) (w : Shared) (held : List (Option ℕ)) (p : Process) → p.frame.held ≡ held →
    IsAtEnd p → p.printing ≡ None → Goes (rules limit program) (length held) w p w (holding p [])
all_from limit program w [] p e end quiet = subst (λ q. Goes (rules limit program) 0 w p w q) same here
  where
    same : p ≡ holding p []
    same = λ i. record { number = p.number; frame = record p.frame { held = e i }; below = p.below; printing = quiet i }
all_from limit program w (r ∷ rs) p e end quiet = on (first limit program w p r rs end e)
    (all_from limit program w rs (holding p rs) refl end refl)

-- what is held after each kind of step
module _ (limit : ℕ) (program : Program) (w : Shared) (p : Process) where
  abbrev Holds : Does → Type 0
  Holds (Went v q) = HoldsThen p q ⊎ (HoldsBelow p q ⊎ HoldsAnswer p q)
  Holds _ = Unit {0}

  same_held : (held : List (Option ℕ)) → held ≡ held ++ []
  same_held held = sym (append-nil held)

  holds_printed : (waits : Block) (printing : Printing) → Holds (prints w p waits printing)
  holds_printed waits (Answers o v) = inl (got_more [] (same_held p.frame.held))
  holds_printed waits (Requests o m k) = tt
  holds_printed waits NoReply = tt

  holds_returned : (defs : List Def) (below : List Frame) → p.below ≡ below → (v : Value) → Holds (returns defs w p below v)
  holds_returned defs [] e v = tt
  holds_returned defs (f ∷ below) e v =
      inr (inr (record { caller = f; waited = e; answer = fitted defs p.frame.answer v; more = refl }))

  holds_made : (e : Does) → Made limit program w p e → Holds e
  holds_made e stood = tt
  holds_made e (went_on todo) = inl (got_more [] (same_held p.frame.held))
  holds_made e (let_one_go r rs end is) = inl (let_go r end is)
  holds_made e (made_step t t' m got todo is) = inl (got_more got refl)
  holds_made e (called t r args waits is) = inr (inl (record { caller = _; waits = refl; still = refl; nothing = refl }))
  holds_made e (overflowed is) = tt
  holds_made e (printed waits printing) = holds_printed waits printing
  holds_made e (raised t text is) = tt
  holds_made e (returned v) = holds_returned program.adts p.below refl v

pub held_in_order : HeldInOrder
held_in_order = record {
  first = first;
  all = λ limit program w p end quiet. all_from limit program w p.frame.held p refl end quiet;
  steps = λ limit program w v p q e. subst (Holds limit program w p) e (holds_made limit program w p _ (made limit program w p));
}
