-- A process that ends or breaks changes nothing, and is gone with all that it had.
use Rattle.std.proofs.Common.{◌≡◌, ℕ, List, [], ◌∷◌, Option, None, Some, refl, sym, ap, ◌∙◌, subst}
use Rattle.std.specs.Prelude.{slice_get}
use Rattle.styx_msg.specs.declared.message.Rmsg.{Rmsg}
use Rattle.process_model.specs.Process.{Branch, Went, Parks, Polls, Spawns, Asks, Ends, Doing, Ready, Waiting, Gone}
use Rattle.process_model.specs.Naming.{total}
use Rattle.process_model.specs.Source.{Steps, goes, waits, meets, polls, passes, spawns, asks, ends}
use Rattle.process_model.proofs.Lists.{set_same}
use Rattle.heap_model.specs.Heap.{stays}
use Rattle.limbo_layout.specs.Adts.{Def}
use Rattle.system_model.specs.Prints.{Printing, Answers, Requests, NoReply, Writing, hear}
use Rattle.system_model.specs.Ending.{Ending, Ended}
use Rattle.limbo_meaning.specs.Values.{Value}
use Rattle.limbo_meaning.specs.Memory.{inside}
use Rattle.limbo_meaning.specs.Trees.{Block}
use Rattle.limbo_meaning.specs.Program.{Program}
use Rattle.limbo_meaning.specs.Process.{Shared, Frame, Process, Does, prints, returns, hears}
use Rattle.limbo_meaning.specs.Step.{step, heard}
use Rattle.limbo_meaning.specs.Rules.{rules, naming}
use Rattle.limbo_meaning.specs.Runs.{Meaning}
use Rattle.limbo_meaning.specs.Endings.{LeavesToOthers, EndsLetGo}
use Rattle.limbo_meaning.proofs.Steps.{Made, stood, went_on, let_one_go, made_step, called, overflowed, printed, raised, returned, made}

-- ---- the step itself

module _ (limit : ℕ) (program : Program) (w : Shared) (p : Process) where
  -- the world stays; and an end that isn't a break is that of the only frame
  abbrev OfOnly : Ending → Type 0
  OfOnly Ended = p.below ≡ []
  OfOnly _ = Unit {0}

  abbrev EndsSo : Does → Type 0
  EndsSo (Ends v how) = (v ≡ w) × OfOnly how
  EndsSo _ = Unit {0}

  so_printed : (waits : Block) (printing : Printing) → EndsSo (prints w p waits printing)
  so_printed todo (Answers o v) = tt
  so_printed todo (Requests o m k) = tt
  so_printed todo NoReply = tt

  so_returned : (defs : List Def) (below : List Frame) → p.below ≡ below → (v : Value) → EndsSo (returns defs w p below v)
  so_returned defs [] e v = (refl, e)
  so_returned defs (f ∷ below) e v = tt

  so_made : (e : Does) → Made limit program w p e → EndsSo e
  so_made e stood = tt
  so_made e (went_on todo) = tt
  so_made e (let_one_go r rs end is) = tt
  so_made e (made_step t t' m got todo is) = tt
  so_made e (called t r args todo is) = tt
  so_made e (overflowed is) = (refl, tt)
  so_made e (printed todo printing) = so_printed todo printing
  so_made e (raised t text is) = (refl, tt)
  so_made e (returned v) = so_returned program.adts p.below refl v

  pub ends_so : (v : Shared) (how : Ending) → step limit program w p ≡ Ends v how → (v ≡ w) × OfOnly how
  ends_so v how e = subst EndsSo e (so_made (step limit program w p) (made limit program w p))

-- ---- replies

abbrev NoEnd : Does → Type 0
NoEnd (Ends v how) = ⊥
NoEnd _ = Unit {0}

no_end_heard : (w : Shared) (p : Process) (printing : Printing) → NoEnd (hears w p printing)
no_end_heard w p (Answers o v) = tt
no_end_heard w p (Requests o m k) = tt
no_end_heard w p NoReply = tt

no_end : (a : Rmsg) (w : Shared) (p : Process) (k : Option Writing) → NoEnd (heard a w p k)
no_end a w p None = tt
no_end a w p (Some k) = no_end_heard w p (hear a w.outside k)

-- ---- the step among many processes

abbrev standing : Doing Process Value → Option (Doing Process Value)
standing d = Some d

ready_same : (p q : Process) → standing (Ready p) ≡ standing (Ready q) → p ≡ q
ready_same p q e = cc

ready_not_waiting : (p q : Process) (bs : List (Branch Value)) → standing (Ready p) ≡ standing (Waiting bs q) → ⊥
ready_not_waiting p q bs e = absurd cc

-- an end, and no other effect
abbrev IsEnd : Does → Type 0
IsEnd (Ends v how) = Unit {0}
IsEnd _ = ⊥

module _ (limit : ℕ) (program : Program) (c : Meaning) (i : ℕ) (p : Process) (v : Shared) (how : Ending)
    (there : slice_get c.processes i ≡ Some (Ready p)) (over : step limit program c.world p ≡ Ends v how) where
  -- what stands there has this effect and no other
  only : (q : Process) (e : Does) → slice_get c.processes i ≡ Some (Ready q) → step limit program c.world q ≡ e → IsEnd e
  only q e at does =
      let same : p ≡ q = ready_same p q (sym there ∙ at) in
      subst IsEnd (sym (subst (λ q. step limit program c.world q ≡ Ends v how) same over) ∙ does) tt

  lets_go : (e : Meaning) → Steps (rules limit program) naming c i e → LeavesToOthers c e i
  lets_go e (goes i q w q' at does) = absurd (only q (Went w q') at does)
  lets_go e (waits i q w bs q' at does) = absurd (only q (Parks w bs q') at does)
  lets_go e (meets i q bs k a j l b r at branch fit) = absurd (ready_not_waiting p q bs (sym there ∙ at))
  lets_go e (polls i q w bs q' q'' k a j l b r at does branch fit) = absurd (only q (Polls w bs q' q'') at does)
  lets_go e (passes i q w bs q' q'' at does none) = absurd (only q (Polls w bs q' q'') at does)
  lets_go e (spawns i q w child q' at does) = absurd (only q (Spawns w child q') at does)
  lets_go e (asks i q w m q' at does) = absurd (only q (Asks w m q') at does)
  lets_go e (ends i q w its at does) =
      let same = (ends_so limit program c.world q w its does).0 in
      record {
        gone = set_same c.processes i Gone (Ready q) at;
        heap =
            ap (λ x. stays inside (total naming e.processes) x.heap) same;
        outside = ap (λ x. x.outside) same;
      }

pub ends_let_go : EndsLetGo
ends_let_go = record {
  nothing = λ limit program w v p how e. (ends_so limit program w p v how e).0;
  all = λ limit program c e i p v how there over step. lets_go limit program c i p v how there over e step;
  names = λ n. refl;
  ended = λ limit program w v p e. (ends_so limit program w p v Ended e).1;
  at_reply = λ a w v p how e. subst NoEnd e (no_end a w p p.printing);
}
