-- Each name of the heap is used once.
use Rattle.std.proofs.Common.{◌≡◌, ◌≢◌, ℕ, zero, suc, ◌≤◌, List, [], ◌∷◌, ◌++◌, length, Option, None, Some, refl, sym, ap, subst, ◌∙◌}
use Rattle.std.proofs.Common.{arith}
use Rattle.std.specs.Prelude.{slice_set}
use Rattle.styx_msg.specs.declared.message.Rmsg.{Rmsg}
use Rattle.process_model.specs.Process.{Went, Parks, Polls, Spawns, Asks, Ends}
use Rattle.process_model.specs.Source.{Hears, goes_on, asks_again, is_over, Steps, goes, waits, meets, polls, passes, spawns, asks, ends}
use Rattle.process_model.specs.Source.{Run, still, next, Turn}
use Rattle.process_model.specs.Source.{Matched, begun, turn, down, reply}
use Rattle.heap_model.specs.Heap.{Heap, at, stays}
use Rattle.heap_model.proofs.Heap.{at_more, stays_length, stays_part}
use Rattle.limbo_layout.specs.Adts.{Def}
use Rattle.system_model.specs.Prints.{Printing, Answers, Requests, NoReply, Writing, hear}
use Rattle.limbo_meaning.specs.Values.{Value}
use Rattle.limbo_meaning.specs.Memory.{HeapValue, inside, Memory, changed, changed_to}
use Rattle.limbo_meaning.specs.Trees.{Term, Block}
use Rattle.limbo_meaning.specs.Evaluation.{Stepped}
use Rattle.limbo_meaning.specs.Program.{Program}
use Rattle.limbo_meaning.specs.Process.{Shared, Frame, Process, Does, memory_of, prints, returns, hears}
use Rattle.limbo_meaning.specs.Step.{progress, step, heard, answer}
use Rattle.limbo_meaning.specs.Rules.{rules, naming}
use Rattle.limbo_meaning.specs.Runs.{Meaning}
use Rattle.limbo_meaning.specs.Naming.{AddsOnly, NamesUsedOnce}
use Rattle.limbo_meaning.proofs.Steps as steps
use Rattle.limbo_meaning.proofs.Steps.{Made, made}
use Rattle.limbo_meaning.proofs.Touching.{Touched, as_it_was, added, wrote, changed_value, Leaves, touches}

pub adds_nothing : (h : Heap HeapValue) → AddsOnly h h
adds_nothing h = record { longer = omega arith; empty = λ n l e. e }

pub adds_on : (f g h : Heap HeapValue) → AddsOnly f g → AddsOnly g h → AddsOnly f h
adds_on f g h a b = record {
  longer = omega (arith, a.longer, b.longer);
  empty = λ n l e. b.empty n (omega (arith, a.longer, l)) (a.empty n l e);
}

adds_one : (h : Heap HeapValue) (v : HeapValue) → AddsOnly h (h ++ Some v ∷ [])
adds_one h v = record {
  longer = longer h;
  empty = λ n l e. at_more h (Some v) n (λ same. omega (arith, same, l)) ∙ e;
}
  where
    longer : (g : Heap HeapValue) → length g ≤ length (g ++ Some v ∷ [])
    longer [] = omega arith
    longer (o ∷ os) = omega (arith, longer os)

set_long : (h : Heap HeapValue) (n : ℕ) (o : Option HeapValue) → length (slice_set h n o) ≡ length h
set_long [] n o = refl
set_long (p ∷ os) zero o = refl
set_long (p ∷ os) (suc n) o = ap suc (set_long os n o)

pub set_apart : (h : Heap HeapValue) (n : ℕ) (o : Option HeapValue) (k : ℕ) → k ≢ n → at (slice_set h n o) k ≡ at h k
set_apart [] n o k ne = refl
set_apart (p ∷ os) zero o zero ne = absurd (ne refl)
set_apart (p ∷ os) zero o (suc k) ne = refl
set_apart (p ∷ os) (suc n) o zero ne = refl
set_apart (p ∷ os) (suc n) o (suc k) ne = set_apart os n o k (λ e. ne (ap suc e))

not_there : (h : Heap HeapValue) (n k : ℕ) (u : HeapValue) → at h n ≡ Some u → at h k ≡ None → k ≢ n
not_there h n k u e f same = let z : None ≡ Some u = sym f ∙ (ap (at h) same ∙ e) in absurd cc

adds_changed : (h : Heap HeapValue) (n : ℕ) (v : HeapValue) → AddsOnly h (changed h n v)
adds_changed h n v = go (at h n) refl
  where
    go : (o : Option HeapValue) → at h n ≡ o → AddsOnly h (changed_to h n o v)
    go None e = adds_nothing h
    go (Some u) e = record {
      longer = let z = set_long h n (Some v) in omega arith;
      empty = λ k l f. set_apart h n (Some v) k (not_there h n k u e f) ∙ f;
    }

pub adds_touched : (m m' : Memory) → Touched m m' → AddsOnly m.heap m'.heap
adds_touched m m' as_it_was = adds_nothing m.heap
adds_touched m m' (added v) = adds_one m.heap v
adds_touched m m' (wrote vs) = adds_nothing m.heap
adds_touched m m' (changed_value n v) = adds_changed m.heap n v

adds_cut : (roots : ℕ → ℕ) (h : Heap HeapValue) → AddsOnly h (stays inside roots h)
adds_cut roots h = record {
  longer = let z = stays_length inside roots h in omega arith;
  empty = λ n l e. go n e (at (stays inside roots h) n) refl;
}
  where
    go : (n : ℕ) → at h n ≡ None → (o : Option HeapValue) → at (stays inside roots h) n ≡ o → at (stays inside roots h) n ≡ None
    go n e None f = f
    go n e (Some u) f = let z : None ≡ Some u = sym e ∙ stays_part inside roots h n u f in absurd cc

-- ---- one step of a process

abbrev pub AddsIn : Shared → Does → Type 0
AddsIn w (Went v q) = AddsOnly w.heap v.heap
AddsIn w (Parks v bs q) = AddsOnly w.heap v.heap
AddsIn w (Polls v bs q q') = AddsOnly w.heap v.heap
AddsIn w (Spawns v child q) = AddsOnly w.heap v.heap
AddsIn w (Asks v m q) = AddsOnly w.heap v.heap
AddsIn w (Ends v how) = AddsOnly w.heap v.heap

module _ (limit : ℕ) (program : Program) (w : Shared) (p : Process) where
  adds_printed : (todo : Block) (printing : Printing) → AddsIn w (prints w p todo printing)
  adds_printed todo (Answers o v) = adds_nothing w.heap
  adds_printed todo (Requests o m k) = adds_nothing w.heap
  adds_printed todo NoReply = adds_nothing w.heap

  adds_returned : (defs : List Def) (below : List Frame) (v : Value) → AddsIn w (returns defs w p below v)
  adds_returned defs [] v = adds_nothing w.heap
  adds_returned defs (f ∷ below) v = adds_nothing w.heap

  adds_stepped : (t t' : Term) (m : Memory) (got : List (Option ℕ)) → progress limit program w p t ≡ Stepped m got t'
      → AddsOnly w.heap m.heap
  adds_stepped t t' m got e =
      adds_touched (memory_of w p.frame) m
      (subst (Leaves (memory_of w p.frame) program.adts) e (touches (memory_of w p.frame) program.adts t))

  adds_made : (e : Does) → Made limit program w p e → AddsIn w e
  adds_made e steps.stood = adds_nothing w.heap
  adds_made e (steps.went_on todo) = adds_nothing w.heap
  adds_made e (steps.let_one_go r rs end is) = adds_nothing w.heap
  adds_made e (steps.made_step t t' m got todo is) = adds_stepped t t' m got is
  adds_made e (steps.called t r args todo is) = adds_nothing w.heap
  adds_made e (steps.overflowed is) = adds_nothing w.heap
  adds_made e (steps.printed todo printing) = adds_printed todo printing
  adds_made e (steps.raised t text is) = adds_nothing w.heap
  adds_made e (steps.returned v) = adds_returned program.adts p.below v

  pub adds_step : AddsIn w (step limit program w p)
  adds_step = adds_made (step limit program w p) (made limit program w p)

adds_heard : (w : Shared) (p : Process) (printing : Printing) → AddsIn w (hears w p printing)
adds_heard w p (Answers o v) = adds_nothing w.heap
adds_heard w p (Requests o m k) = adds_nothing w.heap
adds_heard w p NoReply = adds_nothing w.heap

adds_answered : (a : Rmsg) (w : Shared) (p : Process) (k : Option Writing) → AddsIn w (heard a w p k)
adds_answered a w p None = adds_nothing w.heap
adds_answered a w p (Some k) = adds_heard w p (hear a w.outside k)

-- ---- runs

module _ (limit : ℕ) (program : Program) where
  -- what an effect leaves, and then the cut
  cut_on : (h g : Heap HeapValue) (roots : ℕ → ℕ) → AddsOnly h g → AddsOnly h (stays inside roots g)
  cut_on h g roots a = adds_on h g (stays inside roots g) a (adds_cut roots g)

  did : (w : Shared) (p : Process) (e : Does) → step limit program w p ≡ e → AddsIn w e
  did w p e is = subst (AddsIn w) is (adds_step limit program w p)

  said : (a : Rmsg) (w : Shared) (p : Process) (e : Does) → answer a w p ≡ e → AddsIn w e
  said a w p e is = subst (AddsIn w) is (adds_answered a w p p.printing)

  adds_steps : (c e : Meaning) (i : ℕ) → Steps (rules limit program) naming c i e → AddsOnly c.world.heap e.world.heap
  adds_steps c e i0 (goes i p w p' at does) = cut_on c.world.heap w.heap _ (did c.world p _ does)
  adds_steps c e i0 (waits i p w bs p' at does) = cut_on c.world.heap w.heap _ (did c.world p _ does)
  adds_steps c e i0 (meets i p bs k a j l b q at branch fit) = cut_on c.world.heap c.world.heap _ (adds_nothing c.world.heap)
  adds_steps c e i0 (polls i p w bs p' p'' k a j l b q at does branch fit) = cut_on c.world.heap w.heap _ (did c.world p _ does)
  adds_steps c e i0 (passes i p w bs p' p'' at does none) = cut_on c.world.heap w.heap _ (did c.world p _ does)
  adds_steps c e i0 (spawns i p w child p' at does) = cut_on c.world.heap w.heap _ (did c.world p _ does)
  adds_steps c e i0 (asks i p w m p' at does) = cut_on c.world.heap w.heap _ (did c.world p _ does)
  adds_steps c e i0 (ends i p w how at does) = cut_on c.world.heap w.heap _ (did c.world p _ does)

  adds_hears : (c e : Meaning) (i : ℕ) (a : Rmsg) → Hears (rules limit program) naming c i a e → AddsOnly c.world.heap e.world.heap
  adds_hears c e i a (goes_on p w p' at does) = cut_on c.world.heap w.heap _ (said a c.world p _ does)
  adds_hears c e i a (asks_again p w m p' at does) = cut_on c.world.heap w.heap _ (said a c.world p _ does)
  adds_hears c e i a (is_over p w how at does) = cut_on c.world.heap w.heap _ (said a c.world p _ does)

  adds_run : (c : Meaning) (i : ℕ) (e : Meaning) (n : ℕ) → Run (rules limit program) naming i c n e → AddsOnly c.world.heap e.world.heap
  adds_run c i e n still = adds_nothing c.world.heap
  adds_run c i e n (next {d = d} run last) =
      adds_on c.world.heap d.world.heap e.world.heap (adds_run c i d _ run) (adds_steps d e i last)

  pub adds_matched : (c e : Meaning) (turns : List Turn) → Matched (rules limit program) naming c turns e
      → AddsOnly c.world.heap e.world.heap
  adds_matched c e turns begun = adds_nothing c.world.heap
  adds_matched c e turns (turn {d = d} i n before run) =
      adds_on c.world.heap d.world.heap e.world.heap (adds_matched c d _ before) (adds_run d i e n run)
  adds_matched c e turns (down {d = d} l w before lost) = absurd cc
  adds_matched c e turns (reply {d = d} i a before heard) =
      adds_on c.world.heap d.world.heap e.world.heap (adds_matched c d _ before) (adds_hears d e i a heard)

pub names_used_once : NamesUsedOnce
names_used_once = record {
  step = λ limit program w v p q e. did limit program w p (Went v q) e;
  run = adds_matched;
}
