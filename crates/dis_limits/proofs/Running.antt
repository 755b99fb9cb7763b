-- What a run keeps: each instruction makes at most one block and one frame, and each reply makes none.
use Rattle.std.proofs.Common.{◌≡◌, ℕ, zero, suc, ◌+◌, ◌≤◌, ℤ, Bool, true, false, List, [], ◌∷◌, ◌++◌, length, refl, sym, ap, subst, arith}
use Rattle.std.specs.Prelude.{Option, Some, None, slice_get, nat_eq, nat_lt, if◌then◌else◌}
use Rattle.std.proofs.Math.ListN.{set}
use Rattle.std.proofs.lemmas.List.{length-append}
use Rattle.styx_msg.specs.declared.message.Rmsg.{Rmsg}
use Rattle.process_model.specs.Process.{Went, Parks, Polls, Spawns, Asks, Ends, Doing, Ready, Waiting, Asking, Gone, Requested, Replied}
use Rattle.process_model.specs.Process.{Over}
use Rattle.process_model.specs.Naming.{total}
use Rattle.process_model.specs.Law.{repeated, instructions}
use Rattle.process_model.specs.Machine as machine
use Rattle.process_model.specs.Machine.{Event, Quantum, Reply, Down}
use Rattle.heap_model.specs.Heap.{Heap, stays}
use Rattle.heap_model.proofs.Heap.{stays_length, stays_part}
use Rattle.dis_file.specs.declared.object.Object.{Object}
use Rattle.system_model.specs.Prints.{Printing, Answers, Requests, NoReply, hear}
use Rattle.system_model.specs.Values.{Value}
use Rattle.dis_meaning.specs.Words.{Place, Access, Found, Wrong, Raises, ◌>>=◌}
use Rattle.dis_meaning.specs.Places.{Far}
use Rattle.dis_meaning.specs.Process as process
use Rattle.dis_meaning.specs.Process.{Process, with_frames}
use Rattle.dis_meaning.specs.Step.{word_of}
use Rattle.dis_memory.specs.Blocks.{Block, World}
use Rattle.dis_memory.specs.Control.{with_outside, outside_of, answered, hears, heard, answer}
use Rattle.dis_memory.specs.Naming.{inside, naming}
use Rattle.dis_memory.specs.Places.{Memory}
use Rattle.dis_memory.specs.Process.{Does, or_fault}
use Rattle.dis_memory.specs.Rules.{rules}
use Rattle.dis_memory.specs.Step.{step}
use Rattle.dis_counts.specs.Counts.{Machine}
use Rattle.dis_limits.specs.Limits.{instructions_in}
use Rattle.dis_limits.proofs.Fitting.{Allows, ProcessWithin, HeapWithin, heap_on, Within, store_kept}
use Rattle.dis_limits.proofs.Walking.{LeftBy, step_within}

-- How many frames a process has.
abbrev pub frames_of : Process → ℕ
frames_of p = suc (length p.below + length p.made)

abbrev pub frames_in : Doing Process Value → ℕ
frames_in (Ready p) = frames_of p
frames_in (Waiting bs p) = frames_of p
frames_in (Asking p) = frames_of p
frames_in Gone = 0

abbrev pub all_frames_in : List (Doing Process Value) → ℕ
all_frames_in [] = 0
all_frames_in (d ∷ ds) = frames_in d + all_frames_in ds

set_frames : (ps : List (Doing Process Value)) (i : ℕ) (d e : Doing Process Value) → slice_get ps i ≡ Some d
    → all_frames_in (set ps i e) + frames_in d ≡ all_frames_in ps + frames_in e
set_frames [] i d e here = absurd cc
set_frames (c ∷ cs) zero d e here =
    let same : c ≡ d = cc in let z : frames_in c ≡ frames_in d = ap frames_in same in omega arith
set_frames (c ∷ cs) (suc i) d e here = let z = set_frames cs i d e here in omega arith

-- How many instructions an event has.
abbrev pub in_event : Event Rmsg → ℕ
in_event (Quantum i l) = l
in_event (Reply i a) = 0
in_event (Down l) = 0

repeated_long : (i l : ℕ) → length (repeated i l) ≡ l
repeated_long i zero = refl
repeated_long i (suc l) = ap suc (repeated_long i l)

pub length_more : (e : Event Rmsg) (journal : List (Event Rmsg)) → instructions_in (e ∷ journal) ≡ in_event e + instructions_in journal
length_more (Quantum i l) journal =
    let z = length-append (repeated i l) (instructions journal) in let y = repeated_long i l in omega arith
length_more (Reply i a) journal = omega arith
length_more (Down l) journal = omega arith

module _ (Fits : ℕ → Type 0) where
  -- ---- a reply

  hears_within : (n k : ℕ) (x : World) (p : Process) (place : Place) (i : ℤ) (g : Printing) → Within Fits n k x p
      → LeftBy Fits n k (hears x p place i g)
  hears_within n k x p place i (Answers y v) w = go (answered (with_outside x y) p place i v) refl
    where
      go : (a : Access Memory) → answered (with_outside x y) p place i v ≡ a
          → LeftBy Fits n k
          (or_fault x p (a >>= λ m. Found (Went m.world (with_frames m.process m.process.frame m.process.below m.process.made))))
      go (Found m) e =
          let s = store_kept Fits n k (with_outside x y) p (Far place i) (word_of v) m (record { heap = w.heap; process = w.process }) e in
          record {
            heap = s.heap;
            process = record { frame = s.process.frame; below = s.process.below; made = s.process.made; few = s.process.few };
          }
      go (Wrong number) e = w.heap
      go (Raises text) e = w.heap
  hears_within n k x p place i (Requests y m g) w =
      record {
        heap = w.heap;
        process = record { frame = w.process.frame; below = w.process.below; made = w.process.made; few = w.process.few };
      }
  hears_within n k x p place i NoReply w = w

  answer_within : (n k : ℕ) (x : World) (p : Process) (a : Rmsg) → Within Fits n k x p → LeftBy Fits n k (answer a x p)
  answer_within n k x p a w = go p.printing
    where
      go : (o : Option process.Printing) → LeftBy Fits n k (heard a x p o)
      go None = w
      go (Some g) = hears_within n k x p g.place g.at (hear a (outside_of x) g.writing) w

  -- ---- many processes

  -- The words of a process's frames fit.
  abbrev pub DoingFits : Doing Process Value → Type 0
  DoingFits (Ready p) = ProcessWithin Fits (frames_of p) p
  DoingFits (Waiting bs p) = ProcessWithin Fits (frames_of p) p
  DoingFits (Asking p) = ProcessWithin Fits (frames_of p) p
  DoingFits Gone = Unit {0}

  abbrev pub AllFit : List (Doing Process Value) → Type 0
  AllFit [] = Unit {0}
  AllFit (d ∷ ds) = DoingFits d × AllFit ds

  -- How many blocks were made and how many frames there are, at most; all of them fit.
  pub record Bounded (n k : ℕ) (s : Machine) : Type 0 where
    pub heap : HeapWithin Fits n s.world.heap
    pub processes : AllFit s.processes
    pub frames : all_frames_in s.processes ≤ k

  pub bounded_on : (n m k l : ℕ) (s : Machine) → n ≤ m → k ≤ l → Bounded n k s → Bounded m l s
  bounded_on n m k l s a b c = record {
    heap = heap_on Fits n m s.world.heap a c.heap;
    processes = c.processes;
    frames = let z = c.frames in omega arith;
  }

  get_fits : (ps : List (Doing Process Value)) (i : ℕ) (d : Doing Process Value) → AllFit ps → slice_get ps i ≡ Some d → DoingFits d
  get_fits [] i d all e = absurd cc
  get_fits (c ∷ cs) zero d all e = subst DoingFits (let z : c ≡ d = cc in z) all.0
  get_fits (c ∷ cs) (suc i) d all e = get_fits cs i d all.1 e

  set_fits : (ps : List (Doing Process Value)) (i : ℕ) (d : Doing Process Value) → AllFit ps → DoingFits d → AllFit (set ps i d)
  set_fits [] i d all fit = all
  set_fits (c ∷ cs) zero d all fit = (fit, all.1)
  set_fits (c ∷ cs) (suc i) d all fit = (all.0, set_fits cs i d all.1 fit)

  own_fits : (k : ℕ) (q : Process) → ProcessWithin Fits k q → ProcessWithin Fits (frames_of q) q
  own_fits k q w = record { frame = w.frame; below = w.below; made = w.made; few = omega arith }

  -- What goes behind a step leaves fewer blocks.
  pub cut_within : (n : ℕ) (roots : ℕ → ℕ) (h : Heap Block) → HeapWithin Fits n h → HeapWithin Fits n (stays inside roots h)
  cut_within n roots h w = record {
    each = λ i b e. w.each i b (stays_part inside roots h i b e);
    few = let z = w.few in let y = stays_length inside roots h in omega arith;
  }

  cut_bounded : (n k i : ℕ) (s : Machine) → Bounded n k s → Bounded n k (machine.cut naming i s)
  cut_bounded n k i s c = record {
    heap = cut_within n (total naming s.processes) s.world.heap c.heap;
    processes = c.processes;
    frames = c.frames;
  }

  -- Process i has become another one, and there are at most so many frames now.
  changed : (n k m l : ℕ) (s t : Machine) (i : ℕ) (d e : Doing Process Value) → Bounded n k s → slice_get s.processes i ≡ Some d
      → HeapWithin Fits m t.world.heap → DoingFits e → k + frames_in e ≤ l + frames_in d → t.processes ≡ set s.processes i e
      → Bounded m l t
  changed n k m l s t i d e c here heap fit few is = record {
    heap = heap;
    processes = subst AllFit (sym is) (set_fits s.processes i e c.processes fit);
    frames =
        let z = set_frames s.processes i d e here in
        let y = c.frames in let x : all_frames_in t.processes ≡ all_frames_in (set s.processes i e) = ap all_frames_in is in omega arith;
  }

  module _ (limit : ℕ) (objects : List Object) (allow : (j : ℕ) (o : Object) → slice_get objects j ≡ Some o → Allows Fits o) where
    does_bounded : (n k : ℕ) (s : Machine) (i : ℕ) (p : Process) (e : Does) → Bounded n k s → slice_get s.processes i ≡ Some (Ready p)
        → LeftBy Fits (suc n) (suc (frames_of p)) e → Bounded (suc n) (suc k) (machine.does (rules limit objects) s i e)
    does_bounded n k s i p (Went y q) c here l =
        changed n k (suc n) (suc k) s _ i (Ready p) (Ready q) c here l.heap (own_fits _ q l.process)
        (let z = l.process.few in omega arith) refl
    does_bounded n k s i p (Parks y [] q) c here l =
        changed n k (suc n) (suc k) s _ i (Ready p) (Waiting [] q) c here l.heap (own_fits _ q l.process)
        (let z = l.process.few in omega arith) refl
    does_bounded n k s i p (Parks y (b ∷ bs) q) c here l = absurd l
    does_bounded n k s i p (Polls y bs q r) c here l = absurd l
    does_bounded n k s i p (Spawns y child q) c here l = absurd l
    does_bounded n k s i p (Asks y m q) c here l =
        changed n k (suc n) (suc k) s _ i (Ready p) (Asking q) c here l.heap (own_fits _ q l.process)
        (let z = l.process.few in omega arith) refl
    does_bounded n k s i p (Ends y how) c here l = changed n k (suc n) (suc k) s _ i (Ready p) Gone c here l tt (omega arith) refl

    obey_bounded : (n k : ℕ) (s t : Machine) (i : ℕ) → Bounded n k s → (o : Option (Doing Process Value)) → slice_get s.processes i ≡ o
        → machine.obey (rules limit objects) naming s i (machine.ready o) ≡ Some t → Bounded (suc n) (suc k) t
    obey_bounded n k s t i c (Some (Ready p)) here e =
        let u = machine.does (rules limit objects) s i (step limit objects s.world p) in
        let g : machine.cut naming i u ≡ t = cc in
        let own = get_fits s.processes i (Ready p) c.processes here in
        let w : Within Fits n (frames_of p) s.world p = record { heap = c.heap; process = own } in
        subst (Bounded (suc n) (suc k)) g (cut_bounded (suc n) (suc k) i u
        (does_bounded n k s i p (step limit objects s.world p) c here
        (step_within Fits limit objects allow n (frames_of p) s.world p w)))
    obey_bounded n k s t i c (Some (Waiting bs p)) here e = absurd cc
    obey_bounded n k s t i c (Some (Asking p)) here e = absurd cc
    obey_bounded n k s t i c (Some Gone) here e = absurd cc
    obey_bounded n k s t i c None here e = absurd cc

    pub turns_bounded : (n k : ℕ) (l i : ℕ) (s t : Machine) → Bounded n k s
        → machine.turns (rules limit objects) naming i l s ≡ Some t → Bounded (n + l) (k + l) t
    turns_bounded n k zero i s t c e =
        let q : s ≡ t = cc in subst (Bounded (n + 0) (k + 0)) q (bounded_on n (n + 0) k (k + 0) s (omega arith) (omega arith) c)
    turns_bounded n k (suc l) i s t c e =
        go (λ u d f. turns_bounded (suc n) (suc k) l i u t d f)
        (machine.obey (rules limit objects) naming s i (machine.ready (slice_get s.processes i))) refl e
      where
        go : ((u : Machine) → Bounded (suc n) (suc k) u → machine.turns (rules limit objects) naming i l u ≡ Some t
            → Bounded (suc n + l) (suc k + l) t)
            → (o : Option Machine)
            → machine.obey (rules limit objects) naming s i (machine.ready (slice_get s.processes i)) ≡ o
            → (elim o as (λ _. Option Machine) [ None ↦ None | Some u ↦ machine.turns (rules limit objects) naming i l u ]) ≡ Some t
            → Bounded (n + suc l) (k + suc l) t
        go again None f e = absurd cc
        go again (Some u) f e =
            bounded_on (suc n + l) (n + suc l) (suc k + l) (k + suc l) t (omega arith) (omega arith)
            (again u (obey_bounded n k s u i c (slice_get s.processes i) refl f) e)

    answered_bounded : (n k : ℕ) (s t : Machine) (i : ℕ) (a : Rmsg) (p : Process) → Bounded n k s
        → slice_get s.processes i ≡ Some (Asking p) → (e : Does) → LeftBy Fits n (frames_of p) e
        → (elim (machine.answered s i a e) as (λ _. Option Machine) [ None ↦ None | Some u ↦ Some (machine.cut naming i u) ]) ≡ Some t
        → Bounded n k t
    answered_bounded n k s t i a p c here (Went x q) l e =
        let u : Machine = record {
          processes = set s.processes i
              (Ready q);
          world = x;
          waiters = s.waiters;
          trace = s.trace ++ Replied i a ∷ [];
        } in
        let g : machine.cut naming i u ≡ t = cc in
        let d = changed n k n k s u i (Asking p) (Ready q) c here l.heap (own_fits _ q l.process)
        (let z = l.process.few in omega arith) refl in
        subst (Bounded n k) g (cut_bounded n k i u d)
    answered_bounded n k s t i a p c here (Asks x m q) l e =
        let u : Machine = record {
          processes = set s.processes i
              (Asking q);
          world = x;
          waiters = s.waiters;
          trace = s.trace ++ Replied i a ∷ Requested i m ∷ [];
        } in
        let g : machine.cut naming i u ≡ t = cc in
        let d = changed n k n k s u i (Asking p) (Asking q) c here l.heap (own_fits _ q l.process)
        (let z = l.process.few in omega arith) refl in
        subst (Bounded n k) g (cut_bounded n k i u d)
    answered_bounded n k s t i a p c here (Ends x how) l e =
        let u : Machine = record {
          processes = set s.processes i Gone;
          world = x;
          waiters = s.waiters;
          trace = s.trace ++ Replied i a ∷ Over i how ∷ [];
        } in
        let g : machine.cut naming i u ≡ t = cc in
        let d = changed n k n k s u i (Asking p) Gone c here l tt (omega arith) refl in
        subst (Bounded n k) g (cut_bounded n k i u d)
    answered_bounded n k s t i a p c here (Parks x bs q) l e = absurd cc
    answered_bounded n k s t i a p c here (Polls x bs q r) l e = absurd cc
    answered_bounded n k s t i a p c here (Spawns x child q) l e = absurd cc

    replied_bounded : (n k : ℕ) (s t : Machine) (i : ℕ) (a : Rmsg) → Bounded n k s → (o : Option (Doing Process Value))
        → slice_get s.processes i ≡ o → machine.replied (rules limit objects) naming s i a o ≡ Some t → Bounded n k t
    replied_bounded n k s t i a c (Some (Asking p)) here e =
        let own = get_fits s.processes i (Asking p) c.processes here in
        answered_bounded n k s t i a p c here (answer a s.world p)
        (answer_within n (frames_of p) s.world p a (record { heap = c.heap; process = own })) e
    replied_bounded n k s t i a c (Some (Ready p)) here e = absurd cc
    replied_bounded n k s t i a c (Some (Waiting bs p)) here e = absurd cc
    replied_bounded n k s t i a c (Some Gone) here e = absurd cc
    replied_bounded n k s t i a c None here e = absurd cc

    event_bounded : (n k longest : ℕ) (s t : Machine) (e : Event Rmsg) → Bounded n k s
        → machine.happens (rules limit objects) naming longest s e ≡ Some t → Bounded (n + in_event e) (k + in_event e) t
    event_bounded n k longest s t (Quantum i zero) c e = absurd cc
    event_bounded n k longest s t (Quantum i (suc l)) c e = fits_in (nat_lt longest (suc l)) e
      where
        whole : (u : Machine) (o : Option Process)
            → (elim o as (λ _. Option Machine) [ None ↦ Some u | Some p ↦ if nat_eq (suc l) longest then Some u else None ]) ≡ Some t
            → u ≡ t
        whole u None e = cc
        whole u (Some p) e = full (nat_eq (suc l) longest) e
          where
            full : (b : Bool) → (if b then Some u else None) ≡ Some t → u ≡ t
            full true e = cc
            full false e = absurd cc

        go : (o : Option Machine) → machine.turns (rules limit objects) naming i (suc l) s ≡ o
            → (elim o as (λ _. Option Machine) [ None ↦ None | Some u ↦ machine.is_whole longest i (suc l) u ]) ≡ Some t
            → Bounded (n + suc l) (k + suc l) t
        go None f e = absurd cc
        go (Some u) f e =
            subst (Bounded (n + suc l) (k + suc l)) (whole u (machine.ready (slice_get u.processes i)) e)
            (turns_bounded n k (suc l) i s u c f)

        fits_in : (b : Bool)
            → (if b then None else
            (elim (machine.turns (rules limit objects) naming i (suc l) s) as
            (λ _. Option Machine) [ None ↦ None | Some u ↦ machine.is_whole longest i (suc l) u ])) ≡ Some t
            → Bounded (n + suc l) (k + suc l) t
        fits_in true e = absurd cc
        fits_in false e = go (machine.turns (rules limit objects) naming i (suc l) s) refl e
    event_bounded n k longest s t (Reply i a) c e =
        bounded_on n (n + 0) k (k + 0) t (omega arith) (omega arith) (replied_bounded n k s t i a c (slice_get s.processes i) refl e)
    event_bounded n k longest s t (Down l) c e = absurd cc

    pub journal_bounded : (n k longest : ℕ) (journal : List (Event Rmsg)) (s t : Machine) → Bounded n k s
        → machine.replay (rules limit objects) naming longest s journal ≡ Some t
        → Bounded (n + instructions_in journal) (k + instructions_in journal) t
    journal_bounded n k longest [] s t c e =
        let q : s ≡ t = cc in subst (Bounded (n + 0) (k + 0)) q (bounded_on n (n + 0) k (k + 0) s (omega arith) (omega arith) c)
    journal_bounded n k longest (v ∷ journal) s t c e =
        go (λ u d f. journal_bounded (n + in_event v) (k + in_event v) longest journal u t d f)
        (machine.happens (rules limit objects) naming longest s v) refl e
      where
        go : ((u : Machine) → Bounded (n + in_event v) (k + in_event v) u
            → machine.replay (rules limit objects) naming longest u journal ≡ Some t
            → Bounded (n + in_event v + instructions_in journal) (k + in_event v + instructions_in journal) t)
            → (o : Option Machine)
            → machine.happens (rules limit objects) naming longest s v ≡ o
            → (elim o as (λ _. Option Machine) [ None ↦ None | Some u ↦ machine.replay (rules limit objects) naming longest u journal ])
            ≡ Some t
            → Bounded (n + instructions_in (v ∷ journal)) (k + instructions_in (v ∷ journal)) t
        go again None f e = absurd cc
        go again (Some u) f e =
            let z = length_more v journal in
            bounded_on (n + in_event v + instructions_in journal) (n + instructions_in (v ∷ journal))
            (k + in_event v + instructions_in journal) (k + instructions_in (v ∷ journal)) t (omega arith) (omega arith)
            (again u (event_bounded n k longest s u v c f) e)
