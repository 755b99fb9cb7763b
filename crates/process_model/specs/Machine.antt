-- Many processes of a machine: a choice is fixed, and a journal determines its replay. What nobody names goes at the end of each
-- instruction and each reply, as in a source, and is told. Everything here computes.
use Rattle.std.specs.Prelude.{ℕ, zero, suc, List, [], ◌∷◌, ◌++◌, Option, Some, None, nat_eq, nat_lt, if◌then◌else◌, slice_get}
use Rattle.std.proofs.Math.ListN.{set}
use Rattle.process_model.specs.Naming.{Naming, total}
use Rattle.process_model.specs.Process.{Branch, Effect, Went, Parks, Polls, Spawns, Asks, Ends, Doing, Ready, Waiting, Asking, Gone, Rules, Entry, Requested, Replied, Over, Lost, released, told, both_wake, both_go}
use Rattle.process_model.specs.Choice.{Waiter, Choice, choose, without}

-- The processes by their numbers, what they share, those that wait in the order in which they began to, and what was told.
pub record State (W P D M A H : Type 0) : Type 0 where
  pub processes : List (Doing P D)
  pub world : W
  pub waiters : List (Waiter D)
  pub trace : List (Entry D M A H)

-- The process, where it is ready.
abbrev pub ready : {P D : Type 0} → Option (Doing P D) → Option P
ready (Some (Ready p)) = Some p
ready _ = None

module _ {W P D M A H : Type 0} (naming : Naming W P D) where
  -- What a step of process i leaves: the heap without what nobody names, and told what went. This is the one place where
  -- anything goes.
  abbrev pub cut : ℕ → State W P D M A H → State W P D M A H
  cut i s = record {
    processes = s.processes;
    world = naming.trim (total naming s.processes) s.world;
    waiters = s.waiters;
    trace = s.trace ++ released i (naming.gone (total naming s.processes) s.world);
  }

module _ {W P D M A H : Type 0} (rules : Rules W P D M A H) where
  -- Process i meets the process that was chosen for it, and both go on. Whoever is chosen waits, in each state that a machine
  -- comes to.
  abbrev pub meet : State W P D M A H → ℕ → W → P → Choice D → Option (Doing P D) → State W P D M A H
  meet s i w p c (Some (Waiting theirs q)) = record {
    processes = both_go (both_wake rules w c.mine c.own p c.met.theirs c.met.branch q) s.processes i c.met.pid;
    world = (both_wake rules w c.mine c.own p c.met.theirs c.met.branch q).world;
    waiters = without c.met.pid s.waiters;
    trace = s.trace ++ told i c.mine c.own c.met.pid c.met.theirs c.met.branch ∷ [];
  }
  meet s i w p c _ = s

  -- A process that waits meets at once where a choice is there, and is the last of the waiters where none is.
  abbrev pub park : State W P D M A H → ℕ → W → List (Branch D) → P → Option (Choice D) → State W P D M A H
  park s i w bs p (Some c) = meet s i w p c (slice_get s.processes c.met.pid)
  park s i w bs p None = record {
    processes = set s.processes i (Waiting bs p);
    world = w;
    waiters = s.waiters ++ record { pid = i; branches = bs } ∷ [];
    trace = s.trace;
  }

  -- A process that looks round meets where a choice is there, and goes on by itself where none is.
  abbrev pub poll : State W P D M A H → ℕ → W → P → P → Option (Choice D) → State W P D M A H
  poll s i w p p' (Some c) = meet s i w p c (slice_get s.processes c.met.pid)
  poll s i w p p' None = record s { processes = set s.processes i (Ready p'); world = w }

  -- What an effect of process i does to all.
  abbrev pub does : State W P D M A H → ℕ → Effect W P D M H → State W P D M A H
  does s i (Went w p) = record s { processes = set s.processes i (Ready p); world = w }
  does s i (Parks w bs p) = park s i w bs p (choose 0 bs s.waiters)
  does s i (Polls w bs p p') = poll s i w p p' (choose 0 bs s.waiters)
  does s i (Spawns w child p) = record s { processes = set s.processes i (Ready p) ++ Ready child ∷ []; world = w }
  does s i (Asks w m p) = record s { processes = set s.processes i (Asking p); world = w; trace = s.trace ++ Requested i m ∷ [] }
  does s i (Ends w how) = record s { processes = set s.processes i Gone; world = w; trace = s.trace ++ Over i how ∷ [] }

module _ {W P D M A H : Type 0} (rules : Rules W P D M A H) (naming : Naming W P D) where
  -- One instruction of process i.
  abbrev pub obey : State W P D M A H → ℕ → Option P → Option (State W P D M A H)
  obey s i None = None
  obey s i (Some p) = Some (cut naming i (does rules s i (rules.step s.world p)))

  -- So many instructions of process i, at each of which it is ready.
  abbrev pub turns : ℕ → ℕ → State W P D M A H → Option (State W P D M A H)
  turns i zero s = Some s
  turns i (suc n) s = elim (obey s i (ready (slice_get s.processes i))) [
    | None ↦ None
    | Some t ↦ turns i n t
  ]

module _ {W P D M A H : Type 0} where
  -- A quantum is whole: the process can't go on, or made as many instructions as the longest has.
  abbrev pub is_whole : ℕ → ℕ → ℕ → State W P D M A H → Option (State W P D M A H)
  is_whole longest i n s = elim (ready (slice_get s.processes i)) [
    | None ↦ Some s
    | Some p ↦ if nat_eq n longest then Some s else None
  ]

  -- What the reply to process i does: it goes on, asks again or ends, and the reply is told first.
  abbrev pub answered : State W P D M A H → ℕ → A → Effect W P D M H → Option (State W P D M A H)
  answered s i a (Went w p) = Some (record s { processes = set s.processes i (Ready p); world = w; trace = s.trace ++ Replied i a ∷ [] })
  answered s i a (Asks w m p) = Some (record s { processes = set s.processes i (Asking p); world = w; trace = s.trace ++ Replied i a ∷ Requested i m ∷ [] })
  answered s i a (Ends w how) = Some (record s { processes = set s.processes i Gone; world = w; trace = s.trace ++ Replied i a ∷ Over i how ∷ [] })
  answered s i a _ = None

-- What a journal has a line for: a quantum of so many instructions of one process, a reply to one process, and a lost link.
pub data Event (A : Type 0) : Type 0 where
  Quantum : (pid count : ℕ) → Event A
  Reply : (pid : ℕ) → (answer : A) → Event A
  Down : (link : ℕ) → Event A

module _ {W P D M A H : Type 0} (rules : Rules W P D M A H) (naming : Naming W P D) where
  -- A reply to a process that waits for one, and told what went.
  abbrev pub replied : State W P D M A H → ℕ → A → Option (Doing P D) → Option (State W P D M A H)
  replied s i a (Some (Asking p)) = elim (answered s i a (rules.answer a s.world p)) [
    | None ↦ None
    | Some t ↦ Some (cut naming i t)
  ]
  replied s i a _ = None

  -- A link is lost, where that may be.
  abbrev pub cut_off : State W P D M A H → ℕ → Option W → Option (State W P D M A H)
  cut_off s l None = None
  cut_off s l (Some w) = Some (record s { processes = s.processes; world = w; trace = s.trace ++ Lost l ∷ [] })

  -- The state after an event, where it is allowed. A quantum has at least one instruction, at most the longest, and is whole.
  abbrev pub happens : ℕ → State W P D M A H → Event A → Option (State W P D M A H)
  happens longest s (Quantum i zero) = None
  happens longest s (Quantum i (suc n)) = if nat_lt longest (suc n) then None else elim (turns rules naming i (suc n) s) [
    | None ↦ None
    | Some t ↦ is_whole longest i (suc n) t
  ]
  happens longest s (Reply i a) = replied s i a (slice_get s.processes i)
  happens longest s (Down l) = cut_off s l (rules.down l s.world)

  -- The state that a journal leaves, where each of its events was allowed.
  abbrev pub replay : ℕ → State W P D M A H → List (Event A) → Option (State W P D M A H)
  replay longest s [] = Some s
  replay longest s (e ∷ es) = elim (happens longest s e) [
    | None ↦ None
    | Some t ↦ replay longest t es
  ]
