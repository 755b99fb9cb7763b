-- What one effect does to all processes keeps states together.
use Rattle.std.proofs.Common.{◌≡◌, ℕ, zero, suc, ◌<◌, List, [], ◌∷◌, ◌++◌, refl, sym, ap, subst, ◌∙◌, ◌⊎◌, inl, inr, arith}
use Rattle.std.specs.Prelude.{Option, Some, None, slice_get}
use Rattle.std.proofs.Math.ListN.{set}
use Rattle.process_model.specs.Process.{Branch, Went, Parks, Polls, Spawns, Asks, Ends, Doing, Ready, Waiting, Asking, Gone}
use Rattle.process_model.specs.Process.{Entry, Requested, Replied, Over, told}
use Rattle.process_model.specs.Choice.{Choice, choose, without}
use Rattle.process_model.specs.Naming.{total}
use Rattle.process_model.specs.Naming as naming_of
use Rattle.process_model.specs.Machine as machine
use Rattle.process_model.specs.Plain.{no_names}
use Rattle.dis_file.specs.declared.object.Object.{Object}
use Rattle.system_model.specs.Values.{Value}
use Rattle.system_model.specs.Ending.{Ending, Ended, Broken, Faulted}
use Rattle.system_model.specs.Prints.{Request}
use Rattle.styx_msg.specs.declared.message.Rmsg.{Rmsg}
use Rattle.dis_meaning.specs.World as today
use Rattle.dis_meaning.specs.Rules as today_rules
use Rattle.dis_meaning.specs.Process as process
use Rattle.dis_meaning.specs.Process.{Process}
use Rattle.dis_memory.specs.Blocks.{World}
use Rattle.dis_memory.specs.Naming.{naming, names}
use Rattle.dis_memory.specs.Process.{Does}
use Rattle.dis_memory.specs.Rules.{rules}
use Rattle.dis_counts.specs.Counts.{Machine, CountsAreExact}
use Rattle.dis_counts.proofs.Named.{nothing_dangles, there_of}
use Rattle.dis_agreement.specs.Agreement.{WorldsAgree, WaitsInside, Agrees, IsRight, SameDone}
use Rattle.dis_counts.specs.Told as traces
use Rattle.dis_agreement.specs.Runs.{Today, NoFault, StandsInside, StatesAgree}
use Rattle.dis_counts.specs.Told.{Trace}
use Rattle.dis_agreement.proofs.Blocks.{cut_worlds}
use Rattle.dis_agreement.proofs.Traces.{told_on, told_cut, told_passed, no_fault_before, no_fault_behind}

-- ---- lists of processes

set_cases : {T : Type 0} (xs : List T) (i j : ℕ) (x y : T) → slice_get (set xs i x) j ≡ Some y → (x ≡ y) ⊎ (slice_get xs j ≡ Some y)
set_cases [] i j x y e = inr e
set_cases (a ∷ xs) zero zero x y e = inl cc
set_cases (a ∷ xs) zero (suc j) x y e = inr e
set_cases (a ∷ xs) (suc i) zero x y e = inr e
set_cases (a ∷ xs) (suc i) (suc j) x y e = set_cases xs i j x y e

abbrev AllInside : List (Doing Process Value) → Type 0
AllInside ps = (j : ℕ) (d : Doing Process Value) → slice_get ps j ≡ Some d → StandsInside d

set_inside : (ps : List (Doing Process Value)) (i : ℕ) (d : Doing Process Value) → StandsInside d → AllInside ps → AllInside (set ps i d)
set_inside ps i d k all j e at = go (set_cases ps i j d e at)
  where
    go : (d ≡ e) ⊎ (slice_get ps j ≡ Some e) → StandsInside e
    go (inl same) = subst (λ d. StandsInside d) same k
    go (inr was) = all j e was

-- ---- states

-- States that agree, but for counts: before what nobody names goes.
pub record Near (s : Today) (t : Machine) : Type 0 where
  pub processes : t.processes ≡ s.processes
  pub waiters : t.waiters ≡ s.waiters
  pub trace : traces.told t.trace ≡ s.trace
  pub worlds : WorldsAgree s.world t.world
  pub inside : AllInside s.processes

pub near_of : (s : Today) (t : Machine) → StatesAgree s t → Near s t
near_of s t a = record { processes = a.processes; waiters = a.waiters; trace = a.trace; worlds = a.worlds; inside = a.inside }

pub cut_agrees : (i : ℕ) (s : Today) (t : Machine) → Near s t → CountsAreExact (machine.cut naming i t)
    → StatesAgree (machine.cut no_names i s) (machine.cut naming i t)
cut_agrees i s t n c = record {
  processes = n.processes;
  waiters = n.waiters;
  trace = told_cut s.trace t.trace i (naming.gone (total naming t.processes) t.world) n.trace;
  worlds = cut_worlds s.world t.world (total naming t.processes) n.worlds;
  counts = c;
  inside = n.inside;
}

-- A process of it, and what it sees.
names_all : (ps : List (Doing Process Value)) (j n : ℕ) (d : Doing Process Value) → slice_get ps j ≡ Some d
    → 0 < naming_of.names naming d n → 0 < total naming ps n
names_all [] j n d e p = absurd cc
names_all (c ∷ cs) zero n d e p =
    let same : c ≡ d = cc in let q = subst (λ x. 0 < naming_of.names naming x n) (sym same) p in omega arith
names_all (c ∷ cs) (suc j) n d e p = let z = names_all cs j n d e p in omega arith

pub process_agrees : (s : Today) (t : Machine) (i : ℕ) (d : Doing Process Value) (p : Process) → StatesAgree s t
    → slice_get s.processes i ≡ Some d
    → ((n : ℕ) → 0 < names p n → 0 < naming_of.names naming d n) → (StandsInside d → WaitsInside p.frame.instance p.printing)
    → Agrees s.world t.world p
process_agrees s t i d p a at same stands = record {
  worlds = a.worlds;
  there = nothing_dangles t.world p (record {
    by_root = λ n q.
        let z = names_all t.processes i n d (ap (λ ps. slice_get ps i) a.processes ∙ at) (same n q) in
        there_of t.world n ((a.counts n).1 (omega (arith, z)));
    by_value = λ n q. there_of t.world n ((a.counts n).1 (omega (arith, q)));
  });
  waits = stands (a.inside i d at);
}

-- Process i stands so, and more was told.
near_set : (s : Today) (t : Machine) → Near s t → (i : ℕ) (d e : Doing Process Value) → e ≡ d → StandsInside d
    → (x : today.World) (y : World) → WorldsAgree x y → (es fs : Trace) → traces.told fs ≡ es
    → Near (record { processes = set s.processes i d; world = x; waiters = s.waiters; trace = es })
    (record { processes = set t.processes i e; world = y; waiters = t.waiters; trace = fs })
near_set s t n i d e same k x y w es fs f = record {
  processes = ap (λ ps. set ps i e) n.processes ∙ ap (λ e. set s.processes i e) same;
  waiters = n.waiters;
  trace = f;
  worlds = w;
  inside = set_inside s.processes i d k n.inside;
}

stands_so : (p q : Process) → q ≡ p → WaitsInside q.frame.instance q.printing → WaitsInside p.frame.instance p.printing
stands_so p q e k = subst (λ (q : Process). WaitsInside q.frame.instance q.printing) e k

-- A reply, and what it comes to.
module _ (s : Today) (t : Machine) (n : Near s t) (i : ℕ) (a : Rmsg) (x : today.World) (y : World) where
  more : (es fs : Trace) → traces.told fs ≡ es → traces.told (t.trace ++ fs) ≡ s.trace ++ es
  more es fs same = told_on t.trace fs ∙ (ap (λ l. traces.told t.trace ++ l) same ∙ ap (λ l. l ++ es) n.trace)

  pub near_ready : (p q : Process) → SameDone (Went x p) (Went y q)
      → Near (record { processes = set s.processes i (Ready p); world = x; waiters = s.waiters; trace = s.trace ++ Replied i a ∷ [] })
      (record { processes = set t.processes i (Ready q); world = y; waiters = t.waiters; trace = t.trace ++ Replied i a ∷ [] })
  near_ready p q (f, g) =
      near_set s t n i (Ready p) (Ready q) (ap Ready f) (stands_so p q f g.waits) x y g.worlds _ _
      (more (Replied i a ∷ []) (Replied i a ∷ []) refl)

  pub near_asking : (m asked : Request) (p q : Process) → SameDone (Asks x m p) (Asks y asked q)
      → Near
      (record {
        processes = set s.processes i
            (Asking p);
        world = x;
        waiters = s.waiters;
        trace = s.trace ++ Replied i a ∷ Requested i m ∷ [];
      })
      (record {
        processes = set t.processes i
            (Asking q);
        world = y;
        waiters = t.waiters;
        trace = t.trace ++ Replied i a ∷ Requested i asked ∷ [];
      })
  near_asking m asked p q (f, g, h) =
      near_set s t n i (Asking p) (Asking q) (ap Asking g) (stands_so p q g h.waits) x y h.worlds _ _
      (more (Replied i a ∷ Requested i m ∷ []) (Replied i a ∷ Requested i asked ∷ []) (ap (λ m. Replied i a ∷ Requested i m ∷ []) f))

  pub near_gone : (how other : Ending) → SameDone (Ends x how) (Ends y other)
      → Near (record {
        processes = set s.processes i Gone;
        world = x;
        waiters = s.waiters;
        trace = s.trace ++ Replied i a ∷ Over i how ∷
            [];
      })
      (record { processes = set t.processes i Gone; world = y; waiters = t.waiters; trace = t.trace ++ Replied i a ∷ Over i other ∷ [] })
  near_gone how other (f, w) =
      near_set s t n i Gone Gone refl tt x y w _ _
      (more (Replied i a ∷ Over i how ∷ []) (Replied i a ∷ Over i other ∷ []) (ap (λ how. Replied i a ∷ Over i how ∷ []) f))

module _ (limit : ℕ) (objects : List Object) where
  module _ (i : ℕ) (s : Today) (t : Machine) (n : Near s t) where
    module _ (x : today.World) (y : World) (w : WorldsAgree x y) (p : Process) (k : WaitsInside p.frame.instance p.printing) where
      meet_near : (c : Choice Value) (o : Option (Doing Process Value)) → slice_get s.processes c.met.pid ≡ o
          → Near (machine.meet (today_rules.rules limit objects) s i x p c o) (machine.meet (rules limit objects) t i y p c o)
      meet_near c (Some (Waiting theirs q)) at = record {
        processes = ap (λ ps. set (set ps i (Ready p)) c.met.pid (Ready q)) n.processes;
        waiters = ap (λ ws. without c.met.pid ws) n.waiters;
        trace =
            let e = told i c.mine c.own c.met.pid c.met.theirs c.met.branch in
            told_on t.trace (e ∷ [])
            ∙ (ap (λ l. traces.told t.trace ++ l) (told_passed i c.mine c.own c.met.pid c.met.theirs c.met.branch) ∙ ap
            (λ l. l ++ e ∷ []) n.trace);
        worlds = w;
        inside =
            set_inside (set s.processes i (Ready p)) c.met.pid (Ready q) (n.inside c.met.pid (Waiting theirs q) at)
            (set_inside s.processes i (Ready p) k n.inside);
      }
      meet_near c (Some (Ready q)) at = n
      meet_near c (Some (Asking q)) at = n
      meet_near c (Some Gone) at = n
      meet_near c None at = n

      park_near : (bs : List (Branch Value)) (o : Option (Choice Value))
          → Near (machine.park (today_rules.rules limit objects) s i x bs p o) (machine.park (rules limit objects) t i y bs p o)
      park_near bs (Some c) =
          subst (λ ps. Near (machine.meet (today_rules.rules limit objects) s i x p c (slice_get s.processes c.met.pid))
          (machine.meet (rules limit objects) t i y p c (slice_get ps c.met.pid))) (sym n.processes)
          (meet_near c (slice_get s.processes c.met.pid) refl)
      park_near bs None = record {
        processes = ap (λ ps. set ps i (Waiting bs p)) n.processes;
        waiters = ap (λ ws. ws ++ record { pid = i; branches = bs } ∷ []) n.waiters;
        trace = n.trace;
        worlds = w;
        inside = set_inside s.processes i (Waiting bs p) k n.inside;
      }

    -- What was told, and one entry more.
    one_more : (e f : Entry Value Request Rmsg Ending) → traces.told (f ∷ []) ≡ e ∷ [] → traces.told (t.trace ++ f ∷ []) ≡ s.trace ++ e ∷ []
    one_more e f same = told_on t.trace (f ∷ []) ∙ (ap (λ l. traces.told t.trace ++ l) same ∙ ap (λ l. l ++ e ∷ []) n.trace)

    pub does_near : (d : process.Does) (e : Does) → SameDone d e
        → Near (machine.does (today_rules.rules limit objects) s i d) (machine.does (rules limit objects) t i e)
    does_near (Went x p) (Went y q) (f, a) =
        near_set s t n i (Ready p) (Ready q) (ap Ready f) (stands_so p q f a.waits) x y a.worlds s.trace t.trace n.trace
    does_near (Parks x bs p) (Parks y cs q) (f, g, a) =
        subst (λ cs. Near (machine.park (today_rules.rules limit objects) s i x bs p (choose 0 bs s.waiters))
        (machine.park (rules limit objects) t i y cs q (choose 0 cs t.waiters))) (sym f)
        (subst (λ ws. Near (machine.park (today_rules.rules limit objects) s i x bs p (choose 0 bs s.waiters))
        (machine.park (rules limit objects) t i y bs q (choose 0 bs ws))) (sym n.waiters)
        (subst (λ q. Near (machine.park (today_rules.rules limit objects) s i x bs p (choose 0 bs s.waiters))
        (machine.park (rules limit objects) t i y bs q (choose 0 bs s.waiters))) (sym g)
        (park_near x y a.worlds p (stands_so p q g a.waits) bs (choose 0 bs s.waiters))))
    does_near (Asks x m p) (Asks y asked q) (f, g, a) =
        near_set s t n i (Asking p) (Asking q) (ap Asking g) (stands_so p q g a.waits) x y a.worlds (s.trace ++ Requested i m ∷ [])
        (t.trace ++ Requested i asked ∷ []) (one_more (Requested i m) (Requested i asked) (ap (λ m. Requested i m ∷ []) f))
    does_near (Ends x how) (Ends y other) (f, w) =
        near_set s t n i Gone Gone refl tt x y w (s.trace ++ Over i how ∷ []) (t.trace ++ Over i other ∷ [])
        (one_more (Over i how) (Over i other) (ap (λ how. Over i how ∷ []) f))
    does_near d e r = absurd r

  -- ---- that nothing has faulted

  module _ (i : ℕ) (s : Today) where
    pub does_right : (d : process.Does) → NoFault (machine.does (today_rules.rules limit objects) s i d).trace → IsRight d
    does_right (Ends x (Faulted number pc)) n = no_fault_behind s.trace (Over i (Faulted number pc) ∷ []) n
    does_right (Ends x Ended) n = tt
    does_right (Ends x (Broken text)) n = tt
    does_right d n = tt

    meet_back : (x : today.World) (p : Process) (c : Choice Value) (o : Option (Doing Process Value))
        → NoFault (machine.meet (today_rules.rules limit objects) s i x p c o).trace → NoFault s.trace
    meet_back x p c (Some (Waiting theirs q)) n = no_fault_before s.trace (told i c.mine c.own c.met.pid c.met.theirs c.met.branch ∷ []) n
    meet_back x p c (Some (Ready q)) n = n
    meet_back x p c (Some (Asking q)) n = n
    meet_back x p c (Some Gone) n = n
    meet_back x p c None n = n

    park_back : (x : today.World) (bs : List (Branch Value)) (p : Process) (o : Option (Choice Value))
        → NoFault (machine.park (today_rules.rules limit objects) s i x bs p o).trace → NoFault s.trace
    park_back x bs p (Some c) n = meet_back x p c (slice_get s.processes c.met.pid) n
    park_back x bs p None n = n

    poll_back : (x : today.World) (p q : Process) (o : Option (Choice Value))
        → NoFault (machine.poll (today_rules.rules limit objects) s i x p q o).trace → NoFault s.trace
    poll_back x p q (Some c) n = meet_back x p c (slice_get s.processes c.met.pid) n
    poll_back x p q None n = n

    pub does_back : (d : process.Does) → NoFault (machine.does (today_rules.rules limit objects) s i d).trace → NoFault s.trace
    does_back (Went x p) n = n
    does_back (Parks x bs p) n = park_back x bs p (choose 0 bs s.waiters) n
    does_back (Polls x bs p q) n = poll_back x p q (choose 0 bs s.waiters) n
    does_back (Spawns x child p) n = n
    does_back (Asks x m p) n = no_fault_before s.trace (Requested i m ∷ []) n
    does_back (Ends x how) n = no_fault_before s.trace (Over i how ∷ []) n
