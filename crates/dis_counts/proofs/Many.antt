-- Many processes over one heap: where no process comes to name what isn't there, counts are exact after each event.
use Rattle.std.proofs.Common.{◌≡◌, ℕ, zero, suc, ◌+◌, ◌<◌, Bool, true, false, List, [], ◌∷◌, ◌++◌, ◌⊎◌, inl, inr, Option, Some, None, refl}
use Rattle.std.proofs.Common.{sym, ap, subst, ◌∙◌, arith}
use Rattle.std.specs.Prelude.{slice_get, nat_eq, nat_lt, if◌then◌else◌}
use Rattle.std.proofs.Math.ListN.{set}
use Rattle.process_model.specs.Process.{Branch, Effect, Went, Parks, Polls, Spawns, Asks, Ends, Doing, Ready, Waiting, Asking, Gone, Rules}
use Rattle.process_model.specs.Process.{Woken, Woke, Requested, Replied, Over, given, passing, both_wake, both_go}
use Rattle.process_model.specs.Naming.{Naming, total}
use Rattle.process_model.specs.Naming as naming_of
use Rattle.process_model.specs.Choice.{Choice, choose}
use Rattle.process_model.specs.Machine as machine
use Rattle.process_model.specs.Machine.{State, Event, Quantum, Reply, Down}
use Rattle.heap_model.specs.Heap.{at, there, in_all, stays}
use Rattle.heap_model.specs.Joined.{World, heap_naming}
use Rattle.dis_counts.proofs.Cut.{Sound, either, counted, kept_there}

-- ---- lists of processes

set_cases : {T : Type 0} (xs : List T) (i j : ℕ) (x y : T) → slice_get (set xs i x) j ≡ Some y → (x ≡ y) ⊎ (slice_get xs j ≡ Some y)
set_cases [] i j x y e = inr e
set_cases (a ∷ xs) zero zero x y e = inl cc
set_cases (a ∷ xs) zero (suc j) x y e = inr e
set_cases (a ∷ xs) (suc i) zero x y e = inr e
set_cases (a ∷ xs) (suc i) (suc j) x y e = set_cases xs i j x y e

more_cases : {T : Type 0} (xs : List T) (j : ℕ) (x y : T) → slice_get (xs ++ x ∷ []) j ≡ Some y → (x ≡ y) ⊎ (slice_get xs j ≡ Some y)
more_cases [] zero x y e = inl cc
more_cases [] (suc j) x y e = inr e
more_cases (a ∷ xs) zero x y e = inr e
more_cases (a ∷ xs) (suc j) x y e = more_cases xs j x y e

-- Some process names what all together name.
pub some_process : {W P D : Type 0} (naming : Naming W P D) (ps : List (Doing P D)) (n : ℕ) (T : Type 0)
    → ((j : ℕ) (d : Doing P D) → slice_get ps j ≡ Some d → 0 < naming_of.names naming d n → T) → 0 < total naming ps n → T
some_process naming [] n T each p = absurd (omega arith)
some_process naming (d ∷ ds) n T each p = elim (either (naming_of.names naming d n) (total naming ds n) p) [
  | inl q ↦ each 0 d refl q
  | inr q ↦ some_process naming ds n T (λ j e at r. each (suc j) e at r) q
]

all_processes : {W P D : Type 0} (naming : Naming W P D) (ps : List (Doing P D)) (j n : ℕ) (d : Doing P D) → slice_get ps j ≡ Some d
    → 0 < naming_of.names naming d n → 0 < total naming ps n
all_processes naming [] j n d e p = absurd cc
all_processes naming (c ∷ cs) zero n d e p =
    let same : c ≡ d = cc in let q = subst (λ x. 0 < naming_of.names naming x n) (sym same) p in omega arith
all_processes naming (c ∷ cs) (suc j) n d e p = let z = all_processes naming cs j n d e p in omega arith

module _ {A O P D M R H : Type 0} (rules : Rules (World A O) P D M R H) (inside : A → ℕ → ℕ) (names : P → ℕ → ℕ)
    (table : List (Branch D) → ℕ → ℕ) where
  -- A machine, and what it names.
  abbrev Machine : Type 0
  Machine = State (World A O) P D M R H

  abbrev naming : Naming (World A O) P D
  naming = heap_naming inside names table

  abbrev named : Doing P D → ℕ → ℕ
  named d n = naming_of.names naming d n

  abbrev all_named : List (Doing P D) → ℕ → ℕ
  all_named ps n = total naming ps n

  -- ---- what a process leaves

  -- The heap as a process leaves it: its values name what is there, and what was there is there.
  pub record Leaves (x y : World A O) : Type 0 where
    pub heap : (n : ℕ) → 0 < in_all inside y.heap n → there (at y.heap n) ≡ true
    pub still : (n : ℕ) → there (at x.heap n) ≡ true → there (at y.heap n) ≡ true

  -- So many names are of what is there.
  abbrev pub Names : World A O → (ℕ → ℕ) → Type 0
  Names y f = (n : ℕ) → 0 < f n → there (at y.heap n) ≡ true

  abbrev pub After : World A O → Effect (World A O) P D M H → Type 0
  After x (Went y p) = Leaves x y × Names y (names p)
  After x (Parks y bs p) = Leaves x y × Names y (names p) × Names y (table bs)
  After x (Polls y bs p q) = Leaves x y × Names y (names p) × Names y (names q)
  After x (Spawns y child p) = Leaves x y × Names y (names child) × Names y (names p)
  After x (Asks y m p) = Leaves x y × Names y (names p)
  After x (Ends y how) = Leaves x y

  -- What is asked of a language, of which no process changes as it is woken, and which loses no link.
  pub record Keeps : Type 0 where
    pub step : (x : World A O) (p : P) → Sound inside (names p) x.heap → After x (rules.step x p)
    pub answer : (a : R) (x : World A O) (p : P) → Sound inside (names p) x.heap → After x (rules.answer a x p)
    pub wake : (k : ℕ) (v : Option D) (x : World A O) (p : P) → rules.wake k v x p ≡ record { world = x; process = p }
    pub down : (l : ℕ) (x : World A O) → rules.down l x ≡ None

  -- ---- many processes

  -- No reference dangles: of the heap's values, and of each process.
  record Firm (x : World A O) (ps : List (Doing P D)) : Type 0 where
    heap : (n : ℕ) → 0 < in_all inside x.heap n → there (at x.heap n) ≡ true
    each : (j : ℕ) (d : Doing P D) → slice_get ps j ≡ Some d → Names x (named d)

  abbrev AllFirm : Machine → Type 0
  AllFirm s = Firm s.world s.processes

  leaves_same : (x : World A O) (ps : List (Doing P D)) → Firm x ps → Leaves x x
  leaves_same x ps f = record { heap = f.heap; still = λ n e. e }

  firm_set : (x y : World A O) (ps : List (Doing P D)) (i : ℕ) (d : Doing P D) → Firm x ps → Leaves x y → Names y (named d)
      → Firm y (set ps i d)
  firm_set x y ps i d f l new = record { heap = l.heap; each = λ j e at n p. go e n p (set_cases ps i j d e at) (λ was. f.each j e was n) }
    where
      go : (e : Doing P D) (n : ℕ) → 0 < named e n → {W : Type 0} → (d ≡ e) ⊎ W → (W → 0 < named e n → there (at x.heap n) ≡ true)
          → there (at y.heap n) ≡ true
      go e n p (inl same) rest = new n (subst (λ u. 0 < named u n) (sym same) p)
      go e n p (inr was) rest = l.still n (rest was p)

  firm_more : (x : World A O) (ps : List (Doing P D)) (d : Doing P D) → Firm x ps → Names x (named d) → Firm x (ps ++ d ∷ [])
  firm_more x ps d f new = record { heap = f.heap; each = λ j e at. go j e (more_cases ps j d e at) }
    where
      go : (j : ℕ) (e : Doing P D) → (d ≡ e) ⊎ (slice_get ps j ≡ Some e) → Names x (named e)
      go j e (inl same) = subst (λ u. Names x (named u)) same new
      go j e (inr was) = f.each j e was

  firm_sound : (x : World A O) (ps : List (Doing P D)) → Firm x ps → Sound inside (all_named ps) x.heap
  firm_sound x ps f = record {
    by_root = λ n p. some_process naming ps n (there (at x.heap n) ≡ true) (λ j d at q. f.each j d at n q) p;
    by_value = f.heap;
  }

  -- ---- exact counts

  -- A value is there exactly where its count isn't 0.
  pub record Exact (x : World A O) (ps : List (Doing P D)) : Type 0 where
    pub counted : (n : ℕ) → there (at x.heap n) ≡ true → 0 < all_named ps n + in_all inside x.heap n
    pub is_there : (n : ℕ) → 0 < all_named ps n + in_all inside x.heap n → there (at x.heap n) ≡ true

  abbrev pub AllExact : Machine → Type 0
  AllExact s = Exact s.world s.processes

  exact_firm : (x : World A O) (ps : List (Doing P D)) → Exact x ps → Firm x ps
  exact_firm x ps e = record {
    heap = λ n p. e.is_there n (omega arith);
    each = λ j d at n p. let z = all_processes naming ps j n d at p in e.is_there n (omega arith);
  }

  pub cut_exact : (x : World A O) (ps : List (Doing P D)) → Sound inside (all_named ps) x.heap
      → Exact (record { heap = stays inside (all_named ps) x.heap; outside = x.outside }) ps
  cut_exact x ps s = record { counted = counted inside (all_named ps) x.heap; is_there = kept_there inside (all_named ps) x.heap s }

  after_cut : (s : Machine) (i : ℕ) → AllFirm s → AllExact (machine.cut naming i s)
  after_cut s i f = cut_exact s.world s.processes (firm_sound s.world s.processes f)

  -- ---- what an effect does

  woken : Keeps → (x : World A O) (k : ℕ) (a : Branch D) (p : P) (l : ℕ) (b : Branch D) (q : P)
      → both_wake rules x k a p l b q ≡ record { world = x; one = p; other = q }
  woken keeps x k a p l b q =
      let first : Woken (World A O) P → Woke (World A O) P = λ w. record {
        world = (rules.wake l (given b (passing a b)) w.world q).world;
        one = w.process;
        other = (rules.wake l (given b (passing a b)) w.world q).process;
      } in
      let second : Woken (World A O) P → Woke (World A O) P = λ w. record { world = w.world; one = p; other = w.process } in
      ap first (keeps.wake k (given a (passing a b)) x p) ∙ ap second (keeps.wake l (given b (passing a b)) x q)

  abbrev Kept : Machine → (World A O) → P → Type 0
  Kept s x p = Leaves s.world x × Names x (names p)

  meet_firm : Keeps → (s : Machine) (i : ℕ) (x : World A O) (p : P) (c : Choice D) → AllFirm s → Kept s x p
      → (o : Option (Doing P D)) → slice_get s.processes c.met.pid ≡ o → AllFirm (machine.meet rules s i x p c o)
  meet_firm keeps s i x p c f k (Some (Waiting theirs q)) at =
      subst (λ (m : Woke (World A O) P). Firm m.world (both_go m s.processes i c.met.pid))
      (sym (woken keeps x c.mine c.own p c.met.theirs c.met.branch q))
      (firm_set x x (set s.processes i (Ready p)) c.met.pid (Ready q) (firm_set s.world x s.processes i (Ready p) f k.0 k.1)
      (record { heap = k.0.heap; still = λ n e. e })
      (λ n r. k.0.still n (f.each c.met.pid (Waiting theirs q) at n (omega (arith, r)))))
  meet_firm keeps s i x p c f k (Some (Ready q)) at = f
  meet_firm keeps s i x p c f k (Some (Asking q)) at = f
  meet_firm keeps s i x p c f k (Some Gone) at = f
  meet_firm keeps s i x p c f k None at = f

  park_firm : Keeps → (s : Machine) (i : ℕ) (x : World A O) (bs : List (Branch D)) (p : P) → AllFirm s → Kept s x p → Names x (table bs)
      → (o : Option (Choice D)) → AllFirm (machine.park rules s i x bs p o)
  park_firm keeps s i x bs p f k t (Some c) = meet_firm keeps s i x p c f k (slice_get s.processes c.met.pid) refl
  park_firm keeps s i x bs p f k t None =
      firm_set s.world x s.processes i (Waiting bs p) f k.0 (λ n r. go n (either (table bs n) (names p n) r))
    where
      go : (n : ℕ) → (0 < table bs n) ⊎ (0 < names p n) → there (at x.heap n) ≡ true
      go n (inl r) = t n r
      go n (inr r) = k.1 n r

  poll_firm : Keeps → (s : Machine) (i : ℕ) (x : World A O) (p q : P) → AllFirm s → Kept s x p → Names x (names q)
      → (o : Option (Choice D)) → AllFirm (machine.poll rules s i x p q o)
  poll_firm keeps s i x p q f k t (Some c) = meet_firm keeps s i x p c f k (slice_get s.processes c.met.pid) refl
  poll_firm keeps s i x p q f k t None = firm_set s.world x s.processes i (Ready q) f k.0 t

  does_firm : Keeps → (s : Machine) (i : ℕ) (e : Effect (World A O) P D M H) → AllFirm s → After s.world e
      → AllFirm (machine.does rules s i e)
  does_firm keeps s i (Went x p) f k = firm_set s.world x s.processes i (Ready p) f k.0 k.1
  does_firm keeps s i (Parks x bs p) f k = park_firm keeps s i x bs p f (k.0, k.1) k.2 (choose 0 bs s.waiters)
  does_firm keeps s i (Polls x bs p q) f k = poll_firm keeps s i x p q f (k.0, k.1) k.2 (choose 0 bs s.waiters)
  does_firm keeps s i (Spawns x child p) f k =
      firm_more x (set s.processes i (Ready p)) (Ready child) (firm_set s.world x s.processes i (Ready p) f k.0 k.2) k.1
  does_firm keeps s i (Asks x m p) f k = firm_set s.world x s.processes i (Asking p) f k.0 k.1
  does_firm keeps s i (Ends x how) f k = firm_set s.world x s.processes i Gone f k (λ n r. absurd (omega arith))

  own_sound : (s : Machine) (i : ℕ) (p : P) (d : Doing P D) → slice_get s.processes i ≡ Some d → AllFirm s
      → ((n : ℕ) → 0 < names p n → 0 < named d n) → Sound inside (names p) s.world.heap
  own_sound s i p d at f same = record { by_root = λ n r. f.each i d at n (same n r); by_value = f.heap }

  -- ---- events

  pub obey_exact : Keeps → (s t : Machine) (i : ℕ) → AllExact s → (o : Option (Doing P D)) → slice_get s.processes i ≡ o
      → machine.obey rules naming s i (machine.ready o) ≡ Some t → AllExact t
  obey_exact keeps s t i x (Some (Ready p)) at e =
      let f = exact_firm s.world s.processes x in
      let u = machine.does rules s i (rules.step s.world p) in
      let g : machine.cut naming i u ≡ t = cc in
      subst (λ t. AllExact t) g
      (after_cut u i (does_firm keeps s i (rules.step s.world p) f (keeps.step s.world p (own_sound s i p (Ready p) at f (λ n r. r)))))
  obey_exact keeps s t i x (Some (Waiting bs p)) at e = absurd cc
  obey_exact keeps s t i x (Some (Asking p)) at e = absurd cc
  obey_exact keeps s t i x (Some Gone) at e = absurd cc
  obey_exact keeps s t i x None at e = absurd cc

  pub turns_exact : Keeps → (n i : ℕ) (s t : Machine) → AllExact s → machine.turns rules naming i n s ≡ Some t → AllExact t
  turns_exact keeps zero i s t h e = let q : s ≡ t = cc in subst (λ t. AllExact t) q h
  turns_exact keeps (suc n) i s t h e =
      go (λ s h e. turns_exact keeps n i s t h e) (machine.obey rules naming s i (machine.ready (slice_get s.processes i))) refl e
    where
      go : ((s : Machine) → AllExact s → machine.turns rules naming i n s ≡ Some t → AllExact t) → (o : Option Machine)
          → machine.obey rules naming s i (machine.ready (slice_get s.processes i)) ≡ o
          → (elim o as (λ _. Option Machine) [ None ↦ None | Some u ↦ machine.turns rules naming i n u ]) ≡ Some t → AllExact t
      go again None f e = absurd cc
      go again (Some u) f e = again u (obey_exact keeps s u i h (slice_get s.processes i) refl f) e

  answered_exact : Keeps → (s t : Machine) (i : ℕ) (a : R) → AllFirm s → (e : Effect (World A O) P D M H) → After s.world e
      → (elim (machine.answered s i a e) as (λ _. Option Machine) [ None ↦ None | Some u ↦ Some (machine.cut naming i u) ]) ≡ Some t
      → AllExact t
  answered_exact keeps s t i a f (Went x p) k e =
      let u : Machine = record {
        processes = set s.processes i
            (Ready p);
        world = x;
        waiters = s.waiters;
        trace = s.trace ++ Replied i a ∷ [];
      } in
      let g : machine.cut naming i u ≡ t = cc in
      subst (λ t. AllExact t) g (after_cut u i (firm_set s.world x s.processes i (Ready p) f k.0 k.1))
  answered_exact keeps s t i a f (Asks x m p) k e =
      let u : Machine = record {
        processes = set s.processes i
            (Asking p);
        world = x;
        waiters = s.waiters;
        trace = s.trace ++ Replied i a ∷ Requested i m ∷ [];
      } in
      let g : machine.cut naming i u ≡ t = cc in
      subst (λ t. AllExact t) g (after_cut u i (firm_set s.world x s.processes i (Asking p) f k.0 k.1))
  answered_exact keeps s t i a f (Ends x how) k e =
      let u : Machine = record {
        processes = set s.processes i Gone;
        world = x;
        waiters = s.waiters;
        trace = s.trace ++ Replied i a ∷ Over i how ∷ [];
      } in
      let g : machine.cut naming i u ≡ t = cc in
      subst (λ t. AllExact t) g (after_cut u i (firm_set s.world x s.processes i Gone f k (λ n r. absurd (omega arith))))
  answered_exact keeps s t i a f (Parks x bs p) k e = absurd cc
  answered_exact keeps s t i a f (Polls x bs p q) k e = absurd cc
  answered_exact keeps s t i a f (Spawns x child p) k e = absurd cc

  pub replied_exact : Keeps → (s t : Machine) (i : ℕ) (a : R) → AllExact s → (o : Option (Doing P D)) → slice_get s.processes i ≡ o
      → machine.replied rules naming s i a o ≡ Some t → AllExact t
  replied_exact keeps s t i a x (Some (Asking p)) at e =
      let f = exact_firm s.world s.processes x in
      answered_exact keeps s t i a f (rules.answer a s.world p) (keeps.answer a s.world p (own_sound s i p (Asking p) at f (λ n r. r))) e
  replied_exact keeps s t i a x (Some (Ready p)) at e = absurd cc
  replied_exact keeps s t i a x (Some (Waiting bs p)) at e = absurd cc
  replied_exact keeps s t i a x (Some Gone) at e = absurd cc
  replied_exact keeps s t i a x None at e = absurd cc

  pub lost_exact : Keeps → (s t : Machine) (l : ℕ) → machine.cut_off rules naming s l (rules.down l s.world) ≡ Some t → AllExact t
  lost_exact keeps s t l e =
      absurd (let z : machine.cut_off rules naming s l None ≡ Some t = subst (λ o. machine.cut_off rules naming s l o ≡ Some t)
      (keeps.down l s.world) e in cc)

  pub event_exact : Keeps → (longest : ℕ) (s t : Machine) (e : Event R) → AllExact s → machine.happens rules naming longest s e ≡ Some t
      → AllExact t
  event_exact keeps longest s t (Quantum i zero) h e = absurd cc
  event_exact keeps longest s t (Quantum i (suc n)) h e = fits_in (nat_lt longest (suc n)) e
    where
      whole : (u : Machine) (o : Option P)
          → (elim o as (λ _. Option Machine) [ None ↦ Some u | Some p ↦ if nat_eq (suc n) longest then Some u else None ]) ≡ Some t → u ≡ t
      whole u None e = cc
      whole u (Some p) e = full (nat_eq (suc n) longest) e
        where
          full : (b : Bool) → (if b then Some u else None) ≡ Some t → u ≡ t
          full true e = cc
          full false e = absurd cc

      go : (o : Option Machine) → machine.turns rules naming i (suc n) s ≡ o
          → (elim o as (λ _. Option Machine) [ None ↦ None | Some u ↦ machine.is_whole longest i (suc n) u ]) ≡ Some t → AllExact t
      go None f e = absurd cc
      go (Some u) f e = subst (λ t. AllExact t) (whole u (machine.ready (slice_get u.processes i)) e) (turns_exact keeps (suc n) i s u h f)

      fits_in : (b : Bool)
          → (if b then None else
          (elim (machine.turns rules naming i (suc n) s) as
          (λ _. Option Machine) [ None ↦ None | Some u ↦ machine.is_whole longest i (suc n) u ])) ≡ Some t → AllExact t
      fits_in true e = absurd cc
      fits_in false e = go (machine.turns rules naming i (suc n) s) refl e
  event_exact keeps longest s t (Reply i a) h e = replied_exact keeps s t i a h (slice_get s.processes i) refl e
  event_exact keeps longest s t (Down l) h e = lost_exact keeps s t l e

  pub journal_exact : Keeps → (longest : ℕ) (journal : List (Event R)) (s t : Machine) → AllExact s
      → machine.replay rules naming longest s journal ≡ Some t → AllExact t
  journal_exact keeps longest [] s t h e = let q : s ≡ t = cc in subst (λ t. AllExact t) q h
  journal_exact keeps longest (x ∷ journal) s t h e =
      go (λ s h e. journal_exact keeps longest journal s t h e) (machine.happens rules naming longest s x) refl e
    where
      go : ((s : Machine) → AllExact s → machine.replay rules naming longest s journal ≡ Some t → AllExact t) → (o : Option Machine)
          → machine.happens rules naming longest s x ≡ o
          → (elim o as (λ _. Option Machine) [ None ↦ None | Some u ↦ machine.replay rules naming longest u journal ]) ≡ Some t → AllExact t
      go again None f e = absurd cc
      go again (Some u) f e = again u (event_exact keeps longest s u x h f) e
