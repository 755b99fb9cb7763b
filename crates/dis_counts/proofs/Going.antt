-- Blocks go with their last references, and are told once.
use Rattle.std.proofs.Common.{◌≡◌, ◌≢◌, ℕ, zero, suc, ◌+◌, ◌<◌, ◌≤◌, Bool, true, false, List, [], ◌∷◌, ◌++◌, length, ◌⊎◌, inl, inr, Option}
use Rattle.std.proofs.Common.{Some, None, refl, ap, subst, ◌∙◌, arith, if◌then◌else◌}
use Rattle.std.proofs.lemmas.Bool.{eq-eqb, eqb-true}
use Rattle.std.specs.Prelude.{slice_get, nat_eq, nat_lt}
use Rattle.std.proofs.Math.ListN.{set}
use Rattle.styx_msg.specs.declared.message.Rmsg.{Rmsg}
use Rattle.process_model.specs.Process.{Branch, Went, Parks, Polls, Spawns, Asks, Ends, Doing, Ready, Waiting, Asking, Gone, Entry}
use Rattle.process_model.specs.Process.{Requested, Replied, Over, Passed, released, told}
use Rattle.process_model.specs.Naming.{total}
use Rattle.process_model.specs.Choice.{Choice, choose}
use Rattle.process_model.specs.Machine as machine
use Rattle.process_model.specs.Machine.{Event, Quantum, Reply, Down}
use Rattle.heap_model.specs.Heap.{Heap, at, there, went, listed, lost_from, stays}
use Rattle.heap_model.proofs.Heap.{stays_length, stays_part, there_is, bool_or, beyond}
use Rattle.system_model.specs.Ending.{Ending}
use Rattle.system_model.specs.Prints.{Request}
use Rattle.system_model.specs.Values.{Value}
use Rattle.dis_file.specs.declared.object.Object.{Object}
use Rattle.dis_meaning.specs.Process.{Process}
use Rattle.dis_memory.specs.Blocks.{Block, World}
use Rattle.dis_memory.specs.Laws.{Grown, GrownBy}
use Rattle.dis_memory.specs.Naming.{inside, naming}
use Rattle.dis_memory.specs.Process.{Does}
use Rattle.dis_memory.specs.Rules.{rules}
use Rattle.dis_memory.specs.Sound.{IsThere}
use Rattle.dis_memory.specs.Step.{step}
use Rattle.dis_memory.specs.Control.{answer}
use Rattle.dis_memory.proofs.Fair.{nothing_goes_within}
use Rattle.dis_memory.proofs.Growing.{grown_same}
use Rattle.dis_counts.specs.Counts.{Machine, begun}
use Rattle.dis_counts.specs.Going.{times, goings, LastReferencesRelease, EachGoesOnce}
use Rattle.dis_counts.proofs.Exact.{events_keep_counts}
use Rattle.dis_counts.proofs.Named.{is_there, there_of}
use Rattle.dis_counts.proofs.Replies.{answer_grows}

-- ---- how often

abbrev one : Bool → ℕ
one true = 1
one false = 0

goings_append : (n : ℕ) (xs ys : List (Entry Value Request Rmsg Ending)) → goings n (xs ++ ys) ≡ goings n xs + goings n ys
goings_append n [] ys = omega arith
goings_append n (x ∷ xs) ys = let z = goings_append n xs ys in omega arith

times_append : (n : ℕ) (xs ys : List ℕ) → times n (xs ++ ys) ≡ times n xs + times n ys
times_append n [] ys = omega arith
times_append n (x ∷ xs) ys = let z = times_append n xs ys in omega arith

-- What is told of the heap behind a step.
released_goings : (n i : ℕ) (ns : List ℕ) → goings n (released i ns) ≡ times n ns
released_goings n i [] = refl
released_goings n i (m ∷ ms) = omega arith

abbrev as_one : ℕ → ℕ → ℕ
as_one m n = if nat_eq m n then 1 else 0

abbrev one_where : Bool → ℕ
one_where b = if b then 1 else 0

same_one : (m n : ℕ) → m ≡ n → as_one m n ≡ 1
same_one m n e = ap one_where (eq-eqb m n e)

other_none : (m n : ℕ) → m ≢ n → as_one m n ≡ 0
other_none m n ne = go (nat_eq m n) refl
  where
    go : (b : Bool) → nat_eq m n ≡ b → one_where b ≡ 0
    go true e = absurd (ne (eqb-true m n e))
    go false e = refl

listed_below : (b : Bool) (m n : ℕ) → m ≢ n → times n (listed b m) ≡ 0
listed_below true m n ne = let z = other_none m n ne in omega arith
listed_below false m n ne = refl

listed_here : (b : Bool) (m n : ℕ) → m ≡ n → times n (listed b m) ≡ one b
listed_here true m n e = let z = same_one m n e in omega arith
listed_here false m n e = refl

lost_below : {A : Type 0} (from n : ℕ) (os ps : Heap A) → n < from → times n (lost_from from os ps) ≡ 0
lost_below from n [] ps l = refl
lost_below from n (o ∷ os) [] l = refl
lost_below from n (o ∷ os) (p ∷ ps) l =
    let z = times_append n (listed (went (there o) (there p)) from) (lost_from (suc from) os ps) in
    let y = listed_below (went (there o) (there p)) from n (λ e. omega (arith, e, l)) in
    let w = lost_below (suc from) n os ps (omega arith) in
    omega arith

-- A place is among those that are lost as often as its value was there and isn't.
lost_times : {A : Type 0} (from k n : ℕ) (os ps : Heap A) → n ≡ from + k → length ps ≡ length os
    → times n (lost_from from os ps) ≡ one (went (there (at os k)) (there (at ps k)))
lost_times from k n [] ps e l = refl
lost_times from k n (o ∷ os) [] e l = absurd (omega arith)
lost_times from zero n (o ∷ os) (p ∷ ps) e l =
    let z = times_append n (listed (went (there o) (there p)) from) (lost_from (suc from) os ps) in
    let y = listed_here (went (there o) (there p)) from n (omega arith) in
    let w = lost_below (suc from) n os ps (omega arith) in
    omega arith
lost_times from (suc k) n (o ∷ os) (p ∷ ps) e l =
    let z = times_append n (listed (went (there o) (there p)) from) (lost_from (suc from) os ps) in
    let y = listed_below (went (there o) (there p)) from n (λ s. omega (arith, s, e)) in
    let w = lost_times (suc from) k n os ps (omega arith) (omega arith) in
    omega arith

-- ---- an event before its cut

-- The heap has grown, and nothing is told to go.
record Wrote (s u : Machine) : Type 0 where
  grown : Grown s.world u.world
  same : (n : ℕ) → goings n u.trace ≡ goings n s.trace

one_more : (n : ℕ) (es : List (Entry Value Request Rmsg Ending)) (e : Entry Value Request Rmsg Ending) → goings n (e ∷ []) ≡ 0
    → goings n (es ++ e ∷ []) ≡ goings n es
one_more n es e none = let z = goings_append n es (e ∷ []) in omega arith

two_more : (n : ℕ) (es : List (Entry Value Request Rmsg Ending)) (e f : Entry Value Request Rmsg Ending) → goings n (e ∷ f ∷ []) ≡ 0
    → goings n (es ++ e ∷ f ∷ []) ≡ goings n es
two_more n es e f none = let z = goings_append n es (e ∷ f ∷ []) in omega arith

told_none : (n i k : ℕ) (a : Branch Value) (j l : ℕ) (b : Branch Value)
    → (let es : List (Entry Value Request Rmsg Ending) = told i k a j l b ∷ [] in goings n es ≡ 0)
told_none n i k a j l b = go a.sends
  where
    go : (s : Bool)
        → (let es : List (Entry Value Request Rmsg Ending) =
        (if s then Passed a.channel a.value i k j l else Passed a.channel b.value j l i k) ∷ [] in goings n es ≡ 0)
    go true = refl
    go false = refl

module _ (limit : ℕ) (objects : List Object) where
  as_it_was : (s : Machine) → Wrote s s
  as_it_was s = record { grown = grown_same s.world; same = λ n. refl }

  meet_wrote : (s : Machine) (i : ℕ) (y : World) (q : Process) (c : Choice Value) → Grown s.world y → (o : Option (Doing Process Value))
      → Wrote s (machine.meet (rules limit objects) s i y q c o)
  meet_wrote s i y q c g (Some (Waiting theirs other)) = record {
    grown = g;
    same = λ n. one_more n s.trace (told i c.mine c.own c.met.pid c.met.theirs c.met.branch)
        (told_none n i c.mine c.own c.met.pid c.met.theirs c.met.branch);
  }
  meet_wrote s i y q c g (Some (Ready other)) = as_it_was s
  meet_wrote s i y q c g (Some (Asking other)) = as_it_was s
  meet_wrote s i y q c g (Some Gone) = as_it_was s
  meet_wrote s i y q c g None = as_it_was s

  does_wrote : (s : Machine) (i : ℕ) (e : Does) → GrownBy s.world e → Wrote s (machine.does (rules limit objects) s i e)
  does_wrote s i (Went y q) g = record { grown = g; same = λ n. refl }
  does_wrote s i (Parks y bs q) g = go (choose 0 bs s.waiters)
    where
      go : (o : Option (Choice Value)) → Wrote s (machine.park (rules limit objects) s i y bs q o)
      go (Some c) = meet_wrote s i y q c g (slice_get s.processes c.met.pid)
      go None = record { grown = g; same = λ n. refl }
  does_wrote s i (Polls y bs q q') g = go (choose 0 bs s.waiters)
    where
      go : (o : Option (Choice Value)) → Wrote s (machine.poll (rules limit objects) s i y q q' o)
      go (Some c) = meet_wrote s i y q c g (slice_get s.processes c.met.pid)
      go None = record { grown = g; same = λ n. refl }
  does_wrote s i (Spawns y child q) g = record { grown = g; same = λ n. refl }
  does_wrote s i (Asks y m q) g = record { grown = g; same = λ n. one_more n s.trace (Requested i m) refl }
  does_wrote s i (Ends y how) g = record { grown = g; same = λ n. one_more n s.trace (Over i how) refl }

-- ---- the cut

abbrev is_at : Machine → ℕ → Bool
is_at s n = there (at s.world.heap n)

-- What the cut tells of a block: that it went, if it did.
cut_goings : (u : Machine) (i n : ℕ)
    → goings n (machine.cut naming i u).trace ≡ goings n u.trace + one (went (is_at u n) (is_at (machine.cut naming i u) n))
cut_goings u i n =
    let rest = stays inside (total naming u.processes) u.world.heap in
    let z = goings_append n u.trace (released i (lost_from 0 u.world.heap rest)) in
    let y = released_goings n i (lost_from 0 u.world.heap rest) in
    let w = lost_times 0 n n u.world.heap rest (omega arith) (stays_length inside (total naming u.processes) u.world.heap) in
    omega arith

-- What stays was there.
cut_there : (u : Machine) (i n : ℕ) → is_at (machine.cut naming i u) n ≡ true → is_at u n ≡ true
cut_there u i n e =
    let b = there_is (at (machine.cut naming i u).world.heap n) e in
    ap there (stays_part inside (total naming u.processes) u.world.heap n b.0 b.1)

-- Told to go, or there.
abbrev had : Machine → ℕ → ℕ
had s n = goings n s.trace + one (is_at s n)

one_went : (b c : Bool) → (c ≡ true → b ≡ true) → one (went b c) + one c ≡ one b
one_went true true f = refl
one_went true false f = refl
one_went false true f = let z : false ≡ true = f refl in absurd cc
one_went false false f = refl

cut_had : (u : Machine) (i n : ℕ) → had (machine.cut naming i u) n ≡ had u n
cut_had u i n =
    let z = cut_goings u i n in
    let y = one_went (is_at u n) (is_at (machine.cut naming i u) n) (cut_there u i n) in
    omega arith

-- ---- what holds of a machine's trace

-- No block is told to go twice, or while it is there; and none that isn't made yet.
record Telling (s : Machine) : Type 0 where
  once : (n : ℕ) → had s n ≤ 1
  unmade : (n : ℕ) → length s.world.heap ≤ n → goings n s.trace ≡ 0

-- So it stays, and what was there is there or told to go.
record Later (s t : Machine) : Type 0 where
  telling : Telling t
  keeps : (n : ℕ) → had s n ≤ had t n

none_of : (h : Heap Block) (n : ℕ) → there (at h n) ≡ false → at h n ≡ None
none_of h n e = go (at h n) e
  where
    go : (o : Option Block) → there o ≡ false → o ≡ None
    go None e = refl
    go (Some b) e = absurd cc

below_or_not : (n k : ℕ) → (n < k) ⊎ (k ≤ n)
below_or_not n zero = inr (omega arith)
below_or_not zero (suc k) = inl (omega arith)
below_or_not (suc n) (suc k) = elim (below_or_not n k) [ inl l ↦ inl (omega arith) | inr l ↦ inr (omega arith) ]

later_same : (s : Machine) → Telling s → Later s s
later_same s t = record { telling = t; keeps = λ n. omega arith }

later_on : (s t u : Machine) → Later s t → Later t u → Later s u
later_on s t u a b = record { telling = b.telling; keeps = λ n. let x = a.keeps n in let y = b.keeps n in omega arith }

wrote_had : (s u : Machine) (n : ℕ) → Telling s → Wrote s u → (had s n ≤ had u n) × (had u n ≤ 1)
wrote_had s u n t w = go (is_at s n) refl
  where
    made : n < length s.world.heap → is_at s n ≡ false → (had s n ≤ had u n) × (had u n ≤ 1)
    made l e =
        let same = w.same n in
        let empty : is_at u n ≡ false = ap there (w.grown.empty n l (none_of s.world.heap n e)) in
        let a = ap one e in
        let b = ap one empty in
        let c = t.once n in
        (omega arith, omega arith)

    unmade : length s.world.heap ≤ n → is_at s n ≡ false → (b : Bool) → is_at u n ≡ b → (had s n ≤ had u n) × (had u n ≤ 1)
    unmade l e true f =
        let same = w.same n in let a = ap one e in let b = ap one f in let c = t.unmade n l in (omega arith, omega arith)
    unmade l e false f =
        let same = w.same n in let a = ap one e in let b = ap one f in let c = t.unmade n l in (omega arith, omega arith)

    go : (b : Bool) → is_at s n ≡ b → (had s n ≤ had u n) × (had u n ≤ 1)
    go true e =
        let same = w.same n in
        let b = there_is (at s.world.heap n) e in
        let f = ap there (w.grown.there n b.0 b.1).1 in
        let a = ap one e in
        let c = ap one f in
        let d = t.once n in
        (omega arith, omega arith)
    go false e = elim (below_or_not n (length s.world.heap)) [ inl l ↦ made l e | inr l ↦ unmade l e (is_at u n) refl ]

-- An event and its cut.
event_later : (s u : Machine) (i : ℕ) → Telling s → Wrote s u → Later s (machine.cut naming i u)
event_later s u i t w = record {
  telling = record {
    once = λ n. let a = (wrote_had s u n t w).1 in let b = cut_had u i n in omega arith;
    unmade = λ n l.
        let long = stays_length inside (total naming u.processes) u.world.heap in
        let longer = w.grown.longer in
        let a = t.unmade n (omega arith) in
        let b = w.same n in
        let c = ap there (beyond u.world.heap n (omega arith)) in
        let d = cut_goings u i n in
        let e = ap (λ v. one (went v (is_at (machine.cut naming i u) n))) c in
        omega arith;
  };
  keeps = λ n. let a = (wrote_had s u n t w).0 in let b = cut_had u i n in omega arith;
}

-- ---- events

module _ (limit : ℕ) (objects : List Object) where
  obey_later : (s t : Machine) (i : ℕ) → Telling s → (o : Option (Doing Process Value))
      → machine.obey (rules limit objects) naming s i (machine.ready o) ≡ Some t → Later s t
  obey_later s t i h (Some (Ready p)) e =
      let u = machine.does (rules limit objects) s i (step limit objects s.world p) in
      subst (λ t. Later s t) (let z : machine.cut naming i u ≡ t = cc in z)
      (event_later s u i h (does_wrote limit objects s i (step limit objects s.world p) (nothing_goes_within limit objects s.world p)))
  obey_later s t i h (Some (Waiting bs p)) e = absurd cc
  obey_later s t i h (Some (Asking p)) e = absurd cc
  obey_later s t i h (Some Gone) e = absurd cc
  obey_later s t i h None e = absurd cc

  turns_later : (n i : ℕ) (s t : Machine) → Telling s → machine.turns (rules limit objects) naming i n s ≡ Some t → Later s t
  turns_later zero i s t h e = subst (λ t. Later s t) (let z : s ≡ t = cc in z) (later_same s h)
  turns_later (suc n) i s t h e =
      go (λ u h e. turns_later n i u t h e) (machine.obey (rules limit objects) naming s i (machine.ready (slice_get s.processes i))) refl e
    where
      go : ((u : Machine) → Telling u → machine.turns (rules limit objects) naming i n u ≡ Some t → Later u t) → (o : Option Machine)
          → machine.obey (rules limit objects) naming s i (machine.ready (slice_get s.processes i)) ≡ o
          → (elim o as (λ _. Option Machine) [ None ↦ None | Some u ↦ machine.turns (rules limit objects) naming i n u ]) ≡ Some t
          → Later s t
      go again None f e = absurd cc
      go again (Some u) f e =
          let a = obey_later s u i h (slice_get s.processes i) f in later_on s u t a (again u a.telling e)

  answered_later : (s t : Machine) (i : ℕ) (a : Rmsg) → Telling s → (e : Does) → GrownBy s.world e
      → (elim (machine.answered s i a e) as (λ _. Option Machine) [ None ↦ None | Some u ↦ Some (machine.cut naming i u) ]) ≡ Some t
      → Later s t
  answered_later s t i a h (Went y q) g e =
      let u : Machine = record {
        processes = set s.processes i (Ready q);
        world = y;
        waiters = s.waiters;
        trace = s.trace ++ Replied i a ∷ [];
      } in
      subst (λ t. Later s t) (let z : machine.cut naming i u ≡ t = cc in z)
      (event_later s u i h (record { grown = g; same = λ n. one_more n s.trace (Replied i a) refl }))
  answered_later s t i a h (Asks y m q) g e =
      let u : Machine = record {
        processes = set s.processes i (Asking q);
        world = y;
        waiters = s.waiters;
        trace = s.trace ++ Replied i a ∷ Requested i m ∷ [];
      } in
      subst (λ t. Later s t) (let z : machine.cut naming i u ≡ t = cc in z)
      (event_later s u i h (record { grown = g; same = λ n. two_more n s.trace (Replied i a) (Requested i m) refl }))
  answered_later s t i a h (Ends y how) g e =
      let u : Machine = record {
        processes = set s.processes i Gone;
        world = y;
        waiters = s.waiters;
        trace = s.trace ++ Replied i a ∷ Over i how ∷ [];
      } in
      subst (λ t. Later s t) (let z : machine.cut naming i u ≡ t = cc in z)
      (event_later s u i h (record { grown = g; same = λ n. two_more n s.trace (Replied i a) (Over i how) refl }))
  answered_later s t i a h (Parks y bs q) g e = absurd cc
  answered_later s t i a h (Polls y bs q r) g e = absurd cc
  answered_later s t i a h (Spawns y child q) g e = absurd cc

  replied_later : (s t : Machine) (i : ℕ) (a : Rmsg) → Telling s → (o : Option (Doing Process Value))
      → machine.replied (rules limit objects) naming s i a o ≡ Some t → Later s t
  replied_later s t i a h (Some (Asking p)) e = answered_later s t i a h (answer a s.world p) (answer_grows s.world p a) e
  replied_later s t i a h (Some (Ready p)) e = absurd cc
  replied_later s t i a h (Some (Waiting bs p)) e = absurd cc
  replied_later s t i a h (Some Gone) e = absurd cc
  replied_later s t i a h None e = absurd cc

  happens_later : (longest : ℕ) (s t : Machine) (e : Event Rmsg) → Telling s
      → machine.happens (rules limit objects) naming longest s e ≡ Some t
      → Later s t
  happens_later longest s t (Quantum i zero) h e = absurd cc
  happens_later longest s t (Quantum i (suc n)) h e = fits_in (nat_lt longest (suc n)) e
    where
      whole : (u : Machine) (o : Option Process)
          → (elim o as (λ _. Option Machine) [ None ↦ Some u | Some p ↦ if nat_eq (suc n) longest then Some u else None ]) ≡ Some t → u ≡ t
      whole u None e = cc
      whole u (Some p) e = full (nat_eq (suc n) longest) e
        where
          full : (b : Bool) → (if b then Some u else None) ≡ Some t → u ≡ t
          full true e = cc
          full false e = absurd cc

      go : (o : Option Machine) → machine.turns (rules limit objects) naming i (suc n) s ≡ o
          → (elim o as (λ _. Option Machine) [ None ↦ None | Some u ↦ machine.is_whole longest i (suc n) u ]) ≡ Some t → Later s t
      go None f e = absurd cc
      go (Some u) f e = subst (λ t. Later s t) (whole u (machine.ready (slice_get u.processes i)) e) (turns_later (suc n) i s u h f)

      fits_in : (b : Bool)
          → (if b then None
          else (elim (machine.turns (rules limit objects) naming i (suc n) s) as (λ _. Option Machine) [
            | None ↦ None
            | Some u ↦ machine.is_whole longest i (suc n) u
          ])) ≡ Some t → Later s t
      fits_in true e = absurd cc
      fits_in false e = go (machine.turns (rules limit objects) naming i (suc n) s) refl e
  happens_later longest s t (Reply i a) h e = replied_later s t i a h (slice_get s.processes i) e
  happens_later longest s t (Down l) h e = absurd cc

  journal_later : (longest : ℕ) (journal : List (Event Rmsg)) (s t : Machine) → Telling s
      → machine.replay (rules limit objects) naming longest s journal ≡ Some t → Later s t
  journal_later longest [] s t h e = subst (λ t. Later s t) (let z : s ≡ t = cc in z) (later_same s h)
  journal_later longest (v ∷ journal) s t h e =
      go (λ u h e. journal_later longest journal u t h e) (machine.happens (rules limit objects) naming longest s v) refl e
    where
      go : ((u : Machine) → Telling u → machine.replay (rules limit objects) naming longest u journal ≡ Some t → Later u t)
          → (o : Option Machine)
          → machine.happens (rules limit objects) naming longest s v ≡ o
          → (elim o as (λ _. Option Machine) [
            | None ↦ None
            | Some u ↦ machine.replay
                (rules limit objects) naming longest u journal
          ]) ≡ Some t
          → Later s t
      go again None f e = absurd cc
      go again (Some u) f e = let a = happens_later longest s u v h f in later_on s u t a (again u a.telling e)

-- ---- the laws

not_there : (s : Machine) (n : ℕ) → (IsThere s.world n → ⊥) → is_at s n ≡ false
not_there s n none = elim (bool_or (is_at s n)) [ inl e ↦ absurd (none (is_there s.world n e)) | inr e ↦ e ]

one_at_most : (b : Bool) → one b ≤ 1
one_at_most true = omega arith
one_at_most false = omega arith

pub each_goes_once : EachGoesOnce
each_goes_once limit longest o others m opens journal more s t e f n =
    let first = journal_later limit (o ∷ others) longest journal (begun m) s begins e in
    let second = journal_later limit (o ∷ others) longest more s t first.telling f in
    record {
      once = let z = second.telling.once n in omega arith;
      there = λ h. let z = second.telling.once n in let y = ap one (there_of t.world n h) in omega arith;
      gone = λ h none.
          let z = second.telling.once n in
          let k = second.keeps n in
          let a = ap one (there_of s.world n h) in
          let b = ap one (not_there t n none) in
          omega arith;
    }
  where
    begins : Telling (begun m)
    begins = record { once = λ n. let z = one_at_most (is_at (begun m) n) in omega arith; unmade = λ n l. refl }

-- One turn is an event before its cut, and the cut.
record Turn (s t : Machine) (i : ℕ) : Type 0 where
  before : Machine
  wrote : Wrote s before
  cut : machine.cut naming i before ≡ t

turn_of : (limit : ℕ) (objects : List Object) (s t : Machine) (i : ℕ) → machine.turns (rules limit objects) naming i 1 s ≡ Some t
    → Turn s t i
turn_of limit objects s t i e = go (slice_get s.processes i) e
  where
    go : (o : Option (Doing Process Value))
        → (elim (machine.obey (rules limit objects) naming s i (machine.ready o)) as
        (λ _. Option Machine) [ None ↦ None | Some u ↦ Some u ]) ≡ Some t
        → Turn s t i
    go (Some (Ready p)) e = record {
      before = machine.does (rules limit objects) s i (step limit objects s.world p);
      wrote = does_wrote limit objects s i (step limit objects s.world p) (nothing_goes_within limit objects s.world p);
      cut = let z : machine.cut naming i (machine.does (rules limit objects) s i (step limit objects s.world p)) ≡ t = cc in z;
    }
    go (Some (Waiting bs p)) e = absurd cc
    go (Some (Asking p)) e = absurd cc
    go (Some Gone) e = absurd cc
    go None e = absurd cc

pub last_references_release : LastReferencesRelease
last_references_release limit objects s t i exact e n was =
    let turn = turn_of limit objects s t i e in
    let exact' = events_keep_counts.instructions limit objects s t i 1 exact e in
    let u = turn.before in
    let told : goings n t.trace ≡ goings n u.trace + one (went (is_at u n) (is_at t n)) =
    subst (λ t. goings n t.trace ≡ goings n u.trace + one (went (is_at u n) (is_at t n))) turn.cut (cut_goings u i n) in
    let before : is_at u n ≡ true = ap there (turn.wrote.grown.there n was.0 was.1).1 in
    let same = turn.wrote.same n in
    record {
      goes = λ none.
          let gone : is_at t n ≡ false = not_there t n (λ h. let z = (exact' n).0 h in omega (arith, z, none)) in
          let a : one (went (is_at u n) (is_at t n)) ≡ 1 = ap (λ b. one (went b (is_at t n))) before ∙ ap (λ b. one (went true b)) gone in
          omega (arith, told, same, a);
      stays = λ some.
          let here : is_at t n ≡ true = there_of t.world n ((exact' n).1 some) in
          let a : one (went (is_at u n) (is_at t n)) ≡ 0 = ap (λ b. one (went b (is_at t n))) before ∙ ap (λ b. one (went true b)) here in
          omega (arith, told, same, a);
    }
