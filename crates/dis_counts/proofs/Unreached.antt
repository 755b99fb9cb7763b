-- An instruction leaves each block that its process doesn't reach as it was, cut and all.
use Rattle.std.proofs.Common.{◌≡◌, ℕ, zero, suc, ◌+◌, ◌<◌, true, List, [], ◌∷◌, ◌++◌, inl, inr, Option, Some, None, refl, sym, ap, subst}
use Rattle.std.proofs.Common.{◌∙◌, arith}
use Rattle.std.specs.Prelude.{slice_get}
use Rattle.std.proofs.Math.ListN.{set}
use Rattle.process_model.specs.Process.{Branch, Went, Parks, Polls, Spawns, Asks, Ends, Doing, Ready, Waiting, Asking, Gone}
use Rattle.process_model.specs.Naming.{total}
use Rattle.process_model.specs.Naming as naming_of
use Rattle.process_model.specs.Choice.{Choice, choose}
use Rattle.process_model.specs.Machine as machine
use Rattle.process_model.proofs.Lists.{set_same, set_other, more_keeps}
use Rattle.heap_model.specs.Kept.{Held}
use Rattle.heap_model.specs.Heap.{Heap, at, there, graph, in_one, in_all, stays}
use Rattle.heap_model.proofs.Heap.{stays_is, stays_part, there_is, within}
use Rattle.system_model.specs.Values.{Value}
use Rattle.dis_file.specs.declared.object.Object.{Object}
use Rattle.dis_meaning.specs.Places.{all_frames}
use Rattle.dis_meaning.specs.Process.{Process}
use Rattle.dis_memory.specs.Blocks.{Block, World, words_in}
use Rattle.dis_memory.specs.Laws.{Reaches, own, on, ChangesReached, ReachedBy}
use Rattle.dis_memory.specs.Naming.{inside, names, naming}
use Rattle.dis_memory.specs.Process.{Does}
use Rattle.dis_memory.specs.Rules.{rules}
use Rattle.dis_memory.specs.Sound.{IsThere, SomeRefers, FramesRefer}
use Rattle.dis_memory.specs.Step.{step}
use Rattle.dis_memory.proofs.Fair.{only_reached_changes}
use Rattle.dis_memory.proofs.Reaching.{none_changed}
use Rattle.dis_counts.specs.Counts.{Machine, CountsAreExact}
use Rattle.dis_counts.specs.Reach.{ReachesNoMore, ReachesNoMoreBy, IsAsItWas, OnlyReachedCounts}
use Rattle.dis_counts.specs.References.{Gets, BlocksGet, GetsHeld, GetsHeldBy}
use Rattle.dis_counts.proofs.Cut.{either, one_names, is_there}
use Rattle.dis_counts.proofs.Exact.{events_keep_counts}
use Rattle.dis_counts.proofs.Forging.{no_reference_is_forged}
use Rattle.dis_counts.proofs.Leading.{nothing_else_is_reached}
use Rattle.dis_counts.proofs.Held.{held_reached, as_it_is, words_lead}
use Rattle.dis_counts.proofs.Named.{there_of, words_refer, process_refers}

none_of : (k : ℕ) → (0 < k → ⊥) → k ≡ 0
none_of zero f = refl
none_of (suc k) f = absurd (f (omega arith))

some_same : {T : Type 0} (s t : T) → Some s ≡ Some t → s ≡ t
some_same s t e = cc

same_doing : (d e : Doing Process Value) → Some d ≡ Some e → d ≡ e
same_doing d e f = cc

same_ready : (p q : Process) → (let d : Option (Doing Process Value) = Some (Ready p) in d ≡ Some (Ready q)) → p ≡ q
same_ready p q e = cc

-- ---- heaps that name a block equally, place by place

all_same : (g h : Heap Block) (n : ℕ) → ((a : ℕ) → in_one inside (at g a) n ≡ in_one inside (at h a) n)
    → in_all inside g n ≡ in_all inside h n
all_same [] [] n e = refl
all_same [] (o ∷ os) n e = let z = e 0 in let y = all_same [] os n (λ a. e (suc a)) in omega arith
all_same (o ∷ os) [] n e = let z = e 0 in let y = all_same os [] n (λ a. e (suc a)) in omega arith
all_same (o ∷ os) (p ∷ ps) n e = let z = e 0 in let y = all_same os ps n (λ a. e (suc a)) in omega arith

-- ---- how often processes name a block, where one of them changes

abbrev named : Doing Process Value → ℕ → ℕ
named d n = naming_of.names naming d n

total_set : (ps : List (Doing Process Value)) (i : ℕ) (d e : Doing Process Value) (n : ℕ) → slice_get ps i ≡ Some d
    → total naming (set ps i e) n + named d n ≡ total naming ps n + named e n
total_set [] i d e n at = absurd cc
total_set (c ∷ cs) zero d e n at =
    let same : c ≡ d = cc in
    subst (λ o. named e n + total naming cs n + named o n ≡ named c n + total naming cs n + named e n) same (omega arith)
total_set (c ∷ cs) (suc i) d e n at = let z = total_set cs i d e n at in omega arith

total_more : (ps : List (Doing Process Value)) (d : Doing Process Value) (n : ℕ)
    → total naming (ps ++ d ∷ []) n ≡ total naming ps n + named d n
total_more [] d n = omega arith
total_more (c ∷ cs) d n = let z = total_more cs d n in omega arith

module _ (limit : ℕ) (objects : List Object) (s : Machine) (i : ℕ) (p : Process) (here : slice_get s.processes i ≡ Some (Ready p)) where
  -- A block that was there and that the process doesn't reach.
  record Unreached (n : ℕ) : Type 0 where
    was : IsThere s.world n
    not : Reaches s.world p n → ⊥

  not_got : (n : ℕ) → Unreached n → Gets s.world p n → ⊥
  not_got n u (inl h) = u.not (held_reached s.world p n h)
  not_got n u (inr e) = let z = within s.world.heap n (there_of s.world n u.was) in omega (arith, z, e)

  unnamed : (q : Process) → ((n : ℕ) → FramesRefer (all_frames q) n → Gets s.world p n) → (n : ℕ) → Unreached n → names q n ≡ 0
  unnamed q f n u = none_of (names q n) (λ r. not_got n u (f n (process_refers n q r)))

  -- What the process leaves, before the cut.
  record Leaves (t : Machine) : Type 0 where
    changes : ChangesReached s.world p t.world
    blocks : BlocksGet s.world p t.world
    total : (n : ℕ) → Unreached n → total naming t.processes n ≡ total naming s.processes n
    ready : (q : Process) → slice_get t.processes i ≡ Some (Ready q) → ReachesNoMore s.world p t.world q

  one_set : (d : Doing Process Value) (n : ℕ) → Unreached n → named d n ≡ 0
      → total naming (set s.processes i d) n ≡ total naming s.processes n
  one_set d n u e =
      let z = total_set s.processes i (Ready p) d n here in
      let y = unnamed p (as_it_is s.world p).frames n u in
      omega arith

  as_they_are : Leaves s
  as_they_are = record {
    changes = none_changed s.world p;
    blocks = (as_it_is s.world p).blocks;
    total = λ n u. refl;
    ready = λ q e n r. inl (subst (λ f. Reaches s.world f n) (same_ready q p (sym e ∙ here)) r);
  }

  -- A process that goes on so from the first one.
  record Goes (y : World) (q : Process) : Type 0 where
    changes : ChangesReached s.world p y
    gets : GetsHeld s.world p y q
    reach : ReachesNoMore s.world p y q

  goes : (y : World) (q : Process) → ChangesReached s.world p y → GetsHeld s.world p y q → ReachesNoMore s.world p y q → Goes y q
  goes y q c g r = record { changes = c; gets = g; reach = r }

  -- The process that goes on is ready, or none is in its place.
  set_ready : (y : World) (q : Process) → Goes y q → (ps : List (Doing Process Value)) → slice_get ps i ≡ Some (Ready q) → (r : Process)
      → slice_get ps i ≡ Some (Ready r) → ReachesNoMore s.world p y r
  set_ready y q g ps at r e n reach = g.reach n (subst (λ f. Reaches y f n) (same_ready r q (sym e ∙ at)) reach)

  set_here : (d : Doing Process Value) → slice_get (set s.processes i d) i ≡ Some d
  set_here d = set_same s.processes i d (Ready p) here

  not_ready : (d : Doing Process Value) (y : World) → ((r : Process) → d ≡ Ready r → ⊥) → (r : Process)
      → slice_get (set s.processes i d) i ≡ Some (Ready r) → ReachesNoMore s.world p y r
  not_ready d y none r e n reach = absurd (none r (let z : Some d ≡ Some (Ready r) = sym (set_here d) ∙ e in same_doing d (Ready r) z))

  meet_leaves : (y : World) (q : Process) (c : Choice Value) → Goes y q → (o : Option (Doing Process Value))
      → slice_get s.processes c.met.pid ≡ o → Leaves (machine.meet (rules limit objects) s i y q c o)
  meet_leaves y q c g (Some (Waiting theirs other)) e = record {
    changes = g.changes;
    blocks = g.gets.blocks;
    total = λ n u.
        let z = total_set (set s.processes i (Ready q)) c.met.pid (Waiting theirs other) (Ready other) n
        (set_other s.processes i c.met.pid (Ready q) apart ∙ e) in
        let w = one_set (Ready q) n u (unnamed q g.gets.frames n u) in
        omega arith;
    ready =
        set_ready y q g (set (set s.processes i (Ready q)) c.met.pid (Ready other))
        (set_other (set s.processes i (Ready q)) c.met.pid i (Ready other) (λ same. apart (sym same)) ∙ set_here (Ready q));
  }
    where
      apart : c.met.pid ≡ i → ⊥
      apart same =
          let z : Some (Waiting theirs other) ≡ Some (Ready p) = sym e ∙ (ap (λ k. slice_get s.processes k) same ∙ here) in absurd cc
  meet_leaves y q c g (Some (Ready other)) e = as_they_are
  meet_leaves y q c g (Some (Asking other)) e = as_they_are
  meet_leaves y q c g (Some Gone) e = as_they_are
  meet_leaves y q c g None e = as_they_are

  went_leaves : (y : World) (q : Process) → Goes y q → Leaves (machine.does (rules limit objects) s i (Went y q))
  went_leaves y q g = record {
    changes = g.changes;
    blocks = g.gets.blocks;
    total = λ n u. one_set (Ready q) n u (unnamed q g.gets.frames n u);
    ready = set_ready y q g (set s.processes i (Ready q)) (set_here (Ready q));
  }

  park_leaves : (y : World) (bs : List (Branch Value)) (q : Process) → Goes y q → (o : Option (Choice Value))
      → Leaves (machine.park (rules limit objects) s i y bs q o)
  park_leaves y bs q g (Some c) = meet_leaves y q c g (slice_get s.processes c.met.pid) refl
  park_leaves y bs q g None = record {
    changes = g.changes;
    blocks = g.gets.blocks;
    total = λ n u. one_set (Waiting bs q) n u (let z = unnamed q g.gets.frames n u in omega arith);
    ready = not_ready (Waiting bs q) y (λ r e. absurd cc);
  }

  poll_leaves : (y : World) (q q' : Process) → Goes y q → Goes y q' → (o : Option (Choice Value))
      → Leaves (machine.poll (rules limit objects) s i y q q' o)
  poll_leaves y q q' g h (Some c) = meet_leaves y q c g (slice_get s.processes c.met.pid) refl
  poll_leaves y q q' g h None = record {
    changes = h.changes;
    blocks = h.gets.blocks;
    total = λ n u. one_set (Ready q') n u (unnamed q' h.gets.frames n u);
    ready = set_ready y q' h (set s.processes i (Ready q')) (set_here (Ready q'));
  }

  does_leaves : (e : Does) → ReachedBy s.world p e → GetsHeldBy s.world p e → ReachesNoMoreBy s.world p e
      → Leaves (machine.does (rules limit objects) s i e)
  does_leaves (Went y q) c g r = went_leaves y q (goes y q c g r)
  does_leaves (Parks y bs q) c g r = park_leaves y bs q (goes y q c g r) (choose 0 bs s.waiters)
  does_leaves (Polls y bs q q') c g r = poll_leaves y q q' (goes y q c g.0 r.0) (goes y q' c g.1 r.1) (choose 0 bs s.waiters)
  does_leaves (Spawns y child q) c g r = record {
    changes = c;
    blocks = g.1.blocks;
    total = λ n u.
        let z = total_more (set s.processes i (Ready q)) (Ready child) n in
        let w = one_set (Ready q) n u (unnamed q g.1.frames n u) in
        let v = unnamed child g.0.frames n u in
        omega arith;
    ready =
        set_ready y q (goes y q c g.1 r.1) (set s.processes i (Ready q) ++ Ready child ∷ [])
        (more_keeps (set s.processes i (Ready q)) (Ready child) (Ready q) i (set_here (Ready q)));
  }
  does_leaves (Asks y m q) c g r = record {
    changes = c;
    blocks = g.blocks;
    total = λ n u. one_set (Asking q) n u (unnamed q g.frames n u);
    ready = not_ready (Asking q) y (λ r e. absurd cc);
  }
  does_leaves (Ends y how) c g r = record {
    changes = c;
    blocks = g;
    total = λ n u. one_set Gone n u refl;
    ready = not_ready Gone y (λ r e. absurd cc);
  }

  -- ---- behind the cut

  refers_of : (a n : ℕ) (b : Block) → at s.world.heap a ≡ Some b → 0 < in_one inside (at s.world.heap a) n → SomeRefers (words_in b) n
  refers_of a n b e q = words_refer n (words_in b) (subst (λ o. 0 < in_one inside o n) e q)

  -- What names a block that isn't reached isn't reached.
  names_unreached : (a n : ℕ) → Unreached n → 0 < in_one inside (at s.world.heap a) n → Unreached a
  names_unreached a n u q =
      let b = there_is (at s.world.heap a) (is_there inside (at s.world.heap a) n q) in
      record { was = b; not = λ r. u.not (on a n b.0 r b.1 (words_lead (words_in b.0) n (refers_of a n b.0 b.1 q))) }

  module _ (exact : CountsAreExact s) (t : Machine) (leaves : Leaves t) where
    -- It was named by a process, which names it still, or by a block that isn't reached either.
    named_still : (n : ℕ) → Unreached n
        → (there (at t.world.heap n) ≡ true) × Held (graph inside t.world.heap) (total naming t.processes) Unreached n
    named_still n u = (
      there_of t.world n (u.was.0, leaves.changes n u.was.0 u.was.1 u.not),
      elim (either (total naming s.processes n) (in_all inside s.world.heap n) ((exact n).0 u.was)) [
        | inl q ↦ inl (let z = leaves.total n u in omega arith)
        | inr q ↦
            let r = one_names inside s.world.heap n q in
            let a = names_unreached r.0 n u r.1 in
            let same : at s.world.heap r.0 ≡ at t.world.heap r.0 = a.was.1 ∙ sym (leaves.changes r.0 a.was.0 a.was.1 a.not) in
            inr (r.0, a, subst (λ o. 0 < in_one inside o n) same r.1)
      ],
    )

    -- So it stays, as it was.
    stays_as_it_was : (n : ℕ) → Unreached n → at (stays inside (total naming t.processes) t.world.heap) n ≡ at s.world.heap n
    stays_as_it_was n u =
        let e = (stays_is inside (total naming t.processes) t.world.heap).greatest Unreached named_still n u in
        let b = there_is (at (stays inside (total naming t.processes) t.world.heap) n) e in
        b.1 ∙ (sym (stays_part inside (total naming t.processes) t.world.heap n b.0 b.1) ∙
        (leaves.changes n u.was.0 u.was.1 u.not ∙ sym u.was.1))

    -- A place that didn't name it doesn't.
    names_none : (a n : ℕ) → Unreached n → in_one inside (at s.world.heap a) n ≡ 0
        → 0 < in_one inside (at (stays inside (total naming t.processes) t.world.heap) a) n → ⊥
    names_none a n u none q =
        let b = there_is (at (stays inside (total naming t.processes) t.world.heap) a)
        (is_there inside (at (stays inside (total naming t.processes) t.world.heap) a) n q) in
        let r = words_refer n (words_in b.0) (subst (λ o. 0 < in_one inside o n) b.1 q) in
        elim (leaves.blocks a n b.0 (stays_part inside (total naming t.processes) t.world.heap a b.0 b.1) r) [
          | inl g ↦ not_got n u g
          | inr was ↦ let z = subst (λ o. 0 < in_one inside o n) (b.1 ∙ sym was) q in omega (arith, z, none)
        ]

    named_alike : (n : ℕ) → Unreached n → (a : ℕ)
        → in_one inside (at (stays inside (total naming t.processes) t.world.heap) a) n ≡ in_one inside (at s.world.heap a) n
    named_alike n u a = go (in_one inside (at s.world.heap a) n) refl
      where
        go : (k : ℕ) → in_one inside (at s.world.heap a) n ≡ k
            → in_one inside (at (stays inside (total naming t.processes) t.world.heap) a) n ≡ in_one inside (at s.world.heap a) n
        go zero e = none_of _ (names_none a n u e) ∙ sym e
        go (suc k) e = ap (λ o. in_one inside o n) (stays_as_it_was a (names_unreached a n u (omega (arith, e))))

    after_cut : (n : ℕ) → Unreached n → IsAsItWas s (machine.cut naming i t) n
    after_cut n u = record {
      block = stays_as_it_was n u;
      counted =
          let z = leaves.total n u in
          let y = all_same (stays inside (total naming t.processes) t.world.heap) s.world.heap n (named_alike n u) in
          omega (arith, z, y);
    }

-- ---- turns

-- An instruction and the cut behind it, and then the other turns.
turn_on : (limit : ℕ) (objects : List Object) (s t : Machine) (i k : ℕ) (p : Process) → slice_get s.processes i ≡ Some (Ready p)
    → machine.turns (rules limit objects) naming i (suc k) s ≡ Some t
    → machine.turns (rules limit objects) naming i k
    (machine.cut naming i (machine.does (rules limit objects) s i (step limit objects s.world p))) ≡ Some t
turn_on limit objects s t i k p here e = go (slice_get s.processes i) here e
  where
    go : (o : Option (Doing Process Value)) → o ≡ Some (Ready p)
        → (elim (machine.obey (rules limit objects) naming s i (machine.ready o)) as (λ _. Option Machine) [
          | None ↦ None
          | Some u ↦ machine.turns (rules limit objects) naming i k u
        ]) ≡ Some t
        → machine.turns (rules limit objects) naming i k
        (machine.cut naming i (machine.does (rules limit objects) s i (step limit objects s.world p))) ≡ Some t
    go (Some (Ready q)) f e =
        subst (λ q. machine.turns (rules limit objects) naming i k
        (machine.cut naming i (machine.does (rules limit objects) s i (step limit objects s.world q))) ≡ Some t)
        (let z : q ≡ p = cc in z) e
    go (Some (Waiting bs q)) f e = absurd cc
    go (Some (Asking q)) f e = absurd cc
    go (Some Gone) f e = absurd cc
    go None f e = absurd cc

pub turn_is : (limit : ℕ) (objects : List Object) (s t : Machine) (i : ℕ) (p : Process) → slice_get s.processes i ≡ Some (Ready p)
    → machine.turns (rules limit objects) naming i 1 s ≡ Some t
    → machine.cut naming i (machine.does (rules limit objects) s i (step limit objects s.world p)) ≡ t
turn_is limit objects s t i p here e = let f = turn_on limit objects s t i 0 p here e in some_same _ t f

-- What one turn leaves, it is.
turn_of : (limit : ℕ) (objects : List Object) (s : Machine) (i : ℕ) (p : Process) → slice_get s.processes i ≡ Some (Ready p)
    → machine.turns (rules limit objects) naming i 1 s
    ≡ Some (machine.cut naming i (machine.does (rules limit objects) s i (step limit objects s.world p)))
turn_of limit objects s i p here =
    subst (λ (o : Option (Doing Process Value)).
    (elim (machine.obey (rules limit objects) naming s i (machine.ready o)) as (λ _. Option Machine) [ None ↦ None | Some u ↦ Some u ])
    ≡ Some (machine.cut naming i (machine.does (rules limit objects) s i (step limit objects s.world p)))) (sym here) refl

-- Behind a cut a process reaches no more.
cut_reaches : (u : Machine) (i : ℕ) (q : Process) (n : ℕ) → Reaches (machine.cut naming i u).world q n → Reaches u.world q n
cut_reaches u i q n (own m r) = own m r
cut_reaches u i q n (on m k b r there s) =
    on m k b (cut_reaches u i q m r) (stays_part inside (total naming u.processes) u.world.heap m b there) s

-- A process that can't go on has no more turns.
no_turn : (limit : ℕ) (objects : List Object) (s t : Machine) (i k : ℕ) → machine.ready (slice_get s.processes i) ≡ None
    → machine.turns (rules limit objects) naming i (suc k) s ≡ Some t → ⊥
no_turn limit objects s t i k none e = go (machine.ready (slice_get s.processes i)) none e
  where
    go : (o : Option Process) → o ≡ None
        → (elim (machine.obey (rules limit objects) naming s i o) as (λ _. Option Machine) [
          | None ↦ None
          | Some u ↦ machine.turns (rules limit objects) naming i k u
        ]) ≡ Some t → ⊥
    go None f e = absurd cc
    go (Some q) f e = absurd cc

then_as_it_was : (s t u : Machine) (n : ℕ) → IsAsItWas s t n → IsAsItWas t u n → IsAsItWas s u n
then_as_it_was s t u n a b = record { block = b.block ∙ a.block; counted = b.counted ∙ a.counted }

module _ (limit : ℕ) (objects : List Object) (i : ℕ) where
  one_turn : (s : Machine) (p : Process) (here : slice_get s.processes i ≡ Some (Ready p))
      → Leaves limit objects s i p here (machine.does (rules limit objects) s i (step limit objects s.world p))
  one_turn s p here =
      does_leaves limit objects s i p here (step limit objects s.world p) (only_reached_changes limit objects s.world p)
      (no_reference_is_forged limit objects s.world p) (nothing_else_is_reached limit objects s.world p)

  pub only_reached : (k : ℕ) (s t : Machine) (p : Process) → CountsAreExact s → slice_get s.processes i ≡ Some (Ready p)
      → machine.turns (rules limit objects) naming i k s ≡ Some t → (n : ℕ) → IsThere s.world n → (Reaches s.world p n → ⊥)
      → IsAsItWas s t n
  only_reached zero s t p exact here e n was not =
      subst (λ t. IsAsItWas s t n) (some_same s t e) (record { block = refl; counted = refl })
  only_reached (suc k) s t p exact here e n was not =
      let u = machine.does (rules limit objects) s i (step limit objects s.world p) in
      let v = machine.cut naming i u in
      let left = one_turn s p here in
      let first = after_cut limit objects s i p here exact u left n (record { was = was; not = not }) in
      let exact' = events_keep_counts.instructions limit objects s v i 1 exact (turn_of limit objects s i p here) in
      let was' : IsThere v.world n = (was.0, first.block ∙ was.1) in
      then_as_it_was s v t n first
      (rest v exact' was'
      (λ q at reach. elim (left.ready q at n (cut_reaches u i q n reach)) [
        | inl r ↦ not r
        | inr new ↦ let z = within s.world.heap n (there_of s.world n was) in omega (arith, z, new)
      ])
      k (λ q at f none. only_reached k v t q exact' at f n was' none) (turn_on limit objects s t i k p here e))
    where
      rest : (v : Machine) → CountsAreExact v → IsThere v.world n
          → ((q : Process) → slice_get v.processes i ≡ Some (Ready q) → Reaches v.world q n → ⊥)
          → (k : ℕ)
          → ((q : Process) → slice_get v.processes i ≡ Some (Ready q) → machine.turns (rules limit objects) naming i k v ≡ Some t
          → (Reaches v.world q n → ⊥) → IsAsItWas v t n)
          → machine.turns (rules limit objects) naming i k v ≡ Some t → IsAsItWas v t n
      rest v exact was not zero again f = subst (λ t. IsAsItWas v t n) (some_same v t f) (record { block = refl; counted = refl })
      rest v exact was not (suc k) again f = go (slice_get v.processes i) refl
        where
          go : (o : Option (Doing Process Value)) → slice_get v.processes i ≡ o → IsAsItWas v t n
          go (Some (Ready q)) e = again q e f (not q e)
          go (Some (Waiting bs q)) e = absurd (no_turn limit objects v t i k (ap machine.ready e) f)
          go (Some (Asking q)) e = absurd (no_turn limit objects v t i k (ap machine.ready e) f)
          go (Some Gone) e = absurd (no_turn limit objects v t i k (ap machine.ready e) f)
          go None e = absurd (no_turn limit objects v t i k (ap machine.ready e) f)

pub only_reached_counts : OnlyReachedCounts
only_reached_counts limit objects s t i k p exact here e n was not = only_reached limit objects i k s t p exact here e n was not
