-- What every process of a run keeps: where each effect of a process keeps it, each run does. It serves any language of process_model.
use Rattle.std.proofs.Common.{◌≡◌, ℕ, zero, suc, List, [], ◌∷◌, ◌++◌, Option, Some, subst}
use Rattle.std.specs.Prelude.{slice_get}
use Rattle.std.proofs.Math.ListN.{set}
use Rattle.process_model.specs.Process.{Branch, Effect, Went, Parks, Polls, Spawns, Asks, Ends, Doing, Ready, Waiting, Asking, Gone}
use Rattle.process_model.specs.Process.{Rules, given, passing}
use Rattle.process_model.specs.Naming.{Naming}
use Rattle.process_model.specs.Source.{Config, Hears, goes_on, asks_again, is_over, Steps, goes, waits, meets, polls, passes, spawns}
use Rattle.process_model.specs.Source.{asks, ends, Run, still, next, Turn, Matched, begun, turn, down, reply}

module _ {W P D M H : Type 0} (On : Doing P D → Type 0) where
  -- an effect leaves what is kept
  abbrev pub After : Effect W P D M H → Type 0
  After (Went w p) = On (Ready p)
  After (Parks w bs p) = On (Waiting bs p)
  After (Polls w bs p q) = On (Waiting bs p) × On (Ready q)
  After (Spawns w child p) = On (Ready p) × On (Ready child)
  After (Asks w m p) = On (Asking p)
  After (Ends w how) = On Gone

  -- a reply does, where it is allowed
  abbrev pub AfterReply : Effect W P D M H → Type 0
  AfterReply (Went w p) = On (Ready p)
  AfterReply (Asks w m p) = On (Asking p)
  AfterReply (Ends w how) = On Gone
  AfterReply _ = Unit {0}

module _ {W P D M A H : Type 0} (rules : Rules W P D M A H) (naming : Naming W P D) (On : Doing P D → Type 0) where
  pub record Keeps : Type 0 where
    pub step : (w : W) (p : P) → On (Ready p) → After On (rules.step w p)
    pub wake : (k : ℕ) (v : Option D) (bs : List (Branch D)) (w : W) (p : P) → On (Waiting bs p)
        → On (Ready (rules.wake k v w p).process)
    pub answer : (a : A) (w : W) (p : P) → On (Asking p) → AfterReply On (rules.answer a w p)

  abbrev pub All : List (Doing P D) → Type 0
  All [] = Unit {0}
  All (d ∷ ds) = On d × All ds

  pub all_at : (ds : List (Doing P D)) (i : ℕ) (d : Doing P D) → All ds → slice_get ds i ≡ Some d → On d
  all_at [] i d h e = absurd cc
  all_at (d1 ∷ ds) zero d h e = let same : d1 ≡ d = cc in subst On same h.0
  all_at (d1 ∷ ds) (suc i) d h e = all_at ds i d h.1 e

  all_set : (ds : List (Doing P D)) (i : ℕ) (d : Doing P D) → All ds → On d → All (set ds i d)
  all_set [] i d h k = tt
  all_set (d1 ∷ ds) zero d h k = (k, h.1)
  all_set (d1 ∷ ds) (suc i) d h k = (h.0, all_set ds i d h.1 k)

  all_more : (ds : List (Doing P D)) (d : Doing P D) → All ds → On d → All (ds ++ d ∷ [])
  all_more [] d h k = (k, tt)
  all_more (d1 ∷ ds) d h k = (h.0, all_more ds d h.1 k)

  module _ (keeps : Keeps) where
    abbrev stepped : (c : Config W P D M A H) (i : ℕ) (p : P) (e : Effect W P D M H) → All c.processes
        → slice_get c.processes i ≡ Some (Ready p) → rules.step c.world p ≡ e → After On e
    stepped c i p e h at does = subst (After On) does (keeps.step c.world p (all_at c.processes i (Ready p) h at))

    abbrev replied : (c : Config W P D M A H) (i : ℕ) (a : A) (p : P) (e : Effect W P D M H) → All c.processes
        → slice_get c.processes i ≡ Some (Asking p) → rules.answer a c.world p ≡ e → AfterReply On e
    replied c i a p e h at does = subst (AfterReply On) does (keeps.answer a c.world p (all_at c.processes i (Asking p) h at))

    kept_heard : (c : Config W P D M A H) (i : ℕ) (a : A) (e : Config W P D M A H) → Hears rules naming c i a e → All c.processes
        → All e.processes
    kept_heard c i a e (goes_on p w p' at does) h = all_set c.processes i (Ready p') h (replied c i a p (Went w p') h at does)
    kept_heard c i a e (asks_again p w m p' at does) h = all_set c.processes i (Asking p') h (replied c i a p (Asks w m p') h at does)
    kept_heard c i a e (is_over p w how at does) h = all_set c.processes i Gone h (replied c i a p (Ends w how) h at does)

    -- one that waits goes on, by some branch
    abbrev woken : (k : ℕ) (v : Option D) (w : W) (p : P) → Doing P D
    woken k v w p = Ready (rules.wake k v w p).process

    -- two that wait go on, each by some branch
    both_kept : (ds : List (Doing P D)) (i j k l : ℕ) (v u : Option D) (bs cs : List (Branch D)) (w w' : W) (p q : P) → All ds
        → On (Waiting bs p) → On (Waiting cs q) → All (set (set ds i (woken k v w p)) j (woken l u w' q))
    both_kept ds i j k l v u bs cs w w' p q h hp hq =
        let first = all_set ds i (woken k v w p) h (keeps.wake k v bs w p hp) in
        all_set (set ds i (woken k v w p)) j (woken l u w' q) first (keeps.wake l u cs w' q hq)

    kept_step : (c e : Config W P D M A H) (i : ℕ) → Steps rules naming c i e → All c.processes → All e.processes
    kept_step c e i0 (goes i p w p' at does) h = all_set c.processes i (Ready p') h (stepped c i p (Went w p') h at does)
    kept_step c e i0 (waits i p w bs p' at does) h = all_set c.processes i (Waiting bs p') h (stepped c i p (Parks w bs p') h at does)
    kept_step c e i0 (meets i p bs k a j l b q at branch fit) h =
        let mine = given a (passing a b) in
        both_kept c.processes i j k l mine (given b (passing a b)) bs fit.branches c.world (rules.wake k mine c.world p).world p q h
        (all_at c.processes i (Waiting bs p) h at) (all_at c.processes j (Waiting fit.branches q) h fit.waits)
    kept_step c e i0 (polls i p w bs p' p'' k a j l b q at does branch fit) h =
        let mine = given a (passing a b) in
        let waits_now = (stepped c i p (Polls w bs p' p'') h at does).0 in
        let offered = all_set c.processes i (Waiting bs p') h waits_now in
        both_kept (set c.processes i (Waiting bs p')) i j k l mine (given b (passing a b)) bs fit.branches w (rules.wake k mine w p').world
        p' q offered waits_now (all_at (set c.processes i (Waiting bs p')) j (Waiting fit.branches q) offered fit.waits)
    kept_step c e i0 (passes i p w bs p' p'' at does none) h =
        all_set c.processes i (Ready p'') h (stepped c i p (Polls w bs p' p'') h at does).1
    kept_step c e i0 (spawns i p w child p' at does) h =
        let both = stepped c i p (Spawns w child p') h at does in
        all_more (set c.processes i (Ready p')) (Ready child) (all_set c.processes i (Ready p') h both.0) both.1
    kept_step c e i0 (asks i p w m p' at does) h = all_set c.processes i (Asking p') h (stepped c i p (Asks w m p') h at does)
    kept_step c e i0 (ends i p w how at does) h = all_set c.processes i Gone h (stepped c i p (Ends w how) h at does)

    kept_run : (c : Config W P D M A H) (i : ℕ) (e : Config W P D M A H) (n : ℕ) → Run rules naming i c n e → All c.processes
        → All e.processes
    kept_run c i e n still h = h
    kept_run c i e n (next {d = d} run last) h = kept_step d e i last (kept_run c i d _ run h)

    pub kept_matched : (c e : Config W P D M A H) (turns : List Turn) → Matched rules naming c turns e → All c.processes → All e.processes
    kept_matched c e turns begun h = h
    kept_matched c e turns (turn {d = d} i n before run) h = kept_run d i e n run (kept_matched c d _ before h)
    kept_matched c e turns (down {d = d} l w before lost) h = kept_matched c d _ before h
    kept_matched c e turns (reply {d = d} i a before heard) h = kept_heard d i a e heard (kept_matched c d _ before h)
