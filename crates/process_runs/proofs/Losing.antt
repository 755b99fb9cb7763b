-- Why a lost link may let nothing go: a middle code follows its source, and loses a link; what that lets go the middle code tells at
-- its next step, for which the source has none, and so the source tells it too late. No run of the source is beside that run.
use Rattle.std.proofs.Common.{◌≡◌, ℕ, zero, suc, ◌<◌, List, [], ◌∷◌, ◌++◌, Some, refl, ap, ◌∙◌, subst, arith, ◌⊎◌, inl, inr, ⊎_elim}
use Rattle.std.specs.Prelude.{slice_get}
use Rattle.std.proofs.Math.ListN.{set}
use Rattle.process_model.specs.Process.{Branch, Effect, Went, Parks, Asks, Doing, Ready, Waiting, Asking, Rules, Entry, Requested, Released, Lost, released}
use Rattle.process_model.specs.Naming.{Naming}
use Rattle.process_model.specs.Source as source
use Rattle.process_model.specs.Source.{Config, Hears, goes_on, asks_again, is_over, Steps, goes, waits, meets, polls, passes, spawns, asks, ends, Run, still, next, Turn, Matched, begun, turn, down, reply}
use Rattle.process_model.specs.Alone.{no_loss}
use Rattle.process_model.specs.Law.{begins}
use Rattle.process_model.specs.Shared.{SharedSides, SharedMatches, SharedFollows}
use Rattle.process_model.proofs.Quiet.{quiets_none}
use Rattle.process_runs.specs.Runs.{RunBeside}

-- A world with a value that nobody names, or with none.
data Room : Type 0 where
  Clean : Room
  Littered : Room

abbrev litter : Room → List ℕ
litter Clean = []
litter Littered = 0 ∷ []

abbrev naming : {P : Type 0} → Naming Room P ℕ
naming = record { names = λ p n. 0; holds = λ bs n. 0; trim = λ named w. Clean; gone = λ named w. litter w }

data Half : Type 0 where
  Early : Half
  Late : Half

abbrev acts : Room → Half → Effect Room Half ℕ ℕ ℕ
acts w Early = Went w Late
acts w Late = Asks w 0 Late

-- A lost link leaves litter. No reply is allowed.
abbrev ruled : {P : Type 0} → (Room → P → Effect Room P ℕ ℕ ℕ) → Rules Room P ℕ ℕ ℕ ℕ
ruled step = record { step = step; wake = λ k v w p. record { world = w; process = p }; answer = λ a w p. Parks w [] p; down = λ l w. Some Littered }

-- The source asks at once, the middle code in its second step.
abbrev sides : SharedSides Room Room (Unit {0}) Half ℕ ℕ ℕ ℕ
sides = record { program = ruled (λ w p. Asks w 0 p); naming = naming; code = ruled acts; code_naming = naming; ready = λ p q. Unit {0}; asking = λ p q. Unit {0}; worlds = λ w y. w ≡ y }

abbrev place : Half → ℕ
place Early = 0
place Late = 1

within : (q : Half) → place q < 2
within Early = omega arith
within Late = omega arith

clean : (w : Room) → litter w ≡ [] → Clean ≡ w
clean Clean e = refl
clean Littered e = absurd cc

each : (w y : Room) (p : Unit {0}) (q : Half) → w ≡ y → SharedMatches sides place (place q) w p (acts y q)
each w y p Early e = record { steps = 0; world = w; after = p; burst = no_loss (quiets_none sides.program sides.naming w p); related = tt; worlds = e; pace = λ z. omega arith }
each w y p Late e = record { world = w; after = p; comes = record { steps = 0; world = w; before = p; quiets = quiets_none sides.program sides.naming w p; does = refl }; related = tt; worlds = e }

-- So the middle code follows.
follows : SharedFollows sides
follows = record {
  heap = record {
    trim = λ named w y e. refl;
    gone = λ named w y e. ap litter e;
    still = λ named w y e. record { kept = refl; none = refl };
    kept = λ named w y e none. clean w none;
    kept_too = λ named w y e none. clean y none;
    holds = λ bs n. refl;
    names = λ p q r n. refl;
    names_asking = λ p q r n. refl;
  };
  place = place;
  bound = 2;
  some = omega arith;
  within = λ p q r. within q;
  each = λ w y p q r e. each w y p q e;
  answers = λ a w y p q r e. tt;
  downs = λ l w y y' e f. (Littered, refl, let g : Littered ≡ y' = cc in g);
}

-- A link is lost; the middle code goes on, and tells what went; and asks.
abbrev turns : List Turn
turns = record { pid = 0; steps = 1 } ∷ record { pid = 0; steps = 1 } ∷ []

abbrev reached : Config Room Half ℕ ℕ ℕ ℕ
reached = record { processes = Asking Late ∷ []; world = Clean; trace = Lost 0 ∷ Released 0 (0 ∷ []) ∷ Requested 0 0 ∷ [] }

run : Matched sides.code sides.code_naming (begins Clean Early) turns reached
run = turn 0 1 (turn 0 1 (down 0 Littered begun refl) (next still (source.goes 0 Early Littered Late refl refl))) (next still (source.asks 0 Late Clean 0 Late refl refl))

-- Only links were lost.
abbrev AllLost : List (Entry ℕ ℕ ℕ ℕ) → Type 0
AllLost [] = Unit {0}
AllLost (Lost l ∷ t) = AllLost t
AllLost _ = ⊥

-- Then something was asked, whatever came behind that.
abbrev Asked : List (Entry ℕ ℕ ℕ ℕ) → Type 0
Asked (Lost l ∷ t) = Asked t
Asked (Requested i m ∷ t) = Unit {0}
Asked _ = ⊥

lost_more : (t : List (Entry ℕ ℕ ℕ ℕ)) (l : ℕ) → AllLost t → AllLost (t ++ Lost l ∷ [])
lost_more [] l h = tt
lost_more (Lost k ∷ t) l h = lost_more t l h
lost_more (_ ∷ t) l h = absurd h

then_asked : (t u : List (Entry ℕ ℕ ℕ ℕ)) (i m : ℕ) → AllLost t → Asked ((t ++ Requested i m ∷ []) ++ u)
then_asked [] u i m h = tt
then_asked (Lost k ∷ t) u i m h = then_asked t u i m h
then_asked (_ ∷ t) u i m h = absurd h

asked_more : (t u : List (Entry ℕ ℕ ℕ ℕ)) → Asked t → Asked (t ++ u)
asked_more [] u h = absurd h
asked_more (Lost k ∷ t) u h = asked_more t u h
asked_more (Requested i m ∷ t) u h = tt
asked_more (_ ∷ t) u h = absurd h

abbrev Source : Type 0
Source = Config Room (Unit {0}) ℕ ℕ ℕ ℕ

-- So it is with the source: it has not asked, or has.
abbrev Holds : Source → Type 0
Holds c = ((c.processes ≡ Ready tt ∷ []) × AllLost c.trace) ⊎ ((c.processes ≡ Asking tt ∷ []) × Asked c.trace)

only : (d e : Doing (Unit {0}) ℕ) (i : ℕ) → slice_get (d ∷ []) i ≡ Some e → d ≡ e
only d e zero h = cc
only d e (suc i) h = absurd cc

ready_at : (c : Source) (i : ℕ) (p : Unit {0}) → Holds c → slice_get c.processes i ≡ Some (Ready p) → (c.processes ≡ Ready tt ∷ []) × AllLost c.trace
ready_at c i p (inl h) at = h
ready_at c i p (inr h) at = let e : Asking tt ≡ Ready p = only (Asking tt) (Ready p) i (subst (λ ps. slice_get ps i ≡ Some (Ready p)) h.0 at) in absurd cc

waiting_at : (c : Source) (i : ℕ) (bs : List (Branch ℕ)) (p : Unit {0}) → Holds c → slice_get c.processes i ≡ Some (Waiting bs p) → ⊥
waiting_at c i bs p (inl h) at = let e : Ready tt ≡ Waiting bs p = only (Ready tt) (Waiting bs p) i (subst (λ ps. slice_get ps i ≡ Some (Waiting bs p)) h.0 at) in absurd cc
waiting_at c i bs p (inr h) at = let e : Asking tt ≡ Waiting bs p = only (Asking tt) (Waiting bs p) i (subst (λ ps. slice_get ps i ≡ Some (Waiting bs p)) h.0 at) in absurd cc

set_only : (d e f : Doing (Unit {0}) ℕ) (i : ℕ) → slice_get (d ∷ []) i ≡ Some f → set (d ∷ []) i e ≡ e ∷ []
set_only d e f zero h = refl
set_only d e f (suc i) h = absurd cc

step_holds : (c e : Source) (i : ℕ) → Holds c → Steps sides.program sides.naming c i e → Holds e
step_holds c e0 i0 h (goes i p w p' at does) = absurd cc
step_holds c e0 i0 h (waits i p w bs p' at does) = absurd cc
step_holds c e0 i0 h (meets i p bs k a j l b q at branch fit) = absurd (waiting_at c i bs p h at)
step_holds c e0 i0 h (polls i p w bs p' p'' k a j l b q at does branch fit) = absurd cc
step_holds c e0 i0 h (passes i p w bs p' p'' at does none) = absurd cc
step_holds c e0 i0 h (spawns i p w child p' at does) = absurd cc
step_holds c e0 i0 h (asks i p w m p' at does) =
    let r = ready_at c i p h at in
    inr (ap (λ ps. set ps i (Asking p')) r.0 ∙ set_only (Ready tt) (Asking p') (Ready p) i (subst (λ ps. slice_get ps i ≡ Some (Ready p)) r.0 at), then_asked c.trace (released i (litter w)) i m r.1)
step_holds c e0 i0 h (ends i p w how at does) = absurd cc

run_holds : (i : ℕ) (c e : Source) (n : ℕ) → Holds c → Run sides.program sides.naming i c n e → Holds e
run_holds i c e n h still = h
run_holds i c e n0 h (next {d = d} {n = n} r st) = step_holds d e i (run_holds i c d n h r) st

no_reply : (c : Source) (i a : ℕ) (e : Source) → Hears sides.program sides.naming c i a e → ⊥
no_reply c i a e (goes_on p w p' at does) = absurd cc
no_reply c i a e (asks_again p w m p' at does) = absurd cc
no_reply c i a e (is_over p w how at does) = absurd cc

lost_holds : (c : Source) (l : ℕ) (w : Room) → Holds c → Holds (source.lost l c w)
lost_holds c l w (inl h) = inl (h.0, lost_more c.trace l h.1)
lost_holds c l w (inr h) = inr (h.0, asked_more c.trace (Lost l ∷ []) h.1)

all_holds : (c e : Source) (ts : List Turn) → Holds c → Matched sides.program sides.naming c ts e → Holds e
all_holds c e ts h begun = h
all_holds c e ts0 h (turn {d = d} {ts = ts} i n before run) = run_holds i d e n (all_holds c d ts h before) run
all_holds c e0 ts h (down {d = d} l w before does) = lost_holds d l w (all_holds c d ts h before)
all_holds c e ts h (reply {d = d} i a before hears) = absurd (no_reply d i a e hears)

-- No run of the source tells that.
none_beside : (bound : ℕ) → RunBeside sides (begins Clean tt) bound turns reached → ⊥
none_beside bound r =
    let told : r.config.trace ≡ Lost 0 ∷ Released 0 (0 ∷ []) ∷ Requested 0 0 ∷ [] = r.paired.trace in
    ⊎_elim
    (λ (h : (r.config.processes ≡ Ready tt ∷ []) × AllLost r.config.trace). subst (λ t. AllLost t) told h.1)
    (λ (h : (r.config.processes ≡ Asking tt ∷ []) × Asked r.config.trace). subst (λ t. Asked t) told h.1)
    (all_holds (begins Clean tt) r.config r.turns (inl (refl, tt)) r.run)
