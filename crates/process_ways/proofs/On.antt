-- One instruction on the way: what holds before it whatever other processes do, and what it may be.
use Rattle.std.proofs.Common.{◌≡◌, ℕ, suc, ◌<◌, sym, subst, arith}
use Rattle.process_model.specs.Process.{Effect, Went, Parks, Polls, Spawns, Asks, Ends}
use Rattle.process_model.specs.Alone.{no_loss, one_loss}
use Rattle.process_model.specs.Follows.{Only, Sides}
use Rattle.process_model.proofs.Quiet.{quiets_none}
use Rattle.process_ways.specs.Ways.{Hold, Does, Way}

module _ {K W X P Q D U M A H : Type 0} (s : Sides K W X P Q D U M A H) (place : Q → ℕ) where
  -- what holds then may be less
  pub does_less : (B C : K → X → P → Q → Type 0) → ((k : K) (x : X) (r : P) (q : Q) → B k x r q → C k x r q) → (at : ℕ) (k : K) (i : ℕ) (w : W) (x : X) (p : P) (e : Effect X Q U M H) → Does s place B at k i w x p e → Does s place C at k i w x p e
  does_less B C less at k i w x p (Went x' q) d = record {
    now = d.now;
    changes = d.changes;
    steps = d.steps;
    world = d.world;
    after = d.after;
    burst = d.burst;
    worlds = d.worlds;
    pace = d.pace;
    then_so = less d.now x' d.after q d.then_so;
  }
  does_less B C less at k i w x p (Parks x' cs q) d = d
  does_less B C less at k i w x p (Polls x' cs q q') d = d
  does_less B C less at k i w x p (Spawns x' child q) d = d
  does_less B C less at k i w x p (Asks x' m q) d = d
  does_less B C less at k i w x p (Ends x' how) d = d

  -- A way begins with one instruction more, where something is said of the machine's process that others don't change, from which
  -- the two hold the same, and from which the instruction leads to the way that is left.
  pub way_on : (n i : ℕ) (p : P) (A : K → X → Q → Type 0) (B : K → X → P → Q → Type 0)
      → ((k now : K) (x y : X) (q : Q) → A k x q → s.leaves i k now x y → Hold s place now i y p q → A now y q)
      → ((k : K) (x : X) (q : Q) → A k x q → Hold s place k i x p q)
      → ((k : K) (w : W) (x : X) (q : Q) → A k x q → s.worlds k w x → Does s place B (place q) k i w x p (s.code.step x q))
      → ((k : K) (x : X) (r : P) (q : Q) → B k x r q → Way s place n k i x r q)
      → (k : K) (x : X) (q : Q) → A k x q → Way s place (suc n) k i x p q
  way_on n i p A B kept held does rest k x q a = (
    held k x q a,
    λ now y w l h e. does_less B (λ l z r t. Way s place n l i z r t) rest (place q) now i w y p (s.code.step y q) (does now w y q (kept k now x y q a l h) e),
  )

  module _ (B : K → X → P → Q → Type 0) (k now : K) (i : ℕ) (w : W) (x x' : X) (p : P) (q q' : Q) (step : s.code.step x q ≡ Went x' q') (changes : s.changes (Only i) k now x x') where
    -- the machine's process went on, and the source took no step
    pub silent : s.worlds now w x' → place q < place q' → B now x' p q' → Does s place B (place q) k i w x p (s.code.step x q)
    silent worlds more then = subst (λ e. Does s place B (place q) k i w x p e) (sym step) (record {
      now = now;
      changes = changes;
      steps = 0;
      world = w;
      after = p;
      burst = no_loss (quiets_none s.program s.naming w p);
      worlds = worlds;
      pace = λ z. more;
      then_so = then;
    })

    -- it did, and the source took one
    pub stepped : (w' : W) (p' : P) → s.program.step w p ≡ Went w' p' → s.worlds now w' x' → B now x' p' q' → Does s place B (place q) k i w x p (s.code.step x q)
    stepped w' p' does worlds then = subst (λ e. Does s place B (place q) k i w x p e) (sym step) (record {
      now = now;
      changes = changes;
      steps = 1;
      world = w';
      after = p';
      burst = one_loss (quiets_none s.program s.naming w p) does;
      worlds = worlds;
      pace = λ z. absurd (omega arith);
      then_so = then;
    })
