-- Processes of a machine on their way between two places where they stand for one of the source. One step of the source may be
-- several of the machine's, and other processes may step in between; so all that is said of a process on its way is said such
-- that it holds whatever the others do meanwhile.
use Rattle.std.specs.Prelude.{ℕ, zero, suc, ◌≡◌, ◌<◌, true, List, Some, slice_get}
use Rattle.process_model.specs.Process.{Branch, Effect, Went, Doing, both_wake, fits}
use Rattle.process_model.specs.Naming.{names}
use Rattle.process_model.specs.Alone.{Burst}
use Rattle.process_model.specs.Renaming.{SameTable}
use Rattle.process_model.specs.Follows.{Only, Sides, StandsAlike, Heaps, Matches, MatchesReply, Losing, GoneOn}

module _ {K W X P Q D U M A H : Type 0} (s : Sides K W X P Q D U M A H) (place : Q → ℕ) where
  -- Two processes that are ready hold the same: what the one names is what the other refers to, and no block of others.
  abbrev pub Hold : K → ℕ → X → P → Q → Type 0
  Hold k i x p q = s.holds k (Only i) x (s.naming.names p) (s.code_naming.names q)

  -- The machine went on: the source took so many steps, all quiet but the last. If it took none, the machine's place rose from
  -- what it was. Of the map and of the source's process as they are then, this holds.
  pub record Onward (at : ℕ) (k : K) (i : ℕ) (w : W) (x : X) (p : P) (x' : X) (q : Q) (then : K → P → Type 0) : Type 0 where
    pub now : K
    pub changes : s.changes (Only i) k now x x'
    pub steps : ℕ
    pub world : W
    pub after : P
    pub burst : Burst s.program s.naming steps w p world after
    pub worlds : s.worlds now world x'
    pub pace : steps ≡ 0 → at < place q
    pub then_so : then now after

  -- The source does, after some steps, what the machine does. Where both went on, this holds of them then; where they did anything
  -- else, they stand alike then.
  abbrev pub Does : (K → X → P → Q → Type 0) → ℕ → K → ℕ → W → X → P → Effect X Q U M H → Type 0
  Does then at k i w x p (Went x' q) = Onward at k i w x p x' q (λ now after. then now x' after q)
  Does then at k i w x p e = Matches s place at k i w x p e

  -- The machine's process is so many instructions in front of a place where the two stand alike: they hold the same, and from
  -- whatever other processes leave it, as long as the two still hold the same, its next instruction leads to where it is one less.
  abbrev pub Way : ℕ → K → ℕ → X → P → Q → Type 0
  Way zero k i x p q = s.ready k i x p q
  Way (suc n) k i x p q =
      Hold k i x p q
      × ((now : K) (y : X) (w : W) → s.leaves i k now x y → Hold now i y p q → s.worlds now w y →
      Does (λ l z r t. Way n l i z r t) (place q) now i w y p (s.code.step y q))

  -- The two sides, where processes that are ready stand alike also on their way.
  abbrev pub with_ways : Sides K W X P Q D U M A H
  with_ways = record {
    map = s.map;
    program = s.program;
    naming = s.naming;
    code = s.code;
    code_naming = s.code_naming;
    ready = λ k i x p q. (n : ℕ) × Way n k i x p q;
    asking = s.asking;
    waiting = s.waiting;
    worlds = s.worlds;
    holds = s.holds;
    changes = s.changes;
    leaves = s.leaves;
  }

  -- What is to be proved of two languages where one step of the source is several instructions of the machine's: what `Follows`
  -- asks, but that from where two that are ready stand alike, the machine's process is on its way to where they do again, also behind
  -- a reply and behind a meeting; and that what others leave to a process may be that nothing changes, and adds up.
  pub record Steps : Type 0 where
    pub heaps : Heaps s
    pub same : (i : ℕ) (k : K) (x : X) → s.leaves i k k x x
    pub on : (i : ℕ) (a b c : K) (x y z : X) → s.leaves i a b x y → s.leaves i b c y z → s.leaves i a c x z
    pub table : (k : K) (i : ℕ) (x : X) (bs : List (Branch D)) (cs : List (Branch U)) (p : P) (q : Q) →
        s.waiting k i x bs cs p q → SameTable s.map k bs cs
    pub rooted : (k : K) (i : ℕ) (x : X) (d : Doing P D) (e : Doing Q U) → StandsAlike s k i x (Some d) (Some e) →
        s.holds k (Only i) x (names s.naming d) (names s.code_naming e)
    pub keeps : (k now : K) (i : ℕ) (x x' : X) (d : Doing P D) (e : Doing Q U) → StandsAlike s k i x (Some d) (Some e) →
        s.leaves i k now x x' → s.holds now (Only i) x' (names s.naming d) (names s.code_naming e) →
        StandsAlike s now i x' (Some d) (Some e)
    pub bound : ℕ
    pub some : 0 < bound
    pub within : (q : Q) → place q < bound
    pub each : (k : K) (i : ℕ) (x : X) (p : P) (q : Q) → s.ready k i x p q → (n : ℕ) × Way (suc n) k i x p q
    pub answers : (k : K) (i : ℕ) (a : A) (w : W) (x : X) (p : P) (q : Q) →
        s.asking k i x p q → s.worlds k w x → MatchesReply with_ways k i x (s.program.answer a w p) (s.code.answer a x q)
    pub downs : (k : K) (l : ℕ) (w : W) (x x' : X) → s.worlds k w x → s.code.down l x ≡ Some x' → Losing s k l w x x'
    pub meets : (k : K) (i j : ℕ) (w : W) (x : X)
        (bs : List (Branch D)) (cs : List (Branch U)) (p : P) (q : Q) (n : ℕ) (a : Branch D) (a' : Branch U)
        (bs' : List (Branch D)) (cs' : List (Branch U)) (p' : P) (q' : Q) (l : ℕ) (b : Branch D) (b' : Branch U) →
        (j ≡ i → ⊥) → s.waiting k i x bs cs p q → slice_get bs n ≡ Some a → slice_get cs n ≡ Some a' →
        s.waiting k j x bs' cs' p' q' → slice_get bs' l ≡ Some b → slice_get cs' l ≡ Some b' → fits a b ≡ true → s.worlds k w x →
        GoneOn with_ways k i j x (both_wake s.program w n a p l b p') (both_wake s.code x n a' q l b' q')
