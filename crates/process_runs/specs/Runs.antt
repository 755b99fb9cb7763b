-- Runs of a middle code over one heap, each of which has a run of its source beside it. As in every source language any two processes
-- that fit may meet, in the middle code as in its source: they meet alike.
use Rattle.std.specs.Prelude.{ℕ, ◌≡◌, List, Option, Some, None, slice_get}
use Rattle.process_model.specs.Process.{Doing, Ready, Waiting, Asking, Gone, Rules}
use Rattle.process_model.specs.Naming.{Naming, Still, total}
use Rattle.process_model.specs.Source.{Config, Turn, Matched, begun, turn, down, reply}
use Rattle.process_model.specs.Law.{makers, begins}
use Rattle.process_model.specs.Shared.{SharedSides, SharedWaits, SharedFollows}
use Rattle.process_runs.specs.Pace.{KeepsUp}

module _ {W P D M A H : Type 0} (rules : Rules W P D M A H) (naming : Naming W P D) where
  -- Wherever a link was lost in a run, the world had nothing to lose behind that where it had nothing to lose before, however much was
  -- named.
  abbrev pub Calm : {c d : Config W P D M A H} {ts : List Turn} → Matched rules naming c ts d → Type 0
  Calm begun = Unit {0}
  Calm (turn i n before run) = Calm before
  Calm (down {d = d} l w before does) = Calm before × ((named : ℕ → ℕ) → Still naming named d.world → Still naming named w)
  Calm (reply i a before hears) = Calm before

module _ {W Y P Q D M A H : Type 0} (s : SharedSides W Y P Q D M A H) where
  -- Two processes, or two places where none is, are alike: if both wait, then with the same table.
  abbrev pub Alike : Option (Doing P D) → Option (Doing Q D) → Type 0
  Alike None None = Unit {0}
  Alike (Some (Ready p)) (Some (Ready q)) = s.ready p q
  Alike (Some (Waiting bs p)) (Some (Waiting cs q)) = (bs ≡ cs) × SharedWaits s cs p q
  Alike (Some (Asking p)) (Some (Asking q)) = s.asking p q
  Alike (Some Gone) (Some Gone) = Unit {0}
  Alike _ _ = ⊥

  -- All processes are alike, and the worlds; the same was told; and nothing is there that nobody names.
  pub record Paired (c : Config W P D M A H) (d : Config Y Q D M A H) : Type 0 where
    pub processes : (j : ℕ) → Alike (slice_get c.processes j) (slice_get d.processes j)
    pub worlds : s.worlds c.world d.world
    pub trace : c.trace ≡ d.trace
    pub still : Still s.naming (total s.naming c.processes) c.world

  -- A run of the source beside one of the middle code, from this configuration: nothing goes in it where a link is lost; turn by turn
  -- the same process is on, and the source keeps up; and at the end the two are paired.
  pub record RunBeside (start : Config W P D M A H) (bound : ℕ) (ts : List Turn) (d : Config Y Q D M A H) : Type 0 where
    pub turns : List Turn
    pub config : Config W P D M A H
    pub run : Matched s.program s.naming start turns config
    pub calm : Calm s.program s.naming run
    pub makers : makers turns ≡ makers ts
    pub keeps_up : KeepsUp bound (λ j. 0) turns ts
    pub paired : Paired config d

  -- Each run of the middle code that begins alike has one, if nothing goes in it where a link is lost.
  abbrev pub RunsFollow : Type 0
  RunsFollow =
      (f : SharedFollows s) (c : Config W P D M A H) (d e : Config Y Q D M A H) (ts : List Turn) → Paired c d →
      (run : Matched s.code s.code_naming d ts e) → Calm s.code s.code_naming run → RunBeside c f.bound ts e

  -- Two openings are paired, where nothing is there at the source's that nobody names.
  abbrev pub OpeningsPair : Type 0
  OpeningsPair =
      (w : W) (y : Y) (p : P) (q : Q) → s.ready p q → s.worlds w y → Still s.naming (s.naming.names p) w →
      Paired (begins w p) (begins y q)

  -- Nothing ever goes in the middle code as a link is lost.
  abbrev pub LosesQuietly : Type 0
  LosesQuietly =
      (l : ℕ) (y y' : Y) → s.code.down l y ≡ Some y' →
      (named : ℕ → ℕ) → Still s.code_naming named y → Still s.code_naming named y'

  -- Then nothing does in any run.
  abbrev pub RunsAreCalm : Type 0
  RunsAreCalm =
      LosesQuietly → (d e : Config Y Q D M A H) (ts : List Turn) (run : Matched s.code s.code_naming d ts e) →
      Calm s.code s.code_naming run
