-- Instructions that go on where they do anything, as they are told.
use Rattle.std.proofs.Common.{◌≡◌, sym, subst}
use Rattle.std.specs.Prelude.{Result, Ok, Err, IfOk, OnErr}
use Rattle.dis_meaning.specs.Words.{Access}
use Rattle.dis_memory.specs.Process.{Does}
use Rattle.dis_places.specs.declared.fault.Halt.{Halt}
use Rattle.dis_places.specs.declared.memory.Memory.{Memory}
use Rattle.dis_places.specs.declared.process.Process.{Process}
use Rattle.dis_results.specs.Going.{Goes}
use Rattle.dis_calls.specs.declared.outcome.Does as code_does
use Rattle.dis_calls.specs.Coming.{ends, Comes, LeftAlone, Stays}
use Rattle.dis_steps.specs.Stepping.{went_of}

module _ (m m' : Memory) (p p' : Process) (r : Result (Unit {0}) Halt) (d : Result code_does.Does Halt) (told : d ≡ went_of r) where
  went_comes : (a : Access Does) (r : Result (Unit {0}) Halt) → Goes m p r a m' p' → Comes m p (went_of r) a m' p'
  went_comes a (Ok u) h = h
  went_comes a (Err e) h = h

  -- The same, told in other words.
  pub comes_by : (a b : Access Does) → b ≡ a → Goes m p r a m' p' → Comes m p d b m' p'
  comes_by a b e h =
      let By : Result code_does.Does Halt → Type 0 = λ d. Comes m p d b m' p' in
      let Of : Access Does → Type 0 = λ a. Goes m p r a m' p' in
      subst By (sym told) (went_comes b r (subst Of (sym e) h))

  pub left_by : OnErr r (LeftAlone m p m' p') → OnErr d (LeftAlone m p m' p')
  left_by h = let By : Result code_does.Does Halt → Type 0 = λ d. OnErr d (LeftAlone m p m' p') in subst By (sym told) (go r h)
    where
      go : (r : Result (Unit {0}) Halt) → OnErr r (LeftAlone m p m' p') → OnErr (went_of r) (LeftAlone m p m' p')
      go (Ok u) h = h
      go (Err e) h = h

  pub stays_by : IfOk d (λ d. Stays (ends d) m p m' p')
  stays_by = let By : Result code_does.Does Halt → Type 0 = λ d. IfOk d (λ d. Stays (ends d) m p m' p') in subst By (sym told) (go r)
    where
      go : (r : Result (Unit {0}) Halt) → IfOk (went_of r) (λ d. Stays (ends d) m p m' p')
      go (Ok u) = tt
      go (Err e) = tt

module _ (m m' : Memory) (p p' : Process) where
  -- What comes to something, told in other words.
  pub comes_same : (d : Result code_does.Does Halt) (a b : Access Does) → b ≡ a → Comes m p d a m' p' → Comes m p d b m' p'
  comes_same d a b e h = let Of : Access Does → Type 0 = λ a. Comes m p d a m' p' in subst Of (sym e) h
