-- When a block goes, and that it is told once.
use Rattle.std.specs.Prelude.{ℕ, suc, ◌+◌, ◌≡◌, ◌≤◌, ◌<◌, List, [], ◌∷◌, Some, nat_eq, if◌then◌else◌}
use Rattle.styx_msg.specs.declared.message.Rmsg.{Rmsg}
use Rattle.process_model.specs.Process.{Entry, Released}
use Rattle.process_model.specs.Machine.{Event, turns, replay}
use Rattle.dis_file.specs.declared.object.Object.{Object}
use Rattle.system_model.specs.Ending.{Ending}
use Rattle.system_model.specs.Prints.{Request}
use Rattle.system_model.specs.Values.{Value}
use Rattle.dis_meaning.specs.Words.{Found}
use Rattle.dis_memory.specs.Naming.{naming, count}
use Rattle.dis_memory.specs.Rules.{rules}
use Rattle.dis_memory.specs.Sound.{IsThere}
use Rattle.dis_counts.specs.Counts.{Machine, CountsAreExact, begun}
use Rattle.dis_counts.specs.Opening.{Opened, opened}

-- How often a block is among these, and how often a trace tells that it went.
abbrev pub times : (serial : ℕ) → List ℕ → ℕ
times n [] = 0
times n (m ∷ ms) = (if nat_eq m n then 1 else 0) + times n ms

abbrev pub goings_in : (serial : ℕ) → Entry Value Request Rmsg Ending → ℕ
goings_in n (Released i ns) = times n ns
goings_in n _ = 0

abbrev pub goings : (serial : ℕ) → List (Entry Value Request Rmsg Ending) → ℕ
goings n [] = 0
goings n (e ∷ es) = goings_in n e + goings n es

-- A block that was there before an instruction goes with its last reference: it is told to go by that instruction where its count is 0
-- behind it, and else isn't.
pub record GoesWithItsLast (s t : Machine) (n : ℕ) : Type 0 where
  pub goes : count t.world t.processes n ≡ 0 → goings n t.trace ≡ suc (goings n s.trace)
  pub stays : 0 < count t.world t.processes n → goings n t.trace ≡ goings n s.trace

abbrev pub LastReferencesRelease : Type 0
LastReferencesRelease =
    (limit : ℕ) (objects : List Object) (s t : Machine) (i : ℕ) → CountsAreExact s →
    turns (rules limit objects) naming i 1 s ≡ Some t →
    (n : ℕ) → IsThere s.world n → GoesWithItsLast s t n

-- Between two states of a run, the first of them earlier: a block is told to go at most once so far; one that is there isn't; and one that
-- was there and isn't any more is.
pub record GoesOnce (s t : Machine) (n : ℕ) : Type 0 where
  pub once : goings n t.trace ≤ 1
  pub there : IsThere t.world n → goings n t.trace ≡ 0
  pub gone : IsThere s.world n → (IsThere t.world n → ⊥) → goings n t.trace ≡ 1

abbrev pub EachGoesOnce : Type 0
EachGoesOnce =
    (limit longest : ℕ) (o : Object) (others : List Object) (m : Opened) → opened o ≡ Found m →
    (journal more : List (Event Rmsg)) (s t : Machine) →
    replay (rules limit (o ∷ others)) naming longest (begun m) journal ≡ Some s →
    replay (rules limit (o ∷ others)) naming longest s more ≡ Some t →
    (n : ℕ) → GoesOnce s t n
