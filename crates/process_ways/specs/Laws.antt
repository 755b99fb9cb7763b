-- The law of ways.
use Rattle.std.specs.Prelude.{ℕ, ◌≡◌}
use Rattle.process_model.specs.Follows.{Sides, Follows}
use Rattle.process_ways.specs.Ways.{with_ways, Steps}

module _ {K W X P Q D U M A H : Type 0} (s : Sides K W X P Q D U M A H) (place : Q → ℕ) where
  -- The machine follows the source where processes stand alike also on their way, within this bound, by these places.
  pub record FollowsBy (bound : ℕ) : Type 0 where
    pub follows : Follows (with_ways s place)
    pub pace : follows.bound ≡ bound
    pub places : follows.place ≡ place

  -- So it is where from each place where the two stand alike there is a way to one where they do again.
  abbrev pub WaysFollow : Type 0
  WaysFollow = (steps : Steps s place) → FollowsBy steps.bound
