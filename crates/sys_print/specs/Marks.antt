-- Which tags are taken, told for as many as there are requests: one of these or the next is free.
use Rattle.std.specs.Prelude.{ℕ, ◌≡◌, ◌<◌, Bool, List, length, Some, slice_get}
use Rattle.system_model.specs.World.{is_among}

pub record AreMarks (waiting : List ℕ) (marks : List Bool) : Type 0 where
  pub long : length marks ≡ length waiting
  pub each : (tag : ℕ) → tag < length waiting → slice_get marks tag ≡ Some (is_among tag waiting)
