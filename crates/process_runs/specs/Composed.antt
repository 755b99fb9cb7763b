-- Two passes of a compiler, one after the other, by their runs: the machine's journal is a run of the middle code, and that one of the
-- source. Nothing is asked of what the machine's process tells of the middle code's.
use Rattle.std.specs.Prelude.{◌≡◌, ◌*◌}
use Rattle.process_model.specs.Naming.{Still}
use Rattle.process_model.specs.Follows.{Sides, Follows}
use Rattle.process_model.specs.Law.{EveryJournal}
use Rattle.process_model.specs.Shared.{SharedSides, SharedFollows}
use Rattle.process_model.specs.Passes.{through}

module _ {K W Y X P Q R D U M A H : Type 0} (first : SharedSides W Y P Q D M A H) (second : Sides K Y X Q R D U M A H) where
  -- Where the middle code follows the source and the machine the middle code, the code of the first pass being the program of the
  -- second, with the same names, every journal of the machine is a run of the source, through the map of the second pass. As many of
  -- the machine's instructions may pass without a step as the product of the two bounds allows.
  abbrev pub JournalsComposed : Type 0
  JournalsComposed =
      (f1 : SharedFollows first) (f2 : Follows second) → second.program ≡ first.code → second.naming ≡ first.code_naming →
      (k : K) (w : W) (y : Y) (x : X) (p : P) (q : Q) (r : R) →
      first.ready p q → second.ready k 0 x q r → first.worlds w y → second.worlds k y x →
      Still first.naming (first.naming.names p) w →
      EveryJournal (through first second) k w x p r (f1.bound * f2.bound)
