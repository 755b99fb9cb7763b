-- Two passes of a compiler, one after the other: from a source to a middle code over one heap, and from the middle code to a
-- machine with a heap of its own. `through` joins the source to the machine.
use Rattle.std.specs.Prelude.{ℕ, ◌≡◌, ◌*◌}
use Rattle.process_model.specs.Naming.{Still}
use Rattle.process_model.specs.Follows.{Sides, Follows}
use Rattle.process_model.specs.Law.{EveryJournal}
use Rattle.process_model.specs.Plain.{PlainSides, no_names}
use Rattle.process_model.specs.Shared.{SharedSides, SharedWaits, SharedFollows}

-- Two languages without a heap, as two over an empty one.
abbrev pub unshared : {W Y P Q D M A H : Type 0} → PlainSides W Y P Q D M A H → SharedSides W Y P Q D M A H
unshared s = record {
  program = s.program;
  naming = no_names;
  code = s.code;
  code_naming = no_names;
  ready = s.ready;
  asking = s.asking;
  worlds = s.worlds;
}

-- The source of the first pass and the machine of the second, which are related where some middle code stands between them. The
-- map, and what is held, changed and left, are those of the second pass.
abbrev pub through : {K W Y X P Q R D U M A H : Type 0} →
    SharedSides W Y P Q D M A H → Sides K Y X Q R D U M A H → Sides K W X P R D U M A H
through {Y = Y} {Q = Q} first second = record {
  map = second.map;
  program = first.program;
  naming = first.naming;
  code = second.code;
  code_naming = second.code_naming;
  ready = λ k i x p r. (q : Q) × first.ready p q × second.ready k i x q r;
  asking = λ k i x p r. (q : Q) × first.asking p q × second.asking k i x q r;
  waiting = λ k i x bs cs p r. (q : Q) × SharedWaits first bs p q × second.waiting k i x bs cs q r;
  worlds = λ k w x. (y : Y) × first.worlds w y × second.worlds k y x;
  holds = second.holds;
  changes = second.changes;
  leaves = second.leaves;
}

module _ {K W Y X P Q R D U M A H : Type 0} (first : SharedSides W Y P Q D M A H) (second : Sides K Y X Q R D U M A H) where
  -- What two passes owe one another: the code of the first is the program of the second, with the same names; and the machine's
  -- process tells how far along the middle code is, which counts where the source takes no step.
  pub record Chained (f1 : SharedFollows first) : Type 0 where
    pub middle : second.program ≡ first.code
    pub names : second.naming ≡ first.code_naming
    pub under : R → ℕ
    pub tells : (k : K) (i : ℕ) (x : X) (q : Q) (r : R) → second.ready k i x q r → under r ≡ f1.place q

  -- The machine follows the source, and at this bound.
  pub record FollowsWithin (bound : ℕ) : Type 0 where
    pub follows : Follows (through first second)
    pub pace : follows.bound ≡ bound

  -- So it is where each of the two passes follows: the bound is the product of theirs.
  abbrev pub PassesCompose : Type 0
  PassesCompose = (f1 : SharedFollows first) (f2 : Follows second) → Chained f1 → FollowsWithin (f1.bound * f2.bound)

  -- Every journal of the machine is then a run of the source, through the map of the second pass and at that pace, where nothing
  -- is there at the opening that nobody names.
  abbrev pub PassesKeepJournals : Type 0
  PassesKeepJournals =
      (f1 : SharedFollows first) (f2 : Follows second) → Chained f1 →
      (k : K) (w : W) (y : Y) (x : X) (p : P) (q : Q) (r : R) →
      first.ready p q → second.ready k 0 x q r → first.worlds w y → second.worlds k y x →
      Still first.naming (first.naming.names p) w →
      EveryJournal (through first second) k w x p r (f1.bound * f2.bound)
