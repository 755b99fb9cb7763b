-- A middle code that takes two steps for one of its source, and a machine whose process doesn't tell which of the two comes next. So
-- `passes_compose` says nothing of the two passes, and yet every journal of the machine is a run of the source.
use Rattle.std.proofs.Common.{◌≡◌, ℕ, ◌<◌, None, refl, arith}
use Rattle.process_model.specs.Process.{Went, Ends, Rules}
use Rattle.process_model.specs.Alone.{here, on}
use Rattle.process_model.specs.Law.{EveryJournal}
use Rattle.process_model.specs.Plain.{PlainSides, lifted, PlainMatches, PlainFollows}
use Rattle.process_model.specs.Passes.{unshared, through, Chained}
use Rattle.process_model.proofs.Lifted.{plain_follows}
use Rattle.process_model.proofs.Unshared.{plain_shared}
use Rattle.process_runs.proofs.Composed.{journals_composed}

data Half : Type 0 where
  Early : Half
  Late : Half

abbrev other : Half → Half
other Early = Late
other Late = Early

-- Nothing is said or asked: a process goes on, and on.
abbrev going : {P : Type 0} → (P → P) → Rules ℕ P ℕ ℕ ℕ ℕ
going next = record { step = λ w p. Went w (next p); wake = λ k v w p. record { world = w; process = p }; answer = λ a w p. Ends w 0; down = λ l w. None }

abbrev steady : Unit {0} → Unit {0}
steady p = p

abbrev first : PlainSides ℕ ℕ (Unit {0}) Half ℕ ℕ ℕ ℕ
first = record { program = going steady; code = going other; ready = λ p q. Unit {0}; asking = λ p q. ⊥; worlds = λ w y. w ≡ y }

abbrev second : PlainSides ℕ ℕ Half (Unit {0}) ℕ ℕ ℕ ℕ
second = record { program = going other; code = going steady; ready = λ q r. Unit {0}; asking = λ q r. ⊥; worlds = λ y x. y ≡ x }

abbrev place : Half → ℕ
place Early = 0
place Late = 1

within : (q : Half) → place q < 2
within Early = omega arith
within Late = omega arith

each : (w y : ℕ) (p : Unit {0}) (q : Half) → w ≡ y → PlainMatches first place (place q) w p (Went y (other q))
each w y p Early e = record { steps = 0; world = w; after = p; goes = here; related = tt; worlds = e; pace = λ z. omega arith }
each w y p Late e = record { steps = 1; world = w; after = p; goes = on refl here; related = tt; worlds = e; pace = λ z. absurd (omega arith) }

unfoldable first_follows : PlainFollows first
first_follows = record {
  place = place;
  bound = 2;
  some = omega arith;
  within = λ p q r. within q;
  each = λ w y p q r e. each w y p q e;
  answers = λ a w y p q r e. absurd r;
  downs = λ l w y y' e f. absurd cc;
}

unfoldable second_follows : PlainFollows second
second_follows = record {
  place = λ r. 0;
  bound = 1;
  some = omega arith;
  within = λ q r h. omega arith;
  each = λ y x q r h e. record { steps = 1; world = y; after = other q; goes = on refl here; related = tt; worlds = e; pace = λ z. absurd (omega arith) };
  answers = λ a y x q r h e. absurd h;
  downs = λ l y x x' e f. absurd cc;
}

-- No number of the machine's process is the middle code's place.
untold : Chained (unshared first) (lifted second) (plain_shared first first_follows) → ⊥
unfolding first_follows
untold c =
    let early : c.under tt ≡ 0 = c.tells tt 0 0 Early tt tt in
    let late : c.under tt ≡ 1 = c.tells tt 0 0 Late tt tt in
    absurd (omega (arith, early, late))

-- Each journal of the machine is a run of the source, and at most one instruction passes without a step.
law : EveryJournal (through (unshared first) (lifted second)) tt 0 0 tt tt 2
unfolding first_follows second_follows plain_follows
law = journals_composed (unshared first) (lifted second) (plain_shared first first_follows) (plain_follows second second_follows) refl refl
    tt 0 0 0 tt Early tt tt tt refl refl (record { kept = refl; none = refl })
