-- The law: where there are ways, the machine follows.
use Rattle.std.proofs.Common.{ℕ, zero, suc, refl, Some}
use Rattle.process_model.specs.Process.{Effect, Went, Parks, Polls, Spawns, Asks, Ends, Doing, Ready, Waiting, Asking, Gone}
use Rattle.process_model.specs.Naming.{names}
use Rattle.process_model.specs.Follows.{Only, Sides, StandsAlike, Heaps, Matches, Losing, Follows}
use Rattle.process_ways.specs.Ways.{Hold, Does, Way, with_ways, Steps}
use Rattle.process_ways.specs.Laws.{WaysFollow}

module _ {K W X P Q D U M A H : Type 0} (s : Sides K W X P Q D U M A H) (place : Q → ℕ) where
  -- the heaps are the same
  heaps_too : Heaps s → Heaps (with_ways s place)
  heaps_too h = record {
    link = h.link;
    grown = h.grown;
    left = h.left;
    held_none = h.held_none;
    held_both = h.held_both;
    held_wide = h.held_wide;
    held_on = h.held_on;
    cuts = λ k w x named referred e held.
        let c = h.cuts k w x named referred e held in
        record { now = c.now; grown = c.grown; worlds = c.worlds; released = c.released; left = c.left; held = c.held };
    still = h.still;
  }

  -- an instruction that leads on is one at which the source does what the machine does
  goes_on : (n at : ℕ) (k : K) (i : ℕ) (w : W) (x : X) (p : P) (e : Effect X Q U M H) → Does s place (λ l z r t. Way s place n l i z r t) at k i w x p e → Matches (with_ways s place) place at k i w x p e
  goes_on n at k i w x p (Went x' q) d = record {
    now = d.now;
    changes = d.changes;
    steps = d.steps;
    world = d.world;
    after = d.after;
    burst = d.burst;
    related = (n, d.then_so);
    worlds = d.worlds;
    pace = d.pace;
  }
  goes_on n at k i w x p (Parks x' cs q) d = record {
    now = d.now;
    changes = d.changes;
    world = d.world;
    branches = d.branches;
    after = d.after;
    comes = d.comes;
    quiet = d.quiet;
    related = d.related;
    worlds = d.worlds;
  }
  goes_on n at k i w x p (Polls x' cs q q') d = record {
    now = d.now;
    changes = d.changes;
    world = d.world;
    branches = d.branches;
    after = d.after;
    by_itself = d.by_itself;
    comes = d.comes;
    related = d.related;
    alone = (0, d.alone);
    worlds = d.worlds;
  }
  goes_on n at k i w x p (Spawns x' child q) d = record {
    now = d.now;
    changes = d.changes;
    world = d.world;
    own = d.own;
    after = d.after;
    comes = d.comes;
    related_child = λ j. (0, d.related_child j);
    related = (0, d.related);
    worlds = d.worlds;
  }
  goes_on n at k i w x p (Asks x' m q) d = record {
    now = d.now;
    changes = d.changes;
    world = d.world;
    after = d.after;
    comes = d.comes;
    related = d.related;
    worlds = d.worlds;
  }
  goes_on n at k i w x p (Ends x' how) d = record { now = d.now; changes = d.changes; world = d.world; comes = d.comes; worlds = d.worlds }

  loses : (k : K) (l : ℕ) (w : W) (x x' : X) → Losing s k l w x x' → Losing (with_ways s place) k l w x x'
  loses k l w x x' d = record { now = d.now; changes = d.changes; world = d.world; does = d.does; worlds = d.worlds; still = d.still }

  module _ (steps : Steps s place) where
    -- on its way a process is left where it is
    way_stays : (n : ℕ) (k now : K) (i : ℕ) (x x' : X) (p : P) (q : Q) → Way s place n k i x p q → s.leaves i k now x x' → Hold s place now i x' p q → Way s place n now i x' p q
    way_stays zero k now i x x' p q way l h = steps.keeps k now i x x' (Ready p) (Ready q) way l h
    way_stays (suc n) k now i x x' p q way l h = (h, λ late y w m g e. way.1 late y w (steps.on i k now late x x' y l m) g e)

    way_holds : (n : ℕ) (k : K) (i : ℕ) (x : X) (p : P) (q : Q) → Way s place n k i x p q → Hold s place k i x p q
    way_holds zero k i x p q way = steps.rooted k i x (Ready p) (Ready q) way
    way_holds (suc n) k i x p q way = way.0

    next_goes : (n : ℕ) (k : K) (i : ℕ) (w : W) (x : X) (p : P) (q : Q) → Way s place (suc n) k i x p q → s.worlds k w x → Matches (with_ways s place) place (place q) k i w x p (s.code.step x q)
    next_goes n k i w x p q way e = goes_on n (place q) k i w x p (s.code.step x q) (way.1 k x w (steps.same i k x) way.0 e)

    way_goes : (n : ℕ) (k : K) (i : ℕ) (w : W) (x : X) (p : P) (q : Q) → Way s place n k i x p q → s.worlds k w x → Matches (with_ways s place) place (place q) k i w x p (s.code.step x q)
    way_goes zero k i w x p q way e = let t = steps.each k i x p q way in next_goes t.0 k i w x p q t.1 e
    way_goes (suc n) k i w x p q way e = next_goes n k i w x p q way e

    rooted_too : (k : K) (i : ℕ) (x : X) (d : Doing P D) (e : Doing Q U) → StandsAlike (with_ways s place) k i x (Some d) (Some e) → s.holds k (Only i) x (names s.naming d) (names s.code_naming e)
    rooted_too k i x (Ready p) (Ready q) r = way_holds r.0 k i x p q r.1
    rooted_too k i x (Waiting bs p) (Waiting cs q) r = steps.rooted k i x (Waiting bs p) (Waiting cs q) r
    rooted_too k i x (Asking p) (Asking q) r = steps.rooted k i x (Asking p) (Asking q) r
    rooted_too k i x Gone Gone r = steps.rooted k i x Gone Gone r
    rooted_too k i x _ _ r = absurd r

    keeps_too : (k now : K) (i : ℕ) (x x' : X) (d : Doing P D) (e : Doing Q U) → StandsAlike (with_ways s place) k i x (Some d) (Some e) → s.leaves i k now x x' → s.holds now (Only i) x' (names s.naming d) (names s.code_naming e) → StandsAlike (with_ways s place) now i x' (Some d) (Some e)
    keeps_too k now i x x' (Ready p) (Ready q) r l h = (r.0, way_stays r.0 k now i x x' p q r.1 l h)
    keeps_too k now i x x' (Waiting bs p) (Waiting cs q) r l h = steps.keeps k now i x x' (Waiting bs p) (Waiting cs q) r l h
    keeps_too k now i x x' (Asking p) (Asking q) r l h = steps.keeps k now i x x' (Asking p) (Asking q) r l h
    keeps_too k now i x x' Gone Gone r l h = tt
    keeps_too k now i x x' _ _ r l h = absurd r

    unfoldable follows : Follows (with_ways s place)
    follows = record {
      heaps = heaps_too steps.heaps;
      table = steps.table;
      rooted = rooted_too;
      keeps = keeps_too;
      place = place;
      bound = steps.bound;
      some = steps.some;
      within = λ k i x p q r. steps.within q;
      each = λ k i w x p q r e. way_goes r.0 k i w x p q r.1 e;
      answers = steps.answers;
      downs = λ k l w x x' e f. loses k l w x x' (steps.downs k l w x x' e f);
      meets = steps.meets;
    }

  pub ways_follow : WaysFollow s place
  unfolding follows
  ways_follow steps = record { follows = follows steps; pace = refl; places = refl }
