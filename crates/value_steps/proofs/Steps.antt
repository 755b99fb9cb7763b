-- What `Steps` asks of two sides, of rows that lead.
use Rattle.std.proofs.Common.{ℕ, Some, arith}
use Rattle.process_model.specs.Process.{Doing, Ready as Readies, Waiting, Asking as Asks, Gone}
use Rattle.process_model.specs.Naming.{names}
use Rattle.process_model.specs.Follows.{Only, StandsAlike}
use Rattle.process_ways.specs.Ways.{Steps}
use Rattle.process_ways.proofs.Follows.{ways_follow}
use Rattle.limbo_typed.specs.Typed as typed
use Rattle.system_model.specs.Values as system
use Rattle.limbo_meaning.specs.Values as source
use Rattle.core_code.specs.Machine as code
use Rattle.dis_meaning.specs.Process.{Process}
use Rattle.dis_memory.specs.Blocks.{World}
use Rattle.value_words.specs.Facts.{Facts}
use Rattle.value_follows.specs.Sides.{sides}
use Rattle.value_follows.specs.Rows.{place, bound}
use Rattle.value_follows.proofs.Kept.{stands_keep}
use Rattle.value_follows.proofs.Paces.{places_are}
use Rattle.value_bases.proofs.Bases.{bases_hold}
use Rattle.rows_calling.proofs.Replies.{replies_go}
use Rattle.value_steps.specs.Steps.{RowsLead, RowsFollow}

module _ (m : typed.Module) where
  rooted : (k : Facts) (i : ℕ) (x : World) (d : Doing code.Process source.Value)
      (e : Doing Process system.Value) → StandsAlike (sides m) k i x (Some d) (Some e)
      → (sides m).holds k (Only i) x (names (sides m).naming d) (names (sides m).code_naming e)
  rooted k i x (Readies p) (Readies q) s = s.1
  rooted k i x (Asks p) (Asks q) s = s.1
  rooted k i x Gone Gone s = (stands_keep m).heaps.held_none k (Only i) x
  rooted k i x (Waiting bs p) (Waiting cs q) s = absurd s
  rooted k i x d e s = absurd s

  keeps : (k now : Facts) (i : ℕ) (x y : World) (d : Doing code.Process source.Value)
      (e : Doing Process system.Value) → StandsAlike (sides m) k i x (Some d) (Some e)
      → (sides m).leaves i k now x y → (sides m).holds now (Only i) y (names (sides m).naming d) (names (sides m).code_naming e)
      → StandsAlike (sides m) now i y (Some d) (Some e)
  keeps k now i x y (Readies p) (Readies q) s left holds =
      (((bases_hold m).ready_later k now i x y p q s.0 left holds).0, holds)
  keeps k now i x y (Asks p) (Asks q) s left holds =
      let there = (stands_keep m).asking_held k now i x y p q s.0 left.0 (code.process_names p) holds holds.same.live in
      (((stands_keep m).asking_later k now i x y p q s.0 left.0 left.1 there).after, holds)
  keeps k now i x y Gone Gone s left holds = s
  keeps k now i x y (Waiting bs p) (Waiting cs q) s left holds = absurd s
  keeps k now i x y d e s left holds = absurd s

  abbrev steps : RowsLead m → Steps (sides m) (place m)
  steps lead = record {
    heaps = (stands_keep m).heaps;
    same = (stands_keep m).leaves_same;
    on = (stands_keep m).leaves_on;
    table = (stands_keep m).table;
    rooted = rooted;
    keeps = keeps;
    bound = bound m;
    some = omega arith;
    within = (places_are m).bounded;
    each = lead;
    answers = λ k i a w x p q asking worlds. replies_go m (bases_hold m) k i a w x p q asking worlds;
    downs = (stands_keep m).downs;
    meets = (stands_keep m).meets (place m);
  }

pub rows_follow : RowsFollow
rows_follow m lead = ways_follow (sides m) (place m) (steps m lead)
