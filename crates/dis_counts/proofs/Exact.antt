-- Counts are exact in every state that a run comes to.
use Rattle.std.proofs.Common.{ℕ, List, [], ◌∷◌, refl, subst, arith}
use Rattle.process_model.specs.Process.{Went, Parks, Polls, Spawns, Asks, Ends, Ready}
use Rattle.dis_file.specs.declared.object.Object.{Object}
use Rattle.dis_meaning.specs.Words.{Found, blank}
use Rattle.dis_meaning.specs.Opening.{entered}
use Rattle.dis_meaning.specs.Process.{Process}
use Rattle.dis_memory.specs.Blocks.{World}
use Rattle.dis_memory.specs.Naming.{inside, names, held}
use Rattle.dis_memory.specs.Operands.{type_of}
use Rattle.dis_memory.specs.Process.{Does}
use Rattle.dis_memory.specs.Rules.{rules}
use Rattle.dis_memory.specs.Step.{step}
use Rattle.dis_memory.specs.Control.{answer}
use Rattle.dis_memory.specs.Laws.{Grown, GrownBy}
use Rattle.dis_memory.specs.Sound.{IsClosed, NothingDangles, NothingDanglesAfter}
use Rattle.dis_memory.proofs.Fair.{nothing_goes_within}
use Rattle.dis_memory.proofs.Growing.{both, found_same}
use Rattle.dis_memory.proofs.Keeping.{nothing_comes_to_dangle}
use Rattle.dis_counts.specs.Opening.{Opened, loading, with_items, instance_of, opens}
use Rattle.dis_counts.specs.Counts.{Machine, CountsAreExact, begun, OpeningCounts, EventsKeepCounts, CountsStayExact}
use Rattle.dis_counts.proofs.Loaded.{items_fine, instance_fine}
use Rattle.dis_counts.proofs.Many.{Leaves, After, Keeps, Exact, cut_exact, turns_exact, event_exact}
use Rattle.dis_counts.proofs.Many.{journal_exact}
use Rattle.dis_counts.proofs.Named.{is_there, there_of, nothing_dangles, closed_there, process_there}
use Rattle.dis_counts.proofs.Replies.{answer_keeps, answer_grows}

module _ (limit : ℕ) (objects : List Object) where
  leaves : (x y : World) → IsClosed y → Grown x y → Leaves (rules limit objects) inside names held x y
  leaves x y c g = record {
    heap = closed_there y c;
    still = λ n e. let t = is_there x n e in there_of y n (g.there n t.0 t.1);
  }

  after : (x : World) (e : Does) → NothingDanglesAfter e → GrownBy x e → After (rules limit objects) inside names held x e
  after x (Went y q) d g = (leaves x y d.heap g, process_there y q d.process)
  after x (Parks y bs q) d g = (leaves x y d.heap g, process_there y q d.process, λ n p. absurd (omega arith))
  after x (Polls y bs q r) d g = (leaves x y d.0.heap g, process_there y q d.0.process, process_there y r d.1.process)
  after x (Spawns y child q) d g = (leaves x y d.0.heap g, process_there y child d.0.process, process_there y q d.1.process)
  after x (Asks y m q) d g = (leaves x y d.heap g, process_there y q d.process)
  after x (Ends y how) d g = leaves x y d g

  keeps : Keeps (rules limit objects) inside names held
  keeps = record {
    step = λ x p s. after x (step limit objects x p) (nothing_comes_to_dangle limit objects x p (nothing_dangles x p s))
        (nothing_goes_within limit objects x p);
    answer = λ a x p s. after x (answer a x p) (answer_keeps x p a (nothing_dangles x p s)) (answer_grows x p a);
    wake = λ k v x p. refl;
    down = λ l x. refl;
  }

  abbrev Counted : Machine → Type 0
  Counted s = Exact (rules limit objects) inside names held s.world s.processes

  to : (s : Machine) → CountsAreExact s → Counted s
  to s c = record { counted = λ n e. (c n).0 (is_there s.world n e); is_there = λ n p. there_of s.world n ((c n).1 p) }

  back : (s : Machine) → Counted s → CountsAreExact s
  back s e n = (λ t. e.counted n (there_of s.world n t), λ p. is_there s.world n (e.is_there n p))

pub opening_counts : OpeningCounts
opening_counts o m e =
    let h = both (type_of o 0) _ m e in
    let g = both (type_of o o.entry_type) _ m h.then in
    let f = both (with_items o (loading (instance_of h.first) (record { serial = 0; from = 0 }) []) o.items)
    (λ l. Found (opens l.world (entered o (blank g.first)))) m g.then in
    subst (λ (m : Opened). CountsAreExact (begun m)) (found_same _ m f.then)
    (go f.first.world (entered o (blank g.first))
    (items_fine (entered o (blank g.first)) o o.items (loading (instance_of h.first) (record { serial = 0; from = 0 }) []) f.first
    (instance_fine o h.first g.first) f.is))
  where
    go : (x : World) (p : Process) → NothingDangles x p → CountsAreExact (begun (opens x p))
    go x p d =
        back 0 [] (begun (opens x p)) (cut_exact (rules 0 []) inside names held x (Ready p ∷ []) (record {
          by_root = λ n q. process_there x p d.process n (omega (arith, q));
          by_value = closed_there x d.heap;
        }))

pub events_keep_counts : EventsKeepCounts
events_keep_counts = record {
  instructions = λ limit objects s t i n c e.
      back limit objects t
      (turns_exact (rules limit objects) inside names held (keeps limit objects) n i s t (to limit objects s c) e);
  event = λ limit longest objects s t v c e.
      back limit objects t
      (event_exact (rules limit objects) inside names held (keeps limit objects) longest s t v (to limit objects s c) e);
}

pub counts_stay_exact : CountsStayExact
counts_stay_exact limit longest o others m opens journal s e i n t f =
    let k = keeps limit (o ∷ others) in
    let first = to limit (o ∷ others) (begun m) (opening_counts o m opens) in
    let then = journal_exact (rules limit (o ∷ others)) inside names held k longest journal (begun m) s first e in
    back limit (o ∷ others) t (turns_exact (rules limit (o ∷ others)) inside names held k n i s t then f)
