-- Memory that is left alone, however that is told.
use Rattle.std.proofs.Common.{◌≡◌, ap}
use Rattle.std.specs.Prelude.{OnErr, Result}
use Rattle.std.proofs.lemmas.Result.{on_err_weaker}
use Rattle.ref_heap.specs.Store.{outside}
use Rattle.dis_places.specs.declared.fault.Halt.{Halt}
use Rattle.dis_places.specs.declared.memory.Memory.{Memory}
use Rattle.dis_places.specs.declared.process.Process.{Process}
use Rattle.dis_places.specs.View.{view_process, view_world}
use Rattle.dis_blocks.specs.Making.{Untouched}
use Rattle.dis_calls.specs.Coming.{LeftAlone}

module _ (m m' : Memory) (p p' : Process) where
  pub same_left : (m' ≡ m) × (p' ≡ p) → LeftAlone m p m' p'
  same_left e = record {
    world = ap view_world e.0;
    held = λ n. ap (λ (m : Memory). outside m.heap n) e.0;
    tables = ap (λ (m : Memory). m.tables) e.0;
    process = record { process = ap view_process e.1; printing = ap (λ (p : Process). p.printing) e.1 };
  }

  pub untouched_left : Untouched m p m' p' → LeftAlone m p m' p'
  untouched_left u = record {
    world = u.world;
    held = u.held;
    tables = u.tables;
    process = record { process = ap view_process u.process; printing = ap (λ (p : Process). p.printing) u.process };
  }

  pub left_same : (r : Result (Unit {0}) Halt) → OnErr r ((m' ≡ m) × (p' ≡ p)) → OnErr r (LeftAlone m p m' p')
  left_same r h = on_err_weaker r same_left h

  pub left_untouched : (r : Result (Unit {0}) Halt) → OnErr r (Untouched m p m' p') → OnErr r (LeftAlone m p m' p')
  left_untouched r h = on_err_weaker r untouched_left h
