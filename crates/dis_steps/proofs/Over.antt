-- A process that is over, behind an instruction.
use Rattle.std.proofs.Common.{◌≡◌, true, Option, ap, sym, subst, ◌∙◌, arith}
use Rattle.std.proofs.lemmas.Bool.{true≢false}
use Rattle.heap_model.specs.Heap.{stays}
use Rattle.heap_cuts.proofs.Sooner.{early, twice_early}
use Rattle.process_model.specs.Process.{Ends}
use Rattle.ref_heap.specs.Store.{AreHeld, outside}
use Rattle.system_model.specs.Ending.{Broken}
use Rattle.dis_meaning.specs.Words.{Access, Found}
use Rattle.dis_memory.specs.Blocks.{World}
use Rattle.dis_memory.specs.Naming.{inside, names}
use Rattle.dis_memory.specs.Process.{Does, or_fault}
use Rattle.dis_places.specs.declared.fault.Halt.{Halt}
use Rattle.dis_places.specs.declared.fault.Halt.TheVariants as halt
use Rattle.dis_places.specs.declared.memory.Memory.{Memory}
use Rattle.dis_places.specs.declared.process.Asking.{Asking}
use Rattle.dis_places.specs.declared.process.Process.{Process}
use Rattle.dis_places.specs.View.{view_process, view_world}
use Rattle.dis_places.specs.Words.{Halts}
use Rattle.dis_stores.specs.Storing.{Settles}
use Rattle.dis_calls.specs.declared.outcome.Does as code_does
use Rattle.dis_calls.specs.declared.outcome.Does.TheVariants as does
use Rattle.dis_calls.specs.Coming.{effect_of, ends, DoesSend, LeftAlone, Stays}
use Rattle.dis_steps.specs.declared.outcome.Stepped.{Stepped}
use Rattle.dis_steps.specs.declared.outcome.Stepped.TheVariants as stepped
use Rattle.dis_steps.specs.Ending.{LetsGo}
use Rattle.dis_steps.specs.Stepping.{Done, Halted, Sent, Steps}

module _ (m m1 m2 : Memory) (p p1 : Process) where
  -- Behind an instruction that ended the process and left all as it was.
  ended : (x : World) → Settles m p x m1 p1 → (m1 ≡ m) × (p1 ≡ p) → LetsGo m1 p1 (view_world m1) m2 → LetsGo m p x m2
  ended x s e l = record {
    held = λ n.
        let a = l.held n in
        let b = ap (λ (m : Memory). outside m.heap n) e.0 in
        let d = ap (λ (p : Process). names (view_process p) n) e.1 in
        omega (arith, a, b, d);
    heap = l.heap
        ∙ ap (stays inside (outside m2.heap)) s.heap
        ∙ early inside (outside m2.heap) x.heap (stays inside (outside m1.heap) x.heap)
        (twice_early inside (outside m1.heap) (outside m2.heap) x.heap (λ n. let a = l.held n in omega (arith, a)));
    outer = l.outer ∙ s.outer;
    tables = l.tables ∙ s.tables;
  }

  still_held : (m1 ≡ m) × (p1 ≡ p) → AreHeld m.heap (names (view_process p)) → AreHeld m1.heap (names (view_process p1))
  still_held e h =
      let By : Memory → Type 0 = λ m. AreHeld m.heap (names (view_process p1)) in
      let Of : Process → Type 0 = λ p. AreHeld m.heap (names (view_process p)) in
      subst By (sym e.0) (subst Of (sym e.1) h)

  -- What is asked is a message.
  pub done_sent : (d : code_does.Does) (s : Stepped) (printing : Option Asking) → Done d m1 p1 s m2 → DoesSend d printing → Sent s printing
  done_sent does.Went s printing b h = let Of : Stepped → Type 0 = λ s. Sent s printing in subst Of (sym b.0) tt
  done_sent (does.Asked r) s printing b h = let Of : Stepped → Type 0 = λ s. Sent s printing in subst Of (sym b.0) h
  done_sent does.Ended s printing b h = let Of : Stepped → Type 0 = λ s. Sent s printing in subst Of (sym b.0) tt
  done_sent (does.Broken text) s printing b h = let Of : Stepped → Type 0 = λ s. Sent s printing in subst Of (sym b.0) tt

  -- A process that ends refers to what was held.
  pub ends_held : (d : code_does.Does) → Stays (ends d) m p m1 p1 → AreHeld m.heap (names (view_process p)) →
      ends d ≡ true → AreHeld m1.heap (names (view_process p1))
  ends_held does.Went s h e = absurd (true≢false (sym e))
  ends_held (does.Asked r) s h e = absurd (true≢false (sym e))
  ends_held does.Ended s h e = still_held s h
  ends_held (does.Broken text) s h e = still_held s h

  pub done_steps : (d : code_does.Does) (s : Stepped) (w : Access Does) (x : World) → w ≡ Found (effect_of d x (view_process p1)) →
      Settles m p x m1 p1 → Stays (ends d) m p m1 p1 → Done d m1 p1 s m2 →
      Steps m p s (or_fault (view_world m) (view_process p) w) m2 p1
  done_steps does.Went s w x e a k b =
      let By : Stepped → Type 0 = λ s. Steps m p s (or_fault (view_world m) (view_process p) w) m2 p1 in
      let Of : Memory → Type 0 = λ m2. Settles m p x m2 p1 in
      subst By (sym b.0) (x, ap (or_fault (view_world m) (view_process p)) e, subst Of (sym b.1) a)
  done_steps (does.Asked r) s w x e a k b =
      let By : Stepped → Type 0 = λ s. Steps m p s (or_fault (view_world m) (view_process p) w) m2 p1 in
      let Of : Memory → Type 0 = λ m2. Settles m p x m2 p1 in
      subst By (sym b.0) (x, ap (or_fault (view_world m) (view_process p)) e, subst Of (sym b.1) a)
  done_steps does.Ended s w x e a k b =
      let By : Stepped → Type 0 = λ s. Steps m p s (or_fault (view_world m) (view_process p) w) m2 p1 in
      subst By (sym b.0) (x, ap (or_fault (view_world m) (view_process p)) e, ended x a k b.1)
  done_steps (does.Broken text) s w x e a k b =
      let By : Stepped → Type 0 = λ s. Steps m p s (or_fault (view_world m) (view_process p) w) m2 p1 in
      subst By (sym b.0) (x, ap (or_fault (view_world m) (view_process p)) e, ended x a k b.1)

  -- Behind one that was wrong, or raised, and left memory alone.
  pub left_over : LeftAlone m p m1 p1 → LetsGo m1 p1 (view_world m1) m2 → LetsGo m p (view_world m) m2
  left_over a l = record {
    held = λ n.
        let h = l.held n in
        let b = a.held n in
        let d = ap (λ q. names q n) a.process.process in
        omega (arith, h, b, d);
    heap = l.heap ∙ ap (λ (x : World). stays inside (outside m2.heap) x.heap) a.world;
    outer = l.outer ∙ ap (λ (x : World). x.outside) a.world;
    tables = l.tables ∙ a.tables;
  }

  pub left_held : LeftAlone m p m1 p1 → AreHeld m.heap (names (view_process p)) → AreHeld m1.heap (names (view_process p1))
  left_held a h n =
      let g = h n in
      let b = a.held n in
      let d = ap (λ q. names q n) a.process.process in
      omega (arith, g, b, d)

  still_left : LeftAlone m p m1 p1 → m2 ≡ m1 → LeftAlone m p m2 p1
  still_left a e = let Left : Memory → Type 0 = λ m2. LeftAlone m p m2 p1 in subst Left (sym e) a

  pub halted_steps : (h : Halt) (s : Stepped) (w : Access Does) → Halts h w → LeftAlone m p m1 p1 → Halted h m1 p1 s m2 →
      Steps m p s (or_fault (view_world m) (view_process p) w) m2 p1
  halted_steps halt.NoMemory s w e a b =
      let By : Stepped → Type 0 = λ s. Steps m p s (or_fault (view_world m) (view_process p) w) m2 p1 in
      subst By (sym b.0) (still_left a b.1)
  halted_steps (halt.Fault f) s w e a b =
      let By : Stepped → Type 0 = λ s. Steps m p s (or_fault (view_world m) (view_process p) w) m2 p1 in
      subst By (sym b.0) (view_world m, ap (or_fault (view_world m) (view_process p)) e, left_over a b.1)
  halted_steps (halt.Raises r) (stepped.Broken text) w e a b = (
    view_world m,
    ap (or_fault (view_world m) (view_process p)) e ∙ ap (λ t. Ends (view_world m) (Broken t)) (sym b.0),
    left_over a b.1,
  )
  halted_steps (halt.Raises r) stepped.NoMemory w e a b = still_left a b
  halted_steps (halt.Raises r) stepped.Went w e a b = absurd b
  halted_steps (halt.Raises r) (stepped.Asked m) w e a b = absurd b
  halted_steps (halt.Raises r) stepped.Ended w e a b = absurd b
  halted_steps (halt.Raises r) (stepped.Fault f) w e a b = absurd b
