-- A process that hears a reply, and the cut behind it.
use Rattle.std.proofs.Common.{◌≡◌, true, refl, sym, subst, ◌∙◌}
use Rattle.std.proofs.lemmas.Bool.{true≢false}
use Rattle.ref_heap.specs.Store.{AreHeld}
use Rattle.dis_memory.specs.Blocks.{World}
use Rattle.dis_memory.specs.Naming.{names}
use Rattle.dis_memory.specs.Process.{Does}
use Rattle.dis_places.specs.declared.memory.Memory.{Memory}
use Rattle.dis_places.specs.declared.process.Process.{Process}
use Rattle.dis_places.specs.View.{view_process, view_world}
use Rattle.dis_stores.specs.Storing.{Settles}
use Rattle.dis_prints.specs.declared.heard.Heard.{Heard}
use Rattle.dis_prints.specs.declared.heard.Heard.TheVariants as heard
use Rattle.dis_prints.specs.Hearing.{does_nothing, Hears}
use Rattle.dis_steps.specs.Ending.{LetsGo}
use Rattle.dis_steps.specs.Hearing.{is_fault, Cleared, Replies}

module _ (m m1 m2 : Memory) (p p1 : Process) where
  -- Where nothing was done, what was held is held.
  unmoved_held : (m1 ≡ m) × (p1 ≡ p) → AreHeld m.heap (names (view_process p)) → AreHeld m1.heap (names (view_process p1))
  unmoved_held e h =
      let By : Memory → Type 0 = λ m. AreHeld m.heap (names (view_process p1)) in
      let Of : Process → Type 0 = λ p. AreHeld m.heap (names (view_process p)) in
      subst By (sym e.0) (subst Of (sym e.1) h)

  pub fault_held : (h : Heard) → (does_nothing h ≡ true → (m1 ≡ m) × (p1 ≡ p)) → AreHeld m.heap (names (view_process p)) →
      is_fault h ≡ true → AreHeld m1.heap (names (view_process p1))
  fault_held heard.Went k a e = absurd (true≢false (sym e))
  fault_held (heard.Asked r) k a e = absurd (true≢false (sym e))
  fault_held (heard.Fault f) k a e = unmoved_held (k e) a
  fault_held heard.Refused k a e = absurd (true≢false (sym e))
  fault_held heard.NoMemory k a e = absurd (true≢false (sym e))

  -- What a process let go that stood as before.
  unmoved_over : (m1 ≡ m) × (p1 ≡ p) → LetsGo m1 p1 (view_world m1) m2 → LetsGo m p (view_world m) m2
  unmoved_over e l =
      let By : Memory → Type 0 = λ m. LetsGo m p (view_world m) m2 in
      let Of : Process → Type 0 = λ p. LetsGo m1 p (view_world m1) m2 in
      subst By e.0 (subst Of e.1 l)

  still_settles : (x : World) → m2 ≡ m1 → Settles m p x m1 p1 → Settles m p x m2 p1
  still_settles x e s = let Of : Memory → Type 0 = λ m2. Settles m p x m2 p1 in subst Of (sym e) s

  pub heard_replies : (h : Heard) (d : Does) → Hears m p h d m1 p1 → (does_nothing h ≡ true → (m1 ≡ m) × (p1 ≡ p)) →
      Cleared h m1 p1 m2 → Replies m p h d m2 p1
  heard_replies heard.Went d h k c = (h.0, h.1, still_settles h.0 c h.2)
  heard_replies (heard.Asked r) d h k c = (h.0, h.1, still_settles h.0 c h.2)
  heard_replies (heard.Fault f) d h k c = (h, unmoved_over (k refl) c)
  heard_replies heard.Refused d h k c = (h, c ∙ (k refl).0, (k refl).1)
  heard_replies heard.NoMemory d h k c = (c ∙ (k refl).0, (k refl).1)
