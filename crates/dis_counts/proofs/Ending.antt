-- Behind the instruction by which a process ends, what is there is named elsewhere.
use Rattle.std.proofs.Common.{◌≡◌, ℕ, ◌<◌, Some, sym, ap, subst, ◌∙◌, inl, inr, arith}
use Rattle.std.specs.Prelude.{slice_get}
use Rattle.process_model.specs.Process.{Ends, Doing, Ready, Gone}
use Rattle.process_model.specs.Naming as naming_of
use Rattle.process_model.specs.Naming.{total}
use Rattle.process_model.specs.Machine as machine
use Rattle.process_model.proofs.Lists.{set_same}
use Rattle.heap_model.specs.Heap.{at, in_one, in_all, stays}
use Rattle.heap_model.proofs.Heap.{there_is}
use Rattle.system_model.specs.Values.{Value}
use Rattle.dis_meaning.specs.Process.{Process}
use Rattle.dis_memory.specs.Blocks.{words_in}
use Rattle.dis_memory.specs.Naming.{inside, naming}
use Rattle.dis_memory.specs.Process.{Does}
use Rattle.dis_memory.specs.Rules.{rules}
use Rattle.dis_memory.specs.Sound.{IsThere}
use Rattle.dis_counts.specs.Counts.{Machine}
use Rattle.dis_counts.specs.Ends.{NamedElsewhere, by_process, by_block, EndsLetGo}
use Rattle.dis_counts.proofs.Cut.{either, one_names, is_there, counted}
use Rattle.dis_counts.proofs.Many.{some_process}
use Rattle.dis_counts.proofs.Named.{there_of, words_refer}
use Rattle.dis_counts.proofs.Unreached.{turn_is}

-- A machine, cut, of which this process is over.
over : (u : Machine) (i : ℕ) → slice_get u.processes i ≡ Some Gone → (n : ℕ) → IsThere (machine.cut naming i u).world n
    → NamedElsewhere (machine.cut naming i u) i n
over u i gone n t = elim (either (total naming u.processes n) (in_all inside (stays inside (total naming u.processes) u.world.heap) n)
    (counted inside (total naming u.processes) u.world.heap n (there_of (machine.cut naming i u).world n t))) [
      | inl q ↦ some_process naming u.processes n (NamedElsewhere (machine.cut naming i u) i n)
          (λ j d e r. by_process j d (other j d e r) e r) q
      | inr q ↦
          let r = one_names inside (stays inside (total naming u.processes) u.world.heap) n q in
          let b = there_is (at (stays inside (total naming u.processes) u.world.heap) r.0)
          (is_there inside (at (stays inside (total naming u.processes) u.world.heap) r.0) n r.1) in
          by_block r.0 b.0 b.1 (words_refer n (words_in b.0) (subst (λ o. 0 < in_one inside o n) b.1 r.1))
    ]
  where
    none : (d : Doing Process Value) → Some d ≡ Some Gone → 0 < naming_of.names naming d n → ⊥
    none d e r = let same : d ≡ Gone = cc in let z = subst (λ c. 0 < naming_of.names naming c n) same r in absurd (omega (arith, z))

    other : (j : ℕ) (d : Doing Process Value) → slice_get u.processes j ≡ Some d → 0 < naming_of.names naming d n → j ≡ i → ⊥
    other j d e r same = none d (sym e ∙ (ap (slice_get u.processes) same ∙ gone)) r

pub ends_let_go : EndsLetGo
ends_let_go limit objects s t i p x how here ends e n there =
    let u = machine.does (rules limit objects) s i (Ends x how) in
    let same : machine.cut naming i u ≡ t =
    ap (λ (d : Does). machine.cut naming i (machine.does (rules limit objects) s i d))
    (sym ends) ∙ turn_is limit objects s t i p here e in
    subst (λ t. NamedElsewhere t i n) same
    (over u i (set_same s.processes i Gone (Ready p) here) n (subst (λ (t : Machine). IsThere t.world n) (sym same) there))
