-- Both go on where the block of one value of the heap changes, and the value with it.
use Rattle.std.proofs.Common.{◌≡◌, ℕ, true, suc, ◌+◌, List, [], ◌∷◌, length, Option, Some, refl, sym, ap, ◌∙◌, subst, arith, inl, inr}
use Rattle.std.specs.Prelude.{slice_get}
use Rattle.std.proofs.lemmas.Bool.Decides.{eqb_tells}
use Rattle.process_model.specs.Follows.{Only}
use Rattle.process_ways.proofs.On.{stepped}
use Rattle.heap_model.specs.Heap.{Heap, at, there}
use Rattle.heap_model.specs.Facts.{Named, Carrier, Is, Free}
use Rattle.heap_model.specs.Worlds.{Sets, WorldsAlike}
use Rattle.heap_model.proofs.Changes.{set_value}
use Rattle.system_model.specs.Limits.{frames_limit}
use Rattle.limbo_layout.specs.Adts.{Has}
use Rattle.limbo_typed.specs.Typed as typed
use Rattle.limbo_meaning.specs.Memory.{HeapValue, with_heap, changed}
use Rattle.limbo_meaning.specs.Process.{Shared, shared_with}
use Rattle.core_code.specs.Code.{Instr}
use Rattle.core_code.specs.Machine as code
use Rattle.dis_isa.specs.declared.inst.Inst.{Inst}
use Rattle.dis_meaning.specs.Words.{Word, Refer}
use Rattle.dis_meaning.specs.Process.{Process, Printing}
use Rattle.dis_memory.specs.Blocks.{World, with_changed}
use Rattle.dis_memory.specs.Step.{obey}
use Rattle.value_words.specs.Facts.{Facts, Grows}
use Rattle.value_heaps.proofs.Words.{named_where}
use Rattle.value_frames.specs.Slots.{IsKept}
use Rattle.value_frames.proofs.Later.{frames_later}
use Rattle.value_code.specs.Objects.{object_of, of_function, size_at}
use Rattle.number_effects.proofs.Stepping.{steps_obey}
use Rattle.value_follows.specs.Stands.{Ready, GoesOn, types_of}
use Rattle.value_follows.specs.Sides.{sides, contents, HoldTheSame}
use Rattle.value_follows.specs.Rows.{Base, place}
use Rattle.value_follows.proofs.Standing.{at_words}
use Rattle.value_follows.proofs.Waiting.{ready_anew}
use Rattle.value_follows.proofs.Single.{Once}
use Rattle.rows_places.proofs.Last.{there as process_there, begins_at, reaches_here, hold_there, next_there}
use Rattle.rows_places.proofs.Changing.{sets, set_long, changed_is, not_named}
use Rattle.dis_file.specs.declared.types.TypeDesc.{TypeDesc}
use Rattle.dis_memory.specs.Blocks.{Array}
use Rattle.dis_memory.specs.Places.{memory}
use Rattle.dis_memory.specs.Process.{next}
use Rattle.dis_meaning.specs.Words.{Found}

module _ (m : typed.Module) (b : Base m) (k : Facts) (i : ℕ) (w : Shared) (x : World) (p : code.Process) (q : Process) (ready : Ready m k i x p q)
    (hold : HoldTheSame m k i x p q) (worlds : (sides m).worlds k w x) (instr : Instr) (here : slice_get p.frame.code p.frame.pc ≡ Some instr)
    (pc : ℕ) (pr : Option Printing) (j : ℕ) (so_far : pc ≡ q.frame.pc + j)
    (size : size_at m ready.stands.is.function.of.answer (of_function m ready.stands.is.function) p.frame.pc (Some instr) ≡ j + 1)
    (name serial : ℕ) (named : Is k name serial) (old value : HeapValue) (value_there : at w.heap name ≡ Some old)
    (desc : TypeDesc) (long : ℕ) (words others : List Word) (block_there : at x.heap serial ≡ Some (Array desc long words))
    (stands : (contents m).stands k serial value (Array desc long others))
    (lives : (u wd : ℕ) → slice_get others wd ≡ Some (Refer (Some u)) → there (at x.heap u) ≡ true) where
  abbrev f : typed.Function
  f = ready.stands.is.function

  abbrev at_now : Process
  at_now = process_there m b k i w x p q ready hold worlds instr here pc pr j so_far

  abbrev pub block_after : World
  block_after = with_changed x serial (Array desc long others)

  abbrev heap_after : Heap HeapValue
  heap_after = changed w.heap name value

  abbrev world_after : Shared
  world_after = shared_with w (with_heap (code.memory_of w p.frame) heap_after)

  block_sets : Sets x.heap block_after.heap serial (Some (Array desc long others))
  block_sets = sets x.heap serial (Array desc long words) (Array desc long others) block_there

  value_sets : Sets w.heap heap_after name (Some value)
  value_sets =
      subst (λ h. Sets w.heap h name (Some value)) (sym (changed_is w.heap name old value value_there))
      (sets w.heap name old value value_there)

  alike_after : WorldsAlike (contents m) k heap_after block_after.heap
  alike_after =
      set_value (contents m) k w.heap heap_after x.heap block_after.heap name serial value (Array desc long others) worlds.0 named stands
      (ap (λ (h : Heap HeapValue). length h) (changed_is w.heap name old value value_there) ∙ set_long w.heap name (Some value))
      (set_long x.heap serial (Some (Array desc long others))) value_sets block_sets
      (λ u h.
      let wd = named_where others u h in
      lives u wd.0 wd.1)

  grows_same : Grows k k
  grows_same = record { facts = λ n f e. e; makers = λ n g e. e; forms = λ n g e. e }

  keeps : (u : ℕ) → Free k u → IsKept k x.heap block_after.heap u
  keeps u free = (free, block_sets.apart u (not_named k name serial u named free))

  changes_so : (sides m).changes (Only i) k k x block_after
  changes_so = (
    record {
      grows = grows_same;
      there = λ u c e. elim (eqb_tells u serial) [
        | inl y ↦ (Array desc long others, ap (at block_after.heap) y.1 ∙ block_sets.here)
        | inr y ↦ (c, block_sets.apart u y.1 ∙ e)
      ];
      free = λ u g free made no. (refl, (keeps u free).1);
      carriers = λ u c e.
          block_sets.apart u (λ s. absurd (let z : Some (Carrier c) ≡ Some (Named name) = sym e ∙ ap k.fact s ∙ named in cc));
    },
    omega arith,
  )

  -- the process of the source, behind its step
  abbrev behind_step : code.Process
  behind_step = code.with_frames p (code.at p.frame (suc p.frame.pc) p.frame.variables p.frame.slots) p.below

  ready_after : GoesOn m f (suc p.frame.pc) ready.stands.is.known → Ready m k i block_after behind_step (at_words m k i x p q ready (suc pc) q.frame.words)
  ready_after goes =
      let are = ready.stands.is.words in
      let later = frames_later m.adts k x.heap q.frame.serial [] (types_of m f) ready.stands.is.known p.frame.variables p.frame.slots q.frame.words are in
      let after = later.later k block_after.heap grows_same (λ s u h. keeps u (later.owned s u h).0) in
      ready_anew m k k i x block_after p q ready grows_same (omega arith) (λ u free made other. keeps u free)
      (suc p.frame.pc) (suc pc) ready.stands.is.known p.frame.variables p.frame.slots q.frame.words refl after.0
      (λ s u h. ready.stands.is.mine s u (subst (λ (own : ℕ → List ℕ). Has (own s) u) after.1 h)) goes
      (next_there m b k i w x p q ready hold worlds instr here pc pr j so_far size) refl refl

  pub both_change : (inst : Inst) → begins_at m b k i w x p q ready hold worlds instr here pc pr j so_far inst
      → obey frames_limit (object_of m) x at_now inst inst.op ≡ Found (next (memory block_after at_now))
      → (sides m).program.step w p ≡ code.goes_with w p (with_heap (code.memory_of w p.frame) heap_after) p.frame.slots
      → GoesOn m f (suc p.frame.pc) ready.stands.is.known → Once m b i p at_now k w x
  both_change inst begins obeys does goes =
      let step = steps_obey.goes_on frames_limit (object_of m ∷ []) x at_now (object_of m) inst (memory block_after at_now)
      (reaches_here m b k i w x p q ready hold worlds instr here pc pr j so_far inst begins) obeys in
      let on = at_words m k i x p q ready (suc pc) q.frame.words in
      let ready' = ready_after goes in
      let holds = hold_there m b k i w x p q ready hold worlds instr here pc pr j so_far in
      let worlds' : (sides m).worlds k world_after block_after = (alike_after, worlds.1) in
      stepped (sides m) (place m) (λ l z r t. (sides m).ready l i z r t) k k i w x block_after p at_now on step changes_so world_after behind_step does
      worlds' (
        ready',
        b.holds_again k i world_after block_after behind_step on ready' worlds'
            (b.there_again x block_after at_now on step worlds.0.closed (λ n h. holds.same.live n (holds.same.roots n h))),
      )
