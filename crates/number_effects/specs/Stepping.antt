-- One step of a process, from what the instruction at its place does.
use Rattle.std.specs.Prelude.{ℕ, suc, ◌≡◌, List, Some, slice_get}
use Rattle.process_model.specs.Process.{Went, Ends}
use Rattle.system_model.specs.Ending.{Broken, Faulted}
use Rattle.heap_model.specs.Heap.{at}
use Rattle.dis_isa.specs.declared.inst.Inst.{Inst}
use Rattle.dis_file.specs.declared.object.Object.{Object}
use Rattle.dis_meaning.specs.Words.{Word, Found, Wrong, Raises, ◌>>=◌}
use Rattle.dis_meaning.specs.Process.{Process, at_pc, with_frames}
use Rattle.dis_meaning.specs.Places.{Spot}
use Rattle.dis_memory.specs.Blocks.{World, Instance}
use Rattle.dis_memory.specs.Places.{Memory, with_words_at}
use Rattle.dis_memory.specs.Process.{Does, next, or_fault}
use Rattle.dis_memory.specs.Control.{with_frame_made, framed}
use Rattle.dis_memory.specs.Step.{obey, step}
use Rattle.number_effects.specs.Giving.{after}

-- An instruction stands at the process's place, in the code of an object.
pub record Reaches (objects : List Object) (x : World) (p : Process) (o : Object) (i : Inst) : Type 0 where
  pub object : ℕ
  pub words : List Word
  pub instance : at x.heap p.frame.instance ≡ Some (Instance object words)
  pub code : slice_get objects object ≡ Some o
  pub here : slice_get o.insts p.frame.pc ≡ Some i

-- The process at the next instruction.
abbrev pub on_next : Memory → Process
on_next m = with_frames m.process (at_pc m.process.frame (suc m.process.frame.pc)) m.process.below m.process.made

pub record StepsObey : Type 0 where
  pub steps : (limit : ℕ) (objects : List Object) (x : World) (p : Process) (o : Object) (i : Inst) → Reaches objects x p o i →
      step limit objects x p ≡ or_fault x p (obey limit o x p i i.op)
  -- An effect is the step's, a fault or a raise ends the process,
  pub does : (limit : ℕ) (objects : List Object) (x : World) (p : Process) (o : Object) (i : Inst) (done : Does) → Reaches objects x p o i →
      obey limit o x p i i.op ≡ Found done → step limit objects x p ≡ done
  pub faults : (limit : ℕ) (objects : List Object) (x : World) (p : Process) (o : Object) (i : Inst) (n : ℕ) → Reaches objects x p o i →
      obey limit o x p i i.op ≡ Wrong n → step limit objects x p ≡ Ends x (Faulted n p.frame.pc)
  pub raises : (limit : ℕ) (objects : List Object) (x : World) (p : Process) (o : Object) (i : Inst) (text : List ℕ) →
      Reaches objects x p o i → obey limit o x p i i.op ≡ Raises text → step limit objects x p ≡ Ends x (Broken text)
  -- and the process goes on with the next instruction, in the memory that is found.
  pub goes_on : (limit : ℕ) (objects : List Object) (x : World) (p : Process) (o : Object) (i : Inst) (m : Memory) →
      Reaches objects x p o i → obey limit o x p i i.op ≡ Found (next m) → step limit objects x p ≡ Went m.world (on_next m)
  -- So it does where words are stored, in this world or in one with a block more,
  pub stores : (limit : ℕ) (objects : List Object) (x : World) (p : Process) (o : Object) (i : Inst) (y : World) (place : Spot)
      (others : List Word) (m : Memory) → Reaches objects x p o i → obey limit o x p i i.op ≡ after y p place others →
      with_words_at y p place others ≡ Found m → step limit objects x p ≡ Went m.world (on_next m)
  -- and where a frame is made besides.
  pub makes_frame : (limit : ℕ) (objects : List Object) (x : World) (p : Process) (o : Object) (i : Inst) (place : Spot)
      (others words : List Word) (m : Memory) → Reaches objects x p o i →
      obey limit o x p i i.op ≡ (with_words_at x p place others >>= λ n. Found (next (framed n words))) →
      with_words_at x p place others ≡ Found m → step limit objects x p ≡ Went (with_frame_made m.world) (on_next (framed m words))
