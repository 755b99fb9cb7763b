-- Jumps, frames, calls and returns.
use Rattle.std.specs.Prelude.{ℕ, suc, pos, ◌≡◌, ◌<◌, ◌≤◌, List, [], ◌∷◌, length, Some, codes, slice_get}
use Rattle.process_model.specs.Process.{Went, Ends}
use Rattle.system_model.specs.Ending.{Ended, Broken}
use Rattle.dis_isa.specs.declared.op.Op.TheVariants as op
use Rattle.dis_isa.specs.declared.inst.Inst.{Inst}
use Rattle.dis_isa.specs.declared.inst.Operand.TheVariants as operand
use Rattle.dis_file.specs.declared.object.Object.{Object}
use Rattle.dis_file.specs.declared.types.TypeDesc.{TypeDesc}
use Rattle.dis_meaning.specs.Words.{InFrame, Word, Address, Found, Wrong, ◌>>=◌, bad_jump, word_at, plain, blank}
use Rattle.dis_meaning.specs.Process.{Frame, Process, height, at_pc, with_frames}
use Rattle.dis_meaning.specs.Step.{made_frame, without}
use Rattle.dis_memory.specs.Blocks.{World}
use Rattle.dis_memory.specs.Places.{with_words_at, source_word}
use Rattle.dis_memory.specs.Process.{jumps, next}
use Rattle.dis_memory.specs.Control.{next_frame, framed}
use Rattle.dis_memory.specs.Step.{obey}
use Rattle.value_moves.specs.Spots.{Leads}
use Rattle.number_effects.specs.Giving.{with_word, WordStored}

-- The address of the frame that is made next.
abbrev pub frame_address : World → Word
frame_address x = Address (InFrame (next_frame x)) (pos 0)

pub record ControlGoes : Type 0 where
  -- A jump goes to a place of the code.
  pub jmp : (limit : ℕ) (o : Object) (x : World) (p : Process) (i : Inst) (pc : ℕ) → i.op ≡ op.Jmp → i.dst ≡ operand.Imm (pos pc) →
      pc < length o.insts → obey limit o x p i i.op ≡ Found (jumps x p pc)
  pub jmp_outside : (limit : ℕ) (o : Object) (x : World) (p : Process) (i : Inst) (pc : ℕ) → i.op ≡ op.Jmp → i.dst ≡ operand.Imm (pos pc) →
      length o.insts ≤ pc → obey limit o x p i i.op ≡ Wrong bad_jump
  -- A frame is made with blank words, behind the others that are made, and its address is stored.
  pub frame : (limit : ℕ) (o : Object) (x : World) (p : Process) (i : Inst) (n : ℕ) (desc : TypeDesc) (target : List Word) (to : ℕ)
      (d : Leads x p i.dst target to) (old : Word) → i.op ≡ op.Frame → i.src ≡ operand.Imm (pos n) → slice_get o.types n ≡ Some desc →
      word_at target (pos to) >>= plain ≡ Found old →
      WordStored target to (frame_address x)
      × (obey limit o x p i i.op
      ≡ (with_words_at x p d.place (with_word target to (frame_address x)) >>= λ m. Found (next (framed m (blank desc)))))
  -- A frame that is made is called, within the limit,
  pub call : (limit : ℕ) (o : Object) (x : World) (p : Process) (i : Inst) (s : ℕ) (f : Frame) (pc : ℕ) → i.op ≡ op.Call →
      source_word x p i.src ≡ Found (Address (InFrame s) (pos 0)) → made_frame p.made s ≡ Found f → i.dst ≡ operand.Imm (pos pc) →
      pc < length o.insts → height p < limit →
      obey limit o x p i i.op
      ≡ Found (Went x (with_frames p (at_pc f pc) (at_pc p.frame (suc p.frame.pc) ∷ p.below) (without f.serial p.made)))
  -- and beyond it the process is broken.
  pub call_deep : (limit : ℕ) (o : Object) (x : World) (p : Process) (i : Inst) (s : ℕ) (f : Frame) (pc : ℕ) → i.op ≡ op.Call →
      source_word x p i.src ≡ Found (Address (InFrame s) (pos 0)) → made_frame p.made s ≡ Found f → i.dst ≡ operand.Imm (pos pc) →
      pc < length o.insts → limit ≤ height p → obey limit o x p i i.op ≡ Found (Ends x (Broken (codes "stack overflow")))
  pub call_outside : (limit : ℕ) (o : Object) (x : World) (p : Process) (i : Inst) (s : ℕ) (f : Frame) (pc : ℕ) → i.op ≡ op.Call →
      source_word x p i.src ≡ Found (Address (InFrame s) (pos 0)) → made_frame p.made s ≡ Found f → i.dst ≡ operand.Imm (pos pc) →
      length o.insts ≤ pc → obey limit o x p i i.op ≡ Wrong bad_jump
  -- The serial of a frame that is made is the one by which it is found.
  pub made_serial : (made : List Frame) (s : ℕ) (f : Frame) → made_frame made s ≡ Found f → f.serial ≡ s
  -- A return goes on with the frame below; that of the first function ends the process.
  pub ret : (limit : ℕ) (o : Object) (x : World) (p : Process) (i : Inst) (f : Frame) (below : List Frame) → i.op ≡ op.Ret →
      p.below ≡ f ∷ below → obey limit o x p i i.op ≡ Found (Went x (with_frames p f below p.made))
  pub ret_last : (limit : ℕ) (o : Object) (x : World) (p : Process) (i : Inst) → i.op ≡ op.Ret → p.below ≡ [] →
      obey limit o x p i i.op ≡ Found (Ends x Ended)
