-- Words that are moved, addresses that are stored, and records that are made.
use Rattle.std.specs.Prelude.{ℕ, pos, ◌≡◌, ◌+◌, ◌/◌, ◌⊎◌, List, Option, Some, slice_get}
use Rattle.dis_isa.specs.declared.op.Op.TheVariants as op
use Rattle.dis_isa.specs.declared.inst.Inst.{Inst}
use Rattle.dis_isa.specs.declared.inst.Operand.TheVariants as operand
use Rattle.dis_file.specs.declared.object.Object.{Object}
use Rattle.dis_file.specs.declared.types.TypeDesc.{TypeDesc}
use Rattle.dis_meaning.specs.Words.{Place, InBlock, InFrame, Word, Refer, Address, Found, ◌>>=◌, word_at, plain, blank}
use Rattle.dis_meaning.specs.Process.{Process}
use Rattle.dis_meaning.specs.Places.{address}
use Rattle.dis_memory.specs.Blocks.{World, Record, with_block, next_serial}
use Rattle.dis_memory.specs.Places.{source_plain, source_reference}
use Rattle.dis_memory.specs.Step.{obey}
use Rattle.value_moves.specs.Spots.{Leads}
use Rattle.number_effects.specs.Giving.{StoresWord}

pub record WordsMove : Type 0 where
  -- A plain word is moved, whatever stands in it, and a reference.
  pub word : (limit : ℕ) (o : Object) (x : World) (p : Process) (i : Inst) (w : Word) (target : List Word) (to : ℕ)
      (d : Leads x p i.dst target to) (old : Word) → i.op ≡ op.Movw → source_plain x p i.src ≡ Found w →
      word_at target (pos to) >>= plain ≡ Found old → StoresWord (obey limit o x p i i.op) x p d.place target to w
  pub reference : (limit : ℕ) (o : Object) (x : World) (p : Process) (i : Inst) (r : Option ℕ) (target : List Word) (to : ℕ)
      (d : Leads x p i.dst target to) (old : Option ℕ) → i.op ≡ op.Movp → source_reference x p i.src ≡ Found r →
      word_at target (pos to) ≡ Found (Refer old) → StoresWord (obey limit o x p i i.op) x p d.place target to (Refer r)
  -- The address of the byte to which the source leads is stored, where a word is there.
  pub lea : (limit : ℕ) (o : Object) (x : World) (p : Process) (i : Inst) (source : List Word) (from : ℕ) (s : Leads x p i.src source from)
      (w : Word) (target : List Word) (to : ℕ) (d : Leads x p i.dst target to) (old : Word) → i.op ≡ op.Lea →
      slice_get source (from / 4) ≡ Some w → word_at target (pos to) >>= plain ≡ Found old →
      StoresWord (obey limit o x p i i.op) x p d.place target to (address p s.place)
  -- That address, of a byte of the running frame,
  pub own_address : (x : World) (p : Process) (n : ℕ) (words : List Word) (m : ℕ) (l : Leads x p (operand.Fp (pos n)) words m) →
      address p l.place ≡ Address (InFrame p.frame.serial) (pos n)
  -- of the data of its module,
  pub module_address : (x : World) (p : Process) (n : ℕ) (words : List Word) (m : ℕ) (l : Leads x p (operand.Mp (pos n)) words m) →
      address p l.place ≡ Address (InBlock p.frame.instance) (pos n)
  -- of the block to which a word of the frame refers,
  pub inner_address : (x : World) (p : Process) (r b n : ℕ) (words : List Word) (m : ℕ)
      (l : Leads x p (operand.IndFp (pos r) (pos n)) words m) → word_at p.frame.words (pos r) ≡ Found (Refer (Some b)) →
      address p l.place ≡ Address (InBlock b) (pos n)
  -- and of the place that such a word has the address of.
  pub far_address : (x : World) (p : Process) (r : ℕ) (place : Place) (a n : ℕ) (words : List Word) (m : ℕ)
      (l : Leads x p (operand.IndFp (pos r) (pos n)) words m) → word_at p.frame.words (pos r) ≡ Found (Address place (pos a)) →
      address p l.place ≡ Address place (pos (a + n))
  -- A new record of a type is blank.
  pub new : (limit : ℕ) (o : Object) (x : World) (p : Process) (i : Inst) (n : ℕ) (desc : TypeDesc) (target : List Word) (to : ℕ)
      (d : Leads x p i.dst target to) (old : Option ℕ) → (i.op ≡ op.New) ⊎ (i.op ≡ op.Newz) → i.src ≡ operand.Imm (pos n) →
      slice_get o.types n ≡ Some desc → word_at target (pos to) ≡ Found (Refer old) →
      StoresWord (obey limit o x p i i.op) (with_block x (Record (blank desc))) p d.place target to (Refer (Some (next_serial x)))
