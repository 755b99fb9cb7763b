-- Operations on numbers, by the rows of their table, and branches.
use Rattle.std.specs.Prelude.{ℕ, pos, ◌≡◌, ◌≢◌, ◌<◌, ◌≤◌, ℤ, Bool, true, false, List, length, Option, Some, Ok, Err, if◌then◌else◌}
use Rattle.limbo_values.specs.declared.number.Kind.{Kind}
use Rattle.limbo_values.specs.declared.number.Kind.TheVariants.{Int}
use Rattle.limbo_values.specs.declared.operator.Operator.{Operator}
use Rattle.limbo_values.specs.declared.operator.Shift.{Shift}
use Rattle.limbo_values.specs.declared.operator.Comparison.{Comparison}
use Rattle.limbo_values.specs.declared.raised.Raised.{Raised}
use Rattle.limbo_values.specs.Numbers.{wrapped}
use Rattle.limbo_values.specs.Operators.{applied, shifted, compared, text_of}
use Rattle.dis_isa.specs.declared.op.Op.{Op}
use Rattle.dis_isa.specs.declared.inst.Inst.{Inst}
use Rattle.dis_isa.specs.declared.inst.Operand.TheVariants as operand
use Rattle.dis_file.specs.declared.object.Object.{Object}
use Rattle.dis_meaning.specs.Words.{Word, Found, Wrong, Raises, bad_jump}
use Rattle.dis_meaning.specs.Numbers.{Row, Calculates, Shifts, Converts, Moves, Branches, number_row, number_at}
use Rattle.dis_meaning.specs.Process.{Process}
use Rattle.dis_memory.specs.Blocks.{World}
use Rattle.dis_memory.specs.Places.{memory, source_of, middle_of, given_of, source_reference, middle_reference}
use Rattle.dis_memory.specs.Process.{Does, jumps, next}
use Rattle.dis_memory.specs.Numbers as numbers
use Rattle.dis_memory.specs.Numbers.{same_reference, references_compared}
use Rattle.dis_memory.specs.Step.{obey}
use Rattle.value_moves.specs.Spots.{Leads}
use Rattle.number_effects.specs.Giving.{StoresNumber}

-- The process goes on there where this holds, and with the next instruction where it doesn't.
abbrev pub where_holds : World → Process → Bool → (pc : ℕ) → Does
where_holds x p holds pc = if holds then jumps x p pc else next (memory x p)

pub record NumbersWork : Type 0 where
  -- An operation that has a row does what the row says.
  pub by_its_row : (limit : ℕ) (o : Object) (x : World) (p : Process) (i : Inst) (operation : Op) (row : Row) →
      number_row operation ≡ Some row → obey limit o x p i operation ≡ numbers.by_row o x p i row
  -- The middle is the left operand, the source the right one.
  pub calculates : (limit : ℕ) (o : Object) (x : World) (p : Process) (i : Inst) (kind : Kind) (operator : Operator) (s m : ℤ)
      (target : List Word) (to : ℕ) (d : Leads x p i.dst target to) (old z : ℤ) → number_row i.op ≡ Some (Calculates kind operator) →
      source_of kind x p i.src ≡ Found s → middle_of kind x p i.middle i.dst ≡ Found m → number_at kind target (pos to) ≡ Found old →
      applied kind operator m s ≡ Ok z → StoresNumber (obey limit o x p i i.op) x p d.place kind target to z
  pub calculates_raised : (limit : ℕ) (o : Object) (x : World) (p : Process) (i : Inst) (kind : Kind) (operator : Operator) (s m : ℤ)
      (target : List Word) (to : ℕ) → Leads x p i.dst target to → (old : ℤ) (raised : Raised) →
      number_row i.op ≡ Some (Calculates kind operator) → source_of kind x p i.src ≡ Found s →
      middle_of kind x p i.middle i.dst ≡ Found m → number_at kind target (pos to) ≡ Found old →
      applied kind operator m s ≡ Err raised → obey limit o x p i i.op ≡ Raises (text_of raised)
  -- The middle is shifted, by a source that is an int.
  pub shifts : (limit : ℕ) (o : Object) (x : World) (p : Process) (i : Inst) (kind : Kind) (shift : Shift) (count m : ℤ)
      (target : List Word) (to : ℕ) (d : Leads x p i.dst target to) (old : ℤ) → number_row i.op ≡ Some (Shifts kind shift) →
      source_of Int x p i.src ≡ Found count → middle_of kind x p i.middle i.dst ≡ Found m → number_at kind target (pos to) ≡ Found old →
      StoresNumber (obey limit o x p i i.op) x p d.place kind target to (shifted kind shift m count)
  pub converts : (limit : ℕ) (o : Object) (x : World) (p : Process) (i : Inst) (from kind : Kind) (s : ℤ)
      (target : List Word) (to : ℕ) (d : Leads x p i.dst target to) (old : ℤ) → number_row i.op ≡ Some (Converts from kind) →
      source_of from x p i.src ≡ Found s → number_at kind target (pos to) ≡ Found old →
      StoresNumber (obey limit o x p i i.op) x p d.place kind target to (wrapped kind s)
  pub moves : (limit : ℕ) (o : Object) (x : World) (p : Process) (i : Inst) (kind : Kind) (s : ℤ)
      (target : List Word) (to : ℕ) (d : Leads x p i.dst target to) (old : ℤ) → number_row i.op ≡ Some (Moves kind) →
      source_of kind x p i.src ≡ Found s → number_at kind target (pos to) ≡ Found old →
      StoresNumber (obey limit o x p i i.op) x p d.place kind target to s
  -- The source is compared with the middle, as numbers of a kind.
  pub branches : (limit : ℕ) (o : Object) (x : World) (p : Process) (i : Inst) (kind : Kind) (c : Comparison) (a b : ℤ) (pc : ℕ) →
      number_row i.op ≡ Some (Branches kind c) → source_of kind x p i.src ≡ Found a → given_of kind x p i.middle ≡ Found b →
      i.dst ≡ operand.Imm (pos pc) → pc < length o.insts → obey limit o x p i i.op ≡ Found (where_holds x p (compared c a b) pc)
  -- A target behind the code is wrong, whether or not the comparison holds.
  pub branches_outside : (limit : ℕ) (o : Object) (x : World) (p : Process) (i : Inst) (kind : Kind) (c : Comparison) (a b : ℤ) (pc : ℕ) →
      number_row i.op ≡ Some (Branches kind c) → source_of kind x p i.src ≡ Found a → given_of kind x p i.middle ≡ Found b →
      i.dst ≡ operand.Imm (pos pc) → length o.insts ≤ pc → obey limit o x p i i.op ≡ Wrong bad_jump
  -- Two references are equal or not: `references_compared` says nothing else of them.
  pub references : (limit : ℕ) (o : Object) (x : World) (p : Process) (i : Inst) (c : Comparison) (r s : Option ℕ) (holds : Bool) (pc : ℕ) →
      number_row i.op ≡ Some (Branches Int c) → source_reference x p i.src ≡ Found r → middle_reference x p i.middle ≡ Found s →
      references_compared c r s ≡ Found holds → i.dst ≡ operand.Imm (pos pc) → pc < length o.insts →
      obey limit o x p i i.op ≡ Found (where_holds x p holds pc)
  pub references_outside : (limit : ℕ) (o : Object) (x : World) (p : Process) (i : Inst) (c : Comparison) (r s : Option ℕ) (holds : Bool)
      (pc : ℕ) → number_row i.op ≡ Some (Branches Int c) → source_reference x p i.src ≡ Found r →
      middle_reference x p i.middle ≡ Found s → references_compared c r s ≡ Found holds → i.dst ≡ operand.Imm (pos pc) →
      length o.insts ≤ pc → obey limit o x p i i.op ≡ Wrong bad_jump
  pub same : (r : Option ℕ) → same_reference r r ≡ true
  pub different : (r s : Option ℕ) → r ≢ s → same_reference r s ≡ false
