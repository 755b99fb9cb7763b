-- That the machine's code of an instruction of three-address code, its row, leads from where two processes stand alike to where they do
-- again.
use Rattle.std.specs.Prelude.{ℕ, ℤ, zero, suc, ◌+◌, ◌-◌, ◌≡◌, ◌<◌, Bool, true, false, ◌&&◌, List, [], ◌∷◌, ◌++◌, length}
use Rattle.std.specs.Prelude.{Some, slice_get, nat_lt, nat_le, nat_eq, if◌then◌else◌}
use Rattle.process_model.specs.Process.{Went}
use Rattle.process_ways.specs.Ways as ways
use Rattle.heap_model.specs.Heap.{at, there}
use Rattle.heap_model.specs.Facts.{Free}
use Rattle.heap_model.specs.Kept.{IsClosed}
use Rattle.heap_model.specs.Worlds.{blocks}
use Rattle.limbo_layout.specs.Adts.{Has}
use Rattle.limbo_types.specs.Types as ty
use Rattle.limbo_types.specs.Types.{Ty}
use Rattle.limbo_values.specs.declared.number.Kind.{Kind}
use Rattle.limbo_values.specs.declared.number.Kind.TheVariants.{Big}
use Rattle.limbo_values.specs.declared.operator.Comparison.{Comparison}
use Rattle.limbo_values.specs.declared.operator.Operator.{Operator}
use Rattle.limbo_values.specs.declared.operator.Shift.{Shift}
use Rattle.limbo_typed.specs.Typed as typed
use Rattle.limbo_typed.specs.declared.operation.Operation.TheVariants.{Arithmetic, Compare, Not, Convert, Shift as OfShift}
use Rattle.limbo_typed.specs.declared.stmt.Constant.TheVariants as constant
use Rattle.limbo_meaning.specs.Trees.{Literal, Operate}
use Rattle.limbo_meaning.specs.Process.{Shared}
use Rattle.limbo_meaning.specs.Values.{Value}
use Rattle.core_code.specs.Code as core
use Rattle.core_code.specs.Code.{Instr}
use Rattle.core_code.specs.Machine as code
use Rattle.dis_isa.specs.declared.inst.Inst.{Inst}
use Rattle.dis_meaning.specs.Process.{Process}
use Rattle.dis_memory.specs.Blocks.{World}
use Rattle.dis_memory.specs.Naming as machine
use Rattle.value_words.specs.Facts.{Facts}
use Rattle.value_frames.specs.Slots.{IsKept}
use Rattle.value_heaps.specs.Blocks.{Constant}
use Rattle.value_code.specs.Objects.{of_function, base_of, size_at, data_at, site, type_number, frame_number, constants, constants_from}
use Rattle.value_code.specs.Objects.{object_of, init_of, entry_size}
use Rattle.value_code.specs.Code.{Site, code_of}
use Rattle.value_follows.specs.Stands.{Answer, Stands, Ready, place_of}
use Rattle.value_follows.specs.Kept.{SameFrame}
use Rattle.value_follows.specs.Rooted.{OnTheWay, BusyLead}
use Rattle.value_follows.specs.Sides.{sides, contents, HoldTheSame}

-- The code of an instruction, and how long it is.
pub record Row : Type 0 where
  pub instr : Instr
  pub size : ℕ

-- Behind its step one instruction of the machine is left: what was on its way there is let go.
abbrev pub is_tidied : Instr → Bool
is_tidied (core.Print ps into o) = true
is_tidied (core.Pick t k into from) = true
is_tidied (core.Drop s k) = true
is_tidied (core.Keep l from words) = true
is_tidied (core.Take l from words n) = true
is_tidied i = false

-- How far a process is, so far behind the begin of a row.
abbrev pub rank : Row → (offset : ℕ) → ℕ
rank r zero = 2
rank r (suc n) = if is_tidied r.instr && nat_eq (suc (suc n)) r.size then 1 else 2 + suc n

abbrev pub within : List Row → (offset : ℕ) → ℕ
within [] n = 0
within (r ∷ rs) n = if nat_lt n r.size then rank r n else within rs (n - r.size)

abbrev pub larger : ℕ → ℕ → ℕ
larger a b = if nat_le a b then b else a

abbrev pub longest : List Row → ℕ
longest [] = 0
longest (r ∷ rs) = larger r.size (longest rs)

module _ (m : typed.Module) where
  abbrev pub row_of : typed.Function → (pc : ℕ) → Instr → Row
  row_of f pc i = record { instr = i; size = size_at m f.of.answer (of_function m f) pc (Some i) }

  abbrev pub rows_from : typed.Function → (pc : ℕ) → List Instr → List Row
  rows_from f pc [] = []
  rows_from f pc (i ∷ is) = row_of f pc i ∷ rows_from f (suc pc) is

  abbrev pub rows_of : List typed.Function → List Row
  rows_of [] = []
  rows_of (f ∷ fs) = rows_from f 0 (of_function m f).code ++ rows_of fs

  abbrev pub rows : List Row
  rows = rows_of m.functions

  -- How far a process is: in the entry its place, and behind it how far it is in its row.
  abbrev pub place : Process → ℕ
  place q =
      if nat_lt q.frame.pc (entry_size m (init_of m)) then q.frame.pc
      else within rows (q.frame.pc - entry_size m (init_of m))

  abbrev pub bound : ℕ
  bound = 3 + longest rows

  -- From here the machine's process has a way, of at least one instruction, to where both stand alike again.
  abbrev pub RowGoes : Facts → ℕ → World → code.Process → Process → Type 0
  RowGoes k i x p q = (n : ℕ) × ways.Way (sides m) place (suc n) k i x p q

  -- An instruction's row leads so far wherever two processes stand alike in front of it.
  abbrev pub InstrGoes : Instr → Type 0
  InstrGoes instr =
      (k : Facts) (i : ℕ) (x : World) (p : code.Process) (q : Process) → (sides m).ready k i x p q →
      slice_get p.frame.code p.frame.pc ≡ Some instr → RowGoes k i x p q

  -- A process in a row is as far as it is behind the row's begin, and none is further than a bound.
  pub record ArePlaces : Type 0 where
    pub ranked : (number : ℕ) (f : typed.Function) (pc : ℕ) (instr : Instr) (j : ℕ) (q : Process) → slice_get m.functions number ≡ Some f →
        slice_get (of_function m f).code pc ≡ Some instr → j < (row_of f pc instr).size → q.frame.pc ≡ place_of m number f pc + j →
        place q ≡ rank (row_of f pc instr) j
    pub bounded : (q : Process) → place q < bound

  -- ---- what other laws give

  -- What a process refers to is there.
  abbrev pub AreThere : World → Process → Type 0
  AreThere x q = (n : ℕ) → 0 < machine.names q n → there (at x.heap n) ≡ true

  abbrev pub site_of : (number : ℕ) → typed.Function → (pc at : ℕ) → Site
  site_of n f pc at = site m f.of.answer (of_function m f) (base_of m) (type_number m) (frame_number m) (base_of m n) pc at

  -- The code of an instruction stands in the object, and its data stand from some byte on among the module's constants.
  pub record RowStands (number : ℕ) (f : typed.Function) (pc : ℕ) (instr : Instr) : Type 0 where
    pub at : ℕ
    pub insts : (j : ℕ) (i : Inst) → slice_get (code_of (site_of number f pc at) instr) j ≡ Some i →
        slice_get (object_of m).insts (place_of m number f pc + j) ≡ Some i
    pub stand : (c : Constant) → Has (constants_from m at (data_at m f.of.answer (of_function m f) pc instr)) c → Has (constants m) c

  pub record Base : Type 0 where
    -- two that stand for one another do so while others step, with the same function
    pub ready_later : (k now : Facts) (i : ℕ) (x y : World) (p : code.Process) (q : Process) (r : Ready m k i x p q) →
        (sides m).leaves i k now x y → HoldTheSame m now i y p q →
        (after : Ready m now i y p q) × (after.stands.is.number ≡ r.stands.is.number)
    -- so do two on their way through a row; each frame is as it was
    pub stands_later : (k now : Facts) (i : ℕ) (x y : World) (busy : List ℕ) (a : Answer) (p : code.Process) (q : Process)
        (s : Stands m k i x busy a p q) → (sides m).leaves i k now x y → HoldTheSame m now i y p q →
        (after : Stands m now i y busy a p q) × SameFrame m k now i x y s.is after.is
    -- a block that stands for nothing, which the process made and refers to, is as it was
    pub mine_later : (k now : Facts) (i : ℕ) (x y : World) (p : code.Process) (q : Process) → (sides m).leaves i k now x y →
        HoldTheSame m now i y p q → (b : ℕ) → 0 < machine.names q b → Free k b → k.maker b ≡ Some i → IsKept now x.heap y.heap b
    -- two on their way hold the same, where what the machine's refers to is there
    pub holds_on_way : (k : Facts) (i : ℕ) (w : Shared) (x : World) (busy : List ℕ) (a : Answer) (p : code.Process) (q : Process)
        (s : Stands m k i x busy a p q) → (sides m).worlds k w x → AreThere x q →
        OnTheWay m k i x (code.process_names p) busy a q s.is.function → BusyLead m k i x busy p q → HoldTheSame m k i x p q
    -- so do two that are ready
    pub holds_again : (k : Facts) (i : ℕ) (w : Shared) (x : World) (p : code.Process) (q : Process) → Ready m k i x p q →
        (sides m).worlds k w x → AreThere x q → HoldTheSame m k i x p q
    -- and it is so behind a step if it was so in front of it
    pub there_again : (x y : World) (q r : Process) → (sides m).code.step x q ≡ Went y r → IsClosed (blocks (contents m) x.heap) →
        AreThere x q → AreThere y r
    pub row_stands : (number : ℕ) (f : typed.Function) (pc : ℕ) (instr : Instr) → slice_get m.functions number ≡ Some f →
        slice_get (of_function m f).code pc ≡ Some instr → RowStands number f pc instr
    -- where an instruction is, the object has code
    pub inside : (number : ℕ) (f : typed.Function) (pc : ℕ) (instr : Instr) → slice_get m.functions number ≡ Some f →
        slice_get (of_function m f).code pc ≡ Some instr → place_of m number f pc < length (object_of m).insts

abbrev pub PlacesAre : Type 0
PlacesAre = (m : typed.Module) → ArePlaces m

-- ---- rows

-- A jump, forth and back, goes where the other goes.
abbrev pub JumpsGo : Type 0
JumpsGo = (m : typed.Module) → Base m → (n : ℕ) → InstrGoes m (core.Jump n)

abbrev pub BacksGo : Type 0
BacksGo = (m : typed.Module) → Base m → (n : ℕ) → InstrGoes m (core.Back n)

-- A branch by the int of a slot, where that is 0.
abbrev pub UnlessGoes : Type 0
UnlessGoes = (m : typed.Module) → Base m → (condition n : ℕ) → InstrGoes m (core.Unless condition n)

-- A branch by what was decided, where that isn't 0.
abbrev pub MirrorsGo : Type 0
MirrorsGo = (m : typed.Module) → Base m → (decision n : ℕ) → InstrGoes m (core.Mirror decision n)

-- A value that is known comes into a slot: a number, the list without items, nothing.
abbrev pub KnownGoes : Type 0
KnownGoes = (m : typed.Module) → Base m → (v : Value) (into : ℕ) → InstrGoes m (core.Known v into)

-- A constant that is a byte or an int does.
abbrev pub LiteralsGo : Type 0
LiteralsGo =
    (m : typed.Module) → Base m → (t : Ty) (z : ℤ) (into : ℕ) (from : List ℕ) → (t ≡ ty.Big → ⊥) →
    InstrGoes m (core.Give t (Literal (constant.Number z)) into from)

-- A text that is a constant does.
abbrev pub TextsGo : Type 0
TextsGo =
    (m : typed.Module) → Base m → (t : Ty) (cs : List ℕ) (into : ℕ) (from : List ℕ) →
    InstrGoes m (core.Give t (Literal (constant.Chars cs)) into from)

-- What is calculated from two bytes or two ints does, or both processes end as broken.
abbrev pub ArithmeticGoes : Type 0
ArithmeticGoes =
    (m : typed.Module) → Base m → (t : Ty) (o : Operator) (j : Kind) (into : ℕ) (from : List ℕ) → (j ≡ Big → ⊥) →
    InstrGoes m (core.Give t (Operate (Arithmetic o j)) into from)

-- So does a byte or an int that is shifted.
abbrev pub ShiftsGo : Type 0
ShiftsGo =
    (m : typed.Module) → Base m → (t : Ty) (h : Shift) (j : Kind) (into : ℕ) (from : List ℕ) → (j ≡ Big → ⊥) →
    InstrGoes m (core.Give t (Operate (OfShift h j)) into from)

-- So does a byte that becomes an int, and an int that becomes a byte.
abbrev pub ConvertsGo : Type 0
ConvertsGo =
    (m : typed.Module) → Base m → (t : Ty) (j l : Kind) (into : ℕ) (from : List ℕ) → (j ≡ Big → ⊥) → (l ≡ Big → ⊥) → (j ≡ l → ⊥) →
    InstrGoes m (core.Give t (Operate (Convert j l)) into from)

-- The truth of an int comes into a slot: the machine branches, and comes to the end by one of two ways.
abbrev pub TruthsGo : Type 0
TruthsGo = (m : typed.Module) → Base m → (into from : ℕ) → InstrGoes m (core.Truth into from)

-- So do the denial of an int, and how two bytes or two ints compare.
abbrev pub DenialsGo : Type 0
DenialsGo = (m : typed.Module) → Base m → (t : Ty) (into : ℕ) (from : List ℕ) → InstrGoes m (core.Give t (Operate Not) into from)

abbrev pub ComparesGo : Type 0
ComparesGo =
    (m : typed.Module) → Base m → (t : Ty) (c : Comparison) (j : Kind) (into : ℕ) (from : List ℕ) → (j ≡ Big → ⊥) →
    InstrGoes m (core.Give t (Operate (Compare c j)) into from)
