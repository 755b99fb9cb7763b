-- What the object of a module has: the code of each instruction in its place, types, and data that lie apart.
use Rattle.std.specs.Prelude.{ℕ, suc, ◌+◌, ◌-◌, ◌%◌, ◌≡◌, ◌<◌, ◌≤◌, ◌⊎◌, List, length, take, Option, Some, slice_get}
use Rattle.limbo_layout.specs.Adts.{Has}
use Rattle.limbo_typed.specs.Typed as typed
use Rattle.dis_isa.specs.declared.inst.Inst.{Inst}
use Rattle.core_code.specs.Code as core
use Rattle.core_code.specs.Code.{Instr}
use Rattle.value_frames.specs.Frames.{room_for, row_of}
use Rattle.value_heaps.specs.Blocks.{Constant, globals_place}
use Rattle.value_code.specs.Data.{Datum, Named}
use Rattle.value_code.specs.Code.{Site, code_of, named_by}
use Rattle.value_code.specs.Objects.{adts, globals, desc_of, frame_desc, end_of, told_at, data_at, of_function, init_of}
use Rattle.value_code.specs.Objects.{base_of, entry, data_place, type_number, frame_number, code_begins, data_begins, site_at}
use Rattle.value_code.specs.Objects.{datum_constant, constants, data_size, object_of}

module _ (m : typed.Module) where
  -- the instruction of a function, at a place in its code
  abbrev pub instruction_at : typed.Function → (pc : ℕ) → Option Instr
  instruction_at f pc = slice_get (of_function m f).code pc

  -- what an instruction names there, and its data
  abbrev pub names_at : typed.Function → (pc : ℕ) → Instr → List Named
  names_at f pc i = named_by (adts m) f.of.answer (told_at m f.of.answer (of_function m f) pc) i

  abbrev pub own_data : typed.Function → (pc : ℕ) → Instr → List Datum
  own_data f pc i = data_at m f.of.answer (of_function m f) pc i

  -- The places with which the code of an instruction is made are those where code and data begin.
  pub record SitesLie (n : ℕ) (f : typed.Function) (pc : ℕ) : Type 0 where
    pub here : (site_at m n f pc).here ≡ code_begins m n f pc
    pub past : (k : ℕ) → (site_at m n f pc).past k ≡ code_begins m n f (suc pc + k)
    pub back : (k : ℕ) → (site_at m n f pc).back k ≡ code_begins m n f (pc - k)
    pub entries : (k : ℕ) → (site_at m n f pc).entries k ≡ base_of m k
    pub at : (site_at m n f pc).at ≡ data_begins m n f pc

-- Two instructions see the same, and the same is told of slots.
pub record SeeTheSame (c d : Site) : Type 0 where
  pub scene : c.scene ≡ d.scene
  pub answer : c.answer ≡ d.answer
  pub told : c.told ≡ d.told

pub record ObjectsHave : Type 0 where
  -- the code of each instruction of each function is there, from where it begins on, and that of the next one behind it
  pub code : (m : typed.Module) (n : ℕ) (f : typed.Function) (pc : ℕ) (i : Instr) (j : ℕ) (c : Inst) →
      slice_get m.functions n ≡ Some f → instruction_at m f pc ≡ Some i → slice_get (code_of (site_at m n f pc) i) j ≡ Some c →
      slice_get (object_of m).insts (code_begins m n f pc + j) ≡ Some c
  pub next : (m : typed.Module) (n : ℕ) (f : typed.Function) (pc : ℕ) (i : Instr) → slice_get m.functions n ≡ Some f →
      instruction_at m f pc ≡ Some i → code_begins m n f (suc pc) ≡ code_begins m n f pc + length (code_of (site_at m n f pc) i)
  pub places : (m : typed.Module) (n : ℕ) (f : typed.Function) (pc : ℕ) → SitesLie m n f pc
  -- a function whose code ends with a return has code at each of its places
  pub within : (m : typed.Module) (n : ℕ) (f : typed.Function) (pc : ℕ) (r : Option ℕ) → slice_get m.functions n ≡ Some f →
      pc < length (of_function m f).code → instruction_at m f (length (of_function m f).code - 1) ≡ Some (core.Return r) →
      code_begins m n f pc < length (object_of m).insts
  pub entry_place : (m : typed.Module) (n : ℕ) (f : typed.Function) → base_of m n ≡ code_begins m n f 0
  -- the types that an instruction names, and those of frames, have their numbers
  pub types : (m : typed.Module) (n : ℕ) (f : typed.Function) (pc : ℕ) (i : Instr) (d : Named) → slice_get m.functions n ≡ Some f →
      instruction_at m f pc ≡ Some i → Has (names_at m f pc i) d → slice_get (object_of m).types (type_number m d) ≡ Some (desc_of m d)
  pub frames : (m : typed.Module) (n : ℕ) (f : typed.Function) → slice_get m.functions n ≡ Some f →
      slice_get (object_of m).types (frame_number m n) ≡ Some (frame_desc m (of_function m f))
  -- each datum of an instruction is behind those in front of it
  pub datum : (m : typed.Module) (n : ℕ) (f : typed.Function) (pc : ℕ) (i : Instr) (k : ℕ) (d : Datum) →
      slice_get m.functions n ≡ Some f → instruction_at m f pc ≡ Some i → slice_get (own_data m f pc i) k ≡ Some d →
      Has (constants m) (datum_constant m (end_of m (data_begins m n f pc) (take k (own_data m f pc i))) d)
  -- how long the code of an instruction is doesn't depend on places and numbers
  pub sizes_agree : (c d : Site) (i : Instr) → SeeTheSame c d → length (code_of c i) ≡ length (code_of d i)

-- Nothing else lies where a constant does: neither the module's variables, nor another constant, each of which has a number; each lies
-- in the data, at a multiple of 4, and behind the variables at a multiple of 8.
module _ (m : typed.Module) where
  abbrev pub past_end : Constant → ℕ
  past_end c = c.at + (room_for (adts m) c.type).size

  pub record ConstantsLie : Type 0 where
    pub variables : (c : Constant) → Has (constants m) c →
        (past_end c ≤ globals_place) ⊎ (globals_place + (row_of (adts m) (globals m)).size ≤ c.at)
    pub apart : (j k : ℕ) (c d : Constant) → slice_get (constants m) j ≡ Some c → slice_get (constants m) k ≡ Some d → j < k →
        past_end c ≤ d.at
    pub within : (c : Constant) → Has (constants m) c → past_end c ≤ data_size m
    pub words : (c : Constant) → Has (constants m) c → c.at % 4 ≡ 0
    pub longs : (c : Constant) → Has (constants m) c → data_place m ≤ c.at → c.at % 8 ≡ 0

abbrev pub ConstantsLieApart : Type 0
ConstantsLieApart = (m : typed.Module) → ConstantsLie m

-- The object's code begins with the entry.
abbrev pub EntriesBegin : Type 0
EntriesBegin = (m : typed.Module) (j : ℕ) (c : Inst) → slice_get (entry m (init_of m)) j ≡ Some c → slice_get (object_of m).insts j ≡ Some c
