-- The object of a checked module over values (dis(6)).
use Rattle.std.specs.Prelude.{ℕ, zero, suc, ℤ, Bool, false, ◌||◌, ◌+◌, ◌*◌, ◌-◌, List, [], ◌∷◌, ◌++◌, length, take, drop}
use Rattle.std.specs.Prelude.{map, option_map}
use Rattle.std.specs.Prelude.{Option, None, Some, slice_index_or, slice_get, if◌then◌else◌, codes}
use Rattle.std.specs.Str.{bytes_eq}
use Rattle.std.specs.Int.{next_multiple_of, to_be_bytes, cast_unsigned, w32}
use Rattle.limbo_types.specs.Types as ty
use Rattle.limbo_types.specs.Types.{Ty}
use Rattle.limbo_layout.specs.Adts.{Def}
use Rattle.limbo_typed.specs.Typed as typed
use Rattle.limbo_typed.specs.declared.module.Initial.{Initial}
use Rattle.limbo_typed.specs.declared.stmt.Constant.{Constant}
use Rattle.limbo_typed.specs.declared.stmt.Constant.TheVariants as constant
use Rattle.limbo_meaning.specs.Values.{Value, Num, Chars, Ref, zero_of}
use Rattle.limbo_meaning.specs.Program.{routine_of}
use Rattle.dis_file.specs.declared.types.TypeDesc.{TypeDesc}
use Rattle.dis_file.specs.declared.object.Item.{Item}
use Rattle.dis_file.specs.declared.object.Object.{Object}
use Rattle.dis_isa.specs.declared.inst.Middle.TheVariants as middle
use Rattle.dis_isa.specs.declared.inst.Operand.TheVariants as operand
use Rattle.dis_isa.specs.declared.op.Op.TheVariants as op
use Rattle.dis_memory.specs.Arrays.{are_alike}
use Rattle.dis_objects.specs.Objects.{sys_imports, init_links, string_item, word_item, long_item}
use Rattle.core_code.specs.Code.{Instr, Function}
use Rattle.core_code.specs.Statements.{function_of}
use Rattle.core_typing.specs.Needs.{printed}
use Rattle.value_frames.specs.Types.{desc}
use Rattle.value_frames.specs.Frames.{box_bytes, region_references, turn_bytes, turn_references, linkage_bytes, frame_bytes}
use Rattle.value_frames.specs.Frames.{frame_references, row_of, room_for, within_row}
use Rattle.value_heaps.specs.Blocks as heaps
use Rattle.value_heaps.specs.Blocks.{globals_place}
use Rattle.value_moves.specs.Operands.{Code, inst, own}
use Rattle.value_code.specs.Data.{Datum, Text, Word, Long, Zero, datum_room, Named}
use Rattle.value_code.specs.Data.{OfValue, OfRecord, OfFront, PrintFrame, OfRegion, OfTurn}
use Rattle.value_code.specs.Operands.{Scene}
use Rattle.value_code.specs.Works.{jump_to}
use Rattle.value_code.specs.Code.{Site, front_of, named_by, data_of, code_of}
use Rattle.core_typing.specs.Written.{told}

-- a slot to which nothing was given is empty
abbrev pub or_nothing : Option Ty → Ty
or_nothing None = ty.Nothing
or_nothing (Some t) = t

-- ---- types, each of which the object has once

abbrev pub is_known : List TypeDesc → TypeDesc → Bool
is_known [] d = false
is_known (e ∷ es) d = are_alike e d || is_known es d

-- In the order in which they come first.
abbrev pub distinct_from : (known : List TypeDesc) → List TypeDesc → List TypeDesc
distinct_from known [] = known
distinct_from known (d ∷ ds) = if is_known known d then distinct_from known ds else distinct_from (known ++ d ∷ []) ds

abbrev pub number_among : List TypeDesc → TypeDesc → ℕ
number_among [] d = 0
number_among (e ∷ es) d = if are_alike e d then 0 else suc (number_among es d)

module _ (m : typed.Module) where
  abbrev pub adts : List Def
  adts = m.adts

  abbrev pub globals : List Ty
  globals = map (λ (v : typed.Var). v.ty) m.globals

  abbrev pub functions : List Function
  functions = map (λ (f : typed.Function). function_of m.adts (routine_of f)) m.functions

  abbrev pub desc_of : Named → TypeDesc
  desc_of (OfValue t) = desc (room_for adts t).size (room_for adts t).references
  desc_of (OfRecord t) = desc (box_bytes adts t) (room_for adts t).references
  desc_of (OfFront us) = desc (front_of adts us) (row_of adts us).references
  desc_of (PrintFrame ps) =
      let row = row_of adts (ty.Chars ∷ printed ps) in
      desc (next_multiple_of (linkage_bytes + row.size) 4) (map (λ o. linkage_bytes + o) row.references)
  desc_of (OfRegion n) = desc (8 * n) (region_references 0 n)
  desc_of (OfTurn n) = desc (turn_bytes n) (turn_references n)

  abbrev pub frame_desc : Function → TypeDesc
  frame_desc g = desc (frame_bytes adts g.variables g.slots) (frame_references adts g.variables g.slots)

  -- ---- data: each datum takes a multiple of 8 bytes

  abbrev pub datum_bytes : Datum → ℕ
  datum_bytes d = next_multiple_of (datum_room adts d).size 8

  abbrev pub end_of : (at : ℕ) → List Datum → ℕ
  end_of at [] = at
  end_of at (d ∷ ds) = end_of (at + datum_bytes d) ds

  -- ---- one function: its answer, and where its code, its data and its types begin

  module _ (answer : Ty) (g : Function) where
    abbrev pub scene : Scene
    scene = record { adts = adts; globals = globals; variables = g.variables }

    abbrev pub told_at : (pc : ℕ) → ℕ → Ty
    told_at pc s = or_nothing (told g.code pc s)

    abbrev pub blank_site : (pc : ℕ) → Site
    blank_site pc = record {
      scene = scene;
      entries = λ f. 0;
      answer = answer;
      told = told_at pc;
      here = 0;
      past = λ n. 0;
      back = λ n. 0;
      at = 0;
      type_number = λ n. 0;
      frame_number = λ f. 0;
    }

    -- how many instructions of the machine one becomes, which doesn't depend on where it stands
    abbrev pub size_at : (pc : ℕ) → Option Instr → ℕ
    size_at pc None = 0
    size_at pc (Some i) = length (code_of (blank_site pc) i)

    abbrev pub sizes : (pc : ℕ) → ℕ
    sizes zero = 0
    sizes (suc pc) = sizes pc + size_at pc (slice_get g.code pc)

    abbrev pub data_at : (pc : ℕ) → Instr → List Datum
    data_at pc i = data_of adts answer (told_at pc) i

    module _ (entries : ℕ → ℕ) (type_number : Named → ℕ) (frame_number : ℕ → ℕ) (base : ℕ) where
      abbrev pub site : (pc at : ℕ) → Site
      site pc at = record {
        scene = scene;
        entries = entries;
        answer = answer;
        told = told_at pc;
        here = base + sizes pc;
        past = λ n. base + sizes (suc pc + n);
        back = λ n. base + sizes (pc - n);
        at = at;
        type_number = type_number;
        frame_number = frame_number;
      }

      abbrev pub insts : (pc at : ℕ) → List Instr → Code
      insts pc at [] = []
      insts pc at (i ∷ is) = code_of (site pc at) i ++ insts (suc pc) (end_of at (data_at pc i)) is

    abbrev pub all_data : (pc : ℕ) → List Instr → List Datum
    all_data pc [] = []
    all_data pc (i ∷ is) = data_at pc i ++ all_data (suc pc) is

    abbrev pub all_named : (pc : ℕ) → List Instr → List Named
    all_named pc [] = []
    all_named pc (i ∷ is) = named_by adts answer (told_at pc) i ++ all_named (suc pc) is

  -- ---- all functions

  abbrev pub of_function : typed.Function → Function
  of_function f = function_of m.adts (routine_of f)

  abbrev pub function_size : typed.Function → ℕ
  function_size f = sizes f.of.answer (of_function f) (length (of_function f).code)

  abbrev pub function_data : typed.Function → List Datum
  function_data f = all_data f.of.answer (of_function f) 0 (of_function f).code

  abbrev pub function_named : typed.Function → List Named
  function_named f = all_named f.of.answer (of_function f) 0 (of_function f).code

  abbrev pub size_before : List typed.Function → ℕ → ℕ
  size_before fs zero = 0
  size_before [] (suc n) = 0
  size_before (f ∷ fs) (suc n) = function_size f + size_before fs n

  abbrev pub find_from : ℕ → List typed.Function → Option ℕ
  find_from n [] = None
  find_from n (f ∷ fs) = if bytes_eq f.name (codes "init") then Some n else find_from (suc n) fs

  abbrev pub init_of : Option ℕ
  init_of = find_from 0 m.functions

  -- The code begins with two instructions that give the first function's answer a place that nobody reads and go to `init`; or, where there
  -- is no `init`, with one that ends the process.
  abbrev pub entry_size : Option ℕ → ℕ
  entry_size None = 1
  entry_size (Some n) = 2

  abbrev pub base_of : ℕ → ℕ
  base_of n = entry_size init_of + size_before m.functions n

  abbrev pub entry : Option ℕ → Code
  entry None = inst op.Ret operand.None middle.None operand.None ∷ []
  entry (Some n) = inst op.Lea (own 20) middle.None (own 16) ∷ jump_to (base_of n) ∷ []

  abbrev pub data_place : ℕ
  data_place = next_multiple_of (globals_place + (row_of adts globals).size) 8

  abbrev pub in_all : {A : Type 0} → (typed.Function → List A) → List typed.Function → List A
  in_all g [] = []
  in_all g (f ∷ fs) = g f ++ in_all g fs

  -- The types that code names come first, since a middle operand has 16 bits; then the frames of functions.
  abbrev pub named_descs : List TypeDesc
  named_descs = distinct_from [] (map desc_of (in_all function_named m.functions))

  abbrev pub type_number : Named → ℕ
  type_number n = suc (number_among named_descs (desc_of n))

  abbrev pub frame_number : ℕ → ℕ
  frame_number f = suc (length named_descs) + f

  abbrev pub functions_code : (number at : ℕ) → List typed.Function → Code
  functions_code n at [] = []
  functions_code n at (f ∷ fs) =
      insts f.of.answer (of_function f) base_of type_number frame_number (base_of n) 0 at (of_function f).code
      ++ functions_code (suc n) (end_of at (function_data f)) fs

  -- ---- where the code of an instruction begins, and its data, behind all data in front; and what the code is made with

  abbrev pub code_begins : (number : ℕ) → typed.Function → (pc : ℕ) → ℕ
  code_begins n f pc = base_of n + sizes f.of.answer (of_function f) pc

  abbrev pub data_in_front : (number : ℕ) → typed.Function → (pc : ℕ) → List Datum
  data_in_front n f pc =
      in_all function_data (take n m.functions) ++ all_data f.of.answer (of_function f) 0 (take pc (of_function f).code)

  abbrev pub data_begins : (number : ℕ) → typed.Function → (pc : ℕ) → ℕ
  data_begins n f pc = end_of data_place (data_in_front n f pc)

  abbrev pub site_at : (number : ℕ) → typed.Function → (pc : ℕ) → Site
  site_at n f pc = site f.of.answer (of_function f) base_of type_number frame_number (base_of n) pc (data_begins n f pc)

  -- ---- what stands in the module's data

  abbrev pub datum_items : ℕ → Datum → List Item
  datum_items at (Text t) = string_item at t ∷ []
  datum_items at (Word z) = word_item at z ∷ []
  datum_items at (Long z) = long_item at z ∷ []
  datum_items at (Zero t) = []

  abbrev pub items_from : ℕ → List Datum → List Item
  items_from at [] = []
  items_from at (d ∷ ds) = datum_items at d ++ items_from (at + datum_bytes d) ds

  abbrev pub data_references : ℕ → List Datum → List ℕ
  data_references at [] = []
  data_references at (d ∷ ds) =
      map (λ o. at + o) (datum_room adts d).references ++ data_references (at + datum_bytes d) ds

  abbrev pub byte_item : (offset : ℕ) → ℤ → Item
  byte_item offset z = record { kind = 1; count = 1; offset = offset; content = drop 3 (to_be_bytes w32 (cast_unsigned w32 z)) }

  -- what a variable of the module begins with
  abbrev pub initial_items : Ty → (at : ℕ) → Constant → List Item
  initial_items ty.Byte at (constant.Number z) = byte_item at z ∷ []
  initial_items ty.Big at (constant.Number z) = long_item at z ∷ []
  initial_items t at (constant.Number z) = word_item at z ∷ []
  initial_items t at (constant.Chars cs) = string_item at cs ∷ []

  abbrev pub globals_items : List Initial → List Item
  globals_items [] = []
  globals_items (i ∷ is) =
      initial_items (slice_index_or globals i.global ty.Nothing) (globals_place + within_row adts globals i.global) i.value
      ++ globals_items is

  -- The same as values of types, beside the path of Sys and the word that refers to nothing.
  abbrev pub placed : (at : ℕ) → Ty → Value → heaps.Constant
  placed at t v = record { at = at; type = t; value = v }

  abbrev pub datum_constant : (at : ℕ) → Datum → heaps.Constant
  datum_constant at (Text t) = placed at ty.Chars (Chars t)
  datum_constant at (Word z) = placed at ty.Int (Num z)
  datum_constant at (Long z) = placed at ty.Big (Num z)
  datum_constant at (Zero t) = placed at t (zero_of adts t)

  abbrev pub constants_from : (at : ℕ) → List Datum → List heaps.Constant
  constants_from at [] = []
  constants_from at (d ∷ ds) = datum_constant at d ∷ constants_from (at + datum_bytes d) ds

  -- ---- the object

  abbrev pub all_data_of : List Datum
  all_data_of = in_all function_data m.functions

  abbrev pub constants : List heaps.Constant
  constants = placed 0 ty.Chars (Chars (codes "$Sys")) ∷ placed 4 ty.Nil (Ref None) ∷ constants_from data_place all_data_of

  abbrev pub data_size : ℕ
  data_size = next_multiple_of (end_of data_place all_data_of) 4

  -- The frame that the module starts with is that of `init`; where there is none, it has the type of the data, which is always there.
  abbrev pub entry_type : Option ℕ → ℕ
  entry_type None = 0
  entry_type (Some n) = frame_number n

  abbrev pub object_of : Object
  object_of = record {
    flags = 0x100;
    stack = 0;
    data_size = data_size;
    entry_pc = 0;
    entry_type = entry_type init_of;
    insts = entry init_of ++ functions_code 0 data_place m.functions;
    types = desc data_size (0 ∷ 4 ∷ map (λ o. globals_place + o) (row_of adts globals).references ++ data_references data_place all_data_of)
        ∷ (named_descs ++ map (λ (f : typed.Function). frame_desc (of_function f)) m.functions);
    items = string_item 0 (codes "$Sys") ∷ (globals_items m.initials ++ items_from data_place all_data_of);
    «module» = m.name;
    links = init_links (option_map (λ n. length named_descs + n) init_of);
    imports = sys_imports ∷ [];
    catches = [];
  }
