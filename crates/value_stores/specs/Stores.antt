-- What lies in a block that stands for a value of the source's heap, and for what it stands once part of that is written.
use Rattle.std.specs.Prelude.{ℕ, ◌+◌, ◌*◌, ◌≡◌, ◌≤◌, ◌⊎◌, List, Option, Some, length, slice_get, slice_set}
use Rattle.limbo_types.specs.Types as ty
use Rattle.limbo_types.specs.Types.{Ty}
use Rattle.limbo_layout.specs.Adts.{Def, Has}
use Rattle.limbo_meaning.specs.Values.{Value}
use Rattle.limbo_meaning.specs.Memory as source
use Rattle.limbo_meaning.specs.Places.{with_part}
use Rattle.dis_file.specs.declared.types.TypeDesc.{TypeDesc}
use Rattle.dis_meaning.specs.Words.{Word}
use Rattle.dis_memory.specs.Blocks as block
use Rattle.value_words.specs.Facts.{Facts}
use Rattle.value_words.specs.Forms as form
use Rattle.value_words.specs.Forms.{Cells, Adts}
use Rattle.value_heaps.specs.Types.{desc_of}
use Rattle.value_heaps.specs.Blocks.{Constant, IsBlock, globals_place}
use Rattle.value_frames.specs.Frames.{room_for, row_of, within_row, within, type_within}
use Rattle.value_moves.specs.Writing.{Writes, Lies, HasRoom}
use Rattle.value_stores.specs.Paths.{HasPath, room_within}

-- A value of a type lies there, and there is room for another.
abbrev pub IsPlaced : List Def → Facts → List Word → (at : ℕ) → Ty → Value → Type 0
IsPlaced defs k words at t v = Lies defs k words at t (room_for defs t) v × HasRoom defs words at t (room_for defs t)

-- Another value lies where part of one of a type that lies at a place was: all else is as it was.
pub record PartIsWritten (defs : List Def) (k : Facts) (target others : List Word) (at : ℕ) (t : Ty) (part : List ℕ) (u : Value)
    : Type 0 where
  pub source : List Word
  pub from : ℕ
  pub path : HasPath defs t part
  pub writes : Writes target others (at + within defs t part) source from (room_within defs t part).size
  pub lies : Lies defs k others (at + within defs t part) (type_within defs t part) (room_within defs t part) u

-- No constant lies where the module's variables do.
abbrev pub ConstantsApart : List Def → (globals : List Ty) → List Constant → Type 0
ConstantsApart defs globals constants =
    (c : Constant) → Has constants c →
    (c.at + (room_for defs c.type).size ≤ globals_place) ⊎ (globals_place + (row_of defs globals).size ≤ c.at)

pub record BlocksChange (defs : List Def) (globals : List Ty) (constants : List Constant) (k : Facts) (serial : ℕ) : Type 0 where
  -- an array has as many elements as its block says, which are laid out by its type
  pub array_is : (t : Ty) (desc : TypeDesc) (long n : ℕ) (words : List Word) (vs : List Value) →
      IsBlock defs globals constants k serial (source.Elements vs) (block.Array desc long words) →
      k.form serial ≡ Some (form.Elements t n) →
      (length vs ≡ long) × (long ≡ n) × (desc ≡ desc_of (room_for defs t))
  -- an element of it
  pub element_lies : (t : Ty) (desc : TypeDesc) (long n : ℕ) (words : List Word) (vs : List Value) (i : ℕ) (v : Value) →
      IsBlock defs globals constants k serial (source.Elements vs) (block.Array desc long words) →
      k.form serial ≡ Some (form.Elements t n) → slice_get vs i ≡ Some v →
      IsPlaced defs k words (i * (room_for defs t).size) t v
  -- part of one is written
  pub element : (t : Ty) (desc : TypeDesc) (long n : ℕ) (words others : List Word) (vs : List Value) (i : ℕ) (v u : Value)
      (part : List ℕ) →
      IsBlock defs globals constants k serial (source.Elements vs) (block.Array desc long words) →
      k.form serial ≡ Some (form.Elements t n) → slice_get vs i ≡ Some v →
      PartIsWritten defs k words others (i * (room_for defs t).size) t part u →
      IsBlock defs globals constants k serial (source.Elements (slice_set vs i (with_part part u v))) (block.Array desc long others)
  -- the adt of a `ref`
  pub record_lies : (n : ℕ) (words : List Word) (v : Value) →
      IsBlock defs globals constants k serial (source.Record v) (block.Record words) → k.form serial ≡ Some (Adts n) →
      IsPlaced defs k words 0 (ty.Adt n) v
  pub record_part : (n : ℕ) (words others : List Word) (v u : Value) (part : List ℕ) →
      IsBlock defs globals constants k serial (source.Record v) (block.Record words) → k.form serial ≡ Some (Adts n) →
      PartIsWritten defs k words others 0 (ty.Adt n) part u →
      IsBlock defs globals constants k serial (source.Record (with_part part u v)) (block.Record others)
  -- a variable of the module
  pub global_lies : (object : ℕ) (words : List Word) (vs : List Value) (g : ℕ) (t : Ty) (v : Value) →
      IsBlock defs globals constants k serial (source.Instance vs) (block.Instance object words) →
      slice_get globals g ≡ Some t → slice_get vs g ≡ Some v →
      IsPlaced defs k words (globals_place + within_row defs globals g) t v
  pub global : (object : ℕ) (words others : List Word) (vs : List Value) (g : ℕ) (t : Ty) (v u : Value) (part : List ℕ) →
      IsBlock defs globals constants k serial (source.Instance vs) (block.Instance object words) → ConstantsApart defs globals constants →
      slice_get globals g ≡ Some t → slice_get vs g ≡ Some v →
      PartIsWritten defs k words others (globals_place + within_row defs globals g) t part u →
      IsBlock defs globals constants k serial (source.Instance (slice_set vs g (with_part part u v))) (block.Instance object others)
  -- what is in a cell of a list
  pub cell_lies : (t : Ty) (words : List Word) (v : Value) (tail rest : Option ℕ) →
      IsBlock defs globals constants k serial (source.Cell v tail) (block.Cell words rest) → k.form serial ≡ Some (Cells t) →
      IsPlaced defs k words 0 t v

-- So it is of the blocks of each module.
abbrev pub AllBlocksChange : Type 0
AllBlocksChange =
    (defs : List Def) (globals : List Ty) (constants : List Constant) (k : Facts) (serial : ℕ) →
    BlocksChange defs globals constants k serial
