-- When a block of the machine stands for a value of the source's heap, by the form that is known of it.
use Rattle.std.specs.Prelude.{ℕ, pos, ◌+◌, ◌*◌, ◌%◌, ◌≡◌, ◌<◌, ◌≤◌, ◌⊎◌, List, Option, Some, length, slice_get}
use Rattle.heap_model.specs.Facts.{Chars}
use Rattle.limbo_types.specs.Types as ty
use Rattle.limbo_types.specs.Types.{Ty}
use Rattle.limbo_layout.specs.Adts.{Def, Has}
use Rattle.limbo_layout.specs.Layout.{Room, nothing, Laid, AllLaid, all_behind}
use Rattle.limbo_values.specs.declared.number.Kind.TheVariants as kind
use Rattle.limbo_values.specs.Numbers.{InRange}
use Rattle.limbo_meaning.specs.Values.{Value}
use Rattle.limbo_meaning.specs.Memory as source
use Rattle.limbo_meaning.specs.Memory.{HeapValue}
use Rattle.dis_file.specs.declared.types.TypeDesc.{TypeDesc}
use Rattle.dis_meaning.specs.Words.{Word, Refer}
use Rattle.dis_memory.specs.Blocks as block
use Rattle.dis_memory.specs.Blocks.{Block}
use Rattle.value_words.specs.Contents.{AreInRange}
use Rattle.value_words.specs.Forms as form
use Rattle.value_words.specs.Forms.{Cells, Adts, Channels, Instances}
use Rattle.value_words.specs.Facts.{Facts, IsName}
use Rattle.value_words.specs.Stands.{Stands, AllStand}
use Rattle.value_heaps.specs.Types.{desc_of}

-- A word lies among so many bytes from one on.
abbrev pub IsWithin : (at size word : ℕ) → Type 0
IsWithin at size w = (at ≤ 4 * w) × (4 * w < at + size)

-- Words that refer, to something or to nothing, lie where a value of this room that lies from a byte on has references; all others are
-- plain, also where no part of it lies.
abbrev pub ReferOnlyThere : List Word → (at : ℕ) → Room → Type 0
ReferOnlyThere words at r =
    (w : ℕ) (to : Option ℕ) → slice_get words w ≡ Some (Refer to) → IsWithin at r.size w → (o : ℕ) × Has r.references o × (at + o ≡ 4 * w)

-- So many bytes from one on lie whole in the words, and numbers in these have 32 bits, so that they can be moved.
abbrev pub AreWhole : List Word → (at size : ℕ) → Type 0
AreWhole words at size = ((w : ℕ) → IsWithin at size w → w < length words) × AreInRange words

-- The module's variables lie in the data of its instance, behind the path of Sys and two words more.
abbrev pub globals_place : ℕ
globals_place = 16

-- A value of a type that the module's code reads from its data, from this byte on, and that nothing changes: a text, a number, the zero of
-- a type.
pub record Constant : Type 0 where
  pub at : ℕ
  pub type : Ty
  pub value : Value

-- It is there.
pub record HasConstant (defs : List Def) (k : Facts) (words : List Word) (c : Constant) : Type 0 where
  pub room : Room
  pub laid : Laid defs c.type room
  pub aligned : c.at % room.align ≡ 0
  pub whole : AreWhole words c.at room.size
  pub stands : Stands defs k words c.at c.type c.value
  pub refer_only : ReferOnlyThere words c.at room

module _ (defs : List Def) (globals : List Ty) (constants : List Constant) (k : Facts) (serial : ℕ) where
  pub data IsBlock : HeapValue → Block → Type 0 where
    -- the elements of an array, one behind the other, no more than ints count
    elements : (t : Ty) (r : Room) (words : List Word) (vs : List Value) → k.form serial ≡ Some (form.Elements t (length vs))
        → Laid defs t r → InRange kind.Int (pos (length vs)) → AreWhole words 0 (length vs * r.size)
        → ((i : ℕ) (v : Value) → slice_get vs i ≡ Some v → Stands defs k words (i * r.size) t v)
        → ((w : ℕ) (to : Option ℕ) → slice_get words w ≡ Some (Refer to) →
        (i : ℕ) × (i < length vs) × ((o : ℕ) × Has r.references o × (i * r.size + o ≡ 4 * w)))
        → IsBlock (source.Elements vs) (block.Array (desc_of r) (length vs) words)
    -- a cell, with its element and what is behind it, which is older
    cell : (t : Ty) (r : Room) (words : List Word) (v : Value) (tail rest : Option ℕ) → k.form serial ≡ Some (Cells t) → Laid defs t r
        → AreWhole words 0 r.size → Stands defs k words 0 t v → ReferOnlyThere words 0 r
        → ((w b : ℕ) → slice_get words w ≡ Some (Refer (Some b)) → IsWithin 0 r.size w) → IsName k (Some (Cells t)) rest tail
        → ((b : ℕ) → rest ≡ Some b → b < serial)
        → IsBlock (source.Cell v tail) (block.Cell words rest)
    -- the adt that a `ref` names
    record_of : (n : ℕ) (r : Room) (words : List Word) (v : Value) → k.form serial ≡ Some (Adts n) → Laid defs (ty.Adt n) r
        → AreWhole words 0 r.size → Stands defs k words 0 (ty.Adt n) v → ReferOnlyThere words 0 r
        → ((w b : ℕ) → slice_get words w ≡ Some (Refer (Some b)) → IsWithin 0 r.size w)
        → IsBlock (source.Record v) (block.Record words)
    channel : (t : Ty) (desc : TypeDesc) → k.form serial ≡ Some (Channels t) → IsBlock source.Channel (block.Channel desc)
    -- the module's instance: its variables and its constants, and else only texts
    instance_of : (object : ℕ) (rs : List Room) (words : List Word) (vs : List Value) → k.form serial ≡ Some Instances
        → AllLaid defs globals rs → AreWhole words globals_place (all_behind nothing rs).size
        → AllStand defs k words globals_place nothing globals rs vs → ReferOnlyThere words globals_place (all_behind nothing rs)
        → ((w b : ℕ) → slice_get words w ≡ Some (Refer (Some b)) → IsWithin globals_place (all_behind nothing rs).size w
        ⊎ ((text : List ℕ) × (k.fact b ≡ Some (Chars text))))
        → ((c : Constant) → Has constants c → HasConstant defs k words c)
        → IsBlock (source.Instance vs) (block.Instance object words)
