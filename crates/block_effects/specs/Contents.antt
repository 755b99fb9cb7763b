-- To which blocks references lead, by what is known of blocks.
use Rattle.std.specs.Prelude.{ℕ, suc, pos, ◌+◌, ◌≡◌, ◌<◌, ◌≤◌, true, List, length, Option, Some, None}
use Rattle.heap_model.specs.Heap.{Heap, at, there}
use Rattle.heap_model.specs.Facts.{Is}
use Rattle.heap_model.specs.Contents.{Contents}
use Rattle.heap_model.specs.Worlds.{WorldsAlike}
use Rattle.limbo_types.specs.Types.{Ty}
use Rattle.limbo_layout.specs.Adts.{Def}
use Rattle.limbo_layout.specs.Layout.{Room, Laid}
use Rattle.limbo_values.specs.declared.number.Kind.TheVariants.{Int}
use Rattle.limbo_values.specs.Numbers.{InRange}
use Rattle.limbo_meaning.specs.Values as value
use Rattle.limbo_meaning.specs.Values.{Value}
use Rattle.limbo_meaning.specs.Memory as source
use Rattle.limbo_meaning.specs.Memory.{HeapValue}
use Rattle.dis_meaning.specs.Words.{Word, Found}
use Rattle.dis_memory.specs.Blocks as block
use Rattle.dis_memory.specs.Blocks.{Block, World}
use Rattle.dis_memory.specs.Kinds.{Elements, text_at, elements_at, first_cell, list_length}
use Rattle.value_words.specs.Forms as form
use Rattle.value_words.specs.Forms.{Form, Cells}
use Rattle.value_words.specs.Facts.{Facts, IsName, IsPart, IsText}
use Rattle.value_heaps.specs.Types.{desc_of}
use Rattle.value_heaps.specs.Laws.{ContentsAre}
use Rattle.value_heaps.specs.Blocks.{Constant}
use Rattle.value_heaps.specs.Contents.{contents_by}

-- Where a word refers to something, a block is there.
abbrev pub IsThere : World → Option ℕ → Type 0
IsThere x r = (b : ℕ) → r ≡ Some b → there (at x.heap b) ≡ true

-- A name, or none, is that of a list of so many cells.
pub data IsList (w : Heap HeapValue) : Option ℕ → ℕ → Type 0 where
  nothing_more : IsList w None 0
  one_more : (n : ℕ) (head : Value) (tail : Option ℕ) (m : ℕ) → at w n ≡ Some (source.Cell head tail) → IsList w tail m
      → IsList w (Some n) (suc m)

-- Counted as far as there are places, such a list has so many.
abbrev pub ListsAreCounted : Type 0
ListsAreCounted = (w : Heap HeapValue) (r : Option ℕ) (m : ℕ) → IsList w r m → source.list_length w (length w) r ≡ m

module _ (defs : List Def) (c : Contents HeapValue Block Form) where
  -- A block that stands for elements is an array of so many of them, and one that stands for a cell is one.
  pub record AreElements (t : Ty) (long : ℕ) (v : HeapValue) (b : Block) : Type 0 where
    pub vs : List Value
    pub is : v ≡ source.Elements vs
    pub many : length vs ≡ long
    pub counted : InRange Int (pos long)
    pub room : Room
    pub laid : Laid defs t room
    pub words : List Word
    pub found : b ≡ block.Array (desc_of room) long words

  pub record IsCell (k : Facts) (n : ℕ) (t : Ty) (v : HeapValue) (b : Block) : Type 0 where
    pub head : Value
    pub behind : Option ℕ
    pub is : v ≡ source.Cell head behind
    pub words : List Word
    pub rest : Option ℕ
    pub named : IsName k (Some (Cells t)) rest behind
    pub found : b ≡ block.Cell words rest
    pub holds : (q : ℕ) → rest ≡ Some q → 0 < c.words b q
    pub older : (q : ℕ) → rest ≡ Some q → q < n

  -- What is asked of contents for references to lead to strings, to arrays and to cells.
  pub record AreBlocks : Type 0 where
    pub text : (s : List ℕ) → c.text s ≡ block.Text s
    pub part : (start long array : ℕ) → c.part start long array ≡ block.Part array start long
    pub elements : (k : Facts) (n : ℕ) (t : Ty) (long : ℕ) (v : HeapValue) (b : Block) → k.form n ≡ Some (form.Elements t long) →
        c.stands k n v b → AreElements t long v b
    pub cell : (k : Facts) (n : ℕ) (t : Ty) (v : HeapValue) (b : Block) → k.form n ≡ Some (Cells t) → c.stands k n v b →
        IsCell k n t v b

  module _ (k : Facts) (w : Heap HeapValue) (x : World) where
    -- Elements are those of part of an array: of the block that stands for the array, from there on, and so many.
    pub record LeadsTo (t : Ty) (p : value.Part) (e : Elements) : Type 0 where
      pub vs : List Value
      pub is : at w p.array ≡ Some (source.Elements vs)
      pub named : Is k p.array e.array
      pub formed : k.form e.array ≡ Some (form.Elements t (length vs))
      pub found : at x.heap e.array ≡ Some (block.Array e.element (length vs) e.words)
      pub stands : c.stands k e.array (source.Elements vs) (block.Array e.element (length vs) e.words)
      pub room : Room
      pub laid : Laid defs t room
      pub element : e.element ≡ desc_of room
      pub start : e.start ≡ p.start
      pub long : e.long ≡ p.long
      -- which all are there, and no more than ints count
      pub within : p.start + p.long ≤ length vs
      pub counted : InRange Int (pos (length vs))

    -- A block is a cell, with the name of what is behind it, which is older.
    pub record LeadsToCell (t : Ty) (b n : ℕ) : Type 0 where
      pub head : Value
      pub behind : Option ℕ
      pub is : at w n ≡ Some (source.Cell head behind)
      pub words : List Word
      pub rest : Option ℕ
      pub named : IsName k (Some (Cells t)) rest behind
      pub found : at x.heap b ≡ Some (block.Cell words rest)
      pub stands : c.stands k b (source.Cell head behind) (block.Cell words rest)
      pub rest_there : IsThere x rest
      pub older : (q : ℕ) → rest ≡ Some q → q < b
      pub first : first_cell x (Some b) ≡ Found (Some (record { element = words; rest = rest }))

    -- A block stands for a value, whatever it is.
    pub record LeadsToValue (b n : ℕ) : Type 0 where
      pub v : HeapValue
      pub is : at w n ≡ Some v
      pub one : Block
      pub found : at x.heap b ≡ Some one
      pub stands : c.stands k b v one

    pub record ReferencesLead : Type 0 where
      pub named : (b n : ℕ) → Is k n b → IsThere x (Some b) → LeadsToValue b n
      pub text : (r : Option ℕ) (s : List ℕ) → IsText k r s → IsThere x r → text_at x r ≡ Found s
      pub no_array : (t : Ty) (r : Option ℕ) → IsPart k t r None → elements_at x r ≡ Found None
      pub array : (t : Ty) (r : Option ℕ) (p : value.Part) → IsPart k t r (Some p) → IsThere x r →
          (e : Elements) × (elements_at x r ≡ Found (Some e)) × LeadsTo t p e
      pub no_cell : (t : Ty) (r : Option ℕ) → IsName k (Some (Cells t)) r None → first_cell x r ≡ Found None
      pub cell : (t : Ty) (b n : ℕ) → IsName k (Some (Cells t)) (Some b) (Some n) → IsThere x (Some b) → LeadsToCell t b n
      pub list : (t : Ty) (r n : Option ℕ) (m : ℕ) → IsName k (Some (Cells t)) r n → IsThere x r → IsList w n m → list_length x r ≡ Found m

-- All references that stand for something lead there.
abbrev pub ReferencesLeadBy : (defs : List Def) → Contents HeapValue Block Form → Type 0
ReferencesLeadBy defs c = (k : Facts) (w : Heap HeapValue) (x : World) → WorldsAlike c k w x.heap → ReferencesLead defs c k w x

-- What is said of the blocks of values is such.
abbrev pub BlocksAreSuch : Type 0
BlocksAreSuch =
    (law : ContentsAre) (defs : List Def) (globals : List Ty) (constants : List Constant) →
    AreBlocks defs (contents_by law defs globals constants)
