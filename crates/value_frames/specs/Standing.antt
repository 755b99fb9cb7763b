-- When a frame of the machine stands for one of three-address code.
use Rattle.std.specs.Prelude.{ℕ, ℤ, suc, pos, ◌+◌, ◌≡◌, ◌<◌, ◌≤◌, Bool, true, false, List, [], ◌∷◌, ◌++◌, length, Option, None, Some}
use Rattle.std.specs.Prelude.{slice_get}
use Rattle.heap_model.specs.Heap.{Heap, at}
use Rattle.heap_model.specs.Facts.{Chars, Carrier, Free}
use Rattle.limbo_types.specs.Types.{Ty}
use Rattle.limbo_layout.specs.Adts.{Def, Has}
use Rattle.limbo_layout.specs.Layout.{nothing, AllLaid}
use Rattle.limbo_layout.specs.Laying.{rooms_of}
use Rattle.limbo_meaning.specs.Values.{Value, Num, references, references_in, among, nothing as no_value}
use Rattle.core_code.specs.Rooms.{rooms_in}
use Rattle.core_code.specs.Slots as core
use Rattle.core_code.specs.Slots.{Slot, Holds, Forms, Region, NoSlot, MoreSlots, Regions, NoRegion, MoreRegions}
use Rattle.core_typing.specs.Held as held
use Rattle.core_typing.specs.Held.{Held, Of, Forming, Decided, Turns, slots_in}
use Rattle.dis_meaning.specs.Words.{Word, Plain, Refer, Found, word_at}
use Rattle.dis_memory.specs.Blocks.{Block, Record}
use Rattle.dis_memory.specs.Naming.{inside}
use Rattle.value_words.specs.Forms.{OwnedBy}
use Rattle.value_words.specs.Facts.{Facts}
use Rattle.value_words.specs.Stands.{Stands, AllStand}
use Rattle.value_frames.specs.Frames.{Form, Nowhere, AsNumber, AsReference, Boxed, form_of, linkage_bytes, number_place, reference_place}
use Rattle.value_frames.specs.Frames.{room_for, box_bytes, turn_bytes, turn_references, frame_bytes, frame_references}
use Rattle.value_frames.specs.Types.{AreOf}
use Rattle.value_frames.specs.Forming.{begun, formed}

-- No block is there twice.
abbrev pub Single : List ℕ → Type 0
Single [] = Unit {0}
Single (b ∷ bs) = (Has bs b → ⊥) × Single bs

-- The int that tells how a connective was decided.
abbrev pub truth : Bool → ℤ
truth true = pos 1
truth false = pos 0

-- The last of a block and of what is behind it.
abbrev pub last_of : Option ℕ → ℕ → Option ℕ
last_of None b = Some b
last_of (Some l) b = Some l

-- Of the references of a value these alone, by their numbers in order, may name something.
abbrev pub NamesOnly : (live : List ℕ) → Value → Type 0
NamesOnly live v = (k n : ℕ) → slice_get (references v) k ≡ Some (Some n) → held.Has live k

module _ (defs : List Def) (k : Facts) where
  -- A block that has a record's words for good: the box of a value of a type.
  pub record IsBox (t : Ty) (block : ℕ) (inner : List Word) : Type 0 where
    pub carries : k.fact block ≡ Some (Carrier (Record inner))
    pub kind : AreOf (box_bytes defs t) (room_for defs t).references inner

  -- What a word refers to that stands for no value any more: nothing, a text, or a block that carries its words for good, which refer to
  -- nothing but texts, as those of a box do whose value names nothing.
  pub data IsIdle : Option ℕ → Type 0 where
    nothing_there : IsIdle None
    text_left : (b : ℕ) (text : List ℕ) → k.fact b ≡ Some (Chars text) → IsIdle (Some b)
    carrier_left : (b : ℕ) (d : Block) → k.fact b ≡ Some (Carrier d)
        → ((q : ℕ) → 0 < inside d q → (text : List ℕ) × (k.fact q ≡ Some (Chars text))) → IsIdle (Some b)

  abbrev pub RefersIdly : (words : List Word) → (place : ℕ) → Type 0
  RefersIdly words p = (r : Option ℕ) × (word_at words (pos p) ≡ Found (Refer r)) × IsIdle r

  -- A value of a type stands in a slot, which has a number at one place and a reference at another.
  abbrev pub ValueStands : (words : List Word) → (number reference : ℕ) → Form → Ty → Value → Type 0
  ValueStands words n r Nowhere t v = (v ≡ no_value) × RefersIdly words r
  ValueStands words n r AsNumber t v = Stands defs k words n t v × RefersIdly words r
  ValueStands words n r AsReference t v = Stands defs k words r t v
  ValueStands words n r Boxed t v =
      (block : ℕ) × (inner : List Word) × (word_at words (pos r) ≡ Found (Refer (Some block))) × IsBox t block inner
      × Stands defs k inner 0 t v

  -- What is put together in a record's words: operands at these parts, of types one for each. What the operands name the whole names, and
  -- nothing else.
  pub record IsForming (t : Ty) (variant : Option ℕ) (ks : List ℕ) (us : List Ty) (live : List ℕ) (vs : List Value) (inner : List Word)
      : Type 0 where
    pub stands : Stands defs k inner 0 t (formed (begun defs t variant) ks vs)
    pub as_many : length ks ≡ length vs
    pub typed : length us ≡ length vs
    pub named : (n : ℕ) → 0 < among n (references_in vs) → 0 < among n (references (formed (begun defs t variant) ks vs))
    pub names : (n : ℕ) → 0 < among n (references (formed (begun defs t variant) ks vs)) → 0 < among n (references_in vs)
    pub only : NamesOnly live (formed (begun defs t variant) ks vs)

  module _ (x : Heap Block) (frame : ℕ) where
    -- A word refers to a block that is the frame's own, which stands for nothing: a record of so many bytes, with these words.
    pub record IsOwn (words : List Word) (place size : ℕ) (offsets : List ℕ) (block : ℕ) (inner : List Word) : Type 0 where
      pub word : word_at words (pos place) ≡ Found (Refer (Some block))
      pub there : at x block ≡ Some (Record inner)
      pub free : Free k block
      pub formed : k.form block ≡ Some (OwnedBy frame)
      pub kind : AreOf size offsets inner

    mutual
      -- What a slot holds, by what is known of it, and the frame's own blocks that it has.
      pub data SlotStands : (words : List Word) → (number reference : ℕ) → Held → Slot → (own : List ℕ) → Type 0 where
        a_value : (words : List Word) (n r : ℕ) (t : Ty) (live : List ℕ) (v : Value) → ValueStands words n r (form_of t) t v
            → NamesOnly live v → SlotStands words n r (Of t live) (Holds v) []
        a_forming : (words inner : List Word) (n r b : ℕ) (t : Ty) (variant : Option ℕ) (ks : List ℕ) (us : List Ty) (live : List ℕ)
            (vs : List Value) → IsOwn words r (box_bytes defs t) (room_for defs t).references b inner
            → IsForming t variant ks us live vs inner → SlotStands words n r (Forming t variant ks us live) (Forms vs) (b ∷ [])
        a_decision : (words : List Word) (n r : ℕ) (b : Bool) → word_at words (pos n) ≡ Found (Plain (truth b)) → RefersIdly words r
            → SlotStands words n r (Decided b) (Holds (Num (truth b))) []
        a_loop : (words : List Word) (n r next : ℕ) (gs : held.Regions) (rs : Regions) (own : List ℕ)
            → word_at words (pos n) ≡ Found (Plain (pos next)) → ChainStands words r gs rs own
            → SlotStands words n r (Turns gs) (core.Turns next rs) own

      -- A chain of records, the oldest first, to which the word refers. At 4 the first has the last, where there are more than one.
      pub data ChainStands : (words : List Word) → (place : ℕ) → held.Regions → Regions → (own : List ℕ) → Type 0 where
        no_chain : (words : List Word) (p : ℕ) → word_at words (pos p) ≡ Found (Refer None)
            → ChainStands words p held.NoRegion NoRegion []
        a_chain : (words inner : List Word) (p b : ℕ) (last : Option ℕ) (h : held.Region) (hs : held.Regions) (g : Region) (gs : Regions)
            (own more : List ℕ) → IsOwn words p (turn_bytes (slots_in h)) (turn_references (slots_in h)) b inner
            → word_at inner (pos 4) ≡ Found (Refer last) → RegionStands inner 8 h g own → TailStands inner 0 last hs gs more
            → ChainStands words p (held.MoreRegions h hs) (MoreRegions g gs) (b ∷ own ++ more)

      -- The records behind the first have nothing at 4. The last of them is this block, where there is one.
      pub data TailStands : (words : List Word) → (place : ℕ) → (last : Option ℕ) → held.Regions → Regions → (own : List ℕ) → Type 0 where
        no_more : (words : List Word) (p : ℕ) → word_at words (pos p) ≡ Found (Refer None)
            → TailStands words p None held.NoRegion NoRegion []
        one_more : (words inner : List Word) (p b : ℕ) (last : Option ℕ) (h : held.Region) (hs : held.Regions) (g : Region) (gs : Regions)
            (own more : List ℕ) → IsOwn words p (turn_bytes (slots_in h)) (turn_references (slots_in h)) b inner
            → word_at inner (pos 4) ≡ Found (Refer None) → RegionStands inner 8 h g own → TailStands inner 0 last hs gs more
            → TailStands words p (last_of last b) (held.MoreRegions h hs) (MoreRegions g gs) (b ∷ own ++ more)

      -- Slots one behind the other, from a byte on.
      pub data RegionStands : (words : List Word) → (from : ℕ) → held.Region → Region → (own : List ℕ) → Type 0 where
        no_slot : (words : List Word) (p : ℕ) → RegionStands words p held.NoSlot NoSlot []
        more_slots : (words : List Word) (p : ℕ) (h : Held) (hs : held.Region) (s : Slot) (g : Region) (own more : List ℕ)
            → SlotStands words p (p + 4) h s own → RegionStands words (p + 8) hs g more
            → RegionStands words p (held.MoreSlots h hs) (MoreSlots s g) (own ++ more)

    -- A frame's variables, and its slots by what is known of them. Of busy slots nothing is said, since their values are on their way, as
    -- an answer that is waited for and a box that is filled are; they own nothing. No two slots have one block as their own, and no slot
    -- has one twice; where there is no slot nothing is owned.
    pub record WordsAre (busy : List ℕ) (types : List Ty) (known : held.Slots) (variables : List Value)
        (slots : core.Slots) (words : List Word) : Type 0 where
      pub laid : AllLaid defs types (rooms_of (rooms_in defs) types)
      pub kind : AreOf (frame_bytes defs types (length slots)) (frame_references defs types (length slots)) words
      pub values : AllStand defs k words linkage_bytes nothing types (rooms_of (rooms_in defs) types) variables
      pub as_many : length known ≡ length slots
      pub own : (slot : ℕ) → List ℕ
      pub none_past : (s : ℕ) → length slots ≤ s → own s ≡ []
      pub busy_bare : (s : ℕ) → Has busy s → own s ≡ []
      pub each : (s : ℕ) (h : Held) (l : Slot) → (Has busy s → ⊥) → slice_get known s ≡ Some h → slice_get slots s ≡ Some l →
          SlotStands words (number_place defs types s) (reference_place defs types s) h l (own s)
      pub single : (s : ℕ) → Single (own s)
      pub apart : (s r b : ℕ) → Has (own s) b → Has (own r) b → s ≡ r
