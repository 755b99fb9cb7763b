-- What a slot has by what is known of it, and that it refers idly where its value names nothing.
use Rattle.std.specs.Prelude.{ℕ, pos, ◌≡◌, Bool, List, [], ◌∷◌, Option, Some}
use Rattle.heap_model.specs.Heap.{Heap}
use Rattle.limbo_types.specs.Types.{Ty}
use Rattle.limbo_layout.specs.Adts.{Def}
use Rattle.limbo_layout.specs.Layout.{Laid}
use Rattle.limbo_meaning.specs.Values.{Value, Num, nothing}
use Rattle.core_code.specs.Slots as core
use Rattle.core_code.specs.Slots.{Slot, Holds, Forms}
use Rattle.core_typing.specs.Held as held
use Rattle.core_typing.specs.Held.{Of, Forming, Decided, Turns}
use Rattle.dis_meaning.specs.Words.{Word, Plain, Refer, Found, word_at}
use Rattle.dis_memory.specs.Blocks.{Block}
use Rattle.value_words.specs.Facts.{Facts}
use Rattle.value_words.specs.Stands.{Stands}
use Rattle.value_frames.specs.Frames.{Nowhere, AsNumber, AsReference, Boxed, form_of, room_for, box_bytes}
use Rattle.value_frames.specs.Standing.{truth, NamesOnly, IsBox, IsForming, IsOwn, RefersIdly, ValueStands, SlotStands, ChainStands}

-- What a slot gives that has a value of a type, of whose references these alone may name something.
pub record SlotReads (defs : List Def) (k : Facts) (words : List Word) (number_at reference_at : ℕ) (t : Ty) (live : List ℕ) (v : Value)
    (own : List ℕ) : Type 0 where
  pub bare : own ≡ []
  pub names : NamesOnly live v
  pub stands : ValueStands defs k words number_at reference_at (form_of t) t v
  pub nowhere : form_of t ≡ Nowhere → (v ≡ nothing) × RefersIdly defs k words reference_at
  pub number : form_of t ≡ AsNumber → Stands defs k words number_at t v
  pub beside : form_of t ≡ AsNumber → RefersIdly defs k words reference_at
  pub reference : form_of t ≡ AsReference → Stands defs k words reference_at t v
  pub boxed : form_of t ≡ Boxed → (block : ℕ) × (inner : List Word) × (word_at words (pos reference_at) ≡ Found (Refer (Some block)))
      × IsBox defs k t block inner × Stands defs k inner 0 t v

-- A slot that refers idly owns nothing.
abbrev pub IsAtRest : (defs : List Def) (k : Facts) (words : List Word) (reference_at : ℕ) (own : List ℕ) → Type 0
IsAtRest defs k words r own = RefersIdly defs k words r × (own ≡ [])

pub record SlotsRest : Type 0 where
  -- what a slot has that has a value of a type, what is put together, a decision, or a loop's turns
  pub is_value : (defs : List Def) (k : Facts) (x : Heap Block) (frame : ℕ) (words : List Word) (n r : ℕ) (t : Ty) (live : List ℕ)
      (l : Slot) (own : List ℕ) → SlotStands defs k x frame words n r (Of t live) l own → (v : Value) × (l ≡ Holds v)
  pub is_forming : (defs : List Def) (k : Facts) (x : Heap Block) (frame : ℕ) (words : List Word) (n r : ℕ) (t : Ty)
      (variant : Option ℕ) (ks : List ℕ) (us : List Ty) (live : List ℕ) (l : Slot) (own : List ℕ) →
      SlotStands defs k x frame words n r (Forming t variant ks us live) l own →
      (vs : List Value) × (l ≡ Forms vs) × (b : ℕ) × (inner : List Word) × (own ≡ b ∷ [])
      × IsOwn defs k x frame words r (box_bytes defs t) (room_for defs t).references b inner
      × IsForming defs k t variant ks us live vs inner
  pub is_decision : (defs : List Def) (k : Facts) (x : Heap Block) (frame : ℕ) (words : List Word) (n r : ℕ) (b : Bool) (l : Slot)
      (own : List ℕ) → SlotStands defs k x frame words n r (Decided b) l own →
      (l ≡ Holds (Num (truth b))) × (word_at words (pos n) ≡ Found (Plain (truth b)))
  pub is_loop : (defs : List Def) (k : Facts) (x : Heap Block) (frame : ℕ) (words : List Word) (n r : ℕ) (gs : held.Regions) (l : Slot)
      (own : List ℕ) → SlotStands defs k x frame words n r (Turns gs) l own →
      (next : ℕ) × (rs : core.Regions) × (l ≡ core.Turns next rs) × (word_at words (pos n) ≡ Found (Plain (pos next)))
      × ChainStands defs k x frame words r gs rs own
  pub reads : (defs : List Def) (k : Facts) (x : Heap Block) (frame : ℕ) (words : List Word) (n r : ℕ) (t : Ty) (live : List ℕ)
      (v : Value) (own : List ℕ) → SlotStands defs k x frame words n r (Of t live) (Holds v) own →
      SlotReads defs k words n r t live v own
  -- of a value nothing is named; a decision, and a loop without turns, name nothing
  pub clean : (defs : List Def) (k : Facts) (x : Heap Block) (frame : ℕ) (words : List Word) (n r : ℕ) (t : Ty) (v : Value)
      (own : List ℕ) → SlotStands defs k x frame words n r (Of t []) (Holds v) own →
      (form_of t ≡ Boxed → Laid defs t (room_for defs t)) → IsAtRest defs k words r own
  pub decided : (defs : List Def) (k : Facts) (x : Heap Block) (frame : ℕ) (words : List Word) (n r : ℕ) (b : Bool) (l : Slot)
      (own : List ℕ) → SlotStands defs k x frame words n r (Decided b) l own → IsAtRest defs k words r own
  pub unturned : (defs : List Def) (k : Facts) (x : Heap Block) (frame : ℕ) (words : List Word) (n r : ℕ) (l : Slot) (own : List ℕ) →
      SlotStands defs k x frame words n r (Turns held.NoRegion) l own → IsAtRest defs k words r own
