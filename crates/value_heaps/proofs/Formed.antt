-- The form that is known of a block tells which value it stands for, and by which type its words are read.
use Rattle.std.proofs.Common.{◌≡◌, ℕ, pos, ◌+◌, ◌*◌, ◌<◌, List, Option, Some, length, refl, sym, subst, ◌∙◌}
use Rattle.std.specs.Prelude.{slice_get}
use Rattle.limbo_types.specs.Types as ty
use Rattle.limbo_types.specs.Types.{Ty}
use Rattle.limbo_layout.specs.Adts.{Def, Has}
use Rattle.limbo_layout.specs.Layout.{Room, Laid}
use Rattle.limbo_values.specs.declared.number.Kind.TheVariants.{Int}
use Rattle.limbo_values.specs.Numbers.{InRange}
use Rattle.limbo_meaning.specs.Values.{Value}
use Rattle.limbo_meaning.specs.Memory as source
use Rattle.limbo_meaning.specs.Memory.{HeapValue}
use Rattle.dis_meaning.specs.Words.{Word, Refer}
use Rattle.dis_memory.specs.Blocks as block
use Rattle.dis_memory.specs.Blocks.{Block}
use Rattle.value_words.specs.Forms.{Elements, Cells, Adts}
use Rattle.value_words.specs.Facts.{Facts, IsName}
use Rattle.value_words.specs.Stands.{Stands}
use Rattle.value_heaps.specs.Types.{desc_of}
use Rattle.value_heaps.specs.Blocks.{Constant, IsBlock, elements, cell, record_of, channel, instance_of, AreWhole, ReferOnlyThere, IsWithin}

module _ (defs : List Def) (globals : List Ty) (constants : List Constant) (facts : Facts) where
  -- ---- so many elements of a type

  pub record AreElements (item : Ty) (long : ℕ) (v : HeapValue) (b : Block) : Type 0 where
    pub room : Room
    pub words : List Word
    pub values : List Value
    pub laid : Laid defs item room
    pub count : length values ≡ long
    pub value : v ≡ source.Elements values
    pub is : b ≡ block.Array (desc_of room) long words
    pub counted : InRange Int (pos long)
    pub whole : AreWhole words 0 (long * room.size)
    pub each : (i : ℕ) (u : Value) → slice_get values i ≡ Some u → Stands defs facts words (i * room.size) item u
    pub only : (w : ℕ) (to : Option ℕ) → slice_get words w ≡ Some (Refer to)
        → (i : ℕ) × (i < long) × ((o : ℕ) × Has room.references o × (i * room.size + o ≡ 4 * w))

  pub are_elements : (n : ℕ) (v : HeapValue) (b : Block) (t : Ty) (long : ℕ) → IsBlock defs globals constants facts n v b
      → facts.form n ≡ Some (Elements t long) → AreElements t long v b
  are_elements n _ _ t long (elements u r words vs f l few whole each only) e =
      let g : Some (Elements u (length vs)) ≡ Some (Elements t long) = sym f ∙ e in
      let p : u ≡ t = cc in
      let q : length vs ≡ long = cc in
      subst (λ (x : Ty). AreElements x long (source.Elements vs) (block.Array (desc_of r) (length vs) words)) p
      (subst (λ (m : ℕ). AreElements u m (source.Elements vs) (block.Array (desc_of r) (length vs) words)) q
      (record {
        room = r;
        words = words;
        values = vs;
        laid = l;
        count = refl;
        value = refl;
        is = refl;
        counted = few;
        whole = whole;
        each = each;
        only = only;
      }))
  are_elements n _ _ t long (cell u r words v tail rest f l whole s there only i older) e = absurd cc
  are_elements n _ _ t long (record_of a r words v f l whole s there only) e = absurd cc
  are_elements n _ _ t long (channel u desc f) e = absurd cc
  are_elements n _ _ t long (instance_of object rs words vs f l whole all there only fixed) e = absurd cc

  -- ---- a cell of a list of a type

  pub record IsCell (serial : ℕ) (item : Ty) (v : HeapValue) (b : Block) : Type 0 where
    pub room : Room
    pub words : List Word
    pub head : Value
    pub tail : Option ℕ
    pub rest : Option ℕ
    pub laid : Laid defs item room
    pub value : v ≡ source.Cell head tail
    pub is : b ≡ block.Cell words rest
    pub whole : AreWhole words 0 room.size
    pub stands : Stands defs facts words 0 item head
    pub there : ReferOnlyThere words 0 room
    pub only : (w to : ℕ) → slice_get words w ≡ Some (Refer (Some to)) → IsWithin 0 room.size w
    pub behind : IsName facts (Some (Cells item)) rest tail
    pub older : (b : ℕ) → rest ≡ Some b → b < serial

  pub is_cell : (n : ℕ) (v : HeapValue) (b : Block) (t : Ty) → IsBlock defs globals constants facts n v b → facts.form n ≡ Some (Cells t)
      → IsCell n t v b
  is_cell n _ _ t (cell u r words v tail rest f l whole s there only i older) e =
      let g : Some (Cells u) ≡ Some (Cells t) = sym f ∙ e in
      let p : u ≡ t = cc in
      subst (λ (x : Ty). IsCell n x (source.Cell v tail) (block.Cell words rest)) p
      (record {
        room = r;
        words = words;
        head = v;
        tail = tail;
        rest = rest;
        laid = l;
        value = refl;
        is = refl;
        whole = whole;
        stands = s;
        there = there;
        only = only;
        behind = i;
        older = older;
      })
  is_cell n _ _ t (elements u r words vs f l few whole each only) e = absurd cc
  is_cell n _ _ t (record_of a r words v f l whole s there only) e = absurd cc
  is_cell n _ _ t (channel u desc f) e = absurd cc
  is_cell n _ _ t (instance_of object rs words vs f l whole all there only fixed) e = absurd cc

  -- ---- an adt that a `ref` names

  pub record IsAdt (adt : ℕ) (v : HeapValue) (b : Block) : Type 0 where
    pub room : Room
    pub words : List Word
    pub parts : Value
    pub laid : Laid defs (ty.Adt adt) room
    pub value : v ≡ source.Record parts
    pub is : b ≡ block.Record words
    pub whole : AreWhole words 0 room.size
    pub stands : Stands defs facts words 0 (ty.Adt adt) parts
    pub there : ReferOnlyThere words 0 room
    pub only : (w to : ℕ) → slice_get words w ≡ Some (Refer (Some to)) → IsWithin 0 room.size w

  pub is_adt : (n : ℕ) (v : HeapValue) (b : Block) (adt : ℕ) → IsBlock defs globals constants facts n v b → facts.form n ≡ Some (Adts adt)
      → IsAdt adt v b
  is_adt n _ _ adt (record_of a r words v f l whole s there only) e =
      let g : Some (Adts a) ≡ Some (Adts adt) = sym f ∙ e in
      let p : a ≡ adt = cc in
      subst (λ (x : ℕ). IsAdt x (source.Record v) (block.Record words)) p
      (record {
        room = r;
        words = words;
        parts = v;
        laid = l;
        value = refl;
        is = refl;
        whole = whole;
        stands = s;
        there = there;
        only = only;
      })
  is_adt n _ _ adt (elements u r words vs f l few whole each only) e = absurd cc
  is_adt n _ _ adt (cell u r words v tail rest f l whole s there only i older) e = absurd cc
  is_adt n _ _ adt (channel u desc f) e = absurd cc
  is_adt n _ _ adt (instance_of object rs words vs f l whole all there only fixed) e = absurd cc
