-- What a machine of an object begins with (dis(6), "Data section"): the data of the module with the items put in, and one process at
-- the object's entry.
use Rattle.std.specs.Prelude.{◌≡◌, ℕ, suc, pos, ◌+◌, List, [], ◌∷◌, ◌++◌, length, Option, Some, None, slice_get, ◌==◌, if◌then◌else◌}
use Rattle.std.specs.Int.{w32, cast_signed, from_be_bytes}
use Rattle.std.specs.Str.{chars, is_utf8, IsUtf8}
use Rattle.inf_text.specs.Options.{◌>>=◌}
use Rattle.dis_file.specs.declared.object.Item.{Item}
use Rattle.dis_file.specs.declared.object.Object.{Object}
use Rattle.system_model.specs.World.{opening_world}
use Rattle.dis_meaning.specs.Words.{Word, Plain, Refer, Access, Found, Wrong, Raises, stored, blank}
use Rattle.dis_meaning.specs.World.{Content, Text, Instance, World}
use Rattle.dis_meaning.specs.Process.{Process}

abbrev pub if_found : {T : Type 0} → Access T → Option T
if_found (Found t) = Some t
if_found (Wrong number) = None
if_found (Raises text) = None

-- The characters that bytes spell, where they are well-formed UTF-8.
abbrev pub characters : List ℕ → Option (List ℕ)
characters bytes = if is_utf8 bytes then Some (chars bytes) else None

-- The module's data while the items are put in: its words, and the blocks of the texts so far. The block of the data comes before
-- these.
pub record Data : Type 0 where
  pub words : List Word
  pub texts : List Content

-- A string is a new block, and a reference to it.
abbrev pub with_text : Data → (offset : ℕ) → List ℕ → Option Data
with_text d offset text =
    if_found (stored d.words (pos offset) (Refer (Some (suc (length d.texts))))) >>= λ words.
    Some (record { words = words; texts = d.texts ++ Text text ∷ [] })

-- Words stand one behind another, each a number in four bytes, the high one first.
abbrev pub with_numbers : List Word → (offset : ℕ) → List ℕ → Option (List Word)
with_numbers words offset [] = Some words
with_numbers words offset (a ∷ b ∷ c ∷ d ∷ bytes) =
    if_found (stored words (pos offset) (Plain (cast_signed w32 (from_be_bytes w32 (a ∷ b ∷ c ∷ d ∷ []))))) >>= λ after.
    with_numbers after (offset + 4) bytes
with_numbers words offset _ = None

-- The item is put in. There are strings, kind 3, and words, kind 2; no other kind is in this part.
abbrev pub with_item : Data → Item → Option Data
with_item d item =
    if item.kind == 3 then characters item.content >>= with_text d item.offset
    else (if item.kind == 2
    then with_numbers d.words item.offset item.content >>= (λ words. Some (record { words = words; texts = d.texts }))
    else None)

abbrev pub with_items : Data → List Item → Option Data
with_items d [] = Some d
with_items d (item ∷ items) = with_item d item >>= λ e. with_items e items

-- The block of the data, which is an instance of the program's first object, and those of the texts.
abbrev pub opening_blocks : Data → List Content
opening_blocks d = Instance 0 d.words ∷ d.texts

-- The first process, number 1, at the object's entry, with these words as its frame.
abbrev pub entered : Object → List Word → Process
entered o words = record {
  number = 1;
  frame = record { serial = 0; instance = 0; pc = o.entry_pc; words = words };
  below = [];
  made = [];
  printing = None;
}

-- What a machine begins with.
pub record Opened : Type 0 where
  pub world : World
  pub first : Process

-- A machine of this object. There is none where the object lacks the type of its data or of its entry's frame, or has an item that
-- isn't a string or words, each on a word of its kind.
abbrev pub opened : Object → Option Opened
opened o =
    slice_get o.types 0 >>= λ data_type.
    with_items (record { words = blank data_type; texts = [] }) o.items >>= λ d.
    slice_get o.types o.entry_type >>= λ frame_type.
    Some (record {
      world = record { blocks = opening_blocks d; frames = 1; outside = opening_world };
      first = entered o (blank frame_type);
    })

-- The strings of an object are well-formed UTF-8.
abbrev pub StringsSpell : Object → Type 0
StringsSpell o = (n : ℕ) (item : Item) → slice_get o.items n ≡ Some item → item.kind ≡ 3 → IsUtf8 item.content
