-- An opening worked out: a string over whose reference another goes, an array of strings with an item in it, and a number.
use Rattle.std.proofs.Common.{◌≡◌, ℕ, pos, List, [], ◌∷◌, refl}
use Rattle.std.specs.Prelude.{Some, None, codes}
use Rattle.std.specs.Str.{is_utf8, chars}
use Rattle.heap_model.specs.Heap.{Heap}
use Rattle.dis_file.specs.declared.object.Item.{Item}
use Rattle.dis_file.specs.declared.object.Object.{Object}
use Rattle.dis_file.specs.declared.types.TypeDesc.{TypeDesc}
use Rattle.dis_meaning.specs.Words.{Plain, Refer, Access, Found, Wrong, ◌>>=◌, type_check}
use Rattle.dis_memory.specs.Blocks.{Block, Text, Array, Instance}
use Rattle.dis_counts.specs.Opening.{opened}

abbrev type : ℕ → List ℕ → TypeDesc
type size map = record { size = size; map = map }

abbrev item : (kind offset : ℕ) → List ℕ → Item
item kind offset content = record { kind = kind; count = 1; offset = offset; content = content }

abbrev object : List TypeDesc → List Item → Object
object types items = record {
  flags = 0;
  stack = 0;
  data_size = 0;
  entry_pc = 0;
  entry_type = 1;
  insts = [];
  types = types;
  items = items;
  «module» = [];
  links = [];
  imports = [];
  catches = [];
}

-- The blocks that a machine begins with.
abbrev blocks_of : Object → Access (Heap Block)
blocks_of o = opened o >>= λ m. Found m.world.heap

-- Data of two references and a number, a frame, and elements that refer.
abbrev types : List TypeDesc
types = type 12 (192 ∷ []) ∷ type 32 [] ∷ type 4 (128 ∷ []) ∷ []

filled : blocks_of (object types (
    item 3 0 (codes "a") ∷ item 3 0 (codes "b") ∷ item 5 4 (0 ∷ 0 ∷ 0 ∷ 2 ∷ 0 ∷ 0 ∷ 0 ∷ 2 ∷ [])
    ∷ item 6 4 (0 ∷ 0 ∷ 0 ∷ 1 ∷ []) ∷ item 3 0 (codes "c") ∷ item 7 0 [] ∷ item 2 8 (0 ∷ 0 ∷ 0 ∷ 7 ∷ []) ∷ []))
    ≡ Found (
    Some (Instance 0 (Refer (Some 2) ∷ Refer (Some 3) ∷ Plain (pos 7) ∷ []))
    ∷ None
    ∷ Some (Text (codes "b"))
    ∷ Some (Array (type 4 (128 ∷ [])) 2 (Refer None ∷ Refer (Some 4) ∷ []))
    ∷ Some (Text (codes "c"))
    ∷ [])
unfolding is_utf8 chars lib.Utf8.encode
filled = refl

-- A string on a plain word, and an element that isn't there.
misplaced : blocks_of (object types (item 3 8 (codes "a") ∷ [])) ≡ Wrong type_check
unfolding is_utf8 chars lib.Utf8.encode
misplaced = refl

past_the_array :
    blocks_of (object types (item 5 4 (0 ∷ 0 ∷ 0 ∷ 2 ∷ 0 ∷ 0 ∷ 0 ∷ 2 ∷ []) ∷ item 6 4 (0 ∷ 0 ∷ 0 ∷ 2 ∷ []) ∷ []))
    ≡ Wrong type_check
past_the_array = refl
