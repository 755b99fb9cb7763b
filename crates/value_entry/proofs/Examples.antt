-- Openings worked out: of an object with a text, whose machine gets two words; and of one whose first frame has no place for the list.
use Rattle.std.proofs.Common.{◌≡◌, ℕ, pos, List, [], ◌∷◌, ◌++◌, refl}
use Rattle.std.specs.Prelude.{Some, None, codes, replicate}
use Rattle.std.specs.Str.{is_utf8, chars}
use Rattle.heap_model.specs.Heap.{Heap}
use Rattle.dis_file.specs.declared.object.Object.{Object}
use Rattle.dis_file.specs.declared.types.TypeDesc.{TypeDesc}
use Rattle.dis_meaning.specs.Words.{Word, Plain, Refer, Access, Found, Wrong, ◌>>=◌, type_check}
use Rattle.dis_memory.specs.Blocks.{Block, Text, Cell, Instance}
use Rattle.value_entry.specs.Opening.{opened_with}

abbrev type : ℕ → List ℕ → TypeDesc
type size map = record { size = size; map = map }

-- Its data have one word, with a text.
abbrev object : (frame : TypeDesc) → Object
object frame = record {
  flags = 0;
  stack = 0;
  data_size = 4;
  entry_pc = 0;
  entry_type = 1;
  insts = [];
  types = type 4 (128 ∷ []) ∷ frame ∷ [];
  items = record { kind = 3; count = 1; offset = 0; content = codes "s" } ∷ [];
  «module» = [];
  links = [];
  imports = [];
  catches = [];
}

-- The blocks that a machine begins with, and the words of its first frame.
abbrev blocks_of : Object → (words : List (List ℕ)) → Access (Heap Block)
blocks_of o ws = opened_with o ws >>= λ m. Found m.world.heap

abbrev frame_of : Object → (words : List (List ℕ)) → Access (List Word)
frame_of o ws = opened_with o ws >>= λ m. Found m.first.frame.words

-- Two parameters stand behind the linkage, and both refer.
abbrev two : Object
two = object (type 40 (0 ∷ 192 ∷ []))

blocks : blocks_of two (codes "a" ∷ codes "b" ∷ []) ≡ Found (
    Some (Instance 0 (Refer (Some 1) ∷ []))
    ∷ Some (Text (codes "s"))
    ∷ Some (Text (codes "b"))
    ∷ Some (Cell (Refer (Some 2) ∷ []) None)
    ∷ Some (Text (codes "a"))
    ∷ Some (Cell (Refer (Some 4) ∷ []) (Some 3))
    ∷ [])
unfolding is_utf8 chars lib.Utf8.encode
blocks = refl

frame : frame_of two (codes "a" ∷ codes "b" ∷ []) ≡ Found (replicate 8 (Plain (pos 0)) ++ Refer None ∷ Refer (Some 5) ∷ [])
unfolding is_utf8 chars lib.Utf8.encode
frame = refl

-- Without words the list is nothing.
none_given : frame_of two [] ≡ Found (replicate 8 (Plain (pos 0)) ++ Refer None ∷ Refer None ∷ [])
unfolding is_utf8 chars lib.Utf8.encode
none_given = refl

-- Where the second parameter is a number, there is no machine.
no_place : blocks_of (object (type 40 (0 ∷ 128 ∷ []))) (codes "a" ∷ []) ≡ Wrong type_check
unfolding is_utf8 chars lib.Utf8.encode
no_place = refl
