-- The objects that bytes spell.
use Rattle.std.specs.Prelude.{◌≡◌, ℕ, suc, ◌-◌, ◌/◌, ◌%◌, ◌^◌, Bool, true, ◌&&◌, ◌||◌, not, ◌==◌, nat_lt, nat_le, List, [], ◌∷◌, length}
use Rattle.std.specs.List.{flat_map}
use Rattle.dis_file.specs.declared.object.Object.{Object}
use Rattle.dis_file.specs.declared.object.LinkEntry.{LinkEntry}
use Rattle.dis_file.specs.declared.types.TypeDesc.{TypeDesc}
use Rattle.dis_format.specs.Parts.{AreParts, written, object_parts, has_imports, has_catches}
use Rattle.dis_format.specs.Loading.{opening, items_stand}

-- The flags that have a meaning.
abbrev pub flags_stand : ℕ → Bool
flags_stand flags = flags == 0 || flags == 0x100 || flags == 0x200 || flags == 0x300

-- Whether a map marks none but the first so many words: the other bits are 0, from the top bit of a byte down.
abbrev pub map_stands : ℕ → List ℕ → Bool
map_stands words [] = true
map_stands words (b ∷ bs) = b % 2 ^ (8 - words) == 0 && map_stands (words - 8) bs

-- Type 0 describes the module's data, where there is data.
abbrev pub size_stands : ℕ → ℕ → ℕ → Bool
size_stands data_size place size = not (place == 0) || data_size == 0 || size == data_size

abbrev pub types_stand : ℕ → ℕ → List TypeDesc → Bool
types_stand data_size place [] = true
types_stand data_size place (t ∷ ts) =
    (size_stands data_size place t.size && map_stands (t.size / 4) t.map) && types_stand data_size (suc place) ts

-- A function's pc and the type of its frame are in the object.
abbrev pub link_stands : ℕ → ℕ → LinkEntry → Bool
link_stands code types l = nat_lt l.pc code && nat_lt l.frame types

abbrev pub links_stand : ℕ → ℕ → List LinkEntry → Bool
links_stand code types [] = true
links_stand code types (l ∷ ls) = link_stands code types l && links_stand code types ls

-- How an object's parts fit together.
pub record Stands (o : Object) : Type 0 where
  pub flags : flags_stand o.flags ≡ true
  pub data_size : nat_le o.data_size 268435456 ≡ true
  pub data_type : o.data_size == 0 || nat_lt 0 (length o.types) ≡ true
  pub types : types_stand o.data_size 0 o.types ≡ true
  pub items : items_stand o.types (opening o.data_size) o.items ≡ true
  pub links : links_stand (length o.insts) (length o.types) o.links ≡ true
  pub imports : has_imports o.flags || length o.imports == 0 ≡ true
  pub catches : has_catches o.flags || length o.catches == 0 ≡ true

-- The bytes spell the object.
pub record Spells (o : Object) (bytes : List ℕ) : Type 0 where
  pub stands : Stands o
  pub parts : AreParts (object_parts o) bytes

-- An object is valid where some bytes spell it.
abbrev pub IsValid : Object → Type 0
IsValid o = (bytes : List ℕ) × Spells o bytes

-- The written form: each part as short as can be.
abbrev pub written_form : Object → List ℕ
written_form o = flat_map written (object_parts o)
