-- Where an item of the initial data may stand (dis(6), "Data section").
use Rattle.std.specs.Prelude.{ℕ, zero, suc, ◌+◌, ◌-◌, ◌*◌, ◌/◌, ◌%◌, Bool, true, false, not, ◌&&◌, ◌==◌, nat_lt, nat_le}
use Rattle.std.specs.Prelude.{is_some, List, [], ◌∷◌, length, drop, Option, Some, None, slice_get, if◌then◌else◌}
use Rattle.std.specs.Str.{is_utf8}
use Rattle.byteorder.specs.Endian.{big_number}
use Rattle.dis_file.specs.References.{marks}
use Rattle.dis_file.specs.declared.object.Item.{Item}
use Rattle.dis_file.specs.declared.types.TypeDesc.{TypeDesc}
use Rattle.dis_format.specs.declared.kind.ItemKind.{ItemKind}
use Rattle.dis_format.specs.declared.kind.ItemKind.TheVariants.{Bytes, Words, Text, Reals, Array, Enter, Leave, Bigs}
use Rattle.dis_format.specs.declared.loading.Block.{Block}
use Rattle.dis_format.specs.declared.loading.Place.{Place}
use Rattle.dis_format.specs.declared.loading.Standing.{Standing}

-- The kinds by their numbers.
abbrev pub kind_of : ℕ → Option ItemKind
kind_of n =
    if n == 1 then Some Bytes else (if n == 2 then Some Words else (if n == 3 then Some Text
    else (if n == 4 then Some Reals else (if n == 5 then Some Array else (if n == 6 then Some Enter
    else (if n == 7 then Some Leave else (if n == 8 then Some Bigs else None)))))))

-- How many bytes of the file an item's content takes.
abbrev pub content_size : ItemKind → ℕ → ℕ
content_size Bytes count = count
content_size Words count = 4 * count
content_size Text count = count
content_size Reals count = 8 * count
content_size Array count = 8
content_size Enter count = 4
content_size Leave count = 0
content_size Bigs count = 8 * count

-- How many bytes of its block an item takes: strings and arrays are words that name them.
abbrev pub extent : ItemKind → ℕ → ℕ
extent Bytes count = count
extent Words count = 4 * count
extent Text count = 4
extent Reals count = 8 * count
extent Array count = 4
extent Enter count = 4
extent Leave count = 0
extent Bigs count = 8 * count

abbrev pub size_of : List TypeDesc → ℕ → ℕ
size_of types n = elim (slice_get types n) [ Some t ↦ t.size | None ↦ 0 ]

abbrev pub map_of : List TypeDesc → ℕ → List ℕ
map_of types n = elim (slice_get types n) [ Some t ↦ t.map | None ↦ [] ]

-- How many bytes there are from a place to the end of its block.
abbrev pub room : Place → ℕ
room place = place.block.size * (place.block.length - place.index)

-- Whether the byte at this offset is one of a reference word, by the map of the elements' type.
abbrev pub is_reference : List TypeDesc → Block → ℕ → Bool
is_reference types block offset =
    nat_lt 0 block.size && marks (map_of types block.kind) (offset % block.size / 4)

-- Whether a reference word begins at the offset.
abbrev pub begins_reference : List TypeDesc → Block → ℕ → Bool
begins_reference types block offset = is_reference types block offset && offset % block.size % 4 == 0

-- Whether none of so many bytes is one of a reference word.
abbrev pub all_plain : List TypeDesc → Block → ℕ → ℕ → Bool
all_plain types block offset zero = true
all_plain types block offset (suc n) = not (is_reference types block offset) && all_plain types block (suc offset) n

-- What was put into the blocks so far, the newest first; where items go, and where they went before each array that
-- was entered, the innermost first.
pub record Loading : Type 0 where
  pub here : Place
  pub back : List Place
  pub stands : List Standing

-- At the start items go into the module's data, which type 0 describes.
abbrev pub opening : ℕ → Loading
opening data_size = record {
  here = record { block = record { number = 0; kind = 0; size = data_size; length = 1 }; index = 0 };
  back = [];
  stands = [];
}

-- Where an offset from a place lies, in bytes from the start of the block.
abbrev pub address_of : Place → ℕ → ℕ
address_of place offset = place.index * place.block.size + offset

-- The array that stands at this address of a block: the newest string or array there decides.
abbrev pub array_at : List Standing → ℕ → ℕ → Option Block
array_at [] block at = None
array_at (s ∷ ss) block at = if s.block == block && s.at == at then s.array else array_at ss block at

-- The array at an offset from where items go.
abbrev pub entered : Loading → ℕ → Option Block
entered s offset = array_at s.stands s.here.block.number (address_of s.here offset)

-- The array that an item's content makes.
abbrev pub made : List TypeDesc → Loading → List ℕ → Block
made types s content = record {
  number = length s.stands + 1;
  kind = big_number 4 content;
  size = size_of types (big_number 4 content);
  length = big_number 4 (drop 4 content);
}

-- ---- what each field of an item has to be

-- An array is left only where one was entered.
abbrev pub is_none : List Place → Bool
is_none [] = true
is_none (p ∷ ps) = false

abbrev pub leaves_one : Loading → ItemKind → Bool
leaves_one s Leave = not (is_none s.back)
leaves_one s _ = true

-- A string or an array stands on a reference word, other content on none; what is entered is an array.
abbrev pub suits : List TypeDesc → Loading → ItemKind → ℕ → ℕ → Bool
suits types s Text count offset = begins_reference types s.here.block offset
suits types s Array count offset = begins_reference types s.here.block offset
suits types s Enter count offset = is_some (entered s offset)
suits types s Leave count offset = true
suits types s kind count offset = all_plain types s.here.block offset (extent kind count)

abbrev pub offset_stands : List TypeDesc → Loading → ItemKind → ℕ → ℕ → Bool
offset_stands types s kind count offset =
    nat_le (offset + extent kind count) (room s.here) && suits types s kind count offset

-- The elements' type is there, and all elements take at most 268,435,456 bytes.
abbrev pub array_stands : List TypeDesc → List ℕ → Bool
array_stands types content =
    nat_lt (big_number 4 content) (length types)
    && nat_le (size_of types (big_number 4 content) * big_number 4 (drop 4 content)) 268435456

-- The element that is entered is in the array.
abbrev pub index_stands : Option Block → ℕ → Bool
index_stands None index = false
index_stands (Some array) index = nat_lt index array.length

abbrev pub meaning_stands : List TypeDesc → Loading → ItemKind → ℕ → List ℕ → Bool
meaning_stands types s Text offset content = is_utf8 content
meaning_stands types s Array offset content = array_stands types content
meaning_stands types s Enter offset content = index_stands (entered s offset) (big_number 4 content)
meaning_stands types s kind offset content = true

abbrev pub content_stands : List TypeDesc → Loading → ItemKind → ℕ → ℕ → List ℕ → Bool
content_stands types s kind count offset content =
    length content == content_size kind count && meaning_stands types s kind offset content

abbrev pub stands_as : List TypeDesc → Loading → Option ItemKind → Item → Bool
stands_as types s None i = false
stands_as types s (Some kind) i =
    leaves_one s kind && (offset_stands types s kind i.count i.offset
    && content_stands types s kind i.count i.offset i.content)

unfoldable pub item_stands : List TypeDesc → Loading → Item → Bool
item_stands types s i = stands_as types s (kind_of i.kind) i

-- ---- what an item does

-- A string or an array is put on its word.
abbrev pub put : Loading → ℕ → Option Block → Loading
put s offset array = record s {
  stands =
      (record { block = s.here.block.number; at = address_of s.here offset; array = array }) ∷ s.stands;
}

abbrev pub enter : Loading → Option Block → ℕ → Loading
enter s None index = s
enter s (Some array) index = record s { here = record { block = array; index = index }; back = s.here ∷ s.back }

abbrev pub leave : Loading → List Place → Loading
leave s [] = s
leave s (place ∷ places) = record s { here = place; back = places }

abbrev pub after_kind : List TypeDesc → Loading → ItemKind → ℕ → List ℕ → Loading
after_kind types s Text offset content = put s offset None
after_kind types s Array offset content = put s offset (Some (made types s content))
after_kind types s Enter offset content = enter s (entered s offset) (big_number 4 content)
after_kind types s Leave offset content = leave s s.back
after_kind types s kind offset content = s

abbrev pub after_as : List TypeDesc → Loading → Option ItemKind → Item → Loading
after_as types s None i = s
after_as types s (Some kind) i = after_kind types s kind i.offset i.content

unfoldable pub after : List TypeDesc → Loading → Item → Loading
after types s i = after_as types s (kind_of i.kind) i

-- Each item stands where the ones before it lead, and each array that was entered is left.
abbrev pub items_stand : List TypeDesc → Loading → List Item → Bool
items_stand types s [] = is_none s.back
items_stand types s (i ∷ is) = item_stands types s i && items_stand types (after types s i) is
