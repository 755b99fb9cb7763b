-- What a machine with memory begins with (dis(6), "Data section"): the instance of its module, with the items put into its data, and one
-- process at the module's entry.
use Rattle.std.specs.Prelude.{ℕ, ◌+◌, ◌*◌, ℤ, pos, ◌==◌, List, [], ◌∷◌, map, Some, nat_lt, if◌then◌else◌}
use Rattle.std.specs.Int.{w32, w64, cast_signed, from_be_bytes}
use Rattle.std.specs.Str.{chars, is_utf8}
use Rattle.process_model.specs.Process.{Ready}
use Rattle.process_model.specs.Naming.{total}
use Rattle.dis_file.specs.declared.object.Item.{Item}
use Rattle.dis_file.specs.declared.object.Object.{Object}
use Rattle.dis_file.specs.declared.types.TypeDesc.{TypeDesc}
use Rattle.limbo_values.specs.declared.number.Kind.{Kind}
use Rattle.limbo_values.specs.declared.number.Kind.TheVariants.{Byte, Int, Big}
use Rattle.system_model.specs.World.{opening_world}
use Rattle.dis_meaning.specs.Words.{Word, Refer, Access, Found, Wrong, ◌>>=◌, type_check, word_at, reference, stored, blank}
use Rattle.dis_meaning.specs.Numbers.{with_number_at}
use Rattle.dis_meaning.specs.Opening.{entered}
use Rattle.dis_meaning.specs.Process.{Process}
use Rattle.dis_memory.specs.Blocks.{Block, Text, Instance, World, with_block, next_serial}
use Rattle.dis_memory.specs.Raising.{not_nil}
use Rattle.dis_memory.specs.Places.{data_at, with_data}
use Rattle.dis_memory.specs.Kinds.{Elements, elements_at}
use Rattle.dis_memory.specs.Operands.{type_of}
use Rattle.dis_memory.specs.Arrays.{new_array}
use Rattle.dis_memory.specs.Naming.{naming}

-- ---- where items go

-- A block, and the byte of it from which offsets count.
pub record Into : Type 0 where
  pub serial : ℕ
  pub from : ℕ

-- The blocks while items are put in; where items go; and where they went before each array that was entered, the innermost first.
pub record Loading : Type 0 where
  pub world : World
  pub here : Into
  pub back : List Into

abbrev pub loading : World → Into → List Into → Loading
loading x here back = record { world = x; here = here; back = back }

-- The byte of an offset.
abbrev pub byte_of : Loading → (offset : ℕ) → ℤ
byte_of l offset = pos (l.here.from + offset)

-- The words where items go are changed so.
abbrev pub changed : Loading → (List Word → Access (List Word)) → Access Loading
changed l change =
    data_at l.world l.here.serial >>= change >>= with_data l.world l.here.serial >>= λ y. Found (loading y l.here l.back)

-- ---- numbers

-- The numbers of four bytes each, and of eight, the high byte first.
abbrev pub fours : List ℕ → Access (List ℕ)
fours [] = Found []
fours (a ∷ b ∷ c ∷ d ∷ bytes) = fours bytes >>= λ ns. Found (from_be_bytes w32 (a ∷ b ∷ c ∷ d ∷ []) ∷ ns)
fours _ = Wrong type_check

abbrev pub eights : List ℕ → Access (List ℕ)
eights [] = Found []
eights (a ∷ b ∷ c ∷ d ∷ e ∷ f ∷ g ∷ h ∷ bytes) =
    eights bytes >>= λ ns. Found (from_be_bytes w64 (a ∷ b ∷ c ∷ d ∷ e ∷ f ∷ g ∷ h ∷ []) ∷ ns)
eights _ = Wrong type_check

-- Bytes as numbers of a kind, and how many bytes each has.
abbrev pub numbers : Kind → List ℕ → Access (List ℤ)
numbers Byte bytes = Found (map pos bytes)
numbers Int bytes = fours bytes >>= λ ns. Found (map (cast_signed w32) ns)
numbers Big bytes = eights bytes >>= λ ns. Found (map (cast_signed w64) ns)

abbrev pub width : Kind → ℕ
width Byte = 1
width Int = 4
width Big = 8

-- Numbers that are put one behind the other, from a byte on.
abbrev pub with_numbers : Kind → (from : ℕ) → List ℤ → List Word → Access (List Word)
with_numbers kind from [] words = Found words
with_numbers kind from (z ∷ zs) words = with_number_at kind words (pos from) z >>= with_numbers kind (from + width kind) zs

abbrev pub with_numbers_of : Kind → Loading → (offset : ℕ) → (content : List ℕ) → Access Loading
with_numbers_of kind l offset content =
    numbers kind content >>= λ zs. changed l (with_numbers kind (l.here.from + offset) zs)

-- ---- strings and arrays

-- A new block, and a reference to it.
abbrev pub with_new : Loading → (offset : ℕ) → Block → Access Loading
with_new l offset b =
    changed (loading (with_block l.world b) l.here l.back)
    (λ words. stored words (byte_of l offset) (Refer (Some (next_serial l.world))))

-- A string, which is well-formed UTF-8.
abbrev pub text_of : List ℕ → Access Block
text_of bytes = if is_utf8 bytes then Found (Text (chars bytes)) else Wrong type_check

-- An array: the number of its elements' type, and how many there are.
abbrev pub array_by : Object → List ℕ → Access Block
array_by o (type ∷ long ∷ []) = type_of o type >>= λ element. new_array element (pos long)
array_by o _ = Wrong type_check

abbrev pub array_of : Object → List ℕ → Access Block
array_of o content = fours content >>= array_by o

-- The items that follow go into the array whose reference stands there, from the element of an index on.
abbrev pub index_by : List ℕ → Access ℕ
index_by (index ∷ []) = Found index
index_by _ = Wrong type_check

abbrev pub element_of : (index : ℕ) → Elements → Access Into
element_of index e =
    if nat_lt index e.long then Found (record { serial = e.array; from = (e.start + index) * e.element.size }) else Wrong type_check

abbrev pub into_array : Loading → (offset : ℕ) → List ℕ → Access Loading
into_array l offset content =
    fours content >>= index_by >>= λ index.
    data_at l.world l.here.serial >>= λ words.
    word_at words (byte_of l offset) >>= reference >>= elements_at l.world >>= not_nil >>= element_of index >>= λ i.
    Found (loading l.world i (l.here ∷ l.back))

-- They go again where they went before the last array was entered.
abbrev pub out_of_array : Loading → List Into → Access Loading
out_of_array l [] = Wrong type_check
out_of_array l (i ∷ back) = Found (loading l.world i back)

-- ---- items

-- 1 bytes, 2 words, 3 a string, 5 an array, 6 into an array, 7 back, 8 bigs. There are no reals in this part.
abbrev pub with_item : Object → Loading → Item → Access Loading
with_item o l i =
    if i.kind == 1 then with_numbers_of Byte l i.offset i.content
    else (if i.kind == 2 then with_numbers_of Int l i.offset i.content
    else (if i.kind == 3 then text_of i.content >>= with_new l i.offset
    else (if i.kind == 5 then array_of o i.content >>= with_new l i.offset
    else (if i.kind == 6 then into_array l i.offset i.content
    else (if i.kind == 7 then out_of_array l l.back
    else (if i.kind == 8 then with_numbers_of Big l i.offset i.content
    else Wrong type_check))))))

abbrev pub with_items : Object → Loading → List Item → Access Loading
with_items o l [] = Found l
with_items o l (i ∷ is) = with_item o l i >>= λ m. with_items o m is

-- ---- the opening

-- The instance of the program's first module, whose data are of this type: block 0.
abbrev pub instance_of : TypeDesc → World
instance_of type = record {
  heap = Some (Instance 0 (blank type)) ∷ [];
  outside = record { frames = 1; outside = opening_world };
}

-- What a machine begins with.
pub record Opened : Type 0 where
  pub world : World
  pub first : Process

-- What the first process doesn't name, nor what it names, goes, as behind each step.
abbrev pub opens : World → Process → Opened
opens x p = record { world = naming.trim (total naming (Ready p ∷ [])) x; first = p }

-- A machine of this object, which begins at its entry. There is none where the object lacks the type of its data or of its entry's frame,
-- or has an item that can't be put where it says.
abbrev pub opened : Object → Access Opened
opened o =
    type_of o 0 >>= λ type.
    type_of o o.entry_type >>= λ frame_type.
    with_items o (loading (instance_of type) (record { serial = 0; from = 0 }) []) o.items >>= λ l.
    Found (opens l.world (entered o (blank frame_type)))
