-- New memory worked out by hand: for a byte, for a byte with a string, and for arrays of both.
use Rattle.std.proofs.Common.{◌≡◌, pos, [], ◌∷◌, None, refl}
use Rattle.limbo_layout.specs.Layout.{Room, number, reference, in_order}
use Rattle.dis_meaning.specs.Words.{Plain, Refer, blank}
use Rattle.dis_memory.specs.Blocks.{Array, blank_array}
use Rattle.dis_memory.specs.Strings.{byte_type}
use Rattle.value_heaps.specs.Types.{desc_of}
use Rattle.value_heaps.specs.Made.{record_desc}

abbrev with_text : Room
with_text = in_order (number 1 ∷ reference ∷ [])

-- A byte takes one byte, and a record for it one word. The type of the byte itself wouldn't do: that makes no word.
byte_record : blank (record_desc (number 1)) ≡ Plain (pos 0) ∷ []
byte_record = refl

no_word : blank (desc_of (number 1)) ≡ []
no_word = refl

text_record : blank (record_desc with_text) ≡ Plain (pos 0) ∷ Refer None ∷ []
text_record = refl

-- It is the type by which the machine makes arrays of bytes itself: nothing refers, and the map is empty.
own_type : desc_of (number 1) ≡ byte_type
own_type = refl

five_bytes : blank_array (desc_of (number 1)) 5 ≡ Array (desc_of (number 1)) 5 (Plain (pos 0) ∷ Plain (pos 0) ∷ [])
five_bytes = refl

two_texts : blank_array (desc_of with_text) 2
    ≡ Array (desc_of with_text) 2 (Plain (pos 0) ∷ Refer None ∷ Plain (pos 0) ∷ Refer None ∷ [])
two_texts = refl
