-- Blocks worked out by hand: a cell, an array; and that a value and a block's type don't tell how its words are laid out, but its form
-- does.
use Rattle.std.proofs.Common.{◌≡◌, ℕ, zero, suc, ◌+◌, ◌*◌, ◌<◌, pos, List, [], ◌∷◌, Option, Some, None, refl, inl, arith, sym, subst}
use Rattle.std.proofs.Common.{◌∙◌, ap}
use Rattle.std.specs.Prelude.{ℤ, slice_get}
use Rattle.std.proofs.lemmas.Int.{ints}
use Rattle.heap_model.specs.Facts.{Fact, Named, Chars}
use Rattle.limbo_types.specs.Types as ty
use Rattle.limbo_types.specs.Types.{Ty, Tys, MoreTys, NoTys}
use Rattle.limbo_layout.specs.Adts.{Has}
use Rattle.limbo_layout.specs.Layout as layout
use Rattle.limbo_layout.specs.Layout.{Room, Laid, AllLaid, is_alone, none_laid, more_laid, nothing, number, reference, behind, in_order}
use Rattle.limbo_values.specs.declared.number.Kind.TheVariants as kind
use Rattle.limbo_values.specs.Numbers.{InRange}
use Rattle.limbo_meaning.specs.Values as value
use Rattle.limbo_meaning.specs.Values.{Value, Num, Ref, Parts, row}
use Rattle.limbo_meaning.specs.Memory as source
use Rattle.dis_file.specs.declared.types.TypeDesc.{TypeDesc}
use Rattle.dis_meaning.specs.Words.{Word, Plain, Refer, Found, blank}
use Rattle.dis_meaning.specs.Numbers.{number_at}
use Rattle.dis_memory.specs.Blocks as block
use Rattle.dis_memory.specs.Blocks.{Block}
use Rattle.dis_memory.specs.Copies.{typed_words}
use Rattle.value_words.specs.Contents.{AreInRange}
use Rattle.value_words.specs.Forms as form
use Rattle.value_words.specs.Forms.{Form, Cells}
use Rattle.value_words.specs.Facts.{Facts}
use Rattle.value_words.specs.Stands.{Stands, a_number, a_text, a_name, an_array, no_words, a_tuple, an_adt, none_stand, more_stand}
use Rattle.value_words.proofs.Parts.{parts_stand, part_among}
use Rattle.value_heaps.specs.Types.{desc_of}
use Rattle.value_heaps.specs.Blocks.{IsBlock, elements, cell}
use Rattle.value_heaps.proofs.Formed.{are_elements}

abbrev known_of : ℕ → Option (Fact Block)
known_of (suc (suc (suc zero))) = Some (Named 9)
known_of (suc (suc (suc (suc zero)))) = Some (Chars (72 ∷ []))
known_of b = None

only_three : (n m : ℕ) → known_of n ≡ Some (Named m) → n ≡ 3
only_three zero m e = absurd cc
only_three (suc zero) m e = absurd cc
only_three (suc (suc zero)) m e = absurd cc
only_three (suc (suc (suc zero))) m e = refl
only_three (suc (suc (suc (suc zero)))) m e = absurd cc
only_three (suc (suc (suc (suc (suc n))))) m e = absurd cc

-- a byte and an int, and an int and a byte
abbrev byte_first : Tys
byte_first = MoreTys ty.Byte (MoreTys ty.Int NoTys)

abbrev int_first : Tys
int_first = MoreTys ty.Int (MoreTys ty.Byte NoTys)

abbrev formed_of : ℕ → Option Form
formed_of (suc (suc (suc zero))) = Some (Cells ty.Int)
formed_of (suc (suc (suc (suc (suc zero))))) = Some (Cells ty.Int)
formed_of (suc (suc (suc (suc (suc (suc zero)))))) = Some (form.Elements ty.Chars 2)
formed_of (suc (suc (suc (suc (suc (suc (suc zero))))))) = Some (form.Elements (ty.Tuple byte_first) 1)
formed_of (suc (suc (suc (suc (suc (suc (suc (suc zero)))))))) = Some (form.Elements (ty.Tuple int_first) 1)
formed_of b = None

-- Block 3 stands for value 9, and block 4 for "H". Blocks 3 and 5 are cells of ints, block 6 is an array of two strings, block 7 one of a
-- byte and an int, and block 8 one of an int and a byte.
abbrev known : Facts
known = record {
  fact = known_of;
  maker = λ b. None;
  form = formed_of;
  once = λ m n n' e f. only_three n m e ∙ sym (only_three n' m f);
}

small : (n : ℕ) (z : ℤ) → n < 2147483648 → pos n ≡ z → InRange kind.Int z
small n z l e = subst (λ y. InRange kind.Int y) e (record { above = omega (arith, ints); below = omega (arith, ints) })

-- ---- the cell 5 :: l of a list of ints

ints_cell : IsBlock [] [] [] known 5 (source.Cell (Num (pos 5)) (Some 9)) (block.Cell (Plain (pos 5) ∷ []) (Some 3))
ints_cell =
    cell ty.Int (number 4) (Plain (pos 5) ∷ []) (Num (pos 5)) (Some 9) (Some 3) refl (is_alone ty.Int (number 4) refl)
    ((λ w i. let l = i.1 in omega arith), ranges)
    (a_number 0 kind.Int (pos 5) refl (record { above = omega (arith, ints); below = omega (arith, ints) }))
    (λ w to e i. absurd (only_plain w to e)) (λ w b e. absurd (only_plain w (Some b) e)) (record { fact = refl; formed = refl })
    (λ b e. let f : 3 ≡ b = cc in omega (arith, f))
  where
    only_plain : (w : ℕ) (to : Option ℕ) → slice_get (Plain (pos 5) ∷ []) w ≡ Some (Refer to) → ⊥
    only_plain zero to e = cc
    only_plain (suc w) to e = cc

    ranges : AreInRange (Plain (pos 5) ∷ [])
    ranges zero z e = small 5 z (omega arith) (let f : pos 5 ≡ z = cc in f)
    ranges (suc w) z e = absurd cc

-- ---- an array of two strings, "H" and the empty one

abbrev two_words : List Word
two_words = Refer (Some 4) ∷ Refer None ∷ []

abbrev two_texts : List Value
two_texts = value.Chars (72 ∷ []) ∷ value.Chars [] ∷ []

texts_array : IsBlock [] [] [] known 6 (source.Elements two_texts) (block.Array (desc_of reference) 2 two_words)
texts_array =
    elements ty.Chars reference two_words two_texts refl (is_alone ty.Chars reference refl) (small 2 (pos 2) (omega arith) refl)
    ((λ w i. let l = i.1 in omega arith), ranges) each only
  where
    each : (i : ℕ) (v : Value) → slice_get two_texts i ≡ Some v → Stands [] known two_words (i * 4) ty.Chars v
    each zero v e =
        let f : value.Chars (72 ∷ []) ≡ v = cc in
        subst (λ (u : Value). Stands [] known two_words 0 ty.Chars u) f (a_text 0 (Some 4) (72 ∷ []) refl (refl, ((omega arith, tt), omega arith)))
    each (suc zero) v e =
        let f : value.Chars [] ≡ v = cc in subst (λ (u : Value). Stands [] known two_words 4 ty.Chars u) f (a_text 4 None [] refl refl)
    each (suc (suc i)) v e = absurd cc

    ranges : AreInRange two_words
    ranges zero z e = absurd cc
    ranges (suc zero) z e = absurd cc
    ranges (suc (suc w)) z e = absurd cc

    only : (w : ℕ) (to : Option ℕ) → slice_get two_words w ≡ Some (Refer to)
        → (i : ℕ) × (i < 2) × ((o : ℕ) × Has (0 ∷ []) o × (i * 4 + o ≡ 4 * w))
    only zero to e = (0, omega arith, (0, inl refl, refl))
    only (suc zero) to e = (1, omega arith, (0, inl refl, refl))
    only (suc (suc w)) to e = absurd cc

-- ---- (1, 2) of a byte and an int, and of an int and a byte: one value, one type of the machine, other words

abbrev byte_rooms : List Room
byte_rooms = number 1 ∷ number 4 ∷ []

abbrev int_rooms : List Room
int_rooms = number 4 ∷ number 1 ∷ []

abbrev one_two : List Value
one_two = Num (pos 1) ∷ Num (pos 2) ∷ []

one_type : desc_of (in_order byte_rooms) ≡ desc_of (in_order int_rooms)
one_type = refl

byte_laid : AllLaid [] (ty.Byte ∷ ty.Int ∷ []) byte_rooms
byte_laid =
    more_laid ty.Byte (ty.Int ∷ []) (number 1) (number 4 ∷ []) (is_alone ty.Byte (number 1) refl)
    (more_laid ty.Int [] (number 4) [] (is_alone ty.Int (number 4) refl) none_laid)

int_laid : AllLaid [] (ty.Int ∷ ty.Byte ∷ []) int_rooms
int_laid =
    more_laid ty.Int (ty.Byte ∷ []) (number 4) (number 1 ∷ []) (is_alone ty.Int (number 4) refl)
    (more_laid ty.Byte [] (number 1) [] (is_alone ty.Byte (number 1) refl) none_laid)

abbrev byte_words : List Word
byte_words = Plain (pos 16777216) ∷ Plain (pos 2) ∷ []

abbrev int_words : List Word
int_words = Plain (pos 1) ∷ Plain (pos 33554432) ∷ []

byte_stand : Stands [] known byte_words 0 (ty.Tuple byte_first) (Parts (row one_two))
byte_stand =
    a_tuple 0 byte_first byte_rooms one_two byte_laid
    (more_stand 0 nothing ty.Byte (ty.Int ∷ []) (number 1) (number 4 ∷ []) (Num (pos 1)) (Num (pos 2) ∷ [])
    (a_number 0 kind.Byte (pos 1) refl (record { above = omega (arith, ints); below = omega (arith, ints) }))
    (more_stand 0 (behind nothing (number 1)) ty.Int [] (number 4) [] (Num (pos 2)) []
    (a_number 4 kind.Int (pos 2) refl (record { above = omega (arith, ints); below = omega (arith, ints) }))
    (none_stand 0 _)))

int_stand : Stands [] known int_words 0 (ty.Tuple int_first) (Parts (row one_two))
int_stand =
    a_tuple 0 int_first int_rooms one_two int_laid
    (more_stand 0 nothing ty.Int (ty.Byte ∷ []) (number 4) (number 1 ∷ []) (Num (pos 1)) (Num (pos 2) ∷ [])
    (a_number 0 kind.Int (pos 1) refl (record { above = omega (arith, ints); below = omega (arith, ints) }))
    (more_stand 0 (behind nothing (number 4)) ty.Byte [] (number 1) [] (Num (pos 2)) []
    (a_number 4 kind.Byte (pos 2) refl (record { above = omega (arith, ints); below = omega (arith, ints) }))
    (none_stand 0 _)))

abbrev the_value : source.HeapValue
the_value = source.Elements (Parts (row one_two) ∷ [])

-- two plain words, and what they stand for
one_array : (n : ℕ) (ts : Tys) (rs : List Room) (x y : ℕ) → formed_of n ≡ Some (form.Elements (ty.Tuple ts) 1) → x < 2147483648
    → y < 2147483648 → (in_order rs).size ≡ 8
    → Laid [] (ty.Tuple ts) (in_order rs) → Stands [] known (Plain (pos x) ∷ Plain (pos y) ∷ []) 0 (ty.Tuple ts) (Parts (row one_two))
    → IsBlock [] [] [] known n the_value (block.Array (desc_of (in_order rs)) 1 (Plain (pos x) ∷ Plain (pos y) ∷ []))
one_array n ts rs x y f a b size l s =
    elements (ty.Tuple ts) (in_order rs) words (Parts (row one_two) ∷ []) f l (small 1 (pos 1) (omega arith) refl)
    ((λ w i. let h = i.1 in omega arith), ranges) each
    (λ w to e. absurd (plain w to e))
  where
    words : List Word
    words = Plain (pos x) ∷ Plain (pos y) ∷ []

    ranges : AreInRange words
    ranges zero z e = small x z a (let f : pos x ≡ z = cc in f)
    ranges (suc zero) z e = small y z b (let f : pos y ≡ z = cc in f)
    ranges (suc (suc w)) z e = absurd cc

    plain : (w : ℕ) (to : Option ℕ) → slice_get words w ≡ Some (Refer to) → ⊥
    plain zero to e = cc
    plain (suc zero) to e = cc
    plain (suc (suc w)) to e = cc

    each : (i : ℕ) (v : Value) → slice_get (Parts (row one_two) ∷ []) i ≡ Some v
        → Stands [] known words (i * (in_order rs).size) (ty.Tuple ts) v
    each zero v e =
        let f : Parts (row one_two) ≡ v = cc in
        let z : 0 * (in_order rs).size ≡ 0 = omega arith in
        subst (λ (u : Value). Stands [] known words (0 * (in_order rs).size) (ty.Tuple ts) u) f
        (subst (λ (n : ℕ). Stands [] known words n (ty.Tuple ts) (Parts (row one_two))) (sym z) s)
    each (suc i) v e = absurd cc

abbrev the_type : layout.Room
the_type = in_order byte_rooms

-- both blocks stand for it
by_bytes : IsBlock [] [] [] known 7 the_value (block.Array (desc_of the_type) 1 byte_words)
by_bytes =
    one_array 7 byte_first byte_rooms 16777216 2 refl (omega arith) (omega arith) refl (layout.of_tuple byte_first byte_rooms byte_laid)
    byte_stand

by_ints : IsBlock [] [] [] known 8 the_value (block.Array (desc_of the_type) 1 int_words)
by_ints =
    one_array 8 int_first int_rooms 1 33554432 refl (omega arith) (omega arith) refl (layout.of_tuple int_first int_rooms int_laid)
    int_stand

-- but they are of different forms
other_forms : known.form 7 ≡ known.form 8 → ⊥
other_forms e =
    let f : Some (form.Elements (ty.Tuple byte_first) 1) ≡ Some (form.Elements (ty.Tuple int_first) 1) = e in
    cc

-- and of the form of an int and a byte a block with the words of the other stands for no such value
reads : (words : List Word) (at : ℕ) (t : Ty) (v : Value) (z : ℤ) → Stands [] known words at t v → t ≡ ty.Int → v ≡ Num z
    → number_at kind.Int words (pos at) ≡ Found z
reads words _ _ _ y (a_number at kind.Int z e i) f g = let h : z ≡ y = cc in e ∙ ap Found h
reads words _ _ _ y (a_number at kind.Byte z e i) f g = absurd cc
reads words _ _ _ y (a_number at kind.Big z e i) f g = absurd cc
reads words _ _ _ y (a_text at r s e h) f g = absurd cc
reads words _ _ _ y (a_name at t r n i e h) f g = absurd cc
reads words _ _ _ y (an_array at t r p e h) f g = absurd cc
reads words _ _ _ y (no_words at) f g = absurd cc
reads words _ _ _ y (a_tuple at ts rs vs l all) f g = absurd cc
reads words _ _ _ y (an_adt at n d rs vs e l all) f g = absurd cc

no_stand : Stands [] known byte_words 0 (ty.Tuple int_first) (Parts (row one_two)) → ⊥
no_stand s =
    let all = parts_stand [] known byte_words 0 (ty.Tuple int_first) (Parts (row one_two)) s one_two refl int_rooms int_laid in
    let first : Stands [] known byte_words 0 ty.Int (Num (pos 1)) =
    part_among [] known byte_words 0 nothing (ty.Int ∷ ty.Byte ∷ []) int_rooms one_two 0 ty.Int (number 4) all refl refl in
    let e : Found (pos 16777216) ≡ Found (pos 1) = reads byte_words 0 ty.Int (Num (pos 1)) (pos 1) first refl refl in
    let f : pos 16777216 ≡ pos 1 = cc in
    omega (arith, ints)

bytes_by_ints : (desc : TypeDesc) → IsBlock [] [] [] known 8 the_value (block.Array desc 1 byte_words) → ⊥
bytes_by_ints desc b =
    let a = are_elements [] [] [] known 8 the_value (block.Array desc 1 byte_words) (ty.Tuple int_first) 1 b refl in
    let is : block.Array desc 1 byte_words ≡ block.Array (desc_of a.room) 1 a.words = a.is in
    let same : a.words ≡ byte_words = cc in
    let value : source.Elements (Parts (row one_two) ∷ []) ≡ source.Elements a.values = a.value in
    let there : a.values ≡ Parts (row one_two) ∷ [] = cc in
    let s = a.each 0 (Parts (row one_two)) (ap (λ (vs : List Value). slice_get vs 0) there) in
    let zero : 0 * a.room.size ≡ 0 = omega arith in
    no_stand
    (subst (λ (n : ℕ). Stands [] known byte_words n (ty.Tuple int_first) (Parts (row one_two))) zero
    (subst (λ (ws : List Word). Stands [] known ws (0 * a.room.size) (ty.Tuple int_first) (Parts (row one_two))) same s))

-- ---- values that take no whole number of words: a record made by their type lacks them, and no word of theirs moves by it

abbrev two_bytes : Room
two_bytes = in_order (number 1 ∷ number 1 ∷ [])

no_words_made : blank (desc_of two_bytes) ≡ []
no_words_made = refl

no_words_moved : typed_words (desc_of two_bytes) (Plain (pos 16908288) ∷ []) 0 ≡ Found []
no_words_moved = refl
