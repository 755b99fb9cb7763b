-- A tuple in words, worked out by hand; and words that stand for no value, though their bytes are those of one.
use Rattle.std.proofs.Common.{◌≡◌, ℕ, zero, suc, ◌+◌, ◌<◌, pos, List, [], ◌∷◌, Some, None, refl, inl, inr, arith, sym, ◌∙◌, ap}
use Rattle.std.specs.Prelude.{ℤ, Option, ◌⊎◌, ◌/◌, slice_get}
use Rattle.std.proofs.lemmas.Int.{ints}
use Rattle.limbo_types.specs.Types as ty
use Rattle.limbo_types.specs.Types.{Ty, Tys, MoreTys, NoTys}
use Rattle.limbo_layout.specs.Adts.{Has}
use Rattle.limbo_layout.specs.Layout.{Room, AllLaid, is_alone, none_laid, more_laid, nothing, number, reference, behind, in_order}
use Rattle.limbo_values.specs.declared.number.Kind.{Kind}
use Rattle.limbo_values.specs.declared.number.Kind.TheVariants as kind
use Rattle.limbo_typed.specs.Fitting.{of_kind}
use Rattle.limbo_meaning.specs.Values.{Value, Num, Ref, Parts, row}
use Rattle.dis_meaning.specs.Words.{Word, Plain, Refer, Found}
use Rattle.dis_meaning.specs.Numbers.{number_at}
use Rattle.heap_model.specs.Facts.{Fact, Named}
use Rattle.dis_memory.specs.Blocks.{Block}
use Rattle.value_words.specs.Forms.{Form, Cells, form_of}
use Rattle.value_words.specs.Facts.{Facts, IsName}
use Rattle.value_words.specs.Stands.{Stands, a_number, a_text, a_name, an_array, no_words, a_tuple, an_adt, none_stand, more_stand}
use Rattle.value_words.specs.Contents as contents
use Rattle.value_words.specs.Contents.{content, AreBlank, IsOfReference, SameBytes, NamesAt, of_tuple, of_byte, of_int, one_name}
use Rattle.value_words.specs.Contents.{more_names, none_names}
use Rattle.value_words.proofs.Dropped.{stands_without}

-- ---- (byte 7, 5, l), where block 3 stands for a cell of name 9, of a list of ints

abbrev ints_list : Ty
ints_list = ty.ListOf ty.Int

abbrev three : Tys
three = MoreTys ty.Byte (MoreTys ty.Int (MoreTys ints_list NoTys))

abbrev rooms : List Room
rooms = number 1 ∷ number 4 ∷ reference ∷ []

three_laid : AllLaid [] (ty.Byte ∷ ty.Int ∷ ints_list ∷ []) rooms
three_laid =
    more_laid ty.Byte (ty.Int ∷ ints_list ∷ []) (number 1) (number 4 ∷ reference ∷ []) (is_alone ty.Byte (number 1) refl)
    (more_laid ty.Int (ints_list ∷ []) (number 4) (reference ∷ []) (is_alone ty.Int (number 4) refl)
    (more_laid ints_list [] reference [] (is_alone ints_list reference refl) none_laid))

abbrev known_of : ℕ → Option (Fact Block)
known_of (suc (suc (suc zero))) = Some (Named 9)
known_of b = None

abbrev formed_of : ℕ → Option Form
formed_of (suc (suc (suc zero))) = Some (Cells ty.Int)
formed_of b = None

only_three : (n m : ℕ) → known_of n ≡ Some (Named m) → n ≡ 3
only_three zero m e = absurd cc
only_three (suc zero) m e = absurd cc
only_three (suc (suc zero)) m e = absurd cc
only_three (suc (suc (suc zero))) m e = refl
only_three (suc (suc (suc (suc n)))) m e = absurd cc

abbrev known : Facts
known = record {
  fact = known_of;
  maker = λ b. None;
  form = formed_of;
  once = λ m n n' e f. only_three n m e ∙ sym (only_three n' m f);
}

-- the byte is the first of its word
abbrev words : List Word
words = Plain (pos 117440512) ∷ Plain (pos 5) ∷ Refer (Some 3) ∷ []

abbrev values : List Value
values = Num (pos 7) ∷ Num (pos 5) ∷ Ref (Some 9) ∷ []

three_stand : Stands [] known words 0 (ty.Tuple three) (Parts (row values))
three_stand =
    a_tuple 0 three rooms values three_laid
    (more_stand 0 nothing ty.Byte (ty.Int ∷ ints_list ∷ []) (number 1) (number 4 ∷ reference ∷ []) (Num (pos 7))
    (Num (pos 5) ∷ Ref (Some 9) ∷ [])
    (a_number 0 kind.Byte (pos 7) refl (record { above = omega (arith, ints); below = omega (arith, ints) }))
    (more_stand 0 (behind nothing (number 1)) ty.Int (ints_list ∷ []) (number 4) (reference ∷ []) (Num (pos 5)) (Ref (Some 9) ∷ [])
    (a_number 4 kind.Int (pos 5) refl (record { above = omega (arith, ints); below = omega (arith, ints) }))
    (more_stand 0 (behind (behind nothing (number 1)) (number 4)) ints_list [] reference [] (Ref (Some 9)) []
    (a_name 8 ints_list (Some 3) (Some 9) tt refl (record { fact = refl; formed = refl }))
    (none_stand 0 _))))

-- its one name lies at byte 8
three_named : NamesAt [] (ty.Tuple three) (8 ∷ [])
three_named =
    of_tuple three rooms (8 ∷ []) three_laid
    (more_names nothing ty.Byte (ty.Int ∷ ints_list ∷ []) (number 1) (number 4 ∷ reference ∷ []) [] (8 ∷ []) of_byte
    (more_names (behind nothing (number 1)) ty.Int (ints_list ∷ []) (number 4) (reference ∷ []) [] (8 ∷ []) of_int
    (more_names (behind (behind nothing (number 1)) (number 4)) ints_list [] reference [] (0 ∷ []) [] (one_name ints_list tt)
    (none_names _))))

-- without it
three_without : Stands [] known (Plain (pos 117440512) ∷ Plain (pos 5) ∷ Refer None ∷ []) 0 (ty.Tuple three)
    (Parts (row (Num (pos 7) ∷ Num (pos 5) ∷ Ref None ∷ [])))
three_without = stands_without [] known words 0 (ty.Tuple three) (Parts (row values)) (8 ∷ []) 0 8 three_stand three_named refl

-- a word that refers to that cell stands for no list of bytes
bytes_asked : (asked : Option Form) (r n : Option ℕ) → asked ≡ Some (Cells ty.Byte) → n ≡ Some 9 → IsName known asked r n → ⊥
bytes_asked asked r None e f h = absurd cc
bytes_asked asked None (Some n) e f h = h
bytes_asked None (Some b) (Some n) e f h = h
bytes_asked (Some form) (Some b) (Some n) e f h =
    let g = only_three b n h.fact in
    let i : formed_of 3 ≡ Some form = ap formed_of (sym g) ∙ h.formed in
    let j : Some (Cells ty.Int) ≡ Some (Cells ty.Byte) = i ∙ e in
    cc

no_bytes_list : (words : List Word) (at : ℕ) (t : Ty) (v : Value) → Stands [] known words at t v → t ≡ ty.ListOf ty.Byte
    → v ≡ Ref (Some 9) → ⊥
no_bytes_list words _ _ _ (a_number at k z e i) f g = absurd cc
no_bytes_list words _ _ _ (a_text at r s e h) f g = absurd cc
no_bytes_list words _ _ _ (a_name at t r n i e h) f g =
    bytes_asked (form_of t) r n (ap form_of f) (let j : Ref n ≡ Ref (Some 9) = g in cc) h
no_bytes_list words _ _ _ (an_array at t r p e h) f g = absurd cc
no_bytes_list words _ _ _ (no_words at) f g = absurd cc
no_bytes_list words _ _ _ (a_tuple at ts rs vs l all) f g = absurd cc
no_bytes_list words _ _ _ (an_adt at n d rs vs e l all) f g = absurd cc

-- memory as it is made for one
abbrev made : List Word
made = Plain (pos 0) ∷ Plain (pos 0) ∷ Refer None ∷ []

three_blank : AreBlank made 0 (in_order rooms)
three_blank = record { refer = refer; zeros = zeros }
  where
    refer : (o : ℕ) → Has (8 ∷ []) o → slice_get made ((0 + o) / 4) ≡ Some (Refer None)
    refer o (inl e) = ap (λ n. slice_get made ((0 + n) / 4)) (sym e)
    refer o (inr h) = absurd h

    zeros : (o : ℕ) → o < 12 → (content made (0 + o) ≡ Some (contents.Byte 0)) ⊎ IsOfReference (in_order rooms) o
    zeros zero l = inl refl
    zeros (suc zero) l = inl refl
    zeros (suc (suc zero)) l = inl refl
    zeros (suc (suc (suc zero))) l = inl refl
    zeros (suc (suc (suc (suc zero)))) l = inl refl
    zeros (suc (suc (suc (suc (suc zero))))) l = inl refl
    zeros (suc (suc (suc (suc (suc (suc zero)))))) l = inl refl
    zeros (suc (suc (suc (suc (suc (suc (suc zero))))))) l = inl refl
    zeros (suc (suc (suc (suc (suc (suc (suc (suc n)))))))) l = inr (8, inl refl, omega arith, omega arith)

-- ---- words beyond their range

abbrev no_facts : ℕ → Option (Fact Block)
no_facts b = None

none_once : (m n n' : ℕ) → no_facts n ≡ Some (Named m) → no_facts n' ≡ Some (Named m) → n ≡ n'
none_once m n n' e f = absurd cc

abbrev nothing_known : Facts
nothing_known = record { fact = no_facts; maker = λ b. None; form = λ b. None; once = none_once }

-- Where a number stands it is read.
reads : (words : List Word) (at : ℕ) (t : Ty) (v : Value) → Stands [] nothing_known words at t v → (k : Kind) (z : ℤ) → t ≡ of_kind k
    → v ≡ Num z → number_at k words (pos at) ≡ Found z
reads words _ _ _ (a_number at kind.Byte z e i) kind.Byte y f g = let h : z ≡ y = cc in e ∙ ap Found h
reads words _ _ _ (a_number at kind.Int z e i) kind.Int y f g = let h : z ≡ y = cc in e ∙ ap Found h
reads words _ _ _ (a_number at kind.Big z e i) kind.Big y f g = let h : z ≡ y = cc in e ∙ ap Found h
reads words _ _ _ (a_number at kind.Byte z e i) kind.Int y f g = absurd cc
reads words _ _ _ (a_number at kind.Byte z e i) kind.Big y f g = absurd cc
reads words _ _ _ (a_number at kind.Int z e i) kind.Byte y f g = absurd cc
reads words _ _ _ (a_number at kind.Int z e i) kind.Big y f g = absurd cc
reads words _ _ _ (a_number at kind.Big z e i) kind.Byte y f g = absurd cc
reads words _ _ _ (a_number at kind.Big z e i) kind.Int y f g = absurd cc
reads words _ _ _ (a_text at r s e h) k y f g = absurd cc
reads words _ _ _ (a_name at t r n i e h) k y f g = absurd cc
reads words _ _ _ (an_array at t r p e h) k y f g = absurd cc
reads words _ _ _ (no_words at) k y f g = absurd cc
reads words _ _ _ (a_tuple at ts rs vs l all) k y f g = absurd cc
reads words _ _ _ (an_adt at n d rs vs e l all) k y f g = absurd cc

-- 2 ^ 32 has the bytes of 0, and is read as no zero
abbrev wide : List Word
wide = Plain (pos 4294967296) ∷ []

wide_blank : AreBlank wide 0 (number 4)
wide_blank = record { refer = λ o h. absurd h; zeros = zeros }
  where
    zeros : (o : ℕ) → o < 4 → (content wide (0 + o) ≡ Some (contents.Byte 0)) ⊎ IsOfReference (number 4) o
    zeros zero l = inl refl
    zeros (suc zero) l = inl refl
    zeros (suc (suc zero)) l = inl refl
    zeros (suc (suc (suc zero))) l = inl refl
    zeros (suc (suc (suc (suc n)))) l = absurd (omega arith)

wide_no_zero : Stands [] nothing_known wide 0 ty.Int (Num (pos 0)) → ⊥
wide_no_zero s =
    let e = reads wide 0 ty.Int (Num (pos 0)) s kind.Int (pos 0) refl refl in
    let f : pos 4294967296 ≡ pos 0 = cc in
    omega (arith, ints)

-- nor do bytes tell what a big is whose low word is beyond its range
abbrev source : List Word
source = Plain (pos 0) ∷ Plain (pos 4294967301) ∷ []

abbrev copy : List Word
copy = Plain (pos 0) ∷ Plain (pos 5) ∷ []

copied : SameBytes source 0 copy 0 8
copied zero l = refl
copied (suc zero) l = refl
copied (suc (suc zero)) l = refl
copied (suc (suc (suc zero))) l = refl
copied (suc (suc (suc (suc zero)))) l = refl
copied (suc (suc (suc (suc (suc zero))))) l = refl
copied (suc (suc (suc (suc (suc (suc zero)))))) l = refl
copied (suc (suc (suc (suc (suc (suc (suc zero))))))) l = refl
copied (suc (suc (suc (suc (suc (suc (suc (suc n)))))))) l = absurd (omega arith)

source_stands : Stands [] nothing_known source 0 ty.Big (Num (pos 4294967301))
source_stands = a_number 0 kind.Big (pos 4294967301) refl (record { above = omega (arith, ints); below = omega (arith, ints) })

copy_does_not : Stands [] nothing_known copy 0 ty.Big (Num (pos 4294967301)) → ⊥
copy_does_not s =
    let e = reads copy 0 ty.Big (Num (pos 4294967301)) s kind.Big (pos 4294967301) refl refl in
    let f : Found (pos 5) ≡ Found (pos 4294967301) = e in
    let g : pos 5 ≡ pos 4294967301 = cc in
    omega (arith, ints)
