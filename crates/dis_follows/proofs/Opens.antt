-- A machine of the object begins with the opening.
use Rattle.std.proofs.Common.{◌≡◌, ℕ, zero, suc, ℤ, pos, negsuc, ◌+◌, ◌*◌, ◌/◌, ◌%◌, ◌^◌, ◌<◌, Bool, true, false, List, [], ◌∷◌, ◌++◌}
use Rattle.std.proofs.Common.{length, map, Option, Some, None, refl, sym, ap, ◌∙◌, arith, append_assoc, append-nil, length-append, codes}
use Rattle.std.proofs.Common.{if◌then◌else◌}
use Rattle.std.specs.Prelude.{slice_get, slice_index_or, encode_utf8_all, unsigned_abs, replicate}
use Rattle.std.specs.Int.{w32, w64, cast_signed, cast_unsigned, from_be_bytes, to_be_bytes, byte_at, int_rem_euclid, int_wrap}
use Rattle.std.specs.Str.{IsUtf8, chars}
use Rattle.std.proofs.lemmas.Int.{ints, to_z-of_z}
use Rattle.std.proofs.lemmas.Nat.{from_be_bytes-to_be_bytes_4}
use Rattle.std.proofs.lemmas.Str.{is_utf8-from_IsUtf8, chars_from_encodes}
use Rattle.inf_text.specs.Options.{◌>>=◌}
use Rattle.dis_file.specs.declared.object.Item.{Item}
use Rattle.dis_file.specs.declared.types.TypeDesc.{TypeDesc}
use Rattle.limbo_values.specs.declared.number.Kind.{Kind}
use Rattle.limbo_values.specs.declared.number.Kind.TheVariants.{Byte, Int, Big}
use Rattle.limbo_values.specs.Numbers.{InRange}
use Rattle.limbo_values.proofs.Ranges.{fits_int}
use Rattle.slot_code.specs.Code.{Function, GlobalVariable, Module}
use Rattle.dis_meaning.specs.Words.{Word, Plain, Refer, stored, blank_word, blanks, blank}
use Rattle.dis_meaning.specs.Numbers.{high_part, low_part}
use Rattle.dis_meaning.specs.World as memory
use Rattle.dis_meaning.specs.World.{Content}
use Rattle.dis_meaning.specs.Opening as opening
use Rattle.dis_meaning.specs.Opening.{Data, characters, if_found, with_text, with_numbers, with_item, with_items, Opened, opened, entered}
use Rattle.dis_objects.specs.Words.{AllSmallFrames}
use Rattle.dis_objects.specs.Code as dis
use Rattle.dis_objects.specs.Code.{Datum, Text, Long, datum_bytes, data_bytes, global_bytes, globals_bytes, globals_place}
use Rattle.dis_objects.specs.Objects as objects
use Rattle.dis_objects.specs.Objects.{init_of, find, entry_type_of, map_of, data_desc, data_size, data_place, zeros_place, zeros_bytes}
use Rattle.dis_objects.specs.Objects.{frame_desc, print_desc, functions_data, string_item, word_item, long_item, item_of, items_from}
use Rattle.dis_objects.specs.Objects.{global_items, globals_items, object_of}
use Rattle.dis_objects.specs.Proper.{IsProper}
use Rattle.dis_objects.specs.Spelled.{AreSpelled}
use Rattle.dis_follows.specs.Start as start
use Rattle.dis_follows.specs.Start.{data_words, data_texts, long_words, number_words, global_words, globals_words, opening_words}
use Rattle.dis_follows.specs.Start.{entry_words}
use Rattle.dis_follows.proofs.Marks.{marks_is}
use Rattle.dis_follows.proofs.Opening.{more_front, variables_many, zeros_aligned}
use Rattle.dis_follows.proofs.Behind.{stored_behind}
use Rattle.dis_follows.proofs.Fit.{AllFit, data_fit}

-- ---- words as they are made

abbrev marked : Bool → Word
marked b = if b then Refer None else Plain (pos 0)

blanks_are : (all rest : List Bool) (size from : ℕ) → ((k : ℕ) → slice_index_or all (from + k) false ≡ slice_index_or rest k false)
    → blanks (record { size = size; map = map_of all }) from (length rest) ≡ map marked rest
blanks_are all [] size from h = refl
blanks_are all (b ∷ rest) size from h =
    let z : from ≡ from + 0 = omega arith in
    let here : blank_word (record { size = size; map = map_of all }) from ≡ marked b =
    ap marked (marks_is all from ∙ ap (λ k. slice_index_or all k false) z ∙ h 0) in
    let on : (k : ℕ) → slice_index_or all (suc from + k) false ≡ slice_index_or rest k false =
    λ k. ap (λ n. slice_index_or all n false) (next from k) ∙ h (suc k) in
    ap (λ w. w ∷ blanks (record { size = size; map = map_of all }) (suc from) (length rest)) here
    ∙ ap (λ ws. marked b ∷ ws) (blanks_are all rest size (suc from) on)
  where
    next : (from k : ℕ) → suc from + k ≡ from + suc k
    next from k = omega arith

map_both : {A B : Type 0} (f : A → B) (xs ys : List A) → map f (xs ++ ys) ≡ map f xs ++ map f ys
map_both f [] ys = refl
map_both f (x ∷ xs) ys = ap (λ l. f x ∷ l) (map_both f xs ys)

map_replicate : (n : ℕ) → map marked (replicate n false) ≡ replicate n (Plain (pos 0))
map_replicate zero = refl
map_replicate (suc n) = ap (λ l. Plain (pos 0) ∷ l) (map_replicate n)

replicate_long : {A : Type 0} (n : ℕ) (x : A) → length (replicate n x) ≡ n
replicate_long zero x = refl
replicate_long (suc n) x = ap suc (replicate_long n x)

none_index : (n k : ℕ) → false ≡ slice_index_or (replicate n false) k false
none_index zero zero = refl
none_index zero (suc k) = refl
none_index (suc n) zero = refl
none_index (suc n) (suc k) = none_index n k

index_more : (bs : List Bool) (n k : ℕ) → slice_index_or bs k false ≡ slice_index_or (bs ++ replicate n false) k false
index_more [] n zero = none_index n zero
index_more [] n (suc k) = none_index n (suc k)
index_more (b ∷ bs) n zero = refl
index_more (b ∷ bs) n (suc k) = index_more bs n k

-- ---- as many marks as words

marks_of : (g : GlobalVariable) → 4 * length (objects.global_words g.kind) ≡ global_bytes g.kind
marks_of g = go g.kind
  where
    go : (k : Option Kind) → 4 * length (objects.global_words k) ≡ global_bytes k
    go None = refl
    go (Some Byte) = refl
    go (Some Int) = refl
    go (Some Big) = refl

variable_marks : (gs : List GlobalVariable) → 4 * length (objects.globals_words gs) ≡ globals_bytes gs
variable_marks [] = refl
variable_marks (g ∷ gs) =
    let a = marks_of g in
    let b = variable_marks gs in
    let c = length-append (objects.global_words g.kind) (objects.globals_words gs) in omega (arith, a, b, c)

datum_marks : (ds : List Datum) → 4 * length (objects.data_words ds) ≡ data_bytes ds
datum_marks [] = refl
datum_marks (Text t ∷ ds) = let a = datum_marks ds in omega (arith, a)
datum_marks (dis.Word z ∷ ds) = let a = datum_marks ds in omega (arith, a)
datum_marks (Long z ∷ ds) = let a = datum_marks ds in omega (arith, a)

-- ---- numbers and texts of items

reads_back : (t : List ℕ) → IsUtf8 (encode_utf8_all t) → characters (encode_utf8_all t) ≡ Some t
reads_back t h =
    ap (λ b. if b then Some (chars (encode_utf8_all t)) else None) (is_utf8-from_IsUtf8 (encode_utf8_all t) h)
    ∙ ap Some (sym (chars_from_encodes t (encode_utf8_all t) h refl))

int_back : (z : ℤ) → InRange Int z → cast_signed w32 (from_be_bytes w32 (to_be_bytes w32 (cast_unsigned w32 z))) ≡ z
int_back z h =
    ap (cast_signed w32) (from_be_bytes-to_be_bytes_4 (cast_unsigned w32 z) (few z h)) ∙ to_z-of_z w32 z (fits_int z h)
  where
    few : (z : ℤ) → InRange Int z → cast_unsigned w32 z < 2 ^ 32
    few (pos a) h = let b = h.below in omega (arith, ints, b)
    few (negsuc a) h = let b = h.above in omega (arith, ints, b)

-- The two words of a big.
high_bits : (z : ℤ) → InRange Big z → cast_unsigned w64 z / 2 ^ 32 ≡ cast_unsigned w32 (high_part z)
high_bits (pos a) h = let b = h.below in omega (arith, ints, b)
high_bits (negsuc a) h = let b = h.above in omega (arith, ints, b)

low_bits : (z : ℤ) → InRange Big z → cast_unsigned w64 z % 2 ^ 32 ≡ unsigned_abs (int_rem_euclid z (pos (2 ^ 32)))
low_bits (pos a) h = let b = h.below in omega (arith, ints, b)
low_bits (negsuc a) h = let b = h.above in omega (arith, ints, b)

big_few : (z : ℤ) → InRange Big z → cast_unsigned w64 z < 2 ^ 64
big_few (pos a) h = let b = h.below in omega (arith, ints, b)
big_few (negsuc a) h = let b = h.above in omega (arith, ints, b)

high_in : (z : ℤ) → InRange Big z → InRange Int (high_part z)
high_in (pos a) h = let b = h.below in record { above = omega (arith, ints, b); below = omega (arith, ints, b) }
high_in (negsuc a) h = let b = h.above in record { above = omega (arith, ints, b); below = omega (arith, ints, b) }

high_word : (n : ℕ) → n < 2 ^ 64 → from_be_bytes w32 (byte_at 7 n ∷ byte_at 6 n ∷ byte_at 5 n ∷ byte_at 4 n ∷ []) ≡ n / 2 ^ 32
high_word n l = omega (arith, l)

low_word : (n : ℕ) → from_be_bytes w32 (byte_at 3 n ∷ byte_at 2 n ∷ byte_at 1 n ∷ byte_at 0 n ∷ []) ≡ n % 2 ^ 32
low_word n = omega arith

high_back : (z : ℤ) → InRange Big z
    → cast_signed w32 (from_be_bytes w32 (byte_at 7 (cast_unsigned w64 z) ∷ byte_at 6 (cast_unsigned w64 z) ∷ byte_at 5
    (cast_unsigned w64 z)
    ∷ byte_at 4 (cast_unsigned w64 z) ∷ [])) ≡ high_part z
high_back z h =
    ap (cast_signed w32) (high_word (cast_unsigned w64 z) (big_few z h) ∙ high_bits z h)
    ∙ to_z-of_z w32 (high_part z) (fits_int (high_part z) (high_in z h))

low_back : (z : ℤ) → InRange Big z
    → cast_signed w32 (from_be_bytes w32 (byte_at 3 (cast_unsigned w64 z) ∷ byte_at 2 (cast_unsigned w64 z) ∷ byte_at 1
    (cast_unsigned w64 z)
    ∷ byte_at 0 (cast_unsigned w64 z) ∷ [])) ≡ low_part z
unfolding int_wrap
low_back z h = ap (cast_signed w32) (low_word (cast_unsigned w64 z) ∙ low_bits z h)

-- ---- items, one by one

abbrev having : List Word → List Content → Data
having ws texts = record { words = ws; texts = texts }

put_text : (front rest : List Word) (texts : List Content) (t : List ℕ) (offset : ℕ) → offset ≡ 4 * length front
    → IsUtf8 (encode_utf8_all t)
    → with_item (having (front ++ Refer None ∷ rest) texts) (string_item offset t)
    ≡ Some (having (front ++ Refer (Some (suc (length texts))) ∷ rest) (texts ++ memory.Text t ∷ []))
put_text front rest texts t offset e h =
    ap (λ o. o >>= with_text (having (front ++ Refer None ∷ rest) texts) offset) (reads_back t h)
    ∙ ap (λ o. o >>= λ words. Some (having words (texts ++ memory.Text t ∷ [])))
    (stored_behind front rest (Refer None) (Refer (Some (suc (length texts)))) offset e refl)

put_word : (front rest : List Word) (texts : List Content) (z : ℤ) (offset : ℕ) → offset ≡ 4 * length front → InRange Int z
    → with_item (having (front ++ Plain (pos 0) ∷ rest) texts) (word_item offset z) ≡ Some (having (front ++ Plain z ∷ rest) texts)
put_word front rest texts z offset e h =
    ap (λ n. (if_found (stored (front ++ Plain (pos 0) ∷ rest) (pos offset) (Plain n)) >>= λ after. Some after) >>= λ words.
    Some (having words texts))
    (int_back z h)
    ∙ ap (λ o. (o >>= λ after. Some after) >>= λ words. Some (having words texts))
    (stored_behind front rest (Plain (pos 0)) (Plain z) offset e refl)

put_long : (front rest : List Word) (texts : List Content) (z : ℤ) (offset : ℕ) → offset ≡ 4 * length front → InRange Big z
    → with_item (having (front ++ Plain (pos 0) ∷ Plain (pos 0) ∷ rest) texts) (long_item offset z)
    ≡ Some (having (front ++ Plain (high_part z) ∷ Plain (low_part z) ∷ rest) texts)
put_long front rest texts z offset e h =
    let n = cast_unsigned w64 z in
    let low = cast_signed w32 (from_be_bytes w32 (byte_at 3 n ∷ byte_at 2 n ∷ byte_at 1 n ∷ byte_at 0 n ∷ [])) in
    let x = Plain (high_part z) in
    let l = length-append front (x ∷ []) in
    let at : offset + 4 ≡ 4 * length (front ++ x ∷ []) = omega (arith, e, l) in
    ap (λ y. (if_found (stored (front ++ Plain (pos 0) ∷ Plain (pos 0) ∷ rest) (pos offset) (Plain y)) >>= λ after.
    if_found (stored after (pos (offset + 4)) (Plain low)) >>= λ after. Some after) >>= λ words. Some (having words texts)) (high_back z h)
    ∙ ap (λ o. (o >>= λ after. if_found (stored after (pos (offset + 4)) (Plain low)) >>= λ after. Some after) >>= λ words.
    Some (having words texts))
    (stored_behind front (Plain (pos 0) ∷ rest) (Plain (pos 0)) x offset e refl)
    ∙ ap (λ ws. (if_found (stored ws (pos (offset + 4)) (Plain low)) >>= λ after. Some after) >>= λ words. Some (having words texts))
    (sym (more_front front x (Plain (pos 0) ∷ rest)))
    ∙ ap (λ y. (if_found (stored ((front ++ x ∷ []) ++ Plain (pos 0) ∷ rest) (pos (offset + 4)) (Plain y)) >>= λ after.
    Some after) >>= λ words.
    Some (having words texts)) (low_back z h)
    ∙ ap (λ o. (o >>= λ after. Some after) >>= λ words. Some (having words texts))
    (stored_behind (front ++ x ∷ []) rest (Plain (pos 0)) (Plain (low_part z)) (offset + 4) at refl)
    ∙ ap (λ ws. Some (having ws texts)) (more_front front x (Plain (low_part z) ∷ rest))

-- ---- many items

both_items : (d : Data) (a b : List Item) → with_items d (a ++ b) ≡ (with_items d a >>= λ e. with_items e b)
both_items d [] b = refl
both_items d (i ∷ a) b = go (with_item d i) (λ e. both_items e a b)
  where
    go : (o : Option Data) → ((e : Data) → with_items e (a ++ b) ≡ (with_items e a >>= λ e. with_items e b))
        → (o >>= λ e. with_items e (a ++ b)) ≡ ((o >>= λ e. with_items e a) >>= λ e. with_items e b)
    go None h = refl
    go (Some e) h = h e

abbrev GoodDatum : Datum → Type 0
GoodDatum (Text t) = IsUtf8 (encode_utf8_all t)
GoodDatum (dis.Word z) = InRange Int z
GoodDatum (Long z) = InRange Big z

abbrev AllGood : List Datum → Type 0
AllGood [] = Unit {0}
AllGood (d ∷ ds) = GoodDatum d × AllGood ds

put_data : (ds : List Datum) (front rest : List Word) (texts : List Content) (offset : ℕ) → offset ≡ 4 * length front → AllGood ds
    → with_items (having (front ++ (map marked (objects.data_words ds) ++ rest)) texts) (items_from offset ds)
    ≡ Some (having (front ++ (data_words (suc (length texts)) ds ++ rest)) (texts ++ data_texts ds))
put_data [] front rest texts offset e good = ap (λ ts. Some (having (front ++ rest) ts)) (sym (append-nil texts))
put_data (Text t ∷ ds) front rest texts offset e good =
    let r = Refer (Some (suc (length texts))) in
    let more = texts ++ memory.Text t ∷ [] in
    let m = length-append texts (memory.Text t ∷ []) in
    let long : length more ≡ suc (length texts) = omega (arith, m) in
    let l = length-append front (r ∷ []) in
    let at : offset + 4 ≡ 4 * length (front ++ r ∷ []) = omega (arith, e, l) in
    ap (λ o. o >>= λ d. with_items d (items_from (offset + 4) ds))
    (put_text front (map marked (objects.data_words ds) ++ rest) texts t offset e good.0)
    ∙ ap (λ ws. with_items (having ws more) (items_from (offset + 4) ds))
    (sym (more_front front r (map marked (objects.data_words ds) ++ rest)))
    ∙ put_data ds (front ++ r ∷ []) rest more (offset + 4) at good.1
    ∙ ap (λ n. Some (having ((front ++ r ∷ []) ++ (data_words (suc n) ds ++ rest)) (more ++ data_texts ds))) long
    ∙ ap (λ ws. Some (having ws (more ++ data_texts ds))) (more_front front r (data_words (suc (suc (length texts))) ds ++ rest))
    ∙ ap (λ ts. Some (having (front ++ r ∷ (data_words (suc (suc (length texts))) ds ++ rest)) ts))
    (more_front texts (memory.Text t) (data_texts ds))
put_data (dis.Word z ∷ ds) front rest texts offset e good =
    let x = Plain z in
    let l = length-append front (x ∷ []) in
    let at : offset + 4 ≡ 4 * length (front ++ x ∷ []) = omega (arith, e, l) in
    ap (λ o. o >>= λ d. with_items d (items_from (offset + 4) ds))
    (put_word front (map marked (objects.data_words ds) ++ rest) texts z offset e good.0)
    ∙ ap (λ ws. with_items (having ws texts) (items_from (offset + 4) ds))
    (sym (more_front front x (map marked (objects.data_words ds) ++ rest)))
    ∙ put_data ds (front ++ x ∷ []) rest texts (offset + 4) at good.1
    ∙ ap (λ ws. Some (having ws (texts ++ data_texts ds))) (more_front front x (data_words (suc (length texts)) ds ++ rest))
put_data (Long z ∷ ds) front rest texts offset e good =
    let x = Plain (high_part z) in
    let y = Plain (low_part z) in
    let l = length-append front (x ∷ y ∷ []) in
    let at : offset + 8 ≡ 4 * length (front ++ x ∷ y ∷ []) = omega (arith, e, l) in
    ap (λ o. o >>= λ d. with_items d (items_from (offset + 8) ds))
    (put_long front (map marked (objects.data_words ds) ++ rest) texts z offset e good.0)
    ∙ ap (λ ws. with_items (having ws texts) (items_from (offset + 8) ds))
    (sym (append_assoc front (x ∷ y ∷ []) (map marked (objects.data_words ds) ++ rest)))
    ∙ put_data ds (front ++ x ∷ y ∷ []) rest texts (offset + 8) at good.1
    ∙ ap (λ ws. Some (having ws (texts ++ data_texts ds))) (append_assoc front (x ∷ y ∷ []) (data_words (suc (length texts)) ds ++ rest))

-- ---- variables

word_in : (z : ℤ) → InRange Byte z → InRange Int z
word_in z r = let a = r.above in let b = r.below in record { above = omega (arith, ints, a); below = omega (arith, ints, b) }

put_variable : (k : Option Kind) (z : ℤ) (front rest : List Word) (texts : List Content) (offset : ℕ) → offset ≡ 4 * length front
    → ((j : Kind) → k ≡ Some j → InRange j z)
    → with_items (having (front ++ (map marked (objects.global_words k) ++ rest)) texts)
    (global_items offset (record { kind = k; initial = z }))
    ≡ Some (having (front ++ (global_words (record { kind = k; initial = z }) ++ rest)) texts)
put_variable None z front rest texts offset e h = refl
put_variable (Some Byte) z front rest texts offset e h = ap (λ o. o >>= λ d. Some d)
    (put_word front rest texts z offset e (word_in z (h Byte refl)))
put_variable (Some Int) z front rest texts offset e h = ap (λ o. o >>= λ d. Some d) (put_word front rest texts z offset e (h Int refl))
put_variable (Some Big) z front rest texts offset e h = ap (λ o. o >>= λ d. Some d) (put_long front rest texts z offset e (h Big refl))

words_many : (k : Option Kind) (z : ℤ) → 4 * length (global_words (record { kind = k; initial = z })) ≡ global_bytes k
words_many None z = refl
words_many (Some Byte) z = refl
words_many (Some Int) z = refl
words_many (Some Big) z = refl

put_variables : (gs : List GlobalVariable) (front rest : List Word) (texts : List Content) (offset : ℕ) → offset ≡ 4 * length front
    → ((x : ℕ) (g : GlobalVariable) (k : Kind) → slice_get gs x ≡ Some g → g.kind ≡ Some k → InRange k g.initial)
    → with_items (having (front ++ (map marked (objects.globals_words gs) ++ rest)) texts) (globals_items offset gs)
    ≡ Some (having (front ++ (globals_words gs ++ rest)) texts)
put_variables [] front rest texts offset e h = refl
put_variables (g ∷ gs) front rest texts offset e h =
    let a = map marked (objects.global_words g.kind) in
    let b = map marked (objects.globals_words gs) in
    let l = length-append front (global_words g) in
    let m = words_many g.kind g.initial in
    let at : offset + global_bytes g.kind ≡ 4 * length (front ++ global_words g) = omega (arith, e, l, m) in
    ap (λ ws. with_items (having (front ++ (ws ++ rest)) texts) (globals_items offset (g ∷ gs)))
    (map_both marked (objects.global_words g.kind) (objects.globals_words gs))
    ∙ ap (λ ws. with_items (having (front ++ ws) texts) (globals_items offset (g ∷ gs))) (append_assoc a b rest)
    ∙ both_items (having (front ++ (a ++ (b ++ rest))) texts) (global_items offset g) (globals_items (offset + global_bytes g.kind) gs)
    ∙ ap (λ o. o >>= λ d. with_items d (globals_items (offset + global_bytes g.kind) gs))
    (put_variable g.kind g.initial front (b ++ rest) texts offset e (λ j q. h 0 g j refl q))
    ∙ ap (λ ws. with_items (having ws texts) (globals_items (offset + global_bytes g.kind) gs))
    (sym (append_assoc front (global_words g) (b ++ rest)))
    ∙ put_variables gs (front ++ global_words g) rest texts (offset + global_bytes g.kind) at (λ x v k q r. h (suc x) v k q r)
    ∙ ap (λ ws. Some (having ws texts)) (append_assoc front (global_words g) (globals_words gs ++ rest))
    ∙ ap (λ ws. Some (having (front ++ ws) texts)) (sym (append_assoc (global_words g) (globals_words gs) rest))

-- ---- strings

spelled_behind : (a b : List Item) → AreSpelled (a ++ b) → AreSpelled b
spelled_behind [] b h = h
spelled_behind (i ∷ a) b h = spelled_behind a b h.1

all_good : (ds : List Datum) (offset : ℕ) → AllFit ds → AreSpelled (items_from offset ds) → AllGood ds
all_good [] offset fit h = tt
all_good (Text t ∷ ds) offset fit h = (h.0 refl, all_good ds (offset + 4) fit.1 h.1)
all_good (dis.Word z ∷ ds) offset fit h = (fit.0, all_good ds (offset + 4) fit.1 h.1)
all_good (Long z ∷ ds) offset fit h = (fit.0, all_good ds (offset + 8) fit.1 h.1)

-- ---- the whole

found_least : (name : List ℕ) (fs : List Function) (n i : ℕ) → find n name fs ≡ Some i → i < n + length fs
found_least name [] n i e = absurd cc
found_least name (f ∷ fs) n i e = go (Rattle.std.specs.Str.bytes_eq f.name name) e (found_least name fs (suc n) i)
  where
    go : (b : Bool) → (if b then Some n else find (suc n) name fs) ≡ Some i → (find (suc n) name fs ≡ Some i → i < suc n + length fs)
        → i < n + length (f ∷ fs)
    go true e h = let same : n ≡ i = cc in omega (arith, same)
    go false e h = let l = h e in omega (arith, l)

map_get : {A B : Type 0} (f : A → B) (xs ys : List A) (k : ℕ) (more : List B) → k < length xs
    → (y : B) × (slice_get (map f xs ++ more) k ≡ Some y)
map_get f [] ys k more lt = absurd (omega (arith, lt))
map_get f (x ∷ xs) ys zero more lt = (f x, refl)
map_get f (x ∷ xs) ys (suc k) more lt = map_get f xs ys k more (omega (arith, lt))

last_has : {A B : Type 0} (f : A → B) (xs : List A) (y : B) → slice_get (map f xs ++ y ∷ []) (length xs) ≡ Some y
last_has f [] y = refl
last_has f (x ∷ xs) y = last_has f xs y

module _ (m : Module) where
  abbrev DS : List Datum
  DS = functions_data m.functions m.functions

  abbrev Z : ℕ
  Z = zeros_bytes m.functions m.functions / 4

  abbrev ZS : List Word
  ZS = replicate Z (Plain (pos 0))

  abbrev MG : List Bool
  MG = objects.globals_words m.globals

  abbrev MD : List Bool
  MD = objects.data_words DS

  entry_there : (o : Option ℕ) → init_of m ≡ o
      → (desc : TypeDesc) × (slice_get (object_of m).types (entry_type_of m.functions o) ≡ Some desc)
  entry_there None e = (print_desc m.functions, last_has (frame_desc m.functions) m.functions (print_desc m.functions))
  entry_there (Some n) e =
      let within = found_least (codes "init") m.functions 0 n e in
      map_get (frame_desc m.functions) m.functions [] n (print_desc m.functions ∷ []) (omega (arith, within))

  data_blank : blank (data_desc m) ≡ Refer None ∷ Refer None ∷ (map marked MG ++ (map marked MD ++ ZS))
  data_blank =
      let all = true ∷ true ∷ (MG ++ MD) in
      let a = variable_marks m.globals in
      let b = datum_marks DS in
      let c = length-append MG MD in
      let d = length-append (MG ++ MD) (replicate Z false) in
      let e = replicate_long Z false in
      let f = zeros_aligned m.functions m.functions in
      let n : data_size m / 4 ≡ length (all ++ replicate Z false) = omega (arith, a, b, c, d, e, f) in
      ap (λ n. blanks (data_desc m) 0 n) n
      ∙ blanks_are all (all ++ replicate Z false) (data_size m) 0 (λ k. ap (λ n. slice_index_or all n false) (zero_more k)
      ∙ index_more all Z k)
      ∙ ap (λ ws. Refer None ∷ Refer None ∷ ws) (map_both marked (MG ++ MD) (replicate Z false)
      ∙ ap (λ ws. ws ++ map marked (replicate Z false)) (map_both marked MG MD)
      ∙ ap (λ ws. (map marked MG ++ map marked MD) ++ ws) (map_replicate Z)
      ∙ append_assoc (map marked MG) (map marked MD) ZS)
    where
      zero_more : (k : ℕ) → 0 + k ≡ k
      zero_more k = omega arith

  module _ (good : AllGood DS) (variables : (x : ℕ) (g : GlobalVariable) (k : Kind) → slice_get m.globals x ≡ Some g → g.kind ≡ Some k
      → InRange k g.initial) where
    path_put : with_item (having (Refer None ∷ Refer None ∷ (map marked MG ++ (map marked MD ++ ZS))) []) (string_item 0 (codes "$Sys"))
        ≡ Some (having (Refer (Some 1) ∷ Refer None ∷ (map marked MG ++ (map marked MD ++ ZS))) (memory.Text (codes "$Sys") ∷ []))
    path_put = put_text [] (Refer None ∷ (map marked MG ++ (map marked MD ++ ZS))) [] (codes "$Sys") 0 refl (codes "$Sys", (refl, refl))

    all_put : with_items (having (blank (data_desc m)) []) (object_of m).items
        ≡ Some (having (opening_words m) (memory.Text (codes "$Sys") ∷ data_texts DS))
    all_put =
        let front = Refer (Some 1) ∷ Refer None ∷ [] in
        let gs = globals_words m.globals in
        let many = variables_many m.globals in
        let items = globals_items globals_place m.globals in
        let more = items_from (data_place m) DS in
        let texts = memory.Text (codes "$Sys") ∷ [] in
        ap (λ ws. with_items (having ws []) (object_of m).items) data_blank
        ∙ ap (λ o. o >>= λ d. with_items d (items ++ more)) path_put
        ∙ both_items (having (front ++ (map marked MG ++ (map marked MD ++ ZS))) texts) items more
        ∙ ap (λ o. o >>= λ d. with_items d more) (put_variables m.globals front (map marked MD ++ ZS) texts globals_place refl variables)
        ∙ put_data DS (Refer (Some 1) ∷ Refer None ∷ gs) ZS texts (data_place m) (omega (arith, many)) good

    object_opens : opened (object_of m) ≡ Some (record { world = start.opening m; first = start.first_process m })
    object_opens =
        let t = entry_there (init_of m) refl in
        ap (λ o. o >>= λ d. slice_get (object_of m).types (object_of m).entry_type >>= λ frame_type. Some (record {
          world = record { blocks = opening.opening_blocks d; frames = 1; outside = (start.opening m).outside };
          first = entered (object_of m) (blank frame_type);
        })) all_put
        ∙ ap (λ o. o >>= λ frame_type. Some (record { world = start.opening m; first = entered (object_of m) (blank frame_type) })) t.1
        ∙ ap (λ o. Some (record { world = start.opening m; first = entered (object_of m) (entry_words o) })) (sym t.1)

pub opens : (m : Module) → IsProper m → AllSmallFrames m.functions → AreSpelled (object_of m).items
    → opened (object_of m) ≡ Some (record { world = start.opening m; first = start.first_process m })
opens m proper small spell =
    let items = globals_items globals_place m.globals in
    object_opens m
    (all_good (functions_data m.functions m.functions) (data_place m) (data_fit m proper small)
    (spelled_behind items (items_from (data_place m) (functions_data m.functions m.functions)) spell.1)) proper.variables
