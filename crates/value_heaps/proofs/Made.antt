-- New records and arrays are blank for values of their type.
use Rattle.std.proofs.Common.{◌≡◌, ℕ, zero, suc, ◌+◌, ◌*◌, ◌%◌, ◌/◌, ◌<◌, ◌≤◌, ℤ, pos, Bool, true, false, ◌⊎◌, List, [], ◌∷◌, map}
use Rattle.std.proofs.Common.{Some, None, refl, sym, ap, ◌∙◌, subst, arith, inl, inr}
use Rattle.std.specs.Prelude.{◌==◌, ◌&&◌, slice_get, if◌then◌else◌}
use Rattle.std.specs.List.{range_with_len}
use Rattle.std.specs.Int.{next_multiple_of}
use Rattle.std.proofs.Math.Nat.{mod-eq_of_lt, mul-add-mod_self_right, mul-mod_left, mul-le-mul_right, mul_assoc, mul_comm, suc-mul}
use Rattle.std.proofs.Math.Nat.{zero-mod}
use Rattle.std.proofs.lemmas.Nat.{div-add-mod'}
use Rattle.limbo_types.specs.Types.{Ty}
use Rattle.limbo_layout.specs.Adts.{Def, Has}
use Rattle.limbo_layout.specs.Layout.{Room, Laid, is_in}
use Rattle.limbo_values.specs.declared.number.Kind.TheVariants as kind
use Rattle.limbo_values.specs.Numbers.{InRange}
use Rattle.dis_file.specs.declared.types.TypeDesc.{TypeDesc}
use Rattle.dis_file.specs.References.{marks}
use Rattle.dis_meaning.specs.Words.{Word, Plain, Refer, blank, blanks, blank_word}
use Rattle.dis_memory.specs.Blocks as block
use Rattle.dis_memory.specs.Blocks.{Block, Array, blank_array, blank_at, words_for}
use Rattle.value_words.specs.Contents as contents
use Rattle.value_words.specs.Contents.{content, content_in, AreInRange, AreBlank, IsOfReference}
use Rattle.value_words.proofs.Bytes.{zero_byte, zero_within}
use Rattle.value_words.proofs.Blank.{laid_within, stands_zero}
use Rattle.value_heaps.specs.Types.{desc_of}
use Rattle.value_heaps.specs.Made.{record_desc, MadeBlank}
use Rattle.value_heaps.proofs.Marks.{marks_at, among, is_among, at_word, whole_words, laid_size}

-- A new word, as it refers or not.
abbrev pub word_by : Bool → Word
word_by b = if b then Refer None else Plain (pos 0)

word_in_range : (b : Bool) (z : ℤ) → Some (word_by b) ≡ Some (Plain z) → InRange kind.Int z
word_in_range true z e = absurd cc
word_in_range false z e = let f : pos 0 ≡ z = cc in subst (λ y. InRange kind.Int y) f zero_within

multiple : (i n a : ℕ) → n % a ≡ 0 → (i * n) % a ≡ 0
multiple i n a e =
    let f : n ≡ n / a * a = let d = div-add-mod' n a in omega (arith, d, e) in
    ap (λ m. (i * m) % a) f ∙ ap (λ m. m % a) (sym (mul_assoc i (n / a) a)) ∙ mul-mod_left (i * (n / a)) a

-- ---- the words at a place

pub get_blanks : (desc : TypeDesc) (from count k : ℕ) → k < count
    → slice_get (blanks desc from count) k ≡ Some (blank_word desc (from + k))
get_blanks desc from zero k lt = absurd (omega (arith, lt))
get_blanks desc from (suc n) zero lt = ap (λ k. Some (blank_word desc k)) (omega arith)
get_blanks desc from (suc n) (suc k) lt =
    get_blanks desc (suc from) n k (omega (arith, lt))
    ∙ ap (λ k. Some (blank_word desc k)) (let q : suc from + k ≡ from + suc k = omega arith in q)

pub blanks_in_range : (desc : TypeDesc) (from count k : ℕ) (z : ℤ)
    → slice_get (blanks desc from count) k ≡ Some (Plain z) → InRange kind.Int z
blanks_in_range desc from zero k z e = absurd cc
blanks_in_range desc from (suc n) zero z e = word_in_range (marks desc.map from) z e
blanks_in_range desc from (suc n) (suc k) z e = blanks_in_range desc (suc from) n k z e

-- word k of an array refers
abbrev refers_in : TypeDesc → (byte : ℕ) → Bool
refers_in desc byte = byte % 4 == 0 && marks desc.map (byte / 4)

get_array : (desc : TypeDesc) (from count k : ℕ) → k < count
    → slice_get (map (block.blank_word desc) (range_with_len from count)) k ≡ Some (block.blank_word desc (from + k))
get_array desc from zero k lt = absurd (omega (arith, lt))
get_array desc from (suc n) zero lt = ap (λ k. Some (block.blank_word desc k)) (omega arith)
get_array desc from (suc n) (suc k) lt =
    get_array desc (from + 1) n k (omega (arith, lt))
    ∙ ap (λ k. Some (block.blank_word desc k)) (let q : from + 1 + k ≡ from + suc k = omega arith in q)

array_in_range : (desc : TypeDesc) (ks : List ℕ) (k : ℕ) (z : ℤ) → slice_get (map (block.blank_word desc) ks) k ≡ Some (Plain z)
    → InRange kind.Int z
array_in_range desc [] k z e = absurd cc
array_in_range desc (x ∷ ks) zero z e = word_in_range (refers_in desc ((4 * x) % desc.size)) z e
array_in_range desc (x ∷ ks) (suc k) z e = array_in_range desc ks k z e

-- ---- blank

module _ (defs : List Def) (t : Ty) (r : Room) (laid : Laid defs t r) where
  refers_there : (o : ℕ) → Has r.references o → marks (desc_of r).map (o / 4) ≡ true
  refers_there o h =
      let e : 4 * (o / 4) ≡ o = let f = at_word defs t r o laid h in omega arith in
      marks_at defs t r (o / 4) laid ∙ ap (λ n. is_in n r.references) e ∙ is_among o r.references h

  -- Each word of the value is as the type's map says.
  abbrev AsMarked : List Word → (at : ℕ) → Type 0
  AsMarked words at = (o : ℕ) → o < r.size → slice_get words ((at + o) / 4) ≡ Some (word_by (marks (desc_of r).map (o / 4)))

  are_blank : (words : List Word) (at : ℕ) → AsMarked words at → AreBlank words at r
  are_blank words at h = record {
    refer = λ o i. h o (let l = laid_within defs t r laid o i in omega arith) ∙ ap (λ b. Some (word_by b)) (refers_there o i);
    zeros = λ o l. zero_or (marks (desc_of r).map (o / 4)) o refl (h o l);
  }
    where
      zero_or : (b : Bool) (o : ℕ) → marks (desc_of r).map (o / 4) ≡ b → slice_get words ((at + o) / 4) ≡ Some (word_by b)
          → (content words (at + o) ≡ Some (contents.Byte 0)) ⊎ IsOfReference r o
      zero_or true o e f =
          inr (4 * (o / 4), among (4 * (o / 4)) r.references (sym (marks_at defs t r (o / 4) laid) ∙ e), omega arith, omega arith)
      zero_or false o e f =
          inl (ap (λ w. content_in w ((at + o) % 4)) f
          ∙ ap (λ b. Some (contents.Byte b)) (zero_byte ((at + o) % 4) (omega arith)))

  record_marked : AsMarked (blank (record_desc r)) 0
  record_marked o l =
      let e : (0 + o) / 4 ≡ o / 4 = omega arith in
      ap (slice_get (blank (record_desc r))) e
      ∙ get_blanks (record_desc r) 0 (next_multiple_of r.size 4 / 4) (o / 4) (omega arith)
      ∙ ap (λ k. Some (blank_word (record_desc r) k)) (let f : 0 + o / 4 ≡ o / 4 = omega arith in f)

  -- An array's word, by its byte in an element.
  marked_by : (byte o : ℕ) → ((p : ℕ) → Has r.references p → byte ≡ 4 * (o / 4))
      → refers_in (desc_of r) byte ≡ marks (desc_of r).map (o / 4)
  marked_by byte o h = go r.references refl
    where
      all_plain : (w : ℕ) → r.references ≡ [] → marks (desc_of r).map w ≡ false
      all_plain w e = marks_at defs t r w laid ∙ ap (is_in (4 * w)) e

      no_word : (b : Bool) → (b && false) ≡ false
      no_word true = refl
      no_word false = refl

      go : (os : List ℕ) → r.references ≡ os → refers_in (desc_of r) byte ≡ marks (desc_of r).map (o / 4)
      go [] e =
          ap (λ b. byte % 4 == 0 && b) (all_plain (byte / 4) e) ∙ no_word (byte % 4 == 0) ∙ sym (all_plain (o / 4) e)
      go (p ∷ os) e =
          let f = h p (subst (λ (xs : List ℕ). Has xs p) (sym e) (inl refl)) in
          let even : byte % 4 ≡ 0 = omega (arith, f) in
          let same : byte / 4 ≡ o / 4 = omega (arith, f) in
          ap (λ n. n == 0 && marks (desc_of r).map (byte / 4)) even ∙ ap (marks (desc_of r).map) same

  -- where it lies, if something refers
  place_in : (i o p : ℕ) → o < r.size → Has r.references p → (4 * ((i * r.size + o) / 4)) % r.size ≡ 4 * (o / 4)
  place_in i o p l h =
      let even = multiple i r.size 4 (whole_words defs t r p laid h) in
      let whole = whole_words defs t r p laid h in
      let e : 4 * ((i * r.size + o) / 4) ≡ i * r.size + 4 * (o / 4) = omega (arith, even) in
      ap (λ n. n % r.size) e ∙ mul-add-mod_self_right i r.size (4 * (o / 4)) ∙ mod-eq_of_lt (omega (arith, whole, l))

  abbrev array_words : ℕ → List Word
  array_words n = map (block.blank_word (desc_of r)) (range_with_len 0 (words_for (desc_of r) n))

  array_marked : (n i : ℕ) → i < n → AsMarked (array_words n) (i * r.size)
  array_marked n i b o l =
      let k = (i * r.size + o) / 4 in
      let more : suc i * r.size ≤ n * r.size = mul-le-mul_right r.size b in
      let next = suc-mul i r.size in
      let turned = mul_comm r.size n in
      get_array (desc_of r) 0 (words_for (desc_of r) n) k (omega (arith, more, next, turned, l))
      ∙ ap (λ m. Some (block.blank_word (desc_of r) m)) (let e : 0 + k ≡ k = omega arith in e)
      ∙ ap (λ c. Some (word_by c)) (marked_by ((4 * k) % r.size) o (λ p h. place_in i o p l h))

  record_blank : AreInRange (blank (record_desc r)) × AreBlank (blank (record_desc r)) 0 r
  record_blank = (
    λ k z e. blanks_in_range (record_desc r) 0 (next_multiple_of r.size 4 / 4) k z e,
    are_blank (blank (record_desc r)) 0 record_marked,
  )

  made_words : (n : ℕ) (words : List Word) → blank_array (desc_of r) n ≡ Array (desc_of r) n words → array_words n ≡ words
  made_words n words e = cc

  array_blank : (n : ℕ) (words : List Word) → blank_array (desc_of r) n ≡ Array (desc_of r) n words
      → AreInRange words × ((i : ℕ) → i < n → AreBlank words (i * r.size) r)
  array_blank n words e =
      subst (λ (ws : List Word). AreInRange ws × ((i : ℕ) → i < n → AreBlank ws (i * r.size) r)) (made_words n words e) (
        λ k z f. array_in_range (desc_of r) (range_with_len 0 (words_for (desc_of r) n)) k z f,
        λ i b. are_blank (array_words n) (i * r.size) (array_marked n i b),
      )

pub made : MadeBlank
made = record {
  marks = λ defs t r w l. marks_at defs t r w l;
  records = λ defs t r l. record_blank defs t r l;
  arrays = λ defs t r n words l e. array_blank defs t r l n words e;
  new_record = λ defs facts t r l.
      let b = record_blank defs t r l in
      stands_zero defs facts (blank (record_desc r)) b.0 0 t r l (zero-mod r.align) b.1;
  new_array = λ defs facts t r n words l e i lt.
      let b = array_blank defs t r l n words e in
      stands_zero defs facts words b.0 (i * r.size) t r l (multiple i r.size r.align (laid_size defs t r l)) (b.1 i lt);
}
