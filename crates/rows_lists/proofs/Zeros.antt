-- A new array: its words are blank, refer to nothing, and stand for zeros.
use Rattle.std.proofs.Common.{◌≡◌, ℕ, zero, suc, pos, ◌+◌, ◌*◌, ◌/◌, ◌%◌, ◌<◌, Bool, true, false, List, [], ◌∷◌, map, replicate, length, Option, Some, refl, sym, ap, ◌∙◌, subst, arith, inl, inr}
use Rattle.std.specs.Prelude.{◌==◌, ◌&&◌, ◌||◌, slice_get}
use Rattle.std.specs.List.{range_with_len}
use Rattle.std.proofs.Math.Nat.{mul-le-mul_right, mul_comm}
use Rattle.std.proofs.lemmas.Nat.{div-add-mod'}
use Rattle.std.proofs.lemmas.Bool.{eqb-true}
use Rattle.std.proofs.lemmas.Bool.Decides.{eqb_tells}
use Rattle.std.proofs.lemmas.List.{length-replicate}
use Rattle.std.proofs.lemmas.List.FromFn.{length-map-range_with_len}
use Rattle.process_model.proofs.Totals.{fun_ext}
use Rattle.limbo_types.specs.Types.{Ty}
use Rattle.limbo_layout.specs.Adts.{Def, Has}
use Rattle.limbo_layout.specs.Layout.{Room, Laid, is_in}
use Rattle.limbo_values.specs.declared.number.Kind.TheVariants.{Int}
use Rattle.limbo_values.specs.Numbers.{InRange}
use Rattle.limbo_typed.specs.Typed as typed
use Rattle.limbo_meaning.specs.Memory as source
use Rattle.limbo_meaning.specs.Values.{Value, zero_of}
use Rattle.dis_file.specs.References.{marks}
use Rattle.dis_file.specs.declared.types.TypeDesc.{TypeDesc}
use Rattle.dis_meaning.specs.Words.{Word, Refer}
use Rattle.dis_memory.specs.Blocks as block
use Rattle.dis_memory.specs.Blocks.{Block, Array, blank_array, blank_word, words_for}
use Rattle.value_words.specs.Forms as forms
use Rattle.value_words.specs.Facts.{Facts}
use Rattle.value_words.specs.Stands.{Stands}
use Rattle.value_words.proofs.Rows.{below}
use Rattle.value_frames.specs.Types.{desc}
use Rattle.value_heaps.specs.Blocks as blocks
use Rattle.value_heaps.specs.Blocks.{AreWhole, IsWithin}
use Rattle.value_heaps.specs.Types.{desc_of, map_bytes}
use Rattle.value_heaps.proofs.Made.{made, word_by}
use Rattle.value_heaps.proofs.Marks.{marks_at, among, at_word}
use Rattle.value_moves.proofs.Changing.{low_or_high}
use Rattle.value_follows.specs.Sides.{contents}

-- ---- the type by which elements are laid out

same_word : (m w : ℕ) → m % 4 ≡ 0 → (m / 4 == w) ≡ (m == 4 * w)
same_word m w e = elim (eqb_tells (m / 4) w) [
  | inl x ↦ elim (eqb_tells m (4 * w)) [
    | inl y ↦ x.0 ∙ sym y.0
    | inr y ↦ absurd (y.1 (let f = x.1 in omega arith))
  ]
  | inr x ↦ elim (eqb_tells m (4 * w)) [
    | inl y ↦ absurd (x.1 (let f = y.1 in omega arith))
    | inr y ↦ x.0 ∙ sym y.0
  ]
]

by_words : (w : ℕ) (os : List ℕ) → ((o : ℕ) → Has os o → o % 4 ≡ 0) → is_in w (map (λ o. o / 4) os) ≡ is_in (4 * w) os
by_words w [] h = refl
by_words w (o ∷ os) h =
    ap (λ b. b || is_in w (map (λ o. o / 4) os)) (same_word o w (h o (inl refl)))
    ∙ ap (λ b. (o == 4 * w) || b) (by_words w os (λ p i. h p (inr i)))

-- a type made for so many bytes and these references is that of the room
pub same_desc : (defs : List Def) (t : Ty) (r : Room) → Laid defs t r → desc r.size r.references ≡ desc_of r
same_desc defs t r laid =
    ap (λ (f : ℕ → Bool). let ws = map f (range_with_len 0 ((r.size + 3) / 4)) in
    by_map r.size (map_bytes ws))
    (fun_ext (λ (w : ℕ). sym (by_words w r.references (λ o h. at_word defs t r o laid h))))
  where
    by_map : ℕ → List ℕ → TypeDesc
    by_map size map = record { size = size; map = map }

-- ---- its words

get_array : (desc : TypeDesc) (from count k : ℕ) → k < count
    → slice_get (map (blank_word desc) (range_with_len from count)) k ≡ Some (blank_word desc (from + k))
get_array desc from zero k lt = absurd (omega (arith, lt))
get_array desc from (suc n) zero lt = ap (λ k. Some (blank_word desc k)) (omega arith)
get_array desc from (suc n) (suc k) lt =
    get_array desc (from + 1) n k (omega (arith, lt))
    ∙ ap (λ k. Some (blank_word desc k)) (let q : from + 1 + k ≡ from + suc k = omega arith in q)

abbrev pub zero_words : Room → ℕ → List Word
zero_words r n = map (blank_word (desc_of r)) (range_with_len 0 (words_for (desc_of r) n))

long : (r : Room) (n : ℕ) → length (zero_words r n) ≡ words_for (desc_of r) n
long r n = length-map-range_with_len (blank_word (desc_of r)) 0 (words_for (desc_of r) n)

no_block : (d : TypeDesc) (ks : List ℕ) (u c : ℕ) → slice_get (map (blank_word d) ks) u ≡ Some (Refer (Some c)) → ⊥
no_block d [] u c e = absurd cc
no_block d (k ∷ ks) zero c e = none ((4 * k) % d.size % 4 == 0 && marks d.map ((4 * k) % d.size / 4)) e
  where
    none : (b : Bool) → Some (word_by b) ≡ Some (Refer (Some c)) → ⊥
    none true f = cc
    none false f = cc
no_block d (k ∷ ks) (suc u) c e = no_block d ks u c e

-- it refers to nothing
pub zeros_bare : (r : Room) (n u c : ℕ) → slice_get (zero_words r n) u ≡ Some (Refer (Some c)) → ⊥
zeros_bare r n u c = no_block (desc_of r) (range_with_len 0 (words_for (desc_of r) n)) u c

module _ (defs : List Def) (t : Ty) (r : Room) (laid : Laid defs t r) (n : ℕ) where
  -- a word that refers lies where an element has a reference
  lies : (w : ℕ) (to : Option ℕ) → slice_get (zero_words r n) w ≡ Some (Refer to)
      → (i : ℕ) × (i < n) × ((o : ℕ) × Has r.references o × (i * r.size + o ≡ 4 * w))
  lies w to e =
      let inside = below (zero_words r n) w (Refer to) e in
      let many = long r n in
      let low : w < words_for (desc_of r) n = omega (arith, inside, many) in
      let there = get_array (desc_of r) 0 (words_for (desc_of r) n) w low
      ∙ ap (λ k. Some (blank_word (desc_of r) k)) (let q : 0 + w ≡ w = omega arith in q) in
      let byte = (4 * w) % r.size in
      marked (byte % 4 == 0) refl (marks (desc_of r).map (byte / 4)) refl (sym there ∙ e) low
    where
      marked : (a : Bool) → ((4 * w) % r.size % 4 == 0) ≡ a → (c : Bool) → marks (desc_of r).map ((4 * w) % r.size / 4) ≡ c
          → Some (word_by (((4 * w) % r.size % 4 == 0) && marks (desc_of r).map ((4 * w) % r.size / 4))) ≡ Some (Refer to) → w < words_for (desc_of r) n
          → (i : ℕ) × (i < n) × ((o : ℕ) × Has r.references o × (i * r.size + o ≡ 4 * w))
      marked false f c g h low =
          absurd (let z : Some (word_by false) ≡ Some (Refer to) = ap (λ (b : Bool). Some (word_by (b && marks (desc_of r).map ((4 * w) % r.size / 4)))) (sym f) ∙ h in cc)
      marked true f false g h low =
          absurd (let z : Some (word_by false) ≡ Some (Refer to) =
          ap (λ (b : Bool). Some (word_by (true && b))) (sym g)
          ∙ ap (λ (b : Bool). Some (word_by (b && marks (desc_of r).map ((4 * w) % r.size / 4)))) (sym f) ∙ h in cc)
      marked true f true g h low =
          let even = eqb-true ((4 * w) % r.size % 4) 0 f in
          let has = among (4 * ((4 * w) % r.size / 4)) r.references (sym (marks_at defs t r ((4 * w) % r.size / 4) laid) ∙ g) in
          let at : 4 * ((4 * w) % r.size / 4) ≡ (4 * w) % r.size = omega (arith, even) in
          let whole = div-add-mod' (4 * w) r.size in
          let turned = mul_comm r.size n in (
            (4 * w) / r.size,
            before ((4 * w) / r.size) (omega (arith, low, whole, turned)),
            ((4 * w) % r.size, subst (Has r.references) at has, whole),
          )
        where
          before : (i : ℕ) → i * r.size < n * r.size → i < n
          before i less = elim (low_or_high i n) [
            | inl l ↦ l
            | inr l ↦ let g = mul-le-mul_right r.size l in absurd (omega (arith, g, less))
          ]

-- ---- it stands for zeros

in_replicate : {A : Type 0} (n : ℕ) (a : A) (i : ℕ) (v : A) → slice_get (replicate n a) i ≡ Some v → v ≡ a
in_replicate zero a i v e = absurd cc
in_replicate (suc n) a zero v e = cc
in_replicate (suc n) a (suc i) v e = in_replicate n a i v e

module _ (m : typed.Module) (t : Ty) (r : Room) (laid : Laid m.adts t r) (n : ℕ) where
  abbrev pub zeros : List Value
  zeros = replicate n (zero_of m.adts t)

  abbrev pub zero_block : Block
  zero_block = block.Array (desc_of r) (length zeros) (zero_words r (length zeros))

  pub as_many : length zeros ≡ n
  as_many = length-replicate n (zero_of m.adts t)

  zeros_whole : AreWhole (zero_words r (length zeros)) 0 (length zeros * r.size)
  zeros_whole = (
    λ w h.
        let low = h.1 in
        let turned = mul_comm r.size (length zeros) in
        let many = long r (length zeros) in
        omega (arith, low, turned, many),
    (made.arrays m.adts t r (length zeros) (zero_words r (length zeros)) laid refl).0,
  )

  pub zeros_stand : InRange Int (pos n) → (now : Facts) (serial : ℕ) → now.form serial ≡ Some (forms.Elements t (length zeros))
      → (contents m).stands now serial (source.Elements zeros) zero_block
  zeros_stand few now serial formed = (
    blocks.elements t r (zero_words r (length zeros)) zeros formed laid
        (subst (λ (l : ℕ). InRange Int (pos l)) (sym as_many) few) zeros_whole
        (λ i v e.
        subst (λ (u : Value). Stands m.adts now (zero_words r (length zeros)) (i * r.size) t u) (sym (in_replicate n (zero_of m.adts t) i v e))
        (made.new_array m.adts now t r (length zeros) (zero_words r (length zeros)) laid refl i (below zeros i v e)))
        (lies m.adts t r laid (length zeros)),
    tt,
  )
