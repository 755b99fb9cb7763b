-- Memory as it is made stands for zero.
use Rattle.std.proofs.Common.{◌≡◌, ℕ, suc, ◌+◌, ◌<◌, ◌≤◌, ◌⊎◌, ℤ, pos, ◌%◌, ◌/◌, List, [], ◌∷◌, map, Option, Some, None}
use Rattle.std.proofs.Common.{refl, sym, ap, ◌∙◌, subst, arith, inl, inr}
use Rattle.std.specs.Prelude.{slice_get, slice_index}
use Rattle.std.specs.Int.{next_multiple_of}
use Rattle.std.proofs.lemmas.Int.{ints}
use Rattle.limbo_types.specs.Types as ty
use Rattle.limbo_types.specs.Types.{Ty, Tys}
use Rattle.limbo_layout.specs.Adts.{Def, Has, parts, listed}
use Rattle.limbo_layout.specs.Layout as layout
use Rattle.limbo_layout.specs.Layout.{Room, Laid, AllLaid, is_alone, none_laid, more_laid, alone, nothing, number, reference, behind}
use Rattle.limbo_layout.specs.Layout.{all_behind, in_order}
use Rattle.limbo_layout.proofs.Rooms.{has_left, has_right, has_cases, rounded_grows}
use Rattle.limbo_values.specs.declared.number.Kind.TheVariants as kind
use Rattle.limbo_values.specs.Numbers.{InRange}
use Rattle.limbo_values.proofs.Ranges.{within}
use Rattle.limbo_meaning.specs.Values as value
use Rattle.limbo_meaning.specs.Values.{Value, Num, Ref, Array, Parts, row, zero_of, all_fitted}
use Rattle.core_code.proofs.Whole.{values_are_whole}
use Rattle.dis_meaning.specs.Words.{Word, Plain, Refer, Found, word_at}
use Rattle.dis_meaning.specs.Numbers.{bytes_of}
use Rattle.value_words.specs.Facts.{Facts}
use Rattle.value_words.specs.Stands.{IsReference, Stands, a_number, a_text, a_name, an_array, no_words, a_tuple, an_adt}
use Rattle.value_words.specs.Stands.{AllStand, none_stand, more_stand}
use Rattle.value_words.specs.Contents as contents
use Rattle.value_words.specs.Contents.{content, content_in, AreInRange, AreBlank, IsOfReference}
use Rattle.value_words.proofs.Aligned.{IsPower, stays_aligned, laid_power, suits, ends_within, aligned_within}
use Rattle.value_words.proofs.Bytes.{Reads, word_there, int_there, big_there, byte_there, content_at, content_next, read_byte}
use Rattle.value_words.proofs.Bytes.{zero_byte, zero_within, read_within, same_number}

-- ---- references of parts, among those of the whole

pub has_map : (f : ℕ → ℕ) (os : List ℕ) (o : ℕ) → Has os o → Has (map f os) (f o)
has_map f [] o h = absurd h
has_map f (x ∷ os) o (inl e) = inl (ap f e)
has_map f (x ∷ os) o (inr h) = inr (has_map f os o h)

pub mapped : (f : ℕ → ℕ) (os : List ℕ) (p : ℕ) → Has (map f os) p → (o : ℕ) × Has os o × (f o ≡ p)
mapped f [] p h = absurd h
mapped f (x ∷ os) p (inl e) = (x, inl refl, e)
mapped f (x ∷ os) p (inr h) = let i = mapped f os p h in (i.0, inr i.1, i.2)

pub has_more : (w : Room) (rs : List Room) (p : ℕ) → Has w.references p → Has (all_behind w rs).references p
has_more w [] p h = h
has_more w (r ∷ rs) p h =
    has_more (behind w r) rs p (has_left w.references (map (λ o. next_multiple_of w.size r.align + o) r.references) p h)

has_before : (w : Room) (rs : List Room) (p : ℕ) → Has (all_behind w rs).references p → Has w.references p ⊎ (w.size ≤ p)
has_before w [] p h = inl h
has_before w (r ∷ rs) p h = elim (has_before (behind w r) rs p h) [
  | inl i ↦ elim (has_cases w.references (map (λ o. next_multiple_of w.size r.align + o) r.references) p i) [
    | inl j ↦ inl j
    | inr j ↦ inr (let k = mapped (λ o. next_multiple_of w.size r.align + o) r.references p j in let e = k.2 in omega arith)
  ]
  | inr l ↦ inr (omega arith)
]

-- Words that refer lie in the room.
abbrev LieWithin : Room → Type 0
LieWithin w = (p : ℕ) → Has w.references p → p + 4 ≤ w.size

alone_within : (t : Ty) (r : Room) → alone t ≡ Some r → LieWithin r
alone_within (ty.Tuple ts) r e = absurd cc
alone_within (ty.Adt n) r e = absurd cc
alone_within ty.Byte r e = let f : number 1 ≡ r = cc in subst LieWithin f (λ p h. absurd h)
alone_within ty.Int r e = let f : number 4 ≡ r = cc in subst LieWithin f (λ p h. absurd h)
alone_within ty.Big r e = let f : number 8 ≡ r = cc in subst LieWithin f (λ p h. absurd h)
alone_within ty.Nothing r e = let f : nothing ≡ r = cc in subst LieWithin f (λ p h. absurd h)
alone_within _ r e = let f : reference ≡ r = cc in subst LieWithin f at_first
  where
    at_first : LieWithin reference
    at_first p (inl e) = omega arith
    at_first p (inr h) = absurd h

behind_within : (w r : Room) → LieWithin w → LieWithin r → LieWithin (behind w r)
behind_within w r h k p i = elim (has_cases w.references (map (λ o. next_multiple_of w.size r.align + o) r.references) p i) [
  | inl j ↦ let l = h p j in omega arith
  | inr j ↦
      let m = mapped (λ o. next_multiple_of w.size r.align + o) r.references p j in
      let l = k m.0 m.1 in
      let e = m.2 in
      omega arith
]

module _ (defs : List Def) where
  mutual
    pub laid_within : (t : Ty) (r : Room) → Laid defs t r → LieWithin r
    laid_within _ _ (is_alone t r e) = alone_within t r e
    laid_within _ _ (layout.of_tuple ts rs l) =
        λ p h.
        let a = all_within nothing (listed ts) rs (λ q i. absurd i) l p h in
        let b = rounded_grows (all_behind nothing rs) in
        omega arith
    laid_within _ _ (layout.of_adt n d rs e l) =
        λ p h.
        let a = all_within nothing (parts d) rs (λ q i. absurd i) l p h in
        let b = rounded_grows (all_behind nothing rs) in
        omega arith

    pub all_within : (w : Room) (ts : List Ty) (rs : List Room) → LieWithin w → AllLaid defs ts rs → LieWithin (all_behind w rs)
    all_within w _ _ h none_laid = h
    all_within w _ _ h (more_laid t ts r rs l ls) = all_within (behind w r) ts rs (behind_within w r h (laid_within t r l)) ls

-- ---- zero

module _ (defs : List Def) (facts : Facts) (words : List Word) (ranges : AreInRange words) where
  zero_word : (w : Option Word) → ((y : ℤ) → w ≡ Some (Plain y) → InRange kind.Int y)
      → ((k : ℕ) → k < 4 → content_in w k ≡ Some (contents.Byte 0)) → Reads w (pos 0)
  zero_word w i h =
      let y = read_byte w 0 0 (omega arith) (h 0 (omega arith)) in
      let same : y.0 ≡ pos 0 = same_number y.0 (pos 0) (read_within w y.0 i y.1) zero_within
      (λ k l. let z = read_byte w k 0 l (h k l) in
      let e : z.0 ≡ y.0 = let a = z.1 in let b = y.1 in let c : Found z.0 ≡ Found y.0 = sym a ∙ b in cc in
      sym (ap (λ x. slice_index (bytes_of x) k) e) ∙ z.2 ∙ sym (zero_byte k l)) in
      subst (λ x. Reads w x) same y.1

  -- memory of numbers is zeros
  bare : (at : ℕ) (r : Room) → r.references ≡ [] → AreBlank words at r → (o : ℕ) → o < r.size
      → content words (at + o) ≡ Some (contents.Byte 0)
  bare at r e b o l = elim (b.zeros o l) [
    | inl z ↦ z
    | inr i ↦ absurd (subst (λ (os : List ℕ). Has os i.0) e i.1)
  ]

  refers : (at : ℕ) → at % 4 ≡ 0 → AreBlank words at reference → word_at words (pos at) ≡ Found (Refer None)
  refers at a b =
      word_there words at (Refer None) a
      (ap (slice_get words) (let e : at / 4 ≡ (at + 0) / 4 = omega arith in e) ∙ b.refer 0 (inl refl))

  name : (t : Ty) (r : Room) (at : ℕ) → IsReference t → alone t ≡ Some reference → reference ≡ r → at % r.align ≡ 0 → AreBlank words at r
      → Stands defs facts words at t (Ref None)
  name t r at i e f a b =
      a_name at t None None i (refers at (ap (λ (z : Room). at % z.align) f ∙ a) (subst (λ (z : Room). AreBlank words at z) (sym f) b)) tt

  zero_alone : (at : ℕ) (t : Ty) (r : Room) → alone t ≡ Some r → at % r.align ≡ 0 → AreBlank words at r
      → Stands defs facts words at t (zero_of defs t)
  zero_alone at (ty.Tuple ts) r e a b = absurd cc
  zero_alone at (ty.Adt n) r e a b = absurd cc
  zero_alone at ty.Nothing r e a b = no_words at
  zero_alone at ty.Byte r e a b =
      let f : number 1 ≡ r = cc in
      let h = bare at (number 1) refl (subst (λ (z : Room). AreBlank words at z) (sym f) b) 0 (omega arith) in
      let g : content words at ≡ Some (contents.Byte 0) = ap (content words) (let i : at ≡ at + 0 = omega arith in i) ∙ h in
      let y = read_byte (slice_get words (at / 4)) (at % 4) 0 (omega arith) g in
      a_number at kind.Byte (pos 0) (byte_there words at y.0 y.1 ∙ ap (λ n. Found (pos n)) y.2)
      (record { above = omega (arith, ints); below = omega (arith, ints) })
  zero_alone at ty.Int r e a b =
      let f : number 4 ≡ r = cc in
      let even : at % 4 ≡ 0 = ap (λ (z : Room). at % z.align) f ∙ a in
      let h = bare at (number 4) refl (subst (λ (z : Room). AreBlank words at z) (sym f) b) in
      subst (λ z. Stands defs facts words at ty.Int (Num z)) (sym (within kind.Int (pos 0) zero_within))
      (a_number at kind.Int (pos 0)
      (int_there words at (pos 0) even (zero_word (slice_get words (at / 4)) (ranges (at / 4))
      (λ k l. sym (content_at words at k even l) ∙ h k l)))
      zero_within)
  zero_alone at ty.Big r e a b =
      let f : number 8 ≡ r = cc in
      let even : at % 4 ≡ 0 = let g : at % 8 ≡ 0 = ap (λ (z : Room). at % z.align) f ∙ a in omega arith in
      let h = bare at (number 8) refl (subst (λ (z : Room). AreBlank words at z) (sym f) b) in
      let range : InRange kind.Big (pos 0) = record { above = omega (arith, ints); below = omega (arith, ints) } in
      subst (λ z. Stands defs facts words at ty.Big (Num z)) (sym (within kind.Big (pos 0) range))
      (a_number at kind.Big (pos 0)
      (big_there words at (pos 0) (record {
        even = even;
        high = pos 0;
        low = pos 0;
        first = zero_word (slice_get words (at / 4)) (ranges (at / 4)) (λ k l. sym (content_at words at k even l) ∙ h k (omega arith));
        second = zero_word (slice_get words (suc (at / 4))) (ranges (suc (at / 4)))
            (λ k l. sym (content_next words at k even l) ∙ h (4 + k) (omega arith));
        is = refl;
      }))
      range)
  zero_alone at ty.Chars r e a b =
      let f : reference ≡ r = cc in
      a_text at None [] (refers at (ap (λ (z : Room). at % z.align) f ∙ a) (subst (λ (z : Room). AreBlank words at z) (sym f) b)) refl
  zero_alone at (ty.ArrayOf t) r e a b =
      let f : reference ≡ r = cc in
      an_array at t None None (refers at (ap (λ (z : Room). at % z.align) f ∙ a) (subst (λ (z : Room). AreBlank words at z) (sym f) b)) tt
  zero_alone at ty.Nil r e a b = name ty.Nil r at tt refl (let f : reference ≡ r = cc in f) a b
  zero_alone at (ty.ListOf t) r e a b = name (ty.ListOf t) r at tt refl (let f : reference ≡ r = cc in f) a b
  zero_alone at (ty.ChanOf t) r e a b = name (ty.ChanOf t) r at tt refl (let f : reference ≡ r = cc in f) a b
  zero_alone at (ty.RefAdt n) r e a b = name (ty.RefAdt n) r at tt refl (let f : reference ≡ r = cc in f) a b
  zero_alone at (ty.RefPick n k) r e a b = name (ty.RefPick n k) r at tt refl (let f : reference ≡ r = cc in f) a b
  zero_alone at (ty.Module n) r e a b = name (ty.Module n) r at tt refl (let f : reference ≡ r = cc in f) a b

  -- a part of memory as it is made is so
  part_blank : (at : ℕ) (whole w r : Room) (rs : List Room) → LieWithin w → LieWithin r
      → (all_behind w (r ∷ rs)).references ≡ whole.references → (all_behind w (r ∷ rs)).size ≤ whole.size → AreBlank words at whole
      → AreBlank words (at + next_multiple_of w.size r.align) r
  part_blank at whole w r rs i j e l b = record {
    refer = λ o h.
        ap (λ n. slice_get words (n / 4)) (let f : at + off + o ≡ at + (off + o) = omega arith in f)
        ∙ b.refer (off + o) (subst (λ (os : List ℕ). Has os (off + o)) e (has_more (behind w r) rs (off + o)
        (has_right w.references (map (λ o. off + o) r.references) (off + o) (has_map (λ o. off + o) r.references o h))));
    zeros = λ o k.
        let c = ends_within w r rs in
        let f : at + off + o ≡ at + (off + o) = omega arith in
        elim (b.zeros (off + o) (omega arith)) [
          | inl z ↦ inl (ap (content words) f ∙ z)
          | inr q ↦ inr (its_own o k q.0 (subst (λ (os : List ℕ). Has os q.0) (sym e) q.1) q.2 q.3)
        ];
  }
    where
      off : ℕ
      off = next_multiple_of w.size r.align

      its_own : (o : ℕ) → o < r.size → (p : ℕ) → Has (all_behind (behind w r) rs).references p → p ≤ off + o → off + o < p + 4
          → IsOfReference r o
      its_own o k p h f g = elim (has_before (behind w r) rs p h) [
        | inl m ↦ elim (has_cases w.references (map (λ o. off + o) r.references) p m) [
          | inl n ↦ absurd (let q = i p n in omega arith)
          | inr n ↦ let q = mapped (λ o. off + o) r.references p n in let c = q.2 in (q.0, q.1, omega arith, omega arith)
        ]
        | inr m ↦ absurd (omega arith)
      ]

  mutual
    pub stands_zero : (at : ℕ) (t : Ty) (r : Room) → Laid defs t r → at % r.align ≡ 0 → AreBlank words at r
        → Stands defs facts words at t (zero_of defs t)
    stands_zero at _ _ (is_alone t r e) a b = zero_alone at t r e a b
    stands_zero at _ _ (layout.of_tuple ts rs l) a b =
        subst (λ (v : Value). Stands defs facts words at (ty.Tuple ts) v) (sym (values_are_whole.tuples defs ts value.nothing))
        (a_tuple at ts rs (all_fitted defs (listed ts) []) l
        (all_zero at (in_order rs) nothing (listed ts) rs (λ p h. absurd h) l
        (laid_power defs (ty.Tuple ts) (in_order rs) (layout.of_tuple ts rs l))
        refl (rounded_grows (all_behind nothing rs)) (omega arith) a b))
    stands_zero at _ _ (layout.of_adt n d rs e l) a b =
        subst (λ (v : Value). Stands defs facts words at (ty.Adt n) v)
        (sym (values_are_whole.adts defs n d (in_order rs) value.nothing (layout.of_adt n d rs e l) e))
        (an_adt at n d rs (all_fitted defs (parts d) []) e l
        (all_zero at (in_order rs) nothing (parts d) rs (λ p h. absurd h) l
        (laid_power defs (ty.Adt n) (in_order rs) (layout.of_adt n d rs e l))
        refl (rounded_grows (all_behind nothing rs)) (omega arith) a b))

    pub all_zero : (at : ℕ) (whole w : Room) (ts : List Ty) (rs : List Room) → LieWithin w → AllLaid defs ts rs → IsPower whole.align
        → (all_behind w rs).references ≡ whole.references → (all_behind w rs).size ≤ whole.size → (all_behind w rs).align ≤ whole.align
        → at % whole.align ≡ 0 → AreBlank words at whole → AllStand defs facts words at w ts rs (all_fitted defs ts [])
    all_zero at whole w _ _ i none_laid p e f g a b = none_stand at w
    all_zero at whole w _ _ i (more_laid t ts r rs l ls) p e f g a b =
        let off = next_multiple_of w.size r.align in
        let c = aligned_within w r rs in
        let j = laid_within defs t r l in
        more_stand at w t ts r rs (zero_of defs t) (all_fitted defs ts [])
        (stands_zero (at + off) t r l
        (stays_aligned at off r.align whole.align (laid_power defs t r l) p (omega arith) a
        (suits defs w t ts r rs (more_laid t ts r rs l ls)))
        (part_blank at whole w r rs i j e f b))
        (all_zero at whole (behind w r) ts rs (behind_within w r i j) ls p e f g a b)
