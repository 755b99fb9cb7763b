-- What lies whole in a place, with references where a room has some, so does each part of it.
use Rattle.std.proofs.Common.{◌≡◌, ℕ, ◌+◌, ◌*◌, ◌<◌, ◌≤◌, ◌%◌, ◌/◌, ℤ, pos, List, length, Option, Some, refl, sym, ap, ◌∙◌}
use Rattle.std.proofs.Common.{arith, inl, inr}
use Rattle.std.specs.Prelude.{slice_get}
use Rattle.std.proofs.lemmas.Bool.Decides.{eqb_tells, leb_tells}
use Rattle.limbo_types.specs.Types.{Ty}
use Rattle.limbo_layout.specs.Adts.{Def, Has}
use Rattle.limbo_layout.specs.Layout.{Room, AllLaid, nothing, all_behind, in_order}
use Rattle.limbo_layout.proofs.Rooms.{rounded_grows}
use Rattle.dis_meaning.specs.Words.{Word, Plain, Refer, Address, Found, ◌>>=◌, type_check, or_wrong, number_in}
use Rattle.dis_meaning.specs.Numbers.{nth_number}
use Rattle.value_words.proofs.Aligned.{IsPower, stays_aligned, laid_power, all_power}
use Rattle.value_words.proofs.Rows.{is_there}
use Rattle.value_heaps.specs.Blocks.{IsWithin, AreWhole, ReferOnlyThere}
use Rattle.value_moves.specs.Writing.{BeginsPlain}
use Rattle.value_stores.proofs.Rooms.{place_of, part_laid, part_ends, part_aligned, part_suits, part_owns, at_words, by_four}

-- What values of a room have that lie there, and what room for one has.
pub record Fits (words : List Word) (at : ℕ) (r : Room) : Type 0 where
  pub aligned : at % r.align ≡ 0
  pub whole : AreWhole words at r.size
  pub begins : BeginsPlain words at r.size
  pub only : ReferOnlyThere words at r

-- a number stands in a word that doesn't refer
by_word : (words : List Word) (w : ℕ) (x : Word) → slice_get words w ≡ Some x → ((r : Option ℕ) → x ≡ Refer r → ⊥)
    → (z : ℤ) × (nth_number words w ≡ Found z)
by_word words w (Plain z) e n = (z, ap (λ (o : Option Word). or_wrong type_check o >>= number_in) e)
by_word words w (Refer r) e n = absurd (n r refl)
by_word words w (Address p a) e n = (pos 0, ap (λ (o : Option Word). or_wrong type_check o >>= number_in) e)

pub has_number : (words : List Word) (w : ℕ) → w < length words → ((r : Option ℕ) → slice_get words w ≡ Some (Refer r) → ⊥)
    → (z : ℤ) × (nth_number words w ≡ Found z)
has_number words w l n =
    let x = is_there words w l in by_word words w x.0 x.1 (λ r e. n r (x.1 ∙ ap Some e))

pub fits_row : (words : List Word) (at : ℕ) (rs : List Room) → Fits words at (in_order rs) → Fits words at (all_behind nothing rs)
fits_row words at rs f =
    let g = rounded_grows (all_behind nothing rs) in
    record {
      aligned = f.aligned;
      whole = (λ w i. f.whole.0 w (i.0, let j = i.1 in omega (arith, j, g)), f.whole.1);
      begins = λ l. f.begins (omega (arith, l, g));
      only = λ w to e i. f.only w to e (i.0, let j = i.1 in omega (arith, j, g));
    }

pub suits_there : (defs : List Def) (at : ℕ) (ts : List Ty) (rs : List Room) (n : ℕ) (t : Ty) (r : Room) → AllLaid defs ts rs
    → slice_get ts n ≡ Some t → slice_get rs n ≡ Some r → at % (all_behind nothing rs).align ≡ 0
    → (at + place_of defs nothing rs n r) % r.align ≡ 0
suits_there defs at ts rs n t r laid type room a =
    stays_aligned at (place_of defs nothing rs n r) r.align (all_behind nothing rs).align
    (laid_power defs t r (part_laid defs ts rs n t r laid type room)) (all_power defs nothing ts rs (inl refl) laid)
    (part_aligned defs nothing rs n r room) a (part_suits defs nothing ts rs n r laid room)

module _ (defs : List Def) (words : List Word) (at : ℕ) (ts : List Ty) (rs : List Room) (n : ℕ) (t : Ty) (r : Room)
    (laid : AllLaid defs ts rs) (type : slice_get ts n ≡ Some t) (room : slice_get rs n ≡ Some r)
    (f : Fits words at (all_behind nothing rs)) where
  power : IsPower r.align
  power = laid_power defs t r (part_laid defs ts rs n t r laid type room)

  aligned : (at + place_of defs nothing rs n r) % r.align ≡ 0
  aligned = suits_there defs at ts rs n t r laid type room f.aligned

  ends : place_of defs nothing rs n r + r.size ≤ (all_behind nothing rs).size
  ends = part_ends defs nothing rs n r room

  -- the part's bytes are the row's
  among : (w : ℕ) → IsWithin (at + place_of defs nothing rs n r) r.size w → IsWithin at (all_behind nothing rs).size w
  among w i = let a = i.0 in let b = i.1 in (omega (arith, a), omega (arith, b, ends))

  owns : (o b : ℕ) → Has (all_behind nothing rs).references o → o ≤ b → b < o + 4 → place_of defs nothing rs n r ≤ b
      → b < place_of defs nothing rs n r + r.size → (p : ℕ) × Has r.references p × (place_of defs nothing rs n r + p ≡ o)
  owns o b = part_owns defs nothing ts rs n r o b (λ p h. absurd h) laid room

  only : ReferOnlyThere words (at + place_of defs nothing rs n r) r
  only w to e i =
      let x = f.only w to e (among w i) in
      let here = x.2 in
      let a = i.0 in
      let b = i.1 in
      let y = owns x.0 x.0 x.1 (omega arith) (omega arith) (omega (arith, here, a)) (omega (arith, here, b)) in
      (y.0, y.1, let q = y.2 in omega (arith, q, here))

  abbrev first_byte : ℕ
  first_byte = at + place_of defs nothing rs n r

  -- A part that begins within a word has no references, and no other part has one in that word.
  no_reference : 0 < r.size → (first_byte % 4 ≡ 0 → ⊥) → at ≤ 4 * (first_byte / 4) → (to : Option ℕ)
      → slice_get words (first_byte / 4) ≡ Some (Refer to) → ⊥
  no_reference l odd below to e =
      let x = f.only (first_byte / 4) to e (below, omega (arith, l, ends)) in
      let here = x.2 in
      let y = owns x.0 (place_of defs nothing rs n r) x.1 (omega (arith, here)) (omega (arith, here)) (omega arith) (omega (arith, l)) in
      odd (by_four first_byte r.align power (at_words defs t r y.0 (part_laid defs ts rs n t r laid type room) y.1) aligned)

  begins : BeginsPlain words first_byte r.size
  begins l = elim (leb_tells at (4 * (first_byte / 4))) [
    | inl y ↦ elim (eqb_tells (first_byte % 4) 0) [
      | inl z ↦ inl z.1
      | inr z ↦
          let below = y.1 in
          inr (has_number words (first_byte / 4) (f.whole.0 (first_byte / 4) (below, omega (arith, l, ends)))
          (no_reference l z.1 below))
    ]
    | inr y ↦
        let above = y.1 in
        let same : at / 4 ≡ first_byte / 4 = omega (arith, above) in
        elim (f.begins (omega (arith, l, ends))) [
          | inl z ↦ absurd (omega (arith, z, above))
          | inr z ↦ inr (z.0, ap (nth_number words) (sym same) ∙ z.1)
        ]
  ]

  pub part_fits : Fits words (at + place_of defs nothing rs n r) r
  part_fits = record {
    aligned = aligned;
    whole = (λ w i. f.whole.0 w (among w i), f.whole.1);
    begins = begins;
    only = only;
  }
