-- Words among which a row lies, from a byte on: its words that refer, and the others.
use Rattle.std.proofs.Common.{◌≡◌, ℕ, ◌+◌, ◌-◌, ◌*◌, ◌<◌, ◌≤◌, ◌/◌, ◌%◌, Bool, true, false, List, length, Option, Some, refl, ap, ◌∙◌, subst, arith}
use Rattle.std.specs.Prelude.{slice_get}
use Rattle.limbo_layout.specs.Adts.{Has}
use Rattle.limbo_layout.specs.Layout.{Room, is_in}
use Rattle.dis_meaning.specs.Words.{Word, Plain, Refer, Address}
use Rattle.dis_memory.specs.Copies.{as_marked}
use Rattle.value_words.proofs.Rows.{is_there}
use Rattle.value_heaps.proofs.Marks.{among, is_among}
use Rattle.value_frames.specs.Types.{AreOf}
use Rattle.value_moves.proofs.Copying.{Gives, Readable}
use Rattle.value_moves.proofs.Standing.{reads_plain}
use Rattle.value_code.specs.Code.{last_end}
use Rattle.rows_printing.proofs.Row.{last_past}

-- A row of this room lies among words from a byte on.
pub record HasRow (words : List Word) (at : ℕ) (r : Room) : Type 0 where
  pub even : at % 4 ≡ 0
  pub many : at + r.size ≤ 4 * length words
  pub refer : (o : ℕ) → Has r.references o → (to : Option ℕ) × (slice_get words ((at + o) / 4) ≡ Some (Refer to))
  pub only : (w : ℕ) (to : Option ℕ) → slice_get words w ≡ Some (Refer to) → at ≤ 4 * w → 4 * w < at + r.size → Has r.references (4 * w - at)

module _ (words : List Word) (at : ℕ) (r : Room) (has : HasRow words at r) where
  -- each of its words is as it is marked
  pub marked : (j : ℕ) → 4 * j < r.size → Gives words (at / 4 + j) (as_marked (is_in (4 * j) r.references))
  marked j l = by (is_in (4 * j) r.references) refl
    where
      by : (b : Bool) → is_in (4 * j) r.references ≡ b → Gives words (at / 4 + j) (as_marked b)
      by true e =
          let f = has.refer (4 * j) (among (4 * j) r.references e) in
          let even = has.even in
          let same : at / 4 + j ≡ (at + 4 * j) / 4 = omega (arith, even) in
          (Refer f.0, ap (slice_get words) same ∙ f.1, refl)
      by false e = go w.0 w.1
        where
          w : (v : Word) × (slice_get words (at / 4 + j) ≡ Some v)
          w =
              let many = has.many in
              let even = has.even in
              is_there words (at / 4 + j) (omega (arith, many, even, l))

          go : (v : Word) → slice_get words (at / 4 + j) ≡ Some v → Gives words (at / 4 + j) (as_marked false)
          go (Plain z) f = (Plain z, f, refl)
          go (Address q n) f = (Address q n, f, refl)
          go (Refer to) f =
              let even = has.even in
              let h = has.only (at / 4 + j) to f (omega (arith, even)) (omega (arith, even, l)) in
              let same : 4 * (at / 4 + j) - at ≡ 4 * j = omega (arith, even) in
              let i = is_among (4 * j) r.references (subst (λ (n : ℕ). Has r.references n) same h) in
              absurd cc

  -- each byte behind the last word that refers is one of a number
  pub readable : last_end r.references % 4 ≡ 0 → (c : ℕ) → last_end r.references + c < r.size → Readable words (at + last_end r.references + c)
  readable front_even c l =
      let many = has.many in
      let even = has.even in
      let w = is_there words ((at + last_end r.references + c) / 4) (omega (arith, many, l)) in
      reads_plain (slice_get words ((at + last_end r.references + c) / 4)) w.0 w.1
      (λ to e.
      let h = has.only ((at + last_end r.references + c) / 4) to e (omega (arith, even)) (omega (arith, l)) in
      let past = last_past r.references (4 * ((at + last_end r.references + c) / 4) - at) h in
      omega (arith, past, even, front_even))

-- ---- in a record, and in a frame

pub in_record : (size : ℕ) (r : Room) (words : List Word) → r.size ≤ size → size % 4 ≡ 0 → AreOf size r.references words → HasRow words 0 r
in_record size r words l even are =
    let many = are.many in
    record {
      even = refl;
      many = omega (arith, many, l, even);
      refer = λ o h.
          let f = are.refer o h in
          let same : 0 + o ≡ o = omega arith in
          (f.0, ap (λ (n : ℕ). slice_get words (n / 4)) same ∙ f.1);
      only = λ w to e low high.
          let same : 4 * w ≡ 4 * w - 0 = omega arith in
          subst (λ (n : ℕ). Has r.references n) same (are.only w to e);
    }
