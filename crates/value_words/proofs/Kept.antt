-- Words that stay stand for what they stood for, whatever others become.
use Rattle.std.proofs.Common.{◌≡◌, ℕ, suc, ◌+◌, ◌<◌, ◌≤◌, ℤ, pos, ◌%◌, ◌/◌, List, Option, refl, sym, ap, ◌∙◌, subst, arith}
use Rattle.std.specs.Prelude.{slice_get}
use Rattle.limbo_types.specs.Types.{Ty}
use Rattle.limbo_layout.specs.Adts.{Def}
use Rattle.limbo_layout.specs.Layout.{Room, Laid}
use Rattle.limbo_values.specs.declared.number.Kind.{Kind}
use Rattle.limbo_values.specs.declared.number.Kind.TheVariants as kind
use Rattle.limbo_values.specs.Numbers.{InRange}
use Rattle.limbo_meaning.specs.Values.{Value}
use Rattle.dis_meaning.specs.Words.{Word, Refer, Found, word_at}
use Rattle.dis_meaning.specs.Numbers.{number_at}
use Rattle.value_words.specs.Facts.{Facts}
use Rattle.value_words.specs.Stands.{Stands}
use Rattle.value_words.proofs.Aligned.{IsPower}
use Rattle.value_words.proofs.Bytes.{Reads, word_found, word_there, int_found, int_there, big_found, big_there, byte_found}
use Rattle.value_words.proofs.Bytes.{byte_there}
use Rattle.value_words.proofs.Carrying.{bytes_in, carried}

module _ (words others : List Word) where
  -- The words of so many bytes are the same.
  abbrev pub Stay : (at size : ℕ) → Type 0
  Stay at size = (o : ℕ) → o < size → slice_get others ((at + o) / 4) ≡ slice_get words ((at + o) / 4)

  abbrev Same : (at there size align : ℕ) → Type 0
  Same at there size align = (at ≡ there) × Stay at size

  first_stays : (at size : ℕ) → 0 < size → Stay at size → slice_get words (at / 4) ≡ slice_get others (at / 4)
  first_stays at size l s =
      let e : at / 4 ≡ (at + 0) / 4 = omega arith in
      ap (slice_get words) e ∙ sym (s 0 l) ∙ ap (slice_get others) (sym e)

  number_stays : (at : ℕ) (k : Kind) (z : ℤ) → Stay at (bytes_in k) → number_at k words (pos at) ≡ Found z
      → number_at k others (pos at) ≡ Found z
  number_stays at kind.Byte z s e =
      let f = byte_found words at z e in
      byte_there others at f.0 (subst (λ (w : Option Word). Reads w f.0) (first_stays at 1 (omega arith) s) f.1) ∙ ap Found f.2
  number_stays at kind.Int z s e =
      let f = int_found words at z e in
      int_there others at z f.0 (subst (λ (w : Option Word). Reads w z) (first_stays at 4 (omega arith) s) f.1)
  number_stays at kind.Big z s e =
      let f = big_found words at z e in
      let i : suc (at / 4) ≡ (at + 4) / 4 = omega arith in
      let g = ap (slice_get words) i ∙ sym (s 4 (omega arith)) ∙ ap (slice_get others) (sym i) in
      big_there others at z (record {
        even = f.even;
        high = f.high;
        low = f.low;
        first = subst (λ (w : Option Word). Reads w f.high) (first_stays at 8 (omega arith) s) f.first;
        second = subst (λ (w : Option Word). Reads w f.low) g f.second;
        is = f.is;
      })

  number_goes : (at there : ℕ) (k : Kind) (z : ℤ) → Same at there (bytes_in k) (bytes_in k) → number_at k words (pos at) ≡ Found z
      → InRange k z → number_at k others (pos there) ≡ Found z
  number_goes at there k z s e i = subst (λ (n : ℕ). number_at k others (pos n) ≡ Found z) s.0 (number_stays at k z s.1 e)

  reference_goes : (at there : ℕ) (r : Option ℕ) → Same at there 4 4 → word_at words (pos at) ≡ Found (Refer r)
      → word_at others (pos there) ≡ Found (Refer r)
  reference_goes at there r s e =
      let f = word_found words at (Refer r) e in
      subst (λ (n : ℕ). word_at others (pos n) ≡ Found (Refer r)) s.0
      (word_there others at (Refer r) f.0 (sym (first_stays at 4 (omega arith) s.1) ∙ f.1))

  pub stay_within : (at size off s : ℕ) → off + s ≤ size → Stay at size → Stay (at + off) s
  stay_within at size off s l h o k =
      let e : (at + off + o) / 4 ≡ (at + (off + o)) / 4 = omega arith in
      ap (slice_get others) e ∙ h (off + o) (omega arith) ∙ ap (slice_get words) (sym e)

  part_same : (at there size align off s a : ℕ) → IsPower align → IsPower a → a ≤ align → off % a ≡ 0 → off + s ≤ size
      → Same at there size align → Same (at + off) (there + off) s a
  part_same at there size align off s a p q l e f h = (ap (λ (n : ℕ). n + off) h.0, stay_within at size off s f h.1)

  module _ (defs : List Def) (facts : Facts) where
    pub kept : (at : ℕ) (t : Ty) (r : Room) (v : Value) → Laid defs t r → Stay at r.size → Stands defs facts words at t v
        → Stands defs facts others at t v
    kept at t r v l s h = carried defs facts words others Same number_goes reference_goes part_same at at t r v l (refl, s) h
