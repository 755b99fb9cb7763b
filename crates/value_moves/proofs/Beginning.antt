-- A value begins with a word, or within one that has a number.
use Rattle.std.proofs.Common.{◌≡◌, ℕ, zero, suc, ◌+◌, ◌<◌, ◌⊎◌, ◌/◌, ◌%◌, ℤ, pos, List, refl, ap, ◌∙◌, subst, arith, inl, inr}
use Rattle.std.specs.Prelude.{slice_get}
use Rattle.std.specs.Int.{next_multiple_of}
use Rattle.limbo_types.specs.Types as ty
use Rattle.limbo_types.specs.Types.{Ty}
use Rattle.limbo_layout.specs.Adts as adts
use Rattle.limbo_layout.specs.Adts.{Def, parts}
use Rattle.limbo_layout.specs.Layout as layout
use Rattle.limbo_layout.specs.Layout.{Room, Laid, AllLaid, is_alone, nothing, behind, all_behind, in_order}
use Rattle.limbo_layout.proofs.Rooms.{one_room}
use Rattle.limbo_values.specs.declared.number.Kind.{Kind}
use Rattle.limbo_values.specs.declared.number.Kind.TheVariants as kind
use Rattle.limbo_meaning.specs.Values.{Value}
use Rattle.dis_meaning.specs.Words.{Word, Refer, Found}
use Rattle.dis_meaning.specs.Numbers.{number_at}
use Rattle.value_words.specs.Facts.{Facts}
use Rattle.value_words.specs.Stands.{Stands, a_number, a_text, a_name, an_array, no_words, a_tuple, an_adt}
use Rattle.value_words.specs.Stands.{AllStand, none_stand, more_stand}
use Rattle.value_words.proofs.Aligned.{IsPower, laid_power, all_power, inside}
use Rattle.value_words.proofs.Bytes.{Reads, word_found, int_found, big_found, byte_found}
use Rattle.value_moves.specs.Writing.{BeginsPlain, Lies, HasRoom}
use Rattle.value_moves.proofs.Referring.{refers}

module _ (defs : List Def) (facts : Facts) (words : List Word) where
  abbrev Begins : (at : ℕ) → Type 0
  Begins at = (at % 4 ≡ 0) ⊎ ((z : ℤ) × Reads (slice_get words (at / 4)) z)

  by_number : (k : Kind) (at : ℕ) (z : ℤ) → number_at k words (pos at) ≡ Found z → Begins at
  by_number kind.Byte at z e = let f = byte_found words at z e in inr (f.0, f.1)
  by_number kind.Int at z e = inl (int_found words at z e).0
  by_number kind.Big at z e = inl (big_found words at z e).even

  some_size : (n : ℕ) → (n ≡ 0) ⊎ (0 < n)
  some_size zero = inl refl
  some_size (suc n) = inr (omega arith)

  from_none : (a : ℕ) → IsPower a → next_multiple_of 0 a ≡ 0
  from_none a (inl e) = ap (next_multiple_of 0) e
  from_none a (inr (inl e)) = ap (next_multiple_of 0) e
  from_none a (inr (inr e)) = ap (next_multiple_of 0) e

  rounded_none : (w : Room) → IsPower w.align → 0 < next_multiple_of w.size w.align → 0 < w.size
  rounded_none w a l = go (some_size w.size)
    where
      go : (w.size ≡ 0) ⊎ (0 < w.size) → 0 < w.size
      go (inl e) =
          let f : next_multiple_of w.size w.align ≡ 0 = ap (λ n. next_multiple_of n w.align) e ∙ from_none w.align a in
          absurd (omega (arith, l, f))
      go (inr h) = h

  mutual
    begins : (at : ℕ) (t : Ty) (r : Room) (v : Value) → Laid defs t r → Stands defs facts words at t v → 0 < r.size → Begins at
    begins _ _ r _ l (a_number at k z e i) h = by_number k at z e
    begins _ _ r _ l (a_text at q s e i) h = inl (word_found words at (Refer q) e).0
    begins _ _ r _ l (a_name at t q n i e j) h = inl (word_found words at (Refer q) e).0
    begins _ _ r _ l (an_array at t q a e i) h = inl (word_found words at (Refer q) e).0
    begins _ _ r _ l (no_words at) h =
        let f : r.size ≡ 0 = ap (λ (z : Room). z.size) (one_room defs ty.Nothing r nothing l (is_alone ty.Nothing nothing refl)) in
        absurd (omega (arith, h, f))
    begins _ _ r _ l (a_tuple at ts rs vs m all) h =
        let f : r.size ≡ (in_order rs).size =
        ap (λ (z : Room). z.size) (one_room defs (ty.Tuple ts) r (in_order rs) l (layout.of_tuple ts rs m)) in
        all_begin at nothing (adts.listed ts) rs vs refl m all
        (rounded_none (all_behind nothing rs) (all_power defs nothing (adts.listed ts) rs (inl refl) m) (omega (arith, h, f)))
    begins _ _ r _ l (an_adt at n d rs vs e m all) h =
        let f : r.size ≡ (in_order rs).size =
        ap (λ (z : Room). z.size) (one_room defs (ty.Adt n) r (in_order rs) l (layout.of_adt n d rs e m)) in
        all_begin at nothing (parts d) rs vs refl m all
        (rounded_none (all_behind nothing rs) (all_power defs nothing (parts d) rs (inl refl) m) (omega (arith, h, f)))

    -- parts, before which nothing takes room
    all_begin : (at : ℕ) (w : Room) (ts : List Ty) (rs : List Room) (vs : List Value) → w.size ≡ 0 → AllLaid defs ts rs
        → AllStand defs facts words at w ts rs vs → 0 < (all_behind w rs).size → Begins at
    all_begin _ _ _ _ _ none l (none_stand at w) h = absurd (omega (arith, none, h))
    all_begin _ _ _ _ _ none l (more_stand at w t ts r rs v vs x y) h =
        let i = inside defs t ts r rs l in
        let off = next_multiple_of w.size r.align in
        let zero_off : off ≡ 0 = ap (λ n. next_multiple_of n r.align) none ∙ from_none r.align (laid_power defs t r i.0) in
        let same : at + off ≡ at = omega (arith, zero_off) in
        elim (some_size r.size) [
          | inl e ↦ all_begin at (behind w r) ts rs vs (omega (arith, e, zero_off)) i.1 y h
          | inr g ↦ subst Begins same (begins (at + off) t r v i.0 x g)
        ]

pub begins_plain : (defs : List Def) (k : Facts) (words : List Word) (at : ℕ) (t : Ty) (r : Room) (v : Value) → Laid defs t r
    → Stands defs k words at t v → BeginsPlain words at r.size
begins_plain defs k words at t r v l s = begins defs k words at t r v l s

-- Where a value lies there is room for one.
pub room_of : (defs : List Def) (k : Facts) (words : List Word) (at : ℕ) (t : Ty) (r : Room) (v : Value) → Lies defs k words at t r v
    → HasRoom defs words at t r
room_of defs k words at t r v lies = record {
  laid = lies.laid;
  aligned = lies.aligned;
  whole = lies.whole;
  begins = begins_plain defs k words at t r v lies.laid lies.stands;
  only = lies.only;
  refer = λ o h. refers defs k words at t r v o lies.laid lies.stands h;
}
