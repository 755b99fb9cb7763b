-- What stands after a write.
use Rattle.std.proofs.Common.{◌≡◌, ℕ, ◌+◌, ◌<◌, ◌≤◌, ◌⊎◌, ℤ, pos, ◌/◌, ◌%◌, List}
use Rattle.std.proofs.Common.{Option, Some, None, refl, sym, ap, ◌∙◌, arith, inl, inr}
use Rattle.std.specs.Prelude.{slice_get}
use Rattle.limbo_types.specs.Types.{Ty}
use Rattle.limbo_layout.specs.Adts.{Def, Has}
use Rattle.limbo_layout.specs.Layout.{Room, Laid}
use Rattle.limbo_meaning.specs.Values.{Value}
use Rattle.dis_meaning.specs.Words.{Word, Plain, Refer, Address, Found, ◌>>=◌, type_check, or_wrong, number_in, word_at}
use Rattle.value_words.specs.Facts.{Facts}
use Rattle.value_words.specs.Stands.{Stands}
use Rattle.value_words.specs.Contents.{AreInRange}
use Rattle.value_words.proofs.Bytes.{Reads, word_found, word_there}
use Rattle.value_words.proofs.Moved as bytes
use Rattle.value_words.proofs.Rows.{below, is_there}
use Rattle.value_heaps.specs.Blocks.{ReferOnlyThere, AreWhole}
use Rattle.value_moves.specs.Writing.{Writes, BeginsPlain, Lies, HasRoom}

-- a word that is there and doesn't refer has a number
pub reads_plain : (o : Option Word) (w : Word) → o ≡ Some w → ((r : Option ℕ) → o ≡ Some (Refer r) → ⊥) → (z : ℤ) × Reads o z
reads_plain None w e h = absurd cc
reads_plain (Some (Plain z)) w e h = (z, refl)
reads_plain (Some (Refer r)) w e h = absurd (h r refl)
reads_plain (Some (Address p at)) w e h = (pos 0, refl)

pub not_both : (o : Option Word) (r : Option ℕ) (z : ℤ) → o ≡ Some (Refer r) → Reads o z → ⊥
not_both o r z e f =
    let g : (or_wrong type_check (Some (Refer r)) >>= number_in) ≡ Found z =
    ap (λ (u : Option Word). or_wrong type_check u >>= number_in) (sym e) ∙ f in
    cc

pub there_is : (o : Option Word) (z : ℤ) → Reads o z → (w : Word) × (o ≡ Some w)
there_is None z e = absurd cc
there_is (Some w) z e = (w, refl)

module _ (target others : List Word) (to : ℕ) (source : List Word) (from size : ℕ) (write : Writes target others to source from size) where
  still_reads : (w : ℕ) (z : ℤ) → Reads (slice_get target w) z → (y : ℤ) × Reads (slice_get others w) y
  still_reads w z e =
      let t = there_is (slice_get target w) z e in
      let l = below target w t.0 t.1 in
      let m = write.many in
      let o = is_there others w (omega (arith, l, m)) in
      reads_plain (slice_get others w) o.0 o.1 (λ r f. let s = write.refer w r f in not_both (slice_get target w) s.0 z s.1 e)

  module _ (at : ℕ) (r : Room) where
    still_whole : AreInRange source → AreWhole target at r.size → AreWhole others at r.size
    still_whole i h = (λ w l. let a = h.0 w l in let m = write.many in omega (arith, a, m), write.ranged i h.1)

    still_begins : BeginsPlain target at r.size → BeginsPlain others at r.size
    still_begins h l = go (h l)
      where
        go : (at % 4 ≡ 0) ⊎ ((z : ℤ) × Reads (slice_get target (at / 4)) z)
            → (at % 4 ≡ 0) ⊎ ((z : ℤ) × Reads (slice_get others (at / 4)) z)
        go (inl e) = inl e
        go (inr z) = inr (still_reads (at / 4) z.0 z.1)

    still_only : ReferOnlyThere target at r → ReferOnlyThere others at r
    still_only h w s e l = let f = write.refer w s e in h w f.0 f.1 l

    still_refer : ((o : ℕ) → Has r.references o → (s : Option ℕ) × (word_at target (pos (at + o)) ≡ Found (Refer s)))
        → (o : ℕ) → Has r.references o → (s : Option ℕ) × (word_at others (pos (at + o)) ≡ Found (Refer s))
    still_refer h o i =
        let f = h o i in
        let g = word_found target (at + o) (Refer f.0) f.1 in
        let k = write.referred ((at + o) / 4) f.0 g.1 in
        (k.0, word_there others (at + o) (Refer k.0) g.0 k.1)

pub stands_there : (defs : List Def) (k : Facts) (source target others : List Word) (from to : ℕ) (t : Ty) (r : Room) (v : Value)
    → Lies defs k source from t r v → HasRoom defs target to t r → Writes target others to source from r.size
    → Lies defs k others to t r v × HasRoom defs others to t r
stands_there defs k source target others from to t r v lies room write =
    let whole = still_whole target others to source from r.size write to r lies.whole.1 room.whole in
    let begins = still_begins target others to source from r.size write to r room.begins in
    let only = still_only target others to source from r.size write to r room.only in (
      record {
        laid = room.laid;
        aligned = room.aligned;
        whole = whole;
        only = only;
        stands = bytes.moved source others lies.whole.1 whole.1 defs k from to t r v room.laid room.aligned write.there lies.stands;
      },
      record {
        laid = room.laid;
        aligned = room.aligned;
        whole = whole;
        begins = begins;
        only = only;
        refer = still_refer target others to source from r.size write to r room.refer;
      },
    )

pub stand_apart : (defs : List Def) (k : Facts) (target others : List Word) (to : ℕ) (source : List Word) (from size at : ℕ) (t : Ty)
    (r : Room) (v : Value) → Writes target others to source from size → Laid defs t r → at % r.align ≡ 0
    → (at + r.size ≤ to) ⊎ (to + size ≤ at) → AreInRange target → AreInRange others → Stands defs k target at t v
    → Stands defs k others at t v
stand_apart defs k target others to source from size at t r v write laid aligned apart i j s =
    bytes.moved target others i j defs k at at t r v laid aligned (λ o l. write.bytes (at + o) (outside o l apart)) s
  where
    outside : (o : ℕ) → o < r.size → (at + r.size ≤ to) ⊎ (to + size ≤ at) → (at + o < to) ⊎ (to + size ≤ at + o)
    outside o l (inl h) = inl (omega (arith, l, h))
    outside o l (inr h) = inr (omega (arith, l, h))
