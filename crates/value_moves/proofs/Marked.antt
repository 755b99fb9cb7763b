-- Which words of a value refer, and which have numbers.
use Rattle.std.proofs.Common.{◌≡◌, ℕ, ◌+◌, ◌*◌, ◌<◌, ◌≤◌, ◌⊎◌, ℤ, ◌/◌, ◌%◌, Bool, true, false, List, [], ◌∷◌, map}
use Rattle.std.proofs.Common.{Some, refl, sym, ap, ◌∙◌, subst, arith, inl, inr}
use Rattle.std.specs.Prelude.{slice_get}
use Rattle.std.specs.List.{range_with_len}
use Rattle.std.proofs.lemmas.List.FromFn.{get_or-map-range_with_len}
use Rattle.limbo_layout.specs.Adts.{Has}
use Rattle.limbo_layout.specs.Layout.{Room, is_in}
use Rattle.dis_file.specs.References as file
use Rattle.dis_meaning.specs.Words.{Word, Plain, Refer, Address, Found, fits}
use Rattle.dis_memory.specs.Copies.{as_marked}
use Rattle.value_words.proofs.Bytes.{Reads, word_found}
use Rattle.value_words.proofs.Rows.{is_there}
use Rattle.value_heaps.specs.Blocks.{IsWithin, ReferOnlyThere, AreWhole}
use Rattle.value_heaps.proofs.Marks.{among, is_among, marks_is}
use Rattle.value_frames.specs.Types.{desc}
use Rattle.value_moves.specs.Operands.{has_some}
use Rattle.value_moves.specs.Writing.{BeginsPlain}
use Rattle.value_moves.proofs.Changing.{low_or_high}
use Rattle.value_moves.proofs.Copying.{Gives, Readable}
use Rattle.value_moves.proofs.Referring.{Refers}
use Rattle.value_moves.proofs.Standing.{reads_plain}

pub some_there : (os : List ℕ) → has_some os ≡ true → (o : ℕ) × Has os o
some_there [] e = absurd cc
some_there (o ∷ os) e = (o, inl refl)

pub none_there : (os : List ℕ) → has_some os ≡ false → (o : ℕ) → Has os o → ⊥
none_there [] e o h = h
none_there (p ∷ os) e o h = absurd cc

-- words of one kind take each other
pub marked_fits : (b : Bool) (old new : Word) → as_marked b old ≡ Found old → as_marked b new ≡ Found new → fits old new ≡ true
marked_fits true (Plain y) new e f = absurd cc
marked_fits true (Address p at) new e f = absurd cc
marked_fits true (Refer r) (Plain z) e f = absurd cc
marked_fits true (Refer r) (Address p at) e f = absurd cc
marked_fits true (Refer r) (Refer s) e f = refl
marked_fits false (Refer r) new e f = absurd cc
marked_fits false (Plain y) (Plain z) e f = refl
marked_fits false (Plain y) (Address p at) e f = refl
marked_fits false (Plain y) (Refer s) e f = absurd cc
marked_fits false (Address q to) (Plain z) e f = refl
marked_fits false (Address q to) (Address p at) e f = refl
marked_fits false (Address q to) (Refer s) e f = absurd cc

-- the words that a type marks
pub marks_of : (size : ℕ) (os : List ℕ) (w : ℕ) → w < (size + 3) / 4 → file.marks (desc size os).map w ≡ is_in (4 * w) os
marks_of size os w l =
    marks_is (map (λ k. is_in (4 * k) os) (range_with_len 0 ((size + 3) / 4))) w
    ∙ get_or-map-range_with_len (λ k. is_in (4 * k) os) 0 ((size + 3) / 4) w w false l (omega arith)

module _ (words : List Word) (at : ℕ) (r : Room) (whole : AreWhole words at r.size) (only : ReferOnlyThere words at r) where
  -- each word of a value that begins with one
  pub kind_of : ((o : ℕ) → Has r.references o → Refers words (at + o)) → at % 4 ≡ 0 → (j : ℕ) → 4 * j < r.size → (b : Bool)
      → is_in (4 * j) r.references ≡ b → Gives words (at / 4 + j) (as_marked b)
  kind_of refer even j l true e =
      let f = refer (4 * j) (among (4 * j) r.references e) in
      let g = word_found words (at + 4 * j) (Refer f.0) f.1 in
      let same : at / 4 + j ≡ (at + 4 * j) / 4 = omega (arith, even) in
      (Refer f.0, ap (slice_get words) same ∙ g.1, refl)
  kind_of refer even j l false e =
      let w = is_there words (at / 4 + j) (whole.0 (at / 4 + j) within) in go w.0 w.1
    where
      within : IsWithin at r.size (at / 4 + j)
      within = (omega (arith, even), omega (arith, even, l))

      go : (w : Word) → slice_get words (at / 4 + j) ≡ Some w → Gives words (at / 4 + j) (as_marked false)
      go (Plain z) f = (Plain z, f, refl)
      go (Address p n) f = (Address p n, f, refl)
      go (Refer s) f =
          let h = only (at / 4 + j) s f within in
          let same : h.0 ≡ 4 * j = let g = h.2 in omega (arith, even, g) in
          let g = is_among (4 * j) r.references (subst (λ (n : ℕ). Has r.references n) same h.1) in
          absurd cc

  -- each byte of a value that refers to nothing
  pub readable : BeginsPlain words at r.size → ((o : ℕ) → Has r.references o → ⊥) → (o : ℕ) → o < r.size → Readable words (at + o)
  readable begins none o l = go (low_or_high (4 * ((at + o) / 4)) at)
    where
      first : (4 * ((at + o) / 4) < at) → (at % 4 ≡ 0) ⊎ ((z : ℤ) × Reads (slice_get words (at / 4)) z) → Readable words (at + o)
      first h (inl e) = absurd (omega (arith, h, e))
      first h (inr z) =
          let same : (at + o) / 4 ≡ at / 4 = omega (arith, h) in
          (z.0, subst (λ (w : ℕ). Reads (slice_get words w) z.0) (sym same) z.1)

      go : (4 * ((at + o) / 4) < at) ⊎ (at ≤ 4 * ((at + o) / 4)) → Readable words (at + o)
      go (inl h) = first h (begins (omega (arith, l)))
      go (inr h) =
          let within : IsWithin at r.size ((at + o) / 4) = (h, omega (arith, l)) in
          let w = is_there words ((at + o) / 4) (whole.0 ((at + o) / 4) within) in
          reads_plain (slice_get words ((at + o) / 4)) w.0 w.1 (λ s e. let f = only ((at + o) / 4) s e within in none f.0 f.1)
