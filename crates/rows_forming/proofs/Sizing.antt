-- The word of a frame's linkage in which a number is on its way.
use Rattle.std.proofs.Common.{◌≡◌, ℕ, pos, ◌+◌, ◌*◌, ◌≤◌, List, ◌∷◌, map, Option, Some, refl, ap, ◌∙◌, arith, inl, inr}
use Rattle.std.proofs.Common.{subst}
use Rattle.std.proofs.lemmas.Int.{ints}
use Rattle.std.specs.List.{range_with_len}
use Rattle.limbo_types.specs.Types.{Ty}
use Rattle.limbo_layout.specs.Adts.{Def, Has}
use Rattle.limbo_layout.specs.Layout.{limit}
use Rattle.limbo_layout.proofs.Rooms.{has_cases}
use Rattle.limbo_values.specs.declared.number.Kind.TheVariants as kind
use Rattle.limbo_values.specs.Numbers.{InRange}
use Rattle.dis_meaning.specs.Words.{Word, Plain, Refer, Address, Access, plain, Found, ◌>>=◌, word_at}
use Rattle.value_words.proofs.Blank.{mapped}
use Rattle.value_words.proofs.Bytes.{word_there}
use Rattle.value_words.proofs.Rows.{is_there}
use Rattle.value_frames.specs.Frames.{passing_place, linkage_bytes, spare_place, reference_place, row_of, frame_bytes, frame_references}
use Rattle.value_frames.specs.Types.{AreOf}

is_plain : (w : Word) → ((r : Option ℕ) → w ≡ Refer r → ⊥) → plain w ≡ Found w
is_plain (Plain z) none = refl
is_plain (Refer r) none = absurd (none r refl)
is_plain (Address place to) none = refl

module _ (defs : List Def) (types : List Ty) (n : ℕ) (words : List Word) (are : AreOf (frame_bytes defs types n) (frame_references defs types n) words) where
  past_linkage : (o : ℕ) → Has (frame_references defs types n) o → linkage_bytes ≤ o
  past_linkage o h = elim (has_cases (map (λ o. linkage_bytes + o) (row_of defs types).references)
      (spare_place defs types ∷ map (λ s. reference_place defs types s) (range_with_len 0 n)) o h) [
        | inl i ↦ let a = mapped (λ o. linkage_bytes + o) (row_of defs types).references o i in let e = a.2 in omega (arith, e)
        | inr (inl e) ↦ omega (arith, e)
        | inr (inr i) ↦ let a = mapped (λ s. reference_place defs types s) (range_with_len 0 n) o i in let e = a.2 in omega (arith, e)
      ]

  -- the word there
  pub passing_word : (old : Word) × (word_at words (pos passing_place) >>= plain ≡ Found old)
  passing_word =
      let many = are.many in
      let old = is_there words 5 (omega (arith, many)) in
      let none : (r : Option ℕ) → old.0 ≡ Refer r → ⊥ = λ r e.
      (let p = past_linkage (4 * 5) (are.only 5 r (old.1 ∙ ap (λ (v : Word). Some v) e)) in absurd (omega (arith, p))) in (
        old.0,
        ap (λ (o : Access Word). o >>= plain) (word_there words passing_place old.0 (omega arith) old.1) ∙ is_plain old.0 none,
      )

pub small_range : (n : ℕ) (z : _) → n ≤ limit → Plain (pos n) ≡ Plain z → InRange kind.Int z
small_range n z l e =
    let same : pos n ≡ z = cc in
    subst (InRange kind.Int) same (record { above = omega (arith, ints); below = omega (arith, ints, l) })
