-- Words of a type stay of it where others refer where they did.
use Rattle.std.proofs.Common.{◌≡◌, ℕ, ◌/◌, List, length, Some, sym, ◌∙◌, ap, inl, inr}
use Rattle.std.specs.Prelude.{slice_get, slice_set}
use Rattle.std.proofs.lemmas.Bool.Decides.{eqb_tells}
use Rattle.dis_meaning.specs.Words.{Word, Plain, Refer}
use Rattle.value_words.specs.Contents.{AreInRange}
use Rattle.value_words.proofs.Rows.{set_other, set_same}
use Rattle.value_frames.specs.Types.{AreOf}
use Rattle.value_frames.specs.Replacing.{MayReplace, ReferAlike, KindsStay}
use Rattle.value_frames.proofs.Slots.{put_long}

module _ (size : ℕ) (offsets : List ℕ) (words : List Word) where
  all_stay : (others : List Word) → AreOf size offsets words → length others ≡ length words → ReferAlike others words
      → ReferAlike words others → AreInRange others → AreOf size offsets others
  all_stay others are long back on ranged = record {
    many = long ∙ are.many;
    ranged = ranged;
    refer = λ o h. let r = are.refer o h in on (o / 4) r.0 r.1;
    only = λ w r e. let s = back w r e in are.only w s.0 s.1;
  }

  module _ (w : ℕ) (old new : Word) (are : AreOf size offsets words) (there : slice_get words w ≡ Some old)
      (may : MayReplace old new) where
    abbrev others : List Word
    others = slice_set words w new

    now : (v : Word) → slice_get others w ≡ Some v → new ≡ v
    now v e = let f = set_same words w new old there in cc

    was : (v : Word) → slice_get words w ≡ Some v → old ≡ v
    was v e = cc

    back : ReferAlike others words
    back j r e = elim (eqb_tells j w) [
      | inl y ↦ elim may [
        | inl both ↦ (both.0.0, ap (slice_get words) y.1 ∙ there ∙ ap Some both.0.1)
        | inr none ↦ absurd (none.1 (r, now (Refer r) (ap (slice_get others) (sym y.1) ∙ e)))
      ]
      | inr y ↦ (r, sym (set_other words w j new y.1) ∙ e)
    ]

    on : ReferAlike words others
    on j r e = elim (eqb_tells j w) [
      | inl y ↦ elim may [
        | inl both ↦ (both.1.0, ap (slice_get others) y.1 ∙ set_same words w new old there ∙ ap Some both.1.1)
        | inr none ↦ absurd (none.0 (r, was (Refer r) (ap (slice_get words) (sym y.1) ∙ e)))
      ]
      | inr y ↦ (r, set_other words w j new y.1 ∙ e)
    ]

    ranged : AreInRange others
    ranged j z e = elim (eqb_tells j w) [
      | inl y ↦
          let f = now (Plain z) (ap (slice_get others) (sym y.1) ∙ e) in
          elim may [
            | inl both ↦ let g = both.1.1 in absurd (let h : Refer both.1.0 ≡ Plain z = sym g ∙ f in cc)
            | inr none ↦ none.2 z f
          ]
      | inr y ↦ are.ranged j z (sym (set_other words w j new y.1) ∙ e)
    ]

    set_stays : AreOf size offsets others
    set_stays = all_stay others are (put_long words w new) back on ranged

pub kinds_stay : KindsStay
kinds_stay = record {
  set = λ size offsets words w old new are there may. set_stays size offsets words w old new are there may;
  all = λ size offsets words others are long back on ranged. all_stay size offsets words others are long back on ranged;
}
