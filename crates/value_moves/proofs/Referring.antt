-- The words of a value at the offsets of its type's references refer.
use Rattle.std.proofs.Common.{◌≡◌, ℕ, ◌+◌, ◌⊎◌, pos, List, map, Option, refl, sym, ap, ◌∙◌, subst, arith, inl, inr}
use Rattle.std.specs.Int.{next_multiple_of}
use Rattle.limbo_types.specs.Types as ty
use Rattle.limbo_types.specs.Types.{Ty}
use Rattle.limbo_layout.specs.Adts as adts
use Rattle.limbo_layout.specs.Adts.{Def, Has, parts}
use Rattle.limbo_layout.specs.Layout as layout
use Rattle.limbo_layout.specs.Layout.{Room, Laid, AllLaid, is_alone, number, reference, nothing, behind, all_behind, in_order}
use Rattle.limbo_layout.proofs.Rooms.{one_room, has_cases}
use Rattle.limbo_typed.specs.Fitting.{of_kind}
use Rattle.limbo_meaning.specs.Values.{Value}
use Rattle.dis_meaning.specs.Words.{Word, Refer, Found, word_at}
use Rattle.value_words.specs.Facts.{Facts}
use Rattle.value_words.specs.Stands.{Stands, a_number, a_text, a_name, an_array, no_words, a_tuple, an_adt}
use Rattle.value_words.specs.Stands.{AllStand, none_stand, more_stand}
use Rattle.value_words.proofs.Aligned.{inside}
use Rattle.value_words.proofs.Blank.{mapped}
use Rattle.value_words.proofs.Carrying.{bytes_in, number_laid, reference_laid}
use Rattle.value_words.proofs.Covered.{behind_nothing}

abbrev pub Refers : List Word → (byte : ℕ) → Type 0
Refers words n = (s : Option ℕ) × (word_at words (pos n) ≡ Found (Refer s))

module _ (defs : List Def) (facts : Facts) (words : List Word) where
  -- the one word of a reference
  at_first : (at : ℕ) (r : Option ℕ) (room : Room) (o : ℕ) → reference ≡ room → Has room.references o
      → word_at words (pos at) ≡ Found (Refer r) → Refers words (at + o)
  at_first at r room o e h f = elim (subst (λ (z : Room). Has z.references o) (sym e) h) [
    | inl z ↦ let a : at + o ≡ at = omega arith in (r, ap (λ n. word_at words (pos n)) a ∙ f)
    | inr z ↦ absurd z
  ]

  mutual
    pub refers : (at : ℕ) (t : Ty) (room : Room) (v : Value) (o : ℕ) → Laid defs t room → Stands defs facts words at t v
        → Has room.references o → Refers words (at + o)
    refers _ _ room _ o l (a_number at k z e i) h =
        absurd (subst (λ (x : Room). Has x.references o) (one_room defs (of_kind k) room (number (bytes_in k)) l (number_laid defs k)) h)
    refers _ _ room _ o l (a_text at r s e i) h =
        at_first at r room o (one_room defs ty.Chars reference room (is_alone ty.Chars reference refl) l) h e
    refers _ _ room _ o l (a_name at t r n i e j) h =
        at_first at r room o (one_room defs t reference room (reference_laid defs t i) l) h e
    refers _ _ room _ o l (an_array at t r p e i) h =
        at_first at r room o (one_room defs (ty.ArrayOf t) reference room (is_alone (ty.ArrayOf t) reference refl) l) h e
    refers _ _ room _ o l (no_words at) h =
        absurd (subst (λ (x : Room). Has x.references o) (one_room defs ty.Nothing room nothing l (is_alone ty.Nothing nothing refl)) h)
    refers _ _ room _ o l (a_tuple at ts rs vs m all) h =
        behind_nothing defs facts words o (all_refer at nothing (adts.listed ts) rs vs o m all
        (subst (λ (x : Room). Has x.references o) (one_room defs (ty.Tuple ts) room (in_order rs) l (layout.of_tuple ts rs m)) h))
    refers _ _ room _ o l (an_adt at n d rs vs e m all) h =
        behind_nothing defs facts words o (all_refer at nothing (parts d) rs vs o m all
        (subst (λ (x : Room). Has x.references o) (one_room defs (ty.Adt n) room (in_order rs) l (layout.of_adt n d rs e m)) h))

    -- a word of parts is one of those before, or refers
    all_refer : (at : ℕ) (w : Room) (ts : List Ty) (rs : List Room) (vs : List Value) (o : ℕ) → AllLaid defs ts rs
        → AllStand defs facts words at w ts rs vs → Has (all_behind w rs).references o → Has w.references o ⊎ Refers words (at + o)
    all_refer _ _ _ _ _ o l (none_stand at w) h = inl h
    all_refer _ _ _ _ _ o l (more_stand at w t ts r rs v vs x y) h =
        let i = inside defs t ts r rs l in
        let off = next_multiple_of w.size r.align in
        elim (all_refer at (behind w r) ts rs vs o i.1 y h) [
          | inl j ↦ elim (has_cases w.references (map (λ p. off + p) r.references) o j) [
            | inl k ↦ inl k
            | inr k ↦
                let m = mapped (λ p. off + p) r.references o k in
                let e : at + off + m.0 ≡ at + o = let f = m.2 in omega arith in
                inr (subst (Refers words) e (refers (at + off) t r v m.0 i.0 x m.1))
          ]
          | inr j ↦ inr j
        ]
