-- Each word that refers, of those at the offsets of a type's room, stands for a name of the value or for a string in it.
use Rattle.std.proofs.Common.{◌≡◌, ℕ, ◌+◌, ◌⊎◌, pos, Bool, true, List, [], ◌∷◌, map, Option, Some, None, refl, sym, ap, ◌∙◌, subst}
use Rattle.std.proofs.Common.{arith, inl, inr}
use Rattle.std.proofs.lemmas.Bool.Decides.{eqb_tells}
use Rattle.std.specs.Int.{next_multiple_of}
use Rattle.std.specs.Prelude.{nat_eq, if◌then◌else◌}
use Rattle.limbo_types.specs.Types as ty
use Rattle.limbo_types.specs.Types.{Ty, Tys}
use Rattle.limbo_layout.specs.Adts as adts
use Rattle.limbo_layout.specs.Adts.{Def, Has, parts}
use Rattle.limbo_layout.specs.Layout as layout
use Rattle.limbo_layout.specs.Layout.{Room, Laid, AllLaid, is_alone, number, reference, nothing, behind, all_behind, in_order}
use Rattle.limbo_layout.proofs.Rooms.{one_room, has_cases}
use Rattle.limbo_typed.specs.Fitting.{of_kind}
use Rattle.limbo_meaning.specs.Values as value
use Rattle.limbo_meaning.specs.Values.{Value, references, references_in, array_named}
use Rattle.limbo_meaning.specs.Origins.{Name}
use Rattle.limbo_meaning.proofs.Names as names
use Rattle.core_code.proofs.Names.{row_references}
use Rattle.dis_meaning.specs.Words.{Word, Refer, Found, word_at}
use Rattle.value_words.specs.Forms.{Form, form_of}
use Rattle.value_words.specs.Facts.{Facts, IsName, IsPart, IsNamed, IsText}
use Rattle.value_words.specs.Stands.{Stands, a_number, a_text, a_name, an_array, no_words, a_tuple, an_adt}
use Rattle.value_words.specs.Stands.{AllStand, none_stand, more_stand}
use Rattle.value_words.proofs.Aligned.{inside}
use Rattle.value_words.proofs.Blank.{mapped}
use Rattle.value_words.proofs.Carrying.{bytes_in, number_laid, reference_laid}

pub same_names : (n : ℕ) → nat_eq n n ≡ true
same_names n = elim (eqb_tells n n) [ inl y ↦ y.0 | inr y ↦ absurd (y.1 refl) ]

pub names_it : (n : ℕ) → Name (Some n ∷ []) n
names_it n = let e : value.one n (Some n) ≡ 1 = ap (λ (b : Bool). if b then 1 else 0) (same_names n) in omega arith

-- A reference to this block stands for one of these names, or for a string.
abbrev pub IsCovered : (facts : Facts) → List (Option ℕ) → (block : ℕ) → Type 0
IsCovered facts ns b = ((n : ℕ) × Name ns n × IsNamed facts (Some b) (Some n)) ⊎ ((text : List ℕ) × IsText facts (Some b) text)

module _ (defs : List Def) (facts : Facts) (words : List Word) where
  more_covered : (ns ms : List (Option ℕ)) (b : ℕ) → names.Sub ns ms → IsCovered facts ns b → IsCovered facts ms b
  more_covered ns ms b s (inl h) = inl (h.0, s h.0 h.1, h.2)
  more_covered ns ms b s (inr h) = inr h

  by_name : (asked : Option Form) (r n : Option ℕ) (b : ℕ) → r ≡ Some b → IsName facts asked r n → IsCovered facts (n ∷ []) b
  by_name asked None n b e h = absurd cc
  by_name asked (Some c) None b e h = absurd h
  by_name None (Some c) (Some n) b e h = absurd h
  by_name (Some form) (Some c) (Some n) b e h =
      let f : c ≡ b = cc in
      subst (λ (d : ℕ). IsCovered facts (Some n ∷ []) d) f (inl (n, names_it n, inl h.fact))

  by_part : (t : Ty) (r : Option ℕ) (p : Option value.Part) (b : ℕ) → r ≡ Some b → IsPart facts t r p
      → IsCovered facts (array_named p ∷ []) b
  by_part t None p b e h = absurd cc
  by_part t (Some c) None b e h = absurd h
  by_part t (Some c) (Some p) b e h =
      let f : c ≡ b = cc in
      subst (λ (d : ℕ). IsCovered facts (Some p.array ∷ []) d) f (inl (p.array, names_it p.array, named h))
    where
      named : IsPart facts t (Some c) (Some p) → IsNamed facts (Some c) (Some p.array)
      named (inl i) = inl i.0.fact
      named (inr i) = inr (p.start, (p.long, i.0))

  by_text : (r : Option ℕ) (s : List ℕ) (b : ℕ) → r ≡ Some b → IsText facts r s → IsCovered facts [] b
  by_text r s b e h = inr (s, subst (λ (q : Option ℕ). IsText facts q s) e h)

  -- the one word of a reference
  at_first : (at : ℕ) (r : Option ℕ) (room : Room) (o b : ℕ) → reference ≡ room → Has room.references o
      → word_at words (pos at) ≡ Found (Refer r) → word_at words (pos (at + o)) ≡ Found (Refer (Some b)) → r ≡ Some b
  at_first at r room o b e h f g = elim (subst (λ (z : Room). Has z.references o) (sym e) h) [
    | inl z ↦
        let a : at + o ≡ at = omega arith in
        let same : Found (Refer r) ≡ Found (Refer (Some b)) = sym f ∙ sym (ap (λ n. word_at words (pos n)) a) ∙ g in
        cc
    | inr z ↦ absurd z
  ]

  pub behind_nothing : {A : Type 0} (o : ℕ) → Has nothing.references o ⊎ A → A
  behind_nothing o (inl h) = absurd h
  behind_nothing o (inr h) = h

  mutual
    pub covered : (at : ℕ) (t : Ty) (room : Room) (v : Value) (o b : ℕ) → Laid defs t room → Stands defs facts words at t v
        → Has room.references o → word_at words (pos (at + o)) ≡ Found (Refer (Some b)) → IsCovered facts (references v) b
    covered _ _ room _ o b l (a_number at k z e i) h g =
        absurd (subst (λ (x : Room). Has x.references o) (one_room defs (of_kind k) room (number (bytes_in k)) l (number_laid defs k)) h)
    covered _ _ room _ o b l (a_text at r s e i) h g =
        by_text r s b (at_first at r room o b (one_room defs ty.Chars reference room (is_alone ty.Chars reference refl) l) h e g) i
    covered _ _ room _ o b l (a_name at t r n i e j) h g =
        by_name (form_of t) r n b (at_first at r room o b (one_room defs t reference room (reference_laid defs t i) l) h e g) j
    covered _ _ room _ o b l (an_array at t r p e i) h g =
        by_part t r p b
        (at_first at r room o b (one_room defs (ty.ArrayOf t) reference room (is_alone (ty.ArrayOf t) reference refl) l) h e g) i
    covered _ _ room _ o b l (no_words at) h g =
        absurd (subst (λ (x : Room). Has x.references o) (one_room defs ty.Nothing room nothing l (is_alone ty.Nothing nothing refl)) h)
    covered _ _ room _ o b l (a_tuple at ts rs vs m all) h g =
        subst (λ (ns : List (Option ℕ)). IsCovered facts ns b) (sym (row_references vs))
        (behind_nothing o (all_covered at nothing (adts.listed ts) rs vs o b m all
        (subst (λ (x : Room). Has x.references o) (one_room defs (ty.Tuple ts) room (in_order rs) l (layout.of_tuple ts rs m)) h) g))
    covered _ _ room _ o b l (an_adt at n d rs vs e m all) h g =
        subst (λ (ns : List (Option ℕ)). IsCovered facts ns b) (sym (row_references vs))
        (behind_nothing o (all_covered at nothing (parts d) rs vs o b m all
        (subst (λ (x : Room). Has x.references o) (one_room defs (ty.Adt n) room (in_order rs) l (layout.of_adt n d rs e m)) h) g))

    -- a word of parts is one of those before, or is covered
    pub all_covered : (at : ℕ) (w : Room) (ts : List Ty) (rs : List Room) (vs : List Value) (o b : ℕ) → AllLaid defs ts rs
        → AllStand defs facts words at w ts rs vs → Has (all_behind w rs).references o
        → word_at words (pos (at + o)) ≡ Found (Refer (Some b)) → Has w.references o ⊎ IsCovered facts (references_in vs) b
    all_covered _ _ _ _ _ o b l (none_stand at w) h g = inl h
    all_covered _ _ _ _ _ o b l (more_stand at w t ts r rs v vs x y) h g =
        let i = inside defs t ts r rs l in
        let off = next_multiple_of w.size r.align in
        elim (all_covered at (behind w r) ts rs vs o b i.1 y h g) [
          | inl j ↦ elim (has_cases w.references (map (λ p. off + p) r.references) o j) [
            | inl k ↦ inl k
            | inr k ↦
                let m = mapped (λ p. off + p) r.references o k in
                let e : at + o ≡ at + off + m.0 = let f = m.2 in omega arith in
                inr (more_covered (references v) (references_in (v ∷ vs)) b (names.left (references v) (references_in vs))
                (covered (at + off) t r v m.0 b i.0 x m.1 (ap (λ n. word_at words (pos n)) (sym e) ∙ g)))
          ]
          | inr j ↦ inr (more_covered (references_in vs) (references_in (v ∷ vs)) b (names.right (references v) (references_in vs)) j)
        ]
