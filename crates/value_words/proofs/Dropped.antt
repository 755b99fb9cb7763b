-- A word that comes to refer to nothing takes its reference from the value.
use Rattle.std.proofs.Common.{◌≡◌, ℕ, ◌+◌, ◌-◌, ◌<◌, ◌≤◌, pos, ◌%◌, ◌/◌, Bool, true, false, List, [], ◌∷◌, length, map}
use Rattle.std.proofs.Common.{Option, Some, None, refl, sym, ap, ◌∙◌, subst, arith, inl, inr}
use Rattle.std.specs.Prelude.{slice_get, slice_set, nat_lt, if◌then◌else◌}
use Rattle.std.specs.Int.{next_multiple_of}
use Rattle.std.proofs.lemmas.Bool.{lt-ltb, le-ltb}
use Rattle.limbo_types.specs.Types as ty
use Rattle.limbo_types.specs.Types.{Ty, Tys}
use Rattle.limbo_layout.specs.Adts as adts
use Rattle.limbo_layout.specs.Adts.{Def, parts}
use Rattle.limbo_layout.specs.Layout.{Room, AllLaid, nothing, behind}
use Rattle.limbo_meaning.specs.Values.{Value, Values, MoreValues, Ref, Array, Parts, row, references}
use Rattle.core_code.specs.Slots.{without, all_without}
use Rattle.dis_meaning.specs.Words.{Word, Refer, Found, word_at}
use Rattle.value_words.specs.Facts.{Facts}
use Rattle.value_words.specs.Stands.{Stands, a_number, a_text, a_name, an_array, no_words, a_tuple, an_adt}
use Rattle.value_words.specs.Stands.{AllStand, none_stand, more_stand}
use Rattle.value_words.specs.Contents.{NamesAt, AllNamesAt}
use Rattle.value_words.proofs.Aligned.{inside}
use Rattle.value_words.proofs.Bytes.{word_found, word_there}
use Rattle.value_words.proofs.Kept.{Stay, kept}
use Rattle.value_words.proofs.Named.{none_there, no_names, names_inside, at_first, tuple_names, adt_names, names_more, names_none, counted}
use Rattle.value_words.proofs.Named.{names_within, all_within, all_there}
use Rattle.value_words.proofs.Rows.{below, split, mapped_at, map_long, one_only, set_other, set_same}
use Rattle.value_words.proofs.Wholes.{stands_whole}

-- ---- rows of values without one of their references

abbrev pub row_without : ℕ → List Value → List Value
row_without k [] = []
row_without k (v ∷ vs) =
    if nat_lt k (length (references v)) then without k v ∷ vs else v ∷ row_without (k - length (references v)) vs

pub without_row : (k : ℕ) (vs : List Value) → all_without k (row vs) ≡ row (row_without k vs)
without_row k [] = refl
without_row k (v ∷ vs) = go (nat_lt k (length (references v))) (without_row (k - length (references v)) vs)
  where
    go : (b : Bool) → all_without (k - length (references v)) (row vs) ≡ row (row_without (k - length (references v)) vs)
        → (if b then MoreValues (without k v) (row vs) else MoreValues v (all_without (k - length (references v)) (row vs)))
        ≡ row (if b then without k v ∷ vs else v ∷ row_without (k - length (references v)) vs)
    go true e = refl
    go false e = ap (λ (us : Values). MoreValues v us) e

first_without : (k : ℕ) (v : Value) (vs : List Value) → k < length (references v) → row_without k (v ∷ vs) ≡ without k v ∷ vs
first_without k v vs l =
    ap (λ (b : Bool). if b then without k v ∷ vs else v ∷ row_without (k - length (references v)) vs)
    (lt-ltb k (length (references v)) l)

later_without : (k j : ℕ) (v : Value) (vs : List Value) → k ≡ length (references v) + j → row_without k (v ∷ vs) ≡ v ∷ row_without j vs
later_without k j v vs e =
    let f : k - length (references v) ≡ j = omega arith in
    ap (λ (b : Bool). if b then without k v ∷ vs else v ∷ row_without (k - length (references v)) vs)
    (le-ltb k (length (references v)) (omega arith))
    ∙ ap (λ (n : ℕ). v ∷ row_without n vs) f

module _ (defs : List Def) (facts : Facts) (words : List Word) where
  abbrev cut : ℕ → List Word
  cut at = slice_set words (at / 4) (Refer None)

  -- bytes of other words stay
  stays : (at size at_word : ℕ) → ((o : ℕ) → o < size → (at + o) / 4 ≡ at_word / 4 → ⊥) → Stay words (cut at_word) at size
  stays at size b h o l = set_other words (b / 4) ((at + o) / 4) (Refer None) (h o l)

  cut_there : (at o : ℕ) (r : Option ℕ) → at + o ≡ at → word_at words (pos at) ≡ Found (Refer r)
      → word_at (cut (at + o)) (pos at) ≡ Found (Refer None)
  cut_there at o r e f =
      let g = word_found words at (Refer r) f in
      subst (λ (n : ℕ). word_at (cut n) (pos at) ≡ Found (Refer None)) (sym e)
      (word_there (cut at) at (Refer None) g.0 (set_same words (at / 4) (Refer None) (Refer r) g.1))

  mutual
    pub stands_without : (at : ℕ) (t : Ty) (v : Value) (os : List ℕ) (k o : ℕ) → Stands defs facts words at t v → NamesAt defs t os
        → slice_get os k ≡ Some o → Stands defs facts (cut (at + o)) at t (without k v)
    stands_without _ _ _ os k o (a_number at j z e i) n f = absurd (none_there defs os k o (no_names defs j os n) f)
    stands_without _ _ _ os k o (a_text at r s e h) n f = absurd (none_there defs os k o (names_inside defs ty.Chars os n) f)
    stands_without _ _ _ os k o (a_name at t r m i e h) n f =
        let x = one_only k o 0 (ap (λ (xs : List ℕ). slice_get xs k) (sym (at_first defs t os i n)) ∙ f) in
        subst (λ (j : ℕ). Stands defs facts (cut (at + o)) at t (without j (Ref m))) (sym x.0)
        (a_name at t None None i (cut_there at o r (let y = x.1 in omega arith) e) tt)
    stands_without _ _ _ os k o (an_array at t r p e h) n f =
        let x = one_only k o 0 (ap (λ (xs : List ℕ). slice_get xs k) (sym (names_inside defs (ty.ArrayOf t) os n)) ∙ f) in
        subst (λ (j : ℕ). Stands defs facts (cut (at + o)) at (ty.ArrayOf t) (without j (Array p))) (sym x.0)
        (an_array at t None None (cut_there at o r (let y = x.1 in omega arith) e) tt)
    stands_without _ _ _ os k o (no_words at) n f = absurd (none_there defs os k o (names_inside defs ty.Nothing os n) f)
    stands_without _ _ _ os k o (a_tuple at ts rs vs l all) n f =
        subst (λ (us : Values). Stands defs facts (cut (at + o)) at (ty.Tuple ts) (Parts us)) (sym (without_row k vs))
        (a_tuple at ts rs (row_without k vs) l
        (all_stand_without at nothing (adts.listed ts) rs vs os k o all l (tuple_names defs ts os rs l n) f))
    stands_without _ _ _ os k o (an_adt at m d rs vs e l all) n f =
        subst (λ (us : Values). Stands defs facts (cut (at + o)) at (ty.Adt m) (Parts us)) (sym (without_row k vs))
        (an_adt at m d rs (row_without k vs) e l
        (all_stand_without at nothing (parts d) rs vs os k o all l (adt_names defs m d os rs e l n) f))

    all_stand_without : (at : ℕ) (w : Room) (ts : List Ty) (rs : List Room) (vs : List Value) (os : List ℕ) (k o : ℕ)
        → AllStand defs facts words at w ts rs vs → AllLaid defs ts rs → AllNamesAt defs w ts rs os → slice_get os k ≡ Some o
        → AllStand defs facts (cut (at + o)) at w ts rs (row_without k vs)
    all_stand_without _ _ _ _ _ os k o (none_stand at w) l n f = absurd (none_there defs os k o (names_none defs w os n) f)
    all_stand_without _ _ _ _ _ os k o (more_stand at w t ts r rs v vs a b) l n f =
        let m = names_more defs w t ts r rs os n in
        let i = inside defs t ts r rs l in
        let off = next_multiple_of w.size r.align in
        let long = counted defs t m.first v m.named
        ∙ sym (ap (λ (u : Value). length (references u)) (stands_whole defs facts words _ t v a)) in
        let even = (word_found words (at + o) _ (all_there defs facts words at w (t ∷ ts) (r ∷ rs) (v ∷ vs) os k o
        (more_stand at w t ts r rs v vs a b) n f).word).0 in
        elim (split (map (λ o. off + o) m.first) m.more k o (ap (λ (xs : List ℕ). slice_get xs k) (sym m.is) ∙ f)) [
          | inl g ↦
              let x = mapped_at (λ o. off + o) m.first k o g in
              let e : at + off + x.0 ≡ at + o = let y = x.2 in omega arith in
              let s = stands_without (at + off) t v m.first k x.0 a m.named x.1 in
              let inner = names_within defs t m.first r k x.0 m.named i.0 x.1 in
              let z = below m.first k x.0 x.1 in
              subst (λ (us : List Value). AllStand defs facts (cut (at + o)) at w (t ∷ ts) (r ∷ rs) us)
              (sym (first_without k v vs (omega arith)))
              (more_stand at w t ts r rs (without k v) vs
              (subst (λ (j : ℕ). Stands defs facts (cut j) (at + off) t (without k v)) e s)
              (all_kept at o (behind w r) ts rs vs even (let y = x.2 in omega arith) i.1 b))
          | inr g ↦
              let s = all_stand_without at (behind w r) ts rs vs m.more g.behind o b i.1 m.rest g.at in
              let e = map_long (λ o. off + o) m.first in
              let h = g.is in
              let y = (all_within defs (behind w r) ts rs m.more g.behind o m.rest i.1 g.at).0 in
              subst (λ (us : List Value). AllStand defs facts (cut (at + o)) at w (t ∷ ts) (r ∷ rs) us)
              (sym (later_without k g.behind v vs (omega arith)))
              (more_stand at w t ts r rs v (row_without g.behind vs)
              (kept words (cut (at + o)) defs facts (at + off) t r v i.0
              (stays (at + off) r.size (at + o) (λ q c d. omega arith)) a)
              s)
        ]

    -- parts behind the word
    all_kept : (at o : ℕ) (w : Room) (ts : List Ty) (rs : List Room) (vs : List Value) → (at + o) % 4 ≡ 0 → o + 4 ≤ w.size
        → AllLaid defs ts rs → AllStand defs facts words at w ts rs vs → AllStand defs facts (cut (at + o)) at w ts rs vs
    all_kept _ o _ _ _ _ e f l (none_stand at w) = none_stand at w
    all_kept _ o _ _ _ _ e f l (more_stand at w t ts r rs v vs a b) =
        let i = inside defs t ts r rs l in
        let off = next_multiple_of w.size r.align in
        more_stand at w t ts r rs v vs
        (kept words (cut (at + o)) defs facts (at + off) t r v i.0
        (stays (at + off) r.size (at + o) (λ q c d. omega arith)) a)
        (all_kept at o (behind w r) ts rs vs e (omega arith) i.1 b)
