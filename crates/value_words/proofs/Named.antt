-- The words at the offsets of a type's names stand for the names of its values, in order.
use Rattle.std.proofs.Common.{◌≡◌, ℕ, ◌+◌, ◌≤◌, pos, List, [], ◌∷◌, ◌++◌, length, map, Option, Some, None, refl, sym, ap, ◌∙◌}
use Rattle.std.proofs.Common.{subst, arith, inl, inr, length-append}
use Rattle.std.specs.Prelude.{slice_get}
use Rattle.std.specs.Int.{next_multiple_of}
use Rattle.limbo_types.specs.Types as ty
use Rattle.limbo_types.specs.Types.{Ty, Tys}
use Rattle.limbo_layout.specs.Adts as adts
use Rattle.limbo_layout.specs.Adts.{Def, parts}
use Rattle.limbo_layout.specs.Layout as layout
use Rattle.limbo_layout.specs.Layout.{Room, Laid, AllLaid, is_alone, reference, nothing, behind, all_behind, in_order}
use Rattle.limbo_layout.proofs.Rooms.{one_room, all_one, all_grow, rounded_grows}
use Rattle.limbo_values.specs.declared.number.Kind.{Kind}
use Rattle.limbo_values.specs.declared.number.Kind.TheVariants as kind
use Rattle.limbo_typed.specs.Fitting.{of_kind}
use Rattle.limbo_meaning.specs.Values as value
use Rattle.limbo_meaning.specs.Values.{Value, Ref, Array, Parts, row, listed, parts_of, fitted, all_fitted, references, references_in}
use Rattle.limbo_meaning.specs.Values.{array_named}
use Rattle.core_code.proofs.Whole.{values_are_whole}
use Rattle.core_code.proofs.Names.{row_references}
use Rattle.dis_meaning.specs.Words.{Word, Refer, Found, word_at}
use Rattle.value_words.specs.Forms.{Form, form_of}
use Rattle.value_words.specs.Facts.{Facts, IsName, IsPart, IsNamed}
use Rattle.value_words.specs.Stands.{IsReference, Stands, a_number, a_text, a_name, an_array, no_words, a_tuple, an_adt}
use Rattle.value_words.specs.Stands.{AllStand, none_stand, more_stand}
use Rattle.value_words.specs.Contents.{NamesAt, one_name, of_array, of_byte, of_int, of_big, of_text, of_nothing, of_tuple, of_adt}
use Rattle.value_words.specs.Contents.{AllNamesAt, none_names, more_names}
use Rattle.value_words.proofs.Aligned.{inside}
use Rattle.value_words.proofs.Carrying.{reference_laid}
use Rattle.value_words.proofs.Rows.{in_front, further, split, mapped_at, map_long, one_only}
use Rattle.value_words.proofs.Wholes.{stands_whole}

module _ (defs : List Def) where
  -- ---- what a type's names come from

  abbrev pub Inside : Ty → List ℕ → Type 0
  Inside (ty.Tuple ts) os = (rs : List Room) × AllLaid defs (adts.listed ts) rs × AllNamesAt defs nothing (adts.listed ts) rs os
  Inside (ty.Adt n) os =
      (d : Def) × (rs : List Room) × (slice_get defs n ≡ Some d) × AllLaid defs (parts d) rs × AllNamesAt defs nothing (parts d) rs os
  Inside ty.Byte os = os ≡ []
  Inside ty.Int os = os ≡ []
  Inside ty.Big os = os ≡ []
  Inside ty.Chars os = os ≡ []
  Inside ty.Nothing os = os ≡ []
  Inside t os = os ≡ 0 ∷ []

  one_inside : (t : Ty) → IsReference t → Inside t (0 ∷ [])
  one_inside ty.Nil h = refl
  one_inside (ty.ListOf t) h = refl
  one_inside (ty.ChanOf t) h = refl
  one_inside (ty.RefAdt n) h = refl
  one_inside (ty.RefPick n v) h = refl
  one_inside (ty.Module n) h = refl
  one_inside _ h = absurd h

  pub names_inside : (t : Ty) (os : List ℕ) → NamesAt defs t os → Inside t os
  names_inside _ _ (one_name t h) = one_inside t h
  names_inside _ _ (of_array t) = refl
  names_inside _ _ of_byte = refl
  names_inside _ _ of_int = refl
  names_inside _ _ of_big = refl
  names_inside _ _ of_text = refl
  names_inside _ _ of_nothing = refl
  names_inside _ _ (of_tuple ts rs os l all) = (rs, l, all)
  names_inside _ _ (of_adt n d rs os e l all) = (d, rs, e, l, all)

  pub at_first : (t : Ty) (os : List ℕ) → IsReference t → NamesAt defs t os → os ≡ 0 ∷ []
  at_first t os h n = go t h (names_inside t os n)
    where
      go : (t : Ty) → IsReference t → Inside t os → os ≡ 0 ∷ []
      go ty.Nil h i = i
      go (ty.ListOf t) h i = i
      go (ty.ChanOf t) h i = i
      go (ty.RefAdt n) h i = i
      go (ty.RefPick n v) h i = i
      go (ty.Module n) h i = i
      go _ h i = absurd h

  pub no_names : (k : Kind) (os : List ℕ) → NamesAt defs (of_kind k) os → os ≡ []
  no_names kind.Byte os n = names_inside ty.Byte os n
  no_names kind.Int os n = names_inside ty.Int os n
  no_names kind.Big os n = names_inside ty.Big os n

  pub tuple_names : (ts : Tys) (os : List ℕ) (rs : List Room) → AllLaid defs (adts.listed ts) rs → NamesAt defs (ty.Tuple ts) os
      → AllNamesAt defs nothing (adts.listed ts) rs os
  tuple_names ts os rs l n =
      let i = names_inside (ty.Tuple ts) os n in
      subst (λ (ss : List Room). AllNamesAt defs nothing (adts.listed ts) ss os) (all_one defs (adts.listed ts) i.0 rs i.1 l) i.2

  pub adt_names : (n : ℕ) (d : Def) (os : List ℕ) (rs : List Room) → slice_get defs n ≡ Some d → AllLaid defs (parts d) rs
      → NamesAt defs (ty.Adt n) os → AllNamesAt defs nothing (parts d) rs os
  adt_names n d os rs e l m =
      let i = names_inside (ty.Adt n) os m in
      let f : i.0 ≡ d = let g : slice_get defs n ≡ Some i.0 = i.2 in cc in
      let a = subst (λ (c : Def). AllLaid defs (parts c) i.1) f i.3 in
      let b = subst (λ (c : Def). AllNamesAt defs nothing (parts c) i.1 os) f i.4 in
      subst (λ (ss : List Room). AllNamesAt defs nothing (parts d) ss os) (all_one defs (parts d) i.1 rs a l) b

  -- ---- one part more

  pub record MoreNames (w : Room) (t : Ty) (ts : List Ty) (r : Room) (rs : List Room) (os : List ℕ) : Type 0 where
    pub first : List ℕ
    pub more : List ℕ
    pub named : NamesAt defs t first
    pub rest : AllNamesAt defs (behind w r) ts rs more
    pub is : os ≡ map (λ o. next_multiple_of w.size r.align + o) first ++ more

  more_inside : (w : Room) (us : List Ty) (ss : List Room) (os : List ℕ) → AllNamesAt defs w us ss os → (t : Ty) (ts : List Ty) (r : Room)
      (rs : List Room) → us ≡ t ∷ ts → ss ≡ r ∷ rs → MoreNames w t ts r rs os
  more_inside _ _ _ _ (none_names w) t ts r rs e f = absurd cc
  more_inside _ _ _ _ (more_names w u us s ss os more a b) t ts r rs e f =
      let p : t ≡ u = cc in
      let q : ts ≡ us = cc in
      let x : r ≡ s = cc in
      let y : rs ≡ ss = cc in
      subst (λ (z : Ty). MoreNames w z ts r rs (map (λ o. next_multiple_of w.size s.align + o) os ++ more)) (sym p)
      (subst (λ (z : List Ty). MoreNames w u z r rs (map (λ o. next_multiple_of w.size s.align + o) os ++ more)) (sym q)
      (subst (λ (z : Room). MoreNames w u us z rs (map (λ o. next_multiple_of w.size s.align + o) os ++ more)) (sym x)
      (subst (λ (z : List Room). MoreNames w u us s z (map (λ o. next_multiple_of w.size s.align + o) os ++ more)) (sym y)
      (record { first = os; more = more; named = a; rest = b; is = refl }))))

  pub names_more : (w : Room) (t : Ty) (ts : List Ty) (r : Room) (rs : List Room) (os : List ℕ) → AllNamesAt defs w (t ∷ ts) (r ∷ rs) os
      → MoreNames w t ts r rs os
  names_more w t ts r rs os n = more_inside w (t ∷ ts) (r ∷ rs) os n t ts r rs refl refl

  none_inside : (w : Room) (us : List Ty) (ss : List Room) (os : List ℕ) → AllNamesAt defs w us ss os → us ≡ [] → os ≡ []
  none_inside _ _ _ _ (none_names w) e = refl
  none_inside _ _ _ _ (more_names w u us s ss os more a b) e = absurd cc

  pub names_none : (w : Room) (os : List ℕ) → AllNamesAt defs w [] [] os → os ≡ []
  names_none w os n = none_inside w [] [] os n refl

  -- ---- as many as a value has

  one_counted : (t : Ty) (v : Value) → IsReference t → 1 ≡ length (references (fitted defs t v))
  one_counted ty.Nil v h = refl
  one_counted (ty.ListOf t) v h = refl
  one_counted (ty.ChanOf t) v h = refl
  one_counted (ty.RefAdt n) v h = refl
  one_counted (ty.RefPick n k) v h = refl
  one_counted (ty.Module n) v h = refl
  one_counted _ v h = absurd h

  mutual
    pub counted : (t : Ty) (os : List ℕ) (v : Value) → NamesAt defs t os → length os ≡ length (references (fitted defs t v))
    counted _ _ v (one_name t h) = one_counted t v h
    counted _ _ v (of_array t) = refl
    counted _ _ v of_byte = refl
    counted _ _ v of_int = refl
    counted _ _ v of_big = refl
    counted _ _ v of_text = refl
    counted _ _ v of_nothing = refl
    counted _ _ v (of_tuple ts rs os l all) =
        all_counted nothing (adts.listed ts) rs os (listed (parts_of v)) all
        ∙ ap (λ (ns : List (Option ℕ)). length ns) (sym (row_references (all_fitted defs (adts.listed ts) (listed (parts_of v)))))
        ∙ ap (λ (u : Value). length (references u)) (sym (values_are_whole.tuples defs ts v))
    counted _ _ v (of_adt n d rs os e l all) =
        all_counted nothing (parts d) rs os (listed (parts_of v)) all
        ∙ ap (λ (ns : List (Option ℕ)). length ns) (sym (row_references (all_fitted defs (parts d) (listed (parts_of v)))))
        ∙ ap (λ (u : Value). length (references u)) (sym (values_are_whole.adts defs n d (in_order rs) v (layout.of_adt n d rs e l) e))

    all_counted : (w : Room) (ts : List Ty) (rs : List Room) (os : List ℕ) (vs : List Value) → AllNamesAt defs w ts rs os
        → length os ≡ length (references_in (all_fitted defs ts vs))
    all_counted _ _ _ _ vs (none_names w) = refl
    all_counted _ _ _ _ [] (more_names w t ts r rs os more a b) =
        let f = map_long (λ o. next_multiple_of w.size r.align + o) os in
        let g = length-append (map (λ o. next_multiple_of w.size r.align + o) os) more in
        let h = length-append (references (fitted defs t value.nothing)) (references_in (all_fitted defs ts [])) in
        let i = counted t os value.nothing a in
        let j = all_counted (behind w r) ts rs more [] b in
        omega arith
    all_counted _ _ _ _ (v ∷ vs) (more_names w t ts r rs os more a b) =
        let f = map_long (λ o. next_multiple_of w.size r.align + o) os in
        let g = length-append (map (λ o. next_multiple_of w.size r.align + o) os) more in
        let h = length-append (references (fitted defs t v)) (references_in (all_fitted defs ts vs)) in
        let i = counted t os v a in
        let j = all_counted (behind w r) ts rs more vs b in
        omega arith

  -- ---- they lie in the room

  pub none_there : {A : Type 0} (os : List A) (k : ℕ) (o : A) → os ≡ [] → slice_get os k ≡ Some o → ⊥
  none_there [] k o e f = cc
  none_there (x ∷ os) k o e f = cc

  first_within : (t : Ty) (r : Room) (k o : ℕ) → Laid defs t r → Laid defs t reference → slice_get (0 ∷ []) k ≡ Some o → o + 4 ≤ r.size
  first_within t r k o l m e =
      let f = (one_only k o 0 e).1 in
      let g = ap (λ (z : Room). z.size) (one_room defs t r reference l m) in
      omega arith

  mutual
    pub names_within : (t : Ty) (os : List ℕ) (r : Room) (k o : ℕ) → NamesAt defs t os → Laid defs t r → slice_get os k ≡ Some o
        → o + 4 ≤ r.size
    names_within _ _ r k o (one_name t h) l e = first_within t r k o l (reference_laid defs t h) e
    names_within _ _ r k o (of_array t) l e = first_within (ty.ArrayOf t) r k o l (is_alone (ty.ArrayOf t) reference refl) e
    names_within _ _ r k o of_byte l e = absurd cc
    names_within _ _ r k o of_int l e = absurd cc
    names_within _ _ r k o of_big l e = absurd cc
    names_within _ _ r k o of_text l e = absurd cc
    names_within _ _ r k o of_nothing l e = absurd cc
    names_within _ _ r k o (of_tuple ts rs os m all) l e =
        let a = (all_within nothing (adts.listed ts) rs os k o all m e).1 in
        let b = rounded_grows (all_behind nothing rs) in
        let g = ap (λ (z : Room). z.size) (one_room defs (ty.Tuple ts) r (in_order rs) l (layout.of_tuple ts rs m)) in
        omega arith
    names_within _ _ r k o (of_adt n d rs os f m all) l e =
        let a = (all_within nothing (parts d) rs os k o all m e).1 in
        let b = rounded_grows (all_behind nothing rs) in
        let g = ap (λ (z : Room). z.size) (one_room defs (ty.Adt n) r (in_order rs) l (layout.of_adt n d rs f m)) in
        omega arith

    pub all_within : (w : Room) (ts : List Ty) (rs : List Room) (os : List ℕ) (k o : ℕ) → AllNamesAt defs w ts rs os → AllLaid defs ts rs
        → slice_get os k ≡ Some o → (w.size ≤ o) × (o + 4 ≤ (all_behind w rs).size)
    all_within _ _ _ _ k o (none_names w) l e = absurd cc
    all_within _ _ _ _ k o (more_names w t ts r rs os more a b) l e =
        let i = inside defs t ts r rs l in
        let off = next_multiple_of w.size r.align in
        elim (split (map (λ o. off + o) os) more k o e) [
          | inl f ↦
              let m = mapped_at (λ o. off + o) os k o f in
              let p = names_within t os r k m.0 a i.0 m.1 in
              let q = all_grow (behind w r) rs in
              let s = m.2 in
              (omega arith, omega arith)
          | inr f ↦
              let p = all_within (behind w r) ts rs more f.behind o b i.1 f.at in
              let q = p.0 in
              let s = p.1 in
              (omega arith, omega arith)
        ]

  -- ---- names stand where they are to

  module _ (facts : Facts) (words : List Word) where
    -- Such a word, and the reference that it stands for.
    pub record StandsFor (at o : ℕ) (ns : List (Option ℕ)) (k : ℕ) : Type 0 where
      pub name : Option ℕ
      pub block : Option ℕ
      pub among : slice_get ns k ≡ Some name
      pub word : word_at words (pos (at + o)) ≡ Found (Refer block)
      pub is : IsNamed facts block name

    named_so : (asked : Option Form) (r n : Option ℕ) → IsName facts asked r n → IsNamed facts r n
    named_so asked None None h = tt
    named_so asked None (Some n) h = absurd h
    named_so asked (Some b) None h = absurd h
    named_so None (Some b) (Some n) h = absurd h
    named_so (Some f) (Some b) (Some n) h = inl h.fact

    part_so : (t : Ty) (r : Option ℕ) (p : Option value.Part) → IsPart facts t r p → IsNamed facts r (array_named p)
    part_so t None None h = tt
    part_so t None (Some p) h = absurd h
    part_so t (Some b) None h = absurd h
    part_so t (Some b) (Some p) (inl h) = inl h.0.fact
    part_so t (Some b) (Some p) (inr h) = inr (p.start, (p.long, h.0))

    one_there : (at : ℕ) (r n : Option ℕ) (os : List ℕ) (k o : ℕ) → os ≡ 0 ∷ [] → word_at words (pos at) ≡ Found (Refer r)
        → IsNamed facts r n → slice_get os k ≡ Some o → StandsFor at o (n ∷ []) k
    one_there at r n os k o e f h g =
        let i = one_only k o 0 (ap (λ (xs : List ℕ). slice_get xs k) (sym e) ∙ g) in
        let a : at + o ≡ at = let j = i.1 in omega arith in
        record {
          name = n;
          block = r;
          among = ap (λ j. slice_get (n ∷ []) j) i.0;
          word = ap (λ j. word_at words (pos j)) a ∙ f;
          is = h;
        }

    mutual
      pub names_there : (at : ℕ) (t : Ty) (v : Value) (os : List ℕ) (k o : ℕ) → Stands defs facts words at t v → NamesAt defs t os
          → slice_get os k ≡ Some o → StandsFor at o (references v) k
      names_there _ _ _ os k o (a_number at j z e i) n f = absurd (none_there os k o (no_names j os n) f)
      names_there _ _ _ os k o (a_text at r s e h) n f = absurd (none_there os k o (names_inside ty.Chars os n) f)
      names_there _ _ _ os k o (a_name at t r m i e h) n f = one_there at r m os k o (at_first t os i n) e (named_so (form_of t) r m h) f
      names_there _ _ _ os k o (an_array at t r p e h) n f =
          one_there at r (array_named p) os k o (names_inside (ty.ArrayOf t) os n) e (part_so t r p h) f
      names_there _ _ _ os k o (no_words at) n f = absurd (none_there os k o (names_inside ty.Nothing os n) f)
      names_there _ _ _ os k o (a_tuple at ts rs vs l all) n f =
          subst (λ (ns : List (Option ℕ)). StandsFor at o ns k) (sym (row_references vs))
          (all_there at nothing (adts.listed ts) rs vs os k o all (tuple_names ts os rs l n) f)
      names_there _ _ _ os k o (an_adt at m d rs vs e l all) n f =
          subst (λ (ns : List (Option ℕ)). StandsFor at o ns k) (sym (row_references vs))
          (all_there at nothing (parts d) rs vs os k o all (adt_names m d os rs e l n) f)

      pub all_there : (at : ℕ) (w : Room) (ts : List Ty) (rs : List Room) (vs : List Value) (os : List ℕ) (k o : ℕ)
          → AllStand defs facts words at w ts rs vs → AllNamesAt defs w ts rs os → slice_get os k ≡ Some o
          → StandsFor at o (references_in vs) k
      all_there _ _ _ _ _ os k o (none_stand at w) n f = absurd (none_there os k o (names_none w os n) f)
      all_there _ _ _ _ _ os k o (more_stand at w t ts r rs v vs a b) n f =
          let m = names_more w t ts r rs os n in
          let off = next_multiple_of w.size r.align in
          let long = counted t m.first v m.named
          ∙ sym (ap (λ (u : Value). length (references u)) (stands_whole defs facts words _ t v a)) in
          elim (split (map (λ o. off + o) m.first) m.more k o (ap (λ (xs : List ℕ). slice_get xs k) (sym m.is) ∙ f)) [
            | inl g ↦
                let x = mapped_at (λ o. off + o) m.first k o g in
                let s = names_there (at + off) t v m.first k x.0 a m.named x.1 in
                let e : at + o ≡ at + off + x.0 = let y = x.2 in omega arith in
                record {
                  name = s.name;
                  block = s.block;
                  among = in_front (references v) (references_in vs) k s.name s.among;
                  word = ap (λ j. word_at words (pos j)) e ∙ s.word;
                  is = s.is;
                }
            | inr g ↦
                let s = all_there at (behind w r) ts rs vs m.more g.behind o b m.rest g.at in
                let e = map_long (λ o. off + o) m.first in
                let h = g.is in
                record {
                  name = s.name;
                  block = s.block;
                  among = further (references v) (references_in vs) g.behind k s.name (omega arith) s.among;
                  word = s.word;
                  is = s.is;
                }
          ]
