-- What the machine copies of elements of an array over others: words where some refer, and else bytes.
use Rattle.std.proofs.Common.{◌≡◌, ℕ, zero, suc, ◌+◌, ◌*◌, ◌<◌, ◌≤◌, ◌⊎◌, ◌%◌, ◌/◌, Bool, true, false, List, length, Option, Some, refl, sym, ap, ◌∙◌, subst, arith, inl, inr}
use Rattle.std.specs.Prelude.{slice_get, ◌||◌, ◌&&◌, ◌==◌, nat_eq}
use Rattle.std.specs.List.{range_with_len}
use Rattle.std.specs.Cmp.Lexicographic.{pointwise}
use Rattle.std.proofs.Math.Nat.{suc-mul}
use Rattle.std.proofs.lemmas.Cmp.{nat_eq_equiv, nat_list_eq_equiv}
use Rattle.std.proofs.lemmas.Nat.{div-add-mod'}
use Rattle.std.proofs.lemmas.Bool.Decides.{eqb_tells, leb_tells}
use Rattle.limbo_types.specs.Types.{Ty}
use Rattle.limbo_layout.specs.Adts.{Def, Has}
use Rattle.limbo_layout.specs.Layout.{Room, Laid, is_in}
use Rattle.limbo_meaning.specs.Values.{Value}
use Rattle.dis_file.specs.declared.types.TypeDesc.{TypeDesc}
use Rattle.dis_file.specs.References.{marks}
use Rattle.dis_meaning.specs.Words.{Word, Refer, Found}
use Rattle.dis_memory.specs.Blocks.{refers, any_marked}
use Rattle.dis_memory.specs.Copies.{as_marked}
use Rattle.dis_memory.specs.Copies as copies
use Rattle.dis_memory.specs.Arrays.{are_alike}
use Rattle.value_words.specs.Facts.{Facts}
use Rattle.value_words.proofs.Blank.{laid_within}
use Rattle.value_words.proofs.Bytes.{word_found, byte_there}
use Rattle.value_words.proofs.Rows.{below, is_there}
use Rattle.value_heaps.specs.Types.{desc_of}
use Rattle.value_heaps.proofs.Marks.{among, is_among, marks_at, whole_words, at_word}
use Rattle.value_moves.specs.Writing.{Writes}
use Rattle.value_moves.proofs.Copying.{Gives}
use Rattle.value_moves.proofs.Marked.{marked_fits}
use Rattle.value_moves.proofs.Referring as referring
use Rattle.value_moves.proofs.Standing.{reads_plain}
use Rattle.block_effects.specs.Copying.{AreTaken, HasByte, HasFitting}
use Rattle.block_effects.proofs.Copying.{words_are_copied}
use Rattle.value_follows.proofs.Standing.{same_some}
use Rattle.rows_copying.proofs.Lists.{times_more, times_four, times_least}
use Rattle.rows_copying.proofs.Blocks.{AreLaid}

-- ---- whether a type's words refer

or_cases : (a b : Bool) → (a || b) ≡ true → (a ≡ true) ⊎ (b ≡ true)
or_cases true b e = inl refl
or_cases false b e = inr e

or_true : (a : Bool) → (a || true) ≡ true
or_true true = refl
or_true false = refl

any_is : (desc : TypeDesc) (from n : ℕ) → any_marked desc (range_with_len from n) ≡ true
    → (w : ℕ) × (from ≤ w) × (w < from + n) × (marks desc.map w ≡ true)
any_is desc from zero e = absurd cc
any_is desc from (suc n) e = elim (or_cases (marks desc.map from) (any_marked desc (range_with_len (from + 1) n)) e) [
  | inl y ↦ (from, omega arith, omega arith, y)
  | inr y ↦ let r = any_is desc (from + 1) n y in let l = r.1 in let h = r.2 in (r.0, omega (arith, l), omega (arith, h), r.3)
]

is_any : (desc : TypeDesc) (from n w : ℕ) → from ≤ w → w < from + n → marks desc.map w ≡ true → any_marked desc (range_with_len from n) ≡ true
is_any desc from zero w l h e = absurd (omega (arith, l, h))
is_any desc from (suc n) w l h e = elim (eqb_tells from w) [
  | inl y ↦ ap (λ b. b || any_marked desc (range_with_len (from + 1) n)) (ap (marks desc.map) y.1 ∙ e)
  | inr y ↦
      let ne = y.1 in
      ap (λ b. marks desc.map from || b) (is_any desc (from + 1) n w (omega (arith, l, ne)) (omega (arith, h)) e) ∙ or_true (marks desc.map from)
]

module _ (defs : List Def) (t : Ty) (r : Room) (laid : Laid defs t r) where
  pub refers_so : refers (desc_of r) ≡ true → (o : ℕ) × Has r.references o
  refers_so e =
      let a = any_is (desc_of r) 0 (r.size / 4) e in
      (4 * a.0, among (4 * a.0) r.references (sym (marks_at defs t r a.0 laid) ∙ a.3))

  pub refers_not : refers (desc_of r) ≡ false → (o : ℕ) → Has r.references o → ⊥
  refers_not e o h =
      let even = at_word defs t r o laid h in
      let inside = laid_within defs t r laid o h in
      let same : 4 * (o / 4) ≡ o = omega (arith, even) in
      let marked : marks (desc_of r).map (o / 4) ≡ true = marks_at defs t r (o / 4) laid ∙ ap (λ n. is_in n r.references) same ∙ is_among o r.references h in
      let f = is_any (desc_of r) 0 (r.size / 4) (o / 4) (omega arith) (omega (arith, even, inside)) marked in
      absurd (let g : true ≡ false = sym f ∙ e in cc)

-- a type is alike to itself
pub alike : (d : TypeDesc) → are_alike d d ≡ true
alike d = both (d.size == d.size) (pointwise nat_eq d.map d.map) (nat_eq_equiv.refl d.size) (nat_list_eq_equiv.refl d.map)
  where
    both : (a b : Bool) → a ≡ true → b ≡ true → (a && b) ≡ true
    both a b e f = ap (λ c. c && b) e ∙ f

-- ---- the words of an array

same_place : (i j o p size : ℕ) → o < size → p < size → i * size + o ≡ j * size + p → (i ≡ j) × (o ≡ p)
same_place i j o p size l h e = elim (leb_tells i j) [
  | inl y ↦ elim (leb_tells j i) [
    | inl z ↦
        let a = y.1 in
        let b = z.1 in
        let same : i ≡ j = omega (arith, a, b) in
        let f = ap (λ n. n * size) same in
        (same, omega (arith, e, f))
    | inr z ↦
        let a = z.1 in
        let f = times_least (suc i) j size (omega (arith, a)) in
        let g = suc-mul i size in
        absurd (omega (arith, f, g, e, l))
  ]
  | inr y ↦
      let a = y.1 in
      let f = times_least (suc j) i size (omega (arith, a)) in
      let g = suc-mul j size in
      absurd (omega (arith, f, g, e, h))
]

module _ (defs : List Def) (k : Facts) (t : Ty) (r : Room) (words : List Word) (vs : List Value) (a : AreLaid defs k t words vs r) where
  -- they are as the type marks them, where a value takes so many whole words
  module _ (q : ℕ) (size : r.size ≡ 4 * q) where
    place : (i o : ℕ) → i * r.size + 4 * o ≡ 4 * (i * q + o)
    place i o = let f = times_four i q in let g = ap (λ n. i * n) size in omega (arith, f, g)

    in_words : (i o : ℕ) → i < length vs → o < q → 4 * (i * q + o) < length vs * r.size
    in_words i o l h =
        let f = place i o in
        let g = times_least (suc i) (length vs) r.size (omega (arith, l)) in
        let m = suc-mul i r.size in
        omega (arith, f, g, m, h, size)

    pub kind : (i o : ℕ) → i < length vs → o < q → Gives words (i * q + o) (as_marked (is_in (4 * o) r.references))
    kind i o l h = go (is_in (4 * o) r.references) refl
      where
        go : (b : Bool) → is_in (4 * o) r.references ≡ b → Gives words (i * q + o) (as_marked b)
        go true e =
            let v = is_there vs i l in
            let f = referring.refers defs k words (i * r.size) t r v.0 (4 * o) a.laid (a.each i v.0 v.1) (among (4 * o) r.references e) in
            let g = word_found words (i * r.size + 4 * o) (Refer f.0) f.1 in
            let p = place i o in
            let same : i * q + o ≡ (i * r.size + 4 * o) / 4 = omega (arith, p) in
            (Refer f.0, ap (slice_get words) same ∙ g.1, refl)
        go false e =
            let inside = in_words i o l h in
            let w = is_there words (i * q + o) (a.whole.0 (i * q + o) (omega arith, omega (arith, inside))) in
            plainly w.0 w.1
          where
            none : (to : Option ℕ) → slice_get words (i * q + o) ≡ Some (Refer to) → ⊥
            none to f =
                let x = a.only (i * q + o) to f in
                let y = x.2 in
                let p = place i o in
                let here = y.2 in
                let within = laid_within defs t r a.laid y.0 y.1 in
                let same = same_place x.0 i y.0 (4 * o) r.size (omega (arith, within)) (omega (arith, size, h)) (omega (arith, here, p)) in
                let g : is_in (4 * o) r.references ≡ true = ap (λ n. is_in n r.references) (sym same.1) ∙ is_among y.0 r.references y.1 in
                absurd (let z : true ≡ false = sym g ∙ e in cc)

            plainly : (w : Word) → slice_get words (i * q + o) ≡ Some w → Gives words (i * q + o) (as_marked false)
            plainly (Refer to) f = absurd (none to f)
            plainly w f = (w, f, refl)

    -- so many are there
    pub words_there : (from count : ℕ) → from + count ≤ length vs * q → from + count ≤ length words
    words_there from count l = go (from + count) l
      where
        all : length vs * r.size ≡ 4 * (length vs * q)
        all = let f = times_four (length vs) q in let g = ap (λ n. length vs * n) size in omega (arith, f, g)

        go : (n : ℕ) → n ≤ length vs * q → n ≤ length words
        go zero h = omega arith
        go (suc n) h = let e = all in let f = a.whole.0 n (omega arith, omega (arith, e, h)) in omega (arith, f)

  -- where none refers, a number stands where each byte lies
  pub byte_at : ((o : ℕ) → Has r.references o → ⊥) → (n : ℕ) → n < length vs * r.size → HasByte words n
  byte_at none n l =
      let w = is_there words (n / 4) (a.whole.0 (n / 4) (omega arith, omega (arith, l))) in
      let z = reads_plain (slice_get words (n / 4)) w.0 w.1 (λ to e. let x = a.only (n / 4) to e in let y = x.2 in none y.0 y.1) in
      (_, byte_there words n z.0 z.1)

-- ---- elements that are copied

module _ (defs : List Def) (k : Facts) (t : Ty) (r : Room) (source target : List Word) (us vs : List Value) (a : AreLaid defs k t source us r)
    (c : AreLaid defs k t target vs r) (from to n : ℕ) (here : from + n ≤ length us) (fits : to + n ≤ length vs) where
  -- The words or bytes that the machine takes, and what there is once they are put.
  pub record WordsGo : Type 0 where
    pub taken : List Word
    pub others : List Word
    pub is_taken : copies.taken source (from * (r.size / 4)) (n * (r.size / 4)) ≡ Found taken
    pub is_put : copies.put target (to * (r.size / 4)) taken ≡ Found others
    pub writes : Writes target others (to * r.size) source (from * r.size) (n * r.size)

  pub record BytesGo : Type 0 where
    pub others : List Word
    pub is_moved : copies.moved source (from * r.size) target (to * r.size) (n * r.size) ≡ Found others
    pub writes : Writes target others (to * r.size) source (from * r.size) (n * r.size)

  module _ (q : ℕ) (quarter : r.size / 4 ≡ q) (size : r.size ≡ 4 * q) where
    by_four : (j : ℕ) → 4 * (j * q) ≡ j * r.size
    by_four j = times_four j q ∙ ap (λ m. j * m) (sym size)

    go_words : WordsGo
    go_words =
        let few = times_least (from + n) (length us) q here in
        let apart = times_more from n q in
        let take = words_are_copied.can_take source (from * q) (n * q)
        (words_there defs k t r source us a q size (from * q) (n * q) (omega (arith, few, apart))) in
        let are = words_are_copied.taken source take.0 (from * q) (n * q) take.1 in
        let put = words_are_copied.can_put target take.0 (to * q) (λ j v e. fitting take.0 are j v e) in
        let writes = words_are_copied.put source target take.0 put.0 (from * q) (to * q) (n * q) are put.1 in
        record {
          taken = take.0;
          others = put.0;
          is_taken = ap (λ m. copies.taken source (from * m) (n * m)) quarter ∙ take.1;
          is_put = ap (λ m. copies.put target (to * m) take.0) quarter ∙ put.1;
          writes = subst (λ z. Writes target put.0 z source (from * r.size) (n * r.size)) (by_four to)
              (subst (λ y. Writes target put.0 (4 * (to * q)) source y (n * r.size)) (by_four from)
              (subst (λ x. Writes target put.0 (4 * (to * q)) source (4 * (from * q)) x) (by_four n) writes));
        }
      where
        fitting : (ws : List Word) → AreTaken source (from * q) (n * q) ws → (j : ℕ) (v : Word) → slice_get ws j ≡ Some v
            → HasFitting target (to * q + j) v
        fitting ws are j v e =
            let long = are.long in
            let low = below ws j v e in
            let inside : j < n * q = omega (arith, long, low) in
            one (j / q) (j % q) (div-add-mod' j q) (rest q (j % q) inside refl) inside (are.each j v e)
          where
            rest : (p o : ℕ) → j < n * p → o ≡ j % p → o < p
            rest zero o l f = absurd (let g : n * 0 ≡ 0 = omega arith in omega (arith, l, g))
            rest (suc p) o l f = omega (arith, f)

            one : (u o : ℕ) → u * q + o ≡ j → o < q → j < n * q → slice_get source (from * q + j) ≡ Some v → HasFitting target (to * q + j) v
            one u o is less l at =
                let in_n : u < n = elim (leb_tells n u) [
                  | inl y ↦ absurd (let f = times_least n u q y.1 in omega (arith, f, is, l))
                  | inr y ↦ let g = y.1 in omega (arith, g)
                ] in
                let b = is_in (4 * o) r.references in
                let s = kind defs k t r source us a q size (from + u) o (omega (arith, in_n, here)) less in
                let d = kind defs k t r target vs c q size (to + u) o (omega (arith, in_n, fits)) less in
                let to_source : (from + u) * q + o ≡ from * q + j = let f = times_more from u q in omega (arith, f, is) in
                let to_target : to * q + j ≡ (to + u) * q + o = let f = times_more to u q in omega (arith, f, is) in
                let same : s.0 ≡ v = same_some s.0 v (sym s.1 ∙ ap (slice_get source) to_source ∙ at) in (
                  d.0,
                  ap (slice_get target) to_target ∙ d.1,
                  marked_fits b d.0 v d.2 (subst (λ (w : Word). as_marked b w ≡ Found w) same s.2),
                )

  pub words_go : (o : ℕ) → Has r.references o → WordsGo
  words_go o h =
      let whole = whole_words defs t r o a.laid h in
      go_words (r.size / 4) refl (omega (arith, whole))

  pub bytes_go : ((o : ℕ) → Has r.references o → ⊥) → BytesGo
  bytes_go none =
      let few = times_least (from + n) (length us) r.size here in
      let apart = times_more from n r.size in
      let few_there = times_least (to + n) (length vs) r.size fits in
      let apart_there = times_more to n r.size in
      let move = words_are_copied.can_move source target (from * r.size) (to * r.size) (n * r.size)
      (λ j l. byte_at defs k t r source us a none (from * r.size + j) (omega (arith, few, apart, l)))
      (λ j l. byte_at defs k t r target vs c none (to * r.size + j) (omega (arith, few_there, apart_there, l))) in
      record {
        others = move.0;
        is_moved = move.1;
        writes = words_are_copied.moved source target move.0 (from * r.size) (to * r.size) (n * r.size) move.1;
      }
