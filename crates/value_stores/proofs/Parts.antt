-- Parts of values lie where they are, and values with another part where that is written.
use Rattle.std.proofs.Common.{◌≡◌, ℕ, ◌+◌, ◌*◌, ◌<◌, ◌⊎◌, ◌/◌, pos, ℤ, List, [], ◌∷◌, map, length, Option, Some, None}
use Rattle.std.proofs.Common.{refl, sym, ap, ◌∙◌, subst, arith, inl, inr}
use Rattle.std.specs.Prelude.{slice_get, slice_set, slice_index_or}
use Rattle.std.specs.Int.{next_multiple_of}
use Rattle.std.proofs.lemmas.Bool.Decides.{leb_tells}
use Rattle.limbo_types.specs.Types as ty
use Rattle.limbo_types.specs.Types.{Ty}
use Rattle.limbo_layout.specs.Adts as adts
use Rattle.limbo_layout.specs.Adts.{Def, Has}
use Rattle.limbo_layout.specs.Layout as layout
use Rattle.limbo_layout.specs.Layout.{Room, Laid, AllLaid, is_alone, number, reference, nothing, behind, all_behind, in_order}
use Rattle.limbo_layout.specs.Laying.{rooms_of}
use Rattle.limbo_layout.proofs.Rooms.{one_room, has_cases}
use Rattle.limbo_typed.specs.Fitting.{of_kind}
use Rattle.limbo_meaning.specs.Values.{Value, parts_of}
use Rattle.limbo_meaning.specs.Places.{value_part, part_at, with_part}
use Rattle.core_code.specs.Rooms.{rooms_in}
use Rattle.core_code.specs.Terms.{part_types}
use Rattle.dis_meaning.specs.Words.{Word, Plain, Refer, Address, Found, ◌>>=◌, type_check, or_wrong, number_in, word_at}
use Rattle.dis_meaning.specs.Numbers.{nth_number}
use Rattle.value_words.specs.Contents.{AreInRange}
use Rattle.value_words.specs.Facts.{Facts}
use Rattle.value_words.specs.Stands.{Stands, a_number, a_text, a_name, an_array, no_words, a_tuple, an_adt}
use Rattle.value_words.specs.Stands.{AllStand, none_stand, more_stand}
use Rattle.value_words.proofs.Aligned.{inside, all_power}
use Rattle.value_words.proofs.Blank.{mapped}
use Rattle.value_words.proofs.Carrying.{bytes_in, number_laid, reference_laid}
use Rattle.value_words.proofs.Covered.{behind_nothing}
use Rattle.value_words.proofs.Rows.{below}
use Rattle.value_heaps.specs.Blocks.{AreWhole, ReferOnlyThere}
use Rattle.value_frames.specs.Slots.{ElseAsWas}
use Rattle.value_frames.specs.Frames.{room_for, row_of, within_row, within, type_within}
use Rattle.value_moves.proofs.Beginning.{room_of}
use Rattle.value_moves.specs.Writing.{Writes, BeginsPlain, Lies, HasRoom}
use Rattle.value_stores.specs.Paths.{HasPath, room_within, RowLies, PartsLie}
use Rattle.value_stores.proofs.Rooms.{in_row, by_eight, has_part, part_ends, part_laid, room_there, place_there}
use Rattle.value_stores.proofs.Lying.{Fits, has_number, fits_row, part_fits}
use Rattle.value_stores.proofs.Standing as standing
use Rattle.value_stores.proofs.Standing.{part_is, row_part, all_laid, room_is, step_laid, step_stands, path_laid, path_ends, path_written}

-- ---- words that refer, of a value that stands

module _ (defs : List Def) (k : Facts) (words : List Word) where
  at_first : (at : ℕ) (r : Option ℕ) (t : Ty) (room : Room) (o : ℕ) → Laid defs t reference → Laid defs t room → Has room.references o
      → word_at words (pos at) ≡ Found (Refer r) → (s : Option ℕ) × (word_at words (pos (at + o)) ≡ Found (Refer s))
  at_first at r t room o l m h e = elim (subst (λ (z : Room). Has z.references o) (one_room defs t room reference m l) h) [
    | inl z ↦ (r, let same : at + o ≡ at = omega (arith, z) in ap (λ (n : ℕ). word_at words (pos n)) same ∙ e)
    | inr z ↦ absurd z
  ]

  mutual
    pub refers : (at : ℕ) (t : Ty) (room : Room) (v : Value) (o : ℕ) → Laid defs t room → Stands defs k words at t v
        → Has room.references o → (s : Option ℕ) × (word_at words (pos (at + o)) ≡ Found (Refer s))
    refers _ _ room _ o l (a_number at j z e i) h =
        absurd (subst (λ (x : Room). Has x.references o) (one_room defs (of_kind j) room (number (bytes_in j)) l (number_laid defs j)) h)
    refers _ _ room _ o l (a_text at r s e i) h = at_first at r ty.Chars room o (is_alone ty.Chars reference refl) l h e
    refers _ _ room _ o l (a_name at t r n i e j) h = at_first at r t room o (reference_laid defs t i) l h e
    refers _ _ room _ o l (an_array at t r p e i) h = at_first at r (ty.ArrayOf t) room o (is_alone (ty.ArrayOf t) reference refl) l h e
    refers _ _ room _ o l (no_words at) h =
        absurd (subst (λ (x : Room). Has x.references o) (one_room defs ty.Nothing room nothing l (is_alone ty.Nothing nothing refl)) h)
    refers _ _ room _ o l (a_tuple at ts rs vs m all) h =
        behind_nothing defs k words o (all_refer at nothing (adts.listed ts) rs vs o m all
        (subst (λ (x : Room). Has x.references o) (one_room defs (ty.Tuple ts) room (in_order rs) l (layout.of_tuple ts rs m)) h))
    refers _ _ room _ o l (an_adt at n d rs vs e m all) h =
        behind_nothing defs k words o (all_refer at nothing (adts.parts d) rs vs o m all
        (subst (λ (x : Room). Has x.references o) (one_room defs (ty.Adt n) room (in_order rs) l (layout.of_adt n d rs e m)) h))

    all_refer : (at : ℕ) (w : Room) (ts : List Ty) (rs : List Room) (vs : List Value) (o : ℕ) → AllLaid defs ts rs
        → AllStand defs k words at w ts rs vs → Has (all_behind w rs).references o
        → Has w.references o ⊎ ((s : Option ℕ) × (word_at words (pos (at + o)) ≡ Found (Refer s)))
    all_refer _ _ _ _ _ o l (none_stand at w) h = inl h
    all_refer _ _ _ _ _ o l (more_stand at w t ts r rs v vs x y) h =
        let i = inside defs t ts r rs l in
        let off = next_multiple_of w.size r.align in
        elim (all_refer at (behind w r) ts rs vs o i.1 y h) [
          | inl j ↦ elim (has_cases w.references (map (λ p. off + p) r.references) o j) [
            | inl m ↦ inl m
            | inr m ↦
                let p = mapped (λ p. off + p) r.references o m in
                let e : at + off + p.0 ≡ at + o = let f = p.2 in omega (arith, f) in
                let s = refers (at + off) t r v p.0 i.0 x p.1 in
                inr (s.0, ap (λ (n : ℕ). word_at words (pos n)) (sym e) ∙ s.1)
          ]
          | inr j ↦ inr j
        ]

-- ---- what lies there, and room

fits_in : (defs : List Def) (k : Facts) (words : List Word) (at : ℕ) (t : Ty) (r : Room) (v : Value) → Lies defs k words at t r v
    → Fits words at r
fits_in defs k words at t r v l = record { aligned = l.aligned; whole = l.whole; begins = (room_of defs k words at t r v l).begins; only = l.only }

room_fits : (defs : List Def) (words : List Word) (at : ℕ) (t : Ty) (r : Room) → HasRoom defs words at t r → Fits words at r
room_fits defs words at t r l = record { aligned = l.aligned; whole = l.whole; begins = l.begins; only = l.only }

lies_so : (defs : List Def) (k : Facts) (words : List Word) (at : ℕ) (t : Ty) (r : Room) (v : Value) → Laid defs t r → Fits words at r
    → Stands defs k words at t v → Lies defs k words at t r v
lies_so defs k words at t r v l f s =
    record { laid = l; aligned = f.aligned; whole = f.whole; only = f.only; stands = s }

another : (defs : List Def) (k : Facts) (words : List Word) (at : ℕ) (t : Ty) (r : Room) (v : Value) → Lies defs k words at t r v
    → HasRoom defs words at t r
another = room_of

-- ---- a part, step by step

module _ (defs : List Def) (t : Ty) (laid : Laid defs t (room_for defs t)) (n : ℕ) (there : n < length (part_types defs t)) where
  abbrev ts : List Ty
  ts = part_types defs t

  abbrev u : Ty
  u = slice_index_or (part_types defs t) n ty.Nothing

  abbrev rs : List Room
  rs = rooms_of (rooms_in defs) (part_types defs t)

  step_fits : (words : List Word) (at : ℕ) → Fits words at (room_for defs t)
      → Fits words (at + within_row defs ts n) (room_for defs u)
  step_fits words at f =
      let e = in_row ts n ty.Nothing there in
      subst (λ (o : ℕ). Fits words (at + o) (room_for defs u)) (place_there defs ts n u e)
      (part_fits defs words at ts rs n u (room_for defs u) (all_laid defs t laid n there) e (room_there defs ts n u e)
      (fits_row words at rs (subst (λ (r : Room). Fits words at r) (room_is defs t laid n there) f)))

  step_lies : (k : Facts) (words : List Word) (at : ℕ) (v : Value) → Lies defs k words at t (room_for defs t) v
      → Lies defs k words (at + within_row defs ts n) u (room_for defs u) (value_part n (parts_of v))
  step_lies k words at v l =
      lies_so defs k words (at + within_row defs ts n) u (room_for defs u) (value_part n (parts_of v)) (step_laid defs t laid n there)
      (step_fits words at (fits_in defs k words at t (room_for defs t) v l)) (step_stands defs k t laid n there words at v l.stands)

pub there : (defs : List Def) (k : Facts) (words : List Word) (at : ℕ) (t : Ty) (part : List ℕ) (v : Value) → HasPath defs t part
    → Lies defs k words at t (room_for defs t) v
    → Lies defs k words (at + within defs t part) (type_within defs t part) (room_within defs t part) (part_at part v)
there defs k words at t [] v p l =
    subst (λ (o : ℕ). Lies defs k words o t (room_for defs t) v) (let e : at ≡ at + 0 = omega arith in e) l
there defs k words at t (n ∷ ns) v p l =
    let ts = part_types defs t in
    let u = slice_index_or ts n ty.Nothing in
    let e : at + within_row defs ts n + within defs u ns ≡ at + (within_row defs ts n + within defs u ns) = omega arith in
    subst (λ (o : ℕ). Lies defs k words o (type_within defs u ns) (room_within defs u ns) (part_at ns (value_part n (parts_of v)))) e
    (there defs k words (at + within_row defs ts n) u ns (value_part n (parts_of v)) p.1 (step_lies defs t l.laid n p.0 k words at v l))

-- ---- what is written

number_word : (words : List Word) (w : ℕ) (z : ℤ) → nth_number words w ≡ Found z
    → (w < length words) × ((r : Option ℕ) → slice_get words w ≡ Some (Refer r) → ⊥)
number_word words w z e = go (slice_get words w) refl e
  where
    go : (o : Option Word) → slice_get words w ≡ o → (or_wrong type_check o >>= number_in) ≡ Found z
        → (w < length words) × ((r : Option ℕ) → slice_get words w ≡ Some (Refer r) → ⊥)
    go None f g = absurd cc
    go (Some (Plain y)) f g = (below words w (Plain y) f, λ r h. let i : Some (Plain y) ≡ Some (Refer r) = sym f ∙ h in cc)
    go (Some (Refer s)) f g = absurd cc
    go (Some (Address p a)) f g = (below words w (Address p a) f, λ r h. let i : Some (Address p a) ≡ Some (Refer r) = sym f ∙ h in cc)

module _ (target others : List Word) (to : ℕ) (source : List Word) (from size : ℕ) (w : Writes target others to source from size) where
  pub only_stays : (at : ℕ) (r : Room) → ReferOnlyThere target at r → ReferOnlyThere others at r
  only_stays at r h word refer e i = let s = w.refer word refer e in h word s.0 s.1 i

  pub whole_stays : (at many : ℕ) → AreInRange others → AreWhole target at many → AreWhole others at many
  whole_stays at many ranges h = (λ word i. let l = h.0 word i in let same = w.many in omega (arith, l, same), ranges)

  begins_stays : (at size : ℕ) → BeginsPlain target at size → BeginsPlain others at size
  begins_stays at size h l = elim (h l) [
    | inl e ↦ inl e
    | inr e ↦
        let n = number_word target (at / 4) e.0 e.1 in
        let m = w.many in
        inr (has_number others (at / 4) (let i = n.0 in omega (arith, i, m)) (λ r f. let s = w.refer (at / 4) r f in n.1 s.0 s.1))
  ]

  pub fits_stays : (at : ℕ) (r : Room) → AreInRange others → Fits target at r → Fits others at r
  fits_stays at r ranges f = record {
    aligned = f.aligned;
    whole = whole_stays at r.size ranges f.whole;
    begins = begins_stays at r.size f.begins;
    only = only_stays at r f.only;
  }

written : (defs : List Def) (k : Facts) (target others : List Word) (at : ℕ) (t : Ty) (part : List ℕ) (v u : Value) (source : List Word)
    (from : ℕ) → HasPath defs t part → Lies defs k target at t (room_for defs t) v
    → Writes target others (at + within defs t part) source from (room_within defs t part).size
    → Lies defs k others (at + within defs t part) (type_within defs t part) (room_within defs t part) u
    → Lies defs k others at t (room_for defs t) (with_part part u v)
written defs k target others at t part v u source from p l w m =
    lies_so defs k others at t (room_for defs t) (with_part part u v) l.laid
    (fits_stays target others (at + within defs t part) source from (room_within defs t part).size w at (room_for defs t) m.whole.1
    (fits_in defs k target at t (room_for defs t) v l))
    (path_written defs k target others l.whole.1 m.whole.1 at t part v u p l.laid l.aligned w.bytes l.stands m.stands)

-- ---- room

room_step : (defs : List Def) (words : List Word) (at : ℕ) (t : Ty) (n : ℕ) → n < length (part_types defs t)
    → HasRoom defs words at t (room_for defs t)
    → HasRoom defs words (at + within_row defs (part_types defs t) n) (slice_index_or (part_types defs t) n ty.Nothing)
    (room_for defs (slice_index_or (part_types defs t) n ty.Nothing))
room_step defs words at t n l h =
    let ts = part_types defs t in
    let u = slice_index_or ts n ty.Nothing in
    let e = in_row ts n ty.Nothing l in
    let f = step_fits defs t h.laid n l words at (room_fits defs words at t (room_for defs t) h) in
    record {
      laid = step_laid defs t h.laid n l;
      aligned = f.aligned;
      whole = f.whole;
      begins = f.begins;
      only = f.only;
      refer = λ o i.
          let a = has_part defs nothing (rooms_of (rooms_in defs) ts) n (room_for defs u) o (room_there defs ts n u e) i in
          let b = place_there defs ts n u e in
          let c = subst (λ (r : Room). Has r.references (within_row defs ts n + o)) (sym (room_is defs t h.laid n l))
          (subst (λ (p : ℕ). Has (row_of defs ts).references (p + o)) b a) in
          let s = h.refer (within_row defs ts n + o) c in
          let d : at + (within_row defs ts n + o) ≡ at + within_row defs ts n + o = omega arith in
          (s.0, ap (λ (p : ℕ). word_at words (pos p)) (sym d) ∙ s.1);
    }

room : (defs : List Def) (words : List Word) (at : ℕ) (t : Ty) (part : List ℕ) → HasPath defs t part
    → HasRoom defs words at t (room_for defs t)
    → HasRoom defs words (at + within defs t part) (type_within defs t part) (room_within defs t part)
room defs words at t [] p h =
    subst (λ (o : ℕ). HasRoom defs words o t (room_for defs t)) (let e : at ≡ at + 0 = omega arith in e) h
room defs words at t (n ∷ ns) p h =
    let ts = part_types defs t in
    let u = slice_index_or ts n ty.Nothing in
    let e : at + within_row defs ts n + within defs u ns ≡ at + (within_row defs ts n + within defs u ns) = omega arith in
    subst (λ (o : ℕ). HasRoom defs words o (type_within defs u ns) (room_within defs u ns)) e
    (room defs words (at + within_row defs ts n) u ns p.1 (room_step defs words at t n p.0 h))

-- ---- rows

row_fits : (defs : List Def) (k : Facts) (words : List Word) (at : ℕ) (ts : List Ty) (vs : List Value) → RowLies defs k words at ts vs
    → Fits words at (row_of defs ts)
row_fits defs k words at ts vs l = record {
  aligned = by_eight at (row_of defs ts).align (all_power defs nothing ts (rooms_of (rooms_in defs) ts) (inl refl) l.laid) l.aligned;
  whole = l.whole;
  begins = λ i. inl (let e = l.aligned in omega (arith, e));
  only = l.only;
}

of_row : (defs : List Def) (k : Facts) (words : List Word) (at : ℕ) (ts : List Ty) (vs : List Value) (n : ℕ) (t : Ty) (v : Value)
    → RowLies defs k words at ts vs → slice_get ts n ≡ Some t → slice_get vs n ≡ Some v
    → Lies defs k words (at + within_row defs ts n) t (room_for defs t) v
of_row defs k words at ts vs n t v l e f =
    let rs = rooms_of (rooms_in defs) ts in
    let there = room_there defs ts n t e in
    lies_so defs k words (at + within_row defs ts n) t (room_for defs t) v
    (part_laid defs ts rs n t (room_for defs t) l.laid e there)
    (subst (λ (o : ℕ). Fits words (at + o) (room_for defs t)) (place_there defs ts n t e)
    (part_fits defs words at ts rs n t (room_for defs t) l.laid e there (row_fits defs k words at ts vs l)))
    (subst (λ (x : Value). Stands defs k words (at + within_row defs ts n) t x) (part_is vs n v f)
    (row_part defs k words at ts vs n t l.stand e))

row_written : (defs : List Def) (k : Facts) (target others : List Word) (at : ℕ) (ts : List Ty) (vs : List Value) (n : ℕ) (t : Ty)
    (part : List ℕ) (v u : Value) (source : List Word) (from : ℕ) → RowLies defs k target at ts vs → slice_get ts n ≡ Some t
    → slice_get vs n ≡ Some v → HasPath defs t part
    → Writes target others (at + within_row defs ts n + within defs t part) source from (room_within defs t part).size
    → Lies defs k others (at + within_row defs ts n + within defs t part) (type_within defs t part) (room_within defs t part) u
    → RowLies defs k others at ts (slice_set vs n (with_part part u v))
row_written defs k target others at ts vs n t part v u source from l e f p w m =
    let here = at + within_row defs ts n in
    let o = within_row defs ts n + within defs t part in
    let size = (room_within defs t part).size in
    let old = of_row defs k target at ts vs n t v l e f in
    let new = written defs k target others here t part v u source from p old w m in
    let fits = fits_stays target others (here + within defs t part) source from size w at (row_of defs ts) m.whole.1
    (row_fits defs k target at ts vs l) in
    let sum : here + within defs t part ≡ at + o = omega arith in
    let ends = path_ends defs t part p old.laid in
    record {
      laid = l.laid;
      aligned = l.aligned;
      whole = fits.whole;
      only = fits.only;
      stand = standing.row_written defs k target others l.whole.1 m.whole.1 at ts vs n t (with_part part u v) o size l.laid
          (row_fits defs k target at ts vs l).aligned e (subst (λ (b : ℕ). standing.Else defs k target others b size) sum w.bytes)
          (omega arith) (omega (arith, ends)) l.stand new.stands;
    }

-- Words outside the row are as they were.
row_else : (defs : List Def) (k : Facts) (target others : List Word) (at : ℕ) (ts : List Ty) (vs : List Value) (n : ℕ) (t : Ty)
    (part : List ℕ) (v : Value) (source : List Word) (from : ℕ) → RowLies defs k target at ts vs → slice_get ts n ≡ Some t
    → slice_get vs n ≡ Some v → HasPath defs t part
    → Writes target others (at + within_row defs ts n + within defs t part) source from (room_within defs t part).size
    → ElseAsWas target others at (row_of defs ts).size
row_else defs k target others at ts vs n t part v source from l e f p w =
    let old = of_row defs k target at ts vs n t v l e f in
    let inner = path_ends defs t part p old.laid in
    let outer = part_ends defs nothing (rooms_of (rooms_in defs) ts) n (room_for defs t) (room_there defs ts n t e) in
    let same = place_there defs ts n t e in
    let even = l.aligned in
    record {
      each = λ word out. w.words word (elim (leb_tells (4 * word + 4) at) [
        | inl y ↦ inl (let m = y.1 in omega (arith, m))
        | inr y ↦ elim (leb_tells (at + (row_of defs ts).size) (4 * word)) [
          | inl z ↦ inr (let m = z.1 in omega (arith, m, inner, outer, same))
          | inr z ↦ absurd (out (let m = y.1 in omega (arith, m, even), z.1))
        ]
      ]);
    }

pub parts_lie : PartsLie
parts_lie = record {
  there = there;
  room = room;
  another = another;
  written = written;
  of_row = of_row;
  row_written = row_written;
  row_else = row_else;
}
