-- Where a part lies in the room of a row, and to which part a reference belongs.
use Rattle.std.proofs.Common.{◌≡◌, ℕ, zero, suc, ◌+◌, ◌<◌, ◌≤◌, ◌⊎◌, ◌%◌, List, [], ◌∷◌, map, take, length, Some, refl, sym, ap, ◌∙◌}
use Rattle.std.proofs.Common.{subst, arith, inl, inr}
use Rattle.std.specs.Prelude.{slice_get, slice_index_or}
use Rattle.std.specs.Int.{next_multiple_of}
use Rattle.limbo_types.specs.Types as ty
use Rattle.limbo_types.specs.Types.{Ty}
use Rattle.limbo_types.specs.View.{tys_of}
use Rattle.limbo_layout.specs.Adts.{Def, Has, parts, listed}
use Rattle.limbo_layout.specs.Layout as layout
use Rattle.limbo_layout.specs.Layout.{Room, Laid, AllLaid, is_alone, none_laid, more_laid, alone, nothing, number, reference, behind}
use Rattle.limbo_layout.specs.Layout.{all_behind, in_order}
use Rattle.limbo_layout.specs.Laying.{rooms_of}
use Rattle.limbo_layout.proofs.Rooms.{has_right, has_cases}
use Rattle.core_code.specs.Rooms.{rooms_in}
use Rattle.core_code.specs.Terms.{part_types, parts_there}
use Rattle.core_code.proofs.Rounds.{rounds_give_rooms}
use Rattle.value_words.proofs.Aligned.{IsPower, suits, ends_within, aligned_within}
use Rattle.value_words.proofs.Blank.{has_map, mapped, has_more, all_within}
use Rattle.value_heaps.proofs.Marks.{all_even}
use Rattle.value_frames.specs.Frames.{room_for, row_of, within_row}

-- ---- rows

pub in_row : {A : Type 0} (xs : List A) (n : ℕ) (d : A) → n < length xs → slice_get xs n ≡ Some (slice_index_or xs n d)
in_row [] n d l = absurd (omega arith)
in_row (x ∷ xs) zero d l = refl
in_row (x ∷ xs) (suc n) d l = in_row xs n d (omega arith)

pub index_is : {A : Type 0} (xs : List A) (n : ℕ) (d x : A) → slice_get xs n ≡ Some x → slice_index_or xs n d ≡ x
index_is [] n d x e = absurd cc
index_is (y ∷ xs) zero d x e = cc
index_is (y ∷ xs) (suc n) d x e = index_is xs n d x e

pub map_at : {A B : Type 0} (f : A → B) (xs : List A) (n : ℕ) (x : A) → slice_get xs n ≡ Some x → slice_get (map f xs) n ≡ Some (f x)
map_at f [] n x e = absurd cc
map_at f (y ∷ xs) zero x e = cc
map_at f (y ∷ xs) (suc n) x e = map_at f xs n x e

map_take : {A B : Type 0} (f : A → B) (n : ℕ) (xs : List A) → take n (map f xs) ≡ map f (take n xs)
map_take f zero xs = refl
map_take f (suc n) [] = refl
map_take f (suc n) (x ∷ xs) = ap (λ ys. f x ∷ ys) (map_take f n xs)

pub listed_back : (ts : List Ty) → listed (tys_of ts) ≡ ts
listed_back [] = refl
listed_back (t ∷ ts) = ap (λ us. t ∷ us) (listed_back ts)

-- ---- alignments

pub by_four : (n a : ℕ) → IsPower a → 4 ≤ a → n % a ≡ 0 → n % 4 ≡ 0
by_four n a (inl e) l f = absurd (omega arith)
by_four n a (inr (inl e)) l f = ap (λ m. n % m) (sym e) ∙ f
by_four n a (inr (inr e)) l f = let g : n % 8 ≡ 0 = ap (λ m. n % m) (sym e) ∙ f in omega (arith, g)

pub by_eight : (n a : ℕ) → IsPower a → n % 8 ≡ 0 → n % a ≡ 0
by_eight n a (inl e) f = ap (λ m. n % m) e ∙ (let g : n % 1 ≡ 0 = omega arith in g)
by_eight n a (inr (inl e)) f = ap (λ m. n % m) e ∙ (let g : n % 4 ≡ 0 = omega (arith, f) in g)
by_eight n a (inr (inr e)) f = ap (λ m. n % m) e ∙ f

-- what has a reference lies at a word
alone_words : (t : Ty) (r : Room) (o : ℕ) → alone t ≡ Some r → Has r.references o → 4 ≤ r.align
alone_words (ty.Tuple ts) r o e = absurd cc
alone_words (ty.Adt n) r o e = absurd cc
alone_words ty.Byte r o e = let f : number 1 ≡ r = cc in subst (λ (z : Room). Has z.references o → 4 ≤ z.align) f (λ h. absurd h)
alone_words ty.Int r o e = let f : number 4 ≡ r = cc in subst (λ (z : Room). Has z.references o → 4 ≤ z.align) f (λ h. absurd h)
alone_words ty.Big r o e = let f : number 8 ≡ r = cc in subst (λ (z : Room). Has z.references o → 4 ≤ z.align) f (λ h. absurd h)
alone_words ty.Nothing r o e = let f : nothing ≡ r = cc in subst (λ (z : Room). Has z.references o → 4 ≤ z.align) f (λ h. absurd h)
alone_words _ r o e = let f : reference ≡ r = cc in subst (λ (z : Room). Has z.references o → 4 ≤ z.align) f (λ h. omega arith)

module _ (defs : List Def) where
  pub at_words : (t : Ty) (r : Room) (o : ℕ) → Laid defs t r → Has r.references o → 4 ≤ r.align
  at_words _ _ o (is_alone t r e) h = alone_words t r o e h
  at_words _ _ o (layout.of_tuple ts rs l) h = (all_even defs nothing (listed ts) rs (λ q i. absurd i) l o h).1
  at_words _ _ o (layout.of_adt n d rs e l) h = (all_even defs nothing (parts d) rs (λ q i. absurd i) l o h).1

  -- ---- a part in a row, behind what takes so much room

  abbrev pub place_of : Room → List Room → (n : ℕ) → Room → ℕ
  place_of w rs n r = next_multiple_of (all_behind w (take n rs)).size r.align

  pub part_laid : (ts : List Ty) (rs : List Room) (n : ℕ) (t : Ty) (r : Room) → AllLaid defs ts rs → slice_get ts n ≡ Some t
      → slice_get rs n ≡ Some r → Laid defs t r
  part_laid _ _ n t r none_laid e f = absurd cc
  part_laid _ _ zero t r (more_laid u us s ss l ls) e f =
      let a : u ≡ t = cc in
      let b : s ≡ r = cc in
      subst (λ (x : Ty). Laid defs x r) a (subst (λ (z : Room). Laid defs u z) b l)
  part_laid _ _ (suc n) t r (more_laid u us s ss l ls) e f = part_laid us ss n t r ls e f

  pub part_ends : (w : Room) (rs : List Room) (n : ℕ) (r : Room) → slice_get rs n ≡ Some r
      → place_of w rs n r + r.size ≤ (all_behind w rs).size
  part_ends w [] n r e = absurd cc
  part_ends w (s ∷ rs) zero r e =
      let a : s ≡ r = cc in
      subst (λ (z : Room). next_multiple_of w.size z.align + z.size ≤ (all_behind w (s ∷ rs)).size) a (ends_within w s rs)
  part_ends w (s ∷ rs) (suc n) r e = part_ends (behind w s) rs n r e

  pub part_aligned : (w : Room) (rs : List Room) (n : ℕ) (r : Room) → slice_get rs n ≡ Some r → r.align ≤ (all_behind w rs).align
  part_aligned w [] n r e = absurd cc
  part_aligned w (s ∷ rs) zero r e =
      let a : s ≡ r = cc in subst (λ (z : Room). z.align ≤ (all_behind w (s ∷ rs)).align) a (aligned_within w s rs)
  part_aligned w (s ∷ rs) (suc n) r e = part_aligned (behind w s) rs n r e

  pub part_suits : (w : Room) (ts : List Ty) (rs : List Room) (n : ℕ) (r : Room) → AllLaid defs ts rs → slice_get rs n ≡ Some r
      → place_of w rs n r % r.align ≡ 0
  part_suits w _ _ n r none_laid e = absurd cc
  part_suits w _ _ zero r (more_laid t ts s rs l ls) e =
      let a : s ≡ r = cc in
      subst (λ (z : Room). next_multiple_of w.size z.align % z.align ≡ 0) a (suits defs w t ts s rs (more_laid t ts s rs l ls))
  part_suits w _ _ (suc n) r (more_laid t ts s rs l ls) e = part_suits (behind w s) ts rs n r ls e

  -- ---- references of a part, among those of the row

  pub has_part : (w : Room) (rs : List Room) (n : ℕ) (r : Room) (o : ℕ) → slice_get rs n ≡ Some r → Has r.references o
      → Has (all_behind w rs).references (place_of w rs n r + o)
  has_part w [] n r o e h = absurd cc
  has_part w (s ∷ rs) zero r o e h =
      let a : r ≡ s = cc in
      let off = next_multiple_of w.size s.align in
      subst (λ (z : Room). Has (all_behind w (s ∷ rs)).references (next_multiple_of w.size z.align + o)) (sym a)
      (has_more (behind w s) rs (off + o)
      (has_right w.references (map (λ p. off + p) s.references) (off + o)
      (has_map (λ p. off + p) s.references o (subst (λ (z : Room). Has z.references o) a h))))
  has_part w (s ∷ rs) (suc n) r o e h = has_part (behind w s) rs n r o e h

  abbrev pub LieWithin : Room → Type 0
  LieWithin w = (p : ℕ) → Has w.references p → p + 4 ≤ w.size

  has_before : (w : Room) (rs : List Room) (p : ℕ) → Has (all_behind w rs).references p → Has w.references p ⊎ (w.size ≤ p)
  has_before w [] p h = inl h
  has_before w (r ∷ rs) p h = elim (has_before (behind w r) rs p h) [
    | inl i ↦ elim (has_cases w.references (map (λ o. next_multiple_of w.size r.align + o) r.references) p i) [
      | inl j ↦ inl j
      | inr j ↦ inr (let k = mapped (λ o. next_multiple_of w.size r.align + o) r.references p j in let e = k.2 in omega arith)
    ]
    | inr l ↦ inr (omega arith)
  ]

  first_owns : (w : Room) (rs : List Room) (r : Room) (o b : ℕ) → LieWithin w → Has (all_behind (behind w r) rs).references o → o ≤ b
      → b < o + 4 → next_multiple_of w.size r.align ≤ b → b < next_multiple_of w.size r.align + r.size
      → (p : ℕ) × Has r.references p × (next_multiple_of w.size r.align + p ≡ o)
  first_owns w rs r o b i h l m f g = elim (has_before (behind w r) rs o h) [
    | inl j ↦ elim (has_cases w.references (map (λ p. next_multiple_of w.size r.align + p) r.references) o j) [
      | inl k ↦ absurd (let q = i o k in omega (arith, q, m, f))
      | inr k ↦ mapped (λ p. next_multiple_of w.size r.align + p) r.references o k
    ]
    | inr j ↦ absurd (omega (arith, j, l, g))
  ]

  -- A byte of a reference that is one of a part's is of a reference of that part.
  pub part_owns : (w : Room) (ts : List Ty) (rs : List Room) (n : ℕ) (r : Room) (o b : ℕ) → LieWithin w → AllLaid defs ts rs
      → slice_get rs n ≡ Some r → Has (all_behind w rs).references o → o ≤ b → b < o + 4 → place_of w rs n r ≤ b
      → b < place_of w rs n r + r.size → (p : ℕ) × Has r.references p × (place_of w rs n r + p ≡ o)
  part_owns w _ _ n r o b i none_laid e h l m f g = absurd cc
  part_owns w _ _ zero r o b i (more_laid t ts s rs a ls) e h l m f g =
      let q : r ≡ s = cc in
      subst (λ (z : Room). (p : ℕ) × Has z.references p × (next_multiple_of w.size z.align + p ≡ o)) (sym q)
      (first_owns w rs s o b i h l m (subst (λ (z : Room). next_multiple_of w.size z.align ≤ b) q f)
      (subst (λ (z : Room). b < next_multiple_of w.size z.align + z.size) q g))
  part_owns w _ _ (suc n) r o b i (more_laid t ts s rs a ls) e h l m f g =
      part_owns (behind w s) ts rs n r o b (all_within defs w (t ∷ []) (s ∷ []) i (more_laid t [] s [] a none_laid)) ls e h l m f g

  -- ---- rooms by the table

  alone_whole : (t : Ty) (r : Room) (n : ℕ) (u : Ty) → alone t ≡ Some r → slice_get (part_types defs t) n ≡ Some u → ⊥
  alone_whole (ty.Tuple ts) r n u e f = cc
  alone_whole (ty.Adt m) r n u e f = cc
  alone_whole _ r n u e f = cc

  -- The parts of what has parts are laid out, in order.
  pub opened : (t : Ty) (r : Room) (n : ℕ) (u : Ty) → Laid defs t r → slice_get (part_types defs t) n ≡ Some u
      → AllLaid defs (part_types defs t) (rooms_of (rooms_in defs) (part_types defs t))
      × (r ≡ in_order (rooms_of (rooms_in defs) (part_types defs t)))
  opened _ _ n u (is_alone t r e) f = absurd (alone_whole t r n u e f)
  opened _ _ n u (layout.of_tuple ts rs l) f =
      let e = rounds_give_rooms.rows defs (listed ts) rs l in
      (subst (λ (qs : List Room). AllLaid defs (listed ts) qs) (sym e) l, ap in_order (sym e))
  opened _ _ n u (layout.of_adt m d rs g l) f =
      let e = rounds_give_rooms.rows defs (parts d) rs l in
      let types : part_types defs (ty.Adt m) ≡ parts d = ap (parts_there defs) g in
      subst (λ (ts : List Ty). AllLaid defs ts (rooms_of (rooms_in defs) ts) × (in_order rs ≡ in_order (rooms_of (rooms_in defs) ts)))
      (sym types) (subst (λ (qs : List Room). AllLaid defs (parts d) qs) (sym e) l, ap in_order (sym e))

  -- The part of a number in a row.
  module _ (ts : List Ty) (n : ℕ) (t : Ty) (type : slice_get ts n ≡ Some t) where
    pub room_there : slice_get (rooms_of (rooms_in defs) ts) n ≡ Some (room_for defs t)
    room_there = map_at (room_for defs) ts n t type

    pub place_there : place_of nothing (rooms_of (rooms_in defs) ts) n (room_for defs t) ≡ within_row defs ts n
    place_there =
        ap (λ (qs : List Room). next_multiple_of (all_behind nothing qs).size (room_for defs t).align) (map_take (room_for defs) n ts)
        ∙ ap (λ (u : Ty). next_multiple_of (row_of defs (take n ts)).size (room_for defs u).align) (sym (index_is ts n ty.Nothing t type))
