-- Where the module's variables lie, and what they begin with.
use Rattle.std.proofs.Common.{◌≡◌, ℕ, zero, suc, ◌+◌, ◌<◌, ◌≤◌, ◌⊎◌, ◌%◌, inl, inr, List, [], ◌∷◌, map}
use Rattle.std.proofs.Common.{Some, sym, subst, arith, take}
use Rattle.std.specs.Prelude.{slice_get}
use Rattle.std.specs.Int.{next_multiple_of}
use Rattle.limbo_types.specs.Types.{Ty}
use Rattle.limbo_layout.specs.Adts.{Def, Has}
use Rattle.limbo_layout.specs.Layout.{Room, Laid, AllLaid, more_laid, none_laid, behind, all_behind}
use Rattle.limbo_layout.specs.Laying.{room, rooms_of}
use Rattle.limbo_layout.proofs.Rooms.{has_right, has_cases, all_grow}
use Rattle.value_words.proofs.Blank.{has_map, has_more, mapped, all_within}
use Rattle.value_words.proofs.Aligned.{suits, inside}

-- a word that refers, in a row, is of what is there at first, or lies behind it
has_before : (w : Room) (rs : List Room) (p : ℕ) → Has (all_behind w rs).references p → Has w.references p ⊎ (w.size ≤ p)
has_before w [] p h = inl h
has_before w (r ∷ rs) p h = elim (has_before (behind w r) rs p h) [
  | inl i ↦ elim (has_cases w.references (map (λ o. next_multiple_of w.size r.align + o) r.references) p i) [
    | inl j ↦ inl j
    | inr j ↦ inr (let k = mapped (λ o. next_multiple_of w.size r.align + o) r.references p j in let e = k.2 in omega arith)
  ]
  | inr l ↦ inr (omega arith)
]

module _ (defs : List Def) (rooms : List Room) where
  -- where a value of a type lies behind those of these types
  abbrev offset : Room → List Ty → Ty → ℕ
  offset w ts t = next_multiple_of (all_behind w (rooms_of rooms ts)).size (room rooms t).align

  abbrev LieWithin : Room → Type 0
  LieWithin w = (p : ℕ) → Has w.references p → p + 4 ≤ w.size

  abbrev Laying : List Ty → Type 0
  Laying ts = AllLaid defs ts (rooms_of rooms ts)

  pub laid_at : (ts : List Ty) (n : ℕ) (t : Ty) → Laying ts → slice_get ts n ≡ Some t → Laid defs t (room rooms t)
  laid_at [] n t l e = absurd cc
  laid_at (u ∷ ts) zero t l e =
      let f : u ≡ t = cc in
      subst (λ (x : Ty). Laid defs x (room rooms x)) f (inside defs u ts (room rooms u) (rooms_of rooms ts) l).0
  laid_at (u ∷ ts) (suc n) t l e = laid_at ts n t (inside defs u ts (room rooms u) (rooms_of rooms ts) l).1 e

  pub offset_even : (w : Room) (ts : List Ty) (n : ℕ) (t : Ty) → Laying ts → slice_get ts n ≡ Some t
      → offset w (take n ts) t % (room rooms t).align ≡ 0
  offset_even w [] n t l e = absurd cc
  offset_even w (u ∷ ts) zero t l e =
      let f : u ≡ t = cc in
      subst (λ (x : Ty). next_multiple_of w.size (room rooms x).align % (room rooms x).align ≡ 0) f
      (suits defs w u ts (room rooms u) (rooms_of rooms ts) l)
  offset_even w (u ∷ ts) (suc n) t l e =
      offset_even (behind w (room rooms u)) ts n t (inside defs u ts (room rooms u) (rooms_of rooms ts) l).1 e

  -- each lies in the row, and behind those before it
  pub offset_ends : (w : Room) (ts : List Ty) (n : ℕ) (t : Ty) → slice_get ts n ≡ Some t
      → offset w (take n ts) t + (room rooms t).size ≤ (all_behind w (rooms_of rooms ts)).size
  offset_ends w [] n t e = absurd cc
  offset_ends w (u ∷ ts) zero t e =
      let f : u ≡ t = cc in
      subst (λ (x : Ty). next_multiple_of w.size (room rooms x).align + (room rooms x).size
      ≤ (all_behind w (rooms_of rooms (u ∷ ts))).size) f
      (all_grow (behind w (room rooms u)) (rooms_of rooms ts))
  offset_ends w (u ∷ ts) (suc n) t e = offset_ends (behind w (room rooms u)) ts n t e

  pub offset_begins : (w : Room) (ts : List Ty) (n : ℕ) (t : Ty) → w.size ≤ offset w (take n ts) t
  offset_begins w ts n t = let a = all_grow w (rooms_of rooms (take n ts)) in omega (arith, a)

  pub offsets_apart : (w : Room) (ts : List Ty) (n m : ℕ) (t u : Ty) → n < m → slice_get ts n ≡ Some t → slice_get ts m ≡ Some u
      → offset w (take n ts) t + (room rooms t).size ≤ offset w (take m ts) u
  offsets_apart w [] n m t u l e f = absurd cc
  offsets_apart w (x ∷ ts) n zero t u l e f = absurd (omega (arith, l))
  offsets_apart w (x ∷ ts) zero (suc m) t u l e f =
      let g : x ≡ t = cc in
      subst (λ (y : Ty). next_multiple_of w.size (room rooms y).align + (room rooms y).size
      ≤ offset (behind w (room rooms x)) (take m ts) u) g
      (offset_begins (behind w (room rooms x)) ts m u)
  offsets_apart w (x ∷ ts) (suc n) (suc m) t u l e f =
      offsets_apart (behind w (room rooms x)) ts n m t u (omega (arith, l)) e f

  -- a word of the row that refers lies before one of the values, behind it, or is of it
  abbrev IsAbout : (at : ℕ) → Room → (q : ℕ) → Type 0
  IsAbout at r q = (q + 4 ≤ at) ⊎ ((at + r.size ≤ q) ⊎ ((o : ℕ) × Has r.references o × (at + o ≡ q)))

  one_more : (w : Room) (u : Ty) → LieWithin w → Laid defs u (room rooms u) → LieWithin (behind w (room rooms u))
  one_more w u h l =
      all_within defs w (u ∷ []) (room rooms u ∷ []) h (more_laid u [] (room rooms u) [] l none_laid)

  pub about : (w : Room) (ts : List Ty) (n : ℕ) (t : Ty) (q : ℕ) → LieWithin w → Laying ts → slice_get ts n ≡ Some t
      → Has (all_behind w (rooms_of rooms ts)).references q → IsAbout (offset w (take n ts) t) (room rooms t) q
  about w [] n t q within l e h = absurd cc
  about w (u ∷ ts) zero t q within l e h =
      let f : u ≡ t = cc in
      subst (λ (x : Ty). IsAbout (next_multiple_of w.size (room rooms x).align) (room rooms x) q) f
      (go (has_before (behind w (room rooms u)) (rooms_of rooms ts) q h))
    where
      off : ℕ
      off = next_multiple_of w.size (room rooms u).align

      go : Has (behind w (room rooms u)).references q ⊎ ((behind w (room rooms u)).size ≤ q) → IsAbout off (room rooms u) q
      go (inr m) = inr (inl m)
      go (inl m) = elim (has_cases w.references (map (λ o. off + o) (room rooms u).references) q m) [
        | inl i ↦ inl (let a = within q i in omega (arith, a))
        | inr i ↦ inr (inr (mapped (λ o. off + o) (room rooms u).references q i))
      ]
  about w (u ∷ ts) (suc n) t q within l e h =
      let i = inside defs u ts (room rooms u) (rooms_of rooms ts) l in
      about (behind w (room rooms u)) ts n t q (one_more w u within i.0) i.1 e h

  -- each reference of one of the values is one of the row
  pub references_there : (w : Room) (ts : List Ty) (n : ℕ) (t : Ty) (o : ℕ) → slice_get ts n ≡ Some t → Has (room rooms t).references o
      → Has (all_behind w (rooms_of rooms ts)).references (offset w (take n ts) t + o)
  references_there w [] n t o e h = absurd cc
  references_there w (u ∷ ts) zero t o e h =
      let f : u ≡ t = cc in
      let off = next_multiple_of w.size (room rooms u).align in
      subst (λ (x : Ty). Has (all_behind w (rooms_of rooms (u ∷ ts))).references (next_multiple_of w.size (room rooms x).align + o)) f
      (has_more (behind w (room rooms u)) (rooms_of rooms ts) (off + o)
      (has_right w.references (map (λ o. off + o) (room rooms u).references) (off + o)
      (has_map (λ o. off + o) (room rooms u).references o
      (subst (λ (x : Ty). Has (room rooms x).references o) (sym f) h))))
  references_there w (u ∷ ts) (suc n) t o e h = references_there (behind w (room rooms u)) ts n t o e h
