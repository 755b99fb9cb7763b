-- The row of parameters: its words that refer lie in front of the others, and those of a longer row begin with them.
use Rattle.std.proofs.Common.{◌≡◌, ◌⊎◌, ℕ, ◌+◌, ◌≤◌, ◌%◌, List, [], ◌∷◌, ◌++◌, map, max, refl, sym, ap, subst, arith, inl, inr}
use Rattle.std.specs.Int.{next_multiple_of}
use Rattle.limbo_types.specs.Types as ty
use Rattle.limbo_types.specs.Types.{Ty}
use Rattle.limbo_types.specs.View.{tys_of}
use Rattle.limbo_layout.specs.Adts.{Def, Has, listed}
use Rattle.limbo_layout.specs.Layout.{Room, AllLaid, nothing, behind, all_behind, in_order, of_tuple}
use Rattle.limbo_layout.specs.Laying.{rooms_of}
use Rattle.limbo_layout.proofs.Rooms.{has_cases, all_grow, behind-types}
use Rattle.core_code.specs.Rooms.{rooms_in}
use Rattle.value_words.proofs.Blank.{mapped, has_more, all_within}
use Rattle.value_heaps.proofs.Marks.{at_word}
use Rattle.value_frames.specs.Frames.{row_of}
use Rattle.value_code.specs.Code.{last_end}

-- ---- the end of the last

pub last_past : (os : List ℕ) (o : ℕ) → Has os o → o + 4 ≤ last_end os
last_past [] o h = absurd h
last_past (p ∷ os) o (inl e) = omega (arith, e)
last_past (p ∷ os) o (inr h) = let l = last_past os o h in omega (arith, l)

pub last_within : (os : List ℕ) (n : ℕ) → ((o : ℕ) → Has os o → o + 4 ≤ n) → last_end os ≤ n
last_within [] n h = omega arith
last_within (p ∷ os) n h =
    let a = h p (inl refl) in
    let l = last_within os n (λ o i. h o (inr i)) in
    omega (arith, a, l)

max_even : (a b : ℕ) → a % 4 ≡ 0 → b % 4 ≡ 0 → max a b % 4 ≡ 0
max_even a b e f = omega (arith, e, f)

pub last_even : (os : List ℕ) → ((o : ℕ) → Has os o → o % 4 ≡ 0) → last_end os % 4 ≡ 0
last_even [] h = refl
last_even (p ∷ os) h =
    let a = h p (inl refl) in
    max_even (p + 4) (last_end os) (omega (arith, a)) (last_even os (λ o i. h o (inr i)))

-- ---- a row that is longer

behind_past : (w : Room) (rs : List Room) (p : ℕ) → Has (all_behind w rs).references p → Has w.references p ⊎ (w.size ≤ p)
behind_past w [] p h = inl h
behind_past w (r ∷ rs) p h = elim (behind_past (behind w r) rs p h) [
  | inl i ↦ elim (has_cases w.references (map (λ o. next_multiple_of w.size r.align + o) r.references) p i) [
    | inl j ↦ inl j
    | inr j ↦ inr (let k = mapped (λ o. next_multiple_of w.size r.align + o) r.references p j in let e = k.2 in omega (arith, e))
  ]
  | inr l ↦ inr (omega (arith, l))
]

module _ (defs : List Def) where
  abbrev rooms : List Ty → List Room
  rooms ts = rooms_of (rooms_in defs) ts

  pub longer : (ts us : List Ty) → row_of defs (ts ++ us) ≡ all_behind (row_of defs ts) (rooms us)
  longer ts us = behind-types (rooms_in defs) nothing ts us

  -- it has the words that refer of the shorter one, and else none so near
  pub longer_has : (ts us : List Ty) (o : ℕ) → Has (row_of defs ts).references o → Has (row_of defs (ts ++ us)).references o
  longer_has ts us o h = subst (λ (r : Room). Has r.references o) (sym (longer ts us)) (has_more (row_of defs ts) (rooms us) o h)

  pub longer_only : (ts us : List Ty) (o : ℕ) → Has (row_of defs (ts ++ us)).references o
      → Has (row_of defs ts).references o ⊎ ((row_of defs ts).size ≤ o)
  longer_only ts us o h =
      behind_past (row_of defs ts) (rooms us) o (subst (λ (r : Room). Has r.references o) (longer ts us) h)

  pub longer_size : (ts us : List Ty) → (row_of defs ts).size ≤ (row_of defs (ts ++ us)).size
  longer_size ts us =
      let e = ap (λ (r : Room). r.size) (longer ts us) in
      let l = all_grow (row_of defs ts) (rooms us) in
      omega (arith, e, l)

  -- ---- a row that has a layout

  listed_back : (ts : List Ty) → listed (tys_of ts) ≡ ts
  listed_back [] = refl
  listed_back (t ∷ ts) = ap (λ (us : List Ty). t ∷ us) (listed_back ts)

  module _ (ts : List Ty) (laid : AllLaid defs ts (rooms ts)) where
    pub refer_within : (o : ℕ) → Has (row_of defs ts).references o → o + 4 ≤ (row_of defs ts).size
    refer_within o h = all_within defs nothing ts (rooms ts) (λ q i. absurd i) laid o h

    pub refer_even : (o : ℕ) → Has (row_of defs ts).references o → o % 4 ≡ 0
    refer_even o h =
        at_word defs (ty.Tuple (tys_of ts)) (in_order (rooms ts)) o
        (of_tuple (tys_of ts) (rooms ts) (subst (λ (us : List Ty). AllLaid defs us (rooms ts)) (sym (listed_back ts)) laid)) h

    pub front_even : last_end (row_of defs ts).references % 4 ≡ 0
    front_even = last_even (row_of defs ts).references refer_even

    pub front_within : last_end (row_of defs ts).references ≤ (row_of defs ts).size
    front_within = last_within (row_of defs ts).references (row_of defs ts).size refer_within
