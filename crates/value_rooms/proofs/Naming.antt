-- The references that the code finds are those that the definitions give, as far as they are told.
use Rattle.std.proofs.Common.{◌≡◌, ℕ, zero, suc, ◌+◌, ◌<◌, ◌≤◌, inl, inr, min, List, [], ◌∷◌, ◌++◌, Vec, Global, map, length, get_or, refl, sym, ap, ◌∙◌, arith}
use Rattle.std.specs.Prelude.{slice_get, slice_index_or}
use Rattle.std.specs.Int.{next_multiple_of}
use Rattle.std.proofs.lemmas.Bool.Decides.{leb_tells}
use Rattle.std.proofs.lemmas.List.{map-append}
use Rattle.limbo_types.specs.Types as ty
use Rattle.limbo_types.specs.Types.{Ty, Tys}
use Rattle.limbo_types.specs.View.{tys_of}
use Rattle.limbo_layout.specs.Adts.{Def, parts}
use Rattle.limbo_layout.specs.Layout as layout
use Rattle.limbo_layout.specs.Layout.{Room, limit, nothing}
use Rattle.limbo_layout.specs.Laying.{AllBelow}
use Rattle.core_code.specs.Terms.{parts_there}
use Rattle.value_frames.specs.Frames.{adt_names, names_among, names_at, names_in, room_for}
use Rattle.value_rooms.specs.Cut.{behind, cut, most, single}
use Rattle.value_rooms.specs.Names.{all_named, moved, named, names_after, names_of, view_names}
use Rattle.value_rooms.specs.Tables.{table_of}
use Rattle.value_rooms.proofs.Cutting.{cut_behind, cut_small, cut-align, lost_size}
use Rattle.value_rooms.proofs.Rounds.{alone, count-parts}

-- ---- tables of the code

pub offsets_at : (all : List (Vec ℕ Global)) (n : ℕ) (os : Vec ℕ Global) → n < length all → os ≡ get_or all n os
    → os.items ≡ slice_index_or (view_names all) n []
offsets_at [] n os l e = absurd (omega arith)
offsets_at (v ∷ all) zero os l e = ap (λ (u : Vec ℕ Global). u.items) e
offsets_at (v ∷ all) (suc n) os l e = offsets_at all n os (omega arith) e

pub names_past : (all : List (Vec ℕ Global)) (n : ℕ) → length all ≤ n → [] ≡ slice_index_or (view_names all) n []
names_past [] n l = refl
names_past (v ∷ all) zero l = absurd (omega arith)
names_past (v ∷ all) (suc n) l = names_past all n (omega arith)

pub one_more : (table : List Room) (all : List (List Ty)) (k : ℕ) → names_after table all (suc k) ≡ names_after table all (k + 1)
one_more table all k = let e : suc k ≡ k + 1 = omega arith in ap (names_after table all) e

-- ---- offsets that are moved

moved_twice : (at by : ℕ) (os : List ℕ) → moved (min at most) (moved by os) ≡ moved (at + by) os
moved_twice at by [] = refl
moved_twice at by (o ∷ os) =
    let e : min (min at most + min (by + o) most) most ≡ min (at + by + o) most = omega arith in
    ap (λ (k : ℕ). k ∷ moved (min at most) (moved by os)) e ∙ ap (λ (ks : List ℕ). min (at + by + o) most ∷ ks) (moved_twice at by os)

moved_further : (at by : ℕ) (os : List ℕ) → moved (at + by) os ≡ moved at (map (λ o. by + o) os)
moved_further at by [] = refl
moved_further at by (o ∷ os) =
    let e : min (at + by + o) most ≡ min (at + (by + o)) most = omega arith in
    ap (λ (k : ℕ). k ∷ moved (at + by) os) e ∙ ap (λ (ks : List ℕ). min (at + (by + o)) most ∷ ks) (moved_further at by os)

place : (at a : ℕ) (w : Room) → min (min at most + next_multiple_of (cut w).size a) most ≡ min (at + next_multiple_of w.size a) most
place at a w = elim (leb_tells w.size limit) [
  | inl h ↦
      let e = ap (λ (r : Room). min (min at most + next_multiple_of r.size a) most) (cut_small w h.1) in
      e ∙ omega arith
  | inr h ↦ let l = lost_size w h.1 in omega arith
]

-- ---- types, by tables that tell the same of each adt

module _ (defs : List Def) (adts : List (List ℕ)) (adt : ℕ → List ℕ) where
  abbrev table : List Room
  table = table_of (map parts defs)

  abbrev Agree : Type 0
  Agree = (n : ℕ) → slice_index_or adts n [] ≡ moved 0 (adt n)

  one : (at : ℕ) → min at most ∷ [] ≡ moved at (0 ∷ [])
  one at = let e : min at most ≡ min (at + 0) most = omega arith in ap (λ (k : ℕ). k ∷ []) e

  mutual
    pub of_type : Agree → (t : Ty) (at : ℕ) → named table adts (min at most) t ≡ moved at (names_in defs adt t)
    of_type h (ty.Tuple ts) at = of_types h ts at nothing
    of_type h (ty.Adt n) at =
        ap (moved (min at most)) (h n) ∙ moved_twice at 0 (adt n) ∙ (let e : at + 0 ≡ at = omega arith in ap (λ (k : ℕ). moved k (adt n)) e)
    of_type h ty.Byte at = refl
    of_type h ty.Int at = refl
    of_type h ty.Big at = refl
    of_type h ty.Chars at = refl
    of_type h ty.Nothing at = refl
    of_type h _ at = one at

    pub of_types : Agree → (ts : Tys) (at : ℕ) (w : Room) → all_named table adts (min at most) (cut w) ts ≡ moved at (names_among defs adt w ts)
    of_types h ty.NoTys at w = refl
    of_types h (ty.MoreTys t ts) at w =
        let p = room_for defs t in
        let by = next_multiple_of w.size p.align in
        let own = single table t in
        let rest = λ (r : Room). all_named table adts (min at most) (behind (cut w) r) ts in
        let k : min (min at most + next_multiple_of (cut w).size own.align) most ≡ min (at + by) most =
        ap (λ (r : Room). min (min at most + next_multiple_of (cut w).size r.align) most) (alone defs t)
        ∙ ap (λ (a : ℕ). min (min at most + next_multiple_of (cut w).size a) most) (cut-align p)
        ∙ place at p.align w in
        ap (λ (j : ℕ). named table adts j t ++ rest own) k
        ∙ ap (λ (ns : List ℕ). ns ++ rest own) (of_type h t (at + by))
        ∙ ap (λ (r : Room). moved (at + by) (names_in defs adt t) ++ rest r) (alone defs t)
        ∙ ap (λ (r : Room). moved (at + by) (names_in defs adt t) ++ all_named table adts (min at most) r ts) (cut_behind w p)
        ∙ ap (λ (ns : List ℕ). moved (at + by) (names_in defs adt t) ++ ns) (of_types h ts at (layout.behind w p))
        ∙ ap (λ (ns : List ℕ). ns ++ moved at (names_among defs adt (layout.behind w p) ts)) (moved_further at by (names_in defs adt t))
        ∙ sym (map-append (λ o. min (at + o) most) (map (λ o. by + o) (names_in defs adt t)) (names_among defs adt (layout.behind w p) ts))

-- ---- rounds

mapped : (all : List Def) (f : List Ty → List ℕ) (g : Tys → List ℕ) → ((ts : List Ty) → f ts ≡ moved 0 (g (tys_of ts))) → g ty.NoTys ≡ []
    → (defs : List Def) (n : ℕ)
    → slice_index_or (map f (map parts defs)) n [] ≡ moved 0 (g (tys_of (parts_there all (slice_get defs n))))
mapped all f g h z [] n = ap (moved 0) (sym z)
mapped all f g h z (d ∷ defs) zero = h (parts d)
mapped all f g h z (d ∷ defs) (suc n) = mapped all f g h z defs n

after_rounds : (defs : List Def) (k : ℕ) → Agree defs (names_after (table_of (map parts defs)) (map parts defs) k) (adt_names defs k)
after_rounds defs zero n = refl
after_rounds defs (suc k) n =
    let t = table_of (map parts defs) in
    let adts = names_after t (map parts defs) k in
    mapped defs (λ ts. all_named t adts 0 nothing (tys_of ts)) (λ ts. names_among defs (adt_names defs k) nothing ts)
    (λ ts. of_types defs adts (adt_names defs k) (after_rounds defs k) (tys_of ts) 0 nothing) refl defs n

pub told_names : (defs : List Def) (t : Ty)
    → named (table_of (map parts defs)) (names_of (table_of (map parts defs)) (map parts defs)) 0 t ≡ moved 0 (names_at defs t)
told_names defs t =
    let room = table_of (map parts defs) in
    ap (λ (k : ℕ). named room (names_after room (map parts defs) k) 0 t) (count-parts defs)
    ∙ of_type defs (names_after room (map parts defs) (length defs)) (adt_names defs (length defs)) (after_rounds defs (length defs)) t 0

-- ---- offsets that are told as they are

pub told_exact : (os : List ℕ) → AllBelow most (moved 0 os) → moved 0 os ≡ os
told_exact [] h = refl
told_exact (o ∷ os) h =
    let e : min (0 + o) most ≡ o = let b = h.0 in omega arith in
    ap (λ (k : ℕ). k ∷ moved 0 os) e ∙ ap (λ (ks : List ℕ). o ∷ ks) (told_exact os h.1)

pub told_below : (os : List ℕ) → AllBelow most os → AllBelow most (moved 0 os)
told_below [] h = tt
told_below (o ∷ os) h = (let b = h.0 in omega arith, told_below os h.1)
