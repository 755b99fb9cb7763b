-- Ways from adts to those that they hold in place.
use Rattle.std.proofs.Common.{◌≡◌, ℕ, zero, suc, ◌+◌, ◌*◌, ◌<◌, ◌≤◌, ◌⊎◌, inl, inr, Bool, true, false, List, [], ◌∷◌, ◌++◌, length, reverse, Option, Some, None, refl, sym, ap, subst, ◌∙◌, arith}
use Rattle.std.specs.Prelude.{slice_get}
use Rattle.limbo_types.specs.Types.{Ty, Tys, Tuple, Adt, NoTys, MoreTys}
use Rattle.limbo_layout.specs.Adts.{Def, Has, parts, listed, held, all_held, held_in}
use Rattle.limbo_layout.specs.Layout.{Room, Laid, AllLaid, is_alone, of_tuple, of_adt, none_laid, more_laid, alone, behind, all_behind, rounded, in_order, nothing, limit, Fits}
use Rattle.limbo_layout.specs.Paths.{Holds, HoldsWithin, at_once, further, Path, is_done, is_begun, goes_on}
use Rattle.limbo_layout.proofs.Rooms.{has_cases, held-listed, behind_holds, all_grow, rounded_grows, in_adt, one_room}

-- what holds a thing in place holds all that the thing holds
pub also : (defs : List Def) (n m k : ℕ) → HoldsWithin defs n m → HoldsWithin defs m k → HoldsWithin defs n k
also defs _ _ k (at_once n m h) w = further n m k h w
also defs _ _ k (further n m j h v) w = further n m k h (also defs m j k v w)

held_alone : (t : Ty) (r : Room) (n : ℕ) → alone t ≡ Some r → Has (held t) n → ⊥
held_alone (Tuple ts) r n e h = absurd cc
held_alone (Adt m) r n e h = absurd cc
held_alone _ r n e h = h

-- ---- no adt with a room holds itself

-- a way that leads back holds a next adt from which a way leads back
turn : (defs : List Def) (n m : ℕ) → HoldsWithin defs n m → n ≡ m → (k : ℕ) × Holds defs n k × HoldsWithin defs k k
turn defs _ _ (at_once n m h) e = (m, h, at_once m m (subst (λ (z : ℕ). Holds defs z m) e h))
turn defs _ _ (further n k m h w) e = (k, h, also defs k m k w (at_once m k (subst (λ (z : ℕ). Holds defs z k) e h)))

own_parts : (defs : List Def) (n k : ℕ) (d : Def) → slice_get defs n ≡ Some d → Holds defs n k → Has (held_in (parts d)) k
own_parts defs n k d e h =
    let f : slice_get defs n ≡ Some h.def = h.there in
    let g : h.def ≡ d = cc in
    subst (λ (z : Def). Has (held_in (parts z)) k) g h.has

mutual
  pub not_itself : (defs : List Def) (t : Ty) (r : Room) → Laid defs t r → (m : ℕ) → Has (held t) m → HoldsWithin defs m m → ⊥
  not_itself defs _ _ (is_alone t r e) m h w = held_alone t r m e h
  not_itself defs _ _ (of_tuple ts rs hs) m h w = none_itself defs (listed ts) rs hs m (subst (λ (z : List ℕ). Has z m) (held-listed ts) h) w
  not_itself defs _ _ (of_adt n d rs e hs) m (inl f) w =
      let i = turn defs n n (subst (λ (z : ℕ). HoldsWithin defs z z) (sym f) w) refl in
      none_itself defs (parts d) rs hs i.0 (own_parts defs n i.0 d e i.1) i.2
  not_itself defs _ _ (of_adt n d rs e hs) m (inr h) w = h

  none_itself : (defs : List Def) (ts : List Ty) (rs : List Room) → AllLaid defs ts rs → (m : ℕ) → Has (held_in ts) m → HoldsWithin defs m m → ⊥
  none_itself defs _ _ none_laid m h w = h
  none_itself defs _ _ (more_laid t ts r rs a b) m h w = elim (has_cases (held t) (held_in ts) m h) [
    | inl i ↦ not_itself defs t r a m i w
    | inr i ↦ none_itself defs ts rs b m i w
  ]

-- ---- what an adt with a room holds has a room, no larger

abbrev Smaller : List Def → ℕ → ℕ → Type 0
Smaller defs m size = (s : Room) × Laid defs (Adt m) s × (s.size ≤ size)

mutual
  smaller : (defs : List Def) (t : Ty) (r : Room) → Laid defs t r → (m : ℕ) → Has (held t) m → Smaller defs m r.size
  smaller defs _ _ (is_alone t r e) m h = absurd (held_alone t r m e h)
  smaller defs _ _ (of_tuple ts rs hs) m h =
      let i = one_smaller defs (listed ts) rs nothing hs m (subst (λ (z : List ℕ). Has z m) (held-listed ts) h) in
      (i.0, i.1, let a = i.2 in let b = rounded_grows (all_behind nothing rs) in omega arith)
  smaller defs _ _ (of_adt n d rs e hs) m (inl f) =
      (in_order rs, subst (λ (z : ℕ). Laid defs (Adt z) (in_order rs)) f (of_adt n d rs e hs), omega arith)
  smaller defs _ _ (of_adt n d rs e hs) m (inr h) = absurd h

  one_smaller : (defs : List Def) (ts : List Ty) (rs : List Room) (w : Room) → AllLaid defs ts rs → (m : ℕ) → Has (held_in ts) m → Smaller defs m (all_behind w rs).size
  one_smaller defs _ _ w none_laid m h = absurd h
  one_smaller defs _ _ w (more_laid t ts r rs a b) m h = elim (has_cases (held t) (held_in ts) m h) [
    | inl i ↦
        let q = smaller defs t r a m i in
        (q.0, q.1, let c = q.2 in let d = behind_holds w r in let e = all_grow (behind w r) rs in omega arith)
    | inr i ↦ one_smaller defs ts rs (behind w r) b m i
  ]

pub holds_fits : (defs : List Def) (n m : ℕ) → Fits defs (Adt n) → Holds defs n m → Fits defs (Adt m)
holds_fits defs n m f h =
    let i = in_adt defs (Adt n) f.0 f.1 n refl in
    let s = one_smaller defs (parts i.0) i.1 nothing i.3 m (own_parts defs n m i.0 i.2 h) in
    let e : f.0 ≡ in_order i.1 = i.4 in
    let g = rounded_grows (all_behind nothing i.1) in
    let k : f.0.size ≤ limit = f.2 in
    let l : f.0.size ≡ (in_order i.1).size = ap (λ (z : Room). z.size) e in
    (s.0, s.1, let c = s.2 in omega arith)

pub no_circle : (defs : List Def) (n : ℕ) → Fits defs (Adt n) → HoldsWithin defs n n → ⊥
no_circle defs n f w = not_itself defs (Adt n) f.0 f.1 n (inl refl) w

-- ---- along a path

pub path_fits : (defs : List Def) (first : ℕ) (ns : List ℕ) → Path defs first ns → Fits defs (Adt first) → (n : ℕ) → Has ns n → Fits defs (Adt n)
path_fits defs first _ is_done f n h = absurd h
path_fits defs first _ is_begun f n (inl e) = subst (λ (z : ℕ). Fits defs (Adt z)) e f
path_fits defs first _ is_begun f n (inr h) = absurd h
path_fits defs first _ (goes_on a b ns h p) f n (inl e) =
    subst (λ (z : ℕ). Fits defs (Adt z)) e (holds_fits defs a b (path_fits defs first (a ∷ ns) p f a (inl refl)) h)
path_fits defs first _ (goes_on a b ns h p) f n (inr i) = path_fits defs first (a ∷ ns) p f n i

-- from each adt on the path to the last, and one step on, leads a way
pub path_leads : (defs : List Def) (first : ℕ) (ns : List ℕ) → Path defs first ns → (top m n : ℕ) (rest : List ℕ) → ns ≡ top ∷ rest → Holds defs top m → Has ns n → HoldsWithin defs n m
path_leads defs first _ is_done top m n rest e k h = absurd h
path_leads defs first _ is_begun top m n rest e k (inl g) = let f : top ≡ n = cc in at_once n m (subst (λ (z : ℕ). Holds defs z m) f k)
path_leads defs first _ is_begun top m n rest e k (inr h) = absurd h
path_leads defs first _ (goes_on a b ns h p) top m n rest e k (inl g) = let f : top ≡ n = cc in at_once n m (subst (λ (z : ℕ). Holds defs z m) f k)
path_leads defs first _ (goes_on a b ns h p) top m n rest e k (inr i) =
    let f : b ≡ top = cc in
    also defs n b m (path_leads defs first (a ∷ ns) p a b n ns refl h i) (at_once b m (subst (λ (z : ℕ). Holds defs z m) (sym f) k))

pub path_back : (defs : List Def) (first : ℕ) (ns : List ℕ) → Path defs first ns → (top : ℕ) (rest : List ℕ) → ns ≡ top ∷ rest → Path defs first rest
path_back defs first _ is_done top rest e = absurd cc
path_back defs first _ is_begun top rest e = let f : [] ≡ rest = cc in subst (λ (z : List ℕ). Path defs first z) f is_done
path_back defs first _ (goes_on a b ns h p) top rest e = let f : a ∷ ns ≡ rest = cc in subst (λ (z : List ℕ). Path defs first z) f p
