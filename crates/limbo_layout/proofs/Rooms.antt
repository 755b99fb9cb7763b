-- Rooms: how they grow, and that a type has one at most.
use Rattle.std.proofs.Common.{◌≡◌, ℕ, zero, suc, ◌+◌, ◌<◌, ◌≤◌, ◌⊎◌, inl, inr, List, [], ◌∷◌, ◌++◌, map, max, length, get_or, Option, Some, None, refl, sym, ap, subst, ◌∙◌, arith, append_assoc}
use Rattle.std.proofs.Math.Nat.{zero-mod, mod_self, sub-zero}
use Rattle.std.specs.Prelude.{slice_get}
use Rattle.std.specs.Int.{next_multiple_of}
use Rattle.limbo_types.specs.Types.{Ty, Tys, Byte, Int, Big, Chars, Nothing, Nil, ArrayOf, ListOf, ChanOf, Tuple, Adt, RefAdt, RefPick, Module, NoTys, MoreTys}
use Rattle.limbo_layout.specs.Adts.{Def, Has, parts, tag, types_of, variant_types, listed, held, all_held, held_in}
use Rattle.limbo_layout.specs.Layout as layout
use Rattle.limbo_layout.specs.Layout.{Room, Laid, AllLaid, is_alone, of_tuple, of_adt, none_laid, more_laid, alone, behind, all_behind, rounded, in_order, nothing, number, reference, limit, Fits}
use Rattle.limbo_layout.proofs.Sound.{shift-none}
use Rattle.limbo_layout.specs.Laying.{room, all_rooms, rooms_of, room_at}

-- ---- growing

pub behind_grows : (w p : Room) → w.size ≤ (behind w p).size
behind_grows w p = omega arith

pub behind_holds : (w p : Room) → p.size ≤ (behind w p).size
behind_holds w p = omega arith

pub all_grow : (w : Room) (ps : List Room) → w.size ≤ (all_behind w ps).size
all_grow w [] = omega arith
all_grow w (p ∷ ps) = let a = behind_grows w p in let b = all_grow (behind w p) ps in omega arith

pub rounded_grows : (w : Room) → w.size ≤ (rounded w).size
rounded_grows w = omega arith

pub all_behind-append : (w : Room) (ps qs : List Room) → all_behind w (ps ++ qs) ≡ all_behind (all_behind w ps) qs
all_behind-append w [] qs = refl
all_behind-append w (p ∷ ps) qs = all_behind-append (behind w p) ps qs

pub rooms_of-append : (rooms : List Room) (ts us : List Ty) → rooms_of rooms (ts ++ us) ≡ rooms_of rooms ts ++ rooms_of rooms us
rooms_of-append rooms [] us = refl
rooms_of-append rooms (t ∷ ts) us = ap (λ rs. room rooms t ∷ rs) (rooms_of-append rooms ts us)

-- the parts of two lists, one after the other
pub behind-types : (rooms : List Room) (w : Room) (ts us : List Ty) → all_behind w (rooms_of rooms (ts ++ us)) ≡ all_behind (all_behind w (rooms_of rooms ts)) (rooms_of rooms us)
behind-types rooms w ts us = ap (λ rs. all_behind w rs) (rooms_of-append rooms ts us) ∙ all_behind-append w (rooms_of rooms ts) (rooms_of rooms us)

-- the tag, the common fields, the variants' fields
pub parts_behind : (rooms : List Room) (d : Def) → all_behind nothing (rooms_of rooms (parts d)) ≡ all_behind (all_behind (all_behind nothing (rooms_of rooms (tag d.picks))) (rooms_of rooms (types_of d.fields))) (rooms_of rooms (variant_types d.picks))
parts_behind rooms d =
    behind-types rooms nothing (tag d.picks) (types_of d.fields ++ variant_types d.picks)
    ∙ behind-types rooms (all_behind nothing (rooms_of rooms (tag d.picks))) (types_of d.fields) (variant_types d.picks)

pub all_rooms-listed : (rooms : List Room) (ts : Tys) → all_rooms rooms ts ≡ rooms_of rooms (listed ts)
all_rooms-listed rooms NoTys = refl
all_rooms-listed rooms (MoreTys t ts) = ap (λ rs. room rooms t ∷ rs) (all_rooms-listed rooms ts)

-- what is too large already isn't smaller in the end
pub outgrows : (w p : Room) (ps : List Room) (whole : Room) → all_behind w (p ∷ ps) ≡ whole → limit < (behind w p).size → limit < whole.size
outgrows w p ps whole e h =
    let a = all_grow (behind w p) ps in
    let b : (all_behind (behind w p) ps).size ≡ whole.size = ap (λ (r : Room). r.size) e in
    omega arith

-- the same where more parts follow
pub outgrow : (w : Room) (qs : List Room) (whole : Room) → all_behind w qs ≡ whole → limit < w.size → limit < whole.size
outgrow w qs whole e h =
    let a = all_grow w qs in
    let b : (all_behind w qs).size ≡ whole.size = ap (λ (r : Room). r.size) e in
    omega arith

-- an element's place in the table, whatever would stand past its end
pub read_at : {A : Type 0} (xs : List A) (i : ℕ) (d x : A) → i < length xs → x ≡ get_or xs i x → get_or xs i d ≡ x
read_at [] i d x l e = absurd (omega arith)
read_at (y ∷ ys) zero d x l e = sym e
read_at (y ∷ ys) (suc i) d x l e = read_at ys i d x (omega arith) e

-- ---- what is in a list

pub has_left : {A : Type 0} (xs ys : List A) (x : A) → Has xs x → Has (xs ++ ys) x
has_left [] ys x h = absurd h
has_left (z ∷ zs) ys x (inl e) = inl e
has_left (z ∷ zs) ys x (inr h) = inr (has_left zs ys x h)

pub has_right : {A : Type 0} (xs ys : List A) (x : A) → Has ys x → Has (xs ++ ys) x
has_right [] ys x h = h
has_right (z ∷ zs) ys x h = inr (has_right zs ys x h)

pub has_cases : {A : Type 0} (xs ys : List A) (x : A) → Has (xs ++ ys) x → Has xs x ⊎ Has ys x
has_cases [] ys x h = inr h
has_cases (z ∷ zs) ys x (inl e) = inl (inl e)
has_cases (z ∷ zs) ys x (inr h) = elim (has_cases zs ys x h) [
  | inl a ↦ inl (inr a)
  | inr a ↦ inr a
]

pub held-listed : (ts : Tys) → all_held ts ≡ held_in (listed ts)
held-listed NoTys = refl
held-listed (MoreTys t ts) = ap (λ ns. held t ++ ns) (held-listed ts)

pub held_in-append : (ts us : List Ty) → held_in (ts ++ us) ≡ held_in ts ++ held_in us
held_in-append [] us = refl
held_in-append (t ∷ ts) us = ap (λ ns. held t ++ ns) (held_in-append ts us) ∙ sym (append_assoc (held t) (held_in ts) (held_in us))

-- ---- reading the table

mutual
  pub reads : (defs : List Def) (rooms : List Room) (t : Ty) → ((n : ℕ) → Has (held t) n → Laid defs (Adt n) (room_at rooms n)) → Laid defs t (room rooms t)
  reads defs rooms Byte k = is_alone Byte (number 1) refl
  reads defs rooms Int k = is_alone Int (number 4) refl
  reads defs rooms Big k = is_alone Big (number 8) refl
  reads defs rooms Nothing k = is_alone Nothing nothing refl
  reads defs rooms (Tuple ts) k = of_tuple ts (all_rooms rooms ts) (reads_tuple defs rooms ts k)
  reads defs rooms (Adt n) k = k n (inl refl)
  reads defs rooms Chars k = is_alone Chars reference refl
  reads defs rooms Nil k = is_alone Nil reference refl
  reads defs rooms (ArrayOf t) k = is_alone (ArrayOf t) reference refl
  reads defs rooms (ListOf t) k = is_alone (ListOf t) reference refl
  reads defs rooms (ChanOf t) k = is_alone (ChanOf t) reference refl
  reads defs rooms (RefAdt n) k = is_alone (RefAdt n) reference refl
  reads defs rooms (RefPick n v) k = is_alone (RefPick n v) reference refl
  reads defs rooms (Module n) k = is_alone (Module n) reference refl

  reads_tuple : (defs : List Def) (rooms : List Room) (ts : Tys) → ((n : ℕ) → Has (all_held ts) n → Laid defs (Adt n) (room_at rooms n)) → AllLaid defs (listed ts) (all_rooms rooms ts)
  reads_tuple defs rooms NoTys k = none_laid
  reads_tuple defs rooms (MoreTys t ts) k =
      more_laid t (listed ts) (room rooms t) (all_rooms rooms ts) (reads defs rooms t (λ n h. k n (has_left (held t) (all_held ts) n h)))
      (reads_tuple defs rooms ts (λ n h. k n (has_right (held t) (all_held ts) n h)))

pub reads_all : (defs : List Def) (rooms : List Room) (ts : List Ty) → ((n : ℕ) → Has (held_in ts) n → Laid defs (Adt n) (room_at rooms n)) → AllLaid defs ts (rooms_of rooms ts)
reads_all defs rooms [] k = none_laid
reads_all defs rooms (t ∷ ts) k =
    more_laid t ts (room rooms t) (rooms_of rooms ts) (reads defs rooms t (λ n h. k n (has_left (held t) (held_in ts) n h)))
    (reads_all defs rooms ts (λ n h. k n (has_right (held t) (held_in ts) n h)))

-- ---- one room at most

alone_only : (defs : List Def) (t : Ty) (r s : Room) → alone t ≡ Some r → Laid defs t s → r ≡ s
alone_only defs _ r _ e (is_alone t s f) = cc
alone_only defs _ r _ e (of_tuple ts rs h) = absurd cc
alone_only defs _ r _ e (of_adt n d rs g h) = absurd cc

in_tuple : (defs : List Def) (t : Ty) (s : Room) → Laid defs t s → (ts : Tys) → t ≡ Tuple ts → (rs : List Room) × AllLaid defs (listed ts) rs × (s ≡ in_order rs)
in_tuple defs _ _ (is_alone t s f) ts e = absurd (let g : alone (Tuple ts) ≡ Some s = ap alone (sym e) ∙ f in cc)
in_tuple defs _ _ (of_tuple us rs h) ts e = let g : us ≡ ts = cc in (rs, subst (λ (z : Tys). AllLaid defs (listed z) rs) g h, refl)
in_tuple defs _ _ (of_adt n d rs g h) ts e = absurd cc

pub in_adt : (defs : List Def) (t : Ty) (s : Room) → Laid defs t s → (n : ℕ) → t ≡ Adt n → (d : Def) × (rs : List Room) × (slice_get defs n ≡ Some d) × AllLaid defs (parts d) rs × (s ≡ in_order rs)
in_adt defs _ _ (is_alone t s f) n e = absurd (let g : alone (Adt n) ≡ Some s = ap alone (sym e) ∙ f in cc)
in_adt defs _ _ (of_tuple us rs h) n e = absurd cc
in_adt defs _ _ (of_adt m d rs g h) n e = let f : m ≡ n = cc in (d, rs, subst (λ (z : ℕ). slice_get defs z ≡ Some d) f g, h, refl)

in_none : (defs : List Def) (ts : List Ty) (rs : List Room) → AllLaid defs ts rs → ts ≡ [] → rs ≡ []
in_none defs _ _ none_laid e = refl
in_none defs _ _ (more_laid t ts r rs h hs) e = absurd cc

in_more : (defs : List Def) (us : List Ty) (ss : List Room) → AllLaid defs us ss → (t : Ty) (ts : List Ty) → us ≡ t ∷ ts → (r : Room) × (rs : List Room) × Laid defs t r × AllLaid defs ts rs × (ss ≡ r ∷ rs)
in_more defs _ _ none_laid t ts e = absurd cc
in_more defs _ _ (more_laid u us r rs h hs) t ts e =
    let f : u ≡ t = cc in
    let g : us ≡ ts = cc in
    (r, rs, subst (λ (z : Ty). Laid defs z r) f h, subst (λ (z : List Ty). AllLaid defs z rs) g hs, refl)

mutual
  pub one_room : (defs : List Def) (t : Ty) (r s : Room) → Laid defs t r → Laid defs t s → r ≡ s
  one_room defs _ _ s (is_alone t r e) k = alone_only defs t r s e k
  one_room defs _ _ s (of_tuple ts rs h) k =
      let i = in_tuple defs (Tuple ts) s k ts refl in
      ap in_order (all_one defs (listed ts) rs i.0 h i.1) ∙ sym i.2
  one_room defs _ _ s (of_adt n d rs e h) k =
      let i = in_adt defs (Adt n) s k n refl in
      let f : i.0 ≡ d = let g : slice_get defs n ≡ Some i.0 = i.2 in cc in
      ap in_order (all_one defs (parts d) rs i.1 h (subst (λ (z : Def). AllLaid defs (parts z) i.1) f i.3)) ∙ sym i.4

  pub all_one : (defs : List Def) (ts : List Ty) (rs ss : List Room) → AllLaid defs ts rs → AllLaid defs ts ss → rs ≡ ss
  all_one defs _ _ ss none_laid k = sym (in_none defs [] ss k refl)
  all_one defs _ _ ss (more_laid t ts r rs h hs) k =
      let i = in_more defs (t ∷ ts) ss k t ts refl in
      let e : r ≡ i.0 = one_room defs t r i.0 h i.2 in
      let f : rs ≡ i.1 = all_one defs ts rs i.1 hs i.3 in
      ap (λ (z : Room). z ∷ rs) e ∙ ap (λ (zs : List Room). i.0 ∷ zs) f ∙ sym i.4

-- ---- a room alone

pub align_grows : (w : Room) (ps : List Room) → w.align ≤ (all_behind w ps).align
align_grows w [] = omega arith
align_grows w (p ∷ ps) = let a = align_grows (behind w p) ps in omega arith

alone_aligned : (t : Ty) (r : Room) → alone t ≡ Some r → 1 ≤ r.align
alone_aligned (Tuple ts) r e = absurd cc
alone_aligned (Adt n) r e = absurd cc
alone_aligned Byte r e = let f : number 1 ≡ r = cc in subst (λ (z : Room). 1 ≤ z.align) f (omega arith)
alone_aligned Int r e = let f : number 4 ≡ r = cc in subst (λ (z : Room). 1 ≤ z.align) f (omega arith)
alone_aligned Big r e = let f : number 8 ≡ r = cc in subst (λ (z : Room). 1 ≤ z.align) f (omega arith)
alone_aligned Nothing r e = let f : nothing ≡ r = cc in subst (λ (z : Room). 1 ≤ z.align) f (omega arith)
alone_aligned _ r e = let f : reference ≡ r = cc in subst (λ (z : Room). 1 ≤ z.align) f (omega arith)

pub aligned : (defs : List Def) (t : Ty) (r : Room) → Laid defs t r → 1 ≤ r.align
aligned defs _ _ (is_alone t r e) = alone_aligned t r e
aligned defs _ _ (of_tuple ts rs hs) = align_grows nothing rs
aligned defs _ _ (of_adt n d rs e hs) = align_grows nothing rs

abbrev make : ℕ → ℕ → List ℕ → Room
make s a os = record { size = s; align = a; references = os }

pub behind-nothing : (r : Room) → 1 ≤ r.align → behind nothing r ≡ r
behind-nothing r l = go r.size r.align r.references l
  where
    go : (s a : ℕ) (os : List ℕ) → 1 ≤ a → behind nothing (record { size = s; align = a; references = os }) ≡ record { size = s; align = a; references = os }
    go s a os l =
        let z : next_multiple_of 0 a ≡ 0 = rw (zero-mod a) (rw (sub-zero a) (rw (mod_self a) refl)) in
        let m : max 1 a ≡ a = omega arith in
        let n : 0 + s ≡ s = omega arith in
        ap (λ (k : ℕ). make (k + s) (max 1 a) (map (λ o. k + o) os)) z
        ∙ ap (λ (k : ℕ). make k (max 1 a) (map (λ o. 0 + o) os)) n
        ∙ ap (λ (k : ℕ). make s k (map (λ o. 0 + o) os)) m
        ∙ ap (λ (os : List ℕ). make s a os) (shift-none os)
