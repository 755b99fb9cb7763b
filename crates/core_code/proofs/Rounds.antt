-- Rooms of adts by rounds are the layouts: adts that lie in one another differ, so there are at most as many as there are adts.
use Rattle.std.proofs.Common.{◌≡◌, ℕ, zero, suc, ◌+◌, ◌<◌, ◌≤◌, ◌||◌, inl, inr, true, false, List, [], ◌∷◌, length, map}
use Rattle.std.proofs.Common.{Some, refl, sym, ap, subst, ◌∙◌, arith}
use Rattle.std.specs.Prelude.{slice_get}
use Rattle.std.specs.List.{IsDistinct, AllByRecursion, list_any}
use Rattle.std.proofs.lemmas.Bool.Decides.{eqb_tells}
use Rattle.std.proofs.lemmas.Map.Steps.{length-le_from_distinct_below}
use lib.Dec.{eqb}
use Rattle.limbo_types.specs.Types.{Ty, Byte, Int, Big, Chars, Nothing, Nil, ArrayOf, ListOf, ChanOf, Tuple, Adt, RefAdt, RefPick}
use Rattle.limbo_types.specs.Types.{Module}
use Rattle.limbo_layout.specs.Adts.{Def, Has, parts, listed, held, held_in}
use Rattle.limbo_layout.specs.Layout.{Room, Laid, AllLaid, is_alone, of_tuple, of_adt, none_laid, more_laid, alone, in_order}
use Rattle.limbo_layout.specs.Layout.{nothing}
use Rattle.limbo_layout.specs.Laying.{room, rooms_of, room_at}
use Rattle.limbo_layout.specs.Paths.{Holds, HoldsWithin, at_once}
use Rattle.limbo_layout.proofs.Rooms.{all_rooms-listed, held-listed, has_left, has_right}
use Rattle.limbo_layout.proofs.Ways.{also, not_itself}
use Rattle.limbo_layout.proofs.Placed.{parts_aligned, parts_apart}
use Rattle.limbo_layout.specs.Laws.{places}
use Rattle.limbo_meaning.specs.Operations.{rooms_after}
use Rattle.core_code.specs.Rooms.{rooms_in, RoundsGiveRooms}

-- the room of a type that has no parts, whatever the table
alone_room : (rooms : List Room) (t : Ty) (r : Room) → alone t ≡ Some r → room rooms t ≡ r
alone_room rooms Byte r e = cc
alone_room rooms Int r e = cc
alone_room rooms Big r e = cc
alone_room rooms Nothing r e = cc
alone_room rooms (Tuple ts) r e = absurd cc
alone_room rooms (Adt n) r e = absurd cc
alone_room rooms Chars r e = cc
alone_room rooms Nil r e = cc
alone_room rooms (ArrayOf t) r e = cc
alone_room rooms (ListOf t) r e = cc
alone_room rooms (ChanOf t) r e = cc
alone_room rooms (RefAdt n) r e = cc
alone_room rooms (RefPick n v) r e = cc
alone_room rooms (Module n) r e = cc

mapped_at : (f : Def → Room) (defs : List Def) (n : ℕ) (d : Def) → slice_get defs n ≡ Some d → room_at (map f defs) n ≡ f d
mapped_at f [] n d e = absurd cc
mapped_at f (c ∷ defs) zero d e = let g : c ≡ d = cc in ap f g
mapped_at f (c ∷ defs) (suc n) d e = mapped_at f defs n d e

pub there_below : (defs : List Def) (n : ℕ) (d : Def) → slice_get defs n ≡ Some d → n < length defs
there_below [] n d e = absurd cc
there_below (c ∷ defs) zero d e = omega arith
there_below (c ∷ defs) (suc n) d e = let a = there_below defs n d e in omega arith

-- The adts on a way differ, and each is there.
pub record Trail (defs : List Def) (ns : List ℕ) : Type 0 where
  pub distinct : IsDistinct eqb ns
  pub below : (q : ℕ) → list_any (eqb q) ns ≡ true → q < length defs

apart_from : (n : ℕ) (ns : List ℕ) → (list_any (eqb n) ns ≡ true → ⊥) → AllByRecursion (λ y. eqb n y ≡ false) ns
apart_from n [] h = tt
apart_from n (m ∷ ns) h = (
  elim (eqb_tells n m) [
    | inl y ↦ absurd (h (ap (λ b. b || list_any (eqb n) ns) y.0))
    | inr y ↦ y.0
  ],
  apart_from n ns (λ e. elim (eqb_tells n m) [
    | inl y ↦ h (ap (λ b. b || list_any (eqb n) ns) y.0)
    | inr y ↦ h (ap (λ b. b || list_any (eqb n) ns) y.0 ∙ e)
  ]),
)

pub distinct_more : (n : ℕ) (ns : List ℕ) → AllByRecursion (λ y. eqb n y ≡ false) ns → IsDistinct eqb ns → IsDistinct eqb (n ∷ ns)
unfolding IsDistinct
distinct_more n ns a d = (a, d)

pub trail_more : (defs : List Def) (n : ℕ) (ns : List ℕ) → Trail defs ns → n < length defs → (list_any (eqb n) ns ≡ true → ⊥)
    → Trail defs (n ∷ ns)
trail_more defs n ns k l new = record {
  distinct = distinct_more n ns (apart_from n ns new) k.distinct;
  below = λ q e. elim (eqb_tells q n) [
    | inl y ↦ omega (arith, y.1)
    | inr y ↦ k.below q (sym (ap (λ b. b || list_any (eqb q) ns) y.0) ∙ e)
  ];
}

pub trail_short : (defs : List Def) (ns : List ℕ) → Trail defs ns → length ns ≤ length defs
trail_short defs ns k = length-le_from_distinct_below ns (length defs) k.distinct k.below

-- Each on the way holds in place all that types hold.
abbrev pub Leads : List Def → List ℕ → List ℕ → Type 0
Leads defs ns ms = (n m : ℕ) → list_any (eqb n) ns ≡ true → Has ms m → HoldsWithin defs n m

pub leads_more : (defs : List Def) (n : ℕ) (d : Def) (ns : List ℕ) → slice_get defs n ≡ Some d → Leads defs ns (n ∷ [])
    → Leads defs (n ∷ ns) (held_in (parts d))
leads_more defs n d ns e h q m a b =
    let at : Holds defs n m = record { def = d; there = e; has = b } in
    elim (eqb_tells q n) [
      | inl y ↦ at_once q m (subst (λ (z : ℕ). Holds defs z m) (sym y.1) at)
      | inr y ↦ also defs q n m (h q n (sym (ap (λ b. b || list_any (eqb q) ns) y.0) ∙ a) (inl refl)) (at_once n m at)
    ]

mutual
  right : (defs : List Def) (k : ℕ) (ns : List ℕ) (t : Ty) (r : Room) → Laid defs t r → Trail defs ns → Leads defs ns (held t)
      → length defs ≤ k + length ns → room (rooms_after defs k) t ≡ r
  right defs k ns _ _ (is_alone t r e) trail h l = alone_room (rooms_after defs k) t r e
  right defs k ns _ _ (of_tuple ts rs hs) trail h l =
      ap in_order (all_rooms-listed (rooms_after defs k) ts
      ∙ all_right defs k ns (listed ts) rs hs trail (subst (λ (ms : List ℕ). Leads defs ns ms) (held-listed ts) h) l)
  right defs zero ns _ _ (of_adt n d rs e hs) trail h l =
      let more = trail_short defs (n ∷ ns) (trail_more defs n ns trail (there_below defs n d e)
      (λ a. not_itself defs (Adt n) (in_order rs) (of_adt n d rs e hs) n (inl refl) (h n n a (inl refl)))) in
      absurd (omega arith)
  right defs (suc k) ns _ _ (of_adt n d rs e hs) trail h l =
      let more = trail_more defs n ns trail (there_below defs n d e)
      (λ a. not_itself defs (Adt n) (in_order rs) (of_adt n d rs e hs) n (inl refl) (h n n a (inl refl))) in
      mapped_at (λ c. in_order (rooms_of (rooms_after defs k) (parts c))) defs n d e
      ∙ ap in_order (all_right defs k (n ∷ ns) (parts d) rs hs more (leads_more defs n d ns e h) (omega arith))

  all_right : (defs : List Def) (k : ℕ) (ns : List ℕ) (ts : List Ty) (rs : List Room) → AllLaid defs ts rs → Trail defs ns
      → Leads defs ns (held_in ts) → length defs ≤ k + length ns → rooms_of (rooms_after defs k) ts ≡ rs
  all_right defs k ns _ _ none_laid trail h l = refl
  all_right defs k ns _ _ (more_laid t ts r rs a b) trail h l =
      let e = right defs k ns t r a trail (λ n m i j. h n m i (has_left (held t) (held_in ts) m j)) l in
      let f = all_right defs k ns ts rs b trail (λ n m i j. h n m i (has_right (held t) (held_in ts) m j)) l in
      ap (λ (z : Room). z ∷ rooms_of (rooms_after defs k) ts) e ∙ ap (λ (zs : List Room). r ∷ zs) f

pub no_trail : (defs : List Def) → Trail defs []
unfolding IsDistinct
no_trail defs = record { distinct = tt; below = λ q e. absurd cc }

-- nothing leads nowhere
pub no_leads : (defs : List Def) (ms : List ℕ) → Leads defs [] ms
no_leads defs ms n m a b = absurd (let z : false ≡ true = a in cc)

rows_right : (defs : List Def) (ts : List Ty) (rs : List Room) → AllLaid defs ts rs → rooms_of (rooms_in defs) ts ≡ rs
rows_right defs ts rs h = all_right defs (length defs) [] ts rs h (no_trail defs) (no_leads defs _) (omega arith)

room_right : (defs : List Def) (t : Ty) (r : Room) → Laid defs t r → room (rooms_in defs) t ≡ r
room_right defs t r h = right defs (length defs) [] t r h (no_trail defs) (no_leads defs _) (omega arith)

pub rounds_give_rooms : RoundsGiveRooms
rounds_give_rooms = record {
  rooms = room_right;
  sizes = λ defs t r h. ap (λ (z : Room). z.size) (room_right defs t r h);
  rows = rows_right;
  aligned = λ defs ts rs p h k. parts_aligned defs ts rs h nothing p
      (subst (λ (zs : List Room). Has (places nothing zs) p) (rows_right defs ts rs h) k);
  apart = λ defs ts. parts_apart (rooms_of (rooms_in defs) ts);
}
