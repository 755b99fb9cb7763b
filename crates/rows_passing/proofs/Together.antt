-- What operands are that were put together as a tuple: the values of its parts, in a row.
use Rattle.std.proofs.Common.{◌≡◌, ℕ, zero, suc, List, [], ◌∷◌, ◌++◌, length, take, drop, None, refl, sym, ap, ◌∙◌, subst, arith, inl}
use Rattle.std.specs.Prelude.{slice_set}
use Rattle.limbo_types.specs.Types as ty
use Rattle.limbo_types.specs.Types.{Ty, Tys}
use Rattle.limbo_types.specs.View.{tys_of}
use Rattle.limbo_layout.specs.Adts.{Def, listed}
use Rattle.limbo_layout.specs.Layout.{Room, AllLaid, nothing, all_behind, in_order}
use Rattle.limbo_layout.specs.Laying.{rooms_of, room}
use Rattle.limbo_layout.proofs.Rooms.{all_rooms-listed, rounded_grows}
use Rattle.limbo_typed.specs.Fitting as fitting
use Rattle.limbo_meaning.specs.Values as value
use Rattle.limbo_meaning.specs.Values.{Value, Parts, row, fitted, all_fitted, zero_of}
use Rattle.core_code.specs.Rooms.{rooms_in}
use Rattle.core_code.specs.Terms.{numbers_from}
use Rattle.core_code.proofs.Names.{listed_row}
use Rattle.core_code.proofs.Rounds.{rounds_give_rooms}
use Rattle.core_code.proofs.Whole.{values_are_whole}
use Rattle.core_typing.specs.Needs.{AllStandAs}
use Rattle.dis_meaning.specs.Words.{Word}
use Rattle.value_words.specs.Facts.{Facts}
use Rattle.value_words.specs.Stands.{Stands, AllStand, a_number, a_text, a_name, an_array, no_words, a_tuple, an_adt}
use Rattle.value_frames.specs.Forming.{begun, formed}
use Rattle.value_frames.specs.Frames.{row_of, room_for, box_bytes}
use Rattle.value_frames.specs.Types.{AreOf}
use Rattle.limbo_values.specs.declared.number.Kind.TheVariants as kind
use Rattle.rows_calling.proofs.Parameters.{same_room}
use Rattle.rows_forming.proofs.Made.{sets, formed_sets}
use Rattle.rows_passing.proofs.Lying.{HasRow, in_record}

pub listed_back : (ts : List Ty) → listed (tys_of ts) ≡ ts
listed_back [] = refl
listed_back (t ∷ ts) = ap (λ (us : List Ty). t ∷ us) (listed_back ts)

-- ---- operands at all parts, in order

set_front : (pre : List Value) (x v : Value) (xs : List Value) → slice_set (pre ++ x ∷ xs) (length pre) v ≡ pre ++ v ∷ xs
set_front [] x v xs = refl
set_front (y ∷ pre) x v xs = ap (λ (us : List Value). y ∷ us) (set_front pre x v xs)

length_more : (pre : List Value) (x : Value) → length (pre ++ x ∷ []) ≡ suc (length pre)
length_more [] x = refl
length_more (y ∷ pre) x = ap suc (length_more pre x)

more_there : (pre : List Value) (x : Value) (xs : List Value) → pre ++ x ∷ xs ≡ (pre ++ x ∷ []) ++ xs
more_there [] x xs = refl
more_there (y ∷ pre) x xs = ap (λ (us : List Value). y ∷ us) (more_there pre x xs)

module _ (defs : List Def) where
  sets_all : (pre xs vs : List Value) → length xs ≡ length vs → sets (pre ++ xs) (numbers_from defs (length pre) (length vs)) vs ≡ pre ++ vs
  sets_all pre [] [] e = refl
  sets_all pre [] (v ∷ vs) e = absurd (omega (arith, e))
  sets_all pre (x ∷ xs) [] e = absurd (omega (arith, e))
  sets_all pre (x ∷ xs) (v ∷ vs) e =
      ap (λ (us : List Value). sets us (numbers_from defs (suc (length pre)) (length vs)) vs) (set_front pre x v xs ∙ more_there pre v xs)
      ∙ (ap (λ (n : ℕ). sets ((pre ++ v ∷ []) ++ xs) (numbers_from defs n (length vs)) vs) (sym (length_more pre v))
      ∙ (sets_all (pre ++ v ∷ []) xs vs (omega (arith, e)) ∙ sym (more_there pre v vs)))

  zeros_long : (ts : List Ty) → length (all_fitted defs ts []) ≡ length ts
  zeros_long [] = refl
  zeros_long (t ∷ ts) = ap suc (zeros_long ts)

  numbers_long : (n k : ℕ) → length (numbers_from defs n k) ≡ k
  numbers_long n zero = refl
  numbers_long n (suc k) = ap suc (numbers_long (suc n) k)

  -- they are the whole value
  pub formed_is : (us : List Ty) (vs : List Value) → length us ≡ length vs
      → formed (begun defs (ty.Tuple (tys_of us)) None) (numbers_from defs 0 (length us)) vs ≡ Parts (row vs)
  formed_is us vs e =
      let zero_is : zero_of defs (ty.Tuple (tys_of us)) ≡ Parts (row (all_fitted defs us [])) =
      values_are_whole.tuples defs (tys_of us) value.nothing ∙ ap (λ (ts : List Ty). Parts (row (all_fitted defs ts []))) (listed_back us) in
      let long = zeros_long us in
      ap (λ (v : Value). formed v (numbers_from defs 0 (length us)) vs) zero_is
      ∙ (formed_sets (all_fitted defs us []) (numbers_from defs 0 (length us)) vs
      ∙ (ap (λ (n : ℕ). Parts (row (sets (all_fitted defs us []) (numbers_from defs 0 n) vs))) e
      ∙ ap (λ (xs : List Value). Parts (row xs)) (sets_all [] (all_fitted defs us []) vs (omega (arith, long, e)))))

  -- ---- what stands for them

  abbrev rooms : List Ty → List Room
  rooms ts = rooms_of (rooms_in defs) ts

  module _ (k : Facts) (words : List Word) where
    pub record StandInRow (at : ℕ) (ts : List Ty) (vs : List Value) : Type 0 where
      pub laid : AllLaid defs ts (rooms ts)
      pub stand : AllStand defs k words at nothing ts (rooms ts) vs

    in_rooms : (at : ℕ) (ts : List Ty) (rs : List Room) (vs : List Value) → AllLaid defs ts rs → AllStand defs k words at nothing ts rs vs
        → StandInRow at ts vs
    in_rooms at ts rs vs laid all =
        let same = sym (rounds_give_rooms.rows defs ts rs laid) in
        record {
          laid = subst (λ (z : List Room). AllLaid defs ts z) same laid;
          stand = subst (λ (z : List Room). AllStand defs k words at nothing ts z vs) same all;
        }

    same_values : (vs us : List Value) → Parts (row vs) ≡ Parts (row us) → vs ≡ us
    same_values vs us e = sym (listed_row vs) ∙ (ap (λ (v : Value). value.listed (value.parts_of v)) e ∙ listed_row us)

    tuple_parts : (at : ℕ) (u : Ty) (v : Value) (ts : List Ty) (vs : List Value) → u ≡ ty.Tuple (tys_of ts) → v ≡ Parts (row vs)
        → Stands defs k words at u v → StandInRow at ts vs
    tuple_parts _ _ _ ts vs e f (a_number at kind.Byte z g i) = absurd cc
    tuple_parts _ _ _ ts vs e f (a_number at kind.Int z g i) = absurd cc
    tuple_parts _ _ _ ts vs e f (a_number at kind.Big z g i) = absurd cc
    tuple_parts _ _ _ ts vs e f (a_text at r s g i) = absurd cc
    tuple_parts _ _ _ ts vs e f (a_name at t r n i g h) = absurd cc
    tuple_parts _ _ _ ts vs e f (an_array at t r p g i) = absurd cc
    tuple_parts _ _ _ ts vs e f (no_words at) = absurd cc
    tuple_parts _ _ _ ts vs e f (a_tuple at us rs xs laid all) =
        let same : us ≡ tys_of ts = cc in
        let values = same_values xs vs f in
        subst (λ (zs : List Value). StandInRow at ts zs) values
        (subst (λ (zs : List Ty). StandInRow at zs xs) (ap listed same ∙ listed_back ts) (in_rooms at (listed us) rs xs laid all))
    tuple_parts _ _ _ ts vs e f (an_adt at n d rs xs g laid all) = absurd cc

    pub parts_stand : (at : ℕ) (ts : List Ty) (vs : List Value) → Stands defs k words at (ty.Tuple (tys_of ts)) (Parts (row vs)) → StandInRow at ts vs
    parts_stand at ts vs s = tuple_parts at (ty.Tuple (tys_of ts)) (Parts (row vs)) ts vs refl refl s

  -- ---- rooms

  pub tuple_room : (us : List Ty) → room_for defs (ty.Tuple (tys_of us)) ≡ in_order (rooms us)
  tuple_room us =
      ap in_order (all_rooms-listed (rooms_in defs) (tys_of us) ∙ ap (λ (ts : List Ty). rooms ts) (listed_back us))

  pub all_as : (us ts : List Ty) → fitting.AllStand us ts → AllStandAs us ts
  all_as [] [] h = tt
  all_as [] (t ∷ ts) h = absurd h
  all_as (u ∷ us) [] h = absurd h
  all_as (u ∷ us) (t ∷ ts) h = (inl h.0, all_as us ts h.1)

  same_rooms : (us ts : List Ty) → AllStandAs us ts → rooms us ≡ rooms ts
  same_rooms [] [] h = refl
  same_rooms [] (t ∷ ts) h = absurd h
  same_rooms (u ∷ us) [] h = absurd h
  same_rooms (u ∷ us) (t ∷ ts) h =
      ap (λ (r : Room). r ∷ rooms us) (same_room (rooms_in defs) u t h.0) ∙ ap (λ (rs : List Room). room (rooms_in defs) t ∷ rs) (same_rooms us ts h.1)

  pub same_row : (us ts : List Ty) → AllStandAs us ts → row_of defs us ≡ row_of defs ts
  same_row us ts h = ap (λ (rs : List Room). all_behind nothing rs) (same_rooms us ts h)

  -- the row lies in the record of the tuple
  pub in_tuple : (us : List Ty) (words : List Word)
      → AreOf (box_bytes defs (ty.Tuple (tys_of us))) (room_for defs (ty.Tuple (tys_of us))).references words → HasRow words 0 (row_of defs us)
  in_tuple us words are =
      let is = tuple_room us in
      let grows = rounded_grows (row_of defs us) in
      let size = ap (λ (r : Room). r.size) is in
      in_record (box_bytes defs (ty.Tuple (tys_of us))) (row_of defs us) words (omega (arith, grows, size)) (omega arith)
      (subst (λ (os : List ℕ). AreOf (box_bytes defs (ty.Tuple (tys_of us))) os words) (ap (λ (r : Room). r.references) is) are)

  -- types of a list and its front
  pub front_back : {A : Type 0} (n : ℕ) (xs : List A) → take n xs ++ drop n xs ≡ xs
  front_back zero xs = refl
  front_back (suc n) [] = refl
  front_back (suc n) (x ∷ xs) = ap (λ (us : List _). x ∷ us) (front_back n xs)
