-- Where things stand in the frame of a function, in bytes: behind the linkage its variables, the parameters first, a word that refers for
-- what is on its way, and then slots of 8 bytes each, 4 for a number and 4 for a reference.
use Rattle.std.specs.Prelude.{ℕ, zero, suc, ◌+◌, ◌*◌, List, [], ◌∷◌, ◌++◌, map, take, length, slice_index_or}
use Rattle.std.specs.List.{range_with_len}
use Rattle.std.specs.Int.{next_multiple_of}
use Rattle.limbo_types.specs.Types as ty
use Rattle.limbo_types.specs.Types.{Ty, Tys}
use Rattle.limbo_types.specs.View.{tys_of}
use Rattle.limbo_layout.specs.Adts.{Def}
use Rattle.limbo_layout.specs.Layout.{Room, nothing, all_behind}
use Rattle.limbo_layout.specs.Laying.{room, rooms_of}
use Rattle.core_code.specs.Rooms.{rooms_in}
use Rattle.core_code.specs.Terms.{part_types}

-- The linkage has 32 bytes. At 16 stands the address that the answer goes to; at 20 a number on its way, which may be a big; at 24 the
-- address of an element; at 28 that of a frame that is made.
abbrev pub linkage_bytes : ℕ
linkage_bytes = 32

abbrev pub answer_place : ℕ
answer_place = 16

abbrev pub passing_place : ℕ
passing_place = 20

abbrev pub element_place : ℕ
element_place = 24

abbrev pub made_place : ℕ
made_place = 28

-- How a value stands in its slot: not at all; as a number; as a word that refers; or in a record of its own, to which the slot refers.
pub data Form : Type 0 where
  Nowhere : Form
  AsNumber : Form
  AsReference : Form
  Boxed : Form

abbrev pub form_of : Ty → Form
form_of ty.Nothing = Nowhere
form_of ty.Byte = AsNumber
form_of ty.Int = AsNumber
form_of ty.Big = Boxed
form_of (ty.Tuple ts) = Boxed
form_of (ty.Adt n) = Boxed
form_of t = AsReference

module _ (defs : List Def) where
  abbrev pub room_for : Ty → Room
  room_for t = room (rooms_in defs) t

  -- The room of values in a row, and where in it the one of a number stands.
  abbrev pub row_of : List Ty → Room
  row_of ts = all_behind nothing (rooms_of (rooms_in defs) ts)

  abbrev pub within_row : List Ty → (number : ℕ) → ℕ
  within_row ts n = next_multiple_of (row_of (take n ts)).size (room_for (slice_index_or ts n ty.Nothing)).align

  -- Where in a value of a type the part is to which these numbers lead, and of which type it is.
  abbrev pub within : Ty → (part : List ℕ) → ℕ
  within t [] = 0
  within t (n ∷ ns) = within_row (part_types defs t) n + within (slice_index_or (part_types defs t) n ty.Nothing) ns

  abbrev pub type_within : Ty → (part : List ℕ) → Ty
  type_within t [] = t
  type_within t (n ∷ ns) = type_within (slice_index_or (part_types defs t) n ty.Nothing) ns

  -- ---- where the references of a value are, strings not among them

  module _ (adt : ℕ → List ℕ) where
    abbrev mutual
      pub names_in : Ty → List ℕ
      names_in (ty.Tuple ts) = names_among nothing ts
      names_in (ty.Adt n) = adt n
      names_in ty.Chars = []
      names_in t = (room_for t).references

      -- of values in a row, behind what takes so much room
      pub names_among : Room → Tys → List ℕ
      names_among w ty.NoTys = []
      names_among w (ty.MoreTys t ts) =
          map (λ o. next_multiple_of w.size (room_for t).align + o) (names_in t) ++ names_among (all_behind w (room_for t ∷ [])) ts

  -- adts lie in one another at most so deep
  abbrev pub adt_names : (depth : ℕ) → ℕ → List ℕ
  adt_names zero n = []
  adt_names (suc k) n = names_among (adt_names k) nothing (tys_of (part_types defs (ty.Adt n)))

  abbrev pub names_at : Ty → List ℕ
  names_at t = names_in (adt_names (length defs)) t

  -- ---- a frame with these variables

  module _ (types : List Ty) where
    abbrev pub variable_place : (number : ℕ) → ℕ
    variable_place x = linkage_bytes + within_row types x

    abbrev pub spare_place : ℕ
    spare_place = next_multiple_of (linkage_bytes + (row_of types).size) 4

    abbrev pub slots_place : ℕ
    slots_place = next_multiple_of (spare_place + 4) 8

    abbrev pub number_place : (slot : ℕ) → ℕ
    number_place s = slots_place + 8 * s

    abbrev pub reference_place : (slot : ℕ) → ℕ
    reference_place s = slots_place + 8 * s + 4

    -- With so many slots it has so many bytes, and words that refer at these offsets.
    abbrev pub frame_bytes : (slots : ℕ) → ℕ
    frame_bytes slots = slots_place + 8 * slots

    abbrev pub frame_references : (slots : ℕ) → List ℕ
    frame_references slots =
        map (λ o. linkage_bytes + o) (row_of types).references ++ spare_place ∷ map (λ s. reference_place s) (range_with_len 0 slots)

  -- A record that has a value of a type takes whole words.
  abbrev pub box_bytes : Ty → ℕ
  box_bytes t = next_multiple_of (room_for t).size 4

-- ---- the records of a loop's chain: at 0 the next one, at 4 the last, and from 8 on a region of so many slots

-- The words that refer in a region of slots from a byte on.
abbrev pub region_references : (from slots : ℕ) → List ℕ
region_references from n = map (λ s. from + 8 * s + 4) (range_with_len 0 n)

abbrev pub turn_bytes : (slots : ℕ) → ℕ
turn_bytes n = 8 + 8 * n

abbrev pub turn_references : (slots : ℕ) → List ℕ
turn_references n = 0 ∷ 4 ∷ region_references 8 n
