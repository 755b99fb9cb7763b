-- Parts of values, by the numbers that lead to them, where values lie in memory.
use Rattle.std.specs.Prelude.{ℕ, ◌+◌, ◌%◌, ◌≡◌, ◌<◌, List, [], ◌∷◌, length, Some, slice_get, slice_set, slice_index_or}
use Rattle.limbo_types.specs.Types as ty
use Rattle.limbo_types.specs.Types.{Ty}
use Rattle.limbo_layout.specs.Adts.{Def}
use Rattle.limbo_layout.specs.Layout.{nothing, Room, AllLaid}
use Rattle.limbo_layout.specs.Laying.{rooms_of}
use Rattle.limbo_meaning.specs.Values.{Value}
use Rattle.limbo_meaning.specs.Places.{part_at, with_part}
use Rattle.core_code.specs.Rooms.{rooms_in}
use Rattle.core_code.specs.Terms.{part_types}
use Rattle.dis_meaning.specs.Words.{Word}
use Rattle.value_words.specs.Facts.{Facts}
use Rattle.value_words.specs.Stands.{AllStand}
use Rattle.value_heaps.specs.Blocks.{AreWhole, ReferOnlyThere}
use Rattle.value_frames.specs.Frames.{room_for, row_of, within_row, within, type_within}
use Rattle.value_frames.specs.Slots.{ElseAsWas}
use Rattle.value_moves.specs.Writing.{Writes, Lies, HasRoom}

-- These numbers lead from a type to one of its parts, and on to a part of that.
abbrev pub HasPath : List Def → Ty → (part : List ℕ) → Type 0
HasPath defs t [] = Unit {0}
HasPath defs t (n ∷ ns) = (n < length (part_types defs t)) × HasPath defs (slice_index_or (part_types defs t) n ty.Nothing) ns

module _ (defs : List Def) where
  -- The room of the part to which they lead.
  abbrev pub room_within : Ty → (part : List ℕ) → Room
  room_within t part = room_for defs (type_within defs t part)

  -- Values of these types lie in a row from a byte on, which any of them would suit.
  pub record RowLies (k : Facts) (words : List Word) (at : ℕ) (types : List Ty) (values : List Value) : Type 0 where
    pub laid : AllLaid defs types (rooms_of (rooms_in defs) types)
    pub aligned : at % 8 ≡ 0
    pub whole : AreWhole words at (row_of defs types).size
    pub only : ReferOnlyThere words at (row_of defs types)
    pub stand : AllStand defs k words at nothing types (rooms_of (rooms_in defs) types) values

pub record PartsLie : Type 0 where
  -- a part lies where `within` says
  pub there : (defs : List Def) (k : Facts) (words : List Word) (at : ℕ) (t : Ty) (part : List ℕ) (v : Value) → HasPath defs t part →
      Lies defs k words at t (room_for defs t) v →
      Lies defs k words (at + within defs t part) (type_within defs t part) (room_within defs t part) (part_at part v)
  -- there is room for another part where there is room for the whole
  pub room : (defs : List Def) (words : List Word) (at : ℕ) (t : Ty) (part : List ℕ) → HasPath defs t part →
      HasRoom defs words at t (room_for defs t) →
      HasRoom defs words (at + within defs t part) (type_within defs t part) (room_within defs t part)
  -- and so there is for another value where one lies
  pub another : (defs : List Def) (k : Facts) (words : List Word) (at : ℕ) (t : Ty) (r : Room) (v : Value) →
      Lies defs k words at t r v → HasRoom defs words at t r
  -- a part is written, and all else is as it was
  pub written : (defs : List Def) (k : Facts) (target others : List Word) (at : ℕ) (t : Ty) (part : List ℕ) (v u : Value)
      (source : List Word) (from : ℕ) → HasPath defs t part → Lies defs k target at t (room_for defs t) v →
      Writes target others (at + within defs t part) source from (room_within defs t part).size →
      Lies defs k others (at + within defs t part) (type_within defs t part) (room_within defs t part) u →
      Lies defs k others at t (room_for defs t) (with_part part u v)
  -- a value of a row lies there
  pub of_row : (defs : List Def) (k : Facts) (words : List Word) (at : ℕ) (types : List Ty) (values : List Value) (n : ℕ) (t : Ty)
      (v : Value) → RowLies defs k words at types values → slice_get types n ≡ Some t → slice_get values n ≡ Some v →
      Lies defs k words (at + within_row defs types n) t (room_for defs t) v
  -- part of one is written, and all else is as it was
  pub row_written : (defs : List Def) (k : Facts) (target others : List Word) (at : ℕ) (types : List Ty) (values : List Value) (n : ℕ)
      (t : Ty) (part : List ℕ) (v u : Value) (source : List Word) (from : ℕ) → RowLies defs k target at types values →
      slice_get types n ≡ Some t → slice_get values n ≡ Some v → HasPath defs t part →
      Writes target others (at + within_row defs types n + within defs t part) source from (room_within defs t part).size →
      Lies defs k others (at + within_row defs types n + within defs t part) (type_within defs t part) (room_within defs t part) u →
      RowLies defs k others at types (slice_set values n (with_part part u v))
  -- and so are all words but those of the row
  pub row_else : (defs : List Def) (k : Facts) (target others : List Word) (at : ℕ) (types : List Ty) (values : List Value) (n : ℕ)
      (t : Ty) (part : List ℕ) (v : Value) (source : List Word) (from : ℕ) → RowLies defs k target at types values →
      slice_get types n ≡ Some t → slice_get values n ≡ Some v → HasPath defs t part →
      Writes target others (at + within_row defs types n + within defs t part) source from (room_within defs t part).size →
      ElseAsWas target others at (row_of defs types).size
