-- What is being made ready where code is made, and the tables by which jumps and calls are looked up.
use Rattle.std.specs.Prelude.{ℕ, ◌+◌, ◌≡◌, List, [], ◌∷◌, map, reverse}
use Rattle.limbo_values.specs.declared.number.Kind.{Kind}
use Rattle.limbo_typed.specs.declared.print.Piece.{Piece}
use Rattle.limbo_typed.specs.declared.print.Piece.TheVariants as piece
use Rattle.slot_code.specs.Code.{Inst, Function}
use Rattle.dis_objects.specs.declared.ready.Callee as ready_callee
use Rattle.dis_objects.specs.declared.ready.Callee.TheVariants as ready
use Rattle.dis_objects.specs.declared.ready.Making.{Making}
use Rattle.dis_objects.specs.declared.room.Room as code_room
use Rattle.dis_objects.specs.Frames.{Callee, Calls, Prints, Room, room_of, hole_kinds, all_bytes}
use Rattle.dis_objects.specs.Code.{size, sizes, doubled, hole_text}
use Rattle.dis_objects.specs.Objects.{entry_size}

-- ---- the code's tables, as the definitions have them

abbrev pub view_callee : ready_callee.Callee → Callee
view_callee (ready.Calls f) = Calls f
view_callee (ready.Prints ps) = Prints ps.now

-- What is being made ready, the innermost first.
abbrev pub made_of : Making → List Callee
made_of m = reverse (map view_callee m.callees.items)

-- Its arguments are counted.
abbrev pub IsCounted : List Function → Making → Type 0
IsCounted fs m = m.bytes ≡ all_bytes fs (made_of m)

abbrev pub view_room : code_room.Room → Room
view_room r = record { bigs = r.bigs; ints = r.ints; bytes = r.bytes; made = r.made; arguments = r.arguments; size = r.size }

-- ---- pieces of formats

-- The kinds of the numbers that a piece takes, and its text.
abbrev pub piece_kinds : Piece → List Kind
piece_kinds (piece.Chars cs) = []
piece_kinds (piece.Hole h) = hole_kinds h

abbrev pub piece_text : Piece → List ℕ
piece_text (piece.Chars cs) = doubled cs
piece_text (piece.Hole h) = hole_text h

-- ---- places

-- How many instructions the code of these functions has, and that of a module.
abbrev pub functions_size : List Function → ℕ
functions_size [] = 0
functions_size (f ∷ fs) = sizes f.code + functions_size fs

abbrev pub code_size : List Function → ℕ
code_size fs = entry_size fs + functions_size fs

-- Where the code of each function begins, that of the first at this place.
abbrev pub entries_from : ℕ → List Function → List ℕ
entries_from at [] = []
entries_from at (f ∷ fs) = at ∷ entries_from (at + sizes f.code) fs

-- Where the code of each instruction begins, that of the first at this place, and where that of the last ends.
abbrev pub places_from : ℕ → List Inst → List ℕ
places_from at [] = at ∷ []
places_from at (i ∷ is) = at ∷ places_from (at + size i) is
