-- Where things stand in the frame of a function, in bytes: behind the linkage its variables, then bigs, ints and bytes of temporaries, the
-- address of the frame that is made for a call, and the arguments of calls that are being made ready.
use Rattle.std.specs.Prelude.{ℕ, zero, suc, ◌+◌, ◌-◌, ◌*◌, ◌/◌, max, Bool, false, nat_eq, ◌||◌, if◌then◌else◌}
use Rattle.std.specs.Prelude.{List, [], ◌∷◌, ◌++◌, map, take, Option, Some, None, slice_get}
use Rattle.std.specs.List.{range_with_len}
use Rattle.std.specs.Int.{next_multiple_of}
use Rattle.std.specs.List.{range_with_len}
use Rattle.limbo_values.specs.declared.number.Kind.{Kind}
use Rattle.limbo_values.specs.declared.number.Kind.TheVariants.{Byte, Int, Big}
use Rattle.limbo_typed.specs.declared.print.Hole.{Hole}
use Rattle.limbo_typed.specs.declared.print.Hole.TheVariants as hole
use Rattle.limbo_typed.specs.declared.print.Piece.{Piece}
use Rattle.limbo_typed.specs.declared.print.Piece.TheVariants as piece
use Rattle.slot_code.specs.Code.{Spot, Temporary, Operand, In, Number, Inst, Move, Hand, Alter, Operate, Branch}
use Rattle.slot_code.specs.Code.{Begin, Call, Format, Print, Return, Function}
use Rattle.slot_code.specs.Layout.{number_size, place_in, end_of}
use Rattle.slot_code.specs.Machine.{same_kind}

-- The linkage of a frame has 32 bytes: of its words the one at 16 has the address that the answer goes to, and the one at 20 a number on
-- its way from one conversion to the next.
abbrev pub linkage_bytes : ℕ
linkage_bytes = 32

abbrev pub answer_place : ℕ
answer_place = 16

abbrev pub passing_place : ℕ
passing_place = 20

-- The next whole word.
abbrev pub whole : ℕ → ℕ
whole n = next_multiple_of n 4

abbrev pub variable_place : Function → (number : ℕ) → ℕ
variable_place f x = place_in linkage_bytes f.variables x

-- ---- what is being made ready at a place of the code

-- A call of a function, or a print by a format.
pub data Callee : Type 0 where
  Calls : (function : ℕ) → Callee
  Prints : List Piece → Callee

abbrev pub without_first : List Callee → List Callee
without_first [] = []
without_first (c ∷ cs) = cs

-- Behind an instruction, where these are in front of it, the innermost first.
abbrev pub made_by : List Callee → Inst → List Callee
made_by cs (Begin f) = Calls f ∷ cs
made_by cs (Format ps) = Prints ps ∷ cs
made_by cs (Call k f n into) = without_first cs
made_by cs (Print n into) = without_first cs
made_by cs i = cs

-- At a place, where these are at the first.
abbrev pub made_from : List Callee → List Inst → (pc : ℕ) → List Callee
made_from cs is zero = cs
made_from cs [] (suc pc) = cs
made_from cs (i ∷ is) (suc pc) = made_from (made_by cs i) is pc

abbrev pub made_at : List Inst → (pc : ℕ) → List Callee
made_at = made_from []

-- ---- arguments

-- The kinds of the numbers that the holes of a format take: a byte was made an int.
abbrev pub hole_kinds : Hole → List Kind
hole_kinds (hole.Decimal Big) = Big ∷ []
hole_kinds (hole.Decimal k) = Int ∷ []
hole_kinds hole.Character = Int ∷ []
hole_kinds hole.Hexadecimal = Int ∷ []
hole_kinds h = []

abbrev pub printed_kinds : List Piece → List Kind
printed_kinds [] = []
printed_kinds (piece.Chars s ∷ ps) = printed_kinds ps
printed_kinds (piece.Hole h ∷ ps) = hole_kinds h ++ printed_kinds ps

-- What the frame of a callee has behind its linkage, as far as it takes arguments. That of a print begins with the format.
abbrev pub parameters_of : Option Function → List (Option Kind)
parameters_of None = []
parameters_of (Some f) = take f.parameters f.variables

abbrev pub print_parameters : List Piece → List (Option Kind)
print_parameters ps = None ∷ map Some (printed_kinds ps)

abbrev pub parameters : List Function → Callee → List (Option Kind)
parameters fs (Calls f) = parameters_of (slice_get fs f)
parameters fs (Prints ps) = print_parameters ps

-- Where its numbers begin there, and which of its parameters is the first number.
abbrev pub first_place : Callee → ℕ
first_place (Calls f) = linkage_bytes
first_place (Prints ps) = 36

abbrev pub first_number : Callee → ℕ
first_number (Calls f) = 0
first_number (Prints ps) = 1

-- Where an argument stands in the callee's frame, and how many bytes all of them take there, in whole words.
abbrev pub argument_place : List Function → Callee → (number : ℕ) → ℕ
argument_place fs c i = place_in linkage_bytes (parameters fs c) (first_number c + i)

abbrev pub argument_bytes : List Function → Callee → ℕ
argument_bytes fs c = whole (end_of linkage_bytes (parameters fs c)) - first_place c

-- So many bytes do the arguments take of all that are being made ready.
abbrev pub all_bytes : List Function → List Callee → ℕ
all_bytes fs [] = 0
all_bytes fs (c ∷ cs) = argument_bytes fs c + all_bytes fs cs

-- ---- temporaries

-- How many temporaries of a kind have the places that an instruction names.
abbrev pub spot_count : Kind → Spot → ℕ
spot_count k (Temporary j n) = if same_kind k j then suc n else 0
spot_count k s = 0

abbrev pub operand_count : Kind → Operand → ℕ
operand_count k (In s) = spot_count k s
operand_count k (Number z) = 0

abbrev pub inst_count : Kind → Inst → ℕ
inst_count k (Move s x) = max (spot_count k s) (operand_count k x)
inst_count k (Hand s x) = max (spot_count k s) (operand_count k x)
inst_count k (Alter o s x) = max (spot_count k s) (operand_count k x)
inst_count k (Operate o s x y) = max (spot_count k s) (max (operand_count k x) (operand_count k y))
inst_count k (Branch j c x y n) = max (operand_count k x) (operand_count k y)
inst_count k (Call j f n s) = spot_count k s
inst_count k (Print n s) = spot_count k s
inst_count k (Return x) = operand_count k x
inst_count k i = 0

abbrev pub count : Kind → List Inst → ℕ
count k [] = 0
count k (i ∷ is) = max (inst_count k i) (count k is)

-- The most bytes that arguments take, over the places of a code behind these.
abbrev pub most_bytes : List Function → List Callee → List Inst → ℕ
most_bytes fs cs [] = all_bytes fs cs
most_bytes fs cs (i ∷ is) = max (all_bytes fs cs) (most_bytes fs (made_by cs i) is)

-- ---- the frame of a function

-- Where each region begins, and the bytes of the frame.
pub record Room : Type 0 where
  pub bigs : ℕ
  pub ints : ℕ
  pub bytes : ℕ
  pub made : ℕ
  pub arguments : ℕ
  pub size : ℕ

abbrev pub room_from : (start bigs ints bytes arguments : ℕ) → Room
room_from start bigs ints bytes arguments =
    let at_ints = start + 8 * bigs in
    let at_made = at_ints + 4 * ints in
    let at_arguments = at_made + 4 in
    let at_bytes = at_arguments + arguments in
    record { bigs = start; ints = at_ints; made = at_made; arguments = at_arguments; bytes = at_bytes; size = whole (at_bytes + bytes) }

abbrev pub room_of : List Function → Function → Room
room_of fs f =
    room_from (whole (end_of linkage_bytes f.variables)) (count Big f.code) (count Int f.code) (count Byte f.code) (most_bytes fs [] f.code)

abbrev pub temporary_place : Room → Kind → (number : ℕ) → ℕ
temporary_place r Big n = r.bigs + 8 * n
temporary_place r Int n = r.ints + 4 * n
temporary_place r Byte n = r.bytes + n

-- The arguments of the callee that is made ready within these others stand behind theirs, at the same distances as in its frame.
abbrev pub block_place : List Function → Room → List Callee → ℕ
block_place fs r cs = r.arguments + all_bytes fs cs

abbrev pub ready_place : List Function → Room → List Callee → (number : ℕ) → ℕ
ready_place fs r [] i = 0
ready_place fs r (c ∷ cs) i = block_place fs r cs + (argument_place fs c i - first_place c)

-- ---- references

-- The places of the variables that refer.
abbrev pub reference_places : (from : ℕ) → List (Option Kind) → List ℕ
reference_places from [] = []
reference_places from (None ∷ ks) = next_multiple_of from 4 ∷ reference_places (next_multiple_of from 4 + 4) ks
reference_places from (Some k ∷ ks) =
    reference_places (next_multiple_of from (number_size k) + number_size k) ks

abbrev pub is_in : ℕ → List ℕ → Bool
is_in n [] = false
is_in n (m ∷ ms) = nat_eq n m || is_in n ms

-- Which words of a frame refer, up to the end of its variables.
abbrev pub reference_words : List (Option Kind) → List Bool
reference_words ks =
    map (λ w. is_in (4 * w) (reference_places linkage_bytes ks)) (range_with_len 0 (whole (end_of linkage_bytes ks) / 4))
