-- What frames of a few functions count, and what their slots take, worked out by hand.
use Rattle.std.proofs.Common.{◌≡◌, ℕ, zero, suc, pos, ◌+◌, ◌*◌, ◌≤◌, List, [], ◌∷◌, refl, arith, inl, inr, ◌⊎◌}
use Rattle.limbo_types.specs.Types as ty
use Rattle.limbo_types.specs.Types.{Ty, Int, Big, Nothing, MoreTys, NoTys}
use Rattle.limbo_typed.specs.declared.operation.Operation.TheVariants as operation
use Rattle.limbo_typed.specs.Typed as typed
use Rattle.limbo_typed.specs.Typed.{Of, Expr, Function, Filled, Absent, Present, NoItems}
use Rattle.limbo_layout.specs.Adts.{Def}
use Rattle.limbo_meaning.specs.Program.{routine_of, term_of}
use Rattle.limbo_meaning.proofs.Examples.{apply, num, plus, read, var, set, items, exprs, int_list, ints, function}
use Rattle.core_code.specs.Statements.{function_of}
use Rattle.core_frames.specs.Sizes.{expr_size, frame_size}
use Rattle.core_frames.specs.Even.{used}
use Rattle.core_frames.specs.Fits.{Slot, Value, block_slots, slot_bytes}
use Rattle.core_frames.specs.Places.{LiesAt}

-- ---- p = (1, 2), of an int and a big

abbrev pair : Ty
pair = ty.Tuple (MoreTys Int (MoreTys Big NoTys))

abbrev tuples : Function
tuples = function [] Nothing (pair ∷ []) (set (var pair 0) (apply pair operation.Tuple (num 1 ∷ Of Big (typed.Number (pos 2)) ∷ [])) ∷ [])

-- a pair has 16 bytes: 40, the variable's 16, an assignment, a place and a tuple of 32 each, and two numbers of 24
tuple_frame : frame_size [] tuples ≡ 40 + 16 + (3 * 32 + 2 * 24)
tuple_frame = refl

-- two numbers, and the pair
tuple_slots : slot_bytes [] (routine_of tuples) ≡ 8 + 8 + 16
tuple_slots = refl

-- ---- l = list of { 1, 2, 3 }

abbrev lists : Function
lists = function [] Nothing (int_list ∷ []) (set (var int_list 0) (apply int_list operation.List (num 1 ∷ num 2 ∷ num 3 ∷ [])) ∷ [])

-- 40, the variable's 4, and six nodes of 24: an assignment, a place, a list, three numbers
list_frame : frame_size [] lists ≡ 40 + 4 + 6 * 24
list_frame = refl

-- three numbers, and three cells
list_slots : slot_bytes [] (routine_of lists) ≡ 3 * 8 + 3 * 8
list_slots = refl

-- ---- a = array[n] of { 1, 2 + 3, * => n }

abbrev arrays : Function
arrays = function [] Nothing (ints ∷ Int ∷ []) (set (var ints 0) (Of ints (Filled (Present (read (var Int 1)))
    (items ((0, num 1) ∷ (1, plus (num 2) (num 3)) ∷ [])) (Present (read (var Int 1))))) ∷ [])

-- 40, the variables' 8, four nodes of 24 (an assignment, a place, the array, its length), and the three of the greatest element
array_frame : frame_size [] arrays ≡ 40 + 8 + (4 * 24 + 3 * 24)
array_frame = refl

-- the length, the array, the greatest element's two numbers and their sum, and the loop of the others
array_slots : slot_bytes [] (routine_of arrays) ≡ 8 + 8 + 3 * 8 + 8
array_slots = refl

-- two, the three of the greatest element, and one
array_numbers : (function_of [] (routine_of arrays)).slots ≡ 2 + 3 + 1
array_numbers = refl

-- ---- a = array of { (f()).t0, g(1, f()) }, where f gives a tuple of 32 of type big, and g one

abbrev bigs : ℕ → ty.Tys
bigs zero = NoTys
bigs (suc n) = MoreTys Big (bigs n)

abbrev wide : Ty
wide = ty.Tuple (bigs 32)

abbrev wide_value : Expr
wide_value = Of wide (typed.Call 0 typed.NoExprs)

abbrev mixed : Function
mixed = function [] Nothing (ty.ArrayOf Big ∷ []) (set (var (ty.ArrayOf Big) 0) (Of (ty.ArrayOf Big) (Filled Absent
    (items ((0, Of Big (typed.Part wide_value 0)) ∷ (1, Of Big (typed.Call 1 (exprs (num 1 ∷ wide_value ∷ [])))) ∷ [])) Absent)) ∷ [])

-- a tuple has 256 bytes: 40, the variable's 4, an assignment, a place and an array of 24 each, and two calls and a number of the second
-- element
mixed_frame : frame_size [] mixed ≡ 40 + 4 + (3 * 24 + (2 * 24 + (256 + 16)))
mixed_frame = refl

-- the length and the array; the second element has more slots, also one for the operands of its call, and takes more
mixed_numbers : (function_of [] (routine_of mixed)).slots ≡ 2 + 4
mixed_numbers = refl

mixed_slots : slot_bytes [] (routine_of mixed) ≡ 2 * 8 + (8 + 256 + (8 + 8))
mixed_slots = refl

-- Slot 2 has the tuple for the first element, and a number for the second: so slot 3 lies behind 256 bytes, or behind 8.
abbrev Lies : (number place : ℕ) → Slot → Type 0
Lies n p s = LiesAt [] 0 0 (block_slots [] (routine_of mixed).body) n p s

first_tuple : Lies 2 16 (Value wide)
first_tuple = inl (inl (inl (inr (inr (inl (inl (inl (inl (inl (inr (refl, refl, refl)))))))))))

first_part : Lies 3 (16 + 256) (Value Big)
first_part = inl (inl (inl (inr (inr (inl (inl (inl (inr (refl, refl, refl)))))))))

second_number : Lies 2 16 (Value Int)
second_number = inl (inl (inl (inr (inr (inl (inl (inr (inl (inl (inl (inr (refl, refl, refl))))))))))))

second_tuple : Lies 3 (16 + 8) (Value wide)
second_tuple = inl (inl (inl (inr (inr (inl (inl (inr (inl (inl (inr (inl (inr (refl, refl, refl)))))))))))))

-- No two places in the frame, one for slot 2 and one for slot 3, serve both elements.
no_one_place : (p q : ℕ) → 40 + 4 ≤ p → 40 + 4 ≤ q → p + 256 ≤ frame_size [] mixed → q + 256 ≤ frame_size [] mixed
    → (p + 256 ≤ q) ⊎ (q + 8 ≤ p) → (p + 8 ≤ q) ⊎ (q + 256 ≤ p) → ⊥
no_one_place p q a b c d (inl e) f = omega arith
no_one_place p q a b c d (inr e) (inl f) = omega arith
no_one_place p q a b c d (inr e) (inr f) = omega arith

-- ---- array of { * => array of { * => array of { * => l } } }: arrays of no element, of whose nodes 8 bytes are left together

abbrev empty_of : Ty → Expr → Expr
empty_of t e = Of (ty.ArrayOf t) (Filled Absent NoItems (Present e))

abbrev list_read : Expr
list_read = read (var int_list 0)

abbrev bare : Function
bare = function [] Nothing (int_list ∷ [])
    (typed.Eval (empty_of (ty.ArrayOf (ty.ArrayOf int_list)) (empty_of (ty.ArrayOf int_list) (empty_of int_list list_read))) ∷ [])

bare_frame : frame_size [] bare ≡ 40 + 4 + 4 * 24
bare_frame = refl

-- of each array its length, itself and the loop, and the list
bare_slots : slot_bytes [] (routine_of bare) ≡ 3 * (8 + 8 + 8) + 8
bare_slots = refl

-- of three arrays of no element ten slots
bare_numbers : (function_of [] (routine_of bare)).slots ≡ 3 * 3 + 1
bare_numbers = refl

-- ---- E: adt { }, and list of { e, e, .. }: a slot for each item and for each cell, and 16 bytes that each item counts

abbrev empties : List Def
empties = record { name = []; fields = []; picks = [] } ∷ []

abbrev empty_reads : ℕ → List Expr
empty_reads zero = []
empty_reads (suc n) = read (var (ty.Adt 0) 0) ∷ empty_reads n

abbrev empty_list : ℕ → Expr
empty_list n = apply (ty.ListOf (ty.Adt 0)) operation.List (empty_reads n)

-- four items have no room for slots of 12 bytes
four_items : (12 * used empties 0 (term_of (empty_list 4)) ≡ 12 * (4 + 4)) × (expr_size empties (empty_list 4) ≡ 24 + 4 * 16)
four_items = (refl, refl)

-- 13 have none for slots of 9
many_items : (9 * used empties 0 (term_of (empty_list 13)) ≡ 9 * (13 + 13)) × (expr_size empties (empty_list 13) ≡ 24 + 13 * 16)
many_items = (refl, refl)

-- So the frame of a function that makes such a list has 8 slots, and 88 bytes for them.
abbrev making : Function
making = function [] Nothing (ty.Adt 0 ∷ []) (typed.Eval (empty_list 4) ∷ [])

making_frame : frame_size empties making ≡ 40 + 0 + 88
making_frame = refl

making_numbers : (function_of empties (routine_of making)).slots ≡ 8
making_numbers = refl
