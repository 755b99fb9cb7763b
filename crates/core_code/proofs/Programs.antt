-- More programs: their code tells what they tell. Both sides are computed, and compared by a test. The programs end by themselves, but for
-- the last ones, which break.
use Rattle.std.proofs.Common.{◌≡◌, ℕ, negsuc, true, false, Bool, ◌&&◌, List, [], ◌∷◌, Some, None, refl, codes}
use Rattle.std.specs.Prelude.{nat_eq}
use Rattle.std.specs.Int.{int_wrap}
use Rattle.std.specs.Fmt.{digits}
use Rattle.limbo_types.specs.Types as ty
use Rattle.limbo_types.specs.Types.{Ty, NoTys, MoreTys, Int, Nothing, ArrayOf, ListOf, Adt}
use Rattle.limbo_layout.specs.Adts.{Def}
use Rattle.limbo_values.specs.declared.number.Kind.TheVariants as kind
use Rattle.limbo_values.specs.declared.operator.Operator.TheVariants as operator
use Rattle.limbo_values.specs.declared.operator.Comparison.TheVariants as comparison
use Rattle.limbo_typed.specs.declared.operation.Operation.TheVariants as operation
use Rattle.limbo_typed.specs.declared.operation.Sequence.TheVariants as sequence
use Rattle.limbo_typed.specs.declared.operation.Connective.TheVariants as connective
use Rattle.limbo_typed.specs.Typed as typed
use Rattle.limbo_typed.specs.Typed.{Expr, Of, Optional, Absent, Present, Items, NoItems, Place, At, Pattern, ToPlace, ToNothing, ToParts}
use Rattle.limbo_typed.specs.Typed.{NoPatterns, MorePatterns, Stmt, Eval, If, While, Do, For, Break, Continue, Return, Declare, Module}
use Rattle.system_model.specs.Ending.{Ending, Ended, Broken}
use Rattle.limbo_meaning.proofs.Examples.{Tells, Prints, Frees, Stops, outcome, function, made_of, exprs, stmts, number, num, chars, nil}
use Rattle.limbo_meaning.proofs.Examples.{apply}
use Rattle.limbo_meaning.proofs.Examples.{plus, len, read, var, glob, item, field, set, items, print_number, print_string, up, more, ints}
use Rattle.limbo_meaning.proofs.Examples.{int_list, cons, node, node_ref, node_def, new_node, leaf, left, worth}
use Rattle.limbo_meaning.proofs.Temporaries.{head_of, tail_of, pair_type, nodes, smaller, is_some_list, shape, line_ref, shape_def}
use Rattle.core_code.proofs.Examples.{code_outcome}

-- ---- the test

abbrev same_list : List ℕ → List ℕ → Bool
same_list [] [] = true
same_list (a ∷ rest) (b ∷ bs) = nat_eq a b && same_list rest bs
same_list _ _ = false

abbrev same_end : Ending → Ending → Bool
same_end Ended Ended = true
same_end (Broken a) (Broken b) = same_list a b
same_end _ _ = false

abbrev same_tells : Tells → Tells → Bool
same_tells (Prints a) (Prints b) = same_list a b
same_tells (Frees a) (Frees b) = same_list a b
same_tells (Stops a) (Stops b) = same_end a b
same_tells _ _ = false

abbrev same : List Tells → List Tells → Bool
same [] [] = true
same (a ∷ rest) (b ∷ bs) = same_tells a b && same rest bs
same _ _ = false

abbrev stops : List Tells → Bool
stops [] = false
stops (Stops how ∷ rest) = true
stops (a ∷ rest) = stops rest

abbrev ends : List Tells → Bool
ends [] = false
ends (Stops Ended ∷ rest) = true
ends (a ∷ rest) = ends rest

-- The program ends by itself, or only stops, and its code tells the same.
abbrev Agrees : Module → Type 0
Agrees m = (ends (outcome 600 m []) && same (code_outcome 10000 600 m []) (outcome 600 m [])) ≡ true

abbrev Stands : Module → Type 0
Stands m = (stops (outcome 600 m []) && same (code_outcome 10000 600 m []) (outcome 600 m [])) ≡ true

-- ---- shorter words for trees

abbrev lists : ℕ → Expr
lists x = read (var int_list x)

abbrev int_at : ℕ → Expr
int_at x = read (var Int x)

abbrev both : Expr → Expr → Expr
both a b = Of Int (typed.Lazy connective.And a b)

abbrev either : Expr → Expr → Expr
either a b = Of Int (typed.Lazy connective.Or a b)

abbrev equal : Expr → Expr → Expr
equal a b = apply Int (operation.Compare comparison.Equal kind.Int) (a ∷ b ∷ [])

abbrev list_of : List ℕ → Expr
list_of [] = nil int_list
list_of (n ∷ ns) = cons int_list (num n) (list_of ns)

abbrev tuple : Ty → List Expr → Expr
tuple t es = apply t operation.Tuple es

abbrev part : Ty → Expr → ℕ → Expr
part t e n = Of t (typed.Part e n)

abbrev call : Ty → ℕ → List Expr → Expr
call t f es = Of t (typed.Call f (exprs es))

abbrev at_field : Ty → ℕ → Place → Place
at_field t n p = At t (typed.Field p n)

abbrev assigned : Ty → Pattern → Expr → Expr
assigned t p e = Of t (typed.Assign p e)

abbrev to_two : Pattern → Pattern → Pattern
to_two p q = ToParts (MorePatterns p (MorePatterns q NoPatterns))

-- `array[n] of {.. , * => e}`, and one without `*`
abbrev filled : Ty → ℕ → List (ℕ × Expr) → Expr → Expr
filled t n is e = Of t (typed.Filled (Present (num n)) (items is) (Present e))

abbrev written : Ty → ℕ → List (ℕ × Expr) → Expr
written t n is = Of t (typed.Filled (Present (num n)) (items is) Absent)

abbrev long : Expr → Expr
long e = len (operation.Length sequence.Array) e

abbrev node_in : ℕ → ℕ → Place
node_in x i = item node_ref (read (var nodes x)) (num i)

-- pair(l: list of int): (int, list of int) { return (hd l, tl l); }
abbrev pairing : typed.Function
pairing = function (int_list ∷ []) pair_type (int_list ∷ [])
    (Return (Some (tuple pair_type (head_of (lists 0) ∷ tail_of (lists 0) ∷ []))) ∷ [])

-- ---- (l, m) = (m, l);  the parts move into the tuple's slot, and both places take theirs

abbrev two_lists : Ty
two_lists = ty.Tuple (MoreTys int_list (MoreTys int_list NoTys))

unfoldable swap : Module
swap = made_of [] [] (function [] Nothing (int_list ∷ int_list ∷ [])
    (set (var int_list 0) (list_of (7 ∷ []))
    ∷ set (var int_list 1) (list_of (8 ∷ []))
    ∷ Eval (assigned two_lists (to_two (ToPlace (var int_list 0)) (ToPlace (var int_list 1))) (tuple two_lists (lists 1 ∷ lists 0 ∷ [])))
    ∷ print_number (head_of (lists 0))
    ∷ set (var int_list 0) (nil int_list)
    ∷ print_number (head_of (lists 1))
    ∷ set (var int_list 1) (nil int_list)
    ∷ print_number (num 1)
    ∷ []) ∷ [])

swap_agrees : Agrees swap
unfolding swap int_wrap digits lib.Utf8.encode
swap_agrees = refl

-- ---- p := (pair(l), tl tl l); hd p.t0.t1; hd (pair(p.t1), p.t1).t1; (pair(1 :: 2 :: nil), 3 :: nil).t0.t0;  parts of parts, of a variable
-- and of answers

abbrev nested_type : Ty
nested_type = ty.Tuple (MoreTys pair_type (MoreTys int_list NoTys))

unfoldable nested : Module
nested = made_of [] [] (function [] Nothing (int_list ∷ nested_type ∷ [])
    (set (var int_list 0) (list_of (7 ∷ 8 ∷ 9 ∷ []))
    ∷ set (var nested_type 1) (tuple nested_type (call pair_type 1 (lists 0 ∷ []) ∷ tail_of (tail_of (lists 0)) ∷ []))
    ∷ set (var int_list 0) (nil int_list)
    ∷ print_number (head_of (part int_list (part pair_type (read (var nested_type 1)) 0) 1))
    ∷ print_number (head_of (part int_list (tuple nested_type (call pair_type 1 (part int_list (read (var nested_type 1)) 1 ∷ [])
    ∷ part int_list (read (var nested_type 1)) 1
    ∷ [])) 1))
    ∷ Eval (part Int (part pair_type (tuple nested_type (call pair_type 1 (list_of (1 ∷ 2 ∷ []) ∷ []) ∷ list_of (3 ∷ []) ∷ [])) 0) 0)
    ∷ print_number (num 5)
    ∷ set (var nested_type 1) (Of nested_type typed.Nil)
    ∷ print_number (num 6)
    ∷ []) ∷ pairing ∷ [])

nested_agrees : Agrees nested
unfolding nested int_wrap digits lib.Utf8.encode
nested_agrees = refl

-- ---- p := (l != nil && tl l != nil && tl tl l != nil, tl l); f(hd l < 9 || tl l != nil, 1 :: tl l); ..  decisions within tuples and
-- arguments, whose right operands hold lists

unfoldable decisions : Module
decisions = made_of [] [] (function [] Nothing (int_list ∷ Int ∷ pair_type ∷ [])
    (set (var int_list 0) (list_of (7 ∷ 8 ∷ []))
    ∷ set (var pair_type 2) (tuple pair_type (both (is_some_list (lists 0)) (both (is_some_list (tail_of (lists 0)))
    (is_some_list (tail_of (tail_of (lists 0)))))
    ∷ tail_of (lists 0)
    ∷ []))
    ∷ print_number (part Int (read (var pair_type 2)) 0)
    ∷ print_number (call Int 1 (either (smaller (head_of (lists 0)) (num 9)) (is_some_list (tail_of (lists 0)))
    ∷ cons int_list (num 1) (tail_of (lists 0))
    ∷ []))
    ∷ print_number (plus (both (num 0) (is_some_list (lists 0))) (either (num 0) (is_some_list (list_of (3 ∷ [])))))
    ∷ print_number (both (num 1) (is_some_list (cons int_list (num 3) (lists 0))))
    ∷ set (var int_list 0) (nil int_list)
    ∷ print_number (either (is_some_list (lists 0)) (is_some_list (part int_list (read (var pair_type 2)) 1)))
    ∷ [])
    ∷ function (Int ∷ int_list ∷ []) Int (Int ∷ int_list ∷ []) (Return (Some (plus (int_at 0) (head_of (lists 1)))) ∷ [])
    ∷ [])

decisions_agree : Agrees decisions
unfolding decisions int_wrap digits lib.Utf8.encode
decisions_agree = refl

-- ---- g := array[2] of {* => array[2] of {1 => ref Node(9, ..), * => ref Node(1, ..)}}; ..  chains within chains, and one without a turn

abbrev grid : Ty
grid = ArrayOf nodes

unfoldable chains : Module
chains = made_of (node_def ∷ []) [] (function [] Nothing (grid ∷ [])
    (set (var grid 0) (filled grid 2 [] (filled nodes 2 ((1, leaf 9) ∷ []) (leaf 1)))
    ∷ print_number (read (worth (item node_ref (read (item nodes (read (var grid 0)) (num 1))) (num 1))))
    ∷ set (item nodes (read (var grid 0)) (num 0)) (nil nodes)
    ∷ print_number (long (filled grid 3 ((1, filled nodes 1 [] (leaf 1)) ∷ []) (filled nodes 0 [] (leaf 1))))
    ∷ set (var grid 0) (nil grid)
    ∷ print_number (num 4)
    ∷ []) ∷ [])

chains_agree : Agrees chains
unfolding chains int_wrap digits lib.Utf8.encode
chains_agree = refl

-- ---- m = l = tl l; hd (l = 3 :: m); l != nil && 1 < len array[2] of {* => ref Node(1, ..)};  what assignments give, and a chain that
-- isn't always begun

unfoldable passing : Module
passing = made_of (node_def ∷ []) [] (function [] Nothing (int_list ∷ int_list ∷ [])
    (set (var int_list 0) (list_of (7 ∷ 8 ∷ []))
    ∷ set (var int_list 1) (assigned int_list (ToPlace (var int_list 0)) (tail_of (lists 0)))
    ∷ print_number (head_of (assigned int_list (ToPlace (var int_list 0)) (cons int_list (num 3) (lists 1))))
    ∷ set (var int_list 1) (nil int_list)
    ∷ print_number (both (is_some_list (lists 0)) (smaller (num 1) (long (filled nodes 2 [] (leaf 1)))))
    ∷ print_number (either (is_some_list (lists 0)) (smaller (num 1) (long (filled nodes 2 [] (leaf 1)))))
    ∷ []) ∷ [])

passing_agrees : Agrees passing
unfolding passing int_wrap digits lib.Utf8.encode
passing_agrees = refl

-- ---- a := array[3] of {ref Node(4, ..), 2 => ref Node(6, ..), * => ref Node(5, ..)}; n := (a[1:] = b)[0]; a[0].v += a[1].v; a[1].v++;
-- a[0].l = a[1]; a = a[1:];  the slot that counts the others had a number before

unfoldable counted : Module
counted = made_of (node_def ∷ []) [] (function [] Nothing (nodes ∷ nodes ∷ node_ref ∷ [])
    (print_number (plus (plus (plus (num 1) (num 2)) (plus (num 3) (num 4)))
    (plus (plus (num 5) (num 6)) (plus (num 7) (plus (num 8) (num 9)))))
    ∷ set (var nodes 0) (filled nodes 3 ((0, leaf 4) ∷ (2, new_node (num 6) (leaf 7) (nil node_ref)) ∷ []) (leaf 5))
    ∷ set (var nodes 1) (written nodes 2 ((0, leaf 14) ∷ (1, leaf 15) ∷ []))
    ∷ set (var node_ref 2) (read (item node_ref (Of nodes (typed.Copy (read (var nodes 0)) (num 1) (read (var nodes 1)))) (num 0)))
    ∷ print_number (read (worth (var node_ref 2)))
    ∷ print_number (read (worth (node_in 0 2)))
    ∷ set (var nodes 1) (nil nodes)
    ∷ more (operation.Arithmetic operator.Add kind.Int) (worth (node_in 0 0)) (read (worth (node_in 0 1)))
    ∷ print_number (read (worth (node_in 0 0)))
    ∷ print_number (up (worth (node_in 0 1)))
    ∷ set (left (node_in 0 0)) (read (node_in 0 1))
    ∷ set (node_in 0 1) (nil node_ref)
    ∷ print_number (read (worth (left (node_in 0 0))))
    ∷ set (var nodes 0) (apply nodes (operation.Slice sequence.Array true false) (read (var nodes 0) ∷ num 1 ∷ []))
    ∷ set (var nodes 0) (nil nodes)
    ∷ print_number (num 1)
    ∷ []) ∷ [])

counted_agrees : Agrees counted
unfolding counted int_wrap digits lib.Utf8.encode
counted_agrees = refl

-- ---- for (i = 0; i < 5; i++) { if (i == 1) continue; if (i == 3) break; l = i :: l; .. } do { .. while (j < 2) { j++; .. continue of the
-- outer one } .. } while (l != nil); for (;;) while () break of both;  and a return within a loop

unfoldable loops : Module
loops = made_of [] [] (function [] Nothing (Int ∷ Int ∷ int_list ∷ [])
    (For (Some (assigned Int (ToPlace (var Int 0)) (num 0))) (Some (smaller (int_at 0) (num 5))) (Some (up (var Int 0)))
    (stmts (If (equal (int_at 0) (num 1)) (stmts (Continue 0 ∷ [])) (stmts [])
    ∷ If (equal (int_at 0) (num 3)) (stmts (Break 0 ∷ [])) (stmts (set (var int_list 2) (cons int_list (int_at 0) (lists 2)) ∷ []))
    ∷ print_number (head_of (lists 2))
    ∷ []))
    ∷ Do (stmts (set (var int_list 2) (tail_of (lists 2))
    ∷ While (Some (smaller (int_at 1) (num 2))) (stmts (Eval (up (var Int 1))
    ∷ If (smaller (int_at 1) (num 2)) (stmts (Continue 0 ∷ [])) (stmts (Continue 1 ∷ []))
    ∷ []))
    ∷ print_number (num 77)
    ∷ Break 0
    ∷ [])) (Some (is_some_list (lists 2)))
    ∷ print_number (int_at 1)
    ∷ print_number (call Int 1 (list_of (4 ∷ 5 ∷ []) ∷ []))
    ∷ For None None None (stmts (While None (stmts (Break 1 ∷ [])) ∷ []))
    ∷ print_number (num 2)
    ∷ [])
    ∷ function (int_list ∷ []) Int (int_list ∷ [])
    (While (Some (num 1)) (stmts (If (apply Int operation.Identical (tail_of (lists 0) ∷ nil int_list ∷ []))
    (stmts (Return (Some (head_of (lists 0))) ∷ [])) (stmts [])
    ∷ set (var int_list 0) (tail_of (lists 0))
    ∷ []))
    ∷ [])
    ∷ [])

loops_agree : Agrees loops
unfolding loops int_wrap digits lib.Utf8.encode
loops_agree = refl

-- ---- n := make(ref Node(3, ..)); n.r.v; make(ref Node(5, ..)).l.v; ns := list of {ref Node(21, ..), ..};
-- Shape.Line(8, ref Node(9, ..)).n; x := ref s;  adts as values, fields of answers, a list literal of references

abbrev node_list : Ty
node_list = ListOf node_ref

abbrev line : ℕ → ℕ → Expr
line n m = apply shape (operation.Adt 1 (Some 1)) (num n ∷ leaf m ∷ [])

unfoldable adts : Module
adts = made_of (node_def ∷ shape_def ∷ []) [] (function [] Nothing (node ∷ node_list ∷ shape ∷ line_ref ∷ [])
    (set (var node 0) (call node 1 (leaf 3 ∷ []))
    ∷ print_number (read (worth (at_field node_ref 2 (var node 0))))
    ∷ print_number (read (field node (part node_ref (call node 1 (leaf 5 ∷ [])) 1) Int 0))
    ∷ set (var node_list 1) (apply node_list operation.List (leaf 21 ∷ leaf 22 ∷ new_node (num 23) (leaf 24) (nil node_ref) ∷ []))
    ∷ set (var node_list 1) (apply node_list operation.Tail (read (var node_list 1) ∷ []))
    ∷ set (var shape 2) (line 4 6)
    ∷ print_number (part Int (line 8 9) 1)
    ∷ Eval (part node_ref (line 8 9) 2)
    ∷ print_number (num 10)
    ∷ set (var line_ref 3) (apply line_ref operation.Ref (read (var shape 2) ∷ []))
    ∷ set (var shape 2) (Of shape typed.Nil)
    ∷ print_number (read (worth (field shape (read (var line_ref 3)) node_ref 2)))
    ∷ set (var line_ref 3) (nil line_ref)
    ∷ print_number (num 11)
    ∷ set (var node 0) (Of node typed.Nil)
    ∷ set (var node_list 1) (nil node_list)
    ∷ print_number (num 12)
    ∷ [])
    ∷ function (node_ref ∷ []) node (node_ref ∷ [])
    (Return (Some (apply node (operation.Adt 0 None) (num 1 ∷ read (var node_ref 0)
    ∷ new_node (num 2) (read (var node_ref 0)) (nil node_ref)
    ∷ []))) ∷ [])
    ∷ [])

adts_agree : Agrees adts
unfolding adts int_wrap digits lib.Utf8.encode
adts_agree = refl

-- ---- a[0] = (5, tl l); a[1].t1 = tl tl l; p = a[0]; p.t1 = nil; b[i++] = c[i++]++; s[len s] = 'c'; s += "z"; i: int;  places within
-- places, of the function and of the module

abbrev pairs_array : Ty
pairs_array = ArrayOf pair_type

abbrev pair_in : ℕ → Place
pair_in i = item pair_type (read (var pairs_array 1)) (num i)

unfoldable places : Module
places = made_of [] (pair_type ∷ ty.Chars ∷ []) (function [] Nothing (int_list ∷ pairs_array ∷ Int ∷ ints ∷ ints ∷ [])
    (set (var int_list 0) (list_of (7 ∷ 8 ∷ 9 ∷ []))
    ∷ set (var pairs_array 1) (apply pairs_array operation.NewArray (num 2 ∷ []))
    ∷ set (pair_in 0) (tuple pair_type (num 5 ∷ tail_of (lists 0) ∷ []))
    ∷ set (at_field int_list 1 (pair_in 1)) (tail_of (tail_of (lists 0)))
    ∷ set (glob pair_type 0) (read (pair_in 0))
    ∷ set (var int_list 0) (nil int_list)
    ∷ print_number (plus (read (at_field Int 0 (glob pair_type 0))) (head_of (read (at_field int_list 1 (pair_in 1)))))
    ∷ set (at_field int_list 1 (glob pair_type 0)) (nil int_list)
    ∷ print_number (num 1)
    ∷ set (pair_in 0) (Of pair_type typed.Nil)
    ∷ print_number (num 2)
    ∷ set (var ints 3) (written ints 3 ((0, num 10) ∷ (1, num 20) ∷ (2, num 30) ∷ []))
    ∷ set (var ints 4) (filled ints 3 [] (up (var Int 2)))
    ∷ set (var Int 2) (num 0)
    ∷ set (item Int (read (var ints 3)) (up (var Int 2))) (up (item Int (read (var ints 4)) (up (var Int 2))))
    ∷ print_number (read (item Int (read (var ints 3)) (num 0)))
    ∷ print_number (read (item Int (read (var ints 4)) (num 1)))
    ∷ set (glob ty.Chars 1) (chars (codes "ab"))
    ∷ set (At Int (typed.Character (glob ty.Chars 1) (len (operation.Length sequence.Chars) (read (glob ty.Chars 1))))) (num 99)
    ∷ more operation.Join (glob ty.Chars 1) (chars (codes "z"))
    ∷ print_string (read (glob ty.Chars 1))
    ∷ Declare (2 ∷ []) None
    ∷ print_number (int_at 2)
    ∷ If (both (is_some_list (read (at_field int_list 1 (pair_in 1)))) (smaller (num 1) (long (read (var ints 3)))))
    (stmts (print_number (num 3) ∷ [])) (stmts (print_number (num 4) ∷ []))
    ∷ set (var pairs_array 1) (nil pairs_array)
    ∷ print_number (num 5)
    ∷ []) ∷ [])

places_agree : Agrees places
unfolding places int_wrap digits lib.Utf8.encode
places_agree = refl

-- ---- f(p: (int, list of int), l: list of int): int { (nil, l) = p; (nil, nil) = pair(l); return pair(l).t0; }
-- n = f(pair(61 :: 62 :: nil), 63 :: nil);  answers within arguments, and parts that go nowhere

unfoldable answers : Module
answers = made_of [] (Int ∷ []) (function [] Nothing []
    (set (glob Int 0) (call Int 1 (call pair_type 2 (list_of (61 ∷ 62 ∷ []) ∷ []) ∷ list_of (63 ∷ []) ∷ []))
    ∷ print_number (read (glob Int 0))
    ∷ [])
    ∷ function (pair_type ∷ int_list ∷ []) Int (pair_type ∷ int_list ∷ [])
    (Eval (assigned pair_type (to_two ToNothing (ToPlace (var int_list 1))) (read (var pair_type 0)))
    ∷ Eval (assigned pair_type (to_two ToNothing ToNothing) (call pair_type 2 (lists 1 ∷ [])))
    ∷ Return (Some (part Int (call pair_type 2 (lists 1 ∷ [])) 0))
    ∷ [])
    ∷ pairing
    ∷ [])

answers_agree : Agrees answers
unfolding answers int_wrap digits lib.Utf8.encode
answers_agree = refl

-- ---- make(3).i.p.t1; array[3] of {1 => pair(l).t1, * => pair(4 :: l).t1}; array[2] of {* => In(pair(m[0]), array[1] of {* => ref Node(8,
-- ..)})};  parts that move within turns, and adts of tuples within adts

abbrev inner : Ty
inner = Adt 1

abbrev outer : Ty
outer = Adt 2

abbrev inner_def : Def
inner_def = record {
  name = codes "In";
  fields = record { name = codes "p"; ty = pair_type } ∷ record { name = codes "a"; ty = nodes } ∷ [];
  picks = [];
}

abbrev outer_def : Def
outer_def = record {
  name = codes "Out";
  fields =
      record { name = codes "x"; ty = node_ref } ∷ record { name = codes "i"; ty = inner }
      ∷ record { name = codes "y"; ty = int_list } ∷ [];
  picks = [];
}

abbrev list_array : Ty
list_array = ArrayOf int_list

abbrev inners : Ty
inners = ArrayOf inner

abbrev new_inner : Expr → Expr → Expr
new_inner p a = apply inner (operation.Adt 1 None) (p ∷ a ∷ [])

abbrev list_in : ℕ → Place
list_in i = item int_list (read (var list_array 1)) (num i)

abbrev inner_in : ℕ → Place
inner_in i = item inner (read (var inners 2)) (num i)

abbrev tail_by_pair : Expr → Expr
tail_by_pair e = part int_list (call pair_type 2 (e ∷ [])) 1

unfoldable deep : Module
deep = made_of (node_def ∷ inner_def ∷ outer_def ∷ []) [] (function [] Nothing (outer ∷ list_array ∷ inners ∷ int_list ∷ [])
    (set (var outer 0) (call outer 1 (num 3 ∷ []))
    ∷ print_number (head_of (part int_list (part pair_type (part inner (call outer 1 (num 4 ∷ [])) 1) 0) 1))
    ∷ print_number (long (part nodes (part inner (read (var outer 0)) 1) 1))
    ∷ set (var outer 0) (Of outer typed.Nil)
    ∷ print_number (num 1)
    ∷ set (var int_list 3) (list_of (5 ∷ 6 ∷ []))
    ∷ set (var list_array 1) (filled list_array 3 ((1, tail_by_pair (lists 3)) ∷ []) (tail_by_pair (cons int_list (num 4) (lists 3))))
    ∷ print_number (head_of (read (list_in 2)))
    ∷ set (var int_list 3) (nil int_list)
    ∷ set (var inners 2) (filled inners 2 [] (new_inner (call pair_type 2 (read (list_in 0) ∷ [])) (filled nodes 1 [] (leaf 8))))
    ∷ set (var list_array 1) (nil list_array)
    ∷ print_number (read (at_field Int 0 (at_field pair_type 0 (inner_in 1))))
    ∷ set (inner_in 0) (read (inner_in 1))
    ∷ print_number (read (worth (item node_ref (read (at_field nodes 1 (inner_in 0))) (num 0))))
    ∷ set (var inners 2) (nil inners)
    ∷ print_number (num 9)
    ∷ [])
    ∷ function (Int ∷ []) outer (Int ∷ [])
    (Return (Some (apply outer (operation.Adt 2 None) (leaf 1
    ∷ new_inner (call pair_type 2 (cons int_list (num 1) (cons int_list (int_at 0) (nil int_list)) ∷ [])) (filled nodes 3 [] (leaf 2))
    ∷ list_of (3 ∷ [])
    ∷ []))) ∷ [])
    ∷ pairing
    ∷ [])

deep_agrees : Agrees deep
unfolding deep int_wrap digits lib.Utf8.encode
deep_agrees = refl

-- ---- l := list of {}; sys->print("%d", len l); a := array[0] of {* => ref Node(1, ..)}; c := chan of int; sys->print("%d", c == c);

unfoldable empties : Module
empties = made_of (node_def ∷ []) [] (function [] Nothing (int_list ∷ nodes ∷ ty.ChanOf Int ∷ [])
    (print_number (plus (num 1) (num 2))
    ∷ set (var int_list 0) (apply int_list operation.List [])
    ∷ print_number (len (operation.Length sequence.List) (lists 0))
    ∷ print_number (len (operation.Length sequence.List) (apply int_list operation.List []))
    ∷ set (var nodes 1) (filled nodes 0 [] (leaf 1))
    ∷ print_number (long (read (var nodes 1)))
    ∷ set (var (ty.ChanOf Int) 2) (Of (ty.ChanOf Int) (typed.Channel Absent))
    ∷ print_number (apply Int operation.Identical (read (var (ty.ChanOf Int) 2) ∷ read (var (ty.ChanOf Int) 2) ∷ []))
    ∷ set (var (ty.ChanOf Int) 2) (nil (ty.ChanOf Int))
    ∷ print_number (num 4)
    ∷ []) ∷ [])

empties_agree : Agrees empties
unfolding empties int_wrap digits lib.Utf8.encode
empties_agree = refl

-- ---- statements that break while they hold: what the frame holds goes in that step

unfoldable breaking : Expr → Module
breaking e = made_of (node_def ∷ []) [] (function [] Nothing (int_list ∷ nodes ∷ [])
    (set (var int_list 0) (list_of (7 ∷ 8 ∷ []))
    ∷ set (var nodes 1) (filled nodes 2 [] (leaf 1))
    ∷ Eval e
    ∷ []) ∷ [])

-- a[5].v = hd (3 :: l)
no_place : Stands (breaking (assigned Int (ToPlace (worth (node_in 1 5))) (head_of (cons int_list (num 3) (lists 0)))))
unfolding breaking int_wrap digits lib.Utf8.encode
no_place = refl

-- hd tl (3 :: l) + hd tl tl l
no_cell : Stands (breaking (plus (head_of (tail_of (cons int_list (num 3) (lists 0)))) (head_of (tail_of (tail_of (lists 0))))))
unfolding breaking int_wrap digits lib.Utf8.encode
no_cell = refl

-- array[2] of {ref Node(3, ..), 7 => ref Node(4, ..), * => ref Node(5, ..)}
no_element : Stands (breaking (filled nodes 2 ((0, leaf 3) ∷ (7, leaf 4) ∷ []) (leaf 5)))
unfolding breaking int_wrap digits lib.Utf8.encode
no_element = refl

-- array[3] of {* => ref Node(hd l = tl l, ref Node(5, ..), nil)}: in the third turn
no_turn :
    Stands (breaking (filled nodes 3 [] (new_node (head_of (assigned int_list (ToPlace (var int_list 0)) (tail_of (lists 0)))) (leaf 5)
    (nil node_ref))))
unfolding breaking int_wrap digits lib.Utf8.encode
no_turn = refl

-- array[-4] of {}
no_array : Stands (breaking (Of nodes (typed.Filled (Present (number (negsuc 3))) NoItems Absent)))
unfolding breaking int_wrap digits lib.Utf8.encode
no_array = refl
