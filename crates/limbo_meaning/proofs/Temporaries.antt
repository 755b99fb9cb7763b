-- Whole programs whose statements hold what they got, and drop it at their end.
use Rattle.std.proofs.Common.{◌≡◌, negsuc, true, false, [], ◌∷◌, Some, None, refl, codes}
use Rattle.std.specs.Prelude.{slice_get}
use Rattle.std.specs.Int.{int_wrap}
use Rattle.std.specs.Fmt.{digits}
use Rattle.process_model.specs.Law.{begins}
use Rattle.limbo_types.specs.Types as ty
use Rattle.limbo_types.specs.Types.{Ty, NoTys, MoreTys, Byte, Int, Nothing, ArrayOf, ListOf, RefAdt, RefPick, Adt}
use Rattle.limbo_layout.specs.Adts.{Def}
use Rattle.limbo_values.specs.declared.number.Kind.TheVariants as kind
use Rattle.limbo_values.specs.declared.operator.Comparison.TheVariants as comparison
use Rattle.limbo_typed.specs.declared.operation.Operation.TheVariants as operation
use Rattle.limbo_typed.specs.declared.operation.Sequence.TheVariants as sequence
use Rattle.limbo_typed.specs.declared.operation.Connective.TheVariants as connective
use Rattle.limbo_typed.specs.declared.print.Printed.TheVariants as printed
use Rattle.limbo_typed.specs.declared.print.Hole.TheVariants as hole
use Rattle.limbo_typed.specs.declared.print.Piece.TheVariants as piece
use Rattle.limbo_typed.specs.Typed as typed
use Rattle.limbo_typed.specs.Typed.{Expr, Of, Number, Lazy, Assign, Copy, Filled, Call, Print, NoExprs, Absent, Present, NoItems, Place}
use Rattle.limbo_typed.specs.Typed.{At, ToPlace, ToNothing, ToParts}
use Rattle.limbo_typed.specs.Typed.{NoPatterns, MorePatterns, Stmt, NoStmts, Eval, If, For, Return, Module}
use Rattle.system_model.specs.Ending.{Ended, Broken}
use Rattle.limbo_meaning.specs.Program.{program_of}
use Rattle.limbo_meaning.specs.Runs.{first_world, first_process}
use Rattle.limbo_meaning.specs.Alone.{alone}
use Rattle.limbo_meaning.proofs.Examples.{exprs, stmts, number, num, chars, nil, apply, len, read, var, item, field, set, items}
use Rattle.limbo_meaning.proofs.Examples.{print_number, print_string}
use Rattle.limbo_meaning.proofs.Examples.{function, made_of, Prints, Frees, Stops, telling, first_routine, outcome, Breaks, ints}
use Rattle.limbo_meaning.proofs.Examples.{int_list, cons, just}
use Rattle.limbo_meaning.proofs.Examples.{node_ref, node_def, leaf, worth}

-- ---- sys->print("%d", hd tl list of {1, 2}); sys->print("%d", 3);  the cells are made from the last to the first; at the end of the
-- statement the reference to the second goes first, but the first cell still names it

unfoldable pub unnamed_list : Module
unnamed_list = made_of [] [] (function [] Nothing []
    (print_number (apply Int operation.Head (apply int_list operation.Tail (apply int_list operation.List (num 1 ∷ num 2 ∷ []) ∷ []) ∷ []))
    ∷ print_number (num 3)
    ∷ []) ∷ [])

unnamed_list_goes :
    outcome 100 unnamed_list [] ≡ Prints (codes "2") ∷ Frees (2 ∷ []) ∷ Frees (1 ∷ []) ∷ Prints (codes "3") ∷ Stops Ended ∷ Frees
    (0 ∷ []) ∷ []
unfolding unnamed_list int_wrap digits lib.Utf8.encode
unnamed_list_goes = refl

-- ---- pair(l: list of int): (int, list of int) { return (hd l, tl l); }  init() { l := 7 :: 8 :: nil; n: int; (n, l) = pair(l);
-- sys->print("%d", n); (nil, l) = pair(l); sys->print("%d", len l); (n, nil) = pair(l); }

abbrev pub pair_type : Ty
pair_type = ty.Tuple (MoreTys Int (MoreTys int_list NoTys))

abbrev pub tail_of : Expr → Expr
tail_of e = apply int_list operation.Tail (e ∷ [])

abbrev pub head_of : Expr → Expr
head_of e = apply Int operation.Head (e ∷ [])

abbrev pub pair_to : typed.Pattern → typed.Pattern → Stmt
pair_to p q =
    Eval (Of pair_type (Assign (ToParts (MorePatterns p (MorePatterns q NoPatterns)))
    (Of pair_type (Call 1 (exprs (read (var int_list 0) ∷ []))))))

unfoldable pub pairs : Module
pairs = made_of [] [] (function [] Nothing (int_list ∷ Int ∷ [])
    (set (var int_list 0) (cons int_list (num 7) (cons int_list (num 8) (nil int_list)))
    ∷ pair_to (ToPlace (var Int 1)) (ToPlace (var int_list 0))
    ∷ print_number (read (var Int 1))
    ∷ pair_to ToNothing (ToPlace (var int_list 0))
    ∷ print_number (len (operation.Length sequence.List) (read (var int_list 0)))
    ∷ pair_to (ToPlace (var Int 1)) ToNothing
    ∷ [])
    ∷ function (int_list ∷ []) pair_type (int_list ∷ [])
    (Return (Some (apply pair_type operation.Tuple (head_of (read (var int_list 0)) ∷ tail_of (read (var int_list 0)) ∷ []))) ∷ [])
    ∷ [])

pairs_go :
    outcome 200 pairs [] ≡
    Frees (2 ∷ []) ∷ Prints (codes "7") ∷ Frees (1 ∷ []) ∷ Prints (codes "0") ∷ Stops (Broken (codes "dereference of nil")) ∷ Frees
    (0 ∷ []) ∷ []
unfolding pairs int_wrap digits lib.Utf8.encode
pairs_go = refl

-- ---- a := array[2] of {* => ref Node(1, nil, nil)}; a[0].v = 5; b := a[1:]; a = nil; sys->print("%d", b[0].v);  an element anew for
-- each index; the array stays with its part, and with it both nodes

abbrev pub nodes : Ty
nodes = ArrayOf node_ref

unfoldable pub anew : Module
anew = made_of (node_def ∷ []) [] (function [] Nothing (nodes ∷ nodes ∷ [])
    (set (var nodes 0) (Of nodes (Filled (Present (num 2)) NoItems (Present (leaf 1))))
    ∷ set (worth (item node_ref (read (var nodes 0)) (num 0))) (num 5)
    ∷ set (var nodes 1) (apply nodes (operation.Slice sequence.Array true false) (read (var nodes 0) ∷ num 1 ∷ []))
    ∷ set (var nodes 0) (nil nodes)
    ∷ print_number (read (worth (item node_ref (read (var nodes 1)) (num 0))))
    ∷ set (var nodes 1) (nil nodes)
    ∷ print_number (num 0)
    ∷ []) ∷ [])

anew_goes :
    outcome 300 anew [] ≡ Prints (codes "1") ∷ Frees (1 ∷ 2 ∷ 3 ∷ []) ∷ Prints (codes "0") ∷ Stops Ended ∷ Frees (0 ∷ []) ∷ []
unfolding anew int_wrap digits lib.Utf8.encode
anew_goes = refl

-- ---- l := 1 :: 2 :: nil; for (; l != nil && hd l < 2; l = tl l) sys->print("%d", hd l); sys->print("%d", len l);

abbrev pub is_some_list : Expr → Expr
is_some_list e = apply Int operation.Distinct (e ∷ nil int_list ∷ [])

abbrev pub smaller : Expr → Expr → Expr
smaller a b = apply Int (operation.Compare comparison.Less kind.Int) (a ∷ b ∷ [])

unfoldable pub walking : Module
walking = made_of [] [] (function [] Nothing (int_list ∷ [])
    (set (var int_list 0) (cons int_list (num 1) (cons int_list (num 2) (nil int_list)))
    ∷ For None (Some (Of Int (Lazy connective.And (is_some_list (read (var int_list 0)))
    (smaller (head_of (read (var int_list 0))) (num 2)))))
    (Some (Of int_list (Assign (ToPlace (var int_list 0)) (tail_of (read (var int_list 0))))))
    (stmts (print_number (head_of (read (var int_list 0))) ∷ []))
    ∷ print_number (len (operation.Length sequence.List) (read (var int_list 0)))
    ∷ []) ∷ [])

walks :
    outcome 300 walking [] ≡ Prints (codes "1") ∷ Frees (2 ∷ []) ∷ Prints (codes "1") ∷ Stops Ended ∷ Frees (0 ∷ 1 ∷ []) ∷ []
unfolding walking int_wrap digits lib.Utf8.encode
walks = refl

-- ---- a := array[4] of {1, 2, 3, 4}; a[1:] = a[0:3]; .. a[3], a[1]; b: array of int; b[0:] = array[0] of int; a[2:] = a;

abbrev pub copy : Expr → Expr → Expr → Stmt
copy a i e = Eval (Of ints (Copy a i e))

unfoldable pub copies : Module
copies = made_of [] [] (function [] Nothing (ints ∷ ints ∷ [])
    (set (var ints 0) (Of ints (Filled Absent (items ((0, num 1) ∷ (1, num 2) ∷ (2, num 3) ∷ (3, num 4) ∷ [])) Absent))
    ∷ copy (read (var ints 0)) (num 1) (apply ints (operation.Slice sequence.Array true true) (read (var ints 0) ∷ num 0 ∷ num 3 ∷ []))
    ∷ print_number (read (item Int (read (var ints 0)) (num 3)))
    ∷ print_number (read (item Int (read (var ints 0)) (num 1)))
    ∷ copy (read (var ints 1)) (num 0) (apply ints operation.NewArray (num 0 ∷ []))
    ∷ copy (read (var ints 0)) (num 2) (read (var ints 0))
    ∷ []) ∷ [])

copies_over :
    outcome 300 copies [] ≡
    Prints (codes "3") ∷ Prints (codes "1") ∷ Frees (2 ∷ []) ∷ Stops (Broken (codes "array bounds error")) ∷ Frees (0 ∷ 1 ∷ []) ∷ []
unfolding copies int_wrap digits lib.Utf8.encode
copies_over = refl

-- ---- nil[0:0] is nil, and nil[1:] raises

nil_sliced : outcome 50 (just [] (apply ints (operation.Slice sequence.Array true true) (nil ints ∷ num 0 ∷ num 0 ∷ [])))
    [] ≡ Stops Ended ∷ Frees (0 ∷ []) ∷ []
unfolding int_wrap
nil_sliced = refl

nil_bounds : Breaks [] (apply ints (operation.Slice sequence.Array true false) (nil ints ∷ num 1 ∷ [])) (codes "array bounds error")
unfolding int_wrap
nil_bounds = refl

-- ---- f(l: list of int): list of int { return f(1 :: l); }  init() { f(nil); }  with three frames at most: what the frames hold goes in
-- the step that breaks the process

unfoldable pub endless : Module
endless = made_of [] [] (function [] Nothing [] (Eval (Of int_list (Call 1 (exprs (nil int_list ∷ [])))) ∷ [])
    ∷ function (int_list ∷ []) int_list (int_list ∷ [])
    (Return (Some (Of int_list (Call 1 (exprs (cons int_list (num 1) (read (var int_list 0)) ∷ []))))) ∷ [])
    ∷ [])

overflows :
    telling (alone 3 (program_of endless) 100
    (begins (first_world endless []) (first_process endless [] (first_routine (slice_get (program_of endless).routines 0))))).trace
    ≡ Stops (Broken (codes "stack overflow")) ∷ Frees (0 ∷ 1 ∷ 2 ∷ []) ∷ []
unfolding endless int_wrap
overflows = refl

-- ---- Shape: adt { n: int; pick { Dot => ; Line => to: ref Node; Round => r: int; } };  x := ref Shape.Line(4, ref Node(1, nil, nil)); ..
-- tagof x, x.n, x.to.v; s := sys->sprint("%c%s%x", 'a', "b", -1); sys->print("%s", s);

abbrev pub shape : Ty
shape = Adt 1

abbrev pub line_ref : Ty
line_ref = RefPick 1 1

abbrev pub shape_def : Def
shape_def = record {
  name = codes "Shape";
  fields = record { name = codes "n"; ty = Int } ∷ [];
  picks = record { name = codes "Dot"; fields = [] } ∷ record
      { name = codes "Line"; fields = record { name = codes "to"; ty = node_ref } ∷ [] }
      ∷ record { name = codes "Round"; fields = record { name = codes "r"; ty = Int } ∷ [] } ∷ [];
}

unfoldable pub shapes : Module
shapes = made_of (node_def ∷ shape_def ∷ []) [] (function [] Nothing (line_ref ∷ ty.Chars ∷ [])
    (set (var line_ref 0) (apply line_ref operation.Ref (apply shape (operation.Adt 1 (Some 1)) (num 4 ∷ leaf 6 ∷ []) ∷ []))
    ∷ print_number (apply Int operation.Tag (read (var line_ref 0) ∷ []))
    ∷ print_number (read (field shape (read (var line_ref 0)) Int 1))
    ∷ print_number (read (worth (field shape (read (var line_ref 0)) node_ref 2)))
    ∷ print_number (read (field shape (read (var line_ref 0)) Int 3))
    ∷ set (var ty.Chars 1) (Of ty.Chars (Print printed.Sprint (num 0) Absent
    (piece.Hole hole.Character ∷ piece.Hole hole.Chars ∷ piece.Hole hole.Hexadecimal ∷ [])
    (exprs (num 97 ∷ chars (codes "b") ∷ number (negsuc 0) ∷ []))))
    ∷ print_string (read (var ty.Chars 1))
    ∷ []) ∷ [])

shapes_print :
    outcome 300 shapes [] ≡
    Prints (codes "1") ∷ Prints (codes "4") ∷ Prints (codes "6") ∷ Prints (codes "0") ∷ Prints (codes "abffffffff") ∷ Stops Ended
    ∷ Frees (0 ∷ 1 ∷ 2 ∷ []) ∷ []
unfolding shapes int_wrap digits lib.Utf8.encode
shapes_print = refl
