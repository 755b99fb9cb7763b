-- Whole programs that compute: what they print, and what of the heap goes.
use Rattle.std.proofs.Common.{◌≡◌, ℕ, ℤ, pos, negsuc, true, false, List, [], ◌∷◌, map, Option, Some, None, refl, codes}
use Rattle.std.specs.Prelude.{slice_get}
use Rattle.std.specs.Int.{int_wrap}
use Rattle.std.specs.Fmt.{digits}
use Rattle.process_model.specs.Process.{Requested, Released, Over}
use Rattle.limbo_types.specs.Types as ty
use Rattle.limbo_types.specs.Types.{Ty, Tys, NoTys, MoreTys, Byte, Int, Nothing, ArrayOf, ListOf, RefAdt, Adt}
use Rattle.limbo_layout.specs.Adts.{Def}
use Rattle.limbo_values.specs.declared.number.Kind.TheVariants as kind
use Rattle.limbo_values.specs.declared.operator.Operator.TheVariants as operator
use Rattle.limbo_values.specs.declared.operator.Unary.TheVariants as unary
use Rattle.limbo_typed.specs.declared.operation.Connective.TheVariants as connective
use Rattle.limbo_typed.specs.declared.operation.Given.TheVariants as given
use Rattle.limbo_typed.specs.declared.operation.Operation.{Operation}
use Rattle.limbo_typed.specs.declared.operation.Operation.TheVariants as operation
use Rattle.limbo_typed.specs.declared.operation.Sequence.TheVariants as sequence
use Rattle.limbo_typed.specs.declared.print.Printed.TheVariants as printed
use Rattle.limbo_typed.specs.declared.print.Hole.{Hole}
use Rattle.limbo_typed.specs.declared.print.Hole.TheVariants as hole
use Rattle.limbo_typed.specs.declared.print.Piece.TheVariants as piece
use Rattle.limbo_typed.specs.Typed.{Expr, Of, Number, Nil, Read, Apply, Lazy, Assign, Update, Copy, Filled, Call, Print, Exprs, NoExprs}
use Rattle.limbo_typed.specs.Typed.{MoreExprs}
use Rattle.limbo_typed.specs.Typed.{Optional, Absent, Present, Items, NoItems, MoreItems, Place, At, Local, Global, Field, Element}
use Rattle.limbo_typed.specs.Typed.{Character}
use Rattle.limbo_typed.specs.Typed.{Target, ToPlace, ToParts, Pattern, Patterns, NoPatterns, MorePatterns, Stmt, Stmts, NoStmts, MoreStmts}
use Rattle.limbo_typed.specs.Typed.{Eval, If, Return, Var, Function, Module}
use Rattle.limbo_typed.specs.Typed as typed
use Rattle.system_model.specs.Ending.{Ending, Ended, Broken}
use Rattle.limbo_meaning.specs.Trees.{Done}
use Rattle.limbo_meaning.specs.Program.{Routine, program_of}
use Rattle.limbo_meaning.specs.Alone.{Trace, carried, told_alone}

-- ---- shorter words for trees

abbrev pub exprs : List Expr → Exprs
exprs [] = NoExprs
exprs (e ∷ es) = MoreExprs e (exprs es)

abbrev pub stmts : List Stmt → Stmts
stmts [] = NoStmts
stmts (s ∷ ss) = MoreStmts s (stmts ss)

abbrev pub number : ℤ → Expr
number z = Of Int (Number z)

abbrev pub num : ℕ → Expr
num n = number (pos n)

abbrev pub chars : List ℕ → Expr
chars s = Of ty.Chars (typed.Chars s)

abbrev pub nil : Ty → Expr
nil t = Of t Nil

abbrev pub apply : Ty → Operation → List Expr → Expr
apply t o es = Of t (Apply o (exprs es))

abbrev pub plus : Expr → Expr → Expr
plus a b = apply Int (operation.Arithmetic operator.Add kind.Int) (a ∷ b ∷ [])

abbrev pub len : Operation → Expr → Expr
len o e = apply Int o (e ∷ [])

abbrev pub read : Place → Expr
read (At t p) = Of t (Read (At t p))

abbrev pub var : Ty → ℕ → Place
var t x = At t (Local x)

abbrev pub glob : Ty → ℕ → Place
glob t x = At t (Global x)

abbrev pub item : Ty → Expr → Expr → Place
item t a i = At t (Element a i)

abbrev pub field : Ty → Expr → Ty → ℕ → Place
field a e t n = At t (Field (At a (Target e)) n)

abbrev pub set : Place → Expr → Stmt
set (At t p) e = Eval (Of t (Assign (ToPlace (At t p)) e))

abbrev pub items : List (ℕ × Expr) → Items
items [] = NoItems
items (i ∷ is) = MoreItems (pos i.0) i.1 (items is)

-- `sys->print("%d", e)` and `sys->print("%s", e)`
abbrev pub printing : Hole → Expr → Stmt
printing h e = Eval (Of Int (Print printed.Print (num 0) Absent (piece.Hole h ∷ []) (exprs (e ∷ []))))

abbrev pub print_number : Expr → Stmt
print_number e = printing (hole.Decimal kind.Int) e

abbrev pub print_string : Expr → Stmt
print_string e = printing hole.Chars e

abbrev pub variable : Ty → Var
variable t = record { name = codes "x"; ty = t }

abbrev pub function : List Ty → Ty → List Ty → List Stmt → Function
function args answer variables body = record {
  name = codes "f";
  owner = None;
  of = record { args = args; answer = answer };
  variables = map variable variables;
  catches = 0;
  body = stmts body;
}

abbrev pub made_of : List Def → List Ty → List Function → Module
made_of adts globals fs = record {
  name = codes "M";
  adts = adts;
  modules = [];
  globals = map variable globals;
  initials = [];
  functions = fs;
  declared = [];
  interfaces = [];
  system = None;
  exceptions = [];
}

-- ---- what they do

pub data Tells : Type 0 where
  Prints : List ℕ → Tells
  Frees : List ℕ → Tells
  Stops : Ending → Tells

abbrev pub telling : Trace → List Tells
telling [] = []
telling (Requested i m ∷ es) = Prints (carried m) ∷ telling es
telling (Released i ns ∷ es) = Frees ns ∷ telling es
telling (Over i how ∷ es) = Stops how ∷ telling es
telling (e ∷ es) = telling es

abbrev pub first_routine : Option Routine → Routine
first_routine (Some r) = r
first_routine None = record { variables = []; body = Done }

-- What a module does, with these words, that begins with function 0.
abbrev pub outcome : ℕ → Module → List (List ℕ) → List Tells
outcome n m words = telling (told_alone m words (first_routine (slice_get (program_of m).routines 0)) n)

-- ---- a := array[3] of {1, 2, 3}; b := a[1:]; b[0] = 9; sys->print("%d", a[1]); sys->print("%d", len b);

abbrev pub ints : Ty
ints = ArrayOf Int

unfoldable pub sharing : Module
sharing = made_of [] [] (function [] Nothing (ints ∷ ints ∷ [])
    (set (var ints 0) (Of ints (Filled (Present (num 3)) (items ((0, num 1) ∷ (1, num 2) ∷ (2, num 3) ∷ [])) Absent))
    ∷ set (var ints 1) (apply ints (operation.Slice sequence.Array true false) (read (var ints 0) ∷ num 1 ∷ []))
    ∷ set (item Int (read (var ints 1)) (num 0)) (num 9)
    ∷ print_number (read (item Int (read (var ints 0)) (num 1)))
    ∷ print_number (len (operation.Length sequence.Array) (read (var ints 1)))
    ∷ []) ∷ [])

slices_share : outcome 200 sharing [] ≡ Prints (codes "9") ∷ Prints (codes "2") ∷ Stops Ended ∷ Frees (0 ∷ 1 ∷ []) ∷ []
unfolding sharing int_wrap digits lib.Utf8.encode
slices_share = refl

-- ---- l := 1 :: 2 :: nil; sys->print("%d", hd tl l); l = tl l; sys->print("%d", len l); l = nil; sys->print("%d", len l);  the cells go
-- one after the other, each in the step that drops its last reference: of the first its `tl`, at the statement's end, was the last

abbrev pub int_list : Ty
int_list = ListOf Int

abbrev pub cons : Ty → Expr → Expr → Expr
cons t e l = apply t operation.Cons (e ∷ l ∷ [])

unfoldable pub list_goes : Module
list_goes = made_of [] [] (function [] Nothing (int_list ∷ [])
    (set (var int_list 0) (cons int_list (num 1) (cons int_list (num 2) (nil int_list)))
    ∷ print_number (apply Int operation.Head (apply int_list operation.Tail (read (var int_list 0) ∷ []) ∷ []))
    ∷ set (var int_list 0) (apply int_list operation.Tail (read (var int_list 0) ∷ []))
    ∷ print_number (len (operation.Length sequence.List) (read (var int_list 0)))
    ∷ set (var int_list 0) (nil int_list)
    ∷ print_number (len (operation.Length sequence.List) (read (var int_list 0)))
    ∷ []) ∷ [])

list_goes_so :
    outcome 200 list_goes [] ≡
    Prints (codes "2") ∷ Frees (2 ∷ []) ∷ Prints (codes "1") ∷ Frees (1 ∷ []) ∷ Prints (codes "0") ∷ Stops Ended ∷ Frees (0 ∷ []) ∷ []
unfolding list_goes int_wrap digits lib.Utf8.encode
list_goes_so = refl

-- ---- Node: adt { v: int; l, r: ref Node; };  t := ref Node(1, ref Node(2, nil, nil), ref Node(3, nil, nil)); t.l.v += 5; s := t.l;
-- sys->print("%d", s.v); s = nil; t = nil;  the three go in the step that drops the root

abbrev pub node : Ty
node = Adt 0

abbrev pub node_ref : Ty
node_ref = RefAdt 0

abbrev pub node_def : Def
node_def = record {
  name = codes "Node";
  fields =
      record { name = codes "v"; ty = Int } ∷ record { name = codes "l"; ty = node_ref } ∷ record { name = codes "r"; ty = node_ref } ∷ [];
  picks = [];
}

abbrev pub new_node : Expr → Expr → Expr → Expr
new_node v l r = apply node_ref operation.Ref (apply node (operation.Adt 0 None) (v ∷ l ∷ r ∷ []) ∷ [])

abbrev pub leaf : ℕ → Expr
leaf n = new_node (num n) (nil node_ref) (nil node_ref)

abbrev pub left : Place → Place
left p = field node (read p) node_ref 1

abbrev pub worth : Place → Place
worth p = field node (read p) Int 0

-- `p += e`
abbrev pub more : Operation → Place → Expr → Stmt
more o (At t p) e = Eval (Of t (Update o (At t p) e))

unfoldable pub tree_goes : Module
tree_goes = made_of (node_def ∷ []) [] (function [] Nothing (node_ref ∷ node_ref ∷ [])
    (set (var node_ref 0) (new_node (num 1) (leaf 2) (leaf 3))
    ∷ more (operation.Arithmetic operator.Add kind.Int) (worth (left (var node_ref 0))) (num 5)
    ∷ set (var node_ref 1) (read (left (var node_ref 0)))
    ∷ print_number (read (worth (var node_ref 1)))
    ∷ set (var node_ref 1) (nil node_ref)
    ∷ set (var node_ref 0) (nil node_ref)
    ∷ print_number (num 0)
    ∷ []) ∷ [])

tree_goes_whole :
    outcome 200 tree_goes [] ≡ Prints (codes "7") ∷ Frees (1 ∷ 2 ∷ 3 ∷ []) ∷ Prints (codes "0") ∷ Stops Ended ∷ Frees (0 ∷ []) ∷ []
unfolding tree_goes int_wrap digits lib.Utf8.encode
tree_goes_whole = refl

-- ---- s := "ab"; t := s; s[len s] = 'c'; s[0] = 'x'; t += s[1:]; sys->print("%s", s); sys->print("%s", t);

abbrev pub text : ℕ → Place
text x = var ty.Chars x

abbrev pub char_at : Place → Expr → Place
char_at p i = At Int (Character p i)

unfoldable pub strings : Module
strings = made_of [] [] (function [] Nothing (ty.Chars ∷ ty.Chars ∷ [])
    (set (text 0) (chars (codes "ab"))
    ∷ set (text 1) (read (text 0))
    ∷ set (char_at (text 0) (len (operation.Length sequence.Chars) (read (text 0)))) (num 99)
    ∷ set (char_at (text 0) (num 0)) (num 120)
    ∷ more operation.Join (text 1) (apply ty.Chars (operation.Slice sequence.Chars true false) (read (text 0) ∷ num 1 ∷ []))
    ∷ print_string (read (text 0))
    ∷ print_string (read (text 1))
    ∷ set (char_at (text 0) (num 4)) (num 120)
    ∷ []) ∷ [])

strings_are_values :
    outcome 200 strings [] ≡
    Prints (codes "xbc") ∷ Prints (codes "abbc") ∷ Stops (Broken (codes "array bounds error")) ∷ Frees (0 ∷ []) ∷ []
unfolding strings int_wrap digits lib.Utf8.encode
strings_are_values = refl

-- ---- n := 0; a := array[4] of {2 => 7, * => n++}; .. a[0], a[1], a[2], a[3]

abbrev pub up : Place → Expr
up (At t p) =
    Of t (typed.Step (operation.Alter unary.Increment kind.Int) given.Old (At t p))

unfoldable pub others : Module
others = made_of [] [] (function [] Nothing (Int ∷ ints ∷ [])
    (set (var ints 1) (Of ints (Filled (Present (num 4)) (items ((2, num 7) ∷ [])) (Present (up (var Int 0)))))
    ∷ print_number (read (item Int (read (var ints 1)) (num 0)))
    ∷ print_number (read (item Int (read (var ints 1)) (num 1)))
    ∷ print_number (read (item Int (read (var ints 1)) (num 2)))
    ∷ print_number (read (item Int (read (var ints 1)) (num 3)))
    ∷ print_number (read (item Int (read (var ints 1)) (num 4)))
    ∷ []) ∷ [])

others_anew :
    outcome 300 others [] ≡
    Prints (codes "0") ∷ Prints (codes "1") ∷ Prints (codes "7") ∷ Prints (codes "2") ∷ Stops (Broken (codes "array bounds error"))
    ∷ Frees (0 ∷ 1 ∷ []) ∷ []
unfolding others int_wrap digits lib.Utf8.encode
others_anew = refl

-- ---- array[-1] of int; array[268435457] of byte; nil.v; hd nil; nil[0]

abbrev pub just : List Def → Expr → Module
just adts e = made_of adts [] (function [] Nothing [] (Eval e ∷ []) ∷ [])

abbrev pub Breaks : List Def → Expr → List ℕ → Type 0
Breaks adts e why = outcome 50 (just adts e) [] ≡ Stops (Broken why) ∷ Frees (0 ∷ []) ∷ []

negative_size : Breaks [] (apply ints operation.NewArray (number (negsuc 0) ∷ [])) (codes "negative array size")
unfolding int_wrap
negative_size = refl

too_large : Breaks [] (apply (ArrayOf Byte) operation.NewArray (num 268435457 ∷ [])) (codes "array too large")
unfolding int_wrap
too_large = refl

no_field : Breaks (node_def ∷ []) (read (field node (nil node_ref) Int 0)) (codes "dereference of nil")
no_field = refl

no_head : Breaks [] (apply Int operation.Head (nil int_list ∷ [])) (codes "dereference of nil")
no_head = refl

no_element : Breaks [] (read (item Int (nil ints) (num 0))) (codes "dereference of nil")
unfolding int_wrap
no_element = refl

-- ---- y := 2; f(): int { y = 10; return 1; }  sys->print("%d", y + f()); sys->print("%d", f() + y);

unfoldable pub reading_first : Module
reading_first = made_of [] (Int ∷ []) (function [] Nothing []
    (set (glob Int 0) (num 2)
    ∷ print_number (plus (read (glob Int 0)) (Of Int (Call 1 NoExprs)))
    ∷ print_number (plus (Of Int (Call 1 NoExprs)) (read (glob Int 0)))
    ∷ [])
    ∷ function [] Int [] (set (glob Int 0) (num 10) ∷ Return (Some (num 1)) ∷ [])
    ∷ [])

reads_first : outcome 100 reading_first [] ≡ Prints (codes "3") ∷ Prints (codes "11") ∷ Stops Ended ∷ Frees (0 ∷ []) ∷ []
unfolding reading_first int_wrap digits lib.Utf8.encode
reads_first = refl

-- ---- the words of the program: init(ctxt, args) { args = tl args; sys->print("%s", hd args); sys->print("%d", args == nil); }

abbrev pub words_type : Ty
words_type = ListOf ty.Chars

unfoldable pub words_module : Module
words_module = made_of (node_def ∷ []) [] (function [] Nothing (node_ref ∷ words_type ∷ [])
    (set (var words_type 1) (apply words_type operation.Tail (read (var words_type 1) ∷ []))
    ∷ print_string (apply ty.Chars operation.Head (read (var words_type 1) ∷ []))
    ∷ print_number (apply Int operation.Identical (read (var words_type 1) ∷ nil words_type ∷ []))
    ∷ print_number (apply Int operation.Identical (read (var node_ref 0) ∷ nil node_ref ∷ []))
    ∷ []) ∷ [])

words_come :
    outcome 100 words_module (codes "prog" ∷ codes "one" ∷ []) ≡
    Frees (1 ∷ []) ∷ Prints (codes "one") ∷ Prints (codes "0") ∷ Prints (codes "1") ∷ Stops Ended ∷ Frees (0 ∷ 2 ∷ []) ∷ []
unfolding words_module int_wrap digits lib.Utf8.encode
words_come = refl

-- ---- b := array of byte "aé"; b[1] = byte 255; sys->print("%s", string b); sys->print("%d", int " -12x"); sys->print("%s", string 7);

abbrev pub bytes : Ty
bytes = ArrayOf Byte

unfoldable pub conversions : Module
conversions = made_of [] [] (function [] Nothing (bytes ∷ [])
    (set (var bytes 0) (apply bytes operation.TextBytes (chars (codes "aé") ∷ []))
    ∷ print_number (len (operation.Length sequence.Array) (read (var bytes 0)))
    ∷ print_string (apply ty.Chars operation.BytesText (read (var bytes 0) ∷ []))
    ∷ set (item Byte (read (var bytes 0)) (num 1)) (Of Byte (Number (pos 255)))
    ∷ print_string (apply ty.Chars operation.BytesText (read (var bytes 0) ∷ []))
    ∷ print_number (apply Int (operation.ReadNumber kind.Int) (chars (codes " -12x") ∷ []))
    ∷ print_string (apply ty.Chars (operation.NumberText kind.Int) (num 7 ∷ []))
    ∷ []) ∷ [])

converts :
    outcome 200 conversions [] ≡
    Prints (codes "3") ∷ Prints (97 ∷ 195 ∷ 169 ∷ []) ∷ Prints (97 ∷ 239 ∷ 191 ∷ 189 ∷ 239 ∷ 191 ∷ 189 ∷ []) ∷ Prints (codes "-12")
    ∷ Prints (codes "7") ∷ Stops Ended ∷ Frees (0 ∷ 1 ∷ []) ∷ []
unfolding conversions int_wrap digits lib.Utf8.encode Rattle.std.specs.Str.chars
converts = refl

-- ---- f(): int { sys->print("%d", 7); return 1; }  a := array[1] of {1 => f()};  and  a := array[1] of int; a[1] = f();  the value is
-- evaluated before the element is looked for that it is stored into

abbrev pub printing_one : Function
printing_one = function [] Int [] (print_number (num 7) ∷ Return (Some (num 1)) ∷ [])

unfoldable pub filling_first : Module
filling_first = made_of [] [] (function [] Nothing (ints ∷ [])
    (set (var ints 0) (Of ints (Filled (Present (num 1)) (items ((1, Of Int (Call 1 NoExprs)) ∷ [])) Absent))
    ∷ []) ∷ printing_one ∷ [])

fills_behind : outcome 100 filling_first [] ≡ Prints (codes "7") ∷ Stops (Broken (codes "array bounds error")) ∷ Frees (0 ∷ 1 ∷ []) ∷ []
unfolding filling_first int_wrap digits lib.Utf8.encode
fills_behind = refl

unfoldable pub storing_first : Module
storing_first = made_of [] [] (function [] Nothing (ints ∷ [])
    (set (var ints 0) (apply ints operation.NewArray (num 1 ∷ []))
    ∷ set (item Int (read (var ints 0)) (num 1)) (Of Int (Call 1 NoExprs))
    ∷ []) ∷ printing_one ∷ [])

stores_behind : outcome 100 storing_first [] ≡ Prints (codes "7") ∷ Stops (Broken (codes "array bounds error")) ∷ Frees (0 ∷ 1 ∷ []) ∷ []
unfolding storing_first int_wrap digits lib.Utf8.encode
stores_behind = refl

-- ---- f(): (array of int, array of int) { return (array[1] of int, array[2] of int); }  f(); sys->print("%d", 0);  the two that nobody
-- names go in two steps

abbrev pub two_arrays : Ty
two_arrays = ty.Tuple (MoreTys ints (MoreTys ints NoTys))

abbrev pub new_ints : ℕ → Expr
new_ints n = apply ints operation.NewArray (num n ∷ [])

unfoldable pub dropping : Module
dropping = made_of [] [] (function [] Nothing []
    (Eval (Of two_arrays (Call 1 NoExprs))
    ∷ print_number (num 0)
    ∷ [])
    ∷ function [] two_arrays [] (Return (Some (apply two_arrays operation.Tuple (new_ints 1 ∷ new_ints 2 ∷ []))) ∷ [])
    ∷ [])

drops_singly : outcome 100 dropping [] ≡ Frees (1 ∷ []) ∷ Frees (2 ∷ []) ∷ Prints (codes "0") ∷ Stops Ended ∷ Frees (0 ∷ []) ∷ []
unfolding dropping int_wrap digits lib.Utf8.encode
drops_singly = refl

-- ---- y := 2; f(): int { y = 10; return 1; }  y += f(); sys->print("%d", y);  y is read before f is called

unfoldable pub adding : Module
adding = made_of [] (Int ∷ []) (function [] Nothing []
    (set (glob Int 0) (num 2)
    ∷ more (operation.Arithmetic operator.Add kind.Int) (glob Int 0) (Of Int (Call 1 NoExprs))
    ∷ print_number (read (glob Int 0))
    ∷ [])
    ∷ function [] Int [] (set (glob Int 0) (num 10) ∷ Return (Some (num 1)) ∷ [])
    ∷ [])

adds_to_old : outcome 100 adding [] ≡ Prints (codes "3") ∷ Stops Ended ∷ Frees (0 ∷ []) ∷ []
unfolding adding int_wrap digits lib.Utf8.encode
adds_to_old = refl

-- ---- t: string;  s := "ab"; t = s; a := array[1] of string; a[0] = s; s[1] = 'x'; .. s, t, a[0]; t[0] = 'y'; .. s, t, a[0];
-- a[0][0] = 'z'; .. s, t, a[0]  a character changes in the string of its variable, or element, alone

abbrev pub shared_text : Place
shared_text = glob ty.Chars 0

abbrev pub first_text : Place
first_text = item ty.Chars (read (var (ArrayOf ty.Chars) 1)) (num 0)

abbrev pub print_three : List Stmt → List Stmt
print_three ss = print_string (read (text 0)) ∷ print_string (read shared_text) ∷ print_string (read first_text) ∷ ss

unfoldable pub three_texts : Module
three_texts = made_of [] (ty.Chars ∷ []) (function [] Nothing (ty.Chars ∷ ArrayOf ty.Chars ∷ [])
    (set (text 0) (chars (codes "ab"))
    ∷ set shared_text (read (text 0))
    ∷ set (var (ArrayOf ty.Chars) 1) (apply (ArrayOf ty.Chars) operation.NewArray (num 1 ∷ []))
    ∷ set first_text (read (text 0))
    ∷ set (char_at (text 0) (num 1)) (num 120)
    ∷ print_three (set (char_at shared_text (num 0)) (num 121)
    ∷ print_three (set (char_at first_text (num 0)) (num 122)
    ∷ print_three []))) ∷ [])

texts_kept_apart :
    outcome 400 three_texts [] ≡
    Prints (codes "ax") ∷ Prints (codes "ab") ∷ Prints (codes "ab") ∷ Prints (codes "ax") ∷ Prints (codes "yb") ∷ Prints (codes "ab")
    ∷ Prints (codes "ax") ∷ Prints (codes "yb") ∷ Prints (codes "zb") ∷ Stops Ended ∷ Frees (0 ∷ 1 ∷ []) ∷ []
unfolding three_texts int_wrap digits lib.Utf8.encode
texts_kept_apart = refl

-- ---- y: int;  f(): int { y += 1; return 5; }  0 && f(), y, 7 || f(), y, 2 && f(), y, 0 || f(), y: f is called only where its answer
-- decides, and that is then 1

abbrev pub call_one : Expr
call_one = Of Int (Call 1 NoExprs)

unfoldable pub deciding : Module
deciding = made_of [] (Int ∷ []) (function [] Nothing []
    (print_number (Of Int (Lazy connective.And (num 0) call_one)) ∷ print_number (read (glob Int 0))
    ∷ print_number (Of Int (Lazy connective.Or (num 7) call_one)) ∷ print_number (read (glob Int 0))
    ∷ print_number (Of Int (Lazy connective.And (num 2) call_one)) ∷ print_number (read (glob Int 0))
    ∷ print_number (Of Int (Lazy connective.Or (num 0) call_one)) ∷ print_number (read (glob Int 0))
    ∷ [])
    ∷ function [] Int [] (more (operation.Arithmetic operator.Add kind.Int) (glob Int 0) (num 1) ∷ Return (Some (num 5)) ∷ [])
    ∷ [])

decides_first :
    outcome 400 deciding [] ≡
    Prints (codes "0") ∷ Prints (codes "0") ∷ Prints (codes "1") ∷ Prints (codes "0") ∷ Prints (codes "1") ∷ Prints (codes "1")
    ∷ Prints (codes "1") ∷ Prints (codes "2") ∷ Stops Ended ∷ Frees (0 ∷ []) ∷ []
unfolding deciding int_wrap digits lib.Utf8.encode
decides_first = refl
