-- Which checked modules are in the part of the language that the compiler takes, and which of these run: functions over bytes, ints
-- and bigs, with all that is done with numbers, and prints on the standard output. The types that the checker gave are looked at
-- again where the code depends on them.
use Rattle.std.specs.Prelude.{ℕ, suc, ◌+◌, nat_eq, nat_lt, nat_le, ◌&&◌, ◌||◌, Bool, true, false, not, List, [], ◌∷◌, map, codes}
use Rattle.std.specs.Prelude.{if◌then◌else◌}
use Rattle.std.specs.Prelude.{Option, None, Some, slice_get}
use Rattle.std.specs.Cmp.Lexicographic.{pointwise}
use lib.Utf8.{scalar as is_scalar}
use Rattle.limbo_values.specs.Texts.{longest}
use Rattle.limbo_values.specs.declared.number.Kind.{Kind}
use Rattle.limbo_values.specs.declared.number.Kind.TheVariants as kind
use Rattle.limbo_types.specs.Types.{Ty, Nothing, Tuple, Adt, Nil}
use Rattle.limbo_types.specs.Same.{same}
use Rattle.limbo_typed.specs.declared.module.Initial.{Initial}
use Rattle.limbo_typed.specs.declared.operation.Operation.{Operation}
use Rattle.limbo_typed.specs.declared.operation.Operation.TheVariants as operation
use Rattle.limbo_typed.specs.declared.print.Printed.{Printed}
use Rattle.limbo_typed.specs.declared.print.Printed.TheVariants as printed
use Rattle.limbo_typed.specs.declared.print.Piece.{Piece}
use Rattle.limbo_typed.specs.declared.print.Piece.TheVariants as piece
use Rattle.limbo_typed.specs.declared.print.Hole.{Hole}
use Rattle.limbo_typed.specs.declared.print.Hole.TheVariants as hole
use Rattle.limbo_typed.specs.declared.stmt.Constant.TheVariants as constant
use Rattle.limbo_typed.specs.Typed as typed
use Rattle.limbo_typed.specs.Typed.{Of, At}
use Rattle.limbo_typed.specs.Sound.{type_of, types_of, type_at}
use Rattle.typed_lower.specs.slot_code.Machine.{same_kind}
use Rattle.typed_lower.specs.Kinds.{kind_given}
use Rattle.typed_lower.specs.Statements.{number_kind}

-- What stands around an expression or a statement: the variables and the answer of its function, the variables and the functions of its
-- module, and the module's variable that `init` begins by loading `Sys` into, where it does.
pub record Inside : Type 0 where
  pub variables : List typed.Var
  pub answer : Ty
  pub globals : List typed.Var
  pub functions : List typed.Function
  pub system : Option ℕ
  pub loaded : Option ℕ

-- ---- tests

abbrev pub all : {A : Type 0} → (A → Bool) → List A → Bool
all test [] = true
all test (x ∷ xs) = test x && all test xs

abbrev pub is_none : {A : Type 0} → Option A → Bool
is_none None = true
is_none (Some x) = false

-- something is there, and the test holds of it
abbrev pub some_is : {A : Type 0} → (A → Bool) → Option A → Bool
some_is test None = false
some_is test (Some x) = test x

-- ---- types

-- A type of numbers of this kind.
abbrev pub is_of : Kind → Ty → Bool
is_of k t = some_is (same_kind k) (number_kind t)

abbrev pub is_number : Ty → Bool
is_number t = some_is (λ k. true) (number_kind t)

-- Two types of numbers of one kind.
abbrev pub are_alike : Ty → Ty → Bool
are_alike t u = some_is (λ k. is_of k u) (number_kind t)

abbrev pub all_alike : List Ty → List Ty → Bool
all_alike [] [] = true
all_alike (t ∷ ts) (u ∷ us) = are_alike t u && all_alike ts us
all_alike _ _ = false

abbrev pub are_of : List Kind → List Ty → Bool
are_of [] [] = true
are_of (k ∷ ks) (t ∷ ts) = is_of k t && are_of ks ts
are_of _ _ = false

-- Numbers of one kind, or no value on both sides.
abbrev pub answers_alike : Ty → Ty → Bool
answers_alike t u = are_alike t u || (same t Nothing && same u Nothing)

-- A variable has a number or one reference: not a tuple or an adt.
abbrev pub is_word : Ty → Bool
is_word Nothing = false
is_word Nil = false
is_word (Tuple ts) = false
is_word (Adt n) = false
is_word t = true

abbrev pub types_in : List typed.Var → List Ty
types_in vs = map (λ v. v.ty) vs

-- ---- places

abbrev pub variable_at : Inside → typed.PlaceNode → Option typed.Var
variable_at i (typed.Local x) = slice_get i.variables x
variable_at i (typed.Global x) = slice_get i.globals x
variable_at i _ = None

-- A variable of the function or of the module, of the type of numbers that the place has.
abbrev pub is_place : Inside → typed.Place → Bool
is_place i (At t n) = some_is (λ v. are_alike t v.ty) (variable_at i n)

-- A variable of the function that a value of this type goes to.
abbrev pub takes_value : Inside → Ty → ℕ → Bool
takes_value i t x = some_is (λ v. are_alike t v.ty) (slice_get i.variables x)

abbrev pub takes_zero : Inside → ℕ → Bool
takes_zero i x = some_is (λ v. is_number v.ty) (slice_get i.variables x)

-- ---- operations

-- The kinds of numbers that an operation takes; an operation on other values is none of these.
abbrev pub operands : Operation → Option (List Kind)
operands (operation.Arithmetic o k) = Some (k ∷ k ∷ [])
operands (operation.Shift s k) = Some (k ∷ kind.Int ∷ [])
operands (operation.Alter u k) = Some (k ∷ [])
operands (operation.Compare c k) = Some (k ∷ k ∷ [])
operands operation.Not = Some (kind.Int ∷ [])
operands (operation.Convert from to) = Some (from ∷ [])
operands _ = None

-- An operation on numbers of these types, which gives one of this type.
abbrev pub gives : Operation → List Ty → Ty → Bool
gives o ts t = some_is (λ ks. are_of ks ts) (operands o) && is_of (kind_given o) t

-- ---- calls and prints

-- A function of this number takes such arguments, and has this answer.
abbrev pub calls : Inside → ℕ → List Ty → Ty → Bool
calls i f ts t = some_is (λ g. all_alike ts g.of.args && answers_alike t g.of.answer) (slice_get i.functions f)

-- The kind of the number that stands for a hole of a format.
abbrev pub hole_kind : Hole → Option Kind
hole_kind (hole.Decimal k) = Some k
hole_kind hole.Character = Some kind.Int
hole_kind hole.Hexadecimal = Some kind.Int
hole_kind _ = None

-- A format whose holes take numbers of these types, one after the other.
abbrev pub are_printed : List Piece → List Ty → Bool
are_printed [] [] = true
are_printed [] (t ∷ ts) = false
are_printed (piece.Chars s ∷ ps) ts = are_printed ps ts
are_printed (piece.Hole h ∷ ps) [] = false
are_printed (piece.Hole h ∷ ps) (t ∷ ts) = some_is (λ k. is_of k t) (hole_kind h) && are_printed ps ts

-- How many characters the text of a format has: `%` is written twice where it stands for itself. That is a string, so there are at most
-- 16,777,216.
abbrev pub written_size : List ℕ → ℕ
written_size [] = 0
written_size (c ∷ cs) = (if nat_eq c 37 then 2 else 1) + written_size cs

abbrev pub hole_size : Hole → ℕ
hole_size (hole.Decimal kind.Big) = 3
hole_size (hole.Decimal k) = 2
hole_size hole.Character = 2
hole_size hole.Hexadecimal = 2
hole_size h = 0

abbrev pub piece_size : Piece → ℕ
piece_size (piece.Chars cs) = written_size cs
piece_size (piece.Hole h) = hole_size h

abbrev pub format_size : List Piece → ℕ
format_size [] = 0
format_size (p ∷ ps) = piece_size p + format_size ps

abbrev pub is_format : List Piece → Bool
is_format ps = nat_le (format_size ps) longest

abbrev pub is_print : Printed → Bool
is_print printed.Print = true
is_print _ = false

abbrev pub is_absent : typed.Optional → Bool
is_absent typed.Absent = true
is_absent (typed.Present e) = false

-- The module's variable that a place is.
abbrev pub global_at : typed.PlaceNode → Option ℕ
global_at (typed.Global x) = Some x
global_at _ = None

abbrev pub global_of : typed.Place → Option ℕ
global_of (At t n) = global_at n

abbrev pub global_read : typed.Node → Option ℕ
global_read (typed.Read p) = global_of p
global_read _ = None

abbrev pub global_in : typed.Expr → Option ℕ
global_in (Of t n) = global_read n

-- Both are there, and the same number.
abbrev pub same_number : Option ℕ → Option ℕ → Bool
same_number a b = some_is (λ x. some_is (λ y. nat_eq x y) b) a

-- A `print` through the variable that `Sys` was loaded into.
abbrev pub prints : Inside → Printed → typed.Expr → typed.Optional → Bool
prints i w m file = is_print w && is_absent file && same_number i.loaded (global_in m)

-- ---- expressions

abbrev pub place_to : typed.Pattern → Option typed.Place
place_to (typed.ToPlace p) = Some p
place_to _ = None

-- A place of numbers that a value of a type goes to, of the type that the assignment has.
abbrev pub assigns : Inside → typed.Pattern → Ty → Ty → Bool
assigns i p u t = some_is (λ q. is_place i q && are_alike u (type_at q) && are_alike t (type_at q)) (place_to p)

abbrev mutual
  pub is_expr : Inside → typed.Expr → Bool
  is_expr i (Of t n) = is_node i t n

  pub is_node : Inside → Ty → typed.Node → Bool
  is_node i t (typed.Number n) = is_number t
  is_node i t (typed.Read p) = is_place i p && are_alike t (type_at p)
  is_node i t (typed.Apply o es) = are_exprs i es && gives o (types_of es) t
  is_node i t (typed.Lazy c l r) =
      is_expr i l && is_expr i r && are_of (kind.Int ∷ kind.Int ∷ kind.Int ∷ []) (type_of l ∷ type_of r ∷ t ∷ [])
  is_node i t (typed.Assign p e) = is_expr i e && assigns i p (type_of e) t
  is_node i t (typed.Update o p e) =
      is_place i p && is_expr i e && gives o (type_at p ∷ type_of e ∷ []) (type_at p) && are_alike t (type_at p)
  is_node i t (typed.Step o g p) = is_place i p && gives o (type_at p ∷ []) (type_at p) && are_alike t (type_at p)
  is_node i t (typed.Call f es) = are_exprs i es && calls i f (types_of es) t
  is_node i t (typed.Print w m file ps es) =
      prints i w m file && are_exprs i es && are_printed ps (types_of es) && (is_of kind.Int t && is_format ps)
  is_node i t _ = false

  pub are_exprs : Inside → typed.Exprs → Bool
  are_exprs i typed.NoExprs = true
  are_exprs i (typed.MoreExprs e es) = is_expr i e && are_exprs i es

-- An int, which a condition is.
abbrev pub is_condition : Inside → typed.Expr → Bool
is_condition i e = is_expr i e && is_of kind.Int (type_of e)

-- ---- loading `Sys`

abbrev pub is_text : List ℕ → List ℕ → Bool
is_text = pointwise nat_eq

abbrev pub is_path_node : typed.Node → Bool
is_path_node (typed.Chars s) = is_text s (codes "$Sys")
is_path_node _ = false

abbrev pub is_path : typed.Expr → Bool
is_path (Of t n) = is_path_node n

abbrev pub is_load_node : (system : Option ℕ) → typed.Node → Bool
is_load_node system (typed.Load n e) = some_is (nat_eq n) system && is_path e
is_load_node system _ = false

abbrev pub is_load : (system : Option ℕ) → typed.Expr → Bool
is_load system (Of t n) = is_load_node system n

abbrev pub global_to : typed.Pattern → Option ℕ
global_to (typed.ToPlace p) = global_of p
global_to _ = None

-- NAME = load Sys "$Sys": the module's variable that this gives its value.
abbrev pub loads_node : (system : Option ℕ) → typed.Node → Option ℕ
loads_node system (typed.Assign p e) = elim (is_load system e) [ false ↦ None | true ↦ global_to p ]
loads_node system _ = None

abbrev pub loads : (system : Option ℕ) → typed.Expr → Option ℕ
loads system (Of t n) = loads_node system n

abbrev pub loads_stmt : (system : Option ℕ) → typed.Stmt → Option ℕ
loads_stmt system (typed.Eval e) = loads system e
loads_stmt system _ = None

-- What statements begin by loading it into.
abbrev pub loads_first : (system : Option ℕ) → typed.Stmts → Option ℕ
loads_first system typed.NoStmts = None
loads_first system (typed.MoreStmts s ss) = loads_stmt system s

-- ---- statements

-- `Sys` is loaded, or an expression is evaluated.
abbrev pub is_action : Inside → typed.Expr → Bool
is_action i e = not (is_none (loads i.system e)) || is_expr i e

abbrev pub is_value : Inside → Option typed.Expr → Bool
is_value i None = true
is_value i (Some e) = is_expr i e

abbrev pub is_test : Inside → Option typed.Expr → Bool
is_test i None = true
is_test i (Some e) = is_condition i e

abbrev pub declares : Inside → List ℕ → Option typed.Expr → Bool
declares i xs None = all (takes_zero i) xs
declares i xs (Some e) = is_expr i e && all (takes_value i (type_of e)) xs

abbrev pub returns : Inside → Option typed.Expr → Bool
returns i None = same i.answer Nothing
returns i (Some e) = is_expr i e && are_alike (type_of e) i.answer

-- A statement within so many loops.
abbrev mutual
  pub is_stmt : Inside → (loops : ℕ) → typed.Stmt → Bool
  is_stmt i n typed.Empty = true
  is_stmt i n (typed.Block ss) = are_stmts i n ss
  is_stmt i n (typed.Declare xs e) = declares i xs e
  is_stmt i n (typed.Eval e) = is_action i e
  is_stmt i n (typed.If c ss others) = is_condition i c && are_stmts i n ss && are_stmts i n others
  is_stmt i n (typed.While c ss) = is_test i c && are_stmts i (suc n) ss
  is_stmt i n (typed.Do ss c) = are_stmts i (suc n) ss && is_test i c
  is_stmt i n (typed.For first c next ss) =
      is_value i first && is_test i c && is_value i next && are_stmts i (suc n) ss
  is_stmt i n (typed.Break k) = nat_lt k n
  is_stmt i n (typed.Continue k) = nat_lt k n
  is_stmt i n (typed.Return e) = returns i e
  is_stmt i n _ = false

  pub are_stmts : Inside → (loops : ℕ) → typed.Stmts → Bool
  are_stmts i n typed.NoStmts = true
  are_stmts i n (typed.MoreStmts s ss) = is_stmt i n s && are_stmts i n ss

-- ---- functions and modules

abbrev pub begin_with : List Ty → List Ty → Bool
begin_with [] ts = true
begin_with (a ∷ more) [] = false
begin_with (a ∷ more) (t ∷ ts) = same a t && begin_with more ts

abbrev pub is_init : typed.Function → Bool
is_init f = is_text f.name (codes "init")

-- The first function of this name, where there is one.
abbrev pub init_in : List typed.Function → Option typed.Function
init_in [] = None
init_in (f ∷ fs) = elim (is_init f) [ true ↦ Some f | false ↦ init_in fs ]

abbrev pub body_loads : (system : Option ℕ) → Option typed.Function → Option ℕ
body_loads system None = None
body_loads system (Some f) = loads_first system f.body

abbrev pub inside : typed.Module → typed.Function → Inside
inside m f = record {
  variables = f.variables;
  answer = f.of.answer;
  globals = m.globals;
  functions = m.functions;
  system = m.system;
  loaded = body_loads m.system (init_in m.functions);
}

-- A function of no adt, each of whose variables has a number or one reference, and which answers a number or nothing. Its parameters are
-- its first variables.
abbrev pub is_plain : typed.Function → Bool
is_plain f =
    is_none f.owner && all is_word (types_in f.variables) && begin_with f.of.args (types_in f.variables)
    && (is_number f.of.answer || same f.of.answer Nothing)

abbrev pub is_function : typed.Module → typed.Function → Bool
is_function m f = is_plain f && are_stmts (inside m f) 0 f.body

-- A variable of the module begins with a number, where it begins with anything.
abbrev pub is_initial : Initial → Bool
is_initial i = elim i.value [ constant.Number n ↦ true | constant.Chars s ↦ false ]

-- A name of a source: Unicode characters, none of which is 0.
abbrev pub is_letter : ℕ → Bool
is_letter c = is_scalar c && not (nat_eq c 0)

abbrev pub is_name : List ℕ → Bool
is_name cs = all is_letter cs

-- The module is in the part of the language that the compiler takes.
abbrev pub is_part : typed.Module → Bool
is_part m = all is_word (types_in m.globals) && all is_initial m.initials && is_name m.name && all (is_function m) m.functions

-- It has a function with which it begins, so it runs.
abbrev pub has_init : typed.Module → Bool
has_init m = not (is_none (init_in m.functions))

abbrev pub runs : typed.Module → Bool
runs m = is_part m && has_init m
