-- Whole programs that compute.
use Rattle.std.proofs.Common.{◌≡◌, ℕ, zero, suc, pos, List, [], ◌∷◌, ◌++◌, length, drop, Option, Some, None, refl, codes}
use Rattle.std.specs.Prelude.{slice_get, replicate}
use Rattle.std.specs.Int.{int_wrap}
use Rattle.std.specs.Fmt.{digits}
use Rattle.styx_msg.specs.declared.message.Rmsg.TheVariants as r
use Rattle.process_model.specs.Process.{Went, Asks, Ends}
use Rattle.limbo_types.specs.Types.{Ty, Int, Nothing}
use Rattle.limbo_values.specs.declared.number.Kind.TheVariants as kind
use Rattle.limbo_values.specs.declared.operator.Operator.TheVariants as operator
use Rattle.limbo_values.specs.declared.operator.Comparison.TheVariants as comparison
use Rattle.limbo_values.specs.declared.operator.Unary.TheVariants as unary
use Rattle.limbo_typed.specs.declared.module.Initial.{Initial}
use Rattle.limbo_typed.specs.declared.operation.Operation.TheVariants as operation
use Rattle.limbo_typed.specs.declared.operation.Connective.TheVariants as connective
use Rattle.limbo_typed.specs.declared.operation.Given.TheVariants as given
use Rattle.limbo_typed.specs.declared.print.Printed.TheVariants as printed
use Rattle.limbo_typed.specs.declared.print.Hole.TheVariants as hole
use Rattle.limbo_typed.specs.declared.print.Piece.TheVariants as piece
use Rattle.limbo_typed.specs.declared.stmt.Constant.TheVariants as constant
use Rattle.limbo_typed.specs.Typed.{Expr, Of, Number, Read, Apply, Lazy, Assign, Update, Step, Call, Print, NoExprs, MoreExprs, Absent}
use Rattle.limbo_typed.specs.Typed.{At, Local, Global, ToPlace, Stmt, Stmts, NoStmts, MoreStmts, Eval, If, Do, For, Break}
use Rattle.limbo_typed.specs.Typed.{Continue, Return, Var, Function, Module, Place}
use Rattle.system_model.specs.Values.{Num, zero_value}
use Rattle.system_model.specs.Prints.{Request}
use Rattle.system_model.specs.Ending.{Ending, Ended, Broken}
use Rattle.typed_meaning.specs.Trees.{Done}
use Rattle.typed_meaning.specs.Program.{Routine, routines_of}
use Rattle.typed_meaning.specs.Process.{Process, Does}
use Rattle.typed_meaning.specs.Step.{step, answer}
use Rattle.typed_meaning.specs.Breaks.{Applied, applied_by}
use Rattle.typed_meaning.specs.Runs.{first_world, first_process}

-- ---- shorter words for trees

abbrev pub num : ℕ → Expr
num n = Of Int (Number (pos n))

abbrev pub place : ℕ → Place
place x = At Int (Local x)

abbrev pub var : ℕ → Expr
var x = Of Int (Read (place x))

abbrev pub glob : ℕ → Place
glob x = At Int (Global x)

abbrev pub two : operator.the_data → Expr → Expr → Expr
two o a b = Of Int (Apply (operation.Arithmetic o kind.Int) (MoreExprs a (MoreExprs b NoExprs)))

abbrev pub less : Expr → Expr → Expr
less a b = Of Int (Apply (operation.Compare comparison.Less kind.Int) (MoreExprs a (MoreExprs b NoExprs)))

abbrev pub plus : Expr → Expr → Expr
plus a b = two operator.Add a b

abbrev pub assign : ℕ → Expr → Stmt
assign x e = Eval (Of Int (Assign (ToPlace (place x)) e))

abbrev pub up : ℕ → Expr
up x = Of Int (Step (operation.Alter unary.Increment kind.Int) given.Old (place x))

abbrev pub call : ℕ → Expr
call f = Of Int (Call f NoExprs)

-- `sys->print("%d", e)`
abbrev pub printing : Expr → Stmt
printing e =
    Eval (Of Int (Print printed.Print (num 0) Absent (piece.Hole (hole.Decimal kind.Int) ∷ []) (MoreExprs e NoExprs)))

abbrev pub stmts : List Stmt → Stmts
stmts [] = NoStmts
stmts (s ∷ ss) = MoreStmts s (stmts ss)

abbrev pub int_var : Var
int_var = record { name = codes "x"; ty = Int }

abbrev pub function : List Ty → Ty → ℕ → List Stmt → Function
function args answer n body = record {
  name = codes "f";
  owner = None;
  of = record { args = args; answer = answer };
  variables = replicate n int_var;
  catches = 0;
  body = stmts body;
}

abbrev pub made_of : ℕ → List Initial → List Function → Module
made_of globals initials fs = record {
  name = codes "M";
  adts = [];
  modules = [];
  globals = replicate globals int_var;
  initials = initials;
  functions = fs;
  declared = [];
  interfaces = [];
  system = None;
  exceptions = [];
}

-- ---- how they are run

abbrev pub opening : Option Routine → Process
opening (Some r) = first_process r
opening None = first_process (record { variables = 0; body = Done })

-- What was printed, and how the program ended.
pub record Outcome : Type 0 where
  pub bytes : List ℕ
  pub how : Ending

abbrev pub in_front : List ℕ → Option Outcome → Option Outcome
in_front bytes None = None
in_front bytes (Some o) = Some (record { bytes = bytes ++ o.bytes; how = o.how })

-- The bytes that a Twrite carries.
abbrev pub written : Request → List ℕ
written m = drop 23 m.frame

-- At most so many steps; each request is answered at once, with all that it asks.
abbrev mutual
  run : ℕ → List Routine → Does → Option Outcome
  run zero rs d = None
  run (suc n) rs (Went w p) = run n rs (step 10000 rs w p)
  run (suc n) rs (Asks w m p) = in_front (written m) (run n rs (answer (r.Write (length (written m))) w p))
  run (suc n) rs (Ends w how) = Some (record { bytes = []; how = how })
  run (suc n) rs d = None

-- What a module does that begins with function 0.
abbrev outcome : ℕ → Module → Option Outcome
outcome n m = run n (routines_of m) (Went (first_world m) (opening (slice_get (routines_of m) 0)))

abbrev Prints : ℕ → Module → List ℕ → Type 0
Prints n m text = outcome n m ≡ Some (record { bytes = text; how = Ended })

abbrev Breaks : ℕ → Module → List ℕ → List ℕ → Type 0
Breaks n m text why = outcome n m ≡ Some (record { bytes = text; how = Broken why })

-- ---- i := 1; i = i++ + ++i; sys->print("%d", i);

unfoldable pub steps_within : Module
steps_within = made_of 0 [] (function [] Nothing 1
    (assign 0 (num 1)
    ∷ assign 0 (plus (up 0) (Of Int (Step (operation.Alter unary.Increment kind.Int) given.New (place 0))))
    ∷ printing (var 0)
    ∷ []) ∷ [])

steps_print : Prints 30 steps_within (codes "4")
unfolding steps_within int_wrap digits lib.Utf8.encode
steps_print = refl

-- ---- g: int; up(): int { g = g + 1; return g; }  init() { x := 10; x += up() * up(); g += x; sys->print("%d", g); }

unfoldable pub counting : Module
counting = made_of 1 [] (function [] Nothing 1
    (assign 0 (num 10)
    ∷ Eval (Of Int (Update (operation.Arithmetic operator.Add kind.Int) (place 0) (two operator.Multiply (call 1) (call 1))))
    ∷ Eval (Of Int (Update (operation.Arithmetic operator.Add kind.Int) (glob 0) (var 0)))
    ∷ printing (Of Int (Read (glob 0)))
    ∷ [])
    ∷ function [] Int 0
    (Eval (Of Int (Assign (ToPlace (glob 0)) (plus (Of Int (Read (glob 0))) (num 1)))) ∷ Return (Some (Of Int (Read (glob 0)))) ∷ [])
    ∷ [])

counts : Prints 60 counting (codes "14")
unfolding counting int_wrap digits lib.Utf8.encode
counts = refl

-- ---- x: con 5; g := x; bump(): int { g = 1; return 2; }  init() { g += bump(); sys->print("%d", g); }  the old value is read before the
-- call

unfoldable pub read_first : Module
read_first = made_of 1 ((record { global = 0; value = constant.Number (pos 5) }) ∷ []) (function [] Nothing 0
    (Eval (Of Int (Update (operation.Arithmetic operator.Add kind.Int) (glob 0) (call 1))) ∷ printing (Of Int (Read (glob 0))) ∷ [])
    ∷ function [] Int 0 (Eval (Of Int (Assign (ToPlace (glob 0)) (num 1))) ∷ Return (Some (num 2)) ∷ [])
    ∷ [])

reads_first : Prints 40 read_first (codes "7")
unfolding read_first int_wrap digits lib.Utf8.encode
reads_first = refl

-- ---- outer: for (i := 0; i < 3; i++) { for (j := 0; ; j++) { if (j < i) continue outer; if (1 < i) break outer; sys->print("%d", i);
-- break; } }

unfoldable pub loops : Module
loops = made_of 0 [] (function [] Nothing 2
    (For (Some (Of Int (Assign (ToPlace (place 0)) (num 0)))) (Some (less (var 0) (num 3))) (Some (up 0)) (stmts
    (For (Some (Of Int (Assign (ToPlace (place 1)) (num 0)))) None (Some (up 1)) (stmts
    (If (less (var 1) (var 0)) (stmts (Continue 1 ∷ [])) NoStmts
    ∷ If (less (num 1) (var 0)) (stmts (Break 1 ∷ [])) NoStmts
    ∷ printing (var 0)
    ∷ Break 0
    ∷ []))
    ∷ []))
    ∷ printing (var 1)
    ∷ []) ∷ [])

loops_print : Prints 200 loops (codes "00")
unfolding loops int_wrap digits lib.Utf8.encode
loops_print = refl

-- ---- i := 0; do i++; while (i < 0); if (i < 0 && 1 / 0) ; if (i || 1 / 0) sys->print("%d", i); sys->print("%d", 1 / (i - 1));

unfoldable pub lazily : Module
lazily = made_of 0 [] (function [] Nothing 1
    (assign 0 (num 0)
    ∷ Do (stmts (Eval (up 0) ∷ [])) (Some (less (var 0) (num 0)))
    ∷ If (Of Int (Lazy connective.And (less (var 0) (num 0)) (two operator.Divide (num 1) (num 0)))) NoStmts NoStmts
    ∷ If (Of Int (Lazy connective.Or (var 0) (two operator.Divide (num 1) (num 0)))) (stmts (printing (var 0) ∷ [])) NoStmts
    ∷ printing (two operator.Divide (num 1) (two operator.Subtract (var 0) (num 1)))
    ∷ []) ∷ [])

breaks_at_last : Breaks 100 lazily (codes "1") (codes "zero divide")
unfolding lazily int_wrap digits lib.Utf8.encode
breaks_at_last = refl

-- The operation that it was to do next, if any, when it broke.
abbrev broke_at : ℕ → List Routine → Option Applied → Does → Option Applied
broke_at zero rs a d = None
broke_at (suc n) rs a (Went w p) = broke_at n rs (applied_by w p) (step 10000 rs w p)
broke_at (suc n) rs a (Asks w m p) = broke_at n rs None (answer (r.Write (length (written m))) w p)
broke_at (suc n) rs a (Ends w (Broken text)) = a
broke_at (suc n) rs a d = None

breaks_dividing :
    broke_at 100 (routines_of lazily) None (Went (first_world lazily) (opening (slice_get (routines_of lazily) 0)))
    ≡ Some (record { operation = operation.Arithmetic operator.Divide kind.Int; operands = Num (pos 1) ∷ zero_value ∷ [] })
unfolding lazily int_wrap digits lib.Utf8.encode
breaks_dividing = refl

-- ---- i := 0; for (;;) { if (i == 1) break; do { i++; break; } while (1); } sys->print("%d", i);  a break leaves the loop around it, and
-- none
-- that comes later

unfoldable pub later_loop : Module
later_loop = made_of 0 [] (function [] Nothing 1
    (assign 0 (num 0)
    ∷ For None None None (stmts
    (If (Of Int (Apply (operation.Compare comparison.Equal kind.Int) (MoreExprs (var 0) (MoreExprs (num 1) NoExprs))))
    (stmts (Break 0 ∷ [])) NoStmts
    ∷ Do (stmts (Eval (up 0) ∷ Break 0 ∷ [])) (Some (num 1))
    ∷ []))
    ∷ printing (var 0)
    ∷ []) ∷ [])

later_loop_prints : Prints 60 later_loop (codes "1")
unfolding later_loop int_wrap digits lib.Utf8.encode
later_loop_prints = refl
