-- The code of statements, functions and modules.
use Rattle.std.specs.Prelude.{ℕ, suc, ◌+◌, false, List, [], ◌∷◌, ◌++◌, length, map, Option, Some, None, slice_index_or}
use Rattle.limbo_types.specs.Types.{Ty, Byte, Int, Big}
use Rattle.limbo_values.specs.declared.number.Kind.{Kind}
use Rattle.limbo_values.specs.declared.number.Kind.TheVariants as kind
use Rattle.limbo_typed.specs.Typed as typed
use Rattle.limbo_typed.specs.Typed.{Stmt, Stmts, Function, Module}
use Rattle.system_model.specs.Values.{Value, Num}
use Rattle.typed_meaning.specs.Values.{kind_of}
use Rattle.typed_meaning.specs.Trees.{Place, Term, Literal, Store, Change, Stm, Eval}
use Rattle.typed_meaning.specs.Program.{term_of, evaluated, local, declared_value, globals_of}
use Rattle.slot_code.specs.Code.{Temporary, Operand, In, Inst, Move, Jump, Back, Return, Leave}
use Rattle.slot_code.specs.Code as code
use Rattle.typed_lower.specs.Kinds.{kind_in, spot_of, leaf}
use Rattle.typed_lower.specs.Terms.{part_of, parts_of, code_of, ready, applied, stored, branches, one}

-- A loop around a statement: how many instructions lie between the end of the statement's code and the loop's next turn, and its end.
pub record Around : Type 0 where
  pub turn : ℕ
  pub end : ℕ

-- Behind so many more instructions.
abbrev pub further : ℕ → List Around → List Around
further n arounds = map (λ a. record { turn = a.turn + n; end = a.end + n }) arounds

abbrev pub around_at : List Around → ℕ → Around
around_at arounds n = slice_index_or arounds n (record { turn = 0; end = 0 })

-- An expression as a statement: its value goes nowhere.
abbrev pub effects : Term → List Inst
effects (Store p t) = stored 0 p t
effects (Change o g p ts) = applied o (parts_of ts) 0 (spot_of p)
effects t = code_of 1 t (Temporary (kind_in t) 0)

abbrev pub done : Stm → List Inst
done (Eval t) = effects t
done _ = []

-- What stands between two turns, and what a loop begins with.
abbrev pub optional : Option typed.Expr → List Inst
optional None = []
optional (Some e) = done (evaluated e)

-- A condition, which passes so many instructions where it doesn't hold; one that is absent always holds.
abbrev pub condition : Option typed.Expr → (passes : ℕ) → List Inst
condition None n = []
condition (Some e) n = branches false 0 (term_of e) n

-- Places get a value, one after the other.
abbrev pub moves : List Place → Operand → List Inst
moves [] x = []
moves (p ∷ ps) x = Move (spot_of p) x ∷ moves ps x

abbrev pub sets : List Place → Term → Option Operand → List Inst
sets (p ∷ []) t o = stored 0 p t
sets ps (Literal t v) (Some x) = moves ps x
sets ps t o = code_of 1 t (Temporary (kind_in t) 0) ++ moves ps (In (Temporary (kind_in t) 0))

-- Either part of an `if`: where there is no other part, nothing is passed behind the first.
abbrev pub either : Term → (then other : List Inst) → List Inst
either t a [] = branches false 0 t (length a) ++ a
either t a (i ∷ is) = branches false 0 t (suc (length a)) ++ a ++ Jump (length (i ∷ is)) ∷ i ∷ is

-- How many instructions lie behind the first part.
abbrev pub passed : (other : List Inst) → ℕ
passed [] = 0
passed (i ∷ is) = suc (length (i ∷ is))

-- What is around a loop's body: behind it the next turn begins at once, with this code, and the loop ends behind the way back.
abbrev pub inside : (turn : List Inst) → List Around → List Around
inside turn arounds = (record { turn = 0; end = suc (length turn) }) ∷ further (suc (length turn)) arounds

-- A loop that tests first: the test, the body, what stands between two turns, and the way back.
abbrev pub with_test : (test next body : List Inst) → List Inst
with_test test next body = test ++ body ++ next ++ Back (length test + length body + length next) ∷ []

abbrev pub while_loop : Option typed.Expr → (next body : List Inst) → List Inst
while_loop c next body = with_test (condition c (suc (length body + length next))) next body

-- A loop that tests last.
abbrev pub do_loop : (test body : List Inst) → List Inst
do_loop test body = body ++ test ++ Back (length body + length test) ∷ []

abbrev pub returned : Option typed.Expr → List Inst
returned None = Leave ∷ []
returned (Some e) = one (ready 0 (part_of (term_of e))) Return

module _ (types : List Ty) where
  abbrev mutual
    pub stmt_code : List Around → Stmt → List Inst
    stmt_code arounds typed.Empty = []
    stmt_code arounds (typed.Block ss) = stmts_code arounds ss
    stmt_code arounds (typed.Declare xs e) = sets (map (local types) xs) (declared_value types e) (leaf (declared_value types e))
    stmt_code arounds (typed.Eval e) = done (evaluated e)
    stmt_code arounds (typed.If c ss others) =
        either (term_of c) (stmts_code (further (passed (stmts_code arounds others)) arounds) ss) (stmts_code arounds others)
    stmt_code arounds (typed.While c ss) = while_loop c [] (stmts_code (inside [] arounds) ss)
    stmt_code arounds (typed.Do ss c) = do_loop (condition c 1) (stmts_code (inside (condition c 1) arounds) ss)
    stmt_code arounds (typed.For first c n ss) = optional first ++ while_loop c (optional n) (stmts_code (inside (optional n) arounds) ss)
    stmt_code arounds (typed.Break n) = Jump (around_at arounds n).end ∷ []
    stmt_code arounds (typed.Continue n) = Jump (around_at arounds n).turn ∷ []
    stmt_code arounds (typed.Return e) = returned e
    stmt_code arounds _ = []

    pub stmts_code : List Around → Stmts → List Inst
    stmts_code arounds typed.NoStmts = []
    stmts_code arounds (typed.MoreStmts s ss) = stmt_code (further (length (stmts_code arounds ss)) arounds) s ++ stmts_code arounds ss

-- ---- functions and modules

-- Of which kind a variable of a type is: none where it isn't a number.
abbrev pub number_kind : Ty → Option Kind
number_kind Byte = Some kind.Byte
number_kind Int = Some kind.Int
number_kind Big = Some kind.Big
number_kind t = None

abbrev pub function_code : Function → code.Function
function_code f = record {
  name = f.name;
  variables = map (λ v. number_kind v.ty) f.variables;
  parameters = length f.of.args;
  answer = kind_of f.of.answer;
  code = stmts_code (map (λ v. v.ty) f.variables) [] f.body ++ Leave ∷ [];
}

abbrev pub functions_code : Module → List code.Function
functions_code m = map function_code m.functions

-- A variable of the module, which begins with this value.
abbrev pub global_code : typed.Var → Value → code.GlobalVariable
global_code v (Num z) = record { kind = number_kind v.ty; initial = z }

abbrev pub globals_code : List typed.Var → List Value → List code.GlobalVariable
globals_code [] vs = []
globals_code (x ∷ xs) [] = []
globals_code (x ∷ xs) (v ∷ vs) = global_code x v ∷ globals_code xs vs

abbrev pub module_code : Module → code.Module
module_code m = record { name = m.name; globals = globals_code m.globals (globals_of m); functions = functions_code m }
