-- A function that needs much room: one statement has assignments with an operator within each other, each of which needs two temporaries
-- and has two nodes; another is a call with many arguments.
use Rattle.std.proofs.Common.{◌≡◌, ℕ, zero, suc, true, List, [], ◌∷◌, None, refl, codes, pos}
use Rattle.limbo_values.specs.declared.number.Kind.{Kind}
use Rattle.limbo_values.specs.declared.number.Kind.TheVariants as kind
use Rattle.limbo_values.specs.declared.operator.Operator.TheVariants as operator
use Rattle.limbo_types.specs.Types.{Ty, Byte, Int, Big, Chars, Nothing, ListOf}
use Rattle.limbo_typed.specs.declared.operation.Operation.TheVariants as operation
use Rattle.limbo_typed.specs.Typed as typed
use Rattle.limbo_typed.specs.Typed.{Expr, Of, Exprs, NoExprs, MoreExprs, Place, At, Stmts, NoStmts, MoreStmts, Function, Module}
use Rattle.typed_lower.specs.Sizes.{frame_size}
use Rattle.typed_lower.specs.Statements.{function_code, functions_code}
use Rattle.typed_part.specs.Part.{is_part}
use Rattle.dis_objects.specs.Frames.{room_of}

abbrev x : Place
x = At Int (typed.Local 1)

abbrev converted : Kind → Kind → Ty → Expr → Expr
converted from to t e = Of t (typed.Apply (operation.Convert from to) (MoreExprs e NoExprs))

-- int byte int big x
abbrev inner : Expr
inner = converted kind.Byte kind.Int Int (converted kind.Int kind.Byte Byte (converted kind.Big kind.Int Int
    (converted kind.Int kind.Big Big (Of Int (typed.Read x)))))

-- x += (x += .. inner)
abbrev added : ℕ → Expr
added zero = inner
added (suc n) = Of Int (typed.Update (operation.Arithmetic operator.Add kind.Int) x (added n))

abbrev zeros : ℕ → Exprs
zeros zero = NoExprs
zeros (suc n) = MoreExprs (Of Big (typed.Number (pos 0))) (zeros n)

abbrev times : {A : Type 0} → ℕ → A → List A
times zero a = []
times (suc n) a = a ∷ times n a

-- g(a, ..: big), of 44 parameters, and init(args: list of string), which has an int x
abbrev g : Function
g = record {
  name = codes "g";
  owner = None;
  of = record { args = times 44 Big; answer = Nothing };
  variables = times 44 (record { name = codes "a"; ty = Big });
  catches = 0;
  body = NoStmts;
}

abbrev init : Function
init = record {
  name = codes "init";
  owner = None;
  of = record { args = ListOf Chars ∷ []; answer = Nothing };
  variables = (record { name = codes "args"; ty = ListOf Chars }) ∷ (record { name = codes "x"; ty = Int }) ∷ [];
  catches = 0;
  body = MoreStmts (typed.Eval (added 20)) (MoreStmts (typed.Eval (Of Nothing (typed.Call 0 (zeros 44)))) NoStmts);
}

abbrev crowded : Module
crowded = record {
  name = codes "M";
  adts = [];
  modules = [];
  globals = [];
  initials = [];
  functions = g ∷ init ∷ [];
  declared = [];
  interfaces = [];
  system = None;
  exceptions = [];
}

in_the_part : is_part crowded ≡ true
in_the_part = refl

its_size : frame_size init ≡ 1128
its_size = refl

its_room : (room_of (functions_code crowded) (function_code init)).size ≡ 952
its_room = refl
