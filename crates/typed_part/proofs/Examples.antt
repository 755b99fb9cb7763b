-- A module that is in the part, and modules that aren't, each by one statement of it.
use Rattle.std.proofs.Common.{◌≡◌, true, false, List, [], ◌∷◌, None, Some, refl, codes, pos}
use Rattle.limbo_values.specs.declared.number.Kind.TheVariants as kind
use Rattle.limbo_types.specs.Types.{Int, Byte, Chars, Nothing, ListOf, Module as ModuleType}
use Rattle.limbo_typed.specs.declared.operation.Operation.TheVariants as operation
use Rattle.limbo_typed.specs.declared.print.Printed.TheVariants as printed
use Rattle.limbo_typed.specs.declared.print.Piece.TheVariants as piece
use Rattle.limbo_typed.specs.declared.print.Hole.TheVariants as hole
use Rattle.limbo_typed.specs.Typed as typed
use Rattle.limbo_typed.specs.Typed.{Expr, Of, NoExprs, MoreExprs, Place, At, Stmt, NoStmts, Module}
use Rattle.typed_meaning.proofs.Examples.{num, place, var, less, plus, up, stmts, function}
use Rattle.typed_part.specs.Part.{is_part}

abbrev sys : Place
sys = At (ModuleType 0) (typed.Global 0)

-- sys = load Sys "$Sys";
abbrev load_sys : Stmt
load_sys =
    typed.Eval (Of (ModuleType 0)
    (typed.Assign (typed.ToPlace sys) (Of (ModuleType 0) (typed.Load 0 (Of Chars (typed.Chars (codes "$Sys")))))))

-- sys->print("%d", e);
abbrev print_int : Expr → Stmt
print_int e =
    typed.Eval (Of Int
    (typed.Print printed.Print (Of (ModuleType 0) (typed.Read sys)) typed.Absent (piece.Hole (hole.Decimal kind.Int) ∷ [])
    (MoreExprs e NoExprs)))

-- f(n: int): int, and init(args: list of string), which has a byte b and an int i
abbrev calls_f : Expr → Expr
calls_f e = Of Int (typed.Call 0 (MoreExprs e NoExprs))

abbrev b : Expr
b = Of Byte (typed.Read (At Byte (typed.Local 1)))

abbrev int_of_b : Expr
int_of_b = Of Int (typed.Apply (operation.Convert kind.Byte kind.Int) (MoreExprs b NoExprs))

abbrev module_of : List Stmt → Module
module_of body = record {
  name = codes "M";
  adts = [];
  modules = [];
  globals = (record { name = codes "sys"; ty = ModuleType 0 }) ∷ [];
  initials = [];
  functions =
      function (Int ∷ []) Int 1 (typed.Return (Some (plus (var 0) (num 1))) ∷ [])
      ∷ (record {
        name = codes "init";
        owner = None;
        of = record { args = ListOf Chars ∷ []; answer = Nothing };
        variables =
            (record { name = codes "args"; ty = ListOf Chars })
            ∷ (record { name = codes "b"; ty = Byte })
            ∷ (record { name = codes "i"; ty = Int })
            ∷ [];
        catches = 0;
        body = stmts body;
      })
      ∷ [];
  declared = [];
  interfaces = [];
  system = Some 0;
  exceptions = [];
}

-- b := byte 1; for (i = 0; i < 3; i++) { if (i < 1) continue; sys->print("%d", f(int b + i)); }
abbrev body : List Stmt
body =
    typed.Declare (1 ∷ []) (Some (Of Byte (typed.Number (pos 1))))
    ∷ typed.For (Some (Of Int (typed.Assign (typed.ToPlace (place 2)) (num 0)))) (Some (less (var 2) (num 3))) (Some (up 2))
    (stmts (typed.If (less (var 2) (num 1)) (stmts (typed.Continue 0 ∷ [])) NoStmts ∷ print_int (calls_f (plus int_of_b (var 2))) ∷ []))
    ∷ []

in_the_part : is_part (module_of (load_sys ∷ body)) ≡ true
in_the_part = refl

-- what prints begins by loading `Sys`
loads_nothing : is_part (module_of body) ≡ false
loads_nothing = refl

-- an int goes to no byte
too_wide : is_part (module_of (load_sys ∷ typed.Declare (1 ∷ []) (Some (num 1)) ∷ [])) ≡ false
too_wide = refl

-- a reference is no number
no_number : is_part (module_of (load_sys ∷ typed.Declare (0 ∷ []) None ∷ [])) ≡ false
no_number = refl

-- what breaks stands in a loop
no_loop : is_part (module_of (load_sys ∷ typed.Break 0 ∷ [])) ≡ false
no_loop = refl

-- `f` takes one argument
no_argument : is_part (module_of (load_sys ∷ print_int (Of Int (typed.Call 0 NoExprs)) ∷ [])) ≡ false
no_argument = refl
