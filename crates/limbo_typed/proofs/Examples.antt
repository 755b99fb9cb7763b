-- A function that is sound, and an expression that isn't.
use Rattle.std.specs.Prelude.{codes}
use Rattle.std.proofs.Common.{pos, [], ◌∷◌, Some, None, inl, refl, rules}
use Rattle.limbo_types.specs.Types as ty
use Rattle.limbo_values.specs.declared.number.Kind.TheVariants as kind
use Rattle.limbo_values.specs.declared.operator.Operator.TheVariants as operator
use Rattle.limbo_values.specs.Numbers.{InRange}
use Rattle.limbo_typed.specs.declared.operation.Operation.TheVariants as op
use Rattle.limbo_typed.specs.Typed.{Expr, Of, NoExprs, MoreExprs, Number, OpenNil, Read, Apply, Assign, Call, At, Local, ToPlace}
use Rattle.limbo_typed.specs.Typed.{Stmt, NoStmts, MoreStmts, Eval, While, Return, Break, Function, Module}
use Rattle.limbo_typed.specs.Sound.{SoundExpr, SoundPlace, SoundFunction}

-- x + 1, of the variable 0
abbrev more : Expr
more = Of ty.Int (Apply (op.Arithmetic operator.Add kind.Int)
    (MoreExprs (Of ty.Int (Read (At ty.Int (Local 0)))) (MoreExprs (Of ty.Int (Number (pos 1))) NoExprs)))

-- f(x: int): int { while (x) { x = x + 1; break; } return f(x + 1); }
abbrev loop : Stmt
loop = While (Some (Of ty.Int (Read (At ty.Int (Local 0)))))
    (MoreStmts (Eval (Of ty.Int (Assign (ToPlace (At ty.Int (Local 0))) more))) (MoreStmts (Break 0) NoStmts))

abbrev f : Function
f = record {
  name = codes "f";
  owner = None;
  of = record { args = ty.Int ∷ []; answer = ty.Int };
  variables = record { name = codes "x"; ty = ty.Int } ∷ [];
  catches = 0;
  body = MoreStmts loop (MoreStmts (Return (Some (Of ty.Int (Call 0 (MoreExprs more NoExprs))))) NoStmts);
}

abbrev m : Module
m = record {
  name = codes "M";
  adts = [];
  modules = [];
  globals = [];
  initials = [];
  functions = f ∷ [];
  declared = [];
  interfaces = [];
  system = None;
  exceptions = [];
}

one : InRange kind.Int (pos 1)
one = record { above = search rules; below = search rules }

sound_more : SoundExpr m f.variables more
sound_more = ((tt, tt), (((((tt, tt), (((tt, tt), (_, refl, refl)), refl))), (((tt, tt), one), tt)), (refl, refl)))

read : SoundPlace m f.variables (At ty.Int (Local 0))
read = ((tt, tt), (_, refl, refl))

sound_f : SoundFunction m f
sound_f = record {
  parameters = refl;
  named = ((tt, tt), tt);
  answer = (tt, tt);
  owner = tt;
  body = (
    (
      (refl, (read, refl)),
      (((tt, tt), (sound_more, (read, inl refl), inl refl)), (search rules, tt)),
    ),
    ((((tt, tt), ((sound_more, tt), record { function = f; there = refl; takes = ((inl refl, tt), refl) })), inl refl), tt),
  );
}

-- A `nil` that nothing settles stands nowhere.
open_nil : (t : ty.Ty) → SoundExpr m f.variables (Of t OpenNil) → ⊥
open_nil t (named, never) = never
