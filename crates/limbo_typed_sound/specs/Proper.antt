-- What is asked of an expression as it is written, that its typed tree is sound.
use Rattle.std.specs.Prelude.{Bool, if◌then◌else◌}
use Rattle.limbo_types.specs.Types.{Ty, Int, Big}
use Rattle.limbo_lexer.specs.declared.token.Kind.{Kind}
use Rattle.limbo_lexer.specs.declared.token.Kind.TheVariants as kind
use Rattle.limbo_tree.specs.Exprs as tree
use Rattle.limbo_typed.specs.Fitting.{IsNumber}

-- Something holds of an expression, and of each in its parts. A channel with a size isn't built yet.
abbrev mutual
  pub Throughout : (tree.Expr → Type 0) → tree.Expr → Type 0
  Throughout P (tree.Assign o l r) = P (tree.Assign o l r) × Throughout P l × Throughout P r
  Throughout P (tree.Load n e) = P (tree.Load n e) × Throughout P e
  Throughout P (tree.Binary o l r) = P (tree.Binary o l r) × Throughout P l × Throughout P r
  Throughout P (tree.Unary o e) = P (tree.Unary o e) × Throughout P e
  Throughout P (tree.Bytes e) = P (tree.Bytes e) × Throughout P e
  Throughout P (tree.Filled n is comma) = P (tree.Filled n is comma) × ThroughoutPart P n × ThroughoutInits P is
  Throughout P (tree.Sized e t) = P (tree.Sized e t) × Throughout P e
  Throughout P (tree.Channel n t) = P (tree.Channel n t)
  Throughout P (tree.Listed es) = P (tree.Listed es) × ThroughoutAll P es
  Throughout P (tree.Call f es) = P (tree.Call f es) × Throughout P f × ThroughoutAll P es
  Throughout P (tree.Index e i) = P (tree.Index e i) × Throughout P e × Throughout P i
  Throughout P (tree.Slice e i j) = P (tree.Slice e i j) × Throughout P e × ThroughoutPart P i × ThroughoutPart P j
  Throughout P (tree.Dot e n) = P (tree.Dot e n) × Throughout P e
  Throughout P (tree.Arrow e n) = P (tree.Arrow e n) × Throughout P e
  Throughout P (tree.Postfix o e) = P (tree.Postfix o e) × Throughout P e
  Throughout P (tree.Number v wide) = P (tree.Number v wide)
  Throughout P (tree.Chars s) = P (tree.Chars s)
  Throughout P (tree.Name n) = P (tree.Name n)
  Throughout P tree.Nil = P tree.Nil
  Throughout P (tree.Group es) = P (tree.Group es) × ThroughoutAll P es

  pub ThroughoutPart : (tree.Expr → Type 0) → tree.Part → Type 0
  ThroughoutPart P tree.Absent = Unit {0}
  ThroughoutPart P (tree.Present e) = Throughout P e

  pub ThroughoutAll : (tree.Expr → Type 0) → tree.Exprs → Type 0
  ThroughoutAll P tree.NoExprs = Unit {0}
  ThroughoutAll P (tree.MoreExprs e es) = Throughout P e × ThroughoutAll P es

  pub ThroughoutInit : (tree.Expr → Type 0) → tree.Init → Type 0
  ThroughoutInit P (tree.Next e) = Throughout P e
  ThroughoutInit P (tree.At i e) = Throughout P i × Throughout P e
  ThroughoutInit P (tree.Rest e) = Throughout P e

  pub ThroughoutInits : (tree.Expr → Type 0) → tree.Inits → Type 0
  ThroughoutInits P tree.NoInits = Unit {0}
  ThroughoutInits P (tree.MoreInits i is) = ThroughoutInit P i × ThroughoutInits P is

-- the type of a number
abbrev pub number_type : (wide : Bool) → Ty
number_type wide = if wide then Big else Int

-- A number is in the range of its type, as the lexer gives it.
abbrev pub IsInRange : tree.Expr → Type 0
IsInRange (tree.Number v wide) = IsNumber (number_type wide) v
IsInRange _ = Unit {0}

-- The same of a token.
abbrev pub TokenInRange : Kind → Type 0
TokenInRange (kind.Number v wide) = IsNumber (number_type wide) v
TokenInRange _ = Unit {0}
