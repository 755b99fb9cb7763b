-- What is asked of a statement as it is written, that its typed statement is sound.
use Rattle.std.specs.Prelude.{ℕ, ◌≤◌, List, [], ◌∷◌, length, Option, None, Some}
use Rattle.limbo_tree.specs.Exprs as exprs
use Rattle.limbo_tree.specs.Decls as decls
use Rattle.limbo_tree.specs.Decls.{Decl, Member, Members}
use Rattle.limbo_tree.specs.Stmts as tree
use Rattle.limbo_tree.specs.Stmts.{Stmt, Stmts, Block, Arms, Head, Pattern}
use Rattle.limbo_typed_sound.specs.Proper.{Throughout, IsInRange}

-- ---- something holds of each expression, and of each declaration

abbrev pub InOption : (exprs.Expr → Type 0) → Option exprs.Expr → Type 0
InOption P None = Unit {0}
InOption P (Some e) = P e

abbrev pub InPattern : (exprs.Expr → Type 0) → Pattern → Type 0
InPattern P tree.AnyValue = Unit {0}
InPattern P (tree.Value e) = P e
InPattern P (tree.Range e f) = P e × P f

abbrev pub InPatterns : (exprs.Expr → Type 0) → List Pattern → Type 0
InPatterns P [] = Unit {0}
InPatterns P (x ∷ xs) = InPattern P x × InPatterns P xs

abbrev pub InHead : (exprs.Expr → Type 0) → Head → Type 0
InHead P (tree.CaseHead ps) = InPatterns P ps
InHead P (tree.AltHead e) = InOption P e
InHead P (tree.PickHead ns) = Unit {0}
InHead P (tree.HandlerHead ps) = Unit {0}

abbrev mutual
  pub InStmt : (exprs.Expr → Type 0) → (Decl → Type 0) → Stmt → Type 0
  InStmt P D tree.Empty = Unit {0}
  InStmt P D (tree.Nested b) = InBlock P D b
  InStmt P D (tree.Declare d) = D d
  InStmt P D (tree.Eval e) = P e
  InStmt P D (tree.If c s) = P c × InStmt P D s
  InStmt P D (tree.IfElse c s t) = P c × InStmt P D s × InStmt P D t
  InStmt P D (tree.While l c s) = InOption P c × InStmt P D s
  InStmt P D (tree.Do l s c) = InStmt P D s × InOption P c
  InStmt P D (tree.For l a c b s) = InOption P a × InOption P c × InOption P b × InStmt P D s
  InStmt P D (tree.Case l e arms) = P e × InArms P D arms
  InStmt P D (tree.Alt l arms) = InArms P D arms
  InStmt P D (tree.Pick l n e arms) = P e × InArms P D arms
  InStmt P D (tree.Break l) = Unit {0}
  InStmt P D (tree.Continue l) = Unit {0}
  InStmt P D (tree.Return e) = InOption P e
  InStmt P D tree.Exit = Unit {0}
  InStmt P D (tree.Spawn e) = P e
  InStmt P D (tree.Raise e) = InOption P e

  pub InStmts : (exprs.Expr → Type 0) → (Decl → Type 0) → Stmts → Type 0
  InStmts P D tree.NoStmts = Unit {0}
  InStmts P D (tree.MoreStmts s ss) = InStmt P D s × InStmts P D ss

  pub InBlock : (exprs.Expr → Type 0) → (Decl → Type 0) → Block → Type 0
  InBlock P D (tree.Plain ss) = InStmts P D ss
  InBlock P D (tree.Handled ss n arms) = InStmts P D ss × InArms P D arms

  pub InArms : (exprs.Expr → Type 0) → (Decl → Type 0) → Arms → Type 0
  InArms P D tree.NoArms = Unit {0}
  InArms P D (tree.MoreArms h ss arms) = InHead P h × InStmts P D ss × InArms P D arms

-- ---- declarations

-- Names in one declaration of constants are numbered from 0 by `iota`, which is an int.
abbrev pub AreCounted : List (List ℕ) → Type 0
AreCounted names = length names ≤ 2147483648

abbrev mutual
  pub InMember : (exprs.Expr → Type 0) → Member → Type 0
  InMember P (decls.VarMember ns t) = Unit {0}
  InMember P (decls.FnMember ns f) = Unit {0}
  InMember P (decls.ConMember ns e) = AreCounted ns × P e
  InMember P (decls.TypeMember ns t) = Unit {0}
  InMember P (decls.AdtMember n ms pick) = InMembers P ms

  pub InMembers : (exprs.Expr → Type 0) → Members → Type 0
  InMembers P decls.NoMembers = Unit {0}
  InMembers P (decls.MoreMembers x xs) = InMember P x × InMembers P xs

abbrev pub InDecl : (exprs.Expr → Type 0) → Decl → Type 0
InDecl P (decls.Con ns e) = AreCounted ns × P e
InDecl P (decls.TypeName ns t) = Unit {0}
InDecl P (decls.Var ns t e) = InOption P e
InDecl P (decls.Define ns e) = P e
InDecl P (decls.Import ns n) = Unit {0}
InDecl P (decls.Exception ns ts) = Unit {0}
InDecl P (decls.Module n ms) = InMembers P ms
InDecl P (decls.Adt n ms pick) = InMembers P ms

-- ---- numbers in their ranges

abbrev pub IsProper : exprs.Expr → Type 0
IsProper e = Throughout IsInRange e

abbrev pub IsProperDecl : Decl → Type 0
IsProperDecl d = InDecl IsProper d

-- The numbers of a statement are in the ranges of their types, and constants are not too many in one declaration.
abbrev pub IsProperStmt : Stmt → Type 0
IsProperStmt s = InStmt IsProper IsProperDecl s

abbrev pub AreProperStmts : Stmts → Type 0
AreProperStmts ss = InStmts IsProper IsProperDecl ss

abbrev pub IsProperBlock : Block → Type 0
IsProperBlock b = InBlock IsProper IsProperDecl b

abbrev pub AreProperArms : Arms → Type 0
AreProperArms arms = InArms IsProper IsProperDecl arms
