-- Reading parts of statements that hold no statements, and the statements that end in a semicolon behind a keyword.
use Rattle.std.specs.Prelude.{ℕ, List, length, Option, Some, None, Ok, Err, if◌then◌else◌}
use Rattle.limbo_lexer.specs.declared.token.Mark.{Mark}
use Rattle.limbo_lexer.specs.declared.token.Mark.TheVariants as mark
use Rattle.limbo_tree.specs.Exprs.{Expr, is_postfix}
use Rattle.limbo_tree.specs.Stmts.{Stmt, Break, Continue, Return, Exit, Spawn, Raise}
use Rattle.limbo_tree.specs.View.{view_boxed}
use Rattle.limbo_reading.specs.declared.fault.Fault.TheVariants.{Syntax}
use Rattle.limbo_reading.specs.Reading.{◌>>=◌, Reader, choose, after_mark, after_name, expect_mark}
use Rattle.limbo_expr_parser.specs.Exprs.{readers}
use Rattle.limbo_stmt_parts.specs.declared.start.Jump.{Jump}
use Rattle.limbo_stmt_parts.specs.declared.start.Jump.TheVariants as jump
use Rattle.limbo_stmt_parts.specs.declared.parts.ForHead as code_head

-- [ID]
unfoldable pub label_at : Reader (Option (List ℕ))
label_at ts = choose (after_name ts) (Ok (None, ts)) λ x. Ok (Some x.0, x.1)

-- [expr] before a sign, and the sign
unfoldable pub option_before : ℕ → Mark → Reader (Option Expr)
option_before b m ts = choose (after_mark m ts) (do
  e ← (readers b).expr ts
  us ← expect_mark m e.1
  Ok (Some e.0, us)) λ us. Ok (None, us)

-- expr before a sign, and the sign
unfoldable pub expr_before : ℕ → Mark → Reader Expr
expr_before b m ts = do
  e ← (readers b).expr ts
  us ← expect_mark m e.1
  Ok (e.0, us)

-- the expressions between the brackets of a "for"
pub record ForHead : Type 0 where
  pub first : Option Expr
  pub condition : Option Expr
  pub next : Option Expr

abbrev pub view_for_head : code_head.ForHead → ForHead
view_for_head h = record { first = view_boxed h.first; condition = view_boxed h.condition; next = view_boxed h.next }

-- what stands between "for" and its statement
unfoldable pub for_head_at : ℕ → Reader ForHead
for_head_at b ts = do
  us ← expect_mark mark.OpenParen ts
  a ← option_before b mark.Semicolon us
  c ← option_before b mark.Semicolon a.1
  n ← option_before b mark.CloseParen c.1
  Ok (record { first = a.0; condition = c.0; next = n.0 }, n.1)

-- a statement that ends in a semicolon here
abbrev pub ended : Stmt → Reader Stmt
ended s ts = do
  us ← expect_mark mark.Semicolon ts
  Ok (s, us)

-- postfix ";"
unfoldable pub spawned_at : ℕ → Reader Stmt
spawned_at b ts = do
  e ← (readers b).chain 0 ts
  if is_postfix e.0 then ended (Spawn e.0) e.1 else Err (Syntax (length ts))

-- what stands behind the keyword of a statement that ends in a semicolon
unfoldable pub jump_above : ℕ → Jump → Reader Stmt
jump_above b jump.Break ts = do
  l ← label_at ts
  ended (Break l.0) l.1
jump_above b jump.Continue ts = do
  l ← label_at ts
  ended (Continue l.0) l.1
jump_above b jump.Return ts = do
  e ← option_before b mark.Semicolon ts
  Ok (Return e.0, e.1)
jump_above b jump.Exit ts = ended Exit ts
jump_above b jump.Spawn ts = spawned_at b ts
jump_above b jump.Raise ts = do
  e ← option_before b mark.Semicolon ts
  Ok (Raise e.0, e.1)
