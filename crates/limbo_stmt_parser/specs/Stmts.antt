-- Reading statements, from left to right, with the first fault that is met. The kind of a statement is chosen by its
-- first tokens.
use Rattle.std.specs.Prelude.{ℕ, zero, suc, List, length, Option, Some, None, Ok, Err}
use Rattle.limbo_lexer.specs.declared.token.Mark.TheVariants as mark
use Rattle.limbo_lexer.specs.declared.token.Key.TheVariants as key
use Rattle.limbo_tree.specs.Stmts.{Stmt, Stmts, Block, Empty, Nested, Declare, Eval, If}
use Rattle.limbo_tree.specs.Stmts.{IfElse, While, Do, For, Case, Alt, Pick, Plain, Handled}
use Rattle.limbo_tree.specs.View.{Arm, stmts_of, arms_of}
use Rattle.limbo_reading.specs.declared.fault.Fault.TheVariants.{TooDeep}
use Rattle.limbo_reading.specs.Reading.{◌>>=◌, Reader, choose, after_key, expect_mark, expect_key, expect_name}
use Rattle.limbo_reading.specs.Lists.{until}
use Rattle.limbo_decl_parser.specs.Decls.{decl_at}
use Rattle.limbo_stmt_parts.specs.declared.start.Branch.{Branch}
use Rattle.limbo_stmt_parts.specs.declared.start.Branch.TheVariants as branch
use Rattle.limbo_stmt_parts.specs.declared.start.Choice.TheVariants as choice
use Rattle.limbo_stmt_parts.specs.declared.start.Loop.TheVariants as loop
use Rattle.limbo_stmt_parts.specs.declared.start.Region.{Region}
use Rattle.limbo_stmt_parts.specs.declared.start.Region.TheVariants as region
use Rattle.limbo_stmt_parts.specs.Start.{Start, AtEmpty, AtBlock, AtIf, AtBranch, AtLabelled, AtJump, AtDeclare, AtOther, start}
use Rattle.limbo_stmt_parts.specs.Heads.{front_at, closing, ends}
use Rattle.limbo_stmt_parts.specs.Jumps.{label_at, option_before, expr_before, for_head_at, jump_above}

-- {stmt} of a region
unfoldable pub stmts_at : ℕ → Reader Stmt → Region → Reader (List Stmt)
stmts_at b s r ts = until s (ends b r) (suc (length ts)) ts

-- an arm, with its head and its statements
unfoldable pub arm_at : ℕ → Reader Stmt → Region → Reader Arm
arm_at b s r ts = do
  h ← front_at b r ts
  ss ← stmts_at b s r h.1
  Ok (record { head = h.0; body = stmts_of ss.0 }, ss.1)

-- {arm} "}"
unfoldable pub arms_at : ℕ → Reader Stmt → Region → Reader (List Arm)
arms_at b s r ts = do
  arms ← until (arm_at b s r) closing (suc (length ts)) ts
  us ← expect_mark mark.CloseBrace arms.1
  Ok (arms.0, us)

-- what handles the exceptions of a block's statements
abbrev pub handler_at : ℕ → Reader Stmt → Stmts → Reader Block
handler_at b s ss ts = do
  n ← label_at ts
  us ← expect_mark mark.OpenBrace n.1
  arms ← arms_at b s region.Handler us
  Ok (Handled ss n.0 (arms_of arms.0), arms.1)

-- a block behind its "{"
unfoldable pub block_above : ℕ → Reader Stmt → Reader Block
block_above b s ts = do
  ss ← stmts_at b s region.Block ts
  us ← expect_mark mark.CloseBrace ss.1
  choose (after_key key.Exception us) (Ok (Plain (stmts_of ss.0), us)) λ vs. handler_at b s (stmts_of ss.0) vs

-- what stands behind "if"
unfoldable pub if_above : ℕ → Reader Stmt → Reader Stmt
if_above b s ts = do
  us ← expect_mark mark.OpenParen ts
  c ← expr_before b mark.CloseParen us
  x ← s c.1
  choose (after_key key.Else x.1) (Ok (If c.0 x.0, x.1)) λ vs. do
    y ← s vs
    Ok (IfElse c.0 x.0 y.0, y.1)

-- what stands behind the keyword of a statement that may have a label
unfoldable pub branch_above : ℕ → Reader Stmt → Option (List ℕ) → Branch → Reader Stmt
branch_above b s l (branch.Loop loop.While) ts = do
  us ← expect_mark mark.OpenParen ts
  c ← option_before b mark.CloseParen us
  x ← s c.1
  Ok (While l c.0 x.0, x.1)
branch_above b s l (branch.Loop loop.Do) ts = do
  x ← s ts
  us ← expect_key key.While x.1
  vs ← expect_mark mark.OpenParen us
  c ← option_before b mark.CloseParen vs
  ws ← expect_mark mark.Semicolon c.1
  Ok (Do l x.0 c.0, ws)
branch_above b s l (branch.Loop loop.For) ts = do
  h ← for_head_at b ts
  x ← s h.1
  Ok (For l h.0.first h.0.condition h.0.next x.0, x.1)
branch_above b s l (branch.Choice choice.Case) ts = do
  e ← expr_before b mark.OpenBrace ts
  arms ← arms_at b s region.Case e.1
  Ok (Case l e.0 (arms_of arms.0), arms.1)
branch_above b s l (branch.Choice choice.Alt) ts = do
  us ← expect_mark mark.OpenBrace ts
  arms ← arms_at b s region.Alt us
  Ok (Alt l (arms_of arms.0), arms.1)
branch_above b s l (branch.Choice choice.Pick) ts = do
  n ← expect_name ts
  us ← expect_mark mark.Define n.1
  e ← expr_before b mark.OpenBrace us
  arms ← arms_at b s region.Pick e.1
  Ok (Pick l n.0 e.0 (arms_of arms.0), arms.1)

-- a statement that begins so, whose statements s reads and whose other parts nest up to b
abbrev pub begun : ℕ → Reader Stmt → Start → Reader Stmt
begun b s (AtEmpty us) ts = Ok (Empty, us)
begun b s (AtBlock us) ts = do
  x ← block_above b s us
  Ok (Nested x.0, x.1)
begun b s (AtIf us) ts = if_above b s us
begun b s (AtBranch k us) ts = branch_above b s None k us
begun b s (AtLabelled k us) ts = do
  n ← expect_name ts
  branch_above b s (Some n.0) k us
begun b s (AtJump j us) ts = jump_above b j us
begun b s AtDeclare ts = do
  d ← decl_at b ts
  Ok (Declare d.0, d.1)
begun b s AtOther ts = do
  e ← expr_before b mark.Semicolon ts
  Ok (Eval e.0, e.1)

-- statements of nesting up to a limit
unfoldable pub stmt_at : ℕ → Reader Stmt
stmt_at zero ts = Err (TooDeep (length ts))
stmt_at (suc b) ts = begun b (stmt_at b) (start ts) ts

-- a block whose statements nest up to a limit
unfoldable pub block_at : ℕ → Reader Block
block_at b ts = do
  us ← expect_mark mark.OpenBrace ts
  block_above b (stmt_at b) us
