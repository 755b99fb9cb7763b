-- The equations of the views of statements, blocks and arms.
use Rattle.std.proofs.Common.{◌≡◌, map, Option, Some, None, Vec, Box, Global, sym, ap, ◌∙◌}
use Rattle.std.specs.Prelude.{option_map}
use Rattle.limbo_lexer.specs.inf_text.declared.span.Span.{Span}
use Rattle.limbo_tree.specs.declared.name.Name as code_name
use Rattle.limbo_tree.specs.declared.expr.Expr as code_expr
use Rattle.limbo_tree.specs.declared.decl.Decl as code_decl
use Rattle.limbo_tree.specs.declared.stmt.Stmt as code_stmt
use Rattle.limbo_tree.specs.declared.stmt.Stmt.{Stmt-F, fold-roll-Stmt}
use Rattle.limbo_tree.specs.declared.stmt.Stmt.TheVariants as make
use Rattle.limbo_tree.specs.declared.stmt.Block as code_block
use Rattle.limbo_tree.specs.declared.stmt.Block.{out-Block, roll-Block, roll-out-Block, fold-roll-Block}
use Rattle.limbo_tree.specs.declared.stmt.Handler as code_handler
use Rattle.limbo_tree.specs.declared.stmt.Handler.{fold-Handler, roll-Handler, fold-roll-Handler}
use Rattle.limbo_tree.specs.declared.stmt.HandlerArm as code_handler_arm
use Rattle.limbo_tree.specs.declared.stmt.HandlerArm.{roll-HandlerArm, fold-roll-HandlerArm}
use Rattle.limbo_tree.specs.declared.stmt.AltArm as code_alt_arm
use Rattle.limbo_tree.specs.declared.stmt.AltArm.{roll-AltArm, fold-roll-AltArm}
use Rattle.limbo_tree.specs.declared.stmt.PickArm as code_pick_arm
use Rattle.limbo_tree.specs.declared.stmt.PickArm.{roll-PickArm, fold-roll-PickArm}
use Rattle.limbo_tree.specs.declared.stmt.CaseArm as code_case_arm
use Rattle.limbo_tree.specs.declared.stmt.CaseArm.{roll-CaseArm, fold-roll-CaseArm}
use Rattle.limbo_tree.specs.declared.stmt.Pattern as code_pattern
use Rattle.limbo_tree.specs.declared.stmt.HandlerPattern as code_handler_pattern
use Rattle.limbo_tree.specs.Exprs.{Expr}
use Rattle.limbo_tree.specs.Stmts as stmts
use Rattle.limbo_tree.specs.View.{Arm, Handler, stmts_of, arms_of, name_of, names_of, view_expr, view_boxed, view_decl, view_pattern, view_handler_pattern, view_stmt, view_block, view_case_arm, view_alt_arm, view_pick_arm, view_handler_arm, stmt_step, alt_arm_step, block_step, case_arm_step, handler_step, handler_arm_step, pick_arm_step, block_of}

pub view_stmt-Empty : (at : Span) → view_stmt (make.Empty at) ≡ stmts.Empty
unfolding view_stmt view_block view_case_arm view_alt_arm view_pick_arm
view_stmt-Empty at = ap view_stmt (sym (make.rolls-Empty at)) ∙ fold-roll-Stmt _ _ _ _ _ _ _ stmt_step alt_arm_step block_step case_arm_step handler_step handler_arm_step pick_arm_step (Stmt-F.Empty at)

pub view_stmt-Block : (b : code_block.Block) (at : Span) → view_stmt (make.Block b at) ≡ stmts.Nested (view_block b)
unfolding view_stmt view_block view_case_arm view_alt_arm view_pick_arm
view_stmt-Block b at = ap view_stmt (sym (make.rolls-Block b at)) ∙ fold-roll-Stmt _ _ _ _ _ _ _ stmt_step alt_arm_step block_step case_arm_step handler_step handler_arm_step pick_arm_step (Stmt-F.Block b at)

pub view_stmt-Declare : (d : Box code_decl.Decl Global) (at : Span) → view_stmt (make.Declare d at) ≡ stmts.Declare (view_decl d.value)
unfolding view_stmt view_block view_case_arm view_alt_arm view_pick_arm
view_stmt-Declare d at = ap view_stmt (sym (make.rolls-Declare d at)) ∙ fold-roll-Stmt _ _ _ _ _ _ _ stmt_step alt_arm_step block_step case_arm_step handler_step handler_arm_step pick_arm_step (Stmt-F.Declare d at)

pub view_stmt-Eval : (e : Box code_expr.Expr Global) (at : Span) → view_stmt (make.Eval e at) ≡ stmts.Eval (view_expr e.value)
unfolding view_stmt view_block view_case_arm view_alt_arm view_pick_arm
view_stmt-Eval e at = ap view_stmt (sym (make.rolls-Eval e at)) ∙ fold-roll-Stmt _ _ _ _ _ _ _ stmt_step alt_arm_step block_step case_arm_step handler_step handler_arm_step pick_arm_step (Stmt-F.Eval e at)

pub view_stmt-If : (c : Box code_expr.Expr Global) (s : Box code_stmt.Stmt Global) (at : Span) → view_stmt (make.If c s None at) ≡ stmts.If (view_expr c.value) (view_stmt s.value)
unfolding view_stmt view_block view_case_arm view_alt_arm view_pick_arm
view_stmt-If c s at = ap view_stmt (sym (make.rolls-If c s None at)) ∙ fold-roll-Stmt _ _ _ _ _ _ _ stmt_step alt_arm_step block_step case_arm_step handler_step handler_arm_step pick_arm_step (Stmt-F.If c s None at)

pub view_stmt-IfElse : (c : Box code_expr.Expr Global) (s t : Box code_stmt.Stmt Global) (at : Span) → view_stmt (make.If c s (Some t) at) ≡ stmts.IfElse (view_expr c.value) (view_stmt s.value) (view_stmt t.value)
unfolding view_stmt view_block view_case_arm view_alt_arm view_pick_arm
view_stmt-IfElse c s t at = ap view_stmt (sym (make.rolls-If c s (Some t) at)) ∙ fold-roll-Stmt _ _ _ _ _ _ _ stmt_step alt_arm_step block_step case_arm_step handler_step handler_arm_step pick_arm_step (Stmt-F.If c s (Some t) at)

pub view_stmt-While : (l : Option code_name.Name) (c : Option (Box code_expr.Expr Global)) (s : Box code_stmt.Stmt Global) (at : Span) → view_stmt (make.While l c s at) ≡ stmts.While (name_of l) (view_boxed c) (view_stmt s.value)
unfolding view_stmt view_block view_case_arm view_alt_arm view_pick_arm
view_stmt-While l c s at = ap view_stmt (sym (make.rolls-While l c s at)) ∙ fold-roll-Stmt _ _ _ _ _ _ _ stmt_step alt_arm_step block_step case_arm_step handler_step handler_arm_step pick_arm_step (Stmt-F.While l c s at)

pub view_stmt-Do : (l : Option code_name.Name) (s : Box code_stmt.Stmt Global) (c : Option (Box code_expr.Expr Global)) (at : Span) → view_stmt (make.Do l s c at) ≡ stmts.Do (name_of l) (view_stmt s.value) (view_boxed c)
unfolding view_stmt view_block view_case_arm view_alt_arm view_pick_arm
view_stmt-Do l s c at = ap view_stmt (sym (make.rolls-Do l s c at)) ∙ fold-roll-Stmt _ _ _ _ _ _ _ stmt_step alt_arm_step block_step case_arm_step handler_step handler_arm_step pick_arm_step (Stmt-F.Do l s c at)

pub view_stmt-For : (l : Option code_name.Name) (a c b : Option (Box code_expr.Expr Global)) (s : Box code_stmt.Stmt Global) (at : Span) → view_stmt (make.For l a c b s at) ≡ stmts.For (name_of l) (view_boxed a) (view_boxed c) (view_boxed b) (view_stmt s.value)
unfolding view_stmt view_block view_case_arm view_alt_arm view_pick_arm
view_stmt-For l a c b s at = ap view_stmt (sym (make.rolls-For l a c b s at)) ∙ fold-roll-Stmt _ _ _ _ _ _ _ stmt_step alt_arm_step block_step case_arm_step handler_step handler_arm_step pick_arm_step (Stmt-F.For l a c b s at)

pub view_stmt-Case : (l : Option code_name.Name) (e : Box code_expr.Expr Global) (arms : Vec code_case_arm.CaseArm Global) (at : Span) → view_stmt (make.Case l e arms at) ≡ stmts.Case (name_of l) (view_expr e.value) (arms_of (map view_case_arm arms.items))
unfolding view_stmt view_block view_case_arm view_alt_arm view_pick_arm
view_stmt-Case l e arms at = ap view_stmt (sym (make.rolls-Case l e arms at)) ∙ fold-roll-Stmt _ _ _ _ _ _ _ stmt_step alt_arm_step block_step case_arm_step handler_step handler_arm_step pick_arm_step (Stmt-F.Case l e arms at)

pub view_stmt-Alt : (l : Option code_name.Name) (arms : Vec code_alt_arm.AltArm Global) (at : Span) → view_stmt (make.Alt l arms at) ≡ stmts.Alt (name_of l) (arms_of (map view_alt_arm arms.items))
unfolding view_stmt view_block view_case_arm view_alt_arm view_pick_arm
view_stmt-Alt l arms at = ap view_stmt (sym (make.rolls-Alt l arms at)) ∙ fold-roll-Stmt _ _ _ _ _ _ _ stmt_step alt_arm_step block_step case_arm_step handler_step handler_arm_step pick_arm_step (Stmt-F.Alt l arms at)

pub view_stmt-Pick : (l : Option code_name.Name) (n : code_name.Name) (e : Box code_expr.Expr Global) (arms : Vec code_pick_arm.PickArm Global) (at : Span) → view_stmt (make.Pick l n e arms at) ≡ stmts.Pick (name_of l) n.text (view_expr e.value) (arms_of (map view_pick_arm arms.items))
unfolding view_stmt view_block view_case_arm view_alt_arm view_pick_arm
view_stmt-Pick l n e arms at = ap view_stmt (sym (make.rolls-Pick l n e arms at)) ∙ fold-roll-Stmt _ _ _ _ _ _ _ stmt_step alt_arm_step block_step case_arm_step handler_step handler_arm_step pick_arm_step (Stmt-F.Pick l n e arms at)

pub view_stmt-Break : (l : Option code_name.Name) (at : Span) → view_stmt (make.Break l at) ≡ stmts.Break (name_of l)
unfolding view_stmt view_block view_case_arm view_alt_arm view_pick_arm
view_stmt-Break l at = ap view_stmt (sym (make.rolls-Break l at)) ∙ fold-roll-Stmt _ _ _ _ _ _ _ stmt_step alt_arm_step block_step case_arm_step handler_step handler_arm_step pick_arm_step (Stmt-F.Break l at)

pub view_stmt-Continue : (l : Option code_name.Name) (at : Span) → view_stmt (make.Continue l at) ≡ stmts.Continue (name_of l)
unfolding view_stmt view_block view_case_arm view_alt_arm view_pick_arm
view_stmt-Continue l at = ap view_stmt (sym (make.rolls-Continue l at)) ∙ fold-roll-Stmt _ _ _ _ _ _ _ stmt_step alt_arm_step block_step case_arm_step handler_step handler_arm_step pick_arm_step (Stmt-F.Continue l at)

pub view_stmt-Return : (e : Option (Box code_expr.Expr Global)) (at : Span) → view_stmt (make.Return e at) ≡ stmts.Return (view_boxed e)
unfolding view_stmt view_block view_case_arm view_alt_arm view_pick_arm
view_stmt-Return e at = ap view_stmt (sym (make.rolls-Return e at)) ∙ fold-roll-Stmt _ _ _ _ _ _ _ stmt_step alt_arm_step block_step case_arm_step handler_step handler_arm_step pick_arm_step (Stmt-F.Return e at)

pub view_stmt-Exit : (at : Span) → view_stmt (make.Exit at) ≡ stmts.Exit
unfolding view_stmt view_block view_case_arm view_alt_arm view_pick_arm
view_stmt-Exit at = ap view_stmt (sym (make.rolls-Exit at)) ∙ fold-roll-Stmt _ _ _ _ _ _ _ stmt_step alt_arm_step block_step case_arm_step handler_step handler_arm_step pick_arm_step (Stmt-F.Exit at)

pub view_stmt-Spawn : (e : Box code_expr.Expr Global) (at : Span) → view_stmt (make.Spawn e at) ≡ stmts.Spawn (view_expr e.value)
unfolding view_stmt view_block view_case_arm view_alt_arm view_pick_arm
view_stmt-Spawn e at = ap view_stmt (sym (make.rolls-Spawn e at)) ∙ fold-roll-Stmt _ _ _ _ _ _ _ stmt_step alt_arm_step block_step case_arm_step handler_step handler_arm_step pick_arm_step (Stmt-F.Spawn e at)

pub view_stmt-Raise : (e : Option (Box code_expr.Expr Global)) (at : Span) → view_stmt (make.Raise e at) ≡ stmts.Raise (view_boxed e)
unfolding view_stmt view_block view_case_arm view_alt_arm view_pick_arm
view_stmt-Raise e at = ap view_stmt (sym (make.rolls-Raise e at)) ∙ fold-roll-Stmt _ _ _ _ _ _ _ stmt_step alt_arm_step block_step case_arm_step handler_step handler_arm_step pick_arm_step (Stmt-F.Raise e at)

pub ruleset the_stmt_views = (view_stmt-Empty, view_stmt-Block, view_stmt-Declare, view_stmt-Eval, view_stmt-If, view_stmt-IfElse, view_stmt-While, view_stmt-Do, view_stmt-For, view_stmt-Case, view_stmt-Alt, view_stmt-Pick, view_stmt-Break, view_stmt-Continue, view_stmt-Return, view_stmt-Exit, view_stmt-Spawn, view_stmt-Raise)

-- ---- blocks and arms

pub view_block-plain : (ss : Vec code_stmt.Stmt Global) (at : Span) → view_block (roll-Block (record { statements = ss; handler = None; span = at })) ≡ stmts.Plain (stmts_of (map view_stmt ss.items))
unfolding view_block view_stmt
view_block-plain ss at = fold-roll-Block _ _ _ _ _ _ _ stmt_step alt_arm_step block_step case_arm_step handler_step handler_arm_step pick_arm_step (record { statements = ss; handler = None; span = at })

pub view_block-handled : (ss : Vec code_stmt.Stmt Global) (n : Option code_name.Name) (arms : Vec code_handler_arm.HandlerArm Global) (at : Span)
    → view_block (roll-Block (record { statements = ss; handler = Some (roll-Handler (record { name = n; arms = arms })); span = at })) ≡ stmts.Handled (stmts_of (map view_stmt ss.items)) (name_of n) (arms_of (map view_handler_arm arms.items))
unfolding view_block view_stmt view_handler_arm
view_block-handled ss n arms at =
    fold-roll-Block _ _ _ _ _ _ _ stmt_step alt_arm_step block_step case_arm_step handler_step handler_arm_step pick_arm_step (record { statements = ss; handler = Some (roll-Handler (record { name = n; arms = arms })); span = at })
    ∙ ap (λ (h : Handler). stmts.Handled (stmts_of (map view_stmt ss.items)) h.name h.arms) (fold-roll-Handler _ _ _ _ _ _ _ stmt_step alt_arm_step block_step case_arm_step handler_step handler_arm_step pick_arm_step (record { name = n; arms = arms }))

pub view_case_arm-is : (ps : Vec code_pattern.Pattern Global) (ss : Vec code_stmt.Stmt Global) (at : Span) → view_case_arm (roll-CaseArm (record { patterns = ps; body = ss; span = at })) ≡ record { head = stmts.CaseHead (map view_pattern ps.items); body = stmts_of (map view_stmt ss.items) }
unfolding view_case_arm view_stmt
view_case_arm-is ps ss at = fold-roll-CaseArm _ _ _ _ _ _ _ stmt_step alt_arm_step block_step case_arm_step handler_step handler_arm_step pick_arm_step (record { patterns = ps; body = ss; span = at })

pub view_alt_arm-is : (h : Option (Box code_expr.Expr Global)) (ss : Vec code_stmt.Stmt Global) (at : Span) → view_alt_arm (roll-AltArm (record { head = h; body = ss; span = at })) ≡ record { head = stmts.AltHead (view_boxed h); body = stmts_of (map view_stmt ss.items) }
unfolding view_alt_arm view_stmt
view_alt_arm-is h ss at = fold-roll-AltArm _ _ _ _ _ _ _ stmt_step alt_arm_step block_step case_arm_step handler_step handler_arm_step pick_arm_step (record { head = h; body = ss; span = at })

pub view_pick_arm-is : (ns : Vec code_name.Name Global) (ss : Vec code_stmt.Stmt Global) (at : Span) → view_pick_arm (roll-PickArm (record { names = ns; body = ss; span = at })) ≡ record { head = stmts.PickHead (names_of ns.items); body = stmts_of (map view_stmt ss.items) }
unfolding view_pick_arm view_stmt
view_pick_arm-is ns ss at = fold-roll-PickArm _ _ _ _ _ _ _ stmt_step alt_arm_step block_step case_arm_step handler_step handler_arm_step pick_arm_step (record { names = ns; body = ss; span = at })

pub view_handler_arm-is : (ps : Vec code_handler_pattern.HandlerPattern Global) (ss : Vec code_stmt.Stmt Global) (at : Span) → view_handler_arm (roll-HandlerArm (record { patterns = ps; body = ss; span = at })) ≡ record { head = stmts.HandlerHead (map view_handler_pattern ps.items); body = stmts_of (map view_stmt ss.items) }
unfolding view_handler_arm view_stmt
view_handler_arm-is ps ss at = fold-roll-HandlerArm _ _ _ _ _ _ _ stmt_step alt_arm_step block_step case_arm_step handler_step handler_arm_step pick_arm_step (record { patterns = ps; body = ss; span = at })

pub ruleset the_block_views = (view_block-plain, view_block-handled, view_case_arm-is, view_alt_arm-is, view_pick_arm-is, view_handler_arm-is)

-- ---- a block by its parts

pub view_handler : code_handler.Handler → Handler
view_handler = fold-Handler stmts.Stmt Arm stmts.Block Arm Handler Arm Arm stmt_step alt_arm_step block_step case_arm_step handler_step handler_arm_step pick_arm_step

block_parts : (b : code_block.Block) → view_block b ≡ block_of (stmts_of (map view_stmt (out-Block b).statements.items)) (option_map view_handler (out-Block b).handler)
unfolding view_block view_stmt view_handler
block_parts b = go (out-Block b).statements (out-Block b).handler (out-Block b).span (sym (roll-out-Block b))
  where
    go : (ss : Vec code_stmt.Stmt Global) (h : Option code_handler.Handler) (s : Span) → b ≡ roll-Block (record { statements = ss; handler = h; span = s }) → view_block b ≡ block_of (stmts_of (map view_stmt ss.items)) (option_map view_handler h)
    go ss None s at = ap view_block at ∙ fold-roll-Block _ _ _ _ _ _ _ stmt_step alt_arm_step block_step case_arm_step handler_step handler_arm_step pick_arm_step (record { statements = ss; handler = None; span = s })
    go ss (Some h) s at = ap view_block at ∙ fold-roll-Block _ _ _ _ _ _ _ stmt_step alt_arm_step block_step case_arm_step handler_step handler_arm_step pick_arm_step (record { statements = ss; handler = Some h; span = s })

pub block_plain : (b : code_block.Block) → (out-Block b).handler ≡ None → view_block b ≡ stmts.Plain (stmts_of (map view_stmt (out-Block b).statements.items))
block_plain b h = block_parts b ∙ ap (λ o. block_of (stmts_of (map view_stmt (out-Block b).statements.items)) (option_map view_handler o)) h

pub block_handled : (b : code_block.Block) (h : code_handler.Handler) → (out-Block b).handler ≡ Some h → view_block b ≡ stmts.Handled (stmts_of (map view_stmt (out-Block b).statements.items)) (view_handler h).name (view_handler h).arms
block_handled b h e = block_parts b ∙ ap (λ o. block_of (stmts_of (map view_stmt (out-Block b).statements.items)) (option_map view_handler o)) e

pub ruleset the_blocks = (block_plain, block_handled)
