-- More budget changes nothing but a fault of depth.
use Rattle.std.proofs.Common.{ℕ, zero, suc, ◌≤◌, Bool, List, length, Option, Some, None, Result, Ok, Err, refl, arith}
use Rattle.limbo_lexer.specs.declared.token.Kind.{Kind}
use Rattle.limbo_lexer.specs.declared.token.Mark.{Mark}
use Rattle.limbo_lexer.specs.declared.token.Mark.TheVariants as mark
use Rattle.limbo_lexer.specs.declared.token.Key.TheVariants as key
use Rattle.limbo_tree.specs.Stmts.{Stmt, Stmts}
use Rattle.limbo_reading.specs.declared.fault.Fault.{Fault}
use Rattle.limbo_reading.specs.declared.fault.Fault.TheVariants.{Syntax, TooDeep}
use Rattle.limbo_reading.specs.Reading.{Reader, after_mark, after_key, expect_mark, expect_key, expect_name}
use Rattle.limbo_reading.proofs.Steps.{Deepens, deepens_same, deepens_bind, deepens_choose, deepens_if}
use Rattle.limbo_reading.proofs.Lists.{items_deepens, until_deepens}
use Rattle.limbo_expr_parser.specs.Exprs.{readers}
use Rattle.limbo_decl_parser.specs.Decls.{decl_at, fn_at}
use Rattle.limbo_stmt_parts.specs.declared.start.Branch.{Branch}
use Rattle.limbo_stmt_parts.specs.declared.start.Branch.TheVariants as branch
use Rattle.limbo_stmt_parts.specs.declared.start.Choice.TheVariants as choice
use Rattle.limbo_stmt_parts.specs.declared.start.Loop.TheVariants as loop
use Rattle.limbo_stmt_parts.specs.declared.start.Jump.{Jump}
use Rattle.limbo_stmt_parts.specs.declared.start.Jump.TheVariants as jump
use Rattle.limbo_stmt_parts.specs.declared.start.Region.{Region}
use Rattle.limbo_stmt_parts.specs.declared.start.Region.TheVariants as region
use Rattle.limbo_stmt_parts.specs.Start.{Start, AtEmpty, AtBlock, AtIf, AtBranch, AtLabelled, AtJump, AtDeclare, AtOther, start, may_head}
use Rattle.limbo_stmt_parts.specs.Heads.{star_alone, case_pattern_at, head_at, front_at, is_read, ends, closing}
use Rattle.limbo_stmt_parts.specs.Jumps.{label_at, option_before, expr_before, for_head_at, spawned_at, jump_above}
use Rattle.limbo_stmt_parser.specs.Stmts.{stmts_at, arm_at, arms_at, handler_at, block_above, if_above, branch_above, begun, stmt_at, block_at}
use Rattle.limbo_parser.specs.Sources.{defines, part_at, defined_at, top_at, tops_at, implements_at, tree_at}
use Rattle.limbo_expr_parser.proofs.Laws.{expr_deepens, unary_deepens}
use Rattle.limbo_decl_parser.proofs.Laws.{fn_deepens, decl_deepens}

-- ---- heads

pattern_deepens : (b c : ℕ) (ts : List Kind) → b ≤ c → Deepens (case_pattern_at b ts) (case_pattern_at c ts)
pattern_deepens b c ts le =
    deepens_choose (star_alone ts) _ _ _ _
    (deepens_bind ((readers b).expr ts) ((readers c).expr ts) _ _ (expr_deepens b c ts le) λ e.
    deepens_choose (after_key key.To e.1) _ _ _ _ refl λ us.
    deepens_bind ((readers b).expr us) ((readers c).expr us) _ _ (expr_deepens b c us le) λ f. refl)
    λ us. refl

head_deepens : (b c : ℕ) (r : Region) (ts : List Kind) → b ≤ c → Deepens (head_at b r ts) (head_at c r ts)
head_deepens b c region.Block ts le = refl
head_deepens b c region.Case ts le =
    deepens_bind _ _ _ _ (items_deepens (case_pattern_at b) (case_pattern_at c) (after_key key.Or) (λ us. pattern_deepens b c us le) ts) λ ps. refl
head_deepens b c region.Alt ts le =
    deepens_choose (star_alone ts) _ _ _ _ (deepens_bind ((readers b).expr ts) ((readers c).expr ts) _ _ (expr_deepens b c ts le) λ e. refl) λ us. refl
head_deepens b c region.Pick ts le = deepens_same _
head_deepens b c region.Handler ts le = deepens_same _

pub front_deepens : (b c : ℕ) (r : Region) (ts : List Kind) → b ≤ c → Deepens (front_at b r ts) (front_at c r ts)
unfolding front_at
front_deepens b c r ts le = deepens_bind (head_at b r ts) (head_at c r ts) _ _ (head_deepens b c r ts le) λ h. deepens_same _

read_deepens : (r s : Result _ Fault) → Deepens r s → Deepens (is_read r) (is_read s)
read_deepens (Ok x) s d = rw d refl
read_deepens (Err (Syntax n)) s d = rw d refl
read_deepens (Err (TooDeep n)) s d = tt

pub ends_deepens : (b c : ℕ) (r : Region) (ts : List Kind) → b ≤ c → Deepens (ends b r ts) (ends c r ts)
unfolding ends
ends_deepens b c r ts le =
    deepens_choose (after_mark mark.CloseBrace ts) _ _ _ _
    (deepens_if (may_head (start ts)) _ _ _ _ (read_deepens _ _ (front_deepens b c r ts le)) refl)
    λ us. refl

-- ---- statements, where t reads those within deeper than s does

option_deepens : (b c : ℕ) (m : Mark) (ts : List Kind) → b ≤ c → Deepens (option_before b m ts) (option_before c m ts)
unfolding option_before
option_deepens b c m ts le =
    deepens_choose (after_mark m ts) _ _ _ _ (deepens_bind ((readers b).expr ts) ((readers c).expr ts) _ _ (expr_deepens b c ts le) λ e. deepens_same _) λ us. refl

before_deepens : (b c : ℕ) (m : Mark) (ts : List Kind) → b ≤ c → Deepens (expr_before b m ts) (expr_before c m ts)
unfolding expr_before
before_deepens b c m ts le = deepens_bind ((readers b).expr ts) ((readers c).expr ts) _ _ (expr_deepens b c ts le) λ e. deepens_same _

-- t reads all that s reads
abbrev Deeper : Reader Stmt → Reader Stmt → Type 0
Deeper s t = (ts : List Kind) → Deepens (s ts) (t ts)

stmts_deepen : (b c : ℕ) (s t : Reader Stmt) (r : Region) (ts : List Kind) → b ≤ c → Deeper s t → Deepens (stmts_at b s r ts) (stmts_at c t r ts)
unfolding stmts_at
stmts_deepen b c s t r ts le d = until_deepens s t (ends b r) (ends c r) d (λ us. ends_deepens b c r us le) (suc (length ts)) ts

arm_deepens : (b c : ℕ) (s t : Reader Stmt) (r : Region) (ts : List Kind) → b ≤ c → Deeper s t → Deepens (arm_at b s r ts) (arm_at c t r ts)
unfolding arm_at
arm_deepens b c s t r ts le d =
    deepens_bind (front_at b r ts) (front_at c r ts) _ _ (front_deepens b c r ts le) λ h.
    deepens_bind (stmts_at b s r h.1) (stmts_at c t r h.1) _ _ (stmts_deepen b c s t r h.1 le d) λ ss. refl

arms_deepen : (b c : ℕ) (s t : Reader Stmt) (r : Region) (ts : List Kind) → b ≤ c → Deeper s t → Deepens (arms_at b s r ts) (arms_at c t r ts)
unfolding arms_at
arms_deepen b c s t r ts le d =
    deepens_bind _ _ _ _ (until_deepens (arm_at b s r) (arm_at c t r) closing closing (λ us. arm_deepens b c s t r us le d) (λ us. refl) (suc (length ts)) ts) λ arms. deepens_same _

handler_deepens : (b c : ℕ) (s t : Reader Stmt) (ss : Stmts) (ts : List Kind) → b ≤ c → Deeper s t → Deepens (handler_at b s ss ts) (handler_at c t ss ts)
handler_deepens b c s t ss ts le d =
    deepens_bind _ _ _ _ (deepens_same (label_at ts)) λ n.
    deepens_bind _ _ _ _ (deepens_same (expect_mark mark.OpenBrace n.1)) λ us.
    deepens_bind (arms_at b s region.Handler us) (arms_at c t region.Handler us) _ _ (arms_deepen b c s t region.Handler us le d) λ arms. refl

block_deepens : (b c : ℕ) (s t : Reader Stmt) (ts : List Kind) → b ≤ c → Deeper s t → Deepens (block_above b s ts) (block_above c t ts)
unfolding block_above
block_deepens b c s t ts le d =
    deepens_bind (stmts_at b s region.Block ts) (stmts_at c t region.Block ts) _ _ (stmts_deepen b c s t region.Block ts le d) λ ss.
    deepens_bind _ _ _ _ (deepens_same (expect_mark mark.CloseBrace ss.1)) λ us.
    deepens_choose (after_key key.Exception us) _ _ _ _ refl λ vs. handler_deepens b c s t _ vs le d

if_deepens : (b c : ℕ) (s t : Reader Stmt) (ts : List Kind) → b ≤ c → Deeper s t → Deepens (if_above b s ts) (if_above c t ts)
unfolding if_above
if_deepens b c s t ts le d =
    deepens_bind _ _ _ _ (deepens_same (expect_mark mark.OpenParen ts)) λ us.
    deepens_bind (expr_before b mark.CloseParen us) (expr_before c mark.CloseParen us) _ _ (before_deepens b c mark.CloseParen us le) λ e.
    deepens_bind (s e.1) (t e.1) _ _ (d e.1) λ x.
    deepens_choose (after_key key.Else x.1) _ _ _ _ refl λ vs.
    deepens_bind (s vs) (t vs) _ _ (d vs) λ y. refl

for_head_deepens : (b c : ℕ) (ts : List Kind) → b ≤ c → Deepens (for_head_at b ts) (for_head_at c ts)
unfolding for_head_at
for_head_deepens b c ts le =
    deepens_bind _ _ _ _ (deepens_same (expect_mark mark.OpenParen ts)) λ us.
    deepens_bind (option_before b mark.Semicolon us) (option_before c mark.Semicolon us) _ _ (option_deepens b c mark.Semicolon us le) λ a.
    deepens_bind (option_before b mark.Semicolon a.1) (option_before c mark.Semicolon a.1) _ _ (option_deepens b c mark.Semicolon a.1 le) λ e.
    deepens_bind (option_before b mark.CloseParen e.1) (option_before c mark.CloseParen e.1) _ _ (option_deepens b c mark.CloseParen e.1 le) λ n. refl

branch_deepens : (b c : ℕ) (s t : Reader Stmt) (l : Option (List ℕ)) (k : Branch) (ts : List Kind) → b ≤ c → Deeper s t → Deepens (branch_above b s l k ts) (branch_above c t l k ts)
unfolding branch_above
branch_deepens b c s t l (branch.Loop loop.While) ts le d =
    deepens_bind _ _ _ _ (deepens_same (expect_mark mark.OpenParen ts)) λ us.
    deepens_bind (option_before b mark.CloseParen us) (option_before c mark.CloseParen us) _ _ (option_deepens b c mark.CloseParen us le) λ e.
    deepens_bind (s e.1) (t e.1) _ _ (d e.1) λ x. refl
branch_deepens b c s t l (branch.Loop loop.Do) ts le d =
    deepens_bind (s ts) (t ts) _ _ (d ts) λ x.
    deepens_bind _ _ _ _ (deepens_same (expect_key key.While x.1)) λ us.
    deepens_bind _ _ _ _ (deepens_same (expect_mark mark.OpenParen us)) λ vs.
    deepens_bind (option_before b mark.CloseParen vs) (option_before c mark.CloseParen vs) _ _ (option_deepens b c mark.CloseParen vs le) λ e. deepens_same _
branch_deepens b c s t l (branch.Loop loop.For) ts le d =
    deepens_bind (for_head_at b ts) (for_head_at c ts) _ _ (for_head_deepens b c ts le) λ h.
    deepens_bind (s h.1) (t h.1) _ _ (d h.1) λ x. refl
branch_deepens b c s t l (branch.Choice choice.Case) ts le d =
    deepens_bind (expr_before b mark.OpenBrace ts) (expr_before c mark.OpenBrace ts) _ _ (before_deepens b c mark.OpenBrace ts le) λ e.
    deepens_bind (arms_at b s region.Case e.1) (arms_at c t region.Case e.1) _ _ (arms_deepen b c s t region.Case e.1 le d) λ arms. refl
branch_deepens b c s t l (branch.Choice choice.Alt) ts le d =
    deepens_bind _ _ _ _ (deepens_same (expect_mark mark.OpenBrace ts)) λ us.
    deepens_bind (arms_at b s region.Alt us) (arms_at c t region.Alt us) _ _ (arms_deepen b c s t region.Alt us le d) λ arms. refl
branch_deepens b c s t l (branch.Choice choice.Pick) ts le d =
    deepens_bind _ _ _ _ (deepens_same (expect_name ts)) λ n.
    deepens_bind _ _ _ _ (deepens_same (expect_mark mark.Define n.1)) λ us.
    deepens_bind (expr_before b mark.OpenBrace us) (expr_before c mark.OpenBrace us) _ _ (before_deepens b c mark.OpenBrace us le) λ e.
    deepens_bind (arms_at b s region.Pick e.1) (arms_at c t region.Pick e.1) _ _ (arms_deepen b c s t region.Pick e.1 le d) λ arms. refl

spawned_deepens : (b c : ℕ) (ts : List Kind) → b ≤ c → Deepens (spawned_at b ts) (spawned_at c ts)
unfolding spawned_at
spawned_deepens b c ts le =
    deepens_bind ((readers b).chain 0 ts) ((readers c).chain 0 ts) _ _ (unary_deepens b c ts le) λ e. deepens_same _

jump_deepens : (b c : ℕ) (j : Jump) (ts : List Kind) → b ≤ c → Deepens (jump_above b j ts) (jump_above c j ts)
unfolding jump_above
jump_deepens b c jump.Break ts le = deepens_same _
jump_deepens b c jump.Continue ts le = deepens_same _
jump_deepens b c jump.Return ts le =
    deepens_bind (option_before b mark.Semicolon ts) (option_before c mark.Semicolon ts) _ _ (option_deepens b c mark.Semicolon ts le) λ e. refl
jump_deepens b c jump.Exit ts le = deepens_same _
jump_deepens b c jump.Spawn ts le = spawned_deepens b c ts le
jump_deepens b c jump.Raise ts le =
    deepens_bind (option_before b mark.Semicolon ts) (option_before c mark.Semicolon ts) _ _ (option_deepens b c mark.Semicolon ts le) λ e. refl

begun_deepens : (b c : ℕ) (s t : Reader Stmt) (at : Start) (ts : List Kind) → b ≤ c → Deeper s t → Deepens (begun b s at ts) (begun c t at ts)
begun_deepens b c s t (AtEmpty us) ts le d = refl
begun_deepens b c s t (AtBlock us) ts le d = deepens_bind (block_above b s us) (block_above c t us) _ _ (block_deepens b c s t us le d) λ x. refl
begun_deepens b c s t (AtIf us) ts le d = if_deepens b c s t us le d
begun_deepens b c s t (AtBranch k us) ts le d = branch_deepens b c s t None k us le d
begun_deepens b c s t (AtLabelled k us) ts le d =
    deepens_bind _ _ _ _ (deepens_same (expect_name ts)) λ n. branch_deepens b c s t (Some n.0) k us le d
begun_deepens b c s t (AtJump j us) ts le d = jump_deepens b c j us le
begun_deepens b c s t AtDeclare ts le d = deepens_bind (decl_at b ts) (decl_at c ts) _ _ (decl_deepens b c ts le) λ x. refl
begun_deepens b c s t AtOther ts le d =
    deepens_bind (expr_before b mark.Semicolon ts) (expr_before c mark.Semicolon ts) _ _ (before_deepens b c mark.Semicolon ts le) λ e. refl

pub stmt_deepens : (b c : ℕ) (ts : List Kind) → b ≤ c → Deepens (stmt_at b ts) (stmt_at c ts)
unfolding stmt_at
stmt_deepens zero c ts le = tt
stmt_deepens (suc b) zero ts le = absurd (omega arith)
stmt_deepens (suc b) (suc c) ts le =
    begun_deepens b c (stmt_at b) (stmt_at c) (start ts) ts (omega arith) (λ us. stmt_deepens b c us (omega arith))

pub block_at_deepens : (b c : ℕ) (ts : List Kind) → b ≤ c → Deepens (block_at b ts) (block_at c ts)
unfolding block_at
block_at_deepens b c ts le =
    deepens_bind _ _ _ _ (deepens_same (expect_mark mark.OpenBrace ts)) λ us.
    block_deepens b c (stmt_at b) (stmt_at c) us le (λ vs. stmt_deepens b c vs le)

-- ---- sources

defined_deepens : (b c : ℕ) (ts : List Kind) → b ≤ c → Deepens (defined_at b ts) (defined_at c ts)
unfolding defined_at
defined_deepens b c ts le =
    deepens_bind _ _ _ _ (deepens_same (expect_name ts)) λ n.
    deepens_bind _ _ _ _ (deepens_same (part_at n.1)) λ part.
    deepens_bind (fn_at b part.1) (fn_at c part.1) _ _ (fn_deepens b c part.1 le) λ f.
    deepens_bind (block_at b f.1) (block_at c f.1) _ _ (block_at_deepens b c f.1 le) λ body. refl

top_deepens : (b c : ℕ) (ts : List Kind) → b ≤ c → Deepens (top_at b ts) (top_at c ts)
unfolding top_at
top_deepens b c ts le =
    deepens_choose (after_key key.Include ts) _ _ _ _
    (deepens_if (defines ts) _ _ _ _ (defined_deepens b c ts le) (deepens_bind (decl_at b ts) (decl_at c ts) _ _ (decl_deepens b c ts le) λ d. refl))
    λ us. deepens_same _

tops_deepen : (b c : ℕ) (ts : List Kind) → b ≤ c → Deepens (tops_at b ts) (tops_at c ts)
unfolding tops_at
tops_deepen b c ts le = until_deepens (top_at b) (top_at c) _ _ (λ us. top_deepens b c us le) (λ us. refl) (suc (length ts)) ts

pub tree_deepens : (b c : ℕ) (included : Bool) (ts : List Kind) → b ≤ c → Deepens (tree_at b included ts) (tree_at c included ts)
unfolding tree_at
tree_deepens b c included ts le =
    deepens_bind _ _ _ _ (deepens_same (implements_at included ts)) λ n.
    deepens_bind (tops_at b n.1) (tops_at c n.1) _ _ (tops_deepen b c n.1 le) λ tops. deepens_same _
