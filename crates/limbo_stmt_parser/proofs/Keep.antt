-- Where a fault of depth stands, and how many tokens are left behind what is read.
use Rattle.std.proofs.Common.{ℕ, zero, suc, ◌+◌, ◌≤◌, Bool, true, false, cond, List, ◌∷◌, length, Option, Some, None, Result, Ok, Err, ap, arith}
use Rattle.limbo_lexer.specs.declared.token.Kind.{Kind}
use Rattle.limbo_lexer.specs.declared.token.Kind.TheVariants as kind
use Rattle.limbo_lexer.specs.declared.token.Mark.{Mark}
use Rattle.limbo_lexer.specs.declared.token.Mark.TheVariants as mark
use Rattle.limbo_lexer.specs.declared.token.Key.TheVariants as key
use Rattle.limbo_tree.specs.Tokens.{◌▸◌, ◌▹◌}
use Rattle.limbo_tree.specs.Exprs.{is_postfix}
use Rattle.limbo_tree.specs.Stmts.{Head, Stmt, Stmts}
use Rattle.limbo_reading.specs.declared.fault.Fault.{Fault}
use Rattle.limbo_reading.specs.declared.fault.Fault.TheVariants.{Syntax, TooDeep}
use Rattle.limbo_reading.specs.Reading.{◌>>=◌, Reader, choose, after_mark, after_key, after_name, expect_mark, expect_key, expect_name}
use Rattle.limbo_reading.proofs.Steps.{Keeps, KeepsRest, keeps_less, keeps_bind, keeps_rest, keeps_choose, keeps_if, keeps_mark, keeps_key, keeps_name, after_mark_length, after_key_length, after_name_length}
use Rattle.limbo_reading.proofs.Lists.{items_keeps, until_keeps, KeepsTest}
use Rattle.limbo_expr_parser.specs.Exprs.{readers}
use Rattle.limbo_decl_parser.specs.Decls.{decl_at}
use Rattle.limbo_stmt_parts.specs.declared.start.Branch.{Branch}
use Rattle.limbo_stmt_parts.specs.declared.start.Branch.TheVariants as branch
use Rattle.limbo_stmt_parts.specs.declared.start.Choice.TheVariants as choice
use Rattle.limbo_stmt_parts.specs.declared.start.Loop.TheVariants as loop
use Rattle.limbo_stmt_parts.specs.declared.start.Jump.{Jump}
use Rattle.limbo_stmt_parts.specs.declared.start.Jump.TheVariants as jump
use Rattle.limbo_stmt_parts.specs.declared.start.Region.{Region}
use Rattle.limbo_stmt_parts.specs.declared.start.Region.TheVariants as region
use Rattle.limbo_stmt_parts.specs.Start.{Start, AtEmpty, AtBlock, AtIf, AtBranch, AtLabelled, AtJump, AtDeclare, AtOther, start, may_head}
use Rattle.limbo_stmt_parts.specs.Heads.{star_alone, case_pattern_at, handler_pattern_at, head_at, front_at, is_read, ends, closing}
use Rattle.limbo_stmt_parts.specs.Jumps.{label_at, option_before, expr_before, for_head_at, spawned_at, jump_above}
use Rattle.limbo_stmt_parser.specs.Stmts.{stmts_at, arm_at, arms_at, handler_at, block_above, if_above, branch_above, begun, stmt_at, block_at}
use Rattle.limbo_expr_parser.proofs.Laws.{expr_keeps, unary_keeps}
use Rattle.limbo_decl_parser.proofs.Laws.{decl_keeps}
use Rattle.limbo_stmt_parts.proofs.Fronts.{star_length, branch_key, StartIs, start_is}
use Rattle.limbo_stmt_parts.proofs.Patterns.{keeps_to, pattern_keeps, handler_pattern_keeps}

-- ---- heads

pub no_less : {A : Type 0} (b : ℕ) (ts : List Kind) (r : Result (A × List Kind) Fault) → Keeps b 1 (length ts) r → Keeps b 0 (length ts) r
no_less b ts r h = keeps_less b 1 0 (length ts) (length ts) r h (omega arith) (omega arith)

head_keeps : (b : ℕ) (r : Region) (ts : List Kind) → Keeps b 1 (length ts) (head_at b r ts)
head_keeps b region.Block ts = tt
head_keeps b region.Case ts =
    keeps_bind b 1 0 1 (length ts) _ _ (items_keeps b 1 (case_pattern_at b) (after_key key.Or) (after_key_length key.Or) (pattern_keeps b) (λ us. no_less b us _ (pattern_keeps b us)) ts) (λ ps h. omega arith) (omega arith)
head_keeps b region.Alt ts =
    keeps_choose b 1 (length ts) (star_alone ts) _ _
    (λ n. keeps_bind b 1 0 1 (length ts) ((readers b).expr ts) _ (expr_keeps b ts) (λ e h. omega arith) (omega arith))
    (λ us e. omega (arith, star_length ts us e))
head_keeps b region.Pick ts =
    keeps_choose b 1 (length ts) (after_mark mark.Star ts) _ _
    (λ n. keeps_bind b 1 0 1 (length ts) _ _ (items_keeps b 1 expect_name (after_key key.Or) (after_key_length key.Or) (keeps_name b) (λ us. no_less b us _ (keeps_name b us)) ts) (λ ps h. omega arith) (omega arith))
    (λ us e. omega (arith, after_mark_length mark.Star ts us e))
head_keeps b region.Handler ts =
    keeps_bind b 1 0 1 (length ts) _ _ (items_keeps b 1 handler_pattern_at (after_key key.Or) (after_key_length key.Or) (handler_pattern_keeps b) (λ us. no_less b us _ (handler_pattern_keeps b us)) ts) (λ ps h. omega arith) (omega arith)

-- behind a sign that was expected
pub keeps_sign : {A : Type 0} (b d : ℕ) (m : Mark) (ts : List Kind) (k : List Kind → Result (A × List Kind) Fault) → ((us : List Kind) → Keeps b d (length us) (k us)) → Keeps b (1 + d) (length ts) (expect_mark m ts >>= k)
keeps_sign b d m ts k f = keeps_rest b d (1 + d) (length ts) (expect_mark m ts) k (keeps_mark m ts) (λ us h. f us) (omega arith)

pub front_keeps : (b : ℕ) (r : Region) (ts : List Kind) → Keeps b 1 (length ts) (front_at b r ts)
unfolding front_at
front_keeps b r ts =
    keeps_bind b 1 1 1 (length ts) (head_at b r ts) _ (head_keeps b r ts) (λ h i.
    keeps_sign b 0 mark.FatArrow h.1 _ λ us. omega arith) (omega arith)

read_keeps : (b p n : ℕ) (r : Result (Head × List Kind) Fault) → p ≤ b → Keeps b 1 n r → KeepsTest p n (is_read r)
read_keeps b p n (Ok x) le h = tt
read_keeps b p n (Err (Syntax m)) le h = tt
read_keeps b p n (Err (TooDeep m)) le h = omega arith

-- one of two tests
test_choose : {A : Type 0} (p n : ℕ) (o : Option A) (x : Result Bool Fault) (f : A → Result Bool Fault) → KeepsTest p n x → ((a : A) → KeepsTest p n (f a)) → KeepsTest p n (choose o x f)
test_choose p n None x f h s = h
test_choose p n (Some a) x f h s = s a

test_if : (p n : ℕ) (t : Bool) (x y : Result Bool Fault) → KeepsTest p n x → KeepsTest p n y → KeepsTest p n (cond t x y)
test_if p n true x y h k = h
test_if p n false x y h k = k

ends_keeps : (b p : ℕ) (r : Region) (ts : List Kind) → p ≤ b → KeepsTest p (length ts) (ends b r ts)
unfolding ends
ends_keeps b p r ts le =
    test_choose p (length ts) (after_mark mark.CloseBrace ts) _ _
    (test_if p (length ts) (may_head (start ts)) _ _ (read_keeps b p (length ts) (front_at b r ts) le (front_keeps b r ts)) tt)
    λ us. tt

-- ---- statements, whose parts keep to p, the budget or one less

-- s keeps to p
abbrev pub Kept : ℕ → Reader Stmt → Type 0
Kept p s = (ts : List Kind) → Keeps p 1 (length ts) (s ts)

label_keeps : (b : ℕ) (ts : List Kind) → Keeps b 0 (length ts) (label_at ts)
unfolding label_at
label_keeps b ts = keeps_choose b 0 (length ts) (after_name ts) _ _ (λ n. omega arith) (λ x e. omega (arith, after_name_length ts x e))

expr_kept : (b p : ℕ) (ts : List Kind) → p ≤ b → Keeps p 1 (length ts) ((readers b).expr ts)
expr_kept b p ts le = keeps_to b p 1 1 (length ts) (length ts) _ (expr_keeps b ts) (omega arith) (omega arith)

option_kept : (b p : ℕ) (m : Mark) (ts : List Kind) → p ≤ b → Keeps p 1 (length ts) (option_before b m ts)
unfolding option_before
option_kept b p m ts le =
    keeps_choose p 1 (length ts) (after_mark m ts) _ _
    (λ n. keeps_bind p 1 1 1 (length ts) ((readers b).expr ts) _ (expr_kept b p ts le) (λ e h. keeps_sign p 0 m e.1 _ λ us. omega arith) (omega arith))
    (λ us e. omega (arith, after_mark_length m ts us e))

before_kept : (b p : ℕ) (m : Mark) (ts : List Kind) → p ≤ b → Keeps p 2 (length ts) (expr_before b m ts)
unfolding expr_before
before_kept b p m ts le =
    keeps_bind p 1 1 2 (length ts) ((readers b).expr ts) _ (expr_kept b p ts le) (λ e h. keeps_sign p 0 m e.1 _ λ us. omega arith) (omega arith)

stmts_kept : (b p : ℕ) (s : Reader Stmt) (r : Region) (ts : List Kind) → p ≤ b → Kept p s → Keeps p 0 (length ts) (stmts_at b s r ts)
unfolding stmts_at
stmts_kept b p s r ts le k = until_keeps p s (ends b r) (λ us. ends_keeps b p r us le) (λ us. no_less p us _ (k us)) (suc (length ts)) ts

pub arm_kept : (b p : ℕ) (s : Reader Stmt) (r : Region) (ts : List Kind) → p ≤ b → Kept p s → Keeps p 1 (length ts) (arm_at b s r ts)
unfolding arm_at
arm_kept b p s r ts le k =
    keeps_bind p 1 0 1 (length ts) (front_at b r ts) _ (keeps_to b p 1 1 (length ts) (length ts) _ (front_keeps b r ts) (omega arith) (omega arith)) (λ h i.
    keeps_bind p 0 0 0 (length h.1) (stmts_at b s r h.1) _ (stmts_kept b p s r h.1 le k) (λ ss j. omega arith) (omega arith)) (omega arith)

arms_kept : (b p : ℕ) (s : Reader Stmt) (r : Region) (ts : List Kind) → p ≤ b → Kept p s → Keeps p 1 (length ts) (arms_at b s r ts)
unfolding arms_at
arms_kept b p s r ts le k =
    keeps_bind p 0 1 1 (length ts) _ _ (until_keeps p (arm_at b s r) closing (λ us. tt) (λ us. no_less p us _ (arm_kept b p s r us le k)) (suc (length ts)) ts) (λ arms h.
    keeps_sign p 0 mark.CloseBrace arms.1 _ λ us. omega arith) (omega arith)

handler_kept : (b p : ℕ) (s : Reader Stmt) (ss : Stmts) (ts : List Kind) → p ≤ b → Kept p s → Keeps p 0 (length ts) (handler_at b s ss ts)
handler_kept b p s ss ts le k =
    keeps_bind p 0 0 0 (length ts) (label_at ts) _ (label_keeps p ts) (λ n h.
    keeps_less p 1 0 (length n.1) (length n.1) _ (keeps_sign p 0 mark.OpenBrace n.1 _ λ us.
    keeps_bind p 1 0 0 (length us) (arms_at b s region.Handler us) _ (arms_kept b p s region.Handler us le k) (λ arms i. omega arith) (omega arith)) (omega arith) (omega arith)) (omega arith)

block_kept : (b p : ℕ) (s : Reader Stmt) (ts : List Kind) → p ≤ b → Kept p s → Keeps p 1 (length ts) (block_above b s ts)
unfolding block_above
block_kept b p s ts le k =
    keeps_bind p 0 1 1 (length ts) (stmts_at b s region.Block ts) _ (stmts_kept b p s region.Block ts le k) (λ ss h.
    keeps_sign p 0 mark.CloseBrace ss.1 _ λ us.
    keeps_choose p 0 (length us) (after_key key.Exception us) _ _ (λ n. omega arith) λ vs e.
    keeps_to p p 0 0 (length vs) (length us) _ (handler_kept b p s _ vs le k) (omega (arith, after_key_length key.Exception us vs e)) (omega (arith, after_key_length key.Exception us vs e))) (omega arith)

if_kept : (b p : ℕ) (s : Reader Stmt) (ts : List Kind) → p ≤ b → Kept p s → Keeps p 1 (length ts) (if_above b s ts)
unfolding if_above
if_kept b p s ts le k =
    keeps_sign p 0 mark.OpenParen ts _ λ us.
    keeps_bind p 2 0 0 (length us) (expr_before b mark.CloseParen us) _ (before_kept b p mark.CloseParen us le) (λ e h.
    keeps_bind p 1 0 0 (length e.1) (s e.1) _ (k e.1) (λ x i.
    keeps_choose p 0 (length x.1) (after_key key.Else x.1) _ _ (λ n. omega arith) λ vs j.
    keeps_to p p 0 0 (length vs) (length x.1) _
    (keeps_bind p 1 0 0 (length vs) (s vs) _ (k vs) (λ y l. omega arith) (omega arith))
    (omega (arith, after_key_length key.Else x.1 vs j)) (omega (arith, after_key_length key.Else x.1 vs j))) (omega arith)) (omega arith)

for_head_kept : (b p : ℕ) (ts : List Kind) → p ≤ b → Keeps p 1 (length ts) (for_head_at b ts)
unfolding for_head_at
for_head_kept b p ts le =
    keeps_sign p 0 mark.OpenParen ts _ λ us.
    keeps_bind p 1 0 0 (length us) (option_before b mark.Semicolon us) _ (option_kept b p mark.Semicolon us le) (λ a h.
    keeps_bind p 1 0 0 (length a.1) (option_before b mark.Semicolon a.1) _ (option_kept b p mark.Semicolon a.1 le) (λ c i.
    keeps_bind p 1 0 0 (length c.1) (option_before b mark.CloseParen c.1) _ (option_kept b p mark.CloseParen c.1 le) (λ n j. omega arith) (omega arith)) (omega arith)) (omega arith)

branch_kept : (b p : ℕ) (s : Reader Stmt) (l : Option (List ℕ)) (w : Branch) (ts : List Kind) → p ≤ b → Kept p s → Keeps p 1 (length ts) (branch_above b s l w ts)
unfolding branch_above
branch_kept b p s l (branch.Loop loop.While) ts le k =
    keeps_sign p 0 mark.OpenParen ts _ λ us.
    keeps_bind p 1 0 0 (length us) (option_before b mark.CloseParen us) _ (option_kept b p mark.CloseParen us le) (λ e h.
    keeps_bind p 1 0 0 (length e.1) (s e.1) _ (k e.1) (λ x i. omega arith) (omega arith)) (omega arith)
branch_kept b p s l (branch.Loop loop.Do) ts le k =
    keeps_bind p 1 0 1 (length ts) (s ts) _ (k ts) (λ x h.
    keeps_rest p 0 0 (length x.1) (expect_key key.While x.1) _ (keeps_key key.While x.1) (λ us i.
    keeps_less p 1 0 (length us) (length us) _ (keeps_sign p 0 mark.OpenParen us _ λ vs.
    keeps_bind p 1 0 0 (length vs) (option_before b mark.CloseParen vs) _ (option_kept b p mark.CloseParen vs le) (λ c j.
    keeps_less p 1 0 (length c.1) (length c.1) _ (keeps_sign p 0 mark.Semicolon c.1 _ λ ws. omega arith) (omega arith) (omega arith)) (omega arith)) (omega arith) (omega arith)) (omega arith)) (omega arith)
branch_kept b p s l (branch.Loop loop.For) ts le k =
    keeps_bind p 1 0 1 (length ts) (for_head_at b ts) _ (for_head_kept b p ts le) (λ h i.
    keeps_bind p 1 0 0 (length h.1) (s h.1) _ (k h.1) (λ x m. omega arith) (omega arith)) (omega arith)
branch_kept b p s l (branch.Choice choice.Case) ts le k =
    keeps_bind p 2 0 1 (length ts) (expr_before b mark.OpenBrace ts) _ (before_kept b p mark.OpenBrace ts le) (λ e h.
    keeps_bind p 1 0 0 (length e.1) (arms_at b s region.Case e.1) _ (arms_kept b p s region.Case e.1 le k) (λ arms i. omega arith) (omega arith)) (omega arith)
branch_kept b p s l (branch.Choice choice.Alt) ts le k =
    keeps_sign p 0 mark.OpenBrace ts _ λ us.
    keeps_bind p 1 0 0 (length us) (arms_at b s region.Alt us) _ (arms_kept b p s region.Alt us le k) (λ arms i. omega arith) (omega arith)
branch_kept b p s l (branch.Choice choice.Pick) ts le k =
    keeps_bind p 1 0 1 (length ts) (expect_name ts) _ (keeps_name p ts) (λ n h.
    keeps_less p 1 0 (length n.1) (length n.1) _ (keeps_sign p 0 mark.Define n.1 _ λ us.
    keeps_bind p 2 0 0 (length us) (expr_before b mark.OpenBrace us) _ (before_kept b p mark.OpenBrace us le) (λ e i.
    keeps_bind p 1 0 0 (length e.1) (arms_at b s region.Pick e.1) _ (arms_kept b p s region.Pick e.1 le k) (λ arms j. omega arith) (omega arith)) (omega arith)) (omega arith) (omega arith)) (omega arith)

spawned_kept : (b p : ℕ) (ts : List Kind) → p ≤ b → Keeps p 1 (length ts) (spawned_at b ts)
unfolding spawned_at
spawned_kept b p ts le =
    keeps_bind p 1 0 1 (length ts) ((readers b).chain 0 ts) _ (keeps_to b p 1 1 (length ts) (length ts) _ (unary_keeps b ts) (omega arith) (omega arith)) (λ e h.
    keeps_if p 0 (length e.1) (is_postfix e.0) _ _ (keeps_less p 1 0 (length e.1) (length e.1) _ (keeps_sign p 0 mark.Semicolon e.1 _ λ us. omega arith) (omega arith) (omega arith)) tt) (omega arith)

jump_kept : (b p : ℕ) (j : Jump) (ts : List Kind) → p ≤ b → Keeps p 1 (length ts) (jump_above b j ts)
unfolding jump_above
jump_kept b p jump.Break ts le =
    keeps_bind p 0 1 1 (length ts) (label_at ts) _ (label_keeps p ts) (λ l h. keeps_sign p 0 mark.Semicolon l.1 _ λ us. omega arith) (omega arith)
jump_kept b p jump.Continue ts le =
    keeps_bind p 0 1 1 (length ts) (label_at ts) _ (label_keeps p ts) (λ l h. keeps_sign p 0 mark.Semicolon l.1 _ λ us. omega arith) (omega arith)
jump_kept b p jump.Return ts le =
    keeps_bind p 1 0 1 (length ts) (option_before b mark.Semicolon ts) _ (option_kept b p mark.Semicolon ts le) (λ e h. omega arith) (omega arith)
jump_kept b p jump.Exit ts le = keeps_sign p 0 mark.Semicolon ts _ λ us. omega arith
jump_kept b p jump.Spawn ts le = spawned_kept b p ts le
jump_kept b p jump.Raise ts le =
    keeps_bind p 1 0 1 (length ts) (option_before b mark.Semicolon ts) _ (option_kept b p mark.Semicolon ts le) (λ e h. omega arith) (omega arith)

-- behind the first token
lifted : {A : Type 0} (b p c : ℕ) (ts us : List Kind) (r : Result (A × List Kind) Fault) → length us + 1 ≤ length ts → b ≤ p + 1 → Keeps p c (length us) r → Keeps b (c + 1) (length ts) r
lifted b p c ts us r le up h = keeps_to p b c (c + 1) (length us) (length ts) r h (omega arith) (omega arith)

begun_keeps : (b p : ℕ) (s : Reader Stmt) (at : Start) (ts : List Kind) → StartIs ts at → p ≤ b → b ≤ p + 1 → Kept p s → Keeps b 1 (length ts) (begun b s at ts)
begun_keeps b p s (AtEmpty us) ts i le up k = omega (arith, ap length i)
begun_keeps b p s (AtBlock us) ts i le up k =
    keeps_less b 1 1 (length ts) (length ts) _ (lifted b p 0 ts us _ (omega (arith, ap length i)) up
    (keeps_bind p 1 0 0 (length us) (block_above b s us) _ (block_kept b p s us le k) (λ x h. omega arith) (omega arith))) (omega arith) (omega arith)
begun_keeps b p s (AtIf us) ts i le up k =
    keeps_less b 2 1 (length ts) (length ts) _ (lifted b p 1 ts us _ (omega (arith, ap length i)) up (if_kept b p s us le k)) (omega arith) (omega arith)
begun_keeps b p s (AtBranch w us) ts i le up k =
    keeps_less b 2 1 (length ts) (length ts) _ (lifted b p 1 ts us _ (omega (arith, ap length i)) up (branch_kept b p s None w us le k)) (omega arith) (omega arith)
begun_keeps b p s (AtLabelled w us) ts i le up k =
    rw i.1 (keeps_less b 2 1 _ _ _ (lifted b p 1 (kind.Name i.0 ∷ (mark.Colon ▸ branch_key w ▹ us)) us _ (omega arith) up (branch_kept b p s (Some i.0) w us le k)) (omega arith) (omega arith))
begun_keeps b p s (AtJump j us) ts i le up k =
    keeps_less b 2 1 (length ts) (length ts) _ (lifted b p 1 ts us _ (omega (arith, ap length i)) up (jump_kept b p j us le)) (omega arith) (omega arith)
begun_keeps b p s AtDeclare ts i le up k =
    keeps_bind b 1 0 1 (length ts) (decl_at b ts) _ (keeps_to (b + 2) b 1 1 (length ts) (length ts) _ (decl_keeps b ts) (omega arith) (omega arith)) (λ d h. omega arith) (omega arith)
begun_keeps b p s AtOther ts i le up k =
    keeps_bind b 2 0 1 (length ts) (expr_before b mark.Semicolon ts) _ (before_kept b b mark.Semicolon ts (omega arith)) (λ e h. omega arith) (omega arith)

-- A statement with a budget b above 1 nests no deeper than by one for each token and one more: an expression that is a
-- statement has no token of its own before it.
pub stmt_keeps : (b : ℕ) (ts : List Kind) → Keeps b 1 (length ts) (stmt_at (suc b) ts)
unfolding stmt_at
stmt_keeps zero ts = begun_keeps zero zero (stmt_at zero) (start ts) ts (start_is ts) (omega arith) (omega arith) (λ us. omega arith)
stmt_keeps (suc b) ts = begun_keeps (suc b) b (stmt_at (suc b)) (start ts) ts (start_is ts) (omega arith) (omega arith) (stmt_keeps b)

pub block_at_keeps : (b : ℕ) (ts : List Kind) → Keeps (suc b) 2 (length ts) (block_at (suc b) ts)
unfolding block_at
block_at_keeps b ts = behind (expect_mark mark.OpenBrace ts) (keeps_mark mark.OpenBrace ts)
  where
    behind : (r : Result (List Kind) Fault) → KeepsRest (length ts) r → Keeps (suc b) 2 (length ts) (r >>= λ us. block_above (suc b) (stmt_at (suc b)) us)
    behind (Ok us) h = lifted (suc b) b 1 ts us _ h (omega arith) (block_kept (suc b) b (stmt_at (suc b)) us (omega arith) (stmt_keeps b))
    behind (Err (Syntax n)) h = tt
    behind (Err (TooDeep n)) h = absurd h

-- ---- with any budget a token is taken

pub stmt_kept : (b : ℕ) → Kept 0 (stmt_at b)
unfolding stmt_at
stmt_kept zero ts = omega arith
stmt_kept (suc b) ts = keeps_to b 0 1 1 (length ts) (length ts) _ (stmt_keeps b ts) (omega arith) (omega arith)

pub block_at_kept : (b : ℕ) (ts : List Kind) → Keeps 0 1 (length ts) (block_at b ts)
unfolding block_at
block_at_kept b ts =
    keeps_sign 0 0 mark.OpenBrace ts _ λ us. keeps_less 0 1 0 (length us) (length us) _ (block_kept b 0 (stmt_at b) us (omega arith) (stmt_kept b)) (omega arith) (omega arith)
