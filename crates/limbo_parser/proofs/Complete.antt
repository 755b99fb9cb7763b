-- Statements that are spelled so are read.
use Rattle.std.proofs.Common.{◌≡◌, ℕ, zero, suc, ◌+◌, ◌-◌, ◌≤◌, ◌<◌, max, Bool, true, false, List, [], ◌∷◌, length, Option, Some, None, Ok, refl, sym, ap, ◌∙◌, arith}
use Rattle.limbo_lexer.specs.declared.token.Kind.{Kind}
use Rattle.limbo_lexer.specs.declared.token.Kind.TheVariants as kind
use Rattle.limbo_lexer.specs.declared.token.Mark.{Mark}
use Rattle.limbo_lexer.specs.declared.token.Mark.TheVariants as mark
use Rattle.limbo_lexer.specs.declared.token.Key.TheVariants as key
use Rattle.limbo_tree.specs.Tokens.{◌▸◌, ◌▹◌, spell_label}
use Rattle.limbo_tree.specs.Exprs.{Expr, spell, nesting, IsAt}
use Rattle.limbo_tree.specs.Decls.{option_nesting, spell_decl, IsOption}
use Rattle.limbo_tree.specs.Stmts.{Head, Stmt, Stmts, Block, Arms, Empty, Nested, Declare, Eval, If, IfElse, While, Do, For, Case, Alt, Pick, Break, Continue, Return, Exit, Spawn, Raise, Plain, Handled, spell_option, spell_stmt, spell_stmts, spell_block, spell_arms, stmt_nesting, stmts_nesting, block_nesting, arms_nesting, ends_open, IsStmt, AreStmts, IsBlock, AreArms}
use Rattle.limbo_tree.specs.View.{Arm}
use Rattle.limbo_reading.specs.Reading.{Reader, after_mark, after_key}
use Rattle.limbo_reading.proofs.Steps.{kept_shorter}
use Rattle.limbo_reading.proofs.Lists.{spell_all, Each, until_again}
use Rattle.limbo_expr_parts.specs.Strength.{strength_of}
use Rattle.limbo_stmt_parts.specs.declared.start.Branch.TheVariants as branch
use Rattle.limbo_stmt_parts.specs.declared.start.Choice.TheVariants as choice
use Rattle.limbo_stmt_parts.specs.declared.start.Loop.TheVariants as loop
use Rattle.limbo_stmt_parts.specs.declared.start.Region.{Region}
use Rattle.limbo_stmt_parts.specs.declared.start.Region.TheVariants as region
use Rattle.limbo_stmt_parts.specs.Start.{start, may_head}
use Rattle.limbo_stmt_parts.specs.Heads.{front_at, is_read, ends, closing}
use Rattle.limbo_stmt_parts.specs.Jumps.{label_at, option_before, expr_before, for_head_at, spawned_at, jump_above}
use Rattle.limbo_stmt_parser.specs.Stmts.{stmts_at, arm_at, arms_at, block_above, if_above, branch_above, stmt_at, block_at}
use Rattle.limbo_expr_parts.specs.Strength.{begins_expr}
use Rattle.limbo_expr_parser.proofs.Laws.{spell_begins, expr_again, unary_again}
use Rattle.limbo_decl_parser.proofs.Laws.{decl_again}
use Rattle.limbo_stmt_parser.proofs.Keep.{Kept, front_keeps, stmt_keeps}
use Rattle.limbo_parser.proofs.Shapes.{place, spell_front, GoodHead, GoodStmt, stmts_spelled, stmt_list, stmts_back, stmts_each, spell_arm, GoodArm, arms_spelled, arm_list, arms_back, arms_each}
use Rattle.limbo_parser.proofs.Begins.{opens, expr_opens, eval_starts, decl_starts, decl_begins}
use Rattle.limbo_parser.proofs.HeadsAgain.{HasHeads, front_again, head_begins, unread, name_unread, decl_unread}

-- ---- what stands behind a statement

-- nothing that goes on with any statement
abbrev pub Follows : List Kind → Type 0
Follows ts = (after_key key.Else ts ≡ None) × (after_key key.Exception ts ≡ None)

-- nothing that goes on with this one
abbrev pub Closes : Stmt → List Kind → Type 0
Closes x ts = (ends_open x ≡ true → after_key key.Else ts ≡ None) × (after_key key.Exception ts ≡ None)

opens_follow : (ts : List Kind) → begins_expr ts ≡ true → Follows ts
opens_follow ts h = let o = opens ts h in (o.no_else, o.no_exception)

pub stmt_follows : (x : Stmt) (ts : List Kind) → IsStmt x → Follows (spell_stmt x ts)
stmt_follows Empty ts h = (refl, refl)
stmt_follows (Nested (Plain ss)) ts h = (refl, refl)
stmt_follows (Nested (Handled ss n arms)) ts h = (refl, refl)
stmt_follows (Declare d) ts h = opens_follow _ (decl_begins d ts h)
stmt_follows (Eval e) ts h = opens_follow _ (spell_begins e _)
stmt_follows (If c s) ts h = (refl, refl)
stmt_follows (IfElse c s t) ts h = (refl, refl)
stmt_follows (While None c s) ts h = (refl, refl)
stmt_follows (While (Some l) c s) ts h = (refl, refl)
stmt_follows (Do None s c) ts h = (refl, refl)
stmt_follows (Do (Some l) s c) ts h = (refl, refl)
stmt_follows (For None a c b s) ts h = (refl, refl)
stmt_follows (For (Some l) a c b s) ts h = (refl, refl)
stmt_follows (Case None e arms) ts h = (refl, refl)
stmt_follows (Case (Some l) e arms) ts h = (refl, refl)
stmt_follows (Alt None arms) ts h = (refl, refl)
stmt_follows (Alt (Some l) arms) ts h = (refl, refl)
stmt_follows (Pick None n e arms) ts h = (refl, refl)
stmt_follows (Pick (Some l) n e arms) ts h = (refl, refl)
stmt_follows (Break l) ts h = (refl, refl)
stmt_follows (Continue l) ts h = (refl, refl)
stmt_follows (Return e) ts h = (refl, refl)
stmt_follows Exit ts h = (refl, refl)
stmt_follows (Spawn e) ts h = (refl, refl)
stmt_follows (Raise e) ts h = (refl, refl)

-- ---- the statements of a region go on before a statement

heads_on : (b : ℕ) (r : Region) (ts : List Kind) → after_mark mark.CloseBrace ts ≡ None → may_head (start ts) ≡ true → is_read (front_at b r ts) ≡ Ok false → ends b r ts ≡ Ok false
unfolding ends
heads_on b r ts c m u = rw (c, m, u) refl

label_on : (b : ℕ) (r : Region) (n : List ℕ) (ts : List Kind) → 1 ≤ b → ends b r (kind.Name n ∷ (mark.Colon ▸ ts)) ≡ Ok false
label_on b r n ts le = heads_on b r _ refl (opens (kind.Name n ∷ (mark.Colon ▸ ts)) refl).heads (name_unread b r n (mark.Colon ▸ ts) le (omega arith) refl refl)

no_head_on : (b : ℕ) (r : Region) (ts : List Kind) → after_mark mark.CloseBrace ts ≡ None → may_head (start ts) ≡ false → ends b r ts ≡ Ok false
unfolding ends
no_head_on b r ts c m = rw (c, m) refl

pub stmt_on : (b : ℕ) (r : Region) (x : Stmt) (ts : List Kind) → IsStmt x → stmt_nesting x ≤ b → ends b r (spell_stmt x ts) ≡ Ok false
stmt_on b r Empty ts h d = no_head_on b r _ refl refl
stmt_on b r (Nested (Plain ss)) ts h d = no_head_on b r _ refl refl
stmt_on b r (Nested (Handled ss n arms)) ts h d = no_head_on b r _ refl refl
stmt_on b r (Declare x) ts h d =
    let o = opens _ (decl_begins x ts h) in
    heads_on b r (spell_decl x ts) o.no_brace o.heads (decl_unread b r x ts h d)
stmt_on b r (Eval e) ts h d =
    let o = expr_opens e (mark.Semicolon ▸ ts) in
    heads_on b r (spell e (mark.Semicolon ▸ ts)) o.no_brace o.heads (unread b r e (mark.Semicolon ▸ ts) h.0 (omega arith) (omega arith) refl refl)
stmt_on b r (If c s) ts h d = no_head_on b r _ refl refl
stmt_on b r (IfElse c s t) ts h d = no_head_on b r _ refl refl
stmt_on b r (While None c s) ts h d = no_head_on b r _ refl refl
stmt_on b r (While (Some l) c s) ts h d = label_on b r l _ (omega arith)
stmt_on b r (Do None s c) ts h d = no_head_on b r _ refl refl
stmt_on b r (Do (Some l) s c) ts h d = label_on b r l _ (omega arith)
stmt_on b r (For None a c n s) ts h d = no_head_on b r _ refl refl
stmt_on b r (For (Some l) a c n s) ts h d = label_on b r l _ (omega arith)
stmt_on b r (Case None e arms) ts h d = no_head_on b r _ refl refl
stmt_on b r (Case (Some l) e arms) ts h d = label_on b r l _ (omega arith)
stmt_on b r (Alt None arms) ts h d = no_head_on b r _ refl refl
stmt_on b r (Alt (Some l) arms) ts h d = label_on b r l _ (omega arith)
stmt_on b r (Pick None n e arms) ts h d = no_head_on b r _ refl refl
stmt_on b r (Pick (Some l) n e arms) ts h d = label_on b r l _ (omega arith)
stmt_on b r (Break l) ts h d = no_head_on b r _ refl refl
stmt_on b r (Continue l) ts h d = no_head_on b r _ refl refl
stmt_on b r (Return e) ts h d = no_head_on b r _ refl refl
stmt_on b r Exit ts h d = no_head_on b r _ refl refl
stmt_on b r (Spawn e) ts h d = no_head_on b r _ refl refl
stmt_on b r (Raise e) ts h d = no_head_on b r _ refl refl

-- ---- lists, where an item takes a token before what may follow it

pub all_long : {A : Type 0} (spell : A → List Kind → List Kind) (Good : A → Type 0) (follows : List Kind → Type 0)
    → ((x : A) (us : List Kind) → Good x → follows us → follows (spell x us))
    → ((x : A) (us : List Kind) → Good x → follows us → length us < length (spell x us))
    → (xs : List A) (ts : List Kind) → Each Good xs → follows ts → (length xs + length ts ≤ length (spell_all spell xs ts)) × follows (spell_all spell xs ts)
all_long spell Good follows begins grows [] ts g f = (omega arith, f)
all_long spell Good follows begins grows (x ∷ xs) ts g f =
    let q = all_long spell Good follows begins grows xs ts g.1 f in
    (omega (arith, grows x (spell_all spell xs ts) g.0 q.1, q.0), begins x (spell_all spell xs ts) g.0 q.1)

-- ---- what s reads, and keeps to p

pub record Reads (s : Reader Stmt) (b p : ℕ) : Type 0 where
  pub again : (x : Stmt) (ts : List Kind) → IsStmt x → stmt_nesting x ≤ b → Closes x ts → s (spell_stmt x ts) ≡ Ok (x, ts)
  pub kept : Kept p s

reads_one : (s : Reader Stmt) (b p : ℕ) → Reads s b p → (x : Stmt) (ts : List Kind) → GoodStmt b x → Follows ts → s (spell_stmt x ts) ≡ Ok (x, ts)
reads_one s b p k x ts g f = k.again x ts g.0 g.1 ((λ o. f.0), f.1)

reads_long : (s : Reader Stmt) (b p : ℕ) → Reads s b p → (x : Stmt) (ts : List Kind) → GoodStmt b x → Follows ts → length ts < length (spell_stmt x ts)
reads_long s b p k x ts g f =
    omega (arith, kept_shorter p 1 (length (spell_stmt x ts)) (s (spell_stmt x ts)) x ts (k.kept (spell_stmt x ts)) (reads_one s b p k x ts g f))

stmts_again : (s : Reader Stmt) (b p : ℕ) → Reads s b p → (r : Region) (xs : Stmts) (ts : List Kind) → AreStmts xs → stmts_nesting xs ≤ b → Follows ts → ends b r ts ≡ Ok true → stmts_at b s r (spell_stmts xs ts) ≡ Ok (stmt_list xs, ts)
unfolding stmts_at
stmts_again s b p k r xs ts h d f e =
    let spelled : spell_all spell_stmt (stmt_list xs) ts ≡ spell_stmts xs ts = stmts_spelled (stmt_list xs) ts ∙ ap (λ (ys : Stmts). spell_stmts ys ts) (stmts_back xs) in
    let each = stmts_each b xs h d in
    let long = all_long spell_stmt (GoodStmt b) Follows (λ x us g i. stmt_follows x us g.0) (reads_long s b p k) (stmt_list xs) ts each f in
    ap (stmts_at b s r) (sym spelled)
    ∙ until_again s (ends b r) spell_stmt (GoodStmt b) Follows (λ x us g i. stmt_on b r x us g.0 g.1) (λ x us g. stmt_follows x us g.0) (reads_one s b p k) (stmt_list xs) (suc (length (spell_all spell_stmt (stmt_list xs) ts))) ts each f e (omega (arith, long.0))

-- what follows an arm
abbrev ArmEnds : ℕ → Region → List Kind → Type 0
ArmEnds b r ts = Follows ts × (ends b r ts ≡ Ok true)

head_ends : (b : ℕ) (r : Region) (h : Head) (ts : List Kind) → HasHeads r → GoodHead b r h → ArmEnds b r (spell_front h ts)
unfolding ends
head_ends b r h ts a g =
    let o = opens (spell_front h ts) (head_begins r h _ a g.0) in
    ((o.no_else, o.no_exception), rw (o.no_brace, o.heads, front_again b r h ts a g) refl)

arm_again : (s : Reader Stmt) (b p : ℕ) → Reads s b p → (r : Region) → HasHeads r → (a : Arm) (ts : List Kind) → GoodArm b r a → ArmEnds b r ts → arm_at b s r (spell_arm a ts) ≡ Ok (a, ts)
unfolding arm_at
arm_again s b p k r w a ts g f =
    rw (front_again b r a.head (spell_stmts a.body ts) w g.0, stmts_again s b p k r a.body ts g.1 g.2 f.0 f.1, stmts_back a.body) refl

arm_long : (s : Reader Stmt) (b p : ℕ) → Reads s b p → (r : Region) → HasHeads r → (a : Arm) (ts : List Kind) → GoodArm b r a → ArmEnds b r ts → length ts < length (spell_arm a ts)
arm_long s b p k r w a ts g f =
    let each = stmts_each b a.body g.1 g.2 in
    let long = all_long spell_stmt (GoodStmt b) Follows (λ x us i j. stmt_follows x us i.0) (reads_long s b p k) (stmt_list a.body) ts each f.0 in
    let spelled : spell_all spell_stmt (stmt_list a.body) ts ≡ spell_stmts a.body ts = stmts_spelled (stmt_list a.body) ts ∙ ap (λ (ys : Stmts). spell_stmts ys ts) (stmts_back a.body) in
    omega (arith, long.0, ap length spelled, kept_shorter b 1 (length (spell_arm a ts)) (front_at b r (spell_arm a ts)) a.head (spell_stmts a.body ts) (front_keeps b r (spell_arm a ts)) (front_again b r a.head (spell_stmts a.body ts) w g.0))

arms_again : (s : Reader Stmt) (b p : ℕ) → Reads s b p → (r : Region) → HasHeads r → (xs : Arms) (ts : List Kind) → AreArms (place r) xs → arms_nesting xs ≤ b → arms_at b s r (spell_arms xs (mark.CloseBrace ▸ ts)) ≡ Ok (arm_list xs, ts)
unfolding arms_at ends
arms_again s b p k r w xs ts h d =
    let us : List Kind = mark.CloseBrace ▸ ts in
    let spelled : spell_all spell_arm (arm_list xs) us ≡ spell_arms xs us = arms_spelled (arm_list xs) us ∙ ap (λ (ys : Arms). spell_arms ys us) (arms_back xs) in
    let each = arms_each b r xs h d in
    let shut : ArmEnds b r us = ((refl, refl), refl) in
    let long = all_long spell_arm (GoodArm b r) (ArmEnds b r) (λ x vs g i. head_ends b r x.head _ w g.0) (arm_long s b p k r w) (arm_list xs) us each shut in
    ap (arms_at b s r) (sym spelled)
    ∙ rw (until_again (arm_at b s r) closing spell_arm (GoodArm b r) (ArmEnds b r) (λ x vs g i. arm_on r w x vs g) (λ x vs g. head_ends b r x.head _ w g.0) (arm_again s b p k r w) (arm_list xs) (suc (length (spell_all spell_arm (arm_list xs) us))) us each shut refl (omega (arith, long.0))) refl
  where
    arm_on : (r : Region) → HasHeads r → (x : Arm) (vs : List Kind) → GoodArm b r x → closing (spell_arm x vs) ≡ Ok false
    arm_on r w x vs g = rw (opens (spell_arm x vs) (head_begins r x.head _ w g.0.0)).no_brace refl

-- ---- parts of statements

-- a sign that is found, and that begins no expression
abbrev Shuts : Mark → Type 0
Shuts m = (13 < strength_of m) × ((ts : List Kind) → after_mark m (m ▸ ts) ≡ Some ts)

before_again : (b : ℕ) (m : Mark) (e : Expr) (ts : List Kind) → Shuts m → IsAt 13 e → nesting e ≤ b → expr_before b m (spell e (m ▸ ts)) ≡ Ok (e, ts)
unfolding expr_before
before_again b m e ts s h d = rw (expr_again b e (m ▸ ts) h d s.0, s.1 ts) refl

option_again : (b : ℕ) (m : Mark) (e : Option Expr) (ts : List Kind) → Shuts m → ((x : Expr) (us : List Kind) → after_mark m (spell x us) ≡ None) → IsOption e → option_nesting e ≤ b → option_before b m (spell_option e (m ▸ ts)) ≡ Ok (e, ts)
unfolding option_before
option_again b m None ts s n h d = rw (s.1 ts) refl
option_again b m (Some e) ts s n h d = rw (n e (m ▸ ts), expr_again b e (m ▸ ts) h d s.0, s.1 ts) refl

semicolon_again : (b : ℕ) (e : Option Expr) (ts : List Kind) → IsOption e → option_nesting e ≤ b → option_before b mark.Semicolon (spell_option e (mark.Semicolon ▸ ts)) ≡ Ok (e, ts)
semicolon_again b e ts h d = option_again b mark.Semicolon e ts (omega arith, λ us. refl) (λ x us. (expr_opens x us).no_semicolon) h d

paren_again : (b : ℕ) (e : Option Expr) (ts : List Kind) → IsOption e → option_nesting e ≤ b → option_before b mark.CloseParen (spell_option e (mark.CloseParen ▸ ts)) ≡ Ok (e, ts)
paren_again b e ts h d = option_again b mark.CloseParen e ts (omega arith, λ us. refl) (λ x us. (expr_opens x us).no_paren) h d

label_again : (l : Option (List ℕ)) (m : Mark) (ts : List Kind) → label_at (spell_label l (m ▸ ts)) ≡ Ok (l, m ▸ ts)
unfolding label_at
label_again None m ts = refl
label_again (Some n) m ts = refl

-- what stands behind the "{" of a block
abbrev spell_inside : Block → List Kind → List Kind
spell_inside (Plain ss) ts = spell_stmts ss (mark.CloseBrace ▸ ts)
spell_inside (Handled ss n arms) ts =
    spell_stmts ss (mark.CloseBrace ▸ key.Exception ▹ spell_label n (mark.OpenBrace ▸ spell_arms arms (mark.CloseBrace ▸ ts)))

brace_ends : (b : ℕ) (r : Region) (ts : List Kind) → ends b r (mark.CloseBrace ▸ ts) ≡ Ok true
unfolding ends
brace_ends b r ts = refl

block_again : (s : Reader Stmt) (b p : ℕ) → Reads s b p → (x : Block) (ts : List Kind) → IsBlock x → block_nesting x ≤ b → after_key key.Exception ts ≡ None → block_above b s (spell_inside x ts) ≡ Ok (x, ts)
unfolding block_above
block_again s b p k (Plain ss) ts h d e =
    rw (stmts_again s b p k region.Block ss (mark.CloseBrace ▸ ts) h d (refl, refl) (brace_ends b region.Block _), e, stmts_back ss) refl
block_again s b p k (Handled ss n arms) ts h d e =
    rw (stmts_again s b p k region.Block ss (mark.CloseBrace ▸ key.Exception ▹ spell_label n (mark.OpenBrace ▸ spell_arms arms (mark.CloseBrace ▸ ts))) h.0 (omega arith) (refl, refl) (brace_ends b region.Block _), label_again n mark.OpenBrace (spell_arms arms (mark.CloseBrace ▸ ts)), arms_again s b p k region.Handler tt arms ts h.1 (omega arith), stmts_back ss, arms_back arms) refl

-- ---- statements

not_open : {A : Type 0} (t : Bool) → t ≡ false → t ≡ true → A
not_open t a b = absurd cc

if_again : (s : Reader Stmt) (b p : ℕ) → Reads s b p → (c : Expr) (x : Stmt) (ts : List Kind) → IsAt 13 c → IsStmt x → max (nesting c) (stmt_nesting x) ≤ b → Follows ts → if_above b s (mark.OpenParen ▸ spell c (mark.CloseParen ▸ spell_stmt x ts)) ≡ Ok (If c x, ts)
unfolding if_above
if_again s b p k c x ts h i d f =
    rw (before_again b mark.CloseParen c (spell_stmt x ts) (omega arith, λ us. refl) h (omega arith), k.again x ts i (omega arith) ((λ o. f.0), f.1), f.0) refl

else_again : (s : Reader Stmt) (b p : ℕ) → Reads s b p → (c : Expr) (x y : Stmt) (ts : List Kind) → IsAt 13 c → IsStmt x → ends_open x ≡ false → IsStmt y → max (nesting c) (max (stmt_nesting x) (stmt_nesting y)) ≤ b → Closes y ts → if_above b s (mark.OpenParen ▸ spell c (mark.CloseParen ▸ spell_stmt x (key.Else ▹ spell_stmt y ts))) ≡ Ok (IfElse c x y, ts)
unfolding if_above
else_again s b p k c x y ts h i n j d f =
    rw (before_again b mark.CloseParen c (spell_stmt x (key.Else ▹ spell_stmt y ts)) (omega arith, λ us. refl) h (omega arith), k.again x (key.Else ▹ spell_stmt y ts) i (omega arith) ((λ o. not_open (ends_open x) n o), refl), k.again y ts j (omega arith) f) refl

-- a statement that may have a label, behind its keyword
abbrev spell_behind : Stmt → List Kind → List Kind
spell_behind (While l c s) ts = mark.OpenParen ▸ spell_option c (mark.CloseParen ▸ spell_stmt s ts)
spell_behind (Do l s c) ts = spell_stmt s (key.While ▹ mark.OpenParen ▸ spell_option c (mark.CloseParen ▸ mark.Semicolon ▸ ts))
spell_behind (For l a c b s) ts =
    mark.OpenParen ▸ spell_option a (mark.Semicolon ▸ spell_option c (mark.Semicolon ▸ spell_option b (mark.CloseParen ▸ spell_stmt s ts)))
spell_behind (Case l e arms) ts = spell e (mark.OpenBrace ▸ spell_arms arms (mark.CloseBrace ▸ ts))
spell_behind (Alt l arms) ts = mark.OpenBrace ▸ spell_arms arms (mark.CloseBrace ▸ ts)
spell_behind (Pick l n e arms) ts = kind.Name n ∷ (mark.Define ▸ spell e (mark.OpenBrace ▸ spell_arms arms (mark.CloseBrace ▸ ts)))
spell_behind _ ts = ts

while_again : (s : Reader Stmt) (b p : ℕ) → Reads s b p → (l : Option (List ℕ)) (c : Option Expr) (x : Stmt) (ts : List Kind) → IsStmt (While l c x) → stmt_nesting (While l c x) ≤ suc b → Closes x ts → branch_above b s l (branch.Loop loop.While) (spell_behind (While l c x) ts) ≡ Ok (While l c x, ts)
unfolding branch_above
while_again s b p k l c x ts h d f =
    rw (paren_again b c (spell_stmt x ts) h.0 (omega arith), k.again x ts h.1 (omega arith) f) refl

do_again : (s : Reader Stmt) (b p : ℕ) → Reads s b p → (l : Option (List ℕ)) (x : Stmt) (c : Option Expr) (ts : List Kind) → IsStmt (Do l x c) → stmt_nesting (Do l x c) ≤ suc b → branch_above b s l (branch.Loop loop.Do) (spell_behind (Do l x c) ts) ≡ Ok (Do l x c, ts)
unfolding branch_above
do_again s b p k l x c ts h d =
    rw (k.again x (key.While ▹ mark.OpenParen ▸ spell_option c (mark.CloseParen ▸ mark.Semicolon ▸ ts)) h.0 (omega arith) ((λ o. refl), refl), paren_again b c (mark.Semicolon ▸ ts) h.1 (omega arith)) refl

for_again : (s : Reader Stmt) (b p : ℕ) → Reads s b p → (l : Option (List ℕ)) (a c n : Option Expr) (x : Stmt) (ts : List Kind) → IsStmt (For l a c n x) → stmt_nesting (For l a c n x) ≤ suc b → Closes x ts → branch_above b s l (branch.Loop loop.For) (spell_behind (For l a c n x) ts) ≡ Ok (For l a c n x, ts)
unfolding branch_above for_head_at
for_again s b p k l a c n x ts h d f =
    rw (semicolon_again b a (spell_option c (mark.Semicolon ▸ spell_option n (mark.CloseParen ▸ spell_stmt x ts))) h.0 (omega arith), semicolon_again b c (spell_option n (mark.CloseParen ▸ spell_stmt x ts)) h.1 (omega arith), paren_again b n (spell_stmt x ts) h.2 (omega arith), k.again x ts h.3 (omega arith) f) refl

case_again : (s : Reader Stmt) (b p : ℕ) → Reads s b p → (l : Option (List ℕ)) (e : Expr) (arms : Arms) (ts : List Kind) → IsStmt (Case l e arms) → stmt_nesting (Case l e arms) ≤ suc b → branch_above b s l (branch.Choice choice.Case) (spell_behind (Case l e arms) ts) ≡ Ok (Case l e arms, ts)
unfolding branch_above
case_again s b p k l e arms ts h d =
    rw (before_again b mark.OpenBrace e (spell_arms arms (mark.CloseBrace ▸ ts)) (omega arith, λ us. refl) h.0 (omega arith), arms_again s b p k region.Case tt arms ts h.1 (omega arith), arms_back arms) refl

alt_again : (s : Reader Stmt) (b p : ℕ) → Reads s b p → (l : Option (List ℕ)) (arms : Arms) (ts : List Kind) → IsStmt (Alt l arms) → stmt_nesting (Alt l arms) ≤ suc b → branch_above b s l (branch.Choice choice.Alt) (spell_behind (Alt l arms) ts) ≡ Ok (Alt l arms, ts)
unfolding branch_above
alt_again s b p k l arms ts h d = rw (arms_again s b p k region.Alt tt arms ts h (omega arith), arms_back arms) refl

pick_again : (s : Reader Stmt) (b p : ℕ) → Reads s b p → (l : Option (List ℕ)) (n : List ℕ) (e : Expr) (arms : Arms) (ts : List Kind) → IsStmt (Pick l n e arms) → stmt_nesting (Pick l n e arms) ≤ suc b → branch_above b s l (branch.Choice choice.Pick) (spell_behind (Pick l n e arms) ts) ≡ Ok (Pick l n e arms, ts)
unfolding branch_above
pick_again s b p k l n e arms ts h d =
    rw (before_again b mark.OpenBrace e (spell_arms arms (mark.CloseBrace ▸ ts)) (omega arith, λ us. refl) h.0 (omega arith), arms_again s b p k region.Pick tt arms ts h.1 (omega arith), arms_back arms) refl

spawned_again : (b : ℕ) (e : Expr) (ts : List Kind) → IsStmt (Spawn e) → nesting e ≤ b → spawned_at b (spell e (mark.Semicolon ▸ ts)) ≡ Ok (Spawn e, ts)
unfolding spawned_at
spawned_again b e ts h d = rw (unary_again b e (mark.Semicolon ▸ ts) h.0 d (omega arith), h.1) refl

step_again : (b p : ℕ) → Reads (stmt_at b) b p → (x : Stmt) (ts : List Kind) → IsStmt x → stmt_nesting x ≤ suc b → Closes x ts → stmt_at (suc b) (spell_stmt x ts) ≡ Ok (x, ts)
unfolding stmt_at jump_above
step_again b p k Empty ts h d f = refl
step_again b p k (Nested (Plain ss)) ts h d f = rw (block_again (stmt_at b) b p k (Plain ss) ts h (omega arith) f.1) refl
step_again b p k (Nested (Handled ss n arms)) ts h d f = rw (block_again (stmt_at b) b p k (Handled ss n arms) ts h (omega arith) f.1) refl
step_again b p k (Declare x) ts h d f = rw (decl_starts x ts h, decl_again b x ts h (omega arith)) refl
step_again b p k (Eval e) ts h d f =
    rw (eval_starts e ts h.0 h.1, before_again b mark.Semicolon e ts (omega arith, λ us. refl) h.0 (omega arith)) refl
step_again b p k (If c x) ts h d f = if_again (stmt_at b) b p k c x ts h.0 h.1 (omega arith) (f.0 refl, f.1)
step_again b p k (IfElse c x y) ts h d f = else_again (stmt_at b) b p k c x y ts h.0 h.1 h.2 h.3 (omega arith) f
step_again b p k (While None c x) ts h d f = while_again (stmt_at b) b p k None c x ts h d f
step_again b p k (While (Some l) c x) ts h d f = while_again (stmt_at b) b p k (Some l) c x ts h d f
step_again b p k (Do None x c) ts h d f = do_again (stmt_at b) b p k None x c ts h d
step_again b p k (Do (Some l) x c) ts h d f = do_again (stmt_at b) b p k (Some l) x c ts h d
step_again b p k (For None a c n x) ts h d f = for_again (stmt_at b) b p k None a c n x ts h d f
step_again b p k (For (Some l) a c n x) ts h d f = for_again (stmt_at b) b p k (Some l) a c n x ts h d f
step_again b p k (Case None e arms) ts h d f = case_again (stmt_at b) b p k None e arms ts h d
step_again b p k (Case (Some l) e arms) ts h d f = case_again (stmt_at b) b p k (Some l) e arms ts h d
step_again b p k (Alt None arms) ts h d f = alt_again (stmt_at b) b p k None arms ts h d
step_again b p k (Alt (Some l) arms) ts h d f = alt_again (stmt_at b) b p k (Some l) arms ts h d
step_again b p k (Pick None n e arms) ts h d f = pick_again (stmt_at b) b p k None n e arms ts h d
step_again b p k (Pick (Some l) n e arms) ts h d f = pick_again (stmt_at b) b p k (Some l) n e arms ts h d
step_again b p k (Break l) ts h d f = rw (label_again l mark.Semicolon ts) refl
step_again b p k (Continue l) ts h d f = rw (label_again l mark.Semicolon ts) refl
step_again b p k (Return e) ts h d f = rw (semicolon_again b e ts h (omega arith)) refl
step_again b p k Exit ts h d f = refl
step_again b p k (Spawn e) ts h d f = spawned_again b e ts h (omega arith)
step_again b p k (Raise e) ts h d f = rw (semicolon_again b e ts h (omega arith)) refl

stmt_pos : (x : Stmt) → 1 ≤ stmt_nesting x
stmt_pos Empty = omega arith
stmt_pos (Nested b) = omega arith
stmt_pos (Declare d) = omega arith
stmt_pos (Eval e) = omega arith
stmt_pos (If c s) = omega arith
stmt_pos (IfElse c s t) = omega arith
stmt_pos (While l c s) = omega arith
stmt_pos (Do l s c) = omega arith
stmt_pos (For l a c b s) = omega arith
stmt_pos (Case l e arms) = omega arith
stmt_pos (Alt l arms) = omega arith
stmt_pos (Pick l n e arms) = omega arith
stmt_pos (Break l) = omega arith
stmt_pos (Continue l) = omega arith
stmt_pos (Return e) = omega arith
stmt_pos Exit = omega arith
stmt_pos (Spawn e) = omega arith
stmt_pos (Raise e) = omega arith

none_kept : Kept 0 (stmt_at 0)
unfolding stmt_at
none_kept ts = omega arith

stmt_reads : (b : ℕ) → Reads (stmt_at b) b (b - 1)
stmt_reads zero = record { again = λ x ts h d f. absurd (omega (arith, stmt_pos x)); kept = none_kept }
stmt_reads (suc b) = record { again = step_again b (b - 1) (stmt_reads b); kept = kept_here }
  where
    kept_here : Kept (suc b - 1) (stmt_at (suc b))
    kept_here = let e : suc b - 1 ≡ b = omega arith in rw e (stmt_keeps b)

pub stmt_again : (b : ℕ) (x : Stmt) (ts : List Kind) → IsStmt x → stmt_nesting x ≤ b → Closes x ts → stmt_at b (spell_stmt x ts) ≡ Ok (x, ts)
stmt_again b x ts h d f = (stmt_reads b).again x ts h d f

pub block_at_again : (b : ℕ) (x : Block) (ts : List Kind) → IsBlock x → block_nesting x ≤ b → after_key key.Exception ts ≡ None → block_at b (spell_block x ts) ≡ Ok (x, ts)
unfolding block_at
block_at_again b (Plain ss) ts h d f = block_again (stmt_at b) b (b - 1) (stmt_reads b) (Plain ss) ts h d f
block_at_again b (Handled ss n arms) ts h d f = block_again (stmt_at b) b (b - 1) (stmt_reads b) (Handled ss n arms) ts h d f
