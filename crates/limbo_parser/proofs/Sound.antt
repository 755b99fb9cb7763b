-- What is read is spelled so, well formed and within the budget.
use Rattle.std.proofs.Common.{◌≡◌, ℕ, zero, suc, ◌≤◌, true, false, List, [], ◌∷◌, length, Option, Some, None, Result, Ok, Err, refl, sym, ap, ◌∙◌, arith, inl, inr}
use Rattle.std.specs.Prelude.{IfOk}
use Rattle.limbo_lexer.specs.declared.token.Kind.{Kind}
use Rattle.limbo_lexer.specs.declared.token.Kind.TheVariants as kind
use Rattle.limbo_lexer.specs.declared.token.Mark.{Mark}
use Rattle.limbo_lexer.specs.declared.token.Mark.TheVariants as mark
use Rattle.limbo_lexer.specs.declared.token.Key.TheVariants as key
use Rattle.limbo_tree.specs.declared.operators.AssignOp.TheVariants as assign
use Rattle.limbo_tree.specs.Tokens.{◌▸◌, ◌▹◌, spell_name, spell_label, spell_mark_label}
use Rattle.limbo_tree.specs.Exprs.{Expr, Assign, Name, spell, nesting, is_postfix, IsAt}
use Rattle.limbo_tree.specs.Decls.{option_nesting, IsOption}
use Rattle.limbo_tree.specs.Stmts.{CaseHead, PickHead, HandlerHead, Pattern, HandlerPattern, Stmt, spell_pattern, spell_handler_pattern, spell_head, spell_option, spell_stmt, spell_stmts, spell_block, spell_arms, stmt_nesting, stmts_nesting, block_nesting, arms_nesting, ends_open, is_declaration, IsStmt, AreStmts, IsBlock, AreArms}
use Rattle.limbo_tree.specs.View.{stmts_of, arms_of}
use Rattle.limbo_reading.specs.declared.fault.Fault.{Fault}
use Rattle.limbo_reading.specs.Reading.{Reader, after_mark, after_key, after_name, expect_mark, expect_key, expect_name}
use Rattle.limbo_reading.specs.Lists.{until}
use Rattle.limbo_reading.proofs.Steps.{tell_bool, took_bind, took_choose, took_if, took_mark, took_key, took_name, after_mark_is, after_key_is, after_name_is}
use Rattle.limbo_reading.proofs.Lists.{Took, TookItems, items_took, until_took}
use Rattle.limbo_expr_parser.specs.Exprs.{readers}
use Rattle.limbo_decl_parser.specs.Decls.{decl_at}
use Rattle.limbo_stmt_parts.specs.declared.start.Branch.{Branch}
use Rattle.limbo_stmt_parts.specs.declared.start.Branch.TheVariants as branch
use Rattle.limbo_stmt_parts.specs.declared.start.Choice.TheVariants as choice
use Rattle.limbo_stmt_parts.specs.declared.start.Loop.TheVariants as loop
use Rattle.limbo_stmt_parts.specs.declared.start.Jump.{Jump}
use Rattle.limbo_stmt_parts.specs.declared.start.Jump.TheVariants as jump
use Rattle.limbo_stmt_parts.specs.declared.start.Region.{Region}
use Rattle.limbo_stmt_parts.specs.declared.start.Region.TheVariants as region
use Rattle.limbo_stmt_parts.specs.Start.{Start, AtEmpty, AtBlock, AtIf, AtBranch, AtLabelled, AtJump, AtDeclare, AtOther, start}
use Rattle.limbo_stmt_parts.specs.Heads.{star_alone, case_pattern_at, handler_pattern_at, head_at, front_at, ends, closing}
use Rattle.limbo_stmt_parts.specs.Jumps.{ForHead, label_at, option_before, expr_before, for_head_at, spawned_at, jump_above}
use Rattle.limbo_stmt_parser.specs.Stmts.{stmts_at, arm_at, arms_at, block_above, if_above, branch_above, begun, stmt_at, block_at}
use Rattle.limbo_expr_parser.proofs.Laws.{expr_took, unary_took}
use Rattle.limbo_decl_parser.proofs.Laws.{decl_took}
use Rattle.limbo_stmt_parts.proofs.Fronts.{star_is, branch_key, jump_key, StartIs, start_is}
use Rattle.limbo_parser.proofs.Shapes.{place, patterns_spelled, handler_patterns_spelled, names_spelled, GoodPattern, patterns_are, spell_front, GoodHead, GoodStmt, stmts_spelled, stmts_are, spell_arm, GoodArm, arms_spelled, arms_are}

-- ---- heads

pattern_took : (b : ℕ) (ts : List Kind) → IfOk (case_pattern_at b ts) (Took spell_pattern (GoodPattern b) ts)
pattern_took b ts =
    took_choose (star_alone ts) _ _ _
    (λ n. took_bind ((readers b).expr ts) _ _ _ (expr_took b ts) λ e t.
    took_choose (after_key key.To e.1) _ _ _ (λ k. record { parts = t.parts; stands = t.stands }) λ us k.
    took_bind ((readers b).expr us) _ _ _ (expr_took b us) λ f q. record {
      parts = t.parts ∙ ap (spell e.0) (after_key_is key.To e.1 us k ∙ ap (λ (v : List Kind). key.To ▹ v) q.parts);
      stands = ((t.stands.0, q.stands.0), omega (arith, t.stands.1, q.stands.1));
    })
    (λ us e. record { parts = star_is ts us e; stands = (tt, omega arith) })

handler_pattern_took : (ts : List Kind) → IfOk (handler_pattern_at ts) (Took spell_handler_pattern (λ (p : HandlerPattern). Unit {0}) ts)
handler_pattern_took [] = tt
handler_pattern_took (kind.Chars s ∷ ts) = record { parts = refl; stands = tt }
handler_pattern_took (kind.Name n ∷ ts) = record { parts = refl; stands = tt }
handler_pattern_took (kind.Mark mark.Star ∷ ts) = record { parts = refl; stands = tt }
handler_pattern_took (kind.Mark _ ∷ ts) = tt
handler_pattern_took (_ ∷ ts) = tt

name_took : (ts : List Kind) → IfOk (expect_name ts) (Took spell_name (λ (n : List ℕ). Unit {0}) ts)
name_took ts = took_choose (after_name ts) _ _ _ (λ n. tt) (λ x e. record { parts = after_name_is ts x e; stands = tt })

case_took : (b : ℕ) (ts : List Kind) (ps : List Pattern × List Kind) → TookItems spell_pattern (kind.Key key.Or) (GoodPattern b) (after_key key.Or) ts ps → Took spell_head (GoodHead b region.Case) ts (CaseHead ps.0, ps.1)
case_took b ts ps t =
    let q = patterns_are b t.more t.stands.1 in
    rw t.all (record {
      parts = t.parts ∙ ap (spell_pattern t.first) (patterns_spelled t.more ps.1);
      stands = ((refl, (t.stands.0.0, q.0)), omega (arith, t.stands.0.1, q.1));
    })

handler_took : (b : ℕ) (ts : List Kind) (ps : List HandlerPattern × List Kind) → TookItems spell_handler_pattern (kind.Key key.Or) (λ (p : HandlerPattern). Unit {0}) (after_key key.Or) ts ps → Took spell_head (GoodHead b region.Handler) ts (HandlerHead ps.0, ps.1)
handler_took b ts ps t =
    rw t.all (record { parts = t.parts ∙ ap (spell_handler_pattern t.first) (handler_patterns_spelled t.more ps.1); stands = (refl, omega arith) })

pick_took : (b : ℕ) (ts : List Kind) (ns : List (List ℕ) × List Kind) → TookItems spell_name (kind.Key key.Or) (λ (n : List ℕ). Unit {0}) (after_key key.Or) ts ns → Took spell_head (GoodHead b region.Pick) ts (PickHead ns.0, ns.1)
pick_took b ts ns t =
    rw t.all (record { parts = t.parts ∙ ap (spell_name t.first) (names_spelled t.more ns.1); stands = (tt, omega arith) })

head_took : (b : ℕ) (r : Region) (ts : List Kind) → IfOk (head_at b r ts) (Took spell_head (GoodHead b r) ts)
head_took b region.Block ts = tt
head_took b region.Case ts =
    took_bind _ _ _ _ (items_took (case_pattern_at b) (after_key key.Or) spell_pattern (kind.Key key.Or) (GoodPattern b) (after_key_is key.Or) (pattern_took b) ts) λ ps t. case_took b ts ps t
head_took b region.Alt ts =
    took_choose (star_alone ts) _ _ _
    (λ n. took_bind ((readers b).expr ts) _ _ _ (expr_took b ts) λ e t. record { parts = t.parts; stands = t.stands })
    (λ us e. record { parts = star_is ts us e; stands = (tt, omega arith) })
head_took b region.Pick ts =
    took_choose (after_mark mark.Star ts) _ _ _
    (λ n. took_bind _ _ _ _ (items_took expect_name (after_key key.Or) spell_name (kind.Key key.Or) (λ (n : List ℕ). Unit {0}) (after_key_is key.Or) name_took ts) λ ns t. pick_took b ts ns t)
    (λ us e. record { parts = after_mark_is mark.Star ts us e; stands = (tt, omega arith) })
head_took b region.Handler ts =
    took_bind _ _ _ _ (items_took handler_pattern_at (after_key key.Or) spell_handler_pattern (kind.Key key.Or) (λ (p : HandlerPattern). Unit {0}) (after_key_is key.Or) handler_pattern_took ts) λ ps t. handler_took b ts ps t

pub front_took : (b : ℕ) (r : Region) (ts : List Kind) → IfOk (front_at b r ts) (Took spell_front (GoodHead b r) ts)
unfolding front_at
front_took b r ts =
    took_bind (head_at b r ts) _ _ _ (head_took b r ts) λ h t.
    took_bind (expect_mark mark.FatArrow h.1) _ _ _ (took_mark mark.FatArrow h.1) λ us e.
    record { parts = t.parts ∙ ap (spell_head h.0) e; stands = t.stands }

-- ---- statements

-- what a reader of statements took from the front: no `else` is left that would belong to it
pub record TookStmt (b : ℕ) (ts : List Kind) (x : Stmt × List Kind) : Type 0 where
  pub parts : ts ≡ spell_stmt x.0 x.1
  pub stands : IsStmt x.0
  pub within : stmt_nesting x.0 ≤ b
  pub closed : ends_open x.0 ≡ true → after_key key.Else x.1 ≡ None

abbrev pub SoundStmt : Reader Stmt → ℕ → Type 0
SoundStmt s b = (ts : List Kind) → IfOk (s ts) (TookStmt b ts)

if_ok : {A : Type 0} (r : Result A Fault) (P Q : A → Type 0) → IfOk r P → ((x : A) → P x → Q x) → IfOk r Q
if_ok (Ok x) P Q h f = f x h
if_ok (Err e) P Q h f = tt

one_took : (s : Reader Stmt) (b : ℕ) → SoundStmt s b → (ts : List Kind) → IfOk (s ts) (Took spell_stmt (GoodStmt b) ts)
one_took s b k ts = if_ok (s ts) _ _ (k ts) λ x t. record { parts = t.parts; stands = (t.stands, t.within) }

label_took : (ts : List Kind) → IfOk (label_at ts) (λ x. ts ≡ spell_label x.0 x.1)
unfolding label_at
label_took ts = took_choose (after_name ts) _ _ _ (λ n. refl) (λ x e. after_name_is ts x e)

option_took : (b : ℕ) (m : Mark) (ts : List Kind) → IfOk (option_before b m ts) (Took (λ e us. spell_option e (m ▸ us)) (λ e. IsOption e × (option_nesting e ≤ b)) ts)
unfolding option_before
option_took b m ts =
    took_choose (after_mark m ts) _ _ _
    (λ n. took_bind ((readers b).expr ts) _ _ _ (expr_took b ts) λ e t.
    took_bind (expect_mark m e.1) _ _ _ (took_mark m e.1) λ us i. record { parts = t.parts ∙ ap (spell e.0) i; stands = t.stands })
    (λ us e. record { parts = after_mark_is m ts us e; stands = (tt, omega arith) })

before_took : (b : ℕ) (m : Mark) (ts : List Kind) → IfOk (expr_before b m ts) (Took (λ e us. spell e (m ▸ us)) (λ e. IsAt 13 e × (nesting e ≤ b)) ts)
unfolding expr_before
before_took b m ts =
    took_bind ((readers b).expr ts) _ _ _ (expr_took b ts) λ e t.
    took_bind (expect_mark m e.1) _ _ _ (took_mark m e.1) λ us i. record { parts = t.parts ∙ ap (spell e.0) i; stands = t.stands }

stmts_took : (s : Reader Stmt) (b : ℕ) (r : Region) → SoundStmt s b → (ts : List Kind) → IfOk (stmts_at b s r ts) (Took (λ xs us. spell_stmts (stmts_of xs) us) (λ xs. AreStmts (stmts_of xs) × (stmts_nesting (stmts_of xs) ≤ b)) ts)
unfolding stmts_at
stmts_took s b r k ts =
    if_ok (until s (ends b r) (suc (length ts)) ts) _ _ (until_took s (ends b r) spell_stmt (GoodStmt b) (one_took s b k) (suc (length ts)) ts) λ xs t.
    record { parts = t.0.parts ∙ stmts_spelled xs.0 xs.1; stands = stmts_are b xs.0 t.0.stands }

arm_took : (s : Reader Stmt) (b : ℕ) (r : Region) → SoundStmt s b → (ts : List Kind) → IfOk (arm_at b s r ts) (Took spell_arm (GoodArm b r) ts)
unfolding arm_at
arm_took s b r k ts =
    took_bind (front_at b r ts) _ _ _ (front_took b r ts) λ h t.
    took_bind (stmts_at b s r h.1) _ _ _ (stmts_took s b r k h.1) λ ss q.
    record { parts = t.parts ∙ ap (λ (v : List Kind). spell_head h.0 (mark.FatArrow ▸ v)) q.parts; stands = (t.stands, q.stands.0, q.stands.1) }

arms_took : (s : Reader Stmt) (b : ℕ) (r : Region) → SoundStmt s b → (ts : List Kind) → IfOk (arms_at b s r ts) (Took (λ xs us. spell_arms (arms_of xs) (mark.CloseBrace ▸ us)) (λ xs. AreArms (place r) (arms_of xs) × (arms_nesting (arms_of xs) ≤ b)) ts)
unfolding arms_at
arms_took s b r k ts =
    took_bind (until (arm_at b s r) closing (suc (length ts)) ts) _ _ _ (until_took (arm_at b s r) closing spell_arm (GoodArm b r) (arm_took s b r k) (suc (length ts)) ts) λ arms t.
    took_bind (expect_mark mark.CloseBrace arms.1) _ _ _ (took_mark mark.CloseBrace arms.1) λ us e.
    record { parts = t.0.parts ∙ arms_spelled arms.0 arms.1 ∙ ap (spell_arms (arms_of arms.0)) e; stands = arms_are b r arms.0 t.0.stands }

pub block_took : (s : Reader Stmt) (b : ℕ) → SoundStmt s b → (ts : List Kind) → IfOk (block_above b s ts) (Took spell_block (λ x. IsBlock x × (block_nesting x ≤ b)) (mark.OpenBrace ▸ ts))
unfolding block_above
block_took s b k ts =
    took_bind (stmts_at b s region.Block ts) _ _ _ (stmts_took s b region.Block k ts) λ ss t.
    took_bind (expect_mark mark.CloseBrace ss.1) _ _ _ (took_mark mark.CloseBrace ss.1) λ us e.
    took_choose (after_key key.Exception us) _ _ _
    (λ n. record { parts = ap (λ (v : List Kind). mark.OpenBrace ▸ v) (t.parts ∙ ap (spell_stmts (stmts_of ss.0)) e); stands = t.stands })
    λ vs x.
    took_bind (label_at vs) _ _ _ (label_took vs) λ l n.
    took_bind (expect_mark mark.OpenBrace l.1) _ _ _ (took_mark mark.OpenBrace l.1) λ ws o.
    took_bind (arms_at b s region.Handler ws) _ _ _ (arms_took s b region.Handler k ws) λ arms q. record {
      parts = ap (λ (v : List Kind). mark.OpenBrace ▸ v) (t.parts ∙ ap (spell_stmts (stmts_of ss.0)) (e ∙ ap (λ (v : List Kind). mark.CloseBrace ▸ v)
          (after_key_is key.Exception us vs x ∙ ap (λ (v : List Kind). key.Exception ▹ v) (n ∙ ap (spell_label l.0) (o ∙ ap (λ (v : List Kind). mark.OpenBrace ▸ v) q.parts)))));
      stands = ((t.stands.0, q.stands.0), omega (arith, t.stands.1, q.stands.1));
    }

if_took : (s : Reader Stmt) (b : ℕ) → SoundStmt s b → (ts : List Kind) → IfOk (if_above b s ts) (TookStmt (suc b) (key.If ▹ ts))
unfolding if_above
if_took s b k ts =
    took_bind (expect_mark mark.OpenParen ts) _ _ _ (took_mark mark.OpenParen ts) λ us o.
    took_bind (expr_before b mark.CloseParen us) _ _ _ (before_took b mark.CloseParen us) λ c t.
    took_bind (s c.1) _ _ _ (k c.1) λ x q.
    let front : key.If ▹ ts ≡ key.If ▹ mark.OpenParen ▸ spell c.0 (mark.CloseParen ▸ spell_stmt x.0 x.1) =
    ap (λ (v : List Kind). key.If ▹ v) (o ∙ ap (λ (v : List Kind). mark.OpenParen ▸ v) (t.parts ∙ ap (λ (v : List Kind). spell c.0 (mark.CloseParen ▸ v)) q.parts)) in
    took_choose (after_key key.Else x.1) _ _ _
    (λ n. record { parts = front; stands = (t.stands.0, q.stands); within = omega (arith, t.stands.1, q.within); closed = λ p. n })
    λ vs e.
    took_bind (s vs) _ _ _ (k vs) λ y w.
    let shut : ends_open x.0 ≡ false = elim (tell_bool (ends_open x.0)) [ inl p ↦ let n : after_key key.Else x.1 ≡ None = q.closed p in absurd cc | inr p ↦ p ] in
    record {
      parts = front ∙ ap (λ (v : List Kind). key.If ▹ mark.OpenParen ▸ spell c.0 (mark.CloseParen ▸ spell_stmt x.0 v)) (after_key_is key.Else x.1 vs e ∙ ap (λ (v : List Kind). key.Else ▹ v) w.parts);
      stands = (t.stands.0, q.stands, shut, w.stands);
      within = omega (arith, t.stands.1, q.within, w.within);
      closed = w.closed;
    }

-- the head of a "for" as it is spelled, and one that is well formed and nests up to b
abbrev spell_for_head : ForHead → List Kind → List Kind
spell_for_head h us = mark.OpenParen ▸ spell_option h.first (mark.Semicolon ▸ spell_option h.condition (mark.Semicolon ▸ spell_option h.next (mark.CloseParen ▸ us)))

abbrev GoodForHead : ℕ → ForHead → Type 0
GoodForHead b h = (IsOption h.first × IsOption h.condition × IsOption h.next) × ((option_nesting h.first ≤ b) × (option_nesting h.condition ≤ b) × (option_nesting h.next ≤ b))

for_head_took : (b : ℕ) (ts : List Kind) → IfOk (for_head_at b ts) (Took spell_for_head (GoodForHead b) ts)
unfolding for_head_at
for_head_took b ts =
    took_bind (expect_mark mark.OpenParen ts) _ _ _ (took_mark mark.OpenParen ts) λ us o.
    took_bind (option_before b mark.Semicolon us) _ _ _ (option_took b mark.Semicolon us) λ a h.
    took_bind (option_before b mark.Semicolon a.1) _ _ _ (option_took b mark.Semicolon a.1) λ c i.
    took_bind (option_before b mark.CloseParen c.1) _ _ _ (option_took b mark.CloseParen c.1) λ n j. record {
      parts = o ∙ ap (λ (v : List Kind). mark.OpenParen ▸ v) (h.parts ∙ ap (λ (v : List Kind). spell_option a.0 (mark.Semicolon ▸ v)) (i.parts ∙ ap (λ (v : List Kind). spell_option c.0 (mark.Semicolon ▸ v)) j.parts));
      stands = ((h.stands.0, i.stands.0, j.stands.0), (h.stands.1, i.stands.1, j.stands.1));
    }

branch_took : (s : Reader Stmt) (b : ℕ) → SoundStmt s b → (l : Option (List ℕ)) (w : Branch) (ts : List Kind) → IfOk (branch_above b s l w ts) (TookStmt (suc b) (spell_mark_label l (branch_key w ▹ ts)))
unfolding branch_above
branch_took s b k l (branch.Loop loop.While) ts =
    took_bind (expect_mark mark.OpenParen ts) _ _ _ (took_mark mark.OpenParen ts) λ us o.
    took_bind (option_before b mark.CloseParen us) _ _ _ (option_took b mark.CloseParen us) λ c t.
    took_bind (s c.1) _ _ _ (k c.1) λ x q. record {
      parts = ap (λ (v : List Kind). spell_mark_label l (key.While ▹ v)) (o ∙ ap (λ (v : List Kind). mark.OpenParen ▸ v) (t.parts ∙ ap (λ (v : List Kind). spell_option c.0 (mark.CloseParen ▸ v)) q.parts));
      stands = (t.stands.0, q.stands);
      within = omega (arith, t.stands.1, q.within);
      closed = q.closed;
    }
branch_took s b k l (branch.Loop loop.Do) ts =
    took_bind (s ts) _ _ _ (k ts) λ x q.
    took_bind (expect_key key.While x.1) _ _ _ (took_key key.While x.1) λ us i.
    took_bind (expect_mark mark.OpenParen us) _ _ _ (took_mark mark.OpenParen us) λ vs o.
    took_bind (option_before b mark.CloseParen vs) _ _ _ (option_took b mark.CloseParen vs) λ c t.
    took_bind (expect_mark mark.Semicolon c.1) _ _ _ (took_mark mark.Semicolon c.1) λ ws e. record {
      parts = ap (λ (v : List Kind). spell_mark_label l (key.Do ▹ v)) (q.parts ∙ ap (spell_stmt x.0) (i ∙ ap (λ (v : List Kind). key.While ▹ v) (o ∙ ap (λ (v : List Kind). mark.OpenParen ▸ v) (t.parts ∙ ap (λ (v : List Kind). spell_option c.0 (mark.CloseParen ▸ v)) e))));
      stands = (q.stands, t.stands.0);
      within = omega (arith, t.stands.1, q.within);
      closed = λ p. absurd cc;
    }
branch_took s b k l (branch.Loop loop.For) ts =
    took_bind (for_head_at b ts) _ _ _ (for_head_took b ts) λ h t.
    took_bind (s h.1) _ _ _ (k h.1) λ x q. record {
      parts = ap (λ (v : List Kind). spell_mark_label l (key.For ▹ v)) (t.parts ∙ ap (spell_for_head h.0) q.parts);
      stands = (t.stands.0.0, t.stands.0.1, t.stands.0.2, q.stands);
      within = omega (arith, t.stands.1.0, t.stands.1.1, t.stands.1.2, q.within);
      closed = q.closed;
    }
branch_took s b k l (branch.Choice choice.Case) ts =
    took_bind (expr_before b mark.OpenBrace ts) _ _ _ (before_took b mark.OpenBrace ts) λ e t.
    took_bind (arms_at b s region.Case e.1) _ _ _ (arms_took s b region.Case k e.1) λ arms q. record {
      parts = ap (λ (v : List Kind). spell_mark_label l (key.Case ▹ v)) (t.parts ∙ ap (λ (v : List Kind). spell e.0 (mark.OpenBrace ▸ v)) q.parts);
      stands = (t.stands.0, q.stands.0);
      within = omega (arith, t.stands.1, q.stands.1);
      closed = λ p. absurd cc;
    }
branch_took s b k l (branch.Choice choice.Alt) ts =
    took_bind (expect_mark mark.OpenBrace ts) _ _ _ (took_mark mark.OpenBrace ts) λ us o.
    took_bind (arms_at b s region.Alt us) _ _ _ (arms_took s b region.Alt k us) λ arms q. record {
      parts = ap (λ (v : List Kind). spell_mark_label l (key.Alt ▹ v)) (o ∙ ap (λ (v : List Kind). mark.OpenBrace ▸ v) q.parts);
      stands = q.stands.0;
      within = omega (arith, q.stands.1);
      closed = λ p. absurd cc;
    }
branch_took s b k l (branch.Choice choice.Pick) ts =
    took_bind (expect_name ts) _ _ _ (took_name ts) λ n i.
    took_bind (expect_mark mark.Define n.1) _ _ _ (took_mark mark.Define n.1) λ us o.
    took_bind (expr_before b mark.OpenBrace us) _ _ _ (before_took b mark.OpenBrace us) λ e t.
    took_bind (arms_at b s region.Pick e.1) _ _ _ (arms_took s b region.Pick k e.1) λ arms q. record {
      parts = ap (λ (v : List Kind). spell_mark_label l (key.Pick ▹ v)) (i ∙ ap (λ (v : List Kind). kind.Name n.0 ∷ v) (o ∙ ap (λ (v : List Kind). mark.Define ▸ v) (t.parts ∙ ap (λ (v : List Kind). spell e.0 (mark.OpenBrace ▸ v)) q.parts)));
      stands = (t.stands.0, q.stands.0);
      within = omega (arith, t.stands.1, q.stands.1);
      closed = λ p. absurd cc;
    }

spawned_took : (b : ℕ) (ts : List Kind) → IfOk (spawned_at b ts) (TookStmt (suc b) (key.Spawn ▹ ts))
unfolding spawned_at
spawned_took b ts =
    took_bind ((readers b).chain 0 ts) _ _ _ (unary_took b ts) λ e t.
    took_if (is_postfix e.0) _ _ _ (λ p.
    took_bind (expect_mark mark.Semicolon e.1) _ _ _ (took_mark mark.Semicolon e.1) λ us i. record {
      parts = ap (λ (v : List Kind). key.Spawn ▹ v) (t.parts ∙ ap (spell e.0) i);
      stands = (t.stands.0, p);
      within = omega (arith, t.stands.1);
      closed = λ q. absurd cc;
    }) λ p. tt

jump_took : (b : ℕ) (j : Jump) (ts : List Kind) → IfOk (jump_above b j ts) (TookStmt (suc b) (jump_key j ▹ ts))
unfolding jump_above
jump_took b jump.Break ts =
    took_bind (label_at ts) _ _ _ (label_took ts) λ l n.
    took_bind (expect_mark mark.Semicolon l.1) _ _ _ (took_mark mark.Semicolon l.1) λ us i.
    record { parts = ap (λ (v : List Kind). key.Break ▹ v) (n ∙ ap (spell_label l.0) i); stands = tt; within = omega arith; closed = λ p. absurd cc }
jump_took b jump.Continue ts =
    took_bind (label_at ts) _ _ _ (label_took ts) λ l n.
    took_bind (expect_mark mark.Semicolon l.1) _ _ _ (took_mark mark.Semicolon l.1) λ us i.
    record { parts = ap (λ (v : List Kind). key.Continue ▹ v) (n ∙ ap (spell_label l.0) i); stands = tt; within = omega arith; closed = λ p. absurd cc }
jump_took b jump.Return ts =
    took_bind (option_before b mark.Semicolon ts) _ _ _ (option_took b mark.Semicolon ts) λ e t.
    record { parts = ap (λ (v : List Kind). key.Return ▹ v) t.parts; stands = t.stands.0; within = omega (arith, t.stands.1); closed = λ p. absurd cc }
jump_took b jump.Exit ts =
    took_bind (expect_mark mark.Semicolon ts) _ _ _ (took_mark mark.Semicolon ts) λ us i.
    record { parts = ap (λ (v : List Kind). key.Exit ▹ v) i; stands = tt; within = omega arith; closed = λ p. absurd cc }
jump_took b jump.Spawn ts = spawned_took b ts
jump_took b jump.Raise ts =
    took_bind (option_before b mark.Semicolon ts) _ _ _ (option_took b mark.Semicolon ts) λ e t.
    record { parts = ap (λ (v : List Kind). key.Raise ▹ v) t.parts; stands = t.stands.0; within = omega (arith, t.stands.1); closed = λ p. absurd cc }

-- an expression that isn't read as a declaration
not_declared : (e : Expr) (ts : List Kind) → start (spell e ts) ≡ AtOther → is_declaration e ≡ false
not_declared (Assign assign.Define (Name n) m) ts h = absurd cc
not_declared (Assign assign.Define _ m) ts h = refl
not_declared (Assign _ l m) ts h = refl
not_declared _ ts h = refl

moved : (b : ℕ) (ts us : List Kind) (r : Result (Stmt × List Kind) Fault) → ts ≡ us → IfOk r (TookStmt b us) → IfOk r (TookStmt b ts)
moved b ts us r e h = if_ok r _ _ h λ x t. record { parts = e ∙ t.parts; stands = t.stands; within = t.within; closed = t.closed }

begun_took : (s : Reader Stmt) (b : ℕ) → SoundStmt s b → (ts : List Kind) (at : Start) → start ts ≡ at → StartIs ts at → IfOk (begun b s at ts) (TookStmt (suc b) ts)
begun_took s b k ts (AtEmpty us) h i = record { parts = i; stands = tt; within = omega arith; closed = λ p. absurd cc }
begun_took s b k ts (AtBlock us) h i =
    took_bind (block_above b s us) _ _ _ (block_took s b k us) λ x t.
    record { parts = i ∙ t.parts; stands = t.stands.0; within = omega (arith, t.stands.1); closed = λ p. absurd cc }
begun_took s b k ts (AtIf us) h i = moved (suc b) ts _ _ i (if_took s b k us)
begun_took s b k ts (AtBranch w us) h i = moved (suc b) ts _ _ i (branch_took s b k None w us)
begun_took s b k ts (AtLabelled w us) h i =
    rw i.1 (branch_took s b k (Some i.0) w us)
begun_took s b k ts (AtJump j us) h i = moved (suc b) ts _ _ i (jump_took b j us)
begun_took s b k ts AtDeclare h i =
    took_bind (decl_at b ts) _ _ _ (decl_took b ts) λ d t.
    record { parts = t.parts; stands = t.stands.0; within = omega (arith, t.stands.1); closed = λ p. absurd cc }
begun_took s b k ts AtOther h i =
    took_bind (expr_before b mark.Semicolon ts) _ _ _ (before_took b mark.Semicolon ts) λ e t.
    record { parts = t.parts; stands = (t.stands.0, not_declared e.0 _ (ap start (sym t.parts) ∙ h)); within = omega (arith, t.stands.1); closed = λ p. absurd cc }

pub stmt_sound : (b : ℕ) → SoundStmt (stmt_at b) b
unfolding stmt_at
stmt_sound zero ts = tt
stmt_sound (suc b) ts = begun_took (stmt_at b) b (stmt_sound b) ts (start ts) refl (start_is ts)

pub stmt_took : (b : ℕ) (ts : List Kind) → IfOk (stmt_at b ts) (Took spell_stmt (GoodStmt b) ts)
stmt_took b ts = one_took (stmt_at b) b (stmt_sound b) ts

pub block_at_took : (b : ℕ) (ts : List Kind) → IfOk (block_at b ts) (Took spell_block (λ x. IsBlock x × (block_nesting x ≤ b)) ts)
unfolding block_at
block_at_took b ts =
    took_bind (expect_mark mark.OpenBrace ts) _ _ _ (took_mark mark.OpenBrace ts) λ us e.
    if_ok (block_above b (stmt_at b) us) _ _ (block_took (stmt_at b) b (stmt_sound b) us) λ x t. record { parts = e ∙ t.parts; stands = t.stands }
