-- What the loops and the calls of the code need of readers: an item takes a token, and faults pass on.
use Rattle.std.proofs.Common.{◌≡◌, ℕ, suc, ◌<◌, true, false, List, [], ◌∷◌, ◌++◌, map, length, Some, None, Ok, refl, sym, ap, ◌∙◌, arith}
use Rattle.limbo_lexer.specs.declared.token.Kind.{Kind}
use Rattle.limbo_lexer.specs.declared.token.Mark.TheVariants as mark
use Rattle.limbo_tree.specs.declared.stmt.Stmt as code_stmt
use Rattle.limbo_tree.specs.Stmts.{Head, Stmt}
use Rattle.limbo_tree.specs.View.{Arm, stmts_of, view_stmt}
use Rattle.limbo_reading.specs.declared.fault.ReadError.{ReadError}
use Rattle.limbo_reading.specs.Reading.{after_mark, Fails}
use Rattle.limbo_reading.specs.Lists.{until}
use Rattle.limbo_reading.proofs.Loops.{Going, until_start, going_more, going_end, going_fails, going_test_fails}
use Rattle.limbo_reading.proofs.Steps.{kept_shorter, fails_bind}
use Rattle.limbo_stmt_parts.specs.declared.start.Region.{Region}
use Rattle.limbo_stmt_parts.specs.Heads.{front_at, closing, ends}
use Rattle.limbo_stmt_parser.specs.Stmts.{stmt_at, stmts_at, arm_at, arms_at}
use Rattle.limbo_stmt_parser.proofs.Keep.{stmt_kept, arm_kept}

-- ---- {stmt} of a region

-- the statements so far, and what is left
abbrev pub Statements : ℕ → Region → List Kind → List code_stmt.Stmt → List Kind → Type 0
Statements b r ts front rest = Going view_stmt (stmt_at b) (ends b r) (until (stmt_at b) (ends b r) (suc (length ts)) ts) front rest

pub stmt_shorter : (b : ℕ) (ts : List Kind) (x : Stmt) (us : List Kind) → stmt_at b ts ≡ Ok (x, us) → length us < length ts
stmt_shorter b ts x us e = omega (arith, kept_shorter 0 1 (length ts) (stmt_at b ts) x us (stmt_kept b ts) e)

pub statements_start : (b : ℕ) (r : Region) (ts : List Kind) → Statements b r ts [] ts
statements_start b r ts = until_start view_stmt (stmt_at b) (ends b r) ts

pub statements_more : (b : ℕ) (r : Region) (ts : List Kind) (front : List code_stmt.Stmt) (rest vs : List Kind) (c : code_stmt.Stmt) → ends b r rest ≡ Ok false → stmt_at b rest ≡ Ok (view_stmt c, vs) → Statements b r ts front rest → Statements b r ts (front ++ (c ∷ [])) vs
statements_more b r ts front rest vs c n e state = going_more view_stmt (stmt_at b) (ends b r) _ front rest vs c n e (stmt_shorter b rest (view_stmt c) vs e) state

pub statements_end : (b : ℕ) (r : Region) (ts : List Kind) (front : List code_stmt.Stmt) (rest : List Kind) → ends b r rest ≡ Ok true → Statements b r ts front rest → stmts_at b (stmt_at b) r ts ≡ Ok (map view_stmt front, rest)
unfolding stmts_at
statements_end b r ts front rest e state = going_end view_stmt (stmt_at b) (ends b r) _ front rest e state

pub statements_fail : (e : ReadError) (b : ℕ) (r : Region) (ts : List Kind) (front : List code_stmt.Stmt) (rest : List Kind) → ends b r rest ≡ Ok false → Fails e (stmt_at b rest) → Statements b r ts front rest → Fails e (stmts_at b (stmt_at b) r ts)
unfolding stmts_at
statements_fail e b r ts front rest n f state = going_fails e view_stmt (stmt_at b) (ends b r) _ front rest n f state

pub statements_test_fails : (e : ReadError) (b : ℕ) (r : Region) (ts : List Kind) (front : List code_stmt.Stmt) (rest : List Kind) → Fails e (ends b r rest) → Statements b r ts front rest → Fails e (stmts_at b (stmt_at b) r ts)
unfolding stmts_at
statements_test_fails e b r ts front rest f state = going_test_fails e view_stmt (stmt_at b) (ends b r) _ front rest f state

-- ---- {arm} "}"

-- the arms so far, and what is left
abbrev pub Arms : {C : Type 0} → (C → Arm) → ℕ → Region → List Kind → List C → List Kind → Type 0
Arms view b r ts front rest = Going view (arm_at b (stmt_at b) r) closing (until (arm_at b (stmt_at b) r) closing (suc (length ts)) ts) front rest

arm_is : (b : ℕ) (r : Region) (ts us vs : List Kind) (h : Head) (ss : List Stmt) → front_at b r ts ≡ Ok (h, us) → stmts_at b (stmt_at b) r us ≡ Ok (ss, vs) → arm_at b (stmt_at b) r ts ≡ Ok (record { head = h; body = stmts_of ss }, vs)
unfolding arm_at
arm_is b r ts us vs h ss e f = rw (e, f) refl

pub arm_shorter : (b : ℕ) (r : Region) (ts us vs : List Kind) (h : Head) (ss : List Stmt) → front_at b r ts ≡ Ok (h, us) → stmts_at b (stmt_at b) r us ≡ Ok (ss, vs) → length vs < length ts
arm_shorter b r ts us vs h ss e f =
    omega (arith, kept_shorter 0 1 (length ts) (arm_at b (stmt_at b) r ts) (record { head = h; body = stmts_of ss }) vs (arm_kept b 0 (stmt_at b) r ts (omega arith) (stmt_kept b)) (arm_is b r ts us vs h ss e f))

not_closed : (ts : List Kind) → after_mark mark.CloseBrace ts ≡ None → closing ts ≡ Ok false
not_closed ts e = rw e refl

closed : (ts us : List Kind) → after_mark mark.CloseBrace ts ≡ Some us → closing ts ≡ Ok true
closed ts us e = rw e refl

pub arms_start : {C : Type 0} (view : C → Arm) (b : ℕ) (r : Region) (ts : List Kind) → Arms view b r ts [] ts
arms_start view b r ts = until_start view (arm_at b (stmt_at b) r) closing ts

pub arms_more : {C : Type 0} (view : C → Arm) (b : ℕ) (r : Region) (ts : List Kind) (front : List C) (rest us vs : List Kind) (h : Head) (ss : List Stmt) (c : C)
    → after_mark mark.CloseBrace rest ≡ None → front_at b r rest ≡ Ok (h, us) → stmts_at b (stmt_at b) r us ≡ Ok (ss, vs) → view c ≡ record { head = h; body = stmts_of ss }
    → Arms view b r ts front rest → Arms view b r ts (front ++ (c ∷ [])) vs
arms_more view b r ts front rest us vs h ss c n e f g state =
    going_more view (arm_at b (stmt_at b) r) closing _ front rest vs c (not_closed rest n) (arm_is b r rest us vs h ss e f ∙ ap (λ (a : Arm). Ok (a, vs)) (sym g)) (arm_shorter b r rest us vs h ss e f) state

pub arms_end : {C : Type 0} (view : C → Arm) (b : ℕ) (r : Region) (ts : List Kind) (front : List C) (rest us : List Kind) → after_mark mark.CloseBrace rest ≡ Some us → Arms view b r ts front rest → arms_at b (stmt_at b) r ts ≡ Ok (map view front, us)
unfolding arms_at
arms_end view b r ts front rest us e state =
    rw (going_end view (arm_at b (stmt_at b) r) closing _ front rest (closed rest us e) state, e) refl

arms_fail : {C : Type 0} (e : ReadError) (view : C → Arm) (b : ℕ) (r : Region) (ts : List Kind) (front : List C) (rest : List Kind) → after_mark mark.CloseBrace rest ≡ None → Fails e (arm_at b (stmt_at b) r rest) → Arms view b r ts front rest → Fails e (arms_at b (stmt_at b) r ts)
unfolding arms_at
arms_fail e view b r ts front rest n f state =
    fails_bind e (until (arm_at b (stmt_at b) r) closing (suc (length ts)) ts) _ (going_fails e view (arm_at b (stmt_at b) r) closing _ front rest (not_closed rest n) f state)

pub arms_front_fails : {C : Type 0} (e : ReadError) (view : C → Arm) (b : ℕ) (r : Region) (ts : List Kind) (front : List C) (rest : List Kind) → after_mark mark.CloseBrace rest ≡ None → Fails e (front_at b r rest) → Arms view b r ts front rest → Fails e (arms_at b (stmt_at b) r ts)
unfolding arm_at
arms_front_fails e view b r ts front rest n f state = arms_fail e view b r ts front rest n (fails_bind e (front_at b r rest) _ f) state

pub arms_body_fails : {C : Type 0} (e : ReadError) (view : C → Arm) (b : ℕ) (r : Region) (ts : List Kind) (front : List C) (rest us : List Kind) (h : Head) → after_mark mark.CloseBrace rest ≡ None → front_at b r rest ≡ Ok (h, us) → Fails e (stmts_at b (stmt_at b) r us) → Arms view b r ts front rest → Fails e (arms_at b (stmt_at b) r ts)
unfolding arm_at
arms_body_fails e view b r ts front rest us h n i f state = arms_fail e view b r ts front rest n (rw i (fails_bind e (stmts_at b (stmt_at b) r us) _ f)) state
