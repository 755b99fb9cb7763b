-- What is told of statements that are none.
use Rattle.std.proofs.Common.{◌≡◌, Some, sym, subst, Box, Global, Result, Ok, Err}
use Rattle.std.specs.Prelude.{IfOk, IfErr}
use Rattle.limbo_typed.specs.declared.stmt.TStmt as code_stmt
use Rattle.limbo_typed.specs.Typed.{Stmt}
use Rattle.limbo_typed.specs.View.{view_stmt}
use Rattle.limbo_causes.specs.declared.fault.Cause as code
use Rattle.limbo_causes.specs.declared.fault.Cause.TheVariants.{NoMemory}
use Rattle.limbo_causes.specs.Causes.{Cause, FailsBy}
use Rattle.limbo_causes.proofs.Telling.{fails_weaker}
use Rattle.limbo_stmt_values.specs.limbo_stating.Reasons.{Reason, ByPart}
use Rattle.limbo_tree.specs.Exprs.{Expr}
use Rattle.limbo_tree.specs.Stmts as tree
use Rattle.limbo_stmt_values.specs.limbo_local.Points.{Point}
use Rattle.limbo_stmt_values.specs.limbo_stating.Around.{Around}
use Rattle.limbo_stmt_values.specs.limbo_stating.FailsToState as fails
use Rattle.limbo_stmt_values.specs.limbo_stating.FailsToState.{FailsToState}
use Rattle.limbo_stmt_values.specs.Answering as answering
use Rattle.limbo_stmt_values.specs.Answering.{FailsToAnswer}
use Rattle.limbo_stmt_values.specs.declared.fault.StmtFault as code_fault
use Rattle.limbo_stmt_values.specs.declared.fault.Why.{Why}
use Rattle.limbo_stmt_values.specs.declared.fault.Why.TheVariants.{Part}
use Rattle.limbo_stmt_values.specs.Whys.{FailsFor}
use Rattle.limbo_stmt_values.proofs.Told.{part_told, reasons_weaker}

-- want of memory tells nothing
pub nothing_told : (w : Why) (P : Reason → Type 0) → w ≡ Part NoMemory → FailsFor w P
nothing_told w P e = subst (λ (z : Why). FailsFor z P) (sym e) tt

-- a part fails, and so the whole
pub by_part : (w : Why) (c : code.Cause) (P : Cause → Type 0) (Q : Reason → Type 0) → w ≡ Part c → ((k : Cause) → P k → Q (ByPart k))
    → FailsBy c P → FailsFor w Q
by_part w c P Q e rule h = part_told c w Q e (fails_weaker c P _ rule h)

-- a typed statement that is put into a box
pub made : (r : Result (Box code_stmt.TStmt Global) code_fault.StmtFault) (s : code_stmt.TStmt) (P : Stmt → Type 0) → P (view_stmt s)
    → IfOk r (λ b. b.value ≡ s) → IfOk r (λ b. P (view_stmt b.value))
made (Ok b) s P h e = subst (λ (z : code_stmt.TStmt). P (view_stmt z)) (sym e) h
made (Err f) s P h e = tt

-- one that is put together
pub put : (r : Result (Box code_stmt.TStmt Global) code_fault.StmtFault) (s : Stmt) (P : Stmt → Type 0) → P s
    → IfOk r (λ b. view_stmt b.value ≡ s) → IfOk r (λ b. P (view_stmt b.value))
put (Ok b) s P h e = subst P (sym e) h
put (Err f) s P h e = tt

pub put_with : (r : Result (Box code_stmt.TStmt Global) code_fault.StmtFault) (s : Stmt) (A : Type 0) (P : Stmt → Type 0) → (A → P s)
    → IfOk r (λ b. view_stmt b.value ≡ s) → IfOk r (λ b. A) → IfOk r (λ b. P (view_stmt b.value))
put_with (Ok b) s A P f e a = subst P (sym e) (f a)
put_with (Err f) s A P h e a = tt

-- what is refused for want of memory alone
pub free : {A : Type 0} (r : Result A code_fault.StmtFault) (P : Reason → Type 0) → IfErr r (λ f. f.why ≡ Part NoMemory)
    → IfErr r (λ f. FailsFor f.why P)
free (Ok a) P h = tt
free (Err f) P h = nothing_told f.why P h

-- what is refused for a reason that is weaker
pub weaker : {A : Type 0} (r : Result A code_fault.StmtFault) (P Q : Reason → Type 0) → ((k : Reason) → P k → Q k)
    → IfErr r (λ f. FailsFor f.why P) → IfErr r (λ f. FailsFor f.why Q)
weaker (Ok a) P Q rule h = tt
weaker (Err f) P Q rule h = reasons_weaker f.why P Q rule h

-- a value that is none of the answer
pub answer_fails : (v : Around) (p : Point) (e : Expr) (k : Cause) → FailsToAnswer v.answer p e k
    → FailsToState v p (tree.Return (Some e)) (ByPart k)
answer_fails v p e k (answering.no_value _ h) = fails.returned v p e k h
answer_fails v p e _ (answering.unfit x q r h w) = fails.returned_unfit v p q e x r h w
