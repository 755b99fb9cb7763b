-- The statements of a function's block.
use Rattle.std.proofs.Common.{◌≡◌, ◌≢◌, Vec, Global, refl, sym, subst}
use Rattle.limbo_tree.specs.Stmts as written
use Rattle.limbo_types.specs.Types.{Nothing}
use Rattle.limbo_typed.specs.declared.stmt.TStmt as code_stmt
use Rattle.limbo_typed.specs.declared.stmt.TStmt.TheVariants as make
use Rattle.limbo_typed.specs.Typed as tree
use Rattle.limbo_typed.specs.Typed.{Stmt, Stmts}
use Rattle.limbo_typed.specs.View.{view_stmt}
use Rattle.limbo_paths.specs.Paths.{Answers}
use Rattle.limbo_paths.proofs.Forms.{HasForm, has_form}
use Rattle.limbo_stmt_values.specs.limbo_local.Points.{Point}
use Rattle.limbo_stmt_values.specs.limbo_stating.Reasons.{NoReturn}
use Rattle.limbo_stmt_values.specs.limbo_stating.Around.{Around}
use Rattle.limbo_stmt_values.specs.limbo_stating.Stating.{StatesBlock, one}
use Rattle.limbo_stmt_values.specs.limbo_stating.FailsToState.{FailsBlock}
use Rattle.limbo_stmt_values.specs.limbo_stating.Functions.{body_of}
use Rattle.limbo_stmt_values.specs.declared.fault.Why.{Why}
use Rattle.limbo_stmt_values.specs.Whys.{FailsFor}
use Rattle.limbo_stmt_values.proofs.Told.{reasons_weaker}
use Rattle.limbo_functions.specs.Bodies as bodies
use Rattle.limbo_functions.specs.Bodies.{FailsBody}

-- What is no block is one statement.
pub one_alone : (s : code_stmt.TStmt) → ((zs : Vec code_stmt.TStmt Global) → s ≡ make.Block zs → ⊥)
    → one (view_stmt s) ≡ body_of (view_stmt s)
one_alone s n = go (view_stmt s) (has_form s)
  where
    go : (t : Stmt) → HasForm s t → one t ≡ body_of t
    go (tree.Block zs) h = absurd (n h.0 h.1)
    go _ h = refl

module _ (v : Around) (p : Point) (b : written.Block) where
  pub block_fails : (w : Why) → FailsFor w (FailsBlock v p b) → FailsFor w (FailsBody v p b)
  block_fails w h = reasons_weaker w _ _ (λ k g. bodies.in_block k g) h

  pub answer_lacks : (w : Why) (z : Stmt) (q : Point) → StatesBlock v p b z q
      → FailsFor w (λ k. (k ≡ NoReturn) × (v.answer ≢ Nothing) × (Answers q.context.adts (body_of z) → ⊥)) → FailsFor w (FailsBody v p b)
  answer_lacks w z q states h =
      reasons_weaker w _ _ (λ k g. subst (FailsBody v p b) (sym g.0) (bodies.no_answer z q g.1 states g.2)) h
