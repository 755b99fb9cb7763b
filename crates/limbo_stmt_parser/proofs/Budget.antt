-- The reader of statements with a budget that is not used up, and with one that is.
use Rattle.std.proofs.Common.{◌≡◌, ℕ, zero, suc, ◌-◌, List, length, Err, refl, arith}
use Rattle.limbo_lexer.specs.declared.token.Kind.{Kind}
use Rattle.limbo_reading.specs.declared.fault.Fault.TheVariants.{TooDeep}
use Rattle.limbo_stmt_parts.specs.Start.{start}
use Rattle.limbo_stmt_parser.specs.Stmts.{stmt_at, begun}

pub stmt_used : (n : ℕ) (ts : List Kind) → n ≡ 0 → stmt_at n ts ≡ Err (TooDeep (length ts))
unfolding stmt_at
stmt_used zero ts h = refl
stmt_used (suc n) ts h = absurd (omega arith)

pub stmt_left : (n : ℕ) (ts : List Kind) → (n ≡ 0 → ⊥) → stmt_at n ts ≡ begun (n - 1) (stmt_at (n - 1)) (start ts) ts
unfolding stmt_at
stmt_left zero ts h = absurd (h refl)
stmt_left (suc n) ts h = let e : suc n - 1 ≡ n = omega arith in rw e refl

pub ruleset the_stmt_budget = (stmt_used, stmt_left)
