-- The laws of the readers of types and of expressions.
use Rattle.std.proofs.Common.{◌≡◌, ℕ, ◌+◌, ◌≤◌, true, List, length, Ok, arith}
use Rattle.std.specs.Prelude.{IfOk}
use Rattle.limbo_lexer.specs.declared.token.Kind.{Kind}
use Rattle.limbo_tree.specs.Types.{Ty, spell_ty, ty_nesting, is_ty}
use Rattle.limbo_tree.specs.Exprs.{Expr, spell, nesting, IsAt}
use Rattle.limbo_reading.proofs.Steps.{Deepens, Keeps}
use Rattle.limbo_reading.proofs.Lists.{Took}
use Rattle.limbo_expr_parts.specs.Types.{ty_at}
use Rattle.limbo_expr_parser.specs.Exprs.{readers}
use Rattle.limbo_expr_parts.specs.Strength.{Stops, begins_expr, begins_ty}
use Rattle.limbo_expr_parts.proofs.Steps.{took_first}
use Rattle.limbo_expr_parts.proofs.TypeLaws as types
use Rattle.limbo_expr_parser.proofs.Shapes as shapes
use Rattle.limbo_expr_parser.proofs.Complete.{complete}
use Rattle.limbo_expr_parser.proofs.Sound.{sound}
use Rattle.limbo_expr_parser.proofs.Deep.{deeper}
use Rattle.limbo_expr_parser.proofs.Places.{keeping}

-- ---- types

pub ty_again : (b : ℕ) (t : Ty) (ts : List Kind) → is_ty t ≡ true → ty_nesting t ≤ b → Stops 0 ts → ty_at b (spell_ty t ts) ≡ Ok (t, ts)
ty_again = types.ty_again

pub ty_took : (b : ℕ) (ts : List Kind) → IfOk (ty_at b ts) (Took spell_ty (λ t. (is_ty t ≡ true) × (ty_nesting t ≤ b)) ts)
ty_took = types.ty_took

pub ty_deepens : (b c : ℕ) (ts : List Kind) → b ≤ c → Deepens (ty_at b ts) (ty_at c ts)
ty_deepens = types.ty_deepens

pub ty_keeps : (b : ℕ) (ts : List Kind) → Keeps b 1 (length ts) (ty_at b ts)
ty_keeps = types.ty_keeps

pub spell_ty_begins : (t : Ty) (ts : List Kind) → is_ty t ≡ true → begins_ty (spell_ty t ts) ≡ true
spell_ty_begins = types.spell_ty_begins

pub spell_ty_grows : (t : Ty) (ts : List Kind) → ty_nesting t + length ts ≤ length (spell_ty t ts)
spell_ty_grows = types.spell_ty_grows

-- ---- expressions

pub expr_again : (b : ℕ) (e : Expr) (ts : List Kind) → IsAt 13 e → nesting e ≤ b → Stops 13 ts → (readers b).expr (spell e ts) ≡ Ok (e, ts)
expr_again b e ts h d s = (complete b).expr e ts h d s

pub expr_took : (b : ℕ) (ts : List Kind) → IfOk ((readers b).expr ts) (Took spell (λ e. IsAt 13 e × (nesting e ≤ b)) ts)
expr_took b ts = (sound b).expr ts

pub expr_deepens : (b c : ℕ) (ts : List Kind) → b ≤ c → Deepens ((readers b).expr ts) ((readers c).expr ts)
expr_deepens b c ts le = (deeper b c le).expr ts

pub expr_keeps : (b : ℕ) (ts : List Kind) → Keeps b 1 (length ts) ((readers b).expr ts)
expr_keeps b ts = (keeping b).expr ts

-- ---- unaries

pub unary_again : (b : ℕ) (e : Expr) (ts : List Kind) → IsAt 0 e → nesting e ≤ b → Stops 0 ts → (readers b).chain 0 (spell e ts) ≡ Ok (e, ts)
unary_again b e ts h d s = (complete b).chain 0 e ts (omega arith) h d s

pub unary_took : (b : ℕ) (ts : List Kind) → IfOk ((readers b).chain 0 ts) (Took spell (λ e. IsAt 0 e × (nesting e ≤ b)) ts)
unary_took b ts = took_first (Took spell (λ e. IsAt 0 e × (nesting e ≤ b)) ts) _ ((readers b).chain 0 ts) ((sound b).chain 0 ts)

pub unary_deepens : (b c : ℕ) (ts : List Kind) → b ≤ c → Deepens ((readers b).chain 0 ts) ((readers c).chain 0 ts)
unary_deepens b c ts le = (deeper b c le).chain 0 ts

pub unary_keeps : (b : ℕ) (ts : List Kind) → Keeps b 1 (length ts) ((readers b).chain 0 ts)
unary_keeps b ts = (keeping b).chain 0 ts

-- ---- how expressions begin, and how long they are

pub spell_begins : (e : Expr) (ts : List Kind) → begins_expr (spell e ts) ≡ true
spell_begins = shapes.spell_begins

pub spell_grows : (e : Expr) (ts : List Kind) → nesting e + length ts ≤ length (spell e ts)
spell_grows = shapes.spell_grows
