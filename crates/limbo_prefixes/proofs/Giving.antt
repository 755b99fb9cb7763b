-- The rows give what operations give.
use Rattle.std.proofs.Common.{List, [], ◌∷◌, refl}
use Rattle.limbo_types.specs.Types.{Ty}
use Rattle.limbo_layout.specs.Adts.{Def}
use Rattle.limbo_tree.specs.declared.operators.UnaryOp.{UnaryOp}
use Rattle.limbo_typed.specs.Fitting.{Gives}
use Rattle.limbo_prefixes.specs.Rows.{OneRow, UnaryRow, BytesRow}
use Rattle.limbo_prefixes.specs.Rows as rule

pub unary_gives : (defs : List Def) (o : UnaryOp) (t : Ty) (r : OneRow) → UnaryRow defs o t r
    → Gives defs r.operation (r.operand ∷ []) r.result
unary_gives defs _ _ _ (rule.altered o u k h) = (refl, refl)
unary_gives defs _ _ _ rule.denied = (refl, refl)
unary_gives defs _ _ _ (rule.head t h) = refl
unary_gives defs _ _ _ (rule.tail t h) = (tt, refl)
unary_gives defs _ _ _ (rule.UnaryRow.length s t h k) = (h, refl)
unary_gives defs _ _ _ (rule.tag n t h p) = (n, h, p, refl)
unary_gives defs _ _ _ (rule.converted o from to h) = (refl, refl)
unary_gives defs _ _ _ (rule.read_number o to t h n p) = (refl, refl)
unary_gives defs _ _ _ (rule.number_text k) = (refl, refl)
unary_gives defs _ _ _ rule.bytes_text = (refl, refl)
unary_gives defs _ _ _ rule.nil_text = (refl, refl)

pub bytes_give : (defs : List Def) (t : Ty) (r : OneRow) → BytesRow t r → Gives defs r.operation (r.operand ∷ []) r.result
bytes_give defs _ _ (rule.text_bytes t h) = (refl, refl)
