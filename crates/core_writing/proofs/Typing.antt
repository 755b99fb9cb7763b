-- As of which type values stand in their slots.
use Rattle.std.proofs.Common.{◌≡◌, ℕ, zero, suc, ◌+◌, ◌<◌, ◌≤◌, List, [], ◌∷◌, ◌++◌, map, drop, length, get_or, refl, sym, ap, ◌∙◌, arith}
use Rattle.std.proofs.Common.{add-one, append_assoc}
use Rattle.std.proofs.Math.Seq.{drop-cons}
use Rattle.std.proofs.lemmas.List.{map-append}
use Rattle.limbo_layout.specs.Adts.{Def}
use Rattle.limbo_types.specs.Types.{Nothing}
use Rattle.limbo_types.specs.View.{view_ty}
use Rattle.limbo_types.specs.declared.ty.Ty as code_ty
use Rattle.limbo_typed.specs.declared.expr.TExpr as code_expr
use Rattle.limbo_typed.specs.declared.expr.TNode.TheVariants as make
use Rattle.limbo_typed.specs.View.{view_expr, view_pattern}
use Rattle.limbo_meaning.specs.Evaluation.{operands_for}
use Rattle.limbo_meaning.specs.Program.{term_of, aims_in}
use Rattle.core_frames.specs.Sizes.{expr_size}
use Rattle.core_code.specs.Terms.{type_of, type_at, types_in}
use Rattle.core_writing.specs.declared.operands.Operand.{Operand}
use Rattle.core_writing.specs.Operands.{terms_in, operands_in, operands_size, view_operand}
use Rattle.core_writing.proofs.Forms.{Boxed, PatternIn, seen_assign, seen_copy}

pub type_assign : (defs : List Def) (e : code_expr.TExpr) (q : PatternIn) (f : Boxed) → e.node ≡ make.Assign q f
    → type_at defs (operands_for (aims_in [] (view_pattern q.value))) (operands_in (term_of (view_expr e)))
    ≡ type_of defs (term_of (view_expr e))
type_assign defs e q f at = rw (seen_assign e q f at) refl

pub type_copy : (defs : List Def) (e v : code_expr.TExpr) (a i f : Boxed) → e.node ≡ make.Copy a i f → v ≡ f.value
    → type_of defs (term_of (view_expr v)) ≡ type_of defs (term_of (view_expr e))
type_copy defs e v a i f at ev = rw (seen_copy e a i f at, ev) refl

type_behind : (defs : List Def) (n : ℕ) (os : List Operand) → type_at defs n (terms_in os) ≡ type_at defs 0 (terms_in (drop n os))
type_behind defs zero os = refl
type_behind defs (suc n) [] = refl
type_behind defs (suc n) (o ∷ os) = type_behind defs n os

pub size_behind : (defs : List Def) (n : ℕ) (os : List Operand) → operands_size defs (drop n os) ≤ operands_size defs os
size_behind defs zero os = omega arith
size_behind defs (suc n) [] = omega arith
size_behind defs (suc n) (o ∷ os) = let l = size_behind defs n os in omega (arith, l)

pub type_none : (defs : List Def) (n : ℕ) (os rest : List Operand) → rest ≡ drop n os → rest ≡ []
    → Nothing ≡ type_at defs n (terms_in os)
type_none defs n os rest e none = sym (type_behind defs n os ∙ ap (λ us. type_at defs 0 (terms_in us)) (sym e ∙ none))

pub type_first : (defs : List Def) (n : ℕ) (os rest more : List Operand) (o : Operand) → rest ≡ drop n os → rest ≡ o ∷ more
    → type_of defs (view_operand o) ≡ type_at defs n (terms_in os)
type_first defs n os rest more o e first =
    sym (type_behind defs n os ∙ ap (λ us. type_at defs 0 (terms_in us)) (sym e ∙ first))

pub size_first : (defs : List Def) (n : ℕ) (os rest more : List Operand) (o : Operand) → rest ≡ drop n os → rest ≡ o ∷ more
    → expr_size defs (view_expr o.expr.now) ≤ operands_size defs os
size_first defs n os rest more o e first =
    let a = size_behind defs n os in
    let b = ap (operands_size defs) (sym e ∙ first) in
    omega (arith, a, b)

-- ---- operands in a row

pub operand_next : (os : List Operand) (i : ℕ) (o : Operand) → i < length os → o ≡ get_or os i o → drop i os ≡ o ∷ drop (i + 1) os
operand_next os i o below at =
    drop-cons os i o below ∙ ap (λ x. x ∷ drop (suc i) os) (sym at) ∙ ap (λ k. o ∷ drop k os) (sym (add-one i))

pub types_on : (defs : List Def) (os : List Operand) (i : ℕ) (o : Operand) (ts next : List code_ty.Ty) (t : code_ty.Ty) → i < length os
    → o ≡ get_or os i o → view_ty t ≡ type_of defs (view_operand o) → next ≡ ts ++ t ∷ []
    → map view_ty next ++ types_in defs (terms_in (drop (i + 1) os)) ≡ map view_ty ts ++ types_in defs (terms_in (drop i os))
types_on defs os i o ts next t below at et en =
    let left = types_in defs (terms_in (drop (i + 1) os)) in
    rw (en, operand_next os i o below at, ← et) (ap (λ us. us ++ left) (map-append view_ty ts (t ∷ []))
    ∙ append_assoc (map view_ty ts) (view_ty t ∷ []) left)
