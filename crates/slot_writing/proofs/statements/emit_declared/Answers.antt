use Rattle.std.proofs.Common.{arith, ◌≡◌, pos, ◌++◌, map, refl, sym, ap, ◌∙◌}
use Rattle.std.specs.Int.{int_wrap}
use Rattle.limbo_types.proofs.View.{view_ty-Int}
use Rattle.limbo_typed.specs.View.{view_expr, view_boxed}
use Rattle.limbo_typed.proofs.View.{view_boxed-None, view_boxed-Some}
use Rattle.typed_meaning.specs.Program.{term_of, local, declared_value}
use Rattle.limbo_types.specs.Types.{Ty, Int}
use Rattle.system_model.specs.Values.{Value, Num, zero_value}
use Rattle.typed_meaning.specs.Values.{fitted}
use Rattle.typed_meaning.specs.Trees.{Literal}
use Rattle.typed_lower.specs.Kinds.{leaf}
use Rattle.typed_lower.specs.Sizes.{optional_size}
use Rattle.typed_lower.specs.Statements.{sets}
use Rattle.slot_writing.specs.Loops.{types_of}
use Rattle.slot_writing.specs.Weights.{weight}
use Rattle.slot_writing.specs.Written.{written}
use Rattle.slot_writing.proofs.Weighed.{weight_size}
use Rattle.slot_writing.proofs.statements.emit_declared.Goals as goal

zero_fits : fitted Int (Num (pos 0)) ≡ zero_value
unfolding int_wrap
zero_fits = refl

pub emit_sets-requires-in-Some : goal.emit_sets-requires-in-Some
emit_sets-requires-in-Some c =
    let same = ap weight (c.term_of.ensures ∙ ap (λ x. term_of (view_expr x)) c.deref.ensures) in
    let size = ap optional_size (ap view_boxed c.in-Some.is ∙ view_boxed-Some c.in-Some.e) in
    omega (arith, same, size, weight_size (view_expr c.in-Some.e.value))

pub returns-in-None : goal.returns-in-None
returns-in-None c =
    let base = written c.args.code.now.items in
    let ts = types_of c.args.variables.now in
    let ps = map (local ts) c.args.declared.now in
    let same = ap (λ (u : Ty). sets ps (Literal u (fitted u (Num (pos 0)))) (leaf (Literal u (fitted u (Num (pos 0))))) ++ base) view_ty-Int
    ∙ ap (λ (z : Value). sets ps (Literal Int z) (leaf (Literal Int z)) ++ base) zero_fits
    ∙ ap (λ x. sets ps (declared_value ts x) (leaf (declared_value ts x)) ++ base) (sym (ap view_boxed c.in-None.is ∙ view_boxed-None)) in
    rw (← same) c.emit_sets.ensures

pub returns-in-Some : goal.returns-in-Some
returns-in-Some c =
    let base = written c.args.code.now.items in
    let ts = types_of c.args.variables.now in
    let ps = map (local ts) c.args.declared.now in
    let same = ap (λ t. sets ps t (leaf t) ++ base) (c.term_of.ensures ∙ ap (λ x. term_of (view_expr x)) c.deref.ensures)
    ∙ ap (λ x. sets ps (declared_value ts x) (leaf (declared_value ts x)) ++ base)
    (sym (ap view_boxed c.in-Some.is ∙ view_boxed-Some c.in-Some.e)) in
    rw (← same) c.emit_sets-in-Some.ensures
