use Rattle.std.proofs.Common.{arith, ◌≡◌, ◌+◌, List, ◌∷◌, map, drop, sym, ap, ◌∙◌}
use Rattle.std.specs.Int.{next_multiple_of}
use Rattle.std.proofs.lemmas.List.{at_drop_more}
use Rattle.limbo_types.specs.View.{view_ty}
use Rattle.limbo_typed.specs.declared.module.TVar.{TVar}
use Rattle.limbo_typed.specs.View.{view_var}
use Rattle.slot_code.specs.Layout.{size_of, place_for, end_of}
use Rattle.typed_lower.specs.Statements.{number_kind}
use Rattle.slot_writing.proofs.Laid.{end_grows}
use Rattle.slot_writing.proofs.sizes.variables_end.Goals as goal

pub returns-then-end-gt-LARGEST_FRAME : goal.returns-then-end-gt-LARGEST_FRAME
returns-then-end-gt-LARGEST_FRAME c =
    let vs = c.args.variables.now in
    let i = c.loop-variable.variable-index in
    let v = c.variable-item.result in
    let e = c.loop-variable.end in
    let f = λ (xs : List TVar). map (λ v. number_kind v.ty) (map view_var xs) in
    let k = number_kind (view_ty v.ty) in
    let at : f (drop i vs) ≡ k ∷ f (drop (i + 1) vs) =
    at_drop_more f vs i v c.loop-variable-test.true ∙ ap (λ (x : TVar). number_kind (view_ty x.ty) ∷ f (drop (i + 1) vs))
    (sym c.variable-item.is) in
    let s : c.size_of-size.result ≡ size_of k = c.size_of-size.ensures ∙ ap size_of c.number_kind.ensures in
    let p : c.next_multiple_of.result ≡ next_multiple_of e (size_of k) = c.next_multiple_of.ensures.value ∙ ap (next_multiple_of e) s in
    let grows = end_grows (place_for k e + size_of k) (f (drop (i + 1) vs)) in
    omega (arith, ap (end_of e) at, c.loop-variable.invariant.on, s, p, grows)
