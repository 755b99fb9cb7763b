use Rattle.std.proofs.Common.{rules, ◌≡◌, ◌∷◌, [], sym, ap, ◌∙◌, subst}
use Rattle.std.proofs.lemmas.Result.{IfOk-weaker}
use Rattle.std.proofs.lemmas.Int.{to_z-of_z}
use mir.Syntax.{w64}
use mir.Val.{SFits}
use Rattle.limbo_types.specs.Types as ty
use Rattle.limbo_types.specs.View.{view_ty}
use Rattle.limbo_types.proofs.View.{view_ty-Big}
use Rattle.limbo_typed.specs.declared.stmt.Constant.TheVariants as constant
use Rattle.value_code.specs.Data.{Word, Long}
use Rattle.value_code.specs.Code.{constant_data}
use Rattle.value_tables.specs.Growing.{GrowsBy}
use Rattle.value_tables.proofs.Others.{is_word}
use Rattle.value_tables.proofs.store.put_constant.Goals as goal

pub returns-in-Big-clause-data : goal.returns-in-Big-clause-data
returns-in-Big-clause-data c m =
    let z = c.in-Number.number in
    let fits : SFits w64 z = search rules in
    let is : view_ty c.args.ty.now ≡ ty.Big = ap view_ty c.in-Big.is ∙ view_ty-Big in
    IfOk-weaker c.put_long.result _ _ (λ x g.
    subst (λ ds. GrowsBy m c.args.store.now c.put_long.new.store ds)
    (ap (λ y. Long y ∷ []) (to_z-of_z w64 z fits) ∙ ap (λ t. constant_data t (constant.Number z)) (sym is)
    ∙ ap (λ v. constant_data (view_ty c.args.ty.now) v) (sym c.in-Number.is)) g) (c.put_long.ensures.data m)

pub returns-in_default-clause-data : goal.returns-in_default-clause-data
returns-in_default-clause-data c m =
    let z = c.in-Number.number in
    let fits : SFits w64 z = search rules in
    IfOk-weaker c.put_word.result _ _ (λ x g.
    subst (λ ds. GrowsBy m c.args.store.now c.put_word.new.store ds)
    (ap (λ y. Word y ∷ []) (to_z-of_z w64 z fits) ∙ is_word c.args.ty.now z c.in_default.not-Big
    ∙ ap (λ v. constant_data (view_ty c.args.ty.now) v) (sym c.in-Number.is)) g) (c.put_word.ensures.data m)
