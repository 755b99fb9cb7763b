use Rattle.std.proofs.Common.{rules, ◌≡◌, ◌∷◌, [], sym, ap, ◌∙◌}
use Rattle.std.proofs.lemmas.Result.{IfOk-weaker}
use Rattle.std.proofs.lemmas.Int.{to_z-of_z}
use mir.Syntax.{w64}
use mir.Val.{SFits}
use Rattle.limbo_types.specs.Types as ty
use Rattle.limbo_types.specs.View.{view_ty}
use Rattle.limbo_types.proofs.View.{view_ty-Byte}
use Rattle.limbo_typed.specs.declared.stmt.Constant.TheVariants as constant
use Rattle.dis_objects.specs.Objects.{word_item}
use Rattle.value_code.specs.Objects.{byte_item, initial_items}
use Rattle.value_tables.proofs.Others.{begins_in_word}
use Rattle.value_tables.proofs.items.initial_item.Goals as goal

pub returns-in-Byte-clause-item : goal.returns-in-Byte-clause-item
returns-in-Byte-clause-item c m =
    let z = c.in-Number.number in
    let at = c.args.offset in
    let fits : SFits w64 z = search rules in
    let is : view_ty c.args.ty.now ≡ ty.Byte = ap view_ty c.in-Byte.is ∙ view_ty-Byte in
    IfOk-weaker c.byte_item.result _ _ (λ item e.
    ap (λ x. x ∷ []) e ∙ ap (λ y. byte_item m at y ∷ []) (to_z-of_z w64 z fits)
    ∙ ap (λ t. initial_items m t at (constant.Number z)) (sym is)
    ∙ ap (λ v. initial_items m (view_ty c.args.ty.now) at v) (sym c.in-Number.is)) (c.byte_item.ensures.item m)

pub returns-in_default : goal.returns-in_default
returns-in_default c =
    let z = c.in-Number.number in
    let at = c.args.offset in
    let fits : SFits w64 z = search rules in
    record {
      item = λ m. IfOk-weaker c.word_item.result _ _ (λ item e.
          ap (λ x. x ∷ []) e ∙ ap (λ y. word_item at y ∷ []) (to_z-of_z w64 z fits)
          ∙ begins_in_word m c.args.ty.now at z c.in_default.not-Byte c.in_default.not-Big
          ∙ ap (λ v. initial_items m (view_ty c.args.ty.now) at v) (sym c.in-Number.is)) c.word_item.ensures.item;
      spelled = c.word_item.ensures.spelled;
    }
