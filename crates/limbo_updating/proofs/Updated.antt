-- What is put together by a row, or refused.
use Rattle.std.proofs.Common.{◌≡◌, Result, Option, Some, None, Box, Global, sym, ap, subst, ◌∙◌}
use Rattle.std.specs.Prelude.{IfSome, IfNone, IfOk, IfErr}
use Rattle.std.proofs.lemmas.Option.{same_Some}
use Rattle.std.proofs.lemmas.Result.{IfOk-weaker, IfErr-weaker}
use Rattle.limbo_types.specs.Types.{Ty}
use Rattle.limbo_types.specs.View.{view_ty}
use Rattle.limbo_tree.specs.declared.operators.AssignOp.{AssignOp}
use Rattle.limbo_typed.specs.Typed.{Expr, Of, Place, Read, Update}
use Rattle.limbo_typed.specs.declared.expr.TExpr as code_expr
use Rattle.limbo_typed.specs.View.{view_expr}
use Rattle.limbo_typed.specs.Sound.{type_of}
use Rattle.limbo_typed.proofs.View.{view_expr-out}
use Rattle.limbo_operands.specs.limbo_standing.Standing.{Settles}
use Rattle.limbo_operands.proofs.limbo_standing_lemmas.Settled.{settled_once}
use Rattle.limbo_refusals.specs.declared.fault.ExprFault.{ExprFault}
use Rattle.limbo_refusals.specs.Refusals.{Refusal, NotPlace, Refuses, NoneIs}
use Rattle.limbo_operands.specs.Operands.{IsPlace, place}
use Rattle.limbo_operands.proofs.Refused.{refuses_so}
use Rattle.limbo_operators.specs.Rows.{Row}
use Rattle.limbo_operators.proofs.Table.{update_found}
use Rattle.limbo_updating.specs.Updating.{HasUpdateRow, ByRow, as_asked, Updates, by_row, asked, RowlessFails, no_place, UpdatingFails, rowless, of_row}

-- the type of an expression of the code
pub type_in_view : (e : code_expr.TExpr) → type_of (view_expr e) ≡ view_ty e.ty
type_in_view e = ap type_of (view_expr-out e)

pub at : {A : Type 0} (P : A → Type 0) (x y : A) → x ≡ y → P x → P y
at P x y e h = subst P e h

pub both_at : {A B : Type 0} (P : A → B → Type 0) (x y : A) (u v : B) → x ≡ y → u ≡ v → P x u → P y v
both_at P x y u v e f h = subst (λ z. P y z) f (subst (λ z. P z u) e h)

pub some_is : {A : Type 0} (o : Option A) (x : A) (P : A → Type 0) → o ≡ Some x → IfSome o P → P x
some_is {A} o x P e h = subst (λ (z : Option A). IfSome z P) e h

pub none_is : {A : Type 0} (o : Option A) (P : Type 0) → o ≡ None → IfNone o P → P
none_is {A} o P e h = subst (λ (z : Option A). IfNone z P) e h

-- ---- by a row

pub by_row_so : (row : Row) (t : Ty) (p : Place) (e f x : Expr) → Settles row.right e f → x ≡ Of t (Update row.operation p f) → ByRow row t p e x
by_row_so row t p e f x h i = subst (λ (z : Expr). ByRow row t p e z) (sym i) (as_asked f h)

row_once : (o : AssignOp) (l e : Expr) (r s : Row) → HasUpdateRow o l e r → HasUpdateRow o l e s → r ≡ s
row_once o l e r s h i = same_Some r s (sym (update_found o (type_of l) (type_of e) r h) ∙ update_found o (type_of l) (type_of e) s i)

asked_once : (row : Row) (t : Ty) (p : Place) (e x y : Expr) → ByRow row t p e x → ByRow row t p e y → x ≡ y
asked_once row t p e _ _ (as_asked f h) (as_asked g i) = ap (λ z. Of t (Update row.operation p z)) (settled_once row.right e f g h i)

pub once : (o : AssignOp) (l e x y : Expr) → Updates o l e x → Updates o l e y → x ≡ y
once o _ _ _ _ (by_row t p e x row h b) (by_row _ _ _ y other i d) =
    asked_once row t p e x y b (subst (λ (z : Row). ByRow z t p e y) (row_once o (Of t (Read p)) e other row i h) d)

pub none_without : (o : AssignOp) (l e : Expr) → NoneIs (HasUpdateRow o l e) → NoneIs (Updates o l e)
none_without o _ _ none _ (by_row t p e x row h b) = none row h

pub none_of_no_place : (o : AssignOp) (l e : Expr) → (IsPlace l → ⊥) → NoneIs (Updates o l e)
none_of_no_place o _ _ never _ (by_row t p e x row h b) = never (place t p)

none_with : (o : AssignOp) (t : Ty) (p : Place) (e : Expr) (row : Row) → HasUpdateRow o (Of t (Read p)) e row → NoneIs (ByRow row t p e)
    → NoneIs (Updates o (Of t (Read p)) e)
none_with o t p e row h none _ (by_row _ _ _ x other i b) =
    none x (subst (λ (z : Row). ByRow z t p e x) (row_once o (Of t (Read p)) e other row i h) b)

-- ---- what is told

pub updated_so : {E : Type 0} (res : Result (Box code_expr.TExpr Global) E) (o : AssignOp) (l e : Expr) (t : Ty) (p : Place) (row : Row)
    → l ≡ Of t (Read p) → HasUpdateRow o l e row → IfOk res (λ x. ByRow row t p e (view_expr x.value)) → IfOk res (λ x. Updates o l e (view_expr x.value))
updated_so res o l e t p row is h i =
    subst (λ (z : Expr). IfOk res (λ x. Updates o z e (view_expr x.value))) (sym is)
    (IfOk-weaker res _ _ (λ x b. by_row t p e (view_expr x.value) row (subst (λ (z : Expr). HasUpdateRow o z e row) is h) b) i)

pub refused_so : {T : Type 0} (res : Result T ExprFault) (o : AssignOp) (l e : Expr) (t : Ty) (p : Place) (row : Row) → l ≡ Of t (Read p)
    → HasUpdateRow o l e row → IfErr res (λ f. Refuses f (λ q. (q ≡ asked row) × NoneIs (ByRow row t p e)))
    → IfErr res (λ f. Refuses f (λ q. UpdatingFails o l e q × NoneIs (Updates o l e)))
refused_so res o l e t p row is h i =
    let k : HasUpdateRow o (Of t (Read p)) e row = subst (λ (z : Expr). HasUpdateRow o z e row) is h in
    IfErr-weaker res _ _
    (λ f j. refuses_so f _ _
    (λ q m. (
      subst (λ (z : Refusal). UpdatingFails o l e z) (sym m.0) (of_row row h),
      subst (λ (z : Expr). NoneIs (Updates o z e)) (sym is) (none_with o t p e row k m.1),
    )) j) i

pub rowless_so : (f : ExprFault) (o : AssignOp) (l e : Expr) → NoneIs (HasUpdateRow o l e) → Refuses f (RowlessFails l e)
    → Refuses f (λ q. UpdatingFails o l e q × NoneIs (Updates o l e))
rowless_so f o l e none h = refuses_so f _ _ (λ q r. (rowless q r, none_without o l e none)) h

pub not_place_so : (o : AssignOp) (l e : Expr) → (IsPlace l → ⊥) → UpdatingFails o l e NotPlace × NoneIs (Updates o l e)
not_place_so o l e never = (rowless NotPlace (no_place never), none_of_no_place o l e never)
