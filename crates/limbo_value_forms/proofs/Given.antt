-- What operators give of typed operands, and why they give nothing.
use Rattle.std.proofs.Common.{◌≡◌, Result, List, Box, Global, refl, sym, ap, ◌∙◌, subst}
use Rattle.std.specs.Prelude.{IfOk, IfErr}
use Rattle.std.proofs.lemmas.Result.{IfOk-weaker, IfErr-weaker}
use Rattle.limbo_types.specs.View.{view_ty}
use Rattle.limbo_layout.specs.Adts.{Def}
use Rattle.limbo_tree.specs.declared.operators.AssignOp.{AssignOp}
use Rattle.limbo_tree.specs.declared.operators.AssignOp.TheVariants as assign
use Rattle.limbo_tree.specs.declared.operators.UnaryOp.{UnaryOp}
use Rattle.limbo_tree.specs.declared.operators.UnaryOp.TheVariants as before
use Rattle.limbo_typed.specs.declared.expr.TExpr as code_expr
use Rattle.limbo_typed.specs.Typed.{Expr}
use Rattle.limbo_typed.specs.View.{view_expr}
use Rattle.limbo_typed.specs.Sound.{type_of}
use Rattle.limbo_refusals.specs.declared.fault.ExprFault.{ExprFault}
use Rattle.limbo_refusals.specs.Refusals.{Refusal, Clash, Refuses, NoneIs}
use Rattle.limbo_literals.proofs.limbo_arguments_lemmas.Faults.{refuses_weaker}
use Rattle.limbo_context.specs.Context.{Context}
use Rattle.limbo_channels.specs.Channels.{Sends}
use Rattle.limbo_combining.specs.Combining.{Operates, OperandClashes, HasOneRow}
use Rattle.limbo_updating.proofs.Updated.{type_in_view}
use Rattle.limbo_updating.specs.Updating.{Updates, UpdatingFails}
use Rattle.limbo_value_forms.specs.Forms.{Before, itself, RefusesBefore, Gives, RefusesGives}

-- ---- what is told of types, said of values

pub of_itself : (f : ExprFault) (e : code_expr.TExpr) (N : Type 0) → Refuses f (λ r. (r ≡ Clash (view_ty e.ty) (view_ty e.ty)) × N)
    → Refuses f (λ r. (r ≡ itself (view_expr e)) × N)
of_itself f e N h = refuses_weaker f _ _ (λ r p. (p.0 ∙ ap (λ z. Clash z z) (sym (type_in_view e)), p.1)) h

pub of_both : (f : ExprFault) (d e : code_expr.TExpr) (N : Type 0) → Refuses f (λ r. (r ≡ Clash (view_ty d.ty) (view_ty e.ty)) × N)
    → Refuses f (λ r. (r ≡ Clash (type_of (view_expr d)) (type_of (view_expr e))) × N)
of_both f d e N h =
    refuses_weaker f _ _
    (λ r p. (p.0 ∙ sym (ap (λ z. Clash (type_of (view_expr d)) z) (type_in_view e) ∙ ap (λ z. Clash z (view_ty e.ty)) (type_in_view d)), p.1)) h

pub itself_refused : {T : Type 0} (res : Result T ExprFault) (e : code_expr.TExpr) (N : Type 0)
    → IfErr res (λ f. Refuses f (λ r. (r ≡ Clash (view_ty e.ty) (view_ty e.ty)) × N))
    → IfErr res (λ f. Refuses f (λ r. (r ≡ itself (view_expr e)) × N))
itself_refused res e N h = IfErr-weaker res _ _ (λ f i. of_itself f e N i) h

pub both_refused : {T : Type 0} (res : Result T ExprFault) (d e : code_expr.TExpr) (N : Type 0)
    → IfErr res (λ f. Refuses f (λ r. (r ≡ Clash (view_ty d.ty) (view_ty e.ty)) × N))
    → IfErr res (λ f. Refuses f (λ r. (r ≡ Clash (type_of (view_expr d)) (type_of (view_expr e))) × N))
both_refused res d e N h = IfErr-weaker res _ _ (λ f i. of_both f d e N i) h

-- ---- what is said of an operator, said of the one that stands there

pub as_given : {E : Type 0} (res : Result (Box code_expr.TExpr Global) E) (c : Context) (o p : UnaryOp) (x : Expr) → o ≡ p
    → IfOk res (λ e. Before c p x (view_expr e.value)) → IfOk res (λ e. Before c o x (view_expr e.value))
as_given res c o p x same h = subst (λ (z : UnaryOp). IfOk res (λ e. Before c z x (view_expr e.value))) (sym same) h

pub as_refused : {T : Type 0} (res : Result T ExprFault) (c : Context) (o p : UnaryOp) (x : Expr) → o ≡ p
    → IfErr res (λ f. Refuses f (λ r. RefusesBefore c p x r × NoneIs (Before c p x)))
    → IfErr res (λ f. Refuses f (λ r. RefusesBefore c o x r × NoneIs (Before c o x)))
as_refused res c o p x same h =
    subst (λ (z : UnaryOp). IfErr res (λ f. Refuses f (λ r. RefusesBefore c z x r × NoneIs (Before c z x)))) (sym same) h

pub sent : {E : Type 0} (res : Result (Box code_expr.TExpr Global) E) (o : AssignOp) (x y : Expr) → o ≡ assign.Send
    → IfOk res (λ e. Sends x y (view_expr e.value)) → IfOk res (λ e. Gives o x y (view_expr e.value))
sent res o x y same h = subst (λ (z : AssignOp). IfOk res (λ e. Gives z x y (view_expr e.value))) (sym same) h

pub not_sent : {T : Type 0} (res : Result T ExprFault) (o : AssignOp) (d e : code_expr.TExpr) → o ≡ assign.Send
    → IfErr res (λ f. Refuses f (λ r. (r ≡ Clash (view_ty d.ty) (view_ty e.ty)) × NoneIs (Sends (view_expr d) (view_expr e))))
    → IfErr res (λ f. Refuses f (λ r. RefusesGives o (view_expr d) (view_expr e) r × NoneIs (Gives o (view_expr d) (view_expr e))))
not_sent res o d e same h =
    subst
    (λ (z : AssignOp). IfErr res (λ f. Refuses f (λ r. RefusesGives z (view_expr d) (view_expr e) r × NoneIs (Gives z (view_expr d) (view_expr e)))))
    (sym same) (both_refused res d e (NoneIs (Sends (view_expr d) (view_expr e))) h)

-- ---- operators that have no rule of their own

-- an operator that is an operation on a value
pub record IsOther (o : UnaryOp) : Type 0 where
  pub no_target : o ≡ before.Deref → ⊥
  pub no_reference : o ≡ before.Ref → ⊥
  pub no_receive : o ≡ before.Receive → ⊥
  pub no_increment : o ≡ before.Increment → ⊥
  pub no_decrement : o ≡ before.Decrement → ⊥

module _ (c : Context) where
  gives : (o : UnaryOp) → IsOther o → (x z : Expr) → Operates c.adts o x z → Before c o x z
  gives before.Deref n x z h = absurd (n.no_target refl)
  gives before.Ref n x z h = absurd (n.no_reference refl)
  gives before.Receive n x z h = absurd (n.no_receive refl)
  gives before.Increment n x z h = absurd (n.no_increment refl)
  gives before.Decrement n x z h = absurd (n.no_decrement refl)
  gives _ n x z h = h

  given_by : (o : UnaryOp) → IsOther o → (x z : Expr) → Before c o x z → Operates c.adts o x z
  given_by before.Deref n x z h = absurd (n.no_target refl)
  given_by before.Ref n x z h = absurd (n.no_reference refl)
  given_by before.Receive n x z h = absurd (n.no_receive refl)
  given_by before.Increment n x z h = absurd (n.no_increment refl)
  given_by before.Decrement n x z h = absurd (n.no_decrement refl)
  given_by _ n x z h = h

  clashes : (o : UnaryOp) → IsOther o → (x : Expr) (r : Refusal) → OperandClashes (HasOneRow c.adts o x) x r → RefusesBefore c o x r
  clashes before.Deref n x r h = absurd (n.no_target refl)
  clashes before.Ref n x r h = absurd (n.no_reference refl)
  clashes before.Receive n x r h = absurd (n.no_receive refl)
  clashes before.Increment n x r h = absurd (n.no_increment refl)
  clashes before.Decrement n x r h = absurd (n.no_decrement refl)
  clashes _ n x r h = h

  pub operated : {E : Type 0} (res : Result (Box code_expr.TExpr Global) E) (o : UnaryOp) → IsOther o → (x : Expr) (defs : List Def) → defs ≡ c.adts
      → IfOk res (λ e. Operates defs o x (view_expr e.value)) → IfOk res (λ e. Before c o x (view_expr e.value))
  operated res o n x defs same h =
      IfOk-weaker res _ _ (λ e i. gives o n x (view_expr e.value) (subst (λ (z : List Def). Operates z o x (view_expr e.value)) same i)) h

  refuses_other : (o : UnaryOp) → IsOther o → (x : Expr) (defs : List Def) → defs ≡ c.adts → (r : Refusal)
      → OperandClashes (HasOneRow defs o x) x r × NoneIs (Operates defs o x) → RefusesBefore c o x r × NoneIs (Before c o x)
  refuses_other o n x defs same r i =
      let j : OperandClashes (HasOneRow c.adts o x) x r × NoneIs (Operates c.adts o x) =
      subst (λ (z : List Def). OperandClashes (HasOneRow z o x) x r × NoneIs (Operates z o x)) same i in
      (clashes o n x r j.0, λ z k. j.1 z (given_by o n x z k))

  pub not_operated : {T : Type 0} (res : Result T ExprFault) (o : UnaryOp) → IsOther o → (x : Expr) (defs : List Def) → defs ≡ c.adts
      → IfErr res (λ f. Refuses f (λ r. OperandClashes (HasOneRow defs o x) x r × NoneIs (Operates defs o x)))
      → IfErr res (λ f. Refuses f (λ r. RefusesBefore c o x r × NoneIs (Before c o x)))
  not_operated res o n x defs same h =
      IfErr-weaker res _ _
      (λ f j. refuses_weaker f _ _ (λ r i. refuses_other o n x defs same r i) j) h

-- ---- assignments with an operator

updates : (o : AssignOp) → (o ≡ assign.Send → ⊥) → (x y z : Expr) → Updates o x y z → Gives o x y z
updates assign.Send n x y z h = absurd (n refl)
updates _ n x y z h = h

updated_by : (o : AssignOp) → (o ≡ assign.Send → ⊥) → (x y z : Expr) → Gives o x y z → Updates o x y z
updated_by assign.Send n x y z h = absurd (n refl)
updated_by _ n x y z h = h

updating_fails : (o : AssignOp) → (o ≡ assign.Send → ⊥) → (x y : Expr) (r : Refusal) → UpdatingFails o x y r → RefusesGives o x y r
updating_fails assign.Send n x y r h = absurd (n refl)
updating_fails _ n x y r h = h

pub updated : {E : Type 0} (res : Result (Box code_expr.TExpr Global) E) (o : AssignOp) → (o ≡ assign.Send → ⊥) → (x y : Expr)
    → IfOk res (λ e. Updates o x y (view_expr e.value)) → IfOk res (λ e. Gives o x y (view_expr e.value))
updated res o n x y h = IfOk-weaker res _ _ (λ e i. updates o n x y (view_expr e.value) i) h

pub not_updated : {T : Type 0} (res : Result T ExprFault) (o : AssignOp) → (o ≡ assign.Send → ⊥) → (x y : Expr)
    → IfErr res (λ f. Refuses f (λ r. UpdatingFails o x y r × NoneIs (Updates o x y)))
    → IfErr res (λ f. Refuses f (λ r. RefusesGives o x y r × NoneIs (Gives o x y)))
not_updated res o n x y h =
    IfErr-weaker res _ _
    (λ f j. refuses_weaker f _ _ (λ r i. (updating_fails o n x y r i.0, λ z k. i.1 z (updated_by o n x y z k))) j) h
