-- What is told of expressions that don't fit, and what tests say.
use Rattle.std.proofs.Common.{◌≡◌, ◌≢◌, refl, sym, ap, ◌∙◌, subst, Bool, false, inl, inr, Result, Ok, Err, Option, None, Some}
use Rattle.std.proofs.lemmas.Bool.{false≢true}
use Rattle.std.specs.Prelude.{IsTrue, ◌↔◌, IfOk, IfErr, option_map}
use Rattle.limbo_types.specs.declared.ty.Ty as code_ty
use Rattle.limbo_types.specs.declared.ty.Ty.TheVariants as make
use Rattle.limbo_types.specs.Types as ty
use Rattle.limbo_types.specs.Types.{Ty, Int, Nothing}
use Rattle.limbo_types.specs.View.{view_ty}
use Rattle.limbo_types.proofs.Forms.{HasForm, has_form}
use Rattle.limbo_typed.specs.declared.expr.TExpr as code_expr
use Rattle.limbo_typed.specs.Sound.{type_of, IsCased}
use Rattle.limbo_typed.specs.View.{view_expr}
use Rattle.limbo_typed.proofs.View.{view_expr-out}
use Rattle.limbo_forms.specs.Forms.{is_int}
use Rattle.limbo_refusals.specs.declared.fault.ExprFault.{ExprFault}
use Rattle.limbo_refusals.specs.Refusals.{Refusal, Clash, Refuses}
use Rattle.limbo_causes.specs.declared.fault.Cause as code
use Rattle.limbo_causes.specs.declared.fault.Cause.TheVariants as told_cause
use Rattle.limbo_causes.specs.Causes.{Cause, Refused, FailsBy, told}
use Rattle.limbo_causes.proofs.Telling.{fails_weaker, refused_by}
use Rattle.limbo_stating.specs.Reasons.{Reason, ByPart}
use Rattle.limbo_stmt_values.specs.Whys.{FailsFor, reason_told}
use Rattle.limbo_stmt_values.specs.declared.fault.Why.{Why}
use Rattle.limbo_stmt_values.specs.declared.fault.Why.TheVariants.{Part}

-- a refusal that is told as a cause, and nothing else
pub told_alone : (f : ExprFault) (k : code.Cause) (r s : Refusal) → k ≡ told_cause.Refused f → Refuses f (λ x. x ≡ r) → r ≡ s
    → FailsBy k (λ c. c ≡ Refused s)
told_alone f k r s e h q = fails_weaker k _ _ (λ c g. g.1 ∙ ap Refused (g.2 ∙ q)) (refused_by f k (λ x. x ≡ r) e h)

-- and what holds besides
pub told_with : (k : code.Cause) (c d : Cause) (P : Type 0) → FailsBy k (λ j. j ≡ c) → c ≡ d → P → FailsBy k (λ j. (j ≡ d) × P)
told_with k c d P h e p = fails_weaker k _ _ (λ j g. (g ∙ e, p)) h

pub type_is : (x : code_expr.TExpr) → view_ty x.ty ≡ type_of (view_expr x)
type_is x = sym (ap type_of (view_expr-out x))

pub untrue : (b : Bool) (P : Type 0) → b ≡ false → IsTrue b ↔ P → P → ⊥
untrue b P e h p = false≢true (sym e ∙ h.1 p)

int_is : (t : Ty) → IsTrue (is_int t) ↔ (t ≡ Int)
int_is t = (go t, λ e. subst (λ (u : Ty). IsTrue (is_int u)) (sym e) refl)
  where
    go : (t : Ty) → IsTrue (is_int t) → t ≡ Int
    go ty.Int h = refl
    go _ h = absurd (false≢true h)

pub is_int_of : (x : code_expr.TExpr) (b : Bool) → b ≡ is_int (view_ty x.ty) → IsTrue b ↔ (type_of (view_expr x) ≡ Int)
is_int_of x b e =
    let h = int_is (view_ty x.ty) in (
      λ t. sym (type_is x) ∙ h.0 (subst IsTrue e t),
      λ i. subst IsTrue (sym e) (h.1 (type_is x ∙ i)),
    )

pub not_cased : (u : code_ty.Ty) → (u ≡ make.Int → ⊥) → (u ≡ make.Big → ⊥) → (u ≡ make.Chars → ⊥) → IsCased (view_ty u) → ⊥
not_cased u p q r h = go (view_ty u) (has_form u) h
  where
    go : (t : Ty) → HasForm u t → IsCased t → ⊥
    go ty.Int f c = p f
    go ty.Big f c = q f
    go ty.Chars f c = r f
    go _ f (inl e) = cc
    go _ f (inr (inl e)) = cc
    go _ f (inr (inr e)) = cc

pub not_nil : (u : code_ty.Ty) → (u ≡ make.Nil → ⊥) → view_ty u ≡ ty.Nil → ⊥
not_nil u p e = p (subst (λ (t : Ty). HasForm u t) e (has_form u))

-- what is nothing else than one thing is that
pub only_nothing : (u : code_ty.Ty) → (view_ty u ≢ Nothing → ⊥) → view_ty u ≡ Nothing
only_nothing u n = go (view_ty u) n
  where
    go : (t : Ty) → (t ≢ Nothing → ⊥) → t ≡ Nothing
    go ty.Nothing h = refl
    go ty.Byte h = absurd (h (λ e. cc))
    go ty.Int h = absurd (h (λ e. cc))
    go ty.Big h = absurd (h (λ e. cc))
    go ty.Chars h = absurd (h (λ e. cc))
    go ty.Nil h = absurd (h (λ e. cc))
    go (ty.ArrayOf t) h = absurd (h (λ e. cc))
    go (ty.ListOf t) h = absurd (h (λ e. cc))
    go (ty.ChanOf t) h = absurd (h (λ e. cc))
    go (ty.Tuple ts) h = absurd (h (λ e. cc))
    go (ty.Adt n) h = absurd (h (λ e. cc))
    go (ty.RefAdt n) h = absurd (h (λ e. cc))
    go (ty.RefPick n v) h = absurd (h (λ e. cc))
    go (ty.Module n) h = absurd (h (λ e. cc))

-- ---- of results

pub if_ok : {A E : Type 0} → (r : Result A E) (P Q : A → Type 0) → ((a : A) → P a → Q a) → IfOk r P → IfOk r Q
if_ok (Ok a) P Q f h = f a h
if_ok (Err e) P Q f h = tt

pub if_err : {A E : Type 0} → (r : Result A E) (P Q : E → Type 0) → ((e : E) → P e → Q e) → IfErr r P → IfErr r Q
if_err (Ok a) P Q f h = tt
if_err (Err e) P Q f h = f e h

pub clash_same : (t u v w : Ty) → t ≡ u → v ≡ w → Refused (Clash t v) ≡ Refused (Clash u w)
clash_same t u v w p q = ap (λ x. Refused (Clash x v)) p ∙ ap (λ x. Refused (Clash u x)) q

-- ---- of statements

abbrev ToldOf : {A : Type 0} → Option A → (A → Type 0) → Type 0
ToldOf o P = elim o [ None ↦ Unit {0} | Some k ↦ P k ]

told_part : (o : Option Cause) (P : Reason → Type 0) → ToldOf o (λ k. P (ByPart k)) → ToldOf (option_map ByPart o) P
told_part None P h = tt
told_part (Some k) P h = h

pub reasons_weaker : (w : Why) (P Q : Reason → Type 0) → ((k : Reason) → P k → Q k) → FailsFor w P → FailsFor w Q
reasons_weaker w P Q f h = go (reason_told w) h
  where
    go : (o : Option Reason) → ToldOf o P → ToldOf o Q
    go None g = tt
    go (Some k) g = f k g

pub part_told : (f : code.Cause) (w : Why) (P : Reason → Type 0) → w ≡ Part f → FailsBy f (λ k. P (ByPart k)) → FailsFor w P
part_told f w P e h = subst (λ (z : Why). FailsFor z P) (sym e) (told_part (told f) P h)
