-- The rules of declarations, as the code comes to them.
use Rattle.std.proofs.Common.{◌≡◌, ◌∙◌, ◌++◌, ℕ, List, Bool, false, Option, None, Some, Box, Global, refl, sym, ap, subst}
use Rattle.std.specs.Prelude.{IsTrue, ◌↔◌}
use Rattle.std.proofs.lemmas.Bool.{false≢true}
use Rattle.std.specs.Prelude.{Result, Ok, Err, IfOk, IfErr, length}
use Rattle.std.proofs.lemmas.Result.{IfErr-weaker}
use Rattle.limbo_types.specs.Types.{Ty, Tuple}
use Rattle.limbo_types.specs.View.{tys_of}
use Rattle.limbo_layout.specs.Adts.{listed}
use Rattle.limbo_fields.proofs.Named.{all_listed}
use Rattle.limbo_tree.specs.Decls as decls
use Rattle.limbo_tree.specs.Exprs as tree
use Rattle.limbo_tree.specs.Types as written
use Rattle.limbo_typed.specs.declared.stmt.TStmt as code_stmt
use Rattle.limbo_typed.specs.Typed.{Expr, Stmt, Empty, Declare, Exception}
use Rattle.limbo_scope.specs.Scopes.{Scope}
use Rattle.limbo_scope.specs.Laws.{declared_all}
use Rattle.limbo_local.specs.Points.{meaning_from}
use Rattle.limbo_locals.specs.declared.names.Lead.TheVariants as lead
use Rattle.limbo_typed.specs.Sound.{type_of, IsSettled}
use Rattle.limbo_types.specs.View.{view_ty}
use Rattle.limbo_typed.specs.declared.expr.TExpr as code_typed
use Rattle.limbo_typed.specs.View.{view_expr, view_stmt}
use Rattle.limbo_typed.proofs.View.{view_expr-out}
use Rattle.limbo_arguments.specs.Failing as arguments
use Rattle.limbo_standing.specs.Standing.{Settles}
use Rattle.limbo_context.specs.Context.{Context, Body}
use Rattle.limbo_written.specs.Written.{MeansPermitted, FailsAsType}
use Rattle.limbo_exprs.specs.limbo_value_forms.Forms.{itself}
use Rattle.limbo_exprs.specs.limbo_typing.Typing.{HasValue}
use Rattle.limbo_exprs.specs.limbo_typing.Failing.{FailsValue}
use Rattle.limbo_local.specs.Points.{ValueAt, numbers}
use Rattle.limbo_local.specs.Failing.{FailsToDeclare, FailsModule, HasNoMember}
use Rattle.limbo_local.specs.Failing as failing
use Rattle.limbo_locals.specs.Named.{AreFree, with_variables_in, exceptions_of, means}
use Rattle.limbo_locals.specs.Anywhere.{at, DeclaresAt, DeclaresIn, FailsAt}
use Rattle.limbo_causes.specs.declared.fault.TypingFault.{TypingFault}
use Rattle.limbo_refusals.specs.declared.fault.ExprFault.{ExprFault}
use Rattle.limbo_types.specs.declared.ty.Ty.TheVariants as make
use Rattle.limbo_types.proofs.View.{view_ty-Nothing}
use Rattle.limbo_refusals.specs.Refusals.{Refusal, Clash, Refuses}
use Rattle.limbo_context.specs.declared.context.Origin.{Origin}
use Rattle.limbo_local.specs.Local.{NamesModule}
use Rattle.limbo_causes.specs.declared.fault.Cause as code
use Rattle.limbo_causes.specs.declared.fault.Cause.TheVariants as told_cause
use Rattle.limbo_causes.specs.Causes.{Cause, Twice, Unknown, Refused, nothing, FailsBy, ByRefusal}
use Rattle.limbo_causes.proofs.Telling.{fails_weaker, refused_by}

-- what a test that fails says
pub untrue : (b : Bool) (P : Type 0) → b ≡ false → (IsTrue b ↔ P) → P → ⊥
untrue b P is h p = false≢true (sym is ∙ h.1 p)

-- the two types of a clash are told
pub clash_fails : (f : ExprFault) (k : code.Cause) (r : Refusal) (Q : Cause → Type 0) → k ≡ told_cause.Refused f → Refuses f (λ s. s ≡ r)
    → Q (Refused r) → FailsBy k Q
clash_fails f k r Q is h q =
    fails_weaker k _ Q (λ c x. subst Q (sym (x.1 ∙ ap Refused x.2)) q) (refused_by f k (λ s. s ≡ r) is h)

pub nothing_fails : (f : ExprFault) (k : code.Cause) (Q : Cause → Type 0) → k ≡ told_cause.Refused f
    → Refuses f (λ s. s ≡ Clash (view_ty make.Nothing) (view_ty make.Nothing)) → Q nothing → FailsBy k Q
nothing_fails f k Q is h q =
    clash_fails f k (Clash (view_ty make.Nothing) (view_ty make.Nothing)) Q is h
    (subst (λ (t : Ty). Q (Refused (Clash t t))) (sym view_ty-Nothing) q)

-- ---- variables

module _ (c : Context) (b : Body) where
  value_at : (e : tree.Expr) (x : Expr) (b' : Body) (n : ℕ) → HasValue c b e x b' → ValueAt (at c b n) e x (at c b' n)
  value_at e x b' n v = record { behind = b'; has = v; goes_on = refl }

  pub plain_declares : (ns : List (List ℕ)) (t : written.Ty) (u : Ty) (z : Stmt) (b' : Body) → MeansPermitted c b t u
      → AreFree ns b.scopes → z ≡ Declare (numbers (length b.variables) ns) None → b' ≡ with_variables_in ns u b
      → DeclaresAt c b (decls.Var ns t None) z c b'
  plain_declares ns t u z b' m f p q name n = (u, m, f, p, ap (λ (d : Body). at c d n) q)

  pub valued_declares : (ns : List (List ℕ)) (t : written.Ty) (e : tree.Expr) (u : Ty) (x y : Expr) (z : Stmt) (d b' : Body)
      → MeansPermitted c b t u → HasValue c b e x d → Settles u x y → AreFree ns d.scopes
      → z ≡ Declare (numbers (length d.variables) ns) (Some y) → b' ≡ with_variables_in ns u d
      → DeclaresAt c b (decls.Var ns t (Some e)) z c b'
  valued_declares ns t e u x y z d b' m v s f p q name n =
      (u, x, y, at c d n, m, value_at e x d n v, s, f, p, ap (λ (i : Body). at c i n) q)

  pub definition_declares : (ns : List (List ℕ)) (e : tree.Expr) (x : Expr) (z : Stmt) (d b' : Body) → HasValue c b e x d
      → IsSettled (type_of x) → AreFree ns d.scopes → z ≡ Declare (numbers (length d.variables) ns) (Some x)
      → b' ≡ with_variables_in ns (type_of x) d → DeclaresAt c b (decls.Define ns e) z c b'
  definition_declares ns e x z d b' v s f p q name n =
      (x, at c d n, value_at e x d n v, s, f, p, ap (λ (i : Body). at c i n) q)

  module _ (f : code.Cause) where
    pub type_fails : (ns : List (List ℕ)) (t : written.Ty) (e : Option tree.Expr) → FailsBy f (FailsAsType c b t)
        → FailsBy f (FailsAt c b (decls.Var ns t e))
    type_fails ns t e h = fails_weaker f _ _ (λ k x n. failing.type_of_variable ns t e (at c b n) k x) h

    pub plain_again : (ns : List (List ℕ)) (t : written.Ty) → FailsBy f (λ k. (k ≡ Twice) × (AreFree ns b.scopes → ⊥))
        → FailsBy f (FailsAt c b (decls.Var ns t None))
    plain_again ns t h =
        fails_weaker f _ _
        (λ k x n. subst (FailsToDeclare (decls.Var ns t None) (at c b n)) (sym x.0) (failing.variable_again ns t (at c b n) x.1)) h

    pub value_fails : (ns : List (List ℕ)) (t : written.Ty) (e : tree.Expr) → FailsBy f (FailsValue c b e)
        → FailsBy f (FailsAt c b (decls.Var ns t (Some e)))
    value_fails ns t e h = fails_weaker f _ _ (λ k x n. failing.value ns t e (at c b n) k x) h

    pub unfit_fails : (ns : List (List ℕ)) (t : written.Ty) (e : tree.Expr) (u : Ty) (x : Expr) (d : Body) → MeansPermitted c b t u
        → HasValue c b e x d → FailsBy f (ByRefusal (arguments.FailsAt u x)) → FailsBy f (FailsAt c b (decls.Var ns t (Some e)))
    unfit_fails ns t e u x d m v h =
        fails_weaker f _ _
        (λ k y n. subst (FailsToDeclare (decls.Var ns t (Some e)) (at c b n)) (sym y.1)
        (failing.value_unfit ns t e (at c b n) (at c d n) u x y.0 m (value_at e x d n v) y.2)) h

    pub valued_again : (ns : List (List ℕ)) (t : written.Ty) (e : tree.Expr) (x : Expr) (d : Body) → HasValue c b e x d
        → FailsBy f (λ k. (k ≡ Twice) × (AreFree ns d.scopes → ⊥)) → FailsBy f (FailsAt c b (decls.Var ns t (Some e)))
    valued_again ns t e x d v h =
        fails_weaker f _ _
        (λ k y n. subst (FailsToDeclare (decls.Var ns t (Some e)) (at c b n)) (sym y.0)
        (failing.valued_again ns t e (at c b n) (at c d n) x (value_at e x d n v) y.1)) h

    pub defined_fails : (ns : List (List ℕ)) (e : tree.Expr) → FailsBy f (FailsValue c b e) → FailsBy f (FailsAt c b (decls.Define ns e))
    defined_fails ns e h = fails_weaker f _ _ (λ k x n. failing.defined ns e (at c b n) k x) h

    pub open_fails : (ns : List (List ℕ)) (e : tree.Expr) (x : Expr) (d : Body) → HasValue c b e x d
        → FailsBy f (λ k. (k ≡ Refused (itself x)) × (IsSettled (type_of x) → ⊥)) → FailsBy f (FailsAt c b (decls.Define ns e))
    open_fails ns e x d v h =
        fails_weaker f _ _
        (λ k y n. subst (FailsToDeclare (decls.Define ns e) (at c b n)) (sym y.0)
        (failing.open_value ns e (at c b n) (at c d n) x (value_at e x d n v) y.1)) h

    pub defined_again : (ns : List (List ℕ)) (e : tree.Expr) (x : Expr) (d : Body) → HasValue c b e x d
        → FailsBy f (λ k. (k ≡ Twice) × (AreFree ns d.scopes → ⊥)) → FailsBy f (FailsAt c b (decls.Define ns e))
    defined_again ns e x d v h =
        fails_weaker f _ _
        (λ k y n. subst (FailsToDeclare (decls.Define ns e) (at c b n)) (sym y.0)
        (failing.defined_again ns e (at c b n) (at c d n) x (value_at e x d n v) y.1)) h

-- ---- types

module _ (c : Context) (b : Body) (f : code.Cause) where
  pub named_type_fails : (ns : List (List ℕ)) (t : written.Ty) → FailsBy f (FailsAsType c b t) → FailsBy f (FailsAt c b (decls.TypeName ns
      t))
  named_type_fails ns t h = fails_weaker f _ _ (λ k x n. failing.type ns t (at c b n) k x) h

  pub named_type_again : (ns : List (List ℕ)) (t : written.Ty) → FailsBy f (λ k. (k ≡ Twice) × (AreFree ns b.scopes → ⊥))
      → FailsBy f (FailsAt c b (decls.TypeName ns t))
  named_type_again ns t h =
      fails_weaker f _ _
      (λ k x n. subst (FailsToDeclare (decls.TypeName ns t) (at c b n)) (sym x.0) (failing.type_again ns t (at c b n) x.1)) h

-- ---- imported names

module _ (c : Context) (b : Body) (f : code.Cause) where
  pub import_fails : (ns : List (List ℕ)) (name : List ℕ) → FailsBy f (λ k. (n : ℕ) → FailsModule (at c b n) name k)
      → FailsBy f (FailsAt c b (decls.Import ns name))
  import_fails ns name h = fails_weaker f _ _ (λ k x n. failing.no_module ns name (at c b n) k (x n)) h

  pub member_fails : (ns : List (List ℕ)) (name : List ℕ) (from : Origin) (i : ℕ) → ((n : ℕ) → NamesModule (at c b n) name from i)
      → FailsBy f (λ k. (k ≡ Unknown) × HasNoMember c i ns) → FailsBy f (FailsAt c b (decls.Import ns name))
  member_fails ns name from i m h =
      fails_weaker f _ _
      (λ k x n. subst (FailsToDeclare (decls.Import ns name) (at c b n)) (sym x.0)
      (failing.no_member ns name (at c b n) from i (m n) x.1)) h

  pub import_again : (ns : List (List ℕ)) (name : List ℕ) → FailsBy f (λ k. (k ≡ Twice) × (AreFree ns b.scopes → ⊥))
      → FailsBy f (FailsAt c b (decls.Import ns name))
  import_again ns name h =
      fails_weaker f _ _
      (λ k x n. subst (FailsToDeclare (decls.Import ns name) (at c b n)) (sym x.0) (failing.imported_again ns name (at c b n) x.1)) h

-- a rule for what fails
pub by_rule : {T : Type 0} (res : Result T TypingFault) {P Q : Cause → Type 0} → IfErr res (λ f. FailsBy f.cause P)
    → ((f : code.Cause) → FailsBy f P → FailsBy f Q) → IfErr res (λ f. FailsBy f.cause Q)
by_rule res h rule = IfErr-weaker res _ _ (λ f x. rule f.cause x) h

-- what begins, by the three things that are told of it
pub begun_as : (res : Result (Box code_stmt.TStmt Global) TypingFault) (P : Stmt → Type 0) (A B : Type 0) (w : Stmt)
    → IfOk res (λ z. view_stmt z.value ≡ w) → IfOk res (λ _. A) → IfOk res (λ _. B)
    → ((z : Stmt) → z ≡ w → A → B → P z) → IfOk res (λ z. P (view_stmt z.value))
begun_as (Ok z) P A B w h a b rule = rule (view_stmt z.value) h a b
begun_as (Err f) P A B w h a b rule = tt

pub typed_as : (e : code_typed.TExpr) → type_of (view_expr e) ≡ view_ty e.ty
typed_as e = ap type_of (view_expr-out e)

-- ---- exceptions

module _ (c : Context) (b : Body) (ns : List (List ℕ)) (ts : written.Tys) where
  pub exceptions_fail : (f : code.Cause) → FailsBy f (FailsAsType c b (written.Tuple ts)) → FailsBy f (FailsAt c b (decls.Exception ns ts))
  exceptions_fail f h = fails_weaker f _ _ (λ k x n. failing.values ns ts (at c b n) k x) h

  pub exceptions_again : (f : code.Cause) → FailsBy f (λ k. (k ≡ Twice) × (AreFree ns b.scopes → ⊥))
      → FailsBy f (FailsAt c b (decls.Exception ns ts))
  exceptions_again f h =
      fails_weaker f _ _
      (λ k x n. subst (FailsToDeclare (decls.Exception ns ts) (at c b n)) (sym x.0) (failing.exception_again ns ts (at c b n) x.1)) h

  pub exceptions_declare : (m : List ℕ) (us : List Ty) (xs : List Exception) (ss : List Scope) (first : ℕ) (z : Stmt)
      → MeansPermitted c b (written.Tuple ts) (Tuple (tys_of us)) → AreFree ns b.scopes → z ≡ Empty
      → xs ≡ c.exceptions ++ exceptions_of m ns us → first ≡ length c.exceptions
      → ss ≡ declared_all (meaning_from (means lead.Exception) first ns) b.scopes
      → DeclaresIn m c b (decls.Exception ns ts) z (record c { exceptions = xs }) (record { scopes = ss; variables = b.variables })
  exceptions_declare m us xs ss first z h f is items begins scopes n = (
    tys_of us,
    h,
    f,
    is,
    ap (λ (ys : List Exception). at (record c { exceptions = ys }) (record { scopes = ss; variables = b.variables }) n)
        (items ∙ ap (λ (vs : List Ty). c.exceptions ++ exceptions_of m ns vs) (sym (all_listed us)))
        ∙ ap (λ (zs : List Scope). at (record c { exceptions = c.exceptions ++ exceptions_of m ns (listed (tys_of us)) })
        (record { scopes = zs; variables = b.variables }) n)
        (scopes ∙ ap (λ (i : ℕ). declared_all (meaning_from (means lead.Exception) i ns) b.scopes) begins),
  )
