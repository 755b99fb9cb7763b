-- What is raised, by the rules.
use Rattle.std.proofs.Common.{◌≡◌, refl, sym, ap, ◌∙◌, subst, ℕ, List, [], Option, None, Some, slice_get, ◌∷◌, map, length, false}
use Rattle.std.specs.Bool.{◌==◌}
use Rattle.std.proofs.lemmas.Bool.{false≢true}
use Rattle.std.specs.Prelude.{option_map}
use Rattle.std.proofs.lemmas.Option.{none-some, same_Some}
use Rattle.limbo_tree.specs.Exprs as tree
use Rattle.limbo_tree.specs.Parts.{call_in}
use Rattle.limbo_types.specs.declared.ty.Ty as code_ty
use Rattle.limbo_types.specs.View.{view_ty}
use Rattle.limbo_types.specs.Types.{Ty, Chars}
use Rattle.limbo_typed.specs.Typed.{Stmt, NoExprs, RaiseDeclared, Exception}
use Rattle.limbo_standing.specs.Standing.{SettleEach}
use Rattle.limbo_causes.specs.declared.fault.Cause as code
use Rattle.limbo_causes.specs.Causes.{Cause, FailsBy, nothing}
use Rattle.limbo_causes.proofs.Telling.{fails_weaker}
use Rattle.limbo_refusals.specs.Refusals.{NoneIs}
use Rattle.limbo_context.specs.Context.{Context, Body}
use Rattle.limbo_things.specs.Things.{AnException, NameIs, meant}
use Rattle.limbo_scope.specs.declared.meaning.Meaning.{Meaning}
use Rattle.limbo_stmt_values.specs.limbo_stating.Raising as rules
use Rattle.limbo_stmt_values.specs.limbo_stating.Raising.{NamesException, Raises, FailsToRaise, RaisesNone, raised_name}
use Rattle.limbo_stmt_values.specs.Leading.{point, From, Leads}
use Rattle.limbo_stmt_values.specs.Answering as answering
use Rattle.limbo_stmt_values.specs.Answering.{FailsToAnswer}
use Rattle.limbo_raising.specs.Exceptions as raised
use Rattle.limbo_raising.specs.Exceptions.{IsRaisedWith, FailsWith, RaisesException, FailsException}

-- ---- the form of what is raised

name_alone : (e : tree.Expr) (n : List ℕ) → raised_name e ≡ Some n → call_in e ≡ None → e ≡ tree.Name n
name_alone (tree.Name m) n p q = ap tree.Name (same_Some m n p)
name_alone (tree.Call f es) n p q = absurd (none-some (f, es) (sym q))
name_alone _ n p q = absurd (none-some n p)

called : (e f : tree.Expr) (es : tree.Exprs) (n : List ℕ) → raised_name e ≡ Some n → call_in e ≡ Some (f, es)
    → e ≡ tree.Call (tree.Name n) es
called (tree.Call (tree.Name m) gs) f es n p q =
    let a = same_Some (tree.Name m, gs) (f, es) q in
    ap (λ k. tree.Call (tree.Name k) gs) (same_Some m n p) ∙ ap (λ k. tree.Call (tree.Name n) k.1) a
called (tree.Call g gs) f es n p q = absurd (none-some n p)
called _ f es n p q = absurd (none-some (f, es) q)

module _ (c : Context) (b : Body) (e : tree.Expr) where
  -- ---- an exception

  pub raised_by : (n : List ℕ) (i : ℕ) (x : Exception) (ts : List Ty) (s : Stmt) (d : Body) → raised_name e ≡ Some n
      → NamesException c b n i x → x.values ≡ ts → RaisesException c b e ts i s d → Leads (λ p q. Raises p e s q) c b d
  raised_by n i x ts s d m a v (raised.alone q t g f) k =
      subst (λ (z : tree.Expr). Raises (point c b k) z s (point c d k)) (sym (name_alone e n m q))
      (subst (λ (z : Stmt). Raises (point c b k) (tree.Name n) z (point c d k)) (sym g)
      (subst (λ (z : Body). Raises (point c b k) (tree.Name n) (RaiseDeclared i NoExprs) (point c z k)) (sym f)
      (rules.alone n i x a (v ∙ t))))
  raised_by n i x ts s d m a v (raised.with_values f es q r) k =
      subst (λ (z : tree.Expr). Raises (point c b k) z s (point c d k)) (sym (called e f es n m q))
      (subst (λ (z : Stmt). Raises (point c b k) (tree.Call (tree.Name n) es) z (point c d k)) (sym r.gives)
      (rules.with_values n es i x r.values r.settled d a r.have
      (subst (λ (z : List Ty). SettleEach z r.values r.settled) (sym v) r.settle)))

  fails_with : (n : List ℕ) (i : ℕ) (x : Exception) (es : tree.Exprs) (k : Cause) → NamesException c b n i x → FailsWith c b es x.values k
      → (m : ℕ) → FailsToRaise (point c b m) (tree.Call (tree.Name n) es) k
  fails_with n i x es _ a (raised.a_value k g) m = rules.a_value n es i x k a g
  fails_with n i x es _ a (raised.unfit xs d r h g) m = rules.values_unfit n es i x xs d r a h g

  fails_so : (n : List ℕ) (i : ℕ) (x : Exception) (k : Cause) → raised_name e ≡ Some n → NamesException c b n i x
      → FailsException c b e x.values k → (m : ℕ) → FailsToRaise (point c b m) e k
  fails_so n i x _ m a (raised.lacks q t) k =
      subst (λ (z : tree.Expr). FailsToRaise (point c b k) z nothing) (sym (name_alone e n m q)) (rules.lacks_values n i x a t)
  fails_so n i x _ m a (raised.by_values f es j q g) k =
      subst (λ (z : tree.Expr). FailsToRaise (point c b k) z j) (sym (called e f es n m q)) (fails_with n i x es j a g k)

  pub exception_fails : (f : code.Cause) (n : List ℕ) (i : ℕ) (x : Exception) (ts : List Ty) → raised_name e ≡ Some n
      → NamesException c b n i x → x.values ≡ ts → FailsBy f (FailsException c b e ts)
      → FailsBy f (λ k. From (λ p. FailsToRaise p e k) c b)
  exception_fails f n i x ts m a v h =
      fails_weaker f _ _
      (λ k g j. fails_so n i x k m a (subst (λ (z : List Ty). FailsException c b e z k) (sym v) g) j) h

  -- ---- a string

  text_so : (k : Cause) (n : ℕ) → RaisesNone (point c b n) e → FailsToAnswer Chars (point c b n) e k → FailsToRaise (point c b n) e k
  text_so _ n none (answering.no_value k g) = rules.no_value e k none g
  text_so _ n none (answering.unfit x q r v g) = rules.no_string e x q r v g

  pub text_fails : (f : code.Cause) → ((n : ℕ) → RaisesNone (point c b n) e)
      → FailsBy f (λ k. From (λ p. FailsToAnswer Chars p e k) c b) → FailsBy f (λ k. From (λ p. FailsToRaise p e k) c b)
  text_fails f none h = fails_weaker f _ _ (λ k g n. text_so k n (none n) (g n)) h

  pub none_named : (n : List ℕ) → raised_name e ≡ Some n → NoneIs (λ i. NameIs c b n (AnException i)) → (k : ℕ) → RaisesNone (point c b k) e
  none_named n m none k l i x p a = none i (subst (λ (z : List ℕ). NameIs c b z (AnException i)) (same_Some l n (sym p ∙ m)) a.is)

  pub nothing_raised : raised_name e ≡ None → (k : ℕ) → RaisesNone (point c b k) e
  nothing_raised m k n i x p a = none-some n (sym m ∙ p)

-- ---- exceptions of a number

pub none_left : (ts : List code_ty.Ty) → false ≡ (length ts == 0) → map view_ty ts ≡ [] → ⊥
none_left [] e h = false≢true e
none_left (t ∷ ts) e h = cc

pub no_item : (o : Option Exception) → None ≡ option_map (λ (x : Exception). x.values) o → o ≡ None
no_item None e = refl
no_item (Some x) e = absurd (none-some x.values e)

pub item_of : (o : Option Exception) (ts : List Ty) → Some ts ≡ option_map (λ (x : Exception). x.values) o
    → (x : Exception) × (o ≡ Some x) × (x.values ≡ ts)
item_of None ts e = absurd (none-some ts (sym e))
item_of (Some x) ts e = (x, refl, sym (same_Some ts x.values e))

exception_same : (i j : ℕ) → AnException i ≡ AnException j → i ≡ j
exception_same i j e = cc

same_number : (c : Context) (b : Body) (n : List ℕ) (i j : ℕ) → NameIs c b n (AnException i) → NameIs c b n (AnException j) → i ≡ j
same_number c b n i j h k =
    let e : h.means ≡ k.means = same_Some h.means k.means (sym h.is_seen ∙ k.is_seen) in
    exception_same i j (same_Some (AnException i) (AnException j) (sym h.is ∙ ap (λ (m : Meaning). meant c b m) e ∙ k.is))

pub none_there : (c : Context) (b : Body) (e : tree.Expr) (n : List ℕ) (i : ℕ) → raised_name e ≡ Some n → NameIs c b n (AnException i)
    → slice_get c.exceptions i ≡ None → (k : ℕ) → RaisesNone (point c b k) e
none_there c b e n i m h none k l j x p a =
    let s = subst (λ (z : List ℕ). NameIs c b z (AnException j)) (same_Some l n (sym p ∙ m)) a.is in
    none-some x (sym none ∙ ap (slice_get c.exceptions) (same_number c b n i j h s) ∙ a.there)
