-- Members that are added to a module one after the other.
use Rattle.std.proofs.Common.{◌≡◌, ◌<◌, ℕ, true, List, Option, length, refl, ap, subst, ◌∙◌}
use Rattle.limbo_tree.specs.Exprs as tree
use Rattle.limbo_tree.specs.Types as written
use Rattle.limbo_tree.specs.Decls as decls
use Rattle.limbo_tree.specs.Decls.{Member, VarMember, FnMember, ConMember, TypeMember, AdtMember, Members, NoMembers, MoreMembers}
use Rattle.limbo_types.specs.Types.{Ty, FnTy}
use Rattle.limbo_scope.specs.declared.meaning.Meaning.{Meaning}
use Rattle.limbo_scope.specs.Scopes.{Scope}
use Rattle.limbo_scope.specs.Laws.{declared_all}
use Rattle.limbo_causes.specs.declared.fault.Cause as code
use Rattle.limbo_causes.specs.Causes.{Cause, FailsBy}
use Rattle.limbo_causes.proofs.Telling.{fails_weaker}
use Rattle.limbo_context.specs.Context.{Context, Body}
use Rattle.limbo_written.specs.Written.{MeansPermitted, FailsAsType}
use Rattle.limbo_locals.specs.limbo_local.Points.{Point}
use Rattle.limbo_locals.specs.limbo_local.Local.{IsHeader}
use Rattle.limbo_locals.specs.limbo_local.Members.{changed, showing_module, with_functions, IsAdt, AllAddToModule}
use Rattle.limbo_locals.specs.limbo_local.Failing as failing
use Rattle.limbo_locals.specs.limbo_local.Failing.{FailsHeader, FailsAdt, FailsAllInModule}
use Rattle.limbo_locals.specs.Anywhere.{at, AddsConstants, AddsTypes, FailsConstantsAt}
use Rattle.limbo_members.proofs.Untouched.{SameModules, constants_context}
use Rattle.limbo_interfaces.specs.Modules.{IsBegun, AddsMember, AddsMembers, FailsMember, FailsMembers}
use Rattle.limbo_interfaces.proofs.Exported.{shown_stays, row_below, added_shown, added_begun}

-- ---- single members

module _ (i : ℕ) (c : Context) (b : Body) where
  pub variables_add : (ns : List (List ℕ)) (t : written.Ty) (u : Ty) → MeansPermitted c b t u → IsBegun i c b
      → AddsMember i (VarMember ns t) c b c b
  variables_add ns t u means begun n = (at c b n, (u, means, refl), shown_stays i c b n begun)

  pub functions_add : (ns : List (List ℕ)) (f : decls.FnType) (of : FnTy) (c' : Context) (b' : Body) → IsHeader c b f of
      → ((n : ℕ) → at c' b' n ≡ showing_module i (with_functions i ns of (at c b n))) → AddsMember i (FnMember ns f) c b c' b'
  functions_add ns f of c' b' h placed n = (with_functions i ns of (at c b n), (of, h, refl), placed n)

  pub variables_fail : (ns : List (List ℕ)) (t : written.Ty) (f : code.Cause) → FailsBy f (FailsAsType c b t)
      → FailsBy f (FailsMember i (VarMember ns t) c b)
  variables_fail ns t f h = fails_weaker f _ _ (λ k x n. failing.its_variable ns t (at c b n) k x) h

  pub functions_fail : (ns : List (List ℕ)) (t : decls.FnType) (f : code.Cause) → FailsBy f (FailsHeader c b t)
      → FailsBy f (FailsMember i (FnMember ns t) c b)
  functions_fail ns t f h = fails_weaker f _ _ (λ k x n. failing.its_function ns t (at c b n) k x) h

  pub constants_fail : (ns : List (List ℕ)) (e : tree.Expr) (f : code.Cause) → FailsBy f (FailsConstantsAt c b e ns)
      → FailsBy f (FailsMember i (ConMember ns e) c b)
  constants_fail ns e f h = fails_weaker f _ _ (λ k x n. failing.its_constant ns e (at c b n) k (x n)) h

  pub types_fail : (ns : List (List ℕ)) (t : written.Ty) (f : code.Cause) → FailsBy f (FailsAsType c b t)
      → FailsBy f (FailsMember i (TypeMember ns t) c b)
  types_fail ns t f h = fails_weaker f _ _ (λ k x n. failing.its_type ns t (at c b n) k x) h

  pub adt_fails : (name : List ℕ) (ms : Members) (pick : Option (List decls.Variant)) (f : code.Cause)
      → FailsBy f (λ k. (n : ℕ) → FailsAdt true name ms pick (at c b n) k) → FailsBy f (FailsMember i (AdtMember name ms pick) c b)
  adt_fails name ms pick f h = fails_weaker f _ _ (λ k x n. failing.its_adt name ms pick (at c b n) k (x n)) h

-- ---- what is seen behind a member

module _ (c : Context) (b : Body) (d : Context) (f : Body) where
  pub constants_leave : (ns : List (List ℕ)) (e : tree.Expr) → AddsConstants c b ns e d f → SameModules (at c b 0) (at d f 0)
  constants_leave ns e adds =
      let w = adds 0 in
      let same = constants_context e 0 ns w.0 (at c b 0) w.1 w.2 in
      record {
        exports = ap (λ (p : Point). p.context.exports) w.3 ∙ ap (λ (z : Context). z.exports) same;
        interfaces = ap (λ (p : Point). p.context.interfaces) w.3 ∙ ap (λ (z : Context). z.interfaces) same;
      }

  pub types_leave : (ns : List (List ℕ)) (t : written.Ty) → AddsTypes c b ns t d f → SameModules (at c b 0) (at d f 0)
  types_leave ns t adds = record {
    exports = ap (λ (p : Point). p.context.exports) (adds.2 0);
    interfaces = ap (λ (p : Point). p.context.interfaces) (adds.2 0);
  }

module _ (i : ℕ) (c : Context) (b : Body) (d : Context) (f : Body) (begun : IsBegun i c b) (same : SameModules (at c b 0) (at d f 0)) where
  pub below : i < length d.exports
  below = row_below i c b d f begun same.exports

  module _ (ds : List (List ℕ × Meaning)) (rows : List (List Scope)) (is : rows ≡ changed i (declared_all ds) d.exports)
      (later : f.scopes ≡ declared_all ds b.scopes) where
    shown : (n : ℕ) → at (record d { exports = rows }) f n ≡ showing_module i (at d f n)
    shown n = added_shown i c b d f begun same.exports ds rows is later n

    pub still_begun : IsBegun i (record d { exports = rows }) f
    still_begun = added_begun i c b d f begun same.exports ds rows is later (ap length same.interfaces)

    pub constants_add : (ns : List (List ℕ)) (e : tree.Expr) → AddsConstants c b ns e d f
        → AddsMember i (ConMember ns e) c b (record d { exports = rows }) f
    constants_add ns e adds n = (at d f n, adds n, shown n)

    pub types_add : (ns : List (List ℕ)) (t : written.Ty) → AddsTypes c b ns t d f
        → AddsMember i (TypeMember ns t) c b (record d { exports = rows }) f
    types_add ns t adds n = (at d f n, (adds.0, adds.1, adds.2 n), shown n)

    pub adt_adds : (name : List ℕ) (ms : Members) (pick : Option (List decls.Variant))
        → ((n : ℕ) → IsAdt true name ms pick (at c b n) (at d f n))
        → AddsMember i (AdtMember name ms pick) c b (record d { exports = rows }) f
    adt_adds name ms pick is_adt n = (at d f n, is_adt n, shown n)

-- ---- members one after the other

-- The members that are left come behind those that were added.
pub record Comes (i : ℕ) (c : Context) (b : Body) (all : Members) (d : Context) (f : Body) (rest : Members) : Type 0 where
  pub begun : IsBegun i d f
  pub adds : (n : ℕ) (q : Point) → AllAddToModule i rest (at d f n) q → AllAddToModule i all (at c b n) q
  pub fails : (n : ℕ) (k : Cause) → FailsAllInModule i rest (at d f n) k → FailsAllInModule i all (at c b n) k

module _ (i : ℕ) (c : Context) (b : Body) (all : Members) where
  pub comes_start : IsBegun i c b → Comes i c b all c b all
  comes_start h = record {
    begun = h;
    adds = λ n q x. x;
    fails = λ n k x. x;
  }

  pub comes_more : (d : Context) (f : Body) (x : Member) (rest : Members) (d' : Context) (f' : Body)
      → Comes i c b all d f (MoreMembers x rest) → AddsMember i x d f d' f' → IsBegun i d' f' → Comes i c b all d' f' rest
  comes_more d f x rest d' f' h one begun = record {
    begun = begun;
    adds = λ n q y.
        let w = one n in
        h.adds n q (w.0, w.1, subst (λ (z : Point). AllAddToModule i rest z q) w.2 y);
    fails = λ n k y.
        let w = one n in
        h.fails n k
        (failing.later_member_fails x rest (at d f n) w.0 k w.1 (subst (λ (z : Point). FailsAllInModule i rest z k) w.2 y));
  }

  pub comes_fail : (d : Context) (f : Body) (x : Member) (rest : Members) (g : code.Cause) → Comes i c b all d f (MoreMembers x rest)
      → FailsBy g (FailsMember i x d f) → FailsBy g (FailsMembers i all c b)
  comes_fail d f x rest g h one =
      fails_weaker g _ _ (λ k y n. h.fails n k (failing.this_member_fails x rest (at d f n) k (y n))) one

  pub comes_end : (d : Context) (f : Body) → Comes i c b all d f NoMembers → AddsMembers i all c b d f
  comes_end d f h n = h.adds n (at d f n) refl
