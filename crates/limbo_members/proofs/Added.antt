-- Members that are added one after the other.
use Rattle.std.proofs.Common.{◌≡◌, ◌<◌, ◌≤◌, ◌+◌, ◌++◌, [], ℕ, Bool, true, List, Option, length, map, drop, get_or}
use Rattle.std.proofs.Common.{refl, sym, ap, subst, ◌∙◌, append_assoc}
use Rattle.std.specs.Prelude.{slice_get}
use Rattle.std.proofs.lemmas.List.{append-nil, drop_all}
use Rattle.limbo_tree.specs.Exprs as tree
use Rattle.limbo_tree.specs.Types as written
use Rattle.limbo_tree.specs.Decls as decls
use Rattle.limbo_tree.specs.Decls.{Member, VarMember, FnMember, ConMember, TypeMember, AdtMember, Members, NoMembers, MoreMembers}
use Rattle.limbo_tree.specs.declared.decl.Member as code_member
use Rattle.limbo_tree.specs.View.{view_member, view_members, members_of}
use Rattle.limbo_types.specs.Types.{Ty, FnTy}
use Rattle.limbo_layout.specs.Adts.{Variant}
use Rattle.limbo_scope.specs.declared.meaning.Meaning.TheVariants as meaning
use Rattle.limbo_scope.specs.Scopes.{declared}
use Rattle.limbo_causes.specs.declared.fault.Cause as code
use Rattle.limbo_causes.specs.Causes.{Cause, FailsBy}
use Rattle.limbo_causes.proofs.Telling.{fails_weaker}
use Rattle.limbo_context.specs.Context.{Context, Body}
use Rattle.limbo_written.specs.Written.{MeansPermitted, FailsAsType}
use Rattle.limbo_locals.specs.limbo_local.Points.{Point, leave}
use Rattle.limbo_locals.specs.limbo_local.Local.{IsHeader}
use Rattle.limbo_locals.specs.limbo_local.Members.{Inside, nothing_inside, beside, adt_inside, fields, variants_in, AreVariants, open_adt}
use Rattle.limbo_locals.specs.limbo_local.Members.{AllAddToAdt}
use Rattle.limbo_locals.specs.limbo_local.Failing as failing
use Rattle.limbo_locals.specs.limbo_local.Failing.{FailsInAdt, FailsAllInAdt, FailsHeader, FailsVariants}
use Rattle.limbo_locals.specs.Anywhere.{at, FailsConstantsAt}
use Rattle.limbo_declarations.proofs.Apart.{drop_more}
use Rattle.limbo_members.specs.Adding.{IsShown, AddsMember, AddsMembers, AddsAdt, FailsMember, FailsMembers}
use Rattle.limbo_members.proofs.Kept.{stays_member, adt_scopes}
use Rattle.limbo_members.proofs.Shown.{shown_stays}

-- ---- single members

module _ (c : Context) (b : Body) where
  pub fields_add : (ns : List (List ℕ)) (t : written.Ty) (u : Ty) (g : Inside) → MeansPermitted c b t u
      → g ≡ record { fields = fields ns u; adts = [] } → (m : Bool) (a : ℕ) → IsShown a c b → AddsMember m a (VarMember ns t) c b g c b
  fields_add ns t u g means is m a shown n = (at c b n, (u, means, is, refl), shown_stays a c b n shown)

  pub functions_add : (m : Bool) (ns : List (List ℕ)) (f : decls.FnType) (of : FnTy) (g : Inside) → m ≡ true → IsHeader c b f of
      → g ≡ nothing_inside → (a : ℕ) → IsShown a c b → AddsMember m a (FnMember ns f) c b g c b
  functions_add m ns f of g so h is a shown n = (at c b n, (of, so, h, is, refl), shown_stays a c b n shown)

  pub fields_fail : (ns : List (List ℕ)) (t : written.Ty) (f : code.Cause) → FailsBy f (FailsAsType c b t)
      → FailsBy f (λ k. (m : Bool) → FailsMember m (VarMember ns t) c b k)
  fields_fail ns t f h = fails_weaker f _ _ (λ k x m n. failing.a_field ns t (at c b n) k x) h

  pub header_fails : (m : Bool) (ns : List (List ℕ)) (t : decls.FnType) (f : code.Cause) → FailsBy f (FailsHeader c b t)
      → FailsBy f (FailsMember m (FnMember ns t) c b)
  header_fails m ns t f h = fails_weaker f _ _ (λ k x n. failing.a_header ns t (at c b n) k x) h

  pub constants_fail : (ns : List (List ℕ)) (e : tree.Expr) (f : code.Cause) → FailsBy f (FailsConstantsAt c b e ns)
      → FailsBy f (λ k. (m : Bool) → FailsMember m (ConMember ns e) c b k)
  constants_fail ns e f h = fails_weaker f _ _ (λ k x m n. failing.a_constant ns e (at c b n) k (x n)) h

  pub types_fail : (ns : List (List ℕ)) (t : written.Ty) (f : code.Cause) → FailsBy f (FailsAsType c b t)
      → FailsBy f (λ k. (m : Bool) → FailsMember m (TypeMember ns t) c b k)
  types_fail ns t f h = fails_weaker f _ _ (λ k x m n. failing.a_type ns t (at c b n) k x) h

-- ---- members one after the other

beside_nothing : (g : Inside) → beside g nothing_inside ≡ g
beside_nothing g =
    ap (λ fs. let z : Inside = record { fields = fs; adts = g.adts ++ [] } in z) (append-nil g.fields)
    ∙ ap (λ ds. let z : Inside = record { fields = g.fields; adts = ds } in z) (append-nil g.adts)

beside_more : (g h i : Inside) → beside (beside g h) i ≡ beside g (beside h i)
beside_more g h i =
    ap (λ fs. let z : Inside = record { fields = fs; adts = (g.adts ++ h.adts) ++ i.adts } in z) (append_assoc g.fields h.fields i.fields)
    ∙ ap (λ ds. let z : Inside = record { fields = g.fields ++ (h.fields ++ i.fields); adts = ds } in z)
    (append_assoc g.adts h.adts i.adts)

-- What the members that are left give comes behind what was given.
pub record Comes (m : Bool) (a : ℕ) (c : Context) (b : Body) (all : Members) (d : Context) (f : Body) (rest : Members) (given : Inside)
    : Type 0 where
  pub shown : IsShown a d f
  pub adds : (n : ℕ) (g : Inside) (q : Point) → AllAddToAdt m a rest (at d f n) g q → AllAddToAdt m a all (at c b n) (beside given g) q
  pub fails : (n : ℕ) (k : Cause) → FailsAllInAdt m a rest (at d f n) k → FailsAllInAdt m a all (at c b n) k

module _ (m : Bool) (a : ℕ) (c : Context) (b : Body) where
  pub comes_start : (all : Members) (given : Inside) → given ≡ nothing_inside → IsShown a c b → Comes m a c b all c b all given
  comes_start all given is h =
      subst (λ (z : Inside). Comes m a c b all c b all z) (sym is)
      (record {
        shown = h;
        adds = λ n g q x. x;
        fails = λ n k x. x;
      })

  pub comes_more : (all : Members) (d : Context) (f : Body) (x : Member) (rest : Members) (given more : Inside) (d' : Context) (f' : Body)
      (later : Inside) → Comes m a c b all d f (MoreMembers x rest) given → AddsMember m a x d f more d' f' → IsShown a d' f'
      → later ≡ beside given more → Comes m a c b all d' f' rest later
  comes_more all d f x rest given more d' f' later h one shown is =
      subst (λ (z : Inside). Comes m a c b all d' f' rest z) (sym is)
      (record {
        shown = shown;
        adds = λ n g q y.
            let w = one n in
            subst (λ (z : Inside). AllAddToAdt m a all (at c b n) z q) (sym (beside_more given more g))
            (h.adds n (beside more g) q
            (more, g, w.0, w.1, subst (λ (z : Point). AllAddToAdt m a rest z g q) w.2 y, refl));
        fails = λ n k y.
            let w = one n in
            h.fails n k (failing.later a x rest (at d f n) w.0 more k w.1 (subst (λ (z : Point). FailsAllInAdt m a rest z k) w.2 y));
      })

  pub comes_fail : (all : Members) (d : Context) (f : Body) (x : Member) (rest : Members) (given : Inside) (g : code.Cause)
      → Comes m a c b all d f (MoreMembers x rest) given → FailsBy g (FailsMember m x d f) → FailsBy g (FailsMembers m a all c b)
  comes_fail all d f x rest given g h one =
      fails_weaker g _ _ (λ k y n. h.fails n k (failing.here a x rest (at d f n) k (y n))) one

  pub comes_end : (all : Members) (d : Context) (f : Body) (given : Inside) → Comes m a c b all d f NoMembers given
      → AddsMembers m a all c b given d f
  comes_end all d f given h n =
      subst (λ (z : Inside). AllAddToAdt m a all (at c b n) z (at d f n)) (beside_nothing given)
      (h.adds n nothing_inside (at d f n) (refl, refl))

-- ---- the same of trees of the code

abbrev pub from : ℕ → List code_member.Member → Members
from i xs = members_of (map view_member (drop i xs))

pub next_from : (xs : List code_member.Member) (i : ℕ) (x : code_member.Member) → i < length xs → x ≡ get_or xs i x
    → from i xs ≡ MoreMembers (view_member x) (from (i + 1) xs)
next_from xs i x l is = ap members_of (drop_more view_member i xs x l is)

pub all_from : (xs : List code_member.Member) → view_members xs ≡ from 0 xs
unfolding view_members
all_from xs = refl

pub none_from : (xs : List code_member.Member) (i : ℕ) → length xs ≤ i → from i xs ≡ NoMembers
none_from xs i l = ap (λ (zs : List code_member.Member). members_of (map view_member zs)) (drop_all i xs l)

-- ---- adts

module _ (m : Bool) (name : List ℕ) (ms : Members) (pick : Option (List decls.Variant)) (c : Context) (b : Body) (a : ℕ) (d : Context)
    (f : Body) (number : a ≡ length c.adts) (opened : (n : ℕ) → at d f n ≡ open_adt name (variants_in pick) (at c b n)) where
  inside_of : (n : ℕ) (g : Inside) (e : Context) (h : Body) → AddsMembers m a ms d f g e h
      → AllAddToAdt m (length c.adts) ms (open_adt name (variants_in pick) (at c b n)) g (at e h n)
  inside_of n g e h adds =
      subst (λ (i : ℕ). AllAddToAdt m i ms (open_adt name (variants_in pick) (at c b n)) g (at e h n)) number
      (subst (λ (p : Point). AllAddToAdt m a ms p g (at e h n)) (opened n) (adds n))

  pub members_fail : (k : code.Cause) → FailsBy k (FailsMembers m a ms d f) → FailsBy k (FailsMember m (AdtMember name ms pick) c b)
  members_fail k x =
      fails_weaker k _ _
      (λ z y n. failing.in_inner name ms pick (at c b n) z
      (subst (λ (i : ℕ). FailsAllInAdt m i ms (open_adt name (variants_in pick) (at c b n)) z) number
      (subst (λ (p : Point). FailsAllInAdt m a ms p z) (opened n) (y n)))) x

  pub variants_fail : (k : code.Cause) (g : Inside) (e : Context) (h : Body) → AddsMembers m a ms d f g e h
      → FailsBy k (FailsVariants e h (variants_in pick)) → FailsBy k (FailsMember m (AdtMember name ms pick) c b)
  variants_fail k g e h adds x =
      fails_weaker k _ _ (λ z y n. failing.a_variant name ms pick (at c b n) (at e h n) g z (inside_of n g e h adds) y) x

  pub adt_adds : (g later : Inside) (e : Context) (h h' : Body) (ws : List Variant) → AddsMembers m a ms d f g e h
      → AreVariants e h (variants_in pick) ws → later ≡ adt_inside name g ws → ((n : ℕ) → at e h' n ≡ leave (at e h n))
      → AddsAdt m name ms pick c b later e h'
  adt_adds g later e h h' ws adds variants is left n = (g, ws, at e h n, inside_of n g e h adds, variants, is, left n)

-- the rows that were there, and the scopes
module _ (m : Bool) (name : List ℕ) (ms : Members) (pick : Option (List decls.Variant)) (c : Context) (b : Body) (g : Inside)
    (e : Context) (h : Body) (adds : AddsAdt m name ms pick c b g e h) (deep : 0 < length b.scopes)
    (even : length c.members ≡ length c.adts) where
  pub rows_stay : (i : ℕ) → i < length c.members → slice_get e.members i ≡ slice_get c.members i
  rows_stay i l = (stays_member m (AdtMember name ms pick) (at c b 0) g (at e h 0) deep even (adds 0)).rows i l tt

  pub scopes_stay : h.scopes ≡ declared name (meaning.Adt (length c.adts)) b.scopes
  scopes_stay = adt_scopes m name ms pick (at c b 0) g (at e h 0) deep even (adds 0)
