-- What fails declares nothing.
use Rattle.std.proofs.Common.{◌≡◌, sym, ap, ◌∙◌, subst, ℕ, suc, ◌≤◌, ◌<◌, inl, inr, Bool, true, false, List, [], ◌∷◌, length, Option, None}
use Rattle.std.proofs.Common.{Some, arith}
use Rattle.std.proofs.lemmas.Bool.{false≢true}
use Rattle.std.proofs.lemmas.Option.{none-some, same_Some}
use Rattle.limbo_tree.specs.Exprs as tree
use Rattle.limbo_tree.specs.Types as written
use Rattle.limbo_tree.specs.Decls as decls
use Rattle.limbo_tree.specs.Decls.{Decl, Member, AdtMember, Members}
use Rattle.limbo_types.specs.Types.{Ty, Tuple, FnTy}
use Rattle.limbo_types.specs.View.{tys_of}
use Rattle.limbo_layout.specs.Adts.{Field, Variant, Has, field_types, parts}
use Rattle.limbo_typed.specs.Typed.{Expr, Stmt}
use Rattle.limbo_typed.specs.Sound.{Each, type_of, IsSettled}
use Rattle.limbo_standing.specs.Standing.{Settles}
use Rattle.limbo_allowed.proofs.Decided.{refused_not_allowed}
use Rattle.limbo_allowed.specs.Allowed.{IsUserModule}
use Rattle.limbo_typing.specs.limbo_permits.Permits.{nodes, most_nodes}
use Rattle.limbo_refusals.specs.Refusals.{Refusal}
use Rattle.limbo_causes.specs.Causes.{Cause}
use Rattle.limbo_context.specs.declared.context.Imported.{Imported}
use Rattle.limbo_context.specs.declared.context.Origin.{Origin}
use Rattle.limbo_context.specs.Context.{Context, Body, Valued}
use Rattle.limbo_typing.specs.limbo_body_types.Means.{module_led}
use Rattle.limbo_typing.specs.limbo_written.Written.{MeansPermitted}
use Rattle.limbo_typing.proofs.limbo_written_lemmas.Once.{one_written, fails_or_written}
use Rattle.limbo_typing.specs.limbo_folding.Folding.{value_of}
use Rattle.limbo_typing.specs.Laws.{OneValue, FailsOrValue}
use Rattle.limbo_local.specs.Points.{Point, AreNew}
use Rattle.limbo_local.specs.Local.{counting, seeing_iota, IsConstant, AreConstants, NamesModule, AreImported, ArePermitted}
use Rattle.limbo_local.specs.Local.{IsAnswer, IsHeader}
use Rattle.limbo_local.specs.Local.{argument_types}
use Rattle.limbo_local.specs.Declaring.{Declares}
use Rattle.limbo_local.specs.Members.{Inside, showing_adt, showing_module, variants_in, AreFields, AreVariants, open_adt, open_module}
use Rattle.limbo_local.specs.Members.{AddsToAdt, AllAddToAdt, AllMayStand, with_adts, IsAdt, AddsToModule, AllAddToModule}
use Rattle.limbo_local.specs.Failing as fails
use Rattle.limbo_local.specs.Failing.{FailsConstant, FailsConstants, FailsModule, HasNoMember, FailsTypes, FailsHeader, FailsFields}
use Rattle.limbo_local.specs.Failing.{FailsVariants, FailsInAdt, FailsAllInAdt, FailsToStand, FailsAdt, FailsInModule, FailsAllInModule}
use Rattle.limbo_local.specs.Failing.{FailsToDeclare}
use Rattle.limbo_local.proofs.Once.{same_two, value_once, one_constant, one_constants, one_module, one_in_adt, all_in_adt_one}
use Rattle.limbo_local.proofs.Once.{one_in_module}

-- ---- constants

module _ (ov : OneValue) (fv : FailsOrValue) where
  not_constant : (p : Point) (e : tree.Expr) (k : ℕ) (c : Cause) → FailsConstant p e k c → (v : Valued) (q : Point)
      → IsConstant p e k v q → ⊥
  not_constant p e k _ (fails.no_value c f) v q h =
      fv (counting k p.context) (seeing_iota p.context p.body) h.behind e c h.value f h.has
  not_constant p e k _ (fails.not_constant x b m n) v q h =
      let a = ov (counting k p.context) (seeing_iota p.context p.body) b h.behind e x h.value m h.has in
      none-some v.value (sym n ∙ ap value_of a.0 ∙ h.known)

  not_constants : (e : tree.Expr) (k : ℕ) (ns : List (List ℕ)) (p : Point) (c : Cause) → FailsConstants e k ns p c → (vs : List Valued)
      (q : Point) → AreConstants e k ns vs p q → ⊥
  not_constants e _ _ _ _ (fails.this_name k n ns p c f) [] q h = absurd h
  not_constants e _ _ _ _ (fails.this_name k n ns p c f) (v ∷ vs) q h = not_constant p e k c f v h.0 h.1
  not_constants e _ _ _ _ (fails.later_name k n ns p r w c i f) [] q h = absurd h
  not_constants e _ _ _ _ (fails.later_name k n ns p r w c i f) (v ∷ vs) q h =
      let a = one_constant ov p e k w v r h.0 i h.1 in
      not_constants e (suc k) ns r c f vs q (subst (λ (z : Point). AreConstants e (suc k) ns vs z q) (sym a.1) h.2)

-- ---- imported names

not_module : (p : Point) (n : List ℕ) (k : Cause) → FailsModule p n k → (o : Origin) (i : ℕ) → NamesModule p n o i → ⊥
not_module p n _ (fails.unseen e) o i h = none-some h.means (sym e ∙ h.is_seen)
not_module p n _ (fails.no_module m s e) o i h =
    let a : m ≡ h.means = same_Some m h.means (sym s ∙ h.is_seen) in
    none-some i (sym e ∙ ap (λ x. module_led p.context p.body x) a ∙ h.leads)

not_imported : (c : Context) (o : Origin) (i : ℕ) (ns : List (List ℕ)) → HasNoMember c i ns → (xs : List Imported)
    → AreImported c o i ns xs → ⊥
not_imported c o i _ (fails.this_member n ns e) [] h = absurd h
not_imported c o i _ (fails.this_member n ns e) (x ∷ xs) h = none-some h.0.0 (sym e ∙ h.0.1)
not_imported c o i _ (fails.later_member n ns f) [] h = absurd h
not_imported c o i _ (fails.later_member n ns f) (x ∷ xs) h = not_imported c o i ns f xs h.1

-- ---- functions

module _ (c : Context) (b : Body) where
  not_permitted : (ts : List written.Ty) (k : Cause) → FailsTypes c b ts k → (us : List Ty) → ArePermitted c b ts us → ⊥
  not_permitted _ _ (fails.this_type t ts k f) [] h = absurd h
  not_permitted _ _ (fails.this_type t ts k f) (u ∷ us) h = fails_or_written c b t k u f h.0
  not_permitted _ _ (fails.later_type t ts k f) [] h = absurd h
  not_permitted _ _ (fails.later_type t ts k f) (u ∷ us) h = not_permitted ts k f us h.1

  answered : (a : Option written.Ty) (t : written.Ty) (u : Ty) → a ≡ Some t → IsAnswer c b a u
      → MeansPermitted c b t u × (IsUserModule c.system u → ⊥)
  answered a t u e h = subst (λ (z : Option written.Ty). IsAnswer c b z u) e h

  pub not_header : (f : decls.FnType) (k : Cause) → FailsHeader c b f k → (of : FnTy) → IsHeader c b f of → ⊥
  not_header f _ (fails.an_argument k x) of h = not_permitted (argument_types f.params) k x of.args h.args
  not_header f _ (fails.the_answer t k e x) of h = fails_or_written c b t k of.answer x (answered f.answer t of.answer e h.answer).0
  not_header f _ (fails.a_module t u e m n) of h =
      let a = answered f.answer t of.answer e h.answer in
      a.1 (subst (λ (z : Ty). IsUserModule c.system z) (one_written c b t u of.answer m a.0) n)

  -- ---- adts and modules

  not_fields : (fs : List decls.Field) (k : Cause) → FailsFields c b fs k → (gs : List Field) → AreFields c b fs gs → ⊥
  not_fields _ _ (fails.this_field f fs k x) gs h = fails_or_written c b f.of k h.0 x h.2
  not_fields _ _ (fails.later_field f fs k x) gs h = not_fields fs k x h.1 h.3

  not_variants : (vs : List decls.Variant) (k : Cause) → FailsVariants c b vs k → (ws : List Variant) → AreVariants c b vs ws → ⊥
  not_variants _ _ (fails.this_variant v vs k x) ws h = not_fields v.fields k x h.0 h.2
  not_variants _ _ (fails.later_variant v vs k x) ws h = not_variants vs k x h.1 h.3

each_has : (P : Ty → Type 0) (ts : List Ty) (t : Ty) → Each P ts → Has ts t → P t
each_has P [] t h k = absurd k
each_has P (u ∷ ts) t h k = elim k [ inl e ↦ subst P e h.0 | inr l ↦ each_has P ts t h.1 l ]

not_standing : (first : ℕ) (c : Context) (r : Refusal) → FailsToStand first c r → AllMayStand first c → ⊥
not_standing first c _ (fails.parts_refused a d r l e f) all =
    refused_not_allowed c.adts (length c.modules) c.system c.fd (Tuple (tys_of (parts d))) r f (all a d l e).allowed
not_standing first c _ (fails.too_long a d t l e i m) all =
    let s : nodes t ≤ most_nodes = each_has (λ z. nodes z ≤ most_nodes) (field_types d) t (all a d l e).small i in
    let x : most_nodes < nodes t = m in omega arith

module _ (ov : OneValue) (fv : FailsOrValue) where
  mutual
    not_in_adt : (o : Bool) (m : Member) (p : Point) (k : Cause) → FailsInAdt o m p k → (g : Inside) (q : Point) → AddsToAdt o m p g q → ⊥
    not_in_adt o _ _ _ (fails.a_field ns t p k f) g q h = fails_or_written p.context p.body t k h.0 f h.1
    not_in_adt o _ _ _ (fails.undefined ns f p e) g q h = false≢true (sym e ∙ h.1)
    not_in_adt o _ _ _ (fails.a_header ns f p k x) g q h = not_header p.context p.body f k x h.0 h.2
    not_in_adt o _ _ _ (fails.a_constant ns e p k f) g q h = not_constants ov fv e 0 ns p k f h.0 h.1 h.2
    not_in_adt o _ _ _ (fails.a_type ns t p k f) g q h = fails_or_written p.context p.body t k h.0 f h.1
    not_in_adt o _ _ _ (fails.in_inner n ms pick p k f) g q h =
        none_in_adt o (length p.context.adts) ms (open_adt n (variants_in pick) p) k f h.0 h.2 h.3
    not_in_adt o _ _ _ (fails.a_variant n ms pick p r i k m f) g q h =
        let s = all_in_adt_one ov o (length p.context.adts) ms (open_adt n (variants_in pick) p) i h.0 r h.2 m h.3 in
        not_variants r.context r.body (variants_in pick) k f h.1
        (subst (λ (z : Point). AreVariants z.context z.body (variants_in pick) h.1) (sym s.1) h.4)

    none_in_adt : (o : Bool) (a : ℕ) (ms : Members) (p : Point) (k : Cause) → FailsAllInAdt o a ms p k → (g : Inside) (q : Point)
        → AllAddToAdt o a ms p g q → ⊥
    none_in_adt o _ _ _ _ (fails.here a m ms p k f) g q h = not_in_adt o m p k f h.0 h.2 h.3
    none_in_adt o _ _ _ _ (fails.later a m ms p r i k x f) g q h =
        let s = one_in_adt ov o m p i h.0 r h.2 x h.3 in
        none_in_adt o a ms (showing_adt a r) k f h.1 q (subst (λ (z : Point). AllAddToAdt o a ms (showing_adt a z) h.1 q) (sym s.1) h.4)

  not_adt : (o : Bool) (n : List ℕ) (ms : Members) (pick : Option (List decls.Variant)) (p : Point) (k : Cause) → FailsAdt o n ms pick p k
      → (q : Point) → IsAdt o n ms pick p q → ⊥
  not_adt o n ms pick p _ (fails.in_adt k f) q h = not_in_adt o (AdtMember n ms pick) p k f h.inside h.behind h.adds
  not_adt o n ms pick p _ (fails.stands_not g r i x f) q h =
      let a = one_in_adt ov o (AdtMember n ms pick) p g h.inside r h.behind x h.adds in
      let e =
      same_two (λ (j : Inside) (z : Point). with_adts (length p.context.adts) j.adts z) g h.inside r h.behind a.0 a.1 ∙ sym h.goes_on in
      not_standing (length p.context.adts) (with_adts (length p.context.adts) g.adts r).context i f
      (subst (λ (y : Point). AllMayStand (length p.context.adts) y.context) (sym e) h.stand)

  not_in_module : (i : ℕ) (m : Member) (p : Point) (k : Cause) → FailsInModule i m p k → (q : Point) → AddsToModule i m p q → ⊥
  not_in_module i _ _ _ (fails.its_variable ns t p k f) q h = fails_or_written p.context p.body t k h.0 f h.1
  not_in_module i _ _ _ (fails.its_function ns f p k x) q h = not_header p.context p.body f k x h.0 h.1
  not_in_module i _ _ _ (fails.its_constant ns e p k f) q h = not_constants ov fv e 0 ns p k f h.0 h.1 h.2
  not_in_module i _ _ _ (fails.its_type ns t p k f) q h = fails_or_written p.context p.body t k h.0 f h.1
  not_in_module i _ _ _ (fails.its_adt n ms pick p k f) q h = not_adt true n ms pick p k f q h

  none_in_module : (i : ℕ) (ms : Members) (p : Point) (k : Cause) → FailsAllInModule i ms p k → (q : Point) → AllAddToModule i ms p q → ⊥
  none_in_module i _ _ _ (fails.this_member_fails m ms p k f) q h = not_in_module i m p k f h.0 h.1
  none_in_module i _ _ _ (fails.later_member_fails m ms p r k x f) q h =
      let s = one_in_module ov i m p r h.0 x h.1 in
      none_in_module i ms (showing_module i r) k f q (subst (λ (z : Point). AllAddToModule i ms (showing_module i z) q) (sym s) h.2)

-- ---- declarations

module _ (ov : OneValue) (fv : FailsOrValue) where
  new_at : (ns : List (List ℕ)) (p q : Point) → p ≡ q → (AreNew ns p.body → ⊥) → AreNew ns q.body → ⊥
  new_at ns p q e n h = n (subst (λ (z : Point). AreNew ns z.body) (sym e) h)

  pub not_declared : (m : List ℕ) (d : Decl) (p : Point) (k : Cause) → FailsToDeclare d p k → (q : Point) (z : Stmt)
      → Declares m d p z q → ⊥
  not_declared m _ _ _ (fails.constant ns e p k f) q z h = not_constants ov fv e 0 ns p k f h.0 h.1 h.2
  not_declared m _ _ _ (fails.constant_again ns e p r vs i n) q z h =
      new_at ns r h.1 (one_constants ov e 0 ns vs h.0 p r h.1 i h.2).1 n h.3
  not_declared m _ _ _ (fails.type ns t p k f) q z h = fails_or_written p.context p.body t k h.0 f h.1
  not_declared m _ _ _ (fails.type_again ns t p n) q z h = n h.2
  not_declared m _ _ _ (fails.type_of_variable ns t None p k f) q z h = fails_or_written p.context p.body t k h.0 f h.1
  not_declared m _ _ _ (fails.type_of_variable ns t (Some e) p k f) q z h = fails_or_written p.context p.body t k h.0 f h.4
  not_declared m _ _ _ (fails.variable_again ns t p n) q z h = n h.2
  not_declared m _ _ _ (fails.value ns t e p k f) q z h = fv p.context p.body h.5.behind e k h.1 f h.5.has
  not_declared m _ _ _ (fails.value_unfit ns t e p r u x i w v f) q z h =
      let a = one_written p.context p.body t u h.0 w h.4 in
      let b = value_once ov p e x h.1 r h.3 v h.5 in
      let s = subst (λ (y : Ty). Settles y h.1 h.2) (sym a) h.6 in
      f.stands_not h.2 (subst (λ (y : Expr). Settles u y h.2) (sym b.0) s)
  not_declared m _ _ _ (fails.valued_again ns t e p r x v n) q z h =
      new_at ns r h.3 (value_once ov p e x h.1 r h.3 v h.5).1 n h.7
  not_declared m _ _ _ (fails.defined ns e p k f) q z h = fv p.context p.body h.2.behind e k h.0 f h.2.has
  not_declared m _ _ _ (fails.open_value ns e p r x v n) q z h =
      n (subst (λ (y : Expr). IsSettled (type_of y)) (sym (value_once ov p e x h.0 r h.1 v h.2).0) h.3)
  not_declared m _ _ _ (fails.defined_again ns e p r x v n) q z h = new_at ns r h.1 (value_once ov p e x h.0 r h.1 v h.2).1 n h.4
  not_declared m _ _ _ (fails.no_module ns n p k f) q z h = not_module p n k f h.0 h.1 h.3
  not_declared m _ _ _ (fails.no_member ns n p o i a f) q z h =
      let e = one_module p n o h.0 i h.1 a h.3 in
      not_imported p.context h.0 i ns f h.2 (subst (λ (j : ℕ). AreImported p.context h.0 j ns h.2) (sym e.1) h.4)
  not_declared m _ _ _ (fails.imported_again ns n p x) q z h = x h.5
  not_declared m _ _ _ (fails.values ns ts p k f) q z h = fails_or_written p.context p.body (written.Tuple ts) k (Tuple h.0) f h.1
  not_declared m _ _ _ (fails.exception_again ns ts p n) q z h = n h.2
  not_declared m _ _ _ (fails.in_module n ms p k f) q z h =
      none_in_module ov fv (length p.context.interfaces) ms (open_module n p) k f h.0 h.3
  not_declared m _ _ _ (fails.module_repeats n ms p x) q z h = x h.1
  not_declared m _ _ _ (fails.module_again n ms p x) q z h = x h.2
  not_declared m _ _ _ (fails.adt n ms pick p k f) q z h = not_adt ov fv false n ms pick p k f q h.2
  not_declared m _ _ _ (fails.adt_repeats n ms pick p x) q z h = x h.0
  not_declared m _ _ _ (fails.adt_again n ms pick p x) q z h = x h.1
