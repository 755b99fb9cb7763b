-- The rules of typing and of failing, as the code comes to them.
use Rattle.std.proofs.Common.{◌≡◌, ℕ, List, pos, None, Some, Bool, true, false, refl, sym, ap, subst, ◌∙◌}
use Rattle.limbo_types.specs.Types.{Ty, Nothing, Int, Chars, Module}
use Rattle.std.specs.Prelude.{Result, IfErr}
use Rattle.std.proofs.lemmas.Option.{none-some}
use Rattle.std.proofs.lemmas.Result.{IfErr-weaker}
use Rattle.limbo_types.specs.View.{view_ty}
use Rattle.limbo_typed.specs.declared.expr.TExpr as code_typed
use Rattle.limbo_typed.specs.View.{view_expr}
use Rattle.limbo_refusals.specs.declared.fault.ExprFault.{ExprFault}
use Rattle.limbo_calls.proofs.limbo_arguments_lemmas.Faults.{refuses_weaker}
use Rattle.limbo_places.specs.Elements.{Indexes}
use Rattle.limbo_exprs.specs.declared.shapes.OfTwo.TheVariants as of_two
use Rattle.limbo_exprs.proofs.Tested.{typed_as}
use Rattle.limbo_tree.specs.declared.operators.AssignOp.{AssignOp}
use Rattle.limbo_tree.specs.declared.operators.AssignOp.TheVariants as assign
use Rattle.limbo_tree.specs.Exprs as tree
use Rattle.limbo_tree.specs.Types as written
use Rattle.limbo_typed.specs.declared.print.Printed.{Printed}
use Rattle.limbo_typed.specs.Typed.{Expr, Exprs, NoExprs, Optional, Absent, Items, Pattern}
use Rattle.limbo_typed.specs.Sound.{type_of, IsSettled}
use Rattle.limbo_refusals.specs.Refusals as refusals
use Rattle.limbo_refusals.specs.Refusals.{Refusal, Clash, Refuses, NoneIs}
use Rattle.limbo_causes.specs.declared.fault.Cause as code
use Rattle.limbo_causes.specs.Causes.{Cause, Refused, nothing, FailsBy, ByRefusal}
use Rattle.limbo_causes.proofs.Telling.{fails_weaker}
use Rattle.limbo_context.specs.Context.{Context, Body}
use Rattle.limbo_permits.specs.Permits.{Forbids}
use Rattle.limbo_operands.specs.Operands as operands
use Rattle.limbo_operands.specs.Operands.{IsPlace}
use Rattle.limbo_things.specs.Things.{Thing, AValue, AType, APrint, MemberIs, PartIs, NameIs}
use Rattle.limbo_written.specs.Written.{MeansPermitted, FailsAsType}
use Rattle.limbo_defining.specs.Defining.{FailsDefine}
use Rattle.limbo_assigning.specs.Assigning.{Assigns, type_in}
use Rattle.limbo_places.specs.Slices.{Slices, Hinders}
use Rattle.limbo_channels.specs.Loading.{Loads}
use Rattle.limbo_literals.specs.Literals.{Fills, Sizes}
use Rattle.limbo_literals.specs.Refusing.{RefusesFill, NoLength}
use Rattle.limbo_typing.specs.limbo_value_forms.Forms.{one, two, itself, values_in, copied, given_by, Forms, RefusesForm}
use Rattle.limbo_typing.specs.limbo_value_forms.Forms.{Gives, AssignForms, RefusesGives, RefusesAssign}
use Rattle.limbo_typing.specs.Typing.{is_path, is_pattern, Denotes, HasValue, Types, Has, HaveValues, MayHave, Fill, IsPattern, ArePatterns}
use Rattle.limbo_typing.specs.Typing as typing
use Rattle.limbo_typing.specs.Failing.{unfit, IsNoPrint, FailsName, FailsModule, FailsThing, FailsValue, Fails, FailsForm, FailsSome}
use Rattle.limbo_typing.specs.Failing.{FailsPart}
use Rattle.limbo_typing.specs.Failing.{FailsFill, FailsPlace, FailsPattern, FailsPatterns, changed_in, is_enclosed}
use Rattle.limbo_typing.specs.Failing as failing
use Rattle.limbo_exprs.specs.declared.shapes.OfOne.{OfOne}
use Rattle.limbo_exprs.specs.declared.shapes.OfOne.TheVariants as of_one
use Rattle.limbo_exprs.specs.declared.shapes.OfTwo.{OfTwo}
use Rattle.limbo_exprs.specs.Parts.{with_one, with_two, if_changed, FailsAs}
use Rattle.limbo_exprs.specs.Calling.{FailsApplied, FailsPrinted}
use Rattle.limbo_exprs.specs.Calling as calling

pub one_in : (form : OfOne) (e : tree.Expr) → values_in (with_one form e) ≡ Some (one e)
one_in (of_one.Before o) e = refl
one_in (of_one.Behind o) e = refl
one_in of_one.Bytes e = refl

-- an operator that stands between its two parts as values is neither `=` nor `:=`
pub given_forms : (o : AssignOp) → ((l r : tree.Expr) → given_by o l r ≡ Some (two l r)) → (x y z : Expr) → Gives o x y z
    → AssignForms o (operands.two x y) z
given_forms assign.Assign h x y z g = absurd (none-some _ (h tree.Nil tree.Nil))
given_forms _ h x y z g = g

pub forms_given : (o : AssignOp) (x y z : Expr) → AssignForms o (operands.two x y) z → Gives o x y z
forms_given assign.Assign x y z g = absurd g
forms_given _ x y z g = g

pub given_refuses : (o : AssignOp) → ((l r : tree.Expr) → given_by o l r ≡ Some (two l r)) → (x y : Expr) (r : Refusal)
    → RefusesGives o x y r → RefusesAssign o (operands.two x y) r
given_refuses assign.Assign h x y r g = absurd (none-some _ (h tree.Nil tree.Nil))
given_refuses _ h x y r g = g

given_refusal : (c : Context) (o : AssignOp) → ((l r : tree.Expr) → given_by o l r ≡ Some (two l r)) → (x y : Expr) (l r : tree.Expr)
    (s : Refusal) → RefusesGives o x y s × NoneIs (Gives o x y)
    → RefusesForm c (tree.Assign o l r) (operands.two x y) s × NoneIs (Forms c (tree.Assign o l r) (operands.two x y))
given_refusal c o h x y l r s z = (given_refuses o h x y s z.0, λ e q. z.1 e (forms_given o x y e q))

pub give_refused : {T : Type 0} (res : Result T ExprFault) (c : Context) (form : OfTwo) (o : AssignOp) → form ≡ of_two.Give o
    → ((l r : tree.Expr) → values_in (with_two form l r) ≡ Some (two l r)) → (x y : Expr)
    → IfErr res (λ f. Refuses f (λ s. RefusesGives o x y s × NoneIs (Gives o x y))) → (l r : tree.Expr)
    → IfErr res (λ f. Refuses f
    (λ s. RefusesForm c (with_two form l r) (operands.two x y) s × NoneIs (Forms c (with_two form l r) (operands.two x y))))
give_refused res c form o is h x y told l r =
    let g : (l' r' : tree.Expr) → given_by o l' r' ≡ Some (two l' r') =
    subst (λ (f : OfTwo). (l' r' : tree.Expr) → values_in (with_two f l' r') ≡ Some (two l' r')) is h in
    subst
    (λ (f : OfTwo). IfErr res (λ q. Refuses q
    (λ s. RefusesForm c (with_two f l r) (operands.two x y) s × NoneIs (Forms c (with_two f l r) (operands.two x y))))) (sym is)
    (IfErr-weaker res _ _ (λ q j. refuses_weaker q _ _ (given_refusal c o g x y l r) j) told)

index_refusal : (c : Context) (x y : code_typed.TExpr) (l r : tree.Expr) (s : Refusal)
    → (s ≡ Clash (view_ty x.ty) (view_ty y.ty)) × NoneIs (Indexes (view_expr x) (view_expr y))
    → RefusesForm c (tree.Index l r) (operands.two (view_expr x) (view_expr y)) s
    × NoneIs (Forms c (tree.Index l r) (operands.two (view_expr x) (view_expr y)))
index_refusal c x y l r s z =
    (z.0 ∙ ap (λ t. Clash t (view_ty y.ty)) (sym (typed_as x)) ∙ ap (Clash (type_of (view_expr x))) (sym (typed_as y)), z.1)

pub index_refused : {T : Type 0} (res : Result T ExprFault) (c : Context) (form : OfTwo) → form ≡ of_two.Index
    → (x y : code_typed.TExpr)
    → IfErr res (λ f. Refuses f (λ s. (s ≡ Clash (view_ty x.ty) (view_ty y.ty)) × NoneIs (Indexes (view_expr x) (view_expr y))))
    → (l r : tree.Expr) → IfErr res (λ f. Refuses f (λ s. RefusesForm c (with_two form l r) (operands.two (view_expr x) (view_expr y)) s
    × NoneIs (Forms c (with_two form l r) (operands.two (view_expr x) (view_expr y)))))
index_refused res c form is x y told l r =
    subst
    (λ (f : OfTwo). IfErr res (λ q. Refuses q (λ s. RefusesForm c (with_two f l r) (operands.two (view_expr x) (view_expr y)) s
    × NoneIs (Forms c (with_two f l r) (operands.two (view_expr x) (view_expr y)))))) (sym is)
    (IfErr-weaker res _ _ (λ q j. refuses_weaker q _ _ (index_refusal c x y l r) j) told)

module _ (c : Context) (b : Body) (f : code.Cause) where
  -- ---- things

  pub name_fails : (n : List ℕ) → FailsBy f (FailsName c b n) → FailsBy f (FailsThing c b (tree.Name n))
  name_fails n h = fails_weaker f _ _ (λ k x. failing.bad_name b n k x) h

  pub base_of_member_fails : (e : tree.Expr) (n : List ℕ) → FailsBy f (FailsThing c b e) → FailsBy f (FailsThing c b (tree.Arrow e n))
  base_of_member_fails e n h = fails_weaker f _ _ (λ k x. failing.before_member b e n k x) h

  pub member_fails : (e : tree.Expr) (n : List ℕ) (s : Thing) (b' : Body) → Denotes c b e s b'
      → FailsBy f (λ k. (k ≡ unfit s) × NoneIs (MemberIs c n s)) → FailsBy f (FailsThing c b (tree.Arrow e n))
  member_fails e n s b' d h =
      fails_weaker f _ _ (λ k x. subst (FailsThing c b (tree.Arrow e n)) (sym x.0) (failing.no_member b b' e n s d x.1)) h

  pub base_of_part_fails : (e : tree.Expr) (n : List ℕ) → FailsBy f (FailsThing c b e) → FailsBy f (FailsThing c b (tree.Dot e n))
  base_of_part_fails e n h = fails_weaker f _ _ (λ k x. failing.before_part b e n k x) h

  pub part_fails : (e : tree.Expr) (n : List ℕ) (s : Thing) (b' : Body) → Denotes c b e s b'
      → FailsBy f (λ k. (k ≡ unfit s) × NoneIs (PartIs c n s)) → FailsBy f (FailsThing c b (tree.Dot e n))
  part_fails e n s b' d h =
      fails_weaker f _ _ (λ k x. subst (FailsThing c b (tree.Dot e n)) (sym x.0) (failing.no_part_of b b' e n s d x.1)) h

  pub thing_fails : (e : tree.Expr) → is_path e ≡ false → FailsBy f (FailsValue c b e) → FailsBy f (FailsThing c b e)
  thing_fails e p h = fails_weaker f _ _ (λ k x. failing.no_value b e k p x) h

  pub module_name_fails : (n : List ℕ) → FailsBy f (FailsName c b n) → FailsBy f (FailsModule c b n)
  module_name_fails n h = fails_weaker f _ _ (λ k x. failing.no_name k x) h

  pub no_module_fails : (n : List ℕ) (t : Thing) → NameIs c b n t → NoneIs (λ i. t ≡ AType (Module i)) → FailsBy f (λ k. k ≡ unfit t)
      → FailsBy f (FailsModule c b n)
  no_module_fails n t is none h =
      fails_weaker f _ _ (λ k e. subst (FailsModule c b n) (sym e) (failing.no_module t is none)) h

  -- ---- values

  pub value_fails : (e : tree.Expr) → FailsBy f (Fails c b e) → FailsBy f (FailsValue c b e)
  value_fails e h = fails_weaker f _ _ (λ k x. failing.untyped b e k x) h

  pub answer_fails : (e : tree.Expr) (x : Expr) (b' : Body) → Types c b e x b' → FailsBy f (λ k. (k ≡ nothing) × (type_of x ≡ Nothing))
      → FailsBy f (FailsValue c b e)
  answer_fails e x b' t h = fails_weaker f _ _ (λ k y. subst (FailsValue c b e) (sym y.0) (failing.no_answer b b' e x t y.1)) h

  pub form_fails : (e : tree.Expr) → FailsBy f (FailsForm c b e) → FailsBy f (Fails c b e)
  form_fails e h = fails_weaker f _ _ (λ k x. failing.no_form b e k x) h

  pub permit_fails : (e : tree.Expr) (x : Expr) (b' : Body) → Has c b e x b' → FailsBy f (ByRefusal (Forbids c x)) → FailsBy f (Fails c b e)
  permit_fails e x b' t h =
      fails_weaker f _ _ (λ k y. subst (Fails c b e) (sym y.1) (failing.not_permitted b b' e x y.0 t y.2)) h

  pub part_value_fails : (e : tree.Expr) → FailsBy f (FailsValue c b e) → FailsBy f (FailsPart c b (tree.Present e))
  part_value_fails e h = fails_weaker f _ _ (λ k x. failing.there b e k x) h

  -- ---- forms of values

  pub values_fail : (e : tree.Expr) (es : tree.Exprs) → values_in e ≡ Some es → changed_in e ≡ None → FailsBy f (FailsSome c b es)
      → FailsBy f (FailsForm c b e)
  values_fail e es v n h = fails_weaker f _ _ (λ k x. failing.a_value b e es k v n x) h

  -- the first part, which its form changes or takes as it is, and those behind it
  pub first_part_fails : (e l : tree.Expr) (es : tree.Exprs) (changes : Bool) → values_in e ≡ Some (tree.MoreExprs l es)
      → changed_in e ≡ if_changed changes l → FailsBy f (FailsAs changes c b l) → FailsBy f (FailsForm c b e)
  first_part_fails e l es true v n h = fails_weaker f _ _ (λ k x. failing.what_changes b e l k n x) h
  first_part_fails e l es false v n h =
      fails_weaker f _ _ (λ k x. failing.a_value b e (tree.MoreExprs l es) k v n (failing.here b l es k x)) h

  pub later_part_fails : (e l : tree.Expr) (es : tree.Exprs) (changes : Bool) (x : Expr) (b' : Body)
      → values_in e ≡ Some (tree.MoreExprs l es) → changed_in e ≡ if_changed changes l → HasValue c b l x b'
      → FailsBy f (FailsSome c b' es) → FailsBy f (FailsForm c b e)
  later_part_fails e l es true x b' v n m h = fails_weaker f _ _ (λ k y. failing.changed_by b b' e l es x k n v m y) h
  later_part_fails e l es false x b' v n m h =
      fails_weaker f _ _ (λ k y. failing.a_value b e (tree.MoreExprs l es) k v n (failing.later b b' l es x k m y)) h

  pub first_fails : (e : tree.Expr) (es : tree.Exprs) → FailsBy f (FailsValue c b e) → FailsBy f (FailsSome c b (tree.MoreExprs e es))
  first_fails e es h = fails_weaker f _ _ (λ k x. failing.here b e es k x) h

  pub later_fails : (e : tree.Expr) (es : tree.Exprs) (x : Expr) (b' : Body) → HasValue c b e x b' → FailsBy f (FailsSome c b' es)
      → FailsBy f (FailsSome c b (tree.MoreExprs e es))
  later_fails e es x b' v h = fails_weaker f _ _ (λ k y. failing.later b b' e es x k v y) h

  pub refused_fails : (e : tree.Expr) (es : tree.Exprs) (xs : Exprs) (b' : Body) → values_in e ≡ Some es → HaveValues c b es xs b'
      → FailsBy f (ByRefusal (λ r. RefusesForm c e xs r × NoneIs (Forms c e xs))) → FailsBy f (FailsForm c b e)
  refused_fails e es xs b' v hv h =
      fails_weaker f _ _ (λ k y. subst (FailsForm c b e) (sym y.1) (failing.refused_form b b' e es xs y.0 v hv y.2.0 y.2.1)) h

  pub inside_fails : (e : tree.Expr) → FailsBy f (Fails c b e) → FailsBy f (FailsForm c b (tree.Group (one e)))
  inside_fails e h = fails_weaker f _ _ (λ k x. failing.inside b e k x) h

  -- ---- paths

  pub path_fails : (e : tree.Expr) → is_path e ≡ true → FailsBy f (FailsThing c b e) → FailsBy f (FailsForm c b e)
  path_fails e p h = fails_weaker f _ _ (λ k x. failing.bad_path b e k p x) h

  pub path_value_fails : (e : tree.Expr) (t : Thing) (b' : Body) → is_path e ≡ true → Denotes c b e t b'
      → FailsBy f (λ k. (k ≡ unfit t) × NoneIs (λ x. t ≡ AValue x)) → FailsBy f (FailsForm c b e)
  path_value_fails e t b' p d h =
      fails_weaker f _ _ (λ k y. subst (FailsForm c b e) (sym y.0) (failing.path_to_none b b' e t p d y.1)) h

  -- ---- slices

  pub slice_base_fails : (e : tree.Expr) (i j : tree.Part) → FailsBy f (FailsValue c b e) → FailsBy f (FailsForm c b (tree.Slice e i j))
  slice_base_fails e i j h = fails_weaker f _ _ (λ k x. failing.sliced b e i j k x) h

  pub slice_from_fails : (e : tree.Expr) (i j : tree.Part) (x : Expr) (b1 : Body) → HasValue c b e x b1 → FailsBy f (FailsPart c b1 i)
      → FailsBy f (FailsForm c b (tree.Slice e i j))
  slice_from_fails e i j x b1 v h = fails_weaker f _ _ (λ k y. failing.from_index b b1 e i j x k v y) h

  pub slice_to_fails : (e : tree.Expr) (i j : tree.Part) (x : Expr) (u : Optional) (b1 b2 : Body) → HasValue c b e x b1 → MayHave c b1 i u
      b2
      → FailsBy f (FailsPart c b2 j) → FailsBy f (FailsForm c b (tree.Slice e i j))
  slice_to_fails e i j x u b1 b2 v m h = fails_weaker f _ _ (λ k y. failing.to_index b b1 b2 e i j x u k v m y) h

  pub slice_fails : (e : tree.Expr) (i j : tree.Part) (x : Expr) (u v : Optional) (b1 b2 b3 : Body) → HasValue c b e x b1
      → MayHave c b1 i u b2 → MayHave c b2 j v b3
      → FailsBy f (ByRefusal (λ r. ((t : Ty) × Hinders x u v t × (r ≡ Clash t Int)) × NoneIs (Slices x u v)))
      → FailsBy f (FailsForm c b (tree.Slice e i j))
  slice_fails e i j x u v b1 b2 b3 h m n told =
      fails_weaker f _ _ (λ k y.
      subst (FailsForm c b (tree.Slice e i j)) (sym (y.1 ∙ ap Refused y.2.0.2))
      (failing.no_slice b b1 b2 b3 e i j x u v y.2.0.0 h m n y.2.0.1 y.2.1)) told

  -- ---- arrays and channels

  pub length_fails : (e : tree.Expr) (t : written.Ty) → FailsBy f (FailsValue c b e) → FailsBy f (FailsForm c b (tree.Sized e t))
  length_fails e t h = fails_weaker f _ _ (λ k x. failing.length b e t k x) h

  pub item_type_fails : (e : tree.Expr) (t : written.Ty) (x : Expr) (b1 : Body) → HasValue c b e x b1 → FailsBy f (FailsAsType c b1 t)
      → FailsBy f (FailsForm c b (tree.Sized e t))
  item_type_fails e t x b1 v h = fails_weaker f _ _ (λ k y. failing.item_type b b1 e t x k v y) h

  pub no_length_fails : (e : tree.Expr) (t : written.Ty) (u : Ty) (x : Expr) (b1 : Body) → HasValue c b e x b1 → MeansPermitted c b1 t u
      → FailsBy f (ByRefusal (λ r. NoLength x r × NoneIs (Sizes x u))) → FailsBy f (FailsForm c b (tree.Sized e t))
  no_length_fails e t u x b1 v m h =
      fails_weaker f _ _ (λ k y.
      subst (FailsForm c b (tree.Sized e t)) (sym y.1) (failing.no_length b b1 e t u x y.0 v m y.2.0 y.2.1)) h

  pub carried_fails : (t : written.Ty) → FailsBy f (FailsAsType c b t) → FailsBy f (FailsForm c b (tree.Channel tree.Absent t))
  carried_fails t h = fails_weaker f _ _ (λ k x. failing.carried_type b t k x) h

  pub array_length_fails : (n : tree.Part) (is : tree.Inits) (comma : Bool) → FailsBy f (FailsPart c b n)
      → FailsBy f (FailsForm c b (tree.Filled n is comma))
  array_length_fails n is comma h = fails_weaker f _ _ (λ k x. failing.array_length b n is comma k x) h

  pub an_item_fails : (n : tree.Part) (is : tree.Inits) (comma : Bool) (u : Optional) (b1 : Body) → MayHave c b n u b1
      → FailsBy f (FailsFill c b1 (pos 0) Absent is) → FailsBy f (FailsForm c b (tree.Filled n is comma))
  an_item_fails n is comma u b1 m h = fails_weaker f _ _ (λ k x. failing.an_item b b1 n is comma u k m x) h

  pub array_fails : (n : tree.Part) (is : tree.Inits) (comma : Bool) (u last : Optional) (js : Items) (b1 b2 : Body) → MayHave c b n u b1
      → Fill c b1 (pos 0) Absent is js last b2 → FailsBy f (ByRefusal (λ r. RefusesFill u js last r × NoneIs (Fills u js last)))
      → FailsBy f (FailsForm c b (tree.Filled n is comma))
  array_fails n is comma u last js b1 b2 m fill h =
      fails_weaker f _ _ (λ k y.
      subst (FailsForm c b (tree.Filled n is comma)) (sym y.1)
      (failing.no_array b b1 b2 n is comma u last js y.0 m fill y.2.0 y.2.1)) h

  -- ---- loads and calls

  pub module_fails : (n : List ℕ) (e : tree.Expr) → FailsBy f (FailsModule c b n) → FailsBy f (FailsForm c b (tree.Load n e))
  module_fails n e h = fails_weaker f _ _ (λ k x. failing.bad_module b n e k x) h

  pub load_path_fails : (n : List ℕ) (e : tree.Expr) (i : ℕ) → NameIs c b n (AType (Module i)) → FailsBy f (FailsValue c b e)
      → FailsBy f (FailsForm c b (tree.Load n e))
  load_path_fails n e i is h = fails_weaker f _ _ (λ k x. failing.path_of_module b n e i k is x) h

  pub load_fails : (n : List ℕ) (e : tree.Expr) (i : ℕ) (x : Expr) (b1 : Body) → NameIs c b n (AType (Module i)) → HasValue c b e x b1
      → FailsBy f (ByRefusal (λ r. (r ≡ Clash (type_of x) Chars) × NoneIs (Loads i x))) → FailsBy f (FailsForm c b (tree.Load n e))
  load_fails n e i x b1 is v h =
      fails_weaker f _ _ (λ k y. subst (FailsForm c b (tree.Load n e)) (sym y.1) (failing.no_load b b1 n e i x y.0 is v y.2.0 y.2.1)) h

  pub function_fails : (g : tree.Expr) (es : tree.Exprs) → FailsBy f (FailsThing c b g) → FailsBy f (FailsForm c b (tree.Call g es))
  function_fails g es h = fails_weaker f _ _ (λ k x. failing.function b g es k x) h

  apply_rule : (g : tree.Expr) (es : tree.Exprs) (t : Thing) (b1 : Body) → Denotes c b g t b1 → IsNoPrint t → (k : Cause)
      → FailsApplied c b1 t es k → FailsForm c b (tree.Call g es) k
  apply_rule g es t b1 d n _ (calling.an_argument k x) = failing.argument b b1 g es t k d n x
  apply_rule g es t b1 d n _ (calling.not_applied b2 xs r v x none) = failing.not_applied b b1 b2 g es t xs r d n v x none

  pub apply_fails : (g : tree.Expr) (es : tree.Exprs) (t : Thing) (b1 : Body) → Denotes c b g t b1 → IsNoPrint t
      → FailsBy f (FailsApplied c b1 t es) → FailsBy f (FailsForm c b (tree.Call g es))
  apply_fails g es t b1 d n h = fails_weaker f _ _ (apply_rule g es t b1 d n) h

  print_rule : (g : tree.Expr) (es : tree.Exprs) (p : Printed) (m : Expr) (b1 : Body) → Denotes c b g (APrint p m) b1 → (k : Cause)
      → FailsPrinted c b1 p m es k → FailsForm c b (tree.Call g es) k
  print_rule g es p m b1 d _ (calling.no_format x) = failing.no_format b b1 g es p m d x
  print_rule g es p m b1 d _ (calling.a_value text others k is x) = failing.printed_value b b1 g es others p m text k d is x
  print_rule g es p m b1 d _ (calling.no_print b2 text others xs ys o r is v to x none) =
      failing.no_print b b1 b2 g es others p m text xs ys o r d is v to x none

  pub print_fails : (g : tree.Expr) (es : tree.Exprs) (p : Printed) (m : Expr) (b1 : Body) → Denotes c b g (APrint p m) b1
      → FailsBy f (FailsPrinted c b1 p m es) → FailsBy f (FailsForm c b (tree.Call g es))
  print_fails g es p m b1 d h = fails_weaker f _ _ (print_rule g es p m b1 d) h

  -- ---- assignments

  pub left_fails : (l r : tree.Expr) → copied l r ≡ None → FailsBy f (FailsPattern c b l)
      → FailsBy f (FailsForm c b (tree.Assign assign.Assign l r))
  left_fails l r n h = fails_weaker f _ _ (λ k x. failing.left_side b l r k n x) h

  pub right_fails : (l r : tree.Expr) (p : Pattern) (b1 : Body) → copied l r ≡ None → IsPattern c b l p b1 → FailsBy f (FailsValue c b1 r)
      → FailsBy f (FailsForm c b (tree.Assign assign.Assign l r))
  right_fails l r p b1 n is h = fails_weaker f _ _ (λ k x. failing.right_side b b1 l r p k n is x) h

  pub assign_fails : (l r : tree.Expr) (p : Pattern) (y : Expr) (b1 b2 : Body) → copied l r ≡ None → IsPattern c b l p b1
      → HasValue c b1 r y b2 → FailsBy f (ByRefusal (λ s. (s ≡ Clash (type_in p) (type_of y)) × NoneIs (Assigns p y)))
      → FailsBy f (FailsForm c b (tree.Assign assign.Assign l r))
  assign_fails l r p y b1 b2 n is v h =
      fails_weaker f _ _ (λ k z.
      subst (FailsForm c b (tree.Assign assign.Assign l r)) (sym (z.1 ∙ ap Refused z.2.0))
      (failing.not_assigned b b1 b2 l r p y n is v z.2.1)) h

  pub value_defined_fails : (l r : tree.Expr) → FailsBy f (FailsValue c b r) → FailsBy f (FailsForm c b (tree.Assign assign.Define l r))
  value_defined_fails l r h = fails_weaker f _ _ (λ k x. failing.defined_value b l r k x) h

  pub unsettled_fails : (l r : tree.Expr) (y : Expr) (b1 : Body) → HasValue c b r y b1
      → FailsBy f (λ k. (k ≡ Refused (itself y)) × (IsSettled (type_of y) → ⊥)) → FailsBy f (FailsForm c b (tree.Assign assign.Define l r))
  unsettled_fails l r y b1 v h =
      fails_weaker f _ _ (λ k x.
      subst (FailsForm c b (tree.Assign assign.Define l r)) (sym x.0) (failing.unsettled b b1 l r y v x.1)) h

  pub define_fails : (l r : tree.Expr) (y : Expr) (b1 : Body) → HasValue c b r y b1 → FailsBy f (FailsDefine b1 l (type_of y))
      → FailsBy f (FailsForm c b (tree.Assign assign.Define l r))
  define_fails l r y b1 v h = fails_weaker f _ _ (λ k x. failing.not_defined b b1 l r y k v x) h

  -- ---- what stands where a place is asked for

  pub enclosed_place_fails : (e : tree.Expr) → FailsBy f (FailsPlace c b e) → FailsBy f (FailsPlace c b (tree.Group (one e)))
  enclosed_place_fails e h = fails_weaker f _ _ (λ k x. failing.enclosed b e k x) h

  pub unnamed_place_fails : (e : tree.Expr) → is_path e ≡ false → is_enclosed e ≡ false → FailsBy f (FailsValue c b e)
      → FailsBy f (FailsPlace c b e)
  unnamed_place_fails e p q h = fails_weaker f _ _ (λ k x. failing.unnamed b e k p q x) h

  pub named_place_fails : (e : tree.Expr) → is_path e ≡ true → FailsBy f (FailsThing c b e) → FailsBy f (FailsPlace c b e)
  named_place_fails e p h = fails_weaker f _ _ (λ k x. failing.names_nothing b e k p x) h

  pub no_named_place : (e : tree.Expr) (t : Thing) (b' : Body) → is_path e ≡ true → Denotes c b e t b'
      → FailsBy f (λ k. (k ≡ Refused refusals.NotPlace) × NoneIs (λ x. t ≡ AValue x)) → FailsBy f (FailsPlace c b e)
  no_named_place e t b' p d h =
      fails_weaker f _ _ (λ k y. subst (FailsPlace c b e) (sym y.0) (failing.names_none b b' e t p d y.1)) h

  pub named_value_fails : (e : tree.Expr) (t : Thing) (x : Expr) (b' : Body) → is_path e ≡ true → Denotes c b e t b' → t ≡ AValue x
      → FailsBy f (FailsValue c b e) → FailsBy f (FailsPlace c b e)
  named_value_fails e t x b' p d is h =
      fails_weaker f _ _ (λ k y. failing.named_value b b' e x k p (subst (λ (s : Thing). Denotes c b e s b') is d) y) h

  -- ---- patterns

  pub in_one_fails : (e : tree.Expr) → FailsBy f (FailsPattern c b e) → FailsBy f (FailsPattern c b (tree.Group (one e)))
  in_one_fails e h = fails_weaker f _ _ (λ k x. failing.in_it b e k x) h

  pub no_left_fails : (e : tree.Expr) → is_pattern e ≡ false → FailsBy f (FailsPlace c b e) → FailsBy f (FailsPattern c b e)
  no_left_fails e n h = fails_weaker f _ _ (λ k x. failing.no_left b e k n x) h

  pub no_place_fails : (e : tree.Expr) (x : Expr) (b1 : Body) → is_pattern e ≡ false → HasValue c b e x b1
      → FailsBy f (λ k. (k ≡ Refused refusals.NotPlace) × (IsPlace x → ⊥)) → FailsBy f (FailsPattern c b e)
  no_place_fails e x b1 n v h =
      fails_weaker f _ _ (λ k y. subst (FailsPattern c b e) (sym y.0) (failing.no_place b b1 e x n v y.1)) h

-- ---- typed trees

module _ (c : Context) where
  pub values_one : (b b' : Body) (e : tree.Expr) (x : Expr) → HasValue c b e x b' → HaveValues c b (one e) (operands.one x) b'
  values_one b b' e x v = typing.values b b' b' e tree.NoExprs x NoExprs v (typing.no_values b')

  pub values_two : (b b' b'' : Body) (l r : tree.Expr) (x y : Expr) → HasValue c b l x b' → HasValue c b' r y b''
      → HaveValues c b (two l r) (operands.two x y) b''
  values_two b b' b'' l r x y v w = typing.values b b' b'' l (one r) x (operands.one y) v (values_one b' b'' r y w)

  -- one in parentheses is what it is
  enclosed_typed : (b b' : Body) (e : tree.Expr) (x : Expr) → Types c b e x b' → Types c b (tree.Group (one e)) x b'
  enclosed_typed _ _ _ _ (typing.permitted b b' e x h p) =
      typing.permitted b b' (tree.Group (one e)) x (typing.in_parentheses b b' e x (typing.permitted b b' e x h p)) p

  pub enclosed_value : (b b' : Body) (e : tree.Expr) (x : Expr) → HasValue c b e x b' → HasValue c b (tree.Group (one e)) x b'
  enclosed_value _ _ _ _ (typing.has_value b b' e x t n) = typing.has_value b b' (tree.Group (one e)) x (enclosed_typed b b' e x t) n

  pub path_value : (b b' : Body) (e : tree.Expr) (t : Thing) (x : Expr) → is_path e ≡ true → Denotes c b e t b' → t ≡ AValue x
      → Has c b e x b'
  path_value b b' e t x p d is = typing.of_path b b' e x p (subst (λ (s : Thing). Denotes c b e s b') is d)
