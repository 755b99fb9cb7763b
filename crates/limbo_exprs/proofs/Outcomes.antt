-- What forms come to, as the code makes them: the typed parts are put together, and what that comes to is put at its place.
use Rattle.std.proofs.Common.{◌≡◌, ◌≢◌, ◌<◌, ◌≤◌, ◌∷◌, [], ℕ, ℤ, pos, List, Bool, true, false, Option, None, Some, Box, Global, length}
use Rattle.std.proofs.Common.{get_or, map, refl, sym, ap, subst, ◌∙◌, arith}
use Rattle.std.specs.Prelude.{Result, Ok, Err, IfOk, IfErr}
use Rattle.std.proofs.lemmas.Result.{IfOk-weaker, IfErr-weaker}
use Rattle.limbo_types.specs.Types.{Ty, Int, Chars, Module}
use Rattle.limbo_types.specs.View.{view_ty}
use Rattle.limbo_tree.specs.declared.expr.Expr as code_expr
use Rattle.limbo_tree.specs.declared.operators.AssignOp.TheVariants as assign
use Rattle.limbo_tree.specs.Exprs as tree
use Rattle.limbo_tree.specs.Types as written
use Rattle.limbo_tree.specs.View as source
use Rattle.limbo_typed.specs.declared.expr.TExpr as code_typed
use Rattle.limbo_typed.specs.declared.expr.Pattern as code_pattern
use Rattle.limbo_typed.specs.declared.print.Printed.{Printed}
use Rattle.limbo_typed.specs.declared.stmt.Constant.TheVariants as constant
use Rattle.limbo_typed.specs.Typed.{Expr, Of, Exprs, NoExprs, MoreExprs, Optional, Absent, Items, Read, Place, Assign, Pattern, ToPlace}
use Rattle.limbo_typed.specs.Typed.{ToNothing, ToParts, Patterns}
use Rattle.limbo_typed.specs.Sound.{type_of, IsSettled}
use Rattle.limbo_typed.specs.View.{view_expr, view_pattern, view_optional}
use Rattle.limbo_typed.proofs.View.{view_optional-None, view_optional-Some}
use Rattle.limbo_refusals.specs.declared.fault.ExprFault.{ExprFault}
use Rattle.limbo_refusals.specs.declared.fault.ExprFault.TheVariants as fault
use Rattle.limbo_refusals.specs.Refusals.{Clash, NotPlace, BadFormat, Refuses, NoneIs}
use Rattle.limbo_calls.proofs.limbo_arguments_lemmas.Faults.{refuses_weaker}
use Rattle.limbo_folding.specs.Folding.{value_of}
use Rattle.limbo_defining.specs.Defining.{Defines, FailsDefine}
use Rattle.limbo_defining.specs.Defining as defining
use Rattle.limbo_causes.specs.declared.fault.Cause as code
use Rattle.limbo_causes.specs.declared.fault.Cause.TheVariants as told_cause
use Rattle.limbo_causes.specs.declared.fault.TypingFault.{TypingFault}
use Rattle.limbo_causes.specs.Causes.{Cause, FailsBy, Refused, told}
use Rattle.limbo_causes.proofs.Telling.{fails_weaker, told_fails}
use Rattle.limbo_context.specs.Context.{Context, Body}
use Rattle.limbo_assigning.specs.Assigning.{Assigns, type_in, given, assignment}
use Rattle.limbo_places.specs.Slices.{Slices, Hinders}
use Rattle.limbo_channels.specs.Loading.{Loads}
use Rattle.limbo_literals.specs.Literals.{Fills, Sizes, Tuples}
use Rattle.limbo_literals.specs.Refusing.{RefusesFill, NoLength}
use Rattle.limbo_calls.specs.Prints.{Prints, Output}
use Rattle.limbo_calls.specs.Refusing.{RefusesPrint}
use Rattle.limbo_operands.specs.Operands as operands
use Rattle.limbo_things.specs.declared.thing.Thing as code_thing
use Rattle.limbo_things.specs.declared.thing.Thing.TheVariants as make_thing
use Rattle.limbo_things.specs.Things.{Thing, AValue, AType, APrint, NameIs, MemberIs, PartIs}
use Rattle.limbo_things.specs.ThingView.{view_thing}
use Rattle.limbo_typing.specs.limbo_applying.Applying.{Applies}
use Rattle.limbo_typing.specs.limbo_applying.Refusing.{RefusesApply}
use Rattle.limbo_permits.specs.Permits.{IsPermitted}
use Rattle.limbo_written.specs.Written.{MeansPermitted}
use Rattle.limbo_typing.specs.limbo_value_forms.Forms.{one, two, three, values_in, copied, Forms, RefusesForm}
use Rattle.limbo_typing.specs.Typing as typing
use Rattle.limbo_typing.specs.Typing.{is_path, is_pattern, literal_first, behind_file, format_in, OutputIs}
use Rattle.limbo_typing.specs.Typing.{Denotes, HasValue, Types, Has, HaveValues, MayHave, Fill, IsPattern, ArePatterns}
use Rattle.limbo_typing.specs.Failing as failing
use Rattle.limbo_typing.specs.Failing.{is_enclosed, FailsPlace}
use Rattle.limbo_typing.specs.Failing.{IsNoPrint, FailsValue, FailsPart, FailsFill, FailsForm, FailsSome, FailsPattern, FailsPatterns}
use Rattle.limbo_exprs.specs.declared.calling.Callee as code_callee
use Rattle.limbo_exprs.specs.declared.calling.Callee.TheVariants as make_callee
use Rattle.limbo_exprs.specs.Parts.{IsIndex, FailsIndex, FailsAsIndex}
use Rattle.limbo_exprs.specs.Parts as parts
use Rattle.limbo_exprs.specs.Calling.{IsApplied, FailsApplied, IsPrinted, FailsPrinted, IsCallee}
use Rattle.limbo_exprs.specs.Calling as calling
use Rattle.limbo_exprs.proofs.Loops.{Trees}
use Rattle.limbo_exprs.proofs.Steps.{Made, Parted, placed_fails, placed_typed, by_typing, by_finding}
use Rattle.limbo_exprs.proofs.Tested.{typed_as}
use Rattle.limbo_exprs.proofs.Rules.{enclosed_value, enclosed_place_fails}
use Rattle.limbo_exprs.proofs.Rules.{path_value, values_two, part_value_fails, values_fail, define_fails, refused_fails, slice_fails}
use Rattle.limbo_exprs.proofs.Rules.{no_length_fails, array_fails, load_fails, assign_fails}

-- ---- lists of trees

abbrev pub row : Trees → tree.Exprs
row es = source.exprs_of (map source.view_expr es)

pub none_in_row : (es : Trees) → length es < 1 → row es ≡ tree.NoExprs
none_in_row [] h = refl
none_in_row (e ∷ es) h = absurd (omega arith)

pub one_in_row : (es : Trees) (e : code_expr.Expr) → 1 ≤ length es → length es < 2 → e ≡ get_or es 0 e
    → row es ≡ one (source.view_expr e)
one_in_row [] e a l is = absurd (omega arith)
one_in_row (x ∷ []) e a l is = ap (λ z. one (source.view_expr z)) (sym is)
one_in_row (x ∷ y ∷ es) e a l is = absurd (omega arith)

pub only_in : (es fs : Trees) (e : code_expr.Expr) → fs ≡ es → 1 ≤ length fs → length fs < 2 → e ≡ get_or fs 0 e
    → row es ≡ one (source.view_expr e)
only_in es fs e same a l is =
    one_in_row es e (subst (λ (gs : Trees). 1 ≤ length gs) same a) (subst (λ (gs : Trees). length gs < 2) same l)
    (subst (λ (gs : Trees). e ≡ get_or gs 0 e) same is)

none_only : (es : Trees) → length es < 1 → is_enclosed (tree.Group (row es)) ≡ false
none_only [] h = refl
none_only (e ∷ es) h = absurd (omega arith)

pub no_only : (es fs : Trees) → fs ≡ es → length fs < 1 → is_enclosed (tree.Group (row es)) ≡ false
no_only es fs same h = none_only es (subst (λ (gs : Trees). length gs < 1) same h)

several_only : (es : Trees) → 2 ≤ length es → is_enclosed (tree.Group (row es)) ≡ false
several_only [] a = absurd (omega arith)
several_only (x ∷ []) a = absurd (omega arith)
several_only (x ∷ y ∷ es) a = refl

pub not_only : (es fs : Trees) → fs ≡ es → 2 ≤ length fs → is_enclosed (tree.Group (row es)) ≡ false
not_only es fs same h = several_only es (subst (λ (gs : Trees). 2 ≤ length gs) same h)

pub more_in_row : (es : Trees) → 2 ≤ length es
    → (e : tree.Expr) × (f : tree.Expr) × (fs : tree.Exprs) × (row es ≡ tree.MoreExprs e (tree.MoreExprs f fs))
more_in_row [] a = absurd (omega arith)
more_in_row (x ∷ []) a = absurd (omega arith)
more_in_row (x ∷ y ∷ es) a = (source.view_expr x, source.view_expr y, row es, refl)

-- ---- results

placed_rule : (out : Parted) (res : Made) (P Q : Expr → Type 0) → IfOk out (λ z. P (view_expr z.value)) → IfOk res (λ z. out ≡ Ok z)
    → ((x : Expr) → P x → Q x) → IfOk res (λ z. Q (view_expr z.value))
placed_rule out res P Q h is rule = by_typing res P Q rule (placed_typed out res P h is)

-- ---- typed trees

module _ (c : Context) (b : Body) (out : Parted) (res : Made) (placed : IfOk res (λ z. out ≡ Ok z)) where
  pub values_made : (b' : Body) (e : tree.Expr) (es : tree.Exprs) (xs : Exprs) → values_in e ≡ Some es → HaveValues c b es xs b'
      → IfOk out (λ z. Forms c e xs (view_expr z.value)) → IfOk res (λ z. Has c b e (view_expr z.value) b')
  values_made b' e es xs v h m =
      placed_rule out res (Forms c e xs) (λ z. Has c b e z b') m placed (λ z f. typing.of_values b b' e es xs z v h f)

  pub slice_made : (b1 b2 b3 : Body) (e : tree.Expr) (i j : tree.Part) (x : Expr) (u v : Optional) → HasValue c b e x b1
      → MayHave c b1 i u b2 → MayHave c b2 j v b3 → IfOk out (λ z. Slices x u v (view_expr z.value))
      → IfOk res (λ z. Has c b (tree.Slice e i j) (view_expr z.value) b3)
  slice_made b1 b2 b3 e i j x u v h p q m =
      placed_rule out res (Slices x u v) (λ z. Has c b (tree.Slice e i j) z b3) m placed
      (λ z s. typing.of_slice b b1 b2 b3 e i j x z u v h p q s)

  pub sized_made : (b1 : Body) (e : tree.Expr) (t : written.Ty) (u : Ty) (x : Expr) → HasValue c b e x b1 → MeansPermitted c b1 t u
      → IfOk out (λ z. Sizes x u (view_expr z.value)) → IfOk res (λ z. Has c b (tree.Sized e t) (view_expr z.value) b1)
  sized_made b1 e t u x h p m =
      placed_rule out res (Sizes x u) (λ z. Has c b (tree.Sized e t) z b1) m placed (λ z s. typing.of_length b b1 e t u x z h p s)

  pub filled_made : (b1 b2 : Body) (n : tree.Part) (is : tree.Inits) (comma : Bool) (u last : Optional) (js : Items) → MayHave c b n u b1
      → Fill c b1 (pos 0) Absent is js last b2 → IfOk out (λ z. Fills u js last (view_expr z.value))
      → IfOk res (λ z. Has c b (tree.Filled n is comma) (view_expr z.value) b2)
  filled_made b1 b2 n is comma u last js h f m =
      placed_rule out res (Fills u js last) (λ z. Has c b (tree.Filled n is comma) z b2) m placed
      (λ z s. typing.of_items b b1 b2 n is comma u last js z h f s)

  pub load_made : (b1 : Body) (n : List ℕ) (e : tree.Expr) (i : ℕ) (x : Expr) → NameIs c b n (AType (Module i)) → HasValue c b e x b1
      → IfOk out (λ z. Loads i x (view_expr z.value)) → IfOk res (λ z. Has c b (tree.Load n e) (view_expr z.value) b1)
  load_made b1 n e i x is h m =
      placed_rule out res (Loads i x) (λ z. Has c b (tree.Load n e) z b1) m placed (λ z l. typing.of_load b b1 n e i x z is h l)

  pub applied_made : (b1 : Body) (t : Thing) (es : tree.Exprs) (xs : Exprs) → HaveValues c b es xs b1
      → IfOk out (λ z. Applies c t xs (view_expr z.value)) → IfOk res (λ z. IsApplied c b t es (view_expr z.value) b1)
  applied_made b1 t es xs h m =
      placed_rule out res (Applies c t xs) (λ z. IsApplied c b t es z b1) m placed (λ z a. calling.applied xs h a)

  pub printed_made : (b1 : Body) (p : Printed) (m : Expr) (es others : tree.Exprs) (text : List ℕ) (xs ys : Exprs) (o : Output)
      → format_in p es ≡ Some (text, others) → HaveValues c b others xs b1 → OutputIs p xs o ys
      → IfOk out (λ z. Prints c.fd o m text ys (view_expr z.value)) → IfOk res (λ z. IsPrinted c b p m es (view_expr z.value) b1)
  printed_made b1 p m es others text xs ys o is h to made =
      placed_rule out res (Prints c.fd o m text ys) (λ z. IsPrinted c b p m es z b1) made placed
      (λ z a. calling.printed text others xs ys o is h to a)

  pub assign_made : (b1 b2 : Body) (l r : tree.Expr) (p : Pattern) (y : Expr) → copied l r ≡ None → IsPattern c b l p b1 → p ≢ ToNothing
      → HasValue c b1 r y b2 → IfOk out (λ z. Assigns p y (view_expr z.value))
      → IfOk res (λ z. Has c b (tree.Assign assign.Assign l r) (view_expr z.value) b2)
  assign_made b1 b2 l r p y n is some h m =
      placed_rule out res (Assigns p y) (λ z. Has c b (tree.Assign assign.Assign l r) z b2) m placed
      (λ z a. typing.of_assignment b b1 b2 l r p y z n is some h a)

-- ---- refusals

module _ (c : Context) (b : Body) {T : Type 0} (out : Parted) (res : Result T TypingFault)
    (placed : IfErr res (λ f. (g : ExprFault) × (out ≡ Err g) × (f.cause ≡ told_cause.Refused g))) where
  pub values_refused : (b' : Body) (e : tree.Expr) (es : tree.Exprs) (xs : Exprs) → values_in e ≡ Some es → HaveValues c b es xs b'
      → IfErr out (λ g. Refuses g (λ r. RefusesForm c e xs r × NoneIs (Forms c e xs))) → IfErr res (λ f. FailsBy f.cause (FailsForm c b e))
  values_refused b' e es xs v h told = placed_fails out res _ _ told placed (λ f r. refused_fails c b f e es xs b' v h r)

  pub slice_refused : (b1 b2 b3 : Body) (e : tree.Expr) (i j : tree.Part) (x : Expr) (u v : Optional) → HasValue c b e x b1
      → MayHave c b1 i u b2 → MayHave c b2 j v b3
      → IfErr out (λ g. Refuses g (λ r. ((t : Ty) × Hinders x u v t × (r ≡ Clash t Int)) × NoneIs (Slices x u v)))
      → IfErr res (λ f. FailsBy f.cause (FailsForm c b (tree.Slice e i j)))
  slice_refused b1 b2 b3 e i j x u v h p q told =
      placed_fails out res _ _ told placed (λ f r. slice_fails c b f e i j x u v b1 b2 b3 h p q r)

  pub sized_refused : (b1 : Body) (e : tree.Expr) (t : written.Ty) (u : Ty) (x : Expr) → HasValue c b e x b1 → MeansPermitted c b1 t u
      → IfErr out (λ g. Refuses g (λ r. NoLength x r × NoneIs (Sizes x u)))
      → IfErr res (λ f. FailsBy f.cause (FailsForm c b (tree.Sized e t)))
  sized_refused b1 e t u x h p told = placed_fails out res _ _ told placed (λ f r. no_length_fails c b f e t u x b1 h p r)

  pub filled_refused : (b1 b2 : Body) (n : tree.Part) (is : tree.Inits) (comma : Bool) (u last : Optional) (js : Items)
      → MayHave c b n u b1 → Fill c b1 (pos 0) Absent is js last b2
      → IfErr out (λ g. Refuses g (λ r. RefusesFill u js last r × NoneIs (Fills u js last)))
      → IfErr res (λ f. FailsBy f.cause (FailsForm c b (tree.Filled n is comma)))
  filled_refused b1 b2 n is comma u last js h fill told =
      placed_fails out res _ _ told placed (λ f r. array_fails c b f n is comma u last js b1 b2 h fill r)

  pub load_refused : (b1 : Body) (n : List ℕ) (e : tree.Expr) (i : ℕ) (x : Expr) → NameIs c b n (AType (Module i)) → HasValue c b e x b1
      → IfErr out (λ g. Refuses g (λ r. (r ≡ Clash (type_of x) Chars) × NoneIs (Loads i x)))
      → IfErr res (λ f. FailsBy f.cause (FailsForm c b (tree.Load n e)))
  load_refused b1 n e i x is h told = placed_fails out res _ _ told placed (λ f r. load_fails c b f n e i x b1 is h r)

  pub applied_refused : (b1 : Body) (t : Thing) (es : tree.Exprs) (xs : Exprs) → HaveValues c b es xs b1
      → IfErr out (λ g. Refuses g (λ r. RefusesApply c t xs r × NoneIs (Applies c t xs)))
      → IfErr res (λ f. FailsBy f.cause (FailsApplied c b t es))
  applied_refused b1 t es xs h told =
      placed_fails out res _ _ told placed (λ f r. fails_weaker f _ _ (λ k y.
      subst (FailsApplied c b t es) (sym y.1) (calling.not_applied b1 xs y.0 h y.2.0 y.2.1)) r)

  pub printed_refused : (b1 : Body) (p : Printed) (m : Expr) (es others : tree.Exprs) (text : List ℕ) (xs ys : Exprs) (o : Output)
      → format_in p es ≡ Some (text, others) → HaveValues c b others xs b1 → OutputIs p xs o ys
      → IfErr out (λ g. Refuses g (λ r. RefusesPrint c.fd o text ys r × NoneIs (Prints c.fd o m text ys)))
      → IfErr res (λ f. FailsBy f.cause (FailsPrinted c b p m es))
  printed_refused b1 p m es others text xs ys o is h to told =
      placed_fails out res _ _ told placed (λ f r. fails_weaker f _ _ (λ k y.
      subst (FailsPrinted c b p m es) (sym y.1) (calling.no_print b1 text others xs ys o y.0 is h to y.2.0 y.2.1)) r)

  pub assign_refused : (b1 b2 : Body) (l r : tree.Expr) (p : Pattern) (y : Expr) → copied l r ≡ None → IsPattern c b l p b1
      → HasValue c b1 r y b2 → IfErr out (λ g. Refuses g (λ s. (s ≡ Clash (type_in p) (type_of y)) × NoneIs (Assigns p y)))
      → IfErr res (λ f. FailsBy f.cause (FailsForm c b (tree.Assign assign.Assign l r)))
  assign_refused b1 b2 l r p y n is h told = placed_fails out res _ _ told placed (λ f z. assign_fails c b f l r p y b1 b2 n is h z)

-- ---- the same of another tree

pub retyped : (res : Made) (c : Context) (b b' : Body) (e e' : tree.Expr) → e ≡ e' → IfOk res (λ z. Has c b e' (view_expr z.value) b')
    → IfOk res (λ z. Has c b e (view_expr z.value) b')
retyped res c b b' e e' is h = subst (λ (x : tree.Expr). IfOk res (λ z. Has c b x (view_expr z.value) b')) (sym is) h

pub refailed : {T : Type 0} (res : Result T TypingFault) (Q : tree.Expr → Cause → Type 0) (e e' : tree.Expr) → e ≡ e'
    → IfErr res (λ f. FailsBy f.cause (Q e')) → IfErr res (λ f. FailsBy f.cause (Q e))
refailed res Q e e' is h = subst (λ (x : tree.Expr). IfErr res (λ f. FailsBy f.cause (Q x))) (sym is) h

pub refailed_by : (f : code.Cause) (Q : tree.Expr → Cause → Type 0) (e e' : tree.Expr) → e ≡ e' → FailsBy f (Q e') → FailsBy f (Q e)
refailed_by f Q e e' is h = subst (λ (x : tree.Expr). FailsBy f (Q x)) (sym is) h

-- a value that a name, or what stands behind one, is
pub path_typed : (res : Made) (c : Context) (b b' : Body) (e : tree.Expr) (t : Thing) → is_path e ≡ true → Denotes c b e t b'
    → IfOk res (λ x. t ≡ AValue (view_expr x.value)) → IfOk res (λ z. Has c b e (view_expr z.value) b')
path_typed res c b b' e t p d h =
    by_typing res (λ x. t ≡ AValue x) (λ z. Has c b e z b') (λ x is. path_value c b b' e t x p d is) h

-- a thing that a name is
pub named_thing : (res : Result (Box code_thing.Thing Global) TypingFault) (c : Context) (b : Body) (n : List ℕ)
    → IfOk res (λ t. NameIs c b n (view_thing t.value)) → IfOk res (λ t. Denotes c b (tree.Name n) (view_thing t.value) b)
named_thing res c b n h =
    by_finding res (NameIs c b n) (λ t. Denotes c b (tree.Name n) t b) (λ t is. typing.by_name b n t is) h

pub re_denoted : (res : Result (Box code_thing.Thing Global) TypingFault) (c : Context) (b b' : Body) (e e' : tree.Expr) → e ≡ e'
    → IfOk res (λ t. Denotes c b e' (view_thing t.value) b') → IfOk res (λ t. Denotes c b e (view_thing t.value) b')
re_denoted res c b b' e e' is h = subst (λ (x : tree.Expr). IfOk res (λ t. Denotes c b x (view_thing t.value) b')) (sym is) h

pub member_thing : (res : Result (Box code_thing.Thing Global) TypingFault) (c : Context) (b b' : Body) (e : tree.Expr) (n : List ℕ) (s :
    Thing)
    → Denotes c b e s b' → IfOk res (λ t. MemberIs c n s (view_thing t.value))
    → IfOk res (λ t. Denotes c b (tree.Arrow e n) (view_thing t.value) b')
member_thing res c b b' e n s d h =
    by_finding res (MemberIs c n s) (λ t. Denotes c b (tree.Arrow e n) t b') (λ t is. typing.by_member b b' e n s t d is) h

pub part_thing : (res : Result (Box code_thing.Thing Global) TypingFault) (c : Context) (b b' : Body) (e : tree.Expr) (n : List ℕ) (s :
    Thing)
    → Denotes c b e s b' → IfOk res (λ t. PartIs c n s (view_thing t.value))
    → IfOk res (λ t. Denotes c b (tree.Dot e n) (view_thing t.value) b')
part_thing res c b b' e n s d h =
    by_finding res (PartIs c n s) (λ t. Denotes c b (tree.Dot e n) t b') (λ t is. typing.by_part b b' e n s t d is) h

-- ---- leaves

pub leaf_typed : (res : Made) (c : Context) (b : Body) (e : tree.Expr) (x : Expr) → values_in e ≡ Some tree.NoExprs → Forms c e NoExprs x
    → IfOk res (λ z. view_expr z.value ≡ x) → IfOk res (λ z. Has c b e (view_expr z.value) b)
leaf_typed res c b e x v f h =
    by_typing res (λ z. z ≡ x) (λ z. Has c b e z b)
    (λ z is. subst (λ (y : Expr). Has c b e y b) (sym is) (typing.of_values b b e tree.NoExprs NoExprs x v (typing.no_values b) f)) h

-- ---- calls

call_of_thing : (c : Context) (b b1 b2 : Body) (g : tree.Expr) (es : tree.Exprs) (t : Thing) (z : Expr) → Denotes c b g t b1
    → IsApplied c b1 t es z b2 → Has c b (tree.Call g es) z b2
call_of_thing c b b1 b2 g es t z d (calling.applied xs h a) = typing.of_call b b1 b2 g es t xs z d h a

pub call_applied : (res : Made) (c : Context) (b b1 b2 : Body) (g : tree.Expr) (es : tree.Exprs) (t : Thing) → Denotes c b g t b1
    → IfOk res (λ z. IsApplied c b1 t es (view_expr z.value) b2) → IfOk res (λ z. Has c b (tree.Call g es) (view_expr z.value) b2)
call_applied res c b b1 b2 g es t d h =
    by_typing res (λ z. IsApplied c b1 t es z b2) (λ z. Has c b (tree.Call g es) z b2) (λ z a. call_of_thing c b b1 b2 g es t z d a) h

call_of_print : (c : Context) (b b1 b2 : Body) (g : tree.Expr) (es : tree.Exprs) (p : Printed) (m z : Expr) → Denotes c b g (APrint p m) b1
    → IsPrinted c b1 p m es z b2 → Has c b (tree.Call g es) z b2
call_of_print c b b1 b2 g es p m z d (calling.printed text others xs ys o is h to a) =
    typing.of_print b b1 b2 g es others p m text xs ys o z d is h to a

pub call_printed : (res : Made) (c : Context) (b b1 b2 : Body) (g : tree.Expr) (es : tree.Exprs) (p : Printed) (m : Expr)
    → Denotes c b g (APrint p m) b1 → IfOk res (λ z. IsPrinted c b1 p m es (view_expr z.value) b2)
    → IfOk res (λ z. Has c b (tree.Call g es) (view_expr z.value) b2)
call_printed res c b b1 b2 g es p m d h =
    by_typing res (λ z. IsPrinted c b1 p m es z b2) (λ z. Has c b (tree.Call g es) z b2) (λ z a. call_of_print c b b1 b2 g es p m z d a) h

-- what is called, by the code's two cases
pub print_called : (t : Thing) (x : code_callee.Callee) (p : Printed) (m : Box code_typed.TExpr Global) → x ≡ make_callee.Print p m
    → IsCallee t x → t ≡ APrint p (view_expr m.value)
print_called t x p m is h = subst (IsCallee t) is h

pub other_called : (t : Thing) (x : code_callee.Callee) (s : Box code_thing.Thing Global) → x ≡ make_callee.Other s → IsCallee t x
    → (view_thing s.value ≡ t) × IsNoPrint t
other_called t x s is h = subst (IsCallee t) is h

-- ---- formats

-- no literal text stands first
pub no_literal : (e : tree.Expr) (es : tree.Exprs) → ((t : List ℕ) → e ≡ tree.Chars t → ⊥) → literal_first (tree.MoreExprs e es) ≡ None
no_literal (tree.Chars t) es never = absurd (never t refl)
no_literal e es never = refl

pub no_format_fails : (c : Context) (b : Body) (p : Printed) (m : Expr) (es : tree.Exprs) (f : code.Cause) → format_in p es ≡ None
    → FailsBy f (λ k. k ≡ Refused BadFormat) → FailsBy f (FailsPrinted c b p m es)
no_format_fails c b p m es f none h =
    fails_weaker f _ _ (λ k is. subst (FailsPrinted c b p m es) (sym is) (calling.no_format none)) h

pub format_value_fails : (c : Context) (b : Body) (p : Printed) (m : Expr) (es others : tree.Exprs) (text : List ℕ) (f : code.Cause)
    → format_in p es ≡ Some (text, others) → FailsBy f (FailsSome c b others) → FailsBy f (FailsPrinted c b p m es)
format_value_fails c b p m es others text f is h = fails_weaker f _ _ (λ k x. calling.a_value text others k is x) h

-- the first tree, and the second
pub first_of : (es fs : Trees) (e : code_expr.Expr) → es ≡ e ∷ fs → row es ≡ tree.MoreExprs (source.view_expr e) (row fs)
first_of es fs e is = ap row is

pub empty_row : (es : Trees) → length es ≡ 0 → row es ≡ tree.NoExprs
empty_row [] h = refl
empty_row (e ∷ es) h = absurd (omega arith)

-- ---- indices

pub index_typed : {E : Type 0} (res : Result ℤ E) (c : Context) (b b' : Body) (e : tree.Expr) (y : Expr) → HasValue c b e y b'
    → IfOk res (λ k. type_of y ≡ Int) → IfOk res (λ k. value_of y ≡ Some (constant.Number k)) → IfOk res (λ k. IsIndex c b e k b')
index_typed (Ok k) c b b' e y v t n = parts.index y v t n
index_typed (Err x) c b b' e y v t n = tt

pub index_fails_as : (c : Context) (b b' : Body) (e : tree.Expr) (y : Expr) → HasValue c b e y b' → (f : code.Cause)
    → FailsBy f (FailsIndex y) → FailsBy f (FailsAsIndex c b e)
index_fails_as c b b' e y v f h = fails_weaker f _ _ (λ k x. parts.no_index b' y v x) h

-- ---- loads

pub load_told : {T : Type 0} (out : Result T ExprFault) (x : code_typed.TExpr) (i : ℕ)
    → IfErr out (λ f. Refuses f (λ r. (r ≡ Clash (view_ty x.ty) Chars) × NoneIs (Loads i (view_expr x))))
    → IfErr out (λ f. Refuses f (λ r. (r ≡ Clash (type_of (view_expr x)) Chars) × NoneIs (Loads i (view_expr x))))
load_told out x i h =
    IfErr-weaker out _ _ (λ f j. refuses_weaker f _ _ (λ r z. (z.0 ∙ ap (λ (t : Ty). Clash t Chars) (sym (typed_as x)), z.1)) j) h

-- ---- patterns

pub place_typed : (res : Result (Box code_pattern.Pattern Global) TypingFault) (c : Context) (b b' : Body) (e : tree.Expr) (x : Expr)
    → is_pattern e ≡ false → HasValue c b e x b'
    → IfOk res (λ p. (t : Ty) × (q : Place) × (x ≡ Of t (Read q)) × (view_pattern p.value ≡ ToPlace q))
    → IfOk res (λ p. IsPattern c b e (view_pattern p.value) b')
place_typed res c b b' e x n v h =
    IfOk-weaker res _ _
    (λ p z. subst (λ (q : Pattern). IsPattern c b e q b') (sym z.3)
    (typing.to_place b b' e z.0 z.1 n (subst (λ (y : Expr). HasValue c b e y b') z.2 v))) h

pub one_pattern : (res : Result (Box code_pattern.Pattern Global) TypingFault) (c : Context) (b b' : Body) (es : tree.Exprs) (e : tree.Expr)
    → es ≡ one e → IfOk res (λ p. IsPattern c b e (view_pattern p.value) b')
    → IfOk res (λ p. IsPattern c b (tree.Group es) (view_pattern p.value) b')
one_pattern res c b b' es e is h =
    IfOk-weaker res _ _
    (λ p z. subst (λ (fs : tree.Exprs). IsPattern c b (tree.Group fs) (view_pattern p.value) b') (sym is)
    (typing.in_one b b' e (view_pattern p.value) z)) h

pub several_patterns : (c : Context) (b b' : Body) (es : Trees) (ps : Patterns) (p : Pattern) → 2 ≤ length es → p ≡ ToParts ps
    → ArePatterns c b (row es) ps b' → IsPattern c b (tree.Group (row es)) p b'
several_patterns c b b' es ps p a is h =
    let m = more_in_row es a in
    subst (λ (q : Pattern). IsPattern c b (tree.Group (row es)) q b') (sym is)
    (subst (λ (fs : tree.Exprs). IsPattern c b (tree.Group fs) (ToParts ps) b') (sym m.3)
    (typing.to_parts b b' m.0 m.1 m.2 ps (subst (λ (fs : tree.Exprs). ArePatterns c b fs ps b') m.3 h)))

pub several_patterns_fail : (c : Context) (b : Body) (es : Trees) (f : code.Cause) → 2 ≤ length es → FailsBy f (FailsPatterns c b (row es))
    → FailsBy f (FailsPattern c b (tree.Group (row es)))
several_patterns_fail c b es f a h =
    let m = more_in_row es a in
    fails_weaker f _ _ (λ k x.
    subst (λ (fs : tree.Exprs). FailsPattern c b (tree.Group fs) k) (sym m.3)
    (failing.a_pattern b m.0 m.1 m.2 k (subst (λ (fs : tree.Exprs). FailsPatterns c b fs k) m.3 x))) h

-- ---- tuples

tupled_are : (es : Trees) → 2 ≤ length es → values_in (tree.Group (row es)) ≡ Some (row es)
tupled_are [] a = absurd (omega arith)
tupled_are (x ∷ []) a = absurd (omega arith)
tupled_are (x ∷ y ∷ es) a = refl

pub tuple_typed : (c : Context) (b b' : Body) (es : Trees) (xs : Exprs) (z : Expr) → 2 ≤ length es → HaveValues c b (row es) xs b'
    → Tuples xs z → Has c b (tree.Group (row es)) z b'
tuple_typed c b b' es xs z a h t = typing.of_values b b' (tree.Group (row es)) (row es) xs z (tupled_are es a) h t

pub tuple_fails : (c : Context) (b : Body) (es : Trees) (f : code.Cause) → 2 ≤ length es → FailsBy f (FailsSome c b (row es))
    → FailsBy f (FailsForm c b (tree.Group (row es)))
tuple_fails c b es f a h = values_fail c b f (tree.Group (row es)) (row es) (tupled_are es a) refl h

pub one_typed : (res : Made) (c : Context) (b b' : Body) (es : tree.Exprs) (e : tree.Expr) → es ≡ one e
    → IfOk res (λ z. Types c b e (view_expr z.value) b') → IfOk res (λ z. Has c b (tree.Group es) (view_expr z.value) b')
one_typed res c b b' es e is h =
    by_typing res (λ z. Types c b e z b') (λ z. Has c b (tree.Group es) z b')
    (λ z t. subst (λ (fs : tree.Exprs). Has c b (tree.Group fs) z b') (sym is) (typing.in_parentheses b b' e z t)) h

-- ---- declarations

defined_given : (b b' : Body) (l : tree.Expr) (t : Ty) (p : Pattern) → Defines b l t p b' → given p t ≡ t
defined_given _ _ _ _ _ (defining.name b n t is) = refl
defined_given _ _ _ _ _ (defining.parts b b' e f es ts ps h) = refl

pub defined_typed : (res : Made) (c : Context) (b b1 b2 : Body) (l r : tree.Expr) (p : Pattern) (y : code_typed.TExpr)
    → HasValue c b r (view_expr y) b1 → IsSettled (type_of (view_expr y)) → Defines b1 l (view_ty y.ty) p b2
    → IfOk res (λ z. view_expr z.value ≡ Of (view_ty y.ty) (Assign p (view_expr y)))
    → IfOk res (λ z. Has c b (tree.Assign assign.Define l r) (view_expr z.value) b2)
defined_typed res c b b1 b2 l r p y v s d h =
    let same : assignment p (view_expr y) ≡ Of (view_ty y.ty) (Assign p (view_expr y)) =
    ap (λ (t : Ty). Of (given p t) (Assign p (view_expr y))) (typed_as y)
    ∙ ap (λ (t : Ty). Of t (Assign p (view_expr y))) (defined_given b1 b2 l (view_ty y.ty) p d) in
    by_typing res (λ z. z ≡ Of (view_ty y.ty) (Assign p (view_expr y))) (λ z. Has c b (tree.Assign assign.Define l r) z b2)
    (λ z is. subst (λ (w : Expr). Has c b (tree.Assign assign.Define l r) w b2) (same ∙ sym is)
    (typing.of_definition b b1 b2 l r p (view_expr y) v s (subst (λ (t : Ty). Defines b1 l t p b2) (sym (typed_as y)) d))) h

pub define_told : (c : Context) (b b1 : Body) (l r : tree.Expr) (y : code_typed.TExpr) (f : code.Cause) → HasValue c b r (view_expr y) b1
    → FailsBy f (FailsDefine b1 l (view_ty y.ty)) → FailsBy f (FailsForm c b (tree.Assign assign.Define l r))
define_told c b b1 l r y f v h =
    define_fails c b f l r (view_expr y) b1 v (subst (λ (t : Ty). FailsBy f (FailsDefine b1 l t)) (sym (typed_as y)) h)

-- `nil` stands alone before `=`
pub to_nil_fails : (c : Context) (b b1 : Body) (l r : tree.Expr) (p : Pattern) (f : code.Cause) → f ≡ told_cause.Refused fault.NotPlace
    → copied l r ≡ None → IsPattern c b l p b1 → p ≡ ToNothing → FailsBy f (FailsForm c b (tree.Assign assign.Assign l r))
to_nil_fails c b b1 l r p f is n h none =
    told_fails f (Refused NotPlace) (FailsForm c b (tree.Assign assign.Assign l r)) (ap told is)
    (failing.to_nil b b1 l r n (subst (λ (q : Pattern). IsPattern c b l q b1) none h))

-- ---- things and parts

pub no_literal_behind : (f e : tree.Expr) (es : tree.Exprs) → ((t : List ℕ) → e ≡ tree.Chars t → ⊥)
    → behind_file (tree.MoreExprs f (tree.MoreExprs e es)) ≡ None
no_literal_behind f (tree.Chars t) es never = absurd (never t refl)
no_literal_behind f e es never = refl

pub nil_pattern : (c : Context) (b : Body) (e : tree.Expr) (p : Pattern) → e ≡ tree.Nil → p ≡ ToNothing → IsPattern c b e p b
nil_pattern c b e p is none =
    subst (λ (x : tree.Expr). IsPattern c b x p b) (sym is)
    (subst (λ (q : Pattern). IsPattern c b tree.Nil q b) (sym none) (typing.to_nothing b))

pub thing_typed : (c : Context) (b b' : Body) (e : tree.Expr) (x : Box code_typed.TExpr Global) (t : code_thing.Thing) → is_path e ≡ false
    → HasValue c b e (view_expr x.value) b' → t ≡ make_thing.Value x → Denotes c b e (view_thing t) b'
thing_typed c b b' e x t p v is =
    subst (λ (s : code_thing.Thing). Denotes c b e (view_thing s) b') (sym is) (typing.by_value b b' e (view_expr x.value) p v)

pub no_part_typed : (c : Context) (b : Body) (part : Option (Box code_expr.Expr Global)) → part ≡ None
    → MayHave c b (source.view_part part) (view_optional None) b
no_part_typed c b part is =
    subst (λ (p : Option (Box code_expr.Expr Global)). MayHave c b (source.view_part p) (view_optional None) b) (sym is)
    (subst (λ (o : Optional). MayHave c b tree.Absent o b) (sym view_optional-None) (typing.no_part b))

pub part_typed : (c : Context) (b b' : Body) (part : Option (Box code_expr.Expr Global)) (e : Box code_expr.Expr Global)
    (x : Box code_typed.TExpr Global) → part ≡ Some e → HasValue c b (source.view_expr e.value) (view_expr x.value) b'
    → MayHave c b (source.view_part part) (view_optional (Some x)) b'
part_typed c b b' part e x is v =
    subst (λ (p : Option (Box code_expr.Expr Global)). MayHave c b (source.view_part p) (view_optional (Some x)) b') (sym is)
    (subst (λ (o : Optional). MayHave c b (tree.Present (source.view_expr e.value)) o b') (sym (view_optional-Some x))
    (typing.a_part b b' (source.view_expr e.value) (view_expr x.value) v))

pub part_fails_of : (c : Context) (b : Body) (f : code.Cause) (part : Option (Box code_expr.Expr Global)) (e : Box code_expr.Expr Global)
    → part ≡ Some e → FailsBy f (FailsValue c b (source.view_expr e.value)) → FailsBy f (FailsPart c b (source.view_part part))
part_fails_of c b f part e is h =
    subst (λ (p : Option (Box code_expr.Expr Global)). FailsBy f (FailsPart c b (source.view_part p))) (sym is)
    (part_value_fails c b f (source.view_expr e.value) h)

pub argument_fails : (c : Context) (b : Body) (t : Thing) (es : tree.Exprs) (f : code.Cause) → FailsBy f (FailsSome c b es)
    → FailsBy f (FailsApplied c b t es)
argument_fails c b t es f h = fails_weaker f _ _ (λ k x. calling.an_argument k x) h

abbrev pub operands_three : Expr → Expr → Expr → Exprs
operands_three x y z = MoreExprs x (MoreExprs y (MoreExprs z NoExprs))

pub values_three : (c : Context) (b b1 b2 b3 : Body) (a i r : tree.Expr) (x y z : Expr) → HasValue c b a x b1 → HasValue c b1 i y b2
    → HasValue c b2 r z b3 → HaveValues c b (three a i r) (operands_three x y z) b3
values_three c b b1 b2 b3 a i r x y z v w u =
    typing.values b b1 b3 a (two i r) x (operands.two y z) v (values_two c b1 b2 b3 i r y z w u)

pub fails_from_none : (c : Context) (b : Body) (f : code.Cause) (is : tree.Inits)
    → FailsBy f (FailsFill c b (pos 0) (view_optional None) is) → FailsBy f (FailsFill c b (pos 0) Absent is)
fails_from_none c b f is h = subst (λ (o : Optional). FailsBy f (FailsFill c b (pos 0) o is)) view_optional-None h

pub fills_from_none : (c : Context) (b : Body) (is : tree.Inits) (js : Items) (last : Optional) (b' : Body)
    → Fill c b (pos 0) (view_optional None) is js last b' → Fill c b (pos 0) Absent is js last b'
fills_from_none c b is js last b' h = subst (λ (o : Optional). Fill c b (pos 0) o is js last b') view_optional-None h

-- ---- what stands where a place is asked for

-- a typed tree that may stand anywhere
pub stands_typed : (c : Context) (b d : Body) (e : tree.Expr) (x y : Box code_typed.TExpr Global) → y ≡ x
    → IsPermitted c (view_expr x.value) → Has c b e (view_expr x.value) d → Types c b e (view_expr y.value) d
stands_typed c b d e x y same p h =
    subst (λ (z : Box code_typed.TExpr Global). Types c b e (view_expr z.value) d) (sym same)
    (typing.permitted b d e (view_expr x.value) h p)

pub enclosed_target : (res : Made) (c : Context) (b d : Body) (e i : tree.Expr) → e ≡ tree.Group (one i)
    → IfOk res (λ z. HasValue c b i (view_expr z.value) d) → IfOk res (λ z. HasValue c b e (view_expr z.value) d)
enclosed_target res c b d e i is h =
    by_typing res (λ z. HasValue c b i z d) (λ z. HasValue c b e z d)
    (λ z v. subst (λ (f : tree.Expr). HasValue c b f z d) (sym is) (enclosed_value c b d i z v)) h

pub enclosed_target_fails : {T : Type 0} (res : Result T TypingFault) (c : Context) (b : Body) (e i : tree.Expr) → e ≡ tree.Group (one i)
    → IfErr res (λ f. FailsBy f.cause (FailsPlace c b i)) → IfErr res (λ f. FailsBy f.cause (FailsPlace c b e))
enclosed_target_fails res c b e i is h =
    IfErr-weaker res _ _
    (λ f x. subst (λ (g : tree.Expr). FailsBy f.cause (FailsPlace c b g)) (sym is) (enclosed_place_fails c b f.cause i x)) h
