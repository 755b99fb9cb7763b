-- What tests of types, trees and things say.
use Rattle.std.proofs.Common.{◌≡◌, ◌≢◌, ◌++◌, ◌∷◌, [], map, ℕ, ℤ, List, Bool, true, false, Option, None, Some, Box, Vec, Global, refl}
use Rattle.std.proofs.Common.{sym, ap, subst, ◌∙◌}
use Rattle.std.proofs.lemmas.Bool.{false≢true}
use Rattle.std.proofs.lemmas.List.{map-append}
use Rattle.std.proofs.lemmas.Option.{none-some}
use Rattle.std.specs.Prelude.{IsTrue, IsSome, ◌↔◌}
use Rattle.inf_text.specs.declared.span.Span.{Span}
use Rattle.inf_text.specs.declared.text.Text.{Text}
use Rattle.limbo_tree.specs.declared.expr.Expr as code_expr
use Rattle.limbo_tree.specs.declared.expr.Expr.{Expr-F, out-Expr, roll-Expr, roll-out-Expr, fold-roll-Expr}
use Rattle.limbo_tree.specs.declared.expr.Expr.TheVariants as make_expr
use Rattle.limbo_tree.specs.declared.expr.Init as code_init
use Rattle.limbo_tree.specs.declared.name.Name as code_name
use Rattle.limbo_tree.specs.declared.operators.AssignOp.{AssignOp}
use Rattle.limbo_tree.specs.declared.operators.AssignOp.TheVariants as assign
use Rattle.limbo_tree.specs.declared.operators.UnaryOp.{UnaryOp}
use Rattle.limbo_tree.specs.declared.operators.UnaryOp.TheVariants as before
use Rattle.limbo_tree.specs.Exprs as tree
use Rattle.limbo_tree.specs.View as source
use Rattle.limbo_tree.specs.View.{expr_step, init_step}
use Rattle.limbo_tree.proofs.Others.{is_chars, no_expr-Chars}
use Rattle.limbo_types.specs.declared.ty.Ty as code_ty
use Rattle.limbo_types.specs.Types as ty
use Rattle.limbo_types.specs.Types.{Ty, Nothing, Int}
use Rattle.limbo_types.proofs.Forms.{HasForm, has_form}
use Rattle.limbo_types.proofs.View.{view_ty-Int}
use Rattle.limbo_typed.specs.declared.expr.TExpr as code_typed
use Rattle.limbo_typed.specs.declared.expr.Item as code_item
use Rattle.limbo_typed.specs.declared.expr.Pattern as code_pattern
use Rattle.limbo_typed.specs.declared.expr.Pattern.{Pattern-F, out-Pattern, roll-Pattern, roll-out-Pattern, fold-roll-Pattern}
use Rattle.limbo_typed.specs.declared.expr.Pattern.TheVariants as make_pattern
use Rattle.limbo_typed.specs.declared.expr.Place as code_place
use Rattle.limbo_typed.specs.declared.expr.PlaceNode as code_place_node
use Rattle.limbo_typed.specs.declared.expr.TNode as code_node
use Rattle.limbo_typed.specs.Typed as typed
use Rattle.limbo_typed.specs.Typed.{Expr}
use Rattle.limbo_typed.specs.Sound.{type_of}
use Rattle.limbo_typed.specs.View.{Item, view_expr, view_item, view_pattern, pattern_step, place_node_step, node_step, item_step}
use Rattle.limbo_typed.specs.View.{place_step}
use Rattle.limbo_typed.specs.View.{expr_step as expr_step_of_typed}
use Rattle.limbo_typed.proofs.View.{view_expr-out, view_item-out}
use Rattle.limbo_forms.specs.Forms.{is_int}
use Rattle.limbo_typing.specs.limbo_value_forms.Forms.{two, given_by, copied}
use Rattle.limbo_things.specs.Things.{Thing, AType}
use Rattle.limbo_typing.specs.Typing.{is_path, is_pattern}
use Rattle.limbo_typing.specs.Failing.{changed_in, is_enclosed}
use Rattle.limbo_exprs.specs.Parts.{module_in, module_named_by, FailsIndex, no_int}
use Rattle.limbo_types.specs.declared.ty.Ty.TheVariants as make
use Rattle.limbo_types.specs.View.{view_ty}
use Rattle.limbo_types.proofs.View.{view_ty-Nothing}
use Rattle.limbo_refusals.specs.declared.fault.ExprFault.{ExprFault}
use Rattle.limbo_refusals.specs.Refusals.{Refusal, Clash, Refuses, NoneIs}
use Rattle.limbo_causes.specs.declared.fault.Cause as code
use Rattle.limbo_causes.specs.declared.fault.Cause.TheVariants as told_cause
use Rattle.limbo_causes.specs.Causes.{Cause, Refused, nothing, FailsBy}
use Rattle.limbo_causes.proofs.Telling.{fails_weaker, refused_by}
use Rattle.limbo_permits.specs.Counting.{is_some_type}

pub nothing_else : (t : Ty) → (t ≢ Nothing → ⊥) → t ≡ Nothing
nothing_else Nothing h = refl
nothing_else t h = absurd (h (λ e. false≢true (sym (ap is_some_type e))))

-- what a test that fails says
pub untrue : (b : Bool) (P : Type 0) → b ≡ false → (IsTrue b ↔ P) → P → ⊥
untrue b P is h p = false≢true (sym is ∙ h.1 p)

-- the two types of a clash are told
pub clash_fails : (f : ExprFault) (k : code.Cause) (r : Refusal) (Q : Cause → Type 0) → k ≡ told_cause.Refused f → Refuses f (λ s. s ≡ r)
    → Q (Refused r) → FailsBy k Q
clash_fails f k r Q is h q =
    fails_weaker k _ Q (λ c x. subst Q (sym (x.1 ∙ ap Refused x.2)) q) (refused_by f k (λ s. s ≡ r) is h)

pub nothing_fails : (f : ExprFault) (k : code.Cause) (Q : Cause → Type 0) → k ≡ told_cause.Refused f
    → Refuses f (λ s. s ≡ Clash (view_ty make.Nothing) (view_ty make.Nothing)) → Q nothing → FailsBy k Q
nothing_fails f k Q is h q =
    clash_fails f k (Clash (view_ty make.Nothing) (view_ty make.Nothing)) Q is h
    (subst (λ (t : Ty). Q (Refused (Clash t t))) (sym view_ty-Nothing) q)

-- ---- trees

-- no literal text
pub no_text : (e : code_expr.Expr) → ((t : Text) (s : Span) → e ≡ make_expr.Chars t s → ⊥) → (t : List ℕ) → source.view_expr e ≡
    tree.Chars t → ⊥
no_text e never t is = false≢true (sym (no_expr-Chars e never) ∙ ap is_chars is)

-- no slice, and so nothing is copied into it
pub no_copy : (e : code_expr.Expr)
    → ((a : Box code_expr.Expr Global) (i j : Option (Box code_expr.Expr Global)) (s : Span) → e ≡ make_expr.Slice a i j s → ⊥)
    → (r : tree.Expr) → copied (source.view_expr e) r ≡ None
unfolding source.view_expr source.view_init
no_copy e never r = go (out-Expr e) (sym (roll-out-Expr e))
  where
    go : (y : Expr-F code_expr.Expr code_init.Init) → e ≡ roll-Expr y → copied (source.view_expr e) r ≡ None
    go (Expr-F.Slice a i j s) at = absurd (never a i j s (at ∙ make_expr.rolls-Slice a i j s))
    go y at = ap (λ x. copied (source.view_expr x) r) at ∙ ap (λ t. copied t r) (fold-roll-Expr tree.Expr tree.Init expr_step init_step y)

-- neither `nil` nor in parentheses, and neither a name nor what stands behind one
pub no_pattern_form : (e : code_expr.Expr) → ((s : Span) → e ≡ make_expr.Nil s → ⊥)
    → ((es : Vec code_expr.Expr Global) (s : Span) → e ≡ make_expr.Group es s → ⊥) → is_pattern (source.view_expr e) ≡ false
unfolding source.view_expr source.view_init
no_pattern_form e no_nil no_group = go (out-Expr e) (sym (roll-out-Expr e))
  where
    go : (y : Expr-F code_expr.Expr code_init.Init) → e ≡ roll-Expr y → is_pattern (source.view_expr e) ≡ false
    go (Expr-F.Nil s) at = absurd (no_nil s (at ∙ make_expr.rolls-Nil s))
    go (Expr-F.Group es s) at = absurd (no_group es s (at ∙ make_expr.rolls-Group es s))
    go y at = ap (λ x. is_pattern (source.view_expr x)) at ∙ ap is_pattern (fold-roll-Expr tree.Expr tree.Init expr_step init_step y)

pub no_path : (e : code_expr.Expr)
    → ((b : Box code_expr.Expr Global) (n : code_name.Name) (s : Span) → e ≡ make_expr.Dot b n s → ⊥)
    → ((b : Box code_expr.Expr Global) (n : code_name.Name) (s : Span) → e ≡ make_expr.Arrow b n s → ⊥)
    → ((t : Text) (s : Span) → e ≡ make_expr.Name t s → ⊥) → is_path (source.view_expr e) ≡ false
unfolding source.view_expr source.view_init
no_path e no_dot no_arrow no_name = go (out-Expr e) (sym (roll-out-Expr e))
  where
    go : (y : Expr-F code_expr.Expr code_init.Init) → e ≡ roll-Expr y → is_path (source.view_expr e) ≡ false
    go (Expr-F.Dot b n s) at = absurd (no_dot b n s (at ∙ make_expr.rolls-Dot b n s))
    go (Expr-F.Arrow b n s) at = absurd (no_arrow b n s (at ∙ make_expr.rolls-Arrow b n s))
    go (Expr-F.Name t s) at = absurd (no_name t s (at ∙ make_expr.rolls-Name t s))
    go y at = ap (λ x. is_path (source.view_expr x)) at ∙ ap is_path (fold-roll-Expr tree.Expr tree.Init expr_step init_step y)

-- not in parentheses
pub not_enclosed : (e : code_expr.Expr) → ((es : Vec code_expr.Expr Global) (s : Span) → e ≡ make_expr.Group es s → ⊥)
    → is_enclosed (source.view_expr e) ≡ false
unfolding source.view_expr source.view_init
not_enclosed e no_group = go (out-Expr e) (sym (roll-out-Expr e))
  where
    go : (y : Expr-F code_expr.Expr code_init.Init) → e ≡ roll-Expr y → is_enclosed (source.view_expr e) ≡ false
    go (Expr-F.Group es s) at = absurd (no_group es s (at ∙ make_expr.rolls-Group es s))
    go y at = ap (λ x. is_enclosed (source.view_expr x)) at ∙ ap is_enclosed (fold-roll-Expr tree.Expr tree.Init expr_step init_step y)

-- a pattern that stores somewhere
abbrev is_nothing : typed.Pattern → Bool
is_nothing typed.ToNothing = true
is_nothing _ = false

pub stores : (p : code_pattern.Pattern) → (p ≡ make_pattern.Nothing → ⊥) → view_pattern p ≢ typed.ToNothing
unfolding view_pattern
stores p never is = false≢true (sym (go (out-Pattern p) (sym (roll-out-Pattern p))) ∙ ap is_nothing is)
  where
    go : (y : Pattern-F code_pattern.Pattern code_place_node.PlaceNode code_node.TNode code_item.Item code_place.Place code_typed.TExpr)
        → p ≡ roll-Pattern y → is_nothing (view_pattern p) ≡ false
    go Pattern-F.Nothing at = absurd (never (at ∙ make_pattern.rolls-Nothing))
    go y at =
        ap (λ x. is_nothing (view_pattern x)) at
        ∙ ap is_nothing
        (fold-roll-Pattern _ _ _ _ _ _ pattern_step place_node_step node_step item_step place_step expr_step_of_typed y)

-- ---- types

pub no_module_type : (u : code_ty.Ty) → ((n : ℕ) → u ≡ make.Module n → ⊥) → None ≡ module_in (view_ty u)
no_module_type u never = go (view_ty u) (has_form u)
  where
    go : (t : Ty) → HasForm u t → None ≡ module_in t
    go (ty.Module n) h = absurd (never h.0 h.1)
    go _ h = refl

pub typed_as : (e : code_typed.TExpr) → type_of (view_expr e) ≡ view_ty e.ty
typed_as e = ap type_of (view_expr-out e)

pub int_is : (t : Ty) → is_int t ≡ true → t ≡ Int
int_is Int h = refl
int_is t h = absurd (false≢true h)

pub int_type : (e : code_typed.TExpr) (b : Bool) → b ≡ is_int (view_ty e.ty) → b ≡ true → type_of (view_expr e) ≡ Int
int_type e b is h = typed_as e ∙ int_is (view_ty e.ty) (sym is ∙ h)

pub int_fails : (f : ExprFault) (k : code.Cause) (e : code_typed.TExpr) (b : Bool) → b ≡ is_int (view_ty e.ty) → b ≡ false
    → k ≡ told_cause.Refused f → Refuses f (λ s. s ≡ Clash (view_ty e.ty) (view_ty make.Int)) → FailsBy k (FailsIndex (view_expr e))
int_fails f k e b is h told_of refuses =
    clash_fails f k (Clash (view_ty e.ty) (view_ty make.Int)) (FailsIndex (view_expr e)) told_of refuses
    (subst (λ (t : Ty). FailsIndex (view_expr e) (Refused (Clash t (view_ty make.Int)))) (typed_as e)
    (subst (λ (t : Ty). FailsIndex (view_expr e) (Refused (Clash (type_of (view_expr e)) t))) (sym view_ty-Int)
    (no_int (λ p. false≢true (sym h ∙ is ∙ ap is_int (sym (typed_as e) ∙ p))))))

-- a type that is a module type, and a thing that is the name of one
pub module_is : (t : Ty) (i : ℕ) → Some i ≡ module_in t → t ≡ ty.Module i
module_is (ty.Module j) i h = ap (λ n. elim n [ None ↦ ty.Module j | Some k ↦ ty.Module k ]) (sym h)
module_is _ i h = absurd (none-some i (sym h))

pub named_module : (t : Thing) (i : ℕ) → Some i ≡ module_named_by t → t ≡ AType (ty.Module i)
named_module (AType t) i h = ap AType (module_is t i h)
named_module _ i h = absurd (none-some i (sym h))

pub no_named_module : (t : Thing) → None ≡ module_named_by t → NoneIs (λ i. t ≡ AType (ty.Module i))
no_named_module t h i is = none-some i (h ∙ ap module_named_by is)

-- ---- items

abbrev item_of : ℤ → code_typed.TExpr → Item
item_of k v = record { index = k; value = view_expr v }

pub put_behind : (xs ys zs : List code_item.Item) (j : code_item.Item) (k : ℤ) (v : code_typed.TExpr) → zs ≡ ys ++ j ∷ [] → ys ≡ xs
    → j.index ≡ k → j.value ≡ v → map view_item zs ≡ map view_item xs ++ (record { index = k; value = view_expr v }) ∷ []
put_behind xs ys zs j k v p q r t =
    ap (map view_item) (p ∙ ap (λ (us : List code_item.Item). us ++ j ∷ []) q) ∙ map-append view_item xs (j ∷ [])
    ∙ ap (λ i. map view_item xs ++ i ∷ [])
    (view_item-out j ∙ ap (λ n. item_of n j.value) r ∙ ap (λ (w : code_typed.TExpr). item_of k w) t)

-- ---- what operators change

pub changes_before : (o : UnaryOp) → (o ≡ before.Increment → ⊥) → (o ≡ before.Decrement → ⊥) → (e : tree.Expr)
    → changed_in (tree.Unary o e) ≡ None
changes_before before.Increment p q e = absurd (p refl)
changes_before before.Decrement p q e = absurd (q refl)
changes_before _ p q e = refl

pub changes_left : (o : AssignOp) → (o ≡ assign.Assign → ⊥) → (o ≡ assign.Define → ⊥) → (o ≡ assign.Send → ⊥) → (l r : tree.Expr)
    → changed_in (tree.Assign o l r) ≡ Some l
changes_left assign.Assign p q s l r = absurd (p refl)
changes_left assign.Define p q s l r = absurd (q refl)
changes_left assign.Send p q s l r = absurd (s refl)
changes_left _ p q s l r = refl

-- ---- others

pub some_of : {A : Type 0} (o : Option A) → IsSome o → (a : A) × (o ≡ Some a)
some_of None h = absurd (false≢true h)
some_of (Some a) h = (a, refl)

-- an operator that gives its right side to its left one is neither `=` nor `:=`
pub gives_two : (o : AssignOp) → (o ≡ assign.Assign → ⊥) → (o ≡ assign.Define → ⊥) → (l r : tree.Expr) → given_by o l r ≡ Some (two l r)
gives_two assign.Assign p q l r = absurd (p refl)
gives_two assign.Define p q l r = absurd (q refl)
gives_two _ p q l r = refl
