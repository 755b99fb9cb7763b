-- What is put together is sound where its parts are.
use Rattle.std.proofs.Common.{◌≡◌, ◌<◌, ◌++◌, ℕ, List, [], ◌∷◌, Some, refl, sym, ap, subst, ◌∙◌}
use Rattle.std.specs.Prelude.{length}
use Rattle.std.proofs.lemmas.Option.{slice_get_within}
use Rattle.limbo_values.specs.declared.operator.Unary.{Unary}
use Rattle.limbo_values.specs.declared.operator.Unary.TheVariants as unary
use Rattle.limbo_types.specs.Types.{Ty, Int, Tuple, Adt, RefAdt, RefPick}
use Rattle.limbo_layout.specs.Adts.{Def}
use Rattle.limbo_tree.specs.declared.operators.PostfixOp.{PostfixOp}
use Rattle.limbo_tree.specs.declared.operators.PostfixOp.TheVariants as behind
use Rattle.limbo_tree.specs.declared.operators.UnaryOp.TheVariants as before
use Rattle.limbo_typed.specs.declared.operation.Operation.TheVariants as op
use Rattle.limbo_typed.specs.Typed.{Expr, Of, Optional, Absent, Present, Exprs, NoExprs, Module, Var}
use Rattle.limbo_typed.specs.Fitting.{of_kind, IsRefOf, HasPart, bound, Gives}
use Rattle.limbo_typed.specs.Sound.{type_of, types_of, IsNamed, SoundExpr, SoundExprs, SoundOptional}
use Rattle.limbo_fields.specs.Fields.{Names}
use Rattle.limbo_fields.proofs.Named.{there}
use Rattle.limbo_forms.specs.Forms.{kind_of}
use Rattle.limbo_forms.proofs.Tests.{choose_some, kind_is}
use Rattle.limbo_prefixes.specs.Rows.{OneRow, one, UnaryRow, before_of}
use Rattle.limbo_prefixes.specs.Choosing.{alter_row}
use Rattle.limbo_prefixes.proofs.OneTable.{unary_found}
use Rattle.limbo_places.specs.Slices.{is_present, with_bound, IsBound}
use Rattle.limbo_places.specs.Targets.{HasParts}
use Rattle.limbo_places.specs.Elements as element_rule
use Rattle.limbo_places.specs.Slices as slice_rule
use Rattle.limbo_places.specs.Targets as rule
use Rattle.limbo_places.specs.Steps as step_rule
use Rattle.limbo_places.specs.Laws.{IndexesAreSound, SlicesAreSound, TargetsAreSound, PartsAreSound, ReferencesAreSound, StepsAreSound}

-- ---- elements and slices

pub indexes_sound : IndexesAreSound
indexes_sound m vs _ _ _ (element_rule.element t n i h) s k l = (l, ((l, (s, (refl, k.1), refl)), refl))
indexes_sound m vs _ _ _ (element_rule.in_place p i) s k l = (l, ((l, (s.1.0, (refl, k.1), s.1.1, refl)), refl))
indexes_sound m vs _ _ _ (element_rule.in_value n i h) s k l = (l, ((s, (k, tt)), (refl, refl)))

bound_types : (o : Optional) (es : Exprs) → IsBound o → types_of (with_bound o es) ≡ bound (is_present o) ++ types_of es
bound_types Absent es b = refl
bound_types (Present e) es b = ap (λ (z : Ty). z ∷ types_of es) b

bound_sound : (m : Module) (vs : List Var) (o : Optional) (es : Exprs) → SoundOptional m vs o Int → SoundExprs m vs es
    → SoundExprs m vs (with_bound o es)
bound_sound m vs Absent es s k = k
bound_sound m vs (Present e) es s k = (s.0, k)

no_more : (xs : List Ty) → xs ++ [] ≡ xs
no_more [] = refl
no_more (x ∷ xs) = ap (λ (z : List Ty). x ∷ z) (no_more xs)

pub slices_sound : SlicesAreSound
slices_sound m vs _ _ _ _ (slice_rule.slices s (Of t n) from to c f g) k a b =
    let last : types_of (with_bound to NoExprs) ≡ bound (is_present to) = bound_types to NoExprs g ∙ no_more (bound (is_present to)) in
    let all : types_of (with_bound from (with_bound to NoExprs)) ≡ bound (is_present from) ++ bound (is_present to) =
    bound_types from (with_bound to NoExprs) f ∙ ap (λ (z : List Ty). bound (is_present from) ++ z) last in
    let parts = bound_sound m vs from (with_bound to NoExprs) a (bound_sound m vs to NoExprs b tt) in
    (k.0, ((k, parts), (c.sliced, ap (λ (z : List Ty). t ∷ z) all)))

-- ---- targets, parts and references

pub targets_sound : TargetsAreSound
targets_sound m vs _ _ (rule.target n r h) s k = (k, ((k, (s, h)), refl))

part_of_whole : (defs : List Def) (name : List ℕ) (of : Ty) (k : ℕ) (t : Ty) → HasParts of → Names defs name of k t
    → HasPart defs of k t
part_of_whole defs name (Tuple ts) k t h c = there defs name (Tuple ts) k t c
part_of_whole defs name (Adt n) k t h c = there defs name (Adt n) k t c
part_of_whole defs name _ k t h c = absurd h

part_of_target : (defs : List Def) (name : List ℕ) (of : Ty) (n : ℕ) (k : ℕ) (t : Ty) → IsRefOf n of → Names defs name of k t
    → HasPart defs (Adt n) k t
part_of_target defs name (RefAdt m) n k t h c =
    subst (λ (z : ℕ). HasPart defs (Adt z) k t) h (there defs name (RefAdt m) k t c)
part_of_target defs name (RefPick m v) n k t h c =
    subst (λ (z : ℕ). HasPart defs (Adt z) k t) h (there defs name (RefPick m v) k t c)
part_of_target defs name _ n k t h c = absurd h

-- what a named `ref` names is named
target_named : (m : Module) (t : Ty) (n : ℕ) → IsRefOf n t → IsNamed m t → IsNamed m (Adt n)
target_named m (RefAdt k) n h s = (subst (λ (z : ℕ). z < length m.adts) h s.0, tt)
target_named m (RefPick k v) n h s = (subst (λ (z : ℕ). z < length m.adts) h (slice_get_within m.adts k s.0.def s.0.there), tt)
target_named m _ n h s = absurd h

named : (m : Module) (vs : List Var) (e : Expr) → SoundExpr m vs e → IsNamed m (type_of e)
named m vs (Of t n) s = s.0

place_part : (m : Module) (t u v : Ty) (k : ℕ) → u ≡ t → HasPart m.adts t k v → HasPart m.adts u k v
place_part m t u v k e h = subst (λ (z : Ty). HasPart m.adts z k v) (sym e) h

pub parts_sound : PartsAreSound
parts_sound m vs name _ _ (rule.Selects.in_place of p k t h c i) s l =
    (l, ((l, (s.1.0, place_part m of _ t k s.1.1 (part_of_whole m.adts name of k t h c))), refl))
parts_sound m vs name _ _ (rule.Selects.in_value of n k t h o c i) s l = (l, (s, part_of_whole m.adts name of k t h c))
parts_sound m vs name _ _ (rule.in_target n r k t h c i) s l =
    let at_target = target_named m (type_of r) n h (named m vs r s) in
    (l, ((l, ((at_target, (s, h)), part_of_target m.adts name (type_of r) n k t h c)), refl))

pub references_sound : ReferencesAreSound
references_sound m vs _ _ (rule.Refers.variant n v i h) s l = (l, ((s, tt), refl))
references_sound m vs _ _ (rule.whole n i h) s l = (l, ((s, tt), refl))

-- ---- steps

altered_gives : (defs : List Def) (u : Unary) (t : Ty) (r : OneRow) → alter_row u t ≡ Some r → Gives defs r.operation (t ∷ []) t
altered_gives defs u t r e =
    let k = choose_some (kind_of t) _ r e in
    let f : one (of_kind k.0) (op.Alter u k.0) (of_kind k.0) ≡ r = let g = k.2 in cc in
    let q : t ≡ of_kind k.0 = kind_is t k.0 k.1 in
    subst (λ (z : OneRow). Gives defs z.operation (t ∷ []) t) f (ap (λ (z : Ty). z ∷ []) q, q)

-- what a step's row says of any adts
stepping_gives : (defs : List Def) (o : PostfixOp) (t : Ty) (r : OneRow) → UnaryRow [] (before_of o) t r
    → Gives defs r.operation (t ∷ []) t
stepping_gives defs behind.Increment t r h = altered_gives defs unary.Increment t r (unary_found [] before.Increment t r h)
stepping_gives defs behind.Decrement t r h = altered_gives defs unary.Decrement t r (unary_found [] before.Decrement t r h)

place_gives : (defs : List Def) (o : PostfixOp) (t u : Ty) (r : OneRow) → u ≡ t → UnaryRow [] (before_of o) t r
    → Gives defs r.operation (u ∷ []) u
place_gives defs o t u r e h = subst (λ (z : Ty). Gives defs r.operation (z ∷ []) z) (sym e) (stepping_gives defs o t r h)

pub steps_sound : StepsAreSound
steps_sound m vs o g _ _ (step_rule.steps t p r h) s = (s.0, (s.1.0, place_gives m.adts o t _ r s.1.1 h, s.1.1))
