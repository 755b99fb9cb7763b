-- The type that is found of elements is the least for which they stand.
use Rattle.std.proofs.Common.{◌≡◌, ◌==◌, ℕ, Bool, true, false, cond, List, [], ◌∷◌, Option, Some, None, option_map, refl, sym, ap, subst, ◌∙◌, inl, inr}
use Rattle.std.proofs.lemmas.Bool.{eqb-true}
use Rattle.std.proofs.Common.{rules, tests}
use Rattle.std.specs.Prelude.{IfSome, IfNone}
use Rattle.limbo_types.specs.declared.ty.Ty as code_ty
use Rattle.limbo_types.specs.View.{view_ty}
use Rattle.limbo_types.specs.Types.{Ty, Nil, RefAdt, RefPick}
use Rattle.limbo_types.specs.Same.{same}
use Rattle.limbo_types.proofs.Same.{only, itself}
use Rattle.limbo_typed.specs.Fitting.{Stands, IsVariantOf}
use Rattle.limbo_forms.specs.Forms.{is_settled, ref_of}
use Rattle.limbo_standing.specs.Joining.{AllOpen, SettledStand, Joins, common_adt, join_two, join, or_nil, joined}
use Rattle.limbo_forms.specs.Forms.{choose}
use Rattle.limbo_standing.specs.Joining as rule
use Rattle.limbo_forms.proofs.Tests.{settled_is, not_settled}

-- ---- standing

variant_top : (t u w : Ty) → IsVariantOf t u → IsVariantOf u w → ⊥
variant_top (RefPick n v) u w h k = subst (λ (z : Ty). IsVariantOf z w) h k
variant_top _ u w h k = absurd h

pub stands_anti : (t u : Ty) → Stands t u → Stands u t → t ≡ u
stands_anti t u (inl e) k = e
stands_anti t u (inr v) (inl e) = sym e
stands_anti t u (inr v) (inr w) = absurd (variant_top t u t v w)

above_adt : (n : ℕ) (u : Ty) → Stands (RefAdt n) u → u ≡ RefAdt n
above_adt n u (inl e) = sym e
above_adt n u (inr v) = absurd v

ref_stands : (n : ℕ) (t : Ty) → ref_of t ≡ Some n → Stands t (RefAdt n)
ref_stands n (RefAdt m) e = inl (let f : m ≡ n = cc in ap RefAdt f)
ref_stands n (RefPick m v) e = inr (let f : m ≡ n = cc in ap RefAdt (sym f))
ref_stands n _ e = absurd cc

-- a `ref` of a variant below a type, which is then that of the adt
variant_adt : (t u : Ty) → IsVariantOf t u → (n : ℕ) × (ref_of t ≡ Some n) × (u ≡ RefAdt n)
variant_adt (RefPick n v) u h = (n, refl, h)
variant_adt _ u h = absurd h

below_adt : (n : ℕ) (t u : Ty) → Stands t u → u ≡ RefAdt n → ref_of t ≡ Some n
below_adt n t u (inl e) h = ap ref_of (e ∙ h)
below_adt n t u (inr v) h =
    let p = variant_adt t u v in
    let f : RefAdt p.0 ≡ RefAdt n = sym p.2 ∙ h in
    let g : p.0 ≡ n = cc in
    p.1 ∙ ap Some g

eqb_same : (n : ℕ) → (n == n) ≡ true
eqb_same n = search (rules, tests)

common_there : (t u : Ty) (n : ℕ) → ref_of t ≡ Some n → ref_of u ≡ Some n → common_adt t u ≡ Some n
common_there t u n e f = rw (e, f, eqb_same n) refl

common_is : (t u : Ty) (n : ℕ) → common_adt t u ≡ Some n → (ref_of t ≡ Some n) × (ref_of u ≡ Some n)
common_is t u n e = at_left (ref_of t) refl e
  where
    at_test : (k m : ℕ) (b : Bool) → (m == k) ≡ b → ref_of t ≡ Some k → ref_of u ≡ Some m → cond b (Some k) None ≡ Some n
        → (ref_of t ≡ Some n) × (ref_of u ≡ Some n)
    at_test k m true h f g e = let i : k ≡ n = cc in (f ∙ ap Some i, g ∙ ap Some (eqb-true m k h ∙ i))
    at_test k m false h f g e = absurd cc

    at_right : (k : ℕ) (o : Option ℕ) → ref_of t ≡ Some k → ref_of u ≡ o → choose o None (λ m. cond (m == k) (Some k) None) ≡ Some n
        → (ref_of t ≡ Some n) × (ref_of u ≡ Some n)
    at_right k (Some m) f g e = at_test k m (m == k) refl f g e
    at_right k None f g e = absurd cc

    at_left : (o : Option ℕ) → ref_of t ≡ o → choose o None (λ k. choose (ref_of u) None (λ m. cond (m == k) (Some k) None)) ≡ Some n
        → (ref_of t ≡ Some n) × (ref_of u ≡ Some n)
    at_left (Some k) f e = at_right k (ref_of u) f refl e
    at_left None f e = absurd cc

-- both stand for a type
abbrev Both : Ty → Ty → Ty → Type 0
Both t u w = Stands t w × Stands u w

-- two that differ stand for one type only as `ref`s of one adt
both_refs : (t u w : Ty) → same t u ≡ false → Both t u w → (n : ℕ) × (common_adt t u ≡ Some n) × (w ≡ RefAdt n)
both_refs t u w d (inl e, inl f) = absurd (let g : true ≡ false = sym (ap (λ z. same t z) (sym (e ∙ sym f)) ∙ itself t) ∙ d in cc)
both_refs t u w d (inr v, k) =
    let p = variant_adt t w v in
    (p.0, common_there t u p.0 p.1 (below_adt p.0 u w k p.2), p.2)
both_refs t u w d (inl e, inr v) =
    let p = variant_adt u w v in
    (p.0, common_there t u p.0 (below_adt p.0 t w (inl e) p.2) p.1, p.2)

-- what two types that stand for others have to do with the type that they have together
Verdict : Ty → Ty → Option Ty → Type 0
Verdict t u (Some j) = ((w : Ty) → Both t u w → Stands j w) × ((w : Ty) → Stands j w → Both t u w)
Verdict t u None = (w : Ty) → Both t u w → ⊥

two : (t u : Ty) → Verdict t u (join_two t u)
unfolding Verdict
two t u = at_same (same t u) refl
  where
    at_refs : same t u ≡ false → (o : Option ℕ) → common_adt t u ≡ o → Verdict t u (option_map RefAdt o)
    at_refs d (Some n) e =
        let p = common_is t u n e in (
          (λ w h. let q = both_refs t u w d h in
              let f : Some q.0 ≡ Some n = sym q.1 ∙ e in
              let g : q.0 ≡ n = cc in
              inl (sym (q.2 ∙ ap RefAdt g))),
          (λ w h. let f : w ≡ RefAdt n = above_adt n w h in
              (subst (λ (z : Ty). Stands t z) (sym f) (ref_stands n t p.0), subst (λ (z : Ty). Stands u z) (sym f) (ref_stands n u p.1))),
        )
    at_refs d None e = λ w h. let q = both_refs t u w d h in let f : Some q.0 ≡ None = sym q.1 ∙ e in absurd cc

    at_same : (b : Bool) → same t u ≡ b → Verdict t u (cond b (Some t) (option_map RefAdt (common_adt t u)))
    at_same true e = ((λ w h. h.0), (λ w h. (h, subst (λ (z : Ty). Stands z w) (only t u e) h)))
    at_same false e = at_refs e (common_adt t u) refl

-- ---- elements behind one that is settled

Found : Ty → List Ty → Option Ty → Type 0
Found s ts (Some j) =
    ((w : Ty) → Stands s w → SettledStand ts w → Stands j w) × ((w : Ty) → Stands j w → Stands s w × SettledStand ts w)
Found s ts None = (w : Ty) → Stands s w → SettledStand ts w → ⊥

skipped : (s t : Ty) (ts : List Ty) → is_settled t ≡ false → (o : Option Ty) → Found s ts o → Found s (t ∷ ts) o
unfolding Found
skipped s t ts e (Some j) h = (
  (λ w k l. h.0 w k l.1),
  (λ w k. let p = h.1 w k in (p.0, ((λ i. absurd (not_settled t e i)), p.1))),
)
skipped s t ts e None h = λ w k l. h w k l.1

went : (s t j : Ty) (ts : List Ty) → is_settled t ≡ true → Verdict s t (Some j) → (o : Option Ty) → Found j ts o → Found s (t ∷ ts) o
unfolding Found Verdict
went s t j ts e v (Some k) h = (
  (λ w a b. h.0 w (v.0 w (a, b.0 (settled_is t e))) b.1),
  (λ w a. let p = h.1 w a in let q = v.1 w p.0 in (q.0, ((λ i. q.1), p.1))),
)
went s t j ts e v None h = λ w a b. h w (v.0 w (a, b.0 (settled_is t e))) b.1

stopped : (s t : Ty) (ts : List Ty) → is_settled t ≡ true → Verdict s t None → Found s (t ∷ ts) None
unfolding Found Verdict
stopped s t ts e v = λ w a b. v w (a, b.0 (settled_is t e))

ending : (s : Ty) → Found s [] (Some s)
unfolding Found
ending s = ((λ w a b. a), (λ w a. (a, tt)))

at_join : (s t : Ty) (ts : List Ty) → ((r : Ty) → Found r ts (joined (Some r) ts)) → is_settled t ≡ true → (o : Option Ty) → Verdict s t o
    → Found s (t ∷ ts) (choose (choose o None (λ j. Some (Some j))) None (λ r. joined r ts))
at_join s t ts ih e (Some j) v = went s t j ts e v (joined (Some j) ts) (ih j)
at_join s t ts ih e None v = stopped s t ts e v

at_settled : (s t : Ty) (ts : List Ty) → ((r : Ty) → Found r ts (joined (Some r) ts)) → (b : Bool) → is_settled t ≡ b
    → Found s (t ∷ ts)
    (choose (cond b (choose (join_two s t) None (λ j. Some (Some j))) (Some (Some s))) None (λ r. joined r ts))
at_settled s t ts ih true e = at_join s t ts ih e (join_two s t) (two s t)
at_settled s t ts ih false e = skipped s t ts e (joined (Some s) ts) (ih s)

behind : (ts : List Ty) (s : Ty) → Found s ts (joined (Some s) ts)
behind [] s = ending s
behind (t ∷ ts) s = at_settled s t ts (λ r. behind ts r) (is_settled t) refl

-- ---- all elements

-- what is answered is the type, or there is none
Told : List Ty → Option Ty → Type 0
Told ts (Some j) = Joins ts j
Told ts None = (j : Ty) → Joins ts j → ⊥

opened : (t : Ty) (ts : List Ty) → is_settled t ≡ false → (j : Ty) → Joins ts j → Joins (t ∷ ts) j
opened t ts e _ (rule.open_yet all) = rule.open_yet (not_settled t e, all)
opened t ts e _ (rule.least j some stand least) =
    rule.least j (λ h. some h.1) ((λ i. absurd (not_settled t e i)), stand) (λ u h. least u h.1)

closed_again : (t : Ty) (ts : List Ty) → is_settled t ≡ false → (j : Ty) → Joins (t ∷ ts) j → Joins ts j
closed_again t ts e _ (rule.open_yet all) = rule.open_yet all.1
closed_again t ts e _ (rule.least j some stand least) =
    rule.least j (λ h. some (not_settled t e, h)) stand.1 (λ u h. least u ((λ i. absurd (not_settled t e i)), h))

never : (t : Ty) (ts : List Ty) → is_settled t ≡ true → Found t ts None → (j : Ty) → Joins (t ∷ ts) j → ⊥
unfolding Found
never t ts e h _ (rule.open_yet all) = all.0 (settled_is t e)
never t ts e h _ (rule.least j some stand least) = h j (stand.0 (settled_is t e)) stand.1

first : (t : Ty) (ts : List Ty) → is_settled t ≡ true → (o : Option Ty) → Found t ts o → Told (t ∷ ts) o
unfolding Found Told
first t ts e (Some j) h =
    let p = h.1 j (inl refl) in
    rule.least j (λ all. all.0 (settled_is t e)) ((λ i. p.0), p.1) (λ u k. h.0 u (k.0 (settled_is t e)) k.1)
first t ts e None h = never t ts e h

told_open : (t : Ty) (ts : List Ty) → is_settled t ≡ false → (o : Option Ty) → Told ts o → Told (t ∷ ts) o
unfolding Told
told_open t ts e (Some j) h = opened t ts e j h
told_open t ts e None h = λ j k. h j (closed_again t ts e j k)

told_first : (t : Ty) (ts : List Ty) → Told ts (joined None ts) → (b : Bool) → is_settled t ≡ b
    → Told (t ∷ ts) (choose (cond b (Some (Some t)) (Some None)) None (λ r. joined r ts))
told_first t ts ih true e = first t ts e (joined (Some t) ts) (behind ts t)
told_first t ts ih false e = told_open t ts e (joined None ts) ih

told_nothing : Told [] (Some Nil)
unfolding Told
told_nothing = rule.open_yet tt

told_joined : (ts : List Ty) → Told ts (joined None ts)
told_joined [] = told_nothing
told_joined (t ∷ ts) = told_first t ts (told_joined ts) (is_settled t) refl

pub joins_once : (ts : List Ty) (t u : Ty) → Joins ts t → Joins ts u → t ≡ u
joins_once ts _ _ (rule.open_yet all) (rule.open_yet again) = refl
joins_once ts _ _ (rule.open_yet all) (rule.least u some stand least) = absurd (some all)
joins_once ts _ _ (rule.least t some stand least) (rule.open_yet all) = absurd (some all)
joins_once ts _ _ (rule.least t some stand least) (rule.least u more holds lowest) =
    stands_anti t u (least u holds) (lowest t stand)

pub joins_given : (ts : List Ty) (j : Ty) → joined None ts ≡ Some j → Joins ts j
unfolding Told
joins_given ts j e = subst (λ (o : Option Ty). Told ts o) e (told_joined ts)

pub joins_not : (ts : List Ty) → joined None ts ≡ None → (j : Ty) → Joins ts j → ⊥
unfolding Told
joins_not ts e = subst (λ (o : Option Ty). Told ts o) e (told_joined ts)

pub joins_found : (ts : List Ty) (j : Ty) → Joins ts j → joined None ts ≡ Some j
joins_found ts j h = go (joined None ts) refl
  where
    go : (o : Option Ty) → joined None ts ≡ o → o ≡ Some j
    go (Some k) e = ap Some (joins_once ts k j (joins_given ts k e) h)
    go None e = absurd (joins_not ts e j h)

-- ---- the same of a type of the code

pub type_found : (ts : List Ty) (t : Option code_ty.Ty) → joined None ts ≡ option_map view_ty t → IfSome t (λ t. Joins ts (view_ty t))
type_found ts (Some t) e = joins_given ts (view_ty t) e
type_found ts None e = tt

pub type_absent : (ts : List Ty) (t : Option code_ty.Ty) → joined None ts ≡ option_map view_ty t → IfNone t ((u : Ty) → Joins ts u → ⊥)
type_absent ts (Some t) e = tt
type_absent ts None e = joins_not ts e
