-- Values that are settled one after the other, and the first that isn't.
use Rattle.std.proofs.Common.{◌≡◌, ◌+◌, ◌<◌, ◌≤◌, ◌==◌, Bool, true, false, rules, tests, ℕ, suc, List}
use Rattle.std.proofs.Common.{[], ◌∷◌, ◌++◌, map, take, drop, length, get_or, refl, sym, ap, subst, ◌∙◌, arith}
use Rattle.std.proofs.Math.ListN.{set}
use Rattle.std.proofs.Math.Seq.{drop-cons}
use Rattle.std.proofs.lemmas.List.{take_more_set, drop-set-lt, take_all, drop_all, map-append}
use Rattle.limbo_types.specs.declared.ty.Ty as code_ty
use Rattle.limbo_types.specs.Types.{Ty}
use Rattle.limbo_types.specs.View.{view_ty}
use Rattle.limbo_typed.specs.declared.expr.TExpr as code_expr
use Rattle.limbo_typed.specs.Typed.{Expr, Exprs, NoExprs, MoreExprs}
use Rattle.limbo_typed.specs.Fitting.{AllStand, EachStands}
use Rattle.limbo_typed.specs.Sound.{type_of, types_of}
use Rattle.limbo_typed.specs.View.{view_expr, view_exprs, exprs_of}
use Rattle.limbo_typed.proofs.View.{view_expr-out}
use Rattle.limbo_refusals.specs.Refusals.{Refusal, Clash, NoneIs}
use Rattle.limbo_standing.specs.Standing.{Settles, SettleEach, SettleAll}
use Rattle.limbo_standing.specs.Standing as rule
use Rattle.limbo_standing.proofs.Settled.{settled_once, settled_stands}
use Rattle.limbo_arguments.specs.Failing.{FailsAt, FailsEach, FailsAll}
use Rattle.limbo_arguments.specs.Failing as fails

-- ---- laws

-- what values are, by the first of them

none_left : (gs : Exprs) → SettleEach [] NoExprs gs → NoExprs ≡ gs
none_left _ rule.none_left = refl

each_first : (t : Ty) (ts : List Ty) (e : Expr) (es gs : Exprs) → SettleEach (t ∷ ts) (MoreExprs e es) gs
    → (f : Expr) × (fs : Exprs) × Settles t e f × SettleEach ts es fs × (MoreExprs f fs ≡ gs)
each_first t ts e es _ (rule.each _ _ _ f _ fs k rest) = (f, fs, k, rest, refl)

few_none : (t : Ty) (ts : List Ty) (fs : Exprs) → SettleEach (t ∷ ts) NoExprs fs → ⊥
few_none t ts fs k = elim k [ ]

many_none : (e : Expr) (es fs : Exprs) → SettleEach [] (MoreExprs e es) fs → ⊥
many_none e es fs k = elim k [ ]

no_values : (t : Ty) (gs : Exprs) → SettleAll t NoExprs gs → NoExprs ≡ gs
no_values _ _ (rule.no_values t) = refl

all_first : (t : Ty) (e : Expr) (es gs : Exprs) → SettleAll t (MoreExprs e es) gs
    → (f : Expr) × (fs : Exprs) × Settles t e f × SettleAll t es fs × (MoreExprs f fs ≡ gs)
all_first t e es _ (rule.values _ _ f _ fs k rest) = (f, fs, k, rest, refl)

pub each_once : (ts : List Ty) (es fs gs : Exprs) → SettleEach ts es fs → SettleEach ts es gs → fs ≡ gs
each_once _ _ _ gs rule.none_left k = none_left gs k
each_once _ _ _ gs (rule.each t ts e f es fs h more) k =
    let p = each_first t ts e es gs k in
    let q : f ≡ p.0 = settled_once t e f p.0 h p.2 in
    let r : fs ≡ p.1 = each_once ts es fs p.1 more p.3 in
    let s : MoreExprs p.0 p.1 ≡ gs = p.4 in
    cc

pub all_once : (t : Ty) (es fs gs : Exprs) → SettleAll t es fs → SettleAll t es gs → fs ≡ gs
all_once _ _ _ gs (rule.no_values t) k = no_values t gs k
all_once _ _ _ gs (rule.values t e f es fs h more) k =
    let p = all_first t e es gs k in
    let q : f ≡ p.0 = settled_once t e f p.0 h p.2 in
    let r : fs ≡ p.1 = all_once t es fs p.1 more p.3 in
    let s : MoreExprs p.0 p.1 ≡ gs = p.4 in
    cc

pub each_stand : (ts : List Ty) (es fs : Exprs) → SettleEach ts es fs → AllStand (types_of fs) ts
each_stand _ _ _ rule.none_left = tt
each_stand _ _ _ (rule.each t ts e f es fs h more) = (settled_stands t e f h, each_stand ts es fs more)

pub all_stand : (t : Ty) (es fs : Exprs) → SettleAll t es fs → EachStands (types_of fs) t
all_stand _ _ _ (rule.no_values t) = tt
all_stand _ _ _ (rule.values t e f es fs h more) = (settled_stands t e f h, all_stand t es fs more)

pub each_fails : (whole : Ty) (ts : List Ty) (es fs : Exprs) (r : Refusal) → FailsEach whole ts es r → SettleEach ts es fs → ⊥
each_fails whole _ _ fs _ (fails.too_few t ts) k = few_none t ts fs k
each_fails whole _ _ fs _ (fails.too_many e es) k = many_none e es fs k
each_fails whole _ _ fs _ (fails.at_once t ts e es r h) k = let p = each_first t ts e es fs k in h.stands_not p.0 p.2
each_fails whole _ _ fs _ (fails.behind t ts e f es r h more) k =
    let p = each_first t ts e es fs k in each_fails whole ts es p.1 r more p.3

pub all_fail : (t : Ty) (es fs : Exprs) (r : Refusal) → FailsAll t es r → SettleAll t es fs → ⊥
all_fail t _ fs _ (fails.this_one e es r h) k = let p = all_first t e es fs k in h.stands_not p.0 p.2
all_fail t _ fs _ (fails.later_one e f es r h more) k = let p = all_first t e es fs k in all_fail t es p.1 r more p.3

-- ---- values in a row

abbrev pub Value : Type 0
Value = code_expr.TExpr

-- values before others
abbrev pub with_exprs : List Expr → Exprs → Exprs
with_exprs [] fs = fs
with_exprs (e ∷ es) fs = MoreExprs e (with_exprs es fs)

pub front_more : (es : List Expr) (e : Expr) (fs : Exprs) → with_exprs (es ++ e ∷ []) fs ≡ with_exprs es (MoreExprs e fs)
front_more [] e fs = refl
front_more (d ∷ ds) e fs = ap (MoreExprs d) (front_more ds e fs)

pub front_all : (es : List Expr) → with_exprs es NoExprs ≡ exprs_of es
front_all [] = refl
front_all (e ∷ es) = ap (MoreExprs e) (front_all es)

-- the front with one more value, where another was
pub front_next : (new : List Value) (i : ℕ) (y : Value) (fs : Exprs) → i < length new
    → with_exprs (map view_expr (take (i + 1) (set new i y))) fs ≡ with_exprs (map view_expr (take i new)) (MoreExprs (view_expr y) fs)
front_next new i y fs l =
    ap (λ xs. with_exprs (map view_expr xs) fs) (take_more_set new i y l)
    ∙ ap (λ es. with_exprs es fs) (map-append view_expr (take i new) (y ∷ []))
    ∙ front_more (map view_expr (take i new)) (view_expr y) fs

pub rest_next : (new : List Value) (i : ℕ) (y : Value) → drop (i + 1) (set new i y) ≡ drop (suc i) new
rest_next new i y = ap (λ n. drop n (set new i y)) (let e : i + 1 ≡ suc i = omega arith in e) ∙ drop-set-lt (suc i) new i y (omega arith)

pub rest_here : (new : List Value) (i : ℕ) (d : Value) → i < length new
    → view_exprs (drop i new) ≡ MoreExprs (view_expr (get_or new i d)) (view_exprs (drop (suc i) new))
rest_here new i d l = ap view_exprs (drop-cons new i d l)

pub rest_over : (new : List Value) (i : ℕ) → length new ≤ i → view_exprs (drop i new) ≡ NoExprs
rest_over new i l = ap view_exprs (drop_all i new l)

-- ---- each with a type of its own

-- What is left decides of all of them: what the rest is, all are behind those that were settled, and where the rest is refused, all are.
pub record EachSoFar (whole : Ty) (asked : List Ty) (old : Exprs) (rest : List Ty) (new : List Value) (i : ℕ) : Type 0 where
  pub settled : (fs : Exprs) → SettleEach rest (view_exprs (drop i new)) fs
      → SettleEach asked old (with_exprs (map view_expr (take i new)) fs)
  pub refused : (r : Refusal) → FailsEach whole rest (view_exprs (drop i new)) r → FailsEach whole asked old r

each_step : (whole : Ty) (asked : List Ty) (old : Exprs) (t : Ty) (ts : List Ty) (new : List Value) (i : ℕ) (d y : Value) → i < length new
    → Settles t (view_expr (get_or new i d)) (view_expr y)
    → EachSoFar whole asked old (t ∷ ts) new i → EachSoFar whole asked old ts (set new i y) (i + 1)
each_step whole asked old t ts new i d y l s so_far =
    let x = view_expr (get_or new i d) in
    let rest = view_exprs (drop (suc i) new) in
    record {
      settled = λ fs h.
          let k : SettleEach ts rest fs = subst (λ (xs : List Value). SettleEach ts (view_exprs xs) fs) (rest_next new i y) h in
          subst (λ (z : Exprs). SettleEach asked old z) (sym (front_next new i y fs l))
          (so_far.settled (MoreExprs (view_expr y) fs)
          (subst (λ (z : Exprs). SettleEach (t ∷ ts) z (MoreExprs (view_expr y) fs)) (sym (rest_here new i d l))
          (rule.each t ts x (view_expr y) rest fs s k)));
      refused = λ r h.
          let k : FailsEach whole ts rest r = subst (λ (xs : List Value). FailsEach whole ts (view_exprs xs) r) (rest_next new i y) h in
          so_far.refused r
          (subst (λ (z : Exprs). FailsEach whole (t ∷ ts) z r) (sym (rest_here new i d l))
          (fails.behind t ts x (view_expr y) rest r s k));
    }

pub each_next : (whole : Ty) (asked : List Ty) (old : Exprs) (ts : List code_ty.Ty) (t : code_ty.Ty) (us : List code_ty.Ty)
    (new : List Value) (i : ℕ)
    (d y : Value) → i < length new → ts ≡ t ∷ us → Settles (view_ty t) (view_expr (get_or new i d)) (view_expr y)
    → EachSoFar whole asked old (map view_ty ts) new i → EachSoFar whole asked old (map view_ty us) (set new i y) (i + 1)
each_next whole asked old ts t us new i d y l e s so_far =
    each_step whole asked old (view_ty t) (map view_ty us) new i d y l s
    (subst (λ (vs : List code_ty.Ty). EachSoFar whole asked old (map view_ty vs) new i) e so_far)

pub each_stops : (whole : Ty) (asked : List Ty) (old : Exprs) (ts : List code_ty.Ty) (t : code_ty.Ty) (us : List code_ty.Ty)
    (new : List Value) (i : ℕ)
    (d : Value) (r : Refusal) → i < length new → ts ≡ t ∷ us → EachSoFar whole asked old (map view_ty ts) new i
    → FailsAt (view_ty t) (view_expr (get_or new i d)) r → FailsEach whole asked old r
each_stops whole asked old ts t us new i d r l e so_far h =
    so_far.refused r
    (subst (λ (vs : List code_ty.Ty). FailsEach whole (map view_ty vs) (view_exprs (drop i new)) r) (sym e)
    (subst (λ (z : Exprs). FailsEach whole (map view_ty (t ∷ us)) z r) (sym (rest_here new i d l))
    (fails.at_once (view_ty t) (map view_ty us) (view_expr (get_or new i d)) (view_exprs (drop (suc i) new)) r h)))

pub each_over : (whole : Ty) (asked : List Ty) (old : Exprs) (ts : List code_ty.Ty) (new : List Value) (i : ℕ) (d : Value) → i < length new
    → length ts ≡ 0 → EachSoFar whole asked old (map view_ty ts) new i → FailsEach whole asked old (Clash whole whole)
each_over whole asked old [] new i d l e so_far =
    so_far.refused (Clash whole whole)
    (subst (λ (z : Exprs). FailsEach whole [] z (Clash whole whole)) (sym (rest_here new i d l))
    (fails.too_many (view_expr (get_or new i d)) (view_exprs (drop (suc i) new))))
each_over whole asked old (t ∷ ts) new i d l e so_far = absurd (omega arith)

not_empty : (t : code_ty.Ty) (ts : List code_ty.Ty) → (length (t ∷ ts) == 0) ≡ false
not_empty t ts = search (rules, tests)

pub each_short : (whole : Ty) (asked : List Ty) (old : Exprs) (ts : List code_ty.Ty) (b : Bool) (new : List Value) (i : ℕ) → length new ≤ i
    → b ≡ (length ts == 0) → b ≡ false → EachSoFar whole asked old (map view_ty ts) new i → FailsEach whole asked old (Clash whole whole)
each_short whole asked old [] b new i l e f so_far = absurd (let g : b ≡ true = e in cc)
each_short whole asked old (t ∷ ts) b new i l e f so_far =
    so_far.refused (Clash whole whole)
    (subst (λ (z : Exprs). FailsEach whole (map view_ty (t ∷ ts)) z (Clash whole whole)) (sym (rest_over new i l))
    (fails.too_few (view_ty t) (map view_ty ts)))

pub each_done : (whole : Ty) (asked : List Ty) (old : Exprs) (ts : List code_ty.Ty) (b : Bool) (new : List Value) (i : ℕ) → length new ≤ i
    → b ≡ (length ts == 0) → b ≡ true → EachSoFar whole asked old (map view_ty ts) new i → SettleEach asked old (view_exprs new)
each_done whole asked old (t ∷ ts) b new i l e f so_far = absurd (let g : b ≡ false = e ∙ not_empty t ts in cc)
each_done whole asked old [] b new i l e f so_far =
    let h = so_far.settled NoExprs (subst (λ (z : Exprs). SettleEach [] z NoExprs) (sym (rest_over new i l)) rule.none_left) in
    let p : with_exprs (map view_expr (take i new)) NoExprs ≡ view_exprs new =
    front_all (map view_expr (take i new)) ∙ ap view_exprs (take_all i new l) in
    subst (λ (z : Exprs). SettleEach asked old z) p h

-- ---- all where one type is asked for

pub record AllSoFar (asked : Ty) (old : Exprs) (new : List Value) (i : ℕ) : Type 0 where
  pub settled : (fs : Exprs) → SettleAll asked (view_exprs (drop i new)) fs
      → SettleAll asked old (with_exprs (map view_expr (take i new)) fs)
  pub refused : (r : Refusal) → FailsAll asked (view_exprs (drop i new)) r → FailsAll asked old r

pub all_next : (t : Ty) (old : Exprs) (new : List Value) (i : ℕ) (d y : Value) → i < length new
    → Settles t (view_expr (get_or new i d)) (view_expr y) → AllSoFar t old new i → AllSoFar t old (set new i y) (i + 1)
all_next t old new i d y l s so_far =
    let x = view_expr (get_or new i d) in
    let rest = view_exprs (drop (suc i) new) in
    record {
      settled = λ fs h.
          let k : SettleAll t rest fs = subst (λ (xs : List Value). SettleAll t (view_exprs xs) fs) (rest_next new i y) h in
          subst (λ (z : Exprs). SettleAll t old z) (sym (front_next new i y fs l))
          (so_far.settled (MoreExprs (view_expr y) fs)
          (subst (λ (z : Exprs). SettleAll t z (MoreExprs (view_expr y) fs)) (sym (rest_here new i d l))
          (rule.values t x (view_expr y) rest fs s k)));
      refused = λ r h.
          let k : FailsAll t rest r = subst (λ (xs : List Value). FailsAll t (view_exprs xs) r) (rest_next new i y) h in
          so_far.refused r
          (subst (λ (z : Exprs). FailsAll t z r) (sym (rest_here new i d l)) (fails.later_one x (view_expr y) rest r s k));
    }

pub all_stop : (t : Ty) (old : Exprs) (new : List Value) (i : ℕ) (d : Value) (r : Refusal) → i < length new → AllSoFar t old new i
    → FailsAt t (view_expr (get_or new i d)) r → FailsAll t old r
all_stop t old new i d r l so_far h =
    so_far.refused r
    (subst (λ (z : Exprs). FailsAll t z r) (sym (rest_here new i d l))
    (fails.this_one (view_expr (get_or new i d)) (view_exprs (drop (suc i) new)) r h))

pub all_done : (t : Ty) (old : Exprs) (new : List Value) (i : ℕ) → length new ≤ i → AllSoFar t old new i → SettleAll t old (view_exprs new)
all_done t old new i l so_far =
    let h = so_far.settled NoExprs (subst (λ (z : Exprs). SettleAll t z NoExprs) (sym (rest_over new i l)) (rule.no_values t)) in
    let p : with_exprs (map view_expr (take i new)) NoExprs ≡ view_exprs new =
    front_all (map view_expr (take i new)) ∙ ap view_exprs (take_all i new l) in
    subst (λ (z : Exprs). SettleAll t old z) p h

-- ---- a value that doesn't stand

pub clash_at : (given : code_ty.Ty) (t : Ty) (e : Value) → view_ty given ≡ view_ty e.ty → NoneIs (Settles t (view_expr e))
    → FailsAt t (view_expr e) (Clash (view_ty given) t)
clash_at given t e same none =
    let p : type_of (view_expr e) ≡ view_ty e.ty = ap type_of (view_expr-out e) in
    record { stands_not = none; clash = ap (λ u. Clash u t) (same ∙ sym p) }

-- ---- the types of values

pub types_are : (es : List Value) → types_of (view_exprs es) ≡ map (λ (e : Value). view_ty e.ty) es
types_are [] = refl
types_are (e ∷ es) =
    let p : type_of (view_expr e) ≡ view_ty e.ty = ap type_of (view_expr-out e) in
    ap (λ t. t ∷ types_of (view_exprs es)) p ∙ ap (λ ts. view_ty e.ty ∷ ts) (types_are es)
