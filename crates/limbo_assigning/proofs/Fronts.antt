-- Patterns and types that are found one after the other.
use Rattle.std.proofs.Common.{◌≡◌, ◌<◌, ◌≤◌, ◌+◌, ℕ, suc, List, [], ◌∷◌, ◌++◌, map, drop, length, get_or, ◌==◌, Option, Some, None, option_map, refl, sym, ap, ◌∙◌, arith, rules, tests}
use Rattle.std.proofs.Math.Seq.{drop-cons}
use Rattle.std.proofs.lemmas.List.{drop_all}
use Rattle.limbo_types.specs.Types.{Ty, Tys, NoTys, MoreTys}
use Rattle.limbo_types.specs.View.{tys_of, view_ty, view_tys}
use Rattle.limbo_types.specs.declared.ty.Ty as code_ty
use Rattle.limbo_typed.specs.Typed.{NoPatterns}
use Rattle.limbo_typed.specs.View.{patterns_of, view_pattern}
use Rattle.limbo_typed.specs.declared.expr.Pattern as code_pattern
use Rattle.limbo_standing.specs.Settling.{both}
use Rattle.limbo_assigning.specs.Choosing.{take_each, ask_each, asked}

-- types before others
abbrev pub types_front : List Ty → Option Tys → Option Tys
types_front [] o = o
types_front (t ∷ ts) o = option_map (MoreTys t) (types_front ts o)

pub types_more : (ts : List Ty) (t : Ty) (o : Option Tys) → types_front (ts ++ t ∷ []) o ≡ types_front ts (option_map (MoreTys t) o)
types_more [] t o = refl
types_more (u ∷ us) t o = ap (option_map (MoreTys u)) (types_more us t o)

pub types_none : (ts : List Ty) → types_front ts None ≡ None
types_none [] = refl
types_none (t ∷ ts) = ap (option_map (MoreTys t)) (types_none ts)

pub types_all : (ts : List Ty) → types_front ts (Some NoTys) ≡ Some (tys_of ts)
types_all [] = refl
types_all (t ∷ ts) = ap (option_map (MoreTys t)) (types_all ts)

pub map_last : {A B : Type 0} (f : A → B) (xs : List A) (x : A) → map f (xs ++ x ∷ []) ≡ map f xs ++ f x ∷ []
map_last f [] x = refl
map_last f (y ∷ ys) x = ap (λ zs. f y ∷ zs) (map_last f ys x)

pub both_some : {A B C : Type 0} (f : A → B → C) (a : A) (o : Option B) → both f (Some a) o ≡ option_map (f a) o
both_some f a (Some b) = refl
both_some f a None = refl

-- no patterns take the rest, where nothing is left
pub taken : (rest : List code_ty.Ty) → take_each NoPatterns (view_tys rest) ≡ (length rest == 0)
taken [] = refl
taken (t ∷ ts) = search (rules, tests)

pub asked_over : (rest : List code_ty.Ty) → (length rest ≡ 0) → ask_each NoPatterns (view_tys rest) ≡ Some NoTys
asked_over [] e = refl
asked_over (t ∷ ts) e = absurd (omega arith)

pub asked_left : (rest : List code_ty.Ty) → (length rest ≡ 0 → ⊥) → ask_each NoPatterns (view_tys rest) ≡ None
asked_left [] e = absurd (e refl)
asked_left (t ∷ ts) e = refl

-- ---- what is asked by one pattern, and then by the others

abbrev Row : Type 0
Row = List code_pattern.Pattern

-- what the patterns from a place on ask of these parts
abbrev pub asked_from : Row → ℕ → List code_ty.Ty → Option Tys
asked_from ps i ts = ask_each (patterns_of (map view_pattern (drop i ps))) (view_tys ts)

pub ask_next : (ps : Row) (i : ℕ) (p : code_pattern.Pattern) (ts : List code_ty.Ty) (t : code_ty.Ty) (us : List code_ty.Ty) (so_far : List Ty) (u : Ty)
    → i < length ps → p ≡ get_or ps i p → ts ≡ t ∷ us → asked (view_pattern p) (view_ty t) ≡ Some u
    → types_front so_far (asked_from ps i ts) ≡ types_front (so_far ++ u ∷ []) (asked_from ps (i + 1) us)
ask_next ps i p ts t us so_far u l at e h =
    let d : drop i ps ≡ p ∷ drop (suc i) ps = drop-cons ps i p l ∙ ap (λ (z : code_pattern.Pattern). z ∷ drop (suc i) ps) (sym at) in
    let f : asked_from ps i ts ≡ option_map (MoreTys u) (asked_from ps (suc i) us) =
    ap (λ (z : List code_ty.Ty). ask_each (patterns_of (map view_pattern (drop i ps))) (view_tys z)) e
    ∙ ap (λ (z : Row). ask_each (patterns_of (map view_pattern z)) (view_tys (t ∷ us))) d
    ∙ ap (λ o. both MoreTys o (asked_from ps (suc i) us)) h
    ∙ both_some MoreTys u (asked_from ps (suc i) us) in
    let n : suc i ≡ i + 1 = omega arith in
    ap (types_front so_far) f
    ∙ sym (types_more so_far u (asked_from ps (suc i) us))
    ∙ ap (λ (k : ℕ). types_front (so_far ++ u ∷ []) (asked_from ps k us)) n

pub ask_stops : (ps : Row) (i : ℕ) (p : code_pattern.Pattern) (ts : List code_ty.Ty) (t : code_ty.Ty) (us : List code_ty.Ty) (so_far : List Ty)
    → i < length ps → p ≡ get_or ps i p → ts ≡ t ∷ us → asked (view_pattern p) (view_ty t) ≡ None
    → types_front so_far (asked_from ps i ts) ≡ None
ask_stops ps i p ts t us so_far l at e h =
    let d : drop i ps ≡ p ∷ drop (suc i) ps = drop-cons ps i p l ∙ ap (λ (z : code_pattern.Pattern). z ∷ drop (suc i) ps) (sym at) in
    let f : asked_from ps i ts ≡ None =
    ap (λ (z : List code_ty.Ty). ask_each (patterns_of (map view_pattern (drop i ps))) (view_tys z)) e
    ∙ ap (λ (z : Row). ask_each (patterns_of (map view_pattern z)) (view_tys (t ∷ us))) d
    ∙ ap (λ o. both MoreTys o (asked_from ps (suc i) us)) h in
    ap (types_front so_far) f ∙ types_none so_far

pub ask_short : (ps : Row) (i : ℕ) (p : code_pattern.Pattern) (ts : List code_ty.Ty) (so_far : List Ty)
    → i < length ps → p ≡ get_or ps i p → length ts ≡ 0 → types_front so_far (asked_from ps i ts) ≡ None
ask_short ps i p [] so_far l at e =
    let d : drop i ps ≡ p ∷ drop (suc i) ps = drop-cons ps i p l ∙ ap (λ (z : code_pattern.Pattern). z ∷ drop (suc i) ps) (sym at) in
    ap (types_front so_far) (ap (λ (z : Row). ask_each (patterns_of (map view_pattern z)) NoTys) d) ∙ types_none so_far
ask_short ps i p (t ∷ ts) so_far l at e = absurd (omega arith)

pub ask_done : (ps : Row) (i : ℕ) (ts : List code_ty.Ty) (so_far : List Ty) → length ps ≤ i → length ts ≡ 0
    → types_front so_far (asked_from ps i ts) ≡ Some (tys_of so_far)
ask_done ps i ts so_far l e =
    ap (λ (z : Row). types_front so_far (ask_each (patterns_of (map view_pattern z)) (view_tys ts))) (drop_all i ps l)
    ∙ ap (types_front so_far) (asked_over ts e) ∙ types_all so_far

pub ask_more : (ps : Row) (i : ℕ) (ts : List code_ty.Ty) (so_far : List Ty) → length ps ≤ i → (length ts ≡ 0 → ⊥)
    → types_front so_far (asked_from ps i ts) ≡ None
ask_more ps i ts so_far l e =
    ap (λ (z : Row). types_front so_far (ask_each (patterns_of (map view_pattern z)) (view_tys ts))) (drop_all i ps l)
    ∙ ap (types_front so_far) (asked_left ts e) ∙ types_none so_far
