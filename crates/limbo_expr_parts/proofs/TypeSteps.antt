-- What the code of types needs of its readers: budgets that are used up and that are not, and lists.
use Rattle.std.proofs.Common.{◌≡◌, ℕ, zero, suc, ◌-◌, ◌≤◌, ◌<◌, true, false, List, [], ◌∷◌, ◌++◌, map, length, max, Ok, Err, refl, arith}
use Rattle.limbo_lexer.specs.declared.token.Kind.{Kind}
use Rattle.limbo_tree.specs.declared.types.TypeTree as code_type
use Rattle.limbo_tree.specs.Types.{Ty, ty_nesting, tys_nesting, are_several, Tuple}
use Rattle.limbo_tree.specs.View.{view_type, view_types, tys_of}
use Rattle.limbo_reading.specs.declared.fault.Fault.TheVariants.{Syntax, TooDeep}
use Rattle.limbo_lexer.specs.declared.token.Mark.TheVariants as mark
use Rattle.limbo_reading.specs.Reading.{expect_mark}
use Rattle.limbo_reading.proofs.Steps.{kept_shorter}
use Rattle.limbo_expr_parts.specs.Types.{ty_above, ty_at, types_at, tuple_at}
use Rattle.limbo_expr_parts.proofs.TypeLaws.{ty_keeps}

pub ty_used : (n : ℕ) (ts : List Kind) → n ≡ 0 → ty_at n ts ≡ Err (TooDeep (length ts))
unfolding ty_at
ty_used zero ts h = refl
ty_used (suc n) ts h = absurd (omega arith)

pub ty_left : (n : ℕ) (ts : List Kind) → (n ≡ 0 → ⊥) → ty_at n ts ≡ ty_above (ty_at (n - 1)) ts
unfolding ty_at
ty_left zero ts h = absurd (h refl)
ty_left (suc n) ts h = let e : suc n - 1 ≡ n = omega arith in rw e refl

pub ruleset the_type_budget = (ty_used, ty_left)

pub ty_shorter : (n : ℕ) (ts : List Kind) (t : Ty) (us : List Kind) → ty_at n ts ≡ Ok (t, us) → length us < length ts
ty_shorter n ts t us e = omega (arith, kept_shorter n 1 (length ts) (ty_at n ts) t us (ty_keeps n ts) e)

-- the types of the code's list nest so deep
abbrev pub types_size : List code_type.TypeTree → ℕ
types_size xs = tys_nesting (view_types xs)

pub types_one : (x : code_type.TypeTree) → types_size (x ∷ []) ≡ ty_nesting (view_type x)
unfolding view_types
types_one x = omega arith

pub types_more : (xs : List code_type.TypeTree) (x : code_type.TypeTree) → types_size (xs ++ (x ∷ [])) ≡ max (types_size xs) (ty_nesting (view_type x))
unfolding view_types
types_more [] x = omega arith
types_more (y ∷ ys) x = omega (arith, types_more ys x)

pub few_types : (xs : List code_type.TypeTree) → length xs < 2 → are_several (tys_of (map view_type xs)) ≡ false
few_types [] h = refl
few_types (x ∷ []) h = refl
few_types (x ∷ y ∷ ys) h = absurd (omega arith)

pub several_types : (xs : List code_type.TypeTree) → 2 ≤ length xs → are_several (tys_of (map view_type xs)) ≡ true
several_types [] h = absurd (omega arith)
several_types (x ∷ []) h = absurd (omega arith)
several_types (x ∷ y ∷ ys) h = refl

pub tuple_few : (n : ℕ) (ts : List Kind) (xs : List code_type.TypeTree) (us : List Kind) → types_at (ty_at n) ts ≡ Ok (map view_type xs, us) → length xs < 2 → tuple_at (ty_at n) ts ≡ Err (Syntax (length us))
unfolding tuple_at
tuple_few n ts xs us e h = rw (e, few_types xs h) refl

pub tuple_whole : (n : ℕ) (ts : List Kind) (xs : List code_type.TypeTree) (us vs : List Kind) → types_at (ty_at n) ts ≡ Ok (map view_type xs, us) → 2 ≤ length xs → expect_mark mark.CloseParen us ≡ Ok vs → tuple_at (ty_at n) ts ≡ Ok (Tuple (view_types xs), vs)
unfolding tuple_at view_types
tuple_whole n ts xs us vs e h m = rw (e, several_types xs h, m) refl
