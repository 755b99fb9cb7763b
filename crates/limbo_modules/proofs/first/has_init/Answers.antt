use Rattle.std.proofs.Common.{◌≡◌, ◌<◌, ◌≤◌, ◌+◌, ◌⊎◌, inl, inr, ℕ, zero, suc, List, [], ◌∷◌, length, map, take, get_or}
use Rattle.std.proofs.Common.{refl, sym, ap, subst, ◌∙◌, arith}
use Rattle.std.specs.List.{Contains}
use Rattle.limbo_typed.specs.Typed.{Declared}
use Rattle.limbo_typed.specs.View.{view_declared}
use Rattle.std.proofs.lemmas.Bool.{false≢true}
use Rattle.limbo_includes.proofs.Lists.{contains_taken}
use Rattle.limbo_declared_types.proofs.Lists.{seen_among}
use Rattle.limbo_modules.proofs.first.has_init.Goals as goal
use Rattle.limbo_modules.proofs.first.has_init.Goals.{else-is_spelled-via-then-is_spelled+else-is_first_init}
use Rattle.limbo_modules.proofs.first.has_init.Goals.{else-is_spelled-via-else-is_spelled}

map_contains : {A B : Type 0} (f : A → B) (xs : List A) (y : B) → Contains (map f xs) y → (x : A) × Contains xs x × (f x ≡ y)
map_contains f [] y c = absurd (let l = c.1 in omega arith)
map_contains f (x ∷ xs) y (zero, l, e) = (x, (zero, omega arith, refl), e)
map_contains f (x ∷ xs) y (suc k, l, e) =
    let r = map_contains f xs y (k, omega arith, e) in
    let c = r.1 in
    (r.0, (suc c.0, let m = c.1 in omega arith, c.2), r.2)

contains_map : {A B : Type 0} (f : A → B) (xs : List A) (x : A) → Contains xs x → Contains (map f xs) (f x)
contains_map f [] x c = absurd (let l = c.1 in omega arith)
contains_map f (y ∷ xs) x (zero, l, e) = (zero, omega arith, ap f e)
contains_map f (y ∷ xs) x (suc k, l, e) = let c = contains_map f xs x (k, omega arith, e) in (suc c.0, let m = c.1 in omega arith, c.2)

next_taken :
    {A B : Type 0} (f : A → B) (xs : List A) (i : ℕ) (x : A) (y : B) → i < length xs → x ≡ get_or xs i x
    → Contains (map f (take (i + 1) xs)) y → Contains (map f (take i xs)) y ⊎ (f x ≡ y)
next_taken {A} {B} f xs i x y l e c =
    let z = map_contains f (take (i + 1) xs) y c in
    elim (contains_taken xs i x z.0 l e z.1) [
      | inl d ↦ inl (subst (λ (w : B). Contains (map f (take i xs)) w) z.2 (contains_map f (take i xs) z.0 d))
      | inr s ↦ inr (ap f s ∙ z.2)
    ]

all_taken : {A : Type 0} (xs : List A) (k : ℕ) → length xs ≤ k → take k xs ≡ xs
all_taken [] zero l = refl
all_taken [] (suc k) l = refl
all_taken (x ∷ xs) zero l = absurd (omega arith)
all_taken (x ∷ xs) (suc k) l = ap (λ ys. x ∷ ys) (all_taken xs k (omega arith))

pub returns-then-is_first_init-clause-yes : goal.returns-then-is_first_init-clause-yes
returns-then-is_first_init-clause-yes c = λ h.
    let x = c.function-item.result in
    let l = c.loop-function-test.true in
    let named = sym c.as_slice.ensures ∙ c.is_spelled.ensures.0 c.if-is_spelled.true in
    let of = c.is_first_init.ensures.0 c.if-is_first_init.true in
    (view_declared x, seen_among view_declared c.args.declared.now c.loop-function.function-index x l c.function-item.is, named, of)

pub loop-function-preserved : goal.loop-function-preserved
loop-function-preserved c = λ d s n o.
    let x = c.function-item.result in
    let l = c.loop-function-test.true in
    elim (next_taken view_declared c.args.declared.now c.loop-function.function-index x d l c.function-item.is s) [
      | inl before ↦ c.loop-function.invariant d before n o
      | inr same ↦ elim c.else-is_spelled.branch [
        | else-is_spelled-via-then-is_spelled+else-is_first_init w ↦
            false≢true (sym w.if-is_first_init.false ∙ w.is_first_init.ensures.1 (ap (λ (z : Declared). z.of) same ∙ o))
        | else-is_spelled-via-else-is_spelled w ↦
            false≢true (sym w.if-is_spelled.false ∙ c.is_spelled.ensures.1 (c.as_slice.ensures ∙ ap (λ (z : Declared). z.name) same ∙ n))
      ]
    ]

pub returns-clause-no : goal.returns-clause-no
returns-clause-no c = λ h d s n o.
    let ds = c.args.declared.now in
    let i = c.loop-function.function-index in
    let e : take i ds ≡ ds = all_taken ds i c.loop-function-test.false in
    c.loop-function.invariant d (subst (λ zs. Contains (map view_declared zs) d) (sym e) s) n o
