-- Functions one behind the other.
use Rattle.std.proofs.Common.{◌≡◌, ◌<◌, ◌+◌, ℕ, zero, suc, List, [], ◌∷◌, ◌++◌, length, map, take, get_or, Some, None, slice_get}
use Rattle.std.proofs.Common.{refl, sym, ap, ◌∙◌, subst, arith}
use Rattle.std.proofs.lemmas.List.{map_more, map-append}
use Rattle.limbo_typed.specs.Typed.{Function}
use Rattle.limbo_scope.specs.Scopes.{Scope}
use Rattle.limbo_context.specs.Context.{Context, Callee}
use Rattle.limbo_stmt_values.specs.limbo_stating.Reasons.{Reason}
use Rattle.limbo_stmt_values.specs.limbo_stating.Functions.{Definition, IsFunction, FailsFunction, AreFunctions}
use Rattle.limbo_stmt_values.specs.limbo_stating.Functions.{FailsSomeFunction, this_function, later_function}
use Rattle.limbo_functions.specs.First.{FailsFirst}

-- ---- rows

pub grown : {A B : Type 0} (f : A → B) → (xs : List A) (i : ℕ) (x : A) → i < length xs → x ≡ get_or xs i x
    → map f (take (i + 1) xs) ≡ map f (take i xs) ++ f x ∷ []
grown f xs i x l is = map_more f xs i x l ∙ ap (λ z. map f (take i xs) ++ f z ∷ []) (sym is)

pub there : {A B : Type 0} (f : A → B) → (xs : List A) (i : ℕ) (x : A) → i < length xs → x ≡ get_or xs i x
    → slice_get (map f xs) i ≡ Some (f x)
there f [] i x l is = absurd (omega arith)
there f (y ∷ xs) zero x l is = ap (λ z. Some (f z)) (sym is)
there f (y ∷ xs) (suc i) x l is = there f xs i x (omega arith) is

pub taken : {A B : Type 0} (f : A → B) → (xs : List A) (i : ℕ) → map f (take i xs) ≡ take i (map f xs)
taken f [] zero = refl
taken f [] (suc i) = refl
taken f (x ∷ xs) zero = refl
taken f (x ∷ xs) (suc i) = ap (λ zs. f x ∷ zs) (taken f xs i)

pub pushed : {A B : Type 0} (f : A → B) → (old now : List A) (x : A) → now ≡ old ++ x ∷ [] → map f now ≡ map f old ++ f x ∷ []
pushed f old now x is = ap (map f) is ∙ map-append f old (x ∷ [])

same_first : {A : Type 0} → (x y : A) → Some x ≡ Some y → x ≡ y
same_first x y e = cc

module _ (m : List ℕ) (scopes : List Scope) where
  -- ---- functions

  pub one_more : (fs : List Callee) (ds : List Definition) (gs : List Function) (c b e : Context) (f : Callee) (d : Definition)
      (g : Function) → AreFunctions m scopes fs ds c gs b → IsFunction m scopes f d b g e
      → AreFunctions m scopes (fs ++ f ∷ []) (ds ++ d ∷ []) c (gs ++ g ∷ []) e
  one_more [] [] [] c b e f d g h i = (e, subst (λ (z : Context). IsFunction m scopes f d z g e) h i, refl)
  one_more [] [] (x ∷ gs) c b e f d g h i = absurd h
  one_more [] (y ∷ ds) gs c b e f d g h i = absurd h
  one_more (x ∷ fs) [] gs c b e f d g h i = absurd h
  one_more (x ∷ fs) (y ∷ ds) [] c b e f d g h i = absurd h
  one_more (x ∷ fs) (y ∷ ds) (z ∷ gs) c b e f d g h i = (h.0, h.1, one_more fs ds gs h.0 b e f d g h.2 i)

  -- ---- refusals

  fails_behind : (n : ℕ) (fs : List Callee) (ds : List Definition) (gs : List Function) (c b : Context) (f : Callee) (d : Definition)
      (k : Reason) → AreFunctions m scopes (take n fs) (take n ds) c gs b → slice_get fs n ≡ Some f → slice_get ds n ≡ Some d
      → FailsFunction m scopes f d b k → FailsSomeFunction m scopes fs ds c k
  fails_behind n [] ds gs c b f d k h p q x = absurd (let e : None ≡ Some f = p in cc)
  fails_behind n (g ∷ fs) [] gs c b f d k h p q x = absurd (let e : None ≡ Some d = q in cc)
  fails_behind zero (y ∷ fs) (z ∷ ds) [] c b f d k h p q x =
      let at : FailsFunction m scopes f d c k = subst (λ (w : Context). FailsFunction m scopes f d w k) h x in
      this_function y fs z ds c k
      (subst (λ (w : Callee). FailsFunction m scopes w z c k) (sym (same_first y f p))
      (subst (λ (w : Definition). FailsFunction m scopes f w c k) (sym (same_first z d q)) at))
  fails_behind zero (y ∷ fs) (z ∷ ds) (g ∷ gs) c b f d k h p q x = absurd h
  fails_behind (suc n) (y ∷ fs) (z ∷ ds) [] c b f d k h p q x = absurd h
  fails_behind (suc n) (y ∷ fs) (z ∷ ds) (g ∷ gs) c b f d k h p q x =
      later_function y fs z ds c h.0 g k h.1 (fails_behind n fs ds gs h.0 b f d k h.2 p q x)

  pub some_fails : (fs : List Callee) (ds : List Definition) (c : Context) (n : ℕ) (k : Reason) → FailsFirst m scopes fs ds c n k
      → FailsSomeFunction m scopes fs ds c k
  some_fails fs ds c n k h = fails_behind n fs ds h.before c h.behind h.callee h.definition k h.are h.declared h.there h.fails

  -- ---- in the rows of the code

  module _ {A B : Type 0} (F : A → Callee) (D : B → Definition) (xs : List A) (ys : List B) (n : ℕ) (x : A) (y : B)
      (l : n < length xs) (k : n < length ys) (is : x ≡ get_or xs n x) (js : y ≡ get_or ys n y)
      (gs : List Function) (c b : Context) (at : List Scope) (same : at ≡ scopes)
      (h : AreFunctions m scopes (map F (take n xs)) (map D (take n ys)) c gs b) where
    pub next : (g : Function) (now : List Function) (e : Context) → IsFunction m at (F x) (D y) b g e → now ≡ gs ++ g ∷ []
        → AreFunctions m scopes (map F (take (n + 1) xs)) (map D (take (n + 1) ys)) c now e
    next g now e i p =
        let j = subst (λ (s : List Scope). IsFunction m s (F x) (D y) b g e) same i in
        let a = one_more (map F (take n xs)) (map D (take n ys)) gs c b e (F x) (D y) g h j in
        subst (λ (fs : List Callee). AreFunctions m scopes fs (map D (take (n + 1) ys)) c now e) (sym (grown F xs n x l is))
        (subst (λ (ds : List Definition). AreFunctions m scopes (map F (take n xs) ++ F x ∷ []) ds c now e) (sym (grown D ys n y k js))
        (subst (λ (zs : List Function). AreFunctions m scopes (map F (take n xs) ++ F x ∷ []) (map D (take n ys) ++ D y ∷ []) c zs e)
        (sym p) a))

    pub first_fails : (r : Reason) → FailsFunction m at (F x) (D y) b r → FailsFirst m scopes (map F xs) (map D ys) c n r
    first_fails r f = record {
      callee = F x;
      declared = there F xs n x l is;
      definition = D y;
      there = there D ys n y k js;
      before = gs;
      behind = b;
      are =
          subst (λ (fs : List Callee). AreFunctions m scopes fs (take n (map D ys)) c gs b) (taken F xs n)
          (subst (λ (ds : List Definition). AreFunctions m scopes (map F (take n xs)) ds c gs b) (taken D ys n) h);
      fails = subst (λ (s : List Scope). FailsFunction m s (F x) (D y) b r) same f;
    }
