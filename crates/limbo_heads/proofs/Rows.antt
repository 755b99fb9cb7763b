-- Rows that are gone through one by one: what the rest comes to, all come to.
use Rattle.std.proofs.Common.{◌≡◌, ◌<◌, ◌≤◌, ◌+◌, ℕ, List, [], ◌∷◌, ◌++◌, length, get_or, map, drop, sym, ap, subst}
use Rattle.std.proofs.lemmas.List.{drop_more, append_assoc, append-nil, drop_all}

-- A relation of rows of trees, as the code has them and as they are seen, and what they come to, from a state to a state; and why they come
-- to nothing.
pub record Rules (V Y S K : Type 0) : Type 1 where
  pub Comes : S → List V → List Y → S → Type 0
  pub Fails : S → List V → K → Type 0
  pub One : S → V → Y → S → Type 0
  pub none : (s : S) → Comes s [] [] s
  pub more : (s t u : S) (v : V) (vs : List V) (y : Y) (ys : List Y) → One s v y t → Comes t vs ys u → Comes s (v ∷ vs) (y ∷ ys) u
  pub later : (s t : S) (v : V) (vs : List V) (y : Y) (k : K) → One s v y t → Fails t vs k → Fails s (v ∷ vs) k

module _ {X V Y S K : Type 0} (r : Rules V Y S K) (view : X → V) where
  abbrev from : ℕ → List X → List V
  from i xs = map view (drop i xs)

  from_more : (xs : List X) (i : ℕ) (d : X) → i < length xs → from i xs ≡ view (get_or xs i d) ∷ from (i + 1) xs
  from_more xs i d l = ap (map view) (drop_more xs i d l)

  pub record Gone (start now : S) (xs : List X) (i : ℕ) (done : List Y) : Type 0 where
    pub comes : (ys : List Y) (s : S) → r.Comes now (from i xs) ys s → r.Comes start (from 0 xs) (done ++ ys) s
    pub fails : (k : K) → r.Fails now (from i xs) k → r.Fails start (from 0 xs) k

  pub gone_start : (s : S) (xs : List X) → Gone s s xs 0 []
  gone_start s xs = record { comes = λ ys t h. h; fails = λ k h. h }

  pub gone_more : (start now next : S) (xs : List X) (i : ℕ) (done : List Y) (d : X) (y : Y) → i < length xs
      → r.One now (view (get_or xs i d)) y next → Gone start now xs i done → Gone start next xs (i + 1) (done ++ (y ∷ []))
  gone_more start now next xs i done d y l one h = record {
    comes = λ ys s w.
        subst (λ (zs : List Y). r.Comes start (from 0 xs) zs s) (sym (append_assoc done (y ∷ []) ys))
        (h.comes (y ∷ ys) s
        (subst (λ (vs : List V). r.Comes now vs (y ∷ ys) s) (sym (from_more xs i d l))
        (r.more now next s (view (get_or xs i d)) (from (i + 1) xs) y ys one w)));
    fails = λ k w.
        h.fails k
        (subst (λ (vs : List V). r.Fails now vs k) (sym (from_more xs i d l))
        (r.later now next (view (get_or xs i d)) (from (i + 1) xs) y k one w));
  }

  pub gone_on : (start now next : S) (xs : List X) (i : ℕ) (done all : List Y) (x : X) (y : Y) → all ≡ done ++ y ∷ [] → x ≡ get_or xs i x
      → i < length xs → r.One now (view x) y next → Gone start now xs i done → Gone start next xs (i + 1) all
  gone_on start now next xs i done all x y p is l one h =
      subst (λ (zs : List Y). Gone start next xs (i + 1) zs) (sym p)
      (gone_more start now next xs i done x y l (subst (λ (z : X). r.One now (view z) y next) is one) h)

  pub gone_end : (start now : S) (xs : List X) (i : ℕ) (done : List Y) → length xs ≤ i → Gone start now xs i done
      → r.Comes start (map view xs) done now
  gone_end start now xs i done l h =
      subst (λ (zs : List Y). r.Comes start (from 0 xs) zs now) (append-nil done)
      (h.comes [] now (subst (λ (zs : List X). r.Comes now (map view zs) [] now) (sym (drop_all i xs l)) (r.none now)))

  -- the one at the place fails, whatever stands behind it
  pub gone_fails : (start now : S) (xs : List X) (i : ℕ) (done : List Y) (x : X) (k : K) → x ≡ get_or xs i x → i < length xs
      → ((vs : List V) → r.Fails now (view x ∷ vs) k) → Gone start now xs i done → r.Fails start (map view xs) k
  gone_fails start now xs i done x k is l f h =
      h.fails k
      (subst (λ (vs : List V). r.Fails now vs k) (sym (from_more xs i x l))
      (subst (λ (z : X). r.Fails now (view z ∷ from (i + 1) xs) k) is (f (from (i + 1) xs))))
