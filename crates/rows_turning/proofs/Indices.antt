-- Indices that are named, in rising order: what the first is that isn't among them, found in one pass.
use Rattle.std.proofs.Common.{◌≡◌, ℕ, ℤ, Bool, true, false, zero, suc, pos, ◌+◌, ◌⊎◌, List, [], ◌∷◌, Option, Some, refl, sym, ap, ◌∙◌, arith, inl, inr}
use Rattle.std.specs.Prelude.{int_lt, if◌then◌else◌, ◌<ℤ◌}
use Rattle.std.specs.Ordering.{int_eq}
use Rattle.std.specs.List.{range_with_len}
use Rattle.std.proofs.lemmas.Int.{ints}
use Rattle.std.proofs.lemmas.Bool.Decides.{Decides-int_eq}
use Rattle.core_code.specs.Machine.{is_named, first_left}
use Rattle.value_code.specs.Data.{with_index, sorted}

-- ---- rising numbers

abbrev pub Above : ℤ → List ℤ → Type 0
Above z [] = Unit {0}
Above z (y ∷ ys) = (z <ℤ y) × Above z ys

abbrev pub Rise : List ℤ → Type 0
Rise [] = Unit {0}
Rise (z ∷ zs) = Above z zs × Rise zs

is_less : (a b : ℤ) → int_lt a b ≡ true → a <ℤ b
is_less a b e = grind (arith, ints)

isnt_less : (a b : ℤ) → int_lt a b ≡ false → int_lt b a ≡ false → a ≡ b
isnt_less a b e f = grind (arith, ints)

less_both : (a b c : ℤ) → a <ℤ b → b <ℤ c → a <ℤ c
less_both a b c l m = omega (arith, ints, l, m)

-- equal or not
isnt_same : (a b : ℤ) → (a ≡ b → ⊥) → int_eq a b ≡ false
isnt_same a b n = go (int_eq a b) refl
  where
    go : (c : Bool) → int_eq a b ≡ c → c ≡ false
    go true e = absurd (n ((Decides-int_eq a b).0 e))
    go false e = refl

is_same : (a : ℤ) → int_eq a a ≡ true
is_same a = (Decides-int_eq a a).1 refl

above_more : (x y : ℤ) (ys : List ℤ) → x <ℤ y → Above y ys → Above x ys
above_more x y [] l a = tt
above_more x y (w ∷ ys) l a = (less_both x y w l a.0, above_more x y ys l a.1)

above_with : (x z : ℤ) (ys : List ℤ) → x <ℤ z → Above x ys → Above x (with_index z ys)
above_with x z [] l a = (l, tt)
above_with x z (y ∷ ys) l a = go (above_with x z ys l a.1) (int_lt z y) (int_lt y z)
  where
    go : Above x (with_index z ys) → (c d : Bool) → Above x (if c then z ∷ y ∷ ys else if d then y ∷ with_index z ys else y ∷ ys)
    go more true d = (l, (a.0, a.1))
    go more false true = (a.0, more)
    go more false false = (a.0, a.1)

rise_with : (z : ℤ) (ys : List ℤ) → Rise ys → Rise (with_index z ys)
rise_with z [] r = (tt, tt)
rise_with z (y ∷ ys) r = go (rise_with z ys r.1) (int_lt z y) refl (int_lt y z) refl
  where
    go : Rise (with_index z ys) → (c : Bool) → int_lt z y ≡ c → (d : Bool) → int_lt y z ≡ d → Rise (if c then z ∷ y ∷ ys else if d then y ∷ with_index z ys else y ∷ ys)
    go more true e d f = ((is_less z y e, above_more z y ys (is_less z y e) r.0), (r.0, r.1))
    go more false e true f = (above_with y z ys (is_less y z f) r.0, more)
    go more false e false f = (r.0, r.1)

pub sorted_rise : (zs : List ℤ) → Rise (sorted zs)
sorted_rise [] = tt
sorted_rise (z ∷ zs) = rise_with z (sorted zs) (sorted_rise zs)

-- ---- the same are named

abbrev either : Bool → Bool → Bool
either b c = if b then true else c

swapped : (a b c : Bool) → either a (either b c) ≡ either b (either a c)
swapped true true c = refl
swapped true false c = refl
swapped false true c = refl
swapped false false c = refl

doubled : (a b c : Bool) → a ≡ b → either a c ≡ either b (either a c)
doubled true true c e = refl
doubled false false c e = refl
doubled true false c e = absurd cc
doubled false true c e = absurd cc

named_with : (z : ℤ) (ys : List ℤ) (n : ℕ) → is_named (with_index z ys) n ≡ is_named (z ∷ ys) n
named_with z [] n = refl
named_with z (y ∷ ys) n = go (named_with z ys n) (int_lt z y) refl (int_lt y z) refl
  where
    go : is_named (with_index z ys) n ≡ is_named (z ∷ ys) n → (c : Bool) → int_lt z y ≡ c → (d : Bool) → int_lt y z ≡ d
        → is_named (if c then z ∷ y ∷ ys else if d then y ∷ with_index z ys else y ∷ ys) n ≡ is_named (z ∷ y ∷ ys) n
    go more true e d f = refl
    go more false e true f = ap (either (int_eq (pos n) y)) more ∙ swapped (int_eq (pos n) y) (int_eq (pos n) z) (is_named ys n)
    go more false e false f =
        let s = isnt_less z y e f in
        doubled (int_eq (pos n) y) (int_eq (pos n) z) (is_named ys n) (ap (int_eq (pos n)) (sym s))

pub same_named : (zs : List ℤ) (n : ℕ) → is_named (sorted zs) n ≡ is_named zs n
same_named [] n = refl
same_named (z ∷ zs) n = named_with z (sorted zs) n ∙ ap (either (int_eq (pos n) z)) (same_named zs n)

pub same_left : (zs : List ℤ) (ns : List ℕ) → first_left (sorted zs) ns ≡ first_left zs ns
same_left zs [] = refl
same_left zs (n ∷ ns) =
    ap (λ (c : Bool). if c then first_left (sorted zs) ns else Some n) (same_named zs n)
    ∙ ap (λ (o : Option ℕ). if is_named zs n then o else Some n) (same_left zs ns)

-- ---- one of them after the other

-- what is named lies above
none_above : (z : ℤ) (zs : List ℤ) (n : ℕ) → (pos n <ℤ z) ⊎ (pos n ≡ z) → Above z zs → is_named zs n ≡ false
none_above z [] n l a = refl
none_above z (y ∷ ys) n l a =
    ap (λ (c : Bool). if c then true else is_named ys n) (isnt_same (pos n) y (λ e. below n y l a.0 e)) ∙ none_above z ys n l a.1
  where
    below : (n : ℕ) (y : ℤ) → (pos n <ℤ z) ⊎ (pos n ≡ z) → z <ℤ y → pos n ≡ y → ⊥
    below n y (inl m) g e = omega (arith, ints, m, g, e)
    below n y (inr m) g e = omega (arith, ints, m, g, e)

-- one that lies below makes no difference
pub below_left : (z : ℤ) (zs : List ℤ) (e d : ℕ) → z <ℤ pos e → first_left (z ∷ zs) (range_with_len e d) ≡ first_left zs (range_with_len e d)
below_left z zs e zero l = refl
below_left z zs e (suc d) l =
    ap (λ (c : Bool). if either c (is_named zs e) then first_left (z ∷ zs) (range_with_len (e + 1) d) else Some e)
    (isnt_same (pos e) z (λ f. omega (arith, ints, l, f)))
    ∙ ap (λ (o : Option ℕ). if is_named zs e then o else Some e) (below_left z zs (e + 1) d (omega (arith, ints, l)))

-- one that is another
pub other_left : (z : ℤ) (zs : List ℤ) (e d : ℕ) → Above z zs → (z ≡ pos e → ⊥) → first_left (z ∷ zs) (range_with_len e d) ≡ first_left zs (range_with_len e d)
other_left z zs e d a n = go (int_lt z (pos e)) refl
  where
    here : (zs : List ℤ) (d : ℕ) → is_named zs e ≡ false → first_left zs (range_with_len e (suc d)) ≡ Some e
    here zs d f = ap (λ (c : Bool). if c then first_left zs (range_with_len (e + 1) d) else Some e) f

    by_long : (d : ℕ) → int_lt z (pos e) ≡ false → first_left (z ∷ zs) (range_with_len e d) ≡ first_left zs (range_with_len e d)
    by_long zero f = refl
    by_long (suc d) f =
        let none = none_above z zs e (inl (larger z e f n)) a in
        here (z ∷ zs) d (ap (λ (c : Bool). either c (is_named zs e)) (isnt_same (pos e) z (λ g. n (sym g))) ∙ none) ∙ sym (here zs d none)
      where
        larger : (z : ℤ) (e : ℕ) → int_lt z (pos e) ≡ false → (z ≡ pos e → ⊥) → pos e <ℤ z
        larger z e f n = grind (arith, ints)

    go : (c : Bool) → int_lt z (pos e) ≡ c → first_left (z ∷ zs) (range_with_len e d) ≡ first_left zs (range_with_len e d)
    go true f = below_left z zs e d (is_less z (pos e) f)
    go false f = by_long d f

-- one that is this one
pub this_left : (zs : List ℤ) (e d : ℕ) → Above (pos e) zs
    → first_left (pos e ∷ zs) (range_with_len e (suc d)) ≡ first_left zs (range_with_len (suc e) d)
this_left zs e d a =
    ap (λ (c : Bool). if either c (is_named zs e) then first_left (pos e ∷ zs) (range_with_len (e + 1) d) else Some e) (is_same (pos e))
    ∙ below_left (pos e) zs (e + 1) d (omega (arith, ints))
    ∙ ap (λ (n : ℕ). first_left zs (range_with_len n d)) (plus_one e)
  where
    plus_one : (a : ℕ) → a + 1 ≡ suc a
    plus_one a = omega arith
