-- How far processes are in their rows.
use Rattle.std.proofs.Common.{◌≡◌, ℕ, zero, suc, ◌+◌, ◌-◌, ◌<◌, ◌≤◌, ◌&&◌, Bool, true, false, List, [], ◌∷◌, ◌++◌, length, Option, Some, None, refl, sym, ap, ◌∙◌, subst, arith, if◌then◌else◌, lt-ltb, le-ltb}
use Rattle.std.specs.Prelude.{slice_get, nat_lt, nat_le, nat_eq}
use Rattle.std.proofs.lemmas.Bool.{ltb-true, leb-true, leb-false}
use Rattle.limbo_typed.specs.Typed as typed
use Rattle.core_code.specs.Code.{Instr}
use Rattle.dis_meaning.specs.Process.{Process}
use Rattle.value_code.specs.Objects.{of_function, size_at, sizes, size_before, function_size, entry_size, init_of}
use Rattle.value_follows.specs.Stands.{place_of}
use Rattle.value_follows.specs.Rows.{Row, is_tidied, rank, within, larger, longest, row_of, rows_from, rows_of, rows, place, bound, PlacesAre}
use Rattle.value_follows.proofs.Standing.{same_some}

-- ---- rows, one behind the other

abbrev total : List Row → ℕ
total [] = 0
total (r ∷ rs) = r.size + total rs

-- the first row is where a place lies, and another is
here_it_is : (r : Row) (rs : List Row) (j : ℕ) → j < r.size → within (r ∷ rs) j ≡ rank r j
here_it_is r rs j l = ap (λ (b : Bool). if b then rank r j else within rs (j - r.size)) (lt-ltb j r.size l)

further_on : (r : Row) (rs : List Row) (n x : ℕ) → n ≡ r.size + x → within (r ∷ rs) n ≡ within rs x
further_on r rs n x e =
    ap (λ (b : Bool). if b then rank r n else within rs (n - r.size)) (le-ltb n r.size (omega (arith, e)))
    ∙ ap (within rs) (omega (arith, e))

past_all : (rs ss : List Row) (n x : ℕ) → n ≡ total rs + x → within (rs ++ ss) n ≡ within ss x
past_all [] ss n x e = ap (within ss) (omega (arith, e))
past_all (r ∷ rs) ss n x e = further_on r (rs ++ ss) n (total rs + x) (omega (arith, e)) ∙ past_all rs ss (total rs + x) x refl

module _ (m : typed.Module) where
  module _ (f : typed.Function) where
    abbrev size_to : ℕ → ℕ
    size_to pc = sizes m f.of.answer (of_function m f) pc

    abbrev code : List Instr
    code = (of_function m f).code

    size_here : (pc : ℕ) (i : Instr) → slice_get code pc ≡ Some i → size_to (suc pc) ≡ size_to pc + (row_of m f pc i).size
    size_here pc i e = ap (λ (o : Option Instr). size_to pc + size_at m f.of.answer (of_function m f) pc o) e

    size_grows : (pc d : ℕ) → size_to pc ≤ size_to (pc + d)
    size_grows pc zero = subst (λ n. size_to pc ≤ size_to n) (let e : pc ≡ pc + 0 = omega arith in e) (omega arith)
    size_grows pc (suc d) =
        let h = size_grows pc d in
        let g : size_to (pc + d) ≤ size_to (suc (pc + d)) = omega arith in
        subst (λ n. size_to pc ≤ size_to n) (let e : suc (pc + d) ≡ pc + suc d = omega arith in e) (omega (arith, h, g))

    -- instructions of the code from a place on
    abbrev Is : ℕ → List Instr → Type 0
    Is pc is = (d : ℕ) → slice_get is d ≡ slice_get code (pc + d)

    rest_is : (pc : ℕ) (i : Instr) (is : List Instr) → Is pc (i ∷ is) → Is (suc pc) is
    rest_is pc i is h d = h (suc d) ∙ ap (slice_get code) (let e : pc + suc d ≡ suc pc + d = omega arith in e)

    first_is : (pc : ℕ) (i : Instr) (is : List Instr) → Is pc (i ∷ is) → slice_get code pc ≡ Some i
    first_is pc i is h = ap (slice_get code) (let e : pc ≡ pc + 0 = omega arith in e) ∙ sym (h 0)

    row_there : (pc : ℕ) (is : List Instr) (ss : List Row) (d : ℕ) (i : Instr) (j x : ℕ) → Is pc is → slice_get is d ≡ Some i
        → j < (row_of m f (pc + d) i).size → size_to pc + x ≡ size_to (pc + d) + j
        → within (rows_from m f pc is ++ ss) x ≡ rank (row_of m f (pc + d) i) j
    row_there pc [] ss d i j x h e l g = absurd cc
    row_there pc (i0 ∷ is) ss zero i j x h e l g =
        let same : i0 ≡ i = same_some i0 i e in
        let at : pc + 0 ≡ pc = omega arith in
        let big : j < (row_of m f pc i).size = subst (λ n. j < (row_of m f n i).size) at l in
        let start : size_to (pc + 0) ≡ size_to pc = ap size_to at in
        ap (λ n. within (row_of m f pc i0 ∷ (rows_from m f (suc pc) is ++ ss)) n) (let q : x ≡ j = omega (arith, g, start) in q)
        ∙ ap (λ k. within (row_of m f pc k ∷ (rows_from m f (suc pc) is ++ ss)) j) same
        ∙ here_it_is (row_of m f pc i) (rows_from m f (suc pc) is ++ ss) j big
        ∙ ap (λ n. rank (row_of m f n i) j) (sym at)
    row_there pc (i0 ∷ is) ss (suc d) i j x h e l g =
        let at : pc + suc d ≡ suc pc + d = omega arith in
        let size = size_here pc i0 (first_is pc i0 is h) in
        let more = size_grows (suc pc) d in
        let there : size_to (pc + suc d) ≡ size_to (suc pc + d) = ap size_to at in
        further_on (row_of m f pc i0) (rows_from m f (suc pc) is ++ ss) x (x - (row_of m f pc i0).size) (omega (arith, g, size, more, there))
        ∙ row_there (suc pc) is ss d i j (x - (row_of m f pc i0).size) (rest_is pc i0 is h) e
        (subst (λ n. j < (row_of m f n i).size) at l) (omega (arith, g, size, more, there))
        ∙ ap (λ n. rank (row_of m f n i) j) (sym at)

    all_rows : (pc : ℕ) (is : List Instr) → Is pc is → size_to pc + total (rows_from m f pc is) ≡ size_to (pc + length is)
    all_rows pc [] h = let e = ap size_to (let e : pc ≡ pc + 0 = omega arith in e) in omega (arith, e)
    all_rows pc (i ∷ is) h =
        let size = size_here pc i (first_is pc i is h) in
        let rest = all_rows (suc pc) is (rest_is pc i is h) in
        let there : size_to (suc pc + length is) ≡ size_to (pc + suc (length is)) = ap size_to (omega arith) in
        omega (arith, size, rest, there)

    whole : Is 0 code
    whole d = ap (slice_get code) (let e : d ≡ 0 + d = omega arith in e)

  in_functions : (fs : List typed.Function) (n : ℕ) (f : typed.Function) (pc : ℕ) (i : Instr) (j : ℕ) → slice_get fs n ≡ Some f
      → slice_get (of_function m f).code pc ≡ Some i → j < (row_of m f pc i).size
      → within (rows_of m fs) (size_before m fs n + (size_to f pc + j)) ≡ rank (row_of m f pc i) j
  in_functions [] n f pc i j e h l = absurd cc
  in_functions (g ∷ fs) zero f pc i j e h l =
      let same : g ≡ f = same_some g f e in
      let at : 0 + pc ≡ pc = omega arith in
      ap (λ (u : typed.Function). within (rows_from m u 0 (of_function m u).code ++ rows_of m fs) (0 + (size_to f pc + j))) same
      ∙ row_there f 0 (of_function m f).code (rows_of m fs) pc i j (0 + (size_to f pc + j)) (whole f) h
      (subst (λ n. j < (row_of m f n i).size) (sym at) l) (let s : size_to f (0 + pc) ≡ size_to f pc = ap (size_to f) at in omega (arith, s))
      ∙ ap (λ n. rank (row_of m f n i) j) at
  in_functions (g ∷ fs) (suc n) f pc i j e h l =
      let a = all_rows g 0 (of_function m g).code (whole g) in
      let b : size_to g (0 + length (of_function m g).code) ≡ function_size m g = ap (size_to g) (omega arith) in
      past_all (rows_from m g 0 (of_function m g).code) (rows_of m fs) (function_size m g + size_before m fs n + (size_to f pc + j))
      (size_before m fs n + (size_to f pc + j)) (omega (arith, a, b))
      ∙ in_functions fs n f pc i j e h l

  -- ---- places

  pub place_there : (number : ℕ) (f : typed.Function) (pc : ℕ) (i : Instr) (j : ℕ) (q : Process) → slice_get m.functions number ≡ Some f
      → slice_get (of_function m f).code pc ≡ Some i → j < (row_of m f pc i).size → q.frame.pc ≡ place_of m number f pc + j
      → place m q ≡ rank (row_of m f pc i) j
  place_there number f pc i j q e h l g =
      let entry = entry_size m (init_of m) in
      ap (λ (b : Bool). if b then q.frame.pc else within (rows m) (q.frame.pc - entry)) (le-ltb q.frame.pc entry (omega (arith, g)))
      ∙ ap (within (rows m)) (let s : q.frame.pc - entry ≡ size_before m m.functions number + (size_to f pc + j) = omega (arith, g) in s)
      ∙ in_functions m.functions number f pc i j e h l

  -- ---- a bound

  rank_bound : (r : Row) (j : ℕ) → j < r.size → rank r j < 3 + r.size
  rank_bound r zero l = omega arith
  rank_bound r (suc j) l = go (is_tidied r.instr && nat_eq (suc (suc j)) r.size)
    where
      go : (b : Bool) → (if b then 1 else 2 + suc j) < 3 + r.size
      go true = omega arith
      go false = omega (arith, l)

  larger_left : (a b : ℕ) → a ≤ larger a b
  larger_left a b = go (nat_le a b) refl
    where
      go : (c : Bool) → nat_le a b ≡ c → a ≤ (if c then b else a)
      go true e = leb-true a b e
      go false e = omega arith

  larger_right : (a b : ℕ) → b ≤ larger a b
  larger_right a b = go (nat_le a b) refl
    where
      go : (c : Bool) → nat_le a b ≡ c → b ≤ (if c then b else a)
      go true e = omega arith
      go false e = let l = leb-false a b e in omega (arith, l)

  within_bound : (rs : List Row) (n : ℕ) → within rs n < 3 + longest rs
  within_bound [] n = omega arith
  within_bound (r ∷ rs) n = go (nat_lt n r.size) refl (within_bound rs (n - r.size))
    where
      a : r.size ≤ larger r.size (longest rs)
      a = larger_left r.size (longest rs)

      c : longest rs ≤ larger r.size (longest rs)
      c = larger_right r.size (longest rs)

      go : (b : Bool) → nat_lt n r.size ≡ b → within rs (n - r.size) < 3 + longest rs
          → (if b then rank r n else within rs (n - r.size)) < 3 + larger r.size (longest rs)
      go true e rest = let h = rank_bound r n (ltb-true n r.size e) in omega (arith, h, a)
      go false e rest = omega (arith, rest, c)

  entry_few : (o : Option ℕ) → entry_size m o ≤ 2
  entry_few None = omega arith
  entry_few (Some n) = omega arith

  place_bound : (q : Process) → place m q < bound m
  place_bound q = go (nat_lt q.frame.pc (entry_size m (init_of m))) refl
    where
      go : (b : Bool) → nat_lt q.frame.pc (entry_size m (init_of m)) ≡ b
          → (if b then q.frame.pc else within (rows m) (q.frame.pc - entry_size m (init_of m))) < 3 + longest (rows m)
      go true e =
          let l = ltb-true q.frame.pc (entry_size m (init_of m)) e in
          let few = entry_few (init_of m) in
          omega (arith, l, few)
      go false e = within_bound (rows m) (q.frame.pc - entry_size m (init_of m))

pub places_are : PlacesAre
places_are m = record {
  ranked = λ number f pc instr j q e h l g. place_there m number f pc instr j q e h l g;
  bounded = place_bound m;
}
