-- How far a process is in a row: so far behind the row's begin, whichever instruction of which function it is of.
use Rattle.std.proofs.Common.{◌≡◌, ℕ, zero, suc, ◌+◌, ◌-◌, ◌<◌, Bool, List, [], ◌∷◌, ◌++◌, length, Some, refl, sym, ap, ◌∙◌, subst, arith, if◌then◌else◌}
use Rattle.std.specs.Prelude.{slice_get}
use Rattle.std.proofs.lemmas.Bool.{lt-ltb, le-ltb}
use Rattle.limbo_typed.specs.Typed as typed
use Rattle.core_code.specs.Code.{Instr}
use Rattle.dis_meaning.specs.Process.{Process}
use Rattle.value_code.specs.Objects.{of_function, size_at, sizes, size_before, init_of, entry_size}
use Rattle.value_follows.specs.Stands.{place_of}
use Rattle.value_follows.specs.Rows.{Row, rank, within, rows, rows_from, rows_of, place}
use Rattle.value_follows.proofs.Standing.{same_some}

-- ---- rows one behind the other

abbrev total : List Row → ℕ
total [] = 0
total (r ∷ rs) = r.size + total rs

total_all : (rs qs : List Row) → total (rs ++ qs) ≡ total rs + total qs
total_all [] qs = omega arith
total_all (r ∷ rs) qs = let e = total_all rs qs in omega (arith, e)

all_together : (rs qs ps : List Row) → (rs ++ qs) ++ ps ≡ rs ++ (qs ++ ps)
all_together [] qs ps = refl
all_together (r ∷ rs) qs ps = ap (λ os. r ∷ os) (all_together rs qs ps)

within_here : (r : Row) (rs : List Row) (n : ℕ) → n < r.size → within (r ∷ rs) n ≡ rank r n
within_here r rs n l = ap (λ (b : Bool). if b then rank r n else within rs (n - r.size)) (lt-ltb n r.size l)

within_behind : (r : Row) (rs : List Row) (n k : ℕ) → n ≡ r.size + k → within (r ∷ rs) n ≡ within rs k
within_behind r rs n k e =
    ap (λ (b : Bool). if b then rank r n else within rs (n - r.size)) (le-ltb n r.size (omega (arith, e)))
    ∙ ap (within rs) (omega (arith, e))

within_past : (front rest : List Row) (n : ℕ) → within (front ++ rest) (total front + n) ≡ within rest n
within_past [] rest n = ap (within rest) (omega arith)
within_past (r ∷ front) rest n = within_behind r (front ++ rest) (total (r ∷ front) + n) (total front + n) (omega arith) ∙ within_past front rest n

-- A row is among others, behind so many instructions of the machine.
record IsAmong (rs : List Row) (before : ℕ) (r : Row) : Type 0 where
  front : List Row
  rest : List Row
  is : rs ≡ front ++ r ∷ rest
  long : total front ≡ before

rank_there : (rs : List Row) (before : ℕ) (r : Row) (j : ℕ) → IsAmong rs before r → j < r.size → within rs (before + j) ≡ rank r j
rank_there rs before r j a l =
    ap (λ os. within os (before + j)) a.is ∙ ap (λ n. within (a.front ++ r ∷ a.rest) (n + j)) (sym a.long)
    ∙ within_past a.front (r ∷ a.rest) j ∙ within_here r a.rest j l

-- ---- the rows of a function, and of all

module _ (m : typed.Module) where
  abbrev pub row_at : typed.Function → (pc : ℕ) → Instr → Row
  row_at f pc i = record { instr = i; size = size_at m f.of.answer (of_function m f) pc (Some i) }

  module _ (f : typed.Function) where
    abbrev before : (pc : ℕ) → ℕ
    before pc = sizes m f.of.answer (of_function m f) pc

    next_size : (pc : ℕ) (i : Instr) → slice_get (of_function m f).code (pc + 0) ≡ Some i → before (suc pc) ≡ before pc + (row_at f pc i).size
    next_size pc i e =
        let same : pc + 0 ≡ pc = omega arith in
        ap (λ o. before pc + size_at m f.of.answer (of_function m f) pc o) (sym (ap (λ n. slice_get (of_function m f).code n) same) ∙ e)

    behind : (pc : ℕ) (i : Instr) (is : List Instr) → ((j : ℕ) → slice_get (of_function m f).code (pc + j) ≡ slice_get (i ∷ is) j)
        → (j : ℕ) → slice_get (of_function m f).code (suc pc + j) ≡ slice_get is j
    behind pc i is same j = let e : suc pc + j ≡ pc + suc j = omega arith in ap (λ n. slice_get (of_function m f).code n) e ∙ same (suc j)

    whole : (pc : ℕ) (is : List Instr) → ((j : ℕ) → slice_get (of_function m f).code (pc + j) ≡ slice_get is j)
        → before pc + total (rows_from m f pc is) ≡ before (pc + length is)
    whole pc [] same =
        let e : pc ≡ pc + length {A = Instr} [] = omega arith in
        let g = ap (λ n. before n) e in
        let z : total (rows_from m f pc []) ≡ 0 = refl in
        omega (arith, g, z)
    whole pc (i ∷ is) same =
        let g = next_size pc i (same 0) in
        let h = whole (suc pc) is (behind pc i is same) in
        let e : suc pc + length is ≡ pc + suc (length is) = omega arith in
        let k = ap (λ n. before n) e in
        omega (arith, g, h, k)

    in_function : (pc : ℕ) (is : List Instr) (c : ℕ) (i : Instr) → ((j : ℕ) → slice_get (of_function m f).code (pc + j) ≡ slice_get is j)
        → slice_get is c ≡ Some i → (a : ℕ) × IsAmong (rows_from m f pc is) a (row_at f (pc + c) i) × (before pc + a ≡ before (pc + c))
    in_function pc [] c i same e = absurd cc
    in_function pc (h ∷ is) zero i same e =
        let n : pc ≡ pc + 0 = omega arith in
        let g = ap (λ o. before o) n in (
          0,
          record {
            front = [];
            rest = rows_from m f (suc pc) is;
            is = ap (λ r. r ∷ rows_from m f (suc pc) is) (ap (λ o. row_at f o h) n ∙ ap (λ o. row_at f (pc + 0) o) (same_some h i e));
            long = refl;
          },
          omega (arith, g),
        )
    in_function pc (h ∷ is) (suc c) i same e =
        let next = in_function (suc pc) is c i (behind pc h is same) e in
        let n : suc pc + c ≡ pc + suc c = omega arith in
        let g = ap (λ o. before o) n in
        let s = next_size pc h (same 0) in
        let t = next.2 in
        let l = next.1.long in (
          (row_at f pc h).size + next.0,
          record {
            front = row_at f pc h ∷ next.1.front;
            rest = next.1.rest;
            is = ap (λ rs. row_at f pc h ∷ rs) (next.1.is ∙ ap (λ o. next.1.front ++ row_at f o i ∷ next.1.rest) n);
            long = omega (arith, l);
          },
          omega (arith, g, s, t),
        )

    from_begin : (c : ℕ) (i : Instr) → slice_get (of_function m f).code c ≡ Some i
        → IsAmong (rows_from m f 0 (of_function m f).code) (before c) (row_at f c i)
    from_begin c i here =
        let a = in_function 0 (of_function m f).code c i (λ j. ap (λ n. slice_get (of_function m f).code n) (omega arith)) here in
        let n : 0 + c ≡ c = omega arith in
        let g = ap (λ o. before o) n in
        let t = a.2 in
        subst (λ o. IsAmong (rows_from m f 0 (of_function m f).code) (before c) (row_at f o i)) n
        (subst (λ o. IsAmong (rows_from m f 0 (of_function m f).code) o (row_at f (0 + c) i)) (omega (arith, g, t)) a.1)

  in_module : (fs : List typed.Function) (n : ℕ) (f : typed.Function) (pc : ℕ) (i : Instr) → slice_get fs n ≡ Some f
      → slice_get (of_function m f).code pc ≡ Some i
      → IsAmong (rows_of m fs) (size_before m fs n + sizes m f.of.answer (of_function m f) pc) (row_at f pc i)
  in_module [] zero f pc i e here = absurd cc
  in_module [] (suc n) f pc i e here = absurd cc
  in_module (g ∷ fs) zero f pc i e here =
      subst (λ h. IsAmong (rows_from m h 0 (of_function m h).code ++ rows_of m fs) (0 + sizes m f.of.answer (of_function m f) pc) (row_at f pc i))
      (sym (same_some g f e)) (
      let a = from_begin f pc i here in
      let l = a.long in
      record {
        front = a.front;
        rest = a.rest ++ rows_of m fs;
        is = ap (λ rs. rs ++ rows_of m fs) a.is ∙ all_together a.front (row_at f pc i ∷ a.rest) (rows_of m fs);
        long = omega (arith, l);
      })
  in_module (g ∷ fs) (suc n) f pc i e here =
      let a = in_module fs n f pc i e here in
      let all = rows_from m g 0 (of_function m g).code in
      let l = a.long in
      let t = total_all all a.front in
      let w = whole g 0 (of_function m g).code (λ j. ap (λ n. slice_get (of_function m g).code n) (omega arith)) in
      let z : 0 + length (of_function m g).code ≡ length (of_function m g).code = omega arith in
      let y = ap (λ o. before g o) z in
      record {
        front = all ++ a.front;
        rest = a.rest;
        is = ap (λ rs. all ++ rs) a.is ∙ sym (all_together all a.front (row_at f pc i ∷ a.rest));
        long = omega (arith, l, t, w, y);
      }

  -- how far a process is in a row
  pub place_is : (q : Process) (number : ℕ) (f : typed.Function) (pc : ℕ) (i : Instr) (j : ℕ) → slice_get m.functions number ≡ Some f
      → slice_get (of_function m f).code pc ≡ Some i → j < (row_at f pc i).size → q.frame.pc ≡ place_of m number f pc + j
      → place m q ≡ rank (row_at f pc i) j
  place_is q number f pc i j there here l e =
      ap (λ (b : Bool). if b then q.frame.pc else within (rows m) (q.frame.pc - entry_size m (init_of m)))
      (le-ltb q.frame.pc (entry_size m (init_of m)) (omega (arith, e)))
      ∙ ap (within (rows m)) (omega (arith, e))
      ∙ rank_there (rows m) (size_before m m.functions number + sizes m f.of.answer (of_function m f) pc) (row_at f pc i) j
      (in_module m.functions number f pc i there here) l
