-- The code of each instruction stands where it begins.
use Rattle.std.proofs.Common.{◌≡◌, ℕ, zero, suc, ◌+◌, ◌-◌, ◌<◌, ◌≤◌, List, [], ◌∷◌, ◌++◌, length, take, drop, Option, None, Some, refl, ap, ◌∙◌}
use Rattle.std.proofs.Common.{arith, sym, subst, length-append, append_assoc}
use Rattle.std.specs.Prelude.{slice_get}
use Rattle.limbo_types.specs.Types.{Ty}
use Rattle.limbo_typed.specs.Typed as typed
use Rattle.dis_isa.specs.declared.inst.Inst.{Inst}
use Rattle.core_code.specs.Code as core
use Rattle.core_code.specs.Code.{Instr, Function}
use Rattle.value_moves.specs.Operands.{Code}
use Rattle.value_code.specs.Data.{Datum, Named}
use Rattle.value_code.specs.Code.{Site, code_of, returned}
use Rattle.value_code.specs.Objects.{datum_bytes, blank_site, size_at, sizes, site, insts, all_data, data_at, end_of, of_function, function_data}
use Rattle.value_code.specs.Objects.{size_before, init_of, entry_size, base_of, entry, data_place, in_all, type_number, frame_number, functions_code}
use Rattle.value_code.specs.Objects.{code_begins, data_begins, site_at, object_of}
use Rattle.value_code.specs.Laws.{instruction_at, SitesLie, EntriesBegin}
use Rattle.value_code.proofs.Lists.{get_more, get_behind, get_within, split_at, long_front, get_front}
use Rattle.value_code.proofs.Sizes.{sizes_agree}

pub end-append : (m : typed.Module) (at : ℕ) (ds es : List Datum) → end_of m at (ds ++ es) ≡ end_of m (end_of m at ds) es
end-append m at [] es = refl
end-append m at (d ∷ ds) es = end-append m (at + datum_bytes m d) ds es

-- ---- one function

module _ (m : typed.Module) (answer : Ty) (g : Function) (entries : ℕ → ℕ) (types : Named → ℕ) (frames : ℕ → ℕ) (base : ℕ) where
  abbrev made : (pc at : ℕ) → Site
  made pc at = site m answer g entries types frames base pc at

  abbrev code : (pc at : ℕ) → List Instr → Code
  code pc at is = insts m answer g entries types frames base pc at is

  abbrev size : (pc : ℕ) → ℕ
  size pc = sizes m answer g pc

  as_long : (pc at : ℕ) (i : Instr) → size_at m answer g pc (Some i) ≡ length (code_of (made pc at) i)
  as_long pc at i =
      sizes_agree (blank_site m answer g pc) (made pc at) i
      (record { scene = refl; answer = refl; told = refl })

  pub size_next : (pc at : ℕ) (i : Instr) → slice_get g.code pc ≡ Some i → size (suc pc) ≡ size pc + length (code_of (made pc at) i)
  size_next pc at i e = ap (λ o. size pc + size_at m answer g pc o) e ∙ ap (λ n. size pc + n) (as_long pc at i)

  sizes_grow : (pc k : ℕ) → size pc ≤ size (pc + k)
  sizes_grow pc zero = subst (λ n. size pc ≤ size n) (let e : pc ≡ pc + 0 = omega arith in e) (omega arith)
  sizes_grow pc (suc k) =
      let l = sizes_grow pc k in
      subst (λ n. size pc ≤ size n) (let e : suc (pc + k) ≡ pc + suc k = omega arith in e) (omega (arith, l))

  code-append : (pc at : ℕ) (is js : List Instr)
      → code pc at (is ++ js) ≡ code pc at is ++ code (pc + length is) (end_of m at (all_data m answer g pc is)) js
  code-append pc at [] js = ap (λ n. code n at js) (let e : pc ≡ pc + 0 = omega arith in e)
  code-append pc at (i ∷ is) js =
      let ds = data_at m answer g pc i in
      let rest = code-append (suc pc) (end_of m at ds) is js in
      ap (λ l. code_of (made pc at) i ++ l)
      (rest
      ∙ ap (λ n. code (suc pc) (end_of m at ds) is ++ code n (end_of m (end_of m at ds) (all_data m answer g (suc pc) is)) js)
      (let e : suc pc + length is ≡ pc + suc (length is) = omega arith in e)
      ∙ ap (λ a. code (suc pc) (end_of m at ds) is ++ code (pc + suc (length is)) a js)
      (sym (end-append m at ds (all_data m answer g (suc pc) is))))
      ∙ sym (append_assoc (code_of (made pc at) i) _ _)

  -- some of its code, from a place on
  code_long : (pc at : ℕ) (is : List Instr) → ((k : ℕ) → k < length is → slice_get g.code (pc + k) ≡ slice_get is k)
      → size pc + length (code pc at is) ≡ size (pc + length is)
  code_long pc at [] same = let e : pc ≡ pc + 0 = omega arith in omega (arith, ap size e)
  code_long pc at (i ∷ is) same =
      let here : slice_get g.code pc ≡ Some i = ap (slice_get g.code) (let e : pc ≡ pc + 0 = omega arith in e) ∙ same 0 (omega arith) in
      let next = size_next pc at i here in
      let both = length-append (code_of (made pc at) i) (code (suc pc) (end_of m at (data_at m answer g pc i)) is) in
      let more = code_long (suc pc) (end_of m at (data_at m answer g pc i)) is
      (λ k l. ap (slice_get g.code) (let e : suc pc + k ≡ pc + suc k = omega arith in e) ∙ same (suc k) (omega arith)) in
      let place = ap size (let e : suc pc + length is ≡ pc + suc (length is) = omega arith in e) in
      omega (arith, next, both, more, place)

  -- the code of an instruction, behind that of those in front
  code_there : (pc at : ℕ) (i : Instr) (j : ℕ) (c : Inst) → slice_get g.code pc ≡ Some i
      → slice_get (code_of (made pc (end_of m at (all_data m answer g 0 (take pc g.code)))) i) j ≡ Some c
      → slice_get (code 0 at g.code) (size pc + j) ≡ Some c
  code_there pc at i j c e h =
      let is = take pc g.code in
      let js = drop (suc pc) g.code in
      let there = end_of m at (all_data m answer g 0 is) in
      let count = long_front g.code pc i e in
      let long = code_long 0 at is (λ k l. ap (slice_get g.code) (let z : 0 + k ≡ k = omega arith in z) ∙ get_front g.code pc k l) in
      let place = ap size (let z : 0 + length is ≡ pc = omega (arith, count) in z) in
      let here = subst (λ n. slice_get (code_of (made n there) i) j ≡ Some c) (let z : pc ≡ 0 + length is = omega (arith, count) in z) h in
      let behind = get_more (code_of (made (0 + length is) there) i) (code (suc (0 + length is)) (end_of m there (data_at m answer g (0 + length is) i)) js) j c here in
      ap (λ l. slice_get (code 0 at l) (size pc + j)) (split_at g.code pc i e)
      ∙ ap (λ l. slice_get l (size pc + j)) (code-append 0 at is (i ∷ js))
      ∙ get_behind (code 0 at is) (code (0 + length is) there (i ∷ js)) j (size pc + j) c (omega (arith, long, place)) behind

  whole_long : (at : ℕ) → length (code 0 at g.code) ≡ size (length g.code)
  whole_long at =
      let long = code_long 0 at g.code (λ k l. ap (slice_get g.code) (let z : 0 + k ≡ k = omega arith in z)) in
      let place = ap size (let z : 0 + length g.code ≡ length g.code = omega arith in z) in
      omega (arith, long, place)

-- ---- all functions

module _ (m : typed.Module) where
  abbrev its_code : (n at : ℕ) → typed.Function → Code
  its_code n at f =
      insts m f.of.answer (of_function m f) (base_of m) (type_number m) (frame_number m) (base_of m n) 0 at (of_function m f).code

  functions-append : (n at : ℕ) (fs gs : List typed.Function)
      → functions_code m n at (fs ++ gs)
      ≡ functions_code m n at fs ++ functions_code m (n + length fs) (end_of m at (in_all m (function_data m) fs)) gs
  functions-append n at [] gs = ap (λ k. functions_code m k at gs) (let e : n ≡ n + 0 = omega arith in e)
  functions-append n at (f ∷ fs) gs =
      let ds = function_data m f in
      let es = in_all m (function_data m) fs in
      let at' = end_of m at ds in
      ap (λ l. its_code n at f ++ l)
      (functions-append (suc n) at' fs gs
      ∙ ap (λ k. functions_code m (suc n) at' fs ++ functions_code m k (end_of m at' es) gs)
      (let e : suc n + length fs ≡ n + suc (length fs) = omega arith in e)
      ∙ ap (λ a. functions_code m (suc n) at' fs ++ functions_code m (n + suc (length fs)) a gs) (sym (end-append m at ds es)))
      ∙ sym (append_assoc (its_code n at f) _ _)

  functions_long : (n at : ℕ) (fs : List typed.Function) (k : ℕ) → length (functions_code m n at (take k fs)) ≡ size_before m fs k
  functions_long n at fs zero = refl
  functions_long n at [] (suc k) = refl
  functions_long n at (f ∷ fs) (suc k) =
      let g = of_function m f in
      let own = whole_long m f.of.answer g (base_of m) (type_number m) (frame_number m) (base_of m n) at in
      let both = length-append (its_code n at f) (functions_code m (suc n) (end_of m at (function_data m f)) (take k fs)) in
      let more = functions_long (suc n) (end_of m at (function_data m f)) fs k in
      omega (arith, own, both, more)

  entry_long : (o : Option ℕ) → length (entry m o) ≡ entry_size m o
  entry_long None = refl
  entry_long (Some n) = refl

  pub code_stands : (n : ℕ) (f : typed.Function) (pc : ℕ) (i : Instr) (j : ℕ) (c : Inst) → slice_get m.functions n ≡ Some f
      → instruction_at m f pc ≡ Some i → slice_get (code_of (site_at m n f pc) i) j ≡ Some c
      → slice_get (object_of m).insts (code_begins m n f pc + j) ≡ Some c
  code_stands n f pc i j c e h there =
      let g = of_function m f in
      let fs = take n m.functions in
      let gs = drop (suc n) m.functions in
      let at = end_of m (data_place m) (in_all m (function_data m) fs) in
      let count = long_front m.functions n f e in
      let begun = end-append m (data_place m) (in_all m (function_data m) fs) (all_data m f.of.answer g 0 (take pc g.code)) in
      let own = code_there m f.of.answer g (base_of m) (type_number m) (frame_number m) (base_of m n) pc at i j c h
      (subst (λ a. slice_get (code_of
      (site m f.of.answer g (base_of m) (type_number m) (frame_number m) (base_of m n) pc a) i) j ≡ Some c) begun there) in
      let q = sizes m f.of.answer g pc + j in
      let here = subst (λ k. slice_get (its_code k at f) q ≡ Some c) (let z : n ≡ 0 + length fs = omega (arith, count) in z) own in
      let rest = functions_code m (suc (0 + length fs)) (end_of m at (function_data m f)) gs in
      let long = functions_long 0 (data_place m) m.functions n in
      let p = size_before m m.functions n + q in
      let all : slice_get (functions_code m 0 (data_place m) m.functions) p ≡ Some c =
      ap (λ l. slice_get (functions_code m 0 (data_place m) l) p) (split_at m.functions n f e)
      ∙ ap (λ l. slice_get l p) (functions-append 0 (data_place m) fs (f ∷ gs))
      ∙ get_behind (functions_code m 0 (data_place m) fs) (its_code (0 + length fs) at f ++ rest) q p c (omega (arith, long))
      (get_more (its_code (0 + length fs) at f) rest q c here) in
      let begin = entry_long (init_of m) in
      get_behind (entry m (init_of m)) (functions_code m 0 (data_place m) m.functions) p (code_begins m n f pc + j) c (omega (arith, begin)) all

  pub next : (n : ℕ) (f : typed.Function) (pc : ℕ) (i : Instr) → instruction_at m f pc ≡ Some i
      → code_begins m n f (suc pc) ≡ code_begins m n f pc + length (code_of (site_at m n f pc) i)
  next n f pc i h =
      let g = of_function m f in
      let one = size_next m f.of.answer g (base_of m) (type_number m) (frame_number m) (base_of m n) pc (data_begins m n f pc) i h in
      omega (arith, one)

  pub places : (n : ℕ) (f : typed.Function) (pc : ℕ) → SitesLie m n f pc
  places n f pc = record { here = refl; past = λ k. refl; back = λ k. refl; entries = λ k. refl; at = refl }

  ends : {A : Type 0} (xs : List A) (x : A) → (y : A) × (slice_get (xs ++ x ∷ []) 0 ≡ Some y)
  ends [] x = (x, refl)
  ends (y ∷ xs) x = (y, refl)

  pub within : (n : ℕ) (f : typed.Function) (pc : ℕ) (r : Option ℕ) → slice_get m.functions n ≡ Some f
      → pc < length (of_function m f).code → instruction_at m f (length (of_function m f).code - 1) ≡ Some (core.Return r)
      → code_begins m n f pc < length (object_of m).insts
  within n f pc r e l h =
      let g = of_function m f in
      let end = length g.code - 1 in
      let one = ends (returned (site_at m n f end) r) _ in
      let there = get_within (object_of m).insts (code_begins m n f end + 0) one.0 (code_stands n f end (core.Return r) 0 one.0 e h one.1) in
      let grow = sizes_grow m f.of.answer g (base_of m) (type_number m) (frame_number m) (base_of m n) pc (end - pc) in
      let place = ap (sizes m f.of.answer g) (let z : pc + (end - pc) ≡ end = omega arith in z) in
      omega (arith, there, grow, place)

  pub entry_place : (n : ℕ) (f : typed.Function) → base_of m n ≡ code_begins m n f 0
  entry_place n f = omega arith

  pub entry_there : (j : ℕ) (c : Inst) → slice_get (entry m (init_of m)) j ≡ Some c → slice_get (object_of m).insts j ≡ Some c
  entry_there j c e = get_more (entry m (init_of m)) (functions_code m 0 (data_place m) m.functions) j c e

pub entries_begin : EntriesBegin
entries_begin m = entry_there m
