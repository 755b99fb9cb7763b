-- Each datum stands in the module's data, and none over another.
use Rattle.std.proofs.Common.{◌≡◌, ℕ, zero, suc, ◌+◌, ◌%◌, ◌<◌, ◌≤◌, ◌⊎◌, List, [], ◌∷◌, ◌++◌, length, take, drop, Some, inl, inr, refl, ap, ◌∙◌}
use Rattle.std.proofs.Common.{arith, sym, subst, append_assoc, codes, None}
use Rattle.std.specs.Prelude.{slice_get}
use Rattle.limbo_types.specs.Types as ty
use Rattle.limbo_types.specs.Types.{Ty}
use Rattle.limbo_layout.specs.Adts.{Has}
use Rattle.limbo_layout.proofs.Rooms.{has_left, has_right}
use Rattle.limbo_typed.specs.Typed as typed
use Rattle.limbo_meaning.specs.Values.{Chars, Ref}
use Rattle.core_code.specs.Code.{Instr, Function}
use Rattle.value_frames.specs.Frames.{row_of}
use Rattle.value_heaps.specs.Blocks.{Constant, globals_place}
use Rattle.value_code.specs.Data.{Datum, Text, Word, Long, Zero}
use Rattle.value_code.specs.Objects.{adts, globals, datum_bytes, end_of, data_at, all_data, of_function, function_data, in_all, data_place}
use Rattle.value_code.specs.Objects.{data_in_front, data_begins, placed, datum_constant, constants_from, all_data_of, constants, data_size}
use Rattle.value_code.specs.Laws.{instruction_at, own_data, past_end, ConstantsLie, ConstantsLieApart}
use Rattle.value_code.proofs.Lists.{split_at, long_front, has_there}

module _ (m : typed.Module) where
  -- ---- each datum is there

  constants-append : (at : ℕ) (ds es : List Datum)
      → constants_from m at (ds ++ es) ≡ constants_from m at ds ++ constants_from m (end_of m at ds) es
  constants-append at [] es = refl
  constants-append at (d ∷ ds) es = ap (λ l. datum_constant m at d ∷ l) (constants-append (at + datum_bytes m d) ds es)

  in_all-append : {A : Type 0} (g : typed.Function → List A) (fs gs : List typed.Function)
      → in_all m g (fs ++ gs) ≡ in_all m g fs ++ in_all m g gs
  in_all-append g [] gs = refl
  in_all-append g (f ∷ fs) gs = ap (λ l. g f ++ l) (in_all-append g fs gs) ∙ sym (append_assoc (g f) (in_all m g fs) (in_all m g gs))

  data-append : (answer : Ty) (g : Function) (pc : ℕ) (is js : List Instr)
      → all_data m answer g pc (is ++ js) ≡ all_data m answer g pc is ++ all_data m answer g (pc + length is) js
  data-append answer g pc [] js = ap (λ n. all_data m answer g n js) (let e : pc ≡ pc + 0 = omega arith in e)
  data-append answer g pc (i ∷ is) js =
      ap (λ l. data_at m answer g pc i ++ l)
      (data-append answer g (suc pc) is js
      ∙ ap (λ n. all_data m answer g (suc pc) is ++ all_data m answer g n js) (let e : suc pc + length is ≡ pc + suc (length is) = omega arith in e))
      ∙ sym (append_assoc (data_at m answer g pc i) _ _)

  datum_there : (at : ℕ) (ds : List Datum) (k : ℕ) (d : Datum) → slice_get ds k ≡ Some d
      → Has (constants_from m at ds) (datum_constant m (end_of m at (take k ds)) d)
  datum_there at [] k d e = absurd cc
  datum_there at (x ∷ ds) zero d e = inl (let same : x ≡ d = cc in ap (datum_constant m at) same)
  datum_there at (x ∷ ds) (suc k) d e = inr (datum_there (at + datum_bytes m x) ds k d e)

  -- some data more, behind those of an instruction
  own_there : (n : ℕ) (f : typed.Function) (pc : ℕ) (i : Instr) → slice_get m.functions n ≡ Some f → instruction_at m f pc ≡ Some i
      → (rest : List Datum) × (all_data_of m ≡ data_in_front m n f pc ++ (own_data m f pc i ++ rest))
  own_there n f pc i e h =
      let g = of_function m f in
      let answer = f.of.answer in
      let fs = take n m.functions in
      let gs = drop (suc n) m.functions in
      let is = take pc g.code in
      let js = drop (suc pc) g.code in
      let p = 0 + length is in
      let count = long_front g.code pc i h in
      let place : p ≡ pc = omega (arith, count) in
      let before = in_all m (function_data m) fs in
      let behind = in_all m (function_data m) gs in
      let first = all_data m answer g 0 is in
      let last = all_data m answer g (suc pc) js in
      let own = own_data m f pc i in
      let inside : function_data m f ≡ first ++ (own ++ last) =
      ap (all_data m answer g 0) (split_at g.code pc i h) ∙ data-append answer g 0 is (i ∷ js)
      ∙ ap (λ k. first ++ (data_at m answer g k i ++ all_data m answer g (suc k) js)) place in (
        last ++ behind,
        ap (in_all m (function_data m)) (split_at m.functions n f e) ∙ in_all-append (function_data m) fs (f ∷ gs)
            ∙ ap (λ l. before ++ (l ++ behind)) inside
            ∙ ap (λ l. before ++ l) (append_assoc first (own ++ last) behind)
            ∙ sym (append_assoc before first ((own ++ last) ++ behind))
            ∙ ap (λ l. (before ++ first) ++ l) (append_assoc own last behind),
      )

  pub datum : (n : ℕ) (f : typed.Function) (pc : ℕ) (i : Instr) (k : ℕ) (d : Datum) → slice_get m.functions n ≡ Some f
      → instruction_at m f pc ≡ Some i → slice_get (own_data m f pc i) k ≡ Some d
      → Has (constants m) (datum_constant m (end_of m (data_begins m n f pc) (take k (own_data m f pc i))) d)
  datum n f pc i k d e h there =
      let front = data_in_front m n f pc in
      let own = own_data m f pc i in
      let begun = data_begins m n f pc in
      let r = own_there n f pc i e h in
      let c = datum_constant m (end_of m begun (take k own)) d in
      let one = has_left (constants_from m begun own) (constants_from m (end_of m begun own) r.0) c (datum_there begun own k d there) in
      let two = subst (λ l. Has l c) (sym (constants-append begun own r.0)) one in
      let three = has_right (constants_from m (data_place m) front) (constants_from m begun (own ++ r.0)) c two in
      let four = subst (λ l. Has l c) (sym (constants-append (data_place m) front (own ++ r.0))) three in
      inr (inr (subst (λ l. Has (constants_from m (data_place m) l) c) (sym r.1) four))

  -- ---- where constants lie

  ends_behind : (at : ℕ) (ds : List Datum) → at ≤ end_of m at ds
  ends_behind at [] = omega arith
  ends_behind at (d ∷ ds) = let l = ends_behind (at + datum_bytes m d) ds in omega (arith, l)

  record Lies (at end : ℕ) (c : Constant) : Type 0 where
    from : at ≤ c.at
    to : past_end m c ≤ end
    eight : c.at % 8 ≡ 0

  one_lies : (at : ℕ) (d : Datum) → at % 8 ≡ 0 → Lies at (at + datum_bytes m d) (datum_constant m at d)
  one_lies at (Text t) e = record { from = omega arith; to = omega arith; eight = e }
  one_lies at (Word z) e = record { from = omega arith; to = omega arith; eight = e }
  one_lies at (Long z) e = record { from = omega arith; to = omega arith; eight = e }
  one_lies at (Zero t) e = record { from = omega arith; to = omega arith; eight = e }

  all_lie : (at : ℕ) (ds : List Datum) (c : Constant) → at % 8 ≡ 0 → Has (constants_from m at ds) c → Lies at (end_of m at ds) c
  all_lie at [] c e h = absurd h
  all_lie at (d ∷ ds) c e (inl same) =
      let l = one_lies at d e in
      let a = l.to in
      let b = ends_behind (at + datum_bytes m d) ds in
      subst (Lies at (end_of m at (d ∷ ds))) same (record { from = l.from; to = omega (arith, a, b); eight = l.eight })
  all_lie at (d ∷ ds) c e (inr h) =
      let l = all_lie (at + datum_bytes m d) ds c (omega (arith, e)) h in
      let a = l.from in
      record { from = omega (arith, a); to = l.to; eight = l.eight }

  apart_from : (at : ℕ) (ds : List Datum) (j k : ℕ) (c d : Constant) → at % 8 ≡ 0 → slice_get (constants_from m at ds) j ≡ Some c
      → slice_get (constants_from m at ds) k ≡ Some d → j < k → past_end m c ≤ d.at
  apart_from at [] j k c d z e f l = absurd cc
  apart_from at (x ∷ ds) j zero c d z e f l = absurd (omega arith)
  apart_from at (x ∷ ds) zero (suc k) c d z e f l =
      let next = at + datum_bytes m x in
      let same : datum_constant m at x ≡ c = cc in
      let a = (one_lies at x z).to in
      let b = (all_lie next ds d (omega (arith, z)) (has_there (constants_from m next ds) k d f)).from in
      let s = ap (past_end m) same in
      omega (arith, a, b, s)
  apart_from at (x ∷ ds) (suc j) (suc k) c d z e f l =
      apart_from (at + datum_bytes m x) ds j k c d (omega (arith, z)) e f (omega arith)

  at_eight : data_place m % 8 ≡ 0
  at_eight = omega arith

  behind_variables : globals_place + (row_of (adts m) (globals m)).size ≤ data_place m
  behind_variables = omega arith

  lie : (c : Constant) → Has (constants_from m (data_place m) (all_data_of m)) c → Lies (data_place m) (end_of m (data_place m) (all_data_of m)) c
  lie c h = all_lie (data_place m) (all_data_of m) c at_eight h

  large : 16 ≤ data_size m
  large = let a = ends_behind (data_place m) (all_data_of m) in omega (arith, a)

  within : (c : Constant) → Has (constants m) c → past_end m c ≤ data_size m
  within c (inl e) = let l = large in subst (λ c. past_end m c ≤ data_size m) e (omega (arith, l))
  within c (inr (inl e)) = let l = large in subst (λ c. past_end m c ≤ data_size m) e (omega (arith, l))
  within c (inr (inr h)) = let l = (lie c h).to in omega (arith, l)

  variables : (c : Constant) → Has (constants m) c
      → (past_end m c ≤ globals_place) ⊎ (globals_place + (row_of (adts m) (globals m)).size ≤ c.at)
  variables c (inl e) = inl (subst (λ c. past_end m c ≤ globals_place) e (omega arith))
  variables c (inr (inl e)) = inl (subst (λ c. past_end m c ≤ globals_place) e (omega arith))
  variables c (inr (inr h)) = let l = (lie c h).from in let b = behind_variables in inr (omega (arith, l, b))

  words : (c : Constant) → Has (constants m) c → c.at % 4 ≡ 0
  words c (inl e) = subst (λ (c : Constant). c.at % 4 ≡ 0) e refl
  words c (inr (inl e)) = subst (λ (c : Constant). c.at % 4 ≡ 0) e refl
  words c (inr (inr h)) = let l = (lie c h).eight in omega (arith, l)

  longs : (c : Constant) → Has (constants m) c → data_place m ≤ c.at → c.at % 8 ≡ 0
  longs c (inl e) l = subst (λ (c : Constant). c.at % 8 ≡ 0) e refl
  longs c (inr (inl e)) l =
      let four : 4 ≡ c.at = ap (λ (c : Constant). c.at) e in
      let b = behind_variables in
      absurd (omega (arith, four, b, l))
  longs c (inr (inr h)) l = (lie c h).eight

  abbrev path : Constant
  path = placed m 0 ty.Chars (Chars (codes "$Sys"))

  abbrev nothing_there : Constant
  nothing_there = placed m 4 ty.Nil (Ref None)

  others : (k : ℕ) (d : Constant) → slice_get (constants_from m (data_place m) (all_data_of m)) k ≡ Some d → 16 ≤ d.at
  others k d f = let l = (lie d (has_there (constants_from m (data_place m) (all_data_of m)) k d f)).from in omega (arith, l)

  apart : (j k : ℕ) (c d : Constant) → slice_get (constants m) j ≡ Some c → slice_get (constants m) k ≡ Some d → j < k
      → past_end m c ≤ d.at
  apart j zero c d e f l = absurd (omega arith)
  apart zero (suc zero) c d e f l =
      let same : path ≡ c = cc in
      let other : nothing_there ≡ d = cc in
      let p : 4 ≡ past_end m c = ap (past_end m) same in
      let q : 4 ≡ d.at = ap (λ (d : Constant). d.at) other in
      omega (arith, p, q)
  apart zero (suc (suc k)) c d e f l =
      let same : path ≡ c = cc in
      let p : 4 ≡ past_end m c = ap (past_end m) same in
      let q = others k d f in
      omega (arith, p, q)
  apart (suc zero) (suc zero) c d e f l = absurd (omega arith)
  apart (suc zero) (suc (suc k)) c d e f l =
      let same : nothing_there ≡ c = cc in
      let p : 8 ≡ past_end m c = ap (past_end m) same in
      let q = others k d f in
      omega (arith, p, q)
  apart (suc (suc j)) (suc zero) c d e f l = absurd (omega arith)
  apart (suc (suc j)) (suc (suc k)) c d e f l =
      apart_from (data_place m) (all_data_of m) j k c d at_eight e f (omega arith)

  lies : ConstantsLie m
  lies = record { variables = variables; apart = apart; within = within; words = words; longs = longs }

pub constants_lie_apart : ConstantsLieApart
constants_lie_apart m = lies m
