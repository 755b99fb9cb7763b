-- Each type that code names, and each frame's, stands under its number.
use Rattle.std.proofs.Common.{◌≡◌, ℕ, zero, suc, ◌+◌, Bool, true, false, ◌&&◌, ◌||◌, nat_eq, List, [], ◌∷◌, ◌++◌, map, Some, inl, inr, refl, ap}
use Rattle.std.proofs.Common.{arith, sym, subst, if◌then◌else◌, eqb-true, eq-eqb}
use Rattle.std.specs.Prelude.{slice_get}
use Rattle.std.specs.Cmp.Lexicographic.{pointwise, bytes_decides}
use Rattle.limbo_types.specs.Types.{Ty}
use Rattle.limbo_layout.specs.Adts.{Has}
use Rattle.limbo_layout.proofs.Rooms.{has_left, has_right}
use Rattle.limbo_typed.specs.Typed as typed
use Rattle.dis_file.specs.declared.types.TypeDesc.{TypeDesc}
use Rattle.dis_memory.specs.Arrays.{are_alike}
use Rattle.core_code.specs.Code.{Instr, Function}
use Rattle.value_code.specs.Data.{Named}
use Rattle.value_code.specs.Code.{named_by}
use Rattle.value_code.specs.Objects.{is_known, distinct_from, number_among, adts, desc_of, frame_desc, told_at, all_named, of_function}
use Rattle.value_code.specs.Objects.{function_named, in_all, named_descs, type_number, frame_number, object_of}
use Rattle.value_code.specs.Laws.{instruction_at, names_at}
use Rattle.value_code.proofs.Lists.{get_more, get_behind, get_map, has_map}

-- ---- types that are alike are the same

alike_same : (a b : TypeDesc) → are_alike a b ≡ true → a ≡ b
alike_same a b e = go (nat_eq a.size b.size) (pointwise nat_eq a.map b.map) refl refl e
  where
    go : (p q : Bool) → nat_eq a.size b.size ≡ p → pointwise nat_eq a.map b.map ≡ q → (p && q) ≡ true → a ≡ b
    go true true s m h =
        let size = eqb-true a.size b.size s in
        let map = (bytes_decides a.map b.map).0 m in
        λ i. record { size = size i; map = map i }
    go true false s m h = absurd cc
    go false q s m h = absurd cc

alike_itself : (a : TypeDesc) → are_alike a a ≡ true
alike_itself a = λ i. eq-eqb a.size a.size refl i && (bytes_decides a.map a.map).1 refl i

-- ---- the distinct ones of a list

-- a choice between two lists that know a type knows it
either_knows : (b : Bool) (xs ys : List TypeDesc) (d : TypeDesc) → is_known xs d ≡ true → is_known ys d ≡ true
    → is_known (if b then xs else ys) d ≡ true
either_knows true xs ys d h k = h
either_knows false xs ys d h k = k

or_known : (b c c' : Bool) → (c ≡ true → c' ≡ true) → (b || c) ≡ true → (b || c') ≡ true
or_known true c c' f h = refl
or_known false c c' f h = f h

known_by : (es more : List TypeDesc) (d : TypeDesc) → is_known es d ≡ true → is_known (es ++ more) d ≡ true
known_by [] more d h = absurd cc
known_by (e ∷ es) more d h = or_known (are_alike e d) (is_known es d) (is_known (es ++ more) d) (λ k. known_by es more d k) h

known_last : (es : List TypeDesc) (d : TypeDesc) → is_known (es ++ d ∷ []) d ≡ true
known_last [] d = ap (λ b. b || false) (alike_itself d)
known_last (e ∷ es) d = or_known (are_alike e d) true (is_known (es ++ d ∷ []) d) (λ k. known_last es d) (or_true (are_alike e d))
  where
    or_true : (b : Bool) → (b || true) ≡ true
    or_true true = refl
    or_true false = refl

stays_known : (es ds : List TypeDesc) (d : TypeDesc) → is_known es d ≡ true → is_known (distinct_from es ds) d ≡ true
stays_known es [] d h = h
stays_known es (x ∷ ds) d h =
    either_knows (is_known es x) (distinct_from es ds) (distinct_from (es ++ x ∷ []) ds) d (stays_known es ds d h)
    (stays_known (es ++ x ∷ []) ds d (known_by es (x ∷ []) d h))

first_known : (es ds : List TypeDesc) (x : TypeDesc) → is_known (distinct_from es (x ∷ ds)) x ≡ true
first_known es ds x = go (is_known es x) refl
  where
    go : (b : Bool) → is_known es x ≡ b → is_known (if b then distinct_from es ds else distinct_from (es ++ x ∷ []) ds) x ≡ true
    go true k = stays_known es ds x k
    go false k = stays_known (es ++ x ∷ []) ds x (known_last es x)

becomes_known : (es ds : List TypeDesc) (d : TypeDesc) → Has ds d → is_known (distinct_from es ds) d ≡ true
becomes_known es [] d h = absurd h
becomes_known es (x ∷ ds) d (inl e) = subst (λ c. is_known (distinct_from es (x ∷ ds)) c ≡ true) e (first_known es ds x)
becomes_known es (x ∷ ds) d (inr h) =
    either_knows (is_known es x) (distinct_from es ds) (distinct_from (es ++ x ∷ []) ds) d (becomes_known es ds d h)
    (becomes_known (es ++ x ∷ []) ds d h)

there_by_number : (ds : List TypeDesc) (d : TypeDesc) → is_known ds d ≡ true → slice_get ds (number_among ds d) ≡ Some d
there_by_number [] d h = absurd cc
there_by_number (e ∷ es) d h = go (are_alike e d) refl (λ k. there_by_number es d k) h
  where
    go : (b : Bool) → are_alike e d ≡ b → (is_known es d ≡ true → slice_get es (number_among es d) ≡ Some d)
        → (b || is_known es d) ≡ true → slice_get (e ∷ es) (if b then 0 else suc (number_among es d)) ≡ Some d
    go true a f k = ap (λ c. Some c) (alike_same e d a)
    go false a f k = f k

-- ---- of a module

module _ (m : typed.Module) where
  in_all_there : {A : Type 0} (g : typed.Function → List A) (fs : List typed.Function) (n : ℕ) (f : typed.Function) (a : A)
      → slice_get fs n ≡ Some f → Has (g f) a → Has (in_all m g fs) a
  in_all_there g [] n f a e h = absurd cc
  in_all_there g (x ∷ fs) zero f a e h =
      let same : x ≡ f = cc in has_left (g x) (in_all m g fs) a (subst (λ y. Has (g y) a) (sym same) h)
  in_all_there g (x ∷ fs) (suc n) f a e h = has_right (g x) (in_all m g fs) a (in_all_there g fs n f a e h)

  module _ (answer : Ty) (g : Function) where
    abbrev names : (pc : ℕ) → Instr → List Named
    names pc i = named_by (adts m) answer (told_at m answer g pc) i

    named_there : (from : ℕ) (is : List Instr) (k : ℕ) (i : Instr) (d : Named) → slice_get is k ≡ Some i → Has (names (from + k) i) d
        → Has (all_named m answer g from is) d
    named_there from [] k i d e h = absurd cc
    named_there from (x ∷ is) zero i d e h =
        let same : x ≡ i = cc in
        let z : from + 0 ≡ from = omega arith in
        has_left (names from x) (all_named m answer g (suc from) is) d
        (subst (λ n. Has (names n x) d) z (subst (λ y. Has (names (from + 0) y) d) (sym same) h))
    named_there from (x ∷ is) (suc k) i d e h =
        let z : from + suc k ≡ suc from + k = omega arith in
        has_right (names from x) (all_named m answer g (suc from) is) d
        (named_there (suc from) is k i d e (subst (λ n. Has (names n i) d) z h))

  pub types : (n : ℕ) (f : typed.Function) (pc : ℕ) (i : Instr) (d : Named) → slice_get m.functions n ≡ Some f
      → instruction_at m f pc ≡ Some i → Has (names_at m f pc i) d → slice_get (object_of m).types (type_number m d) ≡ Some (desc_of m d)
  types n f pc i d e h k =
      let g = of_function m f in
      let z : pc ≡ 0 + pc = omega arith in
      let own = named_there f.of.answer g 0 g.code pc i d h (subst (λ p. Has (names f.of.answer g p i) d) z k) in
      let all = in_all_there (function_named m) m.functions n f d e own in
      let known = becomes_known [] _ (desc_of m d) (has_map (desc_of m) (in_all m (function_named m) m.functions) d all) in
      get_more (named_descs m) (map (λ (f : typed.Function). frame_desc m (of_function m f)) m.functions) _ (desc_of m d)
      (there_by_number (named_descs m) (desc_of m d) known)

  pub frames : (n : ℕ) (f : typed.Function) → slice_get m.functions n ≡ Some f
      → slice_get (object_of m).types (frame_number m n) ≡ Some (frame_desc m (of_function m f))
  frames n f e =
      let own = get_map (λ (f : typed.Function). frame_desc m (of_function m f)) m.functions n f e in
      get_behind (_ ∷ named_descs m) _ n (frame_number m n) _ refl own
