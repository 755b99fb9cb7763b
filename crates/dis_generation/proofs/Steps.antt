-- Steps of the walks that write code.
use Rattle.std.proofs.Common.{◌≡◌, ℕ, suc, ◌+◌, ◌<◌, ◌≤◌, List, [], ◌∷◌, ◌++◌, map, drop, length, get_or, Some, refl, sym, ap, ◌∙◌, subst}
use Rattle.std.proofs.Common.{arith, append_assoc, append-nil}
use Rattle.std.specs.Prelude.{slice_get, option_map}
use Rattle.std.proofs.lemmas.List.{at_drop_more}
use Rattle.std.proofs.lemmas.Option.{slice_get-map, slice_get_read}
use Rattle.limbo_values.specs.declared.number.Kind.{Kind}
use Rattle.slot_code.specs.declared.code.Inst as code_inst
use Rattle.slot_code.specs.declared.code.SlotFn.{SlotFn}
use Rattle.slot_code.specs.Code.{Inst, Function, Module}
use Rattle.slot_code.specs.View.{view_inst, view_function}
use Rattle.dis_objects.specs.declared.ready.Making.{Making}
use Rattle.dis_objects.specs.Frames.{Callee, made_by, made_from, made_at, all_bytes, argument_bytes, most_bytes}
use Rattle.dis_objects.specs.Code.{Code, Context, data_bytes, data_of, insts_data, inst_code, insts_code}
use Rattle.dis_objects.specs.Objects.{function_data, functions_data, functions_code, context}
use Rattle.dis_objects.specs.Sites.{made_of, IsCounted}
use Rattle.dis_objects.proofs.Growing.{bytes_append}
use Rattle.dis_objects.proofs.Walks.{made_next, fits_from}
use Rattle.dis_generation.proofs.Ready.{most_small}
use Rattle.dis_generation.specs.declared.site.Site.{Site}
use Rattle.dis_generation.specs.Site.{functions_of, function_of, IsSite, IsMaking, IsMakingAt, HasInst}

-- What is being made ready at a place has room.
pub to_making : (s : Site) (m : Making) (pc : ℕ) → IsMakingAt s m pc → IsMaking s m
to_making s m pc h = record {
  counted = h.counted;
  fits = subst (λ cs. all_bytes (functions_of s) cs ≤ most_bytes (functions_of s) [] (function_of s).code) (sym h.made)
      (fits_from (functions_of s) [] (function_of s).code pc);
}

-- So has what an instruction there makes ready.
pub behind_fits : (s : Site) (cs : List Callee) (pc : ℕ) (i : Inst) → cs ≡ made_at (function_of s).code pc → HasInst s pc i →
    all_bytes (functions_of s) (made_by cs i) ≤ most_bytes (functions_of s) [] (function_of s).code
behind_fits s cs pc i e h =
    let next : made_by cs i ≡ made_from [] (function_of s).code (suc pc) = ap (λ cs. made_by cs i) e
    ∙ sym (made_next [] (function_of s).code pc i h) in
    subst (λ cs. all_bytes (functions_of s) cs ≤ most_bytes (functions_of s) [] (function_of s).code) (sym next)
    (fits_from (functions_of s) [] (function_of s).code (suc pc))

-- The instruction that is seen at a place.
pub inst_seen : (is : List code_inst.Inst) (k : ℕ) (i : code_inst.Inst) → k < length is → i ≡ get_or is k i →
    slice_get (map view_inst is) k ≡ Some (view_inst i)
inst_seen is k i lt e = slice_get-map view_inst is k ∙ ap (option_map view_inst) (slice_get_read is (length is) k i refl lt e)

-- What is being made ready behind it.
pub made_seen : (is : List Inst) (k : ℕ) (i : Inst) (cs new : List Callee) → slice_get is k ≡ Some i → cs ≡ made_at is k →
    new ≡ made_by cs i → new ≡ made_at is (k + 1)
made_seen is k i cs new e c n =
    let one : suc k ≡ k + 1 = omega arith in
    n ∙ ap (λ cs. made_by cs i) c ∙ sym (made_next [] is k i e) ∙ ap (made_from [] is) one

-- ---- an empty arm

pub left_out : (xs ys : Code) → ys ≡ [] → xs ≡ xs ++ ys
left_out xs ys e = sym (append-nil xs) ∙ ap (λ ys. xs ++ ys) (sym e)

-- ---- one instruction more

module _ (c : Context) (cs new : List Callee) (is : List code_inst.Inst) (k at next : ℕ) (i : code_inst.Inst) (lt : k < length is)
    (e : i ≡ get_or is k i) (n : new ≡ made_by cs (view_inst i))
    (step : next ≡ at + data_bytes (data_of c.functions c.function.answer cs (view_inst i))) where
  code_next : insts_code c k at cs (map view_inst (drop k is)) ≡ inst_code c k at cs (view_inst i) ++ insts_code c (k + 1) next new
      (map view_inst (drop (k + 1) is))
  code_next =
      let rest = map view_inst (drop (k + 1) is) in
      let one : suc k ≡ k + 1 = omega arith in
      at_drop_more (λ xs. insts_code c k at cs (map view_inst xs)) is k i lt
      ∙ ap (λ j. inst_code c k at cs (view_inst j) ++ insts_code c (suc k)
      (at + data_bytes (data_of c.functions c.function.answer cs (view_inst j))) (made_by cs (view_inst j)) rest) (sym e)
      ∙ ap (λ p. inst_code c k at cs (view_inst i) ++ insts_code c p
      (at + data_bytes (data_of c.functions c.function.answer cs (view_inst i))) (made_by cs (view_inst i)) rest) one
      ∙ ap (λ a. inst_code c k at cs (view_inst i) ++ insts_code c (k + 1) a (made_by cs (view_inst i)) rest) (sym step)
      ∙ ap (λ cs'. inst_code c k at cs (view_inst i) ++ insts_code c (k + 1) next cs' rest) (sym n)

  pub code_more : (old insts whole : Code) → insts ≡ old ++ inst_code c k at cs (view_inst i) →
      old ++ insts_code c k at cs (map view_inst (drop k is)) ≡ whole →
      insts ++ insts_code c (k + 1) next new (map view_inst (drop (k + 1) is)) ≡ whole
  code_more old insts whole g w =
      ap (λ xs. xs ++ insts_code c (k + 1) next new (map view_inst (drop (k + 1) is))) g
      ∙ append_assoc old (inst_code c k at cs (view_inst i)) (insts_code c (k + 1) next new (map view_inst (drop (k + 1) is)))
      ∙ ap (λ xs. old ++ xs) (sym code_next)
      ∙ w

pub data_more : (fs : List Function) (a : Kind) (cs new : List Callee) (is : List code_inst.Inst) (k at next whole : ℕ) (i : code_inst.Inst)
    → k < length is → i ≡ get_or is k i → new ≡ made_by cs (view_inst i) → next ≡ at + data_bytes (data_of fs a cs (view_inst i)) →
    at + data_bytes (insts_data fs a cs (map view_inst (drop k is))) ≡ whole →
    next + data_bytes (insts_data fs a new (map view_inst (drop (k + 1) is))) ≡ whole
data_more fs a cs new is k at next whole i lt e n step w =
    let rest = map view_inst (drop (k + 1) is) in
    let d = at_drop_more (λ xs. data_bytes (insts_data fs a cs (map view_inst xs))) is k i lt
    ∙ ap (λ j. data_bytes (data_of fs a cs (view_inst j) ++ insts_data fs a (made_by cs (view_inst j)) rest)) (sym e)
    ∙ bytes_append (data_of fs a cs (view_inst i)) (insts_data fs a (made_by cs (view_inst i)) rest) in
    let m = ap (λ cs. data_bytes (insts_data fs a cs rest)) n in
    omega (arith, d, m, step, w)

-- ---- one function more

pub functions_more : (m : Module) (fs : List SlotFn) (k at next : ℕ) (f : SlotFn) (old insts whole : Code) → k < length fs →
    f ≡ get_or fs k f → next ≡ at + data_bytes (function_data m.functions (view_function f)) →
    insts ≡ old ++ insts_code (context m k (view_function f)) 0 at [] (view_function f).code →
    old ++ functions_code m k at (map view_function (drop k fs)) ≡ whole →
    insts ++ functions_code m (k + 1) next (map view_function (drop (k + 1) fs)) ≡ whole
functions_more m fs k at next f old insts whole lt e step g w =
    let rest = map view_function (drop (k + 1) fs) in
    let own = insts_code (context m k (view_function f)) 0 at [] (view_function f).code in
    let one : suc k ≡ k + 1 = omega arith in
    let d = at_drop_more (λ xs. functions_code m k at (map view_function xs)) fs k f lt
    ∙ ap (λ h. insts_code (context m k (view_function h)) 0 at [] (view_function h).code ++ functions_code m (suc k)
    (at + data_bytes (function_data m.functions (view_function h))) rest) (sym e)
    ∙ ap (λ p. own ++ functions_code m p (at + data_bytes (function_data m.functions (view_function f))) rest) one
    ∙ ap (λ a. own ++ functions_code m (k + 1) a rest) (sym step) in
    ap (λ xs. xs ++ functions_code m (k + 1) next rest) g ∙ append_assoc old own (functions_code m (k + 1) next rest)
    ∙ ap (λ xs. old ++ xs) (sym d) ∙ w

pub functions_data_more : (all : List Function) (fs : List SlotFn) (k at next whole : ℕ) (f : SlotFn) → k < length fs → f ≡ get_or fs k f →
    next ≡ at + data_bytes (function_data all (view_function f)) →
    at + data_bytes (functions_data all (map view_function (drop k fs))) ≡ whole →
    (at + data_bytes (function_data all (view_function f)) ≤ whole) ×
    (next + data_bytes (functions_data all (map view_function (drop (k + 1) fs))) ≡ whole)
functions_data_more all fs k at next whole f lt e step w =
    let rest = map view_function (drop (k + 1) fs) in
    let d = at_drop_more (λ xs. data_bytes (functions_data all (map view_function xs))) fs k f lt
    ∙ ap (λ h. data_bytes (function_data all (view_function h) ++ functions_data all rest)) (sym e)
    ∙ bytes_append (function_data all (view_function f)) (functions_data all rest) in
    (omega (arith, d, w), omega (arith, d, step, w))

-- ---- what is made ready ends

pub bytes_small : (s : Site) (m : Making) → IsSite s → IsMaking s m → m.bytes ≤ 65536
bytes_small s m h k = let n = most_small _ _ _ _ _ _ _ h in let f = k.fits in let e = k.counted in omega (arith, n, f, e)

pub callee_small : (s : Site) (m : Making) (c : Callee) (rest : List Callee) → IsSite s → IsMaking s m → made_of m ≡ c ∷ rest →
    argument_bytes (functions_of s) c ≤ 65536
callee_small s m c rest h k e = let a = ap (all_bytes (functions_of s)) e in let n = most_small _ _ _ _ _ _ _ h in let f = k.fits in
    omega (arith, a, n, f)

pub ended : (s : Site) (old new : Making) (c : Callee) → IsMaking s old → made_of old ≡ c ∷ made_of new → IsCounted (functions_of s) new →
    IsMaking s new
ended s old new c h e n = record {
  counted = n;
  fits = let a = ap (all_bytes (functions_of s)) e in let f = h.fits in omega (arith, a, f);
}
