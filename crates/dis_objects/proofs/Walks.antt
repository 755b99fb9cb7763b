-- Walks through a code with what is being made ready, and what its frame has room for.
use Rattle.std.proofs.Common.{◌≡◌, ℕ, zero, suc, ◌+◌, ◌*◌, ◌≤◌, List, [], ◌∷◌, map, take, Some, None, refl, ap, ◌∙◌, arith}
use Rattle.std.specs.Prelude.{slice_get, option_map}
use Rattle.std.proofs.lemmas.Option.{slice_get-map}
use Rattle.limbo_values.specs.declared.number.Kind.{Kind}
use Rattle.limbo_values.specs.declared.number.Kind.TheVariants.{Byte, Int, Big}
use Rattle.slot_code.specs.declared.code.SlotFn.{SlotFn}
use Rattle.slot_code.specs.Code.{Inst, Function, Begin, Format}
use Rattle.slot_code.specs.View.{view_function}
use Rattle.slot_code.specs.Layout.{end_of}
use Rattle.dis_objects.specs.Frames.{Callee, Calls, Room, made_by, made_from, all_bytes, most_bytes, inst_count, count, room_of, whole}
use Rattle.dis_objects.specs.Frames.{parameters, parameters_of}
use Rattle.dis_objects.specs.Objects.{callee_bytes, most_callee, zeros_bytes, print_bytes, most_printed, most_of_all}
use Rattle.dis_objects.specs.Words.{frame_limit, SmallFrame}
use Rattle.dis_objects.proofs.Layouts.{end_grows}

-- ---- walks

-- Behind an instruction.
pub made_next : (cs : List Callee) (is : List Inst) (pc : ℕ) (i : Inst) → slice_get is pc ≡ Some i →
    made_from cs is (suc pc) ≡ made_by (made_from cs is pc) i
made_next cs [] pc i e = absurd cc
made_next cs (j ∷ is) zero i e = let same : j ≡ i = cc in ap (made_by cs) same
made_next cs (j ∷ is) (suc pc) i e = made_next (made_by cs j) is pc i e

pub bytes_most : (fs : List Function) (cs : List Callee) (is : List Inst) → all_bytes fs cs ≤ most_bytes fs cs is
bytes_most fs cs [] = omega arith
bytes_most fs cs (i ∷ is) = omega arith

-- What an instruction makes ready has room.
pub most_next : (fs : List Function) (cs : List Callee) (i : Inst) (is : List Inst) →
    all_bytes fs (made_by cs i) ≤ most_bytes fs cs (i ∷ is)
most_next fs cs i is = let b = bytes_most fs (made_by cs i) is in omega (arith, b)

pub fits_from : (fs : List Function) (cs : List Callee) (is : List Inst) (pc : ℕ) → all_bytes fs (made_from cs is pc) ≤ most_bytes fs cs is
fits_from fs cs is zero = bytes_most fs cs is
fits_from fs cs [] (suc pc) = omega arith
fits_from fs cs (i ∷ is) (suc pc) = let r = fits_from fs (made_by cs i) is pc in omega (arith, r)

-- An instruction's temporaries are counted.
pub count_within : (k : Kind) (is : List Inst) (pc : ℕ) (i : Inst) → slice_get is pc ≡ Some i → inst_count k i ≤ count k is
count_within k [] pc i e = absurd cc
count_within k (j ∷ is) zero i e = let same : j ≡ i = cc in let n = ap (inst_count k) same in omega (arith, n)
count_within k (j ∷ is) (suc pc) i e = let r = count_within k is pc i e in omega (arith, r)

-- ---- the frame

pub whole_grows : (n : ℕ) → n ≤ whole n
whole_grows n = omega arith

pub record Within (fs : List Function) (f : Function) (r : Room) : Type 0 where
  pub variables : end_of 32 f.variables ≤ r.size
  pub bigs : r.bigs + 8 * count Big f.code ≤ r.size
  pub ints : r.ints + 4 * count Int f.code ≤ r.size
  pub bytes : r.bytes + count Byte f.code ≤ r.size
  pub made : r.made + 4 ≤ r.size
  pub arguments : r.arguments + most_bytes fs [] f.code ≤ r.size
  pub first : 36 + most_bytes fs [] f.code ≤ r.size

within : (start bigs ints bytes arguments : ℕ) → start + 8 * bigs + 4 * ints + 4 + arguments + bytes
    ≤ whole (start + 8 * bigs + 4 * ints + 4 + arguments + bytes)
within start bigs ints bytes arguments = whole_grows (start + 8 * bigs + 4 * ints + 4 + arguments + bytes)

-- Each region ends within the frame.
pub room_within : (fs : List Function) (f : Function) → Within fs f (room_of fs f)
room_within fs f =
    let s = whole_grows (end_of 32 f.variables) in
    let e = end_grows 32 f.variables in
    let w = within (whole (end_of 32 f.variables)) (count Big f.code) (count Int f.code) (count Byte f.code) (most_bytes fs [] f.code) in
    record {
      variables = omega (arith, s, w);
      bigs = omega (arith, w);
      ints = omega (arith, w);
      bytes = omega (arith, w);
      made = omega (arith, w);
      arguments = omega (arith, w);
      first = omega (arith, s, e, w);
    }

pub most_small : (fs : List Function) (f : Function) → SmallFrame fs f → 36 + most_bytes fs [] f.code ≤ frame_limit
most_small fs f h = let w = (room_within fs f).first in omega (arith, w, h)

-- ---- callees

pub callee_most : (fs : List Function) (cs : List Callee) (is : List Inst) → most_callee fs is ≤ most_bytes fs cs is
callee_most fs cs [] = omega arith
callee_most fs cs (i ∷ is) =
    let r = callee_most fs (made_by cs i) is in
    let n = most_next fs cs i is in
    let b = one fs cs i in
    omega (arith, r, n, b)
  where
    one : (fs : List Function) (cs : List Callee) (i : Inst) → callee_bytes fs i ≤ all_bytes fs (made_by cs i)
    one fs cs (Begin f) = omega arith
    one fs cs (Format ps) = omega arith
    one fs cs i = omega arith

pub printed_most : (fs : List Function) (cs : List Callee) (is : List Inst) → most_printed is ≤ 36 + most_bytes fs cs is
printed_most fs cs [] = omega arith
printed_most fs cs (i ∷ is) =
    let r = printed_most fs (made_by cs i) is in
    let n = most_next fs cs i is in
    let b = one fs cs i in
    omega (arith, r, n, b)
  where
    one : (fs : List Function) (cs : List Callee) (i : Inst) → print_bytes i ≤ 36 + all_bytes fs (made_by cs i)
    one fs cs (Format ps) = omega arith
    one fs cs i = omega arith

pub zeros_small : (all fs : List Function) → ((n : ℕ) (f : Function) → slice_get fs n ≡ Some f → SmallFrame all f) →
    zeros_bytes all fs ≤ frame_limit
zeros_small all [] h = omega arith
zeros_small all (f ∷ fs) h =
    let a = callee_most all [] f.code in
    let b = most_small all f (h 0 f refl) in
    let r = zeros_small all fs (λ n g e. h (suc n) g e) in
    omega (arith, a, b, r)

pub printed_small : (all fs : List Function) → ((n : ℕ) (f : Function) → slice_get fs n ≡ Some f → SmallFrame all f) →
    most_of_all fs ≤ frame_limit
printed_small all [] h = omega arith
printed_small all (f ∷ fs) h =
    let a = printed_most all [] f.code in
    let b = most_small all f (h 0 f refl) in
    let r = printed_small all fs (λ n g e. h (suc n) g e) in
    omega (arith, a, b, r)

-- The parameters of a function of the code.
pub parameters_some : (fs : List SlotFn) (k : ℕ) (f : SlotFn) → slice_get fs k ≡ Some f →
    parameters (map view_function fs) (Calls k) ≡ take f.parameters f.variables.items
parameters_some fs k f e = ap parameters_of (slice_get-map view_function fs k ∙ ap (option_map view_function) e)

pub parameters_none : (fs : List SlotFn) (k : ℕ) → slice_get fs k ≡ None → parameters (map view_function fs) (Calls k) ≡ []
parameters_none fs k e = ap parameters_of (slice_get-map view_function fs k ∙ ap (option_map view_function) e)
