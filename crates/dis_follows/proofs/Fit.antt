-- The numbers among a module's data fit their words.
use Rattle.std.proofs.Common.{◌≡◌, ℕ, suc, ◌≤◌, pos, ℤ, Bool, true, false, List, [], ◌∷◌, ◌++◌, length, Some, refl, subst, arith}
use Rattle.std.specs.Prelude.{slice_get}
use Rattle.std.proofs.lemmas.Int.{ints}
use Rattle.limbo_values.specs.declared.number.Kind.{Kind}
use Rattle.limbo_values.specs.declared.number.Kind.TheVariants.{Byte, Int, Big}
use Rattle.limbo_values.specs.Numbers.{InRange}
use Rattle.limbo_typed.specs.declared.operation.Operation.{Operation}
use Rattle.limbo_typed.specs.declared.operation.Operation.TheVariants as operation
use Rattle.slot_code.specs.Code.{Operand, In, Number, Inst, Move, Hand, Alter, Operate, Branch, Jump, Skip, Back, Begin, Call, Format}
use Rattle.slot_code.specs.Code.{Print, Return, Leave, Function, Module}
use Rattle.dis_objects.specs.Words.{frame_limit, SmallFrame, AllSmallFrames}
use Rattle.dis_objects.specs.Frames.{Callee, Calls, Prints, made_at, made_from, made_by, argument_bytes, all_bytes}
use Rattle.dis_objects.specs.Code.{Datum, Text, Word, Long, spot_kind, operand_kind, right_kind, source_data, middle_data, unless_fits}
use Rattle.dis_objects.specs.Code.{number_datum, operation_data, bytes_data, callee_text, passing_data, data_of, insts_data, fits_source}
use Rattle.dis_objects.specs.Code.{fits_middle}
use Rattle.dis_objects.specs.Objects.{function_data, functions_data}
use Rattle.dis_objects.specs.Proper.{IsProper, ProperInst, IsTaken}
use Rattle.dis_follows.proofs.Rooms.{most_least}
use Rattle.dis_follows.proofs.Runs.{made_behind}
use Rattle.dis_follows.proofs.Frames.{get_within}

-- What is known of a datum.
abbrev pub Fits : Datum → Type 0
Fits (Text t) = Unit {0}
Fits (Word z) = InRange Int z
Fits (Long z) = InRange Big z

abbrev pub AllFit : List Datum → Type 0
AllFit [] = Unit {0}
AllFit (d ∷ ds) = Fits d × AllFit ds

both_fit : (a b : List Datum) → AllFit a → AllFit b → AllFit (a ++ b)
both_fit [] b h i = i
both_fit (d ∷ a) b h i = (h.0, both_fit a b h.1 i)

unless_fit : (b : Bool) (d : Datum) → Fits d → AllFit (unless_fits b d)
unless_fit true d h = tt
unless_fit false d h = (h, tt)

number_fits : (k : Kind) (z : ℤ) → InRange k z → Fits (number_datum k z)
number_fits Byte z r = let a = r.above in let b = r.below in record { above = omega (arith, ints, a); below = omega (arith, ints, b) }
number_fits Int z r = r
number_fits Big z r = r

bytes_fit : (n : ℕ) → n ≤ frame_limit → AllFit (bytes_data n)
bytes_fit n l = unless_fit (fits_middle (pos n)) (Word (pos n)) (record { above = omega (arith, ints); below = omega (arith, ints, l) })

module _ (m : Module) (f : Function) where
  source_fits : (k : Kind) (x : Operand) → IsTaken m f k x → AllFit (source_data k x)
  source_fits k (In s) t = tt
  source_fits k (Number z) t = unless_fit (fits_source z) (number_datum k z) (number_fits k z t)

  middle_fits : (k : Kind) (x : Operand) → IsTaken m f k x → AllFit (middle_data k x)
  middle_fits k (In s) t = tt
  middle_fits k (Number z) t = unless_fit (fits_middle z) (number_datum k z) (number_fits k z t)

  operation_fits : (o : Operation) (x y : Operand) → IsTaken m f (operand_kind o) x → IsTaken m f (right_kind o) y
      → AllFit (operation_data o x y)
  operation_fits (operation.Arithmetic o k) x y a b = both_fit (source_data k y) (middle_data k x) (source_fits k y b) (middle_fits k x a)
  operation_fits (operation.Shift s k) x y a b = both_fit (source_data Int y) (middle_data k x) (source_fits Int y b) (middle_fits k x a)
  operation_fits (operation.Compare o k) x y a b = both_fit (source_data k x) (middle_data k y) (source_fits k x a) (middle_fits k y b)
  operation_fits o x y a b = tt

  callee_fits : (c : Callee) (cs : List Callee) → all_bytes m.functions (c ∷ cs) ≤ frame_limit
      → AllFit (bytes_data (argument_bytes m.functions c))
  callee_fits c cs l = bytes_fit (argument_bytes m.functions c) (omega (arith, l))

  text_fits : (c : Callee) → AllFit (callee_text c)
  text_fits (Calls g) = tt
  text_fits (Prints ps) = (tt, tt)

  passing_fits : (cs : List Callee) → all_bytes m.functions cs ≤ frame_limit → AllFit (passing_data m.functions cs)
  passing_fits [] l = tt
  passing_fits (c ∷ cs) l = both_fit (callee_text c) (bytes_data (argument_bytes m.functions c)) (text_fits c) (callee_fits c cs l)

  module _ (small : SmallFrame m.functions f) where
    bounded : (pc : ℕ) → pc ≤ length f.code → all_bytes m.functions (made_from [] f.code pc) ≤ frame_limit
    bounded pc l = let a = most_least m.functions [] f.code pc l in omega (arith, a, small)

    inst_fits : (pc : ℕ) (i : Inst) → slice_get f.code pc ≡ Some i → ProperInst m f (made_at f.code pc) pc i
        → AllFit (data_of m.functions f.answer (made_at f.code pc) i)
    inst_fits pc (Move into x) e h = source_fits (spot_kind into) x h.1
    inst_fits pc (Hand into x) e h = source_fits (spot_kind into) x h.1
    inst_fits pc (Alter o into x) e h = source_fits (operand_kind o) x h.3
    inst_fits pc (Operate o into x y) e h = operation_fits o x y h.3 h.4
    inst_fits pc (Branch j c x y n) e h = both_fit (source_data j x) (middle_data j y) (source_fits j x h.0) (middle_fits j y h.1)
    inst_fits pc (Jump n) e h = tt
    inst_fits pc (Skip n) e h = tt
    inst_fits pc (Back n) e h = tt
    inst_fits pc (Begin g) e h =
        let l = get_within f.code pc (Begin g) e in
        let b = bounded (suc pc) (omega (arith, l)) in
        callee_fits (Calls g) (made_at f.code pc)
        (subst (λ cs. all_bytes m.functions cs ≤ frame_limit) (made_behind [] f.code pc (Begin g) e) b)
    inst_fits pc (Format ps) e h =
        let l = get_within f.code pc (Format ps) e in
        let b = bounded (suc pc) (omega (arith, l)) in
        callee_fits (Prints ps) (made_at f.code pc)
        (subst (λ cs. all_bytes m.functions cs ≤ frame_limit) (made_behind [] f.code pc (Format ps) e) b)
    inst_fits pc (Call j g n into) e h = let l = get_within f.code pc (Call j g n into) e in
        passing_fits (made_at f.code pc) (bounded pc (omega (arith, l)))
    inst_fits pc (Print n into) e h = let l = get_within f.code pc (Print n into) e in
        passing_fits (made_at f.code pc) (bounded pc (omega (arith, l)))
    inst_fits pc (Return x) e h = source_fits f.answer x h.0
    inst_fits pc Leave e h = tt

code_fits : (fs : List Function) (k : Kind) (cs : List Callee) (is : List Inst)
    → ((pc : ℕ) (i : Inst) → slice_get is pc ≡ Some i → AllFit (data_of fs k (made_from cs is pc) i)) → AllFit (insts_data fs k cs is)
code_fits fs k cs [] h = tt
code_fits fs k cs (i ∷ is) h =
    both_fit (data_of fs k cs i) (insts_data fs k (made_by cs i) is) (h 0 i refl)
    (code_fits fs k (made_by cs i) is (λ pc j e. h (suc pc) j e))

functions_fit : (all fs : List Function) → ((n : ℕ) (f : Function) → slice_get fs n ≡ Some f → AllFit (function_data all f))
    → AllFit (functions_data all fs)
functions_fit all [] h = tt
functions_fit all (f ∷ fs) h = both_fit (function_data all f) (functions_data all fs) (h 0 f refl)
    (functions_fit all fs (λ n g e. h (suc n) g e))

pub data_fit : (m : Module) → IsProper m → AllSmallFrames m.functions → AllFit (functions_data m.functions m.functions)
data_fit m proper small =
    functions_fit m.functions m.functions
    (λ n f e. code_fits m.functions f.answer [] f.code
    (λ pc i h. inst_fits m f (small n f e) pc i h ((proper.functions n f e).each pc i h)))
