-- How much data there are.
use Rattle.std.proofs.Common.{◌≡◌, ℕ, suc, ℤ, pos, ◌*◌, ◌≤◌, Bool, true, false, List, [], ◌∷◌, ◌++◌, length, Some, refl, arith}
use Rattle.std.specs.Prelude.{slice_get}
use Rattle.limbo_values.specs.declared.number.Kind.{Kind}
use Rattle.limbo_values.specs.declared.number.Kind.TheVariants.{Byte, Int, Big}
use Rattle.limbo_typed.specs.declared.operation.Operation.{Operation}
use Rattle.limbo_typed.specs.declared.operation.Operation.TheVariants as operation
use Rattle.slot_code.specs.Code.{Operand, In, Number, Inst, Function, Move, Hand, Alter, Operate, Branch, Jump, Skip, Back, Begin, Call}
use Rattle.slot_code.specs.Code.{Format, Print, Return, Leave}
use Rattle.dis_objects.specs.Frames.{Callee, Calls, Prints, made_by, argument_bytes}
use Rattle.dis_objects.specs.Code.{data_bytes, number_datum, unless_fits, fits_source, fits_middle, source_data, middle_data}
use Rattle.dis_objects.specs.Code.{operation_data, bytes_data, callee_text, passing_data, data_of, insts_data, operand_kind, spot_kind}
use Rattle.dis_objects.specs.Objects.{function_data, functions_data}
use Rattle.dis_objects.specs.Sites.{functions_size}
use Rattle.dis_objects.proofs.Growing.{bytes_append}
use Rattle.dis_generation.proofs.Emission.{AllSized, one_each}

number_few : (b : Bool) (k : Kind) (z : ℤ) → data_bytes (unless_fits b (number_datum k z)) ≤ 8
number_few true k z = omega arith
number_few false Byte z = omega arith
number_few false Int z = omega arith
number_few false Big z = omega arith

source_few : (k : Kind) (x : Operand) → data_bytes (source_data k x) ≤ 8
source_few k (In s) = omega arith
source_few k (Number z) = number_few (fits_source z) k z

middle_few : (k : Kind) (x : Operand) → data_bytes (middle_data k x) ≤ 8
middle_few k (In s) = omega arith
middle_few k (Number z) = number_few (fits_middle z) k z

both_few : (j k : Kind) (x y : Operand) → data_bytes (source_data j x ++ middle_data k y) ≤ 16
both_few j k x y = let a = source_few j x in let b = middle_few k y in let e = bytes_append (source_data j x) (middle_data k y) in
    omega (arith, a, b, e)

operation_few : (o : Operation) (x y : Operand) → data_bytes (operation_data o x y) ≤ 16
operation_few (operation.Arithmetic u k) x y = both_few k k y x
operation_few (operation.Shift u k) x y = both_few Int k y x
operation_few (operation.Compare u k) x y = both_few k k x y
operation_few o x y = omega arith

moved_few : (n : ℕ) → data_bytes (bytes_data n) ≤ 8
moved_few n = number_few (fits_middle (pos n)) Int (pos n)

callee_few : (c : Callee) → data_bytes (callee_text c) ≤ 4
callee_few (Calls f) = omega arith
callee_few (Prints ps) = omega arith

passing_few : (fs : List Function) (cs : List Callee) → data_bytes (passing_data fs cs) ≤ 16
passing_few fs [] = omega arith
passing_few fs (c ∷ cs) =
    let a = callee_few c in
    let b = moved_few (argument_bytes fs c) in
    let e = bytes_append (callee_text c) (bytes_data (argument_bytes fs c)) in
    omega (arith, a, b, e)

data_some : (fs : List Function) (k : Kind) (cs : List Callee) (i : Inst) → data_bytes (data_of fs k cs i) ≤ 16
data_some fs k cs (Move into x) = let a = source_few (spot_kind into) x in omega (arith, a)
data_some fs k cs (Hand into x) = let a = source_few (spot_kind into) x in omega (arith, a)
data_some fs k cs (Alter o into x) = let a = source_few (operand_kind o) x in omega (arith, a)
data_some fs k cs (Operate o into x y) = operation_few o x y
data_some fs k cs (Branch j o x y n) = both_few j j x y
data_some fs k cs (Jump n) = omega arith
data_some fs k cs (Skip n) = omega arith
data_some fs k cs (Back n) = omega arith
data_some fs k cs (Begin f) = let a = moved_few (argument_bytes fs (Calls f)) in omega (arith, a)
data_some fs k cs (Call j f n into) = passing_few fs cs
data_some fs k cs (Format ps) = let a = moved_few (argument_bytes fs (Prints ps)) in omega (arith, a)
data_some fs k cs (Print n into) = passing_few fs cs
data_some fs k cs (Return x) = let a = source_few k x in omega (arith, a)
data_some fs k cs Leave = omega arith

data_few : (fs : List Function) (k : Kind) (cs : List Callee) (is : List Inst) → data_bytes (insts_data fs k cs is) ≤ 16 * length is
data_few fs k cs [] = omega arith
data_few fs k cs (i ∷ is) =
    let r = data_few fs k (made_by cs i) is in
    let d = data_some fs k cs i in
    let e = bytes_append (data_of fs k cs i) (insts_data fs k (made_by cs i) is) in
    omega (arith, r, d, e)

-- Sixteen bytes for each instruction of the object, at most.
pub functions_data_few : (all fs : List Function) → ((n : ℕ) (f : Function) → slice_get fs n ≡ Some f → AllSized [] f.code) →
    data_bytes (functions_data all fs) ≤ 16 * functions_size fs
functions_data_few all [] h = omega arith
functions_data_few all (f ∷ fs) h =
    let r = functions_data_few all fs (λ n g e. h (suc n) g e) in
    let d = data_few all f.answer [] f.code in
    let o = one_each [] f.code (h 0 f refl) in
    let e = bytes_append (function_data all f) (functions_data all fs) in
    omega (arith, r, d, o, e)
