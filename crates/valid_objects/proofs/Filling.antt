-- The items' numbers fit their fields: texts of formats are strings, and the data are small.
use Rattle.std.proofs.Common.{◌≡◌, ℕ, zero, suc, ℤ, pos, ◌+◌, ◌*◌, ◌<◌, ◌≤◌, Bool, true, false, List, [], ◌∷◌, ◌++◌, length, Option, Some, None}
use Rattle.std.proofs.Common.{refl, ap, arith}
use Rattle.std.specs.Prelude.{slice_get, encode_utf8_all}
use Rattle.std.proofs.lemmas.Bool.{lt-ltb}
use Rattle.std.proofs.lemmas.List.{length-append}
use Rattle.std.proofs.lemmas.Str.{length-encode, len_utf8_bounds}
use lib.Utf8.{encode}
use Rattle.limbo_values.specs.Texts.{longest}
use Rattle.limbo_values.specs.declared.number.Kind.{Kind}
use Rattle.limbo_values.specs.declared.number.Kind.TheVariants as kind
use Rattle.limbo_typed.specs.declared.operation.Operation.{Operation}
use Rattle.limbo_typed.specs.declared.operation.Operation.TheVariants as operation
use Rattle.slot_code.specs.Code.{Operand, In, Number, Inst, Move, Hand, Alter, Operate, Branch, Jump, Skip, Back, Begin, Call, Format, Print}
use Rattle.slot_code.specs.Code.{Return, Leave, Function, GlobalVariable}
use Rattle.dis_file.specs.declared.object.Item.{Item}
use Rattle.dis_format.specs.Operands.{four_bytes, fits_form}
use Rattle.dis_format.specs.Parts.{item_parts}
use Rattle.dis_objects.specs.Frames.{Callee, Calls, Prints, made_by, without_first, argument_bytes}
use Rattle.dis_objects.specs.Code.{Datum, Text, Word, Long, data_bytes, number_datum, unless_fits, source_data, middle_data, operation_data}
use Rattle.dis_objects.specs.Code.{bytes_data, callee_text, passing_data, data_of, insts_data, format_text, fits_source, fits_middle, spot_kind}
use Rattle.dis_objects.specs.Code.{operand_kind, global_bytes, globals_bytes}
use Rattle.dis_objects.specs.Objects.{function_data, functions_data, string_item, word_item, long_item, items_from, global_items, globals_items}
use Rattle.part_code.specs.Held.{IsHeld, AllHeld}
use Rattle.valid_objects.proofs.Spelling.{AllCan, Each, each_both, natural_can}

-- ---- texts of data

abbrev pub Few : List Datum → Type 0
Few [] = Unit {0}
Few (Text t ∷ ds) = (length t ≤ longest) × Few ds
Few (d ∷ ds) = Few ds

few_both : (a b : List Datum) → Few a → Few b → Few (a ++ b)
few_both [] b x y = y
few_both (Text t ∷ a) b x y = (x.0, few_both a b x.1 y)
few_both (Word z ∷ a) b x y = few_both a b x y
few_both (Long z ∷ a) b x y = few_both a b x y

number_few : (b : Bool) (k : Kind) (z : ℤ) → Few (unless_fits b (number_datum k z))
number_few true k z = tt
number_few false kind.Byte z = tt
number_few false kind.Int z = tt
number_few false kind.Big z = tt

source_few : (k : Kind) (x : Operand) → Few (source_data k x)
source_few k (In s) = tt
source_few k (Number z) = number_few (fits_source z) k z

middle_few : (k : Kind) (x : Operand) → Few (middle_data k x)
middle_few k (In s) = tt
middle_few k (Number z) = number_few (fits_middle z) k z

both_few : (j k : Kind) (x y : Operand) → Few (source_data j x ++ middle_data k y)
both_few j k x y = few_both (source_data j x) (middle_data k y) (source_few j x) (middle_few k y)

operation_few : (o : Operation) (x y : Operand) → Few (operation_data o x y)
operation_few (operation.Arithmetic u k) x y = both_few k k y x
operation_few (operation.Shift u k) x y = both_few kind.Int k y x
operation_few (operation.Compare u k) x y = both_few k k x y
operation_few o x y = tt

bytes_few : (n : ℕ) → Few (bytes_data n)
bytes_few n = number_few (fits_middle (pos n)) kind.Int (pos n)

-- Formats of prints that are being made ready are strings.
abbrev Strings : List Callee → Type 0
Strings [] = Unit {0}
Strings (Calls f ∷ cs) = Strings cs
Strings (Prints ps ∷ cs) = (length (format_text ps) ≤ longest) × Strings cs

rest_strings : (cs : List Callee) → Strings cs → Strings (without_first cs)
rest_strings [] h = tt
rest_strings (Calls f ∷ cs) h = h
rest_strings (Prints ps ∷ cs) h = h.1

next_strings : (cs : List Callee) (i : Inst) → Strings cs → IsHeld i → Strings (made_by cs i)
next_strings cs (Begin f) h g = h
next_strings cs (Format ps) h g = (g, h)
next_strings cs (Call k f n into) h g = rest_strings cs h
next_strings cs (Print n into) h g = rest_strings cs h
next_strings cs (Move into x) h g = h
next_strings cs (Hand into x) h g = h
next_strings cs (Alter o into x) h g = h
next_strings cs (Operate o into x y) h g = h
next_strings cs (Branch k c x y n) h g = h
next_strings cs (Jump n) h g = h
next_strings cs (Skip n) h g = h
next_strings cs (Back n) h g = h
next_strings cs (Return x) h g = h
next_strings cs Leave h g = h

passing_few : (fs : List Function) (cs : List Callee) → Strings cs → Few (passing_data fs cs)
passing_few fs [] h = tt
passing_few fs (Calls f ∷ cs) h = bytes_few (argument_bytes fs (Calls f))
passing_few fs (Prints ps ∷ cs) h = (h.0, bytes_few (argument_bytes fs (Prints ps)))

inst_few : (fs : List Function) (k : Kind) (cs : List Callee) (i : Inst) → Strings cs → Few (data_of fs k cs i)
inst_few fs k cs (Move into x) h = source_few (spot_kind into) x
inst_few fs k cs (Hand into x) h = source_few (spot_kind into) x
inst_few fs k cs (Alter o into x) h = source_few (operand_kind o) x
inst_few fs k cs (Operate o into x y) h = operation_few o x y
inst_few fs k cs (Branch j c x y n) h = both_few j j x y
inst_few fs k cs (Begin f) h = bytes_few (argument_bytes fs (Calls f))
inst_few fs k cs (Format ps) h = bytes_few (argument_bytes fs (Prints ps))
inst_few fs k cs (Call j f n into) h = passing_few fs cs h
inst_few fs k cs (Print n into) h = passing_few fs cs h
inst_few fs k cs (Return x) h = source_few k x
inst_few fs k cs (Jump n) h = tt
inst_few fs k cs (Skip n) h = tt
inst_few fs k cs (Back n) h = tt
inst_few fs k cs Leave h = tt

insts_few : (fs : List Function) (k : Kind) (cs : List Callee) (is : List Inst) → Strings cs → AllHeld is → Few (insts_data fs k cs is)
insts_few fs k cs [] h g = tt
insts_few fs k cs (i ∷ is) h g =
    few_both (data_of fs k cs i) (insts_data fs k (made_by cs i) is) (inst_few fs k cs i h)
    (insts_few fs k (made_by cs i) is (next_strings cs i h g.0) g.1)

pub functions_few : (all fs : List Function) → ((n : ℕ) (f : Function) → slice_get fs n ≡ Some f → AllHeld f.code)
    → Few (functions_data all fs)
functions_few all [] h = tt
functions_few all (f ∷ fs) h =
    few_both (function_data all f) (functions_data all fs) (insts_few all f.answer [] f.code tt (h 0 f refl))
    (functions_few all fs (λ n g e. h (suc n) g e))

-- ---- items

abbrev pub HoldsItem : Item → Type 0
HoldsItem i = AllCan (item_parts i)

spelled_few : (t : List ℕ) → length (encode_utf8_all t) ≤ 4 * length t
spelled_few [] = omega arith
spelled_few (c ∷ cs) =
    let r = spelled_few cs in
    let a = length-append (encode c) (encode_utf8_all cs) in
    let e = length-encode c in
    let b = (len_utf8_bounds c).1 in
    omega (arith, r, a, e, b)

pub string_can : (at : ℕ) (t : List ℕ) → at < 536870912 → length t ≤ longest → HoldsItem (string_item at t)
unfolding item_parts
string_can at t l h =
    let s = spelled_few t in
    ((omega arith, lt-ltb (length (encode_utf8_all t)) 536870912 (omega (arith, s, h))), (natural_can at l, (tt, tt)))

word_can : (at : ℕ) (z : ℤ) → at < 536870912 → HoldsItem (word_item at z)
unfolding item_parts
word_can at z l = ((omega arith, refl), (natural_can at l, (tt, tt)))

long_can : (at : ℕ) (z : ℤ) → at < 536870912 → HoldsItem (long_item at z)
unfolding item_parts
long_can at z l = ((omega arith, refl), (natural_can at l, (tt, tt)))

pub data_can : (at : ℕ) (ds : List Datum) → Few ds → at + data_bytes ds < 536870912 → Each HoldsItem (items_from at ds)
data_can at [] h l = tt
data_can at (Text t ∷ ds) h l = (string_can at t (omega (arith, l)) h.0, data_can (at + 4) ds h.1 (omega (arith, l)))
data_can at (Word z ∷ ds) h l = (word_can at z (omega (arith, l)), data_can (at + 4) ds h (omega (arith, l)))
data_can at (Long z ∷ ds) h l = (long_can at z (omega (arith, l)), data_can (at + 8) ds h (omega (arith, l)))

pub globals_can : (at : ℕ) (gs : List GlobalVariable) → at + globals_bytes gs < 536870912 → Each HoldsItem (globals_items at gs)
globals_can at [] l = tt
globals_can at (g ∷ gs) l = each_both HoldsItem (global_items at g) (globals_items (at + global_bytes g.kind) gs) (by g.kind g.initial l)
    (globals_can (at + global_bytes g.kind) gs (omega (arith, l)))
  where
    by : (k : Option Kind) (z : ℤ) → at + (global_bytes k + globals_bytes gs) < 536870912
        → Each HoldsItem (global_items at (record { kind = k; initial = z }))
    by None z l = tt
    by (Some kind.Byte) z l = (word_can at z (omega (arith, l)), tt)
    by (Some kind.Int) z l = (word_can at z (omega (arith, l)), tt)
    by (Some kind.Big) z l = (long_can at z (omega (arith, l)), tt)
