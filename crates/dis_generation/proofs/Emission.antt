-- Tables of places, sizes of proper code, and what is small where a function stands.
use Rattle.std.proofs.Common.{◌≡◌, ℕ, zero, suc, ◌+◌, ◌*◌, ◌<◌, ◌≤◌, List, [], ◌∷◌, length, take, Some, get_or, refl, ap, ◌∙◌, arith}
use Rattle.std.proofs.Common.{length-append}
use Rattle.std.specs.Prelude.{slice_get}
use Rattle.dis_isa.specs.declared.inst.Operand as isa
use Rattle.limbo_values.specs.declared.number.Kind.{Kind}
use Rattle.limbo_values.specs.declared.number.Kind.TheVariants.{Byte, Int, Big}
use Rattle.limbo_typed.specs.declared.operation.Operation.{Operation}
use Rattle.limbo_typed.specs.declared.operation.Operation.TheVariants as operation
use Rattle.limbo_typed.specs.declared.print.Piece.{Piece}
use Rattle.slot_code.specs.Code.{Operand, Inst, Function, Module, Move, Hand, Alter, Operate, Branch, Jump, Skip, Back, Begin, Call, Format}
use Rattle.slot_code.specs.Code.{Print, Return, Leave}
use Rattle.dis_objects.specs.Frames.{Callee, Calls, Prints, made_by, made_from, without_first}
use Rattle.dis_objects.specs.Code.{Context, size, sizes, start, altering, altering_size, operating, operating_size, calling, printing}
use Rattle.dis_objects.specs.Code.{inst_code, insts_code, data_of, data_bytes}
use Rattle.dis_objects.specs.Objects.{size_before}
use Rattle.dis_objects.specs.Proper.{IsOfOne, IsOfTwo, ProperInst, ProperFunction}
use Rattle.dis_objects.specs.Sites.{functions_size, entries_from, places_from}

-- ---- tables

pub places_long : (at : ℕ) (is : List Inst) → length (places_from at is) ≡ suc (length is)
places_long at [] = refl
places_long at (i ∷ is) = let r = places_long (at + size i) is in omega (arith, r)

pub places_at : (at : ℕ) (is : List Inst) (k d : ℕ) → k ≤ length is → get_or (places_from at is) k d ≡ at + start is k
places_at at [] zero d h = omega arith
places_at at [] (suc k) d h = absurd (omega (arith, h))
places_at at (i ∷ is) zero d h = omega arith
places_at at (i ∷ is) (suc k) d h =
    let le : k ≤ length is = omega (arith, h) in
    let r = places_at (at + size i) is k d le in
    let e : at + size i + sizes (take k is) ≡ at + (size i + sizes (take k is)) = omega arith in
    r ∙ e

pub entries_long : (at : ℕ) (fs : List Function) → length (entries_from at fs) ≡ length fs
entries_long at [] = refl
entries_long at (f ∷ fs) = let r = entries_long (at + sizes f.code) fs in omega (arith, r)

pub entries_at : (at : ℕ) (fs : List Function) (k d : ℕ) → k < length fs → get_or (entries_from at fs) k d ≡ at + size_before fs k
entries_at at [] k d h = absurd (omega (arith, h))
entries_at at (f ∷ fs) zero d h = omega arith
entries_at at (f ∷ fs) (suc k) d h =
    let lt : k < length fs = omega (arith, h) in
    let r = entries_at (at + sizes f.code) fs k d lt in
    let e : at + sizes f.code + size_before fs k ≡ at + (sizes f.code + size_before fs k) = omega arith in
    r ∙ e

-- ---- bounds

pub sizes_take : (k : ℕ) (is : List Inst) → sizes (take k is) ≤ sizes is
sizes_take zero is = omega arith
sizes_take (suc k) [] = omega arith
sizes_take (suc k) (i ∷ is) = let r = sizes_take k is in omega (arith, r)

pub before_whole : (fs : List Function) (k : ℕ) → size_before fs k ≤ functions_size fs
before_whole fs zero = omega arith
before_whole [] (suc k) = omega arith
before_whole (f ∷ fs) (suc k) = let r = before_whole fs k in omega (arith, r)

pub function_within : (fs : List Function) (k : ℕ) (f : Function) → slice_get fs k ≡ Some f →
    size_before fs k + sizes f.code ≤ functions_size fs
function_within [] k f e = absurd cc
function_within (g ∷ fs) zero f e = let same : g ≡ f = cc in let s = ap (λ f. sizes f.code) same in omega (arith, s)
function_within (g ∷ fs) (suc k) f e = let r = function_within fs k f e in omega (arith, r)

-- ---- proper instructions, as far as their sizes go

abbrev pub Sized : List Callee → Inst → Type 0
Sized cs (Alter o into x) = IsOfOne o
Sized cs (Operate o into x y) = IsOfTwo o
Sized cs (Call k f n into) = (others : List Callee) × (cs ≡ Calls f ∷ others)
Sized cs (Print n into) = (ps : List Piece) × (others : List Callee) × (cs ≡ Prints ps ∷ others)
Sized cs i = Unit {0}

pub proper_sized : (m : Module) (f : Function) (cs : List Callee) (pc : ℕ) (i : Inst) → ProperInst m f cs pc i → Sized cs i
proper_sized m f cs pc (Move into x) h = tt
proper_sized m f cs pc (Hand into x) h = tt
proper_sized m f cs pc (Alter o into x) h = h.0
proper_sized m f cs pc (Operate o into x y) h = h.0
proper_sized m f cs pc (Branch k c x y n) h = tt
proper_sized m f cs pc (Jump n) h = tt
proper_sized m f cs pc (Skip n) h = tt
proper_sized m f cs pc (Back n) h = tt
proper_sized m f cs pc (Begin g) h = tt
proper_sized m f cs pc (Call k g n into) h = (h.0.others, h.0.last)
proper_sized m f cs pc (Format ps) h = tt
proper_sized m f cs pc (Print n into) h = (h.0.pieces, h.0.others, h.0.last)
proper_sized m f cs pc (Return x) h = tt
proper_sized m f cs pc Leave h = tt

-- Each instruction of a code that is walked through behind these.
abbrev pub AllSized : List Callee → List Inst → Type 0
AllSized cs is = (pc : ℕ) (i : Inst) → slice_get is pc ≡ Some i → Sized (made_from cs is pc) i

pub function_sized : (m : Module) (f : Function) → ProperFunction m f → AllSized [] f.code
function_sized m f h = λ pc i e. proper_sized m f (made_from [] f.code pc) pc i (h.each pc i e)

converted_some : (from to : Kind) → (0 < altering_size (operation.Convert from to)) × (altering_size (operation.Convert from to) ≤ 2)
converted_some Byte Byte = (omega arith, omega arith)
converted_some Byte Int = (omega arith, omega arith)
converted_some Byte Big = (omega arith, omega arith)
converted_some Int Byte = (omega arith, omega arith)
converted_some Int Int = (omega arith, omega arith)
converted_some Int Big = (omega arith, omega arith)
converted_some Big Byte = (omega arith, omega arith)
converted_some Big Int = (omega arith, omega arith)
converted_some Big Big = (omega arith, omega arith)

altering_some : (o : Operation) → IsOfOne o → (0 < altering_size o) × (altering_size o ≤ 4)
altering_some (operation.Alter u k) h = (omega arith, omega arith)
altering_some operation.Not h = (omega arith, omega arith)
altering_some (operation.Convert from to) h = let c = converted_some from to in (c.0, omega (arith, c.1))
altering_some o h = absurd h

operating_some : (o : Operation) → IsOfTwo o → (0 < operating_size o) × (operating_size o ≤ 4)
operating_some (operation.Arithmetic u k) h = (omega arith, omega arith)
operating_some (operation.Shift u k) h = (omega arith, omega arith)
operating_some (operation.Compare u k) h = (omega arith, omega arith)
operating_some o h = absurd h

pub some_size : (cs : List Callee) (i : Inst) → Sized cs i → 0 < size i
some_size cs (Move into x) h = omega arith
some_size cs (Hand into x) h = omega arith
some_size cs (Alter o into x) h = (altering_some o h).0
some_size cs (Operate o into x y) h = (operating_some o h).0
some_size cs (Branch k c x y n) h = omega arith
some_size cs (Jump n) h = omega arith
some_size cs (Skip n) h = omega arith
some_size cs (Back n) h = omega arith
some_size cs (Begin g) h = omega arith
some_size cs (Call k g n into) h = omega arith
some_size cs (Format ps) h = omega arith
some_size cs (Print n into) h = omega arith
some_size cs (Return x) h = omega arith
some_size cs Leave h = omega arith

-- The rest of a code that is walked through.
pub rest_sized : (cs : List Callee) (i : Inst) (is : List Inst) → AllSized cs (i ∷ is) → AllSized (made_by cs i) is
rest_sized cs i is h = λ pc j e. h (suc pc) j e

pub one_each : (cs : List Callee) (is : List Inst) → AllSized cs is → length is ≤ sizes is
one_each cs [] h = omega arith
one_each cs (i ∷ is) h =
    let r = one_each (made_by cs i) is (rest_sized cs i is h) in
    let s = some_size cs i (h 0 i refl) in
    omega (arith, r, s)

-- ---- how long the code is

converted_length : (here : ℕ) (from to : Kind) (s d : isa.Operand) →
    length (altering here (operation.Convert from to) s d) ≡ altering_size (operation.Convert from to)
converted_length here Byte Byte s d = refl
converted_length here Byte Int s d = refl
converted_length here Byte Big s d = refl
converted_length here Int Byte s d = refl
converted_length here Int Int s d = refl
converted_length here Int Big s d = refl
converted_length here Big Byte s d = refl
converted_length here Big Int s d = refl
converted_length here Big Big s d = refl

altering_length : (here : ℕ) (o : Operation) (s d : isa.Operand) → IsOfOne o → length (altering here o s d) ≡ altering_size o
altering_length here (operation.Alter u k) s d h = refl
altering_length here operation.Not s d h = refl
altering_length here (operation.Convert from to) s d h = converted_length here from to s d
altering_length here o s d h = absurd h

operating_length : (c : Context) (here at : ℕ) (o : Operation) (x y : Operand) (d : isa.Operand) → IsOfTwo o →
    length (operating c here at o x y d) ≡ operating_size o
operating_length c here at (operation.Arithmetic u k) x y d h = refl
operating_length c here at (operation.Shift u k) x y d h = refl
operating_length c here at (operation.Compare u k) x y d h = refl
operating_length c here at o x y d h = absurd h

pub inst_length : (c : Context) (pc at : ℕ) (cs : List Callee) (i : Inst) → Sized cs i → length (inst_code c pc at cs i) ≡ size i
inst_length c pc at cs (Move into x) h = refl
inst_length c pc at cs (Hand into x) h = refl
inst_length c pc at cs (Alter o into x) h = altering_length _ o _ _ h
inst_length c pc at cs (Operate o into x y) h = operating_length c _ at o x y _ h
inst_length c pc at cs (Branch k o x y n) h = refl
inst_length c pc at cs (Jump n) h = refl
inst_length c pc at cs (Skip n) h = refl
inst_length c pc at cs (Back n) h = refl
inst_length c pc at cs (Begin g) h = refl
inst_length c pc at cs (Call k g n into) h = ap (λ cs. length (calling c at g into cs)) h.1
inst_length c pc at cs (Format ps) h = refl
inst_length c pc at cs (Print n into) h = ap (λ cs. length (printing c at into cs)) h.2
inst_length c pc at cs (Return x) h = refl
inst_length c pc at cs Leave h = refl

pub insts_length : (c : Context) (pc at : ℕ) (cs : List Callee) (is : List Inst) → AllSized cs is →
    length (insts_code c pc at cs is) ≡ sizes is
insts_length c pc at cs [] h = refl
insts_length c pc at cs (i ∷ is) h =
    let next = at + data_bytes (data_of c.functions c.function.answer cs i) in
    let one = inst_length c pc at cs i (h 0 i refl) in
    let r = insts_length c (suc pc) next (made_by cs i) is (rest_sized cs i is h) in
    let a = length-append (inst_code c pc at cs i) (insts_code c (suc pc) next (made_by cs i) is) in
    omega (arith, one, r, a)

-- ---- four for each instruction: a print has five, but its format one

abbrev prints : List Callee → ℕ
prints [] = 0
prints (Calls f ∷ cs) = prints cs
prints (Prints ps ∷ cs) = suc (prints cs)

small_step : (cs : List Callee) (i : Inst) → Sized cs i → size i + prints (made_by cs i) ≤ 4 + prints cs
small_step cs (Move into x) h = omega arith
small_step cs (Hand into x) h = omega arith
small_step cs (Alter o into x) h = let s = (altering_some o h).1 in omega (arith, s)
small_step cs (Operate o into x y) h = let s = (operating_some o h).1 in omega (arith, s)
small_step cs (Branch k c x y n) h = omega arith
small_step cs (Jump n) h = omega arith
small_step cs (Skip n) h = omega arith
small_step cs (Back n) h = omega arith
small_step cs (Begin g) h = omega arith
small_step cs (Call k g n into) h = let a = ap (λ cs. prints (without_first cs)) h.1 in let b = ap prints h.1 in omega (arith, a, b)
small_step cs (Format ps) h = omega arith
small_step cs (Print n into) h = let a = ap (λ cs. prints (without_first cs)) h.2 in let b = ap prints h.2 in omega (arith, a, b)
small_step cs (Return x) h = omega arith
small_step cs Leave h = omega arith

sizes_few : (cs : List Callee) (is : List Inst) → AllSized cs is → sizes is ≤ 4 * length is + prints cs
sizes_few cs [] h = omega arith
sizes_few cs (i ∷ is) h =
    let r = sizes_few (made_by cs i) is (rest_sized cs i is h) in
    let s = small_step cs i (h 0 i refl) in
    omega (arith, r, s)

pub code_few : (is : List Inst) → AllSized [] is → sizes is ≤ 4 * length is
code_few is h = let r = sizes_few [] is h in omega (arith, r)
