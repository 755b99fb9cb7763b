-- Where the code of each instruction stands in the object, and its data and types.
use Rattle.std.proofs.Common.{◌≡◌, ℕ, zero, suc, ◌+◌, List, [], ◌∷◌, ◌++◌, length, map, Option, Some, None, refl, ap, ◌∙◌, subst, arith}
use Rattle.std.proofs.Common.{append_assoc, append-nil, length-append}
use Rattle.std.specs.Prelude.{slice_get, take}
use Rattle.dis_isa.specs.declared.inst.Operand as isa
use Rattle.limbo_values.specs.declared.number.Kind.TheVariants.{Byte, Int, Big}
use Rattle.limbo_typed.specs.declared.operation.Operation.{Operation}
use Rattle.limbo_typed.specs.declared.operation.Operation.TheVariants as operation
use Rattle.slot_code.specs.Code.{Operand, Inst, Move, Hand, Alter, Operate, Branch, Jump, Skip, Back, Begin, Call, Format, Print, Return}
use Rattle.slot_code.specs.Code.{Leave, Function, Module}
use Rattle.dis_meaning.specs.Words as words
use Rattle.dis_objects.specs.Frames.{Callee, made_by, made_from, made_at}
use Rattle.dis_objects.specs.Code.{Code, Datum, datum_bytes, data_bytes, data_of, size, sizes, Context, place, inst_code, insts_code}
use Rattle.dis_objects.specs.Code.{insts_data, altering_size, operating_size, altering, operating}
use Rattle.dis_objects.specs.Objects.{size_before, entry_size, entry_length, base_of, context, function_data, functions_data}
use Rattle.dis_objects.specs.Objects.{functions_code, data_place, entry, init_of, object_of, frame_desc, print_desc}
use Rattle.dis_follows.specs.Stands.{HasData}

-- ---- pieces of lists

-- These stand in a list, from this place on.
abbrev pub HasAt : {A : Type 0} → List A → ℕ → List A → Type 0
HasAt l n [] = Unit {0}
HasAt l n (x ∷ xs) = (slice_get l n ≡ Some x) × HasAt l (suc n) xs

pub has_front : {A : Type 0} (l : List A) (n : ℕ) (a b : List A) → HasAt l n (a ++ b) → HasAt l n a
has_front l n [] b h = tt
has_front l n (x ∷ a) b h = (h.0, has_front l (suc n) a b h.1)

pub has_back : {A : Type 0} (l : List A) (n : ℕ) (a b : List A) → HasAt l n (a ++ b) → HasAt l (n + length a) b
has_back l n [] b h = let e : n ≡ n + 0 = omega arith in subst (λ n. HasAt l n b) e h
has_back l n (x ∷ a) b h =
    let e : suc n + length a ≡ n + length (x ∷ a) = omega arith in
    subst (λ n. HasAt l n b) e (has_back l (suc n) a b h.1)

pub get_behind : {A : Type 0} (a b : List A) (k : ℕ) → slice_get (a ++ b) (length a + k) ≡ slice_get b k
get_behind [] b k = let e : 0 + k ≡ k = omega arith in ap (slice_get b) e
get_behind (x ∷ a) b k =
    let e : length (x ∷ a) + k ≡ suc (length a + k) = omega arith in ap (slice_get (x ∷ (a ++ b))) e ∙ get_behind a b k

pub has_behind : {A : Type 0} (a xs b : List A) → HasAt (a ++ (xs ++ b)) (length a) xs
has_behind a [] b = tt
has_behind a (x ∷ xs) b =
    let e : length a + 0 ≡ length a = omega arith in
    let here : slice_get (a ++ x ∷ (xs ++ b)) (length a) ≡ Some x =
    subst (λ n. slice_get (a ++ x ∷ (xs ++ b)) n ≡ Some x) e (get_behind a (x ∷ (xs ++ b)) 0) in
    let n : length (a ++ x ∷ []) ≡ suc (length a) = omega (arith, length-append a (x ∷ [])) in
    let rest = has_behind (a ++ x ∷ []) xs b in
    let rest' = subst (λ l. HasAt l (length (a ++ x ∷ [])) xs) (append_assoc a (x ∷ []) (xs ++ b)) rest in
    (here, subst (λ m. HasAt (a ++ x ∷ (xs ++ b)) m xs) n rest')

-- ---- pieces of data

module _ (m : Module) (ws : List words.Word) where
  pub data_front : (at : ℕ) (a b : List Datum) → HasData m ws at (a ++ b) → HasData m ws at a
  data_front at [] b h = tt
  data_front at (d ∷ a) b h = (h.0, data_front (at + datum_bytes d) a b h.1)

  pub data_back : (at : ℕ) (a b : List Datum) → HasData m ws at (a ++ b) → HasData m ws (at + data_bytes a) b
  data_back at [] b h = let e : at ≡ at + 0 = omega arith in subst (λ n. HasData m ws n b) e h
  data_back at (d ∷ a) b h =
      let e : at + datum_bytes d + data_bytes a ≡ at + data_bytes (d ∷ a) = omega arith in
      subst (λ n. HasData m ws n b) e (data_back (at + datum_bytes d) a b h.1)

pub bytes_both : (a b : List Datum) → data_bytes (a ++ b) ≡ data_bytes a + data_bytes b
bytes_both [] b = omega arith
bytes_both (d ∷ a) b = omega (arith, bytes_both a b)

-- ---- sizes

altering_length : (here : ℕ) (o : Operation) (s d : isa.Operand) → length (altering here o s d) ≡ altering_size o
altering_length here (operation.Convert Byte Byte) s d = refl
altering_length here (operation.Convert Byte Int) s d = refl
altering_length here (operation.Convert Byte Big) s d = refl
altering_length here (operation.Convert Int Byte) s d = refl
altering_length here (operation.Convert Int Int) s d = refl
altering_length here (operation.Convert Int Big) s d = refl
altering_length here (operation.Convert Big Byte) s d = refl
altering_length here (operation.Convert Big Int) s d = refl
altering_length here (operation.Convert Big Big) s d = refl
altering_length here _ s d = refl

operating_length : (c : Context) (here at : ℕ) (o : Operation) (x y : Operand) (d : isa.Operand)
    → length (operating c here at o x y d) ≡ operating_size o
operating_length c here at (operation.Arithmetic o k) x y d = refl
operating_length c here at (operation.Shift s k) x y d = refl
operating_length c here at (operation.Compare o k) x y d = refl
operating_length c here at _ x y d = refl

-- What is called was begun.
abbrev pub HasCallee : List Callee → Inst → Type 0
HasCallee [] (Call k f n into) = ⊥
HasCallee [] (Print n into) = ⊥
HasCallee cs i = Unit {0}

abbrev pub HaveCallees : List Callee → List Inst → Type 0
HaveCallees cs is = (pc : ℕ) (i : Inst) → slice_get is pc ≡ Some i → HasCallee (made_from cs is pc) i

pub inst_length : (c : Context) (pc at : ℕ) (cs : List Callee) (i : Inst) → HasCallee cs i → length (inst_code c pc at cs i) ≡ size i
inst_length c pc at cs (Move into x) h = refl
inst_length c pc at cs (Hand into x) h = refl
inst_length c pc at cs (Alter o into x) h = altering_length (place c pc) o _ _
inst_length c pc at cs (Operate o into x y) h = operating_length c (place c pc) at o x y _
inst_length c pc at cs (Branch k o x y n) h = refl
inst_length c pc at cs (Jump n) h = refl
inst_length c pc at cs (Skip n) h = refl
inst_length c pc at cs (Back n) h = refl
inst_length c pc at cs (Begin f) h = refl
inst_length c pc at (d ∷ cs) (Call k f n into) h = refl
inst_length c pc at [] (Call k f n into) h = absurd h
inst_length c pc at cs (Format ps) h = refl
inst_length c pc at (d ∷ cs) (Print n into) h = refl
inst_length c pc at [] (Print n into) h = absurd h
inst_length c pc at cs (Return x) h = refl
inst_length c pc at cs Leave h = refl

pub insts_length : (c : Context) (pc at : ℕ) (cs : List Callee) (is : List Inst) → HaveCallees cs is
    → length (insts_code c pc at cs is) ≡ sizes is
insts_length c pc at cs [] h = refl
insts_length c pc at cs (i ∷ is) h =
    let next = at + data_bytes (data_of c.functions c.function.answer cs i) in
    omega (
      arith,
      length-append (inst_code c pc at cs i) (insts_code c (suc pc) next (made_by cs i) is),
      inst_length c pc at cs i (h 0 i refl),
      insts_length c (suc pc) next (made_by cs i) is (λ q j e. h (suc q) j e),
    )

-- ---- one instruction of a function

-- Its code stands here, and its data among the module's.
pub record Coded (m : Module) (ws : List words.Word) (c : Context) (l : Code) (here pc : ℕ) (cs : List Callee) (i : Inst) : Type 0 where
  pub at : ℕ
  pub code : HasAt l here (inst_code c pc at cs i)
  pub constants : HasData m ws at (data_of c.functions c.function.answer cs i)

one_coded : (m : Module) (ws : List words.Word) (c : Context) (l : Code) (here pc at : ℕ) (cs : List Callee) (is : List Inst) (j : ℕ)
    (i : Inst)
    → HaveCallees cs is → HasAt l here (insts_code c pc at cs is) → HasData m ws at (insts_data c.functions c.function.answer cs is)
    → slice_get is j ≡ Some i → Coded m ws c l (here + sizes (take j is)) (pc + j) (made_from cs is j) i
one_coded m ws c l here pc at cs [] j i f h d e = absurd cc
one_coded m ws c l here pc at cs (i' ∷ is) zero i f h d e =
    let same : i' ≡ i = cc in
    let e0 : here ≡ here + 0 = omega arith in
    let e1 : pc ≡ pc + 0 = omega arith in
    subst (λ i. Coded m ws c l (here + 0) (pc + 0) cs i) same
    (subst (λ n. Coded m ws c l n (pc + 0) cs i') e0 (subst (λ n. Coded m ws c l here n cs i') e1
    (record {
      at = at;
      code = has_front l here (inst_code c pc at cs i') _ h;
      constants = data_front m ws at (data_of c.functions c.function.answer cs i')
          (insts_data c.functions c.function.answer (made_by cs i') is) d;
    })))
one_coded m ws c l here pc at cs (i' ∷ is) (suc j) i f h d e =
    let ds = data_of c.functions c.function.answer cs i' in
    let next = at + data_bytes ds in
    let h' = subst (λ n. HasAt l (here + n) (insts_code c (suc pc) next (made_by cs i') is)) (inst_length c pc at cs i' (f 0 i' refl))
    (has_back l here (inst_code c pc at cs i') _ h) in
    let r = one_coded m ws c l (here + size i') (suc pc) next (made_by cs i') is j i (λ q k e'. f (suc q) k e') h'
    (data_back m ws at ds (insts_data c.functions c.function.answer (made_by cs i') is) d) e in
    let e0 : here + size i' + sizes (take j is) ≡ here + (size i' + sizes (take j is)) = omega arith in
    let e1 : suc pc + j ≡ pc + suc j = omega arith in
    subst (λ n. Coded m ws c l n (pc + suc j) (made_from (made_by cs i') is j) i) e0
    (subst (λ n. Coded m ws c l (here + size i' + sizes (take j is)) n (made_from (made_by cs i') is j) i) e1 r)

-- ---- one function

abbrev pub AllHaveCallees : List Function → Type 0
AllHaveCallees fs = (n : ℕ) (f : Function) → slice_get fs n ≡ Some f → HaveCallees [] f.code

-- The code of a function, and its data.
pub record FunctionCoded (m : Module) (ws : List words.Word) (l : Code) (here number : ℕ) (f : Function) : Type 0 where
  pub at : ℕ
  pub code : HasAt l here (insts_code (context m number f) 0 at [] f.code)
  pub constants : HasData m ws at (insts_data m.functions f.answer [] f.code)

function_coded : (m : Module) (ws : List words.Word) (l : Code) (here n at : ℕ) (fs : List Function) (j : ℕ) (f : Function)
    → AllHaveCallees fs → HasAt l here (functions_code m n at fs) → HasData m ws at (functions_data m.functions fs)
    → slice_get fs j ≡ Some f → FunctionCoded m ws l (here + size_before fs j) (n + j) f
function_coded m ws l here n at [] j f p h d e = absurd cc
function_coded m ws l here n at (g ∷ fs) zero f p h d e =
    let same : g ≡ f = cc in
    let e0 : here ≡ here + 0 = omega arith in
    let e1 : n ≡ n + 0 = omega arith in
    subst (λ f. FunctionCoded m ws l (here + 0) (n + 0) f) same
    (subst (λ a. FunctionCoded m ws l a (n + 0) g) e0 (subst (λ b. FunctionCoded m ws l here b g) e1
    (record {
      at = at;
      code = has_front l here (insts_code (context m n g) 0 at [] g.code) _ h;
      constants = data_front m ws at (function_data m.functions g) (functions_data m.functions fs) d;
    })))
function_coded m ws l here n at (g ∷ fs) (suc j) f p h d e =
    let next = at + data_bytes (function_data m.functions g) in
    let h' = subst (λ b. HasAt l (here + b) (functions_code m (suc n) next fs)) (insts_length (context m n g) 0 at [] g.code (p 0 g refl))
    (has_back l here (insts_code (context m n g) 0 at [] g.code) _ h) in
    let r = function_coded m ws l (here + sizes g.code) (suc n) next fs j f (λ q k e'. p (suc q) k e') h'
    (data_back m ws at (function_data m.functions g) (functions_data m.functions fs) d) e in
    let e0 : here + sizes g.code + size_before fs j ≡ here + (sizes g.code + size_before fs j) = omega arith in
    let e1 : suc n + j ≡ n + suc j = omega arith in
    subst (λ a. FunctionCoded m ws l a (n + suc j) f) e0
    (subst (λ b. FunctionCoded m ws l (here + sizes g.code + size_before fs j) b f) e1 r)

-- ---- the object

entry_is : (m : Module) (o : Option ℕ) → length (entry m.functions o) ≡ entry_length o
entry_is m None = refl
entry_is m (Some n) = refl

pub coded : (m : Module) (ws : List words.Word) (n : ℕ) (f : Function) (pc : ℕ) (i : Inst) → AllHaveCallees m.functions
    → HasData m ws (data_place m) (functions_data m.functions m.functions) → slice_get m.functions n ≡ Some f → slice_get f.code pc ≡ Some i
    → Coded m ws (context m n f) (object_of m).insts (place (context m n f) pc) pc (made_at f.code pc) i
coded m ws n f pc i p d e h =
    let a = entry m.functions (init_of m) in
    let b = functions_code m 0 (data_place m) m.functions in
    let whole : HasAt (a ++ b) (length a) b = subst (λ l. HasAt (a ++ l) (length a) b) (append-nil b) (has_behind a b []) in
    let here : HasAt (a ++ b) (entry_size m.functions) b = subst (λ k. HasAt (a ++ b) k b) (entry_is m (init_of m)) whole in
    let e0 : 0 + n ≡ n = omega arith in
    let e1 : 0 + pc ≡ pc = omega arith in
    let g = subst (λ k. FunctionCoded m ws (a ++ b) (base_of m.functions n) k f) e0
    (function_coded m ws (a ++ b) (entry_size m.functions) 0 (data_place m) m.functions n f p here d e) in
    subst (λ q. Coded m ws (context m n f) (a ++ b) (place (context m n f) pc) q (made_at f.code pc) i) e1
    (one_coded m ws (context m n f) (a ++ b) (base_of m.functions n) 0 g.at [] f.code pc i (p n f e) g.code g.constants h)

-- ---- types

map_get : {X Y : Type 0} (g : X → Y) (xs : List X) (n : ℕ) (x : X) (more : List Y) → slice_get xs n ≡ Some x
    → slice_get (map g xs ++ more) n ≡ Some (g x)
map_get g [] n x more e = absurd cc
map_get g (y ∷ xs) zero x more e = let same : y ≡ x = cc in ap (λ x. Some (g x)) same
map_get g (y ∷ xs) (suc n) x more e = map_get g xs n x more e

map_end : {X Y : Type 0} (g : X → Y) (xs : List X) (y : Y) → slice_get (map g xs ++ y ∷ []) (length xs) ≡ Some y
map_end g [] y = refl
map_end g (x ∷ xs) y = map_end g xs y

pub frame_type_is : (m : Module) (n : ℕ) (f : Function) → slice_get m.functions n ≡ Some f
    → slice_get (object_of m).types (suc n) ≡ Some (frame_desc m.functions f)
frame_type_is m n f e = map_get (frame_desc m.functions) m.functions n f _ e

pub print_type_is : (m : Module) → slice_get (object_of m).types (suc (length m.functions)) ≡ Some (print_desc m.functions)
print_type_is m = map_end (frame_desc m.functions) m.functions (print_desc m.functions)
