-- The line of an instruction gives back its operation and its operands.
use Rattle.std.proofs.Common.{◌≡◌, ◌≢◌, ℕ, zero, suc, ◌+◌, ◌*◌, ◌<◌, ◌≤◌, ◌^◌, ◌%◌, Bool, true, false, cond, List, [], ◌∷◌, ◌++◌, length}
use Rattle.std.proofs.Common.{eqb, eq-eqb, drop, Some, refl, sym, ap, ◌∙◌, arith, append_assoc, ℤ, pos, negsuc}
use Rattle.std.proofs.lemmas.Bool.{lt-ltb, ne_eqb}
use Rattle.std.proofs.lemmas.Fmt.{decimal_by_steps, decimal_is_IsNumeral, decimal_nonempty}
use Rattle.std.proofs.lemmas.Slice.Eq.{bytes_eq-Decides}
use Rattle.std.specs.Prelude.{◌&&◌, not, ◌==◌, nat_lt, codes, slice_get}
use Rattle.std.specs.Fmt.{decimal, signed_decimal}
use Rattle.std.specs.Str.{bytes_eq}
use Rattle.std.specs.Str.Parse.{digits_value}
use Rattle.dis_isa.specs.declared.op.Op.{Op}
use Rattle.dis_isa.specs.declared.inst.Inst.{Inst}
use Rattle.dis_isa.specs.declared.inst.Operand.{Operand}
use Rattle.dis_isa.specs.declared.inst.Operand.TheVariants as operand
use Rattle.dis_isa.specs.declared.inst.Middle.{Middle}
use Rattle.dis_isa.specs.declared.inst.Middle.TheVariants as middle
use Rattle.dis_isa.specs.Opcodes.{opcode_at}
use Rattle.dis_isa.proofs.Table.{stands_at_tag}
use Rattle.dis_format.specs.Opcodes.{opcode_of}
use Rattle.dis_format.specs.Operands.{magnitude}
use Rattle.dis_text.specs.declared.names.TheConstants.{NAMES}
use Rattle.dis_text.specs.Listing.{before_blank, name_of, marked, operands, source_text, middle_text, inst_line}
use Rattle.dis_text.specs.Shown.{Base, frame, module_data, Shown, immediate, offset, indirect, of_operand, of_middle, present}
use Rattle.dis_text.specs.Shown.{IsNarrow, AreNarrow, ShowsSame}
use Rattle.dis_text.proofs.Opcodes.{opcode_small}

-- ---- lists cut where a test fails first

abbrev pub all : (ℕ → Bool) → List ℕ → Bool
all p [] = true
all p (x ∷ xs) = p x && all p xs

pub both : (a b : Bool) → (a && b) ≡ true → (a ≡ true) × (b ≡ true)
both true b e = (refl, e)
both false b e = absurd cc

pub all-append : (p : ℕ → Bool) (xs ys : List ℕ) → all p xs ≡ true → all p ys ≡ true → all p (xs ++ ys) ≡ true
all-append p [] ys a b = b
all-append p (x ∷ xs) ys a b =
    let h = both (p x) (all p xs) a in rw h.0 (all-append p xs ys h.1 b)

abbrev pub Stops : (ℕ → Bool) → List ℕ → Type 0
Stops p [] = ⊥
Stops p (c ∷ cs) = p c ≡ false

pub not_both : {A : Type 0} (b : Bool) → b ≡ true → b ≡ false → A
not_both b t f = let bad : true ≡ false = sym t ∙ f in absurd cc

abbrev pub Cut : List ℕ → List ℕ → List ℕ → List ℕ → Type 0
Cut xs ys us vs = (xs ≡ ys) × (us ≡ vs)

pub cut : (p : ℕ → Bool) (xs ys us vs : List ℕ) → all p xs ≡ true → all p ys ≡ true → Stops p us → Stops p vs
    → xs ++ us ≡ ys ++ vs → Cut xs ys us vs
cut p [] [] us vs a b s t e = (refl, e)
cut p [] (y ∷ ys) [] vs a b s t e = absurd s
cut p [] (y ∷ ys) (c ∷ us) vs a b s t e =
    let same : c ≡ y = cc in
    not_both (p y) (both (p y) (all p ys) b).0 (ap p (sym same) ∙ s)
cut p (x ∷ xs) [] us [] a b s t e = absurd t
cut p (x ∷ xs) [] us (c ∷ vs) a b s t e =
    let same : c ≡ x = cc in
    not_both (p x) (both (p x) (all p xs) a).0 (ap p (sym same) ∙ t)
cut p (x ∷ xs) (y ∷ ys) us vs a b s t e =
    let first : x ≡ y = cc in
    let rest : xs ++ us ≡ ys ++ vs = cc in
    let k = cut p xs ys us vs (both (p x) (all p xs) a).1 (both (p y) (all p ys) b).1 s t rest in
    let tail : xs ≡ ys = k.0 in
    (cc, k.1)

pub strip : (xs us vs : List ℕ) → xs ++ us ≡ xs ++ vs → us ≡ vs
strip [] us vs e = e
strip (x ∷ xs) us vs e = strip xs us vs cc

-- a list that begins with what fails the test isn't one that passes it and isn't empty
pub begins_not : {A : Type 0} (p : ℕ → Bool) (c : ℕ) (cs xs ys : List ℕ) → p c ≡ false → all p xs ≡ true → 0 < length xs
    → c ∷ cs ≡ xs ++ ys → A
begins_not p c cs [] ys fails passes long e = absurd (omega arith)
begins_not p c cs (x ∷ xs) ys fails passes long e =
    let same : c ≡ x = cc in not_both (p x) (both (p x) (all p xs) passes).0 (ap p (sym same) ∙ fails)

-- ---- numbers

pub digits_pass : (p : ℕ → Bool) → ((c : ℕ) → 48 ≤ c → c ≤ 57 → p c ≡ true) → (n : ℕ) → n < 2 ^ 64
    → all p (decimal n) ≡ true
digits_pass p h =
    decimal_by_steps (λ n ds. all p ds ≡ true)
    (λ n lt. rw (h (48 + n) (omega arith) (omega arith)) refl)
    (λ n ds le up. all-append p ds ((48 + n % 10) ∷ []) up (rw (h (48 + n % 10) (omega arith) (omega arith)) refl))

signed_pass : (p : ℕ → Bool) → ((c : ℕ) → 48 ≤ c → c ≤ 57 → p c ≡ true) → p 45 ≡ true → (z : ℤ) → magnitude z < 2 ^ 31
    → all p (signed_decimal z) ≡ true
signed_pass p h minus (pos n) lt = digits_pass p h n (omega arith)
signed_pass p h minus (negsuc n) lt = rw minus (digits_pass p h (suc n) (omega arith))

signed_long : (z : ℤ) → magnitude z < 2 ^ 31 → 0 < length (signed_decimal z)
signed_long (pos n) lt = decimal_nonempty n (omega arith)
signed_long (negsuc n) lt = omega arith

pub decimal_injective : (m n : ℕ) → m < 2 ^ 64 → n < 2 ^ 64 → decimal m ≡ decimal n → m ≡ n
decimal_injective m n a b e =
    sym (decimal_is_IsNumeral m a).1 ∙ ap (digits_value 10) e ∙ (decimal_is_IsNumeral n b).1

abbrev pub is_digit : ℕ → Bool
is_digit c = nat_lt 47 c && nat_lt c 58

pub digits_are : (c : ℕ) → 48 ≤ c → c ≤ 57 → is_digit c ≡ true
digits_are c low high = rw (lt-ltb 47 c (omega arith), lt-ltb c 58 (omega arith)) refl

-- a sign isn't a digit
unsigned_is_not : {A : Type 0} (m n : ℕ) → m < 2 ^ 64 → decimal m ≡ 45 ∷ decimal n → A
unsigned_is_not m n lt e =
    let pass : all is_digit (45 ∷ decimal n) ≡ true = rw e at (digits_pass is_digit digits_are m lt) in absurd cc

signed_injective : (x y : ℤ) → magnitude x < 2 ^ 31 → magnitude y < 2 ^ 31 → signed_decimal x ≡ signed_decimal y → x ≡ y
signed_injective (pos m) (pos n) a b e = ap pos (decimal_injective m n (omega arith) (omega arith) e)
signed_injective (pos m) (negsuc n) a b e = unsigned_is_not m (suc n) (omega arith) e
signed_injective (negsuc m) (pos n) a b e = unsigned_is_not n (suc m) (omega arith) (sym e)
signed_injective (negsuc m) (negsuc n) a b e =
    let digits : decimal (suc m) ≡ decimal (suc n) = cc in
    let more : suc m ≡ suc n = decimal_injective (suc m) (suc n) (omega arith) (omega arith) digits in
    ap negsuc (omega arith)

-- ---- operands

abbrev base_text : Base → List ℕ
base_text frame = codes "fp"
base_text module_data = codes "mp"

abbrev word : Shown → List ℕ
word (immediate n) = codes "$" ++ signed_decimal n
word (offset frame n) = signed_decimal n ++ codes "(fp)"
word (offset module_data n) = signed_decimal n ++ codes "(mp)"
word (indirect frame inner outer) = signed_decimal outer ++ (codes "(" ++ (signed_decimal inner ++ codes "(fp))"))
word (indirect module_data inner outer) = signed_decimal outer ++ (codes "(" ++ (signed_decimal inner ++ codes "(mp))"))

-- minus signs and digits
abbrev is_signed : ℕ → Bool
is_signed c = nat_lt 44 c && nat_lt c 58

signs_are : (c : ℕ) → 48 ≤ c → c ≤ 57 → is_signed c ≡ true
signs_are c low high = rw (lt-ltb 44 c (omega arith), lt-ltb c 58 (omega arith)) refl

signed_is : (z : ℤ) → magnitude z < 2 ^ 31 → all is_signed (signed_decimal z) ≡ true
signed_is z lt = signed_pass is_signed signs_are refl z lt

-- what stands behind the first number
abbrev behind : Shown → List ℕ
behind (immediate n) = []
behind (offset frame n) = codes "(fp)"
behind (offset module_data n) = codes "(mp)"
behind (indirect frame inner outer) = codes "(" ++ (signed_decimal inner ++ codes "(fp))")
behind (indirect module_data inner outer) = codes "(" ++ (signed_decimal inner ++ codes "(mp))")

-- two numbers in front of parentheses
cut_numbers : (x y : ℤ) (us vs : List ℕ) → magnitude x < 2 ^ 31 → magnitude y < 2 ^ 31
    → signed_decimal x ++ 40 ∷ us ≡ signed_decimal y ++ 40 ∷ vs → (x ≡ y) × (us ≡ vs)
cut_numbers x y us vs a b e =
    let k = cut is_signed (signed_decimal x) (signed_decimal y) (40 ∷ us) (40 ∷ vs) (signed_is x a) (signed_is y b)
    refl refl e in
    let rest : us ≡ vs = (let same : 40 ∷ us ≡ 40 ∷ vs = k.1 in cc) in
    (signed_injective x y a b k.0, rest)

-- a letter begins no number
letter_not : {A : Type 0} (c : ℕ) (cs ys : List ℕ) (z : ℤ) → is_signed c ≡ false → magnitude z < 2 ^ 31
    → c ∷ cs ≡ signed_decimal z ++ ys → A
letter_not c cs ys z fails lt e =
    begins_not is_signed c cs (signed_decimal z) ys fails (signed_is z lt) (signed_long z lt) e

abbrev pub head : List ℕ → ℕ
head [] = 0
head (c ∷ cs) = c

pub differ : {A : Type 0} (c d : ℕ) (cs ds : List ℕ) → eqb c d ≡ false → c ∷ cs ≡ d ∷ ds → A
differ c d cs ds other e = not_both (eqb c d) (eq-eqb c d (ap head e)) other

word_injective : (s t : Shown) → IsNarrow s → IsNarrow t → word s ≡ word t → s ≡ t
word_injective (immediate m) (immediate n) a b e =
    let digits : signed_decimal m ≡ signed_decimal n = cc in ap immediate (signed_injective m n a b digits)
word_injective (immediate m) (offset frame n) a b e = letter_not 36 (signed_decimal m) (codes "(fp)") n refl b e
word_injective (immediate m) (offset module_data n) a b e = letter_not 36 (signed_decimal m) (codes "(mp)") n refl b e
word_injective (immediate m) (indirect frame inner outer) a b e =
    letter_not 36 (signed_decimal m) (behind (indirect frame inner outer)) outer refl b.1 e
word_injective (immediate m) (indirect module_data inner outer) a b e =
    letter_not 36 (signed_decimal m) (behind (indirect module_data inner outer)) outer refl b.1 e
word_injective (offset frame m) (immediate n) a b e = letter_not 36 (signed_decimal n) (codes "(fp)") m refl a (sym e)
word_injective (offset module_data m) (immediate n) a b e = letter_not 36 (signed_decimal n) (codes "(mp)") m refl a (sym e)
word_injective (indirect frame inner outer) (immediate n) a b e =
    letter_not 36 (signed_decimal n) (behind (indirect frame inner outer)) outer refl a.1 (sym e)
word_injective (indirect module_data inner outer) (immediate n) a b e =
    letter_not 36 (signed_decimal n) (behind (indirect module_data inner outer)) outer refl a.1 (sym e)
word_injective (offset frame m) (offset frame n) a b e =
    ap (offset frame) (cut_numbers m n (codes "fp)") (codes "fp)") a b e).0
word_injective (offset module_data m) (offset module_data n) a b e =
    ap (offset module_data) (cut_numbers m n (codes "mp)") (codes "mp)") a b e).0
word_injective (offset frame m) (offset module_data n) a b e =
    let k = (cut_numbers m n (codes "fp)") (codes "mp)") a b e).1 in
    differ 102 109 (codes "p)") (codes "p)") refl k
word_injective (offset module_data m) (offset frame n) a b e =
    let k = (cut_numbers m n (codes "mp)") (codes "fp)") a b e).1 in
    differ 109 102 (codes "p)") (codes "p)") refl k
word_injective (offset frame m) (indirect frame inner outer) a b e =
    letter_not 102 (codes "p)") (codes "(fp))") inner refl b.0
    (cut_numbers m outer (codes "fp)") (signed_decimal inner ++ codes "(fp))") a b.1 e).1
word_injective (offset frame m) (indirect module_data inner outer) a b e =
    letter_not 102 (codes "p)") (codes "(mp))") inner refl b.0
    (cut_numbers m outer (codes "fp)") (signed_decimal inner ++ codes "(mp))") a b.1 e).1
word_injective (offset module_data m) (indirect frame inner outer) a b e =
    letter_not 109 (codes "p)") (codes "(fp))") inner refl b.0
    (cut_numbers m outer (codes "mp)") (signed_decimal inner ++ codes "(fp))") a b.1 e).1
word_injective (offset module_data m) (indirect module_data inner outer) a b e =
    letter_not 109 (codes "p)") (codes "(mp))") inner refl b.0
    (cut_numbers m outer (codes "mp)") (signed_decimal inner ++ codes "(mp))") a b.1 e).1
word_injective (indirect frame inner outer) (offset frame n) a b e =
    letter_not 102 (codes "p)") (codes "(fp))") inner refl a.0
    (sym (cut_numbers outer n (signed_decimal inner ++ codes "(fp))") (codes "fp)") a.1 b e).1)
word_injective (indirect frame inner outer) (offset module_data n) a b e =
    letter_not 109 (codes "p)") (codes "(fp))") inner refl a.0
    (sym (cut_numbers outer n (signed_decimal inner ++ codes "(fp))") (codes "mp)") a.1 b e).1)
word_injective (indirect module_data inner outer) (offset frame n) a b e =
    letter_not 102 (codes "p)") (codes "(mp))") inner refl a.0
    (sym (cut_numbers outer n (signed_decimal inner ++ codes "(mp))") (codes "fp)") a.1 b e).1)
word_injective (indirect module_data inner outer) (offset module_data n) a b e =
    letter_not 109 (codes "p)") (codes "(mp))") inner refl a.0
    (sym (cut_numbers outer n (signed_decimal inner ++ codes "(mp))") (codes "mp)") a.1 b e).1)
word_injective (indirect frame i o) (indirect frame j p) a b e =
    let k = cut_numbers o p (signed_decimal i ++ codes "(fp))") (signed_decimal j ++ codes "(fp))") a.1 b.1 e in
    let l = cut_numbers i j (codes "fp))") (codes "fp))") a.0 b.0 k.1 in
    let inner : i ≡ j = l.0 in
    let outer : o ≡ p = k.0 in cc
word_injective (indirect module_data i o) (indirect module_data j p) a b e =
    let k = cut_numbers o p (signed_decimal i ++ codes "(mp))") (signed_decimal j ++ codes "(mp))") a.1 b.1 e in
    let l = cut_numbers i j (codes "mp))") (codes "mp))") a.0 b.0 k.1 in
    let inner : i ≡ j = l.0 in
    let outer : o ≡ p = k.0 in cc
word_injective (indirect frame i o) (indirect module_data j p) a b e =
    let k = cut_numbers o p (signed_decimal i ++ codes "(fp))") (signed_decimal j ++ codes "(mp))") a.1 b.1 e in
    let l = (cut_numbers i j (codes "fp))") (codes "mp))") a.0 b.0 k.1).1 in
    differ 102 109 (codes "p))") (codes "p))") refl l
word_injective (indirect module_data i o) (indirect frame j p) a b e =
    let k = cut_numbers o p (signed_decimal i ++ codes "(mp))") (signed_decimal j ++ codes "(fp))") a.1 b.1 e in
    let l = (cut_numbers i j (codes "mp))") (codes "fp))") a.0 b.0 k.1).1 in
    differ 109 102 (codes "p))") (codes "p))") refl l

-- ---- words behind marks

-- no comma and no newline
abbrev is_inside : ℕ → Bool
is_inside c = not (c == 44) && not (c == 10)

inside_digits : (c : ℕ) → 48 ≤ c → c ≤ 57 → is_inside c ≡ true
inside_digits c low high =
    let a : c ≢ 44 = omega arith in
    let b : c ≢ 10 = omega arith in rw (ne_eqb c 44 a, ne_eqb c 10 b) refl

number_inside : (z : ℤ) → magnitude z < 2 ^ 31 → all is_inside (signed_decimal z) ≡ true
number_inside z lt = signed_pass is_inside inside_digits refl z lt

word_inside : (s : Shown) → IsNarrow s → all is_inside (word s) ≡ true
word_inside (immediate n) a = number_inside n a
word_inside (offset frame n) a = all-append is_inside (signed_decimal n) (codes "(fp)") (number_inside n a) refl
word_inside (offset module_data n) a = all-append is_inside (signed_decimal n) (codes "(mp)") (number_inside n a) refl
word_inside (indirect frame i o) a =
    all-append is_inside (signed_decimal o) (behind (indirect frame i o)) (number_inside o a.1)
    (all-append is_inside (signed_decimal i) (codes "(fp))") (number_inside i a.0) refl)
word_inside (indirect module_data i o) a =
    all-append is_inside (signed_decimal o) (behind (indirect module_data i o)) (number_inside o a.1)
    (all-append is_inside (signed_decimal i) (codes "(mp))") (number_inside i a.0) refl)

abbrev words : List Shown → List (List ℕ)
words [] = []
words (s ∷ ss) = word s ∷ words ss

behind_stops : (ss : List Shown) (us : List ℕ) → Stops is_inside (marked 44 (words ss) ++ 10 ∷ us)
behind_stops [] us = refl
behind_stops (s ∷ ss) us = refl

marked_injective : (mark : ℕ) (ss ts : List Shown) → mark ≢ 10 → AreNarrow ss → AreNarrow ts → (us vs : List ℕ)
    → marked mark (words ss) ++ 10 ∷ us ≡ marked mark (words ts) ++ 10 ∷ vs → (ss ≡ ts) × (us ≡ vs)
marked_injective mark [] [] ne a b us vs e = (refl, strip (10 ∷ []) us vs e)
marked_injective mark [] (t ∷ ts) ne a b us vs e = let same : 10 ≡ mark = cc in absurd (ne (sym same))
marked_injective mark (s ∷ ss) [] ne a b us vs e = let same : mark ≡ 10 = cc in absurd (ne same)
marked_injective mark (s ∷ ss) (t ∷ ts) ne a b us vs e =
    let rest : (word s ++ marked 44 (words ss)) ++ 10 ∷ us ≡ (word t ++ marked 44 (words ts)) ++ 10 ∷ vs = cc in
    let grouped : word s ++ (marked 44 (words ss) ++ 10 ∷ us) ≡ word t ++ (marked 44 (words ts) ++ 10 ∷ vs) =
    sym (append_assoc (word s) (marked 44 (words ss)) (10 ∷ us)) ∙ rest
    ∙ append_assoc (word t) (marked 44 (words ts)) (10 ∷ vs) in
    let k = cut is_inside (word s) (word t) (marked 44 (words ss) ++ 10 ∷ us) (marked 44 (words ts) ++ 10 ∷ vs)
    (word_inside s a.0) (word_inside t b.0) (behind_stops ss us) (behind_stops ts vs) grouped in
    let first : s ≡ t = word_injective s t a.0 b.0 k.0 in
    let l = marked_injective 44 ss ts (omega arith) a.1 b.1 us vs k.1 in
    let others : ss ≡ ts = l.0 in (cc, l.1)

words-append : (ss ts : List Shown) → words (ss ++ ts) ≡ words ss ++ words ts
words-append [] ts = refl
words-append (s ∷ ss) ts = ap (λ (ws : List (List ℕ)). word s ∷ ws) (words-append ss ts)

operand_words : (o : Operand) → source_text o ≡ words (of_operand o)
operand_words operand.None = refl
operand_words (operand.Imm n) = refl
operand_words (operand.Fp n) = refl
operand_words (operand.Mp n) = refl
operand_words (operand.IndFp inner outer) = refl
operand_words (operand.IndMp inner outer) = refl

middle_words : (m : Middle) → middle_text m ≡ words (of_middle m)
middle_words middle.None = refl
middle_words (middle.Imm n) = refl
middle_words (middle.Fp n) = refl
middle_words (middle.Mp n) = refl

operands_are : (i : Inst) → operands i ≡ words (present i)
operands_are i =
    let all_words : words (present i) ≡ words (of_operand i.src) ++ (words (of_middle i.middle) ++ words (of_operand
    i.dst)) =
    words-append (of_operand i.src) (of_middle i.middle ++ of_operand i.dst)
    ∙ ap (λ (ws : List (List ℕ)). words (of_operand i.src) ++ ws) (words-append (of_middle i.middle) (of_operand
    i.dst)) in
    rw (operand_words i.src, middle_words i.middle, operand_words i.dst) (sym all_words)

-- ---- names

-- no blank and no newline
abbrev pub is_letter : ℕ → Bool
is_letter c = not (c == 32) && not (c == 10)

abbrev pub no_newline : ℕ → Bool
no_newline c = not (c == 10)

drop_passes : (p : ℕ → Bool) (n : ℕ) (xs : List ℕ) → all p xs ≡ true → all p (drop n xs) ≡ true
drop_passes p zero xs h = h
drop_passes p (suc n) [] h = refl
drop_passes p (suc n) (x ∷ xs) h = drop_passes p n xs (both (p x) (all p xs) h).1

letters : (xs : List ℕ) → all no_newline xs ≡ true → all is_letter (before_blank xs) ≡ true
letters [] h = refl
letters (x ∷ xs) h = at (letters xs (both (no_newline x) (all no_newline xs) h).1) (x == 32) refl
  where
    at : all is_letter (before_blank xs) ≡ true → (b : Bool) → (x == 32) ≡ b
        → all is_letter (cond b [] (x ∷ before_blank xs)) ≡ true
    at up true is = refl
    at up false is = rw (is, (both (no_newline x) (all no_newline xs) h).0) up

name_letters : (op : Op) → all is_letter (name_of op) ≡ true
unfolding name_of
name_letters op = letters (drop (8 * opcode_of op) NAMES) (drop_passes no_newline (8 * opcode_of op) NAMES refl)

-- the names of a table, so many from its front on
abbrev table : ℕ → List ℕ → List (List ℕ)
table zero text = []
table (suc n) text = before_blank text ∷ table n (drop 8 text)

drop_empty : (n : ℕ) → drop {A = ℕ} n [] ≡ []
drop_empty zero = refl
drop_empty (suc n) = refl

drop_drop : (m n : ℕ) (xs : List ℕ) → drop m (drop n xs) ≡ drop (n + m) xs
drop_drop m zero xs = ap (λ (k : ℕ). drop k xs) (omega arith)
drop_drop m (suc n) [] = drop_empty m ∙ sym (drop_empty (suc n + m))
drop_drop m (suc n) (x ∷ xs) =
    drop_drop m n xs ∙ ap (λ (k : ℕ). drop k (x ∷ xs)) (let same : suc (n + m) ≡ suc n + m = omega arith in same)

table_at : (n k : ℕ) (text : List ℕ) → k < n → slice_get (table n text) k ≡ Some (before_blank (drop (8 * k) text))
table_at zero k text lt = absurd (omega arith)
table_at (suc n) zero text lt = refl
table_at (suc n) (suc k) text lt =
    let there : 8 + 8 * k ≡ 8 * suc k = omega arith in
    table_at n k (drop 8 text) (omega arith)
    ∙ ap (λ (xs : List ℕ). Some (before_blank xs)) (drop_drop (8 * k) 8 text ∙ ap (λ (j : ℕ). drop j text) there)

abbrev absent : List ℕ → List (List ℕ) → Bool
absent x [] = true
absent x (y ∷ ys) = not (bytes_eq x y) && absent x ys

abbrev distinct : List (List ℕ) → Bool
distinct [] = true
distinct (x ∷ xs) = absent x xs && distinct xs

absent_not : {A : Type 0} (x : List ℕ) (ys : List (List ℕ)) (k : ℕ) → absent x ys ≡ true → slice_get ys k ≡ Some x → A
absent_not x [] k h e = absurd cc
absent_not x (y ∷ ys) zero h e =
    let same : y ≡ x = cc in
    let equal : bytes_eq x y ≡ true = (bytes_eq-Decides x y).1 (sym same) in
    let h' = (both (not (bytes_eq x y)) (absent x ys) h).0 in
    let bad : not true ≡ true = rw equal at h' in absurd cc
absent_not x (y ∷ ys) (suc k) h e = absent_not x ys k (both (not (bytes_eq x y)) (absent x ys) h).1 e

one_place : (xs : List (List ℕ)) (j k : ℕ) (x : List ℕ) → distinct xs ≡ true → slice_get xs j ≡ Some x
    → slice_get xs k ≡ Some x → j ≡ k
one_place [] j k x h a b = absurd cc
one_place (y ∷ ys) zero zero x h a b = refl
one_place (y ∷ ys) zero (suc k) x h a b =
    let same : x ≡ y = cc in
    let there : slice_get ys k ≡ Some y = b ∙ ap (λ (z : List ℕ). Some z) same in
    absent_not y ys k (both (absent y ys) (distinct ys) h).0 there
one_place (y ∷ ys) (suc j) zero x h a b =
    let same : x ≡ y = cc in
    let there : slice_get ys j ≡ Some y = a ∙ ap (λ (z : List ℕ). Some z) same in
    absent_not y ys j (both (absent y ys) (distinct ys) h).0 there
one_place (y ∷ ys) (suc j) (suc k) x h a b = ap suc (one_place ys j k x (both (absent y ys) (distinct ys) h).1 a b)

-- The names differ from each other.
all_differ : distinct (table 160 NAMES) ≡ true
all_differ = refl

name_injective : (o p : Op) → name_of o ≡ name_of p → o ≡ p
unfolding name_of
name_injective o p e =
    let first = table_at 160 (opcode_of o) NAMES (opcode_small (opcode_of o) o (stands_at_tag o)) in
    let second = table_at 160 (opcode_of p) NAMES (opcode_small (opcode_of p) p (stands_at_tag p)) in
    let same : opcode_of o ≡ opcode_of p =
    one_place (table 160 NAMES) (opcode_of o) (opcode_of p) (name_of o) all_differ first
    (second ∙ ap (λ (z : List ℕ). Some z) (sym e)) in
    let there : Some o ≡ Some p = sym (stands_at_tag o) ∙ ap opcode_at same ∙ stands_at_tag p in cc

-- ---- the line

line_stops : (ss : List Shown) (us : List ℕ) → Stops is_letter (marked 32 (words ss) ++ 10 ∷ us)
line_stops [] us = refl
line_stops (s ∷ ss) us = refl

abbrev inst_shape : ℕ → Inst → List ℕ → List ℕ
inst_shape pc i us = decimal pc ++ 32 ∷ (name_of i.op ++ (marked 32 (words (present i)) ++ 10 ∷ us))

inst_is : (pc : ℕ) (i : Inst) (us : List ℕ) → inst_line pc i ++ us ≡ inst_shape pc i us
unfolding inst_line
inst_is pc i us = rw (operands_are i) (simp append_assoc)

-- an instruction's line in front of the rest
pub shows_after : (pc : ℕ) (i j : Inst) → AreNarrow (present i) → AreNarrow (present j) → (us vs : List ℕ)
    → inst_line pc i ++ us ≡ inst_line pc j ++ vs → ShowsSame i j × (us ≡ vs)
shows_after pc i j a b us vs e =
    let line : (k : Inst) → List ℕ → List ℕ = λ k ws. name_of k.op ++ (marked 32 (words (present k)) ++ 10 ∷ ws) in
    let shaped : decimal pc ++ 32 ∷ line i us ≡ decimal pc ++ 32 ∷ line j vs =
    sym (inst_is pc i us) ∙ e ∙ inst_is pc j vs in
    let lines : line i us ≡ line j vs = strip (32 ∷ []) _ _ (strip (decimal pc) (32 ∷ line i us) (32 ∷ line j vs)
    shaped) in
    let k = cut is_letter (name_of i.op) (name_of j.op) (marked 32 (words (present i)) ++ 10 ∷ us)
    (marked 32 (words (present j)) ++ 10 ∷ vs) (name_letters i.op) (name_letters j.op) (line_stops (present i) us)
    (line_stops (present j) vs) lines in
    let l = marked_injective 32 (present i) (present j) (omega arith) a b us vs k.1 in
    (record { op = name_injective i.op j.op k.0; operands = l.0 }, l.1)

pub shows_same : (pc : ℕ) (i j : Inst) → AreNarrow (present i) → AreNarrow (present j) → inst_line pc i ≡ inst_line pc j
    → ShowsSame i j
shows_same pc i j a b e = (shows_after pc i j a b [] [] (ap (λ (l : List ℕ). l ++ []) e)).0
