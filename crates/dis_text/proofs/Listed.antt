-- A listing gives back its object, but for the places of operands.
use Rattle.std.proofs.Common.{◌≡◌, ℕ, suc, ◌+◌, ◌<◌, ◌≤◌, ◌^◌, ◌/◌, ◌%◌, Bool, true, false, cond, ltb, eqb, List, []}
use Rattle.std.proofs.Common.{◌∷◌, ◌++◌, length, refl, sym, ap, ◌∙◌, arith, append_assoc}
use Rattle.std.proofs.lemmas.Bool.{ltb-true, ne_eqb, eqb-true}
use Rattle.std.proofs.lemmas.Str.{encodes_same}
use Rattle.std.specs.Prelude.{◌||◌, not, ◌==◌, codes, encode_utf8_all}
use Rattle.std.specs.List.{flat_map, AllByRecursion}
use Rattle.std.specs.Fmt.{decimal}
use lib.Utf8.{encode}
use Rattle.byteorder.specs.Endian.{big_bytes}
use Rattle.byteorder.specs.Numbers.{big_number-reads_back}
use Rattle.dis_file.specs.declared.object.Object.{Object}
use Rattle.dis_file.specs.declared.object.Item.{Item}
use Rattle.dis_file.specs.declared.object.LinkEntry.{LinkEntry}
use Rattle.dis_file.specs.declared.object.Import.{Import}
use Rattle.dis_file.specs.declared.object.Catch.{Catch}
use Rattle.dis_file.specs.declared.object.CatchArm.{CatchArm}
use Rattle.dis_file.specs.declared.types.TypeDesc.{TypeDesc}
use Rattle.dis_format.specs.Parts.{has_imports, has_catches}
use Rattle.dis_text.specs.Listing.{hex_digit, hex_byte, hex, signature, ◌␣◌, inst_line, type_line, item_line, link_line}
use Rattle.dis_text.specs.Listing.{import_line, arm_text, catch_line, numbered, table_lines, head_line, entry_line}
use Rattle.dis_text.specs.Listing.{imports_lines, catches_lines, listing_of}
use Rattle.dis_text.specs.Shown.{present, AreNarrow, ShowsSame, IsPlainText, IsWord, AreByteValues, IsPlainType}
use Rattle.dis_text.specs.Shown.{IsPlainItem, IsPlainLink, IsPlainImport, IsPlainArm, IsPlainCatch, IsPlain, SameEach}
use Rattle.dis_text.specs.Shown.{ShowsSameObject}
use Rattle.dis_text.proofs.Lines.{all, both, all-append, Stops, cut, not_both, is_digit, digits_are, digits_pass}
use Rattle.dis_text.proofs.Lines.{decimal_injective, begins_not, differ, is_letter, no_newline, strip, shows_after}
use Rattle.std.proofs.lemmas.Fmt.{decimal_nonempty}

-- ---- fields of a line

tail_same : (c : ℕ) (us vs : List ℕ) → c ∷ us ≡ c ∷ vs → us ≡ vs
tail_same c us vs e = strip (c ∷ []) us vs e

abbrev Both : {A : Type 0} → A → A → List ℕ → List ℕ → Type 0
Both x y us vs = (x ≡ y) × (us ≡ vs)

-- two numbers in front of a mark
cut_decimal : (c m n : ℕ) (us vs : List ℕ) → is_digit c ≡ false → m < 2 ^ 64 → n < 2 ^ 64
    → decimal m ++ c ∷ us ≡ decimal n ++ c ∷ vs → Both m n us vs
cut_decimal c m n us vs mark a b e =
    let k = cut is_digit (decimal m) (decimal n) (c ∷ us) (c ∷ vs) (digits_pass is_digit digits_are m a)
    (digits_pass is_digit digits_are n b) mark mark e in
    (decimal_injective m n a b k.0, tail_same c us vs k.1)

-- a character that is no digit begins no number
no_number : {A : Type 0} (c m : ℕ) (us vs : List ℕ) → is_digit c ≡ false → m < 2 ^ 64 → c ∷ us ≡ decimal m ++ vs → A
no_number c m us vs mark lt e =
    begins_not is_digit c us (decimal m) vs mark (digits_pass is_digit digits_are m lt) (decimal_nonempty m lt) e

wide : (n : ℕ) → IsWord n → n < 2 ^ 64
wide n lt = omega arith

-- ---- bytes

glyph_letter : (d : ℕ) → d < 16 → is_letter (hex_digit d) ≡ true
glyph_letter d lt = at (ltb d 10) refl
  where
    at : (b : Bool) → ltb d 10 ≡ b → is_letter (cond b (48 + d) (87 + d)) ≡ true
    at true is =
        rw (ne_eqb (48 + d) 32 (λ h. omega (arith, h)), ne_eqb (48 + d) 10 (λ h. omega (arith, h))) refl
    at false is =
        rw (ne_eqb (87 + d) 32 (λ h. omega (arith, h)), ne_eqb (87 + d) 10 (λ h. omega (arith, h))) refl

glyph_injective : (c d : ℕ) → c < 16 → d < 16 → hex_digit c ≡ hex_digit d → c ≡ d
glyph_injective c d a b e = at (ltb c 10) (ltb d 10) refl refl e
  where
    at : (p q : Bool) → ltb c 10 ≡ p → ltb d 10 ≡ q → cond p (48 + c) (87 + c) ≡ cond q (48 + d) (87 + d) → c ≡ d
    at true true pe qe e = omega arith
    at true false pe qe e = let lt = ltb-true _ _ pe in omega arith
    at false true pe qe e = let lt = ltb-true _ _ qe in omega arith
    at false false pe qe e = omega arith

digits_letters : (bs : List ℕ) → AreByteValues bs → all is_letter (flat_map hex_byte bs) ≡ true
digits_letters [] h = refl
digits_letters (b ∷ bs) h =
    let lt = h.0 in
    rw (glyph_letter (b / 16) (omega arith), glyph_letter (b % 16) (omega arith)) (digits_letters bs h.1)

bytes_injective : (bs cs : List ℕ) → AreByteValues bs → AreByteValues cs → flat_map hex_byte bs ≡ flat_map hex_byte cs → bs ≡ cs
bytes_injective [] [] a b e = refl
bytes_injective [] (c ∷ cs) a b e = absurd cc
bytes_injective (b ∷ bs) [] a h e = absurd cc
bytes_injective (b ∷ bs) (c ∷ cs) a h e =
    let u = a.0 in
    let v = h.0 in
    let high : hex_digit (b / 16) ≡ hex_digit (c / 16) = cc in
    let low : hex_digit (b % 16) ≡ hex_digit (c % 16) = cc in
    let rest : flat_map hex_byte bs ≡ flat_map hex_byte cs = cc in
    let x = glyph_injective (b / 16) (c / 16) (omega arith) (omega arith) high in
    let y = glyph_injective (b % 16) (c % 16) (omega arith) (omega arith) low in
    let first : b ≡ c = omega arith in
    let others : bs ≡ cs = bytes_injective bs cs a.1 h.1 rest in cc

hex_letters : (bs : List ℕ) → AreByteValues bs → all is_letter (hex bs) ≡ true
hex_letters [] h = refl
hex_letters (b ∷ bs) h = digits_letters (b ∷ bs) h

glyph_no_minus : {A : Type 0} (d : ℕ) → d < 16 → hex_digit d ≡ 45 → A
glyph_no_minus d lt e = at (ltb d 10) refl e
  where
    at : {A : Type 0} (b : Bool) → ltb d 10 ≡ b → cond b (48 + d) (87 + d) ≡ 45 → A
    at true is e = absurd (omega arith)
    at false is e = absurd (omega arith)

hex_injective : (bs cs : List ℕ) → AreByteValues bs → AreByteValues cs → hex bs ≡ hex cs → bs ≡ cs
hex_injective [] [] a b e = refl
hex_injective [] (c ∷ cs) a b e =
    let v = b.0 in let first : hex_digit (c / 16) ≡ 45 = cc in glyph_no_minus (c / 16) (omega arith) first
hex_injective (b ∷ bs) [] a h e =
    let v = a.0 in let first : hex_digit (b / 16) ≡ 45 = cc in glyph_no_minus (b / 16) (omega arith) first
hex_injective (b ∷ bs) (c ∷ cs) a h e = bytes_injective (b ∷ bs) (c ∷ cs) a h e

cut_hex : (bs cs us vs : List ℕ) → AreByteValues bs → AreByteValues cs → hex bs ++ 10 ∷ us ≡ hex cs ++ 10 ∷ vs → Both bs cs us vs
cut_hex bs cs us vs a b e =
    let k = cut is_letter (hex bs) (hex cs) (10 ∷ us) (10 ∷ vs) (hex_letters bs a) (hex_letters cs b) refl refl e in
    (hex_injective bs cs a b k.0, tail_same 10 us vs k.1)

sign_bytes : (n : ℕ) → AreByteValues (big_bytes 4 n)
sign_bytes n = (omega arith, (omega arith, (omega arith, (omega arith, tt))))

cut_sign : (m n : ℕ) (us vs : List ℕ) → IsWord m → IsWord n → signature m ++ 32 ∷ us ≡ signature n ++ 32 ∷ vs → Both m n us vs
cut_sign m n us vs a b e =
    let k = cut is_letter (signature m) (signature n) (32 ∷ us) (32 ∷ vs) (digits_letters (big_bytes 4 m) (sign_bytes
    m))
    (digits_letters (big_bytes 4 n) (sign_bytes n)) refl refl e in
    let same = bytes_injective (big_bytes 4 m) (big_bytes 4 n) (sign_bytes m) (sign_bytes n) k.0 in
    (same_sign same, tail_same 32 us vs k.1)
  where
    same_sign : big_bytes 4 m ≡ big_bytes 4 n → m ≡ n
    same_sign same =
        sym (big_number-reads_back 4 m [] a)
        ∙ ap (λ (bs : List ℕ). Rattle.byteorder.specs.Endian.big_from 0 4 (bs ++ [])) same
        ∙ big_number-reads_back 4 n [] b

-- ---- texts

-- a test that holds from 128 on holds of the bytes of a character where it holds of the character
char_passes : (p : ℕ → Bool) → ((c : ℕ) → 128 ≤ c → p c ≡ true) → (c : ℕ) → p c ≡ true → all p (encode c) ≡ true
unfolding encode
char_passes p h c is = at (ltb c 128) (ltb c 2048) (ltb c 65536) refl refl refl
  where
    at : (q r s : Bool) → ltb c 128 ≡ q → ltb c 2048 ≡ r → ltb c 65536 ≡ s → all p (encode c) ≡ true
    at true r s eq er es = rw (eq, is) refl
    at false true s eq er es =
        rw (eq, er, h (192 + c / 64) (omega arith), h (128 + c % 64) (omega arith)) refl
    at false false true eq er es =
        rw (
          eq,
          er,
          es,
          h (224 + c / 4096) (omega arith),
          h (128 + c / 64 % 64) (omega arith),
          h (128 + c % 64) (omega arith),
        ) refl
    at false false false eq er es =
        rw (
          eq,
          er,
          es,
          h (240 + c / 262144) (omega arith),
          h (128 + c / 4096 % 64) (omega arith),
          h (128 + c / 64 % 64) (omega arith),
          h (128 + c % 64) (omega arith),
        ) refl

text_passes : (p : ℕ → Bool) → ((c : ℕ) → 128 ≤ c → p c ≡ true) → (t : List ℕ) → AllByRecursion (λ c. p c ≡ true) t
    → all p (encode_utf8_all t) ≡ true
text_passes p h [] a = refl
text_passes p h (c ∷ cs) a =
    all-append p (encode c) (encode_utf8_all cs) (char_passes p h c a.0) (text_passes p h cs a.1)

abbrev no_quote : ℕ → Bool
no_quote c = not (c == 34)

one_line : (t : List ℕ) → IsPlainText t → AllByRecursion (λ c. no_newline c ≡ true) t
one_line [] a = tt
one_line (c ∷ cs) a = ((both (no_newline c) (no_quote c) a.0).0, one_line cs a.1)

unquoted : (t : List ℕ) → IsPlainText t → AllByRecursion (λ c. no_quote c ≡ true) t
unquoted [] a = tt
unquoted (c ∷ cs) a = ((both (no_newline c) (no_quote c) a.0).1, unquoted cs a.1)

past_newline : (c : ℕ) → 128 ≤ c → no_newline c ≡ true
past_newline c le = rw (ne_eqb c 10 (λ h. omega (arith, h))) refl

past_quote : (c : ℕ) → 128 ≤ c → no_quote c ≡ true
past_quote c le = rw (ne_eqb c 34 (λ h. omega (arith, h))) refl

cut_name : (s t us vs : List ℕ) → IsPlainText s → IsPlainText t
    → encode_utf8_all s ++ 10 ∷ us ≡ encode_utf8_all t ++ 10 ∷ vs → Both s t us vs
cut_name s t us vs a b e =
    let k = cut no_newline (encode_utf8_all s) (encode_utf8_all t) (10 ∷ us) (10 ∷ vs)
    (text_passes no_newline past_newline s (one_line s a)) (text_passes no_newline past_newline t (one_line t b))
    refl refl e in
    (encodes_same s t k.0, tail_same 10 us vs k.1)

cut_quoted : (s t us vs : List ℕ) → IsPlainText s → IsPlainText t
    → encode_utf8_all s ++ 34 ∷ us ≡ encode_utf8_all t ++ 34 ∷ vs → Both s t us vs
cut_quoted s t us vs a b e =
    let k = cut no_quote (encode_utf8_all s) (encode_utf8_all t) (34 ∷ us) (34 ∷ vs)
    (text_passes no_quote past_quote s (unquoted s a)) (text_passes no_quote past_quote t (unquoted t b)) refl refl e in
    (encodes_same s t k.0, tail_same 34 us vs k.1)

-- ---- lines, each in front of the rest

abbrev Reads : {A : Type 0} → (A → List ℕ) → (A → Type 0) → (A → A → Type 0) → Type 0
Reads {A} line P R = (x y : A) → P x → P y → (us vs : List ℕ) → line x ++ us ≡ line y ++ vs → R x y × (us ≡ vs)

abbrev Same : {A : Type 0} → A → A → Type 0
Same x y = x ≡ y

abbrev type_shape : ℕ → TypeDesc → List ℕ → List ℕ
type_shape n t us = decimal n ++ 32 ∷ (codes "size " ++ (decimal t.size ++ 32 ∷ (codes "map " ++ (hex t.map ++ 10 ∷ us))))

type_is : (n : ℕ) (t : TypeDesc) (us : List ℕ) → type_line n t ++ us ≡ type_shape n t us
unfolding type_line
type_is n t us = simp append_assoc

type_same : (x y : TypeDesc) → x.size ≡ y.size → x.map ≡ y.map → x ≡ y
type_same x y a b =
    let f : ℕ → TypeDesc = λ s. record { size = s; map = x.map } in
    let g : List ℕ → TypeDesc = λ m. record { size = y.size; map = m } in
    let first : x ≡ f y.size = ap f a in
    let second : f y.size ≡ y = ap g b in first ∙ second

reads_type : (n : ℕ) → n < 2 ^ 64 → Reads (type_line n) IsPlainType Same
reads_type n lt x y a b us vs e =
    let line : type_shape n x us ≡ type_shape n y vs = sym (type_is n x us) ∙ e ∙ type_is n y vs in
    let s = cut_decimal 32 n n _ _ refl lt lt line in
    let size_line = strip (codes "size ") _ _ s.1 in
    let k = cut_decimal 32 x.size y.size _ _ refl (wide x.size a.0) (wide y.size b.0) size_line in
    let map_line = strip (codes "map ") _ _ k.1 in
    let m = cut_hex x.map y.map us vs a.1 b.1 map_line in
    (type_same x y k.0 m.0, m.1)

abbrev item_shape : Item → List ℕ → List ℕ
item_shape i us =
    decimal i.kind ++ 32 ∷ (decimal i.count ++ 32 ∷ (decimal i.offset ++ 32 ∷ (hex i.content ++ 10 ∷ us)))

item_is : (i : Item) (us : List ℕ) → item_line i ++ us ≡ item_shape i us
unfolding item_line
item_is i us = simp append_assoc

item_same : (x y : Item) → x.kind ≡ y.kind → x.count ≡ y.count → x.offset ≡ y.offset → x.content ≡ y.content → x ≡ y
item_same x y a b c d =
    let f : ℕ → Item = λ n. record { kind = n; count = x.count; offset = x.offset; content = x.content } in
    let g : ℕ → Item = λ n. record { kind = y.kind; count = n; offset = x.offset; content = x.content } in
    let h : ℕ → Item = λ n. record { kind = y.kind; count = y.count; offset = n; content = x.content } in
    let k : List ℕ → Item = λ n. record { kind = y.kind; count = y.count; offset = y.offset; content = n } in
    let first : x ≡ f y.kind = ap f a in
    let second : f y.kind ≡ g y.count = ap g b in
    let third : g y.count ≡ h y.offset = ap h c in
    let fourth : h y.offset ≡ y = ap k d in first ∙ second ∙ third ∙ fourth

reads_item : Reads item_line IsPlainItem Same
reads_item x y a b us vs e =
    let line : item_shape x us ≡ item_shape y vs = sym (item_is x us) ∙ e ∙ item_is y vs in
    let k = cut_decimal 32 x.kind y.kind _ _ refl (wide x.kind a.0) (wide y.kind b.0) line in
    let l = cut_decimal 32 x.count y.count _ _ refl (wide x.count a.1) (wide y.count b.1) k.1 in
    let m = cut_decimal 32 x.offset y.offset _ _ refl (wide x.offset a.2) (wide y.offset b.2) l.1 in
    let n = cut_hex x.content y.content us vs a.3 b.3 m.1 in
    (item_same x y k.0 l.0 m.0 n.0, n.1)

abbrev link_shape : LinkEntry → List ℕ → List ℕ
link_shape l us =
    decimal l.pc ++ 32 ∷ (decimal l.frame ++ 32 ∷ (signature l.sign ++ 32 ∷ (encode_utf8_all l.name ++ 10 ∷ us)))

link_is : (l : LinkEntry) (us : List ℕ) → link_line l ++ us ≡ link_shape l us
unfolding link_line
link_is l us = simp append_assoc

link_same : (x y : LinkEntry) → x.pc ≡ y.pc → x.frame ≡ y.frame → x.sign ≡ y.sign → x.name ≡ y.name → x ≡ y
link_same x y a b c d =
    let f : ℕ → LinkEntry = λ n. record { pc = n; frame = x.frame; sign = x.sign; name = x.name } in
    let g : ℕ → LinkEntry = λ n. record { pc = y.pc; frame = n; sign = x.sign; name = x.name } in
    let h : ℕ → LinkEntry = λ n. record { pc = y.pc; frame = y.frame; sign = n; name = x.name } in
    let k : List ℕ → LinkEntry = λ n. record { pc = y.pc; frame = y.frame; sign = y.sign; name = n } in
    let first : x ≡ f y.pc = ap f a in
    let second : f y.pc ≡ g y.frame = ap g b in
    let third : g y.frame ≡ h y.sign = ap h c in
    let fourth : h y.sign ≡ y = ap k d in first ∙ second ∙ third ∙ fourth

reads_link : Reads link_line IsPlainLink Same
reads_link x y a b us vs e =
    let line : link_shape x us ≡ link_shape y vs = sym (link_is x us) ∙ e ∙ link_is y vs in
    let k = cut_decimal 32 x.pc y.pc _ _ refl (wide x.pc a.0) (wide y.pc b.0) line in
    let l = cut_decimal 32 x.frame y.frame _ _ refl (wide x.frame a.1) (wide y.frame b.1) k.1 in
    let m = cut_sign x.sign y.sign _ _ a.2 b.2 l.1 in
    let n = cut_name x.name y.name us vs a.3 b.3 m.1 in
    (link_same x y k.0 l.0 m.0 n.0, n.1)

abbrev import_shape : ℕ → Import → List ℕ → List ℕ
import_shape table i us =
    codes "table " ++ (decimal table ++ 32 ∷ (signature i.sign ++ 32 ∷ (encode_utf8_all i.name ++ 10 ∷ us)))

import_is : (table : ℕ) (i : Import) (us : List ℕ) → import_line table i ++ us ≡ import_shape table i us
unfolding import_line
import_is table i us = simp append_assoc

import_same : (x y : Import) → x.sign ≡ y.sign → x.name ≡ y.name → x ≡ y
import_same x y a b =
    let f : ℕ → Import = λ n. record { sign = n; name = x.name } in
    let g : List ℕ → Import = λ n. record { sign = y.sign; name = n } in
    let first : x ≡ f y.sign = ap f a in
    let second : f y.sign ≡ y = ap g b in first ∙ second

reads_import : (table : ℕ) → table < 2 ^ 64 → Reads (import_line table) IsPlainImport Same
reads_import table lt x y a b us vs e =
    let line : import_shape table x us ≡ import_shape table y vs =
    sym (import_is table x us) ∙ e ∙ import_is table y vs in
    let s = cut_decimal 32 table table _ _ refl lt lt (strip (codes "table ") _ _ line) in
    let m = cut_sign x.sign y.sign _ _ a.0 b.0 s.1 in
    let n = cut_name x.name y.name us vs a.1 b.1 m.1 in
    (import_same x y m.0 n.0, n.1)

-- ---- lists of lines

same_list : {A : Type 0} (line : A → List ℕ) (P : A → Type 0) (R : A → A → Type 0) → Reads line P R → (xs ys : List A)
    → length xs ≡ length ys → AllByRecursion P xs → AllByRecursion P ys → (us vs : List ℕ)
    → flat_map line xs ++ us ≡ flat_map line ys ++ vs → SameEach R xs ys × (us ≡ vs)
same_list line P R reads [] [] n a b us vs e = (tt, e)
same_list line P R reads [] (y ∷ ys) n a b us vs e = absurd (omega arith)
same_list line P R reads (x ∷ xs) [] n a b us vs e = absurd (omega arith)
same_list line P R reads (x ∷ xs) (y ∷ ys) n a b us vs e =
    let grouped : line x ++ (flat_map line xs ++ us) ≡ line y ++ (flat_map line ys ++ vs) =
    sym (append_assoc (line x) (flat_map line xs) us) ∙ e ∙ append_assoc (line y) (flat_map line ys) vs in
    let k = reads x y a.0 b.0 (flat_map line xs ++ us) (flat_map line ys ++ vs) grouped in
    let l = same_list line P R reads xs ys (omega arith) a.1 b.1 us vs k.1 in
    ((k.0, l.0), l.1)

same_numbered : {A : Type 0} (line : ℕ → A → List ℕ) (P : A → Type 0) (R : A → A → Type 0)
    → ((n : ℕ) → n < 2 ^ 64 → Reads (line n) P R) → (n : ℕ) (xs ys : List A) → length xs ≡ length ys
    → n + length xs < 2 ^ 64 → AllByRecursion P xs → AllByRecursion P ys → (us vs : List ℕ)
    → numbered line n xs ++ us ≡ numbered line n ys ++ vs → SameEach R xs ys × (us ≡ vs)
same_numbered line P R reads n [] [] m lt a b us vs e = (tt, e)
same_numbered line P R reads n [] (y ∷ ys) m lt a b us vs e = absurd (omega arith)
same_numbered line P R reads n (x ∷ xs) [] m lt a b us vs e = absurd (omega arith)
same_numbered line P R reads n (x ∷ xs) (y ∷ ys) m lt a b us vs e =
    let grouped : line n x ++ (numbered line (suc n) xs ++ us) ≡ line n y ++ (numbered line (suc n) ys ++ vs) =
    sym (append_assoc (line n x) (numbered line (suc n) xs) us) ∙ e
    ∙ append_assoc (line n y) (numbered line (suc n) ys) vs in
    let k = reads n (omega arith) x y a.0 b.0 (numbered line (suc n) xs ++ us) (numbered line (suc n) ys ++ vs)
    grouped in
    let l = same_numbered line P R reads (suc n) xs ys (omega arith) (omega arith) a.1 b.1 us vs k.1 in
    ((k.0, l.0), l.1)

each_same : {A : Type 0} (xs ys : List A) → SameEach Same xs ys → xs ≡ ys
each_same [] [] h = refl
each_same [] (y ∷ ys) h = absurd h
each_same (x ∷ xs) [] h = absurd h
each_same (x ∷ xs) (y ∷ ys) h =
    let first : x ≡ y = h.0 in
    let others : xs ≡ ys = each_same xs ys h.1 in cc

-- items, up to the letter that begins the next section
item_first : {A : Type 0} (y : Item) (ys : List Item) (us vs : List ℕ) → IsPlainItem y
    → 108 ∷ us ≡ flat_map item_line (y ∷ ys) ++ vs → A
item_first y ys us vs b e =
    let line : 108 ∷ us ≡ item_shape y (flat_map item_line ys ++ vs) =
    e ∙ append_assoc (item_line y) (flat_map item_line ys) vs ∙ item_is y (flat_map item_line ys ++ vs) in
    no_number 108 y.kind us _ refl (wide y.kind b.0) line

same_items : (xs ys : List Item) → AllByRecursion IsPlainItem xs → AllByRecursion IsPlainItem ys → (us vs : List ℕ)
    → flat_map item_line xs ++ 108 ∷ us ≡ flat_map item_line ys ++ 108 ∷ vs → Both xs ys us vs
same_items [] [] a b us vs e = (refl, tail_same 108 us vs e)
same_items [] (y ∷ ys) a b us vs e = item_first y ys us (108 ∷ vs) b.0 e
same_items (x ∷ xs) [] a b us vs e = item_first x xs vs (108 ∷ us) a.0 (sym e)
same_items (x ∷ xs) (y ∷ ys) a b us vs e =
    let grouped : item_line x ++ (flat_map item_line xs ++ 108 ∷ us) ≡ item_line y ++ (flat_map item_line ys ++ 108 ∷
    vs) =
    sym (append_assoc (item_line x) (flat_map item_line xs) (108 ∷ us)) ∙ e
    ∙ append_assoc (item_line y) (flat_map item_line ys) (108 ∷ vs) in
    let k = reads_item x y a.0 b.0 _ _ grouped in
    let l = same_items xs ys a.1 b.1 us vs k.1 in
    let first : x ≡ y = k.0 in
    let others : xs ≡ ys = l.0 in (cc, l.1)

-- arms, up to the newline
abbrev arm_shape : CatchArm → List ℕ → List ℕ
arm_shape a us =
    32 ∷ (decimal a.kind ++ 32 ∷ (34 ∷ (encode_utf8_all a.text ++ 34 ∷ (32 ∷ (decimal a.pc ++ us)))))

arm_is : (a : CatchArm) (us : List ℕ) → arm_text a ++ us ≡ arm_shape a us
unfolding arm_text
arm_is a us = simp append_assoc

arms_stop : (xs : List CatchArm) (us : List ℕ) → Stops is_digit (flat_map arm_text xs ++ 10 ∷ us)
unfolding arm_text
arms_stop [] us = refl
arms_stop (x ∷ xs) us = refl

arm_same : (x y : CatchArm) → x.kind ≡ y.kind → x.text ≡ y.text → x.pc ≡ y.pc → x ≡ y
arm_same x y a b c =
    let f : ℕ → CatchArm = λ n. record { kind = n; text = x.text; pc = x.pc } in
    let g : List ℕ → CatchArm = λ n. record { kind = y.kind; text = n; pc = x.pc } in
    let h : ℕ → CatchArm = λ n. record { kind = y.kind; text = y.text; pc = n } in
    let first : x ≡ f y.kind = ap f a in
    let second : f y.kind ≡ g y.text = ap g b in
    let third : g y.text ≡ y = ap h c in first ∙ second ∙ third

reads_arm : (x y : CatchArm) → IsPlainArm x → IsPlainArm y → (us vs : List ℕ) → Stops is_digit us → Stops is_digit vs
    → arm_text x ++ us ≡ arm_text y ++ vs → Both x y us vs
reads_arm x y a b us vs s t e =
    let line : arm_shape x us ≡ arm_shape y vs = sym (arm_is x us) ∙ e ∙ arm_is y vs in
    let k = cut_decimal 32 x.kind y.kind _ _ refl (wide x.kind a.0) (wide y.kind b.0) (tail_same 32 _ _ line) in
    let l = cut_quoted x.text y.text _ _ a.1 b.1 (tail_same 34 _ _ k.1) in
    let m = cut is_digit (decimal x.pc) (decimal y.pc) us vs (digits_pass is_digit digits_are x.pc (wide x.pc a.2))
    (digits_pass is_digit digits_are y.pc (wide y.pc b.2)) s t (tail_same 32 _ _ l.1) in
    (arm_same x y k.0 l.0 (decimal_injective x.pc y.pc (wide x.pc a.2) (wide y.pc b.2) m.0), m.1)

arm_first : {A : Type 0} (y : CatchArm) (ys : List CatchArm) (us vs : List ℕ)
    → 10 ∷ us ≡ flat_map arm_text (y ∷ ys) ++ vs → A
unfolding arm_text
arm_first y ys us vs e = differ 10 32 us _ refl e

same_arms : (xs ys : List CatchArm) → AllByRecursion IsPlainArm xs → AllByRecursion IsPlainArm ys → (us vs : List ℕ)
    → flat_map arm_text xs ++ 10 ∷ us ≡ flat_map arm_text ys ++ 10 ∷ vs → Both xs ys us vs
same_arms [] [] a b us vs e = (refl, tail_same 10 us vs e)
same_arms [] (y ∷ ys) a b us vs e = arm_first y ys us (10 ∷ vs) e
same_arms (x ∷ xs) [] a b us vs e = arm_first x xs vs (10 ∷ us) (sym e)
same_arms (x ∷ xs) (y ∷ ys) a b us vs e =
    let grouped : arm_text x ++ (flat_map arm_text xs ++ 10 ∷ us) ≡ arm_text y ++ (flat_map arm_text ys ++ 10 ∷ vs) =
    sym (append_assoc (arm_text x) (flat_map arm_text xs) (10 ∷ us)) ∙ e
    ∙ append_assoc (arm_text y) (flat_map arm_text ys) (10 ∷ vs) in
    let k = reads_arm x y a.0 b.0 _ _ (arms_stop xs us) (arms_stop ys vs) grouped in
    let l = same_arms xs ys a.1 b.1 us vs k.1 in
    let first : x ≡ y = k.0 in
    let others : xs ≡ ys = l.0 in (cc, l.1)

abbrev catch_shape : Catch → List ℕ → List ℕ
catch_shape c us =
    decimal c.first ++ 32 ∷ (decimal c.end ++ 32 ∷ (decimal c.offset ++ (flat_map arm_text c.arms ++ 10 ∷ us)))

catch_is : (c : Catch) (us : List ℕ) → catch_line c ++ us ≡ catch_shape c us
unfolding catch_line
catch_is c us = simp append_assoc

catch_same : (x y : Catch) → x.first ≡ y.first → x.end ≡ y.end → x.offset ≡ y.offset → x.arms ≡ y.arms → x ≡ y
catch_same x y a b c d =
    let f : ℕ → Catch = λ n. record { first = n; end = x.end; offset = x.offset; arms = x.arms } in
    let g : ℕ → Catch = λ n. record { first = y.first; end = n; offset = x.offset; arms = x.arms } in
    let h : ℕ → Catch = λ n. record { first = y.first; end = y.end; offset = n; arms = x.arms } in
    let k : List CatchArm → Catch = λ n. record { first = y.first; end = y.end; offset = y.offset; arms = n } in
    let first : x ≡ f y.first = ap f a in
    let second : f y.first ≡ g y.end = ap g b in
    let third : g y.end ≡ h y.offset = ap h c in
    let fourth : h y.offset ≡ y = ap k d in first ∙ second ∙ third ∙ fourth

reads_catch : Reads catch_line IsPlainCatch Same
reads_catch x y a b us vs e =
    let line : catch_shape x us ≡ catch_shape y vs = sym (catch_is x us) ∙ e ∙ catch_is y vs in
    let k = cut_decimal 32 x.first y.first _ _ refl (wide x.first a.0) (wide y.first b.0) line in
    let l = cut_decimal 32 x.end y.end _ _ refl (wide x.end a.1) (wide y.end b.1) k.1 in
    let m = cut is_digit (decimal x.offset) (decimal y.offset) (flat_map arm_text x.arms ++ 10 ∷ us)
    (flat_map arm_text y.arms ++ 10 ∷ vs) (digits_pass is_digit digits_are x.offset (wide x.offset a.2))
    (digits_pass is_digit digits_are y.offset (wide y.offset b.2)) (arms_stop x.arms us) (arms_stop y.arms vs) l.1 in
    let n = same_arms x.arms y.arms a.3 b.3 us vs m.1 in
    (catch_same x y k.0 l.0 (decimal_injective x.offset y.offset (wide x.offset a.2) (wide y.offset b.2) m.0) n.0, n.1)

-- four lists in a row
regroup : (a b c d : List ℕ) → ((a ++ b) ++ c) ++ d ≡ a ++ (b ++ (c ++ d))
regroup a b c d = simp append_assoc

-- ---- tables of imports: the number in front of each entry tells its table

abbrev begins_table : List ℕ → Bool
begins_table [] = false
begins_table (c ∷ cs) = eqb c 116

-- no later table, and nothing behind the tables, begins with an entry of this one
later_not : {A : Type 0} (k : ℕ) (j : Import) (n : ℕ) (ts : List (List Import)) (us rest : List ℕ) → k < n → k < 2 ^ 64
    → n + length ts < 2 ^ 64 → begins_table us ≡ false
    → numbered table_lines n ts ++ us ≡ import_line k j ++ rest → A
later_not k j n [] us rest lt small few t e =
    let first : begins_table us ≡ true = ap begins_table (e ∙ import_is k j rest) in not_both (begins_table us) first t
later_not k j n ([] ∷ ts) us rest lt small few t e =
    later_not k j (suc n) ts us rest (omega arith) small (omega arith) t e
later_not k j n ((i ∷ is) ∷ ts) us rest lt small few t e =
    let others = flat_map (import_line n) is in
    let grouped : import_shape n i (others ++ (numbered table_lines (suc n) ts ++ us)) ≡ import_shape k j rest =
    sym (import_is n i (others ++ (numbered table_lines (suc n) ts ++ us)))
    ∙ sym (regroup (import_line n i) others (numbered table_lines (suc n) ts) us) ∙ e ∙ import_is k j rest in
    let s = cut_decimal 32 n k _ _ refl (omega arith) small (strip (codes "table ") _ _ grouped) in
    let same : n ≡ k = s.0 in absurd (omega arith)

-- the entries of one table, with the later tables behind them
same_entries : (k : ℕ) (t s : List Import) (ts ss : List (List Import)) → length ts ≡ length ss
    → suc k + length ts < 2 ^ 64 → AllByRecursion IsPlainImport t → AllByRecursion IsPlainImport s
    → AllByRecursion (AllByRecursion IsPlainImport) ts → AllByRecursion (AllByRecursion IsPlainImport) ss
    → (us vs : List ℕ) → begins_table us ≡ false → begins_table vs ≡ false
    → flat_map (import_line k) t ++ (numbered table_lines (suc k) ts ++ us)
    ≡ flat_map (import_line k) s ++ (numbered table_lines (suc k) ss ++ vs)
    → (t ≡ s) × (numbered table_lines (suc k) ts ++ us ≡ numbered table_lines (suc k) ss ++ vs)
same_entries k [] [] ts ss n lt a b c d us vs p q e = (refl, e)
same_entries k [] (j ∷ s) ts ss n lt a b c d us vs p q e =
    later_not k j (suc k) ts us _ (omega arith) (omega arith) lt p
    (e ∙ append_assoc (import_line k j) (flat_map (import_line k) s) (numbered table_lines (suc k) ss ++ vs))
same_entries k (i ∷ t) [] ts ss n lt a b c d us vs p q e =
    later_not k i (suc k) ss vs _ (omega arith) (omega arith) (omega arith) q
    (sym e ∙ append_assoc (import_line k i) (flat_map (import_line k) t) (numbered table_lines (suc k) ts ++ us))
same_entries k (i ∷ t) (j ∷ s) ts ss n lt a b c d us vs p q e =
    let back = numbered table_lines (suc k) ts ++ us in
    let behind = numbered table_lines (suc k) ss ++ vs in
    let grouped : import_line k i ++ (flat_map (import_line k) t ++ back) ≡ import_line k j ++ (flat_map (import_line
    k) s ++ behind) =
    sym (append_assoc (import_line k i) (flat_map (import_line k) t) back) ∙ e
    ∙ append_assoc (import_line k j) (flat_map (import_line k) s) behind in
    let r = reads_import k (omega arith) i j a.0 b.0 _ _ grouped in
    let l = same_entries k t s ts ss n lt a.1 b.1 c d us vs p q r.1 in
    let first : i ≡ j = r.0 in
    let others : t ≡ s = l.0 in (cc, l.1)

same_tables : (k : ℕ) (ts ss : List (List Import)) → length ts ≡ length ss → k + length ts < 2 ^ 64
    → AllByRecursion (AllByRecursion IsPlainImport) ts → AllByRecursion (AllByRecursion IsPlainImport) ss
    → (us vs : List ℕ) → begins_table us ≡ false → begins_table vs ≡ false
    → numbered table_lines k ts ++ us ≡ numbered table_lines k ss ++ vs → Both ts ss us vs
same_tables k [] [] n lt a b us vs p q e = (refl, e)
same_tables k [] (s ∷ ss) n lt a b us vs p q e = absurd (omega arith)
same_tables k (t ∷ ts) [] n lt a b us vs p q e = absurd (omega arith)
same_tables k (t ∷ ts) (s ∷ ss) n lt a b us vs p q e =
    let grouped : flat_map (import_line k) t ++ (numbered table_lines (suc k) ts ++ us)
    ≡ flat_map (import_line k) s ++ (numbered table_lines (suc k) ss ++ vs) =
    sym (append_assoc (flat_map (import_line k) t) (numbered table_lines (suc k) ts) us) ∙ e
    ∙ append_assoc (flat_map (import_line k) s) (numbered table_lines (suc k) ss) vs in
    let l = same_entries k t s ts ss (omega arith) (omega arith) a.0 b.0 a.1 b.1 us vs p q grouped in
    let m = same_tables (suc k) ts ss (omega arith) (omega arith) a.1 b.1 us vs p q l.1 in
    let first : t ≡ s = l.0 in
    let others : ts ≡ ss = m.0 in (cc, m.1)

-- ---- sections

head_is : (w : List ℕ) (n : ℕ) (us : List ℕ) → head_line w n ++ us ≡ w ++ 32 ∷ (decimal n ++ 10 ∷ us)
head_is w n us = simp append_assoc

cut_head : (w : List ℕ) (m n : ℕ) (us vs : List ℕ) → m < 2 ^ 64 → n < 2 ^ 64 → head_line w m ++ us ≡ head_line w n ++ vs
    → Both m n us vs
cut_head w m n us vs a b e =
    let line : w ++ 32 ∷ (decimal m ++ 10 ∷ us) ≡ w ++ 32 ∷ (decimal n ++ 10 ∷ vs) =
    sym (head_is w m us) ∙ e ∙ head_is w n vs in
    cut_decimal 10 m n us vs refl a b (tail_same 32 _ _ (strip w _ _ line))

empty_is : {A : Type 0} (xs : List A) → eqb (length xs) 0 ≡ true → xs ≡ []
empty_is [] h = refl
empty_is (x ∷ xs) h = let none : length (x ∷ xs) ≡ 0 = eqb-true _ _ h in absurd (omega arith)

or_false : (a b : Bool) → a ≡ false → (a || b) ≡ true → b ≡ true
or_false true b f h = absurd cc
or_false false b f h = h

catches_not_tables : (o : Object) → begins_table (catches_lines o) ≡ false
unfolding catches_lines
catches_not_tables o = at (has_catches o.flags)
  where
    at : (b : Bool) → begins_table (cond b (head_line (codes "catches") (length o.catches) ++ flat_map catch_line
        o.catches) []) ≡ false
    at true = refl
    at false = refl

same_catches : (o p : Object) → IsPlain o → IsPlain p → o.flags ≡ p.flags → catches_lines o ≡ catches_lines p → o.catches ≡ p.catches
unfolding catches_lines
same_catches o p a b flags e = at (has_catches o.flags) refl (sym (ap has_catches flags))
  where
    at : (z : Bool) → has_catches o.flags ≡ z → has_catches p.flags ≡ has_catches o.flags → o.catches ≡ p.catches
    at true is same =
        let there : has_catches p.flags ≡ true = same ∙ is in
        let full : head_line (codes "catches") (length o.catches) ++ flat_map catch_line o.catches
        ≡ head_line (codes "catches") (length p.catches) ++ flat_map catch_line p.catches = rw (is, there) at e in
        let k = cut_head (codes "catches") (length o.catches) (length p.catches) _ _ a.catches_few b.catches_few full in
        let lines : flat_map catch_line o.catches ++ [] ≡ flat_map catch_line p.catches ++ [] =
        ap (λ (l : List ℕ). l ++ []) k.1 in
        each_same o.catches p.catches
        (same_list catch_line IsPlainCatch Same reads_catch o.catches p.catches k.0 a.catches b.catches [] [] lines).0
    at false is same =
        empty_is o.catches (or_false _ _ is a.catches_there)
        ∙ sym (empty_is p.catches (or_false _ _ (same ∙ is) b.catches_there))

same_imports : (o p : Object) → IsPlain o → IsPlain p → o.flags ≡ p.flags
    → imports_lines o ++ catches_lines o ≡ imports_lines p ++ catches_lines p
    → (o.imports ≡ p.imports) × (catches_lines o ≡ catches_lines p)
unfolding imports_lines
same_imports o p a b flags e = at (has_imports o.flags) refl (sym (ap has_imports flags))
  where
    at : (z : Bool) → has_imports o.flags ≡ z → has_imports p.flags ≡ has_imports o.flags
        → (o.imports ≡ p.imports) × (catches_lines o ≡ catches_lines p)
    at true is same =
        let there : has_imports p.flags ≡ true = same ∙ is in
        let full : (head_line (codes "imports") (length o.imports) ++ numbered table_lines 0 o.imports) ++
        catches_lines o
        ≡ (head_line (codes "imports") (length p.imports) ++ numbered table_lines 0 p.imports) ++ catches_lines p =
        rw (is, there) at e in
        let grouped : head_line (codes "imports") (length o.imports) ++ (numbered table_lines 0 o.imports ++
        catches_lines o)
        ≡ head_line (codes "imports") (length p.imports) ++ (numbered table_lines 0 p.imports ++ catches_lines p) =
        sym (append_assoc (head_line (codes "imports") (length o.imports)) (numbered table_lines 0 o.imports)
        (catches_lines o))
        ∙ full
        ∙ append_assoc (head_line (codes "imports") (length p.imports)) (numbered table_lines 0 p.imports)
        (catches_lines p) in
        let k = cut_head (codes "imports") (length o.imports) (length p.imports) _ _ a.imports_few b.imports_few
        grouped in
        same_tables 0 o.imports p.imports k.0 (let h = a.imports_few in omega arith) a.imports b.imports
        (catches_lines o)
        (catches_lines p) (catches_not_tables o) (catches_not_tables p) k.1
    at false is same =
        let there : has_imports p.flags ≡ false = same ∙ is in
        let short : catches_lines o ≡ catches_lines p = rw (is, there) at e in (
          empty_is o.imports (or_false _ _ is a.imports_there)
              ∙ sym (empty_is p.imports (or_false _ _ there b.imports_there)),
          short,
        )

abbrev links_on : Object → List ℕ
links_on o =
    head_line (codes "links") (length o.links) ++ (flat_map link_line o.links ++ (imports_lines o ++ catches_lines o))

abbrev data_on : Object → List ℕ
data_on o = head_line (codes "data") o.data_size ++ (flat_map item_line o.items ++ links_on o)

abbrev types_on : Object → List ℕ
types_on o = head_line (codes "types") (length o.types) ++ (numbered type_line 0 o.types ++ data_on o)

abbrev code_on : Object → List ℕ
code_on o = head_line (codes "code") (length o.insts) ++ (numbered inst_line 0 o.insts ++ types_on o)

title_is : (name us : List ℕ) → (codes "module" ␣ (encode_utf8_all name ++ codes "\n")) ++ us
    ≡ codes "module " ++ (encode_utf8_all name ++ 10 ∷ us)
title_is name us = simp append_assoc

abbrev entry_shape : Object → List ℕ → List ℕ
entry_shape o us =
    codes "flags " ++ (decimal o.flags ++ 32 ∷ (codes "stack " ++ (decimal o.stack ++ 32 ∷ (codes "entry "
    ++ (decimal o.entry_pc ++ 32 ∷ (codes "type " ++ (decimal o.entry_type ++ 10 ∷ us)))))))

entry_is : (o : Object) (us : List ℕ) → entry_line o ++ us ≡ entry_shape o us
unfolding entry_line
entry_is o us = simp append_assoc

record Entry (o p : Object) (us vs : List ℕ) : Type 0 where
  flags : o.flags ≡ p.flags
  stack : o.stack ≡ p.stack
  entry_pc : o.entry_pc ≡ p.entry_pc
  entry_type : o.entry_type ≡ p.entry_type
  rest : us ≡ vs

same_entry : (o p : Object) → IsPlain o → IsPlain p → (us vs : List ℕ) → entry_line o ++ us ≡ entry_line p ++ vs → Entry o p us vs
same_entry o p a b us vs e =
    let line : entry_shape o us ≡ entry_shape p vs = sym (entry_is o us) ∙ e ∙ entry_is p vs in
    let k = cut_decimal 32 o.flags p.flags _ _ refl (wide o.flags a.flags) (wide p.flags b.flags) (strip (codes
    "flags ") _ _ line) in
    let l = cut_decimal 32 o.stack p.stack _ _ refl (wide o.stack a.stack) (wide p.stack b.stack) (strip (codes
    "stack ") _ _ k.1) in
    let m = cut_decimal 32 o.entry_pc p.entry_pc _ _ refl (wide o.entry_pc a.entry_pc) (wide p.entry_pc b.entry_pc)
    (strip (codes "entry ") _ _ l.1) in
    let n = cut_decimal 10 o.entry_type p.entry_type us vs refl (wide o.entry_type a.entry_type)
    (wide p.entry_type b.entry_type) (strip (codes "type ") _ _ m.1) in
    record { flags = k.0; stack = l.0; entry_pc = m.0; entry_type = n.0; rest = n.1 }

record Rest (o p : Object) : Type 0 where
  items : o.items ≡ p.items
  data_size : o.data_size ≡ p.data_size
  links : o.links ≡ p.links
  imports : o.imports ≡ p.imports
  catches : o.catches ≡ p.catches

same_rest : (o p : Object) → IsPlain o → IsPlain p → o.flags ≡ p.flags → data_on o ≡ data_on p → Rest o p
same_rest o p a b flags e =
    let d = cut_head (codes "data") o.data_size p.data_size _ _ (wide o.data_size a.data_size) (wide p.data_size
    b.data_size) e in
    let i = same_items o.items p.items a.items b.items _ _ d.1 in
    let on : links_on o ≡ links_on p = ap (λ (l : List ℕ). 108 ∷ l) i.1 in
    let n = cut_head (codes "links") (length o.links) (length p.links) _ _ a.links_few b.links_few on in
    let l = same_list link_line IsPlainLink Same reads_link o.links p.links n.0 a.links b.links _ _ n.1 in
    let m = same_imports o p a b flags l.1 in
    record {
      items = i.0;
      data_size = d.0;
      links = each_same o.links p.links l.0;
      imports = m.0;
      catches = same_catches o p a b flags m.1;
    }

reads_inst : (n : ℕ) → n < 2 ^ 64 → Reads (inst_line n) (λ i. AreNarrow (present i)) ShowsSame
reads_inst n lt i j a b us vs e = shows_after n i j a b us vs e

pub same_object : (o p : Object) → IsPlain o → IsPlain p → listing_of o ≡ listing_of p → ShowsSameObject o p
same_object o p a b e =
    let whole : codes "module " ++ (encode_utf8_all o.«module» ++ 10 ∷ (entry_line o ++ code_on o))
    ≡ codes "module " ++ (encode_utf8_all p.«module» ++ 10 ∷ (entry_line p ++ code_on p)) =
    sym (title_is o.«module» (entry_line o ++ code_on o)) ∙ e ∙ title_is p.«module» (entry_line p ++ code_on p) in
    let t = cut_name o.«module» p.«module» _ _ a.name b.name (strip (codes "module ") _ _ whole) in
    let f = same_entry o p a b (code_on o) (code_on p) t.1 in
    let c = cut_head (codes "code") (length o.insts) (length p.insts) _ _ a.insts_few b.insts_few f.rest in
    let i = same_numbered inst_line (λ i. AreNarrow (present i)) ShowsSame reads_inst 0 o.insts p.insts c.0
    (let h = a.insts_few in omega arith) a.insts b.insts (types_on o) (types_on p) c.1 in
    let y = cut_head (codes "types") (length o.types) (length p.types) _ _ a.types_few b.types_few i.1 in
    let z = same_numbered type_line IsPlainType Same reads_type 0 o.types p.types y.0
    (let h = a.types_few in omega arith) a.types b.types (data_on o) (data_on p) y.1 in
    let r = same_rest o p a b f.flags z.1 in
    record {
      flags = f.flags;
      stack = f.stack;
      data_size = r.data_size;
      entry_pc = f.entry_pc;
      entry_type = f.entry_type;
      insts = i.0;
      types = each_same o.types p.types z.0;
      items = r.items;
      name = t.0;
      links = r.links;
      imports = r.imports;
      catches = r.catches;
    }
