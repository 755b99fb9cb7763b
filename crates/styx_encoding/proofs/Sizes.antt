-- How long texts and entries are, and what writing them one by one gives.
use Rattle.std.proofs.Common.{◌≡◌, ℕ, zero, suc, ◌+◌, ◌≤◌, ◌<◌, true, cond, ltb, List, []}
use Rattle.std.proofs.Common.{◌∷◌, ◌++◌, length, get_or, take, drop, Option, Some, None, refl, sym, ap, subst}
use Rattle.std.proofs.Common.{◌∙◌, arith, inl, inr, add-one, drop-cons, length-append}
use Rattle.std.specs.Prelude.{encode_utf8_all, encode_utf8}
use Rattle.std.specs.Char.{len_utf8}
use Rattle.std.specs.List.{AllByRecursion}
use Rattle.std.proofs.lemmas.Bool.{cases_lt, lt-ltb, le-ltb}
use Rattle.std.proofs.lemmas.List.{append-nil, take_more, take_all, drop_all}
use Rattle.std.proofs.lemmas.Str.{encodes-append, encodes_same, length-encode, IsUtf8-append}
use Rattle.std.specs.Str.{IsUtf8, all_scalars}
use Rattle.byteorder.specs.Endian.{little_bytes}
use Rattle.styx_msg.specs.declared.fault.StyxFault.{StyxFault}
use Rattle.styx_msg.specs.declared.fault.StyxFault.TheVariants.{NoMemory, BadSize, BadType, BadBody, TooLong}
use Rattle.styx_msg.specs.declared.message.Stat.{Stat}
use Rattle.styx_msg.specs.Answers.{FailsAs}
use Rattle.inf_text.specs.Options.{◌>>=◌}
use Rattle.styx_msg.specs.Styx.{size, entry, entry_bytes, entry_fields}
use Rattle.styx_encoding.specs.Writing.{text_size, put_text, put_each, put, put_all, entry_size, put_entry}

-- ---- characters

-- one character more
pub encode_more : (cs : List ℕ) (i c : ℕ) → i < length cs → c ≡ get_or cs i c
    → encode_utf8_all (take (i + 1) cs) ≡ encode_utf8_all (take i cs) ++ encode_utf8 c
encode_more cs i c lt is =
    let one : encode_utf8_all (get_or cs i c ∷ []) ≡ encode_utf8 c =
    ap (λ (d : ℕ). encode_utf8_all (d ∷ [])) (sym is) ∙ append-nil (encode_utf8 c) in
    ap encode_utf8_all (take_more cs i c lt) ∙ encodes-append (take i cs) (get_or cs i c ∷ [])
    ∙ ap (λ (e : List ℕ). encode_utf8_all (take i cs) ++ e) one

pub length-encode_more : (cs : List ℕ) (i c n : ℕ) → i < length cs → c ≡ get_or cs i c → n
    ≡ length (encode_utf8_all (take i cs)) → n + len_utf8 c ≡ length (encode_utf8_all (take (i + 1) cs))
length-encode_more cs i c n lt is e =
    let more = ap length (encode_more cs i c lt is) in
    omega (arith, more, e, length-append (encode_utf8_all (take i cs)) (encode_utf8 c), length-encode c)

pub utf8_more : (cs : List ℕ) (i c : ℕ) → i < length cs → c ≡ get_or cs i c
    → IsUtf8 (encode_utf8_all (take i cs)) → IsUtf8 (encode_utf8 c) → IsUtf8 (encode_utf8_all (take (i + 1) cs))
utf8_more cs i c lt is so_far here =
    subst (λ (bs : List ℕ). IsUtf8 bs) (sym (encode_more cs i c lt is)) (IsUtf8-append (encode_utf8_all
    (take i cs)) (encode_utf8 c) so_far here)

-- what spells well-formed UTF-8 is characters
pub scalars_are : (cs : List ℕ) → IsUtf8 (encode_utf8_all cs) → all_scalars cs ≡ true
scalars_are cs u = subst (λ (x : List ℕ). all_scalars x ≡ true) (encodes_same u.0 cs u.1.1) u.1.0

-- ---- the size of a text

pub text_size-none : (cs : List ℕ) → 65535 < length (encode_utf8_all cs) → text_size cs ≡ None
unfolding text_size
text_size-none cs lt = rw (lt-ltb 65535 (length (encode_utf8_all cs)) lt) refl

pub text_size-some : (cs : List ℕ) (n : ℕ) → n ≡ length (encode_utf8_all cs) → n ≤ 65535 → text_size cs ≡ Some n
unfolding text_size
text_size-some cs n e le =
    let short : length (encode_utf8_all cs) ≤ 65535 = omega arith in
    rw (le-ltb 65535 (length (encode_utf8_all cs)) short) (ap Some (sym e))

-- ---- names one after the other

each_step : (out : List ℕ) (ns : List (List ℕ)) (i : ℕ) (n : List ℕ) → i < length ns → n ≡ get_or ns i n
    → put_each out (drop i ns) ≡ (put_text out n >>= λ after. put_each after (drop (i + 1) ns))
unfolding put_each
each_step out ns i n lt is =
    ap (put_each out) (drop-cons ns i n lt) ∙ rw (← is, add-one) refl

pub each_goes_on : (out after : List ℕ) (ns : List (List ℕ)) (i : ℕ) (n : List ℕ) (total : Option (List ℕ))
    → i < length ns → n ≡ get_or ns i n → put_text out n ≡ Some after → put_each out (drop i ns) ≡ total
    → put_each after (drop (i + 1) ns) ≡ total
each_goes_on out after ns i n total lt is here so_far =
    let one : put_each out (drop i ns) ≡ put_each after (drop (i + 1) ns) = each_step out ns i n lt is
    ∙ rw here refl in
    sym one ∙ so_far

each_none : (out : List ℕ) (ns : List (List ℕ)) (i : ℕ) (n : List ℕ) (total : Option (List ℕ)) → i < length ns
    → n ≡ get_or ns i n → put_text out n ≡ None → put_each out (drop i ns) ≡ total → total ≡ None
each_none out ns i n total lt is here so_far =
    let one : put_each out (drop i ns) ≡ None = each_step out ns i n lt is ∙ rw here refl in
    sym so_far ∙ one

pub each_ends : (e : StyxFault) (out : List ℕ) (ns : List (List ℕ)) (i : ℕ) (n : List ℕ) (total : Option
    (List ℕ)) → i < length ns → n ≡ get_or ns i n → FailsAs TooLong e (put_text out n)
    → put_each out (drop i ns) ≡ total → FailsAs TooLong e total
each_ends NoMemory out ns i n total lt is h so_far = tt
each_ends BadSize out ns i n total lt is h so_far = h
each_ends BadType out ns i n total lt is h so_far = h
each_ends BadBody out ns i n total lt is h so_far = absurd cc
each_ends TooLong out ns i n total lt is h so_far = (refl, each_none out ns i n total lt is h.1 so_far)

pub each_done : (out : List ℕ) (ns : List (List ℕ)) (i : ℕ) (total : Option (List ℕ)) → length ns ≤ i
    → put_each out (drop i ns) ≡ total → total ≡ Some out
unfolding put_each
each_done out ns i total le so_far =
    let one : put_each out (drop i ns) ≡ Some out = ap (put_each out) (drop_all i ns le) in
    sym so_far ∙ one

-- one element more
all_suc : {A : Type 0} (P : A → Type 0) (xs : List A) (i : ℕ) (x : A) → i < length xs → x ≡ get_or xs i x
    → AllByRecursion P (take i xs) → P x → AllByRecursion P (take (suc i) xs)
all_suc P [] i x lt is so_far here = absurd (omega arith)
all_suc P (y ∷ ys) zero x lt is so_far here = (subst P is here, tt)
all_suc P (y ∷ ys) (suc i) x lt is so_far here = (so_far.0, all_suc P ys i x (omega arith) is so_far.1 here)

pub all_more : {A : Type 0} (P : A → Type 0) (xs : List A) (i : ℕ) (x : A) → i < length xs → x ≡ get_or xs i x
    → AllByRecursion P (take i xs) → P x → AllByRecursion P (take (i + 1) xs)
all_more P xs i x lt is so_far here = rw add-one (all_suc P xs i x lt is so_far here)

pub all_done : {A : Type 0} (P : A → Type 0) (xs : List A) (i : ℕ) → length xs ≤ i
    → AllByRecursion P (take i xs) → AllByRecursion P xs
all_done {A} P xs i le so_far = subst (λ (x : List A). AllByRecursion P x) (take_all i xs le) so_far

-- ---- an entry

two_sizes : (n : ℕ) (out : List ℕ) (f : List ℕ → Option (List ℕ))
    → cond (ltb 65535 (n + 2)) None (f ((out ++ little_bytes 2 (n + 2)) ++ little_bytes 2 n))
    ≡ (put out (size (n + 2)) >>= λ after. put after (size n) >>= f)
two_sizes n out f =
    elim (cases_lt 65535 (n + 2)) [
      | inl lt ↦ rw (lt-ltb 65535 (n + 2) lt) refl
      | inr le ↦ let le' : n ≤ 65535 = omega arith in rw (le-ltb 65535 (n + 2) le, le-ltb 65535 n le') refl
    ]

two_sizes-none : (n : ℕ) (out : List ℕ) (f : List ℕ → Option (List ℕ)) → ((o : List ℕ) → f o ≡ None)
    → (put out (size (n + 2)) >>= λ after. put after (size n) >>= f) ≡ None
two_sizes-none n out f none =
    sym (two_sizes n out f) ∙ elim (cases_lt 65535 (n + 2)) [
      | inl lt ↦ rw (lt-ltb 65535 (n + 2) lt) refl
      | inr le ↦ rw (le-ltb 65535 (n + 2) le) (none _)
    ]

pub length-entry_bytes : (s : Stat) → length (entry_bytes s)
    ≡ 47 + length (encode_utf8_all s.name) + length (encode_utf8_all s.uid) + length
    (encode_utf8_all s.gid) + length (encode_utf8_all s.muid)
unfolding entry_bytes
length-entry_bytes s = simp length-append (omega arith)

some_size : (cs : List ℕ) (n : ℕ) → text_size cs ≡ Some n → n ≡ length (encode_utf8_all cs)
unfolding text_size
some_size cs n e =
    elim (cases_lt 65535 (length (encode_utf8_all cs))) [
      | inl lt ↦ let none = text_size-none cs lt in absurd cc
      | inr le ↦ let some = text_size-some cs (length (encode_utf8_all cs)) refl le in cc
    ]

some_entry : (out : List ℕ) (s : Stat) (n : ℕ) → entry_size s ≡ Some n → n ≡ length (entry_bytes s)
    → put_entry out s ≡ put_all out (entry s)
unfolding put_entry entry
some_entry out s n e is = rw (e, is) (two_sizes (length (entry_bytes s)) out (λ o. put_all o (entry_fields s)))

no_entry : (out : List ℕ) (s : Stat) → entry_size s ≡ None → ((o : List ℕ) → put_all o (entry_fields s) ≡ None)
    → put_entry out s ≡ put_all out (entry s)
unfolding put_entry entry
no_entry out s e none = rw e (sym (two_sizes-none (length (entry_bytes s)) out (λ o. put_all o
    (entry_fields s)) none))

entry_is : (out : List ℕ) (s : Stat) (a b c d : Option ℕ) → text_size s.name ≡ a → text_size s.uid ≡ b
    → text_size s.gid ≡ c → text_size s.muid ≡ d → put_entry out s ≡ put_all out (entry s)
unfolding entry_size put_text
entry_is out s None b c d ea eb ec ed = no_entry out s (rw ea refl) (λ o. rw ea refl)
entry_is out s (Some a) None c d ea eb ec ed = no_entry out s (rw (ea, eb) refl) (λ o. rw (ea, eb) refl)
entry_is out s (Some a) (Some b) None d ea eb ec ed =
    no_entry out s (rw (ea, eb, ec) refl) (λ o. rw (ea, eb, ec) refl)
entry_is out s (Some a) (Some b) (Some c) None ea eb ec ed =
    no_entry out s (rw (ea, eb, ec, ed) refl) (λ o. rw (ea, eb, ec, ed) refl)
entry_is out s (Some a) (Some b) (Some c) (Some d) ea eb ec ed =
    some_entry out s (47 + a + b + c + d) (rw (ea, eb, ec, ed) refl) (omega (
      arith,
      length-entry_bytes s,
      some_size s.name a ea,
      some_size s.uid b eb,
      some_size s.gid c ec,
      some_size s.muid d ed,
    ))

pub put_entry-is : (out : List ℕ) (s : Stat) → put_entry out s ≡ put_all out (entry s)
put_entry-is out s = entry_is out s (text_size s.name) (text_size s.uid) (text_size s.gid)
    (text_size s.muid) refl refl refl refl
