-- What writing gives: the spelling of fields that aren't too long, and nothing where one is.
use Rattle.std.proofs.Common.{◌≡◌, ℕ, ◌+◌, ◌^◌, ◌≤◌, ◌<◌, cond, ltb, List, [], ◌∷◌, ◌++◌, length, drop}
use Rattle.std.proofs.Common.{Option, Some, None, Result, Ok, Err, refl, sym, ap, subst, ◌∙◌, append_assoc}
use Rattle.std.proofs.Common.{arith, inl, inr, length-append}
use Rattle.std.specs.Prelude.{◌⊎◌, ⊤, encode_utf8_all, MatchResult, OnOk}
use Rattle.std.specs.Global.{Vec}
use Rattle.std.specs.List.{flat_map, AllByRecursion}
use Rattle.std.proofs.lemmas.Bool.{cases_lt, lt-ltb, le-ltb}
use Rattle.std.proofs.lemmas.List.{append-nil}
use Rattle.byteorder.specs.Endian.{little_bytes}
use Rattle.styx_msg.specs.declared.fault.StyxFault.{StyxFault}
use Rattle.styx_msg.specs.declared.fault.StyxFault.TheVariants.{NoMemory, BadSize, BadType, BadBody, TooLong}
use Rattle.styx_msg.specs.declared.message.Qid.{Qid}
use Rattle.styx_msg.specs.declared.message.Stat.{Stat}
use Rattle.styx_msg.specs.declared.message.Tmsg.{Tmsg}
use Rattle.styx_msg.specs.declared.message.Tmsg.TheVariants as t
use Rattle.styx_msg.specs.declared.message.Rmsg.{Rmsg}
use Rattle.styx_msg.specs.declared.message.Rmsg.TheVariants as r
use Rattle.styx_msg.specs.Styx.{Field, number, size, text, qid, names, qids, counted, text_bytes, qid_bytes}
use Rattle.styx_msg.specs.Styx.{field_bytes, fields_bytes, entry, entry_bytes, entry_fields, Row, t_row, r_row}
use Rattle.styx_msg.specs.Styx.{IsShortField, IsShortEnough, IsField, Fits}
use Rattle.inf_text.specs.Options.{◌>>=◌}
use Rattle.styx_encoding.specs.Writing.{put_text, put_each, put_names, put_qids, put_counted, put, put_all}
use Rattle.styx_msg.specs.Answers.{FailsAs, Gives, IsEncoding}
use Rattle.styx_msg.specs.Answers.{OrNoMemory}
use Rattle.styx_encoding.proofs.Sizes.{text_size-none, text_size-some}

-- under the condition the value is written, and otherwise nothing is
abbrev Puts : Type 0 → Option (List ℕ) → List ℕ → Type 0
Puts P written out = (P × (written ≡ Some out)) ⊎ ((P → ⊥) × (written ≡ None))

both : (P Q : Type 0) (written : Option (List ℕ)) (next : List ℕ → Option (List ℕ)) (out end : List ℕ)
    → Puts P written out → Puts Q (next out) end → Puts (P × Q) (written >>= next) end
both P Q written next out end (inl p) (inl q) = inl ((p.0, q.0), ap (λ (x : Option (List ℕ)). x >>= next) p.1 ∙ q.1)
both P Q written next out end (inl p) (inr q) = inr (λ x. q.0 x.1, ap (λ (x : Option (List ℕ)). x >>= next) p.1 ∙ q.1)
both P Q written next out end (inr p) q = inr (λ x. p.0 x.0, ap (λ (x : Option (List ℕ)). x >>= next) p.1)

moved : (P : Type 0) (written : Option (List ℕ)) (out end : List ℕ) → out ≡ end → Puts P written out
    → Puts P written end
moved P written out end e puts = subst (λ (x : List ℕ). Puts P written x) e puts

guarded : (Q : Type 0) (limit n : ℕ) (next : Option (List ℕ)) (end : List ℕ) → Puts Q next end
    → Puts ((n ≤ limit) × Q) (cond (ltb limit n) None next) end
guarded Q limit n next end puts =
    elim (cases_lt limit n) [
      | inl lt ↦ inr (λ x. omega (arith, x.0), rw (lt-ltb limit n lt) refl)
      | inr le ↦ rw (le-ltb limit n le) (elim puts [ inl p ↦ inl ((le, p.0), p.1) | inr p ↦ inr (λ x. p.0 x.1, p.1) ])
    ]

guarded_some : (limit n : ℕ) (end : List ℕ) → Puts (n ≤ limit) (cond (ltb limit n) None (Some end)) end
guarded_some limit n end =
    elim (cases_lt limit n) [
      | inl lt ↦ inr (λ x. omega (arith, x), rw (lt-ltb limit n lt) refl)
      | inr le ↦ inl (le, rw (le-ltb limit n le) refl)
    ]

-- ---- texts and names

abbrev IsShortText : List ℕ → Type 0
IsShortText chars = length (encode_utf8_all chars) ≤ 65535

text_puts : (out chars : List ℕ) → Puts (IsShortText chars) (put_text out chars) (out ++ text_bytes chars)
unfolding put_text
text_puts out chars =
    elim (cases_lt 65535 (length (encode_utf8_all chars))) [
      | inl lt ↦ inr (λ x. omega (arith, x), rw (text_size-none chars lt) refl)
      | inr le ↦ inl (
        le,
        rw (text_size-some chars (length (encode_utf8_all chars)) refl le) (ap (λ
            (x : List ℕ). Some x) (append_assoc out (little_bytes 2 (length (encode_utf8_all chars)))
            (encode_utf8_all chars))),
      )
    ]

each_puts : (out : List ℕ) (ns : List (List ℕ))
    → Puts (AllByRecursion IsShortText ns) (put_each out ns) (out ++ flat_map text_bytes ns)
unfolding put_each
each_puts out [] = inl (tt, ap (λ (x : List ℕ). Some x) (sym (append-nil out)))
each_puts out (n ∷ ns) =
    moved _ _ _ _ (append_assoc out (text_bytes n) (flat_map text_bytes ns))
    (both (IsShortText n) (AllByRecursion IsShortText ns) (put_text out n) (λ after. put_each after ns)
    (out ++ text_bytes n) ((out ++ text_bytes n) ++ flat_map text_bytes ns) (text_puts out n) (each_puts
    (out ++ text_bytes n) ns))

names_puts : (out : List ℕ) (ns : List (List ℕ)) → Puts ((length ns ≤ 16)
    × AllByRecursion IsShortText ns) (put_names out ns) (out ++ (little_bytes 2
    (length ns) ++ flat_map text_bytes ns))
unfolding put_names
names_puts out ns =
    guarded (AllByRecursion IsShortText ns) 16 (length ns) (put_each (out ++ little_bytes 2 (length ns)) ns)
    (out ++ (little_bytes 2 (length ns) ++ flat_map text_bytes ns))
    (moved _ _ _ _ (append_assoc out (little_bytes 2 (length ns)) (flat_map text_bytes ns)) (each_puts
    (out ++ little_bytes 2 (length ns)) ns))

qids_puts : (out : List ℕ) (qs : List Qid)
    → Puts (length qs ≤ 16) (put_qids out qs) (out ++ (little_bytes 2 (length qs) ++ flat_map qid_bytes qs))
unfolding put_qids
qids_puts out qs = moved _ _ _ _ (append_assoc out (little_bytes 2 (length qs)) (flat_map qid_bytes qs))
    (guarded_some 16 (length qs) ((out ++ little_bytes 2 (length qs)) ++ flat_map qid_bytes qs))

counted_puts : (out piece : List ℕ) → Puts (length piece ≤ 8216) (put_counted out piece) (out ++ (little_bytes 4
    (length piece) ++ piece))
unfolding put_counted
counted_puts out piece = moved _ _ _ _ (append_assoc out (little_bytes 4 (length piece)) piece)
    (guarded_some 8216 (length piece) ((out ++ little_bytes 4 (length piece)) ++ piece))

-- ---- fields

-- what writing a field asks of it
abbrev IsSized : Field → Type 0
IsSized (number width n) = ⊤
IsSized (size n) = n ≤ 65535
IsSized (text chars) = IsShortText chars
IsSized (qid q) = ⊤
IsSized (names ns) = (length ns ≤ 16) × AllByRecursion IsShortText ns
IsSized (qids qs) = length qs ≤ 16
IsSized (counted piece) = length piece ≤ 8216

puts : (out : List ℕ) (f : Field) → Puts (IsSized f) (put out f) (out ++ field_bytes f)
puts out (number width n) = inl (tt, refl)
puts out (size n) = guarded_some 65535 n (out ++ little_bytes 2 n)
puts out (text chars) = text_puts out chars
puts out (qid q) = inl (tt, refl)
puts out (names ns) = names_puts out ns
puts out (qids qs) = qids_puts out qs
puts out (counted piece) = counted_puts out piece

all_puts : (out : List ℕ) (fs : List Field)
    → Puts (AllByRecursion IsSized fs) (put_all out fs) (out ++ fields_bytes fs)
all_puts out [] = inl (tt, ap (λ (x : List ℕ). Some x) (sym (append-nil out)))
all_puts out (f ∷ fs) =
    moved _ _ _ _ (append_assoc out (field_bytes f) (fields_bytes fs))
    (both (IsSized f) (AllByRecursion IsSized fs) (put out f) (λ after. put_all after fs) (out ++ field_bytes f)
    ((out ++ field_bytes f) ++ fields_bytes fs) (puts out f) (all_puts (out ++ field_bytes f) fs))

-- ---- what is too long

sized_short : (f : Field) → IsSized f → IsShortField f
sized_short (number width n) h = tt
sized_short (size n) h = tt
sized_short (text chars) h = h
sized_short (qid q) h = tt
sized_short (names ns) h = h
sized_short (qids qs) h = h
sized_short (counted piece) h = tt

all_short : (fs : List Field) → AllByRecursion IsSized fs → AllByRecursion IsShortField fs
all_short [] h = tt
all_short (f ∷ fs) h = (sized_short f h.0, all_short fs h.1)

-- a size fits its two bytes
abbrev SizeFits : Field → Type 0
SizeFits (number width n) = ⊤
SizeFits (size n) = n ≤ 65535
SizeFits (text chars) = ⊤
SizeFits (qid q) = ⊤
SizeFits (names ns) = ⊤
SizeFits (qids qs) = ⊤
SizeFits (counted piece) = ⊤

short_sized : (f : Field) → IsShortField f → SizeFits f → length (field_bytes f) ≤ 8209 → IsSized f
short_sized (number width n) h s le = tt
short_sized (size n) h s le = s
short_sized (text chars) h s le = h
short_sized (qid q) h s le = tt
short_sized (names ns) h s le = h
short_sized (qids qs) h s le = h
short_sized (counted piece) h s le = omega arith

all_sized : (fs : List Field) → AllByRecursion IsShortField fs → AllByRecursion SizeFits fs
    → length (fields_bytes fs) ≤ 8209 → AllByRecursion IsSized fs
all_sized [] h s le = tt
all_sized (f ∷ fs) h s le =
    let len = length-append (field_bytes f) (fields_bytes fs) in
    let first : length (field_bytes f) ≤ 8209 = omega (arith, len) in
    let others : length (fields_bytes fs) ≤ 8209 = omega (arith, len) in
    (short_sized f h.0 s.0 first, all_sized fs h.1 s.1 others)

entry_sizes : (s : Stat) → length (fields_bytes (entry s)) ≤ 8209 → AllByRecursion SizeFits (entry s)
unfolding entry entry_bytes
entry_sizes s short = (
  omega arith,
  (
    omega arith,
    (
      tt,
      (
        tt,
        (
          tt,
          (
            tt,
            (
              tt,
              (
                tt,
                (
                  tt,
                  (
                    tt,
                    (
                      tt,
                      (
                        tt,
                        (tt, tt),
                      ),
                    ),
                  ),
                ),
              ),
            ),
          ),
        ),
      ),
    ),
  ),
)

pub t_sizes : (m : Tmsg) → length (fields_bytes (t_row m).fields) ≤ 8209 → AllByRecursion SizeFits (t_row m).fields
unfolding entry entry_bytes
t_sizes (t.Version msize version) short = (tt, (tt, tt))
t_sizes (t.Auth afid uname aname) short = (tt, (tt, (tt, tt)))
t_sizes (t.Attach fid afid uname aname) short = (tt, (tt, (tt, (tt, tt))))
t_sizes (t.Flush oldtag) short = (tt, tt)
t_sizes (t.Walk fid newfid wname) short = (tt, (tt, (tt, tt)))
t_sizes (t.Open fid mode) short = (tt, (tt, tt))
t_sizes (t.Create fid name perm mode) short = (tt, (tt, (tt, (tt, tt))))
t_sizes (t.Read fid offset count) short = (tt, (tt, (tt, tt)))
t_sizes (t.Write fid offset piece) short = (tt, (tt, (tt, tt)))
t_sizes (t.Clunk fid) short = (tt, tt)
t_sizes (t.Remove fid) short = (tt, tt)
t_sizes (t.Stat fid) short = (tt, tt)
t_sizes (t.Wstat fid stat) short = (tt, entry_sizes stat (omega arith))

pub r_sizes : (m : Rmsg) → length (fields_bytes (r_row m).fields) ≤ 8209 → AllByRecursion SizeFits (r_row m).fields
unfolding entry entry_bytes
r_sizes (r.Version msize version) short = (tt, (tt, tt))
r_sizes (r.Auth aqid) short = (tt, tt)
r_sizes (r.Attach q) short = (tt, tt)
r_sizes (r.Error ename) short = (tt, tt)
r_sizes r.Flush short = tt
r_sizes (r.Walk wqid) short = (tt, tt)
r_sizes (r.Open q iounit) short = (tt, (tt, tt))
r_sizes (r.Create q iounit) short = (tt, (tt, tt))
r_sizes (r.Read piece) short = (tt, tt)
r_sizes (r.Write count) short = (tt, tt)
r_sizes r.Clunk short = tt
r_sizes r.Remove short = tt
r_sizes (r.Stat stat) short = entry_sizes stat (omega arith)
r_sizes r.Wstat short = tt

-- ---- encoding

written_is : (head out : List ℕ) (fs : List Field) → put_all head fs ≡ Some out → AllByRecursion IsSized fs
    × (out ≡ head ++ fields_bytes fs)
written_is head out fs e = elim (all_puts head fs) [
  | inl p ↦ let e' = p.1 in (p.0, cc)
  | inr p ↦ let e' =
      p.1 in absurd cc
]

unwritten : (head : List ℕ) (fs : List Field) → put_all head fs ≡ None → AllByRecursion IsSized fs → ⊥
unwritten head fs e = elim (all_puts head fs) [ inl p ↦ let e' = p.1 in absurd cc | inr p ↦ p.0 ]

whole_is : (tag : ℕ) (m : Row) (head out : List ℕ) → head
    ≡ little_bytes 4 0 ++ (little_bytes 1 m.type ++ little_bytes 2 tag) → out ≡ head ++ fields_bytes m.fields
    → (length out ≡ 7 + length (fields_bytes m.fields)) × (drop 4 out
    ≡ little_bytes 1 m.type ++ (little_bytes 2 tag ++ fields_bytes m.fields))
whole_is tag m head out is out-is =
    let whole : out ≡ (little_bytes 4 0 ++
    (little_bytes 1 m.type ++ little_bytes 2 tag)) ++ fields_bytes m.fields = out-is
    ∙ ap (λ (x : List ℕ). x ++ fields_bytes m.fields) is in
    (omega (arith, ap length whole), ap (drop 4) whole)

-- the head with the body and the size is the spelling
pub encoded : (tag : ℕ) (m : Row) (head out : List ℕ) (res : Result (Vec ℕ) StyxFault) → head
    ≡ little_bytes 4 0 ++ (little_bytes 1 m.type ++ little_bytes 2 tag) → put_all head m.fields ≡ Some out
    → MatchResult res (λ v. (length out ≤ 8216) × (v.items
    ≡ little_bytes 4 (length out) ++ drop 4 out)) (λ e. (e ≡ TooLong) × (8216 < length out))
    → IsEncoding tag m res
encoded tag m head out (Ok v) is written h =
    let p = written_is head out m.fields written in
    let w = whole_is tag m head out is p.1 in
    let len : 7 + length (fields_bytes m.fields) ≤ 8216 = omega (arith, w.0, h.0) in (
      (all_short m.fields p.0, len),
      h.1 ∙ ap (λ (n : ℕ). little_bytes 4 n ++ drop 4 out) w.0
          ∙ ap (λ (x : List ℕ). little_bytes 4 (7 + length (fields_bytes m.fields)) ++ x) w.1,
    )
encoded tag m head out (Err NoMemory) is written h = tt
encoded tag m head out (Err BadSize) is written h = let e = h.0 in absurd cc
encoded tag m head out (Err BadType) is written h = let e = h.0 in absurd cc
encoded tag m head out (Err BadBody) is written h = let e = h.0 in absurd cc
encoded tag m head out (Err TooLong) is written h = λ enough.
    let w = whole_is tag m head out is (written_is head out m.fields written).1 in
    omega (arith, w.0, h.1, enough.1)

-- a body that can't be written is too long
pub too_long : (tag : ℕ) (m : Row) (head : List ℕ) (e : StyxFault) → (length (fields_bytes m.fields) ≤ 8209
    → AllByRecursion SizeFits m.fields) → FailsAs TooLong e (put_all head m.fields) → IsEncoding tag m (Err e)
too_long tag m head NoMemory sizes h = tt
too_long tag m head BadSize sizes h = h
too_long tag m head BadType sizes h = h
too_long tag m head BadBody sizes h = let e = h.0 in absurd cc
too_long tag m head TooLong sizes h = λ enough.
    let le : length (fields_bytes m.fields) ≤ 8209 = omega (arith, enough.1) in
    unwritten head m.fields h.1 (all_sized m.fields enough.0 (sizes le) le)

pub long_enough : (head out : List ℕ) (fs : List Field) (tag type : ℕ) → head
    ≡ little_bytes 4 0 ++ (little_bytes 1 type ++ little_bytes 2 tag) → put_all head fs ≡ Some out → 4 ≤ length out
long_enough head out fs tag type is written =
    omega (arith, ap length is, ap length (written_is head out fs written).1, length-append head (fields_bytes fs))

-- an entry that is written has sizes that fit
pub entry_fits : (res : Result (Unit {0}) StyxFault) (out new : List ℕ) (s : Stat)
    → Gives TooLong (λ _. new) res (put_all out (entry s)) → OnOk res (AllByRecursion IsField (entry_fields s))
    → OnOk res (AllByRecursion IsField (entry s))
unfolding entry
entry_fits (Ok u) out new s written fits =
    let sized = (written_is out new (entry s) written).0 in
    (omega (arith, sized.0), (omega (arith, sized.1.0), fits))
entry_fits (Err e) out new s written fits = tt

-- a message that is encoded has a spelling
pub encoded_fits : (tag : ℕ) (m : Row) (res : Result (Vec ℕ) StyxFault) → tag < 2 ^ 16 → m.type < 2 ^ 8
    → AllByRecursion IsField m.fields → IsEncoding tag m res → OnOk res (Fits tag m)
encoded_fits tag m (Ok v) tag-fits type-fits fits h = record {
  type_fits = type-fits;
  tag_fits =
      tag-fits;
  fields_fit = fits;
  short = omega (arith, h.0.1);
}
encoded_fits tag m (Err e) tag-fits type-fits fits h = tt

pub refused : (tag : ℕ) (m : Row) (res : Result (Vec ℕ) StyxFault) → IsEncoding tag m res → (IsShortEnough m
    → ⊥) → OrNoMemory res (Err TooLong)
refused tag m (Ok v) h long = absurd (long h.0)
refused tag m (Err NoMemory) h long = inr refl
refused tag m (Err BadSize) h long = absurd h
refused tag m (Err BadType) h long = absurd h
refused tag m (Err BadBody) h long = absurd h
refused tag m (Err TooLong) h long = inl refl
