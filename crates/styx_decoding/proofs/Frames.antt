-- What the bytes of a message say of it, for both directions.
use Rattle.std.proofs.Common.{◌≡◌, ℕ, ◌+◌, ◌-◌, ◌^◌, ◌<◌, ◌≤◌, List, []}
use Rattle.std.proofs.Common.{◌++◌, length, take, drop, Option, Some, None, Result, Ok, Err, refl}
use Rattle.std.proofs.Common.{sym, ap, subst, ◌∙◌, arith, inl, inr}
use Rattle.std.proofs.lemmas.Bool.{le-ltb}
use Rattle.std.proofs.lemmas.List.{take_at, drop_at, drop-drop, take-append-drop, get_or-drop, length-append}
use Rattle.std.proofs.lemmas.List.{length-drop, length-take, append-nil, nil_from_length}
use Rattle.byteorder.specs.Endian.{little_bytes, little_number}
use Rattle.styx_msg.specs.declared.fault.StyxFault.{StyxFault}
use Rattle.styx_msg.specs.declared.fault.StyxFault.TheVariants.{NoMemory, BadSize, BadType, BadBody, TooLong}
use Rattle.styx_msg.specs.declared.message.Decoded.{Decoded}
use Rattle.styx_msg.specs.declared.message.Decoded.TheVariants.{Whole, Short}
use Rattle.styx_msg.specs.Answers.{FailsAs}
use Rattle.styx_msg.specs.Styx.{fields_bytes, Row, spelling, Fits, Begins, IsShort, IsFramed}
use Rattle.styx_msg.specs.Styx.{stated_size, stated_type, HasBadSize, HasBadType, HasType, HasBadBody}
use Rattle.styx_decoding.specs.Reading.{Read, number_at}
use Rattle.styx_msg.specs.Answers.{OrNoMemory}
use Rattle.styx_decoding.specs.Decoding.{IsAnswer, IsFrame}
use Rattle.styx_decoding.proofs.Fields.{IsBytes, IsBytes-drop, IsBytes-take, some_is, exact1}
use Rattle.styx_decoding.proofs.Fields.{exact2, exact4, AllFit}
use Rattle.styx_decoding.proofs.Rows.{Direction, row_takes}

numbered : (w : ℕ) (bytes : List ℕ) → w ≤ length bytes → number_at w bytes
    ≡ Some (little_number w bytes, drop w bytes)
numbered w bytes le = rw (le-ltb (length bytes) w le) refl

-- ---- the parts of a frame

-- what stands behind the size and the type
parts : (bytes body : List ℕ) (type tag size : ℕ) → IsBytes bytes → IsFrame bytes type tag body size → (bytes
    ≡ little_bytes 4 size ++ (little_bytes 1 type ++ (little_bytes 2 tag ++ (body ++ drop size bytes))))
    × (size ≡ 7 + length body) × (type < 2 ^ 8) × (tag < 2 ^ 16)
parts bytes body type tag size fits f =
    let long : 7 ≤ length bytes = omega (arith, f.framed) in
    let within : size ≤ length bytes = omega (arith, f.framed, f.size_is) in
    let least : 7 ≤ size = omega (arith, f.framed, f.size_is) in
    let a = exact4.takes bytes (little_number 4 bytes) (drop 4 bytes) fits (numbered 4 bytes (omega arith)) in
    let b = exact1.takes (drop 4 bytes) (little_number 1 (drop 4 bytes)) (drop 1 (drop 4 bytes)) a.0.rest_fits
    (numbered 1 (drop 4 bytes) (omega (arith, length-drop 4 bytes))) in
    let c = exact2.takes (drop 1 (drop 4 bytes)) (little_number 2 (drop 1 (drop 4 bytes))) (drop 2 (drop 1
    (drop 4 bytes))) b.0.rest_fits (numbered 2 (drop 1 (drop 4 bytes)) (omega (
      arith,
      length-drop 1
          (drop 4 bytes),
      length-drop 4 bytes,
    ))) in
    let type_eq : little_number 1 (drop 4 bytes) ≡ type = rw get_or-drop (omega (arith, f.type_is)) in
    let tag_eq : little_number 2 (drop 1 (drop 4 bytes)) ≡ tag = ap (little_number 2) (drop-drop 1 4 bytes)
    ∙ sym f.tag_is in
    let split : body ++ drop (size - 7) (drop 7 bytes) ≡ drop 7 bytes =
    ap (λ (x : List ℕ). x ++ drop (size - 7) (drop 7 bytes)) f.body_is
    ∙ take-append-drop (size - 7) (drop 7 bytes) in
    let past : drop (size - 7) (drop 7 bytes) ≡ drop size bytes = drop-drop (size - 7) 7 bytes
    ∙ ap (λ (k : ℕ). drop k bytes) (omega arith) in
    let tail : drop 2 (drop 1 (drop 4 bytes)) ≡ body ++ drop size bytes = ap (drop 2) (drop-drop 1 4 bytes)
    ∙ drop-drop 2 5 bytes ∙ sym split ∙ ap (λ (x : List ℕ). body ++ x) past in
    let third : drop 1 (drop 4 bytes) ≡ little_bytes 2 tag ++ (body ++ drop size bytes) = c.0.parts
    ∙ ap (λ (x : ℕ). little_bytes 2 x ++ drop 2 (drop 1 (drop 4 bytes))) tag_eq
    ∙ ap (λ (x : List ℕ). little_bytes 2 tag ++ x) tail in
    let second : drop 4 bytes ≡ little_bytes 1 type ++ (little_bytes 2 tag ++ (body ++ drop size bytes)) =
    b.0.parts ∙ ap (λ (x : ℕ). little_bytes 1 x ++ drop 1 (drop 4 bytes)) type_eq
    ∙ ap (λ (x : List ℕ). little_bytes 1 type ++ x) third in
    let all : bytes ≡ little_bytes 4 size ++ (little_bytes 1 type ++ (little_bytes 2 tag ++
    (body ++ drop size bytes))) = a.0.parts ∙ ap (λ (x : ℕ). little_bytes 4 x ++ drop 4 bytes)
    (sym f.size_is) ∙ ap (λ (x : List ℕ). little_bytes 4 size ++ x) second in
    let len : size ≡ 7 + length body = omega (
      arith,
      ap length f.body_is,
      length-take (size - 7)
          (drop 7 bytes),
      length-drop 7 bytes,
    ) in
    (all, len, subst (λ (x : ℕ). x < 2 ^ 8) type_eq b.1, subst (λ (x : ℕ). x < 2 ^ 16) tag_eq c.1)

pub body_bytes : (bytes body : List ℕ) (type tag size : ℕ) → IsBytes bytes → IsFrame bytes type tag body size
    → IsBytes body
body_bytes bytes body type tag size fits f =
    subst (λ (x : List ℕ). IsBytes x) (sym f.body_is) (IsBytes-take (size - 7) (drop 7 bytes)
    (IsBytes-drop 7 bytes fits))

-- ---- what a message's spelling says

pair_is : {A B : Type 0} (x : Option (A × B)) (a a' : A) (b b' : B) → x ≡ Some (a, b) → x ≡ Some (a', b') → (a
    ≡ a') × (b ≡ b')
pair_is {A} {B} x a a' b b' e e' =
    let p : (a, b) ≡ (a', b') = some_is (a, b) (a', b') (sym e ∙ e') in
    (ap (λ (q : A × B). q.0) p, ap (λ (q : A × B). q.1) p)

-- The parts of bytes that begin with a message are that message's.
pub determined : {M : Type 0} (table : M → Row) (bytes body : List ℕ) (type tag size tag' used : ℕ) (m : M)
    → IsFrame bytes type tag body size → Begins table bytes tag' m used → (size ≡ used) × (type
    ≡ (table m).type) × (tag ≡ tag') × (body ≡ fields_bytes (table m).fields)
determined table bytes body type tag size tag' used m f b =
    let rest = drop used bytes in
    let own = fields_bytes (table m).fields in
    let len : used ≡ 7 + length own = omega (arith, b.used_is) in
    let small : 7 + length own < 256 ^ 4 = omega (arith, b.fits.short) in
    let long : 7 ≤ length bytes = omega (arith, f.framed) in
    let after4 = little_bytes 1 (table m).type ++ (little_bytes 2 tag' ++ (own ++ rest)) in
    let after5 = little_bytes 2 tag' ++ (own ++ rest) in
    let is0 : number_at 4 bytes ≡ Some (7 + length own, after4) = ap (number_at 4) b.spelled
    ∙ exact4.again (7 + length own) after4 small in
    let p0 = pair_is (number_at 4 bytes) (little_number 4 bytes) (7 + length own) (drop 4 bytes) after4
    (numbered 4 bytes (omega arith)) is0 in
    let is1 : number_at 1 (drop 4 bytes) ≡ Some ((table m).type, after5) = ap (number_at 1) p0.1
    ∙ exact1.again (table m).type after5 b.fits.type_fits in
    let p1 = pair_is (number_at 1 (drop 4 bytes)) (little_number 1 (drop 4 bytes)) (table m).type (drop 1
    (drop 4 bytes)) after5 (numbered 1 (drop 4 bytes) (omega (arith, length-drop 4 bytes))) is1 in
    let is2 : number_at 2 (drop 1 (drop 4 bytes)) ≡ Some (tag', own ++ rest) = ap (number_at 2) p1.1
    ∙ exact2.again tag' (own ++ rest) b.fits.tag_fits in
    let p2 = pair_is (number_at 2 (drop 1 (drop 4 bytes))) (little_number 2 (drop 1 (drop 4 bytes))) tag'
    (drop 2 (drop 1 (drop 4 bytes))) (own ++ rest) (numbered 2 (drop 1 (drop 4 bytes)) (omega
    (arith, length-drop 1 (drop 4 bytes), length-drop 4 bytes))) is2 in
    let type_eq : little_number 1 (drop 4 bytes) ≡ type = rw get_or-drop (omega (arith, f.type_is)) in
    let tag_eq : little_number 2 (drop 1 (drop 4 bytes)) ≡ tag = ap (little_number 2) (drop-drop 1 4 bytes)
    ∙ sym f.tag_is in
    let seven : drop 7 bytes ≡ own ++ rest = sym (drop-drop 2 5 bytes)
    ∙ sym (ap (drop 2) (drop-drop 1 4 bytes)) ∙ p2.1 in
    let size-is : size ≡ 7 + length own = f.size_is ∙ p0.0 in
    let body-is : body ≡ own = f.body_is ∙ ap (take (size - 7)) seven ∙ take_at own rest (size - 7) (omega arith) in
    (size-is ∙ sym len, sym type_eq ∙ p1.0, sym tag_eq ∙ p2.0, body-is)

-- bytes that begin with a message are framed
pub framed : {M : Type 0} (table : M → Row) (bytes : List ℕ) (tag used : ℕ) (m : M)
    → Begins table bytes tag m used → IsFramed bytes
framed table bytes tag used m b =
    let own = fields_bytes (table m).fields in
    let rest = drop used bytes in
    let after4 = little_bytes 1 (table m).type ++ (little_bytes 2 tag ++ (own ++ rest)) in
    let small : 7 + length own < 256 ^ 4 = omega (arith, b.fits.short) in
    let len : 7 + length own ≤ length bytes = omega (arith, ap length b.spelled, length-append own rest) in
    let is0 : number_at 4 bytes ≡ Some (7 + length own, after4) = ap (number_at 4) b.spelled
    ∙ exact4.again (7 + length own) after4 small in
    let p0 = pair_is (number_at 4 bytes) (little_number 4 bytes) (7 + length own) (drop 4 bytes) after4
    (numbered 4 bytes (omega arith)) is0 in
    let is : stated_size bytes ≡ 7 + length own = p0.0 in
    let least : 7 ≤ stated_size bytes = rw is (omega arith) in
    let most : stated_size bytes ≤ 8216 = rw is (omega (arith, b.fits.short)) in
    let within : stated_size bytes ≤ length bytes = rw is len in
    (omega arith, (least, most), within)

-- every framed bytes have parts
frame_is : (bytes : List ℕ) → IsFramed bytes
    → IsFrame bytes (stated_type bytes) (little_number 2 (drop 5 bytes)) (take (stated_size bytes - 7)
    (drop 7 bytes)) (stated_size bytes)
frame_is bytes f = record { framed = f; size_is = refl; type_is = refl; tag_is = refl; body_is = refl }

pub type_of : {M : Type 0} (table : M → Row) (bytes : List ℕ) (tag used : ℕ) (m : M)
    → Begins table bytes tag m used → (table m).type ≡ stated_type bytes
type_of table bytes tag used m b = sym (determined table bytes (take (stated_size bytes - 7) (drop 7 bytes))
    (stated_type bytes) (little_number 2 (drop 5 bytes)) (stated_size bytes) tag used m (frame_is bytes
    (framed table bytes tag used m b)) b).1

-- a message that stands in front of other bytes
pub begins : {M : Type 0} (table : M → Row) (bytes rest : List ℕ) (tag : ℕ) (m : M) → Fits tag (table m)
    → bytes ≡ spelling tag (table m) ++ rest → Begins table bytes tag m (length (spelling tag (table m)))
begins table bytes rest tag m fits is = record {
  fits = fits;
  used_is = refl;
  spelled = is ∙ ap (λ (x : List ℕ). spelling tag (table m) ++ x) (sym (ap (drop (length (spelling tag
      (table m)))) is ∙ drop_at (spelling tag (table m)) rest (length (spelling tag (table m))) refl));
}

abbrev some : {A : Type 0} → A → Option A
some x = Some x

-- ---- one answer only

short_unframed : (bytes : List ℕ) → IsShort bytes → IsFramed bytes → ⊥
short_unframed bytes (inl few) f = omega arith
short_unframed bytes (inr s) f = omega arith

short_sized : (bytes : List ℕ) → IsShort bytes → HasBadSize bytes → ⊥
short_sized bytes (inl few) b = omega arith
short_sized bytes (inr s) b = b.1 s.1

pub short_answer : {M : Type 0} (table : M → Row) (bytes : List ℕ) (r : Result (Decoded M) StyxFault)
    → IsAnswer table bytes r → IsShort bytes → r ≡ Ok Short
short_answer table bytes (Ok (Whole tag m used)) a s =
    absurd (short_unframed bytes s (framed table bytes tag used m a))
short_answer table bytes (Ok Short) a s = refl
short_answer table bytes (Err NoMemory) a s = absurd (short_unframed bytes s a.0)
short_answer table bytes (Err BadSize) a s = absurd (short_sized bytes s a)
short_answer table bytes (Err BadType) a s = absurd (short_unframed bytes s a.0)
short_answer table bytes (Err BadBody) a s = absurd (short_unframed bytes s a.0.0)
short_answer table bytes (Err TooLong) a s = absurd a

pub size_answer : {M : Type 0} (table : M → Row) (bytes : List ℕ) (r : Result (Decoded M) StyxFault)
    → IsAnswer table bytes r → HasBadSize bytes → r ≡ Err BadSize
size_answer table bytes (Ok (Whole tag m used)) a b = absurd (b.1 (framed table bytes tag used m a).1)
size_answer table bytes (Ok Short) a b = absurd (short_sized bytes a b)
size_answer table bytes (Err NoMemory) a b = absurd (b.1 a.0.1)
size_answer table bytes (Err BadSize) a b = refl
size_answer table bytes (Err BadType) a b = absurd (b.1 a.0.1)
size_answer table bytes (Err BadBody) a b = absurd (b.1 a.0.0.1)
size_answer table bytes (Err TooLong) a b = absurd a

pub type_answer : {M : Type 0} (table : M → Row) (bytes : List ℕ) (r : Result (Decoded M) StyxFault)
    → IsAnswer table bytes r → HasBadType table bytes → r ≡ Err BadType
type_answer table bytes (Ok (Whole tag m used)) a b = absurd (b.1 m (type_of table bytes tag used m a))
type_answer table bytes (Ok Short) a b = absurd (short_unframed bytes a b.0)
type_answer table bytes (Err NoMemory) a b = absurd (b.1 a.1.0 a.1.1)
type_answer table bytes (Err BadSize) a b = absurd (a.1 b.0.1)
type_answer table bytes (Err BadType) a b = refl
type_answer table bytes (Err BadBody) a b = absurd (b.1 a.0.1.0 a.0.1.1)
type_answer table bytes (Err TooLong) a b = absurd a

pub body_answer : {M : Type 0} (table : M → Row) (bytes : List ℕ) (r : Result (Decoded M) StyxFault)
    → IsAnswer table bytes r → HasBadBody table bytes → OrNoMemory r (Err BadBody)
body_answer table bytes (Ok (Whole tag m used)) a b = absurd (b.1 tag m used a)
body_answer table bytes (Ok Short) a b = absurd (short_unframed bytes a b.0.0)
body_answer table bytes (Err NoMemory) a b = inr refl
body_answer table bytes (Err BadSize) a b = absurd (a.1 b.0.0.1)
body_answer table bytes (Err BadType) a b = absurd (a.1 b.0.1.0 b.0.1.1)
body_answer table bytes (Err BadBody) a b = inl refl
body_answer table bytes (Err TooLong) a b = absurd a

abbrev ok : {M : Type 0} → Decoded M → Result (Decoded M) StyxFault
ok x = Ok x

same_whole : {M : Type 0} (tag tag' used used' : ℕ) (m m' : M) → (tag ≡ tag') × (m ≡ m') × (used ≡ used')
    → ok {M = M} (Whole tag m used) ≡ ok (Whole tag' m' used')
same_whole {M} tag tag' used used' m m' e = ap (λ (x : ℕ). ok {M = M} (Whole x m used)) e.0
    ∙ ap (λ (x : M). ok {M = M} (Whole tag' x used)) e.1 ∙ ap (λ (x : ℕ). ok {M = M} (Whole tag' m' x)) e.2

-- ---- for a direction

module _ {M K : Type 0} (table : M → Row) (number_of : K → ℕ) (kind_of : ℕ → Option K)
    (body_at : K → List ℕ → Read M) (kind_is : M → K) (d : Direction table number_of kind_of body_at kind_is) where
  reads_all : (m : M) (k : K) (body : List ℕ) → kind_of (table m).type ≡ Some k → AllFit (table m).fields
      → body ≡ fields_bytes (table m).fields → body_at k body ≡ Some (m, [])
  reads_all m k body known fit is =
      let same : kind_is m ≡ k = some_is (kind_is m) k (sym (d.known m) ∙ known) in
      let own = fields_bytes (table m).fields in
      let read : body_at (kind_is m) (own ++ []) ≡ Some (m, []) = (d.agains m fit).again [] in
      ap (body_at k) (is ∙ sym (append-nil own)) ∙ sym (ap (λ (x : _). body_at x (own ++ [])) same) ∙ read

  -- one message stands at the beginning
  pub one_message : (bytes : List ℕ) (tag used tag' used' : ℕ) (m m' : M) → Begins table bytes tag m used
      → Begins table bytes tag' m' used' → (tag ≡ tag') × (m ≡ m') × (used ≡ used')
  one_message bytes tag used tag' used' m m' b b' =
      let body = take (stated_size bytes - 7) (drop 7 bytes) in
      let f = frame_is bytes (framed table bytes tag used m b) in
      let one = determined table bytes body (stated_type bytes) (little_number 2 (drop 5 bytes))
      (stated_size bytes) tag used m f b in
      let two = determined table bytes body (stated_type bytes) (little_number 2 (drop 5 bytes))
      (stated_size bytes) tag' used' m' f b' in
      let known : kind_of (table m').type ≡ Some (kind_is m) = ap kind_of (sym two.1 ∙ one.1) ∙ d.known m in
      let read = reads_all m (kind_is m) body (d.known m) b.fits.fields_fit one.3 in
      let read' = reads_all m' (kind_is m) body known b'.fits.fields_fit two.3 in (
        sym one.2 ∙ two.2,
        ap (λ (p : M × List ℕ). p.0) (some_is (m, []) (m', []) (sym read
            ∙ read')),
        sym one.0 ∙ two.0,
      )

  pub has_type : (bytes body : List ℕ) (type tag size : ℕ) (k : K) → IsFrame bytes type tag body size
      → kind_of type ≡ Some k → HasType table bytes
  has_type bytes body type tag size k f known =
      let s = d.sample k in (f.framed, (s.0, s.1 ∙ d.sound type k known ∙ f.type_is))

  pub no_type : (bytes body : List ℕ) (type tag size : ℕ) → IsFrame bytes type tag body size → kind_of type
      ≡ None → HasBadType table bytes
  no_type bytes body type tag size f unknown = (
    f.framed,
    λ m is. let e : kind_of (table m).type ≡ None = ap kind_of (is ∙ sym f.type_is)
        ∙ unknown in let e' = d.known m in cc,
  )

  -- a body that isn't read to its end is no message's
  pub bad_body : (bytes body : List ℕ) (type tag size : ℕ) (k : K) → IsFrame bytes type tag body size
      → kind_of type ≡ Some k → ((m : M) → body_at k body ≡ Some (m, []) → ⊥) → HasBadBody table bytes
  bad_body bytes body type tag size k f known unread = (
    has_type bytes body type tag size k f known,
    λ tag' m used b.
        let one = determined table bytes body type tag size tag' used m f b in
        unread m (reads_all m k body (ap kind_of (sym one.1) ∙ known) b.fits.fields_fit one.3),
  )

  -- a body that is read to its end is a message's
  pub whole : (bytes body : List ℕ) (type tag size : ℕ) (k : K) (m : M) → IsBytes bytes
      → IsFrame bytes type tag body size → kind_of type ≡ Some k → body_at k body ≡ Some (m, [])
      → Begins table bytes tag m size
  whole bytes body type tag size k m fits f known read =
      let p = parts bytes body type tag size fits f in
      let own = fields_bytes (table m).fields in
      let t = row_takes table (number_of k) (body_at k) (d.continues k) body m []
      (body_bytes bytes body type tag size fits f) read in
      let type-is : type ≡ (table m).type = sym (d.sound type k known) ∙ sym t.0 in
      let body-is : body ≡ own = t.1.parts ∙ append-nil own in
      let size-is : size ≡ 7 + length own = p.1 ∙ ap (λ (x : List ℕ). 7 + length x) body-is in
      let spelled : bytes ≡ spelling tag (table m) ++ drop size bytes = p.0
      ∙ ap (λ (x : ℕ). little_bytes 4 x ++ (little_bytes 1 type ++ (little_bytes 2 tag ++
      (body ++ drop size bytes)))) size-is
      ∙ ap (λ (x : ℕ). little_bytes 4 (7 + length own) ++ (little_bytes 1 x ++ (little_bytes 2 tag ++
      (body ++ drop size bytes)))) type-is
      ∙ ap (λ (x : List ℕ). little_bytes 4 (7 + length own) ++ (little_bytes 1 (table m).type ++
      (little_bytes 2 tag ++ (x ++ drop size bytes)))) body-is in
      let most : size ≤ 8216 = omega (arith, f.framed, f.size_is) in
      record {
        fits = record {
          type_fits = subst (λ (x : ℕ). x < 2 ^ 8) type-is p.2;
          tag_fits = p.3;
          fields_fit =
              t.2;
          short = omega (arith, size-is);
        };
        used_is = omega (arith, size-is);
        spelled = spelled;
      }

  pub failed : (bytes body : List ℕ) (type tag size : ℕ) (k : K) (e : StyxFault)
      → IsFrame bytes type tag body size → Some k ≡ kind_of type → FailsAs BadBody e (body_at k body)
      → IsAnswer table bytes (Err e)
  failed bytes body type tag size k NoMemory f known h = has_type bytes body type tag size k f (sym known)
  failed bytes body type tag size k BadSize f known h = absurd h
  failed bytes body type tag size k BadType f known h = absurd h
  failed bytes body type tag size k BadBody f known h =
      bad_body bytes body type tag size k f (sym known) (λ m e. let e' : body_at k body ≡ None = h.1 in cc)
  failed bytes body type tag size k TooLong f known h = absurd cc

  pub left_over : (bytes body : List ℕ) (type tag size : ℕ) (k : K) (m : M) (rest : List ℕ)
      → IsFrame bytes type tag body size → Some k ≡ kind_of type → body_at k body ≡ Some (m, rest)
      → 0 < length rest → HasBadBody table bytes
  left_over bytes body type tag size k m rest f known read more =
      bad_body bytes body type tag size k f (sym known) (λ m' e.
      let same : rest ≡ [] = ap (λ (p : M × List ℕ). p.1) (some_is (m, rest) (m', []) (sym read ∙ e)) in
      omega (arith, ap length same))

  pub read_whole : (bytes body : List ℕ) (type tag size : ℕ) (k : K) (m : M) (rest : List ℕ) → IsBytes bytes
      → IsFrame bytes type tag body size → Some k ≡ kind_of type → body_at k body ≡ Some (m, rest)
      → length rest ≡ 0 → Begins table bytes tag m size
  read_whole bytes body type tag size k m rest fits f known read ended =
      whole bytes body type tag size k m fits f (sym known) (read
      ∙ ap (λ (x : List ℕ). some (m, x)) (nil_from_length rest ended))

  pub whole_answer : (bytes : List ℕ) (r : Result (Decoded M) StyxFault) → IsAnswer table bytes r
      → (tag : ℕ) (m : M) (used : ℕ) → Begins table bytes tag m used → OrNoMemory r (Ok (Whole tag m used))
  whole_answer bytes (Ok (Whole tag' m' used')) a tag m used b =
      inl (same_whole tag' tag used' used m' m (one_message bytes tag' used' tag used m' m a b))
  whole_answer bytes (Ok Short) a tag m used b = absurd (short_unframed bytes a (framed table bytes tag used m b))
  whole_answer bytes (Err NoMemory) a tag m used b = inr refl
  whole_answer bytes (Err BadSize) a tag m used b = absurd (a.1 (framed table bytes tag used m b).1)
  whole_answer bytes (Err BadType) a tag m used b = absurd (a.1 m (type_of table bytes tag used m b))
  whole_answer bytes (Err BadBody) a tag m used b = absurd (a.1 tag m used b)
  whole_answer bytes (Err TooLong) a tag m used b = absurd a
