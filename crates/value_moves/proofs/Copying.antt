-- Words and bytes as they are read to be written elsewhere.
use Rattle.std.proofs.Common.{◌≡◌, ℕ, zero, suc, ◌+◌, ◌*◌, ◌<◌, ◌≤◌, ◌⊎◌, ℤ, pos, ◌/◌, ◌%◌, List, [], ◌∷◌, length}
use Rattle.std.proofs.Common.{Option, Some, refl, sym, ap, ◌∙◌, subst, arith, inl, inr}
use Rattle.std.specs.Prelude.{slice_get, slice_index}
use Rattle.dis_file.specs.declared.types.TypeDesc.{TypeDesc}
use Rattle.dis_file.specs.References.{marks}
use Rattle.dis_meaning.specs.Words.{Word, Access, Found, ◌>>=◌, type_check, or_wrong, plain}
use Rattle.dis_meaning.specs.Numbers.{bytes_of}
use Rattle.dis_memory.specs.Copies.{plain_words, as_marked, typed_from, byte_of, bytes_from, put_bytes}
use Rattle.value_words.specs.Contents as contents
use Rattle.value_words.specs.Contents.{content}
use Rattle.value_words.proofs.Bytes.{Reads, byte_there, byte_read}
use Rattle.value_moves.proofs.Storing.{BytesPut, one_byte}

-- ---- words

-- These are so many words from one on.
pub record IsTaken (source : List Word) (k n : ℕ) (vs : List Word) : Type 0 where
  pub long : length vs ≡ n
  pub each : (j : ℕ) (v : Word) → slice_get vs j ≡ Some v → slice_get source (k + j) ≡ Some v

more_taken : (source : List Word) (k n : ℕ) (v : Word) (vs : List Word) → slice_get source k ≡ Some v → IsTaken source (suc k) n vs
    → IsTaken source k (suc n) (v ∷ vs)
more_taken source k n v vs e t = record { long = ap suc t.long; each = each }
  where
    each : (j : ℕ) (u : Word) → slice_get (v ∷ vs) j ≡ Some u → slice_get source (k + j) ≡ Some u
    each zero u f = let g : k + 0 ≡ k = omega arith in ap (slice_get source) g ∙ e ∙ f
    each (suc j) u f = let g : k + suc j ≡ suc k + j = omega arith in ap (slice_get source) g ∙ t.each j u f

-- A word stands there that is taken as it is.
abbrev pub Gives : List Word → (w : ℕ) → (Word → Access Word) → Type 0
Gives source w f = (v : Word) × (slice_get source w ≡ Some v) × (f v ≡ Found v)

pub plain_taken : (source : List Word) (n k : ℕ) → ((j : ℕ) → j < n → Gives source (k + j) plain)
    → (vs : List Word) × (plain_words source k n ≡ Found vs) × IsTaken source k n vs
plain_taken source zero k h = ([], refl, record { long = refl; each = λ j v e. absurd cc })
plain_taken source (suc n) k h =
    let f = h 0 (omega arith) in
    let at : slice_get source k ≡ Some f.0 = let e : k ≡ k + 0 = omega arith in ap (slice_get source) e ∙ f.1 in
    let i = plain_taken source n (suc k)
    (λ j l. subst (λ (w : ℕ). Gives source w plain) (let e : k + suc j ≡ suc k + j = omega arith in e) (h (suc j) (omega arith))) in (
      f.0 ∷ i.0,
      ap (λ (o : Option Word). or_wrong type_check o >>= λ w. plain w >>= λ v. plain_words source (suc k) n >>= λ vs. Found (v ∷ vs)) at
          ∙ ap (λ (a : Access Word). a >>= λ v. plain_words source (suc k) n >>= λ vs. Found (v ∷ vs)) f.2
          ∙ ap (λ (a : Access (List Word)). a >>= λ vs. Found (f.0 ∷ vs)) i.1,
      more_taken source k n f.0 i.0 at i.2,
    )

pub typed_taken : (desc : TypeDesc) (source : List Word) (n i k : ℕ)
    → ((j : ℕ) → j < n → Gives source (k + j) (λ w. as_marked (marks desc.map (i + j)) w))
    → (vs : List Word) × (typed_from desc i source k n ≡ Found vs) × IsTaken source k n vs
typed_taken desc source zero i k h = ([], refl, record { long = refl; each = λ j v e. absurd cc })
typed_taken desc source (suc n) i k h =
    let f = h 0 (omega arith) in
    let at : slice_get source k ≡ Some f.0 = let e : k ≡ k + 0 = omega arith in ap (slice_get source) e ∙ f.1 in
    let is : as_marked (marks desc.map i) f.0 ≡ Found f.0 =
    let e : i ≡ i + 0 = omega arith in ap (λ (m : ℕ). as_marked (marks desc.map m) f.0) e ∙ f.2 in
    let r = typed_taken desc source n (suc i) (suc k)
    (λ j l.
    let g = h (suc j) (omega arith) in
    let a : k + suc j ≡ suc k + j = omega arith in
    let b : suc i + j ≡ i + suc j = omega arith in
    (g.0, ap (slice_get source) (sym a) ∙ g.1, ap (λ (m : ℕ). as_marked (marks desc.map m) g.0) b ∙ g.2)) in (
      f.0 ∷ r.0,
      ap (λ (o : Option Word). or_wrong type_check o >>= as_marked (marks desc.map i) >>= λ v. typed_from desc (suc i) source (suc k) n
          >>= λ vs. Found (v ∷ vs)) at
          ∙ ap (λ (a : Access Word). a >>= λ v. typed_from desc (suc i) source (suc k) n >>= λ vs. Found (v ∷ vs)) is
          ∙ ap (λ (a : Access (List Word)). a >>= λ vs. Found (f.0 ∷ vs)) r.1,
      more_taken source k n f.0 r.0 at r.2,
    )

-- ---- bytes

pub byte_small : (z : ℤ) (k : ℕ) → k < 4 → slice_index (bytes_of z) k < 256
byte_small z zero l = omega arith
byte_small z (suc zero) l = omega arith
byte_small z (suc (suc zero)) l = omega arith
byte_small z (suc (suc (suc zero))) l = omega arith
byte_small z (suc (suc (suc (suc k)))) l = absurd (omega (arith, l))

-- These are so many bytes from one on.
pub record BytesTaken (source : List Word) (from n : ℕ) (bs : List ℕ) : Type 0 where
  pub long : length bs ≡ n
  pub small : (j b : ℕ) → slice_get bs j ≡ Some b → b < 256
  pub each : (j b : ℕ) → slice_get bs j ≡ Some b → content source (from + j) ≡ Some (contents.Byte b)

-- A number stands where the byte lies.
abbrev pub Readable : List Word → (byte : ℕ) → Type 0
Readable words n = (y : ℤ) × Reads (slice_get words (n / 4)) y

pub bytes_taken : (source : List Word) (n from : ℕ) → ((j : ℕ) → j < n → Readable source (from + j))
    → (bs : List ℕ) × (bytes_from source from n ≡ Found bs) × BytesTaken source from n bs
bytes_taken source zero from h = ([], refl, record { long = refl; small = λ j b e. absurd cc; each = λ j b e. absurd cc })
bytes_taken source (suc n) from h =
    let first : Readable source from = subst (Readable source) (let e : from + 0 ≡ from = omega arith in e) (h 0 (omega arith)) in
    let i = bytes_taken source n (suc from)
    (λ j l. subst (Readable source) (let e : from + suc j ≡ suc from + j = omega arith in e) (h (suc j) (omega arith))) in
    let b = slice_index (bytes_of first.0) (from % 4) in (
      b ∷ i.0,
      ap (λ (a : Access ℤ). a >>= byte_of >>= λ c. bytes_from source (suc from) n >>= λ bs. Found (c ∷ bs))
          (byte_there source from first.0 first.1)
          ∙ ap (λ (a : Access (List ℕ)). a >>= λ bs. Found (b ∷ bs)) i.1,
      record {
        long = ap suc i.2.long;
        small = λ j c e. small b i.0 (byte_small first.0 (from % 4) (omega arith)) i.2.small j c e;
        each = λ j c e. each b i.0 (byte_read (slice_get source (from / 4)) first.0 (from % 4) (omega arith) first.1) i.2.each j c e;
      },
    )
  where
    small : (b : ℕ) (bs : List ℕ) → b < 256 → ((j c : ℕ) → slice_get bs j ≡ Some c → c < 256) → (j c : ℕ)
        → slice_get (b ∷ bs) j ≡ Some c → c < 256
    small b bs l r zero c e = let f : b ≡ c = cc in omega (arith, l, f)
    small b bs l r (suc j) c e = r j c e

    each : (b : ℕ) (bs : List ℕ) → content source from ≡ Some (contents.Byte b)
        → ((j c : ℕ) → slice_get bs j ≡ Some c → content source (suc from + j) ≡ Some (contents.Byte c)) → (j c : ℕ)
        → slice_get (b ∷ bs) j ≡ Some c → content source (from + j) ≡ Some (contents.Byte c)
    each b bs f r zero c e =
        let g : from + 0 ≡ from = omega arith in
        let i : b ≡ c = cc in
        ap (content source) g ∙ f ∙ ap (λ (x : ℕ). Some (contents.Byte x)) i
    each b bs f r (suc j) c e = let g : from + suc j ≡ suc from + j = omega arith in ap (content source) g ∙ r j c e

-- ---- bytes in place of others

more_put : (target mid others : List Word) (to b : ℕ) (bs : List ℕ) → BytesPut target mid to (b ∷ []) → BytesPut mid others (suc to) bs
    → BytesPut target others to (b ∷ bs)
more_put target mid others to b bs f r = record {
  many = r.many ∙ f.many;
  there = there;
  bytes = λ m h. r.bytes m (later m h) ∙ f.bytes m (first m h);
  words = λ w h. r.words w (later_word w h) ∙ f.words w (first_word w h);
  refer = λ w s e. f.refer w s (r.refer w s e);
  referred = λ w s e. r.referred w s (f.referred w s e);
  reads = λ w y e. let g = f.reads w y e in r.reads w g.0 g.1;
  ranged = λ i. r.ranged (f.ranged i);
}
  where
    there : (j c : ℕ) → slice_get (b ∷ bs) j ≡ Some c → content others (to + j) ≡ Some (contents.Byte c)
    there zero c e =
        let g : b ≡ c = cc in
        r.bytes (to + 0) (inl (omega arith)) ∙ f.there 0 b refl ∙ ap (λ (x : ℕ). Some (contents.Byte x)) g
    there (suc j) c e = let g : to + suc j ≡ suc to + j = omega arith in ap (content others) g ∙ r.there j c e

    later : (m : ℕ) → (m < to) ⊎ (to + suc (length bs) ≤ m) → (m < suc to) ⊎ (suc to + length bs ≤ m)
    later m (inl l) = inl (omega (arith, l))
    later m (inr l) = inr (omega (arith, l))

    first : (m : ℕ) → (m < to) ⊎ (to + suc (length bs) ≤ m) → (m < to) ⊎ (to + 1 ≤ m)
    first m (inl l) = inl l
    first m (inr l) = inr (omega (arith, l))

    later_word : (w : ℕ) → (4 * w + 4 ≤ to) ⊎ (to + suc (length bs) ≤ 4 * w) → (4 * w + 4 ≤ suc to) ⊎ (suc to + length bs ≤ 4 * w)
    later_word w (inl l) = inl (omega (arith, l))
    later_word w (inr l) = inr (omega (arith, l))

    first_word : (w : ℕ) → (4 * w + 4 ≤ to) ⊎ (to + suc (length bs) ≤ 4 * w) → (4 * w + 4 ≤ to) ⊎ (to + 1 ≤ 4 * w)
    first_word w (inl l) = inl l
    first_word w (inr l) = inr (omega (arith, l))

pub bytes_put : (bs : List ℕ) (target : List Word) (to : ℕ) → ((j b : ℕ) → slice_get bs j ≡ Some b → b < 256)
    → ((j : ℕ) → j < length bs → Readable target (to + j))
    → (others : List Word) × (put_bytes target to bs ≡ Found others) × BytesPut target others to bs
bytes_put [] target to s h = (
  target,
  refl,
  record {
    many = refl;
    there = λ j b e. absurd cc;
    bytes = λ m l. refl;
    words = λ w l. refl;
    refer = λ w r e. e;
    referred = λ w r e. e;
    reads = λ w y e. (y, e);
    ranged = λ i. i;
  },
)
bytes_put (b ∷ bs) target to s h =
    let now : Readable target to = subst (Readable target) (let e : to + 0 ≡ to = omega arith in e) (h 0 (omega arith)) in
    let f = one_byte target to (pos b) now.0 now.1 in
    let put = f.2 (s 0 b refl) in
    let i = bytes_put bs f.0 (suc to) (λ j c e. s (suc j) c e)
    (λ j l.
    let e : to + suc j ≡ suc to + j = omega arith in
    let r = subst (Readable target) e (h (suc j) (omega arith)) in
    put.reads ((suc to + j) / 4) r.0 r.1) in
    (i.0, ap (λ (a : Access (List Word)). a >>= λ after. put_bytes after (suc to) bs) f.1 ∙ i.1, more_put target f.0 i.0 to b bs put i.2)
