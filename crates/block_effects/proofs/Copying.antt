-- What comes of words and bytes that are taken, put and moved.
use Rattle.std.proofs.Common.{◌≡◌, ℕ, zero, suc, ◌+◌, ◌*◌, ◌<◌, ◌≤◌, ◌⊎◌, ℤ, pos, ◌/◌, ◌%◌, Bool, true, false, List, [], ◌∷◌, length}
use Rattle.std.proofs.Common.{Option, Some, None, refl, sym, ap, ◌∙◌, subst, arith, inl, inr, if◌then◌else◌}
use Rattle.std.specs.Prelude.{◌&&◌, slice_get, slice_set}
use Rattle.dis_file.specs.declared.types.TypeDesc.{TypeDesc}
use Rattle.dis_file.specs.References.{marks}
use Rattle.limbo_values.specs.declared.number.Kind.TheVariants.{Byte}
use Rattle.dis_meaning.specs.Words.{Word, Plain, Refer, Address, Access, Found, Wrong, Raises, ◌>>=◌, type_check, or_wrong, plain, fits, replaced}
use Rattle.dis_meaning.specs.Words.{number_in}
use Rattle.dis_meaning.specs.Words.{blank, blank_word}
use Rattle.dis_meaning.specs.Numbers.{number_at, nth_number, with_number_at}
use Rattle.dis_memory.specs.Copies.{taken_by, taken, plain_words, as_marked, typed_from, typed_words, put, byte_of, bytes_from, put_bytes}
use Rattle.dis_memory.specs.Copies.{is_whole, moved}
use Rattle.dis_memory.specs.Lists.{plain_type}
use Rattle.value_words.proofs.Bytes.{is_zero, Reads, byte_found, byte_there}
use Rattle.value_words.proofs.Rows.{is_there, set_other}
use Rattle.value_heaps.proofs.Marks.{marks_is}
use Rattle.value_heaps.proofs.Made.{get_blanks}
use Rattle.value_moves.specs.Writing.{Writes}
use Rattle.value_moves.proofs.Putting.{Takes, IsPut, put_words}
use Rattle.value_moves.proofs.Storing.{BytesPut, one_byte}
use Rattle.value_moves.proofs.Copying.{IsTaken, Gives, plain_taken, typed_taken, Readable, BytesTaken, bytes_taken, bytes_put}
use Rattle.value_moves.proofs.Written.{writes_taken, writes_bytes}
use Rattle.value_moves.proofs.Marked.{marked_fits}
use Rattle.value_moves.proofs.Changing.{low_or_high}
use Rattle.block_effects.specs.Copying.{AreTaken, HasByte, HasMarked, HasFitting, WordsAreCopied}

-- ---- what was found on the way

pub bound : {S T : Type 0} (a : Access S) (f : S → Access T) (t : T) → (a >>= f) ≡ Found t → (s : S) × (a ≡ Found s) × (f s ≡ Found t)
bound (Found s) f t e = (s, refl, e)
bound (Wrong n) f t e = absurd cc
bound (Raises m) f t e = absurd cc

pub is_word : (o : Option Word) (w : Word) → or_wrong type_check o ≡ Found w → o ≡ Some w
is_word None w e = absurd cc
is_word (Some u) w e = cc

-- ---- words that were taken

none_taken : (source : List Word) (k : ℕ) → AreTaken source k 0 []
none_taken source k = record { long = refl; each = λ j v e. absurd cc }

more_taken : (source : List Word) (k n : ℕ) (v : Word) (vs : List Word) → slice_get source k ≡ Some v → AreTaken source (suc k) n vs
    → AreTaken source k (suc n) (v ∷ vs)
more_taken source k n v vs e t = record { long = ap suc t.long; each = each }
  where
    each : (j : ℕ) (u : Word) → slice_get (v ∷ vs) j ≡ Some u → slice_get source (k + j) ≡ Some u
    each zero u f = let g : k + 0 ≡ k = omega arith in ap (slice_get source) g ∙ e ∙ f
    each (suc j) u f = let g : k + suc j ≡ suc k + j = omega arith in ap (slice_get source) g ∙ t.each j u f

taken_found : (kind : ℕ → Word → Access Word) → ((k : ℕ) (w v : Word) → kind k w ≡ Found v → w ≡ v) → (source : List Word) (n k : ℕ)
    (vs : List Word) → taken_by kind source k n ≡ Found vs → AreTaken source k n vs
taken_found kind keeps source zero k vs e = let f : [] ≡ vs = cc in subst (AreTaken source k 0) f (none_taken source k)
taken_found kind keeps source (suc n) k vs e =
    let a = bound (or_wrong type_check (slice_get source k)) _ vs e in
    let b = bound (kind k a.0) _ vs a.2 in
    let c = bound (taken_by kind source (suc k) n) _ vs b.2 in
    let g : Found (b.0 ∷ c.0) ≡ Found vs = c.2 in
    let f : b.0 ∷ c.0 ≡ vs = cc in
    let first = is_word (slice_get source k) a.0 a.1 ∙ ap Some (keeps k a.0 b.0 b.1) in
    subst (AreTaken source k (suc n)) f (more_taken source k n b.0 c.0 first (taken_found kind keeps source n (suc k) c.0 c.1))

plain_keeps : (k : ℕ) (w v : Word) → plain w ≡ Found v → w ≡ v
plain_keeps k (Plain z) v e = cc
plain_keeps k (Refer r) v e = absurd cc
plain_keeps k (Address q a) v e = cc

mark_keeps : (b : Bool) (w v : Word) → as_marked b w ≡ Found v → w ≡ v
mark_keeps true (Plain z) v e = absurd cc
mark_keeps true (Refer r) v e = cc
mark_keeps true (Address q a) v e = absurd cc
mark_keeps false (Plain z) v e = cc
mark_keeps false (Refer r) v e = absurd cc
mark_keeps false (Address q a) v e = cc

abbrev AsMarked : TypeDesc → (from : ℕ) → List Word → Type 0
AsMarked desc i vs = (j : ℕ) (v : Word) → slice_get vs j ≡ Some v → as_marked (marks desc.map (i + j)) v ≡ Found v

more_marked : (desc : TypeDesc) (i : ℕ) (v : Word) (vs : List Word) → as_marked (marks desc.map i) v ≡ Found v → AsMarked desc (suc i) vs
    → AsMarked desc i (v ∷ vs)
more_marked desc i v vs e h zero u f =
    let g : i ≡ i + 0 = omega arith in
    let same : v ≡ u = cc in
    subst (λ (w : Word). as_marked (marks desc.map (i + 0)) w ≡ Found w) same (ap (λ (m : ℕ). as_marked (marks desc.map m) v) (sym g) ∙ e)
more_marked desc i v vs e h (suc j) u f =
    let g : i + suc j ≡ suc i + j = omega arith in ap (λ (m : ℕ). as_marked (marks desc.map m) u) g ∙ h j u f

typed_found : (desc : TypeDesc) (source : List Word) (n i k : ℕ) (vs : List Word) → typed_from desc i source k n ≡ Found vs
    → AreTaken source k n vs × AsMarked desc i vs
typed_found desc source zero i k vs e =
    let f : [] ≡ vs = cc in
    subst (λ (us : List Word). AreTaken source k 0 us × AsMarked desc i us) f (none_taken source k, λ j v e. absurd cc)
typed_found desc source (suc n) i k vs e =
    let b = bound (or_wrong type_check (slice_get source k) >>= as_marked (marks desc.map i)) _ vs e in
    let a = bound (or_wrong type_check (slice_get source k)) (as_marked (marks desc.map i)) b.0 b.1 in
    let c = bound (typed_from desc (suc i) source (suc k) n) _ vs b.2 in
    let g : Found (b.0 ∷ c.0) ≡ Found vs = c.2 in
    let f : b.0 ∷ c.0 ≡ vs = cc in
    let same = mark_keeps (marks desc.map i) a.0 b.0 a.2 in
    let r = typed_found desc source n (suc i) (suc k) c.0 c.1 in
    subst (λ (us : List Word). AreTaken source k (suc n) us × AsMarked desc i us) f (
      more_taken source k n b.0 c.0 (is_word (slice_get source k) a.0 a.1 ∙ ap Some same) r.0,
      more_marked desc i b.0 c.0 (ap (as_marked (marks desc.map i)) (sym same) ∙ a.2) r.1,
    )

-- ---- words that can be

can_type : (desc : TypeDesc) (source : List Word) (from : ℕ) → ((j : ℕ) → j < desc.size / 4 → HasMarked desc source from j)
    → (vs : List Word) × (typed_words desc source from ≡ Found vs)
can_type desc source from h =
    let t = typed_taken desc source (desc.size / 4) 0 from
    (λ j l.
    let f = h j l in
    let g : 0 + j ≡ j = omega arith in
    (f.0, f.1, ap (λ (m : ℕ). as_marked (marks desc.map m) f.0) g ∙ f.2)) in
    (t.0, t.1)

can_take : (source : List Word) (n k : ℕ) → k + n ≤ length source → (vs : List Word) × (taken source k n ≡ Found vs)
can_take source zero k l = ([], refl)
can_take source (suc n) k l =
    let w = is_there source k (omega (arith, l)) in
    let i = can_take source n (suc k) (omega (arith, l)) in (
      w.0 ∷ i.0,
      ap (λ (o : Option Word). or_wrong type_check o >>= λ w. taken source (suc k) n >>= λ vs. Found (w ∷ vs)) w.1
          ∙ ap (λ (a : Access (List Word)). a >>= λ vs. Found (w.0 ∷ vs)) i.1,
    )

-- ---- words that are put

replaced_found : (words after : List Word) (k : ℕ) (new : Word) → replaced words k new ≡ Found after
    → (old : Word) × (slice_get words k ≡ Some old) × (fits old new ≡ true) × (slice_set words k new ≡ after)
replaced_found words after k new e =
    let a = bound (or_wrong type_check (slice_get words k)) _ after e in
    let g = go (fits a.0 new) a.2 in
    (a.0, is_word (slice_get words k) a.0 a.1, g.0, g.1)
  where
    go : (b : Bool) → (if b then Found (slice_set words k new) else Wrong type_check) ≡ Found after
        → (b ≡ true) × (slice_set words k new ≡ after)
    go true f = (refl, cc)
    go false f = absurd cc

put_takes : (vs target others : List Word) (k : ℕ) → put target k vs ≡ Found others → (j : ℕ) (v : Word) → slice_get vs j ≡ Some v
    → Takes target (k + j) v
put_takes [] target others k e j v f = absurd cc
put_takes (u ∷ vs) target others k e j v f =
    let a = bound (replaced target k u) _ others e in
    let r = replaced_found target a.0 k u a.1 in
    one (record { old = r.0; stood = r.1; takes = r.2 }) a.0 r.3 (put_takes vs a.0 others (suc k) a.2) j v f
  where
    one : Takes target k u → (mid : List Word) → slice_set target k u ≡ mid
        → ((j : ℕ) (v : Word) → slice_get vs j ≡ Some v → Takes mid (suc k + j) v) → (j : ℕ) (v : Word) → slice_get (u ∷ vs) j ≡ Some v
        → Takes target (k + j) v
    one t mid s h zero v f =
        let same : u ≡ v = cc in
        let g : k + 0 ≡ k = omega arith in
        record { old = t.old; stood = ap (slice_get target) g ∙ t.stood; takes = ap (fits t.old) (sym same) ∙ t.takes }
    one t mid s h (suc j) v f =
        let i = h j v f in
        let g : k + suc j ≡ suc k + j = omega arith in
        record {
          old = i.old;
          stood = ap (slice_get target) g ∙ sym (set_other target k (suc k + j) u (λ d. absurd (omega (arith, d))))
              ∙ ap (λ (ws : List Word). slice_get ws (suc k + j)) s ∙ i.stood;
          takes = i.takes;
        }

put_is : (vs target others : List Word) (k : ℕ) → put target k vs ≡ Found others → IsPut target others k vs
put_is vs target others k e =
    let p = put_words vs target k (put_takes vs target others k e) in
    let f : Found p.0 ≡ Found others = sym p.1 ∙ e in
    let same : p.0 ≡ others = cc in
    subst (λ (ws : List Word). IsPut target ws k vs) same p.2

as_taken : (source vs : List Word) (k n : ℕ) → AreTaken source k n vs → IsTaken source k n vs
as_taken source vs k n t = record { long = t.long; each = t.each }

put_writes : (source target vs others : List Word) (from to n : ℕ) → AreTaken source from n vs → put target to vs ≡ Found others
    → Writes target others (4 * to) source (4 * from) (4 * n)
put_writes source target vs others from to n t e =
    let m : to ≡ 4 * to / 4 = omega arith in
    let k : from ≡ 4 * from / 4 = omega arith in
    writes_taken target others source vs (4 * to) (4 * from) (4 * n) (omega arith) (ap (λ (l : ℕ). 4 * l) (sym t.long))
    (subst (λ (q : ℕ). (j : ℕ) (v : Word) → slice_get vs j ≡ Some v → Takes target (q + j) v) m (put_takes vs target others to e))
    (subst (λ (q : ℕ). IsPut target others q vs) m (put_is vs target others to e)) n (omega arith)
    (subst (λ (q : ℕ). IsTaken source q n vs) k (as_taken source vs from n t))

can_put : (target vs : List Word) (to : ℕ) → ((j : ℕ) (v : Word) → slice_get vs j ≡ Some v → HasFitting target (to + j) v)
    → (others : List Word) × (put target to vs ≡ Found others)
can_put target vs to h =
    let p = put_words vs target to (λ j v e. let f = h j v e in record { old = f.0; stood = f.1; takes = f.2 }) in (p.0, p.1)

-- ---- bytes

readable : (words : List Word) (n : ℕ) → HasByte words n → Readable words n
readable words n h = let f = byte_found words n h.0 h.1 in (f.0, f.1)

bytes_readable : (source : List Word) (n from : ℕ) (bs : List ℕ) → bytes_from source from n ≡ Found bs → (j : ℕ) → j < n
    → Readable source (from + j)
bytes_readable source zero from bs e j l = absurd (omega (arith, l))
bytes_readable source (suc n) from bs e zero l =
    let b = bound (number_at Byte source (pos from) >>= byte_of) _ bs e in
    let a = bound (number_at Byte source (pos from)) byte_of b.0 b.1 in
    subst (Readable source) (let g : from ≡ from + 0 = omega arith in g) (readable source from (a.0, a.1))
bytes_readable source (suc n) from bs e (suc j) l =
    let b = bound (number_at Byte source (pos from) >>= byte_of) _ bs e in
    let c = bound (bytes_from source (suc from) n) _ bs b.2 in
    subst (Readable source) (let g : suc from + j ≡ from + suc j = omega arith in g) (bytes_readable source n (suc from) c.0 c.1 j (omega (arith, l)))

put_readable : (bs : List ℕ) (target others : List Word) (to : ℕ) → put_bytes target to bs ≡ Found others
    → ((j b : ℕ) → slice_get bs j ≡ Some b → b < 256) → (j : ℕ) → j < length bs → Readable target (to + j)
put_readable [] target others to e small j l = absurd (omega (arith, l))
put_readable (b ∷ bs) target others to e small j l =
    let a = bound (with_number_at Byte target (pos to) (pos b)) _ others e in
    let c = bound (nth_number target (to / 4)) _ a.0 a.1 in
    let o = one_byte target to (pos b) c.0 c.1 in
    let f : Found o.0 ≡ Found a.0 = sym o.1 ∙ a.1 in
    let same : o.0 ≡ a.0 = cc in
    let put = subst (λ (ws : List Word). BytesPut target ws to (b ∷ [])) same (o.2 (small 0 b refl)) in
    back (c.0, c.1) a.0 put (put_readable bs a.0 others (suc to) a.2 (λ j c e. small (suc j) c e)) j l
  where
    back : Readable target to → (mid : List Word) → BytesPut target mid to (b ∷ []) → ((j : ℕ) → j < length bs → Readable mid (suc to + j))
        → (j : ℕ) → j < suc (length bs) → Readable target (to + j)
    back r mid p h zero l = subst (Readable target) (let g : to ≡ to + 0 = omega arith in g) r
    back r mid p h (suc j) l = subst (Readable target) (let g : suc to + j ≡ to + suc j = omega arith in g)
        (go (low_or_high (to / 4) ((suc to + j) / 4)))
      where
        go : (to / 4 < (suc to + j) / 4) ⊎ ((suc to + j) / 4 ≤ to / 4) → Readable target (suc to + j)
        go (inl m) =
            let i = h j (omega (arith, l)) in
            (i.0, subst (λ (o : Option Word). Reads o i.0) (p.words ((suc to + j) / 4) (inr (omega (arith, m)))) i.1)
        go (inr m) =
            let g : to / 4 ≡ (suc to + j) / 4 = omega (arith, m) in (r.0, subst (λ (w : ℕ). Reads (slice_get target w) r.0) g r.1)

-- ---- bytes that were moved, and that can be

all_true : (e f g : Bool) → (e && f && g) ≡ true → (e ≡ true) × (f ≡ true) × (g ≡ true)
all_true true true true h = (refl, refl, refl)
all_true true true false h = absurd cc
all_true true false g h = absurd cc
all_true false f g h = absurd cc

below : (vs : List Word) (j : ℕ) (v : Word) → slice_get vs j ≡ Some v → j < length vs
below [] j v e = absurd cc
below (u ∷ vs) zero v e = omega arith
below (u ∷ vs) (suc j) v e = let l = below vs j v e in omega (arith, l)

reads_plain : (o : Option Word) (y : ℤ) → Reads o y → (v : Word) × (o ≡ Some v) × (plain v ≡ Found v)
reads_plain None y e = absurd cc
reads_plain (Some (Plain z)) y e = (Plain z, refl, refl)
reads_plain (Some (Refer r)) y e = absurd cc
reads_plain (Some (Address q a)) y e = (Address q a, refl, refl)

-- Where the first byte of a word is read, the word is plain.
plain_at : (words : List Word) (from : ℕ) → from % 4 ≡ 0 → (j : ℕ) → HasByte words (from + 4 * j) → Gives words (from / 4 + j) plain
plain_at words from even j h =
    let r = readable words (from + 4 * j) h in
    let g : (from + 4 * j) / 4 ≡ from / 4 + j = omega (arith, even) in
    subst (λ (w : ℕ). Gives words w plain) g (reads_plain (slice_get words ((from + 4 * j) / 4)) r.0 r.1)

plain_is : (words : List Word) (w : ℕ) → Gives words w plain → (v : Word) → slice_get words w ≡ Some v → plain v ≡ Found v
plain_is words w g v e =
    let f : Some g.0 ≡ Some v = sym g.1 ∙ e in
    let same : g.0 ≡ v = cc in
    subst (λ (u : Word). plain u ≡ Found u) same g.2

plain_takes : (words : List Word) (w : ℕ) → Gives words w plain → (v : Word) → plain v ≡ Found v → Takes words w v
plain_takes words w g v e = record { old = g.0; stood = g.1; takes = marked_fits false g.0 v g.2 e }

module _ (source target : List Word) (from to n : ℕ) where
  abbrev by : Bool → Access (List Word)
  by c = if c then plain_words source (from / 4) (n / 4) >>= put target (to / 4) else bytes_from source from n >>= put_bytes target to

  words_moved : (vs others : List Word) → from % 4 ≡ 0 → to % 4 ≡ 0 → n % 4 ≡ 0 → plain_words source (from / 4) (n / 4) ≡ Found vs
      → put target (to / 4) vs ≡ Found others → Writes target others to source from n
  words_moved vs others even whole i e f =
      let t = taken_found (λ k w. plain w) plain_keeps source (n / 4) (from / 4) vs e in
      let long = t.long in
      writes_taken target others source vs to from n whole (omega (arith, i, long)) (put_takes vs target others (to / 4) f)
      (put_is vs target others (to / 4) f) (n / 4) even (as_taken source vs (from / 4) (n / 4) t)

  bytes_moved : (bs : List ℕ) (others : List Word) → bytes_from source from n ≡ Found bs → put_bytes target to bs ≡ Found others
      → Writes target others to source from n
  bytes_moved bs others e f =
      let i = bytes_taken source n from (bytes_readable source n from bs e) in
      let g : Found i.0 ≡ Found bs = sym i.1 ∙ e in
      let same : i.0 ≡ bs = cc in
      put_on (subst (BytesTaken source from n) same i.2)
    where
      put_on : BytesTaken source from n bs → Writes target others to source from n
      put_on t =
          let q = bytes_put bs target to t.small (put_readable bs target others to f t.small) in
          let g : Found q.0 ≡ Found others = sym q.1 ∙ f in
          let same : q.0 ≡ others = cc in
          writes_bytes target others source to from n bs (subst (λ (ws : List Word). BytesPut target ws to bs) same q.2) t

  moved_writes : (others : List Word) → moved source from target to n ≡ Found others → Writes target others to source from n
  moved_writes others e = go (is_whole from && is_whole to && is_whole n) refl e
    where
      go : (c : Bool) → (is_whole from && is_whole to && is_whole n) ≡ c → by c ≡ Found others → Writes target others to source from n
      go true c e =
          let h = all_true (is_whole from) (is_whole to) (is_whole n) c in
          let a = bound (plain_words source (from / 4) (n / 4)) (put target (to / 4)) others e in
          words_moved a.0 others (is_zero (from % 4) h.0) (is_zero (to % 4) h.1) (is_zero (n % 4) h.2) a.1 a.2
      go false c e =
          let a = bound (bytes_from source from n) (put_bytes target to) others e in bytes_moved a.0 others a.1 a.2

  module _ (reads : (j : ℕ) → j < n → HasByte source (from + j)) (takes : (j : ℕ) → j < n → HasByte target (to + j)) where
    -- whole words, and bytes
    words_can : from % 4 ≡ 0 → to % 4 ≡ 0 → n % 4 ≡ 0 → (others : List Word)
        × ((plain_words source (from / 4) (n / 4) >>= put target (to / 4)) ≡ Found others)
    words_can even whole i =
        let s = plain_taken source (n / 4) (from / 4) (λ j l. plain_at source from even j (reads (4 * j) (omega (arith, l, i)))) in
        let q = put_words s.0 target (to / 4) (λ j v e. fitting s.0 s.2 j v e) in
        (q.0, ap (λ (y : Access (List Word)). y >>= put target (to / 4)) s.1 ∙ q.1)
      where
        fitting : (vs : List Word) → IsTaken source (from / 4) (n / 4) vs → (j : ℕ) (v : Word) → slice_get vs j ≡ Some v
            → Takes target (to / 4 + j) v
        fitting vs t j v e =
            let l = below vs j v e in
            let long = t.long in
            let a = plain_at source from even j (reads (4 * j) (omega (arith, l, i, long))) in
            let b = plain_at target to whole j (takes (4 * j) (omega (arith, l, i, long))) in
            plain_takes target (to / 4 + j) b v (plain_is source (from / 4 + j) a v (t.each j v e))

    bytes_can : (others : List Word) × ((bytes_from source from n >>= put_bytes target to) ≡ Found others)
    bytes_can =
        let s = bytes_taken source n from (λ j l. readable source (from + j) (reads j l)) in
        let long = s.2.long in
        let q = bytes_put s.0 target to s.2.small (λ j l. readable target (to + j) (takes j (omega (arith, l, long)))) in
        (q.0, ap (λ (y : Access (List ℕ)). y >>= put_bytes target to) s.1 ∙ q.1)

    can_move : (others : List Word) × (moved source from target to n ≡ Found others)
    can_move = go (is_whole from && is_whole to && is_whole n) refl
      where
        go : (c : Bool) → (is_whole from && is_whole to && is_whole n) ≡ c → (others : List Word)
            × (by (is_whole from && is_whole to && is_whole n) ≡ Found others)
        go true c =
            let h = all_true (is_whole from) (is_whole to) (is_whole n) c in
            let r = words_can (is_zero (from % 4) h.0) (is_zero (to % 4) h.1) (is_zero (n % 4) h.2) in (r.0, ap by c ∙ r.1)
        go false c = let r = bytes_can in (r.0, ap by c ∙ r.1)

-- ---- cells

pub none_marked : (k : ℕ) → marks [] k ≡ false
none_marked zero = marks_is [] zero
none_marked (suc k) = marks_is [] (suc k)

can_begin : (n j : ℕ) → j < n → HasByte (blank (plain_type n)) j
can_begin n j l =
    let desc = plain_type n in
    let w : slice_get (blank desc) (j / 4) ≡ Some (blank_word desc (0 + j / 4)) =
    get_blanks desc 0 ((n + 3) / 4 * 4 / 4) (j / 4) (omega (arith, l)) in
    let is : slice_get (blank desc) (j / 4) ≡ Some (Plain (pos 0)) =
    w ∙ ap (λ (b : Bool). Some (if b then Refer None else Plain (pos 0))) (none_marked (0 + j / 4)) in
    let r : Reads (slice_get (blank desc) (j / 4)) (pos 0) = ap (λ (o : Option Word). or_wrong type_check o >>= number_in) is in
    (_, byte_there (blank desc) j (pos 0) r)

pub words_are_copied : WordsAreCopied
words_are_copied = record {
  typed = λ desc source vs from e. (typed_found desc source (desc.size / 4) 0 from vs e).0;
  marked = λ desc source vs from e j v f.
      let g : 0 + j ≡ j = omega arith in
      ap (λ (m : ℕ). as_marked (marks desc.map m) v) (sym g) ∙ (typed_found desc source (desc.size / 4) 0 from vs e).1 j v f;
  can_type = can_type;
  taken = λ source vs from n e. taken_found (λ k w. Found w) (λ k w v f. cc) source n from vs e;
  can_take = λ source from n l. can_take source n from l;
  put = put_writes;
  can_put = can_put;
  moved = λ source target others from to n e. moved_writes source target from to n others e;
  can_move = λ source target from to n r t. can_move source target from to n r t;
  can_begin = can_begin;
}
