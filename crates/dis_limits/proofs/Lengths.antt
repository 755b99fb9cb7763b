-- How many words there are: stores keep it, and what is taken of words is no more than these.
use Rattle.std.proofs.Common.{◌≡◌, ℕ, zero, suc, ◌+◌, ◌-◌, ◌*◌, ◌/◌, ◌%◌, ◌≤◌, ◌<◌, ℤ, Bool, true, false, List, [], ◌∷◌, length}
use Rattle.std.proofs.Common.{refl, sym, ap, ◌∙◌, arith, if◌then◌else◌}
use Rattle.std.specs.Prelude.{Some, map, slice_get, slice_set, slice_index, ◌&&◌, nat_le, pos, unsigned_abs}
use Rattle.std.specs.List.{range_with_len}
use Rattle.std.proofs.lemmas.Bool.{eqb-true, leb-true}
use Rattle.std.proofs.lemmas.List.{length-set}
use Rattle.std.proofs.lemmas.List.FromFn.{length-map-range_with_len}
use Rattle.dis_file.specs.declared.types.TypeDesc.{TypeDesc}
use Rattle.dis_file.specs.References.{marks}
use Rattle.limbo_values.specs.declared.number.Kind.{Kind}
use Rattle.limbo_values.specs.declared.number.Kind.TheVariants.{Byte, Int, Big}
use Rattle.dis_meaning.specs.Words.{Word, Plain, Access, Found, Wrong, ◌>>=◌, type_check, or_wrong, at_least_zero, word_number}
use Rattle.dis_meaning.specs.Words.{number_in, fits, replaced, stored, plain, blanks, blank}
use Rattle.dis_meaning.specs.Numbers.{nth_number, number_at, with_number_at, with_byte, bytes_of, high_part, low_part}
use Rattle.dis_memory.specs.Blocks as blocks
use Rattle.dis_memory.specs.Copies.{taken_by, typed_from, as_marked, put, byte_of, bytes_from, put_bytes, moved, is_whole, plain_words}
use Rattle.dis_memory.specs.Lists.{plain_type}
use Rattle.dis_memory.proofs.Growing.{both, found_same}
use Rattle.dis_memory.proofs.Reaching.{or_found}

pub get_within : {A : Type 0} (xs : List A) (k : ℕ) (x : A) → slice_get xs k ≡ Some x → k < length xs
get_within [] k x e = absurd cc
get_within (y ∷ ys) zero x e = omega arith
get_within (y ∷ ys) (suc k) x e = let z = get_within ys k x e in omega arith

-- ---- words in place of others

replaced_long : (ws : List Word) (k : ℕ) (w : Word) (us : List Word) → replaced ws k w ≡ Found us → length us ≡ length ws
replaced_long ws k w us e =
    let h = both (or_wrong type_check (slice_get ws k)) (λ old. if fits old w then Found (slice_set ws k w) else Wrong type_check) us e in
    go (fits h.first w) h.then
  where
    go : (b : Bool) → (if b then Found (slice_set ws k w) else Wrong type_check) ≡ Found us → length us ≡ length ws
    go true f = ap length (sym (found_same _ us f)) ∙ length-set ws k w
    go false f = absurd cc

pub stored_long : (ws : List Word) (at : ℤ) (w : Word) (us : List Word) → stored ws at w ≡ Found us → length us ≡ length ws
stored_long ws at w us e = let h = both (word_number at) (λ k. replaced ws k w) us e in replaced_long ws h.first w us h.then

pub number_long : (kind : Kind) (ws : List Word) (at z : ℤ) (us : List Word) → with_number_at kind ws at z ≡ Found us
    → length us ≡ length ws
number_long Int ws at z us e = stored_long ws at (Plain z) us e
number_long Byte ws at z us e =
    let h = both (at_least_zero at)
    (λ k. nth_number ws (k / 4) >>= λ old. replaced ws (k / 4) (Plain (with_byte old (k % 4) (unsigned_abs z)))) us e in
    let g = both (nth_number ws (h.first / 4))
    (λ old. replaced ws (h.first / 4) (Plain (with_byte old (h.first % 4) (unsigned_abs z)))) us h.then in
    replaced_long ws (h.first / 4) (Plain (with_byte g.first (h.first % 4) (unsigned_abs z))) us g.then
number_long Big ws at z us e =
    let h = both (word_number at)
    (λ k. replaced ws k (Plain (high_part z)) >>= λ after. replaced after (suc k) (Plain (low_part z))) us e in
    let g = both (replaced ws h.first (Plain (high_part z))) (λ after. replaced after (suc h.first) (Plain (low_part z))) us h.then in
    replaced_long g.first (suc h.first) (Plain (low_part z)) us g.then ∙ replaced_long ws h.first (Plain (high_part z)) g.first g.is

pub put_long : (ws : List Word) (k : ℕ) (vs us : List Word) → put ws k vs ≡ Found us → length us ≡ length ws
put_long ws k [] us e = ap length (sym (found_same ws us e))
put_long ws k (v ∷ vs) us e =
    let h = both (replaced ws k v) (λ after. put after (suc k) vs) us e in
    put_long h.first (suc k) vs us h.then ∙ replaced_long ws k v h.first h.is

pub bytes_long : (ws : List Word) (k : ℕ) (bs : List ℕ) (us : List Word) → put_bytes ws k bs ≡ Found us → length us ≡ length ws
bytes_long ws k [] us e = ap length (sym (found_same ws us e))
bytes_long ws k (b ∷ bs) us e =
    let h = both (with_number_at Byte ws (pos k) (pos b)) (λ after. put_bytes after (suc k) bs) us e in
    bytes_long h.first (suc k) bs us h.then ∙ number_long Byte ws (pos k) (pos b) h.first h.is

pub moved_long : (source : List Word) (from : ℕ) (target : List Word) (to count : ℕ) (us : List Word)
    → moved source from target to count ≡ Found us → length us ≡ length target
moved_long source from target to count us e = go (is_whole from && is_whole to && is_whole count) e
  where
    go : (b : Bool)
        → (if b then plain_words source (from / 4) (count / 4) >>= put target (to / 4)
        else bytes_from source from count >>= put_bytes target to) ≡ Found us
        → length us ≡ length target
    go true e =
        let h = both (plain_words source (from / 4) (count / 4)) (put target (to / 4)) us e in put_long target (to / 4) h.first us h.then
    go false e = let h = both (bytes_from source from count) (put_bytes target to) us e in bytes_long target to h.first us h.then

-- ---- words as they are taken

taken_within : (kind : ℕ → Word → Access Word) (ws : List Word) (from count : ℕ) (vs : List Word) → taken_by kind ws from count ≡ Found vs
    → count ≤ length ws - from
taken_within kind ws from zero vs e = omega arith
taken_within kind ws from (suc m) vs e =
    let h = both (or_wrong type_check (slice_get ws from))
    (λ w. kind from w >>= λ v. taken_by kind ws (suc from) m >>= λ vs. Found (v ∷ vs)) vs e in
    let g = both (kind from h.first) (λ v. taken_by kind ws (suc from) m >>= λ vs. Found (v ∷ vs)) vs h.then in
    let f = both (taken_by kind ws (suc from) m) (λ vs. Found (g.first ∷ vs)) vs g.then in
    let rest = taken_within kind ws (suc from) m f.first f.is in
    let here = get_within ws from h.first (or_found type_check (slice_get ws from) h.first h.is) in
    omega arith

bytes_within : (ws : List Word) (from count : ℕ) (bs : List ℕ) → bytes_from ws from count ≡ Found bs → count ≤ 4 * length ws - from
bytes_within ws from zero bs e = omega arith
bytes_within ws from (suc m) bs e =
    let h = both (number_at Byte ws (pos from) >>= byte_of) (λ b. bytes_from ws (suc from) m >>= λ bs. Found (b ∷ bs)) bs e in
    let g = both (number_at Byte ws (pos from)) byte_of h.first h.is in
    let f = both (nth_number ws (from / 4)) (λ z. Found (pos (slice_index (bytes_of z) (from % 4)))) g.first g.is in
    let d = both (or_wrong type_check (slice_get ws (from / 4))) number_in f.first f.is in
    let here = get_within ws (from / 4) d.first (or_found type_check (slice_get ws (from / 4)) d.first d.is) in
    let c = both (bytes_from ws (suc from) m) (λ bs. Found (h.first ∷ bs)) bs h.then in
    let rest = bytes_within ws (suc from) m c.first c.is in
    omega arith

pub typed_long : (desc : TypeDesc) (k : ℕ) (ws : List Word) (from count : ℕ) (vs : List Word)
    → typed_from desc k ws from count ≡ Found vs → length vs ≡ count
typed_long desc k ws from zero vs e = ap length (sym (found_same [] vs e))
typed_long desc k ws from (suc m) vs e =
    let h = both (or_wrong type_check (slice_get ws from) >>= as_marked (marks desc.map k))
    (λ v. typed_from desc (suc k) ws (suc from) m >>= λ vs. Found (v ∷ vs)) vs e in
    let f = both (typed_from desc (suc k) ws (suc from) m) (λ vs. Found (h.first ∷ vs)) vs h.then in
    ap length (sym (found_same (h.first ∷ f.first) vs f.then)) ∙ ap suc (typed_long desc (suc k) ws (suc from) m f.first f.is)

-- ---- words as they are made

blanks_long : (desc : TypeDesc) (k count : ℕ) → length (blanks desc k count) ≡ count
blanks_long desc k zero = refl
blanks_long desc k (suc m) = ap suc (blanks_long desc (suc k) m)

pub blank_long : (desc : TypeDesc) → length (blank desc) ≡ desc.size / 4
blank_long desc = blanks_long desc 0 (desc.size / 4)

-- An array of at most so many bytes.
pub array_long : (desc : TypeDesc) (long : ℕ) → nat_le (blocks.bytes_for desc long) blocks.most_bytes ≡ true
    → length (map (blocks.blank_word desc) (range_with_len 0 (blocks.words_for desc long))) ≤ 67108864
array_long desc long e =
    let few : desc.size * long ≤ 268435456 = leb-true (desc.size * long) 268435456 e in
    let long_is = length-map-range_with_len (blocks.blank_word desc) 0 (blocks.words_for desc long) in
    let words : (desc.size * long + 3) / 4 ≤ 67108864 = words_for (desc.size * long) few in
    omega arith
  where
    words_for : (bytes : ℕ) → bytes ≤ 268435456 → (bytes + 3) / 4 ≤ 67108864
    words_for bytes few = omega arith

-- Plain words that are copied into blank ones, as many as they take, are no more than there are.
pub copied_within : (source : List Word) (from count : ℕ) (element : List Word)
    → moved source from (blank (plain_type count)) 0 count ≡ Found element → length element ≤ length source
copied_within source from count element e =
    let long = moved_long source from (blank (plain_type count)) 0 count element e in
    let blank_is = blank_long (plain_type count) in
    let bytes : count ≤ 4 * length source = go (is_whole from) (is_whole count) refl e in
    let words : (count + 3) / 4 * 4 / 4 ≤ length source = whole count (length source) bytes in
    omega arith
  where
    whole : (n k : ℕ) → n ≤ 4 * k → (n + 3) / 4 * 4 / 4 ≤ k
    whole n k h = omega arith

    four : (n k : ℕ) → n % 4 ≡ 0 → n / 4 ≤ k → n ≤ 4 * k
    four n k h l = omega arith

    by_bytes : bytes_from source from count >>= put_bytes (blank (plain_type count)) 0 ≡ Found element → count ≤ 4 * length source
    by_bytes e =
        let h = both (bytes_from source from count) (put_bytes (blank (plain_type count)) 0) element e in
        let z = bytes_within source from count h.first h.is in
        omega arith

    go : (a b : Bool) → is_whole count ≡ b
        → (if a && true && b then plain_words source (from / 4) (count / 4) >>= put (blank (plain_type count)) 0
        else bytes_from source from count >>= put_bytes (blank (plain_type count)) 0) ≡ Found element
        → count ≤ 4 * length source
    go true true w e =
        let h = both (plain_words source (from / 4) (count / 4)) (put (blank (plain_type count)) 0) element e in
        let z = taken_within (λ k w. plain w) source (from / 4) (count / 4) h.first h.is in
        four count (length source) (eqb-true (count % 4) 0 w) (omega arith)
    go true false w e = by_bytes e
    go false true w e = by_bytes e
    go false false w e = by_bytes e
