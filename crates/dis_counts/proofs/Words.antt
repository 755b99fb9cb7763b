-- Words that are all of some sort stay so, whatever of that sort is stored among them.
use Rattle.std.proofs.Common.{◌≡◌, ℕ, zero, suc, ◌*◌, ◌/◌, ◌%◌, ℤ, Bool, true, false, List, [], ◌∷◌, subst, if◌then◌else◌}
use Rattle.std.specs.Prelude.{Some, None, map, slice_get, slice_set, ◌==◌, ◌&&◌, pos, unsigned_abs}
use Rattle.std.specs.List.{range_with_len}
use Rattle.dis_file.specs.declared.types.TypeDesc.{TypeDesc}
use Rattle.dis_file.specs.References.{marks}
use Rattle.limbo_values.specs.declared.number.Kind.{Kind}
use Rattle.limbo_values.specs.declared.number.Kind.TheVariants.{Byte, Int, Big}
use Rattle.dis_meaning.specs.Words.{Word, Plain, Refer, Address, Access, Found, Wrong, ◌>>=◌, type_check, or_wrong, at_least_zero}
use Rattle.dis_meaning.specs.Words.{word_number, word_at, fits, replaced, stored, plain, blanks, blank}
use Rattle.dis_meaning.specs.Numbers.{nth_number, with_number_at, with_byte, high_part, low_part}
use Rattle.dis_memory.specs.Blocks as blocks
use Rattle.dis_memory.specs.Copies.{taken_by, typed_from, as_marked, put, put_bytes, moved, is_whole, plain_words, bytes_from}
use Rattle.dis_memory.proofs.Growing.{both, found_same}
use Rattle.dis_memory.proofs.Reaching.{or_found}

module _ (Ok : Word → Type 0) where
  abbrev pub AllOk : List Word → Type 0
  AllOk [] = Unit {0}
  AllOk (w ∷ ws) = Ok w × AllOk ws

  pub get_ok : (ws : List Word) (k : ℕ) (w : Word) → AllOk ws → slice_get ws k ≡ Some w → Ok w
  get_ok [] k w all e = absurd cc
  get_ok (v ∷ vs) zero w all e = subst Ok (let z : v ≡ w = cc in z) all.0
  get_ok (v ∷ vs) (suc k) w all e = get_ok vs k w all.1 e

  pub word_ok : (ws : List Word) (at : ℤ) (w : Word) → AllOk ws → word_at ws at ≡ Found w → Ok w
  word_ok ws at w all e =
      let h = both (word_number at) (λ k. or_wrong type_check (slice_get ws k)) w e in
      get_ok ws h.first w all (or_found type_check (slice_get ws h.first) w h.then)

  set_ok : (ws : List Word) (k : ℕ) (w : Word) → AllOk ws → Ok w → AllOk (slice_set ws k w)
  set_ok [] k w all ok = all
  set_ok (v ∷ vs) zero w all ok = (ok, all.1)
  set_ok (v ∷ vs) (suc k) w all ok = (all.0, set_ok vs k w all.1 ok)

  replaced_ok : (ws : List Word) (k : ℕ) (w : Word) (us : List Word) → AllOk ws → Ok w → replaced ws k w ≡ Found us → AllOk us
  replaced_ok ws k w us all ok e =
      let h = both (or_wrong type_check (slice_get ws k)) (λ old. if fits old w then Found (slice_set ws k w) else Wrong type_check) us e in
      go (fits h.first w) h.then
    where
      go : (b : Bool) → (if b then Found (slice_set ws k w) else Wrong type_check) ≡ Found us → AllOk us
      go true f = subst AllOk (found_same _ us f) (set_ok ws k w all ok)
      go false f = absurd cc

  pub stored_ok : (ws : List Word) (at : ℤ) (w : Word) (us : List Word) → AllOk ws → Ok w → stored ws at w ≡ Found us → AllOk us
  stored_ok ws at w us all ok e = let h = both (word_number at) (λ k. replaced ws k w) us e in replaced_ok ws h.first w us all ok h.then

  pub put_ok : (ws : List Word) (k : ℕ) (vs us : List Word) → AllOk ws → AllOk vs → put ws k vs ≡ Found us → AllOk us
  put_ok ws k [] us all new e = subst AllOk (found_same ws us e) all
  put_ok ws k (v ∷ vs) us all new e =
      let h = both (replaced ws k v) (λ after. put after (suc k) vs) us e in
      put_ok h.first (suc k) vs us (replaced_ok ws k v h.first all new.0 h.is) new.1 h.then

  -- What is taken of words is of their sort, where each is taken so.
  pub taken_ok : (kind : ℕ → Word → Access Word) → ((k : ℕ) (w v : Word) → kind k w ≡ Found v → Ok w → Ok v)
      → (ws : List Word) (from count : ℕ) (vs : List Word) → AllOk ws → taken_by kind ws from count ≡ Found vs → AllOk vs
  taken_ok kind same ws from zero vs all e = subst AllOk (found_same [] vs e) tt
  taken_ok kind same ws from (suc m) vs all e =
      let h = both (or_wrong type_check (slice_get ws from))
      (λ w. kind from w >>= λ v. taken_by kind ws (suc from) m >>= λ vs. Found (v ∷ vs)) vs e in
      let g = both (kind from h.first) (λ v. taken_by kind ws (suc from) m >>= λ vs. Found (v ∷ vs)) vs h.then in
      let f = both (taken_by kind ws (suc from) m) (λ vs. Found (g.first ∷ vs)) vs g.then in
      subst AllOk (found_same (g.first ∷ f.first) vs f.then) (
        same from h.first g.first g.is (get_ok ws from h.first all (or_found type_check (slice_get ws from) h.first h.is)),
        taken_ok kind same ws (suc from) m f.first all f.is,
      )

  pub plain_same : (w v : Word) → plain w ≡ Found v → Ok w → Ok v
  plain_same (Plain z) v e ok = subst Ok (found_same _ v e) ok
  plain_same (Address place at) v e ok = subst Ok (found_same _ v e) ok
  plain_same (Refer r) v e ok = absurd cc

  marked_same : (b : Bool) (w v : Word) → as_marked b w ≡ Found v → Ok w → Ok v
  marked_same true (Refer r) v e ok = subst Ok (found_same _ v e) ok
  marked_same true (Plain z) v e ok = absurd cc
  marked_same true (Address place at) v e ok = absurd cc
  marked_same false w v e ok = plain_same w v e ok

  pub typed_ok : (desc : TypeDesc) (k : ℕ) (ws : List Word) (from count : ℕ) (vs : List Word) → AllOk ws
      → typed_from desc k ws from count ≡ Found vs
      → AllOk vs
  typed_ok desc k ws from zero vs all e = subst AllOk (found_same [] vs e) tt
  typed_ok desc k ws from (suc m) vs all e =
      let h = both (or_wrong type_check (slice_get ws from) >>= as_marked (marks desc.map k))
      (λ v. typed_from desc (suc k) ws (suc from) m >>= λ vs. Found (v ∷ vs)) vs e in
      let g = both (or_wrong type_check (slice_get ws from)) (as_marked (marks desc.map k)) h.first h.is in
      let f = both (typed_from desc (suc k) ws (suc from) m) (λ vs. Found (h.first ∷ vs)) vs h.then in
      subst AllOk (found_same (h.first ∷ f.first) vs f.then) (
        marked_same (marks desc.map k) g.first h.first g.then
            (get_ok ws from g.first all (or_found type_check (slice_get ws from) g.first g.is)),
        typed_ok desc (suc k) ws (suc from) m f.first all f.is,
      )

  module _ (plain_ok : (z : ℤ) → Ok (Plain z)) (nil_ok : Ok (Refer None)) where
    pub number_ok : (kind : Kind) (ws : List Word) (at z : ℤ) (us : List Word) → AllOk ws → with_number_at kind ws at z ≡ Found us
        → AllOk us
    number_ok Int ws at z us all e = stored_ok ws at (Plain z) us all (plain_ok z) e
    number_ok Byte ws at z us all e =
        let h = both (at_least_zero at)
        (λ k. nth_number ws (k / 4) >>= λ old. replaced ws (k / 4) (Plain (with_byte old (k % 4) (unsigned_abs z)))) us e in
        let g = both (nth_number ws (h.first / 4))
        (λ old. replaced ws (h.first / 4) (Plain (with_byte old (h.first % 4) (unsigned_abs z)))) us h.then in
        replaced_ok ws (h.first / 4) (Plain (with_byte g.first (h.first % 4) (unsigned_abs z))) us all (plain_ok _) g.then
    number_ok Big ws at z us all e =
        let h = both (word_number at)
        (λ k. replaced ws k (Plain (high_part z)) >>= λ after. replaced after (suc k) (Plain (low_part z))) us e in
        let g = both (replaced ws h.first (Plain (high_part z))) (λ after. replaced after (suc h.first) (Plain (low_part z))) us h.then in
        replaced_ok g.first (suc h.first) (Plain (low_part z)) us
        (replaced_ok ws h.first (Plain (high_part z)) g.first all (plain_ok (high_part z)) g.is) (plain_ok (low_part z)) g.then

    pub bytes_ok : (ws : List Word) (k : ℕ) (bs : List ℕ) (us : List Word) → AllOk ws → put_bytes ws k bs ≡ Found us → AllOk us
    bytes_ok ws k [] us all e = subst AllOk (found_same ws us e) all
    bytes_ok ws k (b ∷ bs) us all e =
        let h = both (with_number_at Byte ws (pos k) (pos b)) (λ after. put_bytes after (suc k) bs) us e in
        bytes_ok h.first (suc k) bs us (number_ok Byte ws (pos k) (pos b) h.first all h.is) h.then

    -- Plain words, or bytes, that come to a place.
    pub moved_ok : (source : List Word) (from : ℕ) (target : List Word) (to count : ℕ) (us : List Word) → AllOk source → AllOk target
        → moved source from target to count ≡ Found us → AllOk us
    moved_ok source from target to count us all into e = go (is_whole from && is_whole to && is_whole count) e
      where
        go : (b : Bool)
            → (if b then plain_words source (from / 4) (count / 4) >>= put target
            (to / 4) else bytes_from source from count >>= put_bytes target to) ≡ Found us
            → AllOk us
        go true e =
            let h = both (plain_words source (from / 4) (count / 4)) (put target (to / 4)) us e in
            put_ok target (to / 4) h.first us into
            (taken_ok (λ k w. plain w) (λ k w v e ok. plain_same w v e ok) source (from / 4) (count / 4) h.first all h.is) h.then
        go false e =
            let h = both (bytes_from source from count) (put_bytes target to) us e in bytes_ok target to h.first us into h.then

    -- Words as they are made.
    made_ok : (b : Bool) → Ok (if b then Refer None else Plain (pos 0))
    made_ok true = nil_ok
    made_ok false = plain_ok (pos 0)

    blanks_ok : (desc : TypeDesc) (k count : ℕ) → AllOk (blanks desc k count)
    blanks_ok desc k zero = tt
    blanks_ok desc k (suc m) = (made_ok (marks desc.map k), blanks_ok desc (suc k) m)

    pub blank_ok : (desc : TypeDesc) → AllOk (blank desc)
    blank_ok desc = blanks_ok desc 0 (desc.size / 4)

    all_made : (desc : TypeDesc) (ks : List ℕ) → AllOk (map (blocks.blank_word desc) ks)
    all_made desc [] = tt
    all_made desc (k ∷ ks) = (made_ok (((4 * k) % desc.size) % 4 == 0 && marks desc.map (((4 * k) % desc.size) / 4)), all_made desc ks)

    pub array_ok : (desc : TypeDesc) (long : ℕ) → AllOk (blocks.words_in (blocks.blank_array desc long))
    array_ok desc long = all_made desc (range_with_len 0 (blocks.words_for desc long))
