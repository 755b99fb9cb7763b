-- What is stored refers to what is there.
use Rattle.std.proofs.Common.{◌≡◌, ◌≢◌, ℕ, zero, suc, ℤ, ◌⊎◌, inl, inr, Bool, true, false, List, [], ◌∷◌, ◌++◌, refl, sym, ap, subst, ◌∙◌}
use Rattle.std.specs.Prelude.{Option, Some, None, map, slice_get, slice_set, nat_eq, if◌then◌else◌, ◌*◌, ◌/◌, ◌%◌, ◌==◌, ◌&&◌, pos}
use Rattle.std.specs.Prelude.{unsigned_abs}
use Rattle.dis_file.specs.declared.types.TypeDesc.{TypeDesc}
use Rattle.dis_file.specs.References.{marks}
use Rattle.limbo_values.specs.declared.number.Kind.{Kind}
use Rattle.limbo_values.specs.declared.number.Kind.TheVariants.{Byte, Int, Big}
use Rattle.heap_model.specs.Heap.{Heap, at}
use Rattle.heap_model.proofs.Heap.{at_last}
use Rattle.dis_meaning.specs.Words.{InBlock, InFrame, Word, Plain, Refer, Address, Access, Found, Wrong, ◌>>=◌}
use Rattle.dis_meaning.specs.Words.{type_check, or_wrong, at_least_zero, word_number, word_at, fits, replaced, stored, plain, reference}
use Rattle.dis_meaning.specs.Words.{blank_word, blanks, blank}
use Rattle.dis_meaning.specs.Numbers.{nth_number, with_number_at, with_byte, high_part, low_part}
use Rattle.dis_meaning.specs.Places.{Spot, Own, Data, Far, words_in, all_frames, place_in, change}
use Rattle.dis_meaning.specs.Process.{Frame, Process}
use Rattle.dis_memory.specs.Blocks as blocks
use Rattle.dis_memory.specs.Blocks.{Block, Record, Text, Array, Part, Cell, Channel, Instance, Sys, World, block, reached, with_block, with_changed}
use Rattle.dis_memory.specs.Blocks.{next_serial, with_words}
use Rattle.dis_memory.specs.Places.{Memory, memory, data_at, words_at, read, with_data, with_words_at, store, store_number, spot, source_word, source_reference, reference_at}
use Rattle.dis_memory.specs.Copies.{taken_by, typed_from, as_marked, put, put_bytes, moved, is_whole, plain_words, bytes_from}
use Rattle.dis_isa.specs.declared.inst.Operand.{Operand}
use Rattle.dis_isa.specs.declared.inst.Operand.TheVariants as operand
use Rattle.std.specs.List.{range_with_len}
use Rattle.dis_memory.specs.Laws.{Grown}
use Rattle.dis_memory.specs.Sound.{IsThere, Refers, SomeRefers, FrameRefers, FramesRefer, IsClosed, NothingDangles}
use Rattle.dis_memory.proofs.Growing.{both, found_same, block_there, grown_block, grown_data, set_apart}
use Rattle.dis_memory.proofs.Reaching.{or_found, same_or_not}

-- ---- lists of words

pub refers_in : (ws : List Word) (k : ℕ) (w : Word) (n : ℕ) → slice_get ws k ≡ Some w → Refers w n → SomeRefers ws n
refers_in [] k w n e r = absurd cc
refers_in (v ∷ vs) zero w n e r = inl (subst (λ u. Refers u n) (let z : w ≡ v = cc in z) r)
refers_in (v ∷ vs) (suc k) w n e r = inr (refers_in vs k w n e r)

pub word_refers : (ws : List Word) (at : ℤ) (w : Word) (n : ℕ) → word_at ws at ≡ Found w → Refers w n → SomeRefers ws n
word_refers ws at w n e r =
    let h = both (word_number at) (λ k. or_wrong type_check (slice_get ws k)) w e in
    refers_in ws h.first w n (or_found type_check (slice_get ws h.first) w h.then) r

set_refers : (ws : List Word) (k : ℕ) (w : Word) (n : ℕ) → SomeRefers (slice_set ws k w) n → SomeRefers ws n ⊎ Refers w n
set_refers [] k w n r = inl r
set_refers (v ∷ vs) zero w n (inl r) = inr r
set_refers (v ∷ vs) zero w n (inr r) = inl (inr r)
set_refers (v ∷ vs) (suc k) w n (inl r) = inl (inl r)
set_refers (v ∷ vs) (suc k) w n (inr r) = go (set_refers vs k w n r)
  where
    go : SomeRefers vs n ⊎ Refers w n → SomeRefers (v ∷ vs) n ⊎ Refers w n
    go (inl s) = inl (inr s)
    go (inr s) = inr s

pub replaced_refers : (ws : List Word) (k : ℕ) (w : Word) (us : List Word) (n : ℕ) → replaced ws k w ≡ Found us → SomeRefers us n
    → SomeRefers ws n ⊎ Refers w n
replaced_refers ws k w us n e r =
    let h = both (or_wrong type_check (slice_get ws k)) (λ old. if fits old w then Found (slice_set ws k w) else Wrong type_check) us e in
    go (fits h.first w) h.then
  where
    go : (b : Bool) → (if b then Found (slice_set ws k w) else Wrong type_check) ≡ Found us → SomeRefers ws n ⊎ Refers w n
    go true f = set_refers ws k w n (subst (λ u. SomeRefers u n) (sym (found_same _ us f)) r)
    go false f = absurd cc

pub stored_refers : (ws : List Word) (at : ℤ) (w : Word) (us : List Word) (n : ℕ) → stored ws at w ≡ Found us → SomeRefers us n
    → SomeRefers ws n ⊎ Refers w n
stored_refers ws at w us n e r = let h = both (word_number at) (λ k. replaced ws k w) us e in replaced_refers ws h.first w us n h.then r

no_more : (ws : List Word) (n : ℕ) → SomeRefers ws n ⊎ ⊥ → SomeRefers ws n
no_more ws n (inl r) = r
no_more ws n (inr r) = absurd r

pub number_refers : (kind : Kind) (ws : List Word) (at z : ℤ) (us : List Word) (n : ℕ) → with_number_at kind ws at z ≡ Found us → SomeRefers us n
    → SomeRefers ws n
number_refers Int ws at z us n e r = no_more ws n (stored_refers ws at (Plain z) us n e r)
number_refers Byte ws at z us n e r =
    let h = both (at_least_zero at) (λ k. nth_number ws (k / 4) >>= λ old. replaced ws (k / 4) (Plain (with_byte old (k % 4) (unsigned_abs z)))) us e in
    let g = both (nth_number ws (h.first / 4)) (λ old. replaced ws (h.first / 4) (Plain (with_byte old (h.first % 4) (unsigned_abs z)))) us h.then in
    no_more ws n (replaced_refers ws (h.first / 4) (Plain (with_byte g.first (h.first % 4) (unsigned_abs z))) us n g.then r)
number_refers Big ws at z us n e r =
    let h = both (word_number at) (λ k. replaced ws k (Plain (high_part z)) >>= λ after. replaced after (suc k) (Plain (low_part z))) us e in
    let g = both (replaced ws h.first (Plain (high_part z))) (λ after. replaced after (suc h.first) (Plain (low_part z))) us h.then in
    no_more ws n (replaced_refers ws h.first (Plain (high_part z)) g.first n g.is
    (no_more g.first n (replaced_refers g.first (suc h.first) (Plain (low_part z)) us n g.then r)))

pub put_refers : (ws : List Word) (k : ℕ) (vs us : List Word) (n : ℕ) → put ws k vs ≡ Found us → SomeRefers us n → SomeRefers ws n ⊎ SomeRefers vs n
put_refers ws k [] us n e r = inl (subst (λ u. SomeRefers u n) (sym (found_same ws us e)) r)
put_refers ws k (v ∷ vs) us n e r =
    let h = both (replaced ws k v) (λ after. put after (suc k) vs) us e in
    go h.first h.is (put_refers h.first (suc k) vs us n h.then r)
  where
    more : SomeRefers ws n ⊎ Refers v n → SomeRefers ws n ⊎ SomeRefers (v ∷ vs) n
    more (inl r) = inl r
    more (inr r) = inr (inl r)

    go : (ts : List Word) → replaced ws k v ≡ Found ts → SomeRefers ts n ⊎ SomeRefers vs n → SomeRefers ws n ⊎ SomeRefers (v ∷ vs) n
    go ts f (inl r) = more (replaced_refers ws k v ts n f r)
    go ts f (inr r) = inr (inr r)

pub bytes_refer : (ws : List Word) (k : ℕ) (bs : List ℕ) (us : List Word) (n : ℕ) → put_bytes ws k bs ≡ Found us → SomeRefers us n → SomeRefers ws n
bytes_refer ws k [] us n e r = subst (λ u. SomeRefers u n) (sym (found_same ws us e)) r
bytes_refer ws k (b ∷ bs) us n e r =
    let h = both (with_number_at Byte ws (pos k) (pos b)) (λ after. put_bytes after (suc k) bs) us e in
    number_refers Byte ws (pos k) (pos b) h.first n h.is (bytes_refer h.first (suc k) bs us n h.then r)

-- What is taken of words refers to what they refer to.
pub taken_refers : (kind : ℕ → Word → Access Word) → ((k : ℕ) (w v : Word) (n : ℕ) → kind k w ≡ Found v → Refers v n → Refers w n)
    → (ws : List Word) (from count : ℕ) (vs : List Word) (n : ℕ) → taken_by kind ws from count ≡ Found vs → SomeRefers vs n → SomeRefers ws n
taken_refers kind same ws from zero vs n e r = absurd (subst (λ u. SomeRefers u n) (sym (found_same [] vs e)) r)
taken_refers kind same ws from (suc m) vs n e r =
    let h = both (or_wrong type_check (slice_get ws from)) (λ w. kind from w >>= λ v. taken_by kind ws (suc from) m >>= λ vs. Found (v ∷ vs)) vs e in
    let g = both (kind from h.first) (λ v. taken_by kind ws (suc from) m >>= λ vs. Found (v ∷ vs)) vs h.then in
    let f = both (taken_by kind ws (suc from) m) (λ vs. Found (g.first ∷ vs)) vs g.then in
    go h.first g.first f.first (or_found type_check (slice_get ws from) h.first h.is) g.is (taken_refers kind same ws (suc from) m f.first n f.is)
    (subst (λ u. SomeRefers u n) (sym (found_same _ vs f.then)) r)
  where
    go : (w v : Word) (us : List Word) → slice_get ws from ≡ Some w → kind from w ≡ Found v → (SomeRefers us n → SomeRefers ws n)
        → SomeRefers (v ∷ us) n → SomeRefers ws n
    go w v us there is rest (inl r) = refers_in ws from w n there (same from w v n is r)
    go w v us there is rest (inr r) = rest r

pub plain_none : (w v : Word) (n : ℕ) → plain w ≡ Found v → Refers v n → ⊥
plain_none (Plain z) v n e r = subst (λ u. Refers u n) (sym (found_same _ v e)) r
plain_none (Address place at) v n e r = subst (λ u. Refers u n) (sym (found_same _ v e)) r
plain_none (Refer s) v n e r = absurd cc

-- What a type marks, or what has to be plain, refers to what the words refer to.
pub typed_refers : (desc : TypeDesc) (k : ℕ) (ws : List Word) (from count : ℕ) (vs : List Word) (n : ℕ) → typed_from desc k ws from count ≡ Found vs
    → SomeRefers vs n → SomeRefers ws n
typed_refers desc k ws from zero vs n e r = absurd (subst (λ u. SomeRefers u n) (sym (found_same [] vs e)) r)
typed_refers desc k ws from (suc m) vs n e r =
    let h = both (or_wrong type_check (slice_get ws from) >>= as_marked (marks desc.map k)) (λ v. typed_from desc (suc k) ws (suc from) m >>= λ vs. Found (v ∷ vs)) vs e in
    let g = both (or_wrong type_check (slice_get ws from)) (as_marked (marks desc.map k)) h.first h.is in
    let f = both (typed_from desc (suc k) ws (suc from) m) (λ vs. Found (h.first ∷ vs)) vs h.then in
    go g.first h.first f.first (or_found type_check (slice_get ws from) g.first g.is) (marks desc.map k) g.then
    (typed_refers desc (suc k) ws (suc from) m f.first n f.is) (subst (λ u. SomeRefers u n) (sym (found_same _ vs f.then)) r)
  where
    marked : (b : Bool) (w v : Word) → as_marked b w ≡ Found v → Refers v n → Refers w n
    marked true (Refer s) v e r = subst (λ u. Refers u n) (sym (found_same _ v e)) r
    marked true (Plain z) v e r = absurd cc
    marked true (Address place at) v e r = absurd cc
    marked false w v e r = absurd (plain_none w v n e r)

    go : (w v : Word) (us : List Word) → slice_get ws from ≡ Some w → (b : Bool) → as_marked b w ≡ Found v → (SomeRefers us n → SomeRefers ws n)
        → SomeRefers (v ∷ us) n → SomeRefers ws n
    go w v us there b is rest (inl r) = refers_in ws from w n there (marked b w v is r)
    go w v us there b is rest (inr r) = rest r

-- Plain words refer to nothing.
pub plains_none : (ws : List Word) (from count : ℕ) (vs : List Word) (n : ℕ) → plain_words ws from count ≡ Found vs → SomeRefers vs n → ⊥
plains_none ws from zero vs n e r = subst (λ u. SomeRefers u n) (sym (found_same [] vs e)) r
plains_none ws from (suc m) vs n e r =
    let h = both (or_wrong type_check (slice_get ws from)) (λ w. plain w >>= λ v. plain_words ws (suc from) m >>= λ vs. Found (v ∷ vs)) vs e in
    let g = both (plain h.first) (λ v. plain_words ws (suc from) m >>= λ vs. Found (v ∷ vs)) vs h.then in
    let f = both (plain_words ws (suc from) m) (λ vs. Found (g.first ∷ vs)) vs g.then in
    go h.first g.first f.first g.is (plains_none ws (suc from) m f.first n f.is) (subst (λ u. SomeRefers u n) (sym (found_same _ vs f.then)) r)
  where
    go : (w v : Word) (us : List Word) → plain w ≡ Found v → (SomeRefers us n → ⊥) → SomeRefers (v ∷ us) n → ⊥
    go w v us is rest (inl r) = plain_none w v n is r
    go w v us is rest (inr r) = rest r

-- Plain words, or bytes, that come to a place refer to nothing more.
pub moved_refers : (source : List Word) (from : ℕ) (target : List Word) (to count : ℕ) (us : List Word) (n : ℕ)
    → moved source from target to count ≡ Found us → SomeRefers us n → SomeRefers target n
moved_refers source from target to count us n e r = go (is_whole from && is_whole to && is_whole count) e
  where
    none : (vs : List Word) → plain_words source (from / 4) (count / 4) ≡ Found vs → SomeRefers target n ⊎ SomeRefers vs n → SomeRefers target n
    none vs is (inl s) = s
    none vs is (inr s) = absurd (plains_none source (from / 4) (count / 4) vs n is s)

    go : (b : Bool)
        → (if b then plain_words source (from / 4) (count / 4) >>= put target (to / 4) else bytes_from source from count >>= put_bytes target to) ≡ Found us
        → SomeRefers target n
    go true e =
        let h = both (plain_words source (from / 4) (count / 4)) (put target (to / 4)) us e in
        none h.first h.is (put_refers target (to / 4) h.first us n h.then r)
    go false e =
        let h = both (bytes_from source from count) (put_bytes target to) us e in bytes_refer target to h.first us n h.then r

-- ---- words as they are made

blank_none : (desc : TypeDesc) (k n : ℕ) → Refers (blank_word desc k) n → ⊥
blank_none desc k n r = go (marks desc.map k) r
  where
    go : (b : Bool) → Refers (if b then Refer None else Plain (pos 0)) n → ⊥
    go true r = absurd cc
    go false r = r

blanks_none : (desc : TypeDesc) (k count n : ℕ) → SomeRefers (blanks desc k count) n → ⊥
blanks_none desc k zero n r = r
blanks_none desc k (suc m) n (inl r) = blank_none desc k n r
blanks_none desc k (suc m) n (inr r) = blanks_none desc (suc k) m n r

pub blank_refers : (desc : TypeDesc) (n : ℕ) → SomeRefers (blank desc) n → ⊥
blank_refers desc n r = blanks_none desc 0 (desc.size / 4) n r

array_none : (desc : TypeDesc) (ks : List ℕ) (n : ℕ) → SomeRefers (map (blocks.blank_word desc) ks) n → ⊥
array_none desc [] n r = r
array_none desc (k ∷ ks) n (inl r) = go (((4 * k) % desc.size) % 4 == 0 && marks desc.map (((4 * k) % desc.size) / 4)) r
  where
    go : (b : Bool) → Refers (if b then Refer None else Plain (pos 0)) n → ⊥
    go true r = absurd cc
    go false r = r
array_none desc (k ∷ ks) n (inr r) = array_none desc ks n r

pub array_refers : (desc : TypeDesc) (long n : ℕ) → SomeRefers (blocks.words_in (blocks.blank_array desc long)) n → ⊥
array_refers desc long n r = array_none desc (range_with_len 0 (blocks.words_for desc long)) n r

-- ---- places

-- The words that operands reach in a block are words of the block.
reached_refers : (b : Block) (ws : List Word) (n : ℕ) → reached b ≡ Found ws → SomeRefers ws n → SomeRefers (blocks.words_in b) n
reached_refers (Record words) ws n e r = rw (found_same words ws e) r
reached_refers (Array element long words) ws n e r = rw (found_same words ws e) r
reached_refers (Instance object words) ws n e r = rw (found_same words ws e) r
reached_refers (Text chars) ws n e r = absurd cc
reached_refers (Part array start long) ws n e r = absurd cc
reached_refers (Cell element rest) ws n e r = absurd cc
reached_refers (Channel element) ws n e r = absurd cc
reached_refers (Sys names) ws n e r = absurd cc

frame_refers : (fs : List Frame) (s : ℕ) (ws : List Word) (n : ℕ) → words_in s fs ≡ Found ws → SomeRefers ws n → FramesRefer fs n
frame_refers [] s ws n e r = absurd cc
frame_refers (f ∷ fs) s ws n e r = go (nat_eq f.serial s) e (λ h. frame_refers fs s ws n h r)
  where
    go : (b : Bool) → (if b then Found f.words else words_in s fs) ≡ Found ws → (words_in s fs ≡ Found ws → FramesRefer fs n)
        → FramesRefer (f ∷ fs) n
    go true e rest = inl (inr (rw (found_same f.words ws e) r))
    go false e rest = inr (rest e)

module _ (x : World) (p : Process) (d : NothingDangles x p) where
  block_sound : (m : ℕ) (ws : List Word) (n : ℕ) → data_at x m ≡ Found ws → SomeRefers ws n → IsThere x n
  block_sound m ws n e r =
      let h = both (block x m) reached ws e in
      d.heap m n h.first (block_there x m h.first h.is) (reached_refers h.first ws n h.then r)

  pub words_sound : (s : Spot) (ws : List Word) (n : ℕ) → words_at x p s ≡ Found ws → SomeRefers ws n → IsThere x n
  words_sound (Own at) ws n e r = d.process n (inl (inr (rw (found_same p.frame.words ws e) r)))
  words_sound (Data at) ws n e r = block_sound p.frame.instance ws n e r
  words_sound (Far (InFrame s) at) ws n e r = d.process n (frame_refers (all_frames p) s ws n e r)
  words_sound (Far (InBlock m) at) ws n e r = block_sound m ws n e r

  pub read_sound : (s : Spot) (w : Word) (n : ℕ) → read x p s ≡ Found w → Refers w n → IsThere x n
  read_sound s w n e r =
      let h = both (words_at x p s) (λ words. word_at words (place_in s)) w e in
      words_sound s h.first n h.is (word_refers h.first (place_in s) w n h.then r)

  operand_sound : (o : Operand) (w : Word) (n : ℕ) → spot x p o >>= read x p ≡ Found w → Refers w n → IsThere x n
  operand_sound o w n e r = let h = both (spot x p o) (read x p) w e in read_sound h.first w n h.then r

  pub source_sound : (o : Operand) (w : Word) (n : ℕ) → source_word x p o ≡ Found w → Refers w n → IsThere x n
  source_sound (operand.Imm z) w n e r = absurd (subst (λ u. Refers u n) (sym (found_same (Plain z) w e)) r)
  source_sound (operand.Fp k) w n e r = operand_sound (operand.Fp k) w n e r
  source_sound (operand.Mp k) w n e r = operand_sound (operand.Mp k) w n e r
  source_sound (operand.IndFp inner outer) w n e r = operand_sound (operand.IndFp inner outer) w n e r
  source_sound (operand.IndMp inner outer) w n e r = operand_sound (operand.IndMp inner outer) w n e r
  source_sound operand.None w n e r = absurd cc

  is_refer : (w : Word) (r : Option ℕ) (n : ℕ) → reference w ≡ Found r → r ≡ Some n → Refers w n
  is_refer (Refer s) r n e f = found_same s r e ∙ f
  is_refer (Plain z) r n e f = absurd cc
  is_refer (Address place at) r n e f = absurd cc

  pub reference_sound : (o : Operand) (r : Option ℕ) (n : ℕ) → source_reference x p o ≡ Found r → r ≡ Some n → IsThere x n
  reference_sound o r n e f =
      let h = both (source_word x p o) reference r e in source_sound o h.first n h.is (is_refer h.first r n h.then f)

  pub there_sound : (s : Spot) (r : Option ℕ) (n : ℕ) → reference_at x p s ≡ Found r → r ≡ Some n → IsThere x n
  there_sound s r n e f =
      let h = both (read x p s) reference r e in read_sound s h.first n h.is (is_refer h.first r n h.then f)

-- ---- what a store leaves

change_refers : (s : ℕ) (ws : List Word) (fs : List Frame) (n : ℕ) → FramesRefer (map (change s ws) fs) n → FramesRefer fs n ⊎ SomeRefers ws n
change_refers s ws [] n r = inl r
change_refers s ws (f ∷ fs) n r = go (nat_eq f.serial s) r (change_refers s ws fs n)
  where
    more : FramesRefer fs n ⊎ SomeRefers ws n → FramesRefer (f ∷ fs) n ⊎ SomeRefers ws n
    more (inl r) = inl (inr r)
    more (inr r) = inr r

    go : (b : Bool) → FrameRefers (if b then record { serial = f.serial; instance = f.instance; pc = f.pc; words = ws } else f) n ⊎ FramesRefer (map (change s ws) fs) n
        → (FramesRefer (map (change s ws) fs) n → FramesRefer fs n ⊎ SomeRefers ws n) → FramesRefer (f ∷ fs) n ⊎ SomeRefers ws n
    go true (inl (inl r)) rest = inl (inl (inl r))
    go true (inl (inr r)) rest = inr r
    go false (inl r) rest = inl (inl r)
    go b (inr r) rest = more (rest r)

with_words_refers : (ws : List Word) (b : Block) (n : ℕ) → SomeRefers (blocks.words_in (with_words ws b)) n
    → SomeRefers ws n ⊎ SomeRefers (blocks.words_in b) n
with_words_refers ws (Record words) n r = inl r
with_words_refers ws (Array element long words) n r = inl r
with_words_refers ws (Instance object words) n r = inl r
with_words_refers ws (Text chars) n r = inr r
with_words_refers ws (Part array start long) n r = inr r
with_words_refers ws (Cell element rest) n r = inr r
with_words_refers ws (Channel element) n r = inr r
with_words_refers ws (Sys names) n r = inr r

set_cases : (h : Heap Block) (k : ℕ) (c : Block) (m : ℕ) (b : Block) → at (slice_set h k (Some c)) m ≡ Some b → (c ≡ b) ⊎ (at h m ≡ Some b)
set_cases h k c m b e = go (same_or_not m k)
  where
    here : (h : Heap Block) (k : ℕ) → at (slice_set h k (Some c)) k ≡ Some b → (c ≡ b) ⊎ (at h k ≡ Some b)
    here [] k e = inr e
    here (o ∷ os) zero e = inl (let z : c ≡ b = cc in z)
    here (o ∷ os) (suc k) e = here os k e

    go : (m ≡ k) ⊎ (m ≢ k) → (c ≡ b) ⊎ (at h m ≡ Some b)
    go (inl same) = subst (λ i. (c ≡ b) ⊎ (at h i ≡ Some b)) (sym same) (here h k (subst (λ i. at (slice_set h k (Some c)) i ≡ Some b) same e))
    go (inr apart) = inr (sym (set_apart h k (Some c) m apart) ∙ e)

there_on : (x y : World) (n : ℕ) → Grown x y → IsThere x n → IsThere y n
there_on x y n g t = g.there n t.0 t.1

module _ (y : World) (p : Process) (old : NothingDangles y p) where
  data_closed : (z : World) (k : ℕ) (ws : List Word) → ((n : ℕ) → SomeRefers ws n → IsThere y n) → with_data y k ws ≡ Found z → IsClosed z
  data_closed z k ws new e m n b there r =
      let h = both (block y k) (λ b. Found (with_changed y k (with_words ws b))) z e in
      let g = grown_data y z k ws e in
      let same : with_changed y k (with_words ws h.first) ≡ z = found_same _ z h.then in
      let at_z : at (slice_set y.heap k (Some (with_words ws h.first))) m ≡ Some b = ap (λ w. at w.heap m) same ∙ there in
      go h.first (block_there y k h.first h.is) g (set_cases y.heap k (with_words ws h.first) m b at_z)
    where
      inner : (c : Block) → at y.heap k ≡ Some c → SomeRefers ws n ⊎ SomeRefers (blocks.words_in c) n → IsThere y n
      inner c is (inl r) = new n r
      inner c is (inr r) = old.heap k n c is r

      go : (c : Block) → at y.heap k ≡ Some c → Grown y z → (with_words ws c ≡ b) ⊎ (at y.heap m ≡ Some b) → IsThere z n
      go c is g (inl same) =
          there_on y z n g (inner c is (with_words_refers ws c n (subst (λ u. SomeRefers (blocks.words_in u) n) (sym same) r)))
      go c is g (inr was) = there_on y z n g (old.heap m n b was r)

  pub data_kept : (z : World) (k : ℕ) (ws : List Word) → ((n : ℕ) → SomeRefers ws n → IsThere y n) → with_data y k ws ≡ Found z → NothingDangles z p
  data_kept z k ws new e =
      record { heap = data_closed z k ws new e; process = λ n r. there_on y z n (grown_data y z k ws e) (old.process n r) }

  as_memory : (m m' : Memory) → m ≡ m' → NothingDangles m.world m.process → NothingDangles m'.world m'.process
  as_memory m m' e d = subst (λ u. NothingDangles u.world u.process) e d

  pub words_kept : (s : Spot) (ws : List Word) (m : Memory) → ((n : ℕ) → SomeRefers ws n → IsThere y n) → with_words_at y p s ws ≡ Found m
      → NothingDangles m.world m.process
  words_kept (Own k) ws m new e = as_memory _ m (found_same _ m e) (record { heap = old.heap; process = own_sound })
    where
      own_sound : (n : ℕ) → FramesRefer (record { serial = p.frame.serial; instance = p.frame.instance; pc = p.frame.pc; words = ws } ∷ p.below ++ p.made) n → IsThere y n
      own_sound n (inl (inl r)) = old.process n (inl (inl r))
      own_sound n (inl (inr r)) = new n r
      own_sound n (inr r) = old.process n (inr r)
  words_kept (Data k) ws m new e =
      let h = both (with_data y p.frame.instance ws) (λ z. Found (memory z p)) m e in
      as_memory (memory h.first p) m (found_same _ m h.then) (data_kept h.first p.frame.instance ws new h.is)
  words_kept (Far (InFrame s) k) ws m new e =
      as_memory _ m (found_same _ m e) (record { heap = old.heap; process = λ n r. go n (change_refers s ws (all_frames p) n (joined n r)) })
    where
      appended : (fs gs : List Frame) (n : ℕ) → FramesRefer (map (change s ws) fs ++ map (change s ws) gs) n → FramesRefer (map (change s ws) (fs ++ gs)) n
      appended [] gs n r = r
      appended (f ∷ fs) gs n (inl r) = inl r
      appended (f ∷ fs) gs n (inr r) = inr (appended fs gs n r)

      joined : (n : ℕ) → FramesRefer (change s ws p.frame ∷ map (change s ws) p.below ++ map (change s ws) p.made) n → FramesRefer (map (change s ws) (all_frames p)) n
      joined n (inl r) = inl r
      joined n (inr r) = inr (appended p.below p.made n r)

      go : (n : ℕ) → FramesRefer (all_frames p) n ⊎ SomeRefers ws n → IsThere y n
      go n (inl r) = old.process n r
      go n (inr r) = new n r
  words_kept (Far (InBlock j) k) ws m new e =
      let h = both (with_data y j ws) (λ z. Found (memory z p)) m e in
      as_memory (memory h.first p) m (found_same _ m h.then) (data_kept h.first j ws new h.is)

  pub store_kept : (s : Spot) (w : Word) (m : Memory) → ((n : ℕ) → Refers w n → IsThere y n) → store y p s w ≡ Found m → NothingDangles m.world m.process
  store_kept s w m new e =
      let h = both (words_at y p s) (λ words. stored words (place_in s) w >>= with_words_at y p s) m e in
      let g = both (stored h.first (place_in s) w) (with_words_at y p s) m h.then in
      words_kept s g.first m (λ n r. go n h.first h.is (stored_refers h.first (place_in s) w g.first n g.is r)) g.then
    where
      go : (n : ℕ) (ws : List Word) → words_at y p s ≡ Found ws → SomeRefers ws n ⊎ Refers w n → IsThere y n
      go n ws is (inl r) = words_sound y p old s ws n is r
      go n ws is (inr r) = new n r

  pub number_kept : (kind : Kind) (s : Spot) (z : ℤ) (m : Memory) → store_number kind y p s z ≡ Found m → NothingDangles m.world m.process
  number_kept kind s z m e =
      let h = both (words_at y p s) (λ words. with_number_at kind words (place_in s) z >>= with_words_at y p s) m e in
      let g = both (with_number_at kind h.first (place_in s) z) (with_words_at y p s) m h.then in
      words_kept s g.first m (λ n r. words_sound y p old s h.first n h.is (number_refers kind h.first (place_in s) z g.first n g.is r)) g.then

-- A new block, whose words refer to what is there.
pub block_kept : (x : World) (p : Process) (b : Block) → NothingDangles x p → ((n : ℕ) → SomeRefers (blocks.words_in b) n → IsThere x n)
    → NothingDangles (with_block x b) p
block_kept x p b d new = record {
  heap = λ m n c there r. there_on x (with_block x b) n (grown_block x b) (go m n c r (more_cases x.heap m c there));
  process = λ n r. there_on x (with_block x b) n (grown_block x b) (d.process n r);
}
  where
    more_cases : (h : Heap Block) (m : ℕ) (c : Block) → at (h ++ Some b ∷ []) m ≡ Some c → (b ≡ c) ⊎ (at h m ≡ Some c)
    more_cases [] zero c e = inl (let z : b ≡ c = cc in z)
    more_cases [] (suc m) c e = inr e
    more_cases (o ∷ os) zero c e = inr e
    more_cases (o ∷ os) (suc m) c e = more_cases os m c e

    go : (m n : ℕ) (c : Block) → SomeRefers (blocks.words_in c) n → (b ≡ c) ⊎ (at x.heap m ≡ Some c) → IsThere x n
    go m n c r (inl same) = new n (subst (λ u. SomeRefers (blocks.words_in u) n) (sym same) r)
    go m n c r (inr was) = d.heap m n c was r

pub new_there : (x : World) (b : Block) → IsThere (with_block x b) (next_serial x)
new_there x b = (b, at_last x.heap (Some b) (next_serial x) refl)
