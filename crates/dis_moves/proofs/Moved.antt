-- Words and bytes that go over others.
use Rattle.std.proofs.Common.{◌≡◌, ℕ, pos, zero, suc, ◌+◌, ◌/◌, ◌%◌, ◌<◌, Bool, true, false, List, [], ◌∷◌, length, Option, Some, None, Result, Ok, Err, IfOk, IfErr, refl, sym, ap, ◌∙◌, arith, if◌then◌else◌, ◌&&◌}
use Rattle.std.specs.Prelude.{slice_get, slice_index, Vec}
use Rattle.std.specs.Global.{Global}
use Rattle.std.proofs.lemmas.Nat.{div-mul-add, mod-mul-add}
use Rattle.std.proofs.Math.Nat.{div-add-mod}
use Rattle.limbo_values.specs.declared.number.Kind.TheVariants.{Byte}
use Rattle.ref_heap.specs.declared.word.Word as code_word
use Rattle.ref_heap.specs.Words.{Cell, cells}
use Rattle.ref_heap.specs.Store.{Block}
use Rattle.dis_meaning.specs.Words.{Word, Access, Found, Wrong, Raises, ◌>>=◌, type_check, or_wrong, plain, at_least_zero}
use Rattle.dis_meaning.specs.Numbers.{number_at, nth_number, bytes_of}
use Rattle.dis_meaning.specs.Process.{Process}
use Rattle.dis_meaning.specs.Places.{Spot, place_in}
use Rattle.dis_memory.specs.Blocks.{World}
use Rattle.dis_memory.specs.Copies.{byte_of, bytes_from, is_whole, moved, plain_words, put, put_bytes}
use Rattle.dis_memory.specs.Places.{words_at, with_words_at}
use Rattle.dis_memory.specs.Process.{next}
use Rattle.dis_places.specs.declared.fault.Halt.{Halt}
use Rattle.dis_places.specs.Blocks.{behind_first}
use Rattle.dis_places.specs.Regions.{block_words}
use Rattle.dis_places.specs.Words.{view_cells, view_words, Gives, Halts}
use Rattle.dis_kinds.specs.Views.{behind_in}
use Rattle.dis_stores.proofs.Blocks.{halts_on, halts_same}
use Rattle.dis_copies.specs.Spans.{none_refers, put_at}
use Rattle.dis_moves.specs.Bytes.{bytes_moved}
use Rattle.dis_moves.specs.Moves.{moved_to}
use Rattle.dis_moves.proofs.Chains.{as_put}
use Rattle.dis_moves.proofs.Windows.{words_plain}

-- As many bytes are found as are asked for.
pub bytes_long : (ws : List Word) (from count : ℕ) (bs : List ℕ) → bytes_from ws from count ≡ Found bs → length bs ≡ count
bytes_long ws from zero bs e = let same : [] ≡ bs = cc in ap length (sym same)
bytes_long ws from (suc n) bs e = go (number_at Byte ws (pos from) >>= byte_of) e (bytes_long ws (suc from) n)
  where
    rest : (b : ℕ) (a : Access (List ℕ)) → bytes_from ws (suc from) n ≡ a → (a >>= λ cs. Found (b ∷ cs)) ≡ Found bs →
        ((cs : List ℕ) → bytes_from ws (suc from) n ≡ Found cs → length cs ≡ n) → length bs ≡ suc n
    rest b (Found cs) is e more = let same : b ∷ cs ≡ bs = cc in ap length (sym same) ∙ ap suc (more cs is)
    rest b (Wrong m) is e more = absurd cc
    rest b (Raises text) is e more = absurd cc

    go : (a : Access ℕ) → (a >>= λ b. bytes_from ws (suc from) n >>= λ cs. Found (b ∷ cs)) ≡ Found bs →
        ((cs : List ℕ) → bytes_from ws (suc from) n ≡ Found cs → length cs ≡ n) → length bs ≡ suc n
    go (Found b) e more = rest b (bytes_from ws (suc from) n) refl e more
    go (Wrong m) e more = absurd cc
    go (Raises text) e more = absurd cc

module _ (source : List Word) (from : ℕ) (target : List Word) (to count : ℕ) (r : Result (Vec code_word.Word Global) Halt) where
  abbrev if_whole : Bool → Access (List Word)
  if_whole b = if b then plain_words source (from / 4) (count / 4) >>= put target (to / 4) else bytes_moved source from target to count

  module _ (whole : (is_whole from && is_whole to && is_whole count) ≡ true) (g : Gives (λ (found : Vec code_word.Word Global). view_words found.items) r (plain_words source (from / 4) (count / 4))) where
    pub whole_put : IfOk r (λ row. moved source from target to count ≡ put target (to / 4) (view_words row.items))
    whole_put = go r g
      where
        go : (r : Result (Vec code_word.Word Global) Halt) → Gives (λ (found : Vec code_word.Word Global). view_words found.items) r (plain_words source (from / 4) (count / 4)) →
            IfOk r (λ row. moved source from target to count ≡ put target (to / 4) (view_words row.items))
        go (Ok row) g = ap if_whole whole ∙ ap (λ a. a >>= put target (to / 4)) g
        go (Err h) g = tt

    pub whole_plain : IfOk r (λ row. none_refers (view_words row.items) ≡ true)
    whole_plain = go r g
      where
        go : (r : Result (Vec code_word.Word Global) Halt) → Gives (λ (found : Vec code_word.Word Global). view_words found.items) r (plain_words source (from / 4) (count / 4)) →
            IfOk r (λ row. none_refers (view_words row.items) ≡ true)
        go (Ok row) g = words_plain source (from / 4) (count / 4) (view_words row.items) g
        go (Err h) g = tt

    pub whole_fault : IfErr r (λ h. Halts h (moved source from target to count))
    whole_fault = go r g
      where
        go : (r : Result (Vec code_word.Word Global) Halt) → Gives (λ (found : Vec code_word.Word Global). view_words found.items) r (plain_words source (from / 4) (count / 4)) →
            IfErr r (λ h. Halts h (moved source from target to count))
        go (Ok row) g = tt
        go (Err h) g = halts_same h _ _ (ap if_whole whole) (halts_on h (plain_words source (from / 4) (count / 4)) (put target (to / 4)) g)

  module _ (whole : (is_whole from && is_whole to && is_whole count) ≡ false) where
    pub bytes_put : IfOk r (λ row. bytes_moved source from target to count ≡ put target (to / 4) (view_words row.items)) →
        IfOk r (λ row. moved source from target to count ≡ put target (to / 4) (view_words row.items))
    bytes_put g = go r g
      where
        go : (r : Result (Vec code_word.Word Global) Halt) → IfOk r (λ row. bytes_moved source from target to count ≡ put target (to / 4) (view_words row.items)) →
            IfOk r (λ row. moved source from target to count ≡ put target (to / 4) (view_words row.items))
        go (Ok row) g = ap if_whole whole ∙ g
        go (Err h) g = tt

    pub bytes_fault : IfErr r (λ h. Halts h (bytes_moved source from target to count)) → IfErr r (λ h. Halts h (moved source from target to count))
    bytes_fault g = go r g
      where
        go : (r : Result (Vec code_word.Word Global) Halt) → IfErr r (λ h. Halts h (bytes_moved source from target to count)) → IfErr r (λ h. Halts h (moved source from target to count))
        go (Ok row) g = tt
        go (Err h) g = halts_same h _ _ (ap if_whole whole) g

-- What is so of bytes that were found.
pub over_put : (source : List Word) (from : ℕ) (target : List Word) (to count : ℕ) (bs cs : List ℕ) (r : Result (Vec code_word.Word Global) Halt) →
    bytes_from source from count ≡ Found bs → cs ≡ bs → IfOk r (λ row. put_bytes target to cs ≡ put target (to / 4) (view_words row.items)) →
    IfOk r (λ row. bytes_moved source from target to count ≡ put target (to / 4) (view_words row.items))
over_put source from target to count bs cs (Ok row) e f g = ap (λ a. a >>= put_bytes target to) e ∙ ap (put_bytes target to) (sym f) ∙ g
over_put source from target to count bs cs (Err h) e f g = tt

pub over_fault : (source : List Word) (from : ℕ) (target : List Word) (to count : ℕ) (bs cs : List ℕ) (r : Result (Vec code_word.Word Global) Halt) →
    bytes_from source from count ≡ Found bs → cs ≡ bs → IfErr r (λ h. Halts h (put_bytes target to cs)) → IfErr r (λ h. Halts h (bytes_moved source from target to count))
over_fault source from target to count bs cs (Ok row) e f g = tt
over_fault source from target to count bs cs (Err h) e f g = halts_same h _ _ (ap (λ a. a >>= put_bytes target to) e ∙ ap (put_bytes target to) (sym f)) g

-- ---- where they go

module _ (x : World) (p : Process) (source : List Word) (from count : ℕ) (d : Spot) (target : List Word) (to : ℕ) (there : words_at x p d ≡ Found target) (at : at_least_zero (place_in d) ≡ Found to) where
  pub as_moved : moved_to x p source from count d ≡ (moved source from target to count >>= with_words_at x p d >>= λ m. Found (next m))
  as_moved =
      ap (λ a. a >>= λ target. at_least_zero (place_in d) >>= λ to. moved source from target to count >>= with_words_at x p d >>= λ m. Found (next m)) there
      ∙ ap (λ a. a >>= λ to. moved source from target to count >>= with_words_at x p d >>= λ m. Found (next m)) at

  pub moved_put : (vs : List Word) → moved source from target to count ≡ put target (to / 4) vs → moved_to x p source from count d ≡ (put_at x p d (to / 4) vs >>= λ m. Found (next m))
  moved_put vs e = as_moved ∙ ap (λ a. a >>= with_words_at x p d >>= λ m. Found (next m)) e ∙ as_put x p d target (to / 4) vs there

  pub moved_halts : (h : Halt) → Halts h (moved source from target to count) → Halts h (moved_to x p source from count d)
  moved_halts h e =
      halts_same h _ _ as_moved
      (halts_on h (moved source from target to count >>= with_words_at x p d) (λ m. Found (next m)) (halts_on h (moved source from target to count) (with_words_at x p d) e))

-- ---- the element of a cell stands behind the reference to the rest

plain_past : (w : Word) (ws : List Word) (j n : ℕ) → plain_words (w ∷ ws) (suc j) n ≡ plain_words ws j n
plain_past w ws j zero = refl
plain_past w ws j (suc n) = ap (λ r. or_wrong type_check (slice_get ws j) >>= λ w. plain w >>= λ v. r >>= λ vs. Found (v ∷ vs)) (plain_past w ws (suc j) n)

plain_none : (j k n : ℕ) → plain_words [] j n ≡ plain_words [] k n
plain_none j k zero = refl
plain_none j k (suc n) = refl

past_quotient : (j : ℕ) → (4 + j) / 4 ≡ suc (j / 4)
past_quotient j =
    let e = div-add-mod j 4 in let lt : j % 4 < 4 = omega arith in
    ap (λ n. n / 4) (omega (arith, e)) ∙ div-mul-add (suc (j / 4)) 4 (j % 4) lt

past_remainder : (j : ℕ) → (4 + j) % 4 ≡ j % 4
past_remainder j =
    let e = div-add-mod j 4 in let lt : j % 4 < 4 = omega arith in
    ap (λ n. n % 4) (omega (arith, e)) ∙ mod-mul-add (suc (j / 4)) 4 (j % 4) lt

byte_past : (w : Word) (ws : List Word) (j : ℕ) → number_at Byte (w ∷ ws) (pos (4 + j)) ≡ number_at Byte ws (pos j)
byte_past w ws j =
    ap (λ k. nth_number (w ∷ ws) k >>= λ z. Found (pos (slice_index (bytes_of z) ((4 + j) % 4)))) (past_quotient j)
    ∙ ap (λ r. nth_number ws (j / 4) >>= λ z. Found (pos (slice_index (bytes_of z) r))) (past_remainder j)

bytes_past : (w : Word) (ws : List Word) (j n : ℕ) → bytes_from (w ∷ ws) (4 + j) n ≡ bytes_from ws j n
bytes_past w ws j zero = refl
bytes_past w ws j (suc n) =
    ap (λ a. a >>= byte_of >>= λ b. bytes_from (w ∷ ws) (suc (4 + j)) n >>= λ bs. Found (b ∷ bs)) (byte_past w ws j)
    ∙ ap (λ k. number_at Byte ws (pos j) >>= byte_of >>= λ b. bytes_from (w ∷ ws) k n >>= λ bs. Found (b ∷ bs)) (omega arith)
    ∙ ap (λ r. number_at Byte ws (pos j) >>= byte_of >>= λ b. r >>= λ bs. Found (b ∷ bs)) (bytes_past w ws (suc j) n)

bytes_none : (j k n : ℕ) → bytes_from [] j n ≡ bytes_from [] k n
bytes_none j k zero = refl
bytes_none j k (suc n) = refl

moved_past : (ws vs : List Word) (target : List Word) (to count : ℕ) → ((n : ℕ) → plain_words ws 1 n ≡ plain_words vs 0 n) → ((n : ℕ) → bytes_from ws 4 n ≡ bytes_from vs 0 n) →
    moved vs 0 target to count ≡ moved ws 4 target to count
moved_past ws vs target to count p b = go (is_whole to && is_whole count)
  where
    go : (c : Bool) → (if c then plain_words vs 0 (count / 4) >>= put target (to / 4) else bytes_from vs 0 count >>= put_bytes target to)
        ≡ (if c then plain_words ws 1 (count / 4) >>= put target (to / 4) else bytes_from ws 4 count >>= put_bytes target to)
    go true = ap (λ a. a >>= put target (to / 4)) (sym (p (count / 4)))
    go false = ap (λ a. a >>= put_bytes target to) (sym (b count))

pub behind_moved : (o : Option Block) (target : List Word) (to count : ℕ) → moved (behind_in o) 0 target to count ≡ moved (block_words o) 4 target to count
behind_moved None target to count = moved_past [] [] target to count (plain_none 1 0) (bytes_none 4 0)
behind_moved (Some b) target to count = go (cells b.content)
  where
    go : (cs : List Cell) → moved (view_cells (behind_first cs)) 0 target to count ≡ moved (view_cells cs) 4 target to count
    go [] = moved_past [] [] target to count (plain_none 1 0) (bytes_none 4 0)
    go (c ∷ cs) = moved_past (view_cells (c ∷ cs)) (view_cells cs) target to count (plain_past _ (view_cells cs) 0) (bytes_past _ (view_cells cs) 0)
