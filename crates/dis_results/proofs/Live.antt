-- References that stand in words name blocks that are there.
use Rattle.std.proofs.Common.{◌≡◌, ℕ, zero, suc, ◌+◌, ◌-◌, ◌≤◌, ℤ, Bool, true, false, List, [], ◌∷◌, ◌++◌, Option, Some, None, refl, sym, ap, ◌∙◌, arith, eq-eqb, if◌then◌else◌}
use Rattle.std.specs.Prelude.{slice_get, nat_eq}
use Rattle.std.specs.Option.{option_map}
use Rattle.dis_isa.specs.declared.inst.Operand.{Operand}
use Rattle.dis_isa.specs.declared.inst.Operand.TheVariants as operand
use Rattle.ref_heap.specs.declared.kind.Kind.{Kind}
use Rattle.ref_heap.specs.declared.kind.Kind.TheVariants as kind
use Rattle.ref_heap.specs.Words.{Content, cells, naming}
use Rattle.ref_heap.specs.Store.{Block, Store, IsHeap, IsLive, AreHeld, at, count, count_in, inside, limit, naming_in}
use Rattle.ref_heap.proofs.Sums.{sum_has}
use Rattle.heap_cuts.specs.Shapes.{shape_of}
use Rattle.dis_meaning.specs.Counts.{refers, in_words, in_frames}
use Rattle.dis_meaning.specs.Words.{InBlock, InFrame, Word, Refer, Access, Found, Wrong, Raises, ◌>>=◌, type_check, dead_address, or_wrong, word_number, word_at}
use Rattle.dis_meaning.specs.Process.{Frame}
use Rattle.dis_meaning.specs.Places.{Spot, Own, Data, Far, place_in, words_in, all_frames}
use Rattle.dis_memory.specs.Blocks.{reached}
use Rattle.dis_memory.specs.Naming.{names}
use Rattle.dis_memory.specs.Places.{data_at, words_at, read, spot, source_word}
use Rattle.dis_places.specs.declared.memory.Memory.{Memory}
use Rattle.dis_places.specs.declared.memory.Tables.{Tables}
use Rattle.dis_places.specs.declared.process.Process.{Process}
use Rattle.dis_places.specs.Blocks.{block_by, view_shape, words_of}
use Rattle.dis_places.specs.View.{view_process, view_world}
use Rattle.dis_places.proofs.Heaps.{at_view}
use Rattle.dis_stores.proofs.Named.{cells_named}

-- ---- words and frames count what they name

pub refers_itself : (n : ℕ) → refers n (Refer (Some n)) ≡ 1
refers_itself n = ap (λ b. if b then 1 else 0) (eq-eqb n n refl)

pub word_counted : (n : ℕ) (ws : List Word) (k : ℕ) → slice_get ws k ≡ Some (Refer (Some n)) → 1 ≤ in_words n ws
word_counted n [] k e = absurd cc
word_counted n (w ∷ ws) zero e = let same : w ≡ Refer (Some n) = cc in let one = ap (refers n) same ∙ refers_itself n in omega (arith, one)
word_counted n (w ∷ ws) (suc k) e = let h = word_counted n ws k e in omega (arith, h)

-- Where a word stands among others.
word_there : (ws : List Word) (at : ℤ) (w : Word) → word_at ws at ≡ Found w → (k : ℕ) × (slice_get ws k ≡ Some w)
word_there ws at w e = go (word_number at) e
  where
    one : (k : ℕ) (o : Option Word) → slice_get ws k ≡ o → or_wrong type_check o ≡ Found w → (k : ℕ) × (slice_get ws k ≡ Some w)
    one k None is e = absurd cc
    one k (Some v) is e = let same : v ≡ w = cc in (k, is ∙ ap Some same)

    go : (a : Access ℕ) → (a >>= λ k. or_wrong type_check (slice_get ws k)) ≡ Found w → (k : ℕ) × (slice_get ws k ≡ Some w)
    go (Found k) e = one k (slice_get ws k) refl e
    go (Wrong m) e = absurd cc
    go (Raises text) e = absurd cc

frame_counted : (n s : ℕ) (fs : List Frame) (ws : List Word) → words_in s fs ≡ Found ws → in_words n ws ≤ in_frames n fs
frame_counted n s [] ws e = absurd cc
frame_counted n s (f ∷ fs) ws e = go (nat_eq f.serial s) e (frame_counted n s fs ws)
  where
    go : (b : Bool) → (if b then Found f.words else words_in s fs) ≡ Found ws → (words_in s fs ≡ Found ws → in_words n ws ≤ in_frames n fs) → in_words n ws ≤ in_frames n (f ∷ fs)
    go true e more = let same : f.words ≡ ws = cc in let h = ap (in_words n) same in omega (arith, h)
    go false e more = let h = more e in omega (arith, h)

frames_both : (n : ℕ) (fs gs : List Frame) → in_frames n (fs ++ gs) ≡ in_frames n fs + in_frames n gs
frames_both n [] gs = omega arith
frames_both n (f ∷ fs) gs = let h = frames_both n fs gs in omega (arith, h)

-- ---- what is counted is there

counted_live : (h : Store) (n : ℕ) → 1 ≤ count (at h) n → IsLive h n
counted_live h n e = go (at h n) refl e
  where
    go : (o : Option Block) → at h n ≡ o → 1 ≤ count_in o → IsLive h n
    go None is e = absurd (omega (arith, e))
    go (Some b) is e = record { block = b; live = is }

held_live : (h : Store) (given : ℕ → ℕ) (n : ℕ) → AreHeld h given → 1 ≤ given n → IsLive h n
held_live h given n held e =
    let a : given n ≤ count (at h) n - inside h n = held n in counted_live h n (omega (arith, a, e))

-- A reference in a block names one that is there.
pub inside_live : (h : Store) (k n : ℕ) (b : Block) → IsHeap h → at h k ≡ Some b → 1 ≤ naming (cells b.content) n → IsLive h n
inside_live h k n b ok there e =
    let a : naming_in (at h k) n ≤ inside h n = sum_has (limit h) (λ s. naming_in (at h s) n) k (ok.bounded k b there) in
    let c : naming_in (at h k) n ≡ naming (cells b.content) n = ap (λ o. naming_in o n) there in
    let d = ok.enough n in
    counted_live h n (omega (arith, a, c, d, e))

reached_words : (t : Tables) (k : Kind) (c : Content) (ws : List Word) → reached (block_by t k c) ≡ Found ws → words_of c ≡ ws
reached_words t kind.Record c ws e = cc
reached_words t (kind.Fd number) c ws e = cc
reached_words t kind.Text c ws e = absurd cc
reached_words t (kind.Array element long) c ws e = cc
reached_words t (kind.Slice from long) c ws e = absurd cc
reached_words t kind.Cell c ws e = absurd cc
reached_words t (kind.Channel element) c ws e = absurd cc
reached_words t (kind.Instance object) c ws e = cc
reached_words t (kind.Sys names) c ws e = absurd cc

module _ (m : Memory) (p : Process) (ok : IsHeap m.heap) (held : AreHeld m.heap (names (view_process p))) where
  data_live : (k n : ℕ) (ws : List Word) → data_at (view_world m) k ≡ Found ws → 1 ≤ in_words n ws → IsLive m.heap n
  data_live k n ws e named = go (at m.heap k) refl (sym (ap (λ o. or_wrong dead_address o >>= reached) (at_view m.tables m.heap k ok)) ∙ e)
    where
      go : (o : Option Block) → at m.heap k ≡ o → (or_wrong dead_address (option_map (λ b. view_shape m.tables (shape_of b)) (at m.heap k)) >>= reached) ≡ Found ws → IsLive m.heap n
      go None is e =
          let a : Wrong dead_address ≡ Found ws = sym (ap (λ o. or_wrong dead_address (option_map (λ b. view_shape m.tables (shape_of b)) o) >>= reached) is) ∙ e in absurd cc
      go (Some b) is e =
          let a : reached (block_by m.tables b.kind b.content) ≡ Found ws =
          sym (ap (λ o. or_wrong dead_address (option_map (λ b. view_shape m.tables (shape_of b)) o) >>= reached) is) ∙ e in
          let same = sym (cells_named (cells b.content) n) ∙ ap (in_words n) (reached_words m.tables b.kind b.content ws a) in
          inside_live m.heap k n b ok is (omega (arith, same, named))

  pub words_live : (s : Spot) (n : ℕ) (ws : List Word) → words_at (view_world m) (view_process p) s ≡ Found ws → 1 ≤ in_words n ws → IsLive m.heap n
  words_live (Own at) n ws e named =
      let same : (view_process p).frame.words ≡ ws = cc in let h = ap (in_words n) same in
      held_live m.heap (names (view_process p)) n held (omega (arith, h, named))
  words_live (Data at) n ws e named = data_live (view_process p).frame.instance n ws e named
  words_live (Far (InFrame s) at) n ws e named =
      let h = frame_counted n s (all_frames (view_process p)) ws e in
      let b = frames_both n (view_process p).below (view_process p).made in
      held_live m.heap (names (view_process p)) n held (omega (arith, h, b, named))
  words_live (Far (InBlock k) at) n ws e named = data_live k n ws e named

  pub read_live : (s : Spot) (n : ℕ) → read (view_world m) (view_process p) s ≡ Found (Refer (Some n)) → IsLive m.heap n
  read_live s n e = go (words_at (view_world m) (view_process p) s) refl e
    where
      go : (a : Access (List Word)) → words_at (view_world m) (view_process p) s ≡ a → (a >>= λ words. word_at words (place_in s)) ≡ Found (Refer (Some n)) → IsLive m.heap n
      go (Found ws) is e = let t = word_there ws (place_in s) (Refer (Some n)) e in words_live s n ws is (word_counted n ws t.0 t.1)
      go (Wrong k) is e = absurd cc
      go (Raises text) is e = absurd cc

  pub source_live : (o : Operand) (n : ℕ) → source_word (view_world m) (view_process p) o ≡ Found (Refer (Some n)) → IsLive m.heap n
  source_live o n e = by_operand o e
    where
      go : (a : Access Spot) → (a >>= read (view_world m) (view_process p)) ≡ Found (Refer (Some n)) → IsLive m.heap n
      go (Found s) e = read_live s n e
      go (Wrong k) e = absurd cc
      go (Raises text) e = absurd cc

      by_operand : (o : Operand) → source_word (view_world m) (view_process p) o ≡ Found (Refer (Some n)) → IsLive m.heap n
      by_operand (operand.Imm k) e = absurd cc
      by_operand operand.None e = go (spot (view_world m) (view_process p) operand.None) e
      by_operand (operand.Fp at) e = go (spot (view_world m) (view_process p) (operand.Fp at)) e
      by_operand (operand.Mp at) e = go (spot (view_world m) (view_process p) (operand.Mp at)) e
      by_operand (operand.IndFp inner outer) e = go (spot (view_world m) (view_process p) (operand.IndFp inner outer)) e
      by_operand (operand.IndMp inner outer) e = go (spot (view_world m) (view_process p) (operand.IndMp inner outer)) e
