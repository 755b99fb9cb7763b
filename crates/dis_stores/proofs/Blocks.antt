-- A word of a block that operands reach takes the place of another: what the definition says of it.
use Rattle.std.proofs.Common.{◌≡◌, ℕ, true, List, map, ℤ, Option, Some, None, ◌⊎◌, refl, sym, ap, ◌∙◌, subst, inl, inr, if◌then◌else◌}
use Rattle.std.specs.Prelude.{slice_get, slice_set, Result, Ok, Err, IfOk, IfErr, OnErr}
use Rattle.std.specs.Option.{option_map}
use Rattle.std.proofs.lemmas.Bool.{cases_eq}
use Rattle.std.proofs.lemmas.List.{map-set}
use Rattle.std.proofs.lemmas.Option.{slice_get-map}
use Rattle.heap_model.specs.Heap as heap_list
use Rattle.ref_heap.specs.declared.kind.Kind.{Kind}
use Rattle.ref_heap.specs.declared.kind.Kind.TheVariants as kind
use Rattle.ref_heap.specs.declared.word.Word as code_word
use Rattle.ref_heap.specs.Words.{Content, cells, cell_of}
use Rattle.ref_heap.specs.Store as store
use Rattle.ref_heap.specs.Store.{Block, Store, IsHeap, IsLive, at}
use Rattle.heap_cuts.specs.Shapes.{shape_of, shapes}
use Rattle.dis_meaning.specs.Words.{Word, Access, Found, Wrong, Raises, ◌>>=◌, type_check, dead_address, or_wrong, fits, replaced, stored, word_at, word_number}
use Rattle.dis_memory.specs.Blocks as blocks
use Rattle.dis_memory.specs.Blocks.{reached, with_words}
use Rattle.dis_meaning.specs.Words.{InBlock}
use Rattle.dis_meaning.specs.Process.{Process}
use Rattle.dis_meaning.specs.Places.{Data, Far}
use Rattle.dis_memory.specs.Places as places
use Rattle.dis_memory.specs.Places.{with_data}
use Rattle.dis_places.specs.declared.fault.Halt.{Halt}
use Rattle.dis_places.specs.declared.fault.Halt.TheVariants as halt
use Rattle.dis_places.specs.declared.memory.Memory.{Memory}
use Rattle.dis_places.specs.declared.memory.Tables.{Tables}
use Rattle.dis_places.specs.Blocks.{block_by, view_shape, view_heap, words_of, is_proper, AreProper}
use Rattle.dis_places.specs.Regions.{block_words}
use Rattle.dis_places.specs.View.{view_world}
use Rattle.dis_places.specs.Words.{view_cell, view_cells, view_word, Halts, Gives}
use Rattle.dis_places.proofs.Heaps.{at_view}
use Rattle.dis_stores.specs.Exchanging.{Exchanged}
use Rattle.dis_stores.specs.Storing.{block_read, block_stored, rested, settled}

-- ---- blocks that operands reach

abbrev IsReached : Tables → Kind → Type 0
IsReached t k = (c : Content) → reached (block_by t k c) ≡ Found (words_of c)

reached_kind : (t : Tables) (k : Kind) (c : Content) (ws : List Word) → reached (block_by t k c) ≡ Found ws →
    ((c' : Content) → with_words (words_of c') (block_by t k c) ≡ block_by t k c') × ((c' : Content) → is_proper k c' ≡ true)
reached_kind t kind.Record c ws e = ((λ c'. refl), (λ c'. refl))
reached_kind t (kind.Fd number) c ws e = ((λ c'. refl), (λ c'. refl))
reached_kind t kind.Text c ws e = absurd cc
reached_kind t (kind.Array element long) c ws e = ((λ c'. refl), (λ c'. refl))
reached_kind t (kind.Slice from long) c ws e = absurd cc
reached_kind t kind.Cell c ws e = absurd cc
reached_kind t (kind.Channel element) c ws e = absurd cc
reached_kind t (kind.Instance object) c ws e = ((λ c'. refl), (λ c'. refl))
reached_kind t (kind.Sys names) c ws e = absurd cc

-- Operands reach a block of the heap.
pub record Reaches (t : Tables) (h : Store) (s : ℕ) : Type 0 where
  pub block : Block
  pub live : at h s ≡ Some block
  pub there : heap_list.at (view_heap t h) s ≡ Some (view_shape t (shape_of block))
  pub words : (or_wrong dead_address (heap_list.at (view_heap t h) s) >>= reached) ≡ Found (words_of block.content)
  pub with_words : (c : Content) → with_words (words_of c) (view_shape t (shape_of block)) ≡ block_by t block.kind c
  pub proper : (c : Content) → is_proper block.kind c ≡ true

pub reaches : (t : Tables) (h : Store) (s : ℕ) → IsHeap h → (or_wrong dead_address (heap_list.at (view_heap t h) s) >>= reached) ≡ Found (block_words (at h s)) →
    Reaches t h s
reaches t h s ok e = go (at h s) refl
  where
    go : (o : Option Block) → at h s ≡ o → Reaches t h s
    go None n =
        let a : (or_wrong dead_address (heap_list.at (view_heap t h) s) >>= reached) ≡ Wrong dead_address =
        ap (λ o. or_wrong dead_address o >>= reached) (at_view t h s ok ∙ ap (option_map (λ b. view_shape t (shape_of b))) n) in
        let b : Found (block_words (at h s)) ≡ Wrong dead_address = sym e ∙ a in absurd cc
    go (Some b) n =
        let there = at_view t h s ok ∙ ap (option_map (λ b. view_shape t (shape_of b))) n in
        let is = e ∙ ap (λ o. Found (block_words o)) n in
        let r = reached_kind t b.kind b.content (words_of b.content) (sym (ap (λ o. or_wrong dead_address o >>= reached) there) ∙ is) in
        record { block = b; live = n; there = there; words = is; with_words = r.0; proper = r.1 }

pub live : (t : Tables) (h : Store) (s : ℕ) → IsHeap h → (or_wrong dead_address (heap_list.at (view_heap t h) s) >>= reached) ≡ Found (block_words (at h s)) → IsLive h s
live t h s ok e = let r = reaches t h s ok e in record { block = r.block; live = r.live }

-- ---- a word takes the place of another

word_there : (c : Content) (k : ℕ) (was : code_word.Word) → slice_get (cells c) k ≡ Some (cell_of was) → slice_get (words_of c) k ≡ Some (view_word was)
word_there c k was e = slice_get-map view_cell (cells c) k ∙ ap (option_map view_cell) e

replaced_is : (ws : List Word) (k : ℕ) (old new : Word) → slice_get ws k ≡ Some old → fits old new ≡ true → replaced ws k new ≡ Found (slice_set ws k new)
replaced_is ws k old new h f =
    ap (λ o. or_wrong type_check o >>= λ old. if fits old new then Found (slice_set ws k new) else Wrong type_check) h
    ∙ ap (λ b. if b then Found (slice_set ws k new) else Wrong type_check) f

module _ (t : Tables) (h h' : Store) (s k : ℕ) (word was : code_word.Word) (ok : IsHeap h) (r : Reaches t h s) (x : Exchanged h h' s k word was) where
  same_block : x.block ≡ r.block
  same_block = let e : Some x.block ≡ Some r.block = sym x.there ∙ r.live in cc

  stands : slice_get (words_of r.block.content) k ≡ Some (view_word was)
  stands = word_there r.block.content k was (ap (λ (b : Block). slice_get (cells b.content) k) (sym same_block) ∙ x.stood)

  pub replaces : replaced (words_of r.block.content) k (view_word word) ≡ Found (slice_set (words_of r.block.content) k (view_word word))
  replaces = replaced_is (words_of r.block.content) k (view_word was) (view_word word) stands x.fits

  words_now : words_of x.now.content ≡ slice_set (words_of r.block.content) k (view_word word)
  words_now =
      ap view_cells (x.cells ∙ ap (λ (b : Block). slice_set (cells b.content) k (cell_of word)) same_block)
      ∙ map-set view_cell (cells r.block.content) k (cell_of word)

  -- The blocks are those of the definition.
  pub blocks_now : slice_set (view_heap t h) s (Some (with_words (slice_set (words_of r.block.content) k (view_word word)) (view_shape t (shape_of r.block)))) ≡ view_heap t h'
  blocks_now =
      let kinds : x.now.kind ≡ r.block.kind = x.kind ∙ ap (λ (b : Block). b.kind) same_block in
      let one : with_words (slice_set (words_of r.block.content) k (view_word word)) (view_shape t (shape_of r.block)) ≡ view_shape t (shape_of x.now) =
      ap (λ ws. with_words ws (view_shape t (shape_of r.block))) (sym words_now) ∙ r.with_words x.now.content
      ∙ ap (λ k. block_by t k x.now.content) (sym kinds) in
      ap (λ b. slice_set (view_heap t h) s (Some b)) one
      ∙ sym (map-set (option_map (view_shape t)) (shapes h) s (Some (shape_of x.now)))
      ∙ ap (map (option_map (view_shape t))) (sym x.shapes)

  pub proper_now : AreProper h → AreProper h'
  proper_now p n b e = go (cases_eq n s)
    where
      go : (n ≡ s) ⊎ (n ≡ s → ⊥) → is_proper b.kind b.content ≡ true
      go (inl same) =
          let a : Some b ≡ Some x.now = sym e ∙ ap (at h') same ∙ x.is in let is : b ≡ x.now = cc in
          let kinds : b.kind ≡ r.block.kind = ap (λ (b : Block). b.kind) (is ∙ refl) ∙ x.kind ∙ ap (λ (b : Block). b.kind) same_block in
          ap (λ k. is_proper k b.content) kinds ∙ r.proper b.content
      go (inr ne) = p n b (sym (x.apart n ne) ∙ e)

-- ---- what the definition says

pub halts_on : {S T : Type 0} (e : Halt) (a : Access S) (f : S → Access T) → Halts e a → Halts e (a >>= f)
halts_on halt.NoMemory a f h = tt
halts_on (halt.Fault n) a f h = ap (λ a. a >>= f) h
halts_on (halt.Raises r) a f h = ap (λ a. a >>= f) h

pub halts_same : {T : Type 0} (e : Halt) (a b : Access T) → b ≡ a → Halts e a → Halts e b
halts_same e a b same h = subst (λ a. Halts e a) (sym same) h

module _ (m : Memory) (h' : Store) (s k : ℕ) (at : ℤ) (word : code_word.Word) (ok : IsHeap m.heap) (r : Reaches m.tables m.heap s) (number : word_number at ≡ Found k) where
  as_stored : block_stored (view_world m) s at (view_word word) ≡ (replaced (words_of r.block.content) k (view_word word) >>= with_data (view_world m) s)
  as_stored =
      ap (λ a. a >>= (λ ws. stored ws at (view_word word)) >>= with_data (view_world m) s) r.words
      ∙ ap (λ a. a >>= (λ k. replaced (words_of r.block.content) k (view_word word)) >>= with_data (view_world m) s) number

  pub put_gives : (a : Result code_word.Word Halt) → IfOk a (λ was. Exchanged m.heap h' s k word was) →
      ((b : Block) → store.at m.heap s ≡ Some b → IfErr a (λ e. Halts e (replaced (words_of b.content) k (view_word word)))) →
      Gives (λ _. blocks.with_heap (view_world m) (view_heap m.tables h')) a (block_stored (view_world m) s at (view_word word))
  put_gives (Ok was) x e =
      let ws = slice_set (words_of r.block.content) k (view_word word) in
      as_stored
      ∙ ap (λ a. a >>= with_data (view_world m) s) (replaces m.tables m.heap h' s k word was ok r x)
      ∙ ap (λ o. or_wrong dead_address o >>= λ b. Found (blocks.with_changed (view_world m) s (with_words ws b))) r.there
      ∙ ap (λ hs. Found (blocks.with_heap (view_world m) hs)) (blocks_now m.tables m.heap h' s k word was ok r x)
  put_gives (Err e) x f =
      halts_same e (replaced (words_of r.block.content) k (view_word word) >>= with_data (view_world m) s) _ as_stored
      (halts_on e (replaced (words_of r.block.content) k (view_word word)) (with_data (view_world m) s) (f r.block r.live))

  pub put_stood : (a : Result code_word.Word Halt) → IfOk a (λ was. Exchanged m.heap h' s k word was) →
      IfOk a (λ was. block_read (view_world m) s at ≡ Found (view_word was))
  put_stood (Ok was) x =
      ap (λ a. a >>= λ ws. word_at ws at) r.words
      ∙ ap (λ a. a >>= λ k. or_wrong type_check (slice_get (words_of r.block.content) k)) number
      ∙ ap (or_wrong type_check) (stands m.tables m.heap h' s k word was ok r x)
  put_stood (Err e) x = tt

  pub put_proper : (a : Result code_word.Word Halt) → IfOk a (λ was. Exchanged m.heap h' s k word was) → OnErr a (h' ≡ m.heap) → AreProper m.heap → AreProper h'
  put_proper (Ok was) x e p = proper_now m.tables m.heap h' s k word was ok r x p
  put_proper (Err f) x e p = subst AreProper (sym e) p

-- ---- a store in a block, as one by an address or in the module's data

module _ (x : blocks.World) (p : Process) (n : ℕ) (at : ℤ) (w : Word) where
  as_store : (a : Access (List Word)) →
      rested (a >>= λ words. stored words at w >>= λ ws. with_data x n ws >>= λ y. Found (places.memory y p)) ≡
      (a >>= (λ words. stored words at w) >>= with_data x n >>= λ y. Found (places.memory y (settled p)))
  as_store (Found words) = after (stored words at w)
    where
      put_back : (a : Access blocks.World) → rested (a >>= λ y. Found (places.memory y p)) ≡ (a >>= λ y. Found (places.memory y (settled p)))
      put_back (Found y) = refl
      put_back (Wrong m) = refl
      put_back (Raises text) = refl

      after : (a : Access (List Word)) → rested (a >>= λ ws. with_data x n ws >>= λ y. Found (places.memory y p)) ≡
          (a >>= with_data x n >>= λ y. Found (places.memory y (settled p)))
      after (Found ws) = put_back (with_data x n ws)
      after (Wrong m) = refl
      after (Raises text) = refl
  as_store (Wrong m) = refl
  as_store (Raises text) = refl

  pub far_store : rested (places.store x p (Far (InBlock n) at) w) ≡ (block_stored x n at w >>= λ y. Found (places.memory y (settled p)))
  far_store = as_store (places.data_at x n)

pub data_store : (x : blocks.World) (p : Process) (at : ℤ) (w : Word) →
    rested (places.store x p (Data at) w) ≡ (block_stored x p.frame.instance at w >>= λ y. Found (places.memory y (settled p)))
data_store x p at w = as_store x p p.frame.instance at w (places.data_at x p.frame.instance)

-- What a call gives, as more is made of it.
pub gives_on : {R S T : Type 0} (a : Result R Halt) (b : Access S) (see : R → S) (g : S → T) → Gives see a b → Gives (λ r. g (see r)) a (b >>= λ s. Found (g s))
gives_on (Ok r) b see g h = ap (λ a. a >>= λ s. Found (g s)) h
gives_on (Err e) b see g h = halts_on e b (λ s. Found (g s)) h

pub gives_same : {R S : Type 0} (a : Result R Halt) (b c : Access S) (see : R → S) → c ≡ b → Gives see a b → Gives see a c
gives_same a b c see e h = subst (λ b. Gives see a b) (sym e) h
