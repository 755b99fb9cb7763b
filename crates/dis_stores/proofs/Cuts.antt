-- Blocks that are cut, as the definition has them.
use Rattle.std.proofs.Common.{◌≡◌, ℕ, ℤ, Bool, true, false, List, [], ◌∷◌, map, Option, Some, None, refl, sym, ap, ◌∙◌, if◌then◌else◌}
use Rattle.std.specs.Prelude.{slice_get, slice_set, unwrap_or}
use Rattle.std.specs.Option.{option_map}
use Rattle.heap_model.specs.Heap.{stays}
use Rattle.ref_heap.specs.declared.kind.Kind.{Kind}
use Rattle.ref_heap.specs.declared.kind.Kind.TheVariants as kind
use Rattle.ref_heap.specs.declared.word.Word as code_word
use Rattle.ref_heap.specs.Words.{Cell, Content, wide, compact, cells, plain, refer, in_block, in_frame, cell_of, is_reference, naming}
use Rattle.ref_heap.specs.Store.{Block, Store, IsHeap, at, outside}
use Rattle.ref_heap.proofs.Naming.{plain_names}
use Rattle.heap_cuts.specs.Shapes.{Shape, shape_of, shapes, naming_of}
use Rattle.heap_cuts.specs.Laws.{GivesAway, NamesAlike}
use Rattle.heap_cuts.proofs.Listed.{at_shapes}
use Rattle.heap_cuts.proofs.Cuts.{uncut_stays, cut_stays}
use Rattle.heap_cuts.proofs.Told.{stays_told}
use Rattle.dis_meaning.specs.Counts.{in_words}
use Rattle.dis_meaning.specs.Process.{Process}
use Rattle.dis_meaning.specs.Words.{InBlock, InFrame}
use Rattle.dis_meaning.specs.Places.{Spot, Own, Data, Far, place_in, all_frames, words_in as words_in_frames}
use Rattle.dis_meaning.specs.Words.{Word, Access, Found, Wrong, Raises, ◌>>=◌, type_check, or_wrong, fits, word_number, word_at, stored, replaced}
use Rattle.dis_memory.specs.Blocks as blocks
use Rattle.dis_memory.specs.Blocks.{words_in}
use Rattle.dis_memory.specs.Naming.{inside}
use Rattle.dis_memory.specs.Places as places
use Rattle.dis_places.specs.declared.memory.Tables.{Tables}
use Rattle.dis_places.specs.Blocks.{block_by, view_shape, view_heap, is_proper, AreProper, first_name, behind_first, refers_on, begins_with_reference, is_empty}
use Rattle.dis_places.specs.Words.{view_cells, view_word}
use Rattle.dis_stores.specs.Storing.{named, rested, settled}
use Rattle.dis_stores.proofs.Named.{cells_named}
use Rattle.dis_stores.proofs.Takes.{alike}

-- ---- what a block names

names_by : (t : Tables) (k : Kind) (c : Content) → is_proper k c ≡ true → (n : ℕ) → in_words n (words_in (block_by t k c)) ≡ naming (cells c) n
names_by t kind.Record c p n = cells_named (cells c) n
names_by t (kind.Fd number) c p n = cells_named (cells c) n
names_by t kind.Text (wide ws) p n = absurd cc
names_by t kind.Text (compact ns) p n = sym (plain_names ns n)
names_by t (kind.Array element long) c p n = cells_named (cells c) n
names_by t (kind.Slice from long) c p n = go (cells c) p
  where
    go : (cs : List Cell) → refers_on cs ≡ true → in_words n (words_in (blocks.Part (unwrap_or (first_name cs) 0) from long)) ≡ naming cs n
    go [] p = absurd cc
    go (plain v ∷ cs) p = absurd cc
    go (refer None ∷ []) p = absurd cc
    go (refer None ∷ c ∷ cs) p = absurd cc
    go (refer (Some a) ∷ []) p = cells_named (refer (Some a) ∷ []) n
    go (refer (Some a) ∷ c ∷ cs) p = absurd cc
    go (in_block s v ∷ cs) p = absurd cc
    go (in_frame s v ∷ cs) p = absurd cc
names_by t kind.Cell c p n = go (cells c) p
  where
    go : (cs : List Cell) → begins_with_reference cs ≡ true → in_words n (words_in (blocks.Cell (view_cells (behind_first cs)) (first_name cs))) ≡ naming cs n
    go [] p = absurd cc
    go (plain v ∷ cs) p = absurd cc
    go (refer r ∷ cs) p = cells_named (refer r ∷ cs) n
    go (in_block s v ∷ cs) p = absurd cc
    go (in_frame s v ∷ cs) p = absurd cc
names_by t (kind.Channel element) c p n = go (cells c) p
  where
    go : (cs : List Cell) → is_empty cs ≡ true → 0 ≡ naming cs n
    go [] p = refl
    go (c ∷ cs) p = absurd cc
names_by t (kind.Instance object) c p n = cells_named (cells c) n
names_by t (kind.Sys names) c p n = go (cells c) p
  where
    go : (cs : List Cell) → is_empty cs ≡ true → 0 ≡ naming cs n
    go [] p = refl
    go (c ∷ cs) p = absurd cc

names_alike : (t : Tables) (h : Store) → IsHeap h → AreProper h → NamesAlike (view_shape t) naming_of inside (shapes h)
names_alike t h ok p k s e n = go (at h k) refl
  where
    go : (o : Option Block) → at h k ≡ o → inside (view_shape t s) n ≡ naming_of s n
    go None there = let a : Some s ≡ None = sym e ∙ at_shapes h ok k ∙ ap (option_map shape_of) there in absurd cc
    go (Some b) there =
        let a : Some s ≡ Some (shape_of b) = sym e ∙ at_shapes h ok k ∙ ap (option_map shape_of) there in
        let same : s ≡ shape_of b = cc in
        names_by t s.0 s.1 (ap (λ (s : Shape). is_proper s.0 s.1) same ∙ p k b there) n

-- ---- cuts

-- A heap of which nothing was given away is its own cut.
pub view_uncut : (t : Tables) (h : Store) → IsHeap h → AreProper h → view_heap t h ≡ stays inside (outside h) (view_heap t h)
view_uncut t h ok p =
    ap (map (option_map (view_shape t))) (uncut_stays h ok)
    ∙ sym (stays_told (view_shape t) naming_of inside (outside h) (shapes h) (names_alike t h ok p))

-- What a drop leaves is what stays.
pub view_cut : (t : Tables) (before after : Store) (given : ℕ → ℕ) → GivesAway before after given → AreProper before →
    view_heap t after ≡ stays inside (outside after) (view_heap t before)
view_cut t before after given g p =
    ap (map (option_map (view_shape t))) (cut_stays before after given g)
    ∙ sym (stays_told (view_shape t) naming_of inside (outside after) (shapes before) (names_alike t before g.heap p))

-- ---- what stood where a word was stored

pub store_fits : (x : blocks.World) (p : Process) (s : Spot) (w o : Word) (m : places.Memory) → rested (places.store x p s w) ≡ Found m → places.read x p s ≡ Found o →
    fits o w ≡ true
store_fits x p s w o m e r = in_words_there (places.words_at x p s) e r
  where
    kind_is : (ws : List Word) (k : ℕ) (old : Word) (b : Bool) → fits old w ≡ b → Found old ≡ Found o →
        rested ((if b then Found (slice_set ws k w) else Wrong type_check) >>= places.with_words_at x p s) ≡ Found m → fits o w ≡ true
    kind_is ws k old true f r e = let same : old ≡ o = cc in ap (λ o. fits o w) (sym same) ∙ f
    kind_is ws k old false f r e = absurd cc

    word_is : (ws : List Word) (k : ℕ) (a : Option Word) →
        rested (or_wrong type_check a >>= (λ old. if fits old w then Found (slice_set ws k w) else Wrong type_check) >>= places.with_words_at x p s) ≡ Found m →
        or_wrong type_check a ≡ Found o → fits o w ≡ true
    word_is ws k None e r = absurd cc
    word_is ws k (Some old) e r = kind_is ws k old (fits old w) refl r e

    number_is : (ws : List Word) (a : Access ℕ) → rested (a >>= (λ k. replaced ws k w) >>= places.with_words_at x p s) ≡ Found m →
        (a >>= λ k. or_wrong type_check (slice_get ws k)) ≡ Found o → fits o w ≡ true
    number_is ws (Found k) e r = word_is ws k (slice_get ws k) e r
    number_is ws (Wrong n) e r = absurd cc
    number_is ws (Raises text) e r = absurd cc

    in_words_there : (a : Access (List Word)) → rested (a >>= λ words. stored words (place_in s) w >>= places.with_words_at x p s) ≡ Found m →
        (a >>= λ words. word_at words (place_in s)) ≡ Found o → fits o w ≡ true
    in_words_there (Found ws) e r = number_is ws (word_number (place_in s)) e r
    in_words_there (Wrong n) e r = absurd cc
    in_words_there (Raises text) e r = absurd cc

none_named : (c : Cell) (n : ℕ) → is_reference c ≡ false → naming (c ∷ []) n ≡ 0
none_named (plain v) n e = refl
none_named (refer r) n e = absurd cc
none_named (in_block s v) n e = refl
none_named (in_frame s v) n e = refl

-- A word that is no reference names nothing.
pub plain_named : (w : code_word.Word) (n : ℕ) → is_reference (cell_of w) ≡ false → named w n ≡ 0
plain_named w n e = none_named (cell_of w) n e

pub stood_alike : (new old : code_word.Word) → fits (view_word old) (view_word new) ≡ true → is_reference (cell_of old) ≡ is_reference (cell_of new)
stood_alike new old e = alike (cell_of old) (cell_of new) e

-- ---- where a word stands, one of its kind can be stored; where none stands, there is the same fault

pub store_found : (x : blocks.World) (p : Process) (s : Spot) (w o : Word) → places.read x p s ≡ Found o → fits o w ≡ true →
    (m : places.Memory) × (rested (places.store x p s w) ≡ Found m)
store_found x p s w o r f = in_place s r
  where
    Stored : Access places.Memory → Type 0
    Stored a = (m : places.Memory) × (rested a ≡ Found m)

    replaced_there : (ws : List Word) (at : ℤ) → (word_at ws at) ≡ Found o → (vs : List Word) × (stored ws at w ≡ Found vs)
    replaced_there ws at r = numbered (word_number at) refl r
      where
        word_is : (k : ℕ) (a : Option Word) → slice_get ws k ≡ a → or_wrong type_check a ≡ Found o → (vs : List Word) × (replaced ws k w ≡ Found vs)
        word_is k None e r = absurd cc
        word_is k (Some old) e r =
            let same : old ≡ o = cc in (
              slice_set ws k w,
              ap (λ a. or_wrong type_check a >>= λ old. if fits old w then Found (slice_set ws k w) else Wrong type_check) e
                  ∙ ap (λ b. if b then Found (slice_set ws k w) else Wrong type_check) (ap (λ o. fits o w) same ∙ f),
            )

        numbered : (a : Access ℕ) → word_number at ≡ a → (a >>= λ k. or_wrong type_check (slice_get ws k)) ≡ Found o → (vs : List Word) × (stored ws at w ≡ Found vs)
        numbered (Found k) e r = let h = word_is k (slice_get ws k) refl r in (h.0, ap (λ a. a >>= λ k. replaced ws k w) e ∙ h.1)
        numbered (Wrong n) e r = absurd cc
        numbered (Raises text) e r = absurd cc

    in_frame_there : (s : Spot) (a : Access (List Word)) → ((ws : List Word) → (m : places.Memory) × (rested (places.with_words_at x p s ws) ≡ Found m)) →
        (a >>= λ ws. word_at ws (place_in s)) ≡ Found o → Stored (a >>= λ ws. stored ws (place_in s) w >>= places.with_words_at x p s)
    in_frame_there s (Found ws) back r =
        let h = replaced_there ws (place_in s) r in let b = back h.0 in (b.0, ap (λ a. rested (a >>= places.with_words_at x p s)) h.1 ∙ b.1)
    in_frame_there s (Wrong n) back r = absurd cc
    in_frame_there s (Raises text) back r = absurd cc

    in_block_there : (s : Spot) (n : ℕ) → ((ws : List Word) → places.with_words_at x p s ws ≡ (places.with_data x n ws >>= λ y. Found (places.memory y p))) →
        (a : Access blocks.Block) → blocks.block x n ≡ a → (a >>= blocks.reached >>= λ ws. word_at ws (place_in s)) ≡ Found o →
        Stored (a >>= blocks.reached >>= λ ws. stored ws (place_in s) w >>= places.with_words_at x p s)
    in_block_there s n back (Found b) e r =
        in_frame_there s (blocks.reached b)
        (λ ws. (
          places.memory (blocks.with_changed x n (blocks.with_words ws b)) (settled p),
          ap rested (back ws) ∙ ap (λ a. rested (a >>= (λ b. Found (blocks.with_changed x n (blocks.with_words ws b))) >>= λ y. Found (places.memory y p))) e,
        )) r
    in_block_there s n back (Wrong m) e r = absurd cc
    in_block_there s n back (Raises text) e r = absurd cc

    in_place : (s : Spot) → places.read x p s ≡ Found o → Stored (places.store x p s w)
    in_place (Own at) r = in_frame_there (Own at) (Found p.frame.words) (λ ws. (_, refl)) r
    in_place (Data at) r = in_block_there (Data at) p.frame.instance (λ ws. refl) (blocks.block x p.frame.instance) refl r
    in_place (Far (InFrame n) at) r = in_frame_there (Far (InFrame n) at) (words_in_frames n (all_frames p)) (λ ws. (_, refl)) r
    in_place (Far (InBlock n) at) r = in_block_there (Far (InBlock n) at) n (λ ws. refl) (blocks.block x n) refl r

pub store_wrong : (x : blocks.World) (p : Process) (s : Spot) (w : Word) (n : ℕ) → places.read x p s ≡ Wrong n → rested (places.store x p s w) ≡ Wrong n
store_wrong x p s w n r = there (places.words_at x p s) r
  where
    word_is : (ws : List Word) (k : ℕ) (a : Option Word) → or_wrong type_check a ≡ Wrong n →
        rested (or_wrong type_check a >>= (λ old. if fits old w then Found (slice_set ws k w) else Wrong type_check) >>= places.with_words_at x p s) ≡ Wrong n
    word_is ws k None e = ap (λ a. rested (a >>= (λ (old : Word). if fits old w then Found (slice_set ws k w) else Wrong type_check) >>= places.with_words_at x p s)) e
    word_is ws k (Some old) e = absurd cc

    number_is : (ws : List Word) (a : Access ℕ) → (a >>= λ k. or_wrong type_check (slice_get ws k)) ≡ Wrong n →
        rested (a >>= (λ k. replaced ws k w) >>= places.with_words_at x p s) ≡ Wrong n
    number_is ws (Found k) e = word_is ws k (slice_get ws k) e
    number_is ws (Wrong m) e = let same : m ≡ n = cc in ap Wrong same
    number_is ws (Raises text) e = absurd cc

    there : (a : Access (List Word)) → (a >>= λ words. word_at words (place_in s)) ≡ Wrong n →
        rested (a >>= λ words. stored words (place_in s) w >>= places.with_words_at x p s) ≡ Wrong n
    there (Found ws) e = number_is ws (word_number (place_in s)) e
    there (Wrong m) e = let same : m ≡ n = cc in ap Wrong same
    there (Raises text) e = absurd cc

pub store_unfit : (x : blocks.World) (p : Process) (s : Spot) (w o : Word) → places.read x p s ≡ Found o → fits o w ≡ false → rested (places.store x p s w) ≡ Wrong type_check
store_unfit x p s w o r f = there (places.words_at x p s) r
  where
    word_is : (ws : List Word) (k : ℕ) (a : Option Word) → or_wrong type_check a ≡ Found o →
        rested (or_wrong type_check a >>= (λ old. if fits old w then Found (slice_set ws k w) else Wrong type_check) >>= places.with_words_at x p s) ≡ Wrong type_check
    word_is ws k None e = absurd cc
    word_is ws k (Some old) e =
        let same : old ≡ o = cc in
        ap (λ b. rested ((if b then Found (slice_set ws k w) else Wrong type_check) >>= places.with_words_at x p s)) (ap (λ o. fits o w) same ∙ f)

    number_is : (ws : List Word) (a : Access ℕ) → (a >>= λ k. or_wrong type_check (slice_get ws k)) ≡ Found o →
        rested (a >>= (λ k. replaced ws k w) >>= places.with_words_at x p s) ≡ Wrong type_check
    number_is ws (Found k) e = word_is ws k (slice_get ws k) e
    number_is ws (Wrong m) e = absurd cc
    number_is ws (Raises text) e = absurd cc

    there : (a : Access (List Word)) → (a >>= λ words. word_at words (place_in s)) ≡ Found o →
        rested (a >>= λ words. stored words (place_in s) w >>= places.with_words_at x p s) ≡ Wrong type_check
    there (Found ws) e = number_is ws (word_number (place_in s)) e
    there (Wrong m) e = absurd cc
    there (Raises text) e = absurd cc
