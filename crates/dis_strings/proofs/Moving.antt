-- A string that a word of a block alone refers to: that word is nil while the string becomes the next block.
use Rattle.std.proofs.Common.{◌≡◌, ℕ, ◌+◌, ◌-◌, ◌<◌, List, [], ◌∷◌, ◌++◌, map, length, Option, Some, None, Ok, refl, sym, ap, ◌∙◌, arith}
use Rattle.std.specs.Prelude.{slice_set}
use Rattle.std.specs.Option.{option_map}
use Rattle.std.proofs.lemmas.List.{length-set, map-append, map-set}
use Rattle.heap_model.specs.Heap as heap_list
use Rattle.heap_model.specs.Heap.{Heap, in_all, stays}
use Rattle.ref_heap.specs.declared.kind.Kind.TheVariants as kind
use Rattle.ref_heap.specs.declared.word.Ref.{Ref}
use Rattle.ref_heap.specs.declared.word.Word as code_word
use Rattle.ref_heap.specs.declared.word.Word.TheVariants as word
use Rattle.ref_heap.specs.Words.{compact}
use Rattle.ref_heap.specs.Store as store_of
use Rattle.ref_heap.specs.Store.{Block, Store, IsHeap, IsSole, at, count, count_in, one, outside, with_new, without_block}
use Rattle.heap_cuts.specs.Shapes.{shape_of, shapes}
use Rattle.heap_cuts.proofs.Listed.{new_shapes, put_shapes, set_apart, set_here, taken_shapes}
use Rattle.heap_cuts.proofs.Sooner.{early, unnamed_early}
use Rattle.dis_meaning.specs.Counts.{refers}
use Rattle.dis_meaning.specs.Places.{Spot}
use Rattle.dis_meaning.specs.Process as view
use Rattle.dis_meaning.specs.Words.{Found, Wrong, Refer, ◌>>=◌, dead_address, or_wrong, reference, type_check}
use Rattle.dis_memory.specs.Blocks as blocks
use Rattle.dis_memory.specs.Blocks.{Text, reached, with_block, with_changed, with_heap, with_words, next_serial}
use Rattle.dis_memory.specs.Naming.{inside, names}
use Rattle.dis_memory.specs.Kinds.{text_in}
use Rattle.dis_memory.specs.Places as places
use Rattle.dis_memory.specs.Places.{memory, read, store}
use Rattle.dis_places.specs.declared.memory.Memory.{Memory}
use Rattle.dis_places.specs.declared.process.Process.{Process}
use Rattle.dis_places.specs.Blocks.{block_by, view_shape, view_heap}
use Rattle.dis_places.specs.View.{view_process, view_world}
use Rattle.dis_places.specs.Words.{view_word}
use Rattle.dis_places.proofs.Heaps.{at_view}
use Rattle.dis_stores.specs.Storing.{named, rested, settled, Stores}
use Rattle.dis_stores.proofs.Cuts.{view_uncut}
use Rattle.dis_stores.proofs.Named.{word_named}
use Rattle.dis_stores.proofs.Takes.{set_again}
use Rattle.dis_blocks.specs.Making.{made}
use Rattle.dis_blocks.proofs.Made.{refer_named, view_length}
use Rattle.dis_results.proofs.Live.{refers_itself}
use Rattle.dis_strings.specs.Renewing.{HasText, IsEdited, MayRenew}
use Rattle.dis_strings.proofs.Changing.{has_text}
use Rattle.dis_strings.proofs.Edits.{now}
use Rattle.dis_strings.proofs.InBlocks as within
use Rattle.dis_strings.proofs.InBlocks.{LiesIn, Stands, put_twice, reached_named, reached_put, read_settled, stands, store_settled}
use Rattle.dis_strings.proofs.Sets.{in_all_set, in_words_set, none_live, place_front, place_within, set_front, set_got, set_twice}
use Rattle.dis_strings.proofs.Viewed.{view_named}

-- ---- the string is edited

module _ (m : Memory) (h1 : Store) (q : view.Process) (d : Spot) (n k : ℕ) (s u : List ℕ) (ok : IsHeap m.heap) (l : LiesIn q d n) (e : IsEdited m.heap h1 k s u)
    (there : read (view_world m) q d ≡ Found (Refer (Some k))) where
  abbrev pub before : Heap blocks.Block
  before = view_heap m.tables m.heap

  abbrev pub x1 : blocks.World
  x1 = with_heap (view_world m) (view_heap m.tables h1)

  pub text_here : heap_list.at before k ≡ Some (Text s)
  text_here =
      at_view m.tables m.heap k ok ∙ ap (option_map (λ b. view_shape m.tables (shape_of b))) e.before.live
      ∙ ap (λ kd. Some (block_by m.tables kd e.before.block.content)) e.before.kind ∙ ap (λ ct. Some (block_by m.tables kind.Text ct)) e.before.content

  pub edited_view : view_heap m.tables h1 ≡ slice_set before k (Some (Text u))
  edited_view =
      ap (view_heap m.tables) e.is
      ∙ ap (map (option_map (view_shape m.tables))) (put_shapes m.heap k (now m.heap h1 k s u e))
      ∙ map-set (option_map (view_shape m.tables)) (shapes m.heap) k (Some (shape_of (now m.heap h1 k s u e)))
      ∙ ap (λ kd. slice_set before k (Some (block_by m.tables kd (compact u)))) e.before.kind

  abbrev pub st : Stands (view_world m) n d (Refer (Some k))
  st = stands (view_world m) q d n (Refer (Some k)) l there

  pub apart : n ≡ k → ⊥
  apart same =
      let a : Some st.block ≡ Some (Text s) = sym st.there ∙ ap (heap_list.at before) same ∙ text_here in
      let is : st.block ≡ Text s = cc in
      let b : Found st.words ≡ Wrong type_check = sym st.reached ∙ ap reached is in
      absurd cc

  pub here1 : heap_list.at x1.heap n ≡ Some st.block
  here1 = ap (λ hs. heap_list.at hs n) edited_view ∙ set_apart before k (Some (Text u)) n apart ∙ st.there

  abbrev pub st1 : Stands x1 n d (Refer (Some k))
  st1 = record { block = st.block; there = here1; words = st.words; reached = st.reached; number = st.number; placed = st.placed; word = st.word }

  -- The block whose word is nil, and the world with it.
  abbrev pub emptied : blocks.Block
  emptied = with_words (slice_set st.words st.number (Refer None)) st.block

  abbrev pub x2 : blocks.World
  x2 = with_changed x1 n emptied

  pub first_store : rested (store x1 q d (Refer None)) ≡ Found (memory x2 (settled q))
  first_store = ap rested (within.store_is x1 n d (Refer (Some k)) st1 q (Refer None) l refl)

  pub first_read : read x1 q d ≡ Found (Refer (Some k))
  first_read = within.read_is x1 n d (Refer (Some k)) st1 q l

  pub text2 : heap_list.at x2.heap k ≡ Some (Text u)
  text2 =
      set_apart x1.heap n (Some emptied) k (λ e. apart (sym e)) ∙ ap (λ hs. heap_list.at hs k) edited_view
      ∙ set_here before k (Some (Text u)) (place_within before k (Text s) text_here)

  pub here2 : heap_list.at x2.heap n ≡ Some emptied
  here2 = set_here x1.heap n (Some emptied) (place_within x1.heap n st.block here1)

  pub length2 : length x2.heap ≡ m.heap.made
  length2 =
      length-set x1.heap n (Some emptied) ∙ ap length edited_view ∙ length-set before k (Some (Text u)) ∙ view_length m.tables m.heap

  -- One word fewer refers to the string.
  pub once_less : in_all inside x2.heap k + 1 ≡ store_of.inside m.heap k
  once_less =
      let a = in_all_set inside x1.heap n st.block (Some emptied) k here1 in
      let b = in_all_set inside before k (Text s) (Some (Text u)) k text_here in
      let c = ap (λ hs. in_all inside hs k) edited_view in
      let f = reached_named st.block st.words k st.reached in
      let g = reached_named emptied (slice_set st.words st.number (Refer None)) k (reached_put st.block st.words (slice_set st.words st.number (Refer None)) st.reached) in
      let w = in_words_set st.words st.number (Refer (Some k)) (Refer None) k st.word in
      let o = refers_itself k in
      let v = view_named m.tables m.heap k ok m.proper in
      omega (arith, a, b, c, f, g, w, o, v)

  -- ---- the word is nil

  module _ (m2 : Memory) (q2 : view.Process) (was : code_word.Word) (ok2 : IsHeap m2.heap) (may : MayRenew m.heap k)
      (gives : rested (store x1 q d (Refer None)) ≡ Found (memory (view_world m2) (settled q2)))
      (stood : read x1 q d ≡ Found (view_word was))
      (exchanges : (j : ℕ) → outside m2.heap j + names q j + named (word.Refer None) j ≡ outside h1 j + names q2 j + named was j) where
    pub same2 : memory x2 (settled q) ≡ memory (view_world m2) (settled q2)
    same2 = let a : Found (memory x2 (settled q)) ≡ Found (memory (view_world m2) (settled q2)) = sym first_store ∙ gives in cc

    pub world2 : view_world m2 ≡ x2
    world2 = ap (λ (m : places.Memory). m.world) (sym same2)

    pub process2 : settled q2 ≡ settled q
    process2 = ap (λ (m : places.Memory). m.process) (sym same2)

    pub names2 : (j : ℕ) → names q2 j ≡ names q j
    names2 j = ap (λ q. names q j) process2

    pub was_named : (j : ℕ) → named was j ≡ one k j
    was_named j =
        let a : Found (view_word was) ≡ Found (Refer (Some k)) = sym stood ∙ first_read in
        let same : view_word was ≡ Refer (Some k) = cc in
        sym (word_named was j) ∙ ap (refers j) same

    pub held2 : (j : ℕ) → outside m2.heap j ≡ outside m.heap j + one k j
    held2 j =
        let a = exchanges j in let b = e.outside j in let c = was_named j in let f = names2 j in
        let z : named (word.Refer None) j ≡ 0 = refl in
        omega (arith, a, b, c, f, z)

    pub made2 : m2.heap.made ≡ m.heap.made
    made2 = sym (view_length m2.tables m2.heap) ∙ ap (λ (y : blocks.World). length y.heap) world2 ∙ length2

    pub sole2 : IsSole m2.heap k
    sole2 =
        let a = once_less in
        let b : in_all inside (view_heap m2.tables m2.heap) k ≡ in_all inside x2.heap k = ap (λ (y : blocks.World). in_all inside y.heap k) world2 in
        let c = view_named m2.tables m2.heap k ok2 m2.proper in
        let f : count (at m.heap) k ≡ 1 = ap count_in may.live ∙ may.only in
        let g = ok.enough k in
        let h = held2 k in
        let o : one k k ≡ 1 = refers_itself k in
        let i : outside m.heap k ≡ count (at m.heap) k - store_of.inside m.heap k = refl in
        let j : outside m2.heap k ≡ count (at m2.heap) k - store_of.inside m2.heap k = refl in
        let none : store_of.inside m2.heap k ≡ 0 = omega (arith, a, b, c, f, g) in
        let once : count (at m2.heap) k ≡ 1 = omega (arith, a, b, c, f, g, h, o, i, j, none) in
        go (at m2.heap k) refl none once
      where
        go : (o : Option Block) → at m2.heap k ≡ o → store_of.inside m2.heap k ≡ 0 → count (at m2.heap) k ≡ 1 → IsSole m2.heap k
        go None is none once = let a : count (at m2.heap) k ≡ 0 = ap count_in is in absurd (omega (arith, a, once))
        go (Some b) is none once = record { block = b; live = is; only = sym (ap count_in is) ∙ once; unnamed = none }

    pub string2 : HasText m2.heap k u
    string2 =
        has_text m2 k u ok2
        (ap (λ (y : blocks.World). or_wrong dead_address (heap_list.at y.heap k) >>= text_in) world2 ∙ ap (λ o. or_wrong dead_address o >>= text_in) text2)

    -- ---- the string is the next block

    module _ (h3 : Store) (r : Ref) (serial : r.serial ≡ m2.heap.made) (is3 : (b : Block) → at m2.heap k ≡ Some b → h3 ≡ with_new (without_block m2.heap k) b)
        (out3 : (j : ℕ) → outside h3 j + one k j ≡ outside m2.heap j + one r.serial j) where
      pub below2 : k < m2.heap.made
      below2 = ok2.bounded k string2.block string2.live

      pub view3 : view_heap m2.tables h3 ≡ slice_set (view_heap m2.tables m2.heap) k None ++ Some (Text u) ∷ []
      view3 =
          ap (view_heap m2.tables) (is3 string2.block string2.live)
          ∙ ap (map (option_map (view_shape m2.tables))) (new_shapes (without_block m2.heap k) string2.block
          ∙ ap (λ hs. hs ++ Some (shape_of string2.block) ∷ []) (taken_shapes m2.heap k))
          ∙ map-append (option_map (view_shape m2.tables)) (slice_set (shapes m2.heap) k None) (Some (shape_of string2.block) ∷ [])
          ∙ ap (λ hs. hs ++ Some (block_by m2.tables string2.block.kind string2.block.content) ∷ []) (map-set (option_map (view_shape m2.tables)) (shapes m2.heap) k None)
          ∙ ap (λ kd. slice_set (view_heap m2.tables m2.heap) k None ++ Some (block_by m2.tables kd string2.block.content) ∷ []) string2.kind
          ∙ ap (λ ct. slice_set (view_heap m2.tables m2.heap) k None ++ Some (block_by m2.tables kind.Text ct) ∷ []) string2.content

      abbrev pub x3 : blocks.World
      x3 = with_heap (view_world m2) (view_heap m2.tables h3)

      pub here3 : heap_list.at x3.heap n ≡ Some emptied
      here3 =
          ap (λ hs. heap_list.at hs n) view3
          ∙ place_front (slice_set (view_heap m2.tables m2.heap) k None) (Some (Text u) ∷ []) n emptied
          (set_apart (view_heap m2.tables m2.heap) k None n apart ∙ ap (λ (y : blocks.World). heap_list.at y.heap n) world2 ∙ here2)

      abbrev pub st3 : Stands x3 n d (Refer None)
      st3 = record {
        block = emptied;
        there = here3;
        words = slice_set st.words st.number (Refer None);
        reached = reached_put st.block st.words (slice_set st.words st.number (Refer None)) st.reached;
        number = st.number;
        placed = st.placed;
        word = set_got st.words st.number (Refer (Some k)) (Refer None) st.word;
      }

      abbrev pub filled : blocks.Block
      filled = with_words (slice_set (slice_set st.words st.number (Refer None)) st.number (Refer (Some r.serial))) emptied

      abbrev pub x4 : blocks.World
      x4 = with_changed x3 n filled

      pub second_store : rested (store x3 q2 d (Refer (Some r.serial))) ≡ Found (memory x4 (settled q))
      second_store =
          store_settled x3 q2 d (Refer (Some r.serial)) ∙ ap (λ q. rested (store x3 q d (Refer (Some r.serial)))) process2
          ∙ sym (store_settled x3 q d (Refer (Some r.serial)))
          ∙ ap rested (within.store_is x3 n d (Refer None) st3 q (Refer (Some r.serial)) l refl)

      pub second_read : read x3 q2 d ≡ Found (Refer None)
      second_read =
          read_settled x3 q2 d ∙ ap (λ q. read x3 q d) process2 ∙ sym (read_settled x3 q d) ∙ within.read_is x3 n d (Refer None) st3 q l

      -- As the definition has it, but for the string that nothing refers to.
      abbrev pub x' : blocks.World
      x' = with_changed (with_block (view_world m) (Text u)) n (with_words (slice_set st.words st.number (Refer (Some r.serial))) st.block)

      heap4 : x4.heap ≡ slice_set x'.heap k None
      heap4 =
          let f : blocks.Block = with_words (slice_set st.words st.number (Refer (Some r.serial))) st.block in
          let same : filled ≡ f =
          put_twice st.block (slice_set st.words st.number (Refer None)) (slice_set (slice_set st.words st.number (Refer None)) st.number (Refer (Some r.serial)))
          ∙ ap (λ ws. with_words ws st.block) (set_again st.words st.number (Refer None) (Refer (Some r.serial))) in
          let here = place_within before n st.block st.there in
          let text = place_within before k (Text s) text_here in
          let emptied_first : view_heap m2.tables m2.heap ≡ slice_set (slice_set before k (Some (Text u))) n (Some emptied) =
          ap (λ (y : blocks.World). y.heap) world2 ∙ ap (λ hs. slice_set hs n (Some emptied)) edited_view in
          let inner : slice_set (view_heap m2.tables m2.heap) k None ≡ slice_set (slice_set before k None) n (Some emptied) =
          ap (λ hs. slice_set hs k None) emptied_first ∙ set_twice (slice_set before k (Some (Text u))) n k (Some emptied) None apart
          ∙ ap (λ hs. slice_set hs n (Some emptied)) (set_again before k (Some (Text u)) None) in
          let long : n < length (slice_set before k None) = let a = length-set before k None in omega (arith, a, here) in
          let long2 : n < length (slice_set (slice_set before k None) n (Some emptied)) = let a = length-set (slice_set before k None) n (Some emptied) in omega (arith, a, long) in
          let long3 : k < length (slice_set before n (Some f)) = let a = length-set before n (Some f) in omega (arith, a, text) in
          ap (λ hs. slice_set hs n (Some filled)) (view3 ∙ ap (λ hs. hs ++ Some (Text u) ∷ []) inner)
          ∙ set_front (slice_set (slice_set before k None) n (Some emptied)) (Some (Text u) ∷ []) n (Some filled) long2
          ∙ ap (λ hs. hs ++ Some (Text u) ∷ []) (set_again (slice_set before k None) n (Some emptied) (Some filled) ∙ ap (λ b. slice_set (slice_set before k None) n (Some b)) same)
          ∙ ap (λ hs. hs ++ Some (Text u) ∷ []) (set_twice before k n None (Some f) (λ e. apart (sym e)))
          ∙ sym (set_front (slice_set before n (Some f)) (Some (Text u) ∷ []) k None long3)
          ∙ ap (λ hs. slice_set hs k None) (sym (set_front before (Some (Text u) ∷ []) n (Some f) here))

      text' : heap_list.at x'.heap k ≡ Some (Text s)
      text' =
          set_apart (before ++ Some (Text u) ∷ []) n (Some (with_words (slice_set st.words st.number (Refer (Some r.serial))) st.block)) k (λ e. apart (sym e))
          ∙ place_front before (Some (Text u) ∷ []) k (Text s) text_here

      -- ---- the word refers to it

      module _ (m4 : Memory) (p p4 : Process) (was4 : code_word.Word) (ok4 : IsHeap m4.heap) (is : view_process p ≡ q)
          (gives4 : rested (store x3 q2 d (Refer (Some r.serial))) ≡ Found (memory (view_world m4) (settled (view_process p4))))
          (stood4 : read x3 q2 d ≡ Found (view_word was4))
          (exchanges4 : (j : ℕ) → outside m4.heap j + names q2 j + named (word.Refer (Some r)) j ≡ outside h3 j + names (view_process p4) j + named was4 j)
          (tables4 : m4.tables ≡ m.tables) where
        same4 : memory x4 (settled q) ≡ memory (view_world m4) (settled (view_process p4))
        same4 =
            let a : Found (memory x4 (settled q)) ≡ Found (memory (view_world m4) (settled (view_process p4))) = sym second_store ∙ gives4 in cc

        world4 : view_world m4 ≡ x4
        world4 = ap (λ (m : places.Memory). m.world) (sym same4)

        nil_named : (j : ℕ) → named was4 j ≡ 0
        nil_named j =
            let a : Found (view_word was4) ≡ Found (Refer None) = sym stood4 ∙ second_read in
            let same : view_word was4 ≡ Refer None = cc in
            sym (word_named was4 j) ∙ ap (refers j) same

        heap_is : (view_world m4).heap ≡ slice_set x'.heap k None
        heap_is = ap (λ (y : blocks.World). y.heap) world4 ∙ heap4

        dead : count (at m4.heap) k ≡ 0
        dead =
            ap count_in (none_live _ (at m4.heap k)
            (sym (at_view m4.tables m4.heap k ok4) ∙ ap (λ hs. heap_list.at hs k) heap_is ∙ set_here x'.heap k None (place_within x'.heap k (Text s) text')))

        unheld : outside m4.heap k ≡ 0
        unheld = let a : outside m4.heap k ≡ count (at m4.heap) k - store_of.inside m4.heap k = refl in let b = dead in omega (arith, a, b)

        unnamed : in_all inside x'.heap k ≡ 0
        unnamed =
            let a = in_all_set inside x'.heap k (Text s) None k text' in
            let b : in_all inside (view_heap m4.tables m4.heap) k ≡ in_all inside (slice_set x'.heap k None) k = ap (λ hs. in_all inside hs k) heap_is in
            let c = view_named m4.tables m4.heap k ok4 m4.proper in
            let f = ok4.enough k in
            let g = dead in
            omega (arith, a, b, c, f, g)

        pub moved_stores : Stores m p (Ok tt) (made (view_world m) q d (Text u)) m4 p4
        moved_stores = (
          x',
          ap (λ a. a >>= reference >>= λ old. rested (store (with_block (view_world m) (Text u)) q d (Refer (Some (next_serial (view_world m)))))) there
              ∙ ap (λ n. rested (store (with_block (view_world m) (Text u)) q d (Refer (Some n)))) (view_length m.tables m.heap ∙ sym (serial ∙ made2))
              ∙ ap rested (within.store_is (with_block (view_world m) (Text u)) n d (Refer (Some k))
              (record { block = st.block; there = place_front before (Some (Text u) ∷ []) n st.block st.there; words = st.words; reached = st.reached; number = st.number; placed = st.placed; word = st.word })
              q (Refer (Some r.serial)) l refl)
              ∙ ap (λ q. Found (memory x' q)) (ap (λ (m : places.Memory). m.process) same4),
          record {
            held = λ j.
                let a = held2 j in let b = out3 j in let c = exchanges4 j in let f = nil_named j in let g = refer_named r j in let h = names2 j in
                let i : names (view_process p) j ≡ names q j = ap (λ q. names q j) is in
                omega (arith, a, b, c, f, g, h, i);
            heap =
                view_uncut m4.tables m4.heap ok4 m4.proper
                ∙ ap (λ hs. stays inside (outside m4.heap) hs) heap_is
                ∙ early inside (outside m4.heap) x'.heap (slice_set x'.heap k None) (unnamed_early inside (outside m4.heap) x'.heap k unheld unnamed);
            outer = ap (λ (y : blocks.World). y.outside) world4 ∙ ap (λ (y : blocks.World). y.outside) world2;
            tables = tables4;
          },
        )
