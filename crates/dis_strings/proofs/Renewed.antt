-- A string that became the next block, to which a word of a frame refers.
use Rattle.std.proofs.Common.{◌≡◌, ℕ, zero, suc, ◌+◌, ◌-◌, ◌≤◌, ◌<◌, true, List, [], ◌∷◌, ◌++◌, map, length, Some, None, Ok, ◌⊎◌, inl, inr, cond, refl, sym, ap, ◌∙◌, arith}
use Rattle.std.specs.Prelude.{slice_set, eqb, Bool, false}
use Rattle.std.specs.Option.{option_map}
use Rattle.std.proofs.lemmas.Bool.{cases_eq, eqb-true}
use Rattle.std.proofs.lemmas.List.{map-append, map-set}
use Rattle.heap_model.specs.Heap as heap_list
use Rattle.heap_model.specs.Heap.{Heap, in_all, stays}
use Rattle.ref_heap.specs.declared.word.Ref.{Ref}
use Rattle.ref_heap.specs.declared.word.Word as code_word
use Rattle.ref_heap.specs.declared.word.Word.TheVariants as word
use Rattle.ref_heap.specs.Words.{compact}
use Rattle.ref_heap.specs.Store as blocks_of
use Rattle.ref_heap.specs.Store.{Store, IsHeap, IsSole, AreHeld, at, count, count_in, one, outside}
use Rattle.heap_cuts.specs.Shapes.{shape_of, shapes}
use Rattle.heap_cuts.proofs.Listed.{in_all_last, new_shapes, put_shapes, set_here, taken_shapes}
use Rattle.heap_cuts.proofs.Sooner.{early, unnamed_early}
use Rattle.dis_meaning.specs.Counts.{refers}
use Rattle.dis_meaning.specs.Places.{Spot}
use Rattle.dis_meaning.specs.Words.{Found, Refer, ◌>>=◌, reference}
use Rattle.dis_memory.specs.Blocks as blocks
use Rattle.dis_memory.specs.Blocks.{Text, with_block, with_heap, next_serial}
use Rattle.dis_memory.specs.Naming.{inside, names}
use Rattle.dis_memory.specs.Places.{memory, read, store}
use Rattle.dis_places.specs.declared.memory.Memory.{Memory}
use Rattle.dis_places.specs.declared.memory.Tables.{Tables}
use Rattle.dis_places.specs.declared.process.Process.{Process}
use Rattle.dis_places.specs.Blocks.{block_by, view_shape, view_heap}
use Rattle.dis_places.specs.View.{view_process, view_world}
use Rattle.dis_places.specs.Words.{view_word}
use Rattle.dis_places.proofs.Heaps.{at_view}
use Rattle.dis_stores.specs.Storing.{named, rested, settled, Stores}
use Rattle.dis_stores.proofs.Cuts.{view_uncut}
use Rattle.dis_stores.proofs.Named.{word_named}
use Rattle.dis_stores.proofs.Takes.{set_again}
use Rattle.dis_blocks.specs.Making.{made}
use Rattle.dis_blocks.proofs.Made.{refer_named, view_length}
use Rattle.dis_strings.specs.Renewing.{in_frame, IsAnew}
use Rattle.dis_strings.proofs.Edits.{edited, emptied, next}
use Rattle.dis_strings.proofs.Owned.{read_framed, store_framed}
use Rattle.dis_strings.proofs.Sets.{none_live, set_front}
use Rattle.dis_strings.proofs.Viewed.{view_named}

longer : {A : Type 0} (xs : List A) (a : A) (k : ℕ) → k < length xs → k < length (xs ++ a ∷ [])
longer [] a k lt = absurd (omega (arith, lt))
longer (x ∷ xs) a zero lt = omega arith
longer (x ∷ xs) a (suc k) lt = let r = longer xs a k (omega (arith, lt)) in omega (arith, r)

-- ---- the heap, as the definition has it

module _ (t : Tables) (h h2 : Store) (k k' : ℕ) (s u : List ℕ) (e : IsAnew h h2 k k' s u) (ok : IsHeap h) where
  abbrev after : Heap blocks.Block
  after = view_heap t h ++ Some (Text u) ∷ []

  pub below : k < length (view_heap t h)
  below = let a = ok.bounded k e.before.block e.before.live in let b = view_length t h in omega (arith, a, b)

  shapes_anew : shapes h2 ≡ slice_set (shapes h) k None ++ Some (shape_of (next h h2 k k' s u e)) ∷ []
  shapes_anew =
      ap shapes e.is ∙ new_shapes (emptied h h2 k k' s u e) (next h h2 k k' s u e)
      ∙ ap (λ hs. hs ++ Some (shape_of (next h h2 k k' s u e)) ∷ [])
      (taken_shapes (edited h h2 k k' s u e) k ∙ ap (λ hs. slice_set hs k None) (put_shapes h k (next h h2 k k' s u e))
      ∙ set_again (shapes h) k (Some (shape_of (next h h2 k k' s u e))) None)

  pub anew_view : view_heap t h2 ≡ slice_set after k None
  anew_view =
      ap (map (option_map (view_shape t))) shapes_anew
      ∙ map-append (option_map (view_shape t)) (slice_set (shapes h) k None) (Some (shape_of (next h h2 k k' s u e)) ∷ [])
      ∙ ap (λ hs. hs ++ Some (block_by t e.before.block.kind (compact u)) ∷ []) (map-set (option_map (view_shape t)) (shapes h) k None)
      ∙ ap (λ kd. slice_set (view_heap t h) k None ++ Some (block_by t kd (compact u)) ∷ []) e.before.kind
      ∙ sym (set_front (view_heap t h) (Some (Text u) ∷ []) k None below)

-- ---- memory

module _ (m m3 : Memory) (h2 : Store) (p p1 : Process) (d : Spot) (k : ℕ) (r : Ref) (was : code_word.Word) (s u : List ℕ) (e : IsAnew m.heap h2 k r.serial s u)
    (ok : IsHeap m.heap) (ok3 : IsHeap m3.heap) (sole : IsSole m.heap k) (framed : in_frame d ≡ true)
    (there : read (view_world m) (view_process p) d ≡ Found (Refer (Some k)))
    (gives : rested (store (with_heap (view_world m) (view_heap m.tables h2)) (view_process p) d (Refer (Some r.serial))) ≡ Found (memory (view_world m3) (settled (view_process p1))))
    (stood : read (with_heap (view_world m) (view_heap m.tables h2)) (view_process p) d ≡ Found (view_word was))
    (exchanges : (n : ℕ) → outside m3.heap n + names (view_process p) n + named (word.Refer (Some r)) n ≡ outside h2 n + names (view_process p1) n + named was n)
    (tables : m3.tables ≡ m.tables) where
  abbrev x : blocks.World
  x = view_world m

  abbrev x2 : blocks.World
  x2 = with_heap x (view_heap m.tables h2)

  abbrev x' : blocks.World
  x' = with_block x (Text u)

  both : (view_world m3 ≡ x2) × (rested (store x' (view_process p) d (Refer (Some r.serial))) ≡ Found (memory x' (settled (view_process p1))))
  both = store_framed x2 x' (view_process p) d (Refer (Some r.serial)) (memory (view_world m3) (settled (view_process p1))) framed gives

  was_named : (n : ℕ) → named was n ≡ one k n
  was_named n =
      let a : Found (view_word was) ≡ Found (Refer (Some k)) = sym stood ∙ read_framed x2 x (view_process p) d framed ∙ there in
      let same : view_word was ≡ Refer (Some k) = cc in
      sym (word_named was n) ∙ ap (refers n) same

  unheld : outside m3.heap k ≡ 0
  unheld =
      let gone : heap_list.at (slice_set (after m.tables m.heap h2 k r.serial s u e ok) k None) k ≡ None =
      set_here (view_heap m.tables m.heap ++ Some (Text u) ∷ []) k None
      (longer (view_heap m.tables m.heap) (Some (Text u)) k (below m.tables m.heap h2 k r.serial s u e ok)) in
      let seen : heap_list.at (view_heap m3.tables m3.heap) k ≡ None =
      ap (λ (y : blocks.World). heap_list.at y.heap k) both.0 ∙ ap (λ hs. heap_list.at hs k) (anew_view m.tables m.heap h2 k r.serial s u e ok) ∙ gone in
      let dead = none_live _ (at m3.heap k) (sym (at_view m3.tables m3.heap k ok3) ∙ seen) in
      let none : count (at m3.heap) k ≡ 0 = ap count_in dead in
      let a : outside m3.heap k ≡ count (at m3.heap) k - blocks_of.inside m3.heap k = refl in
      omega (arith, none, a)

  unnamed : in_all inside x'.heap k ≡ 0
  unnamed =
      let a = in_all_last inside (view_heap m.tables m.heap) (Some (Text u)) k in
      let b = view_named m.tables m.heap k ok m.proper in
      let c = sole.unnamed in
      omega (arith, a, b, c)

  pub renewed_stores : Stores m p (Ok tt) (made x (view_process p) d (Text u)) m3 p1
  renewed_stores = (
    x',
    ap (λ a. a >>= reference >>= λ old. rested (store x' (view_process p) d (Refer (Some (next_serial x))))) there
        ∙ ap (λ n. rested (store x' (view_process p) d (Refer (Some n)))) (view_length m.tables m.heap ∙ sym e.serial)
        ∙ both.1,
    record {
      held = λ n.
          let a = exchanges n in let b = e.outside n in let c = was_named n in let f = refer_named r n in
          omega (arith, a, b, c, f);
      heap =
          view_uncut m3.tables m3.heap ok3 m3.proper
          ∙ ap (λ hs. stays inside (outside m3.heap) hs) (ap (λ (y : blocks.World). y.heap) both.0 ∙ anew_view m.tables m.heap h2 k r.serial s u e ok)
          ∙ early inside (outside m3.heap) x'.heap (slice_set x'.heap k None) (unnamed_early inside (outside m3.heap) x'.heap k unheld unnamed);
      outer = ap (λ (y : blocks.World). y.outside) both.0;
      tables = tables;
    },
  )

-- The reference of the next block is held.
pub next_held : (h h2 : Store) (k k' : ℕ) → ((n : ℕ) → outside h2 n + one k n ≡ outside h n + one k' n) → (k ≡ k' → ⊥) → AreHeld h2 (one k')
next_held h h2 k k' out apart n = go (cases_eq n k)
  where
    go : (n ≡ k) ⊎ (n ≡ k → ⊥) → one k' n ≤ outside h2 n
    go (inl same) = none (eqb k' n) refl
      where
        none : (b : Bool) → eqb k' n ≡ b → cond b 1 0 ≤ outside h2 n
        none true is = absurd (apart (sym (eqb-true k' n is ∙ same)))
        none false is = omega arith
    go (inr ne) = none (eqb k n) refl
      where
        none : (b : Bool) → eqb k n ≡ b → one k' n ≤ outside h2 n
        none true is = absurd (ne (sym (eqb-true k n is)))
        none false is = let a = out n in let b : one k n ≡ 0 = ap (λ b. cond b 1 0) is in omega (arith, a, b)

pub anew_held : (h h2 : Store) (k k' : ℕ) (s u : List ℕ) → IsAnew h h2 k k' s u → IsHeap h → AreHeld h2 (one k')
anew_held h h2 k k' s u e ok =
    next_held h h2 k k' e.outside (λ same. let a = ok.bounded k e.before.block e.before.live in let b = e.serial in omega (arith, a, b, same))
