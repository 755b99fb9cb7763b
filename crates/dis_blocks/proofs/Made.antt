-- A heap with one block more.
use Rattle.std.proofs.Common.{◌≡◌, ℕ, ℤ, zero, suc, ◌+◌, true, [], ◌∷◌, ◌++◌, map, length, Option, Some, None, Result, Ok, Err, OnOk, OnErr, ◌⊎◌, inl, inr, refl, sym, ap, ◌∙◌, subst, arith}
use Rattle.std.specs.Option.{option_map}
use Rattle.std.proofs.lemmas.Bool.{cases_eq}
use Rattle.std.proofs.lemmas.List.{map-append, length-map}
use Rattle.heap_model.specs.Heap as heap_list
use Rattle.ref_heap.specs.declared.kind.Kind.{Kind}
use Rattle.ref_heap.specs.declared.kind.Kind.TheVariants as kind
use Rattle.ref_heap.specs.declared.kind.HeapFault.{HeapFault}
use Rattle.ref_heap.specs.declared.word.Word as code_word
use Rattle.ref_heap.specs.declared.word.Word.TheVariants as word
use Rattle.ref_heap.specs.declared.word.Ref.{Ref}
use Rattle.ref_heap.specs.declared.word.Place as code_place
use Rattle.ref_heap.specs.declared.word.Place.TheVariants as code_place_of
use Rattle.ref_heap.specs.Words.{Cell, Content, wide, plain, refer, in_block, in_frame, cell_of, is_reference, naming}
use Rattle.ref_heap.specs.Store.{Block, Store, IsHeap, IsLive, AreHeld, at, outside, one, one_more, fresh, with_block, with_new}
use Rattle.ref_heap.specs.Drops.{Drops}
use Rattle.ref_heap.specs.Slots.{Changed}
use Rattle.ref_heap.proofs.Put.{at_with_block}
use Rattle.heap_cuts.specs.Shapes.{shape_of, shapes}
use Rattle.heap_cuts.proofs.Listed.{new_shapes, length_shapes}
use Rattle.dis_meaning.specs.Words.{InBlock, InFrame, Word, Access, Found, Wrong, Raises, Refer, ◌>>=◌, or_wrong, dead_address, word_at, reference, fits}
use Rattle.dis_meaning.specs.Process as view
use Rattle.dis_meaning.specs.Places.{Spot, Own, Data, Far}
use Rattle.dis_memory.specs.Blocks as blocks
use Rattle.dis_memory.specs.Naming.{names}
use Rattle.dis_memory.specs.Places as places
use Rattle.dis_places.specs.declared.memory.Memory.{Memory}
use Rattle.dis_places.specs.declared.memory.Tables.{Tables}
use Rattle.dis_places.specs.declared.process.Process.{Process}
use Rattle.dis_places.specs.Blocks.{block_by, view_shape, view_heap, is_proper, AreProper}
use Rattle.dis_places.specs.View.{view_process, view_world}
use Rattle.dis_places.specs.Words.{view_cell, view_word, Halts}
use Rattle.dis_places.specs.declared.fault.Halt.{Halt}
use Rattle.dis_places.specs.declared.fault.Halt.TheVariants as halt
use Rattle.dis_stores.specs.Storing.{named, rested, IsNoMemory}
use Rattle.dis_stores.proofs.Cuts.{view_cut, store_found}
use Rattle.dis_stores.proofs.Settling.{hold_same, same_proper}
use Rattle.dis_blocks.specs.Making.{SettlesFor, made}

pub new_proper : (h : Store) (k : Kind) (c : Content) → AreProper h → is_proper k c ≡ true → AreProper (with_new h (fresh k c))
new_proper h k c p q n b e = go (cases_eq n h.made)
  where
    changed : Changed (at h) (at (with_new h (fresh k c))) h.made (Some (fresh k c))
    changed = at_with_block (record h { made = h.made + 1 }) h.made (fresh k c)

    go : (n ≡ h.made) ⊎ (n ≡ h.made → ⊥) → is_proper b.kind b.content ≡ true
    go (inl same) =
        let a : Some b ≡ Some (fresh k c) = sym e ∙ ap (at (with_new h (fresh k c))) same ∙ changed.here in let is : b ≡ fresh k c = cc in
        ap (λ (b : Block). is_proper b.kind b.content) is ∙ q
    go (inr ne) = p n b (sym (changed.apart n ne) ∙ e)

pub view_new : (t : Tables) (h : Store) (k : Kind) (c : Content) → view_heap t (with_new h (fresh k c)) ≡ view_heap t h ++ Some (block_by t k c) ∷ []
view_new t h k c =
    ap (map (option_map (view_shape t))) (new_shapes h (fresh k c)) ∙ map-append (option_map (view_shape t)) (shapes h) (Some (shape_of (fresh k c)) ∷ [])

pub view_length : (t : Tables) (h : Store) → length (view_heap t h) ≡ h.made
view_length t h = length-map (shapes h) (option_map (view_shape t)) ∙ length_shapes h

-- ---- what is read is read still

at_front : {A : Type 0} (h g : heap_list.Heap A) (n : ℕ) (a : A) → heap_list.at h n ≡ Some a → heap_list.at (h ++ g) n ≡ Some a
at_front [] g n a e = absurd cc
at_front (o ∷ os) g zero a e = e
at_front (o ∷ os) g (suc n) a e = at_front os g n a e

pub read_still : (x : blocks.World) (p : view.Process) (s : Spot) (b : blocks.Block) (o : Word) → places.read x p s ≡ Found o → places.read (blocks.with_block x b) p s ≡ Found o
read_still x p s b o r = in_place s r
  where
    in_block : (n : ℕ) (at : ℤ) → (places.data_at x n >>= λ ws. word_at ws at) ≡ Found o → (places.data_at (blocks.with_block x b) n >>= λ ws. word_at ws at) ≡ Found o
    in_block n at r = go (heap_list.at x.heap n) refl
      where
        go : (a : Option blocks.Block) → heap_list.at x.heap n ≡ a → (places.data_at (blocks.with_block x b) n >>= λ ws. word_at ws at) ≡ Found o
        go None e =
            let w : Wrong dead_address ≡ Found o = ap (λ a. or_wrong dead_address a >>= blocks.reached >>= λ ws. word_at ws at) (sym e) ∙ r in absurd cc
        go (Some c) e =
            ap (λ a. or_wrong dead_address a >>= blocks.reached >>= λ ws. word_at ws at) (at_front x.heap (Some b ∷ []) n c e ∙ sym e) ∙ r

    in_place : (s : Spot) → places.read x p s ≡ Found o → places.read (blocks.with_block x b) p s ≡ Found o
    in_place (Own at) r = r
    in_place (Data at) r = in_block p.frame.instance at r
    in_place (Far (InFrame n) at) r = r
    in_place (Far (InBlock n) at) r = in_block n at r

-- ---- what stands then

pub was_held : (m m2 : Memory) (p p' : Process) (h1 : Store) (given : ℕ → ℕ) (new was : code_word.Word) (k : ℕ) →
    AreHeld m.heap (λ n. names (view_process p) n + given n) →
    ((n : ℕ) → outside h1 n + given n ≡ outside m.heap n + one k n) → ((n : ℕ) → named new n ≡ one k n) →
    ((n : ℕ) → outside m2.heap n + names (view_process p) n + named new n ≡ outside h1 n + names (view_process p') n + named was n) →
    AreHeld m2.heap (naming (map cell_of (was ∷ [])))
was_held m m2 p p' h1 given new was k held more is e n = let a = held n in let b = more n in let d = is n in let c = e n in omega (arith, a, b, c, d)

pub new_settles : (m m2 : Memory) (p p' : Process) (h1 h3 : Store) (given : ℕ → ℕ) (new was : code_word.Word) (k : ℕ) (proper : AreProper h3) →
    IsHeap m2.heap → AreHeld m.heap (λ n. names (view_process p) n + given n) →
    ((n : ℕ) → outside h1 n + given n ≡ outside m.heap n + one k n) → ((n : ℕ) → named new n ≡ one k n) →
    ((n : ℕ) → outside m2.heap n + names (view_process p) n + named new n ≡ outside h1 n + names (view_process p') n + named was n) →
    m2.tables ≡ m.tables → Drops m2.heap h3 (naming (map cell_of (was ∷ []))) → h3.made ≡ m2.heap.made →
    ((n : ℕ) → outside h3 n + naming (map cell_of (was ∷ [])) n ≡ outside m2.heap n) →
    SettlesFor given m p (view_world m2) (record { heap = h3; tables = m2.tables; frames = m2.frames; outside = m2.outside; proper = proper }) p'
new_settles m m2 p p' h1 h3 given new was k proper ok held more is e tables drops made out = record {
  held = λ n. let b = more n in let c = e n in let d = out n in let i = is n in omega (arith, b, c, d, i);
  heap =
      view_cut m2.tables m2.heap h3 (naming (map cell_of (was ∷ [])))
      (record { heap = ok; held = was_held m m2 p p' h1 given new was k held more is e; drops = drops; made = made }) m2.proper;
  outer = refl;
  tables = tables;
}

pub refer_named : (r : Ref) (n : ℕ) → named (word.Refer (Some r)) n ≡ one r.serial n
refer_named r n = omega arith

-- What the store comes to in the heap with the block, where a reference stands.
pub as_made : (m : Memory) (p : view.Process) (s : Spot) (k : Kind) (c : Content) (old : code_word.Word) → places.read (view_world m) p s ≡ Found (view_word old) →
    is_reference (cell_of old) ≡ true →
    made (view_world m) p s (block_by m.tables k c) ≡
    rested (places.store (blocks.with_heap (view_world m) (view_heap m.tables (with_new m.heap (fresh k c)))) p s (Refer (Some m.heap.made)))
as_made m p s k c (word.Refer r) there stands =
    ap (λ a. a >>= reference >>= λ old. rested (places.store (blocks.with_block (view_world m) (block_by m.tables k c)) p s (Refer (Some (blocks.next_serial (view_world m)))))) there
    ∙ ap (λ n. rested (places.store (blocks.with_block (view_world m) (block_by m.tables k c)) p s (Refer (Some n)))) (view_length m.tables m.heap)
    ∙ ap (λ hs. rested (places.store (blocks.with_heap (view_world m) hs) p s (Refer (Some m.heap.made)))) (sym (view_new m.tables m.heap k c))
as_made m p s k c (word.Plain v) there stands = absurd cc
as_made m p s k c (word.Address place at) there stands = absurd (no_address place at stands)
  where
    no_address : (q : code_place.Place) (at : ℕ) → is_reference (cell_of (word.Address q at)) ≡ true → ⊥
    no_address (code_place_of.Block r) at e = absurd cc
    no_address (code_place_of.Frame n) at e = absurd cc

-- ---- the two ways of a call that makes a block

pub add_proper : (h h' : Store) (k : Kind) (c : Content) (r : Result Ref HeapFault) → OnOk r (h' ≡ with_new h (fresh k c)) → OnErr r (h' ≡ h) → AreProper h → is_proper k c ≡ true →
    AreProper h'
add_proper h h' k c (Ok b) e f p q = subst AreProper (sym e) (new_proper h k c p q)
add_proper h h' k c (Err fault) e f p q = subst AreProper (sym f) p

fits_refer : (c : Cell) (r : Option ℕ) → is_reference c ≡ true → fits (view_cell c) (Refer r) ≡ true
fits_refer (plain v) r e = absurd cc
fits_refer (refer q) r e = refl
fits_refer (in_block s v) r e = absurd cc
fits_refer (in_frame s v) r e = absurd cc

never : {T : Type 0} (e : Halt) (a : Access T) (t : T) → a ≡ Found t → Halts e a → (IsNoMemory e → ⊥) → ⊥
never halt.NoMemory a t f h other = other tt
never (halt.Fault n) a t f h other = let w : Found t ≡ Wrong _ = sym f ∙ h in absurd cc
never (halt.Raises r) a t f h other = let w : Found t ≡ Raises _ = sym f ∙ h in absurd cc

-- A reference to the new block is stored where one stands.
pub never_refused : (m : Memory) (h1 : Store) (p : view.Process) (s : Spot) (k : Kind) (c : Content) (old : code_word.Word) (r : Option ℕ) (e : Halt) →
    places.read (view_world m) p s ≡ Found (view_word old) → is_reference (cell_of old) ≡ true → h1 ≡ with_new m.heap (fresh k c) →
    Halts e (rested (places.store (blocks.with_heap (view_world m) (view_heap m.tables h1)) p s (Refer r))) → (IsNoMemory e → ⊥) → ⊥
never_refused m h1 p s k c old r e there stands new h other =
    let x1 = blocks.with_heap (view_world m) (view_heap m.tables h1) in
    let read1 : places.read x1 p s ≡ Found (view_word old) =
    ap (λ h. places.read (blocks.with_heap (view_world m) (view_heap m.tables h)) p s) new
    ∙ ap (λ hs. places.read (blocks.with_heap (view_world m) hs) p s) (view_new m.tables m.heap k c)
    ∙ read_still (view_world m) p s (block_by m.tables k c) (view_word old) there in
    let f = store_found x1 p s (Refer r) (view_word old) read1 (fits_refer (cell_of old) r stands) in
    never e _ f.0 f.1 h other

-- ---- the same of any heap with one block more

pub more_made : (m : Memory) (h1 : Store) (b : blocks.Block) (p : view.Process) (s : Spot) (old : code_word.Word) →
    view_heap m.tables h1 ≡ view_heap m.tables m.heap ++ Some b ∷ [] → places.read (view_world m) p s ≡ Found (view_word old) → is_reference (cell_of old) ≡ true →
    made (view_world m) p s b ≡ rested (places.store (blocks.with_heap (view_world m) (view_heap m.tables h1)) p s (Refer (Some m.heap.made)))
more_made m h1 b p s (word.Refer r) e there stands =
    ap (λ a. a >>= reference >>= λ old. rested (places.store (blocks.with_block (view_world m) b) p s (Refer (Some (blocks.next_serial (view_world m)))))) there
    ∙ ap (λ n. rested (places.store (blocks.with_block (view_world m) b) p s (Refer (Some n)))) (view_length m.tables m.heap)
    ∙ ap (λ hs. rested (places.store (blocks.with_heap (view_world m) hs) p s (Refer (Some m.heap.made)))) (sym e)
more_made m h1 b p s (word.Plain v) e there stands = absurd cc
more_made m h1 b p s (word.Address place at) e there stands = absurd (no_address place at stands)
  where
    no_address : (q : code_place.Place) (at : ℕ) → is_reference (cell_of (word.Address q at)) ≡ true → ⊥
    no_address (code_place_of.Block r) at e = absurd cc
    no_address (code_place_of.Frame n) at e = absurd cc

pub more_refused : (m : Memory) (h1 : Store) (b : blocks.Block) (p : view.Process) (s : Spot) (old : code_word.Word) (r : Option ℕ) (e : Halt) →
    view_heap m.tables h1 ≡ view_heap m.tables m.heap ++ Some b ∷ [] → places.read (view_world m) p s ≡ Found (view_word old) → is_reference (cell_of old) ≡ true →
    Halts e (rested (places.store (blocks.with_heap (view_world m) (view_heap m.tables h1)) p s (Refer r))) → (IsNoMemory e → ⊥) → ⊥
more_refused m h1 b p s old r e new there stands h other =
    let x1 = blocks.with_heap (view_world m) (view_heap m.tables h1) in
    let read1 : places.read x1 p s ≡ Found (view_word old) =
    ap (λ hs. places.read (blocks.with_heap (view_world m) hs) p s) new ∙ read_still (view_world m) p s b (view_word old) there in
    let f = store_found x1 p s (Refer r) (view_word old) read1 (fits_refer (cell_of old) r stands) in
    never e _ f.0 f.1 h other

-- ---- part of an array

module _ (h : Store) (a : ℕ) (l : IsLive h a) (from long : ℕ) where
  pub view_part : (t : Tables) (h1 : Store) → h1 ≡ with_new (with_block h a (one_more l.block)) (fresh (kind.Slice from long) (wide (refer (Some a) ∷ []))) →
      view_heap t h1 ≡ view_heap t h ++ Some (blocks.Part a from long) ∷ []
  view_part t h1 e =
      ap (view_heap t) e ∙ view_new t (with_block h a (one_more l.block)) (kind.Slice from long) (wide (refer (Some a) ∷ []))
      ∙ ap (λ s. map (option_map (view_shape t)) s ++ Some (blocks.Part a from long) ∷ []) (hold_same h (with_block h a (one_more l.block)) a l refl).shapes

  pub part_is_proper : (h1 : Store) (r : Result Ref HeapFault) →
      OnOk r (h1 ≡ with_new (with_block h a (one_more l.block)) (fresh (kind.Slice from long) (wide (refer (Some a) ∷ [])))) → OnErr r (h1 ≡ h) → AreProper h → AreProper h1
  part_is_proper h1 (Ok b) e f p =
      subst AreProper (sym e)
      (new_proper (with_block h a (one_more l.block)) (kind.Slice from long) (wide (refer (Some a) ∷ []))
      (same_proper h (with_block h a (one_more l.block)) (hold_same h (with_block h a (one_more l.block)) a l refl) p) refl)
  part_is_proper h1 (Err fault) e f p = subst AreProper (sym f) p
