-- A block with other words, as the definition has it.
use Rattle.std.proofs.Common.{◌≡◌, ℕ, true, List, map, Some, ◌⊎◌, inl, inr, Result, Ok, Err, OnOk, OnErr, sym, ap, ◌∙◌, subst}
use Rattle.std.specs.Prelude.{slice_set}
use Rattle.std.specs.Option.{option_map}
use Rattle.std.proofs.lemmas.Bool.{cases_eq}
use Rattle.std.proofs.lemmas.List.{map-set}
use Rattle.ref_heap.specs.Store.{Block, Store, at}
use Rattle.heap_cuts.specs.Shapes.{shape_of, shapes}
use Rattle.dis_meaning.specs.Words.{Word, Found, ◌>>=◌, dead_address, or_wrong}
use Rattle.dis_memory.specs.Blocks as blocks
use Rattle.dis_memory.specs.Blocks.{with_words}
use Rattle.dis_memory.specs.Places.{with_data}
use Rattle.dis_places.specs.declared.memory.Memory.{Memory}
use Rattle.dis_places.specs.declared.memory.Tables.{Tables}
use Rattle.dis_places.specs.Blocks.{block_by, view_shape, view_heap, is_proper, AreProper}
use Rattle.dis_places.specs.View.{view_world}
use Rattle.dis_stores.proofs.Blocks.{Reaches}
use Rattle.dis_copies.specs.Changes.{Changed}

module _ (t : Tables) (h h' : Store) (s : ℕ) (ws : List Word) (r : Reaches t h s) (x : Changed h h' s ws) where
  same_block : x.block ≡ r.block
  same_block = let e : Some x.block ≡ Some r.block = sym x.there ∙ r.live in cc

  kinds : x.now.kind ≡ r.block.kind
  kinds = x.kind ∙ ap (λ (b : Block). b.kind) same_block

  -- The blocks are those of the definition.
  pub blocks_now : slice_set (view_heap t h) s (Some (with_words ws (view_shape t (shape_of r.block)))) ≡ view_heap t h'
  blocks_now =
      let one : with_words ws (view_shape t (shape_of r.block)) ≡ view_shape t (shape_of x.now) =
      ap (λ ws. with_words ws (view_shape t (shape_of r.block))) (sym x.holds) ∙ r.with_words x.now.content
      ∙ ap (λ k. block_by t k x.now.content) (sym kinds) in
      ap (λ b. slice_set (view_heap t h) s (Some b)) one
      ∙ sym (map-set (option_map (view_shape t)) (shapes h) s (Some (shape_of x.now)))
      ∙ ap (map (option_map (view_shape t))) (sym x.shapes)

  pub proper_now : AreProper h → AreProper h'
  proper_now p n b e = go (cases_eq n s)
    where
      go : (n ≡ s) ⊎ (n ≡ s → ⊥) → is_proper b.kind b.content ≡ true
      go (inl same) =
          let a : Some b ≡ Some x.now = sym e ∙ ap (at h') same ∙ x.is in let is : b ≡ x.now = cc in
          ap (λ k. is_proper k b.content) (ap (λ (b : Block). b.kind) is ∙ kinds) ∙ r.proper b.content
      go (inr ne) = p n b (sym (x.apart n ne) ∙ e)

pub proper_then : {E : Type 0} (t : Tables) (h h' : Store) (s : ℕ) (ws : List Word) (a : Result (Unit {0}) E) → Reaches t h s → OnOk a (Changed h h' s ws) → OnErr a (h' ≡ h) →
    AreProper h → AreProper h'
proper_then t h h' s ws (Ok u) r x e p = proper_now t h h' s ws r x p
proper_then t h h' s ws (Err f) r x e p = subst AreProper (sym e) p

pub data_then : {E : Type 0} (m : Memory) (h' : Store) (s : ℕ) (ws : List Word) (a : Result (Unit {0}) E) → Reaches m.tables m.heap s → OnOk a (Changed m.heap h' s ws) →
    OnOk a (with_data (view_world m) s ws ≡ Found (blocks.with_heap (view_world m) (view_heap m.tables h')))
data_then m h' s ws (Ok u) r x =
    ap (λ o. or_wrong dead_address o >>= λ b. Found (blocks.with_changed (view_world m) s (with_words ws b))) r.there
    ∙ ap (λ hs. Found (blocks.with_heap (view_world m) hs)) (blocks_now m.tables m.heap h' s ws r x)
data_then m h' s ws (Err f) r x = tt

-- What is so where all goes well, more is so there.
pub on_well : {E : Type 0} {P Q : Type 0} (a : Result (Unit {0}) E) → (P → Q) → OnOk a P → OnOk a Q
on_well (Ok u) f h = f h
on_well (Err e) f h = tt

pub err_first : {E : Type 0} (P Q : Type 0) (a : Result (Unit {0}) E) → OnErr a (P × Q) → OnErr a P
err_first P Q (Ok u) h = tt
err_first P Q (Err e) h = h.0
