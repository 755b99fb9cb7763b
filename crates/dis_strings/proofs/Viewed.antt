-- Blocks, as the definition has them, name what their words name.
use Rattle.std.proofs.Common.{◌≡◌, ℕ, suc, true, List, [], ◌∷◌, map, Option, Some, None, refl, sym, ap, ◌∙◌, arith}
use Rattle.std.specs.Prelude.{unwrap_or}
use Rattle.std.specs.Option.{option_map}
use Rattle.heap_model.specs.Heap as heap_list
use Rattle.heap_model.specs.Heap.{Heap, in_all}
use Rattle.ref_heap.specs.declared.kind.Kind.{Kind}
use Rattle.ref_heap.specs.declared.kind.Kind.TheVariants as kind
use Rattle.ref_heap.specs.Words.{Cell, Content, wide, compact, cells, plain, refer, in_block, in_frame, naming}
use Rattle.ref_heap.proofs.Naming.{plain_names}
use Rattle.ref_heap.specs.Store as store
use Rattle.ref_heap.specs.Store.{Store, IsHeap, at}
use Rattle.heap_cuts.specs.Shapes.{Shape, shape_of, shapes, naming_of}
use Rattle.heap_cuts.proofs.Listed.{at_shapes, names_shapes}
use Rattle.dis_meaning.specs.Counts.{in_words}
use Rattle.dis_memory.specs.Blocks as blocks
use Rattle.dis_memory.specs.Blocks.{words_in}
use Rattle.dis_memory.specs.Naming.{inside}
use Rattle.dis_places.specs.declared.memory.Tables.{Tables}
use Rattle.dis_places.specs.Blocks.{block_by, view_shape, view_heap, is_proper, AreProper, first_name, behind_first, refers_on, begins_with_reference, is_empty}
use Rattle.dis_places.specs.Words.{view_cells}
use Rattle.dis_stores.proofs.Named.{cells_named}

block_named : (t : Tables) (k : Kind) (c : Content) (n : ℕ) → is_proper k c ≡ true → in_words n (words_in (block_by t k c)) ≡ naming (cells c) n
block_named t kind.Record c n p = cells_named (cells c) n
block_named t (kind.Fd number) c n p = cells_named (cells c) n
block_named t kind.Text (wide ws) n p = absurd cc
block_named t kind.Text (compact ns) n p = sym (plain_names ns n)
block_named t (kind.Array element long) c n p = cells_named (cells c) n
block_named t (kind.Slice from long) c n p = go (cells c) p
  where
    go : (cs : List Cell) → refers_on cs ≡ true → in_words n (words_in (blocks.Part (unwrap_or (first_name cs) 0) from long)) ≡ naming cs n
    go [] p = absurd cc
    go (plain v ∷ cs) p = absurd cc
    go (refer None ∷ []) p = absurd cc
    go (refer None ∷ c ∷ cs) p = absurd cc
    go (refer (Some a) ∷ []) p = cells_named (refer (Some a) ∷ []) n
    go (refer (Some a) ∷ c ∷ cs) p = absurd cc
    go (in_block s v ∷ cs) p = absurd cc
    go (in_frame s v ∷ cs) p = absurd cc
block_named t kind.Cell c n p = go (cells c) p
  where
    go : (cs : List Cell) → begins_with_reference cs ≡ true → in_words n (words_in (blocks.Cell (view_cells (behind_first cs)) (first_name cs))) ≡ naming cs n
    go [] p = absurd cc
    go (plain v ∷ cs) p = absurd cc
    go (refer r ∷ cs) p = cells_named (refer r ∷ cs) n
    go (in_block s v ∷ cs) p = absurd cc
    go (in_frame s v ∷ cs) p = absurd cc
block_named t (kind.Channel element) c n p = go (cells c) p
  where
    go : (cs : List Cell) → is_empty cs ≡ true → 0 ≡ naming cs n
    go [] p = refl
    go (c ∷ cs) p = absurd cc
block_named t (kind.Instance object) c n p = cells_named (cells c) n
block_named t (kind.Sys names) c n p = go (cells c) p
  where
    go : (cs : List Cell) → is_empty cs ≡ true → 0 ≡ naming cs n
    go [] p = refl
    go (c ∷ cs) p = absurd cc

all_named : (f : Shape → blocks.Block) (hs : Heap Shape) (n : ℕ) → ((k : ℕ) (s : Shape) → heap_list.at hs k ≡ Some s → inside (f s) n ≡ naming_of s n) →
    in_all inside (map (option_map f) hs) n ≡ in_all naming_of hs n
all_named f [] n e = refl
all_named f (None ∷ os) n e = let r = all_named f os n (λ k. e (suc k)) in omega (arith, r)
all_named f (Some s ∷ os) n e = let a = e 0 s refl in let r = all_named f os n (λ k. e (suc k)) in omega (arith, a, r)

pub view_named : (t : Tables) (h : Store) (n : ℕ) → IsHeap h → AreProper h → in_all inside (view_heap t h) n ≡ store.inside h n
view_named t h n ok p =
    all_named (view_shape t) (shapes h) n each ∙ names_shapes h n
  where
    each : (k : ℕ) (s : Shape) → heap_list.at (shapes h) k ≡ Some s → inside (view_shape t s) n ≡ naming_of s n
    each k s e = go (at h k) refl
      where
        go : (o : Option store.Block) → at h k ≡ o → inside (view_shape t s) n ≡ naming_of s n
        go None there = let a : Some s ≡ None = sym e ∙ at_shapes h ok k ∙ ap (option_map shape_of) there in absurd cc
        go (Some b) there =
            let a : Some s ≡ Some (shape_of b) = sym e ∙ at_shapes h ok k ∙ ap (option_map shape_of) there in
            let same : s ≡ shape_of b = cc in
            block_named t s.0 s.1 n (ap (λ (s : Shape). is_proper s.0 s.1) same ∙ p k b there)
