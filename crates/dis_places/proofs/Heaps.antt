-- The blocks of a heap, by their serials.
use Rattle.std.proofs.Common.{◌≡◌, ℕ, zero, suc, [], ◌∷◌, map, Option, Some, None, Result, Ok, Err, refl, sym, ap, ◌∙◌}
use Rattle.std.specs.Option.{option_map}
use Rattle.heap_model.specs.Heap as heap_list
use Rattle.ref_heap.specs.declared.kind.Kind.{Kind}
use Rattle.ref_heap.specs.declared.kind.HeapFault.{HeapFault}
use Rattle.ref_heap.specs.Words.{Content}
use Rattle.ref_heap.specs.Answers.{answer_for}
use Rattle.ref_heap.specs.Store.{Store, Block, IsHeap, at}
use Rattle.heap_cuts.specs.Shapes.{shapes, shape_of}
use Rattle.heap_cuts.proofs.Listed.{at_shapes}
use Rattle.dis_meaning.specs.Words.{Wrong, ◌>>=◌, or_wrong, dead_address}
use Rattle.dis_memory.specs.Blocks.{reached}
use Rattle.dis_places.specs.Regions.{block_words}
use Rattle.dis_places.specs.declared.memory.Tables.{Tables}
use Rattle.dis_places.specs.Blocks.{block_by, view_shape, view_heap, words_of}

at_map : {A B : Type 0} (f : A → B) (h : heap_list.Heap A) (n : ℕ) → heap_list.at (map (option_map f) h) n ≡ option_map f (heap_list.at h n)
at_map f [] n = refl
at_map f (o ∷ os) zero = refl
at_map f (o ∷ os) (suc n) = at_map f os n

-- The block of a serial is that of the heap.
pub at_view : (t : Tables) (h : Store) (n : ℕ) → IsHeap h → heap_list.at (view_heap t h) n ≡ option_map (λ b. view_shape t (shape_of b)) (at h n)
at_view t h n ok = at_map (view_shape t) (shapes h) n ∙ ap (option_map (view_shape t)) (at_shapes h ok n) ∙ go (at h n)
  where
    go : (o : Option Block) → option_map (view_shape t) (option_map shape_of o) ≡ option_map (λ b. view_shape t (shape_of b)) o
    go None = refl
    go (Some b) = refl

-- A block is there, of this kind; or there is none.
pub record Seen (t : Tables) (h : Store) (n : ℕ) (kind : Kind) : Type 0 where
  pub content : Content
  pub is : (or_wrong dead_address (heap_list.at (view_heap t h) n) >>= reached) ≡ reached (block_by t kind content)
  pub words : block_words (at h n) ≡ words_of content

pub seen : (t : Tables) (h : Store) (n : ℕ) (kind : Kind) → IsHeap h → ◌≡◌ {A = Result Kind HeapFault} (Ok kind) (answer_for (λ (b : Block). b.kind) (at h n)) → Seen t h n kind
seen t h n kind ok e = go (at h n) refl e
  where
    go : (o : Option Block) → at h n ≡ o → ◌≡◌ {A = Result Kind HeapFault} (Ok kind) (answer_for (λ (b : Block). b.kind) o) → Seen t h n kind
    go None there e = absurd cc
    go (Some b) there e =
        let same : kind ≡ b.kind = cc in
        record {
          content = b.content;
          is =
              ap (λ o. or_wrong dead_address o >>= reached) (at_view t h n ok ∙ ap (option_map (λ b. view_shape t (shape_of b))) there)
              ∙ ap (λ k. reached (block_by t k b.content)) (sym same);
          words = ap block_words there;
        }

pub none_seen : (t : Tables) (h : Store) (n : ℕ) (fault : HeapFault) → IsHeap h → ◌≡◌ {A = Result Kind HeapFault} (Err fault) (answer_for (λ (b : Block). b.kind) (at h n)) →
    (or_wrong dead_address (heap_list.at (view_heap t h) n) >>= reached) ≡ Wrong dead_address
none_seen t h n fault ok e = go (at h n) refl e
  where
    go : (o : Option Block) → at h n ≡ o → ◌≡◌ {A = Result Kind HeapFault} (Err fault) (answer_for (λ (b : Block). b.kind) o) →
        (or_wrong dead_address (heap_list.at (view_heap t h) n) >>= reached) ≡ Wrong dead_address
    go None there e = ap (λ o. or_wrong dead_address o >>= reached) (at_view t h n ok ∙ ap (option_map (λ b. view_shape t (shape_of b))) there)
    go (Some b) there e = absurd cc
