-- Blocks of a memory, by their serials.
use Rattle.std.proofs.Common.{◌≡◌, ℕ, true, List, [], ◌∷◌, Option, Some, None, Result, Ok, Err, refl, sym, ap, ◌∙◌}
use Rattle.std.specs.Option.{option_map}
use Rattle.ref_heap.specs.declared.kind.Kind.{Kind}
use Rattle.ref_heap.specs.declared.kind.HeapFault.{HeapFault}
use Rattle.ref_heap.specs.Words.{Cell, Content, wide, compact, refer, numbers_in}
use Rattle.ref_heap.specs.Answers.{answer_for}
use Rattle.ref_heap.specs.Store as store
use Rattle.ref_heap.specs.Store.{IsHeap, at}
use Rattle.heap_cuts.specs.Shapes.{shape_of}
use Rattle.dis_meaning.specs.Words.{Found, Wrong, or_wrong, dead_address}
use Rattle.dis_memory.specs.Blocks.{block}
use Rattle.dis_places.specs.declared.memory.Memory.{Memory}
use Rattle.dis_places.specs.Blocks.{block_by, view_shape, is_proper, numbers_of, is_compact, refers_on, first_name}
use Rattle.dis_places.specs.View.{view_world}
use Rattle.dis_places.proofs.Heaps.{at_view}

module _ (m : Memory) (n : ℕ) where
  -- The block of a serial is that of the heap.
  pub block_seen : IsHeap m.heap → block (view_world m) n ≡ or_wrong dead_address (option_map (λ b. view_shape m.tables (shape_of b)) (at m.heap n))
  block_seen ok = ap (or_wrong dead_address) (at_view m.tables m.heap n ok)

  -- A block of this kind is there, which holds what its kind says.
  pub record There (kind : Kind) : Type 0 where
    pub live : store.Block
    pub here : at m.heap n ≡ Some live
    pub is : block (view_world m) n ≡ Found (block_by m.tables kind live.content)
    pub proper : is_proper kind live.content ≡ true

  pub there : (kind : Kind) → IsHeap m.heap → ◌≡◌ {A = Result Kind HeapFault} (Ok kind) (answer_for (λ (b : store.Block). b.kind) (at m.heap n)) → There kind
  there kind ok e = go (at m.heap n) refl e
    where
      go : (o : Option store.Block) → at m.heap n ≡ o → ◌≡◌ {A = Result Kind HeapFault} (Ok kind) (answer_for (λ (b : store.Block). b.kind) o) → There kind
      go None h e = absurd cc
      go (Some b) h e =
          let same : b.kind ≡ kind = cc in
          record {
            live = b;
            here = h;
            is =
                block_seen ok ∙ ap (λ o. or_wrong dead_address (option_map (λ b. view_shape m.tables (shape_of b)) o)) h
                ∙ ap (λ k. Found (block_by m.tables k b.content)) same;
            proper = ap (λ k. is_proper k b.content) (sym same) ∙ m.proper n b h;
          }

  -- None is there.
  pub gone : (fault : HeapFault) → IsHeap m.heap → ◌≡◌ {A = Result Kind HeapFault} (Err fault) (answer_for (λ (b : store.Block). b.kind) (at m.heap n)) →
      block (view_world m) n ≡ Wrong dead_address
  gone fault ok e = go (at m.heap n) refl e
    where
      go : (o : Option store.Block) → at m.heap n ≡ o → ◌≡◌ {A = Result Kind HeapFault} (Err fault) (answer_for (λ (b : store.Block). b.kind) o) →
          block (view_world m) n ≡ Wrong dead_address
      go None h e = block_seen ok ∙ ap (λ o. or_wrong dead_address (option_map (λ b. view_shape m.tables (shape_of b)) o)) h
      go (Some b) h e = absurd cc

-- The numbers of a compact block are those of a string.
pub numbers_seen : (c : Content) (ns : List ℕ) → Some ns ≡ numbers_in c → numbers_of c ≡ ns
numbers_seen (wide words) ns e = absurd cc
numbers_seen (compact numbers) ns e = cc

pub no_numbers : (c : Content) → is_compact c ≡ true → ◌≡◌ {A = Option (List ℕ)} None (numbers_in c) → ⊥
no_numbers (wide words) e n = absurd cc
no_numbers (compact numbers) e n = absurd cc

-- One word that refers to a block names one.
pub named : (cs : List Cell) → refers_on cs ≡ true → (a : ℕ) × (first_name cs ≡ Some a)
named (refer (Some n) ∷ []) e = (n, refl)
named _ e = absurd cc
