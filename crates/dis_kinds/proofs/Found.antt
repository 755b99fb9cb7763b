-- Elements of arrays and of parts of them.
use Rattle.std.proofs.Common.{◌≡◌, ℕ, Option, Some, None, Result, Ok, Err, IfOk, refl, sym, ap, ◌∙◌, subst}
use Rattle.std.specs.Prelude.{unwrap_or}
use Rattle.ref_heap.specs.declared.word.Ref.{Ref}
use Rattle.ref_heap.specs.declared.kind.Kind.{Kind}
use Rattle.ref_heap.specs.declared.kind.Kind.TheVariants as kind
use Rattle.ref_heap.specs.Words.{Content}
use Rattle.ref_heap.specs.Store.{at}
use Rattle.dis_meaning.specs.Words.{Access, Found, ◌>>=◌}
use Rattle.dis_memory.specs.Blocks.{Block, World, block}
use Rattle.dis_memory.specs.Kinds as meaning
use Rattle.dis_places.specs.declared.fault.Fault.{Fault}
use Rattle.dis_places.specs.declared.memory.Memory.{Memory}
use Rattle.dis_places.specs.declared.memory.Tables.{Tables}
use Rattle.dis_places.specs.Blocks.{block_by, words_of}
use Rattle.dis_places.specs.Regions.{block_words}
use Rattle.dis_places.specs.View.{view_world}
use Rattle.dis_places.specs.Words.{GivesFault}
use Rattle.dis_kinds.specs.declared.arrays.Elements.{Elements}
use Rattle.dis_kinds.specs.Views.{elements_by, named_elements, view_elements}
use Rattle.dis_kinds.proofs.Heaps.{There}

-- The words are those of the array.
pub by_heap : (m : Memory) (a : Ref) (r : Result Elements Fault) (k : Kind) (h : There m a.serial k) (access : Access meaning.Elements) → IfOk r (λ e. e.array ≡ a) →
    GivesFault (elements_by m.tables (words_of h.live.content)) r access → GivesFault (view_elements m) r access
by_heap m a (Ok e) k h access same gives =
    gives ∙ ap (λ ws. Found (elements_by m.tables ws e)) (sym (ap (λ (a : Ref). block_words (at m.heap a.serial)) same ∙ ap block_words h.here))
by_heap m a (Err f) k h access same gives = gives

-- What is found in a block is found at its serial.
pub at_serial : (m : Memory) (a : Ref) (r : Result Elements Fault) (k : Kind) (h : There m a.serial k) (f : Block → Access meaning.Elements) → IfOk r (λ e. e.array ≡ a) →
    GivesFault (elements_by m.tables (words_of h.live.content)) r (f (block_by m.tables k h.live.content)) → GivesFault (view_elements m) r (block (view_world m) a.serial >>= f)
at_serial m a r k h f same gives = subst (λ b. GivesFault (view_elements m) r (b >>= f)) (sym h.is) (by_heap m a r k h (f (block_by m.tables k h.live.content)) same gives)

-- The array that a part refers to.
pub named_is : (x : World) (o : Option ℕ) (a : ℕ) → o ≡ Some a → named_elements x o ≡ (block x (unwrap_or o 0) >>= meaning.all_of (unwrap_or o 0))
named_is x None a e = absurd cc
named_is x (Some n) a e = refl

-- A block that is no part of an array is one itself, if it has elements.
pub no_part : (t : Tables) (x : World) (n : ℕ) (k : Kind) (c : Content) → ((f l : ℕ) → k ≡ kind.Slice f l → ⊥) →
    meaning.elements_in x n (block_by t k c) ≡ meaning.all_of n (block_by t k c)
no_part t x n (kind.Slice from long) c f = absurd (f from long refl)
no_part t x n _ c f = refl
