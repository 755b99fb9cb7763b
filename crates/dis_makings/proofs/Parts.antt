-- Parts of arrays, and arrays that are there.
use Rattle.std.proofs.Common.{◌≡◌, ℕ, ℤ, pos, negsuc, ◌≤◌, Bool, true, false, Option, Some, None, Result, Ok, Err, IfOk, IfSome, refl, sym, ap, ◌∙◌, subst, rules, if◌then◌else◌, ◌&&◌}
use Rattle.std.specs.Prelude.{nat_le}
use Rattle.std.specs.Option.{option_map}
use Rattle.limbo_values.specs.declared.raised.Raised.TheVariants.{ArrayBounds}
use Rattle.limbo_values.specs.Texts.{bounds_in}
use Rattle.ref_heap.specs.Store.{Block, IsHeap, IsLive, at}
use Rattle.heap_cuts.specs.Shapes.{shape_of}
use Rattle.dis_meaning.specs.Words.{Access, Found, Wrong, Raises, ◌>>=◌, dead_address, or_wrong}
use Rattle.dis_memory.specs.Blocks as blocks
use Rattle.dis_memory.specs.Blocks.{Record, Text, Array, Part, Cell, Channel, Instance, Sys}
use Rattle.dis_memory.specs.Kinds.{Elements, all_of, elements_at, elements_in, some_of}
use Rattle.dis_places.specs.declared.memory.Memory.{Memory}
use Rattle.dis_places.specs.Blocks.{view_shape}
use Rattle.dis_places.specs.View.{view_world}
use Rattle.dis_places.proofs.Heaps.{at_view}
use Rattle.dis_places.specs.declared.fault.Fault.{Fault}
use Rattle.dis_places.specs.Words.{GivesFault}
use Rattle.dis_kinds.specs.declared.arrays.Elements as code_elements
use Rattle.dis_kinds.specs.Views.{view_elements}

-- Bounds that are right rise, and end within.
pub record Within (count : ℕ) (b : ℕ × ℕ) : Type 0 where
  pub rises : b.0 ≤ b.1
  pub ends : b.1 ≤ count

pub bounds_within : (count : ℕ) (from to : ℤ) (b : ℕ × ℕ) → bounds_in count from to ≡ Ok b → Within count b
bounds_within count (pos from) (pos to) b e = go (nat_le from to) refl (nat_le to count) refl e
  where
    go : (p : Bool) → nat_le from to ≡ p → (q : Bool) → nat_le to count ≡ q → (if p && q then Ok (from, to) else Err ArrayBounds) ≡ Ok b → Within count b
    go true is true ends e =
        let same : (from, to) ≡ b = cc in
        let rises : from ≤ to = search rules in
        let within : to ≤ count = search rules in
        subst (Within count) same (record { rises = rises; ends = within })
    go true is false ends e = absurd cc
    go false is q ends e = absurd cc
bounds_within count (pos from) (negsuc to) b e = absurd cc
bounds_within count (negsuc from) to b e = absurd cc

-- ---- arrays that are there

block_live : (m : Memory) (n : ℕ) (b : blocks.Block) → IsHeap m.heap → blocks.block (view_world m) n ≡ Found b → IsLive m.heap n
block_live m n b ok e = go (at m.heap n) refl (sym (ap (or_wrong dead_address) (at_view m.tables m.heap n ok)) ∙ e)
  where
    go : (o : Option Block) → at m.heap n ≡ o → or_wrong dead_address (option_map (λ b. view_shape m.tables (shape_of b)) (at m.heap n)) ≡ Found b → IsLive m.heap n
    go None is e =
        let a : Wrong dead_address ≡ Found b = sym (ap (λ o. or_wrong dead_address (option_map (λ b. view_shape m.tables (shape_of b)) o)) is) ∙ e in absurd cc
    go (Some b) is e = record { block = b; live = is }

-- All elements of an array are its own.
whole_own : (n : ℕ) (b : blocks.Block) (e : Elements) → all_of n b ≡ Found e → e.array ≡ n
whole_own n (Record words) e h = absurd cc
whole_own n (Text chars) e h = absurd cc
whole_own n (Array element long words) e h =
    let same : record { array = n; element = element; start = 0; long = long; words = words } ≡ e = cc in sym (ap (λ (e : Elements). e.array) same)
whole_own n (Part array start long) e h = absurd cc
whole_own n (Cell element rest) e h = absurd cc
whole_own n (Channel element) e h = absurd cc
whole_own n (Instance object words) e h = absurd cc
whole_own n (Sys names) e h = absurd cc

module _ (m : Memory) (ok : IsHeap m.heap) where
  whole_live : (n : ℕ) (b : blocks.Block) (e : Elements) → blocks.block (view_world m) n ≡ Found b → all_of n b ≡ Found e → IsLive m.heap e.array
  whole_live n b e there h = let same = whole_own n b e h in subst (IsLive m.heap) (sym same) (block_live m n b ok there)

  part_live : (a start long : ℕ) (e : Elements) → (blocks.block (view_world m) a >>= all_of a >>= λ e. Found (some_of start long e)) ≡ Found e → IsLive m.heap e.array
  part_live a start long e h = go (blocks.block (view_world m) a) refl h
    where
      with_all : (b : blocks.Block) → blocks.block (view_world m) a ≡ Found b → (w : Access Elements) → all_of a b ≡ w →
          (w >>= λ e. Found (some_of start long e)) ≡ Found e → IsLive m.heap e.array
      with_all b there (Found w) is h =
          let same : some_of start long w ≡ e = cc in subst (λ (e : Elements). IsLive m.heap e.array) same (whole_live a b w there is)
      with_all b there (Wrong k) is h = absurd cc
      with_all b there (Raises text) is h = absurd cc

      go : (b : Access blocks.Block) → blocks.block (view_world m) a ≡ b → (b >>= all_of a >>= λ e. Found (some_of start long e)) ≡ Found e → IsLive m.heap e.array
      go (Found b) there h = with_all b there (all_of a b) refl h
      go (Wrong k) there h = absurd cc
      go (Raises text) there h = absurd cc

  in_live : (n : ℕ) (b : blocks.Block) (e : Elements) → blocks.block (view_world m) n ≡ Found b → elements_in (view_world m) n b ≡ Found e → IsLive m.heap e.array
  in_live n (Record words) e there h = absurd cc
  in_live n (Text chars) e there h = absurd cc
  in_live n (Array element long words) e there h = whole_live n (Array element long words) e there h
  in_live n (Part array start long) e there h = part_live array start long e h
  in_live n (Cell element rest) e there h = absurd cc
  in_live n (Channel element) e there h = absurd cc
  in_live n (Instance object words) e there h = absurd cc
  in_live n (Sys names) e there h = absurd cc

  some_live : (n : ℕ) (e : Elements) → elements_at (view_world m) (Some n) ≡ Found (Some e) → IsLive m.heap e.array
  some_live n e h = go (blocks.block (view_world m) n) refl h
    where
      with_in : (b : blocks.Block) → blocks.block (view_world m) n ≡ Found b → (w : Access Elements) → elements_in (view_world m) n b ≡ w →
          (w >>= λ e. Found (Some e)) ≡ Found (Some e) → IsLive m.heap e.array
      with_in b there (Found w) is h = let same : w ≡ e = cc in in_live n b e there (is ∙ ap Found same)
      with_in b there (Wrong k) is h = absurd cc
      with_in b there (Raises text) is h = absurd cc

      go : (b : Access blocks.Block) → blocks.block (view_world m) n ≡ b → (b >>= elements_in (view_world m) n >>= λ e. Found (Some e)) ≡ Found (Some e) → IsLive m.heap e.array
      go (Found b) there h = with_in b there (elements_in (view_world m) n b) refl h
      go (Wrong k) there h = absurd cc
      go (Raises text) there h = absurd cc

  -- The array of elements that a reference leads to.
  pub elements_live : (r : Option ℕ) (e : Elements) → elements_at (view_world m) r ≡ Found (Some e) → IsLive m.heap e.array
  elements_live None e h = absurd cc
  elements_live (Some n) e h = some_live n e h

pub found_live : (m : Memory) → IsHeap m.heap → (n : Option ℕ) (r : Result (Option code_elements.Elements) Fault) →
    GivesFault (option_map (view_elements m)) r (elements_at (view_world m) n) → IfOk r (λ o. IfSome o (λ e. IsLive m.heap e.array.serial))
found_live m ok n (Ok (Some e)) g = elements_live m ok n (view_elements m e) g
found_live m ok n (Ok None) g = tt
found_live m ok n (Err f) g = tt
