-- What a machine begins with: a block for the module's data, and at most one for each item of these.
use Rattle.std.proofs.Common.{◌≡◌, ℕ, zero, suc, ◌+◌, ℤ, Bool, true, false, List, [], ◌∷◌, length, refl, sym, subst, arith}
use Rattle.std.proofs.Common.{if◌then◌else◌}
use Rattle.std.specs.Prelude.{Some, ◌==◌, pos, nat_le, slice_get}
use Rattle.std.specs.Str.{chars, is_utf8}
use Rattle.process_model.specs.Naming.{total}
use Rattle.process_model.specs.Process.{Ready}
use Rattle.heap_model.specs.Heap.{at}
use Rattle.dis_file.specs.declared.object.Item.{Item}
use Rattle.dis_file.specs.declared.object.Object.{Object}
use Rattle.dis_file.specs.declared.types.TypeDesc.{TypeDesc}
use Rattle.limbo_values.specs.declared.number.Kind.{Kind}
use Rattle.limbo_values.specs.declared.number.Kind.TheVariants.{Byte, Int, Big}
use Rattle.dis_meaning.specs.Words.{Word, Refer, Access, Found, Wrong, Raises, ◌>>=◌, type_check, word_at, reference, stored, blank}
use Rattle.dis_meaning.specs.Numbers.{with_number_at}
use Rattle.dis_meaning.specs.Opening.{entered}
use Rattle.dis_memory.specs.Blocks.{Block, Text, Instance, World, with_block, next_serial, most_bytes, bytes_for, blank_array}
use Rattle.dis_memory.specs.Raising.{not_nil, large_text}
use Rattle.dis_memory.specs.Places.{data_at, with_data}
use Rattle.dis_memory.specs.Kinds.{elements_at}
use Rattle.dis_memory.specs.Operands.{type_of}
use Rattle.dis_memory.specs.Arrays.{new_array}
use Rattle.dis_memory.specs.Naming.{naming}
use Rattle.dis_memory.proofs.Growing.{both, found_same}
use Rattle.dis_memory.proofs.Reaching.{or_found}
use Rattle.dis_counts.specs.Counts.{begun}
use Rattle.dis_counts.specs.Opening.{Into, Loading, loading, byte_of, changed, width, numbers, with_numbers, with_numbers_of, with_new}
use Rattle.dis_counts.specs.Opening.{text_of, fours, array_by, array_of, index_by, element_of, into_array, out_of_array, with_item}
use Rattle.dis_counts.specs.Opening.{with_items, instance_of, Opened, opens, opened}
use Rattle.dis_limits.proofs.Lengths.{stored_long, number_long, blank_long, array_long}
use Rattle.dis_limits.proofs.Fitting.{Allows, BlockFits, HeapWithin, heap_on, heap_with, data_fits, data_kept}
use Rattle.dis_limits.proofs.Running.{Bounded, cut_within}

numbers_long : (kind : Kind) (from : ℕ) (zs : List ℤ) (ws us : List Word) → with_numbers kind from zs ws ≡ Found us
    → length us ≡ length ws
numbers_long kind from [] ws us e = let z : us ≡ ws = sym (found_same ws us e) in cc
numbers_long kind from (z ∷ zs) ws us e =
    let h = both (with_number_at kind ws (pos from) z) (with_numbers kind (from + width kind) zs) us e in
    let a = numbers_long kind (from + width kind) zs h.first us h.then in
    let b = number_long kind ws (pos from) z h.first h.is in omega arith

module _ (Fits : ℕ → Type 0) (o : Object) (a : Allows Fits o) where
  -- Where as many words are left as there were.
  changed_within : (n : ℕ) (l m : Loading) (change : List Word → Access (List Word)) → HeapWithin Fits n l.world.heap
      → ((ws us : List Word) → change ws ≡ Found us → length us ≡ length ws) → changed l change ≡ Found m
      → HeapWithin Fits n m.world.heap
  changed_within n l m change w long e =
      let h = both (data_at l.world l.here.serial >>= change >>= with_data l.world l.here.serial)
      (λ y. Found (loading y l.here l.back)) m e in
      let g = both (data_at l.world l.here.serial >>= change) (with_data l.world l.here.serial) h.first h.is in
      let f = both (data_at l.world l.here.serial) change g.first g.is in
      subst (λ (m : Loading). HeapWithin Fits n m.world.heap) (found_same _ m h.then)
      (data_kept Fits n l.world h.first l.here.serial g.first w
      (subst Fits (sym (long f.first g.first f.then)) (data_fits Fits n l.world l.here.serial f.first w f.is)) g.then)

  numbers_within : (n : ℕ) (kind : Kind) (l m : Loading) (offset : ℕ) (content : List ℕ) → HeapWithin Fits n l.world.heap
      → with_numbers_of kind l offset content ≡ Found m → HeapWithin Fits n m.world.heap
  numbers_within n kind l m offset content w e =
      let h = both (numbers kind content) (λ zs. changed l (with_numbers kind (l.here.from + offset) zs)) m e in
      changed_within n l m (with_numbers kind (l.here.from + offset) h.first) w
      (λ ws us f. numbers_long kind (l.here.from + offset) h.first ws us f) h.then

  new_within : (n : ℕ) (l m : Loading) (offset : ℕ) (b : Block) → HeapWithin Fits n l.world.heap → BlockFits Fits b
      → with_new l offset b ≡ Found m → HeapWithin Fits (suc n) m.world.heap
  new_within n l m offset b w fit e =
      changed_within (suc n) (loading (with_block l.world b) l.here l.back) m
      (λ words. stored words (byte_of l offset) (Refer (Some (next_serial l.world)))) (heap_with Fits n l.world b w fit)
      (λ ws us f. stored_long ws (byte_of l offset) (Refer (Some (next_serial l.world))) us f) e

  text_fits : (bytes : List ℕ) (b : Block) → text_of bytes ≡ Found b → BlockFits Fits b
  text_fits bytes b e = go (is_utf8 bytes) e
    where
      go : (t : Bool) → (if t then Found (Text (chars bytes)) else Wrong type_check) ≡ Found b → BlockFits Fits b
      go true e = subst (BlockFits Fits) (found_same _ b e) tt
      go false e = absurd cc

  array_fits : (ns : List ℕ) (b : Block) → array_by o ns ≡ Found b → BlockFits Fits b
  array_fits [] b e = absurd cc
  array_fits (t ∷ []) b e = absurd cc
  array_fits (t ∷ long ∷ k ∷ ks) b e = absurd cc
  array_fits (t ∷ long ∷ []) b e =
      let h = both (type_of o t) (λ element. new_array element (pos long)) b e in
      go h.first (nat_le (bytes_for h.first long) most_bytes) refl h.then
    where
      go : (element : TypeDesc) (s : Bool) → nat_le (bytes_for element long) most_bytes ≡ s
          → (if s then Found (blank_array element long) else Raises large_text) ≡ Found b → BlockFits Fits b
      go element true l e = subst (BlockFits Fits) (found_same _ b e) (a.less _ 67108864 (array_long element long l) a.array)
      go element false l e = absurd cc

  into_same : (n : ℕ) (l m : Loading) (offset : ℕ) (content : List ℕ) → HeapWithin Fits n l.world.heap
      → into_array l offset content ≡ Found m → HeapWithin Fits n m.world.heap
  into_same n l m offset content w e =
      let h = both (fours content >>= index_by) _ m e in
      let g = both (data_at l.world l.here.serial) _ m h.then in
      let f = both (word_at g.first (byte_of l offset) >>= reference >>= elements_at l.world >>= not_nil >>= element_of h.first)
      (λ i. Found (loading l.world i (l.here ∷ l.back))) m g.then in
      subst (λ (m : Loading). HeapWithin Fits n m.world.heap) (found_same _ m f.then) w

  out_same : (n : ℕ) (l m : Loading) (back : List Into) → HeapWithin Fits n l.world.heap → out_of_array l back ≡ Found m
      → HeapWithin Fits n m.world.heap
  out_same n l m [] w e = absurd cc
  out_same n l m (i ∷ back) w e = subst (λ (m : Loading). HeapWithin Fits n m.world.heap) (found_same _ m e) w

  item_within : (n : ℕ) (l m : Loading) (i : Item) → HeapWithin Fits n l.world.heap → with_item o l i ≡ Found m
      → HeapWithin Fits (suc n) m.world.heap
  item_within n l m i w e = kinds (i.kind == 1) (i.kind == 2) (i.kind == 3) (i.kind == 5) (i.kind == 6) (i.kind == 7) (i.kind == 8) e
    where
      same : HeapWithin Fits n m.world.heap → HeapWithin Fits (suc n) m.world.heap
      same v = heap_on Fits n (suc n) m.world.heap (omega arith) v

      kinds : (bytes words text array enter leave bigs : Bool)
          → (if bytes then with_numbers_of Byte l i.offset i.content
          else (if words then with_numbers_of Int l i.offset i.content
          else (if text then text_of i.content >>= with_new l i.offset
          else (if array then array_of o i.content >>= with_new l i.offset
          else (if enter then into_array l i.offset i.content
          else (if leave then out_of_array l l.back
          else (if bigs then with_numbers_of Big l i.offset i.content
          else Wrong type_check))))))) ≡ Found m → HeapWithin Fits (suc n) m.world.heap
      kinds true b c f g h k e = same (numbers_within n Byte l m i.offset i.content w e)
      kinds false true c f g h k e = same (numbers_within n Int l m i.offset i.content w e)
      kinds false false true f g h k e =
          let t = both (text_of i.content) (with_new l i.offset) m e in
          new_within n l m i.offset t.first w (text_fits i.content t.first t.is) t.then
      kinds false false false true g h k e =
          let t = both (array_of o i.content) (with_new l i.offset) m e in
          let s = both (fours i.content) (array_by o) t.first t.is in
          new_within n l m i.offset t.first w (array_fits s.first t.first s.then) t.then
      kinds false false false false true h k e = same (into_same n l m i.offset i.content w e)
      kinds false false false false false true k e = same (out_same n l m l.back w e)
      kinds false false false false false false true e = same (numbers_within n Big l m i.offset i.content w e)
      kinds false false false false false false false e = absurd cc

  items_within : (n : ℕ) (is : List Item) (l m : Loading) → HeapWithin Fits n l.world.heap → with_items o l is ≡ Found m
      → HeapWithin Fits (n + length is) m.world.heap
  items_within n [] l m w e =
      subst (λ (m : Loading). HeapWithin Fits (n + 0) m.world.heap) (found_same l m e) (heap_on Fits n (n + 0) l.world.heap (omega arith) w)
  items_within n (i ∷ is) l m w e =
      let h = both (with_item o l i) (λ k. with_items o k is) m e in
      heap_on Fits (suc n + length is) (n + suc (length is)) m.world.heap (omega arith)
      (items_within (suc n) is h.first m (item_within n l h.first i w h.is) h.then)

  blank_fits : (k : ℕ) (desc : TypeDesc) → type_of o k ≡ Found desc → Fits (length (blank desc))
  blank_fits k desc e = subst Fits (sym (blank_long desc)) (a.types k desc (or_found type_check (slice_get o.types k) desc e))

  instance_within : (type : TypeDesc) → Fits (length (blank type)) → HeapWithin Fits 1 (instance_of type).heap
  instance_within type fit = record { each = each; few = omega arith }
    where
      each : (k : ℕ) (b : Block) → at (Some (Instance 0 (blank type)) ∷ []) k ≡ Some b → BlockFits Fits b
      each zero b e = subst (BlockFits Fits) (let z : Instance 0 (blank type) ≡ b = cc in z) fit
      each (suc k) b e = absurd cc

  pub opening_bounded : (m : Opened) → opened o ≡ Found m → Bounded Fits (1 + length o.items) 1 (begun m)
  opening_bounded m e =
      let h = both (type_of o 0) _ m e in
      let g = both (type_of o o.entry_type) _ m h.then in
      let f = both (with_items o (loading (instance_of h.first) (record { serial = 0; from = 0 }) []) o.items)
      (λ l. Found (opens l.world (entered o (blank g.first)))) m g.then in
      let p = entered o (blank g.first) in
      let w = items_within 1 o.items (loading (instance_of h.first) (record { serial = 0; from = 0 }) []) f.first
      (instance_within h.first (blank_fits 0 h.first h.is)) f.is in
      subst (λ (m : Opened). Bounded Fits (1 + length o.items) 1 (begun m)) (found_same _ m f.then)
      (go f.first.world (blank g.first) (blank_fits o.entry_type g.first g.is) w)
    where
      go : (x : World) (ws : List Word) → Fits (length ws) → HeapWithin Fits (1 + length o.items) x.heap
          → Bounded Fits (1 + length o.items) 1 (begun (opens x (entered o ws)))
      go x ws fit w = record {
        heap = cut_within Fits (1 + length o.items) (total naming (Ready (entered o ws) ∷ [])) x.heap w;
        processes = (record { frame = fit; below = tt; made = tt; few = omega arith }, tt);
        frames = omega arith;
      }
