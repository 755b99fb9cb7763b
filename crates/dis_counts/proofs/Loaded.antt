-- Where items are put in, no reference comes to name a block that isn't there.
use Rattle.std.proofs.Common.{◌≡◌, ℕ, zero, suc, ◌+◌, ℤ, Bool, true, false, List, [], ◌∷◌, ◌⊎◌, inl, inr, refl, sym, subst, if◌then◌else◌}
use Rattle.std.specs.Prelude.{Some, ◌==◌, pos, nat_le}
use Rattle.std.specs.Str.{chars, is_utf8}
use Rattle.heap_model.specs.Heap.{at}
use Rattle.dis_file.specs.declared.object.Item.{Item}
use Rattle.dis_file.specs.declared.object.Object.{Object}
use Rattle.dis_file.specs.declared.types.TypeDesc.{TypeDesc}
use Rattle.limbo_values.specs.declared.number.Kind.{Kind}
use Rattle.limbo_values.specs.declared.number.Kind.TheVariants.{Byte, Int, Big}
use Rattle.dis_meaning.specs.Words.{InBlock, Word, Refer, Access, Found, Wrong, Raises, ◌>>=◌, type_check, word_at, reference, stored}
use Rattle.dis_meaning.specs.Words.{blank}
use Rattle.dis_meaning.specs.Numbers.{with_number_at}
use Rattle.dis_meaning.specs.Opening.{entered}
use Rattle.dis_meaning.specs.Places.{Far, all_frames}
use Rattle.dis_meaning.specs.Process.{Process}
use Rattle.dis_memory.specs.Blocks as blocks
use Rattle.dis_memory.specs.Blocks.{Block, Text, Instance, World, with_block, next_serial, most_bytes, bytes_for, blank_array}
use Rattle.dis_memory.specs.Raising.{not_nil, large_text}
use Rattle.dis_memory.specs.Places.{data_at, with_data}
use Rattle.dis_memory.specs.Kinds.{elements_at}
use Rattle.dis_memory.specs.Operands.{type_of}
use Rattle.dis_memory.specs.Arrays.{new_array}
use Rattle.dis_memory.specs.Sound.{IsThere, Refers, SomeRefers, FramesRefer, NothingDangles}
use Rattle.dis_memory.proofs.Growing.{both, found_same}
use Rattle.dis_memory.proofs.Sound.{words_sound, number_refers, stored_refers, blank_refers, array_refers, data_kept, block_kept, new_there}
use Rattle.dis_counts.specs.Opening.{Into, Loading, loading, byte_of, changed, width, numbers, with_numbers, with_numbers_of, with_new}
use Rattle.dis_counts.specs.Opening.{text_of}
use Rattle.dis_counts.specs.Opening.{fours, array_by, array_of, index_by, element_of, into_array, out_of_array, with_item, with_items}
use Rattle.dis_counts.specs.Opening.{instance_of}

-- Numbers refer to nothing.
numbers_refer : (kind : Kind) (from : ℕ) (zs : List ℤ) (ws us : List Word) (n : ℕ) → with_numbers kind from zs ws ≡ Found us
    → SomeRefers us n → SomeRefers ws n
numbers_refer kind from [] ws us n e r = subst (λ u. SomeRefers u n) (sym (found_same ws us e)) r
numbers_refer kind from (z ∷ zs) ws us n e r =
    let h = both (with_number_at kind ws (pos from) z) (with_numbers kind (from + width kind) zs) us e in
    number_refers kind ws (pos from) z h.first n h.is (numbers_refer kind (from + width kind) zs h.first us n h.then r)

module _ (p : Process) where
  abbrev Fine : Loading → Type 0
  Fine l = NothingDangles l.world p

  -- Where words are changed so that they refer to nothing that isn't there.
  changed_fine : (l m : Loading) (change : List Word → Access (List Word)) → Fine l
      → ((ws us : List Word) → data_at l.world l.here.serial ≡ Found ws → change ws ≡ Found us →
      (n : ℕ) → SomeRefers us n → IsThere l.world n)
      → changed l change ≡ Found m → Fine m
  changed_fine l m change d new e =
      let h = both (data_at l.world l.here.serial >>= change >>= with_data l.world l.here.serial)
      (λ y. Found (loading y l.here l.back)) m e in
      let g = both (data_at l.world l.here.serial >>= change) (with_data l.world l.here.serial) h.first h.is in
      let f = both (data_at l.world l.here.serial) change g.first g.is in
      subst Fine (found_same _ m h.then) (data_kept l.world p d h.first l.here.serial g.first (new f.first g.first f.is f.then) g.then)

  words_there : (l : Loading) → Fine l → (ws : List Word) (n : ℕ) → data_at l.world l.here.serial ≡ Found ws → SomeRefers ws n
      → IsThere l.world n
  words_there l d ws n e r = words_sound l.world p d (Far (InBlock l.here.serial) (pos 0)) ws n e r

  numbers_fine : (kind : Kind) (l m : Loading) (offset : ℕ) (content : List ℕ) → Fine l → with_numbers_of kind l offset content ≡ Found m
      → Fine m
  numbers_fine kind l m offset content d e =
      let h = both (numbers kind content) (λ zs. changed l (with_numbers kind (l.here.from + offset) zs)) m e in
      changed_fine l m (with_numbers kind (l.here.from + offset) h.first) d
      (λ ws us a b n r. words_there l d ws n a (numbers_refer kind (l.here.from + offset) h.first ws us n b r)) h.then

  -- A new block that refers to nothing.
  new_fine : (l m : Loading) (offset : ℕ) (b : Block) → Fine l → ((n : ℕ) → SomeRefers (blocks.words_in b) n → ⊥)
      → with_new l offset b ≡ Found m → Fine m
  new_fine l m offset b d none e =
      let f : NothingDangles (with_block l.world b) p = block_kept l.world p b d (λ n r. absurd (none n r)) in
      changed_fine (loading (with_block l.world b) l.here l.back) m
      (λ words. stored words (byte_of l offset) (Refer (Some (next_serial l.world)))) f
      (λ ws us a s n r. go f ws a n (stored_refers ws (byte_of l offset) (Refer (Some (next_serial l.world))) us n s r)) e
    where
      go : NothingDangles (with_block l.world b) p → (ws : List Word) → data_at (with_block l.world b) l.here.serial ≡ Found ws → (n : ℕ)
          → SomeRefers ws n ⊎ Refers (Refer (Some (next_serial l.world))) n → IsThere (with_block l.world b) n
      go f ws a n (inl r) = words_there (loading (with_block l.world b) l.here l.back) f ws n a r
      go f ws a n (inr r) = subst (IsThere (with_block l.world b)) (let z : next_serial l.world ≡ n = cc in z) (new_there l.world b)

  text_none : (bytes : List ℕ) (b : Block) → text_of bytes ≡ Found b → (n : ℕ) → SomeRefers (blocks.words_in b) n → ⊥
  text_none bytes b e n r = go (is_utf8 bytes) e
    where
      go : (t : Bool) → (if t then Found (Text (chars bytes)) else Wrong type_check) ≡ Found b → ⊥
      go true e = subst (λ u. SomeRefers (blocks.words_in u) n) (sym (found_same _ b e)) r
      go false e = absurd cc

  array_none : (o : Object) (ns : List ℕ) (b : Block) → array_by o ns ≡ Found b → (n : ℕ) → SomeRefers (blocks.words_in b) n → ⊥
  array_none o [] b e n r = absurd cc
  array_none o (t ∷ []) b e n r = absurd cc
  array_none o (t ∷ long ∷ k ∷ ks) b e n r = absurd cc
  array_none o (t ∷ long ∷ []) b e n r =
      let h = both (type_of o t) (λ element. new_array element (pos long)) b e in
      go h.first (nat_le (bytes_for h.first long) most_bytes) h.then
    where
      go : (element : TypeDesc) (s : Bool) → (if s then Found (blank_array element long) else Raises large_text) ≡ Found b → ⊥
      go element true e = array_refers element long n (subst (λ u. SomeRefers (blocks.words_in u) n) (sym (found_same _ b e)) r)
      go element false e = absurd cc

  into_fine : (l m : Loading) (offset : ℕ) (content : List ℕ) → Fine l → into_array l offset content ≡ Found m → Fine m
  into_fine l m offset content d e =
      let h = both (fours content >>= index_by) _ m e in
      let g = both (data_at l.world l.here.serial) _ m h.then in
      let f = both (word_at g.first (byte_of l offset) >>= reference >>= elements_at l.world >>= not_nil >>= element_of h.first)
      (λ i. Found (loading l.world i (l.here ∷ l.back))) m g.then in
      subst Fine (found_same _ m f.then) d

  out_fine : (l m : Loading) (back : List Into) → Fine l → out_of_array l back ≡ Found m → Fine m
  out_fine l m [] d e = absurd cc
  out_fine l m (i ∷ back) d e = subst Fine (found_same _ m e) d

  item_fine : (o : Object) (l m : Loading) (i : Item) → Fine l → with_item o l i ≡ Found m → Fine m
  item_fine o l m i d e = kinds (i.kind == 1) (i.kind == 2) (i.kind == 3) (i.kind == 5) (i.kind == 6) (i.kind == 7) (i.kind == 8) e
    where
      kinds : (bytes words text array enter leave bigs : Bool)
          → (if bytes then with_numbers_of Byte l i.offset i.content
          else (if words then with_numbers_of Int l i.offset i.content
          else (if text then text_of i.content >>= with_new l i.offset
          else (if array then array_of o i.content >>= with_new l i.offset
          else (if enter then into_array l i.offset i.content
          else (if leave then out_of_array l l.back
          else (if bigs then with_numbers_of Big l i.offset i.content
          else Wrong type_check))))))) ≡ Found m → Fine m
      kinds true b c f g h k e = numbers_fine Byte l m i.offset i.content d e
      kinds false true c f g h k e = numbers_fine Int l m i.offset i.content d e
      kinds false false true f g h k e =
          let t = both (text_of i.content) (with_new l i.offset) m e in new_fine l m i.offset t.first d
          (text_none i.content t.first t.is) t.then
      kinds false false false true g h k e =
          let t = both (array_of o i.content) (with_new l i.offset) m e in
          let s = both (fours i.content) (array_by o) t.first t.is in
          new_fine l m i.offset t.first d (array_none o s.first t.first s.then) t.then
      kinds false false false false true h k e = into_fine l m i.offset i.content d e
      kinds false false false false false true k e = out_fine l m l.back d e
      kinds false false false false false false true e = numbers_fine Big l m i.offset i.content d e
      kinds false false false false false false false e = absurd cc

  pub items_fine : (o : Object) (is : List Item) (l m : Loading) → Fine l → with_items o l is ≡ Found m → Fine m
  items_fine o [] l m d e = subst Fine (found_same l m e) d
  items_fine o (i ∷ is) l m d e =
      let h = both (with_item o l i) (λ k. with_items o k is) m e in items_fine o is h.first m (item_fine o l h.first i d h.is) h.then

-- The opening before any item.
pub instance_fine : (o : Object) (type frame_type : TypeDesc) → NothingDangles (instance_of type) (entered o (blank frame_type))
instance_fine o type frame_type = record { heap = heap; process = process }
  where
    heap : (m n : ℕ) (b : Block) → at (Some (Instance 0 (blank type)) ∷ []) m ≡ Some b → SomeRefers (blocks.words_in b) n
        → IsThere (instance_of type) n
    heap zero n b e r =
        absurd (blank_refers type n (subst (λ u. SomeRefers (blocks.words_in u) n) (let z : b ≡ Instance 0 (blank type) = cc in z) r))
    heap (suc m) n b e r = absurd cc

    process : (n : ℕ) → FramesRefer (all_frames (entered o (blank frame_type))) n → IsThere (instance_of type) n
    process n (inl (inl r)) = subst (IsThere (instance_of type)) r (Instance 0 (blank type), refl)
    process n (inl (inr r)) = absurd (blank_refers frame_type n r)
    process n (inr r) = absurd r
