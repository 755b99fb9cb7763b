-- Items leave what is outside of the heap as it was.
use Rattle.std.proofs.Common.{◌≡◌, ℕ, ◌+◌, Bool, true, false, List, [], ◌∷◌, refl, sym, ap, ◌∙◌, if◌then◌else◌}
use Rattle.std.specs.Prelude.{◌==◌}
use Rattle.limbo_values.specs.declared.number.Kind.{Kind}
use Rattle.limbo_values.specs.declared.number.Kind.TheVariants.{Byte, Int, Big}
use Rattle.dis_file.specs.declared.object.Item.{Item}
use Rattle.dis_file.specs.declared.object.Object.{Object}
use Rattle.dis_meaning.specs.Words.{Word, Access, Found, Wrong, Raises, ◌>>=◌, word_at, reference}
use Rattle.dis_memory.specs.Blocks.{Block, Outer, World, block, with_changed, with_words}
use Rattle.dis_memory.specs.Kinds.{elements_at}
use Rattle.dis_memory.specs.Places.{data_at, with_data}
use Rattle.dis_memory.specs.Raising.{not_nil}
use Rattle.dis_counts.specs.Opening.{Into, Loading, array_of, byte_of, changed, element_of, fours, index_by, into_array, loading, numbers, out_of_array}
use Rattle.dis_counts.specs.Opening.{text_of, with_item, with_items, with_new, with_numbers, with_numbers_of}

abbrev Keeps : Outer → Access Loading → Type 0
Keeps o a = (l : Loading) → a ≡ Found l → l.world.outside ≡ o

keeps_on : {S : Type 0} (o : Outer) (a : Access S) (f : S → Access Loading) → ((s : S) → Keeps o (f s)) → Keeps o (a >>= f)
keeps_on o (Found s) f h = h s
keeps_on o (Wrong n) f h = λ l e. absurd cc
keeps_on o (Raises text) f h = λ l e. absurd cc

keeps_loading : (x : World) (here : Into) (back : List Into) → Keeps x.outside (Found (loading x here back))
keeps_loading x here back l e = let same : loading x here back ≡ l = cc in ap (λ (l : Loading). l.world.outside) (sym same)

keeps_wrong : (o : Outer) (n : ℕ) → Keeps o (Wrong n)
keeps_wrong o n l e = absurd cc

keeps_if : (o : Outer) (b : Bool) (a c : Access Loading) → Keeps o a → Keeps o c → Keeps o (if b then a else c)
keeps_if o true a c h k = h
keeps_if o false a c h k = k

keeps_changed : (l : Loading) (change : List Word → Access (List Word)) → Keeps l.world.outside (changed l change)
keeps_changed l change = go (data_at l.world l.here.serial >>= change)
  where
    go : (a : Access (List Word)) → Keeps l.world.outside (a >>= with_data l.world l.here.serial >>= λ y. Found (loading y l.here l.back))
    go (Found ws) = put (block l.world l.here.serial)
      where
        put : (a : Access Block) → Keeps l.world.outside (a >>= (λ b. Found (with_changed l.world l.here.serial (with_words ws b))) >>= λ y. Found (loading y l.here l.back))
        put (Found b) = keeps_loading (with_changed l.world l.here.serial (with_words ws b)) l.here l.back
        put (Wrong n) = keeps_wrong l.world.outside n
        put (Raises text) = λ l e. absurd cc
    go (Wrong n) = keeps_wrong l.world.outside n
    go (Raises text) = λ l e. absurd cc

keeps_numbers : (kind : Kind) (l : Loading) (offset : ℕ) (content : List ℕ) → Keeps l.world.outside (with_numbers_of kind l offset content)
keeps_numbers kind l offset content =
    keeps_on l.world.outside (numbers kind content) (λ zs. changed l (with_numbers kind (l.here.from + offset) zs)) (λ zs. keeps_changed l (with_numbers kind (l.here.from + offset) zs))

keeps_new : (l : Loading) (offset : ℕ) (b : Block) → Keeps l.world.outside (with_new l offset b)
keeps_new l offset b = keeps_changed (loading _ l.here l.back) _

keeps_into : (l : Loading) (offset : ℕ) (content : List ℕ) → Keeps l.world.outside (into_array l offset content)
keeps_into l offset content =
    keeps_on l.world.outside (fours content >>= index_by) _ (λ index.
    keeps_on l.world.outside (data_at l.world l.here.serial) _ (λ words.
    keeps_on l.world.outside
    (word_at words (byte_of l offset) >>= reference >>= elements_at l.world >>= not_nil >>= element_of index)
    (λ i. Found (loading l.world i (l.here ∷ l.back))) (λ i. keeps_loading l.world i (l.here ∷ l.back))))

keeps_out : (l : Loading) (back : List Into) → Keeps l.world.outside (out_of_array l back)
keeps_out l [] = λ m e. absurd cc
keeps_out l (i ∷ back) = keeps_loading l.world i back

keeps_item : (o : Object) (l : Loading) (i : Item) → Keeps l.world.outside (with_item o l i)
keeps_item o l i =
    let u = l.world.outside in
    keeps_if u (i.kind == 1) _ _ (keeps_numbers Byte l i.offset i.content)
    (keeps_if u (i.kind == 2) _ _ (keeps_numbers Int l i.offset i.content)
    (keeps_if u (i.kind == 3) _ _ (keeps_on u (text_of i.content) (with_new l i.offset) (keeps_new l i.offset))
    (keeps_if u (i.kind == 5) _ _ (keeps_on u (array_of o i.content) (with_new l i.offset) (keeps_new l i.offset))
    (keeps_if u (i.kind == 6) _ _ (keeps_into l i.offset i.content)
    (keeps_if u (i.kind == 7) _ _ (keeps_out l l.back)
    (keeps_if u (i.kind == 8) _ _ (keeps_numbers Big l i.offset i.content) (keeps_wrong u _)))))))

pub keeps_items : (o : Object) (is : List Item) (l m : Loading) → with_items o l is ≡ Found m → m.world.outside ≡ l.world.outside
keeps_items o [] l m e = let same : l ≡ m = cc in ap (λ (l : Loading). l.world.outside) (sym same)
keeps_items o (i ∷ is) l m e = go (with_item o l i) refl e (λ k. keeps_items o is k m)
  where
    go : (a : Access Loading) → with_item o l i ≡ a → (a >>= λ k. with_items o k is) ≡ Found m →
        ((k : Loading) → with_items o k is ≡ Found m → m.world.outside ≡ k.world.outside) → m.world.outside ≡ l.world.outside
    go (Found k) there e more = more k e ∙ keeps_item o l i k there
    go (Wrong n) there e more = absurd cc
    go (Raises text) there e more = absurd cc
