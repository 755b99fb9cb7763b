-- The machine of numbers begins as the machine with memory does: item by item.
use Rattle.std.proofs.Common.{◌≡◌, ℕ, suc, ◌+◌, Bool, true, false, List, [], ◌∷◌, ◌++◌, length, refl, sym, ap, subst, ◌∙◌, if◌then◌else◌}
use Rattle.std.proofs.Math.Nat.{zero-add}
use Rattle.std.proofs.lemmas.Bool.{eqb-true}
use Rattle.std.proofs.lemmas.List.{length-map, map-append}
use Rattle.std.specs.Prelude.{Option, Some, None, ◌==◌, map, pos, slice_get}
use Rattle.std.specs.Int.{w32, cast_signed, from_be_bytes}
use Rattle.std.specs.Str.{chars, is_utf8}
use Rattle.inf_text.specs.Options as options
use Rattle.heap_model.specs.Heap.{Heap}
use Rattle.limbo_values.specs.declared.number.Kind.TheVariants.{Byte, Int, Big}
use Rattle.system_model.specs.World.{opening_world}
use Rattle.dis_file.specs.declared.object.Item.{Item}
use Rattle.dis_file.specs.declared.object.Object.{Object}
use Rattle.dis_meaning.specs.Words.{Word, Plain, Refer, Access, Found, Wrong, Raises, ◌>>=◌, type_check, or_wrong, stored, blank}
use Rattle.dis_meaning.specs.World as today
use Rattle.dis_meaning.specs.Opening as beginning
use Rattle.dis_memory.specs.Blocks.{Block, Text, Instance}
use Rattle.dis_memory.specs.Operands.{type_of}
use Rattle.dis_counts.specs.Alike.{block_of, world_of, BeginsAlike}
use Rattle.dis_counts.specs.Opening.{Loading, loading, changed, fours, numbers, with_numbers, with_numbers_of, with_new, text_of, array_of}
use Rattle.dis_counts.specs.Opening.{into_array, out_of_array, with_item, with_items, opens, opened}

-- ---- what is there

record Both {S T : Type 0} (a : Option S) (f : S → Option T) (t : T) : Type 0 where
  first : S
  is : a ≡ Some first
  next : f first ≡ Some t

both : {S T : Type 0} (a : Option S) (f : S → Option T) (t : T) → options.◌>>=◌ a f ≡ Some t → Both a f t
both (Some s) f t e = record { first = s; is = refl; next = e }
both None f t e = absurd cc

found : {T : Type 0} (a : Access T) (t : T) → beginning.if_found a ≡ Some t → a ≡ Found t
found (Found s) t e = let z : s ≡ t = cc in ap Found z
found (Wrong n) t e = absurd cc
found (Raises text) t e = absurd cc

some_same : {T : Type 0} (s t : T) → Some s ≡ Some t → s ≡ t
some_same s t e = cc

-- What is found goes on.
on_found : {S T : Type 0} (a : Access S) (f : S → Access T) (s : S) (t : T) → a ≡ Found s → f s ≡ Found t → a >>= f ≡ Found t
on_found a f s t e g = ap (λ v. v >>= f) e ∙ g

-- ---- items

-- Items go into the data of the instance, behind whose block those of the strings stand.
abbrev at_start : Heap Block → Loading
at_start h = loading (record { heap = h; outside = record { frames = 1; outside = opening_world } }) (record { serial = 0; from = 0 }) []

abbrev strings_of : List today.Content → Heap Block
strings_of texts = map (λ c. Some (block_of c)) texts

abbrev loading_of : beginning.Data → Loading
loading_of d = at_start (Some (Instance 0 d.words) ∷ strings_of d.texts)

-- A change of the words is one of the instance's data.
changes : (words after : List Word) (rest : Heap Block) (change : List Word → Access (List Word)) → change words ≡ Found after
    → changed (at_start (Some (Instance 0 words) ∷ rest)) change ≡ Found (at_start (Some (Instance 0 after) ∷ rest))
changes words after rest change e = rw e refl

record Numbers (words after : List Word) (from : ℕ) (content : List ℕ) : Type 0 where
  list : List ℕ
  read : fours content ≡ Found list
  put : with_numbers Int from (map (cast_signed w32) list) words ≡ Found after

numbers_alike : (words after : List Word) (from : ℕ) (content : List ℕ) → beginning.with_numbers words from content ≡ Some after
    → Numbers words after from content
numbers_alike words after from [] e = record { list = []; read = refl; put = ap Found (some_same words after e) }
numbers_alike words after from (a ∷ []) e = absurd cc
numbers_alike words after from (a ∷ b ∷ []) e = absurd cc
numbers_alike words after from (a ∷ b ∷ c ∷ []) e = absurd cc
numbers_alike words after from (a ∷ b ∷ c ∷ d ∷ bytes) e =
    let n = from_be_bytes w32 (a ∷ b ∷ c ∷ d ∷ []) in
    let h = both (beginning.if_found (stored words (pos from) (Plain (cast_signed w32 n))))
    (λ w. beginning.with_numbers w (from + 4) bytes) after e in
    let g = numbers_alike h.first after (from + 4) bytes h.next in
    let f = found (stored words (pos from) (Plain (cast_signed w32 n))) h.first h.is in
    record {
      list = n ∷ g.list;
      read = on_found (fours bytes) (λ ns. Found (n ∷ ns)) g.list (n ∷ g.list) g.read refl;
      put =
          on_found (stored words (pos from) (Plain (cast_signed w32 n)))
          (with_numbers Int (from + 4) (map (cast_signed w32) g.list)) h.first
          after f g.put;
    }

words_alike : (o : Object) (d : beginning.Data) (i : Item) (e : beginning.Data)
    → options.◌>>=◌ (beginning.with_numbers d.words i.offset i.content) (λ words. Some (record { words = words; texts = d.texts })) ≡ Some e
    → with_numbers_of Int (loading_of d) i.offset i.content ≡ Found (loading_of e)
words_alike o d i e f =
    let h = both (beginning.with_numbers d.words i.offset i.content) (λ words. Some (record { words = words; texts = d.texts })) e f in
    let g = numbers_alike d.words h.first i.offset i.content h.is in
    let same : record { words = h.first; texts = d.texts } ≡ e = some_same _ e h.next in
    subst (λ e. with_numbers_of Int (loading_of d) i.offset i.content ≡ Found (loading_of e)) same
    (on_found (numbers Int i.content) (λ zs. changed (loading_of d) (with_numbers Int (0 + i.offset) zs)) (map (cast_signed w32) g.list) _
    (on_found (fours i.content) (λ ns. Found (map (cast_signed w32) ns)) g.list _ g.read refl)
    (changes d.words h.first (strings_of d.texts) (with_numbers Int (0 + i.offset) (map (cast_signed w32) g.list))
    (ap (λ k. with_numbers Int k (map (cast_signed w32) g.list) d.words) (zero-add i.offset) ∙ g.put)))

text_alike : (d : beginning.Data) (offset : ℕ) (text : List ℕ) (e : beginning.Data) → beginning.with_text d offset text ≡ Some e
    → with_new (loading_of d) offset (Text text) ≡ Found (loading_of e)
text_alike d offset text e f =
    let h = both (beginning.if_found (stored d.words (pos offset) (Refer (Some (suc (length d.texts)))))) _ e f in
    let g = found (stored d.words (pos offset) (Refer (Some (suc (length d.texts))))) h.first h.is in
    let same : record { words = h.first; texts = d.texts ++ today.Text text ∷ [] } ≡ e = some_same _ e h.next in
    let long : length (strings_of d.texts) ≡ length d.texts = length-map d.texts (λ c. Some (block_of c)) in
    let put : stored d.words (pos (0 + offset)) (Refer (Some (suc (length (strings_of d.texts))))) ≡ Found h.first =
    ap (λ k. stored d.words (pos k) (Refer (Some (suc (length (strings_of d.texts)))))) (zero-add offset)
    ∙ (ap (λ k. stored d.words (pos offset) (Refer (Some (suc k)))) long ∙ g) in
    subst (λ e. with_new (loading_of d) offset (Text text) ≡ Found (loading_of e)) same
    (changes d.words h.first (strings_of d.texts ++ Some (Text text) ∷ [])
    (λ words. stored words (pos (0 + offset)) (Refer (Some (suc (length (strings_of d.texts)))))) put
    ∙ ap (λ rest. Found (at_start (Some (Instance 0 h.first) ∷ rest)))
    (sym (map-append (λ c. Some (block_of c)) d.texts (today.Text text ∷ []))))

string_alike : (d : beginning.Data) (i : Item) (e : beginning.Data)
    → options.◌>>=◌ (beginning.characters i.content) (beginning.with_text d i.offset) ≡ Some e
    → text_of i.content >>= with_new (loading_of d) i.offset ≡ Found (loading_of e)
string_alike d i e f = go (is_utf8 i.content) f
  where
    go : (b : Bool) → options.◌>>=◌ (if b then Some (chars i.content) else None) (beginning.with_text d i.offset) ≡ Some e
        → (if b then Found (Text (chars i.content)) else Wrong type_check) >>= with_new (loading_of d) i.offset ≡ Found (loading_of e)
    go true f = text_alike d i.offset (chars i.content) e f
    go false f = absurd cc

-- What is done with an item of this kind.
abbrev by_kind : Object → Loading → Item → ℕ → Access Loading
by_kind o l i k =
    if k == 1 then with_numbers_of Byte l i.offset i.content
    else (if k == 2 then with_numbers_of Int l i.offset i.content
    else (if k == 3 then text_of i.content >>= with_new l i.offset
    else (if k == 5 then array_of o i.content >>= with_new l i.offset
    else (if k == 6 then into_array l i.offset i.content
    else (if k == 7 then out_of_array l l.back
    else (if k == 8 then with_numbers_of Big l i.offset i.content
    else Wrong type_check))))))

item_alike : (o : Object) (d : beginning.Data) (i : Item) (e : beginning.Data) → beginning.with_item d i ≡ Some e
    → with_item o (loading_of d) i ≡ Found (loading_of e)
item_alike o d i e f = go (i.kind == 3) (i.kind == 2) refl refl f
  where
    go : (text words : Bool) → (i.kind == 3) ≡ text → (i.kind == 2) ≡ words
        → (if text then options.◌>>=◌ (beginning.characters i.content) (beginning.with_text d i.offset)
        else (if words
        then options.◌>>=◌ (beginning.with_numbers d.words i.offset i.content) (λ words. Some (record { words = words; texts = d.texts }))
        else None)) ≡ Some e
        → by_kind o (loading_of d) i i.kind ≡ Found (loading_of e)
    go true words three two f =
        subst (λ k. by_kind o (loading_of d) i k ≡ Found (loading_of e)) (sym (eqb-true i.kind 3 three)) (string_alike d i e f)
    go false true three two f =
        subst (λ k. by_kind o (loading_of d) i k ≡ Found (loading_of e)) (sym (eqb-true i.kind 2 two)) (words_alike o d i e f)
    go false false three two f = absurd cc

items_alike : (o : Object) (is : List Item) (d e : beginning.Data) → beginning.with_items d is ≡ Some e
    → with_items o (loading_of d) is ≡ Found (loading_of e)
items_alike o [] d e f = ap (λ d. Found (loading_of d)) (some_same d e f)
items_alike o (i ∷ is) d e f =
    let h = both (beginning.with_item d i) (λ c. beginning.with_items c is) e f in
    on_found (with_item o (loading_of d) i) (λ l. with_items o l is) (loading_of h.first) (loading_of e) (item_alike o d i h.first h.is)
    (items_alike o is h.first e h.next)

-- ---- the opening

pub begins_alike : BeginsAlike
begins_alike o m e =
    let h = both (slice_get o.types 0) _ m e in
    let g = both (beginning.with_items (record { words = blank h.first; texts = [] }) o.items) _ m h.next in
    let f = both (slice_get o.types o.entry_type) _ m g.next in
    let same = some_same _ m f.next in
    subst (λ (m : beginning.Opened). opened o ≡ Found (opens (world_of m.world) m.first)) same
    (on_found (type_of o 0) _ h.first _ (ap (or_wrong type_check) h.is)
    (on_found (type_of o o.entry_type) _ f.first _ (ap (or_wrong type_check) f.is)
    (on_found (with_items o (loading_of (record { words = blank h.first; texts = [] })) o.items) _ (loading_of g.first) _
    (items_alike o o.items (record { words = blank h.first; texts = [] }) g.first g.is) refl)))
