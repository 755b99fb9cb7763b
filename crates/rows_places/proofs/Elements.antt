-- Elements of arrays as places, once the address of one is in the linkage.
use Rattle.std.proofs.Common.{◌≡◌, ℕ, ℤ, Bool, true, false, zero, suc, pos, negsuc, ◌+◌, ◌*◌, ◌<◌, ◌≤◌, List, [], ◌∷◌, length, Option, Some, None, refl, sym, ap, ◌∙◌, subst, arith}
use Rattle.std.specs.Prelude.{Result, Ok, Err, slice_get, slice_set, slice_index_or, nat_lt, if◌then◌else◌}
use Rattle.std.proofs.lemmas.Bool.{ltb-true}
use Rattle.inf_text.specs.Steps.{◌>>=◌}
use Rattle.heap_model.specs.Facts.{Named, Is}
use Rattle.limbo_types.specs.Types.{Ty}
use Rattle.limbo_values.specs.declared.raised.Raised.{Raised}
use Rattle.limbo_values.specs.declared.raised.Raised.TheVariants.{ArrayBounds}
use Rattle.limbo_values.specs.Operators.{text_of}
use Rattle.limbo_values.specs.Texts.{index_in}
use Rattle.limbo_typed.specs.Typed as typed
use Rattle.limbo_meaning.specs.Exceptions.{Raising, with_text, dereference_of_nil}
use Rattle.limbo_meaning.specs.Memory as source
use Rattle.limbo_meaning.specs.Memory.{HeapValue, Memory, with_heap, changed, elements_in}
use Rattle.limbo_meaning.specs.Places.{Element, element_of, element_value, element_put, root_value, part_at}
use Rattle.limbo_meaning.specs.Process.{Shared}
use Rattle.limbo_meaning.specs.Values as value
use Rattle.limbo_meaning.specs.Values.{Value, part_of, number_of, nothing}
use Rattle.core_code.specs.Machine as code
use Rattle.dis_meaning.specs.Words.{Word, Address, InBlock, Found, word_at}
use Rattle.dis_meaning.specs.Process.{Process, Printing}
use Rattle.dis_memory.specs.Blocks as block
use Rattle.dis_memory.specs.Blocks.{Block, World, with_changed}
use Rattle.value_words.specs.Forms as forms
use Rattle.value_words.specs.Facts.{Facts, Grows, IsPart}
use Rattle.value_words.proofs.Rows.{is_there}
use Rattle.value_frames.specs.Frames.{room_for, within, type_within, element_place}
use Rattle.value_moves.specs.Operands.{behind}
use Rattle.value_moves.specs.Writing.{Lies, Writes}
use Rattle.value_moves.proofs.Leading.{spots_lead}
use Rattle.value_stores.specs.Paths.{HasPath}
use Rattle.value_stores.proofs.Parts.{parts_lie}
use Rattle.value_stores.proofs.Stores.{blocks_change}
use Rattle.value_code.specs.Objects.{globals, constants}
use Rattle.value_follows.specs.Stands.{Ready}
use Rattle.value_follows.specs.Sides.{sides, contents, HoldTheSame}
use Rattle.rows_places.proofs.Fitting.{PlacesFit}
use Rattle.rows_places.proofs.Going.{at_place_of}
use Rattle.rows_places.proofs.Places.{HeapPlace}
use Rattle.rows_places.proofs.Arrays.{ArrayHere, reads_some}

pub index_is : {A : Type 0} (xs : List A) (n : ℕ) (d x : A) → slice_get xs n ≡ Some x → slice_index_or xs n d ≡ x
index_is [] n d x e = absurd cc
index_is (y ∷ xs) zero d x e = cc
index_is (y ∷ xs) (suc n) d x e = index_is xs n d x e

-- ---- indices

pub below_long : (long : ℕ) (z : ℤ) (j : ℕ) → index_in long z ≡ Ok j → j < long
below_long long (negsuc n) j e = absurd cc
below_long long (pos n) j e = go (nat_lt n long) refl e
  where
    go : (b : Bool) → nat_lt n long ≡ b → (if b then Ok n else Err ArrayBounds) ≡ Ok j → j < long
    go true f g = let same : n ≡ j = cc in subst (λ l. l < long) same (ltb-true n long f)
    go false f g = absurd cc

-- ---- the element lies where the linkage has the address of

module _ (m : typed.Module) (k : Facts) (words : List Word) where
  pub record AddressHere (part : value.Part) (item : Ty) (j : ℕ) : Type 0 where
    pub block : ℕ
    pub byte : ℕ
    pub named : Is k part.array block
    pub word : word_at words (pos element_place) ≡ Found (Address (InBlock block) (pos byte))
    pub is : byte ≡ (part.start + j) * (room_for m.adts item).size

pub address_later : (m : typed.Module) (k now : Facts) (words : List Word) (part : value.Part) (item : Ty) (j : ℕ) → Grows k now
    → AddressHere m k words part item j → AddressHere m now words part item j
address_later m k now words part item j grows a =
    record { block = a.block; byte = a.byte; named = grows.facts a.block _ a.named; word = a.word; is = a.is }

module _ (m : typed.Module) (k : Facts) (i : ℕ) (w : Shared) (x : World) (p : code.Process) (q : Process) (ready : Ready m k i x p q) (hold : HoldTheSame m k i x p q) (worlds : (sides m).worlds k w x) (pc : ℕ) (pr : Option Printing) where
  abbrev now : Process
  now = at_place_of q pc pr

  abbrev memory_now : Memory
  memory_now = code.memory_of w p.frame

  -- ---- what the source looks up

  module _ (v0 v1 : Value) (vs : List Value) where
    abbrev looks : Raising (ℕ × ℕ) → Raising Value
    looks r = r >>= λ e. Ok (element_value memory_now e)

    pub no_array : part_of v0 ≡ None → root_value memory_now Element (v0 ∷ v1 ∷ vs) ≡ Err dereference_of_nil
    no_array e = ap (λ (a : Option value.Part). looks (element_of a (number_of v1))) e

    module _ (part : value.Part) (some : part_of v0 ≡ Some part) (z : ℤ) (number : number_of v1 ≡ z) where
      abbrev looked_by : Result ℕ Raised → Raising (ℕ × ℕ)
      looked_by r = with_text r >>= λ k. Ok (part.array, part.start + k)

      elements_of : element_of (part_of v0) (number_of v1) ≡ looked_by (index_in part.long z)
      elements_of =
          ap (λ (a : Option value.Part). element_of a (number_of v1)) some
          ∙ ap (λ (y : ℤ). looked_by (index_in part.long y)) number

      pub no_element : (raised : Raised) → index_in part.long z ≡ Err raised → root_value memory_now Element (v0 ∷ v1 ∷ vs) ≡ Err (text_of raised)
      no_element raised e = ap looks (elements_of ∙ ap looked_by e)

      element_there : (j : ℕ) → index_in part.long z ≡ Ok j → element_of (part_of v0) (number_of v1) ≡ Ok (part.array, part.start + j)
      element_there j e = elements_of ∙ ap looked_by e

  module _ (fit : PlacesFit m) (r0 : ℕ) (item : Ty) (a : ArrayHere m k i w x p q ready hold worlds pc pr r0 item)
      (part : value.Part) (some : a.array.part ≡ Some part) (z : ℤ) (j : ℕ) (index : index_in part.long z ≡ Ok j) where
    lies_within : (r : Option ℕ) → IsPart k item r (Some part)
        → (block : ℕ) × (long : ℕ) × (k.fact block ≡ Some (Named part.array)) × (k.form block ≡ Some (forms.Elements item long)) × (part.start + part.long ≤ long)
    lies_within None h = absurd h
    lies_within (Some b) h = let f = fit.parts k item b part h in (f.0, f.1, f.2.fact, f.2.formed, f.3)

    pub element_place_here : (address : AddressHere m k q.frame.words part item j) (v0 v1 : Value) (vs : List Value) → part_of v0 ≡ Some part → number_of v1 ≡ z
        → (parts : List ℕ) (t : Ty) → HasPath m.adts item parts → type_within m.adts item parts ≡ t
        → HeapPlace m k i w x p q ready hold worlds pc pr Element (v0 ∷ v1 ∷ vs) (behind element_place (within m.adts item parts)) t parts
    element_place_here address v0 v1 vs some0 number1 parts t path ends =
        let e = reads_some m k i w x p q ready hold worlds pc pr r0 item a part some in
        let l = e.leads in
        let here : address.block ≡ e.es.array = k.once part.array address.block e.es.array address.named l.named in
        let change = blocks_change m.adts (globals m) (constants m) k e.es.array in
        let many = length l.vs in
        let type = e.es.element in
        let words = e.es.words in
        let array = change.array_is item type many many words l.vs l.stands.0 l.formed in
        let inside = lies_within a.array.refers (subst (IsPart k item a.array.refers) some a.array.stands) in
        let same_block : inside.0 ≡ e.es.array = k.once part.array inside.0 e.es.array inside.2 l.named in
        let long_is : inside.1 ≡ many = same_long (subst (λ b. k.form b ≡ Some (forms.Elements item inside.1)) same_block inside.3) l.formed in
        let below = below_long part.long z j index in
        let bound = inside.4 in
        let number = part.start + j in
        let old = is_there l.vs number (omega (arith, below, bound, long_is)) in
        let placed = (change.element_lies item type many many words l.vs number old.0 l.stands.0 l.formed old.1).0 in
        let base = number * (room_for m.adts item).size in
        let byte = base + within m.adts item parts in
        let lies = parts_lie.there m.adts k words base item parts old.0 path placed in
        let word = address.word ∙ ap (λ (b : ℕ). Found (Address (InBlock b) (pos address.byte))) here
        ∙ ap (λ (y : ℕ). Found (Address (InBlock e.es.array) (pos y))) address.is in
        record {
          name = part.array;
          serial = e.es.array;
          named = l.named;
          words = words;
          byte = byte;
          value = old.0;
          becomes = λ v. source.Elements (slice_set l.vs number v);
          held = λ ws. block.Array type many ws;
          old = source.Elements l.vs;
          there = l.is;
          block = l.found;
          leads = spots_lead.element x now element_place e.es.array base many type words (within m.adts item parts) word l.found;
          lies = subst (λ y. Lies m.adts k words byte y (room_for m.adts y) (part_at parts old.0)) ends lies;
          rooted = ap (looks v0 v1 vs) (element_there v0 v1 vs part some0 z number1 j index)
              ∙ ap (λ (o : Option HeapValue). Ok (slice_index_or (elements_in o) number nothing)) l.is
              ∙ ap (λ (v : Value). Ok v) (index_is l.vs number nothing old.0 old.1);
          rooting = λ new.
              ap (λ (r : Raising (ℕ × ℕ)). r >>= λ e. Ok (element_put memory_now new e)) (element_there v0 v1 vs part some0 z number1 j index)
              ∙ ap (λ (o : Option HeapValue). Ok (with_heap memory_now (changed w.heap part.array (source.Elements (slice_set (elements_in o) number new))))) l.is;
          anew = λ later grows others from_words from u writes there. (
            (blocks_change m.adts (globals m) (constants m) later e.es.array).element item type many many words others l.vs number old.0 u parts
                ((contents m).grows k later e.es.array (source.Elements l.vs) (block.Array type many words) grows l.stands).0 (grows.forms e.es.array _ l.formed) old.1 (record {
                  source = from_words;
                  from = from;
                  path = path;
                  writes = subst (λ y. Writes words others byte from_words from (room_for m.adts y).size) (sym ends) writes;
                  lies = subst (λ y. Lies m.adts later others byte y (room_for m.adts y) u) (sym ends) there;
                }),
            tt,
          );
          names = λ ws n. refl;
        }
      where
        same_long : {o : Option forms.Form} {n l : ℕ} → o ≡ Some (forms.Elements item n) → o ≡ Some (forms.Elements item l) → n ≡ l
        same_long {n = n} {l = l} e f = let g : Some (forms.Elements item n) ≡ Some (forms.Elements item l) = sym e ∙ f in cc
