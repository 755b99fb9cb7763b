-- What places come to, by what stands at their roots.
use Rattle.std.proofs.Common.{◌≡◌, ℕ, ◌+◌, ◌<◌, ◌≤◌, pos, negsuc, Bool, List, [], ◌∷◌, Option, Some, None, refl, ap, ◌∙◌}
use Rattle.std.specs.Prelude.{Result, Ok, Err, slice_get, slice_set, slice_index_or, if◌then◌else◌}
use Rattle.std.proofs.lemmas.Bool.{lt-ltb, le-ltb}
use Rattle.inf_text.specs.Steps.{◌>>=◌}
use Rattle.heap_model.specs.Heap.{at}
use Rattle.limbo_types.specs.Types.{Ty}
use Rattle.limbo_layout.specs.Adts.{Def}
use Rattle.limbo_values.specs.declared.raised.Raised.{Raised}
use Rattle.limbo_values.specs.declared.raised.Raised.TheVariants.{ArrayBounds}
use Rattle.limbo_values.specs.Texts.{index_in}
use Rattle.limbo_meaning.specs.Values as value
use Rattle.limbo_meaning.specs.Values.{Value, Num, Ref, Array, nothing, fitted}
use Rattle.limbo_meaning.specs.Memory.{Memory, HeapValue, Elements, Record, Instance, with_variables, with_heap, changed}
use Rattle.limbo_meaning.specs.Memory.{elements_in, record_in, variables_in}
use Rattle.limbo_meaning.specs.Exceptions.{Raising, with_text, dereference_of_nil, array_bounds}
use Rattle.limbo_meaning.specs.Places.{Root, Local, Global, Element, Target, part_at, with_part, element_value, element_put, root_value}
use Rattle.limbo_meaning.specs.Places.{root_put, part_read, stored_at}
use Rattle.value_stores.specs.Places.{place, IsChanged, IsRaised, PlacesChange}
use Rattle.value_stores.proofs.Rooms.{index_is}

module _ (defs : List Def) (m : Memory) (t : Ty) (root : Root) (part : List ℕ) (operands : List Value) where
  changes : (old : Value) (after : Value → Memory) → root_value m root operands ≡ Ok old
      → ((new : Value) → root_put m root operands new ≡ Ok (after new)) → IsChanged defs m t root part operands old after
  changes old after e f = (
    ap (λ (r : Raising Value). r >>= λ v. part_read (place t root part operands) (part_at part v)) e,
    λ v.
        ap (λ (r : Raising Value). r >>= λ old. stored_at defs m (place t root part operands) old v >>= λ new.
        root_put m root operands new) e
        ∙ f (with_part part (fitted defs t v) old),
  )

  raises : (text : List ℕ) → root_value m root operands ≡ Err text → IsRaised defs m t root part operands text
  raises text e = (
    ap (λ (r : Raising Value). r >>= λ v. part_read (place t root part operands) (part_at part v)) e,
    λ v.
        ap (λ (r : Raising Value). r >>= λ old. stored_at defs m (place t root part operands) old v >>= λ new.
        root_put m root operands new) e,
  )

-- ---- indices

index_there : (long i : ℕ) → i < long → index_in long (pos i) ≡ Ok i
index_there long i l = ap (λ (b : Bool). if b then Ok i else Err ArrayBounds) (lt-ltb i long l)

index_past : (long i : ℕ) → long ≤ i → index_in long (pos i) ≡ Err ArrayBounds
index_past long i l = ap (λ (b : Bool). if b then Ok i else Err ArrayBounds) (le-ltb i long l)

module _ (m : Memory) (p : value.Part) where
  abbrev element_by : Result ℕ Raised → Raising (ℕ × ℕ)
  element_by r = with_text r >>= λ k. Ok (p.array, p.start + k)

  element_is : (vs : List Value) (i : ℕ) (old : Value) → at m.heap p.array ≡ Some (Elements vs) → slice_get vs (p.start + i) ≡ Some old
      → element_value m (p.array, p.start + i) ≡ old
  element_is vs i old e f =
      ap (λ (o : Option HeapValue). slice_index_or (elements_in o) (p.start + i) nothing) e ∙ index_is vs (p.start + i) nothing old f

pub places_change : PlacesChange
places_change = record {
  local = λ defs m t x part operands old e.
      changes defs m t (Local x) part operands old (λ new. with_variables m (slice_set m.variables x new))
      (ap Ok (index_is m.variables x nothing old e)) (λ new. refl);
  global = λ defs m t x part operands vs old e f.
      changes defs m t (Global x) part operands old (λ new. with_heap m (changed m.heap m.instance (Instance (slice_set vs x new))))
      (ap (λ (o : Option HeapValue). Ok (slice_index_or (variables_in o) x nothing)) e ∙ ap Ok (index_is vs x nothing old f))
      (λ new. ap (λ (o : Option HeapValue). Ok (with_heap m (changed m.heap m.instance (Instance (slice_set (variables_in o) x new))))) e);
  element = λ defs m t p i part vs old l e f.
      let index = index_there p.long i l in
      changes defs m t Element part (Array (Some p) ∷ Num (pos i) ∷ []) old
      (λ new. with_heap m (changed m.heap p.array (Elements (slice_set vs (p.start + i) new))))
      (ap (λ (r : Result ℕ Raised). element_by m p r >>= λ e. Ok (element_value m e)) index ∙ ap Ok (element_is m p vs i old e f))
      (λ new.
      ap (λ (r : Result ℕ Raised). element_by m p r >>= λ e. Ok (element_put m new e)) index
      ∙ ap (λ (o : Option HeapValue).
      Ok (with_heap m (changed m.heap p.array (Elements (slice_set (elements_in o) (p.start + i) new))))) e);
  no_array = λ defs m t z part. raises defs m t Element part (Array None ∷ Num z ∷ []) dereference_of_nil refl;
  behind_last = λ defs m t p i part l.
      raises defs m t Element part (Array (Some p) ∷ Num (pos i) ∷ []) array_bounds
      (ap (λ (r : Result ℕ Raised). element_by m p r >>= λ e. Ok (element_value m e)) (index_past p.long i l));
  before_first = λ defs m t p i part. raises defs m t Element part (Array (Some p) ∷ Num (negsuc i) ∷ []) array_bounds refl;
  target = λ defs m t n part old e.
      changes defs m t Target part (Ref (Some n) ∷ []) old (λ new. with_heap m (changed m.heap n (Record new)))
      (ap (λ (o : Option HeapValue). Ok (record_in o)) e) (λ new. refl);
  no_target = λ defs m t part. raises defs m t Target part (Ref None ∷ []) dereference_of_nil refl;
}
