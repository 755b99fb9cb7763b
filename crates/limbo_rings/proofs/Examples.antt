-- What is refused makes a ring, and what may be written.
use Rattle.std.proofs.Common.{◌≡◌, ℕ, [], ◌∷◌, Option, None, Some, Ok, refl, sym, ap, ◌∙◌, codes, arith, false, ◌<◌, pos}
use Rattle.heap_model.specs.Heap.{graph}
use Rattle.limbo_types.specs.Types.{Ty, Int, RefAdt, Adt}
use Rattle.limbo_layout.specs.Adts.{Def}
use Rattle.limbo_adts.specs.Reaches.{plain, Part, of_array, of_list, of_chan, of_tuple, of_adt, of_ref, of_variant}
use Rattle.limbo_adts.specs.Reaches.{Reaches, reaches_itself, reaches_through}
use Rattle.limbo_meaning.specs.Values.{Value, Num, Ref, Parts, row}
use Rattle.limbo_meaning.specs.Memory.{HeapValue, Record, inside, Memory, with_heap}
use Rattle.limbo_meaning.specs.Places.{Target, Place, written}
use Rattle.limbo_kept.proofs.Examples.{notes, notes_sound, notes_laid, notes_written, notes_never_back}
use Rattle.limbo_rings.specs.Rings.{at_once, HasNoRing}
use Rattle.limbo_rings.specs.Running.{RunsMakeNoRing}
use Rattle.limbo_rings.proofs.Runs.{sound_modules_make_no_ring}
use Rattle.limbo_rings.specs.Storing.{IsAllowed}

-- ---- Node: adt { next: ref Node; mark: int; };  n.next = n;

abbrev node : Def
node = record {
  name = codes "Node";
  fields = record { name = codes "next"; ty = RefAdt 0 } ∷ record { name = codes "mark"; ty = Int } ∷ [];
  picks = [];
}

abbrev node_of : Value → Option HeapValue
node_of next = Some (Record (Parts (row (next ∷ Num (pos 7) ∷ []))))

abbrev memory : Memory
memory = record { variables = []; instance = 1; heap = node_of (Ref None) ∷ [] }

abbrev field : ℕ → Ty → Place
field k t = record { type = t; way = record { root = Target; parts = k ∷ []; character = false }; operands = Ref (Some 0) ∷ [] }

ring_written : written (node ∷ []) memory (field 0 (RefAdt 0)) (Ref (Some 0)) ≡ Ok (with_heap memory (node_of (Ref (Some 0)) ∷ []))
ring_written = refl

is_ring : HasNoRing (graph inside (node_of (Ref (Some 0)) ∷ [])) → ⊥
is_ring none = none 0 (at_once 0 0 (let one : 0 < 1 = omega arith in one))

ring_refused : IsAllowed (node ∷ []) (Adt 0) (field 0 (RefAdt 0)) → ⊥
ring_refused allowed = allowed (RefAdt 0) refl (reaches_itself (RefAdt 0) (RefAdt 0) refl)

int_reaches : (t u : Ty) → Reaches (node ∷ []) t u → t ≡ Int → u ≡ RefAdt 0 → ⊥
int_reaches _ _ (reaches_itself t u e) f g = let h : Int ≡ RefAdt 0 = sym (ap plain f) ∙ e ∙ ap plain g in cc
int_reaches _ _ (reaches_through t p u a r) f g = no_int t p a f
  where
    no_int : (t p : Ty) → Part (node ∷ []) t p → t ≡ Int → ⊥
    no_int _ _ (of_array t) e = cc
    no_int _ _ (of_list t) e = cc
    no_int _ _ (of_chan t) e = cc
    no_int _ _ (of_tuple ts t h) e = cc
    no_int _ _ (of_adt n t h) e = cc
    no_int _ _ (of_ref n t h) e = cc
    no_int _ _ (of_variant n v t h) e = cc

mark_allowed : IsAllowed (node ∷ []) (Adt 0) (field 1 Int)
mark_allowed object e r = int_reaches Int object r refl (let f : Some (RefAdt 0) ≡ Some object = e in cc)

-- ---- and a module of which no run makes one

notes_make_no_ring : RunsMakeNoRing notes
notes_make_no_ring = sound_modules_make_no_ring notes notes_sound notes_laid notes_written notes_never_back
