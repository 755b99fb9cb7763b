-- A block that becomes the next one.
use Rattle.std.proofs.Common.{◌≡◌, ℕ, zero, suc, ◌<◌, [], ◌∷◌, ◌++◌, length, Option, Some, None, refl, sym, ap, ◌∙◌, arith}
use Rattle.std.specs.Prelude.{slice_set}
use Rattle.ref_heap.specs.Store.{Store, outside}
use Rattle.heap_model.specs.Heap.{Heap, in_all, stays}
use Rattle.heap_cuts.specs.Laws.{StandsFor}
use Rattle.heap_cuts.specs.Shapes.{Shape, naming_of, shapes}
use Rattle.heap_cuts.proofs.Cuts.{uncut_stays}
use Rattle.heap_cuts.proofs.Listed.{in_all_last, length_shapes, names_shapes}
use Rattle.heap_cuts.proofs.Sooner.{early, unnamed_early}

set_before : {A : Type 0} (h : Heap A) (k : ℕ) (o p : Option A) → k < length h → slice_set (h ++ p ∷ []) k o ≡ slice_set h k o ++ p ∷ []
set_before [] k o p l = absurd (omega arith)
set_before (q ∷ qs) zero o p l = refl
set_before (q ∷ qs) (suc k) o p l = ap (λ (xs : Heap _). q ∷ xs) (set_before qs k o p (omega arith))

pub anew_stays : (before after : Store) (k : ℕ) (s : Shape) → StandsFor before after k s
    → shapes after ≡ stays naming_of (outside after) (shapes before ++ Some s ∷ [])
anew_stays before after k s f =
    let all : Heap Shape = shapes before ++ Some s ∷ [] in
    let named : in_all naming_of all k ≡ 0 =
    omega (arith, in_all_last naming_of (shapes before) (Some s) k, names_shapes before k, f.unnamed, f.bare) in
    let put : slice_set all k None ≡ shapes after =
    set_before (shapes before) k None (Some s) (omega (arith, length_shapes before, f.made)) ∙ sym f.blocks in
    uncut_stays after f.heap
    ∙ ap (λ (xs : Heap Shape). stays naming_of (outside after) xs) (sym put)
    ∙ early naming_of (outside after) all (slice_set all k None) (unnamed_early naming_of (outside after) all k f.unheld named)
