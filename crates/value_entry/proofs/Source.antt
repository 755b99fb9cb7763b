-- Nothing is there as the module begins that its first process doesn't name, itself or through cells that it names.
use Rattle.std.proofs.Common.{◌≡◌, ℕ, zero, suc, ◌+◌, ◌<◌, Bool, true, List, [], ◌∷◌, Option, None, Some, inl, inr, refl, sym, ap, ◌∙◌, subst, arith, if◌then◌else◌}
use Rattle.value_words.proofs.Covered.{same_names}
use Rattle.process_model.specs.Naming.{Still}
use Rattle.heap_model.specs.Kept.{Held}
use Rattle.heap_model.specs.Heap.{Heap, at, in_one, there, graph, stays}
use Rattle.heap_model.proofs.Heap.{stays_is, all_stay, none_gone}
use Rattle.limbo_types.specs.Types.{Ty}
use Rattle.limbo_typed.specs.Typed as typed
use Rattle.limbo_meaning.specs.Values.{Value, Ref, one, among, references_in, all_fitted}
use Rattle.limbo_meaning.specs.Memory.{HeapValue, inside}
use Rattle.limbo_meaning.specs.Program.{routine_of}
use Rattle.limbo_meaning.specs.Runs.{first_world, list_from, cells_from}
use Rattle.limbo_kept.specs.Modules.{TakesWords}
use Rattle.core_code.specs.Machine as code
use Rattle.value_follows.specs.Sides.{sides}
use Rattle.value_entry.specs.Entry.{first_core}

one_it : (n : ℕ) → one n (Some n) ≡ 1
one_it n = ap (λ (b : Bool). if b then 1 else 0) (same_names n)

-- each cell behind the first is named by the one in front of it
cell_named : (n : ℕ) (ws : List (List ℕ)) (i : ℕ) → there (at (cells_from n ws) (suc i)) ≡ true → 0 < in_one inside (at (cells_from n ws) i) (n + suc i)
cell_named n [] i e = absurd cc
cell_named n (w ∷ []) i e = absurd cc
cell_named n (w ∷ v ∷ ws) zero e =
    let a = one_it (suc n) in
    let same : n + 1 ≡ suc n = omega arith in
    subst (λ (o : ℕ). 0 < in_one inside (at (cells_from n (w ∷ v ∷ ws)) 0) o) (sym same) (omega (arith, a))
cell_named n (w ∷ v ∷ ws) (suc i) e =
    let same : suc n + suc i ≡ n + suc (suc i) = omega arith in
    subst (λ (o : ℕ). 0 < in_one inside (at (cells_from (suc n) (v ∷ ws)) i) o) same (cell_named (suc n) (v ∷ ws) i e)

-- the first frame's variables
pub variables_are : (m : typed.Module) (f : typed.Function) (words : List (List ℕ)) (t : TakesWords (routine_of f))
    → (first_core m f words).frame.variables ≡ Ref None ∷ Ref (list_from 1 words) ∷ all_fitted m.adts t.more []
variables_are m f words t = ap (λ (ts : List Ty). all_fitted m.adts ts (Ref None ∷ Ref (list_from 1 words) ∷ [])) t.variables

module _ (m : typed.Module) (f : typed.Function) (words : List (List ℕ)) (takes : TakesWords (routine_of f)) where
  abbrev names : ℕ → ℕ
  names = code.process_names (first_core m f words)

  abbrev heap : Heap HeapValue
  heap = (first_world m words).heap

  names_instance : 0 < names 0
  names_instance = omega arith

  first_named : (ws : List (List ℕ)) → words ≡ ws → there (at (cells_from 1 ws) 0) ≡ true → 0 < names 1
  first_named [] same e = absurd cc
  first_named (w ∷ ws) same e =
      let vars = variables_are m f words takes ∙ ap (λ (o : Option ℕ). Ref None ∷ Ref o ∷ all_fitted m.adts takes.more []) (ap (list_from 1) same) in
      let some : 0 < among 1 (references_in (first_core m f words).frame.variables) =
      subst (λ (vs : List Value). 0 < among 1 (references_in vs)) (sym vars) (omega arith) in
      omega (arith, some)

  held : (n : ℕ) → there (at heap n) ≡ true → Held (graph inside heap) names (λ a. there (at heap a) ≡ true) n
  held zero e = inl names_instance
  held (suc zero) e = inl (first_named words refl e)
  held (suc (suc i)) e =
      let next : 1 + suc i ≡ suc (suc i) = omega arith in
      inr (suc i, before words 1 i e, subst (λ (o : ℕ). 0 < in_one inside (at (cells_from 1 words) i) o) next (cell_named 1 words i e))
    where
      before : (ws : List (List ℕ)) (n i : ℕ) → there (at (cells_from n ws) (suc i)) ≡ true → there (at (cells_from n ws) i) ≡ true
      before [] n i e = absurd cc
      before (w ∷ ws) n zero e = refl
      before (w ∷ ws) n (suc i) e = before ws (suc n) i e

  all_there : stays inside names heap ≡ heap
  all_there =
      all_stay inside names heap (λ n e.
      (stays_is inside names heap).greatest (λ a. there (at heap a) ≡ true) (λ a h. (h, held a h)) n e)

  pub still : Still (sides m).naming ((sides m).naming.names (first_core m f words)) (first_world m words)
  still = record {
    kept = ap (λ (h : Heap HeapValue). record { heap = h; outside = (first_world m words).outside }) all_there;
    none = none_gone inside names heap all_there;
  }
