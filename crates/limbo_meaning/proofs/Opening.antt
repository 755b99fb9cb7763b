-- All that is in the heap of an opening is named.
use Rattle.std.proofs.Common.{◌≡◌, ℕ, zero, suc, ◌+◌, ◌<◌, true, List, [], ◌∷◌, None, Some, ◌⊎◌, inl, inr, refl, sym, ap, subst, ◌∙◌}
use Rattle.std.proofs.Common.{arith, eq-eqb}
use Rattle.std.specs.Prelude.{nat_eq}
use Rattle.process_model.specs.Naming.{Still}
use Rattle.heap_model.specs.Kept.{Held}
use Rattle.heap_model.specs.Heap.{Heap, at, there, in_one, stays, graph, lost_from}
use Rattle.heap_model.proofs.Heap.{part, stays_is, all_stay}
use Rattle.limbo_typed.specs.Typed.{Module}
use Rattle.limbo_meaning.specs.Values.{Ref, fitted, all_fitted, references, references_in, one}
use Rattle.limbo_meaning.specs.Memory.{HeapValue, Instance, inside}
use Rattle.limbo_meaning.specs.Program.{Routine, globals_of}
use Rattle.limbo_meaning.specs.Process.{process_names}
use Rattle.limbo_meaning.specs.Rules.{naming}
use Rattle.limbo_meaning.specs.Runs.{list_from, cells_from, first_world, first_process}
use Rattle.limbo_meaning.specs.Origins.{Name}
use Rattle.limbo_meaning.specs.Opening.{TakesWords, OpeningIsStill}
use Rattle.limbo_meaning.proofs.Names.{left, right}

one_itself : (n : ℕ) → 0 < one n (Some n)
one_itself n = let e : nat_eq n n ≡ true = eq-eqb n n refl in rw e (omega arith)

-- the cell behind another is named by it
pub record NamedBy (n : ℕ) (words : List (List ℕ)) (k : ℕ) : Type 0 where
  pub cell : ℕ
  pub live : there (at (cells_from n words) cell) ≡ true
  pub names : 0 < in_one inside (at (cells_from n words) cell) (n + k)

cell_named : (n : ℕ) (words : List (List ℕ)) (k : ℕ) → there (at (cells_from n words) k) ≡ true → (k ≡ 0) ⊎ NamedBy n words k
cell_named n [] k e = absurd cc
cell_named n (s ∷ ss) zero e = inl refl
cell_named n (s ∷ []) (suc k) e = absurd cc
cell_named n (s ∷ t ∷ ts) (suc zero) e =
    let z = one_itself (suc n) in
    inr (record {
      cell = 0;
      live = refl;
      names = subst (λ j. 0 < 0 + one j (Some (suc n))) (let e : suc n ≡ n + 1 = omega arith in e) (omega (arith, z));
    })
cell_named n (s ∷ t ∷ ts) (suc (suc k)) e = elim (cell_named (suc n) (t ∷ ts) (suc k) e) [
  | inl y ↦ absurd (omega (arith, y))
  | inr y ↦ inr (record {
    cell = suc y.cell;
    live = y.live;
    names = subst (λ j. 0 < in_one inside (at (cells_from (suc n) (t ∷ ts)) y.cell) j)
        (let z : suc n + suc k ≡ n + suc (suc k) = omega arith in z) y.names;
  })
]

-- nothing is lost from a heap to itself
nothing_lost : (from : ℕ) (os : Heap HeapValue) → lost_from from os os ≡ []
nothing_lost from [] = refl
nothing_lost from (None ∷ os) = nothing_lost (suc from) os
nothing_lost from (Some v ∷ os) = nothing_lost (suc from) os

module _ (m : Module) (words : List (List ℕ)) (r : Routine) (takes : TakesWords r) where
  abbrev heap : Heap HeapValue
  heap = Some (Instance (globals_of m)) ∷ cells_from 1 words

  abbrev roots : ℕ → ℕ
  roots n = process_names (first_process m words r) n

  -- the first word's cell is named by the second parameter
  words_named : (s : List ℕ) (ss : List (List ℕ)) → words ≡ s ∷ ss
      → Name (references_in (all_fitted m.adts r.variables (Ref None ∷ Ref (list_from 1 words) ∷ []))) 1
  words_named s ss e =
      subst (λ vs. Name (references_in (all_fitted m.adts vs (Ref None ∷ Ref (list_from 1 words) ∷ []))) 1) (sym takes.variables)
      (right (references (fitted m.adts takes.first (Ref None))) _ 1
      (left (list_from 1 words ∷ []) (references_in (all_fitted m.adts takes.more [])) 1
      (subst (λ ws. Name (list_from 1 ws ∷ []) 1) (sym e) (omega arith))))

  some_word : (ws : List (List ℕ)) → there (at (cells_from 1 ws) 0) ≡ true → (s : List ℕ) × (ss : List (List ℕ)) × (ws ≡ s ∷ ss)
  some_word [] e = absurd cc
  some_word (s ∷ ss) e = (s, ss, refl)

  held : (n : ℕ) → there (at heap n) ≡ true → Held (graph inside heap) roots (λ a. there (at heap a) ≡ true) n
  held zero e = inl (omega arith)
  held (suc k) e = elim (cell_named 1 words k e) [
    | inl y ↦
        let w = some_word words (subst (λ k. there (at (cells_from 1 words) k) ≡ true) y e) in
        let z = words_named w.0 w.1 w.2 in
        inl (subst (λ k. 0 < roots (suc k)) (sym y) (omega (arith, z)))
    | inr y ↦ inr (
      suc y.cell,
      y.live,
      subst (λ j. 0 < in_one inside (at (cells_from 1 words) y.cell) j)
          (let z : 1 + k ≡ suc k = omega arith in z) y.names,
    )
  ]

  all_there : (n : ℕ) → there (at heap n) ≡ true → part inside roots heap n ≡ true
  all_there n e = (stays_is inside roots heap).greatest (λ n. there (at heap n) ≡ true) (λ n e. (e, held n e)) n e

  same : stays inside roots heap ≡ heap
  same = all_stay inside roots heap all_there

  still : Still naming roots (first_world m words)
  still = record {
    kept = ap (λ h. record { heap = h; outside = (first_world m words).outside }) same;
    none = ap (λ h. lost_from 0 heap h) same ∙ nothing_lost 0 heap;
  }

pub opening_is_still : OpeningIsStill
opening_is_still m words r takes = still m words r takes
