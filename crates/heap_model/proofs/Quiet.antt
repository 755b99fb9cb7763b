-- A quiet step of a source with a heap is quiet under the law: where nothing went before it nothing goes after it, whatever the
-- others name.
use Rattle.std.proofs.Common.{◌≡◌, ℕ, zero, suc, ◌+◌, ◌<◌, List, sym, ap, subst, arith, ◌⊎◌, inl, inr}
use Rattle.process_model.specs.Process.{Branch, Went, Rules}
use Rattle.process_model.specs.Alone.{Quiets}
use Rattle.process_model.proofs.Quiet.{quiet_one}
use Rattle.heap_model.specs.Heap.{Heap, at, in_one, stays, graph}
use Rattle.heap_model.specs.Quiet.{IsQuiet}
use Rattle.heap_model.specs.Joined.{World, heap_naming}
use Rattle.heap_model.proofs.Heap.{there_is, there_of, stays_is, all_stay, stay_all, none_gone}
use Rattle.heap_model.proofs.Kept.{quiet, all_of, of_all}

either : (a b : ℕ) → 0 < a + b → (0 < a) ⊎ (0 < b)
either zero b p = inr (omega arith)
either (suc a) b p = inl (omega arith)

module _ {V P : Type 0} (inside : V → ℕ → ℕ) (names : P → ℕ → ℕ) where
  pub stays_on : (others : ℕ → ℕ) (w w' : Heap V) (p p' : P) → stays inside (λ n. names p n + others n) w ≡ w → IsQuiet inside names w p w' p' → stays inside (λ n. names p' n + others n) w' ≡ w'
  stays_on others w w' p p' e q =
      all_stay inside (all p') w' (of_all (graph inside w') _
      (quiet (graph inside w) (graph inside w') (all p) (all p') _ _ (stays_is inside (all p) w) (stays_is inside (all p') w')
      (all_of (graph inside w) _ (stay_all inside (all p) w e))
      (λ n l. elim (either (names p n) (others n) l) [ inl x ↦ let y = q.named n x in omega arith | inr x ↦ omega arith ])
      (λ m n l u.
      let v = there_is (at w m) l in
      let t = q.still m v.0 v.1 in
      subst (λ o. 0 < in_one inside o n) (sym t.1) (t.2 n (subst (λ o. 0 < in_one inside o n) v.1 u)))
      (λ n l. let v = there_is (at w n) l in let t = q.still n v.0 v.1 in there_of (at w' n) t.0 t.1)
      (λ n l. let v = there_is (at w' n) l in elim (q.new n v.0 v.1) [ inl x ↦ inl x | inr x ↦ inr (omega arith) ])))
    where
      all : P → ℕ → ℕ
      all p n = names p n + others n

module _ {V O P D M A H : Type 0} (rules : Rules (World V O) P D M A H) (inside : V → ℕ → ℕ) (names : P → ℕ → ℕ) (table : List (Branch D) → ℕ → ℕ) where
  pub quiet_heap : (w w' : World V O) (p p' : P) → rules.step w p ≡ Went w' p' → IsQuiet inside names w.heap p w'.heap p' → Quiets rules (heap_naming inside names table) 1 w p w' p'
  quiet_heap w w' p p' e q =
      quiet_one rules (heap_naming inside names table) w w' p p' e
      (λ others st.
      let a = stays_on inside names others w.heap w'.heap p p' (ap (λ (w : World V O). w.heap) st.kept) q in
      record { kept = ap (λ h. record { heap = h; outside = w'.outside }) a; none = none_gone inside _ w'.heap a })
