-- A block to which there is one reference, and which holds none, is dropped.
use Rattle.std.proofs.Common.{◌≡◌, ◌≢◌, ℕ, ◌+◌, ◌-◌, ◌≤◌, Bool, true, cond, List, length, Some, None, refl, sym, ap, subst, ◌∙◌, arith, inl, inr}
use Rattle.std.specs.List.{count_by}
use Rattle.std.specs.List.Sorted.{IsSorted}
use Rattle.std.specs.Ordering.{nat_cmp}
use Rattle.std.proofs.lemmas.Bool.Decides.{eqb_tells}
use Rattle.slab.specs.Slab.{Slab}
use Rattle.ref_heap.specs.declared.slots.Slot.{Slot}
use Rattle.ref_heap.specs.Store.{Store, count, count_in, one, IsAlone, AreHeld, at, limit, inside, outside}
use Rattle.ref_heap.specs.Drops.{Drops, Lists, number_in, numbered, tells}
use Rattle.ref_heap.specs.Slots.{kept, Changed, IsUnique}
use Rattle.ref_heap.specs.View.{heap_of, Stands}
use Rattle.ref_heap.proofs.Sums.{sum_changed, sum_has}
use Rattle.ref_heap.proofs.Steps.{goes, dropped}
use Rattle.ref_heap.proofs.View.{at_each, at_view, dropping_of, heap_after, count_all}
use Rattle.ref_heap.proofs.Put.{none_there}

one_same : (k n : ℕ) → k ≡ n → one k n ≡ 1
one_same k n e = elim (eqb_tells k n) [ inl y ↦ ap (λ b. cond {A = ℕ} b 1 0) y.0 | inr y ↦ absurd (y.1 e) ]

one_other : (k n : ℕ) → k ≢ n → one k n ≡ 0
one_other k n e = elim (eqb_tells k n) [ inl y ↦ absurd (e y.1) | inr y ↦ ap (λ b. cond {A = ℕ} b 1 0) y.0 ]

pub alone_held : (h : Store) (k : ℕ) → IsAlone h k → AreHeld h (one k)
alone_held h k a n = elim (eqb_tells k n) [
  | inl y ↦
      let i : one k n ≡ 1 = one_same k n y.1 in
      let j : count (at h) n ≡ a.block.count = ap (count (at h)) (sym y.1) ∙ ap count_in a.live in
      let l : inside h n ≡ inside h k = ap (inside h) (sym y.1) in
      let m = a.only in
      let o = a.unnamed in
      omega arith
  | inr y ↦ let i : one k n ≡ 0 = one_other k n y.1 in omega arith
]

-- the heap without such a block
pub record Emptied (made : ℕ) (m' : Slab Slot) (lost' : List ℕ) (n k : ℕ) (h : Store) : Type 0 where
  pub drops : Drops h (heap_of made m' lost') (one k)
  pub lists : Lists h (heap_of made m' lost')
  pub stands : Stands made m' lost' (n - length lost')
  pub room : length lost' ≤ n
  pub free : kept m' made ≡ None

emptied_here : (made : ℕ) (m m' : Slab Slot) (lost lost' : List ℕ) (n k : ℕ)
    → Stands made m lost n → IsAlone (heap_of made m lost) k → IsUnique m' → Changed (kept m) (kept m') k None
    → ((p : ℕ → Bool) → count_by p lost' ≡ tells p (number_in (kept m k))) → IsSorted nat_cmp lost'
    → Emptied made m' lost' n k (heap_of made m lost)
emptied_here made m m' lost lost' n k s a u c listed sorted =
    let h = heap_of made m lost in
    let h' = heap_of made m' lost' in
    let b = a.block in
    let q = s.heap.bounded k b a.live in
    let ch : Changed (at h) (at h') k None = record { here = at_each m' k ∙ c.here; apart = λ q a. at_each m' q ∙ c.apart q a ∙ sym (at_each m q) } in
    let self : one k k ≡ 1 = one_same k k refl in
    let d : Drops h h' (one k) = dropped (limit h) (λ n. outside h n - one k n) (at h) (at h') (λ _. 0)
    (goes (limit h) (λ n. outside h n - one k n) (at h) (at h) (at h') (one k) (λ _. 0) k b (dropping_of h (one k) s.heap (alone_held h k a)) a.live a.only (omega (arith, q)) ch (omega arith)
    (λ n. omega (arith, a.bare n))) (λ n. refl) in
    let each : (p : ℕ → Bool) → count_by p lost' + numbered (limit h) p (at h') ≡ numbered (limit h) p (at h) = λ p.
    (let x : numbered (limit h) p (at h') + tells p (number_in (at h k)) ≡ numbered (limit h) p (at h) + tells p (number_in (at h' k)) =
    sum_changed (limit h) (λ s. tells p (number_in (at h' s))) (λ s. tells p (number_in (at h s))) k (omega (arith, q)) (λ s a. ap (λ v. tells p (number_in v)) (ch.apart s a)) in
    let y : tells p (number_in (at h' k)) ≡ 0 = ap (λ v. tells p (number_in v)) ch.here in
    let z : tells p (number_in (at h k)) ≡ tells p (number_in (kept m k)) = ap (λ v. tells p (number_in v)) (at_each m k) in
    let w = listed p in
    omega arith) in
    let x : count_by (λ _. true) lost' + numbered (limit h) (λ _. true) (at h') ≡ numbered (limit h) (λ _. true) (at h) = each (λ _. true) in
    let y : numbered (limit h) (λ _. true) (at h) ≡ n = s.counts in
    let z : count_by (λ _. true) lost' ≡ length lost' = count_all lost' in
    record {
      drops = d;
      lists = record { sorted = sorted; each = each };
      stands = record { unique = u; heap = heap_after h h' (one k) s.heap refl d; counts = omega arith };
      room = omega arith;
      free = c.apart made (λ e. omega (arith, q)) ∙ sym (at_each m made) ∙ none_there h s.heap;
    }

pub emptied : (made : ℕ) (m m' : Slab Slot) (lost lost' : List ℕ) (n k : ℕ) (h : Store)
    → Stands made m lost n → heap_of made m lost ≡ h → IsAlone h k → IsUnique m' → Changed (kept m) (kept m') k None
    → ((p : ℕ → Bool) → count_by p lost' ≡ tells p (number_in (kept m k))) → IsSorted nat_cmp lost'
    → Emptied made m' lost' n k h
emptied made m m' lost lost' n k h s view a u c listed sorted =
    subst (λ (v : Store). Emptied made m' lost' n k v) view (emptied_here made m m' lost lost' n k s (subst (λ (v : Store). IsAlone v k) (sym view) a) u c listed sorted)

-- what may be listed has room
pub empty_room : (made : ℕ) (m : Slab Slot) (lost : List ℕ) (n capacity k : ℕ) (h : Store) → Stands made m lost n → heap_of made m lost ≡ h → IsAlone h k → n ≤ capacity
    → tells (λ _. true) (number_in (kept m k)) ≤ capacity
empty_room made m lost n capacity k h s view a room =
    let g = heap_of made m lost in
    let a' : IsAlone g k = subst (λ (v : Store). IsAlone v k) (sym view) a in
    let q = s.heap.bounded k a'.block a'.live in
    let x : tells (λ _. true) (number_in (at g k)) ≤ numbered (limit g) (λ _. true) (at g) = sum_has (limit g) (λ s. tells (λ _. true) (number_in (at g s))) k (omega (arith, q)) in
    let y : numbered (limit g) (λ _. true) (at g) ≡ n = s.counts in
    let z : tells (λ _. true) (number_in (at g k)) ≡ tells (λ _. true) (number_in (kept m k)) = ap (λ v. tells (λ _. true) (number_in v)) (at_each m k) in
    omega arith

pub alone_kept : (made : ℕ) (m : Slab Slot) (lost : List ℕ) (k : ℕ) (h : Store) → heap_of made m lost ≡ h → IsAlone h k → kept m k ≢ None
alone_kept made m lost k h view a e = (let f : None ≡ Some a.block = sym e ∙ sym (at_view made m lost h k view) ∙ a.live in cc)
