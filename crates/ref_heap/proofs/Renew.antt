-- A block to which there is one reference gets another serial.
use Rattle.std.proofs.Common.{◌≡◌, ◌≢◌, ℕ, ◌+◌, Bool, true, cond, List, Some, None, refl, sym, ap, subst, ◌∙◌, arith, inl, inr}
use Rattle.std.specs.Ordering.{nat_cmp}
use Rattle.std.specs.Cmp.{nat_cmp_total, unsigned_tied}
use Rattle.std.specs.FinMap.{FinMap, get-remove, same_map, nat_cmp-IsAntisymmetric}
use Rattle.std.proofs.lemmas.Bool.Decides.{eqb_tells}
use Rattle.slab.specs.Slab.{Slab}
use Rattle.ref_heap.specs.declared.slots.Slot.{Slot}
use Rattle.ref_heap.specs.Words.{naming, cells}
use Rattle.ref_heap.specs.Store.{Store, Block, IsHeap, IsSole, AreHeld, at, count, count_in, fresh, inside, limit, naming_in, one, outside, with_new, without_block, words_of}
use Rattle.ref_heap.specs.Drops.{number_in, numbered, tells}
use Rattle.ref_heap.specs.Slots.{kept, block_of, Changed, IsAt, IsUnique, Renamed, Takes}
use Rattle.ref_heap.specs.View.{heap_of, blocks_of, Stands}
use Rattle.ref_heap.proofs.Sums.{sum_changed}
use Rattle.ref_heap.proofs.Steps.{names_changed}
use Rattle.ref_heap.proofs.View.{at_each, at_view, neq_eqb}
use Rattle.ref_heap.proofs.Put.{at_with_block, new_heap, new_numbered, stands_at}
use Rattle.ref_heap.proofs.Outside.{new_outside, one_same, one_other}

-- a heap without a block, read
pub at_without : (h : Store) (k : ℕ) → Changed (at h) (at (without_block h k)) k None
at_without h k = record {
  here = get-remove nat_cmp_total h.blocks k k ∙ ap (λ v. cond v None (at h k)) (unsigned_tied k k ∙ elim (eqb_tells k k) [ inl y ↦ y.0 | inr y ↦ absurd (y.1 refl) ]);
  apart = λ q a. get-remove nat_cmp_total h.blocks k q ∙ ap (λ v. cond v None (at h q)) (unsigned_tied q k ∙ neq_eqb q k a);
}

module _ (h : Store) (k : ℕ) (ok : IsHeap h) (sole : IsSole h k) where
  without_inside : (n : ℕ) → inside (without_block h k) n + naming (words_of sole.block) n ≡ inside h n
  without_inside n =
      let e : inside (without_block h k) n + naming_in (at h k) n ≡ inside h n + 0 = names_changed (limit h) (at h) (at (without_block h k)) k None n (ok.bounded k sole.block sole.live) (at_without h k) in
      let f : naming_in (at h k) n ≡ naming (words_of sole.block) n = ap (λ v. naming_in v n) sole.live in
      omega arith

  without_heap : IsHeap (without_block h k)
  without_heap =
      let w = at_without h k in
      record {
        bounded = λ n b e. elim (eqb_tells n k) [
          | inl y ↦ absurd (let z : None ≡ Some b = sym w.here ∙ ap (at (without_block h k)) (sym y.1) ∙ e in cc)
          | inr y ↦ ok.bounded n b (sym (w.apart n y.1) ∙ e)
        ];
        counted = λ n b e. elim (eqb_tells n k) [
          | inl y ↦ absurd (let z : None ≡ Some b = sym w.here ∙ ap (at (without_block h k)) (sym y.1) ∙ e in cc)
          | inr y ↦ ok.counted n b (sym (w.apart n y.1) ∙ e)
        ];
        enough = λ n.
            let i = without_inside n in
            let x = ok.enough n in
            elim (eqb_tells n k) [
              | inl y ↦ let z : inside h n ≡ 0 = ap (inside h) y.1 ∙ sole.unnamed in omega arith
              | inr y ↦ let z : count (at (without_block h k)) n ≡ count (at h) n = ap count_in (w.apart n y.1) in omega arith
            ];
      }

  without_outside : (n : ℕ) → outside (without_block h k) n + one k n ≡ outside h n + naming (words_of sole.block) n
  without_outside n =
      let w = at_without h k in
      let i = without_inside n in
      let x = ok.enough n in
      elim (eqb_tells k n) [
        | inl y ↦
            let z : inside h n ≡ 0 = ap (inside h) (sym y.1) ∙ sole.unnamed in
            let c : count (at h) n ≡ sole.block.count = ap (count (at h)) (sym y.1) ∙ ap count_in sole.live in
            let d : count (at (without_block h k)) n ≡ 0 = ap (count (at (without_block h k))) (sym y.1) ∙ ap count_in w.here in
            let u = one_same k n y.1 in
            let v = sole.only in
            omega arith
        | inr y ↦
            let c : count (at (without_block h k)) n ≡ count (at h) n = ap count_in (w.apart n (λ e. y.1 (sym e))) in
            let u = one_other k n y.1 in
            omega arith
      ]

  abbrev moved : Block
  moved = fresh sole.block.kind sole.block.content

  moved_held : AreHeld (without_block h k) (naming (cells sole.block.content))
  moved_held n =
      let o = without_outside n in
      elim (eqb_tells k n) [
        | inl y ↦
            let i = without_inside n in
            let z : inside h n ≡ 0 = ap (inside h) (sym y.1) ∙ sole.unnamed in
            omega arith
        | inr y ↦ let u = one_other k n y.1 in omega arith
      ]

  renewed_heap : IsHeap (with_new (without_block h k) moved)
  renewed_heap = new_heap (without_block h k) sole.block.kind sole.block.content without_heap moved_held

  renewed_outside : (n : ℕ) → outside (with_new (without_block h k) moved) n + one k n ≡ outside h n + one h.made n
  renewed_outside n =
      let a = new_outside (without_block h k) sole.block.kind sole.block.content without_heap moved_held n in
      omega (arith, without_outside n)

  renewed_numbered : numbered (h.made + 1) (λ _. true) (at (with_new (without_block h k) moved)) ≡ numbered h.made (λ _. true) (at h)
  renewed_numbered =
      let p : ℕ → Bool = λ _. true in
      let w = at_without h k in
      let a = new_numbered (without_block h k) (fresh sole.block.kind sole.block.content) p without_heap in
      let b : numbered h.made p (at (without_block h k)) + tells p (number_in (at h k)) ≡ numbered h.made p (at h) + tells p (number_in (at (without_block h k) k)) =
      sum_changed h.made (λ s. tells p (number_in (at (without_block h k) s))) (λ s. tells p (number_in (at h s))) k (ok.bounded k sole.block sole.live) (λ s e. ap (λ v. tells p (number_in v)) (w.apart s e)) in
      let c : tells p (number_in (at h k)) ≡ tells p (number_in (Some sole.block)) = ap (λ v. tells p (number_in v)) sole.live in
      let d : tells p (number_in (at (without_block h k) k)) ≡ 0 = ap (λ v. tells p (number_in v)) w.here in
      omega arith

-- where a block has one reference, a new one of its kind and content is the same
same_fresh : (b : Block) → b.count ≡ 1 → fresh b.kind b.content ≡ b
same_fresh b e = ap (λ (c : ℕ). record b { count = c }) (sym e)

sole_block : (h : Store) (k : ℕ) (s : IsSole h k) (b : Block) → at h k ≡ Some b → fresh s.block.kind s.block.content ≡ b
sole_block h k s b e = (let f : Some s.block ≡ Some b = sym s.live ∙ e in let g : s.block ≡ b = cc in same_fresh s.block s.only ∙ g)

renamed_view : (made : ℕ) (m m' : Slab Slot) (lost : List ℕ) (k : ℕ) (b : Block) → Renamed (kept m) (kept m') k made b
    → heap_of (made + 1) m' lost ≡ with_new (without_block (heap_of made m lost) k) b
renamed_view made m m' lost k b r =
    let h = heap_of made m lost in
    let g : Store = record (without_block h k) { made = made + 1 } in
    let w = at_without h k in
    let c = at_with_block g made b in
    let left : (q : ℕ) → r.middle q ≡ at (without_block h k) q = λ q. elim (eqb_tells q k) [
      | inl y ↦ ap r.middle y.1 ∙ r.gone.here ∙ sym w.here ∙ ap (at (without_block h k)) (sym y.1)
      | inr y ↦ r.gone.apart q y.1 ∙ sym (at_each m q) ∙ sym (w.apart q y.1)
    ] in
    let e : blocks_of m' ≡ (with_new (without_block h k) b).blocks = same_map nat_cmp_total nat_cmp-IsAntisymmetric _ _ (λ q. elim (eqb_tells q made) [
      | inl y ↦ at_each m' q ∙ ap (kept m') y.1 ∙ r.placed.here ∙ sym c.here ∙ ap (at (with_new (without_block h k) b)) (sym y.1)
      | inr y ↦ at_each m' q ∙ r.placed.apart q y.1 ∙ left q ∙ sym (c.apart q y.1)
    ]) in
    ap (λ (b : FinMap nat_cmp Block). let v : Store = record { made = made + 1; blocks = b; lost = lost } in v) e

-- what `rename` did, said of the heap
pub record Renews (made : ℕ) (m' : Slab Slot) (lost : List ℕ) (n k : ℕ) (h : Store) : Type 0 where
  pub stands : Stands (made + 1) m' lost n
  pub view : (b : Block) → at h k ≡ Some b → heap_of (made + 1) m' lost ≡ with_new (without_block h k) b
  pub gone : at (heap_of (made + 1) m' lost) k ≡ None
  pub outside : (q : ℕ) → outside (heap_of (made + 1) m' lost) q + one k q ≡ outside h q + one made q

renews_here : (made : ℕ) (m m' : Slab Slot) (lost : List ℕ) (n k : ℕ) → Stands made m lost n → IsSole (heap_of made m lost) k → IsUnique m'
    → ((b : Block) → kept m k ≡ Some b → Renamed (kept m) (kept m') k made (fresh b.kind b.content))
    → Renews made m' lost n k (heap_of made m lost)
renews_here made m m' lost n k s sole u renamed =
    let h = heap_of made m lost in
    let b = sole.block in
    let r = renamed b (sym (at_each m k) ∙ sole.live) in
    let v = renamed_view made m m' lost k (fresh b.kind b.content) r in
    let low = s.heap.bounded k b sole.live in
    record {
      stands = stands_at (made + 1) m' lost n (with_new (without_block h k) (fresh b.kind b.content)) u v (renewed_heap h k s.heap sole) (renewed_numbered h k s.heap sole ∙ s.counts);
      view = λ a e. v ∙ ap (λ (x : Block). with_new (without_block h k) x) (sole_block h k sole a e);
      gone = at_each m' k ∙ r.placed.apart k (λ e. omega (arith, low)) ∙ r.gone.here;
      outside = λ q. ap (λ (x : Store). outside x q + one k q) v ∙ renewed_outside h k s.heap sole q;
    }

pub renews : (made : ℕ) (m m' : Slab Slot) (lost : List ℕ) (n k : ℕ) (h : Store) → Stands made m lost n → heap_of made m lost ≡ h → IsSole h k → IsUnique m'
    → ((b : Block) → kept m k ≡ Some b → Renamed (kept m) (kept m') k made (fresh b.kind b.content))
    → Renews made m' lost n k h
renews made m m' lost n k h s view sole u renamed =
    subst (λ (v : Store). Renews made m' lost n k v) view (renews_here made m m' lost n k s (subst (λ (v : Store). IsSole v k) (sym view) sole) u renamed)

pub sole_kept : (made : ℕ) (m : Slab Slot) (lost : List ℕ) (k : ℕ) (h : Store) → heap_of made m lost ≡ h → IsSole h k → kept m k ≢ None
sole_kept made m lost k h view a e = (let f : None ≡ Some a.block = sym e ∙ sym (at_view made m lost h k view) ∙ a.live in cc)

-- what lay in the slot of a serial is taken out
pub taken_out : (m m1 : Slab Slot) (i k : ℕ) (s : Slot) → IsUnique m → IsAt m i k → Takes m m1 i (Some s) → (kept m k ≡ Some (block_of s)) × Changed (kept m) (kept m1) k None
taken_out m m1 i k s u a t =
    let f : Some s ≡ Some a.block = t.value ∙ a.is in
    let e : s ≡ a.block = cc in
    let g : s.serial ≡ k = ap (λ (v : Slot). v.serial) e ∙ a.has_serial in
    let p = t.gone s refl in
    (ap (kept m) (sym g) ∙ p.0, subst (λ (n : ℕ). Changed (kept m) (kept m1) n None) g p.1)

-- and what was in it, put back under another serial
pub renamed_by : (m m1 m2 : Slab Slot) (i k j : ℕ) (s : Slot) → IsUnique m → IsAt m i k → Takes m m1 i (Some s) → Changed (kept m1) (kept m2) j (Some (fresh s.kind s.words))
    → (b : Block) → kept m k ≡ Some b → Renamed (kept m) (kept m2) k j (fresh b.kind b.content)
renamed_by m m1 m2 i k j s u a t placed b is =
    let p = taken_out m m1 i k s u a t in
    let f : Some (block_of s) ≡ Some b = sym p.0 ∙ is in
    let e : block_of s ≡ b = cc in
    record {
      middle = kept m1;
      gone = p.1;
      placed = subst (λ (x : Block). Changed (kept m1) (kept m2) j (Some (fresh x.kind x.content))) e placed;
    }
