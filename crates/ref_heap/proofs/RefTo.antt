-- A block is made that refers to another, to which there is then one reference more.
use Rattle.std.proofs.Common.{◌≡◌, ℕ, ◌+◌, true, cond, List, [], ◌∷◌, Option, Some, None, refl, sym, ap, subst, ◌∙◌, arith, inl, inr}
use Rattle.std.specs.Prelude.{Result, Ok, Err}
use Rattle.std.proofs.lemmas.Bool.Decides.{eqb_tells}
use Rattle.slab.specs.Slab.{Slab}
use Rattle.ref_heap.specs.declared.kind.Kind.{Kind}
use Rattle.ref_heap.specs.declared.kind.HeapFault.{HeapFault}
use Rattle.ref_heap.specs.declared.kind.HeapFault.TheVariants.{Full}
use Rattle.ref_heap.specs.declared.slots.Slot.{Slot}
use Rattle.ref_heap.specs.Kinds.{fd_number}
use Rattle.ref_heap.specs.Words.{Content, cells, naming, refer, wide}
use Rattle.ref_heap.specs.Answers.{hold_answer, IsRefFault, most}
use Rattle.ref_heap.specs.Store.{Store, Block, count, count_in, one, IsLive, AreHeld, at, outside, with_block, with_new, fresh, one_more}
use Rattle.ref_heap.specs.Drops.{tells}
use Rattle.ref_heap.specs.Slots.{kept, Changed, IsUnique, SameBlocks}
use Rattle.ref_heap.specs.View.{heap_of, Stands}
use Rattle.ref_heap.proofs.View.{at_each, at_view, naming_one}
use Rattle.ref_heap.proofs.Put.{same_stands, same_view, changed_view, held_stands, none_there, new_stands, new_view}
use Rattle.ref_heap.proofs.Outside.{more_outside, new_outside}

pub record Referred (made : ℕ) (m3 : Slab Slot) (lost : List ℕ) (n k : ℕ) (kind : Kind) (h : Store) : Type 0 where
  pub stands : Stands (made + 1) m3 lost n
  pub view : (b : Block) → at h k ≡ Some b → heap_of (made + 1) m3 lost ≡ with_new (with_block h k (one_more b)) (fresh kind (wide (refer (Some k) ∷ [])))
  pub outside : (q : ℕ) → outside (heap_of (made + 1) m3 lost) q ≡ outside h q + one made q

referred_here : (made : ℕ) (m1 m2 m3 : Slab Slot) (lost : List ℕ) (n k : ℕ) (kind : Kind) (b : Block)
    → Stands made m1 lost n → IsUnique m2 → kept m1 k ≡ Some b → Changed (kept m1) (kept m2) k (Some (one_more b))
    → IsUnique m3 → Changed (kept m2) (kept m3) made (Some (fresh kind (wide (refer (Some k) ∷ [])))) → fd_number kind ≡ None
    → Referred made m3 lost n k kind (heap_of made m1 lost)
referred_here made m1 m2 m3 lost n k kind b s u2 is c u3 p none =
    let h = heap_of made m1 lost in
    let h2 = heap_of made m2 lost in
    let content : Content = wide (refer (Some k) ∷ []) in
    let there : at h k ≡ Some b = at_each m1 k ∙ is in
    let v2 : h2 ≡ with_block h k (one_more b) = changed_view made m1 m2 lost k (one_more b) c in
    let s2 = held_stands made m1 m2 lost n k b s u2 is c in
    let more : (q : ℕ) → outside h2 q ≡ outside h q + one k q = λ q. ap (λ (v : Store). outside v q) v2 ∙ more_outside h k b q s.heap there in
    let held : AreHeld h2 (naming (cells content)) = λ q. omega (arith, more q, naming_one k q) in
    let s3 = new_stands made m2 m3 lost n h2 kind content s2 refl u3 p held in
    let v3 : heap_of (made + 1) m3 lost ≡ with_new h2 (fresh kind content) = new_view made m2 m3 lost (fresh kind content) h2 refl p in
    let zero : tells (λ _. true) (fd_number kind) ≡ 0 = ap (tells (λ _. true)) none in
    record {
      stands = record { unique = s3.unique; heap = s3.heap; counts = omega (arith, s3.counts) };
      view = λ a e.
          let f : Some b ≡ Some a = sym there ∙ e in
          let g : b ≡ a = cc in
          v3 ∙ ap (λ (v : Store). with_new v (fresh kind content)) v2 ∙ ap (λ (x : Block). with_new (with_block h k (one_more x)) (fresh kind content)) g;
      outside = λ q.
          let a = new_outside h2 kind content s2.heap held q in
          let o : outside (heap_of (made + 1) m3 lost) q ≡ outside (with_new h2 (fresh kind content)) q = ap (λ (v : Store). outside v q) v3 in
          omega (arith, more q, naming_one k q);
    }

pub referred : (made : ℕ) (m m1 m2 m3 : Slab Slot) (lost : List ℕ) (n k : ℕ) (kind : Kind) (h : Store)
    → Stands made m lost n → heap_of made m lost ≡ h → IsUnique m1 → SameBlocks m m1 → IsLive h k → IsUnique m2
    → ((b : Block) → kept m1 k ≡ Some b → Changed (kept m1) (kept m2) k (Some (one_more b)))
    → IsUnique m3 → Changed (kept m2) (kept m3) made (Some (fresh kind (wide (refer (Some k) ∷ [])))) → fd_number kind ≡ None
    → Referred made m3 lost n k kind h
referred made m m1 m2 m3 lost n k kind h s view u1 same live u2 c u3 p none =
    let is : kept m1 k ≡ Some live.block = same.same k ∙ sym (at_view made m lost h k view) ∙ live.live in
    subst (λ (v : Store). Referred made m3 lost n k kind v) (same_view made m m1 lost same ∙ view)
    (referred_here made m1 m2 m3 lost n k kind live.block (same_stands made m m1 lost n s u1 same) u2 is (c live.block is) u3 p none)

-- no block has the next serial, also after one more reference is held
pub still_free : (made : ℕ) (m m1 m2 : Slab Slot) (lost : List ℕ) (n k : ℕ) (h : Store)
    → Stands made m lost n → heap_of made m lost ≡ h → SameBlocks m m1 → IsLive h k
    → ((b : Block) → kept m1 k ≡ Some b → Changed (kept m1) (kept m2) k (Some (one_more b))) → kept m2 made ≡ None
still_free made m m1 m2 lost n k h s view same live c =
    let there : at (heap_of made m lost) k ≡ Some live.block = ap (λ (v : Store). at v k) view ∙ live.live in
    let q = s.heap.bounded k live.block there in
    let is : kept m1 k ≡ Some live.block = same.same k ∙ sym (at_each m k) ∙ there in
    (c live.block is).apart made (λ e. omega (arith, q)) ∙ same.same made ∙ sym (at_each m made) ∙ none_there (heap_of made m lost) s.heap

-- why one more reference isn't held
hold_fault : (o : Option Block) (e : HeapFault) → Err e ≡ hold_answer o → (o ≡ None → ⊥) → (e ≡ Full) × (count_in o ≡ most)
hold_fault None e f live = absurd (live refl)
hold_fault (Some b) e f live = elim (eqb_tells b.count most) [
  | inl y ↦ (let g : Err e ≡ cond {A = Result (Unit {0}) HeapFault} true (Err Full) (Ok tt) = f ∙ ap (λ v. cond {A = Result (Unit {0}) HeapFault} v (Err Full) (Ok tt)) y.0 in cc, y.1)
  | inr y ↦ absurd (let g : Err e ≡ Ok tt = f ∙ ap (λ v. cond {A = Result (Unit {0}) HeapFault} v (Err Full) (Ok tt)) y.0 in cc)
]

pub ref_fault : (made : ℕ) (m m1 : Slab Slot) (lost : List ℕ) (k : ℕ) (h : Store) (e : HeapFault) → heap_of made m lost ≡ h → SameBlocks m m1 → IsLive h k
    → Err e ≡ hold_answer (kept m1 k) → IsRefFault h k e
ref_fault made m m1 lost k h e view same live f =
    let is : kept m1 k ≡ Some live.block = same.same k ∙ sym (at_view made m lost h k view) ∙ live.live in
    let p = hold_fault (kept m1 k) e f (λ z. (let g : None ≡ Some live.block = sym z ∙ is in cc)) in
    subst (λ (x : HeapFault). IsRefFault h k x) (sym p.0) (inr (ap count_in live.live ∙ sym (ap count_in is) ∙ p.1))

-- where the count is the greatest, one more isn't held
pub held_small : (made : ℕ) (m m1 : Slab Slot) (lost : List ℕ) (k : ℕ) (h : Store) → heap_of made m lost ≡ h → SameBlocks m m1 → IsLive h k
    → Ok tt ≡ hold_answer (kept m1 k) → count (at h) k ≡ most → ⊥
held_small made m m1 lost k h view same live f e =
    let is : kept m1 k ≡ Some live.block = same.same k ∙ sym (at_view made m lost h k view) ∙ live.live in
    let g : Ok tt ≡ hold_answer (Some live.block) = f ∙ ap hold_answer is in
    let same_count : live.block.count ≡ most = sym (ap count_in live.live) ∙ e in
    elim (eqb_tells live.block.count most) [
      | inl y ↦ (let z : Ok tt ≡ Err Full = g ∙ ap (λ v. cond {A = Result (Unit {0}) HeapFault} v (Err Full) (Ok tt)) y.0 in cc)
      | inr y ↦ y.1 same_count
    ]
