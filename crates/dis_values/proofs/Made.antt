-- A block is made.
use Rattle.std.proofs.Common.{◌≡◌, ◌≢◌, ℕ, ◌+◌, Bool, true, false, cond, List, [], ◌∷◌, Some, refl, sym, ap, subst, ◌∙◌, arith, inl, inr}
use Rattle.std.specs.Prelude.{eqb, map, Result, Ok, Err, OnOk, IfOk, IfErr}
use Rattle.std.proofs.lemmas.Bool.Decides.{eqb_tells}
use Rattle.std.proofs.lemmas.List.Sums.{sum_by-cons}
use Rattle.std.specs.Cmp.{nat_cmp_total, unsigned_tied}
use Rattle.std.specs.FinMap.{get-insert}
use Rattle.ref_heap.specs.declared.word.Ref.{Ref}
use Rattle.ref_heap.specs.declared.kind.Kind.{Kind}
use Rattle.ref_heap.specs.declared.kind.HeapFault.{HeapFault}
use Rattle.ref_heap.specs.declared.kind.HeapFault.TheVariants.{NoMemory, Full}
use Rattle.ref_heap.specs.Words.{Cell, Content, cells, plain, refer, refers, naming}
use Rattle.ref_heap.specs.Answers.{most, make_fault}
use Rattle.ref_heap.specs.Store.{Store, Block, AreHeld, IsHeap, at, one, outside, fresh, with_block, with_new}
use Rattle.dis_values.specs.Making.{Makes, IsMakeFault}

pub naming_cons : (c : Cell) (cs : List Cell) (n : ℕ) → naming (c ∷ cs) n ≡ cond {A = ℕ} (refers n c) 1 0 + naming cs n
naming_cons c cs n = sum_by-cons _ c cs

pub plain_names : (xs : List ℕ) (n : ℕ) → naming (map plain xs) n ≡ 0
plain_names [] n = refl
plain_names (x ∷ xs) n = naming_cons (plain x) (map plain xs) n ∙ omega (arith, plain_names xs n)

pub naming_one : (k n : ℕ) → naming (refer (Some k) ∷ []) n ≡ one k n
naming_one k n = naming_cons (refer (Some k)) [] n ∙ omega arith

pub bare_held : (h : Store) (content : Content) → ((n : ℕ) → naming (cells content) n ≡ 0) → AreHeld h (naming (cells content))
bare_held h content none n = omega (arith, none n)

-- what `add` did with a block that names nothing
pub makes : (r : Result Ref HeapFault) (old new : Store) (kind : Kind) (content : Content) → ((n : ℕ) → naming (cells content) n ≡ 0)
    → IfOk r (λ (r : Ref). r.serial ≡ old.made) → OnOk r (new ≡ with_new old (fresh kind content))
    → IfOk r (λ (r : Ref). (n : ℕ) → outside new n + naming (cells content) n ≡ outside old n + one r.serial n)
    → IfOk r (λ (r : Ref). Makes old new r.serial (fresh kind content))
makes (Ok r) old new kind content none serial ok held = record { serial = serial; makes = ok; held = λ n. omega (arith, none n, held n) }
makes (Err e) old new kind content none serial ok held = tt

make_fault_is : (h : Store) (e : HeapFault) → e ≡ make_fault h → IsMakeFault h e
make_fault_is h e f = elim (eqb_tells h.made most) [
  | inl y ↦ subst (λ (x : HeapFault). IsMakeFault h x) (sym (f ∙ ap (λ (v : Bool). cond {A = HeapFault} v Full NoMemory) y.0)) y.1
  | inr y ↦ subst (λ (x : HeapFault). IsMakeFault h x) (sym (f ∙ ap (λ (v : Bool). cond {A = HeapFault} v Full NoMemory) y.0)) tt
]

pub faults : (r : Result Ref HeapFault) (h : Store) → IfErr r (λ (e : HeapFault). e ≡ make_fault h) → IfErr r (IsMakeFault h)
faults (Ok r) h f = tt
faults (Err e) h f = make_fault_is h e f

-- a heap with one more block, read
pub new_there : (h : Store) (b : Block) → at (with_new h b) h.made ≡ Some b
new_there h b = get-insert nat_cmp_total h.blocks h.made b h.made ∙ ap (λ v. cond v (Some b) (at h h.made)) (unsigned_tied h.made h.made ∙ same h.made)
  where
    same : (k : ℕ) → eqb k k ≡ true
    same k = elim (eqb_tells k k) [ inl y ↦ y.0 | inr y ↦ absurd (y.1 refl) ]

pub block_there : (h : Store) (k : ℕ) (b : Block) → at (with_block h k b) k ≡ Some b
block_there h k b = get-insert nat_cmp_total h.blocks k b k ∙ ap (λ v. cond v (Some b) (at h k)) (unsigned_tied k k ∙ same k)
  where
    same : (k : ℕ) → eqb k k ≡ true
    same k = elim (eqb_tells k k) [ inl y ↦ y.0 | inr y ↦ absurd (y.1 refl) ]

pub other_block : (h : Store) (k : ℕ) (b : Block) (q : ℕ) → q ≢ k → at (with_block h k b) q ≡ at h q
other_block h k b q a = get-insert nat_cmp_total h.blocks k b q ∙ ap (λ v. cond v (Some b) (at h q)) (unsigned_tied q k ∙ other q k a)
  where
    other : (q k : ℕ) → q ≢ k → eqb q k ≡ false
    other q k a = elim (eqb_tells q k) [ inl y ↦ absurd (a y.1) | inr y ↦ y.0 ]

pub other_new : (h : Store) (b : Block) (q : ℕ) → q ≢ h.made → at (with_new h b) q ≡ at h q
other_new h b q a = other_block (record h { made = h.made + 1 }) h.made b q a

-- a live block has another serial than the next one
pub not_next : (h : Store) (k : ℕ) (b : Block) → IsHeap h → at h k ≡ Some b → k ≢ h.made
not_next h k b ok is e = (let q = ok.bounded k b is in omega (arith, q))
