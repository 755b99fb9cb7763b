-- The blocks that a heap's view has are those that its slots keep.
use Rattle.std.proofs.Common.{◌≡◌, ◌≢◌, ℕ, zero, suc, ◌+◌, ◌-◌, ◌≤◌, Bool, true, false, cond, List, [], ◌∷◌, length, Option, Some, None, refl, sym, ap, subst, ◌∙◌, arith, inl, inr}
use Rattle.std.specs.Prelude.{eqb}
use Rattle.std.specs.List.{count_by}
use Rattle.std.proofs.Common.{Bor}
use Rattle.std.specs.Option.{option_map, option_copied}
use Rattle.std.specs.List.Sorted.{IsSorted}
use Rattle.std.specs.Ordering.{nat_cmp, eq_by_cmp}
use Rattle.std.specs.Cmp.{nat_cmp_total, unsigned_tied}
use Rattle.std.specs.FinMap.{find, get-from_entries}
use Rattle.std.specs.FinMap as fin
use Rattle.std.proofs.lemmas.Bool.Decides.{eqb_tells}
use Rattle.std.proofs.lemmas.List.Sums.{sum_by-cons}
use Rattle.slab.specs.Slab.{Slab}
use Rattle.slab.specs.Slab as slab
use Rattle.std.proofs.Common.{get_or}
use Rattle.ref_heap.specs.declared.word.Word.{Word}
use Rattle.ref_heap.specs.declared.slots.Slot.{Slot}
use Rattle.ref_heap.specs.Words.{refer, naming}
use Rattle.ref_heap.specs.Answers.{most}
use Rattle.ref_heap.specs.Store.{Store, Block, Blocks, count, names, naming_in, sum_below, one, IsHeap, AreHeld, at, limit, inside, outside}
use Rattle.ref_heap.specs.Drops.{IsSameBut, Freed, Drops, Lists, number_in, numbered, tells}
use Rattle.ref_heap.specs.Slots.{kept, kept_in, block_of}
use Rattle.ref_heap.specs.View.{heap_of, blocks_of, listed, Stands}
use Rattle.ref_heap.specs.Chain.{Dropping, Loose, Releasable, Releases, named}
use Rattle.ref_heap.proofs.Steps.{starting}
use Rattle.ref_heap.proofs.Naming.{naming_cons}

eqb_swap : (a b : ℕ) → eqb a b ≡ eqb b a
eqb_swap a b = elim (eqb_tells a b) [
  | inl x ↦ elim (eqb_tells b a) [ inl y ↦ x.0 ∙ sym y.0 | inr y ↦ absurd (y.1 (sym x.1)) ]
  | inr x ↦ elim (eqb_tells b a) [ inl y ↦ absurd (x.1 (sym y.1)) | inr y ↦ x.0 ∙ sym y.0 ]
]

find_kept : (slots : List (Option Slot)) (q : ℕ) → find nat_cmp q (listed slots) ≡ kept_in slots q
find_kept [] q = refl
find_kept (None ∷ rest) q = find_kept rest q
find_kept (Some s ∷ rest) q =
    ap (cond (eq_by_cmp nat_cmp q s.serial) (Some (block_of s))) (find_kept rest q)
    ∙ ap (λ v. cond v (Some (block_of s)) (kept_in rest q)) (unsigned_tied q s.serial ∙ eqb_swap q s.serial)

pub at_each : (m : Slab Slot) (s : ℕ) → fin.get (blocks_of m) s ≡ kept m s
at_each m s = get-from_entries nat_cmp_total (listed m.slots) s ∙ find_kept m.slots s

pub at_kept : (m : Slab Slot) → ◌≡◌ {A = Blocks} (λ s. fin.get (blocks_of m) s) (kept m)
at_kept m = λ i s. at_each m s i

part_some : (a b : Option Block) (c : Block) → IsSameBut a b → a ≡ Some c → (d : Block) × (b ≡ Some d)
part_some None b c p e = absurd cc
part_some (Some a) None c p e = absurd p
part_some (Some a) (Some d) c p e = (d, refl)

-- what a drop keeps true
pub heap_after : (h h' : Store) (given : ℕ → ℕ) → IsHeap h → h'.made ≡ h.made → Drops h h' given → IsHeap h'
heap_after h h' given ok same d = record {
  bounded = λ n b e.
      let p = part_some (at h' n) (at h n) b (d.part n) e in
      let q = ok.bounded n p.0 p.1 in
      omega (arith, q);
  counted = d.settled.counted;
  enough = λ n.
      let x : count (at h') n ≡ (outside h n - given n) + names (limit h) (at h') n = d.settled.exact n in
      let y : names (limit h') (at h') n ≡ names (limit h) (at h') n = ap (λ m. names m (at h') n) same in
      omega arith;
}

pub naming_one : (k n : ℕ) → naming (refer (Some k) ∷ []) n ≡ one k n
naming_one k n = naming_cons (refer (Some k)) [] n ∙ omega arith

-- what is held outside may be given away
pub dropping_of : (h : Store) (given : ℕ → ℕ) → IsHeap h → AreHeld h given → Dropping (limit h) (λ n. outside h n - given n) (at h) (at h) given
dropping_of h given ok held = starting (limit h) (λ n. outside h n - given n) (at h) given (λ n.
    let f : inside h n ≤ count (at h) n = ok.enough n in
    let g : given n ≤ outside h n = held n in
    omega arith) ok.counted

loose_of : (made : ℕ) (m : Slab Slot) (lost : List ℕ) (words : List Word) → IsHeap (heap_of made m lost) → AreHeld (heap_of made m lost) (named words)
    → Loose made (λ n. outside (heap_of made m lost) n - named words n) (kept m) m most (named words)
loose_of made m lost words ok held =
    let h = heap_of made m lost in
    let out : ℕ → ℕ = λ n. outside h n - named words n in
    let d : Dropping made out (kept m) (kept m) (named words) = subst (λ (f : Blocks). Dropping made out f f (named words)) (at_kept m) (dropping_of h (named words) ok held) in
    record {
      links = [];
      threaded = refl;
      dropping = record { exact = λ n. omega (arith, d.exact n); counted = d.counted; part = d.part; greatest = d.greatest };
      bounded = λ n b e. let q = ok.bounded n b (at_each m n ∙ e) in q;
    }

pub count_all : (xs : List ℕ) → count_by (λ _. true) xs ≡ length xs
count_all [] = refl
count_all (x ∷ xs) = sum_by-cons (λ _. 1) x xs ∙ omega (arith, count_all xs)

pub releasable : (made : ℕ) (m : Slab Slot) (lost : List ℕ) (words : List Word) (capacity n : ℕ) (h : Store)
    → Stands made m lost n → heap_of made m lost ≡ h → AreHeld h (named words) → n ≤ capacity → Releasable m words capacity
releasable made m lost words capacity n h s view held room =
    record {
      unique = s.unique;
      limit = made;
      outside = λ n. outside (heap_of made m lost) n - named words n;
      loose = loose_of made m lost words s.heap (subst (λ (v : Store). AreHeld v (named words)) (sym view) held);
      room =
          let e : numbered made (λ _. true) (at (heap_of made m lost)) ≡ numbered made (λ _. true) (kept m) = ap (numbered made (λ _. true)) (at_kept m) in
          let f : numbered made (λ _. true) (at (heap_of made m lost)) ≡ n = s.counts in
          omega arith;
    }

-- what `release` did, said of the heap
pub record Released (made : ℕ) (m' : Slab Slot) (lost' : List ℕ) (words : List Word) (n : ℕ) (h : Store) : Type 0 where
  pub drops : Drops h (heap_of made m' lost') (named words)
  pub lists : Lists h (heap_of made m' lost')
  pub heap : IsHeap (heap_of made m' lost')
  pub room : length lost' + numbered made (λ _. true) (at (heap_of made m' lost')) ≡ n

released_here : (made : ℕ) (m m' : Slab Slot) (lost lost' : List ℕ) (words : List Word) (n : ℕ)
    → Stands made m lost n → AreHeld (heap_of made m lost) (named words) → Releases m m' words lost' → IsSorted nat_cmp lost'
    → Released made m' lost' words n (heap_of made m lost)
released_here made m m' lost lost' words n s held g sorted =
    let h = heap_of made m lost in
    let h' = heap_of made m' lost' in
    let out : ℕ → ℕ = λ n. outside h n - named words n in
    let r = g made out (loose_of made m lost words s.heap held) in
    let d : Drops h h' (named words) =
    subst (λ (f : Blocks). Freed made out f (at h')) (sym (at_kept m)) (subst (λ (f : Blocks). Freed made out (kept m) f) (sym (at_kept m')) r.0) in
    let each : (p : ℕ → Bool) → count_by p lost' + numbered made p (at h') ≡ numbered made p (at h) = λ p.
    (let x : count_by p lost' + numbered made p (kept m') ≡ numbered made p (kept m) = r.1 p in
    let y : numbered made p (at h) ≡ numbered made p (kept m) = ap (numbered made p) (at_kept m) in
    let z : numbered made p (at h') ≡ numbered made p (kept m') = ap (numbered made p) (at_kept m') in
    omega arith) in
    record {
      drops = d;
      lists = record { sorted = sorted; each = each };
      heap = heap_after h h' (named words) s.heap refl d;
      room =
          let x : count_by (λ _. true) lost' + numbered made (λ _. true) (at h') ≡ numbered made (λ _. true) (at h) = each (λ _. true) in
          let y : numbered made (λ _. true) (at h) ≡ n = s.counts in
          let z : count_by (λ _. true) lost' ≡ length lost' = count_all lost' in
          omega arith;
    }

pub released : (made : ℕ) (m m' : Slab Slot) (lost lost' : List ℕ) (words : List Word) (n : ℕ) (h : Store)
    → Stands made m lost n → heap_of made m lost ≡ h → AreHeld h (named words) → Releases m m' words lost' → IsSorted nat_cmp lost'
    → Released made m' lost' words n h
released made m m' lost lost' words n h s view held g sorted =
    subst (λ (v : Store). Released made m' lost' words n v) view
    (released_here made m m' lost lost' words n s (subst (λ (v : Store). AreHeld v (named words)) (sym view) held) g sorted)

-- the block that the heap has is the one in its slots
pub at_view : (made : ℕ) (m : Slab Slot) (lost : List ℕ) (h : Store) (s : ℕ) → heap_of made m lost ≡ h → at h s ≡ kept m s
at_view made m lost h s e = ap (λ (v : Store). at v s) (sym e) ∙ at_each m s

pub neq_eqb : (a b : ℕ) → a ≢ b → eqb a b ≡ false
neq_eqb a b n = elim (eqb_tells a b) [ inl y ↦ absurd (n y.1) | inr y ↦ y.0 ]

sum_none : (n : ℕ) (f : ℕ → ℕ) → ((s : ℕ) → f s ≡ 0) → sum_below n f ≡ 0
sum_none zero f e = refl
sum_none (suc n) f e = omega (arith, e n, sum_none n f e)

-- a heap of empty slots
pub at_empty : (m : Slab Slot) (n : ℕ) → m.slots ≡ [] → fin.get (blocks_of m) n ≡ None
at_empty m n e = at_each m n ∙ ap (λ (slots : List (Option Slot)). kept_in slots n) e

pub empty_stands : (m : Slab Slot) (lost : List ℕ) → m.slots ≡ [] → Stands 0 m lost 0
empty_stands m lost e =
    let h = heap_of 0 m lost in
    let none : (n : ℕ) → at h n ≡ None = λ n. at_empty m n e in
    record {
      unique = record {
        one = λ i j b c p q f. absurd (let z : None ≡ Some b = sym (slot_none i) ∙ p in cc);
        small = λ i b p. absurd (let z : None ≡ Some b = sym (slot_none i) ∙ p in cc);
      };
      heap = record {
        bounded = λ n b x. absurd (let y : None ≡ Some b = sym (none n) ∙ x in cc);
        counted = λ n b x. absurd (let y : None ≡ Some b = sym (none n) ∙ x in cc);
        enough = λ n. let x : inside h n ≡ 0 = sum_none (limit h) _ (λ s. ap (λ b. naming_in b n) (none s)) in omega arith;
      };
      counts = sum_none (limit h) _ (λ s. ap (λ b. tells (λ _. true) (number_in b)) (none s));
    }
  where
    slot_none : (i : ℕ) → slab.get m i ≡ None
    slot_none i = ap (λ (slots : List (Option Slot)). get_or slots i None) e

-- what a look at the slots found is what the heap has
pub at_looked : (made : ℕ) (m : Slab Slot) (lost : List ℕ) (h : Store) (s : ℕ) (o o' : Option (Bor Slot)) → heap_of made m lost ≡ h
    → option_map block_of (option_copied o) ≡ kept m s → o ≡ o' → at h s ≡ option_map block_of (option_copied o')
at_looked made m lost h s o o' e f g = at_view made m lost h s e ∙ sym f ∙ ap (λ (v : Option (Bor Slot)). option_map block_of (option_copied v)) g
