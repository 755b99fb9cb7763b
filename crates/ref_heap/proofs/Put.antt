-- One block is put in place of another, or made.
use Rattle.std.proofs.Common.{◌≡◌, ◌≢◌, ℕ, zero, suc, ◌+◌, ◌<◌, ◌≤◌, Bool, true, false, cond, List, [], ◌∷◌, ◌++◌, length, get_or, Option, Some, None, refl, sym, ap, subst, ◌∙◌, arith, inl, inr}
use Rattle.std.specs.Prelude.{eqb, map, slice_get, slice_set, Result, Ok, Err, OnOk, OnErr, IfOk}
use Rattle.std.specs.Ordering.{nat_cmp}
use Rattle.std.specs.Cmp.{nat_cmp_total, unsigned_tied}
use Rattle.std.specs.FinMap.{FinMap, get-insert, same_map, nat_cmp-IsAntisymmetric}
use Rattle.std.proofs.lemmas.Bool.Decides.{eqb_tells}
use Rattle.std.proofs.lemmas.List.Sums.{sum_by-set}
use Rattle.slab.specs.Slab.{Slab}
use Rattle.ref_heap.specs.declared.kind.Kind.{Kind}
use Rattle.ref_heap.specs.declared.kind.HeapFault.{HeapFault}
use Rattle.ref_heap.specs.declared.kind.HeapFault.TheVariants.{Dead}
use Rattle.ref_heap.specs.declared.slots.Slot.{Slot}
use Rattle.ref_heap.specs.Kinds.{fd_number}
use Rattle.ref_heap.specs.Kept.{blank_word}
use Rattle.ref_heap.specs.Words.{Cell, cell_of, plain, refer, in_block, in_frame, Content, wide, compact, cells, naming, refers, with_cell, with_more}
use Rattle.ref_heap.specs.Answers.{hold_answer, set_answer, fits_there}
use Rattle.ref_heap.specs.Store.{Store, Block, words_of, count, count_in, names, naming_in, IsHeap, AreHeld, at, limit, inside, outside, with_block, with_new, with_content, fresh, blank, blank_cells, one_more}
use Rattle.ref_heap.specs.Drops.{number_in, numbered, tells}
use Rattle.ref_heap.specs.Slots.{kept, Changed, IsUnique, SameBlocks}
use Rattle.ref_heap.specs.View.{heap_of, blocks_of, Stands}
use Rattle.ref_heap.proofs.Sums.{sum_changed}
use Rattle.ref_heap.proofs.Steps.{names_changed}
use Rattle.ref_heap.proofs.Naming.{naming_cons, plain_names}
use Rattle.ref_heap.proofs.View.{at_each}

-- a heap with a block put, read
pub at_with_block : (h : Store) (k : ℕ) (b : Block) → Changed (at h) (at (with_block h k b)) k (Some b)
at_with_block h k b = record {
  here = get-insert nat_cmp_total h.blocks k b k ∙ ap (λ v. cond v (Some b) (at h k)) (unsigned_tied k k ∙ same_eqb k);
  apart = λ q a. get-insert nat_cmp_total h.blocks k b q ∙ ap (λ v. cond v (Some b) (at h q)) (unsigned_tied q k ∙ other_eqb q k a);
}
  where
    same_eqb : (k : ℕ) → eqb k k ≡ true
    same_eqb k = elim (eqb_tells k k) [ inl y ↦ y.0 | inr y ↦ absurd (y.1 refl) ]

    other_eqb : (q k : ℕ) → q ≢ k → eqb q k ≡ false
    other_eqb q k a = elim (eqb_tells q k) [ inl y ↦ absurd (a y.1) | inr y ↦ y.0 ]

-- the view of slots in which one block changed
pub changed_view : (made : ℕ) (m m' : Slab Slot) (lost : List ℕ) (k : ℕ) (b : Block) → Changed (kept m) (kept m') k (Some b) → heap_of made m' lost ≡ with_block (heap_of made m lost) k b
changed_view made m m' lost k b p =
    let h = heap_of made m lost in
    let c = at_with_block h k b in
    let e : blocks_of m' ≡ (with_block h k b).blocks = same_map nat_cmp_total nat_cmp-IsAntisymmetric _ _ (λ q. elim (eqb_tells q k) [
      | inl y ↦ at_each m' q ∙ ap (λ z. kept m' z) y.1 ∙ p.here ∙ sym c.here ∙ ap (at (with_block h k b)) (sym y.1)
      | inr y ↦ at_each m' q ∙ p.apart q y.1 ∙ sym (at_each m q) ∙ sym (c.apart q y.1)
    ]) in
    ap (λ (b : FinMap nat_cmp Block). let v : Store = record { made = made; blocks = b; lost = lost } in v) e

-- the view of slots with the same blocks
pub same_view : (made : ℕ) (m m' : Slab Slot) (lost : List ℕ) → SameBlocks m m' → heap_of made m' lost ≡ heap_of made m lost
same_view made m m' lost e =
    let f : blocks_of m' ≡ blocks_of m = same_map nat_cmp_total nat_cmp-IsAntisymmetric _ _ (λ q. at_each m' q ∙ e.same q ∙ sym (at_each m q)) in
    ap (λ (b : FinMap nat_cmp Block). let v : Store = record { made = made; blocks = b; lost = lost } in v) f

none_at : (o : Option Block) → ((b : Block) → o ≡ Some b → ⊥) → o ≡ None
none_at None f = refl
none_at (Some b) f = absurd (f b refl)

pub none_there : (h : Store) → IsHeap h → at h h.made ≡ None
none_there h ok = none_at (at h h.made) (λ b e. let q = ok.bounded _ b e in omega (arith, q))

-- what is true of every heap, where one more was made
heap_raised : (h : Store) → IsHeap h → IsHeap (record h { made = h.made + 1 })
heap_raised h ok =
    let none : at h h.made ≡ None = none_there h ok in
    record {
      bounded = λ n b e. let q = ok.bounded n b e in omega (arith, q);
      counted = ok.counted;
      enough = λ n.
          let x : names (suc h.made) (at h) n ≡ naming_in (at h h.made) n + names h.made (at h) n = refl in
          let y : naming_in (at h h.made) n ≡ 0 = ap (λ b. naming_in b n) none in
          let z : names (h.made + 1) (at h) n ≡ names (suc h.made) (at h) n = (let e : h.made + 1 ≡ suc h.made = omega arith in ap (λ m. names m (at h) n) e) in
          let w : names h.made (at h) n ≤ count (at h) n = ok.enough n in
          omega arith;
    }

-- and where a block is put whose words name no more than there are references
heap_changed : (h : Store) (k : ℕ) (b : Block) → IsHeap h → k < h.made → 0 < b.count
    → ((n : ℕ) → inside h n + naming (words_of b) n ≤ count (at (with_block h k b)) n + naming_in (at h k) n)
    → IsHeap (with_block h k b)
heap_changed h k b ok high some enough =
    let c = at_with_block h k b in
    record {
      bounded = λ n a e. elim (eqb_tells n k) [
        | inl y ↦ omega (arith, y.1)
        | inr y ↦ ok.bounded n a (sym (c.apart n y.1) ∙ e)
      ];
      counted = λ n a e. elim (eqb_tells n k) [
        | inl y ↦ let z : Some a ≡ Some b = sym e ∙ ap (at (with_block h k b)) y.1 ∙ c.here in let w : a.count ≡ b.count = ap count_in z in omega arith
        | inr y ↦ ok.counted n a (sym (c.apart n y.1) ∙ e)
      ];
      enough = λ n.
          let x : inside (with_block h k b) n + naming_in (at h k) n ≡ inside h n + naming (words_of b) n = names_changed (limit h) (at h) (at (with_block h k b)) k (Some b) n (omega arith) c in
          let y : inside h n + naming (words_of b) n ≤ count (at (with_block h k b)) n + naming_in (at h k) n = enough n in
          omega arith;
    }

pub numbered_changed : (h : Store) (k : ℕ) (b : Block) (p : ℕ → Bool) → k < h.made
    → numbered (limit h) p (at (with_block h k b)) + tells p (number_in (at h k)) ≡ numbered (limit h) p (at h) + tells p (fd_number b.kind)
numbered_changed h k b p high =
    let c = at_with_block h k b in
    sum_changed (limit h) (λ s. tells p (number_in (at (with_block h k b) s))) (λ s. tells p (number_in (at h s))) k (omega arith) (λ s a. ap (λ v. tells p (number_in v)) (c.apart s a))
    ∙ ap (λ v. numbered (limit h) p (at h) + tells p (number_in v)) c.here

pub stands_at : (made : ℕ) (m : Slab Slot) (lost : List ℕ) (n : ℕ) (h : Store) → IsUnique m → heap_of made m lost ≡ h → IsHeap h → numbered made (λ _. true) (at h) ≡ n → Stands made m lost n
stands_at made m lost n h u e ok counts = record {
  unique = u;
  heap = subst (λ (v : Store). IsHeap v) (sym e) ok;
  counts = ap (λ (v : Store). numbered made (λ _. true) (at v)) e ∙ counts;
}

pub same_stands : (made : ℕ) (m m' : Slab Slot) (lost : List ℕ) (n : ℕ) → Stands made m lost n → IsUnique m' → SameBlocks m m' → Stands made m' lost n
same_stands made m m' lost n s u e = stands_at made m' lost n (heap_of made m lost) u (same_view made m m' lost e) s.heap s.counts

-- a block got another count or other words
block_stands : (made : ℕ) (m m' : Slab Slot) (lost : List ℕ) (n k : ℕ) (b b' : Block)
    → Stands made m lost n → IsUnique m' → kept m k ≡ Some b → Changed (kept m) (kept m') k (Some b') → b'.kind ≡ b.kind → b.count ≤ b'.count
    → ((q : ℕ) → inside (heap_of made m lost) q + naming (words_of b') q ≤ count (at (heap_of made m lost)) q + naming (words_of b) q)
    → Stands made m' lost n
block_stands made m m' lost n k b b' s u is c kind more enough =
    let h = heap_of made m lost in
    let there : at h k ≡ Some b = at_each m k ∙ is in
    let q = s.heap.bounded k b there in
    let some = s.heap.counted k b there in
    let ch = at_with_block h k b' in
    let x : numbered (limit h) (λ _. true) (at (with_block h k b')) + tells (λ _. true) (number_in (at h k)) ≡ numbered (limit h) (λ _. true) (at h) + tells (λ _. true) (fd_number b'.kind)
    = numbered_changed h k b' (λ _. true) q in
    let y : tells (λ _. true) (number_in (at h k)) ≡ tells (λ _. true) (fd_number b.kind) = ap (λ v. tells (λ _. true) (number_in v)) there in
    let z : tells (λ _. true) (fd_number b'.kind) ≡ tells (λ _. true) (fd_number b.kind) = ap (λ (v : Kind). tells (λ _. true) (fd_number v)) kind in
    let w : numbered made (λ _. true) (at h) ≡ n = s.counts in
    stands_at made m' lost n (with_block h k b') u (changed_view made m m' lost k b' c)
    (heap_changed h k b' s.heap q (omega arith) (λ n.
    let e : inside h n + naming (words_of b') n ≤ count (at h) n + naming (words_of b) n = enough n in
    let f : naming_in (at h k) n ≡ naming (words_of b) n = ap (λ v. naming_in v n) there in
    elim (eqb_tells n k) [
      | inl a ↦
          let g : count (at (with_block h k b')) n ≡ b'.count = ap (λ s. count_in (at (with_block h k b') s)) a.1 ∙ ap count_in ch.here in
          let i : count (at h) n ≡ b.count = ap (λ s. count_in (at h s)) a.1 ∙ ap count_in there in
          omega arith
      | inr a ↦ let g : count (at (with_block h k b')) n ≡ count (at h) n = ap count_in (ch.apart n a.1) in omega arith
    ]))
    (omega arith)

on_map : {A E : Type 0} (r : Result A E) (P Q : Type 0) → (P → Q) → OnOk r P → OnOk r Q
on_map (Ok x) P Q f p = f p
on_map (Err x) P Q f p = tt

on_err : {A E : Type 0} (r : Result A E) (P Q : Type 0) → (P → Q) → OnErr r P → OnErr r Q
on_err (Ok x) P Q f p = tt
on_err (Err x) P Q f p = f p

pub on_any : {A E : Type 0} (r : Result A E) (P : Type 0) → P → OnOk r P
on_any (Ok x) P p = p
on_any (Err x) P p = tt

pub err_view : {A : Type 0} (r : Result A HeapFault) (made : ℕ) (m m' : Slab Slot) (lost : List ℕ) (h : Store) → heap_of made m lost ≡ h → OnErr r (SameBlocks m m') → OnErr r (heap_of made m' lost ≡ h)
err_view r made m m' lost h e err = on_err r _ _ (λ (s : SameBlocks m m'). same_view made m m' lost s ∙ e) err

-- the view where a call went on
pub ok_view : {A : Type 0} (r : Result A HeapFault) (made : ℕ) (m m' : Slab Slot) (lost : List ℕ) (k : ℕ) (h : Store) (b : Block) (g : Block → Block)
    → heap_of made m lost ≡ h → at h k ≡ Some b
    → ((b : Block) → kept m k ≡ Some b → OnOk r (Changed (kept m) (kept m') k (Some (g b))))
    → OnOk r (heap_of made m' lost ≡ with_block h k (g b))
ok_view r made m m' lost k h b g view is ok =
    on_map r _ _ (λ (e : Changed (kept m) (kept m') k (Some (g b))). changed_view made m m' lost k (g b) e ∙ ap (λ (v : Store). with_block v k (g b)) view)
    (ok b (sym (at_each m k) ∙ ap (λ (v : Store). at v k) view ∙ is))

-- a call that changes one block, where that keeps what is true
result_stands : {A : Type 0} (r : Result A HeapFault) (made : ℕ) (m m' : Slab Slot) (lost : List ℕ) (n k : ℕ) (g : Block → Block) (o : Option Block)
    → kept m k ≡ o → (o ≡ None → r ≡ Err Dead) → Stands made m lost n → IsUnique m'
    → ((b : Block) → kept m k ≡ Some b → OnOk r (Changed (kept m) (kept m') k (Some (g b)))) → OnErr r (SameBlocks m m')
    → ((b : Block) → (x : A) → r ≡ Ok x → kept m k ≡ Some b → Changed (kept m) (kept m') k (Some (g b)) → Stands made m' lost n)
    → Stands made m' lost n
result_stands (Err x) made m m' lost n k g o is dead s u ok err step = same_stands made m m' lost n s u err
result_stands (Ok x) made m m' lost n k g None is dead s u ok err step = absurd (let z = dead refl in cc)
result_stands (Ok x) made m m' lost n k g (Some b) is dead s u ok err step = step b x refl is (ok b is)

-- one more reference to a block
pub held_stands : (made : ℕ) (m m' : Slab Slot) (lost : List ℕ) (n k : ℕ) (b : Block) → Stands made m lost n → IsUnique m' → kept m k ≡ Some b → Changed (kept m) (kept m') k (Some (one_more b)) → Stands made m' lost n
held_stands made m m' lost n k b s u is c = block_stands made m m' lost n k b (one_more b) s u is c refl (omega arith) (λ q. let f = s.heap.enough q in omega arith)

-- `hold`
pub hold_stands : (r : Result (Unit {0}) HeapFault) (made : ℕ) (m m' : Slab Slot) (lost : List ℕ) (n k : ℕ)
    → Stands made m lost n → IsUnique m' → r ≡ hold_answer (kept m k)
    → ((b : Block) → kept m k ≡ Some b → OnOk r (Changed (kept m) (kept m') k (Some (one_more b)))) → OnErr r (SameBlocks m m')
    → Stands made m' lost n
hold_stands r made m m' lost n k s u ans ok err =
    result_stands r made m m' lost n k one_more (kept m k) refl (λ e. ans ∙ ap hold_answer e) s u ok err (λ b x e is c.
    block_stands made m m' lost n k b (one_more b) s u is c refl (omega arith) (λ q. let f = s.heap.enough q in omega arith))

pub more_names : (c : Content) (more : List ℕ) (n : ℕ) → naming (cells (with_more c more)) n ≡ naming (cells c) n
more_names (wide words) more n = refl
more_names (compact numbers) more n = plain_names (numbers ++ more) n ∙ sym (plain_names numbers n)

-- a block holds something else that names the same: `append`, `widen`
pub content_stands : (r : Result (Unit {0}) HeapFault) (made : ℕ) (m m' : Slab Slot) (lost : List ℕ) (n k : ℕ) (g : Content → Content)
    → ((c : Content) (q : ℕ) → naming (cells (g c)) q ≡ naming (cells c) q)
    → Stands made m lost n → IsUnique m' → (kept m k ≡ None → r ≡ Err Dead)
    → ((b : Block) → kept m k ≡ Some b → OnOk r (Changed (kept m) (kept m') k (Some (with_content b (g b.content))))) → OnErr r (SameBlocks m m')
    → Stands made m' lost n
content_stands r made m m' lost n k g same s u dead ok err =
    result_stands r made m m' lost n k (λ (b : Block). with_content b (g b.content)) (kept m k) refl dead s u ok err (λ b x e is c.
    block_stands made m m' lost n k b (with_content b (g b.content)) s u is c refl (omega arith) (λ q.
    let f = s.heap.enough q in let i = same b.content q in omega arith))

slice_get_some : (xs : List Cell) (i : ℕ) (a d : Cell) → slice_get xs i ≡ Some a → (i < length xs) × (get_or xs i d ≡ a)
slice_get_some [] i a d e = absurd cc
slice_get_some (x ∷ xs) zero a d e = (omega arith, cc)
slice_get_some (x ∷ xs) (suc i) a d e = let p = slice_get_some xs i a d e in (omega (arith, p.0), p.1)

times : ℕ → Cell → ℕ
times n c = cond {A = ℕ} (refers n c) 1 0

pub naming_set : (words : List Cell) (i : ℕ) (c a : Cell) (n : ℕ) → slice_get words i ≡ Some a → naming (slice_set words i c) n + cond {A = ℕ} (refers n a) 1 0 ≡ naming words n + cond {A = ℕ} (refers n c) 1 0
naming_set words i c a n e =
    let p = slice_get_some words i a a e in
    let f : cond {A = ℕ} (refers n (get_or words i a)) 1 0 ≡ cond {A = ℕ} (refers n a) 1 0 = ap (λ (x : Cell). cond {A = ℕ} (refers n x) 1 0) p.1 in
    let g : naming (slice_set words i c) n + cond {A = ℕ} (refers n (get_or words i a)) 1 0 ≡ naming words n + cond {A = ℕ} (refers n c) 1 0
    = sum_by-set (λ (x : Cell). cond {A = ℕ} (refers n x) 1 0) words i c a p.0 in
    omega arith

-- at most what the new word names is named more
set_names : (v : Content) (i : ℕ) (c a : Cell) (n : ℕ) → slice_get (cells v) i ≡ Some a → naming (cells (with_cell v i c)) n ≤ naming (cells v) n + naming (c ∷ []) n
set_names (wide words) i c a n e = (let f = naming_set words i c a n e in let g = naming_cons c [] n in omega arith)
set_names (compact numbers) i (plain x) a n e = (let f = plain_names (slice_set numbers i x) n in let g = plain_names numbers n in omega arith)
set_names (compact numbers) i (refer r) a n e = omega arith
set_names (compact numbers) i (in_block s x) a n e = omega arith
set_names (compact numbers) i (in_frame s x) a n e = omega arith

set_some : (o : Option Cell) (c : Cell) (x : Unit {0}) → Ok x ≡ fits_there o c → (a : Cell) × (o ≡ Some a)
set_some None c x e = absurd cc
set_some (Some a) c x e = (a, refl)

-- `set_word`
pub set_stands : (r : Result (Unit {0}) HeapFault) (made : ℕ) (m m' : Slab Slot) (lost : List ℕ) (n k i : ℕ) (c : Cell) (h : Store)
    → heap_of made m lost ≡ h → AreHeld h (naming (c ∷ []))
    → Stands made m lost n → IsUnique m' → r ≡ set_answer (kept m k) i c
    → ((b : Block) → kept m k ≡ Some b → OnOk r (Changed (kept m) (kept m') k (Some (with_content b (with_cell b.content i c))))) → OnErr r (SameBlocks m m')
    → Stands made m' lost n
set_stands r made m m' lost n k i c h view held s u ans ok err =
    result_stands r made m m' lost n k (λ (b : Block). with_content b (with_cell b.content i c)) (kept m k) refl (λ e. ans ∙ ap (λ (v : Option Block). set_answer v i c) e) s u ok err (λ b x e is ch.
    let a = set_some (slice_get (words_of b) i) c x (sym e ∙ ans ∙ ap (λ (v : Option Block). set_answer v i c) is) in
    block_stands made m m' lost n k b (with_content b (with_cell b.content i c)) s u is ch refl (omega arith) (λ q.
    let f = s.heap.enough q in
    let g = set_names b.content i c a.0 q a.1 in
    let l : naming (c ∷ []) q ≤ outside (heap_of made m lost) q = subst (λ (v : Store). naming (c ∷ []) q ≤ outside v q) (sym view) (held q) in
    omega arith))

inside_raised : (h : Store) → IsHeap h → (q : ℕ) → inside (record h { made = h.made + 1 }) q ≡ inside h q
inside_raised h ok q =
    let x : names (suc h.made) (at h) q ≡ naming_in (at h h.made) q + names h.made (at h) q = refl in
    let y : naming_in (at h h.made) q ≡ 0 = ap (λ b. naming_in b q) (none_there h ok) in
    let z : names (h.made + 1) (at h) q ≡ names (suc h.made) (at h) q = (let e : h.made + 1 ≡ suc h.made = omega arith in ap (λ m. names m (at h) q) e) in
    omega arith

-- one more block was made; what it names was held outside
pub new_heap : (h : Store) (kind : Kind) (content : Content) → IsHeap h → AreHeld h (naming (cells content)) → IsHeap (with_new h (fresh kind content))
new_heap h kind content ok held =
    let b = fresh kind content in
    let h1 : Store = record h { made = h.made + 1 } in
    let raised : IsHeap h1 = heap_raised h ok in
    let put = at_with_block h1 h.made b in
    let bare : count (at h) h.made ≡ 0 = ap count_in (none_there h ok) in
    heap_changed h1 h.made b raised (omega arith) (omega arith) (λ q.
    let a : inside h1 q ≤ count (at h) q = raised.enough q in
    let a1 : inside h1 q ≡ inside h q = inside_raised h ok q in
    let d : naming (cells content) q ≤ outside h q = held q in
    elim (eqb_tells q h.made) [
      | inl z ↦ let f : count (at h) q ≡ 0 = ap (count (at h)) z.1 ∙ bare in omega arith
      | inr z ↦ let f : count (at (with_block h1 h.made b)) q ≡ count (at h) q = ap count_in (put.apart q z.1) in omega arith
    ])

pub new_numbered : (h : Store) (b : Block) (p : ℕ → Bool) → IsHeap h → numbered (h.made + 1) p (at (with_new h b)) ≡ numbered h.made p (at h) + tells p (fd_number b.kind)
new_numbered h b p ok =
    let h1 : Store = record h { made = h.made + 1 } in
    let u : numbered (h.made + 1) p (at (with_block h1 h.made b)) + tells p (number_in (at h h.made)) ≡ numbered (h.made + 1) p (at h) + tells p (fd_number b.kind) = numbered_changed h1 h.made b p (omega arith) in
    let v : tells p (number_in (at h h.made)) ≡ 0 = ap (λ o. tells p (number_in o)) (none_there h ok) in
    let w : numbered (suc h.made) p (at h) ≡ tells p (number_in (at h h.made)) + numbered h.made p (at h) = refl in
    let x : numbered (h.made + 1) p (at h) ≡ numbered (suc h.made) p (at h) = (let e : h.made + 1 ≡ suc h.made = omega arith in ap (λ z. numbered z p (at h)) e) in
    omega arith

pub new_stands : (made : ℕ) (m m' : Slab Slot) (lost : List ℕ) (n : ℕ) (h : Store) (kind : Kind) (content : Content)
    → Stands made m lost n → heap_of made m lost ≡ h → IsUnique m' → Changed (kept m) (kept m') made (Some (fresh kind content)) → AreHeld h (naming (cells content))
    → Stands (made + 1) m' lost (n + tells (λ _. true) (fd_number kind))
new_stands made m m' lost n g kind content s view u c held =
    let b = fresh kind content in
    let h = heap_of made m lost in
    stands_at (made + 1) m' lost (n + tells (λ _. true) (fd_number kind)) (with_new h b) u (changed_view (made + 1) m m' lost made b c)
    (new_heap h kind content s.heap (subst (λ (v : Store). AreHeld v (naming (cells content))) (sym view) held))
    (new_numbered h b (λ _. true) s.heap ∙ ap (λ x. x + tells (λ _. true) (fd_number kind)) s.counts)

pub new_view : (made : ℕ) (m m' : Slab Slot) (lost : List ℕ) (b : Block) (h : Store) → heap_of made m lost ≡ h
    → Changed (kept m) (kept m') made (Some b) → heap_of (made + 1) m' lost ≡ with_new h b
new_view made m m' lost b h e c = changed_view (made + 1) m m' lost made b c ∙ ap (λ (v : Store). with_new v b) e

-- no block has the next serial
pub next_free : (made : ℕ) (m m' : Slab Slot) (lost : List ℕ) (n : ℕ) → Stands made m lost n → SameBlocks m m' → kept m' made ≡ None
next_free made m m' lost n s e = e.same made ∙ sym (at_each m made) ∙ none_there (heap_of made m lost) s.heap

pub blank_names : (marks : List Bool) (q : ℕ) → naming (blank_cells marks) q ≡ 0
blank_names [] q = refl
blank_names (true ∷ ms) q = naming_cons (refer None) (map blank ms) q ∙ omega (arith, blank_names ms q)
blank_names (false ∷ ms) q = naming_cons (plain 0) (map blank ms) q ∙ omega (arith, blank_names ms q)

pub blank_held : (h : Store) (marks : List Bool) → AreHeld h (naming (blank_cells marks))
blank_held h marks n = omega (arith, blank_names marks n)

pub plain_held : (h : Store) (v : ℕ) → AreHeld h (naming (plain v ∷ []))
plain_held h v n = omega (arith, naming_cons (plain v) [] n)

pub blank_all : (marks : List Bool) → map cell_of (map blank_word marks) ≡ blank_cells marks
blank_all [] = refl
blank_all (true ∷ ms) = ap (λ (cs : List Cell). refer None ∷ cs) (blank_all ms)
blank_all (false ∷ ms) = ap (λ (cs : List Cell). plain 0 ∷ cs) (blank_all ms)

pub err_any : {A E : Type 0} (r : Result A E) (P : Type 0) → P → OnErr r P
err_any (Ok x) P p = tt
err_any (Err x) P p = p

pub if_map : {A E : Type 0} (r : Result A E) (P Q : A → Type 0) → ((a : A) → P a → Q a) → IfOk r P → IfOk r Q
if_map (Ok x) P Q f p = f x p
if_map (Err x) P Q f p = tt
