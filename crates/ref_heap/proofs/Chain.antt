-- What a step does to the chain of slots.
use Rattle.std.proofs.Common.{◌≡◌, ◌≢◌, ℕ, zero, suc, ◌+◌, ◌-◌, ◌<◌, ◌≤◌, Bool, true, false, cond, List, [], ◌∷◌, Option, Some, None, refl, sym, ap, subst, ◌∙◌, arith, ◌⊎◌, inl, inr}
use Rattle.std.proofs.Common.{drop, length, get_or, drop-cons, add-one}
use Rattle.std.specs.Prelude.{map}
use Rattle.std.specs.List.{count_by}
use Rattle.std.specs.List.Sorted.{IsPermutation}
use Rattle.std.proofs.lemmas.List.{drop_all}
use Rattle.std.proofs.lemmas.List.Sorted.{sum_by-IsPermutation}
use Rattle.std.proofs.lemmas.Bool.Decides.{eqb_tells}
use Rattle.slab.specs.Slab.{Slab, get}
use Rattle.ref_heap.specs.declared.word.Word.{Word}
use Rattle.ref_heap.specs.declared.slots.Slot.{Slot}
use Rattle.ref_heap.specs.Words.{Cell, cell_of, name_of, is_serial, naming}
use Rattle.ref_heap.specs.Answers.{most}
use Rattle.ref_heap.specs.Kinds.{fd_number}
use Rattle.ref_heap.specs.Store.{Block, Blocks, words_of, count_in, naming_in, count, names, one}
use Rattle.ref_heap.specs.Drops.{IsSameBut, Freed, numbered, tells, number_in}
use Rattle.ref_heap.specs.Slots.{kept, block_of, Changed, IsUnique, DropsOne, KeepsOthers, KeepsNumbers}
use Rattle.ref_heap.specs.Chain.{Dropping, has, without, chain_names, Links, serials, Threaded, Loose, named, DropsAll, Ready, FreesAll, Releasable, Releases}
use Rattle.ref_heap.proofs.Sums.{sum_same, sum_changed, sum_has}
use Rattle.ref_heap.proofs.Steps.{less, goes, present, dropped}
use Rattle.ref_heap.proofs.Naming.{naming_cons}
use Rattle.ref_heap.proofs.Places.{kept_at}

pub not_within : (all : Blocks) (chain : List ℕ) (k : ℕ) (b : Block) → without chain all k ≡ Some b → has k chain ≡ false
not_within all chain k b = elim (has k chain) as (λ v. cond v None (all k) ≡ Some b → v ≡ false) [ true ↦ λ e. cc | false ↦ λ e. refl ]

pub without_here : (all : Blocks) (chain : List ℕ) (k : ℕ) → has k chain ≡ false → without chain all k ≡ all k
without_here all chain k e = ap (λ v. cond v None (all k)) e

pub has_tail : (k x : ℕ) (xs : List ℕ) → has k (x ∷ xs) ≡ false → (x ≢ k) × (has k xs ≡ false)
has_tail k x xs e = elim (eqb_tells x k) [
  | inl y ↦ absurd (let f : true ≡ false = sym (ap (λ v. cond v true (has k xs)) y.0) ∙ e in cc)
  | inr y ↦ (y.1, sym (ap (λ v. cond v true (has k xs)) y.0) ∙ e)
]

pub names_apart : (all all' : Blocks) (chain : List ℕ) (k n : ℕ) → has k chain ≡ false → ((q : ℕ) → q ≢ k → all' q ≡ all q) → chain_names all' chain n ≡ chain_names all chain n
names_apart all all' [] k n h e = refl
names_apart all all' (x ∷ xs) k n h e =
    let t = has_tail k x xs h in
    let a : naming_in (all' x) n ≡ naming_in (all x) n = ap (λ b. naming_in b n) (e x t.0) in
    let b : chain_names all' xs n ≡ chain_names all xs n = names_apart all all' xs k n t.1 e in
    omega arith

-- a change outside the chain
pub changed_live : (all all' : Blocks) (chain : List ℕ) (k : ℕ) (w : Option Block) → has k chain ≡ false → Changed all all' k w → Changed (without chain all) (without chain all') k w
changed_live all all' chain k w h c = record {
  here = without_here all' chain k h ∙ c.here;
  apart = λ q a. ap (λ b. cond (has q chain) None b) (c.apart q a);
}

pub gone_here : (all : Blocks) (chain : List ℕ) (k : ℕ) → without (k ∷ chain) all k ≡ None
gone_here all chain k = elim (eqb_tells k k) [
  | inl y ↦ ap (λ v. cond (cond v true (has k chain)) None (all k)) y.0
  | inr y ↦ absurd (y.1 refl)
]

pub gone_apart : (all all' : Blocks) (chain : List ℕ) (k q : ℕ) → q ≢ k → all' q ≡ all q → without (k ∷ chain) all' q ≡ without chain all q
gone_apart all all' chain k q a e = elim (eqb_tells k q) [
  | inl y ↦ absurd (a (sym y.1))
  | inr y ↦ ap (λ v. cond (cond v true (has q chain)) None (all' q)) y.0 ∙ ap (λ b. cond (has q chain) None b) e
]

pub dropping_same : (limit : ℕ) (outside : ℕ → ℕ) (before now now' : Blocks) (due due' : ℕ → ℕ) → ((n : ℕ) → now' n ≡ now n) → ((n : ℕ) → due' n ≡ due n) → Dropping limit outside before now due → Dropping limit outside before now' due'
dropping_same limit outside before now now' due due' e f d = record {
  exact = λ n.
      let a : count now' n ≡ count now n = ap count_in (e n) in
      let b : names limit now' n ≡ names limit now n = sum_same limit _ _ (λ s. ap (λ v. naming_in v n) (e s)) in
      omega (arith, d.exact n, f n);
  counted = λ n a at. d.counted n a (sym (e n) ∙ at);
  part = λ s. subst (λ v. IsSameBut v (before s)) (sym (e s)) (d.part s);
  greatest = λ m p q s. subst (λ v. IsSameBut (m s) v) (sym (e s)) (d.greatest m p q s);
}

none_both : (v : Bool) → cond {A = Option Block} v None None ≡ None
none_both true = refl
none_both false = refl

pub without_gone : (all all' : Blocks) (xs : List ℕ) (n x : ℕ) → all' n ≡ None → n ≡ x → without xs all' n ≡ without (x ∷ xs) all n
without_gone all all' xs n x g e = ap (λ b. cond (has n xs) None b) g ∙ none_both (has n xs) ∙ sym (subst (λ v. without (v ∷ xs) all n ≡ None) e (gone_here all xs n))

pub without_apart : (all all' : Blocks) (xs : List ℕ) (n x : ℕ) → n ≢ x → all' n ≡ all n → without xs all' n ≡ without (x ∷ xs) all n
without_apart all all' xs n x a e = ap (λ b. cond (has n xs) None b) e ∙ sym (gone_apart all all xs x n a refl)

threaded_apart : (m m' : Slab Slot) (ls : Links) (head k : ℕ) → has k (serials ls) ≡ false → KeepsOthers m m' k → Threaded m head ls → Threaded m' head ls
threaded_apart m m' [] head k h o t = t
threaded_apart m m' (l ∷ ls) head k h o t =
    let u = has_tail k l.1 (serials ls) h in
    (t.0, t.1, t.2, (t.3.0, o.slot l.0 t.3.0 t.3.1 (λ e. u.0 (sym t.3.2 ∙ e)), t.3.2, threaded_apart m m' ls t.3.0.count k u.1 o t.3.3))

bounded_put : (limit : ℕ) (m m' : Slab Slot) (k : ℕ) (b b' : Block) → kept m k ≡ Some b → Changed (kept m) (kept m') k (Some b')
    → ((n : ℕ) (a : Block) → kept m n ≡ Some a → n < limit) → (n : ℕ) (a : Block) → kept m' n ≡ Some a → n < limit
bounded_put limit m m' k b b' is c h n a at =
    elim (eqb_tells n k) [
      | inl y ↦ h n b (ap (kept m) y.1 ∙ is)
      | inr y ↦ h n a (sym (c.apart n y.1) ∙ at)
    ]

-- the block of a name that is due: it is kept, outside of the chain, and counted
record Due (m : Slab Slot) (ls : Links) (k : ℕ) : Type 0 where
  block : Block
  is : kept m k ≡ Some block
  free : has k (serials ls) ≡ false
  counted : 0 < block.count

due : (limit : ℕ) (outside : ℕ → ℕ) (before : Blocks) (m : Slab Slot) (head : ℕ) (rest : ℕ → ℕ) (k : ℕ) → (l : Loose limit outside before m head rest) → 0 < rest k → Due m l.links k
due limit outside before m head rest k l some =
    let p = present limit outside before (without (serials l.links) (kept m)) (λ n. rest n + chain_names (kept m) (serials l.links) n) l.dropping k (omega arith) in
    let h = not_within (kept m) (serials l.links) k p.0 p.1 in
    record { block = p.0; is = sym (without_here (kept m) (serials l.links) k h) ∙ p.1; free = h; counted = l.dropping.counted k p.0 p.1 }

-- a name is dropped, and its block keeps others
pub loose_less : (limit : ℕ) (outside : ℕ → ℕ) (before : Blocks) (m m' : Slab Slot) (head : ℕ) (rest rest' : ℕ → ℕ) (k : ℕ) (b : Block)
    → Loose limit outside before m head rest → ((n : ℕ) → rest n ≡ one k n + rest' n) → 0 < rest k
    → kept m k ≡ Some b → 1 < b.count → Changed (kept m) (kept m') k (Some (record b { count = b.count - 1 })) → KeepsOthers m m' k
    → Loose limit outside before m' head rest'
loose_less limit outside before m m' head rest rest' k b l parts some is more c o =
    let d = due limit outside before m head rest k l some in
    record {
      links = l.links;
      threaded = threaded_apart m m' l.links head k d.free o l.threaded;
      dropping = less limit outside before (without (serials l.links) (kept m)) (without (serials l.links) (kept m')) _ _ k b l.dropping
          (without_here (kept m) (serials l.links) k d.free ∙ is) more (l.bounded k b is) (changed_live (kept m) (kept m') (serials l.links) k _ d.free c)
          (λ n. let x : chain_names (kept m') (serials l.links) n ≡ chain_names (kept m) (serials l.links) n = names_apart (kept m) (kept m') (serials l.links) k n d.free c.apart in omega (arith, parts n));
      bounded = bounded_put limit m m' k b _ is c l.bounded;
    }

-- it was the last name of its block, whose slot goes to the front of the chain
pub loose_last : (limit : ℕ) (outside : ℕ → ℕ) (before : Blocks) (m m' : Slab Slot) (head next : ℕ) (rest rest' : ℕ → ℕ) (k : ℕ) (b : Block) (s : Slot)
    → Loose limit outside before m head rest → ((n : ℕ) → rest n ≡ one k n + rest' n) → 0 < rest k
    → kept m k ≡ Some b → b.count ≡ 1 → Changed (kept m) (kept m') k (Some (record b { count = head })) → KeepsOthers m m' k
    → get m' next ≡ Some s → s.serial ≡ k → s.count ≡ head → next ≢ most
    → Loose limit outside before m' next rest'
loose_last limit outside before m m' head next rest rest' k b s l parts some is last c o at has_k has_head small =
    let d = due limit outside before m head rest k l some in
    let t = threaded_apart m m' l.links head k d.free o l.threaded in
    record {
      links = (next, k) ∷ l.links;
      threaded = (refl, small, d.free, (s, at, has_k, subst (λ (n : ℕ). Threaded m' n l.links) (sym has_head) t));
      dropping = goes limit outside before (without (serials l.links) (kept m)) (without (k ∷ serials l.links) (kept m')) _ _ k b l.dropping
          (without_here (kept m) (serials l.links) k d.free ∙ is) last (l.bounded k b is)
          (record { here = gone_here (kept m') (serials l.links) k; apart = λ q a. gone_apart (kept m) (kept m') (serials l.links) k q a (c.apart q a) })
          (omega arith)
          (λ n. let x : chain_names (kept m') (serials l.links) n ≡ chain_names (kept m) (serials l.links) n = names_apart (kept m) (kept m') (serials l.links) k n d.free c.apart in
          let y : naming_in (kept m' k) n ≡ naming (words_of b) n = ap (λ v. naming_in v n) c.here in
          omega (arith, parts n));
      bounded = bounded_put limit m m' k b _ is c l.bounded;
    }

-- no name is due but those of the chain: the block of its first slot is taken out
pub loose_taken : (limit : ℕ) (outside : ℕ → ℕ) (before : Blocks) (m m' : Slab Slot) (head : ℕ) (rest : ℕ → ℕ) (s : Slot)
    → IsUnique m → Loose limit outside before m head rest → ((n : ℕ) → rest n ≡ 0) → get m head ≡ Some s → head ≢ most
    → Changed (kept m) (kept m') s.serial None → KeepsOthers m m' s.serial
    → Loose limit outside before m' s.count (naming (words_of (block_of s)))
loose_taken limit outside before m m' head rest s u l none is some c o = taken l.links l.threaded l.dropping
  where
    taken : (ls : Links) → Threaded m head ls → Dropping limit outside before (without (serials ls) (kept m)) (λ n. rest n + chain_names (kept m) (serials ls) n) → Loose limit outside before m' s.count (naming (words_of (block_of s)))
    taken [] t d = absurd (some t)
    taken (x ∷ xs) t d =
        let same : t.3.0 ≡ s = (let f : Some t.3.0 ≡ Some s = sym t.3.1 ∙ ap (get m) (sym t.0) ∙ is in cc) in
        let k : s.serial ≡ x.1 = ap (λ (v : Slot). v.serial) (sym same) ∙ t.3.2 in
        let h : has s.serial (serials xs) ≡ false = ap (λ v. has v (serials xs)) k ∙ t.2 in
        let v : Threaded m s.count xs = subst (λ (v : Slot). Threaded m v.count xs) same t.3.3 in
        let here : kept m s.serial ≡ Some (block_of s) = kept_at m head s u is in
        record {
          links = xs;
          threaded = threaded_apart m m' xs s.count s.serial h o v;
          dropping = dropping_same limit outside before (without (serials (x ∷ xs)) (kept m)) (without (serials xs) (kept m')) _ _
              (λ n. elim (eqb_tells n x.1) [
                | inl y ↦ let a : n ≡ s.serial = y.1 ∙ sym k in without_gone (kept m) (kept m') (serials xs) n x.1 (ap (kept m') a ∙ c.here) y.1
                | inr y ↦ without_apart (kept m) (kept m') (serials xs) n x.1 y.1 (c.apart n (λ z. y.1 (z ∙ k)))
              ])
              (λ n. let e : chain_names (kept m') (serials xs) n ≡ chain_names (kept m) (serials xs) n = names_apart (kept m) (kept m') (serials xs) s.serial n h c.apart in
              let f : naming_in (kept m x.1) n ≡ naming (words_of (block_of s)) n = ap (λ z. naming_in z n) (ap (kept m) (sym k) ∙ here) in
              omega (arith, none n))
              d;
          bounded = λ n a at. elim (eqb_tells n s.serial) [
            | inl y ↦ absurd (let z : Some a ≡ None = sym at ∙ ap (kept m') y.1 ∙ c.here in cc)
            | inr y ↦ l.bounded n a (sym (c.apart n y.1) ∙ at)
          ];
        }

-- the chain is empty
pub loose_end : (limit : ℕ) (outside : ℕ → ℕ) (before : Blocks) (m : Slab Slot) (rest : ℕ → ℕ) → Loose limit outside before m most rest → ((n : ℕ) → rest n ≡ 0) → Freed limit outside before (kept m)
loose_end limit outside before m rest l none = ends l.links l.threaded l.dropping
  where
    ends : (ls : Links) → Threaded m most ls → Dropping limit outside before (without (serials ls) (kept m)) (λ n. rest n + chain_names (kept m) (serials ls) n) → Freed limit outside before (kept m)
    ends [] t d = dropped limit outside before (kept m) _ d (λ n. omega (arith, none n))
    ends (x ∷ xs) t d = absurd (t.1 (sym t.0))

le_cases : (n : ℕ) → (1 < n) ⊎ (n ≤ 1)
le_cases zero = inr (omega arith)
le_cases (suc zero) = inr (omega arith)
le_cases (suc (suc n)) = inl (omega arith)

one_here : (k : ℕ) → one k k ≡ 1
one_here k = elim (eqb_tells k k) [ inl y ↦ ap (λ b. cond b 1 0) y.0 | inr y ↦ absurd (y.1 refl) ]

loose_same : (limit : ℕ) (outside : ℕ → ℕ) (before : Blocks) (m : Slab Slot) (head : ℕ) (rest rest' : ℕ → ℕ) → ((n : ℕ) → rest' n ≡ rest n) → Loose limit outside before m head rest → Loose limit outside before m head rest'
loose_same limit outside before m head rest rest' e l = record {
  links = l.links;
  threaded = l.threaded;
  dropping = dropping_same limit outside before _ _ _ _ (λ n. refl) (λ n. omega (arith, e n)) l.dropping;
  bounded = l.bounded;
}

counted_so : (m : Slab Slot) (i k : ℕ) (s : Slot) (b : Block) (head : ℕ) → IsUnique m → get m i ≡ Some s → s.serial ≡ k → kept m k ≡ Some (record b { count = head }) → s.count ≡ head
counted_so m i k s b head u is serial e =
    let f : kept m s.serial ≡ Some (block_of s) = kept_at m i s u is in
    let g : kept m s.serial ≡ kept m k = ap (kept m) serial in
    let x : count_in (kept m s.serial) ≡ s.count = ap count_in f in
    let y : count_in (kept m k) ≡ head = ap count_in e in
    let z : count_in (kept m s.serial) ≡ count_in (kept m k) = ap count_in g in
    omega arith

-- a word that names a block
word_names : (limit : ℕ) (outside : ℕ → ℕ) (before : Blocks) (old new : Slab Slot) (head next k : ℕ) (c : Cell) (cs : List Cell)
    → name_of c ≡ Some k → IsUnique new → DropsOne old new k head next → KeepsOthers old new k
    → Loose limit outside before old head (naming (c ∷ cs)) → Loose limit outside before new next (naming cs)
word_names limit outside before old new head next k c cs e u d o l =
    let parts : (n : ℕ) → naming (c ∷ cs) n ≡ one k n + naming cs n = λ n. naming_cons c cs n ∙ ap (λ v. cond (is_serial n v) 1 0 + naming cs n) e in
    let some : 0 < naming (c ∷ cs) k = (let x = parts k in let y : one k k ≡ 1 = one_here k in omega arith) in
    let p = due limit outside before old head (naming (c ∷ cs)) k l some in
    let live = p.counted in
    elim (le_cases p.block.count) [
      | inl more ↦
          let q = d.less p.block p.is more in
          subst (λ (v : ℕ). Loose limit outside before new v (naming cs)) (sym q.1)
          (loose_less limit outside before old new head (naming (c ∷ cs)) (naming cs) k p.block l parts some p.is more q.0 o)
      | inr few ↦
          let q = d.last p.block p.is (omega arith) in
          let a = q.1 in
          let count = counted_so new next k a.block p.block head u a.is a.has_serial q.0.here in
          loose_last limit outside before old new head next (naming (c ∷ cs)) (naming cs) k p.block a.block l parts some p.is (omega arith) q.0 o
          a.is a.has_serial count (λ z. let y = u.small next a.block a.is in omega arith)
    ]

cells_left : (ws : List Word) (i : ℕ) (d : Word) → i < length ws → map cell_of (drop i ws) ≡ cell_of (get_or ws i d) ∷ map cell_of (drop (i + 1) ws)
cells_left ws i d h = rw (add-one, drop-cons ws i d) refl

pub words_name : (limit : ℕ) (outside : ℕ → ℕ) (before : Blocks) (old new : Slab Slot) (head next k : ℕ) (ws : List Word) (i : ℕ) (d : Word)
    → i < length ws → name_of (cell_of (get_or ws i d)) ≡ Some k → IsUnique new → DropsOne old new k head next → KeepsOthers old new k
    → Loose limit outside before old head (naming (map cell_of (drop i ws))) → Loose limit outside before new next (naming (map cell_of (drop (i + 1) ws)))
words_name limit outside before old new head next k ws i d h e u o ko l =
    word_names limit outside before old new head next k (cell_of (get_or ws i d)) (map cell_of (drop (i + 1) ws)) e u o ko
    (subst (λ (cs : List Cell). Loose limit outside before old head (naming cs)) (cells_left ws i d h) l)

pub words_plain : (limit : ℕ) (outside : ℕ → ℕ) (before : Blocks) (m : Slab Slot) (head : ℕ) (ws : List Word) (i : ℕ) (d : Word)
    → i < length ws → name_of (cell_of (get_or ws i d)) ≡ None
    → Loose limit outside before m head (naming (map cell_of (drop i ws))) → Loose limit outside before m head (naming (map cell_of (drop (i + 1) ws)))
words_plain limit outside before m head ws i d h e l =
    let c = cell_of (get_or ws i d) in
    let cs = map cell_of (drop (i + 1) ws) in
    loose_same limit outside before m head (naming (c ∷ cs)) (naming cs)
    (λ n. let x : naming (c ∷ cs) n ≡ 0 + naming cs n = naming_cons c cs n ∙ ap (λ v. cond {A = ℕ} (is_serial n v) 1 0 + naming cs n) e in omega arith)
    (subst (λ (cs : List Cell). Loose limit outside before m head (naming cs)) (cells_left ws i d h) l)

pub words_end : (limit : ℕ) (outside : ℕ → ℕ) (before : Blocks) (m : Slab Slot) (head : ℕ) (ws : List Word) (i : ℕ) → length ws ≤ i
    → Loose limit outside before m head (naming (map cell_of (drop i ws))) → Loose limit outside before m head (λ _. 0)
words_end limit outside before m head ws i h l = subst (λ (v : List Word). Loose limit outside before m head (naming (map cell_of v))) (drop_all i ws h) l

pub loose_step : (limit : ℕ) (outside : ℕ → ℕ) (before : Blocks) (m m1 m2 : Slab Slot) (head next : ℕ) (s : Slot) (refs : List Word)
    → IsUnique m → head ≢ most → get m head ≡ Some s → Changed (kept m) (kept m1) s.serial None → KeepsOthers m m1 s.serial
    → ((n : ℕ) → named refs n ≡ naming (words_of (block_of s)) n) → DropsAll m1 m2 refs s.count next
    → Loose limit outside before m head (λ _. 0) → Loose limit outside before m2 next (λ _. 0)
loose_step limit outside before m m1 m2 head next s refs u some is c o e d l =
    d limit outside before (loose_same limit outside before m1 s.count (naming (words_of (block_of s))) (named refs) e (loose_taken limit outside before m m1 head (λ _. 0) s u l (λ n. refl) is some c o))

-- the numbers of the blocks that are left, once the block of a slot is taken out
pub numbered_step : (limit : ℕ) (m m1 m2 : Slab Slot) (s : Slot) (p : ℕ → Bool)
    → s.serial < limit → kept m s.serial ≡ Some (block_of s) → Changed (kept m) (kept m1) s.serial None → KeepsNumbers m1 m2
    → numbered limit p (kept m2) + tells p (fd_number s.kind) ≡ numbered limit p (kept m)
numbered_step limit m m1 m2 s p h is ch k =
    let e : numbered limit p (kept m2) ≡ numbered limit p (kept m1) = sum_same limit _ _ (λ q. ap (tells p) (k.same q)) in
    let f : numbered limit p (kept m1) + tells p (number_in (kept m s.serial)) ≡ numbered limit p (kept m) + tells p (number_in (kept m1 s.serial)) =
    sum_changed limit (λ q. tells p (number_in (kept m1 q))) (λ q. tells p (number_in (kept m q))) s.serial h (λ q a. ap (λ v. tells p (number_in v)) (ch.apart q a)) in
    let g : tells p (number_in (kept m s.serial)) ≡ tells p (fd_number s.kind) = ap (λ v. tells p (number_in v)) is in
    let i : tells p (number_in (kept m1 s.serial)) ≡ 0 = ap (λ v. tells p (number_in v)) ch.here in
    omega arith

pub bound_at : (limit : ℕ) (outside : ℕ → ℕ) (before : Blocks) (m : Slab Slot) (head k : ℕ) (rest : ℕ → ℕ) (s : Slot) → IsUnique m → Loose limit outside before m head rest → get m k ≡ Some s → s.serial < limit
bound_at limit outside before m head k rest s u l is = l.bounded s.serial (block_of s) (kept_at m k s u is)

-- the number of the next block has room
pub ready_room : (m : Slab Slot) (head len capacity : ℕ) (s : Slot) → Ready m head len capacity → get m head ≡ Some s → tells (λ _. true) (fd_number s.kind) + len ≤ capacity
ready_room m head len capacity s r is =
    let here = kept_at m head s r.unique is in
    let l : tells (λ _. true) (number_in (kept m s.serial)) ≤ numbered r.limit (λ _. true) (kept m) =
    sum_has r.limit (λ q. tells (λ _. true) (number_in (kept m q))) s.serial (r.loose.bounded s.serial (block_of s) here) in
    let g : tells (λ _. true) (number_in (kept m s.serial)) ≡ tells (λ _. true) (fd_number s.kind) = ap (λ v. tells (λ _. true) (number_in v)) here in
    let room : numbered r.limit (λ _. true) (kept m) + len ≤ capacity = r.room in
    omega arith

pub ready_step : (m m1 m2 : Slab Slot) (head next len len' capacity : ℕ) (s : Slot) (refs : List Word)
    → IsUnique m2 → head ≢ most → get m head ≡ Some s → Changed (kept m) (kept m1) s.serial None → KeepsOthers m m1 s.serial
    → ((n : ℕ) → named refs n ≡ naming (words_of (block_of s)) n) → DropsAll m1 m2 refs s.count next → KeepsNumbers m1 m2
    → len' ≡ len + tells (λ _. true) (fd_number s.kind)
    → Ready m head len capacity → Ready m2 next len' capacity
ready_step m m1 m2 head next len len' capacity s refs u some is c o same d k e r =
    let here = kept_at m head s r.unique is in
    let n = numbered_step r.limit m m1 m2 s (λ _. true) (r.loose.bounded s.serial (block_of s) here) here c k in
    let room : numbered r.limit (λ _. true) (kept m) + len ≤ capacity = r.room in
    record {
      unique = u;
      limit = r.limit;
      outside = r.outside;
      before = r.before;
      loose = loose_step r.limit r.outside r.before m m1 m2 head next s refs r.unique some is c o same d r.loose;
      room = omega arith;
    }

pub loose_head : (m : Slab Slot) (head len capacity : ℕ) → Ready m head len capacity → head ≢ most → get m head ≡ None → ⊥
loose_head m head len capacity r some e = head_of r.loose.links r.loose.threaded
  where
    head_of : (ls : Links) → Threaded m head ls → ⊥
    head_of [] t = some t
    head_of (x ∷ xs) t = (let z : None ≡ Some t.3.0 = sym e ∙ ap (get m) t.0 ∙ t.3.1 in cc)

pub ready_start : (m m1 : Slab Slot) (words : List Word) (head capacity : ℕ) → Releasable m words capacity → IsUnique m1 → DropsAll m m1 words most head → KeepsNumbers m m1 → Ready m1 head 0 capacity
ready_start m m1 words head capacity r u d k =
    let e : numbered r.limit (λ _. true) (kept m1) ≡ numbered r.limit (λ _. true) (kept m) = sum_same r.limit _ _ (λ s. ap (tells (λ _. true)) (k.same s)) in
    let room : numbered r.limit (λ _. true) (kept m) ≤ capacity = r.room in
    record {
      unique = u;
      limit = r.limit;
      outside = r.outside;
      before = kept m;
      loose = d r.limit r.outside (kept m) r.loose;
      room = omega arith;
    }

pub releases : (m m1 m2 : Slab Slot) (words : List Word) (head : ℕ) (empty lost sorted : List ℕ)
    → empty ≡ [] → DropsAll m m1 words most head → KeepsNumbers m m1 → FreesAll m1 m2 head empty lost → IsPermutation lost sorted
    → Releases m m2 words sorted
releases m m1 m2 words head empty lost sorted none d k f p limit outside l =
    let g = f limit outside (kept m) (d limit outside (kept m) l) in (
      g.0,
      λ q.
          let e : numbered limit q (kept m1) ≡ numbered limit q (kept m) = sum_same limit _ _ (λ s. ap (tells q) (k.same s)) in
          let x : count_by q sorted ≡ count_by q lost = sum_by-IsPermutation _ lost sorted p in
          let y : count_by q lost + numbered limit q (kept m2) ≡ count_by q empty + numbered limit q (kept m1) = g.1 q in
          let z : count_by q empty ≡ 0 = ap (count_by q) none in
          omega arith,
    )

pub keeps_on : (a b c : Slab Slot) → KeepsNumbers a b → KeepsNumbers b c → KeepsNumbers a c
keeps_on a b c p q = record { same = λ s. q.same s ∙ p.same s; len = q.len ∙ p.len }
