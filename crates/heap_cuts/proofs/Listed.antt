-- The list of a heap's blocks, place by place.
use Rattle.std.proofs.Common.{◌≡◌, ◌≢◌, ℕ, zero, suc, ◌+◌, ◌<◌, ◌≤◌, [], ◌∷◌, ◌++◌, length}
use Rattle.std.proofs.Common.{Option, Some, None, refl, sym, ap, ◌∙◌, arith, ◌⊎◌, inl, inr}
use Rattle.std.specs.Prelude.{slice_set}
use Rattle.std.specs.Option.{option_map}
use Rattle.std.proofs.lemmas.Bool.Decides.{eqb_tells}
use Rattle.ref_heap.specs.Store.{Block, Blocks, IsHeap, Store, at, count, inside, names, naming_in, outside}
use Rattle.ref_heap.specs.Store.{one_more, with_block, with_new, without_block}
use Rattle.ref_heap.specs.Slots.{Changed}
use Rattle.ref_heap.proofs.Put.{at_with_block}
use Rattle.ref_heap.proofs.Renew.{at_without}
use Rattle.heap_model.specs.Heap.{Heap, in_all, in_one}
use Rattle.heap_model.specs.Heap.{at as place}
use Rattle.heap_model.proofs.Heap.{at_last, at_more, beyond, same_places}
use Rattle.heap_cuts.specs.Shapes.{Shape, naming_of, shape_of, shapes, shapes_below}

-- ---- lists of places

one_longer : {A : Type 0} (h : Heap A) (o : Option A) → length (h ++ o ∷ []) ≡ suc (length h)
one_longer [] o = refl
one_longer (p ∷ os) o = ap suc (one_longer os o)

pub set_length : {A : Type 0} (h : Heap A) (k : ℕ) (o : Option A) → length (slice_set h k o) ≡ length h
set_length [] k o = refl
set_length (p ∷ os) zero o = refl
set_length (p ∷ os) (suc k) o = ap suc (set_length os k o)

pub set_here : {A : Type 0} (h : Heap A) (k : ℕ) (o : Option A) → k < length h → place (slice_set h k o) k ≡ o
set_here [] k o l = absurd (omega arith)
set_here (p ∷ os) zero o l = refl
set_here (p ∷ os) (suc k) o l = set_here os k o (omega arith)

pub set_apart : {A : Type 0} (h : Heap A) (k : ℕ) (o : Option A) (n : ℕ) → n ≢ k → place (slice_set h k o) n ≡ place h n
set_apart [] k o n ne = refl
set_apart (p ∷ os) zero o zero ne = absurd (ne refl)
set_apart (p ∷ os) zero o (suc n) ne = refl
set_apart (p ∷ os) (suc k) o zero ne = refl
set_apart (p ∷ os) (suc k) o (suc n) ne = set_apart os k o n (λ e. ne (ap suc e))

pub in_all_last : {A : Type 0} (inside : A → ℕ → ℕ) (h : Heap A) (o : Option A) (n : ℕ)
    → in_all inside (h ++ o ∷ []) n ≡ in_all inside h n + in_one inside o n
in_all_last inside [] o n = omega arith
in_all_last inside (p ∷ os) o n = let z = in_all_last inside os o n in omega arith

-- ---- the blocks below a limit

low : (n l : ℕ) → (n < l) ⊎ (l ≤ n)
low n zero = inr (omega arith)
low zero (suc l) = inl (omega arith)
low (suc n) (suc l) = elim (low n l) [ inl h ↦ inl (omega arith) | inr h ↦ inr (omega arith) ]

none_at : (o : Option Block) → ((b : Block) → o ≡ Some b → ⊥) → o ≡ None
none_at None f = refl
none_at (Some b) f = absurd (f b refl)

pub below_length : (l : ℕ) (m : Blocks) → length (shapes_below l m) ≡ l
below_length zero m = refl
below_length (suc l) m = one_longer (shapes_below l m) (option_map shape_of (m l)) ∙ ap suc (below_length l m)

pub at_below : (l : ℕ) (m : Blocks) (n : ℕ) → n < l → place (shapes_below l m) n ≡ option_map shape_of (m n)
at_below zero m n h = absurd (omega arith)
at_below (suc l) m n h = elim (eqb_tells n l) [
  | inl y ↦
      at_last (shapes_below l m) (option_map shape_of (m l)) n (y.1 ∙ sym (below_length l m))
      ∙ ap (λ k. option_map shape_of (m k)) (sym y.1)
  | inr y ↦ at_more (shapes_below l m) (option_map shape_of (m l)) n (λ e. y.1 (e ∙ below_length l m)) ∙ at_below l m n (omega (arith, y.1))
]

-- the same below the limit
below_same : (l : ℕ) (m m' : Blocks) → ((n : ℕ) → n < l → option_map shape_of (m n) ≡ option_map shape_of (m' n))
    → shapes_below l m ≡ shapes_below l m'
below_same zero m m' e = refl
below_same (suc l) m m' e =
    ap (λ (xs : Heap Shape). xs ++ option_map shape_of (m l) ∷ []) (below_same l m m' (λ n h. e n (omega arith)))
    ∙ ap (λ (o : Option Shape). shapes_below l m' ++ o ∷ []) (e l (omega arith))

-- one place changes
below_set : (l : ℕ) (m m' : Blocks) (k : ℕ) (w : Option Block) → Changed m m' k w
    → shapes_below l m' ≡ slice_set (shapes_below l m) k (option_map shape_of w)
below_set l m m' k w c =
    same_places (shapes_below l m') (slice_set (shapes_below l m) k (option_map shape_of w))
    (below_length l m' ∙ sym (set_length (shapes_below l m) k (option_map shape_of w) ∙ below_length l m))
    (λ n. elim (low n l) [
      | inl h ↦ at_below l m' n h ∙ elim (eqb_tells n k) [
        | inl y ↦
            ap (λ q. option_map shape_of (m' q)) y.1 ∙ ap (option_map shape_of) c.here
            ∙ sym (ap (place (slice_set (shapes_below l m) k (option_map shape_of w))) y.1
            ∙ set_here (shapes_below l m) k (option_map shape_of w) (let z = below_length l m in omega (arith, y.1)))
        | inr y ↦
            ap (option_map shape_of) (c.apart n y.1)
            ∙ sym (set_apart (shapes_below l m) k (option_map shape_of w) n y.1 ∙ at_below l m n h)
      ]
      | inr h ↦
          beyond (shapes_below l m') n (let z = below_length l m' in omega arith)
          ∙ sym (beyond (slice_set (shapes_below l m) k (option_map shape_of w)) n
          (let y = set_length (shapes_below l m) k (option_map shape_of w) in let z = below_length l m in omega arith))
    ])

pub one_named : (o : Option Block) (n : ℕ) → in_one naming_of (option_map shape_of o) n ≡ naming_in o n
one_named None n = refl
one_named (Some b) n = refl

below_names : (l : ℕ) (m : Blocks) (n : ℕ) → in_all naming_of (shapes_below l m) n ≡ names l m n
below_names zero m n = refl
below_names (suc l) m n =
    in_all_last naming_of (shapes_below l m) (option_map shape_of (m l)) n
    ∙ omega (arith, below_names l m n, one_named (m l) n)

-- ---- the blocks of a heap

pub at_below_all : (l : ℕ) (m : Blocks) → ((n : ℕ) (b : Block) → m n ≡ Some b → n < l)
    → (n : ℕ) → place (shapes_below l m) n ≡ option_map shape_of (m n)
at_below_all l m bounded n = elim (low n l) [
  | inl h ↦ at_below l m n h
  | inr h ↦
      beyond (shapes_below l m) n (let z = below_length l m in omega arith)
      ∙ sym (ap (option_map shape_of) (none_at (m n) (λ b e. let q = bounded n b e in omega arith)))
]

pub at_shapes : (h : Store) → IsHeap h → (n : ℕ) → place (shapes h) n ≡ option_map shape_of (at h n)
at_shapes h ok n = at_below_all h.made (at h) ok.bounded n

pub length_shapes : (h : Store) → length (shapes h) ≡ h.made
length_shapes h = below_length h.made (at h)

pub new_shapes : (h : Store) (b : Block) → shapes (with_new h b) ≡ shapes h ++ Some (shape_of b) ∷ []
new_shapes h b =
    let g : Store = record h { made = h.made + 1 } in
    let c = at_with_block g h.made b in
    let e : shapes_below (h.made + 1) (at (with_new h b)) ≡ shapes_below (suc h.made) (at (with_new h b)) =
    (let z : h.made + 1 ≡ suc h.made = omega arith in ap (λ l. shapes_below l (at (with_new h b))) z) in
    let same : shapes_below h.made (at (with_new h b)) ≡ shapes h =
    below_same h.made (at (with_new h b)) (at h) (λ n l. ap (option_map shape_of) (c.apart n (λ q. omega arith))) in
    e
    ∙ ap (λ (xs : Heap Shape). xs ++ option_map shape_of (at (with_new h b) h.made) ∷ []) same
    ∙ ap (λ (o : Option Block). shapes h ++ option_map shape_of o ∷ []) c.here

pub put_shapes : (h : Store) (k : ℕ) (b : Block) → shapes (with_block h k b) ≡ slice_set (shapes h) k (Some (shape_of b))
put_shapes h k b = below_set h.made (at h) (at (with_block h k b)) k (Some b) (at_with_block h k b)

pub taken_shapes : (h : Store) (k : ℕ) → shapes (without_block h k) ≡ slice_set (shapes h) k None
taken_shapes h k = below_set h.made (at h) (at (without_block h k)) k None (at_without h k)

pub held_shapes : (h : Store) (k : ℕ) (b : Block) → at h k ≡ Some b → shapes (with_block h k (one_more b)) ≡ shapes h
held_shapes h k b is = below_same h.made (at (with_block h k (one_more b))) (at h) (λ n l. elim (eqb_tells n k) [
  | inl y ↦
      ap (λ q. option_map shape_of (at (with_block h k (one_more b)) q)) y.1
      ∙ ap (option_map shape_of) (at_with_block h k (one_more b)).here
      ∙ sym (ap (λ q. option_map shape_of (at h q)) y.1 ∙ ap (option_map shape_of) is)
  | inr y ↦ ap (option_map shape_of) ((at_with_block h k (one_more b)).apart n y.1)
])

pub names_shapes : (h : Store) (n : ℕ) → in_all naming_of (shapes h) n ≡ inside h n
names_shapes h n = below_names h.made (at h) n

pub counts_shapes : (h : Store) → IsHeap h → (n : ℕ) → count (at h) n ≡ outside h n + in_all naming_of (shapes h) n
counts_shapes h ok n = let e = ok.enough n in let z = names_shapes h n in omega arith
