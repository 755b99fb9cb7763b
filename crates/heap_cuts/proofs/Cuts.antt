-- What a drop leaves is what stays.
use Rattle.std.proofs.Common.{◌≡◌, ℕ, zero, suc, ◌+◌, ◌-◌, ◌<◌, ◌≤◌, Bool, true, false, cond}
use Rattle.std.proofs.Common.{Option, Some, None, refl, sym, ap, subst, ◌∙◌, arith, ◌⊎◌, inl, inr}
use Rattle.std.specs.Option.{option_map}
use Rattle.ref_heap.specs.Words.{Content, cells, naming}
use Rattle.ref_heap.specs.Store.{Block, Blocks, IsHeap, Store, at, count, count_in, inside, limit, names, naming_in, outside, sum_below}
use Rattle.ref_heap.specs.Drops.{Freed, IsSameBut, Settled}
use Rattle.ref_heap.proofs.Sums.{sum_has, sum_same}
use Rattle.ref_heap.proofs.Steps.{dropped}
use Rattle.ref_heap.proofs.View.{dropping_of, heap_after}
use Rattle.ref_heap.proofs.Outside.{drop_outside}
use Rattle.heap_model.specs.Kept.{Held, IsKept}
use Rattle.heap_model.specs.Heap.{Heap, graph, in_one, stays, there}
use Rattle.heap_model.specs.Heap.{at as place}
use Rattle.heap_model.proofs.Heap.{fun_ext, part, same_places, stays_at, stays_is, stays_length}
use Rattle.heap_cuts.specs.Shapes.{Shape, naming_of, shape_of, shapes, shapes_below}
use Rattle.heap_cuts.specs.Laws.{GivesAway}
use Rattle.heap_cuts.proofs.Listed.{at_below_all, at_shapes, length_shapes, one_named}

-- ---- one place

abbrev with_count : ℕ → Option Block → Option Block
with_count c None = None
with_count c (Some b) = Some (record b { count = c })

abbrev only_if : Bool → Option Block → Option Block
only_if true o = o
only_if false o = None

counted_named : (k : Bool) (c : ℕ) (o : Option Block) (n : ℕ) → naming_in (only_if k (with_count c o)) n ≡ naming_in (only_if k o) n
counted_named true c None n = refl
counted_named true c (Some b) n = refl
counted_named false c o n = refl

counted_same : (k : Bool) (c : ℕ) (o : Option Block) → IsSameBut (only_if k (with_count c o)) o
counted_same true c None = tt
counted_same true c (Some b) = (refl, refl)
counted_same false c o = tt

counted_count : (k : Bool) (c : ℕ) (o : Option Block) (b : Block) → k ≡ true → o ≡ Some b → count_in (only_if k (with_count c o)) ≡ c
counted_count true c (Some a) b e f = refl
counted_count true c None b e f = absurd cc
counted_count false c o b e f = absurd cc

gone_count : (k : Bool) (c : ℕ) (o : Option Block) → k ≡ false → count_in (only_if k (with_count c o)) ≡ 0
gone_count true c o e = absurd cc
gone_count false c o e = refl

counted_some : (k : Bool) (c : ℕ) (o : Option Block) (x : Block) → only_if k (with_count c o) ≡ Some x → (k ≡ true) × (x.count ≡ c)
counted_some true c (Some b) x e = (refl, (let f : c ≡ x.count = ap count_in e in sym f))
counted_some true c None x e = absurd cc
counted_some false c o x e = absurd cc

counted_there : (k : Bool) (c : ℕ) (o a : Option Block) (b : Block) → k ≡ true → o ≡ Some b
    → IsSameBut (only_if k (with_count c o)) a → (x : Block) × (a ≡ Some x)
counted_there true c (Some b') None b e f s = absurd s
counted_there true c (Some b') (Some x) b e f s = (x, refl)
counted_there true c None a b e f s = absurd cc
counted_there false c o a b e f s = absurd cc

left_named : (k : Bool) (o : Option Block) (n : ℕ) → 0 < naming_in (only_if k o) n → (k ≡ true) × (0 < naming_in o n)
left_named true o n p = (refl, p)
left_named false o n p = absurd (omega arith)

named_left : (k : Bool) (o : Option Block) (n : ℕ) → k ≡ true → 0 < naming_in o n → 0 < naming_in (only_if k o) n
named_left true o n e p = p
named_left false o n e p = absurd cc

named_some : (o : Option Block) (n : ℕ) → 0 < naming_in o n → (b : Block) × (o ≡ Some b)
named_some None n p = absurd (omega arith)
named_some (Some b) n p = (b, refl)

same_some : (a o : Option Block) (b : Block) → IsSameBut a o → a ≡ Some b → (x : Block) × (o ≡ Some x)
same_some None o b s e = absurd cc
same_some (Some a) None b s e = absurd s
same_some (Some a) (Some x) b s e = (x, refl)

same_named : (a o : Option Block) (n : ℕ) → IsSameBut a o → 0 < naming_in a n → 0 < naming_in o n
same_named None o n s p = absurd (omega arith)
same_named (Some a) None n s p = absurd s
same_named (Some a) (Some b) n s p = subst (λ (c : Content). 0 < naming (cells c) n) s.0 p

same_shape : (a o : Option Block) (b : Block) → IsSameBut a o → a ≡ Some b → option_map shape_of o ≡ option_map shape_of a
same_shape None o b s e = absurd cc
same_shape (Some a) None b s e = absurd s
same_shape (Some a) (Some x) b s e = let c = s.0 in let k = s.1 in λ i. Some (sym k i, sym c i)

shape_some : (o : Option Block) → there (option_map shape_of o) ≡ true → (b : Block) × (o ≡ Some b)
shape_some None e = absurd cc
shape_some (Some b) e = (b, refl)

bool_or : (b : Bool) → (b ≡ true) ⊎ (b ≡ false)
bool_or true = inl refl
bool_or false = inr refl

none_or : (o : Option Block) → (o ≡ None) ⊎ ((b : Block) × (o ≡ Some b))
none_or None = inl refl
none_or (Some b) = inr (b, refl)

either : (a b : ℕ) → 0 < a + b → (0 < a) ⊎ (0 < b)
either zero b p = inr (omega arith)
either (suc a) b p = inl (omega arith)

sum_some : (l : ℕ) (f : ℕ → ℕ) → 0 < sum_below l f → (a : ℕ) × (0 < f a)
sum_some zero f p = absurd (omega arith)
sum_some (suc l) f p = elim (either (f l) (sum_below l f) p) [ inl x ↦ (l, x) | inr y ↦ sum_some l f y ]

-- ---- blocks of which the greatest settled part is left

module _ (lim : ℕ) (out : ℕ → ℕ) (before after : Blocks) (freed : Freed lim out before after)
    (bounded : (n : ℕ) (b : Block) → before n ≡ Some b → n < lim)
    (roots : (n : ℕ) → 0 < out n → (b : Block) × (before n ≡ Some b))
    (closed : (a n : ℕ) → 0 < naming_in (before a) n → (b : Block) × (before n ≡ Some b)) where
  abbrev h : Heap Shape
  h = shapes_below lim before

  abbrev HeldBy : (ℕ → Type 0) → ℕ → Type 0
  HeldBy some n = Held (graph naming_of h) out some n

  abbrev stay : ℕ → Bool
  stay = part naming_of out h

  at_all : (n : ℕ) → place h n ≡ option_map shape_of (before n)
  at_all n = at_below_all lim before bounded n

  uses_is : (a n : ℕ) → in_one naming_of (place h a) n ≡ naming_in (before a) n
  uses_is a n = ap (λ (o : Option Shape). in_one naming_of o n) (at_all a) ∙ one_named (before a) n

  alive : (n : ℕ) (b : Block) → before n ≡ Some b → there (place h n) ≡ true
  alive n b e = ap there (at_all n) ∙ ap (λ (o : Option Block). there (option_map shape_of o)) e

  is : IsKept (graph naming_of h) out (part naming_of out h)
  is = stays_is naming_of out h

  was : (n : ℕ) → stay n ≡ true → (b : Block) × (before n ≡ Some b)
  was n e = shape_some (before n) (ap there (sym (at_all n)) ∙ is.alive n e)

  -- what is there, and held by what stays, stays
  join : (n : ℕ) → there (place h n) ≡ true → HeldBy (λ a. stay a ≡ true) n → stay n ≡ true
  join n live held = is.greatest (λ k. (stay k ≡ true) ⊎ (k ≡ n)) (λ k e. both k e) n (inr refl)
    where
      more : (k : ℕ) → HeldBy (λ a. stay a ≡ true) k → HeldBy (λ a. (stay a ≡ true) ⊎ (a ≡ n)) k
      more k (inl p) = inl p
      more k (inr p) = inr (p.0, inl p.1, p.2)

      both : (k : ℕ) → (stay k ≡ true) ⊎ (k ≡ n)
          → (there (place h k) ≡ true) × HeldBy (λ a. (stay a ≡ true) ⊎ (a ≡ n)) k
      both k (inl y) = (is.alive k y, more k (is.held k y))
      both k (inr y) = (
        ap (λ q. there (place h q)) y ∙ live,
        more k (subst (λ q. HeldBy (λ a. stay a ≡ true) q) (sym y) held),
      )

  abbrev left : Blocks
  left n = only_if (stay n) (before n)

  abbrev number : ℕ → ℕ
  number n = out n + names lim left n

  abbrev rest : Blocks
  rest n = only_if (stay n) (with_count (number n) (before n))

  rest_names : (n : ℕ) → names lim rest n ≡ names lim left n
  rest_names n = sum_same lim (λ s. naming_in (rest s) n) (λ s. naming_in (left s) n) (λ s. counted_named (stay s) (number s) (before s) n)

  stays_if : (n : ℕ) → 0 < number n → stay n ≡ true
  stays_if n p = elim (either (out n) (names lim left n) p) [
    | inl r ↦ let b = roots n r in join n (alive n b.0 b.1) (inl r)
    | inr s ↦
        let w = sum_some lim (λ s. naming_in (left s) n) s in
        let x = left_named (stay w.0) (before w.0) n w.1 in
        let b = closed w.0 n x.1 in
        join n (alive n b.0 b.1) (inr (w.0, x.0, subst (λ v. 0 < v) (sym (uses_is w.0 n)) x.1))
  ]

  none_if : (n : ℕ) → stay n ≡ false → number n ≡ 0
  none_if n e = go (number n) refl
    where
      go : (v : ℕ) → number n ≡ v → number n ≡ 0
      go zero f = f
      go (suc v) f = absurd (let z : true ≡ false = sym (stays_if n (omega arith)) ∙ e in cc)

  some_if : (n : ℕ) → stay n ≡ true → 0 < number n
  some_if n e = elim (is.held n e) [
    | inl r ↦ omega arith
    | inr s ↦
        let x : 0 < naming_in (before s.0) n = subst (λ v. 0 < v) (uses_is s.0 n) s.2 in
        let b = was s.0 s.1 in
        let y = named_left (stay s.0) (before s.0) n s.1 x in
        let z = sum_has lim (λ s. naming_in (left s) n) s.0 (bounded s.0 b.0 b.1) in
        omega arith
  ]

  rest_settled : Settled lim out rest
  rest_settled = record {
    exact = λ n. elim (bool_or (stay n)) [
      | inl e ↦ let b = was n e in counted_count (stay n) (number n) (before n) b.0 e b.1 ∙ ap (λ s. out n + s) (sym (rest_names n))
      | inr e ↦ gone_count (stay n) (number n) (before n) e ∙ sym (ap (λ s. out n + s) (rest_names n) ∙ none_if n e)
    ];
    counted = λ n b e. let s = counted_some (stay n) (number n) (before n) b e in let p = some_if n s.0 in omega (arith, s.1);
  }

  back : (n : ℕ) → stay n ≡ true → (b : Block) × (after n ≡ Some b)
  back n e =
      let b = was n e in
      let same = freed.greatest rest (λ s. counted_same (stay s) (number s) (before s)) rest_settled n in
      counted_there (stay n) (number n) (before n) (after n) b.0 e b.1 same

  forth : (n : ℕ) (b : Block) → after n ≡ Some b → stay n ≡ true
  forth n b e = is.greatest (λ k. (b : Block) × (after k ≡ Some b)) both n (b, e)
    where
      both : (k : ℕ) → (b : Block) × (after k ≡ Some b)
          → (there (place h k) ≡ true) × HeldBy (λ k. (b : Block) × (after k ≡ Some b)) k
      both k x =
          let w = same_some (after k) (before k) x.0 (freed.part k) x.1 in
          let c = freed.settled.counted k x.0 x.1 in
          let s = freed.settled.exact k in
          let y : count after k ≡ x.0.count = ap count_in x.1 in (
            alive k w.0 w.1,
            elim (either (out k) (names lim after k) (omega arith)) [
              | inl r ↦ inl r
              | inr t ↦
                  let a = sum_some lim (λ s. naming_in (after s) k) t in
                  let named = same_named (after a.0) (before a.0) k (freed.part a.0) a.1 in
                  inr (a.0, named_some (after a.0) k a.1, subst (λ v. 0 < v) (sym (uses_is a.0 k)) named)
            ],
          )

  gone_if : (n : ℕ) → after n ≡ None → stay n ≡ false
  gone_if n e = elim (bool_or (stay n)) [
    | inl t ↦ absurd (let x = back n t in let z : None ≡ Some x.0 = sym e ∙ x.1 in cc)
    | inr f ↦ f
  ]

  abbrev kept_if : Bool → ℕ → Option Shape
  kept_if b n = cond {A = Option Shape} b (place h n) None

  pub left_is : (n : ℕ) → place (stays naming_of out (shapes_below lim before)) n ≡ option_map shape_of (after n)
  left_is n = stays_at naming_of out (shapes_below lim before) n ∙ elim (none_or (after n)) [
    | inl e ↦ ap (λ b. kept_if b n) (gone_if n e) ∙ sym (ap (option_map shape_of) e)
    | inr x ↦ ap (λ b. kept_if b n) (forth n x.0 x.1) ∙ at_all n ∙ same_shape (after n) (before n) x.0 (freed.part n) x.1
  ]

-- ---- heaps

count_some : (o : Option Block) → 0 < count_in o → (b : Block) × (o ≡ Some b)
count_some None p = absurd (omega arith)
count_some (Some b) p = (b, refl)

pub cut_held : (before after : Store) (given : ℕ → ℕ) → GivesAway before after given
    → (n : ℕ) → outside after n + given n ≡ outside before n
cut_held before after given away = drop_outside before after given away.made away.held away.drops

pub cut_stays : (before after : Store) (given : ℕ → ℕ) → GivesAway before after given
    → shapes after ≡ stays naming_of (outside after) (shapes before)
cut_stays before after given away =
    let held = cut_held before after given away in
    let ok = away.heap in
    let same : (λ n. outside before n - given n) ≡ outside after = fun_ext (λ n. let z = held n in omega arith) in
    let freed : Freed (limit before) (outside after) (at before) (at after) =
    subst (λ (f : ℕ → ℕ). Freed (limit before) f (at before) (at after)) same away.drops in
    let left = left_is (limit before) (outside after) (at before) (at after) freed ok.bounded
    (λ n p. count_some (at before n) (let z = held n in let y : outside before n ≤ count (at before) n = omega arith in omega arith))
    (λ a n p. count_some (at before n) (
    let b = named_some (at before a) n p in
    let x : naming_in (at before a) n ≤ inside before n =
    sum_has (limit before) (λ s. naming_in (at before s) n) a (ok.bounded a b.0 b.1) in
    let y = ok.enough n in
    omega arith)) in
    same_places (shapes after) (stays naming_of (outside after) (shapes before))
    (length_shapes after ∙ away.made ∙ sym (stays_length naming_of (outside after) (shapes before) ∙ length_shapes before))
    (λ n. at_shapes after (heap_after before after given ok away.made away.drops) n ∙ sym (left n))

pub uncut_stays : (h : Store) → IsHeap h → shapes h ≡ stays naming_of (outside h) (shapes h)
uncut_stays h ok =
    let none : ℕ → ℕ = λ _. 0 in
    let held : (n : ℕ) → 0 ≤ outside h n = λ n. omega arith in
    cut_stays h h none (record {
      heap = ok;
      held = held;
      drops = dropped (limit h) (λ n. outside h n - 0) (at h) (at h) none (dropping_of h none ok held) (λ n. refl);
      made = refl;
    })
