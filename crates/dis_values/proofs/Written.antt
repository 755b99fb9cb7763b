-- Blocks written piece by piece, and the elements that come of it.
use Rattle.std.proofs.Common.{◌≡◌, ◌⊎◌, ℕ, zero, suc, ◌+◌, ◌-◌, ◌*◌, ◌/◌, ◌%◌, ◌<◌, ◌≤◌, Bool, false, List, [], ◌∷◌, ◌++◌, take}
use Rattle.std.proofs.Common.{drop, length, Some, refl, sym, ap, subst, ◌∙◌, arith, inl, inr}
use Rattle.std.specs.Prelude.{eqb, slice_get, if◌then◌else◌}
use Rattle.std.specs.Cmp.{nat_cmp_total}
use Rattle.std.specs.FinMap.{same_map, nat_cmp-IsAntisymmetric}
use Rattle.std.proofs.lemmas.Bool.Decides.{eqb_tells}
use Rattle.ref_heap.specs.Words.{Cell, plain}
use Rattle.ref_heap.specs.Store.{Store, Block, at, with_block}
use Rattle.dis_values.specs.Arrays.{byte_in, element, elements_in}
use Rattle.dis_values.specs.Copies.{overwritten}
use Rattle.dis_values.proofs.Made.{block_there, other_block}
use Rattle.dis_values.proofs.Parts.{take_elements, drop_elements}

blocks_same : (h g : Store) → h.made ≡ g.made → h.lost ≡ g.lost → ((q : ℕ) → at h q ≡ at g q) → h ≡ g
blocks_same h g m l e =
    let f : h.blocks ≡ g.blocks = same_map nat_cmp_total nat_cmp-IsAntisymmetric h.blocks g.blocks e in
    λ i. record { made = m i; blocks = f i; lost = l i }

pub put_twice : (h : Store) (k : ℕ) (b c : Block) → with_block (with_block h k b) k c ≡ with_block h k c
put_twice h k b c = blocks_same (with_block (with_block h k b) k c) (with_block h k c) refl refl (λ q. elim (eqb_tells q k) [
  | inl y ↦ ap (at (with_block (with_block h k b) k c)) y.1 ∙ block_there (with_block h k b) k c
      ∙ sym (ap (at (with_block h k c)) y.1 ∙ block_there h k c)
  | inr y ↦ other_block (with_block h k b) k c q y.1 ∙ other_block h k b q y.1 ∙ sym (other_block h k c q y.1)
])

pub put_same : (h : Store) (k : ℕ) (b : Block) → at h k ≡ Some b → with_block h k b ≡ h
put_same h k b is = blocks_same (with_block h k b) h refl refl (λ q. elim (eqb_tells q k) [
  | inl y ↦ ap (at (with_block h k b)) y.1 ∙ block_there h k b ∙ sym (ap (at h) y.1 ∙ is)
  | inr y ↦ other_block h k b q y.1
])

-- lists of elements
pub elements_length : (size : ℕ) (ws : List Cell) (f n : ℕ) → length (elements_in size ws f n) ≡ n
elements_length size ws f zero = refl
elements_length size ws f (suc n) = omega (arith, elements_length size ws (suc f) n)

elements_split : (size : ℕ) (ws : List Cell) (f a b : ℕ) → elements_in size ws f (a + b) ≡ elements_in size ws f a ++ elements_in size ws
    (f + a) b
elements_split size ws f zero b = (let e : 0 + b ≡ b = omega arith in let g : f + 0 ≡ f = omega arith in ap (elements_in size ws f) e
    ∙ sym (ap (λ (i : ℕ). elements_in size ws i b) g))
elements_split size ws f (suc a) b =
    (let e : suc a + b ≡ suc (a + b) = omega arith in ap (elements_in size ws f) e)
    ∙ ap (λ (xs : List (List Cell)). element size ws f ∷ xs) (elements_split size ws (suc f) a b)
    ∙ (let g : suc f + a ≡ f + suc a = omega arith in ap (λ (i : ℕ). element size ws f ∷
    (elements_in size ws (suc f) a ++ elements_in size ws i b)) g)

elements_same : (size : ℕ) (ws vs : List Cell) (f g n : ℕ) → ((q : ℕ) → q < n → element size ws (f + q) ≡ element size vs (g + q))
    → elements_in size ws f n ≡ elements_in size vs g n
elements_same size ws vs f g zero e = refl
elements_same size ws vs f g (suc n) e =
    let a : f ≡ f + 0 = omega arith in
    let b : g + 0 ≡ g = omega arith in
    ap (λ (x : List Cell). x ∷ elements_in size ws (suc f) n) (ap (element size ws) a ∙ e 0 (omega arith) ∙ ap (element size vs) b)
    ∙ ap (λ (xs : List (List Cell)). element size vs g ∷ xs) (elements_same size ws vs (suc f) (suc g) n (λ q h.
    let c : suc f + q ≡ f + suc q = omega arith in
    let d : g + suc q ≡ suc g + q = omega arith in
    ap (element size ws) c ∙ e (suc q) (omega arith) ∙ ap (element size vs) d))

-- elements are written over
copied_from : (size : ℕ) (ws new src : List Cell) (f l i sf n : ℕ) → i + n ≤ l
    → ((q : ℕ) → q < n → element size new (f + i + q) ≡ element size src (sf + q))
    → ((j : ℕ) → (j < f + i) ⊎ (f + i + n ≤ j) → element size new j ≡ element size ws j)
    → elements_in size new f l ≡ overwritten (elements_in size ws f l) i (elements_in size src sf n)
copied_from size ws new src f l i sf n within here apart =
    let r = l - (i + n) in
    let ys = elements_in size src sf n in
    let whole : l ≡ i + (n + r) = omega arith in
    let split : elements_in size new f l ≡ elements_in size new f i ++ (elements_in size new (f + i) n ++ elements_in size new
    (f + i + n) r) =
    ap (elements_in size new f) whole ∙ elements_split size new f i (n + r)
    ∙ ap (λ (xs : List (List Cell)). elements_in size new f i ++ xs) (elements_split size new (f + i) n r) in
    let front : elements_in size new f i ≡ take i (elements_in size ws f l) =
    elements_same size new ws f f i (λ q h. apart (f + q) (inl (omega arith))) ∙ sym (take_elements size ws f l i (omega arith)) in
    let middle : elements_in size new (f + i) n ≡ ys = elements_same size new src (f + i) sf n here in
    let e : f + (i + n) ≡ f + i + n = omega arith in
    let long : length ys ≡ n = elements_length size src sf n in
    let back : elements_in size new (f + i + n) r ≡ drop (i + length ys) (elements_in size ws f l) =
    elements_same size new ws (f + i + n) (f + i + n) r (λ q h. apart (f + i + n + q) (inr (omega arith)))
    ∙ sym (ap (λ (x : ℕ). drop (i + x) (elements_in size ws f l)) long ∙ drop_elements size ws f l (i + n) (omega arith)
    ∙ ap (λ (x : ℕ). elements_in size ws x r) e) in
    split
    ∙ ap (λ (xs : List (List Cell)). xs ++ (elements_in size new (f + i) n ++ elements_in size new (f + i + n) r)) front
    ∙ ap (λ (xs : List (List Cell)). take i (elements_in size ws f l) ++ (xs ++ elements_in size new (f + i + n) r)) middle
    ∙ ap (λ (xs : List (List Cell)). take i (elements_in size ws f l) ++ (ys ++ xs)) back

pub copied_elements : (size : ℕ) (ws new src : List Cell) (f l i base sf n : ℕ) → base ≡ f + i → i + n ≤ l
    → ((q : ℕ) → q < n → element size new (base + q) ≡ element size src (sf + q))
    → ((j : ℕ) → (j < base) ⊎ (base + n ≤ j) → element size new j ≡ element size ws j)
    → elements_in size new f l ≡ overwritten (elements_in size ws f l) i (elements_in size src sf n)
copied_elements size ws new src f l i base sf n e within here apart =
    copied_from size ws new src f l i sf n within
    (subst (λ (b : ℕ). (q : ℕ) → q < n → element size new (b + q) ≡ element size src (sf + q)) e here)
    (subst (λ (b : ℕ). (j : ℕ) → (j < b) ⊎ (b + n ≤ j) → element size new j ≡ element size ws j) e apart)

-- elements of whole words
take_alike : (vs ws : List Cell) (k : ℕ) → ((q : ℕ) → q < k → slice_get vs q ≡ slice_get ws q) → take k vs ≡ take k ws
take_alike vs ws zero e = refl
take_alike [] [] (suc k) e = refl
take_alike [] (w ∷ ws) (suc k) e = absurd (let f = e 0 (omega arith) in cc)
take_alike (v ∷ vs) [] (suc k) e = absurd (let f = e 0 (omega arith) in cc)
take_alike (v ∷ vs) (w ∷ ws) (suc k) e =
    let f : v ≡ w = (let g = e 0 (omega arith) in cc) in
    ap (λ (x : Cell). x ∷ take k vs) f ∙ ap (λ (xs : List Cell). w ∷ xs) (take_alike vs ws k (λ q h. e (suc q) (omega arith)))

get_drop : (ws : List Cell) (x q : ℕ) → slice_get (drop x ws) q ≡ slice_get ws (x + q)
get_drop ws zero q = (let e : q ≡ 0 + q = omega arith in ap (slice_get ws) e)
get_drop [] (suc x) q = (let e : suc x + q ≡ suc (x + q) = omega arith in sym (ap (slice_get []) e))
get_drop (w ∷ ws) (suc x) q = get_drop ws x q ∙ (let e : suc (x + q) ≡ suc x + q = omega arith in ap (slice_get (w ∷ ws)) e)

pub words_alike : (ws vs : List Cell) (x y k : ℕ) → ((q : ℕ) → q < k → slice_get ws (x + q) ≡ slice_get vs (y + q))
    → take k (drop x ws) ≡ take k (drop y vs)
words_alike ws vs x y k e = take_alike (drop x ws) (drop y vs) k (λ q h. get_drop ws x q ∙ e q h ∙ sym (get_drop vs y q))

-- the words of an element
pub word_element : (size : ℕ) (ws : List Cell) (i : ℕ) → eqb size 1 ≡ false → element size ws i ≡ take (size / 4) (drop (i * (size / 4)) ws)
word_element size ws i wide = ap (λ (b : Bool). if b then plain (byte_in (i % 4) (slice_get ws (i / 4))) ∷ [] else take (size / 4)
    (drop (i * (size / 4)) ws)) wide

pub element_alike : (size : ℕ) (ws vs : List Cell) (i j : ℕ) → eqb size 1 ≡ false
    → ((q : ℕ) → q < size / 4 → slice_get ws (i * (size / 4) + q) ≡ slice_get vs (j * (size / 4) + q))
    → element size ws i ≡ element size vs j
element_alike size ws vs i j wide e =
    word_element size ws i wide ∙ words_alike ws vs (i * (size / 4)) (j * (size / 4)) (size / 4) e ∙ sym (word_element size vs j wide)
