-- How long a list may be.
use Rattle.std.proofs.Common.{◌≡◌, ℕ, suc, ◌+◌, ◌<◌, ◌≤◌, Bool, true, false, List, [], ◌∷◌, length, Option, Some, None, refl, sym, ap}
use Rattle.std.proofs.Common.{subst, ◌∙◌, arith, inl, inr}
use Rattle.std.specs.Prelude.{eqb, ◌||◌}
use Rattle.std.specs.List.{list_any, AllByRecursion, IsDistinct}
use Rattle.std.proofs.lemmas.Bool.Decides.{eqb_tells}
use Rattle.std.proofs.lemmas.Map.Steps.{length-le_from_distinct_below}
use Rattle.ref_heap.specs.Words.{Cell, refer}
use Rattle.ref_heap.specs.Store.{Store, IsHeap, at, words_of}
use Rattle.dis_values.specs.Lists.{IsCell, IsList}

-- the cells of a list
serials : (h : Store) (o : Option ℕ) (xs : List (List Cell)) → IsList h o xs → List ℕ
serials h o [] l = []
serials h o (x ∷ xs) l = l.1.serial ∷ serials h l.0 xs l.2

serials_length : (h : Store) (o : Option ℕ) (xs : List (List Cell)) (l : IsList h o xs) → length (serials h o xs l) ≡ length xs
unfolding serials
serials_length h o [] l = refl
serials_length h o (x ∷ xs) l = omega (arith, serials_length h l.0 xs l.2)

-- one cell has one rest
rest_once : (h : Store) (o rest rest' : Option ℕ) (x x' : List Cell) → IsCell h o x rest → IsCell h o x' rest' → rest ≡ rest'
rest_once h o rest rest' x x' c d =
    let s : c.serial ≡ d.serial = (let e : Some c.serial ≡ Some d.serial = sym c.named ∙ d.named in cc) in
    let b : c.block ≡ d.block = (let e : Some c.block ≡ Some d.block = sym c.live ∙ ap (at h) s ∙ d.live in cc) in
    let e : refer rest ∷ x ≡ refer rest' ∷ x' = sym c.words ∙ ap words_of b ∙ d.words in
    cc

pub length_once : (h : Store) (o : Option ℕ) (xs ys : List (List Cell)) → IsList h o xs → IsList h o ys → length xs ≡ length ys
length_once h o [] [] l m = refl
length_once h o [] (y ∷ ys) l m = absurd (let e : None ≡ Some m.1.serial = sym l ∙ m.1.named in cc)
length_once h o (x ∷ xs) [] l m = absurd (let e : Some l.1.serial ≡ None = sym l.1.named ∙ m in cc)
length_once h o (x ∷ xs) (y ∷ ys) l m =
    let e : l.0 ≡ m.0 = rest_once h o l.0 m.0 x y l.1 m.1 in
    let n = length_once h m.0 xs ys (subst (λ (r : Option ℕ). IsList h r xs) e l.2) m.2 in
    omega arith

-- no cell of a list has a longer list
apart : (h : Store) (o : Option ℕ) (xs : List (List Cell)) (l : IsList h o xs) (s n : ℕ) → length xs ≤ n
    → ((zs : List (List Cell)) → IsList h (Some s) zs → length zs ≡ suc n) → AllByRecursion (λ y. eqb s y ≡ false) (serials h o xs l)
unfolding serials
apart h o [] l s n short long = tt
apart h o (x ∷ xs) l s n short long = (
  elim (eqb_tells s l.1.serial) [
    | inl y ↦
        let here : IsList h (Some s) (x ∷ xs) = subst (λ (r : Option ℕ). IsList h r (x ∷ xs)) (l.1.named
        ∙ ap (λ (q : ℕ). Some q) (sym y.1)) l in
        let f : suc (length xs) ≡ suc n = long (x ∷ xs) here in
        absurd (omega arith)
    | inr y ↦ y.0
  ],
  apart h l.0 xs l.2 s n (omega arith) long,
)

distinct : (h : Store) (o : Option ℕ) (xs : List (List Cell)) (l : IsList h o xs) → IsDistinct eqb (serials h o xs l)
unfolding serials IsDistinct
distinct h o [] l = tt
distinct h o (x ∷ xs) l =
    let here : IsList h (Some l.1.serial) (x ∷ xs) = subst (λ (r : Option ℕ). IsList h r (x ∷ xs)) l.1.named l in (
      apart h l.0 xs l.2 l.1.serial (length xs) (omega arith) (λ zs m. length_once h (Some l.1.serial) zs (x ∷ xs) m here),
      distinct h l.0 xs l.2,
    )

made : (h : Store) (o : Option ℕ) (xs : List (List Cell)) (l : IsList h o xs) → IsHeap h → (q : ℕ)
    → list_any (eqb q) (serials h o xs l) ≡ true → q < h.made
unfolding serials
made h o [] l ok q e = absurd cc
made h o (x ∷ xs) l ok q e = elim (eqb_tells q l.1.serial) [
  | inl y ↦ let b = ok.bounded l.1.serial l.1.block l.1.live in omega (arith, b, y.1)
  | inr y ↦ made h l.0 xs l.2 ok q (sym (ap (λ (b : Bool). b || list_any (eqb q) (serials h l.0 xs l.2)) y.0) ∙ e)
]

-- a list is never longer than the number of blocks made
pub short : (h : Store) (o : Option ℕ) (xs : List (List Cell)) → IsHeap h → IsList h o xs → length xs ≤ h.made
short h o xs ok l =
    let ss = serials h o xs l in
    let all : length ss ≤ h.made = length-le_from_distinct_below ss h.made (distinct h o xs l) (λ q e. made h o xs l ok q e) in
    omega (arith, serials_length h o xs l)

-- nil is no cell
pub nil_empty : (h : Store) (o : Option ℕ) (xs : List (List Cell)) → o ≡ None → IsList h o xs → length xs ≡ 0
nil_empty h o [] e l = refl
nil_empty h o (x ∷ xs) e l = absurd (let f : None ≡ Some l.1.serial = sym e ∙ l.1.named in cc)

-- so many elements are passed, and what is left is a list
pub record Left (h : Store) (rest : Option ℕ) (i : ℕ) (xs : List (List Cell)) : Type 0 where
  pub ys : List (List Cell)
  pub list : IsList h rest ys
  pub passed : i + length ys ≡ length xs

pub passes : (h : Store) (s i : ℕ) (rest' : Option ℕ) (xs : List (List Cell)) → Left h (Some s) i xs
    → ((x : List Cell) (zs : List (List Cell)) → IsList h (Some s) (x ∷ zs) → IsList h rest' zs) → Left h rest' (i + 1) xs
passes h s i rest' xs left step = go left.ys left.list left.passed
  where
    go : (ys : List (List Cell)) → IsList h (Some s) ys → i + length ys ≡ length xs → Left h rest' (i + 1) xs
    go [] l e = absurd cc
    go (y ∷ ys) l e = record { ys = ys; list = step y ys l; passed = omega arith }
