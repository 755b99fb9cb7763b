-- How many cells a list of the source's heap has.
use Rattle.std.proofs.Common.{◌≡◌, ℕ, zero, suc, ◌≤◌, List, [], ◌∷◌, length, Option, None, Some, refl, sym, ap, ◌∙◌, subst, arith}
use Rattle.heap_model.specs.Heap.{Heap, at}
use Rattle.heap_model.proofs.Heap.{there_of, within}
use Rattle.limbo_meaning.specs.Values.{Value}
use Rattle.limbo_meaning.specs.Memory as source
use Rattle.limbo_meaning.specs.Memory.{HeapValue, tail_in, list_length}
use Rattle.block_effects.specs.Contents.{IsList, nothing_more, one_more, ListsAreCounted}
use Rattle.block_effects.proofs.Distinct.{AllBelow, IsApart, AreDistinct, not_more}

module _ (w : Heap HeapValue) where
  -- A list has so many cells and no other number of them.
  pub list_once : (n : Option ℕ) (i j : ℕ) → IsList w n i → IsList w n j → i ≡ j
  list_once _ _ j nothing_more l = once_none j l
    where
      once_none : (j : ℕ) → IsList w None j → 0 ≡ j
      once_none _ nothing_more = refl
  list_once _ _ j (one_more n head tail m e l) k = once_some (λ i r. list_once tail m i l r) j k
    where
      once_some : ((i : ℕ) → IsList w tail i → m ≡ i) → (j : ℕ) → IsList w (Some n) j → suc m ≡ j
      once_some once _ (one_more _ other rest i f r) =
          let g : Some (source.Cell head tail) ≡ Some (source.Cell other rest) = sym e ∙ f in
          let same : rest ≡ tail = cc in
          ap suc (once i (subst (λ (t : Option ℕ). IsList w t i) same r))

  -- These are names of cells of lists that have so many at most.
  abbrev AllShort : ℕ → List ℕ → Type 0
  AllShort m [] = Unit {0}
  AllShort m (n ∷ ns) = ((j : ℕ) × (IsList w (Some n) j × (j ≤ m))) × AllShort m ns

  short_later : (m : ℕ) (ns : List ℕ) → AllShort m ns → AllShort (suc m) ns
  short_later m [] s = tt
  short_later m (n ∷ ns) ((j, (l, h)), s) = ((j, (l, omega (arith, h))), short_later m ns s)

  apart_from : (n m : ℕ) → IsList w (Some n) (suc m) → (ns : List ℕ) → AllShort m ns → IsApart n ns
  apart_from n m l [] s = tt
  apart_from n m l (o ∷ os) ((j, (p, h)), s) = (differs, apart_from n m l os s)
    where
      differs : n ≡ o → ⊥
      differs f =
          let once = list_once (Some n) (suc m) j l (subst (λ (q : ℕ). IsList w (Some q) j) (sym f) p) in
          omega (arith, once, h)

  record Walk (r : Option ℕ) (m : ℕ) : Type 0 where
    names : List ℕ
    long : length names ≡ m
    all_below : AllBelow (length w) names
    distinct : AreDistinct names
    short : AllShort m names
    is : (most : ℕ) → m ≤ most → list_length w most r ≡ m

  walk : (r : Option ℕ) (m : ℕ) → IsList w r m → Walk r m
  walk _ _ nothing_more = record {
    names = [];
    long = refl;
    all_below = tt;
    distinct = tt;
    short = tt;
    is = none_is;
  }
    where
      none_is : (most : ℕ) → 0 ≤ most → list_length w most None ≡ 0
      none_is zero l = refl
      none_is (suc most) l = refl
  walk _ _ (one_more n head tail m e l) =
      let v = walk tail m l in
      let long = v.long in
      record {
        names = n ∷ v.names;
        long = ap suc long;
        all_below = (within w n (there_of (at w n) (source.Cell head tail) e), v.all_below);
        distinct = (apart_from n m (one_more n head tail m e l) v.names v.short, v.distinct);
        short = ((suc m, (one_more n head tail m e l, omega arith)), short_later m v.names v.short);
        is = one_is n head tail m e v.is;
      }
    where
      one_is : (n : ℕ) (head : Value) (tail : Option ℕ) (m : ℕ) → at w n ≡ Some (source.Cell head tail)
          → ((most : ℕ) → m ≤ most → list_length w most tail ≡ m) → (most : ℕ) → suc m ≤ most → list_length w most (Some n) ≡ suc m
      one_is n head tail m e v zero l = absurd (omega (arith, l))
      one_is n head tail m e v (suc most) l =
          ap (λ (o : Option HeapValue). suc (list_length w most (tail_in o))) e ∙ ap suc (v most (omega (arith, l)))

pub lists_are_counted : ListsAreCounted
lists_are_counted w r m l =
    let v = walk w r m l in
    let long = v.long in
    let few = not_more (length w) v.names v.all_below v.distinct in
    v.is (length w) (omega (arith, long, few))
