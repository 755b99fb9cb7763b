-- What a tree fills, and names, once an answer stands in place of the wait for it.
use Rattle.std.proofs.Common.{◌≡◌, ℕ, List, [], ◌∷◌, ◌++◌, Option, Some, ◌⊎◌, inl, inr, ap, refl}
use Rattle.limbo_meaning.specs.Values.{Value, references, references_in}
use Rattle.limbo_meaning.specs.Memory.{Memory}
use Rattle.limbo_meaning.specs.Trees.{Term, Evaluated, Awaiting, Missing, Node, Lazy, Deciding, Update, Change, Put, Linking}
use Rattle.limbo_meaning.specs.Trees.{Fill, Filling, Turning, Repeating, Terms, NoTerms, MoreTerms, Items, NoItems, MoreItems}
use Rattle.limbo_meaning.specs.Evaluation.{fill, fill_all, fill_items}
use Rattle.limbo_meaning.specs.Origins.{Name, term_references, terms_references, items_references}
use Rattle.limbo_meaning.proofs.Names.{either, left, right}
use Rattle.limbo_filling.specs.Filling.{Fills, SomeFills, FirstFills, IsApart, FillsApart, AllFillApart, FirstFillsApart}

module _ (v : Value) where
  -- ---- names

  abbrev pub Both : List (Option ℕ) → ℕ → Type 0
  Both rs n = Name rs n ⊎ Name (references v) n

  -- a part that is answered, beside others
  first_part : (xs xs' ys : List (Option ℕ)) (n : ℕ) → (Name xs' n → Both xs n) → Name (xs' ++ ys) n → Both (xs ++ ys) n
  first_part xs xs' ys n f h = elim (either xs' ys n h) [
    | inl y ↦ elim (f y) [ inl z ↦ inl (left xs ys n z) | inr z ↦ inr z ]
    | inr y ↦ inl (right xs ys n y)
  ]

  second_part : (xs ys ys' : List (Option ℕ)) (n : ℕ) → (Name ys' n → Both ys n) → Name (xs ++ ys') n → Both (xs ++ ys) n
  second_part xs ys ys' n f h = elim (either xs ys' n h) [
    | inl y ↦ inl (left xs ys n y)
    | inr y ↦ elim (f y) [ inl z ↦ inl (right xs ys n z) | inr z ↦ inr z ]
  ]

  mutual
    pub names_answered : (t : Term) (n : ℕ) → Name (term_references (fill v t)) n → Both (term_references t) n
    names_answered (Evaluated u) n h = inl h
    names_answered Awaiting n h = inr h
    names_answered Missing n h = inl h
    names_answered (Node t o ts) n h = all_names_answered ts n h
    names_answered (Lazy c l r) n h =
        first_part (term_references l) (term_references (fill v l)) (term_references r) n (names_answered l n) h
    names_answered (Deciding r) n h = names_answered r n h
    names_answered (Update o g t w ts us) n h =
        first_part (terms_references ts) (terms_references (fill_all v ts)) (terms_references us) n (all_names_answered ts n) h
    names_answered (Change o g p ts) n h =
        second_part (references_in p.operands) (terms_references ts) (terms_references (fill_all v ts)) n (all_names_answered ts n) h
    names_answered (Put ps u) n h = inl h
    names_answered (Linking t vs r) n h = inl h
    names_answered (Fill t l is rest) n h =
        first_part (term_references l) (term_references (fill v l)) (items_references is ++ terms_references rest) n
        (names_answered l n) h
    names_answered (Filling t p is ns rest) n h =
        second_part (Some p.array ∷ []) (items_references is ++ terms_references rest)
        (items_references (fill_items v is) ++ terms_references rest) n
        (first_part (items_references is) (items_references (fill_items v is)) (terms_references rest) n (item_names_answered is n)) h
    names_answered (Turning t p ns e) n h = inl h
    names_answered (Repeating t p i ns e now) n h =
        second_part (Some p.array ∷ []) (term_references e ++ term_references now) (term_references e ++ term_references (fill v now)) n
        (second_part (term_references e) (term_references now) (term_references (fill v now)) n (names_answered now n)) h

    all_names_answered : (ts : Terms) (n : ℕ) → Name (terms_references (fill_all v ts)) n → Both (terms_references ts) n
    all_names_answered NoTerms n h = inl h
    all_names_answered (MoreTerms t ts) n h = elim (either (term_references (fill v t)) (terms_references (fill_all v ts)) n h) [
      | inl y ↦ elim (names_answered t n y) [ inl z ↦ inl (left (term_references t) (terms_references ts) n z) | inr z ↦ inr z ]
      | inr y ↦ elim (all_names_answered ts n y) [ inl z ↦ inl (right (term_references t) (terms_references ts) n z) | inr z ↦ inr z ]
    ]

    item_names_answered : (is : Items) (n : ℕ) → Name (items_references (fill_items v is)) n → Both (items_references is) n
    item_names_answered NoItems n h = inl h
    item_names_answered (MoreItems i t is) n h =
        first_part (term_references t) (term_references (fill v t)) (items_references is) n (names_answered t n) h

  -- ---- what is filled

  mutual
    pub fills_before : (t : Term) (n : ℕ) → Fills (fill v t) n → Fills t n
    fills_before (Evaluated u) n x = x
    fills_before Awaiting n x = x
    fills_before Missing n x = x
    fills_before (Node t o ts) n x = some_fill_before ts n x
    fills_before (Lazy c l r) n x = fills_before l n x
    fills_before (Deciding r) n x = fills_before r n x
    fills_before (Update o g t w ts us) n x = some_fill_before ts n x
    fills_before (Change o g p ts) n x = some_fill_before ts n x
    fills_before (Put ps u) n x = x
    fills_before (Linking t vs r) n x = x
    fills_before (Fill t l is rest) n x = fills_before l n x
    fills_before (Filling t p is ns rest) n (inl x) = inl x
    fills_before (Filling t p is ns rest) n (inr x) = inr (first_fills_before is n x)
    fills_before (Turning t p ns e) n x = x
    fills_before (Repeating t p i ns e now) n (inl x) = inl x
    fills_before (Repeating t p i ns e now) n (inr x) = inr (fills_before now n x)

    some_fill_before : (ts : Terms) (n : ℕ) → SomeFills (fill_all v ts) n → SomeFills ts n
    some_fill_before NoTerms n x = x
    some_fill_before (MoreTerms t ts) n (inl x) = inl (fills_before t n x)
    some_fill_before (MoreTerms t ts) n (inr x) = inr (some_fill_before ts n x)

    first_fills_before : (is : Items) (n : ℕ) → FirstFills (fill_items v is) n → FirstFills is n
    first_fills_before NoItems n x = x
    first_fills_before (MoreItems i t is) n x = fills_before t n x

  module _ (m : Memory) where
    abbrev Unanswered : (ℕ → Type 0) → Type 0
    Unanswered P = (n : ℕ) → P n → Name (references v) n → ⊥

    one_answered : (t : Term) (a : ℕ) → (Name (references v) a → ⊥) → IsApart m (term_references t) a
        → IsApart m (term_references (fill v t)) a
    one_answered t a f g = record {
      taken = g.taken;
      unnamed = g.unnamed;
      elsewhere = λ h. elim (names_answered t a h) [ inl y ↦ g.elsewhere y | inr y ↦ f y ];
    }

    mutual
      pub apart_answered : (t : Term) → FillsApart m t → Unanswered (Fills t) → FillsApart m (fill v t)
      apart_answered (Evaluated u) g f = tt
      apart_answered Awaiting g f = tt
      apart_answered Missing g f = tt
      apart_answered (Node t o ts) g f = all_apart_answered ts g f
      apart_answered (Lazy c l r) g f = (apart_answered l g.0 f, g.1)
      apart_answered (Deciding r) g f = apart_answered r g f
      apart_answered (Update o h t w ts us) g f = (all_apart_answered ts g.0 f, g.1)
      apart_answered (Change o h p ts) g f = all_apart_answered ts g f
      apart_answered (Put ps u) g f = tt
      apart_answered (Linking t vs r) g f = tt
      apart_answered (Fill t l is rest) g f = (apart_answered l g.0 f, g.1, g.2)
      apart_answered (Filling t p is ns rest) g f = (first_apart_answered p.array is g.0 f, g.1)
      apart_answered (Turning t p ns e) g f = g
      apart_answered (Repeating t p i ns e now) g f = (
        one_answered now p.array (f p.array (inl refl)) g.0,
        apart_answered now g.1 (λ n x. f n (inr x)),
        g.2,
      )

      all_apart_answered : (ts : Terms) → AllFillApart m ts → Unanswered (SomeFills ts) → AllFillApart m (fill_all v ts)
      all_apart_answered NoTerms g f = tt
      all_apart_answered (MoreTerms t ts) (inl g) f =
          inl ((g.0.0, ap (fill v) g.0.1), all_apart_answered ts g.1 (λ n x. f n (inr x)))
      all_apart_answered (MoreTerms t ts) (inr g) f = inr (
        apart_answered t g.0 (λ n x. f n (inl x)),
        all_apart_answered ts g.1 (λ n x. f n (inr x)),
        λ n x. g.2 n (some_fill_before ts n x),
      )

      first_apart_answered : (a : ℕ) (is : Items) → FirstFillsApart m a is → Unanswered (λ n. (n ≡ a) ⊎ FirstFills is n)
          → FirstFillsApart m a (fill_items v is)
      first_apart_answered a NoItems g f = g
      first_apart_answered a (MoreItems i t is) g f = (
        one_answered t a (f a (inl refl)) g.0,
        apart_answered t g.1 (λ n x. f n (inr x)),
        g.2,
      )
