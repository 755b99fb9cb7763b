-- What code tells of slots, step by step, and to which slots code gives nothing.
use Rattle.std.proofs.Common.{◌≡◌, ℕ, ℤ, zero, suc, ◌+◌, ◌-◌, ◌<◌, ◌≤◌, Bool, true, false, List, [], ◌∷◌, ◌++◌, length, max, Option}
use Rattle.std.proofs.Common.{Some, None, refl, sym, ap, subst, ◌∙◌, arith, inl, inr, ⊎_elim}
use Rattle.std.proofs.lemmas.Bool.{eq-eqb, ne_eqb, cases_eq}
use Rattle.std.proofs.lemmas.List.{length-reverse}
use Rattle.std.specs.Prelude.{slice_get, nat_eq, if◌then◌else◌, reverse}
use Rattle.limbo_types.specs.Types as ty
use Rattle.limbo_types.specs.Types.{Ty}
use Rattle.limbo_types.specs.View.{tys_of}
use Rattle.limbo_layout.specs.Adts.{Def}
use Rattle.limbo_typed.specs.declared.operation.Operation.TheVariants as operation
use Rattle.process_model.specs.Choice.{or_else}
use Rattle.limbo_meaning.specs.Trees as tree
use Rattle.limbo_meaning.specs.Trees.{Aim, Work, Operate, Term, Evaluated, Node, Lazy, Update, Fill, Terms, NoTerms, MoreTerms, Items}
use Rattle.limbo_meaning.specs.Trees.{NoItems, MoreItems}
use Rattle.limbo_meaning.specs.Evaluation.{passes_on, may_hold, work_refers, operands_for}
use Rattle.limbo_meaning.specs.Operations.{item_of}
use Rattle.core_code.specs.Code.{Instr, Give, Place, Cell, Skip, Element, Other, Keep, Drop}
use Rattle.core_code.specs.Terms.{LoweredAll, Moved, is_moved, drop_after, drops_after, drops_after_all, drops_from, drops_if}
use Rattle.core_code.specs.Terms.{count_of, gives, gathers, writes, cells, list_code, cell_drops, slot_at, moves_out, first_of, types_in}
use Rattle.core_code.specs.Terms.{node, others}
use Rattle.core_code.specs.Terms.{lower, lower_all, lower_items, lower_rest, named, items_end, rest_end, part_types, part_numbers}
use Rattle.core_code.specs.Terms.{moves_into, numbers_from, placed, variant_of, together, together_drops, value_slot}
use Rattle.core_code.proofs.Used.{value_from, either_up, end_up, node_up, term_up, terms_up, items_up, rest_up}
use Rattle.core_follows.specs.Drops.{Beside, HasAt}
use Rattle.core_typing.specs.Written.{given_to, told}

-- ---- one instruction

pub none_into : (into r : ℕ) (t : Ty) → (into ≡ r → ⊥) → (if nat_eq into r then Some t else None) ≡ None
none_into into r t n = ap (λ (b : Bool). if b then Some t else None) (ne_eqb into r n)

pub some_into : (into : ℕ) (t : Ty) → (if nat_eq into into then Some t else None) ≡ Some t
some_into into t = ap (λ (b : Bool). if b then Some t else None) (eq-eqb into into refl)

or_none : (x : Option Ty) → or_else x None ≡ x
or_none None = refl
or_none (Some t) = refl

or_more : (x y z : Option Ty) → or_else (or_else x y) z ≡ or_else x (or_else y z)
or_more None y z = refl
or_more (Some t) y z = refl

pub told_step : (code : List Instr) (pc s : ℕ) (i : Instr) → slice_get code pc ≡ Some i
    → told code (suc pc) s ≡ or_else (given_to i s) (told code pc s)
told_step [] pc s i e = absurd cc
told_step (x ∷ code) zero s i e =
    let f : x ≡ i = cc in
    subst (λ (y : Instr). given_to x s ≡ or_else (given_to y s) None) f (sym (or_none (given_to x s)))
told_step (x ∷ code) (suc pc) s i e =
    ap (λ (o : Option Ty). or_else o (given_to x s)) (told_step code pc s i e) ∙ or_more (given_to i s) (told code pc s) (given_to x s)

pub told_same : (code : List Instr) (pc s : ℕ) (i : Instr) → slice_get code pc ≡ Some i → given_to i s ≡ None
    → told code (suc pc) s ≡ told code pc s
told_same code pc s i e g = told_step code pc s i e ∙ ap (λ (o : Option Ty). or_else o (told code pc s)) g

pub told_given : (code : List Instr) (pc s : ℕ) (i : Instr) (t : Ty) → slice_get code pc ≡ Some i → given_to i s ≡ Some t
    → told code (suc pc) s ≡ Some t
told_given code pc s i t e g = told_step code pc s i e ∙ ap (λ (o : Option Ty). or_else o (told code pc s)) g

-- A value of a type is given to one slot.
pub record Gave (tells tells' : ℕ → Option Ty) (mid : ℕ) (t : Ty) : Type 0 where
  pub there : tells' mid ≡ Some t
  pub others : (r : ℕ) → (r ≡ mid → ⊥) → tells' r ≡ tells r

pub gave : (code : List Instr) (pc mid : ℕ) (t : Ty) (i : Instr) → slice_get code pc ≡ Some i
    → ((r : ℕ) → given_to i r ≡ (if nat_eq mid r then Some t else None)) → Gave (told code pc) (told code (suc pc)) mid t
gave code pc mid t i e g = record {
  there = told_given code pc mid i t e (g mid ∙ some_into mid t);
  others = λ r n. told_same code pc r i e (g r ∙ none_into mid r t (λ q. n (sym q)));
}

-- the same, up to a place
pub gave_to : (code : List Instr) (pc pc' mid : ℕ) (t : Ty) (i : Instr) → pc' ≡ suc pc → slice_get code pc ≡ Some i
    → ((r : ℕ) → given_to i r ≡ (if nat_eq mid r then Some t else None)) → Gave (told code pc) (told code pc') mid t
gave_to code pc pc' mid t i q e g = subst (λ (z : ℕ). Gave (told code pc) (told code z) mid t) (sym q) (gave code pc mid t i e g)

-- ---- code that gives nothing to a slot

abbrev pub Quiet : (r : ℕ) → List Instr → Type 0
Quiet r [] = Unit {0}
Quiet r (i ∷ is) = (given_to i r ≡ None) × Quiet r is

pub quiet_more : (r : ℕ) (is js : List Instr) → Quiet r is → Quiet r js → Quiet r (is ++ js)
quiet_more r [] js h k = k
quiet_more r (i ∷ is) js h k = (h.0, quiet_more r is js h.1 k)

pub quiet_front : (r : ℕ) (is js : List Instr) → Quiet r (is ++ js) → Quiet r is
quiet_front r [] js h = tt
quiet_front r (i ∷ is) js h = (h.0, quiet_front r is js h.1)

pub quiet_back : (r : ℕ) (is js : List Instr) → Quiet r (is ++ js) → Quiet r js
quiet_back r [] js h = h
quiet_back r (i ∷ is) js h = quiet_back r is js h.1

abbrev pub EachQuiet : (r : ℕ) → List (List Instr) → Type 0
EachQuiet r [] = Unit {0}
EachQuiet r (is ∷ more) = Quiet r is × EachQuiet r more

pub told_over : (code : List Instr) (pc r : ℕ) (is : List Instr) → HasAt code pc is → Quiet r is
    → told code (pc + length is) r ≡ told code pc r
told_over code pc r [] h q = let e : pc + 0 ≡ pc = omega arith in ap (λ (k : ℕ). told code k r) e
told_over code pc r (i ∷ is) h q =
    let e : pc + suc (length is) ≡ suc pc + length is = omega arith in
    ap (λ (k : ℕ). told code k r) e ∙ told_over code (suc pc) r is h.1 q.1 ∙ told_same code pc r i h.0 q.0

pub told_at : (code : List Instr) (pc pc' r : ℕ) → pc ≡ pc' → told code pc r ≡ told code pc' r
told_at code pc pc' r e = ap (λ (k : ℕ). told code k r) e

-- ---- drops give nothing

quiet_if : (r : ℕ) (b : Bool) (is : List Instr) → Quiet r is → Quiet r (drops_if b is)
quiet_if r true is h = h
quiet_if r false is h = tt

quiet_from : (r s k n : ℕ) → Quiet r (drops_from s k n)
quiet_from r s k zero = tt
quiet_from r s k (suc n) = (refl, quiet_from r s (suc k) n)

either_quiet : (r : ℕ) (b : Bool) (s k d j : ℕ) → given_to (if b then Drop s k else Drop d j) r ≡ None
either_quiet r true s k d j = refl
either_quiet r false s k d j = refl

after_quiet : (r : ℕ) (v : Moved) (i : Instr) → given_to i r ≡ None → given_to (drop_after v i) r ≡ None
after_quiet r v (Drop s k) h = either_quiet r (is_moved v s k) v.into (v.at + (k - v.first)) s k
after_quiet r v _ h = h

quiet_after : (r : ℕ) (v : Moved) (is : List Instr) → Quiet r is → Quiet r (drops_after v is)
quiet_after r v [] h = tt
quiet_after r v (i ∷ is) h = (after_quiet r v i h.0, quiet_after r v is h.1)

quiet_all : (r : ℕ) (vs : List Moved) (is : List Instr) → Quiet r is → Quiet r (drops_after_all vs is)
quiet_all r [] is h = h
quiet_all r (v ∷ vs) is h = quiet_all r vs (drops_after v is) (quiet_after r v is h)

narrow : (r a b a' b' : ℕ) → a' ≤ a → b ≤ b' → Beside a' b' r → Beside a b r
narrow r a b a' b' l m d = elim d [ inl x ↦ inl (omega arith) | inr x ↦ inr (omega arith) ]

other : (r a b into : ℕ) → a ≤ into → into < b → Beside a b r → into ≡ r → ⊥
other r a b into l m d e = elim d [ inl x ↦ omega (arith, x, l, e) | inr x ↦ omega (arith, x, m, e) ]

module _ (defs : List Def) (r : ℕ) where
  cells_still : (n free : ℕ) → Quiet r (cell_drops defs n free)
  cells_still zero free = tt
  cells_still (suc n) free = (refl, cells_still n (suc free))

  gives_still : (t : Ty) (o : Work) (l : LoweredAll) → Quiet r l.drops → Quiet r (gives defs t o l).drops
  gives_still t o l h = quiet_more r l.drops _ h (quiet_if r (work_refers defs t o) _ (quiet_from r l.free 0 (count_of defs t)))

  together_still : (front us : List Ty) (l : LoweredAll) → Quiet r l.drops → Quiet r (together_drops defs front us l)
  together_still front us l h =
      quiet_all r (moves_into defs (front ++ us) l.free (numbers_from defs (length front) (length l.values)) l.values) l.drops h

  node_still : (us : List Ty) (t : Ty) (o : Work) (l : LoweredAll) → Quiet r l.drops → Quiet r (node defs us t o l).drops
  node_still us t (Operate o) l h = go (passes_on o)
    where
      go : (b : Bool) → Quiet r (if b then gathers defs t o l else gives defs t (Operate o) l).drops
      go true = quiet_all r (moves_into defs (part_types defs t) l.free (part_numbers defs o (length l.values)) l.values) l.drops h
      go false = gives_still t (Operate o) l h
  node_still us t (tree.Assign aims) l h = h
  node_still us t (tree.TakePart k) l h = quiet_after r (moves_out defs (first_of defs us) k (slot_at 0 l.values) l.free) l.drops h
  node_still us t tree.Copy l h = h
  node_still us t tree.Link l h = quiet_more r l.drops _ h (cells_still (length l.values) l.free)
  node_still us t (tree.Call f) l h =
      quiet_more r (together_drops defs [] us l) _ (together_still [] us l h) (quiet_from r (value_slot defs l) 0 (count_of defs t))
  node_still us t (tree.Print ps) l h = together_still (ty.Chars ∷ []) us l h
  node_still us t tree.NewChannel l h = quiet_more r l.drops _ h (refl, tt)
  node_still us t (tree.Literal c) l h = gives_still t (tree.Literal c) l h
  node_still us t tree.Nil l h = gives_still t tree.Nil l h
  node_still us t (tree.Read w) l h = gives_still t (tree.Read w) l h
  node_still us t (tree.Sprint ps) l h = gives_still t (tree.Sprint ps) l h

  others_still : (h : Bool) (t : Ty) (a : ℕ) (zs : List ℤ) (lo s : ℕ) (e : Term)
      → Quiet r (lower defs (if h then suc lo else s) e).drops
      → Quiet r (others defs h t a zs lo (lower defs (if h then suc lo else s) e)).drops
  others_still true t a zs lo s e q = (refl, quiet_more r (lower defs (suc lo) e).drops _ q (refl, tt))
  others_still false t a zs lo s e q = tt

  mutual
    pub drops_still : (lo : ℕ) (t : Term) → Quiet r (lower defs lo t).drops
    drops_still lo (Evaluated v) = tt
    drops_still lo (Node t o ts) = node_still (types_in defs ts) t o (lower_all defs lo ts) (all_still lo ts)
    drops_still lo (Lazy c l e) =
        quiet_more r (lower defs lo l).drops _ (drops_still lo l)
        (quiet_if r (may_hold defs e) _ (refl, drops_still (suc (lower defs lo l).free) e))
    drops_still lo (Update o g t w ts us) =
        let a = lower_all defs lo ts in
        let b = lower_all defs (suc a.free) us in
        quiet_more r a.drops _ (all_still lo ts)
        (quiet_more r (drops_from a.free 0 (count_of defs t)) _ (quiet_from r a.free 0 (count_of defs t))
        (quiet_more r b.drops _ (all_still (suc a.free) us)
        (quiet_if r (work_refers defs t (Operate o)) _ (quiet_from r b.free 0 (count_of defs t)))))
    drops_still lo (Fill t l is rest) =
        let n = lower defs lo l in
        let s = suc n.free in
        let from = max (items_end defs s is) (rest_end defs s rest) in
        let es = lower_items defs t n.free s from is in
        let os = lower_rest defs t n.free (named defs is) s es.free rest in
        quiet_more r (n.drops ++ (Drop n.free 0 ∷ es.drops)) os.drops
        (quiet_more r n.drops (Drop n.free 0 ∷ es.drops) (drops_still lo l) (refl, items_still t n.free s from is))
        (rest_still t n.free (named defs is) s es.free rest)
    drops_still lo _ = tt

    pub all_still : (lo : ℕ) (ts : Terms) → Quiet r (lower_all defs lo ts).drops
    all_still lo NoTerms = tt
    all_still lo (MoreTerms t ts) =
        quiet_more r (lower defs lo t).drops _ (drops_still lo t) (all_still (lower defs lo t).free ts)

    pub items_still : (t : Ty) (a s lo : ℕ) (is : Items) → Quiet r (lower_items defs t a s lo is).drops
    items_still t a s lo NoItems = tt
    items_still t a s lo (MoreItems i e is) =
        let h = may_hold defs e in
        let base : ℕ = if h then lo else s in
        let x = lower defs base e in
        quiet_more r x.drops _ (drops_still base e) (items_still t a s (if h then x.free else lo) is)

    pub rest_still : (t : Ty) (a : ℕ) (zs : List ℤ) (s lo : ℕ) (ts : Terms) → Quiet r (lower_rest defs t a zs s lo ts).drops
    rest_still t a zs s lo NoTerms = tt
    rest_still t a zs s lo (MoreTerms e es) =
        let h = may_hold defs e in
        others_still h t a zs lo s e (drops_still (if h then suc lo else s) e)

  -- ---- the code of a tree gives values to the tree's own slots alone

  pub writes_quiet : (aims : List Aim) (ss : List ℕ) (value : ℕ) → Quiet r (writes defs aims ss value)
  writes_quiet [] ss value = tt
  writes_quiet (x ∷ aims) ss value = (refl, writes_quiet aims _ value)

  pub cells_quiet : (t : Ty) (ss : List ℕ) (b : Option ℕ) (free : ℕ) → Beside free (free + length ss) r → Quiet r (cells defs t ss b free)
  cells_quiet t [] b free d = tt
  cells_quiet t (s ∷ ss) b free d = (
    none_into free r _ (other r free (free + suc (length ss)) free (omega arith) (omega arith) d),
    cells_quiet t ss (Some free) (suc free) (narrow r (suc free) (suc free + length ss) free (free + suc (length ss)) (omega arith)
        (omega arith) d),
  )

  list_quiet : (t : Ty) (ss : List ℕ) (free : ℕ) → Beside free (suc (free + (length ss - 1))) r → Quiet r (list_code defs t ss free)
  list_quiet t [] free d = (none_into free r _ (other r free (suc (free + (0 - 1))) free (omega arith) (omega arith) d), tt)
  list_quiet t (s ∷ ss) free d =
      let items = reverse (s ∷ ss) in
      let m : length items ≡ suc (length ss) = length-reverse (s ∷ ss) in
      cells_quiet t items None free
      (narrow r free (free + length items) free (suc (free + (suc (length ss) - 1))) (omega arith) (omega arith) d)

  -- what is put together of operands
  pub placed_quiet : (t : Ty) (v : Option ℕ) (into n : ℕ) (ks : List ℕ) (cs : List (List Instr)) (ss : List ℕ) → (into ≡ r → ⊥)
      → EachQuiet r cs → Quiet r (placed defs t v into n ks cs ss)
  placed_quiet t v into n [] cs ss e q = tt
  placed_quiet t v into n (k ∷ ks) [] ss e q = tt
  placed_quiet t v into n (k ∷ ks) (c ∷ cs) [] e q = tt
  placed_quiet t v into n (k ∷ ks) (c ∷ cs) (s ∷ ss) e q =
      quiet_more r c (Place t v n k into s ∷ placed defs t v into (suc n) ks cs ss) q.0
      (none_into into r t e, placed_quiet t v into (suc n) ks cs ss e q.1)

  together_quiet : (lo : ℕ) (front us : List Ty) (l : LoweredAll) → lo ≤ l.free → EachQuiet r l.each
      → Beside lo (suc (value_slot defs l)) r → Quiet r (together defs front us l)
  together_quiet lo front us l p q d =
      let v = value_from defs l in
      placed_quiet (ty.Tuple (tys_of (front ++ us))) None l.free 0 (numbers_from defs (length front) (length l.values)) l.each l.values
      (other r lo (suc (value_slot defs l)) l.free p (omega arith) d) q

  value_quiet : (lo : ℕ) (t : Ty) (l : LoweredAll) → lo ≤ l.free → Beside lo (suc (value_slot defs l)) r
      → (if nat_eq (value_slot defs l) r then Some t else None) ≡ None
  value_quiet lo t l p d =
      let v = value_from defs l in
      none_into (value_slot defs l) r t (other r lo (suc (value_slot defs l)) (value_slot defs l) (omega arith) (omega arith) d)

  one_quiet : (lo : ℕ) (t : Ty) (l : LoweredAll) → lo ≤ l.free → Beside lo (suc l.free) r
      → (if nat_eq l.free r then Some t else None) ≡ None
  one_quiet lo t l p d = none_into l.free r t (other r lo (suc l.free) l.free p (omega arith) d)

  node_quiet : (lo : ℕ) (us : List Ty) (t : Ty) (o : Work) (l : LoweredAll) → lo ≤ l.free → Quiet r l.code → EachQuiet r l.each
      → Beside lo (node defs us t o l).free r
      → Quiet r (node defs us t o l).code
  node_quiet lo us t (Operate o) l p q e d = go (passes_on o) d
    where
      go : (b : Bool) → Beside lo (if b then gathers defs t o l else gives defs t (Operate o) l).free r
          → Quiet r (if b then gathers defs t o l else gives defs t (Operate o) l).code
      go true d = quiet_more r (placed defs t (variant_of defs o) l.free 0 (part_numbers defs o (length l.values)) l.each l.values) _
          (placed_quiet t (variant_of defs o) l.free 0 (part_numbers defs o (length l.values)) l.each l.values
          (other r lo (suc l.free) l.free p (omega arith) d) e)
          (one_quiet lo t l p d, tt)
      go false d = quiet_more r l.code _ q (one_quiet lo t l p d, tt)
  node_quiet lo us t (tree.Assign aims) l p q e d =
      quiet_more r l.code _ q (writes_quiet aims l.values (slot_at (operands_for aims) l.values))
  node_quiet lo us t (tree.TakePart k) l p q e d = quiet_more r l.code _ q (one_quiet lo t l p d, tt)
  node_quiet lo us t tree.Copy l p q e d = quiet_more r l.code _ q (refl, tt)
  node_quiet lo us t tree.Link l p q e d =
      quiet_more r l.code _ q (list_quiet (item_of t) l.values l.free
      (narrow r l.free (suc (l.free + (length l.values - 1))) lo (suc (l.free + (length l.values - 1))) p (omega arith) d))
  node_quiet lo us t (tree.Call f) l p q e d =
      quiet_more r (together defs [] us l) _ (together_quiet lo [] us l p e d) (value_quiet lo t l p d, tt)
  node_quiet lo us t (tree.Print ps) l p q e d =
      quiet_more r (together defs (ty.Chars ∷ []) us l) _ (together_quiet lo (ty.Chars ∷ []) us l p e d)
      (value_quiet lo ty.Int l p d, tt)
  node_quiet lo us t tree.NewChannel l p q e d = quiet_more r l.code _ q (one_quiet lo t l p d, tt)
  node_quiet lo us t (tree.Literal c) l p q e d = quiet_more r l.code _ q (one_quiet lo t l p d, tt)
  node_quiet lo us t tree.Nil l p q e d = quiet_more r l.code _ q (one_quiet lo t l p d, tt)
  node_quiet lo us t (tree.Read w) l p q e d = quiet_more r l.code _ q (one_quiet lo t l p d, tt)
  node_quiet lo us t (tree.Sprint ps) l p q e d = quiet_more r l.code _ q (one_quiet lo t l p d, tt)

  -- an element's slots are its own or shared
  beside_base : (h : Bool) (lo s from hi : ℕ) (e : Term) → (if h then (lower defs (if h then lo else s) e).free else lo) ≤ hi
      → (if h then s else (lower defs s e).free) ≤ from → Beside s from r → Beside lo hi r
      → Beside (if h then lo else s) (lower defs (if h then lo else s) e).free r
  beside_base true lo s from hi e l m b d = narrow r lo (lower defs lo e).free lo hi (omega arith) l d
  beside_base false lo s from hi e l m b d = narrow r s (lower defs s e).free s from (omega arith) m b

  others_quiet : (h : Bool) (t : Ty) (a : ℕ) (zs : List ℤ) (lo s from : ℕ) (e : Term) → (if h then s else (lower defs s e).free) ≤ from
      → Beside s from r → Beside lo (others defs h t a zs lo (lower defs (if h then suc lo else s) e)).free r
      → ((base : ℕ) → Beside base (lower defs base e).free r → Quiet r (lower defs base e).code)
      → Quiet r (others defs h t a zs lo (lower defs (if h then suc lo else s) e)).code
  others_quiet true t a zs lo s from e m b d f =
      let x = lower defs (suc lo) e in (
        refl,
        (
          refl,
          quiet_more r (x.code ++ (Other t a lo x.value ∷ Keep lo (suc lo) (x.free - suc lo) ∷ [])) _
              (quiet_more r x.code _ (f (suc lo) (narrow r (suc lo) x.free lo x.free (omega arith) (omega arith) d)) (refl, (refl, tt)))
              (refl, tt),
        ),
      )
  others_quiet false t a zs lo s from e m b d f =
      let x = lower defs s e in (
        refl,
        (
          refl,
          quiet_more r (x.code ++ (Other t a lo x.value ∷ [])) _
              (quiet_more r x.code _ (f s (narrow r s x.free s from (omega arith) m b)) (refl, tt)) (refl, tt),
        ),
      )

  mutual
    pub term_quiet : (lo : ℕ) (t : Term) → Beside lo (lower defs lo t).free r → Quiet r (lower defs lo t).code
    term_quiet lo (Evaluated v) d = (none_into lo r _ (other r lo (suc lo) lo (omega arith) (omega arith) d), tt)
    term_quiet lo (Node t o ts) d =
        let l = lower_all defs lo ts in
        let us = types_in defs ts in
        let own : Beside lo l.free r = narrow r lo l.free lo (node defs us t o l).free (omega arith) (node_up defs us t o l) d in
        node_quiet lo us t o l (terms_up defs lo ts) (terms_quiet lo ts own) (each_quiet lo ts own) d
    term_quiet lo (Lazy c l e) d =
        let a = lower defs lo l in
        let b = lower defs (suc a.free) e in
        let p = term_up defs lo l in
        let q = term_up defs (suc a.free) e in
        let skip = Skip c b.free (if may_hold defs e then Some a.free else None) a.value (suc (length b.code)) in
        let z : (t : Ty) → (if nat_eq b.free r then Some t else None) ≡ None =
        λ t. none_into b.free r t (other r lo (suc b.free) b.free (omega arith) (omega arith) d) in
        quiet_more r (a.code ++ (skip ∷ b.code)) _
        (quiet_more r a.code (skip ∷ b.code) (term_quiet lo l (narrow r lo a.free lo (suc b.free) (omega arith) (omega arith) d))
        (z ty.Int, term_quiet (suc a.free) e (narrow r (suc a.free) b.free lo (suc b.free) (omega arith) (omega arith) d)))
        (z ty.Int, tt)
    term_quiet lo (Update o g t w ts us) d =
        let a = lower_all defs lo ts in
        let b = lower_all defs (suc a.free) us in
        let p = terms_up defs lo ts in
        let q = terms_up defs (suc a.free) us in
        let read = Give t (tree.Read w) a.free a.values in
        quiet_more r (a.code ++ (read ∷ b.code)) _
        (quiet_more r a.code (read ∷ b.code) (terms_quiet lo ts (narrow r lo a.free lo (suc b.free) (omega arith) (omega arith) d)) (
          none_into a.free r t (other r lo (suc b.free) a.free (omega arith) (omega arith) d),
          terms_quiet (suc a.free) us (narrow r (suc a.free) b.free lo (suc b.free) (omega arith) (omega arith) d),
        ))
        (none_into b.free r t (other r lo (suc b.free) b.free (omega arith) (omega arith) d), (refl, tt))
    term_quiet lo (Fill t l is rest) d =
        let n = lower defs lo l in
        let s = suc n.free in
        let from = max (items_end defs s is) (rest_end defs s rest) in
        let es = lower_items defs t n.free s from is in
        let os = lower_rest defs t n.free (named defs is) s es.free rest in
        let p = term_up defs lo l in
        let q = end_up defs s is in
        let u = items_up defs t n.free s from is in
        let v = rest_up defs t n.free (named defs is) s es.free rest in
        let give = Give (ty.ArrayOf t) (Operate operation.NewArray) n.free (n.value ∷ []) in
        let b : Beside s from r = narrow r s from lo os.free (omega arith) (omega arith) d in
        quiet_more r (n.code ++ (give ∷ es.code)) os.code
        (quiet_more r n.code (give ∷ es.code) (term_quiet lo l (narrow r lo n.free lo os.free (omega arith) (omega arith) d)) (
          none_into n.free r (ty.ArrayOf t) (other r lo os.free n.free (omega arith) (omega arith) d),
          items_quiet t n.free s from from is (omega arith) (omega arith) (omega arith) b
              (narrow r from es.free lo os.free (omega arith) (omega arith) d),
        ))
        (rest_quiet t n.free (named defs is) s from es.free rest (omega arith) (omega arith) u b
        (narrow r es.free os.free lo os.free (omega arith) (omega arith) d))
    term_quiet lo _ d = tt

    pub terms_quiet : (lo : ℕ) (ts : Terms) → Beside lo (lower_all defs lo ts).free r → Quiet r (lower_all defs lo ts).code
    terms_quiet lo NoTerms d = tt
    terms_quiet lo (MoreTerms t ts) d =
        let a = lower defs lo t in
        let b = lower_all defs a.free ts in
        let p = term_up defs lo t in
        let q = terms_up defs a.free ts in
        quiet_more r a.code b.code (term_quiet lo t (narrow r lo a.free lo b.free (omega arith) q d))
        (terms_quiet a.free ts (narrow r a.free b.free lo b.free p (omega arith) d))

    each_quiet : (lo : ℕ) (ts : Terms) → Beside lo (lower_all defs lo ts).free r → EachQuiet r (lower_all defs lo ts).each
    each_quiet lo NoTerms d = tt
    each_quiet lo (MoreTerms t ts) d =
        let a = lower defs lo t in
        let b = lower_all defs a.free ts in
        let p = term_up defs lo t in
        let q = terms_up defs a.free ts in (
          term_quiet lo t (narrow r lo a.free lo b.free (omega arith) q d),
          each_quiet a.free ts (narrow r a.free b.free lo b.free p (omega arith) d),
        )

    pub items_quiet : (t : Ty) (a s from lo : ℕ) (is : Items) → s ≤ from → items_end defs s is ≤ from → from ≤ lo → Beside s from r
        → Beside lo (lower_items defs t a s lo is).free r → Quiet r (lower_items defs t a s lo is).code
    items_quiet t a s from lo NoItems l m p b d = tt
    items_quiet t a s from lo (MoreItems i e is) l m p b d =
        let h = may_hold defs e in
        let base : ℕ = if h then lo else s in
        let x = lower defs base e in
        let lo' : ℕ = if h then x.free else lo in
        let y = lower_items defs t a s lo' is in
        let up : lo ≤ lo' = either_up defs h lo s e (term_up defs lo e) in
        let u : lo' ≤ y.free = items_up defs t a s lo' is in
        quiet_more r x.code (Element t a i x.value ∷ y.code)
        (term_quiet base e (beside_base h lo s from y.free e u (omega arith) b d))
        (refl, items_quiet t a s from lo' is l (omega arith) (omega arith) b (narrow r lo' y.free lo y.free up (omega arith) d))

    pub rest_quiet : (t : Ty) (a : ℕ) (zs : List ℤ) (s from lo : ℕ) (ts : Terms) → s ≤ from → rest_end defs s ts ≤ from → from ≤ lo
        → Beside s from r → Beside lo (lower_rest defs t a zs s lo ts).free r → Quiet r (lower_rest defs t a zs s lo ts).code
    rest_quiet t a zs s from lo NoTerms l m p b d = tt
    rest_quiet t a zs s from lo (MoreTerms e es) l m p b d =
        others_quiet (may_hold defs e) t a zs lo s from e m b d (λ base c. term_quiet base e c)

-- The cells of a list are told as lists.
pub cells_told : (defs : List Def) (code : List Instr) (pc : ℕ) (t : Ty) (ss : List ℕ) (b : Option ℕ) (free r : ℕ)
    → HasAt code pc (cells defs t ss b free) → free ≤ r → r < free + length ss
    → told code (pc + length (cells defs t ss b free)) r ≡ Some (ty.ListOf t)
cells_told defs code pc t [] b free r has p q = absurd (omega arith)
cells_told defs code pc t (s ∷ ss) b free r has p q =
    let rest = cells defs t ss (Some free) (suc free) in
    let e : pc + suc (length rest) ≡ suc pc + length rest = omega arith in
    told_at code (pc + suc (length rest)) (suc pc + length rest) r e ∙ ⊎_elim
    (λ (f : r ≡ free). subst (λ (z : ℕ). told code (suc pc + length rest) z ≡ Some (ty.ListOf t)) (sym f)
    (told_over code (suc pc) free rest has.1 (cells_quiet defs free t ss (Some free) (suc free) (inl (omega arith)))
    ∙ told_given code pc free (Cell t free s b) (ty.ListOf t) has.0 (some_into free (ty.ListOf t))))
    (λ (f : r ≡ free → ⊥). cells_told defs code (suc pc) t ss (Some free) (suc free) r has.1 (omega (arith, f)) (omega arith))
    (cases_eq r free)
