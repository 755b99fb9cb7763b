-- What the drops of a tree touch, and that a tree that may hold nothing has none.
use Rattle.std.proofs.Common.{◌≡◌, ℕ, ℤ, zero, suc, ◌+◌, ◌-◌, ◌<◌, ◌≤◌, Bool, true, false, ◌||◌, List, [], ◌∷◌, ◌++◌, length, max, Option}
use Rattle.std.proofs.Common.{refl, sym, ap, subst, ◌∙◌, arith}
use Rattle.std.specs.Prelude.{if◌then◌else◌}
use Rattle.limbo_types.specs.Types as ty
use Rattle.limbo_types.specs.Types.{Ty}
use Rattle.limbo_layout.specs.Adts.{Def}
use Rattle.limbo_meaning.specs.Values.{references, zero_of}
use Rattle.limbo_meaning.specs.Trees as tree
use Rattle.limbo_meaning.specs.Trees.{Work, Operate, Term, Evaluated, Node, Lazy, Update, Fill, Terms, NoTerms, MoreTerms, Items, NoItems}
use Rattle.limbo_meaning.specs.Trees.{MoreItems}
use Rattle.limbo_meaning.specs.Evaluation.{passes_on, may_hold, some_may_hold, work_refers, refers, is_some}
use Rattle.core_code.specs.Code.{Instr, Drop, Mirror, Take, Back}
use Rattle.core_code.specs.Terms.{LoweredAll, Moved, is_moved, drop_after, drops_after, drops_after_all, drops_from, drops_if}
use Rattle.core_code.specs.Terms.{count_of, gives, gathers, cell_drops, slot_at, moves_out, first_of, types_in, node, others, lower}
use Rattle.core_code.specs.Terms.{lower_all, numbers_from, value_slot, together_drops}
use Rattle.core_code.specs.Terms.{lower_items, lower_rest, named, items_end, rest_end, part_types, part_numbers, moves_into}
use Rattle.core_code.proofs.Used.{value_from, either_up, end_up, term_up, terms_up, items_up, rest_up}
use Rattle.core_follows.specs.Drops.{Between, Touches, AllTouch}
use Rattle.core_follows.specs.Handled.{count}
use Rattle.core_follows.proofs.Drops.{touch_more, touch_others}

pub touch_wide : (lo hi lo' hi' : ℕ) (is : List Instr) → lo' ≤ lo → hi ≤ hi' → AllTouch (Between lo hi) is → AllTouch (Between lo' hi') is
touch_wide lo hi lo' hi' is l m h =
    touch_others (Between lo hi) (Between lo' hi') is
    (λ s b. (let a = b.0 in omega (arith, a, l), let a = b.1 in omega (arith, a, m))) h

pub touch_if : (own : ℕ → Type 0) (b : Bool) (is : List Instr) → AllTouch own is → AllTouch own (drops_if b is)
touch_if own true is h = h
touch_if own false is h = tt

touch_from : (lo hi s k n : ℕ) → lo ≤ s → s < hi → AllTouch (Between lo hi) (drops_from s k n)
touch_from lo hi s k zero l m = tt
touch_from lo hi s k (suc n) l m = ((l, m), touch_from lo hi s (suc k) n l m)

either_touch : (own : ℕ → Type 0) (b : Bool) (i j : Instr) → Touches own i → Touches own j → Touches own (if b then i else j)
either_touch own true i j h k = h
either_touch own false i j h k = k

after_one : (own : ℕ → Type 0) (v : Moved) (i : Instr) → own v.into → Touches own i → Touches own (drop_after v i)
after_one own v (Drop s r) o h = either_touch own (is_moved v s r) (Drop v.into (v.at + (r - v.first))) (Drop s r) o h
after_one own v (Mirror d n) o h = h
after_one own v (Take c from words n) o h = h
after_one own v _ o h = tt

pub after_touch : (own : ℕ → Type 0) (v : Moved) (is : List Instr) → own v.into → AllTouch own is → AllTouch own (drops_after v is)
after_touch own v [] o h = tt
after_touch own v (i ∷ is) o h = (after_one own v i o h.0, after_touch own v is o h.1)

pub after_all : (own : ℕ → Type 0) (defs : List Def) (ts : List Ty) (into : ℕ) (ns ss : List ℕ) (is : List Instr) → own into
    → AllTouch own is
    → AllTouch own (drops_after_all (moves_into defs ts into ns ss) is)
after_all own defs ts into [] [] is o h = h
after_all own defs ts into [] (s ∷ ss) is o h = h
after_all own defs ts into (k ∷ ns) [] is o h = h
after_all own defs ts into (k ∷ ns) (s ∷ ss) is o h = after_all own defs ts into ns ss _ o (after_touch own _ is o h)

after_nothing : (vs : List Moved) → drops_after_all vs [] ≡ []
after_nothing [] = refl
after_nothing (v ∷ vs) = after_nothing vs

or_left : (a b : Bool) → (a || b) ≡ false → a ≡ false
or_left false b e = refl
or_left true b e = absurd cc

or_right : (a b : Bool) → (a || b) ≡ false → b ≡ false
or_right false b e = e
or_right true b e = absurd cc

none_in : (rs : List (Option ℕ)) → is_some rs ≡ false → length rs ≡ 0
none_in [] e = refl
none_in (r ∷ rs) e = absurd cc

module _ (defs : List Def) where
  touch_cells : (lo hi n free : ℕ) → lo ≤ free → free + n ≤ hi → AllTouch (Between lo hi) (cell_drops defs n free)
  touch_cells lo hi zero free l m = tt
  touch_cells lo hi (suc n) free l m = ((l, omega arith), touch_cells lo hi n (suc free) (omega arith) (omega arith))

  gives_within : (lo : ℕ) (t : Ty) (o : Work) (l : LoweredAll) → lo ≤ l.free → AllTouch (Between lo l.free) l.drops
      → AllTouch (Between lo (suc l.free)) (gives defs t o l).drops
  gives_within lo t o l p h =
      touch_more (Between lo (suc l.free)) l.drops _ (touch_wide lo l.free lo (suc l.free) l.drops (omega arith) (omega arith) h)
      (touch_if (Between lo (suc l.free)) (work_refers defs t o) _ (touch_from lo (suc l.free) l.free 0 (count_of defs t) p (omega arith)))

  together_within : (lo hi : ℕ) (front us : List Ty) (l : LoweredAll) → lo ≤ l.free → l.free < hi → AllTouch (Between lo l.free) l.drops
      → AllTouch (Between lo hi) (together_drops defs front us l)
  together_within lo hi front us l p q h =
      after_all (Between lo hi) defs (front ++ us) l.free (numbers_from defs (length front) (length l.values)) l.values l.drops (p, q)
      (touch_wide lo l.free lo hi l.drops (omega arith) (omega arith) h)

  node_within : (lo : ℕ) (us : List Ty) (t : Ty) (o : Work) (l : LoweredAll) → lo ≤ l.free → AllTouch (Between lo l.free) l.drops
      → AllTouch (Between lo (node defs us t o l).free) (node defs us t o l).drops
  node_within lo us t (Operate o) l p h = go (passes_on o)
    where
      go : (b : Bool) → AllTouch (Between lo (if b then gathers defs t o l else gives defs t (Operate o) l).free)
          (if b then gathers defs t o l else gives defs t (Operate o) l).drops
      go true = after_all (Between lo (suc l.free)) defs (part_types defs t) l.free (part_numbers defs o (length l.values)) l.values l.drops
          (p, omega arith) (touch_wide lo l.free lo (suc l.free) l.drops (omega arith) (omega arith) h)
      go false = gives_within lo t (Operate o) l p h
  node_within lo us t (tree.Assign aims) l p h = h
  node_within lo us t (tree.TakePart k) l p h =
      after_touch (Between lo (suc l.free)) (moves_out defs (first_of defs us) k (slot_at 0 l.values) l.free) l.drops (p, omega arith)
      (touch_wide lo l.free lo (suc l.free) l.drops (omega arith) (omega arith) h)
  node_within lo us t tree.Copy l p h = h
  node_within lo us t tree.Link l p h =
      let hi = suc (l.free + (length l.values - 1)) in
      touch_more (Between lo hi) l.drops _ (touch_wide lo l.free lo hi l.drops (omega arith) (omega arith) h)
      (touch_cells lo hi (length l.values) l.free p (omega arith))
  node_within lo us t (tree.Call f) l p h =
      let at : ℕ = value_slot defs l in
      let q = value_from defs l in
      touch_more (Between lo (suc at)) (together_drops defs [] us l) _ (together_within lo (suc at) [] us l p (omega arith) h)
      (touch_from lo (suc at) at 0 (count_of defs t) (omega arith) (omega arith))
  node_within lo us t (tree.Print ps) l p h =
      let q = value_from defs l in together_within lo (suc (value_slot defs l)) (ty.Chars ∷ []) us l p (omega arith) h
  node_within lo us t tree.NewChannel l p h =
      touch_more (Between lo (suc l.free)) l.drops _ (touch_wide lo l.free lo (suc l.free) l.drops (omega arith) (omega arith) h)
      ((p, omega arith), tt)
  node_within lo us t (tree.Literal c) l p h = gives_within lo t (tree.Literal c) l p h
  node_within lo us t tree.Nil l p h = gives_within lo t tree.Nil l p h
  node_within lo us t (tree.Read w) l p h = gives_within lo t (tree.Read w) l p h
  node_within lo us t (tree.Sprint ps) l p h = gives_within lo t (tree.Sprint ps) l p h

  -- ---- a tree without references has no drops

  no_count : (t : Ty) → refers defs t ≡ false → count_of defs t ≡ 0
  no_count t e = none_in (references (zero_of defs t)) e

  no_row : (t : Ty) (s : ℕ) (ds : List Instr) → ds ≡ [] → refers defs t ≡ false → ds ++ drops_from s 0 (count_of defs t) ≡ []
  no_row t s ds e f =
      ap (λ (is : List Instr). is ++ drops_from s 0 (count_of defs t)) e ∙ ap (λ (k : ℕ). drops_from s 0 k) (no_count t f)

  no_if : (b : Bool) (ds is : List Instr) → ds ≡ [] → b ≡ false → ds ++ drops_if b is ≡ []
  no_if b ds is e f = ap (λ (xs : List Instr). xs ++ drops_if b is) e ∙ ap (λ (c : Bool). drops_if c is) f

  together_none : (front us : List Ty) (l : LoweredAll) → l.drops ≡ [] → together_drops defs front us l ≡ []
  together_none front us l e =
      ap (drops_after_all (moves_into defs (front ++ us) l.free (numbers_from defs (length front) (length l.values)) l.values)) e
      ∙ after_nothing (moves_into defs (front ++ us) l.free (numbers_from defs (length front) (length l.values)) l.values)

  node_none : (us : List Ty) (t : Ty) (o : Work) (l : LoweredAll) → work_refers defs t o ≡ false → l.drops ≡ [] → (node defs us t o l).drops ≡ []
  node_none us t (Operate o) l e f = go (passes_on o) e
    where
      go : (b : Bool) → (if b then false else refers defs t) ≡ false
          → (if b then gathers defs t o l else gives defs t (Operate o) l).drops ≡ []
      go true g = ap (drops_after_all (moves_into defs (part_types defs t) l.free (part_numbers defs o (length l.values)) l.values)) f
          ∙ after_nothing (moves_into defs (part_types defs t) l.free (part_numbers defs o (length l.values)) l.values)
      go false g = no_if (work_refers defs t (Operate o)) l.drops _ f e
  node_none us t (tree.Assign aims) l e f = f
  node_none us t (tree.TakePart k) l e f = ap (drops_after (moves_out defs (first_of defs us) k (slot_at 0 l.values) l.free)) f
  node_none us t tree.Copy l e f = f
  node_none us t tree.Link l e f = absurd cc
  node_none us t (tree.Call k) l e f = no_row t (value_slot defs l) (together_drops defs [] us l) (together_none [] us l f) e
  node_none us t (tree.Print ps) l e f = together_none (ty.Chars ∷ []) us l f
  node_none us t tree.NewChannel l e f = absurd cc
  node_none us t (tree.Literal c) l e f = no_if false l.drops [] f e
  node_none us t tree.Nil l e f = no_if false l.drops [] f e
  node_none us t (tree.Read w) l e f = no_if (refers defs t) l.drops _ f e
  node_none us t (tree.Sprint ps) l e f = no_if false l.drops [] f e

  mutual
    pub no_drops : (lo : ℕ) (t : Term) → may_hold defs t ≡ false → (lower defs lo t).drops ≡ []
    no_drops lo (Evaluated v) e = refl
    no_drops lo (Node t o ts) e =
        node_none (types_in defs ts) t o (lower_all defs lo ts) (or_left (work_refers defs t o) (some_may_hold defs ts) e)
        (none_dropped lo ts (or_right (work_refers defs t o) (some_may_hold defs ts) e))
    no_drops lo (Lazy c l r) e =
        no_if (may_hold defs r) (lower defs lo l).drops _ (no_drops lo l (or_left (may_hold defs l) (may_hold defs r) e))
        (or_right (may_hold defs l) (may_hold defs r) e)
    no_drops lo (Update o g t w ts us) e =
        let a = lower_all defs lo ts in
        let b = lower_all defs (suc a.free) us in
        let f = or_left (refers defs t) (some_may_hold defs ts || some_may_hold defs us) e in
        let h = or_right (refers defs t) (some_may_hold defs ts || some_may_hold defs us) e in
        let x = none_dropped lo ts (or_left (some_may_hold defs ts) (some_may_hold defs us) h) in
        let y = none_dropped (suc a.free) us (or_right (some_may_hold defs ts) (some_may_hold defs us) h) in
        let own : List Instr = drops_if (work_refers defs t (Operate o)) (drops_from b.free 0 (count_of defs t)) in
        let z : own ≡ [] = own_none (passes_on o) t b.free f in
        ap (λ (is : List Instr). is ++ (drops_from a.free 0 (count_of defs t) ++ (b.drops ++ own))) x
        ∙ ap (λ (k : ℕ). drops_from a.free 0 k ++ (b.drops ++ own)) (no_count t f)
        ∙ ap (λ (is : List Instr). is ++ own) y ∙ z
      where
        own_none : (c : Bool) (t : Ty) (s : ℕ) → refers defs t ≡ false
            → drops_if (if c then false else refers defs t) (drops_from s 0 (count_of defs t)) ≡ []
        own_none true t s f = refl
        own_none false t s f = ap (λ (b : Bool). drops_if b (drops_from s 0 (count_of defs t))) f
    no_drops lo (Fill t l is rest) e = absurd cc
    no_drops lo _ e = refl

    pub none_dropped : (lo : ℕ) (ts : Terms) → some_may_hold defs ts ≡ false → (lower_all defs lo ts).drops ≡ []
    none_dropped lo NoTerms e = refl
    none_dropped lo (MoreTerms t ts) e =
        ap (λ (is : List Instr). is ++ (lower_all defs (lower defs lo t).free ts).drops)
        (no_drops lo t (or_left (may_hold defs t) (some_may_hold defs ts) e))
        ∙ none_dropped (lower defs lo t).free ts (or_right (may_hold defs t) (some_may_hold defs ts) e)

  -- ---- drops touch the tree's own slots

  -- of an element that holds nothing no drop touches anything, wherever its slots are
  either_within : (h : Bool) (a b lo s : ℕ) (e : Term) → may_hold defs e ≡ h → a ≤ lo
      → (if h then (lower defs (if h then lo else s) e).free else lo) ≤ b
      → AllTouch (Between lo (lower defs lo e).free) (lower defs lo e).drops
      → AllTouch (Between a b) (lower defs (if h then lo else s) e).drops
  either_within true a b lo s e eh l m f = touch_wide lo (lower defs lo e).free a b _ l m f
  either_within false a b lo s e eh l m f = subst (AllTouch (Between a b)) (sym (no_drops s e eh)) tt

  others_within : (h : Bool) (a b : ℕ) (t : Ty) (array : ℕ) (zs : List ℤ) (lo s : ℕ) (e : Term) → a ≤ lo
      → (others defs h t array zs lo (lower defs (if h then suc lo else s) e)).free ≤ b
      → suc lo ≤ (lower defs (suc lo) e).free
      → AllTouch (Between (suc lo) (lower defs (suc lo) e).free) (lower defs (suc lo) e).drops
      → AllTouch (Between a b) (others defs h t array zs lo (lower defs (if h then suc lo else s) e)).drops
  others_within true a b t array zs lo s e l m u f =
      let x = lower defs (suc lo) e in (
        ((omega arith, omega arith), omega arith, λ r p q. (omega arith, omega arith)),
        touch_more (Between a b) x.drops (Back (suc (length x.drops)) ∷ [])
            (touch_wide (suc lo) x.free a b x.drops (omega arith) m f) (tt, tt),
      )
  others_within false a b t array zs lo s e l m u f = tt

  mutual
    pub drops_within : (lo : ℕ) (t : Term) → AllTouch (Between lo (lower defs lo t).free) (lower defs lo t).drops
    drops_within lo (Evaluated v) = tt
    drops_within lo (Node t o ts) =
        node_within lo (types_in defs ts) t o (lower_all defs lo ts) (terms_up defs lo ts) (all_within lo ts)
    drops_within lo (Lazy c l r) =
        let a = lower defs lo l in
        let b = lower defs (suc a.free) r in
        let p = term_up defs lo l in
        let q = term_up defs (suc a.free) r in
        touch_more (Between lo (suc b.free)) a.drops _ (touch_wide lo a.free lo (suc b.free) a.drops (omega arith) (omega arith)
        (drops_within lo l))
        (touch_if (Between lo (suc b.free)) (may_hold defs r) _ (
          (p, omega arith),
          touch_wide (suc a.free) b.free lo (suc b.free) b.drops (omega arith) (omega arith) (drops_within (suc a.free) r),
        ))
    drops_within lo (Update o g t w ts us) =
        let a = lower_all defs lo ts in
        let b = lower_all defs (suc a.free) us in
        let p = terms_up defs lo ts in
        let q = terms_up defs (suc a.free) us in
        let hi = suc b.free in
        touch_more (Between lo hi) a.drops _ (touch_wide lo a.free lo hi a.drops (omega arith) (omega arith) (all_within lo ts))
        (touch_more (Between lo hi) (drops_from a.free 0 (count_of defs t)) _ (touch_from lo hi a.free 0 (count_of defs t) p (omega arith))
        (touch_more (Between lo hi) b.drops _ (touch_wide (suc a.free) b.free lo hi b.drops (omega arith) (omega arith)
        (all_within (suc a.free) us))
        (touch_if (Between lo hi) (work_refers defs t (Operate o)) _ (touch_from lo hi b.free 0 (count_of defs t) (omega arith)
        (omega arith)))))
    drops_within lo (Fill t l is rest) =
        let n = lower defs lo l in
        let s = suc n.free in
        let from = max (items_end defs s is) (rest_end defs s rest) in
        let es = lower_items defs t n.free s from is in
        let os = lower_rest defs t n.free (named defs is) s es.free rest in
        let p = term_up defs lo l in
        let q = end_up defs s is in
        let u = items_up defs t n.free s from is in
        let v = rest_up defs t n.free (named defs is) s es.free rest in
        touch_more (Between lo os.free) (n.drops ++ (Drop n.free 0 ∷ es.drops)) os.drops
        (touch_more (Between lo os.free) n.drops (Drop n.free 0 ∷ es.drops)
        (touch_wide lo n.free lo os.free n.drops (omega arith) (omega arith) (drops_within lo l))
        ((omega arith, omega arith), items_within lo os.free t n.free s from is (omega arith) v))
        (rest_within lo os.free t n.free (named defs is) s es.free rest (omega arith) (omega arith))
    drops_within lo _ = tt

    pub all_within : (lo : ℕ) (ts : Terms) → AllTouch (Between lo (lower_all defs lo ts).free) (lower_all defs lo ts).drops
    all_within lo NoTerms = tt
    all_within lo (MoreTerms t ts) =
        let a = lower defs lo t in
        let b = lower_all defs a.free ts in
        let p = term_up defs lo t in
        let q = terms_up defs a.free ts in
        touch_more (Between lo b.free) a.drops b.drops (touch_wide lo a.free lo b.free a.drops (omega arith) q (drops_within lo t))
        (touch_wide a.free b.free lo b.free b.drops p (omega arith) (all_within a.free ts))

    pub items_within : (a b : ℕ) (t : Ty) (array s lo : ℕ) (is : Items) → a ≤ lo → (lower_items defs t array s lo is).free ≤ b
        → AllTouch (Between a b) (lower_items defs t array s lo is).drops
    items_within a b t array s lo NoItems l m = tt
    items_within a b t array s lo (MoreItems i e is) l m =
        let h = may_hold defs e in
        let x = lower defs (if h then lo else s) e in
        let up = either_up defs h lo s e (term_up defs lo e) in
        let u = items_up defs t array s (if h then x.free else lo) is in
        touch_more (Between a b) x.drops _ (either_within h a b lo s e refl l (omega arith) (drops_within lo e))
        (items_within a b t array s (if h then x.free else lo) is (omega arith) m)

    pub rest_within : (a b : ℕ) (t : Ty) (array : ℕ) (zs : List ℤ) (s lo : ℕ) (ts : Terms) → a ≤ lo
        → (lower_rest defs t array zs s lo ts).free ≤ b → AllTouch (Between a b) (lower_rest defs t array zs s lo ts).drops
    rest_within a b t array zs s lo NoTerms l m = tt
    rest_within a b t array zs s lo (MoreTerms e es) l m =
        others_within (may_hold defs e) a b t array zs lo s e l m (term_up defs (suc lo) e) (drops_within (suc lo) e)

  pub values_counted : (lo : ℕ) (ts : Terms) → length (lower_all defs lo ts).values ≡ count ts
  values_counted lo NoTerms = refl
  values_counted lo (MoreTerms t ts) = ap suc (values_counted (lower defs lo t).free ts)
