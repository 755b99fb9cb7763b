-- Slots behind whose drops nothing is named have values alone, where no chain comes back; and the drops of trees without chains take none.
use Rattle.std.proofs.Common.{◌≡◌, ℕ, ℤ, zero, suc, ◌+◌, ◌-◌, ◌<◌, ◌≤◌, Bool, true, false, List, [], ◌∷◌, ◌++◌, length, max, Option}
use Rattle.std.proofs.Common.{subst}
use Rattle.std.specs.Prelude.{if◌then◌else◌}
use Rattle.limbo_types.specs.Types as ty
use Rattle.limbo_types.specs.Types.{Ty}
use Rattle.limbo_layout.specs.Adts.{Def}
use Rattle.limbo_meaning.specs.Trees as tree
use Rattle.limbo_meaning.specs.Trees.{Work, Operate, Term, Evaluated, Node, Lazy, Update, Fill, Terms, NoTerms, MoreTerms, Items}
use Rattle.limbo_meaning.specs.Trees.{NoItems, MoreItems}
use Rattle.limbo_meaning.specs.Evaluation.{passes_on, may_hold, work_refers}
use Rattle.core_code.specs.Code.{Instr, Drop, Take}
use Rattle.core_code.specs.Terms.{Lowered, LoweredAll, Moved, is_moved, drop_after, drops_after, drops_after_all, drops_from, drops_if}
use Rattle.core_code.specs.Terms.{count_of, gives, gathers, cell_drops, slot_at, moves_out, first_of, types_in}
use Rattle.core_code.specs.Terms.{node, others}
use Rattle.core_code.specs.Terms.{lower, lower_all, lower_items, lower_rest, named, items_end, rest_end, part_types, part_numbers}
use Rattle.core_code.specs.Terms.{moves_into, numbers_from, together_drops, value_slot}
use Rattle.core_typing.specs.Held.{Held, Of, Forming, Decided, Turns, NoRegion, MoreRegions, Slots, slot, put, dropped}
use Rattle.core_typing.specs.Needs.{IsClean, IsBare}
use Rattle.core_typing.specs.Runs.{OthersHoldNothing, NoChains, NoneChains, NoItemChains}
use Rattle.core_typing.proofs.Drops.{Lets, none, one, enters, passes, takes}

-- ---- instructions that take nothing of a chain

abbrev pub IsNoTake : Instr → Type 0
IsNoTake (Take c from words n) = ⊥
IsNoTake i = Unit {0}

abbrev pub TakesNone : List Instr → Type 0
TakesNone [] = Unit {0}
TakesNone (i ∷ is) = IsNoTake i × TakesNone is

untaken_more : (is js : List Instr) → TakesNone is → TakesNone js → TakesNone (is ++ js)
untaken_more [] js h k = k
untaken_more (i ∷ is) js h k = (h.0, untaken_more is js h.1 k)

untaken_back : (is js : List Instr) → TakesNone (is ++ js) → TakesNone js
untaken_back [] js h = h
untaken_back (i ∷ is) js h = untaken_back is js h.1

-- ---- what has to have been a value

clean_bare : (h : Held) → IsClean h → IsBare h
clean_bare (Of t ns) c = tt
clean_bare (Forming t v ks us ns) c = c
clean_bare (Decided b) c = tt
clean_bare (Turns NoRegion) c = tt
clean_bare (Turns (MoreRegions g rs)) c = c

dropped_bare : (k : ℕ) (h : Held) → IsBare (dropped k h) → IsBare h
dropped_bare k (Of t ns) b = tt
dropped_bare k (Forming t v ks us ns) b = b
dropped_bare k (Decided d) b = tt
dropped_bare k (Turns rs) b = b

put_bare : (xs : Slots) (s r : ℕ) (h : Held) → (IsBare h → IsBare (slot xs s)) → IsBare (slot (put xs s h) r) → IsBare (slot xs r)
put_bare [] s r h f b = b
put_bare (x ∷ xs) zero zero h f b = f b
put_bare (x ∷ xs) zero (suc r) h f b = b
put_bare (x ∷ xs) (suc s) zero h f b = b
put_bare (x ∷ xs) (suc s) (suc r) h f b = put_bare xs s r h f b

-- Drops leave what is put together as it is, and only what comes back of a chain makes it shorter. So where drops that take nothing of one
-- leave slots that name nothing, these have values in front of them.
pub lets_bare : (defs : List Def) (lo hi : ℕ) (tells : ℕ → Option Ty) (slots : Slots) (is : List Instr) → TakesNone is
    → Lets defs lo hi tells slots is → (r : ℕ) → lo ≤ r → r < hi → IsBare (slot slots r)
lets_bare defs lo hi tells slots is t (none f) r p q = clean_bare (slot slots r) (f r p q)
lets_bare defs lo hi tells slots is t (one {is = js} s k u e w l d) r p q =
    put_bare slots s r (dropped k (slot slots s)) (dropped_bare k (slot slots s))
    (lets_bare defs lo hi tells (put slots s (dropped k (slot slots s))) js t.1 d r p q)
lets_bare defs lo hi tells slots is t (enters {is = js} d n e x) r p q = lets_bare defs lo hi tells slots js t.1 x r p q
lets_bare defs lo hi tells slots is t (passes d n skipped js e f l x) r p q =
    lets_bare defs lo hi tells slots js (untaken_back skipped js (subst TakesNone f t.1)) x r p q
lets_bare defs lo hi tells slots is t (takes c from words n es js rs turned e l wl cl te tj tu ts x f ln) r p q = absurd t.0

-- ---- the drops of trees without chains

untaken_if : (b : Bool) (is : List Instr) → TakesNone is → TakesNone (drops_if b is)
untaken_if true is h = h
untaken_if false is h = tt

untaken_from : (s k n : ℕ) → TakesNone (drops_from s k n)
untaken_from s k zero = tt
untaken_from s k (suc n) = (tt, untaken_from s (suc k) n)

either_untaken : (b : Bool) (s k d j : ℕ) → IsNoTake (if b then Drop s k else Drop d j)
either_untaken true s k d j = tt
either_untaken false s k d j = tt

one_after : (v : Moved) (i : Instr) → IsNoTake i → IsNoTake (drop_after v i)
one_after v (Drop s k) h = either_untaken (is_moved v s k) v.into (v.at + (k - v.first)) s k
one_after v _ h = h

untaken_after : (v : Moved) (is : List Instr) → TakesNone is → TakesNone (drops_after v is)
untaken_after v [] h = tt
untaken_after v (i ∷ is) h = (one_after v i h.0, untaken_after v is h.1)

untaken_all : (vs : List Moved) (is : List Instr) → TakesNone is → TakesNone (drops_after_all vs is)
untaken_all [] is h = h
untaken_all (v ∷ vs) is h = untaken_all vs (drops_after v is) (untaken_after v is h)

module _ (defs : List Def) where
  cells_untaken : (n free : ℕ) → TakesNone (cell_drops defs n free)
  cells_untaken zero free = tt
  cells_untaken (suc n) free = (tt, cells_untaken n (suc free))

  gives_untaken : (t : Ty) (o : Work) (l : LoweredAll) → TakesNone l.drops → TakesNone (gives defs t o l).drops
  gives_untaken t o l h = untaken_more l.drops _ h (untaken_if (work_refers defs t o) _ (untaken_from l.free 0 (count_of defs t)))

  together_untaken : (front us : List Ty) (l : LoweredAll) → TakesNone l.drops → TakesNone (together_drops defs front us l)
  together_untaken front us l h =
      untaken_all (moves_into defs (front ++ us) l.free (numbers_from defs (length front) (length l.values)) l.values) l.drops h

  node_untaken : (us : List Ty) (t : Ty) (o : Work) (l : LoweredAll) → TakesNone l.drops → TakesNone (node defs us t o l).drops
  node_untaken us t (Operate o) l h = go (passes_on o)
    where
      go : (b : Bool) → TakesNone (if b then gathers defs t o l else gives defs t (Operate o) l).drops
      go true = untaken_all (moves_into defs (part_types defs t) l.free (part_numbers defs o (length l.values)) l.values) l.drops h
      go false = gives_untaken t (Operate o) l h
  node_untaken us t (tree.Assign aims) l h = h
  node_untaken us t (tree.TakePart k) l h = untaken_after (moves_out defs (first_of defs us) k (slot_at 0 l.values) l.free) l.drops h
  node_untaken us t tree.Copy l h = h
  node_untaken us t tree.Link l h = untaken_more l.drops _ h (cells_untaken (length l.values) l.free)
  node_untaken us t (tree.Call f) l h =
      untaken_more (together_drops defs [] us l) _ (together_untaken [] us l h) (untaken_from (value_slot defs l) 0 (count_of defs t))
  node_untaken us t (tree.Print ps) l h = together_untaken (ty.Chars ∷ []) us l h
  node_untaken us t tree.NewChannel l h = untaken_more l.drops _ h (tt, tt)
  node_untaken us t (tree.Literal c) l h = gives_untaken t (tree.Literal c) l h
  node_untaken us t tree.Nil l h = gives_untaken t tree.Nil l h
  node_untaken us t (tree.Read w) l h = gives_untaken t (tree.Read w) l h
  node_untaken us t (tree.Sprint ps) l h = gives_untaken t (tree.Sprint ps) l h

  others_untaken : (h : Bool) → h ≡ false → (t : Ty) (a : ℕ) (zs : List ℤ) (lo : ℕ) (x : Lowered)
      → TakesNone (others defs h t a zs lo x).drops
  others_untaken true e t a zs lo x = absurd cc
  others_untaken false e t a zs lo x = tt

  rest_untaken : (t : Ty) (a : ℕ) (zs : List ℤ) (s lo : ℕ) (ts : Terms) → OthersHoldNothing defs ts
      → TakesNone (lower_rest defs t a zs s lo ts).drops
  rest_untaken t a zs s lo NoTerms h = tt
  rest_untaken t a zs s lo (MoreTerms e es) h =
      others_untaken (may_hold defs e) h t a zs lo (lower defs (if may_hold defs e then suc lo else s) e)

  mutual
    pub drops_untaken : (lo : ℕ) (t : Term) → NoChains defs t → TakesNone (lower defs lo t).drops
    drops_untaken lo (Evaluated v) h = tt
    drops_untaken lo (Node t o ts) h = node_untaken (types_in defs ts) t o (lower_all defs lo ts) (all_untaken lo ts h)
    drops_untaken lo (Lazy c l e) h =
        untaken_more (lower defs lo l).drops _ (drops_untaken lo l h.0)
        (untaken_if (may_hold defs e) _ (tt, drops_untaken (suc (lower defs lo l).free) e h.1))
    drops_untaken lo (Update o g t w ts us) h =
        let a = lower_all defs lo ts in
        let b = lower_all defs (suc a.free) us in
        untaken_more a.drops _ (all_untaken lo ts h.0)
        (untaken_more (drops_from a.free 0 (count_of defs t)) _ (untaken_from a.free 0 (count_of defs t))
        (untaken_more b.drops _ (all_untaken (suc a.free) us h.1)
        (untaken_if (work_refers defs t (Operate o)) _ (untaken_from b.free 0 (count_of defs t)))))
    drops_untaken lo (Fill t l is rest) h =
        let n = lower defs lo l in
        let s = suc n.free in
        let from = max (items_end defs s is) (rest_end defs s rest) in
        let es = lower_items defs t n.free s from is in
        let os = lower_rest defs t n.free (named defs is) s es.free rest in
        untaken_more (n.drops ++ (Drop n.free 0 ∷ es.drops)) os.drops
        (untaken_more n.drops (Drop n.free 0 ∷ es.drops) (drops_untaken lo l h.0) (tt, items_untaken t n.free s from is h.1))
        (rest_untaken t n.free (named defs is) s es.free rest h.2)
    drops_untaken lo _ h = tt

    all_untaken : (lo : ℕ) (ts : Terms) → NoneChains defs ts → TakesNone (lower_all defs lo ts).drops
    all_untaken lo NoTerms h = tt
    all_untaken lo (MoreTerms t ts) h =
        untaken_more (lower defs lo t).drops _ (drops_untaken lo t h.0) (all_untaken (lower defs lo t).free ts h.1)

    items_untaken : (t : Ty) (a s lo : ℕ) (is : Items) → NoItemChains defs is → TakesNone (lower_items defs t a s lo is).drops
    items_untaken t a s lo NoItems h = tt
    items_untaken t a s lo (MoreItems i e is) h =
        let b = may_hold defs e in
        let base : ℕ = if b then lo else s in
        let x = lower defs base e in
        untaken_more x.drops _ (drops_untaken base e h.0) (items_untaken t a s (if b then x.free else lo) is h.1)
