-- How many slots expressions and statements use.
use Rattle.std.proofs.Common.{ℕ, ℤ, suc, ◌+◌, ◌*◌, ◌≤◌, Bool, true, false, List, length, max, Option, Some, None, arith}
use Rattle.std.specs.Prelude.{nat_eq, if◌then◌else◌}
use Rattle.limbo_types.specs.Types.{Ty}
use Rattle.limbo_layout.specs.Adts.{Def}
use Rattle.limbo_meaning.specs.Trees as tree
use Rattle.limbo_meaning.specs.Trees.{Work, Operate, Term, Evaluated, Node, Lazy, Update, Fill, Terms, NoTerms, MoreTerms}
use Rattle.limbo_meaning.specs.Trees.{Items, NoItems, MoreItems, Stm, Eval, If, While, Enter, Loop, Looping, Block, Done, Then, Turn, Again}
use Rattle.limbo_meaning.specs.Evaluation.{passes_on, may_hold}
use Rattle.core_code.specs.Terms.{LoweredAll, gives, gathers, node, others, lower, lower_all, lower_items, lower_rest, named}
use Rattle.core_code.specs.Terms.{items_end, rest_end, types_in, value_slot}
use Rattle.core_code.specs.Statements.{free_after, stm_slots, loop_slots, block_slots}
use Rattle.core_code.specs.Frames.{counted_nodes, all_counted, held, greatest, rest_held, rest_alone, if_counted, stm_counted, loop_counted}
use Rattle.core_code.specs.Frames.{block_counted, ThreeSlotsANode}

module _ (defs : List Def) where
  slot_near : (b : Bool) (s : ℕ) → (if b then s else suc s) ≤ suc s
  slot_near true s = omega arith
  slot_near false s = omega arith

  -- the value behind operands that are put together has the first slot that is free, or the next
  value_near : (l : LoweredAll) → value_slot defs l ≤ suc l.free
  value_near l = slot_near (nat_eq (length l.values) 0) l.free

  node_room : (us : List Ty) (t : Ty) (o : Work) (l : LoweredAll) (lo n : ℕ) → l.free + length l.values ≤ lo + 3 * n
      → (node defs us t o l).free + 1 ≤ lo + 3 * suc n
  node_room us t (Operate o) l lo n h = go (passes_on o)
    where
      go : (b : Bool) → (if b then gathers defs t o l else gives defs t (Operate o) l).free + 1 ≤ lo + 3 * suc n
      go true = omega arith
      go false = omega arith
  node_room us t (tree.Assign aims) l lo n h = omega arith
  node_room us t (tree.TakePart k) l lo n h = omega arith
  node_room us t tree.Copy l lo n h = omega arith
  node_room us t tree.Link l lo n h = omega arith
  node_room us t (tree.Call k) l lo n h = let a = value_near l in omega arith
  node_room us t (tree.Print ps) l lo n h = let a = value_near l in omega arith
  node_room us t tree.NewChannel l lo n h = omega arith
  node_room us t (tree.Literal c) l lo n h = omega arith
  node_room us t tree.Nil l lo n h = omega arith
  node_room us t (tree.Read w) l lo n h = omega arith
  node_room us t (tree.Sprint ps) l lo n h = omega arith

  abbrev Small : ℕ → Term → Type 0
  Small lo e = (lower defs lo e).free + 1 ≤ lo + 3 * counted_nodes defs e

  -- where a shared element ends, and one with slots of its own
  alone_room : (h : Bool) (s : ℕ) (e : Term) → Small s e
      → (if h then s else (lower defs s e).free) ≤ s + 3 * (if h then 0 else counted_nodes defs e)
  alone_room true s e l = omega arith
  alone_room false s e l = omega arith

  own_room : (h : Bool) (lo s : ℕ) (e : Term) → Small lo e
      → (if h then (lower defs (if h then lo else s) e).free else lo) ≤ lo + 3 * (if h then counted_nodes defs e else 0)
  own_room true lo s e l = omega arith
  own_room false lo s e l = omega arith

  others_room : (h : Bool) (t : Ty) (a : ℕ) (zs : List ℤ) (lo s : ℕ) (e : Term) → Small (suc lo) e
      → (others defs h t a zs lo (lower defs (if h then suc lo else s) e)).free ≤ lo + 1 + 3 * (if h then counted_nodes defs e else 0)
  others_room true t a zs lo s e l = omega arith
  others_room false t a zs lo s e l = omega arith

  mutual
    pub term_room : (lo : ℕ) (t : Term) → Small lo t
    term_room lo (Evaluated v) = omega arith
    term_room lo (Node t o ts) = node_room (types_in defs ts) t o (lower_all defs lo ts) lo (all_counted defs ts) (terms_room lo ts)
    term_room lo (Lazy c l r) =
        let a = term_room lo l in
        let b = term_room (suc (lower defs lo l).free) r in
        omega arith
    term_room lo (Update o g t w ts us) =
        let a = terms_room lo ts in
        let b = terms_room (suc (lower_all defs lo ts).free) us in
        omega arith
    term_room lo (Fill t l is rest) =
        let n = lower defs lo l in
        let s = suc n.free in
        let from = max (items_end defs s is) (rest_end defs s rest) in
        let x = lower_items defs t n.free s from is in
        let a = term_room lo l in
        let b = end_room s is in
        let c = rest_end_room s rest in
        let d = items_room t n.free s from is in
        let e = rest_room t n.free (named defs is) s x.free rest in
        omega arith
    term_room lo t = omega arith

    pub terms_room : (lo : ℕ) (ts : Terms) →
        (lower_all defs lo ts).free + length (lower_all defs lo ts).values ≤ lo + 3 * all_counted defs ts
    terms_room lo NoTerms = omega arith
    terms_room lo (MoreTerms t ts) = let a = term_room lo t in let b = terms_room (lower defs lo t).free ts in omega arith

    pub end_room : (s : ℕ) (is : Items) → items_end defs s is ≤ s + 3 * greatest defs is
    end_room s NoItems = omega arith
    end_room s (MoreItems i e is) = let a = alone_room (may_hold defs e) s e (term_room s e) in let b = end_room s is in omega arith

    pub rest_end_room : (s : ℕ) (ts : Terms) → rest_end defs s ts ≤ s + 3 * rest_alone defs ts
    rest_end_room s NoTerms = omega arith
    rest_end_room s (MoreTerms e es) = alone_room (may_hold defs e) s e (term_room s e)

    pub items_room : (t : Ty) (a s lo : ℕ) (is : Items) → (lower_items defs t a s lo is).free ≤ lo + 3 * held defs is
    items_room t a s lo NoItems = omega arith
    items_room t a s lo (MoreItems i e is) =
        let x = lower defs (if may_hold defs e then lo else s) e in
        let f = own_room (may_hold defs e) lo s e (term_room lo e) in
        let g = items_room t a s (if may_hold defs e then x.free else lo) is in
        omega arith

    pub rest_room : (t : Ty) (a : ℕ) (zs : List ℤ) (s lo : ℕ) (ts : Terms) →
        (lower_rest defs t a zs s lo ts).free ≤ lo + 1 + 3 * rest_held defs ts
    rest_room t a zs s lo NoTerms = omega arith
    rest_room t a zs s lo (MoreTerms e es) = others_room (may_hold defs e) t a zs lo s e (term_room (suc lo) e)

  if_room : (t : Option Term) → free_after defs t ≤ 3 * if_counted defs t
  if_room None = omega arith
  if_room (Some t) = let a = term_room 0 t in omega arith

  mutual
    stm_room : (s : Stm) → stm_slots defs s ≤ 3 * stm_counted defs s
    stm_room (Eval t) = let a = term_room 0 t in omega arith
    stm_room (If t x y) = let a = term_room 0 t in let b = block_room x in let c = block_room y in omega arith
    stm_room (While t l) = loop_room l
    stm_room (Enter l) = loop_room l
    stm_room (tree.Return t) = let a = term_room 0 t in omega arith
    stm_room s = omega arith

    loop_room : (l : Loop) → loop_slots defs l ≤ 3 * loop_counted defs l
    loop_room (Looping c n body) = let a = if_room c in let b = if_room n in let d = block_room body in omega arith

    block_room : (x : Block) → block_slots defs x ≤ 3 * block_counted defs x
    block_room Done = omega arith
    block_room (Then s x) = let a = stm_room s in let b = block_room x in omega arith
    block_room (Turn l x) = block_room x
    block_room (Again l x) = block_room x

pub three_slots_a_node : ThreeSlotsANode
three_slots_a_node = record {
  expressions = λ defs lo t. let a = term_room defs lo t in omega arith;
  functions = λ defs r. let a = block_room defs r.body in omega arith;
}
