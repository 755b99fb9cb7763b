-- Instructions of a function name slots that it has.
use Rattle.std.proofs.Common.{◌≡◌, ℕ, ℤ, zero, suc, ◌+◌, ◌-◌, ◌<◌, ◌≤◌, Bool, true, false, List, [], ◌∷◌, ◌++◌, length, max}
use Rattle.std.proofs.Common.{Option, Some, None, sym, subst, arith}
use Rattle.std.proofs.lemmas.List.{reverse-append, length-reverse}
use Rattle.std.specs.Prelude.{slice_get, take, drop, reverse, nat_eq, if◌then◌else◌}
use Rattle.limbo_types.specs.Types as ty
use Rattle.limbo_types.specs.Types.{Ty}
use Rattle.limbo_types.specs.View.{tys_of}
use Rattle.limbo_layout.specs.Adts.{Def}
use Rattle.limbo_layout.specs.Laying.{AllBelow}
use Rattle.limbo_typed.specs.declared.operation.Operation.{Operation}
use Rattle.limbo_typed.specs.declared.operation.Operation.TheVariants as operation
use Rattle.limbo_typed.specs.declared.operation.Given.{Given}
use Rattle.limbo_typed.specs.declared.operation.Given.TheVariants as given
use Rattle.limbo_meaning.specs.Trees as tree
use Rattle.limbo_meaning.specs.Trees.{Aim, Work, Operate, Term, Evaluated, Node, Lazy, Update, Fill, Terms, NoTerms, MoreTerms}
use Rattle.limbo_meaning.specs.Trees.{Items, NoItems, MoreItems}
use Rattle.limbo_meaning.specs.Trees.{Stm, Over, Eval, If, While, Enter, Break, Continue, Loop, Looping, Block, Done, Then, Turn, Again}
use Rattle.limbo_meaning.specs.Evaluation.{passes_on, may_hold, work_refers, operands_for}
use Rattle.limbo_meaning.specs.Places.{operands_of}
use Rattle.limbo_meaning.specs.Operations.{item_of}
use Rattle.core_code.specs.Code.{Instr, Give, Write, Skip, Truth, Element, Next, Other}
use Rattle.core_code.specs.Code.{Start, Keep, Take, Drop, Mirror, Unless, Jump, Back, Return}
use Rattle.core_code.specs.Terms.{Lowered, LoweredAll, Moved, is_moved, drop_after, drops_after, drops_after_all, drops_from, drops_if}
use Rattle.core_code.specs.Terms.{count_of, gives, gathers, writes, cells, list_code, cell_drops, slot_at, moves_out, first_of, types_in}
use Rattle.core_code.specs.Terms.{given_slot}
use Rattle.core_code.specs.Terms.{node, others, lower}
use Rattle.core_code.specs.Terms.{lower_all}
use Rattle.core_code.specs.Terms.{lower_items, lower_rest, named, items_end, rest_end, part_types, part_numbers, numbers_from, moves_into}
use Rattle.core_code.specs.Terms.{placed, variant_of, together, together_drops, value_slot, operands_slot}
use Rattle.core_code.specs.Statements.{Around, further, in_loop, whole, whole_if, test, loop_tested, loop_entered}
use Rattle.core_code.specs.Statements.{stm_code, loop_code_tested, loop_code_entered, block_code, free_after, stm_slots, loop_slots}
use Rattle.core_code.specs.Statements.{block_slots, function_of}
use Rattle.core_code.specs.Using.{IfBelow, Uses, SlotsAreThere}

abbrev AllUse : ℕ → List Instr → Type 0
AllUse n [] = Unit {0}
AllUse n (i ∷ is) = Uses n i × AllUse n is

use_join : (n : ℕ) (xs ys : List Instr) → AllUse n xs → AllUse n ys → AllUse n (xs ++ ys)
use_join n [] ys h k = k
use_join n (x ∷ xs) ys h k = (h.0, use_join n xs ys h.1 k)

-- ---- numbers of slots

below_at : (n k : ℕ) (ss : List ℕ) → 0 < n → AllBelow n ss → slot_at k ss < n
below_at n k [] p h = p
below_at n zero (s ∷ ss) p h = h.0
below_at n (suc k) (s ∷ ss) p h = below_at n k ss p h.1

below_take : (n k : ℕ) (ss : List ℕ) → AllBelow n ss → AllBelow n (take k ss)
below_take n zero ss h = tt
below_take n (suc k) [] h = tt
below_take n (suc k) (s ∷ ss) h = (h.0, below_take n k ss h.1)

below_drop : (n k : ℕ) (ss : List ℕ) → AllBelow n ss → AllBelow n (drop k ss)
below_drop n zero ss h = h
below_drop n (suc k) [] h = tt
below_drop n (suc k) (s ∷ ss) h = below_drop n k ss h.1

below_join : (n : ℕ) (xs ys : List ℕ) → AllBelow n xs → AllBelow n ys → AllBelow n (xs ++ ys)
below_join n [] ys h k = k
below_join n (x ∷ xs) ys h k = (h.0, below_join n xs ys h.1 k)

below_reverse : (n : ℕ) (ss : List ℕ) → AllBelow n ss → AllBelow n (reverse ss)
below_reverse n [] h = tt
below_reverse n (s ∷ ss) h =
    subst (λ (xs : List ℕ). AllBelow n xs) (sym (reverse-append (s ∷ []) ss))
    (below_join n (reverse ss) (s ∷ []) (below_reverse n ss h.1) (h.0, tt))

-- ---- drops

use_drops : (n s k count : ℕ) → s < n → AllUse n (drops_from s k count)
use_drops n s k zero l = tt
use_drops n s k (suc count) l = (l, use_drops n s (suc k) count l)

use_if : (n : ℕ) (h : Bool) (is : List Instr) → AllUse n is → AllUse n (drops_if h is)
use_if n true is u = u
use_if n false is u = tt

uses_either : (n : ℕ) (h : Bool) (i j : Instr) → Uses n i → Uses n j → Uses n (if h then i else j)
uses_either n true i j u v = u
uses_either n false i j u v = v

uses_after : (n : ℕ) (v : Moved) (i : Instr) → v.into < n → Uses n i → Uses n (drop_after v i)
uses_after n v (Drop s k) l u = uses_either n (is_moved v s k) _ _ l u
uses_after n v i l u = u

use_after : (n : ℕ) (v : Moved) (is : List Instr) → v.into < n → AllUse n is → AllUse n (drops_after v is)
use_after n v [] l u = tt
use_after n v (i ∷ is) l u = (uses_after n v i l u.0, use_after n v is l u.1)

-- what moves goes to slots among so many
abbrev AllInto : ℕ → List Moved → Type 0
AllInto n [] = Unit {0}
AllInto n (v ∷ vs) = (v.into < n) × AllInto n vs

use_after_all : (n : ℕ) (vs : List Moved) (is : List Instr) → AllInto n vs → AllUse n is → AllUse n (drops_after_all vs is)
use_after_all n [] is l u = u
use_after_all n (v ∷ vs) is l u = use_after_all n vs (drops_after v is) l.1 (use_after n v is l.0 u)

-- ---- expressions

-- Code and drops use slots among so many, and so does the value.
record Good (n : ℕ) (l : Lowered) : Type 0 where
  code : AllUse n l.code
  drops : AllUse n l.drops
  value : l.value < n

abbrev EachUse : ℕ → List (List Instr) → Type 0
EachUse n [] = Unit {0}
EachUse n (c ∷ cs) = AllUse n c × EachUse n cs

record AllGood (n : ℕ) (l : LoweredAll) : Type 0 where
  each : EachUse n l.each
  code : AllUse n l.code
  drops : AllUse n l.drops
  values : AllBelow n l.values

module _ (defs : List Def) where
  into_all : (n : ℕ) (ts : List Ty) (into : ℕ) (ns ss : List ℕ) → into < n → AllInto n (moves_into defs ts into ns ss)
  into_all n ts into [] [] l = tt
  into_all n ts into [] (s ∷ ss) l = tt
  into_all n ts into (k ∷ ns) [] l = tt
  into_all n ts into (k ∷ ns) (s ∷ ss) l = (l, into_all n ts into ns ss l)

  either_good : (n : ℕ) (h : Bool) (l m : Lowered) → Good n l → Good n m → Good n (if h then l else m)
  either_good n true l m f g = f
  either_good n false l m f g = g

  gives_good : (n : ℕ) (t : Ty) (o : Work) (l : LoweredAll) → l.free < n → AllGood n l → Good n (gives defs t o l)
  gives_good n t o l p f = record {
    code = use_join n l.code _ f.code ((p, f.values), tt);
    drops = use_join n l.drops _ f.drops (use_if n (work_refers defs t o) _ (use_drops n l.free 0 (count_of defs t) p));
    value = p;
  }

  use_placed : (n : ℕ) (t : Ty) (v : Option ℕ) (into k : ℕ) (ks : List ℕ) (cs : List (List Instr)) (ss : List ℕ) → into < n
      → EachUse n cs → AllBelow n ss → AllUse n (placed defs t v into k ks cs ss)
  use_placed n t v into k (j ∷ ks) (c ∷ cs) (s ∷ ss) p f h =
      use_join n c _ f.0 ((p, h.0), use_placed n t v into (suc k) ks cs ss p f.1 h.1)
  use_placed n t v into k ks cs ss p f h = tt

  gathers_good : (n : ℕ) (t : Ty) (o : Operation) (l : LoweredAll) → l.free < n → AllGood n l → Good n (gathers defs t o l)
  gathers_good n t o l p f = record {
    code = use_join n (placed defs t (variant_of defs o) l.free 0 (part_numbers defs o (length l.values)) l.each l.values) _
        (use_placed n t (variant_of defs o) l.free 0 (part_numbers defs o (length l.values)) l.each l.values p f.each f.values) (p, tt);
    drops = use_after_all n _ l.drops
        (into_all n (part_types defs t) l.free (part_numbers defs o (length l.values)) l.values p) f.drops;
    value = p;
  }

  use_together : (n : ℕ) (front us : List Ty) (l : LoweredAll) → l.free < n → AllGood n l → AllUse n (together defs front us l)
  use_together n front us l p f =
      use_placed n (ty.Tuple (tys_of (front ++ us))) None l.free 0 (numbers_from defs (length front) (length l.values)) l.each l.values p f.each f.values

  use_together_drops : (n : ℕ) (front us : List Ty) (l : LoweredAll) → l.free < n → AllGood n l → AllUse n (together_drops defs front us l)
  use_together_drops n front us l p f =
      use_after_all n _ l.drops (into_all n (front ++ us) l.free (numbers_from defs (length front) (length l.values)) l.values p) f.drops

  -- the slot of a value behind operands that are put together: the first one that is free, or the next
  slot_from : (b : Bool) (s : ℕ) → s ≤ (if b then s else suc s)
  slot_from true s = omega arith
  slot_from false s = omega arith

  pub value_from : (l : LoweredAll) → l.free ≤ value_slot defs l
  value_from l = slot_from (nat_eq (length l.values) 0) l.free

  slot_below : (n : ℕ) (b : Bool) (s : ℕ) → s < n → IfBelow n (if b then None else Some s)
  slot_below n true s l = tt
  slot_below n false s l = l

  operands_below : (n : ℕ) (l : LoweredAll) → l.free < n → IfBelow n (operands_slot defs l)
  operands_below n l p = slot_below n (nat_eq (length l.values) 0) l.free p

  use_writes : (n : ℕ) (aims : List Aim) (ss : List ℕ) (v : ℕ) → AllBelow n ss → v < n → AllUse n (writes defs aims ss v)
  use_writes n [] ss v h l = tt
  use_writes n (a ∷ aims) ss v h l = (
    (below_take n (operands_of a.way) ss h, l),
    use_writes n aims (drop (operands_of a.way) ss) v (below_drop n (operands_of a.way) ss h) l,
  )

  use_cells : (n : ℕ) (t : Ty) (ss : List ℕ) (behind : Option ℕ) (free : ℕ) → AllBelow n ss → IfBelow n behind
      → free + length ss ≤ n → AllUse n (cells defs t ss behind free)
  use_cells n t [] behind free h b l = tt
  use_cells n t (s ∷ ss) behind free h b l =
      let p : free < n = omega arith in ((p, h.0, b), use_cells n t ss (Some free) (suc free) h.1 p (omega arith))

  use_list : (n : ℕ) (t : Ty) (ss : List ℕ) (free : ℕ) → AllBelow n ss → suc (free + (length ss - 1)) ≤ n
      → AllUse n (list_code defs t ss free)
  use_list n t [] free h l = (omega arith, tt)
  use_list n t (s ∷ ss) free h l =
      use_cells n t (reverse (s ∷ ss)) None free (below_reverse n (s ∷ ss) h) tt (let e = length-reverse (s ∷ ss) in omega arith)

  use_cell_drops : (n count free : ℕ) → free + count ≤ n → AllUse n (cell_drops defs count free)
  use_cell_drops n zero free l = tt
  use_cell_drops n (suc count) free l = (omega arith, use_cell_drops n count (suc free) (omega arith))

  -- how a node leaves the slots: it takes some or none
  pub node_up : (us : List Ty) (t : Ty) (o : Work) (l : LoweredAll) → l.free ≤ (node defs us t o l).free
  node_up us t (Operate o) l = go (passes_on o)
    where
      go : (h : Bool) → l.free ≤ (if h then gathers defs t o l else gives defs t (Operate o) l).free
      go true = omega arith
      go false = omega arith
  node_up us t (tree.Assign aims) l = omega arith
  node_up us t (tree.TakePart k) l = omega arith
  node_up us t tree.Copy l = omega arith
  node_up us t tree.Link l = omega arith
  node_up us t (tree.Call k) l = let a = value_from l in omega arith
  node_up us t (tree.Print ps) l = let a = value_from l in omega arith
  node_up us t tree.NewChannel l = omega arith
  node_up us t (tree.Literal c) l = omega arith
  node_up us t tree.Nil l = omega arith
  node_up us t (tree.Read w) l = omega arith
  node_up us t (tree.Sprint ps) l = omega arith

  node_good : (n : ℕ) (us : List Ty) (t : Ty) (o : Work) (l : LoweredAll) → 0 < n → (node defs us t o l).free ≤ n → AllGood n l
      → Good n (node defs us t o l)
  node_good n us t (Operate o) l p q f = go (passes_on o) q
    where
      go : (h : Bool) → (if h then gathers defs t o l else gives defs t (Operate o) l).free ≤ n
          → Good n (if h then gathers defs t o l else gives defs t (Operate o) l)
      go true q = gathers_good n t o l (omega arith) f
      go false q = gives_good n t (Operate o) l (omega arith) f
  node_good n us t (tree.Assign aims) l p q f = record {
    code = use_join n l.code _ f.code (use_writes n aims l.values _ f.values (below_at n (operands_for aims) l.values p f.values));
    drops = f.drops;
    value = below_at n (operands_for aims) l.values p f.values;
  }
  node_good n us t (tree.TakePart k) l p q f = record {
    code = use_join n l.code _ f.code ((omega arith, below_at n 0 l.values p f.values), tt);
    drops = use_after n (moves_out defs (first_of defs us) k (slot_at 0 l.values) l.free) l.drops (omega arith) f.drops;
    value = omega arith;
  }
  node_good n us t tree.Copy l p q f = record {
    code = use_join n l.code _ f.code
        ((below_at n 0 l.values p f.values, below_at n 1 l.values p f.values, below_at n 2 l.values p f.values), tt);
    drops = f.drops;
    value = below_at n 2 l.values p f.values;
  }
  node_good n us t tree.Link l p q f = record {
    code = use_join n l.code _ f.code (use_list n (item_of t) l.values l.free f.values q);
    drops = use_join n l.drops _ f.drops (use_cell_drops n (length l.values) l.free (omega arith));
    value = omega arith;
  }
  node_good n us t (tree.Call k) l p q f =
      let a = value_from l in
      let free : l.free < n = omega arith in
      record {
        code = use_join n (together defs [] us l) _ (use_together n [] us l free f) ((q, operands_below n l free), tt);
        drops = use_join n (together_drops defs [] us l) _ (use_together_drops n [] us l free f)
            (use_drops n (value_slot defs l) 0 (count_of defs t) q);
        value = q;
      }
  node_good n us t (tree.Print ps) l p q f =
      let a = value_from l in
      let free : l.free < n = omega arith in
      record {
        code = use_join n (together defs (ty.Chars ∷ []) us l) _ (use_together n (ty.Chars ∷ []) us l free f) ((q, operands_below n l free), tt);
        drops = use_together_drops n (ty.Chars ∷ []) us l free f;
        value = q;
      }
  node_good n us t tree.NewChannel l p q f = record {
    code = use_join n l.code _ f.code ((omega arith, tt), tt);
    drops = use_join n l.drops _ f.drops (omega arith, tt);
    value = omega arith;
  }
  node_good n us t (tree.Literal c) l p q f = gives_good n t (tree.Literal c) l (omega arith) f
  node_good n us t tree.Nil l p q f = gives_good n t tree.Nil l (omega arith) f
  node_good n us t (tree.Read w) l p q f = gives_good n t (tree.Read w) l (omega arith) f
  node_good n us t (tree.Sprint ps) l p q f = gives_good n t (tree.Sprint ps) l (omega arith) f

  -- ---- each part takes the slots behind those before it

  pub either_up : (h : Bool) (lo s : ℕ) (e : Term) → lo ≤ (lower defs lo e).free
      → lo ≤ (if h then (lower defs (if h then lo else s) e).free else lo)
  either_up true lo s e l = l
  either_up false lo s e l = omega arith

  pub others_up : (h : Bool) (t : Ty) (a : ℕ) (zs : List ℤ) (lo s : ℕ) (e : Term) → suc lo ≤ (lower defs (suc lo) e).free
      → lo ≤ (others defs h t a zs lo (lower defs (if h then suc lo else s) e)).free
  others_up true t a zs lo s e l = omega arith
  others_up false t a zs lo s e l = omega arith

  pub end_up : (s : ℕ) (is : Items) → s ≤ items_end defs s is
  end_up s NoItems = omega arith
  end_up s (MoreItems i e is) = let a = end_up s is in omega arith

  mutual
    pub term_up : (lo : ℕ) (t : Term) → lo ≤ (lower defs lo t).free
    term_up lo (Evaluated v) = omega arith
    term_up lo (Node t o ts) = let a = terms_up lo ts in let b = node_up (types_in defs ts) t o (lower_all defs lo ts) in omega arith
    term_up lo (Lazy c l r) =
        let a = term_up lo l in
        let b = term_up (suc (lower defs lo l).free) r in
        omega arith
    term_up lo (Update o g t w ts us) =
        let a = terms_up lo ts in
        let b = terms_up (suc (lower_all defs lo ts).free) us in
        omega arith
    term_up lo (Fill t l is rest) =
        let n = lower defs lo l in
        let s = suc n.free in
        let from = max (items_end defs s is) (rest_end defs s rest) in
        let a = term_up lo l in
        let b = end_up s is in
        let c = items_up t n.free s from is in
        let d = rest_up t n.free (named defs is) s (lower_items defs t n.free s from is).free rest in
        omega arith
    term_up lo t = omega arith

    pub terms_up : (lo : ℕ) (ts : Terms) → lo ≤ (lower_all defs lo ts).free
    terms_up lo NoTerms = omega arith
    terms_up lo (MoreTerms t ts) = let a = term_up lo t in let b = terms_up (lower defs lo t).free ts in omega arith

    pub items_up : (t : Ty) (a s lo : ℕ) (is : Items) → lo ≤ (lower_items defs t a s lo is).free
    items_up t a s lo NoItems = omega arith
    items_up t a s lo (MoreItems i e is) =
        let x = lower defs (if may_hold defs e then lo else s) e in
        let f = either_up (may_hold defs e) lo s e (term_up lo e) in
        let g = items_up t a s (if may_hold defs e then x.free else lo) is in
        omega arith

    pub rest_up : (t : Ty) (a : ℕ) (zs : List ℤ) (s lo : ℕ) (ts : Terms) → lo ≤ (lower_rest defs t a zs s lo ts).free
    rest_up t a zs s lo NoTerms = omega arith
    rest_up t a zs s lo (MoreTerms e es) = others_up (may_hold defs e) t a zs lo s e (term_up (suc lo) e)

  -- ---- and names no others

  -- the element's slots lie among so many, whether they are its own or shared
  item_fits : (h : Bool) (n lo s : ℕ) (e : Term) → (if h then (lower defs (if h then lo else s) e).free else lo) ≤ n
      → (if h then s else (lower defs s e).free) ≤ n → (lower defs (if h then lo else s) e).free ≤ n
  item_fits true n lo s e k l = k
  item_fits false n lo s e k l = l

  abbrev GoodFrom : ℕ → Term → Type 0
  GoodFrom n e = (from : ℕ) → (lower defs from e).free ≤ n → Good n (lower defs from e)

  others_good : (h : Bool) (n : ℕ) (t : Ty) (a : ℕ) (zs : List ℤ) (lo s : ℕ) (e : Term) → a < n
      → (others defs h t a zs lo (lower defs (if h then suc lo else s) e)).free ≤ n
      → (if h then s else (lower defs s e).free) ≤ n → suc lo ≤ (lower defs (suc lo) e).free → GoodFrom n e
      → Good n (others defs h t a zs lo (lower defs (if h then suc lo else s) e))
  others_good true n t a zs lo s e p q k u f =
      let x = lower defs (suc lo) e in
      let g = f (suc lo) q in
      let own = Other t a lo x.value ∷ Keep lo (suc lo) (x.free - suc lo) ∷ [] in
      let turn = x.code ++ own in
      let loop : lo < n = omega arith in
      let room : suc lo + (x.free - suc lo) ≤ n = omega arith in
      record {
        code = use_join n (Start lo ∷ Next a lo zs (suc (length turn)) ∷ turn) (Back (suc (length turn)) ∷ [])
            (loop, ((p, loop), use_join n x.code own g.code ((p, loop, g.value), ((loop, room), tt)))) (tt, tt);
        drops = use_join n (Take lo (suc lo) (x.free - suc lo) (suc (length x.drops)) ∷ x.drops)
            (Back (suc (length x.drops)) ∷ []) ((loop, room), g.drops) (tt, tt);
        value = p;
      }
  others_good false n t a zs lo s e p q k u f =
      let x = lower defs s e in
      let g = f s k in
      let own = Other t a lo x.value ∷ [] in
      let turn = x.code ++ own in
      let loop : lo < n = omega arith in
      record {
        code = use_join n (Start lo ∷ Next a lo zs (suc (length turn)) ∷ turn) (Back (suc (length turn)) ∷ [])
            (loop, ((p, loop), use_join n x.code own g.code ((p, loop, g.value), tt))) (tt, tt);
        drops = tt;
        value = p;
      }

  given_good : (n : ℕ) (g : Given) (old new : ℕ) → old < n → new < n → given_slot defs g old new < n
  given_good n given.Old old new l k = l
  given_good n given.New old new l k = k

  if_below : (n : ℕ) (h : Bool) (s : ℕ) → s < n → IfBelow n (if h then Some s else None)
  if_below n true s l = l
  if_below n false s l = tt

  mutual
    term_good : (n lo : ℕ) (t : Term) → 0 < n → (lower defs lo t).free ≤ n → Good n (lower defs lo t)
    term_good n lo (Evaluated v) p q = record { code = (omega arith, tt); drops = tt; value = omega arith }
    term_good n lo (Node t o ts) p q =
        let u = node_up (types_in defs ts) t o (lower_all defs lo ts) in
        node_good n (types_in defs ts) t o (lower_all defs lo ts) p q (terms_good n lo ts p (omega arith))
    term_good n lo (Lazy c l r) p q =
        let x = lower defs lo l in
        let y = lower defs (suc x.free) r in
        let u = term_up (suc x.free) r in
        let f = term_good n lo l p (omega arith) in
        let g = term_good n (suc x.free) r p (omega arith) in
        let held = may_hold defs r in
        let skip = Skip c y.free (if held then Some x.free else None) x.value (suc (length y.code)) in
        let own : y.free < n = omega arith in
        let decision : x.free < n = omega arith in
        record {
          code = use_join n (x.code ++ skip ∷ y.code) (Truth y.free y.value ∷ [])
              (use_join n x.code (skip ∷ y.code) f.code ((own, if_below n held x.free decision, f.value), g.code)) ((own, g.value), tt);
          drops = use_join n x.drops _ f.drops (use_if n held (Mirror x.free (length y.drops) ∷ y.drops) (decision, g.drops));
          value = own;
        }
    term_good n lo (Update o w t way ts us) p q =
        let x = lower_all defs lo ts in
        let y = lower_all defs (suc x.free) us in
        let u = terms_up (suc x.free) us in
        let f = terms_good n lo ts p (omega arith) in
        let g = terms_good n (suc x.free) us p (omega arith) in
        let old : x.free < n = omega arith in
        let new : y.free < n = omega arith in
        let read = Give t (tree.Read way) x.free x.values in
        record {
          code = use_join n (x.code ++ read ∷ y.code) (Give t (Operate o) y.free (x.free ∷ y.values) ∷ Write t way x.values [] y.free ∷ [])
              (use_join n x.code (read ∷ y.code) f.code ((old, f.values), g.code)) ((new, (old, g.values)), ((f.values, new), tt));
          drops = use_join n x.drops _ f.drops
              (use_join n (drops_from x.free 0 (count_of defs t)) _ (use_drops n x.free 0 (count_of defs t) old)
              (use_join n y.drops _ g.drops (use_if n (work_refers defs t (Operate o)) _ (use_drops n y.free 0 (count_of defs t) new))));
          value = given_good n w x.free y.free old new;
        }
    term_good n lo (Fill t l is rest) p q =
        let m = lower defs lo l in
        let s = suc m.free in
        let from = max (items_end defs s is) (rest_end defs s rest) in
        let x = lower_items defs t m.free s from is in
        let y = lower_rest defs t m.free (named defs is) s x.free rest in
        let a = end_up s is in
        let b = items_up t m.free s from is in
        let c = rest_up t m.free (named defs is) s x.free rest in
        let array : m.free < n = omega arith in
        let f = term_good n lo l p (omega arith) in
        let g = items_good n t m.free s from is p array (omega arith) (omega arith) in
        let k = rest_good n t m.free (named defs is) s x.free rest p array q (omega arith) in
        let new = Give (ty.ArrayOf t) (Operate operation.NewArray) m.free (m.value ∷ []) in
        record {
          code = use_join n (m.code ++ new ∷ x.code) y.code
              (use_join n m.code (new ∷ x.code) f.code ((array, (f.value, tt)), g.code)) k.code;
          drops = use_join n (m.drops ++ Drop m.free 0 ∷ x.drops) y.drops
              (use_join n m.drops (Drop m.free 0 ∷ x.drops) f.drops (array, g.drops)) k.drops;
          value = array;
        }
    term_good n lo t p q = record { code = tt; drops = tt; value = omega arith }

    terms_good : (n lo : ℕ) (ts : Terms) → 0 < n → (lower_all defs lo ts).free ≤ n → AllGood n (lower_all defs lo ts)
    terms_good n lo NoTerms p q = record { each = tt; code = tt; drops = tt; values = tt }
    terms_good n lo (MoreTerms t ts) p q =
        let x = lower defs lo t in
        let u = terms_up x.free ts in
        let f = term_good n lo t p (omega arith) in
        let g = terms_good n x.free ts p q in
        record {
          each = (f.code, g.each);
          code = use_join n x.code _ f.code g.code;
          drops = use_join n x.drops _ f.drops g.drops;
          values = (f.value, g.values);
        }

    items_good : (n : ℕ) (t : Ty) (a s lo : ℕ) (is : Items) → 0 < n → a < n → (lower_items defs t a s lo is).free ≤ n
        → items_end defs s is ≤ n → Good n (lower_items defs t a s lo is)
    items_good n t a s lo NoItems p l q k = record { code = tt; drops = tt; value = l }
    items_good n t a s lo (MoreItems i e is) p l q k =
        let from = if may_hold defs e then lo else s in
        let x = lower defs from e in
        let behind = if may_hold defs e then x.free else lo in
        let y = lower_items defs t a s behind is in
        let u = items_up t a s behind is in
        let shared : (if may_hold defs e then s else (lower defs s e).free) ≤ n = omega arith in
        let f = term_good n from e p (item_fits (may_hold defs e) n lo s e (omega arith) shared) in
        let g = items_good n t a s behind is p l q (omega arith) in
        record {
          code = use_join n x.code (Element t a i x.value ∷ y.code) f.code ((l, f.value), g.code);
          drops = use_join n x.drops y.drops f.drops g.drops;
          value = l;
        }

    rest_good : (n : ℕ) (t : Ty) (a : ℕ) (zs : List ℤ) (s lo : ℕ) (ts : Terms) → 0 < n → a < n
        → (lower_rest defs t a zs s lo ts).free ≤ n → rest_end defs s ts ≤ n → Good n (lower_rest defs t a zs s lo ts)
    rest_good n t a zs s lo NoTerms p l q k = record { code = tt; drops = tt; value = l }
    rest_good n t a zs s lo (MoreTerms e es) p l q k =
        others_good (may_hold defs e) n t a zs lo s e l q k (term_up (suc lo) e) (λ from r. term_good n from e p r)

-- ---- statements

module _ (defs : List Def) (n : ℕ) (p : 0 < n) where
  whole_uses : (t : Term) → (lower defs 0 t).free ≤ n → AllUse n (whole defs t)
  whole_uses t q = let f = term_good defs n 0 t p q in use_join n (lower defs 0 t).code _ f.code f.drops

  whole_if_uses : (t : Option Term) → free_after defs t ≤ n → AllUse n (whole_if defs t)
  whole_if_uses None q = tt
  whole_if_uses (Some t) q = whole_uses t q

  test_uses : (c : Option Term) (passes : ℕ) → free_after defs c ≤ n → AllUse n (test defs c passes)
  test_uses None passes q = tt
  test_uses (Some t) passes q = use_join n (whole defs t) _ (whole_uses t q) ((term_good defs n 0 t p q).value, tt)

  tested_uses : (c : Option Term) (body next : List Instr) → free_after defs c ≤ n → AllUse n body → AllUse n next
      → AllUse n (loop_tested defs c body next)
  tested_uses c body next q f g =
      use_join n (test defs c (suc (length (body ++ next)))) _ (test_uses c (suc (length (body ++ next))) q)
      (use_join n (body ++ next) _ (use_join n body next f g) (tt, tt))

  entered_uses : (c : Option Term) (body next : List Instr) → free_after defs c ≤ n → AllUse n body → AllUse n next
      → AllUse n (loop_entered defs c body next)
  entered_uses c body next q f g =
      use_join n (body ++ next) _ (use_join n body next f g) (use_join n (test defs c 1) _ (test_uses c 1 q) (tt, tt))

  mutual
    stm_uses : (around : List Around) (rest : ℕ) (s : Stm) → stm_slots defs s ≤ n → AllUse n (stm_code defs around rest s)
    stm_uses around rest Over q = tt
    stm_uses around rest (Eval t) q = whole_uses t q
    stm_uses around rest (If t x y) q =
        let other = block_code defs (further rest around) y in
        let first = block_code defs (further (suc (length other) + rest) around) x in
        let unless = Unless (lower defs 0 t).value (suc (length first)) in
        use_join n (whole defs t ++ unless ∷ first) (Jump (length other) ∷ other)
        (use_join n (whole defs t) (unless ∷ first) (whole_uses t (omega arith))
        ((term_good defs n 0 t p (omega arith)).value, block_uses (further (suc (length other) + rest) around) x (omega arith)))
        (tt, block_uses (further rest around) y (omega arith))
    stm_uses around rest (While t k) q = tested_loop around rest k q
    stm_uses around rest (Enter k) q = entered_loop around rest k q
    stm_uses around rest (Break k) q = (tt, tt)
    stm_uses around rest (Continue k) q = (tt, tt)
    stm_uses around rest (tree.Return t) q =
        let f = term_good defs n 0 t p q in use_join n (lower defs 0 t).code _ f.code (f.value, tt)
    stm_uses around rest tree.Leave q = (tt, tt)

    tested_loop : (around : List Around) (rest : ℕ) (k : Loop) → loop_slots defs k ≤ n → AllUse n (loop_code_tested defs around rest k)
    tested_loop around rest (Looping c next body) q =
        let behind = suc (length (whole_if defs next)) in
        tested_uses c _ (whole_if defs next) (omega arith) (block_uses (in_loop behind rest around) body (omega arith))
        (whole_if_uses next (omega arith))

    entered_loop : (around : List Around) (rest : ℕ) (k : Loop) → loop_slots defs k ≤ n → AllUse n (loop_code_entered defs around rest k)
    entered_loop around rest (Looping c next body) q =
        let behind = length (whole_if defs next) + suc (length (test defs c 1)) in
        entered_uses c _ (whole_if defs next) (omega arith) (block_uses (in_loop behind rest around) body (omega arith))
        (whole_if_uses next (omega arith))

    block_uses : (around : List Around) (x : Block) → block_slots defs x ≤ n → AllUse n (block_code defs around x)
    block_uses around Done q = tt
    block_uses around (Then s x) q =
        let rest = block_code defs around x in
        use_join n (stm_code defs around (length rest) s) rest (stm_uses around (length rest) s (omega arith))
        (block_uses around x (omega arith))
    block_uses around (Turn k x) q = block_uses around x q
    block_uses around (Again k x) q = block_uses around x q

used_at : (n : ℕ) (is : List Instr) (pc : ℕ) (i : Instr) → AllUse n is → slice_get is pc ≡ Some i → Uses n i
used_at n [] pc i h e = absurd cc
used_at n (j ∷ is) zero i h e = let f : j ≡ i = cc in subst (λ (z : Instr). Uses n z) f h.0
used_at n (j ∷ is) (suc pc) i h e = used_at n is pc i h.1 e

pub slots_are_there : SlotsAreThere
slots_are_there defs r pc i e =
    let n = max 1 (block_slots defs r.body) in
    used_at n (function_of defs r).code pc i
    (use_join n (block_code defs [] r.body) (Return None ∷ []) (block_uses defs n (omega arith) [] r.body (omega arith)) (tt, tt)) e
