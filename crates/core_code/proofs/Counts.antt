-- How long the code of expressions, statements and functions is, by their nodes.
use Rattle.std.proofs.Common.{◌≡◌, ℕ, ℤ, zero, suc, ◌+◌, ◌-◌, ◌*◌, ◌≤◌, Bool, true, false, List, [], ◌∷◌, ◌++◌, length, max}
use Rattle.std.proofs.Common.{Option, Some, None, refl, ap, ◌∙◌, arith, length-append}
use Rattle.std.proofs.lemmas.List.{length-map, length-reverse}
use Rattle.std.specs.Prelude.{reverse, if◌then◌else◌}
use Rattle.limbo_types.specs.Types as ty
use Rattle.limbo_types.specs.Types.{Ty}
use Rattle.limbo_types.specs.View.{tys_of}
use Rattle.limbo_layout.specs.Adts.{Def}
use Rattle.limbo_typed.specs.declared.operation.Operation.{Operation}
use Rattle.limbo_typed.specs.declared.operation.Operation.TheVariants as operation
use Rattle.limbo_meaning.specs.Trees as tree
use Rattle.limbo_meaning.specs.Trees.{Aim, Work, Operate, Term, Evaluated, Node, Lazy, Update, Fill, Terms, NoTerms, MoreTerms}
use Rattle.limbo_meaning.specs.Trees.{Items, NoItems, MoreItems}
use Rattle.limbo_meaning.specs.Trees.{Stm, Over, Eval, If, While, Enter, Break, Continue, Loop, Looping, Block, Done, Then, Turn, Again}
use Rattle.limbo_meaning.specs.Evaluation.{passes_on, may_hold, work_refers, operands_for}
use Rattle.limbo_meaning.specs.Operations.{item_of}
use Rattle.core_code.specs.Code.{Instr, Give, Place, Gather, Pick, Call, Print, Skip, Truth, Write, Element, Next, Other, Start, Keep, Take}
use Rattle.core_code.specs.Code.{Drop, Mirror}
use Rattle.core_code.specs.Code.{Unless, Jump, Back, Return}
use Rattle.core_code.specs.Terms.{Lowered, LoweredAll, Moved, drop_after, drops_after, drops_after_all, drops_from, drops_if, count_of}
use Rattle.core_code.specs.Terms.{gives, gathers, writes, cells, list_code, cell_drops, slot_at, moves_out, first_of, types_in, node}
use Rattle.core_code.specs.Terms.{others, lower}
use Rattle.core_code.specs.Terms.{lower_all}
use Rattle.core_code.specs.Terms.{lower_items}
use Rattle.core_code.specs.Terms.{lower_rest, named, items_end, rest_end, part_types, part_numbers, numbers_from, moves_into}
use Rattle.core_code.specs.Terms.{placed, variant_of, together, together_drops, value_slot, operands_slot}
use Rattle.core_code.specs.Statements.{Around, further, in_loop, whole, whole_if, test, loop_tested, loop_entered}
use Rattle.core_code.specs.Statements.{stm_code, loop_code_tested, loop_code_entered, block_code}
use Rattle.core_code.specs.Nodes.{written_in, node_of, term_nodes, terms_nodes, items_nodes, optional_nodes, stm_nodes, loop_nodes}
use Rattle.core_code.specs.Nodes.{block_nodes, FourATreeNode}

pub long_join : (xs ys : List Instr) → length (xs ++ ys) ≡ length xs + length ys
long_join xs ys = length-append xs ys

-- ---- drops

long_drops : (s k n : ℕ) → length (drops_from s k n) ≡ n
long_drops s k zero = refl
long_drops s k (suc n) = ap suc (long_drops s (suc k) n)

long_if : (h : Bool) (is : List Instr) → length (drops_if h is) ≤ length is
long_if true is = omega arith
long_if false is = omega arith

long_after_all : (vs : List Moved) (is : List Instr) → length (drops_after_all vs is) ≡ length is
long_after_all [] is = refl
long_after_all (v ∷ vs) is = long_after_all vs (drops_after v is) ∙ length-map is (drop_after v)

-- ---- expressions

-- code and drops of so many nodes, and two instructions to spare
abbrev Small : (nodes : ℕ) → (code drops : List Instr) → Type 0
Small n code drops = length code + length drops + 2 ≤ 4 * n

-- the code of all, one behind the other
abbrev long_each : List (List Instr) → ℕ
long_each [] = 0
long_each (c ∷ cs) = length c + long_each cs

-- the same of several, with two to spare of each
record AreSmall (n : ℕ) (l : LoweredAll) : Type 0 where
  each : long_each l.each ≤ length l.code
  all : length l.code + length l.drops + 2 * length l.values ≤ 4 * n

module _ (defs : List Def) where
  abbrev IsSmall : ℕ → Lowered → Type 0
  IsSmall n l = Small n l.code l.drops

  either_small : (h : Bool) (n : ℕ) (l m : Lowered) → IsSmall n l → IsSmall n m → IsSmall n (if h then l else m)
  either_small true n l m f g = f
  either_small false n l m f g = g

  gives_small : (t : Ty) (o : Work) (l : LoweredAll) (n m : ℕ) → AreSmall n l → node_of defs t + n ≤ m → IsSmall m (gives defs t o l)
  gives_small t o l n m f g =
      let a = long_join l.code (Give t o l.free l.values ∷ []) in
      let b = long_join l.drops (drops_if (work_refers defs t o) (drops_from l.free 0 (count_of defs t))) in
      let c = long_if (work_refers defs t o) (drops_from l.free 0 (count_of defs t)) in
      let d = long_drops l.free 0 (count_of defs t) in
      omega arith

  long_placed : (t : Ty) (v : Option ℕ) (into n : ℕ) (ks : List ℕ) (cs : List (List Instr)) (ss : List ℕ)
      → length (placed defs t v into n ks cs ss) ≤ long_each cs + length ss
  long_placed t v into n (k ∷ ks) (c ∷ cs) (s ∷ ss) =
      let a = long_join c (Place t v n k into s ∷ placed defs t v into (suc n) ks cs ss) in
      let b = long_placed t v into (suc n) ks cs ss in
      omega arith
  long_placed t v into n ks cs ss = omega arith

  gathers_small : (t : Ty) (o : Operation) (l : LoweredAll) (n m : ℕ) → AreSmall n l → node_of defs t + n ≤ m
      → IsSmall m (gathers defs t o l)
  gathers_small t o l n m f g =
      let p = placed defs t (variant_of defs o) l.free 0 (part_numbers defs o (length l.values)) l.each l.values in
      let a = long_join p (Gather t (Operate o) l.free (length l.values) ∷ []) in
      let c = long_placed t (variant_of defs o) l.free 0 (part_numbers defs o (length l.values)) l.each l.values in
      let b = long_after_all (moves_into defs (part_types defs t) l.free (part_numbers defs o (length l.values)) l.values) l.drops in
      omega arith

  long_together : (front us : List Ty) (l : LoweredAll) → length (together defs front us l) ≤ long_each l.each + length l.values
  long_together front us l =
      long_placed (ty.Tuple (tys_of (front ++ us))) None l.free 0 (numbers_from defs (length front) (length l.values)) l.each l.values

  long_together_drops : (front us : List Ty) (l : LoweredAll) → length (together_drops defs front us l) ≡ length l.drops
  long_together_drops front us l =
      long_after_all (moves_into defs (front ++ us) l.free (numbers_from defs (length front) (length l.values)) l.values) l.drops

  long_writes : (aims : List Aim) (ss : List ℕ) (v : ℕ) → length (writes defs aims ss v) ≡ length aims
  long_writes [] ss v = refl
  long_writes (a ∷ aims) ss v = ap suc (long_writes aims _ v)

  long_cells : (t : Ty) (ss : List ℕ) (behind : Option ℕ) (free : ℕ) → length (cells defs t ss behind free) ≡ length ss
  long_cells t [] behind free = refl
  long_cells t (s ∷ ss) behind free = ap suc (long_cells t ss (Some free) (suc free))

  long_list : (t : Ty) (ss : List ℕ) (free : ℕ) → length (list_code defs t ss free) ≤ suc (length ss)
  long_list t [] free = omega arith
  long_list t (s ∷ ss) free =
      let a = long_cells t (reverse (s ∷ ss)) None free in
      let b = length-reverse (s ∷ ss) in
      omega arith

  long_cell_drops : (n free : ℕ) → length (cell_drops defs n free) ≡ n
  long_cell_drops zero free = refl
  long_cell_drops (suc n) free = ap suc (long_cell_drops n (suc free))

  -- one instruction behind the operands, and no drop
  one_more : (code drops : List Instr) (values n m : ℕ) (i : Instr) → length code + length drops + 2 * values ≤ 4 * n → suc n ≤ m
      → Small m (code ++ i ∷ []) drops
  one_more code drops values n m i f g = let a = long_join code (i ∷ []) in omega arith

  node_small : (us : List Ty) (t : Ty) (o : Work) (l : LoweredAll) (n : ℕ) → AreSmall n l
      → IsSmall (node_of defs t + (written_in o + n)) (node defs us t o l)
  node_small us t (Operate o) l n f =
      either_small (passes_on o) _ (gathers defs t o l) (gives defs t (Operate o) l) (gathers_small t o l n _ f (omega arith))
      (gives_small t (Operate o) l n _ f (omega arith))
  node_small us t (tree.Assign aims) l n f =
      let w = writes defs aims l.values (slot_at (operands_for aims) l.values) in
      let a = long_join l.code w in
      let b = long_writes aims l.values (slot_at (operands_for aims) l.values) in
      omega arith
  node_small us t (tree.TakePart k) l n f =
      let a = long_join l.code (Pick t k l.free (slot_at 0 l.values) ∷ []) in
      let b = length-map l.drops (drop_after (moves_out defs (first_of defs us) k (slot_at 0 l.values) l.free)) in
      omega arith
  node_small us t tree.Copy l n f = one_more l.code l.drops (length l.values) n _ _ f.all (omega arith)
  node_small us t tree.Link l n f =
      let a = long_join l.code (list_code defs (item_of t) l.values l.free) in
      let b = long_list (item_of t) l.values l.free in
      let d = long_join l.drops (cell_drops defs (length l.values) l.free) in
      let e = long_cell_drops (length l.values) l.free in
      omega arith
  node_small us t (tree.Call k) l n f =
      let a = long_join (together defs [] us l) (Call t k (value_slot defs l) (operands_slot defs l) ∷ []) in
      let b = long_join (together_drops defs [] us l) (drops_from (value_slot defs l) 0 (count_of defs t)) in
      let c = long_drops (value_slot defs l) 0 (count_of defs t) in
      let d = long_together [] us l in
      let e = long_together_drops [] us l in
      omega arith
  node_small us t (tree.Print ps) l n f =
      let a = long_join (together defs (ty.Chars ∷ []) us l) (Print ps (value_slot defs l) (operands_slot defs l) ∷ []) in
      let d = long_together (ty.Chars ∷ []) us l in
      let e = long_together_drops (ty.Chars ∷ []) us l in
      omega arith
  node_small us t tree.NewChannel l n f =
      let a = long_join l.code (Give t tree.NewChannel l.free [] ∷ []) in
      let b = long_join l.drops (Drop l.free 0 ∷ []) in
      omega arith
  node_small us t (tree.Literal c) l n f = gives_small t (tree.Literal c) l n _ f (omega arith)
  node_small us t tree.Nil l n f = gives_small t tree.Nil l n _ f (omega arith)
  node_small us t (tree.Read w) l n f = gives_small t (tree.Read w) l n _ f (omega arith)
  node_small us t (tree.Sprint ps) l n f = gives_small t (tree.Sprint ps) l n _ f (omega arith)

  -- a loop of the others' element has seven instructions of its own
  others_small : (h : Bool) (t : Ty) (a : ℕ) (zs : List ℤ) (from : ℕ) (e : Lowered) →
      length (others defs h t a zs from e).code + length (others defs h t a zs from e).drops ≤ length e.code + length e.drops + 7
  others_small true t a zs from e =
      let own = Other t a from e.value ∷ Keep from (suc from) (e.free - suc from) ∷ [] in
      let turn = e.code ++ own in
      let x = long_join e.code own in
      let y = long_join (Start from ∷ Next a from zs (suc (length turn)) ∷ turn) (Back (suc (length turn)) ∷ []) in
      let z = long_join (Take from (suc from) (e.free - suc from) (suc (length e.drops)) ∷ e.drops)
      (Back (suc (length e.drops)) ∷ []) in
      omega arith
  others_small false t a zs from e =
      let turn = e.code ++ Other t a from e.value ∷ [] in
      let x = long_join e.code (Other t a from e.value ∷ []) in
      let y = long_join (Start from ∷ Next a from zs (suc (length turn)) ∷ turn) (Back (suc (length turn)) ∷ []) in
      omega arith

  mutual
    term_small : (lo : ℕ) (t : Term) → IsSmall (term_nodes defs t) (lower defs lo t)
    term_small lo (Evaluated v) = omega arith
    term_small lo (Node t o ts) = node_small (types_in defs ts) t o (lower_all defs lo ts) (terms_nodes defs ts) (terms_small lo ts)
    term_small lo (Lazy c l r) =
        let x = lower defs lo l in
        let y = lower defs (suc x.free) r in
        let f = term_small lo l in
        let g = term_small (suc x.free) r in
        let held = may_hold defs r in
        let skip = Skip c y.free (if held then Some x.free else None) x.value (suc (length y.code)) in
        let mirrored = Mirror x.free (length y.drops) ∷ y.drops in
        let a = long_join (x.code ++ skip ∷ y.code) (Truth y.free y.value ∷ []) in
        let b = long_join x.code (skip ∷ y.code) in
        let d = long_join x.drops (drops_if held mirrored) in
        let e = long_if held mirrored in
        omega arith
    term_small lo (Update o w t way ts us) =
        let x = lower_all defs lo ts in
        let y = lower_all defs (suc x.free) us in
        let f = terms_small lo ts in
        let g = terms_small (suc x.free) us in
        let read = Give t (tree.Read way) x.free x.values in
        let rest = Give t (Operate o) y.free (x.free ∷ y.values) ∷ Write t way x.values [] y.free ∷ [] in
        let old = drops_from x.free 0 (count_of defs t) in
        let new = drops_if (work_refers defs t (Operate o)) (drops_from y.free 0 (count_of defs t)) in
        let a = long_join (x.code ++ read ∷ y.code) rest in
        let b = long_join x.code (read ∷ y.code) in
        let c = long_join x.drops (old ++ (y.drops ++ new)) in
        let d = long_join old (y.drops ++ new) in
        let e = long_join y.drops new in
        let i = long_drops x.free 0 (count_of defs t) in
        let j = long_if (work_refers defs t (Operate o)) (drops_from y.free 0 (count_of defs t)) in
        let k = long_drops y.free 0 (count_of defs t) in
        omega arith
    term_small lo (Fill t l is rest) =
        let n = lower defs lo l in
        let s = suc n.free in
        let from = max (items_end defs s is) (rest_end defs s rest) in
        let x = lower_items defs t n.free s from is in
        let y = lower_rest defs t n.free (named defs is) s x.free rest in
        let f = term_small lo l in
        let g = items_small t n.free s from is in
        let k = rest_small t n.free (named defs is) s x.free rest in
        let new = Give (ty.ArrayOf t) (Operate operation.NewArray) n.free (n.value ∷ []) in
        let a = long_join (n.code ++ new ∷ x.code) y.code in
        let b = long_join n.code (new ∷ x.code) in
        let c = long_join (n.drops ++ Drop n.free 0 ∷ x.drops) y.drops in
        let d = long_join n.drops (Drop n.free 0 ∷ x.drops) in
        omega arith
    term_small lo t = omega arith

    terms_small : (lo : ℕ) (ts : Terms) → AreSmall (terms_nodes defs ts) (lower_all defs lo ts)
    terms_small lo NoTerms = record { each = omega arith; all = omega arith }
    terms_small lo (MoreTerms t ts) =
        let x = lower defs lo t in
        let y = lower_all defs x.free ts in
        let f = term_small lo t in
        let g = terms_small x.free ts in
        let a = long_join x.code y.code in
        let b = long_join x.drops y.drops in
        record { each = omega arith; all = omega arith }

    items_small : (t : Ty) (a s lo : ℕ) (is : Items) →
        length (lower_items defs t a s lo is).code + length (lower_items defs t a s lo is).drops ≤ 4 * items_nodes defs is
    items_small t a s lo NoItems = omega arith
    items_small t a s lo (MoreItems i e is) =
        let x = lower defs (if may_hold defs e then lo else s) e in
        let y = lower_items defs t a s (if may_hold defs e then x.free else lo) is in
        let f = term_small (if may_hold defs e then lo else s) e in
        let g = items_small t a s (if may_hold defs e then x.free else lo) is in
        let b = long_join x.code (Element t a i x.value ∷ y.code) in
        let c = long_join x.drops y.drops in
        omega arith

    -- seven more, of which the array's own node has room
    rest_small : (t : Ty) (a : ℕ) (zs : List ℤ) (s lo : ℕ) (ts : Terms) →
        length (lower_rest defs t a zs s lo ts).code + length (lower_rest defs t a zs s lo ts).drops ≤ 4 * terms_nodes defs ts + 5
    rest_small t a zs s lo NoTerms = omega arith
    rest_small t a zs s lo (MoreTerms e es) =
        let from = if may_hold defs e then suc lo else s in
        let f = term_small from e in
        let g = others_small (may_hold defs e) t a zs lo (lower defs from e) in
        omega arith

-- ---- statements

module _ (defs : List Def) where
  pub whole_small : (t : Term) → length (whole defs t) + 2 ≤ 4 * term_nodes defs t
  whole_small t = let a = long_join (lower defs 0 t).code (lower defs 0 t).drops in let f = term_small defs 0 t in omega arith

  whole_if_small : (t : Option Term) → length (whole_if defs t) ≤ 4 * optional_nodes defs t
  whole_if_small None = omega arith
  whole_if_small (Some t) = let a = whole_small t in omega arith

  test_small : (c : Option Term) (n : ℕ) → length (test defs c n) ≤ 4 * optional_nodes defs c
  test_small None n = omega arith
  test_small (Some t) n = let a = whole_small t in let b = long_join (whole defs t) (Unless (lower defs 0 t).value n ∷ []) in omega arith

  tested_long : (c : Option Term) (body next : List Instr) →
      length (loop_tested defs c body next) ≤ 4 * optional_nodes defs c + (length body + (length next + 1))
  tested_long c body next =
      let turn = body ++ next in
      let head = test defs c (suc (length turn)) in
      let back = Back (length head + length turn) ∷ [] in
      let a = long_join head (turn ++ back) in
      let b = long_join turn back in
      let d = long_join body next in
      let e = test_small c (suc (length turn)) in
      omega arith

  entered_long : (c : Option Term) (body next : List Instr) →
      length (loop_entered defs c body next) ≤ 4 * optional_nodes defs c + (length body + (length next + 1))
  entered_long c body next =
      let turn = body ++ next in
      let head = test defs c 1 in
      let back = Back (length turn + length head) ∷ [] in
      let a = long_join turn (head ++ back) in
      let b = long_join head back in
      let d = long_join body next in
      let e = test_small c 1 in
      omega arith

  mutual
    stm_small : (around : List Around) (rest : ℕ) (s : Stm) → length (stm_code defs around rest s) ≤ 4 * stm_nodes defs s
    stm_small around rest Over = omega arith
    stm_small around rest (Eval t) = let a = whole_small t in omega arith
    stm_small around rest (If t x y) =
        let other = block_code defs (further rest around) y in
        let first = block_code defs (further (suc (length other) + rest) around) x in
        let unless = Unless (lower defs 0 t).value (suc (length first)) in
        let a = long_join (whole defs t ++ unless ∷ first) (Jump (length other) ∷ other) in
        let b = long_join (whole defs t) (unless ∷ first) in
        let c = whole_small t in
        let d = block_small (further rest around) y in
        let e = block_small (further (suc (length other) + rest) around) x in
        omega arith
    stm_small around rest (While t k) = let a = tested_small around rest k in omega arith
    stm_small around rest (Enter k) = let a = entered_small around rest k in omega arith
    stm_small around rest (Break n) = omega arith
    stm_small around rest (Continue n) = omega arith
    stm_small around rest (tree.Return t) =
        let a = long_join (lower defs 0 t).code (Return (Some (lower defs 0 t).value) ∷ []) in
        let b = term_small defs 0 t in
        omega arith
    stm_small around rest tree.Leave = omega arith

    tested_small : (around : List Around) (rest : ℕ) (k : Loop) → length (loop_code_tested defs around rest k) ≤ 4 * loop_nodes defs k + 1
    tested_small around rest (Looping c n body) =
        let next = whole_if defs n in
        let inner = block_code defs (in_loop (suc (length next)) rest around) body in
        let a = tested_long c inner next in
        let b = whole_if_small n in
        let d = block_small (in_loop (suc (length next)) rest around) body in
        omega arith

    entered_small : (around : List Around) (rest : ℕ) (k : Loop) → length (loop_code_entered defs around rest k) ≤ 4 * loop_nodes defs k + 1
    entered_small around rest (Looping c n body) =
        let next = whole_if defs n in
        let behind = length next + suc (length (test defs c 1)) in
        let inner = block_code defs (in_loop behind rest around) body in
        let a = entered_long c inner next in
        let b = whole_if_small n in
        let d = block_small (in_loop behind rest around) body in
        omega arith

    pub block_small : (around : List Around) (x : Block) → length (block_code defs around x) ≤ 4 * block_nodes defs x
    block_small around Done = omega arith
    block_small around (Then s x) =
        let rest = block_code defs around x in
        let a = long_join (stm_code defs around (length rest) s) rest in
        let b = stm_small around (length rest) s in
        let c = block_small around x in
        omega arith
    block_small around (Turn k x) = block_small around x
    block_small around (Again k x) = block_small around x

pub four_a_tree_node : FourATreeNode
four_a_tree_node = record {
  expressions = λ defs t. let a = whole_small defs t in omega arith;
  statements = stm_small;
  functions = λ defs r.
      let a = long_join (block_code defs [] r.body) (Return None ∷ []) in
      let b = block_small defs [] r.body in
      omega arith;
}
