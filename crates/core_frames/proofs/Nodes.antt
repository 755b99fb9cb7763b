-- Each node that is counted leaves 8 bytes and more of what its expression counts in the frame.
use Rattle.std.proofs.Common.{ℕ, suc, ◌+◌, ◌*◌, ◌≤◌, Bool, true, false, List, [], ◌∷◌, max, Option, Some, None, arith, map}
use Rattle.std.specs.Prelude.{if◌then◌else◌}
use Rattle.limbo_types.specs.Types as ty
use Rattle.limbo_types.specs.Types.{Ty}
use Rattle.limbo_layout.specs.Adts.{Def}
use Rattle.limbo_typed.specs.declared.print.Printed.{Printed}
use Rattle.limbo_typed.specs.declared.print.Printed.TheVariants as printed
use Rattle.limbo_typed.specs.declared.print.Piece.{Piece}
use Rattle.limbo_typed.specs.Typed as typed
use Rattle.limbo_typed.specs.Typed.{Of, At}
use Rattle.limbo_meaning.specs.Evaluation.{may_hold}
use Rattle.limbo_meaning.specs.Trees as tree
use Rattle.limbo_meaning.specs.Trees.{Term, Terms, NoTerms, MoreTerms, Block, Done, Then, Over, Looping, tested}
use Rattle.limbo_meaning.specs.Program.{term_of, node_of, terms_of, terms_if, length_term, items_of, printed_of, operands_at, operands_to}
use Rattle.limbo_meaning.specs.Program.{operands_among, terms_before, as_printed, printing, evaluated, optional, first_of, local}
use Rattle.limbo_meaning.specs.Program.{declared_value, before, all_before, routine_of}
use Rattle.core_code.specs.Terms.{lower, lower_all}
use Rattle.core_code.specs.Frames as frames
use Rattle.core_code.specs.Frames.{counted_nodes, all_counted, if_counted, stm_counted, loop_counted, block_counted}
use Rattle.core_code.proofs.Slotted.{term_room, terms_room, end_room, rest_end_room, items_room, rest_room, three_slots_a_node}
use Rattle.core_frames.specs.Sizes as size
use Rattle.core_frames.specs.Sizes.{node_size, expr_size, inner_size, exprs_size, optional_size, held_size, greatest, rest_held}
use Rattle.core_frames.specs.Sizes.{way_size, pattern_size, patterns_size, some_size, stmt_size, stmts_size, declared_size, types_in}
use Rattle.core_frames.specs.Nodes.{NodesFit, SlotsAreFew}

module _ (defs : List Def) where
  abbrev N : Terms → ℕ
  N ts = all_counted defs ts

  abbrev Few : Term → ℕ → Type 0
  Few x n = 8 * counted_nodes defs x + 8 ≤ n

  abbrev FewIf : typed.Optional → Type 0
  FewIf typed.Absent = Unit {0}
  FewIf (typed.Present e) = Few (term_of e) (expr_size defs e)

  counted_before : (ts us : Terms) → N (terms_before ts us) ≤ N ts + N us
  counted_before NoTerms us = omega arith
  counted_before (MoreTerms t ts) us = let a = counted_before ts us in omega arith

  -- a byte that is printed is converted
  as_printed_few : (t : Ty) (x : Term) (n : ℕ) → Few x n → 8 * counted_nodes defs (as_printed t x) ≤ n
  as_printed_few ty.Byte x n l = omega arith
  as_printed_few _ x n l = omega arith

  printing_few : (w : Printed) (t : Ty) (ps : List Piece) (ts : Terms) (n : ℕ) → 8 * N ts ≤ n
      → Few (printing w t ps ts) (node_size defs t + (48 + n))
  printing_few printed.Print t ps ts n l = omega arith
  printing_few printed.Sprint t ps ts n l = omega arith
  printing_few printed.Fprint t ps ts n l = omega arith

  -- ---- initialisers

  held_few : (b : Bool) (x : Term) (n : ℕ) → Few x n → 8 * (if b then counted_nodes defs x else 0) ≤ (if b then n else 0)
  held_few true x n l = omega arith
  held_few false x n l = omega arith

  alone_few : (b : Bool) (x : Term) (n : ℕ) → Few x n → 8 * (if b then 0 else counted_nodes defs x) ≤ (if b then 0 else n)
  alone_few true x n l = omega arith
  alone_few false x n l = omega arith

  record ItemsFew (is : typed.Items) : Type 0 where
    held : 8 * frames.held defs (items_of is) ≤ held_size defs is
    alone : 8 * frames.greatest defs (items_of is) ≤ greatest defs is

  length_few : (l : typed.Optional) (is : typed.Items) → FewIf l → 8 * counted_nodes defs (length_term l is) ≤ 8 + optional_size defs l
  length_few typed.Absent is f = omega arith
  length_few (typed.Present e) is f = omega arith

  rest_held_few : (r : typed.Optional) → FewIf r → 8 * frames.rest_held defs (terms_if r) ≤ rest_held defs r
  rest_held_few typed.Absent f = omega arith
  rest_held_few (typed.Present e) f = held_few (may_hold defs (term_of e)) (term_of e) (expr_size defs e) f

  rest_alone_few : (r : typed.Optional) → FewIf r → 8 * frames.rest_alone defs (terms_if r) ≤ size.rest_alone defs r
  rest_alone_few typed.Absent f = omega arith
  rest_alone_few (typed.Present e) f = alone_few (may_hold defs (term_of e)) (term_of e) (expr_size defs e) f

  -- ---- expressions

  mutual
    expr_few : (e : typed.Expr) → Few (term_of e) (expr_size defs e)
    expr_few (Of t n) = node_few t n

    node_few : (t : Ty) (n : typed.Node) → Few (node_of t n) (inner_size defs t n)
    node_few t (typed.Number n) = omega arith
    node_few t (typed.Chars s) = omega arith
    node_few t typed.Nil = omega arith
    node_few t (typed.Read (At u p)) = let a = way_few p in omega arith
    node_few t (typed.Part e n) = let a = expr_few e in omega arith
    node_few t (typed.Apply o es) = let a = exprs_few es in omega arith
    node_few t (typed.Lazy c l r) = let a = expr_few l in let b = expr_few r in omega arith
    node_few t (typed.Assign p e) =
        let a = pattern_few p in
        let b = expr_few e in
        let c = counted_before (operands_to p) (MoreTerms (term_of e) NoTerms) in
        omega arith
    node_few t (typed.Update o (At u p) e) = let a = way_few p in let b = expr_few e in omega arith
    node_few t (typed.Step o g (At u p)) = let a = way_few p in omega arith
    node_few t (typed.Copy x i e) = let a = expr_few x in let b = expr_few i in let c = expr_few e in omega arith
    node_few t (typed.Filled l is rest) =
        let a = length_few l is (optional_few l) in
        let b = items_few is in
        let c = rest_held_few rest (optional_few rest) in
        let d = rest_alone_few rest (optional_few rest) in
        let e = b.held in
        let f = b.alone in
        omega arith
    node_few t (typed.Channel typed.Absent) = omega arith
    node_few t (typed.Channel (typed.Present e)) = omega arith
    node_few t (typed.Call f es) = let a = exprs_few es in omega arith
    node_few t (typed.Print w m typed.Absent ps es) = printing_few w t ps (printed_of es) (exprs_size defs es) (printed_few es)
    node_few t (typed.Print w m (typed.Present f) ps es) = omega arith
    node_few t _ = omega arith

    optional_few : (e : typed.Optional) → FewIf e
    optional_few typed.Absent = tt
    optional_few (typed.Present e) = expr_few e

    items_few : (is : typed.Items) → ItemsFew is
    items_few typed.NoItems = record { held = omega arith; alone = omega arith }
    items_few (typed.MoreItems i e is) =
        let a = held_few (may_hold defs (term_of e)) (term_of e) (expr_size defs e) (expr_few e) in
        let b = alone_few (may_hold defs (term_of e)) (term_of e) (expr_size defs e) (expr_few e) in
        let c = (items_few is).held in
        let d = (items_few is).alone in
        record { held = omega arith; alone = omega arith }

    exprs_few : (es : typed.Exprs) → 8 * N (terms_of es) ≤ exprs_size defs es
    exprs_few typed.NoExprs = omega arith
    exprs_few (typed.MoreExprs e es) = let a = expr_few e in let b = exprs_few es in omega arith

    printed_few : (es : typed.Exprs) → 8 * N (printed_of es) ≤ exprs_size defs es
    printed_few typed.NoExprs = omega arith
    printed_few (typed.MoreExprs (Of t n) es) =
        let a = as_printed_few t (node_of t n) (inner_size defs t n) (node_few t n) in
        let b = printed_few es in
        omega arith

    way_few : (p : typed.PlaceNode) → 8 * N (operands_at p) ≤ way_size defs p
    way_few (typed.Local x) = omega arith
    way_few (typed.Global x) = omega arith
    way_few (typed.Field (At t p) n) = let a = way_few p in omega arith
    way_few (typed.Element x i) = let a = expr_few x in let b = expr_few i in omega arith
    way_few (typed.Character (At t p) i) =
        let a = way_few p in
        let b = expr_few i in
        let c = counted_before (operands_at p) (MoreTerms (term_of i) NoTerms) in
        omega arith
    way_few (typed.Target e) = let a = expr_few e in omega arith

    pattern_few : (p : typed.Pattern) → 8 * N (operands_to p) ≤ pattern_size defs p
    pattern_few (typed.ToPlace (At t p)) = let a = way_few p in omega arith
    pattern_few typed.ToNothing = omega arith
    pattern_few (typed.ToParts ps) = patterns_few ps

    patterns_few : (ps : typed.Patterns) → 8 * N (operands_among ps) ≤ patterns_size defs ps
    patterns_few typed.NoPatterns = omega arith
    patterns_few (typed.MorePatterns p ps) =
        let a = pattern_few p in
        let b = patterns_few ps in
        let c = counted_before (operands_to p) (operands_among ps) in
        omega arith

  -- ---- statements

  abbrev Least : ℕ → Block → Type 0
  Least n b = 8 * block_counted defs b ≤ n

  some_few : (e : Option typed.Expr) → 8 * if_counted defs (optional e) ≤ some_size defs e
  some_few None = omega arith
  some_few (Some e) = let a = expr_few e in omega arith

  -- an expression as a statement, also the load that is none
  eval_few : (e : typed.Expr) → 8 * stm_counted defs (evaluated e) ≤ expr_size defs e
  eval_few (Of t (typed.Assign p (Of u (typed.Load i e)))) = omega arith
  eval_few (Of t (typed.Assign p e)) = let a = node_few t (typed.Assign p e) in omega arith
  eval_few (Of t n) = let a = node_few t n in omega arith

  tested_few : (c next : Option typed.Expr) (body rest : Block) (n : ℕ) → some_size defs c ≤ n → some_size defs next ≤ n
      → Least n body → Least n rest → Least n (tested (Looping (optional c) (optional next) body) rest)
  tested_few None next body rest n p q r s = let b = some_few next in omega arith
  tested_few (Some c) next body rest n p q r s = let a = some_few (Some c) in let b = some_few next in omega arith

  first_few : (e : Option typed.Expr) (rest : Block) (n : ℕ) → some_size defs e ≤ n → Least n rest → Least n (first_of e rest)
  first_few None rest n l m = m
  first_few (Some e) rest n l m = let a = eval_few e in omega arith

  module _ (types : List Ty) where
    declared_few : (xs : List ℕ) (e : Option typed.Expr) → 8 * counted_nodes defs (tree.Node ty.Int (tree.Assign (map (local types) xs))
        (MoreTerms (declared_value types e) NoTerms)) ≤ declared_size defs types xs e
    declared_few [] None = omega arith
    declared_few (x ∷ xs) None = omega arith
    declared_few [] (Some e) = let a = expr_few e in omega arith
    declared_few (x ∷ xs) (Some e) = let a = expr_few e in omega arith

    mutual
      stmt_few : (s : typed.Stmt) (rest : Block) (n : ℕ) → 8 ≤ n → stmt_size defs types s ≤ n → Least n rest
          → Least n (before types s rest)
      stmt_few typed.Empty rest n k l m = omega arith
      stmt_few (typed.Block ss) rest n k l m = stmts_few ss (Then Over rest) n k l (omega arith)
      stmt_few (typed.Declare xs e) rest n k l m = let a = declared_few xs e in omega arith
      stmt_few (typed.Eval e) rest n k l m = let a = eval_few e in omega arith
      stmt_few (typed.If c ss others) rest n k l m =
          let a = expr_few c in
          let b = stmts_few ss Done n k (omega arith) (omega arith) in
          let d = stmts_few others Done n k (omega arith) (omega arith) in
          omega arith
      stmt_few (typed.While c ss) rest n k l m =
          tested_few c None (all_before types ss Done) (Then Over rest) n (omega arith) (omega arith)
          (stmts_few ss Done n k (omega arith) (omega arith)) (omega arith)
      stmt_few (typed.Do ss c) rest n k l m =
          let a = some_few c in
          let b = stmts_few ss Done n k (omega arith) (omega arith) in
          omega arith
      stmt_few (typed.For first c next ss) rest n k l m =
          first_few first (tested (Looping (optional c) (optional next) (all_before types ss Done)) (Then Over rest)) n (omega arith)
          (tested_few c next (all_before types ss Done) (Then Over rest) n (omega arith) (omega arith)
          (stmts_few ss Done n k (omega arith) (omega arith)) (omega arith))
      stmt_few (typed.Break i) rest n k l m = omega arith
      stmt_few (typed.Continue i) rest n k l m = omega arith
      stmt_few (typed.Return None) rest n k l m = omega arith
      stmt_few (typed.Return (Some e)) rest n k l m = let a = expr_few e in omega arith
      stmt_few _ rest n k l m = omega arith

      stmts_few : (ss : typed.Stmts) (rest : Block) (n : ℕ) → 8 ≤ n → stmts_size defs types ss ≤ n → Least n rest
          → Least n (all_before types ss rest)
      stmts_few typed.NoStmts rest n k l m = m
      stmts_few (typed.MoreStmts s ss) rest n k l m =
          stmt_few s (all_before types ss rest) n k (omega arith) (stmts_few ss rest n k (omega arith) m)

  function_few : (f : typed.Function) →
      8 * block_counted defs (routine_of f).body ≤ max 8 (stmts_size defs (types_in f.variables) f.body)
  function_few f =
      stmts_few (types_in f.variables) f.body Done (max 8 (stmts_size defs (types_in f.variables) f.body)) (omega arith) (omega arith)
      (omega arith)

  -- ---- and so slots

  list_slots : (lo : ℕ) (ts : Terms) (n : ℕ) → 8 * N ts ≤ n → (lower_all defs lo ts).free ≤ lo + n
  list_slots lo ts n l = let a = terms_room defs lo ts in omega arith

  length_slots : (lo : ℕ) (l : typed.Optional) (is : typed.Items) →
      (lower defs lo (length_term l is)).free ≤ suc lo + optional_size defs l
  length_slots lo typed.Absent is = omega arith
  length_slots lo (typed.Present e) is = let a = expr_few e in let b = term_room defs lo (term_of e) in omega arith

pub nodes_fit : NodesFit
nodes_fit = record {
  expressions = λ defs e. let a = expr_few defs e in omega arith;
  lists = exprs_few;
  printed = printed_few;
  places = way_few;
  patterns = pattern_few;
  functions = function_few;
}

pub slots_are_few : SlotsAreFew
slots_are_few = record {
  expressions = λ defs lo e. let a = expr_few defs e in let b = term_room defs lo (term_of e) in omega arith;
  lists = λ defs lo es. list_slots defs lo (terms_of es) _ (exprs_few defs es);
  printed = λ defs lo es. list_slots defs lo (printed_of es) _ (printed_few defs es);
  places = λ defs lo p. list_slots defs lo (operands_at p) _ (way_few defs p);
  patterns = λ defs lo p. list_slots defs lo (operands_to p) _ (pattern_few defs p);
  lengths = length_slots;
  items = λ defs t a s lo is. let b = (items_few defs is).held in let c = items_room defs t a s lo (items_of is) in omega arith;
  rests = λ defs t a zs s lo r.
      let b = rest_held_few defs r (optional_few defs r) in let c = rest_room defs t a zs s lo (terms_if r) in omega arith;
  shared_items = λ defs s is. let b = (items_few defs is).alone in let c = end_room defs s (items_of is) in omega arith;
  shared_rests = λ defs s r.
      let b = rest_alone_few defs r (optional_few defs r) in let c = rest_end_room defs s (terms_if r) in omega arith;
  functions = λ defs f.
      let a = function_few defs f in
      let b = three_slots_a_node.functions defs (routine_of f) in
      omega arith;
}
