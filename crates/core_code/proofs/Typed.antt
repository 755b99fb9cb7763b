-- Trees have at most twice as many nodes as the checked module that they are of, and so their code eight instructions a node of that.
use Rattle.std.proofs.Common.{◌≡◌, ℕ, suc, ◌+◌, ◌*◌, ◌≤◌, List, [], ◌∷◌, ◌++◌, length, map, Option, Some, None, refl, arith, length-append}
use Rattle.std.proofs.lemmas.List.{length-map}
use Rattle.limbo_types.specs.Types as ty
use Rattle.limbo_types.specs.Types.{Ty}
use Rattle.limbo_layout.specs.Adts.{Def}
use Rattle.limbo_typed.specs.declared.print.Printed.{Printed}
use Rattle.limbo_typed.specs.declared.print.Printed.TheVariants as printed
use Rattle.limbo_typed.specs.declared.print.Piece.{Piece}
use Rattle.limbo_typed.specs.declared.operation.Operation.{Operation}
use Rattle.limbo_typed.specs.declared.operation.Operation.TheVariants as operation
use Rattle.limbo_typed.specs.Typed as typed
use Rattle.limbo_typed.specs.Typed.{Of, At}
use Rattle.limbo_meaning.specs.Trees.{Term, Terms, NoTerms, MoreTerms, Block, Done, Then, Over, Looping, tested}
use Rattle.limbo_meaning.specs.Program.{term_of, node_of, terms_of, terms_if, length_term, items_of, printed_of, operands_at, operands_to}
use Rattle.limbo_meaning.specs.Program.{operands_among, terms_before, aims_in, aims_among, as_printed, operating, printing, evaluated}
use Rattle.limbo_meaning.specs.Program.{optional, first_of, local, declared_value, before, all_before, routine_of}
use Rattle.core_code.specs.Code.{Return}
use Rattle.core_code.specs.Statements.{block_code, function_of}
use Rattle.core_code.specs.Nodes as tree
use Rattle.core_code.specs.Nodes.{written_in, term_nodes, terms_nodes, stm_nodes, block_nodes}
use Rattle.core_code.specs.Sizes.{expr_nodes, inner_nodes, exprs_nodes, optional_nodes, items_nodes, way_nodes, pattern_nodes}
use Rattle.core_code.specs.Sizes.{patterns_nodes, some_nodes, stmt_nodes, stmts_nodes, function_nodes, functions_nodes, instructions}
use Rattle.core_code.specs.Sizes.{EightANode}
use Rattle.core_code.proofs.Counts.{whole_small, block_small, long_join}

module _ (defs : List Def) where
  nodes_before : (ts us : Terms) → terms_nodes defs (terms_before ts us) ≡ terms_nodes defs ts + terms_nodes defs us
  nodes_before NoTerms us = omega arith
  nodes_before (MoreTerms t ts) us = let a = nodes_before ts us in omega arith

  -- a byte that is printed is converted
  as_printed_few : (t : Ty) (x : Term) (n : ℕ) → term_nodes defs x + 1 ≤ n → term_nodes defs (as_printed t x) ≤ n
  as_printed_few ty.Byte x n l = omega arith
  as_printed_few _ x n l = omega arith

  operating_few : (o : Operation) → written_in (operating o) ≡ 0
  operating_few operation.List = refl
  operating_few _ = refl

  printing_few : (w : Printed) (t : Ty) (ps : List Piece) (ts : Terms) (n : ℕ) → terms_nodes defs ts ≤ 2 * n
      → term_nodes defs (printing w t ps ts) + 1 ≤ 2 * (tree.node_of defs t + n)
  printing_few printed.Print t ps ts n l = omega arith
  printing_few printed.Sprint t ps ts n l = omega arith
  printing_few printed.Fprint t ps ts n l = omega arith

  mutual
    expr_few : (e : typed.Expr) → term_nodes defs (term_of e) + 1 ≤ 2 * expr_nodes defs e
    expr_few (Of t n) = node_few t n

    node_few : (t : Ty) (n : typed.Node) → term_nodes defs (node_of t n) + 1 ≤ 2 * inner_nodes defs t n
    node_few t (typed.Number n) = omega arith
    node_few t (typed.Chars s) = omega arith
    node_few t typed.Nil = omega arith
    node_few t (typed.Read (At u p)) = let a = way_few p in omega arith
    node_few t (typed.Part e n) = let a = expr_few e in omega arith
    node_few t (typed.Apply o es) = let a = exprs_few es in let b = operating_few o in omega arith
    node_few t (typed.Lazy c l r) = let a = expr_few l in let b = expr_few r in omega arith
    node_few t (typed.Assign p e) =
        let a = pattern_few [] p in
        let b = expr_few e in
        let c = nodes_before (operands_to p) (MoreTerms (term_of e) NoTerms) in
        omega arith
    node_few t (typed.Update o (At u p) e) = let a = way_few p in let b = expr_few e in omega arith
    node_few t (typed.Step o g (At u p)) = let a = way_few p in omega arith
    node_few t (typed.Copy x i e) = let a = expr_few x in let b = expr_few i in let c = expr_few e in omega arith
    node_few t (typed.Filled l is rest) =
        let a = length_few l is in
        let b = items_few is in
        let c = rest_few rest in
        omega arith
    node_few t (typed.Channel typed.Absent) = omega arith
    node_few t (typed.Channel (typed.Present e)) = omega arith
    node_few t (typed.Call f es) = let a = exprs_few es in omega arith
    node_few t (typed.Print w m typed.Absent ps es) = printing_few w t ps (printed_of es) (exprs_nodes defs es) (printed_few es)
    node_few t (typed.Print w m (typed.Present f) ps es) = omega arith
    node_few t _ = omega arith

    exprs_few : (es : typed.Exprs) → terms_nodes defs (terms_of es) ≤ 2 * exprs_nodes defs es
    exprs_few typed.NoExprs = omega arith
    exprs_few (typed.MoreExprs e es) = let a = expr_few e in let b = exprs_few es in omega arith

    rest_few : (e : typed.Optional) → terms_nodes defs (terms_if e) ≤ 2 * optional_nodes defs e
    rest_few typed.Absent = omega arith
    rest_few (typed.Present e) = let a = expr_few e in omega arith

    length_few : (e : typed.Optional) (is : typed.Items) → term_nodes defs (length_term e is) ≤ 2 * optional_nodes defs e + 1
    length_few typed.Absent is = omega arith
    length_few (typed.Present e) is = let a = expr_few e in omega arith

    items_few : (is : typed.Items) → tree.items_nodes defs (items_of is) ≤ 2 * items_nodes defs is
    items_few typed.NoItems = omega arith
    items_few (typed.MoreItems i e is) = let a = expr_few e in let b = items_few is in omega arith

    printed_few : (es : typed.Exprs) → terms_nodes defs (printed_of es) ≤ 2 * exprs_nodes defs es
    printed_few typed.NoExprs = omega arith
    printed_few (typed.MoreExprs (Of t n) es) =
        let a = as_printed_few t (node_of t n) (2 * inner_nodes defs t n) (node_few t n) in
        let b = printed_few es in
        omega arith

    way_few : (p : typed.PlaceNode) → terms_nodes defs (operands_at p) ≤ 2 * way_nodes defs p
    way_few (typed.Local x) = omega arith
    way_few (typed.Global x) = omega arith
    way_few (typed.Field (At t p) n) = let a = way_few p in omega arith
    way_few (typed.Element x i) = let a = expr_few x in let b = expr_few i in omega arith
    way_few (typed.Character (At t p) i) =
        let a = way_few p in
        let b = expr_few i in
        let c = nodes_before (operands_at p) (MoreTerms (term_of i) NoTerms) in
        omega arith
    way_few (typed.Target e) = let a = expr_few e in omega arith

    pattern_few : (part : List ℕ) (p : typed.Pattern) →
        length (aims_in part p) + terms_nodes defs (operands_to p) ≤ 2 * pattern_nodes defs p
    pattern_few part (typed.ToPlace (At t p)) = let a = way_few p in omega arith
    pattern_few part typed.ToNothing = omega arith
    pattern_few part (typed.ToParts ps) = patterns_few part 0 ps

    patterns_few : (part : List ℕ) (from : ℕ) (ps : typed.Patterns) →
        length (aims_among part from ps) + terms_nodes defs (operands_among ps) ≤ 2 * patterns_nodes defs ps
    patterns_few part n typed.NoPatterns = omega arith
    patterns_few part n (typed.MorePatterns p ps) =
        let a = pattern_few (part ++ n ∷ []) p in
        let b = patterns_few part (suc n) ps in
        let c = nodes_before (operands_to p) (operands_among ps) in
        let d = length-append (aims_in (part ++ n ∷ []) p) (aims_among part (suc n) ps) in
        omega arith

  -- ---- statements

  some_few : (e : Option typed.Expr) → tree.optional_nodes defs (optional e) ≤ 2 * some_nodes defs e
  some_few None = omega arith
  some_few (Some e) = let a = expr_few e in omega arith

  -- an expression as a statement, also the load that is none
  eval_few : (e : typed.Expr) → stm_nodes defs (evaluated e) ≤ 2 * expr_nodes defs e
  eval_few (Of t (typed.Assign p (Of u (typed.Load i e)))) = omega arith
  eval_few (Of t (typed.Assign p e)) = let a = node_few t (typed.Assign p e) in omega arith
  eval_few (Of t n) = let a = node_few t n in omega arith

  first_few : (e : Option typed.Expr) (rest : Block) → block_nodes defs (first_of e rest) ≤ 2 * some_nodes defs e + block_nodes defs rest
  first_few None rest = omega arith
  first_few (Some e) rest = let a = eval_few e in omega arith

  tested_few : (c : Option typed.Expr) (next : Option Term) (body rest : Block) →
      block_nodes defs (tested (Looping (optional c) next body) rest)
      ≤ 2 * some_nodes defs c + (tree.optional_nodes defs next + (block_nodes defs body + (1 + block_nodes defs rest)))
  tested_few None next body rest = omega arith
  tested_few (Some c) next body rest = let a = expr_few c in omega arith

  module _ (types : List Ty) where
    declared_few : (e : Option typed.Expr) → term_nodes defs (declared_value types e) ≤ 2 * some_nodes defs e + 1
    declared_few None = omega arith
    declared_few (Some e) = let a = expr_few e in omega arith

    mutual
      stmt_few : (s : typed.Stmt) (rest : Block) → block_nodes defs (before types s rest) ≤ 2 * stmt_nodes defs s + block_nodes defs rest
      stmt_few typed.Empty rest = omega arith
      stmt_few (typed.Block ss) rest = let a = stmts_few ss (Then Over rest) in omega arith
      stmt_few (typed.Declare xs e) rest =
          let a = declared_few e in
          let b = length-map xs (local types) in
          omega arith
      stmt_few (typed.Eval e) rest = let a = eval_few e in omega arith
      stmt_few (typed.If c ss others) rest =
          let a = expr_few c in
          let b = stmts_few ss Done in
          let d = stmts_few others Done in
          omega arith
      stmt_few (typed.While c ss) rest =
          let a = tested_few c None (all_before types ss Done) (Then Over rest) in
          let b = stmts_few ss Done in
          omega arith
      stmt_few (typed.Do ss c) rest = let a = some_few c in let b = stmts_few ss Done in omega arith
      stmt_few (typed.For first c next ss) rest =
          let body = all_before types ss Done in
          let a = first_few first (tested (Looping (optional c) (optional next) body) (Then Over rest)) in
          let b = tested_few c (optional next) body (Then Over rest) in
          let d = some_few next in
          let e = stmts_few ss Done in
          omega arith
      stmt_few (typed.Break n) rest = omega arith
      stmt_few (typed.Continue n) rest = omega arith
      stmt_few (typed.Return None) rest = omega arith
      stmt_few (typed.Return (Some e)) rest = let a = expr_few e in omega arith
      stmt_few _ rest = omega arith

      stmts_few : (ss : typed.Stmts) (rest : Block) →
          block_nodes defs (all_before types ss rest) ≤ 2 * stmts_nodes defs ss + block_nodes defs rest
      stmts_few typed.NoStmts rest = omega arith
      stmts_few (typed.MoreStmts s ss) rest =
          let a = stmt_few s (all_before types ss rest) in
          let b = stmts_few ss rest in
          omega arith

  function_few : (f : typed.Function) → length (function_of defs (routine_of f)).code ≤ 8 * function_nodes defs f
  function_few f =
      let r = routine_of f in
      let a = stmts_few r.variables f.body Done in
      let b = block_small defs [] r.body in
      let c = long_join (block_code defs [] r.body) (Return None ∷ []) in
      omega arith

  functions_few : (fs : List typed.Function) → instructions (map (function_of defs) (map routine_of fs)) ≤ 8 * functions_nodes defs fs
  functions_few [] = omega arith
  functions_few (f ∷ fs) = let a = function_few f in let b = functions_few fs in omega arith

pub eight_a_node : EightANode
eight_a_node = record {
  expressions = λ defs e. let a = whole_small defs (term_of e) in let b = expr_few defs e in omega arith;
  statements = λ defs types around s.
      let a = block_small defs around (before types s Done) in let b = stmt_few defs types s Done in omega arith;
  functions = function_few;
  modules = λ m. let a = functions_few m.adts m.functions in omega arith;
}
