-- The slots of functions fit into their frames: each node leaves 8 of its bytes at least.
use Rattle.std.proofs.Common.{ℕ, zero, suc, ◌+◌, ◌*◌, ◌≤◌, Bool, true, false, List, [], ◌∷◌, max, Option, Some, None, arith, map}
use Rattle.std.specs.Prelude.{if◌then◌else◌}
use Rattle.std.specs.Int.{next_multiple_of}
use Rattle.limbo_types.specs.Types as ty
use Rattle.limbo_types.specs.Types.{Ty}
use Rattle.limbo_layout.specs.Adts.{Def}
use Rattle.limbo_typed.specs.declared.print.Printed.{Printed}
use Rattle.limbo_typed.specs.declared.print.Printed.TheVariants as printed
use Rattle.limbo_typed.specs.declared.print.Piece.{Piece}
use Rattle.limbo_typed.specs.declared.operation.Operation.{Operation}
use Rattle.limbo_typed.specs.declared.operation.Operation.TheVariants as operation
use Rattle.limbo_typed.specs.Typed as typed
use Rattle.limbo_typed.specs.Typed.{Of, At}
use Rattle.limbo_meaning.specs.Evaluation.{may_hold}
use Rattle.limbo_meaning.specs.Trees as tree
use Rattle.limbo_meaning.specs.Trees.{Term, Terms, NoTerms, MoreTerms, Block, Done, Then, Over, Looping, tested}
use Rattle.limbo_meaning.specs.Program.{term_of, node_of, terms_of, terms_if, length_term, items_of, printed_of, operands_at, operands_to}
use Rattle.limbo_meaning.specs.Program.{operands_among, terms_before, as_printed, operating, printing, evaluated}
use Rattle.limbo_meaning.specs.Program.{optional, first_of, local, declared_value, before, all_before, routine_of}
use Rattle.core_frames.specs.Sizes as size
use Rattle.core_frames.specs.Sizes.{node_size, expr_size, inner_size, exprs_size, optional_size, held_size, greatest, rest_held}
use Rattle.core_frames.specs.Sizes.{way_size, pattern_size, patterns_size, some_size, stmt_size, stmts_size, declared_size, types_in}
use Rattle.core_frames.specs.Sizes.{laid_size}
use Rattle.core_frames.specs.Fits.{Slot, Value, NoSlots, count, cells, list_slots, called_slots, own_slots, room_for, bytes, slots_of}
use Rattle.core_frames.specs.Fits.{all_slots, held_slots, alone_slots}
use Rattle.core_frames.specs.Fits.{rest_slots, rest_alone, slots_if, stm_slots, block_slots, slot_bytes, SlotsFit, SlotsFitAligned}

module _ (defs : List Def) where
  -- how many bytes trees take
  abbrev B : Term → ℕ
  B t = bytes defs (slots_of defs t)

  abbrev Bs : Terms → ℕ
  Bs ts = bytes defs (all_slots defs ts)

  abbrev Small : Term → ℕ → Type 0
  Small x n = B x + 8 ≤ n

  abbrev SmallIf : typed.Optional → Type 0
  SmallIf typed.Absent = Unit {0}
  SmallIf (typed.Present e) = Small (term_of e) (expr_size defs e)

  cells_few : (t : Ty) (n : ℕ) → bytes defs (cells t n) ≤ 8 * n
  cells_few t zero = omega arith
  cells_few t (suc n) = let e = cells_few t n in omega arith

  slots_before : (ts us : Terms) → Bs (terms_before ts us) ≤ Bs ts + Bs us
  slots_before NoTerms us = omega arith
  slots_before (MoreTerms t ts) us = let a = slots_before ts us in omega arith

  list_few : (t : Ty) (n : ℕ) → bytes defs (list_slots t n) + 8 ≤ node_size defs t + 8 * n
  list_few t zero = omega arith
  list_few t (suc n) = let e = cells_few t (suc n) in omega arith

  own_few : (t : Ty) (o : Operation) (n : ℕ) → bytes defs (own_slots t (operating o) n) + 8 ≤ node_size defs t + 8 * n
  own_few t operation.List n = list_few t n
  own_few t _ n = omega arith

  -- the slots of a call and of a print, of as many operands
  called_few : (s : Slot) (n : ℕ) → bytes defs (called_slots s n) ≤ room_for defs s + 8
  called_few s zero = omega arith
  called_few s (suc k) = omega arith

  -- a byte that is printed is converted
  as_printed_few : (t : Ty) (x : Term) (n : ℕ) → Small x n → B (as_printed t x) ≤ n
  as_printed_few ty.Byte x n l = omega arith
  as_printed_few _ x n l = omega arith

  printing_few : (w : Printed) (t : Ty) (ps : List Piece) (ts : Terms) (n : ℕ) → Bs ts ≤ n
      → Small (printing w t ps ts) (node_size defs t + (48 + n))
  printing_few printed.Print t ps ts n l = let a = called_few (Value ty.Int) (count ts) in omega arith
  printing_few printed.Sprint t ps ts n l = omega arith
  printing_few printed.Fprint t ps ts n l = omega arith

  -- ---- initialisers

  -- What elements take: the greatest of those that hold nothing leaves 8 bytes, where there is one.
  record ItemsFit (is : typed.Items) : Type 0 where
    held : bytes defs (held_slots defs (items_of is)) ≤ held_size defs is
    alone : bytes defs (alone_slots defs (items_of is)) + 8 ≤ max 8 (greatest defs is)

  held_few : (b : Bool) (x : Term) (n : ℕ) → Small x n
      → bytes defs (if b then slots_of defs x else NoSlots) ≤ (if b then n else 0)
  held_few true x n l = omega arith
  held_few false x n l = omega arith

  alone_few : (b : Bool) (x : Term) (n : ℕ) → Small x n
      → bytes defs (if b then NoSlots else slots_of defs x) + 8 ≤ max 8 (if b then 0 else n)
  alone_few true x n l = omega arith
  alone_few false x n l = omega arith

  length_fits : (l : typed.Optional) (is : typed.Items) → SmallIf l → B (length_term l is) ≤ 8 + optional_size defs l
  length_fits typed.Absent is f = omega arith
  length_fits (typed.Present e) is f = omega arith

  -- the slot of a loop, and the greatest of all elements that hold nothing
  rest_few : (b : Bool) (x : Term) (n g s : ℕ) → Small x n → g + 8 ≤ max 8 s
      → max g (bytes defs (if b then NoSlots else slots_of defs x)) + (8 + bytes defs (if b then slots_of defs x else NoSlots))
      ≤ (if b then n else 0) + max s (if b then 0 else n)
  rest_few true x n g s l e = omega arith
  rest_few false x n g s l e = omega arith

  rest_fits : (r : typed.Optional) (g s : ℕ) → SmallIf r → g + 8 ≤ max 8 s
      → max g (bytes defs (rest_alone defs (terms_if r))) + bytes defs (rest_slots defs (terms_if r))
      ≤ rest_held defs r + max s (size.rest_alone defs r)
  rest_fits typed.Absent g s f e = omega arith
  rest_fits (typed.Present x) g s f e = rest_few (may_hold defs (term_of x)) (term_of x) (expr_size defs x) g s f e

  -- ---- expressions

  mutual
    expr_fits : (e : typed.Expr) → Small (term_of e) (expr_size defs e)
    expr_fits (Of t n) = node_fits t n

    node_fits : (t : Ty) (n : typed.Node) → Small (node_of t n) (inner_size defs t n)
    node_fits t (typed.Number n) = omega arith
    node_fits t (typed.Chars s) = omega arith
    node_fits t typed.Nil = omega arith
    node_fits t (typed.Read (At u p)) = let a = way_fits p in omega arith
    node_fits t (typed.Part e n) = let a = expr_fits e in omega arith
    node_fits t (typed.Apply o es) = let a = exprs_fit es in let b = own_few t o (count (terms_of es)) in omega arith
    node_fits t (typed.Lazy c l r) = let a = expr_fits l in let b = expr_fits r in omega arith
    node_fits t (typed.Assign p e) =
        let a = pattern_fits p in
        let b = expr_fits e in
        let c = slots_before (operands_to p) (MoreTerms (term_of e) NoTerms) in
        omega arith
    node_fits t (typed.Update o (At u p) e) = let a = way_fits p in let b = expr_fits e in omega arith
    node_fits t (typed.Step o g (At u p)) = let a = way_fits p in omega arith
    node_fits t (typed.Copy x i e) = let a = expr_fits x in let b = expr_fits i in let c = expr_fits e in omega arith
    node_fits t (typed.Filled l is rest) =
        let a = length_fits l is (optional_fits l) in
        let b = (items_fit is).held in
        let c = (items_fit is).alone in
        let d = rest_fits rest (bytes defs (alone_slots defs (items_of is))) (greatest defs is) (optional_fits rest) c in
        omega arith
    node_fits t (typed.Channel typed.Absent) = omega arith
    node_fits t (typed.Channel (typed.Present e)) = omega arith
    node_fits t (typed.Call f es) = let a = exprs_fit es in let b = called_few (Value t) (count (terms_of es)) in omega arith
    node_fits t (typed.Print w m typed.Absent ps es) = printing_few w t ps (printed_of es) (exprs_size defs es) (printed_fit es)
    node_fits t (typed.Print w m (typed.Present f) ps es) = omega arith
    node_fits t _ = omega arith

    optional_fits : (e : typed.Optional) → SmallIf e
    optional_fits typed.Absent = tt
    optional_fits (typed.Present e) = expr_fits e

    items_fit : (is : typed.Items) → ItemsFit is
    items_fit typed.NoItems = record { held = omega arith; alone = omega arith }
    items_fit (typed.MoreItems i e is) =
        let a = held_few (may_hold defs (term_of e)) (term_of e) (expr_size defs e) (expr_fits e) in
        let b = alone_few (may_hold defs (term_of e)) (term_of e) (expr_size defs e) (expr_fits e) in
        let c = (items_fit is).held in
        let d = (items_fit is).alone in
        record { held = omega arith; alone = omega arith }

    -- of each expression 8 bytes are left, for the cell of a list
    exprs_fit : (es : typed.Exprs) → Bs (terms_of es) + 8 * count (terms_of es) ≤ exprs_size defs es
    exprs_fit typed.NoExprs = omega arith
    exprs_fit (typed.MoreExprs e es) = let a = expr_fits e in let b = exprs_fit es in omega arith

    printed_fit : (es : typed.Exprs) → Bs (printed_of es) ≤ exprs_size defs es
    printed_fit typed.NoExprs = omega arith
    printed_fit (typed.MoreExprs (Of t n) es) =
        let a = as_printed_few t (node_of t n) (inner_size defs t n) (node_fits t n) in
        let b = printed_fit es in
        omega arith

    way_fits : (p : typed.PlaceNode) → Bs (operands_at p) ≤ way_size defs p
    way_fits (typed.Local x) = omega arith
    way_fits (typed.Global x) = omega arith
    way_fits (typed.Field (At t p) n) = let a = way_fits p in omega arith
    way_fits (typed.Element x i) = let a = expr_fits x in let b = expr_fits i in omega arith
    way_fits (typed.Character (At t p) i) =
        let a = way_fits p in
        let b = expr_fits i in
        let c = slots_before (operands_at p) (MoreTerms (term_of i) NoTerms) in
        omega arith
    way_fits (typed.Target e) = let a = expr_fits e in omega arith

    pattern_fits : (p : typed.Pattern) → Bs (operands_to p) ≤ pattern_size defs p
    pattern_fits (typed.ToPlace (At t p)) = let a = way_fits p in omega arith
    pattern_fits typed.ToNothing = omega arith
    pattern_fits (typed.ToParts ps) = patterns_fit ps

    patterns_fit : (ps : typed.Patterns) → Bs (operands_among ps) ≤ patterns_size defs ps
    patterns_fit typed.NoPatterns = omega arith
    patterns_fit (typed.MorePatterns p ps) =
        let a = pattern_fits p in
        let b = patterns_fit ps in
        let c = slots_before (operands_to p) (operands_among ps) in
        omega arith

  -- ---- statements

  -- A block leaves 8 bytes of so many too.
  abbrev Within : ℕ → Block → Type 0
  Within n b = bytes defs (block_slots defs b) + 8 ≤ n

  some_fits : (e : Option typed.Expr) → bytes defs (slots_if defs (optional e)) + 8 ≤ max 8 (some_size defs e)
  some_fits None = omega arith
  some_fits (Some e) = let a = expr_fits e in omega arith

  -- an expression as a statement, also the load that is none
  eval_fits : (e : typed.Expr) → bytes defs (stm_slots defs (evaluated e)) + 8 ≤ expr_size defs e
  eval_fits (Of t (typed.Assign p (Of u (typed.Load i e)))) = omega arith
  eval_fits (Of t (typed.Assign p e)) = let a = node_fits t (typed.Assign p e) in omega arith
  eval_fits (Of t n) = let a = node_fits t n in omega arith

  tested_fits : (c next : Option typed.Expr) (body rest : Block) (n : ℕ) → 8 ≤ n → some_size defs c ≤ n → some_size defs next ≤ n
      → Within n body → Within n rest → Within n (tested (Looping (optional c) (optional next) body) rest)
  tested_fits None next body rest n k p q r s = let b = some_fits next in omega arith
  tested_fits (Some c) next body rest n k p q r s = let a = some_fits (Some c) in let b = some_fits next in omega arith

  first_fits : (e : Option typed.Expr) (rest : Block) (n : ℕ) → some_size defs e ≤ n → Within n rest → Within n (first_of e rest)
  first_fits None rest n l m = m
  first_fits (Some e) rest n l m = let a = eval_fits e in omega arith

  module _ (types : List Ty) where
    declared_fits : (xs : List ℕ) (e : Option typed.Expr) → B (tree.Node ty.Int (tree.Assign (map (local types) xs))
        (MoreTerms (declared_value types e) NoTerms)) + 8 ≤ declared_size defs types xs e
    declared_fits [] None = omega arith
    declared_fits (x ∷ xs) None = omega arith
    declared_fits xs (Some e) = let a = expr_fits e in omega arith

    mutual
      stmt_fits : (s : typed.Stmt) (rest : Block) (n : ℕ) → 8 ≤ n → stmt_size defs types s ≤ n → Within n rest
          → Within n (before types s rest)
      stmt_fits typed.Empty rest n k l m = omega arith
      stmt_fits (typed.Block ss) rest n k l m = stmts_fit ss (Then Over rest) n k l (omega arith)
      stmt_fits (typed.Declare xs e) rest n k l m = let a = declared_fits xs e in omega arith
      stmt_fits (typed.Eval e) rest n k l m = let a = eval_fits e in omega arith
      stmt_fits (typed.If c ss others) rest n k l m =
          let a = expr_fits c in
          let b = stmts_fit ss Done n k (omega arith) (omega arith) in
          let d = stmts_fit others Done n k (omega arith) (omega arith) in
          omega arith
      stmt_fits (typed.While c ss) rest n k l m =
          tested_fits c None (all_before types ss Done) (Then Over rest) n k (omega arith) (omega arith)
          (stmts_fit ss Done n k (omega arith) (omega arith)) (omega arith)
      stmt_fits (typed.Do ss c) rest n k l m =
          let a = some_fits c in
          let b = stmts_fit ss Done n k (omega arith) (omega arith) in
          omega arith
      stmt_fits (typed.For first c next ss) rest n k l m =
          first_fits first (tested (Looping (optional c) (optional next) (all_before types ss Done)) (Then Over rest)) n (omega arith)
          (tested_fits c next (all_before types ss Done) (Then Over rest) n k (omega arith) (omega arith)
          (stmts_fit ss Done n k (omega arith) (omega arith)) (omega arith))
      stmt_fits (typed.Break i) rest n k l m = omega arith
      stmt_fits (typed.Continue i) rest n k l m = omega arith
      stmt_fits (typed.Return None) rest n k l m = omega arith
      stmt_fits (typed.Return (Some e)) rest n k l m = let a = expr_fits e in omega arith
      stmt_fits _ rest n k l m = omega arith

      stmts_fit : (ss : typed.Stmts) (rest : Block) (n : ℕ) → 8 ≤ n → stmts_size defs types ss ≤ n → Within n rest
          → Within n (all_before types ss rest)
      stmts_fit typed.NoStmts rest n k l m = m
      stmts_fit (typed.MoreStmts s ss) rest n k l m =
          stmt_fits s (all_before types ss rest) n k (omega arith) (stmts_fit ss rest n k (omega arith) m)

  body_fits : (f : typed.Function) →
      slot_bytes defs (routine_of f) + 8 ≤ max 8 (stmts_size defs (types_in f.variables) f.body)
  body_fits f =
      stmts_fit (types_in f.variables) f.body Done (max 8 (stmts_size defs (types_in f.variables) f.body)) (omega arith) (omega arith)
      (omega arith)

up_to_8 : (n : ℕ) → next_multiple_of n 8 ≤ n + 7
up_to_8 n = omega arith

pub slots_fit : SlotsFit
slots_fit defs f = let a = body_fits defs f in omega arith

pub slots_fit_aligned : SlotsFitAligned
slots_fit_aligned defs f l =
    let a = body_fits defs f in let b = up_to_8 (40 + laid_size defs (routine_of f).variables) in omega arith
