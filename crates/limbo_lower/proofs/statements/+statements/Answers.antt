use Rattle.std.proofs.Common.{arith, ◌≡◌, ℕ, ◌+◌, ◌-◌, ◌<◌, suc, [], ◌∷◌, ◌++◌, Option, Some, length, drop, sym, ap, ◌∙◌}
use Rattle.std.proofs.Common.{subst, length-append}
use Rattle.std.proofs.lemmas.List.{at_drop_more}
use Rattle.limbo_typed.specs.declared.stmt.TStmt as code_stmt
use Rattle.limbo_typed.specs.Typed as typed
use Rattle.limbo_typed.specs.View.{view_expr, view_boxed, view_stmt, view_stmts}
use Rattle.limbo_typed.proofs.View.{view_stmt-Block, view_stmt-Declare, view_stmt-Eval, view_stmt-If, view_stmt-While, view_stmt-Do}
use Rattle.limbo_typed.proofs.View.{view_stmt-For, view_stmt-Break, view_stmt-Continue, view_stmt-Return, view_boxed-None, view_boxed-Some}
use Rattle.limbo_meaning.specs.Program.{term_of, optional, all_before, before, evaluated, first_of, return_of}
use Rattle.limbo_meaning.specs.Trees.{Block, Done, Then, Over, Eval, Break, Continue, tested}
use Rattle.core_code.specs.Code.{Back, Jump, Unless}
use Rattle.core_code.specs.Terms.{lower}
use Rattle.core_code.specs.Statements.{whole, whole_if, test, stm_code, block_code, leaves_at, turns_at}
use Rattle.core_frames.specs.Sizes.{expr_size, some_size}
use Rattle.limbo_lower.specs.Loops.{Stands, arounds_at, defs_in, types_in, looping, declaration}
use Rattle.limbo_lower.specs.Written.{written}
use Rattle.limbo_lower.proofs.Looping.{behind_inside, later, longer, nodes_within, size_within, on_ok, on_both}
use Rattle.limbo_lower.proofs.Others.{other_idle}
use Rattle.limbo_lower.proofs.Standing.{begun, then_stands, idle_stands, if_stands, while_stands, do_stands}
use Rattle.limbo_lower.proofs.Written.{length_written}
use Rattle.limbo_lower.proofs.statements.+statements.Goals as goal

pub emit_block-returns : goal.emit_block-returns
emit_block-returns t c =
    let d = defs_in c.args.f in
    let ls = c.args.loops.now in
    let now = c.args.out.now.code.items in
    let n : c.len.result ≡ length now = c.len.ensures ∙ c.args.out.now.code.ok.0 in
    let b = all_before (types_in c.args.f) (view_stmts c.args.body.now) Done in
    let first : Stands d ls c.len.result (written now) c.args.out.now.slots Done now c.args.out.now.slots =
    subst (λ (k : ℕ). Stands d ls k (written now) c.args.out.now.slots Done now c.args.out.now.slots) (sym n)
    (begun d ls now c.args.out.now.slots c.requires.begun) in
    on_ok c.emit_stmts.result
    (λ h. subst (λ (k : ℕ). Stands d ls k (written now) c.args.out.now.slots b c.emit_stmts.new.out.code.items
    c.emit_stmts.new.out.slots) n h)
    (c.emit_stmts.ensures.stands (written now) c.args.out.now.slots Done first)

-- ---- `if`

pub emit_if-emit_block-requires : goal.emit_if-emit_block-requires
emit_if-emit_block-requires t c = (
  omega arith,
  (
    c.requires.second,
    (
      later c.args.around.end (length c.args.out.now.code.items) c.args.around.loops.now (omega
          (arith, c.requires.end, c.args.out.now.code.ok.0)) c.requires.behind,
      c.requires.begun,
    ),
  ),
)

pub emit_if-put_jump-requires : goal.emit_if-put_jump-requires
emit_if-put_jump-requires t c =
    let d = defs_in c.args.f in
    let ts = types_in c.args.f in
    let ls = c.args.around.loops.now in
    let w0 = c.args.out.now.code in
    let w1 = c.emit_block.new.out.code in
    let o = all_before ts (view_stmts c.args.other.now) Done in
    let ho = c.in_ok-emit_block.ensures {u = tt} in
    let l1 = longer w1.items w0.items (block_code d (arounds_at (length w0.items) ls) o) ho.code in
    omega (arith, l1, c.len-mark.ensures, w0.ok.0, w1.ok.0)

pub emit_if-emit_block-requires-2 : goal.emit_if-emit_block-requires-2
emit_if-emit_block-requires-2 t c =
    let d = defs_in c.args.f in
    let ts = types_in c.args.f in
    let ls = c.args.around.loops.now in
    let w0 = c.args.out.now.code in
    let w1 = c.emit_block.new.out.code in
    let o = all_before ts (view_stmts c.args.other.now) Done in
    let ho = c.in_ok-emit_block.ensures {u = tt} in
    let l1 = longer w1.items w0.items (block_code d (arounds_at (length w0.items) ls) o) ho.code in
    let w2 = c.put_jump.new.code in
    let l2 = longer w2.items w1.items (Jump (length w1.items - c.len-mark.result) ∷ []) (c.in_ok-put_jump.ensures {u = tt}) in (
      omega arith,
      (
        c.requires.first,
        (
          later c.args.around.end (length w2.items) ls (omega
              (arith, c.requires.end, w0.ok.0, l1, l2)) c.requires.behind,
          omega (arith, ho.slots, c.requires.begun),
        ),
      ),
    )

pub emit_if-overflow_sub-passes : goal.emit_if-overflow_sub-passes
emit_if-overflow_sub-passes t c =
    let d = defs_in c.args.f in
    let ts = types_in c.args.f in
    let ls = c.args.around.loops.now in
    let w0 = c.args.out.now.code in
    let w1 = c.emit_block.new.out.code in
    let o = all_before ts (view_stmts c.args.other.now) Done in
    let ho = c.in_ok-emit_block.ensures {u = tt} in
    let l1 = longer w1.items w0.items (block_code d (arounds_at (length w0.items) ls) o) ho.code in
    let w2 = c.put_jump.new.code in
    let l2 = longer w2.items w1.items (Jump (length w1.items - c.len-mark.result) ∷ []) (c.in_ok-put_jump.ensures {u = tt}) in
    let w3 = c.emit_block-2.new.out.code in
    let f = all_before ts (view_stmts c.args.then.now) Done in
    let hf = c.in_ok-emit_block-2.ensures {u = tt} in
    let l3 = longer w3.items w2.items (block_code d (arounds_at (length w2.items) ls) f) hf.code in
    omega (arith, l3, c.len-mark-2.ensures, c.len.ensures, w2.ok.0, w3.ok.0)

pub emit_if-returns-clause-longer : goal.emit_if-returns-clause-longer
emit_if-returns-clause-longer t c =
    let d = defs_in c.args.f in
    let ts = types_in c.args.f in
    let ls = c.args.around.loops.now in
    let w0 = c.args.out.now.code in
    let w1 = c.emit_block.new.out.code in
    let o = all_before ts (view_stmts c.args.other.now) Done in
    let ho = c.in_ok-emit_block.ensures {u = tt} in
    let l1 = longer w1.items w0.items (block_code d (arounds_at (length w0.items) ls) o) ho.code in
    let w2 = c.put_jump.new.code in
    let l2 = longer w2.items w1.items (Jump (length w1.items - c.len-mark.result) ∷ []) (c.in_ok-put_jump.ensures {u = tt}) in
    let w3 = c.emit_block-2.new.out.code in
    let f = all_before ts (view_stmts c.args.then.now) Done in
    let hf = c.in_ok-emit_block-2.ensures {u = tt} in
    let l3 = longer w3.items w2.items (block_code d (arounds_at (length w2.items) ls) f) hf.code in
    let x = term_of (view_expr c.args.condition.now) in
    let w4 = c.emit_choice.new.out.code.items in
    let p = (c.len.result - c.len-mark-2.result) + 1 in
    on_ok c.emit_choice.result
    (λ e. omega (
      arith,
      l1,
      l2,
      l3,
      length_written w4,
      length_written w3.items,
      ap length e,
      length-append (whole d x)
          (Unless (lower d 0 x).value p ∷ written w3.items),
    ))
    c.emit_choice.ensures.code

pub emit_if-returns-clause-stands : goal.emit_if-returns-clause-stands
emit_if-returns-clause-stands t c = λ back least b h.
    let d = defs_in c.args.f in
    let ts = types_in c.args.f in
    let ls = c.args.around.loops.now in
    let w0 = c.args.out.now.code in
    let w1 = c.emit_block.new.out.code in
    let o = all_before ts (view_stmts c.args.other.now) Done in
    let ho = c.in_ok-emit_block.ensures {u = tt} in
    let l1 = longer w1.items w0.items (block_code d (arounds_at (length w0.items) ls) o) ho.code in
    let w2 = c.put_jump.new.code in
    let l2 = longer w2.items w1.items (Jump (length w1.items - c.len-mark.result) ∷ []) (c.in_ok-put_jump.ensures {u = tt}) in
    let w3 = c.emit_block-2.new.out.code in
    let f = all_before ts (view_stmts c.args.then.now) Done in
    let hf = c.in_ok-emit_block-2.ensures {u = tt} in
    let l3 = longer w3.items w2.items (block_code d (arounds_at (length w2.items) ls) f) hf.code in
    let x = term_of (view_expr c.args.condition.now) in
    let w4 = c.emit_choice.new.out.code.items in
    let p = (c.len.result - c.len-mark-2.result) + 1 in
    let mark : c.len-mark.result ≡ length w0.items = c.len-mark.ensures ∙ w0.ok.0 in
    let q : p ≡ (length w3.items - length w2.items) + 1 = omega (arith, c.len.ensures, c.len-mark-2.ensures, w2.ok.0, w3.ok.0) in
    let jump = c.in_ok-put_jump.ensures {u = tt} ∙ ap (λ k. Jump (length w1.items - k) ∷ written w1.items) mark in
    on_both c.emit_choice.result
    (λ e m. if_stands d ls c.args.around.end back least b o f x w0.items w1.items w2.items w3.items w4 c.args.out.now.slots
    c.emit_block.new.out.slots c.emit_block-2.new.out.slots c.emit_choice.new.out.slots p c.requires.behind h ho jump hf q e m)
    c.emit_choice.ensures.code c.emit_choice.ensures.slots

-- ---- statements

pub emit_stmt-emit_stmts-requires : goal.emit_stmt-emit_stmts-requires
emit_stmt-emit_stmts-requires t c = grind (arith, view_stmt-Block)

pub emit_stmt-emit_declared-requires : goal.emit_stmt-emit_declared-requires
emit_stmt-emit_declared-requires t c = grind (arith, view_stmt-Declare)

pub emit_stmt-emit_evaluated-requires : goal.emit_stmt-emit_evaluated-requires
emit_stmt-emit_evaluated-requires t c = grind (arith, view_stmt-Eval)

pub emit_stmt-emit_if-requires : goal.emit_stmt-emit_if-requires
emit_stmt-emit_if-requires t c = grind (arith, view_stmt-If)

pub emit_stmt-emit_while-requires : goal.emit_stmt-emit_while-requires
emit_stmt-emit_while-requires t c = grind (arith, view_stmt-While, view_boxed-None)

pub emit_stmt-emit_do-requires : goal.emit_stmt-emit_do-requires
emit_stmt-emit_do-requires t c = grind (arith, view_stmt-Do)

pub emit_stmt-emit_for-requires : goal.emit_stmt-emit_for-requires
emit_stmt-emit_for-requires t c = grind (arith, view_stmt-For)

pub emit_stmt-emit_return-requires : goal.emit_stmt-emit_return-requires
emit_stmt-emit_return-requires t c = grind (arith, view_stmt-Return)

pub emit_stmt-returns-in-Block-clause-stands : goal.emit_stmt-returns-in-Block-clause-stands
emit_stmt-returns-in-Block-clause-stands t c = λ back least b h.
    let d = defs_in c.args.f in
    let ts = types_in c.args.f in
    let ls = c.args.around.loops.now in
    let end = c.args.around.end in
    let is : view_stmt c.args.s.now ≡ typed.Block (view_stmts c.deref.result.now) =
    ap view_stmt c.in-Block.is ∙ view_stmt-Block c.in-Block.body ∙ ap (λ xs. typed.Block (view_stmts xs)) (sym c.deref.ensures.value) in
    on_ok c.emit_stmts.result
    (λ q. subst (λ (x : typed.Stmt). Stands d ls end back least (before ts x b) c.emit_stmts.new.out.code.items c.emit_stmts.new.out.slots)
    (sym is) q)
    (c.emit_stmts.ensures.stands back least (Then Over b) (idle_stands d ls end back least b c.args.out.now.code.items c.args.out.now.slots
    Over tt h))

pub emit_stmt-returns-in-If-clause-stands : goal.emit_stmt-returns-in-If-clause-stands
emit_stmt-returns-in-If-clause-stands t c = λ back least b h.
    let d = defs_in c.args.f in
    let ts = types_in c.args.f in
    let ls = c.args.around.loops.now in
    let end = c.args.around.end in
    let is : view_stmt c.args.s.now ≡ typed.If (view_expr c.deref-in-If.result.now) (view_stmts c.deref-in-If-2.result.now)
    (view_stmts c.deref-in-If-3.result.now) =
    ap view_stmt c.in-If.is ∙ view_stmt-If c.in-If.condition c.in-If.then c.in-If.other
    ∙ ap (λ x. typed.If (view_expr x) (view_stmts c.in-If.then.items) (view_stmts c.in-If.other.items)) (sym c.deref-in-If.ensures)
    ∙ ap (λ xs. typed.If (view_expr c.deref-in-If.result.now) (view_stmts xs) (view_stmts c.in-If.other.items))
    (sym c.deref-in-If-2.ensures.value)
    ∙ ap (λ xs. typed.If (view_expr c.deref-in-If.result.now) (view_stmts c.deref-in-If-2.result.now) (view_stmts xs))
    (sym c.deref-in-If-3.ensures.value) in
    on_ok c.emit_if.result
    (λ q. subst (λ (x : typed.Stmt). Stands d ls end back least (before ts x b) c.emit_if.new.out.code.items c.emit_if.new.out.slots)
    (sym is) q)
    (c.emit_if.ensures.stands back least b h)

pub emit_stmt-returns-in-While-clause-stands : goal.emit_stmt-returns-in-While-clause-stands
emit_stmt-returns-in-While-clause-stands t c = λ back least b h.
    let d = defs_in c.args.f in
    let ts = types_in c.args.f in
    let ls = c.args.around.loops.now in
    let end = c.args.around.end in
    let is : view_stmt c.args.s.now ≡ typed.While (view_boxed c.in-While.condition) (view_stmts c.deref-in-While.result.now) =
    ap view_stmt c.in-While.is ∙ view_stmt-While c.in-While.condition c.in-While.body
    ∙ ap (λ xs. typed.While (view_boxed c.in-While.condition) (view_stmts xs)) (sym c.deref-in-While.ensures.value) in
    let new = c.emit_while.new.out in
    on_ok c.emit_while.result
    (λ q. subst (λ (x : typed.Stmt). Stands d ls end back least (before ts x b) new.code.items new.slots) (sym is)
    (subst (λ (n : Option typed.Expr). Stands d ls end back least
    (tested (looping ts (view_boxed c.in-While.condition) n (view_stmts c.deref-in-While.result.now)) (Then Over b)) new.code.items
    new.slots)
    view_boxed-None q))
    (c.emit_while.ensures.stands back least b h)

pub emit_stmt-returns-in-Do-clause-stands : goal.emit_stmt-returns-in-Do-clause-stands
emit_stmt-returns-in-Do-clause-stands t c = λ back least b h.
    let d = defs_in c.args.f in
    let ts = types_in c.args.f in
    let ls = c.args.around.loops.now in
    let end = c.args.around.end in
    let is : view_stmt c.args.s.now ≡ typed.Do (view_stmts c.deref-in-Do.result.now) (view_boxed c.in-Do.condition) =
    ap view_stmt c.in-Do.is ∙ view_stmt-Do c.in-Do.body c.in-Do.condition
    ∙ ap (λ xs. typed.Do (view_stmts xs) (view_boxed c.in-Do.condition)) (sym c.deref-in-Do.ensures.value) in
    on_ok c.emit_do.result
    (λ q. subst (λ (x : typed.Stmt). Stands d ls end back least (before ts x b) c.emit_do.new.out.code.items c.emit_do.new.out.slots)
    (sym is) q)
    (c.emit_do.ensures.stands back least b h)

pub emit_stmt-returns-in-For-clause-stands : goal.emit_stmt-returns-in-For-clause-stands
emit_stmt-returns-in-For-clause-stands t c = λ back least b h.
    let d = defs_in c.args.f in
    let ts = types_in c.args.f in
    let ls = c.args.around.loops.now in
    let end = c.args.around.end in
    let first = view_boxed c.in-For.first in
    let cond = view_boxed c.in-For.condition in
    let next = view_boxed c.in-For.next in
    let is : view_stmt c.args.s.now ≡ typed.For first cond next (view_stmts c.deref-in-For.result.now) =
    ap view_stmt c.in-For.is ∙ view_stmt-For c.in-For.first c.in-For.condition c.in-For.next c.in-For.body
    ∙ ap (λ xs. typed.For first cond next (view_stmts xs)) (sym c.deref-in-For.ensures.value) in
    on_ok c.emit_for.result
    (λ q. subst (λ (x : typed.Stmt). Stands d ls end back least (before ts x b) c.emit_for.new.out.code.items c.emit_for.new.out.slots)
    (sym is) q)
    (c.emit_for.ensures.stands back least b h)

pub emit_stmt-returns-in_default-clause-stands : goal.emit_stmt-returns-in_default-clause-stands
emit_stmt-returns-in_default-clause-stands t c = λ back least b h.
    let d = defs_in c.args.f in
    let ls = c.args.around.loops.now in
    let now = c.args.out.now.code.items in
    let i = other_idle (types_in c.args.f) c.args.s.now b c.in_default.not-Block c.in_default.not-Declare c.in_default.not-Eval
    c.in_default.not-If c.in_default.not-While c.in_default.not-Do c.in_default.not-For c.in_default.not-Break c.in_default.not-Continue
    c.in_default.not-Return in
    subst (λ (x : Block). Stands d ls c.args.around.end back least x now c.args.out.now.slots) (sym i.is)
    (idle_stands d ls c.args.around.end back least b now c.args.out.now.slots i.stm i.idle h)

-- ---- statements in a row

pub emit_stmts-emit_stmt-requires : goal.emit_stmts-emit_stmt-requires
emit_stmts-emit_stmt-requires t c =
    let ss = c.args.body.now in
    let s = c.index-body-i.result in
    let lt : c.loop-i.i - 1 < length ss = omega (arith, c.loop-i.invariant.within, c.loop-i-test.true) in (
      omega (arith, nodes_within ss (c.loop-i.i - 1) s lt c.index-body-i.is),
      (
        omega (arith, size_within (defs_in c.args.f) (types_in c.args.f) ss (c.loop-i.i - 1) s lt c.index-body-i.is, c.requires.room),
        (
          c.requires.behind,
          (
            omega (arith, c.requires.end, c.loop-i.invariant.longer, c.args.out.now.code.ok.0, c.loop-i.out.code.ok.0),
            c.loop-i.invariant.begun,
          ),
        ),
      ),
    )

pub emit_stmts-loop-i-preserved : goal.emit_stmts-loop-i-preserved
emit_stmts-loop-i-preserved t c =
    let ss = c.args.body.now in
    let d = defs_in c.args.f in
    let ls = c.args.around.loops.now in
    let ts = types_in c.args.f in
    let i = c.loop-i.i - 1 in
    let s = c.index-body-i.result in
    let lt : i < length ss = omega (arith, c.loop-i.invariant.within, c.loop-i-test.true) in
    let next : i + 1 ≡ c.loop-i.i = omega (arith, c.loop-i-test.true) in
    let at : view_stmts (drop i ss) ≡ typed.MoreStmts (view_stmt s) (view_stmts (drop c.loop-i.i ss)) =
    at_drop_more view_stmts ss i s lt
    ∙ ap (λ (x : code_stmt.TStmt). typed.MoreStmts (view_stmt x) (view_stmts (drop (i + 1) ss))) (sym c.index-body-i.is)
    ∙ ap (λ (n : ℕ). typed.MoreStmts (view_stmt s) (view_stmts (drop n ss))) next in
    let e = c.in_ok-emit_stmt.ensures {u = tt} in
    record {
      done = λ back least b h.
          subst (λ (x : typed.Stmts). Stands d ls c.args.around.end back least (all_before ts x b) c.emit_stmt.new.out.code.items
          c.emit_stmt.new.out.slots) (sym at)
          (e.stands back least (all_before ts (view_stmts (drop c.loop-i.i ss)) b) (c.loop-i.invariant.done back least b h));
      longer = omega (arith, c.loop-i.invariant.longer, e.longer);
      begun = e.begun;
      within = omega (arith, lt);
    }

pub emit_stmts-returns-clause-stands : goal.emit_stmts-returns-clause-stands
emit_stmts-returns-clause-stands t c = λ back least b h.
    let ss = c.args.body.now in
    let z : c.loop-i.i ≡ 0 = omega (arith, c.loop-i-test.false) in
    subst (λ (n : ℕ). Stands (defs_in c.args.f) c.args.around.loops.now c.args.around.end back least
    (all_before (types_in c.args.f) (view_stmts (drop n ss)) b) c.loop-i.out.code.items c.loop-i.out.slots) z
    (c.loop-i.invariant.done back least b h)

pub emit_stmt-returns-in-Declare-clause-longer : goal.emit_stmt-returns-in-Declare-clause-longer
emit_stmt-returns-in-Declare-clause-longer t c =
    let d = defs_in c.args.f in
    let x = declaration (types_in c.args.f) c.deref-in-Declare.result.now (view_boxed c.in-Declare.value) in
    let new = c.emit_declared.new.out.code.items in
    on_ok c.emit_declared.result (λ e. omega (arith, longer new c.args.out.now.code.items (whole d x) e)) c.emit_declared.ensures.code

pub emit_stmt-returns-in-Declare-clause-stands : goal.emit_stmt-returns-in-Declare-clause-stands
emit_stmt-returns-in-Declare-clause-stands t c = λ back least b h.
    let d = defs_in c.args.f in
    let ts = types_in c.args.f in
    let ls = c.args.around.loops.now in
    let end = c.args.around.end in
    let value = view_boxed c.in-Declare.value in
    let new = c.emit_declared.new.out in
    let now = c.args.out.now in
    let x = declaration ts c.deref-in-Declare.result.now value in
    let is : view_stmt c.args.s.now ≡ typed.Declare c.deref-in-Declare.result.now value =
    ap view_stmt c.in-Declare.is ∙ view_stmt-Declare c.in-Declare.variables c.in-Declare.value
    ∙ ap (λ xs. typed.Declare xs value) (sym c.deref-in-Declare.ensures.value) in
    on_both c.emit_declared.result
    (λ e m. subst (λ (y : typed.Stmt). Stands d ls end back least (before ts y b) new.code.items new.slots) (sym is)
    (then_stands d ls end back least b now.code.items new.code.items now.slots new.slots (Eval x) h e m))
    c.emit_declared.ensures.code c.emit_declared.ensures.slots

pub emit_stmt-returns-in-Eval-clause-longer : goal.emit_stmt-returns-in-Eval-clause-longer
emit_stmt-returns-in-Eval-clause-longer t c =
    let d = defs_in c.args.f in
    let x = evaluated (view_expr c.deref-in-Eval.result.now) in
    let new = c.emit_evaluated.new.out.code.items in
    on_ok c.emit_evaluated.result (λ e. omega (arith, longer new c.args.out.now.code.items (stm_code d [] 0 x) (e [] 0)))
    c.emit_evaluated.ensures.code

pub emit_stmt-returns-in-Eval-clause-stands : goal.emit_stmt-returns-in-Eval-clause-stands
emit_stmt-returns-in-Eval-clause-stands t c = λ back least b h.
    let d = defs_in c.args.f in
    let ts = types_in c.args.f in
    let ls = c.args.around.loops.now in
    let end = c.args.around.end in
    let new = c.emit_evaluated.new.out in
    let now = c.args.out.now in
    let x = view_expr c.deref-in-Eval.result.now in
    let is : view_stmt c.args.s.now ≡ typed.Eval x =
    ap view_stmt c.in-Eval.is ∙ view_stmt-Eval c.in-Eval.e ∙ ap (λ y. typed.Eval (view_expr y)) (sym c.deref-in-Eval.ensures) in
    on_both c.emit_evaluated.result
    (λ e m. subst (λ (y : typed.Stmt). Stands d ls end back least (before ts y b) new.code.items new.slots) (sym is)
    (then_stands d ls end back least b now.code.items new.code.items now.slots new.slots (evaluated x) h
    (e (arounds_at end ls) (length now.code.items - end)) m))
    c.emit_evaluated.ensures.code c.emit_evaluated.ensures.slots

pub emit_stmt-returns-in-Break-clause-longer : goal.emit_stmt-returns-in-Break-clause-longer
emit_stmt-returns-in-Break-clause-longer t c =
    let new = c.put_jump.new.code.items in
    let now = c.args.out.now.code.items in
    on_ok c.put_jump.result (λ e. omega (arith, longer new now (Jump (length now - c.end_of.result) ∷ []) e)) c.put_jump.ensures

pub emit_stmt-returns-in-Break-clause-stands : goal.emit_stmt-returns-in-Break-clause-stands
emit_stmt-returns-in-Break-clause-stands t c = λ back least b h.
    let d = defs_in c.args.f in
    let ts = types_in c.args.f in
    let ls = c.args.around.loops.now in
    let end = c.args.around.end in
    let new = c.put_jump.new.code.items in
    let now = c.args.out.now in
    let n = c.in-Break.number in
    let is : view_stmt c.args.s.now ≡ typed.Break n = ap view_stmt c.in-Break.is ∙ view_stmt-Break n in
    let to : length now.code.items - c.end_of.result ≡ (length now.code.items - end) + leaves_at n (arounds_at end ls) =
    omega (arith, c.end_of.ensures, c.requires.end, now.code.ok.0) in
    on_ok c.put_jump.result
    (λ e. subst (λ (y : typed.Stmt). Stands d ls end back least (before ts y b) new now.slots) (sym is)
    (then_stands d ls end back least b now.code.items new now.slots now.slots (Break n) h
    (e ∙ ap (λ k. Jump k ∷ written now.code.items) to) (omega arith)))
    c.put_jump.ensures

pub emit_stmt-returns-in-Continue-clause-longer : goal.emit_stmt-returns-in-Continue-clause-longer
emit_stmt-returns-in-Continue-clause-longer t c =
    let new = c.put_jump-in-Continue.new.code.items in
    let now = c.args.out.now.code.items in
    on_ok c.put_jump-in-Continue.result (λ e. omega (arith, longer new now (Jump (length now - c.turn_of.result) ∷ []) e))
    c.put_jump-in-Continue.ensures

pub emit_stmt-returns-in-Continue-clause-stands : goal.emit_stmt-returns-in-Continue-clause-stands
emit_stmt-returns-in-Continue-clause-stands t c = λ back least b h.
    let d = defs_in c.args.f in
    let ts = types_in c.args.f in
    let ls = c.args.around.loops.now in
    let end = c.args.around.end in
    let new = c.put_jump-in-Continue.new.code.items in
    let now = c.args.out.now in
    let n = c.in-Continue.number in
    let is : view_stmt c.args.s.now ≡ typed.Continue n = ap view_stmt c.in-Continue.is ∙ view_stmt-Continue n in
    let to : length now.code.items - c.turn_of.result ≡ (length now.code.items - end) + turns_at n (arounds_at end ls) =
    omega (arith, c.turn_of.ensures, c.requires.end, now.code.ok.0) in
    on_ok c.put_jump-in-Continue.result
    (λ e. subst (λ (y : typed.Stmt). Stands d ls end back least (before ts y b) new now.slots) (sym is)
    (then_stands d ls end back least b now.code.items new now.slots now.slots (Continue n) h
    (e ∙ ap (λ k. Jump k ∷ written now.code.items) to) (omega arith)))
    c.put_jump-in-Continue.ensures

pub emit_stmt-returns-in-Return-clause-longer : goal.emit_stmt-returns-in-Return-clause-longer
emit_stmt-returns-in-Return-clause-longer t c =
    let d = defs_in c.args.f in
    let x = return_of (view_boxed c.in-Return.value) in
    let new = c.emit_return.new.out.code.items in
    on_ok c.emit_return.result (λ e. omega (arith, longer new c.args.out.now.code.items (stm_code d [] 0 x) (e [] 0)))
    c.emit_return.ensures.code

pub emit_stmt-returns-in-Return-clause-stands : goal.emit_stmt-returns-in-Return-clause-stands
emit_stmt-returns-in-Return-clause-stands t c = λ back least b h.
    let d = defs_in c.args.f in
    let ts = types_in c.args.f in
    let ls = c.args.around.loops.now in
    let end = c.args.around.end in
    let new = c.emit_return.new.out in
    let now = c.args.out.now in
    let x = view_boxed c.in-Return.value in
    let is : view_stmt c.args.s.now ≡ typed.Return x = ap view_stmt c.in-Return.is ∙ view_stmt-Return c.in-Return.value in
    on_both c.emit_return.result
    (λ e m. subst (λ (y : typed.Stmt). Stands d ls end back least (before ts y b) new.code.items new.slots) (sym is)
    (then_stands d ls end back least b now.code.items new.code.items now.slots new.slots (return_of x) h
    (e (arounds_at end ls) (length now.code.items - end)) m))
    c.emit_return.ensures.code c.emit_return.ensures.slots

-- ---- loops

pub emit_while-emit_block-requires : goal.emit_while-emit_block-requires
emit_while-emit_block-requires t c =
    let d = defs_in c.args.f in
    let ts = types_in c.args.f in
    let ls = c.args.around.loops.now in
    let end = c.args.around.end in
    let w0 = c.args.out.now.code in
    let w1 = c.emit_next.new.out.code in
    let first = whole_if d (optional (view_boxed c.args.next.now)) in
    let e1 : written w1.items ≡ first ++ Back 0 ∷ written w0.items =
    (c.in_ok-emit_next.ensures {u = tt}).code ∙ ap (λ xs. first ++ xs) (c.in_ok-put.ensures {u = tt}) in
    let l1 : length w1.items ≡ length first + suc (length w0.items) =
    omega (arith, length_written w1.items, length_written w0.items, ap length e1, length-append first (Back 0 ∷ written w0.items)) in
    let all : c.deref.result.now ≡ record { turn = length w1.items; end = length w0.items } ∷ ls =
    c.deref.ensures.value ∙ c.in_ok-all.ensures {u = tt}
    ∙ ap (λ (k : ℕ). record { turn = k; end = c.len-end.result } ∷ ls) (c.len.ensures ∙ w1.ok.0)
    ∙ ap (λ (k : ℕ). record { turn = length w1.items; end = k } ∷ ls) (c.len-end.ensures ∙ w0.ok.0) in
    let m1 = (c.in_ok-emit_next.ensures {u = tt}).slots in (
      omega arith,
      (
        c.requires.inner,
        (
          behind_inside end (length w0.items) (length w1.items) ls c.deref.result.now all (omega
              (arith, c.requires.end, w0.ok.0)) (omega (arith, l1)) c.requires.behind,
          omega (arith, m1, c.requires.begun),
        ),
      ),
    )

pub emit_do-emit_block-requires : goal.emit_do-emit_block-requires
emit_do-emit_block-requires t c =
    let d = defs_in c.args.f in
    let ts = types_in c.args.f in
    let ls = c.args.around.loops.now in
    let end = c.args.around.end in
    let w0 = c.args.out.now.code in
    let w1 = c.emit_test.new.out.code in
    let first = test d (optional (view_boxed c.args.condition.now)) 1 in
    let e1 : written w1.items ≡ first ++ Back 0 ∷ written w0.items =
    (c.in_ok-emit_test.ensures {u = tt}).code ∙ ap (λ xs. first ++ xs) (c.in_ok-put.ensures {u = tt}) in
    let l1 : length w1.items ≡ length first + suc (length w0.items) =
    omega (arith, length_written w1.items, length_written w0.items, ap length e1, length-append first (Back 0 ∷ written w0.items)) in
    let all : c.deref.result.now ≡ record { turn = length w1.items; end = length w0.items } ∷ ls =
    c.deref.ensures.value ∙ c.in_ok-all.ensures {u = tt}
    ∙ ap (λ (k : ℕ). record { turn = k; end = c.len-end.result } ∷ ls) (c.len.ensures ∙ w1.ok.0)
    ∙ ap (λ (k : ℕ). record { turn = length w1.items; end = k } ∷ ls) (c.len-end.ensures ∙ w0.ok.0) in
    let m1 = (c.in_ok-emit_test.ensures {u = tt}).slots in (
      omega arith,
      (
        c.requires.inner,
        (
          behind_inside end (length w0.items) (length w1.items) ls c.deref.result.now all (omega
              (arith, c.requires.end, w0.ok.0)) (omega (arith, l1)) c.requires.behind,
          omega (arith, m1, c.requires.begun),
        ),
      ),
    )

pub emit_while-overflow_sub-passes : goal.emit_while-overflow_sub-passes
emit_while-overflow_sub-passes t c =
    let d = defs_in c.args.f in
    let ts = types_in c.args.f in
    let ls = c.args.around.loops.now in
    let end = c.args.around.end in
    let w0 = c.args.out.now.code in
    let w1 = c.emit_next.new.out.code in
    let first = whole_if d (optional (view_boxed c.args.next.now)) in
    let e1 : written w1.items ≡ first ++ Back 0 ∷ written w0.items =
    (c.in_ok-emit_next.ensures {u = tt}).code ∙ ap (λ xs. first ++ xs) (c.in_ok-put.ensures {u = tt}) in
    let l1 : length w1.items ≡ length first + suc (length w0.items) =
    omega (arith, length_written w1.items, length_written w0.items, ap length e1, length-append first (Back 0 ∷ written w0.items)) in
    let all : c.deref.result.now ≡ record { turn = length w1.items; end = length w0.items } ∷ ls =
    c.deref.ensures.value ∙ c.in_ok-all.ensures {u = tt}
    ∙ ap (λ (k : ℕ). record { turn = k; end = c.len-end.result } ∷ ls) (c.len.ensures ∙ w1.ok.0)
    ∙ ap (λ (k : ℕ). record { turn = length w1.items; end = k } ∷ ls) (c.len-end.ensures ∙ w0.ok.0) in
    let m1 = (c.in_ok-emit_next.ensures {u = tt}).slots in
    let o = all_before ts (view_stmts c.args.body.now) Done in
    let w2 = c.emit_block.new.out.code in
    let ho = c.in_ok-emit_block.ensures {u = tt} in
    let l2 = longer w2.items w1.items (block_code d (arounds_at (length w1.items) c.deref.result.now) o) ho.code in
    omega (arith, l1, l2, c.len-end.ensures, c.len-2.ensures, w0.ok.0, w2.ok.0)

pub emit_while-put_back-requires : goal.emit_while-put_back-requires
emit_while-put_back-requires t c =
    let d = defs_in c.args.f in
    let ts = types_in c.args.f in
    let ls = c.args.around.loops.now in
    let end = c.args.around.end in
    let w0 = c.args.out.now.code in
    let w1 = c.emit_next.new.out.code in
    let first = whole_if d (optional (view_boxed c.args.next.now)) in
    let e1 : written w1.items ≡ first ++ Back 0 ∷ written w0.items =
    (c.in_ok-emit_next.ensures {u = tt}).code ∙ ap (λ xs. first ++ xs) (c.in_ok-put.ensures {u = tt}) in
    let l1 : length w1.items ≡ length first + suc (length w0.items) =
    omega (arith, length_written w1.items, length_written w0.items, ap length e1, length-append first (Back 0 ∷ written w0.items)) in
    let all : c.deref.result.now ≡ record { turn = length w1.items; end = length w0.items } ∷ ls =
    c.deref.ensures.value ∙ c.in_ok-all.ensures {u = tt}
    ∙ ap (λ (k : ℕ). record { turn = k; end = c.len-end.result } ∷ ls) (c.len.ensures ∙ w1.ok.0)
    ∙ ap (λ (k : ℕ). record { turn = length w1.items; end = k } ∷ ls) (c.len-end.ensures ∙ w0.ok.0) in
    let m1 = (c.in_ok-emit_next.ensures {u = tt}).slots in
    let o = all_before ts (view_stmts c.args.body.now) Done in
    let w2 = c.emit_block.new.out.code in
    let ho = c.in_ok-emit_block.ensures {u = tt} in
    let l2 = longer w2.items w1.items (block_code d (arounds_at (length w1.items) c.deref.result.now) o) ho.code in
    let w3 = c.emit_test.new.out.code in
    let cond = test d (optional (view_boxed c.args.condition.now)) (c.len-2.result - c.len-end.result) in
    let l3 = longer w3.items w2.items cond (c.in_ok-emit_test.ensures {u = tt}).code in
    omega (arith, l1, l2, l3, c.len-end.ensures, w0.ok.0, w3.ok.0)

pub emit_while-returns-clause-longer : goal.emit_while-returns-clause-longer
emit_while-returns-clause-longer t c =
    let d = defs_in c.args.f in
    let ts = types_in c.args.f in
    let ls = c.args.around.loops.now in
    let end = c.args.around.end in
    let w0 = c.args.out.now.code in
    let w1 = c.emit_next.new.out.code in
    let first = whole_if d (optional (view_boxed c.args.next.now)) in
    let e1 : written w1.items ≡ first ++ Back 0 ∷ written w0.items =
    (c.in_ok-emit_next.ensures {u = tt}).code ∙ ap (λ xs. first ++ xs) (c.in_ok-put.ensures {u = tt}) in
    let l1 : length w1.items ≡ length first + suc (length w0.items) =
    omega (arith, length_written w1.items, length_written w0.items, ap length e1, length-append first (Back 0 ∷ written w0.items)) in
    let all : c.deref.result.now ≡ record { turn = length w1.items; end = length w0.items } ∷ ls =
    c.deref.ensures.value ∙ c.in_ok-all.ensures {u = tt}
    ∙ ap (λ (k : ℕ). record { turn = k; end = c.len-end.result } ∷ ls) (c.len.ensures ∙ w1.ok.0)
    ∙ ap (λ (k : ℕ). record { turn = length w1.items; end = k } ∷ ls) (c.len-end.ensures ∙ w0.ok.0) in
    let m1 = (c.in_ok-emit_next.ensures {u = tt}).slots in
    let o = all_before ts (view_stmts c.args.body.now) Done in
    let w2 = c.emit_block.new.out.code in
    let ho = c.in_ok-emit_block.ensures {u = tt} in
    let l2 = longer w2.items w1.items (block_code d (arounds_at (length w1.items) c.deref.result.now) o) ho.code in
    let w3 = c.emit_test.new.out.code in
    let cond = test d (optional (view_boxed c.args.condition.now)) (c.len-2.result - c.len-end.result) in
    let l3 = longer w3.items w2.items cond (c.in_ok-emit_test.ensures {u = tt}).code in
    omega (arith, l1, l2, l3, c.put_back.ensures.longer)

pub emit_while-returns-clause-stands : goal.emit_while-returns-clause-stands
emit_while-returns-clause-stands t c = λ back least b h.
    let d = defs_in c.args.f in
    let ts = types_in c.args.f in
    let ls = c.args.around.loops.now in
    let end = c.args.around.end in
    let w0 = c.args.out.now.code in
    let w1 = c.emit_next.new.out.code in
    let first = whole_if d (optional (view_boxed c.args.next.now)) in
    let e1 : written w1.items ≡ first ++ Back 0 ∷ written w0.items =
    (c.in_ok-emit_next.ensures {u = tt}).code ∙ ap (λ xs. first ++ xs) (c.in_ok-put.ensures {u = tt}) in
    let l1 : length w1.items ≡ length first + suc (length w0.items) =
    omega (arith, length_written w1.items, length_written w0.items, ap length e1, length-append first (Back 0 ∷ written w0.items)) in
    let all : c.deref.result.now ≡ record { turn = length w1.items; end = length w0.items } ∷ ls =
    c.deref.ensures.value ∙ c.in_ok-all.ensures {u = tt}
    ∙ ap (λ (k : ℕ). record { turn = k; end = c.len-end.result } ∷ ls) (c.len.ensures ∙ w1.ok.0)
    ∙ ap (λ (k : ℕ). record { turn = length w1.items; end = k } ∷ ls) (c.len-end.ensures ∙ w0.ok.0) in
    let m1 = (c.in_ok-emit_next.ensures {u = tt}).slots in
    let o = all_before ts (view_stmts c.args.body.now) Done in
    let w2 = c.emit_block.new.out.code in
    let ho = c.in_ok-emit_block.ensures {u = tt} in
    let l2 = longer w2.items w1.items (block_code d (arounds_at (length w1.items) c.deref.result.now) o) ho.code in
    let w3 = c.emit_test.new.out.code.items in
    let e3 = c.in_ok-emit_test.ensures {u = tt} in
    let mark : c.len-end.result ≡ length w0.items = c.len-end.ensures ∙ w0.ok.0 in
    let p : c.len-2.result - c.len-end.result ≡ length w2.items - length w0.items =
    omega (arith, mark, c.len-2.ensures, w2.ok.0) in
    while_stands d ls end back least b o (optional (view_boxed c.args.condition.now)) (optional (view_boxed c.args.next.now))
    c.deref.result.now w0.items w1.items w2.items w3 c.put_back.new.code.items c.args.out.now.slots c.emit_next.new.out.slots
    c.emit_block.new.out.slots c.emit_test.new.out.slots (c.len-2.result - c.len-end.result) c.requires.behind h e1 m1 all ho p e3.code
    e3.slots (λ front rest last e l. c.put_back.ensures.back front rest last e (l ∙ sym mark))

pub emit_do-put_back-requires : goal.emit_do-put_back-requires
emit_do-put_back-requires t c =
    let d = defs_in c.args.f in
    let ts = types_in c.args.f in
    let ls = c.args.around.loops.now in
    let end = c.args.around.end in
    let w0 = c.args.out.now.code in
    let w1 = c.emit_test.new.out.code in
    let first = test d (optional (view_boxed c.args.condition.now)) 1 in
    let e1 : written w1.items ≡ first ++ Back 0 ∷ written w0.items =
    (c.in_ok-emit_test.ensures {u = tt}).code ∙ ap (λ xs. first ++ xs) (c.in_ok-put.ensures {u = tt}) in
    let l1 : length w1.items ≡ length first + suc (length w0.items) =
    omega (arith, length_written w1.items, length_written w0.items, ap length e1, length-append first (Back 0 ∷ written w0.items)) in
    let all : c.deref.result.now ≡ record { turn = length w1.items; end = length w0.items } ∷ ls =
    c.deref.ensures.value ∙ c.in_ok-all.ensures {u = tt}
    ∙ ap (λ (k : ℕ). record { turn = k; end = c.len-end.result } ∷ ls) (c.len.ensures ∙ w1.ok.0)
    ∙ ap (λ (k : ℕ). record { turn = length w1.items; end = k } ∷ ls) (c.len-end.ensures ∙ w0.ok.0) in
    let m1 = (c.in_ok-emit_test.ensures {u = tt}).slots in
    let o = all_before ts (view_stmts c.args.body.now) Done in
    let w2 = c.emit_block.new.out.code in
    let ho = c.in_ok-emit_block.ensures {u = tt} in
    let l2 = longer w2.items w1.items (block_code d (arounds_at (length w1.items) c.deref.result.now) o) ho.code in
    omega (arith, l1, l2, c.len-end.ensures, w0.ok.0, w2.ok.0)

pub emit_do-returns-clause-longer : goal.emit_do-returns-clause-longer
emit_do-returns-clause-longer t c =
    let d = defs_in c.args.f in
    let ts = types_in c.args.f in
    let ls = c.args.around.loops.now in
    let end = c.args.around.end in
    let w0 = c.args.out.now.code in
    let w1 = c.emit_test.new.out.code in
    let first = test d (optional (view_boxed c.args.condition.now)) 1 in
    let e1 : written w1.items ≡ first ++ Back 0 ∷ written w0.items =
    (c.in_ok-emit_test.ensures {u = tt}).code ∙ ap (λ xs. first ++ xs) (c.in_ok-put.ensures {u = tt}) in
    let l1 : length w1.items ≡ length first + suc (length w0.items) =
    omega (arith, length_written w1.items, length_written w0.items, ap length e1, length-append first (Back 0 ∷ written w0.items)) in
    let all : c.deref.result.now ≡ record { turn = length w1.items; end = length w0.items } ∷ ls =
    c.deref.ensures.value ∙ c.in_ok-all.ensures {u = tt}
    ∙ ap (λ (k : ℕ). record { turn = k; end = c.len-end.result } ∷ ls) (c.len.ensures ∙ w1.ok.0)
    ∙ ap (λ (k : ℕ). record { turn = length w1.items; end = k } ∷ ls) (c.len-end.ensures ∙ w0.ok.0) in
    let m1 = (c.in_ok-emit_test.ensures {u = tt}).slots in
    let o = all_before ts (view_stmts c.args.body.now) Done in
    let w2 = c.emit_block.new.out.code in
    let ho = c.in_ok-emit_block.ensures {u = tt} in
    let l2 = longer w2.items w1.items (block_code d (arounds_at (length w1.items) c.deref.result.now) o) ho.code in
    omega (arith, l1, l2, c.put_back.ensures.longer)

pub emit_do-returns-clause-stands : goal.emit_do-returns-clause-stands
emit_do-returns-clause-stands t c = λ back least b h.
    let d = defs_in c.args.f in
    let ts = types_in c.args.f in
    let ls = c.args.around.loops.now in
    let end = c.args.around.end in
    let w0 = c.args.out.now.code in
    let w1 = c.emit_test.new.out.code in
    let first = test d (optional (view_boxed c.args.condition.now)) 1 in
    let e1 : written w1.items ≡ first ++ Back 0 ∷ written w0.items =
    (c.in_ok-emit_test.ensures {u = tt}).code ∙ ap (λ xs. first ++ xs) (c.in_ok-put.ensures {u = tt}) in
    let l1 : length w1.items ≡ length first + suc (length w0.items) =
    omega (arith, length_written w1.items, length_written w0.items, ap length e1, length-append first (Back 0 ∷ written w0.items)) in
    let all : c.deref.result.now ≡ record { turn = length w1.items; end = length w0.items } ∷ ls =
    c.deref.ensures.value ∙ c.in_ok-all.ensures {u = tt}
    ∙ ap (λ (k : ℕ). record { turn = k; end = c.len-end.result } ∷ ls) (c.len.ensures ∙ w1.ok.0)
    ∙ ap (λ (k : ℕ). record { turn = length w1.items; end = k } ∷ ls) (c.len-end.ensures ∙ w0.ok.0) in
    let m1 = (c.in_ok-emit_test.ensures {u = tt}).slots in
    let o = all_before ts (view_stmts c.args.body.now) Done in
    let w2 = c.emit_block.new.out.code in
    let ho = c.in_ok-emit_block.ensures {u = tt} in
    let l2 = longer w2.items w1.items (block_code d (arounds_at (length w1.items) c.deref.result.now) o) ho.code in
    let mark : c.len-end.result ≡ length w0.items = c.len-end.ensures ∙ w0.ok.0 in
    do_stands d ls end back least b o (optional (view_boxed c.args.condition.now)) c.deref.result.now w0.items w1.items w2.items
    c.put_back.new.code.items c.args.out.now.slots c.emit_test.new.out.slots c.emit_block.new.out.slots c.requires.behind h e1 m1 all ho
    (λ front rest last e l. c.put_back.ensures.back front rest last e (l ∙ sym mark))

-- ---- `for`

pub emit_for-emit_evaluated-requires : goal.emit_for-emit_evaluated-requires
emit_for-emit_evaluated-requires t c =
    let d = defs_in c.args.f in
    let size = ap (some_size d) (ap view_boxed c.in-Some.is ∙ view_boxed-Some c.in-Some.e) in
    omega (arith, size, ap (λ x. expr_size d (view_expr x)) c.deref.ensures, c.requires.head)

pub emit_for-returns-in-None-clause-stands : goal.emit_for-returns-in-None-clause-stands
emit_for-returns-in-None-clause-stands t c = λ back least b h.
    let d = defs_in c.args.f in
    let new = c.emit_while.new.out in
    let loop = tested (looping (types_in c.args.f) (view_boxed c.args.condition.now) (view_boxed c.args.next.now)
    (view_stmts c.args.body.now)) (Then Over b) in
    subst (λ (x : Option typed.Expr). Stands d c.args.around.loops.now c.args.around.end back least (first_of x loop) new.code.items
    new.slots) (sym (ap view_boxed c.in-None.is ∙ view_boxed-None)) ((c.in_ok-emit_while.ensures {u = tt}).stands back least b h)

pub emit_for-returns-in-Some-clause-longer : goal.emit_for-returns-in-Some-clause-longer
emit_for-returns-in-Some-clause-longer t c =
    let d = defs_in c.args.f in
    let x = evaluated (view_expr c.deref.result.now) in
    let w1 = c.emit_while.new.out.code.items in
    let new = c.emit_evaluated.new.out.code.items in
    let l1 = (c.in_ok-emit_while.ensures {u = tt}).longer in
    on_ok c.emit_evaluated.result (λ e. omega (arith, l1, longer new w1 (stm_code d [] 0 x) (e [] 0))) c.emit_evaluated.ensures.code

pub emit_for-returns-in-Some-clause-stands : goal.emit_for-returns-in-Some-clause-stands
emit_for-returns-in-Some-clause-stands t c = λ back least b h.
    let d = defs_in c.args.f in
    let ls = c.args.around.loops.now in
    let end = c.args.around.end in
    let x = view_expr c.deref.result.now in
    let loop = tested (looping (types_in c.args.f) (view_boxed c.args.condition.now) (view_boxed c.args.next.now)
    (view_stmts c.args.body.now)) (Then Over b) in
    let now = c.emit_while.new.out in
    let new = c.emit_evaluated.new.out in
    let is : view_boxed c.args.first.now ≡ Some x =
    ap view_boxed c.in-Some.is ∙ view_boxed-Some c.in-Some.e ∙ ap (λ y. Some (view_expr y)) (sym c.deref.ensures) in
    on_both c.emit_evaluated.result
    (λ e m. subst (λ (y : Option typed.Expr). Stands d ls end back least (first_of y loop) new.code.items new.slots) (sym is)
    (then_stands d ls end back least loop now.code.items new.code.items now.slots new.slots (evaluated x)
    ((c.in_ok-emit_while.ensures {u = tt}).stands back least b h) (e (arounds_at end ls) (length now.code.items - end)) m))
    c.emit_evaluated.ensures.code c.emit_evaluated.ensures.slots
