use Rattle.std.proofs.Common.{arith, ◌≡◌, ℕ, ◌+◌, ◌-◌, ◌<◌, suc, List, [], ◌∷◌, ◌++◌, length, drop, refl, sym, ap, ◌∙◌, subst, append_assoc}
use Rattle.std.proofs.lemmas.List.{at_drop_more}
use Rattle.limbo_typed.specs.declared.stmt.TStmt as code_stmt
use Rattle.limbo_typed.specs.Typed as typed
use Rattle.limbo_typed.specs.View.{view_expr, view_boxed, view_stmt, view_stmts}
use Rattle.limbo_typed.proofs.View.{view_stmt-Block, view_stmt-Declare, view_stmt-Eval, view_stmt-If, view_stmt-While, view_stmt-Do}
use Rattle.limbo_typed.proofs.View.{view_stmt-For, view_stmt-Break, view_stmt-Continue, view_stmt-Return}
use Rattle.slot_code.specs.Code.{Back, Inst}
use Rattle.typed_lower.specs.Statements.{stmt_code, stmts_code, optional, condition, inside}
use Rattle.slot_writing.specs.Loops.{arounds_at, types_of, looped, AreBehind, round}
use Rattle.slot_writing.specs.Terms.{view_term}
use Rattle.slot_writing.specs.Weights.{weight}
use Rattle.slot_writing.specs.Written.{written}
use Rattle.slot_writing.proofs.Declared.{nodes_within, size_within}
use Rattle.slot_writing.proofs.Looping.{later, longer, round_longer, begun, one_more, chosen_code, looped_code, done_code, do_code}
use Rattle.slot_writing.proofs.Looping.{turns_code, more_code}
use Rattle.slot_writing.proofs.Others.{no_stmt_code}
use Rattle.slot_writing.proofs.Weighed.{weight_size}
use Rattle.slot_writing.proofs.Written.{length_written}
use Rattle.slot_writing.proofs.statements.+statements.Goals as goal

-- ---- a loop that tests last

pub emit_do-emit_condition-requires-clause-behind : goal.emit_do-emit_condition-requires-clause-behind
emit_do-emit_condition-requires-clause-behind t c =
    let l = longer c.put.new.code.items c.args.code.now.items (Back 0 ∷ []) (c.in_ok-put.ensures {u = tt}) in
    omega (arith, l, c.put.new.code.ok.0)

pub emit_do-emit_stmts-requires : goal.emit_do-emit_stmts-requires
emit_do-emit_stmts-requires t c =
    let w0 = c.args.code.now.items in
    let w1 = c.emit_condition.new.code.items in
    let lp = longer c.put.new.code.items w0 (Back 0 ∷ []) (c.in_ok-put.ensures {u = tt}) in
    let l1 = longer w1 c.put.new.code.items (condition (view_boxed c.args.condition.now) 1) (c.in_ok-emit_condition.ensures {u = tt}) in
    let all = one_more c.len.result c.len-mark.result (length w1) (length w0) c.args.around.now c.deref.result.now
    (c.deref.ensures.value ∙ c.in_ok-all.ensures) (c.len.ensures ∙ c.emit_condition.new.code.ok.0) (c.len-mark.ensures
    ∙ c.args.code.now.ok.0) in (
      omega arith,
      (
        c.requires.inner,
        begun (length w1) (length w0) c.args.around.now c.deref.result.now all (omega
            (arith, lp, l1)) c.requires.behind,
      ),
    )

pub emit_do-put_back-requires : goal.emit_do-put_back-requires
emit_do-put_back-requires t c =
    let w0 = c.args.code.now.items in
    let w1 = c.emit_condition.new.code.items in
    let w2 = c.emit_stmts.new.code.items in
    let lp = longer c.put.new.code.items w0 (Back 0 ∷ []) (c.in_ok-put.ensures {u = tt}) in
    let l1 = longer w1 c.put.new.code.items (condition (view_boxed c.args.condition.now) 1) (c.in_ok-emit_condition.ensures {u = tt}) in
    let l2 = longer w2 w1 (stmts_code (types_of c.args.variables.now) (arounds_at (length w1) c.deref.result.now)
    (view_stmts c.args.body.now))
    (c.in_ok-emit_stmts.ensures {u = tt}) in
    omega (arith, lp, l1, l2, c.len-mark.ensures, c.args.code.now.ok.0, c.emit_stmts.new.code.ok.0)

pub emit_do-returns : goal.emit_do-returns
emit_do-returns t c =
    let w0 = c.args.code.now.items in
    let w1 = c.emit_condition.new.code.items in
    let w2 = c.emit_stmts.new.code.items in
    let ts = types_of c.args.variables.now in
    let ls = c.args.around.now in
    let test = condition (view_boxed c.args.condition.now) 1 in
    let body = stmts_code ts (inside test (arounds_at (length w0) ls)) (view_stmts c.args.body.now) in
    let mark = c.len-mark.ensures ∙ c.args.code.now.ok.0 in
    let all = one_more c.len.result c.len-mark.result (length w1) (length w0) ls c.deref.result.now (c.deref.ensures.value
    ∙ c.in_ok-all.ensures)
    (c.len.ensures ∙ c.emit_condition.new.code.ok.0) mark in
    let e1 : written w1 ≡ test ++ Back 0 ∷ written w0 =
    c.in_ok-emit_condition.ensures {u = tt} ∙ ap (λ (xs : List Inst). test ++ xs) (c.in_ok-put.ensures {u = tt}) in
    let made = done_code ts (view_boxed c.args.condition.now) (view_stmts c.args.body.now) ls c.deref.result.now
    (Back 0) w0 w1 w2 c.requires.behind
    all e1 (c.in_ok-emit_stmts.ensures {u = tt}) in
    c.put_back.ensures (body ++ test) (written w0) (Back 0) made (length_written w0 ∙ sym mark) ∙ do_code test body (written w0)

-- ---- a loop that tests first

pub emit_while-emit_turns-requires : goal.emit_while-emit_turns-requires
emit_while-emit_turns-requires t c =
    let w0 = c.args.code.now.items in
    let mark : c.len-mark.result ≡ length w0 = c.len-mark.ensures ∙ c.args.code.now.ok.0 in
    let lp = longer c.put.new.code.items w0 (Back 0 ∷ []) (c.in_ok-put.ensures {u = tt}) in (
      omega arith,
      (
        c.requires.test,
        (
          c.requires.inner,
          (
            subst (λ (k : ℕ). AreBehind k c.args.around.now) (sym mark) c.requires.behind,
            omega (arith, lp, mark, c.put.new.code.ok.0),
          ),
        ),
      ),
    )

pub emit_while-returns : goal.emit_while-returns
emit_while-returns t c =
    let w0 = c.args.code.now.items in
    let ts = types_of c.args.variables.now in
    let ls = c.args.around.now in
    let mark : c.len-mark.result ≡ length w0 = c.len-mark.ensures ∙ c.args.code.now.ok.0 in
    let same = ap (λ (k : ℕ). looped ts (arounds_at k ls) (view_boxed c.args.condition.now) [] (view_stmts c.args.body.now)
    ++ written w0) mark in
    rw (← same) (c.emit_turns.ensures [] (written w0) (Back 0) (c.in_ok-put.ensures {u = tt}) (length_written w0 ∙ sym mark))

pub emit_for-emit_turns-requires : goal.emit_for-emit_turns-requires
emit_for-emit_turns-requires t c =
    let w0 = c.args.code.now.items in
    let mark : c.len-mark.result ≡ length w0 = c.len-mark.ensures ∙ c.args.code.now.ok.0 in
    let lp = longer c.put.new.code.items w0 (Back 0 ∷ []) (c.in_ok-put.ensures {u = tt}) in
    let l1 = longer c.emit_optional.new.code.items c.put.new.code.items (optional (view_boxed c.args.next.now))
    (c.in_ok-emit_optional.ensures {u = tt}) in (
      omega arith,
      (
        c.requires.test,
        (
          c.requires.inner,
          (
            subst (λ (k : ℕ). AreBehind k c.args.around.now) (sym mark) c.requires.behind,
            omega (arith, lp, l1, mark, c.emit_optional.new.code.ok.0),
          ),
        ),
      ),
    )

pub emit_for-returns : goal.emit_for-returns
emit_for-returns t c =
    let w0 = c.args.code.now.items in
    let ts = types_of c.args.variables.now in
    let ls = c.args.around.now in
    let next = optional (view_boxed c.args.next.now) in
    let mark : c.len-mark.result ≡ length w0 = c.len-mark.ensures ∙ c.args.code.now.ok.0 in
    let same = ap (λ (k : ℕ). looped ts (arounds_at k ls) (view_boxed c.args.condition.now) next (view_stmts c.args.body.now)
    ++ written w0) mark in
    rw (← same) (c.emit_turns.ensures next (written w0) (Back 0)
    (c.in_ok-emit_optional.ensures {u = tt} ∙ ap (λ (xs : List Inst). next ++ xs) (c.in_ok-put.ensures {u = tt})) (length_written w0
    ∙ sym mark))

pub emit_turns-emit_stmts-requires : goal.emit_turns-emit_stmts-requires
emit_turns-emit_stmts-requires t c =
    let w0 = c.args.code.now.items in
    let all = one_more c.len.result c.args.mark (length w0) c.args.mark c.args.around.now c.deref.result.now
    (c.deref.ensures.value ∙ c.in_ok-all.ensures) (c.len.ensures ∙ c.args.code.now.ok.0) refl in (
      omega arith,
      (
        c.requires.inner,
        begun (length w0) c.args.mark c.args.around.now c.deref.result.now all
            (omega (arith, c.requires.begun, c.args.code.now.ok.0)) c.requires.behind,
      ),
    )

pub emit_turns-overflow_sub-passes : goal.emit_turns-overflow_sub-passes
emit_turns-overflow_sub-passes t c =
    let w0 = c.args.code.now.items in
    let w1 = c.emit_stmts.new.code.items in
    let l1 = longer w1 w0 (stmts_code (types_of c.args.variables.now) (arounds_at (length w0) c.deref.result.now)
    (view_stmts c.args.body.now))
    (c.in_ok-emit_stmts.ensures {u = tt}) in
    omega (arith, l1, c.requires.begun, c.args.code.now.ok.0, c.emit_stmts.new.code.ok.0)

pub emit_turns-put_back-requires : goal.emit_turns-put_back-requires
emit_turns-put_back-requires t c =
    let w0 = c.args.code.now.items in
    let w1 = c.emit_stmts.new.code.items in
    let l1 = longer w1 w0 (stmts_code (types_of c.args.variables.now) (arounds_at (length w0) c.deref.result.now)
    (view_stmts c.args.body.now))
    (c.in_ok-emit_stmts.ensures {u = tt}) in
    let l2 = longer c.emit_condition.new.code.items w1 (condition (view_boxed c.args.condition.now) (c.len-2.result - c.args.mark))
    (c.in_ok-emit_condition.ensures {u = tt}) in
    omega (arith, l1, l2, c.requires.begun, c.args.code.now.ok.0, c.emit_condition.new.code.ok.0)

pub emit_turns-returns : goal.emit_turns-returns
emit_turns-returns t c = λ next back last e l.
    let w0 = c.args.code.now.items in
    let w1 = c.emit_stmts.new.code.items in
    let w2 = c.emit_condition.new.code.items in
    let ts = types_of c.args.variables.now in
    let ls = c.args.around.now in
    let cond = view_boxed c.args.condition.now in
    let ss = view_stmts c.args.body.now in
    let body = stmts_code ts (inside next (arounds_at c.args.mark ls)) ss in
    let test = condition cond (suc (length body + length next)) in
    let n = c.len-2.result - c.args.mark in
    let l1 = longer w1 w0 (stmts_code ts (arounds_at (length w0) c.deref.result.now) ss) (c.in_ok-emit_stmts.ensures {u = tt}) in
    let m : n + c.args.mark ≡ length w1 = omega (
      arith,
      l1,
      c.len-2.ensures,
      c.requires.begun,
      c.args.code.now.ok.0,
      c.emit_stmts.new.code.ok.0,
    ) in
    let all = one_more c.len.result c.args.mark (length w0) c.args.mark ls c.deref.result.now (c.deref.ensures.value ∙ c.in_ok-all.ensures)
    (c.len.ensures ∙ c.args.code.now.ok.0) refl in
    let made = looped_code ts cond ss ls c.deref.result.now next back last w0 w1 w2 c.args.mark n c.requires.behind all e l
    (c.in_ok-emit_stmts.ensures {u = tt}) (c.in_ok-emit_condition.ensures {u = tt}) m in
    c.put_back.ensures (test ++ (body ++ next)) back last made l ∙ turns_code test body next back

-- ---- `if`

pub emit_if-put_round-requires : goal.emit_if-put_round-requires
emit_if-put_round-requires t c =
    let w0 = c.args.code.now.items in
    let o = stmts_code (types_of c.args.variables.now) (arounds_at (length w0) c.args.around.now) (view_stmts c.args.other.now) in
    let l1 = longer c.emit_stmts.new.code.items w0 o (c.in_ok-emit_stmts.ensures {u = tt}) in
    omega (arith, l1, c.len-mark.ensures, c.args.code.now.ok.0, c.emit_stmts.new.code.ok.0)

pub emit_if-emit_stmts-requires-2 : goal.emit_if-emit_stmts-requires-2
emit_if-emit_stmts-requires-2 t c =
    let w0 = c.args.code.now.items in
    let o = stmts_code (types_of c.args.variables.now) (arounds_at (length w0) c.args.around.now) (view_stmts c.args.other.now) in
    let e1 = c.in_ok-emit_stmts.ensures {u = tt} in
    let back : length (written w0) ≡ c.len-mark.result = length_written w0 ∙ sym (c.len-mark.ensures ∙ c.args.code.now.ok.0) in
    let l2 = longer c.put_round.new.code.items w0 (round o) (c.in_ok-put_round.ensures o (written w0) e1 back) in (
      omega arith,
      (
        c.requires.first,
        later (length w0) (length c.put_round.new.code.items) c.args.around.now (omega
            (arith, l2)) c.requires.behind,
      ),
    )

pub emit_if-overflow_sub-passes : goal.emit_if-overflow_sub-passes
emit_if-overflow_sub-passes t c =
    let w0 = c.args.code.now.items in
    let w1 = c.emit_stmts.new.code.items in
    let w2 = c.put_round.new.code.items in
    let ts = types_of c.args.variables.now in
    let o = stmts_code ts (arounds_at (length w0) c.args.around.now) (view_stmts c.args.other.now) in
    let e1 = c.in_ok-emit_stmts.ensures {u = tt} in
    let l1 = longer w1 w0 o e1 in
    let back : length (written w0) ≡ c.len-mark.result = length_written w0 ∙ sym (c.len-mark.ensures ∙ c.args.code.now.ok.0) in
    let l2 = longer w2 w0 (round o) (c.in_ok-put_round.ensures o (written w0) e1 back) in
    let l3 = longer c.emit_stmts-2.new.code.items w2 (stmts_code ts (arounds_at (length w2) c.args.around.now) (view_stmts c.args.then.now))
    (c.in_ok-emit_stmts-2.ensures {u = tt}) in
    omega (arith, l1, l2, l3, round_longer o, c.len-passed.ensures, c.len.ensures, c.emit_stmts.new.code.ok.0, c.emit_stmts-2.new.code.ok.0)

pub emit_if-emit_branches-requires-clause-room : goal.emit_if-emit_branches-requires-clause-room
emit_if-emit_branches-requires-clause-room t c =
    omega (arith, ap weight c.term_of.ensures, weight_size (view_expr c.args.condition.now), c.requires.test)

pub emit_if-returns : goal.emit_if-returns
emit_if-returns t c =
    let w0 = c.args.code.now.items in
    let w1 = c.emit_stmts.new.code.items in
    let w2 = c.put_round.new.code.items in
    let w3 = c.emit_stmts-2.new.code.items in
    let ts = types_of c.args.variables.now in
    let ls = c.args.around.now in
    let o = stmts_code ts (arounds_at (length w0) ls) (view_stmts c.args.other.now) in
    let e1 = c.in_ok-emit_stmts.ensures {u = tt} in
    let l1 = longer w1 w0 o e1 in
    let back : length (written w0) ≡ c.len-mark.result = length_written w0 ∙ sym (c.len-mark.ensures ∙ c.args.code.now.ok.0) in
    let e2 = c.in_ok-put_round.ensures o (written w0) e1 back in
    let l2 = longer w2 w0 (round o) e2 in
    let l3 = longer w3 w2 (stmts_code ts (arounds_at (length w2) ls) (view_stmts c.args.then.now))
    (c.in_ok-emit_stmts-2.ensures {u = tt}) in
    let n = c.len.result - c.len-passed.result in
    let m : n + (length o + length w0) ≡ length w3 =
    omega (
      arith,
      l1,
      l2,
      l3,
      round_longer o,
      c.len-passed.ensures,
      c.len.ensures,
      c.emit_stmts.new.code.ok.0,
      c.emit_stmts-2.new.code.ok.0,
    ) in
    let same = chosen_code ts (view_expr c.args.condition.now) (view_stmts c.args.then.now) (view_stmts c.args.other.now) ls w0 w2 w3
    (view_term c.term_of.result) n c.requires.behind c.term_of.ensures e2 (c.in_ok-emit_stmts-2.ensures {u = tt}) m in
    rw (← same) c.emit_branches.ensures

-- ---- statements

pub emit_stmt-returns-in_ok-emit_for-in-For : goal.emit_stmt-returns-in_ok-emit_for-in-For
emit_stmt-returns-in_ok-emit_for-in-For t c =
    let base = written c.args.code.now.items in
    let ts = types_of c.args.variables.now in
    let bs = arounds_at (length c.args.code.now.items) c.args.around.now in
    let first = optional (view_boxed c.in-For.first) in
    let cond = view_boxed c.in-For.condition in
    let next = optional (view_boxed c.in-For.next) in
    let same = ap (λ (xs : List Inst). first ++ xs) (c.in_ok-emit_for-in-For.ensures {u = tt}
    ∙ ap (λ xs. looped ts bs cond next (view_stmts xs) ++ base) c.deref-in-For.ensures.value)
    ∙ sym (append_assoc first (looped ts bs cond next (view_stmts c.in-For.body.items)) base)
    ∙ ap (λ s. stmt_code ts bs s ++ base)
    (sym (ap view_stmt c.in-For.is ∙ view_stmt-For c.in-For.first c.in-For.condition c.in-For.next c.in-For.body)) in
    rw (← same) c.emit_optional.ensures

pub emit_stmt-returns-in_default : goal.emit_stmt-returns-in_default
emit_stmt-returns-in_default t c =
    let bs = arounds_at (length c.args.code.now.items) c.args.around.now in
    ap (λ (xs : List Inst). xs ++ written c.args.code.now.items) (sym (no_stmt_code (types_of c.args.variables.now) bs c.args.s.now
    c.in_default.not-Block c.in_default.not-Declare c.in_default.not-Eval c.in_default.not-If c.in_default.not-While c.in_default.not-Do
    c.in_default.not-For c.in_default.not-Break c.in_default.not-Continue c.in_default.not-Return))

pub emit_stmts-emit_stmt-requires : goal.emit_stmts-emit_stmt-requires
emit_stmts-emit_stmt-requires t c =
    let ss = c.args.body.now in
    let s = c.index-body-i.result in
    let w0 = c.args.code.now.items in
    let w1 = c.loop-i.code.items in
    let lt : c.loop-i.i - 1 < length ss = omega (arith, c.loop-i.invariant.within, c.loop-i-test.true) in
    let l1 = longer w1 w0 (stmts_code (types_of c.args.variables.now) (arounds_at (length w0) c.args.around.now) (view_stmts
    (drop c.loop-i.i ss)))
    c.loop-i.invariant.done in (
      omega (arith, nodes_within ss (c.loop-i.i - 1) s lt c.index-body-i.is),
      (
        omega (arith, size_within ss (c.loop-i.i - 1) s lt c.index-body-i.is, c.requires.room),
        later (length w0) (length w1) c.args.around.now (omega (arith, l1)) c.requires.behind,
      ),
    )

pub emit_stmts-loop-i-preserved : goal.emit_stmts-loop-i-preserved
emit_stmts-loop-i-preserved t c =
    let ss = c.args.body.now in
    let ls = c.args.around.now in
    let w0 = c.args.code.now.items in
    let ts = types_of c.args.variables.now in
    let i = c.loop-i.i - 1 in
    let s = c.index-body-i.result in
    let lt : i < length ss = omega (arith, c.loop-i.invariant.within, c.loop-i-test.true) in
    let next : i + 1 ≡ c.loop-i.i = omega (arith, c.loop-i-test.true) in
    let at : view_stmts (drop i ss) ≡ typed.MoreStmts (view_stmt s) (view_stmts (drop c.loop-i.i ss)) =
    at_drop_more view_stmts ss i s lt
    ∙ ap (λ (x : code_stmt.TStmt). typed.MoreStmts (view_stmt x) (view_stmts (drop (i + 1) ss))) (sym c.index-body-i.is)
    ∙ ap (λ (n : ℕ). typed.MoreStmts (view_stmt s) (view_stmts (drop n ss))) next in
    record {
      done = more_code ts (view_stmt s) (view_stmts (drop c.loop-i.i ss)) ls w0 c.loop-i.code.items c.emit_stmt.new.code.items
          c.requires.behind
          c.loop-i.invariant.done (c.in_ok-emit_stmt.ensures {u = tt})
          ∙ ap (λ xs. stmts_code ts (arounds_at (length w0) ls) xs ++ written w0) (sym at);
      within = omega (arith, lt);
    }

pub emit_stmt-emit_stmts-requires : goal.emit_stmt-emit_stmts-requires
emit_stmt-emit_stmts-requires t c = grind (arith, view_stmt-Block)

pub emit_stmt-emit_declared-requires : goal.emit_stmt-emit_declared-requires
emit_stmt-emit_declared-requires t c = grind (arith, view_stmt-Declare)

pub emit_stmt-emit_done-requires : goal.emit_stmt-emit_done-requires
emit_stmt-emit_done-requires t c = grind (arith, view_stmt-Eval)

pub emit_stmt-emit_if-requires : goal.emit_stmt-emit_if-requires
emit_stmt-emit_if-requires t c = grind (arith, view_stmt-If)

pub emit_stmt-emit_while-requires : goal.emit_stmt-emit_while-requires
emit_stmt-emit_while-requires t c = grind (arith, view_stmt-While)

pub emit_stmt-emit_do-requires : goal.emit_stmt-emit_do-requires
emit_stmt-emit_do-requires t c = grind (arith, view_stmt-Do)

pub emit_stmt-emit_for-requires : goal.emit_stmt-emit_for-requires
emit_stmt-emit_for-requires t c = grind (arith, view_stmt-For)

pub emit_stmt-emit_optional-requires : goal.emit_stmt-emit_optional-requires
emit_stmt-emit_optional-requires t c = grind (arith, view_stmt-For)

pub emit_stmt-emit_returned-requires : goal.emit_stmt-emit_returned-requires
emit_stmt-emit_returned-requires t c = grind (arith, view_stmt-Return)

pub emit_stmt-returns-in-Block : goal.emit_stmt-returns-in-Block
emit_stmt-returns-in-Block t c = grind (arith, view_stmt-Block)

pub emit_stmt-returns-in-Declare : goal.emit_stmt-returns-in-Declare
emit_stmt-returns-in-Declare t c = grind (arith, view_stmt-Declare)

pub emit_stmt-returns-in-Eval : goal.emit_stmt-returns-in-Eval
emit_stmt-returns-in-Eval t c = grind (arith, view_stmt-Eval)

pub emit_stmt-returns-in-If : goal.emit_stmt-returns-in-If
emit_stmt-returns-in-If t c = grind (arith, view_stmt-If)

pub emit_stmt-returns-in-While : goal.emit_stmt-returns-in-While
emit_stmt-returns-in-While t c = grind (arith, view_stmt-While)

pub emit_stmt-returns-in-Do : goal.emit_stmt-returns-in-Do
emit_stmt-returns-in-Do t c = grind (arith, view_stmt-Do)

pub emit_stmt-returns-in-Break : goal.emit_stmt-returns-in-Break
emit_stmt-returns-in-Break t c = grind (arith, view_stmt-Break)

pub emit_stmt-returns-in-Continue : goal.emit_stmt-returns-in-Continue
emit_stmt-returns-in-Continue t c = grind (arith, view_stmt-Continue)

pub emit_stmt-returns-in-Return : goal.emit_stmt-returns-in-Return
emit_stmt-returns-in-Return t c = grind (arith, view_stmt-Return)
