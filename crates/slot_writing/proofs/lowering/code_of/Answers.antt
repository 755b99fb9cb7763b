use Rattle.std.proofs.Common.{List, [], ◌∷◌, ◌++◌, map, length, ap, ◌∙◌}
use Rattle.limbo_typed.specs.View.{view_stmts}
use Rattle.slot_code.specs.Code.{Inst, Leave}
use Rattle.slot_code.specs.View.{view_inst}
use Rattle.typed_lower.specs.Statements.{stmts_code}
use Rattle.slot_writing.specs.Loops.{arounds_at, types_of}
use Rattle.slot_writing.specs.Written.{written}
use Rattle.slot_writing.proofs.Turned.{turned_round, written_none}
use Rattle.slot_writing.proofs.lowering.code_of.Goals as goal

pub returns : goal.returns
returns c =
    let w = written c.put.new.code.items in
    let n = length c.put.new.code.items in
    let f = c.args.f.now in
    ap (map view_inst) c.reverse.ensures.items ∙ turned_round c.emit_stmts.new.code.items ∙ c.in_ok-emit_stmts.ensures {u = tt}
    ∙ ap (λ vs. stmts_code (types_of vs) (arounds_at n c.deref-2.result.now) (view_stmts c.deref-3.result.now) ++ w) c.deref.ensures.value
    ∙ ap (λ ls. stmts_code (types_of f.variables.items) (arounds_at n ls) (view_stmts c.deref-3.result.now) ++ w)
    (c.deref-2.ensures.value ∙ c.new-around.ensures.items)
    ∙ ap (λ ss. stmts_code (types_of f.variables.items) [] (view_stmts ss) ++ w) c.deref-3.ensures.value
    ∙ ap (λ (xs : List Inst). stmts_code (types_of f.variables.items) [] (view_stmts f.body.items) ++ xs)
    (c.in_ok-put.ensures {u = tt} ∙ ap (λ (xs : List Inst). Leave ∷ xs) (ap written c.new-code.ensures.items ∙ written_none))
