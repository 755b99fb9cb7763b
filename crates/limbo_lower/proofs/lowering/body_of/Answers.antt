use Rattle.std.proofs.Common.{List, [], ◌∷◌, ◌++◌, None, map, length, ap, ◌∙◌}
use Rattle.limbo_typed.specs.View.{view_stmts}
use Rattle.limbo_meaning.specs.Program.{all_before}
use Rattle.limbo_meaning.specs.Trees.{Done}
use Rattle.core_code.specs.Code.{Instr, Return}
use Rattle.core_code.specs.Statements.{block_code}
use Rattle.core_data.specs.View.{view_inst}
use Rattle.limbo_lower.specs.declared.statements.Loop.{Loop}
use Rattle.limbo_lower.specs.Loops.{arounds_at, defs_in, types_in}
use Rattle.limbo_lower.specs.Written.{written}
use Rattle.limbo_lower.proofs.Turned.{turned_round, written_none}
use Rattle.limbo_lower.proofs.lowering.body_of.Goals as goal

pub returns-clause-code : goal.returns-clause-code
returns-clause-code c =
    let d = defs_in c.args.f in
    let b = all_before (types_in c.args.f) (view_stmts c.args.body.now) Done in
    let base = written c.put.new.code.items in
    ap (map view_inst) c.reverse.ensures.items ∙ turned_round c.emit_block.new.out.code.items
    ∙ (c.in_ok-emit_block.ensures {u = tt}).code
    ∙ ap (λ (ls : List Loop). block_code d (arounds_at (length c.put.new.code.items) ls) b ++ base) (c.deref.ensures.value
    ∙ c.new-around.ensures.items)
    ∙ ap (λ (xs : List Instr). block_code d [] b ++ xs) (c.in_ok-put.ensures {u = tt} ∙ ap (λ (xs : List Instr). Return None ∷ xs)
    (ap written c.new.ensures.items ∙ written_none))
