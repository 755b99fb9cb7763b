use Rattle.std.proofs.Common.{List, ◌++◌, map, sym, ap, ◌∙◌, append_assoc}
use Rattle.slot_code.specs.Code.{Inst, Temporary, In}
use Rattle.typed_meaning.specs.Program.{local}
use Rattle.typed_lower.specs.Kinds.{leaf}
use Rattle.typed_lower.specs.Terms.{code_of}
use Rattle.typed_lower.specs.Statements.{moves}
use Rattle.slot_writing.specs.Loops.{types_of}
use Rattle.slot_writing.specs.Terms.{view_term}
use Rattle.slot_writing.specs.Written.{written}
use Rattle.slot_writing.proofs.Stated.{other_sets}
use Rattle.slot_writing.proofs.statements.emit_several.Goals as goal

pub returns-in_ok-emit_moves-in_default : goal.returns-in_ok-emit_moves-in_default
returns-in_ok-emit_moves-in_default c =
    let base = written c.args.code.now.items in
    let t = view_term c.args.term in
    let ts = types_of c.args.variables.now in
    let ps = map (local ts) c.args.declared.now in
    let k = c.kind_in-kind.result in
    let same = ap (λ (xs : List Inst). code_of 1 t (Temporary k 0) ++ xs) (c.in_ok-emit_moves-in_default.ensures {u = tt})
    ∙ sym (append_assoc (code_of 1 t (Temporary k 0)) (moves ps (In (Temporary k 0))) base)
    ∙ ap (λ j. (code_of 1 t (Temporary j 0) ++ moves ps (In (Temporary j 0))) ++ base) c.kind_in-kind.ensures
    ∙ ap (λ xs. xs ++ base) (other_sets ts c.args.declared.now c.args.term (leaf t) c.requires.several c.in_default.not-Literal) in
    rw (← same) c.emit_value.ensures
