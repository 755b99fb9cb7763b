use Rattle.std.proofs.Common.{◌++◌, refl, sym, ap, ◌∙◌}
use Rattle.slot_code.specs.View.{view_spot}
use Rattle.typed_meaning.specs.Trees.{Read, MoreTerms, NoTerms}
use Rattle.limbo_typed.specs.View.{view_expr}
use Rattle.typed_meaning.specs.Program.{term_of}
use Rattle.typed_lower.specs.Statements.{effects}
use Rattle.typed_lower.specs.Terms.{applied, parts_of}
use Rattle.slot_writing.specs.Terms.{view_term, view_variable}
use Rattle.slot_writing.specs.Written.{written}
use Rattle.slot_writing.proofs.Emission.{two_applied}
use Rattle.slot_writing.proofs.statements.emit_effects.Goals as goal

pub returns-in-Update : goal.returns-in-Update
returns-in-Update c =
    let base = written c.args.code.now.items in
    let o = c.in-Update.operation in
    let v = term_of (view_expr c.in-Update.value.now) in
    let p = Read (view_variable c.in-Update.into) in
    let same = two_applied o 0 (view_spot c.spot-in-Update.result) p (view_term c.term_of-in-Update.result) p v (MoreTerms p
    (MoreTerms v NoTerms)) base
    refl c.term_of-in-Update.ensures refl
    ∙ ap (λ s. applied o (parts_of (MoreTerms p (MoreTerms v NoTerms))) 0 s ++ base) c.spot-in-Update.ensures
    ∙ ap (λ x. effects (view_term x) ++ base) (sym c.in-Update.is) in
    rw (← same) c.emit_operated.ensures
