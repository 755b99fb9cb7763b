use Rattle.std.proofs.Common.{arith}
use Rattle.std.proofs.lemmas.Result.{err_from_is_err_and}
use Rattle.limbo_lexer.specs.declared.token.Mark.TheVariants as mark
use Rattle.limbo_tree.specs.View.{name_of}
use Rattle.limbo_reading.specs.Reading.{kinds, after_mark}
use Rattle.limbo_reading.proofs.Steps.{mark_shorter}
use Rattle.limbo_reading.proofs.Loops.{items_start, items_fail, reading_more, reading_end, reading_fails}
use Rattle.limbo_decl_parser.specs.Decls.{pname_at}
use Rattle.limbo_decl_parser.proofs.Places.{pname_shorter}
use Rattle.limbo_decl_parser.proofs.params.expect_pnames.Goals as goal

pub returns-in_err-first : goal.returns-in_err-first
returns-in_err-first c =
    let p = err_from_is_err_and c.from_residual.result c.from_residual.ensures.1 in
    rw (p.1, p.2) (items_fail c.in_err-first.field-0.0 pname_at (after_mark mark.Comma) (kinds c.args.tokens.now) c.in_err-first.ensures)

pub names-init : goal.names-init
names-init c =
    rw (c.in_ok-push.ensures.items, c.new-names.ensures.items) (items_start name_of pname_at (after_mark mark.Comma) (kinds c.args.tokens.now) c.in_ok-first.first (kinds c.in_ok-first.rest.now) c.in_ok-first.ensures)

pub returns-in_err-name : goal.returns-in_err-name
returns-in_err-name c =
    let p = err_from_is_err_and c.from_residual-in_err-name.result c.from_residual-in_err-name.ensures.1 in
    rw (p.1, p.2) (reading_fails c.in_err-name.field-0.0 name_of pname_at (after_mark mark.Comma) _ c.names.names.items (kinds c.names.rest.now) (kinds c.in-Some.behind.now) c.in-Some.ensures (mark_shorter mark.Comma _ _ c.in-Some.ensures) c.in_err-name.ensures c.names.invariant)

pub names-preserved : goal.names-preserved
names-preserved c =
    rw c.in_ok-push-2.ensures.items (reading_more name_of pname_at (after_mark mark.Comma) _ c.names.names.items (kinds c.names.rest.now) (kinds c.in-Some.behind.now) (kinds c.in_ok-name.after.now) c.in_ok-name.name c.in-Some.ensures c.in_ok-name.ensures (omega (arith, mark_shorter mark.Comma (kinds c.names.rest.now) (kinds c.in-Some.behind.now) c.in-Some.ensures, pname_shorter (kinds c.in-Some.behind.now) (name_of c.in_ok-name.name) (kinds c.in_ok-name.after.now) c.in_ok-name.ensures)) c.names.invariant)

pub names-smaller : goal.names-smaller
names-smaller c =
    omega (arith, mark_shorter mark.Comma (kinds c.names.rest.now) (kinds c.in-Some.behind.now) c.in-Some.ensures, pname_shorter (kinds c.in-Some.behind.now) (name_of c.in_ok-name.name) (kinds c.in_ok-name.after.now) c.in_ok-name.ensures)

pub returns : goal.returns
returns c = reading_end name_of pname_at (after_mark mark.Comma) _ c.names.names.items (kinds c.names.rest.now) c.in_default.ensures c.names.invariant
