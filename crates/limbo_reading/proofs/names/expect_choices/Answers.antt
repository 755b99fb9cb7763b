use Rattle.std.proofs.Common.{arith}
use Rattle.std.proofs.lemmas.Result.{err_from_is_err_and}
use Rattle.limbo_lexer.specs.declared.token.Mark.TheVariants as mark
use Rattle.limbo_lexer.specs.declared.token.Key.TheVariants as key
use Rattle.limbo_tree.specs.View.{view_name}
use Rattle.limbo_reading.specs.Reading.{kinds, after_mark, after_key, expect_name}
use Rattle.limbo_reading.proofs.Steps.{mark_shorter, key_shorter, name_shorter}
use Rattle.limbo_reading.proofs.Loops.{items_start, items_fail, reading_more, reading_end, reading_fails}
use Rattle.limbo_reading.proofs.names.expect_choices.Goals as goal

pub returns-in_err-first : goal.returns-in_err-first
returns-in_err-first c =
    let p = err_from_is_err_and c.from_residual.result c.from_residual.ensures.1 in
    rw (p.1, p.2) (items_fail c.in_err-first.field-0.0 expect_name (after_key key.Or) (kinds c.args.tokens.now) c.in_err-first.ensures)

pub names-init : goal.names-init
names-init c =
    rw (c.in_ok-push.ensures.items, c.new-names.ensures.items) (items_start view_name expect_name (after_key key.Or) (kinds c.args.tokens.now) c.in_ok-first.first (kinds c.in_ok-first.rest.now) c.in_ok-first.ensures)

pub returns-in_err-name : goal.returns-in_err-name
returns-in_err-name c =
    let p = err_from_is_err_and c.from_residual-in_err-name.result c.from_residual-in_err-name.ensures.1 in
    rw (p.1, p.2) (reading_fails c.in_err-name.field-0.0 view_name expect_name (after_key key.Or) _ c.names.names.items (kinds c.names.rest.now) (kinds c.in-Some.behind.now) c.in-Some.ensures (key_shorter key.Or _ _ c.in-Some.ensures) c.in_err-name.ensures c.names.invariant)

pub names-preserved : goal.names-preserved
names-preserved c =
    rw c.in_ok-push-2.ensures.items (reading_more view_name expect_name (after_key key.Or) _ c.names.names.items (kinds c.names.rest.now) (kinds c.in-Some.behind.now) (kinds c.in_ok-name.after.now) c.in_ok-name.name c.in-Some.ensures c.in_ok-name.ensures (omega (arith, key_shorter key.Or (kinds c.names.rest.now) (kinds c.in-Some.behind.now) c.in-Some.ensures, name_shorter (kinds c.in-Some.behind.now) c.in_ok-name.name.text (kinds c.in_ok-name.after.now) c.in_ok-name.ensures)) c.names.invariant)

pub returns : goal.returns
returns c = reading_end view_name expect_name (after_key key.Or) _ c.names.names.items (kinds c.names.rest.now) c.in_default.ensures c.names.invariant
