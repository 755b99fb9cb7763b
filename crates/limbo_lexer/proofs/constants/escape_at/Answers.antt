use Rattle.std.proofs.Common.{sym, arith, ◌∙◌}
use Rattle.limbo_lexer.proofs.Fronts.{item_is, behind}
use Rattle.limbo_lexer.proofs.Codes.{escape_begins, code_begins, no_code}
use Rattle.limbo_lexer.proofs.constants.escape_at.Goals as goal

pub returns-in_err-char : goal.returns-in_err-char
returns-in_err-char c =
    let s = c.args.text.now in
    let u = item_is s 1 c.index-text-1.result (omega arith) c.index-text-1.is ∙ c.if-text-eq117.true in
    rw c.from_residual.ensures (λ q. no_code s c.requires u q (rw behind at (c.in_err-char.ensures.refused q)))

pub returns-then-text-eq117 : goal.returns-then-text-eq117
returns-then-text-eq117 c =
    let s = c.args.text.now in
    let u = item_is s 1 c.index-text-1.result (omega arith) c.index-text-1.is ∙ c.if-text-eq117.true in
    λ q. let h = rw behind at (c.in_ok-char.ensures.found q) in
    rw behind (code_begins s c.in_ok-char.char c.requires (omega arith) u q h.0 h.1)

pub returns : goal.returns
returns c =
    let s = c.args.text.now in
    let x = item_is s 1 c.index-text-1-2.result (omega arith) c.index-text-1-2.is in
    λ q. rw behind (escape_begins s c.index-text-1-2.result c.in_ok-char-2.char c.requires (omega arith) x (sym c.in_ok-char-2.ensures) q)
