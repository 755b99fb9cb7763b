use Rattle.std.proofs.Common.{◌≡◌, true, false, sym, ap, ◌∙◌, arith, get_or, unwrap_or}
use Rattle.limbo_adts.proofs.Found.{visited_new, visited_known, is_unmarked, not_unmarked}
use Rattle.limbo_adts.proofs.closing.visit.Goals as goal

pub returns-then-unwrap_or : goal.returns-then-unwrap_or
returns-then-unwrap_or c =
    let e : get_or c.deref.result.now c.args.number true ≡ true = sym (c.if-unwrap_or.ensures ∙ ap (λ o. unwrap_or o true) c.copied.ensures ∙ c.get.ensures.lookup.4 (omega arith) true) in
    visited_known c.args.search.now.marks.items c.args.search.now.found.items c.args.number (not_unmarked c.args.search.now.marks.items c.args.number (rw c.deref.ensures.value at e))

pub returns : goal.returns
returns c =
    let e : get_or c.deref.result.now c.args.number true ≡ false = sym (c.if-unwrap_or.ensures ∙ ap (λ o. unwrap_or o true) c.copied.ensures ∙ c.get.ensures.lookup.4 (omega arith) true) in
    rw c.in_ok-push.ensures.items (visited_new c.args.search.now.marks.items c.args.search.now.found.items c.args.number (is_unmarked c.args.search.now.marks.items c.args.number (rw c.deref.ensures.value at e)))
