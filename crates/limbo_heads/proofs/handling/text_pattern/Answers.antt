use Rattle.std.proofs.Common.{sym, ap, ◌∙◌, List, ℕ}
use Rattle.limbo_typed.specs.declared.stmt.HandlerPattern.TheVariants as handler
use Rattle.limbo_heads.proofs.Naming.{prefix_pattern, whole_pattern}
use Rattle.limbo_heads.proofs.handling.text_pattern.Goals as goal

pub returns-in_ok-text_of-in-Some : goal.returns-in_ok-text_of-in-Some
returns-in_ok-text_of-in-Some c =
    ap (λ (s : List ℕ). handler.Prefix s) c.in_ok-text_of-in-Some.ensures
    ∙ prefix_pattern c.args.text.now c.in-Some.front.now c.in-Some.last.now (sym c.as_slice.ensures ∙ c.in-Some.ensures.cases.0)
    c.if-last-eq42.true

pub returns-in_ok-clone-in-Some : goal.returns-in_ok-clone-in-Some
returns-in_ok-clone-in-Some c =
    ap (λ (s : List ℕ). handler.Chars s) c.in_ok-clone-in-Some.ensures.cases
    ∙ whole_pattern c.args.text.now c.in-Some.front.now c.in-Some.last.now (sym c.as_slice.ensures ∙ c.in-Some.ensures.cases.0)
    c.if-last-eq42.false
