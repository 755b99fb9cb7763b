use Rattle.std.proofs.Common.{map, subst, List, ap, ◌∙◌}
use Rattle.std.specs.Prelude.{IsTrue, ◌↔◌, ◌≤ℤ◌, count_by}
use Rattle.std.specs.Borrow.{Bor}
use Rattle.std.specs.List.{filter_map}
use Rattle.limbo_cases.specs.Labels.{Apart}
use Rattle.limbo_cases.specs.Texts.{TextAtMost}
use Rattle.limbo_typed.specs.declared.stmt.CasePattern.{CasePattern}
use Rattle.limbo_typed.specs.View.{view_case_arm, heads_of}
use Rattle.limbo_stmt_values.specs.limbo_stating.Cases.{is_star}
use Rattle.limbo_heads.specs.Labels.{label_in, number_in, text_in}
use Rattle.limbo_heads.proofs.Labelled.{all_apart}
use Rattle.limbo_heads.proofs.apart.are_apart.Goals as goal

pub returns : goal.returns
returns c =
    let ps = c.in_ok-patterns.patterns.items in
    let m =
    subst
    (λ (qs : List (Bor CasePattern)). IsTrue c.in_ok-numbers.numbers ↔ Apart ◌≤ℤ◌ (filter_map (label_in number_in) (map (λ p. p.now) qs)))
    c.deref.ensures.value c.in_ok-numbers.ensures in
    let n =
    subst
    (λ (qs : List (Bor CasePattern)). IsTrue c.in_ok-texts.texts ↔ Apart TextAtMost (filter_map (label_in text_in) (map (λ p. p.now) qs)))
    c.deref-2.ensures.value c.in_ok-texts.ensures in
    let s = c.stars.ensures ∙ ap (λ (qs : List (Bor CasePattern)). count_by (λ p. is_star p.now) qs) c.deref-3.ensures.value in
    all_apart (heads_of (map view_case_arm c.args.arms.now)) ps c.in_ok-numbers.numbers c.in_ok-texts.texts c.are_all.result c.stars.result
    c.in_ok-patterns.ensures m n s c.are_all.ensures
