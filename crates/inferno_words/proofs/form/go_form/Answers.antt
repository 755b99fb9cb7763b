use Rattle.std.proofs.Common.{ap₂, ◌∙◌}
use Rattle.std.proofs.lemmas.Result.{IfOk-weaker}
use Rattle.clap.specs.Words.{with_rule}
use Rattle.inferno_words.specs.Forms.{go_form}
use Rattle.inferno_words.proofs.form.go_form.Goals as goal

pub returns : goal.returns
unfolding go_form
returns c = IfOk-weaker c.arg-3.result _ _ (λ m h. h.shape c.stats.ensures.local ∙ ap₂ with_rule
    (c.in_ok-arg-2.ensures.shape c.quanta.ensures.local ∙ ap₂ with_rule
    (c.in_ok-arg.ensures.shape c.file.ensures.local ∙ ap₂ with_rule c.new.ensures.app c.file.ensures.rule) c.quanta.ensures.rule) c.stats.ensures.rule) c.arg-3.ensures
