use Rattle.std.proofs.Common.{ap₂, ◌∙◌}
use Rattle.std.proofs.lemmas.Result.{IfOk-weaker}
use Rattle.clap.specs.Words.{with_rule}
use Rattle.inferno_words.specs.Forms.{limbo_form}
use Rattle.inferno_words.proofs.form.limbo_form.Goals as goal

pub returns : goal.returns
unfolding limbo_form
returns c = IfOk-weaker c.arg-2.result _ _ (λ m h. h.shape c.out.ensures.local ∙ ap₂ with_rule
    (c.in_ok-arg.ensures.shape c.file.ensures.local ∙ ap₂ with_rule c.new.ensures.app c.file.ensures.rule) c.out.ensures.rule) c.arg-2.ensures
