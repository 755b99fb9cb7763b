use Rattle.std.proofs.Common.{ap₂, ◌∙◌}
use Rattle.std.proofs.lemmas.Result.{IfOk-weaker}
use Rattle.clap.specs.Words.{with_rule}
use Rattle.inferno_words.specs.Forms.{dump_form}
use Rattle.inferno_words.proofs.form.dump_form.Goals as goal

pub returns : goal.returns
unfolding dump_form
returns c = IfOk-weaker c.arg.result _ _ (λ m h. h.shape c.file.ensures.local ∙ ap₂ with_rule c.new.ensures.app c.file.ensures.rule) c.arg.ensures
