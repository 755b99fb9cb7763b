use Rattle.std.proofs.Common.{ap, ◌∙◌}
use Rattle.value_frames.specs.Frames.{Form}
use Rattle.value_code.specs.Operands.{by_form}
use Rattle.value_operands.specs.Seen.{scene_of}
use Rattle.value_operands.proofs.scene.Scene.in_slot.Goals as goal

pub returns : goal.returns
returns c = c.by_form.ensures ∙ ap (λ (f : Form). by_form (scene_of c.args.self.now) f c.args.slot) c.form_of.ensures
