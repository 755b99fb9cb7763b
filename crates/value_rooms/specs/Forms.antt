-- The forms of the code.
use Rattle.value_frames.specs.Frames as frames
use Rattle.value_rooms.specs.declared.form.Form.TheVariants as code
use Rattle.value_rooms.specs.declared.form.Form.{Form}

abbrev pub view_form : Form → frames.Form
view_form code.Nowhere = frames.Nowhere
view_form code.AsNumber = frames.AsNumber
view_form code.AsReference = frames.AsReference
view_form code.Boxed = frames.Boxed
