-- That the rows of each module have what they are built on.
use Rattle.limbo_typed.specs.Typed as typed
use Rattle.value_follows.specs.Rows.{Base}

abbrev pub BasesHold : Type 0
BasesHold = (m : typed.Module) → Base m
