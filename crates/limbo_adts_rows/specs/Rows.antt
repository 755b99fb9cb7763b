-- The one adt of one field.
use Rattle.std.specs.Prelude.{List, [], ◌∷◌}
use Rattle.limbo_types.specs.Types.{Ty}
use Rattle.limbo_layout.specs.Adts.{Def}

abbrev pub one : Ty → List Def
one t = record { name = []; fields = record { name = []; ty = t } ∷ []; picks = [] } ∷ []
