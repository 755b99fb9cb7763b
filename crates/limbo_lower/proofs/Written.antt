-- Code that is written from its end to its beginning.
use Rattle.std.proofs.Common.{◌≡◌, List, [], ◌∷◌, ◌++◌, length, map, reverse, ap, ◌∙◌}
use Rattle.std.proofs.lemmas.List.{map-append, reverse-append, length-reverse, length-map}
use Rattle.core_data.specs.declared.code.Inst as code_inst
use Rattle.core_data.specs.View.{view_inst}
use Rattle.limbo_lower.specs.Written.{written}

pub written_put : (is : List code_inst.Inst) (i : code_inst.Inst) → written (is ++ i ∷ []) ≡ view_inst i ∷ written is
unfolding written
written_put is i = ap reverse (map-append view_inst is (i ∷ [])) ∙ reverse-append (map view_inst is) (view_inst i ∷ [])

pub length_written : (is : List code_inst.Inst) → length (written is) ≡ length is
unfolding written
length_written is = length-reverse (map view_inst is) ∙ length-map is view_inst
