-- Instructions that are turned round when they are all written.
use Rattle.std.proofs.Common.{◌≡◌, List, [], ◌∷◌, ◌++◌, map, reverse, refl, sym, ap, ◌∙◌}
use Rattle.std.proofs.lemmas.List.{map-append, reverse-append}
use Rattle.core_data.specs.declared.code.Inst as code_inst
use Rattle.core_data.specs.View.{view_inst}
use Rattle.limbo_lower.specs.Written.{written}

pub written_none : written [] ≡ []
unfolding written
written_none = refl

pub turned_round : (is : List code_inst.Inst) → map view_inst (reverse is) ≡ written is
unfolding written
turned_round [] = refl
turned_round (i ∷ is) =
    ap (map view_inst) (reverse-append (i ∷ []) is) ∙ map-append view_inst (reverse is) (i ∷ [])
    ∙ ap (λ xs. xs ++ view_inst i ∷ []) (turned_round is) ∙ sym (reverse-append (view_inst i ∷ []) (map view_inst is))
