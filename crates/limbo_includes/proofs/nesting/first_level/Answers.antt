use Rattle.std.proofs.Common.{ℕ, ◌++◌, ◌∷◌, [], List, Bool, true, false, replicate, ap, sym, ◌∙◌}
use Rattle.limbo_includes.proofs.Levels.{level_first}
use Rattle.limbo_includes.proofs.nesting.first_level.Goals as goal

pub returns : goal.returns
returns c = λ g q.
    level_first g c.push.new.self.items
    (c.in_ok-push.ensures.items ∙ ap (λ (z : List Bool). z ++ true ∷ []) (c.in_ok-marks.ensures.items_if_clones_equal (λ y h. h) ∙ ap (λ (n : ℕ). replicate n false) (sym q)))
