use Rattle.std.proofs.Common.{◌≡◌, List, Bool, true, false, refl, sym, ap, ◌∙◌}
use Rattle.limbo_layout.specs.Adts.{Def}
use Rattle.limbo_layout.specs.View.{view_defs}
use Rattle.limbo_typed.specs.Typed.{Stmts}
use Rattle.limbo_typed.specs.View.{view_stmts}
use Rattle.limbo_paths.specs.Paths.{Through, Answers}
use Rattle.limbo_paths.specs.Walking.{all_fall}
use Rattle.limbo_paths.proofs.Sound.{all_sound}
use Rattle.limbo_paths.proofs.Whole.{all_whole}
use Rattle.limbo_paths.proofs.falling.falls_through.Goals as goal

answered : (defs : List Def) (ss : Stmts) (b : Bool) → b ≡ all_fall defs ss → (b ≡ false → Answers defs ss) × (Answers defs ss → b ≡ false)
answered defs ss true e = (λ h. absurd cc, λ never. absurd (never (all_sound defs ss (sym e))))
answered defs ss false e = (λ h l. let t = all_whole defs ss Through l in absurd cc, λ never. refl)

pub returns-clause-through : goal.returns-clause-through
returns-clause-through c =
    let e = c.all_fall.ensures ∙ ap (λ z. all_fall (view_defs z) (view_stmts c.args.body.now)) c.defs.ensures in
    (λ h. all_sound _ _ (sym e ∙ h), λ l. e ∙ all_whole _ _ Through l)

pub returns-clause-answers : goal.returns-clause-answers
returns-clause-answers c =
    let e = c.all_fall.ensures ∙ ap (λ z. all_fall (view_defs z) (view_stmts c.args.body.now)) c.defs.ensures in
    answered _ _ c.all_fall.result e
