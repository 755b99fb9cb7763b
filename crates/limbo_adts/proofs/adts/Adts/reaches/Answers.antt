use Rattle.std.proofs.Common.{◌≡◌, ◌↔◌, IsTrue, sym, ap, subst, ◌∙◌}
use Rattle.limbo_types.specs.View.{view_ty}
use Rattle.limbo_layout.specs.View.{view_defs}
use Rattle.limbo_adts.specs.Closed.{rows}
use Rattle.limbo_adts.specs.Reading.{reach}
use Rattle.limbo_adts.specs.Reaches.{Reaches}
use Rattle.limbo_adts.specs.Table.{Table, defs_of}
use Rattle.limbo_adts.proofs.Reach.{reach_sound, reach_whole}
use Rattle.limbo_adts.proofs.adts.Adts.reaches.Goals as goal

pub returns : goal.returns
returns c =
    let t = view_ty c.args.from.now in
    let u = view_ty c.args.to.now in
    let lists = rows c.self.inside.closed.items in
    let r : c.reaches_by.result ≡ reach (view_defs c.self.inside.defs.items) lists t u =
    c.reaches_by.ensures ∙ ap (λ ds. reach (view_defs ds) (rows c.deref-2.result.now) t u) c.deref.ensures.value ∙ ap (λ vs. reach (view_defs c.self.inside.defs.items) (rows vs) t u) c.deref-2.ensures.value in
    let both : IsTrue c.reaches_by.result ↔ Reaches (view_defs c.self.inside.defs.items) t u =
    (λ h. reach_sound (view_defs c.self.inside.defs.items) lists c.self.invariant.closed t u (sym r ∙ h), λ h. r ∙ reach_whole (view_defs c.self.inside.defs.items) lists c.self.invariant.closed t u h) in
    subst (λ (z : Table). IsTrue c.reaches_by.result ↔ Reaches (defs_of z) t u) c.self.view_is both
