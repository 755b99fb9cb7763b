use Rattle.std.proofs.Common.{◌≡◌, List, [], sym, subst, ◌∙◌}
use Rattle.limbo_layout.specs.Adts.{Def, AreNamed}
use Rattle.limbo_types.specs.View.{view_ty}
use Rattle.limbo_adts_rows.proofs.Named.{one_named}
use Rattle.limbo_adts_rows.proofs.grown.Goals as goal

pub with-requires-clause-named : goal.with-requires-clause-named
with-requires-clause-named c =
    let x : c.in_ok-empty.empty.adts ≡ [] = c.in_ok-empty.ensures.adts ∙ c.new.ensures.items in
    let y : c.in_ok-empty.empty.modules ≡ [] = c.in_ok-empty.ensures.modules ∙ c.new-2.ensures.items in
    rw (x, y) (subst (λ (z : List Def). AreNamed z 0) (sym c.in_ok-single.ensures) (one_named (view_ty c.args.ty) c.requires))
