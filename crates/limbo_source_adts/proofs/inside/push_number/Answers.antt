use Rattle.std.proofs.Common.{◌++◌, ◌∷◌, [], ap, ◌∙◌}
use Rattle.limbo_source_adts.proofs.Insides.{set_rows}
use Rattle.limbo_source_adts.proofs.inside.push_number.Goals as goal

pub returns : goal.returns
returns c =
    set_rows c.args.all.now.items c.args.outer c.args.number c.push.new.self c.index_mut.result.now c.requires.there
    (c.in_ok-push.ensures.items ∙ ap (λ v. v.items ++ (c.args.number ∷ [])) c.index_mut.ensures.value)
