use Rattle.std.proofs.Common.{refl, ap, ◌∙◌}
use Rattle.std.proofs.lemmas.List.{map-append}
use Rattle.limbo_includes.specs.View.{view_row, view_standing}
use Rattle.limbo_includes.proofs.Growing.{laid_one}
use Rattle.limbo_includes.proofs.row.stand.Goals as goal

pub returns-clause-laid : goal.returns-clause-laid
returns-clause-laid c = λ included a.
    laid_one included c.args.path.now c.args.top.now c.args.row.now (record { out = c.push.new.self; seen = c.args.row.now.seen }) c.requires
    (ap view_row c.in_ok-push.ensures.items ∙ map-append view_standing c.args.row.now.out.items _) refl a
