use Rattle.std.proofs.Common.{List, ℕ, ap, ◌∙◌}
use Rattle.value_rooms.specs.Names.{names_round, view_names}
use Rattle.value_rooms.specs.Tables.{view_parts}
use Rattle.value_rooms.proofs.Naming.{one_more}
use Rattle.value_rooms.proofs.names.names_of.Goals as goal

pub loop-preserved : goal.loop-preserved
loop-preserved c =
    let table = c.args.table.now in
    let all = view_parts c.args.all.now in
    c.in_ok-names.ensures
    ∙ ap (λ (adts : List (List ℕ)). names_round table all adts) (ap view_names c.deref.ensures.value ∙ c.loop.invariant)
    ∙ one_more table all c.loop.counter
