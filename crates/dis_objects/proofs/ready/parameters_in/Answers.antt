use Rattle.std.proofs.Common.{length, refl, sym, ◌∙◌}
use Rattle.std.proofs.lemmas.Option.{slice_get_read, slice_get_past}
use Rattle.dis_objects.proofs.Walks.{parameters_some, parameters_none}
use Rattle.dis_objects.proofs.ready.parameters_in.Goals as goal

pub returns-in-Some : goal.returns-in-Some
returns-in-Some c =
    let fs = c.args.functions.now in
    let h = c.in-Some.ensures.lookup in
    c.parameters_of.ensures ∙ sym (parameters_some fs c.args.number c.in-Some.function.now
    (slice_get_read fs (length fs) c.args.number c.in-Some.function.now refl h.3.0 h.1))

pub returns-in-None : goal.returns-in-None
returns-in-None c =
    let fs = c.args.functions.now in
    let h = c.in-None.ensures.lookup in
    sym (parameters_none fs c.args.number (slice_get_past fs c.args.number h.3))
