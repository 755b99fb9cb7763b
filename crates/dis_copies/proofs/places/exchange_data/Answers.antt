use Rattle.std.proofs.Common.{◌≡◌, sym, ap, ◌∙◌}
use Rattle.dis_meaning.specs.Words.{Found, Wrong, ◌>>=◌}
use Rattle.dis_memory.specs.Places.{with_data}
use Rattle.dis_places.specs.View.{view_world}
use Rattle.dis_places.specs.Words.{number_of, view_words}
use Rattle.dis_copies.specs.Spans.{meets, over}
use Rattle.dis_copies.proofs.Datas.{on_well}
use Rattle.dis_copies.proofs.places.exchange_data.Goals as goal

pub exchange_reached-requires-clause-reached : goal.exchange_reached-requires-clause-reached
exchange_reached-requires-clause-reached c = (c.in-Ok.ensures {u = tt}).words c.args.memory.now.tables

pub exchange_reached-requires-clause-meets : goal.exchange_reached-requires-clause-meets
exchange_reached-requires-clause-meets c =
    sym (ap (λ a. a >>= λ ws. meets ws c.args.from (view_words c.args.words.now)) ((c.in-Ok.ensures {u = tt}).words c.args.memory.now.tables)) ∙ c.requires.meets

pub unreachable-requires : goal.unreachable-requires
unreachable-requires c =
    let a : Wrong (number_of c.in-Err.field-0) ≡ Found tt =
    sym (ap (λ a. a >>= λ ws. meets ws c.args.from (view_words c.args.words.now)) ((c.in-Err.ensures {u = tt}).words c.args.memory.now.tables)) ∙ c.requires.meets in
    absurd cc

pub returns-clause-over : goal.returns-clause-over
returns-clause-over c =
    let x = view_world c.args.memory.now in
    let s = c.args.block.serial in
    on_well c.exchange_reached.result
    (λ e. ap (λ a. a >>= λ ws. with_data x s (over ws c.args.from (view_words c.args.words.now))) ((c.in-Ok.ensures {u = tt}).words c.args.memory.now.tables) ∙ e)
    c.exchange_reached.ensures.over
