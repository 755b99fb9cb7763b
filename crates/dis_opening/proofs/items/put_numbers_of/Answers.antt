use Rattle.std.proofs.Common.{◌+◌, ap, sym, ◌∙◌}
use Rattle.dis_meaning.specs.Words.{Found, ◌>>=◌}
use Rattle.dis_counts.specs.Opening.{loading}
use Rattle.dis_places.specs.View.{view_world}
use Rattle.dis_opening.specs.Loading.{view_loading, numbers_stored}
use Rattle.dis_opening.proofs.Refusing.{gives_on, gives_same}
use Rattle.dis_opening.proofs.Numbering.{as_numbers}
use Rattle.dis_opening.proofs.items.put_numbers_of.Goals as goal

pub returns-clause-gives : goal.returns-clause-gives
returns-clause-gives c =
    let l = view_loading c.args.loading.now in
    let from = l.here.from + c.args.item.now.offset in
    gives_same c.put_numbers.result _ _ _
    (as_numbers c.args.kind l c.args.item.now.offset c.args.item.now.content
    ∙ ap (λ bytes. numbers_stored c.args.kind l.world l.here.serial from bytes >>= λ y. Found (loading y l.here l.back)) (sym c.as_slice.ensures))
    (gives_on c.put_numbers.result (numbers_stored c.args.kind l.world l.here.serial from c.as_slice.result.now) (λ _. view_world c.put_numbers.new.memory)
    (λ y. loading y l.here l.back) c.put_numbers.ensures.gives)
