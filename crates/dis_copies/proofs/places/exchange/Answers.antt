use Rattle.std.proofs.Common.{◌≡◌, sym, subst}
use Rattle.std.specs.Prelude.{OnOk}
use Rattle.dis_meaning.specs.Words.{Found}
use Rattle.dis_memory.specs.Places as places
use Rattle.dis_places.specs.View.{view_process, view_spot, view_world}
use Rattle.dis_places.specs.Words.{view_words}
use Rattle.dis_stores.specs.Storing.{rested, settled}
use Rattle.dis_copies.specs.Spans.{over_at}
use Rattle.dis_copies.proofs.places.exchange.Goals as goal

pub returns-in-Far-clause-over : goal.returns-in-Far-clause-over
returns-in-Far-clause-over c =
    let x = view_world c.args.memory.now in
    let p = view_process c.args.process.now in
    subst
    (λ s. OnOk c.exchange_far.result (rested (over_at x p (view_spot s) c.args.from (view_words c.args.words.now))
    ≡ Found (places.memory (view_world c.exchange_far.new.memory) (settled (view_process c.exchange_far.new.process)))))
    (sym c.in-Far.is) (c.exchange_far.ensures.over c.in-Far.field-1)
