use Rattle.std.proofs.Common.{◌≡◌, length, ◌/◌, ap, ◌∙◌, rules}
use Rattle.dis_meaning.specs.Words.{Found, ◌>>=◌}
use Rattle.dis_memory.specs.Copies.{plain_words}
use Rattle.dis_copies.specs.Spans.{over}
use Rattle.dis_places.specs.Regions.{words_here}
use Rattle.dis_places.specs.Words.{view_words, Halts}
use Rattle.dis_moves.specs.Bytes.{touched}
use Rattle.dis_moves.proofs.Windows.{bytes_over, wrong_then}
use Rattle.dis_moves.proofs.bytes.bytes_over.Goals as goal

pub returns-in-Err-clause-fault : goal.returns-in-Err-clause-fault
returns-in-Err-clause-fault c =
    let ws = words_here c.args.memory.now.heap c.args.process.now c.args.region in
    let h : Halts c.in-Err.halt (plain_words ws (c.args.to / 4) (touched c.args.to (length c.args.bytes.now))) = search rules in
    wrong_then ws c.args.to c.args.bytes.now c.in-Err.halt h

pub returns-in-Ok-set_bytes-clause-put : goal.returns-in-Ok-set_bytes-clause-put
returns-in-Ok-set_bytes-clause-put c =
    let ws = words_here c.args.memory.now.heap c.args.process.now c.args.region in
    let bs = c.args.bytes.now in
    let e : plain_words ws (c.args.to / 4) (touched c.args.to (length bs)) ≡ Found (view_words c.in-Ok.row.items) = search rules in
    (bytes_over ws c.args.to bs (view_words c.in-Ok.row.items) e).put _ c.in-Ok-set_bytes.ensures

pub returns-in-Ok-set_bytes-clause-plain : goal.returns-in-Ok-set_bytes-clause-plain
returns-in-Ok-set_bytes-clause-plain c =
    let ws = words_here c.args.memory.now.heap c.args.process.now c.args.region in
    let bs = c.args.bytes.now in
    let e : plain_words ws (c.args.to / 4) (touched c.args.to (length bs)) ≡ Found (view_words c.in-Ok.row.items) = search rules in
    (bytes_over ws c.args.to bs (view_words c.in-Ok.row.items) e).plain _ c.in-Ok-set_bytes.ensures

pub returns-in-Err-set_bytes-clause-fault : goal.returns-in-Err-set_bytes-clause-fault
returns-in-Err-set_bytes-clause-fault c =
    let ws = words_here c.args.memory.now.heap c.args.process.now c.args.region in
    let bs = c.args.bytes.now in
    let e : plain_words ws (c.args.to / 4) (touched c.args.to (length bs)) ≡ Found (view_words c.in-Ok.row.items) = search rules in
    (bytes_over ws c.args.to bs (view_words c.in-Ok.row.items) e).window
    ∙ ap (λ a. a >>= λ after. Found (over ws (c.args.to / 4) after)) (c.in-Err-set_bytes.ensures {u = tt})
