use Rattle.std.proofs.Common.{◌+◌, ap, sym, ◌∙◌, subst, arith}
use Rattle.dis_meaning.specs.Words.{plain}
use Rattle.dis_memory.specs.Copies.{plain_words}
use Rattle.dis_places.specs.Regions.{words_here}
use Rattle.dis_places.specs.Words.{number_of, view_word, view_words}
use Rattle.dis_kinds.proofs.Steps.{Goes, nth_by, taken_steps, view_more, goes, goes_on, stops, ends, faulted}
use Rattle.dis_kinds.proofs.copies.plain_words.Goals as goal

pub loop-k-init : goal.loop-k-init
loop-k-init c =
    let W = words_here c.args.memory.now.heap c.args.process.now c.args.region in
    let f = nth_by W c.args.from plain in
    let all = plain_words W c.args.from c.args.count in
    subst (λ vs. Goes f all vs c.args.count 0) (sym (ap view_words c.new-found.ensures.items))
    (goes f all c.args.count (taken_steps W c.args.from plain c.args.count))

pub returns-in_err-word : goal.returns-in_err-word
returns-in_err-word c =
    let W = words_here c.args.memory.now.heap c.args.process.now c.args.region in
    let f = nth_by W c.args.from plain in
    let all = plain_words W c.args.from c.args.count in
    let fault = c.in_err-word.field-0.0 in
    faulted (λ found. view_words found.items) c.from_residual.result fault all c.from_residual.ensures.1
    (stops f all (view_words c.loop-k.found.items) (number_of fault) c.args.count c.loop-k.k c.loop-k.invariant c.loop-k-test.true
    (c.in_err-word.ensures {u = tt}))

pub loop-k-preserved : goal.loop-k-preserved
loop-k-preserved c =
    let W = words_here c.args.memory.now.heap c.args.process.now c.args.region in
    let f = nth_by W c.args.from plain in
    let all = plain_words W c.args.from c.args.count in
    subst (λ vs. Goes f all vs c.args.count (c.loop-k.k + 1))
    (sym (ap view_words (c.in_ok-push.ensures {u = tt}).items ∙ view_more c.loop-k.found.items c.in_ok-word.word))
    (goes_on f all (view_words c.loop-k.found.items) (view_word c.in_ok-word.word) c.args.count c.loop-k.k c.loop-k.invariant
    (c.in_ok-word.ensures {u = tt}))

pub returns : goal.returns
returns c =
    let W = words_here c.args.memory.now.heap c.args.process.now c.args.region in
    let f = nth_by W c.args.from plain in
    let all = plain_words W c.args.from c.args.count in
    let e = c.loop-k.auto.k-end in
    let t = c.loop-k-test.false in
    ends f all (view_words c.loop-k.found.items) c.args.count c.loop-k.k c.loop-k.invariant (omega (arith, e, t))
