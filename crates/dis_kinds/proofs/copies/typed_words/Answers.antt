use Rattle.std.proofs.Common.{◌+◌, ◌/◌, ap, sym, ◌∙◌, subst, arith}
use Rattle.dis_memory.specs.Copies.{typed_words}
use Rattle.dis_places.specs.Regions.{words_here}
use Rattle.dis_places.specs.Words.{number_of, view_word, view_words}
use Rattle.dis_kinds.proofs.Steps.{Goes, nth_marked, marked_there, typed_steps, view_more, goes, goes_on, stops, ends, faulted}
use Rattle.dis_kinds.proofs.copies.typed_words.Goals as goal

pub loop-k-init : goal.loop-k-init
loop-k-init c =
    let W = words_here c.args.memory.now.heap c.args.process.now c.args.region in
    let f = nth_marked W c.args.from c.args.desc.now in
    let all = typed_words c.args.desc.now W c.args.from in
    let count = c.args.desc.now.size / 4 in
    subst (λ vs. Goes f all vs count 0) (sym (ap view_words c.new-found.ensures.items))
    (goes f all count (typed_steps W c.args.from c.args.desc.now count))

pub returns-in_err-word : goal.returns-in_err-word
returns-in_err-word c =
    let W = words_here c.args.memory.now.heap c.args.process.now c.args.region in
    let f = nth_marked W c.args.from c.args.desc.now in
    let all = typed_words c.args.desc.now W c.args.from in
    let fault = c.in_err-word.field-0.0 in
    let there = marked_there W c.args.from c.args.desc.now c.loop-k.k c.is_reference-marked.result c.is_reference-marked.ensures in
    faulted (λ found. view_words found.items) c.from_residual.result fault all c.from_residual.ensures.1
    (stops f all (view_words c.loop-k.found.items) (number_of fault) (c.args.desc.now.size / 4) c.loop-k.k c.loop-k.invariant c.loop-k-test.true
    (there ∙ c.in_err-word.ensures {u = tt}))

pub loop-k-preserved : goal.loop-k-preserved
loop-k-preserved c =
    let W = words_here c.args.memory.now.heap c.args.process.now c.args.region in
    let f = nth_marked W c.args.from c.args.desc.now in
    let all = typed_words c.args.desc.now W c.args.from in
    let count = c.args.desc.now.size / 4 in
    let there = marked_there W c.args.from c.args.desc.now c.loop-k.k c.is_reference-marked.result c.is_reference-marked.ensures in
    subst (λ vs. Goes f all vs count (c.loop-k.k + 1)) (sym (ap view_words (c.in_ok-push.ensures {u = tt}).items ∙ view_more c.loop-k.found.items c.in_ok-word.word))
    (goes_on f all (view_words c.loop-k.found.items) (view_word c.in_ok-word.word) count c.loop-k.k c.loop-k.invariant
    (there ∙ c.in_ok-word.ensures {u = tt}))

pub returns : goal.returns
returns c =
    let W = words_here c.args.memory.now.heap c.args.process.now c.args.region in
    let f = nth_marked W c.args.from c.args.desc.now in
    let all = typed_words c.args.desc.now W c.args.from in
    let e = c.loop-k.auto.k-end in
    let t = c.loop-k-test.false in
    ends f all (view_words c.loop-k.found.items) (c.args.desc.now.size / 4) c.loop-k.k c.loop-k.invariant (omega (arith, e, t))
