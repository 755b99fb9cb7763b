use Rattle.std.proofs.Common.{◌+◌, sym, subst, arith}
use Rattle.dis_memory.specs.Copies.{bytes_from}
use Rattle.dis_places.specs.Regions.{words_here}
use Rattle.dis_places.specs.Words.{number_of}
use Rattle.dis_kinds.proofs.Steps.{Goes, nth_byte, bytes_steps, goes, goes_on, stops, ends, faulted}
use Rattle.dis_kinds.proofs.copies.bytes_from.Goals as goal

pub loop-k-init : goal.loop-k-init
loop-k-init c =
    let W = words_here c.args.memory.now.heap c.args.process.now c.args.region in
    let f = nth_byte W c.args.from in
    let all = bytes_from W c.args.from c.args.count in
    subst (λ vs. Goes f all vs c.args.count 0) (sym (c.new-found.ensures.items)) (goes f all c.args.count (bytes_steps W c.args.from c.args.count))

pub returns-in_err-byte : goal.returns-in_err-byte
returns-in_err-byte c =
    let W = words_here c.args.memory.now.heap c.args.process.now c.args.region in
    let f = nth_byte W c.args.from in
    let all = bytes_from W c.args.from c.args.count in
    let fault = c.in_err-byte.field-0.0 in
    faulted (λ found. found.items) c.from_residual.result fault all c.from_residual.ensures.1
    (stops f all (c.loop-k.found.items) (number_of fault) c.args.count c.loop-k.k c.loop-k.invariant c.loop-k-test.true (c.in_err-byte.ensures {u = tt}))

pub loop-k-preserved : goal.loop-k-preserved
loop-k-preserved c =
    let W = words_here c.args.memory.now.heap c.args.process.now c.args.region in
    let f = nth_byte W c.args.from in
    let all = bytes_from W c.args.from c.args.count in
    subst (λ vs. Goes f all vs c.args.count (c.loop-k.k + 1)) (sym ((c.in_ok-push.ensures {u = tt}).items))
    (goes_on f all (c.loop-k.found.items) c.in_ok-byte.byte c.args.count c.loop-k.k c.loop-k.invariant (c.in_ok-byte.ensures {u = tt}))

pub returns : goal.returns
returns c =
    let W = words_here c.args.memory.now.heap c.args.process.now c.args.region in
    let e = c.loop-k.auto.k-end in
    let t = c.loop-k-test.false in
    ends (nth_byte W c.args.from) (bytes_from W c.args.from c.args.count) (c.loop-k.found.items) c.args.count c.loop-k.k c.loop-k.invariant (omega (arith, e, t))
