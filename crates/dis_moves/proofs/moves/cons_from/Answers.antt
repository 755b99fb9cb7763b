use Rattle.std.proofs.Common.{◌≡◌, sym, ap, ◌∙◌, rules}
use Rattle.limbo_values.specs.declared.number.Kind.TheVariants.{Int}
use Rattle.dis_meaning.specs.Places.{place_in}
use Rattle.dis_meaning.specs.Words.{Found, ◌>>=◌, at_least_zero, blank}
use Rattle.dis_memory.specs.Copies.{moved}
use Rattle.dis_memory.specs.Lists.{conses, plain_type}
use Rattle.dis_memory.specs.Places.{given_of}
use Rattle.dis_copies.specs.Spans.{none_refers}
use Rattle.dis_copies.proofs.Turns.{plain_bare}
use Rattle.dis_places.specs.Regions.{words_here}
use Rattle.dis_places.specs.View.{view_process, view_spot, view_world}
use Rattle.dis_places.specs.Words.{view_words}
use Rattle.dis_results.proofs.Onward.{goes_same}
use Rattle.dis_lists.proofs.Linked.{bare_live}
use Rattle.dis_moves.proofs.moves.cons_from.Goals as goal

pub cons-requires-clause-live : goal.cons-requires-clause-live
cons-requires-clause-live c =
    let ws = c.deref.result.now in
    bare_live c.args.memory.now.heap ws
    (plain_bare ws (ap (λ ws. none_refers (view_words ws)) c.deref.ensures.value ∙ c.in-Ok-copied_words.ensures.plain))

pub returns-in-Ok-copied_words-clause-goes : goal.returns-in-Ok-copied_words-clause-goes
returns-in-Ok-copied_words-clause-goes c =
    let m = c.args.memory.now in
    let x = view_world m in
    let p = view_process c.args.process.now in
    let i = c.args.inst in
    let s = view_spot c.args.spot in
    let source = words_here m.heap c.args.process.now c.in-Ok.source in
    let from = c.in-Ok-byte_number.from in
    let count = c.in-Ok-count_in.count in
    let at : at_least_zero (place_in s) ≡ Found from = search rules in
    λ o. goes_same m c.cons.new.memory c.args.process.now c.cons.new.process c.cons.result _ _
    (ap
    (λ a. a >>= λ source. at_least_zero (place_in s) >>= λ from. given_of Int x p i.middle >>= at_least_zero >>= λ count.
    moved source from (blank (plain_type count)) 0 count >>= λ element. conses o x p i (Found element))
    c.in-Ok.ensures
    ∙ ap
    (λ a. a >>= λ from. given_of Int x p i.middle >>= at_least_zero >>= λ count.
    moved source from (blank (plain_type count)) 0 count >>= λ element. conses o x p i (Found element)) at
    ∙ ap (λ a. a >>= λ count. moved source from (blank (plain_type count)) 0 count >>= λ element. conses o x p i (Found element)) c.in-Ok-count_in.ensures.count
    ∙ ap (λ a. a >>= λ element. conses o x p i (Found element)) c.in-Ok-copied_words.ensures.words
    ∙ ap (λ ws. conses o x p i (Found (view_words ws))) (sym c.deref.ensures.value))
    (c.cons.ensures.goes o)
