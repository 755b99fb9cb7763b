use Rattle.std.proofs.Common.{◌≡◌, ap, sym, pos, [], ◌∷◌, ◌∙◌, rules}
use Rattle.limbo_values.specs.Numbers.{kind_of, value_of}
use Rattle.dis_meaning.specs.Words.{Plain, Found}
use Rattle.dis_meaning.specs.Numbers.{high_part, low_part, with_byte, with_number_at}
use Rattle.dis_memory.specs.Lists as lists
use Rattle.dis_memory.specs.Lists.{holder_of}
use Rattle.dis_places.specs.View.{view_process, view_world}
use Rattle.dis_places.specs.Words.{view_word}
use Rattle.dis_results.proofs.Onward.{goes_same}
use Rattle.dis_lists.proofs.conses.cons_of.Goals as goal

pub returns-in-Byte-clause-goes : goal.returns-in-Byte-clause-goes
returns-in-Byte-clause-goes c =
    let m = c.args.memory.now in
    let x = view_world m in
    let p = view_process c.args.process.now in
    let i = c.args.inst in
    let e : view_word c.plain-word.result ≡ Plain (with_byte (pos 0) 0 c.in-Byte.byte) = search rules in
    λ o. goes_same m c.cons.new.memory c.args.process.now c.cons.new.process c.cons.result _ _
    (ap (λ n. lists.conses o x p i (with_number_at (kind_of n) (holder_of (kind_of n)) (pos 0) (value_of n))) c.in-Byte.is
    ∙ ap (λ w. lists.conses o x p i (Found (w ∷ []))) (sym e))
    (c.cons.ensures.goes o)

pub returns-in-Int-clause-goes : goal.returns-in-Int-clause-goes
returns-in-Int-clause-goes c =
    let m = c.args.memory.now in
    let x = view_world m in
    let p = view_process c.args.process.now in
    let i = c.args.inst in
    let e : view_word c.plain-word-in-Int.result ≡ Plain c.in-Int.z = search rules in
    λ o. goes_same m c.cons-in-Int.new.memory c.args.process.now c.cons-in-Int.new.process c.cons-in-Int.result _ _
    (ap (λ n. lists.conses o x p i (with_number_at (kind_of n) (holder_of (kind_of n)) (pos 0) (value_of n))) c.in-Int.is
    ∙ ap (λ w. lists.conses o x p i (Found (w ∷ []))) (sym e))
    (c.cons-in-Int.ensures.goes o)

pub returns-in-Big-clause-goes : goal.returns-in-Big-clause-goes
returns-in-Big-clause-goes c =
    let m = c.args.memory.now in
    let x = view_world m in
    let p = view_process c.args.process.now in
    let i = c.args.inst in
    let z = c.in-Big.z in
    let e : view_word c.plain-high.result ≡ Plain (high_part z) = search rules in
    let f : view_word c.plain-low.result ≡ Plain (low_part z) = search rules in
    λ o. goes_same m c.cons-in-Big.new.memory c.args.process.now c.cons-in-Big.new.process c.cons-in-Big.result _ _
    (ap (λ n. lists.conses o x p i (with_number_at (kind_of n) (holder_of (kind_of n)) (pos 0) (value_of n))) c.in-Big.is
    ∙ ap (λ w. lists.conses o x p i (Found (w ∷ Plain (low_part z) ∷ []))) (sym e)
    ∙ ap (λ w. lists.conses o x p i (Found (view_word c.plain-high.result ∷ w ∷ []))) (sym f))
    (c.cons-in-Big.ensures.goes o)
