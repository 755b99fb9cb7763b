use Rattle.std.proofs.Common.{rules, ◌<◌, ◌∷◌, [], pos, map, length, get_or, subst, arith}
use Rattle.std.proofs.lemmas.Int.{to_z-of_z}
use mir.Syntax.{w64}
use mir.Val.{SFits}
use Rattle.value_code.specs.Data.{Word}
use Rattle.value_tables.specs.Growing.{GrowsBy}
use Rattle.value_tables.proofs.Grown.{grows_more}
use Rattle.value_tables.proofs.Marks.{taken}
use Rattle.value_tables.proofs.Rows.{words_more}
use Rattle.value_tables.proofs.store.put_words.Goals as goal

pub loop-number-preserved : goal.loop-number-preserved
loop-number-preserved c =
    let zs = c.args.numbers.now in
    let k = c.loop-number.number-index in
    let z = get_or zs k (pos 0) in
    let lt : k < length zs = c.loop-number-test.true in
    let fits : SFits w64 z = search rules in
    let put = c.in_ok-put_word.ensures {u = tt} in (
      omega (arith, put.place, c.loop-number.invariant.0),
      λ m.
          subst (λ ds. GrowsBy m c.args.store.now c.put_word.new.store ds) (words_more zs k lt)
          (grows_more m c.args.store.now c.loop-number.store c.put_word.new.store _ (Word z ∷ []) (c.loop-number.invariant.1 m)
          (subst (λ y. GrowsBy m c.loop-number.store c.put_word.new.store (Word y ∷ [])) (to_z-of_z w64 z fits) (put.data m))),
    )

pub returns-clause-data : goal.returns-clause-data
returns-clause-data c m =
    subst (λ zs. GrowsBy m c.args.store.now c.loop-number.store (map (λ z. Word z) zs))
    (taken c.args.numbers.now c.loop-number.number-index c.loop-number-test.false) (c.loop-number.invariant.1 m)
