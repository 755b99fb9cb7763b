use Rattle.std.proofs.Common.{◌≡◌, ◌+◌, ◌<◌, length, drop, Some, get_or, refl, sym, ap, ◌∙◌, subst, add-zero, arith}
use Rattle.std.specs.Prelude.{slice_get, slice_set}
use Rattle.std.proofs.lemmas.Option.{slice_get-get_or}
use Rattle.ref_heap.specs.declared.word.Word.TheVariants as word
use Rattle.ref_heap.specs.Store.{at}
use Rattle.dis_places.specs.Regions.{block_words}
use Rattle.dis_places.specs.Words.{view_words}
use Rattle.dis_copies.specs.Changes.{TakesAll}
use Rattle.dis_copies.specs.Spans.{meets, over}
use Rattle.dis_copies.proofs.Changes.{changed_first, changed_more, exchanged_words, takes_kept}
use Rattle.dis_copies.proofs.Turns.{drop_at, drop_set, kinds_set, left_step, meets_step, named_has, named_set}
use Rattle.dis_copies.proofs.blocks.exchange_taken.Goals as goal

pub loop-k-init : goal.loop-k-init
loop-k-init c =
    let here = block_words (at c.args.heap.now c.args.block.serial) in
    let vs = view_words c.args.words.now in
    record {
      left = ap (λ j. over here j vs) (add-zero c.args.from);
      meets = ap (λ j. meets here j vs) (add-zero c.args.from) ∙ c.requires.meets;
      changed = changed_first c.args.heap.now c.args.block.serial c.stands.ensures c.requires.live;
      takes = c.requires.takes;
      kinds = refl;
      named = λ n. refl;
    }

pub exchange_word-requires-clause-held : goal.exchange_word-requires-clause-held
exchange_word-requires-clause-held c = λ n.
    let lt : c.loop-k.k < length c.loop-k.words = omega (arith, c.loop-k-test.true, c.loop-k.auto.words) in
    let a = c.loop-k.invariant.named n in
    let b = c.requires.held n in
    let d = named_has c.loop-k.words c.loop-k.k (get_or c.loop-k.words c.loop-k.k (word.Plain 0)) n (slice_get-get_or c.loop-k.words c.loop-k.k (word.Plain 0) lt) in
    omega (arith, a, b, d)

pub loop-k-preserved : goal.loop-k-preserved
loop-k-preserved c =
    let h = c.loop-k.heap in
    let h1 = c.exchange_word.new.heap in
    let s = c.args.block.serial in
    let here = block_words (at h s) in
    let words = c.loop-k.words in
    let k = c.loop-k.k in
    let from = c.args.from in
    let new = get_or words k (word.Plain 0) in
    let was = c.exchange_word.result in
    let lt : k < length words = omega (arith, c.loop-k-test.true, c.loop-k.auto.words) in
    let next : slice_get words k ≡ Some new = slice_get-get_or words k (word.Plain 0) lt in
    let x = c.exchange_word.ensures.exchanged in
    let same = exchanged_words h h1 s (from + k) new was x in
    let inv = c.loop-k.invariant in
    record {
      left =
          ap (λ ws. over ws (from + (k + 1)) (view_words (drop (k + 1) (slice_set words k was)))) same
          ∙ sym (left_step here words from k was new next) ∙ inv.left;
      meets =
          ap (λ ws. meets ws (from + (k + 1)) (view_words (drop (k + 1) (slice_set words k was)))) same
          ∙ meets_step here words from k was new next inv.meets;
      changed = changed_more c.args.heap.now h h1 s (from + k) here new was inv.changed x;
      takes = λ b there.
          subst (TakesAll b.content) (sym (drop_set words k was))
          (takes_kept inv.changed.now.content b.content (drop (k + 1) words) (c.exchange_word.ensures.takes inv.changed.now b inv.changed.is there)
          (subst (TakesAll inv.changed.now.content) (drop_at words k new next) (inv.takes inv.changed.now inv.changed.is)).1);
      kinds = kinds_set words k was new next x.fits ∙ inv.kinds;
      named = λ n. let a = inv.named n in let b = x.outside n in let d = named_set words k new was n next in omega (arith, a, b, d);
    }
