use Rattle.std.proofs.Common.{◌≡◌, ◌+◌, ◌<◌, length, drop, Some, get_or, refl, sym, ap, ◌∙◌, arith}
use Rattle.std.specs.Prelude.{slice_get, slice_set}
use Rattle.std.proofs.lemmas.List.{map-set, length-map}
use Rattle.std.proofs.lemmas.Option.{slice_get-get_or, slice_get_read}
use Rattle.ref_heap.specs.declared.word.Word.TheVariants as word
use Rattle.dis_places.specs.Words.{view_word, view_words}
use Rattle.dis_copies.specs.Spans.{meets, over}
use Rattle.dis_copies.proofs.Turns.{kinds_set, left_step, meets_step, met_within, named_step, row_fits}
use Rattle.dis_copies.proofs.rows.exchange_row.Goals as goal

pub index_mut-requires : goal.index_mut-requires
index_mut-requires c =
    let lt : c.loop-k.k < length c.loop-k.words = omega (arith, c.loop-k-test.true, c.loop-k.auto.words) in
    let a = met_within (view_words c.loop-k.row.items) c.loop-k.words c.args.from c.loop-k.k (word.Plain 0) (get_or c.loop-k.words c.loop-k.k (word.Plain 0))
    (slice_get-get_or c.loop-k.words c.loop-k.k (word.Plain 0) lt) c.loop-k.invariant.meets in
    let b = length-map c.loop-k.row.items view_word in
    let l = c.loop-k.row.ok.0 in
    omega (arith, a, b, l)

pub loop-k-preserved : goal.loop-k-preserved
loop-k-preserved c =
    let row = c.loop-k.row.items in
    let words = c.loop-k.words in
    let k = c.loop-k.k in
    let from = c.args.from in
    let new = c.swap.new.x in
    let was = c.swap.new.y in
    let lt : k < length words = omega (arith, c.loop-k-test.true, c.loop-k.auto.words) in
    let next : slice_get words k ≡ Some new = slice_get-get_or words k (word.Plain 0) lt ∙ ap Some (sym c.swap.ensures.x_after) in
    let a = met_within (view_words row) words from k was new next c.loop-k.invariant.meets in
    let b = length-map row view_word in
    let there : slice_get row (from + k) ≡ Some was = slice_get_read row (length row) (from + k) c.index_mut.result.now refl (omega (arith, a, b)) c.index_mut.ensures.value ∙ ap Some (sym c.swap.ensures.y_after) in
    let same = map-set view_word row (from + k) new in
    record {
      left =
          ap (λ ws. over ws (from + (k + 1)) (view_words (drop (k + 1) (slice_set words k was)))) same
          ∙ sym (left_step (view_words row) words from k was new next) ∙ c.loop-k.invariant.left;
      meets =
          ap (λ ws. meets ws (from + (k + 1)) (view_words (drop (k + 1) (slice_set words k was)))) same
          ∙ meets_step (view_words row) words from k was new next c.loop-k.invariant.meets;
      kinds = kinds_set words k was new next (row_fits row words from k was new there next c.loop-k.invariant.meets) ∙ c.loop-k.invariant.kinds;
      named = λ n. named_step row words (from + k) k was new n there next ∙ c.loop-k.invariant.named n;
    }
