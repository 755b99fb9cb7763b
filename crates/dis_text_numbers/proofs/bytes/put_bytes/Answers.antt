use Rattle.std.proofs.Common.{◌≡◌, ◌+◌, ◌/◌, ◌<◌, ◌∷◌, length, drop, get_or, Some, refl, sym, ap, ◌∙◌, arith, add-one, drop-cons}
use Rattle.std.specs.Prelude.{slice_get, slice_set}
use Rattle.std.proofs.lemmas.List.{length-set}
use Rattle.std.proofs.lemmas.Option.{slice_get_read}
use Rattle.dis_memory.specs.Copies.{put_bytes}
use Rattle.dis_text_numbers.specs.Packed.{words_of}
use Rattle.dis_text_numbers.proofs.Putting.{put_step}
use Rattle.dis_text_numbers.proofs.bytes.put_bytes.Goals as goal

pub loop-at-preserved : goal.loop-at-preserved
loop-at-preserved c =
    let ws = c.loop-at.words.items in
    let bs = c.args.bytes.now in
    let k = c.loop-at.at in
    let b = get_or bs k 0 in
    let v = c.with_byte.result in
    let w = c.index.result.now in
    let inside : k < length bs = omega arith in
    let within : k / 4 < length ws = omega arith in
    let there : slice_get ws (k / 4) ≡ Some w = slice_get_read ws (length ws) (k / 4) w refl within c.index.ensures in
    let cut : drop k bs ≡ b ∷ drop (k + 1) bs = rw (add-one, drop-cons bs k 0) in
    record {
      long = length-set ws (k / 4) v ∙ c.loop-at.invariant.long;
      put = c.loop-at.invariant.put ∙ ap (put_bytes (words_of ws) k) cut ∙ put_step ws k b v w (drop (k + 1) bs) there c.with_byte.ensures
          ∙ ap (λ n. put_bytes (words_of (slice_set ws (k / 4) v)) n (drop (k + 1) bs)) (sym (add-one k));
    }
