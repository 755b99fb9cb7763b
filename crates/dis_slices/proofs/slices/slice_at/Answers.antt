use Rattle.std.proofs.Common.{sym, ap, ◌∙◌, w32}
use Rattle.std.specs.Option.{option_map}
use Rattle.std.proofs.lemmas.Int.{to_z-of_z}
use Rattle.limbo_values.specs.Texts.{bounds_in}
use Rattle.dis_meaning.specs.Words.{◌>>=◌}
use Rattle.dis_memory.specs.Arrays.{copied, end_from}
use Rattle.dis_memory.specs.Kinds.{length_of}
use Rattle.dis_memory.specs.Raising.{unless_raised}
use Rattle.dis_kinds.specs.Views.{view_elements}
use Rattle.dis_places.specs.View.{view_process, view_world}
use Rattle.dis_results.proofs.Onward.{goes_same}
use Rattle.dis_slices.proofs.slices.slice_at.Goals as goal

pub returns-in-Ok-clause-goes : goal.returns-in-Ok-clause-goes
returns-in-Ok-clause-goes c =
    let m = c.args.memory.now in
    let x = view_world m in
    let p = view_process c.args.process.now in
    let s = option_map (view_elements m) c.args.source in
    let t = option_map (view_elements m) c.args.target in
    let at = c.args.at in
    let bounds =
    ap (λ n. bounds_in n at (end_from at (length_of s))) (sym (c.long_of.ensures m))
    ∙ ap (λ n. bounds_in c.long_of.result at (end_from at n)) (sym (c.long_of-2.ensures m))
    ∙ ap (λ z. bounds_in c.long_of.result z (end_from z c.long_of-2.result)) (sym (to_z-of_z w32 at c.ranges.at))
    ∙ (c.in-Ok.ensures {u = tt}).within in
    goes_same m c.give_copied.new.memory c.args.process.now c.give_copied.new.process c.give_copied.result _ _
    (ap (λ r. unless_raised r >>= λ b. copied x p s t b.0) bounds)
    c.give_copied.ensures.goes

pub returns-in-Err-clause-goes : goal.returns-in-Err-clause-goes
returns-in-Err-clause-goes c =
    let m = c.args.memory.now in
    let x = view_world m in
    let p = view_process c.args.process.now in
    let s = option_map (view_elements m) c.args.source in
    let t = option_map (view_elements m) c.args.target in
    let at = c.args.at in
    let bounds =
    ap (λ n. bounds_in n at (end_from at (length_of s))) (sym (c.long_of.ensures m))
    ∙ ap (λ n. bounds_in c.long_of.result at (end_from at n)) (sym (c.long_of-2.ensures m))
    ∙ ap (λ z. bounds_in c.long_of.result z (end_from z c.long_of-2.result)) (sym (to_z-of_z w32 at c.ranges.at))
    ∙ (c.in-Err.ensures {u = tt}).outside in
    ap (λ r. unless_raised r >>= λ b. copied x p s t b.0) bounds
