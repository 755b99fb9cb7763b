use Rattle.std.proofs.Common.{ℕ, ◌+◌, ◌*◌, ◌∷◌, ◌++◌, [], sym, ap, ◌∙◌, arith, append_assoc}
use Rattle.std.proofs.lemmas.List.FromFn.{map-range_with_len_more}
use Rattle.value_frames.specs.Frames.{region_references}
use Rattle.value_tables.proofs.regions.put_region.Goals as goal

pub loop-slot-preserved : goal.loop-slot-preserved
loop-slot-preserved c =
    let place = λ (s : ℕ). c.args.from + 8 * s + 4 in
    let n = c.loop-slot.slot in
    let old = c.args.places.now.items in
    (c.in_ok-push.ensures {u = tt}).items
    ∙ ap (λ xs. xs ++ place n ∷ []) c.loop-slot.invariant
    ∙ append_assoc old (region_references c.args.from n) (place n ∷ [])
    ∙ ap (λ xs. old ++ xs) (sym (map-range_with_len_more place 0 n n (omega arith)))
