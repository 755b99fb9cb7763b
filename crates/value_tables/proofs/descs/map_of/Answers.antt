use Rattle.std.proofs.Common.{◌≡◌, ◌++◌, ◌∷◌, [], ◌*◌, ◌<◌, ◌+◌, length, drop, ap, ◌∙◌, arith}
use Rattle.value_heaps.specs.Types.{bits}
use Rattle.value_tables.proofs.Maps.{map_all, range_is, next_byte}
use Rattle.value_tables.proofs.descs.map_of.Goals as goal

pub loop-number-preserved : goal.loop-number-preserved
loop-number-preserved c =
    let marks = c.args.marks.now in
    let n = c.loop-number.number in
    let made = c.loop-number.map.items in
    let lt : 8 * n < length marks = omega (arith, c.div_ceil-number-end.ensures, c.loop-number-test.true) in
    let added : c.push.new.self.items ≡ made ++ bits 8 (drop (8 * n) marks) ∷ [] =
    (c.in_ok-push.ensures {u = tt}).items ∙ ap (λ b. made ++ b ∷ []) (c.byte_of.ensures ∙ ap (bits 8) (range_is (8 * n) marks)) in
    ap (λ xs. xs ++ map_all (drop (8 * (n + 1)) marks)) added ∙ next_byte made (map_all marks) marks n lt c.loop-number.invariant
