use Rattle.std.proofs.Common.{◌≡◌, ◌++◌, ◌∷◌, [], ◌*◌, ◌<◌, ◌+◌, length, drop, ap, ◌∙◌, arith}
use Rattle.dis_objects.specs.Objects.{bits, map_of}
use Rattle.dis_objects.proofs.Maps.{range_is, next_byte}
use Rattle.dis_objects.proofs.types.map_of.Goals as goal

pub loop-number-preserved : goal.loop-number-preserved
loop-number-preserved c =
    let marks = c.args.marks.now in
    let n = c.loop-number.number in
    let made = c.loop-number.map.items in
    let lt : 8 * n < length marks = omega (arith, c.div_ceil-number-end.ensures, c.loop-number-test.true) in
    let added : c.push.new.self.items ≡ made ++ bits 8 (drop (8 * n) marks) ∷ [] =
    (c.in_ok-push.ensures {u = tt}).items ∙ ap (λ b. made ++ b ∷ []) (c.byte_of.ensures ∙ ap (bits 8) (range_is (8 * n) marks)) in
    ap (λ xs. xs ++ map_of (drop (8 * (n + 1)) marks)) added ∙ next_byte made (map_of marks) marks n lt c.loop-number.invariant
