use Rattle.std.proofs.Common.{◌≡◌, ◌+◌, Some, take, get_or, sym, ap, subst, ◌∙◌, arith}
use Rattle.std.specs.Prelude.{map, slice_get}
use Rattle.std.specs.Option.{option_map}
use Rattle.ref_heap.specs.declared.word.Ref.{Ref}
use Rattle.ref_heap.specs.declared.word.Word.TheVariants.{Plain}
use Rattle.ref_heap.specs.Words.{cell_of, naming}
use Rattle.ref_heap.specs.Store.{Store, outside}
use Rattle.dis_values.specs.References.{Holds}
use Rattle.dis_values.proofs.Referring.{room_left, holds_next, holds_as, take_same, item_at, named_one, naming_append, take_next}
use Rattle.dis_values.proofs.references.hold_words.Goals as goal
use Rattle.dis_values.proofs.references.hold_words.Goals.{in-Some, in-None}

pub hold_one-requires : goal.hold_one-requires
hold_one-requires c =
    let cs = map cell_of c.args.words.now in
    let i = c.loop-word.word-index in
    let w = get_or c.args.words.now i (Plain 0) in
    let is : slice_get cs i ≡ Some (cell_of w) = item_at c.args.words.now i (Plain 0) c.loop-word-test.true in
    room_left c.args.heap.now c.loop-word.heap cs i c.in-Some.r.serial (cell_of w) c.requires c.loop-word.invariant.holds is
    (sym c.reference.ensures ∙ ap (option_map (λ (r : Ref). r.serial)) c.in-Some.is)

pub loop-word-preserved : goal.loop-word-preserved
loop-word-preserved c =
    let cs = map cell_of c.args.words.now in
    let i = c.loop-word.word-index in
    let w0 = get_or c.args.words.now i (Plain 0) in
    let is : slice_get cs i ≡ Some (cell_of w0) = item_at c.args.words.now i (Plain 0) c.loop-word-test.true in
    record {
      holds = elim c.match-reference.branch [
        | in-Some w ↦
            subst (λ (m : Store). Holds c.args.heap.now m (naming (take (i + 1) cs))) (sym w.heap-is)
            (holds_next c.args.heap.now c.loop-word.heap w.hold_one.new.heap cs i w.in-Some.r.serial
            (cell_of w0) c.loop-word.invariant.holds w.hold_one.ensures.held is
            (sym c.reference.ensures ∙ ap (option_map (λ (r : Ref). r.serial)) w.in-Some.is))
        | in-None w ↦
            subst (λ (m : Store). Holds c.args.heap.now m (naming (take (i + 1) cs))) (sym w.heap-is)
            (holds_as c.args.heap.now c.loop-word.heap (naming (take i cs)) (naming (take (i + 1) cs))
            (λ n. sym (take_same cs i n (cell_of w0) is (sym c.reference.ensures
            ∙ ap (option_map (λ (r : Ref). r.serial)) w.in-None.is))) c.loop-word.invariant.holds)
      ];
      held = λ n. elim c.match-reference.branch [
        | in-Some w ↦
            let e : outside c.match-reference.heap n ≡ outside w.hold_one.new.heap n = ap (λ (m : Store). outside m n) w.heap-is in
            let f = c.loop-word.invariant.held n in
            let g = w.hold_one.ensures.outside n in
            let next = ap (λ ds. naming ds n) (take_next cs i (cell_of w0) is) ∙ naming_append (take i cs) _ n in
            let one = named_one (cell_of w0) w.in-Some.r.serial n (sym c.reference.ensures
            ∙ ap (option_map (λ (r : Ref). r.serial)) w.in-Some.is) in
            omega arith
        | in-None w ↦
            let e : outside c.match-reference.heap n ≡ outside c.loop-word.heap n = ap (λ (m : Store). outside m n) w.heap-is in
            let f = c.loop-word.invariant.held n in
            let g = take_same cs i n (cell_of w0) is (sym c.reference.ensures ∙ ap (option_map (λ (r : Ref). r.serial)) w.in-None.is) in
            omega arith
      ];
    }
