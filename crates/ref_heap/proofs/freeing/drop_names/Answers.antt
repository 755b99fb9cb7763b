use Rattle.std.proofs.Common.{ℕ, sym, ap, ◌∙◌, subst, drop, ◌+◌}
use Rattle.std.specs.Option.{option_map}
use Rattle.slab.specs.Slab.{Slab}
use Rattle.ref_heap.specs.declared.word.Ref.{Ref}
use Rattle.ref_heap.specs.declared.slots.Slot.{Slot}
use Rattle.ref_heap.specs.Slots.{IsUnique, KeepsNumbers}
use Rattle.ref_heap.specs.Chain.{Loose, named}
use Rattle.ref_heap.proofs.Chain.{words_name, words_plain, words_end, keeps_on}
use Rattle.ref_heap.proofs.freeing.drop_names.Goals as goal
use Rattle.ref_heap.proofs.freeing.drop_names.Goals.{in-Some, in-None}

pub loop-word-preserved : goal.loop-word-preserved
loop-word-preserved c = record {
  unique = elim c.match-reference.branch [
    | in-Some w ↦ subst (λ (m : Slab Slot). IsUnique m) (sym w.slots-is) w.drop_one-head.ensures.unique
    | in-None w ↦ subst (λ (m : Slab Slot). IsUnique m) (sym w.slots-is) c.loop-word.invariant.unique
  ];
  numbers = elim c.match-reference.branch [
    | in-Some w ↦ subst (λ (m : Slab Slot). KeepsNumbers c.args.slots.now m) (sym w.slots-is) (keeps_on _ _ _ c.loop-word.invariant.numbers w.drop_one-head.ensures.numbers)
    | in-None w ↦ subst (λ (m : Slab Slot). KeepsNumbers c.args.slots.now m) (sym w.slots-is) c.loop-word.invariant.numbers
  ];
  drops = λ limit outside before given.
      let l = c.loop-word.invariant.drops limit outside before given in
      let left = named (drop (c.loop-word.word-index + 1) c.args.words.now) in
      elim c.match-reference.branch [
        | in-Some w ↦
            let x = words_name limit outside before c.loop-word.slots w.drop_one-head.new.slots c.loop-word.head w.drop_one-head.result w.in-Some.r.serial c.args.words.now c.loop-word.word-index _ c.loop-word-test.true
            (sym c.reference.ensures ∙ ap (option_map (λ (r : Ref). r.serial)) w.in-Some.is) w.drop_one-head.ensures.unique w.drop_one-head.ensures.drops w.drop_one-head.ensures.keeps l in
            subst (λ (m : Slab Slot). Loose limit outside before m c.match-reference.head left) (sym w.slots-is)
            (subst (λ (h : ℕ). Loose limit outside before w.drop_one-head.new.slots h left) (sym w.head-is) x)
        | in-None w ↦
            let x = words_plain limit outside before c.loop-word.slots c.loop-word.head c.args.words.now c.loop-word.word-index _ c.loop-word-test.true (sym c.reference.ensures ∙ ap (option_map (λ (r : Ref). r.serial)) w.in-None.is) l in
            subst (λ (m : Slab Slot). Loose limit outside before m c.match-reference.head left) (sym w.slots-is)
            (subst (λ (h : ℕ). Loose limit outside before c.loop-word.slots h left) (sym w.head-is) x)
      ];
}

pub returns-clause-drops : goal.returns-clause-drops
returns-clause-drops c limit outside before given = words_end limit outside before _ _ c.args.words.now c.loop-word.word-index c.loop-word-test.false (c.loop-word.invariant.drops limit outside before given)
