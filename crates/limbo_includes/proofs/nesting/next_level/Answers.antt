use Rattle.std.proofs.Common.{◌≡◌, ◌<◌, ℕ, length, get_or, None, Some, ◌∙◌, arith}
use Rattle.std.proofs.lemmas.List.{length-set}
use Rattle.limbo_includes.specs.declared.links.Link.{Link}
use Rattle.limbo_includes.proofs.Lists.{none_at, some_at}
use Rattle.limbo_includes.proofs.Marks.{named_kept, sound_some, complete_some, complete_none}
use Rattle.limbo_includes.proofs.nesting.next_level.Goals as goal
use Rattle.limbo_includes.proofs.nesting.next_level.Goals.{in-Some, in_default}

pub loop-link-preserved : goal.loop-link-preserved
loop-link-preserved c =
    let k = c.loop-link.invariant in
    let links = c.args.links.now in
    let marks = c.args.marks.now in
    let i = c.loop-link.link-index in
    let next = c.loop-link.next.items in
    let d : Link = record { from = 0; to = None; at = record { line = 0; col = 0; len = 0 } } in
    let inside : (to : ℕ) → (get_or links i d).to ≡ Some to → to < length next = λ to e.
    let b = some_at (λ (n : ℕ). n < length marks) (get_or links i d).to to (c.requires i d c.loop-link-test.true) e in omega (arith, k.same_length) in
    elim c.match-named_by.branch [
      | in-Some w ↦
          rw w.next-is (record {
            same_length = length-set next w.in-Some.to _ ∙ k.same_length;
            sound = sound_some links marks i d c.loop-link-test.true next k.sound k.complete w.in-Some.to w.in-Some.ensures.some.0 w.in-Some.ensures.some.1;
            complete = complete_some links marks i d c.loop-link-test.true next k.sound k.complete w.in-Some.to (inside w.in-Some.to w.in-Some.ensures.some.0) w.in-Some.ensures.some.0;
          })
      | in_default w ↦
          rw w.next-is (record {
            same_length = k.same_length;
            sound = λ n m. named_kept links marks i d c.loop-link-test.true n (k.sound n m);
            complete = complete_none links marks i d c.loop-link-test.true next k.sound k.complete (none_at c.named_by.result c.named_by.ensures.none w.in_default.is);
          })
    ]
