use Rattle.std.proofs.Common.{◌≡◌, ◌+◌, ap, ◌∙◌, arith}
use Rattle.std.specs.Int.{next_multiple_of}
use Rattle.limbo_layout.specs.Layout.{Room}
use Rattle.limbo_layout.proofs.Sound.{below_push}
use Rattle.value_rooms.proofs.room.Room.put_reference.Goals as goal

pub invariant_of-self : goal.invariant_of-self
invariant_of-self c =
    let e : c.self.inside.size ≡ next_multiple_of c.args.self.now.size 4 + 4 =
    ap (λ (r : Room). r.size) (c.self.view_is ∙ c.in-Some.ensures.some) in
    record {
      within = c.self.invariant.within;
      align = c.self.invariant.align;
      inside = rw c.in_ok-push.ensures.items (below_push c.self.inside.size c.in-Some.at c.self.inside.references.items
          (let f = c.in-Some.ensures.at in omega arith) c.self.invariant.inside);
    }
