use Rattle.std.proofs.Common.{◌≡◌, ◌+◌, sym, ap, ◌∙◌, arith}
use Rattle.std.specs.Int.{next_multiple_of}
use Rattle.limbo_layout.specs.Layout.{Room}
use Rattle.limbo_layout.proofs.Sound.{below_push}
use Rattle.limbo_layout.proofs.room.Room.put_reference.Goals as goal

pub invariant_of-self-2 : goal.invariant_of-self-2
invariant_of-self-2 c =
    let e : c.self.inside.size ≡ next_multiple_of c.args.self.now.size 4 + 4 = ap (λ (r : Room). r.size) (c.self.view_is ∙ c.in_ok-at.ensures.ok) in
    record {
      within = c.self.invariant.within;
      align = c.self.invariant.align;
      inside = rw c.in_ok-push.ensures.items (below_push c.self.inside.size c.in_ok-at.at c.self.inside.references.items (let f = c.in_ok-at.ensures.at in omega arith) c.self.invariant.inside);
    }
