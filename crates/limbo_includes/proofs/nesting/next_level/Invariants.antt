use Rattle.std.proofs.Common.{◌≡◌, ℕ, true, take, length}
use Rattle.limbo_includes.specs.Links.{is_marked, IsNamed}
use Rattle.limbo_includes.proofs.nesting.next_level.Given as goal

-- the marks by the includes so far
abbrev pub invariant-loop-link : goal.invariant-loop-link
invariant-loop-link l = record {
  same_length : length l.next.items ≡ length l.marks;
  sound : (n : ℕ) → is_marked l.next.items n ≡ true → IsNamed (take l.link-index l.links) l.marks n;
  complete : (n : ℕ) → IsNamed (take l.link-index l.links) l.marks n → is_marked l.next.items n ≡ true;
}
