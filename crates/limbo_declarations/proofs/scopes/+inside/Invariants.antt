use Rattle.std.proofs.Common.{map, drop}
use Rattle.limbo_tree.specs.View.{view_member, members_of}
use Rattle.limbo_declarations.specs.Scopes.{MembersAreOnce}
use Rattle.limbo_declarations.proofs.scopes.+inside.Given as goal

abbrev pub invariant-members_once-loop-m : goal.invariant-members_once-loop-m
invariant-members_once-loop-m l = record {
  up : MembersAreOnce (members_of (map view_member (drop l.m-index l.members))) → MembersAreOnce (members_of (map view_member l.members));
  down : MembersAreOnce (members_of (map view_member l.members)) → MembersAreOnce (members_of (map view_member (drop l.m-index l.members)));
}
