use Rattle.std.proofs.Common.{◌≡◌, ◌++◌, map, drop}
use Rattle.limbo_tree.specs.View.{view_member, members_of}
use Rattle.limbo_declarations.specs.Scopes.{member_names}
use Rattle.limbo_declarations.specs.View.{texts_of}
use Rattle.limbo_declarations.proofs.scopes.push_members.Given as goal

abbrev pub invariant-loop-m : goal.invariant-loop-m
invariant-loop-m l = texts_of l.all.items ++ member_names (members_of (map view_member (drop l.m-index l.members))) ≡ texts_of l.fn.all.items ++ member_names (members_of (map view_member l.members))
