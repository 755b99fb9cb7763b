-- The scopes inside a member that is an adt.
use Rattle.std.proofs.Common.{◌≡◌, map, Option, option_map, Vec, Global, ap, subst, ◌∙◌}
use Rattle.inf_text.specs.declared.span.Span as span
use Rattle.limbo_tree.specs.declared.name.Name as code_name
use Rattle.limbo_tree.specs.declared.decl.Variant as code_variant
use Rattle.limbo_tree.specs.declared.decl.Member as code_member
use Rattle.limbo_tree.specs.declared.decl.Member.TheVariants as make
use Rattle.limbo_tree.specs.Decls.{Member}
use Rattle.limbo_tree.specs.View.{view_member, view_members, view_variant, members_of}
use Rattle.limbo_tree.proofs.Members.{view_member-Adt}
use Rattle.limbo_declarations.specs.Scopes.{MemberIsOnce, AdtIsOnce}

pub adt_inside :
    (m : code_member.Member) (n : code_name.Name) (ms : Vec code_member.Member Global) (pick : Option (Vec code_variant.Variant Global)) (s : span.Span)
    → m ≡ make.Adt n ms pick s → MemberIsOnce (view_member m)
    → AdtIsOnce (members_of (map view_member ms.items)) (option_map (λ vs. map view_variant vs.items) pick)
unfolding view_members
adt_inside m n ms pick s e h = subst (λ (z : Member). MemberIsOnce z) (ap view_member e ∙ view_member-Adt n ms pick s) h
