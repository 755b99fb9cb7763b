-- The equations of `view_member`, one for each variant.
use Rattle.std.proofs.Common.{◌≡◌, map, Option, option_map, Vec, Box, Global, sym, ap, ◌∙◌}
use Rattle.limbo_lexer.specs.inf_text.declared.span.Span as span
use Rattle.limbo_tree.specs.declared.name.Name as code_name
use Rattle.limbo_tree.specs.declared.types.TypeTree as code_type
use Rattle.limbo_tree.specs.declared.expr.Expr as code_expr
use Rattle.limbo_tree.specs.declared.decl.FnType as code_fn
use Rattle.limbo_tree.specs.declared.decl.Variant as code_variant
use Rattle.limbo_tree.specs.declared.decl.Member as code_member
use Rattle.limbo_tree.specs.declared.decl.Member.{Member-F, fold-roll-Member}
use Rattle.limbo_tree.specs.declared.decl.Member.TheVariants as make
use Rattle.limbo_tree.specs.Decls as decls
use Rattle.limbo_tree.specs.View.{names_of, view_type, view_expr, view_fn, view_variant, member_step, view_member, view_members}

pub view_member-Var : (ns : Vec code_name.Name Global) (t : Box code_type.TypeTree Global) (s : span.Span) → view_member (make.Var ns t s) ≡ decls.VarMember (names_of ns.items) (view_type t.value)
unfolding view_member view_members
view_member-Var ns t s = ap view_member (sym (make.rolls-Var ns t s)) ∙ fold-roll-Member decls.Member member_step (Member-F.Var ns t s)

pub view_member-Function : (ns : Vec code_name.Name Global) (f : Box code_fn.FnType Global) (s : span.Span) → view_member (make.Function ns f s) ≡ decls.FnMember (names_of ns.items) (view_fn f.value)
unfolding view_member view_members
view_member-Function ns f s = ap view_member (sym (make.rolls-Function ns f s)) ∙ fold-roll-Member decls.Member member_step (Member-F.Function ns f s)

pub view_member-Con : (ns : Vec code_name.Name Global) (e : Box code_expr.Expr Global) (s : span.Span) → view_member (make.Con ns e s) ≡ decls.ConMember (names_of ns.items) (view_expr e.value)
unfolding view_member view_members
view_member-Con ns e s = ap view_member (sym (make.rolls-Con ns e s)) ∙ fold-roll-Member decls.Member member_step (Member-F.Con ns e s)

pub view_member-Type : (ns : Vec code_name.Name Global) (t : Box code_type.TypeTree Global) (s : span.Span) → view_member (make.Type ns t s) ≡ decls.TypeMember (names_of ns.items) (view_type t.value)
unfolding view_member view_members
view_member-Type ns t s = ap view_member (sym (make.rolls-Type ns t s)) ∙ fold-roll-Member decls.Member member_step (Member-F.Type ns t s)

pub view_member-Adt : (n : code_name.Name) (ms : Vec code_member.Member Global) (pick : Option (Vec code_variant.Variant Global)) (s : span.Span) → view_member (make.Adt n ms pick s) ≡ decls.AdtMember n.text (view_members ms.items) (option_map (λ vs. map view_variant vs.items) pick)
unfolding view_member view_members
view_member-Adt n ms pick s = ap view_member (sym (make.rolls-Adt n ms pick s)) ∙ fold-roll-Member decls.Member member_step (Member-F.Adt n ms pick s)

pub ruleset the_members = (view_member-Var, view_member-Function, view_member-Con, view_member-Type, view_member-Adt)
