-- The rows of a member by its tree, and of members from one place on.
use Rattle.std.proofs.Common.{◌≡◌, ◌<◌, ◌≤◌, ◌+◌, ℕ, List, [], ◌++◌, map, drop, length, get_or, Option, None, option_map, Vec, Box}
use Rattle.std.proofs.Common.{Global, sym, ap, subst, ◌∙◌}
use Rattle.inf_text.specs.declared.span.Span as span
use Rattle.limbo_tree.specs.declared.name.Name as code_name
use Rattle.limbo_tree.specs.declared.types.TypeTree as code_type
use Rattle.limbo_tree.specs.declared.expr.Expr as code_expr
use Rattle.limbo_tree.specs.declared.decl.FnType as code_fn
use Rattle.limbo_tree.specs.declared.decl.Variant as code_variant
use Rattle.limbo_tree.specs.declared.decl.Member as code_member
use Rattle.limbo_tree.specs.declared.decl.Member.TheVariants as make
use Rattle.limbo_tree.specs.Decls.{Member}
use Rattle.limbo_tree.specs.View.{names_of, view_type, view_expr, view_fn, view_variant, view_member, view_members, members_of}
use Rattle.limbo_tree.proofs.Members.{view_member-Var, view_member-Function, view_member-Con, view_member-Type, view_member-Adt}
use Rattle.limbo_declarations.specs.Rows.{Row, Variable, Alias, Function, each, rows_of_member, rows_of_members}
use Rattle.limbo_declarations.proofs.Apart.{drop_more}
use Rattle.limbo_top.proofs.Ends.{drop_all}
use Rattle.limbo_defined.proofs.Holding.{ArePlain, each_plain, counted_plain, adt_row}

pub function_rows :
    (m : code_member.Member) (ns : Vec code_name.Name Global) (f : Box code_fn.FnType Global) (s : span.Span) → m ≡ make.Function ns f s
    → (p : List ℕ) (all : List code_name.Name) → all ≡ ns.items → rows_of_member p (view_member m) ≡ each p (names_of all)
    (Function (view_fn f.value))
function_rows m ns f s e p all a =
    ap (rows_of_member p) (ap view_member e ∙ view_member-Function ns f s)
    ∙ ap (λ (z : List code_name.Name). each p (names_of z) (Function (view_fn f.value))) (sym a)

pub adt_rows :
    (m : code_member.Member) (n : code_name.Name) (ms : Vec code_member.Member Global) (pick : Option (Vec code_variant.Variant Global))
    (s : span.Span)
    → m ≡ make.Adt n ms pick s → (p : List ℕ) (all : List code_member.Member) → all ≡ ms.items
    → rows_of_member p (view_member m) ≡ adt_row p n.text (members_of (map view_member all))
    (option_map (λ vs. map view_variant vs.items) pick)
unfolding view_members
adt_rows m n ms pick s e p all a =
    ap (rows_of_member p) (ap view_member e ∙ view_member-Adt n ms pick s)
    ∙ ap (λ (z : List code_member.Member). adt_row p n.text (members_of (map view_member z))
    (option_map (λ vs. map view_variant vs.items) pick)) (sym a)

pub var_plain : (m : code_member.Member) (ns : Vec code_name.Name Global) (t : Box code_type.TypeTree Global) (s : span.Span)
    → m ≡ make.Var ns t s → (p : List ℕ) → ArePlain (rows_of_member p (view_member m))
var_plain m ns t s e p = subst (λ (z : Member). ArePlain (rows_of_member p z)) (sym (ap view_member e ∙ view_member-Var ns t s))
    (each_plain p (names_of ns.items) (Variable (view_type t.value) None) tt)

pub type_plain : (m : code_member.Member) (ns : Vec code_name.Name Global) (t : Box code_type.TypeTree Global) (s : span.Span)
    → m ≡ make.Type ns t s → (p : List ℕ) → ArePlain (rows_of_member p (view_member m))
type_plain m ns t s e p = subst (λ (z : Member). ArePlain (rows_of_member p z)) (sym (ap view_member e ∙ view_member-Type ns t s))
    (each_plain p (names_of ns.items) (Alias (view_type t.value)) tt)

pub con_plain : (m : code_member.Member) (ns : Vec code_name.Name Global) (v : Box code_expr.Expr Global) (s : span.Span)
    → m ≡ make.Con ns v s → (p : List ℕ) → ArePlain (rows_of_member p (view_member m))
con_plain m ns v s e p = subst (λ (z : Member). ArePlain (rows_of_member p z)) (sym (ap view_member e ∙ view_member-Con ns v s))
    (counted_plain p (names_of ns.items) 0 (view_expr v.value))

-- the rows of members from one place on
abbrev pub rows_from : (p : List ℕ) → ℕ → List code_member.Member → List Row
rows_from p k ms = rows_of_members p (members_of (map view_member (drop k ms)))

pub next_rows :
    (p : List ℕ) (k : ℕ) (ms : List code_member.Member) (m : code_member.Member) → k < length ms → m ≡ get_or ms k m
    → rows_from p k ms ≡ rows_of_member p (view_member m) ++ rows_from p (k + 1) ms
next_rows p k ms m l e = ap (λ (z : List Member). rows_of_members p (members_of z)) (drop_more view_member k ms m l e)

pub no_rows : (p : List ℕ) (k : ℕ) (ms : List code_member.Member) → length ms ≤ k → rows_from p k ms ≡ []
no_rows p k ms l = ap (λ (z : List code_member.Member). rows_of_members p (members_of (map view_member z))) (drop_all k ms l)
