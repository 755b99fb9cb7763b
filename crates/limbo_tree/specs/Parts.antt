-- Parts of trees that those ask for who read trees: each is absent where a tree is of another form.
use Rattle.std.specs.Prelude.{ℕ, ℤ, List, [], ◌∷◌, Bool, Option, None, Some}
use Rattle.limbo_tree.specs.declared.operators.AssignOp.{AssignOp}
use Rattle.limbo_tree.specs.declared.operators.AssignOp.TheVariants as assign
use Rattle.limbo_tree.specs.declared.operators.BinaryOp.{BinaryOp}
use Rattle.limbo_tree.specs.declared.operators.UnaryOp.{UnaryOp}
use Rattle.limbo_tree.specs.declared.operators.UnaryOp.TheVariants as unary
use Rattle.limbo_tree.specs.Exprs.{Expr, Exprs, NoExprs, MoreExprs}
use Rattle.limbo_tree.specs.Exprs.{Assign, Binary, Unary, Call, Index, Dot, Arrow, Number, Chars, Name, Group}
use Rattle.limbo_tree.specs.Decls as decls

-- the name that an expression is
abbrev pub name_in : Expr → Option (List ℕ)
name_in (Name n) = Some n
name_in _ = None

-- the string constant that an expression is
abbrev pub chars_in : Expr → Option (List ℕ)
chars_in (Chars t) = Some t
chars_in _ = None

-- the number that an expression is, and whether it is written as a big
abbrev pub number_in : Expr → Option (ℤ × Bool)
number_in (Number v wide) = Some (v, wide)
number_in _ = None

-- what is called, and the arguments
abbrev pub call_in : Expr → Option (Expr × Exprs)
call_in (Call f es) = Some (f, es)
call_in _ = None

-- `base.name`
abbrev pub dot_in : Expr → Option (Expr × List ℕ)
dot_in (Dot e n) = Some (e, n)
dot_in _ = None

-- `base->name`
abbrev pub arrow_in : Expr → Option (Expr × List ℕ)
arrow_in (Arrow e n) = Some (e, n)
arrow_in _ = None

-- `m->name`, where what stands before the arrow is a name
abbrev pub member_in : Expr → Option (List ℕ × List ℕ)
member_in (Arrow (Name m) n) = Some (m, n)
member_in _ = None

-- `base[index]`
abbrev pub index_in : Expr → Option (Expr × Expr)
index_in (Index e i) = Some (e, i)
index_in _ = None

-- an operator before an operand
abbrev pub unary_in : Expr → Option (UnaryOp × Expr)
unary_in (Unary o e) = Some (o, e)
unary_in _ = None

-- an operator between two operands
abbrev pub binary_in : Expr → Option (BinaryOp × Expr × Expr)
binary_in (Binary o l r) = Some (o, l, r)
binary_in _ = None

-- an assignment, a declaration by `:=`, or a send
abbrev pub assign_in : Expr → Option (AssignOp × Expr × Expr)
assign_in (Assign o l r) = Some (o, l, r)
assign_in _ = None

-- what stands in parentheses
abbrev pub group_in : Expr → Option Exprs
group_in (Group es) = Some es
group_in _ = None

-- the expression of a list of one
abbrev pub only : Exprs → Option Expr
only (MoreExprs e NoExprs) = Some e
only _ = None

-- the one expression in parentheses
abbrev pub single_in : Expr → Option Expr
single_in (Group es) = only es
single_in _ = None

-- the channel of `<-channel`
abbrev pub received_in : Expr → Option Expr
received_in (Unary unary.Receive e) = Some e
received_in _ = None

-- the channel and the value of `channel <-= value`
abbrev pub sent_in : Expr → Option (Expr × Expr)
sent_in (Assign assign.Send l r) = Some (l, r)
sent_in _ = None

-- the names that a declaration declares
abbrev pub names_of_decl : decls.Decl → List (List ℕ)
names_of_decl (decls.Con ns e) = ns
names_of_decl (decls.TypeName ns t) = ns
names_of_decl (decls.Var ns t e) = ns
names_of_decl (decls.Define ns e) = ns
names_of_decl (decls.Import ns m) = ns
names_of_decl (decls.Exception ns ts) = ns
names_of_decl (decls.Module n ms) = n ∷ []
names_of_decl (decls.Adt n ms pick) = n ∷ []

-- the names that a member declares
abbrev pub names_of_member : decls.Member → List (List ℕ)
names_of_member (decls.VarMember ns t) = ns
names_of_member (decls.FnMember ns f) = ns
names_of_member (decls.ConMember ns e) = ns
names_of_member (decls.TypeMember ns t) = ns
names_of_member (decls.AdtMember n ms pick) = n ∷ []
