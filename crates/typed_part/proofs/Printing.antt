-- A print as an expression.
use Rattle.std.proofs.Common.{◌≡◌, ◌&&◌, Bool, true, false, List, Option, Vec, Box, Global, sym, ap, ◌∙◌}
use Rattle.limbo_types.specs.Types.{Ty}
use Rattle.limbo_values.specs.declared.number.Kind.TheVariants as kind
use Rattle.limbo_typed.specs.declared.print.Printed.{Printed}
use Rattle.limbo_typed.specs.declared.print.Piece.{Piece}
use Rattle.limbo_typed.specs.declared.expr.TExpr as code_expr
use Rattle.limbo_typed.specs.declared.expr.TNode as code_node
use Rattle.limbo_typed.specs.declared.expr.TNode.TheVariants as make
use Rattle.limbo_typed.specs.Typed as tree
use Rattle.limbo_typed.specs.Sound.{types_of}
use Rattle.limbo_typed.specs.View.{view_expr, view_optional, view_node, view_exprs}
use Rattle.limbo_typed.proofs.View.{view_node-Print}
use Rattle.typed_part.specs.Part as part
use Rattle.typed_part.specs.Part.{Inside}

abbrev Boxed : Type 0
Boxed = Box code_expr.TExpr Global

abbrev pub is_print_of : Inside → Ty → List Piece → tree.Exprs → Bool
is_print_of i t ps es = part.are_exprs i es && part.are_printed ps (types_of es) && (part.is_of kind.Int t && part.is_format ps)

module _ (i : Inside) (t : Ty) (n : code_node.TNode) (w : Printed) (m : Boxed) (file : Option Boxed) (ps : Vec Piece Global)
    (es : Vec code_expr.TExpr Global) where
  -- with another answer of whether it goes through the module's variable
  abbrev with : Bool → Bool
  with b =
      b && part.are_exprs i (view_exprs es.items) && part.are_printed ps.items (types_of (view_exprs es.items))
      && (part.is_of kind.Int t && part.is_format ps.items)

  node_is : (b : Bool) → n ≡ make.Print w m file ps es → b ≡ part.prints i w (view_expr m.value) (view_optional file)
      → with b ≡ part.is_node i t (view_node n)
  node_is b e h = ap with h ∙ sym (ap (part.is_node i t) (ap view_node e ∙ view_node-Print w m file ps es))

  pub print_told : (b r : Bool) → n ≡ make.Print w m file ps es → b ≡ part.prints i w (view_expr m.value) (view_optional file)
      → b ≡ true → r ≡ is_print_of i t ps.items (view_exprs es.items) → r ≡ part.is_node i t (view_node n)
  print_told b r e h k g = g ∙ sym (ap with k) ∙ node_is b e h

  pub no_print_told : (b : Bool) → n ≡ make.Print w m file ps es → b ≡ part.prints i w (view_expr m.value) (view_optional file)
      → b ≡ false → b ≡ part.is_node i t (view_node n)
  no_print_told b e h k = k ∙ sym (ap with k) ∙ node_is b e h
