-- What the forms of expressions are, without how they lie in memory.
use Rattle.std.specs.Prelude.{Option}
use Rattle.limbo_types.specs.View.{view_ty}
use Rattle.limbo_values.specs.declared.number.Kind.TheVariants as kind
use Rattle.limbo_typed.specs.declared.operation.Operation.{Operation}
use Rattle.limbo_typed.specs.declared.operation.Operation.TheVariants as operation
use Rattle.limbo_typed.specs.declared.operation.Given.{Given}
use Rattle.limbo_typed.specs.declared.operation.Given.TheVariants as given
use Rattle.limbo_typed.specs.Typed as typed
use Rattle.limbo_typed.specs.View.{view_expr, view_exprs}
use Rattle.system_model.specs.Values.{Num}
use Rattle.typed_meaning.specs.Values.{fitted}
use Rattle.typed_meaning.specs.Trees.{PlaceNode, Local, Global, Place, Terms, NoTerms, MoreTerms}
use Rattle.typed_meaning.specs.Trees as tree
use Rattle.typed_meaning.specs.Program.{term_of, node_of, terms_of, printed_of, at_place, as_printed}
use Rattle.slot_code.specs.Code.{Inst, Begin, Format}
use Rattle.slot_writing.specs.declared.terms.At.{At}
use Rattle.slot_writing.specs.declared.terms.At.TheVariants as at
use Rattle.slot_writing.specs.declared.terms.Variable.{Variable}
use Rattle.slot_writing.specs.declared.terms.Term.{Term}
use Rattle.slot_writing.specs.declared.terms.Term.TheVariants as form
use Rattle.slot_writing.specs.declared.terms.Taker.{Taker}
use Rattle.slot_writing.specs.declared.terms.Taker.TheVariants as taker

abbrev pub view_at : At → PlaceNode
view_at (at.Local x) = Local x
view_at (at.Global x) = Global x

abbrev pub view_variable : Variable → Place
view_variable v = tree.At (view_ty v.ty.now) (view_at v.at)

-- ---- forms with a place, which may be none

abbrev pub read : Option Place → tree.Term
read p = at_place p tree.Read

abbrev pub stored : Option Place → tree.Term → tree.Term
stored p t = at_place p (λ q. tree.Store q t)

abbrev pub update : Operation → Place → tree.Term → tree.Term
update o q t = tree.Change o given.New q (MoreTerms (tree.Read q) (MoreTerms t NoTerms))

abbrev pub updated : Operation → Option Place → tree.Term → tree.Term
updated o p t = at_place p (λ q. update o q t)

abbrev pub step : Operation → Given → Place → tree.Term
step o g q = tree.Change o g q (MoreTerms (tree.Read q) NoTerms)

abbrev pub stepped : Operation → Given → Option Place → tree.Term
stepped o g p = at_place p (λ q. step o g q)

-- ---- terms

abbrev pub widened : tree.Term → tree.Term
widened t = tree.Apply (operation.Convert kind.Byte kind.Int) (MoreTerms t NoTerms)

abbrev pub view_term : Term → tree.Term
view_term form.Missing = tree.Missing
view_term (form.Literal t n) = tree.Literal (view_ty t.now) (fitted (view_ty t.now) (Num n))
view_term (form.Read v) = tree.Read (view_variable v)
view_term (form.Apply o es) = tree.Apply o (terms_of (view_exprs es.now))
view_term (form.Widened e) = widened (term_of (view_expr e.now))
view_term (form.Lazy c l r) = tree.Lazy c (term_of (view_expr l.now)) (term_of (view_expr r.now))
view_term (form.Store v e) = tree.Store (view_variable v) (term_of (view_expr e.now))
view_term (form.Update o v e) = update o (view_variable v) (term_of (view_expr e.now))
view_term (form.Step o g v) = step o g (view_variable v)
view_term (form.Call t f es) = tree.Call (view_ty t.now) f (terms_of (view_exprs es.now))
view_term (form.Print ps es) = tree.Print ps.now (printed_of (view_exprs es.now))

-- ---- what takes arguments

abbrev pub view_taker : Taker → Inst
view_taker (taker.Function f) = Begin f
view_taker (taker.Format ps) = Format ps.now

-- an argument as it is printed, and as it is taken
abbrev pub printed : typed.Expr → tree.Term
printed (typed.Of t n) = as_printed t (node_of t n)

abbrev pub argument : Taker → typed.Expr → tree.Term
argument (taker.Function f) e = term_of e
argument (taker.Format ps) e = printed e

abbrev pub arguments : Taker → typed.Exprs → Terms
arguments (taker.Function f) es = terms_of es
arguments (taker.Format ps) es = printed_of es
