-- The forms of an expression whose parts are values (Limbo Language Reference, expressions): what each is, its parts being these typed
-- values, and why it is refused.
use Rattle.std.specs.Prelude.{◌≡◌, if◌then◌else◌, Option, None, Some}
use Rattle.limbo_types.specs.Types.{Int, Big, Chars, Nil}
use Rattle.limbo_tree.specs.declared.operators.AssignOp.{AssignOp}
use Rattle.limbo_tree.specs.declared.operators.AssignOp.TheVariants as assign
use Rattle.limbo_tree.specs.declared.operators.UnaryOp.{UnaryOp}
use Rattle.limbo_tree.specs.declared.operators.UnaryOp.TheVariants as before
use Rattle.limbo_tree.specs.declared.operators.PostfixOp.TheVariants as behind
use Rattle.limbo_tree.specs.Exprs as tree
use Rattle.limbo_typed.specs.declared.operation.Given.TheVariants as given
use Rattle.limbo_typed.specs.Typed as typed
use Rattle.limbo_typed.specs.Typed.{Expr, Of, Exprs, NoExprs, MoreExprs, Number, OpenNil}
use Rattle.limbo_typed.specs.Sound.{type_of}
use Rattle.limbo_refusals.specs.Refusals.{Refusal, Clash}
use Rattle.limbo_context.specs.Context.{Context}
use Rattle.limbo_combining.specs.Combining.{Combines, CombiningClashes, Operates, BytesOf, OperandClashes, HasOneRow, HasBytesRow}
use Rattle.limbo_updating.specs.Updating.{Updates, UpdatingFails}
use Rattle.limbo_assigning.specs.Assigning.{Copies, CopyingFails}
use Rattle.limbo_places.specs.Elements.{Indexes}
use Rattle.limbo_places.specs.Targets.{Dereferences, Refers}
use Rattle.limbo_places.specs.Steps.{Steps, not_stepped}
use Rattle.limbo_channels.specs.Channels.{Sends, Receives}
use Rattle.limbo_literals.specs.Literals.{Tuples, Lists}
use Rattle.limbo_literals.specs.Refusing.{RefusesList}

-- one expression, and more in a row
abbrev pub one : tree.Expr → tree.Exprs
one e = tree.MoreExprs e tree.NoExprs

abbrev pub two : tree.Expr → tree.Expr → tree.Exprs
two l r = tree.MoreExprs l (one r)

abbrev pub three : tree.Expr → tree.Expr → tree.Expr → tree.Exprs
three a i r = tree.MoreExprs a (two i r)

-- ---- operators before one operand

abbrev pub Before : Context → UnaryOp → (operand : Expr) → Expr → Type 0
Before c before.Deref x z = Dereferences x z
Before c before.Ref x z = Refers x z
Before c before.Receive x z = Receives x z
Before c before.Increment x z = Steps behind.Increment given.New x z
Before c before.Decrement x z = Steps behind.Decrement given.New x z
Before c o x z = Operates c.adts o x z

-- the type of one operand, which doesn't fit
abbrev pub itself : Expr → Refusal
itself x = Clash (type_of x) (type_of x)

abbrev pub RefusesBefore : Context → UnaryOp → (operand : Expr) → Refusal → Type 0
RefusesBefore c before.Deref x r = r ≡ itself x
RefusesBefore c before.Ref x r = r ≡ itself x
RefusesBefore c before.Receive x r = r ≡ itself x
RefusesBefore c before.Increment x r = r ≡ not_stepped x
RefusesBefore c before.Decrement x r = r ≡ not_stepped x
RefusesBefore c o x r = OperandClashes (HasOneRow c.adts o x) x r

-- ---- `left op right`, where the right side goes to the left: a send, or an assignment with an operator

abbrev pub Gives : AssignOp → (left right : Expr) → Expr → Type 0
Gives assign.Send x y z = Sends x y z
Gives o x y z = Updates o x y z

abbrev pub RefusesGives : AssignOp → (left right : Expr) → Refusal → Type 0
RefusesGives assign.Send x y r = r ≡ Clash (type_of x) (type_of y)
RefusesGives o x y r = UpdatingFails o x y r

-- ---- the parts that are values, from the left to the right, where all parts are

-- of an assignment or a declaration: an assignment into an array from an index on
abbrev pub copied : (left right : tree.Expr) → Option tree.Exprs
copied (tree.Slice a (tree.Present i) tree.Absent) r = Some (three a i r)
copied l r = None

abbrev pub given_by : AssignOp → (left right : tree.Expr) → Option tree.Exprs
given_by assign.Assign l r = copied l r
given_by assign.Define l r = None
given_by o l r = Some (two l r)

-- of what stands in parentheses: several are a tuple
abbrev pub tupled : tree.Exprs → Option tree.Exprs
tupled (tree.MoreExprs e (tree.MoreExprs f es)) = Some (tree.MoreExprs e (tree.MoreExprs f es))
tupled es = None

abbrev pub values_in : tree.Expr → Option tree.Exprs
values_in (tree.Number v wide) = Some tree.NoExprs
values_in (tree.Chars s) = Some tree.NoExprs
values_in tree.Nil = Some tree.NoExprs
values_in (tree.Group es) = tupled es
values_in (tree.Listed es) = Some es
values_in (tree.Binary o l r) = Some (two l r)
values_in (tree.Unary o e) = Some (one e)
values_in (tree.Postfix o e) = Some (one e)
values_in (tree.Bytes e) = Some (one e)
values_in (tree.Index e i) = Some (two e i)
values_in (tree.Assign o l r) = given_by o l r
values_in _ = None

-- ---- what each is

abbrev pub AssignForms : AssignOp → Exprs → Expr → Type 0
AssignForms assign.Assign (MoreExprs x (MoreExprs y (MoreExprs v NoExprs))) z = Copies x y v z
AssignForms assign.Assign xs z = ⊥
AssignForms o (MoreExprs x (MoreExprs y NoExprs)) z = Gives o x y z
AssignForms o xs z = ⊥

abbrev pub Forms : Context → tree.Expr → Exprs → Expr → Type 0
Forms c (tree.Number v wide) xs z = z ≡ Of (if wide then Big else Int) (Number v)
Forms c (tree.Chars s) xs z = z ≡ Of Chars (typed.Chars s)
Forms c tree.Nil xs z = z ≡ Of Nil OpenNil
Forms c (tree.Group es) xs z = Tuples xs z
Forms c (tree.Listed es) xs z = Lists xs z
Forms c (tree.Binary o l r) (MoreExprs x (MoreExprs y NoExprs)) z = Combines o x y z
Forms c (tree.Unary o e) (MoreExprs x NoExprs) z = Before c o x z
Forms c (tree.Postfix o e) (MoreExprs x NoExprs) z = Steps o given.Old x z
Forms c (tree.Bytes e) (MoreExprs x NoExprs) z = BytesOf x z
Forms c (tree.Index e i) (MoreExprs x (MoreExprs y NoExprs)) z = Indexes x y z
Forms c (tree.Assign o l r) xs z = AssignForms o xs z
Forms c e xs z = ⊥

-- ---- why it is none

abbrev pub RefusesAssign : AssignOp → Exprs → Refusal → Type 0
RefusesAssign assign.Assign (MoreExprs x (MoreExprs y (MoreExprs v NoExprs))) r = CopyingFails x y v r
RefusesAssign assign.Assign xs r = ⊥
RefusesAssign o (MoreExprs x (MoreExprs y NoExprs)) r = RefusesGives o x y r
RefusesAssign o xs r = ⊥

abbrev pub RefusesForm : Context → tree.Expr → Exprs → Refusal → Type 0
RefusesForm c (tree.Listed es) xs r = RefusesList xs r
RefusesForm c (tree.Binary o left right) (MoreExprs x (MoreExprs y NoExprs)) r = CombiningClashes o x y r
RefusesForm c (tree.Unary o e) (MoreExprs x NoExprs) r = RefusesBefore c o x r
RefusesForm c (tree.Postfix o e) (MoreExprs x NoExprs) r = r ≡ not_stepped x
RefusesForm c (tree.Bytes e) (MoreExprs x NoExprs) r = OperandClashes (HasBytesRow x) x r
RefusesForm c (tree.Index e i) (MoreExprs x (MoreExprs y NoExprs)) r = r ≡ Clash (type_of x) (type_of y)
RefusesForm c (tree.Assign o left right) xs r = RefusesAssign o xs r
RefusesForm c e xs r = ⊥
