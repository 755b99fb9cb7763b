-- A form with given values as its parts is one expression at most.
use Rattle.std.proofs.Common.{◌≡◌, if◌then◌else◌, sym, ◌∙◌}
use Rattle.limbo_types.specs.Types.{Int, Big, Chars, Nil}
use Rattle.limbo_tree.specs.declared.operators.AssignOp.{AssignOp}
use Rattle.limbo_tree.specs.declared.operators.AssignOp.TheVariants as assign
use Rattle.limbo_tree.specs.declared.operators.UnaryOp.{UnaryOp}
use Rattle.limbo_tree.specs.declared.operators.UnaryOp.TheVariants as before
use Rattle.limbo_tree.specs.declared.operators.PostfixOp.TheVariants as behind
use Rattle.limbo_tree.specs.Exprs as tree
use Rattle.limbo_typed.specs.declared.operation.Given.TheVariants as given
use Rattle.limbo_typed.specs.Typed as typed
use Rattle.limbo_typed.specs.Typed.{Expr, Of, Exprs, NoExprs, MoreExprs, Number, OpenNil}
use Rattle.limbo_context.specs.Context.{Context}
use Rattle.limbo_combining.specs.Laws.{OneCombined, OneOperated, OneBytes}
use Rattle.limbo_assigning.specs.Laws.{OneCopied}
use Rattle.limbo_updating.proofs.Updated.{once}
use Rattle.limbo_places.proofs.Elements.{indexed_once}
use Rattle.limbo_places.proofs.Targets.{target_once}
use Rattle.limbo_places.proofs.References.{refers_once}
use Rattle.limbo_places.proofs.Steps.{steps_once}
use Rattle.limbo_channels.proofs.Channels.{receives_once, sends_once}
use Rattle.limbo_literals.proofs.Literals.{one_list}
use Rattle.limbo_value_forms.specs.Forms.{Before, Gives, AssignForms, Forms}

-- two that are equal to one
both_equal : (w y z : Expr) → y ≡ w → z ≡ w → y ≡ z
both_equal w y z h k = h ∙ sym k

-- what the crates below say of operators and copies
pub record OneBelow : Type 0 where
  pub between : OneCombined
  pub before : OneOperated
  pub bytes : OneBytes
  pub copied : OneCopied

pub before_once : OneBelow → (c : Context) (o : UnaryOp) (x y z : Expr) → Before c o x y → Before c o x z → y ≡ z
before_once b c before.Deref x y z h k = target_once x y z h k
before_once b c before.Ref x y z h k = refers_once x y z h k
before_once b c before.Receive x y z h k = receives_once x y z h k
before_once b c before.Increment x y z h k = steps_once behind.Increment given.New x y z h k
before_once b c before.Decrement x y z h k = steps_once behind.Decrement given.New x y z h k
before_once b c o x y z h k = b.before c.adts o x y z h k

pub gives_once : (o : AssignOp) (l r y z : Expr) → Gives o l r y → Gives o l r z → y ≡ z
gives_once assign.Send l r y z h k = sends_once l r y z h k
gives_once o l r y z h k = once o l r y z h k

assigned_once : OneBelow → (o : AssignOp) (xs : Exprs) (y z : Expr) → AssignForms o xs y → AssignForms o xs z → y ≡ z
assigned_once b assign.Assign (MoreExprs a (MoreExprs i (MoreExprs v NoExprs))) y z h k = b.copied a i v y z h k
assigned_once b assign.Assign _ y z h k = absurd h
assigned_once b o (MoreExprs l (MoreExprs r NoExprs)) y z h k = gives_once o l r y z h k
assigned_once b o _ y z h k = absurd h

pub form_once : OneBelow → (c : Context) (e : tree.Expr) (xs : Exprs) (y z : Expr) → Forms c e xs y → Forms c e xs z → y ≡ z
form_once b c (tree.Number v wide) xs y z h k = both_equal (Of (if wide then Big else Int) (Number v)) y z h k
form_once b c (tree.Chars s) xs y z h k = both_equal (Of Chars (typed.Chars s)) y z h k
form_once b c tree.Nil xs y z h k = both_equal (Of Nil OpenNil) y z h k
form_once b c (tree.Group es) xs y z h k = both_equal _ y z h k
form_once b c (tree.Listed es) xs y z h k = one_list xs y z h k
form_once b c (tree.Binary o l r) (MoreExprs x (MoreExprs w NoExprs)) y z h k = b.between o x w y z h k
form_once b c (tree.Unary o e) (MoreExprs x NoExprs) y z h k = before_once b c o x y z h k
form_once b c (tree.Postfix o e) (MoreExprs x NoExprs) y z h k = steps_once o given.Old x y z h k
form_once b c (tree.Bytes e) (MoreExprs x NoExprs) y z h k = b.bytes x y z h k
form_once b c (tree.Index e i) (MoreExprs x (MoreExprs w NoExprs)) y z h k = indexed_once x w y z h k
form_once b c (tree.Assign o l r) xs y z h k = assigned_once b o xs y z h k
form_once b c _ _ y z h k = absurd h
