-- What is made of typed parts has a node of its own, and beside it the nodes of the parts alone.
use Rattle.std.proofs.Common.{ℕ, Bool, true, false, List, Option, None, Some, sym, subst}
use Rattle.limbo_types.specs.Types.{Ty, FnTy, Chars, Adt, RefAdt}
use Rattle.limbo_layout.specs.Adts.{Def}
use Rattle.limbo_tree.specs.declared.operators.AssignOp.{AssignOp}
use Rattle.limbo_tree.specs.declared.operators.AssignOp.TheVariants as assign
use Rattle.limbo_tree.specs.declared.operators.BinaryOp.{BinaryOp}
use Rattle.limbo_tree.specs.declared.operators.UnaryOp.{UnaryOp}
use Rattle.limbo_tree.specs.declared.operators.UnaryOp.TheVariants as before
use Rattle.limbo_tree.specs.declared.operators.PostfixOp.{PostfixOp}
use Rattle.limbo_tree.specs.declared.operators.PostfixOp.TheVariants as behind
use Rattle.limbo_tree.specs.Exprs as tree
use Rattle.limbo_typed.specs.declared.operation.Given.{Given}
use Rattle.limbo_typed.specs.declared.operation.Given.TheVariants as given
use Rattle.limbo_typed.specs.declared.print.Printed.{Printed}
use Rattle.limbo_typed.specs.Typed as typed
use Rattle.limbo_typed.specs.Typed.{Expr, Of, Node, Exprs, NoExprs, MoreExprs, Optional, Absent, Present, Items, Read, Pattern}
use Rattle.limbo_typed.specs.Typed.{Number}
use Rattle.limbo_typed.specs.Sound.{type_of}
use Rattle.limbo_operators.specs.Rows.{Row}
use Rattle.limbo_prefixes.specs.Rows.{OneRow}
use Rattle.limbo_combining.specs.Combining as combining
use Rattle.limbo_combining.specs.Combining.{ByRow, Combines, ByOneRow, Operates, BytesOf}
use Rattle.limbo_updating.specs.Updating as updating
use Rattle.limbo_updating.specs.Updating.{Updates}
use Rattle.limbo_assigning.specs.Assigning as assigning
use Rattle.limbo_assigning.specs.Assigning.{Assigns, Copies}
use Rattle.limbo_places.specs.Elements as elements
use Rattle.limbo_places.specs.Elements.{Indexes}
use Rattle.limbo_places.specs.Slices as slicing
use Rattle.limbo_places.specs.Slices.{Slices, with_bound}
use Rattle.limbo_places.specs.Steps as stepping
use Rattle.limbo_places.specs.Steps.{Steps}
use Rattle.limbo_places.specs.Targets as targets
use Rattle.limbo_places.specs.Targets.{Dereferences, Refers}
use Rattle.limbo_channels.specs.Channels as channels
use Rattle.limbo_channels.specs.Channels.{Sends, Receives}
use Rattle.limbo_channels.specs.Loading as loading
use Rattle.limbo_channels.specs.Loading.{Loads}
use Rattle.limbo_literals.specs.Literals as literals
use Rattle.limbo_literals.specs.Literals.{Lists, Fills, Sizes, Makes}
use Rattle.limbo_calls.specs.Calls.{Calls, CallsThrough, Constructs}
use Rattle.limbo_calls.specs.Prints as prints
use Rattle.limbo_calls.specs.Prints.{Output, PrintsTo, Prints}
use Rattle.limbo_things.specs.Things.{Thing, AType, AVariant, AFunction, AMethod, AMember}
use Rattle.limbo_applying.specs.Applying.{with_object, CallsFunction, Applies}
use Rattle.limbo_permits.specs.Permits.{node_of}
use Rattle.limbo_context.specs.Context.{Context}
use Rattle.limbo_typing.specs.limbo_value_forms.Forms.{Before, Gives, AssignForms, Forms}
use Rattle.limbo_typed_stores.specs.Nodes.{AllNodes, InNode, InEach, InOptional, InItems, InPattern, InThing}
use Rattle.limbo_typed_stores.proofs.Settled.{StoresNothing, inner_same, settled, settled_each, settled_all, settled_items, settled_rest}

module _ (P : Node → Type 0) (plain : (n : Node) → StoresNothing n → P n) where
  abbrev At : Expr → Type 0
  At e = AllNodes P e

  abbrev Within : Expr → Type 0
  Within z = InNode P (node_of z)

  -- ---- operators

  in_row : (row : Row) (l r z : Expr) → ByRow row l r z → At l → At r → Within z
  in_row row l r _ (combining.as_asked f g s t) h k =
      (settled P plain row.left l f s h, (settled P plain row.right r g t k, tt))

  pub combines : (o : BinaryOp) (l r z : Expr) → Combines o l r z → At l → At r → Within z
  combines o l r _ (combining.Combines.by_row row e n m) h k = in_row row l r e m h k
  combines o l r _ (combining.lazily c m) h k = (h, k)

  in_one_row : (row : OneRow) (e z : Expr) → ByOneRow row e z → At e → Within z
  in_one_row row e _ (combining.as_one_asked f s) h = (settled P plain row.operand e f s h, tt)

  pub operates : (defs : List Def) (o : UnaryOp) (e z : Expr) → Operates defs o e z → At e → Within z
  operates defs o e _ (combining.by_one_row row x n m r) h = in_one_row row e x r h

  pub bytes : (e z : Expr) → BytesOf e z → At e → Within z
  bytes e _ (combining.by_bytes_row row x m r) h = in_one_row row e x r h

  -- ---- assignments

  in_update : (row : Row) (t : Ty) (p : typed.Place) (e z : Expr) → updating.ByRow row t p e z → At (Of t (Read p)) → At e → Within z
  in_update row t p e _ (updating.as_asked f s) h k = (h.1, settled P plain row.right e f s k)

  pub updates : (o : AssignOp) (l r z : Expr) → Updates o l r z → At l → At r → Within z
  updates o _ _ _ (updating.Updates.by_row t p e x row m r) h k = in_update row t p e x r h k

  pub assigns : (p : Pattern) (e z : Expr) → Assigns p e z → InPattern P p → At e → Within z
  assigns p e _ (assigning.assigned asked v a s) h k = (h, settled P plain asked e v s k)

  pub copies : (a i e z : Expr) → Copies a i e z → At a → At i → At e → Within z
  copies a i e _ (assigning.copied v m n s) h j k = (h, j, settled P plain (type_of a) e v s k)

  pub sends : (l r z : Expr) → Sends l r z → At l → At r → Within z
  sends _ _ _ (channels.sends t n e v q s) h k = (h, settled P plain t e v s k)

  pub gives : (o : AssignOp) (l r z : Expr) → Gives o l r z → At l → At r → Within z
  gives assign.Send l r z m h k = sends l r z m h k
  gives o l r z m h k = updates o l r z m h k

  -- ---- places

  pub indexes : (l r z : Expr) → Indexes l r z → At l → At r → Within z
  indexes _ _ _ (elements.element t n i s) h k = (h, k)
  indexes _ _ _ (elements.Indexes.in_place p i) h k = (h.1, k)
  indexes _ _ _ (elements.Indexes.in_value n i m) h k = (h, (k, tt))

  in_bound : (o : Optional) (es : Exprs) → InOptional P o → InEach P es → InEach P (with_bound o es)
  in_bound Absent es h k = k
  in_bound (Present e) es h k = (h, k)

  pub slices : (e : Expr) (i j : Optional) (z : Expr) → Slices e i j z → At e → InOptional P i → InOptional P j → Within z
  slices _ _ _ _ (slicing.slices s e i j m n o) h k l =
      (h, in_bound i (with_bound j NoExprs) k (in_bound j NoExprs l tt))

  pub steps : (o : PostfixOp) (g : Given) (e z : Expr) → Steps o g e z → At e → Within z
  steps o g _ _ (stepping.steps t p row m) h = h.1

  pub dereferences : (e z : Expr) → Dereferences e z → At e → Within z
  dereferences _ _ (targets.target adt e r) h = h

  pub refers : (e z : Expr) → Refers e z → At e → Within z
  refers _ _ (targets.Refers.variant adt v n m) h = (h, tt)
  refers _ _ (targets.Refers.whole adt n m) h = (h, tt)

  pub receives : (e z : Expr) → Receives e z → At e → Within z
  receives _ _ (channels.from_one t n s) h = h
  receives _ _ (channels.from_any t n s) h = h

  pub before_one : (c : Context) (o : UnaryOp) (e z : Expr) → Before c o e z → At e → Within z
  before_one c before.Deref e z m h = dereferences e z m h
  before_one c before.Ref e z m h = refers e z m h
  before_one c before.Receive e z m h = receives e z m h
  before_one c before.Increment e z m h = steps behind.Increment given.New e z m h
  before_one c before.Decrement e z m h = steps behind.Decrement given.New e z m h
  before_one c o e z m h = operates c.adts o e z m h

  -- ---- literals

  pub lists : (es : Exprs) (z : Expr) → Lists es z → InEach P es → Within z
  lists es z (literals.Lists.of_type t fs j m s q) h = inner_same P z _ q (settled_all P plain t es fs s h)
  lists es z (literals.Lists.open_yet t j m q) h = inner_same P z _ q h

  pub fills : (n : Optional) (is : Items) (rest : Optional) (z : Expr) → Fills n is rest z → InOptional P n → InItems P is
      → InOptional P rest → Within z
  fills n is rest z (literals.of_elements t js last m j s a r q) h k l =
      inner_same P z _ q (h, settled_items P plain t is js a k, settled_rest P plain t rest last r l)
  fills n is rest z (literals.open_elements t m j s q) h k l = inner_same P z _ q (h, k, l)

  pub sizes : (e : Expr) (t : Ty) (z : Expr) → Sizes e t z → At e → Within z
  sizes e t z s h = inner_same P z _ s.gives (h, tt)

  pub makes : (t : Ty) (z : Expr) → Makes t z → Within z
  makes t z q = inner_same P z _ q tt

  pub loads : (i : ℕ) (e z : Expr) → Loads i e z → At e → Within z
  loads i _ _ (loading.loads e f s) h = settled P plain Chars e f s h

  -- ---- calls

  pub calls : (f : ℕ) (of : FnTy) (es : Exprs) (z : Expr) → Calls f of es z → InEach P es → Within z
  calls f of es z m h = inner_same P z _ m.gives (settled_each P plain of.args es m.values m.arguments h)

  pub calls_through : (system : Option ℕ) (e : Expr) (i f : ℕ) (of : FnTy) (es : Exprs) (z : Expr)
      → CallsThrough system e i f of es z → At e → InEach P es → Within z
  calls_through system e i f of es z m h k =
      inner_same P z _ m.gives (h, settled_each P plain of.args es m.values m.arguments k)

  pub constructs : (defs : List Def) (adt : ℕ) (variant : Option ℕ) (es : Exprs) (z : Expr) → Constructs defs adt variant es z
      → InEach P es → Within z
  constructs defs adt variant es z m h = inner_same P z _ m.gives (settled_each P plain m.types es m.values m.arguments h)

  in_arguments : (takes : Bool) (object : Optional) (es : Exprs) → InOptional P object → InEach P es
      → InEach P (with_object takes object es)
  in_arguments true Absent es h k = k
  in_arguments true (Present e) es h k = (h, k)
  in_arguments false object es h k = k

  calls_function : (c : Context) (f : ℕ) (object : Optional) (es : Exprs) (z : Expr) → CallsFunction c f object es z
      → InOptional P object → InEach P es → Within z
  calls_function c f object es z m h k =
      calls f m.callee.of (with_object m.callee.takes_self object es) z m.calls (in_arguments m.callee.takes_self object es h k)

  pub applies : (c : Context) (t : Thing) (es : Exprs) (z : Expr) → Applies c t es z → InThing P t → InEach P es → Within z
  applies c (AFunction f) es z m h k = calls_function c f Absent es z m tt k
  applies c (AMethod f object) es z m h k = calls_function c f object es z m h k
  applies c (AMember e i f) es z m h k = calls_through c.system e i f m.member.of es z m.calls h k
  applies c (AType (Adt a)) es z m h k = constructs c.adts a None es z m k
  applies c (AVariant a v) es z m h k = constructs c.adts a (Some v) es z m k
  applies c _ es z m h k = absurd m

  -- of the file, where a print has one
  abbrev pub InOutput : Output → Type 0
  InOutput (prints.Fprint e) = At e
  InOutput _ = Unit {0}

  in_file : (o : Output) (fd : Option ℕ) (which : Printed) (file : Optional) → PrintsTo o fd which file → InOutput o
      → InOptional P file
  in_file prints.Print fd which file m h = subst (λ (z : Optional). InOptional P z) (sym m.1) tt
  in_file (prints.Fprint e) fd which file m h =
      subst (λ (z : Optional). InOptional P z) (sym m.5) (settled P plain (RefAdt m.1) e m.2 m.4 h)
  in_file prints.Sprint fd which file m h = subst (λ (z : Optional). InOptional P z) (sym m.1) tt

  pub prints_one : (fd : Option ℕ) (o : Output) (e : Expr) (text : List ℕ) (es : Exprs) (z : Expr) → Prints fd o e text es z
      → InOutput o → At e → InEach P es → Within z
  prints_one fd o e text es z m h i k = inner_same P z _ m.gives (
    i,
    in_file o fd m.which m.file m.to h,
    settled_each P plain _ es m.values m.formats.arguments k,
  )

  -- ---- the forms whose parts are values

  assign_forms : (o : AssignOp) (xs : Exprs) (z : Expr) → AssignForms o xs z → InEach P xs → Within z
  assign_forms assign.Assign (MoreExprs a (MoreExprs i (MoreExprs e NoExprs))) z m h = copies a i e z m h.0 h.1.0 h.1.1.0
  assign_forms assign.Assign xs z m h = absurd m
  assign_forms o (MoreExprs l (MoreExprs r NoExprs)) z m h = gives o l r z m h.0 h.1.0
  assign_forms o xs z m h = absurd m

  pub forms : (c : Context) (e : tree.Expr) (xs : Exprs) (z : Expr) → Forms c e xs z → InEach P xs → Within z
  forms c (tree.Number v wide) xs z m h = inner_same P z _ m tt
  forms c (tree.Chars s) xs z m h = inner_same P z _ m tt
  forms c tree.Nil xs z m h = inner_same P z _ m tt
  forms c (tree.Group es) xs z m h = inner_same P z _ m h
  forms c (tree.Listed es) xs z m h = lists xs z m h
  forms c (tree.Binary o l r) (MoreExprs x (MoreExprs y NoExprs)) z m h = combines o x y z m h.0 h.1.0
  forms c (tree.Unary o e) (MoreExprs x NoExprs) z m h = before_one c o x z m h.0
  forms c (tree.Postfix o e) (MoreExprs x NoExprs) z m h = steps o given.Old x z m h.0
  forms c (tree.Bytes e) (MoreExprs x NoExprs) z m h = bytes x z m h.0
  forms c (tree.Index e i) (MoreExprs x (MoreExprs y NoExprs)) z m h = indexes x y z m h.0 h.1.0
  forms c (tree.Assign o l r) xs z m h = assign_forms o xs z m h
  forms c e xs z m h = absurd m
