-- An expression in whose type something is open yet has no constant value.
use Rattle.std.proofs.Common.{◌≡◌, ◌⊎◌, inl, inr, ℕ, Bool, true, false, if◌then◌else◌, List, Option, None, Some, option_map, refl, sym, ap}
use Rattle.std.proofs.Common.{subst, ◌∙◌}
use Rattle.std.specs.Prelude.{slice_get, ◌-◌, length, cond}
use Rattle.std.proofs.lemmas.Option.{none-some, same_Some}
use Rattle.inf_text.specs.Options.{◌>>=◌}
use Rattle.limbo_values.specs.declared.number.Kind.{Kind}
use Rattle.limbo_values.specs.declared.number.Kind.TheVariants as kind
use Rattle.limbo_types.specs.Types as ty
use Rattle.limbo_types.specs.Types.{Ty}
use Rattle.limbo_tree.specs.declared.operators.AssignOp.{AssignOp}
use Rattle.limbo_tree.specs.declared.operators.AssignOp.TheVariants as assign
use Rattle.limbo_tree.specs.declared.operators.BinaryOp.{BinaryOp}
use Rattle.limbo_tree.specs.declared.operators.UnaryOp.{UnaryOp}
use Rattle.limbo_tree.specs.declared.operators.UnaryOp.TheVariants as before
use Rattle.limbo_tree.specs.declared.operators.PostfixOp.{PostfixOp}
use Rattle.limbo_tree.specs.Exprs as tree
use Rattle.limbo_typed.specs.declared.operation.Given.{Given}
use Rattle.limbo_typed.specs.declared.print.Printed.{Printed}
use Rattle.limbo_typed.specs.declared.stmt.Constant.{Constant}
use Rattle.limbo_typed.specs.declared.stmt.Constant.TheVariants as constant
use Rattle.limbo_typed.specs.Typed as typed
use Rattle.limbo_typed.specs.Typed.{Expr, Of, Node, Exprs, NoExprs, MoreExprs, Optional, Absent, Present, PlaceNode, Var, Signature}
use Rattle.limbo_typed.specs.Typed.{Interface, Module}
use Rattle.limbo_typed.specs.Typed.{Pattern, ToPlace, ToNothing, ToParts}
use Rattle.limbo_typed.specs.Fitting.{of_kind, IsConstant}
use Rattle.limbo_typed.specs.Sound.{type_of, IsSettled, SoundNode}
use Rattle.limbo_scope.specs.declared.meaning.Meaning.{Meaning}
use Rattle.limbo_scope.specs.declared.meaning.Meaning.TheVariants as meaning
use Rattle.limbo_folding.specs.Folding.{folds, on_operands, value_in, value_of}
use Rattle.limbo_folding.specs.Laws.{FitsNode}
use Rattle.limbo_folding.proofs.Ranges.{in_range}
use Rattle.limbo_operators.specs.declared.signs.Binary.{Binary}
use Rattle.limbo_operators.specs.Rows as two
use Rattle.limbo_operators.specs.Rows.{Row, BinaryRow, Identifies, binary_of}
use Rattle.limbo_prefixes.specs.Rows.{OneRow, UnaryRow, BytesRow}
use Rattle.limbo_typed_sound.specs.limbo_combining.Combining as combining
use Rattle.limbo_typed_sound.specs.limbo_combining.Combining.{ByRow, Combines, ByOneRow, Operates, BytesOf}
use Rattle.limbo_updating.specs.Updating as updating
use Rattle.limbo_updating.specs.Updating.{Updates}
use Rattle.limbo_assigning.specs.Assigning as assigning
use Rattle.limbo_assigning.specs.Assigning.{Assigns, Copies, assignment}
use Rattle.limbo_places.specs.Places.{read}
use Rattle.limbo_places.specs.Elements as elements
use Rattle.limbo_places.specs.Elements.{Indexes}
use Rattle.limbo_places.specs.Slices as slicing
use Rattle.limbo_places.specs.Slices.{Slices}
use Rattle.limbo_places.specs.Steps as stepping
use Rattle.limbo_places.specs.Steps.{Steps}
use Rattle.limbo_places.specs.Targets as targets
use Rattle.limbo_places.specs.Targets.{Selects, Dereferences, Refers}
use Rattle.limbo_channels.specs.Channels as channels
use Rattle.limbo_channels.specs.Channels.{Sends, Receives}
use Rattle.limbo_channels.specs.Loading as loading
use Rattle.limbo_channels.specs.Loading.{Loads}
use Rattle.limbo_literals.specs.Literals as literals
use Rattle.limbo_literals.specs.Literals.{Lists, Fills}
use Rattle.limbo_stating.specs.limbo_things.Things as things
use Rattle.limbo_stating.specs.limbo_things.Things.{Thing, AnException, AValue, AType, AVariant, AFunction, AMethod, AMember, APrint, NameIs, MemberIs}
use Rattle.limbo_stating.specs.limbo_things.Things.{PartIs}
use Rattle.limbo_stating.specs.limbo_things.Things.{PartOfValue, PartOfAdt, declared, variable, printed_at, is_number, print_at, function_among}
use Rattle.limbo_stating.specs.limbo_things.Things.{function_at}
use Rattle.limbo_stating.specs.limbo_things.Things.{function_through, export, exported, through_of, export_from, imported, meant, adt_member, member_at}
use Rattle.limbo_stating.specs.limbo_things.Things.{constant_value}
use Rattle.limbo_context.specs.declared.context.Imported.{Imported}
use Rattle.limbo_context.specs.Context.{Context, Body, Valued, named_in}
use Rattle.limbo_typed_sound.specs.limbo_applying.Applying.{Applies}
use Rattle.limbo_typed_sound.specs.limbo_value_forms.Forms.{Before, Gives, AssignForms, Forms}
use Rattle.limbo_typed_sound.specs.limbo_typing.Typing as typing
use Rattle.limbo_typed_sound.specs.limbo_typing.Typing.{Denotes, HasValue, Types, Has}
use Rattle.limbo_typed_sound.proofs.Ready.{Ready, ReadyNode}
use Rattle.limbo_typed_sound.proofs.Rows.{one_settled, bytes_named}

-- An operation that is constant where its operands are gives a value of a settled type.
abbrev pub FoldsSettled : Expr → Type 0
FoldsSettled (Of t (typed.Apply o es)) = IsSettled t ⊎ (folds o ≡ false)
FoldsSettled _ = Unit {0}

at : (z y : Expr) → z ≡ y → FoldsSettled y → FoldsSettled z
at z y e h = subst FoldsSettled (sym e) h

-- ---- operators

kind_settled : (k : Kind) → IsSettled (of_kind k)
kind_settled kind.Byte = tt
kind_settled kind.Int = tt
kind_settled kind.Big = tt

row_settled : (sign : Binary) (t u : Ty) (row : Row) → BinaryRow sign t u row → IsSettled row.result ⊎ (folds row.operation ≡ false)
row_settled _ _ _ _ (two.BinaryRow.numbers o k) = inl (kind_settled k)
row_settled _ _ _ _ (two.texts t u h i) = inl tt
row_settled _ _ _ _ (two.shifts s k) = inl (kind_settled k)
row_settled _ _ _ _ (two.BinaryRow.compared c k) = inl tt
row_settled _ _ _ _ (two.ordered c t u o h i) = inl tt
row_settled _ _ _ _ (two.same_text c t u h i j) = inl tt
row_settled _ _ _ _ (two.identified c o t u h i) = inl tt
row_settled _ _ _ _ (two.with_nil c o t h i j) = inl tt
row_settled _ _ _ _ (two.nil_with c o t h i j) = inl tt
row_settled _ _ _ _ (two.puts t u item joined h j s) = inl s
row_settled _ _ _ _ (two.puts_open t u item joined h j s) = inr refl

module _ (m : Module) (c : Context) where
  combines : (o : BinaryOp) (l r z : Expr) → Combines o l r z → FoldsSettled z
  combines o l r _ (combining.Combines.by_row row e n b) = go row l r e n b
    where
      go : (row : Row) (l r e : Expr) → BinaryRow (binary_of o) (type_of l) (type_of r) row → ByRow row l r e → FoldsSettled e
      go row l r _ n (combining.as_asked f g s t) = row_settled (binary_of o) (type_of l) (type_of r) row n
  combines o l r _ (combining.lazily d i) = tt

  operates : (o : UnaryOp) (e z : Expr) → Operates c.adts o e z → FoldsSettled z
  operates o e _ (combining.by_one_row row x n i r) = go row x i r
    where
      go : (row : OneRow) (x : Expr) → UnaryRow c.adts o (type_of e) row → ByOneRow row e x → FoldsSettled x
      go row _ i (combining.as_one_asked f s) = inl (one_settled m c.adts o (type_of e) row i)

  bytes : (e z : Expr) → BytesOf e z → FoldsSettled z
  bytes e _ (combining.by_bytes_row row x i r) = go row x i r
    where
      go : (row : OneRow) (x : Expr) → BytesRow (type_of e) row → ByOneRow row e x → FoldsSettled x
      go row _ i (combining.as_one_asked f s) = inl (bytes_named m (type_of e) row i).1.1

  updates : (o : AssignOp) (l r z : Expr) → Updates o l r z → FoldsSettled z
  updates o _ _ _ (updating.Updates.by_row t p e x row u b) = go x b
    where
      go : (x : Expr) → updating.ByRow row t p e x → FoldsSettled x
      go _ (updating.as_asked f s) = tt

  copies : (a i e z : Expr) → Copies a i e z → FoldsSettled z
  copies a i e _ (assigning.copied v n q s) = tt

  sends : (l r z : Expr) → Sends l r z → FoldsSettled z
  sends _ _ _ (channels.sends t n e v i s) = tt

  gives : (o : AssignOp) (l r z : Expr) → Gives o l r z → FoldsSettled z
  gives assign.Send l r z d = sends l r z d
  gives o l r z d = updates o l r z d

  indexes : (l r z : Expr) → Indexes l r z → FoldsSettled z
  indexes _ _ _ (elements.element t n i s) = tt
  indexes _ _ _ (elements.Indexes.in_place p i) = tt
  indexes _ _ _ (elements.Indexes.in_value n i q) = inl tt

  steps : (o : PostfixOp) (g : Given) (e z : Expr) → Steps o g e z → FoldsSettled z
  steps o g _ _ (stepping.steps t p row n) = tt

  before_one : (o : UnaryOp) (e z : Expr) → Before c o e z → FoldsSettled z
  before_one before.Deref _ _ (targets.target adt e r) = tt
  before_one before.Ref _ _ (targets.Refers.variant adt v n q) = inl tt
  before_one before.Ref _ _ (targets.Refers.whole adt n q) = inl tt
  before_one before.Receive _ _ (channels.from_one t n s) = tt
  before_one before.Receive _ _ (channels.from_any t n s) = tt
  before_one before.Increment e z d = steps _ _ e z d
  before_one before.Decrement e z d = steps _ _ e z d
  before_one o e z d = operates o e z d

  lists : (es : Exprs) (z : Expr) → Lists es z → FoldsSettled z
  lists es z (literals.Lists.of_type t fs j i s q) = at z _ q (inr refl)
  lists es z (literals.Lists.open_yet t j i q) = at z _ q (inr refl)

  fills : (k : Optional) (is : _) (rest : Optional) (z : Expr) → Fills k is rest z → FoldsSettled z
  fills k is rest z (literals.of_elements t js last l j i s a q) = at z _ q tt
  fills k is rest z (literals.open_elements t l j i q) = at z _ q tt

  slices : (e : Expr) (i j : Optional) (z : Expr) → Slices e i j z → FoldsSettled z
  slices _ _ _ _ (slicing.slices s e i j q a b) = inr refl

  loads : (i : ℕ) (e z : Expr) → Loads i e z → FoldsSettled z
  loads i _ _ (loading.loads e f s) = tt

  applies : (t : Thing) (es : Exprs) (z : Expr) → Applies c t es z → FoldsSettled z
  applies (AFunction f) es z d = at z _ d.calls.gives tt
  applies (AMethod f object) es z d = at z _ d.calls.gives tt
  applies (AMember e i f) es z d = at z _ d.calls.gives tt
  applies (AType (ty.Adt a)) es z d = at z _ d.gives (inl tt)
  applies (AVariant a v) es z d = at z _ d.gives (inl tt)
  applies _ es z d = absurd d

  assigns : (p : Pattern) (e z : Expr) → Assigns p e z → FoldsSettled z
  assigns p e _ (assigning.assigned u v a s) = tt

  assign_forms : (o : AssignOp) (xs : Exprs) (z : Expr) → AssignForms o xs z → FoldsSettled z
  assign_forms assign.Assign (MoreExprs a (MoreExprs i (MoreExprs e NoExprs))) z d = copies a i e z d
  assign_forms assign.Assign xs z d = absurd d
  assign_forms o (MoreExprs l (MoreExprs r NoExprs)) z d = gives o l r z d
  assign_forms o xs z d = absurd d

  forms : (e : tree.Expr) (xs : Exprs) (z : Expr) → Forms c e xs z → FoldsSettled z
  forms (tree.Number v wide) xs z d = at z _ d tt
  forms (tree.Chars s) xs z d = at z _ d tt
  forms tree.Nil xs z d = at z _ d tt
  forms (tree.Group es) xs z d = at z _ d (inr refl)
  forms (tree.Listed es) xs z d = lists xs z d
  forms (tree.Binary o l r) (MoreExprs x (MoreExprs y NoExprs)) z d = combines o x y z d
  forms (tree.Unary o e) (MoreExprs x NoExprs) z d = before_one o x z d
  forms (tree.Postfix o e) (MoreExprs x NoExprs) z d = steps o _ x z d
  forms (tree.Bytes e) (MoreExprs x NoExprs) z d = bytes x z d
  forms (tree.Index e i) (MoreExprs x (MoreExprs y NoExprs)) z d = indexes x y z d
  forms (tree.Assign o l r) xs z d = assign_forms o xs z d
  forms e xs z d = absurd d

-- ---- names, members and parts

-- What is asked of exceptions may be anything.
module _ (c : Context) (E : Type 0) where
  abbrev pub Is : Thing → Type 0
  Is (AValue e) = FoldsSettled e
  Is (AnException n) = E
  Is _ = Unit {0}

  -- what means an exception
  abbrev pub OnException : Meaning → Type 0
  OnException (meaning.Exception n) = Unit {0}
  OnException _ = ⊥

  abbrev Maybe : Option Thing → Type 0
  Maybe None = Unit {0}
  Maybe (Some t) = Is t

  there : (o : Option Thing) (t : Thing) → o ≡ Some t → Maybe o → Is t
  there o t e h = subst Maybe e h

  bound : (A : Type 0) (o : Option A) (f : A → Option Thing) → ((a : A) → Maybe (f a)) → Maybe (o >>= f)
  bound A None f h = tt
  bound A (Some a) f h = h a

  mapped : (A : Type 0) (o : Option A) (f : A → Thing) → ((a : A) → Is (f a)) → Maybe (option_map f o)
  mapped A None f h = tt
  mapped A (Some a) f h = h a

  of_constant : (v : Valued) → FoldsSettled (constant_value v)
  of_constant v = go v.ty v.value
    where
      go : (t : Ty) (k : Constant) → FoldsSettled (Of t (things.literal k))
      go t (constant.Number n) = tt
      go t (constant.Chars s) = tt

  as_declared : (k : Meaning) → Maybe (declared c k)
  as_declared (meaning.Constant n) = mapped Valued (slice_get c.constants n) (λ v. AValue (constant_value v)) of_constant
  as_declared (meaning.Type n) = mapped Ty (slice_get c.types n) AType (λ t. tt)
  as_declared (meaning.Adt n) = tt
  as_declared (meaning.Module n) = tt
  as_declared _ = tt

  in_variable : (place : ℕ → PlaceNode) (vs : List Var) (x : ℕ) → Maybe (option_map AValue (variable place vs x))
  in_variable place vs x = go (slice_get vs x)
    where
      go : (o : Option Var) → Maybe (option_map AValue (option_map (λ v. read v.ty (place x)) o))
      go None = tt
      go (Some v) = tt

  a_print : (i n : ℕ) (e : Expr) → Maybe (print_at c.system i n e)
  a_print i n e = go (is_number c.system i)
    where
      go : (b : Bool) → Maybe (cond b (option_map (λ p. APrint p e) (printed_at n)) None)
      go true = mapped Printed (printed_at n) (λ p. APrint p e) (λ p. tt)
      go false = tt

  a_function : (i j : ℕ) (functions : List Signature) (e : Expr) → Maybe (function_among c.system i j functions e)
  a_function i j functions e = go (slice_get functions j)
    where
      go : (o : Option Signature)
          → Maybe (elim o [ Some s ↦ Some (AMember e i j) | None ↦ print_at c.system i (j - length functions) e ])
      go None = a_print i (j - length functions) e
      go (Some s) = tt

  a_function_through : (i j : ℕ) (o : Optional) → Maybe (function_through c i j o)
  a_function_through i j Absent = tt
  a_function_through i j (Present e) =
      bound Interface (slice_get c.interfaces i) (λ of. function_among c.system i j of.functions e) (λ of. a_function i j of.functions e)

  as_export : (i : ℕ) (o : Optional) (k : Meaning) → Maybe (export c i o k)
  as_export i o (meaning.Function j) = a_function_through i j o
  as_export i o k = as_declared k

  as_exported : (i : ℕ) (o : Optional) (name : List ℕ) → Maybe (exported c i o name)
  as_exported i o name = bound Meaning (named_in c.exports i name) (export c i o) (as_export i o)

  of_member : (name : List ℕ) (s t : Thing) → MemberIs c name s t → Is t
  of_member name (AValue e) t k = there (exported c k.0 (Present e) name) t k.2 (as_exported k.0 (Present e) name)
  of_member name (AType u) t k = there (exported c k.0 Absent name) t k.2 (as_exported k.0 Absent name)
  of_member name _ t k = absurd k

  as_meant : (b : Body) (k : Meaning) → (OnException k → E) → Maybe (meant c b k)
  as_meant b (meaning.Variable n) h = in_variable typed.Local b.variables n
  as_meant b (meaning.Global n) h = in_variable typed.Global c.globals n
  as_meant b (meaning.Function n) h = tt
  as_meant b (meaning.Exception n) h = h tt
  as_meant b (meaning.Import n) h =
      bound Imported (slice_get c.imports n) (imported c b)
      (λ i. bound Optional (through_of c b i.origin) (λ t. export c i.interface t i.member) (λ t. as_export i.interface t i.member))
  as_meant b (meaning.Constant n) h = as_declared (meaning.Constant n)
  as_meant b (meaning.Type n) h = as_declared (meaning.Type n)
  as_meant b (meaning.Adt n) h = tt
  as_meant b (meaning.Module n) h = tt

  pub of_meaning : (b : Body) (k : Meaning) (t : Thing) → (OnException k → E) → meant c b k ≡ Some t → Is t
  of_meaning b k t h e = there (meant c b k) t e (as_meant b k h)

  as_adt_member : (o : Optional) (k : Meaning) → Maybe (adt_member c o k)
  as_adt_member o (meaning.Function n) = tt
  as_adt_member o k = as_declared k

  as_member_at : (a : ℕ) (o : Optional) (name : List ℕ) → Maybe (member_at c a o name)
  as_member_at a o name = bound Meaning (named_in c.members a name) (adt_member c o) (as_adt_member o)

  selected : (name : List ℕ) (e x : Expr) → Selects c.adts name e x → FoldsSettled x
  selected name _ _ (targets.Selects.in_place of p k t h n s) = tt
  selected name _ _ (targets.Selects.in_value of n k t h i q s) = tt
  selected name _ _ (targets.in_target adt e k t h n s) = tt

  of_value : (name : List ℕ) (e : Expr) (t : Thing) → PartOfValue c name e t → Is t
  of_value name e t (things.a_part x s q) = subst Is (sym q) (selected name e x s)
  of_value name e t (things.a_member a n q k) = there (member_at c a (Present e) name) t k (as_member_at a (Present e) name)

  of_adt : (name : List ℕ) (a : ℕ) (t : Thing) → PartOfAdt c name a t → Is t
  of_adt name a t (things.adt_has k) = there (member_at c a Absent name) t k (as_member_at a Absent name)
  of_adt name a t (things.a_variant v n i q) = subst Is (sym q) tt

  of_part : (name : List ℕ) (s t : Thing) → PartIs c name s t → Is t
  of_part name (AValue e) t k = of_value name e t k
  of_part name (AType (ty.Adt a)) t k = of_adt name a t k
  of_part name (AVariant a v) t k = there (member_at c a Absent name) t k (as_member_at a Absent name)
  of_part name _ t k = absurd k

-- A name that is an exception means it.
pub exception_meant : (c : Context) (b : Body) (k : Meaning) (i : ℕ) → meant c b k ≡ Some (AnException i) → k ≡ meaning.Exception i
exception_meant c b (meaning.Exception n) i e =
    let q : AnException n ≡ AnException i = same_Some (AnException n) (AnException i) e in
    let r : n ≡ i = cc in
    ap meaning.Exception r
exception_meant c b k i e = absurd (of_meaning c ⊥ b k (AnException i) (λ x. x) e)

-- ---- whole trees

module _ (m : Module) (c : Context) where
  abbrev Folds : Thing → Type 0
  Folds t = Is c (Unit {0}) t

  mutual
    of_thing : (b : Body) (e : tree.Expr) (t : Thing) (d : Body) → Denotes c b e t d → Folds t
    of_thing _ _ _ _ (typing.by_name b n t k) = of_meaning c (Unit {0}) b k.means t (λ x. tt) k.is
    of_thing _ _ _ _ (typing.by_member b d e n s t h k) = of_member c (Unit {0}) n s t k
    of_thing _ _ _ _ (typing.by_part b d e n s t h k) = of_part c (Unit {0}) n s t k
    of_thing _ _ _ _ (typing.by_value b d e x q h) = value_folds b e x d h

    pub value_folds : (b : Body) (e : tree.Expr) (x : Expr) (d : Body) → HasValue c b e x d → FoldsSettled x
    value_folds _ _ _ _ (typing.has_value b d e x h n) = typed_folds b e x d h

    typed_folds : (b : Body) (e : tree.Expr) (x : Expr) (d : Body) → Types c b e x d → FoldsSettled x
    typed_folds _ _ _ _ (typing.permitted b d e x h k) = within b e x d h

    within : (b : Body) (e : tree.Expr) (z : Expr) (d : Body) → Has c b e z d → FoldsSettled z
    within _ _ _ _ (typing.of_values b d e es xs z q h f) = forms m c e xs z f
    within _ _ _ _ (typing.of_path b d e x q h) = of_thing b e (AValue x) d h
    within _ _ _ _ (typing.in_parentheses b d e x h) = typed_folds b e x d h
    within _ _ _ _ (typing.of_slice b b1 b2 d e i j x z u v h f k s) = slices m c x u v z s
    within _ _ _ _ (typing.of_length b d e t u x z h k s) = at z _ s.gives (inr refl)
    within _ _ _ _ (typing.of_channel b t u z k s) = at z _ s tt
    within _ _ _ _ (typing.of_items b b1 d l is comma u last js z h f s) = fills m c u js last z s
    within _ _ _ _ (typing.of_load b d k e i x z q h s) = loads m c i x z s
    within _ _ _ _ (typing.of_call b b1 d f es t xs z h s r) = applies m c t xs z r
    within _ _ _ _ (typing.of_print b b1 d f es others which i text xs ys o z h e s q r) = at z _ r.gives tt
    within _ _ _ _ (typing.of_assignment b b1 d l r q y z k i j h s) = assigns m c q y z s
    within _ _ _ _ (typing.of_definition b b1 d l r q y h i s) = tt

-- ---- constants

module _ (m : Module) (vs : List Var) where
  fits_node : (t : Ty) (n : Node) → SoundNode m vs t n → FitsNode m.adts t n
  fits_node t (typed.Number n) h = h
  fits_node t (typed.Chars s) h = h
  fits_node t (typed.Apply o es) h = h.1
  fits_node t (typed.Lazy k l r) h = h.2
  fits_node t _ h = tt

  no_constant : (t : Ty) (n : Node) → ReadyNode m vs n → (IsSettled t → ⊥) → FoldsSettled (Of t n) → value_of (Of t n) ≡ None
  no_constant t typed.OpenNil h o f = refl
  no_constant t (typed.Filled k is rest) h o f = refl
  no_constant t (typed.Apply p es) h o (inl s) = absurd (o s)
  no_constant t (typed.Apply p es) h o (inr e) =
      ap (λ (b : Bool). (if b then on_operands p es else None) >>= value_in) e
  no_constant t _ h o f = absurd h

  -- The constant that an expression is, is one of its type.
  pub constant_of : (z : Expr) (v : Constant) → Ready m vs z → FoldsSettled z → value_of z ≡ Some v → IsConstant (type_of z) v
  constant_of (Of t n) v (inl s) f e = in_range m.adts (Of t n) v (fits_node t n s.1) e
  constant_of (Of t n) v (inr o) f e = absurd (none-some v (sym (no_constant t n o.3 o.0 f) ∙ e))
