-- What is made of ready parts is ready.
use Rattle.std.proofs.Common.{◌≡◌, ◌⊎◌, inl, inr, ℕ, ℤ, Bool, true, false, List, [], ◌∷◌, Option, None, Some, refl, sym, ap, subst, ◌∙◌}
use Rattle.std.proofs.lemmas.Option.{slice_get_within}
use Rattle.limbo_values.specs.declared.number.Kind.{Kind}
use Rattle.limbo_values.specs.declared.number.Kind.TheVariants as kind
use Rattle.limbo_types.specs.Types as ty
use Rattle.limbo_types.specs.Types.{Ty, FnTy, Int, Big, Chars, ArrayOf, ListOf, ChanOf, Tuple, Adt, RefAdt}
use Rattle.limbo_types.specs.View.{tys_of}
use Rattle.limbo_tree.specs.declared.operators.AssignOp.{AssignOp}
use Rattle.limbo_tree.specs.declared.operators.AssignOp.TheVariants as assign
use Rattle.limbo_tree.specs.declared.operators.BinaryOp.{BinaryOp}
use Rattle.limbo_tree.specs.declared.operators.UnaryOp.{UnaryOp}
use Rattle.limbo_tree.specs.declared.operators.UnaryOp.TheVariants as before
use Rattle.limbo_tree.specs.declared.operators.PostfixOp.{PostfixOp}
use Rattle.limbo_tree.specs.declared.operators.PostfixOp.TheVariants as behind
use Rattle.limbo_tree.specs.Exprs as tree
use Rattle.limbo_typed.specs.declared.operation.Connective.{Connective}
use Rattle.limbo_typed.specs.declared.operation.Given.{Given}
use Rattle.limbo_typed.specs.declared.operation.Given.TheVariants as given
use Rattle.limbo_typed.specs.declared.operation.Operation.TheVariants as op
use Rattle.limbo_typed.specs.declared.print.Hole.{Hole}
use Rattle.limbo_typed.specs.declared.print.Hole.TheVariants as hole
use Rattle.limbo_typed.specs.declared.print.Piece.{Piece}
use Rattle.limbo_typed.specs.declared.print.Piece.TheVariants as piece
use Rattle.limbo_typed.specs.declared.print.Printed.{Printed}
use Rattle.limbo_typed.specs.declared.print.Printed.TheVariants as printed
use Rattle.limbo_typed.specs.Typed as typed
use Rattle.limbo_typed.specs.Typed.{Expr, Of, Exprs, NoExprs, MoreExprs, Optional, Absent, Present, Items, Read, Place, At, Pattern}
use Rattle.limbo_typed.specs.Typed.{ToPlace, ToNothing, ToParts, Number, OpenNil, Apply, Filled, Module, Var, Interface, Signature}
use Rattle.limbo_typed.specs.Fitting.{of_kind, IsNumber, Gives}
use Rattle.limbo_typed.specs.Sound as checked
use Rattle.limbo_typed.specs.Sound.{type_of, types_of, type_at, IsSettled, AllSettled, IsNamed, NamesAll, IsArray, IsSystem}
use Rattle.limbo_typed.specs.Sound.{SoundExpr, SoundExprs, SoundOptional, SoundPattern, holes, type_of_hole, printed_type, SoundSignature}
use Rattle.limbo_operators.specs.declared.signs.Binary.{Binary}
use Rattle.limbo_operators.specs.Rows as two
use Rattle.limbo_operators.specs.Rows.{Row, BinaryRow, LazyRow, binary_of}
use Rattle.limbo_prefixes.specs.Rows.{OneRow, UnaryRow, BytesRow}
use Rattle.limbo_standing.specs.Standing.{Settles}
use Rattle.limbo_standing.proofs.Settled.{settled_itself, settled_stands}
use Rattle.limbo_arguments.proofs.Each.{all_stand}
use Rattle.limbo_arguments.specs.Parts.{SoundMaybe}
use Rattle.limbo_typing.specs.limbo_combining.Combining as combining
use Rattle.limbo_typing.specs.limbo_combining.Combining.{ByRow, Combines, ByOneRow, Operates, BytesOf, applied}
use Rattle.limbo_typing.specs.limbo_updating.Updating as updating
use Rattle.limbo_typing.specs.limbo_updating.Updating.{Updates}
use Rattle.limbo_assigning.specs.Assigning as assigning
use Rattle.limbo_assigning.specs.Assigning.{Assigns, Copies, IsKnownArray, assignment}
use Rattle.limbo_places.specs.Elements as elements
use Rattle.limbo_places.specs.Elements.{Indexes}
use Rattle.limbo_places.specs.Slices as slicing
use Rattle.limbo_places.specs.Slices.{Slices, IsBound}
use Rattle.limbo_places.specs.Steps as stepping
use Rattle.limbo_places.specs.Steps.{Steps}
use Rattle.limbo_places.specs.Targets as targets
use Rattle.limbo_places.specs.Targets.{Dereferences, Refers}
use Rattle.limbo_places.proofs.Sound.{indexes_sound, slices_sound, targets_sound, references_sound, steps_sound}
use Rattle.limbo_channels.specs.Channels as channels
use Rattle.limbo_channels.specs.Channels.{Sends, Receives}
use Rattle.limbo_channels.specs.Loading as loading
use Rattle.limbo_channels.specs.Loading.{Loads}
use Rattle.limbo_channels.proofs.Sound.{receives_sound, sends_sound, loads_sound}
use Rattle.limbo_literals.specs.Literals as literals
use Rattle.limbo_literals.specs.Literals.{Tuples, Lists, Fills, Sizes, Makes, IsLength}
use Rattle.limbo_literals.proofs.Literals.{tuple_fits}
use Rattle.limbo_calls.specs.Calls.{Calls, CallsThrough, Constructs}
use Rattle.limbo_calls.specs.Prints as prints
use Rattle.limbo_calls.specs.Prints.{Output, PrintsTo, Prints}
use Rattle.limbo_calls.specs.Laws.{IsFit}
use Rattle.limbo_calls.proofs.Calls.{call_fits, through_fits, construct_fits}
use Rattle.limbo_calls.proofs.Prints.{print_fits}
use Rattle.limbo_typing.specs.limbo_things.Things.{Thing, AValue, AType, AVariant, AFunction, AMethod, AMember, APrint}
use Rattle.limbo_typing.specs.limbo_applying.Applying.{with_object, CallsFunction, CallsMember, Applies}
use Rattle.limbo_context.specs.Context.{Context}
use Rattle.limbo_typing.specs.limbo_value_forms.Forms.{Before, Gives as GivesForm, AssignForms, Forms}
use Rattle.limbo_typed_sound.specs.Describing.{HasTypes, Describes, HasFunctionOf, IsNamedFunction}
use Rattle.limbo_typed_sound.specs.Proper.{number_type, IsInRange}
use Rattle.limbo_typed_sound.proofs.Lists.{each_at, each_and}
use Rattle.limbo_typed_sound.proofs.Ready.{decides, stands_alone, IsPlain, MayBeOpen, HasNames, Ready, ReadyEach, ReadyItems, ReadyMaybe}
use Rattle.limbo_typed_sound.proofs.Ready.{as_ready}
use Rattle.limbo_typed_sound.proofs.Ready.{sound, has_names, is_named, sound_at, sound_int, sound_place, all_sound}
use Rattle.limbo_typed_sound.proofs.Ready.{asked, asked_each, asked_all, asked_items, asked_rest}
use Rattle.limbo_typed_sound.proofs.More.{more_rows, more_constructs, fields_named}
use Rattle.limbo_typed_sound.proofs.Rows.{is_asked, ref_settled, known, settled_or_open, row_named, row_gives, one_settled, one_named}
use Rattle.limbo_typed_sound.proofs.Rows.{one_gives}
use Rattle.limbo_typed_sound.proofs.Rows.{bytes_named, bytes_given}
use Rattle.limbo_typed_sound.proofs.Patterns.{ReadyPattern, place_named, asks_named, asks_sound, sound_for}

lazy_ints : (sign : Binary) (t u : Ty) (c : Connective) → LazyRow sign t u c → (t ≡ Int) × (u ≡ Int)
lazy_ints _ _ _ _ (two.ints c) = (refl, refl)

known_array : (t : Ty) → IsKnownArray t → IsSettled t × IsArray t × IsPlain t
known_array (ArrayOf t) h = (h, tt, tt)
known_array _ h = absurd h

module _ (m : Module) (vs : List Var) (c : Context) (types : HasTypes m) (describes : Describes m c) where
  abbrev pub Is : Expr → Type 0
  Is e = Ready m vs e

  abbrev pub Named : Expr → Type 0
  Named z = HasNames m (type_of z)

  equal : (z y : Expr) → z ≡ y → (Named y → Is y) → Named z → Is z
  equal z y q f h = subst Is (sym q) (f (subst Named q h))

  -- ---- operators

  in_row : (sign : Binary) (row : Row) (l r z : Expr) → BinaryRow sign (type_of l) (type_of r) row → ByRow row l r z → Is l → Is r
      → HasNames m row.result → Is z
  in_row sign row l r _ n (combining.as_asked f g s t) h k names = go (settled_or_open m sign (type_of l) (type_of r) row n)
    where
      go : IsSettled row.result ⊎ (row.left ≡ type_of l) × (row.right ≡ type_of r) × (row.result ≡ ListOf ty.Nil)
          → Is (applied row.operation row.result f g)
      go (inl i) =
          let a = row_named m sign (type_of l) (type_of r) row n i names (has_names m vs l h) (has_names m vs r k) (known m vs l h) in
          let b = row_gives m m.adts sign (type_of l) (type_of r) row n i (type_of f) (type_of g) (is_asked row.left l f s)
          (is_asked row.right r g t) in
          inl ((names, i), ((asked m vs row.left l f s h a.0, (asked m vs row.right r g t k a.1, tt)), b))
      go (inr o) =
          let p : f ≡ l = settled_itself l f (subst (λ (x : Ty). Settles x l f) o.0 s) in
          let q : g ≡ r = settled_itself r g (subst (λ (x : Ty). Settles x r g) o.1 t) in
          inr (
            λ i. subst IsSettled o.2 i,
            names,
            subst MayBeOpen (sym o.2) tt,
            (subst Is (sym p) h, (subst Is (sym q) k, tt)),
          )

  combines : (o : BinaryOp) (l r z : Expr) → Combines o l r z → Is l → Is r → Named z → Is z
  combines o l r _ (combining.Combines.by_row row e n b) h k names = in_row (binary_of o) row l r e n b h k (row_names row l r e b names)
    where
      row_names : (row : Row) (l r e : Expr) → ByRow row l r e → Named e → HasNames m row.result
      row_names row l r _ (combining.as_asked f g s t) n = n
  combines o l r _ (combining.lazily d i) h k names =
      let p = lazy_ints (binary_of o) (type_of l) (type_of r) d i in
      inl ((tt, tt), (sound_int m vs l h p.0, sound_int m vs r k p.1, refl))

  operates : (o : UnaryOp) (e z : Expr) → Operates c.adts o e z → Is e → Named z → Is z
  operates o e _ (combining.by_one_row row x n i r) h names = go row x i r names
    where
      go : (row : OneRow) (x : Expr) → UnaryRow c.adts o (type_of e) row → ByOneRow row e x → Named x → Is x
      go row _ i (combining.as_one_asked f s) names =
          let a = asked m vs row.operand e f s h (one_named m c.adts o (type_of e) row i (has_names m vs e h)) in
          let b = one_gives m m.adts o (type_of e) row (more_rows c.adts m.adts describes.adts o (type_of e) row i) (type_of f)
          (is_asked row.operand e f s) in
          inl ((names, one_settled m c.adts o (type_of e) row i), ((a, tt), b))

  bytes : (e z : Expr) → BytesOf e z → Is e → Is z
  bytes e _ (combining.by_bytes_row row x i r) h = go row x i r
    where
      go : (row : OneRow) (x : Expr) → BytesRow (type_of e) row → ByOneRow row e x → Is x
      go row _ i (combining.as_one_asked f s) =
          let n = bytes_named m (type_of e) row i in
          inl (
            n.1,
            (
              (asked m vs row.operand e f s h n.0, tt),
              bytes_given m m.adts (type_of e) row i (type_of f) (is_asked row.operand e f s),
            ),
          )

  -- ---- assignments

  updates : (o : AssignOp) (l r z : Expr) → Updates o l r z → Is l → Is r → Is z
  updates o _ _ _ (updating.Updates.by_row t p e x row u b) h k = go x b
    where
      place : SoundExpr m vs (Of t (Read p))
      place = sound_place m vs t p h

      go : (x : Expr) → updating.ByRow row t p e x → Is x
      go _ (updating.as_asked f s) = by (settled_or_open m u.sign t (type_of e) row u.row)
        where
          by : IsSettled row.result ⊎ (row.left ≡ t) × (row.right ≡ type_of e) × (row.result ≡ ListOf ty.Nil)
              → Is (Of t (typed.Update row.operation p f))
          by (inl i) =
              let n = row_named m u.sign t (type_of e) row u.row i (subst (λ (z : Ty). HasNames m z) (sym u.result) place.0.0) place.0.0
              (has_names m vs e k) (known m vs (Of t (Read p)) h) in
              let a : Gives m.adts row.operation (t ∷ type_of f ∷ []) row.result = row_gives m m.adts u.sign t (type_of e) row u.row i t
              (type_of f)
              (inl (sym u.left), inr refl) (is_asked row.right e f s) in
              let b : Gives m.adts row.operation (t ∷ type_of f ∷ []) t = subst (λ (z : Ty). Gives m.adts row.operation (t ∷ type_of f ∷
              []) z) u.result a in
              let d = subst (λ (z : Ty). Gives m.adts row.operation (z ∷ type_of f ∷ []) z) (sym place.1.1) b in
              inl (place.0, (place.1.0, asked m vs row.right e f s k n.1, d, place.1.1))
          by (inr q) = absurd (subst IsSettled (sym u.result ∙ q.2) place.0.1)

  copies : (a i e z : Expr) → Copies a i e z → Is a → Is i → Is e → Is z
  copies a i e _ (assigning.copied v n q s) h j k =
      let t = known_array (type_of a) n in
      let b = sound m vs a h t.0 in
      inl (
        is_named m vs a b,
        (
          b,
          sound_int m vs i j q,
          asked m vs (type_of a) e v s k (is_named m vs a b),
          t.1,
          refl,
          stands_alone (type_of v) (type_of a) t.2 (settled_stands (type_of a) e v s),
        ),
      )

  sends : (l r z : Expr) → Sends l r z → Is l → Is r → Is z
  sends _ _ _ (channels.sends t n e v i s) h k =
      let b = sound m vs (Of (ChanOf t) n) h i in
      inl (sends_sound m vs _ e _ (channels.sends t n e v i s) b (λ w l. asked m vs t e w l k b.0) b.0)

  gives : (o : AssignOp) (l r z : Expr) → GivesForm o l r z → Is l → Is r → Is z
  gives assign.Send l r z d h k = sends l r z d h k
  gives o l r z d h k = updates o l r z d h k

  pub assigns : (p : Pattern) (e z : Expr) → Assigns p e z → ReadyPattern m vs p → Is e → Is z
  assigns p e _ (assigning.assigned u v a s) h k =
      let n = asks_named m vs p (type_of e) u a (has_names m vs e k) h in
      let b = asked m vs u e v s k n in
      let d = sound_for m vs p (type_of v) u (settled_stands u e v s) (asks_sound m vs p (type_of e) u a h) in
      as_ready m vs (assignment p v) (assigned p v b d)
    where
      assigned : (p : Pattern) (v : Expr) → SoundExpr m vs v → SoundPattern m vs p (type_of v) → SoundExpr m vs (assignment p v)
      assigned (ToPlace q) v b d = (place_named m vs q d.0, (b, d, d.1))
      assigned ToNothing v b d = (is_named m vs v b, (b, d, inl refl))
      assigned (ToParts ps) v b d = (is_named m vs v b, (b, d, inl refl))

  -- ---- places

  indexes : (l r z : Expr) → Indexes l r z → Is l → Is r → Is z
  indexes _ _ _ (elements.element t n i s) h k =
      let b = sound m vs (Of (ArrayOf t) n) h s in
      inl (indexes_sound m vs _ _ _ (elements.element t n i s) b (sound m vs (Of Int i) k tt) b.0)
  indexes _ _ _ (elements.Indexes.in_place p i) h k =
      inl (indexes_sound m vs _ _ _ (elements.Indexes.in_place p i) (sound m vs (Of Chars (Read p)) h tt) (sound m vs (Of Int i) k tt)
      (tt, tt))
  indexes _ _ _ (elements.Indexes.in_value n i q) h k =
      inl (indexes_sound m vs _ _ _ (elements.Indexes.in_value n i q) (sound m vs (Of Chars n) h tt) (sound m vs (Of Int i) k tt) (tt, tt))

  bound : (o : Optional) → IsBound o → ReadyMaybe m vs o → SoundOptional m vs o Int
  bound Absent b h = tt
  bound (Present e) b h = (sound_at m vs e Int h b tt, inl b)

  pub slices : (e : Expr) (i j : Optional) (z : Expr) → Slices e i j z → Is e → ReadyMaybe m vs i → ReadyMaybe m vs j → Is z
  slices _ _ _ _ (slicing.slices s e i j q a b) h k l =
      inl (slices_sound m vs e i j _ (slicing.slices s e i j q a b) (sound m vs e h q.settled) (bound i a k) (bound j b l))

  steps : (o : PostfixOp) (g : Given) (e z : Expr) → Steps o g e z → Is e → Is z
  steps o g _ _ (stepping.steps t p row n) h =
      inl (steps_sound m vs o g _ _ (stepping.steps t p row n) (sound_place m vs t p h))

  dereferences : (e z : Expr) → Dereferences e z → Is e → Named z → Is z
  dereferences _ _ (targets.target adt e r) h names =
      inl (targets_sound m vs e _ (targets.target adt e r) (sound m vs e h (ref_settled adt (type_of e) r)) (names, tt))

  refers : (e z : Expr) → Refers e z → Is e → Named z → Is z
  refers _ _ (targets.Refers.variant adt v n q) h names =
      inl (references_sound m vs _ _ (targets.Refers.variant adt v n q) (sound m vs (Of (Adt adt) n) h tt) (names, tt))
  refers _ _ (targets.Refers.whole adt n q) h names =
      inl (references_sound m vs _ _ (targets.Refers.whole adt n q) (sound m vs (Of (Adt adt) n) h tt) (names, tt))

  receives : (e z : Expr) → Receives e z → Is e → Named z → Is z
  receives _ _ (channels.from_one t n s) h names =
      inl (receives_sound m vs _ _ (channels.from_one t n s) (sound m vs (Of (ChanOf t) n) h s) (names, s))
  receives _ _ (channels.from_any t n s) h names =
      inl (receives_sound m vs _ _ (channels.from_any t n s) (sound m vs (Of (ArrayOf (ChanOf t)) n) h s) (names, (tt, (s, tt))))

  before_one : (o : UnaryOp) (e z : Expr) → Before c o e z → Is e → Named z → Is z
  before_one before.Deref e z d h n = dereferences e z d h n
  before_one before.Ref e z d h n = refers e z d h n
  before_one before.Receive e z d h n = receives e z d h n
  before_one before.Increment e z d h n = steps behind.Increment given.New e z d h
  before_one before.Decrement e z d h n = steps behind.Decrement given.New e z d h
  before_one o e z d h n = operates o e z d h n

  -- ---- literals

  tuples : (es : Exprs) (z : Expr) → Tuples es z → ReadyEach m vs es → Named z → Is z
  tuples es z q h names = equal z _ q (λ n. go n (decides (Tuple (tys_of (types_of es))))) names
    where
      go : HasNames m (Tuple (tys_of (types_of es))) → IsSettled (Tuple (tys_of (types_of es))) ⊎ (IsSettled (Tuple (tys_of (types_of
          es))) → ⊥)
          → Is (Of (Tuple (tys_of (types_of es))) (Apply op.Tuple es))
      go n (inl s) = inl ((n, s), tuple_fits m vs es _ refl s (all_sound m vs es h s))
      go n (inr o) = inr (o, n, tt, h)

  lists : (es : Exprs) (z : Expr) → Lists es z → ReadyEach m vs es → Named z → Is z
  lists es z (literals.Lists.of_type t fs j i s q) h names =
      equal z _ q (λ n. inl ((n, i), (asked_all m vs t es fs s h (n, i), (t, refl, all_stand t es fs s)))) names
  lists es z (literals.Lists.open_yet t j i q) h names = equal z _ q (λ n. inr (λ k. k, n, tt, h)) names

  length_of : (o : Optional) → IsLength o → ReadyMaybe m vs o → SoundOptional m vs o Int
  length_of Absent b h = tt
  length_of (Present e) b h = (sound_at m vs e Int h b tt, inl b)

  pub fills : (k : Optional) (is : Items) (rest : Optional) (z : Expr) → Fills k is rest z → ReadyMaybe m vs k → ReadyItems m vs is
      → ReadyMaybe m vs rest → Named z → Is z
  fills k is rest z (literals.of_elements t js last l j i s a q) g h r names =
      equal z _ q (λ n. inl (
        (n, i),
        (
          t,
          refl,
          length_of k l g,
          asked_items m vs t is js s h (n, i),
          asked_rest m vs t rest last a r (
            n,
            i,
          ),
        ),
      )) names
  fills k is rest z (literals.open_elements t l j i q) g h r names =
      equal z _ q (λ n. inr (λ x. x, n, tt, (length_of k l g, h, r))) names

  pub sizes : (e : Expr) (t : Ty) (z : Expr) → Sizes e t z → Is e → IsSettled t → Named z → Is z
  sizes e t z s h i names =
      equal z _ s.gives (λ n. inl ((n, i), ((sound_at m vs e Int h s.int tt, tt), (t, refl, ap (λ (x : Ty). x ∷ []) s.int)))) names

  pub makes : (t : Ty) (z : Expr) → Makes t z → IsSettled t → Named z → Is z
  makes t z q i names = equal z _ q (λ n. inl ((n, i), (tt, tt))) names

  pub loads : (i : ℕ) (e z : Expr) → Loads i e z → Is e → Named z → Is z
  loads i _ _ (loading.loads e f s) h names =
      inl (loads_sound m vs i e _ (loading.loads e f s) (λ p l. asked m vs Chars e p l h (tt, tt)) (names, tt))

  -- ---- calls

  calls : (f : ℕ) (of : FnTy) (es : Exprs) (z : Expr) → Calls f of es z → HasFunctionOf m f of → ReadyEach m vs es → Is z
  calls f of es z d has h =
      let n : IsNamedFunction m of = subst (IsNamedFunction m) has.2
      (each_at (λ g. IsNamedFunction m g.of) m.functions f has.0 has.1 types.functions) in
      let a = asked_each m vs of.args es d.values d.arguments h n.0 in
      let q = call_fits m vs f has.0 es z has.1 (subst (λ (o : FnTy). Calls f o es z) (sym has.2) d) in
      let fit : IsFit m vs (Of of.answer (typed.Call f d.values)) = subst (λ (x : Expr). IsFit m vs x) d.gives q in
      subst Is (sym d.gives) (inl (n.1, fit a))

  calls_member : (e : Expr) (i f : ℕ) (es : Exprs) (z : Expr) → CallsMember c e i f es z → Is e → ReadyEach m vs es → Is z
  calls_member e i f es z d h k =
      let s = d.member in
      let at = describes.interfaces i d.declares.of d.declares.there in
      let n = each_at (SoundSignature m) d.declares.of.functions f s d.declares.declared
      (each_at (λ (x : Interface). checked.Each (SoundSignature m) x.functions) m.interfaces i d.declares.of at types.interfaces) in
      let a = asked_each m vs s.of.args es d.calls.values d.calls.arguments k n.0 in
      let b = sound_at m vs e (ty.Module i) h d.calls.through tt in
      let q = through_fits m vs e i f d.declares.of s es z at d.declares.declared
      (subst (λ (x : Option ℕ). CallsThrough x e i f s.of es z) describes.system d.calls) in
      let fit : IsFit m vs (Of s.of.answer (typed.CallThrough e i f d.calls.values)) = subst (λ (x : Expr). IsFit m vs x) d.calls.gives q in
      subst Is (sym d.calls.gives) (inl (n.1, fit (b, a)))

  constructs : (adt : ℕ) (variant : Option ℕ) (es : Exprs) (z : Expr) → Constructs c.adts adt variant es z → ReadyEach m vs es → Is z
  constructs adt variant es z old h =
      let d = more_constructs c.adts m.adts describes.adts adt variant es z old in
      let a = asked_each m vs d.types es d.values d.arguments h (fields_named m types adt variant d.types d.fields) in
      let fit : IsFit m vs (Of (Adt adt) (Apply (op.Adt adt variant) d.values)) = subst (λ (x : Expr). IsFit m vs x) d.gives
      (construct_fits m vs adt variant es z d) in
      subst Is (sym d.gives) (inl ((slice_get_within m.adts adt d.fields.def d.fields.there, tt), fit a))

  with_it : (takes : Bool) (object : Optional) (es : Exprs) → ReadyMaybe m vs object → ReadyEach m vs es
      → ReadyEach m vs (with_object takes object es)
  with_it true Absent es h k = k
  with_it true (Present e) es h k = (h, k)
  with_it false object es h k = k

  calls_function : (f : ℕ) (object : Optional) (es : Exprs) (z : Expr) → CallsFunction c f object es z → ReadyMaybe m vs object
      → ReadyEach m vs es → Is z
  calls_function f object es z d h k =
      calls f d.callee.of (with_object d.callee.takes_self object es) z d.calls (describes.functions f d.callee d.there)
      (with_it d.callee.takes_self object es h k)

  -- what stands before a call, a `.` or a `->`
  abbrev pub ReadyThing : Thing → Type 0
  ReadyThing (AValue e) = Is e
  ReadyThing (AMethod f object) = ReadyMaybe m vs object
  ReadyThing (AMember e i f) = Is e
  ReadyThing (APrint p e) = Is e × IsSystem m (type_of e)
  ReadyThing _ = Unit {0}

  pub applies : (t : Thing) (es : Exprs) (z : Expr) → Applies c t es z → ReadyThing t → ReadyEach m vs es → Is z
  applies (AFunction f) es z d h k = calls_function f Absent es z d tt k
  applies (AMethod f object) es z d h k = calls_function f object es z d h k
  applies (AMember e i f) es z d h k = calls_member e i f es z d h k
  applies (AType (Adt a)) es z d h k = constructs a None es z d k
  applies (AVariant a v) es z d h k = constructs a (Some v) es z d k
  applies _ es z d h k = absurd d

  -- ---- prints

  -- of the file, where a print has one
  abbrev pub ReadyOutput : Output → Type 0
  ReadyOutput (prints.Fprint e) = Is e
  ReadyOutput _ = Unit {0}

  file_of : (o : Output) (which : Printed) (file : Optional) → PrintsTo o c.fd which file → ReadyOutput o → SoundMaybe m vs file
  file_of prints.Print which file d h = subst (λ (z : Optional). SoundMaybe m vs z) (sym d.1) tt
  file_of (prints.Fprint e) which file d h =
      subst (λ (z : Optional). SoundMaybe m vs z) (sym d.5) (asked m vs (RefAdt d.1) e d.2 d.4 h (describes.fd d.1 d.3, tt))
  file_of prints.Sprint which file d h = subst (λ (z : Optional). SoundMaybe m vs z) (sym d.1) tt

  kind_named : (k : Kind) → IsNamed m (of_kind k)
  kind_named kind.Byte = (tt, tt)
  kind_named kind.Int = (tt, tt)
  kind_named kind.Big = (tt, tt)

  hole_named : (h : Hole) → NamesAll m (type_of_hole h)
  hole_named (hole.Decimal k) = (kind_named k, tt)
  hole_named hole.Chars = ((tt, tt), tt)
  hole_named hole.Character = ((tt, tt), tt)
  hole_named hole.Hexadecimal = ((tt, tt), tt)
  hole_named hole.Error = tt

  holes_named : (ps : List Piece) → NamesAll m (holes ps)
  holes_named [] = tt
  holes_named (piece.Chars t ∷ ps) = holes_named ps
  holes_named (piece.Hole h ∷ ps) = each_and (IsNamed m) (type_of_hole h) (holes ps) (hole_named h) (holes_named ps)

  printed_named : (p : Printed) → IsNamed m (printed_type p)
  printed_named printed.Print = (tt, tt)
  printed_named printed.Fprint = (tt, tt)
  printed_named printed.Sprint = (tt, tt)

  pub prints_one : (o : Output) (e : Expr) (text : List ℕ) (es : Exprs) (z : Expr) → Prints c.fd o e text es z → ReadyOutput o → Is e
      → IsSystem m (type_of e) → ReadyEach m vs es → Is z
  prints_one o e text es z d h i s k =
      let a = asked_each m vs (holes d.pieces) es d.values d.formats.arguments k (holes_named d.pieces) in
      let b = sound_at m vs e (ty.Module s.0) i s.2 tt in
      let fit : IsFit m vs (Of (printed_type d.which) (typed.Print d.which e d.file d.pieces d.values)) =
      subst (λ (x : Expr). IsFit m vs x) d.gives (print_fits m vs c.fd o e text es z s d) in
      subst Is (sym d.gives) (inl (printed_named d.which, fit (b, file_of o d.which d.file d.to h, a)))

  -- ---- the forms whose parts are values

  assign_forms : (o : AssignOp) (xs : Exprs) (z : Expr) → AssignForms o xs z → ReadyEach m vs xs → Is z
  assign_forms assign.Assign (MoreExprs a (MoreExprs i (MoreExprs e NoExprs))) z d h = copies a i e z d h.0 h.1.0 h.1.1.0
  assign_forms assign.Assign xs z d h = absurd d
  assign_forms o (MoreExprs l (MoreExprs r NoExprs)) z d h = gives o l r z d h.0 h.1.0
  assign_forms o xs z d h = absurd d

  number : (wide : Bool) (v : ℤ) → IsNumber (number_type wide) v → Is (Of (number_type wide) (Number v))
  number true v h = inl ((tt, tt), h)
  number false v h = inl ((tt, tt), h)

  pub forms : (e : tree.Expr) (xs : Exprs) (z : Expr) → Forms c e xs z → IsInRange e → ReadyEach m vs xs → Named z → Is z
  forms (tree.Number v wide) xs z d p h n = subst Is (sym d) (number wide v p)
  forms (tree.Chars s) xs z d p h n = subst Is (sym d) (inl ((tt, tt), refl))
  forms tree.Nil xs z d p h n = subst Is (sym d) (inr (λ x. x, tt, tt, tt))
  forms (tree.Group es) xs z d p h n = tuples xs z d h n
  forms (tree.Listed es) xs z d p h n = lists xs z d h n
  forms (tree.Binary o l r) (MoreExprs x (MoreExprs y NoExprs)) z d p h n = combines o x y z d h.0 h.1.0 n
  forms (tree.Unary o e) (MoreExprs x NoExprs) z d p h n = before_one o x z d h.0 n
  forms (tree.Postfix o e) (MoreExprs x NoExprs) z d p h n = steps o given.Old x z d h.0
  forms (tree.Bytes e) (MoreExprs x NoExprs) z d p h n = bytes x z d h.0
  forms (tree.Index e i) (MoreExprs x (MoreExprs y NoExprs)) z d p h n = indexes x y z d h.0 h.1.0
  forms (tree.Assign o l r) xs z d p h n = assign_forms o xs z d h
  forms e xs z d p h n = absurd d
