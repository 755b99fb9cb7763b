-- Why names mean no type, and that what fails means nothing.
use Rattle.std.proofs.Common.{◌≡◌, ◌<◌, ◌⊎◌, inl, inr, ℕ, zero, suc, List, [], ◌∷◌, Option, None, Some, Bool, true, false, length, map, get_or, refl, sym, ap, subst, ◌∙◌, arith}
use Rattle.std.proofs.lemmas.Option.{none-some, same_Some}
use Rattle.inf_text.specs.Options.{◌>>=◌}
use Rattle.inf_text.specs.declared.span.Span.{Span}
use Rattle.limbo_tree.specs.declared.name.Qual as code_qual
use Rattle.limbo_tree.specs.declared.types.TypeTree as code_type
use Rattle.limbo_tree.specs.Types as tree
use Rattle.limbo_tree.specs.View as view
use Rattle.limbo_tree.specs.View.{view_type, view_qual}
use Rattle.limbo_tree.proofs.Exprs.{view_type-Array, view_type-List, view_type-Chan, view_type-Ref, view_type-Named}
use Rattle.limbo_types.specs.Types as ty
use Rattle.limbo_types.specs.Types.{Ty, Tys}
use Rattle.limbo_scope.specs.declared.meaning.Meaning.{Meaning}
use Rattle.limbo_context.specs.Context.{Context, Body}
use Rattle.limbo_body_types.specs.declared.found.Found.{Found}
use Rattle.limbo_body_types.specs.declared.found.Found.TheVariants as found
use Rattle.limbo_body_types.specs.declared.fault.WrittenFault.{WrittenFault}
use Rattle.limbo_body_types.specs.declared.fault.WrittenFault.TheVariants.{NoMemory, Unknown, NotAType}
use Rattle.limbo_body_types.specs.Means as means
use Rattle.limbo_body_types.specs.Means.{Means, AllMean, IsNamed, NamesVariant, type_meant, adt_meant, value_of}
use Rattle.limbo_body_types.specs.Fails as fails
use Rattle.limbo_body_types.specs.Fails.{IsLacking, written, NamesNoType, IsPart, Writes, Fails}
use Rattle.limbo_body_types.specs.Found.{NamesNothing, IsFound}
use Rattle.limbo_body_types.proofs.Names.{one_named, not_both, lacking_named, lacking_variant, nothing_named, nothing_variant, nothing_lacking}
use Rattle.limbo_body_types.proofs.Unique.{from_array, from_list, from_chan, from_tuple, from_named, from_more}
use Rattle.limbo_body_types.proofs.Composing.{of_parts}

module _ (c : Context) (b : Body) (q : tree.Qual) where
  -- ---- a name that means a type is one, or a variant

  abbrev IsOne : Type 0
  IsOne = ((m : Meaning) × IsNamed c b q m) ⊎ ((a : ℕ) × (v : ℕ) × NamesVariant c b q a v)

  behind_ref : (u : Ty) → Means c b (tree.RefTo q) u → IsOne
  behind_ref _ (means.ref_adt q m a d s) = inl (m, d)
  behind_ref _ (means.ref_variant q a v x) = inr (a, v, x)

  is_one : (r : Bool) (u : Ty) → Means c b (written r q) u → IsOne
  is_one false u h = let f = from_named c b q u h in inl (f.0, f.1)
  is_one true u h = behind_ref u h

  pub lacking_means : IsLacking c b q → (r : Bool) (u : Ty) → Means c b (written r q) u → ⊥
  lacking_means l r u h =
      elim (is_one r u h) [ inl x ↦ lacking_named c b q x.0 l x.1 | inr x ↦ lacking_variant c b q x.0 x.1 l x.2 ]

  -- ---- names that mean no type

  pub means_nothing : (r : Bool) → NamesNothing c b q → NamesNoType c b q r
  means_nothing r n = record {
    there = λ l. nothing_lacking c b q n l;
    no_type = λ u h. elim (is_one r u h) [ inl x ↦ nothing_named c b q x.0 n x.1 | inr x ↦ nothing_variant c b q x.0 x.1 n x.2 ];
  }

  pub no_type : (m : Meaning) → IsNamed c b q m → type_meant c m ≡ None → NamesNoType c b q false
  no_type m d none = record {
    there = λ l. lacking_named c b q m l d;
    no_type = λ u h.
        let f = from_named c b q u h in
        let e = one_named c b q f.0 m f.1 d in
        none-some u (sym none ∙ subst (λ (z : Meaning). type_meant c z ≡ Some u) e f.2);
  }

  variant_alone : (a v : ℕ) → NamesVariant c b q a v → NamesNoType c b q false
  variant_alone a v w = record {
    there = λ l. lacking_variant c b q a v l w;
    no_type = λ u h. let f = from_named c b q u h in not_both c b q f.0 a v w f.1;
  }

  pub no_type_alone : (f : Found) → IsFound c b q f → (f ≡ found.Lacking → ⊥) → ((m : Meaning) → f ≡ found.Named m → ⊥) → NamesNoType c b q false
  no_type_alone found.Lacking h k l = absurd (k refl)
  no_type_alone found.Nothing h k l = means_nothing false h
  no_type_alone (found.Named m) h k l = absurd (l m refl)
  no_type_alone (found.Variant a v) h k l = variant_alone a v h

  no_ref : (m : Meaning) → IsNamed c b q m → adt_meant c m ≡ None → (u : Ty) → Means c b (tree.RefTo q) u → ⊥
  no_ref m d none _ (means.ref_adt q n a e s) =
      let x = one_named c b q n m e d in
      let y : type_meant c m ≡ Some (ty.Adt a) = subst (λ (z : Meaning). type_meant c z ≡ Some (ty.Adt a)) x s in
      none-some a (rw y at (sym none))
  no_ref m d none _ (means.ref_variant q a v x) = not_both c b q m a v x d

  pub no_adt : (m : Meaning) → IsNamed c b q m → adt_meant c m ≡ None → NamesNoType c b q true
  no_adt m d none = record { there = λ l. lacking_named c b q m l d; no_type = λ u h. no_ref m d none u h }

-- what means an adt means the type of its values
pub value_is : (t : Ty) (a : ℕ) → value_of t ≡ Some a → t ≡ ty.Adt a
value_is (ty.Adt n) a h = ap ty.Adt (same_Some n a h)
value_is _ a h = absurd (none-some a h)

pub means_adt : (c : Context) (m : Meaning) (a : ℕ) → adt_meant c m ≡ Some a → type_meant c m ≡ Some (ty.Adt a)
means_adt c m a h = go (type_meant c m) h
  where
    go : (o : Option Ty) → (o >>= value_of) ≡ Some a → o ≡ Some (ty.Adt a)
    go None h = absurd (none-some a h)
    go (Some t) h = ap Some (value_is t a h)

module _ (c : Context) (b : Body) where
  -- ---- the parts of a type that means one mean one

  as_view : (t : code_type.TypeTree) (w : tree.Ty) (u : Ty) → view_type t ≡ w → Means c b (view_type t) u → Means c b w u
  as_view t w u e h = subst (λ (z : tree.Ty). Means c b z u) e h

  one_of_all : (ts : List code_type.TypeTree) (us : Tys) (i : ℕ) (p : code_type.TypeTree) → i < length ts → get_or ts i p ≡ p
      → AllMean c b (view.tys_of (map view_type ts)) us → (v : Ty) × Means c b (view_type p) v
  one_of_all [] us i p l e a = absurd (omega arith)
  one_of_all (t ∷ ts) us zero p l e a =
      let x = from_more c b (view_type t) (view.tys_of (map view_type ts)) us a in
      (x.0, subst (λ (z : code_type.TypeTree). Means c b (view_type z) x.0) e x.3)
  one_of_all (t ∷ ts) us (suc i) p l e a =
      let x = from_more c b (view_type t) (view.tys_of (map view_type ts)) us a in
      one_of_all ts x.1 i p (omega arith) e x.4

  part_means : (t p : code_type.TypeTree) (u : Ty) → IsPart t p → Means c b (view_type t) u → (v : Ty) × Means c b (view_type p) v
  part_means t _ u (fails.of_array e s i) h =
      let x = from_array c b (view_type e.value) u (as_view t _ u (ap view_type i ∙ view_type-Array e s) h) in (x.0, x.2)
  part_means t _ u (fails.of_list e s i) h =
      let x = from_list c b (view_type e.value) u (as_view t _ u (ap view_type i ∙ view_type-List e s) h) in (x.0, x.2)
  part_means t _ u (fails.of_chan e s i) h =
      let x = from_chan c b (view_type e.value) u (as_view t _ u (ap view_type i ∙ view_type-Chan e s) h) in (x.0, x.2)
  part_means t _ u (fails.of_tuple parts s p i k) h =
      let x = from_tuple c b (view.tys_of (map view_type parts.items)) u (as_view t _ u (sym (of_parts t parts.items parts s i refl)) h) in
      one_of_all parts.items x.0 k.0 p k.1 k.2 x.2

  name_means : (t : code_type.TypeTree) (q : code_qual.Qual) (r : Bool) (at : Span) (u : Ty) → Writes t q r at → Means c b (view_type t) u
      → (v : Ty) × Means c b (written r (view_qual q)) v
  name_means _ _ _ _ u (fails.a_name t q at i) h = (u, as_view t _ u (ap view_type i ∙ view_type-Named q at) h)
  name_means _ _ _ _ u (fails.a_ref t q at i) h = (u, as_view t _ u (ap view_type i ∙ view_type-Ref q at) h)
  name_means _ _ _ _ u (fails.in_part t p q r at i w) h = let x = part_means t p u i h in name_means p q r at x.0 w x.1

  -- ---- what fails means nothing

  pub fails_or_means : (t : code_type.TypeTree) (e : WrittenFault) (u : Ty) → (e ≡ NoMemory → ⊥) → Fails c b t e → Means c b (view_type t) u → ⊥
  fails_or_means t NoMemory u never f h = never refl
  fails_or_means t (Unknown at) u never f h =
      let x = name_means t f.name f.behind_ref at u f.writes h in
      lacking_means c b (view_qual f.name) f.lacks f.behind_ref x.0 x.1
  fails_or_means t (NotAType at) u never f h =
      let x = name_means t f.name f.behind_ref at u f.writes h in
      f.no_type.no_type x.0 x.1
