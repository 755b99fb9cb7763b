-- A type that fails means nothing.
use Rattle.std.proofs.Common.{◌≡◌, ◌<◌, ℕ, zero, suc, List, [], ◌∷◌, Option, Bool, true, false, length, map, get_or, refl, sym, ap, subst, ◌∙◌, arith}
use Rattle.inf_text.specs.declared.span.Span.{Span}
use Rattle.limbo_tree.specs.declared.name.Qual as code_qual
use Rattle.limbo_tree.specs.declared.types.TypeTree as code_type
use Rattle.limbo_tree.specs.Types as tree
use Rattle.limbo_tree.specs.View as view
use Rattle.limbo_tree.specs.View.{view_type, view_qual}
use Rattle.limbo_tree.proofs.Exprs.{view_type-Array, view_type-List, view_type-Chan, view_type-Ref, view_type-Named}
use Rattle.limbo_types.specs.Types.{Ty, Tys, Adt}
use Rattle.limbo_entries.specs.Entries.{Entry, AreOnce}
use Rattle.limbo_naming.specs.Qualified.{Qualified, of_type}
use Rattle.limbo_naming.specs.Direct.{IsDeclared}
use Rattle.limbo_naming.proofs.Direct.{one_declared, lacks_declared}
use Rattle.limbo_type_names.specs.declared.fault.TypeFault.{TypeFault}
use Rattle.limbo_type_names.specs.declared.fault.TypeFault.TheVariants.{NoMemory, Unknown, NotAType}
use Rattle.limbo_type_names.specs.Means as means
use Rattle.limbo_type_names.specs.Means.{Means, AllMean, Stands, RefersTo, HasNoRef, NamesNoType}
use Rattle.limbo_type_names.specs.Writes as writes
use Rattle.limbo_type_names.specs.Writes.{IsPart, Writes, Fails}
use Rattle.limbo_type_names.proofs.Composing.{of_parts}
use Rattle.limbo_type_names.proofs.Unique.{from_array, from_list, from_chan, from_tuple, from_named, from_ref, from_more, one_stands, no_type_stands}

module _ (es : List Entry) (m : ℕ) (scope : Option ℕ) where
  -- what a name means, alone or behind `ref`
  abbrev MeansName : Qualified → Bool → Ty → Type 0
  MeansName q false v = (k : ℕ) × IsDeclared es m scope q k × Stands es m k v
  MeansName q true v = (k : ℕ) × IsDeclared es m scope q k × RefersTo es m k v

  as_view : (t : code_type.TypeTree) (w : tree.Ty) (u : Ty) → view_type t ≡ w → Means es m scope (view_type t) u → Means es m scope w u
  as_view t w u e h = subst (λ (z : tree.Ty). Means es m scope z u) e h

  one_of_all : (ts : List code_type.TypeTree) (us : Tys) (i : ℕ) (p : code_type.TypeTree) → i < length ts → get_or ts i p ≡ p
      → AllMean es m scope (view.tys_of (map view_type ts)) us → (v : Ty) × Means es m scope (view_type p) v
  one_of_all [] us i p l e a = absurd (omega arith)
  one_of_all (t ∷ ts) us zero p l e a =
      let x = from_more es m scope (view_type t) (view.tys_of (map view_type ts)) us a in
      (x.0, subst (λ (z : code_type.TypeTree). Means es m scope (view_type z) x.0) e x.3)
  one_of_all (t ∷ ts) us (suc i) p l e a =
      let x = from_more es m scope (view_type t) (view.tys_of (map view_type ts)) us a in
      one_of_all ts x.1 i p (omega arith) e x.4

  part_means : (t p : code_type.TypeTree) (u : Ty) → IsPart t p → Means es m scope (view_type t) u → (v : Ty) × Means es m scope (view_type p) v
  part_means t _ u (writes.of_array b s i) h =
      let x = from_array es m scope (view_type b.value) u (as_view t _ u (ap view_type i ∙ view_type-Array b s) h) in (x.0, x.2)
  part_means t _ u (writes.of_list b s i) h =
      let x = from_list es m scope (view_type b.value) u (as_view t _ u (ap view_type i ∙ view_type-List b s) h) in (x.0, x.2)
  part_means t _ u (writes.of_chan b s i) h =
      let x = from_chan es m scope (view_type b.value) u (as_view t _ u (ap view_type i ∙ view_type-Chan b s) h) in (x.0, x.2)
  part_means t _ u (writes.of_tuple parts s p i c) h =
      let x = from_tuple es m scope (view.tys_of (map view_type parts.items)) u (as_view t _ u (sym (of_parts t parts.items parts s i refl)) h) in
      one_of_all parts.items x.0 c.0 p c.1 c.2 x.2

  name_means : (t : code_type.TypeTree) (q : code_qual.Qual) (r : Bool) (at : Span) (u : Ty) → Writes t q r at → Means es m scope (view_type t) u
      → (v : Ty) × MeansName (of_type (view_qual q)) r v
  name_means _ _ _ _ u (writes.a_name t q at i) h = (u, from_named es m scope (view_qual q) u (as_view t _ u (ap view_type i ∙ view_type-Named q at) h))
  name_means _ _ _ _ u (writes.a_ref t q at i) h = (u, from_ref es m scope (view_qual q) u (as_view t _ u (ap view_type i ∙ view_type-Ref q at) h))
  name_means _ _ _ _ u (writes.in_part t p q r at w h') h = let x = part_means t p u w h in name_means p q r at x.0 h' x.1

  declared_so : (q : Qualified) (r : Bool) (v : Ty) → MeansName q r v → (k : ℕ) × IsDeclared es m scope q k
  declared_so q false v h = (h.0, h.1)
  declared_so q true v h = (h.0, h.1)

  module _ (once : AreOnce es) where
    no_ref : (k : ℕ) (v : Ty) → HasNoRef es m k → RefersTo es m k v → ⊥
    no_ref k _ (means.to_no_type never w) (means.of_adt _ n s) = no_type_stands es m once k (Adt n) w s
    no_ref k _ (means.to_no_type never w) (means.of_variant _ a v x) = never a v x
    no_ref k _ (means.to_no_adt never t s other) (means.of_adt _ n r) = other n (one_stands es m once k t (Adt n) s r)
    no_ref k _ (means.to_no_adt never t s other) (means.of_variant _ a v x) = never a v x

    names_none : (q : Qualified) (r : Bool) (v : Ty) → NamesNoType es m scope q r → MeansName q r v → ⊥
    names_none q _ v (means.nothing r known none) h = let x = declared_so q r v h in none x.0 x.1
    names_none q _ v (means.alone k d w) h =
        no_type_stands es m once k v w (subst (λ (z : ℕ). Stands es m z v) (one_declared es m scope once q h.0 k h.1 d) h.2)
    names_none q _ v (means.referred k d w) h =
        no_ref k v w (subst (λ (z : ℕ). RefersTo es m z v) (one_declared es m scope once q h.0 k h.1 d) h.2)

    pub fails_or_means : (t : code_type.TypeTree) (e : TypeFault) (u : Ty) → (e ≡ NoMemory → ⊥) → Fails es m scope t e → Means es m scope (view_type t) u → ⊥
    fails_or_means t NoMemory u never f h = never refl
    fails_or_means t (Unknown at) u never f h =
        let x = name_means t f.name f.behind_ref at u f.writes h in
        let y = declared_so (of_type (view_qual f.name)) f.behind_ref x.0 x.1 in
        lacks_declared es m scope once (of_type (view_qual f.name)) y.0 f.lacks y.1
    fails_or_means t (NotAType at) u never f h =
        let x = name_means t f.name f.behind_ref at u f.writes h in
        names_none (of_type (view_qual f.name)) f.behind_ref x.0 f.no_type x.1
