-- Types of several parts.
use Rattle.std.proofs.Common.{◌≡◌, ◌<◌, ◌≤◌, ◌∷◌, [], ℕ, zero, suc, List, Bool, length, get_or, map, take, sym, subst, arith}
use Rattle.std.proofs.lemmas.List.{take_all}
use Rattle.limbo_tree.specs.declared.types.TypeTree as code_type
use Rattle.limbo_tree.specs.Types as written
use Rattle.limbo_tree.specs.View as view
use Rattle.limbo_tree.specs.View.{view_type, view_types}
use Rattle.limbo_types.specs.declared.ty.Ty as code_ty
use Rattle.limbo_types.specs.Types.{Ty, Tys, Tuple}
use Rattle.limbo_types.specs.View.{view_tys}
use Rattle.limbo_causes.specs.declared.fault.Cause as code
use Rattle.limbo_causes.specs.Causes.{Cause, FailsBy, ByRefusal}
use Rattle.limbo_causes.proofs.Telling.{fails_weaker}
use Rattle.limbo_context.specs.Context.{Context, Body}
use Rattle.limbo_body_types.specs.declared.fault.WrittenFault.{WrittenFault}
use Rattle.limbo_body_types.specs.declared.fault.WrittenFault.TheVariants.{NoMemory, Unknown, NotAType}
use Rattle.limbo_body_types.specs.Means as means
use Rattle.limbo_body_types.specs.Means.{Means, AllMean}
use Rattle.limbo_body_types.specs.Fails.{Fails}
use Rattle.limbo_body_types.proofs.Failing.{fails_or_means}
use Rattle.limbo_permits.specs.Permits.{ForbidsType}
use Rattle.limbo_written.specs.Written.{Writes, SomeWrites, FailsType, FailsAsType}
use Rattle.limbo_written.specs.Written as rules
use Rattle.limbo_written.specs.Told.{IsCauseOf}
use Rattle.limbo_written.proofs.Named.{writes}

module _ (c : Context) (b : Body) where
  pub parts_mean : (ts : List code_type.TypeTree) (i : ℕ) (us : List code_ty.Ty) → length ts ≤ i
      → AllMean c b (view.tys_of (map view_type (take i ts))) (view_tys us) → Means c b (written.Tuple (view_types ts)) (Tuple (view_tys
      us))
  unfolding view_types
  parts_mean ts i us l h =
      means.tuple (view.tys_of (map view_type ts)) (view_tys us)
      (subst (λ (zs : List code_type.TypeTree). AllMean c b (view.tys_of (map view_type zs)) (view_tys us)) (take_all i ts l) h)

  -- ---- where a part means nothing

  some_writes : (ts : List code_type.TypeTree) (i : ℕ) (p : code_type.TypeTree) (q : written.Qual) (r : Bool) → i < length ts
      → p ≡ get_or ts i p → Writes (view_type p) q r → SomeWrites (view.tys_of (map view_type ts)) q r
  some_writes [] i p q r l e w = absurd (omega arith)
  some_writes (t ∷ ts) zero p q r l e w =
      rules.the_first (view_type t) (view.tys_of (map view_type ts)) q r
      (subst (λ (z : code_type.TypeTree). Writes (view_type z) q r) e w)
  some_writes (t ∷ ts) (suc i) p q r l e w =
      rules.a_later (view_type t) (view.tys_of (map view_type ts)) q r (some_writes ts i p q r (omega arith) e w)

  split : (t : written.Ty) (ts : written.Tys) (us : Tys) → AllMean c b (written.MoreTys t ts) us
      → (u : Ty) × (vs : Tys) × Means c b t u × AllMean c b ts vs
  split _ _ _ (means.and_more t ts u us x y) = (u, us, x, y)

  part_means : (ts : List code_type.TypeTree) (i : ℕ) (p : code_type.TypeTree) (us : Tys) → i < length ts → p ≡ get_or ts i p
      → AllMean c b (view.tys_of (map view_type ts)) us → (u : Ty) × Means c b (view_type p) u
  part_means [] i p us l e h = absurd (omega arith)
  part_means (t ∷ ts) zero p us l e h =
      let s = split (view_type t) (view.tys_of (map view_type ts)) us h in
      (s.0, subst (λ (z : code_type.TypeTree). Means c b (view_type z) s.0) (sym e) s.2)
  part_means (t ∷ ts) (suc i) p us l e h =
      let s = split (view_type t) (view.tys_of (map view_type ts)) us h in part_means ts i p s.1 (omega arith) e s.3

  in_tuple : (ts : written.Tys) (u : Ty) → Means c b (written.Tuple ts) u → (us : Tys) × AllMean c b ts us
  in_tuple _ _ (means.tuple ts us h) = (us, h)

  none_mean : (ts : List code_type.TypeTree) (i : ℕ) (p : code_type.TypeTree) (f : WrittenFault) → i < length ts → p ≡ get_or ts i p
      → (f ≡ NoMemory → ⊥) → Fails c b p f → (u : Ty) → Means c b (written.Tuple (view.tys_of (map view_type ts))) u → ⊥
  none_mean ts i p f l e never h u m =
      let s = in_tuple (view.tys_of (map view_type ts)) u m in
      let w = part_means ts i p s.0 l e s.1 in
      fails_or_means c b p f w.0 never h w.1

  part_cause : (ts : List code_type.TypeTree) (i : ℕ) (p : code_type.TypeTree) (f : WrittenFault) (k : Cause) → i < length ts
      → p ≡ get_or ts i p → Fails c b p f → IsCauseOf f k → FailsType c b (written.Tuple (view.tys_of (map view_type ts))) k
  part_cause ts i p NoMemory k l e h is = absurd is
  part_cause ts i p (Unknown at) k l e h is =
      subst (λ z. FailsType c b (written.Tuple (view.tys_of (map view_type ts))) z) (sym is)
      (rules.lacks_name (view.view_qual h.name) h.behind_ref
      (rules.in_tuple (view.tys_of (map view_type ts)) (view.view_qual h.name) h.behind_ref
      (some_writes ts i p (view.view_qual h.name) h.behind_ref l e (writes p h.name h.behind_ref at h.writes))) h.lacks
      (λ u m. none_mean ts i p (Unknown at) l e (λ x. cc) h u m))
  part_cause ts i p (NotAType at) k l e h is =
      subst (λ z. FailsType c b (written.Tuple (view.tys_of (map view_type ts))) z) (sym is)
      (rules.no_type (view.view_qual h.name) h.behind_ref
      (rules.in_tuple (view.tys_of (map view_type ts)) (view.view_qual h.name) h.behind_ref
      (some_writes ts i p (view.view_qual h.name) h.behind_ref l e (writes p h.name h.behind_ref at h.writes))) h.no_type
      (λ u m. none_mean ts i p (NotAType at) l e (λ x. cc) h u m))

  pub part_fails : (ts : List code_type.TypeTree) (i : ℕ) (p : code_type.TypeTree) (f : WrittenFault) (k : code.Cause) → i < length ts
      → p ≡ get_or ts i p → Fails c b p f → FailsBy k (IsCauseOf f) → FailsBy k (FailsType c b (written.Tuple (view_types ts)))
  unfolding view_types
  part_fails ts i p f k l e h told = fails_weaker k _ _ (λ z is. part_cause ts i p f z l e h is) told

  -- ---- where the whole may not stand

  pub as_type_fails : (t : written.Ty) (k : code.Cause) → FailsBy k (FailsType c b t) → FailsBy k (FailsAsType c b t)
  as_type_fails t k h = fails_weaker k _ _ (λ z x. rules.means_none x) h

  pub forbidden_fails : (t : written.Ty) (u : Ty) (k : code.Cause) → Means c b t u → FailsBy k (ByRefusal (ForbidsType c u))
      → FailsBy k (FailsAsType c b t)
  forbidden_fails t u k m h = fails_weaker k _ _ (λ z x. rules.forbidden u x.0 m x.2 x.1) h
