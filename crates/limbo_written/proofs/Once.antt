-- A written type means one type of values at most, and none where it fails.
use Rattle.std.proofs.Common.{◌≡◌, subst}
use Rattle.limbo_types.specs.Types.{Ty}
use Rattle.limbo_tree.specs.Types as written
use Rattle.limbo_causes.specs.Causes.{Cause}
use Rattle.limbo_context.specs.Context.{Context, Body}
use Rattle.limbo_body_types.specs.Means.{Means}
use Rattle.limbo_body_types.proofs.Unique.{one_type}
use Rattle.limbo_permits.specs.Permits.{ForbidsType}
use Rattle.limbo_permits.proofs.Standing.{type_forbidden}
use Rattle.limbo_written.specs.Written.{MeansPermitted, FailsType, lacks_name, no_type, FailsAsType, means_none, forbidden}

module _ (c : Context) (b : Body) (t : written.Ty) where
  pub one_written : (u v : Ty) → MeansPermitted c b t u → MeansPermitted c b t v → u ≡ v
  one_written u v x y = one_type c b t u v x.means y.means

  fails_or_means : (k : Cause) (u : Ty) → FailsType c b t k → Means c b t u → ⊥
  fails_or_means _ u (lacks_name q r w l none) m = none u m
  fails_or_means _ u (no_type q r w n none) m = none u m

  pub fails_or_written : (k : Cause) (u : Ty) → FailsAsType c b t k → MeansPermitted c b t u → ⊥
  fails_or_written k u (means_none f) x = fails_or_means k u f x.means
  fails_or_written k u (forbidden v r m f e) x =
      type_forbidden c u r (subst (λ z. ForbidsType c z r) (one_type c b t v u m x.means) f) x.permitted
