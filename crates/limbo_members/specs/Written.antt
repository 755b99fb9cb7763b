-- What functions and adts take from the types that their declarations write.
use Rattle.std.specs.Prelude.{◌≡◌, ◌++◌, ℕ, List, map, Option, Some}
use Rattle.limbo_tree.specs.Decls as decls
use Rattle.limbo_layout.specs.Adts.{Field, Variant}
use Rattle.limbo_locals.specs.limbo_local.Members.{fields, AreFields, named_variants}
use Rattle.limbo_types.specs.Types.{Ty}
use Rattle.limbo_tree.specs.Types as written
use Rattle.limbo_allowed.specs.Allowed.{IsUserModule}
use Rattle.limbo_refusals.specs.Refusals.{ModuleValue}
use Rattle.limbo_causes.specs.Causes.{Cause, Refused}
use Rattle.limbo_context.specs.Context.{Context, Body}
use Rattle.limbo_written.specs.Written.{MeansPermitted, FailsAsType}

-- a type once for each name
abbrev pub of_each : List (Option (List ℕ)) → written.Ty → List written.Ty
of_each names t = map (λ n. t) names

-- Nothing may be answered of what is written.
pub data FailsAnswer (c : Context) (b : Body) (of : Option written.Ty) : Cause → Type 0 where
  its_type : (t : written.Ty) (k : Cause) → of ≡ Some t → FailsAsType c b t k → FailsAnswer c b of k
  a_module : (t : written.Ty) (u : Ty) → of ≡ Some t → MeansPermitted c b t u → IsUserModule c.system u
      → FailsAnswer c b of (Refused ModuleValue)

-- ---- adts

-- Fields of one written type come behind these.
abbrev pub AddsFields : Context → Body → decls.Field → List Field → List Field → Type 0
AddsFields c b f gs hs = (u : Ty) × MeansPermitted c b f.of u × (hs ≡ gs ++ fields f.names u)

-- Variants with one written list of fields come behind these.
abbrev pub AddsVariants : Context → Body → decls.Variant → List Variant → List Variant → Type 0
AddsVariants c b v us ws = (gs : List Field) × AreFields c b v.fields gs × (ws ≡ us ++ named_variants v.names gs)
