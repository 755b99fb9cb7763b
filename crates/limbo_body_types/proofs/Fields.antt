-- Fields of what names lead to.
use Rattle.std.proofs.Common.{◌≡◌, ℕ, List, None, Some, Bool, true, false, sym, subst, ◌∙◌}
use Rattle.std.proofs.lemmas.Option.{none-some, same_Some}
use Rattle.limbo_types.specs.Types.{Ty}
use Rattle.limbo_layout.specs.Adts.{Def}
use Rattle.limbo_fields.specs.Fields.{Names}
use Rattle.limbo_scope.specs.declared.meaning.Meaning.{Meaning}
use Rattle.limbo_context.specs.Context.{Context, Body}
use Rattle.limbo_body_types.specs.Means.{type_led}
use Rattle.limbo_body_types.specs.Fails.{HasField}
use Rattle.limbo_body_types.specs.Found.{Tells, HasPart}

module _ (c : Context) (b : Body) (m : Meaning) (name : List ℕ) where
  pub no_field : type_led c b m ≡ None → HasField c b m name → ⊥
  no_field none f = none-some f.of (sym none ∙ f.leads)

  pub field_told : (told : Bool) (t : Ty) → type_led c b m ≡ Some t → Tells told (HasPart c.adts name t) → Tells told (HasField c b m name)
  field_told true t e h = record { of = t; leads = e; part = h.0; ty = h.1; is = h.2 }
  field_told false t e h = λ f.
      let s : f.of ≡ t = same_Some f.of t (sym f.leads ∙ e) in
      h (f.part, f.ty, subst (λ (z : Ty). Names c.adts name z f.part f.ty) s f.is)

  pub field_as : (told : Bool) (t u : Ty) (ds : List Def) → type_led c b m ≡ Some u → t ≡ u → ds ≡ c.adts → Tells told (HasPart ds name t)
      → Tells told (HasField c b m name)
  field_as told t u ds e s d h =
      field_told told u e (subst (λ (z : Ty). Tells told (HasPart c.adts name z)) s (subst (λ (z : List Def). Tells told (HasPart z name t)) d h))
