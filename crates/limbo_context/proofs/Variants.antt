-- The first variant of a name, as the code finds it.
use Rattle.std.proofs.Common.{◌≡◌, ◌<◌, ◌≤◌, ◌+◌, ◌⊎◌, ℕ, List, length, map, Option, Some, None, option_map, true, false, refl, sym, ap, subst, ◌∙◌, arith}
use Rattle.std.specs.Prelude.{slice_get, nat_eq, IfSome, IfNone}
use Rattle.std.specs.Cmp.Lexicographic.{pointwise, nat_list_eq_equiv}
use Rattle.std.proofs.lemmas.Option.{none-some, same_Some, slice_get-map, slice_get_within, IfSome_then}
use Rattle.limbo_layout.specs.Adts.{Variant, Def}
use Rattle.limbo_layout.proofs.Unlaid.{none_also}
use Rattle.limbo_refusals.specs.Refusals.{NoneIs}
use Rattle.limbo_layout.specs.View.{view_variant}
use Rattle.limbo_layout.specs.declared.def.Variant as code_variant
use Rattle.limbo_context.specs.Context.{IsFirstNamed, HasVariantAt}

pub less_or : (p n : ℕ) → p < n + 1 → (p < n) ⊎ (p ≡ n)
less_or p n h = grind arith

-- texts that a test tells apart aren't the same
pub differs : (a b : List ℕ) → a ≡ b → false ≡ pointwise nat_eq a b → ⊥
differs a b e f =
    let g : pointwise nat_eq a b ≡ true = subst (λ (z : List ℕ). pointwise nat_eq a z ≡ true) e (nat_list_eq_equiv.refl a) in
    let h : false ≡ true = f ∙ g in
    cc

-- the code's variant at a place
pub record InCode (vs : List code_variant.Variant) (u : ℕ) (w : Variant) : Type 0 where
  pub variant : code_variant.Variant
  pub there : slice_get vs u ≡ Some variant
  pub is : view_variant variant ≡ w

pub in_code : (vs : List code_variant.Variant) (u : ℕ) (w : Variant) → slice_get (map view_variant vs) u ≡ Some w → InCode vs u w
in_code vs u w h = go (slice_get vs u) refl (sym (slice_get-map view_variant vs u) ∙ h)
  where
    go : (o : Option code_variant.Variant) → slice_get vs u ≡ o → option_map view_variant o ≡ Some w → InCode vs u w
    go None e i = absurd (none-some w i)
    go (Some x) e i = record { variant = x; there = e; is = same_Some (view_variant x) w i }

-- that no variant before a place has the name, said of the code's variants
abbrev pub NoneBefore : List code_variant.Variant → List ℕ → ℕ → Type 0
NoneBefore vs name n = (u : ℕ) (w : code_variant.Variant) → u < n → slice_get vs u ≡ Some w → w.name ≡ name → ⊥

pub first_at : (vs : List code_variant.Variant) (name : List ℕ) (n : ℕ) (v : code_variant.Variant) → NoneBefore vs name n
    → slice_get vs n ≡ Some v → v.name ≡ name → IsFirstNamed (map view_variant vs) name n
first_at vs name n v none there named = record {
  variant = view_variant v;
  there = slice_get-map view_variant vs n ∙ ap (option_map view_variant) there;
  named = named;
  first = λ u w l h e.
      let x = in_code vs u w h in
      none u x.variant l x.there (ap (λ (z : Variant). z.name) x.is ∙ e);
}

pub none_at : (vs : List code_variant.Variant) (name : List ℕ) (n : ℕ) → length vs ≤ n → NoneBefore vs name n → (k : ℕ)
    → IsFirstNamed (map view_variant vs) name k → ⊥
none_at vs name n l none k f =
    let x = in_code vs k f.variant f.there in
    let m : k < length vs = slice_get_within vs k x.variant x.there in
    none k x.variant (omega arith) x.there (ap (λ (z : Variant). z.name) x.is ∙ f.named)

-- ---- of an adt by its number

pub at_adt : (ds : List Def) (a : ℕ) (d : Def) (name : List ℕ) → slice_get ds a ≡ Some d → (o : Option ℕ)
    → IfSome o (IsFirstNamed d.picks name) → IfSome o (HasVariantAt ds a name)
at_adt ds a d name there o h = IfSome_then o h (λ v f. record { def = d; there = there; named = f })

pub none_of : (ds : List Def) (a : ℕ) (d : Def) (name : List ℕ) → slice_get ds a ≡ Some d → (o : Option ℕ)
    → IfNone o (NoneIs (IsFirstNamed d.picks name)) → IfNone o (NoneIs (HasVariantAt ds a name))
none_of ds a d name there o h = none_also o _ _ (λ none v f.
    let same : f.def ≡ d = same_Some f.def d (sym f.there ∙ there) in
    none v (subst (λ (z : Def). IsFirstNamed z.picks name v) same f.named)) h

pub no_adt : (ds : List Def) (a : ℕ) (name : List ℕ) → slice_get ds a ≡ None → (v : ℕ) → HasVariantAt ds a name v → ⊥
no_adt ds a name none v f = absurd (none-some f.def (sym none ∙ f.there))
