-- What qualified names are: they are nothing twice.
use Rattle.std.proofs.Common.{◌≡◌, ◌<◌, ◌⊎◌, inl, inr, ℕ, List, None, Some, sym, subst, ◌∙◌, arith}
use Rattle.std.proofs.lemmas.Option.{none-some, same_Some}
use Rattle.limbo_tree.specs.Types as tree
use Rattle.limbo_layout.specs.Adts.{Def}
use Rattle.limbo_scope.specs.declared.meaning.Meaning.{Meaning}
use Rattle.limbo_scope.specs.Scopes.{seen}
use Rattle.limbo_context.specs.Context.{Context, Body, IsFirstNamed, HasVariantAt, HasVariantNamed}
use Rattle.limbo_body_types.specs.declared.found.Found.{Found}
use Rattle.limbo_body_types.specs.declared.found.Found.TheVariants as found
use Rattle.limbo_body_types.specs.Means.{module_led, adt_led, head, IsNamed, NamesVariant}
use Rattle.limbo_body_types.specs.Fails.{IsLacking, HasField, first, member, part}
use Rattle.limbo_body_types.specs.Found.{NamesNothing, no_module, no_adt, a_field, IsMember, IsPart, IsHead, IsFound}

-- ---- the first variant of a name

before_or : (v w : ℕ) → (v < w) ⊎ ((v ≡ w) ⊎ (w < v))
before_or v w = grind arith

one_place : (ds : List Def) (a : ℕ) (name : List ℕ) (v w : ℕ) → HasVariantAt ds a name v → HasVariantAt ds a name w → v ≡ w
one_place ds a name v w x y =
    let e : x.def ≡ y.def = same_Some x.def y.def (sym x.there ∙ y.there) in
    let n : IsFirstNamed y.def.picks name v = subst (λ (z : Def). IsFirstNamed z.picks name v) e x.named in
    let m = y.named in
    elim (before_or v w) [
      | inl l ↦ absurd (m.first v n.variant l n.there n.named)
      | inr r ↦ elim r [ inl e ↦ e | inr l ↦ absurd (n.first w m.variant l m.there m.named) ]
    ]

module _ (c : Context) (b : Body) (q : tree.Qual) where
  -- ---- what is found, by its steps

  pub member_head : (m : Meaning) (name : List ℕ) (f : Found) → seen q.first b.scopes ≡ Some m → q.member ≡ Some name → IsMember c b m name f
      → IsHead c b q f
  member_head m name found.Lacking s e h = member name m h.0 e s h.1 h.2
  member_head m name found.Nothing s e h = no_module name m e s h
  member_head m name (found.Named n) s e h = rw (s, e) h
  member_head m name (found.Variant a v) s e h = absurd h

  pub part_found : (m : Meaning) (name : List ℕ) (f : Found) → head c b q ≡ Some m → q.part ≡ Some name → IsPart c b m name f → IsFound c b q f
  part_found m name found.Lacking s e h = part name m h.0 e s h.1 h.2 h.3 h.4
  part_found m name found.Nothing s e (inl h) = no_adt name m e s h
  part_found m name found.Nothing s e (inr h) = a_field name m e s h
  part_found m name (found.Named n) s e h = rw (s, e) h
  part_found m name (found.Variant a v) s e h =
      record { before = m; part = name; headed = s; with_part = e; leads = h.0; no_member = h.1; has = h.2 }

  -- ---- a name is one thing

  pub one_named : (m n : Meaning) → IsNamed c b q m → IsNamed c b q n → m ≡ n
  one_named m n d e = same_Some m n (sym d ∙ e)

  pub not_both : (m : Meaning) (a v : ℕ) → NamesVariant c b q a v → IsNamed c b q m → ⊥
  not_both m a v w d = none-some m (rw (w.headed, w.with_part, w.leads, w.no_member) at d)

  same_before : (m n : Meaning) → head c b q ≡ Some m → head c b q ≡ Some n → m ≡ n
  same_before m n d e = same_Some m n (sym d ∙ e)

  same_adt : (m n : Meaning) (a i : ℕ) → head c b q ≡ Some m → head c b q ≡ Some n → adt_led c b m ≡ Some a → adt_led c b n ≡ Some i → a ≡ i
  same_adt m n a i d e f g =
      let s = same_before m n d e in
      same_Some a i (sym f ∙ subst (λ (z : Meaning). adt_led c b z ≡ Some i) (sym s) g)

  same_part : (m n : List ℕ) → q.part ≡ Some m → q.part ≡ Some n → m ≡ n
  same_part m n d e = same_Some m n (sym d ∙ e)

  pub one_adt : (a v i w : ℕ) → NamesVariant c b q a v → NamesVariant c b q i w → a ≡ i
  one_adt a v i w x y = same_adt x.before y.before a i x.headed y.headed x.leads y.leads

  variant_as : (i v : ℕ) (name : List ℕ) (a : ℕ) (other : List ℕ) → a ≡ i → other ≡ name → HasVariantNamed c a other v → HasVariantNamed c i name v
  variant_as i v name a other e f h =
      subst (λ (z : ℕ). HasVariantNamed c z name v) e (subst (λ (z : List ℕ). HasVariantNamed c a z v) f h)

  pub one_variant : (a v i w : ℕ) → NamesVariant c b q a v → NamesVariant c b q i w → v ≡ w
  one_variant a v i w x y =
      one_place c.adts i y.part v w
      (variant_as i v y.part a x.part (one_adt a v i w x y) (same_part x.part y.part x.with_part y.with_part) x.has) y.has

  -- ---- what isn't there means nothing

  pub lacking_named : (m : Meaning) → IsLacking c b q → IsNamed c b q m → ⊥
  lacking_named m (first e) d = none-some m (rw e at d)
  lacking_named m (member name n i e s l none) d = none-some m (rw (s, e, l, none) at d)
  lacking_named m (part name n a e h l none never no_field) d = none-some m (rw (h, e, l, none) at d)

  lacking_head : (m : Meaning) (f : seen q.first b.scopes ≡ None) → head c b q ≡ Some m → ⊥
  lacking_head m f d = none-some m (rw f at d)

  pub lacking_variant : (a v : ℕ) → IsLacking c b q → NamesVariant c b q a v → ⊥
  lacking_variant a v (first e) w = lacking_head w.before e w.headed
  lacking_variant a v (member name n i e s l none) w = none-some w.before (rw (s, e, l, none) at w.headed)
  lacking_variant a v (part name n i e h l none never no_field) w =
      never v (variant_as i v name a w.part (same_adt w.before n a i w.headed h w.leads l) (same_part w.part name w.with_part e) w.has)

  -- ---- what means nothing is no name and no variant, and is there

  pub nothing_named : (m : Meaning) → NamesNothing c b q → IsNamed c b q m → ⊥
  nothing_named m (no_module name n e s l) d = none-some m (rw (s, e, l) at d)
  nothing_named m (no_adt name n e h l) d = none-some m (rw (h, e, l) at d)
  nothing_named m (a_field name n e h x) d = none-some m (rw (h, e, x.leads, x.no_member) at d)

  nowhere_led : (m n : Meaning) (a : ℕ) → m ≡ n → adt_led c b m ≡ None → adt_led c b n ≡ Some a → ⊥
  nowhere_led m n a s l g = none-some a (sym l ∙ subst (λ (z : Meaning). adt_led c b z ≡ Some a) (sym s) g)

  pub nothing_variant : (a v : ℕ) → NamesNothing c b q → NamesVariant c b q a v → ⊥
  nothing_variant a v (no_module name n e s l) w = none-some w.before (rw (s, e, l) at w.headed)
  nothing_variant a v (no_adt name n e h l) w = nowhere_led n w.before a (same_before n w.before h w.headed) l w.leads
  nothing_variant a v (a_field name n e h x) w =
      x.no_variant v
      (variant_as x.adt v name a w.part (same_adt w.before n a x.adt w.headed h w.leads x.leads) (same_part w.part name w.with_part e) w.has)

  pub nothing_lacking : NamesNothing c b q → IsLacking c b q → ⊥
  nothing_lacking (no_module name n e s l) (first f) = none-some n (sym f ∙ s)
  nothing_lacking (no_module name n e s l) (member other m i f t k none) =
      let w : n ≡ m = same_Some n m (sym s ∙ t) in
      none-some i (sym l ∙ subst (λ (z : Meaning). module_led c b z ≡ Some i) (sym w) k)
  nothing_lacking (no_module name n e s l) (part other m a f h k none never no_field) = none-some m (rw (s, e, l) at h)
  nothing_lacking (no_adt name n e h l) (first f) = lacking_head n f h
  nothing_lacking (no_adt name n e h l) (member other m i f t k none) = none-some n (rw (t, f, k, none) at h)
  nothing_lacking (no_adt name n e h l) (part other m a f t k none never no_field) = nowhere_led n m a (same_before n m h t) l k
  nothing_lacking (a_field name n e h x) (first f) = lacking_head n f h
  nothing_lacking (a_field name n e h x) (member other m i f t k none) = none-some n (rw (t, f, k, none) at h)
  nothing_lacking (a_field name n e h x) (part other m a f t k none never no_field) =
      no_field
      (subst (λ (z : List ℕ). HasField c b m z) (same_part name other e f)
      (subst (λ (z : Meaning). HasField c b z name) (same_before n m h t) x.field))
