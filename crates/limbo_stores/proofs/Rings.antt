-- Stores into parts whose types don't reach the object's make no ring.
use Rattle.std.proofs.Common.{◌≡◌, ℕ, ◌⊎◌, inl, inr, List, Option, Some, refl, sym, ap, ◌∙◌, subst}
use Rattle.limbo_types.specs.Types.{Ty}
use Rattle.limbo_layout.specs.Adts.{Def, Has}
use Rattle.limbo_adts.specs.Reaches.{plain, Reaches, reaches_itself, reaches_through}
use Rattle.limbo_stores.specs.Heaps.{Heap, MayName, IsTypedName, IsTyped, Leads, at_once, further, HasNoRing, Stands, Stores, LiesIn}
use Rattle.limbo_stores.specs.Laws.{StoresMakeNoRing}
use Rattle.limbo_stores.proofs.Reaching.{alike_part, reaches_on, reaches_alike, alike_reaches}

one_type : {o : Option Ty} (a b : Ty) → o ≡ Some a → o ≡ Some b → a ≡ b
one_type a b e f = let g : Some a ≡ Some b = sym e ∙ f in cc

may_reaches : (defs : List Def) (a b : Ty) → MayName defs a b → Reaches defs a b
may_reaches defs a b m = reaches_through a m.part b m.is_part m.reaches

may_alike : (defs : List Def) (a object b : Ty) → plain a ≡ plain object → MayName defs object b → MayName defs a b
may_alike defs a object b e m =
    let i = alike_part defs object m.part m.is_part a e in
    record { part = i.0; is_part = i.1; reaches = alike_reaches defs i.0 m.part b i.2 m.reaches }

module _ (defs : List Def) (h : Heap) (typed : IsTyped defs h) where
  name_reaches : (x y : ℕ) (a b : Ty) → Has (h.names x) y → h.type_of x ≡ Some a → h.type_of y ≡ Some b → Reaches defs a b
  name_reaches x y a b n e f =
      let i = typed.names x y n in
      let r : Reaches defs i.of i.to = may_reaches defs i.of i.to i.may in
      subst (λ (z : Ty). Reaches defs z b) (one_type i.of a i.x_is e) (subst (λ (z : Ty). Reaches defs i.of z) (one_type i.to b i.y_is f) r)

  -- where names lead, types lead too
  lead_reaches : (x y : ℕ) → Leads h x y → (a b : Ty) → h.type_of x ≡ Some a → h.type_of y ≡ Some b → Reaches defs a b
  lead_reaches _ _ (at_once x y n) a b e f = name_reaches x y a b n e f
  lead_reaches _ _ (further x y z n l) a b e f =
      let i = typed.names x y n in
      reaches_on defs a i.to b (name_reaches x y a i.to n e i.y_is) (lead_reaches y z l i.to b i.y_is f)

module _ (defs : List Def) (object part : Ty) (o : ℕ) (before after : Heap) (s : Stores defs object part o before after) where
  abbrev Comes : ℕ → ℕ → Type 0
  Comes x y = (x ≡ y) ⊎ Leads before x y

  -- a way by the names that were there to the object, and from a value that was stored on
  record Through (x y : ℕ) : Type 0 where
    pub stored : ℕ
    pub stands : Stands defs before part stored
    pub to : Comes x o
    pub from : Comes stored y

  come : (x y z : ℕ) → Has (before.names x) y → Comes y z → Leads before x z
  come x y z n (inl e) = subst (λ (w : ℕ). Leads before x w) e (at_once x y n)
  come x y z n (inr l) = further x y z n l

  ways : (x y : ℕ) → Leads after x y → Leads before x y ⊎ Through x y
  ways _ _ (at_once x y n) = elim (s.names x y n) [
    | inl m ↦ inl (at_once x y m)
    | inr m ↦ inr (record { stored = y; stands = m.1; to = inl m.0; from = inl refl })
  ]
  ways _ _ (further x y z n l) = elim (s.names x y n) [
    | inl m ↦ elim (ways y z l) [
      | inl k ↦ inl (further x y z m k)
      | inr t ↦ inr (record { stored = t.stored; stands = t.stands; to = inr (come x y o m t.to); from = t.from })
    ]
    | inr m ↦ elim (ways y z l) [
      | inl k ↦ inr (record { stored = y; stands = m.1; to = inl m.0; from = inr k })
      | inr t ↦ inr (record { stored = t.stored; stands = t.stands; to = inl m.0; from = t.from })
    ]
  ]

  lead_on : (x y z : ℕ) → Leads before x y → Leads before y z → Leads before x z
  lead_on _ _ z (at_once x y n) l = further x y z n l
  lead_on _ _ z (further x y w n k) l = further x y z n (lead_on y w z k l)

  -- a ring leads from what was stored to the object
  closes : (x : ℕ) (t : Through x x) → Comes t.stored o
  closes x t = join t.from t.to
    where
      join : {a : ℕ} → Comes a x → Comes x o → Comes a o
      join {a} (inl e) c = subst (λ (z : ℕ). Comes z o) (sym e) c
      join {a} (inr l) (inl e) = inr (subst (λ (z : ℕ). Leads before a z) e l)
      join {a} (inr l) (inr k) = inr (lead_on a x o l k)

  own_reaches : IsTyped defs before → (y : ℕ) (to : Ty) → before.type_of y ≡ Some to → Comes y o → Reaches defs to s.own
  own_reaches typed y to e (inl f) =
      let g : before.type_of y ≡ Some s.own = ap before.type_of f ∙ s.o_is in
      reaches_itself to s.own (ap plain (one_type to s.own e g))
  own_reaches typed y to e (inr l) = lead_reaches defs before typed y o l to s.own e s.o_is

  no_ring : IsTyped defs before → HasNoRing before → (Reaches defs part object → ⊥) → HasNoRing after
  no_ring typed none never x l = elim (ways x x l) [
    | inl k ↦ none x k
    | inr t ↦
        let y = t.stands in
        let r : Reaches defs y.to s.own = own_reaches typed t.stored y.to y.y_is (closes x t) in
        never (reaches_alike defs part s.own object (reaches_on defs part y.to s.own y.reached r) s.held_as)
  ]

  stays_typed : IsTyped defs before → LiesIn defs object part → (x y : ℕ) → Has (after.names x) y → IsTypedName defs after x y
  stays_typed typed lies x y n = elim (s.names x y n) [
    | inl m ↦
        let i = typed.names x y m in
        record { of = i.of; to = i.to; x_is = s.types_stay x ∙ i.x_is; y_is = s.types_stay y ∙ i.y_is; may = i.may }
    | inr m ↦
        let i = m.1 in
        record {
          of = s.own;
          to = i.to;
          x_is = s.types_stay x ∙ ap before.type_of m.0 ∙ s.o_is;
          y_is = s.types_stay y ∙ i.y_is;
          may = may_alike defs s.own object i.to s.held_as (lies i.to (typed.on_heap y i.to i.y_is) i.reached);
        }
  ]

  typed_after : IsTyped defs before → LiesIn defs object part → IsTyped defs after
  typed_after typed lies = record {
    on_heap = λ x t e. typed.on_heap x t (sym (s.types_stay x) ∙ e);
    names = stays_typed typed lies;
  }

pub stores_make_no_ring : StoresMakeNoRing
stores_make_no_ring defs object part o before after never typed none s =
    (no_ring defs object part o before after s typed none never, typed_after defs object part o before after s typed)
