-- The numbers that types hold and name are there.
use Rattle.std.proofs.Common.{ℕ, ◌<◌, inl, inr, List, [], ◌∷◌, length, refl, sym, subst, ◌∙◌}
use Rattle.std.proofs.lemmas.Option.{slice_get_within}
use Rattle.limbo_types.specs.Types.{Ty, Tys, ArrayOf, ListOf, ChanOf, Tuple, Adt, RefAdt, RefPick, NoTys, MoreTys}
use Rattle.limbo_layout.specs.Adts.{Def, Has, held, all_held, held_in, field_types, Names, AllName, AreNamed, types_of, variant_types}
use Rattle.limbo_layout.specs.Paths as paths
use Rattle.limbo_layout.specs.Paths.{Holds}
use Rattle.limbo_layout.proofs.Rooms.{has_cases, held_in-append}
use Rattle.limbo_layout.proofs.Unlaid.{parts_hold}
use Rattle.limbo_adts.specs.Closed as closed
use Rattle.limbo_adts.specs.Closed.{named, all_named, named_in}

module _ (defs : List Def) (modules : ℕ) where
  mutual
    pub held_there : (t : Ty) (m : ℕ) → Names defs modules t → Has (held t) m → m < length defs
    held_there (Tuple ts) m k h = all_held_there ts m k h
    held_there (Adt n) m k (inl e) = subst (λ (z : ℕ). z < length defs) e k
    held_there (Adt n) m k (inr h) = absurd h
    held_there _ m k h = absurd h

    all_held_there : (ts : Tys) (m : ℕ) → AllName defs modules ts → Has (all_held ts) m → m < length defs
    all_held_there NoTys m k h = absurd h
    all_held_there (MoreTys t ts) m k h = elim (has_cases (held t) (all_held ts) m h) [
      | inl i ↦ held_there t m k.0 i
      | inr i ↦ all_held_there ts m k.1 i
    ]

  mutual
    named_there : (t : Ty) (m : ℕ) → Names defs modules t → Has (named t) m → m < length defs
    named_there (ArrayOf t) m k h = named_there t m k h
    named_there (ListOf t) m k h = named_there t m k h
    named_there (ChanOf t) m k h = named_there t m k h
    named_there (Tuple ts) m k h = all_named_there ts m k h
    named_there (Adt n) m k (inl e) = subst (λ (z : ℕ). z < length defs) e k
    named_there (Adt n) m k (inr h) = absurd h
    named_there (RefAdt n) m k (inl e) = subst (λ (z : ℕ). z < length defs) e k
    named_there (RefAdt n) m k (inr h) = absurd h
    named_there (RefPick n v) m k (inl e) = subst (λ (z : ℕ). z < length defs) e (slice_get_within defs n k.def k.there)
    named_there (RefPick n v) m k (inr h) = absurd h
    named_there _ m k h = absurd h

    all_named_there : (ts : Tys) (m : ℕ) → AllName defs modules ts → Has (all_named ts) m → m < length defs
    all_named_there NoTys m k h = absurd h
    all_named_there (MoreTys t ts) m k h = elim (has_cases (named t) (all_named ts) m h) [
      | inl i ↦ named_there t m k.0 i
      | inr i ↦ all_named_there ts m k.1 i
    ]

  held_by : (ts : List Ty) (m : ℕ) → ((t : Ty) → Has ts t → Names defs modules t) → Has (held_in ts) m → m < length defs
  held_by [] m k h = absurd h
  held_by (t ∷ ts) m k h = elim (has_cases (held t) (held_in ts) m h) [
    | inl i ↦ held_there t m (k t (inl refl)) i
    | inr i ↦ held_by ts m (λ u j. k u (inr j)) i
  ]

  named_by : (ts : List Ty) (m : ℕ) → ((t : Ty) → Has ts t → Names defs modules t) → Has (named_in ts) m → m < length defs
  named_by [] m k h = absurd h
  named_by (t ∷ ts) m k h = elim (has_cases (named t) (named_in ts) m h) [
    | inl i ↦ named_there t m (k t (inl refl)) i
    | inr i ↦ named_by ts m (λ u j. k u (inr j)) i
  ]

  pub holds_only : AreNamed defs modules → paths.HoldsOnly defs
  holds_only k n m h =
      held_by (field_types h.def) m (λ t i. k n h.def t h.there i)
      (subst (λ (z : List ℕ). Has z m) (parts_hold h.def ∙ sym (held_in-append (types_of h.def.fields) (variant_types h.def.picks))) h.has)

  pub names_only : AreNamed defs modules → closed.NamesOnly defs
  names_only k n m h = named_by (field_types h.def) m (λ t i. k n h.def t h.there i) h.has
