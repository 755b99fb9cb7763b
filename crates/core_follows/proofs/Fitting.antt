-- Types that stand for others, by the typed tree's rules, refer to the same.
use Rattle.std.proofs.Common.{◌≡◌, ℕ, zero, suc, ◌<◌, true, List, [], ◌∷◌, ◌++◌, length, Option, Some, None}
use Rattle.std.proofs.Common.{refl, sym, ap, subst, ◌∙◌, arith, inl, inr}
use Rattle.std.specs.Prelude.{slice_get, slice_index_or}
use Rattle.limbo_types.specs.Types as ty
use Rattle.limbo_types.specs.Types.{Ty, Tys, NoTys, MoreTys}
use Rattle.limbo_layout.specs.Adts.{Def, listed, parts, types_of}
use Rattle.limbo_types.specs.View.{tys_of}
use Rattle.limbo_typed.specs.declared.operation.Operation.{Operation}
use Rattle.limbo_typed.specs.declared.operation.Operation.TheVariants as operation
use Rattle.limbo_typed.specs.Fitting as typed
use Rattle.limbo_typed.specs.Fitting.{Stands, AllStand, Gives, HasPart}
use Rattle.limbo_meaning.specs.Values.{Value, Values, Num, parts_of, first_in, rest_in, references, all_references, formed, all_formed}
use Rattle.limbo_meaning.specs.Values.{by_def, adt_formed, fitted}
use Rattle.limbo_meaning.specs.Evaluation.{passes_on}
use Rattle.core_code.specs.Terms.{part_types, parts_there}
use Rattle.core_follows.specs.Handled.{Fits, StandsFor, AllStandFor, TakesFields, Makes, HasLayout, Takes}

-- ---- a value of a type is one of it again

module _ (adt : ℕ → Value → Value) (adts : (n : ℕ) (v : Value) → references (adt n (adt n v)) ≡ references (adt n v)) where
  mutual
    twice : (t : Ty) (v : Value) → references (formed adt t (formed adt t v)) ≡ references (formed adt t v)
    twice ty.Byte v = refl
    twice ty.Int v = refl
    twice ty.Big v = refl
    twice ty.Chars v = refl
    twice ty.Nothing v = refl
    twice ty.Nil v = refl
    twice (ty.ArrayOf t) v = refl
    twice (ty.ListOf t) v = refl
    twice (ty.ChanOf t) v = refl
    twice (ty.Tuple ts) v = all_twice ts (parts_of v)
    twice (ty.Adt k) v = adts k v
    twice (ty.RefAdt k) v = refl
    twice (ty.RefPick k j) v = refl
    twice (ty.Module k) v = refl

    all_twice : (ts : Tys) (vs : Values) → all_references (all_formed adt ts (all_formed adt ts vs)) ≡ all_references (all_formed adt ts vs)
    all_twice NoTys vs = refl
    all_twice (MoreTys t ts) vs =
        ap (λ (rs : List (Option ℕ)). rs ++ all_references (all_formed adt ts (all_formed adt ts (rest_in vs)))) (twice t (first_in vs))
        ∙ ap (λ (rs : List (Option ℕ)). references (formed adt t (first_in vs)) ++ rs) (all_twice ts (rest_in vs))

  def_twice : (o : Option Def) (v : Value)
      → references (by_def (formed adt) (all_formed adt) o (by_def (formed adt) (all_formed adt) o v))
      ≡ references (by_def (formed adt) (all_formed adt) o v)
  def_twice None v = refl
  def_twice (Some d) v = all_twice (tys_of (parts d)) (parts_of v)

adt_twice : (defs : List Def) (depth k : ℕ) (v : Value)
    → references (adt_formed defs depth k (adt_formed defs depth k v)) ≡ references (adt_formed defs depth k v)
adt_twice defs zero k v = refl
adt_twice defs (suc d) k v = def_twice (adt_formed defs d) (adt_twice defs d) (slice_get defs k) v

fitted_twice : (defs : List Def) (t : Ty) (v : Value) → references (fitted defs t (fitted defs t v)) ≡ references (fitted defs t v)
fitted_twice defs t v = twice (adt_formed defs (length defs)) (adt_twice defs (length defs)) t v

-- ---- types that stand for others

as_same : (defs : List Def) (t : Ty) (v : Value) → Fits defs t v → references (fitted defs t v) ≡ references v
as_same defs t v (inl f) = subst (λ (x : Value). references (fitted defs t x) ≡ references x) (sym f.1) (fitted_twice defs t f.0)
as_same defs t v (inr f) =
    subst (λ (x : Value). references (fitted defs t x) ≡ references x) (sym f.2)
    (subst (λ (s : Ty). references (fitted defs s (Num f.1)) ≡ []) (sym f.0) refl)

as_variant : (defs : List Def) (n k : ℕ) (v : Value) → Fits defs (ty.RefPick n k) v → references (fitted defs (ty.RefAdt n) v) ≡
    references v
as_variant defs n k v (inl f) = subst (λ (x : Value). references (fitted defs (ty.RefAdt n) x) ≡ references x) (sym f.1) refl
as_variant defs n k v (inr f) = absurd (let e : ty.RefPick n k ≡ ty.Int = f.0 in cc)

stands_for : (defs : List Def) (t u : Ty) → Stands t u → StandsFor defs t u
stands_for defs t u (inl e) = λ v f. subst (λ (s : Ty). references (fitted defs s v) ≡ references v) e (as_same defs t v f)
stands_for defs (ty.RefPick n k) u (inr e) =
    λ v f. subst (λ (s : Ty). references (fitted defs s v) ≡ references v) (sym e) (as_variant defs n k v f)
stands_for defs _ u (inr e) = absurd e

all_stand_for : (defs : List Def) (ts us : List Ty) → AllStand ts us → AllStandFor defs ts us
all_stand_for defs [] [] h = tt
all_stand_for defs [] (u ∷ us) h = absurd h
all_stand_for defs (t ∷ ts) [] h = absurd h
all_stand_for defs (t ∷ ts) (u ∷ us) h = (stands_for defs t u h.0, all_stand_for defs ts us h.1)

fields_stand : (defs : List Def) (d : Def) (variant : Option ℕ) (ts : List Ty) → typed.TakesFields d variant ts
    → TakesFields defs d variant ts
fields_stand defs d None ts h = (h.0, all_stand_for defs ts (types_of d.fields) h.1)
fields_stand defs d (Some v) ts h = (h.0, h.1, all_stand_for defs ts (types_of d.fields ++ types_of h.0.fields) h.2)

pub makes_so : (defs : List Def) (o : Operation) (ts : List Ty) (t : Ty) → passes_on o ≡ true → HasLayout defs t → Gives defs o ts t
    → Makes defs t o ts
makes_so defs operation.Tuple ts t p h g =
    subst (λ (s : Ty). Makes defs s operation.Tuple ts) (sym g.1) (all_stand_for defs ts (listed g.0) g.2)
makes_so defs (operation.Adt n v) ts t p h g =
    let layout : HasLayout defs (ty.Adt n) = subst (HasLayout defs) g.result h in
    subst (λ (s : Ty). Makes defs s (operation.Adt n v) ts) (sym g.result)
    (refl, (g.def, g.there, layout.2, fields_stand defs g.def v ts g.fields))
makes_so defs _ ts t p h g = absurd cc

-- ---- parts that are taken

found : (ts : List Ty) (n : ℕ) (t : Ty) → slice_get ts n ≡ Some t → (n < length ts) × (slice_index_or ts n ty.Nothing ≡ t)
found [] zero t e = absurd cc
found [] (suc n) t e = absurd cc
found (u ∷ ts) zero t e = (omega arith, (let f : u ≡ t = cc in f))
found (u ∷ ts) (suc n) t e = let x = found ts n t e in let l = x.0 in (omega arith, x.1)

part_taken : (defs : List Def) (whole : Ty) (n : ℕ) (t : Ty) → HasLayout defs whole → slice_get (part_types defs whole) n ≡ Some t
    → Takes defs whole n t
part_taken defs whole n t h e =
    let x = found (part_types defs whole) n t e in (
      h,
      x.0,
      stands_for defs (slice_index_or (part_types defs whole) n ty.Nothing) t (inl x.1),
    )

pub takes_so : (defs : List Def) (whole : Ty) (n : ℕ) (t : Ty) → HasLayout defs whole → HasPart defs whole n t → Takes defs whole n t
takes_so defs (ty.Tuple us) n t h p = part_taken defs (ty.Tuple us) n t h p
takes_so defs (ty.Adt k) n t h p =
    part_taken defs (ty.Adt k) n t h (ap (λ (o : Option Def). slice_get (parts_there defs o) n) p.1 ∙ p.2)
takes_so defs _ n t h p = absurd p
