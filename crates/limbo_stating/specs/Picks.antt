-- What a `pick` chooses from, and the variants of its arms (Limbo Language Reference, pick statement).
use Rattle.std.specs.Prelude.{◌≡◌, ◌≤◌, ℕ, Bool, true, false, List, [], ◌∷◌, ◌++◌, length, count_by, Some, slice_get}
use Rattle.limbo_tree.specs.Exprs as tree
use Rattle.limbo_forms.specs.Forms.{ref_of}
use Rattle.limbo_typed.specs.Typed.{Expr, PickHead}
use Rattle.limbo_typed.specs.Fitting.{IsPick}
use Rattle.limbo_typed.specs.Sound.{type_of, picked}
use Rattle.limbo_refusals.specs.Refusals.{NoneIs}
use Rattle.limbo_causes.specs.Causes.{Cause}
use Rattle.limbo_context.specs.Context.{Context, HasVariantNamed}
use Rattle.limbo_local.specs.limbo_typing.Failing.{FailsValue}
use Rattle.limbo_local.specs.Points.{Point, ValueAt, with_variables}
use Rattle.limbo_stating.specs.Reasons.{Reason, ByPart, BadPick}

-- A `ref` of a pick adt, or of a variant of one.
pub record IsPicked (c : Context) (x : Expr) (adt : ℕ) : Type 0 where
  pub of : ref_of (type_of x) ≡ Some adt
  pub pick : IsPick c.adts adt

-- What a `pick` chooses from.
pub record Picks (p : Point) (e : tree.Expr) (x : Expr) (adt : ℕ) (q : Point) : Type 0 where
  pub has : ValueAt p e x q
  pub is : IsPicked p.context x adt

pub data FailsToPick (p : Point) (e : tree.Expr) : Reason → Type 0 where
  no_value : (k : Cause) → FailsValue p.context p.body e k → FailsToPick p e (ByPart k)
  no_pick : (x : Expr) (q : Point) → ValueAt p e x q → NoneIs (IsPicked p.context x) → FailsToPick p e BadPick

-- The names are those of variants of the adt.
abbrev pub AreVariants : Context → (adt : ℕ) → List (List ℕ) → List ℕ → Type 0
AreVariants c a [] [] = Unit {0}
AreVariants c a (n ∷ ns) (v ∷ vs) = HasVariantNamed c a n v × AreVariants c a ns vs
AreVariants c a _ _ = ⊥

-- One of them isn't.
pub data HasNoVariant (c : Context) (adt : ℕ) : List (List ℕ) → Type 0 where
  here : (n : List ℕ) (ns : List (List ℕ)) → NoneIs (HasVariantNamed c adt n) → HasNoVariant c adt (n ∷ ns)
  later : (n : List ℕ) (ns : List (List ℕ)) → HasNoVariant c adt ns → HasNoVariant c adt (n ∷ ns)

-- An arm with its variable: a `ref` of the one variant that it names, or else of the adt.
abbrev pub IsPickHead : (name : List ℕ) → (adt : ℕ) → Point → List (List ℕ) → PickHead → Point → Type 0
IsPickHead name a p ns h q =
    (vs : List ℕ) × AreVariants p.context a ns vs × (h ≡ record { variants = vs; variable = length p.body.variables })
    × (q ≡ with_variables (name ∷ []) (picked a vs) p)

-- ---- all arms of a `pick`

-- the variants that arms name, one arm after the other
abbrev pub all_variants : List PickHead → List ℕ
all_variants [] = []
all_variants (h ∷ heads) = h.variants ++ all_variants heads

abbrev pub is_empty : List ℕ → Bool
is_empty [] = true
is_empty (v ∷ vs) = false

-- `*` names none.
abbrev pub is_star : PickHead → Bool
is_star h = is_empty h.variants

-- Each variant is named once at most, and `*` stands once at most.
pub record PickOnce (heads : List PickHead) : Type 0 where
  pub once : (i j v : ℕ) → slice_get (all_variants heads) i ≡ Some v → slice_get (all_variants heads) j ≡ Some v → i ≡ j
  pub one_star : count_by is_star heads ≤ 1
