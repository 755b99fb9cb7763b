-- How deep includes nest.
use Rattle.std.proofs.Common.{◌≡◌, ℕ, suc, ◌≤◌, ◌⊎◌, inl, inr, List, subst, arith}
use Rattle.std.specs.List.{Contains}
use Rattle.inf_text.specs.declared.span.Span.{Span}
use Rattle.limbo_tree.specs.declared.source.Top.{Top}
use Rattle.limbo_tree.specs.declared.source.Top.TheVariants.{Include}
use Rattle.limbo_includes.specs.Includes.{Given, Leads, to_given, to_included, IsTooDeep, target}

last_or_before : (n : ℕ) → 16 ≤ suc n → (16 ≤ n) ⊎ (suc n ≡ 16)
last_or_before n h = grind arith

within_or_past : (n : ℕ) → (16 ≤ n) ⊎ (suc n ≤ 16)
within_or_past n = grind arith

-- an include that stands deeper than the deepest has one above it that stands too deep
pub too_deep :
    (g : Given) (n : ℕ) (path : List ℕ) (tops : List Top) (name : List ℕ) (at : Span) → 16 ≤ n
    → Leads g n path tops → Contains tops (Include name at) → IsTooDeep g
too_deep g _ _ _ name at h to_given c = absurd (omega arith)
too_deep g _ _ _ name at h (to_included n path m a tops inner l k e) c =
    pick (λ i. too_deep g n path tops m a i l k) (last_or_before n h)
  where
    pick : (16 ≤ n → IsTooDeep g) → (16 ≤ n) ⊎ (suc n ≡ 16) → IsTooDeep g
    pick before (inl i) = before i
    pick before (inr q) = record {
      path = target path m;
      tops = inner;
      name = name;
      at = at;
      leads = subst (λ (z : ℕ). Leads g z (target path m) inner) q (to_included n path m a tops inner l k e);
      stands = c;
    }

-- where nothing is too deep, no more includes than the most lead anywhere
pub shallow :
    (g : Given) → (IsTooDeep g → ⊥) → (n : ℕ) (path : List ℕ) (tops : List Top) → Leads g n path tops → n ≤ 16
shallow g f _ _ _ to_given = omega arith
shallow g f _ _ _ (to_included n path m a tops inner l k e) =
    elim (within_or_past n) [
      | inl i ↦ absurd (f (too_deep g n path tops m a i l k))
      | inr i ↦ i
    ]
