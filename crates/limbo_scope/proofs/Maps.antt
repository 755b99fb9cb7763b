-- The maps of the code, as the finite maps that they stand for.
use Rattle.std.proofs.Common.{◌≡◌, ℕ, List, [], ◌∷◌, cond, Some, refl, sym, ap, ◌∙◌}
use Rattle.std.specs.Ordering.{nat_cmp, eq_by_cmp}
use Rattle.std.specs.Cmp.{eq_by_cmp_equiv}
use Rattle.std.specs.Cmp.Lexicographic.{slice_cmp, nat_list_cmp_total}
use Rattle.std.specs.Map.{lookup}
use Rattle.std.specs.BTreeMap.{is_at, get_by, Updates}
use Rattle.std.specs.FinMap.{IsAntisymmetric, get, insert, find, get-from_entries, get-insert, same_map}
use Rattle.std.specs.FinMap.{nat_cmp-IsAntisymmetric, slice_cmp-IsAntisymmetric}
use Rattle.limbo_scope.specs.declared.meaning.Meaning.{Meaning}
use Rattle.limbo_scope.specs.Maps.{Names, scope_of}

-- texts that compare as equal are one
pub antisymmetric : IsAntisymmetric (slice_cmp nat_cmp)
antisymmetric = slice_cmp-IsAntisymmetric nat_cmp-IsAntisymmetric

-- the two look-ups are one
found : (name : List ℕ) (es : List (List ℕ × Meaning)) → lookup (is_at (slice_cmp nat_cmp name)) es ≡ find (slice_cmp nat_cmp) name es
found name [] = refl
found name (e ∷ es) = ap (cond (eq_by_cmp (slice_cmp nat_cmp) name e.0) (Some e.1)) (found name es)

-- a look into the map of the code is one into what it stands for
pub looked : (names : Names) (name : List ℕ) → get_by (slice_cmp nat_cmp name) names ≡ get (scope_of names) name
looked names name = found name names.entries ∙ sym (get-from_entries nat_list_cmp_total names.entries name)

-- an entry in the map of the code is one in what it stands for
pub inserted :
    (old new : Names) (name : List ℕ) (meaning : Meaning) → Updates (slice_cmp nat_cmp) old new name (Some meaning)
    → scope_of new ≡ insert (scope_of old) name meaning
inserted old new name meaning u = same_map nat_list_cmp_total antisymmetric _ _ at
  where
    at : (q : List ℕ) → get (scope_of new) q ≡ get (insert (scope_of old) name meaning) q
    at q =
        sym (looked new q)
        ∙ u.0 q
        ∙ ap (λ b. cond b (Some meaning) (get_by (slice_cmp nat_cmp q) old)) ((eq_by_cmp_equiv nat_list_cmp_total).symm name q)
        ∙ ap (cond (eq_by_cmp (slice_cmp nat_cmp) q name) (Some meaning)) (looked old q)
        ∙ sym (get-insert nat_list_cmp_total (scope_of old) name meaning q)
