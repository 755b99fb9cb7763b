-- What holds of scopes.
use Rattle.std.proofs.Common.{◌≡◌, ◌≢◌, ℕ, Bool, true, false, List, [], ◌∷◌, cond, Some, refl, ap, ◌∙◌}
use Rattle.std.specs.Option.{option_or}
use Rattle.std.specs.Ordering.{nat_cmp, eq_by_cmp}
use Rattle.std.specs.Cmp.Lexicographic.{slice_cmp, nat_list_cmp_total}
use Rattle.std.specs.FinMap.{get, insert, empty, get-empty, get-insert}
use Rattle.std.specs.Cmp.{eq_by_cmp_equiv, Equal-is}
use Rattle.limbo_scope.specs.declared.meaning.Meaning.{Meaning}
use Rattle.limbo_scope.specs.Scopes.{Scope, seen, declared, left}
use Rattle.limbo_scope.specs.Laws.{declared_all, InnermostCounts, GivesBack}
use Rattle.limbo_scope.proofs.Maps.{antisymmetric}

-- declarations change the innermost scope alone
changed :
    (ds : List (List ℕ × Meaning)) (scope : Scope) (outer : List Scope)
    → (last : Scope) × (declared_all ds (scope ∷ outer) ≡ last ∷ outer)
changed [] scope outer = (scope, refl)
changed (d ∷ ds) scope outer = changed ds (insert scope d.0 d.1) outer

pub gives_back : GivesBack
gives_back ds scope outer = let c = changed ds empty (scope ∷ outer) in ap left c.1

same_name : (name : List ℕ) → eq_by_cmp (slice_cmp nat_cmp) name name ≡ true
same_name name = (eq_by_cmp_equiv nat_list_cmp_total).refl name

other_name : (name other : List ℕ) → other ≢ name → eq_by_cmp (slice_cmp nat_cmp) other name ≡ false
other_name name other apart = go (eq_by_cmp (slice_cmp nat_cmp) other name) refl
  where
    go : (b : Bool) → eq_by_cmp (slice_cmp nat_cmp) other name ≡ b → eq_by_cmp (slice_cmp nat_cmp) other name ≡ false
    go true h = absurd (apart (antisymmetric other name ((Equal-is (slice_cmp nat_cmp other name)).0 h)))
    go false h = h

counts :
    (name : List ℕ) (meaning : Meaning) (scope : Scope) (outer : List Scope)
    → seen name (declared name meaning (scope ∷ outer)) ≡ Some meaning
counts name meaning scope outer =
    let here : get (insert scope name meaning) name ≡ Some meaning =
    get-insert nat_list_cmp_total scope name meaning name
    ∙ ap (λ b. cond b (Some meaning) (get scope name)) (same_name name)
    in ap (λ m. option_or m (seen name outer)) here

others :
    (name other : List ℕ) (meaning : Meaning) (scopes : List Scope) → other ≢ name
    → seen other (declared name meaning scopes) ≡ seen other scopes
others name other meaning [] apart = refl
others name other meaning (scope ∷ outer) apart =
    let there : get (insert scope name meaning) other ≡ get scope other =
    get-insert nat_list_cmp_total scope name meaning other
    ∙ ap (λ b. cond b (Some meaning) (get scope other)) (other_name name other apart)
    in ap (λ m. option_or m (seen other outer)) there

pub innermost_counts : InnermostCounts
innermost_counts = record {
  counts = counts;
  others = others;
  fresh = λ name scopes. ap (λ m. option_or m (seen name scopes)) (get-empty (slice_cmp nat_cmp) name);
}
