-- The last name of a path, from the place behind its last `/`.
use Rattle.std.proofs.Common.{◌≡◌, ℕ, ◌-◌, ◌<◌, ◌≤◌, List, length, take, drop, get_or, true, false, not, eqb, arith, ap, ◌∙◌, length-drop}
use Rattle.std.proofs.lemmas.List.Sums.{suffix_len_is}
use Rattle.std.specs.List.{suffix_len}
use Rattle.std.proofs.lemmas.List.{take_all}
use Rattle.inferno_command.specs.Base.{last_name}

-- no `/` stands from the place on, and one stands before it
pub last_name_from : (path : List ℕ) (at : ℕ) → at ≤ length path → ((k : ℕ) → at ≤ k → k < length path → eqb (get_or path k 0) 47 ≡ false) → (0 < at → eqb (get_or path (at - 1) 0) 47 ≡ true) → take (length path - at) (drop at path) ≡ last_name path
last_name_from path at inside none before =
    let long : suffix_len (λ c. not (eqb c 47)) path ≡ length path - at = suffix_len_is (λ c. not (eqb c 47)) path at 0 inside (λ k low high. ap not (none k low high)) (λ positive. ap not (before positive)) in
    let place : at ≡ length path - suffix_len (λ c. not (eqb c 47)) path = omega arith in
    take_all (length path - at) (drop at path) (omega (arith, length-drop at path)) ∙ ap (λ n. drop n path) place
