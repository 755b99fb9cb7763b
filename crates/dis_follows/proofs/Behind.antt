-- A word is put where one of its kind stands, behind others.
use Rattle.std.proofs.Common.{◌≡◌, ℕ, pos, ◌*◌, ◌/◌, ◌%◌, true, List, [], ◌∷◌, ◌++◌, length, Some, refl, ap, ◌∙◌, arith, if◌then◌else◌}
use Rattle.std.specs.Prelude.{◌==◌, slice_set}
use Rattle.dis_meaning.specs.Words.{Word, Found, Wrong, ◌>>=◌, type_check, or_wrong, fits, replaced, stored}
use Rattle.dis_meaning.specs.Opening.{if_found}
use Rattle.dis_follows.proofs.Opening.{first_behind}

set_behind : {A : Type 0} (front : List A) (x y : A) (rest : List A) → slice_set (front ++ x ∷ rest) (length front) y ≡ front ++ y ∷ rest
set_behind [] x y rest = refl
set_behind (z ∷ front) x y rest = ap (λ xs. z ∷ xs) (set_behind front x y rest)

pub stored_behind : (front rest : List Word) (old new : Word) (offset : ℕ) → offset ≡ 4 * length front → fits old new ≡ true
    → if_found (stored (front ++ old ∷ rest) (pos offset) new) ≡ Some (front ++ new ∷ rest)
stored_behind front rest old new offset e f =
    let k = length front in
    let words = front ++ old ∷ rest in
    let r : (4 * k) % 4 ≡ 0 = omega arith in
    let d : (4 * k) / 4 ≡ k = omega arith in
    ap (λ n. if_found (stored words (pos n) new)) e
    ∙ ap (λ n. if_found ((if n == 0 then Found ((4 * k) / 4) else Wrong type_check) >>= λ k. replaced words k new)) r
    ∙ ap (λ k. if_found (replaced words k new)) d
    ∙ ap (λ o. if_found (or_wrong type_check o >>= λ old. if fits old new then Found (slice_set words k new) else Wrong type_check))
    (first_behind front old rest)
    ∙ ap (λ b. if_found (if b then Found (slice_set words k new) else Wrong type_check)) f
    ∙ ap Some (set_behind front old new rest)
