-- Told bytes that grow call by call.
use Rattle.std.proofs.Common.{◌≡◌, ℕ, ◌+◌, ◌≤◌, List, [], ◌++◌, take, drop, length, min, None, Some, Option}
use Rattle.std.proofs.Common.{option_map, IfSome, sym, ap, ◌∙◌, subst, arith}
use Rattle.std.proofs.Math.Seq.{take-add, take-append-add}
use Rattle.std.proofs.lemmas.List.{take_all, take_min, take-append-le, length-take}
use Rattle.std.proofs.KnownBytes.{Appends-trans}
use Rattle.std.specs.Io.KnownBytes.{Appends}
use Rattle.inf_ports.specs.Outside.{AppendsPart}

-- after the first m bytes the next n
pub Appends-next : (a b c : Option (List ℕ)) (xs : List ℕ) (m n : ℕ)
    → Appends a b (take m xs) → Appends b c (take n (drop m xs)) → Appends a c (take (m + n) xs)
Appends-next a b c xs m n p q = subst (Appends a c) (sym (take-add m n xs)) (Appends-trans a b c _ _ p q)

-- a first part of some bytes is one of those and more
pub AppendsPart-first : (a b : Option (List ℕ)) (xs ys : List ℕ) → AppendsPart a b xs → AppendsPart a b (xs ++ ys)
AppendsPart-first a b xs ys part =
    let m = min part.count (length xs) in
    let within : m ≤ length xs = omega arith in
    let same = sym (take_min part.count xs) ∙ sym (take-append-le m xs ys within) in
    record { count = m; grown = subst (Appends a b) same part.grown }

-- some bytes and then a first part of others
pub AppendsPart-next : (a b c : Option (List ℕ)) (xs ys : List ℕ)
    → Appends a b xs → AppendsPart b c ys → AppendsPart a c (xs ++ ys)
AppendsPart-next a b c xs ys whole part =
    let both = Appends-trans a b c xs (take part.count ys) whole part.grown in
    let same = sym (take-append-add xs ys part.count) in
    record { count = length xs + part.count; grown = subst (Appends a c) same both }

-- where the first n + 1 elements are at most n, they are all
pub take-short : (n : ℕ) (xs ys : List ℕ) → xs ≡ take (n + 1) ys → length xs ≤ n → xs ≡ ys
take-short n xs ys e h =
    let whole : length ys ≤ n + 1 = omega (arith, ap length e ∙ length-take (n + 1) ys) in
    e ∙ take_all (n + 1) ys whole

-- the same of bytes that are told
pub told-short : (told : Option (List ℕ)) (n : ℕ) (xs : List ℕ)
    → IfSome (option_map (take (n + 1)) told) (λ ys. xs ≡ [] ++ ys) → length xs ≤ n → IfSome told (λ ys. xs ≡ ys)
told-short None n xs e h = tt
told-short (Some ys) n xs e h = take-short n xs ys e h

-- what a caller of several writes needs: `#[tactic(auto, using(inf_ports::proofs::Growing::growing))]`
pub ruleset growing = (AppendsPart-first, AppendsPart-next)
