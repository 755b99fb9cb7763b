-- Of what comes into a slot as a value of a type all references may name something.
use Rattle.std.proofs.Common.{ℕ, zero, suc, ◌+◌, ◌<◌, List, Some, subst, arith, inl, inr}
use Rattle.limbo_types.specs.Types.{Ty}
use Rattle.limbo_layout.specs.Adts.{Def}
use Rattle.limbo_meaning.specs.Values.{Value, references, fitted}
use Rattle.core_code.specs.Terms.{numbers_from, count_of}
use Rattle.core_follows.proofs.Given.{counted}
use Rattle.core_typing.specs.Held as held
use Rattle.core_typing.specs.Going.{all_of}
use Rattle.value_frames.specs.Standing.{NamesOnly}
use Rattle.value_frames.proofs.Beginning.{is_inside}

number_there : (defs : List Def) (from count k : ℕ) → k < count → held.Has (numbers_from defs from count) (from + k)
number_there defs from zero k l = absurd (omega (arith, l))
number_there defs from (suc n) zero l = inl (omega arith)
number_there defs from (suc n) (suc k) l =
    inr (subst (λ (j : ℕ). held.Has (numbers_from defs (suc from) n) j) (omega arith) (number_there defs (suc from) n k (omega (arith, l))))

pub all_named : (defs : List Def) (t : Ty) (v : Value) → NamesOnly (all_of defs t) (fitted defs t v)
all_named defs t v k n e =
    let below = is_inside (references (fitted defs t v)) k (Some n) e in
    let many = counted defs t v in
    subst (λ (j : ℕ). held.Has (numbers_from defs 0 (count_of defs t)) j) (omega arith)
    (number_there defs 0 (count_of defs t) k (omega (arith, below, many)))
