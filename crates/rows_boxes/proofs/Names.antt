-- Which references of a value that is given may name something: any that a value of its type has.
use Rattle.std.proofs.Common.{◌≡◌, ℕ, zero, suc, ◌+◌, ◌<◌, Bool, true, List, [], ◌∷◌, length, Option, Some, refl, sym, ap, subst, ◌∙◌, arith, inl, inr, if◌then◌else◌}
use Rattle.limbo_types.specs.Types.{Ty}
use Rattle.limbo_layout.specs.Adts.{Def}
use Rattle.limbo_meaning.specs.Values.{Value, references, fitted, zero_of}
use Rattle.limbo_meaning.specs.Evaluation.{is_some, refers, work_refers}
use Rattle.limbo_meaning.specs.Trees.{Work}
use Rattle.core_code.specs.Terms.{numbers_from, count_of}
use Rattle.core_follows.proofs.Given.{counted}
use Rattle.core_typing.specs.Held as held
use Rattle.core_typing.specs.Going.{all_of, got_by}
use Rattle.value_frames.specs.Standing.{NamesOnly}
use Rattle.value_frames.proofs.Beginning.{is_inside}

number_there : (defs : List Def) (from count k : ℕ) → k < count → held.Has (numbers_from defs from count) (from + k)
number_there defs from zero k l = absurd (omega (arith, l))
number_there defs from (suc n) zero l = inl (omega arith)
number_there defs from (suc n) (suc k) l = inr (subst (λ (j : ℕ). held.Has (numbers_from defs (suc from) n) j) (omega arith) (number_there defs (suc from) n k (omega (arith, l))))

some_there : (rs : List (Option ℕ)) (k : ℕ) → k < length rs → is_some rs ≡ true
some_there [] k l = absurd (omega (arith, l))
some_there (r ∷ rs) k l = refl

pub names_got : (defs : List Def) (t : Ty) (o : Work) (v : Value) → work_refers defs t o ≡ refers defs t → v ≡ fitted defs t v → NamesOnly (got_by defs t o) v
names_got defs t o v same whole k n e =
    let below : k < length (references v) = is_inside (references v) k (Some n) e in
    let many : length (references v) ≡ count_of defs t = ap (λ (u : Value). length (references u)) whole ∙ counted defs t v in
    let all : held.Has (all_of defs t) k =
    subst (λ (j : ℕ). held.Has (numbers_from defs 0 (count_of defs t)) j) (omega arith) (number_there defs 0 (count_of defs t) k (omega (arith, below, many))) in
    subst (λ (c : Bool). held.Has (if c then all_of defs t else []) k)
    (sym (same ∙ some_there (references (zero_of defs t)) k (omega (arith, below, many)))) all
