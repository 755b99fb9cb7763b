-- What the tests of the part say of kinds.
use Rattle.std.proofs.Common.{◌≡◌, Bool, true, List, [], ◌∷◌, map, Option, Some, None, refl, sym, ap, ◌∙◌}
use Rattle.std.proofs.lemmas.Bool.{false≢true}
use Rattle.limbo_types.specs.Types.{Ty, Byte, Int, Big}
use Rattle.limbo_values.specs.declared.number.Kind.{Kind}
use Rattle.limbo_values.specs.declared.number.Kind.TheVariants as kind
use Rattle.slot_code.specs.Machine.{same_kind}
use Rattle.typed_meaning.specs.Values.{kind_of}
use Rattle.typed_part.specs.Part.{is_of, are_alike, all_alike, are_of, some_is}
use Rattle.typed_part.proofs.Tests.{left, right}

same_only : (k j : Kind) → same_kind k j ≡ true → k ≡ j
same_only kind.Byte kind.Byte h = refl
same_only kind.Int kind.Int h = refl
same_only kind.Big kind.Big h = refl
same_only _ _ h = absurd (false≢true h)

pub of_kind : (k : Kind) (t : Ty) → is_of k t ≡ true → kind_of t ≡ k
of_kind k Byte h = sym (same_only k kind.Byte h)
of_kind k Int h = sym (same_only k kind.Int h)
of_kind k Big h = sym (same_only k kind.Big h)
of_kind k _ h = absurd (false≢true h)

pub alike_kinds : (t u : Ty) → are_alike t u ≡ true → kind_of u ≡ kind_of t
alike_kinds Byte u h = of_kind kind.Byte u h
alike_kinds Int u h = of_kind kind.Int u h
alike_kinds Big u h = of_kind kind.Big u h
alike_kinds _ u h = absurd (false≢true h)

pub of_kinds : (ks : List Kind) (ts : List Ty) → are_of ks ts ≡ true → map kind_of ts ≡ ks
of_kinds [] [] h = refl
of_kinds [] (t ∷ ts) h = absurd (false≢true h)
of_kinds (k ∷ ks) [] h = absurd (false≢true h)
of_kinds (k ∷ ks) (t ∷ ts) h =
    let first = of_kind k t (left (is_of k t) (are_of ks ts) h) in
    let others = of_kinds ks ts (right (is_of k t) (are_of ks ts) h) in
    ap (λ j. j ∷ map kind_of ts) first ∙ ap (λ js. k ∷ js) others

pub all_alike_kinds : (ts us : List Ty) → all_alike ts us ≡ true → map kind_of us ≡ map kind_of ts
all_alike_kinds [] [] h = refl
all_alike_kinds [] (u ∷ us) h = absurd (false≢true h)
all_alike_kinds (t ∷ ts) [] h = absurd (false≢true h)
all_alike_kinds (t ∷ ts) (u ∷ us) h =
    let first = alike_kinds t u (left (are_alike t u) (all_alike ts us) h) in
    let others = all_alike_kinds ts us (right (are_alike t u) (all_alike ts us) h) in
    ap (λ j. j ∷ map kind_of us) first ∙ ap (λ js. kind_of t ∷ js) others

-- what a test of something that may be there says
pub some_holds : {A : Type 0} (test : A → Bool) (o : Option A) → some_is test o ≡ true → (x : A) × (o ≡ Some x) × (test x ≡ true)
some_holds test None h = absurd (false≢true h)
some_holds test (Some x) h = (x, refl, h)
