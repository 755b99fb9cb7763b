-- The functions that are called, and the arguments that they take.
use Rattle.std.proofs.Common.{◌≡◌, ℕ, zero, suc, ◌<◌, ◌≤◌, Bool, true, List, [], ◌∷◌, length, map, Option, Some, None, refl, sym}
use Rattle.std.proofs.Common.{ap, ◌∙◌, arith}
use Rattle.std.specs.Prelude.{slice_get, take}
use Rattle.std.proofs.lemmas.Bool.{false≢true}
use Rattle.std.proofs.lemmas.Option.{none-some, same_Some}
use Rattle.limbo_types.specs.Types.{Ty}
use Rattle.limbo_types.specs.Same.{same}
use Rattle.limbo_types.proofs.Same.{only}
use Rattle.limbo_values.specs.declared.number.Kind.{Kind}
use Rattle.limbo_typed.specs.Typed as typed
use Rattle.typed_meaning.specs.Values.{kind_of}
use Rattle.typed_lower.specs.Statements.{number_kind}
use Rattle.typed_part.specs.Part.{all_alike, are_alike, begin_with, types_in, some_is}
use Rattle.typed_part.proofs.Tests.{left, right}
use Rattle.part_code.proofs.Alike.{alike}

-- what a test of something that may be there says
pub some_holds : {A : Type 0} (test : A → Bool) (o : Option A) → some_is test o ≡ true → (x : A) × (o ≡ Some x) × (test x ≡ true)
some_holds test None h = absurd (false≢true h)
some_holds test (Some x) h = (x, refl, h)

abbrev pub kinds_in : List typed.Var → List (Option Kind)
kinds_in vs = map (λ v. number_kind v.ty) vs

-- the kind of a variable whose type is alike one that is the same
same_number : (t a u : Ty) → are_alike t a ≡ true → same a u ≡ true → number_kind u ≡ Some (kind_of t)
same_number t a u h e = ap number_kind (sym (only a u e)) ∙ (alike t a h).number

pub arguments_many : (ts args : List Ty) → all_alike ts args ≡ true → length args ≡ length ts
arguments_many [] [] h = refl
arguments_many [] (a ∷ args) h = absurd (false≢true h)
arguments_many (t ∷ ts) [] h = absurd (false≢true h)
arguments_many (t ∷ ts) (a ∷ args) h = ap suc (arguments_many ts args (right (are_alike t a) (all_alike ts args) h))

pub arguments_there : (args : List Ty) (vs : List typed.Var) → begin_with args (types_in vs) ≡ true → length args ≤ length (kinds_in vs)
arguments_there [] vs h = omega arith
arguments_there (a ∷ args) [] h = absurd (false≢true h)
arguments_there (a ∷ args) (v ∷ vs) h =
    let l = arguments_there args vs (right (same a v.ty) (begin_with args (types_in vs)) h) in omega (arith, l)

pub arguments_numbers : (ts args : List Ty) (vs : List typed.Var) → all_alike ts args ≡ true → begin_with args (types_in vs) ≡ true
    → (j : ℕ) → j < length args → (i : Kind) × (slice_get (kinds_in vs) j ≡ Some (Some i))
arguments_numbers [] [] vs h b j l = absurd (omega (arith, l))
arguments_numbers [] (a ∷ args) vs h b j l = absurd (false≢true h)
arguments_numbers (t ∷ ts) [] vs h b j l = absurd (false≢true h)
arguments_numbers (t ∷ ts) (a ∷ args) [] h b j l = absurd (false≢true b)
arguments_numbers (t ∷ ts) (a ∷ args) (v ∷ vs) h b zero l =
    (kind_of t, ap Some (same_number t a v.ty (left (are_alike t a) (all_alike ts args) h) (left (same a v.ty) _ b)))
arguments_numbers (t ∷ ts) (a ∷ args) (v ∷ vs) h b (suc j) l =
    arguments_numbers ts args vs (right (are_alike t a) (all_alike ts args) h) (right (same a v.ty) (begin_with args (types_in vs)) b) j
    (omega (arith, l))

pub arguments_taken : (ts args : List Ty) (vs : List typed.Var) → all_alike ts args ≡ true → begin_with args (types_in vs) ≡ true
    → (j : ℕ) (k : Kind) → slice_get (map kind_of ts) j ≡ Some k → slice_get (take (length args) (kinds_in vs)) j ≡ Some (Some k)
arguments_taken [] args vs h b j k e = absurd (none-some k e)
arguments_taken (t ∷ ts) [] vs h b j k e = absurd (false≢true h)
arguments_taken (t ∷ ts) (a ∷ args) [] h b j k e = absurd (false≢true b)
arguments_taken (t ∷ ts) (a ∷ args) (v ∷ vs) h b zero k e =
    ap Some (same_number t a v.ty (left (are_alike t a) (all_alike ts args) h) (left (same a v.ty) (begin_with args (types_in vs)) b)
    ∙ ap Some (same_Some (kind_of t) k e))
arguments_taken (t ∷ ts) (a ∷ args) (v ∷ vs) h b (suc j) k e =
    arguments_taken ts args vs (right (are_alike t a) (all_alike ts args) h) (right (same a v.ty) (begin_with args (types_in vs)) b) j k e
