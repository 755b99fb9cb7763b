-- The world that a module begins in is one in which its code begins.
use Rattle.std.proofs.Common.{◌≡◌, ℕ, zero, suc, ◌<◌, List, [], ◌∷◌, length, map, Option, Some, None, refl, sym, ap, ◌∙◌, subst, arith}
use Rattle.std.specs.Prelude.{slice_get, slice_index_or}
use Rattle.limbo_types.specs.Types.{Ty, Byte, Int, Big}
use Rattle.limbo_values.specs.declared.number.Kind.{Kind}
use Rattle.limbo_values.specs.Numbers.{wrapped}
use Rattle.limbo_values.proofs.Ranges.{within, always}
use Rattle.limbo_typed.specs.declared.module.Initial.{Initial}
use Rattle.limbo_typed.specs.Typed as typed
use Rattle.limbo_typed.specs.Typed.{Module}
use Rattle.system_model.specs.Values.{Value, Num, zero_value}
use Rattle.typed_meaning.specs.Values.{kind_of, number_of, fitted}
use Rattle.typed_meaning.specs.Program.{initial_of, initials_from, globals_of}
use Rattle.typed_meaning.specs.Runs.{first_world}
use Rattle.slot_code.specs.Code.{GlobalVariable}
use Rattle.typed_lower.specs.Statements.{number_kind, global_code, globals_code, module_code}
use Rattle.dis_follows.specs.Laws.{IsOpening}

-- The kind of a number's type.
pub kind_is : (t : Ty) (k : Kind) → number_kind t ≡ Some k → kind_of t ≡ k
kind_is Byte k e = cc
kind_is Int k e = cc
kind_is Big k e = cc
kind_is _ k e = absurd cc

all_many : (vs : List typed.Var) (n : ℕ) (is : List Initial) → length (initials_from n vs is) ≡ length (globals_code vs (initials_from n vs is))
all_many [] n is = refl
all_many (v ∷ vs) n is = ap suc (all_many vs (suc n) is)

-- What a variable begins with.
first_value : (v : typed.Var) (w : Value) (k : Kind) → number_kind v.ty ≡ Some k
    → number_of k (fitted v.ty w) ≡ Num (global_code v (fitted v.ty w)).initial
first_value v (Num z) k e =
    let j = kind_of v.ty in
    let same : j ≡ k = kind_is v.ty k e in
    ap (λ i. Num (wrapped i (wrapped j z))) (sym same) ∙ ap Num (within j (wrapped j z) (always j z))

first_kind : (v : typed.Var) (w : Value) → (global_code v (fitted v.ty w)).kind ≡ number_kind v.ty
first_kind v (Num z) = refl

values_are : (vs : List typed.Var) (n : ℕ) (is : List Initial) (x : ℕ) (k : Kind) (g : GlobalVariable)
    → slice_get (globals_code vs (initials_from n vs is)) x ≡ Some g → g.kind ≡ Some k
    → number_of k (slice_index_or (initials_from n vs is) x zero_value) ≡ Num g.initial
values_are [] n is x k g e kind = absurd cc
values_are (v ∷ vs) n is zero k g e kind =
    let w = initial_of n is in
    let same : global_code v (fitted v.ty w) ≡ g = cc in
    let is_kind : number_kind v.ty ≡ Some k = sym (first_kind v w) ∙ ap (λ (g : GlobalVariable). g.kind) same ∙ kind in
    first_value v w k is_kind ∙ ap (λ (g : GlobalVariable). Num g.initial) same
values_are (v ∷ vs) n is (suc x) k g e kind = values_are vs (suc n) is x k g e kind

pub opens : (m : Module) → IsOpening (module_code m) (first_world m)
opens m = record {
  outside = refl;
  some = omega arith;
  many = all_many m.globals 0 m.initials;
  values = λ x k g e kind. values_are m.globals 0 m.initials x k g e kind;
}
