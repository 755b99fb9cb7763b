-- How a scope is stored as numbers, which a model asks for.
use Rattle.std.specs.Prelude.{◌≡◌, ℕ, zero, suc, refl}
use Rattle.std.specs.Coded.{Coded, code_by, coded_ℕ, coded×, coded_list}
use Rattle.std.specs.FinMap.{code}
use Rattle.limbo_scope.specs.declared.meaning.Meaning.{Meaning}
use Rattle.limbo_scope.specs.declared.meaning.Meaning.TheVariants as m
use Rattle.limbo_scope.specs.Scopes.{Scope}

abbrev pub parts : Meaning → ℕ × ℕ
parts (m.Variable n) = (0, n)
parts (m.Global n) = (1, n)
parts (m.Constant n) = (2, n)
parts (m.Type n) = (3, n)
parts (m.Adt n) = (4, n)
parts (m.Module n) = (5, n)
parts (m.Function n) = (6, n)
parts (m.Import n) = (7, n)
parts (m.Exception n) = (8, n)

abbrev pub of_kind : ℕ → ℕ → Meaning
of_kind zero n = m.Variable n
of_kind (suc zero) n = m.Global n
of_kind (suc (suc zero)) n = m.Constant n
of_kind (suc (suc (suc zero))) n = m.Type n
of_kind (suc (suc (suc (suc zero)))) n = m.Adt n
of_kind (suc (suc (suc (suc (suc zero))))) n = m.Module n
of_kind (suc (suc (suc (suc (suc (suc zero)))))) n = m.Function n
of_kind (suc (suc (suc (suc (suc (suc (suc zero))))))) n = m.Import n
of_kind (suc (suc (suc (suc (suc (suc (suc (suc k)))))))) n = m.Exception n

pub again : (a : Meaning) → of_kind (parts a).0 (parts a).1 ≡ a
again (m.Variable n) = refl
again (m.Global n) = refl
again (m.Constant n) = refl
again (m.Type n) = refl
again (m.Adt n) = refl
again (m.Module n) = refl
again (m.Function n) = refl
again (m.Import n) = refl
again (m.Exception n) = refl

abbrev pub meaning_code : Coded Meaning
meaning_code = code_by (ℕ × ℕ) (coded× coded_ℕ coded_ℕ) parts (λ p. of_kind p.0 p.1) again

abbrev pub scope_code : Coded Scope
scope_code = code (coded_list coded_ℕ) meaning_code
