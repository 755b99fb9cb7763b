-- The numbers of functions that are members of modules.
use Rattle.std.proofs.Common.{◌≡◌, ◌≤◌, ◌-◌, ◌+◌, ◌==◌, ◌&&◌, ℕ, Bool, true, List, Option, Some, None, take, count_by, refl, sym, ap}
use Rattle.std.proofs.Common.{subst, ◌∙◌, arith}
use Rattle.limbo_declarations.specs.Rows as rows
use Rattle.limbo_declarations.specs.Rows.{Declared}
use Rattle.limbo_scope.specs.declared.meaning.Meaning.{Meaning}
use Rattle.limbo_scope.specs.declared.meaning.Meaning.TheVariants as meaning
use Rattle.limbo_tree.specs.Decls.{FnType}
use Rattle.limbo_entries.specs.Entries.{Entry}
use Rattle.limbo_meanings.specs.Names.{same_scope}
use Rattle.limbo_meanings.specs.Meanings.{meaning_of}
use Rattle.limbo_meanings.proofs.Counting.{itself}
use Rattle.limbo_exports.specs.System.{is_function, print_of}
use Rattle.limbo_exports.specs.Exports.{export_in, export_of, is_called, is_none, many_called, number_by, function_number}
use Rattle.limbo_exports.specs.Laws.{FunctionExported, PrintExported}

same : (w : Option ℕ) → same_scope w w ≡ true
same None = refl
same (Some a) = itself a

one_number : (a b : ℕ) → Some (meaning.Function a) ≡ Some (meaning.Function b) → a ≡ b
one_number a b h = cc

module _ (es : List Entry) (m k n : ℕ) (system : Option ℕ) (e : Entry) (f : FnType) (is : e.row.means ≡ rows.Function f) where
  number : export_of es m system k e ≡ Some (meaning.Function n) → function_number es system k e ≡ n
  number h =
      one_number (function_number es system k e) n
      (sym (ap (export_in (function_number es system k e) (meaning_of es m k e)) is) ∙ h)

  called : print_of system e ≡ None → is_called system e.within e ≡ true
  called q =
      let a : is_function e.row.means ≡ true = ap is_function is in
      let b : is_none (print_of system e) ≡ true = ap is_none q in
      let s : same_scope e.within e.within ≡ true = same e.within in
      ap (λ (z : Bool). z && same_scope e.within e.within && is_none (print_of system e)) a
      ∙ ap (λ (z : Bool). z && is_none (print_of system e)) s ∙ b

pub function_is : FunctionExported
function_is es m k n system e f is q h =
    let all = many_called system e.within es in
    let before = many_called system e.within (take k es) in
    (called es m k n system e f is q, sym (ap (λ z. number_by z all before) q) ∙ number es m k n system e f is h)

pub print_is : PrintExported
print_is es m k n p system e f is q h =
    let all = many_called system e.within es in
    let before = many_called system e.within (take k es) in
    let s : all + p ≡ n = sym (ap (λ z. number_by z all before) q) ∙ number es m k n system e f is h in
    (omega arith, omega arith)
