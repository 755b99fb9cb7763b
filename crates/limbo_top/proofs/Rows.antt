-- Rows of modules and of functions are told by what they stand for.
use Rattle.std.proofs.Common.{◌≡◌, List, refl}
use Rattle.std.specs.Borrow.{Bor}
use Rattle.limbo_tree.specs.declared.decl.Member as code_member
use Rattle.limbo_tree.specs.declared.decl.FnType as code_fn
use Rattle.limbo_tree.specs.Decls.{Members, FnType}
use Rattle.limbo_declarations.specs.declared.row.Declared.{Declared}
use Rattle.limbo_declarations.specs.declared.row.Declared.TheVariants as code
use Rattle.limbo_declarations.specs.Rows.{Function, Module}
use Rattle.limbo_declarations.specs.View.{view_declared}

pub is_module : (d : Declared) (ms : Members) → view_declared d ≡ Module ms → (x : Bor (List code_member.Member)) × (d ≡ code.Module x)
is_module (code.Module x) ms e = (x, refl)
is_module (code.Constant x k) ms e = absurd cc
is_module (code.Alias x) ms e = absurd cc
is_module (code.Variable x v) ms e = absurd cc
is_module (code.Inferred x) ms e = absurd cc
is_module (code.Imported x) ms e = absurd cc
is_module (code.Exception x) ms e = absurd cc
is_module (code.Adt x p) ms e = absurd cc
is_module (code.Function x) ms e = absurd cc
is_module (code.Case x) ms e = absurd cc

pub is_function : (d : Declared) (f : FnType) → view_declared d ≡ Function f → (x : Bor code_fn.FnType) × (d ≡ code.Function x)
is_function (code.Function x) f e = (x, refl)
is_function (code.Constant x k) f e = absurd cc
is_function (code.Alias x) f e = absurd cc
is_function (code.Variable x v) f e = absurd cc
is_function (code.Inferred x) f e = absurd cc
is_function (code.Imported x) f e = absurd cc
is_function (code.Exception x) f e = absurd cc
is_function (code.Adt x p) f e = absurd cc
is_function (code.Module x) f e = absurd cc
is_function (code.Case x) f e = absurd cc
