-- Which declarations are of a kind.
use Rattle.std.proofs.Common.{◌≡◌, ◌⊎◌, ◌==◌, inl, inr, ℕ, Bool, true, false, if◌then◌else◌, Option, Some, None, refl, sym, ◌∙◌}
use Rattle.std.specs.Borrow.{Bor}
use Rattle.limbo_tree.specs.Types as tree
use Rattle.limbo_tree.specs.Exprs.{Expr}
use Rattle.limbo_tree.specs.declared.types.TypeTree as code_type
use Rattle.limbo_declarations.specs.Rows as rows
use Rattle.limbo_declarations.specs.Rows.{Declared}
use Rattle.limbo_declarations.specs.declared.row.Declared as code
use Rattle.limbo_declarations.specs.declared.row.Declared.TheVariants as declared
use Rattle.limbo_declarations.specs.View.{view_declared}
use Rattle.limbo_meanings.specs.declared.kind.Kind.{Kind}
use Rattle.limbo_meanings.specs.declared.kind.Kind.TheVariants as kind
use Rattle.limbo_meanings.specs.Kinds.{place, kind_in, is_at}

-- another kind
never : (p : ℕ) (k : Kind) (b : Bool) → (place k == p) ≡ false → is_at p (if b then Some k else None) ≡ true → ⊥
never p k true f h = let z : false ≡ true = sym f ∙ h in absurd cc
never p k false f h = absurd cc

module _ (own out : Bool) where
  pub only_constant : (d : Declared) → is_at 1 (kind_in own out d) ≡ true → (x : Expr) × (i : ℕ) × (d ≡ rows.Constant x i)
  only_constant (rows.Constant x i) h = (x, i, refl)
  only_constant (rows.Variable t e) h = absurd (never 1 kind.Global out refl h)
  only_constant (rows.Inferred e) h = absurd (never 1 kind.Global out refl h)
  only_constant (rows.Function f) h = absurd (never 1 kind.Function own refl h)
  only_constant _ h = absurd cc

  pub only_exception : (d : Declared) → is_at 7 (kind_in own out d) ≡ true → (ts : tree.Tys) × (d ≡ rows.Exception ts)
  only_exception (rows.Exception ts) h = (ts, refl)
  only_exception (rows.Variable t e) h = absurd (never 7 kind.Global out refl h)
  only_exception (rows.Inferred e) h = absurd (never 7 kind.Global out refl h)
  only_exception (rows.Function f) h = absurd (never 7 kind.Function own refl h)
  only_exception _ h = absurd cc

  pub only_global : (d : Declared) → is_at 0 (kind_in own out d) ≡ true
      → ((t : tree.Ty) × (e : Option Expr) × (d ≡ rows.Variable t e)) ⊎ ((x : Expr) × (d ≡ rows.Inferred x))
  only_global (rows.Variable t e) h = inl (t, e, refl)
  only_global (rows.Inferred x) h = inr (x, refl)
  only_global (rows.Function f) h = absurd (never 0 kind.Function own refl h)
  only_global _ h = absurd cc

  pub only_type : (d : code.Declared) → ((t : Bor code_type.TypeTree) → d ≡ declared.Alias t → ⊥) → is_at 2 (kind_in own out (view_declared d)) ≡ true → ⊥
  only_type (declared.Alias t) n h = n t refl
  only_type (declared.Variable t e) n h = never 2 kind.Global out refl h
  only_type (declared.Inferred e) n h = never 2 kind.Global out refl h
  only_type (declared.Function f) n h = never 2 kind.Function own refl h
  only_type _ n h = absurd cc

pub or_false : (b : Bool) → (b ≡ true → ⊥) → b ≡ false
or_false true n = absurd (n refl)
or_false false n = refl
