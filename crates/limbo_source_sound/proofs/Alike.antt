-- Which declarations are counted among the adts, and among the module types.
use Rattle.std.proofs.Common.{◌≡◌, ◌==◌, ℕ, Bool, true, false, if◌then◌else◌, List, Some, None, refl, sym, ◌∙◌}
use Rattle.limbo_declarations.specs.Rows as rows
use Rattle.limbo_declarations.specs.Rows.{Declared}
use Rattle.limbo_entries.specs.Entries.{Entry}
use Rattle.limbo_naming.specs.Naming.{is_adt, is_module}
use Rattle.limbo_scope.specs.declared.meaning.Meaning.TheVariants as meaning
use Rattle.limbo_meanings.specs.declared.kind.Kind.{Kind}
use Rattle.limbo_meanings.specs.declared.kind.Kind.TheVariants as kind
use Rattle.limbo_meanings.specs.Kinds.{place, kind_in, is_at, is_own, is_outermost, has_kind}
use Rattle.limbo_meanings.specs.Meanings.{meaning_of}
use Rattle.limbo_meanings.proofs.Numbered.{number_is}

off : (p : ℕ) (k : Kind) (b : Bool) → (place k == p) ≡ false → is_at p (if b then Some k else None) ≡ false
off p k true f = f
off p k false f = refl

adt_alike : (own out : Bool) (d : Declared) → is_at 3 (kind_in own out d) ≡ is_adt d
adt_alike own out (rows.Variable t e) = off 3 kind.Global out refl
adt_alike own out (rows.Inferred e) = off 3 kind.Global out refl
adt_alike own out (rows.Function f) = off 3 kind.Function own refl
adt_alike own out _ = refl

module_alike : (own out : Bool) (d : Declared) → is_at 4 (kind_in own out d) ≡ is_module d
module_alike own out (rows.Variable t e) = off 4 kind.Global out refl
module_alike own out (rows.Inferred e) = off 4 kind.Global out refl
module_alike own out (rows.Function f) = off 4 kind.Function own refl
module_alike own out _ = refl

module _ (es : List Entry) (m : ℕ) (e : Entry) where
  pub module_kind : has_kind es m (place kind.Module) e ≡ is_module e.row.means
  module_kind = module_alike (is_own es m e.within) (is_outermost m e.within) e.row.means

  pub meant_adt : (k n : ℕ) → meaning_of es m k e ≡ Some (meaning.Adt n) → is_adt e.row.means ≡ true
  meant_adt k n h =
      sym (adt_alike (is_own es m e.within) (is_outermost m e.within) e.row.means) ∙ (number_is es m k e kind.Adt n h).0

  pub meant_module : (k n : ℕ) → meaning_of es m k e ≡ Some (meaning.Module n) → is_module e.row.means ≡ true
  meant_module k n h = sym module_kind ∙ (number_is es m k e kind.Module n h).0
