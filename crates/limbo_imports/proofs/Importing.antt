-- Names that are imported, and those that aren't there to be imported.
use Rattle.std.proofs.Common.{◌≡◌, ◌+◌, ◌++◌, ◌∷◌, [], ℕ, Bool, true, false, List, Option, Some, None, slice_get, refl, sym, ap, subst, ◌∙◌}
use Rattle.limbo_declarations.specs.Rows as rows
use Rattle.limbo_declarations.specs.Rows.{Declared}
use Rattle.limbo_declarations.specs.declared.row.Declared as code
use Rattle.limbo_declarations.specs.declared.row.Declared.TheVariants as declared
use Rattle.limbo_declarations.specs.View.{view_declared}
use Rattle.limbo_tree.specs.declared.name.Name as code_name
use Rattle.limbo_entries.specs.declared.entry.Entry as code_entry
use Rattle.limbo_entries.specs.View.{view_entry}
use Rattle.std.specs.Borrow.{Bor}
use Rattle.limbo_entries.specs.Entries.{Entry, IsEntry, IsMember, HasNone, Finds, AreOnce}
use Rattle.limbo_naming.specs.Qualified.{Simple}
use Rattle.limbo_naming.specs.Naming.{Names}
use Rattle.limbo_naming.proofs.Unique as unique
use Rattle.limbo_scope.specs.declared.meaning.Meaning.{Meaning}
use Rattle.limbo_context.specs.declared.context.Imported.{Imported}
use Rattle.limbo_meanings.specs.Kinds.{has_kind, kind_in, is_at, is_own, is_outermost}
use Rattle.limbo_meanings.specs.declared.kind.Kind.TheVariants as kind
use Rattle.limbo_meanings.proofs.Lists.{table_yes, table_no, listed_at}
use Rattle.limbo_meanings.proofs.Numbered.{number_is}
use Rattle.limbo_exports.specs.System.{module_in}
use Rattle.limbo_imports.specs.Imports.{meaning_at, HasNoImport, IsImported, IsImport, ImportsTo, IsMissing}
use Rattle.limbo_imports.specs.declared.fault.ImportFault.TheVariants as fault
use Rattle.limbo_imports.specs.Laws.{ImportOfNumber}

module _ (es : List Entry) (m : ℕ) (means others : List (Option Meaning)) (scope : Option ℕ) (source name : List ℕ) where
  pub none_found : ((k : ℕ) → Finds es m source scope k → ⊥) → HasNoImport es m means others scope source name
  none_found none x i = none i.from i.finds

  pub none_named : ((r : ℕ) → Names es m scope (Simple source) r → ⊥) → HasNoImport es m means others scope source name
  none_named none x i = none i.outer i.names

  module _ (once : AreOnce es) (outer : ℕ) (names : Names es m scope (Simple source) outer) where
    same : (x : Imported) (i : IsImported es m means others scope source name x) → i.outer ≡ outer
    same x i = unique.one_named es m once scope (Simple source) i.outer outer i.names names

    pub no_module : module_in (meaning_at means outer) ≡ None → HasNoImport es m means others scope source name
    no_module h x i =
        let p : Some x.interface ≡ None = sym i.interface ∙ ap (λ z. module_in (meaning_at means z)) (same x i) ∙ h in
        absurd cc

    pub no_member : HasNone es (Some outer) name → HasNoImport es m means others scope source name
    no_member none x i = none i.number (subst (λ (z : ℕ). IsMember es (Some z) name i.number) (same x i) i.member)

    pub no_export : (number : ℕ) → IsMember es (Some outer) name number → meaning_at others number ≡ None → HasNoImport es m means others
        scope source name
    no_export number member h x i =
        let q : i.number ≡ number =
        once (Some outer) name i.number number (subst (λ (z : ℕ). IsMember es (Some z) name i.number) (same x i) i.member) member in
        let p : Some x.member ≡ None = sym i.exported ∙ ap (meaning_at others) q ∙ h in
        absurd cc

-- ---- one declaration more

import_kind : (own out : Bool) (d : Declared) (source : List ℕ) → d ≡ rows.Imported source → is_at 6 (kind_in own out d) ≡ true
import_kind own out d source p = ap (λ z. is_at 6 (kind_in own out z)) p

other_kind : (own out : Bool) (d : code.Declared) → ((source : Bor code_name.Name) → d ≡ declared.Imported source → ⊥)
    → is_at 6 (kind_in own out (view_declared d)) ≡ false
other_kind own out (declared.Imported source) n = absurd (n source refl)
other_kind true out (declared.Function f) n = refl
other_kind false out (declared.Function f) n = refl
other_kind own true (declared.Variable t e) n = refl
other_kind own false (declared.Variable t e) n = refl
other_kind own true (declared.Inferred e) n = refl
other_kind own false (declared.Inferred e) n = refl
other_kind own out _ n = refl

module _ (es : List Entry) (m : ℕ) (means others : List (Option Meaning)) where
  pub import_yes : (k : ℕ) (e : Entry) (source : List ℕ) (xs : List Imported) (x : Imported) → IsEntry es k e → e.row.means ≡
      rows.Imported source
      → IsImported es m means others e.within source e.row.name x → ImportsTo es m means others k xs
      → ImportsTo es m means others (k + 1) (xs ++ (x ∷ []))
  import_yes k e source xs x i p h listed =
      table_yes (has_kind es m 6) (IsImport es m means others) es k xs e x listed i
      (import_kind (is_own es m e.within) (is_outermost m e.within) e.row.means source p) (record { source = source; is = p; imported = h })

  pub import_no : (k : ℕ) (x : code_entry.Entry) (xs : List Imported) → IsEntry es k (view_entry x)
      → ((source : Bor code_name.Name) → x.row.declared ≡ declared.Imported source → ⊥)
      → ImportsTo es m means others k xs → ImportsTo es m means others (k + 1) xs
  import_no k x xs i n listed =
      table_no (has_kind es m 6) (IsImport es m means others) es k xs (view_entry x) listed i
      (other_kind (is_own es m x.within) (is_outermost m x.within) x.row.declared n)

  pub missing_at : (k n : ℕ) (e : Entry) (source : List ℕ) → fault.NotThere k ≡ fault.NotThere n → IsEntry es k e → e.row.means ≡
      rows.Imported source
      → HasNoImport es m means others e.within source e.row.name → IsMissing es m means others n
  missing_at k n e source p i q h =
      let s : k ≡ n = cc in
      subst (λ (z : ℕ). IsMissing es m means others z) s (record { entry = e; source = source; there = i; is = q; missing = h })

pub import_of : ImportOfNumber
import_of es m k n e means others xs are at h =
    let p = number_is es m k e kind.Import n h in
    let r = listed_at (has_kind es m 6) (IsImport es m means others) es xs k e are at p.0 in
    (r.0, ap (λ z. slice_get xs z) (sym p.1) ∙ r.1, r.2)
