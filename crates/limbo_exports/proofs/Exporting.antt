-- What declarations mean to others, one after the other, and functions that are counted.
use Rattle.std.proofs.Common.{◌≡◌, ◌<◌, ◌+◌, ◌++◌, ◌∷◌, [], ℕ, true, false, List, Option, Some, length, take, slice_get, refl, sym, ap}
use Rattle.std.proofs.Common.{subst, ◌∙◌}
use Rattle.limbo_scope.specs.declared.meaning.Meaning.{Meaning}
use Rattle.limbo_entries.specs.Entries.{Entry, IsEntry}
use Rattle.limbo_meanings.proofs.Counting.{count_yes, count_no}
use Rattle.limbo_exports.specs.Exports.{export_by, is_called, many_called}
use Rattle.limbo_exports.proofs.Lists.{appended, one_there}

pub exported : (es : List Entry) (system : Option ℕ) (means all : List (Option Meaning)) (i : ℕ) (e : Entry) (x y : Option Meaning) →
    length all ≡ i
    → IsEntry es i e → slice_get means i ≡ Some x → y ≡ export_by es system i e x
    → ((k : ℕ) (f : Entry) (z : Option Meaning) → k < i → IsEntry es k f → slice_get means k ≡ Some z → slice_get all k ≡ Some (export_by
    es system k f z))
    → (k : ℕ) (f : Entry) (z : Option Meaning) → k < i + 1 → IsEntry es k f → slice_get means k ≡ Some z
    → slice_get (all ++ (y ∷ [])) k ≡ Some (export_by es system k f z)
exported es system means all i e x y many at is told before k f z l there known =
    appended all i y (export_by es system k f z) k many l (λ h. before k f z h there known) (λ h. last h)
  where
    last : k ≡ i → y ≡ export_by es system k f z
    last h =
        let p : e ≡ f = one_there es i k e f at there h in
        let q : x ≡ z = one_there means i k x z is known h in
        told ∙ ap (λ (u : Entry). export_by es system i u x) p ∙ ap (export_by es system i f) q ∙ ap (λ u. export_by es system u f z) (sym
        h)

module _ (system scope : Option ℕ) (es : List Entry) (i n : ℕ) (e : Entry) (more : take (i + 1) es ≡ take i es ++ (e ∷ [])) (so_far : n ≡
    many_called system scope (take i es)) where
  pub called_yes : is_called system scope e ≡ true → n + 1 ≡ many_called system scope (take (i + 1) es)
  called_yes t =
      ap (λ z. z + 1) so_far ∙ sym (count_yes (is_called system scope) (take i es) e t) ∙ ap (many_called system scope) (sym more)

  pub called_no : is_called system scope e ≡ false → n ≡ many_called system scope (take (i + 1) es)
  called_no t = so_far ∙ sym (count_no (is_called system scope) (take i es) e t) ∙ ap (many_called system scope) (sym more)
