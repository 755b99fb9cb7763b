-- Names that are imported, the first so many.
use Rattle.std.proofs.Common.{◌≡◌, ◌<◌, ◌≤◌, ◌+◌, ◌++◌, ◌∷◌, [], ℕ, zero, suc, List, None, length, get_or}
use Rattle.std.proofs.Common.{sym, ap, subst, ◌∙◌}
use Rattle.limbo_tree.specs.declared.name.Name as code_name
use Rattle.limbo_tree.specs.View.{names_of}
use Rattle.limbo_declarations.specs.Names.{IsAt}
use Rattle.limbo_context.specs.declared.context.Imported.{Imported}
use Rattle.limbo_context.specs.declared.context.Origin.{Origin}
use Rattle.limbo_context.specs.Context.{Context, named_in}
use Rattle.limbo_local.specs.Local.{IsImported, AreImported}
use Rattle.limbo_local.specs.Failing.{HasNoMember}
use Rattle.limbo_local.specs.Failing as failing
use Rattle.limbo_locals.proofs.Freed.{name_at}
use Rattle.limbo_locals.proofs.Pushed.{first, one_first, all_first}

module _ (c : Context) (from : Origin) (i : ℕ) where
  imported_more : (ns : List (List ℕ)) (xs : List Imported) (n : List ℕ) (x : Imported) → AreImported c from i ns xs
      → IsImported c from i n x → AreImported c from i (ns ++ n ∷ []) (xs ++ x ∷ [])
  imported_more [] [] n x h one = (one, tt)
  imported_more [] (y ∷ ys) n x h one = absurd h
  imported_more (m ∷ ms) [] n x h one = absurd h
  imported_more (m ∷ ms) (y ∷ ys) n x h one = (h.0, imported_more ms ys n x h.1 one)

  pub imported_on : (names : List code_name.Name) (k : ℕ) (name : code_name.Name) (x : Imported) (now later : List Imported)
      → later ≡ now ++ x ∷ [] → name ≡ get_or names k name → k < length names → IsImported c from i name.text x
      → AreImported c from i (first k names) now → AreImported c from i (first (k + 1) names) later
  imported_on names k name x now later p is l one h =
      subst (λ (zs : List Imported). AreImported c from i (first (k + 1) names) zs) (sym p)
      (subst (λ (ns : List (List ℕ)). AreImported c from i ns (now ++ x ∷ [])) (sym (one_first names k name is l))
      (imported_more (first k names) now name.text x h one))

  pub imported_all : (names : List code_name.Name) (k : ℕ) (xs : List Imported) → length names ≤ k
      → AreImported c from i (first k names) xs → AreImported c from i (names_of names) xs
  imported_all names k xs l h = subst (λ (ns : List (List ℕ)). AreImported c from i ns xs) (all_first names k l) h

lacks : (c : Context) (i : ℕ) (ns : List (List ℕ)) (k : ℕ) (n : List ℕ) → IsAt ns k n → named_in c.exports i n ≡ None → HasNoMember c i ns
lacks c i [] k n at none = absurd cc
lacks c i (m ∷ ms) zero n at none =
    let e : m ≡ n = cc in failing.this_member m ms (ap (λ (z : List ℕ). named_in c.exports i z) e ∙ none)
lacks c i (m ∷ ms) (suc k) n at none = failing.later_member m ms (lacks c i ms k n at none)

pub lacks_member : (c : Context) (i : ℕ) (names : List code_name.Name) (k : ℕ) (name : code_name.Name) → name ≡ get_or names k name
    → k < length names → named_in c.exports i name.text ≡ None → HasNoMember c i (names_of names)
lacks_member c i names k name is l none = lacks c i (names_of names) k name.text (name_at names k name is l) none
