-- Rows of exports that show the names of members.
use Rattle.std.proofs.Common.{◌≡◌, ◌<◌, ◌+◌, ◌++◌, ◌∷◌, [], ℕ, List, Some, length, take, sym, ap, subst, ◌∙◌, arith}
use Rattle.std.specs.Prelude.{slice_get}
use Rattle.limbo_scope.specs.declared.meaning.Meaning.{Meaning}
use Rattle.limbo_scope.specs.Scopes.{Scope, entered}
use Rattle.limbo_scope.specs.Laws.{declared_all}
use Rattle.limbo_typed.specs.Typed.{Interface}
use Rattle.limbo_context.specs.Context.{Context, Body}
use Rattle.limbo_locals.specs.limbo_local.Points.{Point}
use Rattle.limbo_locals.specs.limbo_local.Members.{changed, showing_module, open_module}
use Rattle.limbo_locals.specs.Anywhere.{at}
use Rattle.limbo_members.proofs.Kept.{changed_same, one_longer}
use Rattle.limbo_members.proofs.Shown.{shown_below, row_changed, row_there, last_of}
use Rattle.limbo_interfaces.specs.Modules.{IsBegun}

-- what is shown already
pub shown_stays : (i : ℕ) (c : Context) (b : Body) (n : ℕ) → IsBegun i c b → at c b n ≡ showing_module i (at c b n)
shown_stays i c b n h =
    ap (λ (rows : List (List Scope)). at (record c { exports = rows }) b n) (sym (changed_same i (take 1 b.scopes) c.exports h.shown))

-- names that come behind those of a module which is begun
module _ (i : ℕ) (c : Context) (b : Body) (d : Context) (f : Body) (begun : IsBegun i c b) (exports : d.exports ≡ c.exports) where
  still_shown : slice_get d.exports i ≡ Some (take 1 b.scopes)
  still_shown = ap (λ (rows : List (List Scope)). slice_get rows i) exports ∙ begun.shown

  pub row_below : i < length d.exports
  row_below = shown_below d.exports i (take 1 b.scopes) still_shown

  module _ (ds : List (List ℕ × Meaning)) (rows : List (List Scope)) (is : rows ≡ changed i (declared_all ds) d.exports)
      (later : f.scopes ≡ declared_all ds b.scopes) where
    pub added_shown : (n : ℕ) → at (record d { exports = rows }) f n ≡ showing_module i (at d f n)
    added_shown n =
        ap (λ (zs : List (List Scope)). at (record d { exports = zs }) f n)
        (row_changed i d.exports rows ds b.scopes f.scopes still_shown is later)

    pub added_begun : length d.interfaces ≡ length c.interfaces → IsBegun i (record d { exports = rows }) f
    added_begun many = record {
      there = subst (λ (n : ℕ). i < n) (sym many) begun.there;
      shown = row_there i d.exports rows ds b.scopes f.scopes still_shown is later;
    }

-- a module that begins
pub opened_begun : (p q : Point) (n : List ℕ) (i : ℕ) → q ≡ open_module n p → i ≡ length p.context.interfaces
    → length p.context.exports ≡ length p.context.interfaces → IsBegun i q.context q.body
opened_begun p q n i is number even =
    let first : Interface = record { name = n; functions = [] } in
    let more : length (p.context.interfaces ++ first ∷ []) ≡ length p.context.interfaces + 1 = one_longer p.context.interfaces first in
    let place : i ≡ length p.context.interfaces = number in
    subst (λ (z : Point). IsBegun i z.context z.body) (sym is)
    (record {
      there = omega arith;
      shown =
          ap (λ (j : ℕ). slice_get (p.context.exports ++ entered [] ∷ []) j) (number ∙ sym even)
          ∙ last_of p.context.exports (entered []);
    })
