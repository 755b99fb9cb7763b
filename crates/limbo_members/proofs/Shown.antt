-- Rows that show the names of members.
use Rattle.std.proofs.Common.{◌≡◌, ◌<◌, ◌++◌, ◌∷◌, [], ℕ, zero, suc, List, Option, Some, length, take, refl, sym, ap, subst, ◌∙◌, arith}
use Rattle.std.specs.Prelude.{slice_get, slice_set, slice_index_or}
use Rattle.std.proofs.lemmas.Option.{slice_get_within}
use Rattle.limbo_scope.specs.declared.meaning.Meaning.{Meaning}
use Rattle.limbo_scope.specs.Scopes.{Scope, declared, entered}
use Rattle.limbo_scope.specs.Laws.{declared_all}
use Rattle.limbo_tree.specs.Decls as decls
use Rattle.limbo_context.specs.Context.{Context, Body}
use Rattle.limbo_locals.specs.limbo_local.Points.{Point}
use Rattle.limbo_locals.specs.limbo_local.Members.{changed, showing_adt, open_adt}
use Rattle.limbo_locals.specs.Anywhere.{at}
use Rattle.limbo_members.specs.Adding.{IsShown}
use Rattle.limbo_members.proofs.Kept.{changed_same, changed_there}

pub set_changed : {A : Type 0} (a : ℕ) (f : A → A) (xs : List A) (x y : A) → a < length xs → x ≡ slice_index_or xs a x → y ≡ f x
    → slice_set xs a y ≡ changed a f xs
set_changed a f [] x y l is eq = absurd (omega arith)
set_changed zero f (z ∷ zs) x y l is eq = ap (λ w. w ∷ zs) (eq ∙ ap f is)
set_changed (suc a) f (z ∷ zs) x y l is eq = ap (λ ws. z ∷ ws) (set_changed a f zs x y (omega arith) is eq)

first_alone : (ds : List (List ℕ × Meaning)) (ss : List Scope) → declared_all ds (take 1 ss) ≡ take 1 (declared_all ds ss)
first_alone [] ss = refl
first_alone (d ∷ ds) [] = first_alone ds []
first_alone (d ∷ ds) (s ∷ outer) = first_alone ds (declared d.0 d.1 (s ∷ outer))

changed_as : {A : Type 0} (a : ℕ) (f : A → A) (xs : List A) (x y : A) → slice_get xs a ≡ Some x → f x ≡ y
    → changed a f xs ≡ changed a (λ z. y) xs
changed_as a f [] x y h e = refl
changed_as zero f (z ∷ zs) x y h e = let i : z ≡ x = cc in ap (λ w. w ∷ zs) (ap f i ∙ e)
changed_as (suc a) f (z ∷ zs) x y h e = ap (λ ws. z ∷ ws) (changed_as a f zs x y h e)

pub shown_below : (rows : List (List Scope)) (a : ℕ) (row : List Scope) → slice_get rows a ≡ Some row → a < length rows
shown_below rows a row h = slice_get_within rows a row h

-- what is shown already
pub shown_stays : (a : ℕ) (c : Context) (b : Body) (n : ℕ) → IsShown a c b → at c b n ≡ showing_adt a (at c b n)
shown_stays a c b n h =
    ap (λ (rows : List (List Scope)). at (record c { members = rows }) b n) (sym (changed_same a (take 1 b.scopes) c.members h))

-- names that come behind those that a row shows, as they come in the innermost scope
module _ (a : ℕ) (was now : List (List Scope)) (ds : List (List ℕ × Meaning)) (old scopes : List Scope)
    (shown : slice_get was a ≡ Some (take 1 old)) (is : now ≡ changed a (declared_all ds) was) (later : scopes ≡ declared_all ds old) where
  pub row_changed : now ≡ changed a (λ row. take 1 scopes) was
  row_changed =
      is
      ∙ changed_as a (declared_all ds) was (take 1 old) (take 1 scopes) shown
      (first_alone ds old ∙ ap (λ (ss : List Scope). take 1 ss) (sym later))

  pub row_there : slice_get now a ≡ Some (take 1 scopes)
  row_there =
      ap (λ (zs : List (List Scope)). slice_get zs a) is
      ∙ changed_there a (declared_all ds) was (take 1 old) shown
      ∙ ap (λ (ss : List Scope). let r : Option (List Scope) = Some ss in r)
      (first_alone ds old ∙ ap (λ (ss : List Scope). take 1 ss) (sym later))

module _ (a : ℕ) (c : Context) (b : Body) (rows : List (List Scope)) (ds : List (List ℕ × Meaning)) (old : List Scope) where
  pub shown_on : slice_get c.members a ≡ Some (take 1 old) → rows ≡ changed a (declared_all ds) c.members → b.scopes ≡ declared_all ds old
      → (n : ℕ) → at (record c { members = rows }) b n ≡ showing_adt a (at c b n)
  shown_on h is s n =
      ap (λ (zs : List (List Scope)). at (record c { members = zs }) b n) (row_changed a c.members rows ds old b.scopes h is s)

  pub shown_next : slice_get c.members a ≡ Some (take 1 old) → rows ≡ changed a (declared_all ds) c.members → b.scopes ≡ declared_all ds old
      → IsShown a (record c { members = rows }) b
  shown_next h is s = row_there a c.members rows ds old b.scopes h is s

pub last_of : {A : Type 0} (xs : List A) (y : A) → slice_get (xs ++ y ∷ []) (length xs) ≡ Some y
last_of [] y = refl
last_of (x ∷ xs) y = last_of xs y

-- an adt that begins
pub opened_shown : (p q : Point) (n : List ℕ) (vs : List decls.Variant) (a : ℕ) → q ≡ open_adt n vs p → a ≡ length p.context.adts
    → length p.context.members ≡ length p.context.adts → slice_get q.context.members a ≡ Some (take 1 q.body.scopes)
opened_shown p q n vs a is number even =
    subst (λ (z : Point). slice_get z.context.members a ≡ Some (take 1 z.body.scopes)) (sym is)
    (ap (λ (i : ℕ). slice_get (p.context.members ++ entered [] ∷ []) i) (number ∙ sym even) ∙ last_of p.context.members (entered []))
