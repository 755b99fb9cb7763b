-- A source has one top level at most.
use Rattle.std.proofs.Common.{◌≡◌, ◌<◌, ◌+◌, ℕ, zero, suc, List, [], ◌∷◌, ◌++◌, length, map, Some, None, refl, sym, ap, subst, ◌∙◌, arith}
use Rattle.std.specs.Prelude.{slice_get, slice_index_or}
use Rattle.std.specs.List.{Contains}
use Rattle.std.proofs.lemmas.List.{map-append}
use Rattle.limbo_declarations.specs.declared.row.Row as code_row
use Rattle.limbo_declarations.specs.Names.{names, IsAt, AreOnce}
use Rattle.limbo_tree.specs.Decls.{Members}
use Rattle.limbo_declarations.specs.Rows.{Row, Module, rows_of_members}
use Rattle.limbo_declarations.specs.View.{rows_of}
use Rattle.limbo_declarations.proofs.Apart.{front_once}
use Rattle.limbo_top.specs.Tops.{Placed, Definition, declared, definitions, DeclaresModule, HasFunction, Alone, none_left, of_adt, of_module, by_itself, row_of}
use Rattle.limbo_top.specs.TopLevel.{row_names, IsTopLevel}

pub names_view : (rs : List code_row.Row) → names rs ≡ row_names (rows_of rs)
names_view [] = refl
names_view (r ∷ rs) = ap (λ ns. r.name.now.text ∷ ns) (names_view rs)

at_right : (ns ms : List (List ℕ)) (k : ℕ) (q : List ℕ) → IsAt ms k q → IsAt (ns ++ ms) (length ns + k) q
at_right [] ms k q h = let e : 0 + k ≡ k = omega arith in rw e h
at_right (x ∷ ns) ms k q h = let e : suc (length ns) + k ≡ suc (length ns + k) = omega arith in rw e (at_right ns ms k q h)

-- what is once is so behind
pub back_once : (ns ms : List (List ℕ)) → AreOnce (ns ++ ms) → AreOnce ms
back_once ns ms h i j n f g = let e = h (length ns + i) (length ns + j) n (at_right ns ms i n f) (at_right ns ms j n g) in omega arith

name_stands : (rs : List Row) (a : Row) (k : ℕ) → k < length rs → slice_index_or rs k a ≡ a → IsAt (row_names rs) k a.name
name_stands [] a k l e = absurd (omega arith)
name_stands (r ∷ rs) a zero l e = ap (λ (z : Row). Some z.name) e
name_stands (r ∷ rs) a (suc k) l e = name_stands rs a k (omega arith) e

same_place : (rs : List Row) (a b : Row) (k : ℕ) → k < length rs → slice_index_or rs k a ≡ a → slice_index_or rs k b ≡ b → a ≡ b
same_place [] a b k l e f = absurd (omega arith)
same_place (r ∷ rs) a b zero l e f = sym e ∙ f
same_place (r ∷ rs) a b (suc k) l e f = same_place rs a b k (omega arith) e f

-- two rows of one name are one
pub one_row : (rs : List Row) (a b : Row) → AreOnce (row_names rs) → Contains rs a → Contains rs b → b.name ≡ a.name → a ≡ b
one_row rs a b o c d e =
    let g : IsAt (row_names rs) d.0 a.name = subst (λ (n : List ℕ). IsAt (row_names rs) d.0 n) e (name_stands rs b d.0 d.1 d.2) in
    let i : d.0 ≡ c.0 = o d.0 c.0 a.name g (name_stands rs a c.0 c.1 c.2) in
    same_place rs a b c.0 c.1 c.2 (subst (λ (k : ℕ). slice_index_or rs k b ≡ b) i d.2)

none_alone : (members : List Row) (ds : List Definition) (rs : List Row) → Alone members ds rs → ds ≡ [] → rs ≡ []
none_alone members _ _ none_left e = refl
none_alone members _ _ (of_adt d f ds rs p h) e = absurd cc
none_alone members _ _ (of_module d ds rs p g h) e = absurd cc
none_alone members _ _ (by_itself d ds rs p g h) e = absurd cc

from_adt :
    (members : List Row) (es : List Definition) (b : List Row) → Alone members es b → (d : Definition) (ds : List Definition) (f : List ℕ)
    → es ≡ d ∷ ds → d.part ≡ Some f → Alone members ds b
from_adt members _ _ none_left d ds f e p = absurd cc
from_adt members _ _ (of_adt x g xs rs q h) d ds f e p = let t : xs ≡ ds = cc in subst (λ (z : List Definition). Alone members z rs) t h
from_adt members _ _ (of_module x xs rs q g h) d ds f e p = absurd (let t : x ≡ d = cc in let u : d.part ≡ None = subst (λ (z : Definition). z.part ≡ None) t q in cc)
from_adt members _ _ (by_itself x xs rs q g h) d ds f e p = absurd (let t : x ≡ d = cc in let u : d.part ≡ None = subst (λ (z : Definition). z.part ≡ None) t q in cc)

from_module :
    (members : List Row) (es : List Definition) (b : List Row) → Alone members es b → (d : Definition) (ds : List Definition)
    → es ≡ d ∷ ds → d.part ≡ None → HasFunction members d.name → Alone members ds b
from_module members _ _ none_left d ds e p k = absurd cc
from_module members _ _ (of_adt x g xs rs q h) d ds e p k = absurd (let t : x ≡ d = cc in let u : d.part ≡ Some g = subst (λ (z : Definition). z.part ≡ Some g) t q in cc)
from_module members _ _ (of_module x xs rs q g h) d ds e p k = let t : xs ≡ ds = cc in subst (λ (z : List Definition). Alone members z rs) t h
from_module members _ _ (by_itself x xs rs q g h) d ds e p k = let t : x ≡ d = cc in absurd (g (subst (λ (z : Definition). HasFunction members z.name) (sym t) k))

from_itself :
    (members : List Row) (es : List Definition) (b : List Row) → Alone members es b → (d : Definition) (ds : List Definition)
    → es ≡ d ∷ ds → d.part ≡ None → (HasFunction members d.name → ⊥) → (rs : List Row) × Alone members ds rs × (b ≡ row_of d ∷ rs)
from_itself members _ _ none_left d ds e p k = absurd cc
from_itself members _ _ (of_adt x g xs rs q h) d ds e p k = absurd (let t : x ≡ d = cc in let u : d.part ≡ Some g = subst (λ (z : Definition). z.part ≡ Some g) t q in cc)
from_itself members _ _ (of_module x xs rs q g h) d ds e p k = let t : x ≡ d = cc in absurd (k (subst (λ (z : Definition). HasFunction members z.name) t g))
from_itself members _ _ (by_itself x xs rs q g h) d ds e p k =
    let t : x ≡ d = cc in
    let u : xs ≡ ds = cc in
    (rs, subst (λ (z : List Definition). Alone members z rs) u h, ap (λ (z : Definition). row_of z ∷ rs) t)

-- which functions declare themselves
pub alone_only : (members : List Row) (ds : List Definition) (a b : List Row) → Alone members ds a → Alone members ds b → a ≡ b
alone_only members _ _ b none_left k = sym (none_alone members [] b k refl)
alone_only members _ _ b (of_adt d f ds rs p h) k = alone_only members ds rs b h (from_adt members (d ∷ ds) b k d ds f refl p)
alone_only members _ _ b (of_module d ds rs p g h) k = alone_only members ds rs b h (from_module members (d ∷ ds) b k d ds refl p g)
alone_only members _ _ b (by_itself d ds rs p g h) k =
    let i = from_itself members (d ∷ ds) b k d ds refl p g in
    ap (λ xs. row_of d ∷ xs) (alone_only members ds rs i.0 h i.1) ∙ sym i.2

abbrev module_row : (name path : List ℕ) → Members → Row
module_row name path ms = record { path = path; name = name; means = Module ms }

abbrev parts : List Row → List Row → List Row → List Row
parts ds ms zs = ds ++ ms ++ zs

names_of-parts : (ds ms zs : List Row) → row_names (parts ds ms zs) ≡ (row_names ds ++ row_names ms) ++ row_names zs
names_of-parts ds ms zs = map-append (λ (r : Row). r.name) (ds ++ ms) zs ∙ ap (λ ns. ns ++ row_names zs) (map-append (λ (r : Row). r.name) ds ms)

module _ (implements : List ℕ) (tops : List Placed) (rows : List Row) (top : IsTopLevel implements tops rows) where
  whole : AreOnce ((row_names (declared tops) ++ row_names (rows_of_members top.path top.members)) ++ row_names top.alone)
  whole =
      subst (λ (ns : List (List ℕ)). AreOnce ns) (names_of-parts (declared tops) (rows_of_members top.path top.members) top.alone)
      (subst (λ (rs : List Row). AreOnce (row_names rs)) top.rows_are top.once)

  two : AreOnce (row_names (declared tops) ++ row_names (rows_of_members top.path top.members))
  two = front_once (row_names (declared tops) ++ row_names (rows_of_members top.path top.members)) (row_names top.alone) whole

  -- what is declared is so once
  pub declared_once : AreOnce (row_names (declared tops))
  declared_once = front_once (row_names (declared tops)) (row_names (rows_of_members top.path top.members)) two

  -- the module that a source implements is the one that is found
  pub same_module : (path : List ℕ) (members : Members) → DeclaresModule (declared tops) implements path members → (top.path ≡ path) × (top.members ≡ members)
  same_module path members h =
      let e = one_row (declared tops) (module_row implements top.path top.members) (module_row implements path members) declared_once top.is_module h refl in
      (ap (λ (r : Row). r.path) e, let g : Module top.members ≡ Module members = ap (λ (r : Row). r.means) e in cc)

  pub members_once : (path : List ℕ) (members : Members) → DeclaresModule (declared tops) implements path members → AreOnce (row_names (rows_of_members path members))
  members_once path members h =
      let s = same_module path members h in
      let m = back_once (row_names (declared tops)) (row_names (rows_of_members top.path top.members)) two in
      subst (λ (p : List ℕ). AreOnce (row_names (rows_of_members p members))) s.0 (subst (λ (ms : Members). AreOnce (row_names (rows_of_members top.path ms))) s.1 m)

  pub all_once :
      (path : List ℕ) (members : Members) (alone : List Row) → DeclaresModule (declared tops) implements path members
      → Alone (rows_of_members path members) (definitions tops) alone → AreOnce (row_names (declared tops ++ rows_of_members path members ++ alone))
  all_once path members alone h a =
      let s = same_module path members h in
      let k : Alone (rows_of_members path members) (definitions tops) top.alone =
      subst (λ (p : List ℕ). Alone (rows_of_members p members) (definitions tops) top.alone) s.0
      (subst (λ (ms : Members). Alone (rows_of_members top.path ms) (definitions tops) top.alone) s.1 top.are_alone) in
      let e : top.alone ≡ alone = alone_only (rows_of_members path members) (definitions tops) top.alone alone k a in
      let w : AreOnce (row_names (declared tops ++ rows_of_members top.path top.members ++ top.alone)) = subst (λ (rs : List Row). AreOnce (row_names rs)) top.rows_are top.once in
      subst (λ (zs : List Row). AreOnce (row_names (declared tops ++ rows_of_members path members ++ zs))) e
      (subst (λ (p : List ℕ). AreOnce (row_names (declared tops ++ rows_of_members p members ++ top.alone))) s.0
      (subst (λ (ms : Members). AreOnce (row_names (declared tops ++ rows_of_members top.path ms ++ top.alone))) s.1 w))
