-- The row that a name finds.
use Rattle.std.proofs.Common.{◌≡◌, ◌<◌, ◌+◌, ℕ, zero, suc, List, [], ◌∷◌, length, map, get_or, Option, Some, None, IfSome, refl, sym, ap, subst, ◌∙◌, arith}
use Rattle.std.specs.Prelude.{slice_get, slice_index_or}
use Rattle.std.specs.Ordering.{nat_cmp}
use Rattle.std.specs.Cmp.Lexicographic.{slice_cmp}
use Rattle.std.specs.BTreeMap.{BTreeMap, get_by}
use Rattle.std.specs.List.{Contains}
use Rattle.std.proofs.lemmas.Option.{slice_get_within}
use Rattle.std.proofs.lemmas.List.{length-map}
use Rattle.limbo_declarations.specs.declared.row.Row as code_row
use Rattle.limbo_declarations.specs.Rows as told
use Rattle.limbo_declarations.specs.View.{rows_of, view_row}
use Rattle.limbo_declarations.specs.Names.{names, IsAt, AreOnce, IsIndex}
use Rattle.limbo_declarations.proofs.Indexes.{once}

pub within : (rows : List code_row.Row) (k : ℕ) (n : List ℕ) → IsAt (names rows) k n → k < length rows
within rows k n h =
    let l = slice_get_within (names rows) k n h in
    let m : length (names rows) ≡ length rows = length-map rows (λ r. r.name.now.text) in
    omega arith

pub contains_at : (rows : List code_row.Row) (k : ℕ) (r : code_row.Row) → k < length rows → r ≡ slice_index_or rows k r → Contains (rows_of rows) (view_row r)
contains_at [] k r l e = absurd (omega arith)
contains_at (x ∷ rows) zero r l e = (zero, omega arith, ap view_row (sym e))
contains_at (x ∷ rows) (suc k) r l e = let c = contains_at rows k r (omega arith) e in (suc c.0, omega arith, c.2)

name_at : (rows : List code_row.Row) (k : ℕ) (r : code_row.Row) → k < length rows → r ≡ slice_index_or rows k r → IsAt (names rows) k r.name.now.text
name_at [] k r l e = absurd (omega arith)
name_at (x ∷ rows) zero r l e = ap (λ (z : code_row.Row). Some z.name.now.text) (sym e)
name_at (x ∷ rows) (suc k) r l e = name_at rows k r (omega arith) e

pub has_name : (rows : List code_row.Row) (k : ℕ) (r : code_row.Row) (n : List ℕ) → k < length rows → r ≡ slice_index_or rows k r → IsAt (names rows) k n → r.name.now.text ≡ n
has_name rows k r n l e h = let g = name_at rows k r l e in cc

-- where a row stands, its name stands
row_named : (rows : List code_row.Row) (s : told.Row) → Contains (rows_of rows) s → (k : ℕ) × IsAt (names rows) k s.name × (k < length rows) × (s ≡ slice_index_or (rows_of rows) k s)
row_named [] s c = absurd (let l = c.1 in omega arith)
row_named (x ∷ rows) s (zero, l, e) = (zero, ap (λ (z : told.Row). Some z.name) e, omega arith, sym e)
row_named (x ∷ rows) s (suc k, l, e) = let r = row_named rows s (k, omega arith, e) in (suc r.0, r.1, omega arith, r.3)

view_at : (rows : List code_row.Row) (k : ℕ) (r : code_row.Row) (s : told.Row) → k < length rows → r ≡ slice_index_or rows k r → slice_index_or (rows_of rows) k s ≡ view_row r
view_at [] k r s l e = absurd (omega arith)
view_at (x ∷ rows) zero r s l e = ap view_row (sym e)
view_at (x ∷ rows) (suc k) r s l e = view_at rows k r s (omega arith) e

-- a row of the name is the one that stands where the name is found
pub only : (rows : List code_row.Row) (k : ℕ) (r : code_row.Row) (n : List ℕ) → AreOnce (names rows) → k < length rows → r ≡ slice_index_or rows k r → IsAt (names rows) k n → (s : told.Row) → Contains (rows_of rows) s → s.name ≡ n → s ≡ view_row r
only rows k r n o l e h s c f =
    let g = row_named rows s c in
    let i : IsAt (names rows) g.0 n = subst (λ (z : List ℕ). IsAt (names rows) g.0 z) f g.1 in
    let j : g.0 ≡ k = o g.0 k n i h in
    g.3 ∙ ap (λ m. slice_index_or (rows_of rows) m s) j ∙ view_at rows k r s l e

pub absent : (rows : List code_row.Row) (n : List ℕ) → ((k : ℕ) → IsAt (names rows) k n → ⊥) → (s : told.Row) → Contains (rows_of rows) s → s.name ≡ n → ⊥
absent rows n h s c f = let g = row_named rows s c in h g.0 (subst (λ (z : List ℕ). IsAt (names rows) g.0 z) f g.1)

pub index_within : (o : Option ℕ) (index : BTreeMap (List ℕ) ℕ) (rows : List code_row.Row) (n : List ℕ) → IsIndex index (names rows) → o ≡ get_by (slice_cmp nat_cmp n) index → IfSome o (λ k. k < length rows)
index_within None index rows n h e = tt
index_within (Some k) index rows n h e = within rows k n ((h n k).0 (sym e))
