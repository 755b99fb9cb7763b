-- Rows that declare a name twice.
use Rattle.std.proofs.Common.{◌≡◌, ℕ, List, Some, refl, sym, subst, ◌∙◌, arith}
use Rattle.std.specs.Prelude.{slice_get}
use Rattle.std.proofs.lemmas.Option.{same_Some}
use Rattle.limbo_declarations.specs.declared.row.Row as code_row
use Rattle.limbo_declarations.specs.Rows.{Row}
use Rattle.limbo_declarations.specs.Names.{names, IsAt, AreOnce}
use Rattle.limbo_declarations.specs.Names as told
use Rattle.limbo_declarations.specs.View.{rows_of, view_row}
use Rattle.limbo_entries.specs.Entries.{IsTwiceIn, IsAmong, HasTwice, IsAgain, inside}
use Rattle.limbo_entries.specs.Entries as entries
use Rattle.limbo_entries.proofs.Lists.{mapped, from_mapped}

abbrev name_in : code_row.Row → List ℕ
name_in r = r.name.now.text

pub again_in :
    (rows : List code_row.Row) (r : code_row.Row) → told.IsAgain rows r → (twice : IsTwiceIn (rows_of rows)) × (twice.other ≡ view_row r)
again_in rows r a =
    let f = from_mapped name_in rows a.repeated.before a.repeated.name a.repeated.and_there in
    let g : name_in r ≡ a.repeated.name =
    same_Some (name_in r) a.repeated.name (sym (mapped name_in rows a.place r a.there) ∙ a.repeated.there) in (
      record {
        i = a.repeated.before;
        j = a.place;
        one = view_row f.0;
        other = view_row r;
        before = a.repeated.is_before;
        there = mapped view_row rows a.repeated.before f.0 f.1;
        and_there = mapped view_row rows a.place r a.there;
        same = f.2 ∙ sym g;
      },
      refl,
    )

-- where each name is declared once, none is twice
pub not_twice : (rows : List code_row.Row) → AreOnce (names rows) → IsTwiceIn (rows_of rows) → ⊥
not_twice rows once t =
    let e : t.i ≡ t.j = once t.i t.j t.other.name (subst (λ (z : List ℕ). IsAt (names rows) t.i z) t.same
    (named t.i t.one t.there)) (named t.j t.other t.and_there) in
    let l = t.before in
    omega arith
  where
    named : (k : ℕ) (r : Row) → slice_get (rows_of rows) k ≡ Some r → IsAt (names rows) k r.name
    named k r h =
        let f = from_mapped view_row rows k r h in
        subst (λ (z : Row). IsAt (names rows) k z.name) f.2 (mapped name_in rows k f.0 f.1)

pub twice_of : (top : List Row) (r : Row) → IsAgain top r → HasTwice top
twice_of top r (entries.outermost t e) = entries.outermost t
twice_of top r (entries.inner o a t e) = entries.inner o a t
