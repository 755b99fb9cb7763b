-- Rows of adts are told by what they stand for.
use Rattle.std.proofs.Common.{◌≡◌, ℕ, List, [], ◌∷◌, map, Option, option_map, refl, ap}
use Rattle.std.specs.Borrow.{Bor}
use Rattle.limbo_tree.specs.declared.decl.Member as code_member
use Rattle.limbo_tree.specs.declared.decl.Variant as code_variant
use Rattle.limbo_tree.specs.Decls.{Members, Variant}
use Rattle.limbo_tree.specs.View.{view_member, view_members, view_variant, members_of}
use Rattle.limbo_declarations.specs.declared.row.Row as code_row
use Rattle.limbo_declarations.specs.declared.row.Declared.{Declared}
use Rattle.limbo_declarations.specs.declared.row.Declared.TheVariants as code
use Rattle.limbo_declarations.specs.Rows.{Row, Adt}
use Rattle.limbo_declarations.specs.View.{view_declared, view_row}
use Rattle.limbo_defined.specs.Defined.{IsNested}
use Rattle.limbo_defined.proofs.Holding.{only_one, adt_row}

is_adt :
    (d : Declared) (ms : Members) (pick : Option (List Variant)) → view_declared d ≡ Adt ms pick
    → (x : Bor (List code_member.Member)) × (p : Option (Bor (List code_variant.Variant))) × (d ≡ code.Adt x p)
is_adt (code.Adt x p) ms pick e = (x, p, refl)
is_adt (code.Module x) ms pick e = absurd cc
is_adt (code.Constant x k) ms pick e = absurd cc
is_adt (code.Alias x) ms pick e = absurd cc
is_adt (code.Variable x v) ms pick e = absurd cc
is_adt (code.Inferred x) ms pick e = absurd cc
is_adt (code.Imported x) ms pick e = absurd cc
is_adt (code.Exception x) ms pick e = absurd cc
is_adt (code.Function x) ms pick e = absurd cc
is_adt (code.Case x) ms pick e = absurd cc

-- the row of an adt
pub row_is :
    (r : code_row.Row) (ms : Bor (List code_member.Member)) (pick : Option (Bor (List code_variant.Variant)))
    → r.declared ≡ code.Adt ms pick
    → view_row r ∷ [] ≡ adt_row r.path.now r.name.now.text (members_of (map view_member ms.now))
    (option_map (λ vs. map view_variant vs.now) pick)
unfolding view_members
row_is r ms pick e = ap (λ (d : Declared). let x : Row = record { path = r.path.now; name = r.name.now.text; means = view_declared d } in
    x ∷ []) e

pub no_nested :
    (r : code_row.Row) → ((x : Bor (List code_member.Member)) (p : Option (Bor (List code_variant.Variant))) → r.declared ≡ code.Adt x p
    → ⊥)
    → (path name : List ℕ) → IsNested (view_row r ∷ []) path name → ⊥
no_nested r f path name h =
    let y : Row = record { path = path; name = h.adt; means = Adt h.members h.has_adt.pick } in
    let e : view_row r ≡ y = only_one (view_row r) y h.has_adt.there in
    let a = is_adt r.declared h.members h.has_adt.pick (ap (λ (z : Row). z.means) e) in
    f a.0 a.1 a.2
