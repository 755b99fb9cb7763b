-- A variant stands inside an adt.
use Rattle.std.proofs.Common.{◌≡◌, ◌<◌, ◌∷◌, [], ◌⊎◌, inl, inr, ℕ, zero, suc, List, Option, None, Some, Bool, true, false, length, get_or, refl, sym, ap, subst, ◌∙◌, arith}
use Rattle.std.specs.List.{Contains}
use Rattle.std.proofs.lemmas.List.Elements.{Contains-append_cases}
use Rattle.limbo_tree.specs.Exprs.{Expr}
use Rattle.limbo_tree.specs.Decls as decls
use Rattle.limbo_declarations.specs.Rows as rows
use Rattle.limbo_declarations.specs.Rows.{Row, Declared, each, counted, rows_of_member, rows_of_members, rows_of_fields}
use Rattle.limbo_entries.specs.Entries as entries
use Rattle.limbo_entries.specs.Entries.{Entry, IsEntry, IsTable, inside_of}
use Rattle.limbo_naming.specs.Naming.{is_adt, is_variant}

empty : (r : Row) → Contains [] r → ⊥
empty r h = let l = h.1 in absurd (omega arith)

first_or : (x r : Row) (xs : List Row) → Contains (x ∷ xs) r → (x ≡ r) ⊎ Contains xs r
first_or x r xs h = go h.0 h.1 h.2
  where
    go : (i : ℕ) → i < length (x ∷ xs) → get_or (x ∷ xs) i r ≡ r → (x ≡ r) ⊎ Contains xs r
    go zero l e = inl e
    go (suc i) l e = inr (i, omega arith, e)

in_each : (p : List ℕ) (ns : List (List ℕ)) (d : Declared) (r : Row) → Contains (each p ns d) r → is_variant d ≡ false → is_variant r.means ≡ false
in_each p [] d r h f = absurd (empty r h)
in_each p (n ∷ ns) d r h f = elim (first_or (record { path = p; name = n; means = d }) r (each p ns d) h) [
  | inl e ↦ sym (ap (λ (z : Row). is_variant z.means) e) ∙ f
  | inr c ↦ in_each p ns d r c f
]

in_counted : (p : List ℕ) (k : ℕ) (ns : List (List ℕ)) (e : Expr) (r : Row) → Contains (counted p k ns e) r → is_variant r.means ≡ false
in_counted p k [] e r h = absurd (empty r h)
in_counted p k (n ∷ ns) e r h = elim (first_or (record { path = p; name = n; means = rows.Constant e k }) r (counted p (suc k) ns e) h) [
  | inl x ↦ sym (ap (λ (z : Row). is_variant z.means) x)
  | inr c ↦ in_counted p (suc k) ns e r c
]

in_member : (p : List ℕ) (m : decls.Member) (r : Row) → Contains (rows_of_member p m) r → is_variant r.means ≡ false
in_member p (decls.VarMember ns t) r h = in_each p ns (rows.Variable t None) r h refl
in_member p (decls.FnMember ns f) r h = in_each p ns (rows.Function f) r h refl
in_member p (decls.ConMember ns e) r h = in_counted p 0 ns e r h
in_member p (decls.TypeMember ns t) r h = in_each p ns (rows.Alias t) r h refl
in_member p (decls.AdtMember n ms pick) r h = elim (first_or (record { path = p; name = n; means = rows.Adt ms pick }) r [] h) [
  | inl x ↦ sym (ap (λ (z : Row). is_variant z.means) x)
  | inr c ↦ absurd (empty r c)
]

in_members : (p : List ℕ) (ms : decls.Members) (r : Row) → Contains (rows_of_members p ms) r → is_variant r.means ≡ false
in_members p decls.NoMembers r h = absurd (empty r h)
in_members p (decls.MoreMembers m ms) r h = elim (Contains-append_cases (rows_of_member p m) (rows_of_members p ms) r h) [
  | inl a ↦ in_member p m r a
  | inr b ↦ in_members p ms r b
]

in_fields : (p : List ℕ) (fs : List decls.Field) (r : Row) → Contains (rows_of_fields p fs) r → is_variant r.means ≡ false
in_fields p [] r h = absurd (empty r h)
in_fields p (f ∷ fs) r h = elim (Contains-append_cases (each p f.names (rows.Variable f.of None)) (rows_of_fields p fs) r h) [
  | inl a ↦ in_each p f.names (rows.Variable f.of None) r a refl
  | inr b ↦ in_fields p fs r b
]

unlike : (b : Bool) → b ≡ true → b ≡ false → ⊥
unlike b x y = let z : true ≡ false = sym x ∙ y in absurd cc

of_adt : (p : List ℕ) (d : Declared) (r : Row) → Contains (inside_of p d) r → is_variant r.means ≡ true → is_adt d ≡ true
of_adt p (rows.Module ms) r h v = absurd (unlike (is_variant r.means) v (in_members p ms r h))
of_adt p (rows.Adt ms pick) r h v = refl
of_adt p (rows.Case fs) r h v = absurd (unlike (is_variant r.means) v (in_fields p fs r h))
of_adt p _ r h v = absurd (empty r h)

from : (top : List Row) (es : List Entry) (k a : ℕ) (w : Option ℕ) (r : Row) → entries.Stands top es k w r → w ≡ Some a
    → (o : Entry) × IsEntry es a o × Contains (entries.inside o.row) r
from top es k a _ _ (entries.at_top r h) e = absurd cc
from top es k a _ _ (entries.within_other j o r i l c) e = let p : j ≡ a = cc in (o, subst (λ (z : ℕ). IsEntry es z o) p i, c)

-- what a variant stands inside is an adt
pub outer_adt : (top : List Row) (es : List Entry) → IsTable top es → (k a : ℕ) (e o : Entry) → IsEntry es k e → is_variant e.row.means ≡ true → e.within ≡ Some a
    → IsEntry es a o → is_adt o.row.means ≡ true
outer_adt top es t k a e o i v w j =
    let x = from top es k a e.within e.row (t.only k e i) w in
    let y = x.1 in
    let p : x.0 ≡ o = cc in
    subst (λ (z : Entry). is_adt z.row.means ≡ true) p (of_adt x.0.row.path x.0.row.means e.row x.2 v)
