-- In a circle of declarations that need one another for their types stands a name by `type`: what is imported is a member of a module, and
-- no member is imported itself.
use Rattle.std.proofs.Common.{◌≡◌, ℕ, zero, suc, arith, true, List, [], ◌∷◌, Option, None, Some, ◌⊎◌, inl, inr, refl, sym, ap, subst, ◌∙◌}
use Rattle.std.specs.Prelude.{slice_get}
use Rattle.std.specs.List.{Contains}
use Rattle.std.proofs.lemmas.List.Elements.{Contains-append_cases}
use Rattle.limbo_tree.specs.Types as tree
use Rattle.limbo_tree.specs.Exprs.{Expr}
use Rattle.limbo_tree.specs.Decls.{Member, Members, NoMembers, MoreMembers, VarMember, FnMember, ConMember, TypeMember, AdtMember}
use Rattle.limbo_declarations.specs.Rows as rows
use Rattle.limbo_declarations.specs.Rows.{Row, Declared, each, counted, rows_of_member, rows_of_members}
use Rattle.limbo_entries.specs.Entries.{Entry, IsEntry, IsTable, Stands, at_top, within_other, inside, inside_of}
use Rattle.limbo_naming.specs.Naming.{is_module, IsMemberOf}
use Rattle.limbo_naming.specs.Qualified.{Qualified, Simple}
use Rattle.limbo_naming.specs.Qualified as qualified
use Rattle.limbo_naming.specs.Direct.{IsDeclared}
use Rattle.limbo_naming.specs.Direct as direct
use Rattle.limbo_type_names.specs.Needs.{NeedsType, of_type, of_import, NeedsThrough, at_once, and_on, IsCircular}

-- ---- what is imported is no member

abbrev IsImport : Declared → Type 0
IsImport d = (source : List ℕ) × (d ≡ rows.Imported source)

-- no row is of an imported name
abbrev NoneImported : List Row → Type 0
NoneImported rs = (r : Row) → Contains rs r → IsImport r.means → ⊥

only : {A : Type 0} (x y : A) → Contains (y ∷ []) x → y ≡ x
only x y (zero, l, e) = e
only x y (suc k, l, e) = absurd (omega (arith, l))

none_each : (p : List ℕ) (ns : List (List ℕ)) (d : Declared) → (IsImport d → ⊥) → NoneImported (each p ns d)
none_each p [] d none r (k, l, e) is = absurd (omega (arith, l))
none_each p (n ∷ ns) d none r h is = elim (Contains-append_cases (record { path = p; name = n; means = d } ∷ []) (each p ns d) r h) [
  | inl c ↦
      let same : d ≡ r.means = ap (λ (z : Row). z.means) (only r (record { path = p; name = n; means = d }) c) in
      none (is.0, same ∙ is.1)
  | inr c ↦ none_each p ns d none r c is
]

none_counted : (p : List ℕ) (k : ℕ) (ns : List (List ℕ)) (x : Expr) → NoneImported (counted p k ns x)
none_counted p k [] x r (i, l, e) is = absurd (omega (arith, l))
none_counted p k (n ∷ ns) x r h is =
    elim (Contains-append_cases (record { path = p; name = n; means = rows.Constant x k } ∷ []) (counted p (suc k) ns x) r h) [
      | inl c ↦
          let same : rows.Constant x k ≡ r.means =
          ap (λ (z : Row). z.means) (only r (record { path = p; name = n; means = rows.Constant x k }) c) in
          absurd (let bad : rows.Constant x k ≡ rows.Imported is.0 = same ∙ is.1 in cc)
      | inr c ↦ none_counted p (suc k) ns x r c is
    ]

none_member : (p : List ℕ) (x : Member) → NoneImported (rows_of_member p x)
none_member p (VarMember ns t) = none_each p ns (rows.Variable t None) (λ h. absurd (let e = h.1 in cc))
none_member p (FnMember ns f) = none_each p ns (rows.Function f) (λ h. absurd (let e = h.1 in cc))
none_member p (ConMember ns e) = none_counted p 0 ns e
none_member p (TypeMember ns t) = none_each p ns (rows.Alias t) (λ h. absurd (let e = h.1 in cc))
none_member p (AdtMember n ms pick) = λ r h is.
    let same : rows.Adt ms pick ≡ r.means =
    ap (λ (z : Row). z.means) (only r (record { path = p; name = n; means = rows.Adt ms pick }) h) in
    absurd (let bad : rows.Adt ms pick ≡ rows.Imported is.0 = same ∙ is.1 in cc)

none_members : (p : List ℕ) (ms : Members) → NoneImported (rows_of_members p ms)
none_members p NoMembers r (k, l, e) is = absurd (omega (arith, l))
none_members p (MoreMembers x ms) r h is = elim (Contains-append_cases (rows_of_member p x) (rows_of_members p ms) r h) [
  | inl c ↦ none_member p x r c is
  | inr c ↦ none_members p ms r c is
]

none_inside : (p : List ℕ) (d : Declared) → is_module d ≡ true → NoneImported (inside_of p d)
none_inside p (rows.Module ms) h = none_members p ms
none_inside p (rows.Constant x i) h = absurd cc
none_inside p (rows.Alias t) h = absurd cc
none_inside p (rows.Variable t v) h = absurd cc
none_inside p (rows.Inferred x) h = absurd cc
none_inside p (rows.Imported s) h = absurd cc
none_inside p (rows.Exception ts) h = absurd cc
none_inside p (rows.Adt ms pick) h = absurd cc
none_inside p (rows.Function f) h = absurd cc
none_inside p (rows.Case fs) h = absurd cc

same_Some : {A : Type 0} (x y : A) → Some x ≡ Some y → x ≡ y
same_Some x y e = cc

module _ (top : List Row) (es : List Entry) (m : ℕ) (table : IsTable top es) where
  stands_inside : (k o : ℕ) (outer : Entry) (s : Option ℕ) (r : Row) → Stands top es k s r → s ≡ Some o → IsEntry es o outer
      → is_module outer.row.means ≡ true → IsImport r.means → ⊥
  stands_inside k o outer _ r (at_top _ at) e i mm is = absurd cc
  stands_inside k o outer _ r (within_other j x _ at l c) e i mm is =
      let p : j ≡ o = same_Some j o e in
      let q : x ≡ outer = same_Some x outer (sym at ∙ ap (slice_get es) p ∙ i) in
      none_inside outer.row.path outer.row.means mm r (subst (λ (z : Entry). Contains (inside z.row) r) q c) is

  -- a member of a module isn't imported
  no_import : (o : ℕ) (name : List ℕ) (k : ℕ) (e : Entry) → IsMemberOf es o name k → IsEntry es k e → IsImport e.row.means → ⊥
  no_import o name k e h at is =
      let same : h.member.entry ≡ e = same_Some h.member.entry e (sym h.member.there ∙ at) in
      let stands : e.within ≡ Some o = ap (λ (z : Entry). z.within) (sym same) ∙ h.member.stands in
      stands_inside k o h.outer e.within e.row (table.only k e at) stands h.there h.of_module is

  declared_no_import : (s : Option ℕ) (q : Qualified) (k : ℕ) (d : IsDeclared es m s q k) (source name : List ℕ)
      → q ≡ qualified.Member (Simple source) name → (e : Entry) → IsEntry es k e → IsImport e.row.means → ⊥
  declared_no_import s _ k (direct.simple n _ f) source name is e at im = absurd cc
  declared_no_import s _ k (direct.member q n o _ names w) source name is e at im = no_import o n k e w at im
  declared_no_import s _ k (direct.part q n o _ names w) source name is e at im = absurd cc

  -- ---- circles

  -- a declaration that needs another is a name by `type`, or imports that
  abbrev IsAlias : ℕ → Type 0
  IsAlias k = (e : Entry) × (t : tree.Ty) × IsEntry es k e × (e.row.means ≡ rows.Alias t)

  sort : (k j : ℕ) → NeedsType es m k j → IsAlias k ⊎ ((e : Entry) → IsEntry es j e → IsImport e.row.means → ⊥)
  sort k j (of_type e t q at is c d) = inl (e, t, at, is)
  sort k j (of_import e source at is d) =
      inr (λ f there im. declared_no_import e.within (qualified.Member (Simple source) e.row.name) j d source e.row.name refl f there im)

  append : (i k j : ℕ) → NeedsThrough es m i k → NeedsThrough es m k j → NeedsThrough es m i j
  append i k j (at_once _ _ n) h = and_on i k j n h
  append i k j (and_on _ l _ n more) h = and_on i l j n (append l k j more h)

  by_need : (k j : ℕ) → NeedsType es m k j → ((e : Entry) → IsEntry es k e → IsImport e.row.means → ⊥) → IsAlias k
  by_need k j (of_type e t q at is c d) none = (e, t, at, is)
  by_need k j (of_import e source at is d) none = absurd (none e at (source, is))

  -- what isn't imported and needs something is a name by `type`
  first_alias : (k j : ℕ) → NeedsThrough es m k j → ((e : Entry) → IsEntry es k e → IsImport e.row.means → ⊥) → IsAlias k
  first_alias k j (at_once _ _ n) none = by_need k j n none
  first_alias k j (and_on _ l _ n more) none = by_need k l n none

  pub alias_in : (k : ℕ) → IsCircular es m k → (a : ℕ) × IsAlias a × IsCircular es m a
  alias_in k c = go c
    where
      go : NeedsThrough es m k k → (a : ℕ) × IsAlias a × IsCircular es m a
      go (at_once _ _ n) = elim (sort k k n) [
        | inl a ↦ (k, a, c)
        | inr none ↦ (k, by_need k k n none, c)
      ]
      go (and_on _ i _ n more) = elim (sort k i n) [
        | inl a ↦ (k, a, c)
        | inr none ↦ (i, first_alias i k more none, append i k i more (at_once k i n))
      ]
