-- What names name, themselves not followed.
use Rattle.std.proofs.Common.{◌≡◌, ◌<◌, ℕ, List, length, Option, true, subst}
use Rattle.std.proofs.lemmas.Option.{slice_get_within}
use Rattle.limbo_entries.specs.Entries as entries
use Rattle.limbo_entries.specs.Entries.{Entry, IsEntry, AreOnce, Finds}
use Rattle.limbo_naming.specs.declared.state.State.{State}
use Rattle.limbo_naming.specs.declared.naming.Named.TheVariants as named
use Rattle.limbo_naming.specs.Qualified.{Qualified, Simple, Member, Part}
use Rattle.limbo_naming.specs.Naming as naming
use Rattle.limbo_naming.specs.Naming.{is_module, has_parts, IsMemberOf, IsPartOf, Leads, Names, Lacks}
use Rattle.limbo_naming.specs.Direct.{IsDeclared, simple, member, part, TellsDeclared}
use Rattle.limbo_naming.specs.Search.{IsSight}
use Rattle.limbo_naming.specs.Told.{Tells}
use Rattle.limbo_naming.proofs.Unique as unique
use Rattle.limbo_naming.proofs.Unique.{one_found, one_member, one_part, one_named, found_first, found_member, found_part}
use Rattle.limbo_naming.proofs.Saying.{member_nothing, part_nothing, member_nowhere, part_nowhere}

module _ (es : List Entry) (m : ℕ) (scope : Option ℕ) where
  -- ---- by the form of a name

  pub declared_simple : (name : List ℕ) (k : ℕ) → IsDeclared es m scope (Simple name) k → Finds es m name scope k
  declared_simple _ _ (simple name k f) = f

  pub declared_member : (q : Qualified) (name : List ℕ) (k : ℕ) → IsDeclared es m scope (Member q name) k
      → (o : ℕ) × Names es m scope q o × IsMemberOf es o name k
  declared_member _ _ _ (member q name o k n w) = (o, n, w)

  pub declared_part : (q : Qualified) (name : List ℕ) (k : ℕ) → IsDeclared es m scope (Part q name) k
      → (o : ℕ) × Names es m scope q o × IsPartOf es o name k
  declared_part _ _ _ (part q name o k n w) = (o, n, w)

  -- ---- it is in the table

  found_there : (name : List ℕ) (at : Option ℕ) (k : ℕ) → Finds es m name at k → k < length es
  found_there name _ _ (entries.here at k w) = slice_get_within es k w.entry w.there
  found_there name _ _ (entries.in_module k none w) = slice_get_within es k w.entry w.there
  found_there name _ _ (entries.further j outer k none i f) = found_there name outer.within k f

  part_there : (o : ℕ) (name : List ℕ) (k : ℕ) → IsPartOf es o name k → k < length es
  part_there o name k (naming.of_adt e i x w) = slice_get_within es k w.entry w.there
  part_there o name k (naming.of_variant e i x w) = slice_get_within es k w.entry w.there
  part_there o name k (naming.of_its_adt e i x none w) = slice_get_within es k w.entry w.there

  pub declared_there : (q : Qualified) (k : ℕ) → IsDeclared es m scope q k → k < length es
  declared_there _ _ (simple name k f) = found_there name scope k f
  declared_there _ _ (member q name o k n w) = slice_get_within es k w.member.entry w.member.there
  declared_there _ _ (part q name o k n w) = part_there o name k w

  -- ---- at most one

  module _ (once : AreOnce es) where
    pub one_declared : (q : Qualified) (j k : ℕ) → IsDeclared es m scope q j → IsDeclared es m scope q k → j ≡ k
    one_declared _ _ k (simple name j f) d = one_found es m once name scope j k f (declared_simple name k d)
    one_declared _ _ k (member q name o j n w) d =
        let x = declared_member q name k d in
        one_member es m once o name j k w (subst (λ (z : ℕ). IsMemberOf es z name k) (one_named es m once scope q x.0 o x.1 n) x.2)
    one_declared _ _ k (part q name o j n w) d =
        let x = declared_part q name k d in
        one_part es m once o name j k w (subst (λ (z : ℕ). IsPartOf es z name k) (one_named es m once scope q x.0 o x.1 n) x.2)

    -- what lacks is no declaration
    pub lacks_declared : (q : Qualified) (k : ℕ) → Lacks es m scope q → IsDeclared es m scope q k → ⊥
    lacks_declared _ k (naming.unknown name none) d = none k (declared_simple name k d)
    lacks_declared _ k (naming.no_member q name o e f i w none) d =
        let x = declared_member q name k d in
        none k (subst (λ (z : ℕ). IsMemberOf es z name k) (one_named es m once scope q x.0 o x.1 f) x.2)
    lacks_declared _ k (naming.no_part q name o e f i w none) d =
        let x = declared_part q name k d in
        none k (subst (λ (z : ℕ). IsPartOf es z name k) (one_named es m once scope q x.0 o x.1 f) x.2)
    lacks_declared _ k (naming.before_member q name l) d =
        let x = declared_member q name k d in unique.lacks_none es m once scope q x.0 l x.1
    lacks_declared _ k (naming.before_part q name l) d =
        let x = declared_part q name k d in unique.lacks_none es m once scope q x.0 l x.1

  -- ---- and what it leads to is named

  pub by_declared : (q : Qualified) (r : ℕ) → Names es m scope q r → (k : ℕ) × IsDeclared es m scope q k × Leads es m k r
  by_declared _ r (naming.simple s name k z f d) = (k, simple name k f, d)
  by_declared _ r (naming.member s q name o k z n w d) = (k, member q name o k n w, d)
  by_declared _ r (naming.part s q name o k z n w d) = (k, part q name o k n w, d)

  pub from_declared : (q : Qualified) (k r : ℕ) → IsDeclared es m scope q k → Leads es m k r → Names es m scope q r
  from_declared _ _ r (simple name k f) d = naming.simple scope name k r f d
  from_declared _ _ r (member q name o k n w) d = naming.member scope q name o k r n w d
  from_declared _ _ r (part q name o k n w) d = naming.part scope q name o k r n w d

module _ (es : List Entry) (m : ℕ) (states : List State) (sight : IsSight es m states) (scope : Option ℕ) (q : Qualified) (name : List ℕ) where
  -- where nothing is named before it
  pub no_member_declared : Tells es m scope q named.Nothing → TellsDeclared es m scope (Member q name) named.Nothing
  no_member_declared s =
      ((member_nothing es m states sight scope q name s).0, λ k d. let x = declared_member es m scope q name k d in s.1 x.0 x.1)

  pub no_part_declared : Tells es m scope q named.Nothing → TellsDeclared es m scope (Part q name) named.Nothing
  no_part_declared s =
      ((part_nothing es m states sight scope q name s).0, λ k d. let x = declared_part es m scope q name k d in s.1 x.0 x.1)

  -- where the module or adt is named
  module _ (o : ℕ) (n : Names es m scope q o) where
    pub member_nowhere_declared : ((e : Entry) → IsEntry es o e → is_module e.row.means ≡ true → ⊥)
        → TellsDeclared es m scope (Member q name) named.Nothing
    member_nowhere_declared w = (
      (member_nowhere es m states sight scope q name o n w).0,
      λ k d. let x = declared_member es m scope q name k d in
          let y = subst (λ (z : ℕ). IsMemberOf es z name k) (one_named es m sight.once scope q x.0 o x.1 n) x.2 in
          w y.outer y.there y.of_module,
    )

    pub part_nowhere_declared : ((e : Entry) → IsEntry es o e → has_parts e.row.means ≡ true → ⊥) → ((k : ℕ) → IsPartOf es o name k → ⊥)
        → TellsDeclared es m scope (Part q name) named.Nothing
    part_nowhere_declared w none = (
      (part_nowhere es m states sight scope q name o n w none).0,
      λ k d. let x = declared_part es m scope q name k d in
          none k (subst (λ (z : ℕ). IsPartOf es z name k) (one_named es m sight.once scope q x.0 o x.1 n) x.2),
    )
