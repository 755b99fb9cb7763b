-- What is found of a name, by what is found of its parts.
use Rattle.std.proofs.Common.{◌≡◌, ◌<◌, ℕ, List, length, Option, true, refl, sym, subst, ◌∙◌}
use Rattle.limbo_entries.specs.Entries.{Entry, IsEntry, Finds}
use Rattle.limbo_naming.specs.declared.state.State.{State}
use Rattle.limbo_naming.specs.declared.state.Found.{Found}
use Rattle.limbo_naming.specs.declared.state.Found.TheVariants as found
use Rattle.limbo_naming.specs.Qualified.{Qualified, Simple, Member, Part}
use Rattle.limbo_naming.specs.Naming as naming
use Rattle.limbo_naming.specs.Naming.{is_module, has_parts, IsMemberOf, IsPartOf, Leads, Names, Lacks}
use Rattle.limbo_naming.specs.Search.{IsSight, Says, SaysOf}
use Rattle.limbo_naming.proofs.Unique.{one_found, found_first, found_member, found_part, one_member, one_part, one_named, lacks_none}
use Rattle.limbo_naming.proofs.Circles.{simple_through, before_member, before_part, member_through, part_through}

module _ (es : List Entry) (m : ℕ) (states : List State) (sight : IsSight es m states) (scope : Option ℕ) where
  -- ---- a name alone

  lacks_no_simple : (name : List ℕ) (k : ℕ) → Finds es m name scope k → (q : Qualified) → q ≡ Simple name → Lacks es m scope q → ⊥
  lacks_no_simple name k f _ e (naming.unknown n none) = let w : n ≡ name = cc in none k (subst (λ (x : List ℕ). Finds es m x scope k) (sym w) f)
  lacks_no_simple name k f _ e (naming.no_member q n o x d i y none) = absurd cc
  lacks_no_simple name k f _ e (naming.no_part q n o x d i y none) = absurd cc
  lacks_no_simple name k f _ e (naming.before_member q n l) = absurd cc
  lacks_no_simple name k f _ e (naming.before_part q n l) = absurd cc

  pub simple_says : (name : List ℕ) (k : ℕ) (f : Found) → k < length es → Finds es m name scope k → SaysOf es m states k f → Says es m states scope (Simple name) f
  simple_says name k (found.Named r) l i d = naming.simple scope name k r i d
  simple_says name k found.Unknown l i d = absurd d
  simple_says name k found.Nothing l i d = (
    lacks_no_simple name k i (Simple name) refl,
    λ r n. let x = found_first es m sight.once scope (Simple name) name r n refl in
        d r (subst (λ (z : ℕ). Leads es m z r) (one_found es m sight.once name scope x.0 k x.1 i) x.2),
  )
  simple_says name k (found.Needs j) l i d = (
    subst (λ (z : ℕ). z < length es) (sym d.0) l,
    d.1,
    simple_through es m scope name j (λ a g. one_found es m sight.once name scope a k g i ∙ sym d.0),
  )

  -- ---- a member

  module _ (q : Qualified) (name : List ℕ) where
    lacks_member : (p : Qualified) → p ≡ Member q name → Lacks es m scope p → (Lacks es m scope q → ⊥)
        → ((o : ℕ) (e : Entry) → Names es m scope q o → IsEntry es o e → is_module e.row.means ≡ true → ((k : ℕ) → IsMemberOf es o name k → ⊥) → ⊥) → ⊥
    lacks_member _ e (naming.unknown n none) f g = absurd cc
    lacks_member _ e (naming.no_member p n o x d i y none) f g =
        let a : p ≡ q = cc in let b : n ≡ name = cc in
        g o x (subst (λ (z : Qualified). Names es m scope z o) a d) i y (λ k w. none k (subst (λ (z : List ℕ). IsMemberOf es o z k) (sym b) w))
    lacks_member _ e (naming.no_part p n o x d i y none) f g = absurd cc
    lacks_member _ e (naming.before_member p n l) f g = let a : p ≡ q = cc in f (subst (λ (z : Qualified). Lacks es m scope z) a l)
    lacks_member _ e (naming.before_part p n l) f g = absurd cc

    lacks_part : (p : Qualified) → p ≡ Part q name → Lacks es m scope p → (Lacks es m scope q → ⊥)
        → ((o : ℕ) (e : Entry) → Names es m scope q o → IsEntry es o e → has_parts e.row.means ≡ true → ((k : ℕ) → IsPartOf es o name k → ⊥) → ⊥) → ⊥
    lacks_part _ e (naming.unknown n none) f g = absurd cc
    lacks_part _ e (naming.no_member p n o x d i y none) f g = absurd cc
    lacks_part _ e (naming.no_part p n o x d i y none) f g =
        let a : p ≡ q = cc in let b : n ≡ name = cc in
        g o x (subst (λ (z : Qualified). Names es m scope z o) a d) i y (λ k w. none k (subst (λ (z : List ℕ). IsPartOf es o z k) (sym b) w))
    lacks_part _ e (naming.before_member p n l) f g = absurd cc
    lacks_part _ e (naming.before_part p n l) f g = let a : p ≡ q = cc in f (subst (λ (z : Qualified). Lacks es m scope z) a l)

    -- where nothing was found yet
    pub member_unknown : Lacks es m scope q → Lacks es m scope (Member q name)
    member_unknown l = naming.before_member q name l

    pub part_unknown : Lacks es m scope q → Lacks es m scope (Part q name)
    part_unknown l = naming.before_part q name l

    pub member_nothing : Says es m states scope q found.Nothing → Says es m states scope (Member q name) found.Nothing
    member_nothing s = (
      λ l. lacks_member (Member q name) refl l s.0 (λ o e n i x w. s.1 o n),
      λ r n. let x = found_member es m sight.once scope (Member q name) q name r n refl in s.1 x.0 x.1,
    )

    pub part_nothing : Says es m states scope q found.Nothing → Says es m states scope (Part q name) found.Nothing
    part_nothing s = (
      λ l. lacks_part (Part q name) refl l s.0 (λ o e n i x w. s.1 o n),
      λ r n. let x = found_part es m sight.once scope (Part q name) q name r n refl in s.1 x.0 x.1,
    )

    pub member_needs : (k : ℕ) → Says es m states scope q (found.Needs k) → Says es m states scope (Member q name) (found.Needs k)
    member_needs k s = (s.0, s.1, before_member es m scope q name k s.2)

    pub part_needs : (k : ℕ) → Says es m states scope q (found.Needs k) → Says es m states scope (Part q name) (found.Needs k)
    part_needs k s = (s.0, s.1, before_part es m scope q name k s.2)

    pub member_keeps : (f : Found) → ((o : ℕ) → f ≡ found.Named o → ⊥) → Says es m states scope q f → Says es m states scope (Member q name) f
    member_keeps (found.Named o) w s = absurd (w o refl)
    member_keeps found.Unknown w s = member_unknown s
    member_keeps found.Nothing w s = member_nothing s
    member_keeps (found.Needs k) w s = member_needs k s

    pub part_keeps : (f : Found) → ((o : ℕ) → f ≡ found.Named o → ⊥) → Says es m states scope q f → Says es m states scope (Part q name) f
    part_keeps (found.Named o) w s = absurd (w o refl)
    part_keeps found.Unknown w s = part_unknown s
    part_keeps found.Nothing w s = part_nothing s
    part_keeps (found.Needs k) w s = part_needs k s

    -- where the module or adt is named
    module _ (o : ℕ) (n : Names es m scope q o) where
      no_lack : Lacks es m scope q → ⊥
      no_lack l = lacks_none es m sight.once scope q o l n

      same : (p : ℕ) → Names es m scope q p → p ≡ o
      same p d = one_named es m sight.once scope q p o d n

      pub member_nowhere : ((e : Entry) → IsEntry es o e → is_module e.row.means ≡ true → ⊥) → Says es m states scope (Member q name) found.Nothing
      member_nowhere w = (
        λ l. lacks_member (Member q name) refl l no_lack (λ p e d i x none. w e (subst (λ (z : ℕ). IsEntry es z e) (same p d) i) x),
        λ r d. let x = found_member es m sight.once scope (Member q name) q name r d refl in
            let y = subst (λ (z : ℕ). IsMemberOf es z name x.2.0) (same x.0 x.1) x.2.1 in w y.outer y.there y.of_module,
      )

      pub member_absent : (e : Entry) → IsEntry es o e → is_module e.row.means ≡ true → ((k : ℕ) → IsMemberOf es o name k → ⊥) → Lacks es m scope (Member q name)
      member_absent e i x none = naming.no_member q name o e n i x none

      pub member_says : (k : ℕ) (f : Found) → k < length es → IsMemberOf es o name k → SaysOf es m states k f → Says es m states scope (Member q name) f
      member_says k (found.Named r) l w d = naming.member scope q name o k r n w d
      member_says k found.Unknown l w d = absurd d
      member_says k found.Nothing l w d = (
        λ y. lacks_member (Member q name) refl y no_lack (λ p e g i x none. none k (subst (λ (z : ℕ). IsMemberOf es z name k) (sym (same p g)) w)),
        λ r g. let x = found_member es m sight.once scope (Member q name) q name r g refl in
            let y = subst (λ (z : ℕ). IsMemberOf es z name x.2.0) (same x.0 x.1) x.2.1 in
            d r (subst (λ (z : ℕ). Leads es m z r) (one_member es m sight.once o name x.2.0 k y w) x.2.2),
      )
      member_says k (found.Needs j) l w d = (
        subst (λ (z : ℕ). z < length es) (sym d.0) l,
        d.1,
        member_through es m scope q name j (λ p a g h. one_member es m sight.once o name a k (subst (λ (z : ℕ). IsMemberOf es z name a) (same p g) h) w ∙ sym d.0),
      )

      pub part_nowhere : ((e : Entry) → IsEntry es o e → has_parts e.row.means ≡ true → ⊥) → ((k : ℕ) → IsPartOf es o name k → ⊥)
          → Says es m states scope (Part q name) found.Nothing
      part_nowhere w none = (
        λ l. lacks_part (Part q name) refl l no_lack (λ p e d i x y. w e (subst (λ (z : ℕ). IsEntry es z e) (same p d) i) x),
        λ r d. let x = found_part es m sight.once scope (Part q name) q name r d refl in
            none x.2.0 (subst (λ (z : ℕ). IsPartOf es z name x.2.0) (same x.0 x.1) x.2.1),
      )

      pub part_absent : (e : Entry) → IsEntry es o e → has_parts e.row.means ≡ true → ((k : ℕ) → IsPartOf es o name k → ⊥) → Lacks es m scope (Part q name)
      part_absent e i x none = naming.no_part q name o e n i x none

      pub part_says : (k : ℕ) (f : Found) → k < length es → IsPartOf es o name k → SaysOf es m states k f → Says es m states scope (Part q name) f
      part_says k (found.Named r) l w d = naming.part scope q name o k r n w d
      part_says k found.Unknown l w d = absurd d
      part_says k found.Nothing l w d = (
        λ y. lacks_part (Part q name) refl y no_lack (λ p e g i x none. none k (subst (λ (z : ℕ). IsPartOf es z name k) (sym (same p g)) w)),
        λ r g. let x = found_part es m sight.once scope (Part q name) q name r g refl in
            let y = subst (λ (z : ℕ). IsPartOf es z name x.2.0) (same x.0 x.1) x.2.1 in
            d r (subst (λ (z : ℕ). Leads es m z r) (one_part es m sight.once o name x.2.0 k y w) x.2.2),
      )
      part_says k (found.Needs j) l w d = (
        subst (λ (z : ℕ). z < length es) (sym d.0) l,
        d.1,
        part_through es m scope q name j (λ p a g h. one_part es m sight.once o name a k (subst (λ (z : ℕ). IsPartOf es z name a) (same p g) h) w ∙ sym d.0),
      )
