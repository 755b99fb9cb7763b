-- A name names at most one declaration.
use Rattle.std.proofs.Common.{◌≡◌, ℕ, List, Option, None, Some, true, refl, sym, subst}
use Rattle.limbo_declarations.specs.Rows as rows
use Rattle.limbo_declarations.specs.Rows.{Declared}
use Rattle.limbo_entries.specs.Entries.{Entry, IsEntry, IsMember, AreOnce, HasNone, Finds, here, in_module, further}
use Rattle.limbo_naming.specs.Qualified.{Qualified, Simple, Member, Part, row_stands_for}
use Rattle.limbo_naming.specs.Naming as naming
use Rattle.limbo_naming.specs.Naming.{is_module, is_adt, is_variant, IsMemberOf, IsPartOf, Leads, Names, Lacks}

same_entry : (es : List Entry) (k : ℕ) (a b : Entry) → IsEntry es k a → IsEntry es k b → a ≡ b
same_entry es k a b f g = cc

not_both : (d : Declared) → is_adt d ≡ true → is_variant d ≡ true → ⊥
not_both (rows.Adt ms pick) x y = absurd cc
not_both (rows.Case fs) x y = absurd cc
not_both _ x y = absurd cc

module _ (es : List Entry) (m : ℕ) (once : AreOnce es) where
  -- what a name is found to be, by the scope
  one_here : (name : List ℕ) (scope : Option ℕ) (j k : ℕ) → IsMember es scope name j → Finds es m name scope k → j ≡ k
  one_here name _ j _ a (here scope k b) = once scope name j k a b
  one_here name _ j _ a (in_module k none b) = absurd (none j a)
  one_here name _ j _ a (further i outer k none e f) = absurd (none j a)

  one_in_module : (name : List ℕ) (scope : Option ℕ) (j k : ℕ) → scope ≡ None → HasNone es None name → IsMember es (Some m) name j → Finds es m name scope k → j ≡ k
  one_in_module name _ j _ q none a (here scope k b) = absurd (none k (subst (λ (z : Option ℕ). IsMember es z name k) q b))
  one_in_module name _ j _ q none a (in_module k w b) = once (Some m) name j k a b
  one_in_module name _ j _ q none a (further i outer k w e f) = absurd cc

  -- what is found further out
  out : (name : List ℕ) (i : ℕ) (outer : Entry) (scope : Option ℕ) (k : ℕ) → scope ≡ Some i → HasNone es (Some i) name → IsEntry es i outer
      → Finds es m name scope k → Finds es m name outer.within k
  out name i outer _ _ q none e (here scope k b) = absurd (none k (subst (λ (z : Option ℕ). IsMember es z name k) q b))
  out name i outer _ _ q none e (in_module k w b) = absurd cc
  out name i outer _ _ q none e (further i' outer' k w e' g) =
      let a : i' ≡ i = cc in
      let b : outer' ≡ outer = same_entry es i outer' outer (subst (λ (z : ℕ). IsEntry es z outer') a e') e in
      subst (λ (z : Entry). Finds es m name z.within k) b g

  pub one_found : (name : List ℕ) (scope : Option ℕ) (j k : ℕ) → Finds es m name scope j → Finds es m name scope k → j ≡ k
  one_found name _ _ k (here scope j a) g = one_here name scope j k a g
  one_found name _ _ k (in_module j none a) g = one_in_module name None j k refl none a g
  one_found name _ _ k (further i outer j none e f) g =
      one_found name outer.within j k f (out name i outer (Some i) k refl none e g)

  pub one_member : (o : ℕ) (name : List ℕ) (j k : ℕ) → IsMemberOf es o name j → IsMemberOf es o name k → j ≡ k
  one_member o name j k a b = once (Some o) name j k a.member b.member

  no_both : (o : ℕ) (a b : Entry) → IsEntry es o a → IsEntry es o b → is_adt a.row.means ≡ true → is_variant b.row.means ≡ true → ⊥
  no_both o a b f g x y = not_both b.row.means (subst (λ (z : Entry). is_adt z.row.means ≡ true) (same_entry es o a b f g) x) y

  part_of_adt : (o : ℕ) (name : List ℕ) (j k : ℕ) (a : Entry) → IsEntry es o a → is_adt a.row.means ≡ true → IsMember es (Some o) name j
      → IsPartOf es o name k → j ≡ k
  part_of_adt o name j k a e x f (naming.of_adt b g y h) = once (Some o) name j k f h
  part_of_adt o name j k a e x f (naming.of_variant b g y h) = once (Some o) name j k f h
  part_of_adt o name j k a e x f (naming.of_its_adt b g y none h) = absurd (none j f)

  part_of_its_adt : (o : ℕ) (name : List ℕ) (j k : ℕ) (a : Entry) → IsEntry es o a → is_variant a.row.means ≡ true → HasNone es (Some o) name
      → IsMember es a.within name j → IsPartOf es o name k → j ≡ k
  part_of_its_adt o name j k a e x none f (naming.of_adt b g y h) = absurd (none k h)
  part_of_its_adt o name j k a e x none f (naming.of_variant b g y h) = absurd (none k h)
  part_of_its_adt o name j k a e x none f (naming.of_its_adt b g y w h) =
      once a.within name j k f (subst (λ (z : Entry). IsMember es z.within name k) (same_entry es o b a g e) h)

  pub one_part : (o : ℕ) (name : List ℕ) (j k : ℕ) → IsPartOf es o name j → IsPartOf es o name k → j ≡ k
  one_part o name j k (naming.of_adt a e x f) b = part_of_adt o name j k a e x f b
  one_part o name j k (naming.of_variant a e x f) (naming.of_adt b g y h) = once (Some o) name j k f h
  one_part o name j k (naming.of_variant a e x f) (naming.of_variant b g y h) = once (Some o) name j k f h
  one_part o name j k (naming.of_variant a e x f) (naming.of_its_adt b g y none h) = absurd (none j f)
  one_part o name j k (naming.of_its_adt a e x none f) b = part_of_its_adt o name j k a e x none f b

  -- ---- by the form of a name

  pub found_first : (scope : Option ℕ) (q : Qualified) (name : List ℕ) (r : ℕ) → Names es m scope q r → q ≡ Simple name
      → (k : ℕ) × Finds es m name scope k × Leads es m k r
  found_first scope _ name r (naming.simple s n k z f d) e = let w : n ≡ name = cc in (k, subst (λ (x : List ℕ). Finds es m x scope k) w f, d)
  found_first scope _ name r (naming.member s q n o k z d w f) e = absurd cc
  found_first scope _ name r (naming.part s q n o k z d w f) e = absurd cc

  pub found_member : (scope : Option ℕ) (q b : Qualified) (name : List ℕ) (r : ℕ) → Names es m scope q r → q ≡ Member b name
      → (o : ℕ) × Names es m scope b o × ((k : ℕ) × IsMemberOf es o name k × Leads es m k r)
  found_member scope _ b name r (naming.simple s n k z f d) e = absurd cc
  found_member scope _ b name r (naming.member s q n o k z d w f) e =
      let x : q ≡ b = cc in let y : n ≡ name = cc in
      (o, subst (λ (u : Qualified). Names es m scope u o) x d, (k, subst (λ (u : List ℕ). IsMemberOf es o u k) y w, f))
  found_member scope _ b name r (naming.part s q n o k z d w f) e = absurd cc

  pub found_part : (scope : Option ℕ) (q b : Qualified) (name : List ℕ) (r : ℕ) → Names es m scope q r → q ≡ Part b name
      → (o : ℕ) × Names es m scope b o × ((k : ℕ) × IsPartOf es o name k × Leads es m k r)
  found_part scope _ b name r (naming.simple s n k z f d) e = absurd cc
  found_part scope _ b name r (naming.member s q n o k z d w f) e = absurd cc
  found_part scope _ b name r (naming.part s q n o k z d w f) e =
      let x : q ≡ b = cc in let y : n ≡ name = cc in
      (o, subst (λ (u : Qualified). Names es m scope u o) x d, (k, subst (λ (u : List ℕ). IsPartOf es o u k) y w, f))

  -- ---- by what a declaration stands for

  pub stays : (j r : ℕ) (e : Entry) → IsEntry es j e → row_stands_for e.row ≡ None → Leads es m j r → j ≡ r
  stays _ _ e i n (naming.itself j f k w) = refl
  stays _ r e i n (naming.onward j z f q k w d) =
      let a : f ≡ e = same_entry es j f e k i in
      let b : row_stands_for e.row ≡ Some q = subst (λ (u : Entry). row_stands_for u.row ≡ Some q) a w in
      absurd cc

  pub goes_on : (j r : ℕ) (e : Entry) (q : Qualified) → IsEntry es j e → row_stands_for e.row ≡ Some q → Leads es m j r
      → Names es m e.within q r
  goes_on _ _ e q i n (naming.itself j f k w) =
      let a : f ≡ e = same_entry es j f e k i in
      let b : row_stands_for e.row ≡ None = subst (λ (u : Entry). row_stands_for u.row ≡ None) a w in
      absurd cc
  goes_on _ r e q i n (naming.onward j z f p k w d) =
      let a : f ≡ e = same_entry es j f e k i in
      let b : row_stands_for e.row ≡ Some p = subst (λ (u : Entry). row_stands_for u.row ≡ Some p) a w in
      let c : p ≡ q = cc in
      subst (λ (u : Qualified). Names es m e.within u r) c (subst (λ (u : Entry). Names es m u.within p r) a d)

  mutual
    pub one_lead : (j r s : ℕ) → Leads es m j r → Leads es m j s → r ≡ s
    one_lead _ _ s (naming.itself j e i n) b = stays j s e i n b
    one_lead _ _ s (naming.onward j r e q i n d) b = one_named e.within q r s d (goes_on j s e q i n b)

    pub one_named : (scope : Option ℕ) (q : Qualified) (r s : ℕ) → Names es m scope q r → Names es m scope q s → r ≡ s
    one_named _ _ _ s (naming.simple scope name k r f d) b =
        let x = found_first scope (Simple name) name s b refl in
        one_lead k r s d (subst (λ (u : ℕ). Leads es m u s) (one_found name scope x.0 k x.1 f) x.2)
    one_named _ _ _ s (naming.member scope q name o k r d w f) b =
        let x = found_member scope (Member q name) q name s b refl in
        let a : x.0 ≡ o = sym (one_named scope q o x.0 d x.1) in
        let c : x.2.0 ≡ k = one_member o name x.2.0 k (subst (λ (u : ℕ). IsMemberOf es u name x.2.0) a x.2.1) w in
        one_lead k r s f (subst (λ (u : ℕ). Leads es m u s) c x.2.2)
    one_named _ _ _ s (naming.part scope q name o k r d w f) b =
        let x = found_part scope (Part q name) q name s b refl in
        let a : x.0 ≡ o = sym (one_named scope q o x.0 d x.1) in
        let c : x.2.0 ≡ k = one_part o name x.2.0 k (subst (λ (u : ℕ). IsPartOf es u name x.2.0) a x.2.1) w in
        one_lead k r s f (subst (λ (u : ℕ). Leads es m u s) c x.2.2)

  -- what lacks names nothing
  pub lacks_none : (scope : Option ℕ) (q : Qualified) (r : ℕ) → Lacks es m scope q → Names es m scope q r → ⊥
  lacks_none scope _ r (naming.unknown name none) d = let x = found_first scope (Simple name) name r d refl in none x.0 x.1
  lacks_none scope _ r (naming.no_member q name o e f i w none) d =
      let x = found_member scope (Member q name) q name r d refl in
      none x.2.0 (subst (λ (u : ℕ). IsMemberOf es u name x.2.0) (one_named scope q x.0 o x.1 f) x.2.1)
  lacks_none scope _ r (naming.no_part q name o e f i w none) d =
      let x = found_part scope (Part q name) q name r d refl in
      none x.2.0 (subst (λ (u : ℕ). IsPartOf es u name x.2.0) (one_named scope q x.0 o x.1 f) x.2.1)
  lacks_none scope _ r (naming.before_member q name l) d =
      let x = found_member scope (Member q name) q name r d refl in lacks_none scope q x.0 l x.1
  lacks_none scope _ r (naming.before_part q name l) d =
      let x = found_part scope (Part q name) q name r d refl in lacks_none scope q x.0 l x.1
