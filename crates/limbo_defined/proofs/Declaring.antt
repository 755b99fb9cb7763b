-- What must be defined is what is declared.
use Rattle.std.proofs.Common.{◌≡◌, ℕ, suc, List, [], ◌∷◌, Option, None, Some, inl, inr, refl, sym, ap, subst, ◌∙◌}
use Rattle.std.specs.List.{Contains}
use Rattle.std.proofs.lemmas.List.Elements.{Contains-append_left, Contains-append_right, Contains-append_cases}
use Rattle.limbo_tree.specs.Decls.{FnType, Members, Variant, Member, NoMembers, MoreMembers, VarMember, FnMember, ConMember, TypeMember}
use Rattle.limbo_tree.specs.Decls.{AdtMember}
use Rattle.limbo_tree.specs.Exprs.{Expr}
use Rattle.limbo_declarations.specs.Rows.{Row, Declared, Adt, Function, Constant, Variable, Alias, each, counted, rows_of_member}
use Rattle.limbo_declarations.specs.Rows.{rows_of_members}
use Rattle.limbo_includes.proofs.Lists.{contains_here, contains_there, contains_cases}
use Rattle.limbo_defined.specs.Defined.{HasAdt, HasFunction, IsDeclared, by_module, by_adt}
use Rattle.limbo_defined.specs.Wanted.{Wanted, of_name, of_function, functions_in, of_adt, adt_functions_in, wanted_in}
use Rattle.limbo_defined.proofs.Holding.{contains_none, only_one}

-- ---- the path of members

each_path : (p : List ℕ) (ns : List (List ℕ)) (d : Declared) (r : Row) → Contains (each p ns d) r → p ≡ r.path
each_path p [] d r c = absurd (contains_none r c)
each_path p (n ∷ ns) d r c = elim (contains_cases (record { path = p; name = n; means = d }) r (each p ns d) c) [
  | inl e ↦ ap (λ (z : Row). z.path) e
  | inr k ↦ each_path p ns d r k
]

counted_path : (p : List ℕ) (ns : List (List ℕ)) (k : ℕ) (e : Expr) (r : Row) → Contains (counted p k ns e) r → p ≡ r.path
counted_path p [] k e r c = absurd (contains_none r c)
counted_path p (n ∷ ns) k e r c = elim (contains_cases (record { path = p; name = n; means = Constant e k }) r (counted p (suc k) ns e) c) [
  | inl s ↦ ap (λ (z : Row). z.path) s
  | inr d ↦ counted_path p ns (suc k) e r d
]

member_path : (p : List ℕ) (m : Member) (r : Row) → Contains (rows_of_member p m) r → p ≡ r.path
member_path p (VarMember ns t) r c = each_path p ns (Variable t None) r c
member_path p (FnMember ns f) r c = each_path p ns (Function f) r c
member_path p (ConMember ns e) r c = counted_path p ns 0 e r c
member_path p (TypeMember ns t) r c = each_path p ns (Alias t) r c
member_path p (AdtMember n ms pick) r c = ap (λ (z : Row). z.path) (only_one (record { path = p; name = n; means = Adt ms pick }) r c)

members_path : (p : List ℕ) (ms : Members) (r : Row) → Contains (rows_of_members p ms) r → p ≡ r.path
members_path p NoMembers r c = absurd (contains_none r c)
members_path p (MoreMembers m ms) r c = elim (Contains-append_cases (rows_of_member p m) (rows_of_members p ms) r c) [
  | inl d ↦ member_path p m r d
  | inr d ↦ members_path p ms r d
]

-- ---- the functions of a scope

is_function : (p : List ℕ) (adt : Option (List ℕ)) (n : List ℕ) (d : Declared) (w : Wanted) → Contains (of_function p adt n d) w
    → (f : FnType) × (Function f ≡ d) × (of_name p adt n ≡ w)
is_function p adt n (Function f) w c = (f, refl, only_one (of_name p adt n) w c)
is_function p adt n _ w c = absurd (contains_none w c)

functions_sound : (adt : Option (List ℕ)) (rs : List Row) (w : Wanted) → Contains (functions_in adt rs) w → (p : List ℕ) × (n : List ℕ)
    × HasFunction rs p n × (of_name p adt n ≡ w)
functions_sound adt [] w c = absurd (contains_none w c)
functions_sound adt (r ∷ rs) w c = elim (Contains-append_cases (of_function r.path adt r.name r.means) (functions_in adt rs) w c) [
  | inl d ↦
      let f = is_function r.path adt r.name r.means w d in
      let e : Contains (r ∷ rs) (record { path = r.path; name = r.name; means = Function f.0 }) = subst
      (λ (z : Declared). Contains (r ∷ rs) (record { path = r.path; name = r.name; means = z })) (sym f.1) (contains_here r rs) in
      (r.path, r.name, record { of = f.0; there = e }, f.2)
  | inr d ↦
      let f = functions_sound adt rs w d in (
        f.0,
        f.1,
        record {
          of = f.2.of;
          there = contains_there r (record { path = f.0; name = f.1; means = Function f.2.of }) rs f.2.there;
        },
        f.3,
      )
]

functions_complete : (adt : Option (List ℕ)) (p n : List ℕ) (f : FnType) (rs : List Row)
    → Contains rs (record { path = p; name = n; means = Function f }) → Contains (functions_in adt rs) (of_name p adt n)
functions_complete adt p n f [] c = absurd (let x : Row = record { path = p; name = n; means = Function f } in contains_none x c)
functions_complete adt p n f (r ∷ rs) c =
    let x : Row = record { path = p; name = n; means = Function f } in
    elim (contains_cases r x rs c) [
      | inl e ↦ Contains-append_left (of_function r.path adt r.name r.means) (functions_in adt rs) (of_name p adt n)
          (subst (λ (z : Row). Contains (of_function z.path adt z.name z.means) (of_name p adt n)) (sym e)
          (contains_here (of_name p adt n) []))
      | inr d ↦ Contains-append_right (of_function r.path adt r.name r.means) (functions_in adt rs) (of_name p adt n)
          (functions_complete adt p n f rs d)
    ]

-- ---- the functions of adts

is_adt : (p n : List ℕ) (d : Declared) (w : Wanted) → Contains (of_adt p n d) w → (ms : Members) × (pick : Option (List Variant))
    × (Adt ms pick ≡ d) × Contains (functions_in (Some n) (rows_of_members p ms)) w
is_adt p n (Adt ms pick) w c = (ms, pick, refl, c)
is_adt p n _ w c = absurd (contains_none w c)

adts_sound : (rs : List Row) (w : Wanted) → Contains (adt_functions_in rs) w → (p : List ℕ) × (a : List ℕ) × (ms : Members)
    × HasAdt rs p a ms × Contains (functions_in (Some a) (rows_of_members p ms)) w
adts_sound [] w c = absurd (contains_none w c)
adts_sound (r ∷ rs) w c = elim (Contains-append_cases (of_adt r.path r.name r.means) (adt_functions_in rs) w c) [
  | inl d ↦
      let f = is_adt r.path r.name r.means w d in
      let e : Contains (r ∷ rs) (record { path = r.path; name = r.name; means = Adt f.0 f.1 }) = subst
      (λ (z : Declared). Contains (r ∷ rs) (record { path = r.path; name = r.name; means = z })) (sym f.2) (contains_here r rs) in
      (r.path, r.name, f.0, record { pick = f.1; there = e }, f.3)
  | inr d ↦
      let f = adts_sound rs w d in (
        f.0,
        f.1,
        f.2,
        record {
          pick = f.3.pick;
          there = contains_there r (record { path = f.0; name = f.1; means = Adt f.2 f.3.pick }) rs
              f.3.there;
        },
        f.4,
      )
]

adts_complete :
    (p a : List ℕ) (ms : Members) (pick : Option (List Variant)) (w : Wanted) (rs : List Row)
    → Contains rs (record { path = p; name = a; means = Adt ms pick })
    → Contains (functions_in (Some a) (rows_of_members p ms)) w → Contains (adt_functions_in rs) w
adts_complete p a ms pick w [] c k = absurd (let x : Row = record { path = p; name = a; means = Adt ms pick } in contains_none x c)
adts_complete p a ms pick w (r ∷ rs) c k =
    let x : Row = record { path = p; name = a; means = Adt ms pick } in
    elim (contains_cases r x rs c) [
      | inl e ↦ Contains-append_left (of_adt r.path r.name r.means) (adt_functions_in rs) w
          (subst (λ (z : Row). Contains (of_adt z.path z.name z.means) w) (sym e) k)
      | inr d ↦ Contains-append_right (of_adt r.path r.name r.means) (adt_functions_in rs) w (adts_complete p a ms pick w rs d k)
    ]

-- ---- all

abbrev IsDeclaredAs : (members rows : List Row) → Wanted → Type 0
IsDeclaredAs members rows w = IsDeclared members rows w.path w.name w.part

pub wanted_declared : (members rows : List Row) (w : Wanted) → Contains (wanted_in members rows) w
    → IsDeclared members rows w.path w.name w.part
wanted_declared members rows w c = elim (Contains-append_cases (functions_in None members) (adt_functions_in rows) w c) [
  | inl d ↦
      let f = functions_sound None members w d in
      subst (λ (z : Wanted). IsDeclaredAs members rows z) f.3 (by_module f.0 f.1 f.2)
  | inr d ↦
      let a = adts_sound rows w d in
      let f = functions_sound (Some a.1) (rows_of_members a.0 a.2) w a.4 in
      let e : a.0 ≡ f.0 = members_path a.0 a.2 (record { path = f.0; name = f.1; means = Function f.2.of }) f.2.there in
      let g : HasFunction (rows_of_members a.0 a.2) a.0 f.1 = subst (λ (z : List ℕ). HasFunction (rows_of_members a.0 a.2) z f.1) (sym e)
      f.2 in
      let s : of_name a.0 (Some a.1) f.1 ≡ w = ap (λ (z : List ℕ). of_name z (Some a.1) f.1) e ∙ f.3 in
      subst (λ (z : Wanted). IsDeclaredAs members rows z) s (by_adt a.0 a.1 f.1 a.2 a.3 g)
]

pub declared_wanted : (members rows : List Row) (p n : List ℕ) (part : Option (List ℕ)) → IsDeclared members rows p n part
    → Contains (wanted_in members rows) (record { path = p; name = n; part = part })
declared_wanted members rows _ _ _ (by_module p n h) =
    Contains-append_left (functions_in None members) (adt_functions_in rows) (of_name p None n)
    (functions_complete None p n h.of members h.there)
declared_wanted members rows _ _ _ (by_adt p a n ms h k) =
    let x = of_name p (Some a) n in
    Contains-append_right (functions_in None members) (adt_functions_in rows) x
    (adts_complete p a ms h.pick x rows h.there (functions_complete (Some a) p n k.of (rows_of_members p ms) k.there))
