-- The parameters of functions are written as the grammar has them, in each declaration of a source that has a tree.
use Rattle.std.proofs.Common.{◌≡◌, ◌<◌, ℕ, zero, suc, List, [], ◌∷◌, ◌++◌, Option, None, Some, inl, inr, Bool, true, false}
use Rattle.std.proofs.Common.{refl, subst, arith, ◌&&◌}
use Rattle.std.specs.List.{Contains}
use Rattle.std.proofs.lemmas.List.Elements.{Contains-append_cases}
use Rattle.limbo_tree.specs.Exprs.{Expr}
use Rattle.limbo_tree.specs.Decls as decls
use Rattle.limbo_tree.specs.Decls.{FnType, Variant, Field, Decl, Member, Members, NoMembers, MoreMembers, IsDecl, IsMember, AreMembers}
use Rattle.limbo_tree.specs.Decls.{are_params, is_answer, is_raises, is_fn, VarMember, FnMember, ConMember, TypeMember, AdtMember}
use Rattle.limbo_tree.specs.Sources.{Top, Include, Declared as ADeclaration, Defined, IsTop}
use Rattle.limbo_declarations.specs.Rows as rows
use Rattle.limbo_declarations.specs.Rows.{Row, Declared, each, counted, rows_of_decl, rows_of_member, rows_of_members, rows_of_variants}
use Rattle.limbo_declarations.specs.Rows.{rows_of_pick, rows_of_adt, rows_of_fields}
use Rattle.limbo_top.specs.Tops.{Placed, Definition, rows_of_top, declared, definitions_of, definitions, row_of, Alone}
use Rattle.limbo_top.specs.Tops.{none_left, of_adt, of_module, by_itself}
use Rattle.limbo_entries.specs.Entries.{Entry, IsEntry, IsTable, Stands, at_top, within_other, inside_of}
use Rattle.limbo_entries.proofs.Lists.{contained}

-- What is declared so has functions as the grammar writes them.
pub Good : Declared → Type 0
Good (rows.Function f) = are_params f.params ≡ true
Good (rows.Module ms) = AreMembers ms
Good (rows.Adt ms pick) = AreMembers ms
Good (rows.Constant x i) = Unit {0}
Good (rows.Alias t) = Unit {0}
Good (rows.Variable t v) = Unit {0}
Good (rows.Inferred x) = Unit {0}
Good (rows.Imported s) = Unit {0}
Good (rows.Exception ts) = Unit {0}
Good (rows.Case fs) = Unit {0}

abbrev pub AllGood : List Row → Type 0
AllGood rs = (r : Row) → Contains rs r → Good r.means

-- ---- rows

only : {A : Type 0} (x y : A) → Contains (y ∷ []) x → y ≡ x
only x y (zero, l, e) = e
only x y (suc k, l, e) = absurd (omega (arith, l))

none_good : AllGood []
none_good r (k, l, e) = absurd (omega (arith, l))

one_good : (x : Row) → Good x.means → AllGood (x ∷ [])
one_good x g r h = subst (λ (z : Row). Good z.means) (only r x h) g

both_good : (xs ys : List Row) → AllGood xs → AllGood ys → AllGood (xs ++ ys)
both_good xs ys f g r h = elim (Contains-append_cases xs ys r h) [ inl c ↦ f r c | inr c ↦ g r c ]

good_each : (p : List ℕ) (ns : List (List ℕ)) (d : Declared) → Good d → AllGood (each p ns d)
good_each p [] d g = none_good
good_each p (n ∷ ns) d g =
    let x : Row = record { path = p; name = n; means = d } in
    both_good (x ∷ []) (each p ns d) (one_good x g) (good_each p ns d g)

good_counted : (p : List ℕ) (k : ℕ) (ns : List (List ℕ)) (e : Expr) → AllGood (counted p k ns e)
unfolding Good
good_counted p k [] e = none_good
good_counted p k (n ∷ ns) e =
    let x : Row = record { path = p; name = n; means = rows.Constant e k } in
    both_good (x ∷ []) (counted p (suc k) ns e) (one_good x tt) (good_counted p (suc k) ns e)

left : (a b : Bool) → (a && b) ≡ true → a ≡ true
left true b h = refl
left false b h = absurd (let e : false ≡ true = h in cc)

pub good_fn : (f : FnType) → is_fn f ≡ true → are_params f.params ≡ true
good_fn f h = left (are_params f.params) (is_answer f.answer) (left (are_params f.params && is_answer f.answer) (is_raises f.raises) h)

good_member : (p : List ℕ) (x : Member) → IsMember x → AllGood (rows_of_member p x)
unfolding Good
good_member p (VarMember ns t) g = good_each p ns (rows.Variable t None) tt
good_member p (FnMember ns f) g = good_each p ns (rows.Function f) (good_fn f g.1)
good_member p (ConMember ns e) g = good_counted p 0 ns e
good_member p (TypeMember ns t) g = good_each p ns (rows.Alias t) tt
good_member p (AdtMember n ms pick) g = one_good (record { path = p; name = n; means = rows.Adt ms pick }) g.0

good_members : (p : List ℕ) (ms : Members) → AreMembers ms → AllGood (rows_of_members p ms)
good_members p NoMembers g = none_good
good_members p (MoreMembers x ms) g =
    both_good (rows_of_member p x) (rows_of_members p ms) (good_member p x g.0) (good_members p ms g.1)

good_variants : (p : List ℕ) (vs : List Variant) → AllGood (rows_of_variants p vs)
unfolding Good
good_variants p [] = none_good
good_variants p (v ∷ vs) =
    both_good (each p v.names (rows.Case v.fields)) (rows_of_variants p vs) (good_each p v.names (rows.Case v.fields) tt)
    (good_variants p vs)

good_pick : (p : List ℕ) (pick : Option (List Variant)) → AllGood (rows_of_pick p pick)
good_pick p None = none_good
good_pick p (Some vs) = good_variants p vs

good_fields : (p : List ℕ) (fs : List Field) → AllGood (rows_of_fields p fs)
unfolding Good
good_fields p [] = none_good
good_fields p (f ∷ fs) =
    both_good (each p f.names (rows.Variable f.of None)) (rows_of_fields p fs) (good_each p f.names (rows.Variable f.of None) tt)
    (good_fields p fs)

good_inside : (p : List ℕ) (d : Declared) → Good d → AllGood (inside_of p d)
unfolding Good
good_inside p (rows.Module ms) g = good_members p ms g
good_inside p (rows.Adt ms pick) g = both_good (rows_of_members p ms) (rows_of_pick p pick) (good_members p ms g) (good_pick p pick)
good_inside p (rows.Case fs) g = good_fields p fs
good_inside p (rows.Function f) g = none_good
good_inside p (rows.Constant x i) g = none_good
good_inside p (rows.Alias t) g = none_good
good_inside p (rows.Variable t v) g = none_good
good_inside p (rows.Inferred x) g = none_good
good_inside p (rows.Imported s) g = none_good
good_inside p (rows.Exception ts) g = none_good

good_decl : (p : List ℕ) (d : Decl) → IsDecl d → AllGood (rows_of_decl p d)
unfolding Good
good_decl p (decls.Con ns e) g = good_counted p 0 ns e
good_decl p (decls.TypeName ns t) g = good_each p ns (rows.Alias t) tt
good_decl p (decls.Var ns t e) g = good_each p ns (rows.Variable t e) tt
good_decl p (decls.Define ns e) g = good_each p ns (rows.Inferred e) tt
good_decl p (decls.Import ns m) g = good_each p ns (rows.Imported m) tt
good_decl p (decls.Exception ns ts) g = good_each p ns (rows.Exception ts) tt
good_decl p (decls.Module n ms) g = one_good (record { path = p; name = n; means = rows.Module ms }) g
good_decl p (decls.Adt n ms pick) g = one_good (record { path = p; name = n; means = rows.Adt ms pick }) g.0

-- ---- tables

module _ (top : List Row) (es : List Entry) (table : IsTable top es) (all : AllGood top) where
  good_at : (k : ℕ) (s : Option ℕ) (r : Row) → Stands top es k s r
      → ((j : ℕ) (e : Entry) → j < k → IsEntry es j e → Good e.row.means) → Good r.means
  good_at k _ r (at_top _ at) before = all r (contained top k r at)
  good_at k _ r (within_other j outer _ at l c) before =
      good_inside outer.row.path outer.row.means (before j outer l at) r c

  good_to : (n k : ℕ) (e : Entry) → k < n → IsEntry es k e → Good e.row.means
  good_to zero k e l at = absurd (omega (arith, l))
  good_to (suc n) k e l at =
      good_at k e.within e.row (table.only k e at) (λ j f m there. good_to n j f (omega (arith, l, m)) there)

  pub good_entry : (k : ℕ) (e : Entry) → IsEntry es k e → Good e.row.means
  good_entry k e at = good_to (suc k) k e (omega arith) at

-- ---- the top level

abbrev pub AllTops : List Placed → Type 0
AllTops ss = (s : Placed) → Contains ss s → IsTop s.top

good_top : (p : List ℕ) (t : Top) → IsTop t → AllGood (rows_of_top p t)
good_top p (Include s) g = none_good
good_top p (ADeclaration d) g = good_decl p d g
good_top p (Defined n part f b) g = none_good

first_top : (s : Placed) (ss : List Placed) → AllTops (s ∷ ss) → IsTop s.top × AllTops ss
first_top s ss f = (f s (0, omega arith, refl), λ t h. f t (behind t h))
  where
    behind : (t : Placed) → Contains ss t → Contains (s ∷ ss) t
    behind t (k, l, e) = (suc k, omega (arith, l), e)

good_declared : (ss : List Placed) → AllTops ss → AllGood (declared ss)
good_declared [] f = none_good
good_declared (s ∷ ss) f =
    let g = first_top s ss f in
    both_good (rows_of_top s.path s.top) (declared ss) (good_top s.path s.top g.0) (good_declared ss g.1)

abbrev AllFns : List Definition → Type 0
AllFns ds = (d : Definition) → Contains ds d → are_params d.of.params ≡ true

fns_of : (p : List ℕ) (t : Top) → IsTop t → AllFns (definitions_of p t)
fns_of p (Include s) g d (k, l, e) = absurd (omega (arith, l))
fns_of p (ADeclaration x) g d (k, l, e) = absurd (omega (arith, l))
fns_of p (Defined n part f b) g d h =
    subst (λ (z : Definition). are_params z.of.params ≡ true) (only d (record { path = p; name = n; part = part; of = f }) h)
    (good_fn f g.0)

all_fns : (ss : List Placed) → AllTops ss → AllFns (definitions ss)
all_fns [] f d (k, l, e) = absurd (omega (arith, l))
all_fns (s ∷ ss) f d h =
    let g = first_top s ss f in
    elim (Contains-append_cases (definitions_of s.path s.top) (definitions ss) d h) [
      | inl c ↦ fns_of s.path s.top g.0 d c
      | inr c ↦ all_fns ss g.1 d c
    ]

first_fn : (d : Definition) (ds : List Definition) → AllFns (d ∷ ds) → (are_params d.of.params ≡ true) × AllFns ds
first_fn d ds f = (f d (0, omega arith, refl), λ t h. f t (behind t h))
  where
    behind : (t : Definition) → Contains ds t → Contains (d ∷ ds) t
    behind t (k, l, e) = (suc k, omega (arith, l), e)

good_alone : (members : List Row) (ds : List Definition) (rs : List Row) → Alone members ds rs → AllFns ds → AllGood rs
unfolding Good
good_alone members _ _ none_left f = none_good
good_alone members _ _ (of_adt d g ds rs p a) f = good_alone members ds rs a (first_fn d ds f).1
good_alone members _ _ (of_module d ds rs p h a) f = good_alone members ds rs a (first_fn d ds f).1
good_alone members _ _ (by_itself d ds rs p h a) f =
    let g = first_fn d ds f in
    both_good (row_of d ∷ []) rs (one_good (row_of d) g.0) (good_alone members ds rs a g.1)

pub good_numbered : (members : List Row) (ss : List Placed) (rs : List Row) → Alone members (definitions ss) rs → AllTops ss
    → AllGood (declared ss ++ rs)
good_numbered members ss rs a f = both_good (declared ss) rs (good_declared ss f) (good_alone members (definitions ss) rs a (all_fns ss f))

pub function_good : (e : Entry) (f : FnType) → Good e.row.means → e.row.means ≡ rows.Function f → are_params f.params ≡ true
unfolding Good
function_good e f g is = let h : Good (rows.Function f) = subst Good is g in h
