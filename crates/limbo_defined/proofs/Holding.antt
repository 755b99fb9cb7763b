-- Rows that hold functions, part by part.
use Rattle.std.proofs.Common.{◌≡◌, ℕ, suc, List, [], ◌∷◌, ◌++◌, Option, None, Some, IfSome, IfNone, ◌⊎◌, inl, inr, refl, sym, ap, subst}
use Rattle.std.proofs.Common.{arith}
use Rattle.std.specs.Prelude.{slice_get, option_copied}
use Rattle.std.specs.Borrow.{Bor}
use Rattle.std.specs.List.{Contains}
use Rattle.std.proofs.lemmas.List.Elements.{Contains-append_left, Contains-append_right, Contains-append_cases}
use Rattle.limbo_tree.specs.declared.name.Name as code_name
use Rattle.limbo_tree.specs.Decls.{FnType, Members, Variant}
use Rattle.limbo_tree.specs.Exprs.{Expr}
use Rattle.limbo_tree.specs.View.{names_of}
use Rattle.limbo_declarations.specs.Rows.{Row, Declared, Adt, Function, Constant, each, counted, rows_of_members}
use Rattle.limbo_includes.proofs.Lists.{contains_here, contains_cases}
use Rattle.limbo_defined.specs.Defined.{HasAdt, HasFunction, Holds, itself, inside, HasInner, IsNested}

pub contains_none : {X : Type 0} (x : X) → Contains [] x → ⊥
contains_none x c = let l = c.1 in absurd (omega arith)

pub only_one : {X : Type 0} (x y : X) → Contains (x ∷ []) y → x ≡ y
only_one x y c = elim (contains_cases x y [] c) [
  | inl e ↦ e
  | inr d ↦ absurd (contains_none y d)
]

pub none_then : {X P Q : Type 0} (o : Option X) → IfNone o P → (P → Q) → IfNone o Q
none_then None p f = f p
none_then (Some x) p f = tt

-- ---- two parts

pub function_left : (xs ys : List Row) (p n : List ℕ) → HasFunction xs p n → HasFunction (xs ++ ys) p n
function_left xs ys p n h = record {
  of = h.of;
  there = Contains-append_left xs ys (record { path = p; name = n; means = Function h.of })
      h.there;
}

pub function_right : (xs ys : List Row) (p n : List ℕ) → HasFunction ys p n → HasFunction (xs ++ ys) p n
function_right xs ys p n h = record {
  of = h.of;
  there = Contains-append_right xs ys
      (record { path = p; name = n; means = Function h.of }) h.there;
}

pub function_cases : (xs ys : List Row) (p n : List ℕ) → HasFunction (xs ++ ys) p n → HasFunction xs p n ⊎ HasFunction ys p n
function_cases xs ys p n h = elim (Contains-append_cases xs ys (record { path = p; name = n; means = Function h.of }) h.there) [
  | inl c ↦ inl (record { of = h.of; there = c })
  | inr c ↦ inr (record { of = h.of; there = c })
]

pub adt_left : (xs ys : List Row) (p n : List ℕ) (ms : Members) → HasAdt xs p n ms → HasAdt (xs ++ ys) p n ms
adt_left xs ys p n ms h = record {
  pick = h.pick;
  there = Contains-append_left xs ys
      (record { path = p; name = n; means = Adt ms h.pick }) h.there;
}

pub adt_right : (xs ys : List Row) (p n : List ℕ) (ms : Members) → HasAdt ys p n ms → HasAdt (xs ++ ys) p n ms
adt_right xs ys p n ms h = record {
  pick = h.pick;
  there = Contains-append_right xs ys
      (record { path = p; name = n; means = Adt ms h.pick }) h.there;
}

pub adt_cases : (xs ys : List Row) (p n : List ℕ) (ms : Members) → HasAdt (xs ++ ys) p n ms → HasAdt xs p n ms ⊎ HasAdt ys p n ms
adt_cases xs ys p n ms h = elim (Contains-append_cases xs ys (record { path = p; name = n; means = Adt ms h.pick }) h.there) [
  | inl c ↦ inl (record { pick = h.pick; there = c })
  | inr c ↦ inr (record { pick = h.pick; there = c })
]

pub holds_left : (n : List ℕ) (xs ys : List Row) → Holds n xs → Holds n (xs ++ ys)
holds_left n _ ys (itself rows p h) = itself (rows ++ ys) p (function_left rows ys p n h)
holds_left n _ ys (inside rows p a ms h k) = inside (rows ++ ys) p a ms (adt_left rows ys p a ms h) k

pub holds_right : (n : List ℕ) (xs ys : List Row) → Holds n ys → Holds n (xs ++ ys)
holds_right n xs _ (itself rows p h) = itself (xs ++ rows) p (function_right xs rows p n h)
holds_right n xs _ (inside rows p a ms h k) = inside (xs ++ rows) p a ms (adt_right xs rows p a ms h) k

holds_parts : (n : List ℕ) (zs : List Row) → Holds n zs → (xs ys : List Row) → zs ≡ xs ++ ys → Holds n xs ⊎ Holds n ys
holds_parts n _ (itself rows p h) xs ys e = elim (function_cases xs ys p n (subst (λ (z : List Row). HasFunction z p n) e h)) [
  | inl f ↦ inl (itself xs p f)
  | inr f ↦ inr (itself ys p f)
]
holds_parts n _ (inside rows p a ms h k) xs ys e = elim (adt_cases xs ys p a ms (subst (λ (z : List Row). HasAdt z p a ms) e h)) [
  | inl f ↦ inl (inside xs p a ms f k)
  | inr f ↦ inr (inside ys p a ms f k)
]

pub holds_cases : (n : List ℕ) (xs ys : List Row) → Holds n (xs ++ ys) → Holds n xs ⊎ Holds n ys
holds_cases n xs ys h = holds_parts n (xs ++ ys) h xs ys refl

pub inner_left : (xs ys : List Row) (p n : List ℕ) → HasInner xs p n → HasInner (xs ++ ys) p n
inner_left xs ys p n h = record { adt = h.adt; members = h.members; has_adt = adt_left xs ys p h.adt h.members h.has_adt; holds = h.holds }

pub inner_right : (xs ys : List Row) (p n : List ℕ) → HasInner ys p n → HasInner (xs ++ ys) p n
inner_right xs ys p n h = record {
  adt = h.adt;
  members = h.members;
  has_adt = adt_right xs ys p h.adt h.members h.has_adt;
  holds =
      h.holds;
}

pub inner_cases : (xs ys : List Row) (p n : List ℕ) → HasInner (xs ++ ys) p n → HasInner xs p n ⊎ HasInner ys p n
inner_cases xs ys p n h = elim (adt_cases xs ys p h.adt h.members h.has_adt) [
  | inl f ↦ inl (record { adt = h.adt; members = h.members; has_adt = f; holds = h.holds })
  | inr f ↦ inr (record { adt = h.adt; members = h.members; has_adt = f; holds = h.holds })
]

pub nested_left : (xs ys : List Row) (p n : List ℕ) → IsNested xs p n → IsNested (xs ++ ys) p n
nested_left xs ys p n h = record { adt = h.adt; members = h.members; has_adt = adt_left xs ys p h.adt h.members h.has_adt; inner = h.inner }

pub nested_right : (xs ys : List Row) (p n : List ℕ) → IsNested ys p n → IsNested (xs ++ ys) p n
nested_right xs ys p n h = record {
  adt = h.adt;
  members = h.members;
  has_adt = adt_right xs ys p h.adt h.members h.has_adt;
  inner =
      h.inner;
}

pub nested_cases : (xs ys : List Row) (p n : List ℕ) → IsNested (xs ++ ys) p n → IsNested xs p n ⊎ IsNested ys p n
nested_cases xs ys p n h = elim (adt_cases xs ys p h.adt h.members h.has_adt) [
  | inl f ↦ inl (record { adt = h.adt; members = h.members; has_adt = f; inner = h.inner })
  | inr f ↦ inr (record { adt = h.adt; members = h.members; has_adt = f; inner = h.inner })
]

-- ---- nothing

-- neither a function nor an adt
abbrev pub IsPlain : Declared → Type 0
IsPlain (Function f) = ⊥
IsPlain (Adt ms pick) = ⊥
IsPlain _ = Unit {0}

abbrev pub ArePlain : List Row → Type 0
ArePlain rs = (r : Row) → Contains rs r → IsPlain r.means

pub no_adt : (rs : List Row) (p n : List ℕ) (ms : Members) → ArePlain rs → HasAdt rs p n ms → ⊥
no_adt rs p n ms f h = f (record { path = p; name = n; means = Adt ms h.pick }) h.there

pub holds_nothing : (n : List ℕ) (rs : List Row) → Holds n rs → ArePlain rs → ⊥
holds_nothing n _ (itself rows p h) f = f (record { path = p; name = n; means = Function h.of }) h.there
holds_nothing n _ (inside rows p a ms h k) f = no_adt rows p a ms f h

pub none_plain : ArePlain []
none_plain r c = absurd (contains_none r c)

each_means : (p : List ℕ) (ns : List (List ℕ)) (d : Declared) (r : Row) → Contains (each p ns d) r → d ≡ r.means
each_means p [] d r c = absurd (contains_none r c)
each_means p (n ∷ ns) d r c = elim (contains_cases (record { path = p; name = n; means = d }) r (each p ns d) c) [
  | inl e ↦ ap (λ (z : Row). z.means) e
  | inr k ↦ each_means p ns d r k
]

pub each_plain : (p : List ℕ) (ns : List (List ℕ)) (d : Declared) → IsPlain d → ArePlain (each p ns d)
each_plain p ns d h r c = subst (λ (z : Declared). IsPlain z) (each_means p ns d r c) h

pub each_no_adt : (p : List ℕ) (ns : List (List ℕ)) (f : FnType) (q n : List ℕ) (ms : Members) → HasAdt (each p ns (Function f)) q n ms → ⊥
each_no_adt p ns f q n ms h = absurd (let e : Function f ≡ Adt ms h.pick = each_means p ns (Function f)
    (record { path = q; name = n; means = Adt ms h.pick }) h.there in cc)

pub counted_plain : (p : List ℕ) (ns : List (List ℕ)) (k : ℕ) (e : Expr) → ArePlain (counted p k ns e)
counted_plain p [] k e r c = absurd (contains_none r c)
counted_plain p (n ∷ ns) k e r c = elim (contains_cases (record { path = p; name = n; means = Constant e k }) r (counted p (suc k) ns e)
    c) [
      | inl s ↦ subst (λ (z : Row). IsPlain z.means) s tt
      | inr d ↦ counted_plain p ns (suc k) e r d
    ]

-- ---- one member

pub first_holds :
    (ns : List code_name.Name) (o : Option (Bor code_name.Name)) → option_copied o ≡ slice_get ns 0
    → IfSome o (λ n. (path : List ℕ) (f : FnType) → Holds n.now.text (each path (names_of ns) (Function f)))
first_holds ns None e = tt
first_holds [] (Some n) e = absurd cc
first_holds (x ∷ ns) (Some n) e = λ path f.
    let s : x ≡ n.now = cc in
    subst (λ (z : code_name.Name). Holds z.text (each path (names_of (x ∷ ns)) (Function f))) s
    (itself (each path (names_of (x ∷ ns)) (Function f)) path
    (record {
      of = f;
      there = contains_here (record { path = path; name = x.text; means = Function f })
          (each path (names_of ns) (Function f));
    }))

abbrev pub adt_row : (p a : List ℕ) → Members → Option (List Variant) → List Row
adt_row p a ms pick = record { path = p; name = a; means = Adt ms pick } ∷ []

pub has_row : (p a : List ℕ) (ms : Members) (pick : Option (List Variant)) → HasAdt (adt_row p a ms pick) p a ms
has_row p a ms pick = record { pick = pick; there = contains_here (record { path = p; name = a; means = Adt ms pick }) [] }

pub row_has : (p a : List ℕ) (ms : Members) (pick : Option (List Variant)) (q b : List ℕ) (ks : Members)
    → HasAdt (adt_row p a ms pick) q b ks → (p ≡ q) × (ms ≡ ks)
row_has p a ms pick q b ks h =
    let x : Row = record { path = p; name = a; means = Adt ms pick } in
    let y : Row = record { path = q; name = b; means = Adt ks h.pick } in
    let e : x ≡ y = only_one x y h.there in
    (ap (λ (z : Row). z.path) e, let f : Adt ms pick ≡ Adt ks h.pick = ap (λ (z : Row). z.means) e in cc)

pub adt_holds : (n p a : List ℕ) (ms : Members) (pick : Option (List Variant)) → Holds n (rows_of_members p ms)
    → Holds n (adt_row p a ms pick)
adt_holds n p a ms pick h = inside (adt_row p a ms pick) p a ms (has_row p a ms pick) h

adt_part : (n : List ℕ) (rs : List Row) → Holds n rs → (p a : List ℕ) (ms : Members) (pick : Option (List Variant))
    → rs ≡ adt_row p a ms pick → Holds n (rows_of_members p ms)
adt_part n _ (itself rows q h) p a ms pick e =
    let c : Contains (adt_row p a ms pick) (record { path = q; name = n; means = Function h.of }) = subst
    (λ (z : List Row). Contains z (record { path = q; name = n; means = Function h.of })) e h.there in
    let x : Row = record { path = p; name = a; means = Adt ms pick } in
    let y : Row = record { path = q; name = n; means = Function h.of } in
    absurd (let f : Adt ms pick ≡ Function h.of = ap (λ (z : Row). z.means) (only_one x y c) in cc)
adt_part n _ (inside rows q b ks h k) p a ms pick e =
    let r = row_has p a ms pick q b ks (subst (λ (z : List Row). HasAdt z q b ks) e h) in
    subst (λ (z : List ℕ). Holds n (rows_of_members z ms)) (sym r.0) (subst (λ (z : Members). Holds n (rows_of_members q z)) (sym r.1) k)

pub adt_held : (n p a : List ℕ) (ms : Members) (pick : Option (List Variant)) → Holds n (adt_row p a ms pick)
    → Holds n (rows_of_members p ms)
adt_held n p a ms pick h = adt_part n (adt_row p a ms pick) h p a ms pick refl

pub adt_inner : (n p a : List ℕ) (ms : Members) (pick : Option (List Variant)) → Holds n (rows_of_members p ms)
    → HasInner (adt_row p a ms pick) p n
adt_inner n p a ms pick h = record { adt = a; members = ms; has_adt = has_row p a ms pick; holds = h }

pub inner_adt : (n p a : List ℕ) (ms : Members) (pick : Option (List Variant)) (q : List ℕ) → HasInner (adt_row p a ms pick) q n
    → Holds n (rows_of_members q ms)
inner_adt n p a ms pick q h =
    let r = row_has p a ms pick q h.adt h.members h.has_adt in
    subst (λ (z : Members). Holds n (rows_of_members q z)) (sym r.1) h.holds

pub adt_nested : (n p a : List ℕ) (ms : Members) (pick : Option (List Variant)) → HasInner (rows_of_members p ms) p n
    → IsNested (adt_row p a ms pick) p n
adt_nested n p a ms pick h = record { adt = a; members = ms; has_adt = has_row p a ms pick; inner = h }

pub nested_adt : (n p a : List ℕ) (ms : Members) (pick : Option (List Variant)) (q : List ℕ) → IsNested (adt_row p a ms pick) q n
    → HasInner (rows_of_members q ms) q n
nested_adt n p a ms pick q h =
    let r = row_has p a ms pick q h.adt h.members h.has_adt in
    subst (λ (z : Members). HasInner (rows_of_members q z) q n) (sym r.1) h.inner
