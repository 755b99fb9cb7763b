-- Well-formed trees within a limit, part by part: from each to all, and from all to each. And spellings as those of lists.
use Rattle.std.proofs.Common.{◌≡◌, ℕ, ◌≤◌, Bool, true, false, List, [], ◌∷◌, length, Option, Some, None, refl, ap, arith}
use Rattle.std.specs.Prelude.{◌&&◌}
use Rattle.limbo_lexer.specs.declared.token.Kind.{Kind}
use Rattle.limbo_lexer.specs.declared.token.Kind.TheVariants as kind
use Rattle.limbo_lexer.specs.declared.token.Mark.TheVariants as mark
use Rattle.limbo_lexer.specs.declared.token.Key.TheVariants as key
use Rattle.limbo_tree.specs.Tokens.{◌▸◌, ◌▹◌, spell_name, spell_more_names, spell_other_names, is_some}
use Rattle.limbo_tree.specs.Types.{Ty, Tys, NoTys, MoreTys, ArrayOf, ListOf, ChanOf, RefTo, Named, Tuple, Qual, spell_ty, spell_tys, spell_more_tys, ty_nesting, tys_nesting, is_ty, are_all_tys}
use Rattle.limbo_tree.specs.Types as types
use Rattle.limbo_tree.specs.Decls.{Param, Field, Variant, Member, Members, NoMembers, MoreMembers, spell_pname, spell_pnames, spell_more_pnames, spell_self, spell_param, spell_more_params, spell_field, spell_fields, spell_variant, spell_variants, spell_member, spell_members, params_nesting, fields_nesting, variants_nesting, member_nesting, members_nesting, are_params, are_fields, are_variants, IsMember, AreMembers}
use Rattle.limbo_tree.specs.View.{tys_of, members_of}
use Rattle.limbo_reading.proofs.Lists.{spell_others, spell_all, Each}

pub three : (a b c : Bool) → a && b && c ≡ true → (a ≡ true) × (b ≡ true) × (c ≡ true)
three true true true h = (refl, refl, refl)
three _ _ _ h = absurd cc

pub three_true : (a b c : Bool) → a ≡ true → b ≡ true → c ≡ true → a && b && c ≡ true
three_true true true true h k l = refl
three_true _ _ _ h k l = absurd cc

pub two : (a b : Bool) → a && b ≡ true → (a ≡ true) × (b ≡ true)
two true true h = (refl, refl)
two _ _ h = absurd cc

pub two_true : (a b : Bool) → a ≡ true → b ≡ true → a && b ≡ true
two_true true true h k = refl
two_true _ _ h k = absurd cc

-- nothing is asked of each
pub each_any : {A : Type 0} (xs : List A) → Each (λ x. Unit {0}) xs
each_any [] = tt
each_any (x ∷ xs) = (tt, each_any xs)

-- ---- names

pub others_names : (ns : List (List ℕ)) (ts : List Kind) → spell_others spell_name (kind.Mark mark.Comma) ns ts ≡ spell_more_names ns ts
others_names [] ts = refl
others_names (n ∷ ns) ts = ap (λ (v : List Kind). mark.Comma ▸ kind.Name n ∷ v) (others_names ns ts)

pub others_choices : (ns : List (List ℕ)) (ts : List Kind) → spell_others spell_name (kind.Key key.Or) ns ts ≡ spell_other_names ns ts
others_choices [] ts = refl
others_choices (n ∷ ns) ts = ap (λ (v : List Kind). key.Or ▹ kind.Name n ∷ v) (others_choices ns ts)

pub others_pnames : (ns : List (Option (List ℕ))) (ts : List Kind) → spell_others spell_pname (kind.Mark mark.Comma) ns ts ≡ spell_more_pnames ns ts
others_pnames [] ts = refl
others_pnames (n ∷ ns) ts = ap (λ (v : List Kind). mark.Comma ▸ spell_pname n v) (others_pnames ns ts)

pub pname_grows : (n : Option (List ℕ)) (ts : List Kind) → length ts ≤ length (spell_pname n ts)
pname_grows None ts = omega arith
pname_grows (Some n) ts = omega arith

-- ---- types

abbrev pub GoodTy : ℕ → Ty → Type 0
GoodTy b t = (is_ty t ≡ true) × (ty_nesting t ≤ b)

abbrev pub ty_list : Tys → List Ty
ty_list NoTys = []
ty_list (MoreTys t tys) = t ∷ ty_list tys

pub tys_of_list : (tys : Tys) → tys_of (ty_list tys) ≡ tys
tys_of_list NoTys = refl
tys_of_list (MoreTys t tys) = ap (MoreTys t) (tys_of_list tys)

pub others_tys : (tys : List Ty) (ts : List Kind) → spell_others spell_ty (kind.Mark mark.Comma) tys ts ≡ spell_more_tys (tys_of tys) ts
others_tys [] ts = refl
others_tys (t ∷ tys) ts = ap (λ (v : List Kind). mark.Comma ▸ spell_ty t v) (others_tys tys ts)

pub each_ty : (b : ℕ) (tys : Tys) → are_all_tys tys ≡ true → tys_nesting tys ≤ b → Each (GoodTy b) (ty_list tys)
each_ty b NoTys g d = tt
each_ty b (MoreTys t tys) g d =
    let p = two (is_ty t) (are_all_tys tys) g in
    ((p.0, omega arith), each_ty b tys p.1 (omega arith))

pub all_tys : (b : ℕ) (tys : List Ty) → Each (GoodTy b) tys → (are_all_tys (tys_of tys) ≡ true) × (tys_nesting (tys_of tys) ≤ b)
all_tys b [] g = (refl, omega arith)
all_tys b (t ∷ tys) g =
    let r = all_tys b tys g.1 in
    let d = g.0.1 in
    (two_true (is_ty t) (are_all_tys (tys_of tys)) g.0.0 r.0, omega (arith, r.1))

member_grows : (n : Option (List ℕ)) (ts : List Kind) → length ts ≤ length (types.spell_member n ts)
member_grows None ts = omega arith
member_grows (Some n) ts = omega arith

part_grows : (n : Option (List ℕ)) (ts : List Kind) → length ts ≤ length (types.spell_part n ts)
part_grows None ts = omega arith
part_grows (Some n) ts = omega arith

qual_grows : (q : Qual) (ts : List Kind) → length ts ≤ length (types.spell_qual q ts)
qual_grows q ts = omega (arith, member_grows q.member (types.spell_part q.part ts), part_grows q.part ts)

mutual
  pub ty_grows : (t : Ty) (ts : List Kind) → length ts ≤ length (spell_ty t ts)
  ty_grows types.Byte ts = omega arith
  ty_grows types.Int ts = omega arith
  ty_grows types.Big ts = omega arith
  ty_grows types.String ts = omega arith
  ty_grows (ArrayOf t) ts = omega (arith, ty_grows t ts)
  ty_grows (ListOf t) ts = omega (arith, ty_grows t ts)
  ty_grows (ChanOf t) ts = omega (arith, ty_grows t ts)
  ty_grows (RefTo q) ts = omega (arith, qual_grows q ts)
  ty_grows (Named q) ts = omega (arith, qual_grows q ts)
  ty_grows (Tuple tys) ts = omega (arith, tys_grow tys (mark.CloseParen ▸ ts))

  tys_grow : (tys : Tys) (ts : List Kind) → length ts ≤ length (spell_tys tys ts)
  tys_grow NoTys ts = omega arith
  tys_grow (MoreTys t tys) ts = omega (arith, ty_grows t (spell_more_tys tys ts), more_tys_grow tys ts)

  more_tys_grow : (tys : Tys) (ts : List Kind) → length ts ≤ length (spell_more_tys tys ts)
  more_tys_grow NoTys ts = omega arith
  more_tys_grow (MoreTys t tys) ts = omega (arith, ty_grows t (spell_more_tys tys ts), more_tys_grow tys ts)

-- ---- parameters

abbrev pub GoodParam : ℕ → Param → Type 0
GoodParam b p = (is_some p.names ≡ true) × (is_ty p.of ≡ true) × (ty_nesting p.of ≤ b)

pub others_params : (ps : List Param) (ts : List Kind) → spell_others spell_param (kind.Mark mark.Comma) ps ts ≡ spell_more_params ps ts
others_params [] ts = refl
others_params (p ∷ ps) ts = ap (λ (v : List Kind). mark.Comma ▸ spell_param p v) (others_params ps ts)

more_pnames_grow : (ns : List (Option (List ℕ))) (ts : List Kind) → length ts ≤ length (spell_more_pnames ns ts)
more_pnames_grow [] ts = omega arith
more_pnames_grow (n ∷ ns) ts = omega (arith, pname_grows n (spell_more_pnames ns ts), more_pnames_grow ns ts)

pnames_grow : (ns : List (Option (List ℕ))) (ts : List Kind) → length ts ≤ length (spell_pnames ns ts)
pnames_grow [] ts = omega arith
pnames_grow (n ∷ ns) ts = omega (arith, pname_grows n (spell_more_pnames ns ts), more_pnames_grow ns ts)

self_grows : (s : Bool) (ts : List Kind) → length ts ≤ length (spell_self s ts)
self_grows true ts = omega arith
self_grows false ts = omega arith

pub param_grows : (p : Param) (ts : List Kind) → length ts ≤ length (spell_param p ts)
param_grows p ts =
    omega (arith, pnames_grow p.names (mark.Colon ▸ spell_self p.is_self (spell_ty p.of ts)), self_grows p.is_self (spell_ty p.of ts), ty_grows p.of ts)

pub each_param : (b : ℕ) (ps : List Param) → are_params ps ≡ true → params_nesting ps ≤ b → Each (GoodParam b) ps
each_param b [] g d = tt
each_param b (p ∷ ps) g d =
    let q = three (is_some p.names) (is_ty p.of) (are_params ps) g in
    ((q.0, q.1, omega arith), each_param b ps q.2 (omega arith))

pub all_params : (b : ℕ) (ps : List Param) → Each (GoodParam b) ps → (are_params ps ≡ true) × (params_nesting ps ≤ b)
all_params b [] g = (refl, omega arith)
all_params b (p ∷ ps) g =
    let r = all_params b ps g.1 in
    (three_true (is_some p.names) (is_ty p.of) (are_params ps) g.0.0 g.0.1 r.0, omega (arith, r.1, g.0.2))

-- ---- variants

abbrev pub GoodField : ℕ → Field → Type 0
GoodField b f = (is_some f.names ≡ true) × (is_ty f.of ≡ true) × (ty_nesting f.of ≤ b)

pub all_fields_spelled : (fs : List Field) (ts : List Kind) → spell_all spell_field fs ts ≡ spell_fields fs ts
all_fields_spelled [] ts = refl
all_fields_spelled (f ∷ fs) ts = ap (spell_field f) (all_fields_spelled fs ts)

pub each_field : (b : ℕ) (fs : List Field) → are_fields fs ≡ true → fields_nesting fs ≤ b → Each (GoodField b) fs
each_field b [] g d = tt
each_field b (f ∷ fs) g d =
    let q = three (is_some f.names) (is_ty f.of) (are_fields fs) g in
    ((q.0, q.1, omega arith), each_field b fs q.2 (omega arith))

pub all_fields : (b : ℕ) (fs : List Field) → Each (GoodField b) fs → (are_fields fs ≡ true) × (fields_nesting fs ≤ b)
all_fields b [] g = (refl, omega arith)
all_fields b (f ∷ fs) g =
    let r = all_fields b fs g.1 in
    (three_true (is_some f.names) (is_ty f.of) (are_fields fs) g.0.0 g.0.1 r.0, omega (arith, r.1, g.0.2))

abbrev pub GoodVariant : ℕ → Variant → Type 0
GoodVariant b v = (is_some v.names ≡ true) × (are_fields v.fields ≡ true) × (fields_nesting v.fields ≤ b)

pub all_variants_spelled : (vs : List Variant) (ts : List Kind) → spell_all spell_variant vs ts ≡ spell_variants vs ts
all_variants_spelled [] ts = refl
all_variants_spelled (v ∷ vs) ts = ap (spell_variant v) (all_variants_spelled vs ts)

pub each_variant : (b : ℕ) (vs : List Variant) → are_variants vs ≡ true → variants_nesting vs ≤ b → Each (GoodVariant b) vs
each_variant b [] g d = tt
each_variant b (v ∷ vs) g d =
    let q = three (is_some v.names) (are_fields v.fields) (are_variants vs) g in
    ((q.0, q.1, omega arith), each_variant b vs q.2 (omega arith))

pub all_variants : (b : ℕ) (vs : List Variant) → Each (GoodVariant b) vs → (are_variants vs ≡ true) × (variants_nesting vs ≤ b)
all_variants b [] g = (refl, omega arith)
all_variants b (v ∷ vs) g =
    let r = all_variants b vs g.1 in
    (three_true (is_some v.names) (are_fields v.fields) (are_variants vs) g.0.0 g.0.1 r.0, omega (arith, r.1, g.0.2))

-- ---- members

abbrev pub GoodMember : ℕ → Member → Type 0
GoodMember b m = IsMember m × (member_nesting m ≤ b)

abbrev pub member_list : Members → List Member
member_list NoMembers = []
member_list (MoreMembers m ms) = m ∷ member_list ms

pub members_of_list : (ms : Members) → members_of (member_list ms) ≡ ms
members_of_list NoMembers = refl
members_of_list (MoreMembers m ms) = ap (MoreMembers m) (members_of_list ms)

pub all_members_spelled : (ms : List Member) (ts : List Kind) → spell_all spell_member ms ts ≡ spell_members (members_of ms) ts
all_members_spelled [] ts = refl
all_members_spelled (m ∷ ms) ts = ap (spell_member m) (all_members_spelled ms ts)

pub each_member : (b : ℕ) (ms : Members) → AreMembers ms → members_nesting ms ≤ b → Each (GoodMember b) (member_list ms)
each_member b NoMembers g d = tt
each_member b (MoreMembers m ms) g d = ((g.0, omega arith), each_member b ms g.1 (omega arith))

pub all_members : (b : ℕ) (ms : List Member) → Each (GoodMember b) ms → AreMembers (members_of ms) × (members_nesting (members_of ms) ≤ b)
all_members b [] g = (tt, omega arith)
all_members b (m ∷ ms) g =
    let r = all_members b ms g.1 in
    ((g.0.0, r.0), omega (arith, r.1, g.0.1))
