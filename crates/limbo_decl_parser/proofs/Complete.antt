-- What is spelled so is read.
use Rattle.std.proofs.Common.{◌≡◌, ℕ, zero, suc, ◌+◌, ◌≤◌, Bool, true, false, List, [], ◌∷◌, length, Option, Some, None, Ok, refl, sym, ap, subst, ◌∙◌, arith, rules, inl, inr}
use denote.Enum.Bare.{same_true}
use Rattle.limbo_lexer.specs.declared.token.Kind.{Kind}
use Rattle.limbo_lexer.specs.declared.token.Kind.TheVariants as kind
use Rattle.limbo_lexer.specs.declared.token.Mark.TheVariants as mark
use Rattle.limbo_lexer.specs.declared.token.Key.{Key}
use Rattle.limbo_lexer.specs.declared.token.Key.TheVariants as key
use Rattle.limbo_lexer.specs.contracts.token.Key as the_key
use Rattle.limbo_reading.specs.Reading.{Reader, after_mark, after_key, expect_name, same_key}
use Rattle.limbo_reading.specs.Lists.{items, names_at, choices_at}
use Rattle.limbo_reading.proofs.Steps.{tell_bool, Keeps, kept_shorter}
use Rattle.limbo_reading.proofs.Lists.{items_again, until_again, Each, spell_all}
use Rattle.limbo_tree.specs.Tokens.{◌▸◌, ◌▹◌, spell_name, spell_names, spell_choices, is_some}
use Rattle.limbo_tree.specs.Types.{Ty, Tys, NoTys, MoreTys, spell_ty, spell_more_tys, tys_nesting, are_all_tys}
use Rattle.limbo_tree.specs.Exprs.{Expr, spell}
use Rattle.limbo_tree.specs.Decls.{Param, Raises, One, Several, FnType, Field, Variant, Member, VarMember, FnMember, ConMember, TypeMember, AdtMember, Members, Decl, Con, TypeName, Var, Define, Import, Exception, Module, Adt, spell_pname, spell_pnames, spell_self, spell_param, spell_params, spell_more_params, spell_answer, spell_raises, spell_fn, spell_field, spell_fields, spell_variant, spell_variants, spell_pick, spell_member, spell_members, spell_value, spell_values, spell_decl, option_nesting, answer_nesting, params_nesting, fn_nesting, fields_nesting, variants_nesting, pick_nesting, members_nesting, decl_nesting, IsOption, are_params, is_answer, is_raises, is_fn, are_fields, are_variants, is_pick, AreMembers, IsDecl}
use Rattle.limbo_expr_parts.specs.Strength.{Stops}
use Rattle.limbo_expr_parts.specs.Types.{ty_at}
use Rattle.limbo_decl_parser.specs.Decls.{pname_at, pnames_at, self_at, param_at, params_at, answer_at, raises_at, fn_at, begins_field, field_at, fields_at, fields_end, variant_at, variants_at, variants_end, pick_at, Inside, ends_members, members_end, members_of_at, adt_of_at, member_behind, member_of_at, adt_at, member_at, value_at, values_at, module_at, decl_of_type, decl_behind, decl_at}
use Rattle.limbo_expr_parts.specs.Strength.{begins_ty}
use Rattle.limbo_expr_parser.proofs.Laws.{ty_again, expr_again, spell_ty_begins}
use Rattle.limbo_decl_parser.proofs.Good.{three, each_any, others_names, others_choices, others_pnames, pname_grows, GoodTy, ty_list, tys_of_list, others_tys, each_ty, ty_grows, GoodParam, others_params, param_grows, each_param, GoodField, all_fields_spelled, each_field, GoodVariant, all_variants_spelled, each_variant, GoodMember, member_list, members_of_list, all_members_spelled, each_member}
use Rattle.limbo_decl_parser.proofs.Places.{field_keeps, variant_keeps, member_keeps}
use Rattle.limbo_decl_parser.proofs.Sound.{spell_adt, GoodInside, spell_module}

-- a list's spelling has at least as many tokens as the list has items, where each is read back and takes a token
pub all_length : {A : Type 0} (r : Reader A) (spell_one : A → List Kind → List Kind) (Good : A → Type 0) (follows : List Kind → Type 0) (b : ℕ)
    → ((x : A) (us : List Kind) → Good x → follows (spell_one x us))
    → ((x : A) (us : List Kind) → Good x → follows us → r (spell_one x us) ≡ Ok (x, us))
    → ((us : List Kind) → Keeps b 1 (length us) (r us))
    → (xs : List A) (ts : List Kind) → Each Good xs → follows ts → length xs + length ts ≤ length (spell_all spell_one xs ts)
all_length r spell_one Good follows b begins one keeps [] ts g f = omega arith
all_length r spell_one Good follows b begins one keeps (x ∷ []) ts g f =
    omega (arith, kept_shorter b 1 (length (spell_one x ts)) (r (spell_one x ts)) x ts (keeps (spell_one x ts)) (one x ts g.0 f))
all_length r spell_one Good follows b begins one keeps (x ∷ y ∷ ys) ts g f =
    let us : List Kind = spell_all spell_one (y ∷ ys) ts in
    omega (arith, kept_shorter b 1 (length (spell_one x us)) (r (spell_one x us)) x us (keeps (spell_one x us)) (one x us g.0 (begins y _ g.1.0)), all_length r spell_one Good follows b begins one keeps (y ∷ ys) ts g.1 f)

-- ---- which keywords begin no type

abbrev pub is_ty_key : Key → Bool
is_ty_key key.Byte = true
is_ty_key key.Int = true
is_ty_key key.Big = true
is_ty_key key.String = true
is_ty_key key.Array = true
is_ty_key key.List = true
is_ty_key key.Chan = true
is_ty_key key.Ref = true
is_ty_key _ = false

key_begins : (k : Key) (ts : List Kind) → begins_ty (kind.Key k ∷ ts) ≡ is_ty_key k
key_begins key.Byte ts = refl
key_begins key.Int ts = refl
key_begins key.Big ts = refl
key_begins key.String ts = refl
key_begins key.Array ts = refl
key_begins key.List ts = refl
key_begins key.Chan ts = refl
key_begins key.Ref ts = refl
key_begins _ ts = refl

pub not_both : {A : Type 0} (t : Bool) → t ≡ false → t ≡ true → A
not_both t a b = absurd cc

pub no_key : (k : Key) (ts : List Kind) → is_ty_key k ≡ false → begins_ty ts ≡ true → after_key k ts ≡ None
no_key k [] n h = refl
no_key k (kind.Key l ∷ ts) n h = elim (tell_bool (same_key l k)) [
  | inl e ↦
      let same : l ≡ k = same_true the_key.the_type (search rules) l k e in
      not_both (is_ty_key k) n (ap is_ty_key (sym same) ∙ sym (key_begins l ts) ∙ h)
  | inr e ↦ rw e refl
]
no_key k (_ ∷ ts) n h = refl

-- ---- names

pub names_again : (ns : List (List ℕ)) (ts : List Kind) → is_some ns ≡ true → after_mark mark.Comma ts ≡ None → names_at (spell_names ns ts) ≡ Ok (ns, ts)
names_again [] ts g e = absurd cc
names_again (n ∷ ns) ts g e =
    ap (λ (v : List Kind). names_at (kind.Name n ∷ v)) (sym (others_names ns ts))
    ∙ items_again expect_name (after_mark mark.Comma) spell_name (kind.Mark mark.Comma) (λ x. Unit {0}) (λ us. Unit {0}) (λ x us h. refl) (λ us. tt) (λ x us. omega arith) (λ x us h f. refl) n ns ts tt (each_any ns) tt e

pub choices_again : (ns : List (List ℕ)) (ts : List Kind) → is_some ns ≡ true → after_key key.Or ts ≡ None → choices_at (spell_choices ns ts) ≡ Ok (ns, ts)
choices_again [] ts g e = absurd cc
choices_again (n ∷ ns) ts g e =
    ap (λ (v : List Kind). choices_at (kind.Name n ∷ v)) (sym (others_choices ns ts))
    ∙ items_again expect_name (after_key key.Or) spell_name (kind.Key key.Or) (λ x. Unit {0}) (λ us. Unit {0}) (λ x us h. refl) (λ us. tt) (λ x us. omega arith) (λ x us h f. refl) n ns ts tt (each_any ns) tt e

-- ---- function types

pname_again : (n : Option (List ℕ)) (ts : List Kind) → pname_at (spell_pname n ts) ≡ Ok (n, ts)
pname_again None ts = refl
pname_again (Some n) ts = refl

pnames_again : (ns : List (Option (List ℕ))) (ts : List Kind) → is_some ns ≡ true → after_mark mark.Comma ts ≡ None → pnames_at (spell_pnames ns ts) ≡ Ok (ns, ts)
pnames_again [] ts g e = absurd cc
pnames_again (n ∷ ns) ts g e =
    ap (λ (v : List Kind). pnames_at (spell_pname n v)) (sym (others_pnames ns ts))
    ∙ items_again pname_at (after_mark mark.Comma) spell_pname (kind.Mark mark.Comma) (λ x. Unit {0}) (λ us. Unit {0}) (λ x us h. refl) (λ us. tt) pname_grows (λ x us h f. pname_again x us) n ns ts tt (each_any ns) tt e

self_again : (s : Bool) (ts : List Kind) → begins_ty ts ≡ true → self_at (spell_self s ts) ≡ Ok (s, ts)
self_again true ts h = refl
self_again false ts h = rw (no_key key.SelfWord ts refl h) refl

param_again : (b : ℕ) (p : Param) (ts : List Kind) → GoodParam b p → Stops 0 ts → param_at b (spell_param p ts) ≡ Ok (p, ts)
unfolding param_at
param_again b p ts g s =
    rw (
      pnames_again p.names (mark.Colon ▸ spell_self p.is_self (spell_ty p.of ts)) g.0 refl,
      self_again p.is_self (spell_ty p.of ts) (spell_ty_begins p.of ts g.1),
      ty_again b p.of ts g.1 g.2 s,
    ) refl

pnames_open : (ns : List (Option (List ℕ))) (ts : List Kind) → is_some ns ≡ true → after_mark mark.CloseParen (spell_pnames ns ts) ≡ None
pnames_open [] ts g = absurd cc
pnames_open (None ∷ ns) ts g = refl
pnames_open (Some n ∷ ns) ts g = refl

params_again : (b : ℕ) (ps : List Param) (ts : List Kind) → are_params ps ≡ true → params_nesting ps ≤ b → params_at b (spell_params ps (mark.CloseParen ▸ ts)) ≡ Ok (ps, ts)
unfolding params_at
params_again b [] ts g d = refl
params_again b (p ∷ ps) ts g d =
    let all = each_param b (p ∷ ps) g d in
    let read : items (param_at b) (after_mark mark.Comma) (spell_params (p ∷ ps) (mark.CloseParen ▸ ts)) ≡ Ok (p ∷ ps, mark.CloseParen ▸ ts) =
    ap (λ (v : List Kind). items (param_at b) (after_mark mark.Comma) (spell_param p v)) (sym (others_params ps (mark.CloseParen ▸ ts)))
    ∙ items_again (param_at b) (after_mark mark.Comma) spell_param (kind.Mark mark.Comma) (GoodParam b) (Stops 0) (λ x us h. refl) (λ us. omega arith) param_grows (param_again b) p ps (mark.CloseParen ▸ ts) all.0 all.1 (omega arith) refl
    in
    rw (pnames_open p.names (mark.Colon ▸ spell_self p.is_self (spell_ty p.of (spell_more_params ps (mark.CloseParen ▸ ts)))) all.0.0, read) refl

answer_again : (b : ℕ) (t : Option Ty) (ts : List Kind) → is_answer t ≡ true → answer_nesting t ≤ b → Stops 0 ts → after_mark mark.Colon ts ≡ None → answer_at b (spell_answer t ts) ≡ Ok (t, ts)
unfolding answer_at
answer_again b None ts g d s e = rw e refl
answer_again b (Some t) ts g d s e = rw (ty_again b t ts g d s) refl

raises_again : (r : Option Raises) (ts : List Kind) → is_raises r ≡ true → after_key key.Raises ts ≡ None → raises_at (spell_raises r ts) ≡ Ok (r, ts)
unfolding raises_at
raises_again None ts g e = rw e refl
raises_again (Some (One n)) ts g e = refl
raises_again (Some (Several ns)) ts g e = rw (names_again ns (mark.CloseParen ▸ ts) g refl) refl

raises_stop : (r : Option Raises) (ts : List Kind) → Stops 0 ts → Stops 0 (spell_raises r ts)
raises_stop None ts s = s
raises_stop (Some (One n)) ts s = omega arith
raises_stop (Some (Several ns)) ts s = omega arith

raises_no_colon : (r : Option Raises) (ts : List Kind) → after_mark mark.Colon ts ≡ None → after_mark mark.Colon (spell_raises r ts) ≡ None
raises_no_colon None ts e = e
raises_no_colon (Some (One n)) ts e = refl
raises_no_colon (Some (Several ns)) ts e = refl

pub fn_again : (b : ℕ) (f : FnType) (ts : List Kind) → is_fn f ≡ true → fn_nesting f ≤ b → Stops 0 ts → after_mark mark.Colon ts ≡ None → after_key key.Raises ts ≡ None → fn_at b (spell_fn f ts) ≡ Ok (f, ts)
unfolding fn_at
fn_again b f ts g d s no_colon no_raises =
    let q = three (are_params f.params) (is_answer f.answer) (is_raises f.raises) g in
    rw (
      params_again b f.params (spell_answer f.answer (spell_raises f.raises ts)) q.0 (omega arith),
      answer_again b f.answer (spell_raises f.raises ts) q.1 (omega arith) (raises_stop f.raises ts s) (raises_no_colon f.raises ts no_colon),
      raises_again f.raises ts q.2 no_raises,
    ) refl

-- ---- variants

field_again : (b : ℕ) (f : Field) (ts : List Kind) → GoodField b f → field_at b (spell_field f ts) ≡ Ok (f, ts)
unfolding field_at
field_again b f ts g =
    rw (
      names_again f.names (mark.Colon ▸ spell_ty f.of (mark.Semicolon ▸ ts)) g.0 refl,
      ty_again b f.of (mark.Semicolon ▸ ts) g.1 g.2 (omega arith),
    ) refl

names_begin_field : (ns : List (List ℕ)) (ts : List Kind) → is_some ns ≡ true → fields_end (spell_names ns (mark.Colon ▸ ts)) ≡ Ok false
names_begin_field [] ts g = absurd cc
names_begin_field (n ∷ []) ts g = refl
names_begin_field (n ∷ m ∷ ns) ts g = refl

fields_again : (b : ℕ) (fs : List Field) (ts : List Kind) → are_fields fs ≡ true → fields_nesting fs ≤ b → begins_field ts ≡ false → fields_at b (spell_fields fs ts) ≡ Ok (fs, ts)
fields_again b fs ts g d e =
    let all = each_field b fs g d in
    let count = all_length (field_at b) spell_field (GoodField b) (λ us. Unit {0}) (b + 2) (λ x us h. tt) (λ x us h f. field_again b x us h) (field_keeps b) fs ts all tt in
    subst (λ (v : List Kind). fields_at b v ≡ Ok (fs, ts)) (all_fields_spelled fs ts)
    (until_again (field_at b) fields_end spell_field (GoodField b) (λ us. Unit {0}) (λ x us h f. names_begin_field x.names _ h.0) (λ x us h. tt) (λ x us h f. field_again b x us h) fs (suc (length (spell_all spell_field fs ts))) ts all tt (rw e refl) (omega arith))

variant_again : (b : ℕ) (v : Variant) (ts : List Kind) → GoodVariant b v → begins_field ts ≡ false → variant_at b (spell_variant v ts) ≡ Ok (v, ts)
unfolding variant_at
variant_again b v ts g e =
    rw (
      choices_again v.names (mark.FatArrow ▸ spell_fields v.fields ts) g.0 refl,
      fields_again b v.fields ts g.1 g.2 e,
    ) refl

choices_begin_none : (ns : List (List ℕ)) (ts : List Kind) → is_some ns ≡ true → begins_field (spell_choices ns (mark.FatArrow ▸ ts)) ≡ false
choices_begin_none [] ts g = absurd cc
choices_begin_none (n ∷ []) ts g = refl
choices_begin_none (n ∷ m ∷ ns) ts g = refl

choices_open : (ns : List (List ℕ)) (ts : List Kind) → is_some ns ≡ true → variants_end (spell_choices ns ts) ≡ Ok false
choices_open [] ts g = absurd cc
choices_open (n ∷ ns) ts g = refl

variants_again : (b : ℕ) (vs : List Variant) (ts : List Kind) → are_variants vs ≡ true → variants_nesting vs ≤ b → variants_at b (spell_variants vs (mark.CloseBrace ▸ ts)) ≡ Ok (vs, mark.CloseBrace ▸ ts)
variants_again b vs ts g d =
    let us : List Kind = mark.CloseBrace ▸ ts in
    let all = each_variant b vs g d in
    let count = all_length (variant_at b) spell_variant (GoodVariant b) (λ ws. begins_field ws ≡ false) (b + 2) (λ x ws h. choices_begin_none x.names _ h.0) (variant_again b) (variant_keeps b) vs us all refl in
    subst (λ (v : List Kind). variants_at b v ≡ Ok (vs, us)) (all_variants_spelled vs us)
    (until_again (variant_at b) variants_end spell_variant (GoodVariant b) (λ ws. begins_field ws ≡ false) (λ x ws h f. choices_open x.names _ h.0) (λ x ws h. choices_begin_none x.names _ h.0) (variant_again b) vs (suc (length (spell_all spell_variant vs us))) us all refl refl (omega arith))

pick_again : (b : ℕ) (p : Option (List Variant)) (ts : List Kind) → is_pick p ≡ true → pick_nesting p ≤ b → after_key key.Pick ts ≡ None → pick_at b (spell_pick p ts) ≡ Ok (p, ts)
unfolding pick_at
pick_again b None ts g d e = rw e refl
pick_again b (Some vs) ts g d e = rw (variants_again b vs ts g d) refl

-- ---- members

names_go_on : (ns : List (List ℕ)) (ts : List Kind) → is_some ns ≡ true → members_end (spell_names ns ts) ≡ Ok false
names_go_on [] ts g = absurd cc
names_go_on (n ∷ ns) ts g = refl

member_goes_on : (b : ℕ) (m : Member) (ts : List Kind) → GoodMember b m → members_end (spell_member m ts) ≡ Ok false
member_goes_on b (VarMember ns t) ts g = names_go_on ns _ g.0.0
member_goes_on b (FnMember ns f) ts g = names_go_on ns _ g.0.0
member_goes_on b (ConMember ns e) ts g = names_go_on ns _ g.0.0
member_goes_on b (TypeMember ns t) ts g = names_go_on ns _ g.0.0
member_goes_on b (AdtMember n ms p) ts g = refl

members_of_again : (b : ℕ) (r : Reader Member) → ((m : Member) (us : List Kind) → GoodMember b m → r (spell_member m us) ≡ Ok (m, us)) → ((us : List Kind) → Keeps (b + 2) 1 (length us) (r us))
    → (ms : Members) (ts : List Kind) → AreMembers ms → members_nesting ms ≤ b → ends_members ts ≡ true → members_of_at r (spell_members ms ts) ≡ Ok (member_list ms, ts)
unfolding members_of_at
members_of_again b r one keeps ms ts g d e =
    let xs : List Member = member_list ms in
    let all = each_member b ms g d in
    let count = all_length r spell_member (GoodMember b) (λ us. Unit {0}) (b + 2) (λ x us h. tt) (λ x us h f. one x us h) keeps xs ts all tt in
    subst (λ (v : List Kind). members_of_at r v ≡ Ok (xs, ts)) (all_members_spelled xs ts ∙ ap (λ (l : Members). spell_members l ts) (members_of_list ms))
    (until_again r members_end spell_member (GoodMember b) (λ us. Unit {0}) (λ x us h f. member_goes_on b x us h) (λ x us h. tt) (λ x us h f. one x us h) xs (suc (length (spell_all spell_member xs ts))) ts all tt (ap Ok e) (omega arith))

pick_ends : (p : Option (List Variant)) (ts : List Kind) → ends_members (spell_pick p (mark.CloseBrace ▸ ts)) ≡ true
pick_ends None ts = refl
pick_ends (Some vs) ts = refl

adt_of_again : (b : ℕ) (r : Reader Member) → ((m : Member) (us : List Kind) → GoodMember b m → r (spell_member m us) ≡ Ok (m, us)) → ((us : List Kind) → Keeps (b + 2) 1 (length us) (r us))
    → (x : Inside) (ts : List Kind) → GoodInside (suc b) x → adt_of_at r b (spell_adt x ts) ≡ Ok (x, ts)
unfolding adt_of_at
adt_of_again b r one keeps x ts g =
    let d = g.2 in
    rw (
      members_of_again b r one keeps x.members (spell_pick x.pick (mark.CloseBrace ▸ mark.Semicolon ▸ ts)) g.0 (omega arith) (pick_ends x.pick (mark.Semicolon ▸ ts)),
      pick_again b x.pick (mark.CloseBrace ▸ mark.Semicolon ▸ ts) g.1 (omega arith) refl,
      members_of_list x.members,
    ) refl

member_of_again : (b : ℕ) (r : Reader Inside) → ((x : Inside) (us : List Kind) → GoodInside b x → r (spell_adt x us) ≡ Ok (x, us)) → (m : Member) (ts : List Kind) → GoodMember b m → member_of_at r b (spell_member m ts) ≡ Ok (m, ts)
unfolding member_of_at member_behind
member_of_again b r adt (VarMember ns t) ts g =
    let begins = spell_ty_begins t (mark.Semicolon ▸ ts) g.0.1 in
    rw (
      names_again ns (mark.Colon ▸ spell_ty t (mark.Semicolon ▸ ts)) g.0.0 refl,
      no_key key.Fn (spell_ty t (mark.Semicolon ▸ ts)) refl begins,
      no_key key.Con (spell_ty t (mark.Semicolon ▸ ts)) refl begins,
      no_key key.TypeWord (spell_ty t (mark.Semicolon ▸ ts)) refl begins,
      no_key key.Adt (spell_ty t (mark.Semicolon ▸ ts)) refl begins,
      ty_again b t (mark.Semicolon ▸ ts) g.0.1 g.1 (omega arith),
    ) refl
member_of_again b r adt (FnMember ns f) ts g =
    rw (names_again ns (mark.Colon ▸ key.Fn ▹ spell_fn f (mark.Semicolon ▸ ts)) g.0.0 refl, fn_again b f (mark.Semicolon ▸ ts) g.0.1 g.1 (omega arith) refl refl) refl
member_of_again b r adt (ConMember ns e) ts g =
    rw (names_again ns (mark.Colon ▸ key.Con ▹ spell e (mark.Semicolon ▸ ts)) g.0.0 refl, expr_again b e (mark.Semicolon ▸ ts) g.0.1 g.1 (omega arith)) refl
member_of_again b r adt (TypeMember ns t) ts g =
    rw (names_again ns (mark.Colon ▸ key.TypeWord ▹ spell_ty t (mark.Semicolon ▸ ts)) g.0.0 refl, ty_again b t (mark.Semicolon ▸ ts) g.0.1 g.1 (omega arith)) refl
member_of_again b r adt (AdtMember n ms p) ts g =
    let x : Inside = record { members = ms; pick = p } in
    rw (names_again (n ∷ []) (mark.Colon ▸ spell_adt x ts) refl refl, adt x ts (g.0.0, g.0.1, g.1)) refl

adt_again : (b : ℕ) (x : Inside) (ts : List Kind) → GoodInside b x → adt_at b (spell_adt x ts) ≡ Ok (x, ts)
unfolding adt_at member_at
adt_again zero x ts g = let d = g.2 in absurd (omega arith)
adt_again (suc b) x ts g = adt_of_again b (member_at b) (member_of_again b (adt_at b) (adt_again b)) (member_keeps b) x ts g

member_again : (b : ℕ) (m : Member) (ts : List Kind) → GoodMember b m → member_at b (spell_member m ts) ≡ Ok (m, ts)
unfolding member_at
member_again b m ts g = member_of_again b (adt_at b) (adt_again b) m ts g

-- ---- declarations

value_again : (b : ℕ) (v : Option Expr) (ts : List Kind) → IsOption v → option_nesting v ≤ b → value_at b (spell_value v (mark.Semicolon ▸ ts)) ≡ Ok (v, mark.Semicolon ▸ ts)
unfolding value_at
value_again b None ts g d = refl
value_again b (Some e) ts g d = rw (expr_again b e (mark.Semicolon ▸ ts) g d (omega arith)) refl

value_stops : (v : Option Expr) (ts : List Kind) → Stops 0 (spell_value v (mark.Semicolon ▸ ts))
value_stops None ts = omega arith
value_stops (Some e) ts = omega arith

values_again : (b : ℕ) (tys : Tys) (ts : List Kind) → are_all_tys tys ≡ true → tys_nesting tys ≤ b → values_at b (spell_values tys (mark.Semicolon ▸ ts)) ≡ Ok (tys, mark.Semicolon ▸ ts)
unfolding values_at
values_again b NoTys ts g d = refl
values_again b (MoreTys t tys) ts g d =
    let us : List Kind = mark.CloseParen ▸ mark.Semicolon ▸ ts in
    let all = each_ty b (MoreTys t tys) g d in
    let read : items (ty_at b) (after_mark mark.Comma) (spell_ty t (spell_more_tys tys us)) ≡ Ok (t ∷ ty_list tys, us) =
    ap (λ (v : List Kind). items (ty_at b) (after_mark mark.Comma) (spell_ty t v)) (ap (λ (l : Tys). spell_more_tys l us) (sym (tys_of_list tys)) ∙ sym (others_tys (ty_list tys) us))
    ∙ items_again (ty_at b) (after_mark mark.Comma) spell_ty (kind.Mark mark.Comma) (GoodTy b) (Stops 0) (λ x ws h. refl) (λ ws. omega arith) ty_grows (λ x ws h s. ty_again b x ws h.0 h.1 s) t (ty_list tys) us all.0 all.1 (omega arith) refl
    in
    rw (read, tys_of_list tys) refl

module_again : (b : ℕ) (ms : Members) (ts : List Kind) → AreMembers ms → members_nesting ms ≤ b → module_at b (spell_module ms ts) ≡ Ok (ms, ts)
unfolding module_at
module_again b ms ts g d =
    rw (members_of_again b (member_at b) (member_again b) (member_keeps b) ms (mark.CloseBrace ▸ mark.Semicolon ▸ ts) g d refl, members_of_list ms) refl

pub decl_again : (b : ℕ) (d : Decl) (ts : List Kind) → IsDecl d → decl_nesting d ≤ b → decl_at b (spell_decl d ts) ≡ Ok (d, ts)
unfolding decl_at decl_behind decl_of_type
decl_again b (Con ns e) ts g d =
    rw (names_again ns (mark.Colon ▸ key.Con ▹ spell e (mark.Semicolon ▸ ts)) g.0 refl, expr_again b e (mark.Semicolon ▸ ts) g.1 d (omega arith)) refl
decl_again b (TypeName ns t) ts g d =
    rw (names_again ns (mark.Colon ▸ key.TypeWord ▹ spell_ty t (mark.Semicolon ▸ ts)) g.0 refl, ty_again b t (mark.Semicolon ▸ ts) g.1 d (omega arith)) refl
decl_again b (Var ns t v) ts g d =
    let us : List Kind = spell_value v (mark.Semicolon ▸ ts) in
    let begins = spell_ty_begins t us g.1 in
    rw (
      names_again ns (mark.Colon ▸ spell_ty t us) g.0 refl,
      no_key key.Con (spell_ty t us) refl begins,
      no_key key.TypeWord (spell_ty t us) refl begins,
      no_key key.Import (spell_ty t us) refl begins,
      no_key key.Exception (spell_ty t us) refl begins,
      no_key key.Module (spell_ty t us) refl begins,
      no_key key.Adt (spell_ty t us) refl begins,
      ty_again b t us g.1 (omega arith) (value_stops v ts),
      value_again b v ts g.2 (omega arith),
    ) refl
decl_again b (Define ns e) ts g d =
    rw (names_again ns (mark.Define ▸ spell e (mark.Semicolon ▸ ts)) g.0 refl, expr_again b e (mark.Semicolon ▸ ts) g.1 d (omega arith)) refl
decl_again b (Import ns m) ts g d =
    rw (names_again ns (mark.Colon ▸ key.Import ▹ kind.Name m ∷ (mark.Semicolon ▸ ts)) g refl) refl
decl_again b (Exception ns tys) ts g d =
    rw (names_again ns (mark.Colon ▸ key.Exception ▹ spell_values tys (mark.Semicolon ▸ ts)) g.0 refl, values_again b tys ts g.1 d) refl
decl_again b (Module n ms) ts g d =
    rw (names_again (n ∷ []) (mark.Colon ▸ key.Module ▹ spell_module ms ts) refl refl, module_again b ms ts g d) refl
decl_again b (Adt n ms p) ts g d =
    let x : Inside = record { members = ms; pick = p } in
    rw (names_again (n ∷ []) (mark.Colon ▸ spell_adt x ts) refl refl, adt_again b x ts (g.0, g.1, d)) refl
