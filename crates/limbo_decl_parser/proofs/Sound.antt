-- What is read is spelled so.
use Rattle.std.proofs.Common.{◌≡◌, ℕ, zero, suc, ◌+◌, ◌≤◌, true, max, List, [], ◌∷◌, length, Option, Some, Result, Ok, Err, refl, sym, ap, subst, ◌∙◌, arith}
use Rattle.std.specs.Prelude.{IfOk}
use Rattle.limbo_lexer.specs.declared.token.Kind.{Kind}
use Rattle.limbo_lexer.specs.declared.token.Kind.TheVariants as kind
use Rattle.limbo_lexer.specs.declared.token.Mark.TheVariants as mark
use Rattle.limbo_lexer.specs.declared.token.Key.TheVariants as key
use Rattle.limbo_reading.specs.declared.fault.Fault.{Fault}
use Rattle.limbo_reading.specs.Reading.{Reader, after_mark, after_key, expect_mark, expect_key, expect_name}
use Rattle.limbo_reading.specs.Lists.{items, names_at, choices_at}
use Rattle.limbo_reading.proofs.Steps.{took_bind, took_choose, took_mark, took_key, took_name, after_mark_is, after_key_is}
use Rattle.limbo_reading.proofs.Lists.{Took, TookItems, items_took, until_took, Each}
use Rattle.limbo_tree.specs.Tokens.{◌▸◌, ◌▹◌, spell_name, spell_names, spell_choices, is_some}
use Rattle.limbo_tree.specs.Types.{Ty, spell_ty, spell_tys, tys_nesting, are_all_tys}
use Rattle.limbo_tree.specs.Exprs.{spell, nesting, IsAt}
use Rattle.limbo_tree.specs.Decls.{Param, Raises, Member, Members, Decl, Con, Define, Import, Exception, Module, Adt, spell_pname, spell_pnames, spell_self, spell_param, spell_params, spell_answer, spell_raises, spell_fn, spell_field, spell_fields, spell_variant, spell_variants, spell_pick, spell_member, spell_members, spell_value, spell_values, spell_decl, option_nesting, answer_nesting, fn_nesting, fields_nesting, variants_nesting, pick_nesting, members_nesting, decl_nesting, IsOption, are_params, is_answer, is_raises, is_fn, are_fields, are_variants, is_pick, AreMembers, IsDecl}
use Rattle.limbo_tree.specs.View.{tys_of, members_of}
use Rattle.limbo_expr_parts.specs.Types.{ty_at}
use Rattle.limbo_decl_parser.specs.Decls.{ended, expr_at, pname_at, pnames_at, self_at, param_at, params_at, answer_at, raises_at, fn_at, field_at, fields_at, fields_end, variant_at, variants_at, variants_end, pick_at, Inside, members_end, members_of_at, only, adt_of_at, member_behind, member_of_at, adt_at, member_at, members_at, value_at, values_at, module_at, decl_of_type, decl_behind, decl_at}
use Rattle.limbo_expr_parser.proofs.Laws.{ty_took, expr_took}
use Rattle.limbo_decl_parser.proofs.Good.{three_true, others_names, others_choices, others_pnames, GoodTy, others_tys, all_tys, GoodParam, others_params, all_params, GoodField, all_fields_spelled, all_fields, GoodVariant, all_variants_spelled, all_variants, GoodMember, all_members_spelled, all_members}

pub weaken : {A : Type 0} (r : Result A Fault) (P Q : A → Type 0) → ((x : A) → P x → Q x) → IfOk r P → IfOk r Q
weaken (Ok x) P Q f h = f x h
weaken (Err e) P Q f h = tt

-- a thing and the ";" behind it
abbrev pub Closed : {A : Type 0} → (A → List Kind → List Kind) → (A → Type 0) → List Kind → A × List Kind → Type 0
Closed spell P ts x = (ts ≡ spell x.0 (mark.Semicolon ▸ x.1)) × P x.0

pub ended_took : {A : Type 0} (r : Reader A) (spell : A → List Kind → List Kind) (P : A → Type 0) (ts : List Kind) → IfOk (r ts) (Took spell P ts) → IfOk (ended r ts) (Closed spell P ts)
ended_took r spell P ts h =
    took_bind (r ts) _ _ _ h λ x t.
    took_bind (expect_mark mark.Semicolon x.1) _ _ _ (took_mark mark.Semicolon x.1) λ us m.
    (t.parts ∙ ap (spell x.0) m, t.stands)

-- ---- names

pub name_took : (ts : List Kind) → IfOk (expect_name ts) (Took spell_name (λ n. Unit {0}) ts)
name_took ts = weaken (expect_name ts) _ _ (λ x e. record { parts = e; stands = tt }) (took_name ts)

from_names : (ts : List Kind) (x : List (List ℕ) × List Kind) → TookItems spell_name (kind.Mark mark.Comma) (λ n. Unit {0}) (after_mark mark.Comma) ts x → Took spell_names (λ ns. is_some ns ≡ true) ts x
from_names ts x t = record {
  parts = t.parts ∙ ap (λ (v : List Kind). kind.Name t.first ∷ v) (others_names t.more x.1) ∙ ap (λ (ns : List (List ℕ)). spell_names ns x.1) (sym t.all);
  stands = ap is_some t.all;
}

pub names_took : (ts : List Kind) → IfOk (names_at ts) (Took spell_names (λ ns. is_some ns ≡ true) ts)
names_took ts = weaken (names_at ts) _ _ (from_names ts) (items_took expect_name (after_mark mark.Comma) spell_name (kind.Mark mark.Comma) (λ n. Unit {0}) (after_mark_is mark.Comma) name_took ts)

from_choices : (ts : List Kind) (x : List (List ℕ) × List Kind) → TookItems spell_name (kind.Key key.Or) (λ n. Unit {0}) (after_key key.Or) ts x → Took spell_choices (λ ns. is_some ns ≡ true) ts x
from_choices ts x t = record {
  parts = t.parts ∙ ap (λ (v : List Kind). kind.Name t.first ∷ v) (others_choices t.more x.1) ∙ ap (λ (ns : List (List ℕ)). spell_choices ns x.1) (sym t.all);
  stands = ap is_some t.all;
}

pub choices_took : (ts : List Kind) → IfOk (choices_at ts) (Took spell_choices (λ ns. is_some ns ≡ true) ts)
choices_took ts = weaken (choices_at ts) _ _ (from_choices ts) (items_took expect_name (after_key key.Or) spell_name (kind.Key key.Or) (λ n. Unit {0}) (after_key_is key.Or) name_took ts)

-- ---- function types

pname_took : (ts : List Kind) → IfOk (pname_at ts) (Took spell_pname (λ n. Unit {0}) ts)
pname_took ts =
    took_choose (after_key key.Nil ts) _ _ _
    (λ none. took_bind (expect_name ts) _ _ _ (took_name ts) λ n e. record { parts = e; stands = tt })
    λ us e. record { parts = after_key_is key.Nil ts us e; stands = tt }

from_pnames : (ts : List Kind) (x : List (Option (List ℕ)) × List Kind) → TookItems spell_pname (kind.Mark mark.Comma) (λ n. Unit {0}) (after_mark mark.Comma) ts x → Took spell_pnames (λ ns. is_some ns ≡ true) ts x
from_pnames ts x t = record {
  parts = t.parts ∙ ap (spell_pname t.first) (others_pnames t.more x.1) ∙ ap (λ (ns : List (Option (List ℕ))). spell_pnames ns x.1) (sym t.all);
  stands = ap is_some t.all;
}

pnames_took : (ts : List Kind) → IfOk (pnames_at ts) (Took spell_pnames (λ ns. is_some ns ≡ true) ts)
pnames_took ts = weaken (pnames_at ts) _ _ (from_pnames ts) (items_took pname_at (after_mark mark.Comma) spell_pname (kind.Mark mark.Comma) (λ n. Unit {0}) (after_mark_is mark.Comma) pname_took ts)

self_took : (ts : List Kind) → IfOk (self_at ts) (λ x. ts ≡ spell_self x.0 x.1)
self_took ts = took_choose (after_key key.SelfWord ts) _ _ _ (λ none. refl) λ us e. after_key_is key.SelfWord ts us e

param_took : (b : ℕ) (ts : List Kind) → IfOk (param_at b ts) (Took spell_param (GoodParam b) ts)
unfolding param_at
param_took b ts =
    took_bind (pnames_at ts) _ _ _ (pnames_took ts) λ ns n.
    took_bind (expect_mark mark.Colon ns.1) _ _ _ (took_mark mark.Colon ns.1) λ us m.
    took_bind (self_at us) _ _ _ (self_took us) λ s q.
    took_bind (ty_at b s.1) _ _ _ (ty_took b s.1) λ t w.
    record {
      parts = n.parts ∙ ap (spell_pnames ns.0) (m ∙ ap (λ (v : List Kind). mark.Colon ▸ v) (q ∙ ap (spell_self s.0) w.parts));
      stands = (n.stands, w.stands.0, w.stands.1);
    }

from_params : (b : ℕ) (ts : List Kind) (x : List Param × List Kind) → TookItems spell_param (kind.Mark mark.Comma) (GoodParam b) (after_mark mark.Comma) ts x → Took spell_params (Each (GoodParam b)) ts x
from_params b ts x t = record {
  parts = t.parts ∙ ap (spell_param t.first) (others_params t.more x.1) ∙ ap (λ (ps : List Param). spell_params ps x.1) (sym t.all);
  stands = subst (Each (GoodParam b)) (sym t.all) t.stands;
}

-- the parameters, and the ")" behind them
params_took : (b : ℕ) (ts : List Kind) → IfOk (params_at b ts) (λ x. (ts ≡ spell_params x.0 (mark.CloseParen ▸ x.1)) × Each (GoodParam b) x.0)
unfolding params_at
params_took b ts =
    took_choose (after_mark mark.CloseParen ts) _ _ _
    (λ none.
    took_bind (items (param_at b) (after_mark mark.Comma) ts) _ _ _
    (weaken (items (param_at b) (after_mark mark.Comma) ts) _ _ (from_params b ts) (items_took (param_at b) (after_mark mark.Comma) spell_param (kind.Mark mark.Comma) (GoodParam b) (after_mark_is mark.Comma) (param_took b) ts)) λ ps t.
    took_bind (expect_mark mark.CloseParen ps.1) _ _ _ (took_mark mark.CloseParen ps.1) λ us m.
    (t.parts ∙ ap (spell_params ps.0) m, t.stands))
    λ us e. (after_mark_is mark.CloseParen ts us e, tt)

answer_took : (b : ℕ) (ts : List Kind) → IfOk (answer_at b ts) (Took spell_answer (λ t. (is_answer t ≡ true) × (answer_nesting t ≤ b)) ts)
unfolding answer_at
answer_took b ts =
    took_choose (after_mark mark.Colon ts) _ _ _
    (λ none. record { parts = refl; stands = (refl, omega arith) })
    λ us e. took_bind (ty_at b us) _ _ _ (ty_took b us) λ t w.
    record { parts = after_mark_is mark.Colon ts us e ∙ ap (λ (v : List Kind). mark.Colon ▸ v) w.parts; stands = w.stands }

raises_took : (ts : List Kind) → IfOk (raises_at ts) (Took spell_raises (λ r. is_raises r ≡ true) ts)
unfolding raises_at
raises_took ts =
    took_choose (after_key key.Raises ts) _ _ _
    (λ none. record { parts = refl; stands = refl })
    λ us e. took_choose (after_mark mark.OpenParen us) _ _ _
    (λ none. took_bind (expect_name us) _ _ _ (took_name us) λ n m.
    record { parts = after_key_is key.Raises ts us e ∙ ap (λ (v : List Kind). key.Raises ▹ v) m; stands = refl })
    λ vs o. took_bind (names_at vs) _ _ _ (names_took vs) λ ns n.
    took_bind (expect_mark mark.CloseParen ns.1) _ _ _ (took_mark mark.CloseParen ns.1) λ ws m.
    record {
      parts = after_key_is key.Raises ts us e ∙ ap (λ (v : List Kind). key.Raises ▹ v) (after_mark_is mark.OpenParen us vs o ∙ ap (λ (v : List Kind). mark.OpenParen ▸ v) (n.parts ∙ ap (spell_names ns.0) m));
      stands = n.stands;
    }

pub fn_took : (b : ℕ) (ts : List Kind) → IfOk (fn_at b ts) (Took spell_fn (λ f. (is_fn f ≡ true) × (fn_nesting f ≤ b)) ts)
unfolding fn_at
fn_took b ts =
    took_bind (expect_mark mark.OpenParen ts) _ _ _ (took_mark mark.OpenParen ts) λ us m.
    took_bind (params_at b us) _ _ _ (params_took b us) λ ps p.
    took_bind (answer_at b ps.1) _ _ _ (answer_took b ps.1) λ t w.
    took_bind (raises_at t.1) _ _ _ (raises_took t.1) λ r q.
    let all = all_params b ps.0 p.1 in
    record {
      parts = m ∙ ap (λ (v : List Kind). mark.OpenParen ▸ v) (p.0 ∙ ap (λ (v : List Kind). spell_params ps.0 (mark.CloseParen ▸ v)) (w.parts ∙ ap (spell_answer t.0) q.parts));
      stands = (three_true (are_params ps.0) (is_answer t.0) (is_raises r.0) all.0 w.stands.0 q.stands, omega (arith, all.1, w.stands.1));
    }

-- ---- variants

field_took : (b : ℕ) (ts : List Kind) → IfOk (field_at b ts) (Took spell_field (GoodField b) ts)
unfolding field_at
field_took b ts =
    took_bind (names_at ts) _ _ _ (names_took ts) λ ns n.
    took_bind (expect_mark mark.Colon ns.1) _ _ _ (took_mark mark.Colon ns.1) λ us m.
    took_bind (ended (ty_at b) us) _ _ _ (ended_took (ty_at b) spell_ty (GoodTy b) us (ty_took b us)) λ t w.
    record {
      parts = n.parts ∙ ap (spell_names ns.0) (m ∙ ap (λ (v : List Kind). mark.Colon ▸ v) w.0);
      stands = (n.stands, w.1.0, w.1.1);
    }

fields_took : (b : ℕ) (ts : List Kind) → IfOk (fields_at b ts) (Took spell_fields (λ fs. (are_fields fs ≡ true) × (fields_nesting fs ≤ b)) ts)
fields_took b ts =
    weaken (fields_at b ts) _ _
    (λ x q. record { parts = q.0.parts ∙ all_fields_spelled x.0 x.1; stands = all_fields b x.0 q.0.stands })
    (until_took (field_at b) fields_end spell_field (GoodField b) (field_took b) (suc (length ts)) ts)

variant_took : (b : ℕ) (ts : List Kind) → IfOk (variant_at b ts) (Took spell_variant (GoodVariant b) ts)
unfolding variant_at
variant_took b ts =
    took_bind (choices_at ts) _ _ _ (choices_took ts) λ ns n.
    took_bind (expect_mark mark.FatArrow ns.1) _ _ _ (took_mark mark.FatArrow ns.1) λ us m.
    took_bind (fields_at b us) _ _ _ (fields_took b us) λ fs f.
    record {
      parts = n.parts ∙ ap (spell_choices ns.0) (m ∙ ap (λ (v : List Kind). mark.FatArrow ▸ v) f.parts);
      stands = (n.stands, f.stands.0, f.stands.1);
    }

variants_took : (b : ℕ) (ts : List Kind) → IfOk (variants_at b ts) (Took spell_variants (λ vs. (are_variants vs ≡ true) × (variants_nesting vs ≤ b)) ts)
variants_took b ts =
    weaken (variants_at b ts) _ _
    (λ x q. record { parts = q.0.parts ∙ all_variants_spelled x.0 x.1; stands = all_variants b x.0 q.0.stands })
    (until_took (variant_at b) variants_end spell_variant (GoodVariant b) (variant_took b) (suc (length ts)) ts)

pick_took : (b : ℕ) (ts : List Kind) → IfOk (pick_at b ts) (Took spell_pick (λ p. (is_pick p ≡ true) × (pick_nesting p ≤ b)) ts)
unfolding pick_at
pick_took b ts =
    took_choose (after_key key.Pick ts) _ _ _
    (λ none. record { parts = refl; stands = (refl, omega arith) })
    λ us e.
    took_bind (expect_mark mark.OpenBrace us) _ _ _ (took_mark mark.OpenBrace us) λ vs m.
    took_bind (variants_at b vs) _ _ _ (variants_took b vs) λ xs x.
    took_bind (expect_mark mark.CloseBrace xs.1) _ _ _ (took_mark mark.CloseBrace xs.1) λ ws n.
    record {
      parts = after_key_is key.Pick ts us e ∙ ap (λ (v : List Kind). key.Pick ▹ v) (m ∙ ap (λ (v : List Kind). mark.OpenBrace ▸ v) (x.parts ∙ ap (spell_variants xs.0) n));
      stands = x.stands;
    }

-- ---- members

-- the inside of an adt, from its "adt" on
abbrev pub spell_adt : Inside → List Kind → List Kind
spell_adt x ts = key.Adt ▹ mark.OpenBrace ▸ spell_members x.members (spell_pick x.pick (mark.CloseBrace ▸ mark.Semicolon ▸ ts))

abbrev pub GoodInside : ℕ → Inside → Type 0
GoodInside b x = AreMembers x.members × (is_pick x.pick ≡ true) × (1 + max (members_nesting x.members) (pick_nesting x.pick) ≤ b)

members_of_took : (b : ℕ) (r : Reader Member) → ((ts : List Kind) → IfOk (r ts) (Took spell_member (GoodMember b) ts)) → (ts : List Kind)
    → IfOk (members_of_at r ts) (λ x. (ts ≡ spell_members (members_of x.0) x.1) × AreMembers (members_of x.0) × (members_nesting (members_of x.0) ≤ b))
unfolding members_of_at
members_of_took b r h ts =
    weaken (members_of_at r ts) _ _
    (λ x q. let all = all_members b x.0 q.0.stands in (q.0.parts ∙ all_members_spelled x.0 x.1, all.0, all.1))
    (until_took r members_end spell_member (GoodMember b) h (suc (length ts)) ts)

adt_of_took : (b : ℕ) (r : Reader Member) → ((ts : List Kind) → IfOk (r ts) (Took spell_member (GoodMember b) ts)) → (ts : List Kind) → IfOk (adt_of_at r b ts) (Took spell_adt (GoodInside (suc b)) ts)
unfolding adt_of_at
adt_of_took b r h ts =
    took_bind (expect_key key.Adt ts) _ _ _ (took_key key.Adt ts) λ us k.
    took_bind (expect_mark mark.OpenBrace us) _ _ _ (took_mark mark.OpenBrace us) λ vs m.
    took_bind (members_of_at r vs) _ _ _ (members_of_took b r h vs) λ ms g.
    took_bind (pick_at b ms.1) _ _ _ (pick_took b ms.1) λ p q.
    took_bind (expect_mark mark.CloseBrace p.1) _ _ _ (took_mark mark.CloseBrace p.1) λ ws n.
    took_bind (expect_mark mark.Semicolon ws) _ _ _ (took_mark mark.Semicolon ws) λ xs o.
    record {
      parts = k ∙ ap (λ (v : List Kind). key.Adt ▹ v) (m ∙ ap (λ (v : List Kind). mark.OpenBrace ▸ v) (g.0 ∙ ap (spell_members (members_of ms.0)) (q.parts ∙ ap (spell_pick p.0) (n ∙ ap (λ (v : List Kind). mark.CloseBrace ▸ v) o))));
      stands = (g.1, q.stands.0, omega (arith, g.2, q.stands.1));
    }

only_is : (ns : List (List ℕ)) (n : List ℕ) → only ns ≡ Some n → ns ≡ n ∷ []
only_is [] n e = absurd cc
only_is (m ∷ []) n e = let same : Some m ≡ Some n = e in cc
only_is (m ∷ l ∷ ns) n e = absurd cc

-- a member behind its ":"
abbrev TookMember : ℕ → List (List ℕ) → List Kind → Member × List Kind → Type 0
TookMember b ns us x = (spell_names ns (mark.Colon ▸ us) ≡ spell_member x.0 x.1) × GoodMember b x.0

member_behind_took : (b : ℕ) (r : Reader Inside) → ((ts : List Kind) → IfOk (r ts) (Took spell_adt (GoodInside b) ts)) → (ns : List (List ℕ)) (ts : List Kind) → is_some ns ≡ true → IfOk (member_behind r b ns ts) (TookMember b ns ts)
unfolding member_behind
member_behind_took b r h ns ts g =
    took_choose (after_key key.Fn ts) _ _ _
    (λ no_fn. took_choose (after_key key.Con ts) _ _ _
    (λ no_con. took_choose (after_key key.TypeWord ts) _ _ _
    (λ no_type. took_choose (after_key key.Adt ts) _ _ _
    (λ no_adt. took_bind (ended (ty_at b) ts) _ _ _ (ended_took (ty_at b) spell_ty (GoodTy b) ts (ty_took b ts)) λ t w.
    (ap (λ (v : List Kind). spell_names ns (mark.Colon ▸ v)) w.0, ((g, w.1.0), w.1.1)))
    λ us e. took_choose (only ns) _ _ _ (λ none. tt) λ n o.
    took_bind (r ts) _ _ _ (h ts) λ x w.
    (ap (λ (l : List (List ℕ)). spell_names l (mark.Colon ▸ ts)) (only_is ns n o) ∙ ap (λ (v : List Kind). kind.Name n ∷ (mark.Colon ▸ v)) w.parts, ((w.stands.0, w.stands.1), w.stands.2)))
    λ us e. took_bind (ended (ty_at b) us) _ _ _ (ended_took (ty_at b) spell_ty (GoodTy b) us (ty_took b us)) λ t w.
    (ap (λ (v : List Kind). spell_names ns (mark.Colon ▸ v)) (after_key_is key.TypeWord ts us e ∙ ap (λ (v : List Kind). key.TypeWord ▹ v) w.0), ((g, w.1.0), w.1.1)))
    λ us e. took_bind (ended (expr_at b) us) _ _ _ (ended_took (expr_at b) spell (λ x. IsAt 13 x × (nesting x ≤ b)) us (expr_took b us)) λ x w.
    (ap (λ (v : List Kind). spell_names ns (mark.Colon ▸ v)) (after_key_is key.Con ts us e ∙ ap (λ (v : List Kind). key.Con ▹ v) w.0), ((g, w.1.0), w.1.1)))
    λ us e. took_bind (ended (fn_at b) us) _ _ _ (ended_took (fn_at b) spell_fn (λ f. (is_fn f ≡ true) × (fn_nesting f ≤ b)) us (fn_took b us)) λ f w.
    (ap (λ (v : List Kind). spell_names ns (mark.Colon ▸ v)) (after_key_is key.Fn ts us e ∙ ap (λ (v : List Kind). key.Fn ▹ v) w.0), ((g, w.1.0), w.1.1))

member_of_took : (b : ℕ) (r : Reader Inside) → ((ts : List Kind) → IfOk (r ts) (Took spell_adt (GoodInside b) ts)) → (ts : List Kind) → IfOk (member_of_at r b ts) (Took spell_member (GoodMember b) ts)
unfolding member_of_at
member_of_took b r h ts =
    took_bind (names_at ts) _ _ _ (names_took ts) λ ns n.
    took_bind (expect_mark mark.Colon ns.1) _ _ _ (took_mark mark.Colon ns.1) λ us m.
    weaken (member_behind r b ns.0 us) _ _
    (λ x w. record { parts = n.parts ∙ ap (spell_names ns.0) m ∙ w.0; stands = w.1 })
    (member_behind_took b r h ns.0 us n.stands)

pub adt_took : (b : ℕ) (ts : List Kind) → IfOk (adt_at b ts) (Took spell_adt (GoodInside b) ts)
unfolding adt_at member_at
adt_took zero ts = tt
adt_took (suc b) ts = adt_of_took b (member_at b) (member_of_took b (adt_at b) (adt_took b)) ts

members_took : (b : ℕ) (ts : List Kind) → IfOk (members_at b ts) (λ x. (ts ≡ spell_members (members_of x.0) x.1) × AreMembers (members_of x.0) × (members_nesting (members_of x.0) ≤ b))
unfolding member_at
members_took b ts = members_of_took b (member_at b) (member_of_took b (adt_at b) (adt_took b)) ts

-- ---- declarations

value_took : (b : ℕ) (ts : List Kind) → IfOk (value_at b ts) (Took spell_value (λ v. IsOption v × (option_nesting v ≤ b)) ts)
unfolding value_at
value_took b ts =
    took_choose (after_mark mark.Assign ts) _ _ _
    (λ none. record { parts = refl; stands = (tt, omega arith) })
    λ us e. took_bind (expr_at b us) _ _ _ (expr_took b us) λ x w.
    record { parts = after_mark_is mark.Assign ts us e ∙ ap (λ (v : List Kind). mark.Assign ▸ v) w.parts; stands = w.stands }

from_types : (b : ℕ) (ts : List Kind) (x : List Ty × List Kind) → TookItems spell_ty (kind.Mark mark.Comma) (GoodTy b) (after_mark mark.Comma) ts x
    → (mark.OpenParen ▸ ts ≡ mark.OpenParen ▸ spell_tys (tys_of x.0) x.1) × ((us : List Kind) → mark.OpenParen ▸ spell_tys (tys_of x.0) (mark.CloseParen ▸ us) ≡ spell_values (tys_of x.0) us) × Each (GoodTy b) x.0
from_types b ts x t = (
  ap (λ (v : List Kind). mark.OpenParen ▸ v) (t.parts ∙ ap (spell_ty t.first) (others_tys t.more x.1) ∙ ap (λ (l : List Ty). spell_tys (tys_of l) x.1) (sym t.all)),
  (λ us. subst (λ (l : List Ty). mark.OpenParen ▸ spell_tys (tys_of l) (mark.CloseParen ▸ us) ≡ spell_values (tys_of l) us) (sym t.all) refl),
  subst (Each (GoodTy b)) (sym t.all) t.stands,
)

values_took : (b : ℕ) (ts : List Kind) → IfOk (values_at b ts) (Took spell_values (λ tys. (are_all_tys tys ≡ true) × (tys_nesting tys ≤ b)) ts)
unfolding values_at
values_took b ts =
    took_choose (after_mark mark.OpenParen ts) _ _ _
    (λ none. record { parts = refl; stands = (refl, omega arith) })
    λ us e. took_bind (items (ty_at b) (after_mark mark.Comma) us) _ _ _
    (weaken (items (ty_at b) (after_mark mark.Comma) us) _ _ (from_types b us) (items_took (ty_at b) (after_mark mark.Comma) spell_ty (kind.Mark mark.Comma) (GoodTy b) (after_mark_is mark.Comma) (ty_took b) us)) λ tys t.
    took_bind (expect_mark mark.CloseParen tys.1) _ _ _ (took_mark mark.CloseParen tys.1) λ vs m.
    record {
      parts = after_mark_is mark.OpenParen ts us e ∙ t.0 ∙ ap (λ (v : List Kind). mark.OpenParen ▸ spell_tys (tys_of tys.0) v) m ∙ t.1 vs;
      stands = all_tys b tys.0 t.2;
    }

-- the inside of a module, from its "{" on
abbrev pub spell_module : Members → List Kind → List Kind
spell_module ms ts = mark.OpenBrace ▸ spell_members ms (mark.CloseBrace ▸ mark.Semicolon ▸ ts)

module_took : (b : ℕ) (ts : List Kind) → IfOk (module_at b ts) (Took spell_module (λ ms. AreMembers ms × (members_nesting ms ≤ b)) ts)
unfolding module_at
module_took b ts =
    took_bind (expect_mark mark.OpenBrace ts) _ _ _ (took_mark mark.OpenBrace ts) λ us m.
    took_bind (members_at b us) _ _ _ (members_took b us) λ ms g.
    took_bind (expect_mark mark.CloseBrace ms.1) _ _ _ (took_mark mark.CloseBrace ms.1) λ vs n.
    took_bind (expect_mark mark.Semicolon vs) _ _ _ (took_mark mark.Semicolon vs) λ ws o.
    record {
      parts = m ∙ ap (λ (v : List Kind). mark.OpenBrace ▸ v) (g.0 ∙ ap (spell_members (members_of ms.0)) (n ∙ ap (λ (v : List Kind). mark.CloseBrace ▸ v) o));
      stands = (g.1, g.2);
    }

-- a declaration behind its ":"
abbrev TookDecl : ℕ → List (List ℕ) → List Kind → Decl × List Kind → Type 0
TookDecl b ns us x = (spell_names ns (mark.Colon ▸ us) ≡ spell_decl x.0 x.1) × (IsDecl x.0 × (decl_nesting x.0 ≤ b))

decl_of_type_took : (b : ℕ) (ns : List (List ℕ)) (ts : List Kind) → is_some ns ≡ true → IfOk (decl_of_type b ns ts) (TookDecl b ns ts)
unfolding decl_of_type
decl_of_type_took b ns ts g =
    took_choose (after_key key.Module ts) _ _ _
    (λ no_module. took_choose (after_key key.Adt ts) _ _ _
    (λ no_adt. took_bind (ty_at b ts) _ _ _ (ty_took b ts) λ t w.
    took_bind (ended (value_at b) t.1) _ _ _ (ended_took (value_at b) spell_value (λ v. IsOption v × (option_nesting v ≤ b)) t.1 (value_took b t.1)) λ v u.
    (ap (λ (l : List Kind). spell_names ns (mark.Colon ▸ l)) (w.parts ∙ ap (spell_ty t.0) u.0), ((g, w.stands.0, u.1.0), omega (arith, w.stands.1, u.1.1))))
    λ us e. took_choose (only ns) _ _ _ (λ none. tt) λ n o.
    took_bind (adt_at b ts) _ _ _ (adt_took b ts) λ x w.
    (ap (λ (l : List (List ℕ)). spell_names l (mark.Colon ▸ ts)) (only_is ns n o) ∙ ap (λ (v : List Kind). kind.Name n ∷ (mark.Colon ▸ v)) w.parts, ((w.stands.0, w.stands.1), w.stands.2)))
    λ us e. took_choose (only ns) _ _ _ (λ none. tt) λ n o.
    took_bind (module_at b us) _ _ _ (module_took b us) λ x w.
    (ap (λ (l : List (List ℕ)). spell_names l (mark.Colon ▸ ts)) (only_is ns n o) ∙ ap (λ (v : List Kind). kind.Name n ∷ (mark.Colon ▸ v)) (after_key_is key.Module ts us e ∙ ap (λ (v : List Kind). key.Module ▹ v) w.parts), (w.stands.0, w.stands.1))

decl_behind_took : (b : ℕ) (ns : List (List ℕ)) (ts : List Kind) → is_some ns ≡ true → IfOk (decl_behind b ns ts) (TookDecl b ns ts)
unfolding decl_behind
decl_behind_took b ns ts g =
    took_choose (after_key key.Con ts) _ _ _
    (λ no_con. took_choose (after_key key.TypeWord ts) _ _ _
    (λ no_type. took_choose (after_key key.Import ts) _ _ _
    (λ no_import. took_choose (after_key key.Exception ts) _ _ _
    (λ no_exception. decl_of_type_took b ns ts g)
    λ us e. took_bind (ended (values_at b) us) _ _ _ (ended_took (values_at b) spell_values (λ tys. (are_all_tys tys ≡ true) × (tys_nesting tys ≤ b)) us (values_took b us)) λ t w.
    (ap (λ (v : List Kind). spell_names ns (mark.Colon ▸ v)) (after_key_is key.Exception ts us e ∙ ap (λ (v : List Kind). key.Exception ▹ v) w.0), ((g, w.1.0), w.1.1)))
    λ us e. took_bind (ended expect_name us) _ _ _ (ended_took expect_name spell_name (λ n. Unit {0}) us (name_took us)) λ m w.
    (ap (λ (v : List Kind). spell_names ns (mark.Colon ▸ v)) (after_key_is key.Import ts us e ∙ ap (λ (v : List Kind). key.Import ▹ v) w.0), (g, omega arith)))
    λ us e. took_bind (ended (ty_at b) us) _ _ _ (ended_took (ty_at b) spell_ty (GoodTy b) us (ty_took b us)) λ t w.
    (ap (λ (v : List Kind). spell_names ns (mark.Colon ▸ v)) (after_key_is key.TypeWord ts us e ∙ ap (λ (v : List Kind). key.TypeWord ▹ v) w.0), ((g, w.1.0), w.1.1)))
    λ us e. took_bind (ended (expr_at b) us) _ _ _ (ended_took (expr_at b) spell (λ x. IsAt 13 x × (nesting x ≤ b)) us (expr_took b us)) λ x w.
    (ap (λ (v : List Kind). spell_names ns (mark.Colon ▸ v)) (after_key_is key.Con ts us e ∙ ap (λ (v : List Kind). key.Con ▹ v) w.0), ((g, w.1.0), w.1.1))

pub decl_took : (b : ℕ) (ts : List Kind) → IfOk (decl_at b ts) (Took spell_decl (λ d. IsDecl d × (decl_nesting d ≤ b)) ts)
unfolding decl_at
decl_took b ts =
    took_bind (names_at ts) _ _ _ (names_took ts) λ ns n.
    took_choose (after_mark mark.Define ns.1) _ _ _
    (λ no_define.
    took_bind (expect_mark mark.Colon ns.1) _ _ _ (took_mark mark.Colon ns.1) λ us m.
    weaken (decl_behind b ns.0 us) _ _
    (λ x w. record { parts = n.parts ∙ ap (spell_names ns.0) m ∙ w.0; stands = w.1 })
    (decl_behind_took b ns.0 us n.stands))
    λ us e. took_bind (ended (expr_at b) us) _ _ _ (ended_took (expr_at b) spell (λ x. IsAt 13 x × (nesting x ≤ b)) us (expr_took b us)) λ x w.
    record {
      parts = n.parts ∙ ap (spell_names ns.0) (after_mark_is mark.Define ns.1 us e ∙ ap (λ (v : List Kind). mark.Define ▸ v) w.0);
      stands = ((n.stands, w.1.0), w.1.1);
    }
