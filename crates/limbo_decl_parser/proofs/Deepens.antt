-- More budget changes nothing but a fault of depth.
use Rattle.std.proofs.Common.{ℕ, zero, suc, ◌≤◌, List, length, Result, refl, arith}
use Rattle.limbo_lexer.specs.declared.token.Kind.{Kind}
use Rattle.limbo_lexer.specs.declared.token.Mark.TheVariants as mark
use Rattle.limbo_lexer.specs.declared.token.Key.TheVariants as key
use Rattle.limbo_reading.specs.declared.fault.Fault.{Fault}
use Rattle.limbo_reading.specs.Reading.{◌>>=◌, Reader, after_mark, after_key, expect_mark, expect_key}
use Rattle.limbo_reading.specs.Lists.{items, names_at, choices_at}
use Rattle.limbo_reading.proofs.Steps.{Deepens, deepens_same, deepens_bind, deepens_choose}
use Rattle.limbo_reading.proofs.Lists.{items_deepens, until_deepens}
use Rattle.limbo_tree.specs.Decls.{Member}
use Rattle.limbo_expr_parts.specs.Types.{ty_at}
use Rattle.limbo_decl_parser.specs.Decls.{ended, expr_at, pnames_at, self_at, param_at, params_at, answer_at, fn_at, field_at, fields_at, fields_end, variant_at, variants_at, variants_end, pick_at, Inside, members_end, members_of_at, only, adt_of_at, member_behind, member_of_at, adt_at, member_at, members_at, value_at, values_at, module_at, decl_of_type, decl_behind, decl_at}
use Rattle.limbo_expr_parser.proofs.Laws.{ty_deepens, expr_deepens}

-- what comes before is read without a budget
pub after : {A B : Type 0} (r : Result A Fault) (k l : A → Result B Fault) → ((x : A) → Deepens (k x) (l x)) → Deepens (r >>= k) (r >>= l)
after r k l f = deepens_bind r r k l (deepens_same r) f

-- what comes behind is read without one
pub before : {A B : Type 0} (r s : Result A Fault) (k : A → Result B Fault) → Deepens r s → Deepens (r >>= k) (s >>= k)
before r s k d = deepens_bind r s k k d λ x. deepens_same (k x)

pub ended_deepens : {A : Type 0} (r s : Reader A) (ts : List Kind) → Deepens (r ts) (s ts) → Deepens (ended r ts) (ended s ts)
ended_deepens r s ts d = before (r ts) (s ts) _ d

-- ---- function types

param_deepens : (b c : ℕ) (ts : List Kind) → b ≤ c → Deepens (param_at b ts) (param_at c ts)
unfolding param_at
param_deepens b c ts le =
    after (pnames_at ts) _ _ λ ns.
    after (expect_mark mark.Colon ns.1) _ _ λ us.
    after (self_at us) _ _ λ s.
    before (ty_at b s.1) (ty_at c s.1) _ (ty_deepens b c s.1 le)

params_deepens : (b c : ℕ) (ts : List Kind) → b ≤ c → Deepens (params_at b ts) (params_at c ts)
unfolding params_at
params_deepens b c ts le =
    deepens_choose (after_mark mark.CloseParen ts) _ _ _ _
    (before (items (param_at b) (after_mark mark.Comma) ts) (items (param_at c) (after_mark mark.Comma) ts) _
    (items_deepens (param_at b) (param_at c) (after_mark mark.Comma) (λ us. param_deepens b c us le) ts))
    λ us. refl

answer_deepens : (b c : ℕ) (ts : List Kind) → b ≤ c → Deepens (answer_at b ts) (answer_at c ts)
unfolding answer_at
answer_deepens b c ts le =
    deepens_choose (after_mark mark.Colon ts) _ _ _ _ refl λ us. before (ty_at b us) (ty_at c us) _ (ty_deepens b c us le)

pub fn_deepens : (b c : ℕ) (ts : List Kind) → b ≤ c → Deepens (fn_at b ts) (fn_at c ts)
unfolding fn_at
fn_deepens b c ts le =
    after (expect_mark mark.OpenParen ts) _ _ λ us.
    deepens_bind (params_at b us) (params_at c us) _ _ (params_deepens b c us le) λ ps.
    before (answer_at b ps.1) (answer_at c ps.1) _ (answer_deepens b c ps.1 le)

-- ---- variants

field_deepens : (b c : ℕ) (ts : List Kind) → b ≤ c → Deepens (field_at b ts) (field_at c ts)
unfolding field_at
field_deepens b c ts le =
    after (names_at ts) _ _ λ ns.
    after (expect_mark mark.Colon ns.1) _ _ λ us.
    before (ended (ty_at b) us) (ended (ty_at c) us) _ (ended_deepens (ty_at b) (ty_at c) us (ty_deepens b c us le))

variant_deepens : (b c : ℕ) (ts : List Kind) → b ≤ c → Deepens (variant_at b ts) (variant_at c ts)
unfolding variant_at
variant_deepens b c ts le =
    after (choices_at ts) _ _ λ ns.
    after (expect_mark mark.FatArrow ns.1) _ _ λ us.
    before (fields_at b us) (fields_at c us) _
    (until_deepens (field_at b) (field_at c) fields_end fields_end (λ vs. field_deepens b c vs le) (λ vs. refl) (suc (length us)) us)

pick_deepens : (b c : ℕ) (ts : List Kind) → b ≤ c → Deepens (pick_at b ts) (pick_at c ts)
unfolding pick_at
pick_deepens b c ts le =
    deepens_choose (after_key key.Pick ts) _ _ _ _ refl λ us.
    after (expect_mark mark.OpenBrace us) _ _ λ vs.
    before (variants_at b vs) (variants_at c vs) _
    (until_deepens (variant_at b) (variant_at c) variants_end variants_end (λ ws. variant_deepens b c ws le) (λ ws. refl) (suc (length vs)) vs)

-- ---- members

members_of_deepens : (r s : Reader Member) → ((ts : List Kind) → Deepens (r ts) (s ts)) → (ts : List Kind) → Deepens (members_of_at r ts) (members_of_at s ts)
unfolding members_of_at
members_of_deepens r s d ts = until_deepens r s members_end members_end d (λ us. refl) (suc (length ts)) ts

adt_of_deepens : (r s : Reader Member) (b c : ℕ) → ((ts : List Kind) → Deepens (r ts) (s ts)) → b ≤ c → (ts : List Kind) → Deepens (adt_of_at r b ts) (adt_of_at s c ts)
unfolding adt_of_at
adt_of_deepens r s b c d le ts =
    after (expect_key key.Adt ts) _ _ λ us.
    after (expect_mark mark.OpenBrace us) _ _ λ vs.
    deepens_bind (members_of_at r vs) (members_of_at s vs) _ _ (members_of_deepens r s d vs) λ ms.
    before (pick_at b ms.1) (pick_at c ms.1) _ (pick_deepens b c ms.1 le)

member_of_deepens : (r s : Reader Inside) (b c : ℕ) → ((ts : List Kind) → Deepens (r ts) (s ts)) → b ≤ c → (ts : List Kind) → Deepens (member_of_at r b ts) (member_of_at s c ts)
unfolding member_of_at member_behind
member_of_deepens r s b c d le ts =
    after (names_at ts) _ _ λ ns.
    after (expect_mark mark.Colon ns.1) _ _ λ us.
    deepens_choose (after_key key.Fn us) _ _ _ _
    (deepens_choose (after_key key.Con us) _ _ _ _
    (deepens_choose (after_key key.TypeWord us) _ _ _ _
    (deepens_choose (after_key key.Adt us) _ _ _ _
    (before (ended (ty_at b) us) (ended (ty_at c) us) _ (ended_deepens (ty_at b) (ty_at c) us (ty_deepens b c us le)))
    λ vs. deepens_choose (only ns.0) _ _ _ _ refl λ n. before (r us) (s us) _ (d us))
    λ vs. before (ended (ty_at b) vs) (ended (ty_at c) vs) _ (ended_deepens (ty_at b) (ty_at c) vs (ty_deepens b c vs le)))
    λ vs. before (ended (expr_at b) vs) (ended (expr_at c) vs) _ (ended_deepens (expr_at b) (expr_at c) vs (expr_deepens b c vs le)))
    λ vs. before (ended (fn_at b) vs) (ended (fn_at c) vs) _ (ended_deepens (fn_at b) (fn_at c) vs (fn_deepens b c vs le))

pub adt_deepens : (b c : ℕ) (ts : List Kind) → b ≤ c → Deepens (adt_at b ts) (adt_at c ts)
unfolding adt_at member_at
adt_deepens zero c ts le = tt
adt_deepens (suc b) zero ts le = absurd (omega arith)
adt_deepens (suc b) (suc c) ts le =
    adt_of_deepens (member_at b) (member_at c) b c
    (λ us. member_of_deepens (adt_at b) (adt_at c) b c (λ vs. adt_deepens b c vs (omega arith)) (omega arith) us) (omega arith) ts

members_deepens : (b c : ℕ) (ts : List Kind) → b ≤ c → Deepens (members_at b ts) (members_at c ts)
unfolding member_at
members_deepens b c ts le =
    members_of_deepens (member_at b) (member_at c)
    (λ us. member_of_deepens (adt_at b) (adt_at c) b c (λ vs. adt_deepens b c vs le) le us) ts

-- ---- declarations

value_deepens : (b c : ℕ) (ts : List Kind) → b ≤ c → Deepens (value_at b ts) (value_at c ts)
unfolding value_at
value_deepens b c ts le =
    deepens_choose (after_mark mark.Assign ts) _ _ _ _ refl λ us. before (expr_at b us) (expr_at c us) _ (expr_deepens b c us le)

values_deepens : (b c : ℕ) (ts : List Kind) → b ≤ c → Deepens (values_at b ts) (values_at c ts)
unfolding values_at
values_deepens b c ts le =
    deepens_choose (after_mark mark.OpenParen ts) _ _ _ _ refl λ us.
    before (items (ty_at b) (after_mark mark.Comma) us) (items (ty_at c) (after_mark mark.Comma) us) _
    (items_deepens (ty_at b) (ty_at c) (after_mark mark.Comma) (λ vs. ty_deepens b c vs le) us)

module_deepens : (b c : ℕ) (ts : List Kind) → b ≤ c → Deepens (module_at b ts) (module_at c ts)
unfolding module_at
module_deepens b c ts le =
    after (expect_mark mark.OpenBrace ts) _ _ λ us.
    before (members_at b us) (members_at c us) _ (members_deepens b c us le)

decl_of_type_deepens : (b c : ℕ) (ns : List (List ℕ)) (ts : List Kind) → b ≤ c → Deepens (decl_of_type b ns ts) (decl_of_type c ns ts)
unfolding decl_of_type
decl_of_type_deepens b c ns ts le =
    deepens_choose (after_key key.Module ts) _ _ _ _
    (deepens_choose (after_key key.Adt ts) _ _ _ _
    (deepens_bind (ty_at b ts) (ty_at c ts) _ _ (ty_deepens b c ts le) λ t.
    before (ended (value_at b) t.1) (ended (value_at c) t.1) _ (ended_deepens (value_at b) (value_at c) t.1 (value_deepens b c t.1 le)))
    λ us. deepens_choose (only ns) _ _ _ _ refl λ n. before (adt_at b ts) (adt_at c ts) _ (adt_deepens b c ts le))
    λ us. deepens_choose (only ns) _ _ _ _ refl λ n. before (module_at b us) (module_at c us) _ (module_deepens b c us le)

decl_behind_deepens : (b c : ℕ) (ns : List (List ℕ)) (ts : List Kind) → b ≤ c → Deepens (decl_behind b ns ts) (decl_behind c ns ts)
unfolding decl_behind
decl_behind_deepens b c ns ts le =
    deepens_choose (after_key key.Con ts) _ _ _ _
    (deepens_choose (after_key key.TypeWord ts) _ _ _ _
    (deepens_choose (after_key key.Import ts) _ _ _ _
    (deepens_choose (after_key key.Exception ts) _ _ _ _ (decl_of_type_deepens b c ns ts le)
    λ us. before (ended (values_at b) us) (ended (values_at c) us) _ (ended_deepens (values_at b) (values_at c) us (values_deepens b c us le)))
    λ us. deepens_same _)
    λ us. before (ended (ty_at b) us) (ended (ty_at c) us) _ (ended_deepens (ty_at b) (ty_at c) us (ty_deepens b c us le)))
    λ us. before (ended (expr_at b) us) (ended (expr_at c) us) _ (ended_deepens (expr_at b) (expr_at c) us (expr_deepens b c us le))

pub decl_deepens : (b c : ℕ) (ts : List Kind) → b ≤ c → Deepens (decl_at b ts) (decl_at c ts)
unfolding decl_at
decl_deepens b c ts le =
    after (names_at ts) _ _ λ ns.
    deepens_choose (after_mark mark.Define ns.1) _ _ _ _
    (after (expect_mark mark.Colon ns.1) _ _ λ us. decl_behind_deepens b c ns.0 us le)
    λ us. before (ended (expr_at b) us) (ended (expr_at c) us) _ (ended_deepens (expr_at b) (expr_at c) us (expr_deepens b c us le))
