-- Where a fault of depth stands.
use Rattle.std.proofs.Common.{◌≡◌, ℕ, zero, suc, ◌+◌, ◌≤◌, ◌<◌, List, length, Option, Some, Result, Ok, Err, arith}
use Rattle.std.specs.Prelude.{IfOk}
use Rattle.limbo_lexer.specs.declared.token.Kind.{Kind}
use Rattle.limbo_lexer.specs.declared.token.Mark.{Mark}
use Rattle.limbo_lexer.specs.declared.token.Mark.TheVariants as mark
use Rattle.limbo_lexer.specs.declared.token.Key.{Key}
use Rattle.limbo_lexer.specs.declared.token.Key.TheVariants as key
use Rattle.limbo_reading.specs.declared.fault.Fault.{Fault}
use Rattle.limbo_reading.specs.declared.fault.Fault.TheVariants.{Syntax, TooDeep}
use Rattle.limbo_reading.specs.Reading.{◌>>=◌, Reader, choose, after_mark, after_key, expect_mark, expect_key, expect_name, Gives}
use Rattle.limbo_reading.specs.declared.fault.ReadError.{ReadError}
use Rattle.limbo_reading.specs.Lists.{items, names_at, choices_at}
use Rattle.limbo_reading.proofs.Steps.{Keeps, KeepsRest, keeps_choose, keeps_mark, keeps_key, keeps_name, kept_shorter, after_mark_length, after_key_length}
use Rattle.limbo_reading.proofs.Lists.{items_keeps, until_keeps}
use Rattle.limbo_tree.specs.Types.{Ty}
use Rattle.limbo_tree.specs.Decls.{Param, Field, Variant, Member}
use Rattle.limbo_expr_parts.specs.Types.{ty_at}
use Rattle.limbo_decl_parser.specs.Decls.{ended, expr_at, pname_at, pnames_at, self_at, param_at, params_at, answer_at, raises_at, fn_at, field_at, fields_at, fields_end, variant_at, variants_at, variants_end, pick_at, Inside, members_end, members_of_at, only, adt_of_at, member_behind, member_of_at, adt_at, member_at, members_at, value_at, values_at, module_at, decl_of_type, decl_behind, decl_at}
use Rattle.limbo_expr_parser.proofs.Laws.{ty_keeps, expr_keeps}

-- a reader of fewer tokens: those before them count too
pub keeps_from : {A : Type 0} (a b c d m n : ℕ) (r : Result (A × List Kind) Fault) → Keeps b c m r → m + a ≤ n + b → m + d ≤ n + c → Keeps a d n r
keeps_from a b c d m n (Ok x) h up le = omega arith
keeps_from a b c d m n (Err (Syntax k)) h up le = tt
keeps_from a b c d m n (Err (TooDeep k)) h up le = omega arith

-- as keeps_bind, where the tokens of the first step count for the second
pub gain : {A B : Type 0} (a b c d e n : ℕ) (r : Result (A × List Kind) Fault) (k : A × List Kind → Result (B × List Kind) Fault) → Keeps a c n r → ((x : A × List Kind) → length x.1 + c ≤ n → Keeps b d (length x.1) (k x)) → a ≤ b + c → e ≤ c + d → Keeps a e n (r >>= k)
gain a b c d e n (Ok x) k h f up le = keeps_from a b d e (length x.1) n (k x) (f x h) (omega arith) (omega arith)
gain a b c d e n (Err (Syntax m)) k h f up le = tt
gain a b c d e n (Err (TooDeep m)) k h f up le = h

pub gain_rest : {B : Type 0} (a b d e n : ℕ) (r : Result (List Kind) Fault) (k : List Kind → Result (B × List Kind) Fault) → KeepsRest n r → ((us : List Kind) → length us + 1 ≤ n → Keeps b d (length us) (k us)) → a ≤ b + 1 → e ≤ 1 + d → Keeps a e n (r >>= k)
gain_rest a b d e n (Ok us) k h f up le = keeps_from a b d e (length us) n (k us) (f us h) (omega arith) (omega arith)
gain_rest a b d e n (Err (Syntax m)) k h f up le = tt
gain_rest a b d e n (Err (TooDeep m)) k h f up le = absurd h

pub gain_mark : {B : Type 0} (a b d e : ℕ) (m : Mark) (ts : List Kind) (k : List Kind → Result (B × List Kind) Fault) → ((us : List Kind) → Keeps b d (length us) (k us)) → a ≤ b + 1 → e ≤ 1 + d → Keeps a e (length ts) (expect_mark m ts >>= k)
gain_mark a b d e m ts k f up le = gain_rest a b d e (length ts) (expect_mark m ts) k (keeps_mark m ts) (λ us h. f us) up le

pub gain_key : {B : Type 0} (a b d e : ℕ) (m : Key) (ts : List Kind) (k : List Kind → Result (B × List Kind) Fault) → ((us : List Kind) → Keeps b d (length us) (k us)) → a ≤ b + 1 → e ≤ 1 + d → Keeps a e (length ts) (expect_key m ts >>= k)
gain_key a b d e m ts k f up le = gain_rest a b d e (length ts) (expect_key m ts) k (keeps_key m ts) (λ us h. f us) up le

-- a choice by a mark or a keyword, which counts for what is read behind it
pub gain_if_mark : {B : Type 0} (a b d e : ℕ) (m : Mark) (ts : List Kind) (x : Result (B × List Kind) Fault) (f : List Kind → Result (B × List Kind) Fault) → Keeps a e (length ts) x → ((us : List Kind) → Keeps b d (length us) (f us)) → a ≤ b + 1 → e ≤ 1 + d → Keeps a e (length ts) (choose (after_mark m ts) x f)
gain_if_mark a b d e m ts x f h k up le =
    keeps_choose a e (length ts) (after_mark m ts) x f (λ n. h) λ us s.
    keeps_from a b d e (length us) (length ts) (f us) (k us) (omega (arith, after_mark_length m ts us s)) (omega (arith, after_mark_length m ts us s))

pub gain_if_key : {B : Type 0} (a b d e : ℕ) (m : Key) (ts : List Kind) (x : Result (B × List Kind) Fault) (f : List Kind → Result (B × List Kind) Fault) → Keeps a e (length ts) x → ((us : List Kind) → Keeps b d (length us) (f us)) → a ≤ b + 1 → e ≤ 1 + d → Keeps a e (length ts) (choose (after_key m ts) x f)
gain_if_key a b d e m ts x f h k up le =
    keeps_choose a e (length ts) (after_key m ts) x f (λ n. h) λ us s.
    keeps_from a b d e (length us) (length ts) (f us) (k us) (omega (arith, after_key_length m ts us s)) (omega (arith, after_key_length m ts us s))

pub loose : {A : Type 0} (b c n : ℕ) (r : Result (A × List Kind) Fault) → Keeps b c n r → Keeps b 0 n r
loose b c n r h = keeps_from b b c 0 n n r h (omega arith) (omega arith)

-- the last step: a value is made of what was read
pub made : {A B : Type 0} (b c n : ℕ) (r : Result (A × List Kind) Fault) (f : A → B) → Keeps b c n r → Keeps b c n (r >>= λ x. Ok (f x.0, x.1))
made b c n (Ok x) f h = h
made b c n (Err (Syntax m)) f h = tt
made b c n (Err (TooDeep m)) f h = h

pub ended_keeps : {A : Type 0} (b c : ℕ) (r : Reader A) (ts : List Kind) → Keeps b c (length ts) (r ts) → Keeps b c (length ts) (ended r ts)
ended_keeps b c r ts h =
    gain b b c 0 c (length ts) (r ts) _ h (λ x le. gain_mark b b 0 0 mark.Semicolon x.1 _ (λ us. omega arith) (omega arith) (omega arith)) (omega arith) (omega arith)

-- names are read without a budget
pub names_keep : (b : ℕ) (ts : List Kind) → Keeps b 1 (length ts) (names_at ts)
names_keep b ts = items_keeps b 1 expect_name (after_mark mark.Comma) (after_mark_length mark.Comma) (keeps_name b) (λ us. loose b 1 (length us) (expect_name us) (keeps_name b us)) ts

pub choices_keep : (b : ℕ) (ts : List Kind) → Keeps b 1 (length ts) (choices_at ts)
choices_keep b ts = items_keeps b 1 expect_name (after_key key.Or) (after_key_length key.Or) (keeps_name b) (λ us. loose b 1 (length us) (expect_name us) (keeps_name b us)) ts

-- ---- function types

pub pname_keeps : (b : ℕ) (ts : List Kind) → Keeps b 1 (length ts) (pname_at ts)
pname_keeps b ts =
    gain_if_key b b 0 1 key.Nil ts _ _ (made b 1 (length ts) (expect_name ts) Some (keeps_name b ts)) (λ us. omega arith) (omega arith) (omega arith)

pub pnames_keep : (b : ℕ) (ts : List Kind) → Keeps b 1 (length ts) (pnames_at ts)
pnames_keep b ts = items_keeps b 1 pname_at (after_mark mark.Comma) (after_mark_length mark.Comma) (pname_keeps b) (λ us. loose b 1 (length us) (pname_at us) (pname_keeps b us)) ts

self_keeps : (b : ℕ) (ts : List Kind) → Keeps b 0 (length ts) (self_at ts)
self_keeps b ts = gain_if_key b b 0 0 key.SelfWord ts _ _ (omega arith) (λ us. omega arith) (omega arith) (omega arith)

pub param_keeps : (b : ℕ) (ts : List Kind) → Keeps (b + 2) 1 (length ts) (param_at b ts)
unfolding param_at
param_keeps b ts =
    gain (b + 2) (b + 1) 1 0 1 (length ts) (pnames_at ts) _ (pnames_keep (b + 2) ts) (λ ns h.
    gain_mark (b + 1) b 0 0 mark.Colon ns.1 _ (λ us.
    gain b b 0 0 0 (length us) (self_at us) _ (self_keeps b us) (λ s k.
    made b 0 (length s.1) (ty_at b s.1) _ (loose b 1 (length s.1) (ty_at b s.1) (ty_keeps b s.1))) (omega arith) (omega arith)) (omega arith) (omega arith)) (omega arith) (omega arith)

pub params_keep : (b : ℕ) (ts : List Kind) → Keeps (b + 2) 1 (length ts) (params_at b ts)
unfolding params_at
params_keep b ts =
    gain_if_mark (b + 2) (b + 2) 0 1 mark.CloseParen ts _ _
    (gain (b + 2) (b + 2) 1 0 1 (length ts) (items (param_at b) (after_mark mark.Comma) ts) _
    (items_keeps (b + 2) 1 (param_at b) (after_mark mark.Comma) (after_mark_length mark.Comma) (param_keeps b) (λ us. loose (b + 2) 1 (length us) (param_at b us) (param_keeps b us)) ts)
    (λ ps h. gain_mark (b + 2) (b + 2) 0 0 mark.CloseParen ps.1 _ (λ us. omega arith) (omega arith) (omega arith)) (omega arith) (omega arith))
    (λ us. omega arith) (omega arith) (omega arith)

answer_keeps : (b : ℕ) (ts : List Kind) → Keeps (b + 1) 0 (length ts) (answer_at b ts)
unfolding answer_at
answer_keeps b ts =
    gain_if_mark (b + 1) b 0 0 mark.Colon ts _ _ (omega arith) (λ us. made b 0 (length us) (ty_at b us) Some (loose b 1 (length us) (ty_at b us) (ty_keeps b us))) (omega arith) (omega arith)

raises_keep : (b : ℕ) (ts : List Kind) → Keeps b 0 (length ts) (raises_at ts)
unfolding raises_at
raises_keep b ts =
    gain_if_key b b 0 0 key.Raises ts _ _ (omega arith) (λ us.
    gain_if_mark b b 0 0 mark.OpenParen us _ _
    (gain b b 1 0 0 (length us) (expect_name us) _ (keeps_name b us) (λ n h. omega arith) (omega arith) (omega arith))
    (λ vs. gain b b 1 0 0 (length vs) (names_at vs) _ (names_keep b vs) (λ ns h.
    gain_mark b b 0 0 mark.CloseParen ns.1 _ (λ ws. omega arith) (omega arith) (omega arith)) (omega arith) (omega arith)) (omega arith) (omega arith)) (omega arith) (omega arith)

pub fn_keeps : (b : ℕ) (ts : List Kind) → Keeps (b + 2) 1 (length ts) (fn_at b ts)
unfolding fn_at
fn_keeps b ts =
    gain_mark (b + 2) (b + 2) 0 1 mark.OpenParen ts _ (λ us.
    gain (b + 2) (b + 1) 1 0 0 (length us) (params_at b us) _ (params_keep b us) (λ ps h.
    gain (b + 1) (b + 1) 0 0 0 (length ps.1) (answer_at b ps.1) _ (answer_keeps b ps.1) (λ t k.
    made (b + 1) 0 (length t.1) (raises_at t.1) _ (raises_keep (b + 1) t.1)) (omega arith) (omega arith)) (omega arith) (omega arith)) (omega arith) (omega arith)

-- ---- variants

pub field_keeps : (b : ℕ) (ts : List Kind) → Keeps (b + 2) 1 (length ts) (field_at b ts)
unfolding field_at
field_keeps b ts =
    gain (b + 2) (b + 1) 1 0 1 (length ts) (names_at ts) _ (names_keep (b + 2) ts) (λ ns h.
    gain_mark (b + 1) b 0 0 mark.Colon ns.1 _ (λ us.
    made b 0 (length us) (ended (ty_at b) us) _ (loose b 1 (length us) (ended (ty_at b) us) (ended_keeps b 1 (ty_at b) us (ty_keeps b us)))) (omega arith) (omega arith)) (omega arith) (omega arith)

pub variant_keeps : (b : ℕ) (ts : List Kind) → Keeps (b + 2) 1 (length ts) (variant_at b ts)
unfolding variant_at
variant_keeps b ts =
    gain (b + 2) (b + 2) 1 0 1 (length ts) (choices_at ts) _ (choices_keep (b + 2) ts) (λ ns h.
    gain_mark (b + 2) (b + 2) 0 0 mark.FatArrow ns.1 _ (λ us.
    made (b + 2) 0 (length us) (fields_at b us) _
    (until_keeps (b + 2) (field_at b) fields_end (λ vs. tt) (λ vs. loose (b + 2) 1 (length vs) (field_at b vs) (field_keeps b vs)) (suc (length us)) us)) (omega arith) (omega arith)) (omega arith) (omega arith)

pick_keeps : (b : ℕ) (ts : List Kind) → Keeps (b + 2) 0 (length ts) (pick_at b ts)
unfolding pick_at
pick_keeps b ts =
    gain_if_key (b + 2) (b + 2) 0 0 key.Pick ts _ _ (omega arith) (λ us.
    gain_mark (b + 2) (b + 2) 0 0 mark.OpenBrace us _ (λ vs.
    gain (b + 2) (b + 2) 0 0 0 (length vs) (variants_at b vs) _
    (until_keeps (b + 2) (variant_at b) variants_end (λ ws. tt) (λ ws. loose (b + 2) 1 (length ws) (variant_at b ws) (variant_keeps b ws)) (suc (length vs)) vs)
    (λ xs h. gain_mark (b + 2) (b + 2) 0 0 mark.CloseBrace xs.1 _ (λ ws. omega arith) (omega arith) (omega arith)) (omega arith) (omega arith)) (omega arith) (omega arith)) (omega arith) (omega arith)

-- ---- members

members_of_keep : (b : ℕ) (r : Reader Member) → ((ts : List Kind) → Keeps b 0 (length ts) (r ts)) → (ts : List Kind) → Keeps b 0 (length ts) (members_of_at r ts)
unfolding members_of_at
members_of_keep b r h ts = until_keeps b r members_end (λ us. tt) h (suc (length ts)) ts

adt_of_keeps : (b : ℕ) (r : Reader Member) → ((ts : List Kind) → Keeps (b + 2) 0 (length ts) (r ts)) → (ts : List Kind) → Keeps (suc b) 1 (length ts) (adt_of_at r b ts)
unfolding adt_of_at
adt_of_keeps b r h ts =
    gain_key (suc b) (b + 2) 0 1 key.Adt ts _ (λ us.
    gain_mark (b + 2) (b + 2) 0 0 mark.OpenBrace us _ (λ vs.
    gain (b + 2) (b + 2) 0 0 0 (length vs) (members_of_at r vs) _ (members_of_keep (b + 2) r h vs) (λ ms g.
    gain (b + 2) (b + 2) 0 0 0 (length ms.1) (pick_at b ms.1) _ (pick_keeps b ms.1) (λ p k.
    gain_mark (b + 2) (b + 2) 0 0 mark.CloseBrace p.1 _ (λ ws.
    gain_mark (b + 2) (b + 2) 0 0 mark.Semicolon ws _ (λ xs. omega arith) (omega arith) (omega arith)) (omega arith) (omega arith)) (omega arith) (omega arith)) (omega arith) (omega arith)) (omega arith) (omega arith)) (omega arith) (omega arith)

member_behind_keeps : (b : ℕ) (r : Reader Inside) → ((ts : List Kind) → Keeps b 1 (length ts) (r ts)) → (ns : List (List ℕ)) (ts : List Kind) → Keeps b 0 (length ts) (member_behind r b ns ts)
unfolding member_behind
member_behind_keeps b r h ns ts =
    gain_if_key b b 0 0 key.Fn ts _ _
    (gain_if_key b b 0 0 key.Con ts _ _
    (gain_if_key b b 0 0 key.TypeWord ts _ _
    (keeps_choose b 0 (length ts) (after_key key.Adt ts) _ _
    (λ e. made b 0 (length ts) (ended (ty_at b) ts) _ (loose b 1 (length ts) (ended (ty_at b) ts) (ended_keeps b 1 (ty_at b) ts (ty_keeps b ts))))
    (λ us e. keeps_choose b 0 (length ts) (only ns) _ _ (λ o. tt) (λ n o. gain b b 1 0 0 (length ts) (r ts) _ (h ts) (λ x k. omega arith) (omega arith) (omega arith))))
    (λ us. made b 0 (length us) (ended (ty_at b) us) _ (loose b 1 (length us) (ended (ty_at b) us) (ended_keeps b 1 (ty_at b) us (ty_keeps b us)))) (omega arith) (omega arith))
    (λ us. made b 0 (length us) (ended (expr_at b) us) _ (loose b 1 (length us) (ended (expr_at b) us) (ended_keeps b 1 (expr_at b) us (expr_keeps b us)))) (omega arith) (omega arith))
    (λ us. made b 0 (length us) (ended (fn_at b) us) _ (keeps_from b (b + 2) 1 0 (length us) (length us) (ended (fn_at b) us) (ended_keeps (b + 2) 1 (fn_at b) us (fn_keeps b us)) (omega arith) (omega arith))) (omega arith) (omega arith)

member_of_keeps : (b : ℕ) (r : Reader Inside) → ((ts : List Kind) → Keeps b 1 (length ts) (r ts)) → (ts : List Kind) → Keeps (b + 2) 1 (length ts) (member_of_at r b ts)
unfolding member_of_at
member_of_keeps b r h ts =
    gain (b + 2) (b + 1) 1 0 1 (length ts) (names_at ts) _ (names_keep (b + 2) ts) (λ ns g.
    gain_mark (b + 1) b 0 0 mark.Colon ns.1 _ (λ us. member_behind_keeps b r h ns.0 us) (omega arith) (omega arith)) (omega arith) (omega arith)

pub adt_keeps : (b : ℕ) (ts : List Kind) → Keeps b 1 (length ts) (adt_at b ts)
unfolding adt_at member_at
adt_keeps zero ts = omega arith
adt_keeps (suc b) ts =
    adt_of_keeps b (member_at b) (λ us. loose (b + 2) 1 (length us) (member_at b us) (member_of_keeps b (adt_at b) (adt_keeps b) us)) ts

pub member_keeps : (b : ℕ) (ts : List Kind) → Keeps (b + 2) 1 (length ts) (member_at b ts)
unfolding member_at
member_keeps b ts = member_of_keeps b (adt_at b) (adt_keeps b) ts

pub members_keep : (b : ℕ) (ts : List Kind) → Keeps (b + 2) 0 (length ts) (members_at b ts)
members_keep b ts = members_of_keep (b + 2) (member_at b) (λ us. loose (b + 2) 1 (length us) (member_at b us) (member_keeps b us)) ts

-- ---- declarations

value_keeps : (b : ℕ) (ts : List Kind) → Keeps b 0 (length ts) (value_at b ts)
unfolding value_at
value_keeps b ts =
    gain_if_mark b b 0 0 mark.Assign ts _ _ (omega arith) (λ us. made b 0 (length us) (expr_at b us) Some (loose b 1 (length us) (expr_at b us) (expr_keeps b us))) (omega arith) (omega arith)

values_keep : (b : ℕ) (ts : List Kind) → Keeps b 0 (length ts) (values_at b ts)
unfolding values_at
values_keep b ts =
    gain_if_mark b b 0 0 mark.OpenParen ts _ _ (omega arith) (λ us.
    gain b b 1 0 0 (length us) (items (ty_at b) (after_mark mark.Comma) us) _
    (items_keeps b 1 (ty_at b) (after_mark mark.Comma) (after_mark_length mark.Comma) (ty_keeps b) (λ vs. loose b 1 (length vs) (ty_at b vs) (ty_keeps b vs)) us)
    (λ tys h. gain_mark b b 0 0 mark.CloseParen tys.1 _ (λ vs. omega arith) (omega arith) (omega arith)) (omega arith) (omega arith)) (omega arith) (omega arith)

module_keeps : (b : ℕ) (ts : List Kind) → Keeps b 0 (length ts) (module_at b ts)
unfolding module_at
module_keeps b ts =
    gain_mark b (b + 2) 0 0 mark.OpenBrace ts _ (λ us.
    gain (b + 2) (b + 2) 0 0 0 (length us) (members_at b us) _ (members_keep b us) (λ ms g.
    gain_mark (b + 2) (b + 2) 0 0 mark.CloseBrace ms.1 _ (λ vs.
    gain_mark (b + 2) (b + 2) 0 0 mark.Semicolon vs _ (λ ws. omega arith) (omega arith) (omega arith)) (omega arith) (omega arith)) (omega arith) (omega arith)) (omega arith) (omega arith)

decl_of_type_keeps : (b : ℕ) (ns : List (List ℕ)) (ts : List Kind) → Keeps b 0 (length ts) (decl_of_type b ns ts)
unfolding decl_of_type
decl_of_type_keeps b ns ts =
    gain_if_key b b 0 0 key.Module ts _ _
    (keeps_choose b 0 (length ts) (after_key key.Adt ts) _ _
    (λ e. gain b b 1 0 0 (length ts) (ty_at b ts) _ (ty_keeps b ts) (λ t h. made b 0 (length t.1) (ended (value_at b) t.1) _ (ended_keeps b 0 (value_at b) t.1 (value_keeps b t.1))) (omega arith) (omega arith))
    (λ us e. keeps_choose b 0 (length ts) (only ns) _ _ (λ o. tt) (λ n o. gain b b 1 0 0 (length ts) (adt_at b ts) _ (adt_keeps b ts) (λ x k. omega arith) (omega arith) (omega arith))))
    (λ us. keeps_choose b 0 (length us) (only ns) _ _ (λ o. tt) (λ n o. made b 0 (length us) (module_at b us) _ (module_keeps b us))) (omega arith) (omega arith)

decl_behind_keeps : (b : ℕ) (ns : List (List ℕ)) (ts : List Kind) → Keeps b 0 (length ts) (decl_behind b ns ts)
unfolding decl_behind
decl_behind_keeps b ns ts =
    gain_if_key b b 0 0 key.Con ts _ _
    (gain_if_key b b 0 0 key.TypeWord ts _ _
    (gain_if_key b b 0 0 key.Import ts _ _
    (gain_if_key b b 0 0 key.Exception ts _ _ (decl_of_type_keeps b ns ts)
    (λ us. made b 0 (length us) (ended (values_at b) us) _ (ended_keeps b 0 (values_at b) us (values_keep b us))) (omega arith) (omega arith))
    (λ us. made b 0 (length us) (ended expect_name us) _ (loose b 1 (length us) (ended expect_name us) (ended_keeps b 1 expect_name us (keeps_name b us)))) (omega arith) (omega arith))
    (λ us. made b 0 (length us) (ended (ty_at b) us) _ (loose b 1 (length us) (ended (ty_at b) us) (ended_keeps b 1 (ty_at b) us (ty_keeps b us)))) (omega arith) (omega arith))
    (λ us. made b 0 (length us) (ended (expr_at b) us) _ (loose b 1 (length us) (ended (expr_at b) us) (ended_keeps b 1 (expr_at b) us (expr_keeps b us)))) (omega arith) (omega arith)

pub decl_keeps : (b : ℕ) (ts : List Kind) → Keeps (b + 2) 1 (length ts) (decl_at b ts)
unfolding decl_at
decl_keeps b ts =
    gain (b + 2) (b + 1) 1 0 1 (length ts) (names_at ts) _ (names_keep (b + 2) ts) (λ ns g.
    gain_if_mark (b + 1) b 0 0 mark.Define ns.1 _ _
    (gain_mark (b + 1) b 0 0 mark.Colon ns.1 _ (λ us. decl_behind_keeps b ns.0 us) (omega arith) (omega arith))
    (λ us. made b 0 (length us) (ended (expr_at b) us) _ (loose b 1 (length us) (ended (expr_at b) us) (ended_keeps b 1 (expr_at b) us (expr_keeps b us)))) (omega arith) (omega arith)) (omega arith) (omega arith)

-- ---- what is left is shorter

pub shorter : {A : Type 0} (b : ℕ) (r : Reader A) (ts : List Kind) (x : A) (us : List Kind) → Keeps b 1 (length ts) (r ts) → r ts ≡ Ok (x, us) → length us < length ts
shorter b r ts x us k e = omega (arith, kept_shorter b 1 (length ts) (r ts) x us k e)

pub pname_shorter : (ts : List Kind) (n : Option (List ℕ)) (us : List Kind) → pname_at ts ≡ Ok (n, us) → length us < length ts
pname_shorter ts n us e = shorter 0 pname_at ts n us (pname_keeps 0 ts) e

pub param_shorter : (b : ℕ) (ts : List Kind) (p : Param) (us : List Kind) → param_at b ts ≡ Ok (p, us) → length us < length ts
param_shorter b ts p us e = shorter (b + 2) (param_at b) ts p us (param_keeps b ts) e

pub ty_shorter : (b : ℕ) (ts : List Kind) (t : Ty) (us : List Kind) → ty_at b ts ≡ Ok (t, us) → length us < length ts
ty_shorter b ts t us e = shorter b (ty_at b) ts t us (ty_keeps b ts) e

pub field_shorter : (b : ℕ) (ts : List Kind) (f : Field) (us : List Kind) → field_at b ts ≡ Ok (f, us) → length us < length ts
field_shorter b ts f us e = shorter (b + 2) (field_at b) ts f us (field_keeps b ts) e

pub variant_shorter : (b : ℕ) (ts : List Kind) (v : Variant) (us : List Kind) → variant_at b ts ≡ Ok (v, us) → length us < length ts
variant_shorter b ts v us e = shorter (b + 2) (variant_at b) ts v us (variant_keeps b ts) e

pub member_shorter : (b : ℕ) (ts : List Kind) (m : Member) (us : List Kind) → member_at b ts ≡ Ok (m, us) → length us < length ts
member_shorter b ts m us e = shorter (b + 2) (member_at b) ts m us (member_keeps b ts) e

-- what a function gave that a reader gives
pub gives_shorter : {X Y : Type 0} (b : ℕ) (view : X → Y) (rest : X → List Kind) (result : Result X ReadError) (ts : List Kind) (read : Result (Y × List Kind) Fault)
    → Gives (λ x. (view x, rest x)) result read → Keeps b 1 (length ts) read → IfOk result (λ x. length (rest x) < length ts)
gives_shorter b view rest (Ok x) ts read g k = omega (arith, kept_shorter b 1 (length ts) read (view x) (rest x) k g)
gives_shorter b view rest (Err e) ts read g k = tt
