-- What is read is spelled so.
use Rattle.std.proofs.Common.{◌≡◌, ℕ, zero, suc, ◌+◌, ◌≤◌, ◌<◌, Bool, true, false, cond, List, [], ◌∷◌, length, Some, None, Result, Ok, Err, refl, ap, subst, ◌∙◌, arith, inl, inr}
use Rattle.std.specs.Prelude.{IfOk, nat_lt, nat_le}
use Rattle.std.proofs.lemmas.Bool.{ltb-false, leb-true, leb-false}
use Rattle.limbo_lexer.specs.declared.token.Kind.{Kind}
use Rattle.limbo_lexer.specs.declared.token.Kind.TheVariants as kind
use Rattle.limbo_lexer.specs.declared.token.Mark.{Mark}
use Rattle.limbo_lexer.specs.declared.token.Mark.TheVariants as mark
use Rattle.limbo_lexer.specs.declared.token.Key.TheVariants as key
use Rattle.limbo_tree.specs.declared.operators.AssignOp.{AssignOp}
use Rattle.limbo_tree.specs.declared.operators.BinaryOp.{BinaryOp}
use Rattle.limbo_tree.specs.declared.operators.PostfixOp.{PostfixOp}
use Rattle.limbo_tree.specs.Tokens.{◌▸◌, ◌▹◌}
use Rattle.limbo_tree.specs.Exprs.{Expr, Part, Exprs, Init, Assign, Load, Binary, Postfix, Number, Chars, Name, Nil, Absent, Present, assign_mark, binary_mark, unary_kind, spell_comma, spell, spell_part, spell_exprs, spell_more_exprs, spell_init, spell_more_inits, nesting, part_nesting, exprs_nesting, init_nesting, inits_nesting, level, left_level, right_level, is_postfix, is_unary, are_exprs, IsAt, IsPart, AreExprs, IsInit, AreInits}
use Rattle.limbo_tree.specs.View.{exprs_of, inits_of}
use Rattle.limbo_reading.specs.declared.fault.Fault.{Fault}
use Rattle.limbo_reading.specs.Reading.{after_mark, after_key, expect_mark, expect_key, expect_name}
use Rattle.limbo_reading.proofs.Steps.{tell, after_mark_is, after_key_is, took_bind, took_choose, took_if, took_mark, took_key, took_name}
use Rattle.limbo_reading.proofs.Lists.{Each, Took, TookItems, items_took}
use Rattle.limbo_expr_parts.specs.Front.{front}
use Rattle.limbo_expr_parts.specs.Types.{ty_at}
use Rattle.limbo_expr_parts.specs.Strength.{strength}
use Rattle.limbo_expr_parts.specs.Operators.{binary_of, unary_of, assign_of, postfix_of, op_within, after_load, assign_after}
use Rattle.limbo_expr_parts.specs.Parts.{leaf_of, after_rest, after_comma_inside, comma_and_brace, sized_at, channel_at, leaf_at, part_behind}
use Rattle.limbo_expr_parser.specs.Exprs.{Readers, part_before, list_at, list_before, init_at, inits_at, filled_at, array_at, listed_at, primary, index_at, one_behind, postfix, postfixed, unary, climb, load_at, chain, assigned, expr, step, readers}
use Rattle.limbo_expr_parts.proofs.Steps.{some_same, if_some, front_is, took_any}
use Rattle.limbo_expr_parser.proofs.Table.{binary_is, unary_is, assign_is, postfix_is, level_high, right_low, left_fits}
use Rattle.limbo_expr_parts.proofs.TypeLaws.{ty_took, behind}
use Rattle.limbo_expr_parser.proofs.Shapes.{spell_exprs_of, spell_inits_of, looser}

-- a tree of a level and of nesting up to b
abbrev pub Good : ℕ → ℕ → Expr → Type 0
Good k b e = IsAt k e × (nesting e ≤ b)

-- r gives trees of nesting up to b, and no operator of the level follows
pub record Sound (r : Readers) (b : ℕ) : Type 0 where
  pub chain : (k : ℕ) (ts : List Kind) → IfOk (r.chain k ts) (λ x. Took spell (Good k b) ts x × (k ≤ 11 → op_within k x.1 ≡ None))
  pub expr : (ts : List Kind) → IfOk (r.expr ts) (Took spell (Good 13 b) ts)

-- ---- lists of expressions

all_good : (b : ℕ) (es : List Expr) → Each (Good 13 b) es → AreExprs (exprs_of es) × (exprs_nesting (exprs_of es) ≤ b)
all_good b [] g = (tt, omega arith)
all_good b (e ∷ es) g = let h = all_good b es g.1 in ((g.0.0, h.0), omega (arith, g.0.1, h.1))

list_took : (r : Readers) (b : ℕ) → Sound r b → (ts : List Kind) → IfOk (list_at r ts) (TookItems spell (kind.Mark mark.Comma) (Good 13 b) (after_mark mark.Comma) ts)
unfolding list_at
list_took r b s ts = items_took r.expr (after_mark mark.Comma) spell (kind.Mark mark.Comma) (Good 13 b) (after_mark_is mark.Comma) s.expr ts

-- a list, a sign and what follows
pub record TookAll (m : Mark) (b : ℕ) (ts : List Kind) (x : Exprs × List Kind) : Type 0 where
  pub parts : ts ≡ spell_exprs x.0 (m ▸ x.1)
  pub stand : AreExprs x.0
  pub within : exprs_nesting x.0 ≤ b

listed : (m : Mark) (b : ℕ) (ts us : List Kind) (xs : List Expr × List Kind) → TookItems spell (kind.Mark mark.Comma) (Good 13 b) (after_mark mark.Comma) ts xs → xs.1 ≡ m ▸ us → TookAll m b ts (exprs_of xs.0, us) × (are_exprs (exprs_of xs.0) ≡ true)
listed m b ts us xs q e =
    let h = all_good b q.more q.stands.1 in
    rw q.all (
      record {
        parts = q.parts ∙ ap (spell q.first) (spell_exprs_of q.more xs.1 ∙ ap (spell_more_exprs (exprs_of q.more)) e);
        stand = (q.stands.0.0, h.0);
        within = omega (arith, q.stands.0.1, h.1);
      },
      refl,
    )

list_before_took : (r : Readers) (b : ℕ) → Sound r b → (m : Mark) (ts : List Kind) → IfOk (list_before r m ts) (TookAll m b ts)
unfolding list_before
list_before_took r b s m ts =
    took_choose (after_mark m ts) _ _ _
    (λ n. took_bind (list_at r ts) _ _ _ (list_took r b s ts) λ xs q.
    took_bind (expect_mark m xs.1) _ _ _ (took_mark m xs.1) λ us e. (listed m b ts us xs q e).0)
    λ us e. record { parts = after_mark_is m ts us e; stand = tt; within = omega arith }

pub record TookPart (m : Mark) (b : ℕ) (ts : List Kind) (x : Part × List Kind) : Type 0 where
  pub parts : ts ≡ spell_part x.0 (m ▸ x.1)
  pub stands : IsPart x.0
  pub within : part_nesting x.0 ≤ b

part_took : (r : Readers) (b : ℕ) → Sound r b → (m : Mark) (ts : List Kind) → IfOk (part_before r m ts) (TookPart m b ts)
unfolding part_before
part_took r b s m ts =
    took_choose (after_mark m ts) _ _ _
    (λ n. took_bind (r.expr ts) _ _ _ (s.expr ts) λ x t.
    took_bind (expect_mark m x.1) _ _ _ (took_mark m x.1) λ us e.
    record { parts = t.parts ∙ ap (spell x.0) e; stands = t.stands.0; within = t.stands.1 })
    λ us e. record { parts = after_mark_is m ts us e; stands = tt; within = omega arith }

-- ---- inits

abbrev GoodInit : ℕ → Init → Type 0
GoodInit b i = IsInit i × (init_nesting i ≤ b)

all_good_init : (b : ℕ) (is : List Init) → Each (GoodInit b) is → AreInits (inits_of is) × (inits_nesting (inits_of is) ≤ b)
all_good_init b [] g = (tt, omega arith)
all_good_init b (i ∷ is) g = let h = all_good_init b is g.1 in ((g.0.0, h.0), omega (arith, g.0.1, h.1))

pub after_rest_is : (ts us : List Kind) → after_rest ts ≡ Some us → ts ≡ mark.Star ▸ mark.FatArrow ▸ us
after_rest_is ts us e = elim (tell (after_mark mark.Star ts)) [
  | inr n ↦ let h = rw n at e in absurd cc
  | inl (vs, n) ↦ let h = rw n at e in after_mark_is mark.Star ts vs n ∙ ap (λ (v : List Kind). mark.Star ▸ v) (after_mark_is mark.FatArrow vs us h)
]

pub comma_inside_is : (ts us : List Kind) → after_comma_inside ts ≡ Some us → ts ≡ mark.Comma ▸ us
comma_inside_is ts us e = elim (tell (after_mark mark.Comma ts)) [
  | inr n ↦ let h = rw n at e in absurd cc
  | inl (vs, n) ↦ let h = rw n at e in elim (tell (after_mark mark.CloseBrace vs)) [
    | inl (ws, m) ↦ let g = rw m at h in absurd cc
    | inr m ↦ let g = rw m at h in after_mark_is mark.Comma ts vs n ∙ ap (λ (v : List Kind). mark.Comma ▸ v) (some_same vs us g)
  ]
]

init_took : (r : Readers) (b : ℕ) → Sound r b → (ts : List Kind) → IfOk (init_at r ts) (Took spell_init (GoodInit b) ts)
unfolding init_at
init_took r b s ts =
    took_choose (after_rest ts) _ _ _
    (λ n. took_bind (r.expr ts) _ _ _ (s.expr ts) λ i t.
    took_choose (after_mark mark.FatArrow i.1) _ _ _
    (λ m. record { parts = t.parts; stands = t.stands })
    λ us e. took_bind (r.expr us) _ _ _ (s.expr us) λ x q.
    record { parts = t.parts ∙ ap (spell i.0) (after_mark_is mark.FatArrow i.1 us e ∙ ap (λ (v : List Kind). mark.FatArrow ▸ v) q.parts); stands = ((t.stands.0, q.stands.0), omega (arith, t.stands.1, q.stands.1)) })
    λ us e. took_bind (r.expr us) _ _ _ (s.expr us) λ x q.
    record { parts = after_rest_is ts us e ∙ ap (λ (v : List Kind). mark.Star ▸ mark.FatArrow ▸ v) q.parts; stands = q.stands }

inits_took : (r : Readers) (b : ℕ) → Sound r b → (ts : List Kind) → IfOk (inits_at r ts) (TookItems spell_init (kind.Mark mark.Comma) (GoodInit b) after_comma_inside ts)
unfolding inits_at
inits_took r b s ts = items_took (init_at r) after_comma_inside spell_init (kind.Mark mark.Comma) (GoodInit b) comma_inside_is (init_took r b s) ts

comma_took : (ts : List Kind) → IfOk (comma_and_brace ts) (λ x. ts ≡ spell_comma x.0 (mark.CloseBrace ▸ x.1))
comma_took ts =
    took_choose (after_mark mark.Comma ts) _ _ _
    (λ n. took_bind (expect_mark mark.CloseBrace ts) _ _ _ (took_mark mark.CloseBrace ts) λ us e. e)
    λ us e. took_bind (expect_mark mark.CloseBrace us) _ _ _ (took_mark mark.CloseBrace us) λ vs f. after_mark_is mark.Comma ts us e ∙ ap (λ (v : List Kind). mark.Comma ▸ v) f

abbrev up_to_of : Part → List Kind → List Kind
up_to_of n ts = key.Array ▹ mark.OpenBracket ▸ spell_part n (mark.CloseBracket ▸ key.Of ▹ ts)

filled_took : (r : Readers) (b : ℕ) → Sound r b → (n : Part) (ts : List Kind) → IsPart n → part_nesting n ≤ b → IfOk (filled_at r n ts) (Took spell (Good 0 (suc b)) (up_to_of n (mark.OpenBrace ▸ ts)))
unfolding filled_at
filled_took r b s n ts h d =
    took_bind (inits_at r ts) _ _ _ (inits_took r b s ts) λ is q.
    took_bind (comma_and_brace is.1) _ _ _ (comma_took is.1) λ c e.
    let g = all_good_init b q.more q.stands.1 in
    rw q.all (record {
      parts = ap (λ (v : List Kind). up_to_of n (mark.OpenBrace ▸ v)) (q.parts ∙ ap (spell_init q.first) (spell_inits_of q.more is.1 ∙ ap (spell_more_inits (inits_of q.more)) e));
      stands = ((h, refl, (q.stands.0.0, g.0)), omega (arith, q.stands.0.1, g.1));
    })

sized_took : (b : ℕ) (n : Part) (ts : List Kind) → IsPart n → part_nesting n ≤ b → IfOk (sized_at b n ts) (Took spell (Good 0 (suc b)) (up_to_of n ts))
unfolding sized_at
sized_took b Absent ts h d = tt
sized_took b (Present e) ts h d =
    took_bind (ty_at b ts) _ _ _ (ty_took b ts) λ t q.
    record { parts = ap (up_to_of (Present e)) q.parts; stands = ((h, q.stands.0), omega (arith, q.stands.1)) }

array_took : (r : Readers) (b : ℕ) → Sound r b → (ts : List Kind) → IfOk (array_at r b ts) (Took spell (Good 0 (suc b)) (key.Array ▹ ts))
unfolding array_at
array_took r b s ts =
    took_choose (after_mark mark.OpenBracket ts) _ _ _
    (λ n. took_bind (expect_key key.Of ts) _ _ _ (took_key key.Of ts) λ us e.
    took_bind (expect_key key.Byte us) _ _ _ (took_key key.Byte us) λ vs f.
    took_bind (r.chain 0 vs) _ _ _ (s.chain 0 vs) λ x t.
    record { parts = ap (λ (v : List Kind). key.Array ▹ v) (e ∙ ap (λ (v : List Kind). key.Of ▹ v) (f ∙ ap (λ (v : List Kind). key.Byte ▹ v) t.0.parts)); stands = (t.0.stands.0, omega (arith, t.0.stands.1)) })
    λ us e. took_bind (part_before r mark.CloseBracket us) _ _ _ (part_took r b s mark.CloseBracket us) λ n p.
    took_bind (expect_key key.Of n.1) _ _ _ (took_key key.Of n.1) λ vs f.
    let whole : key.Array ▹ ts ≡ up_to_of n.0 vs = ap (λ (v : List Kind). key.Array ▹ v) (after_mark_is mark.OpenBracket ts us e ∙ ap (λ (v : List Kind). mark.OpenBracket ▸ v) (p.parts ∙ ap (λ (v : List Kind). spell_part n.0 (mark.CloseBracket ▸ v)) f)) in
    took_choose (after_mark mark.OpenBrace vs) _ _ _
    (λ m. behind _ (Took spell (Good 0 (suc b))) (key.Array ▹ ts) (up_to_of n.0 vs) whole (sized_took b n.0 vs p.stands p.within))
    λ ws g. behind _ (Took spell (Good 0 (suc b))) (key.Array ▹ ts) (up_to_of n.0 (mark.OpenBrace ▸ ws)) (whole ∙ ap (up_to_of n.0) (after_mark_is mark.OpenBrace vs ws g)) (filled_took r b s n.0 ws p.stands p.within)

channel_took : (b : ℕ) (ts : List Kind) → IfOk (channel_at b ts) (Took spell (Good 0 (suc b)) (key.Chan ▹ ts))
unfolding channel_at
channel_took b ts =
    took_bind (expect_key key.Of ts) _ _ _ (took_key key.Of ts) λ us e.
    took_bind (ty_at b us) _ _ _ (ty_took b us) λ t q.
    record { parts = ap (λ (v : List Kind). key.Chan ▹ v) (e ∙ ap (λ (v : List Kind). key.Of ▹ v) q.parts); stands = ((refl, q.stands.0), omega (arith, q.stands.1)) }

listed_took : (r : Readers) (b : ℕ) → Sound r b → (ts : List Kind) → IfOk (listed_at r ts) (Took spell (Good 0 (suc b)) (key.List ▹ ts))
unfolding listed_at
listed_took r b s ts =
    took_bind (expect_key key.Of ts) _ _ _ (took_key key.Of ts) λ us e.
    took_bind (expect_mark mark.OpenBrace us) _ _ _ (took_mark mark.OpenBrace us) λ vs f.
    took_bind (list_before r mark.CloseBrace vs) _ _ _ (list_before_took r b s mark.CloseBrace vs) λ es q.
    record { parts = ap (λ (v : List Kind). key.List ▹ v) (e ∙ ap (λ (v : List Kind). key.Of ▹ v) (f ∙ ap (λ (v : List Kind). mark.OpenBrace ▸ v) q.parts)); stands = (q.stand, omega (arith, q.within)) }

-- ---- a postfix

abbrev pub Plain : ℕ → Expr → Type 0
Plain b e = (is_postfix e ≡ true) × IsAt 0 e × (nesting e ≤ b)

leaf_is : (b : ℕ) (k : Kind) (e : Expr) (ts : List Kind) → leaf_of k ≡ Some e → Took spell (Plain (suc b)) (k ∷ ts) (e, ts)
leaf_is b (kind.Number v wide) e ts h = subst (λ (x : Expr). Took spell (Plain (suc b)) (kind.Number v wide ∷ ts) (x, ts)) (some_same (Number v wide) e h) (record { parts = refl; stands = (refl, tt, omega arith) })
leaf_is b (kind.Chars c) e ts h = subst (λ (x : Expr). Took spell (Plain (suc b)) (kind.Chars c ∷ ts) (x, ts)) (some_same (Chars c) e h) (record { parts = refl; stands = (refl, tt, omega arith) })
leaf_is b (kind.Name n) e ts h = subst (λ (x : Expr). Took spell (Plain (suc b)) (kind.Name n ∷ ts) (x, ts)) (some_same (Name n) e h) (record { parts = refl; stands = (refl, tt, omega arith) })
leaf_is b (kind.Key key.Nil) e ts h = subst (λ (x : Expr). Took spell (Plain (suc b)) (key.Nil ▹ ts) (x, ts)) (some_same Nil e h) (record { parts = refl; stands = (refl, tt, omega arith) })
leaf_is b (kind.Key _) e ts h = absurd cc
leaf_is b _ e ts h = absurd cc

leaf_took : (b : ℕ) (ts : List Kind) (x : Expr × List Kind) → front leaf_of ts ≡ Some x → Took spell (Plain (suc b)) ts x
leaf_took b ts x e =
    let f = front_is leaf_of ts x e in
    let t = leaf_is b f.first x.0 x.1 f.stands in
    record { parts = f.parts ∙ t.parts; stands = t.stands }

pub primary_took : (r : Readers) (b : ℕ) → Sound r b → (ts : List Kind) → IfOk (primary r ts) (Took spell (Plain (suc b)) ts)
unfolding primary leaf_at
primary_took r b s ts =
    took_choose (after_mark mark.OpenParen ts) _ _ _
    (λ n. took_choose (front leaf_of ts) _ _ _ (λ m. tt) λ x e. leaf_took b ts x e)
    λ us e. took_bind (list_at r us) _ _ _ (list_took r b s us) λ xs q.
    took_bind (expect_mark mark.CloseParen xs.1) _ _ _ (took_mark mark.CloseParen xs.1) λ vs f.
    let l = listed mark.CloseParen b us vs xs q f in
    record { parts = after_mark_is mark.OpenParen ts us e ∙ ap (λ (v : List Kind). mark.OpenParen ▸ v) l.0.parts; stands = (refl, (l.1, l.0.stand), omega (arith, l.0.within)) }

index_took : (r : Readers) (b : ℕ) → Sound r b → (f : Expr) (ts : List Kind) → Plain b f → IfOk (index_at r f ts) (Took spell (Plain (suc b)) (spell f (mark.OpenBracket ▸ ts)))
unfolding index_at
index_took r b s f ts h =
    took_choose (after_mark mark.Colon ts) _ _ _
    (λ n. took_bind (r.expr ts) _ _ _ (s.expr ts) λ i t.
    took_choose (after_mark mark.CloseBracket i.1) _ _ _
    (λ m. took_bind (expect_mark mark.Colon i.1) _ _ _ (took_mark mark.Colon i.1) λ us e.
    took_bind (part_before r mark.CloseBracket us) _ _ _ (part_took r b s mark.CloseBracket us) λ j q.
    record { parts = ap (λ (v : List Kind). spell f (mark.OpenBracket ▸ v)) (t.parts ∙ ap (spell i.0) (e ∙ ap (λ (v : List Kind). mark.Colon ▸ v) q.parts)); stands = (refl, (h.0, h.1, t.stands.0, q.stands), omega (arith, h.2, t.stands.1, q.within)) })
    λ us e. record { parts = ap (λ (v : List Kind). spell f (mark.OpenBracket ▸ v)) (t.parts ∙ ap (spell i.0) (after_mark_is mark.CloseBracket i.1 us e)); stands = (refl, (h.0, h.1, t.stands.0), omega (arith, h.2, t.stands.1)) })
    λ us e. took_bind (part_before r mark.CloseBracket us) _ _ _ (part_took r b s mark.CloseBracket us) λ j q.
    record { parts = ap (λ (v : List Kind). spell f (mark.OpenBracket ▸ v)) (after_mark_is mark.Colon ts us e ∙ ap (λ (v : List Kind). mark.Colon ▸ v) q.parts); stands = (refl, (h.0, h.1, tt, q.stands), omega (arith, h.2, q.within)) }

step_took : (b : ℕ) (f : Expr) (ts : List Kind) (o : PostfixOp × List Kind) → Plain b f → front postfix_of ts ≡ Some o → Took spell (Plain (suc b)) (spell f ts) (Postfix o.0 f, o.1)
step_took b f ts o h e =
    let t = front_is postfix_of ts o e in
    record { parts = ap (spell f) (t.parts ∙ ap (λ (k : Kind). k ∷ o.1) (postfix_is t.first o.0 t.stands)); stands = (refl, (h.0, h.1), omega (arith, h.2)) }

part_behind_took : (b : ℕ) (f : Expr) (ts : List Kind) → Plain b f → IfOk (part_behind f ts) (Took spell (Plain (suc b)) (spell f ts))
unfolding part_behind
part_behind_took b f ts h =
    took_choose (after_mark mark.Dot ts) _ _ _ (λ n0.
    took_choose (after_mark mark.Arrow ts) _ _ _ (λ n1.
    took_choose (front postfix_of ts) _ _ _ (λ n2. tt)
    λ o e. step_took b f ts o h e)
    λ us e. took_bind (expect_name us) _ _ _ (took_name us) λ n p.
    record { parts = ap (spell f) (after_mark_is mark.Arrow ts us e ∙ ap (λ (v : List Kind). mark.Arrow ▸ v) p); stands = (refl, (h.0, h.1), omega (arith, h.2)) })
    λ us e. took_bind (expect_name us) _ _ _ (took_name us) λ n p.
    record { parts = ap (spell f) (after_mark_is mark.Dot ts us e ∙ ap (λ (v : List Kind). mark.Dot ▸ v) p); stands = (refl, (h.0, h.1), omega (arith, h.2)) }

pub one_behind_took : (r : Readers) (b : ℕ) → Sound r b → (f : Expr) (ts : List Kind) → Plain b f → IfOk (one_behind r f ts) (Took spell (Plain (suc b)) (spell f ts))
unfolding one_behind
one_behind_took r b s f ts h =
    took_choose (after_mark mark.OpenParen ts) _ _ _ (λ n0.
    took_choose (after_mark mark.OpenBracket ts) _ _ _ (λ n1. part_behind_took b f ts h)
    λ us e. behind _ (Took spell (Plain (suc b))) (spell f ts) (spell f (mark.OpenBracket ▸ us)) (ap (spell f) (after_mark_is mark.OpenBracket ts us e)) (index_took r b s f us h))
    λ us e. took_bind (list_before r mark.CloseParen us) _ _ _ (list_before_took r b s mark.CloseParen us) λ es q.
    record { parts = ap (spell f) (after_mark_is mark.OpenParen ts us e ∙ ap (λ (v : List Kind). mark.OpenParen ▸ v) q.parts); stands = (refl, (h.0, h.1, q.stand), omega (arith, h.2, q.within)) }

-- and it nests deeper than what it stands behind
pub one_behind_deeper : (r : Readers) (f : Expr) (ts : List Kind) → IfOk (one_behind r f ts) (λ x. suc (nesting f) ≤ nesting x.0)
unfolding one_behind index_at part_behind
one_behind_deeper r f ts =
    took_choose (after_mark mark.OpenParen ts) _ _ _ (λ n0.
    took_choose (after_mark mark.OpenBracket ts) _ _ _ (λ n1.
    took_choose (after_mark mark.Dot ts) _ _ _ (λ n2.
    took_choose (after_mark mark.Arrow ts) _ _ _ (λ n3.
    took_choose (front postfix_of ts) _ _ _ (λ n4. tt)
    λ o e. omega arith)
    λ us e. took_bind (expect_name us) _ _ _ (took_any _) λ n p. omega arith)
    λ us e. took_bind (expect_name us) _ _ _ (took_any _) λ n p. omega arith)
    λ us e. took_choose (after_mark mark.Colon us) _ _ _
    (λ n2. took_bind (r.expr us) _ _ _ (took_any _) λ i p.
    took_choose (after_mark mark.CloseBracket i.1) _ _ _
    (λ n3. took_bind (expect_mark mark.Colon i.1) _ _ _ (took_any _) λ vs q. took_bind (part_before r mark.CloseBracket vs) _ _ _ (took_any _) λ j t. omega arith)
    λ vs q. omega arith)
    λ vs q. took_bind (part_before r mark.CloseBracket vs) _ _ _ (took_any _) λ j t. omega arith)
    λ us e. took_bind (list_before r mark.CloseParen us) _ _ _ (took_any _) λ es p. omega arith

postfix_took : (r : Readers) (b : ℕ) → Sound r b → (n : ℕ) (f : Expr) (ts : List Kind) → Plain (suc b) f → IfOk (postfix r b n f ts) (Took spell (Plain (suc b)) (spell f ts))
unfolding postfix
postfix_took r b s zero f ts h = took_if (nat_lt 0 (strength ts)) _ _ _ (λ y. record { parts = refl; stands = h }) (λ no. tt)
postfix_took r b s (suc n) f ts h =
    took_if (nat_lt 0 (strength ts)) _ _ _ (λ y. record { parts = refl; stands = h }) λ z.
    took_if (nat_lt b (nesting f)) _ _ _ (λ deep. tt) λ flat.
    took_bind (one_behind r f ts) _ _ _ (one_behind_took r b s f ts (h.0, h.1, ltb-false b (nesting f) flat)) λ x q.
    behind _ (Took spell (Plain (suc b))) (spell f ts) (spell x.0 x.1) q.parts (postfix_took r b s n x.0 x.1 q.stands)

postfixed_took : (r : Readers) (b : ℕ) → Sound r b → (ts : List Kind) → IfOk (postfixed r b ts) (Took spell (Good 0 (suc b)) ts)
unfolding postfixed
postfixed_took r b s ts =
    took_bind (primary r ts) _ _ _ (primary_took r b s ts) λ x p.
    less _ ts (behind _ (Took spell (Plain (suc b))) ts (spell x.0 x.1) p.parts (postfix_took r b s (suc b) x.0 x.1 p.stands))
  where
    less : (y : Result (Expr × List Kind) Fault) (us : List Kind) → IfOk y (Took spell (Plain (suc b)) us) → IfOk y (Took spell (Good 0 (suc b)) us)
    less (Ok x) us t = record { parts = t.parts; stands = (t.stands.1, t.stands.2) }
    less (Err f) us t = tt

-- ---- a unary

pub unary_took : (r : Readers) (b : ℕ) → Sound r b → (ts : List Kind) → IfOk (unary r b ts) (Took spell (Good 0 (suc b)) ts)
unfolding unary
unary_took r b s ts =
    took_choose (front unary_of ts) _ _ _ (λ n0.
    took_choose (after_key key.Array ts) _ _ _ (λ n1.
    took_choose (after_key key.List ts) _ _ _ (λ n2.
    took_choose (after_key key.Chan ts) _ _ _ (λ n3. postfixed_took r b s ts)
    λ us e. behind _ (Took spell (Good 0 (suc b))) ts (key.Chan ▹ us) (after_key_is key.Chan ts us e) (channel_took b us))
    λ us e. behind _ (Took spell (Good 0 (suc b))) ts (key.List ▹ us) (after_key_is key.List ts us e) (listed_took r b s us))
    λ us e. behind _ (Took spell (Good 0 (suc b))) ts (key.Array ▹ us) (after_key_is key.Array ts us e) (array_took r b s us))
    λ o e. took_bind (r.chain 0 o.1) _ _ _ (s.chain 0 o.1) λ x t.
    let f = front_is unary_of ts o e in
    record { parts = f.parts ∙ ap (λ (k : Kind). k ∷ o.1) (unary_is f.first o.0 f.stands) ∙ ap (λ (v : List Kind). unary_kind o.0 ∷ v) t.0.parts; stands = (t.0.stands.0, omega (arith, t.0.stands.1)) }

-- ---- operators

pub op_is : (k : ℕ) (ts : List Kind) (x : BinaryOp × List Kind) → op_within k ts ≡ Some x → (ts ≡ binary_mark x.0 ▸ x.1) × (level x.0 ≤ k)
op_is k ts x e = elim (tell (front binary_of ts)) [
  | inr n ↦ let h = rw n at e in absurd cc
  | inl (y, n) ↦
      let h = rw n at e in
      let p = if_some (nat_le (level y.0) k) y x h in
      let f = front_is binary_of ts y n in
      let m : ts ≡ binary_mark y.0 ▸ y.1 = f.parts ∙ ap (λ (t : Kind). t ∷ y.1) (binary_is f.first y.0 f.stands) in
      subst (λ (z : BinaryOp × List Kind). (ts ≡ binary_mark z.0 ▸ z.1) × (level z.0 ≤ k)) p.1 (m, leb-true (level y.0) k p.0)
]

none_if : {A : Type 0} (t : Bool) (x : A) → cond t (Some x) None ≡ None → t ≡ false
none_if true x e = absurd cc
none_if false x e = refl

-- an operator that a tighter level leaves is looser than that level
past : (j k : ℕ) (ts : List Kind) (x : BinaryOp × List Kind) → op_within k ts ≡ Some x → op_within j ts ≡ None → j < level x.0
past j k ts x e n = elim (tell (front binary_of ts)) [
  | inr m ↦ let h = rw m at e in absurd cc
  | inl (y, m) ↦
      let h = rw m at e in
      let g = rw m at n in
      let p = if_some (nat_le (level y.0) k) y x h in
      subst (λ (z : BinaryOp × List Kind). j < level z.0) p.1 (leb-false (level y.0) j (none_if _ y g))
]

-- the operator that follows may have this tree on its left
abbrev Fits : ℕ → Expr → List Kind → Type 0
Fits k l ts = (x : BinaryOp × List Kind) → op_within k ts ≡ Some x → IsAt (left_level x.0) l

-- the state of climbing
abbrev pub Climbed : ℕ → ℕ → List Kind → Expr × List Kind → Type 0
Climbed k b ts x = Took spell (Good k b) ts x × (op_within k x.1 ≡ None)

climb_took : (r : Readers) (b k : ℕ) → Sound r b → (n : ℕ) (l : Expr) (ts : List Kind) → IsAt k l → nesting l ≤ suc b → Fits k l ts → IfOk (climb r b k n l ts) (Climbed k (suc b) (spell l ts))
unfolding climb
climb_took r b k s zero l ts h d w = took_choose (op_within k ts) _ _ _ (λ e. (record { parts = refl; stands = (h, d) }, e)) (λ o e. tt)
climb_took r b k s (suc n) l ts h d w =
    took_choose (op_within k ts) _ _ _ (λ e. (record { parts = refl; stands = (h, d) }, e)) λ o e.
    took_if (nat_lt b (nesting l)) _ _ _ (λ deep. tt) λ flat.
    took_bind (r.chain (right_level o.0) o.1) _ _ _ (s.chain (right_level o.0) o.1) λ x q.
    let m = op_is k ts o e in
    let none = q.1 (omega (arith, right_low o.0, level_high o.0)) in
    behind _ (Climbed k (suc b)) (spell l ts) (spell (Binary o.0 l x.0) x.1) (ap (spell l) (m.0 ∙ ap (λ (v : List Kind). binary_mark o.0 ▸ v) q.0.parts))
    (climb_took r b k s n (Binary o.0 l x.0) x.1 (m.1, w o e, q.0.stands.0) (omega (arith, ltb-false b (nesting l) flat, q.0.stands.1))
    (λ y f. (left_fits o.0 y.0 (past (right_level o.0) k x.1 y f none), w o e, q.0.stands.0)))

pub loaded : (k : ℕ) (ts us : List Kind) → after_load k ts ≡ Some us → (12 ≤ k) × (ts ≡ key.Load ▹ us)
loaded k ts us e = go (nat_lt k 12) refl e
  where
    go : (t : Bool) → nat_lt k 12 ≡ t → cond t None (after_key key.Load ts) ≡ Some us → (12 ≤ k) × (ts ≡ key.Load ▹ us)
    go true is f = absurd cc
    go false is f = (ltb-false k 12 is, after_key_is key.Load ts us f)

load_took : (r : Readers) (b k : ℕ) → Sound r b → 12 ≤ k → (ts : List Kind) → IfOk (load_at r ts) (λ x. Took spell (Good k (suc b)) (key.Load ▹ ts) x)
unfolding load_at
load_took r b k s le ts =
    took_bind (expect_name ts) _ _ _ (took_name ts) λ n p.
    took_bind (r.chain 12 n.1) _ _ _ (s.chain 12 n.1) λ x q.
    record { parts = ap (λ (v : List Kind). key.Load ▹ v) (p ∙ ap (λ (v : List Kind). kind.Name n.0 ∷ v) q.0.parts); stands = ((le, q.0.stands.0), omega (arith, q.0.stands.1)) }

pub chain_took : (r : Readers) (b : ℕ) → Sound r b → (k : ℕ) (ts : List Kind) → IfOk (chain r b k ts) (λ x. Took spell (Good k (suc b)) ts x × (k ≤ 11 → op_within k x.1 ≡ None))
unfolding chain
chain_took r b s k ts =
    took_choose (after_load k ts) _ _ _
    (λ n. took_bind (unary r b ts) _ _ _ (unary_took r b s ts) λ x t.
    always _ (behind _ (Climbed k (suc b)) ts (spell x.0 x.1) t.parts
    (climb_took r b k s (suc b) x.0 x.1 (looser 0 k x.0 (omega arith) t.stands.0) t.stands.1 (λ y e. looser 0 (left_level y.0) x.0 (omega arith) t.stands.0))))
    λ us e. let l = loaded k ts us e in
    never l.0 _ (behind _ (Took spell (Good k (suc b))) ts (key.Load ▹ us) l.1 (load_took r b k s l.0 us))
  where
    always : (y : Result (Expr × List Kind) Fault) → IfOk y (Climbed k (suc b) ts) → IfOk y (λ x. Took spell (Good k (suc b)) ts x × (k ≤ 11 → op_within k x.1 ≡ None))
    always (Ok x) t = (t.0, λ le. t.1)
    always (Err f) t = tt

    never : 12 ≤ k → (y : Result (Expr × List Kind) Fault) → IfOk y (Took spell (Good k (suc b)) ts) → IfOk y (λ x. Took spell (Good k (suc b)) ts x × (k ≤ 11 → op_within k x.1 ≡ None))
    never far (Ok x) t = (t, λ le. absurd (omega arith))
    never far (Err f) t = tt

-- ---- an expression

unary_tighter : (j k : ℕ) (e : Expr) → is_unary e ≡ true → IsAt k e → IsAt j e
unary_tighter j k (Assign o l m) u h = absurd cc
unary_tighter j k (Load n e) u h = absurd cc
unary_tighter j k (Binary o l m) u h = absurd cc
unary_tighter j k e u h = h

assign_after_is : (l : Expr) (ts : List Kind) (o : AssignOp × List Kind) → assign_after l ts ≡ Some o → (is_unary l ≡ true) × (ts ≡ assign_mark o.0 ▸ o.1)
assign_after_is l ts o e = go (is_unary l) refl e
  where
    go : (t : Bool) → is_unary l ≡ t → cond t (front assign_of ts) None ≡ Some o → (is_unary l ≡ true) × (ts ≡ assign_mark o.0 ▸ o.1)
    go false is e = absurd cc
    go true is e = let f = front_is assign_of ts o e in (is, f.parts ∙ ap (λ (k : Kind). k ∷ o.1) (assign_is f.first o.0 f.stands))

pub assign_shorter : (l : Expr) (ts : List Kind) (o : AssignOp × List Kind) → assign_after l ts ≡ Some o → length o.1 + 1 ≡ length ts
assign_shorter l ts o e = omega (arith, ap length (assign_after_is l ts o e).1)

assigned_took : (r : Readers) (b : ℕ) → Sound r b → (l : Expr) (ts : List Kind) → IsAt 12 l → nesting l ≤ suc b → IfOk (assigned r b l ts) (Took spell (Good 13 (suc b)) (spell l ts))
unfolding assigned
assigned_took r b s l ts h d =
    took_choose (assign_after l ts) _ _ _ (λ n. record { parts = refl; stands = (looser 12 13 l (omega arith) h, d) }) λ o e.
    took_if (nat_lt b (nesting l)) _ _ _ (λ deep. tt) λ flat.
    took_bind (r.expr o.1) _ _ _ (s.expr o.1) λ x q.
    let f = assign_after_is l ts o e in
    record { parts = ap (spell l) (f.1 ∙ ap (λ (v : List Kind). assign_mark o.0 ▸ v) q.parts); stands = ((omega arith, unary_tighter 0 12 l f.0 h, q.stands.0), omega (arith, ltb-false b (nesting l) flat, q.stands.1)) }

any_took : (r : Readers) (b : ℕ) → Sound r b → (ts : List Kind) → IfOk (expr r b ts) (Took spell (Good 13 (suc b)) ts)
unfolding expr
any_took r b s ts =
    took_bind (chain r b 12 ts) _ _ _ (chain_took r b s 12 ts) λ x t.
    behind _ (Took spell (Good 13 (suc b))) ts (spell x.0 x.1) t.0.parts (assigned_took r b s x.0 x.1 t.0.stands.0 t.0.stands.1)

step_sound : (r : Readers) (b : ℕ) → Sound r b → Sound (step r b) (suc b)
unfolding step
step_sound r b s = record { chain = chain_took r b s; expr = any_took r b s }

pub sound : (b : ℕ) → Sound (readers b) b
unfolding readers
sound zero = record { chain = λ k ts. tt; expr = λ ts. tt }
sound (suc b) = step_sound (readers b) b (sound b)
