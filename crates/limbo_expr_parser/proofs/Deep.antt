-- More budget changes nothing but a fault of depth.
use Rattle.std.proofs.Common.{ℕ, zero, suc, ◌≤◌, List, Result, refl, arith, inl, inr}
use Rattle.std.specs.Prelude.{nat_lt}
use Rattle.std.proofs.lemmas.Bool.{cases_lt, lt-ltb, le-ltb}
use Rattle.limbo_lexer.specs.declared.token.Kind.{Kind}
use Rattle.limbo_lexer.specs.declared.token.Mark.{Mark}
use Rattle.limbo_lexer.specs.declared.token.Mark.TheVariants as mark
use Rattle.limbo_lexer.specs.declared.token.Key.TheVariants as key
use Rattle.limbo_tree.specs.Exprs.{Expr, Part, Absent, Present, Binary, nesting, right_level}
use Rattle.limbo_reading.specs.declared.fault.Fault.{Fault}
use Rattle.limbo_reading.specs.Reading.{after_mark, after_key, expect_mark, expect_key, expect_name}
use Rattle.limbo_reading.proofs.Steps.{Deepens, deepens_same, deepens_bind, deepens_choose, deepens_if}
use Rattle.limbo_reading.proofs.Lists.{items_deepens}
use Rattle.limbo_expr_parts.specs.Front.{front}
use Rattle.limbo_expr_parts.specs.Types.{ty_at}
use Rattle.limbo_expr_parts.specs.Strength.{strength}
use Rattle.limbo_expr_parts.specs.Operators.{unary_of, op_within, after_load, assign_after}
use Rattle.limbo_expr_parts.specs.Parts.{after_rest, after_comma_inside, sized_at, channel_at}
use Rattle.limbo_expr_parser.specs.Exprs.{Readers, guard, part_before, list_at, list_before, init_at, inits_at, filled_at, array_at, listed_at, primary, index_at, one_behind, postfix, postfixed, unary, climb, load_at, chain, assigned, expr, step, readers}
use Rattle.limbo_expr_parts.proofs.TypeLaws.{ty_deepens}

guarded : {A : Type 0} (b c n : ℕ) (ts : List Kind) (x y : Result A Fault) → b ≤ c → Deepens x y → Deepens (guard b n ts x) (guard c n ts y)
guarded b c n ts x y le p = elim (cases_lt b n) [
  | inl deep ↦ rw (lt-ltb b n deep) tt
  | inr flat ↦ rw (le-ltb b n flat, le-ltb c n (omega arith)) p
]

pub record Deeper (r s : Readers) : Type 0 where
  pub chain : (k : ℕ) (ts : List Kind) → Deepens (r.chain k ts) (s.chain k ts)
  pub expr : (ts : List Kind) → Deepens (r.expr ts) (s.expr ts)

list_deepens : (r s : Readers) → Deeper r s → (ts : List Kind) → Deepens (list_at r ts) (list_at s ts)
unfolding list_at
list_deepens r s d ts = items_deepens r.expr s.expr (after_mark mark.Comma) d.expr ts

list_before_deepens : (r s : Readers) → Deeper r s → (m : Mark) (ts : List Kind) → Deepens (list_before r m ts) (list_before s m ts)
unfolding list_before
list_before_deepens r s d m ts = deepens_choose (after_mark m ts) _ _ _ _ (deepens_bind (list_at r ts) (list_at s ts) _ _ (list_deepens r s d ts) λ xs. deepens_same _) λ us. refl

part_deepens : (r s : Readers) → Deeper r s → (m : Mark) (ts : List Kind) → Deepens (part_before r m ts) (part_before s m ts)
unfolding part_before
part_deepens r s d m ts = deepens_choose (after_mark m ts) _ _ _ _ (deepens_bind (r.expr ts) (s.expr ts) _ _ (d.expr ts) λ x. deepens_same _) λ us. refl

init_deepens : (r s : Readers) → Deeper r s → (ts : List Kind) → Deepens (init_at r ts) (init_at s ts)
unfolding init_at
init_deepens r s d ts =
    deepens_choose (after_rest ts) _ _ _ _
    (deepens_bind (r.expr ts) (s.expr ts) _ _ (d.expr ts) λ i.
    deepens_choose (after_mark mark.FatArrow i.1) _ _ _ _ refl λ us.
    deepens_bind (r.expr us) (s.expr us) _ _ (d.expr us) λ x. refl)
    λ us. deepens_bind (r.expr us) (s.expr us) _ _ (d.expr us) λ x. refl

inits_deepens : (r s : Readers) → Deeper r s → (ts : List Kind) → Deepens (inits_at r ts) (inits_at s ts)
unfolding inits_at
inits_deepens r s d ts = items_deepens (init_at r) (init_at s) after_comma_inside (init_deepens r s d) ts

filled_deepens : (r s : Readers) → Deeper r s → (n : Part) (ts : List Kind) → Deepens (filled_at r n ts) (filled_at s n ts)
unfolding filled_at
filled_deepens r s d n ts = deepens_bind (inits_at r ts) (inits_at s ts) _ _ (inits_deepens r s d ts) λ xs. deepens_same _

sized_deepens : (b c : ℕ) → b ≤ c → (n : Part) (ts : List Kind) → Deepens (sized_at b n ts) (sized_at c n ts)
unfolding sized_at
sized_deepens b c le Absent ts = refl
sized_deepens b c le (Present e) ts = deepens_bind (ty_at b ts) (ty_at c ts) _ _ (ty_deepens b c ts le) λ t. refl

array_deepens : (r s : Readers) → Deeper r s → (b c : ℕ) → b ≤ c → (ts : List Kind) → Deepens (array_at r b ts) (array_at s c ts)
unfolding array_at
array_deepens r s d b c le ts =
    deepens_choose (after_mark mark.OpenBracket ts) _ _ _ _
    (deepens_bind (expect_key key.Of ts) (expect_key key.Of ts) _ _ (deepens_same _) λ us.
    deepens_bind (expect_key key.Byte us) (expect_key key.Byte us) _ _ (deepens_same _) λ vs.
    deepens_bind (r.chain 0 vs) (s.chain 0 vs) _ _ (d.chain 0 vs) λ x. refl)
    λ us. deepens_bind (part_before r mark.CloseBracket us) (part_before s mark.CloseBracket us) _ _ (part_deepens r s d mark.CloseBracket us) λ n.
    deepens_bind (expect_key key.Of n.1) (expect_key key.Of n.1) _ _ (deepens_same _) λ vs.
    deepens_choose (after_mark mark.OpenBrace vs) _ _ _ _ (sized_deepens b c le n.0 vs) λ ws. filled_deepens r s d n.0 ws

channel_deepens : (b c : ℕ) → b ≤ c → (ts : List Kind) → Deepens (channel_at b ts) (channel_at c ts)
unfolding channel_at
channel_deepens b c le ts =
    deepens_bind (expect_key key.Of ts) (expect_key key.Of ts) _ _ (deepens_same _) λ us.
    deepens_bind (ty_at b us) (ty_at c us) _ _ (ty_deepens b c us le) λ t. refl

listed_deepens : (r s : Readers) → Deeper r s → (ts : List Kind) → Deepens (listed_at r ts) (listed_at s ts)
unfolding listed_at
listed_deepens r s d ts =
    deepens_bind (expect_key key.Of ts) (expect_key key.Of ts) _ _ (deepens_same _) λ us.
    deepens_bind (expect_mark mark.OpenBrace us) (expect_mark mark.OpenBrace us) _ _ (deepens_same _) λ vs.
    deepens_bind (list_before r mark.CloseBrace vs) (list_before s mark.CloseBrace vs) _ _ (list_before_deepens r s d mark.CloseBrace vs) λ es. refl

primary_deepens : (r s : Readers) → Deeper r s → (ts : List Kind) → Deepens (primary r ts) (primary s ts)
unfolding primary
primary_deepens r s d ts =
    deepens_choose (after_mark mark.OpenParen ts) _ _ _ _ (deepens_same _) λ us.
    deepens_bind (list_at r us) (list_at s us) _ _ (list_deepens r s d us) λ xs. deepens_same _

index_deepens : (r s : Readers) → Deeper r s → (e : Expr) (ts : List Kind) → Deepens (index_at r e ts) (index_at s e ts)
unfolding index_at
index_deepens r s d e ts =
    deepens_choose (after_mark mark.Colon ts) _ _ _ _
    (deepens_bind (r.expr ts) (s.expr ts) _ _ (d.expr ts) λ i.
    deepens_choose (after_mark mark.CloseBracket i.1) _ _ _ _
    (deepens_bind (expect_mark mark.Colon i.1) (expect_mark mark.Colon i.1) _ _ (deepens_same _) λ us.
    deepens_bind (part_before r mark.CloseBracket us) (part_before s mark.CloseBracket us) _ _ (part_deepens r s d mark.CloseBracket us) λ j. refl)
    λ us. refl)
    λ us. deepens_bind (part_before r mark.CloseBracket us) (part_before s mark.CloseBracket us) _ _ (part_deepens r s d mark.CloseBracket us) λ j. refl

one_behind_deepens : (r s : Readers) → Deeper r s → (e : Expr) (ts : List Kind) → Deepens (one_behind r e ts) (one_behind s e ts)
unfolding one_behind
one_behind_deepens r s d e ts =
    deepens_choose (after_mark mark.OpenParen ts) _ _ _ _
    (deepens_choose (after_mark mark.OpenBracket ts) _ _ _ _ (deepens_same _) λ us. index_deepens r s d e us)
    λ us. deepens_bind (list_before r mark.CloseParen us) (list_before s mark.CloseParen us) _ _ (list_before_deepens r s d mark.CloseParen us) λ es. refl

postfix_deepens : (r s : Readers) → Deeper r s → (b c : ℕ) → b ≤ c → (n m : ℕ) → n ≤ m → (e : Expr) (ts : List Kind) → Deepens (postfix r b n e ts) (postfix s c m e ts)
unfolding postfix
postfix_deepens r s d b c le zero zero lt e ts = deepens_same _
postfix_deepens r s d b c le zero (suc m) lt e ts = deepens_if (nat_lt 0 (strength ts)) _ _ _ _ refl tt
postfix_deepens r s d b c le (suc n) zero lt e ts = absurd (omega arith)
postfix_deepens r s d b c le (suc n) (suc m) lt e ts =
    deepens_if (nat_lt 0 (strength ts)) _ _ _ _ refl
    (guarded b c (nesting e) ts _ _ le (deepens_bind (one_behind r e ts) (one_behind s e ts) _ _ (one_behind_deepens r s d e ts) λ x. postfix_deepens r s d b c le n m (omega arith) x.0 x.1))

postfixed_deepens : (r s : Readers) → Deeper r s → (b c : ℕ) → b ≤ c → (ts : List Kind) → Deepens (postfixed r b ts) (postfixed s c ts)
unfolding postfixed
postfixed_deepens r s d b c le ts = deepens_bind (primary r ts) (primary s ts) _ _ (primary_deepens r s d ts) λ x. postfix_deepens r s d b c le (suc b) (suc c) (omega arith) x.0 x.1

unary_deeper : (r s : Readers) → Deeper r s → (b c : ℕ) → b ≤ c → (ts : List Kind) → Deepens (unary r b ts) (unary s c ts)
unfolding unary
unary_deeper r s d b c le ts =
    deepens_choose (front unary_of ts) _ _ _ _
    (deepens_choose (after_key key.Array ts) _ _ _ _
    (deepens_choose (after_key key.List ts) _ _ _ _
    (deepens_choose (after_key key.Chan ts) _ _ _ _ (postfixed_deepens r s d b c le ts)
    λ us. channel_deepens b c le us)
    λ us. listed_deepens r s d us)
    λ us. array_deepens r s d b c le us)
    λ o. deepens_bind (r.chain 0 o.1) (s.chain 0 o.1) _ _ (d.chain 0 o.1) λ x. refl

climb_deepens : (r s : Readers) → Deeper r s → (b c : ℕ) → b ≤ c → (k n m : ℕ) → n ≤ m → (l : Expr) (ts : List Kind) → Deepens (climb r b k n l ts) (climb s c k m l ts)
unfolding climb
climb_deepens r s d b c le k zero zero lt l ts = deepens_same _
climb_deepens r s d b c le k zero (suc m) lt l ts = deepens_choose (op_within k ts) _ _ _ _ refl λ o. tt
climb_deepens r s d b c le k (suc n) zero lt l ts = absurd (omega arith)
climb_deepens r s d b c le k (suc n) (suc m) lt l ts =
    deepens_choose (op_within k ts) _ _ _ _ refl λ o.
    guarded b c (nesting l) ts _ _ le (deepens_bind (r.chain (right_level o.0) o.1) (s.chain (right_level o.0) o.1) _ _ (d.chain (right_level o.0) o.1) λ x. climb_deepens r s d b c le k n m (omega arith) (Binary o.0 l x.0) x.1)

chain_deepens : (r s : Readers) → Deeper r s → (b c : ℕ) → b ≤ c → (k : ℕ) (ts : List Kind) → Deepens (chain r b k ts) (chain s c k ts)
unfolding chain load_at
chain_deepens r s d b c le k ts =
    deepens_choose (after_load k ts) _ _ _ _
    (deepens_bind (unary r b ts) (unary s c ts) _ _ (unary_deeper r s d b c le ts) λ x. climb_deepens r s d b c le k (suc b) (suc c) (omega arith) x.0 x.1)
    λ us. deepens_bind (expect_name us) (expect_name us) _ _ (deepens_same _) λ n. deepens_bind (r.chain 12 n.1) (s.chain 12 n.1) _ _ (d.chain 12 n.1) λ x. refl

assigned_deepens : (r s : Readers) → Deeper r s → (b c : ℕ) → b ≤ c → (l : Expr) (ts : List Kind) → Deepens (assigned r b l ts) (assigned s c l ts)
unfolding assigned
assigned_deepens r s d b c le l ts =
    deepens_choose (assign_after l ts) _ _ _ _ refl λ o. guarded b c (nesting l) ts _ _ le (deepens_bind (r.expr o.1) (s.expr o.1) _ _ (d.expr o.1) λ x. refl)

any_deepens : (r s : Readers) → Deeper r s → (b c : ℕ) → b ≤ c → (ts : List Kind) → Deepens (expr r b ts) (expr s c ts)
unfolding expr
any_deepens r s d b c le ts = deepens_bind (chain r b 12 ts) (chain s c 12 ts) _ _ (chain_deepens r s d b c le 12 ts) λ x. assigned_deepens r s d b c le x.0 x.1

pub deeper : (b c : ℕ) → b ≤ c → Deeper (readers b) (readers c)
unfolding readers step
deeper zero c le = record { chain = λ k ts. tt; expr = λ ts. tt }
deeper (suc b) zero le = absurd (omega arith)
deeper (suc b) (suc c) le = let h = deeper b c (omega arith) in record { chain = chain_deepens (readers b) (readers c) h b c (omega arith); expr = any_deepens (readers b) (readers c) h b c (omega arith) }
