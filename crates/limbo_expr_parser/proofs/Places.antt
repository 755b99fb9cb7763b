-- Where a fault of depth stands: with a budget b at least b tokens stand before it.
use Rattle.std.proofs.Common.{◌≡◌, ℕ, zero, suc, ◌+◌, ◌≤◌, ◌<◌, List, length, Some, Result, Ok, ap, ◌∙◌, arith, inl, inr}
use Rattle.std.specs.Prelude.{nat_lt}
use Rattle.std.proofs.lemmas.Bool.{cases_lt, lt-ltb, le-ltb}
use Rattle.limbo_lexer.specs.declared.token.Kind.{Kind}
use Rattle.limbo_lexer.specs.declared.token.Mark.{Mark}
use Rattle.limbo_lexer.specs.declared.token.Mark.TheVariants as mark
use Rattle.limbo_lexer.specs.declared.token.Key.TheVariants as key
use Rattle.limbo_tree.specs.Tokens.{◌▸◌}
use Rattle.limbo_tree.specs.Exprs.{Expr, Part, Absent, Present, Binary, binary_mark, spell, nesting, right_level}
use Rattle.limbo_reading.specs.declared.fault.Fault.{Fault}
use Rattle.limbo_reading.specs.Reading.{◌>>=◌, after_mark, after_key, expect_mark, expect_key, expect_name}
use Rattle.limbo_reading.proofs.Steps.{Keeps, keeps_less, keeps_bind, keeps_rest, keeps_choose, keeps_if, keeps_mark, keeps_key, keeps_name, after_mark_length, after_key_length}
use Rattle.limbo_reading.proofs.Lists.{Took, items_keeps}
use Rattle.limbo_expr_parts.specs.Front.{front}
use Rattle.limbo_expr_parts.specs.Types.{ty_at}
use Rattle.limbo_expr_parts.specs.Strength.{strength}
use Rattle.limbo_expr_parts.specs.Operators.{unary_of, postfix_of, op_within, after_load, assign_after}
use Rattle.limbo_expr_parts.specs.Parts.{leaf_of, after_rest, after_comma_inside, comma_and_brace, sized_at, channel_at, leaf_at, part_behind}
use Rattle.limbo_expr_parser.specs.Exprs.{Readers, guard, part_before, list_at, list_before, init_at, inits_at, filled_at, array_at, listed_at, primary, index_at, one_behind, postfix, postfixed, unary, climb, load_at, chain, assigned, expr, step, readers}
use Rattle.limbo_expr_parts.proofs.Steps.{front_length, keeps_in, keeps_took, took_both}
use Rattle.limbo_expr_parts.proofs.TypeLaws.{ty_keeps}
use Rattle.limbo_expr_parser.proofs.Shapes.{spell_grows, nesting_pos}
use Rattle.limbo_expr_parser.proofs.Sound.{Good, Plain, Sound, sound, after_rest_is, comma_inside_is, primary_took, one_behind_took, one_behind_deeper, unary_took, op_is, assign_shorter, loaded, chain_took}

pub record Keeping (r : Readers) (b : ℕ) : Type 0 where
  pub chain : (k : ℕ) (ts : List Kind) → Keeps b 1 (length ts) (r.chain k ts)
  pub expr : (ts : List Kind) → Keeps b 1 (length ts) (r.expr ts)

pub weaker : {A : Type 0} (b n : ℕ) (r : Result (A × List Kind) Fault) → Keeps b 1 n r → Keeps b 0 n r
weaker b n r k = keeps_less b 1 0 n n r k (omega arith) (omega arith)

keeps_guard : {A : Type 0} (b d c n m : ℕ) (ts : List Kind) (r : Result (A × List Kind) Fault) → (b < m → length ts + d ≤ n) → (m ≤ b → Keeps d c n r) → Keeps d c n (guard b m ts r)
keeps_guard b d c n m ts r deep go = elim (cases_lt b m) [
  | inl lt ↦ rw (lt-ltb b m lt) (deep lt)
  | inr le ↦ rw (le-ltb b m le) (go le)
]

-- ---- lists of expressions

list_keeps : (r : Readers) (b : ℕ) → Keeping r b → (ts : List Kind) → Keeps b 1 (length ts) (list_at r ts)
unfolding list_at
list_keeps r b k ts = items_keeps b 1 r.expr (after_mark mark.Comma) (after_mark_length mark.Comma) k.expr (λ us. weaker b (length us) _ (k.expr us)) ts

list_before_keeps : (r : Readers) (b : ℕ) → Keeping r b → (m : Mark) (ts : List Kind) → Keeps b 0 (length ts) (list_before r m ts)
unfolding list_before
list_before_keeps r b k m ts =
    keeps_choose b 0 (length ts) (after_mark m ts) _ _
    (λ n. keeps_bind b 1 0 0 (length ts) (list_at r ts) _ (list_keeps r b k ts) (λ xs h.
    keeps_rest b 0 0 (length xs.1) (expect_mark m xs.1) _ (keeps_mark m xs.1) (λ us g. omega arith) (omega arith)) (omega arith))
    λ us e. omega (arith, after_mark_length m ts us e)

part_keeps : (r : Readers) (b : ℕ) → Keeping r b → (m : Mark) (ts : List Kind) → Keeps b 0 (length ts) (part_before r m ts)
unfolding part_before
part_keeps r b k m ts =
    keeps_choose b 0 (length ts) (after_mark m ts) _ _
    (λ n. keeps_bind b 1 0 0 (length ts) (r.expr ts) _ (k.expr ts) (λ x h.
    keeps_rest b 0 0 (length x.1) (expect_mark m x.1) _ (keeps_mark m x.1) (λ us g. omega arith) (omega arith)) (omega arith))
    λ us e. omega (arith, after_mark_length m ts us e)

-- ---- inits

-- an expression behind a part of the tokens, as the last that is read
last_keeps : {A : Type 0} (r : Readers) (b n : ℕ) → Keeping r b → (make : Expr → A) (ts : List Kind) → length ts + 1 ≤ n → Keeps b 1 n (r.expr ts >>= λ x. Ok (make x.0, x.1))
last_keeps r b n k make ts le = keeps_less b 1 1 (length ts) n _ (keeps_bind b 1 0 1 (length ts) (r.expr ts) _ (k.expr ts) (λ x h. omega arith) (omega arith)) (omega arith) (omega arith)

pub init_keeps : (r : Readers) (b : ℕ) → Keeping r b → (ts : List Kind) → Keeps b 1 (length ts) (init_at r ts)
unfolding init_at
init_keeps r b k ts =
    keeps_choose b 1 (length ts) (after_rest ts) _ _
    (λ n. keeps_bind b 1 0 1 (length ts) (r.expr ts) _ (k.expr ts) (λ i h.
    keeps_choose b 0 (length i.1) (after_mark mark.FatArrow i.1) _ _ (λ m. omega arith)
    λ us e. weaker b (length i.1) _ (last_keeps r b (length i.1) k _ us (omega (arith, after_mark_length mark.FatArrow i.1 us e)))) (omega arith))
    λ us e. last_keeps r b (length ts) k _ us (omega (arith, ap length (after_rest_is ts us e)))

inits_keeps : (r : Readers) (b : ℕ) → Keeping r b → (ts : List Kind) → Keeps b 1 (length ts) (inits_at r ts)
unfolding inits_at
inits_keeps r b k ts =
    items_keeps b 1 (init_at r) after_comma_inside (λ us vs e. omega (arith, ap length (comma_inside_is us vs e))) (init_keeps r b k) (λ us. weaker b (length us) _ (init_keeps r b k us)) ts

comma_keeps : (b : ℕ) (ts : List Kind) → Keeps b 0 (length ts) (comma_and_brace ts)
comma_keeps b ts =
    keeps_choose b 0 (length ts) (after_mark mark.Comma ts) _ _
    (λ n. keeps_rest b 0 0 (length ts) (expect_mark mark.CloseBrace ts) _ (keeps_mark mark.CloseBrace ts) (λ us g. omega arith) (omega arith))
    λ us e. keeps_less b 0 0 (length us) (length ts) _ (keeps_rest b 0 0 (length us) (expect_mark mark.CloseBrace us) _ (keeps_mark mark.CloseBrace us) (λ vs g. omega arith) (omega arith)) (omega (arith, after_mark_length mark.Comma ts us e)) (omega (arith, after_mark_length mark.Comma ts us e))

filled_keeps : (r : Readers) (b : ℕ) → Keeping r b → (n : Part) (ts : List Kind) → Keeps b 0 (length ts) (filled_at r n ts)
unfolding filled_at
filled_keeps r b k n ts =
    keeps_bind b 1 0 0 (length ts) (inits_at r ts) _ (inits_keeps r b k ts) (λ xs h.
    keeps_bind b 0 0 0 (length xs.1) (comma_and_brace xs.1) _ (comma_keeps b xs.1) (λ c g. omega arith) (omega arith)) (omega arith)

sized_keeps : (b : ℕ) (n : Part) (ts : List Kind) → Keeps b 0 (length ts) (sized_at b n ts)
unfolding sized_at
sized_keeps b Absent ts = tt
sized_keeps b (Present e) ts = keeps_bind b 1 0 0 (length ts) (ty_at b ts) _ (ty_keeps b ts) (λ t h. omega arith) (omega arith)

-- a reader behind a sign that was found
behind_mark : {A : Type 0} (b : ℕ) (m : Mark) (ts us : List Kind) (r : Result (A × List Kind) Fault) → after_mark m ts ≡ Some us → Keeps b 0 (length us) r → Keeps b 0 (length ts) r
behind_mark b m ts us r e k = keeps_less b 0 0 (length us) (length ts) r k (omega (arith, after_mark_length m ts us e)) (omega (arith, after_mark_length m ts us e))

array_keeps : (r : Readers) (b : ℕ) → Keeping r b → (ts : List Kind) → Keeps b 0 (length ts) (array_at r b ts)
unfolding array_at
array_keeps r b k ts =
    keeps_choose b 0 (length ts) (after_mark mark.OpenBracket ts) _ _
    (λ n. keeps_rest b 0 0 (length ts) (expect_key key.Of ts) _ (keeps_key key.Of ts) (λ us h.
    keeps_rest b 0 0 (length us) (expect_key key.Byte us) _ (keeps_key key.Byte us) (λ vs g.
    keeps_bind b 1 0 0 (length vs) (r.chain 0 vs) _ (k.chain 0 vs) (λ x f. omega arith) (omega arith)) (omega arith)) (omega arith))
    λ us e. behind_mark b mark.OpenBracket ts us _ e (
    keeps_bind b 0 0 0 (length us) (part_before r mark.CloseBracket us) _ (part_keeps r b k mark.CloseBracket us) (λ n h.
    keeps_rest b 0 0 (length n.1) (expect_key key.Of n.1) _ (keeps_key key.Of n.1) (λ vs g.
    keeps_choose b 0 (length vs) (after_mark mark.OpenBrace vs) _ _ (λ m. sized_keeps b n.0 vs)
    λ ws f. behind_mark b mark.OpenBrace vs ws _ f (filled_keeps r b k n.0 ws)) (omega arith)) (omega arith))

channel_keeps : (b : ℕ) (ts : List Kind) → Keeps b 0 (length ts) (channel_at b ts)
unfolding channel_at
channel_keeps b ts =
    keeps_rest b 0 0 (length ts) (expect_key key.Of ts) _ (keeps_key key.Of ts) (λ us h.
    keeps_bind b 1 0 0 (length us) (ty_at b us) _ (ty_keeps b us) (λ t g. omega arith) (omega arith)) (omega arith)

listed_keeps : (r : Readers) (b : ℕ) → Keeping r b → (ts : List Kind) → Keeps b 0 (length ts) (listed_at r ts)
unfolding listed_at
listed_keeps r b k ts =
    keeps_rest b 0 0 (length ts) (expect_key key.Of ts) _ (keeps_key key.Of ts) (λ us h.
    keeps_rest b 0 0 (length us) (expect_mark mark.OpenBrace us) _ (keeps_mark mark.OpenBrace us) (λ vs g.
    keeps_bind b 0 0 0 (length vs) (list_before r mark.CloseBrace vs) _ (list_before_keeps r b k mark.CloseBrace vs) (λ es f. omega arith) (omega arith)) (omega arith)) (omega arith)

-- ---- a postfix

primary_keeps : (r : Readers) (b : ℕ) → Keeping r b → (ts : List Kind) → Keeps (suc b) 1 (length ts) (primary r ts)
unfolding primary leaf_at
primary_keeps r b k ts =
    keeps_choose (suc b) 1 (length ts) (after_mark mark.OpenParen ts) _ _
    (λ n. keeps_choose (suc b) 1 (length ts) (front leaf_of ts) _ _ (λ m. tt) λ x e. omega (arith, front_length leaf_of ts x e))
    λ us e. keeps_in b 0 1 (length us) (length ts) _ (keeps_bind b 1 0 0 (length us) (list_at r us) _ (list_keeps r b k us) (λ xs g.
    keeps_rest b 0 0 (length xs.1) (expect_mark mark.CloseParen xs.1) _ (keeps_mark mark.CloseParen xs.1) (λ vs f. omega arith) (omega arith)) (omega arith)) (omega (arith, after_mark_length mark.OpenParen ts us e)) (omega arith)

index_keeps : (r : Readers) (b : ℕ) → Keeping r b → (f : Expr) (ts : List Kind) → Keeps b 0 (length ts) (index_at r f ts)
unfolding index_at
index_keeps r b k f ts =
    keeps_choose b 0 (length ts) (after_mark mark.Colon ts) _ _
    (λ n. keeps_bind b 1 0 0 (length ts) (r.expr ts) _ (k.expr ts) (λ i h.
    keeps_choose b 0 (length i.1) (after_mark mark.CloseBracket i.1) _ _
    (λ m. keeps_rest b 0 0 (length i.1) (expect_mark mark.Colon i.1) _ (keeps_mark mark.Colon i.1) (λ us g.
    keeps_bind b 0 0 0 (length us) (part_before r mark.CloseBracket us) _ (part_keeps r b k mark.CloseBracket us) (λ j c. omega arith) (omega arith)) (omega arith))
    λ us e. omega (arith, after_mark_length mark.CloseBracket i.1 us e)) (omega arith))
    λ us e. behind_mark b mark.Colon ts us _ e (keeps_bind b 0 0 0 (length us) (part_before r mark.CloseBracket us) _ (part_keeps r b k mark.CloseBracket us) (λ j g. omega arith) (omega arith))

part_behind_keeps : (b : ℕ) (f : Expr) (ts : List Kind) → Keeps b 0 (length ts) (part_behind f ts)
unfolding part_behind
part_behind_keeps b f ts =
    keeps_choose b 0 (length ts) (after_mark mark.Dot ts) _ _ (λ n0.
    keeps_choose b 0 (length ts) (after_mark mark.Arrow ts) _ _ (λ n1.
    keeps_choose b 0 (length ts) (front postfix_of ts) _ _ (λ n2. tt)
    λ o e. omega (arith, front_length postfix_of ts o e))
    λ us e. behind_mark b mark.Arrow ts us _ e (keeps_bind b 1 0 0 (length us) (expect_name us) _ (keeps_name b us) (λ n h. omega arith) (omega arith)))
    λ us e. behind_mark b mark.Dot ts us _ e (keeps_bind b 1 0 0 (length us) (expect_name us) _ (keeps_name b us) (λ n h. omega arith) (omega arith))

one_behind_keeps : (r : Readers) (b : ℕ) → Keeping r b → (f : Expr) (ts : List Kind) → Keeps (suc b) 0 (length ts) (one_behind r f ts)
unfolding one_behind
one_behind_keeps r b k f ts =
    keeps_choose (suc b) 0 (length ts) (after_mark mark.OpenParen ts) _ _ (λ n0.
    keeps_choose (suc b) 0 (length ts) (after_mark mark.OpenBracket ts) _ _ (λ n1. part_behind_keeps (suc b) f ts)
    λ us e. keeps_in b 0 0 (length us) (length ts) _ (index_keeps r b k f us) (omega (arith, after_mark_length mark.OpenBracket ts us e)) (omega arith))
    λ us e. keeps_in b 0 0 (length us) (length ts) _ (keeps_bind b 0 0 0 (length us) (list_before r mark.CloseParen us) _ (list_before_keeps r b k mark.CloseParen us) (λ es h. omega arith) (omega arith)) (omega (arith, after_mark_length mark.OpenParen ts us e)) (omega arith)

-- behind f, which was read from ts
postfix_keeps : (r : Readers) (b : ℕ) → Sound r b → Keeping r b → (n : ℕ) (f : Expr) (us ts : List Kind) → ts ≡ spell f us → Plain (suc b) f → suc (suc b) ≤ n + nesting f → length us + 1 ≤ length ts → Keeps (suc b) 1 (length ts) (postfix r b n f us)
unfolding postfix
postfix_keeps r b s k zero f us ts p h fuel le =
    keeps_if (suc b) 1 (length ts) (nat_lt 0 (strength us)) _ _ (omega arith) (omega (arith, spell_grows f us, ap length p))
postfix_keeps r b s k (suc n) f us ts p h fuel le =
    keeps_if (suc b) 1 (length ts) (nat_lt 0 (strength us)) _ _ (omega arith)
    (keeps_guard b (suc b) 1 (length ts) (nesting f) us _ (λ deep. omega (arith, spell_grows f us, ap length p)) λ flat.
    keeps_took (suc b) 1 1 1 (length ts) (one_behind r f us) _ (λ x. Took spell (Plain (suc b)) (spell f us) x × (suc (nesting f) ≤ nesting x.0)) (took_both (one_behind r f us) _ _ (one_behind_took r b s f us (h.0, h.1, flat)) (one_behind_deeper r f us))
    (keeps_less (suc b) 0 1 (length us) (length ts) _ (one_behind_keeps r b k f us) (omega arith) (omega arith)) λ x q g.
    postfix_keeps r b s k n x.0 x.1 ts (p ∙ q.0.parts) q.0.stands (omega (arith, q.1)) g)

postfixed_keeps : (r : Readers) (b : ℕ) → Sound r b → Keeping r b → (ts : List Kind) → Keeps (suc b) 1 (length ts) (postfixed r b ts)
unfolding postfixed
postfixed_keeps r b s k ts =
    keeps_took (suc b) 1 1 1 (length ts) (primary r ts) _ (Took spell (Plain (suc b)) ts) (primary_took r b s ts) (primary_keeps r b k ts) λ x t g.
    postfix_keeps r b s k (suc b) x.0 x.1 ts t.parts t.stands (omega (arith, nesting_pos x.0)) g

-- ---- a unary

unary_place : (r : Readers) (b : ℕ) → Sound r b → Keeping r b → (ts : List Kind) → Keeps (suc b) 1 (length ts) (unary r b ts)
unfolding unary
unary_place r b s k ts =
    keeps_choose (suc b) 1 (length ts) (front unary_of ts) _ _ (λ n0.
    keeps_choose (suc b) 1 (length ts) (after_key key.Array ts) _ _ (λ n1.
    keeps_choose (suc b) 1 (length ts) (after_key key.List ts) _ _ (λ n2.
    keeps_choose (suc b) 1 (length ts) (after_key key.Chan ts) _ _ (λ n3. postfixed_keeps r b s k ts)
    λ us e. keeps_in b 0 1 (length us) (length ts) _ (channel_keeps b us) (omega (arith, after_key_length key.Chan ts us e)) (omega arith))
    λ us e. keeps_in b 0 1 (length us) (length ts) _ (listed_keeps r b k us) (omega (arith, after_key_length key.List ts us e)) (omega arith))
    λ us e. keeps_in b 0 1 (length us) (length ts) _ (array_keeps r b k us) (omega (arith, after_key_length key.Array ts us e)) (omega arith))
    λ o e. keeps_in b 0 1 (length o.1) (length ts) _ (keeps_bind b 1 0 0 (length o.1) (r.chain 0 o.1) _ (k.chain 0 o.1) (λ x h. omega arith) (omega arith)) (omega (arith, front_length unary_of ts o e)) (omega arith)

-- ---- operators

-- behind l, which was read from ts
climb_keeps : (r : Readers) (b k : ℕ) → Sound r b → Keeping r b → (n : ℕ) (l : Expr) (us ts : List Kind) → ts ≡ spell l us → suc (suc b) ≤ n + nesting l → length us + 1 ≤ length ts → Keeps (suc b) 1 (length ts) (climb r b k n l us)
unfolding climb
climb_keeps r b k s p zero l us ts h fuel le =
    keeps_choose (suc b) 1 (length ts) (op_within k us) _ _ (λ e. omega arith) λ o e. omega (arith, spell_grows l us, ap length h)
climb_keeps r b k s p (suc n) l us ts h fuel le =
    keeps_choose (suc b) 1 (length ts) (op_within k us) _ _ (λ e. omega arith) λ o e.
    keeps_guard b (suc b) 1 (length ts) (nesting l) us _ (λ deep. omega (arith, spell_grows l us, ap length h)) λ flat.
    let m = op_is k us o e in
    keeps_took (suc b) 1 1 1 (length ts) (r.chain (right_level o.0) o.1) _ _ (s.chain (right_level o.0) o.1)
    (keeps_in b 1 1 (length o.1) (length ts) _ (p.chain (right_level o.0) o.1) (omega (arith, ap length m.0)) (omega arith)) λ x q g.
    climb_keeps r b k s p n (Binary o.0 l x.0) x.1 ts (h ∙ ap (spell l) (m.0 ∙ ap (λ (v : List Kind). binary_mark o.0 ▸ v) q.0.parts)) (omega arith) g

load_keeps : (r : Readers) (b : ℕ) → Keeping r b → (ts : List Kind) → Keeps b 0 (length ts) (load_at r ts)
unfolding load_at
load_keeps r b k ts =
    keeps_bind b 1 0 0 (length ts) (expect_name ts) _ (keeps_name b ts) (λ n h.
    keeps_bind b 1 0 0 (length n.1) (r.chain 12 n.1) _ (k.chain 12 n.1) (λ x g. omega arith) (omega arith)) (omega arith)

chain_keeps : (r : Readers) (b : ℕ) → Sound r b → Keeping r b → (k : ℕ) (ts : List Kind) → Keeps (suc b) 1 (length ts) (chain r b k ts)
unfolding chain
chain_keeps r b s p k ts =
    keeps_choose (suc b) 1 (length ts) (after_load k ts) _ _
    (λ n. keeps_took (suc b) 1 1 1 (length ts) (unary r b ts) _ (Took spell (Good 0 (suc b)) ts) (unary_took r b s ts) (unary_place r b s p ts) λ x t g.
    climb_keeps r b k s p (suc b) x.0 x.1 ts t.parts (omega (arith, nesting_pos x.0)) g)
    λ us e. keeps_in b 0 1 (length us) (length ts) _ (load_keeps r b p us) (omega (arith, ap length (loaded k ts us e).1)) (omega arith)

-- ---- an expression

-- behind l, which was read from ts
assigned_keeps : (r : Readers) (b : ℕ) → Keeping r b → (l : Expr) (us ts : List Kind) → ts ≡ spell l us → length us + 1 ≤ length ts → Keeps (suc b) 1 (length ts) (assigned r b l us)
unfolding assigned
assigned_keeps r b k l us ts h le =
    keeps_choose (suc b) 1 (length ts) (assign_after l us) _ _ (λ n. omega arith) λ o e.
    keeps_guard b (suc b) 1 (length ts) (nesting l) us _ (λ deep. omega (arith, spell_grows l us, ap length h)) λ flat.
    keeps_in b 0 1 (length o.1) (length ts) _ (keeps_bind b 1 0 0 (length o.1) (r.expr o.1) _ (k.expr o.1) (λ x g. omega arith) (omega arith)) (omega (arith, assign_shorter l us o e)) (omega arith)

any_keeps : (r : Readers) (b : ℕ) → Sound r b → Keeping r b → (ts : List Kind) → Keeps (suc b) 1 (length ts) (expr r b ts)
unfolding expr
any_keeps r b s k ts =
    keeps_took (suc b) 1 1 1 (length ts) (chain r b 12 ts) _ _ (chain_took r b s 12 ts) (chain_keeps r b s k 12 ts) λ x t g.
    assigned_keeps r b k x.0 x.1 ts t.0.parts g

pub keeping : (b : ℕ) → Keeping (readers b) b
unfolding readers step
keeping zero = record { chain = λ k ts. omega arith; expr = λ ts. omega arith }
keeping (suc b) = record { chain = chain_keeps (readers b) b (sound b) (keeping b); expr = any_keeps (readers b) b (sound b) (keeping b) }
