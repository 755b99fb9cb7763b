-- What is spelled so is read.
use Rattle.std.proofs.Common.{◌≡◌, ℕ, zero, suc, ◌+◌, ◌≤◌, ◌<◌, Bool, true, false, cond, List, ◌∷◌, Option, Some, None, Ok, refl, ap, subst, ◌∙◌, arith, inl, inr}
use Rattle.std.proofs.lemmas.Bool.{le-leb, lt-leb, lt-ltb, le-ltb}
use Rattle.limbo_lexer.specs.declared.token.Kind.{Kind}
use Rattle.limbo_lexer.specs.declared.token.Kind.TheVariants as kind
use Rattle.limbo_lexer.specs.declared.token.Mark.{Mark}
use Rattle.limbo_lexer.specs.declared.token.Mark.TheVariants as mark
use Rattle.limbo_lexer.specs.declared.token.Key.TheVariants as key
use Rattle.limbo_tree.specs.declared.operators.AssignOp.{AssignOp}
use Rattle.limbo_tree.specs.declared.operators.BinaryOp.{BinaryOp}
use Rattle.limbo_tree.specs.declared.operators.PostfixOp.{PostfixOp}
use Rattle.limbo_tree.specs.declared.operators.PostfixOp.TheVariants as postfix_op
use Rattle.limbo_tree.specs.Tokens.{◌▸◌, ◌▹◌}
use Rattle.limbo_tree.specs.Types.{Ty, spell_ty, ty_nesting, is_ty}
use Rattle.limbo_tree.specs.Exprs.{Expr, Part, Exprs, Init, Inits, Assign, Load, Binary, Unary, Bytes, Filled, Sized, Channel, Listed, Call, Index, Slice, Dot, Arrow, Postfix, Number, Chars, Name, Nil, Group, Absent, Present, NoExprs, MoreExprs, Next, At, Rest, NoInits, MoreInits, assign_mark, binary_mark, postfix_mark, spell_comma, spell, spell_part, spell_exprs, spell_more_exprs, spell_init, spell_inits, spell_more_inits, nesting, part_nesting, exprs_nesting, init_nesting, inits_nesting, level, left_level, right_level, is_postfix, is_unary, are_exprs, are_inits, IsAt, IsPart, AreExprs, IsInit, AreInits}
use Rattle.limbo_reading.specs.Reading.{after_mark}
use Rattle.limbo_reading.specs.Lists.{items}
use Rattle.limbo_reading.proofs.Steps.{tell}
use Rattle.limbo_reading.proofs.Lists.{Each, items_again}
use Rattle.limbo_expr_parts.specs.Front.{front}
use Rattle.limbo_expr_parts.specs.Strength.{strength, strength_of, Stops, begins_expr}
use Rattle.limbo_expr_parts.specs.Operators.{binary_of, assign_of, op_within}
use Rattle.limbo_expr_parts.specs.Parts.{after_comma_inside, comma_and_brace, sized_at, channel_at, leaf_at, part_behind}
use Rattle.limbo_expr_parser.specs.Exprs.{Readers, part_before, list_at, list_before, init_at, inits_at, filled_at, array_at, listed_at, primary, index_at, one_behind, postfix, postfixed, unary, climb, load_at, chain, assigned, expr, step, readers}
use Rattle.limbo_expr_parts.proofs.Steps.{front_is}
use Rattle.limbo_expr_parser.proofs.Table.{binary_back, binary_is, binary_strength, level_low, level_high, left_low, right_low, left_ends, unary_back, assign_back, assign_is, assign_strength}
use Rattle.limbo_expr_parts.proofs.TypeLaws.{ty_again, spell_ty_begins}
use Rattle.limbo_expr_parser.proofs.Shapes.{exprs_list, exprs_back, spell_exprs_list, inits_list, inits_back, spell_inits_list, expr_grows, an_init_grows, nesting_pos, spell_begins, init_begins, not_begun, not_begun_ty, no_rest, looser, unloaded, plain_spell, plain_unary, plain_array, plain_list, plain_chan}

-- r reads each tree of nesting up to b
pub record Complete (r : Readers) (b : ℕ) : Type 0 where
  pub chain : (k : ℕ) (e : Expr) (ts : List Kind) → k ≤ 12 → IsAt k e → nesting e ≤ b → Stops k ts → r.chain k (spell e ts) ≡ Ok (e, ts)
  pub expr : (e : Expr) (ts : List Kind) → IsAt 13 e → nesting e ≤ b → Stops 13 ts → r.expr (spell e ts) ≡ Ok (e, ts)

abbrev Good : ℕ → Expr → Type 0
Good b e = IsAt 13 e × (nesting e ≤ b)

-- ---- lists of expressions

each_good : (b : ℕ) (es : Exprs) → AreExprs es → exprs_nesting es ≤ b → Each (Good b) (exprs_list es)
each_good b NoExprs h d = tt
each_good b (MoreExprs e es) h d = ((h.0, omega arith), each_good b es h.1 (omega arith))

-- a sign that closes what expressions stand in
record Closes (m : Mark) : Type 0 where
  pub strong : 13 < strength_of m
  pub unlike : (us : List Kind) → begins_expr (m ▸ us) ≡ false
  pub comma : (us : List Kind) → after_mark mark.Comma (m ▸ us) ≡ None
  pub own : (us : List Kind) → after_mark m (m ▸ us) ≡ Some us

paren : Closes mark.CloseParen
paren = record { strong = omega arith; unlike = λ us. refl; comma = λ us. refl; own = λ us. refl }

brace : Closes mark.CloseBrace
brace = record { strong = omega arith; unlike = λ us. refl; comma = λ us. refl; own = λ us. refl }

bracket : Closes mark.CloseBracket
bracket = record { strong = omega arith; unlike = λ us. refl; comma = λ us. refl; own = λ us. refl }

list_again : (r : Readers) (b : ℕ) → Complete r b → (m : Mark) → Closes m → (e : Expr) (es : Exprs) (ts : List Kind) → IsAt 13 e → AreExprs es → nesting e ≤ b → exprs_nesting es ≤ b
    → list_at r (spell e (spell_more_exprs es (m ▸ ts))) ≡ Ok (e ∷ exprs_list es, m ▸ ts)
unfolding list_at
list_again r b c m w e es ts h hs d ds =
    ap (λ (v : List Kind). items r.expr (after_mark mark.Comma) (spell e v)) (spell_exprs_list es (m ▸ ts))
    ∙ items_again r.expr (after_mark mark.Comma) spell (kind.Mark mark.Comma) (Good b) (Stops 13) (λ x us g. refl) (λ us. omega arith) expr_grows (λ x us g f. c.expr x us g.0 g.1 f) e (exprs_list es) (m ▸ ts) (h, d) (each_good b es hs ds) w.strong (w.comma ts)

list_before_again : (r : Readers) (b : ℕ) → Complete r b → (m : Mark) → Closes m → (es : Exprs) (ts : List Kind) → AreExprs es → exprs_nesting es ≤ b
    → list_before r m (spell_exprs es (m ▸ ts)) ≡ Ok (es, ts)
unfolding list_before
list_before_again r b c m w NoExprs ts h d = rw (w.own ts) refl
list_before_again r b c m w (MoreExprs e es) ts h d =
    rw (
      not_begun m (spell e (spell_more_exprs es (m ▸ ts))) w.unlike (spell_begins e (spell_more_exprs es (m ▸ ts))),
      list_again r b c m w e es ts h.0 h.1 (omega arith) (omega arith),
      w.own ts,
      exprs_back es,
    ) refl

part_again : (r : Readers) (b : ℕ) → Complete r b → (m : Mark) → Closes m → (p : Part) (ts : List Kind) → IsPart p → part_nesting p ≤ b
    → part_before r m (spell_part p (m ▸ ts)) ≡ Ok (p, ts)
unfolding part_before
part_again r b c m w Absent ts h d = rw (w.own ts) refl
part_again r b c m w (Present e) ts h d =
    rw (not_begun m (spell e (m ▸ ts)) w.unlike (spell_begins e (m ▸ ts)), c.expr e (m ▸ ts) h d w.strong, w.own ts) refl

-- ---- inits

-- what may stand behind an init
abbrev Ends : List Kind → Type 0
Ends ts = Stops 13 ts × (after_mark mark.FatArrow ts ≡ None)

init_again : (r : Readers) (b : ℕ) → Complete r b → (i : Init) (ts : List Kind) → IsInit i → init_nesting i ≤ b → Ends ts → init_at r (spell_init i ts) ≡ Ok (i, ts)
unfolding init_at
init_again r b c (Next e) ts h d s = rw (no_rest e ts, c.expr e ts h d s.0, s.1) refl
init_again r b c (At i e) ts h d s = rw (no_rest i (mark.FatArrow ▸ spell e ts), c.expr i (mark.FatArrow ▸ spell e ts) h.0 (omega arith) (omega arith), c.expr e ts h.1 (omega arith) s.0) refl
init_again r b c (Rest e) ts h d s = rw (c.expr e ts h d s.0) refl

abbrev GoodInit : ℕ → Init → Type 0
GoodInit b i = IsInit i × (init_nesting i ≤ b)

each_good_init : (b : ℕ) (is : Inits) → AreInits is → inits_nesting is ≤ b → Each (GoodInit b) (inits_list is)
each_good_init b NoInits h d = tt
each_good_init b (MoreInits i is) h d = ((h.0, omega arith), each_good_init b is h.1 (omega arith))

inside : (ts : List Kind) → begins_expr ts ≡ true → after_comma_inside (mark.Comma ▸ ts) ≡ Some ts
inside ts h = rw (not_begun mark.CloseBrace ts (λ us. refl) h) refl

comma_ends : (comma : Bool) (ts : List Kind) → Ends (spell_comma comma (mark.CloseBrace ▸ ts)) × (after_comma_inside (spell_comma comma (mark.CloseBrace ▸ ts)) ≡ None)
comma_ends true ts = ((omega arith, refl), refl)
comma_ends false ts = ((omega arith, refl), refl)

comma_again : (comma : Bool) (ts : List Kind) → comma_and_brace (spell_comma comma (mark.CloseBrace ▸ ts)) ≡ Ok (comma, ts)
comma_again true ts = refl
comma_again false ts = refl

inits_again : (r : Readers) (b : ℕ) → Complete r b → (i : Init) (is : Inits) (comma : Bool) (ts : List Kind) → IsInit i → AreInits is → init_nesting i ≤ b → inits_nesting is ≤ b
    → inits_at r (spell_init i (spell_more_inits is (spell_comma comma (mark.CloseBrace ▸ ts)))) ≡ Ok (i ∷ inits_list is, spell_comma comma (mark.CloseBrace ▸ ts))
unfolding inits_at
inits_again r b c i is comma ts h hs d ds =
    let us : List Kind = spell_comma comma (mark.CloseBrace ▸ ts) in
    let ends = comma_ends comma ts in
    ap (λ (v : List Kind). items (init_at r) after_comma_inside (spell_init i v)) (spell_inits_list is us)
    ∙ items_again (init_at r) after_comma_inside spell_init (kind.Mark mark.Comma) (GoodInit b) Ends (λ x vs g. inside (spell_init x vs) (init_begins x vs)) (λ vs. (omega arith, refl)) an_init_grows (λ x vs g f. init_again r b c x vs g.0 g.1 f) i (inits_list is) us (h, d) (each_good_init b is hs ds) ends.0 ends.1

filled_again : (r : Readers) (b : ℕ) → Complete r b → (n : Part) (is : Inits) (comma : Bool) (ts : List Kind) → are_inits is ≡ true → AreInits is → inits_nesting is ≤ b
    → filled_at r n (spell_inits is (spell_comma comma (mark.CloseBrace ▸ ts))) ≡ Ok (Filled n is comma, ts)
unfolding filled_at
filled_again r b c n NoInits comma ts p h d = absurd cc
filled_again r b c n (MoreInits i is) comma ts p h d =
    rw (inits_again r b c i is comma ts h.0 h.1 (omega arith) (omega arith), comma_again comma ts, inits_back is) refl

-- ---- arrays

bytes_again : (r : Readers) (b : ℕ) → Complete r b → (e : Expr) (ts : List Kind) → IsAt 0 e → nesting e ≤ b → Stops 0 ts → array_at r b (key.Of ▹ key.Byte ▹ spell e ts) ≡ Ok (Bytes e, ts)
unfolding array_at
bytes_again r b c e ts h d s = rw (c.chain 0 e ts (omega arith) h d s) refl

elements_again : (r : Readers) (b : ℕ) → Complete r b → (n : Part) (is : Inits) (comma : Bool) (ts : List Kind) → IsPart n → are_inits is ≡ true → AreInits is → part_nesting n ≤ b → inits_nesting is ≤ b
    → array_at r b (mark.OpenBracket ▸ spell_part n (mark.CloseBracket ▸ key.Of ▹ mark.OpenBrace ▸ spell_inits is (spell_comma comma (mark.CloseBrace ▸ ts)))) ≡ Ok (Filled n is comma, ts)
unfolding array_at
elements_again r b c n is comma ts h p hs d ds =
    rw (part_again r b c mark.CloseBracket bracket n (key.Of ▹ mark.OpenBrace ▸ spell_inits is (spell_comma comma (mark.CloseBrace ▸ ts))) h d, filled_again r b c n is comma ts p hs ds) refl

sized_again : (r : Readers) (b : ℕ) → Complete r b → (e : Expr) (t : Ty) (ts : List Kind) → IsAt 13 e → is_ty t ≡ true → nesting e ≤ b → ty_nesting t ≤ b → Stops 0 ts
    → array_at r b (mark.OpenBracket ▸ spell e (mark.CloseBracket ▸ key.Of ▹ spell_ty t ts)) ≡ Ok (Sized e t, ts)
unfolding array_at sized_at
sized_again r b c e t ts h g d dt s =
    rw (part_again r b c mark.CloseBracket bracket (Present e) (key.Of ▹ spell_ty t ts) h d, not_begun_ty mark.OpenBrace (spell_ty t ts) (λ us. refl) (spell_ty_begins t ts g), ty_again b t ts g dt s) refl

-- ---- a postfix

call_again : (r : Readers) (b : ℕ) → Complete r b → (f : Expr) (es : Exprs) (ts : List Kind) → AreExprs es → exprs_nesting es ≤ b → one_behind r f (mark.OpenParen ▸ spell_exprs es (mark.CloseParen ▸ ts)) ≡ Ok (Call f es, ts)
unfolding one_behind
call_again r b c f es ts h d = rw (list_before_again r b c mark.CloseParen paren es ts h d) refl

index_again : (r : Readers) (b : ℕ) → Complete r b → (f i : Expr) (ts : List Kind) → IsAt 13 i → nesting i ≤ b → one_behind r f (mark.OpenBracket ▸ spell i (mark.CloseBracket ▸ ts)) ≡ Ok (Index f i, ts)
unfolding one_behind index_at
index_again r b c f i ts h d =
    rw (not_begun mark.Colon (spell i (mark.CloseBracket ▸ ts)) (λ us. refl) (spell_begins i (mark.CloseBracket ▸ ts)), c.expr i (mark.CloseBracket ▸ ts) h d (omega arith)) refl

slice_again : (r : Readers) (b : ℕ) → Complete r b → (f : Expr) (i j : Part) (ts : List Kind) → IsPart i → IsPart j → part_nesting i ≤ b → part_nesting j ≤ b
    → one_behind r f (mark.OpenBracket ▸ spell_part i (mark.Colon ▸ spell_part j (mark.CloseBracket ▸ ts))) ≡ Ok (Slice f i j, ts)
unfolding one_behind index_at
slice_again r b c f Absent j ts h hj d dj = rw (part_again r b c mark.CloseBracket bracket j ts hj dj) refl
slice_again r b c f (Present i) j ts h hj d dj =
    let us : List Kind = mark.Colon ▸ spell_part j (mark.CloseBracket ▸ ts) in
    rw (not_begun mark.Colon (spell i us) (λ vs. refl) (spell_begins i us), c.expr i us h d (omega arith), part_again r b c mark.CloseBracket bracket j ts hj dj) refl

step_again : (r : Readers) (o : PostfixOp) (f : Expr) (ts : List Kind) → one_behind r f (postfix_mark o ▸ ts) ≡ Ok (Postfix o f, ts)
unfolding one_behind part_behind
step_again r postfix_op.Increment f ts = refl
step_again r postfix_op.Decrement f ts = refl

step_strength : (o : PostfixOp) → strength_of (postfix_mark o) ≡ 0
step_strength postfix_op.Increment = refl
step_strength postfix_op.Decrement = refl

dot_again : (r : Readers) (f : Expr) (n : List ℕ) (ts : List Kind) → one_behind r f (mark.Dot ▸ kind.Name n ∷ ts) ≡ Ok (Dot f n, ts)
unfolding one_behind part_behind
dot_again r f n ts = refl

arrow_again : (r : Readers) (f : Expr) (n : List ℕ) (ts : List Kind) → one_behind r f (mark.Arrow ▸ kind.Name n ∷ ts) ≡ Ok (Arrow f n, ts)
unfolding one_behind part_behind
arrow_again r f n ts = refl

group_again : (r : Readers) (b : ℕ) → Complete r b → (es : Exprs) (ts : List Kind) → are_exprs es ≡ true → AreExprs es → exprs_nesting es ≤ b → primary r (mark.OpenParen ▸ spell_exprs es (mark.CloseParen ▸ ts)) ≡ Ok (Group es, ts)
unfolding primary
group_again r b c NoExprs ts p h d = absurd cc
group_again r b c (MoreExprs e es) ts p h d =
    rw (list_again r b c mark.CloseParen paren e es ts h.0 h.1 (omega arith) (omega arith), exprs_back es) refl

-- the state in which what stands behind e is read
abbrev Behind : Readers → ℕ → Expr → List Kind → Type 0
Behind r b e ts = (n : ℕ) × (suc (suc b) ≤ n + nesting e) × (postfixed r b (spell e ts) ≡ postfix r b n e ts)

begins_behind : (r : Readers) (b : ℕ) (e : Expr) (ts : List Kind) → primary r (spell e ts) ≡ Ok (e, ts) → Behind r b e ts
unfolding postfixed
begins_behind r b e ts h = (suc b, omega (arith, nesting_pos e), rw h refl)

one_more : (r : Readers) (b m : ℕ) (f g : Expr) (us ts : List Kind) → nesting f ≤ b → strength us ≡ 0 → one_behind r f us ≡ Ok (g, ts) → postfix r b (suc m) f us ≡ postfix r b m g ts
unfolding postfix
one_more r b m f g us ts d s e = rw (s, le-ltb b (nesting f) d, e) refl

goes_on : (r : Readers) (b : ℕ) (f g : Expr) (us ts : List Kind) → nesting f ≤ b → suc (nesting f) ≤ nesting g → spell g ts ≡ spell f us → strength us ≡ 0 → one_behind r f us ≡ Ok (g, ts) → Behind r b f us → Behind r b g ts
goes_on r b f g us ts d k e s one (zero, le, so_far) = absurd (omega arith)
goes_on r b f g us ts d k e s one (suc m, le, so_far) = (m, omega arith, ap (postfixed r b) e ∙ so_far ∙ one_more r b m f g us ts d s one)

postfix_again : (r : Readers) (b : ℕ) → Complete r b → (e : Expr) (ts : List Kind) → is_postfix e ≡ true → IsAt 0 e → nesting e ≤ suc b → Behind r b e ts
unfolding primary leaf_at
postfix_again r b c (Number v wide) ts p h d = begins_behind r b (Number v wide) ts refl
postfix_again r b c (Chars s) ts p h d = begins_behind r b (Chars s) ts refl
postfix_again r b c (Name n) ts p h d = begins_behind r b (Name n) ts refl
postfix_again r b c Nil ts p h d = begins_behind r b Nil ts refl
postfix_again r b c (Group es) ts p h d = begins_behind r b (Group es) ts (group_again r b c es ts h.0 h.1 (omega arith))
postfix_again r b c (Call f es) ts p h d =
    let us : List Kind = mark.OpenParen ▸ spell_exprs es (mark.CloseParen ▸ ts) in
    goes_on r b f (Call f es) us ts (omega arith) (omega arith) refl refl (call_again r b c f es ts h.2 (omega arith)) (postfix_again r b c f us h.0 h.1 (omega arith))
postfix_again r b c (Index f i) ts p h d =
    let us : List Kind = mark.OpenBracket ▸ spell i (mark.CloseBracket ▸ ts) in
    goes_on r b f (Index f i) us ts (omega arith) (omega arith) refl refl (index_again r b c f i ts h.2 (omega arith)) (postfix_again r b c f us h.0 h.1 (omega arith))
postfix_again r b c (Slice f i j) ts p h d =
    let us : List Kind = mark.OpenBracket ▸ spell_part i (mark.Colon ▸ spell_part j (mark.CloseBracket ▸ ts)) in
    goes_on r b f (Slice f i j) us ts (omega arith) (omega arith) refl refl (slice_again r b c f i j ts h.2 h.3 (omega arith) (omega arith)) (postfix_again r b c f us h.0 h.1 (omega arith))
postfix_again r b c (Dot f n) ts p h d =
    goes_on r b f (Dot f n) (mark.Dot ▸ kind.Name n ∷ ts) ts (omega arith) (omega arith) refl refl (dot_again r f n ts) (postfix_again r b c f (mark.Dot ▸ kind.Name n ∷ ts) h.0 h.1 (omega arith))
postfix_again r b c (Arrow f n) ts p h d =
    goes_on r b f (Arrow f n) (mark.Arrow ▸ kind.Name n ∷ ts) ts (omega arith) (omega arith) refl refl (arrow_again r f n ts) (postfix_again r b c f (mark.Arrow ▸ kind.Name n ∷ ts) h.0 h.1 (omega arith))
postfix_again r b c (Postfix o f) ts p h d =
    goes_on r b f (Postfix o f) (postfix_mark o ▸ ts) ts (omega arith) (omega arith) refl (step_strength o) (step_again r o f ts) (postfix_again r b c f (postfix_mark o ▸ ts) h.0 h.1 (omega arith))
postfix_again r b c _ ts p h d = absurd cc

postfix_stops : (r : Readers) (b n : ℕ) (e : Expr) (ts : List Kind) → Stops 0 ts → postfix r b n e ts ≡ Ok (e, ts)
unfolding postfix
postfix_stops r b zero e ts s = rw (lt-ltb 0 (strength ts) s) refl
postfix_stops r b (suc n) e ts s = rw (lt-ltb 0 (strength ts) s) refl

-- ---- a unary

plain_again : (r : Readers) (b : ℕ) → Complete r b → (e : Expr) (ts : List Kind) → is_postfix e ≡ true → IsAt 0 e → nesting e ≤ suc b → Stops 0 ts → unary r b (spell e ts) ≡ Ok (e, ts)
unfolding unary
plain_again r b c e ts p h d s =
    let begin = plain_spell e ts p h in
    let state = postfix_again r b c e ts p h d in
    rw (plain_unary (spell e ts) begin, plain_array (spell e ts) begin, plain_list (spell e ts) begin, plain_chan (spell e ts) begin) (state.2 ∙ postfix_stops r b state.0 e ts s)

listed_again : (r : Readers) (b : ℕ) → Complete r b → (es : Exprs) (ts : List Kind) → AreExprs es → exprs_nesting es ≤ b → listed_at r (key.Of ▹ mark.OpenBrace ▸ spell_exprs es (mark.CloseBrace ▸ ts)) ≡ Ok (Listed es, ts)
unfolding listed_at
listed_again r b c es ts h d = rw (list_before_again r b c mark.CloseBrace brace es ts h d) refl

channel_again : (b : ℕ) (t : Ty) (ts : List Kind) → is_ty t ≡ true → ty_nesting t ≤ b → Stops 0 ts → channel_at b (key.Of ▹ spell_ty t ts) ≡ Ok (Channel Absent t, ts)
unfolding channel_at
channel_again b t ts g d s = rw (ty_again b t ts g d s) refl

one_again : (r : Readers) (b : ℕ) → Complete r b → (e : Expr) (ts : List Kind) → IsAt 0 e → nesting e ≤ suc b → Stops 0 ts → unary r b (spell e ts) ≡ Ok (e, ts)
unfolding unary
one_again r b c (Unary o e) ts h d s = rw (unary_back o, c.chain 0 e ts (omega arith) h (omega arith) s) refl
one_again r b c (Bytes e) ts h d s = bytes_again r b c e ts h (omega arith) s
one_again r b c (Filled n is comma) ts h d s = elements_again r b c n is comma ts h.0 h.1 h.2 (omega arith) (omega arith)
one_again r b c (Sized e t) ts h d s = sized_again r b c e t ts h.0 h.1 (omega arith) (omega arith) s
one_again r b c (Channel Absent t) ts h d s = channel_again b t ts h.1 (omega arith) s
one_again r b c (Channel (Present n) t) ts h d s = absurd (let f = h.0 in cc)
one_again r b c (Listed es) ts h d s = listed_again r b c es ts h (omega arith)
one_again r b c (Assign o l m) ts h d s = absurd (omega (arith, h.0))
one_again r b c (Load n e) ts h d s = absurd (omega (arith, h.0))
one_again r b c (Binary o l m) ts h d s = absurd (omega (arith, level_low o, h.0))
one_again r b c (Call f es) ts h d s = plain_again r b c (Call f es) ts refl h d s
one_again r b c (Index f i) ts h d s = plain_again r b c (Index f i) ts refl h d s
one_again r b c (Slice f i j) ts h d s = plain_again r b c (Slice f i j) ts refl h d s
one_again r b c (Dot f n) ts h d s = plain_again r b c (Dot f n) ts refl h d s
one_again r b c (Arrow f n) ts h d s = plain_again r b c (Arrow f n) ts refl h d s
one_again r b c (Postfix o f) ts h d s = plain_again r b c (Postfix o f) ts refl h d s
one_again r b c (Number v wide) ts h d s = plain_again r b c (Number v wide) ts refl h d s
one_again r b c (Chars t) ts h d s = plain_again r b c (Chars t) ts refl h d s
one_again r b c (Name n) ts h d s = plain_again r b c (Name n) ts refl h d s
one_again r b c Nil ts h d s = plain_again r b c Nil ts refl h d s
one_again r b c (Group es) ts h d s = plain_again r b c (Group es) ts refl h d s

-- ---- operators

op_within_own : (k : ℕ) (o : BinaryOp) (ts : List Kind) → level o ≤ k → op_within k (binary_mark o ▸ ts) ≡ Some (o, ts)
op_within_own k o ts le = rw (binary_back o, le-leb (level o) k le) refl

pub op_stops : (k : ℕ) (ts : List Kind) → Stops k ts → op_within k ts ≡ None
op_stops k ts s = elim (tell (front binary_of ts)) [
  | inr e ↦ rw e refl
  | inl (x, e) ↦
      let f = front_is binary_of ts x e in
      let m : ts ≡ binary_mark x.0 ▸ x.1 = f.parts ∙ ap (λ (t : Kind). t ∷ x.1) (binary_is f.first x.0 f.stands) in
      let far : k < level x.0 = let h = subst (Stops k) m s in omega (arith, binary_strength x.0) in
      rw (e, lt-leb (level x.0) k far) refl
]

pub assign_stops : (ts : List Kind) → Stops 13 ts → front assign_of ts ≡ None
assign_stops ts s = elim (tell (front assign_of ts)) [
  | inr e ↦ e
  | inl (x, e) ↦
      let f = front_is assign_of ts x e in
      let m : ts ≡ assign_mark x.0 ▸ x.1 = f.parts ∙ ap (λ (t : Kind). t ∷ x.1) (assign_is f.first x.0 f.stands) in
      let h = subst (Stops 13) m s in absurd (omega (arith, assign_strength x.0))
]

-- what follows ends the last operand of a tree
abbrev Ready : Expr → List Kind → Type 0
Ready (Binary o l m) ts = right_level o < strength ts
Ready _ ts = 0 < strength ts

ready_left : (l : Expr) (o : BinaryOp) (ts : List Kind) → IsAt (left_level o) l → Ready l (binary_mark o ▸ ts)
ready_left (Binary i l m) o ts h = omega (arith, left_ends i o h.0, binary_strength o)
ready_left _ o ts h = omega (arith, level_low o, binary_strength o)

-- the state in which the operators behind e are read
abbrev Climbs : Readers → ℕ → ℕ → Expr → List Kind → Type 0
Climbs r b k e ts = (n : ℕ) × (suc (suc b) ≤ n + nesting e) × (chain r b k (spell e ts) ≡ climb r b k n e ts)

begins_climb : (r : Readers) (b k : ℕ) (e : Expr) (ts : List Kind) → IsAt 11 e → unary r b (spell e ts) ≡ Ok (e, ts) → Climbs r b k e ts
unfolding chain
begins_climb r b k e ts h one = (suc b, omega (arith, nesting_pos e), rw (unloaded k e ts h, one) refl)

climb_more : (r : Readers) (b k n : ℕ) → Complete r b → (o : BinaryOp) (l m : Expr) (ts : List Kind) → level o ≤ k → IsAt (right_level o) m → nesting l ≤ b → nesting m ≤ b → right_level o < strength ts
    → climb r b k (suc n) l (binary_mark o ▸ spell m ts) ≡ climb r b k n (Binary o l m) ts
unfolding climb
climb_more r b k n c o l m ts le h dl dm s =
    rw (op_within_own k o (spell m ts) le, le-ltb b (nesting l) dl, c.chain (right_level o) m ts (omega (arith, right_low o, level_high o)) h dm s) refl

climbs_on : (r : Readers) (b k : ℕ) → Complete r b → (o : BinaryOp) (l m : Expr) (ts : List Kind) → level o ≤ k → IsAt (right_level o) m → nesting (Binary o l m) ≤ suc b → right_level o < strength ts
    → Climbs r b k l (binary_mark o ▸ spell m ts) → Climbs r b k (Binary o l m) ts
climbs_on r b k c o l m ts le h d s (zero, up, so_far) = absurd (omega arith)
climbs_on r b k c o l m ts le h d s (suc n, up, so_far) = (n, omega arith, so_far ∙ climb_more r b k n c o l m ts le h (omega arith) (omega arith) s)

climbs : (r : Readers) (b k : ℕ) → Complete r b → (e : Expr) (ts : List Kind) → IsAt 11 e → IsAt k e → nesting e ≤ suc b → Ready e ts → Climbs r b k e ts
climbs r b k c (Binary o l m) ts t h d s =
    climbs_on r b k c o l m ts h.0 h.2 d s
    (climbs r b k c l (binary_mark o ▸ spell m ts) (looser (left_level o) 11 l (omega (arith, left_low o, level_high o)) h.1) (looser (left_level o) k l (omega (arith, left_low o, h.0)) h.1) (omega arith) (ready_left l o (spell m ts) h.1))
climbs r b k c (Assign o l m) ts t h d s = absurd (omega (arith, t.0))
climbs r b k c (Load n e) ts t h d s = absurd (omega (arith, t.0))
climbs r b k c e ts t h d s = begins_climb r b k e ts t (one_again r b c e ts h d s)

climb_stops : (r : Readers) (b k n : ℕ) (e : Expr) (ts : List Kind) → Stops k ts → climb r b k n e ts ≡ Ok (e, ts)
unfolding climb
climb_stops r b k zero e ts s = rw (op_stops k ts s) refl
climb_stops r b k (suc n) e ts s = rw (op_stops k ts s) refl

climbed : (r : Readers) (b k : ℕ) → Complete r b → (e : Expr) (ts : List Kind) → IsAt 11 e → IsAt k e → nesting e ≤ suc b → Ready e ts → Stops k ts → chain r b k (spell e ts) ≡ Ok (e, ts)
climbed r b k c e ts t h d w s = let state = climbs r b k c e ts t h d w in state.2 ∙ climb_stops r b k state.0 e ts s

load_again : (r : Readers) (b k : ℕ) → Complete r b → (n : List ℕ) (e : Expr) (ts : List Kind) → k ≡ 12 → IsAt 12 e → nesting e ≤ b → Stops 12 ts → chain r b k (spell (Load n e) ts) ≡ Ok (Load n e, ts)
unfolding chain load_at
load_again r b k c n e ts twelve h d s = rw (twelve, c.chain 12 e ts (omega arith) h d s) refl

chain_again : (r : Readers) (b : ℕ) → Complete r b → (k : ℕ) (e : Expr) (ts : List Kind) → k ≤ 12 → IsAt k e → nesting e ≤ suc b → Stops k ts → chain r b k (spell e ts) ≡ Ok (e, ts)
chain_again r b c k (Assign o l m) ts le h d s = absurd (omega (arith, h.0))
chain_again r b c k (Load n e) ts le h d s = load_again r b k c n e ts (omega (arith, h.0)) h.1 (omega arith) (omega (arith, h.0))
chain_again r b c k (Binary o l m) ts le h d s = climbed r b k c (Binary o l m) ts (level_high o, h.1, h.2) h d (omega (arith, right_low o, h.0)) s
chain_again r b c k e ts le h d s = climbed r b k c e ts h h d (omega arith) s

-- ---- an expression

-- a unary stands at each level
unary_looser : (k : ℕ) (e : Expr) → IsAt 0 e → (is_unary e ≡ true) × IsAt k e
unary_looser k (Binary o l m) h = absurd (omega (arith, level_low o, h.0))
unary_looser k (Assign o l m) h = absurd (omega (arith, h.0))
unary_looser k (Load n e) h = absurd (omega (arith, h.0))
unary_looser k e h = (refl, h)

assigned_again : (r : Readers) (b : ℕ) → Complete r b → (o : AssignOp) (l m : Expr) (ts : List Kind) → is_unary l ≡ true → nesting l ≤ b → IsAt 13 m → nesting m ≤ b → Stops 13 ts
    → assigned r b l (assign_mark o ▸ spell m ts) ≡ Ok (Assign o l m, ts)
unfolding assigned
assigned_again r b c o l m ts u dl h d s = rw (u, assign_back o, le-ltb b (nesting l) dl, c.expr m ts h d s) refl

either_same : {A : Type 0} (t : Bool) (x : A) → cond t x x ≡ x
either_same true x = refl
either_same false x = refl

assigned_stops : (r : Readers) (b : ℕ) (e : Expr) (ts : List Kind) → Stops 13 ts → assigned r b e ts ≡ Ok (e, ts)
unfolding assigned
assigned_stops r b e ts s = rw (assign_stops ts s, either_same {A = Option (AssignOp × List Kind)} (is_unary e) None) refl

chained_expr : (r : Readers) (b : ℕ) → Complete r b → (e : Expr) (ts : List Kind) → IsAt 12 e → nesting e ≤ suc b → Stops 13 ts → expr r b (spell e ts) ≡ Ok (e, ts)
unfolding expr
chained_expr r b c e ts h d s = rw (chain_again r b c 12 e ts (omega arith) h d (omega arith)) (assigned_stops r b e ts s)

any_again : (r : Readers) (b : ℕ) → Complete r b → (e : Expr) (ts : List Kind) → IsAt 13 e → nesting e ≤ suc b → Stops 13 ts → expr r b (spell e ts) ≡ Ok (e, ts)
unfolding expr
any_again r b c (Assign o l m) ts h d s =
    let u = unary_looser 12 l h.1 in
    rw (chain_again r b c 12 l (assign_mark o ▸ spell m ts) (omega arith) u.1 (omega arith) (omega (arith, assign_strength o))) (assigned_again r b c o l m ts u.0 (omega arith) h.2 (omega arith) s)
any_again r b c (Load n e) ts h d s = chained_expr r b c (Load n e) ts (omega arith, h.1) d s
any_again r b c (Binary o l m) ts h d s = chained_expr r b c (Binary o l m) ts (omega (arith, level_high o), h.1, h.2) d s
any_again r b c e ts h d s = chained_expr r b c e ts h d s

step_complete : (r : Readers) (b : ℕ) → Complete r b → Complete (step r b) (suc b)
unfolding step
step_complete r b c = record { chain = chain_again r b c; expr = any_again r b c }

pub complete : (b : ℕ) → Complete (readers b) b
unfolding readers
complete zero = record { chain = λ k e ts le h d s. absurd (omega (arith, nesting_pos e)); expr = λ e ts h d s. absurd (omega (arith, nesting_pos e)) }
complete (suc b) = step_complete (readers b) b (complete b)
