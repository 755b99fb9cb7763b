-- How spellings of expressions begin, how long they are, and their lists.
use Rattle.std.proofs.Common.{◌≡◌, ℕ, ◌+◌, ◌≤◌, Bool, true, false, cond, List, [], ◌∷◌, length, Option, None, refl, ap, subst, arith, inl, inr}
use Rattle.limbo_lexer.specs.declared.token.Kind.{Kind}
use Rattle.limbo_lexer.specs.declared.token.Kind.TheVariants as kind
use Rattle.limbo_lexer.specs.declared.token.Mark.{Mark}
use Rattle.limbo_lexer.specs.declared.token.Mark.TheVariants as mark
use Rattle.limbo_lexer.specs.declared.token.Key.TheVariants as key
use Rattle.limbo_tree.specs.declared.operators.UnaryOp.{UnaryOp}
use Rattle.limbo_tree.specs.declared.operators.UnaryOp.TheVariants as unary_op
use Rattle.limbo_tree.specs.Tokens.{◌▸◌, ◌▹◌}
use Rattle.limbo_tree.specs.Types.{spell_ty}
use Rattle.limbo_tree.specs.Exprs.{Expr, Part, Exprs, Init, Inits, Assign, Load, Binary, Unary, Bytes, Filled, Sized, Channel, Listed, Call, Index, Slice, Dot, Arrow, Postfix, Number, Chars, Name, Nil, Group, Absent, Present, NoExprs, MoreExprs, Next, At, Rest, NoInits, MoreInits, assign_mark, binary_mark, unary_kind, postfix_mark, spell_comma, spell, spell_part, spell_exprs, spell_more_exprs, spell_init, spell_inits, spell_more_inits, nesting, part_nesting, exprs_nesting, init_nesting, inits_nesting, left_level, is_postfix, IsAt}
use Rattle.limbo_tree.specs.View.{exprs_of, inits_of}
use Rattle.limbo_reading.specs.Reading.{after_mark, after_key}
use Rattle.limbo_reading.proofs.Steps.{tell, after_mark_is}
use Rattle.limbo_reading.proofs.Lists.{spell_others}
use Rattle.limbo_expr_parts.specs.Front.{front}
use Rattle.limbo_expr_parts.specs.Strength.{begins_expr, begins_ty}
use Rattle.limbo_expr_parts.specs.Operators.{unary_of, after_load}
use Rattle.limbo_expr_parts.specs.Parts.{after_rest}
use Rattle.limbo_expr_parser.proofs.Table.{level_high, left_low, unary_begins, unary_no_load}
use Rattle.limbo_expr_parts.proofs.TypeLaws.{spell_ty_grows}

-- ---- lists of expressions and of inits

abbrev pub exprs_list : Exprs → List Expr
exprs_list NoExprs = []
exprs_list (MoreExprs e es) = e ∷ exprs_list es

pub exprs_back : (es : Exprs) → exprs_of (exprs_list es) ≡ es
exprs_back NoExprs = refl
exprs_back (MoreExprs e es) = ap (MoreExprs e) (exprs_back es)

pub spell_exprs_list : (es : Exprs) (ts : List Kind) → spell_more_exprs es ts ≡ spell_others spell (kind.Mark mark.Comma) (exprs_list es) ts
spell_exprs_list NoExprs ts = refl
spell_exprs_list (MoreExprs e es) ts = ap (λ (v : List Kind). mark.Comma ▸ spell e v) (spell_exprs_list es ts)

pub spell_exprs_of : (es : List Expr) (ts : List Kind) → spell_others spell (kind.Mark mark.Comma) es ts ≡ spell_more_exprs (exprs_of es) ts
spell_exprs_of [] ts = refl
spell_exprs_of (e ∷ es) ts = ap (λ (v : List Kind). mark.Comma ▸ spell e v) (spell_exprs_of es ts)

abbrev pub inits_list : Inits → List Init
inits_list NoInits = []
inits_list (MoreInits i is) = i ∷ inits_list is

pub inits_back : (is : Inits) → inits_of (inits_list is) ≡ is
inits_back NoInits = refl
inits_back (MoreInits i is) = ap (MoreInits i) (inits_back is)

pub spell_inits_list : (is : Inits) (ts : List Kind) → spell_more_inits is ts ≡ spell_others spell_init (kind.Mark mark.Comma) (inits_list is) ts
spell_inits_list NoInits ts = refl
spell_inits_list (MoreInits i is) ts = ap (λ (v : List Kind). mark.Comma ▸ spell_init i v) (spell_inits_list is ts)

pub spell_inits_of : (is : List Init) (ts : List Kind) → spell_others spell_init (kind.Mark mark.Comma) is ts ≡ spell_more_inits (inits_of is) ts
spell_inits_of [] ts = refl
spell_inits_of (i ∷ is) ts = ap (λ (v : List Kind). mark.Comma ▸ spell_init i v) (spell_inits_of is ts)

-- ---- how long

pub comma_grows : (comma : Bool) (ts : List Kind) → length ts ≤ length (spell_comma comma ts)
comma_grows true ts = omega arith
comma_grows false ts = omega arith

mutual
  pub spell_grows : (e : Expr) (ts : List Kind) → nesting e + length ts ≤ length (spell e ts)
  spell_grows (Assign o l r) ts = omega (arith, spell_grows l (assign_mark o ▸ spell r ts), spell_grows r ts)
  spell_grows (Load n e) ts = omega (arith, spell_grows e ts)
  spell_grows (Binary o l r) ts = omega (arith, spell_grows l (binary_mark o ▸ spell r ts), spell_grows r ts)
  spell_grows (Unary o e) ts = omega (arith, spell_grows e ts)
  spell_grows (Bytes e) ts = omega (arith, spell_grows e ts)
  spell_grows (Filled n is comma) ts =
      omega (arith, part_grows n (mark.CloseBracket ▸ key.Of ▹ mark.OpenBrace ▸ spell_inits is (spell_comma comma (mark.CloseBrace ▸ ts))), inits_grow is (spell_comma comma (mark.CloseBrace ▸ ts)), comma_grows comma (mark.CloseBrace ▸ ts))
  spell_grows (Sized e t) ts = omega (arith, spell_grows e (mark.CloseBracket ▸ key.Of ▹ spell_ty t ts), spell_ty_grows t ts)
  spell_grows (Channel n t) ts = omega (arith, spell_ty_grows t ts)
  spell_grows (Listed es) ts = omega (arith, exprs_grow es (mark.CloseBrace ▸ ts))
  spell_grows (Call f es) ts = omega (arith, spell_grows f (mark.OpenParen ▸ spell_exprs es (mark.CloseParen ▸ ts)), exprs_grow es (mark.CloseParen ▸ ts))
  spell_grows (Index e i) ts = omega (arith, spell_grows e (mark.OpenBracket ▸ spell i (mark.CloseBracket ▸ ts)), spell_grows i (mark.CloseBracket ▸ ts))
  spell_grows (Slice e i j) ts =
      omega (arith, spell_grows e (mark.OpenBracket ▸ spell_part i (mark.Colon ▸ spell_part j (mark.CloseBracket ▸ ts))), part_grows i (mark.Colon ▸ spell_part j (mark.CloseBracket ▸ ts)), part_grows j (mark.CloseBracket ▸ ts))
  spell_grows (Dot e n) ts = omega (arith, spell_grows e (mark.Dot ▸ kind.Name n ∷ ts))
  spell_grows (Arrow e n) ts = omega (arith, spell_grows e (mark.Arrow ▸ kind.Name n ∷ ts))
  spell_grows (Postfix o e) ts = omega (arith, spell_grows e (postfix_mark o ▸ ts))
  spell_grows (Number v wide) ts = omega arith
  spell_grows (Chars s) ts = omega arith
  spell_grows (Name n) ts = omega arith
  spell_grows Nil ts = omega arith
  spell_grows (Group es) ts = omega (arith, exprs_grow es (mark.CloseParen ▸ ts))

  part_grows : (p : Part) (ts : List Kind) → part_nesting p + length ts ≤ length (spell_part p ts)
  part_grows Absent ts = omega arith
  part_grows (Present e) ts = spell_grows e ts

  exprs_grow : (es : Exprs) (ts : List Kind) → exprs_nesting es + length ts ≤ length (spell_exprs es ts)
  exprs_grow NoExprs ts = omega arith
  exprs_grow (MoreExprs e es) ts = omega (arith, spell_grows e (spell_more_exprs es ts), more_exprs_grow es ts)

  more_exprs_grow : (es : Exprs) (ts : List Kind) → exprs_nesting es + length ts ≤ length (spell_more_exprs es ts)
  more_exprs_grow NoExprs ts = omega arith
  more_exprs_grow (MoreExprs e es) ts = omega (arith, spell_grows e (spell_more_exprs es ts), more_exprs_grow es ts)

  init_grows : (i : Init) (ts : List Kind) → init_nesting i + length ts ≤ length (spell_init i ts)
  init_grows (Next e) ts = spell_grows e ts
  init_grows (At i e) ts = omega (arith, spell_grows i (mark.FatArrow ▸ spell e ts), spell_grows e ts)
  init_grows (Rest e) ts = omega (arith, spell_grows e ts)

  inits_grow : (is : Inits) (ts : List Kind) → inits_nesting is + length ts ≤ length (spell_inits is ts)
  inits_grow NoInits ts = omega arith
  inits_grow (MoreInits i is) ts = omega (arith, init_grows i (spell_more_inits is ts), more_inits_grow is ts)

  more_inits_grow : (is : Inits) (ts : List Kind) → inits_nesting is + length ts ≤ length (spell_more_inits is ts)
  more_inits_grow NoInits ts = omega arith
  more_inits_grow (MoreInits i is) ts = omega (arith, init_grows i (spell_more_inits is ts), more_inits_grow is ts)

pub expr_grows : (e : Expr) (ts : List Kind) → length ts ≤ length (spell e ts)
expr_grows e ts = omega (arith, spell_grows e ts)

pub an_init_grows : (i : Init) (ts : List Kind) → length ts ≤ length (spell_init i ts)
an_init_grows i ts = omega (arith, init_grows i ts)

pub nesting_pos : (e : Expr) → 1 ≤ nesting e
nesting_pos (Assign o l r) = omega arith
nesting_pos (Load n e) = omega arith
nesting_pos (Binary o l r) = omega arith
nesting_pos (Unary o e) = omega arith
nesting_pos (Bytes e) = omega arith
nesting_pos (Filled n is comma) = omega arith
nesting_pos (Sized e t) = omega arith
nesting_pos (Channel n t) = omega arith
nesting_pos (Listed es) = omega arith
nesting_pos (Call f es) = omega arith
nesting_pos (Index e i) = omega arith
nesting_pos (Slice e i j) = omega arith
nesting_pos (Dot e n) = omega arith
nesting_pos (Arrow e n) = omega arith
nesting_pos (Postfix o e) = omega arith
nesting_pos (Number v wide) = omega arith
nesting_pos (Chars s) = omega arith
nesting_pos (Name n) = omega arith
nesting_pos Nil = omega arith
nesting_pos (Group es) = omega arith

-- ---- how they begin

pub spell_begins : (e : Expr) (ts : List Kind) → begins_expr (spell e ts) ≡ true
spell_begins (Assign o l r) ts = spell_begins l (assign_mark o ▸ spell r ts)
spell_begins (Load n e) ts = refl
spell_begins (Binary o l r) ts = spell_begins l (binary_mark o ▸ spell r ts)
spell_begins (Unary o e) ts = unary_begins o (spell e ts)
spell_begins (Bytes e) ts = refl
spell_begins (Filled n is comma) ts = refl
spell_begins (Sized e t) ts = refl
spell_begins (Channel n t) ts = refl
spell_begins (Listed es) ts = refl
spell_begins (Call f es) ts = spell_begins f (mark.OpenParen ▸ spell_exprs es (mark.CloseParen ▸ ts))
spell_begins (Index e i) ts = spell_begins e (mark.OpenBracket ▸ spell i (mark.CloseBracket ▸ ts))
spell_begins (Slice e i j) ts = spell_begins e (mark.OpenBracket ▸ spell_part i (mark.Colon ▸ spell_part j (mark.CloseBracket ▸ ts)))
spell_begins (Dot e n) ts = spell_begins e (mark.Dot ▸ kind.Name n ∷ ts)
spell_begins (Arrow e n) ts = spell_begins e (mark.Arrow ▸ kind.Name n ∷ ts)
spell_begins (Postfix o e) ts = spell_begins e (postfix_mark o ▸ ts)
spell_begins (Number v wide) ts = refl
spell_begins (Chars s) ts = refl
spell_begins (Name n) ts = refl
spell_begins Nil ts = refl
spell_begins (Group es) ts = refl

pub init_begins : (i : Init) (ts : List Kind) → begins_expr (spell_init i ts) ≡ true
init_begins (Next e) ts = spell_begins e ts
init_begins (At i e) ts = spell_begins i (mark.FatArrow ▸ spell e ts)
init_begins (Rest e) ts = refl

-- what begins an expression doesn't begin with a sign that begins none
pub not_begun : (m : Mark) (ts : List Kind) → ((us : List Kind) → begins_expr (m ▸ us) ≡ false) → begins_expr ts ≡ true → after_mark m ts ≡ None
not_begun m ts never begun = elim (tell (after_mark m ts)) [
  | inr e ↦ e
  | inl (us, e) ↦ let h = subst (λ (v : List Kind). begins_expr v ≡ true) (after_mark_is m ts us e) begun in let n = never us in absurd cc
]

pub not_begun_ty : (m : Mark) (ts : List Kind) → ((us : List Kind) → begins_ty (m ▸ us) ≡ false) → begins_ty ts ≡ true → after_mark m ts ≡ None
not_begun_ty m ts never begun = elim (tell (after_mark m ts)) [
  | inr e ↦ e
  | inl (us, e) ↦ let h = subst (λ (v : List Kind). begins_ty v ≡ true) (after_mark_is m ts us e) begun in let n = never us in absurd cc
]

-- no expression begins with "*" "=>"
deref_rest : (o : UnaryOp) (ts : List Kind) → begins_expr ts ≡ true → after_rest (unary_kind o ∷ ts) ≡ None
deref_rest unary_op.Deref ts h = not_begun mark.FatArrow ts (λ us. refl) h
deref_rest unary_op.Plus ts h = refl
deref_rest unary_op.Minus ts h = refl
deref_rest unary_op.Not ts h = refl
deref_rest unary_op.Complement ts h = refl
deref_rest unary_op.Increment ts h = refl
deref_rest unary_op.Decrement ts h = refl
deref_rest unary_op.Receive ts h = refl
deref_rest unary_op.Ref ts h = refl
deref_rest unary_op.Hd ts h = refl
deref_rest unary_op.Tl ts h = refl
deref_rest unary_op.Len ts h = refl
deref_rest unary_op.Tagof ts h = refl
deref_rest unary_op.Byte ts h = refl
deref_rest unary_op.Int ts h = refl
deref_rest unary_op.Big ts h = refl
deref_rest unary_op.String ts h = refl

pub no_rest : (e : Expr) (ts : List Kind) → after_rest (spell e ts) ≡ None
no_rest (Assign o l r) ts = no_rest l (assign_mark o ▸ spell r ts)
no_rest (Load n e) ts = refl
no_rest (Binary o l r) ts = no_rest l (binary_mark o ▸ spell r ts)
no_rest (Unary o e) ts = deref_rest o (spell e ts) (spell_begins e ts)
no_rest (Bytes e) ts = refl
no_rest (Filled n is comma) ts = refl
no_rest (Sized e t) ts = refl
no_rest (Channel n t) ts = refl
no_rest (Listed es) ts = refl
no_rest (Call f es) ts = no_rest f (mark.OpenParen ▸ spell_exprs es (mark.CloseParen ▸ ts))
no_rest (Index e i) ts = no_rest e (mark.OpenBracket ▸ spell i (mark.CloseBracket ▸ ts))
no_rest (Slice e i j) ts = no_rest e (mark.OpenBracket ▸ spell_part i (mark.Colon ▸ spell_part j (mark.CloseBracket ▸ ts)))
no_rest (Dot e n) ts = no_rest e (mark.Dot ▸ kind.Name n ∷ ts)
no_rest (Arrow e n) ts = no_rest e (mark.Arrow ▸ kind.Name n ∷ ts)
no_rest (Postfix o e) ts = no_rest e (postfix_mark o ▸ ts)
no_rest (Number v wide) ts = refl
no_rest (Chars s) ts = refl
no_rest (Name n) ts = refl
no_rest Nil ts = refl
no_rest (Group es) ts = refl

-- a tree of a level stands at each looser one
pub looser : (j k : ℕ) (e : Expr) → j ≤ k → IsAt j e → IsAt k e
looser j k (Assign o l r) le h = (omega (arith, h.0), h.1, h.2)
looser j k (Load n e) le h = (omega (arith, h.0), h.1)
looser j k (Binary o l r) le h = (omega (arith, h.0), h.1, h.2)
looser j k (Unary o e) le h = h
looser j k (Bytes e) le h = h
looser j k (Filled n is comma) le h = h
looser j k (Sized e t) le h = h
looser j k (Channel n t) le h = h
looser j k (Listed es) le h = h
looser j k (Call f es) le h = h
looser j k (Index e i) le h = h
looser j k (Slice e i j2) le h = h
looser j k (Dot e n) le h = h
looser j k (Arrow e n) le h = h
looser j k (Postfix o e) le h = h
looser j k (Number v wide) le h = h
looser j k (Chars s) le h = h
looser j k (Name n) le h = h
looser j k Nil le h = h
looser j k (Group es) le h = h

-- no tree of an operator's level begins with "load"
no_load : (e : Expr) (ts : List Kind) → IsAt 11 e → after_key key.Load (spell e ts) ≡ None
no_load (Assign o l r) ts h = absurd (omega (arith, h.0))
no_load (Load n e) ts h = absurd (omega (arith, h.0))
no_load (Binary o l r) ts h = no_load l (binary_mark o ▸ spell r ts) (looser (left_level o) 11 l (omega (arith, left_low o, level_high o)) h.1)
no_load (Unary o e) ts h = unary_no_load o (spell e ts)
no_load (Bytes e) ts h = refl
no_load (Filled n is comma) ts h = refl
no_load (Sized e t) ts h = refl
no_load (Channel n t) ts h = refl
no_load (Listed es) ts h = refl
no_load (Call f es) ts h = no_load f (mark.OpenParen ▸ spell_exprs es (mark.CloseParen ▸ ts)) (looser 0 11 f (omega arith) h.1)
no_load (Index e i) ts h = no_load e (mark.OpenBracket ▸ spell i (mark.CloseBracket ▸ ts)) (looser 0 11 e (omega arith) h.1)
no_load (Slice e i j) ts h = no_load e (mark.OpenBracket ▸ spell_part i (mark.Colon ▸ spell_part j (mark.CloseBracket ▸ ts))) (looser 0 11 e (omega arith) h.1)
no_load (Dot e n) ts h = no_load e (mark.Dot ▸ kind.Name n ∷ ts) (looser 0 11 e (omega arith) h.1)
no_load (Arrow e n) ts h = no_load e (mark.Arrow ▸ kind.Name n ∷ ts) (looser 0 11 e (omega arith) h.1)
no_load (Postfix o e) ts h = no_load e (postfix_mark o ▸ ts) (looser 0 11 e (omega arith) h.1)
no_load (Number v wide) ts h = refl
no_load (Chars s) ts h = refl
no_load (Name n) ts h = refl
no_load Nil ts h = refl
no_load (Group es) ts h = refl

either_none : (b : Bool) (o : Option (List Kind)) → o ≡ None → cond b None o ≡ None
either_none true o e = refl
either_none false o e = e

pub unloaded : (k : ℕ) (e : Expr) (ts : List Kind) → IsAt 11 e → after_load k (spell e ts) ≡ None
unloaded k e ts h = either_none _ _ (no_load e ts h)

-- the first token of a postfix
abbrev pub plain : List Kind → Bool
plain (kind.Number v wide ∷ ts) = true
plain (kind.Chars s ∷ ts) = true
plain (kind.Name n ∷ ts) = true
plain (kind.Key key.Nil ∷ ts) = true
plain (kind.Mark mark.OpenParen ∷ ts) = true
plain _ = false

pub plain_spell : (e : Expr) (ts : List Kind) → is_postfix e ≡ true → IsAt 0 e → plain (spell e ts) ≡ true
plain_spell (Call f es) ts p h = plain_spell f (mark.OpenParen ▸ spell_exprs es (mark.CloseParen ▸ ts)) h.0 h.1
plain_spell (Index e i) ts p h = plain_spell e (mark.OpenBracket ▸ spell i (mark.CloseBracket ▸ ts)) h.0 h.1
plain_spell (Slice e i j) ts p h = plain_spell e (mark.OpenBracket ▸ spell_part i (mark.Colon ▸ spell_part j (mark.CloseBracket ▸ ts))) h.0 h.1
plain_spell (Dot e n) ts p h = plain_spell e (mark.Dot ▸ kind.Name n ∷ ts) h.0 h.1
plain_spell (Arrow e n) ts p h = plain_spell e (mark.Arrow ▸ kind.Name n ∷ ts) h.0 h.1
plain_spell (Postfix o e) ts p h = plain_spell e (postfix_mark o ▸ ts) h.0 h.1
plain_spell (Number v wide) ts p h = refl
plain_spell (Chars s) ts p h = refl
plain_spell (Name n) ts p h = refl
plain_spell Nil ts p h = refl
plain_spell (Group es) ts p h = refl
plain_spell _ ts p h = absurd cc

pub plain_unary : (ts : List Kind) → plain ts ≡ true → front unary_of ts ≡ None
plain_unary (kind.Number v wide ∷ ts) p = refl
plain_unary (kind.Chars s ∷ ts) p = refl
plain_unary (kind.Name n ∷ ts) p = refl
plain_unary (kind.Key key.Nil ∷ ts) p = refl
plain_unary (kind.Mark mark.OpenParen ∷ ts) p = refl
plain_unary _ p = absurd cc

pub plain_array : (ts : List Kind) → plain ts ≡ true → after_key key.Array ts ≡ None
plain_array (kind.Number v wide ∷ ts) p = refl
plain_array (kind.Chars s ∷ ts) p = refl
plain_array (kind.Name n ∷ ts) p = refl
plain_array (kind.Key key.Nil ∷ ts) p = refl
plain_array (kind.Mark mark.OpenParen ∷ ts) p = refl
plain_array _ p = absurd cc

pub plain_list : (ts : List Kind) → plain ts ≡ true → after_key key.List ts ≡ None
plain_list (kind.Number v wide ∷ ts) p = refl
plain_list (kind.Chars s ∷ ts) p = refl
plain_list (kind.Name n ∷ ts) p = refl
plain_list (kind.Key key.Nil ∷ ts) p = refl
plain_list (kind.Mark mark.OpenParen ∷ ts) p = refl
plain_list _ p = absurd cc

pub plain_chan : (ts : List Kind) → plain ts ≡ true → after_key key.Chan ts ≡ None
plain_chan (kind.Number v wide ∷ ts) p = refl
plain_chan (kind.Chars s ∷ ts) p = refl
plain_chan (kind.Name n ∷ ts) p = refl
plain_chan (kind.Key key.Nil ∷ ts) p = refl
plain_chan (kind.Mark mark.OpenParen ∷ ts) p = refl
plain_chan _ p = absurd cc
