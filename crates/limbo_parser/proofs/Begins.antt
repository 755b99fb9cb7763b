-- How the spellings of expressions, declarations and statements begin, and what that tells a reader.
use Rattle.std.proofs.Common.{◌≡◌, ℕ, ◌≤◌, Bool, true, false, cond, List, [], ◌∷◌, Option, Some, None, refl, arith}
use Rattle.limbo_lexer.specs.declared.token.Kind.{Kind}
use Rattle.limbo_lexer.specs.declared.token.Kind.TheVariants as kind
use Rattle.limbo_lexer.specs.declared.token.Mark.TheVariants as mark
use Rattle.limbo_lexer.specs.declared.token.Key.TheVariants as key
use Rattle.limbo_tree.specs.declared.operators.AssignOp.{AssignOp}
use Rattle.limbo_tree.specs.declared.operators.AssignOp.TheVariants as assign
use Rattle.limbo_tree.specs.declared.operators.BinaryOp.{BinaryOp}
use Rattle.limbo_tree.specs.declared.operators.BinaryOp.TheVariants as binary
use Rattle.limbo_tree.specs.declared.operators.UnaryOp.{UnaryOp}
use Rattle.limbo_tree.specs.declared.operators.UnaryOp.TheVariants as unary
use Rattle.limbo_tree.specs.declared.operators.PostfixOp.{PostfixOp}
use Rattle.limbo_tree.specs.declared.operators.PostfixOp.TheVariants as postfix
use Rattle.limbo_tree.specs.Tokens.{◌▸◌, spell_names, is_some}
use Rattle.limbo_tree.specs.Types.{Ty, Byte, Int, Big, String, ArrayOf, ListOf, ChanOf, RefTo, Named, Tuple, spell_ty}
use Rattle.limbo_tree.specs.Exprs.{Expr, Assign, Load, Binary, Unary, Bytes, Filled, Sized, Channel, Listed, Call, Index, Slice, Dot, Arrow, Postfix, Number, Chars, Name, Nil, Group, assign_mark, binary_mark, unary_kind, postfix_mark, level, left_level, spell, nesting, IsAt}
use Rattle.limbo_tree.specs.Decls.{Decl, Con, TypeName, Var, Define, Import, Exception, Module, Adt, spell_decl, IsDecl}
use Rattle.limbo_tree.specs.Stmts.{is_name, is_declaration}
use Rattle.limbo_reading.specs.Reading.{choose, after_mark, after_key}
use Rattle.limbo_stmt_parts.specs.Start.{AtDeclare, AtOther, AtLabelled, start, may_head, at_branch, at_label, declares}
use Rattle.limbo_stmt_parts.specs.Heads.{arrow_or, star_alone}
use Rattle.limbo_expr_parts.specs.Strength.{begins_expr}
use Rattle.limbo_expr_parser.proofs.Laws.{spell_begins}

pub nesting_pos : (e : Expr) → 1 ≤ nesting e
nesting_pos (Assign o l r) = omega arith
nesting_pos (Load n e) = omega arith
nesting_pos (Binary o l r) = omega arith
nesting_pos (Unary o e) = omega arith
nesting_pos (Bytes e) = omega arith
nesting_pos (Filled n is comma) = omega arith
nesting_pos (Sized e t) = omega arith
nesting_pos (Channel n t) = omega arith
nesting_pos (Listed es) = omega arith
nesting_pos (Call f es) = omega arith
nesting_pos (Index e i) = omega arith
nesting_pos (Slice e i j) = omega arith
nesting_pos (Dot e n) = omega arith
nesting_pos (Arrow e n) = omega arith
nesting_pos (Postfix o e) = omega arith
nesting_pos (Number v wide) = omega arith
nesting_pos (Chars s) = omega arith
nesting_pos (Name n) = omega arith
nesting_pos Nil = omega arith
nesting_pos (Group es) = omega arith

-- ---- what begins an expression

-- What begins an expression may be a head, and closes nothing.
pub record Opens (ts : List Kind) : Type 0 where
  pub heads : may_head (start ts) ≡ true
  pub no_else : after_key key.Else ts ≡ None
  pub no_exception : after_key key.Exception ts ≡ None
  pub no_arrow : arrow_or ts ≡ false
  pub no_semicolon : after_mark mark.Semicolon ts ≡ None
  pub no_paren : after_mark mark.CloseParen ts ≡ None
  pub no_brace : after_mark mark.CloseBrace ts ≡ None

name_heads : (o : Option (_ × List Kind)) (d : Bool) → may_head (choose o (cond d AtDeclare AtOther) λ x. AtLabelled x.0 x.1) ≡ true
name_heads (Some x) d = refl
name_heads None true = refl
name_heads None false = refl

pub opens : (ts : List Kind) → begins_expr ts ≡ true → Opens ts
opens [] h = absurd cc
opens (kind.Name n ∷ ts) h = record { heads = name_heads (at_label ts) (declares ts); no_else = refl; no_exception = refl; no_arrow = refl; no_semicolon = refl; no_paren = refl; no_brace = refl }
opens (kind.Number v wide ∷ ts) h = record { heads = refl; no_else = refl; no_exception = refl; no_arrow = refl; no_semicolon = refl; no_paren = refl; no_brace = refl }
opens (kind.Chars s ∷ ts) h = record { heads = refl; no_else = refl; no_exception = refl; no_arrow = refl; no_semicolon = refl; no_paren = refl; no_brace = refl }
opens (kind.Key key.Nil ∷ ts) h = record { heads = refl; no_else = refl; no_exception = refl; no_arrow = refl; no_semicolon = refl; no_paren = refl; no_brace = refl }
opens (kind.Key key.Load ∷ ts) h = record { heads = refl; no_else = refl; no_exception = refl; no_arrow = refl; no_semicolon = refl; no_paren = refl; no_brace = refl }
opens (kind.Key key.Array ∷ ts) h = record { heads = refl; no_else = refl; no_exception = refl; no_arrow = refl; no_semicolon = refl; no_paren = refl; no_brace = refl }
opens (kind.Key key.Chan ∷ ts) h = record { heads = refl; no_else = refl; no_exception = refl; no_arrow = refl; no_semicolon = refl; no_paren = refl; no_brace = refl }
opens (kind.Key key.List ∷ ts) h = record { heads = refl; no_else = refl; no_exception = refl; no_arrow = refl; no_semicolon = refl; no_paren = refl; no_brace = refl }
opens (kind.Key key.Ref ∷ ts) h = record { heads = refl; no_else = refl; no_exception = refl; no_arrow = refl; no_semicolon = refl; no_paren = refl; no_brace = refl }
opens (kind.Key key.Hd ∷ ts) h = record { heads = refl; no_else = refl; no_exception = refl; no_arrow = refl; no_semicolon = refl; no_paren = refl; no_brace = refl }
opens (kind.Key key.Tl ∷ ts) h = record { heads = refl; no_else = refl; no_exception = refl; no_arrow = refl; no_semicolon = refl; no_paren = refl; no_brace = refl }
opens (kind.Key key.Len ∷ ts) h = record { heads = refl; no_else = refl; no_exception = refl; no_arrow = refl; no_semicolon = refl; no_paren = refl; no_brace = refl }
opens (kind.Key key.Tagof ∷ ts) h = record { heads = refl; no_else = refl; no_exception = refl; no_arrow = refl; no_semicolon = refl; no_paren = refl; no_brace = refl }
opens (kind.Key key.Byte ∷ ts) h = record { heads = refl; no_else = refl; no_exception = refl; no_arrow = refl; no_semicolon = refl; no_paren = refl; no_brace = refl }
opens (kind.Key key.Int ∷ ts) h = record { heads = refl; no_else = refl; no_exception = refl; no_arrow = refl; no_semicolon = refl; no_paren = refl; no_brace = refl }
opens (kind.Key key.Big ∷ ts) h = record { heads = refl; no_else = refl; no_exception = refl; no_arrow = refl; no_semicolon = refl; no_paren = refl; no_brace = refl }
opens (kind.Key key.String ∷ ts) h = record { heads = refl; no_else = refl; no_exception = refl; no_arrow = refl; no_semicolon = refl; no_paren = refl; no_brace = refl }
opens (kind.Key _ ∷ ts) h = absurd cc
opens (kind.Mark mark.OpenParen ∷ ts) h = record { heads = refl; no_else = refl; no_exception = refl; no_arrow = refl; no_semicolon = refl; no_paren = refl; no_brace = refl }
opens (kind.Mark mark.Plus ∷ ts) h = record { heads = refl; no_else = refl; no_exception = refl; no_arrow = refl; no_semicolon = refl; no_paren = refl; no_brace = refl }
opens (kind.Mark mark.Minus ∷ ts) h = record { heads = refl; no_else = refl; no_exception = refl; no_arrow = refl; no_semicolon = refl; no_paren = refl; no_brace = refl }
opens (kind.Mark mark.Bang ∷ ts) h = record { heads = refl; no_else = refl; no_exception = refl; no_arrow = refl; no_semicolon = refl; no_paren = refl; no_brace = refl }
opens (kind.Mark mark.Tilde ∷ ts) h = record { heads = refl; no_else = refl; no_exception = refl; no_arrow = refl; no_semicolon = refl; no_paren = refl; no_brace = refl }
opens (kind.Mark mark.Increment ∷ ts) h = record { heads = refl; no_else = refl; no_exception = refl; no_arrow = refl; no_semicolon = refl; no_paren = refl; no_brace = refl }
opens (kind.Mark mark.Decrement ∷ ts) h = record { heads = refl; no_else = refl; no_exception = refl; no_arrow = refl; no_semicolon = refl; no_paren = refl; no_brace = refl }
opens (kind.Mark mark.Receive ∷ ts) h = record { heads = refl; no_else = refl; no_exception = refl; no_arrow = refl; no_semicolon = refl; no_paren = refl; no_brace = refl }
opens (kind.Mark mark.Star ∷ ts) h = record { heads = refl; no_else = refl; no_exception = refl; no_arrow = refl; no_semicolon = refl; no_paren = refl; no_brace = refl }
opens (kind.Mark _ ∷ ts) h = absurd cc
opens (kind.End ∷ ts) h = absurd cc

pub expr_opens : (e : Expr) (ts : List Kind) → Opens (spell e ts)
expr_opens e ts = opens (spell e ts) (spell_begins e ts)

-- ---- a name, a string or `*` and then what ends a pattern

abbrev pub lone : List Kind → Bool
lone (kind.Name n ∷ ts) = arrow_or ts
lone (kind.Chars s ∷ ts) = arrow_or ts
lone (kind.Mark mark.Star ∷ ts) = arrow_or ts
lone _ = false

assign_goes_on : (o : AssignOp) (ts : List Kind) → arrow_or (assign_mark o ▸ ts) ≡ false
assign_goes_on assign.Assign ts = refl
assign_goes_on assign.Define ts = refl
assign_goes_on assign.Send ts = refl
assign_goes_on assign.Add ts = refl
assign_goes_on assign.Sub ts = refl
assign_goes_on assign.Mul ts = refl
assign_goes_on assign.Div ts = refl
assign_goes_on assign.Rem ts = refl
assign_goes_on assign.And ts = refl
assign_goes_on assign.Or ts = refl
assign_goes_on assign.Xor ts = refl
assign_goes_on assign.Shl ts = refl
assign_goes_on assign.Shr ts = refl

binary_goes_on : (o : BinaryOp) (ts : List Kind) → arrow_or (binary_mark o ▸ ts) ≡ false
binary_goes_on binary.OrOr ts = refl
binary_goes_on binary.AndAnd ts = refl
binary_goes_on binary.Cons ts = refl
binary_goes_on binary.Or ts = refl
binary_goes_on binary.Xor ts = refl
binary_goes_on binary.And ts = refl
binary_goes_on binary.Equal ts = refl
binary_goes_on binary.NotEqual ts = refl
binary_goes_on binary.Less ts = refl
binary_goes_on binary.LessEqual ts = refl
binary_goes_on binary.Greater ts = refl
binary_goes_on binary.GreaterEqual ts = refl
binary_goes_on binary.Shl ts = refl
binary_goes_on binary.Shr ts = refl
binary_goes_on binary.Add ts = refl
binary_goes_on binary.Sub ts = refl
binary_goes_on binary.Mul ts = refl
binary_goes_on binary.Div ts = refl
binary_goes_on binary.Rem ts = refl

postfix_goes_on : (o : PostfixOp) (ts : List Kind) → arrow_or (postfix_mark o ▸ ts) ≡ false
postfix_goes_on postfix.Increment ts = refl
postfix_goes_on postfix.Decrement ts = refl

unary_not_lone : (o : UnaryOp) (ts : List Kind) → arrow_or ts ≡ false → lone (unary_kind o ∷ ts) ≡ false
unary_not_lone unary.Deref ts h = h
unary_not_lone _ ts h = refl

-- an expression is no such pattern, unless it is one token before what ends a pattern
pub expr_not_lone : (e : Expr) (ts : List Kind) → arrow_or ts ≡ false → lone (spell e ts) ≡ false
expr_not_lone (Assign o l r) ts h = expr_not_lone l _ (assign_goes_on o _)
expr_not_lone (Load n e) ts h = refl
expr_not_lone (Binary o l r) ts h = expr_not_lone l _ (binary_goes_on o _)
expr_not_lone (Unary o e) ts h = unary_not_lone o _ (expr_opens e ts).no_arrow
expr_not_lone (Bytes e) ts h = refl
expr_not_lone (Filled n is comma) ts h = refl
expr_not_lone (Sized e t) ts h = refl
expr_not_lone (Channel n t) ts h = refl
expr_not_lone (Listed es) ts h = refl
expr_not_lone (Call f es) ts h = expr_not_lone f _ refl
expr_not_lone (Index e i) ts h = expr_not_lone e _ refl
expr_not_lone (Slice e i j) ts h = expr_not_lone e _ refl
expr_not_lone (Dot e n) ts h = expr_not_lone e _ refl
expr_not_lone (Arrow e n) ts h = expr_not_lone e _ refl
expr_not_lone (Postfix o e) ts h = expr_not_lone e _ (postfix_goes_on o _)
expr_not_lone (Number v wide) ts h = refl
expr_not_lone (Chars s) ts h = h
expr_not_lone (Name n) ts h = h
expr_not_lone Nil ts h = refl
expr_not_lone (Group es) ts h = refl

unary_not_star : (o : UnaryOp) (ts : List Kind) → arrow_or ts ≡ false → star_alone (unary_kind o ∷ ts) ≡ None
unary_not_star unary.Deref ts h = rw h refl
unary_not_star _ ts h = refl

-- a `*` that begins an expression isn't alone
pub expr_not_star : (e : Expr) (ts : List Kind) → star_alone (spell e ts) ≡ None
expr_not_star (Assign o l r) ts = expr_not_star l _
expr_not_star (Load n e) ts = refl
expr_not_star (Binary o l r) ts = expr_not_star l _
expr_not_star (Unary o e) ts = unary_not_star o _ (expr_opens e ts).no_arrow
expr_not_star (Bytes e) ts = refl
expr_not_star (Filled n is comma) ts = refl
expr_not_star (Sized e t) ts = refl
expr_not_star (Channel n t) ts = refl
expr_not_star (Listed es) ts = refl
expr_not_star (Call f es) ts = expr_not_star f _
expr_not_star (Index e i) ts = expr_not_star e _
expr_not_star (Slice e i j) ts = expr_not_star e _
expr_not_star (Dot e n) ts = expr_not_star e _
expr_not_star (Arrow e n) ts = expr_not_star e _
expr_not_star (Postfix o e) ts = expr_not_star e _
expr_not_star (Number v wide) ts = refl
expr_not_star (Chars s) ts = refl
expr_not_star (Name n) ts = refl
expr_not_star Nil ts = refl
expr_not_star (Group es) ts = refl

-- ---- an expression that begins no other statement

-- behind a name: it is neither a label nor declared
abbrev pub Plain : List Kind → Type 0
Plain ts = (at_label ts ≡ None) × (declares ts ≡ false)

binary_plain : (o : BinaryOp) (ts : List Kind) → Plain (binary_mark o ▸ ts)
binary_plain binary.OrOr ts = (refl, refl)
binary_plain binary.AndAnd ts = (refl, refl)
binary_plain binary.Cons ts = (refl, refl)
binary_plain binary.Or ts = (refl, refl)
binary_plain binary.Xor ts = (refl, refl)
binary_plain binary.And ts = (refl, refl)
binary_plain binary.Equal ts = (refl, refl)
binary_plain binary.NotEqual ts = (refl, refl)
binary_plain binary.Less ts = (refl, refl)
binary_plain binary.LessEqual ts = (refl, refl)
binary_plain binary.Greater ts = (refl, refl)
binary_plain binary.GreaterEqual ts = (refl, refl)
binary_plain binary.Shl ts = (refl, refl)
binary_plain binary.Shr ts = (refl, refl)
binary_plain binary.Add ts = (refl, refl)
binary_plain binary.Sub ts = (refl, refl)
binary_plain binary.Mul ts = (refl, refl)
binary_plain binary.Div ts = (refl, refl)
binary_plain binary.Rem ts = (refl, refl)

postfix_plain : (o : PostfixOp) (ts : List Kind) → Plain (postfix_mark o ▸ ts)
postfix_plain postfix.Increment ts = (refl, refl)
postfix_plain postfix.Decrement ts = (refl, refl)

not_both : {A : Type 0} (t : Bool) → t ≡ false → t ≡ true → A
not_both t a b = absurd cc

assign_plain : (o : AssignOp) (l : Expr) (ts : List Kind) → is_declaration (Assign o l l) ≡ false → is_name l ≡ true → Plain (assign_mark o ▸ ts)
assign_plain assign.Define l ts d n = not_both (is_name l) d n
assign_plain assign.Assign l ts d n = (refl, refl)
assign_plain assign.Send l ts d n = (refl, refl)
assign_plain assign.Add l ts d n = (refl, refl)
assign_plain assign.Sub l ts d n = (refl, refl)
assign_plain assign.Mul l ts d n = (refl, refl)
assign_plain assign.Div l ts d n = (refl, refl)
assign_plain assign.Rem l ts d n = (refl, refl)
assign_plain assign.And l ts d n = (refl, refl)
assign_plain assign.Or l ts d n = (refl, refl)
assign_plain assign.Xor l ts d n = (refl, refl)
assign_plain assign.Shl l ts d n = (refl, refl)
assign_plain assign.Shr l ts d n = (refl, refl)

unary_starts : (o : UnaryOp) (ts : List Kind) → start (unary_kind o ∷ ts) ≡ AtOther
unary_starts unary.Deref ts = refl
unary_starts _ ts = refl

left_below : (o : BinaryOp) → left_level o ≤ 12
left_below binary.OrOr = omega arith
left_below binary.AndAnd = omega arith
left_below binary.Cons = omega arith
left_below binary.Or = omega arith
left_below binary.Xor = omega arith
left_below binary.And = omega arith
left_below binary.Equal = omega arith
left_below binary.NotEqual = omega arith
left_below binary.Less = omega arith
left_below binary.LessEqual = omega arith
left_below binary.Greater = omega arith
left_below binary.GreaterEqual = omega arith
left_below binary.Shl = omega arith
left_below binary.Shr = omega arith
left_below binary.Add = omega arith
left_below binary.Sub = omega arith
left_below binary.Mul = omega arith
left_below binary.Div = omega arith
left_below binary.Rem = omega arith

level_below : (o : BinaryOp) → level o ≤ 12
level_below binary.OrOr = omega arith
level_below binary.AndAnd = omega arith
level_below binary.Cons = omega arith
level_below binary.Or = omega arith
level_below binary.Xor = omega arith
level_below binary.And = omega arith
level_below binary.Equal = omega arith
level_below binary.NotEqual = omega arith
level_below binary.Less = omega arith
level_below binary.LessEqual = omega arith
level_below binary.Greater = omega arith
level_below binary.GreaterEqual = omega arith
level_below binary.Shl = omega arith
level_below binary.Shr = omega arith
level_below binary.Add = omega arith
level_below binary.Sub = omega arith
level_below binary.Mul = omega arith
level_below binary.Div = omega arith
level_below binary.Rem = omega arith

plain_starts : (k : ℕ) (e : Expr) (ts : List Kind) → k ≤ 12 → IsAt k e → (is_name e ≡ true → Plain ts) → start (spell e ts) ≡ AtOther
plain_starts k (Assign o l r) ts le h d = absurd (omega (arith, h.0))
plain_starts k (Load n e) ts le h d = refl
plain_starts k (Binary o l r) ts le h d = plain_starts (left_level o) l _ (left_below o) h.1 (λ n. binary_plain o _)
plain_starts k (Unary o e) ts le h d = unary_starts o _
plain_starts k (Bytes e) ts le h d = refl
plain_starts k (Filled n is comma) ts le h d = refl
plain_starts k (Sized e t) ts le h d = refl
plain_starts k (Channel n t) ts le h d = refl
plain_starts k (Listed es) ts le h d = refl
plain_starts k (Call f es) ts le h d = plain_starts 0 f _ (omega arith) h.1 (λ n. (refl, refl))
plain_starts k (Index e i) ts le h d = plain_starts 0 e _ (omega arith) h.1 (λ n. (refl, refl))
plain_starts k (Slice e i j) ts le h d = plain_starts 0 e _ (omega arith) h.1 (λ n. (refl, refl))
plain_starts k (Dot e n) ts le h d = plain_starts 0 e _ (omega arith) h.1 (λ n. (refl, refl))
plain_starts k (Arrow e n) ts le h d = plain_starts 0 e _ (omega arith) h.1 (λ n. (refl, refl))
plain_starts k (Postfix o e) ts le h d = plain_starts 0 e _ (omega arith) h.1 (λ n. postfix_plain o _)
plain_starts k (Number v wide) ts le h d = refl
plain_starts k (Chars s) ts le h d = refl
plain_starts k (Name n) ts le h d = rw ((d refl).0, (d refl).1) refl
plain_starts k Nil ts le h d = refl
plain_starts k (Group es) ts le h d = refl

-- an expression that is a statement begins no other one
pub eval_starts : (e : Expr) (ts : List Kind) → IsAt 13 e → is_declaration e ≡ false → start (spell e (mark.Semicolon ▸ ts)) ≡ AtOther
eval_starts (Assign o l r) ts h d = plain_starts 0 l _ (omega arith) h.1 (λ n. assign_plain o l _ d n)
eval_starts (Load n e) ts h d = refl
eval_starts (Binary o l r) ts h d = plain_starts 12 (Binary o l r) _ (omega arith) (level_below o, h.1, h.2) (λ n. (refl, refl))
eval_starts e ts h d = plain_starts 12 e (mark.Semicolon ▸ ts) (omega arith) h (λ n. (refl, refl))

-- ---- declarations

pub type_no_branch : (t : Ty) (ts : List Kind) → at_branch (spell_ty t ts) ≡ None
type_no_branch Byte ts = refl
type_no_branch Int ts = refl
type_no_branch Big ts = refl
type_no_branch String ts = refl
type_no_branch (ArrayOf t) ts = refl
type_no_branch (ListOf t) ts = refl
type_no_branch (ChanOf t) ts = refl
type_no_branch (RefTo q) ts = refl
type_no_branch (Named q) ts = refl
type_no_branch (Tuple tys) ts = refl

typed_starts : (ns : List (List ℕ)) (ts : List Kind) → is_some ns ≡ true → at_branch ts ≡ None → start (spell_names ns (mark.Colon ▸ ts)) ≡ AtDeclare
typed_starts [] ts h e = absurd cc
typed_starts (n ∷ []) ts h e = rw e refl
typed_starts (n ∷ m ∷ ns) ts h e = refl

defined_starts : (ns : List (List ℕ)) (ts : List Kind) → is_some ns ≡ true → start (spell_names ns (mark.Define ▸ ts)) ≡ AtDeclare
defined_starts [] ts h = absurd cc
defined_starts (n ∷ []) ts h = refl
defined_starts (n ∷ m ∷ ns) ts h = refl

pub decl_starts : (d : Decl) (ts : List Kind) → IsDecl d → start (spell_decl d ts) ≡ AtDeclare
decl_starts (Con ns e) ts h = typed_starts ns _ h.0 refl
decl_starts (TypeName ns t) ts h = typed_starts ns _ h.0 refl
decl_starts (Var ns t v) ts h = typed_starts ns _ h.0 (type_no_branch t _)
decl_starts (Define ns e) ts h = defined_starts ns _ h.0
decl_starts (Import ns m) ts h = typed_starts ns _ h refl
decl_starts (Exception ns tys) ts h = typed_starts ns _ h.0 refl
decl_starts (Module n ms) ts h = refl
decl_starts (Adt n ms pick) ts h = refl

names_begin : (ns : List (List ℕ)) (ts : List Kind) → is_some ns ≡ true → begins_expr (spell_names ns ts) ≡ true
names_begin [] ts h = absurd cc
names_begin (n ∷ ns) ts h = refl

pub decl_begins : (d : Decl) (ts : List Kind) → IsDecl d → begins_expr (spell_decl d ts) ≡ true
decl_begins (Con ns e) ts h = names_begin ns _ h.0
decl_begins (TypeName ns t) ts h = names_begin ns _ h.0
decl_begins (Var ns t v) ts h = names_begin ns _ h.0
decl_begins (Define ns e) ts h = names_begin ns _ h.0
decl_begins (Import ns m) ts h = names_begin ns _ h
decl_begins (Exception ns tys) ts h = names_begin ns _ h.0
decl_begins (Module n ms) ts h = refl
decl_begins (Adt n ms pick) ts h = refl
