-- Which form of the code an expression has, told by its view, and what is absent where it has another.
use Rattle.std.proofs.Common.{◌≡◌, ℕ, ℤ, List, [], ◌∷◌, map, length, get_or, Bool, None, Some, Vec, Box, Global, refl, sym, ap, ◌∙◌, subst, arith}
use Rattle.limbo_lexer.specs.inf_text.declared.span.Span.{Span}
use Rattle.limbo_lexer.specs.inf_text.declared.text.Text.{Text}
use Rattle.limbo_tree.specs.declared.name.Name as code_name
use Rattle.limbo_tree.specs.declared.operators.AssignOp.{AssignOp}
use Rattle.limbo_tree.specs.declared.operators.AssignOp.TheVariants as assign
use Rattle.limbo_tree.specs.declared.operators.BinaryOp.{BinaryOp}
use Rattle.limbo_tree.specs.declared.operators.UnaryOp.{UnaryOp}
use Rattle.limbo_tree.specs.declared.operators.UnaryOp.TheVariants as unary
use Rattle.limbo_tree.specs.declared.expr.Expr as code_expr
use Rattle.limbo_tree.specs.declared.expr.Expr.{Expr-F, out-Expr, roll-Expr, roll-out-Expr, fold-roll-Expr}
use Rattle.limbo_tree.specs.declared.expr.Expr.TheVariants as make
use Rattle.limbo_tree.specs.declared.expr.Init as code_init
use Rattle.limbo_tree.specs.Exprs as tree
use Rattle.limbo_tree.specs.View.{exprs_of, expr_step, init_step, view_expr, view_init}
use Rattle.limbo_tree.specs.Parts as parts
use Rattle.limbo_tree.proofs.Exprs.{view_expr-Assign, view_expr-Binary, view_expr-Unary, view_expr-Call, view_expr-Index, view_expr-Dot}
use Rattle.limbo_tree.proofs.Exprs.{view_expr-Arrow, view_expr-Number, view_expr-Chars, view_expr-Name, view_expr-Group}

abbrev pub Boxed : Type 0
Boxed = Box code_expr.Expr Global

-- an expression of the code has the form that this tree has, if it is one of those whose parts are asked for
abbrev pub HasForm : code_expr.Expr → tree.Expr → Type 0
HasForm e (tree.Assign o l r) = (p : AssignOp) × (a : Boxed) × (b : Boxed) × (s : Span) × (e ≡ make.Assign p a b s)
HasForm e (tree.Binary o l r) = (p : BinaryOp) × (a : Boxed) × (b : Boxed) × (s : Span) × (e ≡ make.Binary p a b s)
HasForm e (tree.Unary o x) = (p : UnaryOp) × (a : Boxed) × (s : Span) × (e ≡ make.Unary p a s)
HasForm e (tree.Call f xs) = (a : Boxed) × (bs : Vec code_expr.Expr Global) × (s : Span) × (e ≡ make.Call a bs s)
HasForm e (tree.Index x i) = (a : Boxed) × (b : Boxed) × (s : Span) × (e ≡ make.Index a b s)
HasForm e (tree.Dot x n) = (a : Boxed) × (m : code_name.Name) × (s : Span) × (e ≡ make.Dot a m s)
HasForm e (tree.Arrow x n) = (a : Boxed) × (m : code_name.Name) × (s : Span) × (e ≡ make.Arrow a m s)
HasForm e (tree.Number v wide) = (w : ℤ) × (b : Bool) × (s : Span) × (e ≡ make.Number w b s)
HasForm e (tree.Chars t) = (u : Text) × (s : Span) × (e ≡ make.Chars u s)
HasForm e (tree.Name n) = (m : Text) × (s : Span) × (e ≡ make.Name m s)
HasForm e (tree.Group xs) = (bs : Vec code_expr.Expr Global) × (s : Span) × (e ≡ make.Group bs s)
HasForm e _ = Unit {0}

pub has_form : (e : code_expr.Expr) → HasForm e (view_expr e)
unfolding view_expr view_init
has_form e = go (out-Expr e) (sym (roll-out-Expr e))
  where
    is : (x : code_expr.Expr) (t : tree.Expr) → e ≡ x → view_expr x ≡ t → HasForm e t → HasForm e (view_expr e)
    is x t at f h = subst (λ z. HasForm e z) (sym (ap view_expr at ∙ f)) h

    go : (y : Expr-F code_expr.Expr code_init.Init) → e ≡ roll-Expr y → HasForm e (view_expr e)
    go (Expr-F.Assign o l r s) at =
        let p : e ≡ make.Assign o l r s = at ∙ make.rolls-Assign o l r s in
        is _ _ p (view_expr-Assign o l r s) (o, l, r, s, p)
    go (Expr-F.Binary o l r s) at =
        let p : e ≡ make.Binary o l r s = at ∙ make.rolls-Binary o l r s in
        is _ _ p (view_expr-Binary o l r s) (o, l, r, s, p)
    go (Expr-F.Unary o x s) at =
        let p : e ≡ make.Unary o x s = at ∙ make.rolls-Unary o x s in
        is _ _ p (view_expr-Unary o x s) (o, x, s, p)
    go (Expr-F.Call f xs s) at =
        let p : e ≡ make.Call f xs s = at ∙ make.rolls-Call f xs s in
        is _ _ p (view_expr-Call f xs s) (f, xs, s, p)
    go (Expr-F.Index x i s) at =
        let p : e ≡ make.Index x i s = at ∙ make.rolls-Index x i s in
        is _ _ p (view_expr-Index x i s) (x, i, s, p)
    go (Expr-F.Dot x n s) at =
        let p : e ≡ make.Dot x n s = at ∙ make.rolls-Dot x n s in
        is _ _ p (view_expr-Dot x n s) (x, n, s, p)
    go (Expr-F.Arrow x n s) at =
        let p : e ≡ make.Arrow x n s = at ∙ make.rolls-Arrow x n s in
        is _ _ p (view_expr-Arrow x n s) (x, n, s, p)
    go (Expr-F.Number v wide s) at =
        let p : e ≡ make.Number v wide s = at ∙ make.rolls-Number v wide s in
        is _ _ p (view_expr-Number v wide s) (v, wide, s, p)
    go (Expr-F.Chars t s) at =
        let p : e ≡ make.Chars t s = at ∙ make.rolls-Chars t s in
        is _ _ p (view_expr-Chars t s) (t, s, p)
    go (Expr-F.Name n s) at =
        let p : e ≡ make.Name n s = at ∙ make.rolls-Name n s in
        is _ _ p (view_expr-Name n s) (n, s, p)
    go (Expr-F.Group xs s) at =
        let p : e ≡ make.Group xs s = at ∙ make.rolls-Group xs s in
        is _ _ p (view_expr-Group xs s) (xs, s, p)
    go y at = is _ _ at (fold-roll-Expr tree.Expr tree.Init expr_step init_step y) tt

pub no_name :
    (e : code_expr.Expr) → ((n : Text) (s : Span) → e ≡ make.Name n s → ⊥)
    → None ≡ parts.name_in (view_expr e)
no_name e never = go (view_expr e) (has_form e)
  where
    go : (t : tree.Expr) → HasForm e t → None ≡ parts.name_in t
    go (tree.Name n) h = absurd (never h.0 h.1 h.2)
    go _ h = refl

pub no_chars :
    (e : code_expr.Expr) → ((t : Text) (s : Span) → e ≡ make.Chars t s → ⊥)
    → None ≡ parts.chars_in (view_expr e)
no_chars e never = go (view_expr e) (has_form e)
  where
    go : (t : tree.Expr) → HasForm e t → None ≡ parts.chars_in t
    go (tree.Chars t) h = absurd (never h.0 h.1 h.2)
    go _ h = refl

pub no_number :
    (e : code_expr.Expr) → ((v : ℤ) (wide : Bool) (s : Span) → e ≡ make.Number v wide s → ⊥)
    → None ≡ parts.number_in (view_expr e)
no_number e never = go (view_expr e) (has_form e)
  where
    go : (t : tree.Expr) → HasForm e t → None ≡ parts.number_in t
    go (tree.Number v wide) h = absurd (never h.0 h.1 h.2 h.3)
    go _ h = refl

pub no_call :
    (e : code_expr.Expr) → ((f : Boxed) (xs : Vec code_expr.Expr Global) (s : Span) → e ≡ make.Call f xs s → ⊥)
    → None ≡ parts.call_in (view_expr e)
no_call e never = go (view_expr e) (has_form e)
  where
    go : (t : tree.Expr) → HasForm e t → None ≡ parts.call_in t
    go (tree.Call f xs) h = absurd (never h.0 h.1 h.2 h.3)
    go _ h = refl

pub no_dot :
    (e : code_expr.Expr) → ((x : Boxed) (n : code_name.Name) (s : Span) → e ≡ make.Dot x n s → ⊥)
    → None ≡ parts.dot_in (view_expr e)
no_dot e never = go (view_expr e) (has_form e)
  where
    go : (t : tree.Expr) → HasForm e t → None ≡ parts.dot_in t
    go (tree.Dot x n) h = absurd (never h.0 h.1 h.2 h.3)
    go _ h = refl

pub no_arrow :
    (e : code_expr.Expr) → ((x : Boxed) (n : code_name.Name) (s : Span) → e ≡ make.Arrow x n s → ⊥)
    → None ≡ parts.arrow_in (view_expr e)
no_arrow e never = go (view_expr e) (has_form e)
  where
    go : (t : tree.Expr) → HasForm e t → None ≡ parts.arrow_in t
    go (tree.Arrow x n) h = absurd (never h.0 h.1 h.2 h.3)
    go _ h = refl

pub no_member :
    (e : code_expr.Expr) → ((x : Boxed) (n : code_name.Name) (s : Span) → e ≡ make.Arrow x n s → ⊥)
    → None ≡ parts.member_in (view_expr e)
no_member e never = go (view_expr e) (has_form e)
  where
    go : (t : tree.Expr) → HasForm e t → None ≡ parts.member_in t
    go (tree.Arrow x n) h = absurd (never h.0 h.1 h.2 h.3)
    go _ h = refl

pub no_index :
    (e : code_expr.Expr) → ((x i : Boxed) (s : Span) → e ≡ make.Index x i s → ⊥)
    → None ≡ parts.index_in (view_expr e)
no_index e never = go (view_expr e) (has_form e)
  where
    go : (t : tree.Expr) → HasForm e t → None ≡ parts.index_in t
    go (tree.Index x i) h = absurd (never h.0 h.1 h.2 h.3)
    go _ h = refl

pub no_unary :
    (e : code_expr.Expr) → ((o : UnaryOp) (x : Boxed) (s : Span) → e ≡ make.Unary o x s → ⊥)
    → None ≡ parts.unary_in (view_expr e)
no_unary e never = go (view_expr e) (has_form e)
  where
    go : (t : tree.Expr) → HasForm e t → None ≡ parts.unary_in t
    go (tree.Unary o x) h = absurd (never h.0 h.1 h.2 h.3)
    go _ h = refl

pub no_binary :
    (e : code_expr.Expr) → ((o : BinaryOp) (l r : Boxed) (s : Span) → e ≡ make.Binary o l r s → ⊥)
    → None ≡ parts.binary_in (view_expr e)
no_binary e never = go (view_expr e) (has_form e)
  where
    go : (t : tree.Expr) → HasForm e t → None ≡ parts.binary_in t
    go (tree.Binary o l r) h = absurd (never h.0 h.1 h.2 h.3 h.4)
    go _ h = refl

pub no_assign :
    (e : code_expr.Expr) → ((o : AssignOp) (l r : Boxed) (s : Span) → e ≡ make.Assign o l r s → ⊥)
    → None ≡ parts.assign_in (view_expr e)
no_assign e never = go (view_expr e) (has_form e)
  where
    go : (t : tree.Expr) → HasForm e t → None ≡ parts.assign_in t
    go (tree.Assign o l r) h = absurd (never h.0 h.1 h.2 h.3 h.4)
    go _ h = refl

pub no_group :
    (e : code_expr.Expr) → ((xs : Vec code_expr.Expr Global) (s : Span) → e ≡ make.Group xs s → ⊥)
    → None ≡ parts.group_in (view_expr e)
no_group e never = go (view_expr e) (has_form e)
  where
    go : (t : tree.Expr) → HasForm e t → None ≡ parts.group_in t
    go (tree.Group xs) h = absurd (never h.0 h.1 h.2)
    go _ h = refl

pub no_single :
    (e : code_expr.Expr) → ((xs : Vec code_expr.Expr Global) (s : Span) → e ≡ make.Group xs s → ⊥)
    → None ≡ parts.single_in (view_expr e)
no_single e never = go (view_expr e) (has_form e)
  where
    go : (t : tree.Expr) → HasForm e t → None ≡ parts.single_in t
    go (tree.Group xs) h = absurd (never h.0 h.1 h.2)
    go _ h = refl

pub no_receive :
    (e : code_expr.Expr) → ((o : UnaryOp) (x : Boxed) (s : Span) → e ≡ make.Unary o x s → ⊥)
    → None ≡ parts.received_in (view_expr e)
no_receive e never = go (view_expr e) (has_form e)
  where
    go : (t : tree.Expr) → HasForm e t → None ≡ parts.received_in t
    go (tree.Unary o x) h = absurd (never h.0 h.1 h.2 h.3)
    go _ h = refl

pub no_send :
    (e : code_expr.Expr) → ((o : AssignOp) (l r : Boxed) (s : Span) → e ≡ make.Assign o l r s → ⊥)
    → None ≡ parts.sent_in (view_expr e)
no_send e never = go (view_expr e) (has_form e)
  where
    go : (t : tree.Expr) → HasForm e t → None ≡ parts.sent_in t
    go (tree.Assign o l r) h = absurd (never h.0 h.1 h.2 h.3 h.4)
    go _ h = refl

pub no_module :
    (e : code_expr.Expr) (n : List ℕ) → ((m : Text) (s : Span) → e ≡ make.Name m s → ⊥)
    → None ≡ parts.member_in (tree.Arrow (view_expr e) n)
no_module e n never = go (view_expr e) (has_form e)
  where
    go : (t : tree.Expr) → HasForm e t → None ≡ parts.member_in (tree.Arrow t n)
    go (tree.Name m) h = absurd (never h.0 h.1 h.2)
    go _ h = refl

pub other_unary :
    (o : UnaryOp) (x : tree.Expr) → (o ≡ unary.Receive → ⊥)
    → None ≡ parts.received_in (tree.Unary o x)
other_unary unary.Receive x never = absurd (never refl)
other_unary _ x never = refl

pub other_assign :
    (o : AssignOp) (l r : tree.Expr) → (o ≡ assign.Send → ⊥)
    → None ≡ parts.sent_in (tree.Assign o l r)
other_assign assign.Send l r never = absurd (never refl)
other_assign _ l r never = refl

-- the only expression of a list, by the list's length
pub no_only : (es : List code_expr.Expr) → (length es ≡ 1 → ⊥) → None ≡ parts.only (exprs_of (map view_expr es))
no_only [] never = refl
no_only (x ∷ []) never = absurd (never refl)
no_only (x ∷ y ∷ ys) never = refl

pub first_only :
    (es : List code_expr.Expr) (e : code_expr.Expr) → length es ≡ 1 → e ≡ get_or es 0 e
    → Some (view_expr e) ≡ parts.only (exprs_of (map view_expr es))
first_only [] e one first = absurd (omega arith)
first_only (x ∷ []) e one first = ap (λ z. Some (view_expr z)) first
first_only (x ∷ y ∷ ys) e one first = absurd (omega arith)
