-- What stands at an index is what the definition says.
use Rattle.std.proofs.Common.{◌≡◌, Bool, true, false, cond, Some, None, refl, sym, ap, subst, ◌∙◌}
use Rattle.limbo_types.specs.Types.{Ty, Int, Chars, ArrayOf}
use Rattle.limbo_types.specs.View.{view_ty}
use Rattle.limbo_typed.specs.declared.expr.TExpr as code_expr
use Rattle.limbo_typed.specs.Typed.{Expr, Of, Node, Read, Element}
use Rattle.limbo_typed.specs.Sound.{type_of, IsSettled}
use Rattle.limbo_typed.specs.View.{view_expr}
use Rattle.limbo_forms.specs.Forms.{is_int, is_settled}
use Rattle.limbo_forms.proofs.Tests.{if_some, int_is, settled_is, settled_true}
use Rattle.limbo_refusals.specs.Refusals.{NoneIs}
use Rattle.limbo_places.specs.Places.{read, IsNoPlace}
use Rattle.limbo_places.specs.Elements.{Indexes}
use Rattle.limbo_places.specs.Elements as rule
use Rattle.limbo_places.specs.Choosing.{is_string, settled_element, character_of_value, character, element, indexed}
use Rattle.limbo_places.proofs.Nodes.{type_is}

string_is : (t : Ty) → is_string t ≡ true → t ≡ Chars
string_is Chars e = refl
string_is _ e = absurd cc

element_is : (u t : Ty) → settled_element u ≡ Some t → (u ≡ ArrayOf t) × IsSettled t
element_is (ArrayOf u) t e =
    let p = if_some (is_settled u) u t e in (ap ArrayOf p.1, subst (λ (z : Ty). IsSettled z) p.1 (settled_is u p.0))
element_is _ t e = absurd cc

-- ---- what is chosen is what the definition says

character_given : (n i : Node) → Indexes (Of Chars n) (Of Int i) (character (Of Chars n) (Of Int i))
character_given (Read p) i = rule.in_place p i
character_given n i = rule.in_value n i (λ p e. absurd cc)

at_string : (u v : Ty) (n i : Node) → u ≡ Chars → v ≡ Int → Indexes (Of u n) (Of v i) (character (Of u n) (Of v i))
at_string u v n i e f =
    subst (λ (z : Ty). Indexes (Of z n) (Of v i) (character (Of z n) (Of v i))) (sym e)
    (subst (λ (z : Ty). Indexes (Of Chars n) (Of z i) (character (Of Chars n) (Of z i))) (sym f) (character_given n i))

at_array : (u v t : Ty) (n i : Node) → u ≡ ArrayOf t → v ≡ Int → IsSettled t
    → Indexes (Of u n) (Of v i) (read t (Element (Of u n) (Of v i)))
at_array u v t n i e f s = rw (e, f) (rule.element t n i s)

string_indexed : (base index e : Expr) → is_int (type_of index) ≡ true → is_string (type_of base) ≡ true
    → e ≡ character base index
    → Indexes base index e
string_indexed (Of u n) (Of v i) e a b h =
    subst (λ (z : Expr). Indexes (Of u n) (Of v i) z) (sym h) (at_string u v n i (string_is u b) (int_is v a))

array_indexed : (base index e : Expr) (t : Ty) → is_int (type_of index) ≡ true → settled_element (type_of base) ≡ Some t
    → e ≡ read t (Element base index) → Indexes base index e
array_indexed (Of u n) (Of v i) e t a b h =
    let p = element_is u t b in
    subst (λ (z : Expr). Indexes (Of u n) (Of v i) z) (sym h) (at_array u v t n i p.0 (int_is v a) p.1)

-- ---- what the definition says is chosen

no_place : (t : Ty) (n : Node) (i : Expr) → IsNoPlace n → character (Of t n) i ≡ character_of_value (Of t n) i
no_place t (Read p) i h = absurd (h p refl)
no_place t _ i h = refl

found : (base index e : Expr) → Indexes base index e → indexed base index ≡ Some e
found _ _ _ (rule.element t n i h) = rw (settled_true t h) refl
found _ _ _ (rule.in_place p i) = refl
found _ _ _ (rule.in_value n i h) = rw (no_place Chars n (Of Int i) h) refl

pub indexed_once : (base index e f : Expr) → Indexes base index e → Indexes base index f → e ≡ f
indexed_once base index e f h k = let p : Some e ≡ Some f = sym (found base index e h) ∙ found base index f k in cc

none_indexed : (base index : Expr) → indexed base index ≡ None → NoneIs (Indexes base index)
none_indexed base index h e k = let f : None ≡ Some e = sym h ∙ found base index e k in absurd cc

by_no_int : (base index : Expr) → is_int (type_of index) ≡ false → indexed base index ≡ None
by_no_int base index e = rw e refl

by_no_element : (base index : Expr) → is_string (type_of base) ≡ false → settled_element (type_of base) ≡ None
    → indexed base index ≡ None
by_no_element base index e f = go (is_int (type_of index))
  where
    none : element base index ≡ None
    none = rw (e, f) refl

    go : (b : Bool) → cond b (element base index) None ≡ None
    go true = none
    go false = refl

-- ---- what is answered

module _ (base index : code_expr.TExpr) where
  pub character_answered : (e : code_expr.TExpr) → is_int (view_ty index.ty) ≡ true → is_string (view_ty base.ty) ≡ true
      → view_expr e ≡ character (view_expr base) (view_expr index) → Indexes (view_expr base) (view_expr index) (view_expr e)
  character_answered e a b h =
      string_indexed (view_expr base) (view_expr index) (view_expr e) (ap is_int (type_is index) ∙ a)
      (ap is_string (type_is base) ∙ b) h

  pub element_answered : (e : code_expr.TExpr) (t : Ty) → is_int (view_ty index.ty) ≡ true
      → settled_element (view_ty base.ty) ≡ Some t
      → view_expr e ≡ read t (Element (view_expr base) (view_expr index)) → Indexes (view_expr base) (view_expr index) (view_expr e)
  element_answered e t a b h =
      array_indexed (view_expr base) (view_expr index) (view_expr e) t (ap is_int (type_is index) ∙ a)
      (ap settled_element (type_is base) ∙ b) h

  pub no_int_answered : is_int (view_ty index.ty) ≡ false → NoneIs (Indexes (view_expr base) (view_expr index))
  no_int_answered a =
      none_indexed (view_expr base) (view_expr index) (by_no_int (view_expr base) (view_expr index) (ap is_int (type_is index) ∙ a))

  pub no_element_answered : is_string (view_ty base.ty) ≡ false → settled_element (view_ty base.ty) ≡ None
      → NoneIs (Indexes (view_expr base) (view_expr index))
  no_element_answered a b =
      none_indexed (view_expr base) (view_expr index)
      (by_no_element (view_expr base) (view_expr index) (ap is_string (type_is base) ∙ a) (ap settled_element (type_is base) ∙ b))
