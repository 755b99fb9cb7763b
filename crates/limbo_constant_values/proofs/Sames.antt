-- Expressions that are one name.
use Rattle.std.proofs.Common.{◌≡◌, ℕ, nat_eq, Bool, true, false, ◌&&◌, List, Option, None, Some, option_map, Box, Global, refl, sym, ap, ◌∙◌}
use Rattle.std.specs.Cmp.Lexicographic.{pointwise, same_text}
use Rattle.std.proofs.lemmas.Cmp.{nat_list_eq_equiv}
use Rattle.inf_text.specs.declared.span.Span.{Span}
use Rattle.inf_text.specs.declared.text.Text.{Text}
use Rattle.limbo_tree.specs.declared.name.Name as code_name
use Rattle.limbo_tree.specs.declared.expr.Expr as code_expr
use Rattle.limbo_tree.specs.declared.expr.Expr.TheVariants as make
use Rattle.limbo_tree.specs.Exprs as tree
use Rattle.limbo_tree.specs.Exprs.{Expr}
use Rattle.limbo_tree.specs.Parts.{name_in, arrow_in, dot_in}
use Rattle.limbo_tree.specs.View.{view_expr}
use Rattle.limbo_tree.proofs.Exprs.{view_expr-Name, view_expr-Arrow, view_expr-Dot}
use Rattle.limbo_tree.proofs.Forms.{HasForm, has_form}
use Rattle.limbo_tree.proofs.Found.{is_name, is_arrow, is_dot}
use Rattle.limbo_naming.specs.Qualified.{Qualified, of_expr}
use Rattle.limbo_constant_values.specs.Answers.{is_text, is_after, same_name}

module _ (n e : code_expr.Expr) where
  pub at_name : (x : Text) (s : Span) → n ≡ make.Name x s → (o : Option (List ℕ)) → o ≡ name_in (view_expr e)
      → is_text x o ≡ same_name (view_expr n) (view_expr e)
  at_name x s i o h = ap (is_text x) h ∙ sym (ap (λ z. same_name z (view_expr e)) (ap view_expr i ∙ view_expr-Name x s))

  pub at_arrow : (b : Box code_expr.Expr Global) (x : code_name.Name) (s : Span) → n ≡ make.Arrow b x s → (o : Option (Expr × List ℕ)) → o ≡ arrow_in (view_expr e)
      → is_after (same_name (view_expr b.value)) x.text o ≡ same_name (view_expr n) (view_expr e)
  at_arrow b x s i o h = ap (is_after (same_name (view_expr b.value)) x.text) h ∙ sym (ap (λ z. same_name z (view_expr e)) (ap view_expr i ∙ view_expr-Arrow b x s))

  pub at_dot : (b : Box code_expr.Expr Global) (x : code_name.Name) (s : Span) → n ≡ make.Dot b x s → (o : Option (Expr × List ℕ)) → o ≡ dot_in (view_expr e)
      → is_after (same_name (view_expr b.value)) x.text o ≡ same_name (view_expr n) (view_expr e)
  at_dot b x s i o h = ap (is_after (same_name (view_expr b.value)) x.text) h ∙ sym (ap (λ z. same_name z (view_expr e)) (ap view_expr i ∙ view_expr-Dot b x s))

pub no_name :
    (n : code_expr.Expr) → ((x : Text) (s : Span) → n ≡ make.Name x s → ⊥)
    → ((b : Box code_expr.Expr Global) (x : code_name.Name) (s : Span) → n ≡ make.Arrow b x s → ⊥)
    → ((b : Box code_expr.Expr Global) (x : code_name.Name) (s : Span) → n ≡ make.Dot b x s → ⊥)
    → (e : Expr) → false ≡ same_name (view_expr n) e
no_name n not_name not_arrow not_dot e = go (view_expr n) (has_form n)
  where
    go : (t : Expr) → HasForm n t → false ≡ same_name t e
    go (tree.Name x) h = absurd (not_name h.0 h.1 h.2)
    go (tree.Arrow b x) h = absurd (not_arrow h.0 h.1 h.2 h.3)
    go (tree.Dot b x) h = absurd (not_dot h.0 h.1 h.2 h.3)
    go _ h = refl

-- ---- what the test says

both_true : (a b : Bool) → a && b ≡ true → (a ≡ true) × (b ≡ true)
both_true true b h = (refl, h)
both_true false b h = absurd cc

text_same : (a : List ℕ) (o : Option (List ℕ)) → is_text a o ≡ true → Some a ≡ o
text_same a None h = absurd cc
text_same a (Some b) h = ap Some (same_text a b (sym h))

after_same : (f : Expr → Bool) (a : List ℕ) (o : Option (Expr × List ℕ)) → is_after f a o ≡ true → (y : Expr) × (f y ≡ true) × (Some (y, a) ≡ o)
after_same f a None h = absurd cc
after_same f a (Some p) h =
    let b = both_true (f p.0) (pointwise nat_eq a p.1) h in
    (p.0, b.0, ap (λ z. Some (p.0, z)) (same_text a p.1 (sym b.1)))

pub is_same : (p e : Expr) → same_name p e ≡ true → e ≡ p
is_same (tree.Name a) e h = is_name e a (text_same a (name_in e) h)
is_same (tree.Arrow x a) e h =
    let b = after_same (same_name x) a (arrow_in e) h in
    is_arrow e b.0 a b.2 ∙ ap (λ z. tree.Arrow z a) (is_same x b.0 b.1)
is_same (tree.Dot x a) e h =
    let b = after_same (same_name x) a (dot_in e) h in
    is_dot e b.0 a b.2 ∙ ap (λ z. tree.Dot z a) (is_same x b.0 b.1)
is_same _ e h = absurd cc

some_map : {A B : Type 0} (f : A → B) (x : Option A) (b : B) → option_map f x ≡ Some b → (a : A) × (x ≡ Some a)
some_map f None b h = absurd cc
some_map f (Some a) b h = (a, refl)

same_text_itself : (a : List ℕ) → pointwise nat_eq a a ≡ true
same_text_itself a = nat_list_eq_equiv.refl a

pub same_itself : (p : Expr) (q : Qualified) → of_expr p ≡ Some q → same_name p p ≡ true
same_itself (tree.Name a) q h = same_text_itself a
same_itself (tree.Arrow x a) q h = let b = some_map _ (of_expr x) q h in let c = same_itself x b.0 b.1 in rw (c, same_text_itself a) refl
same_itself (tree.Dot x a) q h = let b = some_map _ (of_expr x) q h in let c = same_itself x b.0 b.1 in rw (c, same_text_itself a) refl
same_itself _ q h = absurd cc
