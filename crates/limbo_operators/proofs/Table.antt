-- The rows that are chosen are those of the table.
use Rattle.std.proofs.Common.{◌≡◌, ◌⊎◌, ◌&&◌, ◌==◌, ℕ, Bool, true, false, cond, [], ◌∷◌, Option, Some, None, refl, sym, ap, subst}
use Rattle.std.proofs.Common.{◌∙◌, inl, inr}
use Rattle.std.proofs.lemmas.Bool.{eqb-true}
use Rattle.limbo_values.specs.declared.number.Kind.{Kind}
use Rattle.limbo_values.specs.declared.number.Kind.TheVariants as kind
use Rattle.limbo_values.specs.declared.operator.Operator.{Operator}
use Rattle.limbo_values.specs.declared.operator.Operator.TheVariants as operator
use Rattle.limbo_values.specs.declared.operator.Shift.{Shift}
use Rattle.limbo_values.specs.declared.operator.Comparison.{Comparison}
use Rattle.limbo_values.specs.declared.operator.Comparison.TheVariants as comparison
use Rattle.limbo_types.specs.Types.{Ty, Int, Chars, Nil, ArrayOf, ListOf, ChanOf, RefAdt, RefPick, Module}
use Rattle.limbo_types.specs.Same.{same}
use Rattle.limbo_types.proofs.Same.{only, itself}
use Rattle.limbo_tree.specs.declared.operators.AssignOp.{AssignOp}
use Rattle.limbo_typed.specs.declared.operation.Operation.{Operation}
use Rattle.limbo_typed.specs.declared.operation.Operation.TheVariants as op
use Rattle.limbo_typed.specs.declared.operation.Connective.{Connective}
use Rattle.limbo_typed.specs.Fitting.{of_kind, IsReference, IsRefOf}
use Rattle.limbo_operators.specs.declared.signs.Binary.{Binary}
use Rattle.limbo_operators.specs.declared.signs.Binary.TheVariants as binary
use Rattle.limbo_forms.specs.Forms.{kind_of, same_kind, is_int, is_nil, is_text, is_reference, is_channel, ref_of, item_of, is_settled}
use Rattle.limbo_standing.specs.Joining.{Joins, joined}
use Rattle.limbo_forms.specs.Forms.{choose}
use Rattle.limbo_operators.specs.Rows.{Row, row, IsText, IsOrder, Identifies, AreLike, HasItems, BinaryRow, LazyRow, UpdateRow, updating}
use Rattle.limbo_operators.specs.Rows as rule
use Rattle.limbo_operators.specs.Choosing.{is_add, numbers, arithmetic_row, shift_row, identifying, are_like, may_be_nil, reference_row, is_order}
use Rattle.limbo_operators.specs.Choosing.{text_row, compare_row, cons_of, cons_row, binary_row, lazy_row, update_row}
use Rattle.limbo_forms.proofs.Tests.{choose_some, if_some, both_true, kind_is, kind_found, int_is, nil_is, settled_is, settled_true, not_settled, open_false}
use Rattle.limbo_standing.proofs.Elements.{joins_given, joins_found}

-- ---- options and tests

-- what isn't answered isn't there
pub not_there : {A : Type 0} {P : A → Type 0} (o : Option A) → ((a : A) → P a → o ≡ Some a) → o ≡ None → (a : A) → P a → ⊥
not_there o found e a p = let f : None ≡ Some a = sym e ∙ found a p in absurd cc

pub no_text_kind : (k : Kind) → is_text (of_kind k) ≡ false
no_text_kind kind.Byte = refl
no_text_kind kind.Int = refl
no_text_kind kind.Big = refl

pub text_is : (t : Ty) → is_text t ≡ true → IsText t
text_is Chars e = rule.chars
text_is Nil e = rule.IsText.nil
text_is _ e = absurd cc

pub text_found : (t : Ty) → IsText t → is_text t ≡ true
text_found _ rule.chars = refl
text_found _ rule.IsText.nil = refl

pub text_no_kind : (t : Ty) → IsText t → kind_of t ≡ None
text_no_kind _ rule.chars = refl
text_no_kind _ rule.IsText.nil = refl

-- ---- numbers and texts

add_is : (o : Operator) → is_add o ≡ true → o ≡ operator.Add
add_is operator.Add e = refl
add_is _ e = absurd cc

numbers_at : (o : Operator) (k : Kind) (t u : Ty) → t ≡ of_kind k → u ≡ of_kind k
    → BinaryRow (binary.Arithmetic o) t u (row (of_kind k) (of_kind k) (op.Arithmetic o k) (of_kind k))
numbers_at o k t u f g = rw (f, g) (rule.numbers o k)

numbers_given : (o : Operator) (t u : Ty) (r : Row) → numbers o t u ≡ Some r → BinaryRow (binary.Arithmetic o) t u r
numbers_given o t u r e =
    let k = choose_some (same_kind t u) _ r e in
    let l = choose_some (kind_of t) _ k.0 k.1 in
    let s = if_some (same t u) l.0 k.0 l.2 in
    let f : t ≡ of_kind k.0 = kind_is t l.0 l.1 ∙ ap of_kind s.1 in
    let g : u ≡ of_kind k.0 = sym (only t u s.0) ∙ f in
    let q : row (of_kind k.0) (of_kind k.0) (op.Arithmetic o k.0) (of_kind k.0) ≡ r = let h = k.2 in cc in
    subst (λ (z : Row). BinaryRow (binary.Arithmetic o) t u z) q (numbers_at o k.0 t u f g)

arithmetic_given : (o : Operator) (t u : Ty) (r : Row) → arithmetic_row o t u ≡ Some r → BinaryRow (binary.Arithmetic o) t u r
arithmetic_given o t u r e = go (is_text t && (is_text u && is_add o)) refl e
  where
    go : (b : Bool) → (is_text t && (is_text u && is_add o)) ≡ b → cond b (Some (row Chars Chars op.Join Chars)) (numbers o t u) ≡ Some r
        → BinaryRow (binary.Arithmetic o) t u r
    go true h e =
        let p = both_true (is_text t) (is_text u && is_add o) h in
        let q = both_true (is_text u) (is_add o) p.1 in
        let f : row Chars Chars op.Join Chars ≡ r = cc in
        subst (λ (z : Row). BinaryRow (binary.Arithmetic o) t u z) f
        (subst (λ (z : Operator). BinaryRow (binary.Arithmetic z) t u (row Chars Chars op.Join Chars)) (sym (add_is o q.1))
        (rule.texts t u (text_is t p.0) (text_is u q.0)))
    go false h e = numbers_given o t u r e

shift_at : (s : Shift) (k : Kind) (t u : Ty) → t ≡ of_kind k → u ≡ Int
    → BinaryRow (binary.Shift s) t u (row (of_kind k) Int (op.Shift s k) (of_kind k))
shift_at s k t u f g = rw (f, g) (rule.shifts s k)

shift_given : (s : Shift) (t u : Ty) (r : Row) → shift_row s t u ≡ Some r → BinaryRow (binary.Shift s) t u r
shift_given s t u r e =
    let k = choose_some (kind_of t) _ r e in
    let i = if_some (is_int u) _ r k.2 in
    subst (λ (z : Row). BinaryRow (binary.Shift s) t u z) i.1 (shift_at s k.0 t u (kind_is t k.0 k.1) (int_is u i.0))

-- ---- comparisons

identifies : (c : Comparison) (o : Operation) → identifying c ≡ Some o → Identifies c o
identifies comparison.Equal o e = let f : op.Identical ≡ o = cc in subst (λ (z : Operation). Identifies comparison.Equal z) f rule.equal
identifies comparison.Unequal o e = let f : op.Distinct ≡ o = cc in subst (λ (z : Operation). Identifies comparison.Unequal z) f rule.unequal
identifies _ o e = absurd cc

identifying_found : (c : Comparison) (o : Operation) → Identifies c o → identifying c ≡ Some o
identifying_found _ _ rule.equal = refl
identifying_found _ _ rule.unequal = refl

order_is : (c : Comparison) → is_order c ≡ true → IsOrder c
order_is comparison.Less e = rule.less
order_is comparison.AtMost e = rule.at_most
order_is comparison.Greater e = rule.greater
order_is comparison.AtLeast e = rule.at_least
order_is _ e = absurd cc

order_found : (c : Comparison) → IsOrder c → is_order c ≡ true
order_found _ rule.less = refl
order_found _ rule.at_most = refl
order_found _ rule.greater = refl
order_found _ rule.at_least = refl

reference_is : (t : Ty) → is_reference t ≡ true → IsReference t
reference_is (ArrayOf t) e = tt
reference_is (ListOf t) e = tt
reference_is (ChanOf t) e = tt
reference_is (RefAdt n) e = tt
reference_is (RefPick n v) e = tt
reference_is (Module n) e = tt
reference_is _ e = absurd cc

-- what a reference is not
pub record Plain (t : Ty) : Type 0 where
  pub no_text : is_text t ≡ false
  pub no_kind : kind_of t ≡ None
  pub no_nil : is_nil t ≡ false
  pub reference : is_reference t ≡ true

reference_plain : (t : Ty) → IsReference t → Plain t
reference_plain (ArrayOf t) h = record { no_text = refl; no_kind = refl; no_nil = refl; reference = refl }
reference_plain (ListOf t) h = record { no_text = refl; no_kind = refl; no_nil = refl; reference = refl }
reference_plain (ChanOf t) h = record { no_text = refl; no_kind = refl; no_nil = refl; reference = refl }
reference_plain (RefAdt n) h = record { no_text = refl; no_kind = refl; no_nil = refl; reference = refl }
reference_plain (RefPick n v) h = record { no_text = refl; no_kind = refl; no_nil = refl; reference = refl }
reference_plain (Module n) h = record { no_text = refl; no_kind = refl; no_nil = refl; reference = refl }
reference_plain _ h = absurd h

pub ref_is : (t : Ty) (n : ℕ) → ref_of t ≡ Some n → IsRefOf n t
ref_is (RefAdt m) n e = cc
ref_is (RefPick m v) n e = cc
ref_is _ n e = absurd cc

pub ref_found : (t : Ty) (n : ℕ) → IsRefOf n t → ref_of t ≡ Some n
ref_found (RefAdt m) n h = ap Some h
ref_found (RefPick m v) n h = ap Some h
ref_found _ n h = absurd h

ref_reference : (t : Ty) (n : ℕ) → IsRefOf n t → IsReference t
ref_reference (RefAdt m) n h = tt
ref_reference (RefPick m v) n h = tt
ref_reference _ n h = absurd h

channel_like : (t u : Ty) → is_channel t ≡ true → same t u ≡ true → AreLike t u
channel_like (ChanOf t) u c e = subst (λ (z : Ty). AreLike (ChanOf t) z) (only (ChanOf t) u e) (rule.channels t)
channel_like _ u c e = absurd cc

like_is : (t u : Ty) → are_like t u ≡ true → AreLike t u
like_is t u e = at_left (ref_of t) refl e
  where
    at_right : (n : ℕ) (o : Option ℕ) → ref_of t ≡ Some n → ref_of u ≡ o → choose o false (λ m. m == n) ≡ true → AreLike t u
    at_right n (Some m) f g e = rule.refs n t u (ref_is t n f) (ref_is u n (g ∙ ap Some (eqb-true m n e)))
    at_right n None f g e = absurd cc

    at_left : (o : Option ℕ) → ref_of t ≡ o → choose o (is_channel t && same t u) (λ n. choose (ref_of u) false (λ m. m == n)) ≡ true
        → AreLike t u
    at_left (Some n) f e = at_right n (ref_of u) f refl e
    at_left None f e = let p = both_true (is_channel t) (same t u) e in channel_like t u p.0 p.1

like_found : (t u : Ty) → AreLike t u → are_like t u ≡ true
like_found _ _ (rule.refs n t u f g) = rw (ref_found t n f, ref_found u n g) (itself (RefAdt n))
like_found _ _ (rule.channels t) = itself t

-- both are references
like_plain : (t u : Ty) → AreLike t u → Plain t × Plain u
like_plain _ _ (rule.refs n t u f g) = (reference_plain t (ref_reference t n f), reference_plain u (ref_reference u n g))
like_plain _ _ (rule.channels t) = (reference_plain (ChanOf t) tt, reference_plain (ChanOf t) tt)

reference_given : (c : Comparison) (o : Operation) (t u : Ty) (r : Row) → Identifies c o → reference_row o t u ≡ Some r
    → BinaryRow (binary.Compare c) t u r
reference_given c o t u r i e = at_right (is_nil u) refl e
  where
    at_left : (b : Bool) → is_nil t ≡ b
        → cond b (cond (may_be_nil u) (Some (row u u o Int)) None) (cond (are_like t u) (Some (row t u o Int)) None) ≡ Some r
        → BinaryRow (binary.Compare c) t u r
    at_left true h e =
        let p = if_some (may_be_nil u) _ r e in
        let q = both_true (is_reference u) (is_settled u) p.0 in
        subst (λ (z : Row). BinaryRow (binary.Compare c) t u z) p.1
        (subst (λ (z : Ty). BinaryRow (binary.Compare c) z u (row u u o Int)) (sym (nil_is t h))
        (rule.nil_with c o u i (reference_is u q.0) (settled_is u q.1)))
    at_left false h e =
        let p = if_some (are_like t u) _ r e in
        subst (λ (z : Row). BinaryRow (binary.Compare c) t u z) p.1 (rule.identified c o t u i (like_is t u p.0))

    at_right : (b : Bool) → is_nil u ≡ b
        → cond b (cond (may_be_nil t) (Some (row t t o Int)) None)
        (cond (is_nil t) (cond (may_be_nil u) (Some (row u u o Int)) None) (cond (are_like t u) (Some (row t u o Int)) None)) ≡ Some r
        → BinaryRow (binary.Compare c) t u r
    at_right true h e =
        let p = if_some (may_be_nil t) _ r e in
        let q = both_true (is_reference t) (is_settled t) p.0 in
        subst (λ (z : Row). BinaryRow (binary.Compare c) t u z) p.1
        (subst (λ (z : Ty). BinaryRow (binary.Compare c) t z (row t t o Int)) (sym (nil_is u h))
        (rule.with_nil c o t i (reference_is t q.0) (settled_is t q.1)))
    at_right false h e = at_left (is_nil t) refl e

one_text : (t u : Ty) → IsText t → IsText u → (is_nil t && is_nil u) ≡ false → (t ≡ Chars) ⊎ (u ≡ Chars)
one_text _ u rule.chars h e = inl refl
one_text _ _ rule.IsText.nil rule.chars e = inr refl
one_text _ _ rule.IsText.nil rule.IsText.nil e = absurd cc

not_both : (t u : Ty) → IsText t → IsText u → (t ≡ Chars) ⊎ (u ≡ Chars) → (is_nil t && is_nil u) ≡ false
not_both _ u rule.chars h e = refl
not_both _ _ rule.IsText.nil rule.chars e = refl
not_both _ _ rule.IsText.nil rule.IsText.nil (inl e) = absurd cc
not_both _ _ rule.IsText.nil rule.IsText.nil (inr e) = absurd cc

text_given : (c : Comparison) (t u : Ty) (r : Row) → IsText t → IsText u → text_row c t u ≡ Some r → BinaryRow (binary.Compare c) t u r
text_given c t u r p q e = at_order (is_order c) refl e
  where
    answer : Row
    answer = row Chars Chars (op.CompareChars c) Int

    at_nil : (b : Bool) → (is_nil t && is_nil u) ≡ b → cond b None (Some (row Chars Chars (op.CompareChars c) Int)) ≡ Some r
        → BinaryRow (binary.Compare c) t u r
    at_nil true h e = absurd cc
    at_nil false h e =
        let f : row Chars Chars (op.CompareChars c) Int ≡ r = cc in
        subst (λ (z : Row). BinaryRow (binary.Compare c) t u z) f (rule.same_text c t u p q (one_text t u p q h))

    at_order : (b : Bool) → is_order c ≡ b
        → cond b (Some (row Chars Chars (op.CompareChars c) Int))
        (cond (is_nil t && is_nil u) None (Some (row Chars Chars (op.CompareChars c) Int))) ≡ Some r
        → BinaryRow (binary.Compare c) t u r
    at_order true h e =
        let f : row Chars Chars (op.CompareChars c) Int ≡ r = cc in
        subst (λ (z : Row). BinaryRow (binary.Compare c) t u z) f (rule.ordered c t u (order_is c h) p q)
    at_order false h e = at_nil (is_nil t && is_nil u) refl e

compare_at : (c : Comparison) (k : Kind) (t u : Ty) → t ≡ of_kind k → u ≡ of_kind k
    → BinaryRow (binary.Compare c) t u (row (of_kind k) (of_kind k) (op.Compare c k) Int)
compare_at c k t u f g = rw (f, g) (rule.compared c k)

compare_given : (c : Comparison) (t u : Ty) (r : Row) → compare_row c t u ≡ Some r → BinaryRow (binary.Compare c) t u r
compare_given c t u r e = at_text (is_text t && is_text u) refl e
  where
    at_kind : (o : Option Kind) → kind_of t ≡ o
        → choose o (choose (identifying c) None (λ i. reference_row i t u))
        (λ k. cond (same t u) (Some (row (of_kind k) (of_kind k) (op.Compare c k) Int)) None) ≡ Some r
        → BinaryRow (binary.Compare c) t u r
    at_kind (Some k) h e =
        let s = if_some (same t u) _ r e in
        let f : t ≡ of_kind k = kind_is t k h in
        let g : u ≡ of_kind k = sym (only t u s.0) ∙ f in
        subst (λ (z : Row). BinaryRow (binary.Compare c) t u z) s.1 (compare_at c k t u f g)
    at_kind None h e =
        let i = choose_some (identifying c) _ r e in
        reference_given c i.0 t u r (identifies c i.0 i.1) i.2

    at_text : (b : Bool) → (is_text t && is_text u) ≡ b
        → cond b (text_row c t u) (choose (kind_of t) (choose (identifying c) None (λ i. reference_row i t u))
        (λ k. cond (same t u) (Some (row (of_kind k) (of_kind k) (op.Compare c k) Int)) None)) ≡ Some r
        → BinaryRow (binary.Compare c) t u r
    at_text true h e = let p = both_true (is_text t) (is_text u) h in text_given c t u r (text_is t p.0) (text_is u p.1) e
    at_text false h e = at_kind (kind_of t) refl e

-- ---- `::`

items_are : (t i : Ty) → item_of t ≡ Some i → HasItems t i
items_are (ListOf t) i e = let f : t ≡ i = cc in subst (λ (z : Ty). HasItems (ListOf t) z) f (rule.list t)
items_are Nil i e = let f : Nil ≡ i = cc in subst (λ (z : Ty). HasItems Nil z) f rule.HasItems.nil
items_are _ i e = absurd cc

items_found : (t i : Ty) → HasItems t i → item_of t ≡ Some i
items_found _ _ (rule.list t) = refl
items_found _ _ rule.HasItems.nil = refl

cons_given : (t u : Ty) (r : Row) → cons_row t u ≡ Some r → BinaryRow binary.Cons t u r
cons_given t u r e =
    let i = choose_some (item_of u) _ r e in
    let j = choose_some (joined None (t ∷ i.0 ∷ [])) _ r i.2 in
    let f : cons_of t u j.0 ≡ r = cc in
    subst (λ (z : Row). BinaryRow binary.Cons t u z) f
    (go j.0 i.0 (items_are u i.0 i.1) (joins_given (t ∷ i.0 ∷ []) j.0 j.1) (is_settled j.0) refl)
  where
    go : (j i : Ty) → HasItems u i → Joins (t ∷ i ∷ []) j → (b : Bool) → is_settled j ≡ b
        → BinaryRow binary.Cons t u (cond b (row j (ListOf j) op.Cons (ListOf j)) (row t u op.Cons (ListOf Nil)))
    go j i p q true h = rule.puts t u i j p q (settled_is j h)
    go j i p q false h = rule.puts_open t u i j p q (not_settled j h)

-- ---- all of them

pub binary_given : (b : Binary) (t u : Ty) (r : Row) → binary_row b t u ≡ Some r → BinaryRow b t u r
binary_given (binary.Arithmetic o) t u r e = arithmetic_given o t u r e
binary_given (binary.Shift s) t u r e = shift_given s t u r e
binary_given (binary.Compare c) t u r e = compare_given c t u r e
binary_given binary.Cons t u r e = cons_given t u r e
binary_given (binary.Lazy c) t u r e = absurd cc

-- a row of references, by what they aren't
identified_found : (c : Comparison) (o : Operation) (t u : Ty) (r : Row) → Identifies c o → (is_text t && is_text u) ≡ false
    → kind_of t ≡ None → reference_row o t u ≡ Some r → compare_row c t u ≡ Some r
identified_found c o t u r i a k e = rw (a, k, identifying_found c o i) e

pub binary_found : (b : Binary) (t u : Ty) (r : Row) → BinaryRow b t u r → binary_row b t u ≡ Some r
binary_found _ _ _ _ (rule.numbers o k) = rw (no_text_kind k, kind_found k, itself (of_kind k)) refl
binary_found _ _ _ _ (rule.texts t u p q) = rw (text_found t p, text_found u q) refl
binary_found _ _ _ _ (rule.shifts s k) = rw (kind_found k) refl
binary_found _ _ _ _ (rule.compared c k) = rw (no_text_kind k, kind_found k, itself (of_kind k)) refl
binary_found _ _ _ _ (rule.ordered c t u o p q) = rw (text_found t p, text_found u q, order_found c o) refl
binary_found _ _ _ _ (rule.same_text c t u p q e) = rw (text_found t p, text_found u q) (go (is_order c) refl)
  where
    go : (b : Bool) → is_order c ≡ b → text_row c t u ≡ Some (row Chars Chars (op.CompareChars c) Int)
    go true h = rw h refl
    go false h = rw (h, not_both t u p q e) refl
binary_found _ _ _ _ (rule.identified c o t u i l) =
    let p = like_plain t u l in
    identified_found c o t u (row t u o Int) i (rw p.0.no_text refl) p.0.no_kind (rw (p.1.no_nil, p.0.no_nil, like_found t u l) refl)
binary_found _ _ _ _ (rule.with_nil c o t i f s) =
    let p = reference_plain t f in
    identified_found c o t Nil (row t t o Int) i (rw p.no_text refl) p.no_kind (rw (p.reference, settled_true t s) refl)
binary_found _ _ _ _ (rule.nil_with c o t i f s) =
    let p = reference_plain t f in
    identified_found c o Nil t (row t t o Int) i (rw p.no_text refl) refl (rw (p.no_nil, p.reference, settled_true t s) refl)
binary_found _ _ _ _ (rule.puts t u i j p q s) =
    rw (items_found u i p, joins_found (t ∷ i ∷ []) j q, settled_true j s) refl
binary_found _ _ _ _ (rule.puts_open t u i j p q s) =
    rw (items_found u i p, joins_found (t ∷ i ∷ []) j q, open_false j s) refl

pub binary_once : (b : Binary) (t u : Ty) (r s : Row) → BinaryRow b t u r → BinaryRow b t u s → r ≡ s
binary_once b t u r s p q = let f : Some r ≡ Some s = sym (binary_found b t u r p) ∙ binary_found b t u s q in cc

lazy_at : (d : Connective) (t u : Ty) → t ≡ Int → u ≡ Int → LazyRow (binary.Lazy d) t u d
lazy_at d t u f g = rw (f, g) (rule.ints d)

pub lazy_given : (b : Binary) (t u : Ty) (c : Connective) → lazy_row b t u ≡ Some c → LazyRow b t u c
lazy_given (binary.Lazy d) t u c e =
    let p = if_some (is_int t && is_int u) d c e in
    let q = both_true (is_int t) (is_int u) p.0 in
    subst (λ (z : Connective). LazyRow (binary.Lazy d) t u z) p.1 (lazy_at d t u (int_is t q.0) (int_is u q.1))
lazy_given _ t u c e = absurd cc

pub lazy_found : (b : Binary) (t u : Ty) (c : Connective) → LazyRow b t u c → lazy_row b t u ≡ Some c
lazy_found _ _ _ _ (rule.ints c) = refl

pub update_given : (o : AssignOp) (t u : Ty) (r : Row) → update_row o t u ≡ Some r → UpdateRow o t u r
update_given o t u r e =
    let b = choose_some (updating o) _ r e in
    let s = choose_some (binary_row b.0 t u) _ r b.2 in
    let p = if_some (same s.0.left t && same s.0.result t) s.0 r s.2 in
    let q = both_true (same s.0.left t) (same s.0.result t) p.0 in
    subst (λ (z : Row). UpdateRow o t u z) p.1 (record {
      sign = b.0;
      updates = b.1;
      row = binary_given b.0 t u s.0 s.1;
      left = only s.0.left t q.0;
      result = only s.0.result t q.1;
    })

pub update_found : (o : AssignOp) (t u : Ty) (r : Row) → UpdateRow o t u r → update_row o t u ≡ Some r
update_found o t u r h = rw (h.updates, binary_found h.sign t u r h.row, h.left, h.result, itself t) refl
