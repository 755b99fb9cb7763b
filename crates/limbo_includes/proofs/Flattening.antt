-- Texts flatten in parts, and to one row.
use Rattle.std.proofs.Common.{◌≡◌, ℕ, zero, suc, ◌+◌, List, [], ◌∷◌, ◌++◌, Option, None, Some, refl, sym, ap, subst, ◌∙◌, append_assoc, arith}
use Rattle.std.specs.List.{Contains}
use Rattle.std.proofs.lemmas.List.{append-nil}
use Rattle.std.proofs.lemmas.Option.{same_Some}
use Rattle.inf_text.specs.declared.span.Span.{Span}
use Rattle.limbo_tree.specs.declared.source.Top.{Top}
use Rattle.limbo_tree.specs.declared.source.Top.TheVariants.{Include, Declare, Define}
use Rattle.limbo_includes.specs.declared.included.Included.{Included}
use Rattle.limbo_includes.specs.Includes.{target, tops_at, Given, Leads, to_given, to_included, IsWhole, Standing, Flattens, nothing, declaration, text}
use Rattle.limbo_includes.specs.Laws.{OneRow, WholeHasRow}
use Rattle.limbo_includes.proofs.Lists.{contains_here, contains_there}

pub flat_join :
    (included : List Included) (path : List ℕ) (xs ys : List Top) (a b : List Standing)
    → Flattens included path xs a → Flattens included path ys b → Flattens included path (xs ++ ys) (a ++ b)
flat_join included path _ ys _ b (nothing _) g = g
flat_join included path _ ys _ b (declaration _ top tops rest n f) g =
    declaration path top (tops ++ ys) (rest ++ b) n (flat_join included path tops ys rest b f g)
flat_join included path _ ys _ b (text _ name at tops inner row rest e f h) g =
    subst (λ (z : List Standing). Flattens included path (Include name at ∷ (tops ++ ys)) z) (sym (append_assoc row rest b))
    (text path name at (tops ++ ys) inner row (rest ++ b) e f (flat_join included path tops ys rest b h g))

pub record Parts (included : List Included) (path : List ℕ) (xs ys : List Top) (all : List Standing) : Type 0 where
  pub left : List Standing
  pub right : List Standing
  pub flat_left : Flattens included path xs left
  pub flat_right : Flattens included path ys right
  pub whole : all ≡ left ++ right

pub flat_split :
    (included : List Included) (path : List ℕ) (xs ys : List Top) (all : List Standing)
    → Flattens included path (xs ++ ys) all → Parts included path xs ys all
flat_split included path [] ys all f = record { left = []; right = all; flat_left = nothing path; flat_right = f; whole = refl }
flat_split included path (x ∷ xs) ys _ (declaration _ _ _ rest n f) =
    let r = flat_split included path xs ys rest f in
    record {
      left = record { path = path; top = x } ∷ r.left;
      right = r.right;
      flat_left = declaration path x xs r.left n r.flat_left;
      flat_right = r.flat_right;
      whole = ap (λ (z : List Standing). record { path = path; top = x } ∷ z) r.whole;
    }
flat_split included path (_ ∷ xs) ys _ (text _ name at _ inner row rest e f h) =
    let r = flat_split included path xs ys rest h in
    record {
      left = row ++ r.left;
      right = r.right;
      flat_left = text path name at xs inner row r.left e f r.flat_left;
      flat_right = r.flat_right;
      whole = ap (λ (z : List Standing). row ++ z) r.whole ∙ sym (append_assoc row r.left r.right);
    }

pub flat_one :
    (included : List Included) (path : List ℕ) (tops : List Top) (a b : List Standing)
    → Flattens included path tops a → Flattens included path tops b → a ≡ b
flat_one included path _ _ _ (nothing _) (nothing _) = refl
flat_one included path _ _ _ (declaration _ top tops rest n f) (declaration _ _ _ rest' n' f') =
    ap (λ (z : List Standing). record { path = path; top = top } ∷ z) (flat_one included path tops rest rest' f f')
flat_one included path _ _ _ (declaration _ _ tops rest n f) (text _ name at _ inner row rest' e f' h') = absurd cc
flat_one included path _ _ _ (text _ name at tops inner row rest e f h) (declaration _ _ _ rest' n' f') = absurd cc
flat_one included path _ _ _ (text _ name at tops inner row rest e f h) (text _ _ _ _ inner' row' rest' e' f' h') =
    let i : inner' ≡ inner = same_Some inner' inner (sym e' ∙ e) in
    let r : row ≡ row' = flat_one included (target path name) inner row row' f (subst (λ (z : List Top). Flattens included (target path name) z row') i f') in
    let s : rest ≡ rest' = flat_one included path tops rest rest' h h' in
    ap (λ (z : List Standing). z ++ rest) r ∙ ap (λ (z : List Standing). row' ++ z) s

pub one_row : OneRow
one_row included path tops a b f g = flat_one included path tops a b f g

-- what the one include flattens to is what the text that it names does
pub flat_text :
    (included : List Included) (path name : List ℕ) (at : Span) (inner : List Top) (row all : List Standing)
    → tops_at included (target path name) ≡ Some inner → Flattens included (target path name) inner row
    → Flattens included path (Include name at ∷ []) all → all ≡ row
flat_text included path name at inner row all e f g =
    flat_one included path (Include name at ∷ []) all (row ++ []) g (text path name at [] inner row [] e f (nothing path)) ∙ append-nil row

pub flat_only :
    (included : List Included) (path name : List ℕ) (at : Span) (inner : List Top) (all : List Standing)
    → tops_at included (target path name) ≡ Some inner → Flattens included path (Include name at ∷ []) all
    → Flattens included (target path name) inner all
flat_only included path name at inner _ e (declaration _ _ _ _ n f) = absurd cc
flat_only included path name at inner _ e (text _ _ _ _ inner' row _ e' f (nothing _)) =
    let i : inner' ≡ inner = same_Some inner' inner (sym e' ∙ e) in
    subst (λ (z : List Standing). Flattens included (target path name) inner z) (sym (append-nil row))
    (subst (λ (z : List Top). Flattens included (target path name) z row) i f)

-- ---- a whole source has a row

pub row_of :
    (g : Given) (w : IsWhole g) (n : ℕ) (path : List ℕ) (tops : List Top) → Leads g n path tops
    → ((name : List ℕ) (at : Span) (inner : List Top) → Contains tops (Include name at) → tops_at g.included (target path name) ≡ Some inner
    → (row : List Standing) × Flattens g.included (target path name) inner row)
    → (ts : List Top) → ((name : List ℕ) (at : Span) → Contains ts (Include name at) → Contains tops (Include name at))
    → (row : List Standing) × Flattens g.included path ts row
row_of g w n path tops l rows [] s = ([], nothing path)
row_of g w n path tops l rows (Declare d ∷ ts) s =
    let r = row_of g w n path tops l rows ts (λ name at c. s name at (contains_there (Declare d) (Include name at) ts c)) in
    (record { path = path; top = Declare d } ∷ r.0, declaration path (Declare d) ts r.0 refl r.1)
row_of g w n path tops l rows (Define f ∷ ts) s =
    let r = row_of g w n path tops l rows ts (λ name at c. s name at (contains_there (Define f) (Include name at) ts c)) in
    (record { path = path; top = Define f } ∷ r.0, declaration path (Define f) ts r.0 refl r.1)
row_of g w n path tops l rows (Include name at ∷ ts) s =
    pick (row_of g w n path tops l rows ts (λ m a c. s m a (contains_there (Include name at) (Include m a) ts c))) (tops_at g.included (target path name)) refl
  where
    here : Contains tops (Include name at)
    here = s name at (contains_here (Include name at) ts)

    pick : (row : List Standing) × Flattens g.included path ts row → (o : Option (List Top)) → tops_at g.included (target path name) ≡ o
        → (row : List Standing) × Flattens g.included path (Include name at ∷ ts) row
    pick r None e = absurd (w.there path at (record { depth = n; tops = tops; name = name; leads = l; stands = here; missing = e }))
    pick r (Some inner) e = let i = rows name at inner here e in (i.0 ++ r.0, text path name at ts inner i.0 r.0 e i.1 r.1)

row_within :
    (g : Given) (w : IsWhole g) (fuel n : ℕ) → fuel + n ≡ 16 → (path : List ℕ) (tops : List Top) → Leads g n path tops
    → (row : List Standing) × Flattens g.included path tops row
row_within g w zero n e path tops l =
    row_of g w n path tops l
    (λ name at inner c t. absurd (w.nested (record { path = path; tops = tops; name = name; at = at; leads = subst (λ (z : ℕ). Leads g z path tops) (let q : n ≡ 16 = omega arith in q) l; stands = c })))
    tops (λ name at c. c)
row_within g w (suc fuel) n e path tops l =
    row_of g w n path tops l
    (λ name at inner c t. row_within g w fuel (suc n) (omega arith) (target path name) inner (to_included n path name at tops inner l c t))
    tops (λ name at c. c)

pub whole_has_row : WholeHasRow
whole_has_row g w = row_within g w 16 0 refl g.path g.source to_given
