-- What a function takes and answers, and which types exceptions carry, is one thing at most.
use Rattle.std.proofs.Common.{◌≡◌, ℕ, Bool, List, [], ◌∷◌, Option, refl, ap, ◌∙◌}
use Rattle.limbo_tree.specs.Types as tree
use Rattle.limbo_tree.specs.Decls as decls
use Rattle.limbo_types.specs.Types.{Ty, Tys, FnTy, Tuple}
use Rattle.limbo_types.specs.View.{tys_of}
use Rattle.limbo_entries.specs.Entries.{Entry, AreOnce}
use Rattle.limbo_type_names.specs.Means as means
use Rattle.limbo_type_names.specs.Means.{AllMean}
use Rattle.limbo_type_names.proofs.Unique.{one_type}
use Rattle.limbo_headers.specs.Headers.{AnswerMeans, no_answer, an_answer, IsHeader}

tys_same : (xs ys : List Ty) → tys_of xs ≡ tys_of ys → xs ≡ ys
tys_same [] [] h = refl
tys_same [] (y ∷ ys) h = absurd cc
tys_same (x ∷ xs) [] h = absurd cc
tys_same (x ∷ xs) (y ∷ ys) h =
    let p : x ≡ y = cc in
    let q : tys_of xs ≡ tys_of ys = cc in
    ap (λ z. z ∷ xs) p ∙ ap (λ zs. y ∷ zs) (tys_same xs ys q)

same_fn : (a b : FnTy) → a.args ≡ b.args → a.answer ≡ b.answer → a ≡ b
same_fn a b p q = ap (λ (z : List Ty). let r : FnTy = record { args = z; answer = a.answer } in r) p
    ∙ ap (λ (z : Ty). let r : FnTy = record { args = b.args; answer = z } in r) q

module _ (es : List Entry) (m : ℕ) (once : AreOnce es) where
  pub all_one : (scope : Option ℕ) (ts : tree.Tys) (us vs : Tys) → AllMean es m scope ts us → AllMean es m scope ts vs → us ≡ vs
  all_one scope ts us vs a b =
      let p : Tuple us ≡ Tuple vs =
      one_type es m once scope (tree.Tuple ts) (Tuple us) (Tuple vs) (means.tuple scope ts us a) (means.tuple scope ts vs b) in
      cc

  one_answer : (scope : Option ℕ) (t : Option tree.Ty) (u v : Ty) → AnswerMeans es m scope t u → AnswerMeans es m scope t v → u ≡ v
  one_answer scope _ _ _ no_answer no_answer = refl
  one_answer scope _ _ _ (an_answer t u a) (an_answer _ v b) = one_type es m once scope t u v a b

  pub one_header : (scope : Option ℕ) (f : decls.FnType) (a b : FnTy) (s r : Bool) → IsHeader es m scope f a s → IsHeader es m scope f b r
      → a ≡ b
  one_header scope f a b s r h i =
      same_fn a b (tys_same a.args b.args (all_one scope _ (tys_of a.args) (tys_of b.args) h.args i.args)) (one_answer scope f.answer
      a.answer b.answer h.answer i.answer)
