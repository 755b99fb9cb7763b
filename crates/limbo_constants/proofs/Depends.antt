-- What an expression comes to depends on nothing but what its asked parts mean.
use Rattle.std.proofs.Common.{◌≡◌, List, [], ◌∷◌, ◌++◌, option_map, refl, ap, ap₂}
use Rattle.std.specs.Prelude.{All}
use Rattle.std.proofs.lemmas.List.Elements.{All-nil, All-cons, All-head, All-tail}
use Rattle.inf_text.specs.Options.{◌>>=◌}
use Rattle.limbo_tree.specs.Exprs as tree
use Rattle.limbo_constants.specs.declared.constant.Outcome.TheVariants.{Gives}
use Rattle.limbo_constants.specs.Constants.{Meant, unary, binary, outcome, outcome_of_one}
use Rattle.limbo_constants.specs.Asked.{asked, asked_of_one}
use Rattle.limbo_constants.specs.Laws.{DependsOnAsked}

-- of all of two lists, what holds of all of both
pub all_first : {A : Type 0} (P : A → Type 0) (xs ys : List A) → All P (xs ++ ys) → All P xs
all_first P [] ys h = All-nil P
all_first P (x ∷ xs) ys h = All-cons P x xs (All-head P x (xs ++ ys) h) (all_first P xs ys (All-tail P x (xs ++ ys) h))

pub all_second : {A : Type 0} (P : A → Type 0) (xs ys : List A) → All P (xs ++ ys) → All P ys
all_second P [] ys h = h
all_second P (x ∷ xs) ys h = all_second P xs ys (All-tail P x (xs ++ ys) h)

module _ (meant other : Meant) where
  abbrev Agrees : tree.Expr → Type 0
  Agrees part = meant part ≡ other part

  mutual
    depends : (e : tree.Expr) → All Agrees (asked e) → outcome meant e ≡ outcome other e
    depends (tree.Name n) h = ap (option_map Gives) (All-head Agrees _ [] h)
    depends (tree.Arrow x n) h = ap (option_map Gives) (All-head Agrees _ [] h)
    depends (tree.Dot x n) h = ap (option_map Gives) (All-head Agrees _ [] h)
    depends (tree.Group es) h = depends_one es h
    depends (tree.Unary o e) h = ap (λ x. x >>= λ x. unary o x) (depends e h)
    depends (tree.Binary o l r) h =
        let left = depends l (all_first Agrees (asked l) (asked r) h) in
        let right = depends r (all_second Agrees (asked l) (asked r) h) in
        ap₂ (λ x y. x >>= λ x. y >>= λ y. binary o x y) left right
    depends (tree.Number v wide) h = refl
    depends (tree.Chars t) h = refl
    depends _ h = refl

    depends_one : (es : tree.Exprs) → All Agrees (asked_of_one es) → outcome_of_one meant es ≡ outcome_of_one other es
    depends_one tree.NoExprs h = refl
    depends_one (tree.MoreExprs e tree.NoExprs) h = depends e h
    depends_one (tree.MoreExprs e (tree.MoreExprs f es)) h = refl

pub depends_on_asked : DependsOnAsked
depends_on_asked meant other e h = depends meant other e h
