-- A constant has at most one value.
use Rattle.std.proofs.Common.{◌≡◌, ℕ, List, [], ◌∷◌, ◌++◌, Option, None, Some, get_or, option_map, refl, sym, ap, subst, ◌∙◌}
use Rattle.std.specs.Prelude.{All}
use Rattle.std.specs.List.{Contains}
use Rattle.std.proofs.lemmas.List.Elements.{All-nil, All-cons, All-head, All-tail, All-contains, Contains-get_or}
use Rattle.inf_text.specs.Options.{◌>>=◌}
use Rattle.limbo_tree.specs.Exprs as tree
use Rattle.limbo_tree.specs.Exprs.{Expr, Exprs}
use Rattle.limbo_constants.specs.declared.constant.Constant as constant
use Rattle.limbo_constants.specs.declared.constant.Outcome.{Outcome}
use Rattle.limbo_constants.specs.declared.constant.Outcome.TheVariants.{Gives}
use Rattle.limbo_constants.specs.Constants.{Meant, unary, binary, outcome, outcome_of_one, constant_in, value_in}
use Rattle.limbo_constants.specs.Asked.{asked, asked_of_one}
use Rattle.limbo_constants.proofs.Depends.{depends_on_asked}
use Rattle.limbo_declarations.specs.Rows as rows
use Rattle.limbo_entries.specs.Entries.{Entry, IsEntry, AreOnce, Finds}
use Rattle.limbo_naming.specs.Qualified.{Qualified, Simple, of_expr}
use Rattle.limbo_naming.specs.Naming.{Names}
use Rattle.limbo_naming.proofs.Unique.{one_named, found_first}
use Rattle.limbo_constant_values.specs.Values.{HasValue, value, Comes, comes, IsMeant, named, counted, iota_name, counted_value}

some_given : (x : Option constant.Constant) (o : Outcome) → option_map Gives x ≡ Some o → (a : constant.Constant) × (x ≡ Some a)
some_given None o h = absurd cc
some_given (Some a) o h = (a, refl)

some_first : {A B : Type 0} → (x : Option A) (f : A → Option B) (b : B) → x >>= f ≡ Some b → (a : A) × (x ≡ Some a) × (f a ≡ Some b)
some_first None f b h = absurd cc
some_first (Some a) f b h = (a, refl, h)

all_both : {A : Type 0} (P : A → Type 0) (xs ys : List A) → All P xs → All P ys → All P (xs ++ ys)
all_both P [] ys f g = g
all_both P (x ∷ xs) ys f g = All-cons P x (xs ++ ys) (All-head P x xs f) (all_both P xs ys (All-tail P x xs f) g)

-- whoever is asked for means something, where an expression comes to something
module _ (meant : Meant) where
  abbrev Means : Expr → Type 0
  Means part = (a : constant.Constant) × (meant part ≡ Some a)

  alone : (part : Expr) (o : Outcome) → option_map Gives (meant part) ≡ Some o → All Means (part ∷ [])
  alone part o h = All-cons Means part [] (some_given (meant part) o h) (All-nil Means)

  mutual
    pub all_mean : (e : Expr) (o : Outcome) → outcome meant e ≡ Some o → All Means (asked e)
    all_mean (tree.Name n) o h = alone (tree.Name n) o h
    all_mean (tree.Arrow x n) o h = alone (tree.Arrow x n) o h
    all_mean (tree.Dot x n) o h = alone (tree.Dot x n) o h
    all_mean (tree.Group es) o h = all_mean_one es o h
    all_mean (tree.Unary p e) o h = let x = some_first (outcome meant e) (λ y. unary p y) o h in all_mean e x.0 x.1
    all_mean (tree.Binary p l r) o h =
        let x = some_first (outcome meant l) (λ y. outcome meant r >>= λ z. binary p y z) o h in
        let y = some_first (outcome meant r) (λ z. binary p x.0 z) o x.2 in
        all_both Means (asked l) (asked r) (all_mean l x.0 x.1) (all_mean r y.0 y.1)
    all_mean _ o h = All-nil Means

    pub all_mean_one : (es : Exprs) (o : Outcome) → outcome_of_one meant es ≡ Some o → All Means (asked_of_one es)
    all_mean_one tree.NoExprs o h = All-nil Means
    all_mean_one (tree.MoreExprs e tree.NoExprs) o h = all_mean e o h
    all_mean_one (tree.MoreExprs e (tree.MoreExprs f es)) o h = All-nil Means

  pub all_constant : (e : Expr) (c : constant.Constant) → constant_in meant e ≡ Some c → All Means (asked e)
  all_constant e c h = let x = some_first (outcome meant e) value_in c h in all_mean e x.0 x.1

pub found_mean : (meant : Meant) (e : Expr) (c : constant.Constant) → constant_in meant e ≡ Some c → (part : Expr) → Contains (asked e) part
    → (a : constant.Constant) × (meant part ≡ Some a)
found_mean meant e c h part at = All-contains (λ x. (a : constant.Constant) × (meant x ≡ Some a)) (asked e) part (all_constant meant e c h) at

pub same_constant : (meant other : Meant) (e : Expr) → All (λ part. meant part ≡ other part) (asked e) → constant_in meant e ≡ constant_in other e
same_constant meant other e h = ap (λ x. x >>= value_in) (depends_on_asked meant other e h)

pub same_entry : (es : List Entry) (k : ℕ) (a b : Entry) → IsEntry es k a → IsEntry es k b → a ≡ b
same_entry es k a b f g = cc

module _ (es : List Entry) (m : ℕ) where
  -- what has a value comes to it
  pub coming : (k : ℕ) (e : Entry) (expr : Expr) (i : ℕ) (c : constant.Constant) → IsEntry es k e → e.row.means ≡ rows.Constant expr i → HasValue es m k c
      → Comes es m e.within (Some i) expr c
  coming _ e expr i _ t w (value k f expr' i' c u x y) =
      let a : f ≡ e = same_entry es k f e u t in
      let b : rows.Constant expr' i' ≡ rows.Constant expr i = sym x ∙ ap (λ (z : Entry). z.row.means) a ∙ w in
      let p : expr' ≡ expr = cc in
      let q : i' ≡ i = cc in
      subst (λ (z : ℕ). Comes es m e.within (Some z) expr c) q
      (subst (λ (z : Expr). Comes es m e.within (Some i') z c) p (subst (λ (z : Entry). Comes es m z.within (Some i') expr' c) a y))

  abbrev pub Meanings : Option ℕ → Option ℕ → Expr → constant.Constant → Type 0
  Meanings scope iota expr c = (meant : Meant)
      × ((part : Expr) (a : constant.Constant) → Contains (asked expr) part → meant part ≡ Some a → IsMeant es m scope iota part a)
      × (constant_in meant expr ≡ Some c)

  pub meanings : (scope iota : Option ℕ) (expr : Expr) (c : constant.Constant) → Comes es m scope iota expr c → Meanings scope iota expr c
  meanings _ _ _ _ (comes scope iota expr c meant f h) = (meant, f, h)

  abbrev pub Naming : Option ℕ → Option ℕ → Expr → constant.Constant → Type 0
  Naming scope iota part a = (q : Qualified) × (r : ℕ) × (of_expr part ≡ Some q) × Names es m scope q r × HasValue es m r a

  module _ (once : AreOnce es) where
    pub no_iota : (scope : Option ℕ) (q : Qualified) (r : ℕ) → ((k : ℕ) → Finds es m iota_name scope k → ⊥) → q ≡ Simple iota_name → Names es m scope q r → ⊥
    no_iota scope q r none w n = let x = found_first es m once scope q iota_name r n w in none x.0 x.1

    -- what a part means that names something
    pub by_name : (scope iota : Option ℕ) (part : Expr) (q : Qualified) (r : ℕ) (a : constant.Constant) → of_expr part ≡ Some q → Names es m scope q r
        → IsMeant es m scope iota part a → HasValue es m r a
    by_name _ _ _ q r _ w n (named scope iota part q' r' a x y z) =
        let p : q' ≡ q = cc in
        subst (λ (u : ℕ). HasValue es m u a) (one_named es m once scope q r' r (subst (λ (u : Qualified). Names es m scope u r') p y) n) z
    by_name _ _ _ q r _ w n (counted scope i none) = let p : q ≡ Simple iota_name = cc in absurd (no_iota scope q r none p n)

    by_count : (scope iota : Option ℕ) (part : Expr) (i : ℕ) (a : constant.Constant) → part ≡ tree.Name iota_name → iota ≡ Some i
        → ((k : ℕ) → Finds es m iota_name scope k → ⊥) → IsMeant es m scope iota part a → counted_value i ≡ a
    by_count _ _ _ i _ w e none (named scope iota part q r a x y z) =
        let p : Some (Simple iota_name) ≡ Some q = sym (ap of_expr w) ∙ x in
        let q' : q ≡ Simple iota_name = cc in
        absurd (no_iota scope q r none q' y)
    by_count _ _ _ i _ w e none (counted scope j none') = let p : i ≡ j = cc in ap counted_value p

    mutual
      pub one_value : (k : ℕ) (c d : constant.Constant) → HasValue es m k c → HasValue es m k d → c ≡ d
      one_value _ _ d (value k e expr i c t w x) y = one_coming e.within (Some i) expr c d x (coming k e expr i d t w y)

      pub one_coming : (scope iota : Option ℕ) (expr : Expr) (c d : constant.Constant) → Comes es m scope iota expr c → Comes es m scope iota expr d → c ≡ d
      one_coming _ _ _ _ d (comes scope iota expr c meant f h) y =
          let z = meanings scope iota expr d y in
          let same : All (λ part. meant part ≡ z.0 part) (asked expr) = λ k x l.
          let a = all_constant meant expr c h k x l in
          let b = all_constant z.0 expr d z.2 k x l in
          let at = Contains-get_or (asked expr) k x l in
          a.1 ∙ ap Some (one_meaning scope iota (get_or (asked expr) k x) a.0 b.0 (f (get_or (asked expr) k x) a.0 at a.1) (z.1 (get_or (asked expr) k x) b.0 at b.1)) ∙ sym b.1 in
          let e : Some c ≡ Some d = sym h ∙ same_constant meant z.0 expr same ∙ z.2 in
          cc

      pub one_meaning : (scope iota : Option ℕ) (part : Expr) (a b : constant.Constant) → IsMeant es m scope iota part a → IsMeant es m scope iota part b → a ≡ b
      one_meaning _ _ _ _ b (named scope iota part q r a w n v) y = one_value r a b v (by_name scope iota part q r b w n y)
      one_meaning _ _ _ _ b (counted scope i none) y = by_count scope (Some i) (tree.Name iota_name) i b refl refl none y
