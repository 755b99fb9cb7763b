-- What names in an expression mean by the values that are known.
use Rattle.std.proofs.Common.{◌≡◌, inl, inr, ℕ, List, [], ◌∷◌, ◌++◌, Bool, true, false, if◌then◌else◌, Option, None, Some, option_copied, refl, sym, ap, subst, ◌∙◌, arith}
use Rattle.std.specs.Option.{IfSome, IfNone, is_some}
use Rattle.std.specs.Borrow.{Bor}
use Rattle.std.specs.List.{Contains}
use Rattle.std.proofs.lemmas.List.Elements.{Contains-append_left, Contains-append_right, Contains-push, Contains-push_cases}
use Rattle.limbo_tree.specs.Exprs as tree
use Rattle.limbo_tree.specs.Exprs.{Expr}
use Rattle.limbo_constants.specs.declared.constant.Constant as constant
use Rattle.limbo_entries.specs.Entries.{Entry, AreOnce, Finds}
use Rattle.limbo_naming.specs.Qualified.{Qualified, Simple, of_expr}
use Rattle.limbo_naming.specs.Naming as naming
use Rattle.limbo_naming.specs.Naming.{Names, Lacks}
use Rattle.limbo_naming.proofs.Unique.{one_named, lacks_none}
use Rattle.limbo_constant_values.specs.declared.answers.Answer as code_answer
use Rattle.limbo_constant_values.specs.Values.{iota_name}
use Rattle.limbo_constant_values.specs.Answers.{Pair, IsKnown, IsAnswer, of_name, of_counter, AreAnswers, same_name, answer_in, view_answer, answers_of}
use Rattle.limbo_constant_values.proofs.Meanings.{no_iota}
use Rattle.limbo_constant_values.proofs.Sames.{is_same, same_itself}

lacks_alone : (es : List Entry) (m : ℕ) (scope : Option ℕ) (q : Qualified) (name : List ℕ) → q ≡ Simple name → Lacks es m scope q → (k : ℕ) → Finds es m name scope k → ⊥
lacks_alone es m scope _ name e (naming.unknown n none) k f = let w : n ≡ name = cc in none k (subst (λ (x : List ℕ). Finds es m x scope k) (sym w) f)
lacks_alone es m scope _ name e (naming.no_member q n o x d i y none) k f = absurd cc
lacks_alone es m scope _ name e (naming.no_part q n o x d i y none) k f = absurd cc
lacks_alone es m scope _ name e (naming.before_member q n l) k f = absurd cc
lacks_alone es m scope _ name e (naming.before_part q n l) k f = absurd cc

iota_is : (part : Expr) (q : Qualified) → part ≡ tree.Name iota_name → of_expr part ≡ Some q → q ≡ Simple iota_name
iota_is part q e f = let g : Some (Simple iota_name) ≡ Some q = sym (ap of_expr e) ∙ f in cc

module _ (es : List Entry) (m : ℕ) (once : AreOnce es) (scope : Option ℕ) (counter : Option constant.Constant) (values : List (Option constant.Constant)) where
  abbrev Means : Expr → constant.Constant → Type 0
  Means part c = IsAnswer es m scope counter values part c

  -- a part is a name
  pub has_name : (part : Expr) (c : constant.Constant) → Means part c → (q : Qualified) × (of_expr part ≡ Some q)
  has_name _ _ (of_name part q r c e n k) = (q, e)
  has_name _ _ (of_counter c e none) = (Simple iota_name, refl)

  -- ---- by what a name names

  module _ (part : Expr) (q : Qualified) (is : of_expr part ≡ Some q) where
    known : (c : constant.Constant) (r : ℕ) → Names es m scope q r → Means part c → IsKnown values r c
    known c r n a = go part c a is
      where
        go : (p : Expr) (c : constant.Constant) → Means p c → of_expr p ≡ Some q → IsKnown values r c
        go _ _ (of_name p q' r' c e d k) w =
            let x : q' ≡ q = cc in
            subst (λ (z : ℕ). IsKnown values z c) (one_named es m once scope q r' r (subst (λ (z : Qualified). Names es m scope z r') x d) n) k
        go _ _ (of_counter c e none) w = let x : q ≡ Simple iota_name = cc in absurd (no_iota es m once scope q r none x n)

    pub found_some : (r : ℕ) → Names es m scope q r → (v : Option (Bor constant.Constant)) → IfSome v (λ c. IsKnown values r c.now) → IfSome v (λ c. Means part c.now)
    found_some r n None f = tt
    found_some r n (Some c) f = of_name part q r c.now is n f

    pub found_none : (r : ℕ) → Names es m scope q r → (v : Option (Bor constant.Constant)) → IfNone v ((c : constant.Constant) → IsKnown values r c → ⊥)
        → IfNone v ((c : constant.Constant) → Means part c → ⊥)
    found_none r n None f = λ c a. f c (known c r n a)
    found_none r n (Some c) f = tt

    counts : (c : constant.Constant) → ((r : ℕ) → Names es m scope q r → ⊥) → Means part c → (part ≡ tree.Name iota_name) × (counter ≡ Some c)
        × ((k : ℕ) → Finds es m iota_name scope k → ⊥)
    counts c unnamed a = go part c a is
      where
        go : (p : Expr) (c : constant.Constant) → Means p c → of_expr p ≡ Some q → (p ≡ tree.Name iota_name) × (counter ≡ Some c)
            × ((k : ℕ) → Finds es m iota_name scope k → ⊥)
        go _ _ (of_name p q' r' c e d k) w = let x : q' ≡ q = cc in absurd (unnamed r' (subst (λ (z : Qualified). Names es m scope z r') x d))
        go _ _ (of_counter c e none) w = (refl, e, none)

    pub unknown_some : Lacks es m scope q → (v : Option (Bor constant.Constant)) → IfSome v (λ c. (part ≡ tree.Name iota_name) × (counter ≡ Some c.now))
        → IfSome v (λ c. Means part c.now)
    unknown_some l None f = tt
    unknown_some l (Some c) f =
        subst (λ (z : Expr). Means z c.now) (sym f.0) (of_counter c.now f.1 (lacks_alone es m scope q iota_name (iota_is part q f.0 is) l))

    pub unknown_none : Lacks es m scope q → (v : Option (Bor constant.Constant))
        → IfNone v ((c : constant.Constant) → part ≡ tree.Name iota_name → counter ≡ Some c → ⊥) → IfNone v ((c : constant.Constant) → Means part c → ⊥)
    unknown_none l None f = λ c a. let x = counts c (λ r n. lacks_none es m once scope q r l n) a in f c x.0 x.1
    unknown_none l (Some c) f = tt

    pub nothing_none : (Lacks es m scope q → ⊥) → ((r : ℕ) → Names es m scope q r → ⊥) → (c : constant.Constant) → Means part c → ⊥
    nothing_none l unnamed c a =
        let x = counts c unnamed a in
        l (subst (λ (z : Qualified). Lacks es m scope z) (sym (iota_is part q x.0 is)) (naming.unknown iota_name x.2))

  -- ---- lists of answers

  pub none_yet : AreAnswers es m scope counter values [] []
  none_yet = record {
    sound = λ x c. absurd (empty x c);
    complete = λ part c at a. absurd (empty part at);
  }
    where
      empty : {A : Type 0} → (x : A) → Contains [] x → ⊥
      empty x c = let l = c.1 in absurd (omega arith)

  -- what was found stays, and what is pushed is found
  stays : (xs : List Pair) (y : Pair) (part : Expr) (d : constant.Constant) → answer_in xs part ≡ Some d → answer_in (xs ++ (y ∷ [])) part ≡ Some d
  stays [] y part d h = absurd cc
  stays (x ∷ xs) y part d h = pick (λ g. stays xs y part d g) (same_name x.0 part) h
    where
      pick : (answer_in xs part ≡ Some d → answer_in (xs ++ (y ∷ [])) part ≡ Some d) → (b : Bool) → (if b then Some x.1 else answer_in xs part) ≡ Some d
          → (if b then Some x.1 else answer_in (xs ++ (y ∷ [])) part) ≡ Some d
      pick f true h = h
      pick f false h = f h

  pushed : (xs : List Pair) (part : Expr) (c : constant.Constant) → same_name part part ≡ true → (d : constant.Constant) × (answer_in (xs ++ ((part, c) ∷ [])) part ≡ Some d)
  pushed [] part c h = (c, ap (λ (b : Bool). if b then Some c else None) h)
  pushed (x ∷ xs) part c h = pick (pushed xs part c h) (same_name x.0 part)
    where
      pick : (d : constant.Constant) × (answer_in (xs ++ ((part, c) ∷ [])) part ≡ Some d) → (b : Bool)
          → (d : constant.Constant) × ((if b then Some x.1 else answer_in (xs ++ ((part, c) ∷ [])) part) ≡ Some d)
      pick f true = (x.1, refl)
      pick f false = f

  module _ (parts : List Expr) (xs : List Pair) (are : AreAnswers es m scope counter values parts xs) (part : Expr) where
    at_end : {B : Type 0} → (p : Expr) → Contains (parts ++ (part ∷ [])) p → (Contains parts p → B) → (p ≡ part → B) → B
    at_end p c f g = elim (Contains-push_cases parts part p c) [
      | inl x ↦ f x
      | inr x ↦ g (sym x)
    ]

    -- it means nothing, or was answered before
    pub same_answers : ((c : constant.Constant) → Means part c → (d : constant.Constant) × (answer_in xs part ≡ Some d)) → AreAnswers es m scope counter values (parts ++ (part ∷ [])) xs
    same_answers f = record {
      sound = are.sound;
      complete = λ p c at a. at_end p at (λ x. are.complete p c x a)
          (λ e. subst (λ (z : Expr). (d : constant.Constant) × (answer_in xs z ≡ Some d)) (sym e) (f c (subst (λ (z : Expr). Means z c) e a)));
    }

    pub one_more : (c : constant.Constant) → Means part c → AreAnswers es m scope counter values (parts ++ (part ∷ [])) (xs ++ ((part, c) ∷ []))
    one_more c a = record {
      sound = λ x at. elim (Contains-push_cases xs (part, c) x at) [
        | inl y ↦ are.sound x y
        | inr y ↦ subst (λ (z : Pair). Means z.0 z.1) y a
      ];
      complete = λ p d at b. at_end p at
          (λ x. let y = are.complete p d x b in (y.0, stays xs (part, c) p y.0 y.1))
          (λ e. subst (λ (z : Expr). (d : constant.Constant) × (answer_in (xs ++ ((part, c) ∷ [])) z ≡ Some d)) (sym e)
          (let q = has_name part c a in pushed xs part c (same_itself part q.0 q.1)));
    }

  -- what is found is an answer
  pub found_there : (xs : List Pair) (part : Expr) (c : constant.Constant) → answer_in xs part ≡ Some c → Contains xs (part, c)
  found_there [] part c h = absurd cc
  found_there (x ∷ xs) part c h = pick (λ g. found_there xs part c g) (same_name x.0 part) refl h
    where
      pick : (answer_in xs part ≡ Some c → Contains xs (part, c)) → (b : Bool) → same_name x.0 part ≡ b → (if b then Some x.1 else answer_in xs part) ≡ Some c → Contains (x ∷ xs) (part, c)
      pick f true e h =
          let p : part ≡ x.0 = is_same x.0 part e in
          let d : x.1 ≡ c = cc in
          subst (λ (z : Expr). Contains (x ∷ xs) (z, c)) (sym p) (subst (λ (z : constant.Constant). Contains (x ∷ xs) (x.0, z)) d (Contains-append_left (x ∷ []) xs x (Contains-push [] x)))
      pick f false e h = Contains-append_right (x ∷ []) xs (part, c) (f h)

-- what a test has told of an option
pub answered : (o : Option (Bor constant.Constant)) (b : Bool) (x : Option constant.Constant) → b ≡ is_some o → b ≡ true → option_copied o ≡ x
    → (d : constant.Constant) × (x ≡ Some d)
answered None b x e f g = absurd (let z : true ≡ false = sym f ∙ e in cc)
answered (Some c) b x e f g = (c.now, sym g)

pub answers_pushed : (xs : List code_answer.Answer) (a : code_answer.Answer) → answers_of (xs ++ (a ∷ [])) ≡ answers_of xs ++ (view_answer a ∷ [])
answers_pushed [] a = refl
answers_pushed (x ∷ xs) a = ap (λ ys. view_answer x ∷ ys) (answers_pushed xs a)
