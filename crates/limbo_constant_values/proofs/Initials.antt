-- Initial values that come to constants.
use Rattle.std.proofs.Common.{◌≡◌, ◌<◌, ◌≤◌, ◌+◌, ◌⊎◌, inl, inr, ℕ, List, [], ◌∷◌, ◌++◌, length, Option, None, Some, refl, sym, ap, subst, ◌∙◌, arith}
use Rattle.std.specs.Option.{IfSome, IfNone}
use Rattle.std.proofs.lemmas.Option.{slice_get_within}
use Rattle.std.proofs.lemmas.List.{length-append}
use Rattle.limbo_tree.specs.Exprs.{Expr}
use Rattle.limbo_constants.specs.declared.constant.Constant as constant
use Rattle.limbo_entries.specs.Entries.{Entry, IsEntry, AreOnce}
use Rattle.limbo_entries.specs.View.{entries_of}
use Rattle.limbo_entries.specs.declared.table.Table.{Table}
use Rattle.limbo_naming.specs.declared.naming.Naming.{Naming}
use Rattle.limbo_naming.proofs.Lists.{stands_left, stands_last, stands_push}
use Rattle.limbo_constant_values.specs.Values.{Comes, initial_value}
use Rattle.limbo_constant_values.specs.Answers.{IsKnown}
use Rattle.limbo_constant_values.specs.Initials.{HasInitial, AreInitials}
use Rattle.limbo_constant_values.proofs.Meanings.{same_entry, one_coming}

module _ (n : Naming) (t : Table) (same : n.table.now ≡ t) (k : ℕ) (e : Entry) (there : IsEntry (entries_of t.entries.items) k e) where
  pub no_initial : initial_value e.row.means ≡ None → (c : constant.Constant) → HasInitial (entries_of t.entries.items) n.implemented k c → ⊥
  no_initial h c i =
      let a : e ≡ i.entry = same_entry (entries_of t.entries.items) k e i.entry there i.there in
      let b : None ≡ Some i.expr = sym h ∙ ap (λ (z : Entry). initial_value z.row.means) a ∙ i.written in
      absurd cc

  module _ (expr : Expr) (is : initial_value e.row.means ≡ Some expr) where
    pub initial_is : (c : constant.Constant) → Comes (entries_of n.table.now.entries.items) n.implemented e.within None expr c
        → HasInitial (entries_of t.entries.items) n.implemented k c
    initial_is c w = record {
      entry = e;
      expr = expr;
      there = there;
      written = is;
      comes = subst (λ (z : Table). Comes (entries_of z.entries.items) n.implemented e.within None expr c) same w;
    }

    pub initial_comes : (c : constant.Constant) → HasInitial (entries_of t.entries.items) n.implemented k c
        → Comes (entries_of n.table.now.entries.items) n.implemented e.within None expr c
    initial_comes c i =
        let a : i.entry ≡ e = same_entry (entries_of t.entries.items) k i.entry e i.there there in
        let b : Some i.expr ≡ Some expr = sym i.written ∙ ap (λ (z : Entry). initial_value z.row.means) a ∙ is in
        let d : i.expr ≡ expr = cc in
        subst (λ (z : Table). Comes (entries_of z.entries.items) n.implemented e.within None expr c) (sym same)
        (subst (λ (z : Expr). Comes (entries_of t.entries.items) n.implemented e.within None z c) d
        (subst (λ (z : Entry). Comes (entries_of t.entries.items) n.implemented z.within None i.expr c) a i.comes))

pub one_initial : (es : List Entry) (m : ℕ) (k : ℕ) (c d : constant.Constant) → AreOnce es → HasInitial es m k c → HasInitial es m k d → c ≡ d
one_initial es m k c d once i j =
    let a : j.entry ≡ i.entry = same_entry es k j.entry i.entry j.there i.there in
    let b : Some j.expr ≡ Some i.expr = sym j.written ∙ ap (λ (z : Entry). initial_value z.row.means) a ∙ i.written in
    let f : j.expr ≡ i.expr = cc in
    one_coming es m once i.entry.within None i.expr c d i.comes
    (subst (λ (z : Expr). Comes es m i.entry.within None z d) f (subst (λ (z : Entry). Comes es m z.within None j.expr d) a j.comes))

-- what was found of an initial value
module _ (n : Naming) (t : Table) (same : n.table.now ≡ t) (k : ℕ) (e : Entry) (there : IsEntry (entries_of t.entries.items) k e) (expr : Expr)
    (is : initial_value e.row.means ≡ Some expr) where
  pub some_initial : (v : Option constant.Constant)
      → ((c : constant.Constant) → v ≡ Some c → Comes (entries_of n.table.now.entries.items) n.implemented e.within None expr c)
      → IfSome v (λ c. HasInitial (entries_of t.entries.items) n.implemented k c)
  some_initial None f = tt
  some_initial (Some c) f = initial_is n t same k e there expr is c (f c refl)

  pub none_initial : (v : Option constant.Constant)
      → (v ≡ None → (c : constant.Constant) → Comes (entries_of n.table.now.entries.items) n.implemented e.within None expr c → ⊥)
      → IfNone v ((c : constant.Constant) → HasInitial (entries_of t.entries.items) n.implemented k c → ⊥)
  none_initial None f = λ c i. f refl c (initial_comes n t same k e there expr is c i)
  none_initial (Some d) f = tt

-- ---- one after the other

module _ (es : List Entry) (m : ℕ) (all : List (Option constant.Constant)) (x : Option constant.Constant) where
  pub known_more : IfSome x (λ c. HasInitial es m (length all) c) → ((k : ℕ) (c : constant.Constant) → IsKnown all k c → HasInitial es m k c)
      → (k : ℕ) (c : constant.Constant) → IsKnown (all ++ (x ∷ [])) k c → HasInitial es m k c
  known_more here before k c h = elim (stands_push all x k (Some c) h) [
    | inl y ↦ before k c y
    | inr y ↦
        subst (λ (z : ℕ). HasInitial es m z c) (sym y.0)
        (subst (λ (z : Option constant.Constant). IfSome z (λ d. HasInitial es m (length all) d)) y.1 here)
  ]

  pub complete_more : IfNone x ((c : constant.Constant) → HasInitial es m (length all) c → ⊥) → IfSome x (λ c. HasInitial es m (length all) c)
      → ((c d : constant.Constant) → HasInitial es m (length all) c → HasInitial es m (length all) d → c ≡ d)
      → ((k : ℕ) (c : constant.Constant) → k < length all → HasInitial es m k c → IsKnown all k c)
      → (k : ℕ) (c : constant.Constant) → k < length all + 1 → HasInitial es m k c → IsKnown (all ++ (x ∷ [])) k c
  complete_more none some one before k c l h = elim (at_or k (length all) l) [
    | inl y ↦ stands_left all (x ∷ []) k (Some c) (before k c y h)
    | inr y ↦
        let i = subst (λ (z : ℕ). HasInitial es m z c) y h in
        subst (λ (z : ℕ). IsKnown (all ++ (x ∷ [])) z c) (sym y) (stands_last all x ∙ ap Some (is_some x none some i))
  ]
    where
      at_or : (a b : ℕ) → a < b + 1 → (a < b) ⊎ (a ≡ b)
      at_or a b l = grind arith

      is_some : (y : Option constant.Constant) → IfNone y ((c : constant.Constant) → HasInitial es m (length all) c → ⊥)
          → IfSome y (λ c. HasInitial es m (length all) c) → HasInitial es m (length all) c → y ≡ Some c
      is_some None n s i = absurd (n c i)
      is_some (Some d) n s i = ap Some (one d c s i)

-- the initial values of the first declarations, so many of them
pub record AreInitialsTo (es : List Entry) (m k : ℕ) (all : List (Option constant.Constant)) : Type 0 where
  pub as_many : length all ≡ k
  pub known : (j : ℕ) (c : constant.Constant) → IsKnown all j c → HasInitial es m j c
  pub complete : (j : ℕ) (c : constant.Constant) → j < k → HasInitial es m j c → IsKnown all j c

pub none_yet : (es : List Entry) (m : ℕ) → AreInitialsTo es m 0 []
none_yet es m = record {
  as_many = refl;
  known = λ j c h. absurd (nothing j c h);
  complete = λ j c l h. absurd (omega arith);
}
  where
    nothing : (j : ℕ) (c : constant.Constant) → IsKnown [] j c → ⊥
    nothing j c h = cc

pub one_more : (es : List Entry) (m n k : ℕ) (x : Option constant.Constant) (all : List (Option constant.Constant)) → n ≡ m → AreOnce es
    → IfSome x (λ c. HasInitial es n k c) → IfNone x ((c : constant.Constant) → HasInitial es n k c → ⊥) → AreInitialsTo es m k all
    → AreInitialsTo es m (k + 1) (all ++ (x ∷ []))
one_more es m n k x all same once some none to =
    let a = to.as_many in
    let s : IfSome x (λ c. HasInitial es m (length all) c) =
    subst (λ (z : ℕ). IfSome x (λ c. HasInitial es m z c)) (sym a) (subst (λ (z : ℕ). IfSome x (λ c. HasInitial es z k c)) same some) in
    let f : IfNone x ((c : constant.Constant) → HasInitial es m (length all) c → ⊥) =
    subst (λ (z : ℕ). IfNone x ((c : constant.Constant) → HasInitial es m z c → ⊥)) (sym a)
    (subst (λ (z : ℕ). IfNone x ((c : constant.Constant) → HasInitial es z k c → ⊥)) same none) in
    record {
      as_many = simp length-append (omega arith);
      known = known_more es m all x s to.known;
      complete = λ j c l h.
          complete_more es m all x f s (λ c d i j. one_initial es m (length all) c d once i j) (λ j c l h. to.complete j c (omega arith) h) j c (omega arith) h;
    }

pub all_known : (es : List Entry) (m k : ℕ) (all : List (Option constant.Constant)) → length es ≤ k → AreInitialsTo es m k all → AreInitials es m all
all_known es m k all l to = record {
  known = to.known;
  complete = λ j c i. let w = slice_get_within es j i.entry i.there in to.complete j c (omega arith) i;
}
