-- Rows of what declarations need.
use Rattle.std.proofs.Common.{◌≡◌, inl, inr, ℕ, List, [], ◌∷◌, ◌++◌, Option, None, Some, length, slice_get, refl, sym, ap, subst, ◌∙◌, Vec, Global, arith}
use Rattle.std.specs.List.{Contains}
use Rattle.std.proofs.lemmas.List.Elements.{Contains-append_left, Contains-push, Contains-push_cases}
use Rattle.limbo_tree.specs.Exprs.{Expr}
use Rattle.limbo_order.specs.View.{rows}
use Rattle.limbo_constants.specs.Asked.{asked}
use Rattle.limbo_declarations.specs.Rows as told
use Rattle.limbo_entries.specs.Entries.{Entry, IsEntry}
use Rattle.limbo_entries.specs.View.{entries_of}
use Rattle.limbo_entries.specs.declared.table.Table.{Table}
use Rattle.limbo_naming.specs.Qualified.{Qualified, of_expr}
use Rattle.limbo_naming.specs.Naming.{Names}
use Rattle.limbo_naming.specs.Told.{TellsOf, Knows}
use Rattle.limbo_naming.specs.declared.naming.Named.TheVariants as named
use Rattle.limbo_naming.specs.declared.naming.Naming.{Naming}
use Rattle.limbo_naming.proofs.Unique.{one_named, lacks_none}
use Rattle.limbo_naming.proofs.Lists.{stands_push}
use Rattle.limbo_constant_values.proofs.Meanings.{same_entry}
use Rattle.limbo_constant_values.specs.Asking.{NamesPart, AreNeeds, AreNeedsOf}

pub rows_pushed : (vs : List (Vec ℕ Global)) (v : Vec ℕ Global) → rows (vs ++ (v ∷ [])) ≡ rows vs ++ (v.items ∷ [])
rows_pushed [] v = refl
rows_pushed (w ∷ vs) v = ap (λ xs. w.items ∷ xs) (rows_pushed vs v)

pub rows_many : (vs : List (Vec ℕ Global)) → length (rows vs) ≡ length vs
rows_many [] = refl
rows_many (w ∷ vs) = let e = rows_many vs in omega arith

-- one row more
pub each_pushed : (n : Naming) (vs : List (Vec ℕ Global)) (v : Vec ℕ Global)
    → ((k : ℕ) (row : List ℕ) → slice_get (rows vs) k ≡ Some row → AreNeedsOf n k row) → AreNeedsOf n (length vs) v.items
    → (k : ℕ) (row : List ℕ) → slice_get (rows (vs ++ (v ∷ []))) k ≡ Some row → AreNeedsOf n k row
each_pushed n vs v f a k row h = elim (stands_push (rows vs) v.items k row (subst (λ (z : List (List ℕ)). slice_get z k ≡ Some row) (rows_pushed vs v) h)) [
  | inl x ↦ f k row x
  | inr x ↦ subst (λ (z : List ℕ). AreNeedsOf n k z) x.1 (subst (λ (z : ℕ). AreNeedsOf n z v.items) (sym (x.0 ∙ rows_many vs)) a)
]

module _ (n : Naming) (scope : Option ℕ) (parts : List Expr) (row : List ℕ) (are : AreNeeds n scope parts row) (part : Expr) where
  -- the part names something
  pub need_more : (r : ℕ) → NamesPart n scope part r → ((s : ℕ) → NamesPart n scope part s → s ≡ r) → AreNeeds n scope (parts ++ (part ∷ [])) (row ++ (r ∷ []))
  need_more r a one = record {
    sound = λ s h. elim (Contains-push_cases row r s h) [
      | inl x ↦ let y = are.sound s x in (y.0, Contains-append_left parts (part ∷ []) y.0 y.1, y.2)
      | inr e ↦ (part, Contains-push parts part, subst (λ (z : ℕ). NamesPart n scope part z) e a)
    ];
    complete = λ p s h b. elim (Contains-push_cases parts part p h) [
      | inl x ↦ Contains-append_left row (r ∷ []) s (are.complete p s x b)
      | inr e ↦ subst (λ (z : ℕ). Contains (row ++ (r ∷ [])) z) (sym (one s (subst (λ (z : Expr). NamesPart n scope z s) (sym e) b))) (Contains-push row r)
    ];
  }

  -- the part names nothing
  pub need_same : ((s : ℕ) → NamesPart n scope part s → ⊥) → AreNeeds n scope (parts ++ (part ∷ [])) row
  need_same none = record {
    sound = λ s h. let y = are.sound s h in (y.0, Contains-append_left parts (part ∷ []) y.0 y.1, y.2);
    complete = λ p s h b. elim (Contains-push_cases parts part p h) [
      | inl x ↦ are.complete p s x b
      | inr e ↦ absurd (none s (subst (λ (z : Expr). NamesPart n scope z s) (sym e) b))
    ];
  }

-- ---- by what was told of a part

module _ (n : Naming) (knows : Knows n) (scope : Option ℕ) (part : Expr) (q : Qualified) (is : of_expr part ≡ Some q) where
  pub found_part : (r : ℕ) → TellsOf n scope q (named.Found r) → NamesPart n scope part r
  found_part r t = (q, is, t)

  pub one_part : (r : ℕ) → TellsOf n scope q (named.Found r) → (s : ℕ) → NamesPart n scope part s → s ≡ r
  one_part r t s w =
      let e : w.0 ≡ q = let f = w.1 in cc in
      one_named (entries_of n.table.now.entries.items) n.implemented knows.sight.once scope q s r
      (subst (λ (z : Qualified). Names (entries_of n.table.now.entries.items) n.implemented scope z s) e w.2) t

  pub none_unknown : TellsOf n scope q named.Unknown → (s : ℕ) → NamesPart n scope part s → ⊥
  none_unknown t s w =
      let e : w.0 ≡ q = let f = w.1 in cc in
      lacks_none (entries_of n.table.now.entries.items) n.implemented knows.sight.once scope q s t
      (subst (λ (z : Qualified). Names (entries_of n.table.now.entries.items) n.implemented scope z s) e w.2)

  pub none_nothing : TellsOf n scope q named.Nothing → (s : ℕ) → NamesPart n scope part s → ⊥
  none_nothing t s w =
      let e : w.0 ≡ q = let f = w.1 in cc in
      t.1 s (subst (λ (z : Qualified). Names (entries_of n.table.now.entries.items) n.implemented scope z s) e w.2)

pub none_no_name : (n : Naming) (scope : Option ℕ) (part : Expr) → of_expr part ≡ None → (s : ℕ) → NamesPart n scope part s → ⊥
none_no_name n scope part e s w = let f = w.1 in absurd (let z : None ≡ Some w.0 = sym e ∙ f in cc)

-- ---- by the declaration

pub needs_at : (n : Naming) (k : ℕ) (e : Entry) (expr : Expr) (i : ℕ) → IsEntry (entries_of n.table.now.entries.items) k e → e.row.means ≡ told.Constant expr i
    → (row : List ℕ) → AreNeeds n e.within (asked expr) row → AreNeedsOf n k row
needs_at n k e expr i t w row are = record {
  sound = λ r h.
      let y = are.sound r h in
      record {
        entry = e;
        expr = expr;
        iota = i;
        part = y.0;
        name = y.2.0;
        there = t;
        means = w;
        asks = y.1;
        is_name = y.2.1;
        names = y.2.2;
      };
  complete = λ r v.
      let a : v.entry ≡ e = same_entry (entries_of n.table.now.entries.items) k v.entry e v.there t in
      let b : told.Constant v.expr v.iota ≡ told.Constant expr i = sym v.means ∙ ap (λ (z : Entry). z.row.means) a ∙ w in
      let p : v.expr ≡ expr = cc in
      are.complete v.part r (subst (λ (z : Expr). Contains (asked z) v.part) p v.asks)
      (v.name, v.is_name, subst (λ (z : Entry). Names (entries_of n.table.now.entries.items) n.implemented z.within v.name r) a v.names);
}

pub code_entry_is : (n : Naming) (t : Table) (k : ℕ) (e : Entry) → n.table.now ≡ t → IsEntry (entries_of t.entries.items) k e → IsEntry (entries_of n.table.now.entries.items) k e
code_entry_is n t k e a i = subst (λ (z : Table). IsEntry (entries_of z.entries.items) k e) (sym a) i
