-- Initial values.
use Rattle.std.proofs.Common.{◌≡◌, ◌<◌, inr, ℕ, length, None, Some, sym, ap, subst, ◌∙◌}
use Rattle.std.proofs.lemmas.Option.{slice_get_within}
use Rattle.limbo_tree.specs.Exprs as tree
use Rattle.limbo_tree.specs.Exprs.{Expr}
use Rattle.limbo_constants.specs.declared.constant.Constant as constant
use Rattle.limbo_entries.specs.Entries.{Entry, IsEntry}
use Rattle.limbo_entries.specs.View.{entries_of}
use Rattle.limbo_entries.specs.declared.table.Table.{Table}
use Rattle.limbo_naming.specs.declared.naming.Naming.{Naming}
use Rattle.limbo_constant_values.specs.Values.{Comes, IsNotConstant, initial, initial_value, AllInitial}
use Rattle.limbo_constant_values.specs.Valuing.{IsInitial}
use Rattle.limbo_constant_values.proofs.Meanings.{same_entry}

module _ (n : Naming) (k : ℕ) (e : Entry) (expr : Expr) (there : IsEntry (entries_of n.table.now.entries.items) k e) (is : initial_value e.row.means ≡ Some expr) where
  pub bad_initial : (expr ≡ tree.Nil → ⊥) → ((c : constant.Constant) → Comes (entries_of n.table.now.entries.items) n.implemented e.within None expr c → ⊥)
      → IsNotConstant (entries_of n.table.now.entries.items) n.implemented k
  bad_initial f g = initial e expr there is f g

  pub good_initial : (c : constant.Constant) → Comes (entries_of n.table.now.entries.items) n.implemented e.within None expr c → IsInitial n k
  good_initial c w = λ e' expr' t i.
      let a : e ≡ e' = same_entry (entries_of n.table.now.entries.items) k e e' there t in
      let b : Some expr ≡ Some expr' = sym is ∙ ap (λ (z : Entry). initial_value z.row.means) a ∙ i in
      let d : expr ≡ expr' = cc in
      inr (
        c,
        subst (λ (z : Expr). Comes (entries_of n.table.now.entries.items) n.implemented e'.within None z c) d
            (subst (λ (z : Entry). Comes (entries_of n.table.now.entries.items) n.implemented z.within None expr c) a w),
      )

pub told_initial : (n : Naming) (t : Table) (m : ℕ) → n.table.now ≡ t → n.implemented ≡ m
    → ((k : ℕ) → k < length (entries_of n.table.now.entries.items) → IsInitial n k) → AllInitial (entries_of t.entries.items) m
told_initial n t m a b f =
    subst (λ (z : ℕ). AllInitial (entries_of t.entries.items) z) b
    (subst (λ (z : Table). AllInitial (entries_of z.entries.items) n.implemented) a
    (λ k e expr i w. f k (slice_get_within (entries_of n.table.now.entries.items) k e i) e expr i w))
