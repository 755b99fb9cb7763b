-- Values that are found one after the other.
use Rattle.std.proofs.Common.{◌≡◌, ◌<◌, ◌+◌, ◌⊎◌, inl, inr, ℕ, List, Option, Some, slice_get, length, refl, sym, ap, subst, ◌∙◌, Vec, Global, arith}
use Rattle.std.specs.List.{Contains}
use Rattle.std.proofs.lemmas.Option.{slice_get_within, slice_get-get_or, get_or_from_slice_get}
use Rattle.limbo_tree.specs.Exprs.{Expr}
use Rattle.limbo_constants.specs.declared.constant.Constant as constant
use Rattle.limbo_declarations.specs.Rows as told
use Rattle.limbo_entries.specs.Entries.{Entry, IsEntry}
use Rattle.limbo_entries.specs.View.{entries_of}
use Rattle.limbo_order.specs.Order.{Needs, NeedsWithin, NeedsOnly, IsOrder, at_once, further}
use Rattle.limbo_order.specs.View.{rows}
use Rattle.limbo_naming.specs.declared.naming.Naming.{Naming}
use Rattle.limbo_naming.specs.Qualified.{Qualified}
use Rattle.limbo_naming.specs.Naming as naming
use Rattle.limbo_naming.specs.Naming.{Leads, Names}
use Rattle.limbo_naming.specs.Told.{Knows}
use Rattle.limbo_entries.specs.declared.table.Table.{Table}
use Rattle.limbo_naming.proofs.Lists.{filled}
use Rattle.limbo_naming.proofs.Places.{as_many}
use Rattle.limbo_constant_values.proofs.Needing.{rows_many}
use Rattle.limbo_constant_values.specs.Values.{HasValue, value, IsNotConstant, no_value}
use Rattle.limbo_constant_values.specs.Needs.{NeedsValue}
use Rattle.limbo_constant_values.specs.Answers.{IsKnown}
use Rattle.limbo_constant_values.specs.Asking.{AreNeedsOf}
use Rattle.limbo_constant_values.specs.Valuing.{Values, AreSound, AreReady, AreBehind, IsDone, Sets, AreValues}
use Rattle.limbo_constant_values.proofs.Meanings.{one_value}
use Rattle.limbo_constant_values.proofs.Rounds.{no_round}

-- what a name names is a declaration
mutual
  leads_there : (es : List Entry) (m j r : ℕ) → Leads es m j r → r < length es
  leads_there es m _ _ (naming.itself j e i w) = slice_get_within es j e i
  leads_there es m _ _ (naming.onward j r e q i w d) = names_there es m e.within q r d

  pub names_there : (es : List Entry) (m : ℕ) (scope : Option ℕ) (q : Qualified) (r : ℕ) → Names es m scope q r → r < length es
  names_there es m _ _ _ (naming.simple scope name k r f d) = leads_there es m k r d
  names_there es m _ _ _ (naming.member scope q name o k r d w f) = leads_there es m k r f
  names_there es m _ _ _ (naming.part scope q name o k r d w f) = leads_there es m k r f

contained : (xs : List ℕ) (i x : ℕ) → slice_get xs i ≡ Some x → Contains xs x
contained xs i x h = (i, slice_get_within xs i x h, get_or_from_slice_get xs i x x h)

placed : (xs : List ℕ) (x : ℕ) → Contains xs x → (i : ℕ) × (slice_get xs i ≡ Some x)
placed xs x c = (c.0, slice_get-get_or xs c.0 x c.1 ∙ ap Some c.2)

abbrev pub IsConstant : List Entry → ℕ → Type 0
IsConstant es k = (e : Entry) × (expr : Expr) × (i : ℕ) × IsEntry es k e × (e.row.means ≡ told.Constant expr i)

pub is_constant : (es : List Entry) (m k : ℕ) (c : constant.Constant) → HasValue es m k c → IsConstant es k
is_constant es m _ _ (value k e expr i c t w x) = (e, expr, i, t, w)

module _ (n : Naming) (knows : Knows n) where
  abbrev es : List Entry
  es = entries_of n.table.now.entries.items

  -- what is done and has a value is known by it
  known_by : (values : Values) → AreSound n values → (r : ℕ) (c : constant.Constant) → IsDone n r values → HasValue es n.implemented r c → IsKnown values r c
  known_by values sound r c done v =
      let k = is_constant es n.implemented r c v in
      let d = done k.0 k.1 k.2 k.3 k.4 in
      subst (λ (z : constant.Constant). IsKnown values r z) (one_value es n.implemented knows.sight.once r d.0 c (sound r d.0 d.1) v) d.1

  pub ready_next : (order : List ℕ) → AreBehind n order → (values : Values) → AreSound n values → (i k : ℕ) → slice_get order i ≡ Some k
      → ((j r : ℕ) → j < i → slice_get order j ≡ Some r → IsDone n r values) → AreReady n k values
  ready_next order behind values sound i k at done r c needs v =
      let j = behind i k r at needs in
      known_by values sound r c (done j.0 r j.1 j.2) v

  pub done_more : (order : List ℕ) (old new : Values) (i k : ℕ) → Sets n k old new → slice_get order i ≡ Some k
      → ((j r : ℕ) → j < i → slice_get order j ≡ Some r → IsDone n r old) → (j r : ℕ) → j < i + 1 → slice_get order j ≡ Some r → IsDone n r new
  done_more order old new i k sets at done j r l h = elim (at_or j i l) [
    | inl x ↦ λ e expr o t w. let d = done j r x h e expr o t w in (d.0, sets.kept r d.0 d.1)
    | inr x ↦
        let f : k ≡ r = let g = subst (λ (z : ℕ). slice_get order z ≡ Some r) x h in cc in
        subst (λ (z : ℕ). IsDone n z new) f sets.here
  ]
    where
      at_or : (a b : ℕ) → a < b + 1 → (a < b) ⊎ (a ≡ b)
      at_or a b l = grind arith

  -- ---- an order of all

  module _ (all : List (Vec ℕ Global)) (many : length (rows all) ≡ length es) (each : (k : ℕ) (row : List ℕ) → slice_get (rows all) k ≡ Some row → AreNeedsOf n k row) where
    pub needs_value : (k r : ℕ) → Needs (rows all) k r → NeedsValue es n.implemented k r
    needs_value k r w = (each k w.row w.own).sound r (contained w.row w.place r w.there)

    pub needs_only : NeedsOnly (rows all)
    needs_only k r w =
        let v = needs_value k r w in
        let l = names_there es n.implemented v.entry.within v.name r v.names in
        omega arith

    pub has_needs : (k r : ℕ) → k < length (rows all) → NeedsValue es n.implemented k r → Needs (rows all) k r
    has_needs k r l v =
        let row = filled (rows all) k l in
        let c = (each k row.0 row.1).complete r v in
        let p = placed row.0 r c in
        record { row = row.0; own = row.1; place = p.0; there = p.1 }

    pub circle : (k : ℕ) → NeedsWithin (rows all) k k → IsNotConstant es n.implemented k
    circle k w =
        let f = first k k w in
        let v = f.1 in
        no_value v.entry v.expr v.iota v.there v.means (λ c x. no_round es n.implemented knows.sight.once (rows all) needs_value k c x k (inl refl) w)
      where
        first : (a b : ℕ) → NeedsWithin (rows all) a b → (r : ℕ) × NeedsValue es n.implemented a r
        first _ _ (at_once a b x) = (b, needs_value a b x)
        first _ _ (further a i b x y) = (i, needs_value a i x)

    module _ (order : List ℕ) (is : IsOrder (rows all) order) where
      pub in_table : (i k : ℕ) → slice_get order i ≡ Some k → k < length es
      in_table i k h = let l = is.only i k h in omega arith

      pub behind : AreBehind n order
      behind i k r h v = is.behind i k r h (has_needs k r (is.only i k h) v)

      pub are_values : (values : Values) → AreSound n values → ((i k : ℕ) → slice_get order i ≡ Some k → IsDone n k values) → AreValues es n.implemented values
      are_values values sound done = record {
        known = sound;
        complete = λ r c v.
            let k = is_constant es n.implemented r c v in
            let l = slice_get_within es r k.0 k.3 in
            let i = is.each r (omega arith) in
            known_by values sound r c (done i.0 r i.1) v;
        all = λ k e expr o t w.
            let l = slice_get_within es k e t in
            let i = is.each k (omega arith) in
            let d = done i.0 k i.1 e expr o t w in
            (d.0, sound k d.0 d.1);
      }

-- there is a row for each declaration
pub as_many_rows : (n : Naming) (t : Table) (all : List (Vec ℕ Global)) → n.table.now ≡ t → length all ≡ length t.entries.items
    → length (rows all) ≡ length (entries_of n.table.now.entries.items)
as_many_rows n t all e f =
    rows_many all ∙ f ∙ sym (as_many t.entries.items) ∙ ap (λ (z : Table). length (entries_of z.entries.items)) (sym e)

-- by the table and the module that were given
pub told_values : (n : Naming) (t : Table) (m : ℕ) (values : Values) → n.table.now ≡ t → n.implemented ≡ m
    → AreValues (entries_of n.table.now.entries.items) n.implemented values → AreValues (entries_of t.entries.items) m values
told_values n t m values e f v =
    subst (λ (z : ℕ). AreValues (entries_of t.entries.items) z values) f (subst (λ (z : Table). AreValues (entries_of z.entries.items) n.implemented values) e v)

pub told_bad : (n : Naming) (t : Table) (m k : ℕ) → n.table.now ≡ t → n.implemented ≡ m
    → IsNotConstant (entries_of n.table.now.entries.items) n.implemented k → IsNotConstant (entries_of t.entries.items) m k
told_bad n t m k e f v =
    subst (λ (z : ℕ). IsNotConstant (entries_of t.entries.items) z k) f (subst (λ (z : Table). IsNotConstant (entries_of z.entries.items) n.implemented k) e v)

pub as_many_here : (n : Naming) (t : Table) → n.table.now ≡ t → length (entries_of n.table.now.entries.items) ≡ length t.entries.items
as_many_here n t e = ap (λ (z : Table). length (entries_of z.entries.items)) e ∙ as_many t.entries.items
