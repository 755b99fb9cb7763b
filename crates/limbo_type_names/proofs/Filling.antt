-- Types that are found one after the other.
use Rattle.std.proofs.Common.{◌≡◌, ◌<◌, ◌+◌, ◌⊎◌, inl, inr, ℕ, zero, suc, List, [], ◌∷◌, Option, Some, slice_get, length, sym, ap, subst, ◌∙◌, Vec, Global, arith}
use Rattle.std.proofs.Math.ListN.{set}
use Rattle.std.specs.List.{Contains}
use Rattle.std.proofs.lemmas.List.{length-set}
use Rattle.std.proofs.lemmas.Option.{slice_get_within, slice_get-get_or, get_or_from_slice_get}
use Rattle.limbo_tree.specs.declared.types.TypeTree as code_type
use Rattle.limbo_tree.specs.View.{view_type}
use Rattle.limbo_types.specs.Types.{Ty}
use Rattle.limbo_declarations.specs.Rows as told
use Rattle.limbo_declarations.specs.View.{view_declared}
use Rattle.limbo_entries.specs.declared.entry.Entry as code_entry
use Rattle.limbo_entries.specs.Entries.{Entry, IsEntry}
use Rattle.limbo_entries.specs.View.{view_entry, entries_of}
use Rattle.limbo_order.specs.Order.{Needs, NeedsWithin, NeedsOnly, IsOrder, at_once, further}
use Rattle.limbo_order.specs.View.{rows}
use Rattle.limbo_naming.specs.declared.naming.Naming.{Naming}
use Rattle.limbo_naming.specs.Qualified.{Qualified}
use Rattle.limbo_naming.specs.Direct.{IsDeclared}
use Rattle.limbo_naming.proofs.Direct.{declared_there}
use Rattle.limbo_naming.proofs.Lists.{filled, set_there, set_other}
use Rattle.limbo_naming.proofs.Places.{as_many}
use Rattle.limbo_unknown.specs.Written.{in_type}
use Rattle.limbo_type_names.specs.declared.counted.Counted.{Counted}
use Rattle.limbo_type_names.specs.declared.known.Known.{Known}
use Rattle.limbo_type_names.specs.declared.names.TypeNames.{TypeNames}
use Rattle.limbo_type_names.specs.Means as means
use Rattle.limbo_type_names.specs.Means.{Means, Stands}
use Rattle.limbo_type_names.specs.Needs as needs
use Rattle.limbo_type_names.specs.Needs.{NeedsType, NeedsThrough}
use Rattle.limbo_type_names.specs.Refusals.{IsByType}
use Rattle.limbo_type_names.specs.Working.{entries_in, Types, Settles, IsDone, AreTypes, AreReady, AreNeedsOf, AreBehind, Sets}
use Rattle.limbo_type_names.specs.Told.{KnowsTypes}

-- what is needed is in the table
pub needed_there : (es : List Entry) (m k j : ℕ) → NeedsType es m k j → j < length es
needed_there es m k j (needs.of_type e t q i is h d) = declared_there es m e.within q j d
needed_there es m k j (needs.of_import e source i is d) = declared_there es m e.within _ j d

-- what is known of all is known of those that are named
pub ready_all : (s : Known) (t : TypeNames) → s.naming.now ≡ t.naming.now → s.types.now ≡ t.types.items → KnowsTypes t → (scope : Option ℕ) (names : List Qualified)
    → AreReady s scope names
ready_all s t e f knows scope names q k h d =
    let l = declared_there (entries_in t.naming.now) t.naming.now.implemented scope q k (subst (λ (z : Naming). IsDeclared (entries_in z) z.implemented scope q k) e d) in
    subst (λ (z : Naming). IsDone (entries_in z) z.implemented s.types.now k) (sym e)
    (subst (λ (z : Types). IsDone (entries_in t.naming.now) t.naming.now.implemented z k) (sym f) (knows.types.done k l))

-- ---- a name by `type`

pub entry_there : (all : List code_entry.Entry) (k : ℕ) (e : code_entry.Entry) → slice_get all k ≡ Some e → IsEntry (entries_of all) k (view_entry e)
entry_there [] k e h = absurd cc
entry_there (x ∷ all) zero e h = let f : x ≡ e = cc in ap (λ z. Some (view_entry z)) f
entry_there (x ∷ all) (suc k) e h = entry_there all k e h

module _ (all : List code_entry.Entry) (m k : ℕ) (scope : Option ℕ) (t : code_type.TypeTree) (b : IsByType all k scope t) where
  is_by_type : (view_entry b.entry).row.means ≡ told.Alias (view_type t)
  is_by_type = ap view_declared b.is ∙ ap (λ z. told.Alias (view_type z)) b.writes

  pub needs_named : (q : Qualified) (j : ℕ) → Contains (in_type (view_type t)) q → IsDeclared (entries_of all) m scope q j → NeedsType (entries_of all) m k j
  needs_named q j h d =
      needs.of_type (view_entry b.entry) (view_type t) q (entry_there all k b.entry b.there) is_by_type h
      (subst (λ (z : Option ℕ). IsDeclared (entries_of all) m z q j) (sym b.within) d)

  pub stands_by_type : (u : Ty) → Means (entries_of all) m scope (view_type t) u → Stands (entries_of all) m k u
  stands_by_type u w =
      means.by_type k (view_entry b.entry) (view_type t) u (entry_there all k b.entry b.there) is_by_type
      (subst (λ (z : Option ℕ). Means (entries_of all) m z (view_type t) u) (sym b.within) w)

-- ---- one more is known

pub sets_one : (n : Naming) (k : ℕ) (types : Types) (found : Option Counted) → k < length types → Settles (entries_in n) n.implemented k found
    → Sets n k types (set types k found)
sets_one n k types found l s =
    let here : IsDone (entries_in n) n.implemented (set types k found) k = record { found = found; there = set_there types k found l; settles = s } in
    record {
      same_length = length-set types k found;
      kept = λ j d. elim (same j k) [
        | inl e ↦ subst (λ (z : ℕ). IsDone (entries_in n) n.implemented (set types k found) z) (sym e) here
        | inr never ↦ record { found = d.found; there = set_other types k j found d.found d.there never; settles = d.settles }
      ];
      here = here;
    }
  where
    same : (a b : ℕ) → (a ≡ b) ⊎ (a ≡ b → ⊥)
    same a b = grind arith

pub ready_next : (n : Naming) (order : List ℕ) → AreBehind n order → (types : Types) (i k : ℕ) → slice_get order i ≡ Some k
    → ((j r : ℕ) → j < i → slice_get order j ≡ Some r → IsDone (entries_in n) n.implemented types r)
    → (j : ℕ) → NeedsType (entries_in n) n.implemented k j → IsDone (entries_in n) n.implemented types j
ready_next n order behind types i k at done j w = let b = behind i k j at w in done b.0 j b.1 b.2

pub done_more : (n : Naming) (order : List ℕ) (old new : Types) (i k : ℕ) → Sets n k old new → slice_get order i ≡ Some k
    → ((j r : ℕ) → j < i → slice_get order j ≡ Some r → IsDone (entries_in n) n.implemented old r)
    → (j r : ℕ) → j < i + 1 → slice_get order j ≡ Some r → IsDone (entries_in n) n.implemented new r
done_more n order old new i k sets at done j r l h = elim (at_or j i l) [
  | inl x ↦ sets.kept r (done j r x h)
  | inr x ↦
      let f : k ≡ r = let g = subst (λ (z : ℕ). slice_get order z ≡ Some r) x h in cc in
      subst (λ (z : ℕ). IsDone (entries_in n) n.implemented new z) f sets.here
]
  where
    at_or : (a b : ℕ) → a < b + 1 → (a < b) ⊎ (a ≡ b)
    at_or a b l = grind arith

-- ---- an order of all

contained : (xs : List ℕ) (i x : ℕ) → slice_get xs i ≡ Some x → Contains xs x
contained xs i x h = (i, slice_get_within xs i x h, get_or_from_slice_get xs i x x h)

placed : (xs : List ℕ) (x : ℕ) → Contains xs x → (i : ℕ) × (slice_get xs i ≡ Some x)
placed xs x c = (c.0, slice_get-get_or xs c.0 x c.1 ∙ ap Some c.2)

module _ (n : Naming) (all : List (Vec ℕ Global)) (many : length (rows all) ≡ length n.table.now.entries.items)
    (each : (k : ℕ) (row : List ℕ) → slice_get (rows all) k ≡ Some row → AreNeedsOf n k row) where
  needs_type : (k r : ℕ) → Needs (rows all) k r → NeedsType (entries_in n) n.implemented k r
  needs_type k r w = (each k w.row w.own).sound r (contained w.row w.place r w.there)

  pub needs_only : NeedsOnly (rows all)
  needs_only k r w =
      let l = needed_there (entries_in n) n.implemented k r (needs_type k r w) in
      let a = as_many n.table.now.entries.items in
      omega arith

  has_needs : (k r : ℕ) → k < length (rows all) → NeedsType (entries_in n) n.implemented k r → Needs (rows all) k r
  has_needs k r l v =
      let row = filled (rows all) k l in
      let c = (each k row.0 row.1).complete r v in
      let p = placed row.0 r c in
      record { row = row.0; own = row.1; place = p.0; there = p.1 }

  pub through : (k r : ℕ) → NeedsWithin (rows all) k r → NeedsThrough (entries_in n) n.implemented k r
  through _ _ (at_once k r w) = needs.at_once k r (needs_type k r w)
  through _ _ (further k i r w v) = needs.and_on k i r (needs_type k i w) (through i r v)

  module _ (order : List ℕ) (is : IsOrder (rows all) order) where
    pub in_table : (i k : ℕ) → slice_get order i ≡ Some k → k < length n.table.now.entries.items
    in_table i k h = let l = is.only i k h in omega arith

    pub has_each : (k : ℕ) → k < length n.table.now.entries.items → (i : ℕ) × (slice_get order i ≡ Some k)
    has_each k l = is.each k (omega arith)

    pub behind : AreBehind n order
    behind i k r h v = is.behind i k r h (has_needs k r (is.only i k h) v)

-- ---- all are known

pub all_known : (n : Naming) (types : Types) (order : List ℕ) → length types ≡ length n.table.now.entries.items
    → ((k : ℕ) → k < length n.table.now.entries.items → (i : ℕ) × (slice_get order i ≡ Some k))
    → ((i k : ℕ) → slice_get order i ≡ Some k → IsDone (entries_in n) n.implemented types k) → AreTypes (entries_in n) n.implemented types
all_known n types order many each done = record {
  many = let a = as_many n.table.now.entries.items in omega arith;
  done = λ k l. let a = as_many n.table.now.entries.items in let i = each k (omega arith) in done i.0 k i.1;
}
