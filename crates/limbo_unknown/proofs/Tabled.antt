-- What a declaration of a table writes, by its number.
use Rattle.std.proofs.Common.{◌≡◌, ◌<◌, ◌≤◌, ◌+◌, ◌⊎◌, inl, inr, ℕ, zero, suc}
use Rattle.std.proofs.Common.{List, [], ◌∷◌, length, get_or, Some, refl, sym, ap, subst, arith}
use Rattle.std.proofs.lemmas.Option.{slice_get_within}
use Rattle.std.proofs.lemmas.List.{length-map}
use Rattle.limbo_declarations.specs.View.{view_row}
use Rattle.limbo_entries.specs.Entries.{Entry, IsEntry}
use Rattle.limbo_entries.specs.View.{entries_of, view_entry}
use Rattle.limbo_entries.specs.declared.entry.Entry as code_entry
use Rattle.limbo_entries.specs.declared.table.Table.{Table}
use Rattle.limbo_naming.specs.Told.{IsNaming}
use Rattle.limbo_naming.specs.declared.naming.Naming.{Naming}
use Rattle.limbo_unknown.specs.Written.{written}
use Rattle.limbo_unknown.specs.Lacking.{HasUnknown, LacksOne, LacksOneOf}

entry_at :
    (k : ℕ) (es : List code_entry.Entry) (e : code_entry.Entry) → k < length es → e ≡ get_or es k e
    → IsEntry (entries_of es) k (view_entry e)
entry_at k [] e l i = absurd (omega arith)
entry_at zero (x ∷ es) e l i = ap (λ (z : code_entry.Entry). Some (view_entry z)) (sym i)
entry_at (suc k) (x ∷ es) e l i = entry_at k es e (omega arith) i

pub within : (es : List code_entry.Entry) (k : ℕ) (e : Entry) → IsEntry (entries_of es) k e → k < length es
within es k e h =
    let l = slice_get_within (entries_of es) k e h in
    let m : length (entries_of es) ≡ length es = length-map es view_entry in
    omega arith

or_more : (k n : ℕ) → k ≤ n → (n ≡ k) ⊎ (k + 1 ≤ n)
or_more k n h = grind arith

module _ (t : Table) (n : Naming) (m : ℕ) (is : IsNaming t m n) where
  abbrev entries : List Entry
  entries = entries_of t.entries.items

  module _ (k : ℕ) (e : code_entry.Entry) (l : k < length t.entries.items) (i : e ≡ get_or t.entries.items k e) where
    pub refused :
        LacksOneOf n e.within (written (view_row e.row))
        → (u : HasUnknown (entries_of t.entries.items) m) × (u.entry.row.path ≡ e.row.path.now)
    refused lacking =
        let one : LacksOne entries m e.within (written (view_row e.row)) = rw (is.by_table, is.by_module) at lacking in (
          record {
            number = k;
            entry = view_entry e;
            there = entry_at k t.entries.items e l i;
            name = one.name;
            writes = one.among;
            lacks = one.lacks;
          },
          refl,
        )

    pub go_on :
        (LacksOneOf n e.within (written (view_row e.row)) → ⊥)
        → ((u : HasUnknown (entries_of t.entries.items) m) → k ≤ u.number)
        → (u : HasUnknown (entries_of t.entries.items) m) → k + 1 ≤ u.number
    go_on never before u = elim (or_more k u.number (before u)) [
      | inr more ↦ more
      | inl same ↦
          let here : IsEntry entries k u.entry = subst (λ (z : ℕ). IsEntry entries z u.entry) same u.there in
          let at = entry_at k t.entries.items e l i in
          let w : u.entry ≡ view_entry e = cc in
          let one : LacksOne entries m u.entry.within (written u.entry.row) =
          record { name = u.name; among = u.writes; lacks = u.lacks } in
          let that : LacksOne entries m e.within (written (view_row e.row)) =
          subst (λ (z : Entry). LacksOne entries m z.within (written z.row)) w one in
          absurd (never (rw (sym is.by_table, sym is.by_module) at that))
    ]
