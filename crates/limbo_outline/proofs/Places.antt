-- Entries by their numbers.
use Rattle.std.proofs.Common.{◌≡◌, ◌<◌, ℕ, zero, suc, List, ◌∷◌, [], Some, length, get_or, slice_get, refl, sym, ap, arith}
use Rattle.limbo_entries.specs.declared.entry.Entry as code_entry
use Rattle.limbo_entries.specs.Entries.{Entry, IsEntry}
use Rattle.limbo_entries.specs.View.{view_entry, entries_of}

pub one_entry : (es : List Entry) (k : ℕ) (a b : Entry) → IsEntry es k a → IsEntry es k b → a ≡ b
one_entry es k a b f g = cc

-- the entry that is there
pub entry_there : (es : List code_entry.Entry) (k : ℕ) → k < length es → (e : Entry) × IsEntry (entries_of es) k e
entry_there [] k l = absurd (omega arith)
entry_there (y ∷ es) zero l = (view_entry y, refl)
entry_there (y ∷ es) (suc k) l = entry_there es k (omega arith)

pub item_at : {A : Type 0} → (xs : List A) (k : ℕ) (x : A) → k < length xs → x ≡ get_or xs k x → slice_get xs k ≡ Some x
item_at [] k x l e = absurd (omega arith)
item_at (y ∷ xs) zero x l e = ap Some (sym e)
item_at (y ∷ xs) (suc k) x l e = item_at xs k x (omega arith) e
