-- Entries by their numbers.
use Rattle.std.proofs.Common.{◌≡◌, ℕ, zero, suc, ◌<◌, ◌≤◌, List, [], ◌∷◌, length, get_or, slice_get, Some, refl, sym, ap, arith}
use Rattle.std.proofs.lemmas.Option.{slice_get_within}
use Rattle.limbo_entries.specs.declared.entry.Entry as code_entry
use Rattle.limbo_entries.specs.Entries.{Entry, IsEntry}
use Rattle.limbo_entries.specs.View.{view_entry, entries_of}

pub entry_at : (es : List code_entry.Entry) (k : ℕ) (x : code_entry.Entry) → k < length es → x ≡ get_or es k x → IsEntry (entries_of es) k (view_entry x)
entry_at [] k x l e = absurd (omega arith)
entry_at (y ∷ es) zero x l e = ap (λ z. Some (view_entry z)) (sym e)
entry_at (y ∷ es) (suc k) x l e = entry_at es k x (omega arith) e

pub as_many : (es : List code_entry.Entry) → length (entries_of es) ≡ length es
as_many [] = refl
as_many (y ∷ es) = let e = as_many es in omega arith

pub same_there : {A : Type 0} → (xs : List A) (k : ℕ) (x y : A) → k < length xs → x ≡ get_or xs k x → y ≡ get_or xs k y → x ≡ y
same_there [] k x y l e f = absurd (omega arith)
same_there (z ∷ xs) zero x y l e f = cc
same_there (z ∷ xs) (suc k) x y l e f = same_there xs k x y (omega arith) e f

pub state_at : {A : Type 0} → (xs : List A) (k : ℕ) (x : A) → k < length xs → x ≡ get_or xs k x → slice_get xs k ≡ Some x
state_at [] k x l e = absurd (omega arith)
state_at (y ∷ es) zero x l e = ap Some (sym e)
state_at (y ∷ es) (suc k) x l e = state_at es k x (omega arith) e

pub one_entry : (es : List Entry) (k : ℕ) (a b : Entry) → IsEntry es k a → IsEntry es k b → a ≡ b
one_entry es k a b f g = cc

pub one_place : {A : Type 0} → (xs : List A) (k : ℕ) (a b : A) → slice_get xs k ≡ Some a → slice_get xs k ≡ Some b → a ≡ b
one_place xs k a b f g = cc

pub fewer : (es : List code_entry.Entry) (k : ℕ) → k < length es → k < length (entries_of es)
fewer es k l = let e = as_many es in omega arith

pub not_there : (es : List code_entry.Entry) (o : ℕ) → length es ≤ o → (e : Entry) → IsEntry (entries_of es) o e → ⊥
not_there es o l e i = let a = slice_get_within (entries_of es) o e i in let b = as_many es in omega arith

pub inside : (o n l : ℕ) → n ≡ l → o < n → o < l
inside o n l e h = omega arith

pub past : (o n l : ℕ) → n ≡ l → n ≤ o → l ≤ o
past o n l e h = omega arith
