-- What is known of declarations by their numbers.
use Rattle.std.proofs.Common.{◌≡◌, ◌<◌, ◌∷◌, inl, inr, [], ℕ, List, Option, None, Some, length, get_or, slice_get, true, false, refl, sym, subst, ◌∙◌, arith}
use Rattle.std.specs.List.{Contains}
use Rattle.std.proofs.lemmas.Option.{slice_get_within, get_or_from_slice_get}
use Rattle.limbo_entries.specs.declared.entry.Entry as code_entry
use Rattle.limbo_entries.specs.Entries.{Entry, IsEntry}
use Rattle.limbo_entries.specs.View.{entries_of}
use Rattle.limbo_naming.specs.Naming.{is_variant}
use Rattle.limbo_naming.specs.Qualified.{Qualified}
use Rattle.limbo_naming.proofs.Lists.{filled}
use Rattle.limbo_naming.proofs.Places.{as_many}
use Rattle.limbo_type_names.specs.Numbers.{number_of, AreNumbers}
use Rattle.limbo_type_names.specs.Means.{IsVariant, HasNoRef, to_no_type, to_no_adt}
use Rattle.limbo_type_names.specs.declared.counted.Counted.{Counted}
use Rattle.limbo_type_names.specs.Working.{StandsForNoAdt, Types, IsDone, Settles}

pub one_entry : (es : List Entry) (k : ℕ) (a b : Entry) → IsEntry es k a → IsEntry es k b → a ≡ b
one_entry es k a b f g = cc

-- ---- numbers

pub number_there : (es : List Entry) (numbers : List ℕ) (k : ℕ) (e : Entry) → AreNumbers es numbers → IsEntry es k e → k < length numbers
number_there es numbers k e are i = slice_get_within numbers k (number_of es k e) (are k e i)

pub number_within : (all : List code_entry.Entry) (numbers : List ℕ) (k : ℕ) → AreNumbers (entries_of all) numbers → k < length all → k < length numbers
number_within all numbers k are l =
    let x = filled (entries_of all) k (let h = as_many all in omega arith) in
    number_there (entries_of all) numbers k x.0 are x.1

pub number_is : (es : List Entry) (numbers : List ℕ) (k : ℕ) (e : Entry) → AreNumbers es numbers → IsEntry es k e → get_or numbers k 0 ≡ number_of es k e
number_is es numbers k e are i = get_or_from_slice_get numbers k (number_of es k e) 0 (are k e i)

-- ---- variants

pub no_variant : (es : List Entry) (k : ℕ) (e : Entry) → IsEntry es k e → is_variant e.row.means ≡ false → (a v : ℕ) → IsVariant es k a v → ⊥
no_variant es k e i f a v w =
    let x = one_entry es k w.entry e w.there i in
    let y : is_variant e.row.means ≡ true = subst (λ (z : Entry). is_variant z.row.means ≡ true) x w.is in
    absurd (let z : true ≡ false = sym y ∙ f in cc)

pub nowhere_variant : (es : List Entry) (k : ℕ) (e : Entry) → IsEntry es k e → e.within ≡ None → (a v : ℕ) → IsVariant es k a v → ⊥
nowhere_variant es k e i f a v w =
    let x = one_entry es k w.entry e w.there i in
    let y : e.within ≡ Some w.place = subst (λ (z : Entry). z.within ≡ Some w.place) x w.within in
    absurd cc

pub past_variant : (all : List code_entry.Entry) (k o : ℕ) (e : Entry) → IsEntry (entries_of all) k e → e.within ≡ Some o → (o < length all → ⊥)
    → (a v : ℕ) → IsVariant (entries_of all) k a v → ⊥
past_variant all k o e i f never a v w =
    let x = one_entry (entries_of all) k w.entry e w.there i in
    let y : e.within ≡ Some w.place = subst (λ (z : Entry). z.within ≡ Some w.place) x w.within in
    let p : w.place ≡ o = cc in
    let l = slice_get_within (entries_of all) w.place w.outer w.outer_there in
    never (let h = as_many all in omega arith)

pub a_variant : (all : List code_entry.Entry) (numbers : List ℕ) → AreNumbers (entries_of all) numbers → (k o : ℕ) (e : Entry) → IsEntry (entries_of all) k e
    → is_variant e.row.means ≡ true → e.within ≡ Some o → o < length all → IsVariant (entries_of all) k (get_or numbers o 0) (get_or numbers k 0)
a_variant all numbers are k o e i f w l =
    let x = filled (entries_of all) o (let h = as_many all in omega arith) in
    record {
      entry = e;
      there = i;
      is = f;
      place = o;
      outer = x.0;
      within = w;
      outer_there = x.1;
      adt_is = number_is (entries_of all) numbers o x.0 are x.1;
      variant_is = number_is (entries_of all) numbers k e are i;
    }

-- ---- what has no `ref`

pub no_ref : (es : List Entry) (m k : ℕ) → ((a v : ℕ) → IsVariant es k a v → ⊥) → StandsForNoAdt es m k → HasNoRef es m k
no_ref es m k never (inl w) = to_no_type never w
no_ref es m k never (inr w) = to_no_adt never w.0 w.1 w.2

-- ---- one name

pub alone : (q : Qualified) → Contains (q ∷ []) q
alone q = (0, omega arith, refl)

-- ---- what was found

pub settled_at : (es : List Entry) (m : ℕ) (types : Types) (k : ℕ) → IsDone es m types k → (o : Option Counted) → slice_get types k ≡ Some o → Settles es m k o
settled_at es m types k d o h =
    let a = d.there in
    let e : d.found ≡ o = cc in
    subst (λ (z : Option Counted). Settles es m k z) e d.settles
