-- What the number of `-q` and the flag `--stats` are, from what their parsers took.
use Rattle.std.proofs.Common.{◌≡◌, ◌∙◌, ◌≤◌, ◌||◌, ℕ, Bool, true, false, List, Option, Some, None, refl, sym, ap, subst, arith}
use Rattle.std.specs.Prelude.{Result, Ok, codes, pos, unwrap_or}
use Rattle.std.specs.Option.{option_map_or}
use Rattle.std.specs.Str.{bytes_eq}
use Rattle.std.specs.Str.Parse.{ParsesUnsigned, digits_value, without_leading_plus}
use Rattle.std.proofs.lemmas.Slice.Eq.{bytes_eq-Decides}
use Rattle.clap.specs.Lexer.{without_minus}
use Rattle.clap.specs.Matches.{ReadsOne}
use Rattle.clap.specs.Values.{IsSignedIn}
use Rattle.clap.specs.Walk.{Row, one_of}
use Rattle.clap.proofs.CallerReads.{signed_reads}
use Rattle.inferno_words.specs.Commands.{number_under, flag_under}

-- the number that a text reads as, where it passed the bounds
number_of : (E : Type 0) (G : List ℕ → Result ℕ E → Type 0) (t raw : List ℕ) (r : Option ℕ) → t ≡ without_minus raw → ReadsOne G t r
    → ((u : List ℕ) (x : Result ℕ E) → G u x → ParsesUnsigned 32 10 u x) → IsSignedIn (pos 1) (pos 10000000) raw
    → (n : ℕ) × (r ≡ Some n) × (n ≡ digits_value 10 (without_leading_plus t)) × (1 ≤ n) × (n ≤ 10000000)
number_of E G t raw r same read only passed =
    let got = signed_reads E G 32 1 10000000 raw r (subst (λ (u : List ℕ). ReadsOne G u r) same read) only (omega arith) passed in
    let its : G t (Ok got.0) = subst (λ (o : Option ℕ). ReadsOne G t o) got.1 read in
    (got.0, got.1, (only t (Ok got.0) its).1, got.2, got.3)

-- the number of quanta, from what was read: it is what the words say, and within its bounds
pub quanta_read : (E : Type 0) (G : List ℕ → Result ℕ E → Type 0) (rows : List Row) (r : Option ℕ)
    → (one_of (codes "quanta") rows ≡ None → r ≡ None)
    → ((t : List ℕ) → one_of (codes "quanta") rows ≡ Some t → ReadsOne G t r)
    → ((u : List ℕ) (x : Result ℕ E) → G u x → ParsesUnsigned 32 10 u x)
    → ((t : List ℕ) → one_of (codes "quanta") rows ≡ Some t → (raw : List ℕ) × (t ≡ without_minus raw) × IsSignedIn (pos 1) (pos 10000000) raw)
    → (unwrap_or r 1000000 ≡ number_under (codes "quanta") 1000000 rows) × (1 ≤ unwrap_or r 1000000) × (unwrap_or r 1000000 ≤ 10000000)
quanta_read E G rows r none some only passed = go (one_of (codes "quanta") rows) none some passed
  where
    go : (o : Option (List ℕ)) → (o ≡ None → r ≡ None) → ((t : List ℕ) → o ≡ Some t → ReadsOne G t r)
        → ((t : List ℕ) → o ≡ Some t → (raw : List ℕ) × (t ≡ without_minus raw) × IsSignedIn (pos 1) (pos 10000000) raw)
        → (unwrap_or r 1000000 ≡ option_map_or (λ digits. digits_value 10 (without_leading_plus digits)) o 1000000)
        × (1 ≤ unwrap_or r 1000000) × (unwrap_or r 1000000 ≤ 10000000)
    go None none some passed =
        let e : unwrap_or r 1000000 ≡ 1000000 = rw (none refl) refl in
        (e, omega arith, omega arith)
    go (Some t) none some passed =
        let p = passed t refl in
        let n = number_of E G t p.0 r p.1 (some t refl) only p.2 in
        let e : unwrap_or r 1000000 ≡ n.0 = ap (λ (o : Option ℕ). unwrap_or o 1000000) n.1 in
        (e ∙ n.2, (let low = n.3 in omega arith), (let high = n.4 in omega arith))

either_word : (a : List ℕ) → (bytes_eq a (codes "true") || bytes_eq a (codes "false")) ≡ true → bytes_eq a (codes "true") ≡ false
    → a ≡ codes "false"
either_word a e off =
    let f : bytes_eq a (codes "false") ≡ true = rw off at e in
    (bytes_eq-Decides a (codes "false")).0 f

-- whether the flag stands there, from what was read
pub flag_read : (rows : List Row) (b : Bool) → (one_of (codes "stats") rows ≡ None → b ≡ false)
    → (one_of (codes "stats") rows ≡ Some (codes "true") → b ≡ true)
    → (one_of (codes "stats") rows ≡ Some (codes "false") → b ≡ false)
    → ((t : List ℕ) → one_of (codes "stats") rows ≡ Some t
    → (raw : List ℕ) × (t ≡ raw) × ((bytes_eq raw (codes "true") || bytes_eq raw (codes "false")) ≡ true))
    → b ≡ flag_under (codes "stats") rows
flag_read rows b none on off passed = go (one_of (codes "stats") rows) none on off passed
  where
    some : (t : List ℕ) (s : Bool) → bytes_eq t (codes "true") ≡ s → (Some t ≡ Some (codes "true") → b ≡ true)
        → (Some t ≡ Some (codes "false") → b ≡ false)
        → (bytes_eq t (codes "true") || bytes_eq t (codes "false")) ≡ true → b ≡ bytes_eq t (codes "true")
    some t true is on off e = on (ap Some ((bytes_eq-Decides t (codes "true")).0 is)) ∙ sym is
    some t false is on off e = off (ap Some (either_word t e is)) ∙ sym is

    go : (o : Option (List ℕ)) → (o ≡ None → b ≡ false) → (o ≡ Some (codes "true") → b ≡ true) → (o ≡ Some (codes "false") → b ≡ false)
        → ((t : List ℕ) → o ≡ Some t → (raw : List ℕ) × (t ≡ raw) × ((bytes_eq raw (codes "true") || bytes_eq raw (codes "false")) ≡ true))
        → b ≡ option_map_or (λ said. bytes_eq said (codes "true")) o false
    go None none on off passed = none refl
    go (Some t) none on off passed =
        let p = passed t refl in
        some t (bytes_eq t (codes "true")) refl on off (rw (← p.1) at p.2)
