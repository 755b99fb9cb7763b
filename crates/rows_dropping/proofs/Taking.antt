-- Which references of a value those of a part of it are, and which are left where the part goes.
use Rattle.std.proofs.Common.{◌≡◌, ◌⊎◌, ℕ, zero, suc, ◌+◌, ◌-◌, ◌<◌, ◌≤◌, ◌&&◌, Bool, true, false, List, [], ◌∷◌, ◌++◌, length, Option, Some}
use Rattle.std.proofs.Common.{refl, sym, ap, ◌∙◌, subst, arith, inl, inr, if◌then◌else◌, lt-ltb}
use Rattle.std.specs.Prelude.{slice_get, slice_index_or, nat_eq, nat_le, nat_lt}
use Rattle.std.proofs.lemmas.Bool.Decides.{eqb_tells}
use Rattle.std.proofs.lemmas.Bool.{le-leb, ltb-true, leb-true}
use Rattle.limbo_types.specs.Types as ty
use Rattle.limbo_types.specs.Types.{Ty}
use Rattle.limbo_layout.specs.Adts.{Def}
use Rattle.limbo_meaning.specs.Values.{Value, Values, Parts, references, nothing, fitted, among, one}
use Rattle.limbo_meaning.specs.Places.{value_part, put_part}
use Rattle.core_code.specs.Terms.{Moved, is_moved, moves_out, part_types, count_of}
use Rattle.core_code.proofs.Names.{zero_fitted}
use Rattle.core_follows.proofs.Given.{counted}
use Rattle.core_follows.proofs.Picks.{Taken}
use Rattle.core_typing.specs.Held as held
use Rattle.value_frames.specs.Standing.{NamesOnly}
use Rattle.value_moves.proofs.Changing.{low_or_high}
use Rattle.value_follows.proofs.RootedValues.{one_names}

-- ---- references by their numbers

inside : {A : Type 0} (xs : List A) (j : ℕ) (a : A) → slice_get xs j ≡ Some a → j < length xs
inside [] j a e = absurd cc
inside (x ∷ xs) zero a e = omega arith
inside (x ∷ xs) (suc j) a e = let l = inside xs j a e in omega (arith, l)

front_get : {A : Type 0} (xs ys : List A) (j : ℕ) → j < length xs → slice_get (xs ++ ys) j ≡ slice_get xs j
front_get [] ys j l = absurd (omega (arith, l))
front_get (x ∷ xs) ys zero l = refl
front_get (x ∷ xs) ys (suc j) l = front_get xs ys j (omega (arith, l))

back_get : {A : Type 0} (xs ys : List A) (j : ℕ) → slice_get (xs ++ ys) (length xs + j) ≡ slice_get ys j
back_get [] ys j = let e : 0 + j ≡ j = omega arith in ap (λ n. slice_get ys n) e
back_get (x ∷ xs) ys j =
    let e : suc (length xs) + j ≡ suc (length xs + j) = omega arith in
    ap (λ n. slice_get (x ∷ (xs ++ ys)) n) e ∙ back_get xs ys j

among_there : (rs : List (Option ℕ)) (j n : ℕ) → slice_get rs j ≡ Some (Some n) → 0 < among n rs
among_there [] j n e = absurd cc
among_there (r ∷ rs) zero n e =
    let f : r ≡ Some n = cc in
    let g = subst (λ o. 0 < one n o) (sym f) (one_names n) in
    omega (arith, g)
among_there (r ∷ rs) (suc j) n e = let h = among_there rs j n e in omega (arith, h)

-- ---- those that move, and those that stay

all_three : (a b c : Bool) → a ≡ true → b ≡ true → c ≡ true → (a && (b && c)) ≡ true
all_three true true true e f g = refl
all_three true true false e f g = absurd cc
all_three true false c e f g = absurd cc
all_three false b c e f g = absurd cc

not_three : (a b c : Bool) → ((b ≡ true) → (c ≡ true) → ⊥) → (a && (b && c)) ≡ false
not_three true true true n = absurd (n refl refl)
not_three true true false n = refl
not_three true false c n = refl
not_three false b c n = refl

same_self : (n : ℕ) → nat_eq n n ≡ true
same_self n = elim (eqb_tells n n) [ inl y ↦ y.0 | inr y ↦ absurd (y.1 refl) ]

module _ (v : Moved) where
  is_in : (k : ℕ) → v.first ≤ k → k < v.first + v.count → is_moved v v.slot k ≡ true
  is_in k a b = all_three (nat_eq v.slot v.slot) (nat_le v.first k) (nat_lt k (v.first + v.count)) (same_self v.slot) (le-leb v.first k a) (lt-ltb k (v.first + v.count) b)

  is_out : (k : ℕ) → (k < v.first) ⊎ (v.first + v.count ≤ k) → is_moved v v.slot k ≡ false
  is_out k o = not_three (nat_eq v.slot v.slot) (nat_le v.first k) (nat_lt k (v.first + v.count)) (λ e f.
      let a = leb-true v.first k e in
      let b = ltb-true k (v.first + v.count) f in
      elim o [ inl l ↦ absurd (omega (arith, l, a)) | inr l ↦ absurd (omega (arith, l, b)) ])

  moved_has : (live : List ℕ) (j : ℕ) → j < v.count → held.Has live (v.first + j) → held.Has (held.moved v live) (v.at + j)
  moved_has [] j l h = absurd h
  moved_has (k ∷ ks) j l (inl e) =
      let is = is_in k (omega (arith, e)) (omega (arith, e, l)) in
      subst (λ (b : Bool). held.Has (if b then (v.at + (k - v.first)) ∷ held.moved v ks else held.moved v ks) (v.at + j)) (sym is)
      (inl (omega (arith, e)))
  moved_has (k ∷ ks) j l (inr h) =
      let next = moved_has ks j l h in go (is_moved v v.slot k) next
    where
      go : (b : Bool) → held.Has (held.moved v ks) (v.at + j)
          → held.Has (if b then (v.at + (k - v.first)) ∷ held.moved v ks else held.moved v ks) (v.at + j)
      go true h = inr h
      go false h = h

  staying_has : (live : List ℕ) (j : ℕ) → (j < v.first) ⊎ (v.first + v.count ≤ j) → held.Has live j → held.Has (held.staying v live) j
  staying_has [] j o h = absurd h
  staying_has (k ∷ ks) j o (inl e) =
      let is = is_out k (elim o [ inl l ↦ inl (omega (arith, l, e)) | inr l ↦ inr (omega (arith, l, e)) ]) in
      subst (λ (b : Bool). held.Has (if b then held.staying v ks else k ∷ held.staying v ks) j) (sym is) (inl e)
  staying_has (k ∷ ks) j o (inr h) =
      let next = staying_has ks j o h in go (is_moved v v.slot k) next
    where
      go : (b : Bool) → held.Has (held.staying v ks) j → held.Has (if b then held.staying v ks else k ∷ held.staying v ks) j
      go true h = h
      go false h = inr h

-- ---- a part of a value

module _ (defs : List Def) (whole : Ty) (ws : Values) (n from into : ℕ) (t : Ty) (type_so : slice_index_or (part_types defs whole) n ty.Nothing ≡ t)
    (taken : Taken defs (part_types defs whole) ws n) (live : List ℕ) (names : NamesOnly live (Parts ws)) where
  abbrev pub moves : Moved
  moves = moves_out defs whole n from into

  abbrev part : Value
  part = value_part n ws

  count_so : length (references part) ≡ moves.count
  count_so =
      ap (λ (v : Value). length (references v)) taken.fits
      ∙ counted defs (slice_index_or (part_types defs whole) n ty.Nothing) taken.value

  pub names_taken : NamesOnly (held.moved moves live) part
  names_taken j c e =
      let l = inside (references part) j (Some c) e in
      let count = count_so in
      let long = taken.long in
      let there : slice_get (references (Parts ws)) (moves.first + j) ≡ Some (Some c) =
      ap (λ (rs : List (Option ℕ)). slice_get rs (moves.first + j)) taken.now
      ∙ ap (slice_get (taken.front ++ (references part ++ taken.behind))) (let same : moves.first + j ≡ length taken.front + j = omega (arith, long) in same)
      ∙ back_get taken.front (references part ++ taken.behind) j
      ∙ front_get (references part) taken.behind j l ∙ e in
      let zero_on : 0 + j ≡ j = omega arith in
      subst (held.Has (held.moved moves live)) zero_on (moved_has moves live j (omega (arith, l, count)) (names (moves.first + j) c there))

  abbrev zero_part : Value
  zero_part = fitted defs t nothing

  abbrev pub left : Value
  left = Parts (put_part n zero_part ws)

  zero_count : length (references zero_part) ≡ moves.count
  zero_count = ap (count_of defs) (sym type_so)

  pub names_left : NamesOnly (held.staying moves live) left
  names_left j c e =
      let f : slice_get (taken.front ++ (references zero_part ++ taken.behind)) j ≡ Some (Some c) =
      sym (ap (λ (rs : List (Option ℕ)). slice_get rs j) (taken.other zero_part)) ∙ e in
      let long = taken.long in
      let count = count_so in
      let zeros = zero_count in
      elim (low_or_high j (length taken.front)) [
        | inl low ↦
            let there = ap (λ (rs : List (Option ℕ)). slice_get rs j) taken.now
            ∙ front_get taken.front (references part ++ taken.behind) j low
            ∙ sym (front_get taken.front (references zero_part ++ taken.behind) j low) ∙ f in
            staying_has moves live j (inl (omega (arith, low, long))) (names j c there)
        | inr high ↦
            let d : ℕ = j - length taken.front in
            let at : j ≡ length taken.front + d = omega (arith, high) in
            let g : slice_get (references zero_part ++ taken.behind) d ≡ Some (Some c) =
            sym (back_get taken.front (references zero_part ++ taken.behind) d)
            ∙ ap (slice_get (taken.front ++ (references zero_part ++ taken.behind))) (sym at) ∙ f in
            elim (low_or_high d (length (references zero_part))) [
              | inl within ↦
                  let a = among_there (references zero_part) d c (sym (front_get (references zero_part) taken.behind d within) ∙ g) in
                  let z = zero_fitted c defs t in
                  absurd (omega (arith, a, z))
              | inr past ↦
                  let o : ℕ = d - length (references zero_part) in
                  let to : d ≡ length (references zero_part) + o = omega (arith, past) in
                  let from_part : d ≡ length (references part) + o = omega (arith, past, count, zeros) in
                  let h : slice_get taken.behind o ≡ Some (Some c) =
                  sym (back_get (references zero_part) taken.behind o)
                  ∙ ap (slice_get (references zero_part ++ taken.behind)) (sym to) ∙ g in
                  let there : slice_get (references (Parts ws)) j ≡ Some (Some c) =
                  ap (λ (rs : List (Option ℕ)). slice_get rs j) taken.now
                  ∙ ap (slice_get (taken.front ++ (references part ++ taken.behind))) at
                  ∙ back_get taken.front (references part ++ taken.behind) d
                  ∙ ap (slice_get (references part ++ taken.behind)) from_part
                  ∙ back_get (references part) taken.behind o ∙ h in
                  staying_has moves live j (inr (omega (arith, high, past, long, zeros))) (names j c there)
            ]
      ]
