-- What is put together of operands so far names what they name.
use Rattle.std.proofs.Common.{◌≡◌, ◌⊎◌, ℕ, zero, suc, pos, ◌+◌, ◌<◌, ◌≤◌, List, [], ◌∷◌, ◌++◌, length, take, Option, Some, None, refl, sym, ap, ◌∙◌}
use Rattle.std.proofs.Common.{subst, arith, inl, inr}
use Rattle.std.specs.Prelude.{slice_get, slice_index_or}
use Rattle.limbo_types.specs.Types as ty
use Rattle.limbo_types.specs.Types.{Ty}
use Rattle.limbo_layout.specs.Adts.{Def, Has}
use Rattle.limbo_typed.specs.Fitting.{HasPart}
use Rattle.limbo_meaning.specs.Values.{Value, Num, Parts, parts_of, references, references_in, all_references, among, zero_of}
use Rattle.limbo_meaning.specs.Places.{value_part, put_part}
use Rattle.core_code.specs.Terms.{part_types, count_of, count_all}
use Rattle.core_code.proofs.Names.{zero_fitted}
use Rattle.core_typing.specs.Held as held
use Rattle.core_typing.specs.Going.{into_part}
use Rattle.dis_meaning.specs.Words.{Word}
use Rattle.value_words.specs.Facts.{Facts}
use Rattle.value_words.specs.Stands.{Stands}
use Rattle.value_frames.specs.Forming.{begun, formed}
use Rattle.value_frames.specs.Standing.{NamesOnly, IsForming}
use Rattle.value_follows.proofs.RootedValues.{among_join}
use Rattle.rows_forming.proofs.Values.{formed_more, still_there, part_names, parts_name, put_names, put_named, put_or_old, moved_has, has_more, has_last}
use Rattle.rows_forming.proofs.Values.{part_stands, inside, before, named_some, HasPartAt}

module _ (defs : List Def) (t : Ty) (variant : Option ℕ) where
  abbrev pub so_far : List ℕ → List Value → Value
  so_far ks vs = formed (begun defs t variant) ks vs

  -- As many operands as parts and types, and what they name the whole names.
  pub record SoFar (ks : List ℕ) (us : List Ty) (live : List ℕ) (vs : List Value) : Type 0 where
    pub as_many : length ks ≡ length vs
    pub typed : length us ≡ length vs
    pub named : (n : ℕ) → 0 < among n (references_in vs) → 0 < among n (references (so_far ks vs))
    pub names : (n : ℕ) → 0 < among n (references (so_far ks vs)) → 0 < among n (references_in vs)
    pub only : NamesOnly live (so_far ks vs)

  pub forming_so : (k : Facts) (ks : List ℕ) (us : List Ty) (live : List ℕ) (vs : List Value) (inner : List Word)
      → IsForming defs k t variant ks us live vs inner → SoFar ks us live vs
  forming_so k ks us live vs inner f =
      record { as_many = f.as_many; typed = f.typed; named = f.named; names = f.names; only = f.only }

  pub is_forming : (k : Facts) (ks : List ℕ) (us : List Ty) (live : List ℕ) (vs : List Value) (inner : List Word) → SoFar ks us live vs
      → Stands defs k inner 0 t (so_far ks vs) → IsForming defs k t variant ks us live vs inner
  is_forming k ks us live vs inner f stands =
      record { stands = stands; as_many = f.as_many; typed = f.typed; named = f.named; names = f.names; only = f.only }

-- ---- where nothing is there yet

tag_names : (n v : ℕ) (u : Value) → among n (references u) ≡ 0 → among n (all_references (put_part 0 (Num (pos v)) (parts_of u))) ≡ 0
tag_names n v u e =
    let a = parts_name n u in
    let c = part_names n 0 (parts_of u) in
    let d = put_names n 0 (Num (pos v)) (parts_of u) (omega (arith, a, c, e)) (put_part 0 (Num (pos v)) (parts_of u)) refl in
    omega (arith, a, d, e)

pub begun_names : (defs : List Def) (t : Ty) (variant : Option ℕ) (n : ℕ) → among n (references (begun defs t variant)) ≡ 0
begun_names defs t None n = zero_fitted n defs t
begun_names defs t (Some v) n = tag_names n v (zero_of defs t) (zero_fitted n defs t)

pub none_so_far : (defs : List Def) (t : Ty) (variant : Option ℕ) → SoFar defs t variant [] [] [] []
none_so_far defs t variant = record {
  as_many = refl;
  typed = refl;
  named = λ n l. absurd (omega (arith, l));
  names = λ n l. absurd (let z = begun_names defs t variant n in omega (arith, l, z));
  only = λ k n e. absurd (let z = begun_names defs t variant n in let l = named_some (references (begun defs t variant)) k n e in omega (arith, l, z));
}

-- ---- one operand more

pub in_more : (n : ℕ) (vs : List Value) (v : Value) → among n (references_in (vs ++ v ∷ [])) ≡ among n (references_in vs) + among n (references v)
in_more n [] v = let a = among_join n (references v) [] in omega (arith, a)
in_more n (u ∷ vs) v =
    let a = among_join n (references u) (references_in (vs ++ v ∷ [])) in
    let c = among_join n (references u) (references_in vs) in
    let r = in_more n vs v in
    omega (arith, a, c, r)

long_more : {A : Type 0} (xs : List A) (x : A) → length (xs ++ x ∷ []) ≡ suc (length xs)
long_more [] x = refl
long_more (y ∷ xs) x = ap suc (long_more xs x)

pub pos_either : (a c : ℕ) → 0 < a + c → (0 < a) ⊎ (0 < c)
pos_either zero c l = inr (omega (arith, l))
pos_either (suc a) c l = inl (omega arith)

module _ (defs : List Def) (t : Ty) (variant : Option ℕ) (ks : List ℕ) (us : List Ty) (live : List ℕ) (vs : List Value)
    (s : SoFar defs t variant ks us live vs) (facts : Facts) (words : List Word) (stands : Stands defs facts words 0 t (so_far defs t variant ks vs))
    (k into from : ℕ) (new : Has ks k → ⊥) (u w : Ty) (part : HasPart defs t k w) (v : Value) (mine : List ℕ)
    (count : length (references v) ≡ count_of defs (slice_index_or (part_types defs t) k ty.Int)) (own : NamesOnly mine v) where
  abbrev old : Value
  old = so_far defs t variant ks vs

  abbrev pub whole : Value
  whole = so_far defs t variant (ks ++ k ∷ []) (vs ++ v ∷ [])

  pub whole_is : whole ≡ Parts (put_part k v (parts_of old))
  whole_is = formed_more (begun defs t variant) ks vs k v s.as_many

  there : HasPartAt k (parts_of old) × (before k (parts_of old) ≡ count_all defs (take k (part_types defs t)))
      × (length (references (value_part k (parts_of old))) ≡ count_of defs (slice_index_or (part_types defs t) k ty.Int))
  there = part_stands defs facts words 0 t old k w part stands

  none_there : (n : ℕ) → among n (references (value_part k (parts_of old))) ≡ 0
  none_there n =
      let e = ap (λ (u : Value). among n (references u)) (still_there (begun defs t variant) ks vs k new) in
      let a = part_names n k (parts_of (begun defs t variant)) in
      let c = parts_name n (begun defs t variant) in
      let z = begun_names defs t variant n in
      omega (arith, e, a, c, z)

  most : (n : ℕ) → among n (references whole) ≤ among n (references old) + among n (references v)
  most n =
      let e = ap (λ (u : Value). among n (references u)) whole_is in
      let a = put_names n k v (parts_of old) (none_there n) (put_part k v (parts_of old)) refl in
      let c = parts_name n old in
      omega (arith, e, a, c)

  has_parts_names : (n : ℕ) → among n (references old) ≤ among n (all_references (parts_of old))
  has_parts_names n = by_parts old there.0
    where
      by_parts : (u : Value) → HasPartAt k (parts_of u) → among n (references u) ≤ among n (all_references (parts_of u))
      by_parts (Parts us) h = omega arith
      by_parts u h = absurd h

  parts_get : (u : Value) (j n : ℕ) → slice_get (all_references (parts_of u)) j ≡ Some (Some n) → slice_get (references u) j ≡ Some (Some n)
  parts_get (Parts us) j n e = e
  parts_get u j n e = absurd cc

  pub one_more : SoFar defs t variant (ks ++ k ∷ []) (us ++ u ∷ []) (live ++ held.moved (into_part defs t k into from) mine) (vs ++ v ∷ [])
  one_more = record {
    as_many = let a = long_more ks k in let c = long_more vs v in let e = s.as_many in omega (arith, a, c, e);
    typed = let a = long_more us u in let c = long_more vs v in let e = s.typed in omega (arith, a, c, e);
    named = λ n l.
        let e = ap (λ (u : Value). among n (references u)) whole_is in
        let a = put_named n k v (parts_of old) (none_there n) there.0 in
        let c = in_more n vs v in
        let g = has_parts_names n in
        elim (pos_either (among n (references_in vs)) (among n (references v)) (omega (arith, l, c))) [
          | inl y ↦ let z = s.named n y in omega (arith, z, e, a, g)
          | inr y ↦ omega (arith, y, e, a)
        ];
    names = λ n l.
        let a = most n in
        let c = in_more n vs v in
        elim (pos_either (among n (references old)) (among n (references v)) (omega (arith, l, a))) [
          | inl y ↦ let z = s.names n y in omega (arith, z, c)
          | inr y ↦ omega (arith, y, c)
        ];
    only = λ j n e.
        elim (put_or_old k v (parts_of old) (count ∙ sym there.2) there.0 j n (ap (λ (u : Value). slice_get (references u) j) (sym whole_is) ∙ e)) [
          | inl o ↦ has_more live (held.moved (into_part defs t k into from) mine) j (s.only j n (parts_get old j n o))
          | inr o ↦
              let i = inside (references v) o.0 (Some n) o.2 in
              let zero_on : o.0 ≡ 0 + o.0 = omega arith in
              let is = subst (λ (c : ℕ). held.Has mine c) zero_on (own o.0 n o.2) in
              let at = o.1 in
              let front = there.1 in
              has_last live (held.moved (into_part defs t k into from) mine) j
              (subst (λ (c : ℕ). held.Has (held.moved (into_part defs t k into from) mine) c) (omega (arith, at, front))
              (moved_has (into_part defs t k into from) mine o.0 (omega (arith, i, count)) is))
        ];
  }
