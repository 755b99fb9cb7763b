-- What stands elsewhere stays while items are put, and what is put stands there.
use Rattle.std.proofs.Common.{◌≡◌, ℕ, suc, ◌+◌, ◌*◌, ◌⊎◌, ◌%◌, inl, inr, ℤ, List, [], ◌∷◌, ◌++◌}
use Rattle.std.proofs.Common.{length, Some, refl, ap, ◌∙◌, subst, arith, length-append}
use Rattle.std.specs.Prelude.{slice_get}
use Rattle.heap_model.specs.Facts.{Chars}
use Rattle.limbo_types.specs.Types as ty
use Rattle.limbo_types.specs.Types.{Ty}
use Rattle.limbo_layout.specs.Adts.{Def}
use Rattle.limbo_layout.specs.Layout.{Room, Laid}
use Rattle.limbo_typed.specs.Fitting.{of_kind}
use Rattle.limbo_values.specs.declared.number.Kind.{Kind}
use Rattle.limbo_values.specs.Numbers.{InRange}
use Rattle.limbo_meaning.specs.Values as value
use Rattle.limbo_meaning.specs.Values.{Value, Num}
use Rattle.dis_meaning.specs.Words.{Word, Refer}
use Rattle.value_words.specs.Contents.{SameBytes}
use Rattle.value_words.specs.Facts.{Facts, IsText}
use Rattle.value_words.specs.Stands.{Stands, a_number, a_text}
use Rattle.value_words.proofs.Moved.{moved}
use Rattle.value_words.proofs.Rows.{in_front, further}
use Rattle.value_frames.specs.Types.{AreOf}
use Rattle.value_moves.specs.Changing.{Changes}
use Rattle.value_opening.specs.Puts.{Put, OfText, OfNumber, place, extent, text_of, texts_of}
use Rattle.value_opening.specs.Putting.{IsPut, ArePut, none_put, more_put, IsApart, AllApart}

-- Of texts behind so many others, which are strings, it is known that their blocks have them.
abbrev pub HasTexts : Facts → (before : ℕ) → List (List ℕ) → Type 0
HasTexts k n ts = (j : ℕ) (t : List ℕ) → slice_get ts j ≡ Some t → IsText k (Some (suc (n + j))) t

-- the first of them
pub text_here : (k : Facts) (n : ℕ) (ts : List (List ℕ)) (t : List ℕ) → slice_get ts 0 ≡ Some t → HasTexts k n ts → IsText k (Some (suc n)) t
text_here k n ts t e h =
    let i = h 0 t e in (ap k.fact (let f : suc n ≡ suc (n + 0) = omega arith in f) ∙ i.0, i.1)

pub texts_first : (k : Facts) (n : ℕ) (a b : List (List ℕ)) → HasTexts k n (a ++ b) → HasTexts k n a
texts_first k n a b h j t e = h j t (in_front a b j t e)

pub texts_rest : (k : Facts) (n : ℕ) (a b : List (List ℕ)) → HasTexts k n (a ++ b) → HasTexts k (n + length a) b
texts_rest k n a b h j t e =
    let i = h (length a + j) t (further a b j (length a + j) t refl e) in
    (ap k.fact (let f : suc (n + length a + j) ≡ suc (n + (length a + j)) = omega arith in f) ∙ i.0, i.1)

module _ (size : ℕ) (references : List ℕ) where
  abbrev All : (words others : List Word) → (n : ℕ) → List Put → Type 0
  All words others n ps = ArePut size references words others n ps

  pub kind_after : (words others : List Word) (n : ℕ) (ps : List Put) → All words others n ps → AreOf size references words
      → AreOf size references others
  kind_after _ _ _ _ (none_put words n) kind = kind
  kind_after _ _ _ _ (more_put words between others n p ps one rest) kind =
      kind_after between others (n + length (text_of p)) ps rest one.kind

  pub words_apart : (words others : List Word) (n : ℕ) (ps : List Put) → All words others n ps → (w : ℕ) → AllApart (4 * w) 4 ps
      → slice_get others w ≡ slice_get words w
  words_apart _ _ _ _ (none_put words n) w apart = refl
  words_apart _ _ _ _ (more_put words between others n p ps one rest) w apart =
      words_apart between others (n + length (text_of p)) ps rest w apart.1 ∙ (one.changes).words w apart.0

  pub first_put : (words others : List Word) (n : ℕ) (ps : List Put) → All words others n ps → (p : Put) (qs : List Put) → ps ≡ p ∷ qs
      → (between : List Word) × IsPut size references words between n p × All between others (n + length (text_of p)) qs
  first_put _ _ _ _ (none_put words n) p qs e = absurd cc
  first_put _ _ _ _ (more_put words between others n p ps one rest) q qs e =
      let f : p ≡ q = cc in
      let g : ps ≡ qs = cc in (
        between,
        subst (λ (x : Put). IsPut size references words between n x) f one,
        subst (λ (x : Put). All between others (n + length (text_of x)) qs) f
            (subst (λ (xs : List Put). All between others (n + length (text_of p)) xs) g rest),
      )

  -- Items that are put in two rounds.
  pub record InTwo (words others : List Word) (n : ℕ) (a b : List Put) : Type 0 where
    pub between : List Word
    pub first : All words between n a
    pub second : All between others (n + length (texts_of a)) b

  pub in_two : (a b : List Put) (words others : List Word) (n : ℕ) → All words others n (a ++ b) → InTwo words others n a b
  in_two [] b words others n h = record {
    between = words;
    first = none_put words n;
    second = subst (λ (m : ℕ). All words others m b) (let e : n ≡ n + 0 = omega arith in e) h;
  }
  in_two (p ∷ a) b words others n h =
      let f = first_put words others n (p ∷ (a ++ b)) h p (a ++ b) refl in
      let r = in_two a b f.0 others (n + length (text_of p)) f.2 in
      let m = length-append (text_of p) (texts_of a) in
      record {
        between = r.between;
        first = more_put words f.0 r.between n p a f.1 r.first;
        second = subst (λ (m : ℕ). All r.between others m b)
            (let e : n + length (text_of p) + length (texts_of a) ≡ n + length (text_of p ++ texts_of a) = omega (arith, m) in e) r.second;
      }

  module _ (defs : List Def) (k : Facts) where
    same_bytes : (words others : List Word) (p : Put) (at long : ℕ) → Changes words others (place p) (extent p) → IsApart at long p
        → SameBytes words at others at long
    same_bytes words others p at long c (inl l) o m = c.bytes (at + o) (inl (omega (arith, l, m)))
    same_bytes words others p at long c (inr l) o m = c.bytes (at + o) (inr (omega (arith, l)))

    -- a value stands where no item is put
    pub stands_apart : (words others : List Word) (n : ℕ) (ps : List Put) → All words others n ps → AreOf size references words
        → (at : ℕ) (t : Ty) (r : Room) (v : Value) → Laid defs t r → at % r.align ≡ 0 → AllApart at r.size ps
        → Stands defs k words at t v → Stands defs k others at t v
    stands_apart _ _ _ _ (none_put words n) kind at t r v laid even apart s = s
    stands_apart _ _ _ _ (more_put words between others n p ps one rest) kind at t r v laid even apart s =
        stands_apart between others (n + length (text_of p)) ps rest one.kind at t r v laid even apart.1
        (moved words between kind.ranged (one.kind).ranged defs k at at t r v laid even
        (same_bytes words between p at r.size one.changes apart.0) s)

    -- each reference that there is then was there before, or is that to a text
    pub named_after : (words others : List Word) (n : ℕ) (ps : List Put) → All words others n ps → HasTexts k n (texts_of ps)
        → (w b : ℕ) → slice_get others w ≡ Some (Refer (Some b))
        → (slice_get words w ≡ Some (Refer (Some b))) ⊎ ((t : List ℕ) × (k.fact b ≡ Some (Chars t)))
    named_after _ _ _ _ (none_put words n) texts w b e = inl e
    named_after _ _ _ _ (more_put words between others n p ps one rest) texts w b e =
        go (named_after between others (n + length (text_of p)) ps rest (texts_rest k n (text_of p) (texts_of ps) texts) w b e)
      where
        first : (slice_get words w ≡ Some (Refer (Some b))) ⊎ ((t : List ℕ) × (text_of p ≡ t ∷ []) × (b ≡ suc n))
            → (slice_get words w ≡ Some (Refer (Some b))) ⊎ ((t : List ℕ) × (k.fact b ≡ Some (Chars t)))
        first (inl f) = inl f
        first (inr f) = inr (
          f.0,
          ap k.fact f.2
              ∙ (text_here k n (text_of p) f.0 (ap (λ (ts : List (List ℕ)). slice_get ts 0) f.1) (texts_first k n (text_of p) (texts_of ps) texts)).0,
        )

        go : (slice_get between w ≡ Some (Refer (Some b))) ⊎ ((t : List ℕ) × (k.fact b ≡ Some (Chars t)))
            → (slice_get words w ≡ Some (Refer (Some b))) ⊎ ((t : List ℕ) × (k.fact b ≡ Some (Chars t)))
        go (inl f) = first (one.named w b f)
        go (inr f) = inr f

    -- what is put stands there
    pub number_stands : (words others : List Word) (n at : ℕ) (j : Kind) (z : ℤ) → IsPut size references words others n (OfNumber at j z)
        → InRange j z → Stands defs k others at (of_kind j) (Num z)
    number_stands words others n at j z p i = a_number at j z p.there i

    pub text_stands : (words others : List Word) (n at : ℕ) (t : List ℕ) → IsPut size references words others n (OfText at t)
        → IsText k (Some (suc n)) t → Stands defs k others at ty.Chars (value.Chars t)
    text_stands words others n at t p f = a_text at (Some (suc n)) t p.there f
