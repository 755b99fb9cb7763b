-- Type texts: each type has one, and only one.
use Rattle.std.proofs.Common.{◌≡◌, ℕ, zero, suc, ◌+◌, ◌≤◌, ◌<◌, Bool, true, false, cond, ◌==◌, List, [], ◌∷◌, ◌++◌, length, Option, None, Some, is_some, refl, ap, ◌∙◌, arith, rules, tests}
use Rattle.limbo_layout.specs.Adts.{Def}
use Rattle.link_sign.specs.TypeText.{Piece, Letter, Whole, adt_pieces, fn_pieces, adt_at, opened_as, repeated, Spells, ends, writes, opens, repeats}
use Rattle.link_sign.specs.Computed.{spelled, size, unopened, steps_for, text_of}
use Rattle.link_sign.specs.Laws.{OneText, EachHasText}
use Rattle.link_sign.proofs.Places.{place_before, place_behind}

-- ---- one at most

none_some : {A : Type 0} {k : ℕ} {o : Option ℕ} → o ≡ None → o ≡ Some k → A
none_some h g = absurd (cc)

same_place : {k j : ℕ} {o : Option ℕ} → o ≡ Some k → o ≡ Some j → k ≡ j
same_place h g = cc

module _ (defs : List Def) (modules : List (List ℕ)) where
  pub only : (opened : List ℕ) (ps : List Piece) (s t : List ℕ) → Spells defs modules opened ps s → Spells defs modules opened ps t → s ≡ t
  only opened ps s t (ends _) (ends _) = refl
  only opened ps s t (writes _ c qs u x) (writes _ _ _ v y) = ap (λ z. c ∷ z) (only opened qs u v x y)
  only opened ps s t (opens _ n qs u e x) (opens _ _ _ v f y) = only (opened ++ (n ∷ [])) (adt_pieces modules (adt_at defs n) ++ qs) u v x y
  only opened ps s t (opens _ n qs u e x) (repeats _ _ k _ v f y) = none_some e f
  only opened ps s t (repeats _ n k qs u e x) (opens _ _ _ v f y) = none_some f e
  only opened ps s t (repeats _ n k qs u e x) (repeats _ _ j _ v f y) = ap (λ i. repeated i ++ u) (same_place e f) ∙ ap (λ z. repeated j ++ z) (only opened qs u v x y)

-- ---- at least one

pub size-append : (ps qs : List Piece) → size (ps ++ qs) ≡ size ps + size qs
size-append [] qs = omega arith
size-append (Letter c ∷ ps) qs = omega (arith, size-append ps qs)
size-append (Whole n ∷ ps) qs = omega (arith, size-append ps qs)

eq_itself : (n : ℕ) → (n == n) ≡ true
eq_itself n = search (rules, tests)

-- an adt that was opened stays so
stays_opened : (opened : List ℕ) (n m : ℕ) → is_some (opened_as opened m) ≡ true → is_some (opened_as (opened ++ (n ∷ [])) m) ≡ true
stays_opened opened n m h = go (opened_as opened m) h refl
  where
    go : (o : Option ℕ) → is_some o ≡ true → opened_as opened m ≡ o → is_some (opened_as (opened ++ (n ∷ [])) m) ≡ true
    go None h e = absurd (cc)
    go (Some k) h e = ap is_some (place_before (λ l. l == m) opened (n ∷ []) k e)

-- the one that is opened is
now_opened : (opened : List ℕ) (n : ℕ) → opened_as opened n ≡ None → is_some (opened_as (opened ++ (n ∷ [])) n) ≡ true
now_opened opened n h = ap is_some (place_behind (λ l. l == n) opened n h ∙ ap (λ b. cond b (Some (length opened)) None) (eq_itself n))

chosen_le : (b c : Bool) (n : ℕ) → (b ≡ true → c ≡ true) → cond c 0 n ≤ cond b 0 n
chosen_le b true n f = omega arith
chosen_le false false n f = omega arith
chosen_le true false n f = absurd (let h : false ≡ true = f refl in cc)

module _ (modules : List (List ℕ)) where
  -- what is left of the adts from number m on doesn't grow
  left_le : (opened : List ℕ) (n m : ℕ) (ds : List Def) → unopened modules (opened ++ (n ∷ [])) m ds ≤ unopened modules opened m ds
  left_le opened n m [] = omega arith
  left_le opened n m (d ∷ ds) =
      let here = chosen_le (is_some (opened_as opened m)) (is_some (opened_as (opened ++ (n ∷ [])) m)) (size (adt_pieces modules d)) (stays_opened opened n m) in
      omega (arith, here, left_le opened n (suc m) ds)

  -- the adt that is opened isn't left
  left_falls : (opened : List ℕ) (m k n : ℕ) (ds : List Def) → n ≡ m + k → opened_as opened n ≡ None
      → unopened modules (opened ++ (n ∷ [])) m ds + size (adt_pieces modules (adt_at ds k)) ≤ unopened modules opened m ds + 3
  left_falls opened m k n [] e h = omega arith
  left_falls opened m zero n (d ∷ ds) e h =
      let same : m ≡ n = omega arith in
      let whole = size (adt_pieces modules d) in
      let was : is_some (opened_as opened m) ≡ false = ap (λ z. is_some (opened_as opened z)) same ∙ ap is_some h in
      let is : is_some (opened_as (opened ++ (n ∷ [])) m) ≡ true = ap (λ z. is_some (opened_as (opened ++ (n ∷ [])) z)) same ∙ now_opened opened n h in
      let before : cond (is_some (opened_as opened m)) 0 whole ≡ whole = ap (λ b. cond b 0 whole) was in
      let after : cond (is_some (opened_as (opened ++ (n ∷ [])) m)) 0 whole ≡ 0 = ap (λ b. cond b 0 whole) is in
      omega (arith, before, after, left_le opened n (suc m) ds)
  left_falls opened m (suc k) n (d ∷ ds) e h =
      let here = chosen_le (is_some (opened_as opened m)) (is_some (opened_as (opened ++ (n ∷ [])) m)) (size (adt_pieces modules d)) (stays_opened opened n m) in
      let next : n ≡ suc m + k = omega arith in
      omega (arith, here, left_falls opened (suc m) k n ds next h)

-- opening an adt leaves less to write
pub opening_less : (defs : List Def) (modules : List (List ℕ)) (opened : List ℕ) (n : ℕ) (ps : List Piece) → opened_as opened n ≡ None
    → steps_for defs modules (opened ++ (n ∷ [])) (adt_pieces modules (adt_at defs n) ++ ps) < steps_for defs modules opened (Whole n ∷ ps)
opening_less defs modules opened n ps h =
    let first : n ≡ 0 + n = omega arith in
    omega (arith, left_falls modules opened 0 n n defs first h, size-append (adt_pieces modules (adt_at defs n)) ps)

module _ (defs : List Def) (modules : List (List ℕ)) where
  -- the text that is computed in enough steps is spelled
  pub is_spelled : (k : ℕ) (opened : List ℕ) (ps : List Piece) → steps_for defs modules opened ps < k → Spells defs modules opened ps (spelled k defs modules opened ps)
  is_spelled zero opened ps h = absurd (omega arith)
  is_spelled (suc k) opened [] h = ends opened
  is_spelled (suc k) opened (Letter c ∷ ps) h = writes opened c ps _ (is_spelled k opened ps (omega arith))
  is_spelled (suc k) opened (Whole n ∷ ps) h =
      go (opened_as opened n) refl
      (λ e. is_spelled k (opened ++ (n ∷ [])) (adt_pieces modules (adt_at defs n) ++ ps) (omega (arith, opening_less defs modules opened n ps e)))
      (is_spelled k opened ps (omega arith))
    where
      go : (o : Option ℕ) → opened_as opened n ≡ o
          → (opened_as opened n ≡ None → Spells defs modules (opened ++ (n ∷ [])) (adt_pieces modules (adt_at defs n) ++ ps)
          (spelled k defs modules (opened ++ (n ∷ [])) (adt_pieces modules (adt_at defs n) ++ ps)))
          → Spells defs modules opened ps (spelled k defs modules opened ps)
          → Spells defs modules opened (Whole n ∷ ps) (elim o [
            | None ↦ spelled k defs modules (opened ++ (n ∷ [])) (adt_pieces modules (adt_at defs n) ++ ps)
            | Some i ↦ repeated i ++ spelled k defs modules opened ps
          ])
      go None e f x = opens opened n ps _ e (f e)
      go (Some i) e f x = repeats opened n i ps _ e x

pub one_text : OneText
one_text defs modules f s t h g = only defs modules [] (fn_pieces modules f) s t h g

pub each_has_text : EachHasText
unfolding text_of
each_has_text defs modules f = is_spelled defs modules (steps_for defs modules [] (fn_pieces modules f) + 1) [] (fn_pieces modules f) (omega arith)
