-- Frames by their serials.
use Rattle.std.proofs.Common.{◌≡◌, ℕ, zero, suc, ◌+◌, ◌≤◌, Bool, true, false, List, [], ◌∷◌, ◌++◌, map, Some, ◌⊎◌, inl, inr, refl, sym, ap, ◌∙◌, subst, arith, if◌then◌else◌}
use Rattle.std.specs.Prelude.{slice_get, slice_set, reverse, nat_eq}
use Rattle.std.proofs.lemmas.Bool.{eq-eqb}
use Rattle.std.proofs.lemmas.List.{reverse-append, map-append}
use Rattle.dis_meaning.specs.Words.{Word, Found, Wrong, dead_address}
use Rattle.dis_meaning.specs.Process.{Frame, with_words}
use Rattle.dis_meaning.specs.Places.{words_in, change}
use Rattle.dis_places.specs.Frames.{one, count}

pub which : (b : Bool) → (b ≡ true) ⊎ (b ≡ false)
which true = inl refl
which false = inr refl

-- whether a frame has this serial
pub one_here : (s : ℕ) (f : Frame) → nat_eq f.serial s ≡ true → one s f ≡ 1
one_here s f e = ap (λ b. if b then 1 else 0) e

pub one_elsewhere : (s : ℕ) (f : Frame) → nat_eq f.serial s ≡ false → one s f ≡ 0
one_elsewhere s f e = ap (λ b. if b then 1 else 0) e

pub same_here : (s : ℕ) (f : Frame) → f.serial ≡ s → nat_eq f.serial s ≡ true
same_here s f e = eq-eqb f.serial s e

pub one_same : (s : ℕ) (f : Frame) → f.serial ≡ s → one s f ≡ 1
one_same s f e = one_here s f (same_here s f e)

-- ---- how often a serial occurs

pub count_append : (s : ℕ) (fs gs : List Frame) → count s (fs ++ gs) ≡ count s fs + count s gs
count_append s [] gs = omega arith
count_append s (f ∷ fs) gs = let r = count_append s fs gs in omega (arith, r)

pub reverse_more : (f : Frame) (fs : List Frame) → reverse (f ∷ fs) ≡ reverse fs ++ f ∷ []
reverse_more f fs = reverse-append (f ∷ []) fs

pub count_reverse : (s : ℕ) (fs : List Frame) → count s (reverse fs) ≡ count s fs
count_reverse s [] = refl
count_reverse s (f ∷ fs) =
    let e = ap (count s) (reverse_more f fs) in let a = count_append s (reverse fs) (f ∷ []) in let r = count_reverse s fs in
    omega (arith, e, a, r)

pub count_set : (s : ℕ) (fs : List Frame) (k : ℕ) (f g : Frame) → slice_get fs k ≡ Some f → g.serial ≡ f.serial → count s (slice_set fs k g) ≡ count s fs
count_set s [] k f g h e = absurd cc
count_set s (f' ∷ fs) zero f g h e = let same : f' ≡ f = cc in ap (λ n. (if nat_eq n s then 1 else 0) + count s fs) (e ∙ ap (λ (f : Frame). f.serial) (sym same))
count_set s (f' ∷ fs) (suc k) f g h e = ap (λ n. one s f' + n) (count_set s fs k f g h e)

pub count_at : (s : ℕ) (fs : List Frame) (k : ℕ) (f : Frame) → slice_get fs k ≡ Some f → f.serial ≡ s → 1 ≤ count s fs
count_at s [] k f h e = absurd cc
count_at s (f' ∷ fs) zero f h e = let same : f' ≡ f = cc in let o = one_same s f' (ap (λ (f : Frame). f.serial) same ∙ e) in omega (arith, o)
count_at s (f' ∷ fs) (suc k) f h e = let r = count_at s fs k f h e in omega (arith, r)

-- ---- the words of a frame

pub words_past : (s : ℕ) (fs gs : List Frame) → count s fs ≡ 0 → words_in s (fs ++ gs) ≡ words_in s gs
words_past s [] gs h = refl
words_past s (f ∷ fs) gs h = go (which (nat_eq f.serial s)) (words_past s fs gs (omega (arith, h)))
  where
    go : (nat_eq f.serial s ≡ true) ⊎ (nat_eq f.serial s ≡ false) → words_in s (fs ++ gs) ≡ words_in s gs → words_in s (f ∷ (fs ++ gs)) ≡ words_in s gs
    go (inl e) r = let o = one_here s f e in absurd (omega (arith, o, h))
    go (inr e) r = ap (λ b. if b then Found f.words else words_in s (fs ++ gs)) e ∙ r

pub no_words : (s : ℕ) (fs : List Frame) → count s fs ≡ 0 → words_in s fs ≡ Wrong dead_address
no_words s [] h = refl
no_words s (f ∷ fs) h = go (which (nat_eq f.serial s)) (no_words s fs (omega (arith, h)))
  where
    go : (nat_eq f.serial s ≡ true) ⊎ (nat_eq f.serial s ≡ false) → words_in s fs ≡ Wrong dead_address → words_in s (f ∷ fs) ≡ Wrong dead_address
    go (inl e) r = let o = one_here s f e in absurd (omega (arith, o, h))
    go (inr e) r = ap (λ b. if b then Found f.words else words_in s fs) e ∙ r

-- A frame is one of these.
abbrev pub Among : Frame → List Frame → Type 0
Among f [] = ⊥
Among f (g ∷ fs) = (g ≡ f) ⊎ Among f fs

pub among_at : (fs : List Frame) (k : ℕ) (f : Frame) → slice_get fs k ≡ Some f → Among f fs
among_at [] k f h = absurd cc
among_at (g ∷ fs) zero f h = inl cc
among_at (g ∷ fs) (suc k) f h = inr (among_at fs k f h)

among_front : (f : Frame) (fs gs : List Frame) → Among f fs → Among f (fs ++ gs)
among_front f [] gs h = absurd h
among_front f (g ∷ fs) gs (inl e) = inl e
among_front f (g ∷ fs) gs (inr h) = inr (among_front f fs gs h)

among_last : (f : Frame) (fs : List Frame) → Among f (fs ++ f ∷ [])
among_last f [] = inl refl
among_last f (g ∷ fs) = inr (among_last f fs)

pub among_reverse : (f : Frame) (fs : List Frame) → Among f fs → Among f (reverse fs)
among_reverse f [] h = absurd h
among_reverse f (g ∷ fs) (inl e) = subst (Among f) (sym (reverse_more g fs)) (subst (λ (g : Frame). Among f (reverse fs ++ g ∷ [])) (sym e) (among_last f (reverse fs)))
among_reverse f (g ∷ fs) (inr h) = subst (Among f) (sym (reverse_more g fs)) (among_front f (reverse fs) (g ∷ []) (among_reverse f fs h))

count_among : (s : ℕ) (f : Frame) (fs : List Frame) → Among f fs → f.serial ≡ s → 1 ≤ count s fs
count_among s f [] h e = absurd h
count_among s f (g ∷ fs) (inl same) e = let o = one_same s g (ap (λ (f : Frame). f.serial) same ∙ e) in omega (arith, o)
count_among s f (g ∷ fs) (inr h) e = let r = count_among s f fs h e in omega (arith, r)

pub words_among : (s : ℕ) (f : Frame) (fs gs : List Frame) → Among f fs → f.serial ≡ s → count s fs ≤ 1 → words_in s (fs ++ gs) ≡ Found f.words
words_among s f [] gs h e few = absurd h
words_among s f (g ∷ fs) gs (inl same) e few =
    ap (λ b. if b then Found g.words else words_in s (fs ++ gs)) (same_here s g (ap (λ (f : Frame). f.serial) same ∙ e)) ∙ ap (λ (f : Frame). Found f.words) same
words_among s f (g ∷ fs) gs (inr h) e few = go (which (nat_eq g.serial s)) (words_among s f fs gs h e (omega (arith, few)))
  where
    go : (nat_eq g.serial s ≡ true) ⊎ (nat_eq g.serial s ≡ false) → words_in s (fs ++ gs) ≡ Found f.words → words_in s (g ∷ (fs ++ gs)) ≡ Found f.words
    go (inl here) r = let o = one_here s g here in let m = count_among s f fs h e in absurd (omega (arith, o, m, few))
    go (inr there) r = ap (λ b. if b then Found g.words else words_in s (fs ++ gs)) there ∙ r

-- ---- a frame has other words

pub change_here : (s : ℕ) (ws : List Word) (f : Frame) → f.serial ≡ s → change s ws f ≡ with_words f ws
change_here s ws f e = ap (λ b. if b then with_words f ws else f) (same_here s f e)

pub change_elsewhere : (s : ℕ) (ws : List Word) (f : Frame) → one s f ≡ 0 → change s ws f ≡ f
change_elsewhere s ws f h = go (which (nat_eq f.serial s))
  where
    go : (nat_eq f.serial s ≡ true) ⊎ (nat_eq f.serial s ≡ false) → change s ws f ≡ f
    go (inl e) = let o = one_here s f e in absurd (omega (arith, o, h))
    go (inr e) = ap (λ b. if b then with_words f ws else f) e

pub change_none : (s : ℕ) (ws : List Word) (fs : List Frame) → count s fs ≡ 0 → map (change s ws) fs ≡ fs
change_none s ws [] h = refl
change_none s ws (f ∷ fs) h =
    ap (λ g. g ∷ map (change s ws) fs) (change_elsewhere s ws f (omega (arith, h))) ∙ ap (λ gs. f ∷ gs) (change_none s ws fs (omega (arith, h)))

pub change_at : (s : ℕ) (ws : List Word) (fs : List Frame) (k : ℕ) (f : Frame) → slice_get fs k ≡ Some f → f.serial ≡ s → count s fs ≤ 1 → map (change s ws) fs ≡ slice_set fs k (with_words f ws)
change_at s ws [] k f h e few = absurd cc
change_at s ws (g ∷ fs) zero f h e few =
    let same : g ≡ f = cc in let o = one_same s g (ap (λ (f : Frame). f.serial) same ∙ e) in
    ap (λ g. g ∷ map (change s ws) fs) (change_here s ws g (ap (λ (f : Frame). f.serial) same ∙ e))
    ∙ ap (λ gs. with_words g ws ∷ gs) (change_none s ws fs (omega (arith, o, few)))
    ∙ ap (λ g. with_words g ws ∷ fs) same
change_at s ws (g ∷ fs) (suc k) f h e few =
    let r = count_at s fs k f h e in
    ap (λ g. g ∷ map (change s ws) fs) (change_elsewhere s ws g (omega (arith, r, few)))
    ∙ ap (λ gs. g ∷ gs) (change_at s ws fs k f h e (omega (arith, few)))

pub map_reverse : (h : Frame → Frame) (fs : List Frame) → map h (reverse fs) ≡ reverse (map h fs)
map_reverse h [] = refl
map_reverse h (f ∷ fs) =
    ap (map h) (reverse_more f fs) ∙ map-append h (reverse fs) (f ∷ []) ∙ ap (λ gs. gs ++ h f ∷ []) (map_reverse h fs) ∙ sym (reverse_more (h f) (map h fs))
