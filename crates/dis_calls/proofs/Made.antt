-- Frames that are made, by their serials.
use Rattle.std.proofs.Common.{◌≡◌, ℕ, zero, suc, ◌+◌, ◌≤◌, true, false, List, [], ◌∷◌, map, Some, ◌⊎◌, inl, inr, refl, ap, ◌∙◌, arith, if◌then◌else◌}
use Rattle.std.specs.Prelude.{slice_get, nat_eq}
use Rattle.std.specs.List.{remove}
use Rattle.dis_meaning.specs.Words.{Found, Wrong, type_check}
use Rattle.dis_meaning.specs.Process.{Frame}
use Rattle.dis_meaning.specs.Step.{made_frame, without}
use Rattle.dis_places.specs.Frames.{one, count}
use Rattle.dis_places.proofs.Serials.{which, one_here, same_here, count_at}

pub made_at_place : (s : ℕ) (fs : List Frame) (k : ℕ) (f : Frame) → slice_get fs k ≡ Some f → f.serial ≡ s → count s fs ≤ 1 → made_frame fs s ≡ Found f
made_at_place s [] k f h e few = absurd cc
made_at_place s (g ∷ fs) zero f h e few =
    let same : g ≡ f = cc in
    ap (λ b. if b then Found g else made_frame fs s) (same_here s g (ap (λ (f : Frame). f.serial) same ∙ e)) ∙ ap Found same
made_at_place s (g ∷ fs) (suc k) f h e few = go (which (nat_eq g.serial s)) (made_at_place s fs k f h e (omega (arith, few)))
  where
    go : (nat_eq g.serial s ≡ true) ⊎ (nat_eq g.serial s ≡ false) → made_frame fs s ≡ Found f → made_frame (g ∷ fs) s ≡ Found f
    go (inl here) r = let o = one_here s g here in let m = count_at s fs k f h e in absurd (omega (arith, o, m, few))
    go (inr there) r = ap (λ b. if b then Found g else made_frame fs s) there ∙ r

pub none_made : (s : ℕ) (fs : List Frame) → count s fs ≡ 0 → made_frame fs s ≡ Wrong type_check
none_made s [] h = refl
none_made s (f ∷ fs) h = go (which (nat_eq f.serial s)) (none_made s fs (omega (arith, h)))
  where
    go : (nat_eq f.serial s ≡ true) ⊎ (nat_eq f.serial s ≡ false) → made_frame fs s ≡ Wrong type_check → made_frame (f ∷ fs) s ≡ Wrong type_check
    go (inl e) r = let o = one_here s f e in absurd (omega (arith, o, h))
    go (inr e) r = ap (λ b. if b then Found f else made_frame fs s) e ∙ r

pub without_none : (s : ℕ) (fs : List Frame) → count s fs ≡ 0 → without s fs ≡ fs
without_none s [] h = refl
without_none s (f ∷ fs) h = go (which (nat_eq f.serial s)) (without_none s fs (omega (arith, h)))
  where
    go : (nat_eq f.serial s ≡ true) ⊎ (nat_eq f.serial s ≡ false) → without s fs ≡ fs → without s (f ∷ fs) ≡ f ∷ fs
    go (inl e) r = let o = one_here s f e in absurd (omega (arith, o, h))
    go (inr e) r = ap (λ b. if b then without s fs else f ∷ without s fs) e ∙ ap (λ gs. f ∷ gs) r

pub without_one : (s : ℕ) (fs : List Frame) (k : ℕ) (f : Frame) → slice_get fs k ≡ Some f → f.serial ≡ s → count s fs ≤ 1 → without s fs ≡ remove fs k
without_one s [] k f h e few = absurd cc
without_one s (g ∷ fs) zero f h e few =
    let same : g ≡ f = cc in
    let here = same_here s g (ap (λ (f : Frame). f.serial) same ∙ e) in let o = one_here s g here in
    ap (λ b. if b then without s fs else g ∷ without s fs) here ∙ without_none s fs (omega (arith, o, few))
without_one s (g ∷ fs) (suc k) f h e few = go (which (nat_eq g.serial s)) (without_one s fs k f h e (omega (arith, few)))
  where
    go : (nat_eq g.serial s ≡ true) ⊎ (nat_eq g.serial s ≡ false) → without s fs ≡ remove fs k → without s (g ∷ fs) ≡ g ∷ remove fs k
    go (inl here) r = let o = one_here s g here in let m = count_at s fs k f h e in absurd (omega (arith, o, m, few))
    go (inr there) r = ap (λ b. if b then without s fs else g ∷ without s fs) there ∙ ap (λ gs. g ∷ gs) r

pub count_removed : (s : ℕ) (fs : List Frame) (k : ℕ) (f : Frame) → slice_get fs k ≡ Some f → count s (remove fs k) + one s f ≡ count s fs
count_removed s [] k f h = absurd cc
count_removed s (g ∷ fs) zero f h = let same : g ≡ f = cc in let o = ap (one s) same in omega (arith, o)
count_removed s (g ∷ fs) (suc k) f h = let r = count_removed s fs k f h in omega (arith, r)

pub map_remove : {A B : Type 0} (v : A → B) (xs : List A) (k : ℕ) → map v (remove xs k) ≡ remove (map v xs) k
map_remove v [] zero = refl
map_remove v [] (suc k) = refl
map_remove v (x ∷ xs) zero = refl
map_remove v (x ∷ xs) (suc k) = ap (λ ys. v x ∷ ys) (map_remove v xs k)
