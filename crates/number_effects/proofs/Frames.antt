-- How frames are found by their serials.
use Rattle.std.proofs.Common.{◌≡◌, ◌≢◌, ℕ, Bool, true, false, List, [], ◌∷◌, ◌++◌, map, refl, sym, ap, ◌∙◌, inl, inr}
use Rattle.std.proofs.Common.{if◌then◌else◌, nat_eq}
use Rattle.std.proofs.lemmas.Bool.Decides.{eqb_tells}
use Rattle.dis_meaning.specs.Words.{Word, Access, Found}
use Rattle.dis_meaning.specs.Process.{Frame, with_words}
use Rattle.dis_meaning.specs.Places.{words_in, change}
use Rattle.dis_meaning.specs.Step.{made_frame, without}
use Rattle.dis_memory.specs.Control.{next_frame}
use Rattle.dis_memory.proofs.Growing.{found_same}
use Rattle.number_effects.specs.Frames.{NoneHas, new_one, FramesAreFound}

alike : (a b : ℕ) → a ≡ b → nat_eq a b ≡ true
alike a b e = elim (eqb_tells a b) [ inl y ↦ y.0 | inr y ↦ absurd (y.1 e) ]

unlike : (a b : ℕ) → a ≢ b → nat_eq a b ≡ false
unlike a b ne = elim (eqb_tells a b) [ inl y ↦ absurd (ne y.1) | inr y ↦ y.0 ]

told : (a b : ℕ) → nat_eq a b ≡ true → a ≡ b
told a b e = elim (eqb_tells a b) [ inl y ↦ y.1 | inr y ↦ absurd (let z = sym e ∙ y.0 in cc) ]

-- ---- frames before the one that is looked for, and behind it

module _ (s : ℕ) where
  none_before : (gs fs : List Frame) → NoneHas s (gs ++ fs) → NoneHas s gs
  none_before [] fs h = tt
  none_before (g ∷ gs) fs h = (h.0, none_before gs fs h.1)

  none_behind : (gs fs : List Frame) → NoneHas s (gs ++ fs) → NoneHas s fs
  none_behind [] fs h = h
  none_behind (g ∷ gs) fs h = none_behind gs fs h.1

  passed : (gs fs : List Frame) → NoneHas s gs → words_in s (gs ++ fs) ≡ words_in s fs
  passed [] fs h = refl
  passed (g ∷ gs) fs h =
      ap (λ (b : Bool). if b then Found g.words else words_in s (gs ++ fs)) (unlike g.serial s h.0) ∙ passed gs fs h.1

  passed_made : (gs fs : List Frame) → NoneHas s gs → made_frame (gs ++ fs) s ≡ made_frame fs s
  passed_made [] fs h = refl
  passed_made (g ∷ gs) fs h =
      ap (λ (b : Bool). if b then Found g else made_frame (gs ++ fs) s) (unlike g.serial s h.0) ∙ passed_made gs fs h.1

  behind_same : (gs fs hs : List Frame) → words_in s fs ≡ words_in s hs → words_in s (gs ++ fs) ≡ words_in s (gs ++ hs)
  behind_same [] fs hs e = e
  behind_same (g ∷ gs) fs hs e =
      ap (λ (a : Access (List Word)). if nat_eq g.serial s then Found g.words else a) (behind_same gs fs hs e)

  module _ (f : Frame) where
    last : f.serial ≡ s → words_in s (f ∷ []) ≡ Found f.words
    last e = ap (λ (b : Bool). if b then Found f.words else words_in s []) (alike f.serial s e)

    last_made : f.serial ≡ s → made_frame (f ∷ []) s ≡ Found f
    last_made e = ap (λ (b : Bool). if b then Found f else made_frame [] s) (alike f.serial s e)

    last_gone : (fs : List Frame) → f.serial ≡ s → NoneHas s fs → without s (fs ++ f ∷ []) ≡ fs
    last_gone [] e h = ap (λ (b : Bool). if b then [] else f ∷ []) (alike f.serial s e)
    last_gone (g ∷ fs) e h =
        ap (λ (b : Bool). if b then without s (fs ++ f ∷ []) else g ∷ without s (fs ++ f ∷ [])) (unlike g.serial s h.0)
        ∙ ap (λ (hs : List Frame). g ∷ hs) (last_gone fs e h.1)

    more : (fs : List Frame) → f.serial ≢ s → words_in s (fs ++ f ∷ []) ≡ words_in s fs
    more [] ne = ap (λ (b : Bool). if b then Found f.words else words_in s []) (unlike f.serial s ne)
    more (g ∷ fs) ne = ap (λ (a : Access (List Word)). if nat_eq g.serial s then Found g.words else a) (more fs ne)

    more_made : (fs : List Frame) → f.serial ≢ s → made_frame (fs ++ f ∷ []) s ≡ made_frame fs s
    more_made [] ne = ap (λ (b : Bool). if b then Found f else made_frame [] s) (unlike f.serial s ne)
    more_made (g ∷ fs) ne = ap (λ (a : Access Frame). if nat_eq g.serial s then Found g else a) (more_made fs ne)

-- ---- words that are stored in a frame

module _ (s : ℕ) (new : List Word) where
  one_changed : {T : Type 0} (f : Frame) (of : Frame → T) (rest : T)
      → (if nat_eq (change s new f).serial s then of (change s new f) else rest) ≡ (if nat_eq f.serial s then of (with_words f new) else rest)
  one_changed f of rest = go (nat_eq f.serial s) refl
    where
      go : (b : Bool) → nat_eq f.serial s ≡ b
          → (if nat_eq (if b then with_words f new else f).serial s then of (if b then with_words f new else f) else rest)
          ≡ (if b then of (with_words f new) else rest)
      go true is = ap (λ (b : Bool). if b then of (with_words f new) else rest) is
      go false is = ap (λ (b : Bool). if b then of f else rest) is

  one_elsewhere : {T : Type 0} (r : ℕ) → r ≢ s → (f : Frame) (of : Frame → T) (rest : T)
      → (if nat_eq (change s new f).serial r then of (change s new f) else rest) ≡ (if nat_eq f.serial r then of f else rest)
  one_elsewhere r ne f of rest = go (nat_eq f.serial s) refl
    where
      go : (b : Bool) → nat_eq f.serial s ≡ b
          → (if nat_eq (if b then with_words f new else f).serial r then of (if b then with_words f new else f) else rest)
          ≡ (if nat_eq f.serial r then of f else rest)
      go true is =
          let other = unlike f.serial r (λ e. ne (sym e ∙ told f.serial s is)) in
          ap (λ (b : Bool). if b then of (with_words f new) else rest) other ∙ sym (ap (λ (b : Bool). if b then of f else rest) other)
      go false is = refl

  changed : (fs : List Frame) (old : List Word) → words_in s fs ≡ Found old → words_in s (map (change s new) fs) ≡ Found new
  changed [] old e = absurd cc
  changed (f ∷ fs) old e =
      one_changed f (λ g. Found g.words) (words_in s (map (change s new) fs)) ∙ go (nat_eq f.serial s) (changed fs old) e
    where
      go : (b : Bool) → (words_in s fs ≡ Found old → words_in s (map (change s new) fs) ≡ Found new)
          → (if b then Found f.words else words_in s fs) ≡ Found old
          → (if b then Found new else words_in s (map (change s new) fs)) ≡ Found new
      go true rest h = refl
      go false rest h = rest h

  changed_behind : (gs fs : List Frame) (old : List Word) → words_in s (gs ++ fs) ≡ Found old
      → words_in s (map (change s new) gs ++ map (change s new) fs) ≡ Found new
  changed_behind [] fs old e = changed fs old e
  changed_behind (g ∷ gs) fs old e =
      one_changed g (λ h. Found h.words) (words_in s (map (change s new) gs ++ map (change s new) fs))
      ∙ go (nat_eq g.serial s) (changed_behind gs fs old) e
    where
      go : (b : Bool) → (words_in s (gs ++ fs) ≡ Found old → words_in s (map (change s new) gs ++ map (change s new) fs) ≡ Found new)
          → (if b then Found g.words else words_in s (gs ++ fs)) ≡ Found old
          → (if b then Found new else words_in s (map (change s new) gs ++ map (change s new) fs)) ≡ Found new
      go true rest h = refl
      go false rest h = rest h

  changed_made : (fs : List Frame) (f : Frame) → made_frame fs s ≡ Found f → made_frame (map (change s new) fs) s ≡ Found (with_words f new)
  changed_made [] f e = absurd cc
  changed_made (g ∷ fs) f e =
      one_changed g Found (made_frame (map (change s new) fs) s) ∙ go (nat_eq g.serial s) (changed_made fs f) e
    where
      go : (b : Bool) → (made_frame fs s ≡ Found f → made_frame (map (change s new) fs) s ≡ Found (with_words f new))
          → (if b then Found g else made_frame fs s) ≡ Found f
          → (if b then Found (with_words g new) else made_frame (map (change s new) fs) s) ≡ Found (with_words f new)
      go true rest h = ap (λ (k : Frame). Found (with_words k new)) (found_same g f h)
      go false rest h = rest h

  changed_gone : (fs : List Frame) → without s (map (change s new) fs) ≡ without s fs
  changed_gone [] = refl
  changed_gone (f ∷ fs) = go (nat_eq f.serial s) refl ∙ ap (λ (gs : List Frame). if nat_eq f.serial s then gs else f ∷ gs) (changed_gone fs)
    where
      go : (b : Bool) → nat_eq f.serial s ≡ b
          → (if nat_eq (if b then with_words f new else f).serial s
          then without s (map (change s new) fs)
          else (if b then with_words f new else f) ∷ without s (map (change s new) fs))
          ≡ (if nat_eq f.serial s then without s (map (change s new) fs) else f ∷ without s (map (change s new) fs))
      go true is =
          ap (λ (b : Bool). if b then without s (map (change s new) fs) else with_words f new ∷ without s (map (change s new) fs)) is
          ∙ sym (ap (λ (b : Bool). if b then without s (map (change s new) fs) else f ∷ without s (map (change s new) fs)) is)
      go false is = refl

  module _ (r : ℕ) (ne : r ≢ s) where
    elsewhere : (gs fs : List Frame) → words_in r (map (change s new) gs ++ map (change s new) fs) ≡ words_in r (gs ++ fs)
    elsewhere [] [] = refl
    elsewhere [] (f ∷ fs) =
        one_elsewhere r ne f (λ g. Found g.words) (words_in r (map (change s new) fs))
        ∙ ap (λ (a : Access (List Word)). if nat_eq f.serial r then Found f.words else a) (elsewhere [] fs)
    elsewhere (g ∷ gs) fs =
        one_elsewhere r ne g (λ h. Found h.words) (words_in r (map (change s new) gs ++ map (change s new) fs))
        ∙ ap (λ (a : Access (List Word)). if nat_eq g.serial r then Found g.words else a) (elsewhere gs fs)

    elsewhere_made : (fs : List Frame) → made_frame (map (change s new) fs) r ≡ made_frame fs r
    elsewhere_made [] = refl
    elsewhere_made (f ∷ fs) =
        one_elsewhere r ne f Found (made_frame (map (change s new) fs) r)
        ∙ ap (λ (a : Access Frame). if nat_eq f.serial r then Found f else a) (elsewhere_made fs)

pub frames_are_found : FramesAreFound
frames_are_found = record {
  new_words = λ m words h.
      let s = next_frame m.world in
      let p = m.process in
      passed s (p.frame ∷ p.below) (p.made ++ new_one m words ∷ []) (none_before s (p.frame ∷ p.below) p.made h)
      ∙ passed s p.made (new_one m words ∷ []) (none_behind s (p.frame ∷ p.below) p.made h)
      ∙ last s (new_one m words) refl;
  new_made = λ m words h.
      passed_made (next_frame m.world) m.process.made (new_one m words ∷ []) h ∙ last_made (next_frame m.world) (new_one m words) refl;
  new_gone = λ m words h. last_gone (next_frame m.world) (new_one m words) m.process.made refl h;
  other_words = λ m words s ne.
      behind_same s (m.process.frame ∷ m.process.below) (m.process.made ++ new_one m words ∷ []) m.process.made
      (more s (new_one m words) m.process.made (λ e. ne (sym e)));
  other_made = λ m words s ne. more_made s (new_one m words) m.process.made (λ e. ne (sym e));
  stored_words = λ p s old new e. changed_behind s new (p.frame ∷ p.below) p.made old e;
  stored_made = λ p s f new e. changed_made s new p.made f e;
  stored_gone = λ p s new. changed_gone s new p.made;
  elsewhere_words = λ p s new r ne. elsewhere s new r ne (p.frame ∷ p.below) p.made;
  elsewhere_made = λ p s new r ne. elsewhere_made s new r ne p.made;
}
