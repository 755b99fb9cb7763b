-- Reads and stores through the address of a frame.
use Rattle.std.proofs.Common.{◌≡◌, ℕ, ℤ, pos, Bool, true, false, List, [], ◌∷◌, ◌++◌, map, refl, ap, ◌∙◌, if◌then◌else◌}
use Rattle.std.specs.Prelude.{nat_eq}
use Rattle.std.proofs.lemmas.Bool.{eq-eqb, eqb-true}
use Rattle.dis_meaning.specs.Words.{InFrame, Word, Address, Found, Wrong, ◌>>=◌, stored, type_check}
use Rattle.dis_meaning.specs.World.{World}
use Rattle.dis_meaning.specs.Process.{Frame, Process, with_words, with_frames}
use Rattle.dis_meaning.specs.Step.{made_frame, frame_at}
use Rattle.dis_meaning.specs.Places.{Far, words_in, words_at, store, change, with_words_at}

unequal : (a b : ℕ) → (a ≡ b → ⊥) → nat_eq a b ≡ false
unequal a b ne = go (nat_eq a b) refl
  where
    go : (t : Bool) → nat_eq a b ≡ t → t ≡ false
    go true e = absurd (ne (eqb-true a b e))
    go false e = refl

-- None of these has this serial.
abbrev pub NoneHas : ℕ → List Frame → Type 0
NoneHas s [] = Unit {0}
NoneHas s (f ∷ fs) = (f.serial ≡ s → ⊥) × NoneHas s fs

pub words_here : (s : ℕ) (f : Frame) (fs : List Frame) → f.serial ≡ s → words_in s (f ∷ fs) ≡ Found f.words
words_here s f fs e = ap (λ t. if t then Found f.words else words_in s fs) (eq-eqb f.serial s e)

pub words_behind : (s : ℕ) (fs gs : List Frame) → NoneHas s fs → words_in s (fs ++ gs) ≡ words_in s gs
words_behind s [] gs h = refl
words_behind s (f ∷ fs) gs h = ap (λ t. if t then Found f.words else words_in s (fs ++ gs)) (unequal f.serial s h.0)
    ∙ words_behind s fs gs h.1

pub changed_here : (s : ℕ) (words : List Word) (f : Frame) → f.serial ≡ s → change s words f ≡ with_words f words
changed_here s words f e = ap (λ t. if t then with_words f words else f) (eq-eqb f.serial s e)

pub unchanged : (s : ℕ) (words : List Word) (f : Frame) → (f.serial ≡ s → ⊥) → change s words f ≡ f
unchanged s words f ne = ap (λ t. if t then with_words f words else f) (unequal f.serial s ne)

pub all_unchanged : (s : ℕ) (words : List Word) (fs : List Frame) → NoneHas s fs → map (change s words) fs ≡ fs
all_unchanged s words [] h = refl
all_unchanged s words (f ∷ fs) h = ap (λ g. g ∷ map (change s words) fs) (unchanged s words f h.0)
    ∙ ap (λ l. f ∷ l) (all_unchanged s words fs h.1)

-- ---- the frame that is made

module _ (x : World) (r : Process) (n : Frame) (one : r.made ≡ n ∷ []) (own : r.frame.serial ≡ n.serial
    → ⊥) (below : NoneHas n.serial r.below) (at : ℤ) where
  pub made_words : words_at x r (Far (InFrame n.serial) at) ≡ Found n.words
  made_words =
      words_behind n.serial (r.frame ∷ r.below) r.made (own, below) ∙ ap (words_in n.serial) one ∙ words_here n.serial n [] refl

  pub made_found : frame_at x r (Address (InFrame n.serial) (pos 0)) ≡ Found n
  made_found =
      ap (λ a. a >>= λ words. made_frame r.made n.serial) made_words
      ∙ ap (λ fs. made_frame fs n.serial) one
      ∙ ap (λ t. if t then Found n else Wrong type_check) (eq-eqb n.serial n.serial refl)

  pub made_with : (words : List Word) → with_words_at x r (Far (InFrame n.serial) at) words
      ≡ Found (record { world = x; process = with_frames r r.frame r.below (with_words n words ∷ []) })
  made_with words =
      ap (λ f. Found (record {
        world = x;
        process = with_frames r f (map (change n.serial words) r.below) (map (change n.serial words) r.made);
      }))
      (unchanged n.serial words r.frame own)
      ∙ ap (λ fs. Found (record { world = x; process = with_frames r r.frame fs (map (change n.serial words) r.made) }))
      (all_unchanged n.serial words r.below below)
      ∙ ap (λ fs. Found (record { world = x; process = with_frames r r.frame r.below (map (change n.serial words) fs) })) one
      ∙ ap (λ f. Found (record { world = x; process = with_frames r r.frame r.below (f ∷ []) })) (changed_here n.serial words n refl)

  pub made_stored : (new : Word) (words : List Word) → stored n.words at new ≡ Found words
      → store x r (Far (InFrame n.serial) at) new
      ≡ Found (record { world = x; process = with_frames r r.frame r.below (with_words n words ∷ []) })
  made_stored new words e =
      ap (λ a. a >>= λ words. stored words at new >>= with_words_at x r (Far (InFrame n.serial) at)) made_words
      ∙ ap (λ a. a >>= with_words_at x r (Far (InFrame n.serial) at)) e
      ∙ made_with words

-- ---- the running frame

module _ (x : World) (r : Process) (none : r.made ≡ []) (below : NoneHas r.frame.serial r.below) (at : ℤ) where
  pub own_words : words_at x r (Far (InFrame r.frame.serial) at) ≡ Found r.frame.words
  own_words = words_here r.frame.serial r.frame (r.below ++ r.made) refl

  pub own_with : (words : List Word) → with_words_at x r (Far (InFrame r.frame.serial) at) words
      ≡ Found (record { world = x; process = with_frames r (with_words r.frame words) r.below [] })
  own_with words =
      ap (λ f. Found (record {
        world = x;
        process = with_frames r f (map (change r.frame.serial words) r.below) (map (change r.frame.serial words) r.made);
      }))
      (changed_here r.frame.serial words r.frame refl)
      ∙ ap (λ fs. Found (record {
        world = x;
        process = with_frames r (with_words r.frame words) fs (map (change r.frame.serial words) r.made);
      }))
      (all_unchanged r.frame.serial words r.below below)
      ∙ ap (λ fs. Found (record {
        world = x;
        process = with_frames r (with_words r.frame words) r.below (map (change r.frame.serial words) fs);
      })) none

  pub own_stored : (new : Word) (words : List Word) → stored r.frame.words at new ≡ Found words
      → store x r (Far (InFrame r.frame.serial) at) new
      ≡ Found (record { world = x; process = with_frames r (with_words r.frame words) r.below [] })
  own_stored new words e =
      ap (λ a. a >>= λ words. stored words at new >>= with_words_at x r (Far (InFrame r.frame.serial) at)) own_words
      ∙ ap (λ a. a >>= with_words_at x r (Far (InFrame r.frame.serial) at)) e
      ∙ ap (λ f. Found (record {
        world = x;
        process = with_frames r f (map (change r.frame.serial words) r.below) (map (change r.frame.serial words) r.made);
      }))
      (changed_here r.frame.serial words r.frame refl)
      ∙ ap (λ fs. Found (record {
        world = x;
        process = with_frames r (with_words r.frame words) fs (map (change r.frame.serial words) r.made);
      }))
      (all_unchanged r.frame.serial words r.below below)
      ∙ ap (λ fs. Found (record {
        world = x;
        process = with_frames r (with_words r.frame words) r.below (map (change r.frame.serial words) fs);
      })) none

-- ---- the frame below

module _ (x : World) (r : Process) (f : Frame) (fs : List Frame) (first : r.below ≡ f ∷ fs) (none : r.made ≡ [])
    (own : r.frame.serial ≡ f.serial → ⊥) (below : NoneHas f.serial fs) (at : ℤ) where
  pub below_words : words_at x r (Far (InFrame f.serial) at) ≡ Found f.words
  below_words =
      words_behind f.serial (r.frame ∷ []) (r.below ++ r.made) (own, tt) ∙ ap (λ l. words_in f.serial (l ++ r.made)) first
      ∙ words_here f.serial f (fs ++ r.made) refl

  pub below_with : (words : List Word) → with_words_at x r (Far (InFrame f.serial) at) words
      ≡ Found (record { world = x; process = with_frames r r.frame (with_words f words ∷ fs) [] })
  below_with words =
      ap (λ g. Found (record {
        world = x;
        process = with_frames r g (map (change f.serial words) r.below) (map (change f.serial words) r.made);
      }))
      (unchanged f.serial words r.frame own)
      ∙ ap (λ l. Found (record {
        world = x;
        process = with_frames r r.frame (map (change f.serial words) l) (map (change f.serial words) r.made);
      })) first
      ∙ ap (λ g. Found (record {
        world = x;
        process = with_frames r r.frame (g ∷ map (change f.serial words) fs) (map (change f.serial words) r.made);
      }))
      (changed_here f.serial words f refl)
      ∙ ap (λ l. Found (record {
        world = x;
        process = with_frames r r.frame (with_words f words ∷ l) (map (change f.serial words) r.made);
      }))
      (all_unchanged f.serial words fs below)
      ∙ ap (λ l. Found (record { world = x; process = with_frames r r.frame (with_words f words ∷ fs) (map (change f.serial words) l) }))
      none

  pub below_stored : (new : Word) (words : List Word) → stored f.words at new ≡ Found words
      → store x r (Far (InFrame f.serial) at) new
      ≡ Found (record { world = x; process = with_frames r r.frame (with_words f words ∷ fs) [] })
  below_stored new words e =
      ap (λ a. a >>= λ words. stored words at new >>= with_words_at x r (Far (InFrame f.serial) at)) below_words
      ∙ ap (λ a. a >>= with_words_at x r (Far (InFrame f.serial) at)) e
      ∙ ap (λ g. Found (record {
        world = x;
        process = with_frames r g (map (change f.serial words) r.below) (map (change f.serial words) r.made);
      }))
      (unchanged f.serial words r.frame own)
      ∙ ap (λ l. Found (record {
        world = x;
        process = with_frames r r.frame (map (change f.serial words) l) (map (change f.serial words) r.made);
      })) first
      ∙ ap (λ g. Found (record {
        world = x;
        process = with_frames r r.frame (g ∷ map (change f.serial words) fs) (map (change f.serial words) r.made);
      }))
      (changed_here f.serial words f refl)
      ∙ ap (λ l. Found (record {
        world = x;
        process = with_frames r r.frame (with_words f words ∷ l) (map (change f.serial words) r.made);
      }))
      (all_unchanged f.serial words fs below)
      ∙ ap (λ l. Found (record { world = x; process = with_frames r r.frame (with_words f words ∷ fs) (map (change f.serial words) l) }))
      none
