-- Frames that are found by their addresses.
use Rattle.std.proofs.Common.{◌≡◌, ℕ, Bool, true, false, [], ◌∷◌, ◌++◌, append-nil, refl, sym, ap, ◌∙◌, arith, if◌then◌else◌}
use Rattle.std.specs.Prelude.{pos, reverse}
use Rattle.std.specs.Ordering.{int_eq}
use Rattle.dis_meaning.specs.Words.{Access, Found, Wrong, ◌>>=◌, type_check, dead_address}
use Rattle.dis_meaning.specs.Process.{Frame}
use Rattle.dis_meaning.specs.Places.{words_in, all_frames}
use Rattle.dis_meaning.specs.Step.{made_frame, frame_of}
use Rattle.dis_places.specs.declared.process.Process as code_process
use Rattle.dis_places.specs.Frames.{view_frame, view_frames, count, occurs, IsAt}
use Rattle.dis_places.specs.View.{view_process}
use Rattle.dis_places.proofs.Serials.{one_same, count_reverse, count_at, words_past, words_among, among_at, among_reverse}
use Rattle.dis_stores.proofs.Written.{once, words_running, words_gone}
use Rattle.dis_calls.specs.Made.{Made}
use Rattle.dis_calls.proofs.Made.{made_at_place, none_made}

-- What is made of a frame's words.
abbrev then_made : code_process.Process → ℕ → Bool → Access Frame
then_made p s b = if b then made_frame (view_process p).made s else Wrong type_check

none_there : (p : code_process.Process) (s : ℕ) (b : Bool) → count s (view_frames p.made.items) ≡ 0 → then_made p s b ≡ Wrong type_check
none_there p s true h = none_made s (view_frames p.made.items) h
none_there p s false h = refl

module _ (p : code_process.Process) (s : ℕ) where
  words_below : (k : ℕ) → (at : IsAt s (view_frames p.below.items) k) → words_in s (all_frames (view_process p)) ≡ Found at.frame.words
  words_below k at =
      let B = view_frames p.below.items in let M = view_frames p.made.items in
      let o = once p s in let m = count_at s B k at.frame at.there at.same in let r = count_reverse s B in
      words_past s (view_frame p.frame ∷ []) (reverse B ++ M) (omega (arith, o, m))
      ∙ words_among s at.frame (reverse B) M (among_reverse at.frame B (among_at B k at.frame at.there)) at.same (omega (arith, o, r))

  words_made : (k : ℕ) → (at : IsAt s (view_frames p.made.items) k) → words_in s (all_frames (view_process p)) ≡ Found at.frame.words
  words_made k at =
      let B = view_frames p.below.items in let M = view_frames p.made.items in
      let o = once p s in let m = count_at s M k at.frame at.there at.same in let r = count_reverse s B in
      words_past s (view_frame p.frame ∷ []) (reverse B ++ M) (omega (arith, o, m))
      ∙ words_past s (reverse B) M (omega (arith, o, m, r))
      ∙ ap (words_in s) (sym (append-nil M))
      ∙ words_among s at.frame M [] (among_at M k at.frame at.there) at.same (omega (arith, o))

  module _ (at : ℕ) where
    pub made_found : (k : ℕ) → IsAt s (view_frames p.made.items) k → at ≡ 0 → Made p k (frame_of (view_process p) s (pos at))
    made_found k there zero =
        let o = once p s in record {
          frame = there.frame;
          there = there.there;
          found =
              ap (λ a. a >>= λ words. then_made p s (int_eq (pos at) (pos 0))) (words_made k there)
              ∙ ap (λ n. then_made p s (int_eq (pos n) (pos 0))) zero
              ∙ made_at_place s (view_frames p.made.items) k there.frame there.there there.same (omega (arith, o));
        }

    pub within_made : (k : ℕ) → IsAt s (view_frames p.made.items) k → int_eq (pos at) (pos 0) ≡ false → frame_of (view_process p) s (pos at) ≡ Wrong type_check
    within_made k there other =
        ap (λ a. a >>= λ words. then_made p s (int_eq (pos at) (pos 0))) (words_made k there) ∙ ap (then_made p s) other

    pub running_found : p.frame.serial ≡ s → frame_of (view_process p) s (pos at) ≡ Wrong type_check
    running_found same =
        let o = once p s in let one = one_same s (view_frame p.frame) same in
        ap (λ a. a >>= λ words. then_made p s (int_eq (pos at) (pos 0))) (words_running p s same) ∙ none_there p s (int_eq (pos at) (pos 0)) (omega (arith, o, one))

    pub below_found : (k : ℕ) → IsAt s (view_frames p.below.items) k → frame_of (view_process p) s (pos at) ≡ Wrong type_check
    below_found k there =
        let o = once p s in let m = count_at s (view_frames p.below.items) k there.frame there.there there.same in
        ap (λ a. a >>= λ words. then_made p s (int_eq (pos at) (pos 0))) (words_below k there) ∙ none_there p s (int_eq (pos at) (pos 0)) (omega (arith, o, m))

    pub gone_found : occurs s (view_frame p.frame) (view_frames p.below.items) (view_frames p.made.items) ≡ 0 → frame_of (view_process p) s (pos at) ≡ Wrong dead_address
    gone_found none = ap (λ a. a >>= λ words. then_made p s (int_eq (pos at) (pos 0))) (words_gone p s none)
