-- The words of frames, as an address names them.
use Rattle.std.proofs.Common.{◌≡◌, ℕ, List, [], ◌∷◌, ◌++◌, Option, Some, None, Result, Ok, Err, IfOk, refl, sym, ap, ◌∙◌, arith, append-nil, if◌then◌else◌}
use Rattle.std.specs.Prelude.{slice_get, reverse}
use Rattle.std.specs.Option.{option_map}
use Rattle.std.proofs.lemmas.Option.{slice_get-map}
use Rattle.ref_heap.specs.declared.word.Ref.{Ref}
use Rattle.ref_heap.specs.Store.{Store, at}
use Rattle.dis_meaning.specs.Words.{Word, Access, Found, Wrong, dead_address}
use Rattle.dis_meaning.specs.Process.{Frame}
use Rattle.dis_meaning.specs.Places as places
use Rattle.dis_meaning.specs.Places.{all_frames}
use Rattle.dis_places.specs.declared.frame.Frame as code_frame
use Rattle.dis_places.specs.declared.process.Process.{Process}
use Rattle.dis_places.specs.declared.fault.Fault.{Fault}
use Rattle.dis_places.specs.declared.spots.Region.{Region}
use Rattle.dis_places.specs.declared.spots.Region.TheVariants as region
use Rattle.dis_places.specs.Words.{view_words, GivesFault}
use Rattle.dis_places.specs.Frames.{view_frame, view_frames, one, occurs, IsAt}
use Rattle.dis_places.specs.View.{view_process}
use Rattle.dis_places.specs.Regions.{words_in, words_here, block_words}
use Rattle.dis_places.proofs.Serials.{count_reverse, count_at, words_past, no_words, words_among, among_at, among_reverse, same_here}

-- The frame at a place has this serial.
record Here (s : ℕ) (fs : List code_frame.Frame) (k : ℕ) : Type 0 where
  frame : code_frame.Frame
  there : slice_get fs k ≡ Some frame
  seen : slice_get (view_frames fs) k ≡ Some (view_frame frame)
  same : frame.serial ≡ s

here : (s : ℕ) (fs : List code_frame.Frame) (k : ℕ) → IsAt s (view_frames fs) k → Here s fs k
here s fs k at = go (slice_get fs k) refl
  where
    go : (o : Option code_frame.Frame) → slice_get fs k ≡ o → Here s fs k
    go None e = let n : None ≡ Some at.frame = ap (option_map view_frame) (sym e) ∙ sym (slice_get-map view_frame fs k) ∙ at.there in absurd cc
    go (Some f) e =
        let seen : slice_get (view_frames fs) k ≡ Some (view_frame f) = slice_get-map view_frame fs k ∙ ap (option_map view_frame) e in
        let same : Some (view_frame f) ≡ Some at.frame = sym seen ∙ at.there in
        let is : view_frame f ≡ at.frame = cc in
        record { frame = f; there = e; seen = seen; same = ap (λ (f : Frame). f.serial) is ∙ at.same }

-- Where the running frame has another serial.
elsewhere : (s : ℕ) (f : Frame) (fs : List Frame) → one s f ≡ 0 → places.words_in s (f ∷ fs) ≡ places.words_in s fs
elsewhere s f fs h = words_past s (f ∷ []) fs (omega (arith, h))

module _ (p : Process) (s : ℕ) where
  pub words_running : p.frame.serial ≡ s → places.words_in s (all_frames (view_process p)) ≡ Found (view_words p.frame.words.items)
  words_running e =
      ap (λ b. if b then Found (view_words p.frame.words.items) else places.words_in s (reverse (view_frames p.below.items) ++ view_frames p.made.items))
      (same_here s (view_frame p.frame) e)

  pub words_below : (k : ℕ) → IsAt s (view_frames p.below.items) k → places.words_in s (all_frames (view_process p)) ≡ Found (words_in (slice_get p.below.items k))
  words_below k at =
      let B = view_frames p.below.items in let M = view_frames p.made.items in
      let h = here s p.below.items k at in
      let o = p.once s in let m = count_at s B k (view_frame h.frame) h.seen h.same in let r = count_reverse s B in
      elsewhere s (view_frame p.frame) (reverse B ++ M) (omega (arith, o, m))
      ∙ words_among s (view_frame h.frame) (reverse B) M (among_reverse (view_frame h.frame) B (among_at B k (view_frame h.frame) h.seen)) h.same
      (omega (arith, o, r))
      ∙ ap (λ f. Found (words_in f)) (sym h.there)

  pub words_made : (k : ℕ) → IsAt s (view_frames p.made.items) k → places.words_in s (all_frames (view_process p)) ≡ Found (words_in (slice_get p.made.items k))
  words_made k at =
      let B = view_frames p.below.items in let M = view_frames p.made.items in
      let h = here s p.made.items k at in
      let o = p.once s in let m = count_at s M k (view_frame h.frame) h.seen h.same in let r = count_reverse s B in
      elsewhere s (view_frame p.frame) (reverse B ++ M) (omega (arith, o, m))
      ∙ words_past s (reverse B) M (omega (arith, o, m, r))
      ∙ ap (places.words_in s) (sym (append-nil M))
      ∙ words_among s (view_frame h.frame) M [] (among_at M k (view_frame h.frame) h.seen) h.same (omega (arith, o))
      ∙ ap (λ f. Found (words_in f)) (sym h.there)

  pub words_gone : occurs s (view_frame p.frame) (view_frames p.below.items) (view_frames p.made.items) ≡ 0 → places.words_in s (all_frames (view_process p)) ≡ Wrong dead_address
  words_gone h =
      let B = view_frames p.below.items in let M = view_frames p.made.items in
      let r = count_reverse s B in
      elsewhere s (view_frame p.frame) (reverse B ++ M) (omega (arith, h))
      ∙ words_past s (reverse B) M (omega (arith, h, r))
      ∙ no_words s M (omega (arith, h))

-- The region of a block has its words.
pub in_region : (h : Store) (p : Process) (b : Ref) (r : Result Region Fault) (a : Access (List Word)) → IfOk r (λ g. g ≡ region.Block b) →
    GivesFault (λ _. block_words (at h b.serial)) r a → GivesFault (λ g. words_here h p g) r a
in_region h p b (Ok g) a e gives = gives ∙ ap (λ g. Found (words_here h p g)) (sym e)
in_region h p b (Err f) a e gives = gives
