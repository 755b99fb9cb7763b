-- Words that are stored in a frame.
use Rattle.std.proofs.Common.{◌≡◌, ℕ, ◌<◌, ◌≤◌, List, [], ◌∷◌, ◌++◌, map, length, get_or, Some, Result, Ok, Err, refl, sym, ap, ◌∙◌, subst, append-nil, arith, if◌then◌else◌}
use Rattle.std.specs.Prelude.{slice_get, slice_set, reverse, IfOk}
use Rattle.std.specs.Option.{option_map}
use Rattle.std.proofs.lemmas.List.{map-set, length-map}
use Rattle.std.proofs.lemmas.Option.{slice_get-map, slice_get_read, slice_get_within}
use Rattle.dis_meaning.specs.Words.{Word, Access, Found, Wrong, ◌>>=◌, dead_address}
use Rattle.dis_meaning.specs.Process.{Frame, with_words, with_frames}
use Rattle.dis_meaning.specs.Places.{words_in, all_frames, change, with_frame_words}
use Rattle.dis_places.specs.declared.fault.Fault.{Fault}
use Rattle.dis_places.specs.declared.frame.Frame as code_frame
use Rattle.dis_places.specs.declared.process.Process as code_proc
use Rattle.dis_places.specs.Words.{view_words, GivesFault}
use Rattle.dis_places.specs.Frames.{view_frame, view_frames, one, count, occurs, IsAt}
use Rattle.dis_places.specs.View.{view_process}
use Rattle.dis_places.proofs.Serials.{one_same, count_reverse, count_set, count_at, words_past, no_words, words_among, among_at, among_reverse, same_here, change_here, change_elsewhere, change_none, change_at, map_reverse}

-- What a call gives, when more is done with it.
pub gives_then : {S T U : Type 0} (r : Result S Fault) (a : Access T) (f : T → Access U) (see : S → T) (see' : S → U) → ((s : S) → f (see s) ≡ Found (see' s)) → GivesFault see r a → GivesFault see' r (a >>= f)
gives_then (Ok s) a f see see' e h = ap (λ a. a >>= f) h ∙ e s
gives_then (Err n) a f see see' e h = ap (λ a. a >>= f) h

-- What a call gives, when it does the middle of three steps.
pub gives_within : {S T U V : Type 0} (r : Result S Fault) (a : Access T) (t : T) (f : T → Access U) (g : U → Access V) (see : S → U) (see' : S → V) →
    a ≡ Found t → ((s : S) → g (see s) ≡ Found (see' s)) → GivesFault see r (f t) → GivesFault see' r (a >>= f >>= g)
gives_within r a t f g see see' e h gives = subst (λ a. GivesFault see' r (a >>= f >>= g)) (sym e) (gives_then r (f t) g see see' h gives)

-- ---- what a list has at a place

-- A thing that is seen at a place of a list.
pub seen : {A B : Type 0} (v : A → B) (xs : List A) (k : ℕ) (x : A) → k < length xs → x ≡ get_or xs k x → slice_get (map v xs) k ≡ Some (v x)
seen v xs k x lt is = slice_get-map v xs k ∙ ap (option_map v) (slice_get_read xs (length xs) k x refl lt is)

pub within : (s : ℕ) (fs : List code_frame.Frame) (k : ℕ) → IsAt s (view_frames fs) k → k < length fs
within s fs k at = let w = slice_get_within (view_frames fs) k at.frame at.there in let l = length-map fs view_frame in omega (arith, w, l)

pub frame_seen : (s : ℕ) (fs : List code_frame.Frame) (k : ℕ) (f : code_frame.Frame) → IsAt s (view_frames fs) k → f ≡ get_or fs k f → slice_get (view_frames fs) k ≡ Some (view_frame f)
frame_seen s fs k f at is = seen view_frame fs k f (within s fs k at) is

pub serial_seen : (s : ℕ) (fs : List code_frame.Frame) (k : ℕ) (f : code_frame.Frame) → IsAt s (view_frames fs) k → f ≡ get_or fs k f → f.serial ≡ s
serial_seen s fs k f at is =
    let e : Some (view_frame f) ≡ Some at.frame = sym (frame_seen s fs k f at is) ∙ at.there in
    let same : view_frame f ≡ at.frame = cc in
    ap (λ (f : Frame). f.serial) same ∙ at.same

-- ---- each serial is at most one frame's

pub once : (p : code_proc.Process) (s : ℕ) → occurs s (view_frame p.frame) (view_frames p.below.items) (view_frames p.made.items) ≤ 1
once p s = p.once s

-- ---- the words of a frame

pub words_running : (p : code_proc.Process) (s : ℕ) → p.frame.serial ≡ s → words_in s (all_frames (view_process p)) ≡ Found (view_words p.frame.words.items)
words_running p s e =
    ap (λ b. if b then Found (view_words p.frame.words.items) else words_in s (reverse (view_frames p.below.items) ++ view_frames p.made.items)) (same_here s (view_frame p.frame) e)

-- Where the running frame has another serial.
elsewhere : (s : ℕ) (f : Frame) (fs : List Frame) → one s f ≡ 0 → words_in s (f ∷ fs) ≡ words_in s fs
elsewhere s f fs h = words_past s (f ∷ []) fs (omega (arith, h))

pub words_below : (p : code_proc.Process) (s k : ℕ) (f : code_frame.Frame) → IsAt s (view_frames p.below.items) k → f ≡ get_or p.below.items k f → words_in s (all_frames (view_process p)) ≡ Found (view_words f.words.items)
words_below p s k f at is =
    let B = view_frames p.below.items in
    let there = frame_seen s p.below.items k f at is in
    let serial = serial_seen s p.below.items k f at is in
    let o = once p s in let m = count_at s B k (view_frame f) there serial in let r = count_reverse s B in
    elsewhere s (view_frame p.frame) (reverse B ++ view_frames p.made.items) (omega (arith, o, m))
    ∙ words_among s (view_frame f) (reverse B) (view_frames p.made.items) (among_reverse (view_frame f) B (among_at B k (view_frame f) there)) serial (omega (arith, o, r))

pub words_made : (p : code_proc.Process) (s k : ℕ) (f : code_frame.Frame) → IsAt s (view_frames p.made.items) k → f ≡ get_or p.made.items k f → words_in s (all_frames (view_process p)) ≡ Found (view_words f.words.items)
words_made p s k f at is =
    let B = view_frames p.below.items in let M = view_frames p.made.items in
    let there = frame_seen s p.made.items k f at is in
    let serial = serial_seen s p.made.items k f at is in
    let o = once p s in let m = count_at s M k (view_frame f) there serial in let r = count_reverse s B in
    elsewhere s (view_frame p.frame) (reverse B ++ M) (omega (arith, o, m))
    ∙ words_past s (reverse B) M (omega (arith, o, m, r))
    ∙ ap (words_in s) (sym (append-nil M))
    ∙ words_among s (view_frame f) M [] (among_at M k (view_frame f) there) serial (omega (arith, o))

pub words_gone : (p : code_proc.Process) (s : ℕ) → occurs s (view_frame p.frame) (view_frames p.below.items) (view_frames p.made.items) ≡ 0 → words_in s (all_frames (view_process p)) ≡ Wrong dead_address
words_gone p s h =
    let B = view_frames p.below.items in let M = view_frames p.made.items in
    let r = count_reverse s B in
    elsewhere s (view_frame p.frame) (reverse B ++ M) (omega (arith, h))
    ∙ words_past s (reverse B) M (omega (arith, h, r))
    ∙ no_words s M (omega (arith, h))

-- ---- a frame with other words

pub changed_running : (p : code_proc.Process) (s : ℕ) (ws : List Word) → p.frame.serial ≡ s →
    with_frame_words (view_process p) s ws ≡ with_frames (view_process p) (with_words (view_frame p.frame) ws) (reverse (view_frames p.below.items)) (view_frames p.made.items)
changed_running p s ws e =
    let B = view_frames p.below.items in let M = view_frames p.made.items in
    let o = once p s in let one = one_same s (view_frame p.frame) e in let r = count_reverse s B in
    ap (λ f. with_frames (view_process p) f (map (change s ws) (reverse B)) (map (change s ws) M)) (change_here s ws (view_frame p.frame) e)
    ∙ ap (λ fs. with_frames (view_process p) (with_words (view_frame p.frame) ws) fs (map (change s ws) M)) (change_none s ws (reverse B) (omega (arith, o, one, r)))
    ∙ ap (λ fs. with_frames (view_process p) (with_words (view_frame p.frame) ws) (reverse B) fs) (change_none s ws M (omega (arith, o, one)))

pub changed_below : (p : code_proc.Process) (s k : ℕ) (f : code_frame.Frame) (ws : List Word) → IsAt s (view_frames p.below.items) k → f ≡ get_or p.below.items k f →
    with_frame_words (view_process p) s ws ≡ with_frames (view_process p) (view_frame p.frame) (reverse (slice_set (view_frames p.below.items) k (with_words (view_frame f) ws))) (view_frames p.made.items)
changed_below p s k f ws at is =
    let B = view_frames p.below.items in let M = view_frames p.made.items in
    let there = frame_seen s p.below.items k f at is in
    let serial = serial_seen s p.below.items k f at is in
    let o = once p s in let m = count_at s B k (view_frame f) there serial in
    ap (λ f. with_frames (view_process p) f (map (change s ws) (reverse B)) (map (change s ws) M)) (change_elsewhere s ws (view_frame p.frame) (omega (arith, o, m)))
    ∙ ap (λ fs. with_frames (view_process p) (view_frame p.frame) fs (map (change s ws) M)) (map_reverse (change s ws) B ∙ ap reverse (change_at s ws B k (view_frame f) there serial (omega (arith, o))))
    ∙ ap (λ fs. with_frames (view_process p) (view_frame p.frame) (reverse (slice_set B k (with_words (view_frame f) ws))) fs) (change_none s ws M (omega (arith, o, m)))

pub changed_made : (p : code_proc.Process) (s k : ℕ) (f : code_frame.Frame) (ws : List Word) → IsAt s (view_frames p.made.items) k → f ≡ get_or p.made.items k f →
    with_frame_words (view_process p) s ws ≡ with_frames (view_process p) (view_frame p.frame) (reverse (view_frames p.below.items)) (slice_set (view_frames p.made.items) k (with_words (view_frame f) ws))
changed_made p s k f ws at is =
    let B = view_frames p.below.items in let M = view_frames p.made.items in
    let there = frame_seen s p.made.items k f at is in
    let serial = serial_seen s p.made.items k f at is in
    let o = once p s in let m = count_at s M k (view_frame f) there serial in let r = count_reverse s B in
    ap (λ f. with_frames (view_process p) f (map (change s ws) (reverse B)) (map (change s ws) M)) (change_elsewhere s ws (view_frame p.frame) (omega (arith, o, m)))
    ∙ ap (λ fs. with_frames (view_process p) (view_frame p.frame) fs (map (change s ws) M)) (change_none s ws (reverse B) (omega (arith, o, m, r)))
    ∙ ap (λ fs. with_frames (view_process p) (view_frame p.frame) (reverse B) fs) (change_at s ws M k (view_frame f) there serial (omega (arith, o)))

-- A frame with other words keeps its serial.
pub counts_kept : (n s : ℕ) (fs : List code_frame.Frame) (k : ℕ) (f g : code_frame.Frame) → IsAt s (view_frames fs) k → f ≡ get_or fs k f → g.serial ≡ f.serial → count n (view_frames (slice_set fs k g)) ≡ count n (view_frames fs)
counts_kept n s fs k f g at is e = ap (count n) (map-set view_frame fs k g) ∙ count_set n (view_frames fs) k (view_frame f) (view_frame g) (frame_seen s fs k f at is) e

-- What is so of what a call gives, more is so of.
pub on_ok : {T E : Type 0} {P Q : T → Type 0} (r : Result T E) → ((t : T) → P t → Q t) → IfOk r P → IfOk r Q
on_ok (Ok t) f h = f t h
on_ok (Err e) f h = tt
