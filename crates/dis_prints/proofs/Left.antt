-- A print's answer is stored in a process without the frame of its call.
use Rattle.std.proofs.Common.{◌≡◌, ℕ, ℤ, ◌<◌, length, get_or, Bool, true, false, List, [], ◌∷◌, ◌++◌, map, Option, Some, None, ◌⊎◌, inl, inr, refl, sym, ap, ◌∙◌, arith, if◌then◌else◌}
use Rattle.std.specs.Prelude.{slice_get, reverse, nat_eq}
use Rattle.std.specs.Option.{option_map}
use Rattle.std.proofs.lemmas.Bool.{eqb-true}
use Rattle.std.proofs.lemmas.Option.{slice_get-map}
use Rattle.process_model.specs.Process.{Went}
use Rattle.system_model.specs.Prints as prints
use Rattle.dis_meaning.specs.Words.{Place, InBlock, InFrame, Word, Access, Found, Wrong, Raises, ◌>>=◌, dead_address, stored}
use Rattle.dis_meaning.specs.Process.{Frame, Process, with_words, with_frames}
use Rattle.dis_meaning.specs.Places.{Spot, Far, words_in, all_frames, change, with_frame_words, place_in}
use Rattle.dis_meaning.specs.Step.{without, place_of}
use Rattle.dis_memory.specs.Blocks.{World}
use Rattle.dis_memory.specs.Control as control
use Rattle.dis_memory.specs.Places as places
use Rattle.dis_memory.specs.Process.{Does, next}
use Rattle.dis_places.specs.declared.fault.Halt.{Halt}
use Rattle.dis_places.specs.declared.fault.Halt.TheVariants as halt
use Rattle.dis_places.specs.declared.frame.Frame as code_frame
use Rattle.dis_places.specs.declared.process.Process as code_process
use Rattle.dis_places.specs.declared.spots.Region.TheVariants as region
use Rattle.dis_places.specs.Frames.{view_frame, view_frames, one, count}
use Rattle.dis_places.specs.Regions.{words_here, words_in as region_words}
use Rattle.ref_heap.specs.Store.{Store}
use Rattle.dis_places.specs.View.{view_process}
use Rattle.dis_places.specs.Words.{Halts}
use Rattle.dis_places.proofs.Serials.{which, count_reverse, count_at, words_past, no_words}
use Rattle.dis_stores.specs.Storing.{rested, settled}
use Rattle.dis_stores.proofs.Written.{once, seen}
use Rattle.dis_results.specs.Going.{moved_on}
use Rattle.dis_prints.specs.Discarded.{discarded, is_frame}
use Rattle.dis_prints.specs.Plans.{answer_target, planned, carried_out}

-- ---- frames without those of a serial

pub none_left : (s : ℕ) (fs : List Frame) → count s (without s fs) ≡ 0
none_left s [] = refl
none_left s (f ∷ fs) = go (which (nat_eq f.serial s)) (none_left s fs)
  where
    go : (nat_eq f.serial s ≡ true) ⊎ (nat_eq f.serial s ≡ false) → count s (without s fs) ≡ 0 → count s (without s (f ∷ fs)) ≡ 0
    go (inl e) r = ap (λ b. count s (if b then without s fs else f ∷ without s fs)) e ∙ r
    go (inr e) r =
        let o : one s f ≡ 0 = ap {B = ℕ} (λ b. if b then 1 else 0) e in
        let k = ap (λ b. count s (if b then without s fs else f ∷ without s fs)) e in
        omega (arith, o, k, r)

pub words_left : (s t : ℕ) → nat_eq t s ≡ false → (fs : List Frame) → words_in t (without s fs) ≡ words_in t fs
words_left s t ne [] = refl
words_left s t ne (f ∷ fs) = go (which (nat_eq f.serial s)) (which (nat_eq f.serial t)) (words_left s t ne fs)
  where
    go : (nat_eq f.serial s ≡ true) ⊎ (nat_eq f.serial s ≡ false) → (nat_eq f.serial t ≡ true) ⊎ (nat_eq f.serial t ≡ false) →
        words_in t (without s fs) ≡ words_in t fs → words_in t (without s (f ∷ fs)) ≡ words_in t (f ∷ fs)
    go (inl e) (inl e') r =
        let a = eqb-true f.serial s e in let b = eqb-true f.serial t e' in
        let same : nat_eq t s ≡ true = ap (λ n. nat_eq n s) (sym b) ∙ e in
        let absurdly : true ≡ false = sym same ∙ ne in absurd cc
    go (inl e) (inr e') r = ap (λ b. words_in t (if b then without s fs else f ∷ without s fs)) e ∙ r ∙ sym (ap (λ b. if b then Found f.words else words_in t fs) e')
    go (inr e) k r = ap (λ b. words_in t (if b then without s fs else f ∷ without s fs)) e ∙ ap (λ a. if nat_eq f.serial t then Found f.words else a) r

words_behind : (t : ℕ) (xs ys zs : List Frame) → words_in t ys ≡ words_in t zs → words_in t (xs ++ ys) ≡ words_in t (xs ++ zs)
words_behind t [] ys zs h = h
words_behind t (f ∷ xs) ys zs h = ap (λ a. if nat_eq f.serial t then Found f.words else a) (words_behind t xs ys zs h)

serial_kept : (t : ℕ) (ws : List Word) (f : Frame) → (change t ws f).serial ≡ f.serial
serial_kept t ws f = go (nat_eq f.serial t)
  where
    go : (b : Bool) → (if b then with_words f ws else f).serial ≡ f.serial
    go true = refl
    go false = refl

change_left : (s t : ℕ) (ws : List Word) (fs : List Frame) → map (change t ws) (without s fs) ≡ without s (map (change t ws) fs)
change_left s t ws [] = refl
change_left s t ws (f ∷ fs) = go (which (nat_eq f.serial s)) (change_left s t ws fs)
  where
    go : (nat_eq f.serial s ≡ true) ⊎ (nat_eq f.serial s ≡ false) → map (change t ws) (without s fs) ≡ without s (map (change t ws) fs) →
        map (change t ws) (without s (f ∷ fs)) ≡ without s (map (change t ws) (f ∷ fs))
    go (inl e) r =
        ap (λ b. map (change t ws) (if b then without s fs else f ∷ without s fs)) e ∙ r
        ∙ sym (ap (λ b. if b then without s (map (change t ws) fs) else change t ws f ∷ without s (map (change t ws) fs)) (ap (λ n. nat_eq n s) (serial_kept t ws f) ∙ e))
    go (inr e) r =
        ap (λ b. map (change t ws) (if b then without s fs else f ∷ without s fs)) e ∙ ap (λ gs. change t ws f ∷ gs) r
        ∙ sym (ap (λ b. if b then without s (map (change t ws) fs) else change t ws f ∷ without s (map (change t ws) fs)) (ap (λ n. nat_eq n s) (serial_kept t ws f) ∙ e))

-- ---- a store in the process without the frame

-- The next instruction follows, without the frame of this serial.
abbrev pub goes_without : (serial : ℕ) → places.Memory → Does
goes_without s m = next (places.memory m.world (discarded m.process s))

pub store_left : (x : World) (p : Process) (s : ℕ) (place : Place) (at : ℤ) (w : Word) → is_frame place s ≡ false →
    (places.store x (discarded p s) (Far place at) w >>= λ m. Found (next m)) ≡ (places.store x p (Far place at) w >>= λ m. Found (goes_without s m))
store_left x p s (InBlock n) at w ne = go (places.data_at x n)
  where
    last : (a : Access World) → (a >>= (λ y. Found (places.memory y (discarded p s))) >>= λ m. Found (next m)) ≡ (a >>= (λ y. Found (places.memory y p)) >>= λ m. Found (goes_without s m))
    last (Found y) = refl
    last (Wrong k) = refl
    last (Raises text) = refl

    put : (a : Access (List Word)) → (a >>= (λ ws. places.with_data x n ws >>= λ y. Found (places.memory y (discarded p s))) >>= λ m. Found (next m)) ≡
        (a >>= (λ ws. places.with_data x n ws >>= λ y. Found (places.memory y p)) >>= λ m. Found (goes_without s m))
    put (Found ws) = last (places.with_data x n ws)
    put (Wrong k) = refl
    put (Raises text) = refl

    go : (a : Access (List Word)) → (a >>= (λ words. stored words at w >>= λ ws. places.with_data x n ws >>= λ y. Found (places.memory y (discarded p s))) >>= λ m. Found (next m)) ≡
        (a >>= (λ words. stored words at w >>= λ ws. places.with_data x n ws >>= λ y. Found (places.memory y p)) >>= λ m. Found (goes_without s m))
    go (Found words) = put (stored words at w)
    go (Wrong k) = refl
    go (Raises text) = refl
store_left x p s (InFrame t) at w ne =
    ap (λ a. a >>= (λ words. stored words at w >>= λ ws. Found (changed p' ws)) >>= λ m. Found (next m)) (words_behind t (p.frame ∷ p.below) (without s p.made) p.made (words_left s t ne p.made))
    ∙ go (words_in t (all_frames p))
  where
    p' : Process
    p' = discarded p s

    changed : Process → List Word → places.Memory
    changed p ws = places.memory x (with_frames p (change t ws p.frame) (map (change t ws) p.below) (map (change t ws) p.made))

    put : (a : Access (List Word)) → (a >>= (λ ws. Found (changed p' ws)) >>= λ m. Found (next m)) ≡ (a >>= (λ ws. Found (changed p ws)) >>= λ m. Found (goes_without s m))
    put (Found ws) = ap (λ made. Found (next (places.memory x (with_frames p (change t ws p.frame) (map (change t ws) p.below) made)))) (change_left s t ws p.made)
    put (Wrong k) = refl
    put (Raises text) = refl

    go : (a : Access (List Word)) → (a >>= (λ words. stored words at w >>= λ ws. Found (changed p' ws)) >>= λ m. Found (next m)) ≡ (a >>= (λ words. stored words at w >>= λ ws. Found (changed p ws)) >>= λ m. Found (goes_without s m))
    go (Found words) = put (stored words at w)
    go (Wrong k) = refl
    go (Raises text) = refl

-- ---- a store in the frame that is gone

pub store_gone : (x : World) (p : code_process.Process) (s : ℕ) (place : Place) (at : ℤ) (w : Word) → count s (view_frames p.made.items) ≡ 1 → is_frame place s ≡ true →
    (places.store x (discarded (view_process p) s) (Far place at) w >>= λ m. Found (next m)) ≡ Wrong dead_address
store_gone x p s (InBlock n) at w made e = absurd cc
store_gone x p s (InFrame t) at w made e =
    let B = view_frames p.below.items in
    let M = without s (view_frames p.made.items) in
    let same = eqb-true t s e in
    let o = once p s in let r = count_reverse s B in let l = none_left s (view_frames p.made.items) in
    let gone : words_in s (view_frame p.frame ∷ (reverse B ++ M)) ≡ Wrong dead_address =
    words_past s (view_frame p.frame ∷ []) (reverse B ++ M) (omega (arith, o, made))
    ∙ words_past s (reverse B) M (omega (arith, o, made, r))
    ∙ no_words s M l in
    ap (λ t. places.store x (discarded (view_process p) s) (Far (InFrame t) at) w >>= λ m. Found (next m)) same
    ∙ ap (λ a. a >>= (λ words. stored words at w >>= λ ws. Found (places.memory x (with_frame_words (discarded (view_process p) s) s ws))) >>= λ m. Found (next m)) gone

-- The frame goes behind the store.
pub goes_without_it : (s : ℕ) (a : Access places.Memory) (y : World) (q : Process) → rested a ≡ Found (places.memory y (settled q)) →
    (a >>= λ m. Found (goes_without s m)) ≡ Found (Went y (moved_on (discarded q s)))
goes_without_it s (Found m) y q e =
    let same : places.memory m.world (settled m.process) ≡ places.memory y (settled q) = cc in
    ap (λ (n : places.Memory). Found (goes_without s n)) same
goes_without_it s (Wrong n) y q e = absurd cc
goes_without_it s (Raises text) y q e = absurd cc

pub halts_behind : {T : Type 0} (h : Halt) (a : Access places.Memory) (f : places.Memory → Access T) → Halts h (rested a) → Halts h (a >>= f)
halts_behind halt.NoMemory a f e = tt
halts_behind (halt.Fault n) (Found m) f e = absurd cc
halts_behind (halt.Fault n) (Wrong k) f e = cc
halts_behind (halt.Fault n) (Raises text) f e = absurd cc
halts_behind (halt.Raises r) (Found m) f e = absurd cc
halts_behind (halt.Raises r) (Wrong k) f e = absurd cc
halts_behind (halt.Raises r) (Raises text) f e = cc

-- ---- plans

pub planned_first : (x : World) (p : Process) (f : Frame) → control.print_call x p f ≡ (planned x f.words >>= carried_out x (discarded p f.serial))
planned_first x p f = go (control.printed x f.words)
  where
    at_place : (text : List ℕ) (s : Spot) (a : Access Place) →
        (a >>= λ place. control.prints x (discarded p f.serial) place (place_in s) (prints.print (control.outside_of x) text)) ≡
        (a >>= (λ place. Found (record { place = place; at = place_in s })) >>=
        (λ t. Found (record { target = t; printing = prints.print (control.outside_of x) text })) >>= carried_out x (discarded p f.serial))
    at_place text s (Found place) = refl
    at_place text s (Wrong n) = refl
    at_place text s (Raises raised) = refl

    to : (text : List ℕ) (a : Access Spot) →
        (a >>= λ s. place_of s >>= λ place. control.prints x (discarded p f.serial) place (place_in s) (prints.print (control.outside_of x) text)) ≡
        (a >>= (λ s. place_of s >>= λ place. Found (record { place = place; at = place_in s })) >>=
        (λ t. Found (record { target = t; printing = prints.print (control.outside_of x) text })) >>= carried_out x (discarded p f.serial))
    to text (Found s) = at_place text s (place_of s)
    to text (Wrong n) = refl
    to text (Raises raised) = refl

    go : (a : Access (List ℕ)) →
        (a >>= λ text. control.answer_spot f.words >>= λ s. place_of s >>= λ place.
        control.prints x (discarded p f.serial) place (place_in s) (prints.print (control.outside_of x) text)) ≡
        (a >>= (λ text. answer_target f.words >>= λ t. Found (record { target = t; printing = prints.print (control.outside_of x) text })) >>=
        carried_out x (discarded p f.serial))
    go (Found text) = to text (control.answer_spot f.words)
    go (Wrong n) = refl
    go (Raises text) = refl

-- ---- a call of print

pub alone : (p : code_process.Process) (k : ℕ) (g : code_frame.Frame) → k < length p.made.items → g ≡ get_or p.made.items k g →
    count g.serial (view_frames p.made.items) ≡ 1
alone p k g lt is =
    let o = once p g.serial in let a = count_at g.serial (view_frames p.made.items) k (view_frame g) (seen view_frame p.made.items k g lt is) refl in omega (arith, o, a)

-- The call as a plan that is carried out.
pub as_plan : (p : code_process.Process) (x : World) (h : Store) (k : ℕ) (f : Frame) (g : code_frame.Frame) → k < length p.made.items → g ≡ get_or p.made.items k g →
    slice_get (view_frames p.made.items) k ≡ Some f →
    control.print_call x (view_process p) f ≡ (planned x (words_here h p (region.Made k)) >>= carried_out x (discarded (view_process p) g.serial))
as_plan p x h k f g lt is there =
    let found : Some f ≡ Some (view_frame g) = sym there ∙ seen view_frame p.made.items k g lt is in
    let same : f ≡ view_frame g = cc in
    planned_first x (view_process p) f
    ∙ ap (λ ws. planned x ws >>= carried_out x (discarded (view_process p) f.serial)) (words_of (slice_get p.made.items k) (sym (slice_get-map view_frame p.made.items k) ∙ there))
    ∙ ap (λ (f : Frame). planned x (words_here h p (region.Made k)) >>= carried_out x (discarded (view_process p) f.serial)) same
  where
    words_of : (o : Option code_frame.Frame) → option_map view_frame o ≡ Some f → f.words ≡ region_words o
    words_of None e = absurd cc
    words_of (Some g) e = let same : view_frame g ≡ f = cc in ap (λ (f : Frame). f.words) (sym same)
