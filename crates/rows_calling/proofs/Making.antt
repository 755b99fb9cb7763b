-- Two on their way where a frame is made for a function that is to be called.
use Rattle.std.proofs.Common.{◌≡◌, ℕ, Bool, true, false, ◌&&◌, zero, suc, pos, ◌+◌, ◌<◌, ◌≤◌, List, [], ◌∷◌, ◌++◌, length, map, Option, Some, None, inl, inr, refl, sym, ap, ◌∙◌, subst, arith}
use Rattle.std.proofs.Common.{if◌then◌else◌}
use Rattle.std.specs.Prelude.{slice_get, nat_eq, replicate}
use Rattle.std.proofs.lemmas.Bool.Decides.{eqb_tells}
use Rattle.process_model.specs.Process.{Went}
use Rattle.process_model.specs.Follows.{Only}
use Rattle.process_ways.specs.Ways.{Way}
use Rattle.process_ways.proofs.On.{silent}
use Rattle.heap_model.specs.Facts.{Is}
use Rattle.limbo_layout.specs.Adts.{Has}
use Rattle.limbo_typed.specs.Typed as typed
use Rattle.limbo_meaning.specs.Process.{Shared}
use Rattle.core_code.specs.Code.{Instr}
use Rattle.core_code.specs.Machine as code
use Rattle.core_typing.specs.Held as held
use Rattle.dis_meaning.specs.Words.{Word, Refer, Address, InFrame, Access, Found, word_at}
use Rattle.dis_meaning.specs.Process.{Frame, Process, with_words, with_frames}
use Rattle.dis_meaning.specs.Places.{words_in, all_frames, change, with_frame_words}
use Rattle.dis_meaning.specs.Step.{made_frame, without}
use Rattle.dis_memory.specs.Blocks.{World}
use Rattle.value_words.specs.Forms.{Instances}
use Rattle.value_words.specs.Facts.{Facts, Grows}
use Rattle.value_frames.specs.Frames.{made_place, spare_place, reference_place}
use Rattle.value_frames.specs.Standing.{WordsAre}
use Rattle.value_frames.proofs.Later.{frames_later}
use Rattle.value_roots.specs.Accounts as accounts
use Rattle.value_roots.specs.Accounts.{Accounted, to_nothing, all_words, frame_words, process_words}
use Rattle.value_roots.proofs.Later.{several}
use Rattle.value_roots.proofs.Words.{has_counts, has_first, has_second}
use Rattle.value_roots.proofs.Process.{process_counts}
use Rattle.value_code.specs.Objects.{of_function}
use Rattle.value_follows.specs.Stands.{types_of, Answer, Awaited, FrameIs, AllWait, none_waits, waits_below}
use Rattle.value_follows.specs.Sides.{sides, HoldTheSame}
use Rattle.value_follows.specs.Rooted.{BusyLead, PlaceAccounted, AreAccounted}
use Rattle.value_follows.specs.Rows.{place, rank, is_tidied, row_of, Base, AreThere}
use Rattle.value_follows.proofs.RootedSlots.{IsWhole}
use Rattle.value_follows.proofs.RootedFrames.{Live, frame_accounted}
use Rattle.value_follows.proofs.Several.{Next}
use Rattle.value_follows.proofs.Paces.{places_are}
use Rattle.rows_calling.proofs.OnTheWay.{On, stands, row_code, on_later, rank_here}

-- ---- a frame that is made

-- It stands for a frame of the function of this number, whose slots are empty, and has no block as its own.
pub record Called (m : typed.Module) (k : Facts) (x : World) (n : ℕ) (g : typed.Function) (h : code.Frame) (c : Frame) : Type 0 where
  pub there : slice_get m.functions n ≡ Some g
  pub code : h.code ≡ (of_function m g).code
  pub answer : h.answer ≡ g.of.answer
  pub many : length h.slots ≡ (of_function m g).slots
  pub instance : Is k h.instance c.instance
  pub formed : k.form c.instance ≡ Some Instances
  pub words : WordsAre m.adts k x.heap c.serial [] (types_of m g) (replicate (of_function m g).slots held.empty) h.variables h.slots c.words
  pub bare : (s : ℕ) → words.own s ≡ []
  pub fresh : c.serial < x.outside.frames
  pub spare : word_at c.words (pos (spare_place m.adts (types_of m g))) ≡ Found (Refer None)

pub none_there : (bs : List ℕ) (b : ℕ) → bs ≡ [] → Has bs b → ⊥
none_there bs b e h = subst (λ (cs : List ℕ). Has cs b) e h

module _ (m : typed.Module) (k : Facts) (i : ℕ) (x : World) (n : ℕ) (g : typed.Function) (h : code.Frame) (c : Frame) (called : Called m k x n g h c) where
  abbrev pub called_is : FrameIs m k i x [] h c
  called_is = record {
    number = n;
    function = g;
    there = called.there;
    code = called.code;
    answer = called.answer;
    many = called.many;
    instance = called.instance;
    formed = called.formed;
    known = replicate (of_function m g).slots held.empty;
    words = called.words;
    mine = λ s b o. absurd (none_there (called.words.own s) b (called.bare s) o);
    fresh = called.fresh;
  }

  pub called_later : (now : Facts) (y : World) → Grows k now → x.outside.frames ≤ y.outside.frames → Called m now y n g h c
  called_later now y grows frames =
      let after = (frames_later m.adts k x.heap c.serial [] (types_of m g) (replicate (of_function m g).slots held.empty) h.variables h.slots c.words
      called.words).later now y.heap grows (λ s b o. absurd (none_there (called.words.own s) b (called.bare s) o)) in
      let fresh = called.fresh in
      record {
        there = called.there;
        code = called.code;
        answer = called.answer;
        many = called.many;
        instance = grows.facts c.instance _ called.instance;
        formed = grows.forms c.instance _ called.formed;
        words = after.0;
        bare = λ s. ap (λ (o : ℕ → List ℕ). o s) after.1 ∙ called.bare s;
        fresh = omega (arith, fresh, frames);
        spare = called.spare;
      }

-- The machine's process has made it, later than its own frame, and has its address.
pub record Made (q : Process) (c : Frame) : Type 0 where
  pub made : q.made ≡ c ∷ []
  pub address : word_at q.frame.words (pos made_place) ≡ Found (Address (InFrame c.serial) (pos 0))
  pub newer : q.frame.serial < c.serial

-- ---- frames by their serials

alike : (a : ℕ) → nat_eq a a ≡ true
alike a = elim (eqb_tells a a) [ inl y ↦ y.0 | inr y ↦ absurd (y.1 refl) ]

unlike : (a b : ℕ) → a < b → nat_eq a b ≡ false
unlike a b l = elim (eqb_tells a b) [ inl y ↦ (let e = y.1 in absurd (omega (arith, e, l))) | inr y ↦ y.0 ]

module _ (m : typed.Module) (k : Facts) (i : ℕ) (x : World) (s : ℕ) where
  -- frames that wait are older than the one that they wait for
  older_words : (a : Answer) (t : _) (c : Frame) (gs : List code.Frame) (fs hs : List Frame) → c.serial ≤ s → AllWait m k i x a t c gs fs
      → words_in s (fs ++ hs) ≡ words_in s hs
  older_words _ _ _ _ _ hs l (none_waits a c) = refl
  older_words _ _ _ _ _ hs l (waits_below a t c g f gs fs w rest) =
      let less : f.serial < s = let o = w.older in omega (arith, l, o) in
      ap (λ (b : Bool). if b then Found f.words else words_in s (fs ++ hs)) (unlike f.serial s less)
      ∙ older_words Awaited g.answer f gs fs hs (omega (arith, less)) rest

  pub older_stay : (new : List Word) (a : Answer) (t : _) (c : Frame) (gs : List code.Frame) (fs : List Frame) → c.serial ≤ s
      → AllWait m k i x a t c gs fs → map (change s new) fs ≡ fs
  older_stay new _ _ _ _ _ l (none_waits a c) = refl
  older_stay new _ _ _ _ _ l (waits_below a t c g f gs fs w rest) =
      let less : f.serial < s = let o = w.older in omega (arith, l, o) in
      ap (λ (h : Frame). h ∷ map (change s new) fs) (ap (λ (b : Bool). if b then with_words f new else f) (unlike f.serial s less))
      ∙ ap (λ (hs : List Frame). f ∷ hs) (older_stay new Awaited g.answer f gs fs (omega (arith, less)) rest)

module _ (m : typed.Module) (k : Facts) (i : ℕ) (x : World) (busy : List ℕ) (n : ℕ) (f : typed.Function) (j : ℕ) (p : code.Process)
    (q : Process) (on : On m k i x busy n f j p q) (c : Frame) (has : Made q c) where
  last_words : words_in c.serial (c ∷ []) ≡ Found c.words
  last_words = ap (λ (b : Bool). if b then Found c.words else words_in c.serial []) (alike c.serial)

  -- the frame that is made is found,
  pub made_words : words_in c.serial (all_frames q) ≡ Found c.words
  made_words =
      let newer = has.newer in
      ap (λ (b : Bool). if b then Found q.frame.words else words_in c.serial (q.below ++ q.made)) (unlike q.frame.serial c.serial newer)
      ∙ (older_words m k i x c.serial Awaited p.frame.answer q.frame p.below q.below q.made (omega (arith, newer)) on.waits
      ∙ (ap (λ (fs : List Frame). words_in c.serial fs) has.made ∙ last_words))

  pub made_found : made_frame q.made c.serial ≡ Found c
  made_found =
      ap (λ (fs : List Frame). made_frame fs c.serial) has.made
      ∙ ap (λ (b : Bool). if b then Found c else made_frame [] c.serial) (alike c.serial)

  pub none_left : without c.serial q.made ≡ []
  none_left =
      ap (without c.serial) has.made ∙ ap (λ (b : Bool). if b then [] else c ∷ []) (alike c.serial)

  -- and words are stored in it
  pub made_stored : (new : List Word) → with_frame_words q c.serial new ≡ with_frames q q.frame q.below (with_words c new ∷ [])
  made_stored new =
      let newer = has.newer in
      let a : change c.serial new q.frame ≡ q.frame =
      ap (λ (b : Bool). if b then with_words q.frame new else q.frame) (unlike q.frame.serial c.serial newer) in
      let b : map (change c.serial new) q.below ≡ q.below =
      older_stay m k i x c.serial new Awaited p.frame.answer q.frame p.below q.below (omega (arith, newer)) on.waits in
      let d : map (change c.serial new) q.made ≡ with_words c new ∷ [] =
      ap (map (change c.serial new)) has.made ∙ ap (λ (b : Bool). (if b then with_words c new else c) ∷ []) (alike c.serial) in
      ap (λ (h : Frame). with_frames q h (map (change c.serial new) q.below) (map (change c.serial new) q.made)) a
      ∙ (ap (λ (hs : List Frame). with_frames q q.frame hs (map (change c.serial new) q.made)) b
      ∙ ap (λ (hs : List Frame). with_frames q q.frame q.below hs) d)

-- ---- what they hold, and how they go on

module _ (m : typed.Module) (b : Base m) (i : ℕ) (p : code.Process) (n : ℕ) (f : typed.Function) (ng : ℕ) (g : typed.Function) (h : code.Frame)
    (named : (o : ℕ) → 0 < code.frame_names h o → 0 < code.process_names p o) where
  made_accounted : (k : Facts) (w : Shared) (x : World) (q : Process) (c : Frame) → Called m k x ng g h c → q.made ≡ c ∷ []
      → (sides m).worlds k w x → AreThere m x q → AreAccounted m k i x (code.process_names p) (all_words q.made)
  made_accounted k w x q c called made worlds live =
      subst (λ (fs : List Frame). AreAccounted m k i x (code.process_names p) (all_words fs)) (sym made)
      (several k i x.heap (code.process_names p) (frame_words c) []
      (frame_accounted m k i x whole [] h c (called_is m k i x ng g h c called) (code.process_names p) named frame_live
      (λ r e. subst (λ (o : Option ℕ). Accounted k i x.heap (code.process_names p) (Refer o)) (same_refer r (sym called.spare ∙ e)) to_nothing)
      (λ s e. absurd e))
      accounts.none)
    where
      same_refer : (r : Option ℕ) → ◌≡◌ {A = Access Word} (Found (Refer None)) (Found (Refer r)) → None ≡ r
      same_refer r e = cc

      whole : IsWhole k x.heap
      whole = record {
        carriers = λ n d b fact e. (worlds.0.carriers n d b fact e).0;
        closed = λ c b live u. worlds.0.closed.closed c b live u;
      }

      words_live : Live m k i x whole (process_words q)
      words_live b h = live b (subst (λ n. 0 < n) (process_counts q b) (has_counts (process_words q) b h))

      made_live : Live m k i x whole (all_words q.made)
      made_live b h =
          words_live b (has_second (frame_words q.frame) (all_words q.below ++ all_words q.made) (Refer (Some b))
          (has_second (all_words q.below) (all_words q.made) (Refer (Some b)) h))

      frame_live : Live m k i x whole c.words
      frame_live b h =
          made_live b (subst (λ (fs : List Frame). Has (all_words fs) (Refer (Some b))) (sym made)
          (has_first (frame_words c) [] (Refer (Some b)) (inr h)))

  pub making_holds : (k : Facts) (w : Shared) (x : World) (busy : List ℕ) (j : ℕ) (q : Process) (c : Frame) → (on : On m k i x busy n f j p q)
      → Called m k x ng g h c → Made q c → (sides m).worlds k w x → AreThere m x q
      → ((s : ℕ) → Has busy s → PlaceAccounted m k i x (code.process_names p) q.frame (reference_place m.adts (types_of m f) s))
      → BusyLead m k i x busy p q → HoldTheSame m k i x p q
  making_holds k w x busy j q c on called has worlds live accounted lead =
      b.holds_on_way k i w x busy Awaited p q (stands m k i x busy n f j p q on) worlds live
      (record {
        slots = accounted;
        spare = λ r e. subst (λ (o : Option ℕ). Accounted k i x.heap (code.process_names p) (Refer o)) (same_refer r (sym on.spare ∙ e)) to_nothing;
        made = made_accounted k w x q c called has.made worlds live;
        answer = tt;
      })
      lead
    where
      same_refer : (r : Option ℕ) → ◌≡◌ {A = Access Word} (Found (Refer None)) (Found (Refer r)) → None ≡ r
      same_refer r e = cc

  -- They are on their way where the next instruction leads on whatever others did.
  pub making_way : (l : ℕ) (k : Facts) (x : World) (busy : List ℕ) (j : ℕ) (q : Process) (c : Frame) → On m k i x busy n f j p q
      → Called m k x ng g h c → HoldTheSame m k i x p q
      → ((now : Facts) (w : Shared) (y : World) → Grows k now → On m now i y busy n f j p q → Called m now y ng g h c → HoldTheSame m now i y p q
      → (sides m).worlds now w y → Next m b i p l now w y q)
      → Way (sides m) (place m) (suc l) k i x p q
  making_way l k x busy j q c on called hold does = (
    hold,
    λ now y w left h' worlds.
        does now w y left.0.grows (on_later m i p q b k now x y left h' busy n f j on)
        (called_later m k i x ng g h c called now y left.0.grows left.1) h' worlds,
  )

  rank_plain : (instr : Instr) (j : ℕ) → is_tidied instr ≡ false → rank (row_of m f p.frame.pc instr) j ≡ 2 + j
  rank_plain instr zero e = refl
  rank_plain instr (suc j) e =
      ap (λ (c : Bool). if c && nat_eq (suc (suc j)) (row_of m f p.frame.pc instr).size then 1 else 2 + suc j) e

  -- The other stands still while an instruction goes on to the next one of the row, with the frame that is made then.
  pub making_by : (k now : Facts) (w : Shared) (x y : World) (busy later : List ℕ) (j : ℕ) (q r : Process) (c : Frame)
      → (on : On m k i x busy n f j p q) → HoldTheSame m k i x p q → (sides m).worlds k w x → (instr : Instr)
      → slice_get p.frame.code p.frame.pc ≡ Some instr → is_tidied instr ≡ false → suc j < (row_of m f p.frame.pc instr).size
      → (sides m).code.step x q ≡ Went y r → (sides m).changes (Only i) k now x y → (sides m).worlds now w y
      → (after : On m now i y later n f (suc j) p r) → Called m now y ng g h c → Made r c
      → ((s : ℕ) → Has later s → PlaceAccounted m now i y (code.process_names p) r.frame (reference_place m.adts (types_of m f) s))
      → BusyLead m now i y later p r → (l : ℕ)
      → (HoldTheSame m now i y p r → Way (sides m) (place m) l now i y p r)
      → Next m b i p l k w x q
  making_by k now w x y busy later j q r c on hold worlds instr here plain more step changes worlds_then after called has accounted lead l way =
      let live = b.there_again x y q r step worlds.0.closed (λ n h. hold.same.live n (hold.same.roots n h)) in
      let held = making_holds now w y later (suc j) r c after called has worlds_then live accounted lead in
      let before = rank_here m b i p q busy n f j k w x on hold worlds instr here (omega (arith, more)) ∙ rank_plain instr j plain in
      let behind = (places_are m).ranked n f p.frame.pc instr (suc j) r after.there (row_code m now i y later n f (suc j) p r after instr here) more after.pc
      ∙ rank_plain instr (suc j) plain in
      silent (sides m) (place m) (λ l' z r t. Way (sides m) (place m) l l' i z r t) k now i w x y p q r step changes worlds_then
      (omega (arith, before, behind)) (way held)
