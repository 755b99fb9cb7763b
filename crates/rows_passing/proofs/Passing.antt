-- Two on their way while operands come to a frame that is made: it has so many bytes of them, and they stand in their slot as they stood.
use Rattle.std.proofs.Common.{◌≡◌, ℕ, zero, suc, pos, ◌+◌, ◌*◌, ◌<◌, ◌/◌, List, [], ◌∷◌, length, Option, Some, None, inl, inr, refl, sym, ap, ◌∙◌, subst, arith}
use Rattle.std.specs.Prelude.{slice_get}
use Rattle.process_model.specs.Process.{Went}
use Rattle.process_ways.specs.Ways.{Way}
use Rattle.process_ways.proofs.On.{silent}
use Rattle.heap_model.specs.Heap.{at}
use Rattle.heap_model.specs.Facts.{Free, itself, refers}
use Rattle.limbo_types.specs.Types as ty
use Rattle.limbo_types.specs.Types.{Ty}
use Rattle.limbo_types.specs.View.{tys_of}
use Rattle.limbo_layout.specs.Adts.{Has}
use Rattle.limbo_typed.specs.Typed as typed
use Rattle.limbo_meaning.specs.Process.{Shared}
use Rattle.limbo_meaning.specs.Trees as tree
use Rattle.limbo_meaning.specs.Values.{Value, among, references, references_in}
use Rattle.limbo_kept.specs.Trees.{WorkIs}
use Rattle.core_code.specs.Code.{Instr, Call}
use Rattle.core_code.specs.Machine as code
use Rattle.core_code.specs.Slots as core
use Rattle.core_code.specs.Slots.{Forms}
use Rattle.core_code.specs.Terms.{numbers_from}
use Rattle.core_typing.specs.Held as held
use Rattle.core_typing.specs.Held.{Held, Forming}
use Rattle.core_typing.specs.Needs.{AllStandAs, AreArguments}
use Rattle.dis_meaning.specs.Words.{Word, Refer, Access, Found, word_at}
use Rattle.dis_meaning.specs.Process.{Frame, Process, with_words}
use Rattle.dis_memory.specs.Blocks.{Record, World}
use Rattle.dis_memory.specs.Naming as machine
use Rattle.value_words.specs.Facts.{Facts}
use Rattle.value_words.proofs.Bytes.{word_there}
use Rattle.value_words.proofs.Covered.{covered}
use Rattle.value_frames.specs.Forming.{begun, formed}
use Rattle.value_frames.specs.Frames.{linkage_bytes, number_place, reference_place, box_bytes, room_for}
use Rattle.value_frames.specs.Standing.{SlotStands, IsOwn, IsForming}
use Rattle.value_frames.proofs.Rest.{slots_rest}
use Rattle.value_moves.specs.Writing.{Writes}
use Rattle.value_roots.specs.Accounts as accounts
use Rattle.value_roots.specs.Accounts.{Accounted, to_nothing, to_value, more, all_words, frame_words}
use Rattle.value_roots.proofs.Later.{several}
use Rattle.value_roots.proofs.Words.{has_counts}
use Rattle.value_follows.specs.Stands.{types_of, scope, Awaited, ReferNowhere}
use Rattle.value_follows.specs.Sides.{sides, HoldTheSame}
use Rattle.value_follows.specs.Rooted.{AreAccounted}
use Rattle.value_follows.specs.Rows.{place, rank, row_of, Base, AreThere}
use Rattle.value_follows.proofs.Paces.{places_are}
use Rattle.value_follows.proofs.RootedValues.{has_at, word_has, each_accounted, one_names, covers_those, stands_laid}
use Rattle.value_follows.proofs.Several.{Next}
use Rattle.value_follows.proofs.Single.{nothing_changes}
use Rattle.value_follows.proofs.Slots.{slot_is, uses}
use Rattle.value_follows.proofs.Standing.{finds}
use Rattle.rows_calling.proofs.OnTheWay.{On, frame_is, stands, row_code, on_later, rank_here}
use Rattle.rows_calling.proofs.Making.{Called, called_later, Made}
use Rattle.rows_calling.proofs.Framing.{zero_frame}
use Rattle.rows_forming.proofs.Putting.{written_from, slot_among}

-- What was put together in a slot for a call, by what is known of it.
pub record IsTogether (m : typed.Module) (k : Facts) (i : ℕ) (x : World) (busy : List ℕ) (n : ℕ) (f : typed.Function) (j : ℕ) (p : code.Process)
    (q : Process) (on : On m k i x busy n f j p q) (t : Ty) (fn a : ℕ) : Type 0 where
  pub us : List Ty
  pub work : WorkIs (scope m f) t (tree.Call fn) us t
  pub ws : List Ty
  pub so : AllStandAs ws us
  pub live : List ℕ
  pub known_so : held.slot on.known a ≡ Forming (ty.Tuple (tys_of us)) None (numbers_from m.adts 0 (length us)) ws live
  pub values : List Value
  pub holds : core.slot p.frame.slots a ≡ Forms values
  pub box : ℕ
  pub inner : List Word
  pub own_is : on.words.own a ≡ box ∷ []
  pub own : IsOwn m.adts k x.heap q.frame.serial q.frame.words (reference_place m.adts (types_of m f) a) (box_bytes m.adts (ty.Tuple (tys_of us)))
      (room_for m.adts (ty.Tuple (tys_of us))).references box inner
  pub forming : IsForming m.adts k (ty.Tuple (tys_of us)) None (numbers_from m.adts 0 (length us)) ws live values inner

-- A word of the running frame refers to a record with these words, which the process made and which stands for nothing yet.
pub record HasBox (m : typed.Module) (k : Facts) (i : ℕ) (x : World) (place : ℕ) (q : Process) (box : ℕ) (inner : List Word) : Type 0 where
  pub word : word_at q.frame.words (pos place) ≡ Found (Refer (Some box))
  pub there : at x.heap box ≡ Some (Record inner)
  pub free : Free k box
  pub made : k.maker box ≡ Some i

module _ (m : typed.Module) (i : ℕ) (p : code.Process) (n : ℕ) (f : typed.Function) (t : Ty) (fn into a : ℕ)
    (here : slice_get p.frame.code p.frame.pc ≡ Some (Call t fn into (Some a))) where
  abbrev pub instr : Instr
  instr = Call t fn into (Some a)

  abbrev pub r_at : ℕ
  r_at = reference_place m.adts (types_of m f) a

  module _ (k : Facts) (x : World) (busy : List ℕ) (j : ℕ) (q : Process) (on : On m k i x busy n f j p q) where
    pub few : a < length p.frame.slots
    few = (uses m k i x busy p.frame q.frame (frame_is m k i x busy n f j p q on) p.frame.pc instr (row_code m k i x busy n f j p q on instr here)).1

    pub into_few : into < length p.frame.slots
    into_few = (uses m k i x busy p.frame q.frame (frame_is m k i x busy n f j p q on) p.frame.pc instr (row_code m k i x busy n f j p q on instr here)).0

    pub together : (Has busy a → ⊥) → IsTogether m k i x busy n f j p q on t fn a
    together idle =
        let found = finds m f p.frame.pc on.known instr on.goes (row_code m k i x busy n f j p q on instr here) in
        go found.0 found.1 found.2
      where
        go : (us : List Ty) → WorkIs (scope m f) t (tree.Call fn) us t → AreArguments m.adts (held.slot on.known a) [] us
            → IsTogether m k i x busy n f j p q on t fn a
        go us work h =
            let n_at = number_place m.adts (types_of m f) a in
            let ks = numbers_from m.adts 0 (length us) in
            let known_so : held.slot on.known a ≡ Forming (ty.Tuple (tys_of us)) None (numbers_from m.adts 0 (length us)) h.0 h.2.0 = h.2.1 in
            let stands = subst (λ (y : Held). SlotStands m.adts k x.heap q.frame.serial q.frame.words (number_place m.adts (types_of m f) a) r_at y
            (core.slot p.frame.slots a) (on.words.own a)) known_so
            (slot_is m k i x busy p.frame q.frame (frame_is m k i x busy n f j p q on) a few idle) in
            let s = slots_rest.is_forming m.adts k x.heap q.frame.serial q.frame.words (number_place m.adts (types_of m f) a) r_at
            (ty.Tuple (tys_of us)) None (numbers_from m.adts 0 (length us)) h.0 h.2.0 (core.slot p.frame.slots a) (on.words.own a) stands in
            record {
              us = us;
              work = work;
              ws = h.0;
              so = h.1;
              live = h.2.0;
              known_so = known_so;
              values = s.0;
              holds = s.1;
              box = s.2;
              inner = s.3;
              own_is = s.4;
              own = s.5;
              forming = s.6;
            }

    module _ (s : IsTogether m k i x busy n f j p q on t fn a) where
      abbrev pub whole : Value
      whole = formed (begun m.adts (ty.Tuple (tys_of s.us)) None) (numbers_from m.adts 0 (length s.us)) s.values

      pub box_of : HasBox m k i x r_at q s.box s.inner
      box_of = record {
        word = s.own.word;
        there = s.own.there;
        free = s.own.free;
        made = on.mine a s.box (subst (λ (bs : List ℕ). Has bs s.box) (sym s.own_is) (inl refl));
      }

      -- it is the same as before
      same_inner : (b : ℕ) (inner : List Word) → HasBox m k i x r_at q b inner → (s.box ≡ b) × (s.inner ≡ inner)
      same_inner b inner h =
          let found : Found (Refer (Some s.box)) ≡ Found (Refer (Some b)) = sym s.own.word ∙ h.word in
          let is : s.box ≡ b = cc in
          let block : Some (Record s.inner) ≡ Some (Record inner) = sym s.own.there ∙ (ap (at x.heap) is ∙ h.there) in
          (is, cc)

      pub same_box : (b : ℕ) (inner : List Word) → HasBox m k i x r_at q b inner → s.inner ≡ inner
      same_box b inner h = (same_inner b inner h).1

      -- What its words refer to is accounted for.
      has_where : (ws : List Word) (v : Word) → Has ws v → (w : ℕ) × (slice_get ws w ≡ Some v)
      has_where [] v h = absurd h
      has_where (u ∷ ws) v (inl e) = (0, ap (λ (a : Word). Some a) e)
      has_where (u ∷ ws) v (inr h) = let w = has_where ws v h in (suc w.0, w.1)

      pub named : (o : ℕ) → 0 < among o (references_in s.values) → 0 < code.process_names p o
      named o l =
          let z = slot_among p.frame.slots a o (subst (λ (y : core.Slot). 0 < core.slot_names y o) (sym s.holds) l) in
          omega (arith, z)

      pub inner_accounted : (c : ℕ) → Has s.inner (Refer (Some c)) → Accounted k i x.heap (code.process_names p) (Refer (Some c))
      inner_accounted c h =
          let j = has_where s.inner (Refer (Some c)) h in
          let e : (0 + 4 * j.0) / 4 ≡ j.0 = omega arith in
          to_value c (covers_those m.adts k (code.process_names p) (references whole) c (λ o l. named o (s.forming.names o l))
          (covered m.adts k s.inner 0 (ty.Tuple (tys_of s.us)) (room_for m.adts (ty.Tuple (tys_of s.us))) whole (4 * j.0) c
          (stands_laid m.adts k s.inner 0 (ty.Tuple (tys_of s.us)) whole s.forming.stands) s.forming.stands (s.own.kind.only j.0 (Some c) j.1)
          (word_there s.inner (0 + 4 * j.0) (Refer (Some c)) (omega arith) (ap (slice_get s.inner) e ∙ j.1))))

  -- ---- while they move

  module _ (b : Base m) (g : typed.Function) where
    abbrev pub zero_one : code.Frame
    zero_one = zero_frame m i p fn g t

    -- So many bytes of the operands' record are in the frame that is made; they go on to be in their slot.
    pub record Passing (k : Facts) (x : World) (j : ℕ) (q : Process) (done : ℕ) : Type 0 where
      pub on : On m k i x [] n f j p q
      pub frame : Frame
      pub called : Called m k x fn g zero_one frame
      pub bare : ReferNowhere frame.words
      pub others : List Word
      pub has : Made q (with_words frame others)
      pub box : ℕ
      pub inner : List Word
      pub box_is : HasBox m k i x r_at q box inner
      pub written : Writes frame.words others linkage_bytes inner 0 done

    pub passing_later : (k now : Facts) (x y : World) (j : ℕ) (q : Process) (done : ℕ) → Passing k x j q done → (sides m).leaves i k now x y
        → HoldTheSame m now i y p q → Passing now y j q done
    passing_later k now x y j q done s left holds =
        let named : 0 < machine.names q s.box =
        let h = has_counts q.frame.words s.box (word_has q.frame.words r_at (Refer (Some s.box)) s.box_is.word) in omega (arith, h) in
        let kept = b.mine_later k now i x y p q left holds s.box named s.box_is.free s.box_is.made in
        record {
          on = on_later m i p q b k now x y left holds [] n f j s.on;
          frame = s.frame;
          called = called_later m k i x fn g zero_one s.frame s.called now y left.0.grows left.1;
          bare = s.bare;
          others = s.others;
          has = s.has;
          box = s.box;
          inner = s.inner;
          box_is = record {
            word = s.box_is.word;
            there = kept.1 ∙ s.box_is.there;
            free = kept.0;
            made = left.0.grows.makers s.box i s.box_is.made;
          };
          written = s.written;
        }

    -- they hold the same
    pub passing_holds : (k : Facts) (w : Shared) (x : World) (j : ℕ) (q : Process) (done : ℕ) → Passing k x j q done → (sides m).worlds k w x
        → AreThere m x q → HoldTheSame m k i x p q
    passing_holds k w x j q done s worlds live =
        b.holds_on_way k i w x [] Awaited p q (stands m k i x [] n f j p q s.on) worlds live
        (record {
          slots = λ u e. absurd e;
          spare = λ r e. subst (λ (o : Option ℕ). Accounted k i x.heap (code.process_names p) (Refer o)) (same_refer r (sym s.on.spare ∙ e)) to_nothing;
          made = subst (λ (fs : List Frame). AreAccounted m k i x (code.process_names p) (all_words fs)) (sym s.has.made)
              (several k i x.heap (code.process_names p) (frame_words (with_words s.frame s.others)) []
              (more (Refer (Some s.frame.instance)) s.others
              (to_value s.frame.instance (refers p.frame.instance instance_named (itself s.called.instance)))
              (each_accounted k i x.heap (code.process_names p) s.others each))
              accounts.none);
          answer = tt;
        })
        (λ u o e. absurd e)
      where
        same_refer : (r : Option ℕ) → ◌≡◌ {A = Access Word} (Found (Refer None)) (Found (Refer r)) → None ≡ r
        same_refer r e = cc

        instance_named : 0 < code.process_names p p.frame.instance
        instance_named = let y = one_names p.frame.instance in omega (arith, y)

        now_there : IsTogether m k i x [] n f j p q s.on t fn a
        now_there = together k x [] j q s.on (λ e. e)

        each : (l c : ℕ) → slice_get s.others l ≡ Some (Refer (Some c)) → Accounted k i x.heap (code.process_names p) (Refer (Some c))
        each l c e = elim (written_from s.frame.words s.others linkage_bytes s.inner 0 done s.written c (has_at s.others l (Refer (Some c)) e)) [
          | inl y ↦ absurd (s.bare c y)
          | inr y ↦
              inner_accounted k x [] j q s.on now_there c
              (subst (λ (ws : List Word). Has ws (Refer (Some c))) (sym (same_box k x [] j q s.on now_there s.box s.inner s.box_is)) y)
        ]

    -- They are on their way where the next instruction leads on whatever others did.
    pub passing_way : (l : ℕ) (k : Facts) (x : World) (j : ℕ) (q : Process) (done : ℕ) → Passing k x j q done → HoldTheSame m k i x p q
        → ((now : Facts) (w : Shared) (y : World) → Passing now y j q done → HoldTheSame m now i y p q → (sides m).worlds now w y
        → Next m b i p l now w y q)
        → Way (sides m) (place m) (suc l) k i x p q
    passing_way l k x j q done s hold does = (
      hold,
      λ now y w left h' worlds. does now w y (passing_later k now x y j q done s left h') h' worlds,
    )

    rank_plain : (j : ℕ) → rank (row_of m f p.frame.pc instr) j ≡ 2 + j
    rank_plain zero = refl
    rank_plain (suc j) = refl

    -- The other stands still while an instruction goes on to the next one of the row.
    pub passing_by : (k : Facts) (w : Shared) (x : World) (j : ℕ) (q r : Process) (done then_done : ℕ) → (s : Passing k x j q done)
        → HoldTheSame m k i x p q → (sides m).worlds k w x → suc j < (row_of m f p.frame.pc instr).size → (sides m).code.step x q ≡ Went x r
        → (after : Passing k x (suc j) r then_done) → (l : ℕ) → (HoldTheSame m k i x p r → Way (sides m) (place m) l k i x p r)
        → Next m b i p l k w x q
    passing_by k w x j q r done then_done s hold worlds more_left step after l way =
        let live = b.there_again x x q r step worlds.0.closed (λ o h. hold.same.live o (hold.same.roots o h)) in
        let held = passing_holds k w x (suc j) r then_done after worlds live in
        let before = rank_here m b i p q [] n f j k w x s.on hold worlds instr here (omega (arith, more_left)) ∙ rank_plain j in
        let behind = (places_are m).ranked n f p.frame.pc instr (suc j) r after.on.there (row_code m k i x [] n f (suc j) p r after.on instr here)
        more_left after.on.pc ∙ rank_plain (suc j) in
        silent (sides m) (place m) (λ l' z r t. Way (sides m) (place m) l l' i z r t) k k i w x x p q r step (nothing_changes m k i x) worlds
        (omega (arith, before, behind)) (way held)
