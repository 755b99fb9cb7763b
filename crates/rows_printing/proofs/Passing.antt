-- Two on their way while operands come to the frame of a print: it has so many bytes of them, and they stand in their slot as they stood.
use Rattle.std.proofs.Common.{◌≡◌, ℕ, suc, pos, ◌+◌, ◌*◌, ◌<◌, ◌≤◌, ◌/◌, ◌%◌, List, [], ◌∷◌, length, Some, None, inl, inr, refl, sym, ap, ◌∙◌, subst, arith}
use Rattle.std.specs.Prelude.{slice_get}
use Rattle.process_model.specs.Process.{Went}
use Rattle.process_ways.specs.Ways.{Way}
use Rattle.heap_model.specs.Heap.{at}
use Rattle.heap_model.specs.Facts.{Free, Covers}
use Rattle.limbo_types.specs.Types as ty
use Rattle.limbo_types.specs.Types.{Ty}
use Rattle.limbo_types.specs.View.{tys_of}
use Rattle.limbo_layout.specs.Adts.{Has}
use Rattle.limbo_layout.specs.Layout.{Room}
use Rattle.limbo_typed.specs.Typed as typed
use Rattle.limbo_typed.specs.declared.print.Piece.{Piece}
use Rattle.limbo_meaning.specs.Process.{Shared}
use Rattle.limbo_meaning.specs.Values.{Value, Chars, Parts, row, among, references, references_in}
use Rattle.core_code.specs.Code.{Print}
use Rattle.core_code.specs.Machine as code
use Rattle.core_code.specs.Slots as core
use Rattle.core_code.specs.Slots.{Forms, slot_names}
use Rattle.core_code.specs.Terms.{numbers_from}
use Rattle.core_typing.specs.Held as held
use Rattle.core_typing.specs.Held.{Held, Forming}
use Rattle.core_typing.specs.Needs.{AllStandAs, AreArguments, printed}
use Rattle.dis_meaning.specs.Words.{Word, Refer, Found, word_at}
use Rattle.dis_meaning.specs.Process.{Frame, Process}
use Rattle.dis_memory.specs.Blocks.{Record, World}
use Rattle.dis_memory.specs.Naming as machine
use Rattle.value_words.specs.Facts.{Facts}
use Rattle.value_words.specs.Stands as memory
use Rattle.value_words.proofs.Bytes.{word_there}
use Rattle.value_words.proofs.Covered.{covered}
use Rattle.value_frames.specs.Forming.{begun, formed}
use Rattle.value_frames.specs.Frames.{linkage_bytes, number_place, reference_place, box_bytes, room_for, row_of as all_room}
use Rattle.value_frames.specs.Types.{AreOf}
use Rattle.value_frames.specs.Standing.{SlotStands, IsOwn, IsForming}
use Rattle.value_frames.proofs.Rest.{slots_rest}
use Rattle.value_moves.specs.Writing.{Writes}
use Rattle.value_roots.proofs.Words.{has_counts}
use Rattle.value_code.specs.Code.{last_end}
use Rattle.value_follows.specs.Stands.{types_of, ReferNowhere}
use Rattle.value_follows.specs.Sides.{sides, HoldTheSame}
use Rattle.value_follows.specs.Rows.{place, Base}
use Rattle.value_follows.proofs.RootedValues.{word_has, covers_those, stands_laid}
use Rattle.value_follows.proofs.Several.{Next}
use Rattle.value_follows.proofs.Single.{nothing_changes}
use Rattle.value_follows.proofs.Slots.{slot_is, uses}
use Rattle.value_follows.proofs.Standing.{finds}
use Rattle.rows_calling.proofs.OnTheWay.{On, frame_is, row_code, on_later}
use Rattle.rows_calling.proofs.Making.{Made}
use Rattle.rows_forming.proofs.Putting.{written_from, slot_among}
use Rattle.rows_printing.proofs.Framing.{frame_size, frame_offsets, in_row, IsFilled}
use Rattle.rows_printing.proofs.Lying.{HasRow}
use Rattle.rows_printing.proofs.Row.{front_even, front_within}
use Rattle.rows_printing.proofs.Together.{formed_is, StandInRow, parts_stand, in_tuple}
use Rattle.rows_printing.proofs.Way.{HasSys, sys_later, size, print_by, filled_accounted}

-- The type of what is put together for a print.
abbrev pub printed_tuple : List Piece → Ty
printed_tuple ps = ty.Tuple (tys_of (ty.Chars ∷ printed ps))

-- What was put together in a slot for a print, by what is known of it.
pub record IsTogether (m : typed.Module) (k : Facts) (i : ℕ) (x : World) (busy : List ℕ) (n : ℕ) (f : typed.Function) (j : ℕ) (p : code.Process)
    (q : Process) (on : On m k i x busy n f j p q) (ps : List Piece) (a : ℕ) : Type 0 where
  pub ws : List Ty
  pub so : AllStandAs ws (printed ps)
  pub live : List ℕ
  pub known_so : held.slot on.known a ≡ Forming (printed_tuple ps) None (numbers_from m.adts 1 (length (printed ps))) ws live
  pub values : List Value
  pub holds : core.slot p.frame.slots a ≡ Forms values
  pub box : ℕ
  pub inner : List Word
  pub own_is : on.words.own a ≡ box ∷ []
  pub own : IsOwn m.adts k x.heap q.frame.serial q.frame.words (reference_place m.adts (types_of m f) a) (box_bytes m.adts (printed_tuple ps))
      (room_for m.adts (printed_tuple ps)).references box inner
  pub forming : IsForming m.adts k (printed_tuple ps) None (numbers_from m.adts 1 (length (printed ps))) ws live values inner

-- A word of the running frame refers to a record with these words, which the process made and which stands for nothing yet.
pub record HasBox (m : typed.Module) (k : Facts) (i : ℕ) (x : World) (place : ℕ) (q : Process) (box : ℕ) (inner : List Word) : Type 0 where
  pub word : word_at q.frame.words (pos place) ≡ Found (Refer (Some box))
  pub there : at x.heap box ≡ Some (Record inner)
  pub free : Free k box
  pub made : k.maker box ≡ Some i

module _ (m : typed.Module) (b : Base m) (i : ℕ) (p : code.Process) (n : ℕ) (f : typed.Function) (ps : List Piece) (into a : ℕ)
    (here : slice_get p.frame.code p.frame.pc ≡ Some (Print ps into (Some a)))
    (none : (s : ℕ) → slot_names (core.slot p.frame.slots into) s ≡ 0) where
  abbrev pub a_at : ℕ
  a_at = reference_place m.adts (types_of m f) a

  abbrev pub sys_at : ℕ
  sys_at = reference_place m.adts (types_of m f) into

  abbrev names : ℕ → ℕ
  names = code.process_names p

  -- the row of what is printed
  abbrev pub room : Room
  room = all_room m.adts (in_row m.adts ps)

  abbrev pub front : ℕ
  front = last_end room.references

  module _ (k : Facts) (x : World) (busy : List ℕ) (j : ℕ) (q : Process) (on : On m k i x busy n f j p q) where
    pub few : a < length p.frame.slots
    few = (uses m k i x busy p.frame q.frame (frame_is m k i x busy n f j p q on) p.frame.pc (Print ps into (Some a))
        (row_code m k i x busy n f j p q on (Print ps into (Some a)) here)).1

    pub together : (Has busy a → ⊥) → IsTogether m k i x busy n f j p q on ps a
    together idle =
        let found = finds m f p.frame.pc on.known (Print ps into (Some a)) on.goes (row_code m k i x busy n f j p q on (Print ps into (Some a)) here) in
        go found.0
      where
        go : AreArguments m.adts (held.slot on.known a) (ty.Chars ∷ []) (printed ps) → IsTogether m k i x busy n f j p q on ps a
        go h =
            let known_so : held.slot on.known a ≡ Forming (printed_tuple ps) None (numbers_from m.adts 1 (length (printed ps))) h.0 h.2.0 = h.2.1 in
            let stands = subst (λ (y : Held). SlotStands m.adts k x.heap q.frame.serial q.frame.words (number_place m.adts (types_of m f) a) a_at y
            (core.slot p.frame.slots a) (on.words.own a)) known_so
            (slot_is m k i x busy p.frame q.frame (frame_is m k i x busy n f j p q on) a few idle) in
            let s = slots_rest.is_forming m.adts k x.heap q.frame.serial q.frame.words (number_place m.adts (types_of m f) a) a_at
            (printed_tuple ps) None (numbers_from m.adts 1 (length (printed ps))) h.0 h.2.0 (core.slot p.frame.slots a) (on.words.own a) stands in
            record {
              ws = h.0;
              so = h.1;
              live = h.2.0;
              known_so = known_so;
              values = s.0;
              holds = s.1;
              box = s.2;
              inner = s.3;
              own_is = s.4;
              own = s.5;
              forming = s.6;
            }

    module _ (s : IsTogether m k i x busy n f j p q on ps a) where
      abbrev pub whole : Value
      whole = formed (begun m.adts (printed_tuple ps) None) (numbers_from m.adts 1 (length (printed ps))) s.values

      pub box_of : HasBox m k i x a_at q s.box s.inner
      box_of = record {
        word = s.own.word;
        there = s.own.there;
        free = s.own.free;
        made = on.mine a s.box (subst (λ (bs : List ℕ). Has bs s.box) (sym s.own_is) (inl refl));
      }

      -- it is the same as before
      pub same_box : (b : ℕ) (inner : List Word) → HasBox m k i x a_at q b inner → s.inner ≡ inner
      same_box b inner h =
          let found : Found (Refer (Some s.box)) ≡ Found (Refer (Some b)) = sym s.own.word ∙ h.word in
          let is : s.box ≡ b = cc in
          let block : Some (Record s.inner) ≡ Some (Record inner) = sym s.own.there ∙ (ap (at x.heap) is ∙ h.there) in
          cc

      -- What its words refer to is accounted for.
      has_where : (ws : List Word) (v : Word) → Has ws v → (w : ℕ) × (slice_get ws w ≡ Some v)
      has_where [] v h = absurd h
      has_where (u ∷ ws) v (inl e) = (0, ap (λ (a : Word). Some a) e)
      has_where (u ∷ ws) v (inr h) = let w = has_where ws v h in (suc w.0, w.1)

      named : (o : ℕ) → 0 < among o (references_in s.values) → 0 < names o
      named o l =
          let z = slot_among p.frame.slots a o (subst (λ (y : core.Slot). 0 < core.slot_names y o) (sym s.holds) l) in
          omega (arith, z)

      pub inner_covered : (c : ℕ) → Has s.inner (Refer (Some c)) → Covers k (λ o. 0 < names o) c
      inner_covered c h =
          let j = has_where s.inner (Refer (Some c)) h in
          let e : (0 + 4 * j.0) / 4 ≡ j.0 = omega arith in
          covers_those m.adts k names (references whole) c (λ o l. named o (s.forming.names o l))
          (covered m.adts k s.inner 0 (printed_tuple ps) (room_for m.adts (printed_tuple ps)) whole (4 * j.0) c
          (stands_laid m.adts k s.inner 0 (printed_tuple ps) whole s.forming.stands) s.forming.stands (s.own.kind.only j.0 (Some c) j.1)
          (word_there s.inner (0 + 4 * j.0) (Refer (Some c)) (omega arith) (ap (slice_get s.inner) e ∙ j.1)))

      as_many : (us ws : List Ty) → AllStandAs ws us → length ws ≡ length us
      as_many [] [] h = refl
      as_many [] (w ∷ ws) h = absurd h
      as_many (u ∷ us) [] h = absurd h
      as_many (u ∷ us) (w ∷ ws) h = ap suc (as_many us ws h.1)

      pub whole_is : whole ≡ Parts (row (Chars [] ∷ s.values))
      whole_is = formed_is m.adts (printed ps) s.values (sym (as_many (printed ps) s.ws s.so) ∙ s.forming.typed)

      -- what the operands' record has
      pub stand : StandInRow m.adts k s.inner 0 (ty.Chars ∷ printed ps) (Chars [] ∷ s.values)
      stand =
          parts_stand m.adts k s.inner 0 (ty.Chars ∷ printed ps) (Chars [] ∷ s.values)
          (subst (λ (v : Value). memory.Stands m.adts k s.inner 0 (printed_tuple ps) v) whole_is s.forming.stands)

      pub lies : HasRow s.inner 0 room
      lies = in_tuple m.adts (ty.Chars ∷ printed ps) s.inner s.own.kind

      pub even : front % 4 ≡ 0
      even = front_even m.adts (ty.Chars ∷ printed ps) stand.laid

      pub within : front ≤ room.size
      within = front_within m.adts (ty.Chars ∷ printed ps) stand.laid

  -- ---- while they move

  -- So many bytes of the operands' record are in the frame that is made; they go on to be in their slot.
  pub record Passing (k : Facts) (x : World) (j : ℕ) (q : Process) (done : ℕ) : Type 0 where
    pub on : On m k i x (into ∷ []) n f j p q
    pub sys : HasSys k sys_at q
    pub frame : Frame
    pub has : Made q frame
    pub instance : frame.instance ≡ q.frame.instance
    pub kind : AreOf (frame_size m.adts ps) (frame_offsets m.adts ps) frame.words
    pub base : List Word
    pub bare : ReferNowhere base
    pub box : ℕ
    pub inner : List Word
    pub box_is : HasBox m k i x a_at q box inner
    pub written : Writes base frame.words linkage_bytes inner 0 done

  module _ (apart : into ≡ a → ⊥) where
    pub idle : Has (into ∷ []) a → ⊥
    idle (inl e) = apart e
    idle (inr h) = h

    passing_later : (k now : Facts) (x y : World) (j : ℕ) (q : Process) (done : ℕ) → Passing k x j q done → (sides m).leaves i k now x y
        → HoldTheSame m now i y p q → Passing now y j q done
    passing_later k now x y j q done s left holds =
        let counted : 0 < machine.names q s.box =
        let h = has_counts q.frame.words s.box (word_has q.frame.words a_at (Refer (Some s.box)) s.box_is.word) in omega (arith, h) in
        let kept = b.mine_later k now i x y p q left holds s.box counted s.box_is.free s.box_is.made in
        record {
          on = on_later m i p q b k now x y left holds (into ∷ []) n f j s.on;
          sys = sys_later k now sys_at q left.0.grows s.sys;
          frame = s.frame;
          has = s.has;
          instance = s.instance;
          kind = s.kind;
          base = s.base;
          bare = s.bare;
          box = s.box;
          inner = s.inner;
          box_is = record {
            word = s.box_is.word;
            there = kept.1 ∙ s.box_is.there;
            free = kept.0;
            made = left.0.grows.makers s.box i s.box_is.made;
          };
          written = s.written;
        }

    pub now_there : (k : Facts) (x : World) (j : ℕ) (q : Process) (done : ℕ) → (s : Passing k x j q done)
        → IsTogether m k i x (into ∷ []) n f j p q s.on ps a
    now_there k x j q done s = together k x (into ∷ []) j q s.on idle

    pub same_words : (k : Facts) (x : World) (j : ℕ) (q : Process) (done : ℕ) → (s : Passing k x j q done) → (now_there k x j q done s).inner ≡ s.inner
    same_words k x j q done s = same_box k x (into ∷ []) j q s.on (now_there k x j q done s) s.box s.inner s.box_is

    -- the frame is filled so far
    pub filled_so : (k : Facts) (x : World) (j : ℕ) (q : Process) (done : ℕ) → (s : Passing k x j q done)
        → IsFilled m b i p n f ps into (Some a) here none k q s.frame
    filled_so k x j q done s = record {
      instance = s.instance;
      kind = s.kind;
      covered = λ c h. elim (written_from s.base s.frame.words linkage_bytes s.inner 0 done s.written c h) [
        | inl y ↦ absurd (s.bare c y)
        | inr y ↦
            inner_covered k x (into ∷ []) j q s.on (now_there k x j q done s) c
            (subst (λ (ws : List Word). Has ws (Refer (Some c))) (sym (same_words k x j q done s)) y)
      ];
    }

    -- They are on their way where the next instruction leads on whatever others did.
    pub passing_way : (l : ℕ) (k : Facts) (x : World) (j : ℕ) (q : Process) (done : ℕ) → Passing k x j q done → HoldTheSame m k i x p q
        → ((now : Facts) (w : Shared) (y : World) → Passing now y j q done → HoldTheSame m now i y p q → (sides m).worlds now w y
        → Next m b i p l now w y q)
        → Way (sides m) (place m) (suc l) k i x p q
    passing_way l k x j q done s hold does = (
      hold,
      λ now y w left h' worlds. does now w y (passing_later k now x y j q done s left h') h' worlds,
    )

    -- The other stands still while an instruction goes on to the next one of the row.
    pub passing_by : (k : Facts) (w : Shared) (x : World) (j : ℕ) (q r : Process) (done then_done : ℕ) → (s : Passing k x j q done)
        → HoldTheSame m k i x p q → (sides m).worlds k w x → suc (suc j) < size m b i p n f ps into (Some a) here none
        → (sides m).code.step x q ≡ Went x r
        → (after : Passing k x (suc j) r then_done) → (l : ℕ) → (HoldTheSame m k i x p r → Way (sides m) (place m) l k i x p r)
        → Next m b i p l k w x q
    passing_by k w x j q r done then_done s hold worlds further step after l way =
        print_by m b i p n f ps into (Some a) here none k k w x x (into ∷ []) j q r s.on hold worlds further step (nothing_changes m k i x) worlds
        after.on after.sys
        (filled_accounted m b i p n f ps into (Some a) here none k x (suc j) (frame_size m.adts ps) (frame_offsets m.adts ps) r after.frame after.on
        after.has.made (filled_so k x (suc j) r then_done after))
        l way
