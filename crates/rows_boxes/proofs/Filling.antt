-- A record that is to be the box of a slot's value is filled, by one instruction or more: from the last one on the slot stands for the value.
use Rattle.std.proofs.Common.{◌≡◌, true, ℕ, suc, pos, ◌<◌, List, [], ◌∷◌, length, Option, Some, refl, sym, ap, subst, ◌∙◌, arith, inl, inr}
use Rattle.std.specs.Prelude.{slice_get, slice_index_or}
use Rattle.process_model.specs.Process.{Went, Ends}
use Rattle.process_model.proofs.Quiet.{quiets_none}
use Rattle.process_model.specs.Follows.{Only}
use Rattle.process_ways.specs.Ways.{Way, Does}
use Rattle.process_ways.proofs.On.{stepped}
use Rattle.heap_model.specs.Heap.{Heap, at, there}
use Rattle.heap_model.specs.Facts.{Free, Inner}
use Rattle.heap_model.proofs.Growing.{grows_same}
use Rattle.limbo_types.specs.Types.{Ty}
use Rattle.limbo_layout.specs.Adts.{Def, Has}
use Rattle.limbo_typed.specs.Typed as typed
use Rattle.limbo_meaning.specs.Process.{Shared}
use Rattle.limbo_meaning.specs.Values.{Value}
use Rattle.system_model.specs.Ending.{Ending}
use Rattle.core_code.specs.Code.{Instr}
use Rattle.core_code.specs.Machine as code
use Rattle.core_code.specs.Slots as core
use Rattle.core_code.specs.Slots.{Holds}
use Rattle.core_typing.specs.Held as held
use Rattle.core_typing.specs.Held.{Of}
use Rattle.core_typing.specs.Going.{stand, behind}
use Rattle.dis_isa.specs.declared.inst.Inst.{Inst}
use Rattle.dis_meaning.specs.Words.{Word, Refer, word_at}
use Rattle.dis_meaning.specs.Process.{Process}
use Rattle.dis_memory.specs.Blocks.{World, Block}
use Rattle.value_words.specs.Forms.{OwnedBy}
use Rattle.value_words.specs.Facts.{Facts, Grows}
use Rattle.value_words.specs.Stands as memory
use Rattle.value_words.proofs.Later.{stands_later}
use Rattle.value_frames.specs.Frames.{Boxed, form_of, number_place, reference_place, spare_place, box_bytes, room_for}
use Rattle.value_frames.specs.Types.{AreOf}
use Rattle.value_frames.specs.Standing.{SlotStands, a_value, ValueStands, NamesOnly, WordsAre}
use Rattle.value_frames.proofs.Slots.{slots_change, put_long, was_among}
use Rattle.value_frames.proofs.Later.{frames_later}
use Rattle.value_moves.proofs.Changing.{low_or_high}
use Rattle.value_code.specs.Objects.{object_of, of_function, size_at}
use Rattle.value_code.specs.Code.{code_of}
use Rattle.number_effects.specs.Stepping.{Reaches}
use Rattle.value_follows.specs.Stands.{types_of, place_of, GoesOn, Awaited, Ready, ReferNowhere}
use Rattle.value_follows.specs.Sides.{sides, HoldTheSame}
use Rattle.value_follows.specs.Rows.{place, Base, RowStands, site_of}
use Rattle.value_follows.proofs.Standing.{instance_here, goes_behind}
use Rattle.value_follows.proofs.Waiting.{stands_anew}
use Rattle.value_follows.proofs.Several.{Next, moved_to}
use Rattle.rows_boxes.proofs.Blocks.{written_world, written_sets, written_alike, written_changes, told_facts, told, told_grows, told_alike, told_keeps, told_changes}
use Rattle.rows_boxes.proofs.Boxing.{Boxing, only_one}

other_block : (s : ℕ) (k : Facts) (b c : ℕ) → k.form c ≡ Some (OwnedBy s) → (k.form b ≡ Some (OwnedBy s) → ⊥) → b ≡ c → ⊥
other_block s k b c e other same = other (ap k.form same ∙ e)

-- no slot is busy any more
idle_words : (defs : List Def) (k : Facts) (x : Heap Block) (frame : ℕ) (busy : List ℕ) (types : List Ty) (known : held.Slots) (vs : List Value)
    (slots : core.Slots) (ws : List Word) → ((s : ℕ) → Has busy s → ⊥) → (are : WordsAre defs k x frame busy types known vs slots ws)
    → (idle : WordsAre defs k x frame [] types known vs slots ws) × (idle.own ≡ are.own)
idle_words defs k x frame busy types known vs slots ws none are = (
  record {
    laid = are.laid;
    kind = are.kind;
    values = are.values;
    as_many = are.as_many;
    own = are.own;
    none_past = are.none_past;
    busy_bare = λ s h. absurd h;
    each = λ s h l free e g. are.each s h l (none s) e g;
    single = are.single;
    apart = are.apart;
  },
  refl,
)

module _ (m : typed.Module) (b : Base m) (number : ℕ) (f : typed.Function) (t : Ty) (into : ℕ) (j box : ℕ) (inner : List Word) (i : ℕ) (p : code.Process)
    (q : Process) (k : Facts) (w : Shared) (x : World) (s : Boxing m number f t into j box inner k i x p q) (hold : HoldTheSame m k i x p q)
    (worlds : (sides m).worlds k w x) where
  abbrev known : held.Slots
  known = s.stands.is.known

  abbrev own_function : typed.Function
  own_function = s.stands.is.function

  -- an instruction of the row is what the process does next
  pub reaches_on : (instr : Instr) (row : RowStands m number f p.frame.pc instr) (inst : Inst)
      → slice_get (code_of (site_of m number f p.frame.pc row.at) instr) j ≡ Some inst → Reaches (object_of m ∷ []) x q (object_of m) inst
  reaches_on instr row inst e =
      let is = instance_here m b k i w x p q (into ∷ []) s.stands.is hold worlds.0 in
      record {
        object = 0;
        words = is.0;
        instance = is.1;
        code = refl;
        here = ap (slice_get (object_of m).insts) s.pc ∙ row.insts j inst e;
      }

  -- both end alike
  pub ends_alike : (n : ℕ) (how : Ending) → (sides m).code.step x q ≡ Ends x how → (sides m).program.step w p ≡ Ends w how → Next m b i p n k w x q
  ends_alike n how e g =
      subst (λ d. Does (sides m) (place m) (λ l z r u. Way (sides m) (place m) n l i z r u) (place m q) k i w x p d) (sym e) (record {
        now = k;
        changes = (record { grows = grows_same k; there = λ c d h. (d, h); free = λ c d free h no. (refl, refl); carriers = λ c d h. refl }, omega arith);
        world = w;
        comes = record { steps = 0; world = w; before = p; quiets = quiets_none (sides m).program (sides m).naming w p; does = g };
        worlds = worlds;
      })

  owned : (r c : ℕ) → Has (s.stands.is.words.own r) c → Free k c
  owned r c h =
      ((frames_later m.adts k x.heap q.frame.serial (into ∷ []) (types_of m own_function) known p.frame.variables p.frame.slots q.frame.words
      s.stands.is.words).owned r c h).0

  not_box : (r c : ℕ) → Has (s.stands.is.words.own r) c → c ≡ box → ⊥
  not_box r c h same = s.apart r (subst (λ (d : ℕ). Has (s.stands.is.words.own r) d) same h)

  -- ---- more words in it, and none that refers to something

  module _ (words : List Word) (bare : ReferNowhere words) (kind : AreOf (box_bytes m.adts t) (room_for m.adts t).references words) where
    pub nothing_led : (n : ℕ) → Has words (Refer (Some n)) → (there (at x.heap n) ≡ true) × (Inner k n → ⊥)
    nothing_led n h = absurd (bare n h)

    abbrev pub world_on : World
    world_on = written_world m i k w x worlds box inner words s.there s.none s.made nothing_led

    pub changes_on : (sides m).changes (Only i) k k x world_on
    changes_on = written_changes m i k w x worlds box inner words s.there s.none s.made nothing_led

    pub alike_on : (sides m).worlds k w world_on
    alike_on = written_alike m i k w x worlds box inner words s.there s.none s.made nothing_led

    pub boxing_on : Boxing m number f t into (suc j) box words k i world_on p (moved_to q (suc q.frame.pc) q.frame.words)
    boxing_on =
        let sets = written_sets m i k w x worlds box inner words s.there s.none s.made nothing_led in
        let are = s.stands.is.words in
        let after = (frames_later m.adts k x.heap q.frame.serial (into ∷ []) (types_of m own_function) known p.frame.variables p.frame.slots
        q.frame.words are).later k world_on.heap (grows_same k) (λ r c h. (owned r c h, sets.apart c (not_box r c h))) in
        let anew = stands_anew m k k i x world_on (into ∷ []) Awaited p q s.stands (grows_same k) (omega arith)
        (λ c free made other. (free, sets.apart c (other_block q.frame.serial k c box s.formed other))) (into ∷ []) p.frame.pc (suc q.frame.pc) known
        p.frame.variables p.frame.slots q.frame.words q.made refl after.0
        (λ r c h. s.stands.is.mine r c (subst (λ (o : ℕ → List ℕ). Has (o r) c) after.1 h)) s.stands.goes refl in
        record {
          stands = record { number = anew.stands.number; is = anew.stands.is; goes = anew.stands.goes; waits = anew.stands.waits };
          number_is = anew.number ∙ s.number_is;
          function_is = anew.function ∙ s.function_is;
          pc = (let e = s.pc in omega (arith, e));
          spare = s.spare;
          none_made = s.none_made;
          word = s.word;
          there = sets.here;
          none = s.none;
          made = s.made;
          formed = s.formed;
          kind = kind;
          bare = bare;
          apart = λ r h. s.apart r (subst (λ (o : ℕ → List ℕ). Has (o r) box) (anew.own ∙ after.1) h);
          unnamed = s.unnamed;
        }

  -- ---- it is full

  -- These words of the record stand for a value, and refer to what is there and stands for values or texts.
  pub record Fills (words : List Word) (live : List ℕ) (v : Value) : Type 0 where
    pub kind : AreOf (box_bytes m.adts t) (room_for m.adts t).references words
    pub stands : memory.Stands m.adts k words 0 t v
    pub led : (n : ℕ) → Has words (Refer (Some n)) → (there (at x.heap n) ≡ true) × (Inner k n → ⊥)
    pub names : NamesOnly live v

  module _ (words : List Word) (live : List ℕ) (v : Value) (fills : Fills words live v) where
    abbrev pub world_full : World
    world_full = written_world m i k w x worlds box inner words s.there s.none s.made fills.led

    abbrev pub facts_full : Facts
    facts_full = told_facts m i k w x worlds box inner words s.there s.none s.made fills.led

    full_grows : Grows k facts_full
    full_grows = told_grows m i k w x worlds box inner words s.there s.none s.made fills.led

    value_stands : (g : typed.Function) → g ≡ f → form_of t ≡ Boxed
        → SlotStands m.adts facts_full world_full.heap q.frame.serial q.frame.words (number_place m.adts (types_of m g) into)
        (reference_place m.adts (types_of m g) into) (Of t live) (Holds v) []
    value_stands g same form =
        a_value q.frame.words (number_place m.adts (types_of m g) into) (reference_place m.adts (types_of m g) into) t live v
        (subst (λ o. ValueStands m.adts facts_full q.frame.words (number_place m.adts (types_of m g) into)
        (reference_place m.adts (types_of m g) into) o t v) (sym form) (
          box,
          words,
          ap (λ (h : typed.Function). word_at q.frame.words (pos (reference_place m.adts (types_of m h) into))) same ∙ s.word,
          record { carries = told m i k w x worlds box inner words s.there s.none s.made fills.led; kind = fills.kind },
          stands_later m.adts k facts_full words full_grows 0 t v fills.stands,
        ))
        fills.names

    abbrev full_slots : core.Slots
    full_slots = core.put p.frame.slots into (Holds v)

    module _ (form : form_of t ≡ Boxed) (few : into < length p.frame.slots) (instr : Instr) (here : slice_get p.frame.code p.frame.pc ≡ Some instr)
        (behind_is : (slots : held.Slots) → behind m.adts p.frame.pc slots instr ≡ stand (suc p.frame.pc) (held.put slots into (Of t live)) ∷ [])
        (size : size_at m f.of.answer (of_function m f) p.frame.pc (Some instr) ≡ suc j) where
      code_there : slice_get (of_function m own_function).code p.frame.pc ≡ Some instr
      code_there = subst (λ c. slice_get c p.frame.pc ≡ Some instr) s.stands.is.code here

      pub in_code : slice_get (of_function m f).code p.frame.pc ≡ Some instr
      in_code = subst (λ (g : typed.Function). slice_get (of_function m g).code p.frame.pc ≡ Some instr) s.function_is code_there

      goes_on : GoesOn m own_function (suc p.frame.pc) (held.put known into (Of t live))
      goes_on =
          let after = stand (suc p.frame.pc) (held.put known into (Of t live)) in
          goes_behind m own_function p.frame.pc known instr s.stands.goes code_there 0 (suc p.frame.pc) (held.put known into (Of t live))
          (subst (λ l. 0 < length l) (sym (behind_is known)) (omega arith))
          (ap (λ l. slice_index_or l 0 after) (behind_is known))

      next_place : suc q.frame.pc ≡ place_of m number f (suc p.frame.pc)
      next_place =
          let g = ap (λ (o : Option Instr). size_at m f.of.answer (of_function m f) p.frame.pc o) in_code in
          let e = s.pc in
          omega (arith, e, size, g)

      none_busy : (r : ℕ) → Has (held.without into (into ∷ [])) r → ⊥
      none_busy r h = let was = was_among into r (into ∷ []) h in was.1 (sym (only_one into r was.0))

      pub full_ready : Ready m facts_full i world_full (code.with_frames p (code.at p.frame (suc p.frame.pc) p.frame.variables full_slots) p.below)
          (moved_to q (suc q.frame.pc) q.frame.words)
      full_ready =
          let are = s.stands.is.words in
          let keeps = told_keeps m i k w x worlds box inner words s.there s.none s.made fills.led in
          let after = slots_change.slot m.adts k facts_full x.heap world_full.heap q.frame.serial (into ∷ []) (types_of m own_function) known
          p.frame.variables p.frame.slots q.frame.words q.frame.words into (Of t live) (Holds v) [] are full_grows few
          (record { each = λ u no. refl }) are.kind (value_stands own_function s.function_is form) tt
          (λ r c ne h. (λ e. e, keeps c (not_box r c h) (owned r c h))) in
          let idle = idle_words m.adts facts_full world_full.heap q.frame.serial (held.without into (into ∷ [])) (types_of m own_function)
          (held.put known into (Of t live)) p.frame.variables full_slots q.frame.words none_busy after.after in
          let anew = stands_anew m k facts_full i x world_full (into ∷ []) Awaited p q s.stands full_grows (omega arith)
          (λ c free made other. keeps c (other_block q.frame.serial k c box s.formed other) free)
          [] (suc p.frame.pc) (suc q.frame.pc) (held.put known into (Of t live)) p.frame.variables full_slots q.frame.words q.made
          (put_long p.frame.slots into (Holds v)) idle.0
          (λ r c h. full_grows.makers c i (mine after.after.own r c after.here after.elsewhere (subst (λ (o : ℕ → List ℕ). Has (o r) c) idle.1 h)))
          goes_on refl in
          record {
            stands = anew.stands;
            pc = next_place
                ∙ ap (λ (n : ℕ). place_of m n f (suc p.frame.pc)) (sym (anew.number ∙ s.number_is))
                ∙ ap (λ (g : typed.Function). place_of m anew.stands.is.number g (suc p.frame.pc)) (sym (anew.function ∙ s.function_is));
            spare = ap (λ (g : typed.Function). word_at q.frame.words (pos (spare_place m.adts (types_of m g)))) (anew.function ∙ s.function_is)
                ∙ s.spare;
            none_made = s.none_made;
          }
        where
          mine : (own : ℕ → List ℕ) (r c : ℕ) → own into ≡ [] → ((u : ℕ) → (u ≡ into → ⊥) → own u ≡ s.stands.is.words.own u) → Has (own r) c
              → k.maker c ≡ Some i
          mine own r c e g h = elim (low_or_high r into) [
            | inl low ↦ s.stands.is.mine r c (subst (λ o. Has o c) (g r (λ z. omega (arith, z, low))) h)
            | inr high ↦ elim (low_or_high into r) [
              | inl more ↦ s.stands.is.mine r c (subst (λ o. Has o c) (g r (λ z. omega (arith, z, more))) h)
              | inr less ↦
                  let same : r ≡ into = omega (arith, high, less) in
                  absurd (subst (λ o. Has o c) (ap own same ∙ e) h)
            ]
          ]

      pub full_goes : (sides m).code.step x q ≡ Went world_full (moved_to q (suc q.frame.pc) q.frame.words)
          → (sides m).program.step w p ≡ code.goes_on w p full_slots → Next m b i p 0 k w x q
      full_goes e does =
          let alike = told_alike m i k w x worlds box inner words s.there s.none s.made fills.led in
          let r = code.with_frames p (code.at p.frame (suc p.frame.pc) p.frame.variables full_slots) p.below in
          let u = moved_to q (suc q.frame.pc) q.frame.words in
          stepped (sides m) (place m) (λ l z r t. Way (sides m) (place m) 0 l i z r t) k facts_full i w x world_full p q u e
          (told_changes m i k w x worlds box inner words s.there s.none s.made fills.led) w r does alike (
            full_ready,
            b.holds_again facts_full i w world_full r u full_ready alike
                (b.there_again x world_full q u e worlds.0.closed (λ n h. hold.same.live n (hold.same.roots n h))),
          )
