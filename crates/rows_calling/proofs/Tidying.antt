-- The last instruction of a print, behind its answer: what the answer's slot refers to goes.
use Rattle.std.proofs.Common.{◌≡◌, ℕ, ℤ, zero, suc, pos, ◌+◌, ◌*◌, ◌/◌, ◌<◌, List, [], ◌∷◌, ◌++◌, length, Option, Some, None, inl, inr, refl, sym, ap, ◌∙◌, subst, arith}
use Rattle.std.specs.Prelude.{slice_get}
use Rattle.std.proofs.lemmas.Bool.Decides.{eqb_tells}
use Rattle.process_ways.specs.Ways.{Way}
use Rattle.process_ways.proofs.On.{silent}
use Rattle.system_model.specs.Limits.{frames_limit}
use Rattle.limbo_types.specs.Types as ty
use Rattle.limbo_types.specs.Types.{Ty}
use Rattle.limbo_layout.specs.Adts.{Has}
use Rattle.limbo_values.specs.declared.number.Kind.TheVariants as kind
use Rattle.limbo_values.specs.Numbers.{InRange}
use Rattle.limbo_typed.specs.Typed as typed
use Rattle.limbo_typed.specs.declared.print.Piece.{Piece}
use Rattle.limbo_meaning.specs.Process.{Shared}
use Rattle.limbo_meaning.specs.Values.{Value, Num, Ref}
use Rattle.core_code.specs.Code.{Instr, Print}
use Rattle.core_code.specs.Machine as code
use Rattle.core_code.specs.Slots as core
use Rattle.core_code.specs.Slots.{Holds}
use Rattle.core_typing.specs.Held.{Held, Of}
use Rattle.dis_isa.specs.declared.inst.Inst.{Inst}
use Rattle.dis_isa.specs.declared.inst.Middle.TheVariants as middle
use Rattle.dis_isa.specs.declared.inst.Operand.TheVariants as operand
use Rattle.dis_isa.specs.declared.op.Op.TheVariants as op
use Rattle.dis_meaning.specs.Words.{Word, Refer, Access, Found, ◌>>=◌, word_at, number_in, reference}
use Rattle.dis_meaning.specs.Numbers.{number_at}
use Rattle.dis_meaning.specs.Process.{Process, at_pc, with_words, with_frames}
use Rattle.dis_memory.specs.Blocks.{World}
use Rattle.dis_memory.specs.Places.{source_reference}
use Rattle.value_words.specs.Facts.{Facts}
use Rattle.value_words.specs.Stands.{Stands as StandsFor, a_number, a_text, a_name, an_array, no_words, a_tuple, an_adt}
use Rattle.value_frames.specs.Frames.{linkage_bytes, answer_place, made_place, spare_place, number_place, reference_place, frame_bytes, frame_references}
use Rattle.value_frames.specs.Types.{AreOf}
use Rattle.value_frames.specs.Standing.{SlotStands, a_value, nothing_there, WordsAre}
use Rattle.value_frames.specs.Rest.{SlotReads}
use Rattle.value_frames.specs.Slots.{ElseAsWas}
use Rattle.value_frames.proofs.Slots.{slots_change}
use Rattle.value_frames.proofs.Later.{frames_later}
use Rattle.value_frames.proofs.Replacing.{kinds_stay}
use Rattle.value_frames.proofs.Rest.{slots_rest}
use Rattle.value_moves.specs.Changing.{Changes}
use Rattle.value_moves.specs.Operands.{Code, inst, own, behind}
use Rattle.value_moves.proofs.Changing.{low_or_high}
use Rattle.value_moves.proofs.Leading.{spots_lead}
use Rattle.value_code.specs.Data.{nil_word, path_word, PrintFrame}
use Rattle.value_code.specs.Operands.{number, reference as at_reference}
use Rattle.value_code.specs.Objects.{of_function, object_of, placed, blank_site, size_at}
use Rattle.value_code.specs.Code.{Site, code_of, arguments, let_go}
use Rattle.value_code.proofs.Having.{objects_have}
use Rattle.number_effects.specs.Giving.{with_word}
use Rattle.number_effects.specs.Stepping.{Reaches}
use Rattle.number_effects.proofs.Reading.{operands_are_read}
use Rattle.number_effects.proofs.Records.{words_move}
use Rattle.number_effects.proofs.Stepping.{steps_obey}
use Rattle.value_follows.specs.Stands.{types_of, place_of, Awaited, Stands, Ready}
use Rattle.value_follows.specs.Sides.{sides, HoldTheSame}
use Rattle.value_follows.specs.Rows.{place, row_of, Base, RowStands, site_of}
use Rattle.value_follows.proofs.Paces.{places_are}
use Rattle.value_follows.proofs.Putting.{word_same}
use Rattle.value_follows.proofs.Several.{Next}
use Rattle.value_follows.proofs.Single.{nothing_changes}
use Rattle.value_follows.proofs.Standing.{all_wait, instance_here}
use Rattle.rows_calling.proofs.NextRow.{rank_last, at_row}

-- ---- the last instruction

too_few : (xs : Code) (a b c d : Inst) → length (xs ++ a ∷ b ∷ c ∷ d ∷ []) ≡ 0 → ⊥
too_few [] a b c d e = absurd cc
too_few (x ∷ xs) a b c d e = absurd cc

last_of : (xs : Code) (a b c d : Inst) (j : ℕ) → suc j ≡ length (xs ++ a ∷ b ∷ c ∷ d ∷ []) → slice_get (xs ++ a ∷ b ∷ c ∷ d ∷ []) j ≡ Some d
last_of [] a b c d j e =
    let three : j ≡ 3 = omega (arith, e) in ap (slice_get (a ∷ b ∷ c ∷ d ∷ [])) three
last_of (x ∷ xs) a b c d zero e = absurd (too_few xs a b c d (omega (arith, e)))
last_of (x ∷ xs) a b c d (suc j) e = last_of xs a b c d j (omega (arith, e))

-- the last one of a print's code
pub last_printed : (c : Site) (ps : List Piece) (into : ℕ) (o : Option ℕ) (j : ℕ) → suc j ≡ length (code_of c (Print ps into o))
    → slice_get (code_of c (Print ps into o)) j ≡ Some (let_go c.scene into)
last_printed c ps into o j e =
    last_of (inst op.Load path_word (middle.Imm (pos 0)) (at_reference c.scene into)
    ∷ inst op.Frame (operand.Imm (pos (c.type_number (PrintFrame ps)))) middle.None (own made_place)
    ∷ arguments c.scene c.type_number c.told o)
    (inst op.Movp (operand.Mp (pos c.at)) middle.None (behind made_place linkage_bytes))
    (inst op.Lea (number c.scene into) middle.None (behind made_place answer_place))
    (inst op.Mcall (own made_place) (middle.Imm (pos 16)) (at_reference c.scene into)) (let_go c.scene into) j e

-- which is behind others
pub long_print : (c : Site) (ps : List Piece) (into : ℕ) (o : Option ℕ) → 2 < length (code_of c (Print ps into o))
long_print c ps into o =
    let e = few (arguments c.scene c.type_number c.told o)
    (inst op.Movp (operand.Mp (pos c.at)) middle.None (behind made_place linkage_bytes))
    (inst op.Lea (number c.scene into) middle.None (behind made_place answer_place))
    (inst op.Mcall (own made_place) (middle.Imm (pos 16)) (at_reference c.scene into)) (let_go c.scene into) in omega (arith, e)
  where
    few : (xs : Code) (a b c d : Inst) → 0 < length (xs ++ a ∷ b ∷ c ∷ d ∷ [])
    few [] a b c d = omega arith
    few (x ∷ xs) a b c d = omega arith

-- ---- `nil` is there

nil_refers : (defs : _) (k : Facts) (words : List Word) (at : ℕ) (t : Ty) (v : Value) → v ≡ Ref None → StandsFor defs k words at t v
    → word_at words (pos at) ≡ Found (Refer None)
nil_refers defs k words _ _ _ e (a_number at j z f i) = absurd cc
nil_refers defs k words _ _ _ e (a_text at r s f i) = absurd cc
nil_refers defs k words _ _ _ e (a_name at t None n i f h) = f
nil_refers defs k words _ _ _ e (a_name at t (Some b) None i f h) = absurd h
nil_refers defs k words _ _ _ e (a_name at t (Some b) (Some n) i f h) = absurd cc
nil_refers defs k words _ _ _ e (an_array at t r p f i) = absurd cc
nil_refers defs k words _ _ _ e (no_words at) = absurd cc
nil_refers defs k words _ _ _ e (a_tuple at ts rs vs l a) = absurd cc
nil_refers defs k words _ _ _ e (an_adt at n d rs vs f l a) = absurd cc

-- ---- the instruction

abbrev pub letting : (reference : ℕ) → Inst
letting r = inst op.Movp nil_word middle.None (own r)

same_held : (a b : Held) → Some a ≡ Some b → a ≡ b
same_held a b e = cc

same_slot : (a b : core.Slot) → Some a ≡ Some b → a ≡ b
same_slot a b e = cc

module _ (m : typed.Module) (b : Base m) (i : ℕ) (p : code.Process) (q : Process) (before : ℕ) (ps : List Piece) (into : ℕ) (o : Option ℕ)
    (j : ℕ) (z : ℤ) (range : InRange kind.Int z) where
  -- The machine's process is at the last instruction of a print, which stands in front of the other's next one.
  pub record AtLast (n : ℕ) (f : typed.Function) : Type 0 where
    pub code : slice_get (of_function m f).code before ≡ Some (Print ps into o)
    pub at : q.frame.pc ≡ place_of m n f before + j
    pub last : suc j ≡ (row_of m f before (Print ps into o)).size
    pub spare : word_at q.frame.words (pos (spare_place m.adts (types_of m f))) ≡ Found (Refer None)
    pub numbered : number_at kind.Int q.frame.words (pos (number_place m.adts (types_of m f) into)) ≡ Found z

  module _ (next : p.frame.pc ≡ suc before) (none : q.made ≡ []) (holds : slice_get p.frame.slots into ≡ Some (Holds (Num z)))
      (k : Facts) (w : Shared) (x : World) (s : Stands m k i x [] Awaited p q) (is_last : AtLast s.is.number s.is.function)
      (known : slice_get s.is.known into ≡ Some (Of ty.Int [])) (hold : HoldTheSame m k i x p q) (worlds : (sides m).worlds k w x) where
    abbrev f : typed.Function
    f = s.is.function

    abbrev types : List Ty
    types = types_of m f

    abbrev r_at : ℕ
    r_at = reference_place m.adts types into

    abbrev n_at : ℕ
    n_at = number_place m.adts types into

    stands : SlotStands m.adts k x.heap q.frame.serial q.frame.words n_at r_at (Of ty.Int []) (Holds (Num z)) (s.is.words.own into)
    stands = s.is.words.each into (Of ty.Int []) (Holds (Num z)) (λ e. e) known holds

    row : RowStands m s.is.number f before (Print ps into o)
    row = b.row_stands s.is.number f before (Print ps into o) s.is.there is_last.code

    is_there : slice_get (code_of (site_of m s.is.number f before row.at) (Print ps into o)) j ≡ Some (letting r_at)
    is_there =
        let site = site_of m s.is.number f before row.at in
        let same = objects_have.sizes_agree (blank_site m f.of.answer (of_function m f) before) site (Print ps into o)
        (record { scene = refl; answer = refl; told = refl }) in
        last_printed site ps into o j (is_last.last ∙ same)

    reach : Reaches (object_of m ∷ []) x q (object_of m) (letting r_at)
    reach =
        let is = instance_here m b k i w x p q [] s.is hold worlds.0 in
        record {
          object = 0;
          words = is.0;
          instance = is.1;
          code = refl;
          here = ap (slice_get (object_of m).insts) is_last.at ∙ row.insts j (letting r_at) is_there;
        }

    nil_read : source_reference x q nil_word ≡ Found None
    nil_read =
        let instance = instance_here m b k i w x p q [] s.is hold worlds.0 in
        let stands = (instance.2 (placed m 4 ty.Nil (Ref None)) (inr (inl refl))).stands in
        operands_are_read.source_referring x q nil_word instance.0 4 (spots_lead.of_module x q 0 instance.0 4 instance.1).0
        ∙ ap (λ (a : Access Word). a >>= reference) (nil_refers m.adts k instance.0 4 ty.Nil (Ref None) refl stands)

    abbrev others : List Word
    others = with_word q.frame.words r_at (Refer None)

    -- what the frame stands for is the same without what the slot referred to
    module _ (changes : Changes q.frame.words others r_at 4) (sort : AreOf (frame_bytes m.adts types (length p.frame.slots)) (frame_references m.adts types (length p.frame.slots)) others)
        (there : word_at others (pos r_at) ≡ Found (Refer None)) where
      else_as_was : ElseAsWas q.frame.words others n_at 8
      else_as_was = record {
        each = λ w out. elim (low_or_high (4 * w) n_at) [
          | inl low ↦ changes.words w (inl (omega (arith, low)))
          | inr high ↦ elim (low_or_high (4 * w) (n_at + 8)) [
            | inl within ↦ absurd (out (high, within))
            | inr past ↦ changes.words w (inr (omega (arith, past)))
          ]
        ];
      }

      reads : SlotReads m.adts k q.frame.words n_at r_at ty.Int [] (Num z) (s.is.words.own into)
      reads = slots_rest.reads m.adts k x.heap q.frame.serial q.frame.words n_at r_at ty.Int [] (Num z) (s.is.words.own into) stands

      slot_then : SlotStands m.adts k x.heap q.frame.serial others n_at r_at (Of ty.Int []) (Holds (Num z)) []
      slot_then =
          a_value others n_at r_at ty.Int [] (Num z) (
            a_number n_at kind.Int z (ap (λ (a : Access Word). a >>= number_in)
                (word_same q.frame.words others n_at (changes.words (n_at / 4) (inl (omega arith)))) ∙ is_last.numbered) range,
            (None, there, nothing_there),
          )
          (λ a n e. absurd cc)

      busy : (after : WordsAre m.adts k x.heap q.frame.serial (into ∷ []) types s.is.known p.frame.variables p.frame.slots others)
          × (after.own ≡ s.is.words.own)
      busy =
          let owned = (frames_later m.adts k x.heap q.frame.serial [] types s.is.known p.frame.variables p.frame.slots q.frame.words s.is.words).owned in
          slots_change.leaves m.adts k k x.heap x.heap q.frame.serial [] types s.is.known p.frame.variables p.frame.slots q.frame.words others into
          s.is.words (record { facts = λ n f e. e; makers = λ n j e. e; forms = λ n o e. e }) reads.bare else_as_was sort
          (λ u b h. ((owned u b h).0, refl))

      after : WordsAre m.adts k x.heap q.frame.serial [] types s.is.known p.frame.variables p.frame.slots others
      after = record {
        laid = busy.0.laid;
        kind = busy.0.kind;
        values = busy.0.values;
        as_many = busy.0.as_many;
        own = busy.0.own;
        none_past = busy.0.none_past;
        busy_bare = λ s h. absurd h;
        each = λ t h l free e e'. elim (eqb_tells t into) [
          | inl y ↦
              let at = y.1 in
              let a = same_held h (Of ty.Int []) (sym e ∙ (ap (slice_get s.is.known) at ∙ known)) in
              let c = same_slot l (Holds (Num z)) (sym e' ∙ (ap (slice_get p.frame.slots) at ∙ holds)) in
              subst (λ (t : ℕ). SlotStands m.adts k x.heap q.frame.serial others (number_place m.adts types t) (reference_place m.adts types t) h l (busy.0.own t)) (sym at)
              (subst (λ (h : Held). SlotStands m.adts k x.heap q.frame.serial others n_at r_at h l (busy.0.own into)) (sym a)
              (subst (λ (l : core.Slot). SlotStands m.adts k x.heap q.frame.serial others n_at r_at (Of ty.Int []) l (busy.0.own into)) (sym c)
              (subst (λ (own : List ℕ). SlotStands m.adts k x.heap q.frame.serial others n_at r_at (Of ty.Int []) (Holds (Num z)) own)
              (sym (ap (λ (o : ℕ → List ℕ). o into) busy.1 ∙ reads.bare)) slot_then)))
          | inr n ↦ busy.0.each t h l (λ has. elim has [ inl same ↦ n.1 (sym same) | inr h ↦ h ]) e e'
        ];
        single = busy.0.single;
        apart = busy.0.apart;
      }

      abbrev let_be : Process
      let_be = with_frames q (at_pc (with_words q.frame others) (suc q.frame.pc)) q.below q.made

      at_next : suc q.frame.pc ≡ place_of m s.is.number f p.frame.pc
      at_next =
          let at = is_last.at in
          let last = is_last.last in
          let e = ap (λ (o : Option Instr). size_at m f.of.answer (of_function m f) before o) is_last.code in
          subst (λ (pc : ℕ). suc q.frame.pc ≡ place_of m s.is.number f pc) (sym next) (omega (arith, at, last, e))

      pub tidied : Ready m k i x p let_be
      unfolding after
      tidied = record {
        stands = record {
          number = s.number;
          is = record {
            number = s.is.number;
            function = f;
            there = s.is.there;
            code = s.is.code;
            answer = s.is.answer;
            many = s.is.many;
            instance = s.is.instance;
            formed = s.is.formed;
            known = s.is.known;
            words = after;
            mine = λ t c h. s.is.mine t c (subst (λ (o : ℕ → List ℕ). Has (o t) c) busy.1 h);
            fresh = s.is.fresh;
          };
          goes = s.goes;
          waits = all_wait m k i x Awaited p.frame.answer q.frame let_be.frame p.below q.below refl
              (word_same q.frame.words others answer_place (changes.words 4 (inl (omega arith)))) s.waits;
        };
        pc = at_next;
        spare = word_same q.frame.words others (spare_place m.adts types) (changes.words (spare_place m.adts types / 4) (inl (omega arith))) ∙ is_last.spare;
        none_made = none;
      }

    pub tidy_step : Next m b i p 0 k w x q
    tidy_step =
        let lead = spots_lead.own x q r_at in
        let old = (slots_rest.reads m.adts k x.heap q.frame.serial q.frame.words n_at r_at ty.Int [] (Num z) (s.is.words.own into) stands).beside refl in
        let stored = words_move.reference frames_limit (object_of m) x q (letting r_at) None q.frame.words r_at lead.0 old.0 refl nil_read old.1 in
        let step = steps_obey.stores frames_limit (object_of m ∷ []) x q (object_of m) (letting r_at) x lead.0.place others _ reach stored.1 (lead.1 others) in
        let sort = kinds_stay.all (frame_bytes m.adts types (length p.frame.slots)) (frame_references m.adts types (length p.frame.slots)) q.frame.words others
        s.is.words.kind stored.0.changes.many stored.0.changes.refer stored.0.changes.referred
        (stored.0.ranged (λ z e. absurd cc) s.is.words.kind.ranged) in
        let ready = tidied stored.0.changes sort stored.0.there in
        let last = is_last.last in
        let long = long_print (blank_site m f.of.answer (of_function m f) before) ps into o in
        let here = (places_are m).ranked s.is.number f before (Print ps into o) j q s.is.there is_last.code (omega (arith, last)) is_last.at
        ∙ rank_last (row_of m f before (Print ps into o)) j (omega (arith, last, long)) last refl in
        let there = at_row m f s.is.number p.frame.pc s.is.known (let_be stored.0.changes sort stored.0.there) s.is.there s.goes
        (at_next stored.0.changes sort stored.0.there) in
        silent (sides m) (place m) (λ l z r t. Way (sides m) (place m) 0 l i z r t) k k i w x x p q (let_be stored.0.changes sort stored.0.there) step
        (nothing_changes m k i x) worlds (omega (arith, here, there)) (
          ready,
          b.holds_again k i w x p (let_be stored.0.changes sort stored.0.there) ready worlds
              (b.there_again x x q (let_be stored.0.changes sort stored.0.there) step worlds.0.closed (λ n h. hold.same.live n (hold.same.roots n h))),
        )
