-- The last instruction of such a row: the other process has stepped already, and the spare word refers to nothing again.
use Rattle.std.proofs.Common.{◌≡◌, ℕ, suc, pos, ◌+◌, ◌*◌, ◌/◌, List, [], ◌∷◌, length, Option, Some, None}
use Rattle.std.proofs.Common.{refl, sym, ap, ◌∙◌, subst, arith, inl, inr}
use Rattle.std.specs.Prelude.{slice_get}
use Rattle.process_model.specs.Process.{Went}
use Rattle.process_ways.specs.Ways.{Does, Way}
use Rattle.process_ways.proofs.On.{silent}
use Rattle.system_model.specs.Limits.{frames_limit}
use Rattle.limbo_types.specs.Types as ty
use Rattle.limbo_types.specs.Types.{Ty}
use Rattle.limbo_layout.specs.Adts.{Def, Has}
use Rattle.limbo_typed.specs.Typed as typed
use Rattle.limbo_meaning.specs.Process.{Shared}
use Rattle.limbo_meaning.specs.Values.{Value, Ref}
use Rattle.core_code.specs.Machine as code
use Rattle.dis_isa.specs.declared.inst.Inst.{Inst}
use Rattle.dis_isa.specs.declared.inst.Middle.TheVariants as middle
use Rattle.dis_isa.specs.declared.op.Op.TheVariants as op
use Rattle.dis_meaning.specs.Words.{Word, Refer, Access, Found, ◌>>=◌, word_at, reference}
use Rattle.dis_meaning.specs.Process.{Process, at_pc, with_words, with_frames}
use Rattle.dis_memory.specs.Blocks.{World}
use Rattle.dis_memory.specs.Places.{source_reference}
use Rattle.value_words.specs.Facts.{Facts}
use Rattle.value_words.specs.Stands as memory
use Rattle.value_words.specs.Stands.{a_number, a_text, a_name, an_array, no_words, a_tuple, an_adt}
use Rattle.value_roots.specs.Accounts.{AllAccounted, none, all_words}
use Rattle.value_frames.specs.Frames.{answer_place, spare_place, frame_bytes, frame_references}
use Rattle.value_frames.specs.Types.{AreOf}
use Rattle.value_frames.specs.Slots.{ElseAsWas}
use Rattle.value_frames.proofs.Slots.{slots_change}
use Rattle.value_frames.proofs.Replacing.{kinds_stay}
use Rattle.value_moves.specs.Operands.{inst, own}
use Rattle.value_moves.specs.Spots.{Leads}
use Rattle.value_moves.proofs.Leading.{spots_lead}
use Rattle.value_moves.proofs.Changing.{low_or_high}
use Rattle.value_code.specs.Data.{nil_word}
use Rattle.value_code.specs.Objects.{object_of, placed}
use Rattle.number_effects.specs.Giving.{with_word, StoresWord}
use Rattle.number_effects.specs.Stepping.{Reaches}
use Rattle.number_effects.proofs.Reading.{operands_are_read}
use Rattle.number_effects.proofs.Records.{words_move}
use Rattle.number_effects.proofs.Stepping.{steps_obey}
use Rattle.dis_memory.specs.Step.{obey}
use Rattle.value_follows.specs.Stands.{types_of, place_of, Awaited, FrameIs, Stands, Ready}
use Rattle.value_follows.specs.Sides.{sides, HoldTheSame}
use Rattle.value_follows.specs.Rooted.{PlaceAccounted}
use Rattle.value_follows.specs.Rows.{place, AreThere, Base}
use Rattle.value_follows.proofs.Standing.{all_wait, instance_here}
use Rattle.value_follows.proofs.Putting.{word_same}
use Rattle.value_follows.proofs.Single.{nothing_changes}
use Rattle.rows_dropping.proofs.Steps.{at_row}

-- ---- a word that stands for `nil` refers to nothing

nil_word_refers : (defs : List Def) (k : Facts) (words : List Word) (at : ℕ) (t : Ty) (v : Value) → v ≡ Ref None → memory.Stands defs k words at t v
    → word_at words (pos at) ≡ Found (Refer None)
nil_word_refers defs k words _ _ _ e (a_number at j z f i) = absurd cc
nil_word_refers defs k words _ _ _ e (a_text at r s f i) = absurd cc
nil_word_refers defs k words _ _ _ e (a_name at t None n i f h) = f
nil_word_refers defs k words _ _ _ e (a_name at t (Some b) None i f h) = absurd h
nil_word_refers defs k words _ _ _ e (a_name at t (Some b) (Some n) i f h) = absurd cc
nil_word_refers defs k words _ _ _ e (an_array at t r p f i) = absurd cc
nil_word_refers defs k words _ _ _ e (no_words at) = absurd cc
nil_word_refers defs k words _ _ _ e (a_tuple at ts rs vs l all) = absurd cc
nil_word_refers defs k words _ _ _ e (an_adt at n d rs vs f l all) = absurd cc

module _ (m : typed.Module) (b : Base m) (k : Facts) (i : ℕ) (w : Shared) (x : World) (p : code.Process) (q : Process) (busy : List ℕ)
    (is : FrameIs m k i x busy p.frame q.frame) (hold : HoldTheSame m k i x p q) (worlds : (sides m).worlds k w x) where
  pub nil_read : source_reference x q nil_word ≡ Found None
  nil_read =
      let there = instance_here m b k i w x p q busy is hold worlds.0 in
      operands_are_read.source_referring x q nil_word there.0 4 (spots_lead.of_module x q 0 there.0 4 there.1).0
      ∙ ap (λ (a : Access Word). a >>= reference)
      (nil_word_refers m.adts k there.0 4 ty.Nil (Ref None) refl (there.2 (placed m 4 ty.Nil (Ref None)) (inr (inl refl))).stands)

-- ---- the last instruction

module _ (m : typed.Module) (i : ℕ) (p : code.Process) where
  -- All stands as it does at the next row's begin, but for the spare word, which the next instruction lets refer to nothing.
  pub record Tidies (k : Facts) (x : World) (q : Process) : Type 0 where
    pub stands : Stands m k i x [] Awaited p q
    pub none_made : q.made ≡ []
    pub pc : suc q.frame.pc ≡ place_of m stands.is.number stands.is.function p.frame.pc
    pub refers : (r : Option ℕ) × (word_at q.frame.words (pos (spare_place m.adts (types_of m stands.is.function))) ≡ Found (Refer r))
    pub here : slice_get (object_of m).insts q.frame.pc
        ≡ Some (inst op.Movp nil_word middle.None (own (spare_place m.adts (types_of m stands.is.function))))
    pub low : place m q ≡ 1

  module _ (b : Base m) where
    tidies_later : (k now : Facts) (x y : World) (q : Process) → Tidies k x q → (sides m).leaves i k now x y → HoldTheSame m now i y p q → Tidies now y q
    tidies_later k now x y q s left hold =
        let still = b.stands_later k now i x y [] Awaited p q s.stands left hold in
        let same = sym still.1.function in
        record {
          stands = still.0;
          none_made = s.none_made;
          pc = s.pc ∙ sym (ap (λ n. place_of m n still.0.is.function p.frame.pc) still.1.number
              ∙ ap (λ f. place_of m s.stands.is.number f p.frame.pc) still.1.function);
          refers = (s.refers.0, subst (λ f. word_at q.frame.words (pos (spare_place m.adts (types_of m f))) ≡ Found (Refer s.refers.0)) same s.refers.1);
          here = subst (λ f. slice_get (object_of m).insts q.frame.pc ≡ Some (inst op.Movp nil_word middle.None (own (spare_place m.adts (types_of m f)))))
              same s.here;
          low = s.low;
        }

    module _ (k : Facts) (w : Shared) (x : World) (q : Process) (s : Tidies k x q) (hold : HoldTheSame m k i x p q) (worlds : (sides m).worlds k w x) where
      abbrev is : FrameIs m k i x [] p.frame q.frame
      is = s.stands.is

      abbrev types : List Ty
      types = types_of m is.function

      abbrev spare_at : ℕ
      spare_at = spare_place m.adts types

      abbrev move : Inst
      move = inst op.Movp nil_word middle.None (own spare_at)

      reaches : Reaches (object_of m ∷ []) x q (object_of m) move
      reaches =
          let there = instance_here m b k i w x p q [] is hold worlds.0 in
          record { object = 0; words = there.0; instance = there.1; code = refl; here = s.here }

      abbrev others : List Word
      others = with_word q.frame.words spare_at (Refer None)

      abbrev lead : Leads x q (own spare_at) q.frame.words spare_at
      lead = (spots_lead.own x q spare_at).0

      stores : StoresWord (obey frames_limit (object_of m) x q move op.Movp) x q lead.place q.frame.words spare_at (Refer None)
      stores = words_move.reference frames_limit (object_of m) x q move None q.frame.words spare_at lead s.refers.0 refl
          (nil_read m b k i w x p q [] is hold worlds) s.refers.1

      spare_else : ElseAsWas q.frame.words others spare_at 4
      spare_else = record {
        each = λ u no. elim (low_or_high (4 * u) spare_at) [
          | inl low ↦ stores.0.changes.words u (inl (omega (arith, low)))
          | inr high ↦ elim (low_or_high (4 * u) (spare_at + 4)) [
            | inl within ↦ absurd (no (high, within))
            | inr past ↦ stores.0.changes.words u (inr (omega (arith, past)))
          ]
        ];
      }

      spare_kind : AreOf (frame_bytes m.adts types (length p.frame.slots)) (frame_references m.adts types (length p.frame.slots)) others
      spare_kind =
          kinds_stay.all (frame_bytes m.adts types (length p.frame.slots)) (frame_references m.adts types (length p.frame.slots)) q.frame.words others
          is.words.kind stores.0.changes.many stores.0.changes.refer stores.0.changes.referred
          (stores.0.ranged (λ z e. absurd cc) is.words.kind.ranged)

      abbrev next : Process
      next = with_frames q (at_pc (with_words q.frame others) (suc q.frame.pc)) q.below q.made

      step_is : (sides m).code.step x q ≡ Went x next
      step_is =
          steps_obey.stores frames_limit (object_of m ∷ []) x q (object_of m) move x lead.place others _ reaches stores.1
          ((spots_lead.own x q spare_at).1 others)

      ready_next : Ready m k i x p next
      ready_next =
          let change = slots_change.spare m.adts k x.heap q.frame.serial [] types is.known p.frame.variables p.frame.slots q.frame.words others
          is.words spare_else spare_kind in
          record {
            stands = record {
              number = s.stands.number;
              is = record {
                number = is.number;
                function = is.function;
                there = is.there;
                code = is.code;
                answer = is.answer;
                many = is.many;
                instance = is.instance;
                formed = is.formed;
                known = is.known;
                words = change.0;
                mine = λ u c h. is.mine u c (subst (λ (o : ℕ → List ℕ). Has (o u) c) change.1 h);
                fresh = is.fresh;
              };
              goes = s.stands.goes;
              waits = all_wait m k i x Awaited p.frame.answer q.frame next.frame p.below q.below refl
                  (word_same q.frame.words others answer_place (stores.0.changes.words (answer_place / 4) (inl (omega arith)))) s.stands.waits;
            };
            pc = s.pc;
            spare = stores.0.there;
            none_made = s.none_made;
          }

      tidies_once : Does (sides m) (place m) (λ l z r t. Way (sides m) (place m) 0 l i z r t) (place m q) k i w x p ((sides m).code.step x q)
      tidies_once =
          let low = s.low in
          let high = at_row m is.function is.number p.frame.pc is.known next is.there s.stands.goes s.pc in
          silent (sides m) (place m) (λ l z r t. Way (sides m) (place m) 0 l i z r t) k k i w x x p q next step_is (nothing_changes m k i x) worlds
          (omega (arith, low, high)) (
            ready_next,
            b.holds_again k i w x p next ready_next worlds
                (b.there_again x x q next step_is worlds.0.closed (λ n h. hold.same.live n (hold.same.roots n h))),
          )

    pub tidies_way : (k : Facts) (x : World) (q : Process) → Tidies k x q → HoldTheSame m k i x p q → Way (sides m) (place m) 1 k i x p q
    tidies_way k x q s hold = (hold, λ now y w left h worlds. tidies_once now w y q (tidies_later k now x y q s left h) h worlds)

    -- they hold the same, where what the spare word refers to is accounted for
    pub tidies_hold : (k : Facts) (w : Shared) (x : World) (q : Process) (s : Tidies k x q) → (sides m).worlds k w x → AreThere m x q
        → PlaceAccounted m k i x (code.process_names p) q.frame (spare_place m.adts (types_of m s.stands.is.function)) → HoldTheSame m k i x p q
    tidies_hold k w x q s worlds live spare =
        b.holds_on_way k i w x [] Awaited p q s.stands worlds live
        (record {
          slots = λ u h. absurd h;
          spare = spare;
          made = subst (λ fs. AllAccounted k i x.heap (code.process_names p) (all_words fs)) (sym s.none_made) none;
          answer = tt;
        })
        (λ u c h. absurd h)
