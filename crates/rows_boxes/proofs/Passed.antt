-- A number comes to pass through the linkage of two that are ready, and the row goes on from there.
use Rattle.std.proofs.Common.{◌≡◌, ◌⊎◌, ℕ, ℤ, suc, pos, ◌+◌, ◌*◌, ◌/◌, ◌<◌, ◌≤◌, false, List, [], ◌∷◌, length, Some, refl, sym, ap, subst, ◌∙◌, arith, inl, inr}
use Rattle.std.specs.Prelude.{slice_get, nat_eq, ◌&&◌, Bool, if◌then◌else◌}
use Rattle.process_model.specs.Process.{Went}
use Rattle.limbo_layout.specs.Adts.{Has}
use Rattle.limbo_values.specs.declared.number.Kind.{Kind}
use Rattle.limbo_values.specs.Numbers.{InRange}
use Rattle.limbo_typed.specs.Typed as typed
use Rattle.limbo_typed.specs.Fitting.{of_kind}
use Rattle.limbo_meaning.specs.Process.{Shared}
use Rattle.limbo_meaning.specs.Values.{Num}
use Rattle.system_model.specs.Limits.{frames_limit}
use Rattle.core_code.specs.Code.{Instr}
use Rattle.core_code.specs.Machine as code
use Rattle.core_code.specs.Slots as core
use Rattle.core_code.specs.Slots.{Holds}
use Rattle.core_typing.specs.Held as held
use Rattle.core_typing.specs.Held.{Of}
use Rattle.core_typing.specs.Needs.{IsClean}
use Rattle.dis_isa.specs.declared.inst.Inst.{Inst}
use Rattle.dis_memory.specs.Step.{obey}
use Rattle.dis_meaning.specs.Words.{Word, Found, word_at}
use Rattle.dis_meaning.specs.Numbers.{number_at}
use Rattle.dis_meaning.specs.Process.{Process}
use Rattle.dis_memory.specs.Blocks.{World}
use Rattle.value_words.specs.Contents.{AreInRange}
use Rattle.value_words.specs.Facts.{Facts}
use Rattle.value_frames.specs.Frames.{AsNumber, form_of, answer_place, passing_place, linkage_bytes, spare_place, number_place, frame_bytes, frame_references}
use Rattle.value_frames.specs.Slots.{ElseAsWas}
use Rattle.value_frames.proofs.Replacing.{kinds_stay}
use Rattle.value_frames.proofs.Slots.{slots_change}
use Rattle.value_moves.specs.Changing.{Changes, bytes_in}
use Rattle.value_moves.proofs.Changing.{low_or_high}
use Rattle.value_moves.proofs.Leading.{spots_lead}
use Rattle.value_code.specs.Objects.{object_of, of_function, size_at}
use Rattle.value_code.specs.Code.{Site, code_of}
use Rattle.number_effects.specs.Giving.{after, StoresNumber}
use Rattle.number_effects.proofs.Stepping.{steps_obey}
use Rattle.value_follows.specs.Stands.{types_of, GoesOn, place_of, Awaited, Ready}
use Rattle.value_follows.specs.Sides.{sides, HoldTheSame}
use Rattle.value_follows.specs.Rows.{place, is_tidied, row_of, Base, site_of}
use Rattle.value_follows.proofs.Standing.{stands_on, code_here, at_slots, at_words}
use Rattle.value_follows.proofs.Paces.{places_are}
use Rattle.value_follows.proofs.Putting.{word_same, ready_put}
use Rattle.value_follows.proofs.Single.{Once, both_go, nothing_changes}
use Rattle.value_follows.proofs.Several.{Next, moved_to, several, row_now, reaches_at}
use Rattle.value_follows.proofs.Jumps.{next_place}
use Rattle.rows_boxes.proofs.Starting.{steps_silently, further}

module _ (m : typed.Module) (k : Facts) (i : ℕ) (x : World) (p : code.Process) (q : Process) (r : Ready m k i x p q) (words : List Word) (size : ℕ)
    (few : size ≤ 8) (changes : Changes q.frame.words words passing_place size) (ranged : AreInRange words) where
  passed_stays : (at : ℕ) → (4 * (at / 4) + 4 ≤ passing_place) ⊎ (passing_place + 8 ≤ 4 * (at / 4)) → word_at words (pos at) ≡ word_at q.frame.words (pos at)
  passed_stays at (inl h) = word_same q.frame.words words at (changes.words (at / 4) (inl h))
  passed_stays at (inr h) = word_same q.frame.words words at (changes.words (at / 4) (inr (omega (arith, h, few))))

  else_as_was : ElseAsWas q.frame.words words 0 linkage_bytes
  else_as_was = record {
    each = λ u no. elim (low_or_high (4 * u) linkage_bytes) [
      | inl low ↦ absurd (no (omega arith, low))
      | inr high ↦ changes.words u (inr (omega (arith, high, few)))
    ];
  }

  -- The two are ready with these words, too, in the same function.
  pub record ReadyPassed : Type 0 where
    pub ready : Ready m k i x p (moved_to q q.frame.pc words)
    pub number_is : ready.stands.is.number ≡ r.stands.is.number
    pub function_is : ready.stands.is.function ≡ r.stands.is.function

  pub ready_passed : ReadyPassed
  ready_passed =
      let is = r.stands.is in
      let are = is.words in
      let types = types_of m is.function in
      let kind = kinds_stay.all (frame_bytes m.adts types (length p.frame.slots)) (frame_references m.adts types (length p.frame.slots))
      q.frame.words words are.kind changes.many changes.refer changes.referred ranged in
      let after = slots_change.linkage m.adts k x.heap q.frame.serial [] types is.known p.frame.variables p.frame.slots q.frame.words words are
      else_as_was kind in
      let on = stands_on m k i x [] Awaited p q r.stands [] p.frame.pc q.frame.pc is.known p.frame.variables p.frame.slots words q.made refl after.0
      (λ u c h. is.mine u c (subst (λ (o : ℕ → List ℕ). Has (o u) c) after.1 h)) r.stands.goes (passed_stays answer_place (inl (omega arith))) in
      record {
        ready = record {
          stands = record { number = on.stands.number; is = on.stands.is; goes = on.stands.goes; waits = on.stands.waits };
          pc = r.pc ∙ ap (λ (n : ℕ). place_of m n is.function p.frame.pc) (sym on.number)
              ∙ ap (λ (g : typed.Function). place_of m on.stands.is.number g p.frame.pc) (sym on.function);
          spare = ap (λ (g : typed.Function). word_at words (pos (spare_place m.adts (types_of m g)))) on.function
              ∙ passed_stays (spare_place m.adts types) (inr (omega arith)) ∙ r.spare;
          none_made = r.none_made;
        };
        number_is = on.number;
        function_is = on.function;
      }

-- the process behind that instruction
abbrev pub behind_first : Process → List Word → Process
behind_first q words = moved_to q (q.frame.pc + 1) words

module _ (m : typed.Module) (b : Base m) (k : Facts) (i : ℕ) (w : Shared) (x : World) (p : code.Process) (q : Process) (ready : Ready m k i x p q)
    (hold : HoldTheSame m k i x p q) (worlds : (sides m).worlds k w x) (instr : Instr) (here : slice_get p.frame.code p.frame.pc ≡ Some instr)
    (plain : is_tidied instr ≡ false) where
  abbrev pub site_now : Site
  site_now = site_of m ready.stands.is.number ready.stands.is.function p.frame.pc (row_now m b k i w x p q ready hold worlds instr here).at

  -- The first instruction puts it there, and the way goes on with the two ready so.
  pub passes : (inst : Inst) → slice_get (code_of site_now instr) 0 ≡ Some inst → (words : List Word) (size : ℕ) → size ≤ 8
      → Changes q.frame.words words passing_place size → AreInRange words
      → obey frames_limit (object_of m) x q inst inst.op ≡ after x q (spots_lead.own x q passing_place).0.place words
      → (n : ℕ) → 1 < size_at m ready.stands.is.function.of.answer (of_function m ready.stands.is.function) p.frame.pc (Some instr)
      → ((now : Facts) (v : Shared) (y : World) (s : Ready m now i y p (moved_to q q.frame.pc words)) → s.stands.is.number ≡ ready.stands.is.number
      → HoldTheSame m now i y p (moved_to q q.frame.pc words) → HoldTheSame m now i y p (behind_first q words) → (sides m).worlds now v y
      → Next m b i p n now v y (behind_first q words))
      → Next m b i p (suc n) k w x q
  passes inst is words size few changes ranged obeys n more rest =
      let first = ready_passed m k i x p q ready words size few changes ranged in
      let reach = reaches_at m b k i w x p q ready hold worlds instr here 0 q.frame.words inst is in
      let step : (sides m).code.step x q ≡ Went x (behind_first q words) =
      steps_obey.stores frames_limit (object_of m ∷ []) x q (object_of m) inst x (spots_lead.own x q passing_place).0.place words _
      (record {
        object = reach.object;
        words = reach.words;
        instance = reach.instance;
        code = reach.code;
        here = ap (slice_get (object_of m).insts) (omega arith) ∙ reach.here;
      })
      obeys ((spots_lead.own x q passing_place).1 words)
      ∙ ap (λ (c : ℕ). Went x (moved_to q c words)) (omega arith) in
      let live = b.there_again x x q (behind_first q words) step worlds.0.closed (λ c h. hold.same.live c (hold.same.roots c h)) in
      let held = b.holds_again k i w x p (moved_to q q.frame.pc words) first.ready worlds live in
      let e = ready.pc in
      steps_silently m b i p (suc n) k k w x x q (behind_first q words) step (nothing_changes m k i x) worlds
      (further m b i p ready.stands.is.number ready.stands.is.function instr ready.stands.is.there (code_here m k i x p q ready instr here) plain 0 q
      (behind_first q words) more (omega (arith, e)) (omega (arith, e)))
      (several m b i p (moved_to q q.frame.pc words) (behind_first q words) (λ c. refl) n ready.stands.is.number k x first.ready first.number_is held
      (λ now v y s g h h' z. rest now v y s g h h' z))

  -- how far a process is in the row
  pub rank_there : (j : ℕ) (r : Process) → suc j < size_at m ready.stands.is.function.of.answer (of_function m ready.stands.is.function) p.frame.pc (Some instr)
      → r.frame.pc ≡ q.frame.pc + suc j → place m r ≡ 2 + suc j
  rank_there j r l e =
      let g = ready.pc in
      (places_are m).ranked ready.stands.is.number ready.stands.is.function p.frame.pc instr (suc j) r ready.stands.is.there
      (code_here m k i x p q ready instr here) l (omega (arith, e, g))
      ∙ ap (λ (c : Bool). if c && nat_eq (suc (suc j)) (row_of m ready.stands.is.function p.frame.pc instr).size then 1 else 2 + suc j) plain

  -- the last instruction gives a number to a slot, whose words are these
  pub words_last : (j : ℕ) (inst : Inst) → slice_get (code_of site_now instr) j ≡ Some inst
      → size_at m ready.stands.is.function.of.answer (of_function m ready.stands.is.function) p.frame.pc (Some instr) ≡ suc j
      → HoldTheSame m k i x p (moved_to q (q.frame.pc + j) q.frame.words) → (s : ℕ) (l : s < length p.frame.slots)
      → IsClean (held.slot ready.stands.is.known s) → (d : Kind) → form_of (of_kind d) ≡ AsNumber → (z : ℤ) → InRange d z
      → (live : List ℕ) → GoesOn m ready.stands.is.function (suc p.frame.pc) (held.put ready.stands.is.known s (Of (of_kind d) live))
      → (words : List Word) (bytes : ℕ) → bytes ≤ 4 → Changes q.frame.words words (number_place m.adts (types_of m ready.stands.is.function) s) bytes
      → AreInRange words → number_at d words (pos (number_place m.adts (types_of m ready.stands.is.function) s)) ≡ Found z
      → obey frames_limit (object_of m) x (moved_to q (q.frame.pc + j) q.frame.words) inst inst.op ≡ after x (moved_to q (q.frame.pc + j) q.frame.words)
      (spots_lead.own x (moved_to q (q.frame.pc + j) q.frame.words) (number_place m.adts (types_of m ready.stands.is.function) s)).0.place words
      → (sides m).program.step w p ≡ code.goes_on w p (core.put p.frame.slots s (Holds (Num z)))
      → Once m b i p (moved_to q (q.frame.pc + j) q.frame.words) k w x
  words_last j inst is size holds s l clean d form z range live goes words bytes few changes ranged found obeys does =
      let at = moved_to q (q.frame.pc + j) q.frame.words in
      let to = number_place m.adts (types_of m ready.stands.is.function) s in
      let next = next_place m b k i w x p q ready hold worlds instr here (suc j) size in
      both_go m b i p at k w x holds worlds (at_slots m k i x p q ready (suc p.frame.pc) (core.put p.frame.slots s (Holds (Num z))))
      (at_words m k i x p q ready (suc (q.frame.pc + j)) words)
      (steps_obey.stores frames_limit (object_of m ∷ []) x at (object_of m) inst x (spots_lead.own x at to).0.place words _
      (reaches_at m b k i w x p q ready hold worlds instr here j q.frame.words inst is) obeys ((spots_lead.own x at to).1 words))
      does
      (ready_put m k i x p q ready s l clean words bytes few changes ranged d form z live found range (suc (q.frame.pc + j)) (omega (arith, next)) goes)

  pub number_last : (j : ℕ) (inst : Inst) → slice_get (code_of site_now instr) j ≡ Some inst
      → size_at m ready.stands.is.function.of.answer (of_function m ready.stands.is.function) p.frame.pc (Some instr) ≡ suc j
      → HoldTheSame m k i x p (moved_to q (q.frame.pc + j) q.frame.words) → (s : ℕ) (l : s < length p.frame.slots)
      → IsClean (held.slot ready.stands.is.known s) → (d : Kind) → form_of (of_kind d) ≡ AsNumber → bytes_in d ≤ 4 → (z : ℤ) → InRange d z
      → (live : List ℕ) → GoesOn m ready.stands.is.function (suc p.frame.pc) (held.put ready.stands.is.known s (Of (of_kind d) live))
      → StoresNumber (obey frames_limit (object_of m) x (moved_to q (q.frame.pc + j) q.frame.words) inst inst.op) x (moved_to q (q.frame.pc + j) q.frame.words)
      (spots_lead.own x (moved_to q (q.frame.pc + j) q.frame.words) (number_place m.adts (types_of m ready.stands.is.function) s)).0.place d q.frame.words
      (number_place m.adts (types_of m ready.stands.is.function) s) z
      → (sides m).program.step w p ≡ code.goes_on w p (core.put p.frame.slots s (Holds (Num z)))
      → Once m b i p (moved_to q (q.frame.pc + j) q.frame.words) k w x
  number_last j inst is size holds s l clean d form few z range live goes stored does =
      words_last j inst is size holds s l clean d form z range live goes stored.0.others (bytes_in d) few (stored.0.changes (λ e. range))
      (stored.0.ranged range ready.stands.is.words.kind.ranged) (stored.0.there range) stored.1 does
