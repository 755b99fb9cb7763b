-- The call of a frame that has operands: from then on their slot stands for a tuple of them.
use Rattle.std.proofs.Common.{◌≡◌, ℕ, Bool, false, suc, ◌+◌, List, [], ◌∷◌, Option, Some, None, inl, inr, refl, sym, ap, ◌∙◌, subst, arith}
use Rattle.std.proofs.Common.{if◌then◌else◌}
use Rattle.std.specs.Prelude.{slice_get, nat_eq}
use Rattle.std.proofs.lemmas.Bool.Decides.{eqb_tells}
use Rattle.system_model.specs.Limits.{frames_limit}
use Rattle.heap_model.specs.Facts.{Free, Inner}
use Rattle.limbo_types.specs.Types as ty
use Rattle.limbo_types.specs.Types.{Ty}
use Rattle.limbo_types.specs.View.{tys_of}
use Rattle.limbo_layout.specs.Adts.{Has}
use Rattle.limbo_typed.specs.Typed as typed
use Rattle.limbo_meaning.specs.Process.{Shared}
use Rattle.limbo_meaning.specs.Values.{Value, Parts, row}
use Rattle.core_code.specs.Code.{Instr, Call}
use Rattle.core_code.specs.Machine as code
use Rattle.core_code.specs.Slots as core
use Rattle.core_code.specs.Slots.{Holds, slot_names}
use Rattle.core_follows.proofs.Slots.{put_other}
use Rattle.core_typing.specs.Held as held
use Rattle.core_typing.specs.Held.{Of, Forming}
use Rattle.core_typing.specs.Going.{all_of}
use Rattle.dis_meaning.specs.Words.{Refer}
use Rattle.dis_meaning.specs.Process.{Frame, Process, at_pc}
use Rattle.dis_memory.specs.Blocks.{Record, World}
use Rattle.value_words.specs.Forms.{OwnedBy}
use Rattle.value_words.specs.Facts.{Facts, Grows}
use Rattle.value_words.proofs.Later.{stands_later}
use Rattle.value_frames.specs.Frames.{form_of, number_place, reference_place}
use Rattle.value_frames.specs.Standing.{SlotStands, a_value, WordsAre}
use Rattle.value_frames.specs.Slots.{IsKept}
use Rattle.value_frames.proofs.Slots.{slots_change, put_long}
use Rattle.value_frames.proofs.Later.{frames_later}
use Rattle.value_code.specs.Code.{code_of}
use Rattle.value_code.specs.Objects.{of_function, size_at, base_of}
use Rattle.value_code.proofs.Lists.{get_map}
use Rattle.value_follows.specs.Stands.{types_of, place_of, GoesOn, Awaited, AnswerGoes, Waits, AllWait}
use Rattle.value_follows.specs.Sides.{sides, contents, HoldTheSame, program}
use Rattle.value_follows.specs.Rows.{row_of as code_row, Base, site_of}
use Rattle.value_follows.proofs.Open.{open_there}
use Rattle.value_follows.proofs.Several.{Next}
use Rattle.value_follows.proofs.Standing.{goes_behind}
use Rattle.value_follows.proofs.Waiting.{all_wait_later}
use Rattle.rows_calling.specs.Rows.{FunctionsBegin}
use Rattle.rows_calling.proofs.OnTheWay.{On, row_code, row_here, reaches_it}
use Rattle.rows_calling.proofs.Making.{Called, called_later, Made}
use Rattle.rows_calling.proofs.Calling.{calling, does_call, call_goes_then}
use Rattle.rows_forming.proofs.Gathers.{refers_outside}
use Rattle.rows_forming.proofs.Telling.{told_facts, told, told_grows, told_alike, told_keeps, told_changes}
use Rattle.rows_passing.specs.Rows.{ParametersPass}
use Rattle.rows_passing.proofs.Passing.{IsTogether, together, few, whole}
use Rattle.rows_passing.proofs.Steps.{whole_is}
use Rattle.rows_passing.proofs.Finishing.{callee}

unlike : (a c : ℕ) → (a ≡ c → ⊥) → nat_eq a c ≡ false
unlike a c ne = elim (eqb_tells a c) [ inl y ↦ absurd (ne y.1) | inr y ↦ y.0 ]

module _ (m : typed.Module) (i : ℕ) (p : code.Process) (n : ℕ) (f : typed.Function) (t : Ty) (fn into a : ℕ)
    (here : slice_get p.frame.code p.frame.pc ≡ Some (Call t fn into (Some a))) (b : Base m) (pass : ParametersPass m) (begins : FunctionsBegin m)
    (g : typed.Function) (there : slice_get m.functions fn ≡ Some g) (apart : into ≡ a → ⊥) where
  abbrev pub instr : Instr
  instr = Call t fn into (Some a)

  abbrev pub types : List Ty
  types = types_of m f

  abbrev pub r_at : ℕ
  r_at = reference_place m.adts types a

  abbrev pub n_at : ℕ
  n_at = number_place m.adts types a

  -- the frame that is called, and the one that waits
  abbrev pub called_frame : code.Frame
  called_frame = callee m i p n f t fn into a here b pass g there

  abbrev pub slots_then : core.Slots
  slots_then = core.put p.frame.slots a (Holds (Parts (row (code.operands p.frame.slots (Some a)))))

  abbrev pub waiter : code.Frame
  waiter = code.waiting (code.with_operands [] p (Some a)).frame into

  abbrev pub caller : Process → Frame
  caller q = at_pc q.frame (suc q.frame.pc)

  -- what the other does
  pub calls : (w : Shared)
      → (sides m).program.step w p ≡ does_call m b i p [] n f 0 fn g called_frame waiter refl (begins.goes fn g there) w
  calls w =
      ap (code.next frames_limit (program m) w p) here
      ∙ ap (λ (o : _). code.calls m.adts frames_limit w (code.with_operands [] p (Some a)) t into o (code.operands p.frame.slots (Some a)))
      (get_map (λ (f : typed.Function). of_function m f) m.functions fn g there)

  module _ (k : Facts) (w : Shared) (x : World) (busy : List ℕ) (j : ℕ) (q : Process) (c : Frame) (on : On m k i x busy n f j p q)
      (hold : HoldTheSame m k i x p q) (worlds : (sides m).worlds k w x) (idle : Has busy a → ⊥) where
    abbrev pub s : IsTogether m k i x busy n f j p q on t fn a
    s = together m i p n f t fn into a here k x busy j q on idle

    abbrev tuple : Ty
    tuple = ty.Tuple (tys_of s.us)

    abbrev tuple_value : Value
    tuple_value = whole m i p n f t fn into a here k x busy j q on s

    -- ---- it is told that the record is the tuple's

    pub undecided : k.fact s.box ≡ None
    undecided = open_there (contents m) k w.heap x.heap worlds.0 s.box (Record s.inner) s.own.free s.own.there

    box_has : Has (on.words.own a) s.box
    box_has = subst (λ (bs : List ℕ). Has bs s.box) (sym s.own_is) (inl refl)

    pub outer : (d : ℕ) → Has s.inner (Refer (Some d)) → Inner k d → ⊥
    outer = refers_outside m.adts k tuple s.inner tuple_value s.own.kind s.forming.stands

    pub box_made : k.maker s.box ≡ Some i
    box_made = on.mine a s.box box_has

    abbrev pub facts : Facts
    facts = told_facts m i k w x worlds s.box s.inner s.own.there undecided box_made outer

    pub grows : Grows k facts
    grows = told_grows m i k w x worlds s.box s.inner s.own.there undecided box_made outer

    pub keeps : (d : ℕ) → (d ≡ s.box → ⊥) → Free k d → IsKept facts x.heap x.heap d
    keeps = told_keeps m i k w x worlds s.box s.inner s.own.there undecided box_made outer

    abbrev value_then : Value
    value_then = Parts (row (code.operands p.frame.slots (Some a)))

    value_is : tuple_value ≡ value_then
    value_is =
        whole_is m i p n f t fn into a here b pass g there k x busy j q on s
        ∙ ap (λ (vs : List Value). Parts (row vs)) (sym (ap core.operands_of s.holds))

    value_stands : SlotStands m.adts facts x.heap q.frame.serial q.frame.words n_at r_at (Of tuple s.live) (Holds value_then) []
    value_stands =
        subst (λ (v : Value). SlotStands m.adts facts x.heap q.frame.serial q.frame.words n_at r_at (Of tuple s.live) (Holds v) []) value_is
        (a_value q.frame.words n_at r_at tuple s.live tuple_value (
          s.box,
          s.inner,
          s.own.word,
          record {
            carries = told m i k w x worlds s.box s.inner s.own.there undecided box_made outer;
            kind = s.own.kind;
          },
          stands_later m.adts k facts s.inner grows 0 tuple tuple_value s.forming.stands,
        )
        s.forming.only)

    other_block : (d : ℕ) → (k.form d ≡ Some (OwnedBy q.frame.serial) → ⊥) → d ≡ s.box → ⊥
    other_block d other e = other (ap k.form e ∙ s.own.formed)

    abbrev known_then : held.Slots
    known_then = held.put on.known a (Of tuple s.live)

    -- ---- the frame that waits

    module _ (are : WordsAre m.adts k x.heap q.frame.serial (into ∷ []) types on.known p.frame.variables p.frame.slots q.frame.words)
        (own_so : are.own ≡ on.words.own) where
      was_own : (r d : ℕ) → Has (are.own r) d → Has (on.words.own r) d
      was_own r d h = subst (λ (o : ℕ → List ℕ). Has (o r) d) own_so h

      not_box : (r d : ℕ) → (r ≡ a → ⊥) → Has (are.own r) d → d ≡ s.box → ⊥
      not_box r d ne h e = ne (on.words.apart r a s.box (subst (λ (z : ℕ). Has (on.words.own r) z) e (was_own r d h)) box_has)

      pub record SlotsThen : Type 0 where
        pub words : WordsAre m.adts facts x.heap q.frame.serial (into ∷ []) types known_then p.frame.variables slots_then q.frame.words
        pub owned : (r d : ℕ) → Has (words.own r) d → Has (on.words.own r) d

      pub slots_so : SlotsThen
      slots_so =
          let owned = (frames_later m.adts k x.heap q.frame.serial busy types on.known p.frame.variables p.frame.slots q.frame.words on.words).owned in
          let change = slots_change.slot m.adts k facts x.heap x.heap q.frame.serial (into ∷ []) types on.known p.frame.variables p.frame.slots
          q.frame.words q.frame.words a (Of tuple s.live) (Holds value_then) [] are grows (few m i p n f t fn into a here k x busy j q on)
          (record { each = λ u no. refl }) on.words.kind value_stands tt
          (λ r d ne h. (λ e. e, keeps d (not_box r d ne h) (owned r d (was_own r d h)).0)) in
          let still : held.without a (into ∷ []) ≡ into ∷ [] =
          ap (λ (e : Bool). if e then held.without a [] else into ∷ held.without a []) (unlike a into (λ e. apart (sym e))) in
          go (held.without a (into ∷ [])) still change.after (λ r d h. mine change.after.own r d change.here change.elsewhere h)
        where
          mine : (own : ℕ → List ℕ) (r d : ℕ) → own a ≡ [] → ((u : ℕ) → (u ≡ a → ⊥) → own u ≡ are.own u) → Has (own r) d → Has (on.words.own r) d
          mine own r d e g h = elim (eqb_tells r a) [
            | inl y ↦ absurd (subst (λ (o : List ℕ). Has o d) (ap own y.1 ∙ e) h)
            | inr y ↦ was_own r d (subst (λ (o : List ℕ). Has o d) (g r y.1) h)
          ]

          go : (busy_then : List ℕ) → busy_then ≡ into ∷ []
              → (ws : WordsAre m.adts facts x.heap q.frame.serial busy_then types known_then p.frame.variables slots_then q.frame.words)
              → ((r d : ℕ) → Has (ws.own r) d → Has (on.words.own r) d) → SlotsThen
          go busy_then e =
              subst (λ (l : List ℕ). (ws : WordsAre m.adts facts x.heap q.frame.serial l types known_then p.frame.variables slots_then q.frame.words)
              → ((r d : ℕ) → Has (ws.own r) d → Has (on.words.own r) d) → SlotsThen) (sym e)
              (λ ws mine. record { words = ws; owned = mine })

      module _ (called : Called m k x fn g called_frame c) (has : Made q c) (last : suc j ≡ (code_row m f p.frame.pc instr).size)
          (none : (o : ℕ) → slot_names (core.slot p.frame.slots into) o ≡ 0)
          (goes : (own : ℕ → List ℕ) → ((r d : ℕ) → Has (own r) d → Has (on.words.own r) d)
          → AnswerGoes m facts i x Awaited (form_of t) t (caller q) types into (at_pc c (base_of m fn)) own)
          (is : (at : ℕ) → slice_get (code_of (site_of m n f p.frame.pc at) instr) j ≡ Some (calling m fn)) where
        next_row : place_of m n f (suc p.frame.pc) ≡ place_of m n f p.frame.pc + (code_row m f p.frame.pc instr).size
        next_row =
            let e = ap (λ (o : Option Instr). size_at m f.of.answer (of_function m f) p.frame.pc o) (row_code m k i x busy n f j p q on instr here) in
            omega (arith, e)

        waits_now : Waits m facts i x Awaited waiter (caller q) t (at_pc c (base_of m fn))
        waits_now =
            let so = slots_so in
            let at = on.pc in
            let next = next_row in
            record {
              is = record {
                number = n;
                function = f;
                there = on.there;
                code = on.code;
                answer = on.answer;
                many = put_long p.frame.slots a (Holds value_then) ∙ on.many;
                instance = grows.facts q.frame.instance _ on.instance;
                formed = grows.forms q.frame.instance _ on.formed;
                known = known_then;
                words = so.words;
                mine = λ r d h. grows.makers d i (on.mine r d (so.owned r d h));
                fresh = on.fresh;
              };
              goes = subst (λ (h : held.Held). GoesOn m f (suc p.frame.pc) (held.put (held.put on.known a h) into (Of t (all_of m.adts t))))
                  (ap held.formed s.known_so)
                  (goes_behind m f p.frame.pc on.known instr on.goes (row_code m k i x busy n f j p q on instr here) 0 (suc p.frame.pc)
                  (held.put (held.together on.known (Some a)) into (Of t (all_of m.adts t))) (omega arith) refl);
              pc = omega (arith, at, last, next);
              spare = on.spare;
              answer = goes so.words.own so.owned;
              older = has.newer;
              unnamed = λ o. ap (λ (l : core.Slot). slot_names l o) (put_other p.frame.slots a into (Holds value_then) apart) ∙ none o;
            }

        waits_below_now : AllWait m facts i x Awaited p.frame.answer q.frame p.below q.below
        waits_below_now =
            all_wait_later m k facts i x x q.frame.serial grows (omega arith) (λ d free made other. keeps d (other_block d other) free) Awaited
            p.frame.answer q.frame p.below q.below (omega arith) on.waits

        pub call_now : Next m b i p 0 k w x q
        call_now =
            call_goes_then m b i p busy n f j fn g called_frame waiter refl (begins.goes fn g there) k w x q c on hold worlds called has
            (reaches_it m b i p q busy n f j k w x on hold worlds instr here (calling m fn) (is (row_here m b i p q busy n f j k w x on hold worlds instr here).at))
            (calls w) refl facts (told_changes m i k w x worlds s.box s.inner s.own.there undecided box_made outer)
            (told_alike m i k w x worlds s.box s.inner s.own.there undecided box_made outer)
            (called_later m k i x fn g called_frame c called facts x grows (omega arith)) waits_now waits_below_now
