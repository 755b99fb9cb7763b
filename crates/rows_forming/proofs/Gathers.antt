-- The row of a value that is there once its operands are: a jump to the next instruction, where the slot stands for the value.
use Rattle.std.proofs.Common.{◌≡◌, ℕ, suc, ◌+◌, ◌<◌, true, List, [], ◌∷◌, length, Option, Some, None, refl, sym, ap, subst, ◌∙◌}
use Rattle.std.proofs.Common.{arith, inl, inr, ◌*◌, ◌/◌}
use Rattle.std.specs.Prelude.{slice_get}
use Rattle.process_ways.proofs.On.{stepped}
use Rattle.heap_model.specs.Facts.{Free, Inner, IsInner}
use Rattle.limbo_types.specs.Types.{Ty}
use Rattle.limbo_layout.specs.Adts.{Def, Has}
use Rattle.limbo_typed.specs.Typed as typed
use Rattle.limbo_typed.specs.declared.operation.Operation.{Operation}
use Rattle.limbo_meaning.specs.Evaluation.{passes_on}
use Rattle.limbo_meaning.specs.Trees.{Operate}
use Rattle.limbo_meaning.specs.Process.{Shared}
use Rattle.limbo_meaning.specs.Values.{Value, fitted}
use Rattle.limbo_kept.specs.Trees.{WorkIs}
use Rattle.system_model.specs.Limits.{frames_limit}
use Rattle.core_code.specs.Code.{Instr, Gather}
use Rattle.core_code.specs.Machine as code
use Rattle.core_code.specs.Slots as core
use Rattle.core_code.specs.Slots.{Slot, Holds, Forms}
use Rattle.core_code.specs.Terms.{part_numbers, variant_of}
use Rattle.core_typing.specs.Held as held
use Rattle.core_typing.specs.Held.{Held, Of, Forming, live_formed}
use Rattle.core_typing.specs.Needs.{AllStandAs, AreTogether}
use Rattle.dis_meaning.specs.Words.{Word, Refer}
use Rattle.dis_meaning.specs.Process.{Process}
use Rattle.dis_memory.specs.Blocks.{World, Record}
use Rattle.dis_memory.specs.Process.{jumps}
use Rattle.value_words.specs.Forms.{OwnedBy}
use Rattle.value_words.specs.Facts.{Facts, Grows, IsNamed}
use Rattle.value_words.specs.Stands as memory
use Rattle.value_words.proofs.Bytes.{word_there}
use Rattle.value_words.proofs.Covered.{IsCovered, covered}
use Rattle.value_words.proofs.Later.{stands_later}
use Rattle.value_words.proofs.Wholes.{stands_whole}
use Rattle.value_frames.specs.Forming.{begun, formed}
use Rattle.value_frames.specs.Frames.{Boxed, form_of, number_place, reference_place, box_bytes, room_for}
use Rattle.value_frames.specs.Types.{AreOf}
use Rattle.value_frames.specs.Standing.{SlotStands, a_value, ValueStands, IsOwn, IsForming}
use Rattle.value_frames.specs.Slots.{IsKept}
use Rattle.value_frames.proofs.Rest.{slots_rest}
use Rattle.value_frames.proofs.Slots.{slots_change, put_long}
use Rattle.value_frames.proofs.Later.{frames_later}
use Rattle.value_moves.proofs.Changing.{low_or_high}
use Rattle.value_code.specs.Objects.{object_of}
use Rattle.value_code.specs.Works.{jump_to}
use Rattle.number_effects.proofs.Control.{control_goes}
use Rattle.number_effects.proofs.Stepping.{steps_obey}
use Rattle.value_follows.specs.Stands.{scope, types_of, place_of, Ready, GoesOn}
use Rattle.value_follows.proofs.Open.{open_there}
use Rattle.value_follows.specs.Sides.{contents, sides, HoldTheSame, program}
use Rattle.value_follows.specs.Rows.{place, Base}
use Rattle.value_follows.proofs.Standing.{finds, code_here, at_words}
use Rattle.value_follows.proofs.Jumps.{first, behind_it, inside_there}
use Rattle.value_follows.proofs.RootedValues.{stands_laid}
use Rattle.value_follows.proofs.Slots.{slot_is, uses}
use Rattle.value_follows.proofs.Single.{single, Once}
use Rattle.value_follows.proofs.Waiting.{ready_anew}
use Rattle.rows_forming.specs.Rows.{GathersGo}
use Rattle.rows_forming.proofs.Telling.{told_facts, told, told_grows, told_alike, told_keeps, told_changes}
use Rattle.rows_forming.proofs.Works.{value_made, boxed_made}

-- ---- what words refer to that stand for a value is no inner block

module _ (k : Facts) where
  not_inner : (n m : ℕ) → IsNamed k (Some n) (Some m) → Inner k n → ⊥
  not_inner n m (inl e) h = subst IsInner e h
  not_inner n m (inr e) h = subst IsInner e.1.1 h

  pub covered_outer : (ns : List (Option ℕ)) (n : ℕ) → IsCovered k ns n → Inner k n → ⊥
  covered_outer ns n (inl c) h = not_inner n c.0 c.2 h
  covered_outer ns n (inr c) h = subst IsInner c.1.0 h

has_where : (ws : List Word) (v : Word) → Has ws v → (w : ℕ) × (slice_get ws w ≡ Some v)
has_where [] v h = absurd h
has_where (u ∷ ws) v (inl e) = (0, ap (λ (a : Word). Some a) e)
has_where (u ∷ ws) v (inr h) = let w = has_where ws v h in (suc w.0, w.1)

pub refers_outside : (defs : List Def) (k : Facts) (t : Ty) (words : List Word) (v : Value)
    → AreOf (box_bytes defs t) (room_for defs t).references words → memory.Stands defs k words 0 t v
    → (n : ℕ) → Has words (Refer (Some n)) → Inner k n → ⊥
refers_outside defs k t words v kind stands n h =
    let j = has_where words (Refer (Some n)) h in
    let e : (0 + 4 * j.0) / 4 ≡ j.0 = omega arith in
    covered_outer k _ n
    (covered defs k words 0 t (room_for defs t) v (4 * j.0) n (stands_laid defs k words 0 t v stands) stands (kind.only j.0 (Some n) j.1)
    (word_there words (0 + 4 * j.0) (Refer (Some n)) (omega arith) (ap (slice_get words) e ∙ j.1)))

-- ---- the step

same_long : (ws us : List Ty) → AllStandAs ws us → length ws ≡ length us
same_long [] [] a = refl
same_long [] (u ∷ us) a = absurd a
same_long (w ∷ ws) [] a = absurd a
same_long (w ∷ ws) (u ∷ us) a = ap suc (same_long ws us a.1)

module _ (m : typed.Module) (b : Base m) (t : Ty) (o : Operation) (into n : ℕ) (passes : passes_on o ≡ true) (k : Facts) (i : ℕ) (w : Shared) (x : World)
    (p : code.Process) (q : Process) (ready : Ready m k i x p q) (hold : HoldTheSame m k i x p q) (worlds : (sides m).worlds k w x)
    (here : slice_get p.frame.code p.frame.pc ≡ Some (Gather t (Operate o) into (suc n))) where
  -- of a block that the frame has as its own it is open what it stands for
  undecided : (c : ℕ) → Has (ready.stands.is.words.own into) c → k.fact c ≡ None
  undecided c h =
      let is = ready.stands.is in
      let owned = (frames_later m.adts k x.heap q.frame.serial [] (types_of m is.function) is.known p.frame.variables p.frame.slots q.frame.words
      is.words).owned into c h in
      open_there (contents m) k w.heap x.heap worlds.0 c (Record owned.1.0) owned.0 owned.1.1

  abbrev instr : Instr
  instr = Gather t (Operate o) into (suc n)

  abbrev function : typed.Function
  function = ready.stands.is.function

  abbrev known : held.Slots
  known = ready.stands.is.known

  abbrev n_at : ℕ
  n_at = number_place m.adts (types_of m function) into

  abbrev r_at : ℕ
  r_at = reference_place m.adts (types_of m function) into

  few : into < length p.frame.slots
  few = uses m k i x [] p.frame q.frame ready.stands.is p.frame.pc instr (code_here m k i x p q ready instr here)

  -- What is there to be put together.
  record IsThere : Type 0 where
    types : List Ty
    live : List ℕ
    known_so : held.slot known into ≡ Forming t (variant_of m.adts o) (part_numbers m.adts o (suc n)) types live
    form : form_of t ≡ Boxed
    values : List Value
    holds : core.slot p.frame.slots into ≡ Forms values
    box : ℕ
    inner : List Word
    own_is : ready.stands.is.words.own into ≡ box ∷ []
    own : IsOwn m.adts k x.heap q.frame.serial q.frame.words r_at (box_bytes m.adts t) (room_for m.adts t).references box inner
    forming : IsForming m.adts k t (variant_of m.adts o) (part_numbers m.adts o (suc n)) types live values inner
    does : (sides m).program.step w p
        ≡ code.goes_on w p (core.put p.frame.slots into (Holds (formed (begun m.adts t (variant_of m.adts o)) (part_numbers m.adts o (suc n)) values)))

  is_there : IsThere
  is_there =
      let found = finds m function p.frame.pc known instr ready.stands.goes (code_here m k i x p q ready instr here) in
      go found.0 found.1 found.2 (elim found.3 [ inl h ↦ absurd (let z = h.0 in omega (arith, z)) | inr h ↦ h ])
    where
      go : (us : List Ty) → WorkIs (scope m function) t (Operate o) us t → length us ≡ suc n
          → AreTogether (held.slot known into) t (variant_of m.adts o) (part_numbers m.adts o (suc n)) us → IsThere
      go us work long h =
          let own_blocks = ready.stands.is.words.own into in
          let ks = part_numbers m.adts o (suc n) in
          let so : held.slot known into ≡ Forming t (variant_of m.adts o) ks h.0 h.2.0 = h.2.1 in
          let stands = subst (λ (y : Held). SlotStands m.adts k x.heap q.frame.serial q.frame.words n_at r_at y (core.slot p.frame.slots into) own_blocks) so
          (slot_is m k i x [] p.frame q.frame ready.stands.is into few (λ e. e)) in
          let f = slots_rest.is_forming m.adts k x.heap q.frame.serial q.frame.words n_at r_at t (variant_of m.adts o) ks h.0 h.2.0
          (core.slot p.frame.slots into) own_blocks stands in
          let same = same_long h.0 us h.1 in
          let typed_so = f.6.typed in
          let many : length f.0 ≡ suc n = omega (arith, same, typed_so, long) in
          let v : Value = formed (begun m.adts t (variant_of m.adts o)) ks f.0 in
          let laid = stands_laid m.adts k f.3 0 t v f.6.stands in
          let whole = stands_whole m.adts k f.3 0 t v f.6.stands in
          record {
            types = h.0;
            live = h.2.0;
            known_so = so;
            form = boxed_made m.adts t o us passes work.0;
            values = f.0;
            holds = f.1;
            box = f.2;
            inner = f.3;
            own_is = f.4;
            own = f.5;
            forming = f.6;
            does = ap (code.next frames_limit (program m) w p) here
                ∙ subst (λ (j : ℕ). code.does frames_limit (program m) w p (Gather t (Operate o) into (suc n))
                ≡ code.goes_on w p (core.put p.frame.slots into (Holds (formed (begun m.adts t (variant_of m.adts o)) (part_numbers m.adts o j) f.0)))) many
                (value_made m.adts t (room_for m.adts t) o us f.0 passes laid work.0 (omega (arith, long, many))
                (subst (λ (j : ℕ). formed (begun m.adts t (variant_of m.adts o)) (part_numbers m.adts o j) f.0
                ≡ fitted m.adts t (formed (begun m.adts t (variant_of m.adts o)) (part_numbers m.adts o j) f.0)) (sym many) whole)
                frames_limit (program m) refl w p into (suc n) (ap core.operands_of f.1));
          }

  -- ---- from then on the slot stands for the value

  module _ (s : IsThere) where
    abbrev whole : Value
    whole = formed (begun m.adts t (variant_of m.adts o)) (part_numbers m.adts o (suc n)) s.values

    box_own : Has (ready.stands.is.words.own into) s.box
    box_own = subst (λ (bs : List ℕ). Has bs s.box) (sym s.own_is) (inl refl)

    outer : (c : ℕ) → Has s.inner (Refer (Some c)) → Inner k c → ⊥
    outer = refers_outside m.adts k t s.inner whole s.own.kind s.forming.stands

    box_made : k.maker s.box ≡ Some i
    box_made = ready.stands.is.mine into s.box box_own

    abbrev facts : Facts
    facts = told_facts m i k w x worlds s.box s.inner s.own.there (undecided s.box box_own) box_made outer

    grows : Grows k facts
    grows = told_grows m i k w x worlds s.box s.inner s.own.there (undecided s.box box_own) box_made outer

    keeps : (c : ℕ) → (c ≡ s.box → ⊥) → Free k c → IsKept facts x.heap x.heap c
    keeps = told_keeps m i k w x worlds s.box s.inner s.own.there (undecided s.box box_own) box_made outer

    value_stands : SlotStands m.adts facts x.heap q.frame.serial q.frame.words n_at r_at (Of t s.live) (Holds whole) []
    value_stands =
        a_value q.frame.words n_at r_at t s.live whole
        (subst (λ f. ValueStands m.adts facts q.frame.words n_at r_at f t whole) (sym s.form) (
          s.box,
          s.inner,
          s.own.word,
          record {
            carries = told m i k w x worlds s.box s.inner s.own.there (undecided s.box box_own) box_made outer;
            kind = s.own.kind;
          },
          stands_later m.adts k facts s.inner grows 0 t whole s.forming.stands,
        ))
        s.forming.only

    abbrev after_slots : core.Slots
    after_slots = core.put p.frame.slots into (Holds whole)

    abbrev after_known : held.Slots
    after_known = held.put known into (Of t s.live)

    goes_on : GoesOn m function (suc p.frame.pc) after_known
    goes_on =
        subst (λ (h : List ℕ). GoesOn m function (suc p.frame.pc) (held.put known into (Of t h))) (ap live_formed s.known_so)
        (behind_it m b k i w x p q ready hold worlds instr here 0 (suc p.frame.pc) (held.put known into (Of t (live_formed (held.slot known into))))
        (omega arith) refl)

    not_box : (r c : ℕ) → (r ≡ into → ⊥) → Has (ready.stands.is.words.own r) c → c ≡ s.box → ⊥
    not_box r c ne h e =
        ne (ready.stands.is.words.apart r into s.box (subst (λ (d : ℕ). Has (ready.stands.is.words.own r) d) e h) box_own)

    owned : (r c : ℕ) → Has (ready.stands.is.words.own r) c → Free k c
    owned r c h =
        ((frames_later m.adts k x.heap q.frame.serial [] (types_of m function) known p.frame.variables p.frame.slots q.frame.words
        ready.stands.is.words).owned r c h).0

    other_block : (c : ℕ) → (k.form c ≡ Some (OwnedBy q.frame.serial) → ⊥) → c ≡ s.box → ⊥
    other_block c other e = other (ap k.form e ∙ s.own.formed)

    mine : (own : ℕ → List ℕ) (r c : ℕ) → own into ≡ [] → ((u : ℕ) → (u ≡ into → ⊥) → own u ≡ ready.stands.is.words.own u) → Has (own r) c
        → k.maker c ≡ Some i
    mine own r c e g h = elim (low_or_high r into) [
      | inl low ↦ ready.stands.is.mine r c (subst (λ o. Has o c) (g r (λ z. omega (arith, z, low))) h)
      | inr high ↦ elim (low_or_high into r) [
        | inl more ↦ ready.stands.is.mine r c (subst (λ o. Has o c) (g r (λ z. omega (arith, z, more))) h)
        | inr less ↦
            let same : r ≡ into = omega (arith, high, less) in
            absurd (subst (λ o. Has o c) (ap own same ∙ e) h)
      ]
    ]

    abbrev target : ℕ
    target = place_of m ready.stands.is.number function (suc p.frame.pc)

    after_ready : Ready m facts i x (code.with_frames p (code.at p.frame (suc p.frame.pc) p.frame.variables after_slots) p.below)
        (at_words m k i x p q ready target q.frame.words)
    after_ready =
        let are = ready.stands.is.words in
        let after = slots_change.slot m.adts k facts x.heap x.heap q.frame.serial [] (types_of m function) known p.frame.variables p.frame.slots
        q.frame.words q.frame.words into (Of t s.live) (Holds whole) [] are grows few (record { each = λ u no. refl }) are.kind value_stands tt
        (λ r c ne h. (λ e. e, keeps c (not_box r c ne h) (owned r c h))) in
        ready_anew m k facts i x x p q ready grows (omega arith) (λ c free made other. keeps c (other_block c other) free)
        (suc p.frame.pc) target after_known p.frame.variables after_slots q.frame.words (put_long p.frame.slots into (Holds whole)) after.after
        (λ r c h. grows.makers c i (mine after.after.own r c after.here after.elsewhere h))
        goes_on refl refl refl

    same_target : place_of m ready.stands.is.number function (suc p.frame.pc + 0) ≡ target
    same_target =
        let e : suc p.frame.pc + 0 ≡ suc p.frame.pc = omega arith in ap (λ (c : ℕ). place_of m ready.stands.is.number function c) e

    steps : (sides m).code.step x q ≡ jumps x q target
    steps =
        let far = place_of m ready.stands.is.number function (suc p.frame.pc + 0) in
        steps_obey.does frames_limit (object_of m ∷ []) x q (object_of m) (jump_to far) (jumps x q far)
        (first m b k i w x p q ready hold worlds instr here (jump_to far) refl)
        (control_goes.jmp frames_limit (object_of m) x q (jump_to far) far refl refl
        (subst (λ (c : ℕ). c < length (object_of m).insts) (sym same_target)
        (inside_there m b ready.stands.is.number function (suc p.frame.pc) after_known ready.stands.is.there goes_on)))
        ∙ ap (jumps x q) same_target

    gather_steps : Once m b i p q k w x
    gather_steps =
        let r = code.with_frames p (code.at p.frame (suc p.frame.pc) p.frame.variables after_slots) p.below in
        let u = at_words m k i x p q ready target q.frame.words in
        let alike = told_alike m i k w x worlds s.box s.inner s.own.there (undecided s.box box_own) box_made outer in
        stepped (sides m) (place m) (λ l z r t. (sides m).ready l i z r t) k facts i w x x p q u steps
        (told_changes m i k w x worlds s.box s.inner s.own.there (undecided s.box box_own) box_made outer) w r s.does alike (
          after_ready,
          b.holds_again facts i w x r u after_ready alike
              (b.there_again x x q u steps worlds.0.closed (λ c h. hold.same.live c (hold.same.roots c h))),
        )

  pub gather_once : Once m b i p q k w x
  gather_once = gather_steps is_there

-- ---- the row

pub gathers_go : GathersGo
gathers_go m b t o into n passes k i x p q ready here =
    single m b i p q k x ready (λ now w y r hold worlds. gather_once m b t o into n passes now i w y p q r hold worlds here)
