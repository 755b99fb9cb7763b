-- A call gives the frame that is made its arguments.
use Rattle.std.proofs.Common.{◌≡◌, ℕ, suc, ◌+◌, ◌-◌, ◌<◌, ◌≤◌, pos, ◌/◌, ◌*◌, Bool, true, false, inl, inr, List, [], ◌∷◌, length, Some}
use Rattle.std.proofs.Common.{None, refl, sym, ap, ◌∙◌, subst, arith}
use Rattle.std.specs.Prelude.{◌⊎◌, slice_get}
use Rattle.std.proofs.lemmas.Option.{same_Some}
use Rattle.process_model.specs.Process.{Went}
use Rattle.dis_isa.specs.declared.inst.Operand.TheVariants as operand
use Rattle.limbo_values.specs.declared.number.Kind.{Kind}
use Rattle.limbo_values.specs.declared.number.Kind.TheVariants.{Int}
use Rattle.system_model.specs.Limits.{frames_limit}
use Rattle.typed_meaning.specs.World as program
use Rattle.slot_code.specs.Code.{Inst, Call, Function, Module}
use Rattle.slot_code.specs.Layout.{end_of}
use Rattle.slot_code.specs.Machine as machine
use Rattle.slot_code.specs.Machine.{Made, taken, entered}
use Rattle.dis_meaning.specs.Words.{Word, InFrame, Found, ◌>>=◌}
use Rattle.dis_meaning.specs.World.{World}
use Rattle.dis_meaning.specs.Process.{Frame, Process, with_words}
use Rattle.dis_meaning.specs.Places.{Own, Far, given_of, spot, behind}
use Rattle.dis_meaning.specs.Step as dis_step
use Rattle.dis_objects.specs.Frames.{Callee, Calls, Room, room_of, made_at, whole, linkage_bytes, block_place, argument_bytes, all_bytes}
use Rattle.dis_objects.specs.Frames.{most_bytes, parameters_of, reference_words, reference_places, is_in}
use Rattle.dis_objects.specs.Code.{Context, place, passed as passed_code, calling, bytes_data, unless_fits, fits_middle, number_middle}
use Rattle.dis_objects.specs.Code.{size}
use Rattle.dis_objects.specs.Code as objects
use Rattle.dis_objects.specs.Objects.{context, object_of}
use Rattle.dis_objects.specs.Proper.{IsProper, ProperInst}
use Rattle.dis_follows.specs.Stands.{Known, StackStands, AllReady, HasNumbers, HasData, Running, Calling, HasArguments, passed, WorldStands}
use Rattle.dis_follows.specs.Paces as paces
use Rattle.dis_follows.proofs.Lookups.{HasAt, Coded}
use Rattle.dis_follows.proofs.Rooms.{whole_least}
use Rattle.dis_follows.proofs.Places.{which}
use Rattle.dis_follows.proofs.Runs.{step_is, is_coded, is_proper, blocks_fit, as_known}
use Rattle.dis_follows.proofs.Operands.{at_data}
use Rattle.dis_follows.proofs.Frames.{get_within}
use Rattle.dis_follows.proofs.Linkage.{get_some, range_get}
use Rattle.dis_follows.proofs.Moved.{PlainFrom, AllPlain, reads, put}
use Rattle.dis_follows.proofs.Zeros.{bytes_aligned, block_aligned}
use Rattle.dis_follows.proofs.Begins.{word_is, moves_words, unmarked}
use Rattle.dis_follows.proofs.Blanks.{IsReference, reference_is}
use Rattle.dis_follows.proofs.Shifted.{behind_take, end_take, reference_aligned}
use Rattle.dis_follows.proofs.Far as far
use Rattle.dis_follows.proofs.Far.{NoneHas}
use Rattle.dis_follows.proofs.Arguments.{has_arguments}
use Rattle.dis_follows.proofs.Advances.{stack_same, rests}
use Rattle.dis_follows.proofs.Paces.{place_is}
use Rattle.dis_follows.proofs.Decided.{Goal}

-- ---- words that are plain

-- What is behind the variables of a running frame.
pub plain_behind : (m : Module) (f : Function) (cs : List Callee) (g : machine.Frame) (words : List Word) → HasNumbers m f cs g words
    → (b n : ℕ)
    → whole (end_of linkage_bytes f.variables) ≤ 4 * b → 4 * b + 4 * n ≤ (room_of m.functions f).size → PlainFrom words b n
plain_behind m f cs g words h b n low high i l =
    let long = h.long in
    let s = get_some words (b + i) (omega (arith, long, high, l)) in
    (s.0, s.1, h.plain (b + i) s.0 s.1 (unmarked f.variables (b + i) (omega (arith, low))))

-- The parameters of a function are numbers, so no reference stands among them.
pub plain_parameters : (m : Module) (f : Function) (g : machine.Frame) (words : List Word) → HasNumbers m f [] g words
    → ((j : ℕ) → j < f.parameters → (i : Kind) × (slice_get f.variables j ≡ Some (Some i)))
    → (n : ℕ) → 4 * n ≤ whole (end_of linkage_bytes (parameters_of (Some f))) - 32 → PlainFrom words 8 n
plain_parameters m f g words h numbers n high i l =
    let long = h.long in
    let a = end_take linkage_bytes f.variables f.parameters in
    let w = whole_least (end_of linkage_bytes f.variables) in
    let s = get_some words (8 + i) (omega (arith, long, high, l, a, w)) in
    (s.0, s.1, h.plain (8 + i) s.0 s.1 free)
  where
    at : (r : IsReference linkage_bytes f.variables (4 * (0 + (8 + i))))
        → (r.number ≡ f.parameters) ⊎ ((r.number < f.parameters) ⊎ (f.parameters < r.number)) → ⊥
    at r (inr (inl less)) =
        let v = numbers r.number less in
        let no : Some (Some v.0) ≡ Some None = sym v.1 ∙ r.is in cc
    at r (inl e) = late r (omega (arith, e))
      where
        late : (r : IsReference linkage_bytes f.variables (4 * (0 + (8 + i)))) → f.parameters ≤ r.number → ⊥
        late r le =
            let d = behind_take linkage_bytes f.variables f.parameters r.number le (get_within f.variables r.number None r.is) in
            let q = reference_aligned linkage_bytes f.variables r.number r.is in
            let p = r.place in omega (arith, d, q, p, high, l)
    at r (inr (inr more)) = late r (omega (arith, more))
      where
        late : (r : IsReference linkage_bytes f.variables (4 * (0 + (8 + i)))) → f.parameters ≤ r.number → ⊥
        late r le =
            let d = behind_take linkage_bytes f.variables f.parameters r.number le (get_within f.variables r.number None r.is) in
            let q = reference_aligned linkage_bytes f.variables r.number r.is in
            let p = r.place in omega (arith, d, q, p, high, l)

    free : slice_get (reference_words f.variables) (8 + i) ≡ Some true → ⊥
    free e =
        let is = range_get (λ w. is_in (4 * w) (reference_places linkage_bytes f.variables)) 0
        (whole (end_of linkage_bytes f.variables) / 4) (8 + i) true e in
        let r = reference_is linkage_bytes f.variables (4 * (0 + (8 + i))) is in
        at r (which r.number f.parameters)

-- ---- serials

pub none_below : (m : Module) (f : Function) (r : Frame) (gs : List machine.Frame) (rs : List Frame) (s : ℕ) → StackStands m f r gs rs
    → r.serial < s → NoneHas s rs
none_below m f r [] [] s h l = tt
none_below m f r (g ∷ gs) (r' ∷ rs) s h l =
    let less = h.3 in
    ((λ e. omega (arith, e, less, l)), none_below m h.0.stands.function r' gs rs s h.4 (omega (arith, less, l)))
none_below m f r [] (r' ∷ rs) s h l = absurd h
none_below m f r (g ∷ gs) [] s h l = absurd h

-- ---- the step

module _ (m : Module) (proper : IsProper m) (k : Known) (number : ℕ) (w : program.World) (x : World) (ws : WorldStands m k w x)
    (p : machine.Process) (r : Process) (n : Frame) (h : Calling m k p r 1 n) (has : HasArguments m h.callee h.number [] n) where
  abbrev H : Running m k p r 1 (n ∷ [])
  H = h.making.running

  abbrev F : Function
  F = H.frame.function

  abbrev C : Context
  C = context m p.frame.function F

  abbrev CS : List Callee
  CS = made_at F.code p.frame.pc

  abbrev R : Room
  R = room_of m.functions F

  abbrev P : ℕ
  P = place C p.frame.pc

  abbrev I : Inst
  I = Call h.kind h.number h.arguments h.into

  count_read : (n at : ℕ) → HasData m ws.words at (bytes_data n) → given_of Int x r (number_middle (fits_middle (pos n)) (pos n) at)
      ≡ Found (pos n)
  count_read n at d = go (fits_middle (pos n)) d
    where
      go : (b : Bool) → HasData m ws.words at (unless_fits b (objects.Word (pos n))) → given_of Int x r (number_middle b (pos n) at)
          ≡ Found (pos n)
      go true d = refl
      go false d = at_data m k w x ws p.frame r F CS H.frame.has H.frame.instance H.frame.first Int at (pos n) d.0

  -- The process when the frame has other words.
  abbrev with_made : List Word → Process
  with_made words = record {
    number = r.number;
    frame = record { serial = r.frame.serial; instance = r.frame.instance; pc = 2 + P; words = r.frame.words };
    below = r.below;
    made = with_words n words ∷ [];
    printing = None;
  }

  abbrev calling_on : (words : List Word) → Calling m k p (with_made words) 2 (with_words n words)
  calling_on words = record {
    making = record {
      running = record {
        loaded = H.loaded;
        number = H.number;
        frame = record {
          function = F;
          found = H.frame.found;
          inst = H.frame.inst;
          there = H.frame.there;
          here = refl;
          instance = H.frame.instance;
          first = H.frame.first;
          has = H.frame.has;
        };
        stack = stack_same m F r.frame _ p.below r.below refl refl H.stack;
        frames = refl;
        fresh = H.fresh;
      };
      made = record { later = h.making.made.later; given = h.making.made.given; instance = h.making.made.instance };
      address = h.making.address;
    };
    kind = h.kind;
    number = h.number;
    arguments = h.arguments;
    into = h.into;
    is = h.is;
    callee = h.callee;
    found = h.found;
    ready = h.ready;
    others = h.others;
    first = h.first;
  }

  pub passes_arguments : Goal m proper k number w x ws p r (dis_step.step frames_limit (object_of m ∷ []) x r)
  passes_arguments =
      let q = (subst (ProperInst m F CS p.frame.pc) h.is (is_proper m proper k w x ws p r 1 (n ∷ []) H)).0 in
      let c = subst (Coded m ws.words C (object_of m).insts P p.frame.pc CS) h.is (is_coded m proper k w x ws p r 1 (n ∷ []) H) in
      let code : HasAt (object_of m).insts P (calling C c.at h.number h.into (Calls h.number ∷ q.others)) =
      subst (λ cs. HasAt (object_of m).insts P (calling C c.at h.number h.into cs)) q.last c.code in
      let constants : HasData m ws.words c.at (bytes_data (argument_bytes m.functions (Calls h.number))) =
      subst (λ cs. HasData m ws.words c.at (objects.passing_data m.functions cs)) q.last c.constants in
      let same : q.function ≡ h.callee = same_Some q.function h.callee (sym q.there ∙ h.found) in
      let takes : h.callee.parameters ≡ h.arguments = ap (λ (f : Function). f.parameters) (sym same) ∙ q.takes in
      let least : h.callee.parameters ≤ length h.callee.variables =
      subst (λ (f : Function). f.parameters ≤ length f.variables) same q.has in
      let numbers = subst (λ (f : Function). (j : ℕ) → j < f.parameters
      → (i : Kind) × (slice_get f.variables j ≡ Some (Some i))) same q.numbers in
      let N = argument_bytes m.functions (Calls h.number) in
      let B = block_place m.functions R q.others in
      let na = bytes_aligned m (Calls h.number) in
      let ba = block_aligned m F q.others in
      let b_is : B ≡ 4 * (B / 4) = omega (arith, ba) in
      let n_is : N ≡ 4 * (N / 4) = omega (arith, na) in
      let bytes : N ≡ whole (end_of linkage_bytes (parameters_of (Some h.callee))) - 32 =
      ap (λ o. whole (end_of linkage_bytes (parameters_of o)) - 32) h.found in
      let fit : all_bytes m.functions (Calls h.number ∷ q.others) ≤ most_bytes m.functions [] F.code =
      subst (λ cs. all_bytes m.functions cs ≤ most_bytes m.functions [] F.code) q.last (blocks_fit m proper k w x ws p r 1 (n ∷ []) H) in
      let rd = reads r.frame.words (B / 4) (N / 4) (plain_behind m F CS p.frame r.frame.words H.frame.has (B / 4) (N / 4)
      (omega (arith, ba))
      (omega (arith, ba, na, fit))) in
      let vs = rd.found in
      let vs_many : N ≡ 4 * length vs = n_is ∙ ap (λ n. 4 * n) (sym rd.many) in
      let vs_plain : AllPlain vs (length vs) = subst (AllPlain vs) (sym rd.many) rd.plain in
      let each : (i : ℕ) → i < length vs → slice_get vs i ≡ slice_get r.frame.words (B / 4 + i) =
      λ i l. let mn = rd.many in rd.each i (omega (arith, l, mn)) in
      let pt = put n.words 8 vs (plain_parameters m h.callee (entered h.number 0 h.callee []) n.words has numbers (length vs)
      (omega (arith, vs_many, bytes)))
      vs_plain in
      let ready : AllReady m r.frame.words R (Calls h.number ∷ q.others) (h.ready ∷ h.others) =
      subst (λ cs. AllReady m r.frame.words R cs (h.ready ∷ h.others)) q.last
      (subst (AllReady m r.frame.words R CS) h.first H.frame.has.made) in
      let gets = has_arguments m h.number h.callee h.found least n.words has r.frame.words B
      (B / 4) b_is h.ready ready.0 vs vs_many each vs_plain pt in
      let gets' = subst (λ j. HasNumbers m h.callee [] (entered h.number 0 h.callee (taken h.ready.arguments 0 j)) pt.after) takes gets in
      let here : 2 + P ≡ suc r.frame.pc = omega (arith, H.frame.here) in
      let own : r.frame.serial ≡ n.serial → ⊥ = λ e. let l = h.making.made.later in omega (arith, e, l) in
      let below = none_below m F r.frame p.below r.below n.serial H.stack h.making.made.later in
      let there : slice_get (object_of m).insts r.frame.pc ≡ Some (passed_code C q.others (Calls h.number) c.at) =
      ap (slice_get (object_of m).insts) (H.frame.here ∙ (let o : 1 + P ≡ suc P = omega arith in o)) ∙ code.1.0 in
      let far_spot : spot x r (operand.IndFp (pos R.made) (pos 32)) ≡ Found (Far (InFrame n.serial) (pos 32)) =
      ap (λ a. a >>= λ w. behind w (pos 32)) h.making.address in
      let steps : dis_step.step frames_limit (object_of m ∷ []) x r ≡ Went x (with_made pt.after) =
      step_is m k w x r (passed_code C q.others (Calls h.number) c.at) _ ws H.frame.instance there
      (moves_words frames_limit (object_of m) x r (operand.Fp (pos B)) (operand.IndFp (pos R.made) (pos 32))
      (number_middle (fits_middle (pos N)) (pos N) c.at)
      (Own (pos B)) (Far (InFrame n.serial) (pos 32)) r.frame.words n.words vs pt.after (B / 4) N 8 _ refl refl
      (word_is B ba) (count_read N c.at constants) na rd.is far_spot (far.made_words x r n H.frames own below (pos 32)) refl pt.is
      (far.made_with x r n H.frames own below (pos 32) pt.after))
      ∙ ap (λ pc. Went x (record {
        number = r.number;
        frame = record { serial = r.frame.serial; instance = r.frame.instance; pc = pc; words = r.frame.words };
        below = r.below;
        made = with_words n pt.after ∷ [];
        printing = None;
      })) (sym here) in
      let r' = with_made pt.after in
      let long : size H.frame.inst ≡ 4 = ap size h.is in
      let first = place_is m r p.frame.function F p.frame.pc H.frame.inst 1 H.frame.found H.frame.there (omega (arith, long)) H.frame.here
      ∙ ap (λ i. paces.rank i r.below 1) there in
      let second = place_is m r' p.frame.function F p.frame.pc H.frame.inst 2 H.frame.found H.frame.there (omega (arith, long)) refl
      ∙ ap (λ i. paces.rank i r.below 2) (ap (slice_get (object_of m).insts) (let o : 2 + P ≡ suc (suc P) = omega arith in o)
      ∙ code.1.1.0) in
      subst (Goal m proper k number w x ws p r) (sym steps)
      (rests m (paces.place m) k number x w p (paces.place m r) k x r' (as_known k)
      (passed (with_words n pt.after) (calling_on pt.after) gets') ws
      (omega (arith, first, second)))
