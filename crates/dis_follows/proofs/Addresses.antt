-- The address of the place for an answer goes to the frame that is made.
use Rattle.std.proofs.Common.{◌≡◌, ℕ, suc, ◌<◌, ◌≤◌, ℤ, pos, ◌%◌, ◌/◌, Bool, true, false, List, [], ◌∷◌, Option, Some, None, refl, sym, ap}
use Rattle.std.proofs.Common.{◌∙◌, arith, if◌then◌else◌}
use Rattle.std.specs.Prelude.{◌==◌, slice_get}
use Rattle.process_model.specs.Process.{Went}
use Rattle.dis_isa.specs.declared.inst.Operand.TheVariants as operand
use Rattle.dis_isa.specs.declared.op.Op.TheVariants as op
use Rattle.limbo_values.specs.declared.number.Kind.{Kind}
use Rattle.limbo_values.specs.declared.number.Kind.TheVariants.{Byte, Int, Big}
use Rattle.system_model.specs.Limits.{frames_limit}
use Rattle.typed_meaning.specs.World as program
use Rattle.slot_code.specs.Code.{Spot, Variable, Global, Temporary, Argument, Function, Module}
use Rattle.slot_code.specs.Machine as machine
use Rattle.dis_meaning.specs.Words.{Word, Address, InFrame, InBlock, Found, Wrong, ◌>>=◌, type_check, or_wrong, number_in}
use Rattle.dis_meaning.specs.Numbers.{nth_number, number_at, joined}
use Rattle.dis_meaning.specs.World.{World}
use Rattle.dis_meaning.specs.Process.{Frame, Process, with_words}
use Rattle.dis_meaning.specs.Places.{Own, Data, Far, data_at, spot, words_at, around, address, behind, store}
use Rattle.dis_meaning.specs.Step as dis_step
use Rattle.dis_meaning.specs.Step.{next}
use Rattle.dis_objects.specs.Frames.{Callee, Room, room_of, made_at, all_bytes, most_bytes}
use Rattle.dis_objects.specs.Code.{Context, spot_kind, place, place_of, answer_to}
use Rattle.dis_objects.specs.Objects.{context, object_of}
use Rattle.dis_objects.specs.Proper.{IsWritten}
use Rattle.dis_follows.specs.Numbers.{Holds}
use Rattle.dis_follows.specs.Stands.{Known, HasNumbers, Making, AnswersTo, address_at, WorldStands}
use Rattle.dis_follows.proofs.Stores.{goes_on}
use Rattle.dis_follows.proofs.Written.{Stored, store_word_over, word_there}
use Rattle.dis_follows.proofs.Operands.{data_are}
use Rattle.dis_follows.proofs.Puts as puts
use Rattle.dis_follows.proofs.Runs.{step_is}
use Rattle.dis_follows.proofs.Far as far
use Rattle.dis_follows.proofs.Passed.{none_below}

-- ---- the word around a number

some_of : {A : Type 0} (o : Option A) (a : A) → or_wrong type_check o ≡ Found a → o ≡ Some a
some_of None a e = absurd cc
some_of (Some b) a e = let same : b ≡ a = cc in ap Some same

word_around : (k : Kind) (ws : List Word) (at : ℕ) (z : ℤ) → number_at k ws (pos at) ≡ Found z
    → (u : Word) × (or_wrong type_check (slice_get ws (at / 4)) ≡ Found u)
word_around Byte ws at z e =
    let g = goes_on (nth_number ws (at / 4)) _ z e in
    let h = goes_on (or_wrong type_check (slice_get ws (at / 4))) number_in g.found g.is in (h.found, h.is)
word_around Int ws at z e = go (at % 4 == 0) e
  where
    go : (b : Bool) → ((if b then Found (at / 4) else Wrong type_check) >>= λ k. or_wrong type_check (slice_get ws k)) >>= number_in
        ≡ Found z
        → (u : Word) × (or_wrong type_check (slice_get ws (at / 4)) ≡ Found u)
    go true e = let h = goes_on (or_wrong type_check (slice_get ws (at / 4))) number_in z e in (h.found, h.is)
    go false e = absurd cc
word_around Big ws at z e = go (at % 4 == 0) e
  where
    go : (b : Bool) → ((if b then Found (at / 4) else Wrong type_check) >>= λ k. nth_number ws k >>= λ high.
        nth_number ws (suc k) >>= λ low.
        Found (joined high low)) ≡ Found z → (u : Word) × (or_wrong type_check (slice_get ws (at / 4)) ≡ Found u)
    go true e =
        let g = goes_on (nth_number ws (at / 4)) _ z e in
        let h = goes_on (or_wrong type_check (slice_get ws (at / 4))) number_in g.found g.is in (h.found, h.is)
    go false e = absurd cc

module _ (m : Module) (k : Known) (w : program.World) (x : World) (ws : WorldStands m k w x) (p : machine.Process)
    (r : Process) (offset : ℕ) (n : Frame) (h : Making m k p r offset n) where
  abbrev F : Function
  F = h.running.frame.function

  abbrev C : Context
  C = context m p.frame.function F

  abbrev R : Room
  R = room_of m.functions F

  -- The process when the frame has other words, and stands further.
  abbrev pub with_made : List Word → (pc : ℕ) → Process
  with_made words pc = record {
    number = r.number;
    frame = record { serial = r.frame.serial; instance = r.frame.instance; pc = pc; words = r.frame.words };
    below = r.below;
    made = with_words n words ∷ [];
    printing = None;
  }

  pub record Answering (into : Spot) : Type 0 where
    pub number : ℤ
    pub stored : Stored Int n.words 16 number
    pub steps : dis_step.step frames_limit (object_of m ∷ []) x r ≡ Went x (with_made stored.after (suc r.frame.pc))
    pub answers : AnswersTo m p r F into (with_words n stored.after)

  module _ (cs : List Callee) (g : machine.Frame) (has : HasNumbers m F cs g r.frame.words) (first : g.instance ≡ 0)
      (fits : all_bytes m.functions cs ≤ most_bytes m.functions [] F.code) where
    abbrev N : Spot → Rattle.dis_meaning.specs.Places.Spot
    N into = puts.named m k w x ws g r F cs has fits h.running.frame.instance first into

    plain : (into : Spot) → Rattle.dis_follows.specs.Numbers.IsPlain (address_at m r.frame.serial (place_of C cs into))
    plain (Variable j y) = tt
    plain (Global j y) = tt
    plain (Temporary j y) = tt
    plain (Argument j y) = tt

    reads : (into : Spot) → number_in (address_at m r.frame.serial (place_of C cs into)) ≡ Found (pos 0)
    reads (Variable j y) = refl
    reads (Global j y) = refl
    reads (Temporary j y) = refl
    reads (Argument j y) = refl

    address_is : (into : Spot) → address r (N into) ≡ address_at m r.frame.serial (place_of C cs into)
    address_is (Variable j y) = refl
    address_is (Global j y) = ap (λ i. Address (InBlock i) (pos (Rattle.dis_objects.specs.Code.global_place m.globals j y)))
        h.running.frame.instance
    address_is (Temporary j y) = refl
    address_is (Argument j y) = refl

    data_there : data_at x r.frame.instance ≡ Found ws.words
    data_there = ap (data_at x) h.running.frame.instance ∙ data_are m k w x ws

    -- The operands of the instruction are found.
    source : (into : Spot) (u : Word)
        → or_wrong type_check (slice_get (puts.words_of m k w x ws g r F cs has fits h.running.frame.instance first into)
        (puts.bytes_of m k w x ws g r F cs has fits h.running.frame.instance first into / 4)) ≡ Found u
        → spot x r (operand.IndFp (pos R.made) (pos 16)) ≡ Found (Far (InFrame n.serial) (pos 16))
        → dis_step.obey frames_limit (object_of m) x r (answer_to C cs into) op.Lea
        ≡ (store x r (Far (InFrame n.serial) (pos 16)) (address r (N into)) >>= λ m. Found (next m))
    source (Variable j y) u e f = own_source _ u e f
      where
        own_source : (at : ℕ) (u : Word) → or_wrong type_check (slice_get r.frame.words (at / 4)) ≡ Found u
            → spot x r (operand.IndFp (pos R.made) (pos 16)) ≡ Found (Far (InFrame n.serial) (pos 16))
            → (or_wrong type_check (slice_get r.frame.words (at / 4)) >>= λ w. spot x r (operand.IndFp (pos R.made) (pos 16)) >>= λ d.
            store x r d (address r (Own (pos at))) >>= λ m. Found (next m))
            ≡ (store x r (Far (InFrame n.serial) (pos 16)) (address r (Own (pos at))) >>= λ m. Found (next m))
        own_source at u e f =
            ap (λ a. a >>= λ w. spot x r (operand.IndFp (pos R.made) (pos 16)) >>= λ d. store x r d (address r (Own (pos at))) >>= λ m.
            Found (next m)) e
            ∙ ap (λ a. a >>= λ d. store x r d (address r (Own (pos at))) >>= λ m. Found (next m)) f
    source (Temporary j y) u e f =
        ap (λ a. a >>= λ w. spot x r (operand.IndFp (pos R.made) (pos 16)) >>= λ d. store x r d (address r (N (Temporary j y))) >>= λ m.
        Found (next m)) e
        ∙ ap (λ a. a >>= λ d. store x r d (address r (N (Temporary j y))) >>= λ m. Found (next m)) f
    source (Argument j y) u e f =
        ap (λ a. a >>= λ w. spot x r (operand.IndFp (pos R.made) (pos 16)) >>= λ d. store x r d (address r (N (Argument j y))) >>= λ m.
        Found (next m)) e
        ∙ ap (λ a. a >>= λ d. store x r d (address r (N (Argument j y))) >>= λ m. Found (next m)) f
    source (Global j y) u e f =
        let at = Rattle.dis_objects.specs.Code.global_place m.globals j y in
        ap (λ a. (a >>= λ words. or_wrong type_check (slice_get words (at / 4))) >>= λ w.
        spot x r (operand.IndFp (pos R.made) (pos 16)) >>= λ d.
        store x r d (address r (N (Global j y))) >>= λ m. Found (next m)) data_there
        ∙ ap (λ a. a >>= λ w. spot x r (operand.IndFp (pos R.made) (pos 16)) >>= λ d. store x r d (address r (N (Global j y))) >>= λ m.
        Found (next m)) e
        ∙ ap (λ a. a >>= λ d. store x r d (address r (N (Global j y))) >>= λ m. Found (next m)) f

    pub answering : made_at F.code (suc p.frame.pc) ≡ cs → (into : Spot) → IsWritten m F cs into
        → ((j : Kind) (i : ℕ) → into ≡ Temporary j i → i < Rattle.dis_objects.specs.Frames.count j F.code)
        → (z : ℤ) → number_at Int n.words (pos 16) ≡ Found z
        → slice_get (object_of m).insts r.frame.pc ≡ Some (answer_to C cs into) → Answering into
    answering on into written few z old there =
        let v = puts.held m k w x ws g r F cs has fits h.running.frame.instance first into written few in
        let u = word_around (spot_kind into) (puts.words_of m k w x ws g r F cs has fits h.running.frame.instance first into)
        (puts.bytes_of m k w x ws g r F cs has fits h.running.frame.instance first into) v.1.number v.1.there in
        let own : r.frame.serial ≡ n.serial → ⊥ = λ e. let l = h.made.later in omega (arith, e, l) in
        let below = none_below m F r.frame p.below r.below n.serial h.running.stack h.made.later in
        let new = address_at m r.frame.serial (place_of C cs into) in
        let s = store_word_over n.words 16 z new (pos 0) old (plain into) (reads into) in
        let far_spot : spot x r (operand.IndFp (pos R.made) (pos 16)) ≡ Found (Far (InFrame n.serial) (pos 16)) =
        ap (λ a. a >>= λ w. behind w (pos 16)) h.address in
        let stores = far.made_stored x r n h.running.frames own below (pos 16) new s.stored.after s.is in
        let kept = word_there n.words s.stored.after 16 new s.is in
        record {
          number = pos 0;
          stored = s.stored;
          steps = step_is m k w x r (answer_to C cs into) _ ws h.running.frame.instance there
              (source into u.0 u.1 far_spot
              ∙ ap (λ a. store x r (Far (InFrame n.serial) (pos 16)) a >>= λ m. Found (next m)) (address_is into)
              ∙ ap (λ a. a >>= λ m. Found (next m)) stores);
          answers = some_of (slice_get s.stored.after 4) new kept
              ∙ ap (λ cs. Some (address_at m r.frame.serial (place_of C cs into))) (sym on);
        }
