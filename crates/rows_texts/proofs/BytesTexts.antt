-- Bytes of an array as a string.
use Rattle.std.proofs.Common.{◌≡◌, ℕ, suc, ◌≤◌, Bool, true, false, if◌then◌else◌, List, [], ◌∷◌, length, map, Option, Some, None, Result, Ok, Err, refl, sym, ap, ◌∙◌, subst, arith, rules}
use Rattle.std.specs.Prelude.{slice_get, nat_lt}
use Rattle.limbo_types.specs.Types as ty
use Rattle.limbo_types.specs.Types.{Ty}
use Rattle.limbo_bytes.specs.Bytes.{characters}
use Rattle.limbo_values.specs.Texts.{longest}
use Rattle.limbo_values.specs.declared.raised.Raised.{Raised}
use Rattle.limbo_values.specs.declared.raised.Raised.TheVariants.{StringTooLong}
use Rattle.limbo_typed.specs.Typed as typed
use Rattle.limbo_typed.specs.declared.operation.Operation.TheVariants.{BytesText}
use Rattle.limbo_meaning.specs.Exceptions.{Raising, with_text, too_long}
use Rattle.limbo_meaning.specs.Operations.{elements_of}
use Rattle.limbo_meaning.specs.Places.{not_longer}
use Rattle.limbo_meaning.specs.Process.{Shared}
use Rattle.limbo_meaning.specs.Trees.{Operate}
use Rattle.limbo_meaning.specs.Values.{Part, part_of}
use Rattle.system_model.specs.Limits.{frames_limit}
use Rattle.core_code.specs.Code.{Instr, Give}
use Rattle.core_code.specs.Machine as code
use Rattle.core_code.specs.Slots as core
use Rattle.core_typing.specs.Needs.{AreThese}
use Rattle.core_typing.specs.Going.{got_by}
use Rattle.dis_isa.specs.declared.inst.Middle.TheVariants as middle
use Rattle.dis_isa.specs.declared.op.Op.TheVariants as op
use Rattle.dis_meaning.specs.Words.{Found}
use Rattle.dis_meaning.specs.Process.{Process}
use Rattle.dis_memory.specs.Blocks.{World}
use Rattle.dis_memory.specs.Kinds.{Elements as ElementsOf, elements_at}
use Rattle.dis_memory.specs.Strings.{bytes_in}
use Rattle.dis_memory.specs.Strings as strings
use Rattle.value_words.specs.Facts.{Facts, IsPart, IsString}
use Rattle.value_frames.specs.Frames.{reference_place}
use Rattle.value_moves.specs.Operands.{inst, own}
use Rattle.value_moves.proofs.Leading.{spots_lead}
use Rattle.value_code.specs.Objects.{object_of}
use Rattle.block_effects.specs.Contents.{IsThere}
use Rattle.block_effects.specs.Stored.{ReadsElements}
use Rattle.block_effects.proofs.Giving.{operands_read}
use Rattle.block_effects.proofs.Strings.{strings_come}
use Rattle.value_follows.specs.Stands.{types_of}
use Rattle.value_follows.specs.Sides.{sides, HoldTheSame, program}
use Rattle.value_follows.specs.Rows.{Base, InstrGoes}
use Rattle.value_follows.proofs.Standing.{finds, code_here}
use Rattle.value_follows.proofs.Single.{Once}
use Rattle.value_follows.proofs.Comparing.{one_slot}
use Rattle.rows_texts.specs.Rows.{BytesTextsGo}
use Rattle.rows_texts.proofs.OnTheWay.{On, reaches_it, on_ready, on_way}
use Rattle.rows_texts.proofs.Arrays.{array_is, lead, byte_of, bytes_read}
use Rattle.rows_texts.proofs.Coming.{reference_there}
use Rattle.rows_texts.proofs.Reading.{is_there}
use Rattle.rows_texts.proofs.Strings.{read_string}
use Rattle.rows_texts.proofs.Texts.{used, found, rests, next_on, goes_on_behind, string_comes, text_results}

-- ---- a string that bytes spell, or that it is too long

-- both sides raise it alike
alike : (s : List ℕ) → not_longer s ≡ with_text (strings.not_longer s)
alike s = go (nat_lt longest (length s))
  where
    go : (b : Bool) → ◌≡◌ {A = Raising (List ℕ)} (if b then Err too_long else Ok s) (with_text (if b then Err StringTooLong else Ok s))
    go true = refl
    go false = refl

same : (t s : List ℕ) → ◌≡◌ {A = Result (List ℕ) Raised} (Ok t) (Ok s) → t ≡ s
same t s e = cc

-- what comes is a string
spelled : (bs s : List ℕ) → strings.not_longer (characters 0 bs) ≡ Ok s → IsString s
spelled bs s e = go (nat_lt longest (length (characters 0 bs))) refl e
  where
    go : (b : Bool) → nat_lt longest (length (characters 0 bs)) ≡ b
        → ◌≡◌ {A = Result (List ℕ) Raised} (if b then Err StringTooLong else Ok (characters 0 bs)) (Ok s) → IsString s
    go true more f = absurd cc
    go false few f = let low : length (characters 0 bs) ≤ longest = search rules in subst IsString (same (characters 0 bs) s f) (read_string bs low)

-- ---- the row

module _ (m : typed.Module) (b : Base m) (into a : ℕ) where
  abbrev instr : Instr
  instr = Give ty.Chars (Operate BytesText) into (a ∷ [])

  module _ (k : Facts) (i : ℕ) (w : Shared) (x : World) (n : ℕ) (f : typed.Function) (p : code.Process) (q : Process)
      (on : On m k i x [] n f 0 p q) (hold : HoldTheSame m k i x p q) (worlds : (sides m).worlds k w x)
      (here : slice_get p.frame.code p.frame.pc ≡ Some instr) where
    abbrev at : ℕ → ℕ
    at s = reference_place m.adts (types_of m f) s

    -- The elements that are read there are those that the other has, as bytes.
    record Told (part : Option Part) (r : Option ℕ) : Type 0 where
      elements : Option ElementsOf
      leads : elements_at x r ≡ Found elements
      read : bytes_in elements ≡ Found (map byte_of (elements_of (code.memory frames_limit (program m) w p) part))

    told : (r : Option ℕ) (part : Option Part) → IsPart k ty.Byte r part → IsThere x r → Told part r
    told r None is there = record { elements = None; leads = (lead m k w x worlds).no_array ty.Byte r is; read = refl }
    told r (Some c) is there =
        let e = (lead m k w x worlds).array ty.Byte r c is there in
        record {
          elements = Some e.0;
          leads = e.1;
          read = bytes_read m k w x c e.0 e.2;
        }

    -- what the slot has of an array
    abbrev part : Option Part
    part = part_of (core.value_of (core.slot p.frame.slots a))

    texts : Once m b i p q k w x
    texts =
        let there = used m k i x [] n f 0 p q on instr here in
        let needs = found m k i x [] n f 0 p q on instr here in
        let these = subst (AreThese on.known (a ∷ [])) needs.2.0.0 needs.1 in
        let y = array_is m k i x [] n f 0 p q on ty.Byte a there.1.0 (λ e. e) these.0 in
        let is = subst (λ (v : core.Slot). IsPart k ty.Byte y.refers (part_of (core.value_of v))) (sym y.holds) y.array in
        let t = told y.refers part is (is_there m k i w x p q hold worlds (at a) y.refers y.word) in
        let bytes = map byte_of (elements_of (code.memory frames_limit (program m) w p) part) in
        let rest = rests m k i x n f 0 p q on into there.0 needs.3 in
        let dest = reference_there m b k i w x [] n f 0 p q on hold worlds into there.0 refl rest.0 rest.1 in
        let it = inst op.Cvtac (own (at a)) middle.None (own (at into)) in
        let read : ReadsElements x q (own (at a)) t.elements =
        (y.refers, (operands_read x q).reference (own (at a)) q.frame.words (at a) y.refers (spots_lead.own x q (at a)).0 y.word, t.leads) in
        text_results m b k i w x [] n f 0 p q on hold worlds into there.0 refl rest.0 rest.1 it
        (reaches_it m b i p q [] n f 0 k w x on hold worlds instr here it refl)
        (got_by m.adts ty.Chars (Operate BytesText))
        (next_on m k i x [] n f 0 p q on instr here 1 refl refl)
        (goes_on_behind m k i x [] n f 0 p q on instr here 0 (suc p.frame.pc) _ (omega arith) refl)
        (strings.not_longer (characters 0 bytes)) (spelled bytes)
        (λ s e. (strings_come frames_limit (object_of m) x q).convert.of_bytes (own (at a)) (own (at into)) middle.None t.elements bytes s dest read t.read e)
        (λ raised e.
        (strings_come frames_limit (object_of m) x q).convert.of_bytes_raises (own (at a)) (own (at into)) middle.None t.elements bytes raised dest read t.read e)
        BytesText
        (ap (code.next frames_limit (program m) w p) here
        ∙ ap (λ (r : Raising (List ℕ)). string_comes m b k i w x [] n f 0 p q on hold worlds into there.0 refl rest.0 rest.1 BytesText r)
        (alike (characters 0 bytes)))

texts_go : (m : typed.Module) (b : Base m) (into a : ℕ) → InstrGoes m (instr m b into a)
texts_go m b into a k i x p q ready here =
    let n = ready.0.stands.is.number in
    let f = ready.0.stands.is.function in (
      0,
      on_way m b i p q [] n f 0 0 k x (on_ready m i p q k x ready.0) ready.1 (λ now w z grows on hold worlds.
          texts m b into a now i w z n f p q on hold worlds here),
    )

pub bytes_texts_go : BytesTextsGo
bytes_texts_go m b t into from k i x p q ready here =
    let it = Give t (Operate BytesText) into from in
    let r = ready.0 in
    let known = r.stands.is.known in
    let found = finds m r.stands.is.function p.frame.pc known it r.stands.goes (code_here m k i x p q r it here) in
    let slot = one_slot known from (ty.ArrayOf ty.Byte) (subst (AreThese known from) found.2.0.0 found.1) in
    texts_go m b into slot.0 k i x p q ready
    (here ∙ ap (λ (u : Ty). Some (Give u (Operate BytesText) into from)) found.2.0.1
    ∙ ap (λ (rs : List ℕ). Some (Give ty.Chars (Operate BytesText) into rs)) slot.1)
