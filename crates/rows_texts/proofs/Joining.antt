-- One string behind another.
use Rattle.std.proofs.Common.{◌≡◌, ℕ, suc, List, [], ◌∷◌, Some, Result, refl, ap, ◌∙◌, subst, arith}
use Rattle.std.specs.Prelude.{slice_get}
use Rattle.limbo_types.specs.Types as ty
use Rattle.limbo_types.specs.Types.{Ty}
use Rattle.limbo_values.specs.declared.raised.Raised.{Raised}
use Rattle.limbo_values.specs.Texts.{joined}
use Rattle.limbo_typed.specs.Typed as typed
use Rattle.limbo_typed.specs.declared.operation.Operation.TheVariants.{Join}
use Rattle.limbo_meaning.specs.Exceptions.{with_text}
use Rattle.limbo_meaning.specs.Process.{Shared}
use Rattle.limbo_meaning.specs.Trees.{Operate}
use Rattle.limbo_meaning.specs.Values.{text_of}
use Rattle.system_model.specs.Limits.{frames_limit}
use Rattle.core_code.specs.Code.{Instr, Give}
use Rattle.core_code.specs.Machine as code
use Rattle.core_code.specs.Slots as core
use Rattle.core_typing.specs.Needs.{AreThese}
use Rattle.core_typing.specs.Going.{got_by}
use Rattle.dis_isa.specs.declared.inst.Inst.{Inst}
use Rattle.dis_isa.specs.declared.op.Op.TheVariants as op
use Rattle.dis_meaning.specs.Process.{Process}
use Rattle.dis_memory.specs.Blocks.{World}
use Rattle.value_words.specs.Facts.{Facts}
use Rattle.value_frames.specs.Frames.{reference_place}
use Rattle.value_moves.specs.Operands.{inst, own, of_own}
use Rattle.value_code.specs.Objects.{object_of}
use Rattle.block_effects.proofs.Strings.{strings_come}
use Rattle.value_follows.specs.Stands.{types_of}
use Rattle.value_follows.specs.Sides.{sides, HoldTheSame, program}
use Rattle.value_follows.specs.Rows.{Base, InstrGoes}
use Rattle.value_follows.proofs.Standing.{finds, code_here}
use Rattle.value_follows.proofs.Single.{Once}
use Rattle.value_follows.proofs.Arithmetic.{two_slots}
use Rattle.rows_texts.specs.Rows.{JoinsGo}
use Rattle.rows_texts.proofs.OnTheWay.{On, reaches_it}
use Rattle.rows_texts.proofs.Coming.{reference_there}
use Rattle.rows_texts.proofs.Reading.{text_is, reads_text, gives_text}
use Rattle.rows_texts.proofs.Strings.{joined_string}
use Rattle.rows_texts.proofs.Texts.{used, found, rests, next_on, goes_on_behind, one_goes, string_comes, text_results}

module _ (m : typed.Module) (b : Base m) (into a c : ℕ) where
  abbrev instr : Instr
  instr = Give ty.Chars (Operate Join) into (a ∷ c ∷ [])

  module _ (k : Facts) (i : ℕ) (w : Shared) (x : World) (n : ℕ) (f : typed.Function) (p : code.Process) (q : Process)
      (on : On m k i x [] n f 0 p q) (hold : HoldTheSame m k i x p q) (worlds : (sides m).worlds k w x)
      (here : slice_get p.frame.code p.frame.pc ≡ Some instr) where
    abbrev at : ℕ → ℕ
    at s = reference_place m.adts (types_of m f) s

    abbrev it : Inst
    it = inst op.Addc (own (at c)) (of_own (at a)) (own (at into))

    joins : Once m b i p q k w x
    joins =
        let there = used m k i x [] n f 0 p q on instr here in
        let needs = found m k i x [] n f 0 p q on instr here in
        let these = subst (AreThese on.known (a ∷ c ∷ [])) needs.2.0.0 needs.1 in
        let s = text_is m k i x [] n f 0 p q on a there.1.0 (λ e. e) these.0 in
        let t = text_is m k i x [] n f 0 p q on c there.1.1.0 (λ e. e) these.1.0 in
        let rest = rests m k i x n f 0 p q on into there.0 needs.3 in
        let reach = reaches_it m b i p q [] n f 0 k w x on hold worlds instr here it refl in
        let live = got_by m.adts ty.Chars (Operate Join) in
        let next = next_on m k i x [] n f 0 p q on instr here 1 refl refl in
        let goes = goes_on_behind m k i x [] n f 0 p q on instr here 0 (suc p.frame.pc) _ (omega arith) refl in
        let dest = reference_there m b k i w x [] n f 0 p q on hold worlds into there.0 refl rest.0 rest.1 in
        let comes : Result (List ℕ) Raised → code.Does =
        λ r. string_comes m b k i w x [] n f 0 p q on hold worlds into there.0 refl rest.0 rest.1 Join (with_text r) in
        text_results m b k i w x [] n f 0 p q on hold worlds into there.0 refl rest.0 rest.1 it reach live next goes (joined s.chars t.chars)
        (λ both e. joined_string s.chars t.chars both s.string t.string e)
        (λ both e. (strings_come frames_limit (object_of m) x q).join.both (own (at c)) (own (at into)) (of_own (at a)) t.chars s.chars both dest
        (reads_text m k i w x p q hold worlds [] n f 0 on c t) (gives_text m k i w x p q hold worlds [] n f 0 on a s) e)
        (λ raised e. (strings_come frames_limit (object_of m) x q).join.both_raise (own (at c)) (own (at into)) (of_own (at a)) t.chars s.chars raised dest
        (reads_text m k i w x p q hold worlds [] n f 0 on c t) (gives_text m k i w x p q hold worlds [] n f 0 on a s) e)
        Join
        (ap (code.next frames_limit (program m) w p) here
        ∙ ap (λ (v : core.Slot). comes (joined (text_of (core.value_of v)) (text_of (core.value_of (core.slot p.frame.slots c))))) s.holds
        ∙ ap (λ (v : core.Slot). comes (joined s.chars (text_of (core.value_of v)))) t.holds)

joined_goes : (m : typed.Module) (b : Base m) (into a c : ℕ) → InstrGoes m (instr m b into a c)
joined_goes m b into a c k i x p q ready here =
    one_goes m b i p q k x ready (λ now w y on hold worlds.
    joins m b into a c now i w y ready.0.stands.is.number ready.0.stands.is.function p q on hold worlds here)

pub joins_go : JoinsGo
joins_go m b t into from k i x p q ready here =
    let it = Give t (Operate Join) into from in
    let r = ready.0 in
    let known = r.stands.is.known in
    let found = finds m r.stands.is.function p.frame.pc known it r.stands.goes (code_here m k i x p q r it here) in
    let slots = two_slots known from ty.Chars ty.Chars (subst (AreThese known from) found.2.0.0 found.1) in
    joined_goes m b into slots.0 slots.1 k i x p q ready
    (here ∙ ap (λ (u : Ty). Some (Give u (Operate Join) into from)) found.2.0.1
    ∙ ap (λ (rs : List ℕ). Some (Give ty.Chars (Operate Join) into rs)) slots.2)
