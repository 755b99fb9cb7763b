-- Part of a string. The string comes into the slot first, and then the part does; a bound that isn't written is looked up in front.
use Rattle.std.proofs.Common.{◌≡◌, ◌⊎◌, ℕ, ℤ, Bool, true, false, suc, pos, ◌+◌, ◌*◌, ◌/◌, ◌<◌, ◌≤◌, List, [], ◌∷◌, Option, Some, None, refl, sym, ap, ◌∙◌, subst, arith, inl, inr}
use Rattle.std.specs.Prelude.{slice_get}
use Rattle.heap_model.specs.Facts.{chars}
use Rattle.limbo_types.specs.Types as ty
use Rattle.limbo_types.specs.Types.{Ty}
use Rattle.limbo_layout.specs.Adts.{Has}
use Rattle.limbo_values.specs.declared.number.Kind.TheVariants.{Int}
use Rattle.limbo_values.specs.Texts.{slice_in}
use Rattle.limbo_typed.specs.Typed as typed
use Rattle.limbo_typed.specs.declared.operation.Operation.{Operation}
use Rattle.limbo_typed.specs.declared.operation.Operation.TheVariants.{Slice}
use Rattle.limbo_typed.specs.declared.operation.Sequence.TheVariants as sequence
use Rattle.limbo_meaning.specs.Evaluation.{unless_raised, leaves}
use Rattle.limbo_meaning.specs.Exceptions.{Raising, with_text}
use Rattle.limbo_meaning.specs.Operations.{gives_string}
use Rattle.limbo_meaning.specs.Process.{Shared}
use Rattle.limbo_meaning.specs.Trees.{Operate}
use Rattle.limbo_meaning.specs.Values.{Chars}
use Rattle.system_model.specs.Limits.{frames_limit}
use Rattle.core_code.specs.Code.{Instr, Give}
use Rattle.core_code.specs.Machine as code
use Rattle.core_code.specs.Slots as core
use Rattle.core_code.specs.Slots.{Holds}
use Rattle.core_typing.specs.Needs.{IsA}
use Rattle.core_typing.specs.Going.{got_by}
use Rattle.dis_isa.specs.declared.inst.Operand as isa
use Rattle.dis_isa.specs.declared.inst.Operand.TheVariants as operand
use Rattle.dis_isa.specs.declared.inst.Middle.TheVariants as middle
use Rattle.dis_isa.specs.declared.op.Op.TheVariants as op
use Rattle.dis_meaning.specs.Words.{Word, Refer, Access, Found, ◌>>=◌, word_at, number_in}
use Rattle.dis_meaning.specs.Numbers.{number_at}
use Rattle.dis_meaning.specs.Process.{Process}
use Rattle.dis_memory.specs.Blocks.{World}
use Rattle.dis_memory.specs.Places.{source_of}
use Rattle.value_words.proofs.Later.{text_later}
use Rattle.value_words.specs.Facts.{Facts, IsText}
use Rattle.value_frames.specs.Frames.{reference_place}
use Rattle.value_moves.specs.Changing.{Changes}
use Rattle.value_moves.specs.Operands.{inst, own, of_own}
use Rattle.value_moves.proofs.Leading.{spots_lead}
use Rattle.value_roots.specs.Accounts.{Accounted, to_nothing, to_value}
use Rattle.value_code.specs.Objects.{object_of, of_function, size_at}
use Rattle.value_code.specs.Code.{code_of}
use Rattle.number_effects.specs.Giving.{with_word}
use Rattle.number_effects.proofs.Reading.{operands_are_read}
use Rattle.number_effects.proofs.Records.{words_move}
use Rattle.number_effects.proofs.Stepping.{steps_obey}
use Rattle.block_effects.proofs.Giving.{operands_read}
use Rattle.block_effects.proofs.Strings.{strings_come}
use Rattle.value_follows.specs.Stands.{types_of}
use Rattle.value_follows.specs.Sides.{sides, HoldTheSame, program}
use Rattle.value_follows.specs.Rows.{Base, site_of}
use Rattle.value_follows.proofs.Putting.{word_same}
use Rattle.value_follows.proofs.Several.{Next, moved_to}
use Rattle.value_follows.proofs.Single.{Once}
use Rattle.rows_texts.proofs.OnTheWay.{On, row_here, reaches_it, on_way}
use Rattle.rows_texts.proofs.Busy.{busied_referring, nothing_to_lead, busy_alone}
use Rattle.rows_texts.proofs.Coming.{reference_there}
use Rattle.rows_texts.proofs.Passing.{goes_by}
use Rattle.rows_texts.proofs.Strings.{part_string}
use Rattle.rows_texts.proofs.Reading.{is_string, text_is, is_there, text_found}
use Rattle.rows_texts.proofs.Texts.{used, found, rests, next_on, goes_on_behind, text_results}

-- where the first bound stands, if it is written
abbrev pub from_op : Bool → (at : ℕ) → isa.Operand
from_op true at = own at
from_op false at = operand.Imm (pos 0)

abbrev pub FromIs : Bool → (at : ℕ) → List Word → ℤ → Type 0
FromIs true at words z = number_at Int words (pos at) ≡ Found z
FromIs false at words z = pos 0 ≡ z

from_read : (lo : Bool) (at : ℕ) (z : ℤ) (x : World) (q : Process) → FromIs lo at q.frame.words z → source_of Int x q (from_op lo at) ≡ Found z
from_read true at z x q e = (operands_read x q).number Int (own at) q.frame.words at z (spots_lead.own x q at).0 e
from_read false at z x q e = operands_are_read.source_given x q Int (pos 0) ∙ ap (λ (z : ℤ). Found z) e

-- a number elsewhere is as it was
abbrev pub IsApart : (at to : ℕ) → Type 0
IsApart at to = (4 * (at / 4) + 4 ≤ to) ⊎ (to + 4 ≤ 4 * (at / 4))

int_same : (words others : List Word) (at to : ℕ) (z : ℤ) → Changes words others to 4 → IsApart at to → number_at Int words (pos at) ≡ Found z
    → number_at Int others (pos at) ≡ Found z
int_same words others at to z changes apart e =
    ap (λ (a : Access Word). a >>= number_in) (word_same words others at (changes.words (at / 4) apart)) ∙ e

from_same : (lo : Bool) (words others : List Word) (at to : ℕ) (z : ℤ) → Changes words others to 4 → IsApart at to → FromIs lo at words z
    → FromIs lo at others z
from_same true words others at to z changes apart e = int_same words others at to z changes apart e
from_same false words others at to z changes apart e = e

module _ (m : typed.Module) (b : Base m) (lo hi : Bool) (into a : ℕ) (rest : List ℕ) (i : ℕ) (p : code.Process) (n : ℕ) (f : typed.Function) where
  abbrev o : Operation
  o = Slice sequence.Chars lo hi

  abbrev instr : Instr
  instr = Give ty.Chars (Operate o) into (a ∷ rest)

  abbrev at : ℕ
  at = reference_place m.adts (types_of m f) into

  -- what the other comes to
  abbrev pub comes : Shared → Raising (List ℕ) → code.Does
  comes w r =
      code.gives frames_limit (program m) w p into
      (unless_raised (gives_string m.adts (code.memory frames_limit (program m) w p) r)
      (leaves m.adts (code.memory frames_limit (program m) w p) ty.Chars o))

  abbrev pub Does : List ℕ → (from to : ℤ) → Type 0
  Does s from to = (w : Shared) → (sides m).program.step w p ≡ comes w (with_text (slice_in s from to))

  module _ (here : slice_get p.frame.code p.frame.pc ≡ Some instr) (j from_at to_at : ℕ) (s : List ℕ) (from to : ℤ)
      (holds : core.slot p.frame.slots a ≡ Holds (Chars s)) (does : Does s from to)
      (is : (g : ℕ) → slice_get (code_of (site_of m n f p.frame.pc g) instr) (suc j) ≡ Some (inst op.Slicec (from_op lo from_at) (of_own to_at) (own at)))
      (size : size_at m f.of.answer (of_function m f) p.frame.pc (Some instr) ≡ suc (suc j)) where
    -- the slot refers to the string
    last : (k : Facts) (w : Shared) (x : World) (q : Process) → (on : On m k i x (into ∷ []) n f (suc j) p q) → HoldTheSame m k i x p q
        → (sides m).worlds k w x → (r : Option ℕ) → word_at q.frame.words (pos at) ≡ Found (Refer r) → IsText k r s
        → FromIs lo from_at q.frame.words from → number_at Int q.frame.words (pos to_at) ≡ Found to → Once m b i p q k w x
    last k w x q on hold worlds r word text from_is to_is =
        let it = inst op.Slicec (from_op lo from_at) (of_own to_at) (own at) in
        let there = used m k i x (into ∷ []) n f (suc j) p q on instr here in
        let dest = reference_there m b k i w x (into ∷ []) n f (suc j) p q on hold worlds into there.0 (busy_alone into) r word in
        let source = from_read lo from_at from x q from_is in
        let given = (operands_read x q).given Int to_at to to_is in
        let whole = text_found m k i w x p q hold worlds r s text (is_there m k i w x p q hold worlds at r word) in
        text_results m b k i w x (into ∷ []) n f (suc j) p q on hold worlds into there.0 (busy_alone into) r word it
        (reaches_it m b i p q (into ∷ []) n f (suc j) k w x on hold worlds instr here it
        (is (row_here m b i p q (into ∷ []) n f (suc j) k w x on hold worlds instr here).at))
        (got_by m.adts ty.Chars (Operate o))
        (next_on m k i x (into ∷ []) n f (suc j) p q on instr here (suc (suc j)) size refl)
        (goes_on_behind m k i x (into ∷ []) n f (suc j) p q on instr here 0 (suc p.frame.pc) _ (omega arith) refl)
        (slice_in s from to) (λ part e. part_string s from to part (is_string k r s text) e)
        (λ part e. (strings_come frames_limit (object_of m) x q).read.slice (from_op lo from_at) (own at) (of_own to_at) from to s part dest source given whole e)
        (λ raised e. (strings_come frames_limit (object_of m) x q).read.no_slice (from_op lo from_at) (own at) (of_own to_at) from to s raised dest source given whole e)
        o (does w)

    -- the string comes into the slot
    pub whole_comes : (move : (g : ℕ) → slice_get (code_of (site_of m n f p.frame.pc g) instr) j
        ≡ Some (inst op.Movp (own (reference_place m.adts (types_of m f) a)) middle.None (own at)))
        → (k : Facts) (w : Shared) (x : World) (q : Process) → (on : On m k i x [] n f j p q) → HoldTheSame m k i x p q → (sides m).worlds k w x
        → IsApart from_at at → IsApart to_at at → FromIs lo from_at q.frame.words from → number_at Int q.frame.words (pos to_at) ≡ Found to
        → IsA on.known a ty.Chars → Next m b i p 1 k w x q
    whole_comes move k w x q on hold worlds from_apart to_apart from_is to_is operand =
        let it = inst op.Movp (own (reference_place m.adts (types_of m f) a)) middle.None (own at) in
        let there = used m k i x [] n f j p q on instr here in
        let needs = found m k i x [] n f j p q on instr here in
        let t = text_is m k i x [] n f j p q on a there.1.0 (λ e. e) operand in
        let text = subst (IsText k t.refers) (same_chars t.chars (sym t.holds ∙ holds)) t.text in
        let r = t.refers in
        let old = rests m k i x n f j p q on into there.0 needs.3 in
        let lead = spots_lead.own x q at in
        let from_there = reference_place m.adts (types_of m f) a in
        let stores = words_move.reference frames_limit (object_of m) x q it r q.frame.words at lead.0 old.0 refl
        ((operands_read x q).reference (own from_there) q.frame.words from_there r (spots_lead.own x q from_there).0 t.word) old.1 in
        let others = with_word q.frame.words at (Refer r) in
        let changes = stores.0.changes in
        let after = busied_referring m k i x n f j p q on into there.0 needs.3 others changes (stores.0.ranged (λ z e. absurd cc) on.words.kind.ranged) in
        let next = moved_to q (suc q.frame.pc) others in
        let word : word_at others (pos at) ≡ Found (Refer r) = stores.0.there in
        goes_by m b i p n f k w x [] (into ∷ []) j q next on hold worlds instr here refl (subst (λ l. suc j < l) (sym size) (omega arith))
        (steps_obey.stores frames_limit (object_of m ∷ []) x q (object_of m) it x lead.0.place others _
        (reaches_it m b i p q [] n f j k w x on hold worlds instr here it
        (move (row_here m b i p q [] n f j k w x on hold worlds instr here).at)) stores.1 (lead.1 others))
        after
        (λ u h. accounted k x others r word text u h)
        (nothing_to_lead m k i x n f j p q on into there.0 needs.3 next) 1
        (λ hold'. on_way m b i p next (into ∷ []) n f (suc j) 0 k x after hold' (λ now v y grows on' hold'' worlds'.
        last now v y next on' hold'' worlds' r word (text_later m.adts k now others grows r s text) (from_same lo q.frame.words others from_at at from changes from_apart from_is)
        (int_same q.frame.words others to_at at to changes to_apart to_is)))
      where
        same_chars : (t : List ℕ) → Holds (Chars t) ≡ Holds (Chars s) → t ≡ s
        same_chars t e = cc

        same_refer : (r u : Option ℕ) → ◌≡◌ {A = Access Word} (Found (Refer r)) (Found (Refer u)) → r ≡ u
        same_refer r u e = cc

        told : (k : Facts) (x : World) (r : Option ℕ) → IsText k r s → Accounted k i x.heap (code.process_names p) (Refer r)
        told k x None e = to_nothing
        told k x (Some b) e = to_value b (chars s e.0)

        accounted : (k : Facts) (x : World) (others : List Word) (r : Option ℕ) → word_at others (pos at) ≡ Found (Refer r) → IsText k r s
            → (u : ℕ) → Has (into ∷ []) u → (v : Option ℕ) → word_at others (pos (reference_place m.adts (types_of m f) u)) ≡ Found (Refer v)
            → Accounted k i x.heap (code.process_names p) (Refer v)
        accounted k x others r word text u (inl e) v there =
            let here = subst (λ (u : ℕ). word_at others (pos (reference_place m.adts (types_of m f) u)) ≡ Found (Refer v)) (sym e) there in
            subst (λ (v : Option ℕ). Accounted k i x.heap (code.process_names p) (Refer v)) (same_refer r v (sym word ∙ here)) (told k x r text)
        accounted k x others r word text u (inr h) v there = absurd h
