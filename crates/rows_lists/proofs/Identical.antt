-- Whether two references are one.
use Rattle.std.proofs.Common.{◌≡◌, ◌⊎◌, ℕ, ℤ, pos, ◌+◌, Bool, true, false, List, [], ◌∷◌, Option, Some, None, refl, sym, ap, ◌∙◌, subst, inl, inr}
use Rattle.std.specs.Prelude.{slice_get, nat_eq, not}
use Rattle.std.proofs.lemmas.Bool.{eqb-true}
use Rattle.heap_model.specs.Facts.{Named}
use Rattle.limbo_types.specs.Types as ty
use Rattle.limbo_types.specs.Types.{Ty}
use Rattle.limbo_values.specs.declared.number.Kind.TheVariants.{Int}
use Rattle.limbo_values.specs.declared.operator.Comparison.{Comparison}
use Rattle.limbo_values.specs.declared.operator.Comparison.TheVariants as comparison
use Rattle.limbo_values.specs.Operators.{truth}
use Rattle.limbo_values.proofs.Ranges.{within}
use Rattle.limbo_typed.specs.Typed as typed
use Rattle.limbo_typed.specs.Fitting.{IsReference, ComparesTwo, IsRefOf, Gives}
use Rattle.limbo_typed.specs.declared.operation.Operation.{Operation}
use Rattle.limbo_typed.specs.declared.operation.Operation.TheVariants.{Identical, Distinct}
use Rattle.limbo_meaning.specs.Operations.{same_name, same_part, same_reference, other_than}
use Rattle.limbo_meaning.specs.Places.{operand as operand_of}
use Rattle.limbo_meaning.specs.Process.{Shared}
use Rattle.limbo_meaning.specs.Trees.{Operate}
use Rattle.limbo_meaning.specs.Values as value
use Rattle.limbo_meaning.specs.Values.{Value, Num, Ref, Array}
use Rattle.system_model.specs.Limits.{frames_limit}
use Rattle.core_code.specs.Code.{Instr, Give}
use Rattle.core_code.specs.Machine as code
use Rattle.core_code.specs.Slots as core
use Rattle.core_code.specs.Slots.{Slot, Holds}
use Rattle.core_typing.specs.Needs.{AreThese}
use Rattle.core_typing.specs.Going.{MayCompare}
use Rattle.dis_isa.specs.declared.inst.Operand.TheVariants as operand
use Rattle.dis_isa.specs.declared.op.Op.{Op}
use Rattle.dis_isa.specs.declared.op.Op.TheVariants as op
use Rattle.dis_meaning.specs.Words.{Word, Access, Found, ◌>>=◌, reference}
use Rattle.dis_meaning.specs.Numbers.{Branches, number_row}
use Rattle.dis_meaning.specs.Process.{Process}
use Rattle.dis_memory.specs.Blocks.{World}
use Rattle.dis_memory.specs.Numbers as numbers
use Rattle.dis_memory.specs.Numbers.{references_compared}
use Rattle.value_words.specs.Forms.{Form}
use Rattle.value_words.specs.Facts.{Facts, IsName, IsPart}
use Rattle.value_words.proofs.Covered.{same_names}
use Rattle.value_frames.specs.Frames.{reference_place}
use Rattle.value_moves.specs.Operands.{inst, own, of_own}
use Rattle.value_moves.proofs.Leading.{spots_lead}
use Rattle.value_code.specs.Objects.{object_of}
use Rattle.value_code.specs.Operands.{first_slot, second_slot}
use Rattle.number_effects.proofs.Numbers.{numbers_work}
use Rattle.number_effects.proofs.Reading.{operands_are_read}
use Rattle.value_follows.specs.Stands.{Ready, types_of}
use Rattle.value_follows.specs.Sides.{sides, program}
use Rattle.value_follows.specs.Rows.{Base, RowGoes}
use Rattle.value_follows.proofs.Standing.{finds, code_here}
use Rattle.value_follows.proofs.Slots.{uses}
use Rattle.value_follows.proofs.Arithmetic.{two_slots}
use Rattle.value_follows.proofs.Decided.{IsDecided, decided_goes, truth_range}
use Rattle.rows_lists.specs.Rows.{AreComparable, KnownComparable, IdenticalsGo, DistinctsGo}
use Rattle.rows_lists.proofs.Held.{RefersTo, a_named, a_part, RefersIs, refers_is, array_known, name_known}

-- ---- blocks are compared as names are

module _ (k : Facts) where
  same_named : (b c n l : ℕ) → k.fact b ≡ Some (Named n) → k.fact c ≡ Some (Named l) → nat_eq b c ≡ nat_eq n l
  same_named b c n l e f = go (nat_eq b c) refl (nat_eq n l) refl
    where
      go : (g : Bool) → nat_eq b c ≡ g → (h : Bool) → nat_eq n l ≡ h → g ≡ h
      go true u true v = refl
      go false u false v = refl
      go true u false v =
          let blocks : b ≡ c = eqb-true b c u in
          let facts : Some (Named n) ≡ Some (Named l) = sym e ∙ ap k.fact blocks ∙ f in
          let names : n ≡ l = cc in
          absurd (let t : nat_eq n l ≡ true = ap (nat_eq n) (sym names) ∙ same_names n in cc)
      go false u true v =
          let names : n ≡ l = eqb-true n l v in
          let blocks : b ≡ c = k.once n b c e (f ∙ ap (λ (a : ℕ). Some (Named a)) (sym names)) in
          absurd (let t : nat_eq b c ≡ true = ap (nat_eq b) (sym blocks) ∙ same_names b in cc)

  names_compared : (asked wanted : Option Form) (r s n l : Option ℕ) → IsName k asked r n → IsName k wanted s l
      → numbers.same_reference r s ≡ same_name n l
  names_compared asked wanted None None None None i j = refl
  names_compared asked wanted (Some b) s None l i j = absurd i
  names_compared asked wanted None s (Some n) l i j = absurd i
  names_compared asked wanted r (Some c) n None i j = absurd j
  names_compared asked wanted r None n (Some l) i j = absurd j
  names_compared asked wanted None (Some c) None (Some l) i j = refl
  names_compared asked wanted (Some b) None (Some n) None i j = refl
  names_compared None wanted (Some b) (Some c) (Some n) (Some l) i j = absurd i
  names_compared (Some f) None (Some b) (Some c) (Some n) (Some l) i j = absurd j
  names_compared (Some f) (Some g) (Some b) (Some c) (Some n) (Some l) i j = same_named b c n l i.fact j.fact

  parts_compared : (t u : Ty) (r s : Option ℕ) (p o : Option value.Part) → IsPart k t r p → IsPart k u s o → AreComparable (Array p) (Array o)
      → numbers.same_reference r s ≡ same_part p o
  parts_compared t u None None None None i j c = refl
  parts_compared t u (Some b) s None o i j c = absurd i
  parts_compared t u None s (Some p) o i j c = absurd i
  parts_compared t u r (Some b) p None i j c = absurd j
  parts_compared t u r None p (Some o) i j c = absurd j
  parts_compared t u None (Some b) None (Some o) i j c = refl
  parts_compared t u (Some b) None (Some p) None i j c = refl
  parts_compared t u (Some b) (Some d) (Some p) (Some o) i j c = absurd c

  pub references_same : (v u : Value) (r s : Option ℕ) → RefersTo k v r → RefersTo k u s → AreComparable v u
      → numbers.same_reference r s ≡ same_reference v u
  references_same _ _ _ _ (a_named f r n i) (a_named g s l j) c = names_compared f g r s n l i j
  references_same _ _ _ _ (a_named f r n i) (a_part u s p j) c = absurd c
  references_same _ _ _ _ (a_part t r None i) (a_named g s l j) c = absurd c
  references_same _ _ _ _ (a_part t r (Some p) i) (a_named g s l j) c = absurd c
  references_same _ _ _ _ (a_part t r p i) (a_part u s o j) c = parts_compared t u r s p o i j c

same_value : (l : Slot) (v u : Value) → l ≡ Holds v → l ≡ Holds u → v ≡ u
same_value l v u e f = cc

-- ---- two references of types that compare

two_refer : (us : List Ty) (t : Ty) → ComparesTwo us t → (v : Ty) × (u : Ty) × (us ≡ v ∷ u ∷ []) × IsReference v × IsReference u × (t ≡ ty.Int)
two_refer [] t c = absurd c
two_refer (v ∷ []) t c = absurd c
two_refer (v ∷ u ∷ w ∷ ws) t c = absurd c
two_refer (v ∷ u ∷ []) t (i, inl e, r) = (v, u, refl, i, subst IsReference e i, r)
two_refer (v ∷ u ∷ []) t (i, inr (n, a, d), r) = (v, u, refl, i, refers_so n u d, r)
  where
    refers_so : (n : ℕ) (u : Ty) → IsRefOf n u → IsReference u
    refers_so n (ty.RefAdt l) d = tt
    refers_so n (ty.RefPick l j) d = tt
    refers_so n u d = absurd d

module _ (m : typed.Module) (b : Base m) (o : Operation) (code_op : Op) (c : Comparison) (turned : Bool → Bool) (into a d : ℕ)
    (gives : (us : List Ty) (t : Ty) → Gives m.adts o us t → ComparesTwo us t)
    (row : IsDecided (Give ty.Int (Operate o) into (a ∷ d ∷ [])) into code_op (λ place. own (place a + 4)) (λ place. of_own (place d + 4)))
    (op_row : number_row code_op ≡ Some (Branches Int c))
    (compares : (r s : Option ℕ) → references_compared c r s ≡ Found (turned (numbers.same_reference r s))) where
  abbrev compare : Instr
  compare = Give ty.Int (Operate o) into (a ∷ d ∷ [])

  module _ (i : ℕ) (p : code.Process) (q : Process) (here : slice_get p.frame.code p.frame.pc ≡ Some compare) where
    -- both slots have references
    both : (k : Facts) (x : World) (r : Ready m k i x p q) → RefersIs m k i x [] p.frame q.frame r.stands.is a × RefersIs m k i x [] p.frame q.frame r.stands.is d
    both k x r =
        let is = r.stands.is in
        let code = code_here m k i x p q r compare here in
        let found = finds m is.function p.frame.pc is.known compare r.stands.goes code in
        let two = two_refer found.0 ty.Int (gives found.0 ty.Int found.2.0) in
        let these = subst (AreThese is.known (a ∷ d ∷ [])) two.2 found.1 in
        let named = uses m k i x [] p.frame q.frame is p.frame.pc compare code in (
          refers_is m k i x [] p.frame q.frame is two.0 a two.3 named.1.0 (λ e. e) these.0,
          refers_is m k i x [] p.frame q.frame is two.1 d two.4 named.1.1.0 (λ e. e) these.1.0,
        )

    pub goes_compared : (k : Facts) (x : World) (ready : (sides m).ready k i x p q)
        → AreComparable (core.value_of (core.slot p.frame.slots a)) (core.value_of (core.slot p.frame.slots d))
        → ((w : Shared) (v u : Value) → core.slot p.frame.slots a ≡ Holds v → core.slot p.frame.slots d ≡ Holds u
        → (sides m).program.step w p ≡ code.goes_on w p (core.put p.frame.slots into (Holds (Num (truth (turned (same_reference v u)))))))
        → RowGoes m k i x p q
    goes_compared k x ready comparable does =
        let first = both k x ready.0 in
        let v = first.0.value_there in
        let u = first.1.value_there in
        decided_goes m b compare into code_op (λ place. own (place a + 4)) (λ place. of_own (place d + 4)) row i p q here
        ready.0.stands.is.number (turned (same_reference v u)) k x ready refl
        (λ now y s target l.
        let now_both = both now y s in
        let at_first = reference_place m.adts (types_of m s.stands.is.function) a in
        let at_second = reference_place m.adts (types_of m s.stands.is.function) d in
        let same_first = same_value (core.slot p.frame.slots a) now_both.0.value_there v now_both.0.holds first.0.holds in
        let same_second = same_value (core.slot p.frame.slots d) now_both.1.value_there u now_both.1.holds first.1.holds in
        let so = subst (λ (f : Slot). AreComparable (core.value_of f) now_both.1.value_there) now_both.0.holds
        (subst (λ (f : Slot). AreComparable (core.value_of (core.slot p.frame.slots a)) (core.value_of f)) now_both.1.holds comparable) in
        numbers_work.references frames_limit (object_of m) y q (inst code_op (own at_first) (of_own at_second) (operand.Imm (pos target))) c
        now_both.0.refers now_both.1.refers (turned (same_reference v u)) target op_row
        (operands_are_read.source_referring y q (own at_first) q.frame.words at_first (spots_lead.own y q at_first).0
        ∙ ap (λ (g : Access Word). g >>= reference) now_both.0.word)
        (operands_are_read.own_reference y q at_second ∙ ap (λ (g : Access Word). g >>= reference) now_both.1.word)
        (compares now_both.0.refers now_both.1.refers
        ∙ ap (λ (h : Bool). Found (turned h))
        (references_same now now_both.0.value_there now_both.1.value_there now_both.0.refers now_both.1.refers now_both.0.to now_both.1.to so
        ∙ ap (λ (f : Value). same_reference f now_both.1.value_there) same_first
        ∙ ap (λ (f : Value). same_reference v f) same_second))
        refl l)
        (λ w. does w v u first.0.holds first.1.holds)

-- ---- the two operations

not_other : (b : Bool) → not b ≡ other_than b
not_other true = refl
not_other false = refl

identical_of : (m : typed.Module) (b : Base m) (into a d : ℕ) (k : Facts) (i : ℕ) (x : World) (p : code.Process) (q : Process)
    → (sides m).ready k i x p q → slice_get p.frame.code p.frame.pc ≡ Some (Give ty.Int (Operate Identical) into (a ∷ d ∷ []))
    → AreComparable (core.value_of (core.slot p.frame.slots a)) (core.value_of (core.slot p.frame.slots d)) → RowGoes m k i x p q
identical_of m b into a d k i x p q ready here comparable =
    goes_compared m b Identical op.Beqw comparison.Equal (λ h. h) into a d (λ us t g. g)
    (record { uses = λ n u. u.0; clean = λ s t slots f. f.3; behind = λ defs pc slots. refl; code = λ c. refl; plain = refl })
    refl (λ r s. refl) i p q here k x ready comparable
    (λ w v u e f.
    ap (code.next frames_limit (program m) w p) here
    ∙ ap (λ (l : Slot). code.goes_on w p (core.put p.frame.slots into
    (Holds (value.fitted m.adts ty.Int (Num (truth (same_reference (core.value_of l) (core.value_of (core.slot p.frame.slots d))))))))) e
    ∙ ap (λ (l : Slot). code.goes_on w p (core.put p.frame.slots into
    (Holds (value.fitted m.adts ty.Int (Num (truth (same_reference v (core.value_of l)))))))) f
    ∙ ap (λ (n : ℤ). code.goes_on w p (core.put p.frame.slots into (Holds (Num n))))
    (within Int (truth (same_reference v u)) (truth_range (same_reference v u))))

distinct_of : (m : typed.Module) (b : Base m) (into a d : ℕ) (k : Facts) (i : ℕ) (x : World) (p : code.Process) (q : Process)
    → (sides m).ready k i x p q → slice_get p.frame.code p.frame.pc ≡ Some (Give ty.Int (Operate Distinct) into (a ∷ d ∷ []))
    → AreComparable (core.value_of (core.slot p.frame.slots a)) (core.value_of (core.slot p.frame.slots d)) → RowGoes m k i x p q
distinct_of m b into a d k i x p q ready here comparable =
    goes_compared m b Distinct op.Bnew comparison.Unequal other_than into a d (λ us t g. g)
    (record { uses = λ n u. u.0; clean = λ s t slots f. f.3; behind = λ defs pc slots. refl; code = λ c. refl; plain = refl })
    refl (λ r s. ap Found (not_other (numbers.same_reference r s))) i p q here k x ready comparable
    (λ w v u e f.
    ap (code.next frames_limit (program m) w p) here
    ∙ ap (λ (l : Slot). code.goes_on w p (core.put p.frame.slots into
    (Holds (value.fitted m.adts ty.Int (Num (truth (other_than (same_reference (core.value_of l) (core.value_of (core.slot p.frame.slots d)))))))))) e
    ∙ ap (λ (l : Slot). code.goes_on w p (core.put p.frame.slots into
    (Holds (value.fitted m.adts ty.Int (Num (truth (other_than (same_reference v (core.value_of l))))))))) f
    ∙ ap (λ (n : ℤ). code.goes_on w p (core.put p.frame.slots into (Holds (Num n))))
    (within Int (truth (other_than (same_reference v u))) (truth_range (other_than (same_reference v u)))))

-- a row of two slots, and of an int
record OfTwo (t : Ty) (from : List ℕ) : Type 0 where
  first : ℕ
  second : ℕ
  slots : from ≡ first ∷ second ∷ []
  int : t ≡ ty.Int

of_two : (m : typed.Module) (o : Operation) (gives : (us : List Ty) (t : Ty) → Gives m.adts o us t → ComparesTwo us t) (t : Ty) (into : ℕ) (from : List ℕ)
    (k : Facts) (i : ℕ) (x : World) (p : code.Process) (q : Process) → Ready m k i x p q
    → slice_get p.frame.code p.frame.pc ≡ Some (Give t (Operate o) into from) → OfTwo t from
of_two m o gives t into from k i x p q r here =
    let it = Give t (Operate o) into from in
    let known = r.stands.is.known in
    let found = finds m r.stands.is.function p.frame.pc known it r.stands.goes (code_here m k i x p q r it here) in
    let two = two_refer found.0 t (gives found.0 t found.2.0) in
    let slots = two_slots known from two.0 two.1 (subst (AreThese known from) two.2 found.1) in
    record { first = slots.0; second = slots.1; slots = slots.2; int = two.5 }

pub identicals_go : IdenticalsGo
identicals_go m b t into from k i x p q ready here comparable =
    let two = of_two m Identical (λ us t g. g) t into from k i x p q ready.0 here in
    identical_of m b into two.first two.second k i x p q ready
    (here ∙ ap (λ (u : Ty). Some (Give u (Operate Identical) into from)) two.int
    ∙ ap (λ (rs : List ℕ). Some (Give ty.Int (Operate Identical) into rs)) two.slots)
    (subst (λ (rs : List ℕ). AreComparable (operand_of 0 (core.values_of p.frame.slots rs)) (operand_of 1 (core.values_of p.frame.slots rs))) two.slots comparable)

pub distincts_go : DistinctsGo
distincts_go m b t into from k i x p q ready here comparable =
    let two = of_two m Distinct (λ us t g. g) t into from k i x p q ready.0 here in
    distinct_of m b into two.first two.second k i x p q ready
    (here ∙ ap (λ (u : Ty). Some (Give u (Operate Distinct) into from)) two.int
    ∙ ap (λ (rs : List ℕ). Some (Give ty.Int (Operate Distinct) into rs)) two.slots)
    (subst (λ (rs : List ℕ). AreComparable (operand_of 0 (core.values_of p.frame.slots rs)) (operand_of 1 (core.values_of p.frame.slots rs))) two.slots comparable)

-- ---- where it is known that they may be compared

one_none : (a c : Option value.Part) → (a ≡ None) ⊎ (c ≡ None) → AreComparable (Array a) (Array c)
one_none None c h = tt
one_none (Some a) None h = tt
one_none (Some a) (Some c) (inl e) = absurd cc
one_none (Some a) (Some c) (inr e) = absurd cc

by_slots : (l r : Slot) (v u : Value) → l ≡ Holds v → r ≡ Holds u → AreComparable v u → AreComparable (core.value_of l) (core.value_of r)
by_slots l r v u e f c =
    subst (λ (s : Slot). AreComparable (core.value_of s) (core.value_of r)) (sym e)
    (subst (λ (s : Slot). AreComparable v (core.value_of s)) (sym f) c)

module _ (m : typed.Module) (o : Operation) (gives : (us : List Ty) (t : Ty) → Gives m.adts o us t → ComparesTwo us t) (t : Ty) (into a c : ℕ) (k : Facts)
    (i : ℕ) (x : World) (p : code.Process) (q : Process) (r : Ready m k i x p q)
    (here : slice_get p.frame.code p.frame.pc ≡ Some (Give t (Operate o) into (a ∷ c ∷ []))) where
  slots_compare : MayCompare r.stands.is.known a c → AreComparable (core.value_of (core.slot p.frame.slots a)) (core.value_of (core.slot p.frame.slots c))
  slots_compare may =
      let is = r.stands.is in
      let it = Give t (Operate o) into (a ∷ c ∷ []) in
      let code = code_here m k i x p q r it here in
      let found = finds m is.function p.frame.pc is.known it r.stands.goes code in
      let two = two_refer found.0 t (gives found.0 t found.2.0) in
      let these = subst (AreThese is.known (a ∷ c ∷ [])) two.2 found.1 in
      let named = uses m k i x [] p.frame q.frame is p.frame.pc it code in
      elim may [
        | inl none ↦
            let first = name_known m k i x [] p.frame q.frame is two.0 a two.3 named.1.0 (λ e. e) these.0 none.0 in
            let second = name_known m k i x [] p.frame q.frame is two.1 c two.4 named.1.1.0 (λ e. e) these.1.0 none.1 in
            by_slots (core.slot p.frame.slots a) (core.slot p.frame.slots c) (Ref first.0) (Ref second.0) first.1 second.1 tt
        | inr arrays ↦
            let first = array_known m k i x [] p.frame q.frame is arrays.0.0 a named.1.0 (λ e. e) arrays.0.1 in
            let second = array_known m k i x [] p.frame q.frame is arrays.1.0 c named.1.1.0 (λ e. e) arrays.1.1 in
            by_slots (core.slot p.frame.slots a) (core.slot p.frame.slots c) (Array first.part) (Array second.part) first.holds second.holds
            (one_none first.part second.part (elim arrays.2 [ inl clean ↦ inl (first.none clean) | inr clean ↦ inr (second.none clean) ]))
      ]

compares_so : (m : typed.Module) (o : Operation) → (o ≡ Identical) ⊎ (o ≡ Distinct) → (us : List Ty) (t : Ty) → Gives m.adts o us t → ComparesTwo us t
compares_so m o (inl e) us t g = subst (λ (n : Operation). Gives m.adts n us t) e g
compares_so m o (inr e) us t g = subst (λ (n : Operation). Gives m.adts n us t) e g

pub known_comparable : KnownComparable
known_comparable m o which t into from k i x p q r here may =
    let two = of_two m o (compares_so m o which) t into from k i x p q r here in
    subst (λ (rs : List ℕ). AreComparable (operand_of 0 (core.values_of p.frame.slots rs)) (operand_of 1 (core.values_of p.frame.slots rs))) (sym two.slots)
    (slots_compare m o (compares_so m o which) t into two.first two.second k i x p q r
    (here ∙ ap (λ (rs : List ℕ). Some (Give t (Operate o) into rs)) two.slots)
    (subst (λ (rs : List ℕ). MayCompare r.stands.is.known (first_slot rs) (second_slot rs)) two.slots may))
