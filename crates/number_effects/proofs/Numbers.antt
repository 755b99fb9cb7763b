-- Operations on numbers, and branches.
use Rattle.std.proofs.Common.{◌≡◌, ◌≢◌, ℕ, ◌<◌, ◌≤◌, ℤ, pos, Bool, true, false, List, length, Option, Some, None, Result, Ok, Err, refl, sym, ap, ◌∙◌}
use Rattle.std.proofs.Common.{if◌then◌else◌, lt-ltb, le-ltb, inl, inr}
use Rattle.std.proofs.lemmas.Bool.Decides.{eqb_tells}
use Rattle.limbo_values.specs.declared.number.Kind.{Kind}
use Rattle.limbo_values.specs.declared.number.Kind.TheVariants.{Byte, Int, Big}
use Rattle.limbo_values.specs.declared.operator.Operator.{Operator}
use Rattle.limbo_values.specs.declared.operator.Shift.{Shift}
use Rattle.limbo_values.specs.declared.operator.Comparison.{Comparison}
use Rattle.limbo_values.specs.declared.raised.Raised.{Raised}
use Rattle.limbo_values.specs.Numbers.{wrapped}
use Rattle.limbo_values.specs.Operators.{applied, shifted, compared, text_of}
use Rattle.dis_isa.specs.declared.op.Op.{Op}
use Rattle.dis_isa.specs.declared.op.Op.TheVariants as op
use Rattle.dis_isa.specs.declared.inst.Inst.{Inst}
use Rattle.dis_isa.specs.declared.inst.Middle.{Middle}
use Rattle.dis_isa.specs.declared.inst.Middle.TheVariants as middle
use Rattle.dis_isa.specs.declared.inst.Operand.{Operand}
use Rattle.dis_isa.specs.declared.inst.Operand.TheVariants as operand
use Rattle.dis_file.specs.declared.object.Object.{Object}
use Rattle.dis_meaning.specs.Words.{Word, Plain, Refer, Address, Access, Found, Wrong, Raises, ◌>>=◌, bad_jump, number_in, reference, word_at}
use Rattle.dis_meaning.specs.Numbers.{Row, Calculates, Shifts, Converts, Moves, Branches, number_row, number_at}
use Rattle.dis_meaning.specs.Places.{Spot, Data, place_in}
use Rattle.dis_meaning.specs.Process.{Process}
use Rattle.dis_memory.specs.Blocks.{World}
use Rattle.dis_memory.specs.Raising.{unless_raised}
use Rattle.dis_memory.specs.Operands.{target}
use Rattle.dis_memory.specs.Places.{spot, read, words_at, read_number, source_of, middle_of, given_of, source_word, middle_word}
use Rattle.dis_memory.specs.Places.{source_reference, middle_reference}
use Rattle.dis_memory.specs.Process.{Does}
use Rattle.dis_memory.specs.Results.{gives_number}
use Rattle.dis_memory.specs.Numbers as numbers
use Rattle.dis_memory.specs.Numbers.{same_reference, references_compared, words_compared}
use Rattle.dis_memory.specs.Step.{by_numbers, obey}
use Rattle.dis_memory.proofs.Growing.{both, found_same}
use Rattle.value_moves.specs.Spots.{Leads}
use Rattle.value_moves.proofs.Obeying.{on}
use Rattle.number_effects.specs.Giving.{StoresNumber}
use Rattle.number_effects.specs.Numbers.{where_holds, NumbersWork}
use Rattle.number_effects.proofs.Giving.{results_go}

-- ---- places in the code

pub inside : (o : Object) (d : Operand) (pc : ℕ) → d ≡ operand.Imm (pos pc) → pc < length o.insts → target o d ≡ Found pc
inside o d pc e lt = ap (target o) e ∙ ap (λ (b : Bool). if b then Found pc else Wrong bad_jump) (lt-ltb pc (length o.insts) lt)

pub outside : (o : Object) (d : Operand) (pc : ℕ) → d ≡ operand.Imm (pos pc) → length o.insts ≤ pc → target o d ≡ Wrong bad_jump
outside o d pc e le = ap (target o) e ∙ ap (λ (b : Bool). if b then Found pc else Wrong bad_jump) (le-ltb pc (length o.insts) le)

-- ---- words that are numbers, and references

bound : {R S T : Type 0} (a : Access R) (f : R → Access S) (g : S → Access T) → (a >>= f >>= g) ≡ (a >>= λ r. f r >>= g)
bound (Found r) f g = refl
bound (Wrong n) f g = refl
bound (Raises text) f g = refl

compared_words : (c : Comparison) (w v : Word) (a b : ℤ) → number_in w ≡ Found a → number_in v ≡ Found b
    → words_compared c w v ≡ (number_in w >>= λ y. number_in v >>= λ z. Found (compared c y z))
compared_words c (Plain n) v a b e f = refl
compared_words c (Address place at) v a b e f = refl
compared_words c (Refer r) v a b e f = absurd cc

module _ (x : World) (p : Process) where
  word_number : (s : Spot) → read_number Int x p s ≡ (read x p s >>= number_in)
  word_number s = sym (bound (words_at x p s) (λ ws. word_at ws (place_in s)) number_in)

  through : (a : Access Spot) (z : ℤ) → a >>= read_number Int x p ≡ Found z → a >>= read x p >>= number_in ≡ Found z
  through a z e =
      let h = both a (read_number Int x p) z e in
      ap (λ (c : Access Spot). c >>= read x p >>= number_in) h.is ∙ (sym (word_number h.first) ∙ h.then)

  source_int : (a : Operand) (z : ℤ) → source_of Int x p a ≡ Found z → source_word x p a >>= number_in ≡ Found z
  source_int operand.None z e = absurd cc
  source_int (operand.Imm n) z e = e
  source_int (operand.Fp n) z e = e
  source_int (operand.Mp n) z e = sym (word_number (Data n)) ∙ e
  source_int (operand.IndFp m n) z e = through (spot x p (operand.IndFp m n)) z e
  source_int (operand.IndMp m n) z e = through (spot x p (operand.IndMp m n)) z e

  middle_int : (m : Middle) (z : ℤ) → given_of Int x p m ≡ Found z → middle_word x p m >>= number_in ≡ Found z
  middle_int middle.None z e = absurd cc
  middle_int (middle.Imm n) z e = e
  middle_int (middle.Fp n) z e = e
  middle_int (middle.Mp n) z e = sym (word_number (Data n)) ∙ e

refers : (w : Word) (r : Option ℕ) → reference w ≡ Found r → w ≡ Refer r
refers (Refer s) r e = ap Refer (found_same s r e)
refers (Plain n) r e = absurd cc
refers (Address place at) r e = absurd cc

refers_found : (a : Access Word) (r : Option ℕ) → a >>= reference ≡ Found r → a ≡ Found (Refer r)
refers_found (Found w) r e = ap Found (refers w r e)
refers_found (Wrong n) r e = absurd cc
refers_found (Raises text) r e = absurd cc

-- ---- rows

module _ (limit : ℕ) (o : Object) (x : World) (p : Process) (i : Inst) where
  by_its_row : (operation : Op) (row : Row) → number_row operation ≡ Some row → obey limit o x p i operation ≡ numbers.by_row o x p i row
  by_its_row op.Movw row e = absurd cc
  by_its_row op.Movp row e = absurd cc
  by_its_row op.Movm row e = absurd cc
  by_its_row op.Movmp row e = absurd cc
  by_its_row op.Lea row e = absurd cc
  by_its_row op.New row e = absurd cc
  by_its_row op.Newz row e = absurd cc
  by_its_row op.Newa row e = absurd cc
  by_its_row op.Newaz row e = absurd cc
  by_its_row op.Indx row e = absurd cc
  by_its_row op.Indb row e = absurd cc
  by_its_row op.Indw row e = absurd cc
  by_its_row op.Indl row e = absurd cc
  by_its_row op.Lena row e = absurd cc
  by_its_row op.Slicea row e = absurd cc
  by_its_row op.Slicela row e = absurd cc
  by_its_row op.Addc row e = absurd cc
  by_its_row op.Lenc row e = absurd cc
  by_its_row op.Indc row e = absurd cc
  by_its_row op.Insc row e = absurd cc
  by_its_row op.Slicec row e = absurd cc
  by_its_row op.Cvtwc row e = absurd cc
  by_its_row op.Cvtlc row e = absurd cc
  by_its_row op.Cvtcw row e = absurd cc
  by_its_row op.Cvtcl row e = absurd cc
  by_its_row op.Cvtca row e = absurd cc
  by_its_row op.Cvtac row e = absurd cc
  by_its_row op.Consb row e = absurd cc
  by_its_row op.Consw row e = absurd cc
  by_its_row op.Consl row e = absurd cc
  by_its_row op.Consp row e = absurd cc
  by_its_row op.Consm row e = absurd cc
  by_its_row op.Consmp row e = absurd cc
  by_its_row op.Headb row e = absurd cc
  by_its_row op.Headw row e = absurd cc
  by_its_row op.Headl row e = absurd cc
  by_its_row op.Headp row e = absurd cc
  by_its_row op.Headm row e = absurd cc
  by_its_row op.Headmp row e = absurd cc
  by_its_row op.Tail row e = absurd cc
  by_its_row op.Lenl row e = absurd cc
  by_its_row op.Newcb row e = absurd cc
  by_its_row op.Newcw row e = absurd cc
  by_its_row op.Newcl row e = absurd cc
  by_its_row op.Newcp row e = absurd cc
  by_its_row op.Newcm row e = absurd cc
  by_its_row op.Newcmp row e = absurd cc
  by_its_row op.Jmp row e = absurd cc
  by_its_row op.Frame row e = absurd cc
  by_its_row op.Call row e = absurd cc
  by_its_row op.Ret row e = absurd cc
  by_its_row op.Load row e = absurd cc
  by_its_row op.Mcall row e = absurd cc
  by_its_row operation row e = ap (by_numbers limit o x p i operation) e

  calculated : (kind : Kind) (operator : Operator) (s m : ℤ) (r : Result ℤ Raised) → number_row i.op ≡ Some (Calculates kind operator)
      → source_of kind x p i.src ≡ Found s → middle_of kind x p i.middle i.dst ≡ Found m → applied kind operator m s ≡ r
      → obey limit o x p i i.op ≡ gives_number x p kind i.dst (unless_raised r)
  calculated kind operator s m r row e f g =
      by_its_row i.op (Calculates kind operator) row
      ∙ on (source_of kind x p i.src) s _ e
      ∙ on (middle_of kind x p i.middle i.dst) m _ f
      ∙ ap (λ (c : Result ℤ Raised). gives_number x p kind i.dst (unless_raised c)) g

  module _ (target : List Word) (to : ℕ) (d : Leads x p i.dst target to) where
    given : (kind : Kind) (old z : ℤ) → number_at kind target (pos to) ≡ Found old → obey limit o x p i i.op ≡ gives_number x p kind i.dst (Found z)
        → StoresNumber (obey limit o x p i i.op) x p d.place kind target to z
    given kind old z e f = let g = results_go.number x p i.dst target to d kind old z e in (g.0, f ∙ g.1)

  shifted_so : (kind : Kind) (shift : Shift) (count m : ℤ) → number_row i.op ≡ Some (Shifts kind shift) → source_of Int x p i.src ≡ Found count
      → middle_of kind x p i.middle i.dst ≡ Found m → obey limit o x p i i.op ≡ gives_number x p kind i.dst (Found (shifted kind shift m count))
  shifted_so kind shift count m row e f =
      by_its_row i.op (Shifts kind shift) row ∙ on (source_of Int x p i.src) count _ e ∙ on (middle_of kind x p i.middle i.dst) m _ f

  converted : (from kind : Kind) (s : ℤ) → number_row i.op ≡ Some (Converts from kind) → source_of from x p i.src ≡ Found s
      → obey limit o x p i i.op ≡ gives_number x p kind i.dst (Found (wrapped kind s))
  converted from kind s row e = by_its_row i.op (Converts from kind) row ∙ on (source_of from x p i.src) s _ e

  moved : (kind : Kind) (s : ℤ) → number_row i.op ≡ Some (Moves kind) → source_of kind x p i.src ≡ Found s
      → obey limit o x p i i.op ≡ gives_number x p kind i.dst (Found s)
  moved kind s row e = by_its_row i.op (Moves kind) row ∙ on (source_of kind x p i.src) s _ e

  -- ---- branches

  -- the place is looked at once the comparison is made
  abbrev goes : Bool → Access Does
  goes holds = target o i.dst >>= λ pc. Found (where_holds x p holds pc)

  words_branch : (c : Comparison) (w v : Word) (holds : Bool) → source_word x p i.src ≡ Found w → middle_word x p i.middle ≡ Found v
      → words_compared c w v ≡ Found holds → numbers.branches o x p i Int c ≡ goes holds
  words_branch c w v holds e f g =
      on (source_word x p i.src) w _ e ∙ on (middle_word x p i.middle) v _ f ∙ on (words_compared c w v) holds _ g

  row_branches : (kind : Kind) (c : Comparison) (a b : ℤ) → source_of kind x p i.src ≡ Found a → given_of kind x p i.middle ≡ Found b
      → numbers.branches o x p i kind c ≡ goes (compared c a b)
  row_branches Byte c a b e f = on (source_of Byte x p i.src) a _ e ∙ on (given_of Byte x p i.middle) b _ f
  row_branches Big c a b e f = on (source_of Big x p i.src) a _ e ∙ on (given_of Big x p i.middle) b _ f
  row_branches Int c a b e f =
      let s = both (source_word x p i.src) number_in a (source_int x p i.src a e) in
      let m = both (middle_word x p i.middle) number_in b (middle_int x p i.middle b f) in
      words_branch c s.first m.first (compared c a b) s.is m.is
      (compared_words c s.first m.first a b s.then m.then
      ∙ on (number_in s.first) a (λ y. number_in m.first >>= λ z. Found (compared c y z)) s.then
      ∙ on (number_in m.first) b (λ z. Found (compared c a z)) m.then)

  branch : (kind : Kind) (c : Comparison) (a b : ℤ) → number_row i.op ≡ Some (Branches kind c) → source_of kind x p i.src ≡ Found a
      → given_of kind x p i.middle ≡ Found b → obey limit o x p i i.op ≡ goes (compared c a b)
  branch kind c a b row e f = by_its_row i.op (Branches kind c) row ∙ row_branches kind c a b e f

  references_branch : (c : Comparison) (r s : Option ℕ) (holds : Bool) → number_row i.op ≡ Some (Branches Int c)
      → source_reference x p i.src ≡ Found r → middle_reference x p i.middle ≡ Found s → references_compared c r s ≡ Found holds
      → obey limit o x p i i.op ≡ goes holds
  references_branch c r s holds row e f g =
      by_its_row i.op (Branches Int c) row
      ∙ words_branch c (Refer r) (Refer s) holds (refers_found (source_word x p i.src) r e) (refers_found (middle_word x p i.middle) s f) g

  module _ (pc : ℕ) (e : i.dst ≡ operand.Imm (pos pc)) where
    goes_inside : (holds : Bool) → pc < length o.insts → goes holds ≡ Found (where_holds x p holds pc)
    goes_inside holds lt = on (target o i.dst) pc (λ q. Found (where_holds x p holds q)) (inside o i.dst pc e lt)

    goes_outside : (holds : Bool) → length o.insts ≤ pc → goes holds ≡ Wrong bad_jump
    goes_outside holds le = ap (λ (c : Access ℕ). c >>= λ q. Found (where_holds x p holds q)) (outside o i.dst pc e le)

-- ---- references that are equal

same : (r : Option ℕ) → same_reference r r ≡ true
same None = refl
same (Some n) = elim (eqb_tells n n) [ inl y ↦ y.0 | inr y ↦ absurd (y.1 refl) ]

different : (r s : Option ℕ) → r ≢ s → same_reference r s ≡ false
different None None ne = absurd (ne refl)
different None (Some m) ne = refl
different (Some n) None ne = refl
different (Some n) (Some m) ne = elim (eqb_tells n m) [ inl y ↦ absurd (ne (ap Some y.1)) | inr y ↦ y.0 ]

pub numbers_work : NumbersWork
numbers_work = record {
  by_its_row = λ limit o x p i operation row e. by_its_row limit o x p i operation row e;
  calculates = λ limit o x p i kind operator s m target to d old z row e f g h.
      given limit o x p i target to d kind old z g (calculated limit o x p i kind operator s m (Ok z) row e f h);
  calculates_raised = λ limit o x p i kind operator s m target to d old raised row e f g h.
      calculated limit o x p i kind operator s m (Err raised) row e f h
      ∙ results_go.number_raised x p i.dst target to d kind old (text_of raised) g;
  shifts = λ limit o x p i kind shift count m target to d old row e f g.
      given limit o x p i target to d kind old (shifted kind shift m count) g (shifted_so limit o x p i kind shift count m row e f);
  converts = λ limit o x p i from kind s target to d old row e g.
      given limit o x p i target to d kind old (wrapped kind s) g (converted limit o x p i from kind s row e);
  moves = λ limit o x p i kind s target to d old row e g.
      given limit o x p i target to d kind old s g (moved limit o x p i kind s row e);
  branches = λ limit o x p i kind c a b pc row e f g lt.
      branch limit o x p i kind c a b row e f ∙ goes_inside limit o x p i pc g (compared c a b) lt;
  branches_outside = λ limit o x p i kind c a b pc row e f g le.
      branch limit o x p i kind c a b row e f ∙ goes_outside limit o x p i pc g (compared c a b) le;
  references = λ limit o x p i c r s holds pc row e f h g lt.
      references_branch limit o x p i c r s holds row e f h ∙ goes_inside limit o x p i pc g holds lt;
  references_outside = λ limit o x p i c r s holds pc row e f h g le.
      references_branch limit o x p i c r s holds row e f h ∙ goes_outside limit o x p i pc g holds le;
  same = same;
  different = different;
}
