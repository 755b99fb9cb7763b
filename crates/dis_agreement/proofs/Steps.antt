-- Each instruction that is right does the same on both machines.
use Rattle.std.proofs.Common.{◌≡◌, ℕ, ℤ, Bool, true, false, List, refl, sym, subst, inl}
use Rattle.std.specs.Prelude.{Option, Some, None, pos, slice_get, Result, Ok}
use Rattle.process_model.specs.Process.{Went, Parks, Asks, Ends}
use Rattle.limbo_values.specs.declared.number.Kind.{Kind}
use Rattle.limbo_values.specs.declared.number.Kind.TheVariants.{Byte, Int, Big}
use Rattle.limbo_values.specs.declared.raised.Raised.{Raised}
use Rattle.limbo_values.specs.Numbers.{wrapped}
use Rattle.limbo_values.specs.Operators.{applied, shifted, compared}
use Rattle.dis_isa.specs.declared.inst.Inst.{Inst}
use Rattle.dis_isa.specs.declared.inst.Operand.{Operand}
use Rattle.dis_isa.specs.declared.inst.Operand.TheVariants as operand
use Rattle.dis_isa.specs.declared.op.Op.{Op}
use Rattle.dis_isa.specs.declared.op.Op.TheVariants as op
use Rattle.dis_file.specs.declared.object.Object.{Object}
use Rattle.dis_meaning.specs.Words.{Word, Plain, Refer, Address, Access, Found, ◌>>=◌, type_check}
use Rattle.dis_meaning.specs.Words.{bad_jump}
use Rattle.dis_meaning.specs.Words.{or_wrong, at_least_zero, word_number, plain, dead_address}
use Rattle.dis_meaning.specs.World as today
use Rattle.dis_meaning.specs.Numbers.{Row, Calculates, Shifts, Converts, Moves, Branches, number_row}
use Rattle.dis_meaning.specs.Process as process
use Rattle.dis_meaning.specs.Process.{Process}
use Rattle.dis_meaning.specs.Places as old
use Rattle.dis_meaning.specs.Places.{Spot, Own, Data, Far, place_in, address}
use Rattle.dis_meaning.specs.Step as step
use Rattle.dis_meaning.specs.Step.{plains, all_replaced}
use Rattle.dis_memory.specs.Blocks.{World, block}
use Rattle.dis_memory.specs.Places as new
use Rattle.dis_memory.specs.Process.{Does, next, or_fault}
use Rattle.dis_memory.specs.Raising.{unless_raised}
use Rattle.dis_memory.specs.Operands as operands
use Rattle.dis_memory.specs.Results as results
use Rattle.dis_memory.specs.Data as data_ops
use Rattle.dis_memory.specs.Numbers as numbers
use Rattle.dis_memory.specs.Step as memory_step
use Rattle.dis_memory.specs.Sound.{IsThere, NothingDangles, NothingDanglesAfter}
use Rattle.dis_memory.proofs.Growing.{both, found_same}
use Rattle.dis_memory.proofs.Keeping.{nothing_comes_to_dangle}
use Rattle.dis_agreement.specs.Agreement.{WorldsAgree, IsRight, SameDone}
use Rattle.dis_agreement.specs.Laws.{StepsAgree}
use Rattle.dis_agreement.proofs.Following.{found, wrong, raises, itself, chain, with_same, on, besides}
use Rattle.dis_agreement.proofs.Blocks.{same_block}
use Rattle.dis_agreement.proofs.Reading.{words_same, around_same, spot_same, source_same, plain_same, reference_same}
use Rattle.dis_agreement.proofs.Reading.{given_same, middle_same}
use Rattle.dis_agreement.proofs.Reading.{source_compared, middle_compared, words_compared, target_same}
use Rattle.dis_agreement.proofs.Storing.{Done, Obeys, then_next, words_follow, gives_plain, gives_reference, gives_number}
use Rattle.dis_agreement.proofs.Formatting.{calm_number_of}
use Rattle.dis_agreement.proofs.Moving.{begins, whole_follows, calm_plains, put_same, moved_is}
use Rattle.dis_agreement.proofs.Controlling.{returns_same, jmp_same, frame_obeys, call_same, load_same, mcall_same}

-- ---- plain words

plain_twice : (v w : Word) → plain v ≡ Found w → plain w ≡ Found w
plain_twice (Plain z) w e = subst (λ u. plain u ≡ Found u) (found_same (Plain z) w e) refl
plain_twice (Address place at) w e = subst (λ u. plain u ≡ Found u) (found_same (Address place at) w e) refl
plain_twice (Refer r) w e = absurd cc

plain_address : (p : Process) (s : Spot) → plain (address p s) ≡ Found (address p s)
plain_address p (Own at) = refl
plain_address p (Data at) = refl
plain_address p (Far place at) = refl

plain_read : (x : today.World) (p : Process) (a : Access Spot) (w : Word) → (a >>= λ s. old.read x p s >>= plain) ≡ Found w
    → plain w ≡ Found w
plain_read x p a w e =
    let h = both a (λ s. old.read x p s >>= plain) w e in
    let g = both (old.read x p h.first) plain w h.then in
    plain_twice g.first w g.then

plain_source : (x : today.World) (p : Process) (o : Operand) (w : Word) → old.source_plain x p o ≡ Found w → plain w ≡ Found w
plain_source x p (operand.Imm n) w e = subst (λ u. plain u ≡ Found u) (found_same (Plain n) w e) refl
plain_source x p (operand.Fp k) w e = plain_read x p (Found (Own k)) w e
plain_source x p (operand.Mp k) w e = plain_read x p (Found (Data k)) w e
plain_source x p (operand.IndFp inner outer) w e = plain_read x p (old.spot x p (operand.IndFp inner outer)) w e
plain_source x p (operand.IndMp inner outer) w e = plain_read x p (old.spot x p (operand.IndMp inner outer)) w e
plain_source x p operand.None w e = absurd cc

module _ (limit : ℕ) (o : Object) (x : today.World) (y : World) (p : Process) (w : WorldsAgree x y) (d : NothingDangles y p)
    (here : IsThere y 0)
    (inside : p.frame.instance ≡ 0) (i : Inst) where
  -- ---- numbers

  to_number : (kind : Kind) (r : Result ℤ Raised)
      → Obeys (old.spot x p i.dst >>= λ s. step.results kind x p s r) (results.gives_number y p kind i.dst (unless_raised r))
  to_number kind r = with_same _ _ (spot_same x y p w here i.dst) (λ s e f. gives_number x y p w here kind s r)

  branch_same : (b : Bool) (pc : ℕ) → Obeys (Found (step.branch x p b pc)) (Found (numbers.branch o y p i b pc))
  branch_same true pc = found _ _ (refl, w, tt)
  branch_same false pc = found _ _ (refl, w, tt)

  row_same : (row : Row) → Obeys (step.by_row o x p i row) (numbers.by_row o y p i row)
  row_same (Calculates kind operator) =
      with_same _ _ (source_same x y p w here kind i.src) (λ s e f. with_same _ _ (middle_same x y p w here kind i.middle i.dst) (λ m a b.
      to_number kind (applied kind operator m s)))
  row_same (Shifts kind shift) =
      with_same _ _ (source_same x y p w here Int i.src) (λ s e f. with_same _ _ (middle_same x y p w here kind i.middle i.dst) (λ m a b.
      to_number kind (Ok (shifted kind shift m s))))
  row_same (Converts from to) = with_same _ _ (source_same x y p w here from i.src) (λ s e f. to_number to (Ok (wrapped to s)))
  row_same (Moves kind) = with_same _ _ (source_same x y p w here kind i.src) (λ s e f. to_number kind (Ok s))
  row_same (Branches Int c) =
      chain _ _ (source_compared x y p w here i.src) (λ s u e f r. chain _ _ (middle_compared x y p w here i.middle) (λ m v a b q.
      subst (λ h. Obeys (step.target o i.dst >>= λ pc. Found (step.branch x p (compared c s m) pc))
      (h >>= λ holds. operands.target o i.dst >>= λ pc. Found (numbers.branch o y p i holds pc)))
      (sym (words_compared c u v s m r q))
      (with_same _ _ (target_same o i.dst) (λ pc a b. branch_same (compared c s m) pc))))
  row_same (Branches Byte c) =
      with_same _ _ (source_same x y p w here Byte i.src) (λ s e f. with_same _ _ (given_same x y p w here Byte i.middle) (λ m a b.
      with_same _ _ (target_same o i.dst) (λ pc a b. branch_same (compared c s m) pc)))
  row_same (Branches Big c) =
      with_same _ _ (source_same x y p w here Big i.src) (λ s e f. with_same _ _ (given_same x y p w here Big i.middle) (λ m a b.
      with_same _ _ (target_same o i.dst) (λ pc a b. branch_same (compared c s m) pc)))

  in_rows : (operation : Op) (row : Option Row) → Obeys (step.in_table o x p i row) (memory_step.by_numbers limit o y p i operation row)
  in_rows operation (Some row) = row_same row
  in_rows operation None = wrong 110 _

  -- ---- data

  movm_same : Obeys (step.obey limit o x p i op.Movm) (data_ops.movm o y p i)
  movm_same =
      with_same _ _ (spot_same x y p w here i.src) (λ s a b.
      with_same _ _ (words_same x y p w here s) (λ source a b.
      chain _ _ (whole_follows (place_in s)) (λ k from a b at_source.
      with_same _ _ (on _ _ (given_same x y p w here Int i.middle) (λ z a b. itself (at_least_zero z))) (λ bytes a b.
      besides (word_number (pos bytes)) _ _ (calm_number_of (pos bytes)) (λ count long.
      besides (plains source k count) _ _ (calm_plains source k count) (λ vs taken.
      with_same _ _ (spot_same x y p w here i.dst) (λ t a b.
      with_same _ _ (words_same x y p w here t) (λ target was b.
      chain _ _ (whole_follows (place_in t)) (λ j to a b at_target.
      subst (λ u. Obeys (all_replaced target j vs >>= old.with_words_at x p t >>= λ m. Found (step.next m))
      (u >>= new.with_words_at y p t >>= λ m. Found (next m)))
      (sym (moved_is source target vs from to bytes k j count at_source at_target (begins bytes count long) taken))
      (then_next (with_same _ _ (put_same target j vs) (λ us a b. words_follow x y p w here t target us was))))))))))))

  obeys : (operation : Op) → Obeys (step.obey limit o x p i operation) (memory_step.obey limit o y p i operation)
  obeys op.Movw =
      with_same _ _ (plain_same x y p w here i.src) (λ v e f. with_same _ _ (spot_same x y p w here i.dst) (λ s a b.
      gives_plain x y p w here s v (plain_source x p i.src v e)))
  obeys op.Movp =
      with_same _ _ (reference_same x y p w here i.src) (λ r e f. with_same _ _ (spot_same x y p w here i.dst) (λ s a b.
      gives_reference x y p w here s r))
  obeys op.Movm = movm_same
  obeys op.Lea =
      with_same _ _ (spot_same x y p w here i.src) (λ s a b. with_same _ _ (around_same x y p w here s) (λ v a b.
      with_same _ _ (spot_same x y p w here i.dst) (λ t a b. gives_plain x y p w here t (address p s) (plain_address p s))))
  obeys op.Jmp = jmp_same x y p w d here limit o i
  obeys op.Frame = frame_obeys x y p w d here limit o i
  obeys op.Call = call_same x y p w d here limit o i
  obeys op.Ret = returns_same x y p w d here p.below
  obeys op.Load = load_same x y p w d here limit o i
  obeys op.Mcall = mcall_same x y p w d here limit o i inside
  obeys op.Movmp = wrong 110 _
  obeys op.New = wrong 110 _
  obeys op.Newz = wrong 110 _
  obeys op.Newa = wrong 110 _
  obeys op.Newaz = wrong 110 _
  obeys op.Indx = wrong 110 _
  obeys op.Indb = wrong 110 _
  obeys op.Indw = wrong 110 _
  obeys op.Indl = wrong 110 _
  obeys op.Lena = wrong 110 _
  obeys op.Slicea = wrong 110 _
  obeys op.Slicela = wrong 110 _
  obeys op.Addc = wrong 110 _
  obeys op.Lenc = wrong 110 _
  obeys op.Indc = wrong 110 _
  obeys op.Insc = wrong 110 _
  obeys op.Slicec = wrong 110 _
  obeys op.Cvtwc = wrong 110 _
  obeys op.Cvtlc = wrong 110 _
  obeys op.Cvtcw = wrong 110 _
  obeys op.Cvtcl = wrong 110 _
  obeys op.Cvtca = wrong 110 _
  obeys op.Cvtac = wrong 110 _
  obeys op.Consb = wrong 110 _
  obeys op.Consw = wrong 110 _
  obeys op.Consl = wrong 110 _
  obeys op.Consp = wrong 110 _
  obeys op.Consm = wrong 110 _
  obeys op.Consmp = wrong 110 _
  obeys op.Headb = wrong 110 _
  obeys op.Headw = wrong 110 _
  obeys op.Headl = wrong 110 _
  obeys op.Headp = wrong 110 _
  obeys op.Headm = wrong 110 _
  obeys op.Headmp = wrong 110 _
  obeys op.Tail = wrong 110 _
  obeys op.Lenl = wrong 110 _
  obeys op.Newcb = wrong 110 _
  obeys op.Newcw = wrong 110 _
  obeys op.Newcl = wrong 110 _
  obeys op.Newcp = wrong 110 _
  obeys op.Newcm = wrong 110 _
  obeys op.Newcmp = wrong 110 _
  obeys operation = in_rows operation (number_row operation)

-- ---- a step

module _ (limit : ℕ) (objects : List Object) (x : today.World) (y : World) (p : Process) (w : WorldsAgree x y)
    (d : NothingDangles y p) where
  work_same : (o : Object) → IsThere y 0 → p.frame.instance ≡ 0 → Obeys (step.work limit o x p) (memory_step.work limit o y p)
  work_same o here inside =
      with_same _ _ (itself (or_wrong bad_jump (slice_get o.insts p.frame.pc))) (λ i e f. obeys limit o x y p w d here inside i i.op)

  -- The code is that of the instance in which the frame runs.
  runs_same : Obeys
      (step.code_of limit objects x p >>= λ o. step.work limit o x p)
      (memory_step.code_of limit objects y p >>= λ o. memory_step.work limit o y p)
  runs_same = go (slice_get x.blocks p.frame.instance) refl
    where
      go : (o : Option today.Content) → slice_get x.blocks p.frame.instance ≡ o
          → Obeys
          ((or_wrong dead_address o >>= step.object_of >>= λ n. or_wrong type_check (slice_get objects n)) >>= λ o.
          step.work limit o x p)
          ((block y p.frame.instance >>= memory_step.object_of >>= λ n. or_wrong type_check (slice_get objects n)) >>= λ o.
          memory_step.work limit o y p)
      go None e = wrong dead_address _
      go (Some (today.Text chars)) e = wrong 110 _
      go (Some (today.Sys names)) e = wrong 110 _
      go (Some (today.Instance object words)) e =
          let inside = w.instance p.frame.instance object words e in
          let there = d.process p.frame.instance (inl (inl refl)) in
          let here : IsThere y 0 = subst (λ n. IsThere y n) inside there in
          subst
          (λ b. Obeys (or_wrong type_check (slice_get objects object) >>= λ o. step.work limit o x p)
          ((or_wrong dead_address b >>= memory_step.object_of >>= λ n. or_wrong type_check (slice_get objects n)) >>= λ o.
          memory_step.work limit o y p))
          (sym (same_block x y w p.frame.instance (today.Instance object words) e there))
          (with_same _ _ (itself (or_wrong type_check (slice_get objects object))) (λ o a b. work_same o here inside))

-- What was done leaves states that agree, where nothing dangles.
pub agrees_on : (s : process.Does) (t : Does) → Done s t → NothingDanglesAfter t → SameDone s t
agrees_on (Went x p) (Went y q) (e, w, k) n = (e, record { worlds = w; there = n; waits = k })
agrees_on (Parks x bs p) (Parks y cs q) (f, e, w, k) n = (f, e, record { worlds = w; there = n; waits = k })
agrees_on (Asks x m p) (Asks y a q) (f, e, w, k) n = (f, e, record { worlds = w; there = n; waits = k })
agrees_on (Ends x how) (Ends y other) (f, w) n = (f, w)
agrees_on s t r n = absurd r

pub or_faults : (x : today.World) (y : World) (p : Process) (a : Access process.Does) (b : Access Does) → WorldsAgree x y → Obeys a b
    → IsRight (process.or_fault x p a) → NothingDanglesAfter (or_fault y p b) → SameDone (process.or_fault x p a) (or_fault y p b)
or_faults x y p a b w (found s t r) right n = agrees_on s t r n
or_faults x y p a b w (wrong m c) right n = absurd right
or_faults x y p a b w (raises text) right n = (refl, w)

pub steps_agree : StepsAgree
steps_agree limit objects x y p a right =
    or_faults x y p _ _ a.worlds (runs_same limit objects x y p a.worlds a.there) right (nothing_comes_to_dangle limit objects y p a.there)
