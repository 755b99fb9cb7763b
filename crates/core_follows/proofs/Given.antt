-- What nodes give, and the drops of the references that they get.
use Rattle.std.proofs.Common.{◌≡◌, ℕ, zero, suc, ◌<◌, Bool, true, false, List, [], ◌∷◌, ◌++◌, length, Option, Some, None}
use Rattle.std.proofs.Common.{inl, Ok, Err, refl, sym, ap, subst, ◌∙◌, arith}
use Rattle.std.specs.Prelude.{slice_get, slice_index_or, if◌then◌else◌}
use Rattle.limbo_types.specs.Types as ty
use Rattle.limbo_types.specs.Types.{Ty, Tys, NoTys, MoreTys}
use Rattle.limbo_types.specs.View.{tys_of}
use Rattle.limbo_layout.specs.Adts.{Def, parts}
use Rattle.limbo_typed.specs.declared.operation.Operation.{Operation}
use Rattle.limbo_typed.specs.declared.stmt.Constant.{Constant}
use Rattle.limbo_typed.specs.declared.stmt.Constant.TheVariants as constant
use Rattle.limbo_meaning.specs.Values.{Value, Num, Chars, Ref, Array, Parts, Values, NoValues, MoreValues, nothing, first_in, rest_in}
use Rattle.limbo_meaning.specs.Values.{parts_of}
use Rattle.limbo_meaning.specs.Values.{name_of, part_of, formed, all_formed, by_def, adt_formed, fitted, references, all_references}
use Rattle.limbo_meaning.specs.Values.{among, zero_of}
use Rattle.limbo_meaning.specs.Memory.{Memory}
use Rattle.limbo_meaning.specs.Exceptions.{Raising}
use Rattle.limbo_meaning.specs.Places.{read, not_longer}
use Rattle.limbo_meaning.specs.Operations.{Outcome, result_of, constant_value}
use Rattle.limbo_meaning.specs.Formats.{formatted}
use Rattle.limbo_meaning.specs.Trees.{Term, Evaluated, Block, Work, Literal, Nil, Operate, Read, Sprint}
use Rattle.limbo_meaning.specs.Evaluation.{Progress, Stepped, Raises, unless_raised, next, fill, performed}
use Rattle.limbo_meaning.specs.Evaluation.{passes_on, got_by, is_some, refers, work_refers, leaves, gets, passes}
use Rattle.limbo_meaning.specs.Program.{Program}
use Rattle.limbo_meaning.specs.Process.{Shared}
use Rattle.limbo_meaning.proofs.Statics.{kinds_are_static}
use Rattle.core_code.specs.Slots.{Holds, Slots, slot, put, values_of}
use Rattle.core_code.specs.Code.{Instr, Give}
use Rattle.core_code.specs.Machine as machine
use Rattle.core_code.specs.Machine.{Frame, at, memory_of}
use Rattle.core_code.specs.Naming.{reference}
use Rattle.core_code.specs.Terms.{drops_from, drops_if, count_of}
use Rattle.core_code.specs.Statements.{code_of}
use Rattle.core_follows.specs.Drops as drops
use Rattle.core_follows.specs.Drops.{Between, AllTouch, AllMiss, Dropping, none, Holding}
use Rattle.core_follows.specs.Stands.{coded, Going, obeying, Next, goes, raises}
use Rattle.core_follows.proofs.Slots.{among_join, put_same}
use Rattle.core_follows.proofs.Holding.{Room, Owns, holding_put}
use Rattle.core_follows.proofs.Contexts.{Carries}
use Rattle.core_follows.specs.Handled.{Fits}
use Rattle.core_follows.proofs.Nodes.{Behind}

-- ---- the drops of all references of a value

miss_row : (s k j n : ℕ) → k < j → AllMiss s k (drops_from s j n)
miss_row s k j zero l = tt
miss_row s k j (suc n) l = (λ e f. absurd (omega (arith, l, f)), miss_row s k (suc j) n (omega arith))

touch_row : (s k n : ℕ) → AllTouch (Between s (suc s)) (drops_from s k n)
touch_row s k zero = tt
touch_row s k (suc n) = ((omega arith, omega arith), touch_row s (suc k) n)

nth_behind : (front rs : List (Option ℕ)) (r : Option ℕ) → slice_index_or (front ++ (r ∷ rs)) (length front) None ≡ r
nth_behind [] rs r = refl
nth_behind (x ∷ front) rs r = nth_behind front rs r

row_dropping : (slots : Slots) (s : ℕ) (v : Value) (front rs : List (Option ℕ)) → slot slots s ≡ Holds v → references v ≡ front ++ rs
    → Dropping slots (drops_from s (length front) (length rs)) rs
row_dropping slots s v front [] e f = none
row_dropping slots s v front (r ∷ rs) e f =
    let g : (front ++ (r ∷ [])) ++ rs ≡ front ++ (r ∷ rs) = assoc front in
    let h : length (front ++ (r ∷ [])) ≡ suc (length front) = long front in
    drops.one s (length front) r
    (ap (reference (length front)) e ∙ ap (λ (xs : List (Option ℕ)). slice_index_or xs (length front) None) f ∙ nth_behind front rs r)
    (miss_row s (length front) (suc (length front)) (length rs) (omega arith))
    (subst (λ (k : ℕ). Dropping slots (drops_from s k (length rs)) rs) h (row_dropping slots s v (front ++ (r ∷ [])) rs e (f ∙ sym g)))
  where
    assoc : (xs : List (Option ℕ)) → (xs ++ (r ∷ [])) ++ rs ≡ xs ++ (r ∷ rs)
    assoc [] = refl
    assoc (x ∷ xs) = ap (λ (ys : List (Option ℕ)). x ∷ ys) (assoc xs)

    long : (xs : List (Option ℕ)) → length (xs ++ (r ∷ [])) ≡ suc (length xs)
    long [] = refl
    long (x ∷ xs) = ap suc (long xs)

pub owns_row : (s : ℕ) (v : Value) (count : ℕ) → length (references v) ≡ count → Owns s v (drops_from s 0 count) (references v)
owns_row s v count e = record {
  dropping = λ slots f. subst (λ (k : ℕ). Dropping slots (drops_from s 0 k) (references v)) e (row_dropping slots s v [] (references v) f
      refl);
  within = touch_row s 0 count;
  names = λ n. refl;
}

pub owns_none : (s : ℕ) (v : Value) → ((n : ℕ) → among n (references v) ≡ 0) → Owns s v [] []
owns_none s v e = record { dropping = λ slots f. none; within = tt; names = e }

-- ---- values as ones of a type

none_there : (rs : List (Option ℕ)) → is_some rs ≡ false → length rs ≡ 0
none_there [] e = refl
none_there (r ∷ rs) e = absurd cc

no_length : (rs : List (Option ℕ)) → length rs ≡ 0 → rs ≡ []
no_length [] e = refl
no_length (r ∷ rs) e = absurd (omega arith)

pub no_references : (defs : List Def) (t : Ty) (v : Value) → refers defs t ≡ false → references (fitted defs t v) ≡ []
no_references defs t v e =
    no_length (references (fitted defs t v)) (kinds_are_static.values defs t v nothing ∙ none_there (references (zero_of defs t)) e)

pub counted : (defs : List Def) (t : Ty) (v : Value) → length (references (fitted defs t v)) ≡ count_of defs t
counted defs t v = kinds_are_static.values defs t v nothing

owns_either : (b : Bool) (defs : List Def) (t : Ty) (s : ℕ) (v : Value) → refers defs t ≡ b
    → Owns s (fitted defs t v) (drops_if b (drops_from s 0 (count_of defs t))) (references (fitted defs t v))
owns_either true defs t s v e = owns_row s (fitted defs t v) (count_of defs t) (counted defs t v)
owns_either false defs t s v e =
    let f = no_references defs t v e in
    subst (Owns s (fitted defs t v) []) (sym f) (owns_none s (fitted defs t v) (λ n. ap (among n) f))

pub owns_fitted : (defs : List Def) (t : Ty) (s : ℕ) (v : Value)
    → Owns s (fitted defs t v) (drops_if (refers defs t) (drops_from s 0 (count_of defs t))) (references (fitted defs t v))
owns_fitted defs t s v = owns_either (refers defs t) defs t s v refl

-- What names nothing names nothing as a value of a type.
module _ (n : ℕ) (adt : ℕ → Value → Value)
    (adts : (k : ℕ) (v : Value) → among n (references v) ≡ 0 → among n (references (adt k v)) ≡ 0) where
  first_none : (vs : Values) → among n (all_references vs) ≡ 0 → among n (references (first_in vs)) ≡ 0
  first_none NoValues e = refl
  first_none (MoreValues v vs) e = let a = among_join n (references v) (all_references vs) in omega arith

  rest_none : (vs : Values) → among n (all_references vs) ≡ 0 → among n (all_references (rest_in vs)) ≡ 0
  rest_none NoValues e = refl
  rest_none (MoreValues v vs) e = let a = among_join n (references v) (all_references vs) in omega arith

  name_none : (v : Value) → among n (references v) ≡ 0 → among n (references (Ref (name_of v))) ≡ 0
  name_none (Num z) e = refl
  name_none (Chars s) e = refl
  name_none (Ref r) e = e
  name_none (Array p) e = refl
  name_none (Parts vs) e = refl

  part_none : (v : Value) → among n (references v) ≡ 0 → among n (references (Array (part_of v))) ≡ 0
  part_none (Num z) e = refl
  part_none (Chars s) e = refl
  part_none (Ref r) e = refl
  part_none (Array p) e = e
  part_none (Parts vs) e = refl

  parts_none : (v : Value) → among n (references v) ≡ 0 → among n (all_references (parts_of v)) ≡ 0
  parts_none (Num z) e = refl
  parts_none (Chars s) e = refl
  parts_none (Ref r) e = refl
  parts_none (Array p) e = refl
  parts_none (Parts vs) e = e

  mutual
    formed_none : (t : Ty) (v : Value) → among n (references v) ≡ 0 → among n (references (formed adt t v)) ≡ 0
    formed_none ty.Byte v e = refl
    formed_none ty.Int v e = refl
    formed_none ty.Big v e = refl
    formed_none ty.Chars v e = refl
    formed_none ty.Nothing v e = refl
    formed_none ty.Nil v e = name_none v e
    formed_none (ty.ArrayOf t) v e = part_none v e
    formed_none (ty.ListOf t) v e = name_none v e
    formed_none (ty.ChanOf t) v e = name_none v e
    formed_none (ty.Tuple ts) v e = all_none ts (parts_of v) (parts_none v e)
    formed_none (ty.Adt k) v e = adts k v e
    formed_none (ty.RefAdt k) v e = name_none v e
    formed_none (ty.RefPick k j) v e = name_none v e
    formed_none (ty.Module k) v e = name_none v e

    all_none : (ts : Tys) (vs : Values) → among n (all_references vs) ≡ 0 → among n (all_references (all_formed adt ts vs)) ≡ 0
    all_none NoTys vs e = refl
    all_none (MoreTys t ts) vs e =
        let a = among_join n (references (formed adt t (first_in vs))) (all_references (all_formed adt ts (rest_in vs))) in
        let b = formed_none t (first_in vs) (first_none vs e) in
        let c = all_none ts (rest_in vs) (rest_none vs e) in
        omega arith

  def_none : (o : Option Def) (v : Value) → among n (references v) ≡ 0
      → among n (references (by_def (formed adt) (all_formed adt) o v)) ≡ 0
  def_none None v e = refl
  def_none (Some d) v e = all_none (tys_of (parts d)) (parts_of v) (parts_none v e)

adt_none : (n : ℕ) (defs : List Def) (depth k : ℕ) (v : Value) → among n (references v) ≡ 0
    → among n (references (adt_formed defs depth k v)) ≡ 0
adt_none n defs zero k v e = refl
adt_none n defs (suc d) k v e = def_none n (adt_formed defs d) (adt_none n defs d) (slice_get defs k) v e

pub fitted_none : (n : ℕ) (defs : List Def) (t : Ty) (v : Value) → among n (references v) ≡ 0
    → among n (references (fitted defs t v)) ≡ 0
fitted_none n defs t v e = formed_none n (adt_formed defs (length defs)) (adt_none n defs (length defs)) t v e

-- ---- nodes that give a value into a slot of their own

-- What the instruction gives is what the step of the tree comes to, of which this is left then; or both raise.
pub data Both (defs : List Def) (t : Ty) (into : ℕ) (own : List Instr) (left : Value → Term) : Progress Value Term → Progress Value Term
    → Type 0 where
  gave : (m : Memory) (v : Value) (got : List (Option ℕ)) → Owns into v own got → Fits defs t v
      → Both defs t into own left (Stepped m got (Evaluated v)) (Stepped m got (left v))
  raised : (text : List ℕ) → Both defs t into own left (Raises text) (Raises text)

-- Works whose values go into a slot of their own by one instruction.
abbrev pub Gives : Work → Type 0
Gives (Literal c) = Unit {0}
Gives Nil = Unit {0}
Gives (Operate o) = passes_on o ≡ false
Gives (Read w) = Unit {0}
Gives (Sprint ps) = Unit {0}
Gives _ = ⊥

module _ (defs : List Def) (m : Memory) (t : Ty) (into : ℕ) where
  abbrev own : Work → List Instr
  own o = drops_if (work_refers defs t o) (drops_from into 0 (count_of defs t))

  constant_none : (c : Constant) (n : ℕ) → among n (references (constant_value c)) ≡ 0
  constant_none (constant.Number z) n = refl
  constant_none (constant.Chars s) n = refl

  operates : (o : Operation) (b : Bool) (r : Raising Outcome) → passes_on o ≡ b → b ≡ false
      → Both defs t into (drops_if (if b then false else refers defs t) (drops_from into 0 (count_of defs t))) Evaluated
      (unless_raised r (leaves defs m t o)) (unless_raised r (leaves defs m t o))
  operates o true r e f = absurd cc
  operates o false (Ok r) e f =
      let v = fitted defs t r.value in
      let g : got_by o v ≡ references v = ap (λ (c : Bool). if c then [] else references v) e in
      subst (λ (got : List (Option ℕ)). Both defs t into (drops_if (refers defs t) (drops_from into 0 (count_of defs t))) Evaluated
      (Stepped r.memory got (Evaluated v)) (Stepped r.memory got (Evaluated v))) (sym g)
      (gave r.memory v (references v) (owns_fitted defs t into r.value) (inl (r.value, refl)))
  operates o false (Err text) e f = raised text

  reads : (r : Raising Value) → Both defs t into (drops_if (refers defs t) (drops_from into 0 (count_of defs t))) Evaluated
      (unless_raised r (gets defs m t)) (unless_raised r (gets defs m t))
  reads (Ok v) = gave m (fitted defs t v) (references (fitted defs t v)) (owns_fitted defs t into v) (inl (v, refl))
  reads (Err text) = raised text

  prints_into : (r : Raising (List ℕ)) → Both defs t into [] Evaluated
      (unless_raised r (λ text. passes defs m t (Chars text))) (unless_raised r (λ text. passes defs m t (Chars text)))
  prints_into (Ok text) = gave m (fitted defs t (Chars text)) [] (owns_none into _ (λ n. fitted_none n defs t (Chars text) refl))
      (inl (Chars text, refl))
  prints_into (Err text) = raised text

  pub given : (o : Work) (vs : List Value) → Gives o → Both defs t into (own o) Evaluated (performed defs m t o vs)
      (performed defs m t o vs)
  given (Literal c) vs g =
      gave m (fitted defs t (constant_value c)) [] (owns_none into _ (λ n. fitted_none n defs t (constant_value c) (constant_none c n)))
      (inl (constant_value c, refl))
  given Nil vs g = gave m (fitted defs t nothing) [] (owns_none into _ (λ n. fitted_none n defs t nothing refl)) (inl (nothing, refl))
  given (Operate o) vs g = operates o (passes_on o) (result_of defs m t o vs) refl g
  given (Read w) vs g = reads (read m (record { type = t; way = w; operands = vs }))
  given (Sprint ps) vs g = prints_into (not_longer (formatted ps vs))
  given _ vs g = absurd g

module _ (limit : ℕ) (program : Program) where
  pub give_goes : (C : Term → Block) → Carries limit program (next program.adts) fill C → (g : Frame) (held : List (Option ℕ)) (u : Term)
      (t : Ty) (o : Work) (into : ℕ) (from : List ℕ) (own : List Instr) (left : Value → Term)
      → slice_get g.code g.pc ≡ Some (Give t o into from) → Room g.slots into (suc into) held
      → ((w : Shared) → Both program.adts t into own left (performed program.adts (memory_of w g) t o (values_of g.slots from))
      (next program.adts (memory_of w g) u)) → Behind limit program t g into (suc into) into (suc g.pc) own held (λ v. C (left v))
      → Going limit program g held (C u)
  give_goes C c g held u t o into from own left i room both k =
      obeying (Give t o into from) room.names i
      (λ w. by w (performed program.adts (memory_of w g) t o (values_of g.slots from)) (next program.adts (memory_of w g) u) refl refl
      (both w))
    where
      by : (w : Shared) (pm ps : Progress Value Term) → performed program.adts (memory_of w g) t o (values_of g.slots from) ≡ pm
          → next program.adts (memory_of w g) u ≡ ps → Both program.adts t into own left pm ps → Next limit program w g held (C u)
          (Give t o into from)
      by w pm ps em es (gave m v got owns fit) =
          goes m (suc g.pc) (put g.slots into (Holds v)) (held ++ got) (C (left v))
          (λ n below p. ap (λ x. machine.gives limit (code_of program) w (coded n g below p) into x) em)
          (λ n below. c.steps w g held n below m got u (left v) es)
          (let h = holding_put g.slots into v own got (let a = room.fits in omega arith) owns in
          k g.into m.variables (put g.slots into (Holds v)) v got (held ++ got) h
          (put_same g.slots into (Holds v) (let a = room.fits in omega arith)) (omega arith, omega arith, fit) refl)
      by w pm ps em es (raised text) =
          raises text
          (λ n below p. ap (λ x. machine.gives limit (code_of program) w (coded n g below p) into x) em)
          (λ n below. c.raises w g held n below text u es)
