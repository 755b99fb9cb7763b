-- What follows of the cause, from where each cause comes.
use Rattle.std.proofs.Common.{◌≡◌, ◌≤◌, ℕ, List, ◌⊎◌, inl, inr, refl, subst, sym, ◌∙◌, true, false, arith}
use Rattle.std.specs.Prelude.{Option, Some, None}
use Rattle.inf_ports.specs.Outside.{Told, Lacks, Rose}
use Rattle.limbo_typed.specs.Typed.{Module}
use Rattle.inferno_top.specs.Reading.{IsRead, IsUnread, IsFaulty, IsWanted, HasClashAt}
use Rattle.inferno_top.specs.Outcome.{Course, HasProgram, IsAccepted, IsCause, IsEndUnlessMemory, IsRefusal, IsRunEnd, IsSinkFault}
use Rattle.inferno_top.specs.Outcome.{IsUnlessMemory, TellsProgram}
use Rattle.inferno_command.specs.Words.{named_file}
use Rattle.inferno_top.specs.declared.cause.Aim.TheVariants.{Run}
use Rattle.inferno_top.specs.declared.cause.Cause.{Cause}
use Rattle.inferno_top.specs.declared.cause.Cause.TheVariants.{Done, Broke, Usage, BadSource, Clashing, BadObject, Limit, Host, SinkFault}
use Rattle.inferno_top.specs.declared.cause.Cause.TheVariants.{NoMemory}
use Rattle.inferno_top.proofs.Endings as ended
use Rattle.inferno_top.proofs.Endings.{Ended}
use Rattle.inferno_top.proofs.Trees.{Laws}

-- closing keeps the cause, or it is want of memory
pub closed : (c : Course) (before after : Cause) → IsCause c before → (after ≡ before) ⊎ (after ≡ NoMemory) → IsCause c after
closed c before after is (inl same) = let P : Cause → Type 0 = λ x. IsCause c x in subst P (sym same) is
closed c before after is (inr memory) = let P : Cause → Type 0 = λ x. IsCause c x in subst P (sym memory) tt

-- the words name one file at most
one_file : (words : List (List ℕ)) (a b : List ℕ) → named_file words ≡ Some a → named_file words ≡ Some b → a ≡ b
one_file words a b first second = let same : Some a ≡ Some b = sym first ∙ second in cc

no_file : {A : Type 0} (words : List (List ℕ)) (a : List ℕ) → named_file words ≡ None → named_file words ≡ Some a → A
no_file words a none some = let same : None ≡ Some a = sym none ∙ some in cc

-- a count that has risen has risen still when it is higher
pub risen_further : (before now later : ℕ) → now ≤ later → Rose before now → Rose before later
risen_further before now later up rose = omega arith

-- why a program was not run is why the file that the words name was not read
of_refusal : (words : List (List ℕ)) (told : Told) (before after : ℕ) (cause : Cause) → IsRefusal words told before after cause
    → (file : List ℕ) → named_file words ≡ Some file → IsUnread Run told file before after cause
of_refusal words told before after (BadSource other fault) is file named =
    subst (λ (z : List ℕ). IsFaulty Run told z other fault) (one_file words is.0 file is.1 named) is.2
of_refusal words told before after (Clashing c) is file named =
    subst (λ (z : List ℕ). HasClashAt Run told z c) (one_file words is.0 file is.1 named) is.2
of_refusal words told before after (Host path true) is file named =
    let at = one_file words path file is.0 named in (at, subst (λ (z : List ℕ). Lacks told z) at is.1)
of_refusal words told before after (Host path false) is file named =
    (subst (λ (z : List ℕ). IsWanted told z path) (one_file words is.0 file is.1 named) is.2, is.3)
of_refusal words told before after NoMemory is file named = tt
of_refusal words told before after Usage is file named = no_file words file is named
of_refusal words told before after Done is file named = absurd is
of_refusal words told before after (Broke broken) is file named = absurd is
of_refusal words told before after (Limit quanta) is file named = absurd is
of_refusal words told before after (SinkFault out err) is file named = absurd is
of_refusal words told before after (BadObject other fault) is file named = absurd is

-- the file that the words name was read as a program, or not
of_program : (c : Course) (a : HasProgram c.words c.told) (file : List ℕ) → named_file c.words ≡ Some file
    → (m : Module) × IsRead Run c.told file m
of_program c a file named = (
  a.program,
  subst (λ (z : List ℕ). IsRead Run c.told z a.program) (one_file c.words a.file file a.accepted.named named) a.accepted.read,
)

pub of_cause : (c : Course) (cause : Cause) → IsCause c cause → (file : List ℕ) → named_file c.words ≡ Some file
    → Ended Run c.told file c.files_before c.files_after cause
of_cause c Done is file named = inl (of_program c is.0 file named)
of_cause c (Broke broken) is file named = inl (of_program c is.0 file named)
of_cause c (Limit quanta) is file named = inl (of_program c is.0 file named)
of_cause c (SinkFault out err) is file named = inl (of_program c is.0 file named)
of_cause c (BadSource other fault) is file named =
    inr (of_refusal c.words c.told c.files_before c.files_after (BadSource other fault) is file named)
of_cause c (Clashing clash) is file named =
    inr (of_refusal c.words c.told c.files_before c.files_after (Clashing clash) is file named)
of_cause c (Host path true) is file named =
    inr (of_refusal c.words c.told c.files_before c.files_after (Host path true) is file named)
of_cause c (Host path false) is file named =
    inr (of_refusal c.words c.told c.files_before c.files_after (Host path false) is file named)
of_cause c NoMemory is file named = inr tt
of_cause c Usage is file named = no_file c.words file is named
of_cause c (BadObject other fault) is file named = absurd is

-- a told program isn't refused, but for want of memory
pub unrefused : Laws → (words : List (List ℕ)) (told : Told) (before after : ℕ) (cause : Cause) (program : Module)
    → IsRefusal words told before after cause → TellsProgram Run words told program → (Rose before after → ⊥) → cause ≡ NoMemory
unrefused laws words told before after cause program is t calm =
    ended.unrefused Run told t.file before after t.source t.tells laws calm program t.built cause
    (of_refusal words told before after cause is t.file t.named)

-- a told program ends by itself where no count rises, unless memory runs out
pub ends : Laws → (c : Course) (cause : Cause) → IsCause c cause → (program : Module) → TellsProgram Run c.words c.told program → (Rose
    c.files_before c.files_after → ⊥) → (Rose c.out_before c.out_after → ⊥) → (Rose c.err_before c.err_after → ⊥) → IsEndUnlessMemory
    cause
ends laws c Done is program t calm quiet silent = tt
ends laws c (Broke broken) is program t calm quiet silent = tt
ends laws c (Limit quanta) is program t calm quiet silent = tt
ends laws c Usage is program t calm quiet silent =
    subst IsEndUnlessMemory (sym (unrefused laws c.words c.told c.files_before c.files_after Usage program is t calm)) tt
ends laws c (BadSource file fault) is program t calm quiet silent =
    subst IsEndUnlessMemory
    (sym (unrefused laws c.words c.told c.files_before c.files_after (BadSource file fault) program is t calm)) tt
ends laws c (Clashing clash) is program t calm quiet silent =
    subst IsEndUnlessMemory
    (sym (unrefused laws c.words c.told c.files_before c.files_after (Clashing clash) program is t calm)) tt
ends laws c (BadObject file fault) is program t calm quiet silent = absurd is
ends laws c (Host path missing) is program t calm quiet silent =
    subst IsEndUnlessMemory
    (sym (unrefused laws c.words c.told c.files_before c.files_after (Host path missing) program is t calm)) tt
ends laws c (SinkFault out err) is program t calm quiet silent =
    elim is.3 [
      | inl rose ↦ absurd (quiet (let P : ℕ → Type 0 = λ x. Rose c.out_before x in subst P is.1 rose))
      | inr rose ↦ absurd (silent (risen_further c.err_before err c.err_after is.2 rose))
    ]
ends laws c NoMemory is program t calm quiet silent = tt

-- the closing line changes no cause, whatever it does to the count of `err`
pub later_cause : (c : Course) (after : ℕ) (cause : Cause) → c.err_after ≤ after → IsCause c cause → IsCause (record c {
  err_after = after;
}) cause
later_cause c after Done up is = (is.0, (is.1.0, omega (arith, is.1.1), is.1.2))
later_cause c after (Broke broken) up is = (is.0, (is.1.0, omega (arith, is.1.1), is.1.2))
later_cause c after (Limit quanta) up is = (is.0, (is.1.0, omega (arith, is.1.1), is.1.2))
later_cause c after Usage up is = is
later_cause c after (BadSource file fault) up is = is
later_cause c after (Clashing clash) up is = is
later_cause c after (BadObject file fault) up is = is
later_cause c after (Host path true) up is = is
later_cause c after (Host path false) up is = is
later_cause c after (SinkFault out err) up is = (is.0, is.1, omega arith, is.3)
later_cause c after NoMemory up is = tt

-- the accepted program is the one that the told program is, in the same file
pub same_program : Laws → (words : List (List ℕ)) (told : Told) (program : Module) (t : TellsProgram Run words told program) (file : List ℕ)
    (m : Module) → IsAccepted words told file m → (file ≡ t.file) × (m ≡ program)
same_program laws words told program t file m a =
    let here : file ≡ t.file = one_file words file t.file a.named t.named in (
      here,
      ended.same_read Run told t.file 0 0 t.source t.tells laws program m t.built
          (subst (λ (z : List ℕ). IsRead Run told z m) here a.read),
    )

-- how the run of an accepted program ends is a cause
pub run_cause : (c : Course) (cause : Cause) → HasProgram c.words c.told → IsRunEnd c.out_before c.out_after c.err_after cause →
    c.err_before ≡ c.err_after → IsCause c cause
run_cause c Done program end same = (
  program,
  (
    c.err_after,
    omega arith,
    (
      end.0,
      (let P : ℕ → Type 0 = λ n. Rose n c.err_after → ⊥ in
          subst P (sym same) end.1),
    ),
  ),
)
run_cause c (Broke broken) program end same = (
  program,
  (
    c.err_after,
    omega arith,
    (
      end.0,
      (let P : ℕ → Type 0 = λ n. Rose n c.err_after →
          ⊥ in subst P (sym same) end.1),
    ),
  ),
)
run_cause c (Limit quanta) program end same = (
  program,
  (
    c.err_after,
    omega arith,
    (
      end.0,
      (let P : ℕ → Type 0 = λ n. Rose n c.err_after →
          ⊥ in subst P (sym same) end.1),
    ),
  ),
)
run_cause c Usage program end same = absurd end
run_cause c (BadSource other fault) program end same = absurd end
run_cause c (Clashing clash) program end same = absurd end
run_cause c (BadObject other fault) program end same = absurd end
run_cause c (Host path missing) program end same = absurd end
run_cause c (SinkFault out err) program end same = (
  program,
  end.0,
  omega (arith, end.1),
  elim end.2 [
    | inl rose ↦ inl (let P : ℕ → Type 0 = λ n. Rose c.out_before n in subst P (sym end.0) rose)
    | inr rose ↦ inr (let P : ℕ → Type 0 = λ n. Rose n err in subst P (sym same) (let Q : ℕ → Type 0 = λ n. Rose c.err_after n in subst Q
        (sym end.1) rose))
  ],
)
run_cause c NoMemory program end same = tt

-- where a count of output rose, a told program ends so, unless memory ran out
pub failed : Laws → (c : Course) (cause : Cause) → IsCause c cause → (program : Module) → TellsProgram Run c.words c.told program → (Rose
    c.files_before c.files_after → ⊥) → Rose c.out_before c.out_after → IsSinkFault cause ⊎ (cause ≡ NoMemory)
failed laws c Done is program t calm rose = absurd (is.1.2.0 rose)
failed laws c (Broke broken) is program t calm rose = absurd (is.1.2.0 rose)
failed laws c (Limit quanta) is program t calm rose = absurd (is.1.2.0 rose)
failed laws c Usage is program t calm rose = inr (unrefused laws c.words c.told c.files_before c.files_after Usage program is t calm)
failed laws c (BadSource other fault) is program t calm rose =
    inr (unrefused laws c.words c.told c.files_before c.files_after (BadSource other fault) program is t calm)
failed laws c (Clashing clash) is program t calm rose =
    inr (unrefused laws c.words c.told c.files_before c.files_after (Clashing clash) program is t calm)
failed laws c (BadObject other fault) is program t calm rose = absurd is
failed laws c (Host path missing) is program t calm rose =
    inr (unrefused laws c.words c.told c.files_before c.files_after (Host path missing) program is t calm)
failed laws c (SinkFault out err) is program t calm rose = inl tt
failed laws c NoMemory is program t calm rose = inr refl

-- words that name no file are refused
pub usage : (c : Course) (cause : Cause) → IsCause c cause → named_file c.words ≡ None → IsUnlessMemory cause Usage
usage c Done is none = no_file c.words is.0.file none is.0.accepted.named
usage c (Broke broken) is none = no_file c.words is.0.file none is.0.accepted.named
usage c (Limit quanta) is none = no_file c.words is.0.file none is.0.accepted.named
usage c (SinkFault out err) is none = no_file c.words is.0.file none is.0.accepted.named
usage c Usage is none = inl refl
usage c (BadSource file fault) is none = no_file c.words is.0 none is.1
usage c (Clashing clash) is none = no_file c.words is.0 none is.1
usage c (BadObject file fault) is none = absurd is
usage c (Host path true) is none = no_file c.words path none is.0
usage c (Host path false) is none = no_file c.words is.0 none is.1
usage c NoMemory is none = inr refl
