-- What follows of a compiled file, from what it leaves.
use Rattle.std.proofs.Common.{◌≡◌, ◌≤◌, ℕ, List, ◌++◌, ◌∷◌, [], ◌⊎◌, inl, inr, refl, subst, sym, ap, ◌∙◌, true, false, arith}
use Rattle.std.specs.Prelude.{Option, Some, None}
use Rattle.inf_ports.specs.Outside.{Told, Stands, AnythingStands, Rose}
use Rattle.dis_file.specs.declared.object.Object.{Object}
use Rattle.dis_format.specs.Objects.{Spells, written_form}
use Rattle.dis_format.proofs.Whole.{one_object}
use Rattle.dis_format.proofs.Shortest as shortest
use Rattle.limbo_typed.specs.Typed.{Module}
use Rattle.dis_meaning.specs.Opening.{StringsSpell}
use Rattle.code_sim.specs.Keeps.{object_for}
use Rattle.dis_machine.specs.declared.event.Journal.{Journal}
use Rattle.limbo_compiler.proofs.Means.{journals_mean}
use Rattle.limbo_command.specs.Write as write
use Rattle.limbo_command.proofs.Unchanged.{untouched}
use Rattle.limbo_command.specs.declared.command.WriteEnd.{WriteEnd}
use Rattle.limbo_command.specs.declared.command.WriteEnd.TheVariants as end
use Rattle.inferno_top.specs.Compiling.{IsObjectFile, RunsMean, IsStored, IsUnstored, IsLeft, HasCompiled, IsObjectWritten, write_cause}
use Rattle.inferno_command.specs.Words.{compiled_file, IsGoOrNone}
use Rattle.inferno_command.proofs.Words.{named_go}
use Rattle.inferno_top.specs.Outcome.{AsksFor, Course, IsCause, TellsProgram}
use Rattle.inferno_top.specs.Reading.{IsRead, IsUnread}
use Rattle.inferno_top.specs.Running.{IsMade}
use Rattle.inferno_top.specs.declared.cause.Aim.{Aim}
use Rattle.inferno_top.specs.declared.cause.Aim.TheVariants.{Run, Write}
use Rattle.inferno_top.specs.declared.cause.Cause.{Cause}
use Rattle.inferno_top.specs.declared.cause.Cause.TheVariants.{Done, Broke, Usage, BadSource, Clashing, BadObject, Limit, Host, SinkFault}
use Rattle.inferno_top.specs.declared.cause.Cause.TheVariants.{NoMemory}
use Rattle.inferno_top.proofs.Endings as ended
use Rattle.inferno_top.proofs.Endings.{Ended}
use Rattle.inferno_top.proofs.Exact.{of_cause}
use Rattle.inferno_top.proofs.Trees.{Laws}

-- the written form of a module's object is an object file of it
object_file : (m : Module) (o : Object) → IsMade Write m o → IsObjectFile m (written_form o)
object_file m o made =
    let spelled : Spells (object_for m) (written_form o) =
    subst (λ (x : Object). Spells x (written_form o)) made.same (shortest.spelled o made.valid) in
    record {
      written = ap written_form made.same;
      spelled = spelled;
      means = λ p spells. subst (RunsMean m) (sym (one_object p (object_for m) (written_form o) spells spelled))
          (λ init first begins journal cut t reaches.
          journals_mean m made.has.part made.has.within.frames (subst StringsSpell made.same made.spelled) init first begins journal cut t reaches);
    }

-- ---- what is left after the write, and before it

module _ (old new : Told) (file out : List ℕ) (before now : ℕ) where
  pub unread_left : (cause : Cause) → IsUnread Write old file before now cause → new ≡ old → IsLeft old new file out before now cause
  unread_left (BadSource other fault) is same = (is, same)
  unread_left (Clashing c) is same = (is, same)
  unread_left (Host path true) is same = (is, same)
  unread_left (Host path false) is same = inr (is, same)
  unread_left NoMemory is same = untouched old new out same
  unread_left Done is same = absurd is
  unread_left (Broke broken) is same = absurd is
  unread_left Usage is same = absurd is
  unread_left (BadObject other fault) is same = absurd is
  unread_left (Limit quanta) is same = absurd is
  unread_left (SinkFault o e) is same = absurd is

  pub written_left : (middle : ℕ) (m : Module) (o : Object) (e : WriteEnd) (cause : Cause) → before ≤ middle → IsRead Write old file m
      → IsMade Write m o → write.IsLeft old new out (written_form o) middle now e → (cause ≡ write_cause out e) ⊎ (cause ≡ NoMemory)
      → IsLeft old new file out before now cause
  written_left middle m o end.Done cause l read made left (inl told) =
      subst (IsLeft old new file out before now) (sym told)
      (m, read, record { bytes = written_form o; stands = left; object = object_file m o made })
  written_left middle m o end.Failed cause l read made left (inl told) =
      let rose : Rose before now = omega (arith, l, left.1) in
      subst (IsLeft old new file out before now) (sym told)
      (inl (record { program = m; read = read; told = refl; left = left.0; rose = rose }))
  written_left middle m o end.NoMemory cause l read made left (inl told) = subst (IsLeft old new file out before now) (sym told) left
  written_left middle m o end.Done cause l read made left (inr memory) =
      subst (IsLeft old new file out before now) (sym memory) (Some (written_form o), left)
  written_left middle m o end.Failed cause l read made left (inr memory) =
      subst (IsLeft old new file out before now) (sym memory) left.0
  written_left middle m o end.NoMemory cause l read made left (inr memory) =
      subst (IsLeft old new file out before now) (sym memory) left

  -- ---- the end

  -- whatever was done, memory may run out behind it
  forgets : (cause : Cause) → IsLeft old new file out before now cause → AnythingStands old new out
  forgets Done is = (Some is.2.bytes, is.2.stands)
  forgets (Host path false) (inl u) = u.left
  forgets (Host path false) (inr r) = untouched old new out r.1
  forgets (Host path true) is = untouched old new out is.1
  forgets NoMemory is = is
  forgets (BadSource other fault) is = untouched old new out is.1
  forgets (Clashing c) is = untouched old new out is.1
  forgets (Broke broken) is = untouched old new out is.1
  forgets Usage is = untouched old new out is.1
  forgets (BadObject other fault) is = untouched old new out is.1
  forgets (Limit quanta) is = untouched old new out is.1
  forgets (SinkFault o e) is = untouched old new out is.1

  closed_left : (cause last : Cause) → IsLeft old new file out before now cause → (last ≡ cause) ⊎ (last ≡ NoMemory)
      → IsLeft old new file out before now last
  closed_left cause last is (inl same) = subst (IsLeft old new file out before now) (sym same) is
  closed_left cause last is (inr memory) = subst (IsLeft old new file out before now) (sym memory) (forgets cause is)

  pub closed : (journal : Option Journal) (objects : List (List ℕ × Object)) (held_before held_after : Option (List ℕ))
      (cause last : Cause) → HasCompiled old new file out before now journal objects held_before held_after cause
      → (last ≡ cause) ⊎ (last ≡ NoMemory) → HasCompiled old new file out before now journal objects held_before held_after last
  closed journal objects held_before held_after cause last h same =
      record { ran = h.ran; left = closed_left cause last h.left same }

  -- ---- what the cause says

  pub of_left : (cause : Cause) → IsLeft old new file out before now cause → Ended Write old file before now cause
  of_left Done is = inl (is.0, is.1)
  of_left (Host path false) (inl u) = inl (u.program, u.read)
  of_left (Host path false) (inr r) = inr r.0
  of_left (Host path true) is = inr is.0
  of_left NoMemory is = inr tt
  of_left (BadSource other fault) is = inr is.0
  of_left (Clashing c) is = inr is.0
  of_left (Broke broken) is = inr is.0
  of_left Usage is = inr is.0
  of_left (BadObject other fault) is = inr is.0
  of_left (Limit quanta) is = inr is.0
  of_left (SinkFault o e) is = inr is.0

-- ---- a program that is told

module _ (laws : Laws) (words : List (List ℕ)) (old new : Told) (m : Module) (t : TellsProgram Write words old m) (before now : ℕ)
    (calm : Rose before now → ⊥) where
  unread : (cause : Cause) → IsUnread Write old t.file before now cause → IsObjectWritten old new t.named.0 m cause
  unread cause is =
      subst (IsObjectWritten old new t.named.0 m)
      (sym (ended.unrefused Write old t.file before now t.source t.tells laws calm m t.built cause is)) tt

  pub written : (cause : Cause) → IsLeft old new t.file t.named.0 before now cause → IsObjectWritten old new t.named.0 m cause
  written Done is =
      subst (IsStored old new t.named.0)
      (ended.same_read Write old t.file before now t.source t.tells laws m is.0 t.built is.1) is.2
  written (Host path false) (inl u) = absurd (calm u.rose)
  written (Host path false) (inr r) = unread (Host path false) r.0
  written (Host path true) is = unread (Host path true) is.0
  written NoMemory is = tt
  written (BadSource other fault) is = unread (BadSource other fault) is.0
  written (Clashing c) is = unread (Clashing c) is.0
  written (Broke broken) is = absurd is.0
  written Usage is = absurd is.0
  written (BadObject other fault) is = absurd is.0
  written (Limit quanta) is = absurd is.0
  written (SinkFault o e) is = absurd is.0

-- ---- words that ask for a source, to run it or to write its object

pub ended_for : (aim : Aim) (c : Course) (new : Told) (cause : Cause) (file : List ℕ) → AsksFor aim c.words file
    → (IsGoOrNone c.words → IsCause c cause)
    → ((from to : List ℕ) → compiled_file c.words ≡ Some (from, to) → IsLeft c.told new from to c.files_before c.files_after cause)
    → Ended aim c.told file c.files_before c.files_after cause
ended_for Run c new cause file named run left = of_cause c cause (run (named_go c.words file named)) file named
ended_for Write c new cause file named run left =
    of_left c.told new file named.0 c.files_before c.files_after cause (left file named.0 named.1)
