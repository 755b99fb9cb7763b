-- What is written is the written form, or the refusal of the first number that doesn't fit.
use Rattle.std.proofs.Common.{◌≡◌, ◌⊎◌, ℕ, List, [], ◌∷◌, ◌++◌, Result, Ok, Err, refl, sym, ap}
use Rattle.std.proofs.Common.{◌∙◌, inl, inr, append_assoc}
use Rattle.std.proofs.lemmas.List.{append-nil}
use Rattle.std.specs.Prelude.{IfOk, IfErr}
use Rattle.std.specs.List.{flat_map}
use Rattle.dis_file.specs.declared.object.Object.{Object}
use Rattle.dis_format.specs.declared.fault.FileFault.{FileFault}
use Rattle.dis_format.specs.declared.fault.FileFault.TheVariants.{NoMemory, BadOperand}
use Rattle.dis_format.specs.Answers.{OrNoMemory}
use Rattle.dis_format.specs.Parts.{Part, written, object_parts}
use Rattle.dis_format.specs.Objects.{written_form}
use Rattle.dis_format.specs.Writing.{put_all, write_of, Writes, AllFit, IsFirstMisfit, IsMisfit}
use Rattle.dis_format.proofs.Shortest as format
use Rattle.dis_writing.proofs.Steps.{put_all-append}

pub is_written : {X : Type 0} (view : X → List ℕ) (o : Object) (r : Result X FileFault) → Writes view r (write_of o)
    → IfOk r (λ x. view x ≡ written_form o)
is_written view o (Ok x) h = (format.whole o (view x) h).1
is_written view o (Err e) h = tt

pub all_fit : {X : Type 0} (view : X → List ℕ) (o : Object) (r : Result X FileFault) → Writes view r (write_of o)
    → IfOk r (λ _. AllFit (object_parts o))
all_fit view o (Ok x) h = (format.whole o (view x) h).0
all_fit view o (Err e) h = tt

pub fitting : {X : Type 0} (view : X → List ℕ) (o : Object) (r : Result X FileFault) → AllFit (object_parts o)
    → Writes view r (write_of o) → IfErr r (λ e. e ≡ NoMemory)
fitting view o (Ok x) fit h = tt
fitting view o (Err NoMemory) fit h = refl
fitting view o (Err (BadOperand at)) fit h = let w = format.written_so o fit in absurd cc
fitting view o (Err _) fit h = absurd h

pub misfit : {X : Type 0} (view : X → List ℕ) (o : Object) (r : Result X FileFault) → Writes view r (write_of o)
    → IfErr r (λ e. (e ≡ NoMemory) ⊎ IsMisfit o e)
misfit view o (Ok x) h = tt
misfit view o (Err NoMemory) h = inl refl
misfit view o (Err (BadOperand at)) h = inr (at, (refl, format.misfit o at h))
misfit view o (Err _) h = absurd h

put_fits : (out : List ℕ) (parts : List Part) → AllFit parts → put_all out parts ≡ Ok (out ++ flat_map written parts)
put_fits out [] h = ap Ok (sym (append-nil out))
put_fits out (part ∷ parts) h =
    rw h.0 (put_fits (out ++ written part) parts h.1 ∙ ap Ok (append_assoc out (written part) (flat_map written parts)))

-- Writing stops at the first part that doesn't fit.
stops : (parts : List Part) (at : ℕ) → IsFirstMisfit parts at → put_all [] parts ≡ Err at
stops parts at m =
    rw (m.parts_are, put_all-append [] m.before (m.part ∷ m.after), put_fits [] m.before m.before_fit, m.misfit)
    (ap Err (sym m.place))

pub refused : {X : Type 0} (view : X → List ℕ) (o : Object) (r : Result X FileFault) (at : ℕ)
    → IsFirstMisfit (object_parts o) at → Writes view r (write_of o) → OrNoMemory r (Err (BadOperand at))
refused view o (Ok x) at m h = let s = stops (object_parts o) at m in absurd cc
refused view o (Err NoMemory) at m h = inr refl
refused view o (Err (BadOperand place)) at m h =
    let s = stops (object_parts o) at m in
    let same : place ≡ at = cc in inl (ap (λ (n : ℕ). Err (BadOperand n)) same)
refused view o (Err _) at m h = absurd h
