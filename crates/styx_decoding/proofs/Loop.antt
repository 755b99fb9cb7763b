-- Reading items one after the other, as a loop does.
use Rattle.std.proofs.Common.{◌≡◌, ℕ, suc, ◌-◌, ◌+◌, ◌≤◌, ◌<◌, List, [], ◌∷◌, ◌++◌, Some, None, refl}
use Rattle.std.proofs.Common.{sym, ap, ◌∙◌, append_assoc, arith}
use Rattle.std.proofs.lemmas.List.{append-nil}
use Rattle.styx_msg.specs.declared.fault.StyxFault.{StyxFault}
use Rattle.styx_msg.specs.declared.fault.StyxFault.TheVariants.{NoMemory, BadSize, BadType, BadBody, TooLong}
use Rattle.styx_msg.specs.Answers.{FailsAs}
use Rattle.inf_text.specs.Options.{◌>>=◌}
use Rattle.styx_decoding.specs.Reading.{Read, items_at}

-- what was read before, and what is still read
abbrev pub with_front : {A : Type 0} → List A → Read (List A) → Read (List A)
with_front front read = read >>= λ x. Some (front ++ x.0, x.1)

regroup : {A : Type 0} (front : List A) (a : A) (read : Read (List A))
    → with_front front (read >>= λ x. Some (a ∷ x.0, x.1)) ≡ with_front (front ++ a ∷ []) read
regroup {A} front a (Some x) = ap (λ (whole : List A). Some (whole, x.1)) (simp append_assoc)
regroup front a None = refl

pub goes_on : {A : Type 0} (item_at : List ℕ
    → Read A) (front : List A) (count i : ℕ) (bytes : List ℕ) (a : A) (after : List ℕ) (total : Read (List A))
    → i < count → item_at bytes ≡ Some (a, after)
    → with_front front (items_at item_at (count - i) bytes) ≡ total
    → with_front (front ++ a ∷ []) (items_at item_at (count - (i + 1)) after) ≡ total
unfolding items_at
goes_on item_at front count i bytes a after total lt h so_far =
    let k : count - i ≡ suc (count - (i + 1)) = omega arith in
    let one : with_front front (items_at item_at (count - i) bytes)
    ≡ with_front (front ++ a ∷ []) (items_at item_at (count - (i + 1)) after) =
    rw (k, h) (regroup front a (items_at item_at (count - (i + 1)) after)) in
    sym one ∙ so_far

nothing : {A : Type 0} (item_at : List ℕ
    → Read A) (front : List A) (count i : ℕ) (bytes : List ℕ) (total : Read (List A)) → i < count
    → item_at bytes ≡ None
    → with_front front (items_at item_at (count - i) bytes) ≡ total → total ≡ None
unfolding items_at
nothing item_at front count i bytes total lt h so_far =
    let k : count - i ≡ suc (count - (i + 1)) = omega arith in
    let one : with_front front (items_at item_at (count - i) bytes) ≡ None = rw (k, h) refl in
    sym so_far ∙ one

pub ends : {A : Type 0} (item_at : List ℕ
    → Read A) (e : StyxFault) (front : List A) (count i : ℕ) (bytes : List ℕ) (total : Read (List A))
    → i < count → FailsAs BadBody e (item_at bytes)
    → with_front front (items_at item_at (count - i) bytes) ≡ total → FailsAs BadBody e total
ends item_at NoMemory front count i bytes total lt h so_far = tt
ends item_at BadSize front count i bytes total lt h so_far = h
ends item_at BadType front count i bytes total lt h so_far = h
ends item_at BadBody front count i bytes total lt h so_far =
    (refl, nothing item_at front count i bytes total lt h.1 so_far)
ends item_at TooLong front count i bytes total lt h so_far = absurd cc

pub is_done : {A : Type 0} (item_at : List ℕ
    → Read A) (front : List A) (count i : ℕ) (bytes : List ℕ) (total : Read (List A)) → count ≤ i
    → with_front front (items_at item_at (count - i) bytes) ≡ total → total ≡ Some (front, bytes)
unfolding items_at
is_done {A} item_at front count i bytes total le so_far =
    let k : count - i ≡ 0 = omega arith in
    let one : with_front front (items_at item_at (count - i) bytes) ≡ Some (front, bytes) =
    rw k (ap (λ (whole : List A). Some (whole, bytes)) (append-nil front)) in
    sym so_far ∙ one
