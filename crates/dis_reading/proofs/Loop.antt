-- Reading items one after the other, as a loop does.
use Rattle.std.proofs.Common.{◌≡◌, ℕ, suc, ◌-◌, ◌+◌, ◌≤◌, ◌<◌, List, [], ◌∷◌, ◌++◌, Ok, Err, refl}
use Rattle.std.proofs.Common.{sym, ap, ◌∙◌, append_assoc, arith}
use Rattle.std.proofs.lemmas.List.{append-nil}
use Rattle.dis_file.specs.declared.types.TypeDesc.{TypeDesc}
use Rattle.dis_format.specs.declared.fault.ReadFault.{ReadFault}
use Rattle.dis_format.specs.declared.fault.ReadFault.TheVariants.{NoMemory, Refused}
use Rattle.inf_text.specs.Steps.{◌>>=◌}
use Rattle.dis_format.specs.Reading.{Read, FailsAs, many, type_at, types_at}
use Rattle.dis_reading.specs.Body.{with_front}

pub regroup : {A : Type 0} (front : List A) (a : A) (read : Read (List A))
    → with_front front (read >>= λ x. Ok (a ∷ x.0, x.1)) ≡ with_front (front ++ a ∷ []) read
regroup {A} front a (Ok x) = ap (λ (whole : List A). Ok (whole, x.1)) (simp append_assoc)
regroup front a (Err e) = refl

pub goes_on : {A : Type 0} (item_at : List ℕ
    → Read A) (front : List A) (count i : ℕ) (bytes : List ℕ) (a : A) (after : List ℕ) (total : Read (List A))
    → i < count → item_at bytes ≡ Ok (a, after)
    → with_front front (many item_at (count - i) bytes) ≡ total
    → with_front (front ++ a ∷ []) (many item_at (count - (i + 1)) after) ≡ total
unfolding many
goes_on item_at front count i bytes a after total lt h so_far =
    let k : count - i ≡ suc (count - (i + 1)) = omega arith in
    let one : with_front front (many item_at (count - i) bytes)
    ≡ with_front (front ++ a ∷ []) (many item_at (count - (i + 1)) after) =
    rw (k, h) (regroup front a (many item_at (count - (i + 1)) after)) in
    sym one ∙ so_far

pub ends : {A : Type 0} (item_at : List ℕ
    → Read A) (e : ReadFault) (front : List A) (count i : ℕ) (bytes : List ℕ) (total : Read (List A))
    → i < count → FailsAs e (item_at bytes)
    → with_front front (many item_at (count - i) bytes) ≡ total → FailsAs e total
unfolding many
ends item_at NoMemory front count i bytes total lt h so_far = tt
ends item_at (Refused r) front count i bytes total lt h so_far =
    let k : count - i ≡ suc (count - (i + 1)) = omega arith in
    let one : with_front front (many item_at (count - i) bytes) ≡ Err r = rw (k, h) refl in
    sym so_far ∙ one

pub is_done : {A : Type 0} (item_at : List ℕ
    → Read A) (front : List A) (count i : ℕ) (bytes : List ℕ) (total : Read (List A)) → count ≤ i
    → with_front front (many item_at (count - i) bytes) ≡ total → total ≡ Ok (front, bytes)
unfolding many
is_done {A} item_at front count i bytes total le so_far =
    let k : count - i ≡ 0 = omega arith in
    let one : with_front front (many item_at (count - i) bytes) ≡ Ok (front, bytes) =
    rw k (ap (λ (whole : List A). Ok (whole, bytes)) (append-nil front)) in
    sym so_far ∙ one

-- the same for types, which are numbered

pub type_goes_on : (data_size : ℕ) (front : List TypeDesc) (count i : ℕ) (bytes : List ℕ) (a : TypeDesc)
    (after : List ℕ) (total : Read (List TypeDesc)) → i < count → type_at data_size i bytes ≡ Ok (a, after)
    → with_front front (types_at data_size i (count - i) bytes) ≡ total
    → with_front (front ++ a ∷ []) (types_at data_size (i + 1) (count - (i + 1)) after) ≡ total
unfolding types_at
type_goes_on data_size front count i bytes a after total lt h so_far =
    let k : count - i ≡ suc (count - (i + 1)) = omega arith in
    let next : i + 1 ≡ suc i = omega arith in
    let one : with_front front (types_at data_size i (count - i) bytes)
    ≡ with_front (front ++ a ∷ []) (types_at data_size (suc i) (count - (i + 1)) after) =
    rw (k, h) (regroup front a (types_at data_size (suc i) (count - (i + 1)) after)) in
    ap (λ (n : ℕ). with_front (front ++ a ∷ []) (types_at data_size n (count - (i + 1)) after)) next ∙ sym one ∙ so_far

pub type_ends : (data_size : ℕ) (e : ReadFault) (front : List TypeDesc) (count i : ℕ) (bytes : List ℕ)
    (total : Read (List TypeDesc)) → i < count → FailsAs e (type_at data_size i bytes)
    → with_front front (types_at data_size i (count - i) bytes) ≡ total → FailsAs e total
unfolding types_at
type_ends data_size NoMemory front count i bytes total lt h so_far = tt
type_ends data_size (Refused r) front count i bytes total lt h so_far =
    let k : count - i ≡ suc (count - (i + 1)) = omega arith in
    let one : with_front front (types_at data_size i (count - i) bytes) ≡ Err r = rw (k, h) refl in
    sym so_far ∙ one

pub type_is_done : (data_size : ℕ) (front : List TypeDesc) (count i : ℕ) (bytes : List ℕ)
    (total : Read (List TypeDesc)) → count ≤ i
    → with_front front (types_at data_size i (count - i) bytes) ≡ total → total ≡ Ok (front, bytes)
unfolding types_at
type_is_done data_size front count i bytes total le so_far =
    let k : count - i ≡ 0 = omega arith in
    let one : with_front front (types_at data_size i (count - i) bytes) ≡ Ok (front, bytes) =
    rw k (ap (λ (whole : List TypeDesc). Ok (whole, bytes)) (append-nil front)) in
    sym so_far ∙ one
